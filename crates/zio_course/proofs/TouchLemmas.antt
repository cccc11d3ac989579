-- What requests that ended do to the bound names doesn't depend on their order, where no two of them change one name.
use Rattle.std.proofs.Common.{◌≡◌, ℕ, List, [], ◌∷◌, Bool, true, false, ◌&&◌, not, cond, Option, Some, None, bytes_eq, refl, sym, ap, ◌∙◌, subst, inl, inr, ◌⊎◌}
use Rattle.std.proofs.lemmas.Slice.Eq.{bytes_eq-Decides}
use Rattle.std.specs.List.{AllByRecursion}
use Rattle.zio_types.specs.declared.error.Errno.{Errno}
use Rattle.zio_script.specs.declared.script.Request.{Request}
use Rattle.zio_script.specs.declared.script.Work.{Work}
use Rattle.zio_script.specs.declared.script.Work.TheVariants.{Null, Read, Write, Free, Claim}
use Rattle.zio_script.specs.Accepted.{NameApart}
use Rattle.zio_script.specs.Requests.{kind_of, name_of, names_it}
use Rattle.zio_script.specs.Whys.{clashes, is_read, may_share}
use Rattle.zio_gang.specs.declared.tree.Tree.{Tree}
use Rattle.zio_gang.specs.Attempts.{Ended}
use Rattle.zio_gang.specs.Rounds.{Bound, block_of, bound_after, bound_by, bound_unless}
use Rattle.zio_course.proofs.AdmittedLemmas.{not_both}
use Rattle.zio_course.proofs.SortLemmas.{IsOneOf, all_one, one_all}
use Rattle.zio_course.proofs.ToldLemmas.{bind_if, unbind_if}

-- ---- what a request makes of a name

-- a block that it makes, where it makes one
abbrev pub made_if : Option Tree → Option (Option Tree)
made_if None = None
made_if (Some tree) = Some (Some tree)

-- the block or none that a request without error makes of a name, if it changes that
abbrev pub touch_by : Work → Option Tree → List ℕ → Option (Option Tree)
touch_by Null tree name = None
touch_by (Read n prio) tree name = None
touch_by (Write n sum copies prio body) tree name = cond (bytes_eq n name) (made_if tree) None
touch_by (Free n) tree name = cond (bytes_eq n name) (Some None) None
touch_by (Claim n pointer) tree name = cond (bytes_eq n name) (made_if tree) None

abbrev pub touch_unless : Option Errno → Ended → List ℕ → Option (Option Tree)
touch_unless None e name = touch_by e.request.work e.tree name
touch_unless (Some error) e name = None

-- the same of a request that ended
abbrev pub touch : List ℕ → Ended → Option (Option Tree)
touch name e = touch_unless e.error e name

abbrev touched : Option (Option Tree) → Option Tree → Option Tree
touched None before = before
touched (Some after) before = after

touched_made : (b : Bool) (tree : Tree) (before : Option Tree) → cond b (Some tree) before ≡ touched (cond b (Some (Some tree)) None) before
touched_made true tree before = refl
touched_made false tree before = refl

touched_none : (b : Bool) (before : Option Tree) → before ≡ touched (cond b None None) before
touched_none true before = refl
touched_none false before = refl

touched_out : (b : Bool) (before : Option Tree) → cond b None before ≡ touched (cond b (Some None) None) before
touched_out true before = refl
touched_out false before = refl

by_touched : (work : Work) (tree : Option Tree) (bound : Bound) (name : List ℕ) → block_of (bound_by work tree bound) name ≡ touched (touch_by work tree name) (block_of bound name)
by_touched Null tree bound name = refl
by_touched (Read n prio) tree bound name = refl
by_touched (Write n sum copies prio body) None bound name = touched_none (bytes_eq n name) (block_of bound name)
by_touched (Write n sum copies prio body) (Some tree) bound name =
    bind_if (bytes_eq n name) n name tree bound refl ∙ touched_made (bytes_eq n name) tree (block_of bound name)
by_touched (Free n) tree bound name = unbind_if (bytes_eq n name) n name bound refl ∙ touched_out (bytes_eq n name) (block_of bound name)
by_touched (Claim n pointer) None bound name = touched_none (bytes_eq n name) (block_of bound name)
by_touched (Claim n pointer) (Some tree) bound name =
    bind_if (bytes_eq n name) n name tree bound refl ∙ touched_made (bytes_eq n name) tree (block_of bound name)

unless_touched : (error : Option Errno) (e : Ended) (bound : Bound) (name : List ℕ)
    → block_of (bound_unless error e bound) name ≡ touched (touch_unless error e name) (block_of bound name)
unless_touched None e bound name = by_touched e.request.work e.tree bound name
unless_touched (Some error) e bound name = refl

-- ---- all that ended

-- none of them changes the name
pub after_untouched : (es : List Ended) (bound : Bound) (name : List ℕ) → AllByRecursion (λ (e : Ended). touch name e ≡ None) es
    → block_of (bound_after es bound) name ≡ block_of bound name
after_untouched [] bound name none = refl
after_untouched (e ∷ es) bound name none =
    after_untouched es (bound_unless e.error e bound) name none.1
    ∙ (unless_touched e.error e bound name ∙ ap (λ (t : Option (Option Tree)). touched t (block_of bound name)) none.0)

-- each leaves the name, or makes this of it
abbrev pub AreAgreed : List ℕ → Option Tree → List Ended → Type 0
AreAgreed name after es = AllByRecursion (λ (e : Ended). (touch name e ≡ None) ⊎ (touch name e ≡ Some after)) es

stays_so : (es : List Ended) (bound : Bound) (name : List ℕ) (after : Option Tree) → AreAgreed name after es → block_of bound name ≡ after
    → block_of (bound_after es bound) name ≡ after
stays_so [] bound name after agreed is = is
stays_so (e ∷ es) bound name after agreed is =
    stays_so es (bound_unless e.error e bound) name after agreed.1 (unless_touched e.error e bound name ∙ go agreed.0)
  where
    go : (touch name e ≡ None) ⊎ (touch name e ≡ Some after) → touched (touch name e) (block_of bound name) ≡ after
    go (inl none) = ap (λ (t : Option (Option Tree)). touched t (block_of bound name)) none ∙ is
    go (inr some) = ap (λ (t : Option (Option Tree)). touched t (block_of bound name)) some

pub becomes : (es : List Ended) (bound : Bound) (name : List ℕ) (after : Option Tree) (e : Ended) → AreAgreed name after es → IsOneOf e es → touch name e ≡ Some after
    → block_of (bound_after es bound) name ≡ after
becomes [] bound name after e agreed at some = absurd at
becomes (x ∷ es) bound name after e agreed (inl same) some =
    let own : touch name x ≡ Some after = ap (touch name) same ∙ some in
    stays_so es (bound_unless x.error x bound) name after agreed.1
    (unless_touched x.error x bound name ∙ ap (λ (t : Option (Option Tree)). touched t (block_of bound name)) own)
becomes (x ∷ es) bound name after e agreed (inr at) some = becomes es (bound_unless x.error x bound) name after e agreed.1 at some

-- some request changes the name
pub record Toucher (name : List ℕ) (es : List Ended) : Type 0 where
  pub ended : Ended
  pub after : Option Tree
  pub at : IsOneOf ended es
  pub makes : touch name ended ≡ Some after

pub first_toucher : (name : List ℕ) (es : List Ended) → AllByRecursion (λ (e : Ended). touch name e ≡ None) es ⊎ Toucher name es
first_toucher name [] = inl tt
first_toucher name (e ∷ es) = go (touch name e) refl (first_toucher name es)
  where
    go : (t : Option (Option Tree)) → touch name e ≡ t → AllByRecursion (λ (x : Ended). touch name x ≡ None) es ⊎ Toucher name es
        → AllByRecursion (λ (x : Ended). touch name x ≡ None) (e ∷ es) ⊎ Toucher name (e ∷ es)
    go (Some after) is rest = inr (record { ended = e; after = after; at = inl refl; makes = is })
    go None is (inl none) = inl (is, none)
    go None is (inr t) = inr (record { ended = t.ended; after = t.after; at = inr t.at; makes = t.makes })

-- any two that change the name make the same of it
abbrev pub TouchAlike : List ℕ → List Ended → Type 0
TouchAlike name es = (e f : Ended) (a b : Option Tree) → IsOneOf e es → IsOneOf f es → touch name e ≡ Some a → touch name f ≡ Some b → a ≡ b

pub agreed_by : (name : List ℕ) (es fs : List Ended) (e : Ended) (after : Option Tree) → TouchAlike name es → IsOneOf e es → touch name e ≡ Some after
    → AllByRecursion (λ (f : Ended). IsOneOf f es) fs → AreAgreed name after fs
agreed_by name es fs e after alike at some among =
    all_one (λ (f : Ended). (touch name f ≡ None) ⊎ (touch name f ≡ Some after)) fs
    (λ f here. go f (touch name f) refl (one_all (λ (x : Ended). IsOneOf x es) f fs among here))
  where
    go : (f : Ended) (t : Option (Option Tree)) → touch name f ≡ t → IsOneOf f es → (touch name f ≡ None) ⊎ (touch name f ≡ Some after)
    go f None is there = inl is
    go f (Some other) is there = inr (is ∙ ap Some (alike f e other after there at is some))

-- The same requests, in whatever order, make the same of names that agree before.
pub after_same : (es fs : List Ended) (a b : Bound) (name : List ℕ) → TouchAlike name es → AllByRecursion (λ (f : Ended). IsOneOf f es) fs
    → AllByRecursion (λ (e : Ended). IsOneOf e fs) es → block_of a name ≡ block_of b name → block_of (bound_after es a) name ≡ block_of (bound_after fs b) name
after_same es fs a b name alike among back same = go (first_toucher name es)
  where
    go : AllByRecursion (λ (e : Ended). touch name e ≡ None) es ⊎ Toucher name es → block_of (bound_after es a) name ≡ block_of (bound_after fs b) name
    go (inl none) =
        after_untouched es a name none
        ∙ (same ∙ sym (after_untouched fs b name (all_one (λ (f : Ended). touch name f ≡ None) fs
        (λ f here. one_all (λ (x : Ended). touch name x ≡ None) f es none (one_all (λ (x : Ended). IsOneOf x es) f fs among here)))))
    go (inr t) =
        becomes es a name t.after t.ended (agreed_by name es es t.ended t.after alike t.at t.makes (all_one (λ (x : Ended). IsOneOf x es) es (λ x at. at))) t.at t.makes
        ∙ sym (becomes fs b name t.after t.ended (agreed_by name es fs t.ended t.after alike t.at t.makes among) (one_all (λ (x : Ended). IsOneOf x fs) t.ended es back t.at) t.makes)

-- ---- requests that are apart by names

-- the request changes this name
pub record Changes (work : Work) (name : List ℕ) : Type 0 where
  pub own : List ℕ
  pub names : name_of work ≡ Some own
  pub is : bytes_eq own name ≡ true
  pub reads : is_read (kind_of work) ≡ false

pub change_if : (b : Bool) (t : Option (Option Tree)) (after : Option Tree) → cond b t None ≡ Some after → b ≡ true
change_if true t after e = refl
change_if false t after e = absurd (let no = e in cc)

change_by : (work : Work) (tree : Option Tree) (name : List ℕ) (after : Option Tree) → touch_by work tree name ≡ Some after → Changes work name
change_by Null tree name after e = absurd (let no = e in cc)
change_by (Read n prio) tree name after e = absurd (let no = e in cc)
change_by (Write n sum copies prio body) tree name after e =
    record { own = n; names = refl; is = change_if (bytes_eq n name) (made_if tree) after e; reads = refl }
change_by (Free n) tree name after e = record { own = n; names = refl; is = change_if (bytes_eq n name) (Some None) after e; reads = refl }
change_by (Claim n pointer) tree name after e =
    record { own = n; names = refl; is = change_if (bytes_eq n name) (made_if tree) after e; reads = refl }

pub changes : (e : Ended) (name : List ℕ) (after : Option Tree) → touch name e ≡ Some after → Changes e.request.work name
changes e name after is = go e.error refl
  where
    go : (error : Option Errno) → e.error ≡ error → Changes e.request.work name
    go None none = change_by e.request.work e.tree name after (sym (ap (λ (o : Option Errno). touch_unless o e name) none) ∙ is)
    go (Some x) some = absurd (let no = sym (ap (λ (o : Option Errno). touch_unless o e name) some) ∙ is in cc)

pub not_shared : (apart other : Bool) → (not apart && false && other) ≡ false
not_shared true other = refl
not_shared false other = refl

-- two requests that change one name clash
clash : (apart : Bool) (v w : Work) (name : List ℕ) → Changes v name → Changes w name → clashes apart v w ≡ true
clash apart v w name c d =
    let same : c.own ≡ d.own = (bytes_eq-Decides c.own name).0 c.is ∙ sym ((bytes_eq-Decides d.own name).0 d.is) in
    let names : names_it (name_of v) (name_of w) ≡ true =
    ap (λ (o : Option (List ℕ)). names_it o (name_of w)) c.names ∙ (ap (λ (o : Option (List ℕ)). names_it (Some c.own) o) d.names ∙ (bytes_eq-Decides c.own d.own).1 same) in
    let shares : may_share apart v w ≡ false = ap (λ (b : Bool). not apart && b && is_read (kind_of w)) c.reads ∙ not_shared apart (is_read (kind_of w)) in
    ap (λ (b : Bool). b && not (may_share apart v w)) names ∙ ap (λ (b : Bool). true && not b) shares

-- two of these requests are one, or don't clash
pub two_apart : (apart : Bool) (rs : List Request) (q r : Request) → NameApart apart rs → IsOneOf q rs → IsOneOf r rs
    → (q ≡ r) ⊎ ((clashes apart q.work r.work ≡ false) ⊎ (clashes apart r.work q.work ≡ false))
two_apart apart [] q r names at here = absurd at
two_apart apart (x ∷ rs) q r names (inl a) (inl b) = inl (sym a ∙ b)
two_apart apart (x ∷ rs) q r names (inl a) (inr b) =
    inr (inr (subst (λ (y : Request). clashes apart r.work y.work ≡ false) a (one_all (λ (y : Request). clashes apart y.work x.work ≡ false) r rs names.0 b)))
two_apart apart (x ∷ rs) q r names (inr a) (inl b) =
    inr (inl (subst (λ (y : Request). clashes apart q.work y.work ≡ false) b (one_all (λ (y : Request). clashes apart y.work x.work ≡ false) q rs names.0 a)))
two_apart apart (x ∷ rs) q r names (inr a) (inr b) = two_apart apart rs q r names.1 a b

-- Where each that ended is told by its request, and the requests are apart by names, they make the same of a name.
pub apart_alike : (apart : Bool) (rs : List Request) (es : List Ended) (name : List ℕ) → NameApart apart rs → AllByRecursion (λ (e : Ended). IsOneOf e.request rs) es
    → ((e f : Ended) → IsOneOf e es → IsOneOf f es → e.request ≡ f.request → e ≡ f) → TouchAlike name es
apart_alike apart rs es name names among once e f a b at here makes too =
    go (two_apart apart rs e.request f.request names (one_all (λ (x : Ended). IsOneOf x.request rs) e es among at) (one_all (λ (x : Ended). IsOneOf x.request rs) f es among here))
  where
    some_same : {X : Type 0} (x y : X) → Some x ≡ Some y → x ≡ y
    some_same x y e = cc

    go : (e.request ≡ f.request) ⊎ ((clashes apart e.request.work f.request.work ≡ false) ⊎ (clashes apart f.request.work e.request.work ≡ false)) → a ≡ b
    go (inl same) = some_same a b (sym makes ∙ (ap (touch name) (once e f at here same) ∙ too))
    go (inr (inl differs)) = not_both (clashes apart e.request.work f.request.work) (clash apart e.request.work f.request.work name (changes e name a makes) (changes f name b too)) differs
    go (inr (inr differs)) = not_both (clashes apart f.request.work e.request.work) (clash apart f.request.work e.request.work name (changes f name b too) (changes e name a makes)) differs
