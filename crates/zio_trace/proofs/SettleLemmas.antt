-- What goes again stays a family, and a round by families is the round of the flat lists.
use Rattle.std.proofs.Common.{◌≡◌, ◌≢◌, ℕ, zero, suc, ◌+◌, List, [], ◌∷◌, ◌++◌, map, Bool, true, false, ◌||◌, Option, Some, None, ◌⊎◌, inl, inr, ⊎_elim, refl, sym, ap, ◌∙◌, subst, append_assoc, append-nil}
use Rattle.std.specs.List.{AllByRecursion}
use Rattle.zio_types.specs.declared.error.Errno.{Errno}
use Rattle.zio_types.specs.Choices.{Choice}
use Rattle.zio_types.specs.declared.request.Bits.{Bits}
use Rattle.zio_types.specs.declared.request.Kind.{Kind}
use Rattle.zio_script.specs.declared.script.Failmode.{Failmode}
use Rattle.zio_script.specs.declared.script.Request.{Request}
use Rattle.zio_script.specs.Requests.{kind_of}
use Rattle.zio_cksum.specs.Images.{Images}
use Rattle.zio_cksum.proofs.AllLemmas.{all_append, all_weaker}
use Rattle.zio_gang.specs.Attempts.{Terms, Pending, Return, Child, Own, Attempt, Attempted, Settled, no_bits, joined_bits, has_bits, now_alone, bits_of, kind_bits, suspend_unless, may_fail, all_bits, closed_if, judged_own, own_work, insert_children, children_of, finished_of, attempt_with, attempt_each, settled_as, add_earlier, settled_if, settled_by, settle_from, settle}
use Rattle.zio_trace.specs.Families.{Forest, NoTrees, TreeOf, flat, Grown, Rooted, root_left, before, add_root, attempt_forest, attempt_root, NotIn, AreUnder, attempted_as}
use Rattle.zio_trace.specs.Tasks.{AllEnded, settle_left, settle_if, settle_root, settled_all}
use Rattle.zio_trace.proofs.FamilyLemmas.{root_attempted}
use Rattle.zio_trace.proofs.ListLemmas.{all_front, all_rest}

-- ---- who has no bits

or_false : (a b : Bool) → (a || b) ≡ false → (a ≡ false) × (b ≡ false)
or_false true b h = absurd (cc)
or_false false b h = (refl, h)

or_true : (a : Bool) → (a || true) ≡ false → ⊥
or_true true h = cc
or_true false h = cc

joined_quiet : (a b : Bits) → has_bits (joined_bits a b) ≡ false → (has_bits a ≡ false) × (has_bits b ≡ false)
joined_quiet a b h =
    let both = or_false (a.now || b.now) (a.suspend || b.suspend) h in
    let now = or_false a.now b.now both.0 in
    let later = or_false a.suspend b.suspend both.1 in
    (ap (λ (x : Bool). x || a.suspend) now.0 ∙ later.0, ap (λ (x : Bool). x || b.suspend) now.1 ∙ later.1)

unless_quiet : (fine : Bool) (bits : Bits) → has_bits (suspend_unless fine bits) ≡ false → has_bits bits ≡ false
unless_quiet true bits h = h
unless_quiet false bits h = absurd (or_true bits.now h)

-- a request without bits has no child with bits
children_quiet : (kind : Kind) (error : Option Errno) (canfail : Bool) (mode : Failmode) (children : Bits) → has_bits (all_bits kind error canfail mode children) ≡ false → has_bits children ≡ false
children_quiet kind None canfail mode children h = h
children_quiet kind (Some e) canfail mode children h =
    let bits : Bits = joined_bits (kind_bits kind e canfail mode) children in
    (joined_quiet (kind_bits kind e canfail mode) children (unless_quiet (may_fail kind canfail || has_bits bits) bits h)).1

-- it goes again with its own request, or it doesn'j t and has no bits
abbrev GoesOn : Pending → Bits → Attempted → Type 0
GoesOn p bits one = ((one.again ≡ []) × (has_bits bits ≡ false)) ⊎ ((q : Pending) × (one.again ≡ q ∷ []) × (q.request ≡ p.request) × (has_bits one.return.bits ≡ true))

closed_goes : (again : Bool) (p : Pending) (own : Own) (bits : Bits) (kept : List Child) → has_bits bits ≡ again → GoesOn p bits (closed_if again p own bits kept)
closed_goes true p own bits kept h = inr (record p { kept = kept }, refl, refl, h)
closed_goes false p own bits kept h = inl (refl, h)

abbrev RootGoes : Pending → List Return → Attempted → Type 0
RootGoes p returns one =
    ((one.again ≡ []) × (has_bits (bits_of returns) ≡ false))
    ⊎ ((q : Pending) × (one.again ≡ q ∷ []) × (q.request ≡ p.request) × (has_bits one.return.bits ≡ true))

judged_goes : (t : Terms) (p : Pending) (returns : List Return) (own : Own) → RootGoes p returns (judged_own t p returns own)
judged_goes t p returns own =
    let bits : Bits = all_bits (kind_of p.request.work) own.error p.request.canfail t.failmode (bits_of returns) in
    ⊎_elim (λ quiet. inl (quiet.0, children_quiet (kind_of p.request.work) own.error p.request.canfail t.failmode (bits_of returns) quiet.1)) (λ on. inr on)
    (closed_goes (has_bits bits) p own bits (insert_children (children_of (finished_of returns)) p.kept) refl)

one_goes : (j : List Choice) (t : Terms) (attempt : ℕ) (p : Pending) (returns : List Return) (images : Images) → RootGoes p returns (attempt_with j t attempt p returns images)
one_goes j t attempt p returns images =
    judged_goes t p returns (own_work j t attempt p p.request.work (map (λ (c : Child). c.pointer) (insert_children (children_of returns) p.kept)) images)

bits_append : (xs : List Return) (r : Return) → has_bits (bits_of (xs ++ r ∷ [])) ≡ false → (has_bits (bits_of xs) ≡ false) × (has_bits r.bits ≡ false)
bits_append [] r h = (refl, (joined_quiet r.bits no_bits h).0)
bits_append (x ∷ xs) r h =
    let parts = joined_quiet x.bits (bits_of (xs ++ r ∷ [])) h in
    let rest = bits_append xs r parts.1 in
    (quiet x.bits (bits_of xs) parts.0 rest.0, rest.1)
  where
    quiet : (a b : Bits) → has_bits a ≡ false → has_bits b ≡ false → has_bits (joined_bits a b) ≡ false
    quiet a b ha hb =
        let pa = or_false a.now a.suspend ha in
        let pb = or_false b.now b.suspend hb in
        ap (λ (x : Bool). (x || b.now) || (a.suspend || b.suspend)) pa.0
        ∙ ap (λ (x : Bool). x || (a.suspend || b.suspend)) pb.0
        ∙ ap (λ (x : Bool). x || b.suspend) pa.1 ∙ pb.1

-- where no root has bits nothing goes again
quiet_ends : (j : List Choice) (t : Terms) (attempt : ℕ) (f : Forest) (images : Images) → has_bits (bits_of (attempt_forest j t attempt f images).returns) ≡ false → (attempt_forest j t attempt f images).again ≡ []
quiet_ends j t attempt NoTrees images h = refl
quiet_ends j t attempt (TreeOf p kids others) images h =
    let k : Grown = attempt_forest j t attempt kids images in
    let one : Attempted = attempt_with j t attempt p k.returns k.images in
    let o : Grown = attempt_forest j t attempt others one.images in
    let both = bits_append o.returns one.return h in
    ⊎_elim
    (λ (quiet : (one.again ≡ []) × (has_bits (bits_of k.returns) ≡ false)).
    ap (λ (xs : List Pending). (xs ++ one.again) ++ o.again) (quiet_ends j t attempt kids images quiet.1)
    ∙ ap (λ (xs : List Pending). xs ++ o.again) quiet.0 ∙ quiet_ends j t attempt others one.images both.0)
    (λ (on : (q : Pending) × (one.again ≡ q ∷ []) × (q.request ≡ p.request) × (has_bits one.return.bits ≡ true)). absurd (let no : true ≡ false = sym on.3 ∙ both.1 in cc))
    (one_goes j t attempt p k.returns k.images)

-- ---- what goes again, as trees

pub flat_before : (f g : Forest) → flat (before f g) ≡ flat f ++ flat g
flat_before NoTrees g = refl
flat_before (TreeOf p kids others) g =
    ap (λ (xs : List Pending). flat kids ++ p ∷ xs) (flat_before others g) ∙ sym (append_assoc (flat kids) (p ∷ flat others) (flat g))

left_flat : (j : List Choice) (t : Terms) (attempt : ℕ) (f : Forest) (images : Images) → flat (attempt_forest j t attempt f images).left ≡ (attempt_forest j t attempt f images).again
left_flat j t attempt NoTrees images = refl
left_flat j t attempt (TreeOf p kids others) images =
    let k : Grown = attempt_forest j t attempt kids images in
    let one : Attempted = attempt_with j t attempt p k.returns k.images in
    let o : Grown = attempt_forest j t attempt others one.images in
    let root : flat (root_left one.again k.left) ≡ k.again ++ one.again =
    ⊎_elim
    (λ (quiet : (one.again ≡ []) × (has_bits (bits_of k.returns) ≡ false)).
    ap (λ (xs : List Pending). flat (root_left xs k.left)) quiet.0 ∙ sym (ap (λ (xs : List Pending). xs ++ one.again) (quiet_ends j t attempt kids images quiet.1) ∙ quiet.0))
    (λ (on : (q : Pending) × (one.again ≡ q ∷ []) × (q.request ≡ p.request) × (has_bits one.return.bits ≡ true)).
    ap (λ (xs : List Pending). flat (root_left xs k.left)) on.1 ∙ ap (λ (xs : List Pending). xs ++ on.0 ∷ []) (left_flat j t attempt kids images) ∙ ap (λ (xs : List Pending). k.again ++ xs) (sym on.1))
    (one_goes j t attempt p k.returns k.images) in
    flat_before (root_left one.again k.left) o.left ∙ ap (λ (xs : List Pending). xs ++ flat o.left) root ∙ ap (λ (xs : List Pending). (k.again ++ one.again) ++ xs) (left_flat j t attempt others one.images)

-- what holds of each request holds of those that go again
left_all : (P : Request → Type 0) (j : List Choice) (t : Terms) (attempt : ℕ) (f : Forest) (images : Images) → AllByRecursion (λ (q : Pending). P q.request) (flat f) → AllByRecursion (λ (q : Pending). P q.request) (flat (attempt_forest j t attempt f images).left)
left_all P j t attempt NoTrees images h = tt
left_all P j t attempt (TreeOf p kids others) images h =
    let k : Grown = attempt_forest j t attempt kids images in
    let one : Attempted = attempt_with j t attempt p k.returns k.images in
    let o : Grown = attempt_forest j t attempt others one.images in
    let Q : Pending → Type 0 = λ q. P q.request in
    let rest : AllByRecursion Q (p ∷ flat others) = all_rest Q (flat kids) (p ∷ flat others) h in
    let root : AllByRecursion Q (flat (root_left one.again k.left)) =
    ⊎_elim
    (λ (quiet : (one.again ≡ []) × (has_bits (bits_of k.returns) ≡ false)). subst (λ (xs : List Pending). AllByRecursion Q (flat (root_left xs k.left))) (sym quiet.0) tt)
    (λ (on : (q : Pending) × (one.again ≡ q ∷ []) × (q.request ≡ p.request) × (has_bits one.return.bits ≡ true)).
    subst (λ (xs : List Pending). AllByRecursion Q (flat (root_left xs k.left))) (sym on.1)
    (all_append Q (flat k.left) (on.0 ∷ []) (left_all P j t attempt kids images (all_front Q (flat kids) (p ∷ flat others) h)) (subst P (sym on.2) rest.0, tt)))
    (one_goes j t attempt p k.returns k.images) in
    subst (AllByRecursion Q) (sym (flat_before (root_left one.again k.left) o.left)) (all_append Q (flat (root_left one.again k.left)) (flat o.left) root (left_all P j t attempt others one.images rest.1))

left_under : (j : List Choice) (t : Terms) (attempt : ℕ) (u : Option ℕ) (f : Forest) (images : Images) → AreUnder u f → AreUnder u (attempt_forest j t attempt f images).left
left_under j t attempt u NoTrees images h = tt
left_under j t attempt u (TreeOf p kids others) images h =
    let k : Grown = attempt_forest j t attempt kids images in
    let one : Attempted = attempt_with j t attempt p k.returns k.images in
    let o : Grown = attempt_forest j t attempt others one.images in
    let rest : AreUnder u o.left = left_under j t attempt u others one.images h.2 in
    ⊎_elim
    (λ (quiet : (one.again ≡ []) × (has_bits (bits_of k.returns) ≡ false)). subst (λ (xs : List Pending). AreUnder u (before (root_left xs k.left) o.left)) (sym quiet.0) rest)
    (λ (on : (q : Pending) × (one.again ≡ q ∷ []) × (q.request ≡ p.request) × (has_bits one.return.bits ≡ true)).
    let Apart : Request → Type 0 = λ r. (u ≢ Some r.number) × (p.request.number ≢ r.number) × NotIn r.number (flat k.left) in
    let with_kids : AllByRecursion (λ (q : Pending). Apart q.request) (flat others) =
    all_weaker _ (λ (q : Pending). Apart q.request) (flat others) (λ q a. (a.0, a.1, left_all (λ (r : Request). r.number ≢ q.request.number) j t attempt kids images a.2)) h.4 in
    subst (λ (xs : List Pending). AreUnder u (before (root_left xs k.left) o.left)) (sym on.1)
    (subst (λ (r : Request). (r.under ≡ u) × AreUnder (Some r.number) k.left × AreUnder u o.left × NotIn r.number (flat k.left) × AllByRecursion (λ (q : Pending). (u ≢ Some q.request.number) × (r.number ≢ q.request.number) × NotIn q.request.number (flat k.left)) (flat o.left)) (sym on.2)
    (h.0, left_under j t attempt (Some p.request.number) kids images h.1, rest, left_all (λ (r : Request). r.number ≢ p.request.number) j t attempt kids images h.3, left_all Apart j t attempt others one.images with_kids)))
    (one_goes j t attempt p k.returns k.images)

-- ---- a tree in a round

before_none : (f : Forest) → before f NoTrees ≡ f
before_none NoTrees = refl
before_none (TreeOf p kids others) = ap (λ (x : Forest). TreeOf p kids x) (before_none others)

abbrev pub alone : List Return → Rooted → Attempt
alone returns r = record { returns = returns; ended = r.ended; again = r.again; asks = r.asks; images = r.images }

none_behind : (returns : List Return) (r : Rooted) → attempted_as returns (add_root r (record { returns = []; ended = []; again = []; left = NoTrees; asks = []; images = r.images })) ≡ alone returns r
none_behind returns r i = record { returns = returns; ended = append-nil r.ended i; again = append-nil r.again i; asks = append-nil r.asks i; images = r.images }

settle_none : (more : ℕ) (j : List Choice) (t : Terms) (attempt : ℕ) (images : Images) → settle_from more j t attempt [] images ≡ record { left = []; ended = []; asks = []; images = images }
unfolding settle_from attempt_each
settle_none zero j t attempt images = refl
settle_none (suc more) j t attempt images = refl

-- an attempt of one tree
pub alone_attempted : (j : List Choice) (t : Terms) (attempt : ℕ) (p : Pending) (kids : Forest) (images : Images) → AreUnder None (TreeOf p kids NoTrees)
    → (rest : List Return) × (attempt_each j t attempt (flat kids ++ p ∷ []) [] images ≡ alone ((attempt_root j t attempt p kids images).return ∷ rest) (attempt_root j t attempt p kids images))
alone_attempted j t attempt p kids images h =
    let r : Rooted = attempt_root j t attempt p kids images in
    let run = root_attempted j t attempt p kids images h in
    (run.0, run.1 ∙ none_behind (r.return ∷ run.0) r)

-- what goes again of it is what is left, and a tree again
pub root_flat : (j : List Choice) (t : Terms) (attempt : ℕ) (p : Pending) (kids : Forest) (images : Images) → flat (attempt_root j t attempt p kids images).left ≡ (attempt_root j t attempt p kids images).again
root_flat j t attempt p kids images =
    let r : Rooted = attempt_root j t attempt p kids images in
    ap flat (sym (before_none r.left)) ∙ left_flat j t attempt (TreeOf p kids NoTrees) images ∙ append-nil r.again

pub root_under : (j : List Choice) (t : Terms) (attempt : ℕ) (p : Pending) (kids : Forest) (images : Images) → AreUnder None (TreeOf p kids NoTrees) → AreUnder None (attempt_root j t attempt p kids images).left
root_under j t attempt p kids images h =
    subst (AreUnder None) (before_none (attempt_root j t attempt p kids images).left) (left_under j t attempt None (TreeOf p kids NoTrees) images h)

-- what goes again is the trees that are left
again_settles : (j : List Choice) (t : Terms) (r : Rooted) (kids : Forest) (returns : List Return) (on : List Pending → Images → Settled) (settle : Pending → Forest → Images → AllEnded) (xs : List Pending)
    → ((images : Images) → on [] images ≡ record { left = []; ended = []; asks = []; images = images })
    → ((p : Pending) (ks : Forest) (images : Images) → AreUnder None (TreeOf p ks NoTrees) → on (flat ks ++ p ∷ []) images ≡ settled_all (settle p ks images))
    → flat (root_left xs kids) ≡ r.again → AreUnder None (root_left xs kids) → add_earlier (alone returns r) (on r.again r.images) ≡ settled_all (settle_left r (root_left xs kids) settle)
again_settles j t r kids returns on settle [] none step is under =
    ap (λ (ps : List Pending). add_earlier (alone returns r) (on ps r.images)) (sym is) ∙ ap (add_earlier (alone returns r)) (none r.images)
    ∙ (λ i. record { left = is i; ended = append-nil r.ended i; asks = append-nil r.asks i; images = r.images })
again_settles j t r kids returns on settle (q ∷ qs) none step is under =
    ap (λ (ps : List Pending). add_earlier (alone returns r) (on ps r.images)) (sym is) ∙ ap (add_earlier (alone returns r)) (step q kids r.images under)

if_settles : (now : Bool) (j : List Choice) (t : Terms) (r : Rooted) (kids : Forest) (returns : List Return) (on : List Pending → Images → Settled) (settle : Pending → Forest → Images → AllEnded) (xs : List Pending)
    → ((images : Images) → on [] images ≡ record { left = []; ended = []; asks = []; images = images })
    → ((p : Pending) (ks : Forest) (images : Images) → AreUnder None (TreeOf p ks NoTrees) → on (flat ks ++ p ∷ []) images ≡ settled_all (settle p ks images))
    → r.left ≡ root_left xs kids → flat r.left ≡ r.again → AreUnder None r.left → settled_if now (alone returns r) on ≡ settled_all (settle_if now r settle)
if_settles false j t r kids returns on settle xs none step shape is under = refl
if_settles true j t r kids returns on settle xs none step shape is under =
    again_settles j t r kids returns on settle xs none step (ap flat (sym shape) ∙ is) (subst (AreUnder None) shape under)
    ∙ ap (λ (f : Forest). settled_all (settle_left r f settle)) (sym shape)

pub tree_settles : (more : ℕ) (j : List Choice) (t : Terms) (attempt : ℕ) (p : Pending) (kids : Forest) (images : Images) → AreUnder None (TreeOf p kids NoTrees) → settle_from more j t attempt (flat kids ++ p ∷ []) images ≡ settled_all (settle_root more j t attempt p kids images)
unfolding settle_from
tree_settles zero j t attempt p kids images h = ap settled_as (alone_attempted j t attempt p kids images h).1
tree_settles (suc more) j t attempt p kids images h =
    let r : Rooted = attempt_root j t attempt p kids images in
    let run = alone_attempted j t attempt p kids images h in
    let k : Grown = attempt_forest j t attempt kids images in
    let one : Attempted = attempt_with j t attempt p k.returns k.images in
    ap (λ (a : Attempt). settled_by a (settle_from more j t (attempt + 1))) run.1
    ∙ if_settles (now_alone r.return.bits) j t r k.left (r.return ∷ run.0) (settle_from more j t (attempt + 1)) (settle_root more j t (attempt + 1)) one.again
    (settle_none more j t (attempt + 1)) (λ q ks now under. tree_settles more j t (attempt + 1) q ks now under) refl (root_flat j t attempt p kids images) (root_under j t attempt p kids images h)
