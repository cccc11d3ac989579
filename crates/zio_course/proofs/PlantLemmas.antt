-- A forest with one request more.
use Rattle.std.proofs.Common.{◌≡◌, ℕ, ◌+◌, ◌<◌, ◌≤◌, List, [], ◌∷◌, ◌++◌, map, filter, reverse, length, count_by, Bool, true, false, ◌&&◌, cond, find, Option, Some, None, option_to_list, is_some, is_none, bytes_eq, eqb, eqb-true, refl, sym, ap, ◌∙◌, subst, append_assoc, arith}
use Rattle.std.proofs.lemmas.Bool.Decides.{same_from_decides, Decides-like, Decides-eqb}
use Rattle.std.proofs.lemmas.List.{map-append, reverse-append, reverse-reverse}
use Rattle.std.proofs.lemmas.List.Elements.{filter-append}
use Rattle.std.proofs.lemmas.List.Recursion.{is_count_by}
use Rattle.std.proofs.lemmas.List.Sums.{length-filter}
use Rattle.std.specs.List.{AllByRecursion}
use Rattle.std.specs.Option.{option_map}
use Rattle.zio_blkptr.specs.declared.pointer.TheConstants.{BLOCK_SIZE_MAX}
use Rattle.zio_script.specs.declared.limits.TheConstants.{CHILDREN_MAX}
use Rattle.zio_script.specs.declared.script.Item.{Item}
use Rattle.zio_script.specs.declared.script.Item.TheVariants.{Request as RequestLine, Go, Clear}
use Rattle.zio_script.specs.declared.script.Request.{Request}
use Rattle.zio_script.specs.declared.script.Work.{Work}
use Rattle.zio_script.specs.declared.script.Work.TheVariants.{Null, Read, Write, Free, Claim}
use Rattle.zio_script.specs.Accepted.{AreRising}
use Rattle.zio_script.specs.Requests.{is_under, is_under_number, kind_of, name_of, needs_block, requests_of}
use Rattle.zio_script.specs.Whys.{children_in, is_write, may_have, size_with, writes_under}
use Rattle.zio_cksum.specs.Images.{Images}
use Rattle.zio_gang.specs.declared.tree.Tree.{Tree}
use Rattle.zio_gang.specs.Attempts.{Pending}
use Rattle.zio_gang.specs.Rounds.{Binding, Bound, block_if, block_of, is_of, pending, pending_trees, trees_of}
use Rattle.zio_course.specs.Forests.{AreReady, IsForest, IsReady, add_tree_if, block_by, joined, line_runs, names_of, running, same_parent, trees_under}
use Rattle.zio_course.specs.declared.admission.Rules.{Rules}
use Rattle.zio_course.specs.Admissions.{error_in}
use Rattle.zio_course.specs.Names.{listed_in, named_in}
use Rattle.zio_course.specs.Runners.{AreRisingFrom, IsChild, IsNewTree, Standing, Stays, fresh, joined_trees, numbers_of, root_of, roots_of, tree_over}
use Rattle.zio_course.proofs.ForestLemmas.{above_apart, all_then, trees_from_back}

pub eqb_back : (a b : ℕ) → eqb a b ≡ eqb b a
eqb_back a b =
    same_from_decides (eqb a b) (eqb b a) (Decides-eqb a b)
    (Decides-like (eqb b a) (λ h. sym h) (λ h. sym h) (Decides-eqb b a))

pub map_reverse : {X Y : Type 0} (f : X → Y) (xs : List X) → map f (reverse xs) ≡ reverse (map f xs)
map_reverse f [] = refl
map_reverse f (x ∷ xs) =
    ap (map f) (reverse-append (x ∷ []) xs)
    ∙ (map-append f (reverse xs) (x ∷ [])
    ∙ (ap (λ ys. ys ++ f x ∷ []) (map_reverse f xs) ∙ sym (reverse-append (f x ∷ []) (map f xs))))

-- ---- blocks

tree_if : (b : Bool) (x : Binding) (o : Option Binding)
    → cond b (Some x.tree) (option_map (λ (y : Binding). y.tree) o) ≡ option_map (λ (y : Binding). y.tree) (cond b (Some x) o)
tree_if true x o = refl
tree_if false x o = refl

pub named_of : (name : List ℕ) (entries : List (List ℕ × Tree)) → named_in entries name ≡ block_of (names_of entries) name
named_of name [] = refl
named_of name (e ∷ es) =
    ap (λ (o : Option Tree). cond (bytes_eq e.0 name) (Some e.1) o) (named_of name es)
    ∙ tree_if (bytes_eq e.0 name) (record { name = e.0; tree = e.1 }) (find (is_of name) (names_of es))

block_is_if : (entries : List (List ℕ × Tree)) (work : Work) → block_by entries work ≡ block_if (needs_block work) (name_of work) (names_of entries)
block_is_if entries Null = refl
block_is_if entries (Read name prio) = named_of name entries
block_is_if entries (Write name sum copies prio body) = refl
block_is_if entries (Free name) = named_of name entries
block_is_if entries (Claim name pointer) = refl

fresh_is : (entries : List (List ℕ × Tree)) (birth : ℕ) (r : Request) (block : Option Tree) → block ≡ block_by entries r.work
    → fresh r birth block ≡ pending (names_of entries) birth r
fresh_is entries birth r block e =
    ap (λ (b : Option Tree). fresh r birth b) (e ∙ block_is_if entries r.work)

-- ---- trees

module _ (names : Bound) (birth : ℕ) where
  joined_pending : (trees : List (List Request)) (r : Request)
      → tree_over (pending_trees names birth trees) (pending names birth r) ≡ map (pending names birth) (joined trees ++ r ∷ [])
  joined_pending [] r = refl
  joined_pending (t ∷ trees) r =
      append_assoc (map (pending names birth) t) (joined_trees (pending_trees names birth trees)) (pending names birth r ∷ [])
      ∙ (ap (λ (ps : List Pending). map (pending names birth) t ++ ps) (joined_pending trees r)
      ∙ (sym (map-append (pending names birth) t (joined trees ++ r ∷ []))
      ∙ ap (map (pending names birth)) (sym (append_assoc t (joined trees) (r ∷ [])))))

  root_push : (ps : List Pending) (p : Pending) → root_of (ps ++ p ∷ []) ≡ Some p
  root_push [] p = refl
  root_push (q ∷ []) p = refl
  root_push (q ∷ r ∷ ps) p = root_push (r ∷ ps) p

  root_is : (front : List Request) (r : Request) → root_of (map (pending names birth) (front ++ r ∷ [])) ≡ Some (pending names birth r)
  root_is front r = ap root_of (map-append (pending names birth) front (r ∷ [])) ∙ root_push (map (pending names birth) front) (pending names birth r)

  roots_if : (b : Bool) (front : List Request) (r : Request) (trees : List (List Request)) (others : List Request)
      → roots_of (pending_trees names birth trees) ≡ others
      → roots_of (pending_trees names birth (add_tree_if b (front ++ r ∷ []) trees)) ≡ cond b (r ∷ others) others
  roots_if true front r trees others later =
      ap (λ (o : Option Pending). map (λ (p : Pending). p.request) (option_to_list o) ++ roots_of (pending_trees names birth trees)) (root_is front r)
      ∙ ap (λ (rs : List Request). r ∷ rs) later
  roots_if false front r trees others later = later

  -- the roots of the trees under a number are the requests under it
  pub roots_are : (rs : List Request) (under : Option ℕ)
      → roots_of (pending_trees names birth (trees_under rs under)) ≡ filter (λ (q : Request). same_parent q.under under) rs
  roots_are [] under = refl
  roots_are (r ∷ rs) under =
      roots_if (same_parent r.under under) (joined (trees_under rs (Some r.number))) r (trees_under rs under)
      (filter (λ (q : Request). same_parent q.under under) rs) (roots_are rs under)

  each_if : (b : Bool) (front : List Request) (r : Request) (trees : List (List Request))
      → length (roots_of (pending_trees names birth trees)) ≡ length (pending_trees names birth trees)
      → length (roots_of (pending_trees names birth (add_tree_if b (front ++ r ∷ []) trees))) ≡ length (pending_trees names birth (add_tree_if b (front ++ r ∷ []) trees))
  each_if true front r trees later =
      ap length (roots_if true front r trees (roots_of (pending_trees names birth trees)) refl) ∙ omega (arith, later)
  each_if false front r trees later = later

  pub each_root : (rs : List Request) (under : Option ℕ)
      → length (roots_of (pending_trees names birth (trees_under rs under))) ≡ length (pending_trees names birth (trees_under rs under))
  each_root [] under = refl
  each_root (r ∷ rs) under =
      each_if (same_parent r.under under) (joined (trees_under rs (Some r.number))) r (trees_under rs under) (each_root rs under)

-- ---- children

under_is : (under : Option ℕ) (n : ℕ) → same_parent under (Some n) ≡ true → under ≡ Some n
under_is None n e = absurd (let f = e in cc)
under_is (Some p) n e = ap Some (sym (eqb-true n p e))

kinds_if : (b : Bool) (r q : Request) (others : List Request) → same_parent q.under (Some r.number) ≡ b
    → (q.under ≡ Some r.number → may_have (kind_of r.work) (kind_of q.work) ≡ true)
    → AllByRecursion (IsChild r) others → AllByRecursion (IsChild r) (cond b (q ∷ others) others)
kinds_if true r q others e may later =
    let under : q.under ≡ Some r.number = under_is q.under r.number e in (record { under = under; may = may under }, later)
kinds_if false r q others e may later = later

kinds_are : (r : Request) (rs : List Request) → AllByRecursion (λ (q : Request). q.under ≡ Some r.number → may_have (kind_of r.work) (kind_of q.work) ≡ true) rs
    → AllByRecursion (IsChild r) (filter (λ (q : Request). same_parent q.under (Some r.number)) rs)
kinds_are r [] h = tt
kinds_are r (q ∷ qs) h =
    kinds_if (same_parent q.under (Some r.number)) r q (filter (λ (q : Request). same_parent q.under (Some r.number)) qs) refl h.0 (kinds_are r qs h.1)

rising_if : (b : Bool) (least : ℕ) (q : Request) (others : List Request) → least ≤ q.number → AreRisingFrom (q.number + 1) (numbers_of others)
    → AreRisingFrom least (numbers_of others) → AreRisingFrom least (numbers_of (cond b (q ∷ others) others))
rising_if true least q others low above same = (low, above)
rising_if false least q others low above same = same

pub rising_are : (P : Request → Bool) (least : ℕ) (rs : List Request) → AllByRecursion (λ (q : Request). least ≤ q.number) rs → AreRising rs
    → AreRisingFrom least (numbers_of (filter P rs))
rising_are P least [] low rising = tt
rising_are P least (q ∷ qs) low rising =
    rising_if (P q) least q (filter P qs) low.0
    (rising_are P (q.number + 1) qs (all_then (λ (x : Request). q.number < x.number) (λ (x : Request). q.number + 1 ≤ x.number) qs (λ x h. omega arith) rising.0) rising.1)
    (rising_are P least qs low.1 rising.1)

pub all_low : (rs : List Request) → AllByRecursion (λ (q : Request). 0 ≤ q.number) rs
all_low [] = tt
all_low (q ∷ qs) = (omega arith, all_low qs)

under_same : (under : Option ℕ) (n : ℕ) → same_parent under (Some n) ≡ is_under_number under n
under_same None n = refl
under_same (Some p) n = eqb_back n p

-- how many have a property
abbrev counted : (Request → Bool) → List Request → ℕ
counted p [] = 0
counted p (q ∷ qs) = cond (p q) (1 + counted p qs) (counted p qs)

counted_is : (p : Request → Bool) (rs : List Request) → counted p rs ≡ count_by p rs
counted_is p rs = is_count_by (counted p) p refl (λ q qs. refl) rs

counted_if : (W : Request → Bool) (b c : Bool) (q : Request) (others : List Request) (m : ℕ) → b ≡ c → counted W others ≡ m
    → counted W (cond b (q ∷ others) others) ≡ cond (c && W q) (1 + m) m
counted_if W true true q others m e same = ap (λ (k : ℕ). cond (W q) (1 + k) k) same
counted_if W true false q others m e same = absurd (let f = e in cc)
counted_if W false true q others m e same = absurd (let f = e in cc)
counted_if W false false q others m e same = same

counted_of : (W : Request → Bool) (n : ℕ) (rs : List Request)
    → counted W (filter (λ (q : Request). same_parent q.under (Some n)) rs) ≡ counted (λ (q : Request). is_under q n && W q) rs
counted_of W n [] = refl
counted_of W n (q ∷ qs) =
    counted_if W (same_parent q.under (Some n)) (is_under q n) q (filter (λ (q : Request). same_parent q.under (Some n)) qs)
    (counted (λ (q : Request). is_under q n && W q) qs) (under_same q.under n) (counted_of W n qs)

-- of those under the request as many have a property
counted_under : (W : Request → Bool) (n : ℕ) (rs : List Request)
    → count_by W (filter (λ (q : Request). same_parent q.under (Some n)) rs) ≡ count_by (λ (q : Request). is_under q n && W q) rs
counted_under W n rs =
    sym (counted_is W (filter (λ (q : Request). same_parent q.under (Some n)) rs))
    ∙ (counted_of W n rs ∙ counted_is (λ (q : Request). is_under q n && W q) rs)

few_of : (n : ℕ) (rs : List Request) → counted (λ (q : Request). same_parent q.under (Some n)) rs ≡ counted (λ (q : Request). is_under q n) rs
few_of n [] = refl
few_of n (q ∷ qs) =
    ap (λ (b : Bool). cond b (1 + counted (λ (q : Request). same_parent q.under (Some n)) qs) (counted (λ (q : Request). same_parent q.under (Some n)) qs)) (under_same q.under n)
    ∙ ap (λ (k : ℕ). cond (is_under q n) (1 + k) k) (few_of n qs)

few_under : (n : ℕ) (rs : List Request) → count_by (λ (q : Request). same_parent q.under (Some n)) rs ≡ children_in rs n
few_under n rs =
    sym (counted_is (λ (q : Request). same_parent q.under (Some n)) rs) ∙ (few_of n rs ∙ counted_is (λ (q : Request). is_under q n) rs)

-- ---- one request more

module _ {T : Type 0} (seen : T → List Pending) (entries : List (List ℕ × Tree)) (birth : ℕ) (r : Request) (done : List Request) where
  children_are : (taken : List T) → map seen taken ≡ reverse (pending_trees (names_of entries) birth (trees_under done (Some r.number)))
      → map seen (reverse taken) ≡ pending_trees (names_of entries) birth (trees_under done (Some r.number))
  children_are taken h =
      map_reverse seen taken ∙ (ap reverse h ∙ reverse-reverse (pending_trees (names_of entries) birth (trees_under done (Some r.number))))

  pub new_tree : (waiting : List (ℕ × List T)) (roots taken : List T) (block : Option Tree) → IsReady birth entries r done
      → IsForest seen (names_of entries) birth done waiting roots → taken ≡ listed_in waiting r.number → block ≡ block_by entries r.work
      → IsNewTree r birth block (map seen (reverse taken))
  new_tree waiting roots taken block ready forest is block_is =
      let children : List (List Pending) = pending_trees (names_of entries) birth (trees_under done (Some r.number)) in
      let same : map seen (reverse taken) ≡ children = children_are taken (ap (map seen) is ∙ forest.under r.number ready.below) in
      let under : List Request = filter (λ (q : Request). same_parent q.under (Some r.number)) done in
      let roots_is : roots_of children ≡ under = roots_are (names_of entries) birth done (Some r.number) in
      let count : length children ≡ children_in done r.number =
      sym (each_root (names_of entries) birth done (Some r.number))
      ∙ (ap length roots_is ∙ (length-filter (λ (q : Request). same_parent q.under (Some r.number)) done ∙ few_under r.number done)) in
      let writes : count_by (λ (q : Request). is_write (kind_of q.work)) (roots_of children) ≡ writes_under done r.number =
      ap (count_by (λ (q : Request). is_write (kind_of q.work))) roots_is ∙ counted_under (λ (q : Request). is_write (kind_of q.work)) r.number done in
      subst (IsNewTree r birth block) (sym same)
      (record {
        range = ready.range;
        some = ready.some;
        block_is = ap is_some block_is ∙ ready.block_is;
        each = each_root (names_of entries) birth done (Some r.number);
        kinds = subst (AllByRecursion (IsChild r)) (sym roots_is) (kinds_are r done ready.kinds);
        rising = subst (λ (rs : List Request). AreRisingFrom 0 (numbers_of rs)) (sym roots_is)
            (rising_are (λ (q : Request). same_parent q.under (Some r.number)) 0 done (all_low done) ready.rising);
        few = subst (λ (n : ℕ). n ≤ CHILDREN_MAX) (sym count) ready.few;
        size = subst (λ (n : ℕ). size_with n r.work ≤ BLOCK_SIZE_MAX) (sym writes) ready.size;
      })

  -- the request's tree
  abbrev tree_now : List Request
  tree_now = joined (trees_under done (Some r.number)) ++ r ∷ []

  pub tree_is : (waiting : List (ℕ × List T)) (roots taken : List T) (block : Option Tree) (tree : T) → IsReady birth entries r done
      → IsForest seen (names_of entries) birth done waiting roots → taken ≡ listed_in waiting r.number → block ≡ block_by entries r.work
      → seen tree ≡ tree_over (map seen (reverse taken)) (fresh r birth block) → seen tree ≡ map (pending (names_of entries) birth) tree_now
  tree_is waiting roots taken block tree ready forest is block_is made =
      made
      ∙ (ap (λ (ts : List (List Pending)). tree_over ts (fresh r birth block)) (children_are taken (ap (map seen) is ∙ forest.under r.number ready.below))
      ∙ (ap (λ (p : Pending). tree_over (pending_trees (names_of entries) birth (trees_under done (Some r.number))) p) (fresh_is entries birth r block block_is)
      ∙ joined_pending (names_of entries) birth (trees_under done (Some r.number)) r))

  pushed : (before : List T) (tree : T) (trees : List (List Request)) → map seen before ≡ reverse (pending_trees (names_of entries) birth trees)
      → seen tree ≡ map (pending (names_of entries) birth) tree_now
      → map seen (before ++ tree ∷ []) ≡ reverse (pending_trees (names_of entries) birth (tree_now ∷ trees))
  pushed before tree trees h is =
      map-append seen before (tree ∷ [])
      ∙ (ap (λ (ts : List (List Pending)). ts ++ seen tree ∷ []) h
      ∙ (ap (λ (t : List Pending). reverse (pending_trees (names_of entries) birth trees) ++ t ∷ []) is
      ∙ sym (reverse-append (map (pending (names_of entries) birth) tree_now ∷ []) (pending_trees (names_of entries) birth trees))))

  under_if : (b : Bool) (p n : ℕ) (waiting mid new : List (ℕ × List T)) (tree : T)
      → eqb p n ≡ b → eqb n p ≡ b → listed_in new n ≡ cond b (listed_in mid p ++ tree ∷ []) (listed_in mid n)
      → listed_in mid n ≡ listed_in waiting n → (eqb p n ≡ true → listed_in mid p ≡ listed_in waiting n)
      → map seen (listed_in waiting n) ≡ reverse (pending_trees (names_of entries) birth (trees_under done (Some n)))
      → seen tree ≡ map (pending (names_of entries) birth) tree_now
      → map seen (listed_in new n) ≡ reverse (pending_trees (names_of entries) birth (add_tree_if b tree_now (trees_under done (Some n))))
  under_if true p n waiting mid new tree e f put left left_p old is =
      ap (map seen) (put ∙ ap (λ (ts : List T). ts ++ tree ∷ []) (left_p e)) ∙ pushed (listed_in waiting n) tree (trees_under done (Some n)) old is
  under_if false p n waiting mid new tree e f put left left_p old is = ap (map seen) (put ∙ left) ∙ old

  left_of : (n m : ℕ) (waiting mid : List (ℕ × List T)) (b : Bool) → eqb n m ≡ b → listed_in mid m ≡ cond (eqb n m) [] (listed_in waiting m) → b ≡ false
      → listed_in mid m ≡ listed_in waiting m
  left_of n m waiting mid b e left not = left ∙ ap (λ (c : Bool). cond c [] (listed_in waiting m)) (e ∙ not)

  -- under a parent
  pub planted_child : (p : ℕ) (waiting mid new : List (ℕ × List T)) (roots : List T) (tree : T) → r.under ≡ Some p
      → IsForest seen (names_of entries) birth done waiting roots
      → ((m : ℕ) → listed_in mid m ≡ cond (eqb r.number m) [] (listed_in waiting m))
      → ((m : ℕ) → listed_in new m ≡ cond (eqb p m) (listed_in mid p ++ tree ∷ []) (listed_in mid m))
      → seen tree ≡ map (pending (names_of entries) birth) tree_now
      → IsForest seen (names_of entries) birth (r ∷ done) new roots
  planted_child p waiting mid new roots tree e forest left put is = record {
    under = λ n below.
        (let apart : eqb r.number n ≡ false = above_apart n r.number below.0 in
        let same : listed_in mid n ≡ listed_in waiting n = left_of r.number n waiting mid false apart (left n) refl in
        subst (λ (u : Option ℕ). map seen (listed_in new n) ≡ reverse (pending_trees (names_of entries) birth (add_tree_if (same_parent u (Some n)) tree_now (trees_under done (Some n))))) (sym e)
        (under_if (eqb n p) p n waiting mid new tree (eqb_back p n) refl
        (put n ∙ ap (λ (b : Bool). cond b (listed_in mid p ++ tree ∷ []) (listed_in mid n)) (eqb_back p n))
        same (λ here. ap (listed_in mid) (eqb-true p n here) ∙ same) (forest.under n below.1) is));
    none = subst (λ (u : Option ℕ). map seen roots ≡ reverse (pending_trees (names_of entries) birth (add_tree_if (same_parent u None) tree_now (trees_under done None)))) (sym e) forest.none;
  }

  -- a root
  pub planted_root : (waiting mid : List (ℕ × List T)) (roots : List T) (tree : T) → r.under ≡ None
      → IsForest seen (names_of entries) birth done waiting roots
      → ((m : ℕ) → listed_in mid m ≡ cond (eqb r.number m) [] (listed_in waiting m))
      → seen tree ≡ map (pending (names_of entries) birth) tree_now
      → IsForest seen (names_of entries) birth (r ∷ done) mid (roots ++ tree ∷ [])
  planted_root waiting mid roots tree e forest left is = record {
    under = λ n below.
        (let apart : eqb r.number n ≡ false = above_apart n r.number below.0 in
        let same : listed_in mid n ≡ listed_in waiting n = left_of r.number n waiting mid false apart (left n) refl in
        subst (λ (u : Option ℕ). map seen (listed_in mid n) ≡ reverse (pending_trees (names_of entries) birth (add_tree_if (same_parent u (Some n)) tree_now (trees_under done (Some n))))) (sym e)
        (ap (map seen) same ∙ forest.under n below.1));
    none = subst (λ (u : Option ℕ). map seen (roots ++ tree ∷ []) ≡ reverse (pending_trees (names_of entries) birth (add_tree_if (same_parent u None) tree_now (trees_under done None)))) (sym e)
        (pushed roots tree (trees_under done None) forest.none is);
  }

-- ---- the first forest, and the last

pub forest_none : {T : Type 0} (seen : T → List Pending) (names : Bound) (birth : ℕ) (waiting : List (ℕ × List T)) (roots : List T)
    → ((n : ℕ) → listed_in waiting n ≡ []) → roots ≡ [] → IsForest seen names birth [] waiting roots
forest_none seen names birth waiting roots none empty = record {
  under = λ n below. ap (map seen) (none n);
  none = ap (map seen) empty;
}

pub forest_whole : {T : Type 0} (seen : T → List Pending) (names : Bound) (birth : ℕ) (done : List Request) (waiting : List (ℕ × List T)) (roots : List T)
    → AreRising done → IsForest seen names birth done waiting roots → map seen (reverse roots) ≡ pending_trees names birth (trees_of done)
forest_whole seen names birth done waiting roots rising forest =
    map_reverse seen roots
    ∙ (ap reverse forest.none
    ∙ (reverse-reverse (pending_trees names birth (trees_under done None))
    ∙ ap (pending_trees names birth) (sym (trees_from_back done rising))))

-- ---- the requests of lines

pub requests_both : (xs ys : List Item) → requests_of (xs ++ ys) ≡ requests_of xs ++ requests_of ys
requests_both [] ys = refl
requests_both (RequestLine r ∷ xs) ys = ap (λ (rs : List Request). r ∷ rs) (requests_both xs ys)
requests_both (Go ∷ xs) ys = requests_both xs ys
requests_both (Clear ∷ xs) ys = requests_both xs ys

module _ (slots : List (ℕ × ℕ)) (rules : List Rules) where
  -- those that run in front of a line, with the line's, are those that run up to there
  pub running_split : (front : List Item) (item : Item) (done : List Request)
      → running slots rules front ++ (line_runs slots rules item ++ done) ≡ running slots rules (front ++ item ∷ []) ++ done
  running_split front item done =
      sym (append_assoc (running slots rules front) (line_runs slots rules item) done)
      ∙ ap (λ (rs : List Request). rs ++ done)
      (sym (ap (filter (λ (r : Request). is_none (error_in slots rules r.number))) (requests_both front (item ∷ []))
      ∙ filter-append (λ (r : Request). is_none (error_in slots rules r.number)) (requests_of front) (requests_of (item ∷ []))))

pub ready_back : (birth : ℕ) (bound : List (List ℕ × Tree)) (xs ys : List Request) → AreReady birth bound (xs ++ ys) → AreReady birth bound ys
ready_back birth bound [] ys h = h
ready_back birth bound (x ∷ xs) ys h = ready_back birth bound xs ys h.1

pub ready_rising : (birth : ℕ) (bound : List (List ℕ × Tree)) (rs : List Request) → AreReady birth bound rs → AreRising rs
ready_rising birth bound [] h = tt
ready_rising birth bound (r ∷ rs) h = (h.0.below, ready_rising birth bound rs h.1)

-- ---- what stays

pub stays_itself : (s : Standing) (tells : Images → Type 0) → Stays s s tells tells
stays_itself s tells = record { standing = refl; images = λ images. (λ h. h, λ h. h) }

pub stays_then : (a b c : Standing) (p q r : Images → Type 0) → Stays a b p q → Stays b c q r → Stays a c p r
stays_then a b c p q r first second = record {
  standing = second.standing ∙ first.standing;
  images = λ images. (λ h. (second.images images).0 ((first.images images).0 h), λ h. (first.images images).1 ((second.images images).1 h));
}
