-- The blocks that requests of a round name, and that no two places meet of those that are to be freed.
use Rattle.std.proofs.Common.{◌≡◌, ◌≢◌, ℕ, ◌+◌, ◌≤◌, List, [], ◌∷◌, ◌++◌, map, count_by, cond, Bool, true, false, ◌&&◌, ◌==◌, not, Option, Some, None, IfSome, bytes_eq, refl, sym, ap, ◌∙◌, inl, inr, arith}
use Rattle.std.specs.List.{AllByRecursion, flat_map}
use Rattle.std.proofs.lemmas.Bool.Decides.{nat_tests}
use Rattle.std.proofs.lemmas.List.{append-nil}
use Rattle.std.proofs.lemmas.List.Sums.{sum_by-cons}
use Rattle.zio_types.specs.declared.place.Place.{Place}
use Rattle.zio_types.specs.Places.{are_apart, meets}
use Rattle.zio_script.specs.declared.script.Request.{Request}
use Rattle.zio_script.specs.declared.script.Work.{Work}
use Rattle.zio_script.specs.declared.script.Work.TheVariants.{Null, Read, Write, Free, Claim}
use Rattle.zio_script.specs.Accepted.{NameApart}
use Rattle.zio_script.specs.Requests.{name_of, names_it, needs_block}
use Rattle.zio_script.specs.Whys.{clashes, may_share}
use Rattle.zio_gang.specs.declared.tree.Tree.{Tree}
use Rattle.zio_gang.specs.Attempts.{Pending}
use Rattle.zio_gang.specs.Rounds.{block_if, pending, pending_trees}
use Rattle.zio_gang.specs.Trees.{tree_places}
use Rattle.zio_course.specs.Forests.{names_of}
use Rattle.zio_course.specs.Live.{IsLive}
use Rattle.zio_course.specs.Runners.{AreOneOrApart, AreRunnable, Standing, freed_by, joined_trees, places_of_block, rows_tell_apart}
use Rattle.zio_course.proofs.AdmittedLemmas.{not_both}
use Rattle.zio_course.proofs.ApartLemmas.{apart_both, meets_swap}
use Rattle.zio_course.proofs.DoneLemmas.{one_contains}
use Rattle.zio_course.proofs.MadeLemmas.{freed_of, one_within}
use Rattle.zio_course.proofs.SortLemmas.{IsOneOf, one_all, one_map}
use Rattle.zio_course.proofs.TouchLemmas.{not_shared}

-- the places of the block that a request is to free
abbrev own_places : Pending → List Place
own_places p = freed_by p.request.work p.block

-- the places of the blocks that frees of these trees name
abbrev pub places_to_free : List (List Pending) → List Place
places_to_free trees = flat_map own_places (joined_trees trees)

abbrev request_of : Pending → Request
request_of p = p.request

-- ---- blocks of names

-- a request has the block that its name has where it needs one
abbrev pub HasBlock : List (List ℕ × Tree) → Pending → Type 0
HasBlock bound p = p.block ≡ block_if (needs_block p.request.work) (name_of p.request.work) (names_of bound)

module _ (live : List Place) (bound : List (List ℕ × Tree)) (known : IsLive live bound) where
  pub block_apart : (block : Option Tree) → IfSome block (λ tree. are_apart (tree_places tree) ≡ true) → are_apart (places_of_block block) ≡ true
  block_apart None h = refl
  block_apart (Some tree) h = ap are_apart (append-nil (tree_places tree)) ∙ h

-- the requests of a batch have the blocks of their names
pub batch_blocks : (bound : List (List ℕ × Tree)) (birth : ℕ) (trees : List (List Request)) → AllByRecursion (HasBlock bound) (joined_trees (pending_trees (names_of bound) birth trees))
batch_blocks bound birth [] = tt
batch_blocks bound birth (tree ∷ trees) = tree_blocks tree (batch_blocks bound birth trees)
  where
    tree_blocks : (rs : List Request) → AllByRecursion (HasBlock bound) (joined_trees (pending_trees (names_of bound) birth trees))
        → AllByRecursion (HasBlock bound) (map (pending (names_of bound) birth) rs ++ joined_trees (pending_trees (names_of bound) birth trees))
    tree_blocks [] later = later
    tree_blocks (r ∷ rs) later = (refl, tree_blocks rs later)

-- ---- each number once

abbrev count_of : ℕ → List Request → ℕ
count_of n rs = count_by (λ (r : Request). r.number == n) rs

counted_more : (n : ℕ) (r : Request) (rs : List Request) → count_of n (r ∷ rs) ≡ cond {A = ℕ} (r.number == n) 1 0 + count_of n rs
counted_more n r rs = sum_by-cons (λ (q : Request). cond {A = ℕ} (q.number == n) 1 0) r rs

counts_one : (n : ℕ) (q : Request) (rs : List Request) → IsOneOf q rs → (q.number == n) ≡ true → 1 ≤ count_of n rs
counts_one n q [] at e = absurd at
counts_one n q (r ∷ rs) (inl same) e =
    let more = counted_more n r rs in
    let one : cond {A = ℕ} (r.number == n) 1 0 ≡ 1 =
    ap (λ (x : Request). cond {A = ℕ} (x.number == n) 1 0) same ∙ ap (λ (b : Bool). cond {A = ℕ} b 1 0) e in omega arith
counts_one n q (r ∷ rs) (inr at) e = let more = counted_more n r rs in let rest = counts_one n q rs at e in omega arith

same_number : (n : ℕ) → (n == n) ≡ true
same_number n = grind (arith, nat_tests)

-- a request behind one has another number
other_number : (r q : Request) (rs : List Request) → ((n : ℕ) → count_of n (r ∷ rs) ≤ 1) → IsOneOf q rs → q.number ≢ r.number
other_number r q rs once at = λ same.
    (let more = counted_more r.number r rs in
    let first : cond {A = ℕ} (r.number == r.number) 1 0 ≡ 1 = ap (λ (b : Bool). cond {A = ℕ} b 1 0) (same_number r.number) in
    let some = counts_one r.number q rs at (ap (λ n. n == r.number) same ∙ same_number r.number) in
    let few = once r.number in omega arith)

-- ---- frees

-- two frees of one name clash
frees_clash : (apart : Bool) (name other : List ℕ) → bytes_eq name other ≡ true → clashes apart (Free name) (Free other) ≡ true
frees_clash apart name other same =
    ap (λ (b : Bool). b && not (may_share apart (Free name) (Free other))) same ∙ ap (λ (b : Bool). true && not b) (not_shared apart false)

own_freed : (work : Work) (block : Option Tree) → are_apart (places_of_block block) ≡ true → are_apart (freed_by work block) ≡ true
own_freed Null block h = refl
own_freed (Read name prio) block h = refl
own_freed (Write name sum copies prio body) block h = refl
own_freed (Free name) block h = h
own_freed (Claim name pointer) block h = refl

-- the places of two requests' blocks don't meet
two_freed : (apart : Bool) (p q : Pending) (x y : Place) → clashes apart q.request.work p.request.work ≡ false → AreOneOrApart q p
    → IsOneOf x (own_places p) → IsOneOf y (own_places q) → meets x y ≡ false
two_freed apart p q x y free (inl one) at there =
    let a = freed_of p.request.work p.block x at in
    let b = freed_of q.request.work q.block y there in
    let same : bytes_eq b.0 a.0 ≡ true =
    sym (ap (λ (work : Work). names_it (name_of work) (name_of p.request.work)) b.1 ∙ ap (λ (work : Work). names_it (Some b.0) (name_of work)) a.1) ∙ one.names in
    not_both (clashes apart q.request.work p.request.work)
    (ap (λ (work : Work). clashes apart work p.request.work) b.1 ∙ (ap (clashes apart (Free b.0)) a.1 ∙ frees_clash apart b.0 a.0 same)) free
two_freed apart p q x y free (inr none) at there =
    let a = freed_of p.request.work p.block x at in
    let b = freed_of q.request.work q.block y there in
    meets_swap x y
    ∙ one_all (λ (w : Place). meets y w ≡ false) x (places_of_block p.block)
    (one_all (λ (z : Place). AllByRecursion (λ (w : Place). meets z w ≡ false) (places_of_block p.block)) y (places_of_block q.block) none b.2) a.2

all_freed : (apart : Bool) (ps : List Pending) → NameApart apart (map request_of ps) → ((n : ℕ) → count_of n (map request_of ps) ≤ 1)
    → AllByRecursion (λ (p : Pending). are_apart (places_of_block p.block) ≡ true) ps
    → ((p q : Pending) → IsOneOf p ps → IsOneOf q ps → p.request.number ≢ q.request.number → AreOneOrApart p q)
    → are_apart (flat_map own_places ps) ≡ true
all_freed apart [] names once own between = refl
all_freed apart (p ∷ ps) names once own between =
    apart_both (own_places p) (flat_map own_places ps) (own_freed p.request.work p.block own.0)
    (all_freed apart ps names.1 (λ n. let more = counted_more n p.request (map request_of ps) in let few = once n in omega arith) own.1
    (λ q r at there. between q r (inr at) (inr there)))
    (λ x y at here.
    (let w = one_within own_places ps y here in
    let there : IsOneOf w.item.request (map request_of ps) = one_map request_of w.item ps w.at in
    two_freed apart p w.item x y
    (one_all (λ (r : Request). clashes apart r.work p.request.work ≡ false) w.item.request (map request_of ps) names.0 there)
    (between w.item p (inr w.at) (inl refl) (other_number p.request w.item.request (map request_of ps) once there)) at w.there))

-- No two places meet of the blocks that the round's frees name: each names its block alone, and other blocks don't meet.
pub runnable_freed : (s : Standing) (trees : List (List Pending)) → AreRunnable s trees → are_apart (places_to_free trees) ≡ true
runnable_freed s trees h =
    all_freed (rows_tell_apart s.rows) (joined_trees trees) h.apart h.once h.own
    (λ p q at there. h.between p q (one_contains p (joined_trees trees) at) (one_contains q (joined_trees trees) there))
