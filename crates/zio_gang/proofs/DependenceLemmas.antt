-- What a round depends on: of the journal its own entries, and the used places only as a set.
use Rattle.std.proofs.Common.{◌≡◌, ℕ, zero, suc, ◌+◌, List, [], ◌∷◌, ◌++◌, length, map, Bool, true, false, ◌&&◌, not, ◌==◌, cond, filter, find, Option, Some, None, IsTrue, Contains, ◌↔◌, refl, sym, ap, subst, ◌∙◌, eqb-true, eq-eqb, nat_le}
use Rattle.std.specs.List.{list_all, AllByRecursion}
use Rattle.std.proofs.lemmas.Bool.{and_parts, and_from, true_from_ne_false, false_from_ne_true, both_ways}
use Rattle.zio_types.specs.declared.place.Place.{Place}
use Rattle.zio_types.specs.declared.error.Errno.{Errno}
use Rattle.zio_types.specs.Choices.{Ask, Choice, same_ask}
use Rattle.zio_types.specs.Places.{SamePlaces, is_free, are_open, are_apart, meets}
use Rattle.zio_blkptr.specs.declared.pointer.Bp.{Bp}
use Rattle.zio_blkptr.specs.Pointers.{pointer_of}
use Rattle.zio_cksum.specs.Headers.{split_sizes}
use Rattle.zio_cksum.specs.Images.{Images, Setting}
use Rattle.zio_cksum.proofs.AllLemmas.{all_contained, all_contains, all_weaker}
use Rattle.zio_script.specs.Bodies.{body_of}
use Rattle.zio_script.specs.Requests.{kind_of}
use Rattle.zio_script.specs.declared.script.Failmode.{Failmode}
use Rattle.zio_script.specs.declared.script.Work.{Work}
use Rattle.zio_script.specs.declared.script.Work.TheVariants.{Null, Read, Write, Free, Claim}
use Rattle.zio_gang.specs.declared.tree.Tree.{Tree}
use Rattle.zio_gang.specs.Journals.{choices_in}
use Rattle.zio_gang.specs.Trees.{Walk, claim_pointer, claim_tree, claim_visit, claimed_found, claimed_if, claimed_walk, tree_places, walk_tree}
use Rattle.zio_gang.specs.Writes.{Placed, Writing, body_ask, body_with, chosen, cut, gang_unless, gang_with, head_ask, place_block, place_part, places_chosen, content_of, without_place}
use Rattle.zio_gang.specs.Attempts.{Attempt, Attempted, Child, Own, Pending, Return, Settled, Terms, all_bits, attempt_each, attempt_one, bits_of, children_of, closed, finished_of, free_of, insert_children, judged_own, own_claim, own_work, own_write, read_of, returned_to, settle, settle_from, settled_as, settled_by, then_attempt, writing_of}
use Rattle.zio_gang.specs.Rounds.{Ran, settle_each, then_trees}

-- ---- the journal's entries of one round

same_round : (c : Choice) (ask : Ask) → same_ask c.asked ask ≡ true → c.asked.key.round ≡ ask.key.round
same_round c ask e =
    let keys = (and_parts _ _ (and_parts _ _ e).0).0 in
    eqb-true c.asked.key.round ask.key.round (and_parts _ _ (and_parts _ _ (and_parts _ _ (and_parts _ _ keys).0).0).0).1

find_step : {X : Type 0} (found kept : Bool) (x : X) (rest : Option X) (others : List X) (p : X → Bool) → p x ≡ found → (found ≡ true → kept ≡ true) → rest ≡ find p others
    → cond found (Some x) rest ≡ find p (cond kept (x ∷ others) others)
find_step true true x rest others p is h e = ap (λ (t : Bool). cond t (Some x) (find p others)) (sym is)
find_step true false x rest others p is h e = let no : ⊥ = (let f = h refl in cc) in absurd no
find_step false true x rest others p is h e = e ∙ ap (λ (t : Bool). cond t (Some x) (find p others)) (sym is)
find_step false false x rest others p is h e = e

-- an ask of a round is answered by the choices of that round
find_in : (journal : List Choice) (ask : Ask)
    → find (λ (c : Choice). same_ask c.asked ask) journal ≡ find (λ (c : Choice). same_ask c.asked ask) (choices_in ask.key.round journal)
find_in [] ask = refl
find_in (c ∷ journal) ask =
    find_step (same_ask c.asked ask) (c.asked.key.round == ask.key.round) c (find (λ (d : Choice). same_ask d.asked ask) journal)
    (choices_in ask.key.round journal) (λ (d : Choice). same_ask d.asked ask) refl
    (λ e. eq-eqb c.asked.key.round ask.key.round (same_round c ask e)) (find_in journal ask)

pub chosen_in : (j k : List Choice) (ask : Ask) → choices_in ask.key.round j ≡ choices_in ask.key.round k → chosen j ask ≡ chosen k ask
chosen_in j k ask e =
    ap (places_chosen ask.copies)
    (find_in j ask ∙ ap (find (λ (c : Choice). same_ask c.asked ask)) e ∙ sym (find_in k ask))

-- ---- placed writes

unless_same : (small : Bool) (j k : List Choice) (w : Writing) (p q : List ℕ → List ℕ → Images → Placed) (path bytes : List ℕ) (images : Images)
    → choices_in w.round j ≡ choices_in w.round k → p ≡ q → gang_unless small j w p path bytes images ≡ gang_unless small k w q path bytes images
unless_same true j k w p q path bytes images e same = refl
unless_same false j k w p q path bytes images e same =
    λ i. gang_with (chosen_in j k (head_ask w path) e i) w (same i) path bytes images

with_same : (o : Option (List Place)) (j k : List Choice) (w : Writing) (p q : List ℕ → List ℕ → Images → Placed) (path bytes : List ℕ) (images : Images)
    → choices_in w.round j ≡ choices_in w.round k → p ≡ q → body_with o j w p path bytes images ≡ body_with o k w q path bytes images
with_same (Some places) j k w p q path bytes images e same = refl
with_same None j k w p q path bytes images e same = unless_same (nat_le (length bytes) 512) j k w p q path bytes images e same

part_same : (levels : ℕ) (j k : List Choice) (w : Writing) → choices_in w.round j ≡ choices_in w.round k → (path bytes : List ℕ) (images : Images)
    → place_part levels j w path bytes images ≡ place_part levels k w path bytes images
unfolding place_part
part_same zero j k w e path bytes images =
    let nowhere : List ℕ → List ℕ → Images → Placed = λ below part now. without_place [] now in
    ap (λ (o : Option (List Place)). body_with o j w nowhere path bytes images) (chosen_in j k (body_ask w path bytes) e)
    ∙ with_same (chosen k (body_ask w path bytes)) j k w nowhere nowhere path bytes images e refl
part_same (suc levels) j k w e path bytes images =
    ap (λ (o : Option (List Place)). body_with o j w (place_part levels j w) path bytes images) (chosen_in j k (body_ask w path bytes) e)
    ∙ with_same (chosen k (body_ask w path bytes)) j k w (place_part levels j w) (place_part levels k w) path bytes images e
    (λ i below part now. part_same levels j k w e below part now i)

block_same : (j k : List Choice) (w : Writing) (bytes : List ℕ) (images : Images) → choices_in w.round j ≡ choices_in w.round k
    → place_block j w bytes images ≡ place_block k w bytes images
block_same j k w bytes images e = part_same 8 j k w e [] bytes images

-- ---- used places

bool_same : (a b : Bool) → (a ≡ true → b ≡ true) → (b ≡ true → a ≡ true) → a ≡ b
bool_same true b h k = sym (h refl)
bool_same false true h k = k refl
bool_same false false h k = refl

all_pass : {X : Type 0} (test : X → Bool) (xs : List X) → list_all test xs ≡ true → AllByRecursion (λ x. IsTrue (test x)) xs
all_pass test [] h = tt
all_pass test (x ∷ xs) h = let parts = and_parts (test x) (list_all test xs) h in (parts.0, all_pass test xs parts.1)

pass_all : {X : Type 0} (test : X → Bool) (xs : List X) → AllByRecursion (λ x. IsTrue (test x)) xs → list_all test xs ≡ true
pass_all test [] h = refl
pass_all test (x ∷ xs) h = and_from (test x) (list_all test xs) h.0 (pass_all test xs h.1)

-- a place that is free beside some places is free beside fewer
free_from : (xs ys : List Place) (p : Place) → ((q : Place) → Contains ys q → Contains xs q) → is_free xs p ≡ true → is_free ys p ≡ true
free_from xs ys p within h =
    let apart : Place → Bool = λ q. not (meets p q) in
    pass_all apart ys
    (all_weaker (Contains ys) (λ q. IsTrue (apart q)) ys (λ q c. all_contains (λ q. IsTrue (apart q)) xs q (all_pass apart xs h) (within q c)) (all_contained ys))

free_same : (xs ys : List Place) (p : Place) → SamePlaces xs ys → is_free xs p ≡ is_free ys p
free_same xs ys p same =
    bool_same (is_free xs p) (is_free ys p) (free_from xs ys p (λ q. (same q).1)) (free_from ys xs p (λ q. (same q).0))

open_same : (xs ys places : List Place) → SamePlaces xs ys → are_open xs places ≡ are_open ys places
open_same xs ys places same = λ i. list_all (λ p. free_same xs ys p same i) places && are_apart places

found_same : (errors : List (Option Errno)) (xs ys : List Place) (tree : Tree) → SamePlaces xs ys → claimed_found xs errors tree ≡ claimed_found ys errors tree
found_same [] xs ys tree same = ap (λ (t : Bool). claimed_if t tree) (open_same xs ys (tree_places tree) same)
found_same (e ∷ errors) xs ys tree same = refl

pointer_same : (o : Option Bp) (s : Setting) (xs ys : List Place) (images : Images) → SamePlaces xs ys → claim_pointer s xs o images ≡ claim_pointer s ys o images
pointer_same None s xs ys images same = refl
pointer_same (Some bp) s xs ys images same =
    let w : Walk = walk_tree (claim_visit s) bp images in
    λ i. record { tree = found_same w.errors xs ys (record { bp = bp; heads = w.heads }) same i; images = w.images }

claim_same : (s : Setting) (xs ys : List Place) (bytes : List ℕ) (images : Images) → SamePlaces xs ys → claim_tree s xs bytes images ≡ claim_tree s ys bytes images
unfolding claim_tree
claim_same s xs ys bytes images same = pointer_same (pointer_of bytes) s xs ys images same

-- ---- the own work

own_by_choices : (j k : List Choice) (t : Terms) → choices_in t.round j ≡ choices_in t.round k → (attempt : ℕ) (p : Pending) (work : Work) (pointers : List (Option Bp)) (images : Images)
    → own_work j t attempt p work pointers images ≡ own_work k t attempt p work pointers images
own_by_choices j k t e attempt p Null pointers images = refl
own_by_choices j k t e attempt p (Read name prio) pointers images = refl
own_by_choices j k t e attempt p (Write name sum copies prio body) pointers images =
    ap own_write (block_same j k (writing_of t attempt p sum copies) (content_of pointers (body_of body)) images e)
own_by_choices j k t e attempt p (Free name) pointers images = refl
own_by_choices j k t e attempt p (Claim name pointer) pointers images = refl

-- the terms with other places in use
abbrev pub using_places : Terms → List Place → Terms
using_places t used = record t { used = used }

read_using : (o : Option Tree) (t : Terms) (used : List Place) (images : Images) → read_of t o images ≡ read_of (using_places t used) o images
read_using None t used images = refl
read_using (Some tree) t used images = refl

free_using : (o : Option Tree) (t : Terms) (used : List Place) (images : Images) → free_of t o images ≡ free_of (using_places t used) o images
free_using None t used images = refl
free_using (Some tree) t used images = refl

own_by_used : (j : List Choice) (t : Terms) (used : List Place) → SamePlaces t.used used → (attempt : ℕ) (p : Pending) (work : Work) (pointers : List (Option Bp)) (images : Images)
    → own_work j t attempt p work pointers images ≡ own_work j (using_places t used) attempt p work pointers images
own_by_used j t used same attempt p Null pointers images = refl
own_by_used j t used same attempt p (Read name prio) pointers images = read_using p.block t used images
own_by_used j t used same attempt p (Write name sum copies prio body) pointers images = refl
own_by_used j t used same attempt p (Free name) pointers images = free_using p.block t used images
own_by_used j t used same attempt p (Claim name pointer) pointers images = ap own_claim (claim_same t.setting t.used used pointer images same)

-- ---- from the own work up

-- what running trees gives is the same where the own work of each request is
module _ (j k : List Choice) (t u : Terms) (mode : t.failmode ≡ u.failmode)
    (own : (attempt : ℕ) (p : Pending) (work : Work) (pointers : List (Option Bp)) (images : Images) → own_work j t attempt p work pointers images ≡ own_work k u attempt p work pointers images) where
  one_same : (attempt : ℕ) (p : Pending) (returns : List Return) (images : Images) → attempt_one j t attempt p returns images ≡ attempt_one k u attempt p returns images
  one_same attempt p returns images =
      let handed : List Return = returned_to p returns in
      let pointers : List (Option Bp) = map (λ (c : Child). c.pointer) (insert_children (children_of handed) p.kept) in
      let done : Own = own_work k u attempt p p.request.work pointers images in
      ap (judged_own t p handed) (own attempt p p.request.work pointers images)
      ∙ ap (λ (m : Failmode). closed p done (all_bits (kind_of p.request.work) done.error p.request.canfail m (bits_of handed)) (insert_children (children_of (finished_of handed)) p.kept)) mode

  each_same : (attempt : ℕ) (tree : List Pending) (returns : List Return) (images : Images) → attempt_each j t attempt tree returns images ≡ attempt_each k u attempt tree returns images
  unfolding attempt_each
  each_same attempt [] returns images = refl
  each_same attempt (p ∷ tree) returns images =
      ap (λ (one : Attempted). then_attempt returns one (attempt_each j t attempt tree)) (one_same attempt p returns images)
      ∙ ap (then_attempt returns (attempt_one k u attempt p returns images)) (λ i r now. each_same attempt tree r now i)

  settle_same : (more attempt : ℕ) (tree : List Pending) (images : Images) → settle_from more j t attempt tree images ≡ settle_from more k u attempt tree images
  unfolding settle_from
  settle_same zero attempt tree images = ap settled_as (each_same attempt tree [] images)
  settle_same (suc more) attempt tree images =
      ap (λ (a : Attempt). settled_by a (settle_from more j t (attempt + 1))) (each_same attempt tree [] images)
      ∙ ap (settled_by (attempt_each k u attempt tree [] images)) (λ i rest now. settle_same more (attempt + 1) rest now i)

  pub trees_same : (trees : List (List Pending)) (images : Images) → settle_each j t trees images ≡ settle_each k u trees images
  unfolding settle_each
  trees_same [] images = refl
  trees_same (tree ∷ trees) images =
      ap (λ (s : Settled). then_trees s (settle_each j t trees)) (settle_same 3 0 tree images)
      ∙ ap (then_trees (settle k u tree images)) (λ i now. trees_same trees now i)

-- ---- the law's clauses

pub choices_law : (j k : List Choice) (t : Terms) (trees : List (List Pending)) (images : Images) → choices_in t.round j ≡ choices_in t.round k
    → settle_each j t trees images ≡ settle_each k t trees images
choices_law j k t trees images e = trees_same j k t t refl (own_by_choices j k t e) trees images

pub used_law : (j : List Choice) (t : Terms) (used : List Place) (trees : List (List Pending)) (images : Images) → SamePlaces t.used used
    → settle_each j t trees images ≡ settle_each j (using_places t used) trees images
used_law j t used trees images same = trees_same j j t (using_places t used) refl (own_by_used j t used same) trees images
