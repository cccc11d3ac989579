-- What a round is to whatever runs it.
use Rattle.std.specs.Prelude.{◌≡◌, ◌≢◌, ℕ, ◌+◌, ◌/◌, ◌%◌, ◌<◌, ◌≤◌, List, [], ◌∷◌, ◌++◌, length, map, filter, count_by, Bool, true, false, ◌&&◌, ◌||◌, Option, Some, None, is_some, is_none, IsTrue, ◌==◌, nat_lt, nat_le, ◌⊎◌, ◌↔◌, slice_get, Contains, option_to_list}
use Rattle.std.specs.List.{AllByRecursion, flat_map, list_all, list_any}
pub use Rattle.zio_outside.specs.Outside.{AnyRose}
use Rattle.zio_types.specs.declared.journal.Completion.{Completion}
use Rattle.zio_types.specs.declared.place.Place.{Place}
use Rattle.zio_types.specs.declared.place.Top.{Top}
use Rattle.zio_types.specs.Choices.{Choice}
use Rattle.zio_types.specs.Places.{are_apart, are_open, end_of, is_inside, meets, sector_size}
use Rattle.zio_faults.specs.declared.table.Row.{Row}
use Rattle.zio_blkptr.specs.declared.pointer.TheConstants.{BLOCK_SIZE_MAX}
use Rattle.zio_script.specs.declared.limits.TheConstants.{CHILDREN_MAX}
use Rattle.zio_script.specs.declared.script.Failmode.{Failmode}
use Rattle.zio_script.specs.declared.script.Request.{Request}
use Rattle.zio_script.specs.declared.script.Work.{Work}
use Rattle.zio_script.specs.declared.script.Work.TheVariants.{Null, Read, Write, Free, Claim}
use Rattle.zio_script.specs.Accepted.{IsInRange, NameApart}
use Rattle.zio_script.specs.Requests.{kind_of, makes_block, name_of, names_it, needs_block}
use Rattle.zio_script.specs.Whys.{is_claim, is_flip, is_write, may_have, size_with}
use Rattle.zio_cksum.specs.Images.{Images, image_of}
use Rattle.zio_gang.specs.declared.tree.Tree.{Tree}
use Rattle.zio_gang.specs.Attempts.{Ended, Pending, Terms}
use Rattle.zio_gang.specs.ByNumber.{merge_by}
use Rattle.zio_gang.specs.Journals.{AreChoicesOf, CompleteAfterChildren, CompleteOnce}
use Rattle.zio_gang.specs.Rounds.{settle_each}
use Rattle.zio_gang.specs.Trees.{sizes_of, tree_places}
use Rattle.zio_course.specs.declared.runner.RequestEnd.{RequestEnd}
use Rattle.zio_course.specs.declared.runner.RoundEnd.{RoundEnd}
use Rattle.zio_course.specs.declared.runner.Stop.{Stop}
use Rattle.zio_course.specs.declared.runner.Stop.TheVariants.{Device, Memory}

-- What is known of a runner beside its images: its tops and fault table, the places in use, the number of its last round,
-- whether a round of it was stopped, and how often each disk has failed.
pub record Standing : Type 0 where
  pub tops : List Top
  pub rows : List Row
  pub live : List Place
  pub last : ℕ
  pub stopped : Bool
  pub faults : List ℕ

-- nothing changed
pub record Stays (old new : Standing) (old_tells new_tells : Images → Type 0) : Type 0 where
  pub standing : new ≡ old
  pub images : (images : Images) → old_tells images ↔ new_tells images

-- ---- trees

-- a request that no round has seen
abbrev pub fresh : Request → ℕ → Option Tree → Pending
fresh r birth block = record { request = r; birth = birth; block = block; kept = [] }

-- the requests of some trees, one tree after another
abbrev pub joined_trees : List (List Pending) → List Pending
joined_trees trees = flat_map (λ (tree : List Pending). tree) trees

-- the trees of a request's children, and then the request
abbrev pub tree_over : List (List Pending) → Pending → List Pending
tree_over children p = joined_trees children ++ p ∷ []

-- the root is attempted last
abbrev pub root_of : List Pending → Option Pending
root_of [] = None
root_of (p ∷ []) = Some p
root_of (p ∷ q ∷ ps) = root_of (q ∷ ps)

abbrev pub roots_of : List (List Pending) → List Request
roots_of trees = flat_map (λ (tree : List Pending). map (λ (p : Pending). p.request) (option_to_list (root_of tree))) trees

-- each number is below the next
abbrev pub AreRisingFrom : ℕ → List ℕ → Type 0
AreRisingFrom least [] = Unit {0}
AreRisingFrom least (n ∷ ns) = (least ≤ n) × AreRisingFrom (n + 1) ns

abbrev pub numbers_of : List Request → List ℕ
numbers_of requests = map (λ (r : Request). r.number) requests

abbrev pub requests_in : List (List Pending) → List Request
requests_in trees = map (λ (p : Pending). p.request) (joined_trees trees)

-- a child stands under the request, which may have it
pub record IsChild (r child : Request) : Type 0 where
  pub under : child.under ≡ Some r.number
  pub may : may_have (kind_of r.work) (kind_of child.work) ≡ true

-- What a tree is made of: a request in its ranges, its block exactly where it is a read or a free, and trees that its
-- children are the roots of, by number, with their count and the request's size within the limits.
pub record IsNewTree (r : Request) (birth : ℕ) (block : Option Tree) (children : List (List Pending)) : Type 0 where
  pub range : IsInRange r
  pub some : 1 ≤ birth
  pub block_is : is_some block ≡ needs_block r.work
  pub each : length (roots_of children) ≡ length children
  pub kinds : AllByRecursion (IsChild r) (roots_of children)
  pub rising : AreRisingFrom 0 (numbers_of (roots_of children))
  pub few : length children ≤ CHILDREN_MAX
  pub size : size_with (count_by (λ (q : Request). is_write (kind_of q.work)) (roots_of children)) r.work ≤ BLOCK_SIZE_MAX

-- the places of a block, if there is one
abbrev pub places_of_block : Option Tree → List Place
places_of_block block = flat_map tree_places (option_to_list block)

-- the places of all blocks that the requests name
abbrev pub named_places : List (List Pending) → List Place
named_places trees = flat_map (λ (p : Pending). places_of_block p.block) (joined_trees trees)

-- the places of the block that a free names
abbrev pub freed_by : Work → Option Tree → List Place
freed_by Null block = []
freed_by (Read name prio) block = []
freed_by (Write name sum copies prio body) block = []
freed_by (Free name) block = places_of_block block
freed_by (Claim name pointer) block = []

-- a fault row tells two reads of one block apart
abbrev pub rows_tell_apart : List Row → Bool
rows_tell_apart rows = list_any (λ (row : Row). row.first || is_flip row.kind) rows

abbrev pub has_claim : List Request → Bool
has_claim requests = list_any (λ (r : Request). is_claim (kind_of r.work)) requests

-- no place of the one meets one of the other
abbrev pub NoneMeet : List Place → List Place → Type 0
NoneMeet ps qs = AllByRecursion (λ (p : Place). AllByRecursion (λ (q : Place). meets p q ≡ false) qs) ps

-- both requests name one block, and were given the same
pub record NameOneBlock (p q : Pending) : Type 0 where
  pub names : names_it (name_of p.request.work) (name_of q.request.work) ≡ true
  pub same : p.block ≡ q.block

-- the blocks that two requests were given are the one that both name, or no place of the one meets one of the other
abbrev pub AreOneOrApart : Pending → Pending → Type 0
AreOneOrApart p q = NameOneBlock p q ⊎ NoneMeet (places_of_block p.block) (places_of_block q.block)

-- Which trees a round may have: none is empty, their roots stand under no request, the roots' numbers rise, no number stands
-- twice, no two requests name one block but for reads that no row tells apart, a claim is alone, what reads and frees were
-- given is in use, no two places of a block that a request was given meet, and two such blocks are one or have no places that
-- meet.
pub record AreRunnable (s : Standing) (trees : List (List Pending)) : Type 0 where
  pub each : length (roots_of trees) ≡ length trees
  pub rising : AreRisingFrom 0 (numbers_of (roots_of trees))
  pub once : (n : ℕ) → count_by (λ (r : Request). r.number == n) (requests_in trees) ≤ 1
  pub apart : NameApart (rows_tell_apart s.rows) (requests_in trees)
  pub claim : has_claim (requests_in trees) ≡ true → length (requests_in trees) ≡ 1
  pub live : AllByRecursion (Contains s.live) (named_places trees)
  pub under : AllByRecursion (λ (r : Request). r.under ≡ None) (roots_of trees)
  -- no two of a block's own places meet
  pub own : AllByRecursion (λ (p : Pending). are_apart (places_of_block p.block) ≡ true) (joined_trees trees)
  -- so requests over different blocks may be under way together
  pub between : (p q : Pending) → Contains (joined_trees trees) p → Contains (joined_trees trees) q →
      p.request.number ≢ q.request.number → AreOneOrApart p q

-- ---- what a round gives

-- a round's end, with each tree seen as its requests, and each request that finished as what is told of it
abbrev pub SeenEnd : Type 0
SeenEnd = RoundEnd (List Pending) RequestEnd

abbrev pub ended_seen : {T F : Type 0} → (T → List Pending) → (F → RequestEnd) → RoundEnd T F → SeenEnd
ended_seen pending told end = record {
  finished = map told end.finished;
  left = map pending end.left;
  completions = end.completions;
  entries = end.entries;
}

-- the terms of a round in which the places in use are those of the runner
abbrev pub terms_at : Standing → Failmode → ℕ → ℕ → Terms
terms_at s failmode round point = record {
  setting = record { tops = s.tops; rows = s.rows; point = point };
  failmode = failmode;
  round = round;
  used = s.live;
}

-- what is told of a request that finished, which its number names
abbrev pub finished_of : Ended → RequestEnd
finished_of e = record { request = e.request.number; error = e.error; bytes = e.bytes; tree = e.tree }

abbrev pub finished_by_number : List Ended → List RequestEnd
finished_by_number ended = merge_by (λ (f : RequestEnd). f.request) (map finished_of ended) []

-- A round over images that are told is the round by the definitions, with its own entries as the journal.
pub record IsRound (t : Terms) (trees : List (List Pending)) (before after : Images) (end : SeenEnd) : Type 0 where
  pub left_is : end.left ≡ (settle_each end.entries t trees before).left
  pub finished_is : end.finished ≡ finished_by_number (settle_each end.entries t trees before).ended
  pub images_are : after ≡ (settle_each end.entries t trees before).images
  pub choices : AreChoicesOf (sizes_of t.setting.tops) t.used (settle_each end.entries t trees before).asks end.entries

-- a request that hasn't finished has the batch and the block that it had
pub record IsSamePending (old new : Pending) : Type 0 where
  pub request : new.request ≡ old.request
  pub birth : new.birth ≡ old.birth
  pub block : new.block ≡ old.block

abbrev pub IsFrontOf : Pending → List Pending → (List Pending → Type 0) → Type 0
IsFrontOf p [] rest = ⊥
IsFrontOf p (q ∷ qs) rest = IsSamePending p q × rest qs

-- some of a tree's requests in their order, its root among them
abbrev pub IsRestOf : List Pending → List Pending → Type 0
IsRestOf [] left = ⊥
IsRestOf (p ∷ []) left = IsFrontOf p left (λ qs. qs ≡ [])
IsRestOf (p ∷ r ∷ ps) left = IsFrontOf p left (IsRestOf (r ∷ ps)) ⊎ IsRestOf (r ∷ ps) left

-- some of the trees in their order, each with some of its requests
abbrev pub AreRestsOf : List (List Pending) → List (List Pending) → Type 0
AreRestsOf [] [] = Unit {0}
AreRestsOf [] (l ∷ left) = ⊥
AreRestsOf (tree ∷ trees) [] = Unit {0}
AreRestsOf (tree ∷ trees) (l ∷ left) = (IsRestOf tree l × AreRestsOf trees left) ⊎ AreRestsOf trees (l ∷ left)

abbrev pub is_numbered : ℕ → ℕ → Bool
is_numbered n m = m == n

-- the number is that of a request that finished without error
abbrev pub is_good_in : List RequestEnd → ℕ → Bool
is_good_in finished n = list_any (λ (f : RequestEnd). (f.request == n) && is_none f.error) finished

-- the completion that a finished request has
abbrev pub completion_for : ℕ → RequestEnd → Completion
completion_for round f = record { request = f.request; round = round; error = f.error }

abbrev pub read_size : Work → Option Tree → List ℕ
read_size Null block = []
read_size (Read name prio) block = map (λ (tree : Tree). tree.bp.size) (option_to_list block)
read_size (Write name sum copies prio body) block = []
read_size (Free name) block = []
read_size (Claim name pointer) block = []

-- a read without error has as many bytes as its block's size
abbrev pub HasReadSize : List (List Pending) → RequestEnd → Type 0
HasReadSize trees f = f.error ≡ None → AllByRecursion (λ (p : Pending). p.request.number ≡ f.request →
    AllByRecursion (λ n. length f.bytes ≡ n) (read_size p.request.work p.block)) (joined_trees trees)

-- a request with a block finished without error, and makes one
abbrev pub MakesTree : List (List Pending) → RequestEnd → Type 0
MakesTree trees f = is_some f.tree ≡ true →
    (f.error ≡ None) × AllByRecursion (λ (p : Pending). p.request.number ≡ f.request → makes_block p.request.work ≡ true) (joined_trees trees)

abbrev pub made_trees : List RequestEnd → List Tree
made_trees finished = flat_map (λ (f : RequestEnd). option_to_list f.tree) finished

-- the places of the blocks that were made
abbrev pub made_places : List RequestEnd → List Place
made_places finished = flat_map tree_places (made_trees finished)

-- the places of the blocks whose free finished without error
abbrev pub freed_places : List (List Pending) → List RequestEnd → List Place
freed_places trees finished =
    flat_map (λ (p : Pending). freed_by p.request.work p.block)
    (filter (λ (p : Pending). is_good_in finished p.request.number) (joined_trees trees))

-- What holds of a round's end also where no image is told: each request finished or is left, and not both; what is left are
-- rests of the trees, with no claim among them, since a claim may always fail; numbers of what finished rise; writes and
-- claims alone made blocks; these lie inside the tops, apart from each other and from what was in use; and each request
-- that finished has one completion, behind those of its children.
pub record IsRoundEnd (s : Standing) (round : ℕ) (trees : List (List Pending)) (end : SeenEnd) : Type 0 where
  pub each : (n : ℕ) → count_by (is_numbered n) (numbers_of (requests_in trees))
      ≡ count_by (is_numbered n) (map (λ (f : RequestEnd). f.request) end.finished) + count_by (is_numbered n) (numbers_of (requests_in end.left))
  pub rests : AreRestsOf trees end.left
  pub claims : has_claim (requests_in end.left) ≡ false
  pub rising : AreRisingFrom 0 (map (λ (f : RequestEnd). f.request) end.finished)
  pub reads : AllByRecursion (HasReadSize trees) end.finished
  pub sectors : AllByRecursion (λ (f : RequestEnd). length f.bytes % sector_size ≡ 0) end.finished
  pub makers : AllByRecursion (MakesTree trees) end.finished
  pub inside : IsTrue (list_all (is_inside (sizes_of s.tops)) (made_places end.finished))
  pub free : IsTrue (are_open s.live (made_places end.finished))
  pub completed : AllByRecursion (λ c. Contains (map (completion_for round) end.finished) c) end.completions
  pub all_completed : AllByRecursion (λ c. Contains end.completions c) (map (completion_for round) end.finished)
  pub once : CompleteOnce end.completions
  pub after_children : CompleteAfterChildren (requests_in trees) end.completions
  pub keys : AllByRecursion (λ (c : Choice). c.asked.key.round ≡ round) end.entries

-- What is known of the runner after a round: places of freed blocks are no longer in use, and those of blocks that were
-- made are.
pub record StandsAfter (old new : Standing) (round : ℕ) (trees : List (List Pending)) (end : SeenEnd) : Type 0 where
  pub tops : new.tops ≡ old.tops
  pub rows : new.rows ≡ old.rows
  pub last : new.last ≡ round
  pub stopped : new.stopped ≡ false
  pub faults : new.faults ≡ old.faults
  pub live : (p : Place) → Contains new.live p
      ↔ ((Contains old.live p × ¬ Contains (freed_places trees end.finished) p) ⊎ Contains (made_places end.finished) p)

-- ---- a stop

-- Whether a runner was stopped in a round, and what it means that this was for want of memory: of the round's terms, its
-- trees and the images before it.
pub record Stopping : Type 1 where
  pub stopped : Bool
  pub means : Terms → List (List Pending) → Images → Type 0

abbrev pub stopping_of : Standing → (Terms → List (List Pending) → Images → Type 0) → Stopping
stopping_of s means = record { stopped = s.stopped; means = means }

-- How a round ended that came into no journal: the runner was stopped in it, which means this where it was for want of
-- memory; or the round was whole, and memory for the journal was refused.
abbrev pub IsCutRound : Stop → Stopping → Terms → List (List Pending) → Images → Images → Type 0
IsCutRound Device w t trees before after = w.stopped ≡ true
IsCutRound Memory w t trees before after =
    ((w.stopped ≡ true) × w.means t trees before)
    ⊎ ((w.stopped ≡ false) × (end : SeenEnd) × IsRound t trees before after end)

-- what is known of the runner after a stop
pub record StoppedAfter (old new : Standing) (round : ℕ) : Type 0 where
  pub tops : new.tops ≡ old.tops
  pub rows : new.rows ≡ old.rows
  pub last : new.last ≡ round
  pub stopped : new.stopped ≡ true

-- the place has this sector of the top
abbrev pub has_sector : ℕ → ℕ → Place → Bool
has_sector top sector p = (p.top == top) && nat_le p.sector sector && nat_lt sector (end_of p)

-- a byte of a leaf in a sector of a top, which no place in use has, or a place that is named
pub record IsLoose (tops : List Top) (live named : List Place) (leaf at : ℕ) : Type 0 where
  pub top : ℕ
  pub here : Top
  pub top_is : slice_get tops top ≡ Some here
  pub leaf_is : Contains here.leaves leaf
  pub below : at / sector_size < here.sectors
  pub loose : (list_any (has_sector top (at / sector_size)) live ≡ false) ⊎ (list_any (has_sector top (at / sector_size)) named ≡ true)

-- the images have the sizes that they had, and each byte that isn't loose
pub record DiffersLoose (tops : List Top) (live named : List Place) (old new : Images) : Type 0 where
  pub count : length new ≡ length old
  pub sizes : (leaf : ℕ) → length (image_of new leaf) ≡ length (image_of old leaf)
  pub bytes : (leaf at : ℕ) → ¬ IsLoose tops live named leaf at →
      slice_get (image_of new leaf) at ≡ slice_get (image_of old leaf) at

-- the images changed only in sectors that no place in use had, and in places of blocks that the trees name
abbrev pub DiffersInRound : Standing → List (List Pending) → Images → Images → Type 0
DiffersInRound s trees before after = DiffersLoose s.tops s.live (named_places trees) before after
