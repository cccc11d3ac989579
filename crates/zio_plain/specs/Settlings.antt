-- The trees of a round, each settled over what the one before it left.
use Rattle.std.specs.Prelude.{◌≡◌, ◌≤◌, ◌⊎◌, ℕ, ◌+◌, ◌%◌, List, [], ◌∷◌, ◌++◌, length, map, count_by, false, true, Contains, IsPermutation}
use Rattle.std.specs.List.{AllByRecursion, flat_map}
use Rattle.zio_types.specs.declared.journal.Completion.{Completion}
use Rattle.zio_types.specs.declared.place.Place.{Place}
use Rattle.zio_types.specs.Choices.{Choice}
use Rattle.zio_types.specs.Places.{sector_size}
use Rattle.zio_script.specs.declared.script.Failmode.{Failmode}
use Rattle.zio_cksum.specs.Images.{Images}
use Rattle.zio_gang.specs.declared.tree.Tree.{Tree}
use Rattle.zio_gang.specs.Attempts.{Pending, Terms}
use Rattle.zio_gang.specs.ByNumber.{merge_by}
use Rattle.zio_gang.specs.Journals.{CompleteAfterChildren, CompleteOnce, asks_of}
use Rattle.zio_gang.specs.Rounds.{Ran, add_left, settle_each}
use Rattle.zio_disks.specs.Whole.{IsWholeTree}
use Rattle.zio_blocks.specs.Blocks.{AnswersBy}
use Rattle.zio_course.specs.declared.runner.RequestEnd.{RequestEnd}
use Rattle.zio_course.specs.Runners.{AreRestsOf, AreRisingFrom, HasReadSize, MakesTree, completion_for, finished_of, has_claim, is_numbered, made_places, named_places, numbers_of, requests_in}
use Rattle.zio_plain.specs.declared.waiting.Waiting.{Waiting}
use Rattle.zio_plain.specs.OwnEnds.{AreAsked, Named}
use Rattle.zio_plain.specs.Passes.{AreChained, AreNumberedApart, Fated, IsAmong, all_ends, all_freed}
use Rattle.zio_plain.specs.Posts.{IsOneTree}
use Rattle.zio_plain.specs.Waits.{pendings}

-- what the requests of some trees name
abbrev pub named_in : List (List Pending) → Named
named_in trees = record { places = named_places trees; claims = has_claim (requests_in trees) }

-- a tree, the passes over it, and what they left
pub record TreeRun : Type 0 where
  pub tree : List Waiting
  pub passes : List (List Fated)
  pub left : List Waiting

-- a tree whose numbers are apart, passes over it, and nothing or a tree that is left
pub record IsTreeRun (r : TreeRun) : Type 0 where
  pub one : IsOneTree IsWholeTree r.tree
  pub apart : AreNumberedApart r.tree
  pub some : 1 ≤ length r.passes
  pub chained : AreChained r.tree r.passes r.left
  pub rest : (r.left ≡ []) ⊎ IsOneTree IsWholeTree r.left

abbrev pub trees_in : List TreeRun → List (List Pending)
trees_in runs = map (λ (r : TreeRun). pendings r.tree) runs

abbrev pub requests_run : List TreeRun → List Waiting
requests_run runs = flat_map (λ (r : TreeRun). r.tree) runs

-- what is left of the trees that are suspended
abbrev pub trees_left : List TreeRun → List (List Pending)
trees_left [] = []
trees_left (r ∷ runs) = add_left (pendings r.left) (trees_left runs)

abbrev pub ends_run : List TreeRun → List RequestEnd
ends_run runs = flat_map (λ (r : TreeRun). all_ends r.passes) runs

abbrev pub freed_run : List TreeRun → List Tree
freed_run runs = flat_map (λ (r : TreeRun). all_freed r.passes) runs

-- the trees ran as the definition says
pub record IsRan (ran : Ran) (finished : List RequestEnd) (left : List (List Pending)) (given_old given_new : List Choice) (after : Images) : Type 0 where
  pub ended : map finished_of ran.ended ≡ finished
  pub left_is : ran.left ≡ left
  pub asks : asks_of given_new ≡ asks_of given_old ++ ran.asks
  pub images : ran.images ≡ after

pub record TellsRan {S : Type 0} (tells : S → Images → Type 0) (given : S → List Choice) (means : List Choice → Ran) (finished : List RequestEnd) (left : List (List Pending)) (old new : S) : Type 0 where
  pub after : Images
  pub told : tells new after
  pub meant : (journal : List Choice) → AnswersBy journal (given new) → IsRan (means journal) finished left (given old) (given new) after

-- What settling these trees adds and leaves.
pub record AreRun {S : Type 0} (tells : S → Images → Type 0) (runs fresh : S → Terms → Type 0) (given : S → List Choice) (moves : S → S → List Place → Type 0) (failmode : Failmode) (trees left : List (List Pending)) (finished_old finished_new : List RequestEnd) (freed_old freed_new : List Tree) (old new : S) : Type 0 where
  pub each_run : List TreeRun
  pub whole : trees ≡ trees_in each_run
  pub left_are : left ≡ trees_left each_run
  pub each : AllByRecursion IsTreeRun each_run
  pub finished : finished_new ≡ finished_old ++ ends_run each_run
  pub freed : freed_new ≡ freed_old ++ freed_run each_run
  pub moved : moves old new (made_places (ends_run each_run))
  pub asked : AreAsked (IsAmong (requests_run each_run) (λ n. 0 ≤ n)) (given old) (given new)
  pub told : (t : Terms) → runs old t → t.failmode ≡ failmode → (has_claim (requests_in trees) ≡ true → fresh old t) → (images : Images) → tells old images
      → TellsRan tells given (λ journal. settle_each journal t trees images) (ends_run each_run) left old new

-- ---- what a round comes to

-- What settling these trees comes to: requests that finished, by number, their completions in the order in which they did,
-- what is left, and what was freed.
pub record IsTreesRun {S : Type 0} (tells : S → Images → Type 0) (runs fresh : S → Terms → Type 0) (given : S → List Choice) (moves : S → S → List Place → Type 0) (round : ℕ) (failmode : Failmode) (trees left : List (List Pending)) (finished : List RequestEnd) (completions : List Completion) (freed : List Tree) (old new : S) : Type 0 where
  pub each_run : List TreeRun
  pub whole : trees ≡ trees_in each_run
  pub left_are : left ≡ trees_left each_run
  pub each : AllByRecursion IsTreeRun each_run
  pub finished_are : finished ≡ merge_by (λ (f : RequestEnd). f.request) (ends_run each_run) []
  pub same : IsPermutation (ends_run each_run) finished
  pub completions_are : completions ≡ map (completion_for round) (ends_run each_run)
  pub freed_are : freed ≡ freed_run each_run
  pub moved : moves old new (made_places (ends_run each_run))
  pub asked : AreAsked (IsAmong (requests_run each_run) (λ n. 0 ≤ n)) (given old) (given new)
  pub told : (t : Terms) → runs old t → t.failmode ≡ failmode → (has_claim (requests_in trees) ≡ true → fresh old t) → (images : Images) → tells old images
      → TellsRan tells given (λ journal. settle_each journal t trees images) (ends_run each_run) left old new

-- What holds of the lists that it comes to: each request finished or is left, and not both; what is left are rests of the
-- trees, with no claim among them; numbers of what finished rise; bytes are whole sectors, and all bytes of a block that was
-- read without error; writes and claims alone made blocks; and each that finished has one completion, behind those of its
-- children.
pub record IsListEnd (round : ℕ) (trees left : List (List Pending)) (finished : List RequestEnd) (completions : List Completion) : Type 0 where
  pub each : (n : ℕ) → count_by (is_numbered n) (numbers_of (requests_in trees))
      ≡ count_by (is_numbered n) (map (λ (f : RequestEnd). f.request) finished) + count_by (is_numbered n) (numbers_of (requests_in left))
  pub rests : AreRestsOf trees left
  pub claims : has_claim (requests_in left) ≡ false
  pub rising : AreRisingFrom 0 (map (λ (f : RequestEnd). f.request) finished)
  pub reads : AllByRecursion (HasReadSize trees) finished
  pub makers : AllByRecursion (MakesTree trees) finished
  pub sectors : AllByRecursion (λ (f : RequestEnd). length f.bytes % sector_size ≡ 0) finished
  pub completed : AllByRecursion (λ c. Contains (map (completion_for round) finished) c) completions
  pub all_completed : AllByRecursion (λ c. Contains completions c) (map (completion_for round) finished)
  pub once : CompleteOnce completions
  pub after_children : CompleteAfterChildren (requests_in trees) completions
