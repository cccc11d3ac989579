-- A pass over a tree: each request in turn, which finishes or goes again.
use Rattle.std.specs.Prelude.{◌≡◌, ◌≢◌, ◌⊎◌, ℕ, ◌+◌, ◌%◌, ◌≤◌, List, [], ◌∷◌, ◌++◌, map, length, take, drop, Bool, true, false, Option, Some, None, is_some, IfSome, option_to_list}
use Rattle.std.specs.List.{AllByRecursion, flat_map}
use Rattle.zio_types.specs.declared.error.Errno.{Errno}
use Rattle.zio_types.specs.declared.place.Place.{Place}
use Rattle.zio_types.specs.Choices.{Choice}
use Rattle.zio_types.specs.Places.{sector_size}
use Rattle.zio_script.specs.declared.script.Failmode.{Failmode}
use Rattle.zio_script.specs.Requests.{kind_of, makes_block}
use Rattle.zio_script.specs.Whys.{is_claim}
use Rattle.zio_cksum.specs.Images.{Images}
use Rattle.zio_gang.specs.declared.tree.Tree.{Tree}
use Rattle.zio_gang.specs.Attempts.{Attempt, Attempted, Return, Settled, Terms, attempt_one, attempt_tree, has_bits, now_alone, returned_to, root_bits, settle_from}
use Rattle.zio_gang.specs.Journals.{asks_of}
use Rattle.zio_disks.specs.Whole.{IsWholeTree}
use Rattle.zio_blocks.specs.Blocks.{AnswersBy}
use Rattle.zio_course.specs.declared.runner.RequestEnd.{RequestEnd}
use Rattle.zio_course.specs.Runners.{finished_of, has_claim, made_places, read_size}
use Rattle.zio_plain.specs.declared.judge.Fate.{Fate}
use Rattle.zio_plain.specs.declared.judge.Fate.TheVariants.{Ends, Again}
use Rattle.zio_plain.specs.declared.waiting.Handed.{Handed}
use Rattle.zio_plain.specs.declared.waiting.Waiting.{Waiting}
use Rattle.zio_plain.specs.Judgments.{again_in, again_of, ends_of, freed_block}
use Rattle.zio_plain.specs.OwnEnds.{AreAsked, IsFor}
use Rattle.zio_plain.specs.Posts.{IsOneTree, requests_in}
use Rattle.zio_plain.specs.Waits.{HasPointer, pending_of, pendings, return_of}

-- ---- what becomes of one request

abbrev pub is_again : Fate → Bool
is_again (Ends f) = false
is_again (Again v) = true

-- the block of a free without error
abbrev pub freed_unless : Option Errno → Option Tree → List Tree
freed_unless None block = option_to_list block
freed_unless (Some e) block = []

-- the places that came to stay
abbrev pub made_unless : Option Errno → List Place → List Place
made_unless None made = made
made_unless (Some e) made = []

abbrev pub freed_of : Waiting → Fate → List Tree
freed_of w (Ends f) = freed_unless f.error (freed_block w.request.work w.block)
freed_of w (Again v) = []

abbrev pub AllEnd : List Handed → Type 0
AllEnd hs = AllByRecursion (λ (h : Handed). has_bits h.bits ≡ false) hs

-- The request finished so: its children finished, a block is made without error and by a write or a claim alone, and a
-- read has whole sectors, without an error its block's.
pub record IsEndOf (w : Waiting) (kids : List Handed) (f : RequestEnd) : Type 0 where
  pub request : f.request ≡ w.request.number
  pub done : AllEnd kids
  pub sectors : length f.bytes % sector_size ≡ 0
  pub size : f.error ≡ None → AllByRecursion (λ n. length f.bytes ≡ n) (read_size w.request.work w.block)
  pub makes : is_some f.tree ≡ true → (f.error ≡ None) × (makes_block w.request.work ≡ true)
  pub whole : IfSome f.tree IsWholeTree

-- The same request that goes again, with so many children that do. A claim without children doesn't.
pub record IsAgainOf (w : Waiting) (kids : List Handed) (v : Waiting) : Type 0 where
  pub request : v.request ≡ w.request
  pub birth : v.birth ≡ w.birth
  pub block : v.block ≡ w.block
  pub unfinished : v.unfinished ≡ again_in kids
  pub count : length v.kept + v.unfinished ≡ length w.kept + w.unfinished
  pub pointers : AllByRecursion HasPointer v.kept
  pub claim : w.unfinished ≡ 0 → is_claim (kind_of w.request.work) ≡ false

abbrev pub IsFateOf : Waiting → List Handed → Fate → Type 0
IsFateOf w kids (Ends f) = IsEndOf w kids f
IsFateOf w kids (Again v) = IsAgainOf w kids v

-- what the request hands on, and what becomes of it, where its children handed this to it
pub record HasFate (w : Waiting) (kids : List Handed) (one : Handed) (fate : Fate) : Type 0 where
  pub number : one.child.number ≡ w.request.number
  pub under : one.under ≡ w.request.under
  pub pointer : HasPointer one.child
  pub bits : has_bits one.bits ≡ is_again fate
  pub is : IsFateOf w kids fate

-- it is what the definition says
pub record IsAttempted (a : Attempted) (one : Handed) (fate : Fate) (given_old given_new : List Choice) (after : Images) : Type 0 where
  pub return : a.return ≡ return_of one
  pub ended : map finished_of a.ended ≡ ends_of fate
  pub again : a.again ≡ pendings (again_of fate)
  pub asks : asks_of given_new ≡ asks_of given_old ++ a.asks
  pub images : a.images ≡ after

-- the same for images that were told, whatever else was handed on
pub record TellsAttempted {S : Type 0} (tells : S → Images → Type 0) (given : S → List Choice) (means : List Choice → List Return → Attempted) (w : Waiting) (kids : List Handed) (one : Handed) (fate : Fate) (old new : S) : Type 0 where
  pub after : Images
  pub told : tells new after
  pub meant : (journal : List Choice) → AnswersBy journal (given new) → (returns : List Return) → returned_to (pending_of w) returns ≡ map return_of kids
      → IsAttempted (means journal returns) one fate (given old) (given new) after

-- What is added by one request of a pass. The lists of what was handed on have the last first.
pub record IsStep {S : Type 0} (tells : S → Images → Type 0) (runs fresh : S → Terms → Type 0) (given : S → List Choice) (moves : S → S → List Place → Type 0) (failmode : Failmode) (attempt : ℕ) (w : Waiting) (handed_old handed_new : List Handed) (again_old again_new : List Waiting) (finished_old finished_new : List RequestEnd) (freed_old freed_new : List Tree) (old new : S) : Type 0 where
  pub one : Handed
  pub fate : Fate
  pub is : HasFate w (take w.unfinished handed_old) one fate
  pub handed : handed_new ≡ one ∷ drop w.unfinished handed_old
  pub again : again_new ≡ again_old ++ again_of fate
  pub finished : finished_new ≡ finished_old ++ ends_of fate
  pub freed : freed_new ≡ freed_old ++ freed_of w fate
  pub moved : moves old new (made_places (ends_of fate))
  pub asked : AreAsked (IsFor w.request.number attempt) (given old) (given new)
  pub told : (t : Terms) → runs old t → t.failmode ≡ failmode → (is_claim (kind_of w.request.work) ≡ true → fresh old t) → (images : Images) → tells old images
      → TellsAttempted tells given (λ journal returns. attempt_one journal t attempt (pending_of w) returns images) w (take w.unfinished handed_old) one fate old new

-- ---- a whole pass

-- a request and what became of it
pub record Fated : Type 0 where
  pub waiting : Waiting
  pub fate : Fate

abbrev pub waitings_in : List Fated → List Waiting
waitings_in fs = map (λ (f : Fated). f.waiting) fs

abbrev pub ends_in : List Fated → List RequestEnd
ends_in fs = flat_map (λ (f : Fated). ends_of f.fate) fs

abbrev pub left_in : List Fated → List Waiting
left_in fs = flat_map (λ (f : Fated). again_of f.fate) fs

abbrev pub freed_in : List Fated → List Tree
freed_in fs = flat_map (λ (f : Fated). freed_of f.waiting f.fate) fs

-- it became of the request, with some children
pub record IsFated (f : Fated) : Type 0 where
  pub kids : List Handed
  pub is : IsFateOf f.waiting kids f.fate

-- no two of the requests have one number
abbrev pub AreNumberedApart : List Waiting → Type 0
AreNumberedApart [] = Unit {0}
AreNumberedApart (w ∷ ws) = AllByRecursion (λ (q : Waiting). q.request.number ≢ w.request.number) ws × AreNumberedApart ws

-- one of the requests has the number
abbrev pub HasNumber : List Waiting → ℕ → Type 0
HasNumber [] n = ⊥
HasNumber (w ∷ ws) n = (w.request.number ≡ n) ⊎ HasNumber ws n

-- for one of these requests, in such an attempt
abbrev pub IsAmong : List Waiting → (ℕ → Type 0) → ℕ → ℕ → Type 0
IsAmong ws attempts request attempt = HasNumber ws request × attempts attempt

-- the last request of the pass goes again
pub record LastIsAgain (fates : List Fated) : Type 0 where
  pub front : List Fated
  pub last : Fated
  pub split : fates ≡ front ++ last ∷ []
  pub is : is_again last.fate ≡ true

-- the pass is what the definition says of the tree's attempt
pub record IsPassed (a : Attempt) (finished : List RequestEnd) (left : List Waiting) (at_once : Bool) (given_old given_new : List Choice) (after : Images) : Type 0 where
  pub ended : map finished_of a.ended ≡ finished
  pub again : a.again ≡ pendings left
  pub bits : now_alone (root_bits a.returns) ≡ at_once
  pub asks : asks_of given_new ≡ asks_of given_old ++ a.asks
  pub images : a.images ≡ after

pub record TellsPassed {S : Type 0} (tells : S → Images → Type 0) (given : S → List Choice) (means : List Choice → Attempt) (finished : List RequestEnd) (left : List Waiting) (at_once : Bool) (old new : S) : Type 0 where
  pub after : Images
  pub told : tells new after
  pub meant : (journal : List Choice) → AnswersBy journal (given new) → IsPassed (means journal) finished left at_once (given old) (given new) after

-- What a pass over a tree adds and leaves.
pub record IsPass {S : Type 0} (tells : S → Images → Type 0) (runs fresh : S → Terms → Type 0) (given : S → List Choice) (moves : S → S → List Place → Type 0) (failmode : Failmode) (attempt : ℕ) (tree left : List Waiting) (at_once : Bool) (finished_old finished_new : List RequestEnd) (freed_old freed_new : List Tree) (old new : S) : Type 0 where
  pub fates : List Fated
  pub whole : tree ≡ waitings_in fates
  pub left_are : left ≡ left_in fates
  pub finished : finished_new ≡ finished_old ++ ends_in fates
  pub freed : freed_new ≡ freed_old ++ freed_in fates
  pub each : AllByRecursion IsFated fates
  pub turns : at_once ≡ true → IsOneTree IsWholeTree left
  pub rest : (left ≡ []) ⊎ IsOneTree IsWholeTree left
  pub root : (left ≡ []) ⊎ LastIsAgain fates
  pub moved : moves old new (made_places (ends_in fates))
  pub asked : AreAsked (IsAmong tree (λ n. n ≡ attempt)) (given old) (given new)
  pub told : (t : Terms) → runs old t → t.failmode ≡ failmode → (has_claim (requests_in tree) ≡ true → fresh old t) → (images : Images) → tells old images
      → TellsPassed tells given (λ journal. attempt_tree journal t attempt (pendings tree) images) (ends_in fates) left at_once old new

-- ---- passes one after another

-- A pass over the tree with these fates: nothing is left of it, or a tree with the same root.
pub record IsPassOf (tree : List Waiting) (fates : List Fated) : Type 0 where
  pub whole : tree ≡ waitings_in fates
  pub each : AllByRecursion IsFated fates
  pub rest : (left_in fates ≡ []) ⊎ IsOneTree IsWholeTree (left_in fates)
  pub root : (left_in fates ≡ []) ⊎ LastIsAgain fates

-- each pass is over what the one before left
abbrev pub AreChained : List Waiting → List (List Fated) → List Waiting → Type 0
AreChained tree [] left = left ≡ tree
AreChained tree (fates ∷ more) left = IsPassOf tree fates × AreChained (left_in fates) more left

abbrev pub all_ends : List (List Fated) → List RequestEnd
all_ends passes = flat_map ends_in passes

abbrev pub all_freed : List (List Fated) → List Tree
all_freed passes = flat_map freed_in passes

-- the passes are what the definition says of the settled tree
pub record IsSettled (s : Settled) (finished : List RequestEnd) (left : List Waiting) (given_old given_new : List Choice) (after : Images) : Type 0 where
  pub ended : map finished_of s.ended ≡ finished
  pub left_is : s.left ≡ pendings left
  pub asks : asks_of given_new ≡ asks_of given_old ++ s.asks
  pub images : s.images ≡ after

pub record TellsSettled {S : Type 0} (tells : S → Images → Type 0) (given : S → List Choice) (means : List Choice → Settled) (finished : List RequestEnd) (left : List Waiting) (old new : S) : Type 0 where
  pub after : Images
  pub told : tells new after
  pub meant : (journal : List Choice) → AnswersBy journal (given new) → IsSettled (means journal) finished left (given old) (given new) after

-- What passes over a tree add and leave, so many at most behind the first.
pub record ArePasses {S : Type 0} (tells : S → Images → Type 0) (runs fresh : S → Terms → Type 0) (given : S → List Choice) (moves : S → S → List Place → Type 0) (failmode : Failmode) (more attempt : ℕ) (tree left : List Waiting) (finished_old finished_new : List RequestEnd) (freed_old freed_new : List Tree) (old new : S) : Type 0 where
  pub passes : List (List Fated)
  pub some : 1 ≤ length passes
  pub chained : AreChained tree passes left
  pub finished : finished_new ≡ finished_old ++ all_ends passes
  pub freed : freed_new ≡ freed_old ++ all_freed passes
  pub rest : (left ≡ []) ⊎ IsOneTree IsWholeTree left
  pub moved : moves old new (made_places (all_ends passes))
  pub asked : AreAsked (IsAmong tree (λ n. attempt ≤ n)) (given old) (given new)
  pub told : (t : Terms) → runs old t → t.failmode ≡ failmode → (has_claim (requests_in tree) ≡ true → fresh old t) → (images : Images) → tells old images
      → TellsSettled tells given (λ journal. settle_from more journal t attempt (pendings tree) images) (all_ends passes) left old new
