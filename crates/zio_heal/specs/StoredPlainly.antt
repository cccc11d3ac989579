-- What the run of a script comes to that stores as a plain store does.
use Rattle.std.specs.Prelude.{◌≡◌, ◌≤◌, ℕ, List, Option, Some, None, Result, Ok, Err, Contains}
use Rattle.std.specs.List.{AllByRecursion}
use Rattle.zio_types.specs.declared.error.Errno.{Errno}
use Rattle.zio_types.specs.declared.place.Top.{Top}
use Rattle.zio_types.specs.Choices.{Choice}
use Rattle.zio_blkptr.specs.declared.pointer.TheConstants.{SECTOR_END}
use Rattle.zio_script.specs.declared.script.Request.{Request}
use Rattle.zio_script.specs.declared.script.Script.{Script}
use Rattle.zio_script.specs.Requests.{requests_of}
use Rattle.zio_cksum.specs.Images.{Images}
use Rattle.zio_gang.specs.declared.ending.Ending.TheVariants.{Complete}
use Rattle.zio_gang.specs.Attempts.{Ended}
use Rattle.zio_gang.specs.Fates.{ended_requests}
use Rattle.zio_gang.specs.Rounds.{Binding, is_bound}
use Rattle.zio_gang.specs.Runs.{Course, Plan, State, ending, plan_of, run_script, terms_of}
use Rattle.zio_gang.specs.Trees.{read_tree}
use Rattle.zio_report.specs.Meanings.{tops_of}
use Rattle.zio_report.specs.Reports.{all_ended}
use Rattle.zio_heal.specs.Alike.{IsAlikeTo, IsAnsweredAlike}
use Rattle.zio_heal.specs.Given.{AcceptsWhatWasGiven}
use Rattle.zio_heal.specs.Healed.{IsHealed}
use Rattle.zio_heal.specs.PlainStore.{Content, Plain, Reply, has_content, plain_store}
use Rattle.zio_heal.specs.Pools.{NoSmallRefused}

-- one of the replies is that of the request
pub record HasReply (replies : List Reply) (e : Ended) : Type 0 where
  pub reply : Reply
  pub listed : Contains replies reply
  pub alike : IsAnsweredAlike reply e

-- what is read of a block is alike to the content of its name
abbrev pub ReadsAlike : Result (List ℕ) Errno → Option Content → Type 0
ReadsAlike (Ok bytes) (Some content) = IsAlikeTo content bytes
ReadsAlike (Ok bytes) None = ⊥
ReadsAlike (Err e) content = ⊥

-- a read of a block from the last images, at the last resume point
abbrev pub read_last : Plan → State → Binding → Result (List ℕ) Errno
read_last plan st b = (read_tree (terms_of plan st).setting b.tree st.images).found

-- The run left nothing, and every request ended, each with a reply that is alike to the plain store's. The names that
-- are bound in the end are the plain store's, and each block, read from the last images at the last resume point, is
-- alike to the content of its name.
pub record IsPlainCourse (plan : Plan) (requests : List Request) (plain : Plain) (course : Course) : Type 0 where
  pub complete : ending course.state ≡ Complete
  pub all : AllByRecursion (Contains (ended_requests course.events)) requests
  pub replies : AllByRecursion (HasReply plain.replies) (all_ended course.events)
  pub names : (name : List ℕ) → is_bound course.state.bound name ≡ has_content plain.store name
  pub blocks : AllByRecursion (λ (b : Binding). ReadsAlike (read_last plan course.state b) (plain.store b.name))
      course.state.bound

-- the same of the run of a script over these images, with the journal's choices
-- Rule: healing faults.
abbrev pub IsStoredPlainly : Script → Images → List Choice → Type 0
IsStoredPlainly script images journal =
    IsPlainCourse (plan_of script images journal) (requests_of script.items) (plain_store script)
    (run_script script images journal)

-- ---- when it comes to that

-- every sector of the tops can stand in a pointer
abbrev pub FitPointers : List Top → Type 0
FitPointers tops = AllByRecursion (λ (top : Top). top.sectors ≤ SECTOR_END) tops

-- A script that heals is stored plainly, over images whose sectors fit pointers, where the journal refuses no single sector
-- and no two different byte strings met with one checksum.
-- Rule: healing faults.
abbrev pub IsStoredPlainlyIfHealed : Script → Images → List Choice → Type 0
IsStoredPlainlyIfHealed script images journal =
    IsHealed script → FitPointers (tops_of script images) → NoSmallRefused journal →
    AcceptsWhatWasGiven script images journal → IsStoredPlainly script images journal
