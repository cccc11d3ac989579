-- What a run meets whose script's faults heal, and when two runs answer alike.
use Rattle.std.specs.Prelude.{◌≡◌, List, Contains}
use Rattle.std.specs.List.{AllByRecursion}
use Rattle.zio_types.specs.Choices.{Choice}
use Rattle.zio_script.specs.declared.script.Script.{Script}
use Rattle.zio_cksum.specs.Images.{Images}
use Rattle.zio_gang.specs.Attempts.{Ended}
use Rattle.zio_gang.specs.Journals.{IsLawfulJournal}
use Rattle.zio_gang.specs.Runs.{Course, rounds_of, run_script}
use Rattle.zio_gang.specs.Trees.{sizes_of}
use Rattle.zio_report.specs.Meanings.{tops_of}
use Rattle.zio_report.specs.Reports.{all_ended}
use Rattle.zio_heal.specs.Alike.{IsAnsweredAlike}
use Rattle.zio_heal.specs.Given.{AcceptsWhatWasGiven}
use Rattle.zio_heal.specs.Healed.{IsHealed}
use Rattle.zio_heal.specs.PlainStore.{Reply}
use Rattle.zio_heal.specs.Pools.{NoSmallRefused}
use Rattle.zio_heal.specs.StoredPlainly.{FitPointers}

-- A run of a script that heals over these images, with the journal's choices: all that the law of healing asks for.
pub record IsHealingRun (script : Script) (images : Images) (journal : List Choice) : Type 0 where
  pub healed : IsHealed script
  pub lawful :
      IsLawfulJournal (sizes_of (tops_of script images)) (rounds_of (run_script script images journal).events) journal
  pub fit : FitPointers (tops_of script images)
  pub small : NoSmallRefused journal
  pub accepts : AcceptsWhatWasGiven script images journal

-- one of the replies is that of both requests
pub record HaveOneReply (replies : List Reply) (e f : Ended) : Type 0 where
  pub reply : Reply
  pub listed : Contains replies reply
  pub first : IsAnsweredAlike reply e
  pub second : IsAnsweredAlike reply f

-- of two runs, whatever ended in both under one number has one of these replies
abbrev pub AnswerAlike : List Reply → Course → Course → Type 0
AnswerAlike replies a b =
    AllByRecursion (λ (e : Ended). AllByRecursion
    (λ (f : Ended). e.request.number ≡ f.request.number → HaveOneReply replies e f) (all_ended b.events))
    (all_ended a.events)
