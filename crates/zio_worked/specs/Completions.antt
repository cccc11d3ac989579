-- Which completions a journal may have of what finished in a run.
use Rattle.std.specs.Prelude.{List, [], ◌∷◌, Some, None}
use Rattle.zio_types.specs.declared.error.Errno.TheVariants.{Nxio, Io, Nospc, Noent}
use Rattle.zio_types.specs.declared.journal.Completion.{Completion}
use Rattle.zio_types.specs.Choices.{Choice}
use Rattle.zio_faults.specs.declared.table.FaultKind.TheVariants.{Eio, Gone}
use Rattle.zio_script.specs.declared.script.Failmode.TheVariants.{Wait}
use Rattle.zio_script.specs.declared.script.Script.{Script}
use Rattle.zio_cksum.specs.Images.{Images}
use Rattle.zio_gang.specs.Journals.{AreCompletions}
use Rattle.zio_worked.specs.Families.{null_script, null_choices, again_script, again_images, again_choices, refused_script, refused_choices}
use Rattle.zio_script.specs.Requests.{requests_of}
use Rattle.zio_worked.specs.Scripts.{completion, zeros, rounds_in}

-- the completions are lawful for the run under these choices
abbrev pub Complete : Script → Images → List Choice → List Completion → Type 0
Complete s images choices completions = AreCompletions (requests_of s.items) (rounds_in s images choices) completions

-- ---- a write, and a null over a read that fails

abbrev pub CompleteNull : List Completion → Type 0
CompleteNull completions = Complete (null_script Wait Eio) (zeros 4096 ∷ []) null_choices completions

abbrev pub for_write : Completion
for_write = completion 1 1 None

abbrev pub for_null : Completion
for_null = completion 2 2 (Some Io)

abbrev pub for_read : Completion
for_read = completion 3 2 (Some Io)

abbrev pub AllComplete : Type 0
AllComplete = CompleteNull (for_write ∷ for_read ∷ for_null ∷ [])

abbrev pub NumberTwice : Type 0
NumberTwice = ¬ CompleteNull (for_write ∷ for_read ∷ for_read ∷ for_null ∷ [])

abbrev pub ChildAfterParent : Type 0
ChildAfterParent = ¬ CompleteNull (for_write ∷ for_null ∷ for_read ∷ [])

abbrev pub OneIsMissing : Type 0
OneIsMissing = ¬ CompleteNull (for_write ∷ for_null ∷ [])

-- a read that failed hasn't finished without error
abbrev pub good_read : Completion
good_read = completion 3 2 None

abbrev pub OtherError : Type 0
OtherError = ¬ CompleteNull (for_write ∷ good_read ∷ for_null ∷ [])

-- the read was in the second round
abbrev pub early_read : Completion
early_read = completion 3 1 (Some Io)

abbrev pub OtherRound : Type 0
OtherRound = ¬ CompleteNull (for_write ∷ early_read ∷ for_null ∷ [])

-- ---- suspended trees

-- what is suspended doesn't complete
abbrev pub SuspendedAreLeft : Type 0
SuspendedAreLeft = Complete (null_script Wait Gone) (zeros 4096 ∷ []) null_choices (for_write ∷ [])

abbrev pub gone_read : Completion
gone_read = completion 3 2 (Some Nxio)

abbrev pub SuspendedCompletes : Type 0
SuspendedCompletes = ¬ Complete (null_script Wait Gone) (zeros 4096 ∷ []) null_choices (for_write ∷ gone_read ∷ [])

-- so it is with a completion in a round that wasn't run
abbrev pub late_read : Completion
late_read = completion 3 7 (Some Nxio)

abbrev pub RoundThatWasNotRun : Type 0
RoundThatWasNotRun = ¬ Complete (null_script Wait Gone) (zeros 4096 ∷ []) null_choices (for_write ∷ late_read ∷ [])

-- a child that finished in the first round completes there, and not again with its parent
abbrev pub EachInItsRound : Type 0
EachInItsRound =
    Complete again_script again_images again_choices
    (completion 2 1 None ∷ completion 3 2 None ∷ completion 1 2 None ∷ completion 4 3 None ∷ [])

-- ---- admission

-- what admission answered completes too
abbrev pub AnsweredComplete : Type 0
AnsweredComplete =
    Complete refused_script (zeros 4096 ∷ []) refused_choices
    (completion 1 1 None
    ∷ completion 3 2 (Some Nospc)
    ∷ completion 2 2 (Some Nospc)
    ∷ completion 4 3 (Some Noent)
    ∷ completion 5 4 None ∷ [])
