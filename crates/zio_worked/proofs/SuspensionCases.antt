use Rattle.std.proofs.Common.{refl}
use Rattle.zio_worked.proofs.Evaluation.{evaluation}
use Rattle.zio_worked.specs.Suspension.{FourthAttemptSuspends, FourAttemptsAsk, WaitingComesFirst, WaitingAsksOnce, NextBatchIsHeld, NextBatchGoesOn, PanicEndsTheRun, ClearResumes, ClearRaisesThePoint, SuspendedTreesShareARound, SecondBatchStaysHeld, SecondClearRunsTheRest, NoSpaceSuspends, NoSpaceAsksOnce, NoSpaceFails, FreedSpaceServesLater, FreeWaits, FreeFails, ReadGoesAgainWithItsChild, ChildUnderABadReadAsksFourTimes, BlockOfTheSecondSuspendedTreeIsKept}

pub fourth_attempt_suspends : FourthAttemptSuspends
unfolding evaluation
fourth_attempt_suspends = refl

pub four_attempts_ask : FourAttemptsAsk
unfolding evaluation
four_attempts_ask = refl

pub waiting_comes_first : WaitingComesFirst
unfolding evaluation
waiting_comes_first = refl

pub waiting_asks_once : WaitingAsksOnce
unfolding evaluation
waiting_asks_once = refl

pub next_batch_is_held : NextBatchIsHeld
unfolding evaluation
next_batch_is_held = refl

pub next_batch_goes_on : NextBatchGoesOn
unfolding evaluation
next_batch_goes_on = refl

pub panic_ends_the_run : PanicEndsTheRun
unfolding evaluation
panic_ends_the_run = refl

pub clear_resumes : ClearResumes
unfolding evaluation
clear_resumes = refl

pub clear_raises_the_point : ClearRaisesThePoint
unfolding evaluation
clear_raises_the_point = refl

pub suspended_trees_share_a_round : SuspendedTreesShareARound
unfolding evaluation
suspended_trees_share_a_round = refl

pub second_batch_stays_held : SecondBatchStaysHeld
unfolding evaluation
second_batch_stays_held = refl

pub second_clear_runs_the_rest : SecondClearRunsTheRest
unfolding evaluation
second_clear_runs_the_rest = refl

pub no_space_suspends : NoSpaceSuspends
unfolding evaluation
no_space_suspends = refl

pub no_space_asks_once : NoSpaceAsksOnce
unfolding evaluation
no_space_asks_once = refl

pub no_space_fails : NoSpaceFails
unfolding evaluation
no_space_fails = refl

pub freed_space_serves_later : FreedSpaceServesLater
unfolding evaluation
freed_space_serves_later = refl

pub free_waits : FreeWaits
unfolding evaluation
free_waits = refl

pub free_fails : FreeFails
unfolding evaluation
free_fails = refl

pub read_goes_again_with_its_child : ReadGoesAgainWithItsChild
unfolding evaluation
read_goes_again_with_its_child = refl

pub child_under_a_bad_read_asks_four_times : ChildUnderABadReadAsksFourTimes
unfolding evaluation
child_under_a_bad_read_asks_four_times = refl

pub block_of_the_second_suspended_tree_is_kept : BlockOfTheSecondSuspendedTreeIsKept
unfolding evaluation
block_of_the_second_suspended_tree_is_kept = refl
