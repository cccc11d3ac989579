use Rattle.zio_trace.specs.Conflicts.{TaskLies}
use Rattle.zio_trace.specs.Entries.{any_rules, any_ways}
use Rattle.zio_trace.specs.Passing.{Passes}
use Rattle.zio_trace.specs.Rounds.{plan_round}
use Rattle.zio_trace.proofs.FinishLemmas.{going_does, going_ends}
use Rattle.zio_trace.proofs.GoingLemmas.{going_arrives, going_begins, going_from_front, going_grows, going_roots, going_roots_end, going_to_front}
use Rattle.zio_trace.proofs.OnceKeys.{any_laws}
use Rattle.zio_trace.proofs.engines.an_engine_goes_through_a_round.Goals as goal

pub returns : goal.returns
returns c = record {
  begins = λ t sizes shared f. going_begins (any_ways t) (Passes t.setting shared) (TaskLies sizes) (λ op v. v) (plan_round f);
  hands_out = λ t sizes shared f. going_grows (any_ways t) (Passes t.setting shared) (TaskLies sizes) (λ op v. v) (plan_round f);
  round_hands_out = λ t sizes shared f. going_roots (any_ways t) (Passes t.setting shared) (TaskLies sizes) (λ op v. v) (plan_round f);
  does = λ t sizes shared f ds s slots root outs x more v h none rest single lies clear.
      going_does (any_rules t sizes) (any_laws t sizes) (Passes t.setting shared) (plan_round f) ds s slots root outs x more v h none rest single lies (λ i. v) clear;
  arrives = λ t sizes shared f. going_arrives (any_ways t) (Passes t.setting shared) (TaskLies sizes) (λ op v. v) (plan_round f);
  round_hears = λ t sizes shared f. going_roots_end (any_ways t) (Passes t.setting shared) (TaskLies sizes) (λ op v. v) (plan_round f);
  to_front = λ t sizes shared f. going_to_front (any_ways t) (Passes t.setting shared) (TaskLies sizes) (λ op v. v) (plan_round f);
  from_front = λ t sizes shared f. going_from_front (any_ways t) (Passes t.setting shared) (TaskLies sizes) (λ op v. v) (plan_round f);
  ends = λ t sizes shared f. going_ends (any_rules t sizes) (any_laws t sizes) (Passes t.setting shared) (plan_round f);
}
