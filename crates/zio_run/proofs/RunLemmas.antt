-- What a run on an engine leaves, by what is known of the engine and of the run.
use Rattle.std.proofs.Common.{◌≡◌, ℕ, List, Result, Ok, Err, Bool, false, sym, ◌∙◌, subst}
use Rattle.std.specs.Prelude.{MatchResult, OnOk}
use Rattle.zio_outside.specs.Outside.{AnyRose}
use Rattle.zio_gang.specs.declared.bound.Bound.{Bound}
use Rattle.zio_gang.specs.declared.ending.Ending.{Ending}
use Rattle.zio_gang.specs.declared.tree.Tree.{Tree}
use Rattle.zio_types.specs.declared.place.TopSize.{TopSize}
use Rattle.zio_cksum.proofs.AllLemmas.{all_weaker}
use Rattle.zio_course.specs.Runners.{Standing}
use Rattle.zio_report.specs.declared.report.RunFault.{RunFault}
use Rattle.zio_suspend.specs.Pools.{AreBlocks, trees_of}
use Rattle.zio_command.specs.declared.outcome.RunOutcome.{RunOutcome}
use Rattle.zio_command.specs.declared.outcome.RunOutcome.TheVariants.{Ended, Cut}

pub counts_rose : (old new : Standing) (olds news : List ℕ) → old.faults ≡ olds → new.faults ≡ news → AnyRose old.faults new.faults → AnyRose olds news
counts_rose old new olds news was is rose =
    subst (λ (ns : List ℕ). AnyRose olds ns) is (subst (λ (ns : List ℕ). AnyRose ns new.faults) was rose)

-- a run that wasn't cut short ran so many rounds and wasn't stopped, so this holds
pub left_so : {T E : Type 0} (ended : Result T E) (stopped : Bool) (last rounds : ℕ) (Left : ℕ → Type 0) → (stopped ≡ false → Left last)
    → OnOk ended (stopped ≡ false) → OnOk ended (last ≡ rounds) → OnOk ended (Left rounds)
left_so (Ok end) stopped last rounds Left left runs is = subst Left is (left runs)
left_so (Err fault) stopped last rounds Left left runs is = tt

pub fit_weaker : (P Q : Tree → Type 0) (tops : List TopSize) (blocks : List Bound) → ((tree : Tree) → P tree → Q tree) → AreBlocks P tops blocks → AreBlocks Q tops blocks
fit_weaker P Q tops blocks weaker are = record {
  once = are.once;
  order = are.order;
  fit = all_weaker P Q (trees_of blocks) weaker are.fit;
  inside = are.inside;
  apart = are.apart;
}

-- so it is where the outcome is that the run ended
pub ended_left : {Left : Type 0} (ended : Result Ending RunFault) (outcome : RunOutcome) (ending : Ending)
    → MatchResult ended (λ end. outcome ≡ Ended end) (λ fault. outcome ≡ Cut fault) → outcome ≡ Ended ending → OnOk ended Left → Left
ended_left (Ok end) outcome ending was is left = left
ended_left (Err fault) outcome ending was is left = absurd (let no : Cut fault ≡ Ended ending = sym was ∙ is in cc)
