-- The round of the example is sound.
use Rattle.std.proofs.Common.{◌≢◌, ℕ, zero, suc, ◌≤◌, List, [], Some, ◌⊎◌, inl, inr, refl, arith}
use Rattle.std.specs.List.{AllByRecursion}
use Rattle.std.specs.Prelude.{codes}
use Rattle.zio_types.specs.declared.request.Prio.TheVariants.{SyncRead}
use Rattle.zio_script.specs.declared.script.Work.TheVariants.{Read}
use Rattle.zio_cksum.proofs.AllLemmas.{all_contains}
use Rattle.zio_gang.specs.Attempts.{Pending}
use Rattle.zio_gang.specs.Trees.{sizes_of}
use Rattle.zio_trace.specs.Families.{flat}
use Rattle.zio_trace.specs.Keys.{count_in}
use Rattle.zio_trace.specs.RoundExamples.{asking, block_of_x, first_sector, leaves_of_four, mirror_of_two, two_reads_and_a_write}
use Rattle.zio_trace.specs.Separate.{BlocksApart, LeavesHold, LeavesOnce}
use Rattle.zio_trace.specs.SoundRounds.{IsOwnBlock, IsSoundRound, LeavesDiffer, ReadOneBlock}
use Rattle.zio_trace.proofs.ListLemmas.{contains_first}
use Rattle.zio_trace.proofs.ValidBlocks.{valid_sound}

once : (n : ℕ) → count_in n two_reads_and_a_write ≤ 1
once zero = omega arith
once (suc zero) = omega arith
once (suc (suc zero)) = omega arith
once (suc (suc (suc zero))) = omega arith
once (suc (suc (suc (suc n)))) = omega arith

one_top : LeavesOnce mirror_of_two.setting.tops
one_top zero zero ne = absurd (ne refl)
one_top zero (suc k) ne = (tt, (tt, tt))
one_top (suc i) k ne = tt

leaves_differ : LeavesDiffer mirror_of_two.setting.tops
leaves_differ zero = (((λ e. absurd (cc)), tt), (tt, tt))
leaves_differ (suc i) = tt

hold : LeavesHold leaves_of_four mirror_of_two.setting.tops
hold zero = (omega arith, (omega arith, tt))
hold (suc i) = tt

abbrev requests : List Pending
requests = flat two_reads_and_a_write

own_block : IsOwnBlock (sizes_of mirror_of_two.setting.tops) mirror_of_two.used block_of_x
own_block = record {
  sound = valid_sound (sizes_of mirror_of_two.setting.tops) mirror_of_two.used block_of_x (refl, tt) (contains_first first_sector [], tt) (refl, tt);
  own = refl;
}

abbrev May : Pending → Pending → Type 0
May p q = p.request.number ≢ q.request.number → BlocksApart p.block q.block ⊎ ReadOneBlock mirror_of_two p q

both_read : (n m : ℕ) → ReadOneBlock mirror_of_two (asking n (Read (codes "x") SyncRead) (Some block_of_x)) (asking m (Read (codes "x") SyncRead) (Some block_of_x))
both_read n m = record { first = tt; second = tt; same = refl; rows = tt }

all_may : AllByRecursion (λ (p : Pending). AllByRecursion (May p) requests) requests
all_may = (
  ((λ ne. inr (both_read 1 1)), ((λ ne. inr (both_read 1 2)), ((λ ne. inl tt), tt))),
  (
    ((λ ne. inr (both_read 2 1)), ((λ ne. inr (both_read 2 2)), ((λ ne. inl tt), tt))),
    (((λ ne. inl tt), ((λ ne. inl tt), ((λ ne. inl tt), tt))), tt),
  ),
)

pub example_sound : IsSoundRound mirror_of_two leaves_of_four two_reads_and_a_write
example_sound = record {
  trees = ((refl, tt, tt, tt, tt), ((refl, tt, tt, tt, tt), ((refl, tt, tt, tt, tt), tt)));
  numbers = once;
  once = one_top;
  twice = leaves_differ;
  hold = hold;
  blocks = (own_block, (own_block, (tt, tt)));
  different = λ p q cp cq. all_contains (May p) requests q (all_contains (λ (x : Pending). AllByRecursion (May x) requests) requests p all_may cp) cq;
  claims = inl (tt, (tt, (tt, tt)));
}
