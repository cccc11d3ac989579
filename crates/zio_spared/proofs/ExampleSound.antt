-- The round of the example is sound, and names the piece, of which a copy is good.
use Rattle.std.proofs.Common.{◌≡◌, ◌≢◌, ℕ, zero, suc, ◌≤◌, [], ◌∷◌, Contains, inl, refl, arith}
use Rattle.zio_cksum.specs.Sums.{fletcher4, fletcher_after}
use Rattle.zio_gang.specs.Attempts.{Pending}
use Rattle.zio_gang.specs.Trees.{sizes_of}
use Rattle.zio_trace.specs.BlockCopies.{copies_from}
use Rattle.zio_trace.specs.Families.{flat}
use Rattle.zio_trace.specs.Keys.{count_in}
use Rattle.zio_trace.specs.Separate.{LeavesHold, LeavesOnce}
use Rattle.zio_trace.specs.SoundRounds.{IsOwnBlock, IsSoundRound, LeavesDiffer}
use Rattle.zio_trace.proofs.ChoiceLemmas.{one_contained}
use Rattle.zio_trace.proofs.ListLemmas.{contains_first, contains_later}
use Rattle.zio_trace.proofs.ValidBlocks.{valid_sound}
use Rattle.zio_spared.specs.Spared.{HasGood, IsGoodIn, IsNamedPiece}
use Rattle.zio_spared.specs.SparedExamples.{block_of_x, copy_on, first_is_bad, leaves_of_one, mirror_of_two, one_read, only_sector, piece_of_x, read_of_x}

once : (n : ℕ) → count_in n one_read ≤ 1
once zero = omega arith
once (suc zero) = omega arith
once (suc (suc n)) = omega arith

one_top : LeavesOnce mirror_of_two.setting.tops
one_top zero zero ne = absurd (ne refl)
one_top zero (suc k) ne = (tt, (tt, tt))
one_top (suc i) k ne = tt

leaves_differ : LeavesDiffer mirror_of_two.setting.tops
leaves_differ zero = (((λ e. absurd (cc)), tt), (tt, tt))
leaves_differ (suc i) = tt

hold : LeavesHold leaves_of_one mirror_of_two.setting.tops
hold zero = (omega arith, (omega arith, tt))
hold (suc i) = tt

own_block : IsOwnBlock (sizes_of mirror_of_two.setting.tops) mirror_of_two.used block_of_x
own_block = record {
  sound = valid_sound (sizes_of mirror_of_two.setting.tops) mirror_of_two.used block_of_x (refl, tt) (contains_first only_sector [], tt) (refl, tt);
  own = refl;
}

only_one : (p q : Pending) → Contains (flat one_read) p → Contains (flat one_read) q → p.request.number ≢ q.request.number → ⊥
only_one p q cp cq ne =
    let is_p : read_of_x ≡ p = one_contained read_of_x p cp in
    let is_q : read_of_x ≡ q = one_contained read_of_x q cq in
    ne (λ i. ((let same : p ≡ q = cc in same) i).request.number)

pub example_sound : IsSoundRound mirror_of_two leaves_of_one one_read
example_sound = record {
  trees = ((refl, tt, tt, tt, tt), tt);
  numbers = once;
  once = one_top;
  twice = leaves_differ;
  hold = hold;
  blocks = (own_block, tt);
  different = λ p q cp cq ne. absurd (only_one p q cp cq ne);
  claims = inl (tt, tt);
}

pub piece_named : IsNamedPiece one_read piece_of_x
unfolding copies_from
piece_named = record {
  tree = block_of_x;
  named = (read_of_x, contains_first read_of_x [], refl);
  piece = contains_first piece_of_x [];
}

second_good : IsGoodIn first_is_bad piece_of_x (copy_on 1)
unfolding fletcher4 fletcher_after
second_good = refl

pub some_good : HasGood mirror_of_two.setting first_is_bad piece_of_x
some_good = record {
  spot = copy_on 1;
  listed = contains_later (copy_on 0) (copy_on 1 ∷ []) (copy_on 1) (contains_first (copy_on 1) []);
  good = second_good;
}
