-- Blocks that are safe and requests that may run, and such that aren't or may not.
use Rattle.std.proofs.Common.{◌≡◌, ℕ, zero, suc, List, [], ◌∷◌, get_or, true, false, Some, None, inl, inr, refl, sym, ap, ◌∙◌, arith}
use Rattle.zio_cksum.specs.Blocks.{spot_in}
use Rattle.zio_cksum.specs.Images.{Spot}
use Rattle.zio_gang.specs.Attempts.{attempt_each, settle_from}
use Rattle.zio_gang.specs.Rounds.{settle_each}
use Rattle.zio_gang.specs.Trees.{sizes_of}
use Rattle.zio_trace.specs.Leaves.{HaveSizes}
use Rattle.zio_trace.specs.RoundExamples.{block_of_x, first_sector, mirror_of_two}
use Rattle.zio_trace.specs.Separate.{LeavesHold, LeavesOnce}
use Rattle.zio_trace.specs.SoundRounds.{IsOwnBlock, LeavesDiffer}
use Rattle.zio_trace.proofs.ListLemmas.{contains_first}
use Rattle.zio_trace.proofs.ValidBlocks.{valid_sound}
use Rattle.zio_heal.specs.Contents.{HasPieces}
use Rattle.zio_heal.specs.ContentCases.{letters}
use Rattle.zio_heal.specs.SafeCases.{ChildIsInFront, FoundZerosArent, GaveContent, GaveError, GaveOther, IdleEndsSafely, IdleStartsSafely, MadeNothing, NothingDoesnt, OrphanIsLeft, OtherContentIsnt, ParentInFrontHasnt, PointerFits, ReadAndFreeDont, ReadHasItsBlock, ReadOfNobodyHasnt, TwoNamesArent, TwoReadsShare, UnusedDoesnt, WriteOfBoundMayNot, XIsSafe, ZerosAreSafe, sizes_of_zeros, zeros}

abbrev first_spot : Spot
first_spot = record { leaf = 0; at = 0; span = 512 }

pub zeros_are_safe : ZerosAreSafe
zeros_are_safe = record {
  held = record {
    is_good = record { size = refl; good = refl };
    copy = record { spot = first_spot; listed = contains_first first_spot (spot_in first_sector 1 ∷ []); there = refl };
  };
  given = refl;
}

pub found_zeros_arent : FoundZerosArent
found_zeros_arent h = let e : None ≡ Some (letters 0) = h.given in absurd (cc)

own_block : IsOwnBlock (sizes_of mirror_of_two.setting.tops) (first_sector ∷ []) block_of_x
own_block = record {
  sound = valid_sound (sizes_of mirror_of_two.setting.tops) (first_sector ∷ []) block_of_x (refl, tt) (contains_first first_sector [], tt) (refl, tt);
  own = refl;
}

pub x_is_safe : XIsSafe
unfolding HasPieces
x_is_safe = record { once = (tt, tt); blocks = (record { own = own_block; pieces = zeros_are_safe }, tt); apart = (tt, tt) }

other_first : (xs ys : List ℕ) (a b : ℕ) → get_or xs 0 0 ≡ a → get_or ys 0 0 ≡ b → (a ≡ b → ⊥) → xs ≡ ys → ⊥
other_first xs ys a b x y ne e = ne (sym x ∙ ap (λ (l : List ℕ). get_or l 0 0) e ∙ y)

some_is : (a b : List ℕ) → Some a ≡ Some b → a ≡ b
some_is a b e = cc

pub other_content_isnt : OtherContentIsnt
unfolding HasPieces
other_content_isnt h = other_first (letters 0) (letters 65) 0 65 refl refl (λ (e : 0 ≡ 65). omega (arith, e)) (some_is (letters 0) (letters 65) h.blocks.0.pieces.given)

pub two_names_arent : TwoNamesArent
two_names_arent h = let e : true ≡ false = h.apart.0.0.0.0 in absurd (cc)

pub read_has_its_block : ReadHasItsBlock
read_has_its_block = record { there = refl; is = refl }

pub read_of_nobody_hasnt : ReadOfNobodyHasnt
read_of_nobody_hasnt h = let e : false ≡ true = h.there in absurd (cc)

pub write_of_bound_may_not : WriteOfBoundMayNot
write_of_bound_may_not h = let e : true ≡ false = h.1 in absurd (cc)

pub pointer_fits : PointerFits
pointer_fits = (record { one = omega arith; three = omega arith; some = omega arith; born = omega arith }, record { some = omega arith; whole = refl; most = omega arith })

pub nothing_doesnt : NothingDoesnt
nothing_doesnt h = let l = h.1.some in absurd (omega arith)

pub child_is_in_front : ChildIsInFront
child_is_in_front = (refl, (refl, tt))

pub parent_in_front_hasnt : ParentInFrontHasnt
parent_in_front_hasnt h = let e : 0 ≡ 1 = h.0 in absurd (omega arith)

pub two_reads_share : TwoReadsShare
two_reads_share = inr (tt, tt)

pub read_and_free_dont : ReadAndFreeDont
read_and_free_dont (inl e) = absurd (cc)
read_and_free_dont (inr both) = both.1

pub gave_content : GaveContent
gave_content = record { none = refl; answered = refl }

pub gave_other : GaveOther
gave_other h = other_first (letters 65) (letters 0) 65 0 refl refl (λ (e : 65 ≡ 0). omega (arith, e)) h.answered

pub gave_error : GaveError
gave_error h = let e = h.none in absurd (cc)

pub made_nothing : MadeNothing
made_nothing h = let e = h.answered.is in absurd (cc)

one_top : LeavesOnce mirror_of_two.setting.tops
one_top zero zero ne = absurd (ne refl)
one_top zero (suc k) ne = (tt, (tt, tt))
one_top (suc i) k ne = tt

leaves_differ : LeavesDiffer mirror_of_two.setting.tops
leaves_differ zero = (((λ e. absurd (cc)), tt), (tt, tt))
leaves_differ (suc i) = tt

hold : LeavesHold sizes_of_zeros mirror_of_two.setting.tops
hold zero =
    let a : sizes_of_zeros 0 ≡ 2048 = refl in
    let b : sizes_of_zeros 1 ≡ 2048 = refl in
    (omega (arith, a), (omega (arith, b), tt))
hold (suc i) = tt

sizes_are : HaveSizes sizes_of_zeros zeros
sizes_are leaf = refl

pub idle_starts_safely : IdleStartsSafely
unfolding settle_each
idle_starts_safely = record {
  pool = record { once = one_top; twice = leaves_differ; hold = hold; few = omega arith; lawful = (refl, tt); short = (omega arith, tt); mirrored = (omega arith, tt) };
  sizes_are = sizes_are;
  stores = tt;
  used = refl;
  safe = x_is_safe;
  ready = record { each = tt; kids = tt; numbers = tt; names = tt };
  lawful = record { distinct = tt; asked = tt; answered = tt; lawful = tt };
  accepts = tt;
}

pub unused_doesnt : UnusedDoesnt
unused_doesnt h = let e = h.used in absurd (cc)

pub idle_ends_safely : IdleEndsSafely
unfolding settle_each
idle_ends_safely = record {
  after = λ name. letters 0;
  sizes_are = sizes_are;
  safe = x_is_safe;
  others = λ name bound. refl;
  ended = tt;
  ready = record { each = tt; kids = tt; numbers = tt; names = tt };
  clean = λ past small. refl;
}

pub orphan_is_left : OrphanIsLeft
unfolding settle_each settle_from attempt_each
orphan_is_left h = let none = h.clean tt tt in absurd (cc)
