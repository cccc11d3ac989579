-- Pools, sizes and writes that placed writes stand on, and such that they don't.
use Rattle.std.proofs.Common.{◌≡◌, zero, suc, ◌≤◌, [], ◌∷◌, true, false, refl, arith}
use Rattle.zio_trace.specs.Separate.{LeavesHold, LeavesOnce}
use Rattle.zio_trace.specs.SoundRounds.{LeavesDiffer}
use Rattle.zio_heal.specs.PoolCases.{FoundIsFine, FourArent, HalfASectorIsnt, LargeMayBeRefused, LeafTwiceIsnt, MirrorIsAPool, NoBirthIsnt, NoLeafIsnt, NoneIsnt, NothingIsnt, OddUnitIsnt, OneSectorIsASize, SharedLeafIsnt, ShortLeafIsnt, SmallMayNot, ThreeCopiesAreWritten, TooLargeIsnt, top_of}

one_top : LeavesOnce (top_of 2 (0 ∷ 1 ∷ []) ∷ [])
one_top zero zero ne = absurd (ne refl)
one_top zero (suc k) ne = (tt, (tt, tt))
one_top (suc i) k ne = tt

leaves_differ : LeavesDiffer (top_of 2 (0 ∷ 1 ∷ []) ∷ [])
leaves_differ zero = (((λ e. absurd (cc)), tt), (tt, tt))
leaves_differ (suc i) = tt

hold : LeavesHold (λ leaf. 1024) (top_of 2 (0 ∷ 1 ∷ []) ∷ [])
hold zero = (omega arith, (omega arith, tt))
hold (suc i) = tt

pub mirror_is_a_pool : MirrorIsAPool
mirror_is_a_pool = record { once = one_top; twice = leaves_differ; hold = hold; few = omega arith; lawful = (refl, tt); short = (omega arith, tt); mirrored = (omega arith, tt) }

pub shared_leaf_isnt : SharedLeafIsnt
shared_leaf_isnt h = (h.once 0 1 (λ e. absurd (cc))).0.0 refl

pub leaf_twice_isnt : LeafTwiceIsnt
leaf_twice_isnt h = (h.twice 0).0.0 refl

pub short_leaf_isnt : ShortLeafIsnt
short_leaf_isnt h = let l : 1536 ≤ 1024 = (h.hold 0).0 in absurd (omega arith)

pub odd_unit_isnt : OddUnitIsnt
odd_unit_isnt h = let e : false ≡ true = h.lawful.0 in absurd (cc)

pub no_leaf_isnt : NoLeafIsnt
no_leaf_isnt h = let l : 1 ≤ 0 = h.mirrored.0 in absurd (omega arith)

pub one_sector_is_a_size : OneSectorIsASize
one_sector_is_a_size = record { some = omega arith; whole = refl; most = omega arith }

pub nothing_isnt : NothingIsnt
nothing_isnt h = let l = h.some in absurd (omega arith)

pub half_a_sector_isnt : HalfASectorIsnt
half_a_sector_isnt h = let e : 256 ≡ 0 = h.whole in absurd (omega arith)

pub too_large_isnt : TooLargeIsnt
too_large_isnt h = let l = h.most in absurd (omega arith)

pub three_copies_are_written : ThreeCopiesAreWritten
three_copies_are_written = record { one = omega arith; three = omega arith; some = omega arith; born = omega arith }

pub four_arent : FourArent
four_arent h = let l = h.three in absurd (omega arith)

pub none_isnt : NoneIsnt
none_isnt h = let l = h.one in absurd (omega arith)

pub no_birth_isnt : NoBirthIsnt
no_birth_isnt h = let l = h.some in absurd (omega arith)

pub found_is_fine : FoundIsFine
found_is_fine = ((λ e. refl), tt)

pub large_may_be_refused : LargeMayBeRefused
large_may_be_refused = ((λ e. let other : 1024 ≡ 512 = e in absurd (omega arith)), tt)

pub small_may_not : SmallMayNot
small_may_not h = let e : true ≡ false = h.0 refl in absurd (cc)
