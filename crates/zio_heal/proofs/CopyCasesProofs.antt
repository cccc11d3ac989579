-- Copies on a leaf of two sectors, and operations that spare them or don't.
use Rattle.std.proofs.Common.{◌≡◌, ◌≢◌, ◌≤◌, ◌+◌, ℕ, List, [], ◌∷◌, get_or, true, false, ◌⊎◌, inl, inr, ⊎_elim, refl, ap, ◌∙◌, arith}
use Rattle.zio_cksum.specs.Images.{Spot, bytes_at}
use Rattle.zio_cksum.proofs.AllLemmas.{all_contains}
use Rattle.zio_trace.specs.Leaves.{AreClear}
use Rattle.zio_trace.specs.TraceExamples.{copy_of_x, two_sectors}
use Rattle.zio_trace.proofs.ListLemmas.{contains_first}
use Rattle.zio_heal.specs.CopyCases.{FailedReadSpares, FailedWritesStoreNothing, NeighboursAreElsewhere, NoSpotNoCopy, OneByteMeets, OnesArent, OtherReadDoesnt, RowStillHolds, RowsArePast, SingleWriteDoesnt, SpaceActsSpare, TrueReadSpares, TurnedWritesStoreOthers, WriteElsewhereSpares, WriteOverItDoesnt, ZerosAreThere, spot}

pub zeros_are_there : ZerosAreThere
zeros_are_there = record { spot = copy_of_x; listed = contains_first copy_of_x []; there = refl }

pub ones_arent : OnesArent
ones_arent h =
    let is : copy_of_x ≡ h.spot = all_contains (λ (t : Spot). copy_of_x ≡ t) (copy_of_x ∷ []) h.spot (refl, tt) h.listed in
    let e : 0 ∷ [] ≡ 1 ∷ [] = ap (λ (t : Spot). bytes_at two_sectors t 1) is ∙ h.there in
    let no : 0 ≡ 1 = ap (λ (xs : List ℕ). get_or xs 0 0) e in
    absurd (omega (arith, no))

pub no_spot_no_copy : NoSpotNoCopy
no_spot_no_copy h = all_contains (λ (t : Spot). ⊥) [] h.spot tt h.listed

-- places on one leaf that meet aren't clear
meet : (t u : Spot) → t.leaf ≡ u.leaf → (t.at + t.span ≤ u.at → ⊥) → (u.at + u.span ≤ t.at → ⊥) → AreClear t u → ⊥
meet t u leaf before behind clear =
    ⊎_elim (λ (ne : t.leaf ≢ u.leaf). ne leaf)
    (λ (far : (t.at + t.span ≤ u.at) ⊎ (u.at + u.span ≤ t.at)). ⊎_elim before behind far) clear

pub neighbours_are_elsewhere : NeighboursAreElsewhere
neighbours_are_elsewhere = ((inr (inr (omega arith)), (inr (inl (omega arith)), tt)), tt)

pub one_byte_meets : OneByteMeets
one_byte_meets h = meet copy_of_x (spot 0 513) refl (λ a. omega (arith, a)) (λ a. omega (arith, a)) h.0.0

pub failed_writes_store_nothing : FailedWritesStoreNothing
failed_writes_store_nothing = (refl, (refl, tt))

pub turned_writes_store_others : TurnedWritesStoreOthers
turned_writes_store_others h = let e : true ≡ false = h.0 in absurd (cc)

pub rows_are_past : RowsArePast
rows_are_past = (omega arith, tt)

pub row_still_holds : RowStillHolds
row_still_holds h = let e : 2 ≤ 1 = h.0 in absurd (omega (arith, e))

pub write_elsewhere_spares : WriteElsewhereSpares
write_elsewhere_spares = ((omega arith, tt), ((inr (inr (omega arith)), tt), tt))

pub write_over_it_doesnt : WriteOverItDoesnt
write_over_it_doesnt h = meet copy_of_x copy_of_x refl (λ a. omega (arith, a)) (λ a. omega (arith, a)) h.1.0.0

pub true_read_spares : TrueReadSpares
true_read_spares = ((omega arith, tt), inl (record { same = refl; gives = refl }))

pub failed_read_spares : FailedReadSpares
failed_read_spares = ((omega arith, tt), inl (record { same = refl; gives = tt }))

pub other_read_doesnt : OtherReadDoesnt
other_read_doesnt h =
    ⊎_elim
    (λ here. let no : 66 ≡ 65 = ap (λ (xs : List ℕ). get_or xs 0 0) here.gives in absurd (omega (arith, no)))
    (λ clear. meet copy_of_x copy_of_x refl (λ a. omega (arith, a)) (λ a. omega (arith, a)) clear.0.0) h.1

pub space_acts_spare : SpaceActsSpare
space_acts_spare = tt

pub single_write_doesnt : SingleWriteDoesnt
single_write_doesnt h = h
