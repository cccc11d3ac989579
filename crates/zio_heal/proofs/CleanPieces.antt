-- With no row met, and no sector refused, a piece is written without error and every ask of one sector has its places.
use Rattle.std.proofs.Common.{◌≡◌, ℕ, zero, suc, ◌≤◌, List, [], ◌∷◌, length, map, find, Bool, true, false, cond, nat_lt, Option, Some, None, IsTrue, Contains, ◌⊎◌, inl, inr, ⊎_elim, refl, sym, ap, ◌∙◌, eqb-true, arith}
use Rattle.std.proofs.lemmas.Bool.{and_parts, false≢true}
use Rattle.std.specs.Prelude.{slice_get}
use Rattle.std.specs.List.{AllByRecursion}
use Rattle.zio_types.specs.declared.error.Errno.{Errno}
use Rattle.zio_types.specs.declared.place.Place.{Place}
use Rattle.zio_types.specs.declared.place.Top.{Top}
use Rattle.zio_types.specs.Choices.{Ask, Choice, is_refused, same_ask}
use Rattle.zio_types.specs.Errors.{worst_error, worst_of}
use Rattle.zio_types.specs.Places.{is_below, is_inside, sector_size}
use Rattle.zio_faults.specs.declared.table.Hit.{Hit}
use Rattle.zio_cksum.specs.Blocks.{Writes, again_with, all_errors, blame, error_if, in_turn, leaves_of, leaves_of_top, spot_in, write_pass, write_piece, write_place}
use Rattle.zio_cksum.specs.Images.{Images, Setting, Spot, Written, padded_to, write_leaf, write_met}
use Rattle.zio_cksum.proofs.AllLemmas.{all_contains, all_weaker}
use Rattle.zio_gang.specs.Journals.{asks_of, choices_in}
use Rattle.zio_gang.specs.Trees.{size_of, sizes_of}
use Rattle.zio_gang.specs.Writes.{chosen, places_chosen, places_unless}
use Rattle.zio_gang.proofs.JournalLemmas.{same_ask_itself}
use Rattle.zio_trace.proofs.ChoiceLemmas.{contained_cases, in_journal, keys_same}
use Rattle.zio_trace.proofs.ListLemmas.{contains_first, contains_later}
use Rattle.zio_trace.proofs.PairLemmas.{contains_mapped}
use Rattle.zio_heal.specs.Copies.{IsPastFaults}
use Rattle.zio_heal.specs.Pools.{IsPool, NoSmallRefused}
use Rattle.zio_heal.proofs.FaultLemmas.{none_met}

-- ---- a piece

leaf_clean : (s : Setting) (retry : Bool) (bytes : List ℕ) (images : Images) (spot : Spot) → IsPastFaults s → (write_leaf s retry bytes images spot).error ≡ None
leaf_clean s retry bytes images spot past = ap (λ (m : Option Hit). (write_met m images spot (padded_to spot.span bytes)).error) (none_met s retry true spot past)

first_none : (e : Option Errno) (errors : List (Option Errno)) → e ≡ None → all_errors (e ∷ errors) ≡ false
first_none None errors h = refl
first_none (Some e) errors h = absurd (cc)

spots_clean : (s : Setting) (retry : Bool) (bytes : List ℕ) (spots : List Spot) (images : Images) → IsPastFaults s → 1 ≤ length spots → all_errors (in_turn (write_leaf s retry bytes) spots images).errors ≡ false
spots_clean s retry bytes [] images past some = absurd (omega arith)
spots_clean s retry bytes (t ∷ spots) images past some =
    first_none (write_leaf s retry bytes images t).error (in_turn (write_leaf s retry bytes) spots (write_leaf s retry bytes images t).images).errors (leaf_clean s retry bytes images t past)

mapped_some : (p : Place) (leaves : List ℕ) → 1 ≤ length leaves → 1 ≤ length (map (spot_in p) leaves)
mapped_some p [] h = h
mapped_some p (l ∷ leaves) h = omega arith

place_clean : (s : Setting) (retry : Bool) (bytes : List ℕ) (images : Images) (p : Place) → IsPastFaults s → 1 ≤ length (leaves_of s p) → (write_place s retry bytes images p).error ≡ None
place_clean s retry bytes images p past some =
    let w : Writes = in_turn (write_leaf s retry bytes) (map (spot_in p) (leaves_of s p)) images in
    ap (λ (b : Bool). error_if b (Some (blame w.errors))) (spots_clean s retry bytes (map (spot_in p) (leaves_of s p)) images past (mapped_some p (leaves_of s p) some))

pub worst_none : (a b : Option Errno) → a ≡ None → b ≡ None → worst_error a b ≡ None
worst_none a b ea eb = ap (λ (x : Option Errno). worst_error x b) ea ∙ ap (worst_error None) eb

pass_clean : (s : Setting) (retry : Bool) (bytes : List ℕ) (places : List Place) (images : Images) → IsPastFaults s → AllByRecursion (λ (p : Place). 1 ≤ length (leaves_of s p)) places → worst_of (in_turn (write_place s retry bytes) places images).errors ≡ None
pass_clean s retry bytes [] images past some = refl
pass_clean s retry bytes (p ∷ places) images past some =
    worst_none (write_place s retry bytes images p).error (worst_of (in_turn (write_place s retry bytes) places (write_place s retry bytes images p).images).errors)
    (place_clean s retry bytes images p past some.0) (pass_clean s retry bytes places (write_place s retry bytes images p).images past some.1)

first_counts : (e : Option Errno) (w : Written) (again : Images → Written) → w.error ≡ e → e ≡ None → (again_with e w again).error ≡ None
first_counts None w again is none = is
first_counts (Some e) w again is none = absurd (cc)

-- a piece at places that have leaves
pub piece_clean : (s : Setting) (bytes : List ℕ) (places : List Place) (images : Images) → IsPastFaults s → AllByRecursion (λ (p : Place). 1 ≤ length (leaves_of s p)) places → (write_piece s bytes places images).error ≡ None
piece_clean s bytes places images past some =
    first_counts (write_pass s false bytes places images).error (write_pass s false bytes places images) (write_pass s true bytes places) refl (pass_clean s false bytes places images past some)

-- ---- leaves

top_leaves : (tops : List Top) (i : ℕ) (p : Place) → AllByRecursion (λ (top : Top). 1 ≤ length top.leaves) tops → IsTrue (is_below p (slice_get (map size_of tops) i)) → 1 ≤ length (leaves_of_top (slice_get tops i))
top_leaves [] i p some below = absurd (false≢true below)
top_leaves (top ∷ tops) zero p some below = some.0
top_leaves (top ∷ tops) (suc i) p some below = top_leaves tops i p some.1 below

pub have_leaves : (s : Setting) (sizes : ℕ → ℕ) (places : List Place) → IsPool sizes s.tops → AllByRecursion (λ (p : Place). IsTrue (is_inside (sizes_of s.tops) p)) places → AllByRecursion (λ (p : Place). 1 ≤ length (leaves_of s p)) places
have_leaves s sizes places pool inside =
    all_weaker (λ (p : Place). IsTrue (is_inside (sizes_of s.tops) p)) (λ (p : Place). 1 ≤ length (leaves_of s p)) places (λ p k. top_leaves s.tops p.top p pool.mirrored k) inside

-- ---- asks of one sector

-- what a look-up finds
record IsFound (test : Choice → Bool) (xs : List Choice) : Type 0 where
  choice : Choice
  is : find test xs ≡ Some choice
  listed : Contains xs choice
  passes : test choice ≡ true

find_step : (found : Bool) (test : Choice → Bool) (x : Choice) (xs : List Choice) → test x ≡ found → (found ≡ true) ⊎ IsFound test xs → IsFound test (x ∷ xs)
find_step true test x xs e k = record { choice = x; is = ap (λ (b : Bool). cond b (Some x) (find test xs)) e; listed = contains_first x xs; passes = e }
find_step false test x xs e k =
    ⊎_elim
    (λ (no : false ≡ true). absurd (cc))
    (λ (f : IsFound test xs). record { choice = f.choice; is = ap (λ (b : Bool). cond b (Some x) (find test xs)) e ∙ f.is; listed = contains_later x xs f.choice f.listed; passes = f.passes })
    k

find_some : (test : Choice → Bool) (xs : List Choice) (c : Choice) → Contains xs c → test c ≡ true → IsFound test xs
find_some test [] c listed passes = absurd (all_contains (λ (x : Choice). ⊥) [] c tt listed)
find_some test (x ∷ xs) c listed passes =
    find_step (test x) test x xs refl
    (⊎_elim
    (λ (same : x ≡ c). inl (ap test same ∙ passes))
    (λ (later : Contains xs c). inr (find_some test xs c later passes))
    (contained_cases x xs c listed))

-- the round's choices have the ask
abbrev pub IsAnswered : List Choice → ℕ → Ask → Type 0
IsAnswered journal round ask = Contains (asks_of (choices_in round journal)) ask

-- a choice for one sector has its places
pub small_found : (journal : List Choice) (round : ℕ) (ask : Ask) → NoSmallRefused journal → IsAnswered journal round ask → ask.size ≡ sector_size → (places : List Place) × (chosen journal ask ≡ Some places)
small_found journal round ask small answered size =
    let from = contains_mapped (λ (c : Choice). c.asked) (choices_in round journal) ask answered in
    let f : IsFound (λ (c : Choice). same_ask c.asked ask) journal =
    find_some (λ (c : Choice). same_ask c.asked ask) journal from.0 (in_journal journal round from.0 from.1)
    (ap (λ (a : Ask). same_ask a ask) from.2 ∙ same_ask_itself ask) in
    let c : Choice = f.choice in
    let copies : c.asked.copies ≡ ask.copies = (keys_same c ask f.passes).2 in
    let sizes : c.asked.size ≡ ask.size = eqb-true c.asked.size ask.size (and_parts _ _ (and_parts _ _ f.passes).0).1 in
    let taken : is_refused c ≡ false = all_contains (λ (x : Choice). x.asked.size ≡ sector_size → is_refused x ≡ false) journal c small f.listed (sizes ∙ size) in (
      c.places,
      ap (places_chosen ask.copies) f.is ∙ ap (λ (n : ℕ). places_unless (nat_lt (length c.places) n) c) (sym copies) ∙ ap (λ (b : Bool). places_unless b c) taken,
    )
