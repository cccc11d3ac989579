-- With no row met, and no sector refused, a block is placed without error: what is refused becomes a gang, and sectors have
-- places.
use Rattle.std.proofs.Common.{◌≡◌, ℕ, zero, suc, ◌+◌, ◌*◌, ◌%◌, ◌^◌, ◌≤◌, ◌<◌, List, [], ◌∷◌, ◌++◌, length, take, drop, sum, Bool, true, false, nat_le, nat_lt, Option, Some, None, refl, sym, ◌∙◌, subst, leb-false, leb-true, length-take, length-drop, arith}
use Rattle.std.proofs.Math.Nat.{pow-succ'}
use Rattle.std.proofs.lemmas.List.Sums.{sum_by-cons}
use Rattle.std.specs.List.{AllByRecursion}
use Rattle.zio_types.specs.declared.place.Place.{Place}
use Rattle.zio_types.specs.Choices.{Ask, Choice}
use Rattle.zio_types.specs.Errors.{worst_of}
use Rattle.zio_types.specs.Places.{sector_size}
use Rattle.zio_blkptr.specs.declared.pointer.SumKind.{SumKind}
use Rattle.zio_cksum.specs.Blocks.{write_piece}
use Rattle.zio_cksum.specs.Headers.{first_size, second_size, split_sizes, third_size}
use Rattle.zio_cksum.specs.Images.{Images}
use Rattle.zio_cksum.proofs.AllLemmas.{all_filter}
use Rattle.zio_cksum.proofs.SplitLemmas.{total_law}
use Rattle.zio_gang.specs.Attempts.{Pending, Terms, writing_of}
use Rattle.zio_gang.specs.Trees.{sizes_of}
use Rattle.zio_gang.specs.Writes.{Members, Placed, Writing, body_ask, body_with, chosen, cut, gang_header, gang_unless, gang_with, head_ask, place_members, place_part, without_place}
use Rattle.zio_trace.proofs.ChoiceLemmas.{Answers}
use Rattle.zio_trace.proofs.ListLemmas.{all_front, all_lists, all_rest}
use Rattle.zio_heal.specs.Copies.{IsPastFaults}
use Rattle.zio_heal.specs.Pools.{IsBlockSize, IsPool, NoSmallRefused}
use Rattle.zio_heal.proofs.CleanPieces.{IsAnswered, have_leaves, piece_clean, small_found, worst_none}
use Rattle.zio_heal.proofs.PlacedPlans.{split_blocks}
use Rattle.zio_heal.proofs.WrittenPieces.{found_inside}

-- ---- sizes

-- the size of a part that has so many levels of headers below it
record IsPart (levels n : ℕ) : Type 0 where
  block : IsBlockSize n
  deep : n ≤ 512 * 3 ^ levels

third : (levels n : ℕ) → n % 512 ≡ 0 → n ≤ 512 * 3 ^ (suc levels) → (first_size n ≤ 512 * 3 ^ levels) × (second_size n ≤ 512 * 3 ^ levels) × (third_size n ≤ 512 * 3 ^ levels)
third levels n whole deep =
    let p : ℕ = 3 ^ levels in
    let e : 3 ^ (suc levels) ≡ 3 * p = pow-succ' 3 levels in
    (omega arith, omega arith, omega arith)

parts_deep : (levels n : ℕ) → n % 512 ≡ 0 → n ≤ 512 * 3 ^ (suc levels) → AllByRecursion (λ k. k ≤ 512 * 3 ^ levels) (split_sizes n)
parts_deep levels n whole deep =
    let t = third levels n whole deep in
    all_filter (λ k. k ≤ 512 * 3 ^ levels) (λ k. nat_lt 0 k) (first_size n ∷ second_size n ∷ third_size n ∷ []) ((λ e. t.0), ((λ e. t.1), ((λ e. t.2), tt)))

parts_of : (levels n : ℕ) → IsPart (suc levels) n → AllByRecursion (IsPart levels) (split_sizes n)
parts_of levels n h =
    all_lists IsBlockSize (λ k. k ≤ 512 * 3 ^ levels) (IsPart levels) (split_sizes n) (λ k a b. record { block = a; deep = b })
    (split_blocks n h.block) (parts_deep levels n h.block.whole h.deep)

sum_first : (n : ℕ) (ns : List ℕ) → sum (n ∷ ns) ≡ n + sum ns
sum_first n ns = sum_by-cons (λ k. k) n ns

-- a block of no more than a sector is one
one_sector : (n : ℕ) → IsBlockSize n → n ≤ 512 → n ≡ sector_size
one_sector n block small =
    let some : 0 < n = block.some in
    let whole : n % 512 ≡ 0 = block.whole in
    omega arith

no_none : {X : Type 0} (x : X) → None ≡ Some x → ⊥
no_none x e = cc

module _ (journal : List Choice) (t : Terms) (p : Pending) (sizes : ℕ → ℕ) (pool : IsPool sizes t.setting.tops) (answers : Answers journal (sizes_of t.setting.tops) t.used t.round)
    (attempt : ℕ) (sum_kind : SumKind) (copies : ℕ) (past : IsPastFaults t.setting) (small : NoSmallRefused journal) where
  abbrev w : Writing
  w = writing_of t attempt p sum_kind copies

  abbrev AreAnswered : List Ask → Type 0
  AreAnswered asks = AllByRecursion (IsAnswered journal t.round) asks

  -- a part that is placed below has no error
  abbrev BelowClean : ℕ → (List ℕ → List ℕ → Images → Placed) → Type 0
  BelowClean levels place = (path part : List ℕ) (images : Images) → IsPart levels (length part) → AreAnswered (place path part images).asks → (place path part images).error ≡ None

  written_clean : (ask : Ask) (bytes : List ℕ) (places : List Place) (images : Images) → ask.key.round ≡ t.round → chosen journal ask ≡ Some places → (write_piece w.setting bytes places images).error ≡ None
  written_clean ask bytes places images now is =
      piece_clean t.setting bytes places images past (have_leaves t.setting sizes places pool (found_inside journal t sizes pool answers ask places now is))

  members_clean : (levels : ℕ) (place : List ℕ → List ℕ → Images → Placed) → BelowClean levels place → (path : List ℕ) (n : ℕ) (ns bytes : List ℕ) (images : Images) → AllByRecursion (IsPart levels) ns → sum ns ≤ length bytes
      → AreAnswered (place_members place path n (cut ns bytes) images).asks → worst_of (place_members place path n (cut ns bytes) images).errors ≡ None
  members_clean levels place below path n [] bytes images parts total answered = refl
  members_clean levels place below path n (size ∷ ns) bytes images parts total answered =
      let at : List ℕ = path ++ n ∷ [] in
      let part : List ℕ = take size bytes in
      let m : Placed = place at part images in
      let rest : Members = place_members place path (n + 1) (cut ns (drop size bytes)) m.images in
      let first = sum_first size ns in
      let long : length part ≡ size = length-take size bytes ∙ omega arith in
      let left = length-drop size bytes in
      worst_none m.error (worst_of rest.errors)
      (below at part images (subst (IsPart levels) (sym long) parts.0) (all_front (IsAnswered journal t.round) m.asks rest.asks answered))
      (members_clean levels place below path (n + 1) ns (drop size bytes) m.images parts.1 (omega arith) (all_rest (IsAnswered journal t.round) m.asks rest.asks answered))

  -- a gang whose members have no error
  gang_clean : (levels : ℕ) (place : List ℕ → List ℕ → Images → Placed) → BelowClean levels place → (path bytes : List ℕ) (images : Images) (places : Option (List Place)) → chosen journal (head_ask w path) ≡ places → IsPart (suc levels) (length bytes)
      → AreAnswered (gang_with places w place path bytes images).asks → (gang_with places w place path bytes images).error ≡ None
  gang_clean levels place below path bytes images None is part answered =
      let found = small_found journal t.round (head_ask w path) small answered.1.0 refl in
      absurd (no_none found.0 (sym is ∙ found.1))
  gang_clean levels place below path bytes images (Some places) is part answered =
      let m : Members = place_members place path 0 (cut (split_sizes (length bytes)) bytes) images in
      let total = total_law (length bytes) part.block.whole in
      worst_none (worst_of m.errors) (write_piece w.setting (gang_header w places m) places m.images).error
      (members_clean levels place below path 0 (split_sizes (length bytes)) bytes images (parts_of levels (length bytes) part) (omega arith) answered.1.1)
      (written_clean (head_ask w path) (gang_header w places m) places m.images refl is)

  -- a part that is larger than a sector, by what its gang comes to
  abbrev GangClean : (List ℕ → List ℕ → Images → Placed) → List ℕ → List ℕ → Type 0
  GangClean place path bytes = (images : Images) (places : Option (List Place)) → chosen journal (head_ask w path) ≡ places → AreAnswered (gang_with places w place path bytes images).asks → (gang_with places w place path bytes images).error ≡ None

  body_clean : (place : List ℕ → List ℕ → Images → Placed) (path bytes : List ℕ) (images : Images) (places : Option (List Place)) → chosen journal (body_ask w path bytes) ≡ places → IsBlockSize (length bytes) → (sector_size < length bytes → GangClean place path bytes)
      → AreAnswered (body_with places journal w place path bytes images).asks → (body_with places journal w place path bytes images).error ≡ None
  body_clean place path bytes images (Some places) is block gang answered = written_clean (body_ask w path bytes) bytes places images refl is
  body_clean place path bytes images None is block gang answered = unless (nat_le (length bytes) sector_size) refl answered
    where
      unless : (one : Bool) → nat_le (length bytes) sector_size ≡ one → AreAnswered (gang_unless one journal w place path bytes images).asks → (gang_unless one journal w place path bytes images).error ≡ None
      unless true test asked =
          let found = small_found journal t.round (body_ask w path bytes) small asked.0 (one_sector (length bytes) block (leb-true (length bytes) sector_size test)) in
          absurd (no_none found.0 (sym is ∙ found.1))
      unless false test asked = gang (leb-false (length bytes) sector_size test) images (chosen journal (head_ask w path)) refl asked

  part_clean : (levels : ℕ) → BelowClean levels (place_part levels journal w)
  unfolding place_part
  part_clean zero path bytes images part answered =
      let deep : length bytes ≤ 512 * 3 ^ 0 = part.deep in
      body_clean (λ below more now. without_place [] now) path bytes images (chosen journal (body_ask w path bytes)) refl part.block (λ large i places is k. absurd (omega arith)) answered
  part_clean (suc levels) path bytes images part answered =
      body_clean (place_part levels journal w) path bytes images (chosen journal (body_ask w path bytes)) refl part.block
      (λ large now places is k. gang_clean levels (place_part levels journal w) (part_clean levels) path bytes now places is part k) answered

  -- a whole block
  pub block_clean : (bytes : List ℕ) (images : Images) → IsBlockSize (length bytes) → AreAnswered (place_part 8 journal w [] bytes images).asks → (place_part 8 journal w [] bytes images).error ≡ None
  block_clean bytes images block answered =
      part_clean 8 [] bytes images (record { block = block; deep = (let most = block.most in omega arith) }) answered
