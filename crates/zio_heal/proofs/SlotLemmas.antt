-- The pointer that a request hands on takes as many bytes as zeros for none, and the content over such pointers has the
-- size that it has over none.
use Rattle.std.proofs.Common.{◌≡◌, ℕ, zero, suc, ◌+◌, ◌-◌, ◌*◌, ◌%◌, ◌≤◌, List, [], ◌∷◌, ◌++◌, length, replicate, Bool, true, false, nat_le, Option, Some, None, Result, Ok, Err, refl, sym, ◌∙◌, subst, length-append, arith}
use Rattle.std.proofs.lemmas.List.{length-replicate}
use Rattle.std.specs.List.{AllByRecursion, flat_map}
use Rattle.zio_types.specs.declared.error.Errno.{Errno}
use Rattle.zio_types.specs.declared.place.Place.{Place}
use Rattle.zio_types.specs.Choices.{Choice}
use Rattle.zio_types.specs.Paths.{path_steps_max}
use Rattle.zio_types.specs.Places.{sector_size}
use Rattle.zio_blkptr.specs.declared.pointer.Bp.{Bp}
use Rattle.zio_blkptr.specs.declared.pointer.SumKind.{SumKind}
use Rattle.zio_blkptr.proofs.PointerLemmas.{length-spelling}
use Rattle.zio_script.specs.declared.script.Work.{Work}
use Rattle.zio_script.specs.declared.script.Work.TheVariants.{Null, Read, Write, Free, Claim}
use Rattle.zio_script.specs.Bodies.{body_of}
use Rattle.zio_cksum.specs.Headers.{member_bytes}
use Rattle.zio_cksum.specs.Images.{Images}
use Rattle.zio_gang.specs.declared.tree.Tree.{Tree}
use Rattle.zio_gang.specs.Attempts.{Pending, Terms, free_of, own_claimed, own_found, own_work, read_of, writing_of}
use Rattle.zio_gang.specs.Trees.{sizes_of}
use Rattle.zio_gang.specs.Writes.{Placed, Writing, body_ask, body_with, chosen, content_of, gang_unless, gang_with, head_ask, padded, place_part, pointer_to, without_place}
use Rattle.zio_trace.proofs.ChoiceLemmas.{Answers}
use Rattle.zio_heal.specs.Pools.{IsBlockSize, IsPool, IsWriting}
use Rattle.zio_heal.specs.SafeRounds.{FitsWrite, HasSlot}
use Rattle.zio_heal.proofs.PointerLemmas.{AreFound, IsSpelled, found_for, spelled}

-- ---- contents

pub slots_long : (ms : List (Option Bp)) → AllByRecursion HasSlot ms → length (flat_map member_bytes ms) ≡ 128 * length ms
slots_long [] h = refl
slots_long (m ∷ ms) h =
    let one : length (member_bytes m) ≡ 128 = h.0 in
    let more : length (flat_map member_bytes ms) ≡ 128 * length ms = slots_long ms h.1 in
    omega (arith, length-append (member_bytes m) (flat_map member_bytes ms))

pub no_slots : (n : ℕ) → AllByRecursion HasSlot (replicate n None)
no_slots zero = tt
no_slots (suc n) = (refl, no_slots n)

padded_same : (a b : List ℕ) → length a ≡ length b → length (padded a) ≡ length (padded b)
padded_same a b e =
    length-append a (replicate ((sector_size - length a % sector_size) % sector_size) 0)
    ∙ (λ i. e i + length {A = ℕ} (replicate ((sector_size - e i % sector_size) % sector_size) 0))
    ∙ sym (length-append b (replicate ((sector_size - length b % sector_size) % sector_size) 0))

-- contents over as many pointers
pub contents_long : (ms : List (Option Bp)) (n : ℕ) (own : List ℕ) → AllByRecursion HasSlot ms → length ms ≡ n → length (content_of ms own) ≡ length (content_of (replicate n None) own)
contents_long ms n own slots many =
    let a : length (flat_map member_bytes ms) ≡ 128 * length ms = slots_long ms slots in
    let b : length (flat_map member_bytes (replicate n None)) ≡ 128 * length {A = Option Bp} (replicate n None) = slots_long (replicate n None) (no_slots n) in
    let c : length {A = Option Bp} (replicate n None) ≡ n = length-replicate n None in
    padded_same (flat_map member_bytes ms ++ own) (flat_map member_bytes (replicate n None) ++ own)
    (omega (arith, length-append (flat_map member_bytes ms) own, length-append (flat_map member_bytes (replicate n None)) own))

-- ---- pointers

module _ (journal : List Choice) (t : Terms) (sizes : ℕ → ℕ) (pool : IsPool sizes t.setting.tops) (answers : Answers journal (sizes_of t.setting.tops) t.used t.round) where
  module _ (attempt : ℕ) (p : Pending) (sum_kind : SumKind) (copies : ℕ) (writing : IsWriting p copies) (path bytes : List ℕ) (block : IsBlockSize (length bytes)) where
    abbrev w : Writing
    w = writing_of t attempt p sum_kind copies

    gang_slot : (places : Option (List Place)) (place : List ℕ → List ℕ → Images → Placed) (images : Images) → chosen journal (head_ask w path) ≡ places → HasSlot (gang_with places w place path bytes images).pointer
    gang_slot None place images is = refl
    gang_slot (Some places) place images is =
        let one : 1 ≤ copies = writing.one in
        let found : AreFound (sizes_of t.setting.tops) 512 places = found_for journal (sizes_of t.setting.tops) t.used t.round answers (head_ask w path) places refl (omega arith) (omega arith) is in
        let can : IsSpelled (pointer_to w places true bytes) = spelled sizes t.setting.tops w places true bytes 512 pool found refl block writing.some writing.born in
        length-spelling (pointer_to w places true bytes) can.types can.ok

    unless_slot : (small : Bool) (place : List ℕ → List ℕ → Images → Placed) (images : Images) → HasSlot (gang_unless small journal w place path bytes images).pointer
    unless_slot true place images = refl
    unless_slot false place images = gang_slot (chosen journal (head_ask w path)) place images refl

    body_slot : (places : Option (List Place)) (place : List ℕ → List ℕ → Images → Placed) (images : Images) → chosen journal (body_ask w path bytes) ≡ places → HasSlot (body_with places journal w place path bytes images).pointer
    body_slot None place images is = unless_slot (nat_le (length bytes) sector_size) place images
    body_slot (Some places) place images is =
        let found : AreFound (sizes_of t.setting.tops) (length bytes) places =
        found_for journal (sizes_of t.setting.tops) t.used t.round answers (body_ask w path bytes) places refl writing.one writing.three is in
        let can : IsSpelled (pointer_to w places false bytes) = spelled sizes t.setting.tops w places false bytes (length bytes) pool found refl block writing.some writing.born in
        length-spelling (pointer_to w places false bytes) can.types can.ok

    part_slot : (levels : ℕ) (images : Images) → HasSlot (place_part levels journal w path bytes images).pointer
    unfolding place_part
    part_slot zero images = body_slot (chosen journal (body_ask w path bytes)) (λ below part now. without_place [] now) images refl
    part_slot (suc levels) images = body_slot (chosen journal (body_ask w path bytes)) (place_part levels journal w) images refl

  read_slot : (block : Option Tree) (images : Images) → HasSlot (read_of t block images).pointer
  read_slot None images = refl
  read_slot (Some tree) images = found_slot _ _
    where
      found_slot : (found : Result (List ℕ) Errno) (now : Images) → HasSlot (own_found found now).pointer
      found_slot (Ok bytes) now = refl
      found_slot (Err e) now = refl

  free_slot : (block : Option Tree) (images : Images) → HasSlot (free_of t block images).pointer
  free_slot None images = refl
  free_slot (Some tree) images = refl

  claim_slot : (found : Result Tree Errno) (now : Images) → HasSlot (own_claimed found now).pointer
  claim_slot (Ok tree) now = refl
  claim_slot (Err e) now = refl

  -- What a request's own work hands on.
  pub own_slot : (attempt : ℕ) (p : Pending) (n : ℕ) (work : Work) (pointers : List (Option Bp)) (images : Images) → FitsWrite p n work → AllByRecursion HasSlot pointers → length pointers ≡ n → HasSlot (own_work journal t attempt p work pointers images).pointer
  own_slot attempt p n Null pointers images fits slots many = refl
  own_slot attempt p n (Read name prio) pointers images fits slots many = read_slot p.block images
  own_slot attempt p n (Write name sum copies prio body) pointers images fits slots many =
      let content : List ℕ = content_of pointers (body_of body) in
      let long : length content ≡ length (content_of (replicate n None) (body_of body)) = contents_long pointers n (body_of body) slots many in
      part_slot attempt p sum copies fits.0 [] content (subst IsBlockSize (sym long) fits.1) path_steps_max images
  own_slot attempt p n (Free name) pointers images fits slots many = free_slot p.block images
  own_slot attempt p n (Claim name pointer) pointers images fits slots many = claim_slot _ _
