-- Contents of a write over pointers of its children are alike to those of the plain store, which has zeros for them.
use Rattle.std.proofs.Common.{◌≡◌, ℕ, ◌-◌, ◌*◌, ◌%◌, List, ◌++◌, length, drop, replicate, flat_map, Option, None, sym, ap, ◌∙◌, append_assoc, length-append, arith}
use Rattle.std.proofs.Math.Seq.{drop-append_seam}
use Rattle.std.proofs.lemmas.List.{length-replicate}
use Rattle.std.specs.List.{AllByRecursion}
use Rattle.zio_types.specs.Places.{sector_size}
use Rattle.zio_blkptr.specs.declared.pointer.Bp.{Bp}
use Rattle.zio_script.specs.declared.limits.TheConstants.{POINTER_SIZE}
use Rattle.zio_script.specs.declared.script.Body.{Body}
use Rattle.zio_script.specs.declared.script.Request.{Request}
use Rattle.zio_script.specs.Bodies.{body_of}
use Rattle.zio_script.specs.Whys.{writes_under}
use Rattle.zio_cksum.specs.Headers.{member_bytes}
use Rattle.zio_gang.specs.Writes.{content_of}
use Rattle.zio_heal.specs.Alike.{IsAlikeTo}
use Rattle.zio_heal.specs.PlainStore.{content_in}
use Rattle.zio_heal.specs.SafeRounds.{HasSlot}
use Rattle.zio_heal.proofs.SlotLemmas.{contents_long, no_slots, slots_long}

-- zeros behind so many bytes
abbrev zeros : ℕ → List ℕ
zeros n = replicate ((sector_size - n % sector_size) % sector_size) 0

behind_slots : (n : ℕ) (front own pad : List ℕ) → length front ≡ n → drop n ((front ++ own) ++ pad) ≡ own ++ pad
behind_slots n front own pad long =
    ap (λ (k : ℕ). drop k ((front ++ own) ++ pad)) (sym long) ∙ ap (drop (length front)) (append_assoc front own pad) ∙ drop-append_seam front (own ++ pad)

pub alike_contents : (batch : List Request) (r : Request) (body : Body) (pointers : List (Option Bp)) → AllByRecursion HasSlot pointers → length pointers ≡ writes_under batch r.number → IsAlikeTo (content_in batch r body) (content_of pointers (body_of body))
alike_contents batch r body pointers slots many =
    let n : ℕ = writes_under batch r.number in
    let none : List (Option Bp) = replicate n None in
    let own : List ℕ = body_of body in
    let front : List ℕ = flat_map member_bytes pointers in
    let plain : List ℕ = flat_map member_bytes none in
    let front_long : length front ≡ 128 * length pointers = slots_long pointers slots in
    let plain_long : length plain ≡ 128 * length none = slots_long none (no_slots n) in
    let none_long : length none ≡ n = length-replicate n None in
    let one : length front ≡ POINTER_SIZE * n = omega arith in
    let two : length plain ≡ POINTER_SIZE * n = omega arith in
    let same : length (front ++ own) ≡ length (plain ++ own) = omega (arith, length-append front own, length-append plain own) in (
      contents_long pointers n own slots many,
      behind_slots (POINTER_SIZE * n) front own (zeros (length (front ++ own))) one
          ∙ ap (λ (k : ℕ). own ++ zeros k) same
          ∙ sym (behind_slots (POINTER_SIZE * n) plain own (zeros (length (plain ++ own))) two),
    )
