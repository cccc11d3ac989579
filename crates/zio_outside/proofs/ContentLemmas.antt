-- A failed call in memory, which leaves what is told, leaves what the contract of a failed call allows.
use Rattle.std.proofs.Common.{◌≡◌, ℕ, ◌+◌, ◌≤◌, List, length, take, drop, Result, Ok, Err, OnErr, arith, length-drop, subst, sym}
use Rattle.std.proofs.lemmas.Grind.{common_steps}
use Rattle.std.proofs.lemmas.List.{length-take-le, take-append-drop}
use Rattle.std.proofs.Math.Seq.{take-add}
use Rattle.zio_types.specs.Bytes.{overwritten}
use Rattle.zio_outside.specs.Memory.{told}
use Rattle.zio_outside.specs.Outside.{AppendsFront, TearsAt}

-- a fact of every answer
pub on_err : {T E P : Type 0} (answer : Result T E) → P → OnErr answer P
on_err {P = P} answer fact = elim answer as (λ a. OnErr a P) [ Ok _ ↦ tt | Err _ ↦ fact ]

-- none of the piece was appended
pub AppendsFront-kept : (held piece : List ℕ) → AppendsFront (told held) (told held) piece
AppendsFront-kept held piece was is = (0, grind (arith, common_steps))

-- the bytes at a place, written there
pub overwritten-same : (image : List ℕ) (at n : ℕ) → at + n ≤ length image → overwritten image at (take n (drop at image)) ≡ image
overwritten-same image at n fits =
    let there : n ≤ length (drop at image) = omega (arith, length-drop at image) in
    let len : length (take n (drop at image)) ≡ n = length-take-le n (drop at image) there in
    rw (len, ← take-add at n image) (take-append-drop (at + n) image)

-- nothing of the piece was written
pub TearsAt-kept : (image : List ℕ) (at : ℕ) (piece : List ℕ) → at + length piece ≤ length image → TearsAt (told image) (told image) at piece
TearsAt-kept image at piece fits was is =
    let there : length piece ≤ length (drop at image) = omega (arith, length-drop at image) in (
      take (length piece) (drop at image),
      length-take-le (length piece) (drop at image) there,
      rw is (overwritten-same image at (length piece) fits),
    )

-- the same of an image that is the one before
pub TearsAt-same : (old new : List ℕ) (at : ℕ) (piece : List ℕ) → new ≡ old → at + length piece ≤ length old
    → TearsAt (told old) (told new) at piece
TearsAt-same old new at piece same fits =
    subst (λ (image : List ℕ). TearsAt (told old) (told image) at piece) (sym same) (TearsAt-kept old at piece fits)
