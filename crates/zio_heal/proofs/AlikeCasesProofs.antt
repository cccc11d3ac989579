-- Contents and replies that are alike, and such that aren't, evaluated.
use Rattle.std.proofs.Common.{◌≡◌, ℕ, List, get_or, refl, sym, ap, ◌∙◌, arith}
use Rattle.zio_types.specs.declared.error.Errno.TheVariants.{Io, Noent}
use Rattle.zio_report.specs.declared.report.LineResult.TheVariants.{Failed, Bytes}
use Rattle.zio_heal.specs.AlikeCases.{BytesForError, BytesOfARead, EqualIsAlike, ErrorForBytes, EveryByteCounts, LengthCounts, NextPointerCounts, NoByteMore, OtherBytes, OtherError, OtherNumber, OtherSize, PointersMayDiffer, SameError, SizeOfAWrite, read_ended}

-- lists with different items differ
other_item : (i a b : ℕ) (xs ys : List ℕ) → get_or xs i 0 ≡ a → get_or ys i 0 ≡ b → (a ≡ b → ⊥) → xs ≡ ys → ⊥
other_item i a b xs ys x y ne e = ne (sym x ∙ ap (λ (l : List ℕ). get_or l i 0) e ∙ y)

pub pointers_may_differ : PointersMayDiffer
pointers_may_differ = (refl, refl)

pub no_byte_more : NoByteMore
no_byte_more h = other_item 0 7 112 _ _ refl refl (λ e. omega (arith, e)) h.1

pub next_pointer_counts : NextPointerCounts
next_pointer_counts h = other_item 0 7 112 _ _ refl refl (λ e. omega (arith, e)) h.1

pub every_byte_counts : EveryByteCounts
every_byte_counts h = other_item 0 7 99 _ _ refl refl (λ e. omega (arith, e)) h.1

pub equal_is_alike : EqualIsAlike
equal_is_alike = (refl, refl)

pub length_counts : LengthCounts
length_counts h = let e : 1024 ≡ 512 = h.0 in absurd (omega (arith, e))

pub size_of_a_write : SizeOfAWrite
size_of_a_write = record { number = refl; shown = refl }

pub other_size : OtherSize
other_size h = let e : 512 ≡ 1024 = h.shown in absurd (omega (arith, e))

pub bytes_of_a_read : BytesOfARead
bytes_of_a_read = record { number = refl; shown = (refl, refl) }

pub other_bytes : OtherBytes
other_bytes h = other_item 1 98 99 _ _ refl refl (λ e. omega (arith, e)) h.shown.1

pub same_error : SameError
same_error = record { number = refl; shown = refl }

pub other_error : OtherError
other_error h = let e : Failed Io ≡ Failed Noent = h.shown in absurd (cc)

pub error_for_bytes : ErrorForBytes
error_for_bytes h = h.shown

pub bytes_for_error : BytesForError
bytes_for_error h = let e : Bytes read_ended.bytes ≡ Failed Noent = h.shown in absurd (cc)

pub other_number : OtherNumber
other_number h = let e : 2 ≡ 3 = h.number in absurd (omega (arith, e))
