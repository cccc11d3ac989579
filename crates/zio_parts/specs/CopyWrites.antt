-- The write of a piece's copies under way: which program of leaf operations is left of it, and what each call shows of that.
use Rattle.std.specs.Prelude.{◌≡◌, ℕ, ◌<◌, List, [], ◌∷◌, ◌++◌, length, map, take, drop, slice_set, Bool, true, false, Option, Some, None, option_map}
use Rattle.zio_types.specs.declared.error.Errno.{Errno}
use Rattle.zio_types.specs.declared.place.Place.{Place}
use Rattle.zio_types.specs.declared.place.Top.{Top}
use Rattle.zio_types.specs.Errors.{worst_error}
use Rattle.zio_cksum.specs.Images.{Setting}
use Rattle.zio_trace.specs.CopyPrograms.{Program, pass_writing, piece_writing, place_error}
use Rattle.zio_trace.specs.Leaves.{Answer, Store, answer_of}
use Rattle.zio_trace.specs.Programs.{Ends}
use Rattle.zio_parts.specs.Answered.{AsksBehind, filled, out_count}
use Rattle.zio_parts.specs.Copies.{copies_at, leaves_at, spot_at}
use Rattle.zio_parts.specs.declared.copy_write.WriteStep.{WriteStep}
use Rattle.zio_parts.specs.declared.copy_write.WriteStep.TheVariants.{Store as StoreStep, Wait, Retry, End}

-- The places, whether in the second pass, and of the writes that this pass handed out what each answered; none, where it
-- is out.
pub record Writing : Type 0 where
  pub places : List Place
  pub retry : Bool
  pub answers : List (Option (Option Errno))

-- by which of them are out, and what the others answered
abbrev pub answers_in : List Bool → List (Option Errno) → List (Option (Option Errno))
answers_in [] errors = []
answers_in (out ∷ outs) [] = []
answers_in (true ∷ outs) (error ∷ errors) = None ∷ answers_in outs errors
answers_in (false ∷ outs) (error ∷ errors) = Some error ∷ answers_in outs errors

-- one of them is out
abbrev pub any_out : List Bool → Bool
any_out [] = false
any_out (true ∷ outs) = true
any_out (false ∷ outs) = any_out outs

-- the worst error of the places, behind others whose worst error is this; the errors are those of the places' leaves
abbrev pub pass_error : List Top → Option Errno → List Place → List (Option Errno) → Option Errno
pass_error tops so_far [] errors = so_far
pass_error tops so_far (p ∷ ps) errors =
    pass_error tops (worst_error so_far (place_error (take (length (leaves_at tops p)) errors))) ps (drop (length (leaves_at tops p)) errors)

-- nothing of it is written
abbrev pub fresh_write : List Place → Writing
fresh_write places = record { places = places; retry = false; answers = [] }

-- one more write is out
abbrev pub write_handed : Writing → Writing
write_handed x = record { places = x.places; retry = x.retry; answers = x.answers ++ None ∷ [] }

-- one that was out has answered
abbrev pub write_heard : Writing → ℕ → Option Errno → Writing
write_heard x n error = record { places = x.places; retry = x.retry; answers = slice_set x.answers n (Some error) }

-- the second pass begins
abbrev pub write_again : Writing → Writing
write_again x = record { places = x.places; retry = true; answers = [] }

-- ---- what is left

-- the writes of this pass, with their answers
abbrev pub writes_of : Writing → List (Option Answer)
writes_of x = map (option_map answer_of) x.answers

-- the program of this pass, with what comes behind it
abbrev pub writing_from : Setting → List ℕ → List Place → Bool → Program (Option Errno)
writing_from s bytes places false = piece_writing s bytes places
writing_from s bytes places true = pass_writing s true bytes places

-- The rest of the program. So many of its first operations are out as of the writes.
abbrev pub left_of_write : Setting → List ℕ → Writing → Program (Option Errno)
left_of_write s bytes x = filled (writes_of x) (writing_from s bytes x.places x.retry)

-- What a step shows of the rest: the operation that it asks next; that it waits for those that are out; that it stays when
-- the second pass begins; or its end.
abbrev pub ShowsWrite : Setting → List ℕ → Writing → WriteStep → Type 0
ShowsWrite s bytes x (StoreStep target) =
    AsksBehind (out_count (writes_of x)) (left_of_write s bytes x) (Store x.retry bytes (spot_at target))
ShowsWrite s bytes x Wait = (0 < out_count (writes_of x)) × (length x.answers ≡ length (copies_at s.tops x.places))
ShowsWrite s bytes x Retry =
    (out_count (writes_of x) ≡ 0) × (x.retry ≡ false) × (left_of_write s bytes (write_again x) ≡ left_of_write s bytes x)
ShowsWrite s bytes x (End error) = (out_count (writes_of x) ≡ 0) × (left_of_write s bytes x ≡ Ends error)

-- What a step allows: its child may go out, and once it is out no more writes are than there are copies.
abbrev pub AllowsWrite : List Top → Writing → WriteStep → Type 0
AllowsWrite tops x (StoreStep target) = length x.answers < length (copies_at tops x.places)
AllowsWrite tops x Wait = Unit {0}
AllowsWrite tops x Retry = Unit {0}
AllowsWrite tops x (End error) = Unit {0}
