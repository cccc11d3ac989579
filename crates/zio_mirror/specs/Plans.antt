-- Which child of a mirror or of a block with copies is tried next, and when a read has its answer.
use Rattle.std.specs.Prelude.{ℕ, ◌-◌, List, [], ◌∷◌, length, slice_get, slice_index_or, Bool, true, false, Option, Some, None, Result, Ok, Err, ◌==◌, if◌then◌else◌, nat_lt}
use Rattle.std.specs.List.{list_any, range_with_len}
use Rattle.zio_types.specs.declared.error.Errno.{Errno}
use Rattle.zio_types.specs.Errors.{worst_of}
use Rattle.zio_types.specs.declared.place.Place.{Place}
use Rattle.zio_types.specs.Choices.{no_place}
use Rattle.zio_cksum.specs.Blocks.{blame, all_errors, error_if, found_or, judged, leaves_of, read_order, read_place, spot_in}
use Rattle.zio_cksum.specs.Headers.{offset_of}
use Rattle.zio_cksum.specs.Images.{Images, Setting, read_leaf}
use Rattle.zio_mirror.specs.declared.plan.PlanStep.{PlanStep}
use Rattle.zio_mirror.specs.declared.plan.PlanStep.TheVariants.{Try, Good, Bad}

-- the children in the order in which they are tried, and the answers so far, of the first of them
pub record Tries : Type 0 where
  pub order : List ℕ
  pub answers : List (Option Errno)

-- so many children, numbered from 0
abbrev pub children : ℕ → List ℕ
children n = range_with_len 0 n

-- the number below n at which one below twice n comes round
abbrev pub round_to : ℕ → ℕ → ℕ
round_to n i = if nat_lt i n then i else i - n

-- the child that was answered without error
abbrev pub good_child : List ℕ → List (Option Errno) → Option ℕ
good_child [] answers = None
good_child (c ∷ cs) [] = None
good_child (c ∷ cs) (None ∷ answers) = Some c
good_child (c ∷ cs) (Some e ∷ answers) = good_child cs answers

-- the children that were tried and failed, before one was good
abbrev pub failed_children : List ℕ → List (Option Errno) → List ℕ
failed_children [] answers = []
failed_children (c ∷ cs) [] = []
failed_children (c ∷ cs) (None ∷ answers) = []
failed_children (c ∷ cs) (Some e ∷ answers) = c ∷ failed_children cs answers

abbrev pub step_with : Option ℕ → Option ℕ → List (Option Errno) → PlanStep
step_with (Some good) untried answers = Good good
step_with None (Some untried) answers = Try untried
step_with None None answers = Bad (blame answers)

-- a good child ends the read; else the first child without an answer is tried; where all failed the worst error counts
abbrev pub step_of : Tries → PlanStep
step_of plan = step_with (good_child plan.order plan.answers) (slice_get plan.order (length plan.answers)) plan.answers

abbrev pub is_try : PlanStep → Bool
is_try (Try child) = true
is_try (Good child) = false
is_try (Bad e) = false

abbrev pub repaired_with : Option ℕ → List ℕ → List ℕ
repaired_with None failed = []
repaired_with (Some good) failed = failed

-- the children that a good read rewrites
abbrev pub to_repair : Tries → List ℕ
to_repair plan = repaired_with (good_child plan.order plan.answers) (failed_children plan.order plan.answers)

abbrev pub is_among : ℕ → List ℕ → Bool
is_among child cs = list_any (λ c. c == child) cs

-- the error of a write from those of its parts: one good part is enough for a mirror, and a block needs them all
abbrev pub written_error : Bool → List (Option Errno) → Option Errno
written_error true errors = worst_of errors
written_error false errors = error_if (all_errors errors) (Some (blame errors))

-- what a read of one place answers, as one of the copies of a block
abbrev pub place_answer : Setting → Bool → (List ℕ → Bool) → Images → ℕ → Place → Result (List ℕ) Errno
place_answer s retry good images len p =
    found_or ((read_place s retry good images len p).found) ((read_place s retry good images len p).errors)

-- ---- a plan that is answered by reads

abbrev pub then_answers : Result (List ℕ) Errno → List (Option Errno) → List (Option Errno)
then_answers (Ok bytes) answers = None ∷ []
then_answers (Err e) answers = Some e ∷ answers

-- the answers of reads that are made in order until one is good
abbrev pub answers_of : (ℕ → Result (List ℕ) Errno) → List ℕ → List (Option Errno)
answers_of read [] = []
answers_of read (c ∷ cs) = then_answers (read c) (answers_of read cs)

-- ---- the leaves of a place and the places of a block, as children

-- the children of a plan over a place's leaves, in the order of reads
abbrev pub order_in : Setting → Place → List ℕ
order_in s p = read_order (offset_of p) (children (length (leaves_of s p)))

-- the leaf that a child of such a plan stands for
abbrev pub leaf_of : Setting → Place → ℕ → ℕ
leaf_of s p child = slice_index_or (leaves_of s p) child 0

-- what the read of such a child gives
abbrev pub read_child : Setting → Bool → (List ℕ → Bool) → Images → ℕ → Place → ℕ → Result (List ℕ) Errno
read_child s retry good images len p child =
    judged good (read_leaf s retry images len (spot_in p (leaf_of s p child)))

-- the place that a child of a plan over a block's copies stands for
abbrev pub place_of : List Place → ℕ → Place
place_of places child = slice_index_or places child no_place

-- what the read of such a child gives
abbrev pub read_copy : Setting → Bool → (List ℕ → Bool) → Images → ℕ → List Place → ℕ → Result (List ℕ) Errno
read_copy s retry good images len places child = place_answer s retry good images len (place_of places child)

-- a plan in this order, whose children were answered by these reads until one was good
abbrev pub answered_by : (ℕ → Result (List ℕ) Errno) → List ℕ → Tries
answered_by read order = record { order = order; answers = answers_of read order }
