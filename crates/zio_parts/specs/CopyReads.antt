-- The read of a block's copies under way: which program of leaf operations is left of it, and what each call shows of that.
use Rattle.std.specs.Prelude.{◌≡◌, ℕ, ◌<◌, List, [], ◌∷◌, ◌++◌, length, map, take, drop, slice_index_or, slice_set, Bool, true, false, Option, Some, None, IsSome, Ok, Err}
use Rattle.zio_types.specs.declared.error.Errno.{Errno}
use Rattle.zio_types.specs.declared.place.Place.{Place}
use Rattle.zio_types.specs.declared.place.Top.{Top}
use Rattle.zio_cksum.specs.Blocks.{Pass, Tried, leaves_of, read_order, spot_in}
use Rattle.zio_cksum.specs.Headers.{offset_of}
use Rattle.zio_cksum.specs.Images.{Setting, Spot}
use Rattle.zio_mirror.specs.declared.plan.PlanStep.{PlanStep}
use Rattle.zio_mirror.specs.declared.plan.PlanStep.TheVariants.{Try, Good, Bad}
use Rattle.zio_mirror.specs.Plans.{Tries, children, place_of}
use Rattle.zio_trace.specs.CopyPrograms.{Program, fetch_in, first_on, found_by, last_on, pass_each, pass_on, pass_reading, try_each}
use Rattle.zio_trace.specs.Leaves.{Answer, Fetch, Store}
use Rattle.zio_trace.specs.Programs.{Ends, ◌>>=◌}
use Rattle.zio_parts.specs.Answered.{AsksBehind, filled, out_count}
use Rattle.zio_parts.specs.Copies.{copies_at, leaves_at, spot_at}
use Rattle.zio_parts.specs.declared.copies.TheConstants.{LEAF_COPIES_MAX}
use Rattle.zio_parts.specs.declared.copy_read.ReadStep.{ReadStep}
use Rattle.zio_parts.specs.declared.copy_read.ReadStep.TheVariants.{Fetch as FetchStep, Repair, Wait, Retry, End}

-- The places, how many bytes, whether it repairs, and whether in the second pass. The plan over the places and that over
-- the leaves of the place that is tried, where all answers so far are errors. Whether a copy is being read; the bytes of
-- the good copy, once there is one; and of the repairs that were handed out, which are out.
pub record Reading : Type 0 where
  pub places : List Place
  pub len : ℕ
  pub repair : Bool
  pub retry : Bool
  pub copies : Tries
  pub leaves : Tries
  pub is_out : Bool
  pub good : Option (List ℕ)
  pub mends : List Bool

-- ---- the copies

-- the leaf that a child of a plan over a place's leaves stands for
abbrev pub leaf_at : List Top → Place → ℕ → ℕ
leaf_at tops p child = slice_index_or (leaves_at tops p) child 0

-- the children of a plan over a place's leaves, in the order of reads
abbrev pub order_at : List Top → Place → List ℕ
order_at tops p = read_order (offset_of p) (children (length (leaves_at tops p)))

-- all copies at the places before one, and these children's at that one
abbrev pub repairs_from : List Top → List Place → ℕ → List ℕ → List Spot
repairs_from tops places tried failed =
    copies_at tops (take tried places) ++ map (spot_in (place_of places tried)) (map (leaf_at tops (place_of places tried)) failed)

-- the error where all children failed
abbrev pub error_in : PlanStep → Option Errno
error_in (Try child) = None
error_in (Good child) = None
error_in (Bad e) = Some e

-- the child that is to be tried
abbrev pub child_in : PlanStep → ℕ
child_in (Try child) = child
child_in (Good child) = 0
child_in (Bad e) = 0

-- ---- what is left

-- how many places have failed
abbrev pub tried_of : Reading → ℕ
tried_of x = length x.copies.answers

-- the place that is tried
abbrev pub place_in : Reading → Place
place_in x = place_of x.places (tried_of x)

-- of its leaves, those that failed, and those that are still to be tried
abbrev pub leaves_failed : List Top → Reading → List ℕ
leaves_failed tops x = map (leaf_at tops (place_in x)) (take (length x.leaves.answers) x.leaves.order)

abbrev pub leaves_left : List Top → Reading → List ℕ
leaves_left tops x = map (leaf_at tops (place_in x)) (drop (length x.leaves.answers) x.leaves.order)

-- what was tried so far, of the place and of the pass
abbrev pub place_so_far : List Top → Reading → Tried ℕ
place_so_far tops x = record { found = None; failed = leaves_failed tops x; errors = x.leaves.answers }

abbrev pub pass_so_far : List Top → Reading → Pass
pass_so_far tops x = record { found = None; repairs = copies_at tops (take (tried_of x) x.places); errors = x.copies.answers }

-- what comes behind a pass
abbrev pub behind_pass : Setting → (List ℕ → Bool) → Reading → Bool → Pass → Program Answer
behind_pass s good x false pass = first_on pass.found x.repair pass (pass_reading s true good x.len x.places)
behind_pass s good x true pass = last_on pass.found x.repair pass

-- what comes behind the tries of a place
abbrev pub behind_place : Setting → (List ℕ → Bool) → Reading → Place → List Place → Tried ℕ → Program Pass
behind_place s good x p ps tried =
    pass_on tried.found (map (spot_in p) tried.failed) (map (spot_in p) (leaves_of s p)) tried (pass_so_far s.tops x) (λ now. pass_each s x.retry good x.len now ps)

-- the rest of a pass with these places left, whose first is under way
abbrev pub left_of_pass : Setting → (List ℕ → Bool) → Reading → List Place → Program Pass
left_of_pass s good x [] = Ends (pass_so_far s.tops x)
left_of_pass s good x (p ∷ ps) =
    try_each (fetch_in x.retry x.len p) good (place_so_far s.tops x) (leaves_left s.tops x) >>= behind_place s good x p ps

-- none, where it doesn't repair
abbrev pub repairs_if : Bool → List Spot → List Spot
repairs_if true spots = spots
repairs_if false spots = []

-- the copies that failed before the good one
abbrev pub repairs_of : List Top → Reading → List Spot
repairs_of tops x = repairs_from tops x.places (tried_of x) (take (length x.leaves.answers) x.leaves.order)

-- those that are to be rewritten with the good bytes
abbrev pub wanted_of : List Top → Reading → List Spot
wanted_of tops x = repairs_if x.repair (repairs_of tops x)

-- the pass that found these bytes
abbrev pub pass_found : List Top → Reading → List ℕ → Pass
pass_found tops x bytes = record { found = Some bytes; repairs = repairs_of tops x; errors = x.copies.answers }

-- a repair that was handed out: how it ended doesn't matter
abbrev pub mend_of : Bool → Option Answer
mend_of true = None
mend_of false = Some (Ok [])

-- a copy that is being read
abbrev pub read_outs : Bool → List (Option Answer)
read_outs true = None ∷ []
read_outs false = []

-- of the first operations of the rest, those that were handed out
abbrev pub outs_with : Option (List ℕ) → Reading → List (Option Answer)
outs_with None x = read_outs x.is_out
outs_with (Some bytes) x = map mend_of x.mends

abbrev pub outs_of : Reading → List (Option Answer)
outs_of x = outs_with x.good x

-- without good bytes, or with them
abbrev pub left_with : Setting → (List ℕ → Bool) → Reading → Option (List ℕ) → Program Answer
left_with s good x None = left_of_pass s good x (drop (tried_of x) x.places) >>= behind_pass s good x x.retry
left_with s good x (Some bytes) = filled (map mend_of x.mends) (found_by x.repair x.retry (pass_found s.tops x bytes) bytes)

-- The rest of the program. So many of its first operations are out as of those that were handed out.
abbrev pub left_of_read : Setting → (List ℕ → Bool) → Reading → Program Answer
left_of_read s good x = left_with s good x x.good

-- ---- the calls

-- the first copy is to be read
abbrev pub fresh_read : List Top → List Place → ℕ → Bool → Reading
fresh_read tops places len repair = record {
  places = places;
  len = len;
  repair = repair;
  retry = false;
  copies = record { order = children (length places); answers = [] };
  leaves = record { order = order_at tops (place_of places 0); answers = [] };
  is_out = false;
  good = None;
  mends = [];
}

-- the second pass begins
abbrev pub read_again : List Top → Reading → Reading
read_again tops x = record {
  places = x.places;
  len = x.len;
  repair = x.repair;
  retry = true;
  copies = record { order = children (length x.places); answers = [] };
  leaves = record { order = order_at tops (place_of x.places 0); answers = [] };
  is_out = false;
  good = None;
  mends = [];
}

-- one more operation is out: a read, or once there are good bytes a repair
abbrev pub handed_with : Option (List ℕ) → Reading → Reading
handed_with None x = record {
  places = x.places;
  len = x.len;
  repair = x.repair;
  retry = x.retry;
  copies = x.copies;
  leaves = x.leaves;
  is_out = true;
  good = x.good;
  mends = x.mends;
}
handed_with (Some bytes) x = record {
  places = x.places;
  len = x.len;
  repair = x.repair;
  retry = x.retry;
  copies = x.copies;
  leaves = x.leaves;
  is_out = x.is_out;
  good = x.good;
  mends = x.mends ++ true ∷ [];
}

abbrev pub read_handed : Reading → Reading
read_handed x = handed_with x.good x

-- a repair that was out has ended
abbrev pub read_mended : Reading → ℕ → Reading
read_mended x n = record {
  places = x.places;
  len = x.len;
  repair = x.repair;
  retry = x.retry;
  copies = x.copies;
  leaves = x.leaves;
  is_out = x.is_out;
  good = x.good;
  mends = slice_set x.mends n false;
}

-- what an answer leaves as it was
pub record IsSameRead (x y : Reading) : Type 0 where
  pub places : y.places ≡ x.places
  pub len : y.len ≡ x.len
  pub repair : y.repair ≡ x.repair
  pub retry : y.retry ≡ x.retry

-- one more operation may go out
abbrev pub IsReadyWith : Option (List ℕ) → Reading → Type 0
IsReadyWith None x = (x.is_out ≡ false) × (tried_of x < length x.places)
IsReadyWith (Some bytes) x = length x.mends < LEAF_COPIES_MAX

abbrev pub IsReady : Reading → Type 0
IsReady x = IsReadyWith x.good x

-- something is out, and of the repairs all are handed out
abbrev pub WaitsWith : Option (List ℕ) → List Top → Reading → Type 0
WaitsWith None tops x = x.is_out ≡ true
WaitsWith (Some bytes) tops x = (0 < out_count (map mend_of x.mends)) × (length x.mends ≡ length (wanted_of tops x))

-- What a step shows of the rest: the operation that it asks next; that it waits for those that are out; that it stays when
-- the second pass begins; or its end.
abbrev pub ShowsRead : Setting → (List ℕ → Bool) → Reading → ReadStep → Type 0
ShowsRead s good x (FetchStep target) =
    AsksBehind (out_count (outs_of x)) (left_of_read s good x) (Fetch x.retry x.len (spot_at target))
ShowsRead s good x (Repair target) =
    (bytes : List ℕ) × (x.good ≡ Some bytes) × AsksBehind (out_count (outs_of x)) (left_of_read s good x) (Store x.retry bytes (spot_at target))
ShowsRead s good x Wait = WaitsWith x.good s.tops x
ShowsRead s good x Retry =
    (out_count (outs_of x) ≡ 0) × (x.retry ≡ false) × (x.good ≡ None) × (left_of_read s good (read_again s.tops x) ≡ left_of_read s good x)
ShowsRead s good x (End (Ok done)) =
    (bytes : List ℕ) × (x.good ≡ Some bytes) × (out_count (outs_of x) ≡ 0) × (left_of_read s good x ≡ Ends (Ok bytes))
ShowsRead s good x (End (Err e)) = (out_count (outs_of x) ≡ 0) × (left_of_read s good x ≡ Ends (Err e))

-- What a step allows: its child may go out, and once it is out no more repairs are than are wanted.
abbrev pub AllowsRead : List Top → Reading → ReadStep → Type 0
AllowsRead tops x (FetchStep target) = IsReady x × (x.good ≡ None)
AllowsRead tops x (Repair target) = IsReady x × IsSome x.good × (length x.mends < length (wanted_of tops x))
AllowsRead tops x Wait = Unit {0}
AllowsRead tops x Retry = Unit {0}
AllowsRead tops x (End end) = Unit {0}
