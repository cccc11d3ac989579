-- What is wrong with a line, after the lines before it, and with the end of a text: docs/FORMATS.md, "Words of a line" and
-- "Whys".
use Rattle.std.specs.Prelude.{ℕ, zero, suc, ◌+◌, ◌-◌, ◌*◌, List, [], ◌∷◌, ◌++◌, length, map, reverse, find, fold, sum, count_by, Bool, true, false, not, ◌&&◌, ◌||◌, ◌==◌, nat_lt, nat_le, Option, Some, None, option_map}
use Rattle.std.specs.List.{list_any, list_all, flat_map}
use Rattle.zio_types.specs.declared.request.Kind.{Kind}
use Rattle.zio_types.specs.declared.request.Kind.TheVariants.{Null as NullKind, Read as ReadKind, Write as WriteKind, Free as FreeKind, Claim as ClaimKind}
pub use Rattle.zio_types.specs.Places.{rounded_up}
use Rattle.zio_faults.specs.declared.table.FaultKind.{FaultKind}
use Rattle.zio_faults.specs.declared.table.FaultKind.TheVariants.{Eio, Gone, Flip}
use Rattle.zio_faults.specs.declared.table.Row.{Row}
use Rattle.zio_blkptr.specs.declared.pointer.TheConstants.{BLOCK_SIZE_MAX}
use Rattle.zio_types.specs.declared.place.TheConstants.{COPIES_MAX}
use Rattle.zio_script.specs.declared.limits.TheConstants.{LEAF_MAX, TOPS_MAX, FAULT_RANGE_MAX, POINT_MAX, FAULTS_MAX, NUMBER_MAX, POINTER_SIZE, BATCH_LEN_MAX, BATCH_SIZE_MAX, CHILDREN_MAX, DEPTH_MAX, CLEARS_MAX}
use Rattle.zio_script.specs.declared.script.Body.{Body}
use Rattle.zio_script.specs.declared.script.Body.TheVariants.{Hex, Fill, Seq}
use Rattle.zio_script.specs.declared.script.Failmode.TheVariants.{Wait}
use Rattle.zio_script.specs.declared.script.Item.{Item}
use Rattle.zio_script.specs.declared.script.Item.TheVariants.{Request as RequestItem, Go, Clear}
use Rattle.zio_script.specs.declared.script.Request.{Request}
use Rattle.zio_script.specs.declared.script.Script.{Script}
use Rattle.zio_script.specs.declared.script.TopLine.{TopLine as Top}
use Rattle.zio_script.specs.declared.why.Why.{Why}
use Rattle.zio_script.specs.declared.why.Why.TheVariants.{Word as NoShape, Number, Limit, Order, Name, Conflict, Flag, Parent, Pool}
use Rattle.zio_script.specs.declared.script.Work.{Work}
use Rattle.zio_script.specs.declared.script.Work.TheVariants.{Null, Read, Write, Free, Claim}
use Rattle.zio_script.specs.Lines.{NewRequest, ScriptLine, FailmodeLine, LeavesLine, FaultLine, RequestLine, GoLine, ClearLine}
use Rattle.zio_script.specs.Requests.{kind_of, name_of, names_it, requests_of, is_under, is_under_number}
use Rattle.zio_script.specs.Words.{Word, is_empty, is_name}

-- ---- what stands before a line

-- what the lines before a line make: whether there is one that isn't skipped, and the script so far
pub record Before : Type 0 where
  pub begun : Bool
  pub script : Script

-- before the first line; failmode is `wait` without its line
abbrev pub nothing_before : Before
nothing_before = record {
  begun = false;
  script = record { failmode = Wait; tops = []; faults = []; items = [] };
}

-- a `go` ends a batch
abbrev pub batch_after : List Request → Item → List Request
batch_after batch (RequestItem r) = batch ++ r ∷ []
batch_after batch Go = []
batch_after batch Clear = batch

-- the requests since the last `go`
abbrev pub open_batch : Script → List Request
open_batch script = fold batch_after [] script.items

-- the leaves of all tops
abbrev pub all_leaves : Script → List ℕ
all_leaves script = flat_map (λ (top : Top). top.leaves) script.tops

-- the item is a `clear`
abbrev pub is_clear : Item → Bool
is_clear (RequestItem r) = false
is_clear Go = false
is_clear Clear = true

-- ---- a request in its batch

-- the request of the batch under which a line stands
abbrev pub parent_in : List Request → Option ℕ → Option Request
parent_in batch None = None
parent_in batch (Some p) = find (λ (r : Request). r.number == p) batch

-- a read or a claim may fail, if its line doesn't say
abbrev pub may_fail_alone : Kind → Bool
may_fail_alone NullKind = false
may_fail_alone ReadKind = true
may_fail_alone WriteKind = false
may_fail_alone FreeKind = false
may_fail_alone ClaimKind = true

-- the parent is there, and may not fail
abbrev pub must_parent : Option Request → Bool
must_parent None = false
must_parent (Some parent) = not parent.canfail

-- `canfail` or `must`, else false under a parent that may not fail, else by the kind
-- Rule: request kinds.
abbrev pub may_fail : Option Bool → Option Request → Kind → Bool
may_fail (Some flag) parent kind = flag
may_fail None parent kind = not (must_parent parent) && may_fail_alone kind

-- the request that a line makes in a batch
abbrev pub request_in : List Request → NewRequest → Request
request_in batch asked = record {
  number = asked.number;
  work = asked.work;
  under = asked.under;
  canfail = may_fail asked.flag (parent_in batch asked.under) (kind_of asked.work);
}

-- ---- why 3, Limit

-- n is a number from low to high
abbrev pub is_within : ℕ → ℕ → ℕ → Bool
is_within low high n = nat_le low n && nat_le n high

-- LEAF in range
abbrev pub is_leaf : ℕ → Bool
is_leaf n = is_within 0 LEAF_MAX n

-- N or P in range
abbrev pub is_number : ℕ → Bool
is_number n = is_within 1 NUMBER_MAX n

-- P in range, where there is one
abbrev pub is_number_if : Option ℕ → Bool
is_number_if None = true
is_number_if (Some n) = is_number n

-- LEAF, AT, LEN, FROM and UNTIL in range, and UNTIL above FROM
abbrev pub fits_row : Row → Bool
fits_row row =
    is_leaf row.leaf && is_within 0 FAULT_RANGE_MAX row.at && is_within 1 FAULT_RANGE_MAX row.len
    && is_within 0 (POINT_MAX - 1) row.from && is_within 1 POINT_MAX row.until && nat_lt row.from row.until

-- S is the size of a sector
abbrev pub is_sector : ℕ → Bool
is_sector n = list_any (λ size. n == size) (512 ∷ 1024 ∷ 2048 ∷ 4096 ∷ [])

-- how many bytes a body has
abbrev pub body_len : Body → ℕ
body_len (Hex bytes) = length bytes
body_len (Fill byte len) = len
body_len (Seq seed len) = len

-- COPIES, and the length of the body or of a claim's HEX
abbrev pub fits_work : Work → Bool
fits_work Null = true
fits_work (Read name prio) = true
fits_work (Write name sum copies prio body) =
    is_within 1 COPIES_MAX copies && is_within 1 BLOCK_SIZE_MAX (body_len body)
fits_work (Free name) = true
fits_work (Claim name pointer) = length pointer == POINTER_SIZE

-- N, P, COPIES and lengths in range
abbrev pub fits_asked : NewRequest → Bool
fits_asked asked = is_number asked.number && is_number_if asked.under && fits_work asked.work

-- the size of a write with so many children that are writes; other work has none
abbrev pub size_with : ℕ → Work → ℕ
size_with children Null = 0
size_with children (Read name prio) = 0
size_with children (Write name sum copies prio body) = rounded_up (body_len body + POINTER_SIZE * children)
size_with children (Free name) = 0
size_with children (Claim name pointer) = 0

-- the kind is a write
abbrev pub is_write : Kind → Bool
is_write NullKind = false
is_write ReadKind = false
is_write WriteKind = true
is_write FreeKind = false
is_write ClaimKind = false

-- how many of the requests are writes under the one of this number
abbrev pub writes_under : List Request → ℕ → ℕ
writes_under requests number = count_by (λ r. is_under r number && is_write (kind_of r.work)) requests

-- the sizes of a batch's requests with one more, which has no children yet
abbrev pub sizes_with : List Request → Request → List ℕ
sizes_with batch r =
    map (λ (q : Request). size_with (writes_under (batch ++ r ∷ []) q.number) q.work) batch
    ++ size_with 0 r.work ∷ []

-- a size is too large, or all together are
abbrev pub are_too_large : List ℕ → Bool
are_too_large sizes = list_any (nat_lt BLOCK_SIZE_MAX) sizes || nat_lt BATCH_SIZE_MAX (sum sizes)

-- a word is out of range, the batch is full, or a size is too large
abbrev pub breaks_limit : List Request → NewRequest → Bool
breaks_limit batch asked =
    not (fits_asked asked) || nat_le BATCH_LEN_MAX (length batch)
    || are_too_large (sizes_with batch (request_in batch asked))

-- ---- why 4, Order

-- N isn't above the number of each earlier request
abbrev pub falls_back : Script → ℕ → Bool
falls_back script n = list_any (λ (r : Request). nat_le n r.number) (requests_of script.items)

-- ---- whys 5 and 6, Name and Conflict

-- the name, if the work has one, isn't a name
abbrev pub is_misnamed : Option Word → Bool
is_misnamed None = false
is_misnamed (Some name) = not (is_name name)

-- the fault is `flip`
abbrev pub is_flip : FaultKind → Bool
is_flip Eio = false
is_flip Gone = false
is_flip Flip = true

-- a fault row is `first` or `flip`
-- Rule: shared reads.
abbrev pub tells_reads_apart : Script → Bool
tells_reads_apart script = list_any (λ (row : Row). row.first || is_flip row.kind) script.faults

-- the kind is a read
abbrev pub is_read : Kind → Bool
is_read NullKind = false
is_read ReadKind = true
is_read WriteKind = false
is_read FreeKind = false
is_read ClaimKind = false

-- two requests of a batch may name one block: no row tells reads apart, and both are reads
abbrev pub may_share : Bool → Work → Work → Bool
may_share apart work other = not apart && is_read (kind_of work) && is_read (kind_of other)

-- the two name one block, and may not
-- Rule: shared reads.
abbrev pub clashes : Bool → Work → Work → Bool
clashes apart work other = names_it (name_of work) (name_of other) && not (may_share apart work other)

-- an earlier request of the batch names the block of this work, and isn't a read beside reads
-- Rule: shared reads.
abbrev pub is_taken : Script → List Request → Work → Bool
is_taken script batch work = list_any (λ (r : Request). clashes (tells_reads_apart script) work r.work) batch

-- ---- why 7, Flag

-- the flag is there, and is `canfail`
abbrev pub says_canfail : Option Bool → Bool
says_canfail None = false
says_canfail (Some flag) = flag

-- ---- why 8, Parent

-- the first kind may have a request of the second one under it
-- Rule: request kinds.
abbrev pub may_have : Kind → Kind → Bool
may_have NullKind child = true
may_have ReadKind child = true
may_have WriteKind child = is_write child
may_have FreeKind child = false
may_have ClaimKind child = false

-- a level up where this request is the parent, and past it where it isn't
abbrev pub levels_at : Bool → Option ℕ → Option ℕ → (Option ℕ → ℕ) → ℕ
levels_at true above under levels = suc (levels above)
levels_at false above under levels = levels under

-- how many requests stand above one under this number, among those before it, the last first
abbrev pub levels : List Request → Option ℕ → ℕ
levels [] under = zero
levels (r ∷ rs) under = levels_at (is_under_number under r.number) r.under under (levels rs)

-- the depth of a request under this number, 1 for a root
abbrev pub depth_under : List Request → Option ℕ → ℕ
depth_under batch under = 1 + levels (reverse batch) under

-- how many requests of the batch stand under the one of this number
abbrev pub children_in : List Request → ℕ → ℕ
children_in batch number = count_by (λ r. is_under r number) batch

-- no request of the batch has the number, or what has it can't take this child
abbrev pub refuses_child : List Request → Kind → Option Request → Bool
refuses_child batch child None = true
refuses_child batch child (Some parent) =
    not (may_have (kind_of parent.work) child) || nat_le CHILDREN_MAX (children_in batch parent.number)

-- P can't take this child, or the child would stand too deep
abbrev pub has_bad_parent : List Request → Kind → Option ℕ → Bool
has_bad_parent batch child None = false
has_bad_parent batch child (Some p) =
    refuses_child batch child (parent_in batch (Some p)) || nat_lt DEPTH_MAX (depth_under batch (Some p))

-- the kind is a claim
abbrev pub is_claim : Kind → Bool
is_claim NullKind = false
is_claim ReadKind = false
is_claim WriteKind = false
is_claim FreeKind = false
is_claim ClaimKind = true

-- a claim and another request are in one batch
-- Rule: request kinds.
abbrev pub shares_with_claim : List Request → Kind → Bool
shares_with_claim batch kind =
    is_claim kind && not (is_empty batch) || list_any (λ (r : Request). is_claim (kind_of r.work)) batch

-- ---- why 9, Pool

-- the leaf is one of these
abbrev pub is_among : List ℕ → ℕ → Bool
is_among leaves leaf = list_any (λ n. n == leaf) leaves

-- one of the leaves stands before, or twice
abbrev pub repeats_leaf : List ℕ → List ℕ → Bool
repeats_leaf before [] = false
repeats_leaf before (leaf ∷ leaves) = is_among before leaf || repeats_leaf (leaf ∷ before) leaves

-- ---- the whys of a line

-- the numbers of the whys
abbrev pub why_number : Why → ℕ
why_number NoShape = 1
why_number Number = 2
why_number Limit = 3
why_number Order = 4
why_number Name = 5
why_number Conflict = 6
why_number Flag = 7
why_number Parent = 8
why_number Pool = 9

-- a why, and whether it applies
pub record Check : Type 0 where
  pub why : Why
  pub applies : Bool

-- a why where this holds
abbrev pub if_so : Why → Bool → Check
if_so why applies = record { why = why; applies = applies }

-- the whys of a `fault`
abbrev pub row_whys : Script → Row → List Check
row_whys script row =
    if_so Limit (not (fits_row row) || nat_le FAULTS_MAX (length script.faults))
    ∷ if_so Order (is_empty script.tops || not (is_empty script.items))
    ∷ if_so Pool (not (is_among (all_leaves script) row.leaf)) ∷ []

-- the whys of a request, in the batch that is open
abbrev pub request_whys : Script → List Request → NewRequest → List Check
request_whys script batch asked =
    if_so Limit (breaks_limit batch asked)
    ∷ if_so Order (is_empty script.tops || falls_back script asked.number)
    ∷ if_so Name (is_misnamed (name_of asked.work))
    ∷ if_so Conflict (is_taken script batch asked.work)
    ∷ if_so Flag (says_canfail asked.flag && must_parent (parent_in batch asked.under))
    ∷ if_so Parent (
    has_bad_parent batch (kind_of asked.work) asked.under || shares_with_claim batch (kind_of asked.work)) ∷ []

-- the whys of a line whose words are read, by their numbers
abbrev pub whys_of : Before → ScriptLine → List Check
whys_of before (FailmodeLine mode) = if_so Order before.begun ∷ []
whys_of before (LeavesLine leaves sector) =
    if_so Limit (
    not (list_all is_leaf leaves) || not (is_sector sector) || nat_le TOPS_MAX (length before.script.tops))
    ∷ if_so Order (not (is_empty before.script.faults) || not (is_empty before.script.items))
    ∷ if_so Pool (repeats_leaf (all_leaves before.script) leaves) ∷ []
whys_of before (FaultLine row) = row_whys before.script row
whys_of before (RequestLine asked) = request_whys before.script (open_batch before.script) asked
whys_of before GoLine = if_so Order (is_empty (open_batch before.script)) ∷ []
whys_of before ClearLine =
    if_so Limit (nat_le CLEARS_MAX (count_by is_clear before.script.items))
    ∷ if_so Order (is_empty before.script.tops || not (is_empty (open_batch before.script))) ∷ []

-- at the end of the text: requests without `go`, or no top
abbrev pub whys_at_end : Script → List Check
whys_at_end script = if_so Order (not (is_empty (open_batch script))) ∷ if_so Pool (is_empty script.tops) ∷ []

-- the first that applies, which is the least
abbrev pub least_why : List Check → Option Why
least_why checks = option_map (λ (c : Check). c.why) (find (λ (c : Check). c.applies) checks)
