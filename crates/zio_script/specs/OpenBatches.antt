-- What the reader keeps of the batch that is open, and how it stands to the batch's requests: the reader's own words, and
-- nothing that has to be believed.
use Rattle.std.specs.Prelude.{◌≡◌, ◌<◌, ◌≤◌, ◌+◌, ◌-◌, ◌*◌, ℕ, List, [], ◌∷◌, length, map, sum, slice_index_or, slice_set, reverse, Bool, true, false, not, cond, nat_lt, nat_le, ◌&&◌, ◌||◌, Option, Some, None, Result, Ok, Err}
use Rattle.std.specs.List.{AllByRecursion, list_any}
use Rattle.zio_script.specs.declared.names.BatchNames.{BatchNames}
use Rattle.zio_script.specs.declared.open_batch.RequestMark.{RequestMark}
use Rattle.zio_script.specs.declared.open_batch.OpenBatch.{OpenBatch}
use Rattle.zio_script.specs.declared.open_batch.Stand.{Stand}
use Rattle.zio_script.specs.declared.open_batch.Stand.TheVariants.{Root, Under, Lost}
use Rattle.zio_script.specs.declared.script.Request.{Request}
use Rattle.zio_script.specs.declared.script.Work.{Work}
use Rattle.zio_script.specs.declared.script.Work.TheVariants.{Null, Read, Write, Free, Claim}
use Rattle.zio_blkptr.specs.declared.pointer.TheConstants.{BLOCK_SIZE_MAX}
use Rattle.zio_script.specs.declared.limits.TheConstants.{BATCH_LEN_MAX, BATCH_SIZE_MAX, CHILDREN_MAX, DEPTH_MAX, POINTER_SIZE}
use Rattle.zio_types.specs.declared.request.Kind.{Kind}
use Rattle.zio_types.specs.declared.request.Kind.TheVariants.{Null as NullKind}
use Rattle.zio_script.specs.Accepted.{AreRising, sizes_in}
use Rattle.zio_script.specs.Keys.{AddsName, AreBegun, clash, has_key, name_key}
use Rattle.zio_script.specs.Requests.{is_under_number, kind_of, name_of, names_it}
use Rattle.zio_script.specs.Whys.{body_len, children_in, depth_under, is_claim, is_read, is_write, may_have, parent_in, rounded_up, writes_under}
use Rattle.zio_script.specs.Words.{is_name}

-- ---- marks

-- the bytes of a write without its children's pointers
abbrev pub work_len : Work → ℕ
work_len Null = 0
work_len (Read name prio) = 0
work_len (Write name sum copies prio body) = body_len body
work_len (Free name) = 0
work_len (Claim name pointer) = 0

-- what is kept of a request among those of its batch
abbrev pub mark_in : List Request → Request → RequestMark
mark_in batch r = record {
  number = r.number;
  kind = kind_of r.work;
  canfail = r.canfail;
  depth = depth_under batch r.under;
  children = children_in batch r.number;
  writes = writes_under batch r.number;
  len = work_len r.work;
}

-- the same of each
abbrev pub marks_of : List Request → List RequestMark
marks_of batch = map (mark_in batch) batch

-- each of these, the last first, has a number of its own, and none stands under it or under a later one
abbrev pub AreTidy : List Request → Type 0
AreTidy [] = Unit {0}
AreTidy (r ∷ requests) =
    (is_under_number r.under r.number ≡ false)
    × AllByRecursion (λ (q : Request). is_under_number q.under r.number ≡ false) requests
    × AllByRecursion (λ (q : Request). q.number < r.number) requests × AreTidy requests

-- ---- names

-- the block may be named beside reads: it is read, and no row tells reads apart
abbrev pub is_shared : Bool → Work → Bool
is_shared apart work = not apart && is_read (kind_of work)

-- a request of the batch that shares its block has the name
abbrev pub is_shared_in : Bool → List Request → List ℕ → Bool
is_shared_in apart batch name =
    list_any (λ (r : Request). names_it (Some name) (name_of r.work) && is_shared apart r.work) batch

-- another request of the batch has the name
abbrev pub is_owned_in : Bool → List Request → List ℕ → Bool
is_owned_in apart batch name =
    list_any (λ (r : Request). names_it (Some name) (name_of r.work) && not (is_shared apart r.work)) batch

-- ---- the batch

-- what is kept is that of these requests
pub record IsBatch (apart : Bool) (batch : List Request) (kept : OpenBatch) : Type 0 where
  pub marks : kept.marks.items ≡ marks_of batch
  pub size : kept.size ≡ sum (sizes_in batch)
  pub claim : kept.has_claim ≡ list_any (λ (r : Request). is_claim (kind_of r.work)) batch
  pub begun : AreBegun kept.names
  pub read : (name : List ℕ) → is_name name ≡ true → has_key kept.names.read (name_key name) ≡ is_shared_in apart batch name
  pub written : (name : List ℕ) → is_name name ≡ true → has_key kept.names.written (name_key name) ≡ is_owned_in apart batch name
  pub rising : AreRising batch
  pub tidy : AreTidy (reverse batch)

-- ---- parents

-- the request under which another one stands, and where its mark is
pub record IsParentAt (batch : List Request) (kept : OpenBatch) (under : Option ℕ) (i : ℕ) : Type 0 where
  pub number : ℕ
  pub parent : Request
  pub under_is : under ≡ Some number
  pub found : parent_in batch (Some number) ≡ Some parent
  pub within : i < length kept.marks.items
  pub there : (d : Request) → slice_index_or batch i d ≡ parent
  pub mark : (d : RequestMark) → slice_index_or kept.marks.items i d ≡ mark_in batch parent

-- no request of the batch has the number
pub record IsParentLost (batch : List Request) (under : Option ℕ) : Type 0 where
  pub number : ℕ
  pub under_is : under ≡ Some number
  pub none : parent_in batch (Some number) ≡ None

-- where a request stands
abbrev pub IsStand : List Request → OpenBatch → Option ℕ → Stand → Type 0
IsStand batch kept under Root = under ≡ None
IsStand batch kept under (Under i) = IsParentAt batch kept under i
IsStand batch kept under Lost = IsParentLost batch under

-- where the request of a number is, if the batch has it
abbrev pub IsPosition : List Request → OpenBatch → ℕ → Result ℕ ℕ → Type 0
IsPosition batch kept number (Ok i) = IsParentAt batch kept (Some number) i
IsPosition batch kept number (Err i) = parent_in batch (Some number) ≡ None

-- ---- where a request stands, by the marks

abbrev pub no_mark : RequestMark
no_mark = record { number = 0; kind = NullKind; canfail = false; depth = 0; children = 0; writes = 0; len = 0 }

-- the mark there
abbrev pub mark_at : OpenBatch → ℕ → RequestMark
mark_at kept i = slice_index_or kept.marks.items i no_mark

-- the size of a request with so many writes under it
abbrev pub marked_size : ℕ → RequestMark → ℕ
marked_size writes mark = cond (is_write mark.kind) (rounded_up (mark.len + POINTER_SIZE * writes)) 0

-- the numbers of a mark are small, and its size is part of this one
pub record IsMarkWithin (size : ℕ) (mark : RequestMark) : Type 0 where
  pub len : mark.len ≤ BLOCK_SIZE_MAX
  pub writes : mark.writes ≤ BATCH_LEN_MAX
  pub children : mark.children ≤ BATCH_LEN_MAX
  pub depth : mark.depth ≤ BATCH_LEN_MAX + 1
  pub part : marked_size mark.writes mark ≤ size

-- the mark of the parent is there, and small
abbrev pub IsStandWithin : OpenBatch → Stand → Type 0
IsStandWithin kept Root = Unit {0}
IsStandWithin kept (Under i) = (i < length kept.marks.items) × IsMarkWithin kept.size (mark_at kept i)
IsStandWithin kept Lost = Unit {0}

-- the size of a batch, where a block in it and the batch itself aren't too large
abbrev pub within : ℕ → ℕ → Option ℕ
within block batch = cond (nat_lt BLOCK_SIZE_MAX block || nat_lt BATCH_SIZE_MAX batch) None (Some batch)

-- with one more write of this size under a request
abbrev pub size_under : ℕ → RequestMark → ℕ → Option ℕ
size_under size parent own =
    within (marked_size (parent.writes + 1) parent)
    (size - marked_size parent.writes parent + marked_size (parent.writes + 1) parent + own)

-- with one more write of this size
abbrev pub write_after : OpenBatch → Stand → ℕ → Option ℕ
write_after kept Root own = within 0 (kept.size + own)
write_after kept (Under i) own = size_under kept.size (mark_at kept i) own
write_after kept Lost own = within 0 (kept.size + own)

-- with one more request
abbrev pub size_after : OpenBatch → Stand → Bool → ℕ → Option ℕ
size_after kept stand true len = write_after kept stand (rounded_up len)
size_after kept stand false len = Some kept.size

-- the parent may not fail
abbrev pub must_at : OpenBatch → Stand → Bool
must_at kept Root = false
must_at kept (Under i) = not (mark_at kept i).canfail
must_at kept Lost = false

-- a request of this kind can't stand there
abbrev pub is_full_at : OpenBatch → Kind → Stand → Bool
is_full_at kept kind Root = false
is_full_at kept kind (Under i) =
    not (may_have (mark_at kept i).kind kind) || nat_le CHILDREN_MAX (mark_at kept i).children
    || nat_le DEPTH_MAX (mark_at kept i).depth
is_full_at kept kind Lost = true

-- how deep a request stands there
abbrev pub depth_at : OpenBatch → Stand → ℕ
depth_at kept Root = 1
depth_at kept (Under i) = (mark_at kept i).depth + 1
depth_at kept Lost = 1

-- a mark with one more child of this kind
abbrev pub with_child : Kind → RequestMark → RequestMark
with_child kind mark = record mark { children = mark.children + 1; writes = mark.writes + cond (is_write kind) 1 0 }

-- the marks with one more child there
abbrev pub marks_after : List RequestMark → Stand → Kind → List RequestMark
marks_after marks Root kind = marks
marks_after marks (Under i) kind = slice_set marks i (with_child kind (slice_index_or marks i no_mark))
marks_after marks Lost kind = marks

-- ---- the name of one more request

-- the batch has the name, and this work may not share its block
abbrev pub is_clash_by : Option (List ℕ) → BatchNames → Bool → Bool
is_clash_by None names shared = false
is_clash_by (Some name) names shared = clash names shared (name_key name)

abbrev pub is_clash : BatchNames → Bool → Work → Bool
is_clash names apart work = is_clash_by (name_of work) names (is_shared apart work)

-- the names with that of this work
abbrev pub AddsWorkBy : Option (List ℕ) → BatchNames → Bool → BatchNames → Type 0
AddsWorkBy None old shared new = new ≡ old
AddsWorkBy (Some name) old shared new = AddsName old (name_key name) shared new

abbrev pub AddsWork : BatchNames → Bool → Work → BatchNames → Type 0
AddsWork old apart work new = AddsWorkBy (name_of work) old (is_shared apart work) new

-- a request's mark where it stands, before it has children
abbrev pub new_mark : OpenBatch → Request → Stand → RequestMark
new_mark kept r stand = record {
  number = r.number;
  kind = kind_of r.work;
  canfail = r.canfail;
  depth = depth_at kept stand;
  children = 0;
  writes = 0;
  len = work_len r.work;
}
