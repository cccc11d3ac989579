-- What holds of every script that is accepted.
use Rattle.std.specs.Prelude.{◌≡◌, ℕ, ◌<◌, ◌≤◌, List, [], ◌∷◌, ◌++◌, length, map, sum, fold, Bool, true, false, Option, Some, None}
use Rattle.std.specs.List.{AllByRecursion, list_any}
use Rattle.zio_types.specs.declared.request.Kind.{Kind}
use Rattle.zio_blkptr.specs.declared.pointer.TheConstants.{BLOCK_SIZE_MAX}
use Rattle.zio_script.specs.declared.limits.TheConstants.{BATCH_LEN_MAX, BATCH_SIZE_MAX, CHILDREN_MAX, DEPTH_MAX}
use Rattle.zio_script.specs.declared.script.Item.{Item}
use Rattle.zio_script.specs.declared.script.Item.TheVariants.{Request as RequestItem, Go, Clear}
use Rattle.zio_script.specs.declared.script.Request.{Request}
use Rattle.zio_script.specs.declared.script.Script.{Script}
use Rattle.zio_script.specs.Requests.{kind_of, name_of, requests_of}
use Rattle.zio_script.specs.Whys.{batch_after, children_in, clashes, depth_under, fits_work, is_claim, is_misnamed, is_number, may_have, parent_in, size_with, tells_reads_apart, writes_under}

-- the batches that `go` ends, where these requests stand behind the last `go`
abbrev pub batches_from : List Request → List Item → List (List Request)
batches_from batch [] = []
batches_from batch (RequestItem r ∷ items) = batches_from (batch ++ r ∷ []) items
batches_from batch (Go ∷ items) = batch ∷ batches_from [] items
batches_from batch (Clear ∷ items) = batches_from batch items

-- the batches of a script's lines
abbrev pub batches_of : List Item → List (List Request)
batches_of items = batches_from [] items

-- each number is below all that come after it
abbrev pub AreRising : List Request → Type 0
AreRising [] = Unit {0}
AreRising (r ∷ requests) = AllByRecursion (λ (q : Request). r.number < q.number) requests × AreRising requests

-- of these requests one has the number P, may have such a child, and has room for one more; the child isn't too deep
pub record IsChildOf (before : List Request) (kind : Kind) (p : ℕ) : Type 0 where
  pub parent : Request
  pub found : parent_in before (Some p) ≡ Some parent
  pub may : may_have (kind_of parent.work) kind ≡ true
  pub room : children_in before parent.number < CHILDREN_MAX
  pub depth : depth_under before (Some p) ≤ DEPTH_MAX

-- the same of a request of this kind under P, if there is one
abbrev pub HasParentIn : List Request → Kind → Option ℕ → Type 0
HasParentIn before kind None = Unit {0}
HasParentIn before kind (Some p) = IsChildOf before kind p

-- the parent of each request stands among these or before it
abbrev pub AreBehindParents : List Request → List Request → Type 0
AreBehindParents before [] = Unit {0}
AreBehindParents before (r ∷ requests) =
    HasParentIn before (kind_of r.work) r.under × AreBehindParents (before ++ r ∷ []) requests

-- the sizes of a batch's requests with all their children's pointers
abbrev pub sizes_in : List Request → List ℕ
sizes_in batch = map (λ (q : Request). size_with (writes_under batch q.number) q.work) batch

-- no two of the requests name one block, but for reads where no fault row tells them apart
-- Rule: shared reads.
abbrev pub NameApart : Bool → List Request → Type 0
NameApart apart [] = Unit {0}
NameApart apart (r ∷ requests) =
    AllByRecursion (λ (q : Request). clashes apart q.work r.work ≡ false) requests × NameApart apart requests

-- N, COPIES and lengths are within their ranges, and NAME is a name
pub record IsInRange (r : Request) : Type 0 where
  pub number : is_number r.number ≡ true
  pub work : fits_work r.work ≡ true
  pub name : is_misnamed (name_of r.work) ≡ false

-- a batch: parents before children, a claim alone, sizes and their sum within the limits
-- Rule: request kinds.
pub record IsOrderlyBatch (apart : Bool) (batch : List Request) : Type 0 where
  pub ranges : AllByRecursion IsInRange batch
  pub names : NameApart apart batch
  pub most : length batch ≤ BATCH_LEN_MAX
  pub parents : AreBehindParents [] batch
  pub claim : list_any (λ (r : Request). is_claim (kind_of r.work)) batch ≡ true → length batch ≡ 1
  pub sizes : AllByRecursion (λ n. n ≤ BLOCK_SIZE_MAX) (sizes_in batch)
  pub total : sum (sizes_in batch) ≤ BATCH_SIZE_MAX

-- lines whose numbers rise and whose batches are orderly, the one that is open too
pub record AreOrderly (apart : Bool) (items : List Item) : Type 0 where
  pub rising : AreRising (requests_of items)
  pub batches : AllByRecursion (IsOrderlyBatch apart) (batches_of items)
  pub last : IsOrderlyBatch apart (fold batch_after [] items)

-- the same of a script's lines
abbrev pub IsOrderlyScript : Script → Type 0
IsOrderlyScript script = AreOrderly (tells_reads_apart script) script.items
