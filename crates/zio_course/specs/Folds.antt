-- What a run has between two rounds, whether images are told or not.
use Rattle.std.specs.Prelude.{◌≡◌, ℕ, ◌+◌, ◌*◌, ◌^◌, ◌≤◌, List, [], ◌∷◌, ◌++◌, length, map, Bool, true, false, Some, None, IfSome, IsTrue, Contains}
use Rattle.std.specs.List.{AllByRecursion, flat_map, list_any}
use Rattle.zio_types.specs.declared.place.Place.{Place}
use Rattle.zio_types.specs.Places.{is_inside}
use Rattle.zio_script.specs.declared.script.Request.{Request}
use Rattle.zio_script.specs.Requests.{name_of, names_it, requests_of}
use Rattle.zio_gang.specs.declared.tree.Tree.{Tree}
use Rattle.zio_gang.specs.Attempts.{Pending}
use Rattle.zio_gang.specs.Runs.{Batch as DefinedBatch}
use Rattle.zio_gang.specs.Trees.{sizes_of}
use Rattle.zio_report.specs.declared.report.ReportLine.{ReportLine}
use Rattle.zio_report.specs.declared.report.LineResult.{LineResult}
use Rattle.zio_report.specs.declared.report.LineResult.TheVariants.{Suspended, Failed, Done, Sized, Bytes}
use Rattle.zio_course.specs.declared.fold.Batch.{Batch}
use Rattle.zio_course.specs.declared.fold.Fold.{Fold}
use Rattle.zio_course.specs.declared.fold.Tally.{Tally}
use Rattle.zio_course.specs.Live.{IsLive, IsRoundOver}
use Rattle.zio_course.specs.Names.{is_name_in, named_in}
use Rattle.zio_course.specs.Runners.{AreRisingFrom, Standing, has_claim, numbers_of, requests_in, roots_of, rows_tell_apart}
use Rattle.zio_course.specs.Steps.{AreUnfinished}
use Rattle.zio_course.specs.Told.{no_error}

-- ---- what is seen of a run

-- what a run has between two rounds, with each tree seen as its requests
pub record SeenFold : Type 0 where
  pub bound : List (List ℕ × Tree)
  pub suspended : List (List Pending)
  pub unfinished : List Request
  pub awaited : List (List ℕ)
  pub point : ℕ
  pub panicked : Bool
  pub tally : Tally

abbrev pub fold_seen : {T : Type 0} → (T → List Pending) → Fold T → SeenFold
fold_seen pending fold = record {
  bound = fold.bound;
  suspended = map pending fold.suspended;
  unfinished = map (λ r. r.now) fold.unfinished.items;
  awaited = fold.awaited;
  point = fold.point;
  panicked = fold.panicked;
  tally = fold.tally;
}

-- a batch of these lines, as the definition has it
abbrev pub batch_seen : Batch → DefinedBatch
batch_seen batch = record { number = batch.number; requests = requests_of batch.lines.now }

abbrev pub batches_seen : List Batch → List DefinedBatch
batches_seen batches = map batch_seen batches

-- the requests of batches
abbrev pub requests_in_all : List (List Request) → List Request
requests_in_all batches = flat_map (λ (batch : List Request). batch) batches

-- ---- what became of requests

-- a request that waits, by what is shown of it
abbrev pub waiting_by : LineResult → Request → List Request
waiting_by Suspended r = r ∷ []
waiting_by (Failed e) r = []
waiting_by Done r = []
waiting_by (Sized n) r = []
waiting_by (Bytes bytes) r = []

-- the requests that wait, by the lines of all
abbrev pub waiting_of : List Request → List ReportLine → List Request
waiting_of [] lines = []
waiting_of (r ∷ rs) [] = []
waiting_of (r ∷ rs) (l ∷ ls) = waiting_by l.result r ++ waiting_of rs ls

-- one more request, by what is shown of it
abbrev pub counted_by : LineResult → Tally → Tally
counted_by Suspended t = t
counted_by (Failed e) t = record t { bad = t.bad + 1 }
counted_by Done t = record t { good = t.good + 1 }
counted_by (Sized n) t = record t { good = t.good + 1 }
counted_by (Bytes bytes) t = record t { good = t.good + 1; read = t.read + length bytes }

-- all of these
abbrev pub counted_in : List ReportLine → Tally → Tally
counted_in [] t = t
counted_in (l ∷ ls) t = counted_in ls (counted_by l.result t)

-- one of the requests names the block of this name
abbrev pub is_named_by : List Request → List ℕ → Bool
is_named_by requests name = list_any (λ (r : Request). names_it (Some name) (name_of r.work)) requests

-- there is an item
abbrev pub has_items : {X : Type 0} → List X → Bool
has_items [] = false
has_items (x ∷ xs) = true

-- ---- what is known

-- Trees that wait for the next `clear`, and their requests by number: as when a round is over in which nothing was answered;
-- each has a root, which stands under no request, the roots' numbers rise, and no claim is among them.
pub record AreSuspended (apart : Bool) (bound : List (List ℕ × Tree)) (suspended : List (List Pending)) (unfinished : List Request) : Type 0 where
  pub over : IsRoundOver apart bound no_error unfinished suspended
  pub numbers : AreUnfinished suspended unfinished
  pub each : length (roots_of suspended) ≡ length suspended
  pub rising : AreRisingFrom 0 (numbers_of (roots_of suspended))
  pub under : AllByRecursion (λ (r : Request). r.under ≡ None) (roots_of suspended)
  pub claims : has_claim (requests_in suspended) ≡ false

-- A run between two rounds over a runner: its bound blocks are those in use and may be read, their places lie inside the
-- tops, its trees are suspended, their names are awaited, and the runner has run as many rounds as were counted.
pub record IsSteady (fits : Tree → Type 0) (s : Standing) (rounds : ℕ) (f : SeenFold) : Type 0 where
  pub fits_all : (name : List ℕ) → IfSome (named_in f.bound name) fits
  pub live : IsLive s.live f.bound
  pub inside : (p : Place) → Contains s.live p → IsTrue (is_inside (sizes_of s.tops) p)
  pub waits : AreSuspended (rows_tell_apart s.rows) f.bound f.suspended f.unfinished
  pub awaited : (name : List ℕ) → is_name_in f.awaited name ≡ is_named_by f.unfinished name
  pub runs : s.stopped ≡ false
  pub last : s.last ≡ rounds
  pub sums : f.tally.read ≤ f.tally.good * 2 ^ 64
