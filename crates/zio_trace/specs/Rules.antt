-- What an engine goes by, and what a whole round did.
use Rattle.std.specs.Prelude.{◌≡◌, List, [], Contains, true}
use Rattle.std.specs.List.{AllByRecursion}
use Rattle.zio_cksum.specs.Images.{Images}
use Rattle.zio_trace.specs.Footprints.{Stays}
use Rattle.zio_trace.specs.Labels.{Labelled, labelled, ways_at, Earlier, same_place}
use Rattle.zio_trace.specs.Oracles.{Ways, heard, asked_in, Sure, Shuffled, ops_of, AreOnce, InOrder}
use Rattle.zio_trace.specs.Orders.{Commute}
use Rattle.zio_trace.specs.Programs.{Meaning, Program, Deed, run}
use Rattle.zio_trace.specs.Traces.{Grounded}

-- what an engine goes by
pub record Rules (Op Ans : Type 0) : Type 1 where
  pub ways : Ways Op Ans
  pub means : Meaning Op Ans
  pub Sound : Images → Type 0
  pub Lies : Op → Type 0
  pub Apart : Op → Op → Type 0
  -- which deeds an operation may do
  pub May : Op → Op → Type 0
  -- any answer, made one that fits
  pub mend : Op → Ans → Ans

pub record AreLawful {Op Ans : Type 0} (r : Rules Op Ans) : Type 0 where
  pub ground : (op : Op) → Grounded r.ways.plan r.ways.single op
  pub law : (op : Op) (images : Images) → run r.means (r.ways.plan op) images ≡ r.means op images
  pub commute : Commute r.means r.Sound r.Lies r.Apart
  -- each plan stays within, where answers fit, and its own answer fits
  pub stays : (op : Op) → Stays r.ways.Fits (λ q. (d : Op) → r.May q d → r.May op d) (r.ways.Fits op) (r.ways.plan op)
  pub mended : (op : Op) (answer : Ans) → r.ways.single op ≡ true → r.ways.Fits op (r.mend op answer)

-- What a whole round did, in the order in which it was done: it ends with the value, and its operations are those that the
-- program asks, each once. Only where one may pass the other weren't two done in the order of their places.
pub record IsDoneBy {Op Ans A : Type 0} (r : Rules Op Ans) (Passes : Labelled Op → Labelled Op → Type 0) (p : Program Op Ans A) (ds : List (Deed (Labelled Op) Ans)) (value : A) : Type 0 where
  pub known : Sure (ways_at r.ways) ds (λ o. heard o (labelled [] 0 p) ≡ value)
  pub all : Sure (ways_at r.ways) ds (λ o. Shuffled (asked_in o (labelled [] 0 p)) (ops_of ds))
  pub within : Sure (ways_at r.ways) ds (λ o. AllByRecursion (Contains (asked_in o (labelled [] 0 p))) (ops_of ds))
  pub once : AreOnce same_place ds
  pub single : AllByRecursion (λ (d : Deed (Labelled Op) Ans). r.ways.single d.op.op ≡ true) ds
  pub fit : AllByRecursion (λ (d : Deed (Labelled Op) Ans). r.mend d.op.op d.answer ≡ d.answer) ds
  pub order : InOrder Earlier Passes ds
  pub lies : AllByRecursion (λ (d : Deed (Labelled Op) Ans). r.Lies d.op.op) ds

-- those that are apart may pass each other
abbrev pub IsDone : {Op Ans A : Type 0} → Rules Op Ans → Program Op Ans A → List (Deed (Labelled Op) Ans) → A → Type 0
IsDone r p ds value = IsDoneBy r (λ x y. r.Apart x.op y.op) p ds value
