-- What is seen of a source, a sink and a shelf: what they tell, and their counts.
use Rattle.std.specs.Prelude.{ℕ, List, Bool}
use Rattle.zio_course.specs.Runners.{Stopping}

-- the texts that a source tells as left, and how often it has failed
pub record SourceSeen : Type 1 where
  pub left : List ℕ → Type 0
  pub faults : ℕ

-- what a sink tells as held, and how often it has failed
pub record SinkSeen : Type 1 where
  pub holds : List ℕ → Type 0
  pub faults : ℕ

-- what a shelf tells of its disks, and its counts
pub record ShelfSeen : Type 1 where
  pub tells : Type 0
  pub image : List ℕ → List ℕ → Type 0
  pub out : List ℕ → Type 0
  pub faults : ℕ
  pub disk_faults : ℕ
  pub fetches : ℕ
  pub returns : ℕ
  pub last_size : ℕ

-- a source by what it tells and its count
abbrev pub source_by : {S : Type 0} → (S → List ℕ → Type 0) → (S → ℕ) → S → SourceSeen
source_by left faults source = record { left = left source; faults = faults source }

-- a sink by what it tells and its count
abbrev pub sink_by : {O : Type 0} → (O → List ℕ → Type 0) → (O → ℕ) → O → SinkSeen
sink_by holds faults out = record { holds = holds out; faults = faults out }

-- a shelf by what it tells and its counts
abbrev pub shelf_by : {H : Type 0} → (H → Type 0) → (H → List ℕ → List ℕ → Type 0) → (H → List ℕ → Type 0) → (H → ℕ) → (H → ℕ) → (H → ℕ) → (H → ℕ) → (H → ℕ) → H → ShelfSeen
shelf_by tells image out faults disk_faults fetches returns last_size shelf = record {
  tells = tells shelf;
  image = image shelf;
  out = out shelf;
  faults = faults shelf;
  disk_faults = disk_faults shelf;
  fetches = fetches shelf;
  returns = returns shelf;
  last_size = last_size shelf;
}

-- the engine was stopped or not, and its stops mean nothing more
abbrev pub stopping_plainly : Bool → Stopping
stopping_plainly stopped = record { stopped = stopped; means = λ t trees before. Unit {0} }
