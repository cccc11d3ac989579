-- The files of an audit by the numbers of their names, from 0: the script, the report, the images before the run, and as
-- many after it. What sizes in bytes they may have.
use Rattle.std.specs.Prelude.{◌≡◌, ◌<◌, ◌≤◌, ◌+◌, ◌-◌, ◌/◌, ◌⊎◌, ℕ, zero, suc, List, [], ◌∷◌, ◌++◌, drop, length, map, slice_index_or}
use Rattle.zio_script.specs.declared.read.TheConstants.{SCRIPT_LEN_MAX}
use Rattle.zio_spelled.specs.declared.count.TheConstants.{REPORT_LEN_MAX}
use Rattle.zio_command.specs.Headline.{TellEach}
use Rattle.zio_audit.specs.Audits.{HasAuditedSize}
use Rattle.zio_audit.specs.Verdicts.{Case}

-- the files of a case, in the order of their names
abbrev pub files_in : Case → List (List ℕ)
files_in c = c.script ∷ c.report ∷ (c.before ++ c.after)

-- the case of the first of these files, with these images after
abbrev pub case_of : List (List ℕ) → List (List ℕ) → Case
case_of files after = record {
  script = slice_index_or files 0 [];
  report = slice_index_or files 1 [];
  before = drop 2 files;
  after = after;
}

-- a shelf that tells these images tells the files of the case under these names, and there are as many after as before
pub record TellCase (image : List ℕ → List ℕ → Type 0) (names : List (List ℕ)) (c : Case) : Type 0 where
  pub each : TellEach image names (files_in c)
  pub pairs : length c.after ≡ length c.before

-- ---- sizes

-- the last of these, or this where there are none
abbrev pub last_or : ℕ → List ℕ → ℕ
last_or n [] = n
last_or n (size ∷ sizes) = last_or size sizes

-- the sizes of the files of a case
abbrev pub sizes_in : Case → List ℕ
sizes_in c = map length (files_in c)

-- of so many files, how many are images before the run
abbrev pub images_among : ℕ → ℕ
images_among files = (files - 2) / 2

-- the file of this number may have so many bytes
abbrev pub IsWithinLimits : ℕ → ℕ → Type 0
IsWithinLimits zero size = size ≤ SCRIPT_LEN_MAX
IsWithinLimits (suc zero) size = size ≤ REPORT_LEN_MAX
IsWithinLimits (suc (suc image)) size = HasAuditedSize size

abbrev pub size_at : List ℕ → ℕ → ℕ
size_at sizes k = slice_index_or sizes k 0

-- each file may have its size
abbrev pub AreWithinLimits : List ℕ → Type 0
AreWithinLimits sizes = (k : ℕ) → k < length sizes → IsWithinLimits k (size_at sizes k)

-- this is the first file that may not
pub record IsFirstOutside (sizes : List ℕ) (k : ℕ) : Type 0 where
  pub there : k < length sizes
  pub before : (j : ℕ) → j < k → IsWithinLimits j (size_at sizes j)
  pub outside : ¬ IsWithinLimits k (size_at sizes k)

-- the file of this number is an image after the run, and has the size of its partner before it
pub record IsLikePartner (sizes : List ℕ) (k : ℕ) : Type 0 where
  pub same : size_at sizes k ≡ size_at sizes (k - images_among (length sizes))

-- where the images after the run begin
abbrev pub first_after : List ℕ → ℕ
first_after sizes = 2 + images_among (length sizes)

-- each image after the run has the size of its partner
abbrev pub ArePaired : List ℕ → Type 0
ArePaired sizes = (k : ℕ) → first_after sizes ≤ k → k < length sizes → IsLikePartner sizes k

-- this is the first image after the run that has not
pub record IsFirstUnlike (sizes : List ℕ) (k : ℕ) : Type 0 where
  pub after : first_after sizes ≤ k
  pub there : k < length sizes
  pub before : (j : ℕ) → first_after sizes ≤ j → j < k → IsLikePartner sizes j
  pub unlike : ¬ IsLikePartner sizes k

-- files of these sizes may be audited
pub record AreFit (sizes : List ℕ) : Type 0 where
  pub within : AreWithinLimits sizes
  pub paired : ArePaired sizes

-- They may not: this is the first that is out of its limits, or else the first image after the run with another size than
-- its partner.
abbrev pub IsUnfit : List ℕ → ℕ → Type 0
IsUnfit sizes k = IsFirstOutside sizes k ⊎ (AreWithinLimits sizes × IsFirstUnlike sizes k)
