-- Files as a case: the script, the report, the images before the run, and as many after it.
use Rattle.std.proofs.Common.{◌≡◌, ◌≤◌, ◌+◌, ◌*◌, ℕ, suc, List, [], ◌∷◌, ◌++◌, get_or, length, map, take, drop, refl, sym, ap, ◌∙◌, subst, arith}
use Rattle.std.specs.Prelude.{slice_index_or, slice_range}
use Rattle.std.specs.List.{AllByRecursion}
use Rattle.std.proofs.lemmas.List.{length-drop, length-map, length-take-le, map-append, take-append-drop}
use Rattle.zio_cksum.specs.Images.{Images}
use Rattle.zio_disks.specs.Disks.{Tell}
use Rattle.zio_command.specs.declared.names.TheConstants.{IMAGES_MAX}
use Rattle.zio_audit.specs.Audits.{HasAuditedSize, MayBeAudited}
use Rattle.zio_audit.specs.Verdicts.{Case}
use Rattle.zio_audit_run.specs.Files.{AreFit, case_of, files_in}
use Rattle.zio_audit_run.specs.Reads.{AreBytesOf}
use Rattle.zio_audit_run.proofs.ReadLemmas.{both_parts, part_long}
use Rattle.zio_audit_run.proofs.SizeLemmas.{fit_case, lists_fit}

-- the files of a case are those that it is made of
case_files : (files after : Images) → 2 ≤ length files → files_in (case_of files after) ≡ files ++ after
case_files [] after some = absurd (let l : 2 ≤ 0 = some in omega arith)
case_files (x ∷ []) after some = absurd (let l : 2 ≤ 1 = some in omega arith)
case_files (x ∷ y ∷ rest) after some = refl

-- what fit sizes of all files say of the first, up to the images before the run
pub front_may : (files : Images) (sizes : List ℕ) (n : ℕ) → length sizes ≡ 2 + 2 * n → n ≤ IMAGES_MAX → AreFit sizes → map (length {A = ℕ}) files ≡ take (2 + n) sizes
    → MayBeAudited (case_of files (drop 2 files))
front_may files [] n count few fit front = absurd (let l : 0 ≡ 2 + 2 * n = count in omega arith)
front_may files (a ∷ []) n count few fit front = absurd (let l : 1 ≡ 2 + 2 * n = count in omega arith)
front_may [] (a ∷ b ∷ sizes) n count few fit front =
    let two : 2 + n ≡ suc (suc n) = omega arith in
    let e : [] ≡ a ∷ b ∷ take n sizes = front ∙ ap (λ (m : ℕ). take m (a ∷ b ∷ sizes)) two in
    let l : 0 ≡ suc (suc (length (take n sizes))) = ap length e in
    absurd (omega arith)
front_may (x ∷ []) (a ∷ b ∷ sizes) n count few fit front =
    let two : 2 + n ≡ suc (suc n) = omega arith in
    let e : length x ∷ [] ≡ a ∷ b ∷ take n sizes = front ∙ ap (λ (m : ℕ). take m (a ∷ b ∷ sizes)) two in
    let l : 1 ≡ suc (suc (length (take n sizes))) = ap length e in
    absurd (omega arith)
front_may (x ∷ y ∷ before) (a ∷ b ∷ sizes) n count few fit front =
    let two : 2 + n ≡ suc (suc n) = omega arith in
    let long : suc (suc (length sizes)) ≡ 2 + 2 * n = count in
    let e : length x ∷ length y ∷ map (length {A = ℕ}) before ≡ a ∷ b ∷ take n sizes = front ∙ ap (λ (m : ℕ). take m (a ∷ b ∷ sizes)) two in
    let script : length x ≡ a = ap (λ (ns : List ℕ). get_or ns 0 0) e in
    let report : length y ≡ b = ap (λ (ns : List ℕ). get_or ns 1 0) e in
    let rest : map (length {A = ℕ}) before ≡ take n sizes = ap (λ (ns : List ℕ). drop 2 ns) e in
    let first : length (take n sizes) ≡ n = length-take-le n sizes (omega arith) in
    let second : length (drop n sizes) ≡ n = omega (arith, length-drop n sizes) in
    let lists = lists_fit a b n (take n sizes) (drop n sizes) first second (subst (λ (ns : List ℕ). AreFit (a ∷ b ∷ ns)) (sym (take-append-drop n sizes)) fit) in
    let many : length before ≡ n = sym (length-map before (length {A = ℕ})) ∙ (ap length rest ∙ first) in
    record {
      script = omega (arith, lists.script);
      report = omega (arith, lists.report);
      few = omega arith;
      sizes = subst (λ (ns : List ℕ). AllByRecursion HasAuditedSize ns) (sym rest) lists.before;
      pairs = refl;
    }

-- the first files and the images after the run, as they were read of disks that tell their sizes
pub record IsWhole {D : Type 0} (bytes : D → ℕ) (image : D → List ℕ → Type 0) (disks : List D) (c : Case) : Type 0 where
  pub read : AreBytesOf bytes image disks (files_in c)
  pub may : MayBeAudited c

pub whole_case : {D : Type 0} (bytes : D → ℕ) (image : D → List ℕ → Type 0) (disks : List D) (files after : Images) (n : ℕ) → length disks ≡ 2 + 2 * n → n ≤ IMAGES_MAX
    → AreFit (map bytes disks) → map (length {A = ℕ}) files ≡ slice_range (map bytes disks) 0 (2 + n) → map (length {A = ℕ}) after ≡ slice_range (map bytes disks) (2 + n) (length disks)
    → ((images : Images) → Tell image disks images → length images ≡ length disks)
    → ((images : Images) → Tell image disks images → files ≡ slice_range images 0 (2 + n))
    → ((images : Images) → Tell image disks images → after ≡ slice_range images (2 + n) (length disks))
    → IsWhole bytes image disks (case_of files after)
whole_case bytes image disks files after n count few fit front behind many first second =
    let sizes = map bytes disks in
    let all : length sizes ≡ length disks = length-map disks bytes in
    let within : 2 + n ≤ length disks = omega arith in
    let joined : map (length {A = ℕ}) (files ++ after) ≡ sizes =
    map-append (length {A = ℕ}) files after
    ∙ (ap (λ (ns : List ℕ). ns ++ map (length {A = ℕ}) after) front ∙ (ap (λ (ns : List ℕ). slice_range sizes 0 (2 + n) ++ ns) behind ∙ both_parts sizes (2 + n) (length disks) within all)) in
    let f : length files ≡ 2 + n = sym (length-map files (length {A = ℕ})) ∙ (ap length front ∙ (part_long sizes 0 (2 + n) (omega arith) (omega arith) ∙ omega arith)) in
    let a : length after ≡ n =
    sym (length-map after (length {A = ℕ})) ∙ (ap length behind ∙ (part_long sizes (2 + n) (length disks) within (omega arith) ∙ omega arith)) in
    let some : 2 ≤ length files = omega arith in
    let same : files_in (case_of files after) ≡ files ++ after = case_files files after some in
    let are : map (length {A = ℕ}) (files_in (case_of files after)) ≡ sizes = ap (map (length {A = ℕ})) same ∙ joined in
    let before : length (drop 2 files) ≡ n = omega (arith, length-drop 2 files) in
    record {
      read = record {
        sizes = are;
        told = λ images tell.
            same ∙ (ap (λ (fs : Images). fs ++ after) (first images tell)
            ∙ (ap (λ (fs : Images). slice_range images 0 (2 + n) ++ fs) (second images tell) ∙ both_parts images (2 + n) (length disks) within (many images tell)));
      };
      may = fit_case (case_of files after) n before a few (subst AreFit (sym are) fit);
    }

-- ---- the first files

-- the first two and those behind them are the parts of a case
pub record AreParts (files : Images) (script report : List ℕ) (before : Images) : Type 0 where
  pub script_is : script ≡ slice_index_or files 0 []
  pub report_is : report ≡ slice_index_or files 1 []
  pub before_is : before ≡ drop 2 files

pub parts_of : (files kept before : Images) (script report a b : List ℕ) → 2 ≤ length files → kept ≡ take 2 files → before ≡ drop 2 files → script ≡ get_or kept 0 a → report ≡ get_or kept 1 b
    → AreParts files script report before
parts_of [] kept before script report a b some front behind first second = absurd (let l : 2 ≤ 0 = some in omega arith)
parts_of (x ∷ []) kept before script report a b some front behind first second = absurd (let l : 2 ≤ 1 = some in omega arith)
parts_of (x ∷ y ∷ rest) kept before script report a b some front behind first second = record {
  script_is = first ∙ ap (λ (fs : Images). get_or fs 0 a) front;
  report_is = second ∙ ap (λ (fs : Images). get_or fs 1 b) front;
  before_is = behind;
}

pub parts_case : (files before : Images) (script report : List ℕ) → AreParts files script report before → (after : Images)
    → case_of files after ≡ record { script = script; report = report; before = before; after = after }
parts_case files before script report are after = λ i. record { script = sym are.script_is i; report = sym are.report_is i; before = sym are.before_is i; after = after }

pub parts_may : (files before : Images) (script report : List ℕ) → AreParts files script report before → MayBeAudited (case_of files (drop 2 files))
    → MayBeAudited (record { script = script; report = report; before = before; after = before })
parts_may files before script report are may =
    subst (λ (c : Case). MayBeAudited c) (λ i. record { script = sym are.script_is i; report = sym are.report_is i; before = sym are.before_is i; after = sym are.before_is i }) may
