-- Sizes by the numbers of the files, and by the lists of a case.
use Rattle.std.proofs.Common.{◌≡◌, ◌<◌, ◌≤◌, ◌+◌, ◌-◌, ◌*◌, ℕ, zero, suc, List, [], ◌∷◌, ◌++◌, get_or, length, map, inl, inr, refl, sym, ap, ◌∙◌, subst, take, drop, arith}
use Rattle.std.proofs.lemmas.Bool.{cases_lt}
use Rattle.std.proofs.lemmas.Grind.{same_number_lists}
use Rattle.std.proofs.lemmas.List.{get_or-append-add, get_or_append_left, length-append, length-map, map-append}
use Rattle.std.proofs.Math.Seq.{drop-append_seam, take-append_seam}
use Rattle.std.specs.List.{AllByRecursion}
use Rattle.zio_cksum.proofs.AllLemmas.{all_append}
use Rattle.zio_script.specs.declared.read.TheConstants.{SCRIPT_LEN_MAX}
use Rattle.zio_spelled.specs.declared.count.TheConstants.{REPORT_LEN_MAX}
use Rattle.zio_command.specs.declared.names.TheConstants.{IMAGES_MAX}
use Rattle.zio_audit.specs.Audits.{HasAuditedSize, MayBeAudited}
use Rattle.zio_audit.specs.Verdicts.{Case}
use Rattle.zio_audit_run.specs.Files.{AreFit, AreWithinLimits, IsFirstOutside, IsFirstUnlike, IsLikePartner, IsUnfit, files_in, first_after, images_among, sizes_in}

-- ---- the first that is unfit

pub fit_not : (sizes : List ℕ) (k : ℕ) → AreFit sizes → IsUnfit sizes k → ⊥
fit_not sizes k fit (inl first) = first.outside (fit.within k first.there)
fit_not sizes k fit (inr (within, first)) = first.unlike (fit.paired k first.after first.there)

one_outside : (sizes : List ℕ) (j k : ℕ) → IsFirstOutside sizes j → IsFirstOutside sizes k → j < k → ⊥
one_outside sizes j k one other less = one.outside (other.before j less)

one_unlike : (sizes : List ℕ) (j k : ℕ) → IsFirstUnlike sizes j → IsFirstUnlike sizes k → j < k → ⊥
one_unlike sizes j k one other less = one.unlike (other.before j one.after less)

apart : (j k : ℕ) → (j < k → ⊥) → (k < j → ⊥) → j ≡ k
apart j k below above = elim (cases_lt j k) [
  | inl less ↦ absurd (below less)
  | inr most ↦ elim (cases_lt k j) [ inl more ↦ absurd (above more) | inr least ↦ omega arith ]
]

pub one_unfit : (sizes : List ℕ) (j k : ℕ) → IsUnfit sizes j → IsUnfit sizes k → j ≡ k
one_unfit sizes j k (inl one) (inl other) = apart j k (one_outside sizes j k one other) (one_outside sizes k j other one)
one_unfit sizes j k (inl one) (inr (within, other)) = absurd (one.outside (within j one.there))
one_unfit sizes j k (inr (within, one)) (inl other) = absurd (other.outside (within k other.there))
one_unfit sizes j k (inr (within, one)) (inr (those, other)) = apart j k (one_unlike sizes j k one other) (one_unlike sizes k j other one)

-- ---- the sizes of a case

pub among_is : (files images : ℕ) → files ≡ 2 + 2 * images → images_among files ≡ images
among_is files images all = omega arith

all_at : (P : ℕ → Type 0) (xs : List ℕ) → ((k : ℕ) → k < length xs → P (get_or xs k 0)) → AllByRecursion P xs
all_at P [] each = tt
all_at P (x ∷ xs) each = (each zero (omega arith), all_at P xs (λ k within. each (suc k) (omega arith)))

-- what fit sizes are: the script's, the report's, those of the images before, and those after
pub record ListsFit (a b : ℕ) (xs ys : List ℕ) : Type 0 where
  pub script : a ≤ SCRIPT_LEN_MAX
  pub report : b ≤ REPORT_LEN_MAX
  pub before : AllByRecursion HasAuditedSize xs
  pub same : ys ≡ xs

pub lists_fit : (a b n : ℕ) (xs ys : List ℕ) → length xs ≡ n → length ys ≡ n → AreFit (a ∷ b ∷ (xs ++ ys)) → ListsFit a b xs ys
lists_fit a b n xs ys first second fit =
    let sizes : List ℕ = a ∷ b ∷ (xs ++ ys) in
    let both : length (xs ++ ys) ≡ length xs + length ys = length-append xs ys in
    let count : length sizes ≡ 2 + 2 * n = omega arith in
    let images : images_among (length sizes) ≡ n = among_is (length sizes) n count in
    record {
      script = fit.within zero (omega arith);
      report = fit.within (suc zero) (omega arith);
      before =
          all_at HasAuditedSize xs
          (λ k within. subst HasAuditedSize (get_or_append_left xs ys 0 k within) (fit.within (suc (suc k)) (omega arith)));
      same =
          same_number_lists ys xs (second ∙ sym first)
          (λ k within.
          (let there : length xs + k < length (xs ++ ys) = omega arith in
          let pair = fit.paired (suc (suc (length xs + k))) (omega arith) (omega arith) in
          let partner : suc (suc (length xs + k)) - images_among (length sizes) ≡ suc (suc k) = omega arith in
          let short : k < length xs = omega arith in
          sym (get_or-append-add xs ys k 0)
          ∙ (pair.same ∙ (ap (λ (j : ℕ). get_or sizes j 0) partner ∙ get_or_append_left xs ys 0 k short))));
    }

-- files of fit sizes may be audited
pub fit_case : (c : Case) (n : ℕ) → length c.before ≡ n → length c.after ≡ n → n ≤ IMAGES_MAX → AreFit (sizes_in c) → MayBeAudited c
fit_case c n first second few fit =
    let joined : map (length {A = ℕ}) (c.before ++ c.after) ≡ map (length {A = ℕ}) c.before ++ map (length {A = ℕ}) c.after =
    map-append (length {A = ℕ}) c.before c.after in
    let lists = lists_fit (length c.script) (length c.report) n (map (length {A = ℕ}) c.before) (map (length {A = ℕ}) c.after)
    (length-map c.before (length {A = ℕ}) ∙ first) (length-map c.after (length {A = ℕ}) ∙ second)
    (subst (λ (sizes : List ℕ). AreFit (length c.script ∷ length c.report ∷ sizes)) joined fit) in
    record {
      script = lists.script;
      report = lists.report;
      few = omega arith;
      sizes = lists.before;
      pairs = lists.same;
    }

is_at : (P : ℕ → Type 0) (xs : List ℕ) → AllByRecursion P xs → (k : ℕ) → k < length xs → P (get_or xs k 0)
is_at P [] all k within = absurd (let l : k < 0 = within in omega arith)
is_at P (x ∷ xs) all zero within = all.0
is_at P (x ∷ xs) all (suc k) within = is_at P xs all.1 k (let l : suc k < suc (length xs) = within in omega arith)

-- of twice the same sizes, one stands where the other does
twice_at : (xs : List ℕ) (k : ℕ) → get_or (xs ++ xs) (length xs + k) 0 ≡ get_or xs k 0
twice_at xs k = get_or-append-add xs xs k 0

within_both : (P : ℕ → Type 0) (xs : List ℕ) → AllByRecursion P xs → (k : ℕ) → k < length (xs ++ xs) → P (get_or (xs ++ xs) k 0)
within_both P xs all k within = is_at P (xs ++ xs) (all_append P xs xs all all) k within

fit_lists : (a b : ℕ) (xs : List ℕ) → a ≤ SCRIPT_LEN_MAX → b ≤ REPORT_LEN_MAX → AllByRecursion HasAuditedSize xs → AreFit (a ∷ b ∷ (xs ++ xs))
fit_lists a b xs script report images = record { within = each; paired = pairs }
  where
    sizes : List ℕ
    sizes = a ∷ b ∷ (xs ++ xs)

    each : AreWithinLimits (a ∷ b ∷ (xs ++ xs))
    each zero there = script
    each (suc zero) there = report
    each (suc (suc k)) there =
        within_both HasAuditedSize xs images k (let l : suc (suc k) < suc (suc (length (xs ++ xs))) = there in omega arith)

    pairs : (k : ℕ) → first_after (a ∷ b ∷ (xs ++ xs)) ≤ k → k < length (a ∷ b ∷ (xs ++ xs)) → IsLikePartner (a ∷ b ∷ (xs ++ xs)) k
    pairs k from there =
        let both : length (xs ++ xs) ≡ length xs + length xs = length-append xs xs in
        let all : length (a ∷ b ∷ (xs ++ xs)) ≡ suc (suc (length (xs ++ xs))) = refl in
        let count : length (a ∷ b ∷ (xs ++ xs)) ≡ 2 + 2 * length xs = omega arith in
        let n : images_among (length (a ∷ b ∷ (xs ++ xs))) ≡ length xs = among_is (length (a ∷ b ∷ (xs ++ xs))) (length xs) count in
        let j = k - (2 + length xs) in
        let at : k ≡ suc (suc (length xs + j)) = omega arith in
        let partner : k - images_among (length (a ∷ b ∷ (xs ++ xs))) ≡ suc (suc j) = omega arith in
        let short : j < length xs = omega arith in
        record {
          same =
              ap (λ (m : ℕ). get_or (a ∷ b ∷ (xs ++ xs)) m 0) at
              ∙ (twice_at xs j ∙ (sym (get_or_append_left xs xs 0 j short) ∙ ap (λ (m : ℕ). get_or (a ∷ b ∷ (xs ++ xs)) m 0) (sym partner)));
        }

-- files that may be audited have fit sizes
pub may_fit : (c : Case) → MayBeAudited c → AreFit (sizes_in c)
may_fit c may =
    let joined : map (length {A = ℕ}) (c.before ++ c.after) ≡ map (length {A = ℕ}) c.before ++ map (length {A = ℕ}) c.before =
    map-append (length {A = ℕ}) c.before c.after ∙ ap (λ (ns : List ℕ). map (length {A = ℕ}) c.before ++ ns) may.pairs in
    subst (λ (sizes : List ℕ). AreFit (length c.script ∷ length c.report ∷ sizes)) (sym joined)
    (fit_lists (length c.script) (length c.report) (map (length {A = ℕ}) c.before) may.script may.report may.sizes)

-- ---- the files of a case

abbrev case_of : List ℕ → List ℕ → List (List ℕ) → List (List ℕ) → Case
case_of script report before after = record { script = script; report = report; before = before; after = after }

same_case : (a b : Case) → a.script ≡ b.script → a.report ≡ b.report → a.before ≡ b.before → a.after ≡ b.after → a ≡ b
same_case a b script report before after =
    ap (λ (x : List ℕ). case_of x a.report a.before a.after) script
    ∙ (ap (λ (x : List ℕ). case_of b.script x a.before a.after) report
    ∙ (ap (λ (x : List (List ℕ)). case_of b.script b.report x a.after) before
    ∙ ap (λ (x : List (List ℕ)). case_of b.script b.report b.before x) after))

-- files are those of one case
pub one_case : (a b : Case) → length a.after ≡ length a.before → length b.after ≡ length b.before → files_in a ≡ files_in b → a ≡ b
one_case a b pairs others same =
    let joined : a.before ++ a.after ≡ b.before ++ b.after = cc in
    let count : length (a.before ++ a.after) ≡ length (b.before ++ b.after) = ap length joined in
    let first : length a.before ≡ length b.before = omega (arith, length-append a.before a.after, length-append b.before b.after) in
    let before : a.before ≡ b.before =
    sym (take-append_seam a.before a.after)
    ∙ (ap (λ (k : ℕ). take k (a.before ++ a.after)) first
    ∙ (ap (λ (xs : List (List ℕ)). take (length b.before) xs) joined ∙ take-append_seam b.before b.after)) in
    let after : a.after ≡ b.after =
    sym (drop-append_seam a.before a.after)
    ∙ (ap (λ (k : ℕ). drop k (a.before ++ a.after)) first
    ∙ (ap (λ (xs : List (List ℕ)). drop (length b.before) xs) joined ∙ drop-append_seam b.before b.after)) in
    let script : a.script ≡ b.script = cc in
    let report : a.report ≡ b.report = cc in
    same_case a b script report before after
