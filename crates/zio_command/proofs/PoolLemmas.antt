-- What the `top` and `fault` lines of an accepted script have, by its lines one after another.
use Rattle.std.proofs.Common.{◌≡◌, ◌<◌, ◌≤◌, ℕ, ◌+◌, ◌-◌, ◌/◌, List, [], ◌∷◌, ◌++◌, length, Bool, true, false, not, ◌&&◌, ◌||◌, ◌==◌, nat_le, nat_lt, Option, Some, None, Result, Ok, Err, refl, sym, ap, ◌∙◌, subst, arith, append_assoc, append-nil, IfSome}
use Rattle.std.proofs.lemmas.Bool.{and_parts, eqb-true, leb-true, leb-false}
use Rattle.std.proofs.lemmas.List.{length-append}
use Rattle.std.specs.List.{AllByRecursion, list_all}
use Rattle.zio_cksum.proofs.AllLemmas.{all_append}
use Rattle.zio_types.specs.Places.{is_unit, sector_size}
use Rattle.zio_faults.specs.declared.table.Row.{Row}
use Rattle.zio_faults.specs.Hits.{RowFits}
use Rattle.zio_script.specs.declared.limits.TheConstants.{FAULT_RANGE_MAX, FAULTS_MAX, POINT_MAX, TOPS_MAX}
use Rattle.zio_script.specs.declared.read.TheConstants.{SCRIPT_LEN_MAX}
use Rattle.zio_script.specs.declared.script.Script.{Script}
use Rattle.zio_script.specs.declared.script.ScriptFault.{ScriptFault}
use Rattle.zio_script.specs.declared.script.TopLine.{TopLine}
use Rattle.zio_script.specs.declared.why.Why.{Why}
use Rattle.zio_script.specs.declared.why.Why.TheVariants.{Limit, Order, Pool}
use Rattle.zio_script.specs.Grammar.{IsScriptOf, after_line, after_shape, after_words, ended, read_lines, read_on, read_short, script_with, unless_skipped, unless_why}
use Rattle.zio_script.specs.Lines.{ScriptLine, FailmodeLine, LeavesLine, FaultLine, RequestLine, GoLine, ClearLine, Shape, line_of, shape_of}
use Rattle.zio_script.specs.Whys.{Before, all_leaves, fits_row, if_so, is_leaf, is_sector, is_within, least_why, nothing_before, repeats_leaf, whys_at_end, whys_of}
use Rattle.zio_script.specs.Words.{Word, is_empty, is_skipped, lines_of, words_of}
use Rattle.zio_command.specs.Tops.{AllDiffer, AreTopLeaves, HaveUnits, IsLawfulPool, leaves_of}
use Rattle.zio_command.proofs.LeafLemmas.{HasFewLeaves, HasFewWords, differ_all, in_range, line_fits, new_leaves, shape_fits}

-- ---- one line

or_false : (a b : Bool) → (a || b) ≡ false → (a ≡ false) × (b ≡ false)
or_false true b h = absurd (let differ : true ≡ false = h in cc)
or_false false b h = (refl, h)

not_false : (b : Bool) → not b ≡ false → b ≡ true
not_false true h = refl
not_false false h = absurd (let differ : true ≡ false = h in cc)

limit_kept : (a b c : Bool) → least_why (if_so Limit a ∷ if_so Order b ∷ if_so Pool c ∷ []) ≡ None → a ≡ false
limit_kept true b c none = absurd (let differ : Some Limit ≡ None = none in cc)
limit_kept false b c none = refl

pool_kept : (a b c : Bool) → least_why (if_so Limit a ∷ if_so Order b ∷ if_so Pool c ∷ []) ≡ None → c ≡ false
pool_kept true b c none = absurd (let differ : Some Limit ≡ None = none in cc)
pool_kept false true c none = absurd (let differ : Some Order ≡ None = none in cc)
pool_kept false false true none = absurd (let differ : Some Pool ≡ None = none in cc)
pool_kept false false false none = refl

-- the leaves of the tops and one more
leaves_behind : (tops : List TopLine) (top : TopLine) → leaves_of (tops ++ top ∷ []) ≡ leaves_of tops ++ top.leaves
leaves_behind [] top = simp append-nil
leaves_behind (line ∷ tops) top = ap (λ (ls : List ℕ). line.leaves ++ ls) (leaves_behind tops top) ∙ sym (simp append_assoc)

sector_unit : (n : ℕ) → is_sector n ≡ true → is_unit (n / sector_size) ≡ true
sector_unit n is = by (n == 512) (n == 1024) (n == 2048) (n == 4096) refl refl refl refl is where
  by : (a b c d : Bool) → (n == 512) ≡ a → (n == 1024) ≡ b → (n == 2048) ≡ c → (n == 4096) ≡ d → (a || (b || (c || (d || false)))) ≡ true
      → is_unit (n / sector_size) ≡ true
  by true b c d p q r s h = subst (λ k. is_unit (k / sector_size) ≡ true) (sym (eqb-true n 512 p)) refl
  by false true c d p q r s h = subst (λ k. is_unit (k / sector_size) ≡ true) (sym (eqb-true n 1024 q)) refl
  by false false true d p q r s h = subst (λ k. is_unit (k / sector_size) ≡ true) (sym (eqb-true n 2048 r)) refl
  by false false false true p q r s h = subst (λ k. is_unit (k / sector_size) ≡ true) (sym (eqb-true n 4096 s)) refl
  by false false false false p q r s h = absurd (let differ : false ≡ true = h in cc)

row_fits : (row : Row) → fits_row row ≡ true → RowFits row
row_fits row fits =
    let leaf = is_leaf row.leaf in
    let at = is_within 0 FAULT_RANGE_MAX row.at in
    let len = is_within 1 FAULT_RANGE_MAX row.len in
    let from = is_within 0 (POINT_MAX - 1) row.from in
    let until = is_within 1 POINT_MAX row.until in
    let a = and_parts (leaf && at && len && from && until) (nat_lt row.from row.until) fits in
    let b = and_parts (leaf && at && len && from) until a.0 in
    let c = and_parts (leaf && at && len) from b.0 in
    let d = and_parts (leaf && at) len c.0 in
    let e = and_parts leaf at d.0 in
    let at_in = and_parts (nat_le 0 row.at) (nat_le row.at FAULT_RANGE_MAX) e.1 in
    let len_in = and_parts (nat_le 1 row.len) (nat_le row.len FAULT_RANGE_MAX) d.1 in
    let at_most : row.at ≤ FAULT_RANGE_MAX = leb-true row.at FAULT_RANGE_MAX at_in.1 in
    let len_most : row.len ≤ FAULT_RANGE_MAX = leb-true row.len FAULT_RANGE_MAX len_in.1 in
    omega arith

-- a line that changes no top and no row
kept_pool : (script made : Script) → IsLawfulPool script → made.tops ≡ script.tops → made.faults ≡ script.faults → IsLawfulPool made
kept_pool script made pool tops rows = record {
  units = subst HaveUnits (sym tops) pool.units;
  most = subst (λ (ts : List TopLine). length ts ≤ TOPS_MAX) (sym tops) pool.most;
  leaves = subst (λ (ts : List TopLine). AllByRecursion (λ (t : TopLine). AreTopLeaves t.leaves) ts) (sym tops) pool.leaves;
  once = subst (λ (ts : List TopLine). AllDiffer (leaves_of ts)) (sym tops) pool.once;
  rows = subst (λ (rs : List Row). AllByRecursion RowFits rs) (sym rows) pool.rows;
}

line_lawful : (before : Before) (line : ScriptLine) → HasFewLeaves line → IsLawfulPool before.script → least_why (whys_of before line) ≡ None
    → IsLawfulPool (script_with before.script line).script
line_lawful before (FailmodeLine mode) few pool none = kept_pool before.script _ pool refl refl
line_lawful before (LeavesLine leaves sector) counted pool none =
    let full = nat_le TOPS_MAX (length before.script.tops) in
    let order = not (is_empty before.script.faults) || not (is_empty before.script.items) in
    let again = repeats_leaf (all_leaves before.script) leaves in
    let limit = limit_kept (not (list_all is_leaf leaves) || not (is_sector sector) || full) order again none in
    let fresh = pool_kept (not (list_all is_leaf leaves) || not (is_sector sector) || full) order again none in
    let new = new_leaves (leaves_of before.script.tops) leaves fresh in
    let parts = or_false (not (list_all is_leaf leaves) || not (is_sector sector)) full limit in
    let more = or_false (not (list_all is_leaf leaves)) (not (is_sector sector)) parts.0 in
    let top : TopLine = record { leaves = leaves; unit = sector / sector_size } in
    let few : length before.script.tops < TOPS_MAX = leb-false TOPS_MAX (length before.script.tops) parts.1 in
    let len : length (before.script.tops ++ top ∷ []) ≡ length before.script.tops + 1 = length-append before.script.tops (top ∷ []) in
    record {
      units = all_append (λ (t : TopLine). is_unit t.unit ≡ true) before.script.tops (top ∷ []) pool.units (sector_unit sector (not_false (is_sector sector) more.1), tt);
      most = omega arith;
      leaves = all_append (λ (t : TopLine). AreTopLeaves t.leaves) before.script.tops (top ∷ []) pool.leaves
          (record { some = counted.0; few = counted.1; each = in_range leaves (not_false (list_all is_leaf leaves) more.0) }, tt);
      once = subst AllDiffer (sym (leaves_behind before.script.tops top))
          (differ_all (leaves_of before.script.tops) leaves pool.once new.0 new.1);
      rows = pool.rows;
    }
line_lawful before (FaultLine row) few pool none =
    let limit = limit_kept (not (fits_row row) || nat_le FAULTS_MAX (length before.script.faults)) _ _ none in
    let parts = or_false (not (fits_row row)) (nat_le FAULTS_MAX (length before.script.faults)) limit in
    record {
      units = pool.units;
      most = pool.most;
      leaves = pool.leaves;
      once = pool.once;
      rows = all_append RowFits before.script.faults (row ∷ []) pool.rows (row_fits row (not_false (fits_row row) parts.0), tt);
    }
line_lawful before (RequestLine asked) few pool none = kept_pool before.script _ pool refl refl
line_lawful before GoLine few pool none = kept_pool before.script _ pool refl refl
line_lawful before ClearLine few pool none = kept_pool before.script _ pool refl refl

-- ---- the text

no_why : (why : Option Why) (made next : Before) → unless_why why made ≡ Ok next → (why ≡ None) × (made ≡ next)
no_why None made next is = (refl, cc)
no_why (Some why) made next is = absurd (let differ : Err why ≡ Ok next = is in cc)

after_line_lawful : (before next : Before) (line : Option ScriptLine) → IfSome line HasFewLeaves → IsLawfulPool before.script → after_line before line ≡ Ok next
    → IsLawfulPool next.script
after_line_lawful before next None few pool is = let none : ⊥ = cc in absurd none
after_line_lawful before next (Some line) few pool is =
    let parts = no_why (least_why (whys_of before line)) (script_with before.script line) next is in
    subst (λ (b : Before). IsLawfulPool b.script) parts.1 (line_lawful before line few pool parts.0)

after_shape_lawful : (before next : Before) (shape : Option Shape) → IfSome shape HasFewWords → IsLawfulPool before.script → after_shape before shape ≡ Ok next
    → IsLawfulPool next.script
after_shape_lawful before next None few pool is = let none : ⊥ = cc in absurd none
after_shape_lawful before next (Some shape) few pool is = after_line_lawful before next (line_of shape) (line_fits shape few) pool is

skipped_lawful : (skipped : Bool) (before next : Before) (words : List Word) → IsLawfulPool before.script
    → unless_skipped skipped before (after_shape before (shape_of words)) ≡ Ok next → IsLawfulPool next.script
skipped_lawful true before next words pool is =
    let same : before ≡ next = cc in
    subst (λ (b : Before). IsLawfulPool b.script) same pool
skipped_lawful false before next words pool is = after_shape_lawful before next (shape_of words) (shape_fits words) pool is

end_same : (n : ℕ) (why : Option Why) (script made : Script) → ended n why script ≡ Ok made → script ≡ made
end_same n None script made is = cc
end_same n (Some why) script made is = let none : ⊥ = cc in absurd none

next_lawful : (n : ℕ) (after : Result Before Why) (script : Script) (rest : Before → Result Script ScriptFault)
    → ((next : Before) → after ≡ Ok next → IsLawfulPool next.script) → read_on n after rest ≡ Ok script
    → ((next : Before) → IsLawfulPool next.script → rest next ≡ Ok script → IsLawfulPool script) → IsLawfulPool script
next_lawful n (Err why) script rest pool is more = let none : ⊥ = cc in absurd none
next_lawful n (Ok next) script rest pool is more = more next (pool next refl) is

end_read : (n : ℕ) (before : Before) (script : Script) → read_lines n [] before ≡ Ok script → before.script ≡ script
unfolding read_lines
end_read n before script is = end_same n (least_why (whys_at_end before.script)) before.script script is

first_on : (n : ℕ) (line : Word) (lines : List Word) (before : Before) (script : Script)
    → read_lines n (line ∷ lines) before ≡ Ok script
    → read_on n (after_words before (words_of line)) (read_lines (n + 1) lines) ≡ Ok script
unfolding read_lines
first_on n line lines before script is = is

lines_lawful : (n : ℕ) (lines : List Word) (before : Before) (script : Script) → IsLawfulPool before.script
    → read_lines n lines before ≡ Ok script → IsLawfulPool script
lines_lawful n [] before script pool is = subst IsLawfulPool (end_read n before script is) pool
lines_lawful n (line ∷ lines) before script pool is =
    next_lawful n (after_words before (words_of line)) script (read_lines (n + 1) lines)
    (λ next. skipped_lawful (is_skipped (words_of line)) before next (words_of line) pool)
    (first_on n line lines before script is)
    (λ next. λ lawful. lines_lawful (n + 1) lines next script lawful)

short_lawful : (short : Bool) (text : List ℕ) (script : Script) → read_short short text ≡ Ok script → IsLawfulPool script
short_lawful false text script is = let none : ⊥ = cc in absurd none
short_lawful true text script is =
    lines_lawful 1 (lines_of text) nothing_before script (record { units = tt; most = omega arith; leaves = tt; once = tt; rows = tt }) is

-- an accepted script's pool is lawful
pub reading_lawful_pool : (text : List ℕ) (script : Script) → IsScriptOf text script → IsLawfulPool script
reading_lawful_pool text script is = short_lawful (nat_le (length text) SCRIPT_LEN_MAX) text script is
