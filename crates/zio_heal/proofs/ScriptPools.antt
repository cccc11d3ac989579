-- The tops of an accepted script are a pool over whatever images, where their sectors fit pointers.
use Rattle.std.proofs.Common.{◌≢◌, ◌≡◌, ◌≤◌, ℕ, zero, suc, ◌*◌, ◌/◌, ◌%◌, ◌==◌, true, List, [], ◌∷◌, ◌++◌, length, map, slice_get, IsTrue, refl, sym, ap, subst, arith}
use Rattle.std.proofs.Math.Nat.{div-mul-le_self, mul-mod_left}
use Rattle.std.proofs.lemmas.Bool.{and_from}
use Rattle.std.proofs.lemmas.List.{length-map}
use Rattle.std.specs.List.{AllByRecursion, flat_map}
use Rattle.zio_types.specs.declared.place.Top.{Top}
use Rattle.zio_types.specs.Places.{is_lawful_top, is_unit, sector_size}
use Rattle.zio_script.specs.declared.script.Script.{Script}
use Rattle.zio_script.specs.declared.script.TopLine.{TopLine}
use Rattle.zio_script.specs.Grammar.{IsScriptOf}
use Rattle.zio_cksum.proofs.AllLemmas.{all_weaker}
use Rattle.zio_cksum.specs.Blocks.{leaves_of_top}
use Rattle.zio_cksum.specs.Images.{Images, image_of}
use Rattle.zio_gang.specs.Runs.{least_sectors, top_of}
use Rattle.zio_gang.specs.Trees.{size_of}
use Rattle.zio_report.specs.Meanings.{tops_of}
use Rattle.zio_trace.specs.Separate.{LeavesHold, LeavesOnce}
use Rattle.zio_trace.specs.SoundRounds.{LeavesDiffer}
use Rattle.zio_trace.specs.TreeOrders.{Pairs}
use Rattle.zio_trace.proofs.ListLemmas.{all_front, all_rest}
use Rattle.zio_trace.proofs.PairLemmas.{pairs_front, pairs_rest}
use Rattle.zio_heal.specs.Pools.{IsPool}
use Rattle.zio_heal.specs.StoredPlainly.{FitPointers}
use Rattle.zio_heal.proofs.TopLeaves.{AllDiffer}
use Rattle.zio_heal.proofs.TopLines.{HasTops, IsTopLine, leaves_of, reading_tops}

abbrev leaves_in : List Top → List ℕ
leaves_in tops = flat_map (λ (top : Top). top.leaves) tops

-- ---- pairs of two parts

pairs_across : {X : Type 0} (R : X → X → Type 0) (xs ys : List X) → Pairs R (xs ++ ys) → AllByRecursion (λ x. AllByRecursion (R x) ys) xs
pairs_across R [] ys all = tt
pairs_across R (x ∷ xs) ys all = (all_rest (R x) xs ys all.0, pairs_across R xs ys all.1)

-- what differs from each of some leaves, the other way round
turned_round : (xs ys : List ℕ) → AllByRecursion (λ x. AllByRecursion (λ y. x ≢ y) ys) xs → AllByRecursion (λ y. AllByRecursion (λ x. y ≢ x) xs) ys
turned_round xs [] all = tt
turned_round xs (y ∷ ys) all = (
  all_weaker (λ x. AllByRecursion (λ z. x ≢ z) (y ∷ ys)) (λ x. y ≢ x) xs (λ x each same. each.0 (sym same)) all,
  turned_round xs ys (all_weaker (λ x. AllByRecursion (λ z. x ≢ z) (y ∷ ys)) (λ x. AllByRecursion (λ z. x ≢ z) ys) xs (λ x each. each.1) all),
)

-- ---- leaves of tops

of_one_top : (P : ℕ → Type 0) (tops : List Top) (k : ℕ) → AllByRecursion P (leaves_in tops) → AllByRecursion P (leaves_of_top (slice_get tops k))
of_one_top P [] k all = tt
of_one_top P (top ∷ tops) zero all = all_front P top.leaves (leaves_in tops) all
of_one_top P (top ∷ tops) (suc k) all = of_one_top P tops k (all_rest P top.leaves (leaves_in tops) all)

leaves_differ : (tops : List Top) → AllDiffer (leaves_in tops) → LeavesDiffer tops
leaves_differ [] all i = tt
leaves_differ (top ∷ tops) all zero = pairs_front (λ (l m : ℕ). l ≢ m) top.leaves (leaves_in tops) all
leaves_differ (top ∷ tops) all (suc i) = leaves_differ tops (pairs_rest (λ (l m : ℕ). l ≢ m) top.leaves (leaves_in tops) all) i

leaves_once : (tops : List Top) → AllDiffer (leaves_in tops) → LeavesOnce tops
leaves_once [] all i k other = tt
leaves_once (top ∷ tops) all zero zero other = absurd (other refl)
leaves_once (top ∷ tops) all zero (suc k) other =
    all_weaker (λ l. AllByRecursion (λ m. l ≢ m) (leaves_in tops)) (λ l. AllByRecursion (λ m. l ≢ m) (leaves_of_top (slice_get tops k))) top.leaves
    (λ l each. of_one_top (λ m. l ≢ m) tops k each) (pairs_across (λ (l m : ℕ). l ≢ m) top.leaves (leaves_in tops) all)
leaves_once (top ∷ tops) all (suc i) zero other =
    of_one_top (λ l. AllByRecursion (λ m. l ≢ m) top.leaves) tops i
    (turned_round top.leaves (leaves_in tops) (pairs_across (λ (l m : ℕ). l ≢ m) top.leaves (leaves_in tops) all))
leaves_once (top ∷ tops) all (suc i) (suc k) other =
    leaves_once tops (pairs_rest (λ (l m : ℕ). l ≢ m) top.leaves (leaves_in tops) all) i k (λ same. other (ap suc same))

-- ---- tops of a script's lines

leaves_same : (images : Images) (lines : List TopLine) → leaves_in (map (top_of images) lines) ≡ leaves_of lines
leaves_same images [] = refl
leaves_same images (line ∷ lines) = ap (λ (ls : List ℕ). line.leaves ++ ls) (leaves_same images lines)

lines_once : (images : Images) (lines : List TopLine) → AllDiffer (leaves_of lines) → LeavesOnce (map (top_of images) lines)
lines_once images lines all = leaves_once (map (top_of images) lines) (subst AllDiffer (sym (leaves_same images lines)) all)

lines_differ : (images : Images) (lines : List TopLine) → AllDiffer (leaves_of lines) → LeavesDiffer (map (top_of images) lines)
lines_differ images lines all = leaves_differ (map (top_of images) lines) (subst AllDiffer (sym (leaves_same images lines)) all)

-- each leaf has its top's sectors
least_holds : (images : Images) (leaves : List ℕ) → AllByRecursion (λ (l : ℕ). least_sectors images leaves * sector_size ≤ length (image_of images l)) leaves
least_holds images [] = tt
least_holds images (leaf ∷ []) = (omega arith, tt)
least_holds images (leaf ∷ other ∷ leaves) = (
  omega arith,
  all_weaker (λ (l : ℕ). least_sectors images (other ∷ leaves) * sector_size ≤ length (image_of images l)) (λ (l : ℕ). least_sectors images (leaf ∷ other ∷ leaves) * sector_size ≤ length (image_of images l)) (other ∷ leaves)
      (λ l k. omega (arith, k)) (least_holds images (other ∷ leaves)),
)

top_holds : (images : Images) (line : TopLine) → AllByRecursion (λ (l : ℕ). (top_of images line).sectors * sector_size ≤ length (image_of images l)) line.leaves
top_holds images line =
    let least : ℕ = least_sectors images line.leaves in
    let fewer : least / line.unit * line.unit ≤ least = div-mul-le_self least line.unit in
    all_weaker (λ (l : ℕ). least * sector_size ≤ length (image_of images l)) (λ (l : ℕ). (top_of images line).sectors * sector_size ≤ length (image_of images l)) line.leaves (λ l k. omega (arith, fewer, k)) (least_holds images line.leaves)

lines_hold : (images : Images) (lines : List TopLine) → LeavesHold (λ l. length (image_of images l)) (map (top_of images) lines)
lines_hold images [] i = tt
lines_hold images (line ∷ lines) zero = top_holds images line
lines_hold images (line ∷ lines) (suc i) = lines_hold images lines i

unit_lawful : (images : Images) (line : TopLine) → is_unit line.unit ≡ true → IsTrue (is_lawful_top (size_of (top_of images line)))
unit_lawful images line is =
    and_from (is_unit line.unit) ((least_sectors images line.leaves / line.unit * line.unit) % line.unit == 0) is
    (ap (λ (n : ℕ). n == 0) (mul-mod_left (least_sectors images line.leaves / line.unit) line.unit))

each_lawful : (images : Images) (lines : List TopLine) → AllByRecursion IsTopLine lines → AllByRecursion (λ (top : Top). IsTrue (is_lawful_top (size_of top))) (map (top_of images) lines)
each_lawful images [] h = tt
each_lawful images (line ∷ lines) h = (unit_lawful images line h.0.unit, each_lawful images lines h.1)

each_mirrored : (images : Images) (lines : List TopLine) → AllByRecursion IsTopLine lines → AllByRecursion (λ (top : Top). 1 ≤ length top.leaves) (map (top_of images) lines)
each_mirrored images [] h = tt
each_mirrored images (line ∷ lines) h = (h.0.some, each_mirrored images lines h.1)

-- The tops of an accepted script are a pool.
pub script_pool : (text : List ℕ) (script : Script) (images : Images) → IsScriptOf text script → FitPointers (tops_of script images) → IsPool (λ l. length (image_of images l)) (tops_of script images)
script_pool text script images is fit =
    let tops : HasTops script.tops = reading_tops text script is in
    record {
      once = lines_once images script.tops tops.once;
      twice = lines_differ images script.tops tops.once;
      hold = lines_hold images script.tops;
      few = (let many : length (map (top_of images) script.tops) ≡ length script.tops = length-map script.tops (top_of images) in omega (arith, many, tops.most));
      lawful = each_lawful images script.tops tops.each;
      short = fit;
      mirrored = each_mirrored images script.tops tops.each;
    }
