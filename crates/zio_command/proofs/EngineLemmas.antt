-- What an engine needs of the tops of an accepted script.
use Rattle.std.proofs.Common.{◌≢◌, ◌≡◌, ℕ, zero, suc, List, [], ◌∷◌, ◌++◌, map, slice_get, refl, sym, ap, subst}
use Rattle.std.specs.List.{AllByRecursion, flat_map}
use Rattle.zio_types.specs.declared.place.Top.{Top}
use Rattle.zio_script.specs.declared.script.TopLine.{TopLine}
use Rattle.zio_cksum.proofs.AllLemmas.{all_weaker}
use Rattle.zio_cksum.specs.Blocks.{leaves_of_top}
use Rattle.zio_cksum.specs.Images.{Images}
use Rattle.zio_gang.specs.Runs.{top_of}
use Rattle.zio_trace.specs.Separate.{LeavesOnce}
use Rattle.zio_trace.specs.SoundRounds.{LeavesDiffer}
use Rattle.zio_trace.specs.TreeOrders.{Pairs}
use Rattle.zio_command.specs.Tops.{AllDiffer, AreTopLeaves, leaves_of}
use Rattle.zio_command.proofs.TopLemmas.{all_front}

abbrev leaves_in : List Top → List ℕ
leaves_in tops = flat_map (λ (top : Top). top.leaves) tops

-- ---- pairs of two parts

pairs_front : {X : Type 0} (R : X → X → Type 0) (xs ys : List X) → Pairs R (xs ++ ys) → Pairs R xs
pairs_front R [] ys all = tt
pairs_front R (x ∷ xs) ys all = ((all_front (R x) xs ys all.0).0, pairs_front R xs ys all.1)

pairs_behind : {X : Type 0} (R : X → X → Type 0) (xs ys : List X) → Pairs R (xs ++ ys) → Pairs R ys
pairs_behind R [] ys all = all
pairs_behind R (x ∷ xs) ys all = pairs_behind R xs ys all.1

pairs_across : {X : Type 0} (R : X → X → Type 0) (xs ys : List X) → Pairs R (xs ++ ys) → AllByRecursion (λ x. AllByRecursion (R x) ys) xs
pairs_across R [] ys all = tt
pairs_across R (x ∷ xs) ys all = ((all_front (R x) xs ys all.0).1, pairs_across R xs ys all.1)

-- what differs from each of some leaves, the other way round
turned_round : (xs ys : List ℕ) → AllByRecursion (λ x. AllByRecursion (λ y. x ≢ y) ys) xs → AllByRecursion (λ y. AllByRecursion (λ x. y ≢ x) xs) ys
turned_round xs [] all = tt
turned_round xs (y ∷ ys) all = (
  all_weaker (λ x. AllByRecursion (λ z. x ≢ z) (y ∷ ys)) (λ x. y ≢ x) xs (λ x each same. each.0 (sym same)) all,
  turned_round xs ys (all_weaker (λ x. AllByRecursion (λ z. x ≢ z) (y ∷ ys)) (λ x. AllByRecursion (λ z. x ≢ z) ys) xs (λ x each. each.1) all),
)

-- ---- leaves of tops

of_one_top : (P : ℕ → Type 0) (tops : List Top) (k : ℕ) → AllByRecursion P (leaves_in tops) → AllByRecursion P (leaves_of_top (slice_get tops k))
of_one_top P [] k all = tt
of_one_top P (top ∷ tops) zero all = (all_front P top.leaves (leaves_in tops) all).0
of_one_top P (top ∷ tops) (suc k) all = of_one_top P tops k (all_front P top.leaves (leaves_in tops) all).1

leaves_differ : (tops : List Top) → AllDiffer (leaves_in tops) → LeavesDiffer tops
leaves_differ [] all i = tt
leaves_differ (top ∷ tops) all zero = pairs_front (λ (l m : ℕ). l ≢ m) top.leaves (leaves_in tops) all
leaves_differ (top ∷ tops) all (suc i) = leaves_differ tops (pairs_behind (λ (l m : ℕ). l ≢ m) top.leaves (leaves_in tops) all) i

leaves_once : (tops : List Top) → AllDiffer (leaves_in tops) → LeavesOnce tops
leaves_once [] all i k other = tt
leaves_once (top ∷ tops) all zero zero other = absurd (other refl)
leaves_once (top ∷ tops) all zero (suc k) other =
    all_weaker (λ l. AllByRecursion (λ m. l ≢ m) (leaves_in tops)) (λ l. AllByRecursion (λ m. l ≢ m) (leaves_of_top (slice_get tops k))) top.leaves
    (λ l each. of_one_top (λ m. l ≢ m) tops k each) (pairs_across (λ (l m : ℕ). l ≢ m) top.leaves (leaves_in tops) all)
leaves_once (top ∷ tops) all (suc i) zero other =
    of_one_top (λ l. AllByRecursion (λ m. l ≢ m) top.leaves) tops i
    (turned_round top.leaves (leaves_in tops) (pairs_across (λ (l m : ℕ). l ≢ m) top.leaves (leaves_in tops) all))
leaves_once (top ∷ tops) all (suc i) (suc k) other =
    leaves_once tops (pairs_behind (λ (l m : ℕ). l ≢ m) top.leaves (leaves_in tops) all) i k (λ same. other (ap suc same))

-- ---- tops of a script's lines

leaves_same : (images : Images) (lines : List TopLine) → leaves_in (map (top_of images) lines) ≡ leaves_of lines
leaves_same images [] = refl
leaves_same images (line ∷ lines) = ap (λ (ls : List ℕ). line.leaves ++ ls) (leaves_same images lines)

pub lines_once : (images : Images) (lines : List TopLine) → AllDiffer (leaves_of lines) → LeavesOnce (map (top_of images) lines)
lines_once images lines all = leaves_once (map (top_of images) lines) (subst AllDiffer (sym (leaves_same images lines)) all)

pub lines_differ : (images : Images) (lines : List TopLine) → AllDiffer (leaves_of lines) → LeavesDiffer (map (top_of images) lines)
lines_differ images lines all = leaves_differ (map (top_of images) lines) (subst AllDiffer (sym (leaves_same images lines)) all)

pub lines_leaves : (images : Images) (lines : List TopLine) → AllByRecursion (λ (line : TopLine). AreTopLeaves line.leaves) lines
    → AllByRecursion (λ (top : Top). AreTopLeaves top.leaves) (map (top_of images) lines)
lines_leaves images [] leaves = tt
lines_leaves images (line ∷ lines) leaves = (leaves.0, lines_leaves images lines leaves.1)
