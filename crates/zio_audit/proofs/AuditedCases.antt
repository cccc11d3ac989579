-- What is audited, before any round is run: the leaves of a script's tops, and the images.
use Rattle.std.proofs.Common.{◌<◌, ◌≤◌, ℕ, List, [], ◌∷◌, ◌++◌, length, take, subst, arith}
use Rattle.std.specs.List.{All, AllByRecursion}
use Rattle.std.proofs.lemmas.List.{take_all}
use Rattle.std.proofs.lemmas.List.Elements.{recursion_from_All}
use Rattle.zio_cksum.proofs.AllLemmas.{all_append}
use Rattle.zio_script.specs.declared.script.Script.{Script}
use Rattle.zio_script.specs.declared.script.ScriptFault.{ScriptFault}
use Rattle.zio_script.specs.declared.script.TopLine.{TopLine}
use Rattle.zio_script.specs.Grammar.{IsFaultOf, IsScriptOf}
use Rattle.zio_command.specs.Tops.{IsFirstMissing, leaves_of}
use Rattle.zio_command.proofs.ScriptLemmas.{no_script as fault_of_none}
use Rattle.zio_audit.specs.declared.verdict.Verdict.TheVariants.{No}
use Rattle.zio_audit.specs.Verdicts.{Case, HaveImages, IsVerdict}
use Rattle.zio_audit.proofs.VerdictLemmas.{no_script, same_script}

-- what holds of each item read from the front, where the end is reached
pub all_read : {X : Type 0} (P : X → Type 0) (xs : List X) (i : ℕ) → length xs ≤ i → All P (take i xs) → AllByRecursion P xs
all_read P xs i end all = subst (AllByRecursion P) (take_all i xs end) (recursion_from_All P (take i xs) all)

-- ---- leaves

leaves_in : (n : ℕ) (tops : List TopLine) → AllByRecursion (λ (top : TopLine). AllByRecursion (λ leaf. leaf < n) top.leaves) tops → AllByRecursion (λ leaf. leaf < n) (leaves_of tops)
leaves_in n [] h = tt
leaves_in n (top ∷ tops) h = all_append (λ leaf. leaf < n) top.leaves (leaves_of tops) h.0 (leaves_in n tops h.1)

front_of : (n : ℕ) (xs ys : List ℕ) → AllByRecursion (λ leaf. leaf < n) (xs ++ ys) → AllByRecursion (λ leaf. leaf < n) xs
front_of n [] ys h = tt
front_of n (x ∷ xs) ys h = (h.0, front_of n xs ys h.1)

behind_of : (n : ℕ) (xs ys : List ℕ) → AllByRecursion (λ leaf. leaf < n) (xs ++ ys) → AllByRecursion (λ leaf. leaf < n) ys
behind_of n [] ys h = h
behind_of n (x ∷ xs) ys h = behind_of n xs ys h.1

pub leaves_by_tops : (n : ℕ) (tops : List TopLine) → AllByRecursion (λ leaf. leaf < n) (leaves_of tops) → AllByRecursion (λ (top : TopLine). AllByRecursion (λ leaf. leaf < n) top.leaves) tops
leaves_by_tops n [] h = tt
leaves_by_tops n (top ∷ tops) h = (front_of n top.leaves (leaves_of tops) h, leaves_by_tops n tops (behind_of n top.leaves (leaves_of tops) h))

none_missing : (n : ℕ) (tops : List TopLine) (leaf : ℕ) → IsFirstMissing n (leaves_of tops) leaf → ¬ AllByRecursion (λ (top : TopLine). AllByRecursion (λ leaf. leaf < n) top.leaves) tops
none_missing n tops leaf first have =
    let all = subst (AllByRecursion (λ leaf. leaf < n)) first.leaves_are (leaves_in n tops have) in
    let below : leaf < n = (behind_of n first.front (leaf ∷ first.behind) all).0 in
    Prim.omega (arith, below, first.missing)

-- ---- the first reason

pub faulty : (c : Case) (fault : ScriptFault) → IsFaultOf c.script fault → IsVerdict c (No 1)
faulty c fault of = no_script c (λ h. fault_of_none c.script h.0 fault h.1.accepted of)

pub leaf_missing : (c : Case) (script : Script) (leaf : ℕ) → IsScriptOf c.script script → IsFirstMissing (length c.before) (leaves_of script.tops) leaf → IsVerdict c (No 1)
leaf_missing c script leaf is first = no_script c
    (λ h. none_missing (length c.before) script.tops leaf first
    (subst (λ (s : Script). HaveImages c.before s.tops) (same_script h.0 script c.script h.1.accepted is) h.1.images))
