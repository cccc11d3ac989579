-- What a round asks of the space is asked under its number.
use Rattle.std.proofs.Common.{◌≡◌, ℕ, suc, ◌≤◌, List, [], ◌∷◌, length, filter, cond, Bool, true, false, ◌==◌, eqb-true, Option, refl, ap, subst, arith}
use Rattle.std.specs.List.{AllByRecursion}
use Rattle.zio_types.specs.Choices.{Choice}
use Rattle.zio_cksum.specs.Images.{Images}
use Rattle.zio_cksum.proofs.AllLemmas.{all_weaker}
use Rattle.zio_gang.specs.Attempts.{Terms}
use Rattle.zio_trace.specs.Families.{Forest}
use Rattle.zio_trace.proofs.RoundTouches.{entries_of_round}
use Rattle.slab.specs.Slab.{Slab}
use Rattle.zio_staged.specs.Parts.{Nodes}
use Rattle.zio_turns.specs.Rounds.{SoFar}
use Rattle.zio_turns.specs.UnderTrees.{IsOver}
use Rattle.zio_turns.specs.declared.entry.TiedNode.{TiedNode}

fewer_pass : {X : Type 0} (test : X → Bool) (xs : List X) → length (filter test xs) ≤ length xs
fewer_pass test [] = omega arith
fewer_pass test (x ∷ xs) = by (test x) (fewer_pass test xs)
  where
    by : (b : Bool) → length (filter test xs) ≤ length xs → length (cond b (x ∷ filter test xs) (filter test xs)) ≤ suc (length xs)
    by true few = omega arith
    by false few = omega arith

-- where none is left out each passes
all_pass : {X : Type 0} (test : X → Bool) (xs : List X) → length xs ≤ length (filter test xs) → AllByRecursion (λ (x : X). test x ≡ true) xs
all_pass test [] most = tt
all_pass test (x ∷ xs) most = by (test x) refl most (λ rest. all_pass test xs rest)
  where
    by : (b : Bool) → test x ≡ b → suc (length xs) ≤ length (cond b (x ∷ filter test xs) (filter test xs))
        → (length xs ≤ length (filter test xs) → AllByRecursion (λ (y : _). test y ≡ true) xs) → AllByRecursion (λ (y : _). test y ≡ true) (x ∷ xs)
    by true passes most rest = (passes, rest (omega arith))
    by false fails most rest = absurd (let few = fewer_pass test xs in omega arith)

pub keys_of_round : {N : Type 0} (nodes : Nodes N) (t : Terms) (sizes : ℕ → ℕ) (f : Forest) (before : Option Images) (s : SoFar)
    (slab : Slab (TiedNode N)) → IsOver {N = N} nodes t sizes f before s slab → AllByRecursion (λ (c : Choice). c.asked.key.round ≡ t.round) s.entries
keys_of_round nodes t sizes f before s slab over =
    subst (AllByRecursion (λ (c : Choice). c.asked.key.round ≡ t.round)) over.entries_are
    (all_weaker (λ (c : Choice). (c.asked.key.round == t.round) ≡ true) (λ (c : Choice). c.asked.key.round ≡ t.round) over.state.entries
    (λ c same. eqb-true c.asked.key.round t.round same)
    (all_pass (λ (c : Choice). c.asked.key.round == t.round) over.state.entries
    (let whole = ap length (entries_of_round t sizes f before over.state over.kept.running.underway) in omega arith)))
