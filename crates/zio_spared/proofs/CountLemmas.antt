-- Of a list that has some weight by a test, one item passes the test.
use Rattle.std.proofs.Common.{◌≡◌, ℕ, zero, suc, ◌+◌, ◌≤◌, List, [], ◌∷◌, Bool, true, false, Contains, ◌⊎◌, inl, inr, ⊎_elim, refl, ap, ◌∙◌, arith}
use Rattle.zio_cksum.proofs.AllLemmas.{all_contains}
use Rattle.zio_trace.specs.Keys.{bit}
use Rattle.zio_trace.specs.Oracles.{weigh}
use Rattle.zio_trace.proofs.ChoiceLemmas.{contained_cases}
use Rattle.zio_trace.proofs.ListLemmas.{contains_first, contains_later}

pub one_of : {X : Type 0} (test : X → Bool) (ys : List X) → 1 ≤ weigh (λ (y : X). bit (test y)) ys → (y : X) × Contains ys y × (test y ≡ true)
one_of test [] h = absurd (omega arith)
one_of {X} test (y ∷ ys) h = by_test (test y) refl h (λ k. one_of test ys k)
  where
    by_test : (b : Bool) → test y ≡ b → 1 ≤ bit b + weigh (λ (z : X). bit (test z)) ys → (1 ≤ weigh (λ (z : X). bit (test z)) ys → (z : X) × Contains ys z × (test z ≡ true))
        → (z : X) × Contains (y ∷ ys) z × (test z ≡ true)
    by_test true is le later = (y, contains_first y ys, is)
    by_test false is le later = let k = later (omega arith) in (k.0, contains_later y ys k.0 k.1, k.2)

pub weighs_one : {X : Type 0} (test : X → Bool) (ys : List X) (q : X) → Contains ys q → test q ≡ true → 1 ≤ weigh (λ (y : X). bit (test y)) ys
weighs_one test [] q c is = absurd (all_contains (λ y. ⊥) [] q tt c)
weighs_one {X} test (y ∷ ys) q c is =
    ⊎_elim
    (λ (e : y ≡ q). let one : bit (test y) ≡ 1 = ap (λ (z : X). bit (test z)) e ∙ ap bit is in omega arith)
    (λ (later : Contains ys q). let k : 1 ≤ weigh (λ (z : X). bit (test z)) ys = weighs_one test ys q later is in omega arith)
    (contained_cases y ys q c)

pub positive : (n : ℕ) → (n ≡ 0) ⊎ (1 ≤ n)
positive zero = inl refl
positive (suc n) = inr (omega arith)
