-- Names that requests have, requests by their numbers, and a name that one request sets.
use Rattle.std.proofs.Common.{◌≡◌, ◌≢◌, ℕ, zero, suc, ◌+◌, ◌≤◌, List, [], ◌∷◌, ◌==◌, bytes_eq, Bool, true, false, Option, Some, None, Contains, ◌⊎◌, inl, inr, ⊎_elim, refl, sym, ap, ◌∙◌, subst, arith}
use Rattle.std.proofs.lemmas.Bool.{eqb-true}
use Rattle.std.proofs.lemmas.Slice.Eq.{bytes_eq-Decides}
use Rattle.std.specs.List.{AllByRecursion}
use Rattle.zio_types.specs.declared.error.Errno.{Errno}
use Rattle.zio_script.specs.Requests.{name_of, names_it}
use Rattle.zio_cksum.proofs.AllLemmas.{all_contains}
use Rattle.zio_gang.specs.declared.tree.Tree.{Tree}
use Rattle.zio_gang.specs.Attempts.{Ended, Pending}
use Rattle.zio_gang.specs.Rounds.{Bound, block_of, bound_after, bound_by, bound_unless}
use Rattle.zio_gang.proofs.FateLemmas.{tally}
use Rattle.zio_trace.specs.TreeOrders.{Pairs}
use Rattle.zio_trace.proofs.ChoiceLemmas.{contained_cases}
use Rattle.zio_trace.proofs.ListLemmas.{contains_first, contains_later}
use Rattle.zio_trace.proofs.PairLemmas.{all_of}
use Rattle.zio_heal.specs.SafeRounds.{EndsDiffer}
use Rattle.zio_heal.proofs.TreeKids.{one_if}
use Rattle.zio_heal.proofs.ReadyAfter.{ChangesOther, still_bound}
use Rattle.zio_heal.proofs.UnderWay.{NamesNot}

-- ---- names

names_some : (o : Option (List ℕ)) (m : List ℕ) → names_it o (Some m) ≡ true → o ≡ Some m
names_some None m e = absurd (let no : false ≡ true = e in cc)
names_some (Some n) m e = ap (λ (x : List ℕ). Some x) ((bytes_eq-Decides n m).0 e)

names_same : (m : List ℕ) → bytes_eq m m ≡ true
names_same m = (bytes_eq-Decides m m).1 refl

pub names_not : (o : Option (List ℕ)) (m n : List ℕ) → names_it o (Some m) ≡ false → o ≡ Some n → m ≢ n
names_not o m n differs is same =
    let e : names_it (Some n) (Some m) ≡ false = ap (λ (x : Option (List ℕ)). names_it x (Some m)) (sym is) ∙ differs in
    let yes : bytes_eq n m ≡ true = (bytes_eq-Decides n m).1 (sym same) in
    let no : true ≡ false = sym yes ∙ e in absurd (cc)

pub some_same : (a b : List ℕ) → Some a ≡ Some b → a ≡ b
some_same a b e = cc

-- one of the requests names it, or none does
named_by : (b : Bool) (m : List ℕ) (p : Pending) (ps : List Pending) → names_it (name_of p.request.work) (Some m) ≡ b
    → ((q : Pending) × Contains ps q × (name_of q.request.work ≡ Some m)) ⊎ AllByRecursion (NamesNot m) ps → ((q : Pending) × Contains (p ∷ ps) q × (name_of q.request.work ≡ Some m)) ⊎ AllByRecursion (NamesNot m) (p ∷ ps)
named_by true m p ps is rest = inl (p, contains_first p ps, names_some (name_of p.request.work) m is)
named_by false m p ps is (inl k) = inl (k.0, contains_later p ps k.0 k.1, k.2)
named_by false m p ps is (inr none) = inr (is, none)

pub named_or_none : (m : List ℕ) (ps : List Pending) → ((q : Pending) × Contains ps q × (name_of q.request.work ≡ Some m)) ⊎ AllByRecursion (NamesNot m) ps
named_or_none m [] = inr tt
named_or_none m (p ∷ ps) = named_by (names_it (name_of p.request.work) (Some m)) m p ps refl (named_or_none m ps)

-- ---- by number

with_by : {X : Type 0} (b : Bool) (num : X → ℕ) (n : ℕ) (x : X) (xs : List X) → (num x == n) ≡ b → (1 ≤ tally (λ y. one_if (num y == n)) xs → (y : X) × Contains xs y × (num y ≡ n))
    → 1 ≤ one_if (num x == n) + tally (λ y. one_if (num y == n)) xs → (y : X) × Contains (x ∷ xs) y × (num y ≡ n)
with_by true num n x xs is rest some = (x, contains_first x xs, eqb-true (num x) n is)
with_by false num n x xs is rest some =
    let zero : one_if (num x == n) ≡ 0 = ap one_if is in
    let k = rest (omega (arith, zero, some)) in
    (k.0, contains_later x xs k.0 k.1, k.2)

pub with_number : {X : Type 0} (num : X → ℕ) (n : ℕ) (xs : List X) → 1 ≤ tally (λ y. one_if (num y == n)) xs → (y : X) × Contains xs y × (num y ≡ n)
with_number num n [] some = absurd (omega (arith, some))
with_number num n (x ∷ xs) some = with_by (num x == n) num n x xs refl (with_number num n xs) some

same_one : (n : ℕ) → one_if (n == n) ≡ 1
same_one n = ap one_if (let e : (n == n) ≡ true = grind arith in e)

pub number_counts : {X : Type 0} (num : X → ℕ) (xs : List X) (x : X) → Contains xs x → 1 ≤ tally (λ y. one_if (num y == num x)) xs
number_counts num [] x listed = absurd (all_contains (λ y. ⊥) [] x tt listed)
number_counts num (y ∷ ys) x listed =
    ⊎_elim
    (λ (same : y ≡ x). let one : one_if (num y == num x) ≡ 1 = ap (λ z. one_if (num z == num x)) same ∙ same_one (num x) in omega (arith, one))
    (λ (later : Contains ys x). omega (arith, number_counts num ys x later))
    (contained_cases y ys x listed)

pub either_some : (a b : ℕ) → 1 ≤ a + b → (1 ≤ a) ⊎ (1 ≤ b)
either_some zero b some = inr (omega (arith, some))
either_some (suc a) b some = inl (omega arith)

-- ---- a name that one request sets

pub set_in : (m : List ℕ) (o : Option Tree) (es : List Ended) (e : Ended) (bound : Bound) → Contains es e → Pairs EndsDiffer es → ((f : Ended) → Contains es f → e.request.number ≢ f.request.number → ChangesOther m f) → e.error ≡ None
    → ((b : Bound) → block_of (bound_by e.request.work e.tree b) m ≡ o) → block_of (bound_after es bound) m ≡ o
set_in m o [] e bound listed differ others none sets = absurd (all_contains (λ (z : Ended). ⊥) [] e tt listed)
set_in m o (x ∷ xs) e bound listed differ others none sets =
    ⊎_elim
    (λ (same : x ≡ e).
    still_bound m xs (bound_unless x.error x bound)
    (all_of (ChangesOther m) xs (λ f cf. others f (contains_later x xs f cf) (subst (λ (z : Ended). z.request.number ≢ f.request.number) same (all_contains (EndsDiffer x) xs f differ.0 cf))))
    ∙ ap (λ (z : Ended). block_of (bound_unless z.error z bound) m) same
    ∙ ap (λ (error : Option Errno). block_of (bound_unless error e bound) m) none
    ∙ sets bound)
    (λ (later : Contains xs e). set_in m o xs e (bound_unless x.error x bound) later differ.1 (λ f cf ne. others f (contains_later x xs f cf) ne) none sets)
    (contained_cases x xs e listed)
