-- No number stands twice in the trees of a batch, and two requests have names of their own, or both read.
use Rattle.std.proofs.Common.{◌≡◌, ◌≢◌, ℕ, ◌+◌, ◌<◌, ◌≤◌, List, [], ◌∷◌, Bool, true, false, ◌==◌, ◌&&◌, not, Contains, ◌⊎◌, inl, inr, ⊎_elim, refl, sym, ap, ◌∙◌, subst, arith}
use Rattle.std.proofs.lemmas.Bool.{and_parts, eqb-true, not-false}
use Rattle.std.specs.List.{AllByRecursion}
use Rattle.zio_script.specs.declared.script.Request.{Request}
use Rattle.zio_script.specs.declared.script.Work.{Work}
use Rattle.zio_script.specs.declared.script.Work.TheVariants.{Null, Read, Write, Free, Claim}
use Rattle.zio_script.specs.Accepted.{AreBehindParents, AreRising, NameApart}
use Rattle.zio_script.specs.Requests.{kind_of, name_of, names_it}
use Rattle.zio_script.specs.Whys.{clashes, is_read, may_share}
use Rattle.zio_cksum.proofs.AllLemmas.{all_contained, all_contains}
use Rattle.zio_gang.specs.Attempts.{Pending}
use Rattle.zio_gang.specs.Rounds.{Admitted, admitted, trees_of}
use Rattle.zio_gang.proofs.FateLemmas.{admitted_sum, batch_held, sum_flat, tally}
use Rattle.zio_trace.specs.SoundRounds.{IsRead}
use Rattle.zio_trace.specs.TreeOrders.{Pairs}
use Rattle.zio_trace.proofs.PairLemmas.{pairs_stronger, pairs_two}
use Rattle.zio_heal.proofs.AfterContents.{WorksApart}
use Rattle.zio_heal.proofs.ReadyAfter.{turned_names}
use Rattle.zio_heal.proofs.TreeKids.{none_if, one_if}
use Rattle.zio_heal.proofs.TreeLists.{admitted_all, flat_all, flat_trees, trees_all}

-- ---- numbers

abbrev pub HaveNumbersApart : Request → Request → Type 0
HaveNumbersApart a b = a.number ≢ b.number

abbrev pub numbered : ℕ → List Request → ℕ
numbered n rs = tally (λ (r : Request). one_if (r.number == n)) rs

same_one : (n : ℕ) → one_if (n == n) ≡ 1
same_one n = ap one_if (let e : (n == n) ≡ true = grind arith in e)

others_differ : {X : Type 0} (num : X → ℕ) (n : ℕ) (xs : List X) → tally (λ x. one_if (num x == n)) xs ≡ 0 → AllByRecursion (λ x. n ≢ num x) xs
others_differ num n [] h = tt
others_differ num n (x ∷ xs) h = (
  (λ same. let one : one_if (num x == n) ≡ 1 = ap (λ (m : ℕ). one_if (m == n)) (sym same) ∙ same_one n in omega (arith, one, h)),
  others_differ num n xs (omega (arith, h)),
)

-- where no number is counted twice, no two have one
pub pairs_once : {X : Type 0} (num : X → ℕ) (xs : List X) → ((n : ℕ) → tally (λ x. one_if (num x == n)) xs ≤ 1) → Pairs (λ x y. num x ≢ num y) xs
pairs_once num [] h = tt
pairs_once num (x ∷ xs) h = (
  others_differ num (num x) xs (omega (arith, h (num x), same_one (num x))),
  pairs_once num xs (λ n. omega (arith, h n)),
)

differ_step : (b : Bool) (n : ℕ) (r : Request) (rest : ℕ) → (r.number == n) ≡ b → n < r.number → rest ≡ 0 → one_if (r.number == n) + rest ≡ 0
differ_step true n r rest e more none = absurd (let same : r.number ≡ n = eqb-true r.number n e in omega arith)
differ_step false n r rest e more none = omega (arith, none_if (r.number == n) e, none)

differ_none : (n : ℕ) (rs : List Request) → AllByRecursion (λ (r : Request). n < r.number) rs → numbered n rs ≡ 0
differ_none n [] h = refl
differ_none n (r ∷ rs) h = differ_step (r.number == n) n r (numbered n rs) refl h.0 (differ_none n rs h.1)

once_step : (b : Bool) (n : ℕ) (r : Request) (rs : List Request) → (r.number == n) ≡ b → AllByRecursion (λ (q : Request). r.number < q.number) rs → numbered n rs ≤ 1 → one_if (r.number == n) + numbered n rs ≤ 1
once_step true n r rs e above most =
    let same : r.number ≡ n = eqb-true r.number n e in
    omega (arith, ap one_if e, differ_none n rs (subst (λ (k : ℕ). AllByRecursion (λ (q : Request). k < q.number) rs) same above))
once_step false n r rs e above most = omega (arith, none_if (r.number == n) e, most)

pub rising_once : (n : ℕ) (rs : List Request) → AreRising rs → numbered n rs ≤ 1
rising_once n [] h = omega arith
rising_once n (r ∷ rs) h = once_step (r.number == n) n r rs refl h.0 (rising_once n rs h.1)

pub rising_pairs : (rs : List Request) → AreRising rs → Pairs HaveNumbersApart rs
rising_pairs rs h = pairs_once (λ (r : Request). r.number) rs (λ n. rising_once n rs h)

-- No number stands twice in the trees of a batch that run.
pub trees_numbers : (batch : List Request) (suspended : List (List Pending)) (test : List ℕ → Bool) → AreBehindParents [] batch → AreRising batch → Pairs HaveNumbersApart (flat_trees (admitted suspended test (trees_of batch)).trees)
trees_numbers batch suspended test parents rising =
    let a : Admitted = admitted suspended test (trees_of batch) in
    pairs_once (λ (r : Request). r.number) (flat_trees a.trees) (λ n.
    let f : Request → ℕ = λ r. one_if (r.number == n) in
    let flat : numbered n (flat_trees a.trees) ≡ tally (tally f) a.trees = sum_flat f (λ (tree : List Request). tree) a.trees in
    omega (arith, flat, admitted_sum f suspended test (trees_of batch), batch_held batch parents rising f, rising_once n batch rising))

-- ---- names

abbrev pub HaveWorksApart : Request → Request → Type 0
HaveWorksApart a b = WorksApart a.work b.work

reads_it : (work : Work) → is_read (kind_of work) ≡ true → IsRead work
reads_it Null e = absurd (cc)
reads_it (Read name prio) e = tt
reads_it (Write name sum copies prio body) e = absurd (cc)
reads_it (Free name) e = absurd (cc)
reads_it (Claim name pointer) e = absurd (cc)

shared : (apart : Bool) (w v : Work) (names : Bool) → names_it (name_of w) (name_of v) ≡ names → (names && not (may_share apart w v)) ≡ false → WorksApart w v
shared apart w v false is h = inl is
shared apart w v true is h =
    let may : may_share apart w v ≡ true = not-false (may_share apart w v) h in
    let two = and_parts (not apart && is_read (kind_of w)) (is_read (kind_of v)) may in
    inr (reads_it w (and_parts (not apart) (is_read (kind_of w)) two.0).1, reads_it v two.1)

names_pairs : (apart : Bool) (rs : List Request) → NameApart apart rs → Pairs (λ (r q : Request). clashes apart q.work r.work ≡ false) rs
names_pairs apart [] h = tt
names_pairs apart (r ∷ rs) h = (h.0, names_pairs apart rs h.1)

-- Two requests of a batch with different numbers have names of their own, or both read.
pub works_apart : (apart : Bool) (batch : List Request) → NameApart apart batch → (a b : Request) → Contains batch a → Contains batch b → HaveNumbersApart a b → HaveWorksApart a b
works_apart apart batch names a b ca cb ne =
    ⊎_elim
    (λ (same : a ≡ b). absurd (ne (ap (λ (r : Request). r.number) same)))
    (λ (two : (clashes apart b.work a.work ≡ false) ⊎ (clashes apart a.work b.work ≡ false)).
    ⊎_elim (λ (k : clashes apart b.work a.work ≡ false). turned_apart (shared apart b.work a.work (names_it (name_of b.work) (name_of a.work)) refl k))
    (λ (k : clashes apart a.work b.work ≡ false). shared apart a.work b.work (names_it (name_of a.work) (name_of b.work)) refl k) two)
    (pairs_two (λ (r q : Request). clashes apart q.work r.work ≡ false) batch a b (names_pairs apart batch names) ca cb)
  where
    turned_apart : WorksApart b.work a.work → WorksApart a.work b.work
    turned_apart (inl one) = inl (turned_names (name_of b.work) (name_of a.work) one)
    turned_apart (inr reads) = inr (reads.1, reads.0)

pub trees_members : (batch : List Request) (suspended : List (List Pending)) (test : List ℕ → Bool) → AllByRecursion (Contains batch) (flat_trees (admitted suspended test (trees_of batch)).trees)
trees_members batch suspended test =
    flat_all (Contains batch) (admitted suspended test (trees_of batch)).trees
    (admitted_all (AllByRecursion (Contains batch)) (AllByRecursion (Contains batch)) suspended test (trees_of batch) (λ tree none k. k) (trees_all (Contains batch) batch [] (all_contained batch) tt))

pub trees_names : (apart : Bool) (batch : List Request) (suspended : List (List Pending)) (test : List ℕ → Bool) → AreBehindParents [] batch → AreRising batch → NameApart apart batch
    → Pairs HaveWorksApart (flat_trees (admitted suspended test (trees_of batch)).trees)
trees_names apart batch suspended test parents rising names =
    let rs : List Request = flat_trees (admitted suspended test (trees_of batch)).trees in
    pairs_stronger HaveWorksApart HaveNumbersApart rs
    (λ x y cx cy ne. works_apart apart batch names x y (all_contains (Contains batch) rs x (trees_members batch suspended test) cx) (all_contains (Contains batch) rs y (trees_members batch suspended test) cy) ne)
    (trees_numbers batch suspended test parents rising)
