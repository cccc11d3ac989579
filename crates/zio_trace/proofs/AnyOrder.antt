-- In whatever order those in flight are listed.
use Rattle.std.proofs.Common.{◌≡◌, ℕ, ◌+◌, ◌≤◌, Bool, true, false, List, [], ◌∷◌, IsPermutation, refl, sym, ap, ◌∙◌, subst, arith}
use Rattle.std.proofs.lemmas.List.Elements.{All-from_recursion, recursion_from_All}
use Rattle.std.proofs.lemmas.List.Sorted.{All-permutation, sum_by-IsPermutation}
use Rattle.std.proofs.lemmas.List.Sums.{sum_by-cons}
use Rattle.std.specs.List.{AllByRecursion, sum_by}
use Rattle.zio_cksum.proofs.AllLemmas.{all_weaker}
use Rattle.zio_trace.specs.Clearings.{AllPairs, AreClear, Away, Differ, FreeOf, Holds, Reach, Seat}
use Rattle.zio_trace.specs.Going.{IsGoing, Knows, Slot, AskedWithin, asked_behind, todo_of, weigh_slots}
use Rattle.zio_trace.specs.Labels.{Earlier, Labelled, same_at, ways_at}
use Rattle.zio_trace.specs.Oracles.{Oracle, Sure, Ways, ops_of, weigh}
use Rattle.zio_trace.specs.Programs.{Deed, Program}
use Rattle.zio_trace.proofs.LabelLemmas.{at_is, at_itself}
use Rattle.zio_trace.proofs.OnceLemmas.{one_if}

-- ---- all of a list, and a sum over it

weigh_sums : {X : Type 0} (w : X → ℕ) (xs : List X) → weigh w xs ≡ sum_by w xs
weigh_sums w [] = refl
weigh_sums w (x ∷ xs) = ap (λ (n : ℕ). w x + n) (weigh_sums w xs) ∙ sym (sum_by-cons w x xs)

pub weigh_permuted : {X : Type 0} (w : X → ℕ) (xs ys : List X) → IsPermutation xs ys → weigh w xs ≡ weigh w ys
weigh_permuted w xs ys h = weigh_sums w xs ∙ sym (sum_by-IsPermutation w xs ys h) ∙ sym (weigh_sums w ys)

pub all_permuted : {X : Type 0} (P : X → Type 0) (xs ys : List X) → IsPermutation xs ys → AllByRecursion P xs → AllByRecursion P ys
all_permuted P xs ys h k = recursion_from_All P ys (All-permutation P xs ys h (All-from_recursion P xs k))

pub pairs_permuted : {X : Type 0} (R : X → X → Type 0) (xs ys : List X) → IsPermutation xs ys → AllPairs R xs → AllPairs R ys
pairs_permuted {X} R xs ys h k =
    all_permuted (λ (x : X). AllByRecursion (R x) ys) xs ys h (all_weaker (λ (x : X). AllByRecursion (R x) xs) (λ (x : X). AllByRecursion (R x) ys) xs (λ x l. all_permuted (R x) xs ys h l) k)

-- ---- no two at one place

abbrev at_place : {Op : Type 0} → List ℕ → Seat Op → ℕ
at_place at s = one_if (same_at at s.op.at)

apart_if : (b : Bool) → (b ≡ true → ⊥) → one_if b ≡ 0
apart_if true h = absurd (h refl)
apart_if false h = refl

none_at : {Op : Type 0} (at : List ℕ) (ss : List (Seat Op)) → AllByRecursion (λ (q : Seat Op). at ≡ q.op.at → ⊥) ss → weigh (at_place at) ss ≡ 0
none_at at [] h = refl
none_at at (s ∷ ss) h =
    let e : at_place at s ≡ 0 = apart_if (same_at at s.op.at) (λ k. h.0 (at_is at s.op.at k)) in
    let f : weigh (at_place at) ss ≡ 0 = none_at at ss h.1 in
    omega arith

once_if : {Op : Type 0} (b : Bool) (at : List ℕ) (s : Seat Op) (ss : List (Seat Op)) → same_at at s.op.at ≡ b → AllByRecursion (λ (q : Seat Op). s.op.at ≡ q.op.at → ⊥) ss → weigh (at_place at) ss ≤ 1 → one_if b + weigh (at_place at) ss ≤ 1
once_if {Op} true at s ss e h k =
    let f : weigh (at_place at) ss ≡ 0 = none_at at ss (subst (λ (x : List ℕ). AllByRecursion (λ (q : Seat Op). x ≡ q.op.at → ⊥) ss) (sym (at_is at s.op.at e)) h) in
    omega arith
once_if false at s ss e h k = omega arith

once_at : {Op : Type 0} (at : List ℕ) (ss : List (Seat Op)) → Differ ss → weigh (at_place at) ss ≤ 1
once_at at [] h = omega arith
once_at at (s ∷ ss) h = once_if (same_at at s.op.at) at s ss refl h.0 (once_at at ss h.1)

here_once : {Op : Type 0} (at : List ℕ) (s : Seat Op) → at ≡ s.op.at → at_place at s ≡ 1
here_once at s e = ap one_if (ap (same_at at) (sym e) ∙ at_itself at)

others_differ : {Op : Type 0} (at : List ℕ) (ss : List (Seat Op)) → weigh (at_place at) ss ≡ 0 → AllByRecursion (λ (q : Seat Op). at ≡ q.op.at → ⊥) ss
others_differ at [] h = tt
others_differ at (s ∷ ss) h = (
  (λ e. let one : at_place at s ≡ 1 = here_once at s e in omega arith),
  others_differ at ss (let k : weigh (at_place at) (s ∷ ss) ≡ 0 = h in omega arith),
)

differ_by_weight : {Op : Type 0} (ss : List (Seat Op)) → ((at : List ℕ) → weigh (at_place at) ss ≤ 1) → Differ ss
differ_by_weight [] h = tt
differ_by_weight (s ∷ ss) h = (
  others_differ s.op.at ss (
      let one : at_place s.op.at s ≡ 1 = here_once s.op.at s refl in
      let all : at_place s.op.at s + weigh (at_place s.op.at) ss ≤ 1 = h s.op.at in
      omega arith),
  differ_by_weight ss (λ at. let all : at_place at s + weigh (at_place at) ss ≤ 1 = h at in omega arith),
)

differ_permuted : {Op : Type 0} (xs ys : List (Seat Op)) → IsPermutation xs ys → Differ xs → Differ ys
differ_permuted xs ys h k = differ_by_weight ys (λ at. subst (λ (n : ℕ). n ≤ 1) (weigh_permuted (at_place at) xs ys h) (once_at at xs k))

-- ---- what is kept

pub clear_permuted : {Op Ans : Type 0} (r : Reach Op) (ds : List (Deed (Labelled Op) Ans)) (xs ys : List (Seat Op)) → IsPermutation xs ys → AreClear r ds xs → AreClear r ds ys
clear_permuted {Op} {Ans} r ds xs ys h k = record {
  clear = all_permuted (λ (s : Seat Op). AllByRecursion (λ (e : Deed (Labelled Op) Ans). Earlier s.op e.op → Away r s.op e.op) ds) xs ys h k.clear;
  done = all_permuted (λ (s : Seat Op). AllByRecursion (λ (e : Deed (Labelled Op) Ans). Holds s e.op.at) ds) xs ys h k.done;
  free = pairs_permuted (FreeOf r) xs ys h k.free;
  flying = pairs_permuted (λ (s q : Seat Op). Holds s q.op.at) xs ys h k.flying;
  differ = differ_permuted xs ys h k.differ;
}

slots_weigh : {Op Ans : Type 0} (o : Oracle (Labelled Op) Ans) (w : Labelled Op → ℕ) (slots : List (Slot Op Ans)) → weigh_slots o w slots ≡ weigh (λ (s : Slot Op Ans). weigh w (todo_of o s)) slots
slots_weigh o w [] = refl
slots_weigh o w (s ∷ ss) = ap (λ (n : ℕ). weigh w (todo_of o s) + n) (slots_weigh o w ss)

pub going_permuted : {Op Ans A : Type 0} (ways : Ways Op Ans) (Passes : Labelled Op → Labelled Op → Type 0) (Lies : Op → Type 0) (mend : Op → Ans → Ans) (p : Program Op Ans A) (ds : List (Deed (Labelled Op) Ans)) (xs ys : List (Slot Op Ans)) (root : Program (Labelled Op) Ans A) (outs : ℕ)
    → IsPermutation xs ys → IsGoing ways Passes Lies mend p ds xs root outs → IsGoing ways Passes Lies mend p ds ys root outs
going_permuted {Op} {Ans} ways Passes Lies mend p ds xs ys root outs h k = record {
  knows = all_permuted (Knows ways ds) xs ys h k.knows;
  ends = k.ends;
  todo = λ o is agrees w.
      let same : weigh_slots o w xs ≡ weigh_slots o w ys = slots_weigh o w xs ∙ weigh_permuted (λ (s : Slot Op Ans). weigh w (todo_of o s)) xs ys h ∙ sym (slots_weigh o w ys) in
      k.todo o is agrees w ∙ ap (λ (n : ℕ). weigh w (ops_of ds) + (n + weigh w (asked_behind o outs root))) same;
  inside = all_permuted (λ (s : Slot Op Ans). Sure (ways_at ways) ds (λ o. AskedWithin p o (todo_of o s))) xs ys h k.inside;
  left = k.left;
  within = k.within;
  once = k.once;
  single = k.single;
  fit = k.fit;
  order = k.order;
  lies = k.lies;
}
