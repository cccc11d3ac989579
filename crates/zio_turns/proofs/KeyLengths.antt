-- Lists in which each key stands as often are as long.
use Rattle.std.proofs.Common.{◌≡◌, ℕ, suc, ◌+◌, ◌<◌, List, [], ◌∷◌, ◌++◌, length, length-append, Bool, true, false, refl, sym, ap, ◌∙◌, arith}
use Rattle.zio_trace.specs.Keys.{bit}
use Rattle.zio_trace.specs.Labels.{same_number}
use Rattle.zio_trace.proofs.LabelLemmas.{number_is, number_itself}
use Rattle.zio_staged.specs.Entries.{OneMore, times_in}
use Rattle.zio_turns.proofs.KeyTimes.{times_append}

record IsWithout (x : ℕ) (ys : List ℕ) : Type 0 where
  pub rest : List ℕ
  pub times : (k : ℕ) → times_in k ys ≡ bit (same_number x k) + times_in k rest
  pub longer : length ys ≡ suc (length rest)

without_first : (x y : ℕ) (ys : List ℕ) → 0 < times_in x (y ∷ ys) → (b : Bool) → same_number y x ≡ b
    → (0 < times_in x ys → IsWithout x ys) → IsWithout x (y ∷ ys)
without_first x y ys h true e others = record {
  rest = ys;
  times = λ k. ap (λ (n : ℕ). bit (same_number n k) + times_in k ys) (number_is y x e);
  longer = refl;
}
without_first x y ys h false e others =
    let none : bit (same_number y x) ≡ 0 = ap bit e in
    let later = others (omega (arith, none, h)) in
    record {
      rest = y ∷ later.rest;
      times = λ k. let times = later.times k in omega arith;
      longer = ap (λ (n : ℕ). suc n) later.longer;
    }

without_one : (x : ℕ) (ys : List ℕ) → 0 < times_in x ys → IsWithout x ys
without_one x [] h = absurd (omega arith)
without_one x (y ∷ ys) h = without_first x y ys h (same_number y x) refl (λ some. without_one x ys some)

pub length_by_times : (xs ys : List ℕ) → ((k : ℕ) → times_in k xs ≡ times_in k ys) → length xs ≡ length ys
length_by_times [] [] h = refl
length_by_times [] (y ∷ ys) h =
    let one : bit (same_number y y) ≡ 1 = ap bit (number_itself y) in
    let none : 0 ≡ times_in y (y ∷ ys) = h y in
    absurd (omega arith)
length_by_times (x ∷ xs) ys h =
    let one : bit (same_number x x) ≡ 1 = ap bit (number_itself x) in
    let some : times_in x (x ∷ xs) ≡ times_in x ys = h x in
    let out : IsWithout x ys = without_one x ys (omega arith) in
    let rest : length xs ≡ length out.rest =
    length_by_times xs out.rest (λ k. let a = h k in let b = out.times k in omega arith) in
    ap (λ (n : ℕ). suc n) rest ∙ sym out.longer

pub length_more : (key : ℕ) (xs ys : List ℕ) → OneMore key xs ys → length ys ≡ length xs + 1
length_more key xs ys h =
    let same : length ys ≡ length (key ∷ xs) = length_by_times ys (key ∷ xs) (λ k. h.times k) in
    omega arith

pub length_leave : (all some rest : List ℕ) → ((k : ℕ) → times_in k all ≡ times_in k some + times_in k rest)
    → length all ≡ length some + length rest
length_leave all some rest h =
    length_by_times all (some ++ rest) (λ k. h k ∙ sym (times_append k some rest)) ∙ length-append some rest
