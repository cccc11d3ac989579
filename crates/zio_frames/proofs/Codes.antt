-- Values written as numbers: two that are written alike are the same, so whether they are can be tested.
use Rattle.std.proofs.Common.{◌≡◌, ℕ, List, [], ◌∷◌, Bool, true, false, cond, Option, Some, None, refl, ap, ◌∙◌}
use Rattle.zio_trace.specs.Labels.{same_number}
use Rattle.zio_trace.proofs.LabelLemmas.{number_is, number_itself}

pub data Code : Type 0 where
  Number : ℕ → Code
  Two : Code → Code → Code

-- ---- a test

abbrev pub same_code : Code → Code → Bool
same_code (Number m) (Number n) = same_number m n
same_code (Number m) (Two c d) = false
same_code (Two a b) (Number n) = false
same_code (Two a b) (Two c d) = cond (same_code a c) (same_code b d) false

pub code_itself : (c : Code) → same_code c c ≡ true
code_itself (Number n) = number_itself n
code_itself (Two a b) = ap (λ (x : Bool). cond x (same_code b b) false) (code_itself a) ∙ code_itself b

two_are : (x : Bool) (a b c d : Code) → same_code a c ≡ x → cond x (same_code b d) false ≡ true → (same_code a c ≡ true → a ≡ c)
    → (same_code b d ≡ true → b ≡ d) → Two a b ≡ Two c d
two_are true a b c d e h f g = let k : a ≡ c = f e in let l : b ≡ d = g h in cc
two_are false a b c d e h f g = absurd (cc)

pub code_is : (c d : Code) → same_code c d ≡ true → c ≡ d
code_is (Number m) (Number n) e = ap (λ k. Number k) (number_is m n e)
code_is (Number m) (Two c d) e = absurd (cc)
code_is (Two a b) (Number n) e = absurd (cc)
code_is (Two a b) (Two c d) e = two_are (same_code a c) a b c d refl e (code_is a c) (code_is b d)

-- ---- what everything is made of

-- no two are written alike
abbrev pub IsWritten : {X : Type 0} → (X → Code) → Type 0
IsWritten {X} code = (x y : X) → code x ≡ code y → x ≡ y

pub number_written : IsWritten (λ (n : ℕ). Number n)
number_written m n e = cc

abbrev pub code_of_bool : Bool → Code
code_of_bool true = Number 1
code_of_bool false = Number 0

pub bool_written : IsWritten code_of_bool
bool_written true true e = refl
bool_written true false e = absurd (cc)
bool_written false true e = absurd (cc)
bool_written false false e = refl

abbrev pub code_of_option : {X : Type 0} → (X → Code) → Option X → Code
code_of_option code None = Number 0
code_of_option code (Some x) = Two (Number 0) (code x)

pub option_written : {X : Type 0} (code : X → Code) → IsWritten code → IsWritten (code_of_option code)
option_written code h None None e = refl
option_written code h None (Some y) e = absurd (cc)
option_written code h (Some x) None e = absurd (cc)
option_written code h (Some x) (Some y) e = let k : code x ≡ code y = cc in ap (λ (z : _). Some z) (h x y k)

abbrev pub code_of_list : {X : Type 0} → (X → Code) → List X → Code
code_of_list code [] = Number 0
code_of_list code (x ∷ xs) = Two (code x) (code_of_list code xs)

pub list_written : {X : Type 0} (code : X → Code) → IsWritten code → IsWritten (code_of_list code)
list_written code h [] [] e = refl
list_written code h [] (y ∷ ys) e = absurd (cc)
list_written code h (x ∷ xs) [] e = absurd (cc)
list_written code h (x ∷ xs) (y ∷ ys) e =
    let k : code x ≡ code y = cc in
    let l : code_of_list code xs ≡ code_of_list code ys = cc in
    let a : x ≡ y = h x y k in
    let b : xs ≡ ys = list_written code h xs ys l in
    cc

abbrev pub code_of_numbers : List ℕ → Code
code_of_numbers = code_of_list (λ (n : ℕ). Number n)

pub numbers_written : IsWritten code_of_numbers
numbers_written = list_written (λ (n : ℕ). Number n) number_written
