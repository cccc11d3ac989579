-- What has been read of a text, turn by turn.
use Rattle.std.proofs.Common.{◌≡◌, ℕ, ◌+◌, ◌-◌, ◌≤◌, List, [], ◌++◌, length, take, drop, refl, sym, ap, ◌∙◌, subst, arith}
use Rattle.std.proofs.lemmas.List.{append-nil, take_all, drop_all, drop-drop, length-drop, length-append, length-take-le}
use Rattle.std.proofs.Math.Seq.{drop-nil, take-add}

-- these bytes were read of the text, and the rest is left
pub record HasRead (left : List ℕ → Type 0) (text bytes : List ℕ) : Type 0 where
  pub rest : left (drop (length bytes) text)
  pub front : bytes ≡ take (length bytes) text
  pub there : length bytes ≤ length text

pub HasRead-start : (left : List ℕ → Type 0) (text : List ℕ) → left text → HasRead left text []
HasRead-start left text told = record { rest = told; front = refl; there = omega arith }

-- a turn adds a front of what is left
pub HasRead-more : (old new : List ℕ → Type 0) (text bytes more : List ℕ) (n : ℕ) → HasRead old text bytes
    → more ≡ bytes ++ take n (drop (length bytes) text) → n ≤ length (drop (length bytes) text) → new (drop n (drop (length bytes) text))
    → HasRead new text more
HasRead-more old new text bytes more n read added there told =
    let rest_len : length (drop (length bytes) text) ≡ length text - length bytes = length-drop (length bytes) text in
    let part_len : length (take n (drop (length bytes) text)) ≡ n = length-take-le n (drop (length bytes) text) there in
    let len : length more ≡ length bytes + n = ap length added ∙ (length-append bytes (take n (drop (length bytes) text)) ∙ ap (λ k. length bytes + k) part_len) in
    let whole : take (length bytes + n) text ≡ take (length bytes) text ++ take n (drop (length bytes) text) = take-add (length bytes) n text in
    record {
      rest = rw len (rw (← drop-drop n (length bytes) text) told);
      front = rw len (added ∙ (ap (λ (xs : List ℕ). xs ++ take n (drop (length bytes) text)) read.front ∙ sym whole));
      there = let before = read.there in omega arith;
    }

-- where nothing was left before a turn, all of the text was read
pub HasRead-end : (left : List ℕ → Type 0) (text bytes more : List ℕ) (n most : ℕ) → HasRead left text bytes
    → drop (length bytes) text ≡ [] → more ≡ bytes ++ take n (drop (length bytes) text) → length bytes ≤ most → more ≡ take most text
HasRead-end left text bytes more n most read none added short =
    let rest_len : length (drop (length bytes) text) ≡ length text - length bytes = length-drop (length bytes) text in
    let no_rest : length (drop (length bytes) text) ≡ 0 = ap length none in
    let nothing : take n (drop (length bytes) text) ≡ drop (length bytes) text = take_all n (drop (length bytes) text) (omega arith) in
    let same : bytes ++ take n (drop (length bytes) text) ≡ bytes =
    ap (λ (xs : List ℕ). bytes ++ xs) (nothing ∙ none) ∙ append-nil bytes in
    let all : take (length bytes) text ≡ text = take_all (length bytes) text (omega arith) in
    let most_is : take most text ≡ text = take_all most text (omega arith) in
    added ∙ (same ∙ (read.front ∙ (all ∙ sym most_is)))

-- and where so many bytes were read, they are the front of the text
pub HasRead-full : (left : List ℕ → Type 0) (text bytes : List ℕ) (most : ℕ) → HasRead left text bytes
    → length bytes ≡ most → bytes ≡ take most text
HasRead-full left text bytes most read len = subst (λ (n : ℕ). bytes ≡ take n text) len read.front

-- where nothing was left, nothing is left, however much more was asked for
pub HasRead-end_rest : (left : List ℕ → Type 0) (text bytes : List ℕ) (n most : ℕ) → drop (length bytes) text ≡ []
    → length bytes ≤ most → left (drop n (drop (length bytes) text)) → left (drop most text)
HasRead-end_rest left text bytes n most none short told =
    let rest_len : length (drop (length bytes) text) ≡ length text - length bytes = length-drop (length bytes) text in
    let no_rest : length (drop (length bytes) text) ≡ 0 = ap length none in
    let past : drop most text ≡ [] = drop_all most text (omega arith) in
    let here : drop n (drop (length bytes) text) ≡ [] = ap (λ (xs : List ℕ). drop n xs) none ∙ drop-nil n in
    subst left (here ∙ sym past) told
