-- The bytes of the generator, eight in a turn.
use Rattle.std.proofs.Common.{◌≡◌, ◌<◌, ◌≤◌, ◌+◌, ◌-◌, ◌*◌, ◌/◌, ◌⊎◌, ℕ, zero, suc, List, [], ◌++◌, length, take, min, refl, sym, ap, ◌∙◌, subst, inl, inr, arith, add-one}
use Rattle.std.proofs.lemmas.Bool.{cases_lt}
use Rattle.std.proofs.lemmas.List.{append_assoc, append-nil, length-append, length-replicate, length-take, take-append-le, take_all}
use Rattle.std.proofs.Math.Nat.{div-eq-sub-div}
use Rattle.std.proofs.Math.Seq.{take-append-add}
use Rattle.std.specs.Int.{w64, to_le_bytes}
use Rattle.zio_script.specs.declared.script.Body.{Body}
use Rattle.zio_script.specs.declared.script.Body.TheVariants.{Hex, Fill, Seq}
use Rattle.zio_script.specs.Bodies.{body_of, generated, next_state, sequence}
use Rattle.zio_script.specs.Whys.{body_len}

-- these bytes are a front of the sequence, and the others follow from the state
pub record IsSequenceFront (seed len state left : ℕ) (bytes : List ℕ) : Type 0 where
  pub whole : bytes ++ take left (generated state (left / 8 + 1)) ≡ sequence seed len

pub sequence_start : (seed len : ℕ) → IsSequenceFront seed len seed len []
unfolding sequence
sequence_start seed len = record { whole = refl }

pub sequence_end : (seed len state : ℕ) (bytes : List ℕ) → IsSequenceFront seed len state 0 bytes → bytes ≡ sequence seed len
sequence_end seed len state bytes is = sym (append-nil bytes) ∙ is.whole

-- the next value, and what follows it
generated_next : (state n : ℕ) → generated state (n + 1) ≡ to_le_bytes w64 (next_state state) ++ generated (next_state state) n
unfolding generated
generated_next state n = rw add-one refl

take_word : (word rest : List ℕ) (left taken : ℕ) → length word ≡ 8 → taken ≡ min left 8 → (left < 8) ⊎ (8 ≤ left)
    → take left (word ++ rest) ≡ take taken word ++ take (left - taken) rest
take_word word rest left taken len is (inl few) =
    let same : taken ≡ left = omega arith in
    let nothing : left - taken ≡ 0 = omega arith in
    rw (nothing, same) (take-append-le left word rest (omega arith) ∙ sym (append-nil (take left word)))
take_word word rest left taken len is (inr many) =
    let same : length word + (left - taken) ≡ left = omega arith in
    let all : take taken word ≡ word = take_all taken word (omega arith) in
    rw all (subst (λ (n : ℕ). take n (word ++ rest) ≡ word ++ take (left - taken) rest) same (take-append-add word rest (left - taken)))

-- how many values are wanted after a turn
turns_left : (state left taken : ℕ) → taken ≡ min left 8 → (left < 8) ⊎ (8 ≤ left)
    → take (left - taken) (generated state (left / 8)) ≡ take (left - taken) (generated state ((left - taken) / 8 + 1))
turns_left state left taken is (inl few) = let nothing : left - taken ≡ 0 = omega arith in rw nothing refl
turns_left state left taken is (inr many) =
    let same : taken ≡ 8 = omega arith in
    let turns : left / 8 ≡ (left - taken) / 8 + 1 = rw same (div-eq-sub-div {m = 8} {n = left} (omega arith) many) in
    ap (λ (n : ℕ). take (left - taken) (generated state n)) turns

turn : (state left taken : ℕ) → taken ≡ min left 8
    → take left (generated state (left / 8 + 1)) ≡ take taken (to_le_bytes w64 (next_state state)) ++ take (left - taken) (generated (next_state state) ((left - taken) / 8 + 1))
turn state left taken is =
    ap (λ (xs : List ℕ). take left xs) (generated_next state (left / 8))
    ∙ (take_word (to_le_bytes w64 (next_state state)) (generated (next_state state) (left / 8)) left taken refl is (cases_lt left 8)
    ∙ ap (λ (xs : List ℕ). take taken (to_le_bytes w64 (next_state state)) ++ xs) (turns_left (next_state state) left taken is (cases_lt left 8)))

pub sequence_more : (seed len state left taken : ℕ) (bytes more : List ℕ) → IsSequenceFront seed len state left bytes → taken ≡ min left 8
    → more ≡ bytes ++ take taken (to_le_bytes w64 (next_state state)) → IsSequenceFront seed len (next_state state) (left - taken) more
sequence_more seed len state left taken bytes more is taken_is added = record {
  whole = ap (λ (xs : List ℕ). xs ++ take (left - taken) (generated (next_state state) ((left - taken) / 8 + 1))) added
      ∙ (append_assoc bytes (take taken (to_le_bytes w64 (next_state state))) (take (left - taken) (generated (next_state state) ((left - taken) / 8 + 1)))
      ∙ (ap (λ (xs : List ℕ). bytes ++ xs) (sym (turn state left taken taken_is)) ∙ is.whole));
}

-- ---- how many bytes a body has

length-generated : (state n : ℕ) → length (generated state n) ≡ 8 * n
unfolding generated
length-generated state zero = refl
length-generated state (suc n) =
    let more : length (generated (next_state state) n) ≡ 8 * n = length-generated (next_state state) n in
    let word : length (to_le_bytes w64 (next_state state)) ≡ 8 = refl in
    simp length-append (omega arith)

length-sequence : (seed len : ℕ) → length (sequence seed len) ≡ len
unfolding sequence
length-sequence seed len =
    let all : length (generated seed (len / 8 + 1)) ≡ 8 * (len / 8 + 1) = length-generated seed (len / 8 + 1) in
    simp length-take (omega arith)

pub length-body : (body : Body) → length (body_of body) ≡ body_len body
length-body (Hex bytes) = refl
length-body (Fill byte len) = length-replicate len byte
length-body (Seq seed len) = length-sequence seed len
