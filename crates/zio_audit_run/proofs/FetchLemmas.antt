-- Words that name files, one by one.
use Rattle.std.proofs.Common.{◌≡◌, ◌≤◌, ◌-◌, ℕ, suc, List, [], ◌∷◌, get_or, length, map, take, drop, sym, ap, ◌∙◌, arith}
use Rattle.std.proofs.lemmas.List.{take_all}

-- words that aren't none are the first and the rest
pub words_split : {X : Type 0} (f : X → List ℕ) (words : List X) (item : X) (name : List ℕ) → 1 ≤ length words → item ≡ get_or words 0 item → name ≡ f item
    → map f words ≡ name ∷ map f (take (length words - 1) (drop 1 words))
words_split f [] item name some is same = absurd (let l : 1 ≤ 0 = some in omega arith)
words_split {X} f (word ∷ words) item name some is same =
    ap (λ (n : List ℕ). n ∷ map f words) (ap f (sym is) ∙ sym same)
    ∙ ap (λ (ws : List X). name ∷ map f ws) (sym (take_all (suc (length words) - 1) words (omega arith)))
