-- What an escaped text is made of.
use Rattle.std.proofs.Common.{◌≡◌, ℕ, List, [], ◌∷◌, ◌++◌, Bool, true, false, cond, map, refl, ap, ◌∙◌}
use Rattle.std.specs.Prelude.{◌==◌}
use Rattle.std.specs.List.{concat, list_all, list_any}
use Rattle.std.proofs.lemmas.List.Folds.{list_any-append}
use Rattle.zio_markup.specs.Escapes.{escape_of, escaped, is_printable}
use Rattle.zio_markup.specs.Laws.{is_datum, is_markup}

-- a test that holds of what either branch gives
by_branch : (p : List ℕ → Bool) (v b : Bool) (x y : List ℕ) → (b ≡ true → p x ≡ v) → (b ≡ false → p y ≡ v) → p (cond b x y) ≡ v
by_branch p v b x y =
    elim b as (λ c. (c ≡ true → p x ≡ v) → (c ≡ false → p y ≡ v) → p (cond c x y) ≡ v) [
      | true ↦ λ yes no. yes refl
      | false ↦ λ yes no. no refl
    ]

pub datum : (c : ℕ) → is_datum (escape_of c) ≡ true
datum c =
    by_branch is_datum true (c == 60) _ _ (λ _. refl) (λ less.
    by_branch is_datum true (c == 62) _ _ (λ _. refl) (λ more.
    by_branch is_datum true (c == 38) _ _ (λ _. refl) (λ and.
    by_branch is_datum true (c == 34) _ _ (λ _. refl) (λ quote.
    by_branch is_datum true (c == 39) _ _ (λ _. refl) (λ mark.
    by_branch is_datum true (c == 9) _ _ (λ _. refl) (λ tab.
    by_branch is_datum true (is_printable c) _ _ (λ printable. rw (printable, less, more, and, quote, mark) refl) (λ _. refl)))))))

pub no_markup : (c : ℕ) → list_any is_markup (escape_of c) ≡ false
no_markup c =
    by_branch (list_any is_markup) false (c == 60) _ _ (λ _. refl) (λ less.
    by_branch (list_any is_markup) false (c == 62) _ _ (λ _. refl) (λ more.
    by_branch (list_any is_markup) false (c == 38) _ _ (λ _. refl) (λ and.
    by_branch (list_any is_markup) false (c == 34) _ _ (λ _. refl) (λ quote.
    by_branch (list_any is_markup) false (c == 39) _ _ (λ _. refl) (λ mark.
    by_branch (list_any is_markup) false (c == 9) _ _ (λ _. refl) (λ tab.
    by_branch (list_any is_markup) false (is_printable c) _ _ (λ printable. rw (less, more, quote, mark) refl) (λ _. refl)))))))

-- each piece of an escaped text is a datum
pub each_datum : (text : List ℕ) → list_all is_datum (map escape_of text) ≡ true
each_datum [] = refl
each_datum (c ∷ text) = rw (datum c, each_datum text) refl

pub pieces : (text : List ℕ) → escaped text ≡ concat (map escape_of text)
pieces [] = refl
pieces (c ∷ text) = ap (λ rest. escape_of c ++ rest) (pieces text)

pub clean : (text : List ℕ) → list_any is_markup (escaped text) ≡ false
clean [] = refl
clean (c ∷ text) = list_any-append is_markup (escape_of c) (escaped text) ∙ rw (no_markup c, clean text) refl
