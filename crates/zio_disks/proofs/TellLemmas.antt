-- Images that disks tell.
use Rattle.std.proofs.Common.{◌≡◌, ℕ, suc, List, [], ◌∷◌, length, refl, ap, ◌∙◌}
use Rattle.zio_cksum.specs.Images.{Images}
use Rattle.zio_disks.specs.Disks.{Tell}

pub told_count : {D : Type 0} (image : D → List ℕ → Type 0) (disks : List D) (images : Images) → Tell image disks images → length images ≡ length disks
told_count image [] [] h = refl
told_count image [] (i ∷ is) h = absurd h
told_count image (d ∷ ds) [] h = absurd h
told_count image (d ∷ ds) (i ∷ is) h = ap (λ n. suc n) (told_count image ds is h.1)

-- disks that tell one image each tell these images alone
pub one_told : {D : Type 0} (image : D → List ℕ → Type 0) → ((disk : D) (a b : List ℕ) → image disk a → image disk b → a ≡ b) → (disks : List D) (xs ys : Images) → Tell image disks xs → Tell image disks ys → xs ≡ ys
one_told image one [] [] [] h k = refl
one_told image one [] [] (y ∷ ys) h k = absurd k
one_told image one [] (x ∷ xs) ys h k = absurd h
one_told image one (d ∷ ds) [] ys h k = absurd h
one_told image one (d ∷ ds) (x ∷ xs) [] h k = absurd k
one_told image one (d ∷ ds) (x ∷ xs) (y ∷ ys) h k = ap (λ z. z ∷ xs) (one d x y h.0 k.0) ∙ ap (λ zs. y ∷ zs) (one_told image one ds xs ys h.1 k.1)
