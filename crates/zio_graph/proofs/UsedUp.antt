-- Loops that use a list up from its front.
use Rattle.std.proofs.Common.{◌≡◌, List, [], ◌∷◌, ◌++◌, map, sym, ap, ◌∙◌}
use Rattle.std.specs.List.{flat_map}
use Rattle.std.proofs.lemmas.List.{append-nil, append_assoc}

-- ---- one for each item

pub mapped_begins : {X Y : Type 0} (f : X → Y) (xs rest : List X) (ys : List Y) → rest ≡ xs → ys ≡ []
    → ys ++ map f rest ≡ map f xs
mapped_begins {X} {Y} f xs rest ys same none = ap (λ (zs : List Y). zs ++ map f rest) none ∙ ap (λ (zs : List X). map f zs) same

pub mapped_step : {X Y : Type 0} (f : X → Y) (xs rest left : List X) (ys now : List Y) (x : X) (y : Y)
    → ys ++ map f rest ≡ map f xs
    → rest ≡ x ∷ left → now ≡ ys ++ y ∷ [] → y ≡ f x → now ++ map f left ≡ map f xs
mapped_step {X} {Y} f xs rest left ys now x y h is more of_x =
    ap (λ (zs : List Y). zs ++ map f left) more
    ∙ (append_assoc ys (y ∷ []) (map f left)
    ∙ (ap (λ (z : Y). ys ++ z ∷ map f left) of_x
    ∙ (ap (λ (zs : List X). ys ++ map f zs) (sym is) ∙ h)))

pub mapped_ends : {X Y : Type 0} (f : X → Y) (xs rest : List X) (ys : List Y) → ys ++ map f rest ≡ map f xs → rest ≡ []
    → ys ≡ map f xs
mapped_ends {X} {Y} f xs rest ys h none = sym (append-nil ys) ∙ (ap (λ (zs : List X). ys ++ map f zs) (sym none) ∙ h)

-- ---- some for each item

pub flat_begins : {X Y : Type 0} (f : X → List Y) (xs rest : List X) (ys : List Y) → rest ≡ xs → ys ≡ []
    → ys ++ flat_map f rest ≡ flat_map f xs
flat_begins {X} {Y} f xs rest ys same none =
    ap (λ (zs : List Y). zs ++ flat_map f rest) none ∙ ap (λ (zs : List X). flat_map f zs) same

pub flat_step : {X Y : Type 0} (f : X → List Y) (xs rest left : List X) (ys now : List Y) (x : X)
    → ys ++ flat_map f rest ≡ flat_map f xs
    → rest ≡ x ∷ left → now ≡ ys ++ f x → now ++ flat_map f left ≡ flat_map f xs
flat_step {X} {Y} f xs rest left ys now x h is more =
    ap (λ (zs : List Y). zs ++ flat_map f left) more
    ∙ (append_assoc ys (f x) (flat_map f left)
    ∙ (ap (λ (zs : List X). ys ++ flat_map f zs) (sym is) ∙ h))

pub flat_ends : {X Y : Type 0} (f : X → List Y) (xs rest : List X) (ys : List Y) → ys ++ flat_map f rest ≡ flat_map f xs
    → rest ≡ [] → ys ≡ flat_map f xs
flat_ends {X} {Y} f xs rest ys h none = sym (append-nil ys) ∙ (ap (λ (zs : List X). ys ++ flat_map f zs) (sym none) ∙ h)
