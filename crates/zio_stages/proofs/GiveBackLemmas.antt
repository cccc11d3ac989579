-- Places that are given back one by one.
use Rattle.std.proofs.Common.{◌≡◌, ℕ, zero, suc, ◌+◌, List, [], ◌∷◌, ◌++◌, take, slice_get, Some, sym, ap, subst, ◌∙◌, arith, append_assoc, append-nil}
use Rattle.std.proofs.lemmas.List.{map-append}
use Rattle.zio_types.specs.declared.place.Place.{Place}
use Rattle.zio_exchange.specs.SpaceCalls.{GaveBack, GivesBack, SpaceCall, calls_back}

-- none yet
pub gives_none : {S : Type 0} (made : S → List SpaceCall → S → Type 0) (places : List Place) (n : ℕ) (a : S) → made a [] a → GivesBack made places n n a a
gives_none made places n a none = record { gone = []; are = append-nil (take n places); calls = none }

take_there : (ps : List Place) (n : ℕ) (p : Place) → Some p ≡ slice_get ps n → take (n + 1) ps ≡ take n ps ++ p ∷ []
take_there [] n p e = absurd (cc)
take_there (q ∷ ps) zero p e = let is : p ≡ q = cc in ap (λ x. x ∷ []) (sym is)
take_there (q ∷ ps) (suc n) p e =
    ap (λ k. take k (q ∷ ps)) (let more : suc n + 1 ≡ suc (n + 1) = omega arith in more) ∙ ap (λ xs. q ∷ xs) (take_there ps n p e)

-- and one more
pub gives_more : {S : Type 0} (made : S → List SpaceCall → S → Type 0) (places : List Place) (old n : ℕ) (place : Place) (a b c : S)
    → ((x y z : S) (first second : List SpaceCall) → made x first y → made y second z → made x (first ++ second) z)
    → Some place ≡ slice_get places n → made b (GaveBack place ∷ []) c
    → GivesBack made places old n a b → GivesBack made places old (n + 1) a c
gives_more made places old n place a b c then is more h =
    let one : take (n + 1) places ≡ take n places ++ place ∷ [] = take_there places n place is in
    record {
      gone = h.gone ++ place ∷ [];
      are = sym (append_assoc (take old places) h.gone (place ∷ [])) ∙ ap (λ ps. ps ++ place ∷ []) h.are ∙ sym one;
      calls = subst (λ cs. made a cs c) (sym (map-append GaveBack h.gone (place ∷ []))) (then a b c (calls_back h.gone) (GaveBack place ∷ []) h.calls more);
    }

-- and where one was refused the same
pub gives_still : {S : Type 0} (made : S → List SpaceCall → S → Type 0) (places : List Place) (old n : ℕ) (a b c : S)
    → ((x y z : S) (first second : List SpaceCall) → made x first y → made y second z → made x (first ++ second) z)
    → made b [] c → GivesBack made places old n a b → GivesBack made places old n a c
gives_still made places old n a b c then none h = record {
  gone = h.gone;
  are = h.are;
  calls = subst (λ cs. made a cs c) (append-nil (calls_back h.gone)) (then a b c (calls_back h.gone) [] h.calls none);
}
