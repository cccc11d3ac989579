-- Where two lists first differ.
use Rattle.std.proofs.Common.{◌≡◌, ◌≢◌, ◌+◌, ◌<◌, ℕ, suc, List, [], ◌∷◌, length, None, Some, refl, sym, ap, subst, ◌∙◌, arith, add-one}
use Rattle.std.specs.Prelude.{slice_get}
use Rattle.zio_cksum.specs.Images.{Images}
use Rattle.zio_audit.specs.Seen.{IsFirstOther, IsFirstOtherByte}

-- ---- bytes

some_same : {X : Type 0} {x y : X} → Some x ≡ Some y → x ≡ y
some_same e = cc

some_none : {X : Type 0} (x : X) → Some x ≡ None → ⊥
some_none x e = cc

-- the same items as far as the first goes, and no more in the second: the same lists
all_same : (one other : List ℕ) → ((k : ℕ) → k < length one → slice_get one k ≡ slice_get other k) → slice_get other (length one) ≡ None → one ≡ other
all_same [] [] same end = refl
all_same [] (y ∷ other) same end = absurd (some_none y end)
all_same (x ∷ one) [] same end = absurd (some_none x (same 0 (omega arith)))
all_same (x ∷ one) (y ∷ other) same end =
    let first : x ≡ y = some_same (same 0 (omega arith)) in
    let later : one ≡ other = all_same one other (λ k less. same (suc k) (omega arith)) end in
    λ i. first i ∷ later i

past_end : (one : List ℕ) → slice_get one (length one) ≡ None
past_end [] = refl
past_end (x ∷ one) = past_end one

pub end_differs : (one other : List ℕ) → one ≢ other → ((k : ℕ) → k < length one → slice_get one k ≡ slice_get other k) → IsFirstOtherByte one other (length one)
end_differs one other differ same = record {
  above = same;
  here = λ is. differ (all_same one other same (sym is ∙ past_end one));
}

-- ---- images

pub one_differs : (a b : List ℕ) (some others : Images) (byte : ℕ) → IsFirstOtherByte a b byte → IsFirstOther (a ∷ some) (b ∷ others) 0 byte
one_differs a b some others byte first = record {
  images = refl;
  bytes = λ k less. ap Some (first.above k less);
  other = λ is. first.here (some_same is);
}

pub later_differs : (a b : List ℕ) (some others : Images) (image byte : ℕ) → a ≡ b → IsFirstOther some others image byte → IsFirstOther (a ∷ some) (b ∷ others) (image + 1) byte
later_differs a b some others image byte same first =
    subst (λ (n : ℕ). IsFirstOther (a ∷ some) (b ∷ others) n byte) (sym (add-one image)) (record {
      images = (λ i. same i ∷ first.images i);
      bytes = first.bytes;
      other = first.other;
    })

-- one has an image where the other has none
pub one_more : (a : List ℕ) (some : Images) → IsFirstOther (a ∷ some) [] 0 0
one_more a some = record { images = refl; bytes = λ k less. absurd (omega arith); other = λ is. some_none _ is }

pub one_less : (b : List ℕ) (others : Images) → IsFirstOther [] (b ∷ others) 0 0
one_less b others = record { images = refl; bytes = λ k less. absurd (omega arith); other = λ is. some_none _ (sym is) }
