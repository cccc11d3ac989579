-- Operations on leaves, of which two are one or clear of each other, and each changes nothing when it is done again: those
-- of two lists with the same operations leave the same images.
use Rattle.std.proofs.Common.{◌≡◌, ℕ, List, [], ◌∷◌, ◌++◌, Contains, ◌⊎◌, inr, ⊎_elim, refl, sym, ap, ◌∙◌, subst}
use Rattle.std.specs.List.{AllByRecursion}
use Rattle.zio_cksum.specs.Images.{Images, Setting}
use Rattle.zio_cksum.proofs.AllLemmas.{all_contains}
use Rattle.zio_trace.specs.Leaves.{AreClear, HaveSizes, LeafOp, LiesOn, on_leaf, spot_of}
use Rattle.zio_trace.proofs.ChoiceLemmas.{contained_cases}
use Rattle.zio_trace.proofs.LeafLemmas.{leaves_commute}

-- what these leave, done in turn
abbrev pub after_all : Setting → List LeafOp → Images → Images
after_all s [] images = images
after_all s (op ∷ ops) images = after_all s ops (on_leaf s op images).images

pub after_append : (s : Setting) (xs ys : List LeafOp) (images : Images) → after_all s (xs ++ ys) images ≡ after_all s ys (after_all s xs images)
after_append s [] ys images = refl
after_append s (x ∷ xs) ys images = after_append s xs ys (on_leaf s x images).images

-- the same operation, or clear of it
abbrev pub AreAlike : LeafOp → LeafOp → Type 0
AreAlike a b = (a ≡ b) ⊎ AreClear (spot_of a) (spot_of b)

module _ (s : Setting) (sizes : ℕ → ℕ) where
  abbrev pub done : LeafOp → Images → Images
  done a images = (on_leaf s a images).images

  pub done_sized : (a : LeafOp) (images : Images) → LiesOn sizes a → HaveSizes sizes images → HaveSizes sizes (done a images)
  done_sized a images lies sized = (leaves_commute s sizes).sound a images sized lies

  pub all_sized : (ops : List LeafOp) (images : Images) → AllByRecursion (LiesOn sizes) ops → HaveSizes sizes images → HaveSizes sizes (after_all s ops images)
  all_sized [] images lies sized = sized
  all_sized (op ∷ ops) images lies sized = all_sized ops (done op images) lies.1 (done_sized op images lies.0 sized)

  module _ (In : LeafOp → Type 0) (lies : (a : LeafOp) → In a → LiesOn sizes a) (alike : (a b : LeafOp) → In a → In b → AreAlike a b) (twice : (a : LeafOp) (images : Images) → In a → HaveSizes sizes images → done a (done a images) ≡ done a images) where
    swapped : (a b : LeafOp) (images : Images) → In a → In b → HaveSizes sizes images → done b (done a images) ≡ done a (done b images)
    swapped a b images ia ib sized =
        ⊎_elim
        (λ (e : a ≡ b). subst (λ (x : LeafOp). done x (done a images) ≡ done a (done x images)) e refl)
        (λ (clear : AreClear (spot_of a) (spot_of b)). (leaves_commute s sizes).images a b images (inr clear) sized (lies a ia) (lies b ib))
        (alike a b ia ib)

    -- one more, before or after
    one_after : (a : LeafOp) (ops : List LeafOp) (images : Images) → In a → AllByRecursion In ops → HaveSizes sizes images → done a (after_all s ops images) ≡ after_all s ops (done a images)
    one_after a [] images ia all sized = refl
    one_after a (b ∷ ops) images ia all sized =
        one_after a ops (done b images) ia all.1 (done_sized b images (lies b all.0) sized)
        ∙ ap (after_all s ops) (swapped b a images all.0 ia sized)

    -- one that was done already
    pub one_again : (a : LeafOp) (ops : List LeafOp) (images : Images) → Contains ops a → AllByRecursion In ops → HaveSizes sizes images → done a (after_all s ops images) ≡ after_all s ops images
    one_again a [] images c all sized = absurd (all_contains (λ (x : LeafOp). ⊥) [] a tt c)
    one_again a (b ∷ ops) images c all sized =
        let next : HaveSizes sizes (done b images) = done_sized b images (lies b all.0) sized in
        ⊎_elim
        (λ (e : b ≡ a).
        one_after a ops (done b images) (subst In e all.0) all.1 next
        ∙ ap (after_all s ops) (subst (λ (x : LeafOp). done x (done b images) ≡ done b images) e (twice b images all.0 sized)))
        (λ (later : Contains ops a). one_again a ops (done b images) later all.1 next)
        (contained_cases b ops a c)

    all_lie : (ops : List LeafOp) → AllByRecursion In ops → AllByRecursion (LiesOn sizes) ops
    all_lie [] h = tt
    all_lie (op ∷ ops) h = (lies op h.0, all_lie ops h.1)

    all_again : (xs ys : List LeafOp) (images : Images) → AllByRecursion (Contains ys) xs → AllByRecursion In ys → HaveSizes sizes images → after_all s xs (after_all s ys images) ≡ after_all s ys images
    all_again [] ys images within all sized = refl
    all_again (x ∷ xs) ys images within all sized =
        ap (after_all s xs) (one_again x ys images within.0 all sized) ∙ all_again xs ys images within.1 all sized

    exchanged : (xs ys : List LeafOp) (images : Images) → AllByRecursion In xs → AllByRecursion In ys → HaveSizes sizes images → after_all s xs (after_all s ys images) ≡ after_all s ys (after_all s xs images)
    exchanged [] ys images ix iy sized = refl
    exchanged (x ∷ xs) ys images ix iy sized =
        ap (after_all s xs) (one_after x ys images ix.0 iy sized)
        ∙ exchanged xs ys (done x images) ix.1 iy (done_sized x images (lies x ix.0) sized)

    -- The same operations leave the same, in whatever order, and however often.
    pub same_puts : (xs ys : List LeafOp) (images : Images) → AllByRecursion In xs → AllByRecursion In ys → AllByRecursion (Contains ys) xs → AllByRecursion (Contains xs) ys → HaveSizes sizes images → after_all s xs images ≡ after_all s ys images
    same_puts xs ys images ix iy xy yx sized =
        sym (all_again ys xs images yx ix sized) ∙ sym (exchanged xs ys images ix iy sized) ∙ all_again xs ys images xy iy sized
