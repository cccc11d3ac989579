-- Deeds that change places.
use Rattle.std.proofs.Common.{◌≡◌, ◌<◌, List, [], ◌∷◌, ◌++◌, Bool, true, false, nat_le, ⊎_elim, refl, sym, ap, ◌∙◌, subst, arith}
use Rattle.std.specs.List.{AllByRecursion}
use Rattle.std.proofs.lemmas.Bool.{leb-false}
use Rattle.zio_cksum.specs.Images.{Images}
use Rattle.zio_trace.specs.Orders.{Commute, Stamped, deeds_in, put_if, put_by, by_stamp, RisesTo, Rise}
use Rattle.zio_trace.specs.Programs.{Meaning, Deed, Happen}

all_put_if : {Op Ans : Type 0} (P : Stamped Op Ans → Type 0) (b : Bool) (x y : Stamped Op Ans) (ys placed : List (Stamped Op Ans)) → P x → P y → AllByRecursion P ys → AllByRecursion P placed → AllByRecursion P (put_if b x y ys placed)
all_put_if P true x y ys placed hx hy h k = (hx, (hy, h))
all_put_if P false x y ys placed hx hy h k = (hy, k)

pub all_put : {Op Ans : Type 0} (P : Stamped Op Ans → Type 0) (x : Stamped Op Ans) (ys : List (Stamped Op Ans)) → P x → AllByRecursion P ys → AllByRecursion P (put_by x ys)
all_put P x [] hx h = (hx, tt)
all_put P x (y ∷ ys) hx h = all_put_if P (nat_le x.stamp y.stamp) x y ys (put_by x ys) hx h.0 h.1 (all_put P x ys hx h.1)

pub all_by_stamp : {Op Ans : Type 0} (P : Stamped Op Ans → Type 0) (xs : List (Stamped Op Ans)) → AllByRecursion P xs → AllByRecursion P (by_stamp xs)
all_by_stamp P [] h = tt
all_by_stamp P (x ∷ xs) h = all_put P x (by_stamp xs) h.0 (all_by_stamp P xs h.1)

module _ {Op Ans : Type 0} (means : Meaning Op Ans) (Sound : Images → Type 0) (Lies : Op → Type 0) (Apart : Op → Op → Type 0) (law : Commute means Sound Lies Apart) where
  -- two neighbours change places
  swapped : (a b : Deed Op Ans) (ds : List (Deed Op Ans)) (before after : Images) → Apart a.op b.op → Sound before → Lies a.op → Lies b.op → Happen means (a ∷ b ∷ ds) before after → Happen means (b ∷ a ∷ ds) before after
  swapped a b ds before after apart sound la lb h = (
    sym (law.answer a.op b.op before apart sound la lb) ∙ h.1.0,
    (
      law.answer b.op a.op before (law.turned a.op b.op apart) sound lb la ∙ h.0,
      subst (λ (i : Images). Happen means ds i after) (law.images a.op b.op before apart sound la lb) h.1.1,
    ),
  )

  -- a deed that is done last stands first, where it is apart from all others
  first_done : (d : Deed Op Ans) (ys : List (Deed Op Ans)) (before now : Images) → Sound before → Lies d.op → AllByRecursion (λ (y : Deed Op Ans). Lies y.op) ys → AllByRecursion (λ (y : Deed Op Ans). Apart d.op y.op) ys → (means d.op now).value ≡ d.answer → Happen means ys before now → Happen means (d ∷ ys) before (means d.op now).images
  first_done d [] before now sound ld lies apart answer h =
      (ap (λ (i : Images). (means d.op i).value) h ∙ answer, ap (λ (i : Images). (means d.op i).images) h)
  first_done d (y ∷ ys) before now sound ld lies apart answer h =
      swapped y d ys before (means d.op now).images (law.turned d.op y.op apart.0) sound lies.0 ld
      (h.0, first_done d ys (means y.op before).images now (law.sound y.op before sound lies.0) ld lies.1 apart.1 answer h.1)

  -- A deed is done. In the list it stands anywhere behind which all others are apart from it.
  pub inserted : (d : Deed Op Ans) (xs ys : List (Deed Op Ans)) (before now : Images) → Sound before → Lies d.op → AllByRecursion (λ (y : Deed Op Ans). Lies y.op) (xs ++ ys) → AllByRecursion (λ (y : Deed Op Ans). Apart d.op y.op) ys → (means d.op now).value ≡ d.answer → Happen means (xs ++ ys) before now → Happen means (xs ++ d ∷ ys) before (means d.op now).images
  inserted d [] ys before now sound ld lies apart answer h = first_done d ys before now sound ld lies apart answer h
  inserted d (x ∷ xs) ys before now sound ld lies apart answer h =
      (h.0, inserted d xs ys (means x.op before).images now (law.sound x.op before sound lies.0) ld lies.1 apart answer h.1)

  -- what stands before a deed and has a smaller number is apart from it
  put_if_first : (b : Bool) (x z : Stamped Op Ans) (zs : List (Stamped Op Ans)) (before after : Images) → nat_le x.stamp z.stamp ≡ b → Sound before → Lies x.deed.op → Lies z.deed.op → RisesTo Apart x z
      → (Happen means (deeds_in (put_by x zs)) (means z.deed.op before).images after → Happen means (x.deed ∷ deeds_in zs) (means z.deed.op before).images after)
      → Happen means (deeds_in (put_if b x z zs (put_by x zs))) before after → Happen means (x.deed ∷ z.deed ∷ deeds_in zs) before after
  put_if_first true x z zs before after e sound lx lz rises rest h = h
  put_if_first false x z zs before after e sound lx lz rises rest h =
      let less : z.stamp < x.stamp = leb-false x.stamp z.stamp e in
      let apart : Apart x.deed.op z.deed.op = ⊎_elim (λ a. a) (λ (k : x.stamp < z.stamp). absurd (omega arith)) rises in
      swapped z.deed x.deed (deeds_in zs) before after (law.turned x.deed.op z.deed.op apart) sound lz lx (h.0, rest h.1)

  put_first : (x : Stamped Op Ans) (zs : List (Stamped Op Ans)) (before after : Images) → Sound before → Lies x.deed.op → AllByRecursion (λ (z : Stamped Op Ans). Lies z.deed.op) zs → AllByRecursion (RisesTo Apart x) zs → Happen means (deeds_in (put_by x zs)) before after → Happen means (x.deed ∷ deeds_in zs) before after
  put_first x [] before after sound lx lies rise h = h
  put_first x (z ∷ zs) before after sound lx lies rise h =
      put_if_first (nat_le x.stamp z.stamp) x z zs before after refl sound lx lies.0 rise.0
      (put_first x zs (means z.deed.op before).images after (law.sound z.deed.op before sound lies.0) lx lies.1 rise.1)
      h

  -- What happens by rising numbers happens in each order in which those stand as they were done that may not change places.
  pub happen_risen : (xs : List (Stamped Op Ans)) (before after : Images) → Sound before → AllByRecursion (λ (x : Stamped Op Ans). Lies x.deed.op) xs → Rise Apart xs → Happen means (deeds_in (by_stamp xs)) before after → Happen means (deeds_in xs) before after
  happen_risen [] before after sound lies rise h = h
  happen_risen (x ∷ xs) before after sound lies rise h =
      let first : Happen means (x.deed ∷ deeds_in (by_stamp xs)) before after =
      put_first x (by_stamp xs) before after sound lies.0 (all_by_stamp (λ (z : Stamped Op Ans). Lies z.deed.op) xs lies.1) (all_by_stamp (RisesTo Apart x) xs rise.0) h in
      (first.0, happen_risen xs (means x.deed.op before).images after (law.sound x.deed.op before sound lies.0) lies.1 rise.1 first.1)
