-- Deeds that happened in an order in which those that aren't apart stand as they are asked.
use Rattle.std.proofs.Common.{◌≡◌, ℕ, suc, ◌+◌, Bool, true, false, List, [], ◌∷◌, ◌++◌, refl, sym, ap, ◌∙◌, subst, arith}
use Rattle.std.specs.List.{AllByRecursion}
use Rattle.zio_cksum.specs.Images.{Images}
use Rattle.zio_trace.specs.Oracles.{Oracle, Agrees, weigh, Shuffled, ops_of, IsTest, Ascends, InOrder, deeds_as}
use Rattle.zio_trace.specs.Orders.{Commute}
use Rattle.zio_trace.specs.Programs.{Meaning, Deed, Happen}

-- ---- the same elements

abbrev one_if : Bool → ℕ
one_if true = 1
one_if false = 0

weigh_out : {X : Type 0} (w : X → ℕ) (xs : List X) (x : X) (ys : List X) → weigh w (xs ++ x ∷ ys) ≡ w x + weigh w (xs ++ ys)
weigh_out w [] x ys = refl
weigh_out w (z ∷ xs) x ys = let e : weigh w (xs ++ x ∷ ys) ≡ w x + weigh w (xs ++ ys) = weigh_out w xs x ys in omega arith

-- where one stands
pub record Split {X : Type 0} (xs : List X) (x : X) : Type 0 where
  pub front : List X
  pub rest : List X
  pub is : xs ≡ front ++ x ∷ rest

found_if : {Op Ans : Type 0} (same : Op → Op → Bool) (In : Op → Type 0) → IsTest same In → (o : Op) (b : Bool) (d : Deed Op Ans) (ds : List (Deed Op Ans)) → In o → In d.op → same o d.op ≡ b
    → ((n : ℕ) → weigh (λ (x : Op). one_if (same o x)) (ops_of ds) ≡ suc n → (e : Deed Op Ans) × (e.op ≡ o) × Split ds e)
    → (n : ℕ) → weigh (λ (x : Op). one_if (same o x)) (ops_of (d ∷ ds)) ≡ suc n → (e : Deed Op Ans) × (e.op ≡ o) × Split (d ∷ ds) e
found_if same In test o true d ds io id e rest n h = (d, sym (test.is o d.op io id e), record { front = []; rest = ds; is = refl })
found_if {Op} {Ans} same In test o false d ds io id e rest n h =
    let none : one_if (same o d.op) ≡ 0 = ap (λ (b : Bool). one_if b) e in
    let total : one_if (same o d.op) + weigh (λ (x : Op). one_if (same o x)) (ops_of ds) ≡ suc n = h in
    let r : (x : Deed Op Ans) × (x.op ≡ o) × Split ds x = rest n (omega arith) in
    (r.0, r.1, record { front = d ∷ r.2.front; rest = r.2.rest; is = ap (λ (xs : List (Deed _ _)). d ∷ xs) r.2.is })

-- what is weighed is there
pub found_in : {Op Ans : Type 0} (same : Op → Op → Bool) (In : Op → Type 0) → IsTest same In → (o : Op) (ds : List (Deed Op Ans)) → In o → AllByRecursion (λ (d : Deed Op Ans). In d.op) ds → (n : ℕ) → weigh (λ (x : Op). one_if (same o x)) (ops_of ds) ≡ suc n → (e : Deed Op Ans) × (e.op ≡ o) × Split ds e
found_in same In test o [] io id n h = absurd (omega arith)
found_in same In test o (d ∷ ds) io id n h = found_if same In test o (same o d.op) d ds io id.0 refl (found_in same In test o ds io id.1) n h

ops_append : {Op Ans : Type 0} (ds es : List (Deed Op Ans)) → ops_of (ds ++ es) ≡ ops_of ds ++ ops_of es
ops_append [] es = refl
ops_append (d ∷ ds) es = ap (λ (ops : List _). d.op ∷ ops) (ops_append ds es)

all_out : {X : Type 0} (P : X → Type 0) (xs : List X) (x : X) (ys : List X) → AllByRecursion P (xs ++ x ∷ ys) → P x × AllByRecursion P (xs ++ ys)
all_out P [] x ys h = h
all_out P (z ∷ xs) x ys h = let r : P x × AllByRecursion P (xs ++ ys) = all_out P xs x ys h.1 in (r.0, (h.0, r.1))

all_in : {X : Type 0} (P : X → Type 0) (xs : List X) (x : X) (ys : List X) → P x → AllByRecursion P (xs ++ ys) → AllByRecursion P (xs ++ x ∷ ys)
all_in P [] x ys p h = (p, h)
all_in P (z ∷ xs) x ys p h = (h.0, all_in P xs x ys p h.1)

-- the head of what is asked, found among the deeds
taken : {Op Ans : Type 0} (same : Op → Op → Bool) (In : Op → Type 0) → IsTest same In → (x : Op) (xs : List Op) (ds : List (Deed Op Ans)) → In x → AllByRecursion (λ (d : Deed Op Ans). In d.op) ds → Shuffled (x ∷ xs) (ops_of ds)
    → (e : Deed Op Ans) × (e.op ≡ x) × (s : Split ds e) × Shuffled xs (ops_of (s.front ++ s.rest))
taken {Op} {Ans} same In test x xs ds io id h =
    let w : Op → ℕ = λ (y : Op). one_if (same x y) in
    let one : w x ≡ 1 = ap (λ (b : Bool). one_if b) (test.itself x) in
    let r : (e : Deed Op Ans) × (e.op ≡ x) × Split ds e = found_in same In test x ds io id (weigh w xs) (let k : w x + weigh w xs ≡ weigh w (ops_of ds) = h w in omega arith) in (
      r.0,
      r.1,
      r.2,
      λ v.
          let all : v x + weigh v xs ≡ weigh v (ops_of ds) = h v in
          let is : weigh v (ops_of ds) ≡ v x + weigh v (ops_of (r.2.front ++ r.2.rest)) =
          ap (λ (es : List (Deed Op Ans)). weigh v (ops_of es)) r.2.is
          ∙ ap (weigh v) (ops_append r.2.front (r.0 ∷ r.2.rest))
          ∙ weigh_out v (ops_of r.2.front) r.0.op (ops_of r.2.rest)
          ∙ ap (λ (ops : List Op). v r.0.op + weigh v ops) (sym (ops_append r.2.front r.2.rest))
          ∙ ap (λ (y : Op). v y + weigh v (ops_of (r.2.front ++ r.2.rest))) r.1 in
          omega arith,
    )

none_left : {Op Ans : Type 0} (ds : List (Deed Op Ans)) → Shuffled [] (ops_of ds) → ds ≡ []
none_left [] h = refl
none_left {Op} (d ∷ ds) h = let k : 0 ≡ 1 + weigh (λ (x : Op). 1) (ops_of ds) = h (λ x. 1) in absurd (omega arith)

-- what holds of all that is asked holds of all that was done
all_shuffled : {Op Ans : Type 0} (same : Op → Op → Bool) (In : Op → Type 0) → IsTest same In → (P : Op → Type 0) (xs : List Op) (ds : List (Deed Op Ans)) → AllByRecursion In xs → AllByRecursion (λ (d : Deed Op Ans). In d.op) ds → Shuffled xs (ops_of ds) → AllByRecursion P xs → AllByRecursion (λ (d : Deed Op Ans). P d.op) ds
all_shuffled {Op} {Ans} same In test P [] ds io id h all = subst (λ (es : List (Deed Op Ans)). AllByRecursion (λ (d : Deed Op Ans). P d.op) es) (sym (none_left ds h)) tt
all_shuffled {Op} {Ans} same In test P (x ∷ xs) ds io id h all =
    let r = taken same In test x xs ds io.0 id h in
    let inside = all_out (λ (d : Deed Op Ans). In d.op) r.2.front r.0 r.2.rest (subst (AllByRecursion (λ (d : Deed Op Ans). In d.op)) r.2.is id) in
    subst (λ (es : List (Deed Op Ans)). AllByRecursion (λ (d : Deed Op Ans). P d.op) es) (sym r.2.is)
    (all_in (λ (d : Deed Op Ans). P d.op) r.2.front r.0 r.2.rest (subst P (sym r.1) all.0) (all_shuffled same In test P xs (r.2.front ++ r.2.rest) io.1 inside.1 r.3 all.1))

-- ---- in order

module _ {Op Ans : Type 0} (means : Meaning Op Ans) (Sound : Images → Type 0) (Lies : Op → Type 0) (Apart : Op → Op → Type 0) (law : Commute means Sound Lies Apart) (Before : Op → Op → Type 0) where
  -- a deed stands first, where all before it are apart from it
  to_front : (xs : List (Deed Op Ans)) (d : Deed Op Ans) (ys : List (Deed Op Ans)) (before after : Images) → Sound before → Lies d.op → AllByRecursion (λ (x : Deed Op Ans). Lies x.op) xs → AllByRecursion (λ (x : Deed Op Ans). Apart x.op d.op) xs → Happen means (xs ++ d ∷ ys) before after → Happen means (d ∷ xs ++ ys) before after
  to_front [] d ys before after sound ld lies apart h = h
  to_front (x ∷ xs) d ys before after sound ld lies apart h =
      let k : Happen means (d ∷ xs ++ ys) (means x.op before).images after = to_front xs d ys (means x.op before).images after (law.sound x.op before sound lies.0) ld lies.1 apart.1 h.1 in
      let turned : Apart d.op x.op = law.turned x.op d.op apart.0 in (
        sym (law.answer x.op d.op before apart.0 sound lies.0 ld) ∙ k.0,
        (
          law.answer d.op x.op before turned sound ld lies.0 ∙ h.0,
          subst (λ (i : Images). Happen means (xs ++ ys) i after) (law.images x.op d.op before apart.0 sound lies.0 ld) k.1,
        ),
      )

  order_out : (xs : List (Deed Op Ans)) (d : Deed Op Ans) (ys : List (Deed Op Ans)) → InOrder Before Apart (xs ++ d ∷ ys) → InOrder Before Apart (xs ++ ys)
  order_out [] d ys h = h.1
  order_out (x ∷ xs) d ys h = ((all_out (λ (e : Deed Op Ans). Before e.op x.op → Apart x.op e.op) xs d ys h.0).1, order_out xs d ys h.1)

  front_apart : (xs : List (Deed Op Ans)) (d : Deed Op Ans) (ys : List (Deed Op Ans)) → InOrder Before Apart (xs ++ d ∷ ys) → AllByRecursion (λ (x : Deed Op Ans). Before d.op x.op) (xs ++ ys) → AllByRecursion (λ (x : Deed Op Ans). Apart x.op d.op) xs
  front_apart [] d ys h k = tt
  front_apart (x ∷ xs) d ys h k =
      ((all_out (λ (e : Deed Op Ans). Before e.op x.op → Apart x.op e.op) xs d ys h.0).0 k.0, front_apart xs d ys h.1 k.1)

  all_left : (P : Deed Op Ans → Type 0) (xs ys : List (Deed Op Ans)) → AllByRecursion P (xs ++ ys) → AllByRecursion P xs
  all_left P [] ys h = tt
  all_left P (x ∷ xs) ys h = (h.0, all_left P xs ys h.1)

  -- What was done is what is asked, each as often, and in order: so it happens as it is asked.
  pub happen_as_asked : (same : Op → Op → Bool) (In : Op → Type 0) → IsTest same In → (o : Oracle Op Ans) (ops : List Op) (ds : List (Deed Op Ans)) (before after : Images)
      → AllByRecursion In ops → AllByRecursion (λ (d : Deed Op Ans). In d.op) ds → Shuffled ops (ops_of ds) → Agrees o ds → Ascends Before ops → InOrder Before Apart ds → AllByRecursion (λ (d : Deed Op Ans). Lies d.op) ds → Sound before → Happen means ds before after → Happen means (deeds_as o ops) before after
  happen_as_asked same In test o [] ds before after io id shuffled agrees ascends order lies sound h =
      subst (λ (es : List (Deed Op Ans)). Happen means es before after) (none_left ds shuffled) h
  happen_as_asked same In test o (x ∷ xs) ds before after io id shuffled agrees ascends order lies sound h =
      let r = taken same In test x xs ds io.0 id shuffled in
      let d : Deed Op Ans = r.0 in
      let front : List (Deed Op Ans) = r.2.front in
      let rest : List (Deed Op Ans) = r.2.rest in
      let is : ds ≡ front ++ d ∷ rest = r.2.is in
      let inside = all_out (λ (e : Deed Op Ans). In e.op) front d rest (subst (AllByRecursion (λ (e : Deed Op Ans). In e.op)) is id) in
      let agree = all_out (λ (e : Deed Op Ans). o.answer e.op ≡ e.answer) front d rest (subst (Agrees o) is agrees) in
      let lie = all_out (λ (e : Deed Op Ans). Lies e.op) front d rest (subst (AllByRecursion (λ (e : Deed Op Ans). Lies e.op)) is lies) in
      let ordered : InOrder Before Apart (front ++ d ∷ rest) = subst (InOrder Before Apart) is order in
      let later : AllByRecursion (λ (e : Deed Op Ans). Before d.op e.op) (front ++ rest) =
      subst (λ (y : Op). AllByRecursion (λ (e : Deed Op Ans). Before y e.op) (front ++ rest)) (sym r.1) (all_shuffled same In test (Before x) xs (front ++ rest) io.1 inside.1 r.3 ascends.0) in
      let apart : AllByRecursion (λ (e : Deed Op Ans). Apart e.op d.op) front = front_apart front d rest ordered later in
      let k : Happen means (d ∷ front ++ rest) before after =
      to_front front d rest before after sound lie.0 (all_left (λ (e : Deed Op Ans). Lies e.op) front rest lie.1) apart (subst (λ (es : List (Deed Op Ans)). Happen means es before after) is h) in
      let now : Happen means (deeds_as o xs) (means d.op before).images after =
      happen_as_asked same In test o xs (front ++ rest) (means d.op before).images after io.1 inside.1 r.3 agree.1 ascends.1 (order_out front d rest ordered) lie.1 (law.sound d.op before sound lie.0) k.1 in
      let answer : (means d.op before).value ≡ o.answer d.op = k.0 ∙ sym agree.0 in
      subst (λ (y : Op). ((means y before).value ≡ o.answer y) × Happen means (deeds_as o xs) (means y before).images after) r.1 (answer, now)
