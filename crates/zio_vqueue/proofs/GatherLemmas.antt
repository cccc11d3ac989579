-- Runs that grow by one operation at either end.
use Rattle.std.proofs.Common.{◌≡◌, ℕ, ◌+◌, ◌≤◌, List, [], ◌∷◌, ◌++◌, Bool, true, false, cond, refl, sym, ap, ◌∙◌, arith, filter, reverse, IsTrue, true≢false, subst, append_assoc, append-nil}
use Rattle.std.proofs.lemmas.List.{reverse-append}
use Rattle.std.proofs.lemmas.List.Elements.{All-cons, All-head, All-tail}
use Rattle.std.specs.Map.{values_of}
use Rattle.zio_vqueue.specs.declared.op.Op.{Op}
use Rattle.zio_vqueue.specs.declared.spots.Spot.{Spot}
use Rattle.zio_vqueue.specs.Queues.{FitsDevice, end_of}
use Rattle.zio_vqueue.specs.Groups.{Follows, IsChain, IsRun, last_of, span_max}
use Rattle.zio_vqueue.specs.Spots.{AllFit, IsLowOf, IsRising, IsRunAbove, IsRunBelow}

-- ---- lists that end with one more

pub reverse_push : {X : Type 0} (xs : List X) (x : X) → reverse (xs ++ x ∷ []) ≡ x ∷ reverse xs
reverse_push xs x = reverse-append xs (x ∷ [])

pub reverse_grown : {X : Type 0} (ys xs : List X) (x : X) → ys ≡ xs ++ x ∷ [] → reverse ys ≡ x ∷ reverse xs
reverse_grown ys xs x e = ap reverse e ∙ reverse_push xs x

pub nil_no_push : {X : Type 0} (xs : List X) (x : X) → [] ≡ xs ++ x ∷ [] → ⊥
nil_no_push [] x e = cc
nil_no_push (y ∷ ys) x e = cc

tail_of : {X : Type 0} → List X → List X
tail_of [] = []
tail_of (x ∷ xs) = xs

pub push_same : {X : Type 0} (xs ys : List X) (x y : X) → xs ++ x ∷ [] ≡ ys ++ y ∷ [] → x ≡ y
push_same [] [] x y e = cc
push_same [] (b ∷ []) x y e = absurd (cc)
push_same [] (b ∷ c ∷ bs) x y e = absurd (cc)
push_same (a ∷ []) [] x y e = absurd (cc)
push_same (a ∷ c ∷ us) [] x y e = absurd (cc)
push_same (a ∷ us) (b ∷ bs) x y e = push_same us bs x y (cc)

pub values-append : {K : Type 0} (xs ys : List (K × Op)) → values_of (xs ++ ys) ≡ values_of xs ++ values_of ys
values-append [] ys = refl
values-append (x ∷ xs) ys = ap (λ r. x.1 ∷ r) (values-append xs ys)

-- ---- all operations end on the device

pub AllFit-front : (xs ys : List (Spot × Op)) → AllFit (xs ++ ys) → AllFit xs
AllFit-front [] ys h = λ k d l. absurd (omega arith)
AllFit-front (x ∷ xs) ys h =
    All-cons FitsDevice x.1 (values_of xs) (All-head FitsDevice x.1 (values_of (xs ++ ys)) h) (AllFit-front xs ys (All-tail FitsDevice x.1 (values_of (xs ++ ys)) h))

pub AllFit-last : (xs : List (Spot × Op)) (y : Spot × Op) → AllFit (xs ++ y ∷ []) → FitsDevice y.1
AllFit-last [] y h = All-head FitsDevice y.1 [] h
AllFit-last (x ∷ xs) y h = AllFit-last xs y (All-tail FitsDevice x.1 (values_of (xs ++ y ∷ [])) h)

pub AllFit-head : (y : Spot × Op) (ys : List (Spot × Op)) → AllFit (y ∷ ys) → FitsDevice y.1
AllFit-head y ys h = All-head FitsDevice y.1 (values_of ys) h

pub AllFit-tail : (y : Spot × Op) (ys : List (Spot × Op)) → AllFit (y ∷ ys) → AllFit ys
AllFit-tail y ys h = All-tail FitsDevice y.1 (values_of ys) h

pub AllFit-filter : (p : Spot × Op → Bool) (xs : List (Spot × Op)) → AllFit xs → AllFit (filter p xs)
AllFit-filter p [] h = h
AllFit-filter p (x ∷ xs) h = go (p x) refl (AllFit-filter p xs (All-tail FitsDevice x.1 (values_of xs) h))
  where
    go : (b : Bool) → p x ≡ b → AllFit (filter p xs) → AllFit (cond b (x ∷ filter p xs) (filter p xs))
    go true e rest = All-cons FitsDevice x.1 (values_of (filter p xs)) (All-head FitsDevice x.1 (values_of xs) h) rest
    go false e rest = rest

-- ---- one more below

last_of-push : (o x : Op) (os : List Op) → last_of o (os ++ x ∷ []) ≡ x
last_of-push o x [] = refl
last_of-push o x (p ∷ ps) = last_of-push p x ps

pub run_below : (gap low : ℕ) (o first : Op) (os : List Op) → IsLowOf low os first → end_of o ≤ low → low ≤ end_of o + gap → end_of first ≤ o.at + span_max →
    IsRun gap (os ++ first ∷ []) → IsRun gap (o ∷ os ++ first ∷ [])
run_below gap low o first [] is before near span run = (((omega (arith, is), omega (arith, is)), tt), span)
run_below gap low o first (p ∷ ps) is before near span run =
    (((omega (arith, is), omega (arith, is)), run.0), omega (arith, span, ap end_of (last_of-push p first ps)))

pub run_below_back : (gap low : ℕ) (o first : Op) (os : List Op) → IsLowOf low os first → IsRun gap (o ∷ os ++ first ∷ []) →
    (end_of o ≤ low) × (low ≤ end_of o + gap) × (end_of first ≤ o.at + span_max)
run_below_back gap low o first [] is run = (omega (arith, is, run.0.0.0), omega (arith, is, run.0.0.1), run.1)
run_below_back gap low o first (p ∷ ps) is run =
    (omega (arith, is, run.0.0.0), omega (arith, is, run.0.0.1), omega (arith, run.1, ap end_of (last_of-push p first ps)))

pub low_below : (low : ℕ) (o first : Op) (os : List Op) → IsLowOf o.at (o ∷ os) first
low_below low o first os = refl

-- ---- one more above

chain_push : (gap : ℕ) (o x : Op) (os : List Op) → IsChain gap o os → Follows gap (last_of o os) x → IsChain gap o (os ++ x ∷ [])
chain_push gap o x [] chain next = (next, tt)
chain_push gap o x (p ∷ ps) chain next = (chain.0, chain_push gap p x ps chain.1 next)

chain_back : (gap : ℕ) (o x : Op) (os : List Op) → IsChain gap o (os ++ x ∷ []) → Follows gap (last_of o os) x
chain_back gap o x [] chain = chain.0
chain_back gap o x (p ∷ ps) chain = chain_back gap p x ps chain.1

pub run_above : (gap low high : ℕ) (head x : Op) (os : List Op) → low ≡ head.at → high ≡ end_of (last_of head os) →
    high ≤ x.at → x.at ≤ high + gap → end_of x ≤ low + span_max → IsRun gap (head ∷ os) → IsRun gap (head ∷ (os ++ x ∷ []))
run_above gap low high head x [] le he before near span run = (((omega (arith, he), omega (arith, he)), tt), omega (arith, le))
run_above gap low high head x (p ∷ ps) le he before near span run =
    ((run.0.0, chain_push gap p x ps run.0.1 (omega (arith, he), omega (arith, he))), omega (arith, le, ap end_of (last_of-push p x ps)))

pub run_above_back : (gap low high : ℕ) (head x : Op) (os : List Op) → low ≡ head.at → high ≡ end_of (last_of head os) →
    IsRun gap (head ∷ (os ++ x ∷ [])) → (high ≤ x.at) × (x.at ≤ high + gap) × (end_of x ≤ low + span_max)
run_above_back gap low high head x [] le he run = (omega (arith, he, run.0.0.0), omega (arith, he, run.0.0.1), omega (arith, le, run.1))
run_above_back gap low high head x (p ∷ ps) le he run =
    let f = chain_back gap p x ps run.0.1 in
    (omega (arith, he, f.0), omega (arith, he, f.1), omega (arith, le, run.1, ap end_of (last_of-push p x ps)))

pub last_above : (head x : Op) (os : List Op) → end_of x ≡ end_of (last_of head (os ++ x ∷ []))
last_above head x os = sym (ap end_of (last_of-push head x os))

-- ---- what a walk has found and has left

pub parts_below : (fs it t r rs : List (Spot × Op)) (e : Spot × Op) → fs ≡ it ++ r → it ≡ t ++ e ∷ [] → rs ≡ e ∷ r → fs ≡ t ++ rs
parts_below fs it t r rs e whole step more = whole ∙ ap (λ x. x ++ r) step ∙ append_assoc t (e ∷ []) r ∙ ap (λ x. t ++ x) (sym more)

pub below_done : (gap : ℕ) (first : Op) (fs it r : List (Spot × Op)) → fs ≡ it ++ r → it ≡ [] → IsRun gap (values_of r ++ first ∷ []) → IsRunBelow gap first fs r
below_done gap first fs it r whole empty run = record {
  left = it;
  parts = whole;
  run = run;
  stop = λ rest f e longer. nil_no_push rest f (sym empty ∙ e);
}

pub below_stopped : (gap low : ℕ) (first : Op) (fs it t r : List (Spot × Op)) (e : Spot × Op) → fs ≡ it ++ r → it ≡ t ++ e ∷ [] →
    IsRun gap (values_of r ++ first ∷ []) → IsLowOf low (values_of r) first →
    ((end_of e.1 ≤ low) × (low ≤ end_of e.1 + gap) × (end_of first ≤ (e.1).at + span_max) → ⊥) → IsRunBelow gap first fs r
below_stopped gap low first fs it t r e whole step run is never = record {
  left = it;
  parts = whole;
  run = run;
  stop = λ rest f g longer.
      let same : e ≡ f = push_same t rest e f (sym step ∙ g) in
      never (run_below_back gap low e.1 first (values_of r) is (subst (λ (x : Spot × Op). IsRun gap (x.1 ∷ values_of r ++ first ∷ [])) (sym same) longer));
}

pub true_not_false : (b : Bool) → IsTrue b → b ≡ false → ⊥
true_not_false true t e = true≢false e
true_not_false false t e = absurd (true≢false (sym t))

pub rising_start : (gap low high : ℕ) (first : Op) (from : Spot) (lower members fs it : List (Spot × Op)) → IsLowOf low (values_of lower) first → high ≡ end_of first →
    IsRun gap (values_of lower ++ first ∷ []) → members ≡ lower ++ (from, first) ∷ [] → it ≡ fs → IsRising gap low high members fs members it
rising_start gap low high first from [] members fs it is top run made whole = record {
  more = [];
  head = first;
  others = [];
  found_is = sym (append-nil members);
  parts = sym whole;
  values = ap values_of made;
  run = run;
  low_is = is;
  high_is = top;
}
rising_start gap low high first from (l ∷ ls) members fs it is top run made whole = record {
  more = [];
  head = l.1;
  others = values_of ls ++ first ∷ [];
  found_is = sym (append-nil members);
  parts = sym whole;
  values = ap values_of made ∙ values-append (l ∷ ls) ((from, first) ∷ []);
  run = run;
  low_is = is;
  high_is = top ∙ last_above l.1 first (values_of ls);
}

pub rising_more : (gap low high : ℕ) (members fs found it t grown : List (Spot × Op)) (e : Spot × Op) → IsRising gap low high members fs found it → it ≡ e ∷ t →
    grown ≡ found ++ e ∷ [] → high ≤ (e.1).at → (e.1).at ≤ high + gap → end_of e.1 ≤ low + span_max → IsRising gap low (end_of e.1) members fs grown t
rising_more gap low high members fs found it t grown e r step made after near span = record {
  more = r.more ++ e ∷ [];
  head = r.head;
  others = r.others ++ e.1 ∷ [];
  found_is = made ∙ ap (λ x. x ++ e ∷ []) r.found_is ∙ append_assoc members r.more (e ∷ []);
  parts = r.parts ∙ ap (λ x. r.more ++ x) step ∙ sym (append_assoc r.more (e ∷ []) t);
  values = ap values_of made ∙ values-append found (e ∷ []) ∙ ap (λ x. x ++ e.1 ∷ []) r.values;
  run = run_above gap low high r.head e.1 r.others r.low_is r.high_is after near span r.run;
  low_is = r.low_is;
  high_is = last_above r.head e.1 r.others;
}

pub above_done : (gap low high : ℕ) (members fs found it : List (Spot × Op)) → IsRising gap low high members fs found it → it ≡ [] → IsRunAbove gap members fs found
above_done gap low high members fs found it r empty = record {
  more = r.more;
  left = it;
  found_is = r.found_is;
  parts = r.parts;
  run = subst (IsRun gap) (sym r.values) r.run;
  stop = λ f rest e longer. nil_no_cons f rest (sym empty ∙ e);
}
  where
    nil_no_cons : (f : Spot × Op) (rest : List (Spot × Op)) → [] ≡ f ∷ rest → ⊥
    nil_no_cons f rest e = cc

head_same : {X : Type 0} (x y : X) (xs ys : List X) → x ∷ xs ≡ y ∷ ys → x ≡ y
head_same x y xs ys e = cc

pub above_stopped : (gap low high : ℕ) (members fs found it t : List (Spot × Op)) (e : Spot × Op) → IsRising gap low high members fs found it → it ≡ e ∷ t →
    ((high ≤ (e.1).at) × ((e.1).at ≤ high + gap) × (end_of e.1 ≤ low + span_max) → ⊥) → IsRunAbove gap members fs found
above_stopped gap low high members fs found it t e r step never = record {
  more = r.more;
  left = it;
  found_is = r.found_is;
  parts = r.parts;
  run = subst (IsRun gap) (sym r.values) r.run;
  stop = λ f rest g longer.
      let same : f ≡ e = sym (head_same e f t rest (sym step ∙ g)) in
      never (run_above_back gap low high r.head e.1 r.others r.low_is r.high_is
      (subst (λ (x : Spot × Op). IsRun gap (r.head ∷ (r.others ++ x.1 ∷ []))) same (subst (λ (vs : List Op). IsRun gap (vs ++ f.1 ∷ [])) r.values longer)));
}
