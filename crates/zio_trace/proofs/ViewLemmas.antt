-- What a node shows is what it stands for without places.
use Rattle.std.proofs.Common.{◌≡◌, ℕ, zero, suc, ◌≤◌, List, [], ◌∷◌, ◌++◌, length, Option, Some, refl, sym, ap, ◌∙◌, subst, arith}
use Rattle.zio_trace.specs.Programs.{Program, Ends, Asks}
use Rattle.zio_trace.specs.Calls.{NextIs, answered_at}
use Rattle.zio_trace.specs.Oracles.{Oracle}
use Rattle.zio_trace.specs.Labels.{Labelled, labelled}
use Rattle.zio_trace.specs.Going.{nth_asked}
use Rattle.zio_trace.specs.Views.{bare, left_behind, NumberedFrom, Out, StandFirst, ToldTrue, without, nth}

pub bare_labelled : {Op Ans A : Type 0} (at : List ℕ) (n : ℕ) (p : Program Op Ans A) → bare (labelled at n p) ≡ p
bare_labelled at n (Ends a) = refl
bare_labelled at n (Asks op more) = λ i. Asks op (λ answer. bare_labelled at (suc n) (more answer) i)

pub bare_answered : {Op Ans A : Type 0} (n : ℕ) (v : Ans) (p : Program (Labelled Op) Ans A) → bare (answered_at n v p) ≡ answered_at n v (bare p)
bare_answered n v (Ends a) = refl
bare_answered zero v (Asks x more) = refl
bare_answered (suc n) v (Asks x more) = λ i. Asks x.op (λ answer. bare_answered n v (more answer) i)

-- what ended without places ended
pub bare_ends : {Op Ans A : Type 0} (p : Program (Labelled Op) Ans A) (a : A) → bare p ≡ Ends a → p ≡ Ends a
bare_ends (Ends b) a h = let e : b ≡ a = cc in ap (λ (x : _). Ends x) e
bare_ends (Asks x more) a h = absurd (cc)

-- The next operation, whatever those that are out are answered, is the next under each oracle.
pub next_asked : {Op Ans Early A : Type 0} (early : Ans → Early) (o : Oracle (Labelled Op) Ans) (outs : List (Option Early)) (p : Program (Labelled Op) Ans A) (op : Op)
    → NextIs early outs (bare p) op → ToldTrue early o outs p → (x : Labelled Op) × (nth_asked o (length outs) p ≡ Some x) × (x.op ≡ op)
next_asked early o [] (Ends a) op h told = absurd h
next_asked early o (r ∷ outs) (Ends a) op h told = absurd h
next_asked early o [] (Asks x more) op h told = (x, refl, h)
next_asked early o (r ∷ outs) (Asks x more) op h told = next_asked early o outs (more (o.answer x)) op (h (o.answer x) told.0) told.1

-- and stands at the next number
pub next_at : {Op Ans A : Type 0} (o : Oracle (Labelled Op) Ans) (k : ℕ) (at : List ℕ) (n : ℕ) (p : Program (Labelled Op) Ans A) (x : Labelled Op)
    → NumberedFrom at n (left_behind o k p) → nth_asked o k p ≡ Some x → (x.at ≡ at ++ n ∷ []) × NumberedFrom at (suc n) (left_behind o (suc k) p)
next_at {Op} {Ans} {A} o zero at n (Ends a) x h e = absurd (cc)
next_at {Op} {Ans} {A} o zero at n (Asks y more) x h e = first h.0 h.1
  where
    first : (q : Program Op Ans A) → Asks y more ≡ labelled at n q → (x.at ≡ at ++ n ∷ []) × NumberedFrom at (suc n) (more (o.answer y))
    first (Ends a) k = absurd (cc)
    first (Asks op on) k =
        let is : y ≡ record { at = at ++ n ∷ []; op = op } = cc in
        let same : y ≡ x = cc in
        let rest : ◌≡◌ {A = Ans → Program (Labelled Op) Ans A} more (λ answer. labelled at (suc n) (on answer)) = cc in
        (ap (λ (z : Labelled Op). z.at) (sym same ∙ is), (on (o.answer y), λ i. rest i (o.answer y)))
next_at o (suc k) at n (Ends a) x h e = absurd (cc)
next_at o (suc k) at n (Asks y more) x h e = next_at o k at n (more (o.answer y)) x h e

pub behind_answer : {Op Ans A : Type 0} (o : Oracle Op Ans) (n m : ℕ) (v : Ans) (p : Program Op Ans A) (x : Op) → nth_asked o n p ≡ Some x → o.answer x ≡ v → n ≤ m → left_behind o m (answered_at n v p) ≡ left_behind o (suc m) p
behind_answer o n m v (Ends a) x h e le = absurd (cc)
behind_answer o zero m v (Asks op more) x h e le =
    let is : op ≡ x = cc in
    ap (λ (w : _). left_behind o m (more w)) (sym e ∙ ap (λ (y : _). o.answer y) (sym is))
behind_answer o (suc n) zero v (Asks op more) x h e le = absurd (omega arith)
behind_answer o (suc n) (suc m) v (Asks op more) x h e le = behind_answer o n m v (more (o.answer op)) x h e (omega arith)

-- ---- the calls that are out

pub stand_nth : {Op Ans Early A : Type 0} (o : Oracle (Labelled Op) Ans) (cs : List (Out Op Early)) (p : Program (Labelled Op) Ans A) (n : ℕ) (c : Out Op Early) → StandFirst o cs p → nth n cs ≡ Some c → nth_asked o n p ≡ Some c.op
stand_nth o [] p n c h e = absurd (cc)
stand_nth o (d ∷ cs) (Ends a) n c h e = absurd h
stand_nth o (d ∷ cs) (Asks x more) zero c h e = let is : d ≡ c = cc in ap (λ (y : Labelled _). Some y) (h.0 ∙ ap (λ (y : Out _ _). y.op) is)
stand_nth o (d ∷ cs) (Asks x more) (suc n) c h e = stand_nth o cs (more (o.answer x)) n c h.1 e

-- one more goes out
pub stand_more : {Op Ans Early A : Type 0} (o : Oracle (Labelled Op) Ans) (cs : List (Out Op Early)) (p : Program (Labelled Op) Ans A) (c : Out Op Early) → StandFirst o cs p → nth_asked o (length cs) p ≡ Some c.op → StandFirst o (cs ++ c ∷ []) p
stand_more o [] (Ends a) c h e = absurd (cc)
stand_more o [] (Asks x more) c h e = let is : x ≡ c.op = cc in (is, tt)
stand_more o (d ∷ cs) (Ends a) c h e = absurd h
stand_more o (d ∷ cs) (Asks x more) c h e = (h.0, stand_more o cs (more (o.answer x)) c h.1 e)

-- one is answered
pub stand_answered : {Op Ans Early A : Type 0} (o : Oracle (Labelled Op) Ans) (cs : List (Out Op Early)) (p : Program (Labelled Op) Ans A) (n : ℕ) (c : Out Op Early) (v : Ans) → StandFirst o cs p → nth n cs ≡ Some c → o.answer c.op ≡ v → StandFirst o (without n cs) (answered_at n v p)
stand_answered o [] p n c v h e a = tt
stand_answered o (d ∷ cs) (Ends x) n c v h e a = absurd h
stand_answered {Op} {Ans} {Early} o (d ∷ cs) (Asks x more) zero c v h e a =
    let is : d ≡ c = cc in
    let value : o.answer x ≡ v = ap (λ (y : Labelled Op). o.answer y) (h.0 ∙ ap (λ (y : Out Op Early). y.op) is) ∙ a in
    subst (λ (w : Ans). StandFirst o cs (more w)) value h.1
stand_answered o (d ∷ cs) (Asks x more) (suc n) c v h e a = (h.0, stand_answered o cs (more (o.answer x)) n c v h.1 e a)
