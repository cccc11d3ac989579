-- Steps of programs under an oracle.
use Rattle.std.proofs.Common.{◌≡◌, ℕ, zero, suc, ◌<◌, ◌≤◌, List, ◌++◌, Some, refl, sym, ap, ◌∙◌, arith}
use Rattle.zio_trace.specs.Programs.{Program, Ends, Asks}
use Rattle.zio_trace.specs.Calls.{answered_at}
use Rattle.zio_trace.specs.Oracles.{Oracle, heard, asked_in}
use Rattle.zio_trace.specs.Going.{nth_asked, asked_behind}

pub behind_none : {Op Ans A : Type 0} (o : Oracle Op Ans) (p : Program Op Ans A) → asked_behind o 0 p ≡ asked_in o p
behind_none o (Ends a) = refl
behind_none o (Asks op more) = refl

-- the next goes out
pub behind_next : {Op Ans A : Type 0} (o : Oracle Op Ans) (n : ℕ) (p : Program Op Ans A) (x : Op) → nth_asked o n p ≡ Some x → asked_behind o n p ≡ o.asked x ++ asked_behind o (suc n) p
behind_next o n (Ends a) x h = absurd (cc)
behind_next o zero (Asks op more) x h =
    let e : op ≡ x = cc in
    ap (λ (xs : List _). o.asked op ++ xs) (sym (behind_none o (more (o.answer op)))) ∙ ap (λ (y : _). o.asked y ++ asked_behind o 0 (more (o.answer op))) e
behind_next o (suc n) (Asks op more) x h = behind_next o n (more (o.answer op)) x h

-- one that is out is answered
pub heard_answered : {Op Ans A : Type 0} (o : Oracle Op Ans) (n : ℕ) (v : Ans) (p : Program Op Ans A) (x : Op) → nth_asked o n p ≡ Some x → o.answer x ≡ v → heard o (answered_at n v p) ≡ heard o p
heard_answered o n v (Ends a) x h e = refl
heard_answered o zero v (Asks op more) x h e =
    let is : op ≡ x = cc in
    ap (λ (w : _). heard o (more w)) (sym e ∙ ap (λ (y : _). o.answer y) (sym is))
heard_answered o (suc n) v (Asks op more) x h e = heard_answered o n v (more (o.answer op)) x h e

pub behind_answered : {Op Ans A : Type 0} (o : Oracle Op Ans) (n m : ℕ) (v : Ans) (p : Program Op Ans A) (x : Op) → nth_asked o n p ≡ Some x → o.answer x ≡ v → n ≤ m → asked_behind o m (answered_at n v p) ≡ asked_behind o (suc m) p
behind_answered o n m v (Ends a) x h e le = refl
behind_answered o zero m v (Asks op more) x h e le =
    let is : op ≡ x = cc in
    ap (λ (w : _). asked_behind o m (more w)) (sym e ∙ ap (λ (y : _). o.answer y) (sym is))
behind_answered o (suc n) zero v (Asks op more) x h e le = absurd (omega arith)
behind_answered o (suc n) (suc m) v (Asks op more) x h e le = behind_answered o n m v (more (o.answer op)) x h e (omega arith)

-- those before it stay, those behind move up
pub nth_before : {Op Ans A : Type 0} (o : Oracle Op Ans) (n k : ℕ) (v : Ans) (p : Program Op Ans A) → k < n → nth_asked o k (answered_at n v p) ≡ nth_asked o k p
nth_before o n k v (Ends a) h = refl
nth_before o zero k v (Asks op more) h = absurd (omega arith)
nth_before o (suc n) zero v (Asks op more) h = refl
nth_before o (suc n) (suc k) v (Asks op more) h = nth_before o n k v (more (o.answer op)) (omega arith)

pub nth_behind : {Op Ans A : Type 0} (o : Oracle Op Ans) (n k : ℕ) (v : Ans) (p : Program Op Ans A) (x : Op) → nth_asked o n p ≡ Some x → o.answer x ≡ v → n ≤ k → nth_asked o k (answered_at n v p) ≡ nth_asked o (suc k) p
nth_behind o n k v (Ends a) x h e le = absurd (cc)
nth_behind o zero k v (Asks op more) x h e le =
    let is : op ≡ x = cc in
    ap (λ (w : _). nth_asked o k (more w)) (sym e ∙ ap (λ (y : _). o.answer y) (sym is))
nth_behind o (suc n) zero v (Asks op more) x h e le = absurd (omega arith)
nth_behind o (suc n) (suc k) v (Asks op more) x h e le = nth_behind o n k v (more (o.answer op)) x h e (omega arith)
