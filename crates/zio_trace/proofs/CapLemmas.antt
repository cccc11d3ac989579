-- A round asks for each key once at most.
use Rattle.std.proofs.Common.{◌≡◌, ℕ, suc, ◌+◌, ◌≤◌, true, false, List, [], ◌∷◌, ◌++◌, inl, inr, refl, sym, ap, subst, arith}
use Rattle.zio_trace.specs.Keys.{Capped}
use Rattle.zio_trace.specs.Labels.{Labelled, labelled, ways_at}
use Rattle.zio_trace.specs.Oracles.{Ways, Oracle, IsOracle, heard, asked_in, weigh}
use Rattle.zio_trace.specs.Programs.{Program, Ends, Asks, ◌>>=◌}
use Rattle.zio_trace.specs.Traces.{Mentions, Grounded, Bottom, Above, AsksOnly}

pub weigh_append : {X : Type 0} (w : X → ℕ) (xs ys : List X) → weigh w (xs ++ ys) ≡ weigh w xs + weigh w ys
weigh_append w [] ys = omega arith
weigh_append w (x ∷ xs) ys = let e : weigh w (xs ++ ys) ≡ weigh w xs + weigh w ys = weigh_append w xs ys in omega arith

module _ {Op Ans : Type 0} (Fits : Op → Ans → Type 0) (most : Op → ℕ) where
  pub capped-more : {A : Type 0} (Q : A → Type 0) (n m : ℕ) (p : Program Op Ans A) → n ≤ m → Capped Fits most Q n p → Capped Fits most Q m p
  capped-more Q n m (Ends a) l h = h
  capped-more Q n m (Asks op more) l h = (h.0, (let k : most op + h.0 ≤ n = h.1 in omega arith), h.2)

  pub capped-then : {A B : Type 0} (Q : A → Type 0) (R : B → Type 0) (n m : ℕ) (p : Program Op Ans A) (next : A → Program Op Ans B) → Capped Fits most Q n p → ((a : A) → Q a → Capped Fits most R m (next a)) → Capped Fits most R (n + m) (p >>= next)
  capped-then Q R n m (Ends a) next h k = capped-more R m (n + m) (next a) (omega arith) (k a h)
  capped-then Q R n m (Asks op more) next h k =
      (h.0 + m, (let l : most op + h.0 ≤ n = h.1 in omega arith), λ answer fits. capped-then Q R h.0 m (more answer) next (h.2 answer fits) k)

  pub idle : {A : Type 0} (Q : A → Type 0) (n : ℕ) (p : Program Op Ans A) → AsksOnly (λ (op : Op). most op ≡ 0) p → ((a : A) → Q a) → Capped Fits most Q n p
  idle Q n (Ends a) h k = k a
  idle Q n (Asks op more) h k = (n, (let e : most op ≡ 0 = h.0 in omega arith), λ answer fits. idle Q n (more answer) (h.1 answer) k)

  module _ (w : Labelled Op → ℕ) (o : Oracle (Labelled Op) Ans) where
    abbrev Kept : Labelled Op → Type 0
    Kept x = (weigh w (o.asked x) ≤ most x.op) × Fits x.op (o.answer x)

    pub program_capped : {A : Type 0} (Q : A → Type 0) (at : List ℕ) (m n : ℕ) (p : Program Op Ans A) → Capped Fits most Q n p → ((q : Labelled Op) → Mentions p q.op → Kept q)
        → (weigh w (asked_in o (labelled at m p)) ≤ n) × Q (heard o (labelled at m p))
    program_capped Q at m n (Ends a) h k = (omega arith, h)
    program_capped Q at m n (Asks op more) h k =
        let x : Labelled Op = record { at = at ++ m ∷ []; op = op } in
        let first : Kept x = k x (inl refl) in
        let later = program_capped Q at (suc m) h.0 (more (o.answer x)) (h.2 (o.answer x) first.1) (λ q e. k q (inr (o.answer x, e))) in
        let both : weigh w (o.asked x ++ asked_in o (labelled at (suc m) (more (o.answer x)))) ≡ weigh w (o.asked x) + weigh w (asked_in o (labelled at (suc m) (more (o.answer x)))) = weigh_append w (o.asked x) (asked_in o (labelled at (suc m) (more (o.answer x)))) in
        let a : weigh w (o.asked x) ≤ most op = first.0 in
        let b : weigh w (asked_in o (labelled at (suc m) (more (o.answer x)))) ≤ h.0 = later.0 in
        let c : most op + h.0 ≤ n = h.1 in
        (omega arith, later.1)

    pub op_capped : (ways : Ways Op Ans) → IsOracle (ways_at ways) o → ((op : Op) → ways.single op ≡ false → Capped Fits most (Fits op) (most op) (ways.plan op))
        → ((x : Labelled Op) → ways.single x.op ≡ true → (w x ≤ most x.op) × Fits x.op (o.answer x))
        → (op : Op) → Grounded ways.plan ways.single op → (at : List ℕ) → Kept (record { at = at; op = op })
    op_capped ways is law deeds op (Bottom e) at =
        let x : Labelled Op = record { at = at; op = op } in
        let h = deeds x e in
        let all : weigh w (o.asked x) ≡ w x + 0 = ap (weigh w) (is.itself x e) in
        let some : w x ≤ most op = h.0 in
        (omega arith, h.1)
    op_capped ways is law deeds op (Above e below) at =
        let x : Labelled Op = record { at = at; op = op } in
        let h = program_capped (Fits op) at 0 (most op) (ways.plan op) (law op e) (λ q m. op_capped ways is law deeds q.op (below q.op m) q.at) in
        let all : weigh w (o.asked x) ≡ weigh w (asked_in o (labelled at 0 (ways.plan op))) = ap (weigh w) (is.asked x e) in
        let some : weigh w (asked_in o (labelled at 0 (ways.plan op))) ≤ most op = h.0 in
        (omega arith, subst (Fits op) (sym (is.answer x e)) h.1)
