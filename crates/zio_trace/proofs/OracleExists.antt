-- There is an oracle, whatever the operations that are done at once answer.
use Rattle.std.proofs.Common.{◌≡◌, Bool, true, false, cond, List, [], ◌∷◌, ◌++◌, inl, inr, refl, ap, ◌∙◌}
use Rattle.std.specs.List.{AllByRecursion}
use Rattle.zio_trace.specs.Footprints.{Stays}
use Rattle.zio_trace.specs.Oracles.{Ways, Oracle, IsOracle, heard, asked_in, Agrees, AreOnce}
use Rattle.zio_trace.specs.Programs.{Program, Ends, Asks, Deed}
use Rattle.zio_trace.specs.Traces.{Mentions, Grounded, Bottom, Above}

abbrev Found : Type 0 → Type 0 → Type 0
Found Op Ans = Ans × List Op

abbrev add : {Op A : Type 0} → List Op → A × List Op → A × List Op
add ops r = (r.0, ops ++ r.1)

abbrev evaluate : {Op Ans A : Type 0} (p : Program Op Ans A) → ((q : Op) → Mentions p q → Found Op Ans) → A × List Op
evaluate (Ends a) f = (a, [])
evaluate (Asks op more) f =
    add (f op (inl refl)).1 (evaluate (more (f op (inl refl)).0) (λ q m. f q (inr ((f op (inl refl)).0, m))))

abbrev found : {Op Ans : Type 0} (ways : Ways Op Ans) (at : Op → Ans) (op : Op) → Grounded ways.plan ways.single op → Found Op Ans
found ways at op (Bottom e) = (at op, op ∷ [])
found ways at op (Above e below) = evaluate (ways.plan op) (λ q m. found ways at q (below q m))

found_same : {Op Ans : Type 0} (ways : Ways Op Ans) (at : Op → Ans) (op : Op) (g h : Grounded ways.plan ways.single op) → found ways at op g ≡ found ways at op h
found_same ways at op (Bottom e) (Bottom f) = refl
found_same ways at op (Bottom e) (Above f below) = absurd (cc)
found_same ways at op (Above e below) (Bottom f) = absurd (cc)
found_same ways at op (Above e below) (Above f under) = λ i. evaluate (ways.plan op) (λ q m. found_same ways at q (below q m) (under q m) i)

-- Whatever fitting answers come, each plan ends with an answer that fits.
abbrev pub PlansFit : {Op Ans : Type 0} → Ways Op Ans → (Op → Op → Type 0) → Type 0
PlansFit {Op} {Ans} ways Q = (op : Op) → Stays ways.Fits (Q op) (ways.Fits op) (ways.plan op)

evaluate_fits : {Op Ans A : Type 0} (ways : Ways Op Ans) (P : Op → Type 0) (Q : A → Type 0) (p : Program Op Ans A) (f : (q : Op) → Mentions p q → Found Op Ans) → Stays ways.Fits P Q p → ((q : Op) (m : Mentions p q) → ways.Fits q (f q m).0) → Q (evaluate p f).0
evaluate_fits ways P Q (Ends a) f h k = h
evaluate_fits ways P Q (Asks op more) f h k =
    let v : _ = (f op (inl refl)).0 in
    evaluate_fits ways P Q (more v) (λ q m. f q (inr (v, m))) (h.1 v (k op (inl refl))) (λ q m. k q (inr (v, m)))

found_fits : {Op Ans : Type 0} (ways : Ways Op Ans) (Q : Op → Op → Type 0) (at : Op → Ans) → PlansFit ways Q → ((op : Op) → ways.single op ≡ true → ways.Fits op (at op)) → (op : Op) (g : Grounded ways.plan ways.single op) → ways.Fits op (found ways at op g).0
found_fits ways Q at law fits op (Bottom e) = fits op e
found_fits ways Q at law fits op (Above e below) =
    evaluate_fits ways (Q op) (ways.Fits op) (ways.plan op) (λ q m. found ways at q (below q m)) (law op) (λ q m. found_fits ways Q at law fits q (below q m))

module _ {Op Ans : Type 0} (ways : Ways Op Ans) (ground : (op : Op) → Grounded ways.plan ways.single op) (at : Op → Ans) where
  abbrev pub oracle : Oracle Op Ans
  oracle = record { answer = λ op. (found ways at op (ground op)).0; asked = λ op. (found ways at op (ground op)).1 }

  all_heard : {A : Type 0} (p : Program Op Ans A) → ◌≡◌ {A = A × List Op} (evaluate p (λ q m. found ways at q (ground q))) (heard oracle p, asked_in oracle p)
  all_heard (Ends a) = refl
  all_heard (Asks op more) = ap (add (found ways at op (ground op)).1) (all_heard (more (found ways at op (ground op)).0))

  opened : (op : Op) (g : Grounded ways.plan ways.single op) → ways.single op ≡ false → ◌≡◌ {A = Ans × List Op} (found ways at op g) (heard oracle (ways.plan op), asked_in oracle (ways.plan op))
  opened op (Bottom e) h = absurd (cc)
  opened op (Above e below) h =
      (λ i. evaluate (ways.plan op) (λ q m. found_same ways at q (below q m) (ground q) i)) ∙ all_heard (ways.plan op)

  closed : (op : Op) (g : Grounded ways.plan ways.single op) → ways.single op ≡ true → ◌≡◌ {A = Ans × List Op} (found ways at op g) (at op, op ∷ [])
  closed op (Bottom e) h = refl
  closed op (Above e below) h = absurd (cc)

  pub oracle_is : (Q : Op → Op → Type 0) → PlansFit ways Q → ((op : Op) → ways.single op ≡ true → ways.Fits op (at op)) → IsOracle ways oracle
  oracle_is Q law fits = record {
    fits = λ op. found_fits ways Q at law fits op (ground op);
    itself = λ op h. ap (λ (r : Found Op Ans). r.1) (closed op (ground op) h);
    answer = λ op h. ap (λ (r : Found Op Ans). r.0) (opened op (ground op) h);
    asked = λ op h. ap (λ (r : Found Op Ans). r.1) (opened op (ground op) h);
  }

  pub oracle_at : (op : Op) → ways.single op ≡ true → oracle.answer op ≡ at op
  oracle_at op h = ap (λ (r : Found Op Ans). r.0) (closed op (ground op) h)

-- ---- the answers that were given, each made to fit

abbrev pub answer_in : {Op Ans : Type 0} → (Op → Op → Bool) → (Op → Ans) → List (Deed Op Ans) → Op → Ans
answer_in same other [] op = other op
answer_in same other (d ∷ ds) op = cond (same d.op op) d.answer (answer_in same other ds op)

module _ {Op Ans : Type 0} (same : Op → Op → Bool) (itself : (a : Op) → same a a ≡ true) (mend : Op → Ans → Ans) (other : Op → Ans) where
  given : (ds : List (Deed Op Ans)) → AreOnce same ds → AllByRecursion (λ (d : Deed Op Ans). answer_in same other ds d.op ≡ d.answer) ds
  given [] once = tt
  given (d ∷ ds) once = (
    ap (λ (b : Bool). cond b d.answer (answer_in same other ds d.op)) (itself d.op),
    later ds once.0 (given ds once.1),
  )
    where
      later : (es : List (Deed Op Ans)) → AllByRecursion (λ (e : Deed Op Ans). same d.op e.op ≡ false) es → AllByRecursion (λ (e : Deed Op Ans). answer_in same other ds e.op ≡ e.answer) es
          → AllByRecursion (λ (e : Deed Op Ans). answer_in same other (d ∷ ds) e.op ≡ e.answer) es
      later [] h k = tt
      later (e ∷ es) h k = (ap (λ (b : Bool). cond b d.answer (answer_in same other ds e.op)) h.0 ∙ k.0, later es h.1 k.1)

  abbrev pub oracle_of : (ways : Ways Op Ans) → ((op : Op) → Grounded ways.plan ways.single op) → List (Deed Op Ans) → Oracle Op Ans
  oracle_of ways ground ds = oracle ways ground (λ op. mend op (answer_in same other ds op))

  -- Some oracle agrees with deeds of operations that are done at once, none twice.
  pub oracle_agrees : (ways : Ways Op Ans) (ground : (op : Op) → Grounded ways.plan ways.single op) (ds : List (Deed Op Ans)) → AreOnce same ds → AllByRecursion (λ (d : Deed Op Ans). ways.single d.op ≡ true) ds → AllByRecursion (λ (d : Deed Op Ans). mend d.op d.answer ≡ d.answer) ds → Agrees (oracle_of ways ground ds) ds
  oracle_agrees ways ground ds once bottoms fit = each ds bottoms fit (given ds once)
    where
      each : (es : List (Deed Op Ans)) → AllByRecursion (λ (e : Deed Op Ans). ways.single e.op ≡ true) es → AllByRecursion (λ (e : Deed Op Ans). mend e.op e.answer ≡ e.answer) es → AllByRecursion (λ (e : Deed Op Ans). answer_in same other ds e.op ≡ e.answer) es → Agrees (oracle_of ways ground ds) es
      each [] h f k = tt
      each (e ∷ es) h f k = (oracle_at ways ground (λ op. mend op (answer_in same other ds op)) e.op h.0 ∙ ap (mend e.op) k.0 ∙ f.0, each es h.1 f.1 k.1)
