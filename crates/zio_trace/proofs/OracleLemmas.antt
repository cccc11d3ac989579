-- Oracles that agree with deeds, and what happens where an oracle's deeds happen.
use Rattle.std.proofs.Common.{◌≡◌, List, [], ◌∷◌, ◌++◌, inl, inr, refl, sym, ap, ◌∙◌, subst, append-nil, append_assoc}
use Rattle.zio_types.specs.Choices.{Ask}
use Rattle.zio_cksum.specs.Images.{Images}
use Rattle.zio_trace.specs.Oracles.{Ways, Oracle, IsOracle, heard, asked_in, Sure, deed_as, deeds_as}
use Rattle.zio_trace.specs.Programs.{Done, Meaning, Program, Ends, Asks, ◌>>=◌, behind, run, Deed, Happen, asks_of}
use Rattle.zio_trace.specs.Traces.{Mentions, Grounded, Bottom, Above}
use Rattle.zio_trace.proofs.ListLemmas.{all_front}
use Rattle.zio_trace.proofs.ProgramLemmas.{happen_apart}
use Rattle.zio_trace.proofs.TraceLemmas.{asks_append}

-- what is sure stays so
pub sure_more : {Op Ans : Type 0} (ways : Ways Op Ans) (P : Oracle Op Ans → Type 0) (ds es : List (Deed Op Ans)) → Sure ways ds P → Sure ways (ds ++ es) P
sure_more {Op} {Ans} ways P ds es h o is agrees = h o is (all_front (λ (d : Deed Op Ans). o.answer d.op ≡ d.answer) ds es agrees)

pub heard-then : {Op Ans A B : Type 0} (o : Oracle Op Ans) (p : Program Op Ans A) (next : A → Program Op Ans B) → heard o (p >>= next) ≡ heard o (next (heard o p))
heard-then o (Ends a) next = refl
heard-then o (Asks op more) next = heard-then o (more (o.answer op)) next

pub asked-then : {Op Ans A B : Type 0} (o : Oracle Op Ans) (p : Program Op Ans A) (next : A → Program Op Ans B) → asked_in o (p >>= next) ≡ asked_in o p ++ asked_in o (next (heard o p))
asked-then o (Ends a) next = refl
asked-then o (Asks op more) next =
    ap (λ (xs : List _). o.asked op ++ xs) (asked-then o (more (o.answer op)) next)
    ∙ sym (append_assoc (o.asked op) (asked_in o (more (o.answer op))) (asked_in o (next (heard o (more (o.answer op))))))

-- ---- an oracle's deeds

pub deeds_append : {Op Ans : Type 0} (o : Oracle Op Ans) (xs ys : List Op) → deeds_as o (xs ++ ys) ≡ deeds_as o xs ++ deeds_as o ys
deeds_append o [] ys = refl
deeds_append o (x ∷ xs) ys = ap (λ (ds : List (Deed _ _)). deed_as o x ∷ ds) (deeds_append o xs ys)

-- its deeds happened, so this is what is given
abbrev pub Gave : {Op Ans A : Type 0} → Meaning Op Ans → Oracle Op Ans → List Op → A → (Images → Done A) → Type 0
Gave means o ops value gives = (before after : Images) → Happen means (deeds_as o ops) before after → gives before ≡ record { value = value; asks = asks_of means (deeds_as o ops) before; images = after }

-- one part after another
both_gave : {Op Ans A : Type 0} (means : Meaning Op Ans) (o : Oracle Op Ans) (op : Op) (more : Ans → Program Op Ans A)
    → Gave means o (o.asked op) (o.answer op) (means op) → Gave means o (asked_in o (more (o.answer op))) (heard o (more (o.answer op))) (run means (more (o.answer op)))
    → Gave means o (asked_in o (Asks op more)) (heard o (Asks op more)) (run means (Asks op more))
both_gave means o op more first rest before after h =
    let xs : List _ = o.asked op in
    let ys : List _ = asked_in o (more (o.answer op)) in
    let split : Happen means (deeds_as o xs ++ deeds_as o ys) before after = subst (λ (ds : List (Deed _ _)). Happen means ds before after) (deeds_append o xs ys) h in
    let cut = happen_apart means (deeds_as o xs) (deeds_as o ys) before after split in
    let asks : asks_of means (deeds_as o (xs ++ ys)) before ≡ asks_of means (deeds_as o xs) before ++ asks_of means (deeds_as o ys) cut.0 =
    ap (λ (ds : List (Deed _ _)). asks_of means ds before) (deeds_append o xs ys) ∙ asks_append means (deeds_as o xs) (deeds_as o ys) before cut.0 cut.1 in
    ap (λ (d : Done _). behind d.asks (run means (more d.value) d.images)) (first before cut.0 cut.1)
    ∙ ap (behind (asks_of means (deeds_as o xs) before)) (rest cut.0 after cut.2)
    ∙ ap (λ (bs : List Ask). record { value = heard o (more (o.answer op)); asks = bs; images = after }) (sym asks)

pub program_gave : {Op Ans A : Type 0} (means : Meaning Op Ans) (o : Oracle Op Ans) (p : Program Op Ans A) → ((q : Op) → Mentions p q → Gave means o (o.asked q) (o.answer q) (means q)) → Gave means o (asked_in o p) (heard o p) (run means p)
program_gave means o (Ends a) h = λ before after k. ap (λ (i : Images). record { value = a; asks = []; images = i }) k
program_gave means o (Asks op more) h =
    both_gave means o op more (h op (inl refl)) (program_gave means o (more (o.answer op)) (λ q m. h q (inr (o.answer op, m))))

one_gave : {Op Ans : Type 0} (means : Meaning Op Ans) (o : Oracle Op Ans) (op : Op) → Gave means o (op ∷ []) (o.answer op) (means op)
one_gave means o op before after h =
    λ i. record { value = h.0 i; asks = sym (append-nil (means op before).asks) i; images = h.1 i }

-- what an operation comes to happens, so it gives its answer
pub op_gave : {Op Ans : Type 0} (ways : Ways Op Ans) (means : Meaning Op Ans) (o : Oracle Op Ans) → IsOracle ways o → ((op : Op) (images : Images) → run means (ways.plan op) images ≡ means op images) → (op : Op) → Grounded ways.plan ways.single op → Gave means o (o.asked op) (o.answer op) (means op)
op_gave ways means o is law op (Bottom e) =
    subst (λ (ops : List _). Gave means o ops (o.answer op) (means op)) (sym (is.itself op e)) (one_gave means o op)
op_gave {Op} {Ans} ways means o is law op (Above e below) =
    let plan : Gave means o (asked_in o (ways.plan op)) (heard o (ways.plan op)) (run means (ways.plan op)) =
    program_gave means o (ways.plan op) (λ q m. op_gave ways means o is law q (below q m)) in
    subst (λ (ops : List Op). Gave means o ops (o.answer op) (means op)) (sym (is.asked op e))
    (subst (λ (a : Ans). Gave means o (asked_in o (ways.plan op)) a (means op)) (sym (is.answer op e))
    (λ before after h. sym (law op before) ∙ plan before after h))
