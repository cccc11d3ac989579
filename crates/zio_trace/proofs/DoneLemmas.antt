-- What was done in a round, in whatever order, is what its program gives alone.
use Rattle.std.proofs.Common.{◌≡◌, ℕ, suc, ◌+◌, ◌≤◌, true, false, List, [], ◌∷◌, Contains, Bool, inl, inr, refl, sym, ap, ◌∙◌, subst, arith}
use Rattle.std.specs.List.{AllByRecursion}
use Rattle.zio_cksum.specs.Images.{Images}
use Rattle.zio_cksum.proofs.AllLemmas.{all_append, all_contained, all_contains, all_weaker}
use Rattle.zio_trace.specs.Footprints.{Stays}
use Rattle.zio_trace.specs.Labels.{Labelled, labelled, ways_at, means_at, Earlier, same_place}
use Rattle.zio_trace.specs.Oracles.{Ways, Oracle, IsOracle, asked_in, Agrees, ops_of, AreOnce, Ascends, IsTest, deeds_as, Shuffled, weigh}
use Rattle.zio_trace.specs.Orders.{Commute}
use Rattle.zio_trace.specs.Programs.{Meaning, Program, run, Deed, Happen, asks_of, Ends, Asks}
use Rattle.zio_trace.specs.Rules.{Rules, AreLawful, IsDone}
use Rattle.zio_trace.specs.Traces.{Grounded, Above, Bottom, Mentions}
use Rattle.zio_trace.proofs.AskedLemmas.{happen_as_asked}
use Rattle.zio_trace.proofs.LabelLemmas.{labelled_run, ground_labelled, asked_ascend, same_itself, test_among}
use Rattle.zio_trace.proofs.OracleExists.{oracle_is, oracle_of, answer_in, oracle_agrees}
use Rattle.zio_trace.proofs.OracleLemmas.{program_gave, op_gave}
use Rattle.zio_trace.proofs.ListLemmas.{contains_first, contains_later}

pub all_ops : {Op Ans : Type 0} (P : Op → Type 0) (ds : List (Deed Op Ans)) → AllByRecursion P (ops_of ds) → AllByRecursion (λ (d : Deed Op Ans). P d.op) ds
all_ops P [] h = tt
all_ops P (d ∷ ds) h = (h.0, all_ops P ds h.1)

-- the plan of an operation in its place stays within
pub stays_labelled : {Op Ans A : Type 0} (Fits : Op → Ans → Type 0) (P : Op → Type 0) (Q : A → Type 0) (at : List ℕ) (n : ℕ) (p : Program Op Ans A) → Stays Fits P Q p → Stays (λ (x : Labelled Op). Fits x.op) (λ (x : Labelled Op). P x.op) Q (labelled at n p)
stays_labelled Fits P Q at n (Ends a) h = h
stays_labelled Fits P Q at n (Asks op more) h = (h.0, λ answer fits. stays_labelled Fits P Q at (suc n) (more answer) (h.1 answer fits))

-- some oracle agrees with deeds that fit
pub some_oracle : {Op Ans : Type 0} (r : Rules Op Ans) (l : AreLawful r) (ds : List (Deed (Labelled Op) Ans)) → (Labelled Op → Ans) → AreOnce same_place ds → AllByRecursion (λ (d : Deed (Labelled Op) Ans). r.ways.single d.op.op ≡ true) ds
    → AllByRecursion (λ (d : Deed (Labelled Op) Ans). r.mend d.op.op d.answer ≡ d.answer) ds → (o : Oracle (Labelled Op) Ans) × IsOracle (ways_at r.ways) o × Agrees o ds
some_oracle {Op} {Ans} r l ds other once single fit =
    let ground : (x : Labelled Op) → Grounded (ways_at r.ways).plan (ways_at r.ways).single x = ground_labelled r.ways l.ground in
    let mend : Labelled Op → Ans → Ans = λ x. r.mend x.op in (
      oracle_of same_place same_itself mend other (ways_at r.ways) ground ds,
      oracle_is (ways_at r.ways) ground (λ x. mend x (answer_in same_place other ds x)) (λ x y. (d : Op) → r.May y.op d → r.May x.op d)
          (λ x. stays_labelled r.ways.Fits (λ q. (d : Op) → r.May q d → r.May x.op d) (r.ways.Fits x.op) x.at 0 (r.ways.plan x.op) (l.stays x.op))
          (λ x e. l.mended x.op (answer_in same_place other ds x) e),
      oracle_agrees same_place same_itself mend other (ways_at r.ways) ground ds once single fit,
    )

-- ---- what an oracle asks is single operations

pub program_singles : {Op Ans A : Type 0} (single : Op → Bool) (o : Oracle Op Ans) (p : Program Op Ans A) → ((q : Op) → Mentions p q → AllByRecursion (λ (x : Op). single x ≡ true) (o.asked q)) → AllByRecursion (λ (x : Op). single x ≡ true) (asked_in o p)
program_singles single o (Ends a) h = tt
program_singles {Op} single o (Asks op more) h =
    all_append (λ (x : Op). single x ≡ true) (o.asked op) (asked_in o (more (o.answer op))) (h op (inl refl)) (program_singles single o (more (o.answer op)) (λ q m. h q (inr (o.answer op, m))))

pub op_singles : {Op Ans : Type 0} (ways : Ways Op Ans) (o : Oracle Op Ans) → IsOracle ways o → (op : Op) → Grounded ways.plan ways.single op → AllByRecursion (λ (x : Op). ways.single x ≡ true) (o.asked op)
op_singles {Op} ways o is op (Bottom e) = subst (AllByRecursion (λ (x : Op). ways.single x ≡ true)) (sym (is.itself op e)) (e, tt)
op_singles {Op} ways o is op (Above e below) =
    subst (AllByRecursion (λ (x : Op). ways.single x ≡ true)) (sym (is.asked op e))
    (program_singles ways.single o (ways.plan op) (λ q m. op_singles ways o is q (below q m)))

-- ---- what is asked is what was done

abbrev bit : Bool → ℕ
bit true = 1
bit false = 0

heavy : {X : Type 0} (w : X → ℕ) (xs : List X) → AllByRecursion (λ (x : X). w x ≤ weigh w xs) xs
heavy w [] = tt
heavy {X} w (x ∷ xs) = (omega arith, all_weaker (λ (y : X). w y ≤ weigh w xs) (λ (y : X). w y ≤ w x + weigh w xs) xs (λ y h. omega arith) (heavy w xs))

listed_if : {Op : Type 0} (b : Bool) (x y : Labelled Op) (ys : List (Labelled Op)) → (b ≡ true → y ≡ x) → (1 ≤ weigh (λ (z : Labelled Op). bit (same_place x z)) ys → Contains ys x) → 1 ≤ bit b + weigh (λ (z : Labelled Op). bit (same_place x z)) ys → Contains (y ∷ ys) x
listed_if true x y ys h k n = subst (Contains (y ∷ ys)) (h refl) (contains_first y ys)
listed_if false x y ys h k n = contains_later y ys x (k (omega arith))

listed : {Op : Type 0} (x : Labelled Op) (ys : List (Labelled Op)) → AllByRecursion (λ (y : Labelled Op). same_place x y ≡ true → y ≡ x) ys → 1 ≤ weigh (λ (z : Labelled Op). bit (same_place x z)) ys → Contains ys x
listed x [] h n = absurd (omega arith)
listed x (y ∷ ys) h n = listed_if (same_place x y) x y ys h.0 (listed x ys h.1) n

-- what is asked was done
pub asked_back : {Op Ans : Type 0} (ops : List (Labelled Op)) (ds : List (Deed (Labelled Op) Ans)) → IsTest same_place (Contains ops) → Shuffled ops (ops_of ds) → AllByRecursion (Contains ops) (ops_of ds) → AllByRecursion (Contains (ops_of ds)) ops
asked_back {Op} ops ds test all within =
    all_weaker (Contains ops) (Contains (ops_of ds)) ops
    (λ x c.
    let w : Labelled Op → ℕ = λ z. bit (same_place x z) in
    let some : w x ≤ weigh w ops = all_contains (λ (y : Labelled Op). w y ≤ weigh w ops) ops x (heavy w ops) c in
    let one : w x ≡ 1 = ap (λ (b : Bool). bit b) (same_itself x) in
    let as_often : weigh w ops ≡ weigh w (ops_of ds) = all w in
    listed x (ops_of ds)
    (all_weaker (Contains ops) (λ (y : Labelled Op). same_place x y ≡ true → y ≡ x) (ops_of ds) (λ y k e. sym (test.is x y c k e)) within)
    (omega arith))
    (all_contained ops)

-- alone, the program asks as often for what was done, and gives this value and these images
pub record IsAlone {Op Ans A : Type 0} (r : Rules Op Ans) (p : Program Op Ans A) (ds : List (Deed (Labelled Op) Ans)) (value : A) (before after : Images) : Type 0 where
  pub oracle : Oracle (Labelled Op) Ans
  pub ops : List (Labelled Op)
  pub all : Shuffled ops (ops_of ds)
  pub within : AllByRecursion (Contains ops) (ops_of ds)
  pub back : AllByRecursion (Contains (ops_of ds)) ops
  pub single : AllByRecursion (λ (x : Labelled Op). r.ways.single x.op ≡ true) ops
  pub gives : run r.means p before ≡ record { value = value; asks = asks_of (means_at r.means) (deeds_as oracle ops) before; images = after }

pub done_alone : {Op Ans A : Type 0} (r : Rules Op Ans) (l : AreLawful r) (p : Program Op Ans A) (ds : List (Deed (Labelled Op) Ans)) (value : A) (before after : Images)
    → IsDone r p ds value → r.Sound before → Happen (means_at r.means) ds before after
    → IsAlone r p ds value before after
done_alone {Op} {Ans} {A} r l p ds value before after done sound happen =
    let means : Meaning (Labelled Op) Ans = means_at r.means in
    let ways : Ways (Labelled Op) Ans = ways_at r.ways in
    let ground : (x : Labelled Op) → Grounded ways.plan ways.single x = ground_labelled r.ways l.ground in
    let round : Program (Labelled Op) Ans A = labelled [] 0 p in
    let other : Labelled Op → Ans = λ (x : Labelled Op). (means x before).value in
    let some = some_oracle r l ds other done.once done.single done.fit in
    let o : Oracle (Labelled Op) Ans = some.0 in
    let is : IsOracle ways o = some.1 in
    let agrees : Agrees o ds = some.2 in
    let ops : List (Labelled Op) = asked_in o round in
    let ascends : Ascends Earlier ops = asked_ascend r.ways l.ground o p is in
    let commute : Commute means r.Sound (λ x. r.Lies x.op) (λ x y. r.Apart x.op y.op) = record {
      turned = λ x y. l.commute.turned x.op y.op;
      sound = λ x. l.commute.sound x.op;
      answer = λ x y. l.commute.answer x.op y.op;
      images = λ x y. l.commute.images x.op y.op;
    } in
    let test = test_among ops ascends in
    let ordered : Happen means (deeds_as o ops) before after =
    happen_as_asked means r.Sound (λ x. r.Lies x.op) (λ x y. r.Apart x.op y.op) commute Earlier same_place (Contains ops) test o ops ds before after
    (all_contained ops) (all_ops (Contains ops) ds (done.within o is agrees)) (done.all o is agrees) agrees ascends done.order done.lies sound happen in
    let law : (x : Labelled Op) (images : Images) → run means (ways.plan x) images ≡ means x images = λ x images. labelled_run r.means x.at 0 (r.ways.plan x.op) images ∙ l.law x.op images in
    let gives = program_gave means o round (λ q m. op_gave ways means o is law q (ground q)) before after ordered in
    record {
      oracle = o;
      ops = ops;
      all = done.all o is agrees;
      within = done.within o is agrees;
      back = asked_back ops ds test (done.all o is agrees) (done.within o is agrees);
      single = program_singles ways.single o round (λ q m. op_singles ways o is q (ground q));
      gives =
          sym (labelled_run r.means [] 0 p before) ∙ gives
          ∙ ap (λ (v : A). record { value = v; asks = asks_of means (deeds_as o ops) before; images = after }) (done.known o is agrees);
    }
