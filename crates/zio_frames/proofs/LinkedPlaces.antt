-- What is in flight in the place of an operation that is out is that operation, and what is in flight is out somewhere.
use Rattle.std.proofs.Common.{◌≡◌, ℕ, zero, suc, ◌+◌, ◌≤◌, List, [], ◌∷◌, Bool, true, false, cond, Some, refl, sym, ap, ◌∙◌, subst, arith, ◌⊎◌, inl, inr}
use Rattle.std.specs.List.{AllByRecursion}
use Rattle.zio_trace.specs.Keys.{bit}
use Rattle.zio_trace.specs.Labels.{Labelled, same_at}
use Rattle.zio_trace.specs.Oracles.{weigh}
use Rattle.zio_trace.specs.Tasks.{Task}
use Rattle.zio_trace.specs.Underway.{AreLinked, Call, Flight, ops_in_flight, ops_out}
use Rattle.zio_trace.specs.Views.{nth}
use Rattle.zio_trace.proofs.LabelLemmas.{at_is, at_itself}
use Rattle.zio_trace.proofs.LinkLemmas.{by_weights, calls_of}
use Rattle.zio_frames.proofs.SameTasks.{same_task, task_is, task_itself}

-- ---- weights

-- one where it is this operation in this place
abbrev pub weight_at : Labelled Task → Labelled Task → ℕ
weight_at c y = cond (same_at y.at c.at) (bit (same_task y.op c.op)) 0

pub weight_itself : (c : Labelled Task) → weight_at c c ≡ 1
weight_itself c = ap (λ (b : Bool). cond b (bit (same_task c.op c.op)) 0) (at_itself c.at) ∙ ap bit (task_itself c.op)

weight_if : (c y : Labelled Task) (a b : Bool) → same_at y.at c.at ≡ a → same_task y.op c.op ≡ b → 1 ≤ cond a (bit b) 0 → y ≡ c
weight_if c y true true e f h =
    let at : y.at ≡ c.at = at_is y.at c.at e in
    let op : y.op ≡ c.op = task_is y.op c.op f in
    λ i. record { at = at i; op = op i }
weight_if c y true false e f h = absurd (omega arith)
weight_if c y false b e f h = absurd (omega arith)

pub weight_is : (c y : Labelled Task) → 1 ≤ weight_at c y → y ≡ c
weight_is c y h = weight_if c y (same_at y.at c.at) (same_task y.op c.op) refl refl h

-- what weighs something is there
pub weighs_there : {X : Type 0} (w : X → ℕ) (P : X → Type 0) (xs : List X) → ((x : X) → 1 ≤ w x → P x) → 1 ≤ weigh w xs
    → (k : ℕ) × (x : X) × (nth k xs ≡ Some x) × P x
weighs_there w P [] f h = absurd (omega arith)
weighs_there {X} w P (x ∷ xs) f h = here (w x) refl (λ l. weighs_there w P xs f l)
  where
    here : (n : ℕ) → w x ≡ n → (1 ≤ weigh w xs → (k : ℕ) × (y : X) × (nth k xs ≡ Some y) × P y)
        → (k : ℕ) × (y : X) × (nth k (x ∷ xs) ≡ Some y) × P y
    here zero e later = let l : 1 ≤ weigh w xs = omega arith in let r = later l in (suc r.0, r.1, r.2, r.3)
    here (suc n) e later = (0, x, refl, f x (omega arith))

weighs_nth : {X : Type 0} (w : X → ℕ) (k : ℕ) (xs : List X) (x : X) → nth k xs ≡ Some x → w x ≤ weigh w xs
weighs_nth w k [] x e = absurd (cc)
weighs_nth w zero (y ∷ xs) x e = let is : y ≡ x = cc in let l : w y ≡ w x = ap w is in omega arith
weighs_nth w (suc k) (y ∷ xs) x e = let l : w x ≤ weigh w xs = weighs_nth w k xs x e in omega arith

weigh_outs : (w : Labelled Task → ℕ) (outs : List Call) → weigh w (ops_out outs) ≡ weigh (λ (c : Call). w c.op) outs
weigh_outs w [] = refl
weigh_outs w (c ∷ outs) = ap (λ n. w c.op + n) (weigh_outs w outs)

weigh_flying : (w : Labelled Task → ℕ) (flights : List Flight)
    → weigh w (ops_in_flight flights) ≡ weigh (λ (x : Flight). w x.op) flights
weigh_flying w [] = refl
weigh_flying w (x ∷ flights) = ap (λ n. w x.op + n) (weigh_flying w flights)

-- ---- an operation that is out is in flight

pub out_flies : (flights : List Flight) (outs : List Call) (q : Flight) (m n : ℕ) (c : Call) → AreLinked flights outs
    → nth m flights ≡ Some q → nth n q.outs ≡ Some c
    → (k : ℕ) × (x : Flight) × (nth k flights ≡ Some x) × (x.op ≡ c.op)
out_flies flights outs q m n c linked there out =
    let w : Labelled Task → ℕ = weight_at c.op in
    let all : weigh w (ops_in_flight flights) ≡ weigh (λ (x : Flight). weigh w (calls_of x)) flights + weigh w (ops_out outs) =
    by_weights flights outs linked w in
    let one : w c.op ≡ 1 = weight_itself c.op in
    let mine : w c.op ≤ weigh (λ (d : Call). w d.op) q.outs = weighs_nth (λ (d : Call). w d.op) n q.outs c out in
    let same : weigh w (ops_out q.outs) ≡ weigh (λ (d : Call). w d.op) q.outs = weigh_outs w q.outs in
    let among : weigh w (calls_of q) ≤ weigh (λ (x : Flight). weigh w (calls_of x)) flights =
    weighs_nth (λ (x : Flight). weigh w (calls_of x)) m flights q there in
    let flying : weigh w (ops_in_flight flights) ≡ weigh (λ (x : Flight). w x.op) flights = weigh_flying w flights in
    weighs_there (λ (x : Flight). w x.op) (λ (x : Flight). x.op ≡ c.op) flights (λ x h. weight_is c.op x.op h) (omega arith)

-- no two in flight have one place
abbrev pub PlacesDiffer : List Flight → Type 0
PlacesDiffer [] = Unit {0}
PlacesDiffer (x ∷ xs) = AllByRecursion (λ (y : Flight). x.op.at ≡ y.op.at → ⊥) xs × PlacesDiffer xs

pub all_nth : {X : Type 0} (P : X → Type 0) (k : ℕ) (xs : List X) (x : X) → AllByRecursion P xs → nth k xs ≡ Some x → P x
all_nth P k [] x h e = absurd (cc)
all_nth P zero (y ∷ xs) x h e = let is : y ≡ x = cc in subst P is h.0
all_nth P (suc k) (y ∷ xs) x h e = all_nth P k xs x h.1 e

-- the first in flight, where it has the place of one that is in flight, is that
pub first_is : (x y : Flight) (flights : List Flight) (k : ℕ) → PlacesDiffer (x ∷ flights) → nth k (x ∷ flights) ≡ Some y
    → y.op.at ≡ x.op.at → y ≡ x
first_is x y flights zero h e at = let is : x ≡ y = cc in sym is
first_is x y flights (suc k) h e at = absurd (all_nth (λ (z : Flight). x.op.at ≡ z.op.at → ⊥) k flights y h.0 e (sym at))

-- the first in flight is the operation that is out in its place
pub first_is_out : (x : Flight) (flights : List Flight) (outs : List Call) (q : Flight) (m n : ℕ) (c : Call)
    → PlacesDiffer (x ∷ flights) → AreLinked (x ∷ flights) outs
    → nth m (x ∷ flights) ≡ Some q → nth n q.outs ≡ Some c → x.op.at ≡ c.op.at → c.op ≡ x.op
first_is_out x flights outs q m n c differ linked there out at =
    let found = out_flies (x ∷ flights) outs q m n c linked there out in
    let is : found.1 ≡ x =
    first_is x found.1 flights found.0 differ found.2 (ap (λ (o : Labelled Task). o.at) found.3 ∙ sym at) in
    sym found.3 ∙ ap (λ (y : Flight). y.op) is

-- ---- the first in flight is out somewhere

abbrev pub Calls : Labelled Task → Flight → Type 0
Calls op q = (n : ℕ) × (c : Call) × (nth n q.outs ≡ Some c) × (c.op ≡ op)

-- of one in flight, or of the work itself
abbrev pub IsCalled : List Flight → List Call → Labelled Task → Type 0
IsCalled flights outs op =
    ((k : ℕ) × (q : Flight) × (nth k flights ≡ Some q) × Calls op q)
    ⊎ ((n : ℕ) × (c : Call) × (nth n outs ≡ Some c) × (c.op ≡ op))

calls_there : (op : Labelled Task) (q : Flight) → 1 ≤ weigh (weight_at op) (calls_of q) → Calls op q
calls_there op q h =
    let same : weigh (weight_at op) (ops_out q.outs) ≡ weigh (λ (d : Call). weight_at op d.op) q.outs =
    weigh_outs (weight_at op) q.outs in
    weighs_there (λ (d : Call). weight_at op d.op) (λ (d : Call). d.op ≡ op) q.outs (λ d l. weight_is op d.op l) (omega arith)

called_if : (x : Flight) (flights : List Flight) (outs : List Call) (n : ℕ) → weigh (weight_at x.op) (ops_out outs) ≡ n
    → weigh (weight_at x.op) (ops_in_flight (x ∷ flights)) ≡ weigh (λ (y : Flight). weigh (weight_at x.op) (calls_of y))
    (x ∷ flights) + weigh (weight_at x.op) (ops_out outs)
    → IsCalled (x ∷ flights) outs x.op
called_if x flights outs zero e all =
    let w : Labelled Task → ℕ = weight_at x.op in
    let one : w x.op ≡ 1 = weight_itself x.op in
    inl (weighs_there (λ (y : Flight). weigh w (calls_of y)) (Calls x.op) (x ∷ flights) (λ q l. calls_there x.op q l)
    (omega arith))
called_if x flights outs (suc n) e all =
    let w : Labelled Task → ℕ = weight_at x.op in
    let same : weigh w (ops_out outs) ≡ weigh (λ (d : Call). w d.op) outs = weigh_outs w outs in
    inr (weighs_there (λ (d : Call). w d.op) (λ (d : Call). d.op ≡ x.op) outs (λ d l. weight_is x.op d.op l) (omega arith))

pub first_is_called : (x : Flight) (flights : List Flight) (outs : List Call) → AreLinked (x ∷ flights) outs
    → IsCalled (x ∷ flights) outs x.op
first_is_called x flights outs linked =
    called_if x flights outs (weigh (weight_at x.op) (ops_out outs)) refl
    (by_weights (x ∷ flights) outs linked (weight_at x.op))
