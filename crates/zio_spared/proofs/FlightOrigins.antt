-- What is in flight is asked: each write that is in flight is one of those that the work asks.
use Rattle.std.proofs.Common.{◌≡◌, ℕ, zero, suc, ◌+◌, ◌<◌, ◌≤◌, cond, List, [], ◌∷◌, ◌++◌, length, Bool, true, false, ◌&&◌, Option, Contains, ◌⊎◌, inl, inr, ⊎_elim, refl, sym, ap, ◌∙◌, subst, length-append, arith}
use Rattle.std.proofs.lemmas.Bool.{and_parts}
use Rattle.std.proofs.lemmas.List.Elements.{Contains-append_cases, Contains-append_left, Contains-append_right}
use Rattle.std.specs.List.{AllByRecursion, flat_map}
use Rattle.zio_cksum.specs.Images.{Images, Spot}
use Rattle.zio_cksum.proofs.AllLemmas.{all_contained, all_contains, all_unmap, all_weaker}
use Rattle.zio_trace.specs.Conflicts.{is_single}
use Rattle.zio_trace.specs.Entries.{any_ways}
use Rattle.zio_trace.specs.Keys.{bit}
use Rattle.zio_trace.specs.Labels.{Labelled, labelled, same_at, same_number, ways_at}
use Rattle.zio_trace.specs.Leaves.{Fetch, Store}
use Rattle.zio_trace.specs.Oracles.{Agrees, IsOracle, Oracle, asked_in, weigh}
use Rattle.zio_trace.specs.Plans.{plan}
use Rattle.zio_trace.specs.Programs.{Asks, Ends, Program}
use Rattle.zio_trace.specs.Tasks.{Leaf, Task, Value}
use Rattle.zio_trace.specs.Underway.{Call, Flight, IsFlying, IsUnderway, State, Work, calls_in, ops_in_flight, ops_out, plan_each}
use Rattle.zio_trace.specs.Views.{StandFirst}
use Rattle.zio_trace.proofs.ChoiceLemmas.{contained_cases}
use Rattle.zio_trace.proofs.LabelLemmas.{at_is, at_itself, number_is, number_itself}
use Rattle.zio_trace.proofs.ListLemmas.{contains_first, contains_later}
use Rattle.zio_trace.proofs.PairLemmas.{contains_flat}
use Rattle.zio_trace.proofs.ReaderSteps.{IsPartAt}
use Rattle.zio_spared.proofs.CountLemmas.{one_of, weighs_one}

-- ---- the test of a write in its place

abbrev same_bool : Bool → Bool → Bool
same_bool true b = b
same_bool false true = false
same_bool false false = true

bool_itself : (b : Bool) → same_bool b b ≡ true
bool_itself true = refl
bool_itself false = refl

bool_is : (a b : Bool) → same_bool a b ≡ true → a ≡ b
bool_is true true e = refl
bool_is true false e = absurd (cc)
bool_is false true e = absurd (cc)
bool_is false false e = refl

and_true : (a b : Bool) → a ≡ true → b ≡ true → (a && b) ≡ true
and_true true b e h = h
and_true false b e h = absurd (cc)

abbrev same_spot : Spot → Spot → Bool
same_spot u v = same_number u.leaf v.leaf && (same_number u.at v.at && same_number u.span v.span)

spot_itself : (u : Spot) → same_spot u u ≡ true
spot_itself u = and_true _ _ (number_itself u.leaf) (and_true _ _ (number_itself u.at) (number_itself u.span))

spot_is : (u v : Spot) → same_spot u v ≡ true → u ≡ v
spot_is u v e =
    let k = and_parts (same_number u.leaf v.leaf) (same_number u.at v.at && same_number u.span v.span) e in
    let m = and_parts (same_number u.at v.at) (same_number u.span v.span) k.1 in
    λ i. record { leaf = number_is u.leaf v.leaf k.0 i; at = number_is u.at v.at m.0 i; span = number_is u.span v.span m.1 i }

abbrev same_write : Bool → List ℕ → Spot → Task → Bool
same_write retry bytes u (Leaf (Store again others v)) = same_bool retry again && (same_at bytes others && same_spot u v)
same_write retry bytes u _ = false

write_is : (retry : Bool) (bytes : List ℕ) (u : Spot) (task : Task) → same_write retry bytes u task ≡ true → Leaf (Store retry bytes u) ≡ task
write_is retry bytes u (Leaf (Store again others v)) e =
    let k = and_parts (same_bool retry again) (same_at bytes others && same_spot u v) e in
    let m = and_parts (same_at bytes others) (same_spot u v) k.1 in
    λ i. Leaf (Store (bool_is retry again k.0 i) (at_is bytes others m.0 i) (spot_is u v m.1 i))
write_is retry bytes u (Leaf (Fetch again n v)) e = absurd (cc)
write_is retry bytes u _ e = absurd (cc)

-- ---- calls

stand_calls : {A : Type 0} (o : Oracle (Labelled Task) Value) (outs : List Call) (p : Program (Labelled Task) Value A) → StandFirst o outs p → AllByRecursion (Contains (calls_in o p)) (ops_out outs)
stand_calls o [] p h = tt
stand_calls o (c ∷ cs) (Ends a) h = absurd h
stand_calls o (c ∷ cs) (Asks x more) h = (
  subst (Contains (x ∷ calls_in o (more (o.answer x)))) h.0 (contains_first x (calls_in o (more (o.answer x)))),
  all_weaker (Contains (calls_in o (more (o.answer x)))) (Contains (x ∷ calls_in o (more (o.answer x)))) (ops_out cs) (λ y k. contains_later x (calls_in o (more (o.answer x))) y k) (stand_calls o cs (more (o.answer x)) h.1),
)

call_asked : {A : Type 0} (o : Oracle (Labelled Task) Value) (p : Program (Labelled Task) Value A) (y z : Labelled Task) → Contains (calls_in o p) y → Contains (o.asked y) z → Contains (asked_in o p) z
call_asked o (Ends a) y z c k = absurd (all_contains (λ (x : Labelled Task). ⊥) [] y tt c)
call_asked o (Asks x more) y z c k =
    ⊎_elim
    (λ (e : x ≡ y). Contains-append_left (o.asked x) (asked_in o (more (o.answer x))) z (subst (λ (v : Labelled Task). Contains (o.asked v) z) (sym e) k))
    (λ (later : Contains (calls_in o (more (o.answer x))) y). Contains-append_right (o.asked x) (asked_in o (more (o.answer x))) z (call_asked o (more (o.answer x)) y z later k))
    (contained_cases x (calls_in o (more (o.answer x))) y c)

calls_parts : {A : Type 0} (o : Oracle (Labelled Task) Value) (at : List ℕ) (n : ℕ) (p : Program Task Value A) → AllByRecursion (IsPartAt at) (calls_in o (labelled at n p))
calls_parts o at n (Ends a) = tt
calls_parts o at n (Asks op more) = ((n, refl), calls_parts o at (suc n) (more (o.answer (record { at = at ++ n ∷ []; op = op }))))

-- ---- up from what is in flight

module _ (w : Work) (before : Option Images) (s : State) (under : IsUnderway w before s) (o : Oracle (Labelled Task) Value) (is : IsOracle (ways_at (any_ways w.terms)) o) (agrees : Agrees o s.deeds) (place : List ℕ) (retry : Bool) (bytes : List ℕ) (u : Spot) where
  abbrev write : Labelled Task
  write = record { at = place; op = Leaf (Store retry bytes u) }

  abbrev is_it : Labelled Task → Bool
  is_it y = same_at place y.at && same_write retry bytes u y.op

  it_itself : is_it write ≡ true
  it_itself = and_true _ _ (at_itself place) (and_true _ _ (bool_itself retry) (and_true _ _ (at_itself bytes) (spot_itself u)))

  it_is : (y : Labelled Task) → is_it y ≡ true → write ≡ y
  it_is y e =
      let k = and_parts (same_at place y.at) (same_write retry bytes u y.op) e in
      λ i. record { at = at_is place y.at k.0 i; op = write_is retry bytes u y.op k.1 i }

  abbrev has : List (Labelled Task) → Bool
  has [] = false
  has (y ∷ ys) = cond (is_it y) true (has ys)

  has_first : (b c : Bool) → b ≡ true → cond b true c ≡ true
  has_first true c e = refl
  has_first false c e = absurd (cc)

  has_later : (b c : Bool) → c ≡ true → cond b true c ≡ true
  has_later true c e = refl
  has_later false c e = e

  has_it : (ys : List (Labelled Task)) → Contains ys write → has ys ≡ true
  has_it [] c = absurd (all_contains (λ (y : Labelled Task). ⊥) [] write tt c)
  has_it (y ∷ ys) c =
      ⊎_elim
      (λ (e : y ≡ write). has_first (is_it y) (has ys) (ap is_it e ∙ it_itself))
      (λ (later : Contains ys write). has_later (is_it y) (has ys) (has_it ys later))
      (contained_cases y ys write c)

  has_cases : (b c : Bool) → cond b true c ≡ true → (b ≡ true) ⊎ (c ≡ true)
  has_cases true c e = inl refl
  has_cases false c e = inr e

  it_there : (ys : List (Labelled Task)) → has ys ≡ true → Contains ys write
  it_there [] e = absurd (cc)
  it_there (y ∷ ys) e =
      ⊎_elim
      (λ (k : is_it y ≡ true). subst (Contains (y ∷ ys)) (sym (it_is y k)) (contains_first y ys))
      (λ (k : has ys ≡ true). contains_later y ys write (it_there ys k))
      (has_cases (is_it y) (has ys) e)

  -- in this place, and comes to the write
  abbrev comes_to : List ℕ → Labelled Task → Bool
  comes_to at y = same_at y.at at && has (o.asked y)

  abbrev asked : List (Labelled Task)
  asked = asked_in o (labelled [] 0 (plan_each w.tasks))

  abbrev linked : List (Labelled Task)
  linked = flat_map (λ (x : Flight). ops_out x.outs) s.flights ++ ops_out s.outs

  out_of_root : (y : Labelled Task) → Contains (ops_out s.outs) y → Contains (o.asked y) write → Contains asked write
  out_of_root y c k =
      let left = under.root o is agrees in
      let call : Contains (calls_in o s.root) y = all_contains (Contains (calls_in o s.root)) (ops_out s.outs) y (stand_calls o s.outs s.root left.first) c in
      call_asked o (labelled [] 0 (plan_each w.tasks)) y write (all_contains (Contains (calls_in o (labelled [] 0 (plan_each w.tasks)))) (calls_in o s.root) y left.called call) k

  -- the node that has it out comes to the write too, and stands above it
  abbrev IsAbove : Labelled Task → Flight → Type 0
  IsAbove y x = Contains (o.asked x.op) write × (suc (length x.op.at) ≡ length y.at)

  above_by : (x : Flight) (y : Labelled Task) (b : Bool) → is_single x.op.op ≡ b → IsFlying w.terms s.deeds x → Contains (ops_out x.outs) y → Contains (o.asked y) write → IsAbove y x
  above_by x y true single flying c k =
      absurd (all_contains (λ (z : Labelled Task). ⊥) [] y tt (subst (λ (cs : List Call). Contains (ops_out cs) y) (flying.single single).0 c))
  above_by x y false many flying c k =
      let whole : Program (Labelled Task) Value Value = labelled x.op.at 0 (plan w.terms x.op.op) in
      let left = flying.left many o is agrees in
      let call : Contains (calls_in o x.rest) y = all_contains (Contains (calls_in o x.rest)) (ops_out x.outs) y (stand_calls o x.outs x.rest left.first) c in
      let plans : Contains (calls_in o whole) y = all_contains (Contains (calls_in o whole)) (calls_in o x.rest) y left.called call in
      let part : IsPartAt x.op.at y = all_contains (IsPartAt x.op.at) (calls_in o whole) y (calls_parts o x.op.at 0 (plan w.terms x.op.op)) plans in
      let long : length (x.op.at ++ part.0 ∷ []) ≡ length x.op.at + length (part.0 ∷ []) = length-append x.op.at (part.0 ∷ []) in
      let same : length y.at ≡ length (x.op.at ++ part.0 ∷ []) = ap length part.1 in (
        subst (λ (xs : List (Labelled Task)). Contains xs write) (sym (is.asked x.op many)) (call_asked o whole y write plans k),
        omega arith,
      )

  up : (n : ℕ) (x : Flight) → length x.op.at < n → Contains s.flights x → Contains (o.asked x.op) write → Contains asked write
  up zero x le cx k = absurd (omega arith)
  up (suc n) x le cx k =
      let here : comes_to x.op.at x.op ≡ true = and_true _ _ (at_itself x.op.at) (has_it (o.asked x.op) k) in
      let listed : Contains (ops_in_flight s.flights) x.op =
      all_contains (λ (y : Flight). Contains (ops_in_flight s.flights) y.op) s.flights x (all_unmap (Contains (ops_in_flight s.flights)) (λ (y : Flight). y.op) s.flights (all_contained (ops_in_flight s.flights))) cx in
      let some : 1 ≤ weigh (λ (y : Labelled Task). bit (comes_to x.op.at y)) (ops_in_flight s.flights) = weighs_one (comes_to x.op.at) (ops_in_flight s.flights) x.op listed here in
      let same : weigh (λ (y : Labelled Task). bit (comes_to x.op.at y)) (ops_in_flight s.flights) ≡ weigh (λ (y : Labelled Task). bit (comes_to x.op.at y)) linked = under.linked (λ (y : Labelled Task). bit (comes_to x.op.at y)) in
      let y = one_of (comes_to x.op.at) linked (omega arith) in
      let both = and_parts (same_at y.0.at x.op.at) (has (o.asked y.0)) y.2 in
      let at : y.0.at ≡ x.op.at = at_is y.0.at x.op.at both.0 in
      let comes : Contains (o.asked y.0) write = it_there (o.asked y.0) both.1 in
      ⊎_elim
      (λ (c : Contains (flat_map (λ (z : Flight). ops_out z.outs) s.flights) y.0).
      let z = contains_flat (λ (v : Flight). ops_out v.outs) s.flights y.0 c in
      let above : IsAbove y.0 z.0 = above_by z.0 y.0 (is_single z.0.op.op) refl (all_contains (IsFlying w.terms s.deeds) s.flights z.0 under.flying z.1) z.2 comes in
      let less : suc (length z.0.op.at) ≡ length y.0.at = above.1 in
      let as_long : length y.0.at ≡ length x.op.at = ap length at in
      up n z.0 (omega arith) z.1 above.0)
      (λ (c : Contains (ops_out s.outs) y.0). out_of_root y.0 c comes)
      (Contains-append_cases (flat_map (λ (z : Flight). ops_out z.outs) s.flights) (ops_out s.outs) y.0 y.1)

-- Each write in flight is asked.
pub flight_asked : (w : Work) (before : Option Images) (s : State) → IsUnderway w before s → (o : Oracle (Labelled Task) Value) → IsOracle (ways_at (any_ways w.terms)) o → Agrees o s.deeds → (x : Flight) → Contains s.flights x
    → (retry : Bool) (bytes : List ℕ) (u : Spot) → x.op.op ≡ Leaf (Store retry bytes u) → Contains (asked_in o (labelled [] 0 (plan_each w.tasks))) x.op
flight_asked w before s under o is agrees x cx retry bytes u e =
    let write_is_op : write w before s under o is agrees x.op.at retry bytes u ≡ x.op = λ i. record { at = x.op.at; op = sym e i } in
    let own : Contains (o.asked x.op) (write w before s under o is agrees x.op.at retry bytes u) =
    subst (λ (xs : List (Labelled Task)). Contains xs (write w before s under o is agrees x.op.at retry bytes u)) (sym (is.itself x.op (ap is_single e)))
    (subst (Contains (x.op ∷ [])) (sym write_is_op) (contains_first x.op [])) in
    subst (Contains (asked_in o (labelled [] 0 (plan_each w.tasks)))) write_is_op
    (up w before s under o is agrees x.op.at retry bytes u (suc (length x.op.at)) x (omega arith) cx own)
