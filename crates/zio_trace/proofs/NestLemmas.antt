-- What is in flight within another, from one move to the next.
use Rattle.std.proofs.Common.{◌≡◌, ◌⊎◌, ⊎_elim, ℕ, zero, suc, ◌<◌, ◌≤◌, List, [], ◌∷◌, ◌++◌, Some, Contains, IsPermutation, inl, inr, refl, sym, ap, ◌∙◌, subst, append_assoc, append-nil, arith}
use Rattle.std.proofs.lemmas.List.Elements.{Contains-append_left}
use Rattle.std.specs.List.{AllByRecursion}
use Rattle.zio_types.specs.Choices.{Choice}
use Rattle.zio_cksum.proofs.AllLemmas.{all_contains, all_weaker}
use Rattle.zio_trace.specs.Clearings.{Holds}
use Rattle.zio_trace.specs.Labels.{IsIn, Labelled}
use Rattle.zio_trace.specs.Programs.{Program}
use Rattle.zio_trace.specs.Tasks.{Task, Value}
use Rattle.zio_trace.specs.Underway.{AreNested, Call, DoesNoMore, Flight, StandsInTask, StandsWithin, WasHandedOut, Work, call_of, flight_of, ops_out, part_of, seat_of, with_out}
use Rattle.zio_trace.specs.Views.{nth, without}
use Rattle.zio_trace.proofs.AnyOrder.{all_permuted, pairs_permuted}
use Rattle.zio_trace.proofs.ClearLemmas.{no_longer, pairs_cons, part_in, row}
use Rattle.zio_trace.proofs.LeftLemmas.{none_out}
use Rattle.zio_trace.proofs.ListLemmas.{all_lists, contains_first, contains_later}

-- ---- places

pub same_head : (m n : ℕ) (ms ns : List ℕ) → m ∷ ms ≡ n ∷ ns → m ≡ n
same_head m n ms ns e = cc

-- nothing that was handed out stands in the task that comes next
pub not_handed : (next : ℕ) (x below : List ℕ) → WasHandedOut next x → x ≡ next ∷ below → ⊥
not_handed next x below h e =
    let same : h.0 ≡ next = same_head h.0 next h.1 below (sym h.2 ∙ e) in
    let l : suc h.0 ≤ next = h.3 in
    omega arith

nothing_behind : (xs : List ℕ) (k : ℕ) (ys : List ℕ) → [] ≡ xs ++ k ∷ ys → ⊥
nothing_behind [] k ys e = cc
nothing_behind (x ∷ xs) k ys e = cc

same_tail : (m n : ℕ) (ms ns : List ℕ) → m ∷ ms ≡ n ∷ ns → ms ≡ ns
same_tail m n ms ns e = cc

-- and the next isn't in what was handed out
pub next_not_in : (next k : ℕ) (x below : List ℕ) → WasHandedOut next x → IsIn x k below (next ∷ []) → ⊥
next_not_in next k x below h e =
    let f : next ∷ [] ≡ h.0 ∷ h.1 ++ k ∷ below = e ∙ ap (λ (xs : List ℕ). xs ++ k ∷ below) h.2 in
    nothing_behind h.1 k below (same_tail next h.0 [] (h.1 ++ k ∷ below) f)

-- ---- calls

nothing_held : {X : Type 0} (x : X) → Contains [] x → ⊥
nothing_held {X} x c = all_contains (λ (y : X). ⊥) [] x tt c

out_or_gone : (n : ℕ) (cs : List Call) (c : Call) → nth n cs ≡ Some c → AllByRecursion (λ (y : Labelled Task). (y ≡ c.op) ⊎ Contains (ops_out (without n cs)) y) (ops_out cs)
out_or_gone n [] c e = absurd (none_out n c e)
out_or_gone zero (d ∷ cs) c e =
    let same : d ≡ c = cc in
    (inl (ap (λ (y : Call). y.op) same), all_held (ops_out cs) (λ y h. inr h))
  where
    all_held : (xs : List (Labelled Task)) → {P : Labelled Task → Type 0} → ((y : Labelled Task) → Contains xs y → P y) → AllByRecursion P xs
    all_held [] f = tt
    all_held (x ∷ xs) f = (f x (contains_first x xs), all_held xs (λ y h. f y (contains_later x xs y h)))
out_or_gone (suc n) (d ∷ cs) c e = (
  inr (contains_first d.op (ops_out (without n cs))),
  all_weaker (λ (y : Labelled Task). (y ≡ c.op) ⊎ Contains (ops_out (without n cs)) y) (λ (y : Labelled Task). (y ≡ c.op) ⊎ Contains (d.op ∷ ops_out (without n cs)) y) (ops_out cs)
      (λ y h. ⊎_elim (λ (k : y ≡ c.op). inl k) (λ (k : Contains (ops_out (without n cs)) y). inr (contains_later d.op (ops_out (without n cs)) y k)) h)
      (out_or_gone n cs c e),
)

ops_more : (cs : List Call) (d : Call) (y : Labelled Task) → Contains (ops_out cs) y → Contains (ops_out (cs ++ d ∷ [])) y
ops_more cs d y h = subst (λ (xs : List (Labelled Task)). Contains xs y) (sym (ops_append cs)) (Contains-append_left (ops_out cs) (d.op ∷ []) y h)
  where
    ops_append : (cs : List Call) → ops_out (cs ++ d ∷ []) ≡ ops_out cs ++ d.op ∷ []
    ops_append [] = refl
    ops_append (c ∷ cs) = ap (λ (xs : List (Labelled Task)). c.op ∷ xs) (ops_append cs)

ops_last : (cs : List Call) (d : Call) → Contains (ops_out (cs ++ d ∷ [])) d.op
ops_last [] d = contains_first d.op []
ops_last (c ∷ cs) d = contains_later c.op (ops_out (cs ++ d ∷ [])) d.op (ops_last cs d)

module _ (j : List Choice) (w : Work) where
  abbrev Within : Flight → Flight → Type 0
  Within = StandsWithin j w.terms

  -- one is gone
  pub nested_ends : (x : Flight) (flights : List Flight) → AreNested j w (x ∷ flights) → AreNested j w flights
  nested_ends x flights h = record { within = (row Within x flights flights h.within.1).1; whole = h.whole.1 }

  -- in any order
  pub nested_permuted : (xs ys : List Flight) → IsPermutation xs ys → AreNested j w xs → AreNested j w ys
  nested_permuted xs ys p h = record { within = pairs_permuted Within xs ys p h.within; whole = all_permuted (StandsInTask j w) xs ys p h.whole }

  -- no less is out of the first
  pub nested_same : (x : Flight) (rest : Program (Labelled Task) Value Value) (outs : List Call) (next : ℕ) (flights : List Flight)
      → ((c : Labelled Task) → Contains (ops_out x.outs) c → Contains (ops_out outs) c)
      → AreNested j w (x ∷ flights) → AreNested j w (record { op = x.op; rest = rest; outs = outs; next = next } ∷ flights)
  nested_same x rest outs next flights more h =
      let y : Flight = record { op = x.op; rest = rest; outs = outs; next = next } in
      let rows = row Within x flights flights h.within.1 in
      record {
        within = pairs_cons Within y flights
            (λ n below i. absurd (no_longer x.op.at n below i))
            (all_weaker (Within x) (Within y) flights (λ z k n below i. let c = k n below i in (c.0, more c.0 c.1, c.2, c.3)) h.within.0.1)
            rows.0
            rows.1;
        whole = h.whole;
      }

  -- a task is handed out
  pub nested_task : (next : ℕ) (op : Task) (flights : List Flight) → nth next w.tasks ≡ Some op → AllByRecursion (λ (x : Flight). WasHandedOut next x.op.at) flights
      → AreNested j w flights → AreNested j w (flight_of w.terms (part_of [] next op) ∷ flights)
  nested_task next op flights is handed h =
      let new : Flight = flight_of w.terms (part_of [] next op) in
      record {
        within = pairs_cons Within new flights
            (λ n below i. absurd (no_longer (next ∷ []) n below i))
            (all_weaker (λ (x : Flight). WasHandedOut next x.op.at) (Within new) flights (λ x k n below i. absurd (not_handed next x.op.at (n ∷ below) k i)) handed)
            (all_weaker (λ (x : Flight). WasHandedOut next x.op.at) (λ (x : Flight). Within x new) flights (λ x k n below i. absurd (next_not_in next n x.op.at below k i)) handed)
            h.within;
        whole = ((next, [], op, refl, is, λ d m. m), h.whole);
      }

  -- an operation of the first is handed out, which does no more than it
  pub nested_out : (x : Flight) (op : Task) (flights : List Flight) → DoesNoMore j w.terms (part_of x.op.at x.next op) x.op
      → AllByRecursion (λ (q : Flight). Holds (seat_of x) q.op.at) flights → AllByRecursion (λ (q : Flight). x.op.at ≡ q.op.at → ⊥) flights
      → AreNested j w (x ∷ flights) → AreNested j w (flight_of w.terms (part_of x.op.at x.next op) ∷ with_out x op ∷ flights)
  nested_out x op flights less holds differ h =
      let c : Labelled Task = part_of x.op.at x.next op in
      let call : Call = call_of x.op.at x.next op in
      let new : Flight = flight_of w.terms c in
      let now : Flight = with_out x op in
      let rows = row Within x flights flights h.within.1 in
      let self : Within now new = λ n below i.
      ⊎_elim
      (λ (b : (rest : List ℕ) × IsIn x.op.at n rest x.op.at). absurd (no_longer x.op.at n b.0 b.1))
      (λ (b : (x.op.at ≡ x.op.at) × (x.next ≡ n)). (c, ops_last x.outs call, ap (λ (k : ℕ). x.op.at ++ k ∷ []) b.1, λ d m. m))
      (part_in x.op.at x.op.at x.next n below i) in
      let into : (q : Flight) → Within q x → (x.op.at ≡ q.op.at → ⊥) → Within q new = λ q k ne n below i.
      ⊎_elim
      (λ (b : (rest : List ℕ) × IsIn q.op.at n rest x.op.at). let y = k n b.0 b.1 in (y.0, y.1, y.2, λ d m. y.3 d (less d m)))
      (λ (b : (x.op.at ≡ q.op.at) × (x.next ≡ n)). absurd (ne b.0))
      (part_in x.op.at q.op.at x.next n below i) in
      let old : AreNested j w (now ∷ flights) = nested_same x x.rest (x.outs ++ call ∷ []) (suc x.next) flights (ops_more x.outs call) h in
      record {
        within = pairs_cons Within new (now ∷ flights)
            (λ n below i. absurd (no_longer c.at n below i)) (
              (λ n below i. absurd (no_longer x.op.at x.next (n ∷ below) (i ∙ append_assoc x.op.at (x.next ∷ []) (n ∷ below)))),
              all_weaker (λ (q : Flight). Holds (seat_of x) q.op.at) (Within new) flights
                  (λ q k n below i. let l : x.next < x.next = k x.next (n ∷ below) (i ∙ append_assoc x.op.at (x.next ∷ []) (n ∷ below)) in absurd (omega arith)) holds,
            )
            (self, all_lists (λ (q : Flight). Within q x) (λ (q : Flight). x.op.at ≡ q.op.at → ⊥) (λ (q : Flight). Within q new) flights into rows.0 differ)
            old.within;
        whole = (
          (h.whole.0.0, h.whole.0.1 ++ x.next ∷ [], h.whole.0.2, ap (λ (xs : List ℕ). xs ++ x.next ∷ []) h.whole.0.3, h.whole.0.4, λ d m. h.whole.0.5 d (less d m)),
          h.whole,
        );
      }

  -- the first has ended, and its value arrives at the second
  pub nested_hears : (x q : Flight) (rest : Program (Labelled Task) Value Value) (n : ℕ) (c : Call) (flights : List Flight) → x.outs ≡ [] → nth n q.outs ≡ Some c → c.op ≡ x.op
      → AllByRecursion (λ (y : Flight). x.op.at ≡ y.op.at → ⊥) (q ∷ flights)
      → AreNested j w (x ∷ q ∷ flights) → AreNested j w (record { op = q.op; rest = rest; outs = without n q.outs; next = q.next } ∷ flights)
  nested_hears x q rest n c flights none out is differ h =
      let new : Flight = record { op = q.op; rest = rest; outs = without n q.outs; next = q.next } in
      let fewer : AreNested j w (q ∷ flights) = nested_ends x (q ∷ flights) h in
      let rows = row Within q flights flights fewer.within.1 in
      -- what stands in the place of the first isn't in flight any more
      let other : (y : Flight) → Within x y → (x.op.at ≡ y.op.at → ⊥) → (m : ℕ) (below : List ℕ) → IsIn q.op.at m below y.op.at → x.op.at ≡ q.op.at ++ m ∷ [] → ⊥ =
      λ y k ne m below i at. apart x y none k ne below (i ∙ sym (append_assoc q.op.at (m ∷ []) below) ∙ ap (λ (xs : List ℕ). xs ++ below) (sym at)) in
      let from : (y : Flight) → Within q y → Within x y × (x.op.at ≡ y.op.at → ⊥) → Within new y = λ y k l m below i.
      let d = k m below i in
      ⊎_elim
      (λ (b : d.0 ≡ c.op). absurd (other y l.0 l.1 m below i (ap (λ (z : Labelled Task). z.at) (sym is ∙ sym b) ∙ d.2)))
      (λ (b : Contains (ops_out (without n q.outs)) d.0). (d.0, b, d.2, d.3))
      (all_contains (λ (z : Labelled Task). (z ≡ c.op) ⊎ Contains (ops_out (without n q.outs)) z) (ops_out q.outs) d.0 (out_or_gone n q.outs c out) d.1) in
      record {
        within = pairs_cons Within new flights
            (λ m below i. absurd (no_longer q.op.at m below i))
            (all_lists (Within q) (λ (y : Flight). Within x y × (x.op.at ≡ y.op.at → ⊥)) (Within new) flights from fewer.within.0.1
            (all_lists (Within x) (λ (y : Flight). x.op.at ≡ y.op.at → ⊥) (λ (y : Flight). Within x y × (x.op.at ≡ y.op.at → ⊥)) flights (λ y k l. (k, l)) h.within.0.1.1 differ.1))
            rows.0
            rows.1;
        whole = h.whole.1;
      }
    where
      apart : (x y : Flight) → x.outs ≡ [] → Within x y → (x.op.at ≡ y.op.at → ⊥) → (below : List ℕ) → y.op.at ≡ x.op.at ++ below → ⊥
      apart x y none k ne [] e = ne (sym (append-nil x.op.at) ∙ sym e)
      apart x y none k ne (m ∷ below) e = let d = k m below e in nothing_held d.0 (subst (λ (cs : List Call). Contains (ops_out cs) d.0) none d.1)
