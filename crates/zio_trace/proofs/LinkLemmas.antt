-- Each operation that is out is in flight once, from one move to the next.
use Rattle.std.proofs.Common.{◌≡◌, ℕ, zero, suc, ◌+◌, List, [], ◌∷◌, ◌++◌, Some, IsPermutation, refl, sym, ap, ◌∙◌, arith}
use Rattle.std.specs.List.{flat_map}
use Rattle.zio_gang.specs.Attempts.{Terms}
use Rattle.zio_trace.specs.Labels.{Labelled}
use Rattle.zio_trace.specs.Oracles.{weigh}
use Rattle.zio_trace.specs.Programs.{Program}
use Rattle.zio_trace.specs.Tasks.{Task, Value}
use Rattle.zio_trace.specs.Underway.{AreLinked, Call, Flight, call_of, flight_of, ops_in_flight, ops_out, part_of, with_out}
use Rattle.zio_trace.specs.Views.{nth, without}
use Rattle.zio_trace.proofs.AnyOrder.{weigh_permuted}
use Rattle.zio_trace.proofs.CapLemmas.{weigh_append}
use Rattle.zio_trace.proofs.LeftLemmas.{none_out}

abbrev pub calls_of : Flight → List (Labelled Task)
calls_of x = ops_out x.outs

pub weigh_flat : (w : Labelled Task → ℕ) (flights : List Flight) (xs : List (Labelled Task)) → weigh w (flat_map calls_of flights ++ xs) ≡ weigh (λ (x : Flight). weigh w (calls_of x)) flights + weigh w xs
weigh_flat w [] xs = omega arith
weigh_flat w (x ∷ flights) xs =
    let e : weigh w (flat_map calls_of flights ++ xs) ≡ weigh (λ (y : Flight). weigh w (calls_of y)) flights + weigh w xs = weigh_flat w flights xs in
    let f : weigh w ((calls_of x ++ flat_map calls_of flights) ++ xs) ≡ weigh w (calls_of x ++ flat_map calls_of flights) + weigh w xs = weigh_append w (calls_of x ++ flat_map calls_of flights) xs in
    let g : weigh w (calls_of x ++ flat_map calls_of flights) ≡ weigh w (calls_of x) + weigh w (flat_map calls_of flights) = weigh_append w (calls_of x) (flat_map calls_of flights) in
    let h : weigh w (flat_map calls_of flights ++ xs) ≡ weigh w (flat_map calls_of flights) + weigh w xs = weigh_append w (flat_map calls_of flights) xs in
    omega arith

weigh_call : (w : Labelled Task → ℕ) (cs : List Call) (d : Call) → weigh w (ops_out (cs ++ d ∷ [])) ≡ weigh w (ops_out cs) + w d.op
weigh_call w [] d = omega arith
weigh_call w (c ∷ cs) d = let e : weigh w (ops_out (cs ++ d ∷ [])) ≡ weigh w (ops_out cs) + w d.op = weigh_call w cs d in omega arith

weigh_without : (w : Labelled Task → ℕ) (n : ℕ) (cs : List Call) (c : Call) → nth n cs ≡ Some c → weigh w (ops_out cs) ≡ w c.op + weigh w (ops_out (without n cs))
weigh_without w n [] c e = absurd (none_out n c e)
weigh_without w zero (d ∷ cs) c e = let same : d ≡ c = cc in ap (λ (x : Call). w x.op + weigh w (ops_out cs)) same
weigh_without w (suc n) (d ∷ cs) c e = let k : weigh w (ops_out cs) ≡ w c.op + weigh w (ops_out (without n cs)) = weigh_without w n cs c e in omega arith

-- what is weighed of the calls of those in flight
abbrev called : (Labelled Task → ℕ) → List Flight → ℕ
called w flights = weigh (λ (x : Flight). weigh w (calls_of x)) flights

-- a link by its weights
abbrev pub LinkedBy : List Flight → List Call → Type 0
LinkedBy flights outs = (w : Labelled Task → ℕ) → weigh w (ops_in_flight flights) ≡ called w flights + weigh w (ops_out outs)

pub by_weights : (flights : List Flight) (outs : List Call) → AreLinked flights outs → LinkedBy flights outs
by_weights flights outs h w = h w ∙ weigh_flat w flights (ops_out outs)

pub from_weights : (flights : List Flight) (outs : List Call) → LinkedBy flights outs → AreLinked flights outs
from_weights flights outs h w = h w ∙ sym (weigh_flat w flights (ops_out outs))

pub linked_task : (t : Terms) (next : ℕ) (op : Task) (flights : List Flight) (outs : List Call) → AreLinked flights outs
    → AreLinked (flight_of t (part_of [] next op) ∷ flights) (outs ++ call_of [] next op ∷ [])
linked_task t next op flights outs h =
    let new : Flight = flight_of t (part_of [] next op) in
    from_weights (new ∷ flights) (outs ++ call_of [] next op ∷ []) (λ w.
    let old : weigh w (ops_in_flight flights) ≡ called w flights + weigh w (ops_out outs) = by_weights flights outs h w in
    let e : weigh w (ops_out (outs ++ call_of [] next op ∷ [])) ≡ weigh w (ops_out outs) + w new.op = weigh_call w outs (call_of [] next op) in
    omega arith)

pub linked_out : (t : Terms) (x : Flight) (op : Task) (flights : List Flight) (outs : List Call) → AreLinked (x ∷ flights) outs
    → AreLinked (flight_of t (part_of x.op.at x.next op) ∷ with_out x op ∷ flights) outs
linked_out t x op flights outs h =
    let new : Flight = flight_of t (part_of x.op.at x.next op) in
    from_weights (new ∷ with_out x op ∷ flights) outs (λ w.
    let old : w x.op + weigh w (ops_in_flight flights) ≡ (weigh w (ops_out x.outs) + called w flights) + weigh w (ops_out outs) = by_weights (x ∷ flights) outs h w in
    let e : weigh w (ops_out (x.outs ++ call_of x.op.at x.next op ∷ [])) ≡ weigh w (ops_out x.outs) + w new.op = weigh_call w x.outs (call_of x.op.at x.next op) in
    omega arith)

pub linked_same : (x : Flight) (rest : Program (Labelled Task) Value Value) (now : List Call) (next : ℕ) (flights : List Flight) (outs : List Call) → ops_out now ≡ ops_out x.outs
    → AreLinked (x ∷ flights) outs → AreLinked (record { op = x.op; rest = rest; outs = now; next = next } ∷ flights) outs
linked_same x rest now next flights outs same h =
    from_weights (record { op = x.op; rest = rest; outs = now; next = next } ∷ flights) outs (λ w.
    let old : w x.op + weigh w (ops_in_flight flights) ≡ (weigh w (ops_out x.outs) + called w flights) + weigh w (ops_out outs) = by_weights (x ∷ flights) outs h w in
    let e : weigh w (ops_out now) ≡ weigh w (ops_out x.outs) = ap (weigh w) same in
    omega arith)

pub linked_hears : (x q : Flight) (rest : Program (Labelled Task) Value Value) (n : ℕ) (c : Call) (flights : List Flight) (outs : List Call) → x.outs ≡ [] → nth n q.outs ≡ Some c → c.op ≡ x.op
    → AreLinked (x ∷ q ∷ flights) outs → AreLinked (record { op = q.op; rest = rest; outs = without n q.outs; next = q.next } ∷ flights) outs
linked_hears x q rest n c flights outs none out is h =
    from_weights (record { op = q.op; rest = rest; outs = without n q.outs; next = q.next } ∷ flights) outs (λ w.
    let old : w x.op + (w q.op + weigh w (ops_in_flight flights)) ≡ (weigh w (ops_out x.outs) + (weigh w (ops_out q.outs) + called w flights)) + weigh w (ops_out outs) = by_weights (x ∷ q ∷ flights) outs h w in
    let e : weigh w (ops_out x.outs) ≡ 0 = ap (λ (cs : List Call). weigh w (ops_out cs)) none in
    let f : weigh w (ops_out q.outs) ≡ w c.op + weigh w (ops_out (without n q.outs)) = weigh_without w n q.outs c out in
    let g : w c.op ≡ w x.op = ap w is in
    omega arith)

pub linked_ends : (x : Flight) (n : ℕ) (c : Call) (flights : List Flight) (outs : List Call) → x.outs ≡ [] → nth n outs ≡ Some c → c.op ≡ x.op
    → AreLinked (x ∷ flights) outs → AreLinked flights (without n outs)
linked_ends x n c flights outs none out is h =
    from_weights flights (without n outs) (λ w.
    let old : w x.op + weigh w (ops_in_flight flights) ≡ (weigh w (ops_out x.outs) + called w flights) + weigh w (ops_out outs) = by_weights (x ∷ flights) outs h w in
    let e : weigh w (ops_out x.outs) ≡ 0 = ap (λ (cs : List Call). weigh w (ops_out cs)) none in
    let f : weigh w (ops_out outs) ≡ w c.op + weigh w (ops_out (without n outs)) = weigh_without w n outs c out in
    let g : w c.op ≡ w x.op = ap w is in
    omega arith)

weigh_ops : (w : Labelled Task → ℕ) (flights : List Flight) → weigh w (ops_in_flight flights) ≡ weigh (λ (x : Flight). w x.op) flights
weigh_ops w [] = refl
weigh_ops w (x ∷ flights) = ap (λ (n : ℕ). w x.op + n) (weigh_ops w flights)

pub linked_permuted : (xs ys : List Flight) (outs : List Call) → IsPermutation xs ys → AreLinked xs outs → AreLinked ys outs
linked_permuted xs ys outs p h =
    from_weights ys outs (λ w.
    sym (weigh_ops w xs ∙ weigh_permuted (λ (x : Flight). w x.op) xs ys p ∙ sym (weigh_ops w ys))
    ∙ by_weights xs outs h w
    ∙ ap (λ (n : ℕ). n + weigh w (ops_out outs)) (weigh_permuted (λ (x : Flight). weigh w (calls_of x)) xs ys p))
