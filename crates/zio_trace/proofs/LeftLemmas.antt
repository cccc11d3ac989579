-- What is left of a plan, from one move to the next.
use Rattle.std.proofs.Common.{◌≡◌, ℕ, zero, suc, ◌+◌, ◌≤◌, List, [], ◌∷◌, ◌++◌, length, Option, Some, Contains, refl, sym, ap, ◌∙◌, subst, length-append, arith}
use Rattle.std.specs.List.{AllByRecursion}
use Rattle.zio_blkptr.specs.declared.pointer.Bp.{Bp}
use Rattle.zio_cksum.proofs.AllLemmas.{all_contained}
use Rattle.zio_trace.specs.Calls.{answered_at}
use Rattle.zio_trace.specs.Footprints.{Stays}
use Rattle.zio_trace.specs.Going.{nth_asked}
use Rattle.zio_trace.specs.Labels.{Labelled, labelled}
use Rattle.zio_trace.specs.Oracles.{Oracle}
use Rattle.zio_trace.specs.Programs.{Program, Ends, Asks, ◌>>=◌}
use Rattle.zio_trace.specs.Tasks.{Task, Value}
use Rattle.zio_trace.specs.Underway.{Call, IsLeft, call_of, calls_in, early, ops_out, part_of, told_of}
use Rattle.zio_trace.specs.Views.{NumberedFrom, Out, StandFirst, ToldTrue, left_behind, nth, telling, without}
use Rattle.zio_trace.proofs.ListLemmas.{contains_first, contains_later}
use Rattle.zio_trace.proofs.ViewLemmas.{behind_answer, next_at, stand_answered, stand_more, stand_nth}

-- ---- the calls that are out

pub none_out : {X : Type 0} (n : ℕ) (x : X) → nth n [] ≡ Some x → ⊥
none_out n x h = cc

pub one_longer : {X : Type 0} (xs : List X) (x : X) → length (xs ++ x ∷ []) ≡ suc (length xs)
one_longer xs x = let e : length (xs ++ x ∷ []) ≡ length xs + length (x ∷ []) = length-append xs (x ∷ []) in omega arith

pub one_shorter : {X : Type 0} (n : ℕ) (xs : List X) (x : X) → nth n xs ≡ Some x → (length xs ≡ suc (length (without n xs))) × (n ≤ length (without n xs))
one_shorter n [] x h = absurd (none_out n x h)
one_shorter zero (y ∷ ys) x h = (omega arith, omega arith)
one_shorter (suc n) (y ∷ ys) x h = let k = one_shorter n ys x h in let e : length ys ≡ suc (length (without n ys)) = k.0 in let l : n ≤ length (without n ys) = k.1 in (omega arith, omega arith)

pub telling_length : {Op Early : Type 0} (n : ℕ) (r : Early) (cs : List (Out Op Early)) → length (telling n r cs) ≡ length cs
telling_length n r [] = refl
telling_length zero r (c ∷ cs) = refl
telling_length (suc n) r (c ∷ cs) = let e : length (telling n r cs) ≡ length cs = telling_length n r cs in omega arith

pub telling_ops : (n : ℕ) (r : Option Bp) (cs : List Call) → ops_out (telling n r cs) ≡ ops_out cs
telling_ops n r [] = refl
telling_ops zero r (c ∷ cs) = refl
telling_ops (suc n) r (c ∷ cs) = ap (λ (xs : List (Labelled Task)). c.op ∷ xs) (telling_ops n r cs)

-- ---- they stand first, and told what is true

stand_tells : {Op Ans Early A : Type 0} (o : Oracle (Labelled Op) Ans) (cs : List (Out Op Early)) (p : Program (Labelled Op) Ans A) (n : ℕ) (r : Early) → StandFirst o cs p → StandFirst o (telling n r cs) p
stand_tells o [] p n r h = h
stand_tells o (d ∷ cs) (Ends x) n r h = absurd h
stand_tells o (d ∷ cs) (Asks x more) zero r h = h
stand_tells o (d ∷ cs) (Asks x more) (suc n) r h = (h.0, stand_tells o cs (more (o.answer x)) n r h.1)

-- nothing is out of what has ended
pub stand_ended : {Op Ans Early A : Type 0} (o : Oracle (Labelled Op) Ans) (cs : List (Out Op Early)) (a : A) → StandFirst o cs (Ends a) → cs ≡ []
stand_ended o [] a h = refl
stand_ended o (d ∷ cs) a h = absurd h

told_more : {A : Type 0} (o : Oracle (Labelled Task) Value) (cs : List Call) (p : Program (Labelled Task) Value A) (at : List ℕ) (n : ℕ) (op : Task) → ToldTrue early o (told_of cs) p → ToldTrue early o (told_of (cs ++ call_of at n op ∷ [])) p
told_more o [] (Ends a) at n op h = tt
told_more o [] (Asks x more) at n op h = (tt, tt)
told_more o (c ∷ cs) (Ends a) at n op h = tt
told_more o (c ∷ cs) (Asks x more) at n op h = (h.0, told_more o cs (more (o.answer x)) at n op h.1)

told_tells : {A : Type 0} (o : Oracle (Labelled Task) Value) (cs : List Call) (p : Program (Labelled Task) Value A) (n : ℕ) (c : Call) (r : Option Bp) → StandFirst o cs p → ToldTrue early o (told_of cs) p → nth n cs ≡ Some c → early (o.answer c.op) ≡ r → ToldTrue early o (told_of (telling n r cs)) p
told_tells o [] p n c r h k e is = absurd (none_out n c e)
told_tells o (d ∷ cs) (Ends a) n c r h k e is = absurd h
told_tells o (d ∷ cs) (Asks x more) zero c r h k e is =
    let same : d ≡ c = cc in
    (ap (λ (y : Labelled Task). early (o.answer y)) (h.0 ∙ ap (λ (y : Call). y.op) same) ∙ is, k.1)
told_tells o (d ∷ cs) (Asks x more) (suc n) c r h k e is = (k.0, told_tells o cs (more (o.answer x)) n c r h.1 k.1 e is)

told_answered : {A : Type 0} (o : Oracle (Labelled Task) Value) (cs : List Call) (p : Program (Labelled Task) Value A) (n : ℕ) (c : Call) (v : Value) → StandFirst o cs p → ToldTrue early o (told_of cs) p → nth n cs ≡ Some c → o.answer c.op ≡ v → ToldTrue early o (told_of (without n cs)) (answered_at n v p)
told_answered o [] p n c v h k e is = absurd (none_out n c e)
told_answered o (d ∷ cs) (Ends a) n c v h k e is = absurd h
told_answered {A} o (d ∷ cs) (Asks x more) zero c v h k e is =
    let same : d ≡ c = cc in
    let value : o.answer x ≡ v = ap (λ (y : Labelled Task). o.answer y) (h.0 ∙ ap (λ (y : Call). y.op) same) ∙ is in
    subst (λ (u : Value). ToldTrue early o (told_of cs) (more u)) value k.1
told_answered o (d ∷ cs) (Asks x more) (suc n) c v h k e is = (k.0, told_answered o cs (more (o.answer x)) n c v h.1 k.1 e is)

-- ---- all that it asks is the plan's

called_answered : {Op Ans A : Type 0} (P : Op → Type 0) (o : Oracle Op Ans) (n : ℕ) (v : Ans) (p : Program Op Ans A) (x : Op) → nth_asked o n p ≡ Some x → o.answer x ≡ v → AllByRecursion P (calls_in o p) → AllByRecursion P (calls_in o (answered_at n v p))
called_answered P o n v (Ends a) x e is h = tt
called_answered {Op} {Ans} P o zero v (Asks op more) x e is h =
    let same : op ≡ x = cc in
    subst (λ (u : Ans). AllByRecursion P (calls_in o (more u))) (ap (λ (y : Op). o.answer y) same ∙ is) h.1
called_answered P o (suc n) v (Asks op more) x e is h = (h.0, called_answered P o n v (more (o.answer op)) x e is h.1)

pub asked_call : {Op Ans A : Type 0} (o : Oracle Op Ans) (n : ℕ) (p : Program Op Ans A) (x : Op) → nth_asked o n p ≡ Some x → Contains (calls_in o p) x
asked_call o n (Ends a) x e = absurd (cc)
asked_call {Op} o zero (Asks op more) x e =
    let same : op ≡ x = cc in
    subst (λ (y : Op). Contains (op ∷ calls_in o (more (o.answer op))) y) same (contains_first op (calls_in o (more (o.answer op))))
asked_call o (suc n) (Asks op more) x e = contains_later op (calls_in o (more (o.answer op))) x (asked_call o n (more (o.answer op)) x e)

-- where answers fit, what a plan asks stays within
pub calls_stay : {Op Ans A : Type 0} (Fits : Op → Ans → Type 0) (P : Op → Type 0) (Q : A → Type 0) (o : Oracle Op Ans) (p : Program Op Ans A) → Stays Fits P Q p → ((op : Op) → Fits op (o.answer op)) → AllByRecursion P (calls_in o p)
calls_stay Fits P Q o (Ends a) h fits = tt
calls_stay Fits P Q o (Asks op more) h fits = (h.0, calls_stay Fits P Q o (more (o.answer op)) (h.1 (o.answer op) (fits op)) fits)

pub calls_then : {A B : Type 0} (o : Oracle (Labelled Task) Value) (at : List ℕ) (n : ℕ) (p : Program Task Value A) (f : A → B) → calls_in o (labelled at n (p >>= λ a. Ends (f a))) ≡ calls_in o (labelled at n p)
calls_then o at n (Ends a) f = refl
calls_then o at n (Asks op more) f =
    let x : Labelled Task = record { at = at ++ n ∷ []; op = op } in
    ap (λ (xs : List (Labelled Task)). x ∷ xs) (calls_then o at (suc n) (more (o.answer x)) f)

-- ---- the moves

module _ {A : Type 0} (o : Oracle (Labelled Task) Value) (at : List ℕ) where
  pub left_begins : (p : Program Task Value A) → IsLeft o at (labelled at 0 p) (labelled at 0 p) [] 0
  left_begins p = record { first = tt; told = tt; numbered = (p, refl); called = all_contained (calls_in o (labelled at 0 p)) }

  -- the operation that is asked next has the next number
  pub left_next : (whole rest : Program (Labelled Task) Value A) (outs : List Call) (next : ℕ) (op : Task) → IsLeft o at whole rest outs next
      → (y : Labelled Task) × (nth_asked o (length outs) rest ≡ Some y) × (y.op ≡ op) → nth_asked o (length outs) rest ≡ Some (part_of at next op)
  left_next whole rest outs next op h k =
      let place : k.0.at ≡ at ++ next ∷ [] = (next_at o (length outs) at next rest k.0 h.numbered k.1).0 in
      k.1 ∙ λ i. Some (record { at = place i; op = k.2 i })

  -- it goes out
  pub left_out : (whole rest : Program (Labelled Task) Value A) (outs : List Call) (next : ℕ) (op : Task) → IsLeft o at whole rest outs next
      → nth_asked o (length outs) rest ≡ Some (part_of at next op) → IsLeft o at whole rest (outs ++ call_of at next op ∷ []) (suc next)
  left_out whole rest outs next op h e = record {
    first = stand_more o outs rest (call_of at next op) h.first e;
    told = told_more o outs rest at next op h.told;
    numbered = subst (λ (n : ℕ). NumberedFrom at (suc next) (left_behind o n rest)) (sym (one_longer outs (call_of at next op))) (next_at o (length outs) at next rest (part_of at next op) h.numbered e).1;
    called = h.called;
  }

  -- one that is out tells something early
  pub left_tells : (whole rest : Program (Labelled Task) Value A) (outs : List Call) (next n : ℕ) (c : Call) (r : Option Bp) → IsLeft o at whole rest outs next
      → nth n outs ≡ Some c → early (o.answer c.op) ≡ r → IsLeft o at whole rest (telling n r outs) next
  left_tells whole rest outs next n c r h e is = record {
    first = stand_tells o outs rest n r h.first;
    told = told_tells o outs rest n c r h.first h.told e is;
    numbered = subst (λ (k : ℕ). NumberedFrom at next (left_behind o k rest)) (sym (telling_length n r outs)) h.numbered;
    called = h.called;
  }

  -- one that is out is answered
  pub left_answered : (whole rest : Program (Labelled Task) Value A) (outs : List Call) (next n : ℕ) (c : Call) (v : Value) → IsLeft o at whole rest outs next
      → nth n outs ≡ Some c → o.answer c.op ≡ v → IsLeft o at whole (answered_at n v rest) (without n outs) next
  left_answered whole rest outs next n c v h e is =
      let asked : nth_asked o n rest ≡ Some c.op = stand_nth o outs rest n c h.first e in
      let shorter = one_shorter n outs c e in
      record {
        first = stand_answered o outs rest n c v h.first e is;
        told = told_answered o outs rest n c v h.first h.told e is;
        numbered = subst (NumberedFrom at next) (ap (λ (k : ℕ). left_behind o k rest) shorter.0 ∙ sym (behind_answer o n (length (without n outs)) v rest c.op asked is shorter.1)) h.numbered;
        called = called_answered (Contains (calls_in o whole)) o n v rest c.op asked is h.called;
      }
