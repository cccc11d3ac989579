-- What an oracle says of a reader that spares copies: where its reads gave what they should, its next operation is
-- proper.
use Rattle.std.proofs.Common.{◌≡◌, ℕ, suc, List, [], ◌∷◌, ◌++◌, Bool, true, Contains, ⊎_elim, refl, sym, ap, subst}
use Rattle.std.specs.List.{AllByRecursion}
use Rattle.zio_cksum.specs.Images.{Images, Setting, Spot}
use Rattle.zio_cksum.proofs.AllLemmas.{all_contains, all_weaker}
use Rattle.zio_trace.specs.Conflicts.{is_single}
use Rattle.zio_trace.specs.CopyPrograms.{Program}
use Rattle.zio_trace.specs.Labels.{Earlier, Labelled}
use Rattle.zio_trace.specs.Leaves.{Answer, Fetch, LeafOp, Store}
use Rattle.zio_trace.specs.Oracles.{Oracle}
use Rattle.zio_trace.specs.Programs.{Asks, Ends}
use Rattle.zio_trace.specs.Tasks.{Leaf, Task, Value, got}
use Rattle.zio_trace.proofs.ChoiceLemmas.{contained_cases}
use Rattle.zio_trace.proofs.LabelLemmas.{Under, sooner, under_less, under_part}
use Rattle.zio_trace.proofs.ListLemmas.{contains_first, contains_later}
use Rattle.zio_trace.proofs.ReaderSteps.{asked_at}
use Rattle.zio_spared.proofs.SparingReads.{GivesAsBefore, Spares}

module _ (s : Setting) (spots : List Spot) (len : ℕ) (good : List ℕ → Bool) (before : Images) (risked : List Spot) where
  -- what is said of a read's answer
  abbrev pub said_as : Task → Answer → Type 0
  said_as (Leaf (Fetch retry n t)) answer = GivesAsBefore s spots len good before risked retry n t answer
  said_as _ answer = Unit {0}

  abbrev pub SaidAs : Oracle (Labelled Task) Value → Labelled Task → Type 0
  SaidAs o x = said_as x.op (got (o.answer x))

  -- a read of a copy, or a write to one at risk
  abbrev pub IsProper : Task → Type 0
  IsProper (Leaf (Fetch retry n t)) = (n ≡ len) × Contains spots t
  IsProper (Leaf (Store retry b t)) = Contains risked t
  IsProper _ = ⊥

  abbrev Sparing : Program Answer → Type 0
  Sparing p = Spares s spots len good before risked (λ (a : Answer). Unit {0}) p

  module _ (o : Oracle (Labelled Task) Value) (itself : (x : Labelled Task) → is_single x.op ≡ true → o.asked x ≡ x ∷ []) where
    abbrev asked : List ℕ → ℕ → Program Answer → List (Labelled Task)
    asked at n p = asked_at o itself at n p

    abbrev part : List ℕ → ℕ → LeafOp → Labelled Task
    part at n op = record { at = at ++ n ∷ []; op = Leaf op }

    abbrev answer_of_part : List ℕ → ℕ → LeafOp → Answer
    answer_of_part at n op = got (o.answer (part at n op))

    asked_next : (at : List ℕ) (n : ℕ) (op : LeafOp) (more : Answer → Program Answer) → asked at n (Asks op more) ≡ part at n op ∷ asked at (suc n) (more (answer_of_part at n op))
    asked_next at n op more = ap (λ (xs : List (Labelled Task)). xs ++ asked at (suc n) (more (answer_of_part at n op))) (itself (part at n op) refl)

    whole : (xs : List ℕ) → xs ≡ xs ++ []
    whole [] = refl
    whole (x ∷ xs) = ap (λ (ys : List ℕ). x ∷ ys) (whole xs)

    asked_under : (at : List ℕ) (n : ℕ) (p : Program Answer) → AllByRecursion (Under at n) (asked at n p)
    asked_under at n (Ends a) = tt
    asked_under at n (Asks op more) =
        subst (AllByRecursion (Under at n)) (sym (asked_next at n op more))
        (under_part at n (part at n op) ([], whole (at ++ n ∷ [])), all_weaker (Under at (suc n)) (Under at n) (asked at (suc n) (more (answer_of_part at n op))) (under_less at n) (asked_under at (suc n) (more (answer_of_part at n op))))

    spares_next : (op : LeafOp) (more : Answer → Program Answer) (answer : Answer) → Sparing (Asks op more) → said_as (Leaf op) answer → Sparing (more answer)
    spares_next (Fetch retry n t) more answer h k = h.2 answer k
    spares_next (Store retry b t) more answer h k = h.1 answer

    spares_proper : (op : LeafOp) (more : Answer → Program Answer) → Sparing (Asks op more) → IsProper (Leaf op)
    spares_proper (Fetch retry n t) more h = (h.0, h.1)
    spares_proper (Store retry b t) more h = h.0

    -- where those before it are so, an operation is proper
    pub proper_at : (at : List ℕ) (n : ℕ) (p : Program Answer) (x : Labelled Task) → Sparing p → Contains (asked at n p) x → ((q : Labelled Task) → Contains (asked at n p) q → Earlier q x → SaidAs o q) → IsProper x.op
    proper_at at n (Ends a) x h c k = absurd (all_contains (λ (y : Labelled Task). ⊥) [] x tt c)
    proper_at at n (Asks op more) x h c k =
        let v : Answer = answer_of_part at n op in
        let y : Labelled Task = part at n op in
        let rest : List (Labelled Task) = asked at (suc n) (more v) in
        let is : asked at n (Asks op more) ≡ y ∷ rest = asked_next at n op more in
        let earlier : (q : Labelled Task) → Contains (y ∷ rest) q → Earlier q x → SaidAs o q = λ q l e. k q (subst (λ (xs : List (Labelled Task)). Contains xs q) (sym is) l) e in
        ⊎_elim
        (λ (e : y ≡ x). subst (λ (z : Labelled Task). IsProper z.op) e (spares_proper op more h))
        (λ (later : Contains rest x).
        let under : Under at (suc n) x = all_contains (Under at (suc n)) rest x (asked_under at (suc n) (more v)) later in
        proper_at at (suc n) (more v) x (spares_next op more v h (earlier y (contains_first y rest) (sooner at n y x ([], whole (at ++ n ∷ [])) under))) later
        (λ q l e. earlier q (contains_later y rest q l) e))
        (contained_cases y rest x (subst (λ (xs : List (Labelled Task)). Contains xs x) is c))
