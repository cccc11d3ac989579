-- What a node gives back was found for it, or is of a block in use that a request frees.
use Rattle.std.proofs.Common.{ℕ, List, ◌++◌, Option, Some, None, ◌⊎◌, inl, inr, subst}
use Rattle.std.specs.Prelude.{Bool, true, false, Contains, IfSome, IsPermutation, is_none}
use Rattle.std.specs.List.{AllByRecursion}
use Rattle.std.proofs.lemmas.List.Elements.{Contains-append_cases, Contains-append_left, Contains-append_right}
use Rattle.std.proofs.lemmas.List.Sorted.{Contains-permutation, IsPermutation-sym}
use Rattle.std.proofs.lemmas.List.{append-nil}
use Rattle.zio_types.specs.declared.place.Place.{Place}
use Rattle.zio_types.specs.Choices.{Choice}
use Rattle.zio_places.proofs.PlaceLemmas.{Contains-nothing}
use Rattle.zio_cksum.proofs.AllLemmas.{all_contained, all_contains, all_weaker}
use Rattle.zio_script.specs.declared.script.Work.{Work}
use Rattle.zio_script.specs.declared.script.Work.TheVariants.{Null, Read, Write, Free, Claim}
use Rattle.zio_gang.specs.declared.tree.Tree.{Tree}
use Rattle.zio_gang.specs.Attempts.{Pending, Terms}
use Rattle.zio_gang.specs.Trees.{sizes_of, tree_places}
use Rattle.zio_trace.specs.Families.{Forest, flat}
use Rattle.zio_trace.specs.SoundRounds.{IsOwnBlock, IsSoundRound}
use Rattle.zio_trace.specs.Tasks.{Attempt, Task, Value}
use Rattle.zio_frames.specs.Frames.{Stack}
use Rattle.zio_frames.specs.OfRound.{IsTaskOf, IsTreeOf}
use Rattle.zio_exchange.specs.Outcomes.{freed_by, freed_if, freed_of, freed_with, held_by, made_by, stored_in}
use Rattle.zio_exchange.specs.declared.outcome.Outcome.{Outcome}
use Rattle.zio_exchange.specs.declared.outcome.Outcome.TheVariants.{Again, Finished as HasFinished, Found, Stored, Walked}
use Rattle.zio_exchange.specs.declared.outcome.FinishedRequest.{FinishedRequest}
use Rattle.zio_staged.specs.Parts.{Nodes}
use Rattle.zio_staged.specs.Stages.{AreItsOwn, may_free}

-- each node gives back its own alone
abbrev pub GivesOwn : {N : Type 0} → Nodes N → Type 0
GivesOwn {N = N} nodes = (t : Terms) (node : N) (st : Stack) → nodes.Is t node st → AreItsOwn (nodes.gave node) st

block_used : (t : Terms) (work : Work) (block : Option Tree) → IfSome block (IsOwnBlock (sizes_of t.setting.tops) t.used) → (p : Place)
    → Contains (freed_of work block) p → Contains t.used p
block_used t Null block own p c = absurd (Contains-nothing p c)
block_used t (Read name prio) block own p c = absurd (Contains-nothing p c)
block_used t (Write name sum copies prio body) block own p c = absurd (Contains-nothing p c)
block_used t (Claim name pointer) block own p c = absurd (Contains-nothing p c)
block_used t (Free name) None own p c = absurd (Contains-nothing p c)
block_used t (Free name) (Some tree) own p c =
    all_contains (Contains t.used) (tree_places tree) p own.sound.in_use
    (subst (λ (ps : List Place). Contains ps p) (append-nil (tree_places tree)) c)

-- a request's block that is freed is in use
pub request_used : (t : Terms) (sizes : ℕ → ℕ) (f : Forest) (q : Pending) (kids : Forest) → IsSoundRound t sizes f → IsTreeOf f q kids
    → (p : Place) → Contains (freed_of q.request.work q.block) p → Contains t.used p
request_used t sizes f q kids sound tree p c =
    let from = tree.from.0 in
    block_used t q.request.work q.block
    (subst (λ (b : Option Tree). IfSome b (IsOwnBlock (sizes_of t.setting.tops) t.used)) from.3
    (all_contains (λ (r : Pending). IfSome r.block (IsOwnBlock (sizes_of t.setting.tops) t.used)) (flat f) from.0 sound.blocks from.1)) p c

may_used : (t : Terms) (sizes : ℕ → ℕ) (f : Forest) (entries : List Choice) (op : Task) → IsSoundRound t sizes f → IsTaskOf t f entries op
    → (p : Place) → Contains (may_free op) p → Contains t.used p
may_used t sizes f entries (Attempt attempt q kids) sound task p c = request_used t sizes f q kids sound task p c
may_used t sizes f entries _ sound task p c = absurd (Contains-nothing p c)

own_by : (t : Terms) (sizes : ℕ → ℕ) (f : Forest) (entries : List Choice) (st : Stack) → IsSoundRound t sizes f
    → IsTaskOf t f entries st.outer.op → (p : Place) → Contains (held_by st ++ may_free st.outer.op) p
    → Contains (held_by st) p ⊎ Contains t.used p
own_by t sizes f entries st sound task p c = elim (Contains-append_cases (held_by st) (may_free st.outer.op) p c) [
  | inl held ↦ inl held
  | inr free ↦ inr (may_used t sizes f entries st.outer.op sound task p free)
]

-- of what it gave back this is the last
pub gone_own : (t : Terms) (sizes : ℕ → ℕ) (f : Forest) (entries : List Choice) (st : Stack) (before gone : List Place)
    → IsSoundRound t sizes f → IsTaskOf t f entries st.outer.op → AreItsOwn (before ++ gone) st
    → AllByRecursion (λ (p : Place). Contains (held_by st) p ⊎ Contains t.used p) gone
gone_own t sizes f entries st before gone sound task own =
    all_weaker (Contains gone) (λ (p : Place). Contains (held_by st) p ⊎ Contains t.used p) gone
    (λ p c. own_by t sizes f entries st sound task p
    (all_contains (Contains (held_by st ++ may_free st.outer.op)) (before ++ gone) p own (Contains-append_right before gone p c)))
    (all_contained gone)

freed_free : (op : Task) (f : FinishedRequest) (p : Place) → Contains (freed_with op f) p → Contains (may_free op) p
freed_free (Attempt attempt q kids) f p c = by (is_none f.error) c
  where
    by : (b : Bool) → Contains (freed_if b (freed_of q.request.work q.block)) p → Contains (freed_of q.request.work q.block) p
    by true c = c
    by false c = absurd (Contains-nothing p c)
freed_free _ f p c = absurd (Contains-nothing p c)

freed_may : {S : Type 0} (op : Task) (outcome : Outcome S) (p : Place) → Contains (freed_by op outcome) p → Contains (may_free op) p
freed_may op (HasFinished f) p c = freed_free op f p c
freed_may op (Again whole bits pointer) p c = absurd (Contains-nothing p c)
freed_may op (Found answer) p c = absurd (Contains-nothing p c)
freed_may op (Walked walked) p c = absurd (Contains-nothing p c)
freed_may op (Stored part) p c = absurd (Contains-nothing p c)

-- what it gives back as it ends
pub end_own : {S : Type 0} (t : Terms) (sizes : ℕ → ℕ) (f : Forest) (entries : List Choice) (st : Stack) (outcome : Outcome S) (v : Value)
    (gave gone : List Place) → IsSoundRound t sizes f → IsTaskOf t f entries st.outer.op
    → IsPermutation (held_by st ++ freed_by st.outer.op outcome) (gave ++ gone ++ made_by outcome ++ stored_in v)
    → AllByRecursion (λ (p : Place). Contains (held_by st) p ⊎ Contains t.used p) gone
end_own t sizes f entries st outcome v gave gone sound task places =
    all_weaker (Contains gone) (λ (p : Place). Contains (held_by st) p ⊎ Contains t.used p) gone own (all_contained gone)
  where
    own : (p : Place) → Contains gone p → Contains (held_by st) p ⊎ Contains t.used p
    own p c = elim (Contains-append_cases (held_by st) (freed_by st.outer.op outcome) p
        (Contains-permutation (gave ++ gone ++ made_by outcome ++ stored_in v) (held_by st ++ freed_by st.outer.op outcome) p
        (IsPermutation-sym (held_by st ++ freed_by st.outer.op outcome) (gave ++ gone ++ made_by outcome ++ stored_in v) places)
        (Contains-append_left (gave ++ gone ++ made_by outcome) (stored_in v) p
        (Contains-append_left (gave ++ gone) (made_by outcome) p (Contains-append_right gave gone p c))))) [
          | inl held ↦ inl held
          | inr freed ↦ inr (may_used t sizes f entries st.outer.op sound task p (freed_may st.outer.op outcome p freed))
        ]
