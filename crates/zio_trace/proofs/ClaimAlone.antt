-- A claim asks for no places, and is alone in its round; places are taken for a claim alone.
use Rattle.std.proofs.Common.{◌≡◌, ◌≢◌, ℕ, true, List, [], ◌∷◌, Option, Some, None, Contains, ⊎_elim, refl, sym, ◌∙◌, subst}
use Rattle.std.specs.List.{AllByRecursion}
use Rattle.zio_types.specs.Choices.{Ask, Choice}
use Rattle.zio_script.specs.declared.script.Work.{Work as Order}
use Rattle.zio_script.specs.declared.script.Work.TheVariants.{Null, Read as WorkRead, Write, Free, Claim}
use Rattle.zio_cksum.specs.Images.{Images}
use Rattle.zio_cksum.proofs.AllLemmas.{all_contained, all_contains, all_weaker}
use Rattle.zio_gang.specs.declared.tree.Tree.{Tree}
use Rattle.zio_gang.specs.Attempts.{Pending, Terms}
use Rattle.zio_gang.specs.Trees.{sizes_of}
use Rattle.zio_trace.specs.Conflicts.{is_single}
use Rattle.zio_trace.specs.Entries.{Recorded, RecordedBy}
use Rattle.zio_trace.specs.Families.{Forest, NoTrees, TreeOf, flat}
use Rattle.zio_trace.specs.Footprints.{OfBlock, OfWork, OnCopies, Within}
use Rattle.zio_trace.specs.Labels.{Labelled}
use Rattle.zio_trace.specs.Programs.{Deed}
use Rattle.zio_trace.specs.Rounds.{settles}
use Rattle.zio_trace.specs.Separate.{IsNoClaim}
use Rattle.zio_trace.specs.SoundRounds.{HasClaim, IsSoundRound, work_of}
use Rattle.zio_trace.specs.Stopped.{IsOfTasks}
use Rattle.zio_trace.specs.Tasks.{Find, Settle, TakePlaces, Task, Value}
use Rattle.zio_trace.specs.Underway.{Flight, IsClear, IsUnderway, StandsInTask, State, Work, flying_now}
use Rattle.zio_trace.proofs.ChoiceLemmas.{one_contained}
use Rattle.zio_trace.proofs.ClearTasks.{all_nth}
use Rattle.zio_trace.proofs.DoneWithin.{deeds_within}
use Rattle.zio_trace.proofs.EntryLemmas.{entries_may_come}
use Rattle.zio_trace.proofs.ReachLemmas.{own_reach}
use Rattle.zio_trace.proofs.SoundRoundLemmas.{first_tree, other_trees}
use Rattle.zio_trace.proofs.UnderwayDone.{own_within}

-- a claim asks for no places
claim_asks_none : (t : Terms) (j : List Choice) (p : Pending) (work : Order) (a : Ask) → (IsNoClaim work → ⊥) → OfWork (OnCopies t.setting) j t p work (Find a) → ⊥
claim_asks_none t j p Null a claim h = claim tt
claim_asks_none t j p (WorkRead name prio) a claim h = claim tt
claim_asks_none t j p (Write name sum copies prio body) a claim h = claim tt
claim_asks_none t j p (Free name) a claim h = claim tt
claim_asks_none t j p (Claim name pointer) a claim h = h

-- a round of which a request is a claim has that alone
alone_asks_none : (t : Terms) (sizes : ℕ → ℕ) (f : Forest) (j : List Choice) (p : Pending) (a : Ask) → IsSoundRound t sizes f → Contains (flat f) p → (IsNoClaim p.request.work → ⊥) → IsOfTasks j (work_of t sizes f) (Find a) → ⊥
alone_asks_none t sizes f j p a round c claim h =
    ⊎_elim
    (λ (all : AllByRecursion (λ (q : Pending). IsNoClaim q.request.work) (flat f)). claim (all_contains (λ (q : Pending). IsNoClaim q.request.work) (flat f) p all c))
    (λ (one : (q : Pending) × (f ≡ TreeOf q NoTrees NoTrees)). alone one.0 one.1)
    round.claims
  where
    alone : (q : Pending) → f ≡ TreeOf q NoTrees NoTrees → ⊥
    alone q is =
        let mine : q ≡ p = one_contained q p (subst (λ (g : Forest). Contains (flat g) p) is c) in
        let task : Settle q NoTrees ≡ h.0 = one_contained (Settle q NoTrees) h.0 (subst (λ (g : Forest). Contains (settles g) h.0) is h.1) in
        let may : Within j t (Settle q NoTrees) (Find a) = subst (λ (o : Task). Within j t o (Find a)) (sym task) h.2 in
        let who : q ≡ may.0 = one_contained q may.0 may.1 in
        claim_asks_none t j may.0 may.0.request.work a (λ none. claim (subst (λ (x : Pending). IsNoClaim x.request.work) (sym who ∙ mine) none)) may.2

none_by : (task : Task) (v : Value) (later : List Choice → Type 0) → ((a : Ask) → task ≢ Find a) → ((cs : List Choice) → later cs → cs ≡ []) → (cs : List Choice) → RecordedBy task v later cs → cs ≡ []
none_by (Find a) v later none rest cs h = absurd (none a refl)
none_by _ v later none rest cs h = rest cs h

-- without an ask there is no entry
no_asks : (ds : List (Deed (Labelled Task) Value)) (cs : List Choice) → ((a : Ask) → AllByRecursion (λ (d : Deed (Labelled Task) Value). d.op.op ≢ Find a) ds) → Recorded ds cs → cs ≡ []
no_asks [] cs none r = r
no_asks (d ∷ ds) cs none r = none_by d.op.op d.answer (Recorded ds) (λ a. (none a).0) (λ xs k. no_asks ds xs (λ a. (none a).1) k) cs r

-- In a round with a claim no places are asked for.
pub claim_makes_none : (t : Terms) (sizes : ℕ → ℕ) (f : Forest) (before : Option Images) (s : State) → IsSoundRound t sizes f → IsUnderway (work_of t sizes f) before s → HasClaim f → s.entries ≡ []
claim_makes_none t sizes f before s round under claim =
    let within = deeds_within (work_of t sizes f) before s s.entries under (entries_may_come (sizes_of t.setting.tops) t.used s.entries under.distinct under.lawful) in
    no_asks s.deeds s.entries (λ a.
    all_weaker (λ (d : Deed (Labelled Task) Value). IsOfTasks s.entries (work_of t sizes f) d.op.op) (λ (d : Deed (Labelled Task) Value). d.op.op ≢ Find a) s.deeds
    (λ d k e. alone_asks_none t sizes f s.entries claim.0 a round claim.1 claim.2 (subst (IsOfTasks s.entries (work_of t sizes f)) e k)) within) under.recorded

-- ---- places are taken for a claim alone

none_on_block : (t : Terms) (block : Option Tree) (tree : Tree) → OfBlock (OnCopies t.setting) block (TakePlaces tree) → ⊥
none_on_block t None tree h = h
none_on_block t (Some own) tree h = h.2

takes_claim : (t : Terms) (j : List Choice) (p : Pending) (work : Order) (tree : Tree) → OfWork (OnCopies t.setting) j t p work (TakePlaces tree) → IsNoClaim work → ⊥
takes_claim t j p Null tree h none = h
takes_claim t j p (WorkRead name prio) tree h none = none_on_block t p.block tree h
takes_claim t j p (Write name sum copies prio body) tree h none = h.1
takes_claim t j p (Free name) tree h none = none_on_block t p.block tree h
takes_claim t j p (Claim name pointer) tree h none = none

claim_in_trees : (t : Terms) (f g : Forest) (j : List Choice) (tree : Tree) → ((q : Pending) → Contains (flat g) q → Contains (flat f) q) → AllByRecursion (λ (q : Task). Within j t q (TakePlaces tree) → HasClaim f) (settles g)
claim_in_trees t f NoTrees j tree inside = tt
claim_in_trees t f (TreeOf p kids others) j tree inside = (
  (λ may. (may.0, inside may.0 (first_tree p kids others may.0 may.1), takes_claim t j may.0 may.0.request.work tree may.2)),
  claim_in_trees t f others j tree (λ q c. inside q (other_trees p kids others q c)),
)

-- in a round whose work takes places one of its requests is a claim
pub taken_for_claim : (t : Terms) (sizes : ℕ → ℕ) (f : Forest) (j : List Choice) (tree : Tree) → IsOfTasks j (work_of t sizes f) (TakePlaces tree) → HasClaim f
taken_for_claim t sizes f j tree h = all_contains (λ (q : Task). Within j t q (TakePlaces tree) → HasClaim f) (settles f) h.0 (claim_in_trees t f f j tree (λ q c. c)) h.1 h.2

-- what is in flight is of the work's tasks
pub flight_of_tasks : (w : Work) (before : Option Images) (s : State) (x : Flight) (others : List Flight) → IsUnderway w before (flying_now s (x ∷ others)) → is_single x.op.op ≡ true → IsOfTasks s.entries w x.op.op
flight_of_tasks w before s x others h single =
    let own : IsClear w s.deeds (x ∷ others) s.entries = h.clear s.entries (entries_may_come (sizes_of w.terms.setting.tops) w.terms.used s.entries h.distinct h.lawful) in
    let stands : StandsInTask s.entries w x = own.nested.whole.0 in (
      stands.2,
      all_nth (Contains w.tasks) w.tasks stands.0 stands.2 (all_contained w.tasks) stands.4,
      (stands.5 x.op (own_reach s.entries w.terms x.op (own_within w s.entries x.op.op single))).within,
    )
