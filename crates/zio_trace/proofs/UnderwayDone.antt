-- A single operation is done: on its leaf, or by the space.
use Rattle.std.proofs.Common.{◌≡◌, ℕ, true, List, [], ◌∷◌, ◌++◌, length, map, Option, Contains, refl, sym, ap, ◌∙◌, subst, append-nil}
use Rattle.zio_types.specs.Choices.{Ask, Choice}
use Rattle.zio_types.specs.Places.{are_open}
use Rattle.zio_cksum.specs.Images.{Images}
use Rattle.zio_cksum.proofs.AllLemmas.{all_append, all_weaker}
use Rattle.zio_gang.specs.declared.tree.Tree.{Tree}
use Rattle.zio_gang.specs.Journals.{AreLawful}
use Rattle.zio_gang.specs.Trees.{sizes_of, tree_places}
use Rattle.zio_trace.specs.Conflicts.{TaskLies, is_single}
use Rattle.zio_trace.specs.Engines.{reach_in}
use Rattle.zio_trace.specs.Entries.{AnswersOnLeaf, Recorded, RecordedBy, answer_to, any_rules, any_ways}
use Rattle.zio_trace.specs.Footprints.{Within}
use Rattle.zio_trace.specs.Labels.{Labelled, ways_at}
use Rattle.zio_trace.specs.Leaves.{Answer, LeafOp}
use Rattle.zio_trace.specs.Passing.{Passes}
use Rattle.zio_trace.specs.Programs.{Asks, Deed, Ends}
use Rattle.zio_trace.specs.Tasks.{Find, Got, Leaf, TakePlaces, Taken, Task, Value}
use Rattle.zio_trace.specs.Underway.{Comes, Flight, IsFlying, IsLeft, IsSound, IsUnderway, StandsInTask, State, WasHandedOut, Work, after_deed, flying_now, ops_out, plan_at, plan_each, seat_of, slot_of}
use Rattle.zio_trace.proofs.ClearLemmas.{clear_does, clear_of}
use Rattle.zio_trace.proofs.ClearTasks.{all_nth}
use Rattle.zio_trace.proofs.EntryLemmas.{entries_may_come}
use Rattle.zio_trace.proofs.FinishLemmas.{going_does}
use Rattle.zio_trace.proofs.FlightLemmas.{flying_did, flying_more, plan_single}
use Rattle.zio_trace.proofs.LinkLemmas.{linked_same}
use Rattle.zio_trace.proofs.MoreDone.{PassByIf, comes_at_all, comes_sooner, going_distinct, pass_by_any, pass_more_if, pass_on_leaf, recorded_more}
use Rattle.zio_trace.proofs.NestLemmas.{nested_same}
use Rattle.zio_trace.proofs.OnceKeys.{any_laws}
use Rattle.zio_trace.proofs.OracleLemmas.{sure_more}
use Rattle.zio_trace.proofs.ReachLemmas.{own_reach}
use Rattle.zio_trace.proofs.UnderwayOut.{Going, whole}

-- a single operation does itself
pub own_within : (w : Work) (j : List Choice) (task : Task) → is_single task ≡ true → Within j w.terms task task
own_within w j (Leaf act) e = refl
own_within w j (Find a) e = refl
own_within w j (TakePlaces tree) e = refl
own_within w j _ e = absurd (cc)

module _ (w : Work) (before : Option Images) where
  -- it lies on its leaf
  pub op_lies : (j : List Choice) (x : Flight) → IsSound w → Comes w [] j → is_single x.op.op ≡ true → StandsInTask j w x → TaskLies w.sizes x.op.op
  op_lies j x sound comes e h =
      all_nth (λ (q : Task). (d : Task) → is_single d ≡ true → Within j w.terms q d → TaskLies w.sizes d) w.tasks h.0 h.2 (sound.lies j comes) h.4 x.op.op e
      (h.5 x.op (own_reach j w.terms x.op (own_within w j x.op.op e))).within

  work_did : (s : State) (x : Flight) (others : List Flight) (v : Value) (more : List Choice) (after : Images) → IsSound w → IsUnderway w before (flying_now s (x ∷ others))
      → is_single x.op.op ≡ true → x.rest ≡ plan_at w.terms x.op → RecordedBy x.op.op v (λ cs. cs ≡ []) more
      → AreLawful (sizes_of w.terms.setting.tops) w.terms.used (s.entries ++ more) → PassByIf w.terms before x.op.op v s.images after
      → IsUnderway w before (after_deed s x others v (s.entries ++ more) after)
  work_did s x others v more after sound h single fresh recorded lawful pass =
      let d : Deed (Labelled Task) Value = record { op = x.op; answer = v } in
      let now : Flight = record { op = x.op; rest = Ends v; outs = []; next = x.next } in
      let none : x.outs ≡ [] = (h.flying.0.single single).0 in
      let rest : x.rest ≡ Asks x.op (λ u. Ends u) = fresh ∙ plan_single w.terms x.op single in
      let comes = entries_may_come (sizes_of w.terms.setting.tops) w.terms.used s.entries h.distinct h.lawful in
      let own = h.clear s.entries comes in
      let reach = own_reach s.entries w.terms x.op (own_within w s.entries x.op.op single) in
      let lies : TaskLies w.sizes x.op.op = op_lies s.entries x sound (comes_at_all w s.entries s.entries comes) single own.nested.whole.0 in
      let going : Going w before (s.deeds ++ d ∷ []) (slot_of now ∷ map slot_of others) s.root (length s.outs) =
      subst (λ (n : ℕ). Going w before (s.deeds ++ d ∷ []) (record { op = x.op; rest = Ends v; outs = n } ∷ map slot_of others) s.root (length s.outs)) (ap length none)
      (going_does (any_rules w.terms w.sizes) (any_laws w.terms w.sizes) (Passes w.terms.setting w.shared) (plan_each w.tasks) s.deeds (slot_of x) (map slot_of others) s.root (length s.outs) x.op (λ u. Ends u) v
      h.going (ap length none) rest single lies (λ i. v) (clear_of (reach_in s.entries w.terms w.shared) s.deeds (seat_of x) (map seat_of others) own.clear reach)) in
      let recorded_now : Recorded (s.deeds ++ d ∷ []) (s.entries ++ more) = recorded_more s.deeds d s.entries more h.recorded recorded in
      record {
        going = going;
        flying = (flying_did w.terms (s.deeds ++ d ∷ []) x v single, all_weaker (IsFlying w.terms s.deeds) (IsFlying w.terms (s.deeds ++ d ∷ [])) others (λ y k. flying_more w.terms s.deeds (d ∷ []) y k) h.flying.1);
        root = sure_more (ways_at (any_ways w.terms)) (λ o. IsLeft o [] (whole w before) s.root s.outs s.next) s.deeds (d ∷ []) h.root;
        linked = linked_same x (Ends v) [] x.next others s.outs (ap ops_out (sym none)) h.linked;
        done_below = all_append (λ (e : Deed (Labelled Task) Value). WasHandedOut s.next e.op.at) s.deeds (d ∷ []) h.done_below (h.flown_below.0, tt);
        flown_below = h.flown_below;
        clear = λ j later.
            let k = h.clear j (comes_sooner w s.entries more j later) in
            record {
              clear = clear_does (reach_in j w.terms w.shared) s.deeds (seat_of x) v (map seat_of others) k.clear (own_reach j w.terms x.op (own_within w j x.op.op single));
              nested = nested_same j w x (Ends v) [] x.next others (λ c m. subst (λ (cs : List _). Contains (ops_out cs) c) none m) k.nested;
            };
        recorded = recorded_now;
        lawful = lawful;
        distinct = going_distinct w (Passes w.terms.setting w.shared) (s.deeds ++ d ∷ []) (slot_of now ∷ map slot_of others) s.root (length s.outs) (s.entries ++ more) sound.once going recorded_now;
        pass = pass_more_if w.terms s.deeds d before s.images after h.pass pass;
      }

  -- without a new entry
  work_did_alone : (s : State) (x : Flight) (others : List Flight) (v : Value) (after : Images) → IsSound w → IsUnderway w before (flying_now s (x ∷ others))
      → is_single x.op.op ≡ true → x.rest ≡ plan_at w.terms x.op → RecordedBy x.op.op v (λ cs. cs ≡ []) []
      → PassByIf w.terms before x.op.op v s.images after → IsUnderway w before (after_deed s x others v s.entries after)
  work_did_alone s x others v after sound h single fresh recorded pass =
      let same : s.entries ++ [] ≡ s.entries = append-nil s.entries in
      subst (λ (cs : List Choice). IsUnderway w before (after_deed s x others v cs after)) same
      (work_did s x others v [] after sound h single fresh recorded (subst (AreLawful (sizes_of w.terms.setting.tops) w.terms.used) (sym same) h.lawful) pass)

  pub work_on_leaf : (s : State) (x : Flight) (others : List Flight) (act : LeafOp) (a : Answer) (after : Images) → IsSound w → IsUnderway w before (flying_now s (x ∷ others)) → x.op.op ≡ Leaf act
      → x.rest ≡ plan_at w.terms x.op → AnswersOnLeaf w.terms before act s.images a after
      → IsUnderway w before (after_deed s x others (Got a) s.entries after)
  work_on_leaf s x others act a after sound h is fresh answers =
      let v : Value = Got a in
      work_did_alone s x others v after sound h (ap is_single is) fresh
      (subst (λ (task : Task). RecordedBy task v (λ cs. cs ≡ []) []) (sym is) refl)
      (subst (λ (task : Task). PassByIf w.terms before task v s.images after) (sym is) (pass_on_leaf w.terms before act s.images a after answers))

  pub work_takes : (s : State) (x : Flight) (others : List Flight) (tree : Tree) → IsSound w → IsUnderway w before (flying_now s (x ∷ others)) → x.op.op ≡ TakePlaces tree → x.rest ≡ plan_at w.terms x.op
      → IsUnderway w before (after_deed s x others (Taken (are_open w.terms.used (tree_places tree))) s.entries s.images)
  work_takes s x others tree sound h is fresh =
      let v : Value = Taken (are_open w.terms.used (tree_places tree)) in
      work_did_alone s x others v s.images sound h (ap is_single is) fresh
      (subst (λ (task : Task). RecordedBy task v (λ cs. cs ≡ []) []) (sym is) refl)
      (subst (λ (task : Task). PassByIf w.terms before task v s.images s.images) (sym is) (pass_by_any w.terms before (TakePlaces tree) v s.images s.images (refl, refl)))

  pub work_finds : (s : State) (x : Flight) (others : List Flight) (a : Ask) (c : Choice) → IsSound w → IsUnderway w before (flying_now s (x ∷ others)) → x.op.op ≡ Find a → x.rest ≡ plan_at w.terms x.op
      → c.asked ≡ a → AreLawful (sizes_of w.terms.setting.tops) w.terms.used (s.entries ++ c ∷ []) → IsUnderway w before (after_deed s x others (answer_to c) (s.entries ++ c ∷ []) s.images)
  work_finds s x others a c sound h is fresh asked lawful =
      work_did s x others (answer_to c) (c ∷ []) s.images sound h (ap is_single is) fresh
      (subst (λ (task : Task). RecordedBy task (answer_to c) (λ cs. cs ≡ []) (c ∷ [])) (sym is) (asked, refl, refl))
      lawful
      (subst (λ (task : Task). PassByIf w.terms before task (answer_to c) s.images s.images) (sym is) (pass_by_any w.terms before (Find a) (answer_to c) s.images s.images refl))
