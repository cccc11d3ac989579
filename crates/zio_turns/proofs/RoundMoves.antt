-- A round that an engine keeps, where one node goes on, waits, or goes to a leaf and comes back.
use Rattle.std.proofs.Common.{◌≡◌, ◌≢◌, ℕ, ◌+◌, ◌<◌, List, [], ◌∷◌, ◌++◌, length, Bool, true, false, Option, Some, None, ◌==◌, ◌&&◌, not, refl, sym, ap, ◌∙◌, subst, arith, ◌⊎◌}
use Rattle.zio_types.specs.declared.request.ChildKind.{ChildKind}
use Rattle.zio_types.specs.declared.request.ChildKind.TheVariants.{Vdev, Gang, Logical}
use Rattle.zio_types.specs.declared.request.Phase.{Phase}
use Rattle.zio_types.specs.declared.request.Phase.TheVariants.{Ready, Done}
use Rattle.zio_types.specs.Choices.{Choice}
use Rattle.std.proofs.lemmas.Bool.Decides.{nat_tests}
use Rattle.zio_types.specs.Machine.{Count, first_if}
use Rattle.zio_counts.specs.Tallies.{Tally, counted, first_counted, stalled}
use Rattle.zio_places.specs.Tables.{total}
use Rattle.zio_cksum.specs.Images.{Images}
use Rattle.zio_gang.specs.Attempts.{Terms}
use Rattle.zio_trace.specs.Families.{Forest}
use Rattle.zio_trace.specs.Entries.{AnswersOnLeaf}
use Rattle.zio_trace.specs.Leaves.{Answer, LeafOp}
use Rattle.zio_trace.specs.SoundRounds.{IsSoundRound}
use Rattle.zio_trace.specs.Tasks.{Got, Leaf}
use Rattle.zio_gang.specs.Journals.{AreLawful}
use Rattle.zio_gang.specs.Trees.{sizes_of}
use Rattle.zio_frames.specs.Frames.{Child, Flying, Stack, fresh_stack}
use Rattle.zio_frames.specs.Moves.{choices_of, done_at_once}
use Rattle.slab.specs.Slab.{Slab, Updates}
use Rattle.zio_exchange.specs.Outcomes.{held_by}
use Rattle.zio_exchange.specs.SpaceCalls.{SpaceCall, calls_by}
use Rattle.zio_turns.specs.Acts.{counting, with_ties}
use Rattle.zio_turns.specs.Engine.{IsKept}
use Rattle.zio_staged.specs.Entries.{CountsAre, OneMore, count_owing, flying_at, live_of}
use Rattle.zio_turns.specs.Desks.{backs_in, found_in}
use Rattle.zio_turns.specs.Ledgers.{gave_over}
use Rattle.zio_staged.specs.Parts.{Nodes, ended_in}
use Rattle.zio_turns.specs.Rounds.{AreRight, Before, KeepsRound, SoFar, choices_in, with_calls, with_images, with_op}
use Rattle.zio_turns.specs.Sizes.{HasAskedSize}
use Rattle.zio_turns.specs.Slabs.{held_of, shelf_of}
use Rattle.zio_staged.specs.Stages.{GoesOn, Stays, AreItsOwn}
use Rattle.zio_turns.specs.declared.entry.TiedNode.{TiedNode}
use Rattle.zio_turns.proofs.Callings.{WereRight, none_made, were_right}
use Rattle.zio_turns.proofs.ClaimLedger.{first_change}
use Rattle.zio_turns.proofs.ClaimMoves.{claims_go_on}
use Rattle.zio_turns.proofs.LedgerDids.{HasDone, does_itself, does_ops}
use Rattle.zio_turns.proofs.LedgerHands.{hands_does, hands_leaf}
use Rattle.zio_turns.proofs.LedgerMoves.{backs_did, found_did, ledger_changes, ledger_moves, ledger_stays, backs_are}
use Rattle.zio_turns.proofs.LedgerSlabs.{gave_more, gave_put}
use Rattle.zio_turns.proofs.LeafOps.{theirs_back, theirs_out, theirs_with}
use Rattle.zio_turns.proofs.Lives.{first_at, with_first}
use Rattle.zio_turns.proofs.MoveLeaf.{one_comes_back}
use Rattle.zio_turns.proofs.MoveOne.{leaf_now, one_goes_on, one_goes_to_leaf, one_waits, queued_now}
use Rattle.zio_turns.proofs.RoundNodes.{IsThere, does_children, still_as}
use Rattle.zio_turns.proofs.Shelves.{numbered_with, shelf_with}
use Rattle.zio_turns.proofs.SizeMoves.{answered_sizes, measured, measured_all}
use Rattle.zio_turns.proofs.LedgerOwns.{GivesOwn, gone_own}
use Rattle.zio_frames.specs.OfRound.{IsTaskOf}
use Rattle.std.specs.List.{AllByRecursion}
use Rattle.std.specs.Prelude.{Contains}
use Rattle.zio_types.specs.declared.place.Place.{Place}

not_zero : (n : ℕ) → n ≢ 0 → (n == 0) ≡ false
not_zero n h = grind (arith, nat_tests)

first_there : (n : ℕ) (count : Count) → n ≢ 0 → first_if (true && not (n == 0)) count None ≡ Some count
first_there n count h = ap (λ (b : Bool). first_if (true && not b) count None) (not_zero n h)

-- the first count of one kind is that which isn't 0
pub one_counted : (kind : ChildKind) (phase : Phase) (x : Tally) → counted kind phase x ≢ 0
    → first_counted (kind ∷ []) phase x ≡ Some (record { kind = kind; phase = phase })
one_counted Vdev Ready x h = absurd (h refl)
one_counted Vdev Done x h = first_there x.vdev_done (record { kind = Vdev; phase = Done }) h
one_counted Gang Ready x h = first_there x.gang_ready (record { kind = Gang; phase = Ready }) h
one_counted Gang Done x h = first_there x.gang_done (record { kind = Gang; phase = Done }) h
one_counted Logical Ready x h = first_there x.logical_ready (record { kind = Logical; phase = Ready }) h
one_counted Logical Done x h = first_there x.logical_done (record { kind = Logical; phase = Done }) h

pub some_owing : (kind : ChildKind) (phase : Phase) (x : Tally) (cs : List Child) → CountsAre x cs
    → 0 < count_owing kind phase cs → counted kind phase x ≢ 0
some_owing kind phase x cs are owing z =
    let same : counted kind phase x ≡ count_owing kind phase cs = are kind phase in
    absurd (omega arith)

module _ {N : Type 0} (nodes : Nodes N) (t : Terms) (sizes : ℕ → ℕ) (f : Forest) (before : Before)
    (s : SoFar) (slab slab_now : Slab (TiedNode N)) (queue leaves : List ℕ) (key : ℕ) (e : TiedNode N) where
  abbrev There : Type 0
  There = IsThere {N = N} nodes t sizes f before s slab queue leaves key e

  abbrev Now : SoFar → List ℕ → List ℕ → Type 0
  Now s_now queue_now leaves_now = KeepsRound {N = N} nodes t sizes f before s_now slab_now queue_now leaves_now

  -- it does several things itself
  pub round_goes_on : GivesOwn {N = N} nodes → IsSoundRound t sizes f → (r : There) → (rest : List ℕ) → OneMore key rest queue
      → (calls : List SpaceCall)
      → AreRight t s.entries calls → (node : N) → GoesOn {N = N} nodes nodes.gave t e.node r.node.stack calls node → nodes.due node
      → Updates slab slab_now key (Some (with_ties {N = N} node e.ties)) → Now (with_calls s calls) queue leaves
  round_goes_on owns sound r rest more calls right node g due put =
      let were : WereRight t s.entries calls g.dids = were_right t s.entries calls g.dids g.gone g.calls_are right in
      let lawful = subst (λ (cs : List Choice). AreLawful (sizes_of t.setting.tops) t.used (cs ++ choices_of g.dids))
      (sym r.entries_are) were.lawful in
      let y : Flying = record { at = r.node.at; stack = g.stack } in
      let done : HasDone r.node.stack g.stack (calls_by g.dids) =
      does_itself t g.dids r.node.stack g.stack g.does g.opens r.seated r.ledger.hands.0 in
      record {
        lives = live_of key y ∷ r.others;
        still = still_as nodes t sizes f before s.trees s.tops (live_of key y ∷ r.others) (shelf_of {N = N} slab_now) queue leaves
            (r.state.entries ++ choices_of g.dids) (s.entries ++ choices_in calls) r.state.images s.images
            (one_goes_on nodes t sizes f before s.trees s.tops key r.node r.others (shelf_of {N = N} slab) queue leaves r.state
            (held_of {N = N} e) sound r.kept r.held rest more g.dids g.stack g.does were.claims lawful node g.is g.told
            due (shelf_of {N = N} slab_now) (shelf_with slab slab_now key (with_ties {N = N} node e.ties) put))
            (ap (λ (cs : List Choice). cs ++ choices_of g.dids) r.entries_are
            ∙ ap (λ (cs : List Choice). s.entries ++ cs) (sym were.same))
            r.images_are;
        numbered = numbered_with slab slab_now key (with_ties {N = N} node e.ties) (flying_at (live_of key r.node ∷ r.others))
            (flying_at (live_of key y ∷ r.others)) y put (with_first key r.node y r.others)
            (r.given ∙ ap (λ (cs : List Child). length cs) (sym (does_children t g.dids r.node.stack g.stack g.does))) r.numbered;
        theirs = theirs_with (flying_at (live_of key r.node ∷ r.others)) (flying_at (live_of key y ∷ r.others)) leaves s.ops key
            (Some y) (with_first key r.node y r.others)
            (queued_now nodes t sizes f before s.trees s.tops key r.node r.others (shelf_of {N = N} slab) queue leaves
            r.state (held_of {N = N} e) rest r.kept r.held more).1
            r.theirs;
        ledger = ledger_moves nodes t f s.books s.entries s.tops s.trees slab slab_now calls key r.node y r.others r.ledger done.ended
            (λ w. done.held w ∙ ap (λ (n : ℕ). total w (held_by r.node.stack) + n)
            (sym (ap (λ (cs : List SpaceCall). total w (found_in cs)) g.calls_are ∙ found_did w g.dids g.gone)))
            (hands_does t g.dids r.node.stack g.stack g.does g.opens r.ledger.hands.0)
            (measured_all t r.seen g.dids r.node.stack g.stack g.does
            (measured t f r.seen r.node.stack r.seated r.of_round r.ledger.sizes.0)).sizes
            (subst (AllByRecursion (λ (p : Place). Contains (held_by g.stack) p ⊎ Contains t.used p))
            (sym (ap backs_in g.calls_are ∙ backs_are g.dids g.gone))
            (gone_own t sizes f r.seen g.stack (nodes.gave e.node) g.gone sound
            (subst (IsTaskOf t f r.seen) (sym (does_ops t g.dids r.node.stack g.stack g.does)) r.of_round.outer.task)
            (subst (λ (ps : List Place). AreItsOwn ps g.stack) g.gave_more (owns t node g.stack g.is))))
            (λ w. gave_more nodes slab slab_now key w e (with_ties {N = N} node e.ties) g.gone r.there put g.gave_more
            ∙ ap (λ (n : ℕ). gave_over {N = N} nodes w slab + n)
            (sym (ap (λ (cs : List SpaceCall). total w (backs_in cs)) g.calls_are ∙ backs_did w g.dids g.gone)))
            (λ ended. done.rests f ended)
            (claims_go_on nodes t sizes f before s slab queue leaves key e sound r calls g.dids g.gone g.stack g.calls_are g.does
            lawful g.stack (omega arith) refl);
      }

  -- it stalls on a count that isn't 0
  pub round_waits : (r : There) → (rest : List ℕ) → OneMore key rest queue → (calls : List SpaceCall) (kind : ChildKind)
      (phase : Phase) → 0 < count_owing kind phase r.node.stack.children → (node : N)
      → Stays {N = N} nodes nodes.gave t e.node r.node.stack calls node → nodes.due node
      → Updates slab slab_now key (Some (with_ties {N = N} node
      (counting e.ties (stalled (first_counted (kind ∷ []) phase e.ties.counts) e.ties.counts))))
      → Now (with_calls s calls) rest leaves
  round_waits r rest more calls kind phase owing node stays due put =
      let count : Count = record { kind = kind; phase = phase } in
      let some : counted kind phase e.ties.counts ≢ 0 =
      some_owing kind phase e.ties.counts r.node.stack.children r.counts owing in
      let first : first_counted (kind ∷ []) phase e.ties.counts ≡ Some count = one_counted kind phase e.ties.counts some in
      let now : TiedNode N = with_ties {N = N} node (counting e.ties (stalled (Some count) e.ties.counts)) in
      let put_now : Updates slab slab_now key (Some now) =
      subst (λ (c : Option Count). Updates slab slab_now key
      (Some (with_ties {N = N} node (counting e.ties (stalled c e.ties.counts))))) first put in
      record {
        lives = live_of key r.node ∷ r.others;
        still = still_as nodes t sizes f before s.trees s.tops (live_of key r.node ∷ r.others) (shelf_of {N = N} slab_now) rest leaves
            r.state.entries (s.entries ++ choices_in calls) r.state.images s.images
            (one_waits nodes t sizes f before s.trees s.tops key r.node r.others (shelf_of {N = N} slab) queue leaves r.state
            (held_of {N = N} e) r.kept r.held rest more count some node stays.is stays.told due (shelf_of {N = N} slab_now)
            (shelf_with slab slab_now key now put_now))
            (r.entries_are ∙ none_made s.entries calls stays.no_calls) r.images_are;
        numbered = numbered_with slab slab_now key now (flying_at (live_of key r.node ∷ r.others))
            (flying_at (live_of key r.node ∷ r.others)) r.node put_now (with_first key r.node r.node r.others) r.given r.numbered;
        theirs = r.theirs;
        ledger = ledger_stays nodes t f s.books s.entries s.tops s.trees slab slab_now calls (live_of key r.node ∷ r.others) r.ledger
            stays.no_calls (λ w. gave_put nodes slab slab_now key w e now r.there put_now stays.gave_same);
      }

  -- its operation goes to a leaf
  pub round_goes_to_leaf : (r : There) → (rest : List ℕ) → OneMore key rest queue → (calls : List SpaceCall) → (act : LeafOp)
      → r.node.stack ≡ fresh_stack (Leaf act) → (node : N)
      → Stays {N = N} nodes nodes.gave t e.node r.node.stack calls node
      → Updates slab slab_now key (Some (with_ties {N = N} node e.ties)) → (leaves_now : List ℕ) → OneMore key leaves leaves_now
      → Now (with_op (with_calls s calls) key act) rest leaves_now
  round_goes_to_leaf r rest more calls act fresh node stays put leaves_now more_leaves =
      let now : TiedNode N = with_ties {N = N} node e.ties in
      record {
        lives = live_of key r.node ∷ r.others;
        still = still_as nodes t sizes f before s.trees s.tops (live_of key r.node ∷ r.others) (shelf_of {N = N} slab_now) rest leaves_now
            r.state.entries (s.entries ++ choices_in calls) r.state.images s.images
            (one_goes_to_leaf nodes t sizes f before s.trees s.tops key r.node r.others (shelf_of {N = N} slab) queue leaves
            r.state (held_of {N = N} e) r.kept r.held rest more act fresh leaves_now more_leaves node stays.is stays.told
            (shelf_of {N = N} slab_now) (shelf_with slab slab_now key now put))
            (r.entries_are ∙ none_made s.entries calls stays.no_calls) r.images_are;
        numbered = numbered_with slab slab_now key now (flying_at (live_of key r.node ∷ r.others))
            (flying_at (live_of key r.node ∷ r.others)) r.node put (with_first key r.node r.node r.others) r.given r.numbered;
        theirs = theirs_out (flying_at (live_of key r.node ∷ r.others)) leaves leaves_now s.ops key r.node act
            (first_at (live_of key r.node) r.others) fresh more_leaves r.theirs;
        ledger = ledger_stays nodes t f s.books s.entries s.tops s.trees slab slab_now calls (live_of key r.node ∷ r.others) r.ledger
            stays.no_calls (λ w. gave_put nodes slab slab_now key w e now r.there put stays.gave_same);
      }

  -- the leaf answered
  pub round_comes_back : IsSoundRound t sizes f → (r : There) → (rest : List ℕ) → OneMore key rest leaves → (act : LeafOp)
      → r.node.stack ≡ fresh_stack (Leaf act) → (a : Answer) (after : Images) → HasAskedSize act a
      → AnswersOnLeaf t before act s.images a after
      → (node : N) → nodes.Is t node (done_at_once (fresh_stack (Leaf act)) (Leaf act) (Got a))
      → nodes.told node ≡ nodes.told e.node → nodes.gave node ≡ nodes.gave e.node → nodes.due node
      → Updates slab slab_now key (Some (with_ties {N = N} node e.ties)) → (queue_now : List ℕ) → OneMore key queue queue_now
      → Now (with_images s after) queue_now rest
  round_comes_back sound r rest more act fresh a after full answers node is told gave due put queue_now more_queue =
      let x : Flying = record { at = r.node.at; stack = fresh_stack (Leaf act) } in
      let is_x : r.node ≡ x = λ i. record { at = r.node.at; stack = fresh i } in
      let now : TiedNode N = with_ties {N = N} node e.ties in
      let y : Flying = record { at = r.node.at; stack = done_at_once (fresh_stack (Leaf act)) (Leaf act) (Got a) } in
      record {
        lives = live_of key y ∷ r.others;
        still = still_as nodes t sizes f before s.trees s.tops (live_of key y ∷ r.others) (shelf_of {N = N} slab_now) queue_now rest
            r.state.entries s.entries after after
            (one_comes_back nodes t sizes f before s.trees s.tops key r.node.at act r.others (shelf_of {N = N} slab) queue leaves
            r.state (held_of {N = N} e) sound
            (subst (λ (z : Flying). IsKept {N = N} nodes t sizes f before s.trees s.tops (live_of key z ∷ r.others)
            (shelf_of {N = N} slab) queue leaves r.state) is_x r.kept)
            r.held rest more a after
            (subst (λ (i : Images). AnswersOnLeaf t before act i a after) (sym r.images_are) answers) node is told
            due (shelf_of {N = N} slab_now) (shelf_with slab slab_now key now put) queue_now more_queue)
            r.entries_are refl;
        numbered = numbered_with slab slab_now key now (flying_at (live_of key r.node ∷ r.others))
            (flying_at (live_of key y ∷ r.others)) y put (with_first key r.node y r.others)
            (r.given ∙ ap (λ (st : Stack). length st.children) fresh) r.numbered;
        theirs = theirs_back (flying_at (live_of key r.node ∷ r.others)) (flying_at (live_of key y ∷ r.others)) leaves rest s.ops key
            (Some y) (with_first key r.node y r.others) more
            (leaf_now nodes t sizes f before s.trees s.tops key r.node r.others (shelf_of {N = N} slab) queue leaves r.state
            (held_of {N = N} e) rest r.kept r.held more).2
            r.theirs;
        ledger = ledger_changes nodes t f s.books s.entries s.tops s.trees slab slab_now key r.node y r.others r.ledger
            (sym (ap ended_in fresh)) (sym (ap held_by fresh)) (hands_leaf act (Got a)) (answered_sizes act a full)
            (λ w. gave_put nodes slab slab_now key w e now r.there put gave) (λ ended h. record { own = tt; heard = (tt, tt) })
            (first_change f s.books.claimed s.tops (live_of key r.node) (live_of key y) r.others s.books.claimed r.ledger.claims
            r.ledger.claims.alone (λ h. omega arith) (λ part. tt));
      }
