-- A round that an engine keeps, where a node ends.
use Rattle.std.proofs.Common.{refl, ◌≡◌, ◌≢◌, ℕ, ◌+◌, List, [], ◌∷◌, ◌++◌, slice_set, true, false, Option, Some, None, sym, ap, ◌∙◌, ◌⊎◌}
use Rattle.zio_types.specs.declared.place.Place.{Place}
use Rattle.zio_types.specs.declared.place.Top.{Top}
use Rattle.zio_types.specs.declared.request.Phase.TheVariants.{Done}
use Rattle.zio_types.specs.Choices.{Ask, Choice}
use Rattle.zio_counts.specs.Tallies.{counted, is_last, notified}
use Rattle.zio_places.specs.Tables.{total}
use Rattle.zio_gang.specs.Attempts.{Terms}
use Rattle.zio_trace.specs.Families.{Forest}
use Rattle.zio_trace.specs.Footprints.{FitsTask}
use Rattle.zio_trace.specs.Tasks.{Find}
use Rattle.zio_frames.specs.Frames.{Child, Flying, needs_none}
use Rattle.zio_frames.specs.Moves.{child_ended, heard_of}
use Rattle.zio_frames.specs.OfRound.{FitsWhichever}
use Rattle.zio_exchange.specs.SpaceCalls.{SpaceCall}
use Rattle.zio_exchange.specs.Outcomes.{held_by}
use Rattle.zio_exchange.specs.declared.outcome.Outcome.{Outcome}
use Rattle.slab.specs.Slab.{Slab, Updates, get}
use Rattle.zio_turns.specs.Acts.{AwaitsEnd, NodeHeard, counting, with_ties}
use Rattle.zio_staged.specs.Entries.{Live, OfNode, OfTree, OneMore, flying_at, live_of}
use Rattle.zio_turns.specs.Found.{DoesAsked, IsChildOf, IsTreeFound}
use Rattle.zio_turns.specs.Ledgers.{IsOfTree}
use Rattle.zio_staged.specs.Parts.{Nodes}
use Rattle.zio_turns.specs.Rounds.{Before, EndsAs, KeepsRound, SoFar, TreeHears, choices_in, with_calls, with_done}
use Rattle.zio_turns.specs.Slabs.{AreAll, held_of, shelf_of}
use Rattle.zio_staged.specs.Stages.{Ends, Hears}
use Rattle.zio_turns.specs.declared.entry.TiedNode.{TiedNode}
use Rattle.zio_turns.proofs.ActLemmas.{woken}
use Rattle.zio_turns.proofs.ClaimLedger.{first_ends}
use Rattle.zio_turns.proofs.ClaimMoves.{claim_leaves, tree_heard}
use Rattle.zio_turns.proofs.ClaimTurns.{claim_alone}
use Rattle.zio_turns.proofs.Callings.{choices_did}
use Rattle.zio_turns.proofs.DoesLemmas.{append_none}
use Rattle.zio_frames.proofs.HeardParts.{fits_each as fits_every}
use Rattle.zio_turns.proofs.Finds.{tree_found}
use Rattle.zio_turns.proofs.FoundFits.{one_asked, one_value, tree_asked, tree_seated}
use Rattle.zio_turns.proofs.HearLemmas.{some_more, told_all}
use Rattle.zio_turns.proofs.MoveEnd.{one_counts, one_ends, one_fits}
use Rattle.zio_turns.proofs.MoveEndTree.{one_ends_tree, tree_fits}
use Rattle.zio_turns.proofs.RoundNodes.{IsThere, still_as, without_first}
use Rattle.zio_turns.proofs.RoundParents.{HasAbove, IsAbove, has_above, is_above}
use Rattle.zio_turns.proofs.RoundTells.{length_set}
use Rattle.zio_turns.proofs.LeafOps.{theirs_parent, theirs_without}
use Rattle.zio_turns.proofs.LedgerEnds.{IsMore, PlacesEnd, more_ended, places_end}
use Rattle.zio_turns.proofs.LedgerHands.{hands_heard}
use Rattle.zio_turns.proofs.LedgerHears.{heard_within, hears_it as hears_value}
use Rattle.zio_turns.proofs.LedgerMoves.{ledger_ends, ledger_root_ends}
use Rattle.zio_turns.proofs.LedgerSlabs.{gave_gone, gave_put}
use Rattle.zio_turns.proofs.LedgerTrees.{asked_logical, heard_tree, none_within, top_slice, tree_places_none}
use Rattle.zio_turns.proofs.Lives.{first_at, with_first}
use Rattle.zio_turns.proofs.RestLemmas.{EndLeaves, end_leaves}
use Rattle.zio_turns.proofs.Shelves.{numbered_with, numbered_without, shelf_two, shelf_without}
use Rattle.zio_turns.proofs.SizeLemmas.{EndSizes, end_sizes}
use Rattle.zio_turns.proofs.LedgerOwns.{end_own}
use Rattle.std.specs.List.{AllByRecursion}
use Rattle.std.specs.Prelude.{Contains}
use Rattle.zio_trace.specs.SoundRounds.{IsSoundRound}

module _ {N S : Type 0} (nodes : Nodes N) (over : List Top → N → Type 0) (t : Terms) (sizes : ℕ → ℕ) (f : Forest)
    (before : Before) (s : SoFar) (slab out : Slab (TiedNode N)) (queue leaves : List ℕ) (key : ℕ) (e : TiedNode N) (calls : List SpaceCall)
    (outcome : Outcome S)
    (r : IsThere {N = N} nodes t sizes f before s slab queue leaves key e)
    (ends : Ends {N = N} nodes nodes.gave t e.node r.node.stack calls outcome)
    (finds : (a : Ask) → r.node.stack.outer.op ≢ Find a)
    (taken : Updates slab out key None) where
  -- nothing but places is given back
  same_entries : s.entries ≡ s.entries ++ choices_in calls
  same_entries =
      sym (append_none s.entries)
      ∙ ap (λ (cs : List Choice). s.entries ++ cs) (sym (ap choices_in ends.calls_are ∙ choices_did [] ends.gone))

  -- it told its pointer before
  did_tell : (q : Flying) (c : Child) → DoesAsked {N = N} (held_of {N = N} e) r.node q c → needs_none e.ties.kind ≡ false
      → nodes.told e.node ≡ true
  did_tell q c asked needs = ends.told (ap needs_none (sym asked.kind) ∙ needs)

  told_now : (q : Flying) (n : ℕ) (c : Child) → DoesAsked {N = N} (held_of {N = N} e) r.node q c
      → IsChildOf {N = N} nodes (held_of {N = N} e) r.node.at q n c → c.told ≡ true
  told_now q n c asked does = does.heard ∙ told_all e.ties.kind (nodes.told e.node) (λ needs. did_tell q c asked needs)

  value_fits : FitsWhichever t r.state.entries r.node.stack.outer.op ends.value
  value_fits =
      one_value nodes t sizes f before s.trees s.tops (shelf_of {N = N} slab) queue leaves r.state key r.node r.others ends.value
      r.kept ends.ends

  fits_each : (journal : List Choice) → FitsTask journal t r.node.stack.outer.op ends.value
  fits_each journal = fits_every t r.state.entries r.node.stack.outer.op ends.value finds value_fits journal

  pub ends_as : EndsAs t r.node.stack.outer.op outcome ends.value
  ends_as = record {
    stack = r.node.stack;
    does = refl;
    ends = ends.ends;
    shows = ends.shows;
    ended = ends.ended;
    requests = ends.requests;
    requests_are = ends.requests_are;
  }

  -- what comes into the books
  pub more : IsMore t f r.node.stack outcome ends.ended
  more =
      more_ended t f r.seen r.node.stack outcome ends.value ends.ended ends.ends ends.shows ends.requests ends.requests_are
      r.of_round.outer.task value_fits.kind

  its_rests : EndLeaves t f r.node.stack ends.value
  its_rests = end_leaves t f r.node.stack ends.value r.of_round.outer.asked r.seated.outer.lengths ends.ends

  its_sizes : EndSizes t f r.node.stack ends.value
  its_sizes =
      end_sizes t f r.seen r.node.stack ends.value r.of_round.outer.asked r.of_round.outer.slots r.seated.outer.lengths ends.ends

  its_places : (w : Place → ℕ) → PlacesEnd {N = N} nodes e.node r.node.stack outcome ends.value ends.gone w
  its_places = places_end nodes t f e.node r.node.stack outcome ends.value ends.gone ends.ended ends.places ends.shows more

  its_own : IsSoundRound t sizes f
      → AllByRecursion (λ (p : Place). Contains (held_by r.node.stack) p ⊎ Contains t.used p) ends.gone
  its_own sound =
      end_own t sizes f r.seen r.node.stack outcome ends.value (nodes.gave e.node) ends.gone sound r.of_round.outer.task ends.places

  -- ---- a node

  module _ (above n : ℕ) (parent : (held_of {N = N} e).parent ≡ OfNode above n) where
    hears_it : (tops : List Top) → t.setting.tops ≡ tops → (p : HasAbove {N = N} nodes t sizes f before s slab queue leaves key e r above n)
        → (g : TiedNode N) → (a : IsAbove {N = N} nodes t sizes f before s slab queue leaves key e r above n p.parent g)
        → Hears {N = N} nodes tops t g.node p.parent.stack n p.child r.node.stack.outer.op outcome ends.value
    hears_it tops tops_are p g a =
        let asked = one_asked nodes t sizes f before s.trees s.tops (shelf_of {N = N} slab) queue leaves a.state key above r.node
        p.parent a.others (held_of {N = N} e) n p.child a.kept r.held parent p.does.is in
        record {
          now = record { tops_are = tops_are; is = a.is; seated = a.seated };
          there = p.does.is;
          goes = p.does.goes;
          told = told_now p.parent n p.child asked p.does;
          asked = asked.asked;
          fits_told = one_fits nodes t sizes f before s.trees s.tops (shelf_of {N = N} slab) queue leaves a.state key above r.node p.parent
              a.others (held_of {N = N} e) n p.child ends.value a.kept r.held parent p.does.is ends.ends;
          fits = fits_each;
          in_kind = value_fits.kind;
          shows = ends.shows;
        }

    pub can_end : (tops : List Top) → t.setting.tops ≡ tops → AreAll {N = N} (over tops) slab
        → AwaitsEnd {N = N} nodes over tops out e.ties.kind above n outcome
    can_end tops tops_are over_all =
        let p : HasAbove {N = N} nodes t sizes f before s slab queue leaves key e r above n =
        has_above {N = N} nodes t sizes f before s slab queue leaves key e r above n parent in
        let a : IsAbove {N = N} nodes t sizes f before s slab queue leaves key e r above n p.parent p.entry =
        is_above {N = N} nodes t sizes f before s slab queue leaves key e r above n p p.entry p.there in
        record {
          entry = p.entry;
          there = taken.others above p.other ∙ p.there;
          inside = over_all above p.entry p.there;
          hears = record {
            terms = t;
            stack = p.parent.stack;
            child = p.child;
            op = r.node.stack.outer.op;
            value = ends.value;
            hears = hears_it tops tops_are p p.entry a;
          };
          owed = some_more (counted e.ties.kind Done p.entry.ties.counts)
              (one_counts nodes t sizes f before s.trees s.tops (shelf_of {N = N} slab) queue leaves a.state key above r.node p.parent
              a.others (held_of {N = N} e) (held_of {N = N} p.entry) n p.child a.kept r.held parent a.held p.does.is);
        }

    pub round_ends : IsSoundRound t sizes f → (tops : List Top) → t.setting.tops ≡ tops → (rest : List ℕ) → OneMore key rest queue
        → (slab_now : Slab (TiedNode N)) (queue_now : List ℕ)
        → NodeHeard {N = N} nodes over tops out rest slab_now queue_now e.ties.kind above n outcome
        → KeepsRound {N = N} nodes t sizes f before (with_done (with_calls s calls) more.more) slab_now queue_now leaves
    round_ends sound tops tops_are rest one_more slab_now queue_now told =
        let p : HasAbove {N = N} nodes t sizes f before s slab queue leaves key e r above n =
        has_above {N = N} nodes t sizes f before s slab queue leaves key e r above n parent in
        let was : get slab above ≡ Some told.was = sym (taken.others above p.other) ∙ told.heard.there in
        let a : IsAbove {N = N} nodes t sizes f before s slab queue leaves key e r above n p.parent told.was =
        is_above {N = N} nodes t sizes f before s slab queue leaves key e r above n p told.was was in
        let asked = one_asked nodes t sizes f before s.trees s.tops (shelf_of {N = N} slab) queue leaves a.state key above r.node
        p.parent a.others (held_of {N = N} e) n p.child a.kept r.held parent p.does.is in
        let up_now : TiedNode N =
        with_ties {N = N} told.up (counting told.was.ties (notified e.ties.kind Done told.error told.bits told.was.ties.counts)) in
        let y : Flying = record { at = p.parent.at; stack = heard_of p.parent.stack n p.child ends.value } in
        let is_up = told.is t p.parent.stack p.child r.node.stack.outer.op ends.value (hears_it tops tops_are p told.was a) in
        let second : List Live = live_of above p.parent ∷ a.others in
        record {
          lives = live_of above y ∷ a.others;
          still = still_as nodes t sizes f before s.trees s.tops (live_of above y ∷ a.others)
              (shelf_of {N = N} slab_now) queue_now leaves a.state.entries (s.entries ++ choices_in calls) a.state.images s.images
              (one_ends nodes t sizes f before s.trees s.tops (shelf_of {N = N} slab) queue leaves a.state key above r.node p.parent
              a.others (held_of {N = N} e) (held_of {N = N} told.was) n p.child ends.value a.kept r.held parent a.held rest one_more
              ends.ends (λ needs. did_tell p.parent p.child asked needs) p.does.is told.up is_up told.heard.told told.heard.due told.error told.bits
              (shelf_of {N = N} slab_now) (shelf_two slab out slab_now key above None up_now p.other taken told.heard.put)
              queue_now (woken (is_last e.ties.kind Done told.was.ties.counts) above rest queue_now told.heard.queued))
              (a.entries_are ∙ same_entries) a.images_are;
          numbered = numbered_with out slab_now above up_now (flying_at second) (flying_at (live_of above y ∷ a.others)) y
              told.heard.put (with_first above p.parent y a.others)
              (a.given ∙ sym (length_set p.parent.stack.children n (child_ended p.child)))
              (numbered_without slab out key (flying_at (live_of key r.node ∷ second)) (flying_at second) taken
              (without_first key r.node second a.kept.differ) a.numbered);
          theirs = theirs_parent (flying_at second) (flying_at (live_of above y ∷ a.others)) leaves s.ops above p.parent (Some y) n
              p.child (with_first above p.parent y a.others) (first_at (live_of above p.parent) a.others) p.does.is
              (theirs_without (flying_at (live_of key r.node ∷ second)) (flying_at second) leaves s.ops key
              (without_first key r.node second a.kept.differ) a.theirs);
          ledger = ledger_ends nodes t f s.books s.entries s.tops s.trees slab slab_now key r.node outcome ends.value ends.gone calls
              ends.ended e.node ends.calls_are more ends.requests its_places
              (λ w. ap (λ (n : ℕ). n + total w (nodes.gave e.node))
              (gave_put nodes out slab_now above w told.was up_now told.heard.there told.heard.put told.heard.gave)
              ∙ gave_gone nodes slab out key w e r.there taken) (its_own sound) its_rests its_sizes
              above p.parent y a.others a.ledger
              (hears_value p.parent.stack n p.child r.node.stack.outer.op ends.value a.seated p.does.is p.does.goes asked.asked
              (heard_within t f a.seen p.parent.stack n p.child r.node.stack.outer.op outcome ends.value a.seated p.does.is p.does.goes
              asked.asked a.of_round.inner a.ledger.hands.1.0 ends.shows))
              (hands_heard p.parent.stack n p.child ends.value p.does.is a.ledger.hands.1.0);
        }

  -- ---- a tree

  pub round_ends_tree : IsSoundRound t sizes f → (rest : List ℕ) → OneMore key rest queue → (tree n : ℕ) → (held_of {N = N} e).parent ≡ OfTree tree n
      → TreeHears {N = N} nodes t sizes f before (with_calls s calls) out rest leaves tree outcome
  round_ends_tree sound rest one_more tree n parent =
      let found : IsTreeFound {N = N} nodes s.tops tree n r.node (held_of {N = N} e) =
      tree_found nodes t sizes f before s.trees s.tops (shelf_of {N = N} slab) queue leaves r.state key tree n r.node r.others
      (held_of {N = N} e) r.kept r.held parent in
      let asked = tree_asked nodes t sizes f before s.trees s.tops (shelf_of {N = N} slab) queue leaves r.state key tree r.node
      found.top r.others (held_of {N = N} e) n found.child r.kept r.held parent found.there found.does.is in
      let of_tree : IsOfTree found.top.stack = r.ledger.of_trees tree found.top (top_slice s.tops tree found.top found.there) in
      let tops : List (Option Flying) =
      slice_set s.tops tree (Some (record { at = found.top.at; stack = heard_of found.top.stack n found.child ends.value })) in
      record {
        top = found.top;
        number = n;
        child = found.child;
        op = r.node.stack.outer.op;
        value = ends.value;
        there = found.there;
        is = found.does.is;
        goes = found.does.goes;
        asked = asked.asked;
        fits = tree_fits nodes t sizes f before s.trees s.tops (shelf_of {N = N} slab) queue leaves r.state key tree r.node found.top
            r.others (held_of {N = N} e) n found.child ends.value r.kept r.held parent found.there found.does.is ends.ends;
        how = ends_as;
        more = more.more;
        told = more.told;
        keeps = record {
          lives = r.others;
          still = still_as nodes t sizes f before s.trees tops r.others (shelf_of {N = N} out) rest leaves
              r.state.entries (s.entries ++ choices_in calls) r.state.images s.images
              (one_ends_tree nodes t sizes f before s.trees s.tops (shelf_of {N = N} slab) queue leaves r.state key tree r.node
              found.top r.others (held_of {N = N} e) n found.child ends.value r.kept r.held parent found.there rest one_more ends.ends
              found.does.is (shelf_of {N = N} out) (shelf_without slab out key taken))
              (r.entries_are ∙ same_entries) r.images_are;
          numbered = numbered_without slab out key (flying_at (live_of key r.node ∷ r.others)) (flying_at r.others) taken
              (without_first key r.node r.others r.kept.differ) r.numbered;
          theirs = theirs_without (flying_at (live_of key r.node ∷ r.others)) (flying_at r.others) leaves s.ops key
              (without_first key r.node r.others r.kept.differ) r.theirs;
          ledger = ledger_root_ends nodes t f s.books s.entries s.tops s.trees slab out key r.node outcome ends.value ends.gone calls
              ends.ended e.node ends.calls_are more ends.requests its_places (λ w. gave_gone nodes slab out key w e r.there taken)
              (its_own sound) its_rests its_sizes tree
              found.top (record { at = found.top.at; stack = heard_of found.top.stack n found.child ends.value }) r.others r.ledger
              (top_slice s.tops tree found.top found.there)
              (hears_value found.top.stack n found.child r.node.stack.outer.op ends.value
              (tree_seated nodes t sizes f before s.trees s.tops (shelf_of {N = N} slab) queue leaves r.state tree found.top
              (live_of key r.node ∷ r.others) r.kept found.there) found.does.is found.does.goes asked.asked
              (none_within found.top.stack r.node.stack.outer.op ends.value found.child of_tree asked.asked))
              (tree_places_none found.top.stack found.child.seat r.node.stack.outer.op ends.value of_tree asked.asked)
              (heard_tree found.top.stack n found.child ends.value)
              (tree_heard f s.books.claimed s.tops r.others tree found.top (top_slice s.tops tree found.top found.there)
              (first_ends f s.books.claimed s.tops (live_of key r.node) r.others r.ledger.claims) n found.child ends.value (λ h.
              claim_leaves t f r.seen r.node.stack ends.value (claim_alone t sizes f sound h) r.of_round.outer.task
              (r.ledger.claims.once h).parts.0
              (asked_logical found.top.stack found.child.seat r.node.stack.outer.op of_tree asked.asked) ends.ends));
        };
      }
