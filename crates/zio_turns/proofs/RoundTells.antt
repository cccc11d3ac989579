-- A round that an engine keeps, where a node tells which pointer its value will have.
use Rattle.std.proofs.Common.{◌≡◌, ◌≢◌, ℕ, zero, suc, List, [], ◌∷◌, ◌++◌, length, slice_set, false, Option, Some, ◌⊎◌, inl, inr, refl, sym, ap, ◌∙◌}
use Rattle.zio_types.specs.declared.place.Top.{Top}
use Rattle.zio_types.specs.declared.request.Phase.TheVariants.{Ready}
use Rattle.zio_blkptr.specs.declared.pointer.Bp.{Bp}
use Rattle.zio_counts.specs.Tallies.{counted, is_last, notified}
use Rattle.zio_gang.specs.Attempts.{Terms}
use Rattle.zio_trace.specs.Families.{Forest}
use Rattle.zio_trace.specs.Tasks.{Task}
use Rattle.zio_frames.specs.Frames.{Child, Flying, kind_of_task, needs_none}
use Rattle.zio_frames.specs.Moves.{child_told, heard_early}
use Rattle.slab.specs.Slab.{Slab, Updates, get}
use Rattle.zio_exchange.specs.SpaceCalls.{SpaceCall}
use Rattle.zio_turns.specs.Acts.{AwaitsReady, NodeTold, counting, with_ties}
use Rattle.zio_turns.specs.Engine.{counts_as_told}
use Rattle.zio_staged.specs.Entries.{IsWith, Live, OfNode, OfTree, flying_at, live_of}
use Rattle.zio_turns.specs.Found.{DoesAsked, IsChildOf, IsTreeFound}
use Rattle.zio_turns.specs.Ledgers.{IsLedger}
use Rattle.zio_staged.specs.Parts.{Nodes}
use Rattle.zio_turns.specs.Rounds.{Before, KeepsRound, SoFar, TreeHearsEarly, choices_in, with_calls}
use Rattle.zio_turns.specs.Slabs.{held_of, shelf_of}
use Rattle.zio_staged.specs.Stages.{Tells}
use Rattle.zio_turns.specs.declared.entry.TiedNode.{TiedNode}
use Rattle.zio_frames.proofs.GetLemmas.{same_or_not}
use Rattle.zio_turns.proofs.ActLemmas.{woken_behind}
use Rattle.zio_turns.proofs.Callings.{none_made}
use Rattle.zio_turns.proofs.ClaimMoves.{tree_told}
use Rattle.zio_turns.proofs.Finds.{tree_found}
use Rattle.zio_turns.proofs.FoundFits.{one_asked, tree_asked, tree_seated}
use Rattle.zio_turns.proofs.HearLemmas.{some_more, told_not}
use Rattle.zio_turns.proofs.LeafOps.{theirs_parent}
use Rattle.zio_turns.proofs.LedgerHears.{HasHeardEarly, hears_early}
use Rattle.zio_turns.proofs.LedgerMoves.{booked, ledger_stays, ledger_tells, ledger_tree}
use Rattle.zio_turns.proofs.LedgerSlabs.{gave_put}
use Rattle.zio_turns.proofs.LedgerTrees.{told_tree, top_slice}
use Rattle.zio_turns.proofs.Lives.{first_at, other_at, with_first}
use Rattle.zio_turns.proofs.MoveTell.{one_tells, one_tells_tree, one_untold}
use Rattle.zio_turns.proofs.RoundNodes.{IsThere, still_as}
use Rattle.zio_turns.proofs.RoundParents.{HasAbove, IsAbove, has_above, is_above}
use Rattle.zio_turns.proofs.Shelves.{numbered_with, shelf_two, shelf_with}

-- of a second one exchanged
pub with_second : (x : Live) (key : ℕ) (y z : Flying) (xs : List Live) → key ≢ x.key
    → IsWith (flying_at (x ∷ live_of key y ∷ xs)) key (Some z) (flying_at (x ∷ live_of key z ∷ xs))
with_second x key y z xs other = record {
  there = other_at x (live_of key z ∷ xs) key other ∙ first_at (live_of key z) xs;
  others = λ k n. by x key y z xs k n (same_or_not k x.key);
}
  where
    by : (x : Live) (key : ℕ) (y z : Flying) (xs : List Live) (k : ℕ) → k ≢ key → (k ≡ x.key) ⊎ (k ≢ x.key)
        → flying_at (x ∷ live_of key z ∷ xs) k ≡ flying_at (x ∷ live_of key y ∷ xs) k
    by x key y z xs k n (inl i) =
        ap (flying_at (x ∷ live_of key z ∷ xs)) i ∙ first_at x (live_of key z ∷ xs)
        ∙ sym (ap (flying_at (x ∷ live_of key y ∷ xs)) i ∙ first_at x (live_of key y ∷ xs))
    by x key y z xs k n (inr i) =
        other_at x (live_of key z ∷ xs) k i ∙ other_at (live_of key z) xs k n
        ∙ sym (other_at x (live_of key y ∷ xs) k i ∙ other_at (live_of key y) xs k n)

pub length_set : {A : Type 0} (xs : List A) (n : ℕ) (x : A) → length (slice_set xs n x) ≡ length xs
length_set [] n x = refl
length_set (y ∷ xs) zero x = refl
length_set (y ∷ xs) (suc n) x = ap (λ (k : ℕ). suc k) (length_set xs n x)

module _ {N : Type 0} (nodes : Nodes N) (over : List Top → N → Type 0) (t : Terms) (sizes : ℕ → ℕ) (f : Forest)
    (before : Before) (s : SoFar) (slab mid : Slab (TiedNode N)) (line leaves : List ℕ) (key : ℕ) (e : TiedNode N) (calls : List SpaceCall)
    (node : N) (pointer : Option Bp)
    (r : IsThere {N = N} nodes t sizes f before s slab (key ∷ line) leaves key e)
    (tells : Tells {N = N} nodes nodes.gave t e.node r.node.stack calls node pointer) (due : nodes.due node)
    (put : Updates slab mid key (Some (with_ties {N = N} node e.ties))) where
  -- what its parent can hear
  needs_it : (x q : Flying) (c : Child) → x.stack.outer.op ≡ r.node.stack.outer.op → DoesAsked {N = N} (held_of {N = N} e) x q c
      → needs_none e.ties.kind ≡ false
  needs_it x q c same asked =
      ap needs_none asked.kind ∙ ap (λ (op : Task). needs_none (kind_of_task op)) same ∙ tells.needs

  untold : (q : Flying) (n : ℕ) (c : Child) → needs_none e.ties.kind ≡ false
      → IsChildOf {N = N} nodes (held_of {N = N} e) r.node.at q n c → c.told ≡ false
  untold q n c needs does = does.heard ∙ ap (counts_as_told e.ties.kind) tells.before ∙ told_not e.ties.kind needs

  -- ---- a node

  module _ (above n : ℕ) (parent : (held_of {N = N} e).parent ≡ OfNode above n) where
    pub can_tell : AwaitsReady {N = N} nodes mid e.ties.kind above n
    can_tell =
        let p : HasAbove {N = N} nodes t sizes f before s slab (key ∷ line) leaves key e r above n =
        has_above {N = N} nodes t sizes f before s slab (key ∷ line) leaves key e r above n parent in
        let a : IsAbove {N = N} nodes t sizes f before s slab (key ∷ line) leaves key e r above n p.parent p.entry =
        is_above {N = N} nodes t sizes f before s slab (key ∷ line) leaves key e r above n p p.entry p.there in
        let asked = one_asked nodes t sizes f before s.trees s.tops (shelf_of {N = N} slab) (key ∷ line) leaves a.state key above r.node
        p.parent a.others (held_of {N = N} e) n p.child a.kept r.held parent p.does.is in
        let needs : needs_none e.ties.kind ≡ false = needs_it r.node p.parent p.child refl asked in
        record {
          entry = p.entry;
          there = put.others above p.other ∙ p.there;
          hears = record {
            terms = t;
            stack = p.parent.stack;
            child = p.child;
            hears = record {
              is = a.is;
              seated = a.seated;
              there = p.does.is;
              goes = p.does.goes;
              untold = untold p.parent n p.child needs p.does;
            };
          };
          owed = some_more (counted e.ties.kind Ready p.entry.ties.counts)
              (one_untold nodes t sizes f before s.trees s.tops (shelf_of {N = N} slab) (key ∷ line) leaves a.state key above r.node p.parent
              a.others (held_of {N = N} e) (held_of {N = N} p.entry) n p.child a.kept r.held parent a.held needs tells.before
              p.does.is);
        }

    pub round_tells : (slab_now : Slab (TiedNode N)) (line_now : List ℕ)
        → NodeTold {N = N} nodes over mid line slab_now line_now e.ties.kind above n pointer
        → KeepsRound {N = N} nodes t sizes f before (with_calls s calls) slab_now (key ∷ line_now) leaves
    round_tells slab_now line_now told =
        let p : HasAbove {N = N} nodes t sizes f before s slab (key ∷ line) leaves key e r above n =
        has_above {N = N} nodes t sizes f before s slab (key ∷ line) leaves key e r above n parent in
        let was : get slab above ≡ Some told.was = sym (put.others above p.other) ∙ told.heard.there in
        let a : IsAbove {N = N} nodes t sizes f before s slab (key ∷ line) leaves key e r above n p.parent told.was =
        is_above {N = N} nodes t sizes f before s slab (key ∷ line) leaves key e r above n p told.was was in
        let asked = one_asked nodes t sizes f before s.trees s.tops (shelf_of {N = N} slab) (key ∷ line) leaves a.state key above r.node
        p.parent a.others (held_of {N = N} e) n p.child a.kept r.held parent p.does.is in
        let needs : needs_none e.ties.kind ≡ false = needs_it r.node p.parent p.child refl asked in
        let up_now : TiedNode N =
        with_ties {N = N} told.up (counting told.was.ties (notified e.ties.kind Ready told.error told.bits told.was.ties.counts)) in
        let y : Flying = record { at = p.parent.at; stack = heard_early p.parent.stack n p.child pointer } in
        let is_up = told.is t p.parent.stack p.child (record {
          is = a.is;
          seated = a.seated;
          there = p.does.is;
          goes = p.does.goes;
          untold = untold p.parent n p.child needs p.does;
        }) in
        record {
          lives = live_of key r.node ∷ live_of above y ∷ a.others;
          still = still_as nodes t sizes f before s.trees s.tops (live_of key r.node ∷ live_of above y ∷ a.others)
              (shelf_of {N = N} slab_now) (key ∷ line_now) leaves a.state.entries (s.entries ++ choices_in calls) a.state.images s.images
              (one_tells nodes t sizes f before s.trees s.tops (shelf_of {N = N} slab) (key ∷ line) leaves a.state key above r.node p.parent
              a.others (held_of {N = N} e) (held_of {N = N} told.was) n p.child pointer a.kept r.held parent a.held needs
              tells.before tells.will p.does.is node told.up tells.is tells.told due is_up told.heard.told told.heard.due told.error told.bits
              (shelf_of {N = N} slab_now)
              (shelf_two slab mid slab_now key above (Some (with_ties {N = N} node e.ties)) up_now p.other put told.heard.put)
              (key ∷ line_now)
              (woken_behind (is_last e.ties.kind Ready told.was.ties.counts) key above line line_now told.heard.queued))
              (a.entries_are ∙ none_made s.entries calls tells.no_calls) a.images_are;
          numbered = numbered_with mid slab_now above up_now (flying_at (live_of key r.node ∷ live_of above p.parent ∷ a.others))
              (flying_at (live_of key r.node ∷ live_of above y ∷ a.others)) y told.heard.put
              (with_second (live_of key r.node) above p.parent y a.others p.other)
              (a.given ∙ sym (length_set p.parent.stack.children n (child_told p.child)))
              (numbered_with slab mid key (with_ties {N = N} node e.ties)
              (flying_at (live_of key r.node ∷ live_of above p.parent ∷ a.others))
              (flying_at (live_of key r.node ∷ live_of above p.parent ∷ a.others)) r.node put
              (with_first key r.node r.node (live_of above p.parent ∷ a.others)) r.given a.numbered);
          theirs = theirs_parent (flying_at (live_of key r.node ∷ live_of above p.parent ∷ a.others))
              (flying_at (live_of key r.node ∷ live_of above y ∷ a.others)) leaves s.ops above p.parent (Some y) n p.child
              (with_second (live_of key r.node) above p.parent y a.others p.other) a.flies p.does.is a.theirs;
          ledger = ledger_tells nodes t f (booked s.books calls) (s.entries ++ choices_in calls) s.tops s.trees mid slab_now
              (live_of key r.node) above p.parent y a.others
              (ledger_stays nodes t f s.books s.entries s.tops s.trees slab mid calls (live_of key r.node ∷ live_of above p.parent ∷ a.others)
              a.ledger tells.no_calls (λ w. gave_put nodes slab mid key w e (with_ties {N = N} node e.ties) r.there put tells.gave_same))
              (hears_early p.parent.stack n p.child pointer a.seated p.does.is p.does.goes)
              (λ w. gave_put nodes mid slab_now above w told.was up_now told.heard.there told.heard.put told.heard.gave);
        }

  -- ---- a tree

  pub round_tells_tree : (tree n : ℕ) → (held_of {N = N} e).parent ≡ OfTree tree n
      → TreeHearsEarly {N = N} nodes t sizes f before (with_calls s calls) mid (key ∷ line) leaves tree
  round_tells_tree tree n parent =
      let found : IsTreeFound {N = N} nodes s.tops tree n r.node (held_of {N = N} e) =
      tree_found nodes t sizes f before s.trees s.tops (shelf_of {N = N} slab) (key ∷ line) leaves r.state key tree n r.node r.others
      (held_of {N = N} e) r.kept r.held parent in
      let asked = tree_asked nodes t sizes f before s.trees s.tops (shelf_of {N = N} slab) (key ∷ line) leaves r.state key tree r.node
      found.top r.others (held_of {N = N} e) n found.child r.kept r.held parent found.there found.does.is in
      let needs : needs_none e.ties.kind ≡ false = needs_it r.node found.top found.child refl asked in
      let tops : List (Option Flying) =
      slice_set s.tops tree (Some (record { at = found.top.at; stack = heard_early found.top.stack n found.child pointer })) in
      let early : HasHeardEarly found.top.stack (heard_early found.top.stack n found.child pointer) =
      hears_early found.top.stack n found.child pointer
      (tree_seated nodes t sizes f before s.trees s.tops (shelf_of {N = N} slab) (key ∷ line) leaves r.state tree found.top
      (live_of key r.node ∷ r.others) r.kept found.there) found.does.is found.does.goes in
      let stayed : IsLedger {N = N} nodes t f (booked s.books calls) (s.entries ++ choices_in calls) s.tops s.trees
      (live_of key r.node ∷ r.others) mid =
      ledger_stays nodes t f s.books s.entries s.tops s.trees slab mid calls (live_of key r.node ∷ r.others) r.ledger
      tells.no_calls (λ w. gave_put nodes slab mid key w e (with_ties {N = N} node e.ties) r.there put tells.gave_same) in
      record {
        top = found.top;
        number = n;
        child = found.child;
        pointer = pointer;
        there = found.there;
        is = found.does.is;
        goes = found.does.goes;
        untold = untold found.top n found.child needs found.does;
        keeps = record {
          lives = live_of key r.node ∷ r.others;
          still = still_as nodes t sizes f before s.trees tops (live_of key r.node ∷ r.others) (shelf_of {N = N} mid) (key ∷ line) leaves
              r.state.entries (s.entries ++ choices_in calls) r.state.images s.images
              (one_tells_tree nodes t sizes f before s.trees s.tops (shelf_of {N = N} slab) (key ∷ line) leaves r.state key tree r.node
              found.top r.others (held_of {N = N} e) n found.child pointer r.kept r.held parent found.there needs tells.before
              tells.will found.does.is node tells.is tells.told due (shelf_of {N = N} mid)
              (shelf_with slab mid key (with_ties {N = N} node e.ties) put))
              (r.entries_are ∙ none_made s.entries calls tells.no_calls) r.images_are;
          numbered = numbered_with slab mid key (with_ties {N = N} node e.ties) (flying_at (live_of key r.node ∷ r.others))
              (flying_at (live_of key r.node ∷ r.others)) r.node put (with_first key r.node r.node r.others) r.given r.numbered;
          theirs = r.theirs;
          ledger = ledger_tree nodes t f (booked s.books calls) (s.entries ++ choices_in calls) s.tops s.trees mid mid tree found.top
              (record { at = found.top.at; stack = heard_early found.top.stack n found.child pointer }) (live_of key r.node ∷ r.others)
              stayed (top_slice s.tops tree found.top found.there)
              early.ended
              (told_tree found.top.stack n found.child pointer) (λ w. refl)
              (λ ended. early.rests f ended)
              (tree_told f (booked s.books calls).claimed s.tops (live_of key r.node ∷ r.others) tree found.top
              (top_slice s.tops tree found.top found.there) stayed.claims n found.child pointer);
        };
      }
