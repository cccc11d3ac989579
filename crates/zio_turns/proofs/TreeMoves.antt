-- A round that an engine keeps, where a tree begins an attempt, and hears of one.
use Rattle.std.proofs.Common.{◌≡◌, ℕ, zero, suc, ◌+◌, ◌<◌, ◌≤◌, List, [], true, false, Option, Some, None, refl, sym, ap, ◌∙◌, subst, arith}
use Rattle.zio_types.specs.declared.request.Bits.{Bits}
use Rattle.zio_blkptr.specs.declared.pointer.Bp.{Bp}
use Rattle.zio_script.specs.declared.script.Failmode.{Failmode}
use Rattle.zio_gang.specs.Attempts.{Pending, Terms, now_alone}
use Rattle.zio_trace.specs.Conflicts.{is_single}
use Rattle.zio_trace.specs.Families.{Forest, NoTrees, TreeOf}
use Rattle.zio_trace.specs.Tasks.{Attempt, AttemptedBy, One, Settle, Task, Value, settled}
use Rattle.zio_frames.specs.Frames.{Flying, Inner, Stack, asking, asking_in, fresh_stack}
use Rattle.zio_frames.specs.Moves.{IsEnded}
use Rattle.zio_exchange.specs.Outcomes.{IsFinishedAs, IsLeftAs, IsOutcome}
use Rattle.zio_exchange.specs.Wholes.{IsTreeOf, IsWhole}
use Rattle.zio_exchange.specs.declared.waiting.UnfinishedRequest.{UnfinishedRequest}
use Rattle.zio_exchange.proofs.ForestLemmas.{one_forest}
use Rattle.zio_exchange.specs.declared.outcome.FinishedRequest.{FinishedRequest}
use Rattle.zio_exchange.specs.declared.outcome.Outcome.TheVariants.{Again, Finished as HasFinished}
use Rattle.slab.specs.Slab.{Slab}
use Rattle.zio_turns.specs.Attempting.{Course, IsSettle, again_with, attempt_of, settled_with}
use Rattle.zio_staged.specs.Entries.{top_at}
use Rattle.zio_staged.specs.Parts.{Nodes, ended_in}
use Rattle.zio_turns.specs.Rounds.{Before, HandsOut, KeepsRound, SoFar}
use Rattle.zio_turns.specs.Slabs.{shelf_of}
use Rattle.zio_turns.specs.UnderTrees.{BeginsOn, TreeGoesOn, with_value}
use Rattle.zio_turns.specs.declared.entry.TiedNode.{TiedNode}
use Rattle.zio_turns.specs.declared.trees.TreeEnd.TheVariants.{Finished as RootFinished, Suspended}
use Rattle.zio_turns.proofs.AttemptMoves.{course_asks, course_handed, goes_again, settled_last, settled_now}
use Rattle.zio_turns.proofs.LedgerMoves.{ledger_settles}
use Rattle.zio_turns.proofs.LedgerTrees.{stand_out, top_slice}
use Rattle.zio_turns.proofs.MoveEndTree.{tree_ends}
use Rattle.zio_turns.proofs.RoundNodes.{still_as}

settle_many : (op : Task) → IsSettle op → is_single op ≡ false
settle_many (Settle p kids) h = refl
settle_many _ h = absurd h

asking_many : (st : Stack) → IsSettle st.outer.op → st.inner ≡ None → is_single (asking st).op ≡ false
asking_many st h alone =
    ap (λ (i : Option Inner). is_single (asking_in st.outer i).op) alone ∙ settle_many st.outer.op h

same_one : (one other : One) → AttemptedBy one ≡ AttemptedBy other → one ≡ other
same_one one other e = cc

some_more : (n : ℕ) → 0 < n → (m : ℕ) × (n ≡ suc m)
some_more zero h = absurd (omega arith)
some_more (suc m) h = (m, refl)

module _ {N : Type 0} (nodes : Nodes N) (slab slab_now : Slab (TiedNode N)) (line line_now : List ℕ) (round : ℕ) (failmode : Failmode)
    (tree attempt : ℕ) where
  pub attempt_begins : (whole : List UnfinishedRequest) (node : N) → HandsOut {N = N} nodes slab line slab_now line_now tree attempt node
      → ((t : Terms) (p : Pending) (forest : Forest) → t.round ≡ round → t.failmode ≡ failmode → IsTreeOf whole p forest
      → nodes.Is t node (fresh_stack (Attempt attempt p forest))) → nodes.told node ≡ false → nodes.gave node ≡ [] → nodes.due node
      → BeginsOn {N = N} nodes slab line slab_now line_now round failmode tree attempt whole
  attempt_begins whole node hands fresh told gave due = λ t sizes f before s leaves top c sound same_round same_mode k there between number is.
      record {
        keeps = hands t sizes f before s leaves top (attempt_of c) sound k there (asking_many top.stack between.settles between.alone)
            (course_asks t c top.stack between) refl
            (subst (λ (n : ℕ). nodes.Is t node (fresh_stack (Attempt n c.request c.kids))) (sym number)
            (fresh t c.request c.kids same_round same_mode is)) told gave due (sym (between.number ∙ number));
        out = course_handed t c top.stack between;
      }

  -- ---- it is settled

  pub tree_settles : (t : Terms) (sizes : ℕ → ℕ) (f : Forest) (before : Before) (s : SoFar) (leaves : List ℕ) (top : Flying)
      (v : Value) → KeepsRound {N = N} nodes t sizes f before s slab line leaves → top_at s.tops tree ≡ Some top
      → IsEnded t top.stack v → ended_in top.stack ≡ (settled v).ended
      → KeepsRound {N = N} nodes t sizes f before (with_value s tree v) slab line leaves
  tree_settles t sizes f before s leaves top v k there ended same =
      let now : SoFar = with_value s tree v in
      let out = stand_out 0 s.tops s.trees tree top k.still.kept.stand there in
      record {
        lives = k.lives;
        still = still_as nodes t sizes f before now.trees now.tops k.lives (shelf_of {N = N} slab) line leaves k.still.state.entries
            s.entries k.still.state.images s.images
            (tree_ends nodes t sizes f before s.trees s.tops (shelf_of {N = N} slab) line leaves k.still.state tree top k.lives v
            k.still.kept there ended)
            k.still.entries_are k.still.images_are;
        numbered = k.numbered;
        theirs = k.theirs;
        ledger = ledger_settles nodes t f s.books s.entries s.tops s.trees slab slab tree top out.0 v k.lives k.ledger
            (top_slice s.tops tree top there) out.1 same (λ w. refl);
      }

  pub tree_finishes : {S : Type 0} (finished : FinishedRequest)
      → TreeGoesOn {N = N} {S = S} nodes slab line slab line round failmode tree attempt (HasFinished finished) (Some RootFinished)
  tree_finishes finished = λ t sizes f before s leaves top c one sound same_round same_mode k there number few h.
      let is : one ≡ h.shows.1.0 = same_one one h.shows.1.0 h.shows.1.1 in
      let as_one : IsFinishedAs finished one = subst (IsFinishedAs finished) (sym is) h.shows.1.2 in
      record {
        left = (finished, as_one);
        keeps = tree_settles t sizes f before s leaves top (settled_with c one) k there
            (h.ends (settled_with c one) (settled_now c one (ap now_alone as_one.by.same_bits))) h.ended_are;
      }

  left_one : (t : Terms) (c : Course) (whole : List UnfinishedRequest) (bits : Bits) (pointer : Option Bp) (one : One)
      → IsOutcome {S = Unit {0}} t (attempt_of c) (Again whole bits pointer) (AttemptedBy one) → IsLeftAs whole bits pointer one
  left_one t c whole bits pointer one shows =
      subst (IsLeftAs whole bits pointer) (sym (same_one one shows.1.0 shows.1.1)) shows.1.2

  -- it doesn't go again at once
  pub tree_waits : {S : Type 0} (whole : List UnfinishedRequest) (bits : Bits) (pointer : Option Bp) → now_alone bits ≡ false
      → TreeGoesOn {N = N} {S = S} nodes slab line slab line round failmode tree attempt (Again whole bits pointer) (Some (Suspended whole))
  tree_waits whole bits pointer alone = λ t sizes f before s leaves top c one sound same_round same_mode k there number few h.
      let left : IsLeftAs whole bits pointer one = left_one t c whole bits pointer one h.shows in
      record {
        left = (bits, pointer, left);
        keeps = tree_settles t sizes f before s leaves top (settled_with c one) k there
            (h.ends (settled_with c one) (settled_now c one (ap now_alone left.by.same_bits ∙ alone))) h.ended_are;
      }

  -- it went again as often as it may
  pub tree_went : {S : Type 0} (whole : List UnfinishedRequest) (bits : Bits) (pointer : Option Bp) → 3 ≤ attempt
      → TreeGoesOn {N = N} {S = S} nodes slab line slab line round failmode tree attempt (Again whole bits pointer) (Some (Suspended whole))
  tree_went whole bits pointer often = λ t sizes f before s leaves top c one sound same_round same_mode k there number few h.
      let left : IsLeftAs whole bits pointer one = left_one t c whole bits pointer one h.shows in
      let last : c.more ≡ 0 = omega (arith, often, number, few) in
      record {
        left = (bits, pointer, left);
        keeps = tree_settles t sizes f before s leaves top (settled_with c one) k there
            (h.ends (settled_with c one) (settled_last c one last)) h.ended_are;
      }

  -- its next attempt begins
  pub tree_again : {S : Type 0} (whole : List UnfinishedRequest) (bits : Bits) (pointer : Option Bp) → now_alone bits ≡ true → attempt < 3 → IsWhole whole
      → BeginsOn {N = N} nodes slab line slab_now line_now round failmode tree (attempt + 1) whole
      → TreeGoesOn {N = N} {S = S} nodes slab line slab_now line_now round failmode tree attempt (Again whole bits pointer) None
  tree_again whole bits pointer alone seldom w begins =
      λ t sizes f before s leaves top c one sound same_round same_mode k there number few h.
      let left : IsLeftAs whole bits pointer one = left_one t c whole bits pointer one h.shows in
      let more = some_more c.more (omega (arith, seldom, number, few)) in
      let tree_left : one.left ≡ TreeOf w.root w.kids NoTrees =
      one_forest whole one.left (TreeOf w.root w.kids NoTrees) left.left.tree w.is in
      let d : Course = again_with c one more.0 w.root w.kids in
      let behind = goes_again c one more.0 w.root w.kids NoTrees more.1 (ap now_alone left.by.same_bits ∙ alone) tree_left in
      record {
        next = d;
        number = refl;
        few = let e = more.1 in omega (arith, few, e);
        begins = begins t sizes f before s leaves top d sound same_round same_mode k there (h.goes d behind refl refl)
            (ap (λ (n : ℕ). n + 1) number) w.is;
      }
