-- A leaf answers, in each round that is kept.
use Rattle.std.proofs.Common.{◌≡◌, ℕ, ◌<◌, List, [], ◌∷◌, ◌++◌, Option, Some, sym, subst, arith}
use Rattle.zio_types.specs.declared.error.Errno.{Errno}
use Rattle.zio_gang.specs.Attempts.{Terms}
use Rattle.zio_trace.specs.Leaves.{Answer, LeafOp}
use Rattle.zio_trace.specs.Tasks.{Got, Leaf}
use Rattle.zio_frames.specs.Frames.{Stack, fresh_stack}
use Rattle.zio_frames.specs.Moves.{done_at_once}
use Rattle.slab.specs.Slab.{Slab, Updates, get}
use Rattle.zio_turns.specs.Acts.{with_ties}
use Rattle.zio_staged.specs.Entries.{live_of, times_in}
use Rattle.zio_staged.specs.Parts.{Nodes}
use Rattle.zio_turns.specs.Rounds.{ComesBack, IsAtLeaf, KeepsRound, with_images}
use Rattle.zio_turns.specs.Slabs.{held_of, shelf_of}
use Rattle.zio_staged.specs.Stages.{ShowsAnswer}
use Rattle.zio_turns.specs.declared.entry.TiedNode.{TiedNode}
use Rattle.zio_turns.proofs.Finds.{leaf_held}
use Rattle.zio_turns.proofs.Lives.{first_at}
use Rattle.zio_turns.proofs.MoveOne.{leaf_now}
use Rattle.zio_turns.proofs.Queues.{queued_last}
use Rattle.zio_turns.proofs.RoundMoves.{round_comes_back}
use Rattle.zio_turns.proofs.RoundNodes.{it_is_there}
use Rattle.zio_turns.proofs.RoundParents.{from_held}

module _ {N : Type 0} (nodes : Nodes N) (slab : Slab (TiedNode N)) (line : List ℕ) (key : ℕ) where
  -- a key at a leaf has a node
  pub at_leaf_held : IsAtLeaf {N = N} nodes slab line key → (e : TiedNode N) × (get slab key ≡ Some e)
  at_leaf_held at =
      let some = at.keeps in
      let held = leaf_held nodes some.terms some.sizes some.forest some.before some.so_far.trees some.so_far.tops
      (shelf_of {N = N} slab) line at.leaves some.keeps.still.state key some.keeps.lives at.others some.keeps.still.kept at.there in
      from_held {N = N} (get slab key) held.0 held.1

  -- which does an operation on a leaf
  pub at_leaf_is : IsAtLeaf {N = N} nodes slab line key → (e : TiedNode N) → get slab key ≡ Some e
      → (t : Terms) × (act : LeafOp) × nodes.Is t e.node (fresh_stack (Leaf act))
  at_leaf_is at e is =
      let some = at.keeps in
      let r = it_is_there nodes some.terms some.sizes some.forest some.before some.so_far slab line at.leaves key e some.keeps is in
      let now = leaf_now nodes some.terms some.sizes some.forest some.before some.so_far.trees some.so_far.tops key r.node r.others
      (shelf_of {N = N} slab) line at.leaves r.state (held_of {N = N} e) at.others r.kept r.held at.there in
      (some.terms, now.0, subst (λ (st : Stack). nodes.Is some.terms e.node st) now.4 r.is)

  pub answer_comes_back : (slab_now : Slab (TiedNode N)) (line_now : List ℕ) (error : Option Errno)
      (bytes : List ℕ) (e : TiedNode N) (node : N) → get slab key ≡ Some e
      → ((t : Terms) (act : LeafOp) (a : Answer) → nodes.Is t e.node (fresh_stack (Leaf act)) → ShowsAnswer act error bytes a
      → nodes.Is t node (done_at_once (fresh_stack (Leaf act)) (Leaf act) (Got a)))
      → nodes.told node ≡ nodes.told e.node → nodes.gave node ≡ nodes.gave e.node → nodes.due node
      → Updates slab slab_now key (Some (with_ties {N = N} node e.ties))
      → line_now ≡ line ++ key ∷ [] → ComesBack {N = N} nodes slab line slab_now line_now key error bytes
  answer_comes_back slab_now line_now error bytes e node is heard told gave due put queued =
      λ t sizes f before s leaves others sound more k a after shows full answers.
      let r = it_is_there nodes t sizes f before s slab line leaves key e k is in
      let now = leaf_now nodes t sizes f before s.trees s.tops key r.node r.others (shelf_of {N = N} slab) line leaves r.state
      (held_of {N = N} e) others r.kept r.held more in
      let at : 0 < times_in key leaves = omega (arith, now.2) in
      let fresh : r.node.stack ≡ fresh_stack (Leaf (s.ops key)) = r.theirs key r.node (first_at (live_of key r.node) r.others) at in
      subst (λ (q : List ℕ). KeepsRound {N = N} nodes t sizes f before (with_images s after) slab_now q others) (sym queued)
      (round_comes_back nodes t sizes f before s slab slab_now line leaves key e sound r others more (s.ops key) fresh a after
      full answers node (heard t (s.ops key) a (subst (λ (st : Stack). nodes.Is t e.node st) fresh r.is) shows) told gave due put
      (line ++ key ∷ []) (queued_last key line))
