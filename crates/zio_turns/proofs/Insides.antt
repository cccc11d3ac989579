-- What holds of each node still does, where the engine moved one.
use Rattle.std.proofs.Common.{ℕ, List, [], ◌∷◌, Option, Some, None, sym, subst}
use Rattle.zio_types.specs.declared.place.Top.{Top}
use Rattle.zio_types.specs.declared.request.ChildKind.{ChildKind}
use Rattle.zio_types.specs.declared.request.Phase.{Phase}
use Rattle.zio_types.specs.declared.request.Phase.TheVariants.{Done, Ready}
use Rattle.zio_blkptr.specs.declared.pointer.Bp.{Bp}
use Rattle.zio_counts.specs.Tallies.{first_counted, notified, stalled}
use Rattle.zio_exchange.specs.declared.outcome.Outcome.{Outcome}
use Rattle.slab.specs.Slab.{Slab, Updates}
use Rattle.zio_turns.specs.Acts.{HasEnded, HasGrown, HasTold, HasWaited, counting, new_ties, one_more, with_ties}
use Rattle.zio_staged.specs.Parts.{Nodes}
use Rattle.zio_turns.specs.Slabs.{AreAll}
use Rattle.zio_turns.specs.declared.entry.TiedNode.{TiedNode}
use Rattle.zio_turns.specs.declared.entry.Parent.{Parent as Above}
use Rattle.zio_turns.specs.declared.entry.Parent.TheVariants.{Node, Tree}
use Rattle.zio_turns.specs.declared.step.Step.{Step}
use Rattle.zio_turns.proofs.Shelves.{all_with, all_without}

module _ {N : Type 0} (P : N → Type 0) (slab out slab_now : Slab (TiedNode N)) (line line_now : List ℕ) (key : ℕ)
    (all : AreAll {N = N} P slab) (taken : Updates slab out key None) where
  rest : AreAll {N = N} P out
  rest = all_without P slab out key taken all

  pub all_put : (e : TiedNode N) → Updates out slab_now key (Some e) → P e.node → AreAll {N = N} P slab_now
  all_put e put p = all_with P out slab_now key e put p rest

  pub all_waited : (e : TiedNode N) (kind : ChildKind) (phase : Phase) → HasWaited {N = N} out line slab_now line_now key e kind phase
      → P e.node → AreAll {N = N} P slab_now
  all_waited e kind phase has p =
      all_put (with_ties {N = N} e.node
      (counting e.ties (stalled (first_counted (kind ∷ []) phase e.ties.counts) e.ties.counts))) has.put p

  pub all_grown : (e : TiedNode N) (child : N) (kind : ChildKind) → HasGrown {N = N} out line slab_now line_now key e child kind
      → P e.node → P child → AreAll {N = N} P slab_now
  all_grown e child kind has p q =
      all_with P has.mid slab_now has.at (with_ties {N = N} child (new_ties kind (Node key e.ties.children))) has.added q
      (all_with P out has.mid key (with_ties {N = N} e.node (one_more kind e.ties)) has.put p rest)

module _ {N : Type 0} (nodes : Nodes N) (over : List Top → N → Type 0) (tops : List Top) (slab slab_now : Slab (TiedNode N))
    (line line_now : List ℕ) (all : AreAll {N = N} (over tops) slab) where
  pub all_told : (kind : ChildKind) (parent : Above) (pointer : Option Bp)
      → HasTold {N = N} nodes over slab line slab_now line_now kind parent pointer → AreAll {N = N} (over tops) slab_now
  all_told kind (Tree tree n) pointer has =
      subst (λ (b : Slab (TiedNode N)). AreAll {N = N} (over tops) b) (sym has.slab_same) all
  all_told kind (Node key n) pointer has =
      all_with (over tops) slab slab_now key
      (with_ties {N = N} has.up (counting has.was.ties (notified kind Ready has.error has.bits has.was.ties.counts))) has.heard.put
      (has.over_still tops (all key has.was has.heard.there)) all

  pub all_ended : {S : Type 0} (kind : ChildKind) (parent : Above) (outcome : Outcome S) (step : Step S)
      → HasEnded {N = N} nodes over tops slab line slab_now line_now kind parent outcome step → AreAll {N = N} (over tops) slab_now
  all_ended kind (Tree tree n) outcome step has =
      subst (λ (b : Slab (TiedNode N)). AreAll {N = N} (over tops) b) (sym has.0.slab_same) all
  all_ended kind (Node key n) outcome step has =
      all_with (over tops) slab slab_now key
      (with_ties {N = N} has.0.up
      (counting has.0.was.ties (notified kind Done has.0.error has.0.bits has.0.was.ties.counts))) has.0.heard.put
      has.0.inside all
