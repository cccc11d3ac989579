-- What nodes gave back, where a slab changes.
use Rattle.std.proofs.Common.{◌≡◌, ℕ, ◌+◌, List, [], ◌++◌, Some, None, ap, arith}
use Rattle.zio_types.specs.declared.place.Place.{Place}
use Rattle.zio_places.specs.Tables.{total}
use Rattle.zio_places.proofs.PlaceLemmas.{total-append}
use Rattle.slab.specs.Slab.{Slab, Updates, get}
use Rattle.zio_turns.specs.Ledgers.{gave_over}
use Rattle.zio_staged.specs.Parts.{Nodes}
use Rattle.zio_turns.specs.declared.entry.TiedNode.{TiedNode}
use Rattle.zio_turns.proofs.Loads.{left_gone, left_new, left_put}

module _ {N : Type 0} (nodes : Nodes N) (slab slab_now : Slab (TiedNode N)) (key : ℕ) (w : Place → ℕ) where
  abbrev weight : N → ℕ
  weight n = total w (nodes.gave n)

  -- one that gave these back besides
  pub gave_more : (e g : TiedNode N) (gone : List Place) → get slab key ≡ Some e → Updates slab slab_now key (Some g)
      → nodes.gave g.node ≡ nodes.gave e.node ++ gone
      → gave_over {N = N} nodes w slab_now ≡ gave_over {N = N} nodes w slab + total w gone
  gave_more e g gone is put same =
      let k = left_put weight slab slab_now key e is g put in
      let more : total w (nodes.gave g.node) ≡ total w (nodes.gave e.node ++ gone) = ap (total w) same in
      let both = total-append w (nodes.gave e.node) gone in
      omega arith

  pub gave_put : (e g : TiedNode N) → get slab key ≡ Some e → Updates slab slab_now key (Some g)
      → nodes.gave g.node ≡ nodes.gave e.node → gave_over {N = N} nodes w slab_now ≡ gave_over {N = N} nodes w slab
  gave_put e g is put same =
      let k = left_put weight slab slab_now key e is g put in
      let now : total w (nodes.gave g.node) ≡ total w (nodes.gave e.node) = ap (total w) same in
      omega arith

  pub gave_new : (g : TiedNode N) → get slab key ≡ None → Updates slab slab_now key (Some g) → nodes.gave g.node ≡ []
      → gave_over {N = N} nodes w slab_now ≡ gave_over {N = N} nodes w slab
  gave_new g free put none =
      let k = left_new weight slab slab_now key g free put in
      let now : total w (nodes.gave g.node) ≡ 0 = ap (total w) none in
      omega arith

  pub gave_gone : (e : TiedNode N) → get slab key ≡ Some e → Updates slab slab_now key None
      → gave_over {N = N} nodes w slab_now + total w (nodes.gave e.node) ≡ gave_over {N = N} nodes w slab
  gave_gone e is gone = left_gone weight slab slab_now key e is gone
