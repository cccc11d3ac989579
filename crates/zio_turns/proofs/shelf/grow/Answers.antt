use Rattle.std.proofs.Common.{ℕ, List, [], ◌∷◌, ◌++◌, Some, ap, ◌∙◌, subst}
use Rattle.std.proofs.lemmas.Result.{on_ok_weaker}
use Rattle.slab.specs.Slab.{Updates}
use Rattle.zio_turns.specs.Acts.{with_ties}
use Rattle.zio_turns.specs.declared.entry.Ties.{Ties}
use Rattle.zio_turns.proofs.shelf.grow.Goals as goal

pub returns : goal.returns
returns g c =
    on_ok_weaker c.queue_up-2.result
    (λ q. record {
      at = c.in_ok-at.at;
      free = c.in_ok-at.ensures.free;
      added = subst (λ (x : Ties). Updates c.args.nodes.now c.add.new.nodes c.in_ok-at.at (Some (with_ties c.args.child x)))
          c.new_ties.ensures c.in_ok-at.ensures.added;
      queued = q ∙ ap (λ (line : List ℕ). line ++ c.args.key ∷ []) c.in_ok-queue_up.ensures;
    })
    c.queue_up-2.ensures
