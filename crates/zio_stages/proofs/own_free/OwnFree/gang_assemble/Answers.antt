use Rattle.std.proofs.Common.{sym, subst}
use Rattle.zio_stages.specs.OwnFrees.{IsOwnFree}
use Rattle.zio_stages.specs.declared.own_free.FreeWalk.{FreeWalk}
use Rattle.zio_stages.proofs.OwnFreeLemmas.{free_hands}
use Rattle.zio_stages.specs.NodeIos.{NoneSits}
use Rattle.zio_stages.specs.declared.family.Layer.TheVariants.{Within}
use Rattle.zio_stages.proofs.PartMembers.{none_beside}
use Rattle.zio_stages.proofs.own_free.OwnFree.gang_assemble.Goals as goal

pub returns-clause-hands : goal.returns-clause-hands
returns-clause-hands c = λ t tops tree front_asked before st count goes h.
    free_hands t tops c.args.family.now c.add.new.self tree front_asked before st c.args.front count c.in_ok-add.ensures.ok goes
    (subst (λ (w : FreeWalk). IsOwnFree w c.args.family.now tree front_asked before st) c.requires.due h)

pub returns-clause-sits : goal.returns-clause-sits
returns-clause-sits c = λ none. subst (NoneSits Within) (sym c.in_ok-add.ensures.ok) (none_beside c.args.family.now c.args.front none)
