use Rattle.std.proofs.Common.{◌≡◌, refl, ap, length, arith, sym, subst}
use Rattle.zio_stages.specs.TreeWorks.{heads_task}
use Rattle.zio_stages.specs.declared.own_read.OwnRead.{OwnRead}
use Rattle.zio_stages.proofs.OwnGangLemmas.{hands_read}
use Rattle.zio_stages.proofs.OwnReadLemmas.{first_read}
use Rattle.zio_stages.proofs.TreeLemmas.{walk_first}
use Rattle.zio_stages.specs.NodeIos.{NoneSits}
use Rattle.zio_stages.specs.declared.family.Layer.TheVariants.{Within}
use Rattle.zio_stages.proofs.PartMembers.{none_beside}
use Rattle.zio_stages.proofs.own_read.OwnRead.gang_assemble.Goals as goal

pub returns-clause-hands : goal.returns-clause-hands
returns-clause-hands c = λ t tops tree front_asked before st count goes h.
    let old = c.args.self.now in
    let new : OwnRead = record { tree = c.hand_out_walk.new.self; body = old.body } in
    let none = walk_first old.tree tree h.asked h.begun c.requires.walk h.work in
    let empty : length h.begun ≡ 0 = ap length none.1 in
    hands_read t tops old new c.args.family.now c.add.new.self tree front_asked before st (heads_task tree) c.args.front (λ op. op ≡ heads_task tree)
    c.requires.alone c.requires.alone goes h (c.hand_out_walk.ensures.out tree h.asked h.begun h.work) (first_read tree h.asked none.0) refl refl (omega (arith, count, empty)) c.in_ok-add.ensures.ok

pub returns-clause-sits : goal.returns-clause-sits
returns-clause-sits c = λ none. subst (NoneSits Within) (sym c.in_ok-add.ensures.ok) (none_beside c.args.family.now c.args.front none)
