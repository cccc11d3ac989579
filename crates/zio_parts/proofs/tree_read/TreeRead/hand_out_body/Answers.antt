use Rattle.std.proofs.Common.{◌≡◌, ◌∙◌, ap}
use Rattle.zio_parts.specs.TreeReads.{Reading, left_of_read}
use Rattle.zio_parts.specs.declared.tree_read.Phase.TheVariants.{Found}
use Rattle.zio_parts.proofs.TreeReadLemmas.{more_fields, more_left}
use Rattle.zio_parts.proofs.tree_read.TreeRead.hand_out_body.Goals as goal

pub invariant_of-self-2 : goal.invariant_of-self-2
invariant_of-self-2 c =
    let x = c.self.inside in
    more_fields x.phase x.bodies x.results.items c.push.new.self.items x.out c.self.invariant c.in_ok-push.ensures.items
    (rw (← c.self.view_is) at c.requires.found) (rw (← c.self.view_is) at c.requires.body) (rw (← c.self.view_is) at c.requires.few)

pub returns-clause-left : goal.returns-clause-left
returns-clause-left c = λ heads.
    let x = c.self.inside in
    let found : x.phase ≡ Found = rw (← c.self.view_is) at c.requires.found in
    ap (λ rs. let w : Reading = record { bp = x.bp; phase = x.phase; bodies = x.bodies; results = rs } in left_of_read heads w) c.in_ok-push.ensures.items
    ∙ more_left heads x.bp x.phase x.bodies x.results.items found
    ∙ ap (left_of_read heads) c.self.view_is
