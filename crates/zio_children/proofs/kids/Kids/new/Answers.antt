use Rattle.std.proofs.Common.{sym, subst, []}
use Rattle.zio_children.specs.RequestKids.{FitKids, KidsFields}
use Rattle.zio_children.proofs.KidFields.{fit_fresh, fresh_fields}
use Rattle.zio_children.proofs.kids.Kids.new.Goals as goal

pub invariant_of-result : goal.invariant_of-result
invariant_of-result c = subst (λ ks. KidsFields ks 0 0 0) (sym c.in_ok-kids.ensures) (fresh_fields c.args.numbers.now c.requires)

pub returns-clause-fits : goal.returns-clause-fits
returns-clause-fits c = subst (λ ks. FitKids ks []) (sym c.in_ok-kids.ensures) (fit_fresh c.args.numbers.now)
