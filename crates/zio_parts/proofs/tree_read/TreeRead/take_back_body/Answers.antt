use Rattle.std.proofs.Common.{◌≡◌, ◌-◌, ◌++◌, ◌∷◌, [], ◌∙◌, None, sym, ap, subst, arith, vec_len}
use Rattle.zio_parts.specs.ReadFields.{ReadFields}
use Rattle.zio_parts.specs.TreeReads.{Reading}
use Rattle.zio_parts.proofs.TreeReadLemmas.{but_last, less_fields}
use Rattle.zio_parts.proofs.tree_read.TreeRead.take_back_body.Goals as goal

pub overflow_sub-self : goal.overflow_sub-self
overflow_sub-self c =
    let x = c.self.inside in
    let before = c.requires.0 in
    let is : x.results.items ≡ before.results ++ None ∷ [] = ap (λ (r : Reading). r.results) (c.self.view_is ∙ c.requires.1) in
    (less_fields x.phase x.bodies x.results.items before.results x.out c.self.invariant is).0

pub invariant_of-self : goal.invariant_of-self
invariant_of-self c =
    let x = c.self.inside in
    let before = c.requires.0 in
    let is : x.results.items ≡ before.results ++ None ∷ [] = ap (λ (r : Reading). r.results) (c.self.view_is ∙ c.requires.1) in
    let now = but_last x.results.items c.pop.new.self.items before.results None (vec_len x.results) is c.pop.ensures.rest (omega (arith, x.results.ok.0)) in
    subst (λ rs. ReadFields x.phase x.bodies rs (x.out - 1)) (sym now) (less_fields x.phase x.bodies x.results.items before.results x.out c.self.invariant is).1

pub returns : goal.returns
returns c = λ before is.
    let x = c.self.inside in
    let e = c.self.view_is ∙ is in
    let results : x.results.items ≡ before.results ++ None ∷ [] = ap (λ (r : Reading). r.results) e in
    let now = but_last x.results.items c.pop.new.self.items before.results None (vec_len x.results) results c.pop.ensures.rest (omega (arith, x.results.ok.0)) in
    λ i. record { bp = ap (λ (r : Reading). r.bp) e i; phase = ap (λ (r : Reading). r.phase) e i; bodies = ap (λ (r : Reading). r.bodies) e i; results = now i }
