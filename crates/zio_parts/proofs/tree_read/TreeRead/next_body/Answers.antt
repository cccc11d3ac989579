use Rattle.std.proofs.Common.{◌≡◌, ◌∙◌, sym, ap, subst, length, option_map, slice_get, Some, None, arith}
use Rattle.zio_parts.specs.TreeReads.{Reading, ShowsRead}
use Rattle.zio_parts.specs.declared.tree_read.BodyRead.{BodyRead}
use Rattle.zio_parts.specs.declared.tree_read.TreeStep.TheVariants.{Body, Wait, End}
use Rattle.zio_parts.proofs.TreeReadLemmas.{body_shown, end_shown, wait_shown}
use Rattle.zio_parts.proofs.tree_read.TreeRead.next_body.Goals as goal

pub returns-in-Some-clause-shows : goal.returns-in-Some-clause-shows
returns-in-Some-clause-shows c =
    let x = c.self.inside in
    let counted : c.len-n.result ≡ length x.results.items = omega (arith, x.results.ok.0, c.len-n.ensures) in
    let b : BodyRead = c.in-Some.body in
    let got : slice_get x.bodies (length x.results.items) ≡ Some b.bp =
    ap (slice_get x.bodies) (sym counted) ∙ ap (λ bs. slice_get bs c.len-n.result) (sym c.as_slice.ensures) ∙ sym c.nth_body.ensures.pointer
    ∙ ap (option_map (λ (r : BodyRead). r.bp)) c.in-Some.is in
    subst (λ (w : Reading). ShowsRead w (Body b)) c.self.view_is
    (body_shown x.bp x.phase x.bodies x.results.items x.out b c.self.invariant (rw (← c.self.view_is) at c.requires) c.if-self-eq-BODIES_OUT_MAX.false got (sym (c.in-Some.ensures.number ∙ counted)))

pub returns-then-self-gt0-clause-shows : goal.returns-then-self-gt0-clause-shows
returns-then-self-gt0-clause-shows c =
    let x = c.self.inside in
    let counted : c.len-n.result ≡ length x.results.items = omega (arith, x.results.ok.0, c.len-n.ensures) in
    let past : slice_get x.bodies (length x.results.items) ≡ None =
    ap (slice_get x.bodies) (sym counted) ∙ ap (λ bs. slice_get bs c.len-n.result) (sym c.as_slice.ensures) ∙ sym c.nth_body.ensures.pointer ∙ ap (option_map (λ (r : BodyRead). r.bp)) c.in-None.is in
    subst (λ (w : Reading). ShowsRead w Wait) c.self.view_is
    (wait_shown x.bp x.phase x.bodies x.results.items x.out c.self.invariant (rw (← c.self.view_is) at c.requires) c.if-self-gt0.true past)

pub returns-else-self-gt0-clause-shows : goal.returns-else-self-gt0-clause-shows
returns-else-self-gt0-clause-shows c =
    let x = c.self.inside in
    let counted : c.len-n.result ≡ length x.results.items = omega (arith, x.results.ok.0, c.len-n.ensures) in
    let past : slice_get x.bodies (length x.results.items) ≡ None =
    ap (slice_get x.bodies) (sym counted) ∙ ap (λ bs. slice_get bs c.len-n.result) (sym c.as_slice.ensures) ∙ sym c.nth_body.ensures.pointer ∙ ap (option_map (λ (r : BodyRead). r.bp)) c.in-None.is in
    subst (λ (w : Reading). ShowsRead w End) c.self.view_is
    (end_shown x.bp x.phase x.bodies x.results.items x.out c.self.invariant (rw (← c.self.view_is) at c.requires) c.if-self-gt0.false past)
