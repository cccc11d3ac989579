use Rattle.std.proofs.Common.{◌≡◌, ◌++◌, sym, ap, subst, ◌∙◌}
use Rattle.std.specs.Prelude.{true, IsTrue, ◌↔◌}
use Rattle.zio_places.specs.Spaces.{SpaceState, is_on_top, is_open}
use Rattle.zio_places.specs.Tables.{sizes_of, live_of, HasFlags}
use Rattle.zio_places.proofs.LawLemmas.{open-test}
use Rattle.zio_places.proofs.space.Space.is_open.Goals as goal

pub returns-then-is_on_top : goal.returns-then-is_on_top
returns-then-is_on_top c =
    let p = c.args.place.now in
    let on : is_on_top (sizes_of c.self.inside.tops.items) p ≡ true = ap (λ ts. is_on_top (sizes_of ts) p) (sym c.deref.ensures.value) ∙ sym c.is_on_top.ensures ∙ c.if-is_on_top.true in
    let free = subst (λ ts. IsTrue c.is_open.result ↔ HasFlags ts p true) c.deref-then-is_on_top.ensures.value c.is_open.ensures in
    open-test (live_of c.self.inside.tops.items ++ c.self.inside.pending.items) c.self.inside.tops.items p c.is_open.result c.self.invariant.count c.self.invariant.even on free
    ∙ ap (λ (st : SpaceState). is_open st p) c.self.view_is
