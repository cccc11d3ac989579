use Rattle.std.proofs.Common.{◌++◌, subst}
use Rattle.std.specs.Prelude.{IsTrue, List, ◌↔◌}
use Rattle.zio_types.specs.declared.place.Place.{Place}
use Rattle.zio_types.specs.Places.{HasRun}
use Rattle.zio_places.specs.Spaces.{SpaceState, used}
use Rattle.zio_places.specs.Tables.{sizes_of, live_of, AreAligned, AreBitmapsOf}
use Rattle.zio_places.proofs.space.Space.has_run_on.Goals as goal

pub returns : goal.returns
returns c =
    let at = subst (λ ts. (us : List Place) → AreBitmapsOf us ts → AreAligned (sizes_of ts) us → IsTrue c.has_run_on.result ↔ HasRun (sizes_of ts) us c.args.top c.args.size) c.deref.ensures.value c.has_run_on.ensures in
    subst (λ (st : SpaceState). IsTrue c.has_run_on.result ↔ HasRun st.sizes (used st) c.args.top c.args.size) c.self.view_is
    (at (live_of c.self.inside.tops.items ++ c.self.inside.pending.items) c.self.invariant.count c.self.invariant.aligned)
