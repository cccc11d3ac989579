use Rattle.std.proofs.Common.{ℕ, ◌++◌, subst}
use Rattle.std.specs.Prelude.{IsTrue, List, ◌↔◌}
use Rattle.zio_types.specs.declared.place.Place.{Place}
use Rattle.zio_types.specs.Places.{HasRun}
use Rattle.zio_places.specs.Spaces.{SpaceState, used}
use Rattle.zio_places.specs.Tables.{sizes_of, live_of, AreAligned, AreBitmapsOf}
use Rattle.zio_places.proofs.space.Space.has_run.Goals as goal

pub returns : goal.returns
returns c =
    let at = subst (λ ts. (us : List Place) → AreBitmapsOf us ts → AreAligned (sizes_of ts) us → IsTrue c.has_run.result ↔ ((top : ℕ) × HasRun (sizes_of ts) us top c.args.size)) c.deref.ensures.value c.has_run.ensures in
    subst (λ (st : SpaceState). IsTrue c.has_run.result ↔ ((top : ℕ) × HasRun st.sizes (used st) top c.args.size)) c.self.view_is
    (at (live_of c.self.inside.tops.items ++ c.self.inside.pending.items) c.self.invariant.count c.self.invariant.aligned)
