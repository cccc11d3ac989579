use Rattle.std.proofs.Common.{◌≡◌, ◌<◌, ◌∙◌, sym, ap, length, slice_get, option_map, arith, vec_len}
use Rattle.std.proofs.lemmas.Option.{slice_get_read}
use Rattle.zio_frames.specs.Frames.{Child}
use Rattle.zio_stages.proofs.FamilyLemmas.{length_children, length_seats, kind_there}
use Rattle.zio_stages.proofs.family.Family.kind.Goals as goal

pub index-requires : goal.index-requires
index-requires c =
    let f = c.self.inside in
    let all : vec_len f.sittings ≡ length f.sittings.items = f.sittings.ok.0 in
    omega (
      arith,
      c.requires,
      ap length c.self.view_is,
      length_children f.brood f.sittings.items c.self.invariant.0,
      length_seats f.brood f.sittings.items c.self.invariant.0,
    )

pub returns : goal.returns
returns c =
    let f = c.self.inside in
    let all : vec_len f.sittings ≡ length f.sittings.items = f.sittings.ok.0 in
    let within : c.args.child < vec_len f.sittings =
    omega (
      arith,
      c.requires,
      ap length c.self.view_is,
      length_children f.brood f.sittings.items c.self.invariant.0,
      length_seats f.brood f.sittings.items c.self.invariant.0,
    ) in
    sym (kind_there f.brood f.sittings.items c.args.child c.index.result.now c.self.invariant.0
    (slice_get_read f.sittings.items (vec_len f.sittings) c.args.child c.index.result.now all within c.index.ensures))
    ∙ ap (λ xs. option_map (λ (x : Child). x.kind) (slice_get xs c.args.child)) c.self.view_is
