use Rattle.std.proofs.Common.{◌≡◌, ◌<◌, ap, refl, length, arith, vec_len}
use Rattle.std.proofs.lemmas.Option.{slice_get_read}
use Rattle.zio_frames.specs.Moves.{child_told}
use Rattle.zio_stages.proofs.FamilyLemmas.{changed_beside, changed_children, length_children, length_seats, of_kind_at, told_changed}
use Rattle.zio_stages.proofs.family.Family.tell.Goals as goal

pub index-requires : goal.index-requires
index-requires c =
    let f = c.self.inside in
    let all : vec_len f.sittings ≡ length f.sittings.items = f.sittings.ok.0 in
    omega (
      arith,
      c.requires,
      ap length c.self.view_is,
      length_children f.brood f.sittings.items c.self.invariant.0,
      length_seats f.brood f.sittings.items c.self.invariant.0,
    )

pub tell-requires : goal.tell-requires
tell-requires c =
    let f = c.self.inside in
    let all : vec_len f.sittings ≡ length f.sittings.items = f.sittings.ok.0 in
    let within : c.args.child < vec_len f.sittings =
    omega (
      arith,
      c.requires,
      ap length c.self.view_is,
      length_children f.brood f.sittings.items c.self.invariant.0,
      length_seats f.brood f.sittings.items c.self.invariant.0,
    ) in
    of_kind_at f.brood f.sittings.items c.args.child c.index.result.now c.self.invariant.0
    (slice_get_read f.sittings.items (vec_len f.sittings) c.args.child c.index.result.now all within c.index.ensures)

pub invariant_of-self : goal.invariant_of-self
invariant_of-self c =
    let f = c.self.inside in (
      changed_beside child_told c.args.child f.brood c.tell.new.brood f.sittings.items c.self.invariant.0 c.tell.ensures,
      told_changed child_told c.args.child f.brood c.tell.new.brood (λ _. refl) c.self.invariant.1 c.tell.ensures,
    )

pub returns : goal.returns
returns c =
    let f = c.self.inside in
    changed_children child_told c.args.child f.brood c.tell.new.brood f.sittings.items c.args.self.now _ c.tell.ensures c.self.view_is refl
