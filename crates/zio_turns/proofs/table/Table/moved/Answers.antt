use Rattle.std.proofs.Common.{arith, ℕ, ◌≡◌, ◌+◌, List, Option, length, ap, ◌∙◌, sym, subst}
use Rattle.zio_turns.specs.LinePlaces.{standing}
use Rattle.zio_turns.specs.LineSums.{IsSize}
use Rattle.zio_turns.proofs.TableLemmas.{Moving, kept_size, standing_used, move_some, move_none, move_fewer}
use Rattle.zio_turns.proofs.table.Table.moved.Goals as goal
use Rattle.zio_turns.proofs.table.Table.moved.Goals.{in-Some, in_default}

pub roomy_size-size-requires-clause-sized : goal.roomy_size-size-requires-clause-sized
roomy_size-size-requires-clause-sized c =
    let all : length c.self.inside.places.items ≡ c.len.result = omega (arith, c.self.inside.places.ok.0) in
    subst IsSize all (kept_size _ _ _ c.self.invariant).0

pub roomy_size-size-requires-clause-held : goal.roomy_size-size-requires-clause-held
roomy_size-size-requires-clause-held c =
    let waiting : length (standing c.self.inside.places.items) ≡ length c.args.self.now.waiting = ap (λ h. length h.waiting) c.self.view_is in
    omega (
      arith,
      standing_used c.self.inside.places.items c.self.inside.used c.self.invariant.unused,
      ap (λ h. h.used) c.self.view_is,
      ap (λ h. h.size) c.self.view_is,
      c.requires,
      c.len.ensures,
      c.len-2.ensures.len,
      c.self.inside.places.ok.0,
    )

pub overflow_add-len : goal.overflow_add-len
overflow_add-len c =
    let waiting : length (standing c.self.inside.places.items) ≡ length c.args.self.now.waiting = ap (λ h. length h.waiting) c.self.view_is in
    omega (
      arith,
      standing_used c.self.inside.places.items c.self.inside.used c.self.invariant.unused,
      ap (λ h. h.used) c.self.view_is,
      ap (λ h. h.size) c.self.view_is,
      c.requires,
      c.len-2.ensures.len,
      c.self.inside.places.ok.0,
      c.self.inside.places.small,
    )

pub roomy_size-size-requires-clause-fits : goal.roomy_size-size-requires-clause-fits
roomy_size-size-requires-clause-fits c =
    omega (arith, (kept_size _ _ _ c.self.invariant).1, c.self.inside.places.ok.0, c.self.inside.nodes.ok.0)

pub put-requires : goal.put-requires
put-requires c =
    let items : length (standing c.deref-place-items.result.now) ≡ length (standing c.self.inside.places.items) =
    ap (λ ps. length (standing ps)) c.deref-place-items.ensures.value in
    let waiting : length (standing c.self.inside.places.items) ≡ length c.args.self.now.waiting = ap (λ h. length h.waiting) c.self.view_is in
    let moving = c.loop-place.invariant in
    omega (arith, move_fewer moving c.loop-place-test.true c.in-Some.is, moving.takes, moving.sized)

pub loop-place-preserved : goal.loop-place-preserved
loop-place-preserved c =
    let places : List (Option ℕ) = c.deref-place-items.result.now in
    let more = Moving places (c.loop-place.place-index + 1) c.roomy_size-size.result in
    let moving = c.loop-place.invariant in
    elim c.match-place.branch [
      | in-Some w ↦ subst more (sym (w.table-is ∙ w.put.ensures)) (move_some moving c.loop-place-test.true w.in-Some.is)
      | in_default w ↦ subst more (sym w.table-is) (move_none moving c.loop-place-test.true w.in_default.is)
    ]
