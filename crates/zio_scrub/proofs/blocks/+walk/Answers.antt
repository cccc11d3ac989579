use Rattle.std.proofs.Common.{◌≡◌, ◌+◌, ◌-◌, ◌*◌, ◌<◌, ◌≤◌, ℕ, List, length, option_copied, sym, subst, ap, ◌∙◌, arith}
use Rattle.std.proofs.lemmas.Result.{on_ok_weaker}
use Rattle.zio_blkptr.specs.declared.pointer.Bp.{Bp}
use Rattle.zio_gang.specs.Pieces.{joined_parts, members_kept}
use Rattle.zio_scrub.specs.Parts.{seen_parts}
use Rattle.zio_scrub.proofs.TreePieces.{few_kept, gang_joined, joined_none, parts_body, parts_deep}
use Rattle.zio_scrub.proofs.blocks.+walk.Goals as goal

pub walk_pointer-returns-then-not-bp-clause-ok : goal.walk_pointer-returns-then-not-bp-clause-ok
walk_pointer-returns-then-not-bp-clause-ok t c =
    on_ok_weaker c.add_body.result
    (λ h. h ∙ ap (joined_parts (seen_parts c.args.parts.now)) (sym (parts_body c.args.levels c.args.tree.now.heads c.args.path.now c.args.bp.now c.if-not-bp.true)))
    c.add_body.ensures.ok

pub walk_pointer-returns-then-levels-eq0-clause-ok : goal.walk_pointer-returns-then-levels-eq0-clause-ok
walk_pointer-returns-then-levels-eq0-clause-ok t c =
    sym (joined_none (seen_parts c.args.parts.now))
    ∙ ap (joined_parts (seen_parts c.args.parts.now))
    (sym (parts_deep c.args.levels c.args.tree.now.heads c.args.path.now c.args.bp.now c.if-not-bp.false c.if-levels-eq0.true))

falls_by : (levels count t : ℕ) → 0 < levels → count ≤ 3 → 5 * levels ≡ t → 5 * (levels - 1) + 1 + count < t
falls_by levels count t some few is = omega arith

deeper : (path levels : ℕ) → 0 < levels → path + levels ≤ 8 → path + (levels - 1) < 8
deeper path levels some h = omega arith

pub walk_pointer-walk_members-requires : goal.walk_pointer-walk_members-requires
walk_pointer-walk_members-requires t c =
    let no = c.if-levels-eq0.false in
    let some : 0 < c.args.levels = omega arith in
    let named : c.as_slice.result.now ≡ members_kept (option_copied c.head-kept.result) = c.as_slice.ensures ∙ c.in_ok-members.ensures.ok in
    let count : length c.as_slice.result.now ≤ 3 =
    subst (λ (ms : List Bp). length ms ≤ 3) (sym named) (few_kept (option_copied c.head-kept.result)) in
    let few : 0 + length c.as_slice.result.now ≤ 3 = omega arith in (
      falls_by c.args.levels (length c.as_slice.result.now) t some count c.decreases,
      (few, deeper (length c.args.path.now) c.args.levels some c.requires.depth),
    )

pub walk_pointer-returns-clause-ok : goal.walk_pointer-returns-clause-ok
walk_pointer-returns-clause-ok t c =
    let no = c.if-levels-eq0.false in
    let some : 0 < c.args.levels = omega arith in
    on_ok_weaker c.walk_members.result
    (λ h. gang_joined c.args.levels c.args.tree.now.heads c.args.path.now c.args.bp.now (seen_parts c.args.parts.now) (seen_parts c.add_head.new.parts)
    (seen_parts c.walk_members.new.parts) (option_copied c.head-kept.result) c.as_slice.result.now c.if-not-bp.false some c.head-kept.ensures
    (c.as_slice.ensures ∙ c.in_ok-members.ensures.ok) c.in_ok-add_head.ensures.ok h)
    c.walk_members.ensures.ok
