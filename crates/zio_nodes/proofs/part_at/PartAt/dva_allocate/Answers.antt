use Rattle.std.proofs.Common.{◌≡◌, ◌∙◌, List, Option, ap, arith, length, refl, subst, sym, true, inl}
use Rattle.zio_masks.specs.declared.stage.Stage.{Stage}
use Rattle.zio_masks.specs.declared.stage.Stage.TheVariants.{DvaAllocate, Ready}
use Rattle.zio_parts.specs.declared.members.Member.{Member as MemberNow}
use Rattle.zio_stages.specs.OwnParts.{DoesThen}
use Rattle.zio_stages.specs.PartNodes.{IsFreshPart, IsMemberUnder, IsPartNode, with_member}
use Rattle.zio_stages.specs.declared.part_node.PartNode.{PartNode}
use Rattle.zio_stages.specs.declared.write_io.WriteIo.{WriteIo}
use Rattle.zio_nodes.specs.Bounds.{due_left, part_stages, write_left}
use Rattle.zio_nodes.specs.PartAts.{PartStands}
use Rattle.zio_nodes.specs.Told.{is_told}
use Rattle.zio_nodes.specs.declared.part_at.PartAt.{PartAt}
use Rattle.zio_nodes.proofs.PartBounds.{same_share, share_grows}
use Rattle.zio_nodes.proofs.PartLemmas.{part_goes, part_grows}
use Rattle.zio_nodes.proofs.StageLemmas.{write_placed}
use Rattle.zio_nodes.proofs.StageLeads.{next_of}
use Rattle.zio_masks.specs.declared.pipeline.TheConstants.{WRITE}
use Rattle.zio_masks.specs.Stages.{has}
use Rattle.zio_stages.proofs.PartMoves.{does_map}
use Rattle.zio_nodes.specs.StageMoves.{CallsFit, grows_at}
use Rattle.zio_nodes.specs.declared.node.Node.TheVariants.{Part}
use Rattle.zio_nodes.proofs.StageAllows.{one_more_few, starts_not}
use Rattle.zio_types.specs.declared.request.ChildKind.TheVariants.{Gang}
use Rattle.zio_nodes.proofs.part_at.PartAt.dva_allocate.Goals as goal

pub returns-in_default-clause-refused : goal.returns-in_default-clause-refused
returns-in_default-clause-refused g c =
    let d = c.dva_allocate.ensures.does in
    let was = c.args.self.now in
    let at : PartAt = record { node = c.dva_allocate.new.self; stage = was.stage; is_due = was.is_due } in
    record { calls = d.0; were_made = d.1; fits = subst (λ (s : Stage). CallsFit s (Part was) d.0) (sym c.requires.stage) d.3; goes = λ t st now. part_goes t st was at d.0 (d.2 t st now.is) refl }

pub returns-in_default-new_room-clause-refused : goal.returns-in_default-new_room-clause-refused
returns-in_default-new_room-clause-refused g c =
    let d = c.dva_allocate.ensures.does in
    let was = c.args.self.now in
    let at : PartAt = record { node = c.dva_allocate.new.self; stage = was.stage; is_due = was.is_due } in
    record { calls = d.0; were_made = d.1; fits = subst (λ (s : Stage). CallsFit s (Part was) d.0) (sym c.requires.stage) d.3; goes = λ t st now. part_goes t st was at d.0 (d.2 t st now.is) refl }

pub returns-in-Err-clause-refused : goal.returns-in-Err-clause-refused
returns-in-Err-clause-refused g c =
    let d = c.dva_allocate.ensures.does in
    let was = c.args.self.now in
    let mid = c.dva_allocate.new.self in
    let at : PartAt = record { node = c.next_member.new.self; stage = was.stage; is_due = was.is_due } in
    record {
      calls = d.0;
      were_made = d.1;
      fits = subst (λ (s : Stage). CallsFit s (Part was) d.0) (sym c.requires.stage) d.3;
      goes = λ t st now.
          part_goes t st was at d.0 (subst (λ (n : PartNode). DoesThen t st d.0 (IsPartNode t n)) (sym c.in-Err.ensures.err) (d.2 t st now.is)) refl;
    }

pub next_member-requires-clause-over : goal.next_member-requires-clause-over
next_member-requires-clause-over g c = (g.S.Services.tops c.args.services.now, c.dva_allocate.ensures.over)

pub returns-in-Ok-next_member-clause-moves : goal.returns-in-Ok-next_member-clause-moves
returns-in-Ok-next_member-clause-moves g c =
    let d = c.dva_allocate.ensures.does in
    let was = c.args.self.now in
    let child : PartNode = c.in-Ok-next_member.member in
    let at : PartAt = record { node = c.next_member.new.self; stage = was.stage; is_due = was.is_due } in
    record {
      calls = d.0;
      were_made = d.1;
      fits = subst (λ (s : Stage). CallsFit s (Part was) d.0) (sym c.requires.stage) d.3;
      moves = λ t st now.
          part_grows t st was at c.new-child.result d.0 (IsFreshPart t child)
          (does_map t st d.0 _ _ (λ mid is. c.in-Ok-next_member.ensures.hands t mid is) (d.2 t st now.is))
          (λ op k. c.new-child.ensures.fresh t _ k) c.new-child.ensures.told refl;
    }

pub returns-then-not-is_member_due-clause-moves : goal.returns-then-not-is_member_due-clause-moves
returns-then-not-is_member_due-clause-moves g c =
    let d = c.dva_allocate.ensures.does in
    let at : PartAt = record { node = c.dva_allocate.new.self; stage = c.next-self.result; is_due = true } in
    record {
      calls = d.0;
      were_made = d.1;
      fits = subst (λ (s : Stage). CallsFit s (Part c.args.self.now) d.0) (sym c.requires.stage) d.3;
      moves = λ t st now.
          part_goes t st c.args.self.now at d.0 (d.2 t st now.is) (ap is_told (write_placed c.next-self.result c.next-self.ensures) ∙ sym (ap is_told c.requires.stage));
    }

pub returns-in-Ok-next_member-clause-over : goal.returns-in-Ok-next_member-clause-over
returns-in-Ok-next_member-clause-over g c =
    let h = c.requires.over in
    let was = c.args.self.now in
    let tops = g.S.Services.tops c.args.services.now in
    let stands = subst (λ (s : Stage). PartStands tops s was.is_due was.node.work) c.requires.stage h.stands in (
      record {
        tops_are = h.tops_are;
        units = h.units;
        over = c.next_member.ensures.over tops c.dva_allocate.ensures.over;
        stands = subst (λ (s : Stage). PartStands tops s was.is_due c.next_member.new.self.work) (sym c.requires.stage)
            (stands.0, c.next_member.ensures.io ∙ c.dva_allocate.ensures.io ∙ stands.1);
      },
      c.new-child.ensures.over tops h.tops_are h.units (c.in-Ok-next_member.ensures.child tops),
    )

pub returns-then-not-is_member_due-clause-over : goal.returns-then-not-is_member_due-clause-over
returns-then-not-is_member_due-clause-over g c =
    let h = c.requires.over in
    let tops = g.S.Services.tops c.args.services.now in
    let stands = subst (λ (s : Stage). PartStands tops s c.args.self.now.is_due c.args.self.now.node.work) c.requires.stage h.stands in
    record {
      tops_are = h.tops_are;
      units = h.units;
      over = c.dva_allocate.ensures.over;
      stands = subst (λ (s : Stage). PartStands tops s true c.dva_allocate.new.self.work) (sym (write_placed c.next-self.result c.next-self.ensures))
          (refl, c.dva_allocate.ensures.io ∙ stands.1, c.is_member_due.ensures.none c.if-not-is_member_due.true c.in-Ok.ensures.left);
    }

pub returns-in-Ok-next_member-clause-left : goal.returns-in-Ok-next_member-clause-left
returns-in-Ok-next_member-clause-left g c =
    let at = c.args.self.now in
    let x = at.node.work.own.part in
    let y = c.next_member.new.self.work.own.part in
    let child : PartNode = c.in-Ok-next_member.member in
    let members = c.in-Ok-next_member.ensures.members ∙ ap with_member c.dva_allocate.ensures.members in
    let share = share_grows x y child members (c.next_member.ensures.path ∙ c.dva_allocate.ensures.path) c.in-Ok-next_member.ensures.next in
    let io = ap (λ (i : Option WriteIo). write_left at.stage i) (c.next_member.ensures.io ∙ c.dva_allocate.ensures.io) in
    omega (arith, share, io, c.new-child.ensures.left)

pub returns-then-not-is_member_due-clause-left : goal.returns-then-not-is_member_due-clause-left
returns-then-not-is_member_due-clause-left g c =
    let at = c.args.self.now in
    let x = at.node.work.own.part in
    let y = c.dva_allocate.new.self.work.own.part in
    let on = write_placed c.next-self.result c.next-self.ensures in
    let tops = g.S.Services.tops c.args.services.now in
    let stands = subst (λ (s : Stage). PartStands tops s at.is_due at.node.work) c.requires.stage c.requires.over.stands in
    let share = same_share x y (ap (λ (ms : List MemberNow). length ms) c.dva_allocate.ensures.members) c.dva_allocate.ensures.path in
    let io = ap (λ (i : Option WriteIo). write_left Ready i) c.dva_allocate.ensures.io in
    let now = ap (λ (s : Stage). write_left s c.dva_allocate.new.self.work.io) on in
    let was = ap (λ (s : Stage). write_left s at.node.work.io) c.requires.stage in
    omega (arith, share, io, now, was, ap part_stages on, ap part_stages c.requires.stage, ap due_left stands.0)

pub returns-then-not-is_member_due-clause-stages : goal.returns-then-not-is_member_due-clause-stages
returns-then-not-is_member_due-clause-stages g c =
    inl (next_of WRITE (has WRITE) c.args.self.now.stage DvaAllocate c.next-self.result c.requires.stage (λ s lt. refl) c.next-self.ensures)

pub returns-in-Ok-next_member-clause-stages : goal.returns-in-Ok-next_member-clause-stages
returns-in-Ok-next_member-clause-stages g c =
    let child = c.in-Ok-next_member.member in
    let old = c.args.self.now.node.work.own.part in
    let new = c.next_member.new.self.work.own.part in
    let members : new.members ≡ with_member old.members = c.in-Ok-next_member.ensures.members ∙ ap with_member c.dva_allocate.ensures.members in
    let under : IsMemberUnder new child = c.in-Ok-next_member.ensures.next in (
      refl,
      ap (λ (s : Stage). grows_at s Gang) c.requires.stage,
      λ e. one_more_few old.members new.members members under.few,
      λ there. absurd (starts_not (sym c.requires.stage ∙ there)),
    )
