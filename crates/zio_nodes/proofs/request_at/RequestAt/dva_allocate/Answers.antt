use Rattle.std.proofs.Common.{◌≡◌, ◌<◌, ℕ, ap, arith, length, refl, subst, sym, ◌∙◌, inl}
use Rattle.zio_types.specs.declared.request.ChildKind.TheVariants.{Gang}
use Rattle.zio_masks.specs.declared.stage.Stage.{Stage}
use Rattle.zio_masks.specs.declared.stage.Stage.TheVariants.{DvaAllocate, Ready}
use Rattle.zio_script.specs.Requests.{kind_of}
use Rattle.zio_frames.specs.Frames.{fresh_stack}
use Rattle.zio_stages.specs.KidTrees.{KidsHeld}
use Rattle.zio_stages.specs.OwnParts.{DoesThen}
use Rattle.zio_stages.specs.PartNodes.{IsFreshPart}
use Rattle.zio_stages.specs.RequestCounts.{members_of}
use Rattle.zio_stages.specs.RequestNodes.{IsRequestNode}
use Rattle.zio_stages.specs.declared.request_node.RequestNode.{RequestNode}
use Rattle.zio_stages.proofs.PartMoves.{does_map}
use Rattle.zio_nodes.specs.Bounds.{part_left}
use Rattle.zio_nodes.specs.StageMoves.{CallsFit, grows_at}
use Rattle.zio_nodes.specs.Told.{is_told}
use Rattle.zio_nodes.specs.declared.node.Node.TheVariants.{Part, Request}
use Rattle.zio_nodes.specs.declared.request_at.RequestAt.{RequestAt}
use Rattle.zio_nodes.proofs.ClaimLemmas.{rest_then}
use Rattle.zio_nodes.proofs.KidMarks.{over_own}
use Rattle.zio_nodes.proofs.RequestMoves.{request_does, request_grows}
use Rattle.zio_nodes.proofs.StageAllows.{few_under, one_more_few, starts_not}
use Rattle.zio_nodes.proofs.StageLeads.{write_leads}
use Rattle.zio_nodes.proofs.StageLemmas.{write_placed}
use Rattle.zio_nodes.proofs.WriteLemmas.{all_out, asked_before, next_begun, none_gave, same_family, stands_in, stands_to, write_less, written_unstored}
use Rattle.zio_nodes.proofs.WriteMoves.{member_grows}
use Rattle.zio_nodes.proofs.request_at.RequestAt.dva_allocate.Goals as goal

pub dva_allocate-requires-clause-begun : goal.dva_allocate-requires-clause-begun
dva_allocate-requires-clause-begun g c =
    let at = c.args.self.now in
    stands_in (g.S.Services.tops c.args.services.now) at.stage DvaAllocate at.is_due at.node c.requires.kind c.requires.stage tt c.requires.over.stands

pub next_member-requires-clause-due : goal.next_member-requires-clause-due
next_member-requires-clause-due g c = c.is_member_due.ensures.due c.if-not-is_member_due.false

pub next_member-requires-clause-attempt : goal.next_member-requires-clause-attempt
next_member-requires-clause-attempt g c = subst (λ (n : ℕ). n < 4) (sym (ap (λ (r : RequestNode). r.attempt) c.dva_allocate.ensures.rest)) c.requires.over.over.few

pub next_member-requires-clause-over : goal.next_member-requires-clause-over
next_member-requires-clause-over g c = (g.S.Services.tops c.args.services.now, c.dva_allocate.ensures.over)

pub new-child-requires : goal.new-child-requires
new-child-requires g c =
    let begun = next_begun c.in-Ok-next_member.member c.next_member.new.self.own c.in-Ok-next_member.ensures.next.under in
    record { begun = begun.0; none = begun.1 }

pub returns-in_default-clause-refused : goal.returns-in_default-clause-refused
returns-in_default-clause-refused g c =
    let at = c.args.self.now in
    let tops = g.S.Services.tops c.args.services.now in
    let mid = c.dva_allocate.new.self in
    let does = c.dva_allocate.ensures.does in
    let begun = stands_in tops at.stage DvaAllocate at.is_due at.node c.requires.kind c.requires.stage tt c.requires.over.stands in
    let kind = ap (λ (r : RequestNode). kind_of r.waiting.request.work) c.dva_allocate.ensures.rest ∙ c.requires.kind in
    let gave = none_gave mid kind (written_unstored _ mid.own c.dva_allocate.ensures.begun) ∙ sym (none_gave at.node c.requires.kind (written_unstored _ at.node.own begun)) in
    record {
      calls = does.0;
      were_made = does.1;
      fits = subst (λ (s : Stage). CallsFit s (Request at) does.0) (sym c.requires.stage) does.3;
      goes = λ t st now. request_does t st at _ does.0 (does.2 t st now.is) refl gave;
    }

pub returns-in_default-new_room-clause-refused : goal.returns-in_default-new_room-clause-refused
returns-in_default-new_room-clause-refused g c =
    let at = c.args.self.now in
    let tops = g.S.Services.tops c.args.services.now in
    let mid = c.dva_allocate.new.self in
    let does = c.dva_allocate.ensures.does in
    let begun = stands_in tops at.stage DvaAllocate at.is_due at.node c.requires.kind c.requires.stage tt c.requires.over.stands in
    let kind = ap (λ (r : RequestNode). kind_of r.waiting.request.work) c.dva_allocate.ensures.rest ∙ c.requires.kind in
    let gave = none_gave mid kind (written_unstored _ mid.own c.dva_allocate.ensures.begun) ∙ sym (none_gave at.node c.requires.kind (written_unstored _ at.node.own begun)) in
    record {
      calls = does.0;
      were_made = does.1;
      fits = subst (λ (s : Stage). CallsFit s (Request at) does.0) (sym c.requires.stage) does.3;
      goes = λ t st now. request_does t st at _ does.0 (does.2 t st now.is) refl gave;
    }

pub returns-in-Err-clause-refused : goal.returns-in-Err-clause-refused
returns-in-Err-clause-refused g c =
    let at = c.args.self.now in
    let tops = g.S.Services.tops c.args.services.now in
    let mid = c.dva_allocate.new.self in
    let new = c.next_member.new.self in
    let does = c.dva_allocate.ensures.does in
    let same : new ≡ mid = c.in-Err.ensures.err in
    let begun = stands_in tops at.stage DvaAllocate at.is_due at.node c.requires.kind c.requires.stage tt c.requires.over.stands in
    let kind = ap (λ (r : RequestNode). kind_of r.waiting.request.work) (same ∙ c.dva_allocate.ensures.rest) ∙ c.requires.kind in
    let gave = none_gave new kind (written_unstored _ new.own c.next_member.ensures.begun) ∙ sym (none_gave at.node c.requires.kind (written_unstored _ at.node.own begun)) in
    record {
      calls = does.0;
      were_made = does.1;
      fits = subst (λ (s : Stage). CallsFit s (Request at) does.0) (sym c.requires.stage) does.3;
      goes = λ t st now.
          request_does t st at _ does.0 (subst (λ (r : RequestNode). DoesThen t st does.0 (IsRequestNode t r)) (sym same) (does.2 t st now.is)) refl gave;
    }

pub returns-in-Ok-next_member-clause-moves : goal.returns-in-Ok-next_member-clause-moves
returns-in-Ok-next_member-clause-moves g c =
    let at = c.args.self.now in
    let tops = g.S.Services.tops c.args.services.now in
    let mid = c.dva_allocate.new.self in
    let new = c.next_member.new.self in
    let does = c.dva_allocate.ensures.does in
    let rest = rest_then at.node mid new (same_family at.node mid c.dva_allocate.ensures.rest) c.next_member.ensures.rest in
    let begun = stands_in tops at.stage DvaAllocate at.is_due at.node c.requires.kind c.requires.stage tt c.requires.over.stands in
    let kind = ap (λ (r : RequestNode). kind_of r.waiting.request.work) rest ∙ c.requires.kind in
    let gave = none_gave new kind (written_unstored _ new.own c.next_member.ensures.begun) ∙ sym (none_gave at.node c.requires.kind (written_unstored _ at.node.own begun)) in
    record {
      calls = does.0;
      were_made = does.1;
      fits = subst (λ (s : Stage). CallsFit s (Request at) does.0) (sym c.requires.stage) does.3;
      moves = λ t st now.
          request_grows t st at _ (Part c.new-child.result) Gang (IsFreshPart t c.in-Ok-next_member.member) does.0
          (does_map t st does.0 _ _ (λ after is. c.in-Ok-next_member.ensures.hands t after is) (does.2 t st now.is))
          (λ op is. c.new-child.ensures.fresh t (fresh_stack op) is) (λ needs. c.new-child.ensures.told) refl refl gave;
    }

pub returns-in-Ok-next_member-clause-over : goal.returns-in-Ok-next_member-clause-over
returns-in-Ok-next_member-clause-over g c =
    let at = c.args.self.now in
    let tops = g.S.Services.tops c.args.services.now in
    let mid = c.dva_allocate.new.self in
    let new = c.next_member.new.self in
    let rest = rest_then at.node mid new (same_family at.node mid c.dva_allocate.ensures.rest) c.next_member.ensures.rest in
    let kind = ap (λ (r : RequestNode). kind_of r.waiting.request.work) rest ∙ c.requires.kind in
    let out = all_out tops at.stage DvaAllocate at.is_due at.node c.requires.stage tt c.requires.over.stands in (
      record {
        over = over_own tops at.node new new.family rest c.requires.over.over (c.next_member.ensures.over tops c.dva_allocate.ensures.over);
        stands = stands_to tops at.stage DvaAllocate at.is_due new kind c.requires.stage tt
            (subst (λ (k : KidsHeld). k.kids.handed ≡ length k.kids.kids) (sym (ap (λ (r : RequestNode). r.kids) rest)) out) c.next_member.ensures.begun;
      },
      c.new-child.ensures.over tops c.requires.over.over.tops_are c.requires.over.over.units (c.in-Ok-next_member.ensures.child tops),
    )

pub returns-in-Ok-next_member-clause-left : goal.returns-in-Ok-next_member-clause-left
returns-in-Ok-next_member-clause-left g c =
    let at = c.args.self.now in
    let mid = c.dva_allocate.new.self in
    let new = c.next_member.new.self in
    let child = c.in-Ok-next_member.member in
    let rest = rest_then at.node mid new (same_family at.node mid c.dva_allocate.ensures.rest) c.next_member.ensures.rest in
    let kind = ap (λ (r : RequestNode). kind_of r.waiting.request.work) rest ∙ c.requires.kind in
    member_grows at new (part_left c.new-child.result) child c.requires.kind kind c.requires.stage rest
    (asked_before child at.node.own mid.own new.own c.dva_allocate.ensures.members c.dva_allocate.ensures.path c.in-Ok-next_member.ensures.next) c.new-child.ensures.left

pub returns-then-not-is_member_due-clause-moves : goal.returns-then-not-is_member_due-clause-moves
returns-then-not-is_member_due-clause-moves g c =
    let at = c.args.self.now in
    let tops = g.S.Services.tops c.args.services.now in
    let mid = c.dva_allocate.new.self in
    let does = c.dva_allocate.ensures.does in
    let begun = stands_in tops at.stage DvaAllocate at.is_due at.node c.requires.kind c.requires.stage tt c.requires.over.stands in
    let kind = ap (λ (r : RequestNode). kind_of r.waiting.request.work) c.dva_allocate.ensures.rest ∙ c.requires.kind in
    let gave = none_gave mid kind (written_unstored _ mid.own c.dva_allocate.ensures.begun) ∙ sym (none_gave at.node c.requires.kind (written_unstored _ at.node.own begun)) in
    record {
      calls = does.0;
      were_made = does.1;
      fits = subst (λ (s : Stage). CallsFit s (Request at) does.0) (sym c.requires.stage) does.3;
      moves = λ t st now.
          request_does t st at _ does.0 (does.2 t st now.is)
          (ap is_told (write_placed c.next-self.result c.next-self.ensures) ∙ sym (ap is_told c.requires.stage)) gave;
    }

pub returns-then-not-is_member_due-clause-over : goal.returns-then-not-is_member_due-clause-over
returns-then-not-is_member_due-clause-over g c =
    let at = c.args.self.now in
    let tops = g.S.Services.tops c.args.services.now in
    let mid = c.dva_allocate.new.self in
    let rest = same_family at.node mid c.dva_allocate.ensures.rest in
    let kind = ap (λ (r : RequestNode). kind_of r.waiting.request.work) rest ∙ c.requires.kind in
    let out = all_out tops at.stage DvaAllocate at.is_due at.node c.requires.stage tt c.requires.over.stands in
    record {
      over = over_own tops at.node mid mid.family rest c.requires.over.over c.dva_allocate.ensures.over;
      stands = stands_to tops c.next-self.result Ready at.is_due mid kind (write_placed c.next-self.result c.next-self.ensures) tt
          (subst (λ (k : KidsHeld). k.kids.handed ≡ length k.kids.kids) (sym (ap (λ (r : RequestNode). r.kids) rest)) out)
          (c.is_member_due.ensures.none c.if-not-is_member_due.true c.in-Ok.ensures.asked);
    }

pub returns-then-not-is_member_due-clause-left : goal.returns-then-not-is_member_due-clause-left
returns-then-not-is_member_due-clause-left g c =
    let at = c.args.self.now in
    let mid = c.dva_allocate.new.self in
    let rest = c.dva_allocate.ensures.rest in
    let after : RequestAt = record { node = mid; stage = c.next-self.result; is_due = at.is_due } in
    write_less at after DvaAllocate Ready c.requires.kind (ap (λ (r : RequestNode). kind_of r.waiting.request.work) rest ∙ c.requires.kind) c.requires.stage
    (write_placed c.next-self.result c.next-self.ensures) tt tt (ap (λ (r : RequestNode). r.kids.due) rest) (omega arith)

pub returns-then-not-is_member_due-clause-stages : goal.returns-then-not-is_member_due-clause-stages
returns-then-not-is_member_due-clause-stages g c = inl (write_leads c.args.self.now DvaAllocate c.next-self.result c.requires.kind c.requires.stage c.next-self.ensures)

pub returns-in-Ok-next_member-clause-stages : goal.returns-in-Ok-next_member-clause-stages
returns-in-Ok-next_member-clause-stages g c =
    let child = c.in-Ok-next_member.member in
    let old = c.args.self.now.node.own in
    let new = c.next_member.new.self.own in
    let next = asked_before child old c.dva_allocate.new.self.own new c.dva_allocate.ensures.members c.dva_allocate.ensures.path c.in-Ok-next_member.ensures.next in (
      refl,
      ap (λ (s : Stage). grows_at s Gang) c.requires.stage,
      λ e. one_more_few (members_of old) (members_of new) next.members (few_under new child next.under),
      λ there. absurd (starts_not (sym c.requires.stage ∙ there)),
    )
