use Rattle.std.proofs.Common.{◌≡◌, List, Some, ap, arith, slice_get, sym, ◌∙◌}
use Rattle.zio_types.specs.declared.request.ChildKind.{ChildKind}
use Rattle.zio_types.specs.declared.request.ChildKind.TheVariants.{Gang, Logical, Vdev}
use Rattle.zio_frames.specs.Frames.{Child}
use Rattle.zio_stages.proofs.RequestSits.{get_within}
use Rattle.zio_nodes.proofs.AttemptHears.{early_of}
use Rattle.zio_nodes.proofs.OwnHears.{other_kind}
use Rattle.zio_nodes.proofs.WriteHears.{child_kind, leaf_told}
use Rattle.zio_nodes.proofs.request_at.RequestAt.arrive_ready.Goals as goal

pub kind_of_child-requires : goal.kind_of_child-requires
kind_of_child-requires c =
    let r = c.args.self.now.node in
    let k = c.requires.awaited in
    get_within r.family c.args.child k.child (ap (λ (cs : List Child). slice_get cs c.args.child) k.hears.is.family ∙ k.hears.there)

pub arrive_attempt_ready-requires : goal.arrive_attempt_ready-requires
arrive_attempt_ready-requires c =
    let k = c.requires.awaited in
    let of = sym (ap (λ (kind : ChildKind). Some kind) c.in-Logical.is) ∙ c.kind_of_child.ensures in
    let kind : k.child.kind ≡ Logical = child_kind c.args.self.now c.args.child Logical k of in
    record { logical = early_of Logical k.terms c.args.self.now k.stack c.args.child k.child k.hears kind; valid = c.requires.valid }

pub arrive_member_ready-requires : goal.arrive_member_ready-requires
arrive_member_ready-requires c =
    let k = c.requires.awaited in
    let of = sym (ap (λ (kind : ChildKind). Some kind) c.in-Gang.is) ∙ c.kind_of_child.ensures in
    let kind : k.child.kind ≡ Gang = child_kind c.args.self.now c.args.child Gang k of in
    record {
      awaited = k;
      gang = early_of Gang k.terms c.args.self.now k.stack c.args.child k.child k.hears kind;
      kind = sym c.kind.ensures ∙ c.in-Write.is;
      valid = c.requires.valid;
    }

pub arrive_own_ready-requires : goal.arrive_own_ready-requires
arrive_own_ready-requires c =
    let k = c.requires.awaited in
    let of = sym (ap (λ (kind : ChildKind). Some kind) c.in-Gang.is) ∙ c.kind_of_child.ensures in
    let kind : k.child.kind ≡ Gang = child_kind c.args.self.now c.args.child Gang k of in
    record {
      gang = early_of Gang k.terms c.args.self.now k.stack c.args.child k.child k.hears kind;
      kind = other_kind c.kind.result _ c.in-Null.is c.kind.ensures;
    }

pub unreachable-requires : goal.unreachable-requires
unreachable-requires c =
    let k = c.requires.awaited in
    let of = sym (ap (λ (kind : ChildKind). Some kind) c.in-Vdev.is) ∙ c.kind_of_child.ensures in
    let kind : k.child.kind ≡ Vdev = child_kind c.args.self.now c.args.child Vdev k of in
    leaf_told c.args.self.now c.args.child k kind

pub returns-in-Logical-clause-left : goal.returns-in-Logical-clause-left
returns-in-Logical-clause-left c = omega (arith, c.arrive_attempt_ready.ensures.left)

pub returns-in-Null-clause-heard : goal.returns-in-Null-clause-heard
returns-in-Null-clause-heard c = λ t st d h. c.arrive_own_ready.ensures.heard t st d c.args.pointer h

pub returns-in-Null-clause-left : goal.returns-in-Null-clause-left
returns-in-Null-clause-left c = omega (arith, c.arrive_own_ready.ensures.left)
