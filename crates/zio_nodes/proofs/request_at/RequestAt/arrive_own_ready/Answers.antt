use Rattle.std.proofs.Common.{ap, ◌≡◌, Some, inl, inr, subst, sym, ◌∙◌}
use Rattle.zio_stages.specs.RequestClaims.{IsClaimingWith}
use Rattle.zio_stages.specs.RequestFrees.{IsFreeingWith}
use Rattle.zio_stages.specs.RequestReads.{IsReadingWith}
use Rattle.zio_gang.specs.declared.tree.Tree.{Tree}
use Rattle.zio_stages.specs.declared.own_claim.ClaimStep.TheVariants.{Out as StepOut}
use Rattle.zio_stages.specs.declared.own_claim.OwnClaim.{OwnClaim}
use Rattle.zio_stages.specs.declared.own_free.FreeWalk.TheVariants.{Out as FreeOut}
use Rattle.zio_stages.specs.declared.own_free.OwnFree.{OwnFree}
use Rattle.zio_stages.specs.declared.own_read.OwnRead.{OwnRead}
use Rattle.zio_nodes.proofs.OwnHears.{early_claim, early_free, early_read}
use Rattle.zio_nodes.proofs.OwnSeats.{own_claim, own_free, own_read}
use Rattle.zio_nodes.proofs.OwnTold.{same_own, told_gave, told_left, told_over}
use Rattle.zio_nodes.proofs.WriteHears.{null_idle}
use Rattle.zio_nodes.specs.StageMoves.{is_second_of}
use Rattle.zio_nodes.proofs.request_at.RequestAt.arrive_own_ready.Goals as goal

pub arrive_ready_read-requires : goal.arrive_ready_read-requires
arrive_ready_read-requires c =
    let r = c.args.self.now.node in
    let k = c.requires.gang in
    let own = own_read k.terms r k.stack k.is (sym c.kind.ensures ∙ c.in-Read.is) (c.other_children_show_own_work.ensures.early r c.args.child k) in
    record { seat = early_read r c.args.child own.0 own.1 k; reads = subst (IsReadingWith (λ (w : OwnRead). Unit {0})) (sym own.1) tt }

pub arrive_ready_free-requires : goal.arrive_ready_free-requires
arrive_ready_free-requires c =
    let r = c.args.self.now.node in
    let k = c.requires.gang in
    let own = own_free k.terms r k.stack k.is (sym c.kind.ensures ∙ c.in-Free.is) (c.other_children_show_own_work.ensures.early r c.args.child k) in
    let does = early_free r c.args.child own.0 own.1 k in
    record { seat = does.1.seat; out = subst (IsFreeingWith (λ (w : OwnFree). w.walk ≡ FreeOut)) (sym own.1) does.1.out }

pub arrive_ready_claim-requires : goal.arrive_ready_claim-requires
arrive_ready_claim-requires c =
    let r = c.args.self.now.node in
    let k = c.requires.gang in
    let own = own_claim k.terms r k.stack k.is (sym c.kind.ensures ∙ c.in-Claim.is) (c.other_children_show_own_work.ensures.early r c.args.child k) in
    let does = early_claim r c.args.child own.0 own.1 k in
    record {
      seat = does.1.seat;
      out = subst (IsClaimingWith (λ (w : OwnClaim). w.step ≡ StepOut)) (sym own.1) does.1.out;
      some = subst (IsClaimingWith (λ (w : OwnClaim). (tree : Tree) × (w.block ≡ Some tree))) (sym own.1) (does.1.tree, does.1.block);
    }

pub unreachable-requires : goal.unreachable-requires
unreachable-requires c =
    let r = c.args.self.now.node in
    let k = c.requires.gang in
    elim c.in-Null.is [
      | inl null ↦ null_idle k.terms r k.stack k.is (sym c.kind.ensures ∙ null) (c.other_children_show_own_work.ensures.early r c.args.child k)
      | inr write ↦ c.requires.kind (sym c.kind.ensures ∙ write)
    ]

pub returns-in-Read-clause-heard : goal.returns-in-Read-clause-heard
returns-in-Read-clause-heard c = λ t st d pointer h. c.arrive_ready_read.ensures.told t st d pointer h.seated h.there h.goes h.untold h.is

pub returns-in-Read-clause-gave : goal.returns-in-Read-clause-gave
returns-in-Read-clause-gave c =
    let r = c.args.self.now.node in
    let now = c.arrive_ready_read.new.self in
    told_gave r now (same_own r now c.arrive_ready_read.ensures.rest c.arrive_ready_read.ensures.own)

pub returns-in-Read-clause-over : goal.returns-in-Read-clause-over
returns-in-Read-clause-over c = λ tops h.
    told_over tops c.args.self.now c.arrive_ready_read.new.self c.requires.kind c.arrive_ready_read.ensures.rest c.arrive_ready_read.ensures.own
    (c.arrive_ready_read.ensures.over tops) h

pub returns-in-Read-clause-left : goal.returns-in-Read-clause-left
returns-in-Read-clause-left c =
    let r = c.args.self.now.node in
    let now = c.arrive_ready_read.new.self in
    told_left c.args.self.now.stage c.args.self.now.is_due r now (same_own r now c.arrive_ready_read.ensures.rest c.arrive_ready_read.ensures.own)

pub returns-in-Free-clause-heard : goal.returns-in-Free-clause-heard
returns-in-Free-clause-heard c = λ t st d pointer h. c.arrive_ready_free.ensures.told t st d pointer h.there h.is

pub returns-in-Free-clause-gave : goal.returns-in-Free-clause-gave
returns-in-Free-clause-gave c =
    let r = c.args.self.now.node in
    let now = c.arrive_ready_free.new.self in
    told_gave r now (same_own r now c.arrive_ready_free.ensures.rest c.arrive_ready_free.ensures.own)

pub returns-in-Free-clause-over : goal.returns-in-Free-clause-over
returns-in-Free-clause-over c = λ tops h.
    told_over tops c.args.self.now c.arrive_ready_free.new.self c.requires.kind c.arrive_ready_free.ensures.rest c.arrive_ready_free.ensures.own
    (c.arrive_ready_free.ensures.over tops) h

pub returns-in-Free-clause-left : goal.returns-in-Free-clause-left
returns-in-Free-clause-left c =
    let r = c.args.self.now.node in
    let now = c.arrive_ready_free.new.self in
    told_left c.args.self.now.stage c.args.self.now.is_due r now (same_own r now c.arrive_ready_free.ensures.rest c.arrive_ready_free.ensures.own)

pub returns-in-Claim-clause-heard : goal.returns-in-Claim-clause-heard
returns-in-Claim-clause-heard c = λ t st d pointer h. c.arrive_ready_claim.ensures.told t st d pointer h.there h.is

pub returns-in-Claim-clause-gave : goal.returns-in-Claim-clause-gave
returns-in-Claim-clause-gave c =
    let r = c.args.self.now.node in
    let now = c.arrive_ready_claim.new.self in
    told_gave r now (same_own r now c.arrive_ready_claim.ensures.rest c.arrive_ready_claim.ensures.own)

pub returns-in-Claim-clause-over : goal.returns-in-Claim-clause-over
returns-in-Claim-clause-over c = λ tops h.
    told_over tops c.args.self.now c.arrive_ready_claim.new.self c.requires.kind c.arrive_ready_claim.ensures.rest c.arrive_ready_claim.ensures.own
    (c.arrive_ready_claim.ensures.over tops) h

pub returns-in-Claim-clause-left : goal.returns-in-Claim-clause-left
returns-in-Claim-clause-left c =
    let r = c.args.self.now.node in
    let now = c.arrive_ready_claim.new.self in
    told_left c.args.self.now.stage c.args.self.now.is_due r now (same_own r now c.arrive_ready_claim.ensures.rest c.arrive_ready_claim.ensures.own)

pub returns-in-Read-clause-pass : goal.returns-in-Read-clause-pass
returns-in-Read-clause-pass c = ap is_second_of c.arrive_ready_read.ensures.own

pub returns-in-Free-clause-pass : goal.returns-in-Free-clause-pass
returns-in-Free-clause-pass c = ap is_second_of c.arrive_ready_free.ensures.own

pub returns-in-Claim-clause-pass : goal.returns-in-Claim-clause-pass
returns-in-Claim-clause-pass c = ap is_second_of c.arrive_ready_claim.ensures.own
