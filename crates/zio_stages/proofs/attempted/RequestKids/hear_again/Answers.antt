use Rattle.std.proofs.Common.{◌≡◌, ◌∙◌, reverse, None, Some, sym, ap, subst, slice_get, set, arith}
use Rattle.zio_types.specs.declared.request.Bits.{Bits}
use Rattle.zio_gang.specs.Attempts.{has_bits}
use Rattle.zio_trace.specs.Tasks.{AttemptedBy}
use Rattle.zio_children.specs.RequestKids.{IsOutWith, numbers_of, state_at}
use Rattle.zio_children.specs.declared.kids.KidState.TheVariants.{Ended}
use Rattle.zio_frames.specs.Slots.{Heard}
use Rattle.zio_exchange.specs.Wholes.{IsWhole, root_number}
use Rattle.zio_stages.specs.KidTrees.{IsKids, KidsHeld}
use Rattle.zio_stages.proofs.KidMoves.{again_held, again_kids, out_within}
use Rattle.zio_stages.proofs.attempted.RequestKids.hear_again.Goals as goal

pub index_mut-requires : goal.index_mut-requires
index_mut-requires c =
    let f = c.self.inside in
    let x : KidsHeld = record { kids = f.kids; due = reverse f.due.items; again = f.again.items } in
    let there : IsOutWith c.args.pointer (state_at x.kids.kids c.args.n) =
    subst (λ (z : KidsHeld). IsOutWith c.args.pointer (state_at z.kids.kids c.args.n)) (sym c.self.view_is) c.requires.out in
    omega (arith, f.again.ok.0, out_within x c.args.n c.args.pointer c.self.invariant there)

pub invariant_of-self : goal.invariant_of-self
invariant_of-self c =
    let f = c.self.inside in
    let x : KidsHeld = record { kids = f.kids; due = reverse f.due.items; again = f.again.items } in
    let root : root_number c.args.whole ≡ slice_get (numbers_of x.kids.kids) c.args.n =
    c.requires.root ∙ ap (λ (z : KidsHeld). slice_get (numbers_of z.kids.kids) c.args.n) (sym c.self.view_is) in
    again_held x c.hear.new.self c.args.n (Ended c.args.bits None c.args.pointer) c.args.whole c.self.invariant
    c.hear.ensures.heard root c.root-root.ensures.whole

pub returns-clause-after : goal.returns-clause-after
returns-clause-after c = λ attempt forest asked slots number one is at by left.
    let f = c.self.inside in
    let x : KidsHeld = record { kids = f.kids; due = reverse f.due.items; again = f.again.items } in
    let there : IsOutWith c.args.pointer (state_at x.kids.kids c.args.n) =
    subst (λ (z : KidsHeld). IsOutWith c.args.pointer (state_at z.kids.kids c.args.n)) (sym c.self.view_is) c.requires.out in
    let here : slice_get (numbers_of x.kids.kids) c.args.n ≡ Some number =
    subst (λ (z : KidsHeld). slice_get (numbers_of z.kids.kids) c.args.n ≡ Some number) (sym c.self.view_is) at in
    again_kids x c.hear.new.self c.args.n (Ended c.args.bits None c.args.pointer) c.args.pointer c.args.whole
    (Heard (AttemptedBy one)) attempt forest asked slots there c.hear.ensures.heard
    (λ fit. c.hear.ensures.fits slots number one fit here by)
    (ap (λ (b : Bits). has_bits b) by.same_bits ∙ c.requires.bits, left)
    (subst (λ (z : KidsHeld). IsKids z attempt forest asked slots) (sym c.self.view_is) is)

pub returns-clause-due : goal.returns-clause-due
returns-clause-due c = ap (λ (x : KidsHeld). x.due) c.self.view_is

pub returns-clause-left : goal.returns-clause-left
returns-clause-left c = ap (λ (x : KidsHeld). set x.again c.args.n (Some c.args.whole)) c.self.view_is
