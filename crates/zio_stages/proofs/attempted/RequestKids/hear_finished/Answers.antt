use Rattle.std.proofs.Common.{◌≡◌, reverse, Some, sym, ap, subst, slice_get}
use Rattle.zio_types.specs.declared.request.Bits.{Bits}
use Rattle.zio_gang.specs.Attempts.{has_bits, no_bits}
use Rattle.zio_trace.specs.Tasks.{AttemptedBy}
use Rattle.zio_children.specs.RequestKids.{IsOutWith, numbers_of, state_at}
use Rattle.zio_children.specs.declared.kids.KidState.TheVariants.{Ended}
use Rattle.zio_frames.specs.Slots.{Heard}
use Rattle.zio_stages.specs.KidTrees.{IsKids, KidsHeld}
use Rattle.zio_stages.proofs.KidMoves.{moved_held, out_kids}
use Rattle.zio_stages.proofs.attempted.RequestKids.hear_finished.Goals as goal

pub invariant_of-self : goal.invariant_of-self
invariant_of-self c =
    let f = c.self.inside in
    let x : KidsHeld = record { kids = f.kids; due = reverse f.due.items; again = f.again.items } in
    moved_held x c.hear.new.self c.args.n (Ended no_bits c.args.error c.args.pointer) c.self.invariant c.hear.ensures.heard

pub returns-clause-after : goal.returns-clause-after
returns-clause-after c = λ attempt forest asked slots number one is at by none gone.
    let f = c.self.inside in
    let x : KidsHeld = record { kids = f.kids; due = reverse f.due.items; again = f.again.items } in
    let there : IsOutWith c.args.pointer (state_at x.kids.kids c.args.n) =
    subst (λ (z : KidsHeld). IsOutWith c.args.pointer (state_at z.kids.kids c.args.n)) (sym c.self.view_is) c.requires in
    let here : slice_get (numbers_of x.kids.kids) c.args.n ≡ Some number =
    subst (λ (z : KidsHeld). slice_get (numbers_of z.kids.kids) c.args.n ≡ Some number) (sym c.self.view_is) at in
    out_kids x c.hear.new.self c.args.n (Ended no_bits c.args.error c.args.pointer) c.args.pointer (Heard (AttemptedBy one))
    attempt forest asked slots there c.hear.ensures.heard
    (λ fit. c.hear.ensures.fits slots number one fit here by) (ap (λ (b : Bits). has_bits b) by.same_bits, (none, gone))
    (subst (λ (z : KidsHeld). IsKids z attempt forest asked slots) (sym c.self.view_is) is)

pub returns-clause-holds : goal.returns-clause-holds
returns-clause-holds c = record {
  due = ap (λ (x : KidsHeld). x.due) c.self.view_is;
  again = ap (λ (x : KidsHeld). x.again) c.self.view_is;
}
