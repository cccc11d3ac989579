use Rattle.std.proofs.Common.{◌≡◌, reverse, Some, sym, refl, ap, subst}
use Rattle.zio_children.specs.RequestKids.{IsOutWith, state_at}
use Rattle.zio_children.specs.declared.kids.KidState.TheVariants.{Out, Told}
use Rattle.zio_frames.specs.Slots.{IsOut}
use Rattle.zio_stages.specs.KidTrees.{IsKids, KidsHeld}
use Rattle.zio_stages.proofs.KidMoves.{moved_held, out_kids}
use Rattle.zio_stages.proofs.attempted.RequestKids.tell.Goals as goal

pub invariant_of-self : goal.invariant_of-self
invariant_of-self c =
    let f = c.self.inside in
    let x : KidsHeld = record { kids = f.kids; due = reverse f.due.items; again = f.again.items } in
    moved_held x c.tell.new.self c.args.n (Told c.args.pointer) c.self.invariant c.tell.ensures.told

pub returns-clause-after : goal.returns-clause-after
returns-clause-after c = λ attempt forest asked slots is.
    let f = c.self.inside in
    let x : KidsHeld = record { kids = f.kids; due = reverse f.due.items; again = f.again.items } in
    let there : state_at x.kids.kids c.args.n ≡ Some Out =
    subst (λ (z : KidsHeld). state_at z.kids.kids c.args.n ≡ Some Out) (sym c.self.view_is) c.requires in
    out_kids x c.tell.new.self c.args.n (Told c.args.pointer) c.args.pointer (IsOut (Some c.args.pointer)) attempt forest asked
    slots (subst (IsOutWith c.args.pointer) (sym there) tt)
    c.tell.ensures.told (c.tell.ensures.fits slots) refl
    (subst (λ (z : KidsHeld). IsKids z attempt forest asked slots) (sym c.self.view_is) is)

pub returns-clause-holds : goal.returns-clause-holds
returns-clause-holds c = record {
  due = ap (λ (x : KidsHeld). x.due) c.self.view_is;
  again = ap (λ (x : KidsHeld). x.again) c.self.view_is;
}
