use Rattle.std.proofs.Common.{◌≡◌, ◌<◌, ◌∷◌, ◌∙◌, length, reverse, slice_get, sym, ap, subst}
use Rattle.std.proofs.lemmas.List.{length-reverse}
use Rattle.zio_children.specs.RequestKids.{numbers_of}
use Rattle.zio_stages.specs.KidTrees.{HandsOut, IsKids, KidsHeld}
use Rattle.zio_stages.proofs.KidMoves.{handed_held, hands_out, number_of_next, some_due}
use Rattle.zio_stages.proofs.ReverseLemmas.{reverse_last}
use Rattle.zio_stages.proofs.attempted.RequestKids.hand_out.Goals as goal

pub unreachable-requires : goal.unreachable-requires
unreachable-requires c =
    let f = c.self.inside in
    let x : KidsHeld = record { kids = f.kids; due = reverse f.due.items; again = f.again.items } in
    let less : x.kids.handed < length x.kids.kids =
    subst (λ (z : KidsHeld). z.kids.handed < length z.kids.kids) (sym c.self.view_is) c.requires in
    some_due x c.self.invariant less (length-reverse f.due.items ∙ sym f.due.ok.0 ∙ c.in-None.ensures.cases.0)

pub invariant_of-self : goal.invariant_of-self
invariant_of-self c =
    let f = c.self.inside in
    let x : KidsHeld = record { kids = f.kids; due = reverse f.due.items; again = f.again.items } in
    let first : x.due ≡ c.in-Some.tree ∷ reverse c.pop.new.self.items =
    ap reverse c.in-Some.ensures.items ∙ reverse_last c.in-Some.tree c.pop.new.self.items in
    handed_held x c.in-Some.tree (reverse c.pop.new.self.items) c.hand_out.new.self c.self.invariant first c.hand_out.ensures.handed

pub returns-clause-number : goal.returns-clause-number
returns-clause-number c =
    let f = c.self.inside in
    let x : KidsHeld = record { kids = f.kids; due = reverse f.due.items; again = f.again.items } in
    let first : x.due ≡ c.in-Some.tree ∷ reverse c.pop.new.self.items =
    ap reverse c.in-Some.ensures.items ∙ reverse_last c.in-Some.tree c.pop.new.self.items in
    number_of_next x c.in-Some.tree (reverse c.pop.new.self.items) c.self.invariant first
    ∙ ap (λ (z : KidsHeld). slice_get (numbers_of z.kids.kids) z.kids.handed) c.self.view_is

pub returns-clause-asks : goal.returns-clause-asks
returns-clause-asks c = λ attempt forest asked slots is.
    let f = c.self.inside in
    let x : KidsHeld = record { kids = f.kids; due = reverse f.due.items; again = f.again.items } in
    let y : KidsHeld = record { kids = c.hand_out.new.self; due = reverse c.pop.new.self.items; again = f.again.items } in
    let first : x.due ≡ c.in-Some.tree ∷ reverse c.pop.new.self.items =
    ap reverse c.in-Some.ensures.items ∙ reverse_last c.in-Some.tree c.pop.new.self.items in
    let less : x.kids.handed < length x.kids.kids =
    subst (λ (z : KidsHeld). z.kids.handed < length z.kids.kids) (sym c.self.view_is) c.requires in
    subst (λ (z : KidsHeld). HandsOut c.in-Some.tree z y attempt forest asked slots) c.self.view_is
    (hands_out x c.in-Some.tree (reverse c.pop.new.self.items) c.hand_out.new.self attempt forest asked slots c.self.invariant less first c.hand_out.ensures.handed (c.hand_out.ensures.fits slots)
    (subst (λ (z : KidsHeld). IsKids z attempt forest asked slots) (sym c.self.view_is) is))

pub returns-clause-holds : goal.returns-clause-holds
returns-clause-holds c = record {
  due = ap (λ (x : KidsHeld). x.due) (sym c.self.view_is)
      ∙ ap reverse c.in-Some.ensures.items ∙ reverse_last c.in-Some.tree c.pop.new.self.items;
  again = ap (λ (x : KidsHeld). x.again) c.self.view_is;
}
