use Rattle.std.proofs.Common.{◌+◌, ◌<◌, ◌∙◌, sym, ap, subst, length, None, [], ◌∷◌, ◌++◌}
use Rattle.zio_children.specs.RequestKids.{AreHanded, Fits, KidsFields, KidsUnderWay, kid_handed}
use Rattle.zio_frames.specs.Slots.{IsOut}
use Rattle.zio_children.specs.declared.kids.KidState.TheVariants.{Out}
use Rattle.zio_children.proofs.KidFields.{fit_handed, handed_fields, written}
use Rattle.zio_frames.proofs.SlotMoves.{slots_more}
use Rattle.zio_children.proofs.kids.Kids.hand_out.Goals as goal

pub invariant_of-self : goal.invariant_of-self
invariant_of-self c =
    let x = c.self.inside in
    let l : x.handed < length x.kids.items = rw (← c.self.view_is) at c.requires in
    subst (λ ks. KidsFields ks (x.handed + 1) x.told x.ended) (sym (written x.kids.items x.handed c.index_mut.result.now c.index_mut.result.now Out c.index_mut.ensures.value l))
    (handed_fields x.kids.items x.handed x.told x.ended c.self.invariant l)

pub returns-clause-handed : goal.returns-clause-handed
returns-clause-handed c =
    let x = c.self.inside in
    let l : x.handed < length x.kids.items = rw (← c.self.view_is) at c.requires in
    ap (λ ks. let y : KidsUnderWay = record { kids = ks; handed = x.handed + 1; kept = x.kept } in y) (written x.kids.items x.handed c.index_mut.result.now c.index_mut.result.now Out c.index_mut.ensures.value l)
    ∙ ap kid_handed c.self.view_is

pub returns-clause-fits : goal.returns-clause-fits
returns-clause-fits c = λ slots f.
    let y = c.args.self.now in
    let handed : AreHanded y.handed y.kids = subst (λ (z : KidsUnderWay). AreHanded z.handed z.kids) c.self.view_is c.self.invariant.are_handed in
    subst (λ (z : KidsUnderWay). Fits z (slots ++ IsOut None ∷ [])) (sym (returns-clause-handed c)) (fit_handed y.handed y.kids slots handed c.requires f)

pub returns-clause-left : goal.returns-clause-left
returns-clause-left c = λ slots p f. slots_more slots p
