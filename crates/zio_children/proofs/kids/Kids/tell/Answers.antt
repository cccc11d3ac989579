use Rattle.std.proofs.Common.{◌≡◌, ◌+◌, ◌<◌, ◌∙◌, refl, sym, ap, subst, length, set, vec_len, Some, arith, rules}
use Rattle.zio_children.specs.RequestKids.{Fits, IsOutWith, KidsFields, KidsUnderWay, kid_is, state_at}
use Rattle.zio_frames.specs.Slots.{IsOut}
use Rattle.zio_children.specs.declared.kids.KidState.TheVariants.{Due, Out, Told}
use Rattle.zio_children.proofs.KidFields.{fit_set, out_at, state_within, told_fields, told_less, written}
use Rattle.zio_frames.proofs.SlotMoves.{slots_told}
use Rattle.zio_children.proofs.kids.Kids.tell.Goals as goal

pub index_mut-requires : goal.index_mut-requires
index_mut-requires c =
    let x = c.self.inside in
    let out : state_at x.kids.items c.args.n ≡ Some Out = rw (← c.self.view_is) at c.requires in
    let l : c.args.n < length x.kids.items = state_within x.kids.items c.args.n Out out in
    let len = x.kids.ok.0 in
    omega (arith, len)

pub invariant_of-self : goal.invariant_of-self
invariant_of-self c =
    let x = c.self.inside in
    let out : state_at x.kids.items c.args.n ≡ Some Out = rw (← c.self.view_is) at c.requires in
    subst (λ ks. KidsFields ks x.handed (x.told + 1) x.ended)
    (sym (written x.kids.items c.args.n c.index_mut.result.now c.index_mut.result.now (Told c.args.pointer) c.index_mut.ensures.value (state_within x.kids.items c.args.n Out out)))
    (told_fields x.kids.items x.handed x.told x.ended c.args.n c.args.pointer c.self.invariant out)

pub returns-clause-told : goal.returns-clause-told
returns-clause-told c =
    let x = c.self.inside in
    let out : state_at x.kids.items c.args.n ≡ Some Out = rw (← c.self.view_is) at c.requires in
    ap (λ ks. let y : KidsUnderWay = record { kids = ks; handed = x.handed; kept = x.kept } in y)
    (written x.kids.items c.args.n c.index_mut.result.now c.index_mut.result.now (Told c.args.pointer) c.index_mut.ensures.value (state_within x.kids.items c.args.n Out out))
    ∙ ap (λ y. kid_is y c.args.n (Told c.args.pointer)) c.self.view_is

pub returns-clause-fits : goal.returns-clause-fits
returns-clause-fits c = λ slots f.
    subst (λ (z : KidsUnderWay). Fits z (set slots c.args.n (IsOut (Some c.args.pointer)))) (sym (returns-clause-told c))
    (fit_set c.args.self.now.kids c.args.n slots Out (Told c.args.pointer) (IsOut (Some c.args.pointer)) c.requires (λ e. let no : Out ≡ Due = e in cc) (λ number e. refl) f)

pub returns-clause-left : goal.returns-clause-left
returns-clause-left c = λ slots p f.
    slots_told c.args.n (Some c.args.pointer) slots p (out_at c.args.pointer c.args.self.now.kids c.args.n slots (subst (IsOutWith c.args.pointer) (sym c.requires) tt) f)

pub overflow_add-self : goal.overflow_add-self
overflow_add-self c =
    let x = c.self.inside in
    let out : state_at x.kids.items c.args.n ≡ Some Out = rw (← c.self.view_is) at c.requires in
    let len : vec_len x.kids ≡ length x.kids.items = x.kids.ok.0 in
    let l : x.told < length x.kids.items = told_less x.kids.items x.handed x.told x.ended c.args.n c.self.invariant out in
    let below : x.told < vec_len x.kids = omega arith in
    first_of (search rules, omega arith)
