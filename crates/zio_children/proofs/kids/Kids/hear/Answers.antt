use Rattle.std.proofs.Common.{◌≡◌, ◌+◌, ◌<◌, ◌≤◌, ◌∙◌, refl, sym, ap, subst, length, set, vec_len, arith, cond, rules}
use Rattle.zio_trace.specs.Tasks.{AttemptedBy}
use Rattle.zio_children.specs.RequestKids.{Fits, FitsState, IsOutWith, KidsFields, KidsUnderWay, has_told, kid_is, state_at, state_set}
use Rattle.zio_frames.specs.Slots.{Heard}
use Rattle.zio_children.specs.declared.kids.KidState.{KidState}
use Rattle.zio_children.specs.declared.kids.KidState.TheVariants.{Due, Ended}
use Rattle.zio_children.proofs.KidFields.{ended_fields, ended_less, fit_set, heard_here, out_at, out_state, state_within, told_most, untold_is, written}
use Rattle.zio_frames.proofs.SlotMoves.{slots_heard}
use Rattle.zio_children.proofs.kids.Kids.hear.Goals as goal

pub index-requires : goal.index-requires
index-requires c =
    let x = c.self.inside in
    let out : IsOutWith c.args.pointer (state_at x.kids.items c.args.n) = rw (← c.self.view_is) at c.requires in
    let o = out_state c.args.pointer x.kids.items c.args.n out in
    let l : c.args.n < length x.kids.items = state_within x.kids.items c.args.n o.0 o.1 in
    let len = x.kids.ok.0 in
    omega (arith, len)

pub index_mut-requires : goal.index_mut-requires
index_mut-requires c =
    let x = c.self.inside in
    let out : IsOutWith c.args.pointer (state_at x.kids.items c.args.n) = rw (← c.self.view_is) at c.requires in
    let o = out_state c.args.pointer x.kids.items c.args.n out in
    let l : c.args.n < length x.kids.items = state_within x.kids.items c.args.n o.0 o.1 in
    let len = x.kids.ok.0 in
    omega (arith, len)

pub invariant_of-self : goal.invariant_of-self
invariant_of-self c =
    let x = c.self.inside in
    let out : IsOutWith c.args.pointer (state_at x.kids.items c.args.n) = rw (← c.self.view_is) at c.requires in
    let o = out_state c.args.pointer x.kids.items c.args.n out in
    let more : c.untold-more.result ≡ cond (has_told o.0) 0 1 =
    untold_is x.kids.items c.args.n c.index.result.now c.index.result.now o.0 c.untold-more.result c.untold-more.ensures c.index.ensures o.1 in
    let new : KidState = Ended c.args.bits c.args.error c.args.pointer in
    subst (λ ks. KidsFields ks x.handed (x.told + c.untold-more.result) (x.ended + 1))
    (sym (written x.kids.items c.args.n c.index_mut.result.now c.index_mut.result.now new c.index_mut.ensures.value (state_within x.kids.items c.args.n o.0 o.1)))
    (subst (λ k. KidsFields (state_set x.kids.items c.args.n new) x.handed (x.told + k) (x.ended + 1)) (sym more)
    (ended_fields x.kids.items x.handed x.told x.ended c.args.n c.args.pointer o.0 new c.self.invariant o.1 o.2 (λ e. let no : Ended c.args.bits c.args.error c.args.pointer ≡ Due = e in cc) o.3 refl refl))

pub returns-clause-heard : goal.returns-clause-heard
returns-clause-heard c =
    let x = c.self.inside in
    let out : IsOutWith c.args.pointer (state_at x.kids.items c.args.n) = rw (← c.self.view_is) at c.requires in
    let o = out_state c.args.pointer x.kids.items c.args.n out in
    ap (λ ks. let y : KidsUnderWay = record { kids = ks; handed = x.handed; kept = x.kept } in y)
    (written x.kids.items c.args.n c.index_mut.result.now c.index_mut.result.now (Ended c.args.bits c.args.error c.args.pointer) c.index_mut.ensures.value (state_within x.kids.items c.args.n o.0 o.1))
    ∙ ap (λ y. kid_is y c.args.n (Ended c.args.bits c.args.error c.args.pointer)) c.self.view_is

pub returns-clause-fits : goal.returns-clause-fits
returns-clause-fits c = λ slots number one f here is.
    let o = out_state c.args.pointer c.args.self.now.kids c.args.n c.requires in
    subst (λ (z : KidsUnderWay). Fits z (set slots c.args.n (Heard (AttemptedBy one)))) (sym (returns-clause-heard c))
    (fit_set c.args.self.now.kids c.args.n slots o.0 (Ended c.args.bits c.args.error c.args.pointer) (Heard (AttemptedBy one)) o.1 o.2
    (λ other e. subst (λ k. FitsState k (Ended c.args.bits c.args.error c.args.pointer) (Heard (AttemptedBy one))) (heard_here c.args.self.now.kids c.args.n number other here e) (one, refl, is)) f)

pub returns-clause-left : goal.returns-clause-left
returns-clause-left c = λ slots v p f. sym (slots_heard c.args.n v slots p (out_at c.args.pointer c.args.self.now.kids c.args.n slots c.requires f))

pub overflow_add-self : goal.overflow_add-self
overflow_add-self c =
    let x = c.self.inside in
    let out : IsOutWith c.args.pointer (state_at x.kids.items c.args.n) = rw (← c.self.view_is) at c.requires in
    let o = out_state c.args.pointer x.kids.items c.args.n out in
    let more : c.untold-more.result ≡ cond (has_told o.0) 0 1 =
    untold_is x.kids.items c.args.n c.index.result.now c.index.result.now o.0 c.untold-more.result c.untold-more.ensures c.index.ensures o.1 in
    let len : vec_len x.kids ≡ length x.kids.items = x.kids.ok.0 in
    let l : x.told + c.untold-more.result ≤ length x.kids.items = told_most x.kids.items x.handed x.told x.ended c.args.n c.untold-more.result o.0 c.self.invariant o.1 more in
    let below : x.told + c.untold-more.result ≤ vec_len x.kids = omega arith in
    first_of (search rules, omega arith)

pub overflow_add-self-2 : goal.overflow_add-self-2
overflow_add-self-2 c =
    let x = c.self.inside in
    let out : IsOutWith c.args.pointer (state_at x.kids.items c.args.n) = rw (← c.self.view_is) at c.requires in
    let o = out_state c.args.pointer x.kids.items c.args.n out in
    let len : vec_len x.kids ≡ length x.kids.items = x.kids.ok.0 in
    let l : x.ended < length x.kids.items = ended_less x.kids.items x.handed x.told x.ended c.args.n o.0 c.self.invariant o.1 o.3 in
    let below : x.ended < vec_len x.kids = omega arith in
    first_of (search rules, omega arith)
