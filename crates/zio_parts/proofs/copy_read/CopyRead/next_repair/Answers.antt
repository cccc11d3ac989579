use Rattle.std.proofs.Common.{◌≡◌, ◌<◌, ◌≤◌, ◌∙◌, ap, sym, subst, length, take, option_map, slice_get, Some, None, Ok, arith, length-take}
use Rattle.zio_parts.specs.Copies.{AreMirrored, spot_at}
use Rattle.zio_parts.specs.CopyReads.{AllowsRead, Reading, ShowsRead, repairs_of, wanted_of}
use Rattle.zio_parts.specs.declared.copy_read.ReadStep.TheVariants.{Repair, Wait, End}
use Rattle.zio_parts.specs.contracts.copy_read.CopyRead.{the_view}
use Rattle.zio_parts.proofs.FieldLemmas.{repairs_held, there}
use Rattle.zio_parts.proofs.RepairLemmas.{mends_ended, mends_wait, repair_allowed, repair_shown}
use Rattle.zio_parts.proofs.WantedLemmas.{repairs_few}
use Rattle.zio_parts.proofs.copy_read.CopyRead.next_repair.Goals as goal

pub returns-in-Some-clause-shows : goal.returns-in-Some-clause-shows
returns-in-Some-clause-shows c = λ s good e.
    let x = c.self.inside in
    let i = c.self.invariant in
    let v : Reading = the_view x in
    let some = there x.good (rw (← c.self.view_is) at c.requires.good) in
    let held = repairs_held c.args.tops.now x.places c.as_slice-places.result.now x.copies.answers x.tried x.leaves x.failures x.failed x.handed x.mends
    c.as_slice-places.ensures i.tried i.failures i.failed i.mends i.handed in
    let at : slice_get (repairs_of s.tops v) (length v.mends) ≡ Some (spot_at c.in-Some.target) =
    ap (λ ts. slice_get (repairs_of ts v) (length v.mends)) e ∙ held ∙ sym c.nth_repair.ensures ∙ ap (option_map spot_at) c.in-Some.is in
    subst (λ (y : Reading). ShowsRead s good y (Repair c.in-Some.target)) c.self.view_is (repair_shown s good v some.0 c.in-Some.target some.1 c.if-not-self.false at)

pub returns-then-any_out-clause-shows : goal.returns-then-any_out-clause-shows
returns-then-any_out-clause-shows c = λ s good e.
    let x = c.self.inside in
    let i = c.self.invariant in
    let v : Reading = the_view x in
    let some = there x.good (rw (← c.self.view_is) at c.requires.good) in
    let held = repairs_held c.args.tops.now x.places c.as_slice-places.result.now x.copies.answers x.tried x.leaves x.failures x.failed x.handed x.mends
    c.as_slice-places.ensures i.tried i.failures i.failed i.mends i.handed in
    let at : slice_get (repairs_of s.tops v) (length v.mends) ≡ None =
    ap (λ ts. slice_get (repairs_of ts v) (length v.mends)) e ∙ held ∙ sym c.nth_repair.ensures ∙ ap (option_map spot_at) c.in_default.is in
    let within : length v.mends ≤ length (wanted_of c.args.tops.now v) = rw (← c.self.view_is) at c.requires.within in
    subst (λ (y : Reading). ShowsRead s good y Wait) c.self.view_is
    (mends_wait s good v some.0 some.1 c.if-not-self.false at (subst (λ ts. length v.mends ≤ length (wanted_of ts v)) (sym e) within) (sym c.any_out.ensures ∙ c.if-any_out.true))

pub returns-clause-shows : goal.returns-clause-shows
returns-clause-shows c = λ s good e.
    let x = c.self.inside in
    let i = c.self.invariant in
    let v : Reading = the_view x in
    let some = there x.good (rw (← c.self.view_is) at c.requires.good) in
    let held = repairs_held c.args.tops.now x.places c.as_slice-places.result.now x.copies.answers x.tried x.leaves x.failures x.failed x.handed x.mends
    c.as_slice-places.ensures i.tried i.failures i.failed i.mends i.handed in
    let at : slice_get (repairs_of s.tops v) (length v.mends) ≡ None =
    ap (λ ts. slice_get (repairs_of ts v) (length v.mends)) e ∙ held ∙ sym c.nth_repair.ensures ∙ ap (option_map spot_at) c.in_default.is in
    let within : length v.mends ≤ length (wanted_of c.args.tops.now v) = rw (← c.self.view_is) at c.requires.within in
    subst (λ (y : Reading). ShowsRead s good y (End (Ok tt))) c.self.view_is
    (mends_ended s good v some.0 some.1 c.if-not-self.false at (subst (λ ts. length v.mends ≤ length (wanted_of ts v)) (sym e) within) (sym c.any_out.ensures ∙ c.if-any_out.false))

pub returns-in-Some-clause-allows : goal.returns-in-Some-clause-allows
returns-in-Some-clause-allows c =
    let x = c.self.inside in
    let i = c.self.invariant in
    let v : Reading = the_view x in
    let some = there x.good (rw (← c.self.view_is) at c.requires.good) in
    let mirrored : AreMirrored c.args.tops.now x.places = rw (← c.self.view_is) at c.requires.mirrored in
    let held = repairs_held c.args.tops.now x.places c.as_slice-places.result.now x.copies.answers x.tried x.leaves x.failures x.failed x.handed x.mends
    c.as_slice-places.ensures i.tried i.failures i.failed i.mends i.handed in
    let at : slice_get (repairs_of c.args.tops.now v) (length v.mends) ≡ Some (spot_at c.in-Some.target) = held ∙ sym c.nth_repair.ensures ∙ ap (option_map spot_at) c.in-Some.is in
    let some_left : length (take (length x.leaves.answers) x.leaves.order) ≤ 4 = omega (arith, i.most, length-take (length x.leaves.answers) x.leaves.order) in
    let found : x.tried < length x.places = i.found (rw (← c.self.view_is) at c.requires.good) in
    let few : length (repairs_of c.args.tops.now v) ≤ 12 =
    repairs_few c.args.tops.now x.places (length x.copies.answers) (take (length x.leaves.answers) x.leaves.order) mirrored i.few (omega (arith, i.tried)) some_left in
    subst (λ (y : Reading). AllowsRead c.args.tops.now y (Repair c.in-Some.target)) c.self.view_is
    (repair_allowed c.args.tops.now v some.0 c.in-Some.target some.1 c.if-not-self.false few at)
