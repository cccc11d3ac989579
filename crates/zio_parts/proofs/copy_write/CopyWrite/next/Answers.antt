use Rattle.std.proofs.Common.{◌≡◌, ◌<◌, ◌∙◌, sym, subst, ap, length, option_map, take, slice_get, None, Some, arith, length-take}
use Rattle.zio_parts.specs.Copies.{copies_at, spot_at}
use Rattle.zio_parts.specs.CopyWrites.{Writing, AllowsWrite, ShowsWrite, pass_error}
use Rattle.zio_parts.specs.declared.copy_write.WriteStep.TheVariants.{Store, Wait, Retry, End}
use Rattle.zio_parts.proofs.AnsweredLemmas.{within_get}
use Rattle.zio_parts.proofs.WriteLemmas.{all_handed, due_again, ended_again, ended_well, length_held, over, store_shown, wait_shown}
use Rattle.zio_parts.proofs.copy_write.CopyWrite.next.Goals as goal

pub returns-in-Some-clause-shows : goal.returns-in-Some-clause-shows
returns-in-Some-clause-shows c = λ s bytes e.
    let x = c.self.inside in
    let held = length_held x.handed x.outs x.errors c.self.invariant.outs c.self.invariant.errors c.self.invariant.handed in
    let at_held : slice_get (copies_at c.args.tops.now x.places) x.handed ≡ Some (spot_at c.in-Some.target) =
    ap (λ ps. slice_get (copies_at c.args.tops.now ps) x.handed) (sym c.as_slice-places.ensures) ∙ sym c.nth_copy.ensures ∙ ap (option_map spot_at) c.in-Some.is in
    subst (λ (w : Writing). ShowsWrite s bytes w (Store c.in-Some.target)) c.self.view_is
    (store_shown s c.args.tops.now bytes _ c.in-Some.target e (ap (slice_get (copies_at c.args.tops.now x.places)) held ∙ at_held))

pub returns-then-any_out-clause-shows : goal.returns-then-any_out-clause-shows
returns-then-any_out-clause-shows c = λ s bytes e.
    let x = c.self.inside in
    let i = c.self.invariant in
    let none : slice_get (copies_at c.args.tops.now x.places) x.handed ≡ None =
    ap (λ ps. slice_get (copies_at c.args.tops.now ps) x.handed) (sym c.as_slice-places.ensures) ∙ sym c.in_default.ensures in
    let all = all_handed c.args.tops.now x.places x.handed x.outs x.errors i.outs i.errors i.handed none (rw (← c.self.view_is) at c.requires) in
    subst (λ (w : Writing). ShowsWrite s bytes w Wait) c.self.view_is
    (wait_shown s c.args.tops.now bytes x.places x.retry x.handed x.outs x.errors e i.outs i.errors i.handed all (sym c.any_out.ensures ∙ c.if-any_out.true))

pub pass_error-error-requires : goal.pass_error-error-requires
pass_error-error-requires c =
    let x = c.self.inside in
    let i = c.self.invariant in
    let none : slice_get (copies_at c.args.tops.now x.places) x.handed ≡ None =
    ap (λ ps. slice_get (copies_at c.args.tops.now ps) x.handed) (sym c.as_slice-places.ensures) ∙ sym c.in_default.ensures in
    let all = all_handed c.args.tops.now x.places x.handed x.outs x.errors i.outs i.errors i.handed none (rw (← c.self.view_is) at c.requires) in
    let same : length (copies_at c.args.tops.now c.as_slice-places.result.now) ≡ length (copies_at c.args.tops.now x.places) = ap (λ ps. length (copies_at c.args.tops.now ps)) c.as_slice-places.ensures in
    omega (arith, length-take x.handed x.errors)

pub returns-then-self-clause-shows : goal.returns-then-self-clause-shows
returns-then-self-clause-shows c = λ s bytes e.
    let x = c.self.inside in
    let i = c.self.invariant in
    let none : slice_get (copies_at c.args.tops.now x.places) x.handed ≡ None =
    ap (λ ps. slice_get (copies_at c.args.tops.now ps) x.handed) (sym c.as_slice-places.ensures) ∙ sym c.in_default.ensures in
    let all = all_handed c.args.tops.now x.places x.handed x.outs x.errors i.outs i.errors i.handed none (rw (← c.self.view_is) at c.requires) in
    let is : c.pass_error-error.result ≡ pass_error c.args.tops.now None x.places (take x.handed x.errors) =
    c.pass_error-error.ensures ∙ ap (λ ps. pass_error c.args.tops.now None ps (take x.handed x.errors)) c.as_slice-places.ensures in
    let done = over s c.args.tops.now x.places x.handed x.outs x.errors c.pass_error-error.result e i.outs i.errors i.handed all (sym c.any_out.ensures ∙ c.if-any_out.false) is in
    subst (λ (w : Writing). ShowsWrite s bytes w (End c.pass_error-error.result)) c.self.view_is
    (ended_again s bytes x.places x.retry (take x.handed x.outs) (take x.handed x.errors) c.pass_error-error.result done c.if-self.true)

pub returns-in-Some-error-clause-shows : goal.returns-in-Some-error-clause-shows
returns-in-Some-error-clause-shows c = λ s bytes e.
    let x = c.self.inside in
    let i = c.self.invariant in
    let none : slice_get (copies_at c.args.tops.now x.places) x.handed ≡ None =
    ap (λ ps. slice_get (copies_at c.args.tops.now ps) x.handed) (sym c.as_slice-places.ensures) ∙ sym c.in_default.ensures in
    let all = all_handed c.args.tops.now x.places x.handed x.outs x.errors i.outs i.errors i.handed none (rw (← c.self.view_is) at c.requires) in
    let is : c.pass_error-error.result ≡ pass_error c.args.tops.now None x.places (take x.handed x.errors) =
    c.pass_error-error.ensures ∙ ap (λ ps. pass_error c.args.tops.now None ps (take x.handed x.errors)) c.as_slice-places.ensures in
    let done = over s c.args.tops.now x.places x.handed x.outs x.errors c.pass_error-error.result e i.outs i.errors i.handed all (sym c.any_out.ensures ∙ c.if-any_out.false) is in
    subst (λ (w : Writing). ShowsWrite s bytes w Retry) c.self.view_is
    (due_again s bytes x.places x.retry (take x.handed x.outs) (take x.handed x.errors) c.pass_error-error.result _ done c.if-self.false c.in-Some-error.is)

pub returns-in-None-clause-shows : goal.returns-in-None-clause-shows
returns-in-None-clause-shows c = λ s bytes e.
    let x = c.self.inside in
    let i = c.self.invariant in
    let none : slice_get (copies_at c.args.tops.now x.places) x.handed ≡ None =
    ap (λ ps. slice_get (copies_at c.args.tops.now ps) x.handed) (sym c.as_slice-places.ensures) ∙ sym c.in_default.ensures in
    let all = all_handed c.args.tops.now x.places x.handed x.outs x.errors i.outs i.errors i.handed none (rw (← c.self.view_is) at c.requires) in
    let is : c.pass_error-error.result ≡ pass_error c.args.tops.now None x.places (take x.handed x.errors) =
    c.pass_error-error.ensures ∙ ap (λ ps. pass_error c.args.tops.now None ps (take x.handed x.errors)) c.as_slice-places.ensures in
    let done = over s c.args.tops.now x.places x.handed x.outs x.errors c.pass_error-error.result e i.outs i.errors i.handed all (sym c.any_out.ensures ∙ c.if-any_out.false) is in
    subst (λ (w : Writing). ShowsWrite s bytes w (End None)) c.self.view_is
    (ended_well s bytes x.places x.retry (take x.handed x.outs) (take x.handed x.errors) c.pass_error-error.result done c.if-self.false c.in-None.is)

pub returns-in-Some-clause-allows : goal.returns-in-Some-clause-allows
returns-in-Some-clause-allows c =
    let x = c.self.inside in
    let held = length_held x.handed x.outs x.errors c.self.invariant.outs c.self.invariant.errors c.self.invariant.handed in
    let at_held : slice_get (copies_at c.args.tops.now x.places) x.handed ≡ Some (spot_at c.in-Some.target) =
    ap (λ ps. slice_get (copies_at c.args.tops.now ps) x.handed) (sym c.as_slice-places.ensures) ∙ sym c.nth_copy.ensures ∙ ap (option_map spot_at) c.in-Some.is in
    let below : x.handed < length (copies_at c.args.tops.now x.places) = within_get (copies_at c.args.tops.now x.places) x.handed (spot_at c.in-Some.target) at_held in
    subst (λ (w : Writing). AllowsWrite c.args.tops.now w (Store c.in-Some.target)) c.self.view_is (omega (arith, held))
