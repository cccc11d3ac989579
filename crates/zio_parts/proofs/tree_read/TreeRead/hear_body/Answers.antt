use Rattle.std.proofs.Common.{◌≡◌, ◌∙◌, ap, slice_get, set, Some, None}
use Rattle.zio_trace.specs.Calls.{answered_at}
use Rattle.zio_trace.specs.Tasks.{Got}
use Rattle.zio_frames.specs.Slots.{Heard, outs_before}
use Rattle.zio_parts.specs.TreeReads.{left_of_read, reading_in, slots_in, slots_of}
use Rattle.zio_parts.specs.declared.tree_read.Phase.TheVariants.{Found}
use Rattle.zio_parts.proofs.TreeReadLemmas.{heard_fields, heard_slots, is_found, slot_out, some_out}
use Rattle.zio_frames.proofs.SlotLemmas.{heard_left}
use Rattle.zio_parts.proofs.tree_read.TreeRead.hear_body.Goals as goal

pub overflow_sub-self : goal.overflow_sub-self
overflow_sub-self c =
    let x = c.self.inside in
    some_out x.phase x.bodies x.results.items x.out c.args.n c.self.invariant (rw (← c.self.view_is) at c.requires)

pub invariant_of-self : goal.invariant_of-self
invariant_of-self c =
    let x = c.self.inside in
    heard_fields x.phase x.bodies x.results.items x.out c.args.n c.args.found c.self.invariant (rw (← c.self.view_is) at c.requires)

pub returns-clause-slots : goal.returns-clause-slots
returns-clause-slots c =
    let x = c.self.inside in
    let out : slice_get x.results.items c.args.n ≡ Some None = rw (← c.self.view_is) at c.requires in
    let found : x.phase ≡ Found = is_found x.phase x.results.items c.args.n c.self.invariant.idle out in
    heard_slots x.phase x.results.items c.args.n c.args.found found
    ∙ ap (λ w. set (slots_of w) c.args.n (Heard (Got c.args.found))) c.self.view_is

pub returns-clause-left : goal.returns-clause-left
returns-clause-left c = λ heads.
    let x = c.self.inside in
    let out : slice_get x.results.items c.args.n ≡ Some None = rw (← c.self.view_is) at c.requires in
    let found : x.phase ≡ Found = is_found x.phase x.results.items c.args.n c.self.invariant.idle out in
    heard_left c.args.n (Got c.args.found) (slots_in x.phase x.results.items) (slots_in x.phase (set x.results.items c.args.n (Some c.args.found))) (reading_in heads x.bp x.phase x.bodies)
    (slot_out x.phase x.results.items c.args.n found out)
    (heard_slots x.phase x.results.items c.args.n c.args.found found)
    ∙ ap (λ w. answered_at (outs_before c.args.n (slots_of w)) (Got c.args.found) (left_of_read heads w)) c.self.view_is
