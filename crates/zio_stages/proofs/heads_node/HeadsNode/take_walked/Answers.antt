use Rattle.std.proofs.Common.{◌≡◌, ◌∙◌}
use Rattle.std.specs.Prelude.{IfOk, Result, Ok, Err}
use Rattle.zio_gang.specs.Attempts.{Terms}
use Rattle.zio_trace.specs.Plans.{plan}
use Rattle.zio_trace.specs.Programs.{Ends}
use Rattle.zio_trace.specs.Tasks.{Walked, WalkedBy}
use Rattle.zio_frames.specs.Frames.{Frame, left_of}
use Rattle.zio_frames.specs.Slots.{AllHeard}
use Rattle.zio_parts.specs.HeadWalks.{walk_left}
use Rattle.zio_stages.specs.HeadsNodes.{with_slots}
use Rattle.zio_stages.specs.HeadsWorks.{IsHeadsWork}
use Rattle.zio_stages.proofs.HeadsInside.{walk_inside}
use Rattle.zio_stages.proofs.ToldLemmas.{since_all_heard, since_left}
use Rattle.zio_stages.proofs.heads_node.HeadsNode.take_walked.Goals as goal

of_both : {A E : Type 0} (P Q R : A → Type 0) (r : Result A E) → ((x : A) → P x → Q x → R x) → IfOk r P → IfOk r Q → IfOk r R
of_both P Q R (Ok x) f p q = f x p q
of_both P Q R (Err e) f p q = tt

pub returns-clause-walked : goal.returns-clause-walked
returns-clause-walked c =
    let node = c.args.self.now in
    of_both
    (λ (walked : Walked). (t : Terms) (x : Frame) → IsHeadsWork t node.work x → AllHeard x.slots × (left_of t x ≡ Ends (WalkedBy walked)))
    (λ (walked : Walked). walked ≡ walk_left node.work.walk) _ c.take_walked.result
    (λ walked ended left t st h.
    let end = ended t (with_slots st.outer h.begun) h.part in (
      record {
        alone = h.alone;
        heard = since_all_heard h.begun st.outer.slots h.since end.0;
        value = since_left h.begun st.outer.slots (plan t st.outer.op) h.since ∙ end.1;
      },
      walk_inside t node st walked h c.requires left,
    ))
    c.take_walked.ensures.walked c.take_walked.ensures.left
