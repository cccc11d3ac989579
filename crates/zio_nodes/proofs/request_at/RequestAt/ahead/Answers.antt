use Rattle.std.proofs.Common.{List, refl, rules, subst, sym, ◌∙◌}
use Rattle.zio_frames.specs.Frames.{Child}
use Rattle.zio_masks.specs.declared.stage.Stage.TheVariants.{WriteCompress}
use Rattle.zio_nodes.specs.Stalls.{OweNone}
use Rattle.zio_nodes.proofs.WriteLemmas.{all_out, is_a_write}
use Rattle.zio_nodes.proofs.request_at.RequestAt.ahead.Goals as goal

pub block_ahead-requires-clause-handed : goal.block_ahead-requires-clause-handed
block_ahead-requires-clause-handed c =
    let at = c.args.self.now in
    all_out c.requires.0 at.stage WriteCompress at.is_due at.node c.in-WriteCompress.is tt c.requires.1.stands

pub block_ahead-requires-clause-sound : goal.block_ahead-requires-clause-sound
block_ahead-requires-clause-sound c = c.requires.1.over.sound.write (is_a_write c.args.self.now.node.waiting.request.work (sym c.kind.ensures ∙ c.in-Write.is))

pub block_ahead-requires-clause-valid : goal.block_ahead-requires-clause-valid
block_ahead-requires-clause-valid c = c.requires.1.over.pointers

pub returns : goal.returns
returns c = record {
  stage = c.in-WriteCompress.is;
  kind = sym c.kind.ensures ∙ c.in-Write.is;
  none = subst (λ (children : List Child). OweNone WriteCompress children) c.family.ensures ((c.stall_of.ensures.none c.in_default-stall_of.is).none refl);
  is = search (rules, c.block_ahead.ensures, c.branch-block.ensures, c.in_ok-block.is);
}
