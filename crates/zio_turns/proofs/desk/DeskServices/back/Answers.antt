use Rattle.std.proofs.Common.{sym, ◌∙◌}
use Rattle.std.proofs.lemmas.Bool.{false≢true}
use Rattle.zio_turns.proofs.DeskCalls.{back_made, stays_made}
use Rattle.zio_turns.proofs.desk.DeskServices.back.Goals as goal

pub returns-then-not-is_live-clause-made : goal.returns-then-not-is_live-clause-made
returns-then-not-is_live-clause-made c =
    stays_made c.args.self.now.space c.args.place (λ there. false≢true
    (sym c.if-not-is_live.true ∙ c.is_live.ensures.live.1 there))

pub returns-clause-made : goal.returns-clause-made
returns-clause-made c =
    back_made c.args.self.now.space c.give_back.new.self c.args.place
    (c.is_live.ensures.live.0 c.if-not-is_live.false) c.give_back.ensures.live
    c.give_back.ensures.pending c.give_back.ensures.sizes c.give_back.ensures.entries
