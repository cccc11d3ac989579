use Rattle.std.proofs.Common.{◌≡◌, true, sym, ap, subst, ◌∙◌}
use Rattle.std.proofs.lemmas.Bool.{false≢true}
use Rattle.zio_exchange.specs.SpaceCalls.{GivesBack}
use Rattle.zio_stages.specs.StoredBlocks.{IsGoingBack}
use Rattle.zio_stages.specs.RequestStoreds.{IsStoredWith, error_by, given_by, is_well, made_by}
use Rattle.zio_stages.specs.declared.request_node.Own.{Own}
use Rattle.zio_stages.proofs.GiveBackLemmas.{gives_none}
use Rattle.zio_stages.proofs.RequestStoredLemmas.{stored_only, stored_still}
use Rattle.zio_stages.proofs.request_node.RequestNode.give_block_back.Goals as goal

pub returns-then-is_well-clause-gives : goal.returns-then-is_well-clause-gives
returns-then-is_well-clause-gives g c =
    gives_none g.S.Services.made (made_by c.args.self.now.own) (given_by c.args.self.now.own) c.args.services.now (g.met.S.Services.made_none c.args.services.now)

pub returns-then-is_well-clause-all : goal.returns-then-is_well-clause-all
returns-then-is_well-clause-all g c = λ no.
    let well : is_well c.args.self.now (error_by c.args.self.now.own) ≡ true = ap (is_well c.args.self.now) (sym c.error_of-error.ensures) ∙ sym c.is_well.ensures ∙ c.if-is_well.true in
    absurd (false≢true (sym no ∙ well))

pub unreachable-requires : goal.unreachable-requires
unreachable-requires g c = stored_only _ c.args.self.now.own c.requires.stored c.in_default.not-Stored

pub give_back-requires : goal.give_back-requires
give_back-requires g c = subst (IsStoredWith IsGoingBack) c.in-Stored.is c.requires.stored

pub returns-clause-gives : goal.returns-clause-gives
returns-clause-gives g c =
    subst (λ (o : Own). GivesBack g.S.Services.made (made_by o) (given_by o) c.give_back.new.self.given c.args.services.now c.give_back.new.services) (sym c.in-Stored.is)
    c.give_back.ensures.gives

pub returns-clause-kept : goal.returns-clause-kept
returns-clause-kept g c = λ yes.
    let well = ap (is_well c.args.self.now) (sym c.error_of-error.ensures) ∙ sym c.is_well.ensures ∙ c.if-is_well.false in
    absurd (false≢true (sym well ∙ yes))

pub returns-clause-same : goal.returns-clause-same
returns-clause-same g c = λ t st h. stored_still t c.args.self.now st _ _ c.in-Stored.is c.give_back.ensures.own h
