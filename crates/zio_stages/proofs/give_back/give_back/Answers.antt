use Rattle.std.proofs.Common.{◌∙◌, arith, rules}
use Rattle.zio_stages.proofs.GiveBackLemmas.{gives_more, gives_none, gives_still}
use Rattle.zio_stages.proofs.give_back.give_back.Goals as goal

pub loop-given-init : goal.loop-given-init
loop-given-init g c = record {
  gives = gives_none g.S.Services.made c.args.places.now c.args.given.now c.args.services.now (g.met.S.Services.made_none c.args.services.now);
  within = c.requires;
  tops = search rules;
}

pub loop-given-preserved : goal.loop-given-preserved
loop-given-preserved g c =
    let l = c.loop-given in record {
      gives = gives_more g.S.Services.made c.args.places.now c.args.given.now l.given c.place_at.result c.args.services.now l.services c.back.new.self
          g.met.S.Services.made_then c.place_at.ensures c.in_ok-back.ensures.made l.invariant.gives;
      within = omega arith;
      tops = c.back.ensures.tops ∙ l.invariant.tops;
    }

pub returns-in_err-back-clause-gives : goal.returns-in_err-back-clause-gives
returns-in_err-back-clause-gives g c =
    let l = c.loop-given in
    gives_still g.S.Services.made c.args.places.now c.args.given.now l.given c.args.services.now l.services c.back.new.self
    g.met.S.Services.made_then c.in_err-back.ensures.err l.invariant.gives
