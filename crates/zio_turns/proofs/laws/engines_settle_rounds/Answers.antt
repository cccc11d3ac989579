use Rattle.zio_turns.proofs.Progress.{all_answers, all_settles, none_left}
use Rattle.zio_turns.proofs.laws.engines_settle_rounds.Goals as goal

pub returns-clause-not_stuck : goal.returns-clause-not_stuck
returns-clause-not_stuck g c = λ t sizes f before trees tops lives shelf queue leaves s k q e.
    none_left g.N.NodeFacts.nodes t sizes f before trees tops shelf s lives queue leaves k q e

pub returns-clause-all_settled : goal.returns-clause-all_settled
returns-clause-all_settled g c = λ t sizes f before trees tops shelf queue leaves s journal sound have k none of_round.
    all_settles g.N.NodeFacts.nodes t sizes f before trees tops shelf s journal queue leaves sound have k none of_round

pub returns-clause-all_answered : goal.returns-clause-all_answered
returns-clause-all_answered g c = λ t sizes f before trees tops shelf queue leaves s journal k none of_round.
    all_answers g.N.NodeFacts.nodes t sizes f before trees tops shelf s journal queue leaves k none of_round
