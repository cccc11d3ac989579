use Rattle.std.proofs.Common.{sym, subst}
use Rattle.std.proofs.lemmas.Result.{IfOk-weaker}
use Rattle.zio_plain.specs.Entries.{AreEntriesFor}
use Rattle.zio_audit.proofs.ReplayedLemmas.{matched_fit, unmatched_strange}
use Rattle.zio_audit.proofs.replay.AsSpelledRoundEntriesReplayed.entries.Goals as goal

pub returns-clause-entries : goal.returns-clause-entries
returns-clause-entries g c =
    IfOk-weaker c.entries_for.result _ _ (λ its h sizes u may lawful.
    subst (AreEntriesFor sizes u c.args.given) (sym h.0) (matched_fit g.K.Spelled.journals c.args.round sizes u c.args.given c.requires.distinct c.requires.rounds may lawful h.1)) c.entries_for.ensures.entries

pub returns-clause-strange : goal.returns-clause-strange
returns-clause-strange g c = λ is sizes u may lawful t terms trees before ran.
    unmatched_strange g.K.Spelled.journals c.args.round sizes u c.args.given c.requires.distinct c.requires.rounds may lawful (c.entries_for.ensures.strange is) t terms trees before ran
