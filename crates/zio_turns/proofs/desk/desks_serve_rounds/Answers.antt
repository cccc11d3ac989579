use Rattle.zio_turns.proofs.ClaimsLast.{claims_or_choices}
use Rattle.zio_turns.proofs.DeskLemmas.{live_after}
use Rattle.zio_turns.proofs.RoundDesks.{calls_right, desk_kept}
use Rattle.zio_turns.proofs.desk.desks_serve_rounds.Goals as goal

pub returns-clause-right : goal.returns-clause-right
returns-clause-right c = λ t entries claimed tops old new calls h m may. calls_right t entries claimed tops old new calls h m may

pub returns-clause-kept : goal.returns-clause-kept
returns-clause-kept c = λ t entries claimed tops old new calls h m right. desk_kept t entries claimed tops old new calls h m right.lawful

pub returns-clause-live : goal.returns-clause-live
returns-clause-live c = λ dids gone rest old new m h. live_after dids gone rest old new m h

pub returns-clause-asks : goal.returns-clause-asks
returns-clause-asks c = λ t dids gone a b h. claims_or_choices t dids gone a b h
