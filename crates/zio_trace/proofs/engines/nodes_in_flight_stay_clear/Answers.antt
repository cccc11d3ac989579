use Rattle.zio_trace.specs.Engines.{reach_in}
use Rattle.zio_trace.proofs.ClearLemmas.{clear_does, clear_ends, clear_grows, clear_of}
use Rattle.zio_trace.proofs.ReachLemmas.{own_reach, reach_below}
use Rattle.zio_trace.proofs.engines.nodes_in_flight_stay_clear.Goals as goal

pub returns : goal.returns
returns c = record {
  in_order = λ j t shared ds s seats h own. clear_of (reach_in j t shared) ds s seats h (own_reach j t s.op own);
  does = λ j t shared ds s v seats h own. clear_does (reach_in j t shared) ds s v seats h (own_reach j t s.op own);
  hands_out = λ j t shared ds s op seats h stays. clear_grows (reach_in j t shared) ds s op seats h (reach_below j t s.op s.next op stays);
  gone = λ j t shared. clear_ends (reach_in j t shared);
}
