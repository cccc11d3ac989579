use Rattle.zio_trace.specs.Entries.{any_ways}
use Rattle.zio_trace.proofs.ReceiptLemmas.{gave_itself, has_begun, has_ended, has_more}
use Rattle.zio_trace.proofs.engines.nodes_know_by_their_own_deeds.Goals as goal

pub returns : goal.returns
returns c = record {
  begun = λ t whole. has_begun (any_ways t) whole;
  itself = λ t. gave_itself (any_ways t);
  more = λ t ds es x whole rest n v h gave nth differ. has_more (any_ways t) ds es x whole rest n v h gave nth differ;
  ended = λ t. has_ended (any_ways t);
}
