use Rattle.zio_trace.proofs.ViewLemmas.{bare_answered, bare_ends, bare_labelled, next_asked, next_at}
use Rattle.zio_trace.proofs.views.a_node_shows_the_rest_of_its_program.Goals as goal

pub returns : goal.returns
returns c = record {
  itself = bare_labelled;
  answered = bare_answered;
  ended = bare_ends;
  next = next_asked;
  numbered = next_at;
}
