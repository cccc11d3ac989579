use Rattle.zio_trace.proofs.FinerTraces.{pieces_stop, singles_stop}
use Rattle.zio_trace.proofs.RunTraceLemmas.{run_joined, run_leads, run_rounds, start_leads}
use Rattle.zio_trace.proofs.runs.runs_have_their_traces.Goals as goal

pub returns : goal.returns
returns c = record {
  rounds = run_rounds;
  joined = run_joined;
  traces = start_leads;
  singles = singles_stop;
  pieces = pieces_stop;
  whole = run_leads;
}
