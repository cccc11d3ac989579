-- What is asked next, whatever those that are out are answered.
use Rattle.std.proofs.Common.{◌≡◌, List, length, Some, ◌∙◌, sym}
use Rattle.std.proofs.lemmas.List.{length-map}
use Rattle.zio_trace.specs.Calls.{NextIs}
use Rattle.zio_trace.specs.Going.{nth_asked}
use Rattle.zio_trace.specs.Labels.{Labelled}
use Rattle.zio_trace.specs.Oracles.{Oracle}
use Rattle.zio_trace.specs.Programs.{Program}
use Rattle.zio_trace.specs.Tasks.{Task, Value}
use Rattle.zio_trace.specs.Underway.{Call, IsLeft, early, told_of}
use Rattle.zio_trace.specs.Views.{bare}
use Rattle.zio_trace.proofs.ViewLemmas.{next_asked}

pub asked_next : {A : Type 0} (o : Oracle (Labelled Task) Value) (at : List _) (whole rest : Program (Labelled Task) Value A) (outs : List Call) (next : _) (op : Task)
    → IsLeft o at whole rest outs next → NextIs early (told_of outs) (bare rest) op
    → (y : Labelled Task) × (nth_asked o (length outs) rest ≡ Some y) × (y.op ≡ op)
asked_next o at whole rest outs next op left asks =
    let found = next_asked early o (told_of outs) rest op asks left.told in
    let count : length (told_of outs) ≡ length outs = length-map outs (λ (c : Call). c.told) in
    (found.0, (λ i. nth_asked o (sym count i) rest) ∙ found.1, found.2)
