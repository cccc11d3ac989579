-- What deeds ask for, and what their entries were asked for.
use Rattle.std.proofs.Common.{◌≡◌, List, [], ◌∷◌, ◌++◌, sym, ap}
use Rattle.zio_types.specs.Choices.{Choice}
use Rattle.zio_gang.specs.Journals.{asks_of}
use Rattle.zio_trace.specs.Entries.{RecordedBy, Recorded}
use Rattle.zio_trace.specs.Labels.{Labelled}
use Rattle.zio_trace.specs.Oracles.{ops_of}
use Rattle.zio_trace.specs.Programs.{Deed}
use Rattle.zio_trace.specs.RoundRules.{asks_in}
use Rattle.zio_trace.specs.Tasks.{Task, Leaf, Find, ReadCopies, WriteCopies, WritePart, ReadHeads, ReadTree, TakePlaces, Attempt, Settle, Value}
use Rattle.zio_trace.specs.Traces.{asked_by}

asks_by_one : (task : Task) (v : Value) (ds : List (Deed (Labelled Task) Value)) → ((cs : List Choice) → Recorded ds cs → asks_in (ops_of ds) ≡ asks_of cs)
    → (cs : List Choice) → RecordedBy task v (Recorded ds) cs → asked_by task ++ asks_in (ops_of ds) ≡ asks_of cs
asks_by_one (Find a) v ds later [] h = absurd h
asks_by_one (Find a) v ds later (c ∷ cs) h = λ i. sym h.0 i ∷ later cs h.2 i
asks_by_one (Leaf act) v ds later cs h = later cs h
asks_by_one (ReadCopies repair test len places) v ds later cs h = later cs h
asks_by_one (WriteCopies bytes places) v ds later cs h = later cs h
asks_by_one (WritePart attempt p sum copies levels path bytes) v ds later cs h = later cs h
asks_by_one (ReadHeads look levels path bp) v ds later cs h = later cs h
asks_by_one (ReadTree tree) v ds later cs h = later cs h
asks_by_one (TakePlaces tree) v ds later cs h = later cs h
asks_by_one (Attempt attempt p kids) v ds later cs h = later cs h
asks_by_one (Settle p kids) v ds later cs h = later cs h

pub asks_recorded : (ds : List (Deed (Labelled Task) Value)) (cs : List Choice) → Recorded ds cs → asks_in (ops_of ds) ≡ asks_of cs
asks_recorded [] cs h = ap asks_of (sym h)
asks_recorded (d ∷ ds) cs h = asks_by_one d.op.op d.answer ds (asks_recorded ds) cs h
