-- A read in a trace finds the copy that the operations before it spared.
use Rattle.std.proofs.Common.{◌≡◌, ℕ, List, [], ◌∷◌, ◌++◌, length, Bool, true, IsOk, refl, subst}
use Rattle.std.specs.List.{AllByRecursion}
use Rattle.zio_types.specs.declared.place.Place.{Place}
use Rattle.zio_types.specs.Choices.{Choice}
use Rattle.zio_cksum.specs.Blocks.{read_block}
use Rattle.zio_cksum.specs.Frames.{HaveRoom, spots_of}
use Rattle.zio_cksum.specs.Images.{Images}
use Rattle.zio_gang.specs.Attempts.{Terms}
use Rattle.zio_trace.specs.Leaves.{HaveSizes}
use Rattle.zio_trace.specs.Programs.{Deed, Happen}
use Rattle.zio_trace.specs.Readers.{CopiesApart}
use Rattle.zio_trace.specs.RoundTraces.{Trace}
use Rattle.zio_trace.specs.Tasks.{Got, ReadCopies, Task, Test, Value, good_by, got, means}
use Rattle.zio_heal.specs.Copies.{HasCopy, IsPastFaults, StoresAsGiven}
use Rattle.zio_heal.specs.Spared.{SparesBy}
use Rattle.zio_heal.proofs.FoundLemmas.{found_law}
use Rattle.zio_heal.proofs.SparedLemmas.{spared_law}

-- the images between two traces
record Between (journal : List Choice) (t : Terms) (front rest : Trace) (before after : Images) : Type 0 where
  pub images : Images
  pub first : Happen (means journal t) front before images
  pub second : Happen (means journal t) rest images after

between : (journal : List Choice) (t : Terms) (front rest : Trace) (before after : Images) → Happen (means journal t) (front ++ rest) before after → Between journal t front rest before after
between journal t [] rest before after h = record { images = before; first = refl; second = h }
between journal t (d ∷ ds) rest before after h =
    let later : Between journal t ds rest (means journal t d.op before).images after = between journal t ds rest (means journal t d.op before).images after h.1 in
    record { images = later.images; first = (h.0, later.first); second = later.second }

pub reads_law : (journal : List Choice) (t : Terms) (sizes : ℕ → ℕ) (repair : Bool) (test : Test) (places : List Place) (bytes : List ℕ) (value : Value) (front rest : Trace) (before after : Images) → StoresAsGiven t.setting → IsPastFaults t.setting → HaveSizes sizes before → HaveRoom (length bytes) (spots_of t.setting places) → CopiesApart (spots_of t.setting places) → good_by test bytes ≡ true → AllByRecursion (λ (d : Deed Task Value). SparesBy sizes t.setting (spots_of t.setting places) bytes d.op d.answer) front → Happen (means journal t) (front ++ record { op = ReadCopies repair test (length bytes) places; answer = value } ∷ rest) before after → HasCopy (spots_of t.setting places) bytes before → IsOk (got value)
reads_law journal t sizes repair test places bytes value front rest before after given past have room apart good spares happen copy =
    let read : Deed Task Value = record { op = ReadCopies repair test (length bytes) places; answer = value } in
    let mid : Between journal t front (read ∷ rest) before after = between journal t front (read ∷ rest) before after happen in
    let there = spared_law journal t sizes (spots_of t.setting places) bytes front before mid.images given have room apart spares mid.first copy in
    let is : Got (read_block t.setting repair (good_by test) mid.images (length bytes) places).found ≡ value = mid.second.0 in
    subst (λ (v : Value). IsOk (got v)) is (found_law t.setting repair (good_by test) mid.images bytes places past there.1 good)
