-- What a round's parts ask next belongs to the round, and may be out with what is out.
use Rattle.std.proofs.Common.{◌≡◌, ℕ, List, [], length, arith}
use Rattle.std.specs.List.{AllByRecursion}
use Rattle.zio_types.specs.Choices.{Choice}
use Rattle.zio_gang.specs.Attempts.{Terms}
use Rattle.zio_trace.specs.Clearings.{Free}
use Rattle.zio_trace.specs.Engines.{reach_in}
use Rattle.zio_trace.specs.Families.{Forest}
use Rattle.zio_trace.specs.Plans.{plan}
use Rattle.zio_trace.specs.Rounds.{settles}
use Rattle.zio_trace.specs.SoundRounds.{IsSoundRound, shared_in}
use Rattle.zio_trace.specs.Tasks.{Attempt, Find, Leaf, ReadCopies, ReadHeads, ReadTree, Settle, TakePlaces, Task, WriteCopies, WritePart}
use Rattle.zio_trace.specs.Underway.{Call, part_of}
use Rattle.zio_frames.specs.Frames.{Frame, outs_from}
use Rattle.zio_frames.specs.Moves.{AsksNext}
use Rattle.zio_frames.specs.OfRound.{IsFrameOf, IsTaskOf, MayStill}
use Rattle.zio_frames.proofs.RoundAttempts.{attempt_go, settles_go, trees_of_round}
use Rattle.zio_frames.proofs.RoundReads.{read_heads_go, tree_go}
use Rattle.zio_frames.proofs.RoundWalks.{Goes, IsFreeOfOuts, walk}
use Rattle.zio_frames.proofs.RoundWrites.{read_copies_go, write_copies_go, write_go}
pub use Rattle.zio_frames.proofs.RoundFrames.{asked_of_round, fits_of_any, fresh_of_round, heard_of_round, more_entries, told_of_round}

-- a round's trees
pub settle_of_round : (t : Terms) (sizes : ℕ → ℕ) (f : Forest) (entries : List Choice) → IsSoundRound t sizes f
    → AllByRecursion (IsTaskOf t f entries) (settles f)
settle_of_round t sizes f entries round = trees_of_round t sizes f entries round f round.numbers (λ q c. c)

-- the plan of a part of the round
plan_goes : (t : Terms) (sizes : ℕ → ℕ) (f : Forest) (entries : List Choice) (round : IsSoundRound t sizes f) (op : Task)
    → IsTaskOf t f entries op → Goes t f entries [] (plan t op)
plan_goes t sizes f entries round (Leaf act) h = (tt, tt, λ v fits. tt, λ beside b told. tt)
plan_goes t sizes f entries round (Find a) h = (tt, tt, λ v fits. tt, λ beside b told. tt)
plan_goes t sizes f entries round (TakePlaces tree) h = (tt, tt, λ v fits. tt, λ beside b told. tt)
plan_goes t sizes f entries round (ReadCopies repair test len places) h = read_copies_go t sizes f entries round repair test len places h
plan_goes t sizes f entries round (WriteCopies bytes places) h = write_copies_go t sizes f entries round bytes places h
plan_goes t sizes f entries round (WritePart attempt p sum copies levels path bytes) h =
    write_go t sizes f entries round attempt p sum copies h levels path bytes [] tt
plan_goes t sizes f entries round (ReadHeads look levels path bp) h = read_heads_go t sizes f entries round look levels path bp h
plan_goes t sizes f entries round (ReadTree tree) h = tree_go t sizes f entries round tree h [] tt
plan_goes t sizes f entries round (Attempt attempt p kids) h = attempt_go t sizes f entries round attempt p kids h
plan_goes t sizes f entries round (Settle p kids) h = settles_go t sizes f entries round p kids h

-- what a part of the round asks next is of the round
pub part_of_round : (t : Terms) (sizes : ℕ → ℕ) (f : Forest) (entries : List Choice) (x : Frame) (op : Task)
    → IsSoundRound t sizes f
    → IsFrameOf t f entries x → length x.asked ≡ length x.slots → AsksNext t x op → IsTaskOf t f entries op
part_of_round t sizes f entries x op round h len asks =
    (walk t f entries (λ os v. Unit {0}) [] x.asked x.slots (plan t x.op) op
    (plan_goes t sizes f entries round x.op h.task) h.slots h.asked len asks.beside asks.next).0

-- and may be out with what is out
pub next_is_free : (t : Terms) (sizes : ℕ → ℕ) (f : Forest) (entries : List Choice) (at : List ℕ) (x : Frame) (op : Task)
    (journal : List Choice)
    → IsSoundRound t sizes f → IsFrameOf t f entries x → length x.asked ≡ length x.slots → AsksNext t x op
    → MayStill t entries journal
    → AllByRecursion (λ (c : Call). Free (reach_in journal t (shared_in t f)) c.op (part_of at (length x.slots) op))
    (outs_from at 0 x.asked x.slots)
next_is_free t sizes f entries at x op journal round h len asks still =
    let free : IsFreeOfOuts t f entries x.asked x.slots op =
    (walk t f entries (λ os v. Unit {0}) [] x.asked x.slots (plan t x.op) op
    (plan_goes t sizes f entries round x.op h.task) h.slots h.asked len asks.beside asks.next).2 in
    free journal still at 0 (length x.slots) (omega arith)
