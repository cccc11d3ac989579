-- What is asked next whatever those that are out are answered is asked next where each is answered by its own kind.
use Rattle.std.specs.Prelude.{List, [], ◌∷◌, Option}
use Rattle.zio_blkptr.specs.declared.pointer.Bp.{Bp}
use Rattle.zio_gang.specs.Attempts.{Terms}
use Rattle.zio_trace.specs.Calls.{NextIs}
use Rattle.zio_trace.specs.Plans.{TaskPlan, plan}
use Rattle.zio_trace.specs.Programs.{Ends, Asks}
use Rattle.zio_trace.specs.Tasks.{Task}
use Rattle.zio_trace.specs.Underway.{early}
use Rattle.zio_frames.specs.Answering.{NextAnswered}
use Rattle.zio_frames.specs.Frames.{Frame}
use Rattle.zio_frames.specs.Moves.{AsksNext, GoesBesideAll}
use Rattle.zio_frames.specs.Slots.{AsksBehindSlots}

pub next_answered : {A : Type 0} (outs : List (Option (Option Bp))) (p : TaskPlan A) (op : Task) → NextIs early outs p op → NextAnswered outs p op
next_answered [] (Ends a) op h = absurd h
next_answered (told ∷ outs) (Ends a) op h = absurd h
next_answered [] (Asks next more) op h = h
next_answered (told ∷ outs) (Asks next more) op h = λ v kind fits. next_answered outs (more v) op (h v fits)

pub asks_next : (t : Terms) (x : Frame) (op : Task) → AsksBehindSlots x.slots (plan t x.op) op → GoesBesideAll op x.asked x.slots → AsksNext t x op
asks_next t x op h beside = record { next = next_answered _ _ op h; beside = beside }
