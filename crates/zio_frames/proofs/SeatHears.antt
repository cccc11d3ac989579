-- Each operation of a node that is out has its child, where a child told its pointer and where one ended.
use Rattle.std.proofs.Common.{◌≡◌, ℕ, List, slice_get, Bool, true, false, Option, Some, None, refl, ap, ◌∙◌, subst}
use Rattle.zio_blkptr.specs.declared.pointer.Bp.{Bp}
use Rattle.zio_trace.specs.Tasks.{Value}
use Rattle.zio_frames.specs.Frames.{Child, Frame, Inner, needs_none}
use Rattle.zio_frames.specs.Moves.{child_ended, child_told, heard_early, heard_of}
use Rattle.zio_frames.specs.Seats.{HasSeat, IsSeated, ShowsTold, slot_at}
use Rattle.zio_frames.specs.Slots.{Heard, IsOut, Slot}
use Rattle.zio_frames.proofs.GetLemmas.{all_at}
use Rattle.zio_frames.proofs.SeatChildren.{seated_set}
use Rattle.zio_frames.proofs.SeatMoves.{node, set_asked, set_there, set_within}

-- one that told nothing yet needs to tell something, and shows nothing
shows_told : (none : Bool) (told : Bool) (out : Option (Option Bp)) (pointer : Option Bp) → told ≡ false
    → ShowsTold none told out → ShowsTold none true (Some pointer) × (out ≡ None)
shows_told true true out pointer e h = absurd (cc)
shows_told true false out pointer e h = absurd h
shows_told false true out pointer e h = absurd (cc)
shows_told false false None pointer e h = (tt, refl)
shows_told false false (Some r) pointer e h = absurd h

-- what sits there
pub seat_of : (o : Frame) (inner : Option Inner) (cs : List Child) (n : ℕ) (c : Child) → IsSeated (node o inner cs)
    → slice_get cs n ≡ Some c → HasSeat (node o inner cs) c
seat_of o inner cs n c h there = all_at (HasSeat (node o inner cs)) cs n c h.each there

pub told_nothing : (o : Frame) (inner : Option Inner) (cs : List Child) (n : ℕ) (c : Child) → IsSeated (node o inner cs)
    → slice_get cs n ≡ Some c → c.told ≡ false → c.ended ≡ false
    → slot_at (node o inner cs) c.seat ≡ Some (IsOut None)
told_nothing o inner cs n c h there nothing goes =
    let here = seat_of o inner cs n c h there goes in
    here.2.slot
    ∙ ap (λ (r : Option (Option Bp)). Some (IsOut r)) (shows_told (needs_none c.kind) c.told here.1 None nothing here.2.shows).1

pub seated_told : (o : Frame) (inner : Option Inner) (cs : List Child) (n : ℕ) (c : Child) (pointer : Option Bp)
    → IsSeated (node o inner cs) → slice_get cs n ≡ Some c → c.told ≡ false → c.ended ≡ false
    → IsSeated (heard_early (node o inner cs) n c pointer)
seated_told o inner cs n c pointer h there nothing goes =
    let here = seat_of o inner cs n c h there goes in
    let slot : Slot = IsOut (Some pointer) in
    seated_set o inner cs n c (child_told c) slot h there goes refl
    (λ on. (
      here.0,
      Some pointer,
      record {
        slot = set_there o inner cs c.seat slot (IsOut here.1) here.2.slot;
        asked = set_asked o inner cs c.seat c.seat slot ∙ here.2.asked;
        kind = here.2.kind;
        shows = (shows_told (needs_none c.kind) c.told here.1 pointer nothing here.2.shows).0;
        beside = λ j. here.2.beside (subst (λ (T : Type 0). T) (set_within o inner cs c.seat c.seat slot) j);
      },
    ))
    (λ told e. goes)

pub seated_heard : (o : Frame) (inner : Option Inner) (cs : List Child) (n : ℕ) (c : Child) (v : Value)
    → IsSeated (node o inner cs) → slice_get cs n ≡ Some c → c.ended ≡ false
    → IsSeated (heard_of (node o inner cs) n c v)
seated_heard o inner cs n c v h there goes =
    seated_set o inner cs n c (child_ended c) (Heard v) h there goes refl (λ on. absurd (cc)) (λ told e. absurd (cc))
