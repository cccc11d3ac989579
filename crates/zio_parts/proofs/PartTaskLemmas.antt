-- Parts that are written as tasks: their plans end with what is stored, so a pointer that one told is the stored one.
use Rattle.std.proofs.Common.{◌≡◌, ℕ, zero, suc, ◌≤◌, List, [], ◌∷◌, length, Bool, true, false, ◌++◌, Option, Some, None, nat_le, refl, sym, ap, ◌∙◌, le-leb}
use Rattle.std.proofs.lemmas.List.{length-map}
use Rattle.zio_types.specs.declared.place.Place.{Place}
use Rattle.zio_blkptr.specs.declared.pointer.Bp.{Bp}
use Rattle.zio_blkptr.specs.declared.pointer.SumKind.{SumKind}
use Rattle.zio_cksum.specs.Headers.{split_sizes}
use Rattle.zio_gang.specs.Attempts.{Pending, Terms, writing_of}
use Rattle.zio_gang.specs.Writes.{Writing, body_ask, cut}
use Rattle.zio_trace.specs.Calls.{FitsEarly, NextIs}
use Rattle.zio_trace.specs.Entries.{any_ways}
use Rattle.zio_trace.specs.Going.{nth_asked}
use Rattle.zio_trace.specs.Labels.{Labelled, labelled, ways_at}
use Rattle.zio_trace.specs.Oracles.{IsOracle, Oracle, heard}
use Rattle.zio_trace.specs.Plans.{TaskPlan, gang_stored, header_over, plan_body, plan_gang, plan_gang_unless, plan_members, plan_part, plan_write}
use Rattle.zio_trace.specs.Programs.{Program, Ends, Asks, ◌>>=◌, ask}
use Rattle.zio_trace.specs.Tasks.{Task, Value, Find, Leaf, ReadCopies, WriteCopies, WritePart, ReadHeads, ReadTree, TakePlaces, Attempt, Settle, StoredAs, found, nowhere, wrote}
use Rattle.zio_trace.specs.Underway.{Call, IsLeft, early, told_of}
use Rattle.zio_trace.specs.Views.{StandFirst, ToldTrue, bare}
use Rattle.zio_trace.proofs.ViewLemmas.{next_asked}
use Rattle.zio_parts.specs.PartTasks.{AreToldByParts, IsPart, IsToldByPart}
use Rattle.zio_parts.specs.PartWrites.{EndsAlways, stored_pointer}
use Rattle.zio_parts.proofs.GangLemmas.{ends_bind}

-- ---- the plan of one sector

unless_sector : (b : Bool) (w : Writing) (one other : List ℕ → List ℕ → TaskPlan Value) (path bytes : List ℕ) → b ≡ true → plan_gang_unless b w one path bytes ≡ plan_gang_unless b w other path bytes
unless_sector true w one other path bytes e = refl
unless_sector false w one other path bytes e = absurd (cc)

body_sector : (places : Option (List Place)) (w : Writing) (one other : List ℕ → List ℕ → TaskPlan Value) (path bytes : List ℕ) → nat_le (length bytes) 512 ≡ true → plan_body places w one path bytes ≡ plan_body places w other path bytes
body_sector (Some places) w one other path bytes e = refl
body_sector None w one other path bytes e = unless_sector (nat_le (length bytes) 512) w one other path bytes e

-- a part of one sector has no members
pub part_sector : (w : Writing) (one other : List ℕ → List ℕ → TaskPlan Value) (path bytes : List ℕ) → length bytes ≤ 512 → plan_part w one path bytes ≡ plan_part w other path bytes
part_sector w one other path bytes h = λ i. Asks (Find (body_ask w path bytes)) (λ v. body_sector (found v) w one other path bytes (le-leb (length bytes) 512 h) i)

-- ---- what is stored

abbrev IsEarly : Value → Type 0
IsEarly v = early v ≡ stored_pointer v

gang_ends : (places : Option (List Place)) (w : Writing) (below : List ℕ → List ℕ → TaskPlan Value) (path bytes : List ℕ) → EndsAlways IsEarly (plan_gang places w below path bytes)
gang_ends None w below path bytes = refl
gang_ends (Some places) w below path bytes =
    ends_bind IsEarly (plan_members below path 0 (cut (split_sizes (length bytes)) bytes))
    (λ m. ask (WriteCopies (header_over w places m) places) >>= λ v. Ends (StoredAs (gang_stored w path bytes places m (wrote v)))) (λ m v. refl)

unless_ends : (b : Bool) (w : Writing) (below : List ℕ → List ℕ → TaskPlan Value) (path bytes : List ℕ) → EndsAlways IsEarly (plan_gang_unless b w below path bytes)
unless_ends true w below path bytes = refl
unless_ends false w below path bytes = λ v. gang_ends (found v) w below path bytes

body_ends : (places : Option (List Place)) (w : Writing) (below : List ℕ → List ℕ → TaskPlan Value) (path bytes : List ℕ) → EndsAlways IsEarly (plan_body places w below path bytes)
body_ends (Some places) w below path bytes = λ v. refl
body_ends None w below path bytes = unless_ends (nat_le (length bytes) 512) w below path bytes

write_ends : (t : Terms) (attempt : ℕ) (p : Pending) (sum : SumKind) (copies levels : ℕ) (path bytes : List ℕ) → EndsAlways IsEarly (plan_write t attempt p sum copies levels path bytes)
write_ends t attempt p sum copies zero path bytes = λ v. body_ends (found v) (writing_of t attempt p sum copies) (λ below part. Ends (StoredAs nowhere)) path bytes
write_ends t attempt p sum copies (suc levels) path bytes = λ v.
    body_ends (found v) (writing_of t attempt p sum copies) (λ below part. ask (WritePart attempt p sum copies levels below part)) path bytes

heard_always : (o : Oracle (Labelled Task) Value) (P : Value → Type 0) (at : List ℕ) (n : ℕ) (q : TaskPlan Value) → EndsAlways P q → P (heard o (labelled at n q))
heard_always o P at n (Ends v) h = h
heard_always o P at n (Asks op more) h = heard_always o P at (suc n) (more (o.answer (record { at = at ++ n ∷ []; op = op }))) (h (o.answer (record { at = at ++ n ∷ []; op = op })))

part_early : (t : Terms) (o : Oracle (Labelled Task) Value) → IsOracle (ways_at (any_ways t)) o → (at : List ℕ) (op : Task) → IsPart op → IsEarly (o.answer (record { at = at; op = op }))
part_early t o is at (WritePart attempt p sum copies levels path bytes) h =
    let whole : Labelled Task = record { at = at; op = WritePart attempt p sum copies levels path bytes } in
    let e : o.answer whole ≡ heard o (labelled at 0 (plan_write t attempt p sum copies levels path bytes)) = is.answer whole refl in
    ap early e
    ∙ heard_always o IsEarly at 0 (plan_write t attempt p sum copies levels path bytes) (write_ends t attempt p sum copies levels path bytes)
    ∙ ap stored_pointer (sym e)
part_early t o is at (Leaf act) h = absurd h
part_early t o is at (Find a) h = absurd h
part_early t o is at (ReadCopies repair test len places) h = absurd h
part_early t o is at (WriteCopies bytes places) h = absurd h
part_early t o is at (ReadHeads look levels path bp) h = absurd h
part_early t o is at (ReadTree tree) h = absurd h
part_early t o is at (TakePlaces tree) h = absurd h
part_early t o is at (Attempt attempt p kids) h = absurd h
part_early t o is at (Settle p kids) h = absurd h

fits_stored : (told : Option (Option Bp)) (v : Value) (op : Task) → IsToldByPart told op → (IsPart op → IsEarly v) → FitsEarly early told v → FitsEarly stored_pointer told v
fits_stored None v op part same h = tt
fits_stored (Some pointer) v op part same h = sym (same part) ∙ h

-- what parts told is true of what they store
told_stored : {A : Type 0} (t : Terms) (o : Oracle (Labelled Task) Value) → IsOracle (ways_at (any_ways t)) o → (outs : List Call) (p : Program (Labelled Task) Value A) → StandFirst o outs p → ToldTrue early o (told_of outs) p → AreToldByParts outs
    → ToldTrue stored_pointer o (told_of outs) p
told_stored t o is [] p first told parts = tt
told_stored t o is (c ∷ outs) (Ends a) first told parts = tt
told_stored t o is (c ∷ outs) (Asks x more) first told parts = (
  fits_stored c.told (o.answer x) c.op.op parts.0
      (λ part. ap (λ (y : Labelled Task). early (o.answer y)) first.0 ∙ part_early t o is c.op.at c.op.op part ∙ ap (λ (y : Labelled Task). stored_pointer (o.answer y)) (sym first.0)) told.0,
  told_stored t o is outs (more (o.answer x)) first.1 told.1 parts.1,
)

pub asked_behind_parts : {A : Type 0} (t : Terms) (o : Oracle (Labelled Task) Value) → IsOracle (ways_at (any_ways t)) o → (at : List ℕ) (whole rest : Program (Labelled Task) Value A) (outs : List Call) (next : ℕ) (op : Task)
    → IsLeft o at whole rest outs next → AreToldByParts outs → NextIs stored_pointer (told_of outs) (bare rest) op
    → (y : Labelled Task) × (nth_asked o (length outs) rest ≡ Some y) × (y.op ≡ op)
asked_behind_parts t o is at whole rest outs next op left parts asks =
    let found = next_asked stored_pointer o (told_of outs) rest op asks (told_stored t o is outs rest left.first left.told parts) in
    let count : length (told_of outs) ≡ length outs = length-map outs (λ (c : Call). c.told) in
    (found.0, ap (λ n. nth_asked o n rest) (sym count) ∙ found.1, found.2)
