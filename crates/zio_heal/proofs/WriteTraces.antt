-- Whatever comes of a write, its trace writes at places that were found for its request, and nowhere else.
use Rattle.std.proofs.Common.{◌≡◌, ℕ, zero, suc, ◌+◌, ◌≤◌, List, [], ◌∷◌, ◌++◌, length, Bool, true, false, nat_le, Option, Some, None, refl, sym, ap, ◌∙◌, subst, append_assoc, append-nil, arith}
use Rattle.zio_types.specs.declared.place.Place.{Place}
use Rattle.zio_types.specs.Choices.{Ask, Choice}
use Rattle.zio_types.specs.Places.{sector_size}
use Rattle.zio_blkptr.specs.declared.pointer.SumKind.{SumKind}
use Rattle.zio_cksum.specs.Headers.{split_sizes}
use Rattle.zio_cksum.specs.Images.{Images}
use Rattle.zio_cksum.proofs.AllLemmas.{all_append}
use Rattle.zio_gang.specs.Attempts.{Pending, Terms, writing_of}
use Rattle.zio_gang.specs.Writes.{Writing, body_ask, chosen, cut, head_ask}
use Rattle.zio_trace.specs.Plans.{Kin, TaskPlan, add_kin, gang_stored, header_over, plan, plan_body, plan_gang, plan_gang_unless, plan_members, plan_part, plan_write}
use Rattle.zio_trace.specs.Programs.{Deed, Done, Ends, Meaning, ◌>>=◌, ask, run}
use Rattle.zio_trace.specs.RoundTraces.{Trace, deed_of, is_single_or_piece, trace_down, trace_each}
use Rattle.zio_trace.specs.Tasks.{Find, StoredAs, Task, Value, WriteCopies, WritePart, means, nowhere, stored, wrote}
use Rattle.zio_heal.proofs.PlacedPlans.{each_then}
use Rattle.zio_heal.proofs.WrittenPieces.{AllWriteAt, IsAt, WritesAt, all_writes}

module _ (journal : List Choice) (t : Terms) (p : Pending) (attempt : ℕ) (sum_kind : SumKind) (copies : ℕ) where
  abbrev w : Writing
  w = writing_of t attempt p sum_kind copies

  abbrev mean : Meaning Task Value
  mean = means journal t

  abbrev At : List ℕ → List Place → Type 0
  At path places = IsAt journal t p path places

  -- a plan writes for the part at this path, or for those below it
  abbrev WritesFor : {A : Type 0} → (Task → Images → Trace) → List ℕ → TaskPlan A → Type 0
  WritesFor tr path q = (images : Images) → AllWriteAt (At path) (trace_each tr mean q images)

  -- asks and writes are traced as themselves
  record IsStopping (tr : Task → Images → Trace) : Type 0 where
    asks : (a : Ask) (images : Images) → tr (Find a) images ≡ deed_of mean (Find a) images ∷ []
    writes : (bytes : List ℕ) (places : List Place) (images : Images) → tr (WriteCopies bytes places) images ≡ deed_of mean (WriteCopies bytes places) images ∷ []

  above : (path : List ℕ) (n : ℕ) (places : List Place) → At (path ++ n ∷ []) places → At path places
  above path n places a = record {
    ask = a.ask;
    below = n ∷ a.below;
    request = a.request;
    now = a.now;
    at = a.at ∙ append_assoc path (n ∷ []) a.below;
    found = a.found;
  }

  module _ (tr : Task → Images → Trace) (stops : IsStopping tr) where
    abbrev BelowFor : (List ℕ → List ℕ → TaskPlan Value) → Type 0
    BelowFor below = (path part : List ℕ) → WritesFor tr path (below path part)

    members_for : (below : List ℕ → List ℕ → TaskPlan Value) → BelowFor below → (path : List ℕ) (n : ℕ) (parts : List (List ℕ)) → WritesFor tr path (plan_members below path n parts)
    members_for below each path n [] images = tt
    members_for below each path n (part ∷ parts) images =
        let at : List ℕ = path ++ n ∷ [] in
        let q : TaskPlan Value = below at part in
        let one : Done Value = run mean q images in
        let more : TaskPlan Kin = plan_members below path (n + 1) parts in
        let next : Value → TaskPlan Kin = λ v. more >>= λ o. Ends (add_kin (stored v) o) in
        let trace_is : trace_each tr mean (q >>= next) images ≡ trace_each tr mean q images ++ trace_each tr mean more one.images =
        each_then tr mean q next images
        ∙ ap (λ (xs : Trace). trace_each tr mean q images ++ xs) (each_then tr mean more (λ o. Ends (add_kin (stored one.value) o)) one.images ∙ append-nil (trace_each tr mean more one.images)) in
        subst (AllWriteAt (At path)) (sym trace_is)
        (all_append (λ (d : Deed Task Value). WritesAt (At path) d.op) (trace_each tr mean q images) (trace_each tr mean more one.images)
        (all_writes (At at) (At path) (above path n) (trace_each tr mean q images) (each at part images)) (members_for below each path (n + 1) parts one.images))

    gang_for : (below : List ℕ → List ℕ → TaskPlan Value) → BelowFor below → (path bytes : List ℕ) (places : Option (List Place)) → chosen journal (head_ask w path) ≡ places → WritesFor tr path (plan_gang places w below path bytes)
    gang_for below each path bytes None is images = tt
    gang_for below each path bytes (Some places) is images =
        let members : TaskPlan Kin = plan_members below path 0 (cut (split_sizes (length bytes)) bytes) in
        let k : Done Kin = run mean members images in
        let header : List ℕ = header_over w places k.value in
        let next : Kin → TaskPlan Value =
        λ m. ask (WriteCopies (header_over w places m) places) >>= λ v. Ends (StoredAs (gang_stored w path bytes places m (wrote v))) in
        let trace_is : trace_each tr mean (members >>= next) images ≡ trace_each tr mean members images ++ deed_of mean (WriteCopies header places) k.images ∷ [] =
        each_then tr mean members next images
        ∙ ap (λ (xs : Trace). trace_each tr mean members images ++ xs) (append-nil (tr (WriteCopies header places) k.images) ∙ stops.writes header places k.images) in
        subst (AllWriteAt (At path)) (sym trace_is)
        (all_append (λ (d : Deed Task Value). WritesAt (At path) d.op) (trace_each tr mean members images) (deed_of mean (WriteCopies header places) k.images ∷ [])
        (members_for below each path 0 (cut (split_sizes (length bytes)) bytes) images)
        (record { ask = head_ask w path; below = []; request = refl; now = refl; at = sym (append-nil path); found = is }, tt))

    asked_for : (path : List ℕ) (a : Ask) (q : TaskPlan Value) (images : Images) → AllWriteAt (At path) (trace_each tr mean q images) → AllWriteAt (At path) (tr (Find a) images ++ trace_each tr mean q images)
    asked_for path a q images h = subst (λ (ds : Trace). AllWriteAt (At path) (ds ++ trace_each tr mean q images)) (sym (stops.asks a images)) (tt, h)

    unless_for : (below : List ℕ → List ℕ → TaskPlan Value) → BelowFor below → (path bytes : List ℕ) (small : Bool) → WritesFor tr path (plan_gang_unless small w below path bytes)
    unless_for below each path bytes true images = tt
    unless_for below each path bytes false images =
        asked_for path (head_ask w path) (plan_gang (chosen journal (head_ask w path)) w below path bytes) images
        (gang_for below each path bytes (chosen journal (head_ask w path)) refl images)

    body_for : (below : List ℕ → List ℕ → TaskPlan Value) → BelowFor below → (path bytes : List ℕ) (places : Option (List Place)) → chosen journal (body_ask w path bytes) ≡ places → WritesFor tr path (plan_body places w below path bytes)
    body_for below each path bytes None is images = unless_for below each path bytes (nat_le (length bytes) sector_size) images
    body_for below each path bytes (Some places) is images =
        subst (AllWriteAt (At path)) (sym (append-nil (tr (WriteCopies bytes places) images) ∙ stops.writes bytes places images))
        (record { ask = body_ask w path bytes; below = []; request = refl; now = refl; at = sym (append-nil path); found = is }, tt)

    part_for : (below : List ℕ → List ℕ → TaskPlan Value) → BelowFor below → (path bytes : List ℕ) → WritesFor tr path (plan_part w below path bytes)
    part_for below each path bytes images =
        asked_for path (body_ask w path bytes) (plan_body (chosen journal (body_ask w path bytes)) w below path bytes) images
        (body_for below each path bytes (chosen journal (body_ask w path bytes)) refl images)

  down_stops : (levels : ℕ) → IsStopping (trace_down levels is_single_or_piece mean (plan t))
  down_stops zero = record { asks = λ a images. refl; writes = λ bytes places images. refl }
  down_stops (suc levels) = record { asks = λ a images. refl; writes = λ bytes places images. refl }

  task_for : (levels deep : ℕ) (at part : List ℕ) → WritesFor (trace_down deep is_single_or_piece mean (plan t)) at (plan_write t attempt p sum_kind copies levels at part)
      → WritesFor (trace_down (suc deep) is_single_or_piece mean (plan t)) at (ask (WritePart attempt p sum_kind copies levels at part))
  task_for levels deep at part each images =
      subst (AllWriteAt (At at)) (sym (append-nil (trace_each (trace_down deep is_single_or_piece mean (plan t)) mean (plan_write t attempt p sum_kind copies levels at part) images))) (each images)

  -- The plan of a write, traced at least as deep as it has levels.
  pub write_for : (levels deep : ℕ) → levels ≤ deep → (path bytes : List ℕ) → WritesFor (trace_down deep is_single_or_piece mean (plan t)) path (plan_write t attempt p sum_kind copies levels path bytes)
  write_for zero deep far path bytes =
      part_for (trace_down deep is_single_or_piece mean (plan t)) (down_stops deep) (λ below part. Ends (StoredAs nowhere)) (λ below part images. tt) path bytes
  write_for (suc levels) zero far path bytes = absurd (omega arith)
  write_for (suc levels) (suc deep) far path bytes =
      part_for (trace_down (suc deep) is_single_or_piece mean (plan t)) (down_stops (suc deep)) (λ below part. ask (WritePart attempt p sum_kind copies levels below part))
      (λ at part. task_for levels deep at part (write_for levels deep (omega arith) at part)) path bytes
