-- A placed write without error by its plan: its trace writes each piece of the tree that it makes.
use Rattle.std.proofs.Common.{◌≡◌, ℕ, zero, suc, ◌+◌, ◌%◌, ◌≤◌, ◌<◌, List, [], ◌∷◌, ◌++◌, length, take, drop, sum, Bool, true, false, nat_le, Option, Some, None, refl, sym, ap, ◌∙◌, subst, append_assoc, append-nil, leb-false, length-take, length-drop, arith}
use Rattle.std.proofs.lemmas.List.Sums.{sum_by-cons}
use Rattle.std.specs.List.{AllByRecursion}
use Rattle.zio_types.specs.declared.error.Errno.{Errno}
use Rattle.zio_types.specs.declared.error.Errno.TheVariants.{Nospc}
use Rattle.zio_types.specs.declared.place.Place.{Place}
use Rattle.zio_types.specs.Choices.{Ask, Choice}
use Rattle.zio_types.specs.Errors.{worst_error, worst_of}
use Rattle.zio_types.specs.Places.{sector_size}
use Rattle.zio_blkptr.specs.declared.pointer.SumKind.{SumKind}
use Rattle.zio_cksum.specs.Headers.{split_sizes}
use Rattle.zio_cksum.specs.Images.{Images}
use Rattle.zio_cksum.proofs.SplitLemmas.{total_law, whole_law}
use Rattle.zio_gang.specs.Attempts.{Pending, Terms, writing_of}
use Rattle.zio_gang.specs.Trees.{sizes_of}
use Rattle.zio_gang.specs.Writes.{Writing, body_ask, chosen, cut, head_ask, pointer_to}
use Rattle.zio_trace.specs.Plans.{Kin, TaskPlan, add_kin, gang_stored, header_over, plan, plan_body, plan_gang, plan_gang_unless, plan_members, plan_part, plan_write}
use Rattle.zio_trace.specs.Programs.{Asks, Deed, Done, Ends, Meaning, Program, ◌>>=◌, ask, run}
use Rattle.zio_trace.specs.RoundTraces.{Trace, deed_of, is_single_or_piece, trace_down, trace_each}
use Rattle.zio_trace.specs.Tasks.{Find, Found, Stored, StoredAs, Task, Value, WriteCopies, WritePart, Wrote, means, nowhere, stored, wrote}
use Rattle.zio_trace.proofs.ChoiceLemmas.{Answers}
use Rattle.zio_trace.proofs.ProgramLemmas.{run-then}
use Rattle.zio_trace.proofs.RequestLemmas.{plan_run}
use Rattle.zio_heal.specs.Pools.{IsBlockSize, IsPool, IsWriting}
use Rattle.zio_heal.proofs.PlacedGangs.{asked_first, body_written, gang_written, wrote_to}
use Rattle.zio_heal.proofs.PlacedParts.{AreMembersWritten, IsPartWritten, member_before}
use Rattle.zio_heal.proofs.WrittenLemmas.{both_none}

-- ---- traces of programs

-- one program's trace behind another's
pub each_then : {Op Ans A B : Type 0} (below : Op → Images → List (Deed Op Ans)) (mean : Meaning Op Ans) (q : Program Op Ans A) (next : A → Program Op Ans B) (images : Images)
    → trace_each below mean (q >>= next) images ≡ trace_each below mean q images ++ trace_each below mean (next (run mean q images).value) (run mean q images).images
each_then below mean (Ends a) next images = refl
each_then below mean (Asks op more) next images =
    let now : Done _ = mean op images in
    ap (λ (xs : List (Deed _ _)). below op images ++ xs) (each_then below mean (more now.value) next now.images)
    ∙ sym (append_assoc (below op images) (trace_each below mean (more now.value) now.images) _)

value_then : {Op Ans A B : Type 0} (mean : Meaning Op Ans) (q : Program Op Ans A) (next : A → Program Op Ans B) (images : Images)
    → (run mean (q >>= next) images).value ≡ (run mean (next (run mean q images).value) (run mean q images).images).value
value_then mean q next images = ap (λ (d : Done _). d.value) (run-then mean q next images)

-- ---- sizes

sum_first : (n : ℕ) (ns : List ℕ) → sum (n ∷ ns) ≡ n + sum ns
sum_first n ns = sum_by-cons (λ k. k) n ns

all_sizes : (most : ℕ) (ns : List ℕ) → AllByRecursion (λ k. (0 < k) × (k % 512 ≡ 0)) ns → sum ns ≤ most → IsBlockSize most → AllByRecursion IsBlockSize ns
all_sizes most [] h total block = tt
all_sizes most (n ∷ ns) h total block =
    let first = sum_first n ns in
    let high = block.most in (
      record { some = h.0.0; whole = h.0.1; most = omega arith },
      all_sizes most ns h.1 (omega arith) block,
    )

pub split_blocks : (n : ℕ) → IsBlockSize n → AllByRecursion IsBlockSize (split_sizes n)
split_blocks n block = all_sizes n (split_sizes n) (whole_law n block.whole) (let total = total_law n block.whole in omega arith) block

none_long : (bytes : List ℕ) → 0 ≡ length bytes → bytes ≡ []
none_long [] e = refl
none_long (b ∷ bytes) e = absurd (omega arith)

module _ (journal : List Choice) (t : Terms) (p : Pending) (sizes : ℕ → ℕ) (pool : IsPool sizes t.setting.tops) (answers : Answers journal (sizes_of t.setting.tops) t.used t.round)
    (attempt : ℕ) (sum_kind : SumKind) (copies : ℕ) (writing : IsWriting p copies) where
  abbrev w : Writing
  w = writing_of t attempt p sum_kind copies

  abbrev mean : Meaning Task Value
  mean = means journal t

  -- without error the part is written
  abbrev IsFine : ℕ → List ℕ → List ℕ → Trace → Stored → Type 0
  IsFine levels path bytes ds st = st.error ≡ None → IsPartWritten journal t p levels path bytes ds st

  -- so is what a plan comes to
  abbrev GoesFine : ℕ → (Task → Images → Trace) → List ℕ → List ℕ → TaskPlan Value → Type 0
  GoesFine levels tr path bytes q = (images : Images) → IsFine levels path bytes (trace_each tr mean q images) (stored (run mean q images).value)

  -- each single operation and each piece is traced as itself
  pub record IsStopping (tr : Task → Images → Trace) : Type 0 where
    pub asks : (a : Ask) (images : Images) → tr (Find a) images ≡ deed_of mean (Find a) images ∷ []
    pub writes : (bytes : List ℕ) (places : List Place) (images : Images) → tr (WriteCopies bytes places) images ≡ deed_of mean (WriteCopies bytes places) images ∷ []

  module _ (tr : Task → Images → Trace) (stops : IsStopping tr) where
    -- ---- members

    abbrev BelowFine : ℕ → (List ℕ → List ℕ → TaskPlan Value) → Type 0
    BelowFine levels below = (path part : List ℕ) → IsBlockSize (length part) → GoesFine levels tr path part (below path part)

    members_fine : (levels : ℕ) (below : List ℕ → List ℕ → TaskPlan Value) → BelowFine levels below → (path : List ℕ) (n : ℕ) (ns bytes : List ℕ) (images : Images) → AllByRecursion IsBlockSize ns → sum ns ≡ length bytes
        → worst_of (run mean (plan_members below path n (cut ns bytes)) images).value.errors ≡ None
        → AreMembersWritten journal t p levels path n ns bytes (trace_each tr mean (plan_members below path n (cut ns bytes)) images) (run mean (plan_members below path n (cut ns bytes)) images).value
    members_fine levels below fine path n [] bytes images block total none = record {
      bps = [];
      pointers = refl;
      sizes_are = refl;
      can_spell = tt;
      writes = tt;
      heads = tt;
      places = record { ok = tt; found = tt; own = tt };
      pieces = λ heads keep. none_long bytes total;
    }
    members_fine levels below fine path n (size ∷ ns) bytes images block total none =
        let at : List ℕ = path ++ n ∷ [] in
        let part : List ℕ = take size bytes in
        let q : TaskPlan Value = below at part in
        let one : Done Value = run mean q images in
        let more : TaskPlan Kin = plan_members below path (n + 1) (cut ns (drop size bytes)) in
        let others : Done Kin = run mean more one.images in
        let next : Value → TaskPlan Kin = λ v. more >>= λ o. Ends (add_kin (stored v) o) in
        let value_is : (run mean (q >>= next) images).value ≡ add_kin (stored one.value) others.value =
        value_then mean q next images ∙ value_then mean more (λ o. Ends (add_kin (stored one.value) o)) one.images in
        let trace_is : trace_each tr mean (q >>= next) images ≡ trace_each tr mean q images ++ trace_each tr mean more one.images =
        each_then tr mean q next images
        ∙ ap (λ (xs : Trace). trace_each tr mean q images ++ xs) (each_then tr mean more (λ o. Ends (add_kin (stored one.value) o)) one.images ∙ append-nil (trace_each tr mean more one.images)) in
        let all : worst_error (stored one.value).error (worst_of others.value.errors) ≡ None = ap (λ (k : Kin). worst_of k.errors) (sym value_is) ∙ none in
        let both = both_none (stored one.value).error (worst_of others.value.errors) all in
        let first = sum_first size ns in
        let long : length part ≡ size = length-take size bytes ∙ omega arith in
        let left : length (drop size bytes) ≡ sum ns = length-drop size bytes ∙ omega arith in
        subst (λ (k : Kin). AreMembersWritten journal t p levels path n (size ∷ ns) bytes (trace_each tr mean (q >>= next) images) k) (sym value_is)
        (subst (λ (ds : Trace). AreMembersWritten journal t p levels path n (size ∷ ns) bytes ds (add_kin (stored one.value) others.value)) (sym trace_is)
        (member_before journal t p sizes pool answers levels path n size ns bytes (trace_each tr mean q images) (trace_each tr mean more one.images) (stored one.value) others.value (omega arith)
        (fine at part (subst IsBlockSize (sym long) block.0) images both.0)
        (members_fine levels below fine path (n + 1) ns (drop size bytes) one.images block.1 (sym left) both.1)))

    -- ---- one part, by what its gang comes to

    -- a gang whose header has these places
    abbrev GangFine : ℕ → (List ℕ → List ℕ → TaskPlan Value) → List ℕ → List ℕ → Type 0
    GangFine levels below path bytes = (places : List Place) → chosen journal (head_ask w path) ≡ Some places → GoesFine levels tr path bytes (plan_gang (Some places) w below path bytes)

    gang_if : (levels : ℕ) (below : List ℕ → List ℕ → TaskPlan Value) (path bytes : List ℕ) (places : Option (List Place)) → chosen journal (head_ask w path) ≡ places → GangFine levels below path bytes
        → GoesFine levels tr path bytes (plan_gang places w below path bytes)
    gang_if levels below path bytes None is gang images none = absurd (cc)
    gang_if levels below path bytes (Some places) is gang images none = gang places is images none

    -- an ask, and what follows its answer
    asked_fine : (levels : ℕ) (path bytes : List ℕ) (a : Ask) (q : TaskPlan Value) (images : Images) → IsFine levels path bytes (trace_each tr mean q images) (stored (run mean q images).value)
        → IsFine levels path bytes (tr (Find a) images ++ trace_each tr mean q images) (stored (run mean q images).value)
    asked_fine levels path bytes a q images h none =
        subst (λ (ds : Trace). IsPartWritten journal t p levels path bytes (ds ++ trace_each tr mean q images) (stored (run mean q images).value)) (sym (stops.asks a images))
        (asked_first journal t p sizes pool answers attempt sum_kind copies writing levels path bytes a (Found (chosen journal a)) (trace_each tr mean q images) (stored (run mean q images).value) (h none))

    unless_fine : (levels : ℕ) (below : List ℕ → List ℕ → TaskPlan Value) (path bytes : List ℕ) (small : Bool) → nat_le (length bytes) sector_size ≡ small → (sector_size < length bytes → GangFine levels below path bytes)
        → GoesFine levels tr path bytes (plan_gang_unless small w below path bytes)
    unless_fine levels below path bytes true test gang images none = absurd (cc)
    unless_fine levels below path bytes false test gang images none =
        asked_fine levels path bytes (head_ask w path) (plan_gang (chosen journal (head_ask w path)) w below path bytes) images
        (gang_if levels below path bytes (chosen journal (head_ask w path)) refl (gang (leb-false (length bytes) 512 test)) images) none

    body_fine : (levels : ℕ) (below : List ℕ → List ℕ → TaskPlan Value) (path bytes : List ℕ) (places : Option (List Place)) → chosen journal (body_ask w path bytes) ≡ places → IsBlockSize (length bytes)
        → (sector_size < length bytes → GangFine levels below path bytes) → GoesFine levels tr path bytes (plan_body places w below path bytes)
    body_fine levels below path bytes None is block gang images none = unless_fine levels below path bytes (nat_le (length bytes) sector_size) refl gang images none
    body_fine levels below path bytes (Some places) is block gang images none =
        let d : Deed Task Value = deed_of mean (WriteCopies bytes places) images in
        let error : wrote d.answer ≡ None = none in
        let same : tr (WriteCopies bytes places) images ++ [] ≡ wrote_to bytes places ∷ [] =
        append-nil (tr (WriteCopies bytes places) images) ∙ stops.writes bytes places images ∙ ap (λ (e : Option Errno). record { op = WriteCopies bytes places; answer = Wrote e } ∷ []) error in
        subst (λ (ds : Trace). IsPartWritten journal t p levels path bytes ds (record { error = wrote d.answer; pointer = Some (pointer_to w places false bytes); heads = [] })) (sym same)
        (subst (λ (e : Option Errno). IsPartWritten journal t p levels path bytes (wrote_to bytes places ∷ []) (record { error = e; pointer = Some (pointer_to w places false bytes); heads = [] })) (sym error)
        (body_written journal t p sizes pool answers attempt sum_kind copies writing levels path bytes places block is))

    part_fine : (levels : ℕ) (below : List ℕ → List ℕ → TaskPlan Value) (path bytes : List ℕ) → IsBlockSize (length bytes) → (sector_size < length bytes → GangFine levels below path bytes) → GoesFine levels tr path bytes (plan_part w below path bytes)
    part_fine levels below path bytes block gang images none =
        asked_fine levels path bytes (body_ask w path bytes) (plan_body (chosen journal (body_ask w path bytes)) w below path bytes) images
        (body_fine levels below path bytes (chosen journal (body_ask w path bytes)) refl block gang images) none

    -- ---- gangs

    gang_fine : (levels : ℕ) (below : List ℕ → List ℕ → TaskPlan Value) → BelowFine levels below → (path bytes : List ℕ) → IsBlockSize (length bytes) → GangFine (suc levels) below path bytes
    gang_fine levels below fine path bytes block places is images none =
        let members : TaskPlan Kin = plan_members below path 0 (cut (split_sizes (length bytes)) bytes) in
        let k : Done Kin = run mean members images in
        let header : List ℕ = header_over w places k.value in
        let next : Kin → TaskPlan Value =
        λ m. ask (WriteCopies (header_over w places m) places) >>= λ v. Ends (StoredAs (gang_stored w path bytes places m (wrote v))) in
        let d : Deed Task Value = deed_of mean (WriteCopies header places) k.images in
        let value_is : (run mean (members >>= next) images).value ≡ StoredAs (gang_stored w path bytes places k.value (wrote d.answer)) = value_then mean members next images in
        let all : worst_error (worst_of k.value.errors) (wrote d.answer) ≡ None = ap (λ (v : Value). (stored v).error) (sym value_is) ∙ none in
        let both = both_none (worst_of k.value.errors) (wrote d.answer) all in
        let trace_is : trace_each tr mean (members >>= next) images ≡ trace_each tr mean members images ++ wrote_to header places ∷ [] =
        each_then tr mean members next images
        ∙ ap (λ (xs : Trace). trace_each tr mean members images ++ xs)
        (append-nil (tr (WriteCopies header places) k.images) ∙ stops.writes header places k.images ∙ ap (λ (e : Option Errno). record { op = WriteCopies header places; answer = Wrote e } ∷ []) both.1) in
        let total = total_law (length bytes) block.whole in
        let written : AreMembersWritten journal t p levels path 0 (split_sizes (length bytes)) bytes (trace_each tr mean members images) k.value =
        members_fine levels below fine path 0 (split_sizes (length bytes)) bytes images (split_blocks (length bytes) block) total both.0 in
        subst (λ (v : Value). IsPartWritten journal t p (suc levels) path bytes (trace_each tr mean (members >>= next) images) (stored v)) (sym value_is)
        (subst (λ (ds : Trace). IsPartWritten journal t p (suc levels) path bytes ds (gang_stored w path bytes places k.value (wrote d.answer))) (sym trace_is)
        (gang_written journal t p sizes pool answers attempt sum_kind copies writing levels path bytes places (trace_each tr mean members images) k.value (wrote d.answer) block is written))

    -- a gang has a member, which has no place below the last level
    no_member : (ns bytes path : List ℕ) (images : Images) → 0 < sum ns → worst_of (run mean (plan_members (λ below part. Ends (StoredAs nowhere)) path 0 (cut ns bytes)) images).value.errors ≡ None → ⊥
    no_member [] bytes path images some none = absurd (omega arith)
    no_member (n ∷ ns) bytes path images some none =
        let more : TaskPlan Kin = plan_members (λ below part. Ends (StoredAs nowhere)) path 1 (cut ns (drop n bytes)) in
        let value_is : (run mean (plan_members (λ below part. Ends (StoredAs nowhere)) path 0 (cut (n ∷ ns) bytes)) images).value ≡ add_kin nowhere (run mean more images).value =
        value_then mean more (λ o. Ends (add_kin nowhere o)) images in
        let all : worst_error (Some Nospc) (worst_of (run mean more images).value.errors) ≡ None = ap (λ (k : Kin). worst_of k.errors) (sym value_is) ∙ none in
        let e : Some Nospc ≡ None = (both_none (Some Nospc) (worst_of (run mean more images).value.errors) all).0 in
        absurd (cc)

    no_gang : (path bytes : List ℕ) → IsBlockSize (length bytes) → GangFine zero (λ below part. Ends (StoredAs nowhere)) path bytes
    no_gang path bytes block places is images none =
        let members : TaskPlan Kin = plan_members (λ below part. Ends (StoredAs nowhere)) path 0 (cut (split_sizes (length bytes)) bytes) in
        let k : Done Kin = run mean members images in
        let next : Kin → TaskPlan Value =
        λ m. ask (WriteCopies (header_over w places m) places) >>= λ v. Ends (StoredAs (gang_stored w path bytes places m (wrote v))) in
        let d : Deed Task Value = deed_of mean (WriteCopies (header_over w places k.value) places) k.images in
        let value_is : (run mean (members >>= next) images).value ≡ StoredAs (gang_stored w path bytes places k.value (wrote d.answer)) = value_then mean members next images in
        let all : worst_error (worst_of k.value.errors) (wrote d.answer) ≡ None = ap (λ (v : Value). (stored v).error) (sym value_is) ∙ none in
        let total = total_law (length bytes) block.whole in
        let some : 0 < length bytes = block.some in
        absurd (no_member (split_sizes (length bytes)) bytes path images (omega arith) (both_none (worst_of k.value.errors) (wrote d.answer) all).0)

  -- ---- level by level

  down_stops : (levels : ℕ) → IsStopping (trace_down levels is_single_or_piece mean (plan t))
  down_stops zero = record { asks = λ a images. refl; writes = λ bytes places images. refl }
  down_stops (suc levels) = record { asks = λ a images. refl; writes = λ bytes places images. refl }

  -- the task of a part, where its plan goes well
  task_fine : (levels deep : ℕ) (at part : List ℕ) → GoesFine levels (trace_down deep is_single_or_piece mean (plan t)) at part (plan_write t attempt p sum_kind copies levels at part)
      → GoesFine levels (trace_down (suc deep) is_single_or_piece mean (plan t)) at part (ask (WritePart attempt p sum_kind copies levels at part))
  task_fine levels deep at part fine images none =
      let op : Task = WritePart attempt p sum_kind copies levels at part in
      let below : Trace = trace_each (trace_down deep is_single_or_piece mean (plan t)) mean (plan t op) images in
      let gives : run mean (plan t op) images ≡ mean op images = plan_run journal t op images in
      subst (λ (ds : Trace). IsPartWritten journal t p levels at part ds (stored (mean op images).value)) (sym (append-nil below))
      (subst (λ (d : Done Value). IsPartWritten journal t p levels at part below (stored d.value)) gives
      (fine images (ap (λ (d : Done Value). (stored d.value).error) gives ∙ none)))

  -- the plan of a write, traced at least as deep as it has levels
  pub write_fine : (levels deep : ℕ) → levels ≤ deep → (path bytes : List ℕ) → IsBlockSize (length bytes)
      → GoesFine levels (trace_down deep is_single_or_piece mean (plan t)) path bytes (plan_write t attempt p sum_kind copies levels path bytes)
  write_fine zero deep far path bytes block =
      part_fine (trace_down deep is_single_or_piece mean (plan t)) (down_stops deep) zero (λ below part. Ends (StoredAs nowhere)) path bytes block
      (λ large. no_gang (trace_down deep is_single_or_piece mean (plan t)) (down_stops deep) path bytes block)
  write_fine (suc levels) zero far path bytes block = absurd (omega arith)
  write_fine (suc levels) (suc deep) far path bytes block =
      let tr : Task → Images → Trace = trace_down (suc deep) is_single_or_piece mean (plan t) in
      part_fine tr (down_stops (suc deep)) (suc levels) (λ below part. ask (WritePart attempt p sum_kind copies levels below part)) path bytes block
      (λ large. gang_fine tr (down_stops (suc deep)) levels (λ below part. ask (WritePart attempt p sum_kind copies levels below part))
      (λ at part small. task_fine levels deep at part (write_fine levels deep (omega arith) at part small)) path bytes block)
