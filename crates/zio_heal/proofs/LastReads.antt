-- The last reads of all bound blocks: reads give nothing, so each is judged by what was given in the run.
use Rattle.std.proofs.Common.{◌≡◌, ℕ, zero, suc, ◌+◌, List, [], ◌∷◌, ◌++◌, map, flat_map, Bool, true, false, Option, Some, None, Ok, Err, refl, ◌∙◌, subst, append_assoc}
use Rattle.std.specs.List.{AllByRecursion}
use Rattle.zio_types.specs.declared.error.Errno.{Errno}
use Rattle.zio_types.specs.declared.place.Place.{Place}
use Rattle.zio_types.specs.Choices.{Choice}
use Rattle.zio_blkptr.specs.declared.pointer.Bp.{Bp}
use Rattle.zio_cksum.specs.Headers.{members_of}
use Rattle.zio_cksum.specs.Images.{Images}
use Rattle.zio_cksum.proofs.AllLemmas.{all_append}
use Rattle.zio_gang.specs.declared.tree.Tree.{Tree}
use Rattle.zio_gang.specs.Attempts.{Terms}
use Rattle.zio_gang.specs.Rounds.{Binding, Bound}
use Rattle.zio_gang.specs.Trees.{unless_errors}
use Rattle.zio_trace.specs.Leaves.{Answer}
use Rattle.zio_trace.specs.Plans.{TaskPlan, add_got, head_task, join_walked, plan, plan_after, plan_below, plan_bodies, plan_found, plan_pointer, stopped, under_head}
use Rattle.zio_trace.specs.Programs.{Asks, Deed, Ends, Meaning, ◌>>=◌, ask}
use Rattle.zio_trace.specs.RoundTraces.{Trace, deed_of, is_single_or_piece, itself_if, levels_max, task_trace, trace_down, trace_each}
use Rattle.zio_trace.specs.RunTraces.{in_round}
use Rattle.zio_trace.specs.Tasks.{ByClaim, ByKept, Got, Look, ReadCopies, ReadHeads, ReadTree, Task, Value, WalkedBy, got, means, visit_of, walked}
use Rattle.zio_heal.specs.Given.{AreTrueReads, Deeds, IsTrueOf, IsTrueRead, given_by, given_in}
use Rattle.zio_heal.proofs.EndedBlocks.{true_first, true_later}
use Rattle.zio_heal.proofs.HeldLemmas.{given_behind}
use Rattle.zio_heal.proofs.TrueReads.{AreTrue}

-- ---- tasks that read

abbrev IsReading : Task → Type 0
IsReading (ReadCopies repair test len places) = Unit {0}
IsReading (ReadHeads look levels path bp) = Unit {0}
IsReading (ReadTree tree) = Unit {0}
IsReading _ = ⊥

-- the plan asks for reads alone
abbrev AsksReads : {A : Type 0} → TaskPlan A → Type 0
AsksReads (Ends a) = Unit {0}
AsksReads (Asks op more) = IsReading op × ((answer : Value) → AsksReads (more answer))

reads_then : {A B : Type 0} (p : TaskPlan A) (next : A → TaskPlan B) → AsksReads p → ((a : A) → AsksReads (next a)) → AsksReads (p >>= next)
reads_then (Ends a) next h k = k a
reads_then (Asks op more) next h k = (h.0, λ answer. reads_then (more answer) next (h.1 answer) k)

below_reads : (down : List ℕ → Bp → Task) (path : List ℕ) (n : ℕ) (ms : List Bp) → ((at : List ℕ) (bp : Bp) → IsReading (down at bp)) → AsksReads (plan_below down path n ms)
below_reads down path n [] h = tt
below_reads down path n (m ∷ ms) h = (
  h (path ++ n ∷ []) m,
  λ answer. reads_then (plan_below down path (n + 1) ms) (λ others. Ends (join_walked (walked answer) others)) (below_reads down path (n + 1) ms h) (λ a. tt),
)

found_reads : (down : List ℕ → Bp → Task) (path : List ℕ) (found : Answer) → ((at : List ℕ) (bp : Bp) → IsReading (down at bp)) → AsksReads (plan_found down path found)
found_reads down path (Err e) h = tt
found_reads down path (Ok bytes) h = reads_then (plan_below down path 0 (members_of bytes)) (λ w. Ends (WalkedBy (under_head path bytes w))) (below_reads down path 0 (members_of bytes) h) (λ a. tt)

pointer_reads : (judged : Option Errno) (gang : Bool) (bp : Bp) (follow : TaskPlan Value) → AsksReads follow → AsksReads (plan_pointer judged gang bp follow)
pointer_reads (Some e) gang bp follow h = tt
pointer_reads None false bp follow h = tt
pointer_reads None true bp follow h = h

bodies_reads : (bps : List Bp) → AsksReads (plan_bodies bps)
bodies_reads [] = tt
bodies_reads (bp ∷ bps) = (tt, λ answer. reads_then (plan_bodies bps) (λ others. Ends (add_got (got answer) others)) (bodies_reads bps) (λ a. tt))

after_reads : (errors : List (Option Errno)) (bps : List Bp) → AsksReads (plan_after errors bps)
after_reads [] bps = reads_then (plan_bodies bps) (λ b. Ends (Got (unless_errors b.errors b.bytes))) (bodies_reads bps) (λ a. tt)
after_reads (e ∷ errors) bps = tt

head_reads : (look : Look) (levels : ℕ) (path : List ℕ) (bp : Bp) → AsksReads (ask (head_task look path bp) >>= λ v. plan_found (ReadHeads look levels) path (got v))
head_reads (ByKept heads) levels path bp = (tt, λ answer. found_reads (ReadHeads (ByKept heads) levels) path (got answer) (λ at m. tt))
head_reads ByClaim levels path bp = (tt, λ answer. found_reads (ReadHeads ByClaim levels) path (got answer) (λ at m. tt))

plan_reads : (t : Terms) (o : Task) → IsReading o → is_single_or_piece o ≡ false → AsksReads (plan t o)
plan_reads t (ReadCopies repair test len places) h stops = absurd (let no : true ≡ false = stops in cc)
plan_reads t (ReadHeads look zero path bp) h stops = pointer_reads ((visit_of t.setting look).judge bp) bp.gang bp (Ends (WalkedBy (stopped _))) tt
plan_reads t (ReadHeads look (suc levels) path bp) h stops =
    pointer_reads ((visit_of t.setting look).judge bp) bp.gang bp (ask (head_task look path bp) >>= λ v. plan_found (ReadHeads look levels) path (got v)) (head_reads look levels path bp)
plan_reads t (ReadTree tree) h stops = (tt, λ answer. after_reads (walked answer).errors (walked answer).bodies)
plan_reads t _ h stops = absurd h

-- ---- and their traces

abbrev AreReadings : Trace → Type 0
AreReadings ds = AllByRecursion (λ (d : Deed Task Value). IsReading d.op) ds

each_reading : {A : Type 0} (mean : Meaning Task Value) (below : Task → Images → Trace) → ((o : Task) (images : Images) → IsReading o → AreReadings (below o images)) → (p : TaskPlan A) (images : Images) → AsksReads p → AreReadings (trace_each below mean p images)
each_reading mean below h (Ends a) images k = tt
each_reading mean below h (Asks op more) images k =
    all_append (λ (d : Deed Task Value). IsReading d.op) (below op images) (trace_each below mean (more (mean op images).value) (mean op images).images) (h op images k.0)
    (each_reading mean below h (more (mean op images).value) (mean op images).images (k.1 (mean op images).value))

if_reading : (b : Bool) (d : Deed Task Value) (below : Images → Trace) (images : Images) → IsReading d.op → (b ≡ false → AreReadings (below images)) → AreReadings (itself_if b d below images)
if_reading true d below images h k = (h, tt)
if_reading false d below images h k = k refl

module _ (journal : List Choice) (t : Terms) where
  down_reading : (deep : ℕ) (o : Task) (images : Images) → IsReading o → AreReadings (trace_down deep is_single_or_piece (means journal t) (plan t) o images)
  down_reading zero o images h = (h, tt)
  down_reading (suc deep) o images h =
      if_reading (is_single_or_piece o) (deed_of (means journal t) o images) (trace_each (trace_down deep is_single_or_piece (means journal t) (plan t)) (means journal t) (plan t o)) images h
      (λ stops. each_reading (means journal t) (trace_down deep is_single_or_piece (means journal t) (plan t)) (down_reading deep) (plan t o) images (plan_reads t o h stops))

  -- ---- given bytes

  gives_none : (o : Task) (places : List Place) (before : Option (List ℕ)) → IsReading o → given_by o places before ≡ before
  gives_none (ReadCopies repair test len at) places before h = refl
  gives_none (ReadHeads look levels path bp) places before h = refl
  gives_none (ReadTree tree) places before h = refl
  gives_none _ places before h = absurd h

  abbrev GiveAlike : Deeds → Deeds → Type 0
  GiveAlike now before = (places : List Place) → given_in now places ≡ given_in before places

  one_more : (now before : Deeds) (d : Deed Task Value) → IsReading d.op → GiveAlike now before → GiveAlike (now ++ in_round t d ∷ []) before
  one_more now before d h same places = given_behind now (in_round t d ∷ []) places ∙ gives_none d.op places (given_in now places) h ∙ same places

  true_before : (now before : Deeds) (o : Task) (v : Value) → IsReading o → GiveAlike now before → IsTrueRead now o v → IsTrueRead before o v
  true_before now before (ReadCopies repair test len places) v h same k = subst (λ (g : Option (List ℕ)). IsTrueOf test g (got v)) (same places) k
  true_before now before (ReadHeads look levels path bp) v h same k = tt
  true_before now before (ReadTree tree) v h same k = tt
  true_before now before _ v h same k = absurd h

  record AreJudged (now before : Deeds) (es : Trace) : Type 0 where
    reads : AreTrue journal t before es
    alike : GiveAlike (now ++ map (in_round t) es) before

  judged : (now before : Deeds) (es : Trace) → GiveAlike now before → AreReadings es → AreTrueReads now (map (in_round t) es) → AreJudged now before es
  judged now before [] same h k = record { reads = tt; alike = λ places. given_behind now [] places ∙ same places }
  judged now before (d ∷ es) same h k =
      let rest : AreJudged (now ++ in_round t d ∷ []) before es = judged (now ++ in_round t d ∷ []) before es (one_more now before d h.0 same) h.1 k.1 in
      record {
        reads = (true_before now before d.op d.answer h.0 same k.0, rest.reads);
        alike = subst (λ (ds : Deeds). GiveAlike ds before) (append_assoc now (in_round t d ∷ []) (map (in_round t) es)) rest.alike;
      }

  abbrev pub block_reads : Images → Tree → Trace
  block_reads images tree = task_trace is_single_or_piece journal t (ReadTree tree) images

  last_judged : (images : Images) (bound : Bound) (now before : Deeds) → GiveAlike now before → AreTrueReads now (flat_map (λ (b : Binding). map (in_round t) (block_reads images b.tree)) bound)
      → AllByRecursion (λ (b : Binding). AreTrue journal t before (block_reads images b.tree)) bound
  last_judged images [] now before same k = tt
  last_judged images (b ∷ bound) now before same k =
      let es : Deeds = map (in_round t) (block_reads images b.tree) in
      let rest : Deeds = flat_map (λ (x : Binding). map (in_round t) (block_reads images x.tree)) bound in
      let one : AreJudged now before (block_reads images b.tree) = judged now before (block_reads images b.tree) same (down_reading levels_max (ReadTree b.tree) images tt) (true_first now es rest k) in
      (one.reads, last_judged images bound (now ++ es) before one.alike (true_later now es rest k))

  -- Each block's last read is judged by what was given before all of them.
  pub last_true : (images : Images) (bound : Bound) (before : Deeds) → AreTrueReads before (flat_map (λ (b : Binding). map (in_round t) (block_reads images b.tree)) bound)
      → AllByRecursion (λ (b : Binding). AreTrue journal t before (block_reads images b.tree)) bound
  last_true images bound before k = last_judged images bound before before (λ places. refl) k
