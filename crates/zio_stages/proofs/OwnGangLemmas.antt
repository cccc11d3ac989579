-- A gang's read behind other operations: its walk and its bodies are handed out, told of and heard.
use Rattle.std.proofs.Common.{◌≡◌, ◌≢◌, ℕ, zero, suc, ◌+◌, ◌-◌, ◌<◌, List, [], ◌∷◌, ◌++◌, length, map, set, slice_get, Bool, true, false, Option, Some, None, refl, sym, ap, subst, ◌∙◌, arith}
use Rattle.std.specs.Prelude.{IfSome}
use Rattle.std.specs.List.{AllByRecursion}
use Rattle.zio_types.specs.declared.place.Top.{Top}
use Rattle.zio_types.specs.declared.request.ChildKind.TheVariants.{Gang}
use Rattle.zio_types.specs.declared.request.Phase.TheVariants.{Done}
use Rattle.zio_blkptr.specs.declared.pointer.Bp.{Bp}
use Rattle.zio_gang.specs.declared.tree.Tree.{Tree}
use Rattle.zio_gang.specs.Attempts.{Terms}
use Rattle.zio_trace.specs.Leaves.{Answer}
use Rattle.zio_trace.specs.Plans.{plan_tree}
use Rattle.zio_trace.specs.Tasks.{Task, Value, Walked}
use Rattle.zio_frames.specs.Frames.{Child, OfOuter, Seat, Stack, kind_of_task, needs_none}
use Rattle.zio_frames.specs.Moves.{AsksNext, child_ended, child_told, handed, heard_early, heard_of, set_at}
use Rattle.zio_frames.specs.Seats.{HasSeat, IsSeated, ShowsTold, SitsAt, slot_at}
use Rattle.zio_frames.specs.Slots.{Heard, IsOut, Slot, told_in}
use Rattle.zio_frames.proofs.GetLemmas.{all_at}
use Rattle.zio_parts.specs.TreeReads.{Reading, body_slot, slots_in, with_results}
use Rattle.zio_parts.specs.declared.tree_read.Phase.{Phase}
use Rattle.zio_parts.specs.declared.tree_read.Phase.TheVariants.{Unread, Out, Failed, Found}
use Rattle.zio_stages.specs.NodeChildren.{new_child}
use Rattle.zio_stages.specs.OwnParts.{GoesOnAs, HandsTo, IsOwed}
use Rattle.zio_stages.specs.OwnReads.{AreReads, IsBodyIn, IsBodyOut, IsBodyTask, IsOwnRead}
use Rattle.zio_stages.specs.TreeWorks.{HandsRead, IsTreeWork, slots_with, walk_before}
use Rattle.zio_stages.specs.declared.own_read.BodyIo.{BodyIo}
use Rattle.zio_stages.specs.declared.own_read.OwnRead.{OwnRead}
use Rattle.zio_stages.specs.declared.tree.TreeWork.{TreeWork}
use Rattle.zio_stages.proofs.BehindLemmas.{behind_more, behind_set, get_past_front, handed_children, handed_inner, handed_outer, hands_to, heard_inner, heard_outer, next_number, owed_behind}
use Rattle.zio_stages.proofs.OwnReadLemmas.{alone_in, none_in}
use Rattle.zio_stages.proofs.RequestOwnLemmas.{body_still}
use Rattle.zio_stages.proofs.ToldLemmas.{asks_since, none_since, since_count, since_length, since_out, since_set, since_told}

-- ---- what it hands out

pub child_is : (seat : Seat) (op : Task) → kind_of_task op ≡ Gang → new_child seat Gang ≡ record { seat = seat; kind = kind_of_task op; told = needs_none (kind_of_task op); ended = false }
child_is seat op e = λ i. record { seat = seat; kind = sym e i; told = needs_none (sym e i); ended = false }

pub hands_read : (t : Terms) (tops : List Top) (old new : OwnRead) (family more : List Child) (tree : Tree) (front_asked : List Task) (front : List Slot) (st : Stack) (op : Task) (n : ℕ) (IsChild : Task → Type 0)
    → old.body ≡ None → new.body ≡ None → GoesOnAs t tops (plan_tree tree) front st → (h : IsOwnRead t old family tree front_asked front st)
    → HandsRead new.tree tree h.asked h.begun op → AreReads tree (h.asked ++ op ∷ []) → kind_of_task op ≡ Gang → IsChild op → n ≡ length front + length h.begun
    → more ≡ family ++ new_child (OfOuter n) Gang ∷ []
    → HandsTo t Gang IsChild (IsOwnRead t new more tree front_asked front) st
hands_read t tops old new family more tree front_asked front st op n IsChild alone none goes h out reads kind child number grown =
    let inner : st.inner ≡ None = alone_in t old.body (length front) st alone h.body in
    let asks : AsksNext t st.outer op = asks_since t front_asked front h.asked h.begun h.slots st (plan_tree tree) op h.behind h.told h.work.out goes.follows out.0 in
    let next : length st.outer.slots ≡ length front + length h.slots = next_number front_asked front h.asked h.slots st h.behind in
    let same : length h.begun ≡ length h.slots = since_length h.begun h.slots h.told in
    let at : n ≡ length st.outer.slots = omega (arith, number, next, same) in
    hands_to t st op Gang IsChild (IsOwnRead t new more tree front_asked front) inner goes.part asks kind child (record {
      asked = h.asked ++ op ∷ [];
      slots = h.slots ++ IsOut None ∷ [];
      begun = h.begun ++ IsOut None ∷ [];
      children =
          grown ∙ ap (λ (cs : List Child). cs ++ new_child (OfOuter n) Gang ∷ []) h.children
          ∙ ap (λ (k : ℕ). st.children ++ new_child (OfOuter k) Gang ∷ []) at
          ∙ ap (λ (c : Child). st.children ++ c ∷ []) (child_is (OfOuter (length st.outer.slots)) op kind)
          ∙ sym (handed_children st op inner);
      behind = behind_more front_asked front h.asked h.slots st (handed st op) op (IsOut None) h.behind (handed_outer st op inner);
      work = out.1;
      told = since_out h.begun h.slots h.told;
      reads = reads;
      body = none_in t new.body (length front) (handed st op) none (handed_inner st op inner);
    })

-- ---- what it waits for

body_gangs : (asked : List Task) → AllByRecursion IsBodyTask asked → AllByRecursion (λ (q : Task). kind_of_task q ≡ Gang) asked
body_gangs [] h = tt
body_gangs (q ∷ asked) h = (ap kind_of_task h.0.1, body_gangs asked h.1)

are_gangs : (tree : Tree) (asked : List Task) → AreReads tree asked → AllByRecursion (λ (q : Task). kind_of_task q ≡ Gang) asked
are_gangs tree [] h = tt
are_gangs tree (q ∷ asked) h = (ap kind_of_task h.0, body_gangs asked h.1)

pub read_owed : (t : Terms) (w : OwnRead) (family : List Child) (tree : Tree) (front_asked : List Task) (front : List Slot) (st : Stack) → w.body ≡ None → IsSeated st
    → (h : IsOwnRead t w family tree front_asked front st) → 0 < length (told_in h.begun) → IsOwed Gang Done st
read_owed t w family tree front_asked front st alone seated h some =
    let same : length h.begun ≡ length h.slots = since_length h.begun h.slots h.told in
    let outs : length (told_in h.begun) ≡ length (told_in h.slots) = since_count h.begun h.slots h.told in
    let full : length h.asked ≡ length h.begun = h.work.full in
    owed_behind front_asked front h.asked h.slots st seated (alone_in t w.body (length front) st alone h.body) h.behind (are_gangs tree h.asked h.reads) (omega arith) (omega arith)

-- ---- what it hears

pub hears_read : (t : Terms) (old new : OwnRead) (family more : List Child) (tree : Tree) (front_asked : List Task) (front : List Slot) (st : Stack) (k n : ℕ) (c : Child) (v : Value)
    → new.body ≡ old.body → slice_get st.children k ≡ Some c → c.seat ≡ OfOuter (length front + n) → more ≡ set family k (child_ended c)
    → (h : IsOwnRead t old family tree front_asked front st) → IsTreeWork new.tree tree h.asked (set h.begun n (Heard v))
    → IsOwnRead t new more tree front_asked front (heard_of st k c v)
hears_read t old new family more tree front_asked front st k n c v same there seat ended h work = record {
  asked = h.asked;
  slots = set h.slots n (Heard v);
  begun = set h.begun n (Heard v);
  children = ended ∙ ap (λ (cs : List Child). set cs k (child_ended c)) h.children;
  behind = behind_set front_asked front h.asked h.slots st (heard_of st k c v) n (Heard v) h.behind (heard_outer st k (length front + n) c v seat);
  work = work;
  told = since_set h.begun h.slots n v h.told;
  reads = h.reads;
  body = subst (λ (o : Option BodyIo). IsBodyIn t o (length front) (heard_of st k c v)) (sym same)
      (body_still t old.body (length front) (length front) st (heard_of st k c v) refl (heard_inner st k (length front + n) c v seat) h.body);
}

-- the child told, and nothing changes for its read
pub tells_read : (t : Terms) (w : OwnRead) (family more : List Child) (tree : Tree) (front_asked : List Task) (front : List Slot) (st : Stack) (k n : ℕ) (c : Child) (pointer : Option Bp)
    → IsSeated st → c.ended ≡ false → c.told ≡ false → slice_get st.children k ≡ Some c → c.seat ≡ OfOuter (length front + n) → more ≡ set family k (child_told c)
    → (h : IsOwnRead t w family tree front_asked front st) → IsOwnRead t w more tree front_asked front (heard_early st k c pointer)
tells_read t w family more tree front_asked front st k n c pointer seated goes untold there seat told h = record {
  asked = h.asked;
  slots = set h.slots n (IsOut (Some pointer));
  begun = h.begun;
  children = told ∙ ap (λ (cs : List Child). set cs k (child_told c)) h.children;
  behind = behind_set front_asked front h.asked h.slots st (heard_early st k c pointer) n (IsOut (Some pointer)) h.behind
      (ap (λ (s : Seat). (set_at st s (IsOut (Some pointer))).outer) seat);
  work = h.work;
  told = since_told h.begun h.slots n pointer (none_since h.begun h.slots n h.told out) h.told;
  reads = h.reads;
  body = body_still t w.body (length front) (length front) st (heard_early st k c pointer) refl (ap (λ (s : Seat). (set_at st s (IsOut (Some pointer))).inner) seat) h.body;
}
  where
    sits : (op : Task) × (out : Option (Option Bp)) × SitsAt st c op out
    sits = all_at (HasSeat st) st.children k c seated.each there goes

    nothing : (b : Bool) (out : Option (Option Bp)) → ShowsTold b false out → out ≡ None
    nothing true out s = absurd s
    nothing false None s = refl
    nothing false (Some p) s = absurd s

    none : sits.1 ≡ None
    none = nothing (needs_none c.kind) sits.1 (subst (λ (b : Bool). ShowsTold (needs_none c.kind) b sits.1) untold sits.2.shows)

    out : slice_get h.slots n ≡ Some (IsOut None)
    out =
        sym (ap (λ (xs : List Slot). slice_get xs (length front + n)) h.behind.slots_are ∙ get_past_front front h.slots n)
        ∙ ap (slot_at st) (sym seat) ∙ sits.2.slot ∙ ap (λ (o : Option (Option Bp)). Some (IsOut o)) none

pub told_is : (family more : List Child) (k : ℕ) (c : Child) → slice_get family k ≡ Some c → IfSome (slice_get family k) (λ (x : Child). more ≡ set family k (child_told x)) → more ≡ set family k (child_told c)
told_is family more k c is h = let P : Option Child → Type 0 = λ o. IfSome o (λ (x : Child). more ≡ set family k (child_told x)) in subst P is h

-- ---- another body is still out

other_result : (results : List (Option Answer)) (k j : ℕ) (x : Option Answer) → j ≢ k → slice_get (map body_slot (set results k x)) j ≡ slice_get (map body_slot results) j
other_result [] k j x ne = refl
other_result (r ∷ results) zero zero x ne = absurd (ne refl)
other_result (r ∷ results) zero (suc j) x ne = refl
other_result (r ∷ results) (suc k) zero x ne = refl
other_result (r ∷ results) (suc k) (suc j) x ne = other_result results k j x (λ e. ne (ap suc e))

other_slot : (phase : Phase) (left : Walked) (results : List (Option Answer)) (k m : ℕ) (x : Option Answer) → m ≢ suc k
    → slice_get (walk_before phase left ++ slots_in phase (set results k x)) m ≡ slice_get (walk_before phase left ++ slots_in phase results) m
other_slot Unread left results k m x ne = refl
other_slot Out left results k m x ne = refl
other_slot (Failed e) left results k m x ne = refl
other_slot Found left results k zero x ne = refl
other_slot Found left results k (suc j) x ne = other_result results k j x (λ e. ne (ap suc e))

pub still_out : (w v : TreeWork) (n m : ℕ) (found : Answer) → 0 < n → m ≢ n → v.read ≡ with_results w.read (set w.read.results (n - 1) (Some found)) → IsBodyOut w m → IsBodyOut v m
still_out w v n m found some ne is h =
    let ne_suc : m ≢ suc (n - 1) = λ e. ne (omega (arith, e, some)) in
    record {
      behind = h.behind;
      out = λ left.
          ap (λ (r : Reading). slice_get (slots_with left r) m) is
          ∙ other_slot w.read.phase left w.read.results (n - 1) m (Some found) ne_suc ∙ h.out left;
    }
