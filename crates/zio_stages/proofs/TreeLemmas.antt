-- The read of a block as a part of a larger plan: it begins, hands out, and hears.
use Rattle.std.proofs.Common.{◌≡◌, ℕ, zero, suc, List, [], ◌∷◌, ◌++◌, length, map, set, slice_get, Option, Some, None, Result, Ok, Err, ◌+◌, refl, sym, ap, subst, ◌∙◌, append_assoc, arith}
use Rattle.std.proofs.lemmas.List.{length-map}
use Rattle.zio_types.specs.declared.error.Errno.{Errno}
use Rattle.zio_blkptr.specs.declared.pointer.Bp.{Bp}
use Rattle.zio_gang.specs.declared.tree.Tree.{Tree}
use Rattle.zio_gang.specs.Trees.{header_levels_max}
use Rattle.zio_trace.specs.Calls.{answered_at}
use Rattle.zio_trace.specs.Leaves.{Answer}
use Rattle.zio_trace.specs.Plans.{plan_tree}
use Rattle.zio_trace.specs.Tasks.{ByKept, Got, ReadHeads, Task, Walked, WalkedBy}
use Rattle.zio_frames.specs.Slots.{AsksBehindSlots, Heard, IsOut, Slot, left_behind_slots, told_in}
use Rattle.zio_frames.specs.Answering.{NextAnswered}
use Rattle.zio_parts.specs.HeadWalks.{no_walk}
use Rattle.zio_parts.specs.TreeReads.{Reading, ShowsRead, bodies_or, body_slot, fresh_read, left_of_read, reading_from, reading_in, slots_in, slots_of, walk_heard, with_phase, with_results}
use Rattle.zio_parts.specs.declared.tree_read.BodyRead.{BodyRead}
use Rattle.zio_parts.specs.declared.tree_read.Phase.{Phase}
use Rattle.zio_parts.specs.declared.tree_read.Phase.TheVariants.{Unread, Out, Failed, Found}
use Rattle.zio_parts.specs.declared.tree_read.TreeStep.TheVariants.{Walk, Body}
use Rattle.zio_stages.specs.PartsOut.{ArePartsOut}
use Rattle.zio_stages.specs.TreeWorks.{HandsRead, IsTreeWork, TreeAsks, WalksRead, body_task, heads_task, slots_with, walk_before}
use Rattle.zio_stages.specs.declared.tree.TreeWork.{TreeWork}
use Rattle.zio_stages.proofs.Asking.{next_answered}
use Rattle.zio_stages.proofs.PartsOutLemmas.{more_full, part_heard, part_out, set_full}

pub fresh_tree : (w : TreeWork) (tree : Tree) (bp : Bp) → w.read ≡ fresh_read bp → tree.bp ≡ bp → IsTreeWork w tree [] []
fresh_tree w tree bp is same = record {
  walked = no_walk;
  bp = ap (λ (r : Reading). r.bp) is ∙ sym same;
  shown = sym (ap (slots_with no_walk) is);
  left =
      ap (reading_from tree.heads) is
      ∙ ap (λ b. let whole : Tree = record { bp = b; heads = tree.heads } in plan_tree whole) (sym same)
      ∙ ap (λ (r : Reading). left_behind_slots (walk_before r.phase no_walk) (plan_tree tree)) (sym is);
  full = refl;
  out = tt;
}

-- ---- what it asks

told_behind : (phase : Phase) (walked : Walked) (rest : List Slot) → told_in (walk_before phase walked ++ rest) ≡ told_in rest
told_behind Unread walked rest = refl
told_behind Out walked rest = refl
told_behind (Failed error) walked rest = refl
told_behind Found walked rest = refl

left_behind_walk : (phase : Phase) (walked : Walked) (rest : List Slot) (tree : Tree)
    → left_behind_slots (walk_before phase walked ++ rest) (plan_tree tree) ≡ left_behind_slots rest (left_behind_slots (walk_before phase walked) (plan_tree tree))
left_behind_walk Unread walked rest tree = refl
left_behind_walk Out walked rest tree = refl
left_behind_walk (Failed error) walked rest tree = refl
left_behind_walk Found walked rest tree = refl

pub told_is : (w : TreeWork) (tree : Tree) (asked : List Task) (slots : List Slot) → IsTreeWork w tree asked slots
    → told_in slots ≡ told_in (slots_of w.read)
told_is w tree asked slots h = ap told_in h.shown ∙ told_behind w.read.phase h.walked (slots_of w.read)

pub left_is : (w : TreeWork) (tree : Tree) (asked : List Task) (slots : List Slot) → IsTreeWork w tree asked slots
    → left_behind_slots slots (plan_tree tree) ≡ left_of_read tree.heads w.read
left_is w tree asked slots h =
    ap (λ s. left_behind_slots s (plan_tree tree)) h.shown
    ∙ left_behind_walk w.read.phase h.walked (slots_of w.read) tree
    ∙ ap (left_behind_slots (slots_of w.read)) (sym h.left)

tree_asks : (w : TreeWork) (tree : Tree) (asked : List Task) (slots : List Slot) (op : Task) → IsTreeWork w tree asked slots
    → AsksBehindSlots (slots_of w.read) (reading_from tree.heads w.read) op → TreeAsks tree slots op
tree_asks w tree asked slots op h shows =
    let mine : NextAnswered (told_in (slots_of w.read)) (left_of_read tree.heads w.read) op = next_answered (told_in (slots_of w.read)) (left_of_read tree.heads w.read) op shows in
    subst (λ outs. NextAnswered outs (left_behind_slots slots (plan_tree tree)) op) (sym (told_is w tree asked slots h))
    (subst (λ p. NextAnswered (told_in (slots_of w.read)) p op) (sym (left_is w tree asked slots h)) mine)

-- ---- it hands out

-- nothing stands before its slots until the walk was heard
abbrev IsBefore : Phase → Type 0
IsBefore Unread = Unit {0}
IsBefore Out = Unit {0}
IsBefore (Failed error) = ⊥
IsBefore Found = ⊥

none_before : (phase : Phase) (walked : Walked) → IsBefore phase → walk_before phase walked ≡ []
none_before Unread walked h = refl
none_before Out walked h = refl
none_before (Failed error) walked h = absurd h
none_before Found walked h = absurd h

whole_before : (phase : Phase) (tree : Tree) (bp : Bp) (bodies : List Bp) → IsBefore phase → bp ≡ tree.bp
    → reading_in tree.heads bp phase bodies ≡ plan_tree tree
whole_before Unread tree bp bodies h e = ap (λ b. let whole : Tree = record { bp = b; heads = tree.heads } in plan_tree whole) e
whole_before Out tree bp bodies h e = ap (λ b. let whole : Tree = record { bp = b; heads = tree.heads } in plan_tree whole) e
whole_before (Failed error) tree bp bodies h e = absurd h
whole_before Found tree bp bodies h e = absurd h

pub walk_handed : (old new : TreeWork) (tree : Tree) (asked : List Task) (slots : List Slot) → ShowsRead old.read Walk
    → new.read ≡ with_phase old.read Out → slots_of new.read ≡ slots_of old.read ++ IsOut None ∷ []
    → IsTreeWork old tree asked slots → HandsRead new tree asked slots (heads_task tree)
walk_handed old new tree asked slots shows is more h =
    let op : Task = heads_task tree in
    let unread : IsBefore old.read.phase = subst IsBefore (sym shows.0) tt in
    let named : ReadHeads (ByKept tree.heads) header_levels_max [] old.read.bp ≡ op = ap (ReadHeads (ByKept tree.heads) header_levels_max []) h.bp in
    let phase : Out ≡ new.read.phase = sym (ap (λ (r : Reading). r.phase) is) in
    let mine : slots ≡ slots_of old.read = h.shown ∙ ap (λ front. front ++ slots_of old.read) (none_before old.read.phase h.walked unread) in (
      subst (TreeAsks tree slots) named (tree_asks old tree asked slots (ReadHeads (ByKept tree.heads) header_levels_max [] old.read.bp) h (shows.1 tree.heads)),
      record {
        walked = h.walked;
        bp = ap (λ (r : Reading). r.bp) is ∙ h.bp;
        shown = ap (λ s. s ++ IsOut None ∷ []) mine ∙ sym more ∙ ap (λ p. walk_before p h.walked ++ slots_of new.read) phase;
        left = ap (reading_from tree.heads) is ∙ whole_before Out tree old.read.bp old.read.bodies tt h.bp ∙ ap (λ p. left_behind_slots (walk_before p h.walked) (plan_tree tree)) phase;
        full = more_full asked slots op (IsOut None) h.full;
        out = part_out op None asked slots h.full tt h.out;
      },
    )

-- more of its bodies are out, or read
results_moved : (old new : TreeWork) (tree : Tree) (asked more : List Task) (slots after : List Slot) (results : List (Option Answer)) (h : IsTreeWork old tree asked slots)
    → new.read ≡ with_results old.read results
    → after ≡ walk_before old.read.phase h.walked ++ slots_of new.read → length more ≡ length after → ArePartsOut more after
    → IsTreeWork new tree more after
results_moved old new tree asked more slots after results h is shown full out =
    let phase : old.read.phase ≡ new.read.phase = sym (ap (λ (r : Reading). r.phase) is) in
    record {
      walked = h.walked;
      bp = ap (λ (r : Reading). r.bp) is ∙ h.bp;
      shown = shown ∙ ap (λ p. walk_before p h.walked ++ slots_of new.read) phase;
      left = ap (reading_from tree.heads) is ∙ h.left ∙ ap (λ p. left_behind_slots (walk_before p h.walked) (plan_tree tree)) phase;
      full = full;
      out = out;
    }

pub body_handed : (old new : TreeWork) (tree : Tree) (asked : List Task) (slots : List Slot) (body : BodyRead) → ShowsRead old.read (Body body)
    → new.read ≡ with_results old.read (old.read.results ++ None ∷ [])
    → slots_of new.read ≡ slots_of old.read ++ IsOut None ∷ [] → IsTreeWork old tree asked slots → HandsRead new tree asked slots (body_task body.bp)
body_handed old new tree asked slots body shows is more h =
    let op : Task = body_task body.bp in
    let front : List Slot = walk_before old.read.phase h.walked in (
      tree_asks old tree asked slots op h (shows.4 tree.heads),
      results_moved old new tree asked (asked ++ op ∷ []) slots (slots ++ IsOut None ∷ []) (old.read.results ++ None ∷ []) h is
          (ap (λ s. s ++ IsOut None ∷ []) h.shown ∙ append_assoc front (slots_of old.read) (IsOut None ∷ []) ∙ ap (λ s. front ++ s) (sym more))
          (more_full asked slots op (IsOut None) h.full)
          (part_out op None asked slots h.full tt h.out),
    )

-- ---- it hears

pub out_walk : (phase : Phase) (walked : Walked) (results : List (Option Answer))
    → slice_get (walk_before phase walked ++ slots_in phase results) 0 ≡ Some (IsOut None) → phase ≡ Out
out_walk Unread walked results e = absurd (cc)
out_walk Out walked results e = refl
out_walk (Failed error) walked results e = absurd (cc)
out_walk Found walked results e = absurd (cc)

pub out_body : (phase : Phase) (walked : Walked) (results : List (Option Answer)) (k : ℕ)
    → slice_get (walk_before phase walked ++ slots_in phase results) (suc k) ≡ Some (IsOut None) → phase ≡ Found
out_body Unread walked results k e = absurd (cc)
out_body Out walked results k e = absurd (cc)
out_body (Failed error) walked results k e = absurd (cc)
out_body Found walked results k e = refl

result_out : (results : List (Option Answer)) (k : ℕ) → slice_get (map body_slot results) k ≡ Some (IsOut None) → slice_get results k ≡ Some None
result_out [] k e = absurd (cc)
result_out (None ∷ results) zero e = refl
result_out (Some found ∷ results) zero e = absurd (cc)
result_out (x ∷ results) (suc k) e = result_out results k e

pub out_result : (phase : Phase) (walked : Walked) (results : List (Option Answer)) (k : ℕ)
    → slice_get (walk_before phase walked ++ slots_in phase results) (suc k) ≡ Some (IsOut None) → slice_get results k ≡ Some None
out_result Unread walked results k e = absurd (cc)
out_result Out walked results k e = absurd (cc)
out_result (Failed error) walked results k e = absurd (cc)
out_result Found walked results k e = result_out results k e

set_behind : (phase : Phase) (walked : Walked) (rest : List Slot) (k : ℕ) (slot : Slot) → phase ≡ Found
    → set (walk_before phase walked ++ rest) (suc k) slot ≡ walk_before phase walked ++ set rest k slot
set_behind Unread walked rest k slot e = absurd (cc)
set_behind Out walked rest k slot e = absurd (cc)
set_behind (Failed error) walked rest k slot e = absurd (cc)
set_behind Found walked rest k slot e = refl

pub body_heard : (old new : TreeWork) (tree : Tree) (asked : List Task) (slots : List Slot) (n k : ℕ) (found : Answer) → n ≡ suc k
    → old.read.phase ≡ Found → new.read ≡ with_results old.read (set old.read.results k (Some found))
    → slots_of new.read ≡ set (slots_of old.read) k (Heard (Got found)) → IsTreeWork old tree asked slots
    → IsTreeWork new tree asked (set slots n (Heard (Got found)))
body_heard old new tree asked slots n k found number reading is more h =
    let front : List Slot = walk_before old.read.phase h.walked in
    results_moved old new tree asked asked slots (set slots n (Heard (Got found))) (set old.read.results k (Some found)) h is
    (ap (λ s. set s n (Heard (Got found))) h.shown
    ∙ ap (λ i. set (front ++ slots_of old.read) i (Heard (Got found))) number
    ∙ set_behind old.read.phase h.walked (slots_of old.read) k (Heard (Got found)) reading
    ∙ ap (λ s. front ++ s) (sym more))
    (set_full asked slots n (Heard (Got found)) h.full)
    (part_heard n (Got found) asked slots h.out)

heard_before : (x : Reading) (bodies : Result (List Bp) Errno) (walked : Walked)
    → walk_before (walk_heard x bodies).phase walked ≡ Heard (WalkedBy walked) ∷ []
heard_before x (Ok bodies) walked = refl
heard_before x (Err error) walked = refl

pub tree_walked : (old new : TreeWork) (tree : Tree) (asked : List Task) (slots : List Slot) (walked : Walked) → old.read.phase ≡ Out
    → new.read ≡ walk_heard old.read (bodies_or walked) → slots_of new.read ≡ []
    → left_of_read tree.heads new.read ≡ answered_at 0 (WalkedBy walked) (left_of_read tree.heads old.read) → IsTreeWork old tree asked slots
    → IsTreeWork new tree asked (set slots 0 (Heard (WalkedBy walked)))
tree_walked old new tree asked slots walked phase is none left h =
    let v : Slot = Heard (WalkedBy walked) in
    let out : IsBefore old.read.phase = subst IsBefore (sym phase) tt in
    let before : walk_before new.read.phase walked ≡ v ∷ [] = ap (λ (r : Reading). walk_before r.phase walked) is ∙ heard_before old.read (bodies_or walked) walked in
    let mine : slots ≡ slots_of old.read = h.shown ∙ ap (λ front. front ++ slots_of old.read) (none_before old.read.phase h.walked out) in
    let one : slots_of old.read ≡ IsOut None ∷ [] = ap (λ p. slots_in p old.read.results) phase in
    let whole : reading_from tree.heads old.read ≡ plan_tree tree = whole_before old.read.phase tree old.read.bp old.read.bodies out h.bp in
    record {
      walked = walked;
      bp = bp_of (bodies_or walked) is ∙ h.bp;
      shown = ap (λ s. set s 0 v) (mine ∙ one) ∙ sym (ap (λ front. front ++ slots_of new.read) before ∙ ap (λ s. v ∷ s) none);
      left =
          sym (ap (λ s. left_behind_slots s (reading_from tree.heads new.read)) none)
          ∙ left
          ∙ ap (λ s. answered_at 0 (WalkedBy walked) (left_behind_slots s (reading_from tree.heads old.read))) one
          ∙ ap (λ p. answered_at 0 (WalkedBy walked) (left_behind_slots (IsOut None ∷ []) p)) whole
          ∙ ap (λ front. left_behind_slots front (plan_tree tree)) (sym before);
      full = set_full asked slots 0 v h.full;
      out = part_heard 0 (WalkedBy walked) asked slots h.out;
    } where
      bp_of : (bodies : Result (List Bp) Errno) → new.read ≡ walk_heard old.read bodies → new.read.bp ≡ old.read.bp
      bp_of (Ok bodies) e = ap (λ (r : Reading). r.bp) e
      bp_of (Err error) e = ap (λ (r : Reading). r.bp) e

-- ---- the walk at once

unread_none : (w : TreeWork) (tree : Tree) (asked : List Task) (slots : List Slot) → w.read.phase ≡ Unread → IsTreeWork w tree asked slots → slots ≡ []
unread_none w tree asked slots e h = h.shown ∙ ap (λ p. walk_before p h.walked ++ slots_in p w.read.results) e

none_asked : {X Y : Type 0} (xs : List X) (ys : List Y) → length xs ≡ length ys → ys ≡ [] → xs ≡ []
none_asked [] ys l e = refl
none_asked (x ∷ xs) ys l e = let none : length ys ≡ 0 = ap length e in absurd (omega (arith, l))

-- where the walk is to be made nothing was asked
pub walk_first : (w : TreeWork) (tree : Tree) (asked : List Task) (slots : List Slot) → ShowsRead w.read Walk → IsTreeWork w tree asked slots → (asked ≡ []) × (slots ≡ [])
walk_first w tree asked slots shows h =
    let none : slots ≡ [] = unread_none w tree asked slots shows.0 h in
    (none_asked asked slots h.full none, none)

set_only : (slots : List Slot) (x y : Slot) → slots ≡ [] → set (slots ++ x ∷ []) 0 y ≡ slots ++ y ∷ []
set_only slots x y e = ap (λ (xs : List Slot). set (xs ++ x ∷ []) 0 y) e ∙ sym (ap (λ (xs : List Slot). xs ++ y ∷ []) e)

pub walked_at_once : (old mid new : TreeWork) (tree : Tree) (asked : List Task) (slots : List Slot) (walked : Walked) → ShowsRead old.read Walk
    → mid.read ≡ with_phase old.read Out → slots_of mid.read ≡ slots_of old.read ++ IsOut None ∷ []
    → new.read ≡ walk_heard mid.read (bodies_or walked) → slots_of new.read ≡ []
    → left_of_read tree.heads new.read ≡ answered_at 0 (WalkedBy walked) (left_of_read tree.heads mid.read) → IsTreeWork old tree asked slots
    → WalksRead new tree asked slots walked
walked_at_once old mid new tree asked slots walked shows is more heard empty left h =
    let op : Task = heads_task tree in
    let out : HandsRead mid tree asked slots op = walk_handed old mid tree asked slots shows is more h in
    let none : (asked ≡ []) × (slots ≡ []) = walk_first old tree asked slots shows h in
    record {
      first = none.0;
      asks = out.0;
      after = subst (IsTreeWork new tree (asked ++ op ∷ [])) (set_only slots (IsOut None) (Heard (WalkedBy walked)) none.1)
          (tree_walked mid new tree (asked ++ op ∷ []) (slots ++ IsOut None ∷ []) walked (ap (λ (r : Reading). r.phase) is) heard empty left out.1);
    }

-- ---- where a body's read stands

last_body : (results : List (Option Answer)) → slice_get (map body_slot (results ++ None ∷ [])) (length results) ≡ Some (IsOut None)
last_body [] = refl
last_body (r ∷ results) = last_body results

pub body_there : (old new : TreeWork) (body : BodyRead) (left : Walked) → ShowsRead old.read (Body body)
    → new.read ≡ with_results old.read (old.read.results ++ None ∷ []) → slice_get (slots_with left new.read) (body.n + 1) ≡ Some (IsOut None)
body_there old new body left shows is =
    let more : List (Option Answer) = old.read.results ++ None ∷ [] in
    let at : body.n + 1 ≡ suc (length old.read.results) = omega (arith, shows.1) in
    ap (λ (r : Reading). slice_get (slots_with left r) (body.n + 1)) is
    ∙ ap (λ p. slice_get (walk_before p left ++ slots_in p more) (body.n + 1)) shows.0
    ∙ ap (λ k. slice_get (Heard (WalkedBy left) ∷ map body_slot more) k) at
    ∙ last_body old.read.results

-- behind the walk stand as many as bodies were handed out
pub found_length : (w : TreeWork) (tree : Tree) (asked : List Task) (slots : List Slot) (n : ℕ) → w.read.phase ≡ Found → length w.read.results ≡ n
    → IsTreeWork w tree asked slots → length slots ≡ n + 1
found_length w tree asked slots n found few h =
    let same : length slots ≡ length (Heard (WalkedBy h.walked) ∷ map body_slot w.read.results) =
    ap length h.shown ∙ ap (λ p. length (walk_before p h.walked ++ slots_in p w.read.results)) found in
    let mapped : length (map body_slot w.read.results) ≡ length w.read.results = length-map w.read.results body_slot in
    omega (arith, same, mapped, few)
