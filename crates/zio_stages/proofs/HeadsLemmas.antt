-- The walk over headers as a node's part: it begins, hands out, and hears.
use Rattle.std.proofs.Common.{◌≡◌, ℕ, zero, suc, ◌+◌, ◌<◌, ◌⊎◌, inl, inr, arith, List, [], ◌∷◌, ◌++◌, length, map, set, slice_get, Bool, Option, Some, None, refl, sym, ap, subst, ◌∙◌, length-append, length-set}
use Rattle.std.specs.Prelude.{filter, not}
use Rattle.std.proofs.lemmas.List.{length-map}
use Rattle.zio_types.specs.declared.error.Errno.{Errno}
use Rattle.zio_blkptr.specs.declared.pointer.Bp.{Bp}
use Rattle.zio_gang.specs.declared.tree.Head.{Head}
use Rattle.zio_gang.specs.Attempts.{Terms}
use Rattle.zio_gang.specs.Trees.{kept_at}
use Rattle.zio_trace.specs.Leaves.{Answer}
use Rattle.zio_trace.specs.Plans.{head_task, plan}
use Rattle.zio_trace.specs.Tasks.{Got, Look, ReadHeads, Task, Walked, WalkedBy}
use Rattle.zio_frames.specs.Frames.{Frame, fresh_frame, with_asked, with_slot}
use Rattle.zio_frames.specs.Moves.{AsksNext}
use Rattle.zio_frames.specs.Seats.{IsFull}
use Rattle.zio_frames.specs.Slots.{Heard, IsOut, left_behind_slots}
use Rattle.zio_frames.proofs.GetLemmas.{get_either}
use Rattle.zio_parts.specs.HeadWalks.{ShowsWalk, Walking, fresh_walk, header_by, left_of_walk, look_of, member_slot, named_by, slots_of, walk_slots, walking_from, with_header, with_members}
use Rattle.zio_parts.specs.declared.head_walk.Header.{Header}
use Rattle.zio_parts.specs.declared.head_walk.Header.TheVariants.{Unread, Out, Failed, Read}
use Rattle.zio_parts.specs.declared.head_walk.MemberWalk.{MemberWalk}
use Rattle.zio_parts.specs.declared.head_walk.WalkStep.TheVariants.{ReadHead, Member}
use Rattle.zio_stages.specs.HeadsWorks.{AreKeptFor, HandsBelow, HandsHead, HasAsked, IsAskedOf, IsHeadsWork, IsReadOf, IsWalkBelow, is_under, read_task, walk_task}
use Rattle.zio_stages.specs.PartsOut.{ArePartsOut, IsPartOp}
use Rattle.zio_stages.specs.declared.heads.HeadRead.{HeadRead}
use Rattle.zio_stages.specs.declared.heads.HeadRead.TheVariants.{Kept, Claimed}
use Rattle.zio_stages.specs.declared.heads.HeadsWork.{HeadsWork}
use Rattle.zio_stages.proofs.HeadsKept.{kept_below, kept_beside}
use Rattle.zio_stages.proofs.PartsOutLemmas.{asks_work, more_full, part_heard, part_out, set_full}

-- ---- it begins

pub fresh_heads : (t : Terms) (w : HeadsWork) (claim : Bool) (levels : ℕ) (path : List ℕ) (bp : Bp) (judged : Option Errno) (heads : List Head)
    → w.walk ≡ fresh_walk claim levels path bp judged
    → left_of_walk heads w.walk ≡ plan t (ReadHeads (look_of claim heads) levels path bp) → AreKeptFor w.heads.items heads path 0
    → IsHeadsWork t w (fresh_frame (ReadHeads (look_of claim heads) levels path bp))
fresh_heads t w claim levels path bp judged heads is left kept =
    let none : slots_of w.walk ≡ [] = ap slots_of is in
    record {
      heads = heads;
      op = ap (λ (k : Walking). ReadHeads (look_of k.claim heads) k.levels k.path k.bp) (sym is);
      slots = sym none;
      plan = sym (ap (λ s. left_behind_slots s (walking_from heads w.walk)) none) ∙ left;
      full = record { lengths = refl };
      out = tt;
      asked = λ n op e. absurd (cc);
      kept = subst (λ (k : Walking). AreKeptFor w.heads.items heads k.path (length k.members)) (sym is) kept;
    }

pub none_kept : (mine : List Head) (path : List ℕ) (n : ℕ) → mine ≡ [] → AreKeptFor mine [] path n
none_kept mine path n e = record {
  own = ap (λ hs. kept_at hs path) e;
  below = λ m rest l. ap (λ hs. kept_at hs (path ++ m ∷ rest)) e;
}

-- ---- it goes on

-- the walk with this header and these members
abbrev pub turned : Walking → Header → List (Option Walked) → Walking
turned w header members = record { claim = w.claim; levels = w.levels; path = w.path; bp = w.bp; judged = w.judged; header = header; members = members }

moved : (t : Terms) (old new : HeadsWork) (x y : Frame) (header : Header) (members : List (Option Walked)) (h : IsHeadsWork t old x)
    → new.walk ≡ turned old.walk header members → y.op ≡ x.op
    → y.slots ≡ slots_of new.walk → IsFull y → ArePartsOut y.asked y.slots
    → HasAsked (look_of old.walk.claim h.heads) old.walk.path old.walk.bp (named_by header) y.asked
    → ((heads : List Head) → AreKeptFor old.heads.items heads old.walk.path (length old.walk.members) → AreKeptFor new.heads.items heads old.walk.path (length members))
    → IsHeadsWork t new y
moved t old new x y header members h is op slots full out asked kept = record {
  heads = h.heads;
  op = op ∙ h.op ∙ ap (λ (k : Walking). ReadHeads (look_of k.claim h.heads) k.levels k.path k.bp) (sym is);
  slots = slots;
  plan = ap (walking_from h.heads) is ∙ h.plan ∙ ap (plan t) (sym op);
  full = full;
  out = out;
  asked = subst (λ (k : Walking). HasAsked (look_of k.claim h.heads) k.path k.bp (named_by k.header) y.asked) (sym is) asked;
  kept = subst (λ (k : Walking). AreKeptFor new.heads.items h.heads k.path (length k.members)) (sym is) (kept h.heads h.kept);
}

-- nothing is asked before the header's read
none_asked : (x : Frame) (header : Header) (members : List (Option Walked)) → header ≡ Unread → x.slots ≡ walk_slots header members → length x.asked ≡ length x.slots → length x.asked ≡ 0
none_asked x header members unread slots full = full ∙ ap length slots ∙ ap (λ h. length (walk_slots h members)) unread

first_asked : (look : Look) (path : List ℕ) (bp : Bp) (members : List Bp) (asked : List Task) (op : Task) → length asked ≡ 0 → op ≡ head_task look path bp
    → HasAsked look path bp members (asked ++ op ∷ [])
first_asked look path bp members [] op none is zero q e = let same : op ≡ q = cc in sym same ∙ is
first_asked look path bp members [] op none is (suc n) q e = absurd (cc)
first_asked look path bp members (x ∷ asked) op none is n q e = absurd (omega (arith, none))

-- behind the header's read so many walks are asked as members were handed out
many_asked : (x : Frame) (header : Header) (members : List (Option Walked)) → 0 < length (named_by header) → x.slots ≡ walk_slots header members → length x.asked ≡ length x.slots
    → length x.asked ≡ suc (length members)
many_asked x Unread members some slots full = absurd (omega arith)
many_asked x Out members some slots full = absurd (omega arith)
many_asked x (Failed f) members some slots full = absurd (omega arith)
many_asked x (Read bytes) members some slots full = full ∙ ap length slots ∙ ap suc (length-map members member_slot)

more_asked : (look : Look) (path : List ℕ) (bp : Bp) (members : List Bp) (asked : List Task) (k : ℕ) (op : Task) → length asked ≡ suc k → IsWalkBelow look path members k op
    → HasAsked look path bp members asked → HasAsked look path bp members (asked ++ op ∷ [])
more_asked look path bp members asked k op many below h n q e = by (get_either asked op q n e) where
  by : (slice_get asked n ≡ Some q) ⊎ ((n ≡ length asked) × (op ≡ q)) → IsAskedOf look path bp members n q
  by (inl old) = h n q old
  by (inr new) = subst (λ m. IsAskedOf look path bp members m q) (sym (new.0 ∙ many)) (subst (IsWalkBelow look path members k) new.1 below)

-- with the header's read alone what it names doesn't matter
only_head : (look : Look) (path : List ℕ) (bp : Bp) (old new : List Bp) (asked : List Task) → length asked ≡ 1 → HasAsked look path bp old asked → HasAsked look path bp new asked
only_head look path bp old new [] one h n q e = absurd (omega (arith, one))
only_head look path bp old new (x ∷ []) one h zero q e = h zero q e
only_head look path bp old new (x ∷ []) one h (suc n) q e = absurd (cc)
only_head look path bp old new (x ∷ y ∷ asked) one h n q e = absurd (omega (arith, one))

pub head_handed : (t : Terms) (old new : HeadsWork) (read : HeadRead) (x : Frame) → ShowsWalk old.walk ReadHead → IsReadOf old read
    → new.walk ≡ with_header old.walk Out
    → slots_of new.walk ≡ slots_of old.walk ++ IsOut None ∷ [] → new.heads ≡ old.heads → IsHeadsWork t old x → HandsHead t new read x
head_handed t old new read x shows reads is slots same h =
    let op : Task = read_task read in
    let named : op ≡ head_task (look_of old.walk.claim h.heads) old.walk.path old.walk.bp = reads h.heads h.kept.own in (
      subst (AsksNext t x) (sym named) (asks_work t x (slots_of old.walk) (walking_from h.heads old.walk) (head_task (look_of old.walk.claim h.heads) old.walk.path old.walk.bp) h.slots h.plan h.out (shows.2 h.heads)),
      moved t old new x (with_asked x op (IsOut None)) Out old.walk.members h is refl
          (ap (λ s. s ++ IsOut None ∷ []) h.slots ∙ sym slots)
          (record { lengths = more_full x.asked x.slots op (IsOut None) h.full.lengths })
          (part_out op None x.asked x.slots h.full.lengths (is_part read) h.out)
          (first_asked (look_of old.walk.claim h.heads) old.walk.path old.walk.bp [] x.asked op (none_asked x old.walk.header old.walk.members shows.0 h.slots h.full.lengths) named)
          (λ heads k. subst (λ hs. AreKeptFor hs heads old.walk.path (length old.walk.members)) (sym (ap (λ v. v.items) same)) k),
    ) where
      is_part : (r : HeadRead) → IsPartOp (read_task r)
      is_part (Kept bp bytes) = tt
      is_part (Claimed bp) = tt

pub below_handed : (t : Terms) (old new child : HeadsWork) (m : MemberWalk) (judged : Option Errno) (x : Frame) → ShowsWalk old.walk (Member m)
    → new.walk ≡ with_members old.walk (old.walk.members ++ None ∷ [])
    → slots_of new.walk ≡ slots_of old.walk ++ IsOut None ∷ [] → new.heads.items ≡ filter (λ h. not (is_under m.path h)) old.heads.items
    → child.walk ≡ fresh_walk old.walk.claim m.levels m.path m.bp judged
    → ((heads : List Head) → left_of_walk heads child.walk ≡ plan t (ReadHeads (look_of old.walk.claim heads) m.levels m.path m.bp))
    → child.heads.items ≡ filter (is_under m.path) old.heads.items → IsHeadsWork t old x → HandsBelow t new child x
below_handed t old new child m judged x shows is slots rest child_is left under h =
    let look : Look = look_of old.walk.claim h.heads in
    let op : Task = walk_task look child in
    let named : op ≡ ReadHeads look m.levels m.path m.bp = ap (λ (k : Walking). ReadHeads look k.levels k.path k.bp) child_is in
    let number : length old.walk.members ≡ m.n = shows.1 in
    let at : m.path ≡ old.walk.path ++ length old.walk.members ∷ [] = shows.2 ∙ ap (λ n. old.walk.path ++ n ∷ []) (sym number) in
    let more : length (old.walk.members ++ None ∷ []) ≡ length old.walk.members + 1 = length-append old.walk.members (None ∷ []) in
    let theirs : AreKeptFor child.heads.items h.heads m.path 0 =
    subst (λ hs. AreKeptFor hs h.heads m.path 0) (sym under) (subst (λ p. AreKeptFor (filter (is_under p) old.heads.items) h.heads p 0) (sym at) (kept_below old.heads.items h.heads old.walk.path (length old.walk.members) h.kept)) in
    record {
      look = look;
      asks = subst (AsksNext t x) (sym named) (asks_work t x (slots_of old.walk) (walking_from h.heads old.walk) (ReadHeads look m.levels m.path m.bp) h.slots h.plan h.out (shows.7 h.heads));
      below = subst (λ q. IsHeadsWork t child (fresh_frame q)) (sym named) (fresh_heads t child old.walk.claim m.levels m.path m.bp judged h.heads child_is (left h.heads) theirs);
      after =
          moved t old new x (with_asked x op (IsOut None)) old.walk.header (old.walk.members ++ None ∷ []) h is refl
          (ap (λ s. s ++ IsOut None ∷ []) h.slots ∙ sym slots)
          (record { lengths = more_full x.asked x.slots op (IsOut None) h.full.lengths })
          (part_out op None x.asked x.slots h.full.lengths tt h.out)
          (more_asked look old.walk.path old.walk.bp (named_by old.walk.header) x.asked (length old.walk.members) op
          (many_asked x old.walk.header old.walk.members (omega (arith, shows.0)) h.slots h.full.lengths)
          (record {
            member = m.bp;
            levels = m.levels;
            named = ap (slice_get (named_by old.walk.header)) number ∙ shows.6;
            is = named ∙ ap (λ p. ReadHeads look m.levels p m.bp) at;
          }) h.asked)
          (λ heads k. subst (λ n. AreKeptFor new.heads.items heads old.walk.path n) (sym more)
          (subst (λ hs. AreKeptFor hs heads old.walk.path (length old.walk.members + 1)) (sym rest)
          (subst (λ p. AreKeptFor (filter (λ h. not (is_under p h)) old.heads.items) heads old.walk.path (length old.walk.members + 1)) (sym at)
          (kept_beside old.heads.items heads old.walk.path (length old.walk.members) k))));
    }

-- ---- it hears

-- only the header's read is its first operation that is out
pub out_header : (header : Header) (members : List (Option Walked)) → slice_get (walk_slots header members) 0 ≡ Some (IsOut None) → header ≡ Out
out_header Unread members e = absurd (cc)
out_header Out members e = refl
out_header (Failed f) members e = absurd (cc)
out_header (Read bytes) members e = absurd (cc)

out_at : (members : List (Option Walked)) (n : ℕ) → slice_get (map member_slot members) n ≡ Some (IsOut None) → slice_get members n ≡ Some None
out_at [] n e = absurd (cc)
out_at (None ∷ members) zero e = refl
out_at (Some w ∷ members) zero e = absurd (cc)
out_at (x ∷ members) (suc n) e = out_at members n e

pub out_member : (header : Header) (members : List (Option Walked)) (n : ℕ) → slice_get (walk_slots header members) (suc n) ≡ Some (IsOut None)
    → slice_get members n ≡ Some None
out_member Unread members n e = absurd (cc)
out_member Out members n e = absurd (cc)
out_member (Failed f) members n e = absurd (cc)
out_member (Read bytes) members n e = out_at members n e

pub head_heard : (t : Terms) (old new : HeadsWork) (found : Answer) (x : Frame) → old.walk.header ≡ Out → new.walk ≡ with_header old.walk (header_by found)
    → slots_of new.walk ≡ set (slots_of old.walk) 0 (Heard (Got found))
    → new.heads ≡ old.heads → IsHeadsWork t old x → IsHeadsWork t new (with_slot x 0 (Heard (Got found)))
head_heard t old new found x out is slots same h =
    let one : length x.asked ≡ 1 = h.full.lengths ∙ ap length h.slots ∙ ap (λ k. length (walk_slots k old.walk.members)) out in
    moved t old new x (with_slot x 0 (Heard (Got found))) (header_by found) old.walk.members h is refl
    (ap (λ s. set s 0 (Heard (Got found))) h.slots ∙ sym slots)
    (record { lengths = set_full x.asked x.slots 0 (Heard (Got found)) h.full.lengths })
    (part_heard 0 (Got found) x.asked x.slots h.out)
    (only_head (look_of old.walk.claim h.heads) old.walk.path old.walk.bp (named_by old.walk.header) (named_by (header_by found)) x.asked one h.asked)
    (λ heads k. subst (λ hs. AreKeptFor hs heads old.walk.path (length old.walk.members)) (sym (ap (λ v. v.items) same)) k)

pub below_heard : (t : Terms) (old new : HeadsWork) (k n : ℕ) (walked : Walked) (x : Frame) → k + 1 ≡ n
    → new.walk ≡ with_members old.walk (set old.walk.members k (Some walked))
    → slots_of new.walk ≡ set (slots_of old.walk) (k + 1) (Heard (WalkedBy walked)) → new.heads ≡ old.heads → IsHeadsWork t old x
    → IsHeadsWork t new (with_slot x n (Heard (WalkedBy walked)))
below_heard t old new k n walked x number is slots same h =
    moved t old new x (with_slot x n (Heard (WalkedBy walked))) old.walk.header (set old.walk.members k (Some walked)) h is refl
    (ap (λ s. set s n (Heard (WalkedBy walked))) h.slots ∙ ap (λ i. set (slots_of old.walk) i (Heard (WalkedBy walked))) (sym number) ∙ sym slots)
    (record { lengths = set_full x.asked x.slots n (Heard (WalkedBy walked)) h.full.lengths })
    (part_heard n (WalkedBy walked) x.asked x.slots h.out)
    h.asked
    (λ heads kept. subst (AreKeptFor new.heads.items heads old.walk.path) (sym (length-set old.walk.members k (Some walked)))
    (subst (λ hs. AreKeptFor hs heads old.walk.path (length old.walk.members)) (sym (ap (λ v. v.items) same)) kept))
