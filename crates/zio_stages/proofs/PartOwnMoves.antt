-- The write of a part as a node's part: what it hands out, and what it hears.
use Rattle.std.proofs.Common.{◌≡◌, ℕ, zero, suc, ◌+◌, ◌-◌, ◌*◌, ◌^◌, ◌<◌, ◌≤◌, List, [], ◌∷◌, ◌++◌, length, set, slice_get, true, false, Option, Some, None, refl, sym, ap, subst, ◌∙◌, arith, length-append, length-set}
use Rattle.std.specs.List.{AllByRecursion}
use Rattle.std.proofs.lemmas.Bool.{false≢true}
use Rattle.zio_types.specs.declared.error.Errno.{Errno}
use Rattle.zio_types.specs.declared.place.Place.{Place}
use Rattle.zio_types.specs.Choices.{Ask}
use Rattle.zio_blkptr.specs.declared.pointer.Bp.{Bp}
use Rattle.zio_cksum.proofs.AllLemmas.{all_append}
use Rattle.zio_gang.specs.declared.tree.Head.{Head}
use Rattle.zio_gang.specs.Attempts.{Terms}
use Rattle.zio_trace.specs.Calls.{NextIs}
use Rattle.zio_trace.specs.Programs.{Ends}
use Rattle.zio_trace.specs.Tasks.{Find, Found, Stored, StoredAs, Task, WriteCopies, Wrote}
use Rattle.zio_frames.specs.Slots.{AllHeard, Heard, IsOut, Slot, left_behind_slots, told_in}
use Rattle.zio_frames.specs.Answering.{NextAnswered}
use Rattle.zio_parts.specs.Parts.{IsOfBytes, PartWriting, fresh_part, is_gang, is_head_due, left_of_part, member_bytes, member_count, places_at, slots_of, stored_by, writing_by}
use Rattle.zio_parts.specs.PartWrites.{IsAsk, handed_by, is_due, member_at, member_heard, member_told, own_at, own_heard, part_handed, placed_next, places_heard, step_of, stored_pointer, with_members, with_own}
use Rattle.zio_parts.specs.declared.members.Member.{Member}
use Rattle.zio_parts.specs.declared.members.Member.TheVariants.{Out as MemberOut, Told, Ended as MemberEnded}
use Rattle.zio_parts.specs.declared.parts.OwnWrite.TheVariants.{Due, Out as OwnOut, Ended as OwnEnded}
use Rattle.zio_parts.specs.declared.parts.PartStep.TheVariants.{WriteBody, WriteHeader, Member as MemberStep, End}
use Rattle.zio_parts.specs.declared.parts.StoredPart.{StoredPart}
use Rattle.zio_exchange.specs.Outcomes.{IsKept, stored_as}
use Rattle.zio_stages.specs.PartOwns.{ForBytes, HandsMember, HandsOut, IsKeptMember, IsPartOwn, PartAsks, ShowsOwn, WrittenPart, asks_in, level_below, member_of, part_plan, part_task}
use Rattle.zio_stages.specs.PartsOut.{ArePartsOut}
use Rattle.zio_stages.specs.declared.part.PartOwn.{PartOwn}
use Rattle.zio_stages.proofs.PartAsksLemmas.{header_asked, member_asked, member_set, own_set, placed_asks, placed_due}
use Rattle.zio_stages.proofs.PartHeader.{header_answered, no_member}
use Rattle.zio_stages.proofs.PartOwnLemmas.{asked_more, left_is, member_task, part_asks, part_moved}
use Rattle.zio_stages.proofs.PartSteps.{body_next, due_own, gang_header, gang_member}
use Rattle.zio_stages.proofs.PartsOutLemmas.{more_full, one_had, part_heard, part_out, part_told, set_full}

-- ---- a member

all_set : {X : Type 0} (P : X → Type 0) (xs : List X) (n : ℕ) (x : X) → AllByRecursion P xs → P x → AllByRecursion P (set xs n x)
all_set P [] n x h p = tt
all_set P (y ∷ xs) zero x h p = (p, h.1)
all_set P (y ∷ xs) (suc n) x h p = (h.0, all_set P xs n x h.1 p)

level_down : (levels k : ℕ) → k + levels ≡ 8 → (levels ≡ 0 → ⊥) → (k + 1 + level_below levels ≡ 8) × (7 - k ≡ level_below levels)
level_down zero k e some = absurd (some refl)
level_down (suc levels) k e some = (omega arith, omega arith)

some_levels : (t : Terms) (w : PartOwn) (o : WrittenPart) (asked : List Task) (slots : List Slot) (n : ℕ) → ShowsOwn w (MemberStep n)
    → IsPartOwn t w o asked slots → o.levels ≡ 0 → ⊥
some_levels t w o asked slots n next h none =
    let shows = next.shows t.setting (member_task o) o.bytes h.of_bytes in
    let small : length o.bytes ≤ 512 * 3 ^ 0 = subst (λ l. length o.bytes ≤ 512 * 3 ^ l) none h.deep in
    no_member (writing_by t.setting w.part.write) (member_task o) w.part.path o.bytes w.part.placing w.part _ shows.0 (omega arith) shows.2

-- nothing of the member's write is done
member_fresh : (t : Terms) (w child : PartOwn) (o : WrittenPart) (asked : List Task) (slots : List Slot) (n : ℕ) → ShowsOwn w (MemberStep n)
    → IsPartOwn t w o asked slots
    → child.part ≡ fresh_part w.part.write (w.part.path ++ n ∷ []) (member_bytes o.bytes n)
    → length (member_bytes o.bytes n) ≤ 512 * 3 ^ (7 - length w.part.path)
    → IsPartOwn t child (member_of o child.part.path (member_bytes o.bytes n)) [] []
member_fresh t w child o asked slots n next h is deep =
    let down = level_down o.levels (length o.path) h.levels (some_levels t w o asked slots n next h) in
    let longer : length child.part.path ≡ length w.part.path + 1 = ap (λ (x : PartWriting). length x.path) is ∙ length-append w.part.path (n ∷ []) in
    let there : length w.part.path ≡ length o.path = ap length h.path in
    let level : length o.path + 1 + level_below o.levels ≡ 8 = down.0 in
    record {
      writing = ap (λ (x : PartWriting). writing_by t.setting x.write) is ∙ h.writing;
      path = refl;
      of_bytes = subst (λ (x : PartWriting). IsOfBytes x (member_bytes o.bytes n)) (sym is) (record { size = refl; words = refl });
      shown = sym (ap slots_of is);
      asks = sym (ap asks_in is);
      full = refl;
      out = tt;
      levels = omega arith;
      deep = subst (λ l. length (member_bytes o.bytes n) ≤ 512 * 3 ^ l) (ap (λ k. 7 - k) there ∙ down.1) deep;
      few = subst (λ (x : PartWriting). length x.members ≤ member_count x) (sym is) (omega arith);
      headed = subst (λ (x : PartWriting). is_due x.own ≡ false → is_gang x.placing ≡ true → member_count x ≤ length x.members) (sym is) (λ no. absurd (false≢true (sym no)));
      kept = subst (λ (x : PartWriting). AllByRecursion IsKeptMember x.members) (sym is) tt;
    }

pub member_handed : (t : Terms) (old new child : PartOwn) (o : WrittenPart) (asked : List Task) (slots : List Slot) (n : ℕ)
    → ShowsOwn old (MemberStep n) → IsPartOwn t old o asked slots
    → new.part ≡ part_handed old.part → slots_of new.part ≡ slots_of old.part ++ IsOut None ∷ []
    → child.part ≡ fresh_part old.part.write (old.part.path ++ n ∷ []) (member_bytes o.bytes n)
    → length (member_bytes o.bytes n) ≤ 512 * 3 ^ (7 - length old.part.path)
    → HandsMember t new child o n asked slots
member_handed t old new child o asked slots n next h is more child_is deep =
    let op : Task = part_task (member_of o child.part.path (member_bytes o.bytes n)) in
    let shows = next.shows t.setting (member_task o) o.bytes h.of_bytes in
    let gang = gang_member old.part.placing old.part n next.is in
    let less : length old.part.members < member_count old.part = gang.next.less in
    let now : new.part ≡ with_members old.part (old.part.members ++ MemberOut ∷ []) = is ∙ ap (λ step. handed_by step old.part) (sym next.is) in
    let due : old.part.own ≡ Due = due_own old.part.own (λ no. let most : member_count old.part ≤ length old.part.members = h.headed no gang.gang in omega arith) in
    let longer : length (old.part.members ++ MemberOut ∷ []) ≡ length old.part.members + 1 = length-append old.part.members (MemberOut ∷ []) in
    let at : member_task o (old.part.path ++ n ∷ []) (member_bytes o.bytes n) ≡ op = ap (λ p. member_task o p (member_bytes o.bytes n)) (sym (ap (λ (x : PartWriting). x.path) child_is)) in
    record {
      out = (
        subst (PartAsks t o slots) at (part_asks t old o asked slots (member_task o (old.part.path ++ n ∷ []) (member_bytes o.bytes n)) h shows.2),
        part_moved t old new o asked (asked ++ op ∷ []) slots (slots ++ IsOut None ∷ []) old.part.placing (old.part.members ++ MemberOut ∷ []) old.part.own h now
            (ap (λ s. s ++ IsOut None ∷ []) h.shown ∙ sym more)
            (asked_more asked op old.part new.part h.asks (ap asks_in now ∙ member_asked old.part.placing old.part gang.gang due))
            (more_full asked slots op (IsOut None) h.full)
            (part_out op None asked slots h.full tt h.out)
            (omega arith)
            (λ no g. absurd (false≢true (sym no ∙ ap is_due due)))
            (all_append IsKeptMember old.part.members (MemberOut ∷ []) h.kept (tt, tt)),
      );
      member = member_fresh t old child o asked slots n next h child_is deep;
    }

-- ---- its own write

own_handed : (t : Terms) (old new : PartOwn) (o : WrittenPart) (asked : List Task) (slots : List Slot) (bytes : List ℕ) (places : List Place)
    → IsPartOwn t old o asked slots
    → new.part ≡ with_own old.part OwnOut → slots_of new.part ≡ slots_of old.part ++ IsOut None ∷ [] → asks_in new.part ≡ asks_in old.part ++ ForBytes ∷ []
    → (is_gang old.part.placing ≡ true → member_count old.part ≤ length old.part.members)
    → IsPartOwn t new o (asked ++ WriteCopies bytes places ∷ []) (slots ++ IsOut None ∷ [])
own_handed t old new o asked slots bytes places h is more asks all =
    part_moved t old new o asked (asked ++ WriteCopies bytes places ∷ []) slots (slots ++ IsOut None ∷ []) old.part.placing old.part.members OwnOut h is
    (ap (λ s. s ++ IsOut None ∷ []) h.shown ∙ sym more)
    (asked_more asked (WriteCopies bytes places) old.part new.part h.asks asks)
    (more_full asked slots (WriteCopies bytes places) (IsOut None) h.full)
    (part_out (WriteCopies bytes places) None asked slots h.full tt h.out)
    h.few
    (λ no. all)
    h.kept

pub body_handed : (t : Terms) (old new : PartOwn) (o : WrittenPart) (asked : List Task) (slots : List Slot) → ShowsOwn old WriteBody
    → IsPartOwn t old o asked slots
    → new.part ≡ part_handed old.part → slots_of new.part ≡ slots_of old.part ++ IsOut None ∷ []
    → HandsOut t new o asked slots (WriteCopies o.bytes (places_at old.part.placing))
body_handed t old new o asked slots next h is more =
    let now : new.part ≡ with_own old.part OwnOut = is ∙ ap (λ step. handed_by step old.part) (sym next.is) in
    let whole = body_next old.part.placing old.part next.is in (
      part_asks t old o asked slots (WriteCopies o.bytes (places_at old.part.placing)) h (next.shows t.setting (member_task o) o.bytes h.of_bytes),
      own_handed t old new o asked slots o.bytes (places_at old.part.placing) h now more (ap asks_in now ∙ whole.asks) (λ g. absurd (false≢true (sym whole.whole ∙ g))),
    )

pub header_handed : (t : Terms) (old new : PartOwn) (o : WrittenPart) (asked : List Task) (slots : List Slot) (bytes : List ℕ)
    → ShowsOwn old WriteHeader → IsPartOwn t old o asked slots
    → new.part ≡ part_handed old.part → slots_of new.part ≡ slots_of old.part ++ IsOut None ∷ []
    → NextIs stored_pointer (told_in (slots_of old.part)) (left_of_part t.setting (member_task o) o.bytes old.part) (WriteCopies bytes (places_at old.part.placing))
    → HandsOut t new o asked slots (WriteCopies bytes (places_at old.part.placing))
header_handed t old new o asked slots bytes next h is more shows =
    let op : Task = WriteCopies bytes (places_at old.part.placing) in
    let now : new.part ≡ with_own old.part OwnOut = is ∙ ap (λ step. handed_by step old.part) (sym next.is) in
    let gang = gang_header old.part.placing old.part next.is in
    let asks : NextAnswered (told_in (slots_of old.part)) (left_of_part t.setting (member_task o) o.bytes old.part) op =
    header_answered (member_task o) (λ path part. tt) t.setting o.bytes old.part.placing old.part op gang.gang gang.due h.of_bytes.size h.few shows in (
      subst (λ p. NextAnswered (told_in slots) p op) (sym (left_is t old o asked slots h)) (subst (λ s. NextAnswered (told_in s) (left_of_part t.setting (member_task o) o.bytes old.part) op) (sym h.shown) asks),
      own_handed t old new o asked slots bytes (places_at old.part.placing) h now more (ap asks_in now ∙ header_asked old.part.placing old.part gang.gang gang.due) (λ g. gang.all),
    )

-- ---- what is heard

pub placed : (t : Terms) (old new : PartOwn) (o : WrittenPart) (asked : List Task) (slots : List Slot) (a : Ask) (places : Option (List Place))
    → IsAsk (step_of old.part) → IsPartOwn t old o asked slots
    → new.part ≡ places_heard old.part places → slots_of new.part ≡ slots_of old.part ++ Heard (Found places) ∷ []
    → IsPartOwn t new o (asked ++ Find a ∷ []) (slots ++ Heard (Found places) ∷ [])
placed t old new o asked slots a places ask h is more =
    part_moved t old new o asked (asked ++ Find a ∷ []) slots (slots ++ Heard (Found places) ∷ []) (placed_next (is_head_due old.part.placing) old.part.size places) old.part.members old.part.own h is
    (ap (λ s. s ++ Heard (Found places) ∷ []) h.shown ∙ sym more)
    (asked_more asked (Find a) old.part new.part h.asks (ap asks_in is ∙ placed_asks old.part.placing old.part places ask (sym (ap slots_of is) ∙ more)))
    (more_full asked slots (Find a) (Heard (Found places)) h.full)
    (one_had (Find a) (Found places) asked slots h.full h.out)
    h.few
    (λ no g. absurd (false≢true (sym no ∙ ap is_due (placed_due old.part.placing old.part places ask (sym (ap slots_of is) ∙ more) g))))
    h.kept

member_goes : (t : Terms) (old new : PartOwn) (o : WrittenPart) (asked : List Task) (slots : List Slot) (n k : ℕ) (m : Member) (slot : Slot)
    → IsPartOwn t old o asked slots → 2 ≤ n → k ≡ n - 2
    → new.part ≡ with_members old.part (set old.part.members k m) → slots_of new.part ≡ set (slots_of old.part) (member_at k) slot
    → ArePartsOut asked (set slots n slot) → IsKeptMember m
    → IsPartOwn t new o asked (set slots n slot)
member_goes t old new o asked slots n k m slot h behind number is more out kept =
    let at : n ≡ member_at k = omega arith in
    let same : length (set old.part.members k m) ≡ length old.part.members = length-set old.part.members k m in
    let few = h.few in
    part_moved t old new o asked asked slots (set slots n slot) old.part.placing (set old.part.members k m) old.part.own h is
    (ap (λ s. set s n slot) h.shown ∙ ap (λ i. set (slots_of old.part) i slot) at ∙ sym more)
    (h.asks ∙ sym (ap asks_in is ∙ member_set old.part.placing old.part k m))
    (set_full asked slots n slot h.full)
    out
    (omega arith)
    (λ no g. let most : member_count old.part ≤ length old.part.members = h.headed no g in omega arith)
    (all_set IsKeptMember old.part.members k m h.kept kept)

pub told : (t : Terms) (old new : PartOwn) (o : WrittenPart) (asked : List Task) (slots : List Slot) (n k : ℕ) (pointer : Option Bp)
    → IsPartOwn t old o asked slots → 2 ≤ n → k ≡ n - 2
    → slice_get (slots_of old.part) n ≡ Some (IsOut None) → new.part ≡ member_told old.part k pointer
    → slots_of new.part ≡ set (slots_of old.part) (member_at k) (IsOut (Some pointer))
    → IsPartOwn t new o asked (set slots n (IsOut (Some pointer)))
told t old new o asked slots n k pointer h behind number there is more =
    member_goes t old new o asked slots n k (Told pointer) (IsOut (Some pointer)) h behind number is more
    (part_told n (Some pointer) None asked slots (ap (λ s. slice_get s n) h.shown ∙ there) h.out) tt

pub member_ended : (t : Terms) (old new : PartOwn) (o : WrittenPart) (asked : List Task) (slots : List Slot) (n k : ℕ) (error : Option Errno) (pointer : Option Bp) (heads : List Head)
    → IsPartOwn t old o asked slots → 2 ≤ n → k ≡ n - 2
    → new.part ≡ member_heard old.part k error pointer heads
    → slots_of new.part ≡ set (slots_of old.part) (member_at k) (Heard (StoredAs (record { error = error; pointer = pointer; heads = heads })))
    → IsKept pointer heads
    → IsPartOwn t new o asked (set slots n (Heard (StoredAs (record { error = error; pointer = pointer; heads = heads }))))
member_ended t old new o asked slots n k error pointer heads h behind number is more kept =
    member_goes t old new o asked slots n k (MemberEnded error pointer heads) (Heard (StoredAs (record { error = error; pointer = pointer; heads = heads }))) h behind number is more
    (part_heard n (StoredAs (record { error = error; pointer = pointer; heads = heads })) asked slots h.out) kept

pub written : (t : Terms) (old new : PartOwn) (o : WrittenPart) (asked : List Task) (slots : List Slot) (n : ℕ) (error : Option Errno)
    → IsPartOwn t old o asked slots → old.part.own ≡ OwnOut → n ≡ own_at old.part
    → new.part ≡ own_heard old.part error → slots_of new.part ≡ set (slots_of old.part) (own_at old.part) (Heard (Wrote error))
    → IsPartOwn t new o asked (set slots n (Heard (Wrote error)))
written t old new o asked slots n error h out number is more =
    part_moved t old new o asked asked slots (set slots n (Heard (Wrote error))) old.part.placing old.part.members (OwnEnded error) h is
    (ap (λ s. set s n (Heard (Wrote error))) h.shown ∙ ap (λ i. set (slots_of old.part) i (Heard (Wrote error))) number ∙ sym more)
    (h.asks ∙ sym (ap asks_in is ∙ own_set old.part.placing old.part error out))
    (set_full asked slots n (Heard (Wrote error)) h.full)
    (part_heard n (Wrote error) asked slots h.out)
    h.few
    (λ no. h.headed (ap is_due out))
    h.kept

-- ---- its end

pub left_behind_of : (x : Stored) (p : StoredPart) (P : Stored → Type 0) → P x → p.error ≡ x.error → p.pointer ≡ x.pointer → p.heads ≡ x.heads → P (stored_as p)
left_behind_of x p P h error pointer heads =
    let same : stored_as p ≡ x = λ i. record { error = error i; pointer = pointer i; heads = heads i } in
    subst P (sym same) h

pub own_ended : (t : Terms) (w : PartOwn) (o : WrittenPart) (asked : List Task) (slots : List Slot) → ShowsOwn w End → IsPartOwn t w o asked slots
    → AllHeard slots × (left_behind_slots slots (part_plan t o) ≡ Ends (StoredAs (stored_by w.part)))
own_ended t w o asked slots next h =
    let shows = next.shows t.setting (member_task o) o.bytes h.of_bytes in
    (subst AllHeard (sym h.shown) shows.0, left_is t w o asked slots h ∙ shows.1)
