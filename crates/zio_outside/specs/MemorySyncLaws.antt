-- The laws of a disk in memory with a volatile cache: what its calls leave, and what a crash between them may leave.
use Rattle.std.proofs.Common.{◌≡◌, ℕ, zero, suc, ◌+◌, ◌-◌, ◌≤◌, List, [], ◌∷◌, ◌++◌, length, take, drop, ◌⊎◌, inl, inr, refl, ap, sym, ◌∙◌, subst, arith, append_assoc, length-append}
use Rattle.std.proofs.lemmas.Bool.{cases_lt}
use Rattle.std.proofs.lemmas.List.{append-nil, ext_get_or, take-append-drop, take_all, drop_all, take_at, take-append-le, drop-append-le}
use Rattle.std.proofs.Math.Seq.{take-append-add, drop-append-add}
use Rattle.zio_outside.specs.Crash.{AfterWrites, IsCrash, IsPart}
use Rattle.zio_outside.specs.Memory.{told}
use Rattle.zio_outside.specs.MemorySync.{SyncKeeps, SyncLeftSince, SyncWent, sync_before, sync_image, sync_log, sync_moment, sync_stable}
use Rattle.zio_outside.specs.Replay.{LeftSince, WasStable, ranges_after, ranges_of, replayed, syncs_of}
use Rattle.zio_outside.specs.declared.mem_sync_disk.MemSyncDisk.{MemSyncDisk}
use Rattle.zio_outside.specs.declared.mem_sync_disk.Recorded.{Recorded}
use Rattle.zio_outside.specs.declared.mem_sync_disk.Recorded.TheVariants.{Read, Write, Sync, FailedSync}
use Rattle.zio_outside.specs.declared.written.Written.{Written}

-- ---- lists of calls

pub syncs_of-append : (calls more : List Recorded) → syncs_of (calls ++ more) ≡ syncs_of calls + syncs_of more
syncs_of-append [] more = omega arith
syncs_of-append (Read ∷ calls) more = syncs_of-append calls more
syncs_of-append (Write range ∷ calls) more = syncs_of-append calls more
syncs_of-append (Sync ∷ calls) more = omega (arith, syncs_of-append calls more)
syncs_of-append (FailedSync ∷ calls) more = syncs_of-append calls more

pub ranges_of-append : (calls more : List Recorded) → ranges_of (calls ++ more) ≡ ranges_of calls ++ ranges_of more
ranges_of-append [] more = refl
ranges_of-append (Read ∷ calls) more = ranges_of-append calls more
ranges_of-append (Write range ∷ calls) more = ap (λ (rs : List Written). range ∷ rs) (ranges_of-append calls more)
ranges_of-append (Sync ∷ calls) more = ranges_of-append calls more
ranges_of-append (FailedSync ∷ calls) more = ranges_of-append calls more

pub replayed-append : (ranges : List Written) (calls more : List Recorded)
    → replayed ranges (calls ++ more) ≡ replayed (replayed ranges calls) more
replayed-append ranges [] more = refl
replayed-append ranges (call ∷ calls) more = replayed-append (ranges_after ranges call) calls more

-- without a sync that succeeds, the ranges of the writes are added
pub replayed-unsynced : (ranges : List Written) (calls : List Recorded) → syncs_of calls ≡ 0
    → replayed ranges calls ≡ ranges ++ ranges_of calls
replayed-unsynced ranges [] none = sym (append-nil ranges)
replayed-unsynced ranges (Read ∷ calls) none = replayed-unsynced ranges calls none
replayed-unsynced ranges (Write range ∷ calls) none =
    replayed-unsynced (ranges ++ range ∷ []) calls none ∙ append_assoc ranges (range ∷ []) (ranges_of calls)
replayed-unsynced ranges (Sync ∷ calls) none = absurd (omega (arith, none))
replayed-unsynced ranges (FailedSync ∷ calls) none = replayed-unsynced ranges calls none

syncs_of-parts : (n : ℕ) (calls : List Recorded) → syncs_of (take n calls) + syncs_of (drop n calls) ≡ syncs_of calls
syncs_of-parts n calls = sym (syncs_of-append (take n calls) (drop n calls)) ∙ ap syncs_of (take-append-drop n calls)

none_taken : (n : ℕ) (calls : List Recorded) → syncs_of calls ≡ 0 → syncs_of (take n calls) ≡ 0
none_taken n calls none = omega (arith, syncs_of-parts n calls)

none_dropped : (n : ℕ) (calls : List Recorded) → syncs_of calls ≡ 0 → syncs_of (drop n calls) ≡ 0
none_dropped n calls none = omega (arith, syncs_of-parts n calls)

-- the ranges of the first calls are the first ranges
ranges_of-take : (n : ℕ) (calls : List Recorded)
    → ranges_of (take n calls) ≡ take (length (ranges_of (take n calls))) (ranges_of calls)
ranges_of-take n calls =
    let first = ranges_of (take n calls) in
    let rest = ranges_of (drop n calls) in
    let parts : first ++ rest ≡ ranges_of calls =
    sym (ranges_of-append (take n calls) (drop n calls)) ∙ ap ranges_of (take-append-drop n calls) in
    subst (λ (rs : List Written). first ≡ take (length first) rs) parts (sym (take_at first rest (length first) refl))

-- ---- parts of a list

IsPart-later : (part : List Written) (y : Written) (whole : List Written) → IsPart part whole → IsPart part (y ∷ whole)
IsPart-later [] y whole p = tt
IsPart-later (x ∷ part) y whole p = inr p

IsPart-append : (part whole more all : List Written) → IsPart part whole → IsPart more all
    → IsPart (part ++ more) (whole ++ all)
IsPart-append [] [] more all p q = q
IsPart-append [] (y ∷ whole) more all p q = IsPart-later more y (whole ++ all) (IsPart-append [] whole more all tt q)
IsPart-append (x ∷ part) [] more all p q = absurd p
IsPart-append (x ∷ part) (y ∷ whole) more all p q = elim p [
  | inl here ↦ inl (here.0, IsPart-append part whole more all here.1 q)
  | inr later ↦ inr (IsPart-append (x ∷ part) whole more all later q)
]

-- ---- what a crash may leave

-- without a range a crash leaves the stable image
IsCrash-none : (stable content : List ℕ) → IsCrash stable [] content → content ≡ stable
IsCrash-none stable content crash = ext_get_or 0 content stable crash.size (λ i within. crash.outside i (λ none. none))

-- calls among which no sync succeeds take nothing back
pub LeftSince-on : (calls more : List Recorded) (stable before : List ℕ) (from : ℕ) (content : List ℕ) → syncs_of more ≡ 0
    → LeftSince calls stable before from content → LeftSince (calls ++ more) stable before from content
LeftSince-on calls more stable before from content none left =
    let m = left.moment in
    let made = left.made in
    let count : syncs_of (drop m calls) ≡ syncs_of (drop m (calls ++ more)) =
    omega (arith, ap syncs_of (drop-append-le m calls more made), syncs_of-append (drop m calls) more) in
    record {
      moment = m;
      since = left.since;
      made = omega (arith, length-append calls more);
      stable_then = left.stable_then;
      was = subst (λ (n : ℕ). WasStable stable before n left.stable_then) count left.was;
      crash =
          subst (λ (cs : List Recorded). IsCrash left.stable_then (replayed [] cs) content)
          (sym (take-append-le m calls more made)) left.crash;
    }

-- a crash during such calls leaves what the first of their ranges allow
pub LeftSince-within : (calls more : List Recorded) (stable before content : List ℕ) → syncs_of more ≡ 0
    → LeftSince (calls ++ more) stable before (length calls) content
    → (n : ℕ) × IsCrash stable (replayed [] calls ++ take n (ranges_of more)) content
LeftSince-within calls more stable before content none left =
    let m = left.moment in
    let j = m - length calls in
    let since = left.since in
    let at : m ≡ length calls + j = omega arith in
    let count : syncs_of (drop m (calls ++ more)) ≡ 0 =
    ap (λ (k : ℕ). syncs_of (drop k (calls ++ more))) at ∙ (ap syncs_of (drop-append-add calls more j) ∙ none_dropped j more none) in
    let image : left.stable_then ≡ stable = subst (λ (n : ℕ). WasStable stable before n left.stable_then) count left.was in
    let n = length (ranges_of (take j more)) in
    let ranges : replayed [] (take m (calls ++ more)) ≡ replayed [] calls ++ take n (ranges_of more) =
    ap (λ (k : ℕ). replayed [] (take k (calls ++ more))) at
    ∙ (ap (replayed []) (take-append-add calls more j)
    ∙ (replayed-append [] calls (take j more)
    ∙ (replayed-unsynced (replayed [] calls) (take j more) (none_taken j more none)
    ∙ ap (λ (rs : List Written). replayed [] calls ++ rs) (ranges_of-take j more)))) in (
      n,
      subst (λ (rs : List Written). IsCrash stable rs content) ranges
          (subst (λ (st : List ℕ). IsCrash st (replayed [] (take m (calls ++ more))) content) image left.crash),
    )

-- a crash now is one of those since
pub LeftSince-now : (calls : List Recorded) (stable before : List ℕ) (from : ℕ) (content : List ℕ) → from ≤ length calls
    → IsCrash stable (replayed [] calls) content → LeftSince calls stable before from content
LeftSince-now calls stable before from content since crash = record {
  moment = length calls;
  since = since;
  made = omega arith;
  stable_then = stable;
  was =
      subst (λ (cs : List Recorded). WasStable stable before (syncs_of cs) stable)
      (sym (drop_all (length calls) calls (omega arith))) refl;
  crash =
      subst (λ (cs : List Recorded). IsCrash stable (replayed [] cs) content)
      (sym (take_all (length calls) calls (omega arith))) crash;
}

-- a sync that failed changes nothing
pub LeftSince-failed : (calls : List Recorded) (stable before : List ℕ) (from : ℕ) (content : List ℕ) → from ≤ length calls
    → LeftSince (calls ++ FailedSync ∷ []) stable before from content → LeftSince calls stable before from content
LeftSince-failed calls stable before from content since left = elim (cases_lt (length calls) left.moment) [
  | inr made ↦ (
      let m = left.moment in
      let count : syncs_of (drop m (calls ++ FailedSync ∷ [])) ≡ syncs_of (drop m calls) =
      omega (arith, ap syncs_of (drop-append-le m calls (FailedSync ∷ []) made), syncs_of-append (drop m calls) (FailedSync ∷ [])) in
      record {
        moment = m;
        since = left.since;
        made = made;
        stable_then = left.stable_then;
        was = subst (λ (n : ℕ). WasStable stable before n left.stable_then) count left.was;
        crash =
            subst (λ (cs : List Recorded). IsCrash left.stable_then (replayed [] cs) content)
            (take-append-le m calls (FailedSync ∷ []) made) left.crash;
      })
  | inl past ↦ (
      let all = calls ++ FailedSync ∷ [] in
      let end : length all ≤ left.moment = omega (arith, length-append calls (FailedSync ∷ [])) in
      let then : left.stable_then ≡ stable =
      subst (λ (cs : List Recorded). WasStable stable before (syncs_of cs) left.stable_then) (drop_all left.moment all end) left.was in
      let ranges : replayed [] (take left.moment all) ≡ replayed [] calls =
      ap (replayed []) (take_all left.moment all end) ∙ replayed-append [] calls (FailedSync ∷ []) in
      LeftSince-now calls stable before from content since
      (subst (λ (rs : List Written). IsCrash stable rs content) ranges
      (subst (λ (st : List ℕ). IsCrash st (replayed [] (take left.moment all)) content) then left.crash)))
]

WasStable-synced : (stable before image : List ℕ) (n : ℕ) (content : List ℕ) → length before ≡ length stable
    → length stable ≡ length image → WasStable stable before n content → WasStable image stable (suc n) content
WasStable-synced stable before image zero content sizes size was = was
WasStable-synced stable before image (suc zero) content sizes size was = ap length was ∙ (sizes ∙ size)
WasStable-synced stable before image (suc (suc n)) content sizes size was = was ∙ size

-- a sync that succeeds takes nothing back
pub LeftSince-synced : (calls : List Recorded) (stable before image : List ℕ) (from : ℕ) (content : List ℕ)
    → length before ≡ length stable → length stable ≡ length image
    → LeftSince calls stable before from content → LeftSince (calls ++ Sync ∷ []) image stable from content
LeftSince-synced calls stable before image from content sizes size left =
    let m = left.moment in
    let made = left.made in
    let count : suc (syncs_of (drop m calls)) ≡ syncs_of (drop m (calls ++ Sync ∷ [])) =
    omega (arith, ap syncs_of (drop-append-le m calls (Sync ∷ []) made), syncs_of-append (drop m calls) (Sync ∷ [])) in
    record {
      moment = m;
      since = left.since;
      made = omega (arith, length-append calls (Sync ∷ []));
      stable_then = left.stable_then;
      was =
          subst (λ (n : ℕ). WasStable image stable n left.stable_then) count
          (WasStable-synced stable before image (syncs_of (drop m calls)) left.stable_then sizes size left.was);
      crash =
          subst (λ (cs : List Recorded). IsCrash left.stable_then (replayed [] cs) content)
          (sym (take-append-le m calls (Sync ∷ []) made)) left.crash;
    }

-- a crash since a moment after which no sync succeeded, or in the sync that did
pub LeftSince-sync : (calls more : List Recorded) (stable before image content : List ℕ) → syncs_of more ≡ 0
    → LeftSince ((calls ++ more) ++ Sync ∷ []) image stable (length calls) content
    → LeftSince (calls ++ more) stable before (length calls) content ⊎ (content ≡ image)
LeftSince-sync calls more stable before image content none left = elim (cases_lt (length (calls ++ more)) left.moment) [
  | inr made ↦ inl (
      let m = left.moment in
      let j = m - length calls in
      let since = left.since in
      let at : m ≡ length calls + j = omega arith in
      let later : syncs_of (drop m (calls ++ more)) ≡ 0 =
      ap (λ (k : ℕ). syncs_of (drop k (calls ++ more))) at ∙ (ap syncs_of (drop-append-add calls more j) ∙ none_dropped j more none) in
      let count : syncs_of (drop m ((calls ++ more) ++ Sync ∷ [])) ≡ 1 =
      omega (arith, ap syncs_of (drop-append-le m (calls ++ more) (Sync ∷ []) made), syncs_of-append (drop m (calls ++ more)) (Sync ∷ [])) in
      let then : left.stable_then ≡ stable = subst (λ (n : ℕ). WasStable image stable n left.stable_then) count left.was in
      record {
        moment = m;
        since = since;
        made = made;
        stable_then = left.stable_then;
        was = subst (λ (n : ℕ). WasStable stable before n left.stable_then) (sym later) then;
        crash =
            subst (λ (cs : List Recorded). IsCrash left.stable_then (replayed [] cs) content)
            (take-append-le m (calls ++ more) (Sync ∷ []) made) left.crash;
      })
  | inl past ↦ inr (
      let all = (calls ++ more) ++ Sync ∷ [] in
      let end : length all ≤ left.moment = omega (arith, length-append (calls ++ more) (Sync ∷ [])) in
      let then : left.stable_then ≡ image =
      subst (λ (cs : List Recorded). WasStable image stable (syncs_of cs) left.stable_then) (drop_all left.moment all end) left.was in
      let ranges : replayed [] (take left.moment all) ≡ [] =
      ap (replayed []) (take_all left.moment all end) ∙ replayed-append [] (calls ++ more) (Sync ∷ []) in
      IsCrash-none image content
      (subst (λ (rs : List Written). IsCrash image rs content) ranges
      (subst (λ (st : List ℕ). IsCrash st (replayed [] (take left.moment all)) content) then left.crash)))
]

-- ---- the laws

pub SyncWent-itself : (disk : MemSyncDisk) → SyncWent [] disk disk
SyncWent-itself disk = record {
  calls = [];
  log = sym (append-nil (sync_log disk));
  unsynced = refl;
  part = tt;
  stable = refl;
  before = refl;
}

pub SyncWent-then : (first then : List Written) (a b c : MemSyncDisk) → SyncWent first a b → SyncWent then b c
    → SyncWent (first ++ then) a c
SyncWent-then first then a b c went more = record {
  calls = went.calls ++ more.calls;
  log =
      more.log ∙ (ap (λ (cs : List Recorded). cs ++ more.calls) went.log ∙ append_assoc (sync_log a) went.calls more.calls);
  unsynced = omega (arith, syncs_of-append went.calls more.calls, went.unsynced, more.unsynced);
  part =
      subst (λ (rs : List Written). IsPart rs (first ++ then)) (sym (ranges_of-append went.calls more.calls))
      (IsPart-append (ranges_of went.calls) first (ranges_of more.calls) then went.part more.part);
  stable = more.stable ∙ went.stable;
  before = more.before ∙ went.before;
}

-- what it left since, told of the state before
back : (old new : MemSyncDisk) (asked : List Written) (from : ℕ) (content : List ℕ) (went : SyncWent asked old new)
    → SyncLeftSince new from content
    → LeftSince (sync_log old ++ went.calls) (sync_stable old) (sync_before old) from content
back old new asked from content went left =
    subst (λ (cs : List Recorded). LeftSince cs (sync_stable old) (sync_before old) from content) went.log
    (subst (λ (st : List ℕ). LeftSince (sync_log new) st (sync_before old) from content) went.stable
    (subst (λ (st : List ℕ). LeftSince (sync_log new) (sync_stable new) st from content) went.before left))

forth : (old new : MemSyncDisk) (asked : List Written) (from : ℕ) (content : List ℕ) (went : SyncWent asked old new)
    → LeftSince (sync_log old ++ went.calls) (sync_stable old) (sync_before old) from content
    → SyncLeftSince new from content
forth old new asked from content went left =
    subst (λ (st : List ℕ). LeftSince (sync_log new) (sync_stable new) st from content) (sym went.before)
    (subst (λ (st : List ℕ). LeftSince (sync_log new) st (sync_before old) from content) (sym went.stable)
    (subst (λ (cs : List Recorded). LeftSince cs (sync_stable old) (sync_before old) from content) (sym went.log) left))

pub SyncWent-means : (asked ranges : List Written) (stable : List ℕ) (old new : MemSyncDisk) → SyncWent asked old new
    → SyncKeeps old stable ranges → AfterWrites SyncKeeps sync_moment SyncLeftSince stable ranges asked old new
SyncWent-means asked ranges stable old new went kept =
    let calls = went.calls in
    let at : ranges ≡ replayed [] (sync_log old) = kept.1 ∙ old.replays in
    record {
      written = ranges_of calls;
      part = went.part;
      kept = (
        kept.0 ∙ sym went.stable,
        ap (λ (rs : List Written). rs ++ ranges_of calls) at
            ∙ (sym (replayed-unsynced (replayed [] (sync_log old)) calls went.unsynced)
            ∙ (sym (replayed-append [] (sync_log old) calls) ∙ (ap (replayed []) (sym went.log) ∙ sym new.replays))),
      );
      later = omega (arith, ap length went.log, length-append (sync_log old) calls);
      since = λ image left. (
          let within = LeftSince-within (sync_log old) calls (sync_stable old) (sync_before old) image went.unsynced (back old new asked (sync_moment old) image went left) in (
            within.0,
            subst (λ (st : List ℕ). IsCrash st (ranges ++ take within.0 (ranges_of calls)) image) (sym kept.0)
                (subst (λ (rs : List Written). IsCrash (sync_stable old) (rs ++ take within.0 (ranges_of calls)) image) (sym at) within.1),
          ));
      earlier = λ t image left. forth old new asked t image went
          (LeftSince-on (sync_log old) calls (sync_stable old) (sync_before old) t image went.unsynced left);
    }

pub SyncKeeps-one : (disk : MemSyncDisk) (a b : List ℕ) (xs ys : List Written) → SyncKeeps disk a xs → SyncKeeps disk b ys
    → (a ≡ b) × (xs ≡ ys)
SyncKeeps-one disk a b xs ys kept other = (kept.0 ∙ sym other.0, kept.1 ∙ sym other.1)

pub SyncKeeps-image : (disk : MemSyncDisk) (content stable : List ℕ) (ranges : List Written)
    → told (sync_image disk) content → SyncKeeps disk stable ranges → IsCrash stable ranges content
SyncKeeps-image disk content stable ranges told_image kept =
    subst (λ (image : List ℕ). IsCrash stable ranges image) (sym told_image)
    (subst (λ (st : List ℕ). IsCrash st ranges (sync_image disk)) (sym kept.0)
    (subst (λ (rs : List Written). IsCrash (sync_stable disk) rs (sync_image disk)) (sym kept.1) disk.kept))

pub SyncKeeps-now : (disk : MemSyncDisk) (t : ℕ) (stable content : List ℕ) (ranges : List Written) → t ≤ sync_moment disk
    → SyncKeeps disk stable ranges → IsCrash stable ranges content → SyncLeftSince disk t content
SyncKeeps-now disk t stable content ranges now kept crash =
    LeftSince-now (sync_log disk) (sync_stable disk) (sync_before disk) t content now
    (subst (λ (st : List ℕ). IsCrash st (replayed [] (sync_log disk)) content) kept.0
    (subst (λ (rs : List Written). IsCrash stable rs content) (kept.1 ∙ disk.replays) crash))
