-- What a disk in memory with a volatile cache keeps, round one of its calls.
use Rattle.std.proofs.Common.{◌≡◌, ℕ, ◌+◌, ◌-◌, ◌<◌, ◌≤◌, List, [], ◌∷◌, ◌++◌, length, get_or, take, drop, ◌⊎◌, inl, inr, Result, Ok, Err, OnOk, OnErr, refl, ap, sym, ◌∙◌, subst, arith, length-append, length-drop}
use Rattle.std.proofs.lemmas.Bool.{cases_lt}
use Rattle.std.proofs.lemmas.List.{get_or_append_left, get_or-append_right, get_or-take, get_or-drop, length-take-le}
use Rattle.zio_types.specs.Bytes.{overwritten}
use Rattle.zio_outside.specs.Crash.{IsCrash, IsWritten, written_of}
use Rattle.zio_outside.specs.Memory.{told}
use Rattle.zio_outside.specs.MemorySync.{SyncLeftSince, SyncWent, sync_before, sync_image, sync_log, sync_moment, sync_stable}
use Rattle.zio_outside.specs.MemorySyncLaws.{LeftSince-failed, LeftSince-on, LeftSince-sync, LeftSince-synced, replayed-append}
use Rattle.zio_outside.specs.Outside.{WritesAt}
use Rattle.zio_outside.specs.Replay.{LeftSince, ranges_after, replayed}
use Rattle.zio_outside.specs.declared.mem_sync_disk.MemSyncDisk.{MemSyncDisk}
use Rattle.zio_outside.specs.declared.mem_sync_disk.Recorded.{Recorded}
use Rattle.zio_outside.specs.declared.mem_sync_disk.Recorded.TheVariants.{Sync, FailedSync}
use Rattle.zio_outside.specs.declared.written.Written.{Written}

-- the replay of one call more
pub replayed-more : (log more : List Recorded) (call : Recorded) (ranges : List Written) → ranges ≡ replayed [] log
    → more ≡ log ++ call ∷ [] → ranges_after ranges call ≡ replayed [] more
replayed-more log more call ranges is added =
    ap (λ (rs : List Written). ranges_after rs call) is
    ∙ (sym (replayed-append [] log (call ∷ [])) ∙ ap (replayed []) (sym added))

-- ---- the image round a write

IsWritten-left : (ranges more : List Written) (place : ℕ) → IsWritten ranges place → IsWritten (ranges ++ more) place
IsWritten-left [] more place there = absurd there
IsWritten-left (range ∷ ranges) more place there = elim there [
  | inl here ↦ inl here
  | inr later ↦ inr (IsWritten-left ranges more place later)
]

IsWritten-right : (ranges more : List Written) (place : ℕ) → IsWritten more place → IsWritten (ranges ++ more) place
IsWritten-right [] more place there = there
IsWritten-right (range ∷ ranges) more place there = inr (IsWritten-right ranges more place there)

-- a stable image is what a crash leaves
pub IsCrash-stable : (stable : List ℕ) (ranges : List Written) (image : List ℕ) → stable ≡ image
    → IsCrash stable ranges image
IsCrash-stable stable ranges image is =
    subst (λ (content : List ℕ). IsCrash stable ranges content) is (record { size = refl; outside = λ place none. refl })

pub IsCrash-same : (stable : List ℕ) (ranges : List Written) (old new : List ℕ) → new ≡ old → IsCrash stable ranges old
    → IsCrash stable ranges new
IsCrash-same stable ranges old new same crash = subst (λ (image : List ℕ). IsCrash stable ranges image) (sym same) crash

IsCrash-more : (stable : List ℕ) (ranges more : List Written) (image : List ℕ) → IsCrash stable ranges image
    → IsCrash stable (ranges ++ more) image
IsCrash-more stable ranges more image crash = record {
  size = crash.size;
  outside = λ place none. crash.outside place (λ there. none (IsWritten-left ranges more place there));
}

length-overwritten : (image piece : List ℕ) (at : ℕ) → at + length piece ≤ length image
    → length (overwritten image at piece) ≡ length image
length-overwritten image piece at fits =
    let front : at ≤ length image = omega arith in
    omega (
      arith,
      length-append (take at image ++ piece) (drop (at + length piece) image),
      length-append (take at image) piece,
      length-take-le at image front,
      length-drop (at + length piece) image,
    )

before_piece : (image piece : List ℕ) (at place : ℕ) → at + length piece ≤ length image → place < at
    → get_or (overwritten image at piece) place 0 ≡ get_or image place 0
before_piece image piece at place fits before =
    let front : length (take at image) ≡ at = length-take-le at image (omega arith) in
    get_or_append_left (take at image ++ piece) (drop (at + length piece) image) 0 place
    (omega (arith, length-append (take at image) piece))
    ∙ (get_or_append_left (take at image) piece 0 place (omega arith) ∙ get_or-take at image place 0 before)

after_piece : (image piece : List ℕ) (at place : ℕ) → at + length piece ≤ length image → at + length piece ≤ place
    → get_or (overwritten image at piece) place 0 ≡ get_or image place 0
after_piece image piece at place fits after =
    let front : length (take at image) ≡ at = length-take-le at image (omega arith) in
    let len : length (take at image ++ piece) ≡ at + length piece = omega (arith, length-append (take at image) piece) in
    let same : (at + length piece) + (place - (at + length piece)) ≡ place = omega arith in
    get_or-append_right (take at image ++ piece) (drop (at + length piece) image) (at + length piece) place 0 len after
    ∙ (get_or-drop (at + length piece) image (place - (at + length piece)) 0 ∙ ap (λ (k : ℕ). get_or image k 0) same)

-- a write changes no byte outside its range
IsCrash-overwritten : (stable : List ℕ) (ranges : List Written) (image piece : List ℕ) (at : ℕ)
    → at + length piece ≤ length image → IsCrash stable ranges image
    → IsCrash stable (ranges ++ written_of at (length piece)) (overwritten image at piece)
IsCrash-overwritten stable ranges image piece at fits crash = record {
  size = length-overwritten image piece at fits ∙ crash.size;
  outside = λ place none.
      let old = crash.outside place (λ there. none (IsWritten-left ranges (written_of at (length piece)) place there)) in
      elim (cases_lt place at) [
        | inl before ↦ before_piece image piece at place fits before ∙ old
        | inr from ↦ elim (cases_lt place (at + length piece)) [
          | inl within ↦ absurd (none (IsWritten-right ranges (written_of at (length piece)) place (inl (from, within))))
          | inr after ↦ after_piece image piece at place fits after ∙ old
        ]
      ];
}

-- the image equals the stable one outside the ranges after a write, whatever it answered
pub IsCrash-written : {T E : Type 0} (answer : Result T E) (stable : List ℕ) (ranges more : List Written)
    (old new piece : List ℕ) (at : ℕ) → OnOk answer (WritesAt (told old) (told new) at piece) → OnErr answer (new ≡ old)
    → at + length piece ≤ length old → more ≡ ranges ++ written_of at (length piece) → IsCrash stable ranges old
    → IsCrash stable more new
IsCrash-written {T} {E} (Ok value) stable ranges more old new piece at ok failed fits added crash =
    subst (λ (rs : List Written). IsCrash stable rs new) (sym added)
    (subst (λ (image : List ℕ). IsCrash stable (ranges ++ written_of at (length piece)) image) (ok old refl)
    (IsCrash-overwritten stable ranges old piece at fits crash))
IsCrash-written {T} {E} (Err error) stable ranges more old new piece at ok failed fits added crash =
    subst (λ (rs : List Written). IsCrash stable rs new) (sym added)
    (subst (λ (image : List ℕ). IsCrash stable (ranges ++ written_of at (length piece)) image) (sym failed)
    (IsCrash-more stable ranges (written_of at (length piece)) old crash))

-- ---- crashes round a sync

pub failed_crash : (old : MemSyncDisk) (log : List Recorded) (earlier : MemSyncDisk) (asked : List Written)
    (content : List ℕ) → log ≡ sync_log old ++ FailedSync ∷ [] → SyncWent asked earlier old
    → LeftSince log (sync_stable old) (sync_before old) (sync_moment earlier) content
    → SyncLeftSince old (sync_moment earlier) content
failed_crash old log earlier asked content added went left =
    LeftSince-failed (sync_log old) (sync_stable old) (sync_before old) (sync_moment earlier) content
    (omega (arith, ap length went.log, length-append (sync_log earlier) went.calls))
    (subst (λ (cs : List Recorded). LeftSince cs (sync_stable old) (sync_before old) (sync_moment earlier) content) added left)

pub failed_earlier : (old : MemSyncDisk) (log : List Recorded) (t : ℕ) (content : List ℕ)
    → log ≡ sync_log old ++ FailedSync ∷ [] → SyncLeftSince old t content
    → LeftSince log (sync_stable old) (sync_before old) t content
failed_earlier old log t content added left =
    subst (λ (cs : List Recorded). LeftSince cs (sync_stable old) (sync_before old) t content) (sym added)
    (LeftSince-on (sync_log old) (FailedSync ∷ []) (sync_stable old) (sync_before old) t content refl left)

pub synced_crash : (old : MemSyncDisk) (log : List Recorded) (stable before : List ℕ) (earlier : MemSyncDisk)
    (asked : List Written) (content : List ℕ) → log ≡ sync_log old ++ Sync ∷ [] → stable ≡ sync_image old
    → before ≡ sync_stable old → SyncWent asked earlier old → LeftSince log stable before (sync_moment earlier) content
    → SyncLeftSince old (sync_moment earlier) content ⊎ (content ≡ sync_image old)
synced_crash old log stable before earlier asked content added is_stable is_before went left =
    let from = sync_moment earlier in
    let calls : log ≡ (sync_log earlier ++ went.calls) ++ Sync ∷ [] =
    added ∙ ap (λ (cs : List Recorded). cs ++ Sync ∷ []) went.log in
    let left_then : LeftSince ((sync_log earlier ++ went.calls) ++ Sync ∷ []) (sync_image old) (sync_stable old) from content =
    subst (λ (cs : List Recorded). LeftSince cs (sync_image old) (sync_stable old) from content) calls
    (subst (λ (st : List ℕ). LeftSince log st (sync_stable old) from content) is_stable
    (subst (λ (st : List ℕ). LeftSince log stable st from content) is_before left)) in
    elim (LeftSince-sync (sync_log earlier) went.calls (sync_stable old) (sync_before old) (sync_image old) content went.unsynced left_then) [
      | inl earlier_left ↦
          inl (subst (λ (cs : List Recorded). LeftSince cs (sync_stable old) (sync_before old) from content) (sym went.log) earlier_left)
      | inr image ↦ inr image
    ]

pub synced_earlier : (old : MemSyncDisk) (log : List Recorded) (stable before : List ℕ) (t : ℕ) (content : List ℕ)
    → log ≡ sync_log old ++ Sync ∷ [] → stable ≡ sync_image old → before ≡ sync_stable old
    → SyncLeftSince old t content → LeftSince log stable before t content
synced_earlier old log stable before t content added is_stable is_before left =
    subst (λ (cs : List Recorded). LeftSince cs stable before t content) (sym added)
    (subst (λ (st : List ℕ). LeftSince (sync_log old ++ Sync ∷ []) st before t content) (sym is_stable)
    (subst (λ (st : List ℕ). LeftSince (sync_log old ++ Sync ∷ []) (sync_image old) st t content) (sym is_before)
    (LeftSince-synced (sync_log old) (sync_stable old) (sync_before old) (sync_image old) t content old.before_size (sym old.kept.size) left)))
