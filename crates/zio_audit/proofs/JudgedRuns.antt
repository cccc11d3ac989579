-- What is judged of a run by the entries that a report spells: of one that came to its end, and of one that was stopped.
use Rattle.std.proofs.Common.{◌≡◌, ◌<◌, ℕ, List, [], ◌∷◌, ◌++◌, length, map, Bool, false, true, refl, sym, ap, ◌∙◌, subst, ⊎_elim, arith}
use Rattle.std.specs.Prelude.{◌↔◌, IfOk, IfSome, IsTrue, Option, None, Some, Result, Err, Ok, drop}
use Rattle.std.specs.List.{AllByRecursion, list_all}
use Rattle.std.proofs.lemmas.Bool.{and_from, true≢false}
use Rattle.std.proofs.lemmas.List.{append-nil, length-map}
use Rattle.zio_types.specs.declared.journal.Completion.{Completion}
use Rattle.zio_types.specs.declared.journal.Journal.{Journal}
use Rattle.zio_types.specs.declared.place.Top.{Top}
use Rattle.zio_types.specs.declared.place.TopSize.{TopSize}
use Rattle.zio_types.specs.Choices.{Choice}
use Rattle.zio_types.specs.Places.{is_lawful_top}
use Rattle.zio_outside.specs.declared.mem_disk.MemDisk.{MemDisk}
use Rattle.zio_outside.specs.Memory.{IsSoundDisk, IsSteady-below_max, disk_fails, disk_faults, disk_image, told}
use Rattle.zio_outside.specs.Outside.{AnyRose, Appends, count_max}
use Rattle.zio_script.specs.declared.script.Item.{Item}
use Rattle.zio_script.specs.declared.script.Script.{Script}
use Rattle.zio_script.specs.declared.script.TopLine.{TopLine}
use Rattle.zio_script.specs.Grammar.{IsScriptOf}
use Rattle.zio_script.specs.Requests.{requests_of}
use Rattle.zio_cksum.proofs.AllLemmas.{all_weaker}
use Rattle.zio_cksum.specs.Images.{Images as Leaves, Setting}
use Rattle.zio_gang.specs.declared.ending.Ending.{Ending}
use Rattle.zio_gang.specs.Journals.{AreCompletions, IsLawfulJournal}
use Rattle.zio_gang.specs.Runs.{Event, Round, ending, rounds_of, run_script}
use Rattle.zio_gang.specs.Trees.{size_of, sizes_of}
use Rattle.zio_report.specs.declared.report.Show.{Show}
use Rattle.zio_report.specs.declared.report.Show.TheVariants.{Report}
use Rattle.zio_report.specs.Meanings.{IsWholeRun, course_of, records_of, run_size_of, tops_of}
use Rattle.zio_report.specs.Reports.{Records, RunSize, run_text}
use Rattle.zio_disks.specs.Disks.{StaySound, Tell}
use Rattle.zio_spelled.specs.declared.rounds.RoundJournal.{RoundJournal}
use Rattle.zio_spelled.specs.Rounds.{IsSpelled}
use Rattle.zio_command.specs.Grounds.{IsSettingOf}
use Rattle.zio_command.specs.Outcomes.{HasLawfulSize}
use Rattle.zio_course.specs.Course.{AreOfRounds}
use Rattle.zio_audit.specs.Audits.{HasAuditedSize, sizes_in}
use Rattle.zio_audit.specs.Completions.{completions_from}
use Rattle.zio_audit.specs.Ended.{HasEnded, HasReplayed, IsAtStart, IsJudged, IsSeenOf, IsToldOf}
use Rattle.zio_audit.specs.PlainMatching.{HoldsCompared, compared}
use Rattle.zio_audit.specs.Putting.{IsPutIn}
use Rattle.zio_audit.specs.Replays.{AreSpelledIn}
use Rattle.zio_audit.specs.Seen.{AreJudgedBy, IsFirstOther, IsLineOrNext, IsSeenIn, byte_at, verdict_of}
use Rattle.zio_audit.specs.Texts.{plain_text, shows_bytes, text_of_run}
use Rattle.zio_audit.specs.Verdicts.{Case, HasCompletions, HasLawfulEntries, IsReadAs, IsScriptIn, IsTextOf, IsVerdict, entries_of, journal_spelled, orders_of}
use Rattle.zio_audit.specs.declared.seen.Seen.{Seen}
use Rattle.zio_audit.specs.declared.seen.Seen.TheVariants.{Images, Text}
use Rattle.zio_audit.specs.declared.verdict.Verdict.TheVariants.{Yes, No}
use Rattle.zio_audit.specs.declared.plain_matcher.PlainMatcher.{PlainMatcher}
use Rattle.zio_audit.proofs.AuditLemmas.{all_stand, no_completions, no_images, no_places, no_text}
use Rattle.zio_audit.proofs.AuditedCases.{leaves_by_tops}
use Rattle.zio_audit.proofs.ReplayedRuns.{course_behind, none_behind, some_behind}
use Rattle.zio_audit.proofs.TextLaws.{text_decided}
use Rattle.zio_audit.proofs.TextLines.{run_lines_text}

-- ---- disks in memory

pub told_images : (disks : List MemDisk) (images : Leaves) → Tell (λ d. told (disk_image d)) disks images → images ≡ map disk_image disks
told_images [] [] tell = refl
told_images [] (bytes ∷ images) tell = absurd tell
told_images (d ∷ ds) [] tell = absurd tell
told_images (d ∷ ds) (bytes ∷ images) tell = let first : bytes ≡ disk_image d = tell.0 in let rest = told_images ds images tell.1 in cc

pub tell_images : (disks : List MemDisk) → Tell (λ d. told (disk_image d)) disks (map disk_image disks)
tell_images [] = tt
tell_images (d ∷ ds) = (refl, tell_images ds)

pub sizes_told : (disks : List MemDisk) (images : Leaves) → images ≡ map disk_image disks → map length images ≡ sizes_in disks
sizes_told disks images is = ap (map length) is ∙ lengths disks
  where
    lengths : (ds : List MemDisk) → map length (map disk_image ds) ≡ sizes_in ds
    lengths [] = refl
    lengths (d ∷ ds) = ap (λ (ns : List ℕ). length (disk_image d) ∷ ns) (lengths ds)

-- no count of a disk rises that is sound
pub none_rose : (olds news : List MemDisk) → AllByRecursion IsSoundDisk olds → StaySound IsSoundDisk disk_faults olds news → ¬ AnyRose (map disk_faults olds) (map disk_faults news)
none_rose [] [] sound stay rose = rose
none_rose [] (n ∷ ns) sound stay rose = rose
none_rose (o ∷ os) [] sound stay rose = rose
none_rose (o ∷ os) (n ∷ ns) sound stay rose =
    let kept = stay.0 sound.0 in
    let below : disk_faults n < count_max = IsSteady-below_max (disk_fails n) (disk_faults n) kept.0 in
    let same : disk_faults n ≡ disk_faults o = kept.1 in
    ⊎_elim (λ one. ⊎_elim (λ (lt : disk_faults o < disk_faults n). Prim.omega (arith, lt, same)) (λ (at : disk_faults n ≡ count_max). Prim.omega (arith, at, below)) one)
    (none_rose os ns sound.1 stay.1) rose

pub lawful_sizes : (disks : List MemDisk) (images : Leaves) → map disk_image disks ≡ images → AllByRecursion HasAuditedSize (map length images) → AllByRecursion HasLawfulSize (sizes_in disks)
lawful_sizes disks images is audited =
    all_weaker HasAuditedSize HasLawfulSize (sizes_in disks) (λ n size. record { low = size.least; high = let most = size.most in omega arith })
    (subst (AllByRecursion HasAuditedSize) (sizes_told disks images (sym is)) audited)

-- ---- tops

pub lawful_tops : (tops : List Top) → AllByRecursion (λ (top : Top). IsTrue (is_lawful_top (size_of top))) tops → list_all is_lawful_top (sizes_of tops) ≡ true
lawful_tops [] h = refl
lawful_tops (top ∷ tops) h = and_from (is_lawful_top (size_of top)) (list_all is_lawful_top (sizes_of tops)) h.0 (lawful_tops tops h.1)

-- ---- what came to a matcher

pub all_came : (m : PlainMatcher) (text came : List ℕ) → HoldsCompared m (compared text [] ++ came) → HoldsCompared m (compared text came)
all_came m text came h = subst (λ (front : List ℕ). HoldsCompared m (length text ∷ (front ++ came))) (append-nil text) h

-- ---- a run to its end

-- the text of a run without its journal is the same with any
pub other_records : (bytes : Bool) (n : RunSize) (j k : Records) (events : List Event) (ending : Ending) → run_text (Report false bytes) n j events ending ≡ run_text (Report false bytes) n k events ending
other_records bytes n j k events ending = sym (run_lines_text bytes n j events ending) ∙ run_lines_text bytes n k events ending

module _ (c : Case) (script : Script) (journals : List RoundJournal) (bytes : Bool) (j : Journal) (after : Leaves) (printed : List ℕ) (end : Ending)
    (whole : IsWholeRun (Report false bytes) (run_size_of script c.before) script c.before j after printed end) (same : entries_of journals ≡ j.places) where
  pub run_lawful : HasLawfulEntries script c.before (journal_spelled script c.before journals)
  run_lawful = subst (λ (cs : List Choice). IsLawfulJournal (sizes_of (tops_of script c.before)) (rounds_of (run_script script c.before cs).events) cs) (sym same) whole.places

  pub run_completes : AreCompletions (requests_of script.items) (rounds_of (course_of script c.before (journal_spelled script c.before journals)).events) j.completions
  run_completes = subst (λ (cs : List Choice). AreCompletions (requests_of script.items) (rounds_of (run_script script c.before cs).events) j.completions) (sym same) whole.completions

  pub run_prints : printed ≡ text_of_run false bytes script c.before (journal_spelled script c.before journals)
  run_prints =
      let n = run_size_of script c.before in
      let spelled = journal_spelled script c.before journals in
      whole.report
      ∙ ap (run_text (Report false bytes) n (records_of j) (course_of script c.before j).events) whole.ending_is
      ∙ ap (λ (cs : List Choice). run_text (Report false bytes) n (records_of j) (run_script script c.before cs).events (ending (run_script script c.before cs).state)) (sym same)
      ∙ other_records bytes n (records_of j) (records_of spelled) (course_of script c.before spelled).events (ending (course_of script c.before spelled).state)

  pub run_leaves : after ≡ (course_of script c.before (journal_spelled script c.before journals)).state.images
  run_leaves = whole.images ∙ ap (λ (cs : List Choice). (run_script script c.before cs).state.images) (sym same)

-- ---- a replayed run

pub replayed_whole : (show : Show) (script : Script) (journals : List RoundJournal) (olds news : List MemDisk) (images : ℕ) (old new : PlainMatcher) (j : Journal) (end : Ending)
    → images ≡ length olds → AreOfRounds (AreSpelledIn journals) j.rounds j.places
    → ((before : Leaves) → Tell (λ d. told (disk_image d)) olds before → (after : Leaves) × (printed : List ℕ)
    × IsWholeRun show (record { tops = length script.tops; images = images; requests = length (requests_of script.items) }) script before j after printed end
    × Tell (λ d. told (disk_image d)) news after × Appends (HoldsCompared old) (HoldsCompared new) printed)
    → HasReplayed show script journals (map disk_image olds) (map disk_image news) old new j
replayed_whole show script journals olds news images old new j end many of whole =
    let before : Leaves = map disk_image olds in
    let w = whole before (tell_images olds) in
    let count : images ≡ length before = many ∙ sym (length-map olds disk_image) in
    record {
      end = end;
      printed = w.1;
      whole = subst (λ (a : Leaves). IsWholeRun show (run_size_of script before) script before j a w.1 end) (told_images news w.0 w.3)
          (subst (λ (n : ℕ). IsWholeRun show (record { tops = length script.tops; images = n; requests = length (requests_of script.items) }) script before j w.0 w.1 end) count w.2);
      written = w.4;
      entries = of;
    }

pub ended_of : (c : Case) (script : Script) (journals : List RoundJournal) (after : Leaves) (old new : PlainMatcher) (j : Journal)
    → HasReplayed (Report false (shows_bytes c.report)) script journals c.before after old new j → HoldsCompared old (compared (plain_text c.report) [])
    → HasEnded c script journals new j after
ended_of c script journals after old new j h first = record {
  end = h.end;
  printed = h.printed;
  whole = h.whole;
  came = all_came new (plain_text c.report) h.printed (h.written (compared (plain_text c.report) []) first);
  entries = h.entries;
}

-- ---- the start

pub at_start : (script : Script) (s : Setting) (disks : List MemDisk) → IsSettingOf script (sizes_in disks) s → AllByRecursion IsSoundDisk disks → IsAtStart script s disks 0 false
at_start script s disks is sound = record { tops = is.tops; rows = is.rows; sound = sound; last_is = refl; runs = refl }

-- the case's script, and what the case is read as
pub script_in : (c : Case) (script : Script) (s : Setting) (disks : List MemDisk) → IsScriptOf c.script script → c.before ≡ map disk_image disks → IsSettingOf script (sizes_in disks) s → IsScriptIn c script
script_in c script s disks accepted before is =
    let many : length (sizes_in disks) ≡ length c.before = ap length (sym (sizes_told disks c.before before)) ∙ length-map c.before length in
    record {
      accepted = accepted;
      images = subst (λ (n : ℕ). AllByRecursion (λ (top : TopLine). AllByRecursion (λ leaf. leaf < n) top.leaves) script.tops) many
          (leaves_by_tops (length (sizes_in disks)) script.tops is.leaves);
    }

pub read_as : (c : Case) (script : Script) (s : Setting) (disks : List MemDisk) (sizes : List TopSize) (journals : List RoundJournal) → IsScriptOf c.script script → c.before ≡ map disk_image disks
    → IsSettingOf script (sizes_in disks) s → sizes ≡ sizes_of s.tops → IsSpelled sizes c.report journals → IsReadAs c script journals
read_as c script s disks sizes journals accepted before is sizes_are spelled = record {
  script_is = script_in c script s disks accepted before is;
  spelled = subst (λ (ts : List TopSize). IsSpelled ts c.report journals) (sizes_are ∙ ap sizes_of (is.tops c.before (sizes_told disks c.before before))) spelled;
}

pub if_ok : {T E : Type 0} (P Q : T → Type 0) (r : Result T E) → ((x : T) → P x → Q x) → IfOk r P → IfOk r Q
if_ok P Q (Ok x) more h = more x h
if_ok P Q (Err e) more h = tt

pub if_some : {T : Type 0} (P Q : T → Type 0) (o : Option T) → ((x : T) → P x → Q x) → IfSome o P → IfSome o Q
if_some P Q None more h = tt
if_some P Q (Some x) more h = more x h

-- ---- what is said of it

module _ (script : Script) (report : List ℕ) (journals : List RoundJournal) (plain : PlainMatcher) (j : Journal) (left after : Leaves) where
  -- no entry is left over
  abbrev pub NoneBehind : Type 0
  NoneBehind = AllByRecursion (λ (k : RoundJournal). k.entries ≡ []) (drop j.rounds journals)

  pub judged_places : ¬ NoneBehind → IsJudged script report journals plain j left after (No 3)
  judged_places some = λ c same_report same_after read ended.
      no_places c script journals read
      (some_behind c script journals read j ended.entries (course_behind script c.before j ended.whole.rounds) ended.whole.rounds some)

  -- the answer of the call that compares completions
  abbrev pub IsMatched : Bool → Type 0
  IsMatched matched = (rounds : List Round) → AreCompletions (requests_of script.items) rounds j.completions
      → (IsTrue matched ↔ AreCompletions (requests_of script.items) rounds (completions_from rounds 1 (orders_of journals)))

  pub matched_by : (items : List Item) (due : List Completion) (own : List RoundJournal) (matched : Bool) → items ≡ script.items → due ≡ j.completions → own ≡ journals
      → ((rounds : List Round) → AreCompletions (requests_of items) rounds due
      → (IsTrue matched ↔ AreCompletions (requests_of items) rounds (completions_from rounds 1 (orders_of own)))) → IsMatched matched
  matched_by items due own matched items_are due_is own_are exact =
      subst (λ (js : List RoundJournal). (rounds : List Round) → AreCompletions (requests_of script.items) rounds j.completions
      → (IsTrue matched ↔ AreCompletions (requests_of script.items) rounds (completions_from rounds 1 (orders_of js)))) own_are
      (subst (λ (is : List Item). (rounds : List Round) → AreCompletions (requests_of is) rounds j.completions
      → (IsTrue matched ↔ AreCompletions (requests_of is) rounds (completions_from rounds 1 (orders_of own)))) items_are
      (subst (λ (ds : List Completion). (rounds : List Round) → AreCompletions (requests_of items) rounds ds
      → (IsTrue matched ↔ AreCompletions (requests_of items) rounds (completions_from rounds 1 (orders_of own)))) due_is exact))

  -- that of the matcher of the plain text
  abbrev pub IsWholeText : Bool → Type 0
  IsWholeText whole = (text came : List ℕ) → HoldsCompared plain (compared text came) → (IsTrue whole ↔ (came ≡ text))

  -- that of the comparer of what is put in
  abbrev pub IsWholePut : Bool → Type 0
  IsWholePut put = IsTrue put ↔ IsPutIn journals report

  module _ (none : NoneBehind) where
    same : (c : Case) → HasEnded c script journals plain j left → entries_of journals ≡ j.places
    same c ended = none_behind journals j.rounds j.places ended.entries none

    lawful : (c : Case) → HasEnded c script journals plain j left → HasLawfulEntries script c.before (journal_spelled script c.before journals)
    lawful c ended = run_lawful c script journals (shows_bytes c.report) j left ended.printed ended.end ended.whole (same c ended)

    matches : (matched : Bool) → IsMatched matched → (c : Case) → HasEnded c script journals plain j left
        → IsTrue matched ↔ HasCompletions script c.before (journal_spelled script c.before journals)
    matches matched exact c ended =
        exact (rounds_of (run_script script c.before (entries_of journals)).events) (run_completes c script journals (shows_bytes c.report) j left ended.printed ended.end ended.whole (same c ended))

    pub judged_completions : (matched : Bool) → IsMatched matched → matched ≡ false → IsJudged script report journals plain j left after (No 4)
    judged_completions matched exact is_false = λ c same_report same_after read ended.
        no_completions c script journals read (lawful c ended) (λ are. true≢false (sym ((matches matched exact c ended).1 are) ∙ is_false))

    module _ (matched : Bool) (exact : IsMatched matched) (is_true : matched ≡ true) where
      completes : (c : Case) → HasEnded c script journals plain j left → HasCompletions script c.before (journal_spelled script c.before journals)
      completes c ended = (matches matched exact c ended).0 is_true

      prints : (c : Case) (ended : HasEnded c script journals plain j left) → ended.printed ≡ text_of_run false (shows_bytes c.report) script c.before (journal_spelled script c.before journals)
      prints c ended = run_prints c script journals (shows_bytes c.report) j left ended.printed ended.end ended.whole (same c ended)

      -- the text stands exactly where the plain text came, and the journals are put in
      text_stands : (whole put : Bool) → IsWholeText whole → IsWholePut put → whole ≡ true → put ≡ true → (c : Case) → c.report ≡ report → IsReadAs c script journals
          → HasEnded c script journals plain j left → IsTextOf script c.before (journal_spelled script c.before journals) c.report
      text_stands whole put text puts came is_put c same_report read ended =
          (text_decided c script journals read).1
          (subst (IsPutIn journals) (sym same_report) (puts.0 is_put), sym ((text (plain_text c.report) ended.printed ended.came).0 came) ∙ prints c ended)

      pub judged_plain : (whole : Bool) → IsWholeText whole → whole ≡ false → IsJudged script report journals plain j left after (No 5)
      judged_plain whole text is_false = λ c same_report same_after read ended.
          no_text c script journals read (lawful c ended) (completes c ended)
          (λ is. true≢false (sym ((text (plain_text c.report) ended.printed ended.came).1 (prints c ended ∙ sym ((text_decided c script journals read).0 is).1)) ∙ is_false))

      pub judged_put : (put : Bool) → IsWholePut put → put ≡ false → IsJudged script report journals plain j left after (No 5)
      judged_put put puts is_false = λ c same_report same_after read ended.
          no_text c script journals read (lawful c ended) (completes c ended)
          (λ is. true≢false (sym (puts.1 (subst (IsPutIn journals) same_report ((text_decided c script journals read).0 is).0)) ∙ is_false))

      leaves : (c : Case) (ended : HasEnded c script journals plain j left) → left ≡ (course_of script c.before (journal_spelled script c.before journals)).state.images
      leaves c ended = run_leaves c script journals (shows_bytes c.report) j left ended.printed ended.end ended.whole (same c ended)

      pub seen_images : (image byte : ℕ) → IsFirstOther after left image byte → IsSeenOf script report journals plain j left after (Images image byte)
      seen_images image byte first = λ c same_report same_after read ended. record {
        script = script;
        journals = journals;
        read = read;
        stands = subst (λ (is : Leaves). IsFirstOther c.after is image byte) (leaves c ended) (subst (λ (is : Leaves). IsFirstOther is left image byte) (sym same_after) first);
      }

      module _ (whole put : Bool) (text : IsWholeText whole) (puts : IsWholePut put) (came : whole ≡ true) (is_put : put ≡ true) where
        pub judged_images : ¬ (after ≡ left) → IsJudged script report journals plain j left after (No 6)
        judged_images other = λ c same_report same_after read ended.
            no_images c script journals read (lawful c ended) (completes c ended) (text_stands whole put text puts came is_put c same_report read ended)
            (λ is. other (sym same_after ∙ is ∙ sym (leaves c ended)))

        pub judged_yes : after ≡ left → IsJudged script report journals plain j left after Yes
        judged_yes held = λ c same_report same_after read ended.
            all_stand c script journals read (lawful c ended) (completes c ended) (text_stands whole put text puts came is_put c same_report read ended)
            (same_after ∙ held ∙ leaves c ended)

-- ---- where it was seen

pub others_differ : (some others : Leaves) (image byte : ℕ) → IsFirstOther some others image byte → ¬ (some ≡ others)
others_differ some others image byte first same = first.other (ap (λ (is : Leaves). byte_at is image byte) same)

pub seen_line : (script : Script) (report : List ℕ) (journals : List RoundJournal) (plain : PlainMatcher) (j : Journal) (left after : Leaves) (line : ℕ) → IsLineOrNext report line
    → IsSeenOf script report journals plain j left after (Text line)
seen_line script report journals plain j left after line is = λ c same_report same_after read ended. subst (λ (r : List ℕ). IsLineOrNext r line) (sym same_report) is

-- ---- before the images after are looked at

module _ (script : Script) (text report : List ℕ) (before : Leaves) (journals : List RoundJournal) (plain : PlainMatcher) (j : Journal) (left : Leaves) where
  -- the case with these images after
  abbrev pub with_after : Leaves → Case
  with_after after = record { script = text; report = report; before = before; after = after }

  module _ (read : (after : Leaves) → IsReadAs (with_after after) script journals) (ended : (after : Leaves) → HasEnded (with_after after) script journals plain j left) where
    pub told_some : (seen : Seen) → IsToldOf script report journals plain j (Some seen) → (after : Leaves) → IsVerdict (with_after after) (verdict_of (Some seen)) × IsSeenIn (with_after after) seen
    told_some seen told after =
        let of = told left after in
        (of.0 (with_after after) refl refl (read after) (ended after), of.1 (with_after after) refl refl (read after) (ended after))

    pub told_none : IsToldOf script report journals plain j None → (after : Leaves) → AreJudgedBy (with_after after) left
    told_none told after =
        let of = told left after in
        record {
          same = λ held. of.0 held (with_after after) refl refl (read after) (ended after);
          other = λ image byte first.
              (let wrong = of.1 image byte first in
              (wrong.0 (with_after after) refl refl (read after) (ended after), wrong.1 (with_after after) refl refl (read after) (ended after)));
        }
