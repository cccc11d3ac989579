-- A run and the scrub behind it, over the disks of both.
use Rattle.std.proofs.Common.{◌≡◌, ◌≢◌, ◌≤◌, ◌^◌, ℕ, List, [], ◌∷◌, ◌++◌, length, map, take, Result, Ok, Err, inl, inr, refl, sym, ap, ◌∙◌, subst, arith, append_assoc, append-nil, IsTrue}
use Rattle.std.specs.List.{AllByRecursion}
use Rattle.std.specs.Prelude.{IfErr, IfOk, IsErr, IsErrOf, OnOk}
use Rattle.zio_types.specs.declared.journal.Journal.{Journal}
use Rattle.zio_types.specs.declared.place.Top.{Top}
use Rattle.zio_types.specs.declared.place.TopSize.{TopSize}
use Rattle.zio_outside.specs.declared.written.Written.{Written}
use Rattle.zio_outside.specs.Outside.{AnyRose, Appends, AppendsFront, Keeps, Rose}
use Rattle.zio_blkptr.specs.Pointers.{valid}
use Rattle.zio_faults.specs.declared.table.Row.{Row}
use Rattle.zio_script.specs.declared.script.Script.{Script}
use Rattle.zio_cksum.proofs.AllLemmas.{all_weaker}
use Rattle.zio_cksum.proofs.FrameLemmas.{same_itself as images_itself}
use Rattle.zio_cksum.specs.Frames.{SameOutside}
use Rattle.zio_cksum.specs.Images.{Images, Setting}
use Rattle.zio_gang.specs.declared.bound.Bound.{Bound}
use Rattle.zio_gang.specs.declared.ending.Ending.{Ending}
use Rattle.zio_gang.specs.declared.ending.Ending.TheVariants.{Complete, Panic, Left}
use Rattle.zio_gang.specs.declared.tree.Tree.{Tree}
use Rattle.zio_gang.specs.Trees.{sizes_of}
use Rattle.zio_disks.specs.Disks.{Handles, Tell, TellOutside}
use Rattle.zio_disks.specs.Whole.{IsWholeTree}
use Rattle.zio_report.specs.declared.report.RunFault.{RunFault}
use Rattle.zio_report.specs.declared.report.RunFault.TheVariants.{Device, Sink, Memory}
use Rattle.zio_report.specs.declared.report.Show.{Show}
use Rattle.zio_report.specs.Meanings.{course_of, tops_of}
use Rattle.zio_suspend.specs.declared.run.PoolEnd.{PoolEnd}
use Rattle.zio_suspend.specs.Pools.{AreBlocks, AreBoundIn}
use Rattle.zio_scrub.specs.Ends.{AreMended, NoRowHolds}
use Rattle.zio_scrub.specs.Lines.{on_disks, scrub_line}
use Rattle.zio_scrub.specs.Pieces.{trees_of}
use Rattle.zio_scrub.specs.Pools.{AreBlocksIn, HasLeaves, IsPool}
use Rattle.zio_scrub.specs.Scrubs.{scrub_blocks, spots_in}
use Rattle.zio_command.specs.declared.outcome.RunOutcome.{RunOutcome}
use Rattle.zio_command.specs.declared.outcome.RunOutcome.TheVariants.{Ended, Unfit, Cut}
use Rattle.zio_command.specs.Behind.{CameOutBehind, EndedBehind, HaveSizesOf, WasLeftAlone, WasScrubbed, WasStopped}
use Rattle.zio_command.specs.Grounds.{HasRunOver, HasScrubbedOver, IsCauseOver, IsPoolOver, IsSettingOf, IsWholeOver, ScrubCameOutOver, WasStoppedOver}
use Rattle.zio_command.specs.Outcomes.{HasLawfulSize}
use Rattle.zio_command.specs.Scrubbed.{AreLeftBound, IsBehind, IsScrubBehind, IsStoppedScrub, scrub_left, setting_at}
use Rattle.zio_command.specs.Seen.{SinkSeen}
use Rattle.zio_command.specs.Tops.{AreTopLeaves, HaveImages, leaves_of}
use Rattle.zio_command.proofs.GroundLemmas.{images_of, images_sized}

-- ---- texts

appends_then : (a b c : List ℕ → Type 0) (xs ys : List ℕ) → Appends a b xs → Appends b c ys → Appends a c (xs ++ ys)
appends_then a b c xs ys first then held h = subst c (simp append_assoc) (then (held ++ xs) (first held h))

appends_kept : (a b c : List ℕ → Type 0) (xs : List ℕ) → Appends a b xs → Keeps b c → Appends a c xs
appends_kept a b c xs first keep held h = (keep (held ++ xs)).0 (first held h)

front_then : (a b c : List ℕ → Type 0) (xs ys : List ℕ) → Appends a b xs → AppendsFront b c ys
    → (held : List ℕ) → a held → (n : ℕ) × c (held ++ xs ++ take n ys)
front_then a b c xs ys first then held h =
    let w = then (held ++ xs) (first held h) in
    (w.0, subst c (simp append_assoc) w.1)

-- ---- the blocks of the run's last state

left_bound : (script : Script) (before : Images) (journal : Journal) (point : ℕ) (fits : Tree → Type 0) (tops : List TopSize) (blocks : List Bound)
    → AreBoundIn (course_of script before journal).state point blocks → AreBlocks fits tops blocks → AreLeftBound script before journal blocks
left_bound script before journal point fits tops blocks bound are = record { named = bound.names; once = are.once; order = are.order }

-- ---- a run and what was done behind it

module _ {D : Type 0} (bytes faults : D → ℕ) (image : D → List ℕ → Type 0) (show : Show) (script : Script) (point : ℕ) (bound : List Bound) (old mid new : List D)
    (old_sink mid_sink new_sink : SinkSeen) (journal : Journal) (fits : Tree → Type 0) (tops : List TopSize)
    (are_bound : (before : Images) → Tell image old before → AreBoundIn (course_of script before journal).state point bound) (are : AreBlocks fits tops bound)
    (sized : (before : Images) → Tell image old before → HaveSizesOf bytes mid before) where
  scrubbed_over : (ending : Ending) → HasRunOver faults image show script ending old mid old_sink mid_sink journal
      → WasScrubbed bytes faults image script point (trees_of bound) mid new mid_sink new_sink
      → ((before ran after : Images) (line : List ℕ) → IsScrubBehind script before journal ran after line → IsBehind ending script before journal ran after line)
      → HasScrubbedOver faults image show script ending old new old_sink new_sink journal
  scrubbed_over ending ran scrubbed is = record {
    disks_steady = scrubbed.disks_steady ∙ ran.disks_steady;
    sink_steady = scrubbed.sink_steady ∙ ran.sink_steady;
    told = λ before tells.
        (let w = ran.told before tells in
        let at = are_bound before tells in
        let size = sized before tells in
        let s : WasScrubbed bytes faults image script (course_of script before journal).state.point (trees_of bound) mid new mid_sink new_sink =
        subst (λ (n : ℕ). WasScrubbed bytes faults image script n (trees_of bound) mid new mid_sink new_sink) at.point_is scrubbed in
        let left = scrub_left script before journal bound w.after in
        record {
          ran = w.after;
          report = w.printed;
          after = left.images;
          line = scrub_line (trees_of bound) left;
          whole = w.whole;
          behind = is before w.after left.images (scrub_line (trees_of bound) left) (record {
            blocks = bound;
            bound = left_bound script before journal point fits tops bound at are;
            images = refl;
            line_is = refl;
            good = s.good before w.after size w.stored;
          });
          stores = s.stored before w.after size w.stored;
          written = appends_then old_sink.holds mid_sink.holds new_sink.holds w.printed (scrub_line (trees_of bound) left) w.written
              (s.written before w.after size w.stored);
        });
  }

  alone_over : HasRunOver faults image show script Panic old mid old_sink mid_sink journal → WasLeftAlone mid new mid_sink new_sink
      → HasScrubbedOver faults image show script Panic old new old_sink new_sink journal
  alone_over ran alone = record {
    disks_steady = ap (λ (ds : List D). map faults ds) alone.disks ∙ ran.disks_steady;
    sink_steady = alone.sink_steady ∙ ran.sink_steady;
    told = λ before tells.
        (let w = ran.told before tells in
        record {
          ran = w.after;
          report = w.printed;
          after = w.after;
          line = [];
          whole = w.whole;
          behind = (refl, refl);
          stores = subst (λ (ds : List D). Tell image ds w.after) (sym alone.disks) w.stored;
          written = subst (λ (text : List ℕ). Appends old_sink.holds new_sink.holds text) (sym (simp append-nil))
              (appends_kept old_sink.holds mid_sink.holds new_sink.holds w.printed w.written alone.nothing);
        });
  }

  pub ended_over : (ending : Ending) → HasRunOver faults image show script ending old mid old_sink mid_sink journal
      → EndedBehind bytes faults image script ending point (trees_of bound) mid new mid_sink new_sink
      → HasScrubbedOver faults image show script ending old new old_sink new_sink journal
  ended_over Complete ran behind = scrubbed_over Complete ran behind (λ before images after line is. is)
  ended_over Panic ran behind = alone_over ran behind
  ended_over Left ran behind = scrubbed_over Left ran behind (λ before images after line is. is)

  cause_behind : (fault : RunFault) → map faults mid ≡ map faults old → mid_sink.faults ≡ old_sink.faults
      → IsCauseOver fault (map faults mid) (map faults new) mid_sink new_sink → IsCauseOver fault (map faults old) (map faults new) old_sink new_sink
  cause_behind Device steady quiet cause = subst (λ (ns : List ℕ). AnyRose ns (map faults new)) steady cause
  cause_behind Sink steady quiet cause = subst (λ (n : ℕ). Rose n new_sink.faults) quiet cause
  cause_behind Memory steady quiet cause = tt

  stopped_told : (fault : RunFault) (ending : Ending) (before : Images) → Tell image old before → IsWholeOver image show script ending old mid old_sink mid_sink journal before
      → ending ≢ Panic → WasStopped bytes faults image script (course_of script before journal).state.point (trees_of bound) fault mid new mid_sink new_sink
      → IsStoppedScrub (Tell image new) show script fault old_sink.holds new_sink.holds journal before
  stopped_told Device ending before tells w panic s =
      let left = s.told before w.after (sized before tells) w.stored in
      record {
        ending = ending;
        ran = w.after;
        report = w.printed;
        after = left.0.0;
        blocks = bound;
        whole = w.whole;
        no_panic = panic;
        bound = left_bound script before journal point fits tops bound (are_bound before tells) are;
        images = left.0.2;
        stores = left.0.1;
        written = appends_kept old_sink.holds mid_sink.holds new_sink.holds w.printed w.written left.1;
      }
  stopped_told Sink ending before tells w panic s =
      let left = s.told before w.after (sized before tells) w.stored in
      let scrubbed = scrub_left script before journal bound w.after in
      record {
        ending = ending;
        ran = w.after;
        report = w.printed;
        after = scrubbed.images;
        blocks = bound;
        whole = w.whole;
        no_panic = panic;
        bound = left_bound script before journal point fits tops bound (are_bound before tells) are;
        images = refl;
        stores = left.0;
        written = front_then old_sink.holds mid_sink.holds new_sink.holds w.printed (scrub_line (trees_of bound) scrubbed) w.written left.1;
      }
  stopped_told Memory ending before tells w panic s =
      let left = s.told before w.after (sized before tells) w.stored in
      record {
        ending = ending;
        ran = w.after;
        report = w.printed;
        after = left.0.0;
        blocks = bound;
        whole = w.whole;
        no_panic = panic;
        bound = left_bound script before journal point fits tops bound (are_bound before tells) are;
        images = left.0.2;
        stores = left.0.1;
        written = appends_kept old_sink.holds mid_sink.holds new_sink.holds w.printed w.written left.1;
      }

  pub stopped_over : (fault : RunFault) (ending : Ending) → HasRunOver faults image show script ending old mid old_sink mid_sink journal
      → ending ≢ Panic → WasStopped bytes faults image script point (trees_of bound) fault mid new mid_sink new_sink
      → WasStoppedOver faults image show script fault old new old_sink new_sink journal
  stopped_over fault ending ran panic stopped = record {
    cause = cause_behind fault ran.disks_steady ran.sink_steady stopped.cause;
    told = λ before tells.
        stopped_told fault ending before tells (ran.told before tells) panic
        (subst (λ (n : ℕ). WasStopped bytes faults image script n (trees_of bound) fault mid new mid_sink new_sink) (are_bound before tells).point_is stopped);
  }

-- how a run with a scrub behind it came out
pub behind_over : {D : Type 0} (bytes faults : D → ℕ) (image : D → List ℕ → Type 0) (show : Show) (script : Script) (end : PoolEnd) (old mid new : List D)
    (old_sink mid_sink new_sink : SinkSeen) (old_journal journal : Journal) (fits : Tree → Type 0) (tops : List TopSize)
    → HaveImages (length old) (leaves_of script.tops)
    → ((before : Images) → Tell image old before → AreBoundIn (course_of script before journal).state end.point end.bound) → AreBlocks fits tops end.bound
    → ((before : Images) → Tell image old before → HaveSizesOf bytes mid before) → HasRunOver faults image show script end.ending old mid old_sink mid_sink journal
    → (outcome : RunOutcome) → CameOutBehind bytes faults image script end mid new mid_sink new_sink outcome
    → ScrubCameOutOver faults image show script old new old_sink new_sink old_journal journal outcome
behind_over bytes faults image show script end old mid new old_sink mid_sink new_sink old_journal journal fits tops have bound are sized ran (Ended ending) came = (
  have,
  subst (λ (e : Ending). HasScrubbedOver faults image show script e old new old_sink new_sink journal) (sym came.0)
      (ended_over bytes faults image show script end.point end.bound old mid new old_sink mid_sink new_sink journal fits tops bound are sized end.ending ran came.1),
)
behind_over bytes faults image show script end old mid new old_sink mid_sink new_sink old_journal journal fits tops have bound are sized ran (Unfit leaf) came = absurd came
behind_over bytes faults image show script end old mid new old_sink mid_sink new_sink old_journal journal fits tops have bound are sized ran (Cut fault) came =
    inl (
      have,
      inr (stopped_over bytes faults image show script end.point end.bound old mid new old_sink mid_sink new_sink journal fits tops bound are sized fault end.ending ran came.0 came.1),
    )

-- ---- blocks that can be scrubbed

all_valid : (trees : List Tree) → AllByRecursion IsWholeTree trees → AllByRecursion (λ (tree : Tree). IsTrue (valid tree.bp)) trees
all_valid [] whole = tt
all_valid (tree ∷ trees) whole = (whole.0.0, all_valid trees whole.1)

-- a setting over disks of lawful sizes is a pool, at any resume point
pub pool_at : (s : Setting) (sizes : List ℕ) (point : ℕ) → IsPoolOver s sizes → AllByRecursion HasLawfulSize sizes
    → IsPool (record { tops = s.tops; rows = s.rows; point = point }) sizes
pool_at s sizes point pool lawful = record {
  bears = record { rows = pool.bears.rows; tops = pool.bears.tops };
  few = pool.few;
  leaves = all_weaker (λ (top : Top). AreTopLeaves top.leaves) HasLeaves s.tops (λ top is. record { some = is.some; few = is.few }) pool.leaves;
  leaves_once = pool.leaves_once;
  leaves_differ = pool.leaves_differ;
  small = all_weaker HasLawfulSize (λ (size : ℕ). size ≤ 2 ^ 28) sizes (λ size is. (let high = is.high in omega arith)) lawful;
}

pub blocks_in : (s : Setting) (blocks : List Bound) → AreBlocks IsWholeTree (sizes_of s.tops) blocks → AreBlocksIn s (trees_of blocks)
blocks_in s blocks are = record { valid = all_valid (trees_of blocks) are.fit; inside = are.inside; apart = are.apart }

-- ---- the scrub of blocks over a setting of the script

-- a script's setting over disks of these sizes is the one over images of these sizes, at any resume point
setting_same : (script : Script) (before : Images) (tops : List Top) (rows : List Row) (point : ℕ) → tops ≡ tops_of script before → rows ≡ script.faults
    → record { tops = tops; rows = rows; point = point } ≡ setting_at script before point
setting_same script before tops rows point t r = cc

module _ {D : Type 0} (bytes faults faults_at_fetch : D → ℕ) (home image : D → List ℕ → Type 0) (sound : D → Type 0) (went : List Written → D → D → Type 0) (script : Script) (s : Setting)
    (point : ℕ) (trees : List Tree) (old new : List D) (old_sink new_sink : SinkSeen) (is : IsSettingOf script (map bytes old) s) where
  abbrev at_point : Setting
  at_point = record { tops = s.tops; rows = s.rows; point = point }

  at_before : (before : Images) → HaveSizesOf bytes old before → at_point ≡ setting_at script before point
  at_before before size = setting_same script before s.tops s.rows point (is.tops before size) is.rows

  pub all_scrubbed : (result : Result (Unit {0}) RunFault)
      → IfOk result (λ x. (images : Images) → Tell image old images → Tell image new (scrub_blocks at_point trees images).images
      × Appends old_sink.holds new_sink.holds (scrub_line trees (scrub_blocks at_point trees images)))
      → IfOk result (λ x. NoRowHolds at_point → (images : Images) → Tell image old images → AreMended at_point trees images (scrub_blocks at_point trees images).images)
      → (¬ IsErrOf result Sink → new_sink.faults ≡ old_sink.faults)
      → Handles bytes faults faults_at_fetch home image sound went (spots_in at_point trees) (on_disks result) old new
      → OnOk result (WasScrubbed bytes faults image script point trees old new old_sink new_sink)
  all_scrubbed (Ok x) told good quiet handled = record {
    disks_steady = handled.steady;
    sink_steady = quiet (λ e. let differ : Ok x ≡ Err Sink = e in cc);
    stored = λ before images size tells.
        subst (λ (k : Setting). Tell image new (scrub_blocks k trees images).images) (at_before before size) (told images tells).0;
    written = λ before images size tells.
        subst (λ (k : Setting). Appends old_sink.holds new_sink.holds (scrub_line trees (scrub_blocks k trees images))) (at_before before size) (told images tells).1;
    good = λ before images size tells.
        subst (λ (k : Setting). NoRowHolds k → AreMended k trees images (scrub_blocks k trees images).images) (at_before before size) (λ none. good none images tells);
  }
  all_scrubbed (Err fault) told good quiet handled = tt

  outside_at : TellOutside image (spots_in at_point trees) old new → (before images : Images) → HaveSizesOf bytes old before → Tell image old images
      → (after : Images) × Tell image new after × SameOutside (spots_in (setting_at script before point) trees) images after
  outside_at outside before images size tells =
      subst (λ (k : Setting). (after : Images) × Tell image new after × SameOutside (spots_in k trees) images after) (at_before before size) (outside images tells)

  pub cut_scrub : (result : Result (Unit {0}) RunFault)
      → (IsErrOf result Sink → (images : Images) → Tell image old images → Tell image new (scrub_blocks at_point trees images).images
      × AppendsFront old_sink.holds new_sink.holds (scrub_line trees (scrub_blocks at_point trees images)))
      → (¬ IsErrOf result Sink → IsErr result → Keeps old_sink.holds new_sink.holds) → (IsErrOf result Sink → Rose old_sink.faults new_sink.faults)
      → Handles bytes faults faults_at_fetch home image sound went (spots_in at_point trees) (on_disks result) old new
      → IfErr result (λ fault. WasStopped bytes faults image script point trees fault old new old_sink new_sink)
  cut_scrub (Ok x) front unwritten rose handled = tt
  cut_scrub (Err Device) front unwritten rose handled = record {
    cause = handled.device refl;
    told = λ before images size tells. (outside_at handled.outside before images size tells, unwritten (λ e. let differ : Err Device ≡ Err Sink = e in cc) refl);
  }
  cut_scrub (Err Sink) front unwritten rose handled = record {
    cause = rose refl;
    told = λ before images size tells.
        subst (λ (k : Setting). Tell image new (scrub_blocks k trees images).images
        × AppendsFront old_sink.holds new_sink.holds (scrub_line trees (scrub_blocks k trees images))) (at_before before size) (front refl images tells);
  }
  cut_scrub (Err Memory) front unwritten rose handled = record {
    cause = tt;
    told = λ before images size tells. (outside_at handled.outside before images size tells, unwritten (λ e. let differ : Err Memory ≡ Err Sink = e in cc) refl);
  }

-- memory was wanting before the scrub
pub no_scrub : {D : Type 0} (bytes faults : D → ℕ) (image : D → List ℕ → Type 0) (script : Script) (point : ℕ) (trees : List Tree) (disks : List D) (sink : SinkSeen)
    → WasStopped bytes faults image script point trees Memory disks disks sink sink
no_scrub bytes faults image script point trees disks sink = record {
  cause = tt;
  told = λ before images size tells.
      ((images, tells, images_itself (spots_in (setting_at script before point) trees) images), λ x. (λ h. h, λ h. h));
}

-- behind an end that is no panic
pub ended_behind : {D : Type 0} (bytes faults : D → ℕ) (image : D → List ℕ → Type 0) (script : Script) (ending : Ending) (point : ℕ) (trees : List Tree) (old new : List D) (old_sink new_sink : SinkSeen)
    → ending ≢ Panic → WasScrubbed bytes faults image script point trees old new old_sink new_sink
    → EndedBehind bytes faults image script ending point trees old new old_sink new_sink
ended_behind bytes faults image script Complete point trees old new old_sink new_sink other scrubbed = scrubbed
ended_behind bytes faults image script Panic point trees old new old_sink new_sink other scrubbed = absurd (other refl)
ended_behind bytes faults image script Left point trees old new old_sink new_sink other scrubbed = scrubbed

-- the blocks of a run lie inside the script's tops over images of its disks' sizes
pub blocks_over : (script : Script) (sizes : List ℕ) (s : Setting) (fits : Tree → Type 0) (blocks : List Bound) → IsSettingOf script sizes s → AreBlocks fits (sizes_of s.tops) blocks
    → (before : Images) → map (length {A = ℕ}) before ≡ sizes → AreBlocks fits (sizes_of (tops_of script before)) blocks
blocks_over script sizes s fits blocks is are before size = subst (λ (ts : List Top). AreBlocks fits (sizes_of ts) blocks) (is.tops before size) are

pub over_blocks : (script : Script) (sizes : List ℕ) (s : Setting) (fits : Tree → Type 0) (blocks : List Bound) → IsSettingOf script sizes s
    → ((before : Images) → map (length {A = ℕ}) before ≡ sizes → AreBlocks fits (sizes_of (tops_of script before)) blocks) → AreBlocks fits (sizes_of s.tops) blocks
over_blocks script sizes s fits blocks is are =
    subst (λ (ts : List Top). AreBlocks fits (sizes_of ts) blocks) (sym (is.tops (images_of sizes) (images_sized sizes))) (are (images_of sizes) (images_sized sizes))
