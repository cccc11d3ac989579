-- The setting of a script's run over disks of lawful sizes, and how the run came out.
use Rattle.std.proofs.Common.{◌≡◌, ◌≤◌, ℕ, List, [], ◌∷◌, true, Result, Ok, Err, inl, length, map, refl, replicate, sym, ap, ◌∙◌, subst, arith, IsTrue, MatchResult}
use Rattle.std.proofs.lemmas.Bool.{and_parts}
use Rattle.std.proofs.lemmas.List.{length-replicate}
use Rattle.std.specs.List.{AllByRecursion, list_all}
use Rattle.std.specs.Prelude.{IfErr, IfOk}
use Rattle.zio_types.specs.declared.journal.Journal.{Journal}
use Rattle.zio_types.specs.declared.place.Top.{Top}
use Rattle.zio_types.specs.Places.{is_lawful_top}
use Rattle.zio_faults.specs.declared.table.Row.{Row}
use Rattle.zio_faults.specs.Hits.{RowFits}
use Rattle.zio_blkptr.specs.declared.pointer.TheConstants.{SECTOR_END}
use Rattle.zio_script.specs.declared.script.Script.{Script}
use Rattle.zio_cksum.proofs.AllLemmas.{all_weaker}
use Rattle.zio_cksum.specs.Images.{Images}
use Rattle.zio_gang.specs.Trees.{size_of, sizes_of}
use Rattle.zio_gang.specs.declared.ending.Ending.{Ending}
use Rattle.zio_trace.specs.Separate.{LeavesOnce}
use Rattle.zio_trace.specs.SoundRounds.{LeavesDiffer}
use Rattle.zio_disks.specs.Trees.{HasSectors}
use Rattle.zio_report.specs.declared.report.RunFault.{RunFault}
use Rattle.zio_report.specs.declared.report.Show.{Show}
use Rattle.zio_report.specs.Meanings.{tops_of}
use Rattle.zio_command.specs.declared.image.TheConstants.{IMAGE_LEN_MAX}
use Rattle.zio_command.specs.Grounds.{CameOutOver, HasRunOver, IsSettingOf, WasCutOver}
use Rattle.zio_command.specs.Outcomes.{HasLawfulSize}
use Rattle.zio_command.specs.Seen.{SinkSeen}
use Rattle.zio_command.specs.declared.outcome.RunOutcome.{RunOutcome}
use Rattle.zio_command.specs.declared.outcome.RunOutcome.TheVariants.{Ended, Cut}
use Rattle.zio_command.specs.Tops.{AreTopLeaves, HaveImages, IsLawfulPool, leaves_of}
use Rattle.zio_command.proofs.EngineLemmas.{lines_differ, lines_leaves, lines_once}

lawful_each : (tops : List Top) → list_all is_lawful_top (sizes_of tops) ≡ true → AllByRecursion (λ (top : Top). IsTrue (is_lawful_top (size_of top))) tops
lawful_each [] all = tt
lawful_each (top ∷ tops) all =
    let parts = and_parts (is_lawful_top (size_of top)) (list_all is_lawful_top (sizes_of tops)) all in
    (parts.0, lawful_each tops parts.1)

-- images of any sizes
abbrev pub images_of : List ℕ → Images
images_of sizes = map (λ n. replicate n 0) sizes

pub images_sized : (sizes : List ℕ) → map (length {A = ℕ}) (images_of sizes) ≡ sizes
images_sized [] = refl
images_sized (size ∷ sizes) =
    ap (λ (n : ℕ). n ∷ map (length {A = ℕ}) (images_of sizes)) (length-replicate size 0) ∙ ap (λ (ns : List ℕ). size ∷ ns) (images_sized sizes)

-- tops over disks of lawful sizes have few sectors, there are few of them, and no leaf stands twice
pub setting_of : (script : Script) (sizes : List ℕ) (tops : List Top) (rows : List Row) (point : ℕ) → IsLawfulPool script
    → ((images : Images) → map (length {A = ℕ}) images ≡ sizes → tops ≡ tops_of script images) → HaveImages (length sizes) (leaves_of script.tops)
    → AllByRecursion (HasSectors sizes) tops → list_all is_lawful_top (sizes_of tops) ≡ true → AllByRecursion (λ (top : Top). top.sectors ≤ IMAGE_LEN_MAX) tops
    → length tops ≡ length script.tops → rows ≡ script.faults → AllByRecursion HasLawfulSize sizes → IsSettingOf script sizes (record { tops = tops; rows = rows; point = point })
setting_of script sizes tops rows point pool ok named bears lawful short count same measured =
    let images = images_of sizes in
    let made : tops ≡ tops_of script images = ok images (images_sized sizes) in
    record {
      tops = ok;
      rows = same;
      pool = record {
        bears = record { rows = subst (λ (rs : List Row). AllByRecursion RowFits rs) (sym same) pool.rows; tops = bears };
        pointers = record {
          few = (let most = pool.most in omega (arith, count));
          lawful = lawful_each tops lawful;
          short = all_weaker (λ (top : Top). top.sectors ≤ IMAGE_LEN_MAX) (λ (top : Top). top.sectors ≤ SECTOR_END) tops (λ top fits. omega arith) short;
        };
        few = (let most = pool.most in omega (arith, count));
        leaves = subst (λ (ts : List Top). AllByRecursion (λ (top : Top). AreTopLeaves top.leaves) ts) (sym made) (lines_leaves images script.tops pool.leaves);
        short = short;
        leaves_once = subst LeavesOnce (sym made) (lines_once images script.tops pool.once);
        leaves_differ = subst LeavesDiffer (sym made) (lines_differ images script.tops pool.once);
      };
      leaves = named;
    }

-- rounds that ended or were cut short are the outcome
pub came_over : {D : Type 0} (faults : D → ℕ) (image : D → List ℕ → Type 0) (show : Show) (script : Script) (old new : List D) (old_sink new_sink : SinkSeen) (old_journal journal : Journal)
    (ended : Result Ending RunFault) (outcome : RunOutcome) → HaveImages (length old) (leaves_of script.tops)
    → IfOk ended (λ ending. HasRunOver faults image show script ending old new old_sink new_sink journal)
    → IfErr ended (λ fault. WasCutOver faults image show script fault old new old_sink new_sink journal)
    → MatchResult ended (λ ending. outcome ≡ Ended ending) (λ fault. outcome ≡ Cut fault)
    → CameOutOver faults image show script old new old_sink new_sink old_journal journal outcome
came_over faults image show script old new old_sink new_sink old_journal journal (Ok ending) outcome have ran cut is =
    subst (λ (o : RunOutcome). CameOutOver faults image show script old new old_sink new_sink old_journal journal o) (sym is) (have, ran)
came_over faults image show script old new old_sink new_sink old_journal journal (Err fault) outcome have ran cut is =
    subst (λ (o : RunOutcome). CameOutOver faults image show script old new old_sink new_sink old_journal journal o) (sym is) (inl (have, cut))
