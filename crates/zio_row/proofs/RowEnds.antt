-- What the clauses of the top call ask of the worked run, and what they give.
use Rattle.std.proofs.Common.{◌≡◌, ◌≢◌, ℕ, ◌*◌, ◌<◌, ◌≤◌, List, [], ◌∷◌, ◌++◌, length, map, Bool, false, true, Option, Some, None, Result, Ok, refl, sym, ap, subst, ◌∙◌, arith}
use Rattle.std.specs.Prelude.{codes, bytes_eq, replicate}
use Rattle.std.specs.List.{AllByRecursion}
use Rattle.std.proofs.lemmas.List.{length-replicate}
use Rattle.std.proofs.lemmas.Slice.Eq.{bytes_eq-Decides}
use Rattle.zio_types.specs.declared.journal.Journal.{Journal}
use Rattle.zio_types.specs.Bytes.{overwritten}
use Rattle.zio_outside.specs.Memory.{IsSoundDisk, disk_image}
use Rattle.zio_outside.specs.MemoryShelf.{IsSoundShelf, IsSoundSlot, image_of, out_of, shelf_slot}
use Rattle.zio_outside.specs.declared.mem_disk.MemDisk.{MemDisk}
use Rattle.zio_outside.specs.declared.mem_shelf.MemShelf.{MemShelf}
use Rattle.zio_script.specs.declared.script.Script.{Script}
use Rattle.zio_script.specs.declared.script.ScriptFault.{ScriptFault}
use Rattle.zio_script.specs.Grammar.{IsScriptOf, reading}
use Rattle.zio_cksum.specs.Images.{Images}
use Rattle.zio_gang.specs.declared.ending.Ending.{Ending}
use Rattle.zio_gang.specs.Runs.{Course, ending}
use Rattle.zio_report.specs.declared.report.Show.TheVariants.{Report}
use Rattle.zio_report.specs.Meanings.{IsMeaning, course_of, records_of}
use Rattle.zio_report.specs.Reports.{end_code, run_text}
use Rattle.zio_command.specs.declared.words.Command.{Command}
use Rattle.zio_command.specs.declared.words.Command.TheVariants.{Run}
use Rattle.zio_command.specs.Headline.{Headline, TellEach}
use Rattle.zio_command.specs.Outcomes.{HasLawfulSize}
use Rattle.zio_command.specs.Words.{IsCommandOf, none_asked}
use Rattle.zio_row.specs.Row.{HasOneImage, HoldsBlock, blank_image, row_report, row_text, zeros}
use Rattle.zio_row.proofs.RowReport.{report_is}
use Rattle.zio_row.proofs.RowRun.{row_runs}
use Rattle.zio_row.proofs.RowScript.{row_is_read, row_script}

-- ---- the command

abbrev pub row_names : List (List ℕ)
row_names = codes "a" ∷ []

abbrev pub row_command : Command
row_command = Run 1 None (Report false false) row_names

pub row_is_command : (words : List (List ℕ)) → words ≡ codes "run" ∷ codes "a" ∷ [] → IsCommandOf true words row_command
row_is_command words are = record {
  rest = row_names;
  options = none_asked;
  words_are = are;
  split = record { asked = []; words_are = refl; known = tt; once = tt; options_are = refl; ends = refl };
  workers_are = refl;
  picks_are = refl;
  show_is = refl;
  named = record { some = λ e. absurd (cc); most = omega arith; names = (λ e. omega arith, refl, tt) };
}

-- ---- the shelf

none_is_out : (out : List ℕ → Option (Option MemDisk)) (disk : MemDisk) (name : List ℕ) → out (codes "a") ≡ Some (Some disk)
    → ((other : List ℕ) → other ≢ codes "a" → out other ≡ None) → (b : Bool) → bytes_eq name (codes "a") ≡ b → ¬ out_of out name
none_is_out out disk name home others true is gone =
    let same : name ≡ codes "a" = (bytes_eq-Decides name (codes "a")).0 is in
    let there : out name ≡ Some (Some disk) = ap out same ∙ home in
    absurd (cc)
none_is_out out disk name home others false is gone =
    let none : out name ≡ None = others name (λ e. let yes : bytes_eq name (codes "a") ≡ true = (bytes_eq-Decides name (codes "a")).1 e in absurd (cc)) in
    absurd (cc)

pub all_at_home : (image : List ℕ) (shelf : MemShelf MemDisk) → HasOneImage image shelf → (name : List ℕ) → ¬ out_of (shelf_slot shelf) name
all_at_home image shelf has name = none_is_out (shelf_slot shelf) has.disk name has.home has.others (bytes_eq name (codes "a")) refl

pub image_told : (image : List ℕ) (shelf : MemShelf MemDisk) → HasOneImage image shelf → TellEach (image_of (shelf_slot shelf)) row_names (image ∷ [])
image_told image shelf has = ((has.disk, has.home, sym has.stored), tt)

pub shelf_sound : (image : List ℕ) (shelf : MemShelf MemDisk) → HasOneImage image shelf → AllByRecursion (IsSoundShelf shelf) row_names
shelf_sound image shelf has =
    let sound : IsSoundDisk has.disk = record { unlisted = has.disk_steady; faultless = has.disk_faultless } in (
      record {
        steady = record { unlisted = has.steady; faultless = has.faultless };
        disks = has.disks_faultless;
        kept = subst IsSoundSlot (sym has.home) sound;
      },
      tt,
    )

pub blank_is_long : length blank_image ≡ 65536
unfolding zeros
blank_is_long = length-replicate {A = ℕ} 65536 0

pub size_lawful : (image : List ℕ) → length image ≡ 65536 → AllByRecursion HasLawfulSize (map length (image ∷ []))
size_lawful image long = (record { low = omega arith; high = omega arith }, tt)

-- ---- what the headline gives

one_reading : (r : Result Script ScriptFault) (a b : Script) → r ≡ Ok a → r ≡ Ok b → a ≡ b
one_reading r a b p q = cc

one_script : (a b : Script) → IsScriptOf row_text a → IsScriptOf row_text b → a ≡ b
one_script a b p q = one_reading (reading row_text) a b p q

-- what the run comes to
pub record IsRow (image : List ℕ) (old new : List ℕ → Type 0) (told : List ℕ → List ℕ → Type 0) (code : ℕ) : Type 0 where
  pub code_is : code ≡ 0
  pub written : (held : List ℕ) → old held → new (held ++ row_report)
  pub sector : ℕ
  pub inside : sector < 128
  pub stored : told (codes "a") (overwritten image (sector * 512) (replicate 512 0x41))

row_by : (image : List ℕ) (journal : Journal) (old new : List ℕ → Type 0) (told : List ℕ → List ℕ → Type 0) (code : ℕ) → length image ≡ 65536
    → Headline (Report false false) row_script row_names (image ∷ []) journal told old new code → IsRow image old new told code
row_by image journal old new told code long h =
    let m = h.meaning in
    let run = row_runs journal.places image long m.run.places in
    let printed : h.printed ≡ row_report =
    m.run.report
    ∙ (ap (λ (e : Ending). run_text (Report false false) (record { tops = 1; images = 1; requests = 2 }) (records_of journal) (course_of row_script (image ∷ []) journal).events e) m.run.ending_is
    ∙ (ap (λ (c : Course). run_text (Report false false) (record { tops = 1; images = 1; requests = 2 }) (records_of journal) c.events (ending c.state)) run.is
    ∙ report_is run.sector image (records_of journal))) in
    let after : h.after ≡ overwritten image (run.sector * 512) (replicate 512 0x41) ∷ [] = m.run.images ∙ ap (λ (c : Course). c.state.images) run.is in
    let stored : TellEach told row_names (overwritten image (run.sector * 512) (replicate 512 0x41) ∷ []) = subst (TellEach told row_names) after h.stored in
    record {
      code_is = m.code_is ∙ (ap (λ (e : Ending). end_code e) m.run.ending_is ∙ ap (λ (c : Course). end_code (ending c.state)) run.is);
      written = λ held was. subst (λ (text : List ℕ). new (held ++ text)) printed (h.written held was);
      sector = run.sector;
      inside = run.inside;
      stored = stored.0;
    }

pub row_is : (image : List ℕ) (journal : Journal) (read : Script) (old new : List ℕ → Type 0) (told : List ℕ → List ℕ → Type 0) (code : ℕ) → length image ≡ 65536
    → IsScriptOf row_text read → Headline (Report false false) read row_names (image ∷ []) journal told old new code → IsRow image old new told code
row_is image journal read old new told code long is h =
    row_by image journal old new told code long
    (subst (λ (s : Script). Headline (Report false false) s row_names (image ∷ []) journal told old new code) (one_script read row_script is row_is_read) h)
