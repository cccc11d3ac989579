-- What follows from how the call of a command ends.
use Rattle.std.proofs.Common.{◌≡◌, ◌<◌, ◌≤◌, ◌^◌, ℕ, List, [], ◌∷◌, ◌⊎◌, inl, inr, Bool, true, false, length, map, refl, sym, subst, arith}
use Rattle.std.specs.List.{AllByRecursion}
use Rattle.zio_types.specs.declared.journal.Journal.{Journal}
use Rattle.zio_outside.specs.Outside.{Rose}
use Rattle.zio_script.specs.declared.script.Script.{Script}
use Rattle.zio_script.specs.Grammar.{IsScriptOf}
use Rattle.zio_cksum.specs.Images.{Images}
use Rattle.zio_gen.specs.declared.script.TheConstants.{BLOCKS_MAX}
use Rattle.zio_gen.specs.Generated.{script_text}
use Rattle.zio_report.specs.declared.report.RunFault.{RunFault}
use Rattle.zio_report.specs.declared.report.RunFault.TheVariants.{Device, Sink, Memory}
use Rattle.zio_command.specs.declared.mode.RunMode.{RunMode}
use Rattle.zio_command.specs.declared.words.Command.{Command}
use Rattle.zio_command.specs.declared.words.Command.TheVariants.{Run, Scrub, Gen, Load}
use Rattle.zio_command.specs.Causes.{AreUntouched, IsLeafCause}
use Rattle.zio_command.specs.Codes.{HasRun, RunEnds, ScriptEnds, WasUnbegun}
use Rattle.zio_command.specs.Codes.RunEnds.{AsScript, Refused, RefusedCut, Wanting}
use Rattle.zio_command.specs.Codes.ScriptEnds.{Ran, CutShort, NoImage, NoImageCut, Wanting as WantingFirst}
use Rattle.zio_command.specs.Commands.{CommandEnds, image_names, mode_of, runs, told_by}
use Rattle.zio_command.specs.Headline.{TellEach}
use Rattle.zio_command.specs.Outcomes.{HasLawfulSize, IsEnding, IsSerialCode, cut_code}
use Rattle.zio_command.specs.Seen.{ShelfSeen, SinkSeen, SourceSeen}
use Rattle.zio_command.specs.Shelves.{IsFirstUnlawful}
use Rattle.zio_command.specs.Tops.{HaveImages, IsFirstMissing, leaves_of}
use Rattle.zio_command.specs.Words.{IsCommandOf, IsLawfulCommand}
use Rattle.zio_command.proofs.EndLemmas.{no_ending}
use Rattle.zio_command.proofs.ScriptLemmas.{no_script, one_script}
use Rattle.zio_command.proofs.ShelfLemmas.{StaysHome-refl}
use Rattle.zio_command.proofs.TopLemmas.{all_front, all_index}
use Rattle.zio_command.proofs.TripLemmas.{told_length}

-- ---- a leaf without an image

unlawful_not : (sizes : List ℕ) (leaf : ℕ) → IsFirstUnlawful sizes leaf → AllByRecursion HasLawfulSize sizes → ⊥
unlawful_not sizes leaf first all = first.unlawful (all_index HasLawfulSize sizes leaf all first.there)

missing_not : (images : ℕ) (leaves : List ℕ) (leaf : ℕ) → IsFirstMissing images leaves leaf → HaveImages images leaves → ⊥
missing_not images leaves leaf first have =
    let parts = all_front (λ n. n < images) first.front (leaf ∷ first.behind)
    (subst (λ (ns : List ℕ). AllByRecursion (λ n. n < images) ns) first.leaves_are have) in
    let here : leaf < images = parts.1.0 in
    let none : images ≤ leaf = first.missing in
    omega arith

cause_not : (script : Script) (names : List (List ℕ)) (old new : ShelfSeen) (leaf : ℕ) (images : Images) → IsLeafCause script names old new leaf → old.tells
    → TellEach old.image names images → AllByRecursion HasLawfulSize (map (length {A = ℕ}) images) → HaveImages (length images) (leaves_of script.tops)
    → ¬ Rose old.faults new.faults → ⊥
cause_not script names old new leaf images (inl unfetched) tells each lawful have steady = steady unfetched.rose
cause_not script names old new leaf images (inr (inl unlawful)) tells each lawful have steady =
    unlawful_not (map (length {A = ℕ}) images) leaf (unlawful.first images tells each) lawful
cause_not script names old new leaf images (inr (inr missing)) tells each lawful have steady =
    missing_not (length names) (leaves_of script.tops) leaf missing.first
    (subst (λ (n : ℕ). HaveImages n (leaves_of script.tops)) (told_length old.image names images each) have)

-- ---- codes

pub untouched_itself : (shelf : ShelfSeen) → AreUntouched shelf shelf
untouched_itself shelf = record { disk_faults = refl; home = λ tells. StaysHome-refl shelf.image shelf.out }

-- nothing was begun
pub wanting : (sink : SinkSeen) (shelf : ShelfSeen) (journal : Journal) → WasUnbegun sink sink shelf shelf journal journal
wanting sink shelf journal = record { nothing = λ x. (λ h. h, λ h. h); untouched = untouched_itself shelf; unentered = refl }

cut_no_ending : (code : ℕ) (fault : RunFault) → IsEnding code → code ≡ cut_code fault → ⊥
cut_no_ending code Device e is = no_ending code 7 e is (inr (inr (inr (inr (inr (inl refl))))))
cut_no_ending code Sink e is = no_ending code 6 e is (inr (inr (inr (inr (inl refl)))))
cut_no_ending code Memory e is = no_ending code 8 e is (inr (inr (inr (inr (inr (inr refl))))))

other_code : (code m n : ℕ) → code ≡ m → code ≡ n → (n ≡ 1) ⊎ (n ≡ 2) ⊎ (n ≡ 5) → (m ≡ 3) ⊎ (m ≡ 6) ⊎ (m ≡ 7) ⊎ (m ≡ 8) → ⊥
other_code code m n a b c d = elim c [
  | inl one ↦ elim d [ inl p ↦ omega arith | inr (inl p) ↦ omega arith | inr (inr (inl p)) ↦ omega arith | inr (inr (inr p)) ↦ omega arith ]
  | inr (inl two) ↦ elim d [ inl p ↦ omega arith | inr (inl p) ↦ omega arith | inr (inr (inl p)) ↦ omega arith | inr (inr (inr p)) ↦ omega arith ]
  | inr (inr five) ↦ elim d [ inl p ↦ omega arith | inr (inl p) ↦ omega arith | inr (inr (inl p)) ↦ omega arith | inr (inr (inr p)) ↦ omega arith ]
]

-- a script's run has no code of the words, of a refused text or of the source
pub script_never : {mode : RunMode} {script : Script} {names : List (List ℕ)} {old_sink new_sink : SinkSeen} {old new : ShelfSeen} {old_journal journal : Journal} {code : ℕ}
    → ScriptEnds mode script names old_sink new_sink old new old_journal journal code → (n : ℕ) → code ≡ n → (n ≡ 1) ⊎ (n ≡ 2) ⊎ (n ≡ 5) → ⊥
script_never {code = code} (Ran e ran) n is (inl one) = no_ending code n e is (inl one)
script_never {code = code} (Ran e ran) n is (inr (inl two)) = no_ending code n e is (inr (inl two))
script_never {code = code} (Ran e ran) n is (inr (inr five)) = no_ending code n e is (inr (inr (inr (inl five))))
script_never {code = code} (CutShort Device c cut) n is any = other_code code 7 n c is any (inr (inr (inl refl)))
script_never {code = code} (CutShort Sink c cut) n is any = other_code code 6 n c is any (inr (inl refl))
script_never {code = code} (CutShort Memory c cut) n is any = other_code code 8 n c is any (inr (inr (inr refl)))
script_never {code = code} (NoImage c was) n is any = other_code code 3 n c is any (inl refl)
script_never {code = code} (NoImageCut leaf c cause cut) n is any = other_code code 6 n c is any (inr (inl refl))
script_never {code = code} (WantingFirst c was) n is any = other_code code 8 n c is any (inr (inr (inr refl)))

-- a run has no code of the words or of the source
pub run_never : {told : List ℕ → Type 0} {mode : RunMode} {names : List (List ℕ)} {old_sink new_sink : SinkSeen} {old new : ShelfSeen} {old_journal journal : Journal} {code : ℕ}
    → RunEnds told mode names old_sink new_sink old new old_journal journal code → (n : ℕ) → code ≡ n → (n ≡ 1) ⊎ (n ≡ 5) → ⊥
run_never (AsScript script is ends) n same (inl one) = script_never ends n same (inl one)
run_never (AsScript script is ends) n same (inr five) = script_never ends n same (inr (inr five))
run_never (Refused c was) n is (inl one) = omega arith
run_never (Refused c was) n is (inr five) = omega arith
run_never (RefusedCut fault c told cut) n is (inl one) = omega arith
run_never (RefusedCut fault c told cut) n is (inr five) = omega arith
run_never (Wanting c was) n is (inl one) = omega arith
run_never (Wanting c was) n is (inr five) = omega arith

-- ---- the codes 0, 4 and 9

script_ended : {mode : RunMode} {script : Script} {names : List (List ℕ)} {old_sink new_sink : SinkSeen} {old new : ShelfSeen} {old_journal journal : Journal} {code : ℕ}
    → ScriptEnds mode script names old_sink new_sink old new old_journal journal code → IsEnding code → HasRun mode script names code old_sink new_sink old new journal
script_ended (Ran e ran) ending = ran
script_ended {code = code} (CutShort fault c cut) ending = absurd (cut_no_ending code fault ending c)
script_ended {code = code} (NoImage c was) ending = absurd (no_ending code 3 ending c (inr (inr (inl refl))))
script_ended {code = code} (NoImageCut leaf c cause cut) ending = absurd (no_ending code 6 ending c (inr (inr (inr (inr (inl refl))))))
script_ended {code = code} (WantingFirst c was) ending = absurd (no_ending code 8 ending c (inr (inr (inr (inr (inr (inr refl)))))))

run_ended : {told : List ℕ → Type 0} {mode : RunMode} {names : List (List ℕ)} {old_sink new_sink : SinkSeen} {old new : ShelfSeen} {old_journal journal : Journal} {code : ℕ}
    → RunEnds told mode names old_sink new_sink old new old_journal journal code → IsEnding code
    → (script : Script) × ((text : List ℕ) → told text → IsScriptOf text script) × HasRun mode script names code old_sink new_sink old new journal
run_ended (AsScript script is ends) ending = (script, is, script_ended ends ending)
run_ended {code = code} (Refused c was) ending = absurd (no_ending code 2 ending c (inr (inl refl)))
run_ended {code = code} (RefusedCut fault c is cut) ending = absurd (no_ending code 6 ending c (inr (inr (inr (inr (inl refl))))))
run_ended {code = code} (Wanting c was) ending = absurd (no_ending code 8 ending c (inr (inr (inr (inr (inr (inr refl)))))))

pub command_ended : (command : Command) (old_source new_source : SourceSeen) (old_sink new_sink : SinkSeen) (old new : ShelfSeen) (old_journal journal : Journal) (code : ℕ)
    → CommandEnds command old_source new_source old_sink new_sink old new old_journal journal code → runs command ≡ true → IsEnding code
    → (script : Script) × ((text : List ℕ) → told_by old_source.left command text → IsScriptOf text script)
    × HasRun (mode_of command) script (image_names command) code old_sink new_sink old new journal
command_ended (Run workers picks show names) old_source new_source old_sink new_sink old new old_journal journal code (inl unread) r e =
    absurd (no_ending code 5 e unread.0 (inr (inr (inr (inl refl)))))
command_ended (Run workers picks show names) old_source new_source old_sink new_sink old new old_journal journal code (inr ends) r e = run_ended ends e
command_ended (Scrub picks names) old_source new_source old_sink new_sink old new old_journal journal code (inl unread) r e =
    absurd (no_ending code 5 e unread.0 (inr (inr (inr (inl refl)))))
command_ended (Scrub picks names) old_source new_source old_sink new_sink old new old_journal journal code (inr ends) r e = run_ended ends e
command_ended (Gen seed n) old_source new_source old_sink new_sink old new old_journal journal code ends r e = let no : false ≡ true = r in cc
command_ended (Load seed n names) old_source new_source old_sink new_sink old new old_journal journal code (script, accepted, ends) r e =
    (script, λ text told. subst (λ (t : List ℕ). IsScriptOf t script) (sym told) accepted, script_ended ends e)

-- ---- completeness

script_complete : {mode : RunMode} {script : Script} {names : List (List ℕ)} {old_sink new_sink : SinkSeen} {old new : ShelfSeen} {old_journal journal : Journal} {code : ℕ}
    → ScriptEnds mode script names old_sink new_sink old new old_journal journal code → (images : Images) → old.tells → TellEach old.image names images
    → AllByRecursion HasLawfulSize (map (length {A = ℕ}) images) → HaveImages (length images) (leaves_of script.tops)
    → ¬ Rose old_sink.faults new_sink.faults → ¬ Rose old.faults new.faults → ¬ Rose old.disk_faults new.disk_faults → IsEnding code ⊎ (code ≡ 8)
script_complete (Ran e ran) images tells each lawful have s f d = inl e
script_complete (CutShort Device c cut) images tells each lawful have s f d = absurd (d cut.cause)
script_complete (CutShort Sink c cut) images tells each lawful have s f d = absurd (s cut.cause)
script_complete (CutShort Memory c cut) images tells each lawful have s f d = inr c
script_complete {script = script} {names = names} {old = old} {new = new} (NoImage c was) images tells each lawful have s f d =
    absurd (cause_not script names old new was.leaf images was.cause tells each lawful have f)
script_complete (NoImageCut leaf c cause cut) images tells each lawful have s f d = absurd (s cut.rose)
script_complete (WantingFirst c was) images tells each lawful have s f d = inr c

-- a script's images are there where those of the same script are
have_same : (images : ℕ) (text : List ℕ) (script other : Script) → IsScriptOf text script → IsScriptOf text other
    → HaveImages images (leaves_of script.tops) → HaveImages images (leaves_of other.tops)
have_same images text script other accepted is have =
    subst (λ (x : Script). HaveImages images (leaves_of x.tops)) (one_script text script other accepted is) have

run_complete : {told : List ℕ → Type 0} {mode : RunMode} {names : List (List ℕ)} {old_sink new_sink : SinkSeen} {old new : ShelfSeen} {old_journal journal : Journal} {code : ℕ}
    → RunEnds told mode names old_sink new_sink old new old_journal journal code → (text : List ℕ) (script : Script) (images : Images) → told text
    → IsScriptOf text script → old.tells → TellEach old.image names images → AllByRecursion HasLawfulSize (map (length {A = ℕ}) images)
    → HaveImages (length images) (leaves_of script.tops) → ¬ Rose old_sink.faults new_sink.faults → ¬ Rose old.faults new.faults → ¬ Rose old.disk_faults new.disk_faults
    → IsEnding code ⊎ (code ≡ 8)
run_complete (AsScript other is ends) text script images told accepted tells each lawful have s f d =
    script_complete ends images tells each lawful (have_same (length images) text script other accepted (is text told) have) s f d
run_complete (Refused c was) text script images told accepted tells each lawful have s f d = absurd (no_script text script was.fault accepted (was.faulty text told))
run_complete (RefusedCut fault c is cut) text script images told accepted tells each lawful have s f d = absurd (s cut.rose)
run_complete (Wanting c was) text script images told accepted tells each lawful have s f d = inr c

pub command_complete : (command : Command) (old_source new_source : SourceSeen) (old_sink new_sink : SinkSeen) (old new : ShelfSeen) (old_journal journal : Journal) (code : ℕ)
    → CommandEnds command old_source new_source old_sink new_sink old new old_journal journal code → (text : List ℕ) (script : Script) (images : Images)
    → runs command ≡ true → told_by old_source.left command text → IsScriptOf text script → old.tells → TellEach old.image (image_names command) images
    → AllByRecursion HasLawfulSize (map (length {A = ℕ}) images) → HaveImages (length images) (leaves_of script.tops)
    → ¬ Rose old_source.faults new_source.faults → ¬ Rose old_sink.faults new_sink.faults → ¬ Rose old.faults new.faults → ¬ Rose old.disk_faults new.disk_faults
    → IsEnding code ⊎ (code ≡ 8)
command_complete (Run workers picks show names) old_source new_source old_sink new_sink old new old_journal journal code (inl unread) text script images r told accepted tells each lawful have p s f d =
    absurd (p unread.1.rose)
command_complete (Run workers picks show names) old_source new_source old_sink new_sink old new old_journal journal code (inr ends) text script images r told accepted tells each lawful have p s f d =
    run_complete ends text script images told accepted tells each lawful have s f d
command_complete (Scrub picks names) old_source new_source old_sink new_sink old new old_journal journal code (inl unread) text script images r told accepted tells each lawful have p s f d =
    absurd (p unread.1.rose)
command_complete (Scrub picks names) old_source new_source old_sink new_sink old new old_journal journal code (inr ends) text script images r told accepted tells each lawful have p s f d =
    run_complete ends text script images told accepted tells each lawful have s f d
command_complete (Gen seed n) old_source new_source old_sink new_sink old new old_journal journal code ends text script images r told accepted tells each lawful have p s f d =
    absurd told
command_complete (Load seed n names) old_source new_source old_sink new_sink old new old_journal journal code (other, is, ends) text script images r told accepted tells each lawful have p s f d =
    script_complete ends images tells each lawful
    (have_same (length images) text script other accepted (subst (λ (t : List ℕ). IsScriptOf t other) (sym told) is) have) s f d

-- ---- other codes

-- the call of a command has no code of the words
pub command_never : (command : Command) (old_source new_source : SourceSeen) (old_sink new_sink : SinkSeen) (old new : ShelfSeen) (old_journal journal : Journal) (code : ℕ)
    → CommandEnds command old_source new_source old_sink new_sink old new old_journal journal code → code ≡ 1 → ⊥
command_never (Run workers picks show names) old_source new_source old_sink new_sink old new old_journal journal code (inl unread) one = let five = unread.0 in omega arith
command_never (Run workers picks show names) old_source new_source old_sink new_sink old new old_journal journal code (inr ends) one = run_never ends 1 one (inl refl)
command_never (Scrub picks names) old_source new_source old_sink new_sink old new old_journal journal code (inl unread) one = let five = unread.0 in omega arith
command_never (Scrub picks names) old_source new_source old_sink new_sink old new old_journal journal code (inr ends) one = run_never ends 1 one (inl refl)
command_never (Gen seed n) old_source new_source old_sink new_sink old new old_journal journal code ends one = elim ends.codes_are [
  | inl e ↦ omega arith
  | inr (inl e) ↦ omega arith
  | inr (inr e) ↦ omega arith
]
command_never (Load seed n names) old_source new_source old_sink new_sink old new old_journal journal code (script, is, ends) one = script_never ends 1 one (inl refl)

-- memory was wanting before anything was done; the text of `load` is a script
pub command_wanting : ((seed n : ℕ) → seed < 2 ^ 32 → 1 ≤ n → n ≤ BLOCKS_MAX → (script : Script) × IsScriptOf (script_text seed n) script)
    → (serial : Bool) (words : List (List ℕ)) (command : Command) (source : SourceSeen) (sink : SinkSeen) (shelf : ShelfSeen) (journal : Journal)
    → IsCommandOf serial words command
    → CommandEnds command source source sink sink shelf shelf journal journal 8
command_wanting scripts serial words (Run workers picks show names) source sink shelf journal is = inr (Wanting refl (wanting sink shelf journal))
command_wanting scripts serial words (Scrub picks names) source sink shelf journal is = inr (Wanting refl (wanting sink shelf journal))
command_wanting scripts serial words (Gen seed n) source sink shelf journal is = record {
  codes_are = inr (inr refl);
  written = λ e. absurd (omega arith);
  steady = λ e. refl;
  failed = λ e. absurd (omega arith);
  front = λ e. absurd (omega arith);
  nothing = λ e x. (λ h. h, λ h. h);
}
command_wanting scripts serial words (Load seed n names) source sink shelf journal is =
    let size = is.1.size in
    let script = scripts seed n size.seed_fits size.blocks.low size.blocks.high in
    (script.0, script.1, WantingFirst refl (wanting sink shelf journal))

-- ---- all codes

script_code : {mode : RunMode} {script : Script} {names : List (List ℕ)} {old_sink new_sink : SinkSeen} {old new : ShelfSeen} {old_journal journal : Journal} {code : ℕ}
    → ScriptEnds mode script names old_sink new_sink old new old_journal journal code → IsSerialCode code
script_code (Ran e ran) = inl e
script_code (CutShort Device c cut) = inr (inr (inr (inr (inr (inr (inl c))))))
script_code (CutShort Sink c cut) = inr (inr (inr (inr (inr (inl c)))))
script_code (CutShort Memory c cut) = inr (inr (inr (inr (inr (inr (inr c))))))
script_code (NoImage c was) = inr (inr (inr (inl c)))
script_code (NoImageCut leaf c cause cut) = inr (inr (inr (inr (inr (inl c)))))
script_code (WantingFirst c was) = inr (inr (inr (inr (inr (inr (inr c))))))

run_code : {told : List ℕ → Type 0} {mode : RunMode} {names : List (List ℕ)} {old_sink new_sink : SinkSeen} {old new : ShelfSeen} {old_journal journal : Journal} {code : ℕ}
    → RunEnds told mode names old_sink new_sink old new old_journal journal code → IsSerialCode code
run_code (AsScript script is ends) = script_code ends
run_code (Refused c was) = inr (inr (inl c))
run_code (RefusedCut fault c is cut) = inr (inr (inr (inr (inr (inl c)))))
run_code (Wanting c was) = inr (inr (inr (inr (inr (inr (inr c))))))

pub command_code : (command : Command) (old_source new_source : SourceSeen) (old_sink new_sink : SinkSeen) (old new : ShelfSeen) (old_journal journal : Journal) (code : ℕ)
    → CommandEnds command old_source new_source old_sink new_sink old new old_journal journal code → IsSerialCode code
command_code (Run workers picks show names) old_source new_source old_sink new_sink old new old_journal journal code (inl unread) = inr (inr (inr (inr (inl unread.0))))
command_code (Run workers picks show names) old_source new_source old_sink new_sink old new old_journal journal code (inr ends) = run_code ends
command_code (Scrub picks names) old_source new_source old_sink new_sink old new old_journal journal code (inl unread) = inr (inr (inr (inr (inl unread.0))))
command_code (Scrub picks names) old_source new_source old_sink new_sink old new old_journal journal code (inr ends) = run_code ends
command_code (Gen seed n) old_source new_source old_sink new_sink old new old_journal journal code ends = elim ends.codes_are [
  | inl done ↦ inl (inl done)
  | inr (inl six) ↦ inr (inr (inr (inr (inr (inl six)))))
  | inr (inr eight) ↦ inr (inr (inr (inr (inr (inr (inr eight))))))
]
command_code (Load seed n names) old_source new_source old_sink new_sink old new old_journal journal code (script, is, ends) = script_code ends

-- ---- counts that stayed

-- the counts of the sink and of the shelf stayed where the run came to its end
pub command_steady : (command : Command) (old_source new_source : SourceSeen) (old_sink new_sink : SinkSeen) (old new : ShelfSeen) (old_journal journal : Journal) (code : ℕ)
    → CommandEnds command old_source new_source old_sink new_sink old new old_journal journal code → IsEnding code
    → (runs command ≡ false → (new.faults ≡ old.faults) × (new.disk_faults ≡ old.disk_faults))
    → (new_sink.faults ≡ old_sink.faults) × (new.faults ≡ old.faults) × (new.disk_faults ≡ old.disk_faults)
command_steady (Run workers picks show names) old_source new_source old_sink new_sink old new old_journal journal code ends e still =
    let ran = (command_ended (Run workers picks show names) old_source new_source old_sink new_sink old new old_journal journal code ends refl e).2 in
    (ran.sink_steady, ran.fit.measured.steady, ran.disks_steady)
command_steady (Scrub picks names) old_source new_source old_sink new_sink old new old_journal journal code ends e still =
    let ran = (command_ended (Scrub picks names) old_source new_source old_sink new_sink old new old_journal journal code ends refl e).2 in
    (ran.sink_steady, ran.fit.measured.steady, ran.disks_steady)
command_steady (Gen seed n) old_source new_source old_sink new_sink old new old_journal journal code ends e still =
    let stayed = still refl in
    elim ends.codes_are [
      | inl done ↦ (ends.steady done, stayed.0, stayed.1)
      | inr (inl six) ↦ absurd (no_ending code 6 e six (inr (inr (inr (inr (inl refl))))))
      | inr (inr eight) ↦ absurd (no_ending code 8 e eight (inr (inr (inr (inr (inr (inr refl)))))))
    ]
command_steady (Load seed n names) old_source new_source old_sink new_sink old new old_journal journal code ends e still =
    let ran = (command_ended (Load seed n names) old_source new_source old_sink new_sink old new old_journal journal code ends refl e).2 in
    (ran.sink_steady, ran.fit.measured.steady, ran.disks_steady)

-- the images of a command that runs a script have a first name
pub first_name : (command : Command) (sound : List ℕ → Type 0) → IsLawfulCommand command → runs command ≡ true → AllByRecursion sound (image_names command)
    → (name : List ℕ) × sound name
first_name (Run workers picks show []) sound lawful r all = absurd (lawful.some refl)
first_name (Run workers picks show (name ∷ names)) sound lawful r all = (name, all.0)
first_name (Scrub picks []) sound lawful r all = absurd (lawful.some refl)
first_name (Scrub picks (name ∷ names)) sound lawful r all = (name, all.0)
first_name (Gen seed n) sound lawful r all = let no : false ≡ true = r in cc
first_name (Load seed n []) sound lawful r all = absurd (lawful.1.some refl)
first_name (Load seed n (name ∷ names)) sound lawful r all = (name, all.0)
