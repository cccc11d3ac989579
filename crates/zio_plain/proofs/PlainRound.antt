-- A round of the plain runner: from what ran over its ground to what contracts say of it.
use Rattle.std.proofs.Common.{◌≡◌, ℕ, List, [], map, false, true, refl, sym, ap, ◌∙◌, subst}
use Rattle.std.specs.Prelude.{Result, Ok, Err, OnErr}
use Rattle.std.specs.List.{AllByRecursion}
use Rattle.std.proofs.lemmas.List.{map-id}
use Rattle.zio_types.specs.declared.place.Place.{Place}
use Rattle.zio_types.specs.declared.place.TopSize.{TopSize}
use Rattle.zio_types.specs.declared.journal.Completion.{Completion}
use Rattle.zio_types.specs.Choices.{Choice}
use Rattle.zio_types.specs.Places.{SamePlaces}
use Rattle.zio_cksum.specs.Images.{Images, Setting}
use Rattle.zio_script.specs.declared.script.Failmode.{Failmode}
use Rattle.zio_gang.specs.declared.tree.Tree.{Tree}
use Rattle.zio_gang.specs.Attempts.{Pending, Terms}
use Rattle.zio_gang.specs.Journals.{AreLawful, HaveDistinctKeys, asks_of}
use Rattle.zio_gang.specs.Rounds.{settle_each}
use Rattle.zio_gang.specs.Trees.{sizes_of}
use Rattle.zio_disks.specs.Disks.{Tell}
use Rattle.zio_disks.specs.Trees.{BearsTops}
use Rattle.zio_blocks.specs.Blocks.{HavePointers}
use Rattle.zio_blocks.specs.Choosers.{AreHeld, AreLeft, EntryLaw, HoldsOfNone}
use Rattle.zio_blocks.specs.EntryLaws.{are_lawful_same}
use Rattle.zio_course.specs.declared.runner.RequestEnd.{RequestEnd}
use Rattle.zio_course.specs.declared.runner.Stop.TheVariants.{Device, Memory}
use Rattle.zio_course.specs.Runners.{AreRunnable, DiffersInRound, IsRound, SeenEnd, Standing, StandsAfter, StoppedAfter, made_places, terms_at}
use Rattle.zio_course.proofs.FreedLemmas.{runnable_freed}
use Rattle.zio_plain.specs.declared.ground.Ground.{Ground}
use Rattle.zio_plain.specs.GroundLaws.{breaks_itself, memory_no_device}
use Rattle.zio_plain.specs.Grounds.{Breaks, Moves, SeenGround, TellChanged, seen}
use Rattle.zio_plain.specs.Plains.{IsSteady, SeenPlain, standing_of}
use Rattle.zio_plain.specs.Settlings.{IsTreesRun, TellsRan, TreeRun, ends_run, named_in}
use Rattle.zio_plain.specs.Entries.{AreEntriesFor, AreTermsFrom, HaveRunOn}
use Rattle.zio_plain.proofs.PlainBegun.{HasBegun, SteadyPlain, begun, has_moved, sees_begun}
use Rattle.zio_plain.proofs.PlainDone.{HasRun, all_entries, differs, lives}
use Rattle.zio_plain.proofs.PlainFreed.{places_in}
use Rattle.zio_disks.proofs.TellLemmas.{one_told}
use Rattle.zio_plain.proofs.PlainTold.{asked_distinct, have_run, round_told, seen_end, seen_itself}

-- what holds after an error holds where there is one
pub on_err : {A E P : Type 0} (r : Result A E) → P → OnErr r P
on_err (Ok x) h = tt
on_err (Err e) h = h

-- trees seen as they are
pub runnable : (s : Standing) (trees : List (List Pending)) → AreRunnable s (map (λ (tree : List Pending). tree) trees) → AreRunnable s trees
runnable s trees h = subst (AreRunnable s) (map-id trees) h

module _ {D C : Type 0} (bytes faults faults_at_fetch : D → ℕ) (home image : D → List ℕ → Type 0) (sound : D → Type 0) (Lawful : EntryLaw)
    (sizes : C → List TopSize) (used live : C → List Place) (given : C → List Choice) where
  abbrev Sees : Ground D C → SeenGround D
  Sees g = seen sizes used live given g

  abbrev Begun : SeenPlain D C → ℕ → ℕ → SeenGround D
  Begun p number point = begun bytes faults faults_at_fetch home image sound Lawful sizes used live given p number point

  abbrev Runs : SeenPlain D C → ℕ → ℕ → List (List Pending) → List TreeRun → List RequestEnd → List Tree → SeenGround D → Type 0
  Runs p number point trees runs finished freed new = HasRun bytes faults faults_at_fetch home image sound Lawful sizes used live given p number point trees runs finished freed new

  -- the trees ran over the ground
  pub has_run : HoldsOfNone Lawful → (p : SeenPlain D C) (number point : ℕ) (trees : List (List Pending)) (left : List (List Pending)) (finished : List RequestEnd) (completions : List Completion) (freed : List Tree) (failmode : Failmode) (old new : Ground D C)
      (tells : Ground D C → Images → Type 0) (is_of fresh : Ground D C → Terms → Type 0) (gave : Ground D C → List Choice)
      → SteadyPlain bytes faults faults_at_fetch home image sound Lawful sizes used live given p → HasBegun bytes faults faults_at_fetch home image sound Lawful sizes used live given p number point old → AreRunnable (standing_of faults live p) trees
      → (r : IsTreesRun tells is_of fresh gave (λ a b stay. Moves bytes faults faults_at_fetch home image sound Lawful (named_in trees) (Sees a) (Sees b) stay) number failmode trees left finished completions freed old new)
      → Runs p number point trees r.each_run finished freed (Sees new)
  has_run empty p number point trees left finished completions freed failmode old new tells is_of fresh gave steady begins runs r = record {
    steady = steady;
    moved = has_moved bytes faults faults_at_fetch home image sound Lawful sizes used live given empty p number point (named_in trees) (Sees new) (made_places (ends_run r.each_run)) steady
        (subst (λ (s : SeenGround D). Moves bytes faults faults_at_fetch home image sound Lawful (named_in trees) s (Sees new) (made_places (ends_run r.each_run)))
        (sees_begun bytes faults faults_at_fetch home image sound Lawful sizes used live given p number point old begins) r.moved);
    whole = r.whole;
    each = r.each;
    same = r.same;
    freed_are = r.freed_are;
    once = runs.once;
    within = runs.live;
    apart = runnable_freed (standing_of faults live p) trees runs;
  }

  -- ---- after the round

  pub steady_after : (p : SeenPlain D C) (number point : ℕ) (trees : List (List Pending)) (runs : List TreeRun) (finished : List RequestEnd) (freed : List Tree) (new : Ground D C) (last : C)
      → Runs p number point trees runs finished freed (Sees new) → sizes last ≡ sizes new.chooser → AreHeld (sizes last) (used last) (live last) → SamePlaces (used last) (live last) → given last ≡ []
      → IsSteady new.setting (map bytes new.disks.items) (sizes last) (used last) (live last) (given last)
  steady_after p number point trees runs finished freed new last h sizes_are held same none =
      let setting : new.setting ≡ record { tops = p.setting.tops; rows = p.setting.rows; point = point } = h.moved.setting in record {
        bears = subst (λ s. BearsTops s (map bytes new.disks.items)) (sym setting)
            (subst (BearsTops (record { tops = p.setting.tops; rows = p.setting.rows; point = point })) (sym h.moved.disks.sizes) (record { rows = h.steady.bears.rows; tops = h.steady.bears.tops }));
        tops = subst (λ ts. HavePointers ts) (ap (λ s. s.tops) (sym setting)) h.steady.tops;
        sizes_are = sizes_are ∙ h.moved.sizes ∙ h.steady.sizes_are ∙ ap (λ s. sizes_of s.tops) (sym setting);
        held = held;
        same = same;
        taken = none;
      }

  pub stands_after : (p q : SeenPlain D C) (number point : ℕ) (trees : List (List Pending)) (runs : List TreeRun) (freed : List Tree) (end : SeenEnd) (new : Ground D C)
      → Runs p number point trees runs end.finished freed (Sees new) → q.setting ≡ new.setting → q.disks ≡ new.disks.items → q.last ≡ number → q.stopped ≡ false → AreLeft (live new.chooser) (places_in freed) (live q.chooser)
      → StandsAfter (standing_of faults live p) (standing_of faults live q) number (map (λ (tree : List Pending). tree) trees) (seen_end end)
  stands_after p q number point trees runs freed end new h setting disks last stopped left =
      subst (λ ts. StandsAfter (standing_of faults live p) (standing_of faults live q) number ts (seen_end end)) (sym (map-id trees)) (subst (StandsAfter (standing_of faults live p) (standing_of faults live q) number trees) (sym (seen_itself end)) (record {
        tops = ap (λ s. s.tops) (setting ∙ h.moved.setting);
        rows = ap (λ s. s.rows) (setting ∙ h.moved.setting);
        last = last;
        stopped = stopped;
        faults = ap (map faults) disks ∙ h.moved.steady;
        live = lives bytes faults faults_at_fetch home image sound Lawful sizes used live given p number point trees runs end.finished freed (Sees new) h (live q.chooser) left;
      }))

  -- ---- images

  -- what the chooser gave in the round
  pub gave_lawful : (p : SeenPlain D C) (number point : ℕ) (trees : List (List Pending)) (runs : List TreeRun) (finished : List RequestEnd) (freed : List Tree) (new : Ground D C)
      → Runs p number point trees runs finished freed (Sees new) → Lawful (sizes p.chooser) (used p.chooser) (given new.chooser)
  gave_lawful p number point trees runs finished freed new h =
      subst (Lawful (sizes p.chooser) (used p.chooser)) (sym (all_entries (given p.chooser) h.moved.more (given new.chooser) h.steady.taken h.moved.given)) h.moved.lawful

  pub gave_rounds : (p : SeenPlain D C) (number point : ℕ) (trees : List (List Pending)) (runs : List TreeRun) (finished : List RequestEnd) (freed : List Tree) (new : Ground D C)
      → Runs p number point trees runs finished freed (Sees new) → AllByRecursion (λ (c : Choice). c.asked.key.round ≡ number) (given new.chooser)
  gave_rounds p number point trees runs finished freed new h =
      subst (AllByRecursion (λ (c : Choice). c.asked.key.round ≡ number)) (sym (all_entries (given p.chooser) h.moved.more (given new.chooser) h.steady.taken h.moved.given)) h.moved.rounds

  pub gave_distinct : (p : SeenPlain D C) (number point : ℕ) (trees left : List (List Pending)) (finished : List RequestEnd) (completions : List Completion) (freed : List Tree) (failmode : Failmode) (old new : Ground D C)
      (tells : Ground D C → Images → Type 0) (is_of fresh : Ground D C → Terms → Type 0) (moves : Ground D C → Ground D C → List Place → Type 0)
      → SteadyPlain bytes faults faults_at_fetch home image sound Lawful sizes used live given p → HasBegun bytes faults faults_at_fetch home image sound Lawful sizes used live given p number point old
      → IsTreesRun tells is_of fresh (λ (g : Ground D C). given g.chooser) moves number failmode trees left finished completions freed old new
      → HaveDistinctKeys (asks_of (given new.chooser))
  gave_distinct p number point trees left finished completions freed failmode old new tells is_of fresh moves steady begins r =
      asked_distinct _ (given old.chooser) (given new.chooser) (begins.given_are ∙ steady.taken) r.asked

  -- the same entries beside the live places, on the tops of the setting
  pub fit_live : (p : SeenPlain D C) (gave entries : List Choice) → SteadyPlain bytes faults faults_at_fetch home image sound Lawful sizes used live given p
      → AreEntriesFor (sizes p.chooser) (used p.chooser) gave entries → AreEntriesFor (sizes_of p.setting.tops) (live p.chooser) gave entries
  fit_live p gave entries steady fit = record {
    choices = record {
      distinct = fit.choices.distinct;
      asked = fit.choices.asked;
      answered = fit.choices.answered;
      lawful = subst (λ ts. AreLawful ts (live p.chooser) entries) steady.sizes_are (are_lawful_same (sizes p.chooser) (used p.chooser) (live p.chooser) entries steady.same fit.choices.lawful);
    };
    answers = fit.answers;
  }

  -- the terms of the round
  pub terms_from : (p : SeenPlain D C) (failmode : Failmode) (number point : ℕ) → SteadyPlain bytes faults faults_at_fetch home image sound Lawful sizes used live given p
      → AreTermsFrom number (sizes p.chooser) (used p.chooser) (terms_at (standing_of faults live p) failmode number point)
  terms_from p failmode number point steady = record { round_is = refl; sizes_are = sym steady.sizes_are; used_are = steady.same }

  module _ (p : SeenPlain D C) (number point : ℕ) (trees left : List (List Pending)) (finished : List RequestEnd) (completions : List Completion) (freed : List Tree) (failmode : Failmode) (old new : Ground D C)
      (begins : HasBegun bytes faults faults_at_fetch home image sound Lawful sizes used live given p number point old)
      (r : IsTreesRun (λ (g : Ground D C) images. Tell image g.disks.items images) (λ (g : Ground D C) t. (t.setting ≡ g.setting) × (t.round ≡ g.round)) (λ (g : Ground D C) t. SamePlaces (used g.chooser) t.used) (λ (g : Ground D C). given g.chooser)
      (λ a b stay. Moves bytes faults faults_at_fetch home image sound Lawful (named_in trees) (Sees a) (Sees b) stay) number failmode trees left finished completions freed old new)
      (h : Runs p number point trees r.each_run finished freed (Sees new)) (before : Images) (told : Tell image p.disks before) where
    ran_so : TellsRan (λ (g : Ground D C) images. Tell image g.disks.items images) (λ (g : Ground D C). given g.chooser)
        (λ journal. settle_each journal (terms_at (standing_of faults live p) failmode number point) trees before) (ends_run r.each_run) left old new
    ran_so =
        let t : Terms = terms_at (standing_of faults live p) failmode number point in
        let fresh : SamePlaces (used old.chooser) (live p.chooser) = subst (λ us. SamePlaces us (live p.chooser)) (sym begins.used_are) h.steady.same in
        r.told t (sym begins.setting, sym begins.round) refl (λ claim. fresh) before (subst (λ ds. Tell image ds before) (sym begins.disks) told)

    pub ran_on : HaveRunOn (given new.chooser) (terms_at (standing_of faults live p) failmode number point) (map (λ (tree : List Pending). tree) trees) before
    ran_on =
        let t : Terms = terms_at (standing_of faults live p) failmode number point in
        subst (λ ts. HaveRunOn (given new.chooser) t ts before) (sym (map-id trees))
        (have_run (λ (g : Ground D C) images. Tell image g.disks.items images) (λ (g : Ground D C). given g.chooser) t trees (ends_run r.each_run) left before old new (begins.given_are ∙ h.steady.taken) ran_so)

    pub round_is : (end : SeenEnd) → ((disk : D) (a b : List ℕ) → image disk a → image disk b → a ≡ b)
        → end.finished ≡ finished → end.left ≡ left → AreEntriesFor (sizes p.chooser) (used p.chooser) (given new.chooser) end.entries
        → (after : Images) × Tell image new.disks.items after
        × IsRound (terms_at (standing_of faults live p) failmode number point) (map (λ (tree : List Pending). tree) trees) before after (seen_end end)
        × DiffersInRound (standing_of faults live p) (map (λ (tree : List Pending). tree) trees) before after
    round_is end one finished_are left_are fit =
        let t : Terms = terms_at (standing_of faults live p) failmode number point in
        let k = ran_so in
        let is : IsRound t trees before k.after (seen_end end) =
        subst (IsRound t trees before k.after) (sym (seen_itself end)) (round_told (λ (g : Ground D C) images. Tell image g.disks.items images) (λ (g : Ground D C). given g.chooser) t trees (ends_run r.each_run) left before end old new
        (begins.given_are ∙ h.steady.taken) (fit_live p (given new.chooser) end.entries h.steady fit) (finished_are ∙ r.finished_are) left_are k) in
        let d = differs bytes faults faults_at_fetch home image sound Lawful sizes used live given p number point trees (Sees new) h.steady h.moved.disks.sizes h.moved.outside before told in
        let same : d.0 ≡ k.after = one_told image one new.disks.items d.0 k.after d.1 k.told in (
          k.after,
          k.told,
          subst (λ ts. IsRound t ts before k.after (seen_end end)) (sym (map-id trees)) is,
          subst (λ ts. DiffersInRound (standing_of faults live p) ts before k.after) (sym (map-id trees)) (subst (DiffersInRound (standing_of faults live p) trees before) same d.2),
        )

  -- the same images where only what changed is known
  pub differs_by : (p : SeenPlain D C) (number point : ℕ) (trees : List (List Pending)) (new : SeenGround D) → SteadyPlain bytes faults faults_at_fetch home image sound Lawful sizes used live given p → map bytes new.disks ≡ map bytes p.disks
      → TellChanged image (named_in trees).places (Begun p number point) new
      → (before : Images) → Tell image p.disks before → (after : Images) × Tell image new.disks after × DiffersInRound (standing_of faults live p) (map (λ (tree : List Pending). tree) trees) before after
  differs_by p number point trees new steady same outside before told =
      let d = differs bytes faults faults_at_fetch home image sound Lawful sizes used live given p number point trees new steady same outside before told in
      (d.0, d.1, subst (λ ts. DiffersInRound (standing_of faults live p) ts before d.0) (sym (map-id trees)) d.2)

  -- ---- a stop

  -- nothing was done where the round didn't begin
  pub begun_breaks : (p : SeenPlain D C) (number point : ℕ) (trees : List (List Pending)) → SteadyPlain bytes faults faults_at_fetch home image sound Lawful sizes used live given p
      → Breaks bytes faults faults_at_fetch home image sound (named_in trees) (Begun p number point) (Begun p number point) (Memory ≡ Device)
  begun_breaks p number point trees steady = breaks_itself (Begun p number point) memory_no_device

  pub broke_from : (p : SeenPlain D C) (number point : ℕ) (trees : List (List Pending)) (old : Ground D C) (new : SeenGround D) (device : Type 0) → HasBegun bytes faults faults_at_fetch home image sound Lawful sizes used live given p number point old
      → Breaks bytes faults faults_at_fetch home image sound (named_in trees) (Sees old) new device → Breaks bytes faults faults_at_fetch home image sound (named_in trees) (Begun p number point) new device
  broke_from p number point trees old new device begins b =
      subst (λ (s : SeenGround D). Breaks bytes faults faults_at_fetch home image sound (named_in trees) s new device) (sees_begun bytes faults faults_at_fetch home image sound Lawful sizes used live given p number point old begins) b

  pub stopped_after : (p q : SeenPlain D C) (number point : ℕ) (s : Setting) → s ≡ record { tops = p.setting.tops; rows = p.setting.rows; point = point } → q.setting ≡ s → q.last ≡ number → q.stopped ≡ true
      → StoppedAfter (standing_of faults live p) (standing_of faults live q) number
  stopped_after p q number point s is setting last stopped = record {
    tops = ap (λ x. x.tops) (setting ∙ is);
    rows = ap (λ x. x.rows) (setting ∙ is);
    last = last;
    stopped = stopped;
  }
