-- The trace of a task, and whole tasks whose operations don't conflict.
use Rattle.std.proofs.Common.{◌≡◌, ℕ, true, List, [], ◌∷◌, ◌++◌, refl, sym, ap, ◌∙◌, subst, append-nil}
use Rattle.std.specs.List.{AllByRecursion}
use Rattle.zio_types.specs.Choices.{Choice}
use Rattle.zio_cksum.specs.Images.{Images}
use Rattle.zio_cksum.proofs.AllLemmas.{all_weaker}
use Rattle.zio_gang.specs.Attempts.{Terms}
use Rattle.zio_trace.specs.Conflicts.{TaskLies, TasksApart, is_single}
use Rattle.zio_trace.specs.Footprints.{FitsTask, Within}
use Rattle.zio_trace.specs.Leaves.{HaveSizes, Fetch, Store}
use Rattle.zio_trace.specs.Orders.{Commute}
use Rattle.zio_trace.specs.Plans.{plan}
use Rattle.zio_trace.specs.Programs.{Done, Meaning, Deed, Happen, Made, asks_of}
use Rattle.zio_trace.specs.Tasks.{Task, Leaf, Find, TakePlaces, Value, found, means}
use Rattle.zio_trace.specs.Traces.{all_asked, asked_by, IsTrace}
use Rattle.zio_trace.proofs.GroundLemmas.{task_ground}
use Rattle.zio_trace.proofs.ListLemmas.{all_lists}
use Rattle.zio_trace.proofs.MayLemmas.{made_may}
use Rattle.zio_trace.proofs.ProgramLemmas.{happen_apart, made_happen}
use Rattle.zio_trace.proofs.RequestFootprints.{tasks_stay}
use Rattle.zio_trace.proofs.RequestLemmas.{plan_run}
use Rattle.zio_trace.proofs.RoundLemmas.{tasks_commute}
use Rattle.zio_trace.proofs.TraceLemmas.{one_comes, made_asks, happen_join}

-- ---- one task's trace

module _ (j : List Choice) (t : Terms) where
  single_fits : (o : Task) (v : Value) (images : Images) → is_single o ≡ true → (means j t o images).value ≡ v → FitsTask j t o v × Within j t o o
  single_fits (Leaf op) v images e h = (tt, refl)
  single_fits (Find a) v images e h = (sym (ap found h), refl)
  single_fits (TakePlaces tree) v images e h = (tt, refl)
  single_fits _ v images e h = absurd (cc)

  singles_fit : (ds : List (Deed Task Value)) (before after : Images) → AllByRecursion (λ (d : Deed Task Value). is_single d.op ≡ true) ds → Happen (means j t) ds before after
      → AllByRecursion (λ (d : Deed Task Value). FitsTask j t d.op d.answer × Within j t d.op d.op) ds
  singles_fit [] before after all h = tt
  singles_fit (d ∷ ds) before after all h = (single_fits d.op d.answer before all.0 h.0, singles_fit ds (means j t d.op before).images after all.1 h.1)

  pub single_asks : (o : Task) (images : Images) → is_single o ≡ true → (means j t o images).asks ≡ asked_by o
  single_asks (Leaf (Fetch retry len spot)) images e = refl
  single_asks (Leaf (Store retry bytes spot)) images e = refl
  single_asks (Find a) images e = refl
  single_asks (TakePlaces tree) images e = refl
  single_asks _ images e = absurd (cc)

  singles_ask : (ds : List (Deed Task Value)) (images : Images) → AllByRecursion (λ (d : Deed Task Value). is_single d.op ≡ true) ds → asks_of (means j t) ds images ≡ all_asked ds
  singles_ask [] images all = refl
  singles_ask (d ∷ ds) images all = λ i. single_asks d.op images all.0 i ++ singles_ask ds (means j t d.op images).images all.1 i

  -- Each task has a trace.
  pub task_trace : (o : Task) (images : Images) → (ds : List (Deed Task Value)) × IsTrace j t o images ds
  task_trace o images =
      let comes = one_comes (means j t) (plan t) is_single (plan_run j t) o (task_ground t o) images in
      let call : Deed Task Value = record { op = o; answer = (means j t o images).value } in
      let after : Images = (means j t o images).images in (
        comes.ds,
        record {
          made = comes.made;
          happen = comes.happen;
          single = comes.all;
          within =
              made_may (plan t) (FitsTask j t) (Within j t) (tasks_stay j t) (Within j t o) (call ∷ []) comes.ds comes.made
              (singles_fit comes.ds images after comes.all comes.happen) ((λ d may. may), tt);
          asks =
              sym (append-nil (means j t o images).asks)
              ∙ made_asks (means j t) (plan t) (plan_run j t) (call ∷ []) comes.ds images after comes.made comes.happen
              ∙ singles_ask comes.ds images comes.all;
        },
      )

  -- deeds that happen and are made into this task's are what it means
  pub trace_means : (o : Task) (v : Value) (ds : List (Deed Task Value)) (before after : Images) → Made (plan t) (record { op = o; answer = v } ∷ []) ds → AllByRecursion (λ (d : Deed Task Value). is_single d.op ≡ true) ds
      → Happen (means j t) ds before after → means j t o before ≡ record { value = v; asks = all_asked ds; images = after }
  trace_means o v ds before after made single h =
      let now : Done Value = means j t o before in
      let call : Deed Task Value = record { op = o; answer = v } in
      let gives = made_happen (means j t) (plan t) (plan_run j t) (call ∷ []) ds before after made h in
      let asks : now.asks ≡ all_asked ds =
      sym (append-nil now.asks) ∙ made_asks (means j t) (plan t) (plan_run j t) (call ∷ []) ds before after made h ∙ singles_ask ds before single in
      λ i. record { value = gives.0 i; asks = asks i; images = gives.1 i }

-- ---- two blocks of deeds that don't conflict

module _ {Op Ans : Type 0} (means : Meaning Op Ans) (Sound : Images → Type 0) (Lies : Op → Type 0) (Apart : Op → Op → Type 0) (law : Commute means Sound Lies Apart) where
  swapped : (a b : Deed Op Ans) (ds : List (Deed Op Ans)) (before after : Images) → Apart a.op b.op → Sound before → Lies a.op → Lies b.op → Happen means (a ∷ b ∷ ds) before after → Happen means (b ∷ a ∷ ds) before after
  swapped a b ds before after apart sound la lb h = (
    sym (law.answer a.op b.op before apart sound la lb) ∙ h.1.0,
    (
      law.answer b.op a.op before (law.turned a.op b.op apart) sound lb la ∙ h.0,
      subst (λ (i : Images). Happen means ds i after) (law.images a.op b.op before apart sound la lb) h.1.1,
    ),
  )

  abbrev AllLie : List (Deed Op Ans) → Type 0
  AllLie ds = AllByRecursion (λ (d : Deed Op Ans). Lies d.op) ds

  -- a deed goes before those that it doesn't conflict with
  passes : (e : Deed Op Ans) (ds es : List (Deed Op Ans)) (before after : Images) → Sound before → AllLie ds → Lies e.op → AllByRecursion (λ (d : Deed Op Ans). Apart d.op e.op) ds → Happen means (ds ++ e ∷ es) before after → Happen means (e ∷ (ds ++ es)) before after
  passes e [] es before after sound lie le apart h = h
  passes e (d ∷ ds) es before after sound lie le apart h =
      swapped d e (ds ++ es) before after apart.0 sound lie.0 le
      (h.0, passes e ds es (means d.op before).images after (law.sound d.op before sound lie.0) lie.1 le apart.1 h.1)

  pub blocks_swap : (ds es : List (Deed Op Ans)) (before after : Images) → Sound before → AllLie ds → AllLie es → AllByRecursion (λ (e : Deed Op Ans). AllByRecursion (λ (d : Deed Op Ans). Apart d.op e.op) ds) es → Happen means (ds ++ es) before after → Happen means (es ++ ds) before after
  blocks_swap ds [] before after sound ld le apart h = subst (λ (xs : List (Deed Op Ans)). Happen means xs before after) (append-nil ds) h
  blocks_swap ds (e ∷ es) before after sound ld le apart h =
      let first : Happen means (e ∷ (ds ++ es)) before after = passes e ds es before after sound ld le.0 apart.0 h in
      (first.0, blocks_swap ds es (means e.op before).images after (law.sound e.op before sound le.0) ld le.1 apart.1 first.1)

  pub sound_after : (ds : List (Deed Op Ans)) (before after : Images) → Sound before → AllLie ds → Happen means ds before after → Sound after
  sound_after [] before after sound lie h = subst Sound h sound
  sound_after (d ∷ ds) before after sound lie h = sound_after ds (means d.op before).images after (law.sound d.op before sound lie.0) lie.1 h.1

-- ---- two whole tasks

module _ (j : List Choice) (t : Terms) (sizes : ℕ → ℕ) where
  -- what each of its operations would do
  abbrev Lie : Task → Type 0
  Lie o = (d : Task) → is_single d ≡ true → Within j t o d → TaskLies sizes d

  abbrev Clear : Task → Task → Type 0
  Clear a b = (d e : Task) → Within j t a d → Within j t b e → TasksApart d e

  trace_lies : (o : Task) (images : Images) (ds : List (Deed Task Value)) → IsTrace j t o images ds → Lie o → AllByRecursion (λ (d : Deed Task Value). TaskLies sizes d.op) ds
  trace_lies o images ds trace lie =
      all_lists (λ (d : Deed Task Value). is_single d.op ≡ true) (λ (d : Deed Task Value). Within j t o d.op) (λ (d : Deed Task Value). TaskLies sizes d.op) ds
      (λ d single within. lie d.op single within) trace.single trace.within

  pub task_sizes : (o : Task) (images : Images) → Lie o → HaveSizes sizes images → HaveSizes sizes (means j t o images).images
  task_sizes o images lie have =
      let trace = task_trace j t o images in
      sound_after (means j t) (HaveSizes sizes) (TaskLies sizes) TasksApart (tasks_commute j t sizes) trace.0 images (means j t o images).images have (trace_lies o images trace.0 trace.1 lie) trace.1.happen

  -- Neither tells the other's value or asks, and both leave the same images.
  pub record Commutes (a b : Task) (images : Images) : Type 0 where
    pub first : means j t a (means j t b images).images ≡ record { value = (means j t a images).value; asks = (means j t a images).asks; images = (means j t b (means j t a images).images).images }
    pub value : (means j t b (means j t a images).images).value ≡ (means j t b images).value
    pub asks : (means j t b (means j t a images).images).asks ≡ (means j t b images).asks

  pub tasks_swap : (a b : Task) (images : Images) → Clear a b → Lie a → Lie b → HaveSizes sizes images → Commutes a b images
  tasks_swap a b images clear la lb have =
      let x : Done Value = means j t a images in
      let y : Done Value = means j t b x.images in
      let ds = task_trace j t a images in
      let es = task_trace j t b x.images in
      let both : Happen (means j t) (ds.0 ++ es.0) images y.images = happen_join (means j t) ds.0 es.0 images x.images y.images ds.1.happen es.1.happen in
      let apart : AllByRecursion (λ (e : Deed Task Value). AllByRecursion (λ (d : Deed Task Value). TasksApart d.op e.op) ds.0) es.0 =
      all_weaker (λ (e : Deed Task Value). Within j t b e.op) _ es.0
      (λ e we. all_weaker (λ (d : Deed Task Value). Within j t a d.op) (λ (d : Deed Task Value). TasksApart d.op e.op) ds.0 (λ d wd. clear d.op e.op wd we) ds.1.within) es.1.within in
      let other : Happen (means j t) (es.0 ++ ds.0) images y.images =
      blocks_swap (means j t) (HaveSizes sizes) (TaskLies sizes) TasksApart (tasks_commute j t sizes) ds.0 es.0 images y.images have
      (trace_lies a images ds.0 ds.1 la) (trace_lies b x.images es.0 es.1 lb) apart both in
      let cut = happen_apart (means j t) es.0 ds.0 images y.images other in
      let now : means j t b images ≡ record { value = y.value; asks = all_asked es.0; images = cut.0 } = trace_means j t b y.value es.0 images cut.0 es.1.made es.1.single cut.1 in
      let then : means j t a cut.0 ≡ record { value = x.value; asks = all_asked ds.0; images = y.images } = trace_means j t a x.value ds.0 cut.0 y.images ds.1.made ds.1.single cut.2 in
      record {
        first = ap (λ (d : Done Value). means j t a d.images) now ∙ then ∙ (λ i. record { value = x.value; asks = sym ds.1.asks i; images = y.images });
        value = sym (ap (λ (d : Done Value). d.value) now);
        asks = es.1.asks ∙ sym (ap (λ (d : Done Value). d.asks) now);
      }
