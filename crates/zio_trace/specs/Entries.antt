-- A round whose journal isn't known yet: an ask may have any answer, and the answers are recorded as entries.
use Rattle.std.specs.Prelude.{◌≡◌, ℕ, List, [], ◌∷◌, ◌++◌, Option, Some, None}
use Rattle.std.specs.List.{AllByRecursion}
use Rattle.zio_types.specs.declared.place.Place.{Place}
use Rattle.zio_types.specs.declared.place.TopSize.{TopSize}
use Rattle.zio_types.specs.Choices.{Ask, Choice}
use Rattle.zio_cksum.specs.Images.{Images}
use Rattle.zio_gang.specs.Attempts.{Terms}
use Rattle.zio_gang.specs.Journals.{AreChoicesOf, AreLawful, HaveDistinctKeys, asks_of}
use Rattle.zio_gang.specs.Rounds.{settle_each}
use Rattle.zio_gang.specs.Trees.{sizes_of}
use Rattle.zio_gang.specs.Writes.{chosen, places_chosen}
use Rattle.zio_trace.specs.Conflicts.{TaskLies, TasksApart, is_single}
use Rattle.zio_trace.specs.Families.{Forest}
use Rattle.zio_trace.specs.Labels.{Labelled}
use Rattle.zio_trace.specs.Leaves.{Answer, HaveSizes, LeafOp, on_leaf}
use Rattle.zio_trace.specs.Oracles.{Shuffled, Ways}
use Rattle.zio_trace.specs.Plans.{plan}
use Rattle.zio_trace.specs.Programs.{Deed}
use Rattle.zio_trace.specs.Rounds.{Round, trees_in}
use Rattle.zio_trace.specs.Rules.{Rules}
use Rattle.zio_trace.specs.Tasks.{Find, Found, Task, Value, means}

-- ---- rules that know no journal

abbrev pub any_ways : Terms → Ways Task Value
any_ways t = record { plan = plan t; single = is_single; Fits = λ task v. Unit {0} }

-- of the rules of a round these need no journal
abbrev pub any_rules : Terms → (ℕ → ℕ) → Rules Task Value
any_rules t sizes = record {
  ways = any_ways t;
  means = means [] t;
  Sound = HaveSizes sizes;
  Lies = TaskLies sizes;
  Apart = TasksApart;
  May = λ op d. Unit {0};
  mend = λ op v. v;
}

abbrev pub PassBy : Terms → Task → Value → (Images → Images → Type 0) → Images → Images → Type 0
PassBy t (Find a) v later before after = later before after
PassBy t task v later before after = ((means [] t task before).value ≡ v) × later (means [] t task before).images after

-- the deeds in turn lead from the images before to those after; an ask may have had any answer
abbrev pub Pass : Terms → List (Deed (Labelled Task) Value) → Images → Images → Type 0
Pass t [] before after = before ≡ after
Pass t (d ∷ ds) before after = PassBy t d.op.op d.answer (Pass t ds) before after

-- the same where the images before are told; where they aren't, any may be now
abbrev pub PassIf : Terms → List (Deed (Labelled Task) Value) → Option Images → Images → Type 0
PassIf t ds None after = Unit {0}
PassIf t ds (Some before) after = Pass t ds before after

-- a leaf gives this answer and leaves these images: as on the images as they are, and where none are told whatever comes
abbrev pub AnswersOnLeaf : Terms → Option Images → LeafOp → Images → Answer → Images → Type 0
AnswersOnLeaf t None act images a after = Unit {0}
AnswersOnLeaf t (Some before) act images a after =
    (a ≡ (on_leaf t.setting act images).value) × (after ≡ (on_leaf t.setting act images).images)

-- ---- entries

-- what an entry answers
abbrev pub answer_to : Choice → Value
answer_to c = Found (places_chosen c.asked.copies (Some c))

abbrev pub RecordedBy : Task → Value → (List Choice → Type 0) → List Choice → Type 0
RecordedBy (Find a) v later [] = ⊥
RecordedBy (Find a) v later (c ∷ cs) = (c.asked ≡ a) × (v ≡ answer_to c) × later cs
RecordedBy _ v later cs = later cs

-- the asks among these deeds have these entries, in their order
abbrev pub Recorded : List (Deed (Labelled Task) Value) → List Choice → Type 0
Recorded [] cs = cs ≡ []
Recorded (d ∷ ds) cs = RecordedBy d.op.op d.answer (Recorded ds) cs

abbrev pub AnswersBy : List Choice → Task → Value → Type 0
AnswersBy journal (Find a) v = v ≡ Found (chosen journal a)
AnswersBy journal _ v = Unit {0}

-- each ask has the answer that the journal has for it
abbrev pub AnsweredBy : List Choice → List (Deed (Labelled Task) Value) → Type 0
AnsweredBy journal ds = AllByRecursion (λ (d : Deed (Labelled Task) Value). AnswersBy journal d.op.op d.answer) ds

-- a lawful journal of the round that begins with these entries
pub record MayCome (sizes : List TopSize) (used : List Place) (entries journal : List Choice) : Type 0 where
  pub later : List Choice
  pub is : journal ≡ entries ++ later
  pub distinct : HaveDistinctKeys (asks_of journal)
  pub lawful : AreLawful sizes used journal

-- ---- the end

-- Each tree is settled under the journal with this value and these images. Of what is asked the entries have no key twice,
-- and where they are lawful, they are the round's choices.
pub record IsSettledByEntries (journal : List Choice) (t : Terms) (f : Forest) (entries : List Choice) (value : Round) (before after : Images) : Type 0 where
  pub asks : List Ask
  pub is : settle_each journal t (trees_in f) before ≡ record { left = value.left; ended = value.ended; asks = asks; images = after }
  pub as_often : Shuffled asks (asks_of entries)
  pub choices : AreLawful (sizes_of t.setting.tops) t.used entries → AreChoicesOf (sizes_of t.setting.tops) t.used asks entries
