-- A round over images that are told is the round by the definitions, with its own entries as the journal.
use Rattle.std.proofs.Common.{◌≡◌, ℕ, List, [], ◌++◌, sym, ap, ◌∙◌, subst}
use Rattle.std.proofs.lemmas.List.{map-id}
use Rattle.zio_types.specs.declared.place.Place.{Place}
use Rattle.zio_types.specs.declared.place.TopSize.{TopSize}
use Rattle.zio_types.specs.Choices.{Ask, Choice}
use Rattle.zio_cksum.specs.Images.{Images}
use Rattle.zio_cksum.proofs.AllLemmas.{all_contained}
use Rattle.zio_gang.specs.Attempts.{Pending, Terms}
use Rattle.zio_gang.specs.ByNumber.{merge_by}
use Rattle.zio_gang.specs.Journals.{AreChoicesOf, AreLawful, HaveDistinctKeys, asks_of}
use Rattle.zio_gang.specs.Rounds.{settle_each}
use Rattle.zio_gang.specs.Trees.{sizes_of}
use Rattle.zio_gang.proofs.JournalLemmas.{each_found}
use Rattle.zio_course.specs.declared.runner.RequestEnd.{RequestEnd}
use Rattle.zio_course.specs.Runners.{IsRound, SeenEnd, ended_seen}
use Rattle.zio_plain.specs.Entries.{AreEntriesFor, HaveRunOn}
use Rattle.zio_plain.specs.OwnEnds.{AreAsked}
use Rattle.zio_plain.specs.Settlings.{IsRan, TellsRan}

-- what was asked of it since it had no entries
pub asked_distinct : (may : ℕ → ℕ → Type 0) (old new : List Choice) → old ≡ [] → AreAsked may old new → HaveDistinctKeys (asks_of new)
asked_distinct may old new none h =
    subst (λ es. HaveDistinctKeys (asks_of es)) (sym (h.is ∙ ap (λ es. es ++ h.more) none)) h.distinct

-- entries that are lawful in the order of their asks are those of what was asked
pub given_fit : (sizes : List TopSize) (used : List Place) (given : List Choice) → HaveDistinctKeys (asks_of given) → AreLawful sizes used given → AreEntriesFor sizes used given given
given_fit sizes used given distinct lawful = record {
  choices = record { distinct = distinct; asked = all_contained (asks_of given); answered = all_contained (asks_of given); lawful = lawful };
  answers = each_found given distinct;
}

-- what runs to the same under every journal that answers by what was given
pub have_run : {S : Type 0} (tells : S → Images → Type 0) (given : S → List Choice) (t : Terms) (trees : List (List Pending)) (ends : List RequestEnd) (left : List (List Pending)) (before : Images) (old new : S)
    → given old ≡ [] → (k : TellsRan tells given (λ journal. settle_each journal t trees before) ends left old new) → HaveRunOn (given new) t trees before
have_run tells given t trees ends left before old new none k = record {
  ends = ends;
  left = left;
  after = k.after;
  is = λ journal answers. let r = k.meant journal answers in record {
    ended = r.ended;
    left_is = r.left_is;
    asks = r.asks ∙ ap (λ es. asks_of es ++ (settle_each journal t trees before).asks) none;
    images = r.images;
  };
}

-- the end of a round of this runner in a contract's words
abbrev pub seen_end : SeenEnd → SeenEnd
seen_end end = ended_seen (λ (tree : List Pending). tree) (λ (f : RequestEnd). f) end

-- its trees and what finished are seen as they are
pub seen_itself : (end : SeenEnd) → seen_end end ≡ end
seen_itself end =
    let left = map-id end.left in
    let finished = map-id end.finished in
    λ i. record { finished = finished i; left = left i; completions = end.completions; entries = end.entries }

pub round_told : {S : Type 0} (tells : S → Images → Type 0) (given : S → List Choice) (t : Terms) (trees : List (List Pending)) (ends : List RequestEnd) (left : List (List Pending)) (before : Images) (end : SeenEnd) (old new : S)
    → given old ≡ [] → AreEntriesFor (sizes_of t.setting.tops) t.used (given new) end.entries
    → end.finished ≡ merge_by (λ (f : RequestEnd). f.request) ends [] → end.left ≡ left
    → (k : TellsRan tells given (λ journal. settle_each journal t trees before) ends left old new) → IsRound t trees before k.after end
round_told tells given t trees ends left before end old new none fit finished_are left_are k =
    let r : IsRan (settle_each end.entries t trees before) ends left (given old) (given new) k.after = k.meant end.entries fit.answers in
    let asks : (settle_each end.entries t trees before).asks ≡ asks_of (given new) =
    sym (r.asks ∙ ap (λ es. asks_of es ++ (settle_each end.entries t trees before).asks) none) in record {
      left_is = left_are ∙ sym r.left_is;
      finished_is = finished_are ∙ ap (λ fs. merge_by (λ (f : RequestEnd). f.request) fs []) (sym r.ended);
      images_are = sym r.images;
      choices = subst (λ (qs : List Ask). AreChoicesOf (sizes_of t.setting.tops) t.used qs end.entries) (sym asks) fit.choices;
    }
