-- A chooser that answers by a report: what an answer is and leaves, and what becomes of a round.
use Rattle.std.proofs.Common.{◌≡◌, ◌&&◌, ◌≤◌, ℕ, List, [], ◌∷◌, Bool, true, false, cond, Option, None, Some, refl, sym, ap, subst, ◌∙◌}
use Rattle.std.specs.List.{AllByRecursion}
use Rattle.std.proofs.lemmas.Bool.{and_parts}
use Rattle.std.proofs.lemmas.List.{append-nil}
use Rattle.zio_types.specs.declared.place.Place.{Place}
use Rattle.zio_types.specs.declared.place.TopSize.{TopSize}
use Rattle.zio_types.specs.Choices.{Ask, Choice, same_ask, taken_by}
use Rattle.zio_types.specs.Places.{are_open}
use Rattle.zio_places.specs.Spaces.{IsSound, SpaceState}
use Rattle.zio_cksum.specs.Images.{Images}
use Rattle.zio_cksum.proofs.PlaceSets.{SamePlaces-back}
use Rattle.zio_gang.specs.Attempts.{Pending, Terms}
use Rattle.zio_gang.specs.Journals.{AreChoicesOf, AreLawful, HaveDistinctKeys, asks_of}
use Rattle.zio_gang.specs.Rounds.{settle_each}
use Rattle.zio_gang.specs.Trees.{sizes_of}
use Rattle.zio_blocks.specs.Choosers.{IsFoundEntry}
use Rattle.zio_blocks.specs.EntryLaws.{are_lawful_same}
use Rattle.zio_plain.specs.Entries.{AreEntriesFor, AreTermsFrom, HaveRunOn}
use Rattle.zio_spelled.specs.declared.rounds.RoundJournal.{RoundJournal}
use Rattle.zio_audit.specs.ReplayIndex.{IsKeptReplay, SeenRound}
use Rattle.zio_audit.specs.Replays.{AreReplayed, ChoseSpelled, MatchEntries, MayBeChoices, entries_in, is_found, recorded_for, reply_by, reply_to, unplaced}
use Rattle.zio_audit.proofs.NameLemmas.{ask_is}
use Rattle.zio_audit.proofs.EntryLemmas.{all_choices, found_here, taken_unplaced, unplaced_found}
use Rattle.zio_audit.proofs.ReplyLemmas.{asks_alike, choices_matched, is_found_entry, matched_asked, replies_are, some_copies}

-- ---- an answer

-- an answer is an entry for the ask that may be taken, or has no places
reply_cases : (P : Choice → Type 0) (tops : List TopSize) (u : List Place) (ask : Ask) (entries : List Choice) → P (unplaced ask)
    → ((c : Choice) → c.asked ≡ ask → is_found tops c ≡ true → are_open u (taken_by c) ≡ true → P c) → P (reply_by tops u ask (recorded_for entries ask))
reply_cases P tops u ask entries none some = by (recorded_for entries ask) refl
  where
    take : (c : Choice) (t : Bool) → (is_found tops c && are_open u (taken_by c)) ≡ t → c.asked ≡ ask → P (cond t c (unplaced ask))
    take c true is asked = let both = and_parts (is_found tops c) (are_open u (taken_by c)) is in some c asked both.0 both.1
    take c false is asked = none

    by : (o : Option Choice) → recorded_for entries ask ≡ o → P (reply_by tops u ask o)
    by None is = none
    by (Some c) is = take c (is_found tops c && are_open u (taken_by c)) refl (ask_is c.asked ask (found_here (λ (d : Choice). same_ask d.asked ask) entries c is).1)

pub reply_asked : (journals : List RoundJournal) (tops : List TopSize) (u : List Place) (ask : Ask) → (reply_to journals tops u ask).asked ≡ ask
reply_asked journals tops u ask = reply_cases (λ c. c.asked ≡ ask) tops u ask (entries_in journals ask.key.round) refl (λ c asked found free. asked)

pub reply_lawful : (journals : List RoundJournal) (tops : List TopSize) (u : List Place) (ask : Ask) (entry : Choice) → 1 ≤ ask.copies → entry ≡ reply_to journals tops u ask → AreReplayed journals tops u (entry ∷ [])
reply_lawful journals tops u ask entry some is =
    let asked : entry.asked ≡ ask = ap (λ (c : Choice). c.asked) is ∙ reply_asked journals tops u ask in
    let found : IsFoundEntry tops (reply_to journals tops u ask) =
    reply_cases (IsFoundEntry tops) tops u ask (entries_in journals ask.key.round) (unplaced_found tops ask) (λ c asked found free. is_found_entry tops c found) in
    let free : are_open u (taken_by (reply_to journals tops u ask)) ≡ true =
    reply_cases (λ c. are_open u (taken_by c) ≡ true) tops u ask (entries_in journals ask.key.round) (ap (are_open u) (taken_unplaced ask)) (λ c asked found free. free) in
    record {
      found = record {
        each = (subst (IsFoundEntry tops) (sym is) found, tt);
        free = ap (are_open u) (append-nil (taken_by entry) ∙ ap taken_by is) ∙ free;
      };
      replies = (subst (λ (a : Ask). 1 ≤ a.copies) (sym asked) some, is ∙ ap (reply_to journals tops u) (sym asked), tt);
    }

-- ---- what is kept

pub kept_space : (journals own : List RoundJournal) (old new : SpaceState) (tops : List TopSize) (of_round : Option SeenRound) → IsKeptReplay journals own old tops of_round → IsSound new → new.sizes ≡ old.sizes
    → IsKeptReplay journals own new tops of_round
kept_space journals own old new tops of_round kept sound sizes = record {
  journals_are = kept.journals_are;
  sizes = kept.sizes ∙ sym sizes;
  lawful = kept.lawful;
  few = kept.few;
  sound = sound;
  of_round_is = kept.of_round_is;
}

-- ---- a round

-- entries that a round chose may be choices
pub chosen_may : (journals : List RoundJournal) (round : ℕ) (sizes : List TopSize) (u : List Place) (t : Terms) (trees : List (List Pending)) (before : Images) → AreTermsFrom round sizes u t
    → ChoseSpelled journals t trees before → MayBeChoices sizes u (entries_in journals round)
chosen_may journals round sizes u t trees before terms chose =
    subst (λ n. MayBeChoices sizes u (entries_in journals n)) terms.round_is (record {
      distinct = chose.distinct;
      lawful = subst (λ ts. AreLawful ts u (entries_in journals t.round)) terms.sizes_are (are_lawful_same (sizes_of t.setting.tops) t.used u (entries_in journals t.round) (SamePlaces-back u t.used terms.used_are) chose.lawful);
    })

module _ (journals : List RoundJournal) (round : ℕ) (sizes : List TopSize) (u : List Place) (given : List Choice) (distinct : HaveDistinctKeys (asks_of given))
    (rounds : AllByRecursion (λ (g : Choice). g.asked.key.round ≡ round) given) (may : MayBeChoices sizes u (entries_in journals round)) (lawful : AreReplayed journals sizes u given) where
  -- where the entries match the answers they are the round's choices
  pub matched_fit : MatchEntries (entries_in journals round) given → AreEntriesFor sizes u given (entries_in journals round)
  matched_fit match =
      let fit = all_choices sizes u (entries_in journals round) given may.distinct may.lawful
      (matched_asked (entries_in journals round) given (replies_are journals round sizes u may given distinct rounds lawful.replies) may.distinct distinct match) in
      record { choices = fit.0; answers = fit.1 }

  -- and else they aren't
  pub unmatched_strange : ¬ MatchEntries (entries_in journals round) given → (t : Terms) → AreTermsFrom round sizes u t → (trees : List (List Pending)) (before : Images) → HaveRunOn given t trees before
      → ¬ ChoseSpelled journals t trees before
  unmatched_strange not t terms trees before ran chose =
      let entries : List Choice = entries_in journals round in
      let replies = replies_are journals round sizes u may given distinct rounds lawful.replies in
      let chose_these : AreChoicesOf (sizes_of t.setting.tops) t.used (settle_each entries t trees before).asks entries =
      subst (λ n. AreChoicesOf (sizes_of t.setting.tops) t.used (settle_each (entries_in journals n) t trees before).asks (entries_in journals n)) terms.round_is chose in
      let asks = asks_alike entries given replies may.distinct distinct t trees before (some_copies journals sizes u given lawful.replies) ran in
      not (choices_matched entries given replies may.distinct distinct (sizes_of t.setting.tops) t.used
      (subst (λ (qs : List Ask). AreChoicesOf (sizes_of t.setting.tops) t.used qs entries) asks chose_these))
