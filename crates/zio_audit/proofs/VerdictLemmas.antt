-- What a case is read as: one script and one journal of each round at most.
use Rattle.std.proofs.Common.{◌≡◌, ◌<◌, ℕ, List, false, refl, sym, subst, ◌∙◌, arith}
use Rattle.std.proofs.lemmas.Bool.{true≢false}
use Rattle.zio_types.specs.declared.journal.Journal.{Journal}
use Rattle.zio_types.specs.declared.place.TopSize.{TopSize}
use Rattle.zio_types.specs.Choices.{Choice}
use Rattle.zio_script.specs.declared.script.Script.{Script}
use Rattle.zio_script.specs.Grammar.{IsScriptOf}
use Rattle.zio_script.specs.Words.{Word}
use Rattle.zio_cksum.specs.Images.{Images}
use Rattle.zio_gang.specs.Trees.{sizes_of}
use Rattle.zio_report.specs.Meanings.{tops_of}
use Rattle.zio_spelled.specs.declared.rounds.RoundJournal.{RoundJournal}
use Rattle.zio_spelled.specs.Rounds.{IsSpelled}
use Rattle.zio_spelled.specs.Spelled.{IsOrder, IsTake, is_order, is_take}
use Rattle.zio_spelled.proofs.PrintLemmas.{report_spells_one}
use Rattle.zio_audit.specs.declared.verdict.Verdict.TheVariants.{Yes, No}
use Rattle.zio_audit.specs.declared.verdict.Why.{Why}
use Rattle.zio_audit.specs.declared.verdict.Why.TheVariants.{Script as OfScript, Lines as OfLines, Places as OfPlaces, Completions as OfCompletions, Text as OfText, Images as OfImages}
use Rattle.zio_audit.specs.Verdicts.{Case, Holds, IsReadAs, IsShaped, IsVerdict, OfRun, Stands, journal_spelled, why_number}

pub same_script : (a b : Script) (text : List ℕ) → IsScriptOf text a → IsScriptOf text b → a ≡ b
same_script a b text is so = let same = sym is ∙ so in cc

-- the two are read as the same
pub record AreSame (s t : Script) (js ks : List RoundJournal) : Type 0 where
  pub script : s ≡ t
  pub journals : js ≡ ks

pub read_once : (c : Case) (s t : Script) (js ks : List RoundJournal) → IsReadAs c s js → IsReadAs c t ks → AreSame s t js ks
read_once c s t js ks one other =
    let same : s ≡ t = same_script s t c.script one.script_is.accepted other.script_is.accepted in
    record {
      script = same;
      journals = report_spells_one (sizes_of (tops_of t c.before)) c.report js ks
          (subst (λ (u : Script). IsSpelled (sizes_of (tops_of u c.before)) c.report js) same one.spelled) other.spelled;
    }

-- what doesn't stand for the script and the journals that the case is read as, doesn't stand
pub fails : (c : Case) (s : Script) (js : List RoundJournal) (Stands : Script → Images → Journal → Type 0) → IsReadAs c s js
    → ¬ Stands s c.before (journal_spelled s c.before js) → ¬ OfRun c Stands
fails c s js Stands read not of =
    let same = read_once c of.script s of.journals js of.read read in
    not (subst (λ (ks : List RoundJournal). Stands s c.before (journal_spelled s c.before ks)) same.journals
    (subst (λ (u : Script). Stands u c.before (journal_spelled u c.before of.journals)) same.script of.stands))

-- ---- lines

pub other_shaped : (line : Word) → is_take line ≡ false → is_order line ≡ false → IsShaped line
other_shaped line take order = record {
  take = λ e. absurd (true≢false (sym e ∙ take));
  order = λ e. absurd (true≢false (sym e ∙ order));
}

pub take_shaped : (tops : List TopSize) (round : ℕ) (line : Word) (choice : Choice) → IsTake tops round line choice → is_order line ≡ false → IsShaped line
take_shaped tops round line choice is order = record {
  take = λ e. record { marked = is.marked; choice = choice; text = is.text; fits = is.fits };
  order = λ e. absurd (true≢false (sym e ∙ order));
}

pub order_shaped : (line : Word) (numbers : List ℕ) → IsOrder line numbers → is_take line ≡ false → IsShaped line
order_shaped line numbers is take = record {
  take = λ e. absurd (true≢false (sym e ∙ take));
  order = λ e. (numbers, is);
}

-- ---- verdicts

pub no_script : (c : Case) → Holds OfScript c → IsVerdict c (No 1)
no_script c holds = (OfScript, refl, record { holds = holds; first = first })
  where
    first : (other : Why) → why_number other < 1 → Stands other c
    first OfScript small = absurd (omega arith)
    first OfLines small = absurd (omega arith)
    first OfPlaces small = absurd (omega arith)
    first OfCompletions small = absurd (omega arith)
    first OfText small = absurd (omega arith)
    first OfImages small = absurd (omega arith)

pub no_lines : (c : Case) → Stands OfScript c → Holds OfLines c → IsVerdict c (No 2)
no_lines c script holds = (OfLines, refl, record { holds = holds; first = first })
  where
    first : (other : Why) → why_number other < 2 → Stands other c
    first OfScript small = script
    first OfLines small = absurd (omega arith)
    first OfPlaces small = absurd (omega arith)
    first OfCompletions small = absurd (omega arith)
    first OfText small = absurd (omega arith)
    first OfImages small = absurd (omega arith)

pub no_places : (c : Case) → Stands OfScript c → Stands OfLines c → Holds OfPlaces c → IsVerdict c (No 3)
no_places c script lines holds = (OfPlaces, refl, record { holds = holds; first = first })
  where
    first : (other : Why) → why_number other < 3 → Stands other c
    first OfScript small = script
    first OfLines small = lines
    first OfPlaces small = absurd (omega arith)
    first OfCompletions small = absurd (omega arith)
    first OfText small = absurd (omega arith)
    first OfImages small = absurd (omega arith)

pub no_completions : (c : Case) → Stands OfScript c → Stands OfLines c → Stands OfPlaces c → Holds OfCompletions c → IsVerdict c (No 4)
no_completions c script lines places holds = (OfCompletions, refl, record { holds = holds; first = first })
  where
    first : (other : Why) → why_number other < 4 → Stands other c
    first OfScript small = script
    first OfLines small = lines
    first OfPlaces small = places
    first OfCompletions small = absurd (omega arith)
    first OfText small = absurd (omega arith)
    first OfImages small = absurd (omega arith)

pub no_text : (c : Case) → Stands OfScript c → Stands OfLines c → Stands OfPlaces c → Stands OfCompletions c → Holds OfText c → IsVerdict c (No 5)
no_text c script lines places completions holds = (OfText, refl, record { holds = holds; first = first })
  where
    first : (other : Why) → why_number other < 5 → Stands other c
    first OfScript small = script
    first OfLines small = lines
    first OfPlaces small = places
    first OfCompletions small = completions
    first OfText small = absurd (omega arith)
    first OfImages small = absurd (omega arith)

pub no_images : (c : Case) → Stands OfScript c → Stands OfLines c → Stands OfPlaces c → Stands OfCompletions c → Stands OfText c → Holds OfImages c → IsVerdict c (No 6)
no_images c script lines places completions text holds = (OfImages, refl, record { holds = holds; first = first })
  where
    first : (other : Why) → why_number other < 6 → Stands other c
    first OfScript small = script
    first OfLines small = lines
    first OfPlaces small = places
    first OfCompletions small = completions
    first OfText small = text
    first OfImages small = absurd (omega arith)

pub yes : (c : Case) → Stands OfScript c → Stands OfLines c → Stands OfPlaces c → Stands OfCompletions c → Stands OfText c → Stands OfImages c → IsVerdict c Yes
yes c script lines places completions text images = stands
  where
    stands : (why : Why) → Stands why c
    stands OfScript = script
    stands OfLines = lines
    stands OfPlaces = places
    stands OfCompletions = completions
    stands OfText = text
    stands OfImages = images
