-- Calls of the space, and what a node did itself.
use Rattle.std.proofs.Common.{◌≡◌, List, [], ◌∷◌, ◌++◌, refl, sym, ap, ◌∙◌, subst}
use Rattle.std.specs.List.{AllByRecursion}
use Rattle.zio_types.specs.declared.place.Place.{Place}
use Rattle.zio_types.specs.Choices.{Choice}
use Rattle.zio_gang.specs.Attempts.{Terms}
use Rattle.zio_gang.specs.Journals.{AreLawful}
use Rattle.zio_gang.specs.Trees.{sizes_of}
use Rattle.zio_frames.specs.Moves.{Chose, Closed, Did, Opened, Took, choices_of}
use Rattle.zio_exchange.specs.SpaceCalls.{SpaceCall, calls_back, calls_by}
use Rattle.zio_turns.specs.Engine.{IsRight}
use Rattle.zio_turns.specs.Desks.{AreRight, IsRightCall, choices_in}
use Rattle.zio_turns.proofs.DoesLemmas.{append_none}

-- what is given back is no choice
no_choice : (gone : List Place) → choices_in (calls_back gone) ≡ []
no_choice [] = refl
no_choice (p ∷ gone) = no_choice gone

pub choices_did : (dids : List Did) (gone : List Place) → choices_in (calls_by dids ++ calls_back gone) ≡ choices_of dids
choices_did [] gone = no_choice gone
choices_did (Opened op ∷ dids) gone = choices_did dids gone
choices_did (Closed v ∷ dids) gone = choices_did dids gone
choices_did (Chose c ∷ dids) gone = ap (λ (cs : List Choice). c ∷ cs) (choices_did dids gone)
choices_did (Took tree free ∷ dids) gone = choices_did dids gone

pub right_did : (t : Terms) (dids : List Did) (more : List SpaceCall) → AllByRecursion (IsRightCall t) (calls_by dids ++ more)
    → AllByRecursion (IsRight t) dids
right_did t [] more h = tt
right_did t (Opened op ∷ dids) more h = (tt, right_did t dids more h)
right_did t (Closed v ∷ dids) more h = (tt, right_did t dids more h)
right_did t (Chose c ∷ dids) more h = (tt, right_did t dids more h.1)
right_did t (Took tree free ∷ dids) more h = (h.0, right_did t dids more h.1)

-- calls that are right, by what was done
pub record WereRight (t : Terms) (entries : List Choice) (calls : List SpaceCall) (dids : List Did) : Type 0 where
  pub claims : AllByRecursion (IsRight t) dids
  pub lawful : AreLawful (sizes_of t.setting.tops) t.used (entries ++ choices_of dids)
  pub same : choices_in calls ≡ choices_of dids

pub were_right : (t : Terms) (entries : List Choice) (calls : List SpaceCall) (dids : List Did) (gone : List Place)
    → calls ≡ calls_by dids ++ calls_back gone → AreRight t entries calls → WereRight t entries calls dids
were_right t entries calls dids gone e h =
    let same : choices_in calls ≡ choices_of dids = ap choices_in e ∙ choices_did dids gone in
    record {
      claims = right_did t dids (calls_back gone) (subst (λ (cs : List SpaceCall). AllByRecursion (IsRightCall t) cs) e h.claims);
      lawful = subst (λ (cs : List Choice). AreLawful (sizes_of t.setting.tops) t.used (entries ++ cs)) same h.lawful;
      same = same;
    }

-- with no call no entry is made
pub none_made : (entries : List Choice) (calls : List SpaceCall) → calls ≡ [] → entries ≡ entries ++ choices_in calls
none_made entries calls e =
    sym (append_none entries) ∙ ap (λ (cs : List Choice). entries ++ cs) (sym (ap choices_in e))
