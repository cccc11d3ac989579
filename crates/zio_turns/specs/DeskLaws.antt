-- Calls of a space one after another make what all of them make.
use Rattle.std.specs.Prelude.{◌≡◌, List, [], ◌∷◌, ◌++◌}
use Rattle.std.proofs.Common.{refl, sym, ap, ◌∙◌, subst}
use Rattle.zio_places.specs.Spaces.{SpaceState}
use Rattle.zio_exchange.specs.SpaceCalls.{SpaceCall}
use Rattle.zio_turns.specs.Desks.{AreAnswered, AreMade, after_call, after_calls, bare}

pub after_both : (first second : List SpaceCall) (st : SpaceState) → after_calls (first ++ second) st ≡ after_calls second
    (after_calls first st)
after_both [] second st = refl
after_both (call ∷ first) second st = after_both first second (after_call call st)

answered_both : (first second : List SpaceCall) (st : SpaceState) → AreAnswered first st → AreAnswered second
    (after_calls first st)
    → AreAnswered (first ++ second) st
answered_both [] second st h k = k
answered_both (call ∷ first) second st h k = (h.0, answered_both first second (after_call call st) h.1 k)

pub made_none : (st : SpaceState) → AreMade [] st st
made_none st = record { answered = tt; made = refl }

pub made_then : {a b c : SpaceState} {first second : List SpaceCall} → AreMade first a b → AreMade second b c → AreMade
    (first ++ second) a c
made_then {a} {b} {c} {first} {second} h k = record {
  answered = answered_both first second (bare a) h.answered (subst (AreAnswered second) h.made k.answered);
  made = k.made ∙ (ap (after_calls second) h.made ∙ sym (after_both first second (bare a)));
}
