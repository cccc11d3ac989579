use Rattle.zio_types.specs.Places.{meets}
use Rattle.std.specs.Prelude.{◌≡◌, false}
use Rattle.zio_types.specs.declared.place.Place.{Place}
use Rattle.zio_cksum.proofs.AllLemmas.{all_contains}
use Rattle.zio_trace.proofs.ClaimAlone.{claim_makes_none}
use Rattle.zio_trace.proofs.DoneWithin.{deeds_within, taken_placed}
use Rattle.zio_trace.proofs.RoundKeeps.{stays_as_it_was}
use Rattle.zio_trace.proofs.RoundTouches.{changed_within}
use Rattle.zio_trace.proofs.stopped.what_was_done_stays_within.Goals as goal

pub returns-clause-deeds : goal.returns-clause-deeds
returns-clause-deeds c = deeds_within

pub returns-clause-images : goal.returns-clause-images
returns-clause-images c = λ t sizes f before s round have under. changed_within t sizes f before s under have

pub returns-clause-inside : goal.returns-clause-inside
returns-clause-inside c = λ w before s p under there. (taken_placed w before s p under there).1

pub returns-clause-free : goal.returns-clause-free
returns-clause-free c = λ w before s p q under there used. all_contains (λ (r : Place). meets p r ≡ false) w.terms.used q (taken_placed w before s p under there).0 used

pub returns-clause-kept : goal.returns-clause-kept
returns-clause-kept c = λ t sizes f before s p leaf at round have under. stays_as_it_was t sizes f before s round have under p leaf at

pub returns-clause-claim : goal.returns-clause-claim
returns-clause-claim c = claim_makes_none
