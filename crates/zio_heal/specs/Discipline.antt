-- Requests that may not fail: with an error of their own they go again, so whatever ends by being run ends without one.
use Rattle.std.specs.Prelude.{◌≡◌, List, false, None}
use Rattle.std.specs.List.{AllByRecursion}
use Rattle.zio_script.specs.declared.script.Request.{Request}
use Rattle.zio_script.specs.Decisions.{may_fail}
use Rattle.zio_script.specs.Requests.{kind_of}
use Rattle.zio_gang.specs.Attempts.{Child, Ended, Pending}

-- a request that the failure decision never lets fail
abbrev pub MayNotFail : Request → Type 0
MayNotFail r = may_fail (kind_of r.work) r.canfail ≡ false

-- a request that may not fail, none of whose children finished with an error
pub record IsUnfailing (p : Pending) : Type 0 where
  pub must : MayNotFail p.request
  pub kept : AllByRecursion (λ (c : Child). c.error ≡ None) p.kept

-- all requests of some trees
abbrev pub AreUnfailing : List (List Pending) → Type 0
AreUnfailing trees = AllByRecursion (AllByRecursion IsUnfailing) trees

-- none of these ended with an error
abbrev pub EndWithoutError : List Ended → Type 0
EndWithoutError ended = AllByRecursion (λ (e : Ended). e.error ≡ None) ended
