-- Which test a check makes of a copy's bytes.
use Rattle.std.specs.Prelude.{◌≡◌, IsTrue, refl}
use Rattle.zio_blkptr.specs.Pointers.{valid}
use Rattle.zio_trace.specs.Tasks.{BodyOf, ClaimedBy, KeptAs, Test}
use Rattle.zio_stages.specs.declared.check.Wanted.{Wanted}
use Rattle.zio_stages.specs.declared.check.Wanted.TheVariants.{Body, Kept, Claimed}

abbrev pub test_of : Wanted → Test
test_of (Body bp) = BodyOf bp
test_of (Kept header) = KeptAs header
test_of (Claimed bp) = ClaimedBy bp

-- a claimed header is that of a valid pointer
abbrev pub IsOfValid : Wanted → Type 0
IsOfValid (Body bp) = Unit {0}
IsOfValid (Kept header) = Unit {0}
IsOfValid (Claimed bp) = IsTrue (valid bp)

-- a test tells all of it
abbrev pub wanted_by : Test → Wanted
wanted_by (BodyOf bp) = Body bp
wanted_by (KeptAs header) = Kept header
wanted_by (ClaimedBy bp) = Claimed bp

pub wanted_again : (w : Wanted) → wanted_by (test_of w) ≡ w
wanted_again (Body bp) = refl
wanted_again (Kept header) = refl
wanted_again (Claimed bp) = refl
