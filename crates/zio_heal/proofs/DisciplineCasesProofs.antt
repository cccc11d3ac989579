-- Requests that may fail, and such that may not.
use Rattle.std.proofs.Common.{◌≡◌, true, false, Some, None, refl}
use Rattle.zio_types.specs.declared.error.Errno.TheVariants.{Io}
use Rattle.zio_heal.specs.DisciplineCases.{BadChildIsnt, ClaimMayFail, FlaggedReadMay, GoodChildIsKept, ReadMayNotFail}

pub read_may_not_fail : ReadMayNotFail
read_may_not_fail = refl

pub flagged_read_may : FlaggedReadMay
flagged_read_may h = let e : true ≡ false = h in absurd (cc)

pub claim_may_fail : ClaimMayFail
claim_may_fail h = let e : true ≡ false = h in absurd (cc)

pub good_child_is_kept : GoodChildIsKept
good_child_is_kept = record { must = refl; kept = (refl, tt) }

pub bad_child_isnt : BadChildIsnt
bad_child_isnt h = let e : Some Io ≡ None = h.kept.0 in absurd (cc)
