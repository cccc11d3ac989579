use Rattle.std.proofs.Common.{refl}
use Rattle.zio_worked.specs.ErrorRanks.{ErrorsRankInOrder, WorseOfTwo, WorstOfMany, NoneOfNone, NoneOfNothing}

pub errors_rank_in_order : ErrorsRankInOrder
errors_rank_in_order = refl

pub worse_of_two : WorseOfTwo
worse_of_two = refl

pub worst_of_many : WorstOfMany
worst_of_many = refl

pub none_of_none : NoneOfNone
none_of_none = refl

pub none_of_nothing : NoneOfNothing
none_of_nothing = refl
