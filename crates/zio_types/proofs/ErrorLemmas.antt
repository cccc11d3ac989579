-- The worst of two errors is the greater in the order of ranks.
use Rattle.std.proofs.Common.{◌≡◌, ℕ, zero, suc, ◌<◌, ◌≤◌, max, Bool, true, false, Option, Some, None, nat_lt, refl, ap, sym, ◌∙◌, arith, ltb-true, ltb-false}
use Rattle.zio_types.specs.declared.error.Errno.{Errno}
use Rattle.zio_types.specs.declared.error.Errno.TheVariants.{Nxio, Cksum, Io, Nospc, Inval, Exist, Noent}
use Rattle.zio_types.specs.Errors.{rank, worst_error, second_if}

-- the error of a rank
abbrev of_rank : ℕ → Option Errno
of_rank zero = None
of_rank (suc zero) = Some Nxio
of_rank (suc (suc zero)) = Some Cksum
of_rank (suc (suc (suc zero))) = Some Io
of_rank (suc (suc (suc (suc zero)))) = Some Nospc
of_rank (suc (suc (suc (suc (suc zero))))) = Some Inval
of_rank (suc (suc (suc (suc (suc (suc zero)))))) = Some Exist
of_rank (suc (suc (suc (suc (suc (suc (suc n))))))) = Some Noent

of_rank-rank : (e : Option Errno) → of_rank (rank e) ≡ e
of_rank-rank None = refl
of_rank-rank (Some Nxio) = refl
of_rank-rank (Some Cksum) = refl
of_rank-rank (Some Io) = refl
of_rank-rank (Some Nospc) = refl
of_rank-rank (Some Inval) = refl
of_rank-rank (Some Exist) = refl
of_rank-rank (Some Noent) = refl

-- errors of one rank are one error
pub same_rank : (a b : Option Errno) → rank a ≡ rank b → a ≡ b
same_rank a b e = sym (of_rank-rank a) ∙ ap of_rank e ∙ of_rank-rank b

rank-second_if : (t : Bool) (a b : Option Errno) → nat_lt (rank a) (rank b) ≡ t → rank (second_if t a b) ≡ max (rank a) (rank b)
rank-second_if true a b e = let h : rank a < rank b = ltb-true (rank a) (rank b) e in omega arith
rank-second_if false a b e = let h : rank b ≤ rank a = ltb-false (rank a) (rank b) e in omega arith

pub rank-worst_error : (a b : Option Errno) → rank (worst_error a b) ≡ max (rank a) (rank b)
rank-worst_error a b = rank-second_if (nat_lt (rank a) (rank b)) a b refl

pub worst_error_assoc : (a b c : Option Errno) → worst_error a (worst_error b c) ≡ worst_error (worst_error a b) c
worst_error_assoc a b c = same_rank _ _ (omega (arith, rank-worst_error a (worst_error b c), rank-worst_error b c, rank-worst_error (worst_error a b) c, rank-worst_error a b))

pub worst_error_comm : (a b : Option Errno) → worst_error a b ≡ worst_error b a
worst_error_comm a b = same_rank _ _ (omega (arith, rank-worst_error a b, rank-worst_error b a))

pub worst_error_same : (a : Option Errno) → worst_error a a ≡ a
worst_error_same a = same_rank _ _ (omega (arith, rank-worst_error a a))
