-- A tree of the plain program seen as the requests that haven't finished, and what its requests hand on.
use Rattle.std.specs.Prelude.{◌≡◌, ℕ, ◌<◌, ◌≤◌, List, [], ◌∷◌, ◌++◌, map, Option, IfSome, IsTrue}
use Rattle.std.specs.List.{AllByRecursion}
use Rattle.zio_blkptr.specs.declared.pointer.Bp.{Bp}
use Rattle.zio_blkptr.specs.Pointers.{valid}
use Rattle.zio_gang.specs.Attempts.{Child, Pending, Return}
use Rattle.zio_gang.specs.ByNumber.{merge_by}
use Rattle.zio_plain.specs.declared.waiting.Handed.{Handed}
use Rattle.zio_plain.specs.declared.waiting.Kept.{Kept}
use Rattle.zio_plain.specs.declared.waiting.Waiting.{Waiting}

abbrev pub child_of : Kept → Child
child_of k = record { number = k.number; error = k.error; pointer = k.pointer }

abbrev pub return_of : Handed → Return
return_of h = record { under = h.under; bits = h.bits; child = child_of h.child }

abbrev pub pending_of : Waiting → Pending
pending_of w = record { request = w.request; birth = w.birth; block = w.block; kept = map child_of w.kept }

abbrev pub pendings : List Waiting → List Pending
pendings tree = map pending_of tree

abbrev pub numbers_in : List Kept → List ℕ
numbers_in children = map (λ (k : Kept). k.number) children

abbrev pub pointers_in : List Kept → List (Option Bp)
pointers_in children = map (λ (k : Kept). k.pointer) children

-- its pointer is valid, if it has one
abbrev pub HasPointer : Kept → Type 0
HasPointer k = IfSome k.pointer (λ bp. IsTrue (valid bp))

-- children at their places by number
abbrev pub merged : List Kept → List Kept → List Kept
merged new kept = merge_by (λ (k : Kept). k.number) new kept

-- the first child has this number or a higher one
abbrev pub IsPast : ℕ → List Kept → Type 0
IsPast n [] = Unit {0}
IsPast n (k ∷ ks) = n ≤ k.number

-- children at the front whose numbers are below this one, up to the first that hasn't
pub record IsSplitAt (n : ℕ) (children front rest : List Kept) : Type 0 where
  pub joined : children ≡ front ++ rest
  pub low : AllByRecursion (λ (k : Kept). k.number < n) front
  pub stop : IsPast n rest
