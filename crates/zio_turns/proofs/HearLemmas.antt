-- The child and its parent, as far as both know it.
use Rattle.std.proofs.Common.{◌≡◌, ◌≢◌, ℕ, zero, suc, List, slice_get, Bool, true, false, Option, Some, refl, sym, ◌∙◌, subst, ◌<◌, arith}
use Rattle.zio_types.specs.declared.request.ChildKind.{ChildKind}
use Rattle.zio_types.specs.declared.request.ChildKind.TheVariants.{Vdev, Gang, Logical}
use Rattle.zio_frames.specs.Frames.{Child, Flying, place_of, needs_none}
use Rattle.zio_turns.specs.Engine.{DoesFor, HasParent, counts_as_told, parent_in}
use Rattle.zio_staged.specs.Entries.{Parent, number_in}
use Rattle.zio_turns.proofs.Links.{some_is}

-- the child that it does for
pub record IsChild (kind : ChildKind) (told : Bool) (at : List ℕ) (q : Flying) (n : ℕ) (c : Child) : Type 0 where
  pub is : slice_get q.stack.children n ≡ Some c
  pub goes : c.ended ≡ false
  pub there : at ≡ place_of q c.seat
  pub of_kind : c.kind ≡ kind
  pub heard : c.told ≡ counts_as_told kind told

pub child_of : (kind : ChildKind) (told : Bool) (at : List ℕ) (q : Flying) (n : ℕ) → (d : DoesFor kind told at q n)
    → IsChild kind told at q n d.child
child_of kind told at q n d = record { is = d.is; goes = d.goes; there = d.there; of_kind = d.of_kind; heard = d.heard }

pub child_is : (kind : ChildKind) (told : Bool) (at : List ℕ) (q : Flying) (n : ℕ) (c : Child) → DoesFor kind told at q n
    → slice_get q.stack.children n ≡ Some c → IsChild kind told at q n c
child_is kind told at q n c d e =
    let same : d.child ≡ c = some_is d.child c (sym d.is ∙ e) in
    subst (λ (x : Child). IsChild kind told at q n x) same (child_of kind told at q n d)

pub does_here : (tops lives : ℕ → Option Flying) (kind : ChildKind) (told : Bool) (at : List ℕ) (p r : Parent) (q : Flying)
    → HasParent tops lives kind told at p → p ≡ r → parent_in tops lives r ≡ Some q → DoesFor kind told at q (number_in r)
does_here tops lives kind told at p r q h same is =
    let g : HasParent tops lives kind told at r = subst (λ (x : Parent). HasParent tops lives kind told at x) same h in
    subst (λ (y : Flying). DoesFor kind told at y (number_in r)) (some_is g.above q (sym g.is ∙ is)) g.for

pub told_not : (kind : ChildKind) → needs_none kind ≡ false → counts_as_told kind false ≡ false
told_not Vdev h = absurd (cc)
told_not Gang h = refl
told_not Logical h = refl

pub told_all : (kind : ChildKind) (told : Bool) → (needs_none kind ≡ false → told ≡ true) → counts_as_told kind told ≡ true
told_all Vdev told h = refl
told_all Gang told h = h refl
told_all Logical told h = h refl

pub some_more : (n : ℕ) → n ≢ 0 → 0 < n
some_more zero h = absurd (h refl)
some_more (suc n) h = omega arith
