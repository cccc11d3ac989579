-- The pointers that a write's content begins with.
use Rattle.std.proofs.Common.{◌≡◌, ℕ, ◌+◌, ◌*◌, List, [], ◌∷◌, length, Option, ap, ◌∙◌}
use Rattle.std.specs.List.{AllByRecursion}
use Rattle.std.proofs.lemmas.List.{length-map}
use Rattle.zio_blkptr.specs.declared.pointer.Bp.{Bp}
use Rattle.zio_script.specs.declared.limits.TheConstants.{POINTER_SIZE}
use Rattle.zio_script.specs.Whys.{rounded_up}
use Rattle.zio_gang.specs.Pointers.{IsNoneOrValid}
use Rattle.zio_plain.specs.declared.waiting.Kept.{Kept}
use Rattle.zio_plain.specs.Waits.{HasPointer, pointers_in}

-- each is none or valid
pub pointers_valid : (children : List Kept) → AllByRecursion HasPointer children → AllByRecursion IsNoneOrValid (pointers_in children)
pointers_valid [] h = tt
pointers_valid (child ∷ children) h = (h.0, pointers_valid children h.1)

-- one for each child
pub sized : (len : ℕ) (pointers : List (Option Bp)) (children : List Kept) (body : ℕ) → pointers ≡ pointers_in children
    → len ≡ rounded_up (body + POINTER_SIZE * length pointers) → len ≡ rounded_up (body + POINTER_SIZE * length children)
sized len pointers children body is size =
    size ∙ ap (λ n. rounded_up (body + POINTER_SIZE * n)) (ap length is ∙ length-map children (λ (k : Kept). k.pointer))
