-- The members of a header, slot by slot.
use Rattle.std.proofs.Common.{◌≡◌, ℕ, List, [], ◌∷◌, ◌++◌, Option, Some, None, refl, ap, sym, ◌∙◌}
use Rattle.std.proofs.lemmas.List.{append-nil}
use Rattle.std.specs.List.{cons_option}
use Rattle.std.specs.Option.{option_to_list}
use Rattle.zio_blkptr.specs.declared.pointer.Bp.{Bp}
use Rattle.zio_blkptr.specs.Pointers.{pointer_of}
use Rattle.zio_cksum.specs.Headers.{members_of}
use Rattle.zio_gang.specs.HeaderFaults.{slot_at}

list_three : (x y z : Option Bp) → cons_option x (cons_option y (cons_option z [])) ≡ (option_to_list x ++ option_to_list y) ++ option_to_list z
list_three None None None = refl
list_three None None (Some z) = refl
list_three None (Some y) None = refl
list_three None (Some y) (Some z) = refl
list_three (Some x) None None = refl
list_three (Some x) None (Some z) = refl
list_three (Some x) (Some y) None = refl
list_three (Some x) (Some y) (Some z) = refl

-- what is added slot by slot are the members
pub members_named : (bytes p q r : List ℕ) (none first second third : List Bp)
    → p ≡ slot_at bytes 0 → q ≡ slot_at bytes 1 → r ≡ slot_at bytes 2
    → none ≡ [] → first ≡ none ++ option_to_list (pointer_of p) → second ≡ first ++ option_to_list (pointer_of q) → third ≡ second ++ option_to_list (pointer_of r)
    → third ≡ members_of bytes
members_named bytes p q r none first second third at_p at_q at_r empty front two three =
    let one : first ≡ option_to_list (pointer_of p) = front ∙ ap (λ ms. ms ++ option_to_list (pointer_of p)) empty in
    three ∙ (λ j. two j ++ option_to_list (pointer_of (at_r j))) ∙ (λ j. (one j ++ option_to_list (pointer_of (at_q j))) ++ option_to_list (pointer_of (slot_at bytes 2)))
    ∙ (λ j. (option_to_list (pointer_of (at_p j)) ++ option_to_list (pointer_of (slot_at bytes 1))) ++ option_to_list (pointer_of (slot_at bytes 2)))
    ∙ sym (list_three (pointer_of (slot_at bytes 0)) (pointer_of (slot_at bytes 1)) (pointer_of (slot_at bytes 2)))

-- one slot's member, if it names one
pub one_named : (slot : List ℕ) (bp : Bp) (old new : List Bp) → pointer_of slot ≡ Some bp → new ≡ old ++ bp ∷ [] → new ≡ old ++ option_to_list (pointer_of slot)
one_named slot bp old new e h = h ∙ ap (λ o. old ++ option_to_list o) (sym e)

pub none_named : (slot : List ℕ) (old : List Bp) → pointer_of slot ≡ None → old ≡ old ++ option_to_list (pointer_of slot)
none_named slot old e = sym (ap (λ o. old ++ option_to_list o) e ∙ append-nil old)
