use Rattle.std.proofs.Common.{◌≡◌, ℕ, ◌≤◌, List, [], ◌∷◌, ◌∙◌, Option, None, IfSome, IsTrue, refl, sym, ap, subst, arith, get_or, length, map, take}
use Rattle.std.specs.List.{AllByRecursion}
use Rattle.std.proofs.lemmas.List.Elements.{All-from_recursion}
use Rattle.zio_types.specs.declared.place.Place.{Place}
use Rattle.zio_types.specs.Choices.{no_place}
use Rattle.zio_types.specs.Filled.{filled_to}
use Rattle.zio_blkptr.specs.declared.pointer.Bp.{Bp}
use Rattle.zio_blkptr.specs.Pointers.{valid}
use Rattle.zio_cksum.specs.Headers.{header_of}
use Rattle.zio_parts.specs.Parts.{header_by, places_at, pointer_in}
use Rattle.zio_parts.proofs.MemberLemmas.{filled_pointers, spelled_pointers}
use Rattle.zio_parts.proofs.part_write.PartWrite.header.Goals as goal

first_any : {X : Type 0} (xs : List X) (d e : X) → 1 ≤ length xs → get_or xs 0 d ≡ get_or xs 0 e
first_any [] d e h = absurd (omega arith)
first_any (x ∷ xs) d e h = refl

pub header_encode-requires-clause-valid : goal.header_encode-requires-clause-valid
header_encode-requires-clause-valid c =
    let x = c.self.inside in
    All-from_recursion (λ (m : Option Bp). IfSome m (λ bp. IsTrue (valid bp))) c.pointers_of-pointers.result
    (subst (AllByRecursion (λ (m : Option Bp). IfSome m (λ bp. IsTrue (valid bp)))) (sym c.pointers_of-pointers.ensures)
    (spelled_pointers x.handed x.members c.self.invariant.filled c.self.invariant.is.spelled))

header_at : (r : List ℕ) (pointers filled : List (Option Bp)) (places : List Place) (d : Place) (birth : ℕ) → r ≡ header_of pointers (get_or places 0 d) birth → pointers ≡ filled → 1 ≤ length places
    → r ≡ header_of filled (get_or places 0 no_place) birth
header_at r pointers filled places d birth is e some =
    is ∙ ap (λ ps. header_of ps (get_or places 0 d) birth) e ∙ ap (λ f. header_of filled f birth) (first_any places d no_place some)

pub returns : goal.returns
returns c =
    let x = c.self.inside in
    let pointers = c.pointers_of-pointers.ensures ∙ filled_pointers x.handed x.members c.self.invariant.filled in
    header_at c.header_encode.result c.pointers_of-pointers.result (filled_to None 3 (map pointer_in (take x.handed x.members))) c.places.result.now _ x.write.birth c.header_encode.ensures pointers c.in-len1-up.len_at_least
    ∙ ap (λ (ps : List Place). header_of (filled_to None 3 (map pointer_in (take x.handed x.members))) (get_or ps 0 no_place) x.write.birth) c.places.ensures
    ∙ ap (λ y. header_by y (places_at c.args.self.now.placing)) c.self.view_is
