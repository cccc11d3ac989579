-- The places of a tree, as they are put together pointer by pointer.
use Rattle.std.proofs.Common.{◌≡◌, ℕ, ◌+◌, ◌<◌, List, [], ◌∷◌, ◌++◌, length, take, get_or, Option, Some, None, refl, ap, sym, ◌∙◌, append_assoc}
use Rattle.std.proofs.lemmas.Grind.{flat_map-append}
use Rattle.std.proofs.lemmas.List.{append-nil, take_more}
use Rattle.std.specs.List.{flat_map, cons_option}
use Rattle.std.specs.Option.{option_to_list}
use Rattle.zio_types.specs.declared.place.Place.{Place}
use Rattle.zio_blkptr.specs.declared.pointer.Bp.{Bp}
use Rattle.zio_blkptr.specs.Pointers.{places_of, pointer_of}
use Rattle.zio_cksum.specs.Headers.{members_of}
use Rattle.zio_gang.specs.declared.tree.Head.{Head}
use Rattle.zio_gang.specs.HeaderFaults.{slot_at}

-- the places that a slot names
abbrev slot_places : List ℕ → List Place
slot_places slot = flat_map places_of (option_to_list (pointer_of slot))

pub named_places : (slot : List ℕ) (bp : Bp) (old new : List Place) → pointer_of slot ≡ Some bp → new ≡ old ++ places_of bp → new ≡ old ++ flat_map places_of (option_to_list (pointer_of slot))
named_places slot bp old new e h =
    h ∙ ap (λ ps. old ++ ps) (sym (ap (λ o. flat_map places_of (option_to_list o)) e ∙ append-nil (places_of bp)))

pub no_places : (slot : List ℕ) (old : List Place) → pointer_of slot ≡ None → old ≡ old ++ flat_map places_of (option_to_list (pointer_of slot))
no_places slot old e = sym (ap (λ o. old ++ flat_map places_of (option_to_list o)) e ∙ append-nil old)

-- one pointer more in front
cons_places : (o : Option Bp) (ms : List Bp) → flat_map places_of (cons_option o ms) ≡ flat_map places_of (option_to_list o) ++ flat_map places_of ms
cons_places None ms = refl
cons_places (Some m) ms = ap (λ ps. ps ++ flat_map places_of ms) (sym (append-nil (places_of m)))

-- the places of a header's members are those of its slots in turn
pub members_added : (bytes p q r : List ℕ) (old first second third : List Place)
    → p ≡ slot_at bytes 0 → q ≡ slot_at bytes 1 → r ≡ slot_at bytes 2
    → first ≡ old ++ flat_map places_of (option_to_list (pointer_of p))
    → second ≡ first ++ flat_map places_of (option_to_list (pointer_of q))
    → third ≡ second ++ flat_map places_of (option_to_list (pointer_of r))
    → third ≡ old ++ flat_map places_of (members_of bytes)
members_added bytes p q r old first second third at_p at_q at_r one two three =
    let x = pointer_of (slot_at bytes 0) in
    let y = pointer_of (slot_at bytes 1) in
    let z = pointer_of (slot_at bytes 2) in
    let all : flat_map places_of (members_of bytes) ≡ slot_places (slot_at bytes 0) ++ (slot_places (slot_at bytes 1) ++ (slot_places (slot_at bytes 2) ++ [])) =
    cons_places x (cons_option y (cons_option z []))
    ∙ ap (λ ps. slot_places (slot_at bytes 0) ++ ps) (cons_places y (cons_option z []))
    ∙ ap (λ ps. slot_places (slot_at bytes 0) ++ (slot_places (slot_at bytes 1) ++ ps)) (cons_places z []) in
    let chain : third ≡ ((old ++ slot_places (slot_at bytes 0)) ++ slot_places (slot_at bytes 1)) ++ slot_places (slot_at bytes 2) =
    three ∙ (λ j. two j ++ slot_places (at_r j)) ∙ (λ j. (one j ++ slot_places (at_q j)) ++ slot_places (slot_at bytes 2))
    ∙ (λ j. ((old ++ slot_places (at_p j)) ++ slot_places (slot_at bytes 1)) ++ slot_places (slot_at bytes 2)) in
    let grouped : ((old ++ slot_places (slot_at bytes 0)) ++ slot_places (slot_at bytes 1)) ++ slot_places (slot_at bytes 2)
    ≡ old ++ (slot_places (slot_at bytes 0) ++ (slot_places (slot_at bytes 1) ++ slot_places (slot_at bytes 2))) =
    append_assoc (old ++ slot_places (slot_at bytes 0)) (slot_places (slot_at bytes 1)) (slot_places (slot_at bytes 2))
    ∙ append_assoc old (slot_places (slot_at bytes 0)) (slot_places (slot_at bytes 1) ++ slot_places (slot_at bytes 2)) in
    chain ∙ grouped
    ∙ ap (λ ps. old ++ (slot_places (slot_at bytes 0) ++ (slot_places (slot_at bytes 1) ++ ps))) (sym (append-nil (slot_places (slot_at bytes 2))))
    ∙ ap (λ ps. old ++ ps) (sym all)

-- the members of some headers
abbrev members_under : List Head → List Bp
members_under heads = flat_map (λ (h : Head). members_of h.bytes) heads

-- one header more
pub heads_more : (heads : List Head) (i : ℕ) (h : Head) (front old new : List Place) → i < length heads → h ≡ get_or heads i h
    → old ≡ front ++ flat_map places_of (flat_map (λ (h : Head). members_of h.bytes) (take i heads))
    → new ≡ old ++ flat_map places_of (members_of h.bytes)
    → new ≡ front ++ flat_map places_of (flat_map (λ (h : Head). members_of h.bytes) (take (i + 1) heads))
heads_more heads i h front old new lt at_h at_old at_new =
    let one : members_under (h ∷ []) ≡ members_of h.bytes = append-nil (members_of h.bytes) in
    let more : take (i + 1) heads ≡ take i heads ++ h ∷ [] =
    take_more heads i h lt ∙ ap (λ (x : Head). take i heads ++ x ∷ []) (sym at_h) in
    let members : members_under (take (i + 1) heads) ≡ members_under (take i heads) ++ members_of h.bytes =
    ap members_under more
    ∙ flat_map-append (λ (x : Head). members_of x.bytes) (take i heads) (h ∷ [])
    ∙ ap (λ ms. members_under (take i heads) ++ ms) one in
    let places : flat_map places_of (members_under (take (i + 1) heads)) ≡ flat_map places_of (members_under (take i heads)) ++ flat_map places_of (members_of h.bytes) =
    ap (flat_map places_of) members ∙ flat_map-append places_of (members_under (take i heads)) (members_of h.bytes) in
    at_new ∙ ap (λ ps. ps ++ flat_map places_of (members_of h.bytes)) at_old
    ∙ append_assoc front (flat_map places_of (members_under (take i heads))) (flat_map places_of (members_of h.bytes))
    ∙ ap (λ ps. front ++ ps) (sym places)
