-- Places of own work: which stay free beside fewer, and sets of them one after another.
use Rattle.std.proofs.Common.{◌≡◌, List, [], ◌∷◌, ◌++◌, append_assoc, Bool, ap, ◌∙◌, subst}
use Rattle.std.specs.Prelude.{true, not, Contains, IsTrue}
use Rattle.std.specs.List.{AllByRecursion, list_all}
use Rattle.std.proofs.lemmas.Bool.{and_from, and_parts}
use Rattle.std.proofs.lemmas.List.Elements.{Contains-append_right}
use Rattle.zio_types.specs.declared.place.Place.{Place}
use Rattle.zio_types.specs.declared.place.TopSize.{TopSize}
use Rattle.zio_types.specs.Places.{SamePlaces, are_apart, are_open, is_free, is_inside, meets}
use Rattle.zio_cksum.proofs.AllLemmas.{all_append, all_contained, all_contains, all_weaker}
use Rattle.zio_places.proofs.PlaceLemmas.{meets-symmetric}
use Rattle.zio_blocks.specs.EntryLaws.{SamePlaces-swap}
use Rattle.zio_cksum.proofs.PlaceSets.{SamePlaces-behind, SamePlaces-then, all_pass, pass_all}

-- ---- free places

-- free beside some places is free beside fewer
pub free_among : (xs ys : List Place) (p : Place) → ((q : Place) → Contains ys q → Contains xs q) → IsTrue (is_free xs p) → IsTrue (is_free ys p)
free_among xs ys p within h =
    let apart : Place → Bool = λ q. not (meets p q) in
    pass_all apart ys (all_weaker (Contains ys) (λ q. IsTrue (apart q)) ys (λ q c. all_contains (λ r. IsTrue (apart r)) xs q (all_pass apart xs h) (within q c)) (all_contained ys))

apart_append : (xs ys : List Place) → are_apart xs ≡ true → are_apart ys ≡ true → AllByRecursion (λ (y : Place). IsTrue (is_free xs y)) ys → are_apart (xs ++ ys) ≡ true
apart_append [] ys h k free = k
apart_append (x ∷ xs) ys h k free =
    let parts = and_parts (is_free xs x) (are_apart xs) h in
    let apart : Place → Bool = λ q. not (meets x q) in
    and_from (is_free (xs ++ ys) x) (are_apart (xs ++ ys))
    (pass_all apart (xs ++ ys) (all_append (λ q. IsTrue (apart q)) xs ys (all_pass apart xs parts.0)
    (all_weaker (λ (y : Place). IsTrue (is_free (x ∷ xs) y)) (λ q. IsTrue (apart q)) ys
    (λ y f. ap not (meets-symmetric x y) ∙ (and_parts (not (meets y x)) (is_free xs y) f).0) free)))
    (apart_append xs ys parts.1 k
    (all_weaker (λ (y : Place). IsTrue (is_free (x ∷ xs) y)) (λ (y : Place). IsTrue (is_free xs y)) ys (λ y f. (and_parts (not (meets y x)) (is_free xs y) f).1) free))

-- places that are open beside more, and those that were open before
pub open_then : (old now ps qs : List Place) → are_open old ps ≡ true → are_open now qs ≡ true → ((p : Place) → Contains old p → Contains now p) → ((p : Place) → Contains ps p → Contains now p)
    → are_open old (ps ++ qs) ≡ true
open_then old now ps qs h k more taken =
    let a = and_parts (list_all (is_free old) ps) (are_apart ps) h in
    let b = and_parts (list_all (is_free now) qs) (are_apart qs) k in
    let free : AllByRecursion (λ (q : Place). IsTrue (is_free now q)) qs = all_pass (is_free now) qs b.0 in
    and_from (list_all (is_free old) (ps ++ qs)) (are_apart (ps ++ qs))
    (pass_all (is_free old) (ps ++ qs) (all_append (λ (p : Place). IsTrue (is_free old p)) ps qs (all_pass (is_free old) ps a.0)
    (all_weaker (λ (q : Place). IsTrue (is_free now q)) (λ (q : Place). IsTrue (is_free old q)) qs (λ q f. free_among now old q more f) free)))
    (apart_append ps qs a.1 b.1 (all_weaker (λ (q : Place). IsTrue (is_free now q)) (λ (q : Place). IsTrue (is_free ps q)) qs (λ q f. free_among now ps q taken f) free))

-- ---- places in use, one call after another

pub used_then : (kc kt hc ht u v w : List Place) → SamePlaces w (kc ++ (kt ++ v)) → SamePlaces v (hc ++ (ht ++ u)) → SamePlaces w ((hc ++ kc) ++ ((ht ++ kt) ++ u))
used_then kc kt hc ht u v w h k =
    let one : SamePlaces (kt ++ v) ((hc ++ kt) ++ (ht ++ u)) =
    SamePlaces-then (kt ++ v) (kt ++ (hc ++ (ht ++ u))) ((hc ++ kt) ++ (ht ++ u)) (SamePlaces-behind v (hc ++ (ht ++ u)) kt k) (SamePlaces-swap hc kt (ht ++ u)) in
    let two : SamePlaces (hc ++ (kt ++ (ht ++ u))) (hc ++ ((ht ++ kt) ++ u)) = SamePlaces-behind (kt ++ (ht ++ u)) ((ht ++ kt) ++ u) hc (SamePlaces-swap ht kt u) in
    let both : SamePlaces (kt ++ v) (hc ++ ((ht ++ kt) ++ u)) =
    SamePlaces-then (kt ++ v) (hc ++ (kt ++ (ht ++ u))) (hc ++ ((ht ++ kt) ++ u)) (subst (SamePlaces (kt ++ v)) (append_assoc hc kt (ht ++ u)) one) two in
    SamePlaces-then w (kc ++ (kt ++ v)) ((hc ++ kc) ++ ((ht ++ kt) ++ u)) h
    (SamePlaces-then (kc ++ (kt ++ v)) (kc ++ (hc ++ ((ht ++ kt) ++ u))) ((hc ++ kc) ++ ((ht ++ kt) ++ u))
    (SamePlaces-behind (kt ++ v) (hc ++ ((ht ++ kt) ++ u)) kc both) (SamePlaces-swap hc kc ((ht ++ kt) ++ u)))

pub live_then : (ps qs u v w : List Place) → SamePlaces w (qs ++ v) → SamePlaces v (ps ++ u) → SamePlaces w ((ps ++ qs) ++ u)
live_then ps qs u v w h k =
    SamePlaces-then w (qs ++ v) ((ps ++ qs) ++ u) h
    (SamePlaces-then (qs ++ v) (qs ++ (ps ++ u)) ((ps ++ qs) ++ u) (SamePlaces-behind v (ps ++ u) qs k) (SamePlaces-swap ps qs u))

-- what was in use is
pub still_used : (claimed taken u v : List Place) → SamePlaces v (claimed ++ (taken ++ u)) → (p : Place) → Contains u p → Contains v p
still_used claimed taken u v same p there = (same p).1 (Contains-append_right claimed (taken ++ u) p (Contains-append_right taken u p there))

-- ---- places inside their tops

pub inside_append : (sizes : List TopSize) (xs ys : List Place) → IsTrue (list_all (is_inside sizes) xs) → IsTrue (list_all (is_inside sizes) ys) → IsTrue (list_all (is_inside sizes) (xs ++ ys))
inside_append sizes xs ys h k =
    pass_all (is_inside sizes) (xs ++ ys) (all_append (λ p. IsTrue (is_inside sizes p)) xs ys (all_pass (is_inside sizes) xs h) (all_pass (is_inside sizes) ys k))
