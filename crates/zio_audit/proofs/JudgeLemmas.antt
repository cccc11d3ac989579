-- Recorded entries beside what is in use: the copies of an entry one after another, and entries one after another.
use Rattle.std.proofs.Common.{◌≡◌, ◌<◌, ◌≤◌, ◌+◌, ℕ, zero, suc, List, [], ◌∷◌, ◌++◌, length, take, get_or, cond, refl, sym, ap, subst, ◌∙◌, arith, Bool, true, false, ⊎_elim, ◌==◌, ◌&&◌, append_assoc, Some, None, Option}
use Rattle.std.specs.Prelude.{Contains, flat_map, nat_lt, slice_get, ◌/◌, ◌%◌}
use Rattle.std.proofs.lemmas.Bool.{and_from, and_parts, both_ways, cond-false, cond-true, eq-eqb, eqb-true, false_from_ne_true, le-ltb, lt-ltb, ltb-true, or_cases, true≢false}
use Rattle.std.proofs.lemmas.List.{append-nil, take_all, take_more}
use Rattle.std.proofs.lemmas.List.Concat.{flat_map-append}
use Rattle.std.proofs.lemmas.List.Elements.{Contains-append_cases, Contains-append_left, Contains-append_right}
use Rattle.std.proofs.lemmas.Option.{slice_get_past}
use Rattle.zio_types.specs.declared.place.Place.{Place}
use Rattle.zio_types.specs.declared.place.TopSize.{TopSize}
use Rattle.zio_types.specs.Choices.{Choice, is_refused, taken_by}
use Rattle.zio_types.specs.Places.{AreCopies, HasRun, IsLawfulChoice, IsNextCopy, SamePlaces, fits_on, fits_size, is_aligned, is_aligned_on, is_below, is_free, is_inside, sectors_on, uses_top}
use Rattle.zio_places.specs.Ordered.{all_placed_in, comes_before, is_same_place, placed_in, without}
use Rattle.zio_places.specs.Spaces.{IsSound, SpaceState, is_on_top, is_open, used}
use Rattle.zio_gang.specs.Journals.{AreLawful}
use Rattle.zio_audit.specs.Keeping.{Keeps}
use Rattle.zio_places.proofs.PlaceLemmas.{Contains-head, is_same_place-refl, is_same_place-true}
use Rattle.zio_places.proofs.LawLemmas.{AreCopies-push}
use Rattle.zio_places.proofs.SetLemmas.{all_placed-same}
use Rattle.zio_places.proofs.UnitLemmas.{rounded-whole}
use Rattle.zio_cksum.proofs.PlaceSets.{SamePlaces-append, SamePlaces-back, SamePlaces-then, free_same, lawful_same}

-- ---- one place

aligned_with : (o : Option TopSize) (size : ℕ) (p : Place) → fits_on size p o ≡ true → is_aligned_on p o ≡ true
aligned_with None size p fits = absurd (true≢false (sym fits))
aligned_with (Some top) size p fits =
    let parts = and_parts ((p.sector % top.unit) == 0) (p.sectors == sectors_on top size) fits in
    let many : p.sectors ≡ sectors_on top size = eqb-true p.sectors (sectors_on top size) parts.1 in
    and_from ((p.sector % top.unit) == 0) ((p.sectors % top.unit) == 0) parts.0
    (eq-eqb (p.sectors % top.unit) 0 (ap (λ n. n % top.unit) many ∙ rounded-whole top.unit (size / 512)))

-- a place that fits a size stands on whole units
pub aligned : (tops : List TopSize) (size : ℕ) (p : Place) → fits_size tops size p ≡ true → is_aligned tops p ≡ true
aligned tops size p fits = aligned_with (slice_get tops p.top) size p fits

pub run_same : (tops : List TopSize) (xs ys : List Place) (top size : ℕ) → SamePlaces xs ys → HasRun tops xs top size → HasRun tops ys top size
run_same tops xs ys top size same run = record {
  place = run.place;
  there = run.there;
  fits = run.fits;
  inside = run.inside;
  free = free_same xs ys run.place same run.free;
}

-- a top that isn't there has no run
pub no_top : (tops : List TopSize) (xs : List Place) (top size : ℕ) → length tops ≤ top → HasRun tops xs top size → ⊥
no_top tops xs top size past run =
    let there : run.place.top ≡ top = run.there in
    let none : is_below run.place (slice_get tops run.place.top) ≡ false = ap (is_below run.place) (slice_get_past tops run.place.top (omega arith)) in
    both_ways (is_inside tops run.place) none run.inside

-- a run on another top than those of the earlier copies
abbrev pub OtherRun : List TopSize → List Place → ℕ → List Place → Type 0
OtherRun tops now size earlier = (top : ℕ) × (uses_top earlier top ≡ false) × HasRun tops now top size

pub next_from : (st : SpaceState) (tops : List TopSize) (before earlier : List Place) (size : ℕ) (p : Place) → tops ≡ st.sizes → SamePlaces (used st) (earlier ++ before)
    → fits_size tops size p ≡ true → is_open st p ≡ true → (uses_top earlier p.top ≡ true → ¬ OtherRun st.sizes (used st) size earlier)
    → IsNextCopy tops before size earlier p
next_from st tops before earlier size p sizes same fits there spread =
    let parts = and_parts (is_on_top st.sizes p) (is_free (used st) p) there in
    let on = and_parts (is_inside st.sizes p) (is_aligned st.sizes p) parts.0 in
    record {
      fits = fits;
      inside = ap (λ (ts : List TopSize). is_inside ts p) sizes ∙ on.0;
      free = free_same (used st) (earlier ++ before) p same parts.1;
      spread = λ uses top unused run.
          spread uses (
            top,
            unused,
            subst (λ (ts : List TopSize). HasRun ts (used st) top size) sizes
                (run_same tops (earlier ++ before) (used st) top size (SamePlaces-back (used st) (earlier ++ before) same) run),
          );
    }

-- what a next copy has
pub record HasNext (st : SpaceState) (tops : List TopSize) (earlier : List Place) (size : ℕ) (p : Place) : Type 0 where
  pub fits : fits_size tops size p ≡ true
  pub there : is_open st p ≡ true
  pub spread : uses_top earlier p.top ≡ true → ¬ OtherRun st.sizes (used st) size earlier

pub next_has : (st : SpaceState) (tops : List TopSize) (before earlier : List Place) (size : ℕ) (p : Place) → tops ≡ st.sizes → SamePlaces (used st) (earlier ++ before)
    → IsNextCopy tops before size earlier p → HasNext st tops earlier size p
next_has st tops before earlier size p sizes same next = record {
  fits = next.fits;
  there = and_from (is_on_top st.sizes p) (is_free (used st) p)
      (and_from (is_inside st.sizes p) (is_aligned st.sizes p) (ap (λ (ts : List TopSize). is_inside ts p) (sym sizes) ∙ next.inside)
      (ap (λ (ts : List TopSize). is_aligned ts p) (sym sizes) ∙ aligned tops size p next.fits))
      (free_same (earlier ++ before) (used st) p (SamePlaces-back (used st) (earlier ++ before) same) next.free);
  spread = λ uses other.
      next.spread uses other.0 other.1 (subst (λ (ts : List TopSize). HasRun ts (earlier ++ before) other.0 size) (sym sizes)
      (run_same st.sizes (used st) (earlier ++ before) other.0 size same other.2));
}

-- ---- places in order

before_is_other : (p q : Place) → comes_before q p ≡ true → is_same_place p q ≡ false
before_is_other p q before = false_from_ne_true (is_same_place p q) (λ same. itself (subst (λ (r : Place). comes_before r p ≡ true) (sym (is_same_place-true p q same)) before))
  where
    itself : comes_before p p ≡ true → ⊥
    itself e = ⊎_elim
        (λ less. let low = ltb-true p.top p.top less in absurd (omega arith))
        (λ both. let low = ltb-true p.sector p.sector (and_parts (p.top == p.top) (nat_lt p.sector p.sector) both).1 in absurd (omega arith))
        (or_cases (nat_lt p.top p.top) ((p.top == p.top) && nat_lt p.sector p.sector) e)

out_with : (p q : Place) (live : List Place) (t : Bool) → comes_before q p ≡ t → without p (placed_in p live) ≡ live
    → without p (cond t (q ∷ placed_in p live) (p ∷ q ∷ live)) ≡ q ∷ live
out_with p q live true before rest =
    cond-false (is_same_place p q) (placed_in p live) (q ∷ without p (placed_in p live)) (before_is_other p q before) ∙ ap (λ (ps : List Place). q ∷ ps) rest
out_with p q live false before rest = cond-true (is_same_place p p) (q ∷ live) (p ∷ without p (q ∷ live)) (is_same_place-refl p)

-- a place that is put in and taken out again changes nothing
out_again : (p : Place) (live : List Place) → without p (placed_in p live) ≡ live
out_again p [] = cond-true (is_same_place p p) [] (p ∷ []) (is_same_place-refl p)
out_again p (q ∷ live) = out_with p q live (comes_before q p) refl (out_again p live)

pub placed_push : (xs : List Place) (p : Place) (live : List Place) → all_placed_in (xs ++ p ∷ []) live ≡ placed_in p (all_placed_in xs live)
placed_push [] p live = refl
placed_push (x ∷ xs) p live = placed_push xs p (placed_in x live)

pub placed_behind : (xs ys live : List Place) → all_placed_in (xs ++ ys) live ≡ all_placed_in ys (all_placed_in xs live)
placed_behind [] ys live = refl
placed_behind (x ∷ xs) ys live = placed_behind xs ys (placed_in x live)

-- the same places are put in the same list
pub placed_one : (xs a b : List Place) → all_placed_in xs a ≡ all_placed_in xs b → a ≡ b
placed_one [] a b same = same
placed_one (x ∷ xs) a b same =
    sym (out_again x a) ∙ ap (without x) (placed_one xs (placed_in x a) (placed_in x b) same) ∙ out_again x b

pub last_there : (p : Place) (live : List Place) → Contains (placed_in p live) p
last_there p live = (all_placed-same (p ∷ []) live p).1 (Contains-head p live)

-- the space with places claimed
abbrev pub with_placed : SpaceState → List Place → SpaceState
with_placed st xs = record st { live = all_placed_in xs st.live }

pub used_placed : (st : SpaceState) (xs : List Place) → SamePlaces (used (with_placed st xs)) (xs ++ used st)
used_placed st xs =
    subst (SamePlaces (all_placed_in xs st.live ++ st.pending)) (append_assoc xs st.live st.pending)
    (SamePlaces-append (all_placed_in xs st.live) (xs ++ st.live) st.pending (all_placed-same xs st.live))

-- ---- the copies of an entry

copies_at : (tops : List TopSize) (before : List Place) (size : ℕ) (earlier xs : List Place) (i : ℕ) (d : Place) → i < length xs → AreCopies tops before size earlier xs
    → IsNextCopy tops before size (earlier ++ take i xs) (get_or xs i d)
copies_at tops before size earlier [] i d below copies = absurd (omega arith)
copies_at tops before size earlier (x ∷ xs) zero d below copies = subst (λ (ps : List Place). IsNextCopy tops before size ps x) (sym (append-nil earlier)) copies.0
copies_at tops before size earlier (x ∷ xs) (suc i) d below copies =
    subst (λ (ps : List Place). IsNextCopy tops before size ps (get_or xs i d)) (append_assoc earlier (x ∷ []) (take i xs))
    (copies_at tops before size (earlier ++ x ∷ []) xs i d (omega arith) copies.1)

-- so many of the places were claimed as copies
pub record AreClaimed (tops : List TopSize) (size : ℕ) (places : List Place) (i : ℕ) (st now : SpaceState) : Type 0 where
  pub copies : AreCopies tops (used st) size [] (take i places)
  pub space : now ≡ with_placed st (take i places)

pub none_claimed : (tops : List TopSize) (size : ℕ) (places : List Place) (st : SpaceState) → AreClaimed tops size places 0 st st
none_claimed tops size places st = record { copies = tt; space = refl }

pub claimed_same : (tops : List TopSize) (size : ℕ) (places : List Place) (i : ℕ) (st now : SpaceState) → AreClaimed tops size places i st now → SamePlaces (used now) (take i places ++ used st)
claimed_same tops size places i st now claimed =
    subst (λ (s : SpaceState). SamePlaces (used s) (take i places ++ used st)) (sym claimed.space) (used_placed st (take i places))

pub claimed_sizes : (tops : List TopSize) (size : ℕ) (places : List Place) (i : ℕ) (st now : SpaceState) → AreClaimed tops size places i st now → now.sizes ≡ st.sizes
claimed_sizes tops size places i st now claimed = ap (λ (s : SpaceState). s.sizes) claimed.space

pub one_claimed : (tops : List TopSize) (size : ℕ) (places : List Place) (i : ℕ) (d : Place) (st now next : SpaceState) → i < length places → AreClaimed tops size places i st now
    → IsNextCopy tops (used st) size (take i places) (get_or places i d) → next ≡ record now { live = placed_in (get_or places i d) now.live }
    → AreClaimed tops size places (i + 1) st next
one_claimed tops size places i d st now next below claimed copy is =
    let more : take (i + 1) places ≡ take i places ++ get_or places i d ∷ [] = take_more places i d below in
    record {
      copies = subst (AreCopies tops (used st) size []) (sym more) (AreCopies-push tops (used st) size [] (take i places) (get_or places i d) claimed.copies copy);
      space = is ∙ ap (λ (s : SpaceState). record s { live = placed_in (get_or places i d) s.live }) claimed.space
          ∙ ap (λ (live : List Place). record st { live = live }) (sym (placed_push (take i places) (get_or places i d) st.live))
          ∙ ap (with_placed st) (sym more);
    }

pub not_copies : (tops : List TopSize) (before : List Place) (size : ℕ) (places : List Place) (i : ℕ) (d : Place) → i < length places
    → ¬ IsNextCopy tops before size (take i places) (get_or places i d) → ¬ AreCopies tops before size [] places
not_copies tops before size places i d below not copies = not (copies_at tops before size [] places i d below copies)

pub all_claimed : (tops : List TopSize) (size : ℕ) (places : List Place) (i : ℕ) (st now : SpaceState) → length places ≤ i → AreClaimed tops size places i st now
    → AreCopies tops (used st) size [] places × (now ≡ with_placed st places)
all_claimed tops size places i st now end claimed = (
  subst (AreCopies tops (used st) size []) (take_all i places end) claimed.copies,
  claimed.space ∙ ap (with_placed st) (take_all i places end),
)

-- ---- one entry

pub took_all : (c : Choice) → c.asked.copies ≤ length c.places → taken_by c ≡ c.places
took_all c enough = cond-false (is_refused c) [] c.places (le-ltb (length c.places) c.asked.copies enough)

pub took_none : (c : Choice) → length c.places < c.asked.copies → taken_by c ≡ []
took_none c few = cond-true (is_refused c) [] c.places (lt-ltb (length c.places) c.asked.copies few)

-- ---- one entry behind others

swapped : (a b u : List Place) → SamePlaces ((a ++ b) ++ u) (b ++ (a ++ u))
swapped a b u p = (
  (λ h. ⊎_elim
      (λ x. ⊎_elim (λ z. Contains-append_right b (a ++ u) p (Contains-append_left a u p z)) (λ z. Contains-append_left b (a ++ u) p z) (Contains-append_cases a b p x))
      (λ y. Contains-append_right b (a ++ u) p (Contains-append_right a u p y))
      (Contains-append_cases (a ++ b) u p h)),
  (λ h. ⊎_elim
      (λ x. Contains-append_left (a ++ b) u p (Contains-append_right a b p x))
      (λ y. ⊎_elim (λ z. Contains-append_left (a ++ b) u p (Contains-append_left a b p z)) (λ z. Contains-append_right (a ++ b) u p z) (Contains-append_cases a u p y))
      (Contains-append_cases b (a ++ u) p h)),
)

-- what entries take
abbrev pub all_taken : List Choice → List Place
all_taken es = flat_map taken_by es

pub lawful_push : (tops : List TopSize) (before now : List Place) (es : List Choice) (e : Choice) → AreLawful tops before es → SamePlaces now (all_taken es ++ before)
    → IsLawfulChoice tops now e → AreLawful tops before (es ++ e ∷ [])
lawful_push tops before now [] e lawful same next = (lawful_same tops now before e same next, tt)
lawful_push tops before now (d ∷ es) e lawful same next = (
  lawful.0,
  lawful_push tops (taken_by d ++ before) now es e lawful.1
      (SamePlaces-then now ((taken_by d ++ all_taken es) ++ before) (all_taken es ++ (taken_by d ++ before)) same (swapped (taken_by d) (all_taken es) before)) next,
)

lawful_at : (tops : List TopSize) (before now : List Place) (es : List Choice) (i : ℕ) (d : Choice) → i < length es → SamePlaces now (all_taken (take i es) ++ before)
    → AreLawful tops before es → IsLawfulChoice tops now (get_or es i d)
lawful_at tops before now [] i d below same lawful = absurd (omega arith)
lawful_at tops before now (e ∷ es) zero d below same lawful = lawful_same tops before now e (SamePlaces-back now before same) lawful.0
lawful_at tops before now (e ∷ es) (suc i) d below same lawful =
    lawful_at tops (taken_by e ++ before) now es i d (omega arith)
    (SamePlaces-then now ((taken_by e ++ all_taken (take i es)) ++ before) (all_taken (take i es) ++ (taken_by e ++ before)) same (swapped (taken_by e) (all_taken (take i es)) before)) lawful.1

-- so many of the entries were judged, and what they take is claimed
pub record AreJudged (tops : List TopSize) (entries : List Choice) (i : ℕ) (st now : SpaceState) : Type 0 where
  pub lawful : AreLawful tops (used st) (take i entries)
  pub space : now ≡ with_placed st (all_taken (take i entries))

pub none_judged : (tops : List TopSize) (entries : List Choice) (st : SpaceState) → AreJudged tops entries 0 st st
none_judged tops entries st = record { lawful = tt; space = refl }

judged_same : (tops : List TopSize) (entries : List Choice) (i : ℕ) (st now : SpaceState) → AreJudged tops entries i st now → SamePlaces (used now) (all_taken (take i entries) ++ used st)
judged_same tops entries i st now judged =
    subst (λ (s : SpaceState). SamePlaces (used s) (all_taken (take i entries) ++ used st)) (sym judged.space) (used_placed st (all_taken (take i entries)))

pub judged_sizes : (tops : List TopSize) (entries : List Choice) (i : ℕ) (st now : SpaceState) → AreJudged tops entries i st now → now.sizes ≡ st.sizes
judged_sizes tops entries i st now judged = ap (λ (s : SpaceState). s.sizes) judged.space

-- what the entries take with one more
taken_more : (entries : List Choice) (i : ℕ) (e : Choice) (st : SpaceState) → i < length entries → e ≡ get_or entries i e
    → with_placed st (all_taken (take (i + 1) entries)) ≡ record st { live = all_placed_in (taken_by e) (all_placed_in (all_taken (take i entries)) st.live) }
taken_more entries i e st below is =
    ap (λ (es : List Choice). with_placed st (all_taken es)) (take_more entries i e below ∙ ap (λ (d : Choice). take i entries ++ d ∷ []) (sym is))
    ∙ ap (with_placed st) (flat_map-append taken_by (take i entries) (e ∷ []) ∙ ap (λ (ps : List Place). all_taken (take i entries) ++ ps) (append-nil (taken_by e)))
    ∙ ap (λ (live : List Place). record st { live = live }) (placed_behind (all_taken (take i entries)) (taken_by e) st.live)

pub one_judged : (tops : List TopSize) (entries : List Choice) (i : ℕ) (e : Choice) (st now next : SpaceState) → i < length entries → e ≡ get_or entries i e
    → AreJudged tops entries i st now → IsLawfulChoice tops (used now) e → next ≡ record now { live = all_placed_in (taken_by e) now.live }
    → AreJudged tops entries (i + 1) st next
one_judged tops entries i e st now next below here judged lawful is = record {
  lawful = subst (AreLawful tops (used st)) (sym (take_more entries i e below ∙ ap (λ (d : Choice). take i entries ++ d ∷ []) (sym here)))
      (lawful_push tops (used st) (used now) (take i entries) e judged.lawful (judged_same tops entries i st now judged) lawful);
  space = is ∙ ap (λ (s : SpaceState). record s { live = all_placed_in (taken_by e) s.live }) judged.space ∙ sym (taken_more entries i e st below here);
}

pub not_judged : (tops : List TopSize) (entries : List Choice) (i : ℕ) (e : Choice) (st now : SpaceState) → i < length entries → e ≡ get_or entries i e
    → AreJudged tops entries i st now → ¬ IsLawfulChoice tops (used now) e → ¬ AreLawful tops (used st) entries
not_judged tops entries i e st now below here judged not lawful =
    not (subst (IsLawfulChoice tops (used now)) (sym here) (lawful_at tops (used st) (used now) entries i e below (judged_same tops entries i st now judged) lawful))

pub all_judged : (tops : List TopSize) (entries : List Choice) (i : ℕ) (st now : SpaceState) → length entries ≤ i → AreJudged tops entries i st now → AreLawful tops (used st) entries
all_judged tops entries i st now end judged = subst (AreLawful tops (used st)) (take_all i entries end) judged.lawful

-- ---- giving back

-- what the entries behind so many took is free again
abbrev pub IsBackTo : List Choice → ℕ → SpaceState → SpaceState → Type 0
IsBackTo entries left st now = now ≡ with_placed st (all_taken (take left entries))

-- the entry before them was claimed last
pub before_last : (entries : List Choice) (left : ℕ) (e : Choice) (st now : SpaceState) → left < length entries → e ≡ get_or entries left e → IsBackTo entries (left + 1) st now
    → now.live ≡ all_placed_in (taken_by e) (all_placed_in (all_taken (take left entries)) st.live)
before_last entries left e st now below here back = ap (λ (s : SpaceState). s.live) (back ∙ taken_more entries left e st below here)

pub back_more : (entries : List Choice) (left : ℕ) (e : Choice) (st now next : SpaceState) → left < length entries → e ≡ get_or entries left e → IsBackTo entries (left + 1) st now
    → next ≡ record now { live = all_placed_in (all_taken (take left entries)) st.live } → IsBackTo entries left st next
back_more entries left e st now next below here back is =
    is ∙ ap (λ (s : SpaceState). record s { live = all_placed_in (all_taken (take left entries)) st.live }) (back ∙ taken_more entries left e st below here)

-- ---- giving back the places of an entry

pub record IsFreedTo (places : List Place) (left : ℕ) (st now : SpaceState) : Type 0 where
  pub start : List Place
  pub live : st.live ≡ all_placed_in places start
  pub space : now ≡ record st { live = all_placed_in (take left places) start }

pub none_freed : (places : List Place) (st : SpaceState) → (start : List Place) × (st.live ≡ all_placed_in places start) → IsFreedTo places (length places) st st
none_freed places st there = record {
  start = there.0;
  live = there.1;
  space = ap (λ (live : List Place). record st { live = live }) (there.1 ∙ ap (λ (ps : List Place). all_placed_in ps there.0) (sym (take_all (length places) places (omega arith))));
}

last_placed : (places start : List Place) (left : ℕ) (d : Place) → left < length places
    → all_placed_in (take (left + 1) places) start ≡ placed_in (get_or places left d) (all_placed_in (take left places) start)
last_placed places start left d below =
    ap (λ (ps : List Place). all_placed_in ps start) (take_more places left d below) ∙ placed_push (take left places) (get_or places left d) start

pub last_live : (places : List Place) (left : ℕ) (d : Place) (st now : SpaceState) → left < length places → IsFreedTo places (left + 1) st now → Contains now.live (get_or places left d)
last_live places left d st now below freed =
    subst (λ (live : List Place). Contains live (get_or places left d))
    (sym (ap (λ (s : SpaceState). s.live) freed.space ∙ last_placed places freed.start left d below))
    (last_there (get_or places left d) (all_placed_in (take left places) freed.start))

pub one_freed : (places : List Place) (left : ℕ) (d : Place) (st now next : SpaceState) → left < length places → IsFreedTo places (left + 1) st now
    → next ≡ record now { live = without (get_or places left d) now.live } → IsFreedTo places left st next
one_freed places left d st now next below freed is = record {
  start = freed.start;
  live = freed.live;
  space = is ∙ ap (λ (s : SpaceState). record s { live = without (get_or places left d) s.live }) freed.space
      ∙ ap (λ (live : List Place). record st { live = live })
      (ap (without (get_or places left d)) (last_placed places freed.start left d below) ∙ out_again (get_or places left d) (all_placed_in (take left places) freed.start));
}

pub all_freed : (places : List Place) (st now : SpaceState) (start : List Place) → IsFreedTo places 0 st now → st.live ≡ all_placed_in places start → now ≡ record st { live = start }
all_freed places st now start freed live =
    freed.space ∙ ap (λ (ps : List Place). record st { live = ps }) (placed_one places freed.start start (sym freed.live ∙ live))

-- ---- an entry that is refused

-- its places were claimed: no top has a free run, and so it is lawful
pub refused_lawful : (tops : List TopSize) (c : Choice) (st now : SpaceState) (places : List Place) (size copies : ℕ) → tops ≡ st.sizes → places ≡ c.places → size ≡ c.asked.size → copies ≡ c.asked.copies
    → length places ≤ copies → AreCopies tops (used st) size [] places → now ≡ with_placed st places → ((top : ℕ) → ¬ HasRun now.sizes (used now) top size)
    → IsLawfulChoice tops (used st) c
refused_lawful tops c st now places size copies sizes found is many few copied claimed none = record {
  found = let same : length places ≡ length c.places = ap length found in omega arith;
  copies = subst (λ (n : ℕ). AreCopies tops (used st) n [] c.places) is (subst (AreCopies tops (used st) size []) found copied);
  refused = λ less top run.
      none top (subst (λ (n : ℕ). HasRun now.sizes (used now) top n) (sym is)
      (subst (λ (s : SpaceState). HasRun s.sizes (used s) top c.asked.size) (sym (claimed ∙ ap (with_placed st) found))
      (subst (λ (ts : List TopSize). HasRun ts (used (with_placed st c.places)) top c.asked.size) sizes
      (run_same tops (c.places ++ used st) (used (with_placed st c.places)) top c.asked.size
      (SamePlaces-back (used (with_placed st c.places)) (c.places ++ used st) (used_placed st c.places)) run))));
}

-- a run is free, and so it isn't
pub room_unlawful : (tops : List TopSize) (c : Choice) (st now : SpaceState) (places : List Place) (size copies top : ℕ) → tops ≡ st.sizes → places ≡ c.places → size ≡ c.asked.size → copies ≡ c.asked.copies
    → length places < copies → now ≡ with_placed st places → HasRun now.sizes (used now) top size → ¬ IsLawfulChoice tops (used st) c
room_unlawful tops c st now places size copies top sizes found is many few claimed run lawful =
    let same : length places ≡ length c.places = ap length found in
    lawful.refused (omega arith) top
    (run_same tops (used (with_placed st c.places)) (c.places ++ used st) top c.asked.size (used_placed st c.places)
    (subst (λ (ts : List TopSize). HasRun ts (used (with_placed st c.places)) top c.asked.size) (sym sizes)
    (subst (λ (s : SpaceState). HasRun s.sizes (used s) top c.asked.size) (claimed ∙ ap (with_placed st) found)
    (subst (λ (n : ℕ). HasRun now.sizes (used now) top n) is run))))

-- what it claimed is free again
pub refused_back : (c : Choice) (st now next : SpaceState) (places : List Place) → places ≡ c.places → length c.places < c.asked.copies → now ≡ with_placed st places
    → next ≡ record now { live = st.live } → next ≡ with_placed st (taken_by c)
refused_back c st now next places found few claimed is =
    is ∙ ap (λ (s : SpaceState). record s { live = st.live }) claimed ∙ ap (with_placed st) (sym (took_none c few))

-- ---- what stays of the space

pub keeps_itself : (st : SpaceState) → Keeps st st
keeps_itself st = record { sizes = refl; sound = λ h. h }

pub keeps_then : (a b c : SpaceState) → Keeps a b → Keeps b c → Keeps a c
keeps_then a b c h k = record { sizes = k.sizes ∙ h.sizes; sound = λ s. k.sound (h.sound s) }

pub keeps_sound : (old new : SpaceState) → new.sizes ≡ old.sizes → IsSound new → Keeps old new
keeps_sound old new sizes sound = record { sizes = sizes; sound = λ h. sound }

pub keeps_same : (old new : SpaceState) → new ≡ old → Keeps old new
keeps_same old new same = record { sizes = ap (λ (s : SpaceState). s.sizes) same; sound = λ h. subst IsSound (sym same) h }
