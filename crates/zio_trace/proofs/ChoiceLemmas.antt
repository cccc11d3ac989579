-- The places of a lawful journal's choices: free beside those in use, inside their tops, and apart for different requests.
use Rattle.std.proofs.Common.{◌≡◌, ◌≢◌, ℕ, List, [], ◌∷◌, ◌++◌, length, Bool, true, false, not, cond, find, ◌==◌, nat_lt, Option, Some, None, IsTrue, Contains, ◌⊎◌, inl, inr, ⊎_elim, refl, sym, ap, ◌∙◌, subst, eqb-true, eq-eqb}
use Rattle.std.specs.List.{AllByRecursion}
use Rattle.std.proofs.lemmas.Bool.{and_parts}
use Rattle.std.proofs.lemmas.List.Elements.{Contains-append_cases, Contains-append_left, Contains-append_right, Contains-push_cases}
use Rattle.zio_types.specs.declared.journal.Key.{Key}
use Rattle.zio_types.specs.declared.place.Place.{Place}
use Rattle.zio_types.specs.declared.place.TopSize.{TopSize}
use Rattle.zio_types.specs.Choices.{Ask, Choice, same_ask, taken_by}
use Rattle.zio_types.specs.Places.{AreCopies, is_free, is_inside, meets}
use Rattle.zio_cksum.proofs.AllLemmas.{all_contains, all_weaker}
use Rattle.zio_gang.specs.Journals.{AreLawful, choices_in}
use Rattle.zio_gang.specs.Writes.{chosen, places_chosen, places_unless}
use Rattle.zio_trace.specs.TreeOrders.{Pairs}
use Rattle.zio_trace.proofs.PathLemmas.{SameParts, parts_of}
use Rattle.zio_trace.proofs.ListLemmas.{all_front, all_rest, contains_first, contains_later}

-- ---- lists

pub one_contained : {X : Type 0} (x y : X) → Contains (x ∷ []) y → x ≡ y
one_contained x y c = ⊎_elim (λ (none : Contains [] y). absurd (all_contains (λ z. ⊥) [] y tt none)) (λ e. e) (Contains-push_cases [] x y c)

pub contained_cases : {X : Type 0} (x : X) (xs : List X) (y : X) → Contains (x ∷ xs) y → (x ≡ y) ⊎ Contains xs y
contained_cases x xs y c = ⊎_elim (λ one. inl (one_contained x y one)) (λ rest. inr rest) (Contains-append_cases (x ∷ []) xs y c)

-- of two different items of a list one stands before the other
pub pairs_hold : {X : Type 0} (R : X → X → Type 0) (xs : List X) (x y : X) → Pairs R xs → Contains xs x → Contains xs y → x ≢ y → R x y ⊎ R y x
pairs_hold R [] x y h cx cy ne = absurd (all_contains (λ z. ⊥) [] x tt cx)
pairs_hold R (z ∷ zs) x y h cx cy ne =
    ⊎_elim
    (λ (zx : z ≡ x).
    ⊎_elim (λ (zy : z ≡ y). absurd (ne (sym zx ∙ zy)))
    (λ (later : Contains zs y). inl (subst (λ (w : _). R w y) zx (all_contains (R z) zs y h.0 later)))
    (contained_cases z zs y cy))
    (λ (lx : Contains zs x).
    ⊎_elim (λ (zy : z ≡ y). inr (subst (λ (w : _). R w x) zy (all_contains (R z) zs x h.0 lx)))
    (λ (ly : Contains zs y). pairs_hold R zs x y h.1 lx ly ne)
    (contained_cases z zs y cy))
    (contained_cases z zs x cx)

-- ---- lawful choices

-- the place meets none of these
abbrev pub MeetsNone : List Place → Place → Type 0
MeetsNone used p = AllByRecursion (λ (q : Place). meets p q ≡ false) used

not_false : (b : Bool) → not b ≡ true → b ≡ false
not_false true h = absurd (cc)
not_false false h = refl

pub meets_none : (used : List Place) (p : Place) → is_free used p ≡ true → MeetsNone used p
meets_none [] p h = tt
meets_none (q ∷ used) p h = let parts = and_parts (not (meets p q)) (is_free used p) h in (not_false (meets p q) parts.0, meets_none used p parts.1)

-- each place of a choice is free beside the used ones, and inside its top
abbrev pub IsPlaced : List TopSize → List Place → Place → Type 0
IsPlaced tops used p = MeetsNone used p × IsTrue (is_inside tops p)

copies_placed : (tops : List TopSize) (used : List Place) (size : ℕ) (earlier ps : List Place) → AreCopies tops used size earlier ps → AllByRecursion (IsPlaced tops used) ps
copies_placed tops used size earlier [] h = tt
copies_placed tops used size earlier (p ∷ ps) h =
    ((all_rest (λ (q : Place). meets p q ≡ false) earlier used (meets_none (earlier ++ used) p h.0.free), h.0.inside), copies_placed tops used size (earlier ++ p ∷ []) ps h.1)

abbrev AllPlaced : List TopSize → List Place → Choice → Type 0
AllPlaced tops used c = AllByRecursion (IsPlaced tops used) c.places

fewer_placed : (tops : List TopSize) (more used : List Place) (c : Choice) → AllPlaced tops (more ++ used) c → AllPlaced tops used c
fewer_placed tops more used c h =
    all_weaker (IsPlaced tops (more ++ used)) (IsPlaced tops used) c.places (λ p k. (all_rest (λ (q : Place). meets p q ≡ false) more used k.0, k.1)) h

pub lawful_placed : (tops : List TopSize) (used : List Place) (cs : List Choice) → AreLawful tops used cs → AllByRecursion (AllPlaced tops used) cs
lawful_placed tops used [] h = tt
lawful_placed tops used (c ∷ cs) h = (
  copies_placed tops used c.asked.size [] c.places h.0.copies,
  all_weaker (AllPlaced tops (taken_by c ++ used)) (AllPlaced tops used) cs (λ d k. fewer_placed tops (taken_by c) used d k) (lawful_placed tops (taken_by c ++ used) cs h.1),
)

-- a later choice's places meet none of those that an earlier one took
abbrev LaterApart : Choice → Choice → Type 0
LaterApart c d = AllByRecursion (MeetsNone (taken_by c)) d.places

lawful_apart : (tops : List TopSize) (used : List Place) (cs : List Choice) → AreLawful tops used cs → Pairs LaterApart cs
lawful_apart tops used [] h = tt
lawful_apart tops used (c ∷ cs) h = (
  all_weaker (AllPlaced tops (taken_by c ++ used)) (LaterApart c) cs
      (λ d k. all_weaker (IsPlaced tops (taken_by c ++ used)) (MeetsNone (taken_by c)) d.places (λ p m. all_front (λ (q : Place). meets p q ≡ false) (taken_by c) used m.0) k)
      (lawful_placed tops (taken_by c ++ used) cs h.1),
  lawful_apart tops (taken_by c ++ used) cs h.1,
)

-- the places of one choice
abbrev OwnApart : Choice → Type 0
OwnApart c = Pairs (λ (p q : Place). meets q p ≡ false) c.places

-- each meets none of the earlier ones
later_free : (tops : List TopSize) (used : List Place) (size : ℕ) (earlier ps : List Place) (p : Place) → Contains earlier p → AreCopies tops used size earlier ps → AllByRecursion (λ (q : Place). meets q p ≡ false) ps
later_free tops used size earlier [] p c h = tt
later_free tops used size earlier (q ∷ ps) p c h = (
  all_contains (λ (r : Place). meets q r ≡ false) (earlier ++ used) p (meets_none (earlier ++ used) q h.0.free) (Contains-append_left earlier used p c),
  later_free tops used size (earlier ++ q ∷ []) ps p (Contains-append_left earlier (q ∷ []) p c) h.1,
)

copies_own : (tops : List TopSize) (used : List Place) (size : ℕ) (earlier ps : List Place) → AreCopies tops used size earlier ps → Pairs (λ (p q : Place). meets q p ≡ false) ps
copies_own tops used size earlier [] h = tt
copies_own tops used size earlier (p ∷ ps) h =
    (later_free tops used size (earlier ++ p ∷ []) ps p (Contains-append_right earlier (p ∷ []) p (contains_first p [])) h.1, copies_own tops used size (earlier ++ p ∷ []) ps h.1)

lawful_own : (tops : List TopSize) (used : List Place) (cs : List Choice) → AreLawful tops used cs → AllByRecursion OwnApart cs
lawful_own tops used [] h = tt
lawful_own tops used (c ∷ cs) h = (copies_own tops used c.asked.size [] c.places h.0.copies, lawful_own tops (taken_by c ++ used) cs h.1)

same_through : (c d : Choice) (a b : Key) → c ≡ d → SameParts c.asked.key a → SameParts d.asked.key b → SameParts a b
same_through c d a b e x y = record {
  request = sym x.request ∙ ap (λ (z : Choice). z.asked.key.request) e ∙ y.request;
  round = sym x.round ∙ ap (λ (z : Choice). z.asked.key.round) e ∙ y.round;
  attempt = sym x.attempt ∙ ap (λ (z : Choice). z.asked.key.attempt) e ∙ y.attempt;
  path = sym x.path ∙ ap (λ (z : Choice). z.asked.key.path) e ∙ y.path;
  role = sym x.role ∙ ap (λ (z : Choice). z.asked.key.role) e ∙ y.role;
}

-- ---- what the journal has for an ask

-- a choice of the round that is for this ask and isn't refused, with these places
pub record IsChosen (journal : List Choice) (ask : Ask) (places : List Place) : Type 0 where
  pub choice : Choice
  pub listed : Contains (choices_in ask.key.round journal) choice
  pub same : SameParts choice.asked.key ask.key
  pub found : choice.places ≡ places
  pub taken : taken_by choice ≡ places

keeps_found : {X : Type 0} (kept : Bool) (x y : X) (ys : List X) → Contains ys y → Contains (cond kept (x ∷ ys) ys) y
keeps_found true x y ys c = contains_later x ys y c
keeps_found false x y ys c = c

keeps_first : {X : Type 0} (kept : Bool) (x : X) (ys : List X) → kept ≡ true → Contains (cond kept (x ∷ ys) ys) x
keeps_first true x ys e = contains_first x ys
keeps_first false x ys e = absurd (cc)

-- the parts of an ask that the look-up compares
pub keys_same : (c : Choice) (ask : Ask) → same_ask c.asked ask ≡ true → (c.asked.key.round ≡ ask.key.round) × (c.asked.key.request ≡ ask.key.request) × (c.asked.copies ≡ ask.copies)
keys_same c ask e =
    let whole = and_parts _ _ e in
    let first = and_parts _ _ whole.0 in
    let keys = and_parts _ _ (and_parts _ _ (and_parts _ _ first.0).0).0 in
    let ends = and_parts _ _ keys.0 in
    (eqb-true c.asked.key.round ask.key.round ends.1, eqb-true c.asked.key.request ask.key.request ends.0, eqb-true c.asked.copies ask.copies whole.1)

found_step : (found : Bool) (c d : Choice) (journal : List Choice) (ask : Ask) → same_ask c.asked ask ≡ found → cond found (Some c) (find (λ (x : Choice). same_ask x.asked ask) journal) ≡ Some d
    → (find (λ (x : Choice). same_ask x.asked ask) journal ≡ Some d → Contains (choices_in ask.key.round journal) d × (same_ask d.asked ask ≡ true))
    → Contains (choices_in ask.key.round (c ∷ journal)) d × (same_ask d.asked ask ≡ true)
found_step true c d journal ask e h rest =
    let is : c ≡ d = cc in
    subst (λ (x : Choice). Contains (choices_in ask.key.round (c ∷ journal)) x × (same_ask x.asked ask ≡ true)) is
    (keeps_first (c.asked.key.round == ask.key.round) c (choices_in ask.key.round journal) (eq-eqb c.asked.key.round ask.key.round (keys_same c ask e).0), e)
found_step false c d journal ask e h rest =
    let r = rest h in (keeps_found (c.asked.key.round == ask.key.round) c d (choices_in ask.key.round journal) r.0, r.1)

found_in : (journal : List Choice) (ask : Ask) (d : Choice) → find (λ (x : Choice). same_ask x.asked ask) journal ≡ Some d → Contains (choices_in ask.key.round journal) d × (same_ask d.asked ask ≡ true)
found_in [] ask d h = absurd (cc)
found_in (c ∷ journal) ask d h = found_step (same_ask c.asked ask) c d journal ask refl h (found_in journal ask d)

unless_some : (refused : Bool) (choice : Choice) (places : List Place) → places_unless refused choice ≡ Some places → (refused ≡ false) × (choice.places ≡ places)
unless_some true choice places h = absurd (cc)
unless_some false choice places h = (refl, cc)

chosen_some : (found : Option Choice) (ask : Ask) (journal : List Choice) (places : List Place) → find (λ (x : Choice). same_ask x.asked ask) journal ≡ found → places_chosen ask.copies found ≡ Some places → IsChosen journal ask places
chosen_some None ask journal places is h = absurd (cc)
chosen_some (Some c) ask journal places is h =
    let there = found_in journal ask c is in
    let same = keys_same c ask there.1 in
    let whole = unless_some (nat_lt (length c.places) ask.copies) c places h in
    let taken : taken_by c ≡ c.places =
    ap (λ (n : ℕ). cond (nat_lt (length c.places) n) [] c.places) same.2 ∙ ap (λ (b : Bool). cond b [] c.places) whole.0 in
    record { choice = c; listed = there.0; same = parts_of c.asked.key ask.key (and_parts _ _ (and_parts _ _ there.1).0).0; found = whole.1; taken = taken ∙ whole.1 }

pub is_chosen : (journal : List Choice) (ask : Ask) (places : List Place) → chosen journal ask ≡ Some places → IsChosen journal ask places
is_chosen journal ask places h = chosen_some (find (λ (x : Choice). same_ask x.asked ask) journal) ask journal places refl h

-- Lawful choices among which the journal's answers in a round are found.
pub record Answers (journal : List Choice) (tops : List TopSize) (used : List Place) (round : ℕ) : Type 0 where
  pub choices : List Choice
  pub lawful : AreLawful tops used choices
  pub found : (c : Choice) → Contains (choices_in round journal) c → Contains choices c

-- those of the round
pub answers_in_round : (journal : List Choice) (tops : List TopSize) (used : List Place) (round : ℕ) → AreLawful tops used (choices_in round journal) → Answers journal tops used round
answers_in_round journal tops used round lawful = record { choices = choices_in round journal; lawful = lawful; found = λ c k. k }

kept_of : {X : Type 0} (kept : Bool) (x y : X) (xs ys : List X) → (Contains ys y → Contains xs y) → Contains (cond kept (x ∷ ys) ys) y → Contains (x ∷ xs) y
kept_of true x y xs ys f c = ⊎_elim (λ (e : x ≡ y). subst (Contains (x ∷ xs)) e (contains_first x xs)) (λ (k : Contains ys y). contains_later x xs y (f k)) (contained_cases x ys y c)
kept_of false x y xs ys f c = contains_later x xs y (f c)

pub in_journal : (journal : List Choice) (round : ℕ) (c : Choice) → Contains (choices_in round journal) c → Contains journal c
in_journal [] round c k = k
in_journal (d ∷ journal) round c k = kept_of (d.asked.key.round == round) d c journal (choices_in round journal) (in_journal journal round c) k

-- or the whole journal
pub answers_in_all : (journal : List Choice) (tops : List TopSize) (used : List Place) (round : ℕ) → AreLawful tops used journal → Answers journal tops used round
answers_in_all journal tops used round lawful = record { choices = journal; lawful = lawful; found = in_journal journal round }

module _ (journal : List Choice) (tops : List TopSize) (used : List Place) (round : ℕ) (answers : Answers journal tops used round) where
  there : (ask : Ask) (places : List Place) → ask.key.round ≡ round → (c : IsChosen journal ask places) → Contains answers.choices c.choice
  there ask places now c = answers.found c.choice (subst (λ (n : ℕ). Contains (choices_in n journal) c.choice) now c.listed)

  -- Places for an ask of the round are free beside those in use, and inside their tops.
  pub chosen_placed : (ask : Ask) (places : List Place) → ask.key.round ≡ round → chosen journal ask ≡ Some places → AllByRecursion (IsPlaced tops used) places
  chosen_placed ask places now h =
      let c : IsChosen journal ask places = is_chosen journal ask places h in
      subst (AllByRecursion (IsPlaced tops used)) c.found (all_contains (AllPlaced tops used) answers.choices c.choice (lawful_placed tops used answers.choices answers.lawful) (there ask places now c))

  -- No two of them meet.
  pub chosen_own : (ask : Ask) (places : List Place) → ask.key.round ≡ round → chosen journal ask ≡ Some places → Pairs (λ (p q : Place). meets q p ≡ false) places
  chosen_own ask places now h =
      let c : IsChosen journal ask places = is_chosen journal ask places h in
      subst (Pairs (λ (p q : Place). meets q p ≡ false)) c.found (all_contains OwnApart answers.choices c.choice (lawful_own tops used answers.choices answers.lawful) (there ask places now c))

  -- Places for different asks don't meet.
  pub chosen_apart : (a b : Ask) (ps qs : List Place) → a.key.round ≡ round → b.key.round ≡ round → (SameParts a.key b.key → ⊥)
      → chosen journal a ≡ Some ps → chosen journal b ≡ Some qs → AllByRecursion (MeetsNone qs) ps ⊎ AllByRecursion (MeetsNone ps) qs
  chosen_apart a b ps qs na nb ne ha hb =
      let c : IsChosen journal a ps = is_chosen journal a ps ha in
      let d : IsChosen journal b qs = is_chosen journal b qs hb in
      let differ : c.choice ≢ d.choice = λ e. ne (same_through c.choice d.choice a.key b.key e c.same d.same) in
      ⊎_elim
      (λ (first : LaterApart c.choice d.choice).
      inr (subst (λ (xs : List Place). AllByRecursion (MeetsNone xs) qs) c.taken (subst (AllByRecursion (MeetsNone (taken_by c.choice))) d.found first)))
      (λ (second : LaterApart d.choice c.choice).
      inl (subst (λ (xs : List Place). AllByRecursion (MeetsNone xs) ps) d.taken (subst (AllByRecursion (MeetsNone (taken_by d.choice))) c.found second)))
      (pairs_hold LaterApart answers.choices c.choice d.choice (lawful_apart tops used answers.choices answers.lawful) (there a ps na c) (there b qs nb d) differ)
