-- Answers by a report: where the entries of a round may be its choices, an ask is answered by its entry, or has none; and
-- the round's choices are these entries exactly where all of them were asked for, and nothing else.
use Rattle.std.proofs.Common.{◌≡◌, ◌≤◌, ℕ, List, [], ◌∷◌, ◌++◌, ◌⊎◌, inl, inr, Bool, true, false, ◌&&◌, not, cond, length, find, Contains, Option, None, Some, refl, sym, ap, subst, ◌∙◌, arith, nat_le, nat_lt, append_assoc, is_some}
use Rattle.std.specs.Prelude.{IsTrue}
use Rattle.std.specs.List.{AllByRecursion, list_all}
use Rattle.std.proofs.lemmas.Bool.{and_from, and_parts, both_ways, cond-true, le-leb, leb-true, lt-ltb}
use Rattle.std.proofs.lemmas.List.Elements.{Contains-append_cases, Contains-append_left, Contains-append_right}
use Rattle.zio_types.specs.declared.place.Place.{Place}
use Rattle.zio_types.specs.declared.place.TopSize.{TopSize}
use Rattle.zio_types.specs.Choices.{Ask, Choice, same_ask, same_key, taken_by}
use Rattle.zio_types.specs.Places.{SamePlaces, are_apart, are_open, fits_size, is_free, is_inside, meets}
use Rattle.zio_places.proofs.PlaceLemmas.{meets-symmetric}
use Rattle.zio_cksum.proofs.AllLemmas.{all_contains, all_unmap, all_weaker}
use Rattle.zio_cksum.proofs.PlaceSets.{all_pass, pass_all, SamePlaces-behind, SamePlaces-equal, SamePlaces-then}
use Rattle.zio_gang.specs.Attempts.{Pending, Terms}
use Rattle.zio_gang.specs.Journals.{AreChoicesOf, HaveDistinctKeys, asks_of}
use Rattle.zio_cksum.specs.Images.{Images}
use Rattle.zio_gang.specs.Rounds.{Ran, settle_each}
use Rattle.zio_gang.specs.Writes.{chosen, places_chosen, places_unless}
use Rattle.zio_gang.proofs.JournalLemmas.{each_found, same_key_itself}
use Rattle.zio_blocks.specs.Blocks.{AnswersBy}
use Rattle.zio_blocks.specs.Choosers.{IsFound, IsFoundEntry, taken_by_all}
use Rattle.zio_blocks.specs.EntryLaws.{found_all, taken_open}
use Rattle.zio_plain.specs.Entries.{HaveRunOn}
use Rattle.zio_spelled.specs.declared.rounds.RoundJournal.{RoundJournal}
use Rattle.zio_audit.specs.Replays.{AreReplies, MatchEntries, MayBeChoices, entries_in, has_entry, is_found, recorded_for, reply_by, unplaced}
use Rattle.zio_audit.proofs.ChosenLemmas.{ChooseAlike, settle_alike}
use Rattle.zio_audit.proofs.Members.{all_of, contained_cases, contains_flat, contains_mapped, flat_contains, none_contained}
use Rattle.zio_audit.proofs.NameLemmas.{ask_is}
use Rattle.zio_audit.proofs.EntryLemmas.{AreAllAsked, each_given, found_here, no_more, taken_unplaced}

-- ---- lists

list_all_contains : {X : Type 0} (test : X → Bool) (xs : List X) (x : X) → list_all test xs ≡ true → Contains xs x → test x ≡ true
list_all_contains test xs x h there = all_contains (λ y. test y ≡ true) xs x (each test xs h) there
  where
    each : {X : Type 0} (test : X → Bool) (xs : List X) → list_all test xs ≡ true → AllByRecursion (λ y. test y ≡ true) xs
    each test [] h = tt
    each test (y ∷ ys) h = let both = and_parts (test y) (list_all test ys) h in (both.0, each test ys both.1)

list_all_of : {X : Type 0} (test : X → Bool) (xs : List X) → AllByRecursion (λ x. test x ≡ true) xs → list_all test xs ≡ true
list_all_of test [] h = refl
list_all_of test (x ∷ xs) h = and_from (test x) (list_all test xs) h.0 (list_all_of test xs h.1)

some_injective : {X : Type 0} {x y : X} → Some x ≡ Some y → x ≡ y
some_injective e = cc

none_some : {X : Type 0} (x : X) → None ≡ Some x → ⊥
none_some x e = cc

find_front : (test : Choice → Bool) (xs ys : List Choice) (x : Choice) → find test xs ≡ Some x → find test (xs ++ ys) ≡ Some x
find_front test [] ys x h = absurd (none_some x h)
find_front test (z ∷ zs) ys x h = by (test z) (find_front test zs ys x) h
  where
    by : (t : Bool) → (find test zs ≡ Some x → find test (zs ++ ys) ≡ Some x) → cond t (Some z) (find test zs) ≡ Some x → cond t (Some z) (find test (zs ++ ys)) ≡ Some x
    by true later h = h
    by false later h = later h

find_behind : (test : Choice → Bool) (xs ys : List Choice) → find test xs ≡ None → find test (xs ++ ys) ≡ find test ys
find_behind test [] ys h = refl
find_behind test (z ∷ zs) ys h = by (test z) (find_behind test zs ys) h
  where
    by : (t : Bool) → (find test zs ≡ None → find test (zs ++ ys) ≡ find test ys) → cond t (Some z) (find test zs) ≡ None → cond t (Some z) (find test (zs ++ ys)) ≡ find test ys
    by true later h = absurd (none_some z (sym h))
    by false later h = later h

-- ---- places that don't meet

free_of : (used : List Place) (p q : Place) → is_free used p ≡ true → Contains used q → not (meets p q) ≡ true
free_of used p q h there = all_contains (λ r. IsTrue (not (meets p r))) used q (all_pass (λ r. not (meets p r)) used h) there

apart_parts : (xs ys : List Place) → are_apart (xs ++ ys) ≡ true → (are_apart xs ≡ true) × (are_apart ys ≡ true) × ((p q : Place) → Contains xs p → Contains ys q → not (meets p q) ≡ true)
apart_parts [] ys h = (refl, h, λ p q none there. absurd (none_contained p none))
apart_parts (x ∷ xs) ys h =
    let both = and_parts (is_free (xs ++ ys) x) (are_apart (xs ++ ys)) h in
    let rest = apart_parts xs ys both.1 in (
      and_from (is_free xs x) (are_apart xs)
          (pass_all (λ r. not (meets x r)) xs (all_of (λ r. IsTrue (not (meets x r))) xs (λ r there. free_of (xs ++ ys) x r both.0 (Contains-append_left xs ys r there)))) rest.0,
      rest.1,
      λ p q here there. elim (contained_cases x xs p here) [
        | inl same ↦ subst (λ r. not (meets r q) ≡ true) same (free_of (xs ++ ys) x q both.0 (Contains-append_right xs ys q there))
        | inr later ↦ rest.2 p q later there
      ],
    )

swapped : (p q : Place) → not (meets p q) ≡ true → not (meets q p) ≡ true
swapped p q h = ap not (meets-symmetric q p) ∙ h

-- two entries with different keys take places that don't meet
takes_apart : (entries : List Choice) (c d : Choice) (p q : Place) → are_apart (taken_by_all entries) ≡ true → Contains entries c → Contains entries d → same_key c.asked.key d.asked.key ≡ false
    → Contains (taken_by c) p → Contains (taken_by d) q → not (meets p q) ≡ true
takes_apart [] c d p q h there other differ at to = absurd (none_contained c there)
takes_apart (e ∷ entries) c d p q h there other differ at to =
    let parts = apart_parts (taken_by e) (taken_by_all entries) h in
    elim (contained_cases e entries c there) [
      | inl here ↦ elim (contained_cases e entries d other) [
        | inl also ↦ absurd (both_ways (same_key c.asked.key d.asked.key) differ (subst (λ (x : Choice). same_key c.asked.key x.asked.key ≡ true) (sym here ∙ also) (same_key_itself c.asked.key)))
        | inr later ↦ parts.2 p q (subst (λ (x : Choice). Contains (taken_by x) p) (sym here) at) (flat_contains taken_by entries d q later to)
      ]
      | inr later ↦ elim (contained_cases e entries d other) [
        | inl here ↦ swapped q p (parts.2 q p (subst (λ (x : Choice). Contains (taken_by x) q) (sym here) to) (flat_contains taken_by entries c p later at))
        | inr also ↦ takes_apart entries c d p q parts.1 later also differ at to
      ]
    ]

-- an entry's own places don't meet
takes_own : (entries : List Choice) (c : Choice) → are_apart (taken_by_all entries) ≡ true → Contains entries c → are_apart (taken_by c) ≡ true
takes_own [] c h there = absurd (none_contained c there)
takes_own (e ∷ entries) c h there =
    let parts = apart_parts (taken_by e) (taken_by_all entries) h in
    elim (contained_cases e entries c there) [
      | inl same ↦ subst (λ (x : Choice). are_apart (taken_by x) ≡ true) same parts.0
      | inr later ↦ takes_own entries c parts.1 later
    ]

-- ---- what an answer is

-- an entry of the round, or none where it has no such entry
abbrev pub IsReply : List Choice → Choice → Type 0
IsReply entries g = Contains entries g ⊎ ((recorded_for entries g.asked ≡ None) × (g ≡ unplaced g.asked))

all_both : {X : Type 0} (P Q : X → Type 0) (xs : List X) → AllByRecursion P xs → AllByRecursion Q xs → AllByRecursion (λ x. P x × Q x) xs
all_both P Q [] h k = tt
all_both P Q (x ∷ xs) h k = ((h.0, k.0), all_both P Q xs h.1 k.1)

-- what is found for a copy
found_is : (tops : List TopSize) (c : Choice) → IsFoundEntry tops c → is_found tops c ≡ true
found_is tops c h =
    and_from (nat_le (length c.places) c.asked.copies) (list_all (λ p. fits_size tops c.asked.size p && is_inside tops p) c.places) (le-leb (length c.places) c.asked.copies h.most)
    (pass_all (λ p. fits_size tops c.asked.size p && is_inside tops p) c.places
    (all_weaker (IsFound tops c.asked.size) (λ p. IsTrue (fits_size tops c.asked.size p && is_inside tops p)) c.places
    (λ p f. and_from (fits_size tops c.asked.size p) (is_inside tops p) f.fits f.inside) h.each))

pub is_found_entry : (tops : List TopSize) (c : Choice) → is_found tops c ≡ true → IsFoundEntry tops c
is_found_entry tops c h =
    let both = and_parts (nat_le (length c.places) c.asked.copies) (list_all (λ p. fits_size tops c.asked.size p && is_inside tops p) c.places) h in
    record {
      most = leb-true (length c.places) c.asked.copies both.0;
      each = all_weaker (λ p. IsTrue (fits_size tops c.asked.size p && is_inside tops p)) (IsFound tops c.asked.size) c.places
          (λ p k. let parts = and_parts (fits_size tops c.asked.size p) (is_inside tops p) k in record { fits = parts.0; inside = parts.1 })
          (all_pass (λ p. fits_size tops c.asked.size p && is_inside tops p) c.places both.1);
    }

module _ (tops : List TopSize) (before : List Place) (entries : List Choice) (may : MayBeChoices tops before entries) where
  -- what an entry takes is open beside answers with other keys
  clear : (now : List Place) (done : List Choice) (c : Choice) → SamePlaces now (taken_by_all done ++ before) → AllByRecursion (IsReply entries) done
      → AllByRecursion (λ (d : Choice). same_key d.asked.key c.asked.key ≡ false) done → Contains entries c → are_open now (taken_by c) ≡ true
  clear now done c same replies differ there =
      let parts = and_parts (list_all (is_free before) (taken_by_all entries)) (are_apart (taken_by_all entries)) (taken_open tops before entries may.lawful) in
      let free : (p : Place) → Contains (taken_by c) p → (q : Place) → Contains now q → not (meets p q) ≡ true =
      λ p at q in_use. elim (Contains-append_cases (taken_by_all done) before q ((same q).0 in_use)) [
        | inl among ↦
            let x = contains_flat taken_by done q among in
            elim (all_contains (IsReply entries) done x.0 replies x.1) [
              | inl one ↦ swapped q p (takes_apart entries x.0 c q p parts.1 one there (all_contains (λ (d : Choice). same_key d.asked.key c.asked.key ≡ false) done x.0 differ x.1) x.2 at)
              | inr none ↦ absurd (none_contained q (subst (λ (ps : List Place). Contains ps q) (ap taken_by none.1 ∙ taken_unplaced x.0.asked) x.2))
            ]
        | inr early ↦ free_of before p q (all_contains (λ r. IsTrue (is_free before r)) (taken_by_all entries) p (all_pass (is_free before) (taken_by_all entries) parts.0) (flat_contains taken_by entries c p there at)) early
      ] in
      and_from (list_all (is_free now) (taken_by c)) (are_apart (taken_by c))
      (pass_all (is_free now) (taken_by c) (all_of (λ p. IsTrue (is_free now p)) (taken_by c)
      (λ p at. pass_all (λ q. not (meets p q)) now (all_of (λ q. IsTrue (not (meets p q))) now (free p at)))))
      (takes_own entries c parts.1 there)

  one_reply : (now : List Place) (done : List Choice) (g : Choice) → SamePlaces now (taken_by_all done ++ before) → AllByRecursion (IsReply entries) done
      → AllByRecursion (λ (d : Choice). same_key d.asked.key g.asked.key ≡ false) done → g ≡ reply_by tops now g.asked (recorded_for entries g.asked) → IsReply entries g
  one_reply now done g same replies differ is = by (recorded_for entries g.asked) refl
    where
      by : (o : Option Choice) → recorded_for entries g.asked ≡ o → IsReply entries g
      by None none = inr (none, is ∙ ap (reply_by tops now g.asked) none)
      by (Some c) some =
          let there = found_here (λ (d : Choice). same_ask d.asked g.asked) entries c some in
          let asked : c.asked ≡ g.asked = ask_is c.asked g.asked there.1 in
          let opened : are_open now (taken_by c) ≡ true =
          clear now done c same replies (subst (λ (a : Ask). AllByRecursion (λ (d : Choice). same_key d.asked.key a.key ≡ false) done) (sym asked) differ) there.0 in
          let found : is_found tops c ≡ true = found_is tops c (all_contains (IsFoundEntry tops) entries c (found_all tops before entries may.lawful) there.0) in
          let one : g ≡ c = is ∙ ap (reply_by tops now g.asked) some ∙ cond-true (is_found tops c && are_open now (taken_by c)) c (unplaced g.asked) (and_from (is_found tops c) (are_open now (taken_by c)) found opened) in
          inl (subst (Contains entries) (sym one) there.0)

module _ (journals : List RoundJournal) (round : ℕ) (tops : List TopSize) (before : List Place) (may : MayBeChoices tops before (entries_in journals round)) where
  replies_behind : (now : List Place) (done given : List Choice) → SamePlaces now (taken_by_all done ++ before) → AllByRecursion (IsReply (entries_in journals round)) done
      → AllByRecursion (λ (g : Choice). AllByRecursion (λ (d : Choice). same_key d.asked.key g.asked.key ≡ false) done) given → HaveDistinctKeys (asks_of given)
      → AllByRecursion (λ (g : Choice). g.asked.key.round ≡ round) given → AreReplies journals tops now given → AllByRecursion (IsReply (entries_in journals round)) given
  replies_behind now done [] same replies differ distinct rounds h = tt
  replies_behind now done (g ∷ given) same replies differ distinct rounds h =
      let here : IsReply (entries_in journals round) g =
      one_reply tops before (entries_in journals round) may now done g same replies differ.0
      (h.1 ∙ ap (λ n. reply_by tops now g.asked (recorded_for (entries_in journals n) g.asked)) rounds.0) in (
        here,
        replies_behind (taken_by g ++ now) (g ∷ done) given
            (SamePlaces-then (taken_by g ++ now) (taken_by g ++ (taken_by_all done ++ before)) ((taken_by g ++ taken_by_all done) ++ before) (SamePlaces-behind now (taken_by_all done ++ before) (taken_by g) same)
            (SamePlaces-equal (taken_by g ++ (taken_by_all done ++ before)) ((taken_by g ++ taken_by_all done) ++ before) (sym (append_assoc (taken_by g) (taken_by_all done) before))))
            (here, replies)
            (all_both (λ (e : Choice). same_key g.asked.key e.asked.key ≡ false) (λ (e : Choice). AllByRecursion (λ (d : Choice). same_key d.asked.key e.asked.key ≡ false) done) given
            (all_unmap (λ (a : Ask). same_key g.asked.key a.key ≡ false) (λ (c : Choice). c.asked) given distinct.0) differ.1)
            distinct.1 rounds.1 h.2,
      )

  -- so each answer of a round is an entry, or there is none for its ask
  pub replies_are : (given : List Choice) → HaveDistinctKeys (asks_of given) → AllByRecursion (λ (g : Choice). g.asked.key.round ≡ round) given → AreReplies journals tops before given
      → AllByRecursion (IsReply (entries_in journals round)) given
  replies_are given distinct rounds h = replies_behind before [] given (λ q. (λ c. c, λ c. c)) tt (all_of (λ (g : Choice). AllByRecursion (λ (d : Choice). same_key d.asked.key g.asked.key ≡ false) []) given (λ g there. tt)) distinct rounds h

pub some_copies : (journals : List RoundJournal) (tops : List TopSize) (before : List Place) (given : List Choice) → AreReplies journals tops before given → AllByRecursion (λ (g : Choice). 1 ≤ g.asked.copies) given
some_copies journals tops before [] h = tt
some_copies journals tops before (g ∷ given) h = (h.0, some_copies journals tops (taken_by g ++ before) given h.2)

-- ---- whether all entries were asked for, and nothing else

module _ (entries given : List Choice) (replies : AllByRecursion (IsReply entries) given) (distinct : HaveDistinctKeys (asks_of entries)) (once : HaveDistinctKeys (asks_of given)) where
  entry_of : (g : Choice) → Contains given g → has_entry entries g ≡ true → Contains entries g
  entry_of g there has = elim (all_contains (IsReply entries) given g replies there) [
    | inl one ↦ one
    | inr none ↦ absurd (both_ways (has_entry entries g) (ap is_some none.0) has)
  ]

  entries_of : list_all (has_entry entries) given ≡ true → AllByRecursion (Contains entries) given
  entries_of each = all_of (Contains entries) given (λ g there. entry_of g there (list_all_contains (has_entry entries) given g each there))

  -- then these are all of them
  pub matched_asked : MatchEntries entries given → AreAllAsked entries given
  matched_asked h = record {
    answered = entries_of h.each;
    asked = all_of (Contains given) entries (each_given given entries once (entries_of h.each) (omega (arith, h.many)));
  }

  found_itself : (e : Choice) → Contains entries e → recorded_for entries e.asked ≡ Some e
  found_itself e there = all_contains (λ (c : Choice). recorded_for entries c.asked ≡ Some c) entries e (each_found entries distinct) there

  has_asked : (g : Choice) → Contains (asks_of entries) g.asked → has_entry entries g ≡ true
  has_asked g asked =
      let e = contains_mapped (λ (c : Choice). c.asked) entries g.asked asked in
      ap (λ (a : Ask). is_some (recorded_for entries a)) (sym e.2) ∙ ap is_some (found_itself e.0 e.1)

  -- where they are choices for what was asked, they are matched
  pub choices_matched : (sizes : List TopSize) (used : List Place) → AreChoicesOf sizes used (asks_of given) entries → MatchEntries entries given
  choices_matched sizes used choices =
      let each : list_all (has_entry entries) given ≡ true =
      list_all_of (has_entry entries) given (all_weaker (λ (g : Choice). Contains (asks_of entries) g.asked) (λ (g : Choice). has_entry entries g ≡ true) given has_asked
      (all_unmap (Contains (asks_of entries)) (λ (c : Choice). c.asked) given choices.answered)) in
      let given_there : (e : Choice) → Contains entries e → Contains given e =
      λ e there.
      (let g = contains_mapped (λ (c : Choice). c.asked) given e.asked (all_contains (λ (c : Choice). Contains (asks_of given) c.asked) entries e (all_unmap (Contains (asks_of given)) (λ (c : Choice). c.asked) entries choices.asked) there) in
      let one : Contains entries g.0 = all_contains (Contains entries) given g.0 (entries_of each) g.1 in
      let same : Some e ≡ Some g.0 = sym (found_itself e there) ∙ ap (recorded_for entries) (sym g.2) ∙ found_itself g.0 one in
      subst (Contains given) (sym (some_injective same)) g.1) in
      let few : length given ≤ length entries = no_more given entries once (entries_of each) in
      let more : length entries ≤ length given = no_more entries given distinct (all_of (Contains given) entries given_there) in
      record { many = omega arith; each = each }

  -- ---- a journal of the entries chooses what the chooser gave

  abbrev both : List Choice
  both = entries ++ given

  -- with the answers behind it, it answers by them
  both_answer : AnswersBy both given
  both_answer = all_of (λ (g : Choice). recorded_for both g.asked ≡ Some g) given (λ g there. elim (all_contains (IsReply entries) given g replies there) [
    | inl one ↦ find_front (λ (c : Choice). same_ask c.asked g.asked) entries given g (found_itself g one)
    | inr none ↦ find_behind (λ (c : Choice). same_ask c.asked g.asked) entries given none.0
        ∙ all_contains (λ (c : Choice). recorded_for given c.asked ≡ Some c) given g (each_found given once) there
  ])

  choose_alike : AllByRecursion (λ (g : Choice). 1 ≤ g.asked.copies) given → ChooseAlike entries both
  choose_alike some ask = by (recorded_for entries ask) refl
    where
      behind : (o : Option Choice) → recorded_for entries ask ≡ None → recorded_for given ask ≡ o → places_chosen ask.copies o ≡ None
      behind None none is = refl
      behind (Some g) none is =
          let there = found_here (λ (d : Choice). same_ask d.asked ask) given g is in
          let asked : g.asked ≡ ask = ask_is g.asked ask there.1 in
          elim (all_contains (IsReply entries) given g replies there.0) [
            | inl one ↦ absurd (none_some g (sym none ∙ ap (recorded_for entries) (sym asked) ∙ found_itself g one))
            | inr other ↦
                let copies : 1 ≤ ask.copies = subst (λ (a : Ask). 1 ≤ a.copies) asked (all_contains (λ (d : Choice). 1 ≤ d.asked.copies) given g some there.0) in
                let empty : g.places ≡ [] = ap (λ (d : Choice). d.places) other.1 in
                let few : nat_lt (length g.places) ask.copies ≡ true = lt-ltb (length g.places) ask.copies (omega (arith, ap length empty, copies)) in
                ap (λ (t : Bool). places_unless t g) few
          ]

      by : (o : Option Choice) → recorded_for entries ask ≡ o → chosen entries ask ≡ chosen both ask
      by None none =
          ap (places_chosen ask.copies) none
          ∙ sym (behind (recorded_for given ask) none refl)
          ∙ ap (places_chosen ask.copies) (sym (find_behind (λ (c : Choice). same_ask c.asked ask) entries given none))
      by (Some c) some =
          ap (places_chosen ask.copies) (some ∙ sym (find_front (λ (d : Choice). same_ask d.asked ask) entries given c some))

  -- so a run with these answers asks what it asks under the entries
  pub asks_alike : (t : Terms) (trees : List (List Pending)) (images : Images) → AllByRecursion (λ (g : Choice). 1 ≤ g.asked.copies) given → HaveRunOn given t trees images
      → (settle_each entries t trees images).asks ≡ asks_of given
  asks_alike t trees images some ran =
      ap (λ (r : Ran). r.asks) (settle_alike entries both t trees images (choose_alike some)) ∙ sym (ran.is both both_answer).asks
