-- Names of keys: two are equal exactly where the keys name the same ask, and what an index tells of one more entry.
use Rattle.std.proofs.Common.{Bor, ◌≡◌, ◌==◌, ◌&&◌, ◌+◌, ◌<◌, ◌≤◌, ℕ, zero, suc, List, [], ◌∷◌, ◌++◌, Bool, true, false, cond, length, take, drop, get_or, find, Option, None, Some, refl, sym, ap, subst, ◌∙◌, arith}
use Rattle.std.specs.Prelude.{IfSome, bytes_eq, is_some, nat_lt, option_copied, slice_get}
use Rattle.std.specs.BTreeMap.{is_at}
use Rattle.std.specs.Cmp.Lexicographic.{slice_cmp}
use Rattle.std.specs.List.{AllByRecursion}
use Rattle.std.specs.Option.{option_or}
use Rattle.std.specs.Ordering.{bool_cmp, is_eq, nat_cmp, ordering_then}
use Rattle.std.specs.declared.cmp.Ordering.{Ordering}
use Rattle.std.specs.declared.cmp.Ordering.TheVariants.{Less, Equal, Greater}
use Rattle.std.proofs.lemmas.Bool.{and_from, and_parts, both_ways, cond-false, cond-true, eq-eqb, eqb-true, false_from_ne_true, false≢true, ltb-false, ltb-true, true≢false}
use Rattle.std.proofs.lemmas.Bool.Decides.{nat_tests}
use Rattle.std.proofs.lemmas.List.{take_all, take_at, take_more}
use Rattle.std.proofs.lemmas.List.Folds.{find-append}
use Rattle.std.proofs.lemmas.Option.{slice_get-get_or, slice_get_past, slice_get_read}
use Rattle.std.proofs.lemmas.Slice.Eq.{bytes_eq-Decides}
use Rattle.zio_types.specs.declared.journal.Key.{Key}
use Rattle.zio_types.specs.declared.journal.Role.{Role}
use Rattle.zio_types.specs.declared.journal.Role.TheVariants.{Body, Head}
use Rattle.zio_types.specs.Choices.{Ask, Choice, same_ask, same_key, same_role}
use Rattle.zio_types.specs.Filled.{IsFilled, filled_to, length-take-filled}
use Rattle.zio_gang.specs.Journals.{HaveDistinctKeys, asks_of}
use Rattle.zio_gang.proofs.JournalLemmas.{same_key_itself}
use Rattle.zio_audit.specs.declared.index.Name.{Name}
use Rattle.zio_audit.specs.Names.{IsIndexOf, at_name, entry_at, has_key, is_head, name_cmp, name_of}
use Rattle.zio_audit.specs.Replays.{recorded_for}

-- ---- keys

role_is : (a b : Role) → same_role a b ≡ true → a ≡ b
role_is Body Body h = refl
role_is Body Head h = absurd (false≢true h)
role_is Head Body h = absurd (false≢true h)
role_is Head Head h = refl

key_by : (a b : Key) → a.request ≡ b.request → a.round ≡ b.round → a.attempt ≡ b.attempt → a.path ≡ b.path → a.role ≡ b.role → a ≡ b
key_by a b request round attempt path role = λ i. record { request = request i; round = round i; attempt = attempt i; path = path i; role = role i }

-- keys that name the same ask are equal
pub key_is : (a b : Key) → same_key a b ≡ true → a ≡ b
key_is a b h =
    let round = (a.request == b.request) && (a.round == b.round) in
    let attempt = round && (a.attempt == b.attempt) in
    let all = and_parts (attempt && bytes_eq a.path b.path) (same_role a.role b.role) h in
    let front = and_parts attempt (bytes_eq a.path b.path) all.0 in
    let times = and_parts round (a.attempt == b.attempt) front.0 in
    let requests = and_parts (a.request == b.request) (a.round == b.round) times.0 in
    key_by a b (eqb-true a.request b.request requests.0) (eqb-true a.round b.round requests.1) (eqb-true a.attempt b.attempt times.1)
    ((bytes_eq-Decides a.path b.path).0 front.1) (role_is a.role b.role all.1)

ask_by : (a b : Ask) → a.key ≡ b.key → a.size ≡ b.size → a.copies ≡ b.copies → a ≡ b
ask_by a b key size copies = λ i. record { key = key i; size = size i; copies = copies i }

-- and so are asks for the same
pub ask_is : (a b : Ask) → same_ask a b ≡ true → a ≡ b
ask_is a b h =
    let all = and_parts (same_key a.key b.key && (a.size == b.size)) (a.copies == b.copies) h in
    let front = and_parts (same_key a.key b.key) (a.size == b.size) all.0 in
    ask_by a b (key_is a.key b.key front.0) (eqb-true a.size b.size front.1) (eqb-true a.copies b.copies all.1)

-- ---- their names

same_bools : (x y : Bool) → (x ≡ true → y ≡ true) → (y ≡ true → x ≡ true) → x ≡ y
same_bools true y h k = sym (h refl)
same_bools false true h k = k refl
same_bools false false h k = refl

eq_then : (x y : Ordering) → is_eq (ordering_then x y) ≡ (is_eq x && is_eq y)
eq_then Less y = refl
eq_then Equal y = refl
eq_then Greater y = refl

eq_nat : (a b : ℕ) → is_eq (nat_cmp a b) ≡ (a == b)
eq_nat a b = grind (arith, nat_tests)

eq_list : (xs ys : List ℕ) → is_eq (slice_cmp nat_cmp xs ys) ≡ bytes_eq xs ys
eq_list [] [] = refl
eq_list [] (y ∷ ys) = refl
eq_list (x ∷ xs) [] = refl
eq_list (x ∷ xs) (y ∷ ys) = eq_then (nat_cmp x y) (slice_cmp nat_cmp xs ys) ∙ (λ i. eq_nat x y i && eq_list xs ys i)

eq_head : (a b : Role) → is_eq (bool_cmp (is_head a) (is_head b)) ≡ same_role a b
eq_head Body Body = refl
eq_head Body Head = refl
eq_head Head Body = refl
eq_head Head Head = refl

front_is : (xs : List ℕ) → take (length xs) (filled_to 0 8 xs) ≡ xs
front_is xs = take_at xs _ (length xs) refl

-- a path by its length and its steps
eq_path : (a b : List ℕ) → ((length a == length b) && bytes_eq (filled_to 0 8 a) (filled_to 0 8 b)) ≡ bytes_eq a b
eq_path a b = same_bools ((length a == length b) && bytes_eq (filled_to 0 8 a) (filled_to 0 8 b)) (bytes_eq a b)
    (λ h.
    let parts = and_parts (length a == length b) (bytes_eq (filled_to 0 8 a) (filled_to 0 8 b)) h in
    let long : length a ≡ length b = eqb-true (length a) (length b) parts.0 in
    let whole : filled_to 0 8 a ≡ filled_to 0 8 b = (bytes_eq-Decides (filled_to 0 8 a) (filled_to 0 8 b)).0 parts.1 in
    (bytes_eq-Decides a b).1 (sym (front_is a) ∙ (λ i. take (long i) (whole i)) ∙ front_is b))
    (λ h.
    let same : a ≡ b = (bytes_eq-Decides a b).0 h in
    and_from (length a == length b) (bytes_eq (filled_to 0 8 a) (filled_to 0 8 b)) (eq-eqb (length a) (length b) (ap length same))
    ((bytes_eq-Decides (filled_to 0 8 a) (filled_to 0 8 b)).1 (ap (filled_to 0 8) same)))

regroup : (a b c h p : Bool) → (a && (b && (c && (h && p)))) ≡ ((((a && b) && c) && p) && h)
regroup false b c h p = refl
regroup true false c h p = refl
regroup true true false h p = refl
regroup true true true false false = refl
regroup true true true false true = refl
regroup true true true true false = refl
regroup true true true true true = refl

pub same_name : (a b : Key) → is_eq (name_cmp (name_of a) (name_of b)) ≡ same_key a b
same_name a b =
    let head = bool_cmp (is_head a.role) (is_head b.role) in
    let len = nat_cmp (length a.path) (length b.path) in
    let steps = slice_cmp nat_cmp (filled_to 0 8 a.path) (filled_to 0 8 b.path) in
    let path : is_eq (ordering_then len steps) ≡ bytes_eq a.path b.path =
    eq_then len steps ∙ (λ i. eq_nat (length a.path) (length b.path) i && eq_list (filled_to 0 8 a.path) (filled_to 0 8 b.path) i) ∙ eq_path a.path b.path in
    let from_head : is_eq (ordering_then head (ordering_then len steps)) ≡ (same_role a.role b.role && bytes_eq a.path b.path) =
    eq_then head (ordering_then len steps) ∙ (λ i. eq_head a.role b.role i && path i) in
    let third = ordering_then (nat_cmp a.attempt b.attempt) (ordering_then head (ordering_then len steps)) in
    let from_third : is_eq third ≡ ((a.attempt == b.attempt) && (same_role a.role b.role && bytes_eq a.path b.path)) =
    eq_then (nat_cmp a.attempt b.attempt) (ordering_then head (ordering_then len steps)) ∙ (λ i. eq_nat a.attempt b.attempt i && from_head i) in
    let second = ordering_then (nat_cmp a.round b.round) third in
    let from_second : is_eq second ≡ ((a.round == b.round) && ((a.attempt == b.attempt) && (same_role a.role b.role && bytes_eq a.path b.path))) =
    eq_then (nat_cmp a.round b.round) third ∙ (λ i. eq_nat a.round b.round i && from_third i) in
    eq_then (nat_cmp a.request b.request) second ∙ (λ i. eq_nat a.request b.request i && from_second i)
    ∙ regroup (a.request == b.request) (a.round == b.round) (a.attempt == b.attempt) (same_role a.role b.role) (bytes_eq a.path b.path)

-- the name that is made of a key's fields
pub name_made : (key : Key) (len : ℕ) (steps : List ℕ) (head : Bool) → IsFilled 0 8 len steps → take len steps ≡ key.path → head ≡ is_head key.role
    → record { request = key.request; round = key.round; attempt = key.attempt; head = head; len = len; steps = steps } ≡ name_of key
name_made key len steps head filled path same =
    let long : len ≡ length key.path = sym (length-take-filled 0 8 len steps filled) ∙ ap length path in
    let whole : steps ≡ filled_to 0 8 key.path = filled.rest ∙ ap (filled_to 0 8) path in
    λ i. record { request = key.request; round = key.round; attempt = key.attempt; head = same i; len = long i; steps = whole i }

-- ---- entries by their keys

none_before : (e : Choice) (xs ys : List Choice) → HaveDistinctKeys (asks_of (xs ++ e ∷ ys)) → find (has_key e.asked.key) xs ≡ None
none_before e [] ys h = refl
none_before e (x ∷ xs) ys h =
    cond-false (has_key e.asked.key x) (Some x) (find (has_key e.asked.key) xs) (other xs h.0) ∙ none_before e xs ys h.1
  where
    other : (zs : List Choice) → AllByRecursion (λ (a : Ask). same_key x.asked.key a.key ≡ false) (asks_of (zs ++ e ∷ ys)) → same_key x.asked.key e.asked.key ≡ false
    other [] k = k.0
    other (z ∷ zs) k = other zs k.1

all_other : (e x : Choice) (xs : List Choice) → AllByRecursion (λ (a : Ask). same_key x.asked.key a.key ≡ false) (asks_of xs) → same_key x.asked.key e.asked.key ≡ false
    → AllByRecursion (λ (a : Ask). same_key x.asked.key a.key ≡ false) (asks_of (xs ++ e ∷ []))
all_other e x [] h k = (k, tt)
all_other e x (y ∷ ys) h k = (h.0, all_other e x ys h.1 k)

by_first : (t : Bool) (x : Choice) (rest : Option Choice) → cond t (Some x) rest ≡ None → (t ≡ false) × (rest ≡ None)
by_first true x rest h = absurd (cc)
by_first false x rest h = (refl, h)

distinct_more : (e : Choice) (xs : List Choice) → HaveDistinctKeys (asks_of xs) → find (has_key e.asked.key) xs ≡ None → HaveDistinctKeys (asks_of (xs ++ e ∷ []))
distinct_more e [] h none = (tt, tt)
distinct_more e (x ∷ xs) h none =
    let first = by_first (has_key e.asked.key x) x (find (has_key e.asked.key) xs) none in
    (all_other e x xs h.0 first.0, distinct_more e xs h.1 first.1)

-- what an index of some entries is, up to the first ones
pub record IsIndexed (index : List (Name × ℕ)) (entries : List Choice) (n : ℕ) : Type 0 where
  pub distinct : HaveDistinctKeys (asks_of (take n entries))
  pub index_is : IsIndexOf index entries (take n entries)

pub indexed_none : (entries : List Choice) → IsIndexed [] entries 0
indexed_none entries = record { distinct = tt; index_is = record { found = λ key. refl; below = λ key. tt } }

entries_at : (entries : List Choice) (n : ℕ) (d : Choice) → n < length entries → entries ≡ take n entries ++ get_or entries n d ∷ drop (suc n) entries
entries_at [] n d below = absurd (omega arith)
entries_at (x ∷ xs) zero d below = refl
entries_at (x ∷ xs) (suc n) d below = ap (λ ys. x ∷ ys) (entries_at xs n d (omega arith))

none_there : (index : List (Name × ℕ)) (all front : List Choice) (key : Key) → IsIndexOf index all front → at_name index (name_of key) ≡ None → find (has_key key) front ≡ None
none_there index all front key is none = sym (is.found key) ∙ ap (entry_at all) none

or_none : (o : Option Choice) → option_or o None ≡ o
or_none None = refl
or_none (Some c) = refl

-- one more entry, whose key the index didn't have
one_indexed : (old new : List (Name × ℕ)) (entries : List Choice) (n : ℕ) (d : Choice) → n < length entries → IsIndexed old entries n
    → at_name old (name_of (get_or entries n d).asked.key) ≡ None
    → ((q : Name) → at_name new q ≡ cond (is_at (name_cmp (name_of (get_or entries n d).asked.key)) q) (Some n) (at_name old q))
    → IsIndexed new entries (n + 1)
one_indexed old new entries n d below is none puts =
    let e = get_or entries n d in
    let front = take n entries in
    let absent : find (has_key e.asked.key) front ≡ None = none_there old entries front e.asked.key is.index_is none in
    let joined : take (n + 1) entries ≡ front ++ e ∷ [] = take_more entries n d below in
    record {
      distinct = subst (λ (es : List Choice). HaveDistinctKeys (asks_of es)) (sym joined) (distinct_more e front is.distinct absent);
      index_is = record {
        found = λ key.
            ap (entry_at entries) (puts (name_of key) ∙ ap (λ t. cond t (Some n) (at_name old (name_of key))) (same_name e.asked.key key))
            ∙ step key (same_key e.asked.key key) refl (at_name old (name_of key)) (is.index_is.found key)
            ∙ sym (ap (find (has_key key)) joined ∙ find-append (has_key key) front (e ∷ []));
        below = λ key. subst (λ (o : Option ℕ). IfSome o (λ at. at < length entries)) (sym (puts (name_of key)))
            (bound (is_at (name_cmp (name_of e.asked.key)) (name_of key)) (at_name old (name_of key)) (is.index_is.below key));
      };
    }
  where
    bound : (t : Bool) (o : Option ℕ) → IfSome o (λ at. at < length entries) → IfSome (cond t (Some n) o) (λ at. at < length entries)
    bound true o h = below
    bound false o h = h

    step : (key : Key) (t : Bool) → same_key (get_or entries n d).asked.key key ≡ t → (o : Option ℕ) → entry_at entries o ≡ find (has_key key) (take n entries)
        → entry_at entries (cond t (Some n) o) ≡ option_or (find (has_key key) (take n entries)) (find (has_key key) (get_or entries n d ∷ []))
    step key true same o h =
        let e = get_or entries n d in
        let absent : find (has_key key) (take n entries) ≡ None =
        subst (λ (k : Key). find (has_key k) (take n entries) ≡ None) (key_is e.asked.key key same) (none_there old entries (take n entries) e.asked.key is.index_is none) in
        slice_get-get_or entries n d below
        ∙ sym (ap (λ x. option_or x (find (has_key key) (e ∷ []))) absent ∙ cond-true (has_key key e) (Some e) None same)
    step key false other o h =
        let e = get_or entries n d in
        h ∙ sym (ap (option_or (find (has_key key) (take n entries))) (cond-false (has_key key e) (Some e) None other) ∙ or_none (find (has_key key) (take n entries)))

-- an entry whose key stood before
twice : (index : List (Name × ℕ)) (entries : List Choice) (n at : ℕ) (d : Choice) → n < length entries → IsIndexed index entries n
    → at_name index (name_of (get_or entries n d).asked.key) ≡ Some at → HaveDistinctKeys (asks_of entries) → ⊥
twice index entries n at d below is there distinct =
    let e = get_or entries n d in
    let absent : find (has_key e.asked.key) (take n entries) ≡ None =
    none_before e (take n entries) (drop (suc n) entries) (subst (λ (es : List Choice). HaveDistinctKeys (asks_of es)) (entries_at entries n d below) distinct) in
    let here : slice_get entries at ≡ None = sym (ap (entry_at entries) there) ∙ is.index_is.found e.asked.key ∙ absent in
    let inside : at < length entries = subst (λ (o : Option ℕ). IfSome o (λ k. k < length entries)) there (is.index_is.below e.asked.key) in
    nothing (get_or entries at d) (sym (slice_get-get_or entries at d inside) ∙ here)
  where
    nothing : (c : Choice) → Some c ≡ None → ⊥
    nothing c e = absurd (cc)

none_of : (o : Option ℕ) → is_some o ≡ false → o ≡ None
none_of None h = refl
none_of (Some n) h = absurd (true≢false h)

some_of : (o : Option ℕ) → is_some o ≡ true → (n : ℕ) × (o ≡ Some n)
some_of None h = absurd (false≢true h)
some_of (Some n) h = (n, refl)

-- the entry is the next one, and this is its name
pub record IsNext (entries : List Choice) (n : ℕ) (e : Choice) (name : Name) : Type 0 where
  pub below : n < length entries
  pub here : e ≡ get_or entries n e
  pub named : name ≡ name_of e.asked.key

next_name : (entries : List Choice) (n : ℕ) (e : Choice) (name : Name) → IsNext entries n e name → name ≡ name_of (get_or entries n e).asked.key
next_name entries n e name next = next.named ∙ ap (λ (c : Choice). name_of c.asked.key) next.here

pub one_more : (old new : List (Name × ℕ)) (entries : List Choice) (n : ℕ) (e : Choice) (name : Name) (earlier : Option ℕ) → IsNext entries n e name → IsIndexed old entries n
    → earlier ≡ at_name old name → is_some earlier ≡ false → ((q : Name) → at_name new q ≡ cond (is_at (name_cmp name) q) (Some n) (at_name old q))
    → IsIndexed new entries (n + 1)
one_more old new entries n e name earlier next is was none puts =
    let same = next_name entries n e name next in
    one_indexed old new entries n e next.below is (ap (at_name old) (sym same) ∙ sym was ∙ none_of earlier none)
    (subst (λ (m : Name). (q : Name) → at_name new q ≡ cond (is_at (name_cmp m) q) (Some n) (at_name old q)) same puts)

pub stood_before : (index : List (Name × ℕ)) (entries : List Choice) (n : ℕ) (e : Choice) (name : Name) (earlier : Option ℕ) → IsNext entries n e name → IsIndexed index entries n
    → earlier ≡ at_name index name → is_some earlier ≡ true → HaveDistinctKeys (asks_of entries) → ⊥
stood_before index entries n e name earlier next is was stood =
    let some = some_of earlier stood in
    twice index entries n some.0 e next.below is (ap (at_name index) (sym (next_name entries n e name next)) ∙ sym was ∙ some.1)

pub all_indexed : (index : List (Name × ℕ)) (entries : List Choice) (n : ℕ) → length entries ≤ n → IsIndexed index entries n
    → HaveDistinctKeys (asks_of entries) × IsIndexOf index entries entries
all_indexed index entries n past is =
    let whole : take n entries ≡ entries = take_all n entries past in (
      subst (λ (es : List Choice). HaveDistinctKeys (asks_of es)) whole is.distinct,
      subst (IsIndexOf index entries) whole is.index_is,
    )

-- ---- an entry by its ask

-- where it has the size and the copies
abbrev pub where_fits : Ask → Option Choice → Option Choice
where_fits ask None = None
where_fits ask (Some c) = cond ((c.asked.size == ask.size) && (c.asked.copies == ask.copies)) (Some c) None

and_assoc : (a b c : Bool) → ((a && b) && c) ≡ (a && (b && c))
and_assoc true b c = refl
and_assoc false b c = refl

none_of_key : (ask : Ask) (c : Choice) (cs : List Choice) → same_key c.asked.key ask.key ≡ true → AllByRecursion (λ (a : Ask). same_key c.asked.key a.key ≡ false) (asks_of cs)
    → recorded_for cs ask ≡ None
none_of_key ask c [] same h = refl
none_of_key ask c (d ∷ ds) same h =
    let other : same_key d.asked.key ask.key ≡ false =
    false_from_ne_true (same_key d.asked.key ask.key) (λ (e : same_key d.asked.key ask.key ≡ true).
    let keys : c.asked.key ≡ d.asked.key = key_is c.asked.key ask.key same ∙ sym (key_is d.asked.key ask.key e) in
    both_ways (same_key c.asked.key d.asked.key) h.0 (subst (λ (k : Key). same_key c.asked.key k ≡ true) keys (same_key_itself c.asked.key))) in
    cond-false (same_ask d.asked ask) (Some d) (recorded_for ds ask) (ap (λ t. (t && (d.asked.size == ask.size)) && (d.asked.copies == ask.copies)) other)
    ∙ none_of_key ask c ds same h.1

by_key : (ask : Ask) (c : Choice) (cs : List Choice) (t f : Bool) → same_key c.asked.key ask.key ≡ t → ((c.asked.size == ask.size) && (c.asked.copies == ask.copies)) ≡ f
    → (t ≡ true → recorded_for cs ask ≡ None) → where_fits ask (find (has_key ask.key) cs) ≡ recorded_for cs ask
    → where_fits ask (cond t (Some c) (find (has_key ask.key) cs)) ≡ cond (t && f) (Some c) (recorded_for cs ask)
by_key ask c cs true true same fit none rest = ap (λ b. cond b (Some c) None) fit
by_key ask c cs true false same fit none rest = ap (λ b. cond b (Some c) None) fit ∙ sym (none refl)
by_key ask c cs false f same fit none rest = rest

-- where no key stands twice, an ask is answered by the entry with its key, if that fits
pub found_by_key : (ask : Ask) (cs : List Choice) → HaveDistinctKeys (asks_of cs) → where_fits ask (find (has_key ask.key) cs) ≡ recorded_for cs ask
found_by_key ask [] h = refl
found_by_key ask (c ∷ cs) h =
    let fit = (c.asked.size == ask.size) && (c.asked.copies == ask.copies) in
    by_key ask c cs (same_key c.asked.key ask.key) fit refl refl (λ same. none_of_key ask c cs same h.0) (found_by_key ask cs h.1)
    ∙ ap (λ t. cond t (Some c) (recorded_for cs ask)) (sym (and_assoc (same_key c.asked.key ask.key) (c.asked.size == ask.size) (c.asked.copies == ask.copies)))

-- the same where that entry is read
pub fits_here : (cs : List Choice) (ask : Ask) (o : Option Choice) → HaveDistinctKeys (asks_of cs) → o ≡ find (has_key ask.key) cs → where_fits ask o ≡ recorded_for cs ask
fits_here cs ask o distinct is = ap (where_fits ask) is ∙ found_by_key ask cs distinct

-- what a look-up by place gives
pub entry_read : (entries : List Choice) (at : ℕ) (r : Option (Bor Choice)) → is_some r ≡ nat_lt at (length entries) → IfSome r (λ x. x.now ≡ get_or entries at x.now)
    → option_copied r ≡ slice_get entries at
entry_read entries at None size here = sym (slice_get_past entries at (ltb-false at (length entries) (sym size)))
entry_read entries at (Some x) size here = sym (slice_get_read entries (length entries) at x.now refl (ltb-true at (length entries) (sym size)) here)
