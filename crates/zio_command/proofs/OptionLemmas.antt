-- Options one after another, and that words are split into options and others in one way at most.
use Rattle.std.proofs.Common.{◌≡◌, ◌≤◌, ℕ, List, [], ◌∷◌, ◌++◌, Bool, true, false, get_or, drop, refl, sym, ap, ◌∙◌, subst, arith, bytes_eq, append_assoc}
use Rattle.std.specs.Prelude.{decimal, codes}
use Rattle.std.specs.List.{AllByRecursion, flat_map}
use Rattle.std.proofs.lemmas.List.{append-nil}
use Rattle.std.proofs.lemmas.Slice.Eq.{bytes_eq-Decides}
use Rattle.std.proofs.lemmas.Fmt.{decimal_injective}
use Rattle.zio_command.specs.declared.options.Asked.{Asked}
use Rattle.zio_command.specs.declared.options.Asked.TheVariants.{Journal, Bytes, Picks, Workers}
use Rattle.zio_command.specs.declared.options.Options.{Options}
use Rattle.zio_command.specs.declared.options.TheConstants.{WORKERS_MAX}
use Rattle.zio_command.specs.Words.{AreNew, IsNext, IsOptionOf, IsSplit, NoNext, NoSplit, begins_option, is_asked, none_asked, option_words, with_option, with_options}

abbrev Words : Type 0
Words = List (List ℕ)

-- some options stand at the front of the words, and these behind them
pub record IsFront (serial : Bool) (words : List (List ℕ)) (options : Options) (rest : List (List ℕ)) : Type 0 where
  pub asked : List Asked
  pub words_are : words ≡ flat_map option_words asked ++ rest
  pub known : AllByRecursion (IsOptionOf serial) asked
  pub once : AreNew none_asked asked
  pub options_are : options ≡ with_options none_asked asked

pub front_start : (serial : Bool) (words : List (List ℕ)) → IsFront serial words none_asked words
front_start serial words = record { asked = []; words_are = refl; known = tt; once = tt; options_are = refl }

pub front_end : (serial : Bool) (words : List (List ℕ)) (options : Options) (rest : List (List ℕ)) → IsFront serial words options rest
    → begins_option rest ≡ false → IsSplit serial words options rest
front_end serial words options rest front ends = record {
  asked = front.asked;
  words_are = front.words_are;
  known = front.known;
  once = front.once;
  options_are = front.options_are;
  ends = ends;
}

-- ---- one option more

joined : (asked : List Asked) (a : Asked) (rest : List (List ℕ)) → flat_map option_words asked ++ (option_words a ++ rest) ≡ flat_map option_words (asked ++ a ∷ []) ++ rest
joined [] a rest = sym (ap (λ (xs : List (List ℕ)). xs ++ rest) (append-nil (option_words a)))
joined (b ∷ asked) a rest =
    append_assoc (option_words b) (flat_map option_words asked) (option_words a ++ rest)
    ∙ (ap (λ (xs : List (List ℕ)). option_words b ++ xs) (joined asked a rest)
    ∙ sym (append_assoc (option_words b) (flat_map option_words (asked ++ a ∷ [])) rest))

known_more : (serial : Bool) (asked : List Asked) (a : Asked) → AllByRecursion (IsOptionOf serial) asked → IsOptionOf serial a
    → AllByRecursion (IsOptionOf serial) (asked ++ a ∷ [])
known_more serial [] a all is = (is, tt)
known_more serial (b ∷ asked) a all is = (all.0, known_more serial asked a all.1 is)

new_more : (options : Options) (asked : List Asked) (a : Asked) → AreNew options asked → is_asked (with_options options asked) a ≡ false
    → AreNew options (asked ++ a ∷ [])
new_more options [] a once new = (new, tt)
new_more options (b ∷ asked) a once new = (once.0, new_more (with_option options b) asked a once.1 new)

with_more : (options : Options) (asked : List Asked) (a : Asked) → with_option (with_options options asked) a ≡ with_options options (asked ++ a ∷ [])
with_more options [] a = refl
with_more options (b ∷ asked) a = with_more (with_option options b) asked a

pub front_more : (serial : Bool) (words : List (List ℕ)) (options : Options) (rest : List (List ℕ)) (a : Asked) (after : List (List ℕ))
    → IsFront serial words options rest → IsNext serial rest a after → is_asked options a ≡ false
    → IsFront serial words (with_option options a) after
front_more serial words options rest a after front next new =
    let new_there : is_asked (with_options none_asked front.asked) a ≡ false = subst (λ (o : Options). is_asked o a ≡ false) front.options_are new in
    record {
      asked = front.asked ++ a ∷ [];
      words_are = front.words_are ∙ (ap (λ (xs : List (List ℕ)). flat_map option_words front.asked ++ xs) next.words_are ∙ joined front.asked a after);
      known = known_more serial front.asked a front.known next.known;
      once = new_more none_asked front.asked a front.once new_there;
      options_are = ap (λ (o : Options). with_option o a) front.options_are ∙ with_more none_asked front.asked a;
    }

-- ---- one way at most

pub differ : (a b : List ℕ) → bytes_eq a b ≡ false → a ≡ b → ⊥
differ a b other same =
    let yes : bytes_eq a b ≡ true = (bytes_eq-Decides a b).1 same in
    let bad : false ≡ true = sym other ∙ yes in
    cc

pub heads : (a b : List ℕ) (xs ys : List (List ℕ)) → a ∷ xs ≡ b ∷ ys → (a ≡ b) × (xs ≡ ys)
heads a b xs ys e = (ap (λ (zs : List (List ℕ)). get_or zs 0 []) e, ap (λ (zs : List (List ℕ)). drop 1 zs) e)

-- the words behind an option
pub same_option : (serial : Bool) (a b : Asked) (xs ys : List (List ℕ)) → IsOptionOf serial a → IsOptionOf serial b
    → option_words a ++ xs ≡ option_words b ++ ys → (a ≡ b) × (xs ≡ ys)
same_option serial Journal Journal xs ys p q e = (refl, (heads _ _ xs ys e).1)
same_option serial Journal Bytes xs ys p q e = absurd (differ (codes "--journal") (codes "--data") refl (heads _ _ xs ys e).0)
same_option serial Journal (Picks n) xs ys p q e = absurd (differ (codes "--journal") (codes "--picks") refl (heads _ _ xs (decimal n ∷ ys) e).0)
same_option serial Journal (Workers n) xs ys p q e = absurd (differ (codes "--journal") (codes "--workers") refl (heads _ _ xs (decimal n ∷ ys) e).0)
same_option serial Bytes Journal xs ys p q e = absurd (differ (codes "--data") (codes "--journal") refl (heads _ _ xs ys e).0)
same_option serial Bytes Bytes xs ys p q e = (refl, (heads _ _ xs ys e).1)
same_option serial Bytes (Picks n) xs ys p q e = absurd (differ (codes "--data") (codes "--picks") refl (heads _ _ xs (decimal n ∷ ys) e).0)
same_option serial Bytes (Workers n) xs ys p q e = absurd (differ (codes "--data") (codes "--workers") refl (heads _ _ xs (decimal n ∷ ys) e).0)
same_option serial (Picks m) Journal xs ys p q e = absurd (differ (codes "--picks") (codes "--journal") refl (heads _ _ (decimal m ∷ xs) ys e).0)
same_option serial (Picks m) Bytes xs ys p q e = absurd (differ (codes "--picks") (codes "--data") refl (heads _ _ (decimal m ∷ xs) ys e).0)
same_option serial (Picks m) (Picks n) xs ys p q e =
    let behind = heads _ _ xs ys (heads _ _ (decimal m ∷ xs) (decimal n ∷ ys) e).1 in
    (ap Picks (decimal_injective m n p.1 q.1 behind.0), behind.1)
same_option serial (Picks m) (Workers n) xs ys p q e = absurd (differ (codes "--picks") (codes "--workers") refl (heads _ _ (decimal m ∷ xs) (decimal n ∷ ys) e).0)
same_option serial (Workers m) Journal xs ys p q e = absurd (differ (codes "--workers") (codes "--journal") refl (heads _ _ (decimal m ∷ xs) ys e).0)
same_option serial (Workers m) Bytes xs ys p q e = absurd (differ (codes "--workers") (codes "--data") refl (heads _ _ (decimal m ∷ xs) ys e).0)
same_option serial (Workers m) (Picks n) xs ys p q e = absurd (differ (codes "--workers") (codes "--picks") refl (heads _ _ (decimal m ∷ xs) (decimal n ∷ ys) e).0)
same_option serial (Workers m) (Workers n) xs ys p q e =
    let behind = heads _ _ xs ys (heads _ _ (decimal m ∷ xs) (decimal n ∷ ys) e).1 in
    let low : m ≤ WORKERS_MAX = p.1.high in
    let high : n ≤ WORKERS_MAX = q.1.high in
    (ap Workers (decimal_injective m n (omega arith) (omega arith) behind.0), behind.1)

-- an option begins as one
begins : (a : Asked) (xs : List (List ℕ)) → begins_option (option_words a ++ xs) ≡ true
begins Journal xs = refl
begins Bytes xs = refl
begins (Picks n) xs = refl
begins (Workers n) xs = refl

no_end : (a : Asked) (xs rest : List (List ℕ)) → option_words a ++ xs ≡ rest → begins_option rest ≡ false → ⊥
no_end a xs rest e ends =
    let there : begins_option rest ≡ true = subst (λ (ws : List (List ℕ)). begins_option ws ≡ true) e (begins a xs) in
    let bad : true ≡ false = sym there ∙ ends in
    cc

abbrev More : List Asked → List Asked → List (List ℕ) → List (List ℕ) → Type 0
More front all rest ends = (more : List Asked) × (all ≡ front ++ more) × (rest ≡ flat_map option_words more ++ ends)

-- options at the front of words are the first of all options of these words
first_ones : (serial : Bool) (front all : List Asked) (rest ends : List (List ℕ)) → AllByRecursion (IsOptionOf serial) front → AllByRecursion (IsOptionOf serial) all
    → flat_map option_words front ++ rest ≡ flat_map option_words all ++ ends → begins_option ends ≡ false → More front all rest ends
first_ones serial [] all rest ends p q e none = (all, refl, e)
first_ones serial (a ∷ front) [] rest ends p q e none =
    absurd (no_end a (flat_map option_words front ++ rest) ends (sym (append_assoc (option_words a) (flat_map option_words front) rest) ∙ e) none)
first_ones serial (a ∷ front) (b ∷ all) rest ends p q e none =
    let apart = sym (append_assoc (option_words a) (flat_map option_words front) rest) ∙ (e ∙ append_assoc (option_words b) (flat_map option_words all) ends) in
    let same = same_option serial a b (flat_map option_words front ++ rest) (flat_map option_words all ++ ends) p.0 q.0 apart in
    let more = first_ones serial front all rest ends p.1 q.1 same.1 none in
    (more.0, ap (λ (x : Asked). x ∷ all) (sym same.0) ∙ ap (λ (xs : List Asked). a ∷ xs) more.1, more.2)

known_behind : (serial : Bool) (front more : List Asked) → AllByRecursion (IsOptionOf serial) (front ++ more) → AllByRecursion (IsOptionOf serial) more
known_behind serial [] more all = all
known_behind serial (a ∷ front) more all = known_behind serial front more all.1

new_behind : (options : Options) (front more : List Asked) → AreNew options (front ++ more) → AreNew (with_options options front) more
new_behind options [] more once = once
new_behind options (a ∷ front) more once = new_behind (with_option options a) front more once.1

with_behind : (options : Options) (front more : List Asked) → with_options options (front ++ more) ≡ with_options (with_options options front) more
with_behind options [] more = refl
with_behind options (a ∷ front) more = with_behind (with_option options a) front more

-- what a split has behind a front
record IsBehind (serial : Bool) (options : Options) (rest : List (List ℕ)) (all : Options) (ends : List (List ℕ)) : Type 0 where
  more : List Asked
  rest_is : rest ≡ flat_map option_words more ++ ends
  known : AllByRecursion (IsOptionOf serial) more
  once : AreNew options more
  all_is : all ≡ with_options options more

behind : (serial : Bool) (words : List (List ℕ)) (options all : Options) (rest ends : List (List ℕ)) → IsFront serial words options rest
    → IsSplit serial words all ends → IsBehind serial options rest all ends
behind serial words options all rest ends front split =
    let more = first_ones serial front.asked split.asked rest ends front.known split.known (sym front.words_are ∙ split.words_are) split.ends in
    let once : AreNew (with_options none_asked front.asked) more.0 =
    new_behind none_asked front.asked more.0 (subst (λ (xs : List Asked). AreNew none_asked xs) more.1 split.once) in
    record {
      more = more.0;
      rest_is = more.2;
      known = known_behind serial front.asked more.0 (subst (λ (xs : List Asked). AllByRecursion (IsOptionOf serial) xs) more.1 split.known);
      once = subst (λ (o : Options). AreNew o more.0) (sym front.options_are) once;
      all_is = split.options_are ∙ (ap (λ (xs : List Asked). with_options none_asked xs) more.1
          ∙ (with_behind none_asked front.asked more.0 ∙ ap (λ (o : Options). with_options o more.0) (sym front.options_are)));
    }

refuse_with : (serial : Bool) (options : Options) (rest ends : List (List ℕ)) (more : List Asked) → rest ≡ flat_map option_words more ++ ends
    → AllByRecursion (IsOptionOf serial) more → AreNew options more → begins_option ends ≡ false → begins_option rest ≡ true
    → ((a : Asked) (after : List (List ℕ)) → IsNext serial rest a after → is_asked options a ≡ false → ⊥) → ⊥
refuse_with serial options rest ends [] is known once none some never =
    let bad : true ≡ false = sym some ∙ (ap begins_option is ∙ none) in
    cc
refuse_with serial options rest ends (a ∷ more) is known once none some never =
    never a (flat_map option_words more ++ ends) (record { words_are = is ∙ append_assoc (option_words a) (flat_map option_words more) ends; known = known.0 }) once.0

-- the words can't be split where a word that begins as an option isn't a new one
pub refuse_option : (serial : Bool) (words : List (List ℕ)) (options : Options) (rest : List (List ℕ)) → IsFront serial words options rest
    → begins_option rest ≡ true → NoNext serial rest → NoSplit serial words
refuse_option serial words options rest front some never all ends split =
    let b = behind serial words options all rest ends front split in
    refuse_with serial options rest ends b.more b.rest_is b.known b.once split.ends some (λ a after next new. never a after next)

pub refuse_twice : (serial : Bool) (words : List (List ℕ)) (options : Options) (rest : List (List ℕ)) (a : Asked) (after : List (List ℕ)) → IsFront serial words options rest
    → begins_option rest ≡ true → IsNext serial rest a after → is_asked options a ≡ true → NoSplit serial words
refuse_twice serial words options rest a after front some next twice all ends split =
    let b = behind serial words options all rest ends front split in
    refuse_with serial options rest ends b.more b.rest_is b.known b.once split.ends some
    (λ c more other new.
    (let same = same_option serial a c after more next.known other.known (sym next.words_are ∙ other.words_are) in
    let here : is_asked options a ≡ false = subst (λ (x : Asked). is_asked options x ≡ false) (sym same.0) new in
    let bad : true ≡ false = sym twice ∙ here in
    cc))

one_with : (options all : Options) (rest ends : List (List ℕ)) (more : List Asked) → rest ≡ flat_map option_words more ++ ends → all ≡ with_options options more
    → begins_option rest ≡ false → (options ≡ all) × (rest ≡ ends)
one_with options all rest ends [] is all_is none = (sym all_is, is)
one_with options all rest ends (a ∷ more) is all_is none =
    absurd (no_end a (flat_map option_words more ++ ends) rest (sym (is ∙ append_assoc (option_words a) (flat_map option_words more) ends)) none)

-- the words are split in one way at most
pub one_split : (serial : Bool) (words : List (List ℕ)) (options all : Options) (rest ends : List (List ℕ)) → IsSplit serial words options rest
    → IsSplit serial words all ends → (options ≡ all) × (rest ≡ ends)
one_split serial words options all rest ends first second =
    let front : IsFront serial words options rest = record {
      asked = first.asked;
      words_are = first.words_are;
      known = first.known;
      once = first.once;
      options_are = first.options_are;
    } in
    let b = behind serial words options all rest ends front second in
    one_with options all rest ends b.more b.rest_is b.all_is first.ends
