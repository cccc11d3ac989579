-- The leaves of an accepted script's tops: one to four each, and none twice.
use Rattle.std.proofs.Common.{◌≡◌, ◌≢◌, ◌≤◌, ℕ, List, [], ◌∷◌, ◌++◌, length, Bool, true, false, ◌||◌, ◌==◌, cond, Option, Some, None, option_map, codes, refl, arith, IfSome, nat_le}
use Rattle.std.proofs.lemmas.Bool.{and_parts, eqb-false, leb-true}
use Rattle.std.specs.Bool.{then_some}
use Rattle.std.specs.List.{AllByRecursion, list_all}
use Rattle.std.specs.Option.{option_or}
use Rattle.zio_types.specs.declared.request.Kind.{Kind}
use Rattle.zio_types.specs.declared.request.Kind.TheVariants.{Null as NullKind, Read as ReadKind, Write as WriteKind, Free as FreeKind, Claim as ClaimKind}
use Rattle.zio_cksum.proofs.AllLemmas.{all_append, all_weaker}
use Rattle.zio_types.specs.declared.place.TheConstants.{TOP_LEAVES_MAX}
use Rattle.zio_script.specs.declared.limits.TheConstants.{LEAF_MAX}
use Rattle.zio_script.specs.declared.script.Failmode.{Failmode}
use Rattle.zio_script.specs.Lines.{◌>>=◌, Shape, FailmodeShape, TopShape, FaultShape, RequestShape, GoShape, ClearShape, ScriptLine, FailmodeLine, LeavesLine, FaultLine, RequestLine, GoLine, ClearLine, TopWords, body_found, clear_shape, failmode_shape, fault_shape, first_of_end, go_shape, has_leaves, kind_shape, line_of, named_shape, new_request_of, numbers, request_shape, row_of, sector_number, shape_of, tail_of, top_shape, top_words}
use Rattle.zio_script.specs.Whys.{is_among, is_leaf, repeats_leaf}
use Rattle.zio_script.specs.Words.{Word, fault_words, is_word, kind_words, number, operation_words, read_classes, sum_words, value_in, write_classes}
use Rattle.zio_command.specs.Tops.{AllDiffer}

-- ---- shapes

-- a `top` has one to four words for leaves
abbrev pub HasFewWords : Shape → Type 0
HasFewWords (FailmodeShape mode) = Unit {0}
HasFewWords (TopShape top) = has_leaves top ≡ true
HasFewWords (FaultShape row) = Unit {0}
HasFewWords (RequestShape n work tail) = Unit {0}
HasFewWords GoShape = Unit {0}
HasFewWords ClearShape = Unit {0}

next_fits : {X : Type 0} (o : Option X) (f : X → Option Shape) → ((x : X) → IfSome (f x) HasFewWords) → IfSome (o >>= f) HasFewWords
next_fits None f each = tt
next_fits (Some x) f each = each x

or_fits : (a b : Option Shape) → IfSome a HasFewWords → IfSome b HasFewWords → IfSome (option_or a b) HasFewWords
or_fits None b first second = second
or_fits (Some shape) b first second = first

mode_fits : (mode : Option Failmode) → IfSome (option_map FailmodeShape mode) HasFewWords
mode_fits None = tt
mode_fits (Some mode) = tt

failmode_fits : (words : List Word) → IfSome (failmode_shape words) HasFewWords
failmode_fits [] = tt
failmode_fits (mode ∷ []) = mode_fits _
failmode_fits (mode ∷ word ∷ words) = tt

counted_fits : (b : Bool) (top : TopWords) → has_leaves top ≡ b → IfSome (then_some b (TopShape top)) HasFewWords
counted_fits true top is = is
counted_fits false top is = tt

top_fits : (words : List Word) → IfSome (top_shape words) HasFewWords
top_fits words = counted_fits (has_leaves (top_words words)) (top_words words) refl

fault_fits : (words : List Word) → IfSome (fault_shape words) HasFewWords
fault_fits [] = tt
fault_fits (a ∷ []) = tt
fault_fits (a ∷ b ∷ []) = tt
fault_fits (a ∷ b ∷ c ∷ []) = tt
fault_fits (a ∷ b ∷ c ∷ d ∷ []) = tt
fault_fits (a ∷ b ∷ c ∷ d ∷ e ∷ []) = tt
fault_fits (a ∷ b ∷ c ∷ d ∷ e ∷ f ∷ []) = tt
fault_fits (leaf ∷ operation ∷ at ∷ len ∷ from ∷ until ∷ fault ∷ end) =
    next_fits (value_in operation_words operation) _
    (λ on. next_fits (value_in fault_words fault) _ (λ kind. next_fits (first_of_end end) _ (λ first. tt)))

go_fits : (words : List Word) → IfSome (go_shape words) HasFewWords
go_fits [] = tt
go_fits (word ∷ words) = tt

clear_fits : (words : List Word) → IfSome (clear_shape words) HasFewWords
clear_fits [] = tt
clear_fits (word ∷ words) = tt

form_fits : (a b c d e : Bool) (words : List Word)
    → IfSome (cond a (Some failmode_shape) (cond b (Some top_shape) (cond c (Some fault_shape) (cond d (Some go_shape) (cond e (Some clear_shape) None))))
    >>= λ form. form words) HasFewWords
form_fits true b c d e words = failmode_fits words
form_fits false true c d e words = top_fits words
form_fits false false true d e words = fault_fits words
form_fits false false false true e words = go_fits words
form_fits false false false false true words = clear_fits words
form_fits false false false false false words = tt

named_fits : (words : List Word) → IfSome (named_shape words) HasFewWords
named_fits [] = tt
named_fits (word ∷ words) =
    form_fits (is_word (codes "failmode") word) (is_word (codes "top") word) (is_word (codes "fault") word) (is_word (codes "go") word)
    (is_word (codes "clear") word) words

kind_fits : (n : Word) (kind : Kind) (words : List Word) → IfSome (kind_shape n kind words) HasFewWords
kind_fits n NullKind words = next_fits (tail_of words) _ (λ tail. tt)
kind_fits n ReadKind [] = tt
kind_fits n ReadKind (name ∷ []) = tt
kind_fits n ReadKind (name ∷ class ∷ words) =
    next_fits (value_in read_classes class) _ (λ prio. next_fits (tail_of words) _ (λ tail. tt))
kind_fits n WriteKind [] = tt
kind_fits n WriteKind (name ∷ []) = tt
kind_fits n WriteKind (name ∷ sum ∷ []) = tt
kind_fits n WriteKind (name ∷ sum ∷ copies ∷ []) = tt
kind_fits n WriteKind (name ∷ sum ∷ copies ∷ class ∷ words) =
    next_fits (value_in sum_words sum) _ (λ kind. next_fits (value_in write_classes class) _ (λ prio.
    next_fits (body_found words) _ (λ found. next_fits (tail_of found.rest) _ (λ tail. tt))))
kind_fits n FreeKind [] = tt
kind_fits n FreeKind (name ∷ words) = next_fits (tail_of words) _ (λ tail. tt)
kind_fits n ClaimKind [] = tt
kind_fits n ClaimKind (name ∷ []) = tt
kind_fits n ClaimKind (name ∷ hex ∷ []) = tt
kind_fits n ClaimKind (name ∷ hex ∷ word ∷ words) = tt

request_fits : (words : List Word) → IfSome (request_shape words) HasFewWords
request_fits [] = tt
request_fits (n ∷ []) = tt
request_fits (n ∷ word ∷ words) = next_fits (value_in kind_words word) _ (λ kind. kind_fits n kind words)

pub shape_fits : (words : List Word) → IfSome (shape_of words) HasFewWords
shape_fits words = or_fits (named_shape words) (request_shape words) (named_fits words) (request_fits words)

-- ---- lines

-- a `top` has one to four leaves
abbrev pub HasFewLeaves : ScriptLine → Type 0
HasFewLeaves (FailmodeLine mode) = Unit {0}
HasFewLeaves (LeavesLine leaves sector) = (1 ≤ length leaves) × (length leaves ≤ TOP_LEAVES_MAX)
HasFewLeaves (FaultLine row) = Unit {0}
HasFewLeaves (RequestLine asked) = Unit {0}
HasFewLeaves GoLine = Unit {0}
HasFewLeaves ClearLine = Unit {0}

-- there are as many numbers as words
numbers_length : (words : List Word) (ns : List ℕ) → numbers words ≡ Some ns → length ns ≡ length words
numbers_length [] ns is =
    let none : [] ≡ ns = cc in
    let len : length ns ≡ 0 = cc in len
numbers_length (word ∷ words) ns is = by (number word) (numbers words) (numbers_length words) refl is where
  by : (first : Option ℕ) (rest : Option (List ℕ)) → ((others : List ℕ) → numbers words ≡ Some others → length others ≡ length words)
      → numbers words ≡ rest → (first >>= λ n. rest >>= λ others. Some (n ∷ others)) ≡ Some ns → length ns ≡ length (word ∷ words)
  by None rest known same is = let none : ⊥ = cc in absurd none
  by (Some n) None known same is = let none : ⊥ = cc in absurd none
  by (Some n) (Some others) known same is =
      let e : n ∷ others ≡ ns = cc in
      let len : length others ≡ length words = known others same in
      let more : length (n ∷ others) ≡ length (word ∷ words) = cc in
      cc

leaves_fit : (top : TopWords) (leaves : Option (List ℕ)) (sector : Option ℕ) → numbers top.leaves ≡ leaves → has_leaves top ≡ true
    → IfSome (leaves >>= λ ns. sector >>= λ s. Some (LeavesLine ns s)) HasFewLeaves
leaves_fit top None sector same few = tt
leaves_fit top (Some ns) None same few = tt
leaves_fit top (Some ns) (Some s) same few =
    let parts = and_parts (nat_le 1 (length top.leaves)) (nat_le (length top.leaves) TOP_LEAVES_MAX) few in
    let low : 1 ≤ length top.leaves = leb-true 1 (length top.leaves) parts.0 in
    let high : length top.leaves ≤ TOP_LEAVES_MAX = leb-true (length top.leaves) TOP_LEAVES_MAX parts.1 in
    let len = numbers_length top.leaves ns same in
    (omega (arith, low, len), omega (arith, high, len))

fault_line_fits : {X : Type 0} (o : Option X) (f : X → ScriptLine) → ((x : X) → HasFewLeaves (f x)) → IfSome (option_map f o) HasFewLeaves
fault_line_fits None f each = tt
fault_line_fits (Some x) f each = each x

pub line_fits : (shape : Shape) → HasFewWords shape → IfSome (line_of shape) HasFewLeaves
line_fits (FailmodeShape mode) few = tt
line_fits (TopShape top) few = leaves_fit top (numbers top.leaves) (sector_number top.sector) refl few
line_fits (FaultShape row) few = fault_line_fits (row_of row) FaultLine (λ x. tt)
line_fits (RequestShape n work tail) few = fault_line_fits (new_request_of n work tail) RequestLine (λ x. tt)
line_fits GoShape few = tt
line_fits ClearShape few = tt

-- ---- leaves that stand before

or_false : (a b : Bool) → (a || b) ≡ false → (a ≡ false) × (b ≡ false)
or_false true b h = absurd (let differ : true ≡ false = h in cc)
or_false false b h = (refl, h)

not_among : (leaves : List ℕ) (leaf : ℕ) → is_among leaves leaf ≡ false → AllByRecursion (λ n. n ≢ leaf) leaves
not_among [] leaf none = tt
not_among (n ∷ leaves) leaf none =
    let parts = or_false (n == leaf) (is_among leaves leaf) none in
    (eqb-false n leaf parts.0, not_among leaves leaf parts.1)

-- the leaves are none of those before, and no two of them are the same
pub new_leaves : (before leaves : List ℕ) → repeats_leaf before leaves ≡ false
    → AllByRecursion (λ l. AllByRecursion (λ n. n ≢ l) before) leaves × AllDiffer leaves
new_leaves before [] none = (tt, tt)
new_leaves before (leaf ∷ leaves) none =
    let parts = or_false (is_among before leaf) (repeats_leaf (leaf ∷ before) leaves) none in
    let rest = new_leaves (leaf ∷ before) leaves parts.1 in (
      (
        not_among before leaf parts.0,
        all_weaker (λ l. AllByRecursion (λ n. n ≢ l) (leaf ∷ before)) (λ l. AllByRecursion (λ n. n ≢ l) before) leaves (λ l all. all.1) rest.0,
      ),
      (
        all_weaker (λ l. AllByRecursion (λ n. n ≢ l) (leaf ∷ before)) (λ l. leaf ≢ l) leaves (λ l all. all.0) rest.0,
        rest.1,
      ),
    )

-- leaves that differ, and others that differ from them and from one another
pub differ_all : (before leaves : List ℕ) → AllDiffer before → AllByRecursion (λ l. AllByRecursion (λ n. n ≢ l) before) leaves → AllDiffer leaves
    → AllDiffer (before ++ leaves)
differ_all [] leaves old new rest = rest
differ_all (n ∷ before) leaves old new rest = (
  all_append (λ l. n ≢ l) before leaves old.0 (all_weaker (λ l. AllByRecursion (λ m. m ≢ l) (n ∷ before)) (λ l. n ≢ l) leaves (λ l all. all.0) new),
  differ_all before leaves old.1 (all_weaker (λ l. AllByRecursion (λ m. m ≢ l) (n ∷ before)) (λ l. AllByRecursion (λ m. m ≢ l) before) leaves (λ l all. all.1) new) rest,
)

-- each is in range
pub in_range : (leaves : List ℕ) → list_all is_leaf leaves ≡ true → AllByRecursion (λ leaf. leaf ≤ LEAF_MAX) leaves
in_range [] all = tt
in_range (leaf ∷ leaves) all =
    let parts = and_parts (is_leaf leaf) (list_all is_leaf leaves) all in
    let within = and_parts (nat_le 0 leaf) (nat_le leaf LEAF_MAX) parts.0 in
    (leb-true leaf LEAF_MAX within.1, in_range leaves parts.1)
