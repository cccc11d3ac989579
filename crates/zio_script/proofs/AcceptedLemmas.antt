-- What is kept by each line that has no fault, and so holds of every script that is accepted.
use Rattle.std.proofs.Common.{◌≡◌, ◌≤◌, ◌<◌, ◌+◌, ℕ, List, [], ◌∷◌, ◌++◌, length, map, fold, refl, sym, ap, ◌∙◌, subst, Bool, true, false, not, cond, ◌||◌, ◌&&◌, ◌==◌, nat_lt, nat_le, Option, Some, None, Result, Ok, Err, arith}
use Rattle.std.proofs.lemmas.Bool.{eqb-true, leb-false, ltb-false, ne_eqb, not-false}
use Rattle.std.proofs.lemmas.List.{append-nil, append_assoc, length-append, map-append}
use Rattle.std.proofs.lemmas.List.Folds.{list_any-append}
use Rattle.std.proofs.lemmas.List.Sums.{fold-append}
use Rattle.std.specs.Prelude.{find, is_some, sum}
use Rattle.std.specs.List.{AllByRecursion, list_any}
use Rattle.zio_types.specs.declared.request.Kind.{Kind}
use Rattle.zio_blkptr.specs.declared.pointer.TheConstants.{BLOCK_SIZE_MAX}
use Rattle.zio_script.specs.declared.limits.TheConstants.{BATCH_LEN_MAX, BATCH_SIZE_MAX, CHILDREN_MAX, DEPTH_MAX}
use Rattle.zio_script.specs.declared.read.TheConstants.{SCRIPT_LEN_MAX}
use Rattle.zio_script.specs.declared.script.Item.{Item}
use Rattle.zio_script.specs.declared.script.Item.TheVariants.{Request as RequestItem, Go, Clear}
use Rattle.zio_script.specs.declared.script.Request.{Request}
use Rattle.zio_script.specs.declared.script.Script.{Script}
use Rattle.zio_script.specs.declared.why.Why.{Why}
use Rattle.zio_script.specs.declared.why.Why.TheVariants.{Limit, Order, Name, Conflict, Flag, Parent, Pool}
use Rattle.zio_script.specs.Accepted.{AreBehindParents, AreOrderly, AreRising, HasParentIn, IsChildOf, IsInRange, IsOrderlyBatch, IsOrderlyScript, NameApart, batches_from, batches_of, sizes_in}
use Rattle.zio_script.specs.Grammar.{IsScriptOf, after_line, after_shape, after_words, ended, read_lines, read_on, read_short, script_with, unless_skipped, unless_why}
use Rattle.zio_script.specs.Lines.{NewRequest, ScriptLine, FailmodeLine, LeavesLine, FaultLine, RequestLine, GoLine, ClearLine, Shape, line_of, shape_of}
use Rattle.zio_script.specs.Requests.{is_under, is_under_number, kind_of, name_of, requests_of}
use Rattle.zio_script.specs.Whys.{Before, are_too_large, batch_after, breaks_limit, children_in, clashes, depth_under, falls_back, fits_asked, fits_work, has_bad_parent, if_so, is_claim, is_misnamed, is_number, is_number_if, is_write, least_why, may_have, nothing_before, open_batch, parent_in, refuses_child, request_in, shares_with_claim, size_with, sizes_with, tells_reads_apart, whys_of, writes_under}
use Rattle.zio_script.specs.Words.{Word, is_empty, is_skipped, lines_of, words_of}
use Rattle.zio_script.proofs.ListLemmas.{all_more, counts_none, none_passes, or_left_false, or_right_false, requests-append, three_false}

-- ---- the whys of a request

-- none of a request's whys applies
record NoneApplies (a b c d e f : Bool) : Type 0 where
  limit : a ≡ false
  order : b ≡ false
  name : c ≡ false
  conflict : d ≡ false
  parent : f ≡ false

none_of_six : (a b c d e f : Bool) → least_why (if_so Limit a ∷ if_so Order b ∷ if_so Name c ∷ if_so Conflict d ∷ if_so Flag e ∷ if_so Parent f ∷ []) ≡ None
    → NoneApplies a b c d e f
none_of_six true b c d e f none = let no : ⊥ = cc in absurd no
none_of_six false true c d e f none = let no : ⊥ = cc in absurd no
none_of_six false false true d e f none = let no : ⊥ = cc in absurd no
none_of_six false false false true e f none = let no : ⊥ = cc in absurd no
none_of_six false false false false true f none = let no : ⊥ = cc in absurd no
none_of_six false false false false false true none = let no : ⊥ = cc in absurd no
none_of_six false false false false false false none = record { limit = refl; order = refl; name = refl; conflict = refl; parent = refl }

-- ---- numbers

pub all_as : {X : Type 0} (P Q : X → Type 0) (xs : List X) → ((x : X) → P x → Q x) → AllByRecursion P xs → AllByRecursion Q xs
all_as P Q [] each all = tt
all_as P Q (x ∷ xs) each all = (each x all.0, all_as P Q xs each all.1)

-- every request before has a lower number
pub lower : (rs : List Request) (n : ℕ) → list_any (λ (r : Request). nat_le n r.number) rs ≡ false → AllByRecursion (λ (r : Request). r.number < n) rs
lower rs n none =
    all_as (λ (r : Request). nat_le n r.number ≡ false) (λ (r : Request). r.number < n) rs (λ (r : Request). leb-false n r.number)
    (none_passes (λ (r : Request). nat_le n r.number) rs none)

pub rising_more : (rs : List Request) (r : Request) → AreRising rs → AllByRecursion (λ (q : Request). q.number < r.number) rs → AreRising (rs ++ r ∷ [])
rising_more [] r rising all = (tt, tt)
rising_more (q ∷ rs) r rising all =
    (all_more (λ (p : Request). q.number < p.number) rs r rising.0 all.0, rising_more rs r rising.1 all.1)

-- a test that no request of the lines passes, none of the open batch passes
pub open_passes : (test : Request → Bool) (batch : List Request) (items : List Item) → list_any test batch ≡ false → list_any test (requests_of items) ≡ false
    → list_any test (fold batch_after batch items) ≡ false
open_passes test batch [] none others = none
open_passes test batch (RequestItem r ∷ items) none others =
    let here : test r ≡ false = or_left_false (test r) (list_any test (requests_of items)) others in
    open_passes test (batch ++ r ∷ []) items (rw (list_any-append, none, here) refl) (or_right_false (test r) (list_any test (requests_of items)) others)
open_passes test batch (Go ∷ items) none others = open_passes test [] items refl others
open_passes test batch (Clear ∷ items) none others = open_passes test batch items none others

-- ---- parents

any_some : {X : Type 0} (is any : Bool) (x : X) (found : Option X) → any ≡ is_some found → (is || any) ≡ is_some (cond is (Some x) found)
any_some true any x found same = refl
any_some false any x found same = same

pub any_found : (test : Request → Bool) (rs : List Request) → list_any test rs ≡ is_some (find test rs)
any_found test [] = refl
any_found test (r ∷ rs) = any_some (test r) (list_any test rs) r (find test rs) (any_found test rs)

child_of : (batch : List Request) (child : Kind) (p : ℕ) (found : Option Request) → parent_in batch (Some p) ≡ found → refuses_child batch child found ≡ false
    → nat_lt DEPTH_MAX (depth_under batch (Some p)) ≡ false → IsChildOf batch child p
child_of batch child p None found refused deep = let no : ⊥ = cc in absurd no
child_of batch child p (Some parent) found refused deep =
    let may = not (may_have (kind_of parent.work) child) in
    let full = nat_le CHILDREN_MAX (children_in batch parent.number) in
    record {
      parent = parent;
      found = found;
      may = not-false (may_have (kind_of parent.work) child) (or_left_false may full refused);
      room = leb-false CHILDREN_MAX (children_in batch parent.number) (or_right_false may full refused);
      depth = ltb-false DEPTH_MAX (depth_under batch (Some p)) deep;
    }

pub parent_there : (batch : List Request) (child : Kind) (under : Option ℕ) → has_bad_parent batch child under ≡ false → HasParentIn batch child under
parent_there batch child None good = tt
parent_there batch child (Some p) good =
    let refused = refuses_child batch child (parent_in batch (Some p)) in
    let deep = nat_lt DEPTH_MAX (depth_under batch (Some p)) in
    child_of batch child p (parent_in batch (Some p)) refl (or_left_false refused deep good) (or_right_false refused deep good)

behind_more : (before batch : List Request) (r : Request) → AreBehindParents before batch → HasParentIn (before ++ batch) (kind_of r.work) r.under
    → AreBehindParents before (batch ++ r ∷ [])
behind_more before [] r behind there = (subst (λ (rs : List Request). HasParentIn rs (kind_of r.work) r.under) (append-nil before) there, tt)
behind_more before (q ∷ batch) r behind there =
    (behind.0, behind_more (before ++ q ∷ []) batch r behind.1 (subst (λ (rs : List Request). HasParentIn rs (kind_of r.work) r.under) (sym (append_assoc before (q ∷ []) batch)) there))

-- ---- no request stands under a later one

below_by : (is : Bool) (number p n : ℕ) (others : Bool) → (number == p) ≡ is → (is || others) ≡ true → number < n → (others ≡ true → p < n) → p < n
below_by true number p n others same there low rest = let e : number ≡ p = eqb-true number p same in omega arith
below_by false number p n others same there low rest = rest there

any_below : (rs : List Request) (p n : ℕ) → list_any (λ (q : Request). q.number == p) rs ≡ true → AllByRecursion (λ (q : Request). q.number < n) rs → p < n
any_below [] p n there all = let no : ⊥ = cc in absurd no
any_below (q ∷ rs) p n there all =
    below_by (q.number == p) q.number p n (list_any (λ (r : Request). r.number == p) rs) refl there all.0 (λ more. any_below rs p n more all.1)

pub not_under : (kind : Kind) (under : Option ℕ) (before : List Request) (n : ℕ) → HasParentIn before kind under → AllByRecursion (λ (q : Request). q.number < n) before
    → is_under_number under n ≡ false
not_under kind None before n there low = refl
not_under kind (Some p) before n there low =
    let below : p < n = any_below before p n (any_found (λ (q : Request). q.number == p) before ∙ ap is_some there.found) low in
    ne_eqb p n (omega arith)

-- the request counts for no parent of this number
abbrev CountsNot : ℕ → Request → Type 0
CountsNot n q = (is_under q n && is_write (kind_of q.work)) ≡ false

counts_not : (q : Request) (before : List Request) (n : ℕ) → HasParentIn before (kind_of q.work) q.under → AllByRecursion (λ (r : Request). r.number < n) before → CountsNot n q
counts_not q before n there low = rw (not_under (kind_of q.work) q.under before n there low) refl

none_under : (before batch : List Request) (n : ℕ) → AreBehindParents before batch → AllByRecursion (λ (q : Request). q.number < n) before
    → AllByRecursion (λ (q : Request). q.number < n) batch → AllByRecursion (CountsNot n) batch
none_under before [] n behind low lows = tt
none_under before (q ∷ batch) n behind low lows =
    (counts_not q before n behind.0 low, none_under (before ++ q ∷ []) batch n behind.1 (all_more (λ (r : Request). r.number < n) before q low lows.0) lows.1)

pub no_child_yet : (batch : List Request) (r : Request) → AreBehindParents [] batch → HasParentIn batch (kind_of r.work) r.under
    → AllByRecursion (λ (q : Request). q.number < r.number) batch → writes_under (batch ++ r ∷ []) r.number ≡ 0
no_child_yet batch r behind there low =
    counts_none (λ (q : Request). is_under q r.number && is_write (kind_of q.work)) 0 (batch ++ r ∷ [])
    (all_more (CountsNot r.number) batch r (none_under [] batch r.number behind tt low) (counts_not r batch r.number there low))

-- the sizes that are tested are those of the batch
pub sizes_same : (batch : List Request) (r : Request) → writes_under (batch ++ r ∷ []) r.number ≡ 0 → sizes_in (batch ++ r ∷ []) ≡ sizes_with batch r
sizes_same batch r none =
    map-append (λ (q : Request). size_with (writes_under (batch ++ r ∷ []) q.number) q.work) batch (r ∷ [])
    ∙ ap (λ (n : ℕ). map (λ (q : Request). size_with (writes_under (batch ++ r ∷ []) q.number) q.work) batch ++ size_with n r.work ∷ []) none

-- ---- a batch

pub empty_orderly : (apart : Bool) → IsOrderlyBatch apart []
empty_orderly apart = record {
  ranges = tt;
  names = tt;
  most = omega arith;
  parents = tt;
  claim = λ there. let no : ⊥ = cc in absurd no;
  sizes = tt;
  total = omega arith;
}

alone_by : (batch : List Request) (one others : Bool) → (one && not (is_empty batch) || others) ≡ false → (others || (one || false)) ≡ true → length batch ≡ 0
alone_by [] one others shares there = refl
alone_by (r ∷ batch) true others shares there = let no : ⊥ = cc in absurd no
alone_by (r ∷ batch) false false shares there = let no : ⊥ = cc in absurd no
alone_by (r ∷ batch) false true shares there = let no : ⊥ = cc in absurd no

claim_more : (batch : List Request) (r : Request) → shares_with_claim batch (kind_of r.work) ≡ false
    → list_any (λ (q : Request). is_claim (kind_of q.work)) (batch ++ r ∷ []) ≡ true → length (batch ++ r ∷ []) ≡ 1
claim_more batch r shares there =
    let none : length batch ≡ 0 = alone_by batch (is_claim (kind_of r.work)) (list_any (λ (q : Request). is_claim (kind_of q.work)) batch) shares
    (sym (list_any-append (λ (q : Request). is_claim (kind_of q.work)) batch (r ∷ [])) ∙ there) in
    simp length-append (omega arith)

pub low_sizes : (sizes : List ℕ) → are_too_large sizes ≡ false → (AllByRecursion (λ n. n ≤ BLOCK_SIZE_MAX) sizes) × (sum sizes ≤ BATCH_SIZE_MAX)
low_sizes sizes fits = (
  all_as (λ n. nat_lt BLOCK_SIZE_MAX n ≡ false) (λ n. n ≤ BLOCK_SIZE_MAX) sizes (ltb-false BLOCK_SIZE_MAX)
      (none_passes (nat_lt BLOCK_SIZE_MAX) sizes (or_left_false (list_any (nat_lt BLOCK_SIZE_MAX) sizes) (nat_lt BATCH_SIZE_MAX (sum sizes)) fits)),
  ltb-false BATCH_SIZE_MAX (sum sizes) (or_right_false (list_any (nat_lt BLOCK_SIZE_MAX) sizes) (nat_lt BATCH_SIZE_MAX (sum sizes)) fits),
)

-- the new request names its block apart from those before it
apart_more : (apart : Bool) (batch : List Request) (r : Request) → NameApart apart batch → AllByRecursion (λ (q : Request). clashes apart r.work q.work ≡ false) batch
    → NameApart apart (batch ++ r ∷ [])
apart_more apart [] r names all = (tt, tt)
apart_more apart (q ∷ batch) r names all =
    (all_more (λ (p : Request). clashes apart p.work q.work ≡ false) batch r names.0 all.0, apart_more apart batch r names.1 all.1)

fits_parts : (number under work : Bool) → not (number && under && work) ≡ false → (number ≡ true) × (work ≡ true)
fits_parts true true true fits = (refl, refl)
fits_parts true true false fits = let no : ⊥ = cc in absurd no
fits_parts true false work fits = let no : ⊥ = cc in absurd no
fits_parts false under work fits = let no : ⊥ = cc in absurd no

in_range : (batch : List Request) (asked : NewRequest) → not (fits_asked asked) ≡ false → is_misnamed (name_of asked.work) ≡ false → IsInRange (request_in batch asked)
in_range batch asked fits named =
    let parts = fits_parts (is_number asked.number) (is_number_if asked.under) (fits_work asked.work) fits in
    record { number = parts.0; work = parts.1; name = named }

batch_more : (apart : Bool) (batch : List Request) (asked : NewRequest) → IsOrderlyBatch apart batch → AllByRecursion (λ (q : Request). q.number < asked.number) batch
    → breaks_limit batch asked ≡ false → is_misnamed (name_of asked.work) ≡ false → list_any (λ (q : Request). clashes apart asked.work q.work) batch ≡ false → has_bad_parent batch (kind_of asked.work) asked.under ≡ false → shares_with_claim batch (kind_of asked.work) ≡ false
    → IsOrderlyBatch apart (batch ++ request_in batch asked ∷ [])
batch_more apart batch asked orderly low within named free good alone =
    let r = request_in batch asked in
    let parts = three_false (not (fits_asked asked)) (nat_le BATCH_LEN_MAX (length batch)) (are_too_large (sizes_with batch r)) within in
    let room : length batch < BATCH_LEN_MAX = leb-false BATCH_LEN_MAX (length batch) parts.1.0 in
    let there : HasParentIn batch (kind_of r.work) r.under = parent_there batch (kind_of asked.work) asked.under good in
    let same : sizes_in (batch ++ r ∷ []) ≡ sizes_with batch r = sizes_same batch r (no_child_yet batch r orderly.parents there low) in
    let sizes = low_sizes (sizes_with batch r) parts.1.1 in
    record {
      ranges = all_more IsInRange batch r orderly.ranges (in_range batch asked parts.0 named);
      names = apart_more apart batch r orderly.names (none_passes (λ (q : Request). clashes apart asked.work q.work) batch free);
      most = simp length-append (omega arith);
      parents = behind_more [] batch r orderly.parents there;
      claim = claim_more batch r alone;
      sizes = rw same sizes.0;
      total = rw same sizes.1;
    }

-- ---- the lines

batches-append_request : (batch : List Request) (items : List Item) (r : Request) → batches_from batch (items ++ RequestItem r ∷ []) ≡ batches_from batch items
batches-append_request batch [] r = refl
batches-append_request batch (RequestItem q ∷ items) r = batches-append_request (batch ++ q ∷ []) items r
batches-append_request batch (Go ∷ items) r = ap (λ (bs : List (List Request)). batch ∷ bs) (batches-append_request [] items r)
batches-append_request batch (Clear ∷ items) r = batches-append_request batch items r

batches-append_clear : (batch : List Request) (items : List Item) → batches_from batch (items ++ Clear ∷ []) ≡ batches_from batch items
batches-append_clear batch [] = refl
batches-append_clear batch (RequestItem q ∷ items) = batches-append_clear (batch ++ q ∷ []) items
batches-append_clear batch (Go ∷ items) = ap (λ (bs : List (List Request)). batch ∷ bs) (batches-append_clear [] items)
batches-append_clear batch (Clear ∷ items) = batches-append_clear batch items

batches-append_go : (batch : List Request) (items : List Item)
    → batches_from batch (items ++ Go ∷ []) ≡ batches_from batch items ++ fold batch_after batch items ∷ []
batches-append_go batch [] = refl
batches-append_go batch (RequestItem q ∷ items) = batches-append_go (batch ++ q ∷ []) items
batches-append_go batch (Go ∷ items) = ap (λ (bs : List (List Request)). batch ∷ bs) (batches-append_go [] items)
batches-append_go batch (Clear ∷ items) = batches-append_go batch items

pub request_orderly : (script : Script) (asked : NewRequest) → IsOrderlyScript script → least_why (whys_of (record { begun = true; script = script }) (RequestLine asked)) ≡ None
    → AreOrderly (tells_reads_apart script) (script.items ++ RequestItem (request_in (open_batch script) asked) ∷ [])
request_orderly script asked orderly none =
    let r = request_in (open_batch script) asked in
    let whys = none_of_six _ _ _ _ _ _ none in
    let falls : falls_back script asked.number ≡ false = or_right_false (is_empty script.tops) (falls_back script asked.number) whys.order in
    let bad = has_bad_parent (open_batch script) (kind_of asked.work) asked.under in
    let shares = shares_with_claim (open_batch script) (kind_of asked.work) in
    let opened : list_any (λ (q : Request). nat_le asked.number q.number) (open_batch script) ≡ false
    = open_passes (λ (q : Request). nat_le asked.number q.number) [] script.items refl falls in
    let batch : IsOrderlyBatch (tells_reads_apart script) (open_batch script ++ r ∷ [])
    = batch_more (tells_reads_apart script) (open_batch script) asked orderly.last (lower (open_batch script) asked.number opened) whys.limit whys.name whys.conflict (or_left_false bad shares whys.parent) (or_right_false bad shares whys.parent) in
    record {
      rising = rw (requests-append script.items (RequestItem r ∷ [])) (rising_more (requests_of script.items) r orderly.rising (lower (requests_of script.items) asked.number falls));
      batches = rw (batches-append_request [] script.items r) orderly.batches;
      last = rw (fold-append batch_after [] script.items (RequestItem r ∷ [])) batch;
    }

pub go_orderly : (apart : Bool) (items : List Item) → AreOrderly apart items → AreOrderly apart (items ++ Go ∷ [])
go_orderly apart items orderly = record {
  rising = rw (requests-append items (Go ∷ []), append-nil (requests_of items)) orderly.rising;
  batches = rw (batches-append_go [] items) (all_more (IsOrderlyBatch apart) (batches_of items) (fold batch_after [] items) orderly.batches orderly.last);
  last = rw (fold-append batch_after [] items (Go ∷ [])) (empty_orderly apart);
}

pub clear_orderly : (apart : Bool) (items : List Item) → AreOrderly apart items → AreOrderly apart (items ++ Clear ∷ [])
clear_orderly apart items orderly = record {
  rising = rw (requests-append items (Clear ∷ []), append-nil (requests_of items)) orderly.rising;
  batches = rw (batches-append_clear [] items) orderly.batches;
  last = rw (fold-append batch_after [] items (Clear ∷ [])) orderly.last;
}

-- a `fault` stands before all requests
fault_alone : (a b c : Bool) → least_why (if_so Limit a ∷ if_so Order b ∷ if_so Pool c ∷ []) ≡ None → b ≡ false
fault_alone true b c none = let no : ⊥ = cc in absurd no
fault_alone false true c none = let no : ⊥ = cc in absurd no
fault_alone false false c none = refl

no_lines : (apart : Bool) (items : List Item) → not (is_empty items) ≡ false → AreOrderly apart items
no_lines apart [] none = record { rising = tt; batches = tt; last = empty_orderly apart }
no_lines apart (item ∷ items) none = let no : ⊥ = cc in absurd no

pub line_orderly : (before : Before) (line : ScriptLine) → IsOrderlyScript before.script → least_why (whys_of before line) ≡ None
    → IsOrderlyScript (script_with before.script line).script
line_orderly before (FailmodeLine mode) orderly none = orderly
line_orderly before (LeavesLine leaves sector) orderly none = orderly
line_orderly before (FaultLine row) orderly none =
    no_lines (tells_reads_apart (script_with before.script (FaultLine row)).script) before.script.items
    (or_right_false (is_empty before.script.tops) (not (is_empty before.script.items)) (fault_alone _ (is_empty before.script.tops || not (is_empty before.script.items)) _ none))
line_orderly before (RequestLine asked) orderly none = request_orderly before.script asked orderly none
line_orderly before GoLine orderly none = go_orderly (tells_reads_apart before.script) before.script.items orderly
line_orderly before ClearLine orderly none = clear_orderly (tells_reads_apart before.script) before.script.items orderly

-- ---- the text

no_why : (why : Option Why) (made next : Before) → unless_why why made ≡ Ok next → (why ≡ None) × (made ≡ next)
no_why None made next is = (refl, cc)
no_why (Some why) made next is = let no : ⊥ = cc in absurd no

after_line_orderly : (before next : Before) (line : Option ScriptLine) → IsOrderlyScript before.script → after_line before line ≡ Ok next → IsOrderlyScript next.script
after_line_orderly before next None orderly is = let no : ⊥ = cc in absurd no
after_line_orderly before next (Some line) orderly is =
    let parts = no_why (least_why (whys_of before line)) (script_with before.script line) next is in
    subst (λ (b : Before). IsOrderlyScript b.script) parts.1 (line_orderly before line orderly parts.0)

after_shape_orderly : (before next : Before) (shape : Option Shape) → IsOrderlyScript before.script → after_shape before shape ≡ Ok next → IsOrderlyScript next.script
after_shape_orderly before next None orderly is = let no : ⊥ = cc in absurd no
after_shape_orderly before next (Some shape) orderly is = after_line_orderly before next (line_of shape) orderly is

skipped_orderly : (skipped : Bool) (before next : Before) (words : List Word) → IsOrderlyScript before.script
    → unless_skipped skipped before (after_shape before (shape_of words)) ≡ Ok next → IsOrderlyScript next.script
skipped_orderly true before next words orderly is =
    let same : before ≡ next = cc in
    subst (λ (b : Before). IsOrderlyScript b.script) same orderly
skipped_orderly false before next words orderly is = after_shape_orderly before next (shape_of words) orderly is

-- what a text's end leaves
record IsWhole (script : Script) : Type 0 where
  orderly : IsOrderlyScript script
  ended : open_batch script ≡ []

nothing_open : (batch : List Request) → not (is_empty batch) ≡ false → batch ≡ []
nothing_open [] none = refl
nothing_open (r ∷ batch) none = let no : ⊥ = cc in absurd no

end_whole : (n : ℕ) (a b : Bool) (script made : Script) → ended n (least_why (if_so Order a ∷ if_so Pool b ∷ [])) script ≡ Ok made
    → (a ≡ false) × (script ≡ made)
end_whole n true b script made is = let no : ⊥ = cc in absurd no
end_whole n false true script made is = let no : ⊥ = cc in absurd no
end_whole n false false script made is = (refl, cc)

next_whole : (n : ℕ) (lines : List Word) (before : Before) (after : Result Before Why) (script : Script)
    → ((next : Before) → after ≡ Ok next → IsOrderlyScript next.script)
    → read_on n after (read_lines (n + 1) lines) ≡ Ok script
    → ((next : Before) → IsOrderlyScript next.script → read_lines (n + 1) lines next ≡ Ok script → IsWhole script) → IsWhole script
next_whole n lines before (Err why) script orderly is rest = let no : ⊥ = cc in absurd no
next_whole n lines before (Ok next) script orderly is rest = rest next (orderly next refl) is

end_read : (n : ℕ) (before : Before) (script : Script) → IsOrderlyScript before.script
    → read_lines n [] before ≡ Ok script → IsWhole script
unfolding read_lines
end_read n before script orderly is =
    let parts = end_whole n (not (is_empty (open_batch before.script))) (is_empty before.script.tops) before.script script is in
    subst IsWhole parts.1 (record { orderly = orderly; ended = nothing_open (open_batch before.script) parts.0 })

first_on : (n : ℕ) (line : Word) (lines : List Word) (before : Before) (script : Script)
    → read_lines n (line ∷ lines) before ≡ Ok script
    → read_on n (after_words before (words_of line)) (read_lines (n + 1) lines) ≡ Ok script
unfolding read_lines
first_on n line lines before script is = is

lines_whole : (n : ℕ) (lines : List Word) (before : Before) (script : Script) → IsOrderlyScript before.script
    → read_lines n lines before ≡ Ok script → IsWhole script
lines_whole n [] before script orderly is = end_read n before script orderly is
lines_whole n (line ∷ lines) before script orderly is =
    next_whole n lines before (after_words before (words_of line)) script
    (λ next. skipped_orderly (is_skipped (words_of line)) before next (words_of line) orderly)
    (first_on n line lines before script is)
    (λ next. λ whole. lines_whole (n + 1) lines next script whole)

short_whole : (short : Bool) (text : List ℕ) (script : Script) → read_short short text ≡ Ok script → IsWhole script
short_whole false text script is = let no : ⊥ = cc in absurd no
short_whole true text script is =
    lines_whole 1 (lines_of text) nothing_before script (record { rising = tt; batches = tt; last = empty_orderly false }) is

pub reading_orderly : (text : List ℕ) (script : Script) → IsScriptOf text script → IsOrderlyScript script
reading_orderly text script is = (short_whole (nat_le (length text) SCRIPT_LEN_MAX) text script is).orderly

pub reading_ended : (text : List ℕ) (script : Script) → IsScriptOf text script → open_batch script ≡ []
reading_ended text script is = (short_whole (nat_le (length text) SCRIPT_LEN_MAX) text script is).ended
