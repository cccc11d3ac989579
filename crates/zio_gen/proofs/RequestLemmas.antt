-- No why applies to a request that a generated line makes, in a batch of such requests on earlier blocks.
use Rattle.std.proofs.Common.{◌≡◌, ◌<◌, ◌≤◌, ◌+◌, ◌*◌, ◌^◌, ℕ, List, [], ◌∷◌, ◌++◌, length, map, fold, refl, Bool, true, false, ◌&&◌, nat_lt, nat_le, Option, Some, None, arith}
use Rattle.std.specs.Prelude.{bytes_eq, decimal, sum}
use Rattle.std.specs.List.{AllByRecursion, list_any}
use Rattle.std.proofs.lemmas.Bool.{and_right, false_from_ne_true, le-leb, le-ltb, lt-leb, or_from}
use Rattle.std.proofs.lemmas.Fmt.{decimal_injective}
use Rattle.std.proofs.lemmas.List.{length-append, length-map}
use Rattle.std.proofs.lemmas.Slice.Eq.{bytes_eq-Decides}
use Rattle.zio_blkptr.specs.declared.pointer.TheConstants.{BLOCK_SIZE_MAX}
use Rattle.zio_script.specs.declared.limits.TheConstants.{BATCH_LEN_MAX, BATCH_SIZE_MAX, NUMBER_MAX}
use Rattle.zio_script.specs.declared.script.Request.{Request}
use Rattle.zio_script.specs.declared.script.Script.{Script}
use Rattle.zio_script.specs.declared.script.Work.{Work}
use Rattle.zio_script.specs.declared.why.Why.TheVariants.{Limit, Order, Name, Conflict, Flag, Parent}
use Rattle.zio_script.specs.Requests.{is_under, kind_of, name_of}
use Rattle.zio_script.specs.Whys.{are_too_large, breaks_limit, clashes, falls_back, fits_work, if_so, is_claim, is_misnamed, is_taken, is_write, least_why, may_fail, request_whys, shares_with_claim, size_with, sizes_with, tells_reads_apart, writes_under}
use Rattle.zio_script.specs.Words.{is_empty}
use Rattle.zio_script.proofs.AcceptedLemmas.{all_as}
use Rattle.zio_script.proofs.ListLemmas.{all_more, any_none, counts_none}
use Rattle.zio_gen.proofs.NumeralLemmas.{name_of_block, named}
use Rattle.zio_gen.proofs.ShapeLemmas.{root_asked}

-- work on the block of this number, of at most 16 KiB, and no claim
pub record IsModest (block : ℕ) (work : Work) : Type 0 where
  pub named : name_of work ≡ Some (name_of_block block)
  pub other : is_claim (kind_of work) ≡ false
  pub fits : fits_work work ≡ true
  pub size : size_with 0 work ≤ 16384

-- a request under no other, on a block before this one
pub record IsEarlier (block : ℕ) (r : Request) : Type 0 where
  pub own : ℕ
  pub below : own < block
  pub modest : IsModest own r.work
  pub root : r.under ≡ None

-- the request that such a line makes
abbrev pub root_made : ℕ → Work → Option Bool → Request
root_made n work flag = record { number = n; work = work; under = None; canfail = may_fail flag None (kind_of work) }

earlier_one : (block : ℕ) (r : Request) → IsEarlier block r → IsEarlier (block + 1) r
earlier_one block r is =
    let below : is.own < block = is.below in
    record { own = is.own; below = omega arith; modest = is.modest; root = is.root }

pub earlier_more : (block n : ℕ) (work : Work) (flag : Option Bool) (batch : List Request) → AllByRecursion (IsEarlier block) batch → IsModest block work
    → AllByRecursion (IsEarlier (block + 1)) (batch ++ root_made n work flag ∷ [])
earlier_more block n work flag batch all modest =
    all_more (IsEarlier (block + 1)) batch (root_made n work flag)
    (all_as (IsEarlier block) (IsEarlier (block + 1)) batch (earlier_one block) all)
    (record { own = block; below = omega arith; modest = modest; root = refl })

-- ---- sizes

abbrev CountsNot : ℕ → Request → Type 0
CountsNot n r = (is_under r n && is_write (kind_of r.work)) ≡ false

counts_not : (n block : ℕ) (r : Request) → IsEarlier block r → CountsNot n r
counts_not n block r is = rw is.root refl

no_writes_under : (n block : ℕ) (batch : List Request) → AllByRecursion (IsEarlier block) batch → writes_under batch n ≡ 0
no_writes_under n block batch all =
    counts_none (λ (r : Request). is_under r n && is_write (kind_of r.work)) 0 batch (all_as (IsEarlier block) (CountsNot n) batch (counts_not n block) all)

low_sizes : (children : ℕ → ℕ) → ((n : ℕ) → children n ≡ 0) → (block : ℕ) (batch : List Request) → AllByRecursion (IsEarlier block) batch
    → AllByRecursion (λ n. n ≤ 16384) (map (λ (q : Request). size_with (children q.number) q.work) batch)
low_sizes children none block [] all = tt
low_sizes children none block (r ∷ batch) all = (rw (none r.number) all.0.modest.size, low_sizes children none block batch all.1)

sum_low : (n : ℕ) (xs : List ℕ) → AllByRecursion (λ x. x ≤ 16384) xs → fold (λ a x. a + x) n xs ≤ n + 16384 * length xs
sum_low n [] all = omega arith
sum_low n (x ∷ xs) all =
    let here : x ≤ 16384 = all.0 in
    let more : fold (λ a y. a + y) (n + x) xs ≤ n + x + 16384 * length xs = sum_low (n + x) xs all.1 in
    omega arith

none_above : (xs : List ℕ) → AllByRecursion (λ x. x ≤ 16384) xs → list_any (nat_lt BLOCK_SIZE_MAX) xs ≡ false
none_above [] all = refl
none_above (x ∷ xs) all =
    let here : x ≤ 16384 = all.0 in
    let not_here : nat_lt BLOCK_SIZE_MAX x ≡ false = le-ltb BLOCK_SIZE_MAX x (omega arith) in
    rw not_here (none_above xs all.1)

few_low : (xs : List ℕ) → AllByRecursion (λ x. x ≤ 16384) xs → length xs ≤ 1024 → are_too_large xs ≡ false
few_low xs all few =
    let total : sum xs ≤ 0 + 16384 * length xs = sum_low 0 xs all in
    or_from (list_any (nat_lt BLOCK_SIZE_MAX) xs) (nat_lt BATCH_SIZE_MAX (sum xs)) (none_above xs all) (le-ltb BATCH_SIZE_MAX (sum xs) (omega arith))

fit_together : (block n : ℕ) (work : Work) (flag : Option Bool) (batch : List Request) → AllByRecursion (IsEarlier block) batch → IsModest block work
    → length batch < 1024 → are_too_large (sizes_with batch (root_made n work flag)) ≡ false
fit_together block n work flag batch all modest few =
    let r = root_made n work flag in
    let whole : AllByRecursion (IsEarlier (block + 1)) (batch ++ r ∷ []) = earlier_more block n work flag batch all modest in
    let sizes = map (λ (q : Request). size_with (writes_under (batch ++ r ∷ []) q.number) q.work) batch in
    let low : AllByRecursion (λ n. n ≤ 16384) sizes = low_sizes (writes_under (batch ++ r ∷ [])) (λ k. no_writes_under k (block + 1) (batch ++ r ∷ []) whole) block batch all in
    let len : length (sizes ++ size_with 0 work ∷ []) ≤ 1024 = simp (length-append, length-map) (omega arith) in
    few_low (sizes ++ size_with 0 work ∷ []) (all_more (λ n. n ≤ 16384) sizes (size_with 0 work) low modest.size) len

-- ---- each why

limit_none : (block n : ℕ) (work : Work) (flag : Option Bool) (batch : List Request) → AllByRecursion (IsEarlier block) batch → IsModest block work
    → length batch < 1024 → 1 ≤ n → n ≤ 65535 → breaks_limit batch (root_asked n work flag) ≡ false
limit_none block n work flag batch all modest few low high =
    let full : nat_le BATCH_LEN_MAX (length batch) ≡ false = lt-leb BATCH_LEN_MAX (length batch) few in
    rw (le-leb 1 n low, le-leb n NUMBER_MAX high, modest.fits, full, fit_together block n work flag batch all modest few) refl

misnamed_none : (block : ℕ) (work : Work) → IsModest block work → block < 10 ^ 5 → is_misnamed (name_of work) ≡ false
misnamed_none block work modest few = rw (modest.named, named block few) refl

tails : (x y : ℕ) (xs ys : List ℕ) → ◌≡◌ {A = List ℕ} (x ∷ xs) (y ∷ ys) → xs ≡ ys
tails x y xs ys same = cc

same_block : (own block : ℕ) → own < block → block < 10 ^ 5 → name_of_block block ≡ name_of_block own → ⊥
same_block own block below few same =
    let is : block ≡ own = decimal_injective block own (omega arith) (omega arith) (tails 98 98 (decimal block) (decimal own) same) in
    omega arith

other_name : (own block : ℕ) → own < block → block < 10 ^ 5 → bytes_eq (name_of_block block) (name_of_block own) ≡ false
other_name own block below few =
    false_from_ne_true (bytes_eq (name_of_block block) (name_of_block own))
    (λ is. same_block own block below few ((bytes_eq-Decides (name_of_block block) (name_of_block own)).0 is))

clash_none : (apart : Bool) (block : ℕ) (work : Work) (r : Request) → IsModest block work → block < 10 ^ 5 → IsEarlier block r → clashes apart work r.work ≡ false
clash_none apart block work r modest few is = rw (modest.named, is.modest.named, other_name is.own block is.below few) refl

taken_none : (script : Script) (block : ℕ) (work : Work) (batch : List Request) → AllByRecursion (IsEarlier block) batch → IsModest block work → block < 10 ^ 5
    → is_taken script batch work ≡ false
taken_none script block work batch all modest few =
    any_none (λ (r : Request). clashes (tells_reads_apart script) work r.work) batch
    (all_as (IsEarlier block) (λ (r : Request). clashes (tells_reads_apart script) work r.work ≡ false) batch
    (λ r is. clash_none (tells_reads_apart script) block work r modest few is) all)

claim_none : (block : ℕ) (work : Work) (batch : List Request) → AllByRecursion (IsEarlier block) batch → IsModest block work
    → shares_with_claim batch (kind_of work) ≡ false
claim_none block work batch all modest =
    let others : list_any (λ (r : Request). is_claim (kind_of r.work)) batch ≡ false =
    any_none (λ (r : Request). is_claim (kind_of r.work)) batch
    (all_as (IsEarlier block) (λ (r : Request). is_claim (kind_of r.work) ≡ false) batch (λ r is. is.modest.other) all) in
    rw (modest.other, others) refl

-- ---- all of them

none_of_six : (a b c d e f : Bool) → a ≡ false → b ≡ false → c ≡ false → d ≡ false → e ≡ false → f ≡ false
    → least_why (if_so Limit a ∷ if_so Order b ∷ if_so Name c ∷ if_so Conflict d ∷ if_so Flag e ∷ if_so Parent f ∷ []) ≡ None
none_of_six a b c d e f no_a no_b no_c no_d no_e no_f = rw (no_a, no_b, no_c, no_d, no_e, no_f) refl

pub no_request_why : (script : Script) (block n : ℕ) (work : Work) (flag : Option Bool) (batch : List Request) → AllByRecursion (IsEarlier block) batch → IsModest block work
    → length batch < 1024 → 1 ≤ n → n ≤ 65535 → block < 10 ^ 5 → is_empty script.tops ≡ false → falls_back script n ≡ false
    → least_why (request_whys script batch (root_asked n work flag)) ≡ None
no_request_why script block n work flag batch all modest few low high named_low tops above =
    none_of_six _ _ _ _ _ _
    (limit_none block n work flag batch all modest few low high)
    (or_from (is_empty script.tops) (falls_back script n) tops above)
    (misnamed_none block work modest named_low)
    (taken_none script block work batch all modest named_low)
    (and_right _ false refl)
    (claim_none block work batch all modest)
