-- The sizes of a batch with one more request.
use Rattle.std.proofs.Common.{◌≡◌, ◌≤◌, ◌<◌, ◌+◌, ◌-◌, ◌*◌, ℕ, zero, suc, List, [], ◌∷◌, ◌++◌, length, map, fold, reverse, refl, sym, ap, ◌∙◌, subst, Bool, true, false, cond, ◌&&◌, ◌||◌, ◌==◌, nat_le, nat_lt, Option, Some, None, slice_index_or, slice_set, arith}
use Rattle.std.proofs.lemmas.Bool.{and_parts, ne_eqb, le-ltb, leb-true}
use Rattle.std.proofs.lemmas.Bool.Decides.{nat_tests}
use Rattle.std.proofs.lemmas.List.{length-map, length-reverse}
use Rattle.std.proofs.lemmas.List.Folds.{list_any-append}
use Rattle.std.proofs.lemmas.List.Sums.{fold-append}
use Rattle.std.specs.Prelude.{sum}
use Rattle.std.specs.List.{AllByRecursion, list_any}
use Rattle.zio_blkptr.specs.declared.pointer.TheConstants.{BLOCK_SIZE_MAX}
use Rattle.zio_script.specs.declared.limits.TheConstants.{BATCH_SIZE_MAX, POINTER_SIZE}
use Rattle.zio_script.specs.declared.open_batch.OpenBatch.{OpenBatch}
use Rattle.zio_script.specs.declared.open_batch.Stand.{Stand}
use Rattle.zio_script.specs.declared.open_batch.Stand.TheVariants.{Root, Under, Lost}
use Rattle.zio_script.specs.declared.script.Request.{Request}
use Rattle.zio_script.specs.declared.script.Work.{Work}
use Rattle.zio_script.specs.declared.script.Work.TheVariants.{Null, Read, Write, Free, Claim}
use Rattle.zio_script.specs.Accepted.{AreRising, IsInRange, IsOrderlyBatch, sizes_in}
use Rattle.zio_script.specs.OpenBatches.{IsBatch, IsParentAt, IsStand, IsStandWithin, mark_at, mark_in, no_mark, size_after, size_under, within, work_len}
use Rattle.zio_script.specs.Requests.{is_under, is_under_number, kind_of}
use Rattle.zio_script.specs.Whys.{are_too_large, body_len, children_in, fits_work, is_write, levels, rounded_up, size_with, sizes_with, writes_under}
use Rattle.zio_script.proofs.ListLemmas.{any_none}
use Rattle.zio_script.proofs.MarkLemmas.{count_more}
use Rattle.zio_script.proofs.OpenBatchLemmas.{all_at, index_map}
use Rattle.zio_script.proofs.StandLemmas.{found_number, none_of_number, under_lost, under_none}

-- ---- lists with one element changed

map_set : {X Y : Type 0} (f : X → Y) (xs : List X) (i : ℕ) (y : X) → map f (slice_set xs i y) ≡ slice_set (map f xs) i (f y)
map_set f [] i y = refl
map_set f (x ∷ xs) zero y = refl
map_set f (x ∷ xs) (suc i) y = ap (λ ys. f x ∷ ys) (map_set f xs i y)

fold_shift : (xs : List ℕ) (n k : ℕ) → fold (λ a x. a + x) (n + k) xs ≡ fold (λ a x. a + x) n xs + k
fold_shift [] n k = refl
fold_shift (x ∷ xs) n k =
    let moved : n + k + x ≡ n + x + k = omega arith in
    ap (λ (m : ℕ). fold (λ a y. a + y) m xs) moved ∙ fold_shift xs (n + x) k

fold_set : (xs : List ℕ) (i y n d : ℕ) → i < length xs
    → fold (λ a x. a + x) n (slice_set xs i y) + slice_index_or xs i d ≡ fold (λ a x. a + x) n xs + y
fold_set [] i y n d within = absurd (omega arith)
fold_set (x ∷ xs) zero y n d within =
    let new : fold (λ a z. a + z) (n + y) xs ≡ fold (λ a z. a + z) n xs + y = fold_shift xs n y in
    let old : fold (λ a z. a + z) (n + x) xs ≡ fold (λ a z. a + z) n xs + x = fold_shift xs n x in
    omega arith
fold_set (x ∷ xs) (suc i) y n d within = fold_set xs i y (n + x) d (omega arith)

sum_set : (xs : List ℕ) (i y d : ℕ) → i < length xs → sum (slice_set xs i y) + slice_index_or xs i d ≡ sum xs + y
sum_set xs i y d within = fold_set xs i y 0 d within

sum_has : (xs : List ℕ) (i d : ℕ) → i < length xs → slice_index_or xs i d ≤ sum xs
sum_has xs i d within = let parts : sum (slice_set xs i 0) + slice_index_or xs i d ≡ sum xs + 0 = sum_set xs i 0 d within in omega arith

sum_more : (xs : List ℕ) (n : ℕ) → sum (xs ++ n ∷ []) ≡ sum xs + n
sum_more xs n = fold-append (λ a x. a + x) 0 xs (n ∷ [])

or_same : (a : Bool) → (a || false) ≡ a
or_same false = refl
or_same true = refl

any_set : (test : ℕ → Bool) (xs : List ℕ) (i y : ℕ) → list_any test xs ≡ false → i < length xs → list_any test (slice_set xs i y) ≡ test y
any_set test [] i y none within = absurd (omega arith)
any_set test (x ∷ xs) zero y none within = rw (after (test x) (list_any test xs) none) (or_same (test y))
  where
    after : (a b : Bool) → (a || b) ≡ false → b ≡ false
    after false b e = e
    after true b e = let no : ⊥ = cc in absurd no
any_set test (x ∷ xs) (suc i) y none within = rw (before (test x) (list_any test xs) none) (any_set test xs i y (after (test x) (list_any test xs) none) (omega arith))
  where
    before : (a b : Bool) → (a || b) ≡ false → a ≡ false
    before false b e = refl
    before true b e = let no : ⊥ = cc in absurd no

    after : (a b : Bool) → (a || b) ≡ false → b ≡ false
    after false b e = e
    after true b e = let no : ⊥ = cc in absurd no

-- ---- sizes by marks

marked_work : (n : ℕ) (work : Work) → cond (is_write (kind_of work)) (rounded_up (work_len work + POINTER_SIZE * n)) 0 ≡ size_with n work
marked_work n Null = refl
marked_work n (Read name prio) = refl
marked_work n (Write name sum copies prio body) = refl
marked_work n (Free name) = refl
marked_work n (Claim name pointer) = refl

-- ---- what one more request changes

changed_none : {X : Type 0} (f g : Request → X) (under : Option ℕ) (rs : List Request) → AllByRecursion (λ (q : Request). is_under_number under q.number ≡ false) rs
    → ((q : Request) → is_under_number under q.number ≡ false → g q ≡ f q) → map g rs ≡ map f rs
changed_none f g under [] all same = refl
changed_none f g under (q ∷ rs) all same = rw (same q all.0, changed_none f g under rs all.1 same) refl

others_apart : (p : ℕ) (rs : List Request) → AllByRecursion (λ (q : Request). p < q.number) rs → AllByRecursion (λ (q : Request). is_under_number (Some p) q.number ≡ false) rs
others_apart p [] above = tt
others_apart p (q ∷ rs) above =
    let low : p < q.number = above.0 in
    (ne_eqb p q.number (omega arith), others_apart p rs above.1)

changed_at : {X : Type 0} (f g : Request → X) (rs : List Request) (i p : ℕ) (parent : Request) → AreRising rs → i < length rs → ((d : Request) → slice_index_or rs i d ≡ parent)
    → parent.number ≡ p → ((q : Request) → is_under_number (Some p) q.number ≡ false → g q ≡ f q) → map g rs ≡ slice_set (map f rs) i (g parent)
changed_at f g [] i p parent rising within there is same = absurd (omega arith)
changed_at f g (q ∷ rs) zero p parent rising within there is same =
    let here : q ≡ parent = there q in
    let number : q.number ≡ p = ap (λ (r : Request). r.number) here ∙ is in
    let above : AllByRecursion (λ (s : Request). p < s.number) rs = subst (λ n. AllByRecursion (λ (s : Request). n < s.number) rs) number rising.0 in
    rw (changed_none f g (Some p) rs (others_apart p rs above) same, here) refl
changed_at f g (q ∷ rs) (suc i) p parent rising within there is same =
    let number : (slice_index_or rs i q).number ≡ p = ap (λ (r : Request). r.number) (there q) ∙ is in
    let above : q.number < (slice_index_or rs i q).number = all_at (λ (s : Request). q.number < s.number) rs i q rising.0 (omega arith) in
    let other : (p == q.number) ≡ false = ne_eqb p q.number (omega arith) in
    rw (same q other, changed_at f g rs i p parent rising.1 (omega arith) there is same) refl

-- ---- a batch with one more request

-- what a size says of the sizes of a batch
pub data AreSized (sizes : List ℕ) : Option ℕ → Type 0 where
  TooLarge : are_too_large sizes ≡ true → AreSized sizes None
  Fit : are_too_large sizes ≡ false → AreSized sizes (Some (sum sizes))

sized_by : (sizes : List ℕ) (large : Bool) (total : ℕ) → are_too_large sizes ≡ large → total ≡ sum sizes → AreSized sizes (cond large None (Some total))
sized_by sizes true total are same = TooLarge are
sized_by sizes false total are same = rw same (Fit are)

-- the sizes of a batch within the limits
pub record AreWithin (sizes : List ℕ) : Type 0 where
  pub none : list_any (nat_lt BLOCK_SIZE_MAX) sizes ≡ false
  pub total : sum sizes ≤ BATCH_SIZE_MAX

abbrev own_of : Work → ℕ
own_of work = size_with 0 work

own_low : (work : Work) → fits_work work ≡ true → size_with 0 work ≤ BLOCK_SIZE_MAX
own_low Null fits = omega arith
own_low (Read name prio) fits = omega arith
own_low (Write name sum copies prio body) fits =
    let low : body_len body ≤ 1048576 = leb-true (body_len body) BLOCK_SIZE_MAX
    (and_parts (nat_le 1 (body_len body)) (nat_le (body_len body) BLOCK_SIZE_MAX) (and_parts (nat_le 1 copies && nat_le copies 3) (nat_le 1 (body_len body) && nat_le (body_len body) BLOCK_SIZE_MAX) fits).1).1 in
    omega arith
own_low (Free name) fits = omega arith
own_low (Claim name pointer) fits = omega arith

-- one more size behind sizes that are small
large_more : (sizes : List ℕ) (own : ℕ) → own ≤ BLOCK_SIZE_MAX → are_too_large (sizes ++ own ∷ []) ≡ (list_any (nat_lt BLOCK_SIZE_MAX) sizes || nat_lt BATCH_SIZE_MAX (sum sizes + own))
large_more sizes own low =
    let any : list_any (nat_lt BLOCK_SIZE_MAX) (sizes ++ own ∷ []) ≡ list_any (nat_lt BLOCK_SIZE_MAX) sizes
    = list_any-append (nat_lt BLOCK_SIZE_MAX) sizes (own ∷ []) ∙ (rw (le-ltb BLOCK_SIZE_MAX own low) (or_same (list_any (nat_lt BLOCK_SIZE_MAX) sizes))) in
    rw (any, sum_more sizes own) refl

sized_same : (sizes : List ℕ) (size own : ℕ) → AreWithin sizes → size ≡ sum sizes → own ≤ BLOCK_SIZE_MAX
    → AreSized (sizes ++ own ∷ []) (within 0 (size + own))
sized_same sizes size own small is low =
    sized_by (sizes ++ own ∷ []) (nat_lt BATCH_SIZE_MAX (size + own)) (size + own)
    (large_more sizes own low ∙ rw (small.none, is) refl) (rw is (sym (sum_more sizes own)))

sized_set : (sizes : List ℕ) (size own i old new : ℕ) → AreWithin sizes → size ≡ sum sizes → own ≤ BLOCK_SIZE_MAX → i < length sizes → old ≡ slice_index_or sizes i 0
    → AreSized (slice_set sizes i new ++ own ∷ []) (within new (size - old + new + own))
sized_set sizes size own i old new small is low within_is old_is =
    let part : slice_index_or sizes i 0 ≤ sum sizes = sum_has sizes i 0 within_is in
    let changed : sum (slice_set sizes i new) + slice_index_or sizes i 0 ≡ sum sizes + new = sum_set sizes i new 0 within_is in
    let total : size - old + new + own ≡ sum (slice_set sizes i new) + own = omega arith in
    sized_by (slice_set sizes i new ++ own ∷ []) (nat_lt BLOCK_SIZE_MAX new || nat_lt BATCH_SIZE_MAX (size - old + new + own)) (size - old + new + own)
    (large_more (slice_set sizes i new) own low ∙ rw (any_set (nat_lt BLOCK_SIZE_MAX) sizes i new small.none within_is, total) refl)
    (total ∙ sym (sum_more (slice_set sizes i new) own))

-- ---- the sizes of a batch with one more request

and_false : (a : Bool) → (a && false) ≡ false
and_false false = refl
and_false true = refl

writes_stay : (batch : List Request) (r : Request) (n : ℕ) → (is_under r n && is_write (kind_of r.work)) ≡ false → writes_under (batch ++ r ∷ []) n ≡ writes_under batch n
writes_stay batch r n none =
    let more = count_more (λ (p : Request). is_under p n && is_write (kind_of p.work)) batch r in
    more ∙ rw none (omega arith)

writes_rise : (batch : List Request) (r : Request) (n : ℕ) → (is_under r n && is_write (kind_of r.work)) ≡ true → writes_under (batch ++ r ∷ []) n ≡ writes_under batch n + 1
writes_rise batch r n one =
    let more = count_more (λ (p : Request). is_under p n && is_write (kind_of p.work)) batch r in
    more ∙ rw one refl

size_old : List Request → Request → ℕ
size_old batch q = size_with (writes_under batch q.number) q.work

size_new : List Request → Request → Request → ℕ
size_new batch r q = size_with (writes_under (batch ++ r ∷ []) q.number) q.work

no_size : (work : Work) → is_write (kind_of work) ≡ false → size_with 0 work ≡ 0
no_size Null is = refl
no_size (Read name prio) is = refl
no_size (Write name sum copies prio body) is = let no : ⊥ = cc in absurd no
no_size (Free name) is = refl
no_size (Claim name pointer) is = refl

own_size : (work : Work) → is_write (kind_of work) ≡ true → rounded_up (work_len work) ≡ size_with 0 work
own_size Null is = let no : ⊥ = cc in absurd no
own_size (Read name prio) is = let no : ⊥ = cc in absurd no
own_size (Write name sum copies prio body) is = ap rounded_up (omega arith)
own_size (Free name) is = let no : ⊥ = cc in absurd no
own_size (Claim name pointer) is = let no : ⊥ = cc in absurd no

abbrev sizes_are : List Request → Request → List ℕ
sizes_are batch r = map (size_new batch r) batch ++ size_with 0 r.work ∷ []

sized_other : (batch : List Request) (r : Request) (size : ℕ) → AreWithin (sizes_in batch) → size ≡ sum (sizes_in batch) → is_write (kind_of r.work) ≡ false
    → AreSized (sizes_with batch r) (Some size)
unfolding size_old size_new
sized_other batch r size small is other =
    let same : map (size_new batch r) batch ≡ sizes_in batch
    = changed_none (size_old batch) (size_new batch r) None batch (all_past batch)
    (λ q past. ap (λ n. size_with n q.work) (writes_stay batch r q.number (rw other (and_false (is_under r q.number))))) in
    let none : size_with 0 r.work ≡ 0 = no_size r.work other in
    let sizes : sizes_with batch r ≡ sizes_in batch ++ 0 ∷ [] = rw (same, none) refl in
    let fits : nat_lt BATCH_SIZE_MAX (size + 0) ≡ false = le-ltb BATCH_SIZE_MAX (size + 0) (let low : sum (sizes_in batch) ≤ BATCH_SIZE_MAX = small.total in omega arith) in
    let made : AreSized (sizes_in batch ++ 0 ∷ []) (within 0 (size + 0)) = sized_same (sizes_in batch) size 0 small is (omega arith) in
    rw sizes (subst (λ n. AreSized (sizes_in batch ++ 0 ∷ []) n) (rw fits (ap Some (omega arith))) made)
  where
    all_past : (rs : List Request) → AllByRecursion (λ (q : Request). is_under_number None q.number ≡ false) rs
    all_past [] = tt
    all_past (q ∷ rs) = (refl, all_past rs)

sized_apart : (batch : List Request) (r : Request) (size : ℕ) → AreWithin (sizes_in batch) → size ≡ sum (sizes_in batch) → fits_work r.work ≡ true → is_write (kind_of r.work) ≡ true
    → AllByRecursion (λ (q : Request). is_under_number r.under q.number ≡ false) batch → AreSized (sizes_with batch r) (within 0 (size + rounded_up (work_len r.work)))
unfolding size_old size_new
sized_apart batch r size small is fits write past =
    let same : map (size_new batch r) batch ≡ sizes_in batch
    = changed_none (size_old batch) (size_new batch r) r.under batch past
    (λ q other. ap (λ n. size_with n q.work) (writes_stay batch r q.number (rw other refl))) in
    rw (same, own_size r.work write) (sized_same (sizes_in batch) size (size_with 0 r.work) small is (own_low r.work fits))

sized_under : (apart : Bool) (batch : List Request) (kept : OpenBatch) (r : Request) (i : ℕ) → IsBatch apart batch kept → AreWithin (sizes_in batch) → fits_work r.work ≡ true
    → is_write (kind_of r.work) ≡ true → IsParentAt batch kept r.under i
    → AreSized (sizes_with batch r) (size_under kept.size (mark_at kept i) (rounded_up (work_len r.work)))
unfolding size_old size_new
sized_under apart batch kept r i is small fits write stand =
    let parent = stand.parent in
    let number : parent.number ≡ stand.number = found_number batch stand.number parent stand.found in
    let len : length kept.marks.items ≡ length batch = ap length is.marks ∙ length-map batch (mark_in batch) in
    let low : i < length kept.marks.items = stand.within in
    let below : is_under r parent.number ≡ true = rw stand.under_is (grind (arith, nat_tests)) in
    let new : size_new batch r parent ≡ size_with (writes_under batch parent.number + 1) parent.work
    = ap (λ n. size_with n parent.work) (writes_rise batch r parent.number (rw (below, write) refl)) in
    let changed : map (size_new batch r) batch ≡ slice_set (sizes_in batch) i (size_with (writes_under batch parent.number + 1) parent.work)
    = changed_at (size_old batch) (size_new batch r) batch i stand.number parent is.rising (omega arith) stand.there number
    (λ q other. ap (λ n. size_with n q.work) (writes_stay batch r q.number (rw (stand.under_is, other) refl)))
    ∙ ap (λ n. slice_set (sizes_in batch) i n) new in
    let old : size_with (writes_under batch parent.number) parent.work ≡ slice_index_or (sizes_in batch) i 0
    = sym (index_map (size_old batch) batch i parent 0 (omega arith) ∙ ap (size_old batch) (stand.there parent)) in
    let sizes_len : length (sizes_in batch) ≡ length batch = length-map batch (size_old batch) in
    let made = sized_set (sizes_in batch) kept.size (size_with 0 r.work) i (size_with (writes_under batch parent.number) parent.work)
    (size_with (writes_under batch parent.number + 1) parent.work) small is.size (own_low r.work fits) (omega arith) old in
    rw (changed, stand.mark no_mark, marked_work (writes_under batch parent.number) parent.work, marked_work (writes_under batch parent.number + 1) parent.work, own_size r.work write) made

pub size_is : (apart : Bool) (batch : List Request) (kept : OpenBatch) (r : Request) (stand : Stand) (write : Bool) → is_write (kind_of r.work) ≡ write → IsBatch apart batch kept
    → AreWithin (sizes_in batch) → fits_work r.work ≡ true → IsStand batch kept r.under stand
    → AreSized (sizes_with batch r) (size_after kept stand write (work_len r.work))
size_is apart batch kept r stand false write is small fits at = sized_other batch r kept.size small is.size write
size_is apart batch kept r Root true write is small fits at = sized_apart batch r kept.size small is.size fits write (under_none r batch at)
size_is apart batch kept r (Under i) true write is small fits at = sized_under apart batch kept r i is small fits write at
size_is apart batch kept r Lost true write is small fits at =
    sized_apart batch r kept.size small is.size fits write (under_lost r at.number batch at.under_is (none_of_number batch at.number at.none))

-- ---- the numbers of marks

count_low : (test : Request → Bool) (rs : List Request) (n : ℕ) → fold (λ a q. a + cond (test q) 1 0) n rs ≤ n + length rs
count_low test [] n = omega arith
count_low test (r ∷ rs) n = by_test (test r) refl (count_low test rs)
  where
    by_test : (is : Bool) → test r ≡ is → ((m : ℕ) → fold (λ a q. a + cond (test q) 1 0) m rs ≤ m + length rs)
        → fold (λ a q. a + cond (test q) 1 0) n (r ∷ rs) ≤ n + length (r ∷ rs)
    by_test true is rest = let more : fold (λ a q. a + cond (test q) 1 0) (n + 1) rs ≤ n + 1 + length rs = rest (n + 1) in rw is (omega arith)
    by_test false is rest = let more : fold (λ a q. a + cond (test q) 1 0) (n + 0) rs ≤ n + 0 + length rs = rest (n + 0) in rw is (omega arith)

levels_low : (rs : List Request) (under : Option ℕ) → levels rs under ≤ length rs
levels_low [] under = omega arith
levels_low (r ∷ rs) under = by_test (is_under_number under r.number) refl (levels_low rs)
  where
    by_test : (is : Bool) → is_under_number under r.number ≡ is → ((u : Option ℕ) → levels rs u ≤ length rs) → levels (r ∷ rs) under ≤ length (r ∷ rs)
    by_test true is rest = let up : levels rs r.under ≤ length rs = rest r.under in rw is (omega arith)
    by_test false is rest = let up : levels rs under ≤ length rs = rest under in rw is (omega arith)

work_low : (work : Work) → fits_work work ≡ true → work_len work ≤ BLOCK_SIZE_MAX
work_low Null fits = omega arith
work_low (Read name prio) fits = omega arith
work_low (Write name sum copies prio body) fits =
    leb-true (body_len body) BLOCK_SIZE_MAX
    (and_parts (nat_le 1 (body_len body)) (nat_le (body_len body) BLOCK_SIZE_MAX) (and_parts (nat_le 1 copies && nat_le copies 3) (nat_le 1 (body_len body) && nat_le (body_len body) BLOCK_SIZE_MAX) fits).1).1
work_low (Free name) fits = omega arith
work_low (Claim name pointer) fits = omega arith

pub sizes_within : (apart : Bool) (batch : List Request) → IsOrderlyBatch apart batch → AreWithin (sizes_in batch)
sizes_within apart batch orderly = record {
  none = any_none (nat_lt BLOCK_SIZE_MAX) (sizes_in batch) (low (sizes_in batch) orderly.sizes);
  total = orderly.total;
}
  where
    low : (xs : List ℕ) → AllByRecursion (λ n. n ≤ BLOCK_SIZE_MAX) xs → AllByRecursion (λ n. nat_lt BLOCK_SIZE_MAX n ≡ false) xs
    low [] all = tt
    low (x ∷ xs) all = (le-ltb BLOCK_SIZE_MAX x all.0, low xs all.1)

pub stand_within : (apart other : Bool) (batch : List Request) (kept : OpenBatch) (under : Option ℕ) (stand : Stand) → IsBatch apart batch kept → IsOrderlyBatch other batch
    → IsStand batch kept under stand → IsStandWithin kept stand
stand_within apart other batch kept under Root is orderly stand = tt
stand_within apart other batch kept under (Under i) is orderly stand =
    let parent = stand.parent in
    let len : length kept.marks.items ≡ length batch = ap length is.marks ∙ length-map batch (mark_in batch) in
    let low : i < length kept.marks.items = stand.within in
    let most : length batch ≤ 1024 = orderly.most in
    let range : IsInRange parent = subst IsInRange (stand.there parent) (all_at IsInRange batch i parent orderly.ranges (omega arith)) in
    let writes : writes_under batch parent.number ≤ 0 + length batch = count_low (λ (q : Request). is_under q parent.number && is_write (kind_of q.work)) batch 0 in
    let children : children_in batch parent.number ≤ 0 + length batch = count_low (λ (q : Request). is_under q parent.number) batch 0 in
    let reversed : length (reverse batch) ≡ length batch = length-reverse batch in
    let up : levels (reverse batch) parent.under ≤ length (reverse batch) = levels_low (reverse batch) parent.under in
    let old : size_with (writes_under batch parent.number) parent.work ≡ slice_index_or (sizes_in batch) i 0
    = sym (index_map (λ (q : Request). size_with (writes_under batch q.number) q.work) batch i parent 0 (omega arith) ∙ ap (λ (q : Request). size_with (writes_under batch q.number) q.work) (stand.there parent)) in
    let sizes_len : length (sizes_in batch) ≡ length batch = length-map batch (λ (q : Request). size_with (writes_under batch q.number) q.work) in
    let part : slice_index_or (sizes_in batch) i 0 ≤ sum (sizes_in batch) = sum_has (sizes_in batch) i 0 (omega arith) in
    let size : kept.size ≡ sum (sizes_in batch) = is.size in
    let marked = marked_work (writes_under batch parent.number) parent.work in (
      low,
      rw (stand.mark no_mark) (record {
        len = work_low parent.work range.work;
        writes = omega arith;
        children = omega arith;
        depth = omega arith;
        part = rw marked (omega arith);
      }),
    )
stand_within apart other batch kept under Lost is orderly stand = tt
