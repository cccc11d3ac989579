-- What stands behind the lines of a generated script so far, and what each line leaves.
use Rattle.std.proofs.Common.{◌≡◌, ◌<◌, ◌≤◌, ◌+◌, ◌^◌, ℕ, List, [], ◌∷◌, ◌++◌, length, fold, refl, ◌∙◌, Bool, true, false, Option, None, arith}
use Rattle.std.specs.Prelude.{count_by}
use Rattle.std.specs.List.{AllByRecursion}
use Rattle.std.proofs.lemmas.Bool.{lt-leb}
use Rattle.std.proofs.lemmas.List.{append-nil, length-append}
use Rattle.std.proofs.lemmas.List.Folds.{list_any-append}
use Rattle.std.proofs.lemmas.List.Sums.{fold-append}
use Rattle.zio_script.specs.declared.limits.TheConstants.{CLEARS_MAX}
use Rattle.zio_script.specs.declared.script.Item.TheVariants.{Request as RequestItem, Go, Clear}
use Rattle.zio_script.specs.declared.script.Work.{Work}
use Rattle.zio_script.specs.declared.why.Why.TheVariants.{Limit, Order}
use Rattle.zio_script.specs.Grammar.{script_with}
use Rattle.zio_script.specs.Lines.{RequestLine, GoLine, ClearLine}
use Rattle.zio_script.specs.Requests.{requests_of}
use Rattle.zio_script.specs.Whys.{Before, batch_after, falls_back, if_so, is_clear, least_why, open_batch, whys_at_end, whys_of}
use Rattle.zio_script.specs.Words.{is_empty}
use Rattle.zio_script.proofs.ListLemmas.{requests-append}
use Rattle.zio_gen.proofs.RequestLemmas.{IsEarlier, IsModest, earlier_more, no_request_why, root_made}
use Rattle.zio_gen.proofs.ShapeLemmas.{root_asked}

-- There are tops, numbers from the next on are free, the open batch has so many requests, all on blocks before this one,
-- and there were so many clears.
pub record Stands (next block count clears : ℕ) (before : Before) : Type 0 where
  pub tops : is_empty before.script.tops ≡ false
  pub above : (n : ℕ) → next ≤ n → falls_back before.script n ≡ false
  pub batch : AllByRecursion (IsEarlier block) (open_batch before.script)
  pub len : length (open_batch before.script) ≡ count
  pub cleared : count_by is_clear before.script.items ≡ clears

-- ---- a request

pub request_none : (next block count clears : ℕ) (before : Before) (work : Work) (flag : Option Bool) → Stands next block count clears before → IsModest block work
    → count < 1024 → 1 ≤ next → next ≤ 65535 → block < 10 ^ 5 → least_why (whys_of before (RequestLine (root_asked next work flag))) ≡ None
request_none next block count clears before work flag stands modest few low high named_low =
    let len : length (open_batch before.script) ≡ count = stands.len in
    no_request_why before.script block next work flag (open_batch before.script) stands.batch modest (omega arith) low high named_low
    stands.tops (stands.above next (omega arith))

pub request_stands : (next block count clears : ℕ) (before : Before) (work : Work) (flag : Option Bool) → Stands next block count clears before → IsModest block work
    → Stands (next + 1) (block + 1) (count + 1) clears (script_with before.script (RequestLine (root_asked next work flag)))
request_stands next block count clears before work flag stands modest =
    let items = before.script.items in
    let r = root_made next work flag in
    let batch : fold batch_after [] (items ++ RequestItem r ∷ []) ≡ open_batch before.script ++ r ∷ [] = fold-append batch_after [] items (RequestItem r ∷ []) in
    let numbers : requests_of (items ++ RequestItem r ∷ []) ≡ requests_of items ++ r ∷ [] = requests-append items (RequestItem r ∷ []) in
    let more : count_by is_clear (items ++ RequestItem r ∷ []) ≡ count_by is_clear items + 0 = fold-append _ 0 items (RequestItem r ∷ []) in
    let counted : count_by is_clear items ≡ clears = stands.cleared in
    let len : length (open_batch before.script) ≡ count = stands.len in
    record {
      tops = stands.tops;
      above = λ n above. rw (numbers, list_any-append, stands.above n (omega arith), lt-leb n next (omega arith)) refl;
      batch = rw batch (earlier_more block next work flag (open_batch before.script) stands.batch modest);
      len = rw batch (simp length-append (omega arith));
      cleared = omega arith;
    }

-- ---- the end of a batch

some_there : {X : Type 0} (xs : List X) → 1 ≤ length xs → is_empty xs ≡ false
some_there [] some = absurd (omega arith)
some_there (x ∷ xs) some = refl

none_there : {X : Type 0} (xs : List X) → length xs ≡ 0 → is_empty xs ≡ true
none_there [] none = refl
none_there (x ∷ xs) none = absurd (omega arith)

pub go_none : (next block count clears : ℕ) (before : Before) → Stands next block count clears before → 1 ≤ count
    → least_why (whys_of before GoLine) ≡ None
go_none next block count clears before stands some =
    let len : length (open_batch before.script) ≡ count = stands.len in
    rw (some_there (open_batch before.script) (omega arith)) refl

pub go_stands : (next block count clears first : ℕ) (before : Before) → Stands next block count clears before
    → Stands next first 0 clears (script_with before.script GoLine)
go_stands next block count clears first before stands =
    let items = before.script.items in
    let batch : fold batch_after [] (items ++ Go ∷ []) ≡ [] = fold-append batch_after [] items (Go ∷ []) in
    let numbers : requests_of (items ++ Go ∷ []) ≡ requests_of items = requests-append items (Go ∷ []) ∙ append-nil (requests_of items) in
    let more : count_by is_clear (items ++ Go ∷ []) ≡ count_by is_clear items + 0 = fold-append _ 0 items (Go ∷ []) in
    let counted : count_by is_clear items ≡ clears = stands.cleared in
    record {
      tops = stands.tops;
      above = λ n above. rw numbers (stands.above n above);
      batch = rw batch tt;
      len = rw batch refl;
      cleared = omega arith;
    }

-- ---- a clear

two_none : (a b : Bool) → a ≡ false → b ≡ false → least_why (if_so Limit a ∷ if_so Order b ∷ []) ≡ None
two_none a b no_a no_b = rw (no_a, no_b) refl

pub clear_none : (next block clears : ℕ) (before : Before) → Stands next block 0 clears before → clears < 65534
    → least_why (whys_of before ClearLine) ≡ None
clear_none next block clears before stands few =
    let counted : count_by is_clear before.script.items ≡ clears = stands.cleared in
    two_none _ _ (lt-leb CLEARS_MAX (count_by is_clear before.script.items) (omega arith))
    (rw (stands.tops, none_there (open_batch before.script) stands.len) refl)

pub clear_stands : (next block clears : ℕ) (before : Before) → Stands next block 0 clears before
    → Stands next block 0 (clears + 1) (script_with before.script ClearLine)
clear_stands next block clears before stands =
    let items = before.script.items in
    let batch : fold batch_after [] (items ++ Clear ∷ []) ≡ open_batch before.script = fold-append batch_after [] items (Clear ∷ []) in
    let numbers : requests_of (items ++ Clear ∷ []) ≡ requests_of items = requests-append items (Clear ∷ []) ∙ append-nil (requests_of items) in
    let more : count_by is_clear (items ++ Clear ∷ []) ≡ count_by is_clear items + 1 = fold-append _ 0 items (Clear ∷ []) in
    let counted : count_by is_clear items ≡ clears = stands.cleared in
    record {
      tops = stands.tops;
      above = λ n above. rw numbers (stands.above n above);
      batch = rw batch stands.batch;
      len = rw batch stands.len;
      cleared = omega arith;
    }

-- ---- later numbers, and the end

pub stands_later : (next later block count clears : ℕ) (before : Before) → next ≤ later → Stands next block count clears before → Stands later block count clears before
stands_later next later block count clears before later_is stands = record {
  tops = stands.tops;
  above = λ n above. stands.above n (omega arith);
  batch = stands.batch;
  len = stands.len;
  cleared = stands.cleared;
}

pub end_none : (next block clears : ℕ) (before : Before) → Stands next block 0 clears before → least_why (whys_at_end before.script) ≡ None
end_none next block clears before stands = rw (none_there (open_batch before.script) stands.len, stands.tops) refl
