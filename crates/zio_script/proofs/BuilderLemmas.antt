-- What is kept of the lines of any form, line by line.
use Rattle.std.proofs.Common.{◌≡◌, ◌≤◌, ◌<◌, ◌+◌, ◌-◌, ℕ, List, [], ◌∷◌, ◌++◌, length, drop, take, fold, refl, sym, ap, ◌∙◌, Bool, true, false, ◌||◌, ◌==◌, ◌≢◌, nat_le, arith, slice_index_or, slice_set}
use Rattle.std.proofs.lemmas.Bool.{and_parts, eqb-true, leb-true}
use Rattle.std.proofs.lemmas.Bool.Decides.{nat_tests}
use Rattle.std.proofs.lemmas.Grind.{flat_map-append}
use Rattle.std.proofs.lemmas.List.Folds.{list_any-append}
use Rattle.std.specs.List.{flat_map, list_all}
use Rattle.std.proofs.lemmas.List.{append-nil, get_or-set_other, get_or-set_same, take_all}
use Rattle.std.proofs.lemmas.List.Sums.{fold-append}
use Rattle.std.specs.Prelude.{count_by}
use Rattle.zio_script.specs.declared.builder.Builder.{Builder}
use Rattle.zio_script.specs.declared.limits.TheConstants.{CLEARS_MAX}
use Rattle.zio_script.specs.declared.open_batch.OpenBatch.{OpenBatch}
use Rattle.zio_script.specs.declared.script.Item.{Item}
use Rattle.zio_script.specs.declared.script.Item.TheVariants.{Go, Clear}
use Rattle.zio_script.specs.Builders.{IsKept, Sees, batch_of, script_of}
use Rattle.zio_script.specs.Keys.{AreForgotten}
use Rattle.zio_script.specs.OpenBatches.{IsBatch}
use Rattle.zio_script.specs.Requests.{requests_of}
use Rattle.zio_script.specs.declared.script.TopLine.{TopLine as Top}
use Rattle.zio_script.specs.Whys.{all_leaves, is_among, is_leaf, batch_after, is_clear, tells_reads_apart}
use Rattle.zio_script.proofs.AcceptedLemmas.{clear_orderly, go_orderly}
use Rattle.zio_script.proofs.ListLemmas.{requests-append}

-- ---- the end of a batch

pub no_batch : (apart : Bool) (kept : OpenBatch) → kept.marks.items ≡ [] → kept.size ≡ 0 → kept.has_claim ≡ false → AreForgotten kept.names
    → IsBatch apart [] kept
no_batch apart kept marks size claim forgotten = record {
  marks = marks;
  size = size;
  claim = claim;
  begun = record { read = λ _. forgotten.read_others; written = λ _. forgotten.written_others };
  read = λ name is. rw (forgotten.read_first, forgotten.read_others) refl;
  written = λ name is. rw (forgotten.written_first, forgotten.written_others) refl;
  rising = tt;
  tidy = tt;
}

pub kept_go : (b : Builder) (items : List Item) (batch : OpenBatch) → IsKept b → items ≡ b.items ++ Go ∷ [] → IsBatch b.apart [] batch
    → IsKept (record b { begun = true; items = items; batch = batch })
kept_go b items batch kept is none =
    let open_is : fold batch_after [] items ≡ [] = rw is (fold-append batch_after [] b.items (Go ∷ [])) in
    let numbers : requests_of items ≡ requests_of b.items = rw is (requests-append b.items (Go ∷ []) ∙ append-nil (requests_of b.items)) in
    let more : count_by is_clear (b.items ++ Go ∷ []) ≡ count_by is_clear b.items + 0 = fold-append _ 0 b.items (Go ∷ []) in
    let counted : count_by is_clear (b.items ++ Go ∷ []) ≡ count_by is_clear b.items = omega arith in
    record {
      batch = rw open_is none;
      orderly = rw is (go_orderly (tells_reads_apart (script_of b)) b.items kept.orderly);
      apart = kept.apart;
      seen = kept.seen;
      last = λ n low. rw numbers (kept.last n low);
      clears = rw (is, kept.clears) (sym counted);
      most = kept.most;
    }

-- ---- a clear

pub kept_clear : (b : Builder) (items : List Item) → IsKept b → items ≡ b.items ++ Clear ∷ [] → b.clears < CLEARS_MAX
    → IsKept (record b { begun = true; items = items; clears = b.clears + 1 })
kept_clear b items kept is few =
    let open_is : fold batch_after [] items ≡ batch_of b = rw is (fold-append batch_after [] b.items (Clear ∷ [])) in
    let numbers : requests_of items ≡ requests_of b.items = rw is (requests-append b.items (Clear ∷ []) ∙ append-nil (requests_of b.items)) in
    let counted : count_by is_clear (b.items ++ Clear ∷ []) ≡ count_by is_clear b.items + 1 = fold-append _ 0 b.items (Clear ∷ []) in
    record {
      batch = rw open_is kept.batch;
      orderly = rw is (clear_orderly (tells_reads_apart (script_of b)) b.items kept.orderly);
      apart = kept.apart;
      seen = kept.seen;
      last = λ n low. rw numbers (kept.last n low);
      clears = rw (is, kept.clears) (sym counted);
      most = omega arith;
    }

-- ---- leaves

or_moved : (a b c : Bool) → ((a || b) || c) ≡ (b || (a || c))
or_moved true true c = refl
or_moved true false c = refl
or_moved false b c = refl

eqb_apart : (a b : ℕ) → (a == b) ≡ false → a ≢ b
eqb_apart a b other same = grind (arith, nat_tests)

pub sees_one : (seen : List Bool) (before : List ℕ) (leaf : ℕ) → leaf < length seen → Sees seen before → Sees (slice_set seen leaf true) (leaf ∷ before)
sees_one seen before leaf there sees n low = by_leaf (leaf == n) refl
  where
    by_leaf : (is : Bool) → (leaf == n) ≡ is → slice_index_or (slice_set seen leaf true) n false ≡ ((leaf == n) || is_among before n)
    by_leaf true same =
        let here : leaf ≡ n = eqb-true leaf n same in
        rw (same, ← here) (get_or-set_same seen leaf true false there)
    by_leaf false other =
        rw other (get_or-set_other seen leaf n true false (λ same. eqb_apart leaf n other (sym same)) ∙ sees n low)

pub sees_more : (seen after : List Bool) (before leaves : List ℕ) (leaf n : ℕ) → leaf < length seen → Sees seen before
    → ((first : List ℕ) → Sees (slice_set seen leaf true) first → slice_index_or after n false ≡ (is_among first n || is_among leaves n))
    → slice_index_or after n false ≡ (is_among before n || is_among (leaf ∷ leaves) n)
sees_more seen after before leaves leaf n there sees rest =
    rest (leaf ∷ before) (sees_one seen before leaf there sees) ∙ or_moved (leaf == n) (is_among before n) (is_among leaves n)

pub sees_rest : (leaves : List ℕ) (seen after : List Bool) (before : List ℕ) (n : ℕ) → 1 ≤ length leaves → list_all is_leaf leaves ≡ true → length seen ≡ 16 → Sees seen before
    → ((first : List ℕ) → Sees (slice_set seen (slice_index_or leaves 0 0) true) first → slice_index_or after n false ≡ (is_among first n || is_among (take (length leaves - 1) (drop 1 leaves)) n))
    → slice_index_or after n false ≡ (is_among before n || is_among leaves n)
sees_rest [] seen after before n some all len sees rest = absurd (omega arith)
sees_rest (leaf ∷ leaves) seen after before n some all len sees rest =
    let low : leaf ≤ 15 = leb-true leaf 15 (and_parts (nat_le 0 leaf) (nat_le leaf 15) (and_parts (is_leaf leaf) (list_all is_leaf leaves) all).0).1 in
    let all_of : take (length (leaf ∷ leaves) - 1) leaves ≡ leaves = take_all (length (leaf ∷ leaves) - 1) leaves (omega arith) in
    sees_more seen after before leaves leaf n (omega arith) sees (λ first sees_first. rest first sees_first ∙ ap (λ (ls : List ℕ). is_among first n || is_among ls n) all_of)

-- ---- a top

pub kept_top : (b : Builder) (tops : List Top) (top : Top) (seen : List Bool) → IsKept b → b.items ≡ [] → tops ≡ b.tops ++ top ∷ []
    → ((n : ℕ) → n < 16 → slice_index_or seen n false ≡ (is_among (all_leaves (script_of b)) n || is_among top.leaves n))
    → IsKept (record b { begun = true; tops = tops; seen = seen })
kept_top b tops top seen kept none is sees =
    let leaves : flat_map (λ (t : Top). t.leaves) tops ≡ all_leaves (script_of b) ++ (top.leaves ++ [])
    = rw is (flat_map-append (λ (t : Top). t.leaves) b.tops (top ∷ [])) in
    let whole : flat_map (λ (t : Top). t.leaves) tops ≡ all_leaves (script_of b) ++ top.leaves = leaves ∙ ap (λ (ls : List ℕ). all_leaves (script_of b) ++ ls) (append-nil top.leaves) in
    record {
      batch = kept.batch;
      orderly = kept.orderly;
      apart = kept.apart;
      seen = λ n low. sees n low ∙ sym (ap (λ (ls : List ℕ). is_among ls n) whole ∙ list_any-append (λ m. m == n) (all_leaves (script_of b)) top.leaves);
      last = kept.last;
      clears = kept.clears;
      most = kept.most;
    }
