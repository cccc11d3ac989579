-- Runs that store as a plain store does, evaluated.
use Rattle.std.proofs.Common.{◌≡◌, ◌<◌, ℕ, List, [], ◌∷◌, Bool, true, false, cond, if◌then◌else◌, option_map, is_some, bytes_eq, codes, replicate, Some, None, refl, arith, get_or, ap, ◌∙◌, sym, Contains}
use Rattle.std.specs.List.{AllByRecursion}
use Rattle.zio_types.specs.declared.place.Place.{Place}
use Rattle.zio_types.specs.Choices.{no_place}
use Rattle.zio_blkptr.specs.declared.pointer.SumKind.TheVariants.{Fletcher4}
use Rattle.zio_cksum.specs.Sums.{fletcher4, fletcher_after, sum_of}
use Rattle.zio_script.specs.declared.script.Request.{Request}
use Rattle.zio_cksum.proofs.AllLemmas.{all_contains}
use Rattle.zio_gang.specs.declared.ending.Ending.TheVariants.{Complete, Left}
use Rattle.zio_gang.specs.declared.tree.Tree.{Tree}
use Rattle.zio_gang.specs.Attempts.{attempt_each, settle_from}
use Rattle.zio_gang.specs.Fates.{ended_requests}
use Rattle.zio_gang.specs.Rounds.{Binding, is_bound, settle_each}
use Rattle.zio_gang.specs.Runs.{run_held, run_lines, run_script}
use Rattle.zio_gang.specs.Trees.{free_tree, read_tree, walk}
use Rattle.zio_gang.specs.Writes.{place_part}
use Rattle.zio_trace.specs.TraceExamples.{finds_x, next_place, place_of_x, pointer_of_x, two_sectors}
use Rattle.zio_heal.specs.PlainStore.{Content, Reply, has_content, no_contents, with_content}
use Rattle.zio_heal.specs.HealedCases.{items_of, over_one_leaf}
use Rattle.zio_heal.specs.StoreCases.{asked, gave, reads}
use Rattle.zio_heal.specs.StoredCases.{ContentIsAnother, FaultHeals, LastingFaultLeaves, NameIsLeftOver, NoContentIsntAlike, ReplyIsMissing, RequestDidntEnd, SameWithoutFault, UnreadIsntAlike}

found_if : (b : Bool) (binding : Binding) (content : Content) → is_some (option_map (λ (x : Binding). x.tree) (cond b (Some binding) None)) ≡ is_some (if b then Some content else None)
found_if true binding content = refl
found_if false binding content = refl

-- one name is bound and has a content
one_name : (name : List ℕ) (tree : Tree) (content : Content) (other : List ℕ) → is_bound (record { name = name; tree = tree } ∷ []) other ≡ has_content (with_content name (Some content) no_contents) other
one_name name tree content other = found_if (bytes_eq name other) (record { name = name; tree = tree }) content

-- the block of x at this place
abbrev block_at : Place → Tree
block_at p = record {
  bp = record pointer_of_x { places = p ∷ no_place ∷ no_place ∷ []; sum = Fletcher4; words = sum_of Fletcher4 (replicate 512 65) };
  heads = [];
}

pub fault_heals : FaultHeals
unfolding fletcher4 fletcher_after attempt_each settle_from settle_each run_held run_lines walk read_tree free_tree place_part
fault_heals = record {
  complete = refl;
  all = ((0, omega arith, refl), ((1, omega arith, refl), tt));
  replies = (
    record { reply = gave 1 0 (replicate 512 65); listed = (0, omega arith, refl); alike = record { number = refl; shown = refl } },
    (record { reply = gave 2 0 (replicate 512 65); listed = (1, omega arith, refl); alike = record { number = refl; shown = (refl, refl) } }, tt),
  );
  names = one_name (codes "x") (block_at next_place) (record { front = 0; bytes = replicate 512 65 });
  blocks = ((refl, refl), tt);
}

pub same_without_fault : SameWithoutFault
unfolding fletcher4 fletcher_after attempt_each settle_from settle_each run_held run_lines walk read_tree free_tree place_part
same_without_fault = record {
  complete = refl;
  all = ((0, omega arith, refl), ((1, omega arith, refl), tt));
  replies = (
    record { reply = gave 1 0 (replicate 512 65); listed = (0, omega arith, refl); alike = record { number = refl; shown = refl } },
    (record { reply = gave 2 0 (replicate 512 65); listed = (1, omega arith, refl); alike = record { number = refl; shown = (refl, refl) } }, tt),
  );
  names = one_name (codes "x") (block_at place_of_x) (record { front = 0; bytes = replicate 512 65 });
  blocks = ((refl, refl), tt);
}

pub lasting_fault_leaves : LastingFaultLeaves
unfolding fletcher4 fletcher_after attempt_each settle_from settle_each run_held run_lines walk read_tree free_tree place_part
lasting_fault_leaves h = let e : Left ≡ Complete = h.complete in absurd (cc)

-- what is true isn't false
true_or_false : true ≡ false → ⊥
true_or_false e = cc

pub reply_is_missing : ReplyIsMissing
unfolding fletcher4 fletcher_after attempt_each settle_from settle_each run_held run_lines walk read_tree free_tree place_part
reply_is_missing h = all_contains (λ (reply : Reply). ⊥) [] h.replies.0.reply tt h.replies.0.listed

third : (xs : List Request) (r : Request) → AllByRecursion (λ (q : Request). q.number ≡ r.number → ⊥) xs → Contains xs r → ⊥
third xs r h c = all_contains (λ (q : Request). q.number ≡ r.number → ⊥) xs r h c refl

below_differs : (n m : ℕ) → n < m → n ≡ m → ⊥
below_differs n m lt e = absurd (omega arith)

-- the requests that ended in the run without its row
abbrev ended_there : List Request
ended_there = ended_requests (run_script (over_one_leaf [] (items_of Fletcher4)) two_sectors finds_x).events

pub request_didnt_end : RequestDidntEnd
unfolding fletcher4 fletcher_after attempt_each settle_from settle_each run_held run_lines walk read_tree free_tree place_part
request_didnt_end h =
    third ended_there (asked 3 (reads (codes "x"))) (below_differs 1 3 (omega arith), (below_differs 2 3 (omega arith), tt)) h.all.0

pub name_is_left_over : NameIsLeftOver
unfolding fletcher4 fletcher_after attempt_each settle_from settle_each run_held run_lines walk read_tree free_tree place_part
name_is_left_over h = true_or_false (h.names (codes "x"))

other_first : (xs ys : List ℕ) (a b : ℕ) → get_or xs 0 0 ≡ a → get_or ys 0 0 ≡ b → (a ≡ b → ⊥) → xs ≡ ys → ⊥
other_first xs ys a b x y ne e = ne (sym x ∙ ap (λ (l : List ℕ). get_or l 0 0) e ∙ y)

pub content_is_another : ContentIsAnother
unfolding fletcher4 fletcher_after attempt_each settle_from settle_each run_held run_lines walk read_tree free_tree place_part
content_is_another h = other_first (replicate 512 65) (replicate 512 66) 65 66 refl refl (λ e. omega (arith, e)) h.blocks.0.1

pub unread_isnt_alike : UnreadIsntAlike
unread_isnt_alike h = h

pub no_content_isnt_alike : NoContentIsntAlike
no_content_isnt_alike h = h
