-- Which blocks a round freed: those that its trees name in frees without error.
use Rattle.std.proofs.Common.{◌≡◌, ℕ, List, [], ◌∷◌, ◌++◌, filter, Bool, true, ◌⊎◌, inl, inr, refl, sym, ap, ◌∙◌, subst}
use Rattle.std.specs.Prelude.{IsPermutation, Option, Some, None, is_none, option_to_list, ◌==◌, ◌&&◌}
use Rattle.std.specs.List.{AllByRecursion}
use Rattle.std.proofs.lemmas.Bool.{and_from, and_parts, eq-eqb, eqb-true}
use Rattle.std.proofs.lemmas.List.Sorted.{IsPermutation-sym}
use Rattle.zio_types.specs.declared.error.Errno.{Errno}
use Rattle.zio_types.specs.declared.place.Place.{Place}
use Rattle.zio_types.specs.Places.{SamePlaces}
use Rattle.zio_cksum.proofs.AllLemmas.{all_append, all_weaker}
use Rattle.zio_script.specs.declared.script.Request.{Request}
use Rattle.zio_gang.specs.declared.tree.Tree.{Tree}
use Rattle.zio_gang.specs.Attempts.{Pending}
use Rattle.zio_course.specs.declared.runner.RequestEnd.{RequestEnd}
use Rattle.zio_course.specs.Runners.{freed_by, freed_places, is_good_in, joined_trees}
use Rattle.zio_course.proofs.SortLemmas.{IsOneOf, one_all, one_itself, one_left, one_map, one_right}
use Rattle.zio_plain.specs.declared.judge.Fate.{Fate}
use Rattle.zio_plain.specs.declared.judge.Fate.TheVariants.{Ends, Again}
use Rattle.zio_plain.specs.declared.waiting.Waiting.{Waiting}
use Rattle.zio_plain.specs.Judgments.{ends_of, freed_block}
use Rattle.zio_plain.specs.Passes.{AreChained, AreNumberedApart, Fated, IsFated, IsFateOf, all_ends, all_freed, ends_in, freed_in, freed_of, freed_unless, left_in, waitings_in}
use Rattle.zio_plain.specs.Settlings.{IsTreeRun, TreeRun, ends_run, freed_run, requests_run, trees_in}
use Rattle.zio_plain.specs.Waits.{pending_of, pendings}
use Rattle.zio_plain.proofs.OwnerLemmas.{joined_runs, left_was, one_number}
use Rattle.zio_course.proofs.ItemLemmas.{any_in, any_out, filtered_in, filtered_out, found_one, image_of, of_part, one_either, one_found, part_of}
use Rattle.zio_plain.proofs.PlainFreed.{block_freed, freed_again, places_append, places_in, to_free}
use Rattle.zio_course.proofs.NumberSorts.{all_moved}

-- one of the requests finished without error, and gave back this place
pub record IsGiven (ws : List Waiting) (fs : List RequestEnd) (p : Place) : Type 0 where
  pub owner : Waiting
  pub at : IsOneOf owner ws
  pub end : RequestEnd
  pub there : IsOneOf end fs
  pub number : end.request ≡ owner.request.number
  pub good : end.error ≡ None
  pub place : IsOneOf p (to_free owner)

given_more : (xs ys : List Waiting) (es fs : List RequestEnd) (p : Place) → ((w : Waiting) → IsOneOf w xs → IsOneOf w ys) → ((f : RequestEnd) → IsOneOf f es → IsOneOf f fs) → IsGiven xs es p → IsGiven ys fs p
given_more xs ys es fs p more ends h = record {
  owner = h.owner;
  at = more h.owner h.at;
  end = h.end;
  there = ends h.end h.there;
  number = h.number;
  good = h.good;
  place = h.place;
}

pass_given : (fs : List Fated) (p : Place) → AllByRecursion IsFated fs → IsOneOf p (places_in (freed_in fs)) → IsGiven (waitings_in fs) (ends_in fs) p
pass_given [] p each at = absurd at
pass_given (x ∷ fs) p each at =
    one x.fate each.0.is (λ k. pass_given fs p each.1 k)
    (one_either p (places_in (freed_of x.waiting x.fate)) (places_in (freed_in fs)) (subst (IsOneOf p) (places_append (freed_of x.waiting x.fate) (freed_in fs)) at))
  where
    later : (es : List RequestEnd) → IsGiven (waitings_in fs) (ends_in fs) p → IsGiven (x.waiting ∷ waitings_in fs) (es ++ ends_in fs) p
    later es g = given_more (waitings_in fs) (x.waiting ∷ waitings_in fs) (ends_in fs) (es ++ ends_in fs) p (λ w h. inr h) (λ f h. one_right f es (ends_in fs) h) g

    ended : (e : RequestEnd) (error : Option Errno) → e.error ≡ error → IsFateOf x.waiting each.0.kids (Ends e) → IsOneOf p (places_in (freed_unless error (freed_block x.waiting.request.work x.waiting.block)))
        → IsGiven (x.waiting ∷ waitings_in fs) (e ∷ ends_in fs) p
    ended e None none is k = record {
      owner = x.waiting;
      at = inl refl;
      end = e;
      there = inl refl;
      number = is.request;
      good = none;
      place = subst (IsOneOf p) (block_freed x.waiting.request.work x.waiting.block) k;
    }
    ended e (Some error) none is k = absurd k

    one : (fate : Fate) → IsFateOf x.waiting each.0.kids fate → (IsOneOf p (places_in (freed_in fs)) → IsGiven (waitings_in fs) (ends_in fs) p) → IsOneOf p (places_in (freed_of x.waiting fate)) ⊎ IsOneOf p (places_in (freed_in fs))
        → IsGiven (x.waiting ∷ waitings_in fs) (ends_of fate ++ ends_in fs) p
    one (Ends e) is rest (inl k) = ended e e.error refl is k
    one (Ends e) is rest (inr k) = later (e ∷ []) (rest k)
    one (Again v) is rest (inl k) = absurd k
    one (Again v) is rest (inr k) = later [] (rest k)

chain_given : (tree : List Waiting) (passes : List (List Fated)) (left : List Waiting) (p : Place) → AreChained tree passes left → IsOneOf p (places_in (all_freed passes)) → IsGiven tree (all_ends passes) p
chain_given tree [] left p h at = absurd at
chain_given tree (fs ∷ passes) left p h at =
    which (λ k. chain_given (left_in fs) passes left p h.1 k) (one_either p (places_in (freed_in fs)) (places_in (all_freed passes)) (subst (IsOneOf p) (places_append (freed_in fs) (all_freed passes)) at))
  where
    which : (IsOneOf p (places_in (all_freed passes)) → IsGiven (left_in fs) (all_ends passes) p) → IsOneOf p (places_in (freed_in fs)) ⊎ IsOneOf p (places_in (all_freed passes)) → IsGiven tree (all_ends (fs ∷ passes)) p
    which rest (inl k) =
        given_more (waitings_in fs) tree (ends_in fs) (all_ends (fs ∷ passes)) p (λ w. subst (IsOneOf w) (sym h.0.whole)) (λ f at. one_left f (ends_in fs) (all_ends passes) at) (pass_given fs p h.0.each k)
    which rest (inr k) =
        let g = rest k in
        let w = left_was fs g.owner h.0.each g.at in record {
          owner = w.before;
          at = subst (IsOneOf w.before) (sym h.0.whole) w.at;
          end = g.end;
          there = one_right g.end (ends_in fs) (all_ends passes) g.there;
          number = g.number ∙ ap (λ (r : Request). r.number) w.request;
          good = g.good;
          place = subst (IsOneOf p) (freed_again w.before g.owner w.request w.block) g.place;
        }

runs_given : (runs : List TreeRun) (p : Place) → AllByRecursion IsTreeRun runs → IsOneOf p (places_in (freed_run runs)) → IsGiven (requests_run runs) (ends_run runs) p
runs_given [] p each at = absurd at
runs_given (r ∷ runs) p each at =
    which (λ k. runs_given runs p each.1 k) (one_either p (places_in (all_freed r.passes)) (places_in (freed_run runs)) (subst (IsOneOf p) (places_append (all_freed r.passes) (freed_run runs)) at))
  where
    which : (IsOneOf p (places_in (freed_run runs)) → IsGiven (requests_run runs) (ends_run runs) p) → IsOneOf p (places_in (all_freed r.passes)) ⊎ IsOneOf p (places_in (freed_run runs)) → IsGiven (requests_run (r ∷ runs)) (ends_run (r ∷ runs)) p
    which rest (inl k) =
        given_more r.tree (requests_run (r ∷ runs)) (all_ends r.passes) (ends_run (r ∷ runs)) p (λ w h. one_left w r.tree (requests_run runs) h) (λ f h. one_left f (all_ends r.passes) (ends_run runs) h)
        (chain_given r.tree r.passes r.left p each.0.chained k)
    which rest (inr k) =
        given_more (requests_run runs) (requests_run (r ∷ runs)) (ends_run runs) (ends_run (r ∷ runs)) p (λ w h. one_right w r.tree (requests_run runs) h) (λ f h. one_right f (all_ends r.passes) (ends_run runs) h)
        (rest k)

-- ---- all of them

-- the request of this end gave back all places of the block that it freed
pub record IsFreeing (freed : List Place) (ws : List Waiting) (f : RequestEnd) : Type 0 where
  pub owner : Waiting
  pub at : IsOneOf owner ws
  pub number : f.request ≡ owner.request.number
  pub all : f.error ≡ None → (p : Place) → IsOneOf p (to_free owner) → IsOneOf p freed

freeing_more : (ps qs : List Place) (xs ys : List Waiting) (fs : List RequestEnd) → ((p : Place) → IsOneOf p ps → IsOneOf p qs) → ((w : Waiting) → IsOneOf w xs → IsOneOf w ys) → AllByRecursion (IsFreeing ps xs) fs
    → AllByRecursion (IsFreeing qs ys) fs
freeing_more ps qs xs ys fs more at h =
    all_weaker (IsFreeing ps xs) (IsFreeing qs ys) fs (λ f k. record { owner = k.owner; at = at k.owner k.at; number = k.number; all = λ none p there. more p (k.all none p there) }) h

freed_left : (p : Place) (xs ys : List Tree) → IsOneOf p (places_in xs) → IsOneOf p (places_in (xs ++ ys))
freed_left p xs ys at = subst (IsOneOf p) (sym (places_append xs ys)) (one_left p (places_in xs) (places_in ys) at)

freed_right : (p : Place) (xs ys : List Tree) → IsOneOf p (places_in ys) → IsOneOf p (places_in (xs ++ ys))
freed_right p xs ys at = subst (IsOneOf p) (sym (places_append xs ys)) (one_right p (places_in xs) (places_in ys) at)

pass_freeing : (fs : List Fated) → AllByRecursion IsFated fs → AllByRecursion (IsFreeing (places_in (freed_in fs)) (waitings_in fs)) (ends_in fs)
pass_freeing [] each = tt
pass_freeing (x ∷ fs) each =
    one x.fate each.0.is (freeing_more (places_in (freed_in fs)) (places_in (freed_of x.waiting x.fate ++ freed_in fs)) (waitings_in fs) (x.waiting ∷ waitings_in fs) (ends_in fs)
    (λ p at. freed_right p (freed_of x.waiting x.fate) (freed_in fs) at) (λ w at. inr at) (pass_freeing fs each.1))
  where
    mine : (e : RequestEnd) (error : Option Errno) → e.error ≡ error → e.error ≡ None → (p : Place) → IsOneOf p (to_free x.waiting)
        → IsOneOf p (places_in (freed_unless error (freed_block x.waiting.request.work x.waiting.block) ++ freed_in fs))
    mine e None at none p there =
        freed_left p (option_to_list (freed_block x.waiting.request.work x.waiting.block)) (freed_in fs) (subst (IsOneOf p) (sym (block_freed x.waiting.request.work x.waiting.block)) there)
    mine e (Some error) at none p there = let no : Some error ≡ None = sym at ∙ none in absurd (cc)

    one : (fate : Fate) → IsFateOf x.waiting each.0.kids fate → AllByRecursion (IsFreeing (places_in (freed_of x.waiting fate ++ freed_in fs)) (x.waiting ∷ waitings_in fs)) (ends_in fs)
        → AllByRecursion (IsFreeing (places_in (freed_of x.waiting fate ++ freed_in fs)) (x.waiting ∷ waitings_in fs)) (ends_of fate ++ ends_in fs)
    one (Ends e) is rest = (record { owner = x.waiting; at = inl refl; number = is.request; all = mine e e.error refl }, rest)
    one (Again v) is rest = rest

chain_freeing : (tree : List Waiting) (passes : List (List Fated)) (left : List Waiting) → AreChained tree passes left → AllByRecursion (IsFreeing (places_in (all_freed passes)) tree) (all_ends passes)
chain_freeing tree [] left h = tt
chain_freeing tree (fs ∷ passes) left h =
    all_append (IsFreeing (places_in (all_freed (fs ∷ passes))) tree) (ends_in fs) (all_ends passes)
    (freeing_more (places_in (freed_in fs)) (places_in (all_freed (fs ∷ passes))) (waitings_in fs) tree (ends_in fs) (λ p at. freed_left p (freed_in fs) (all_freed passes) at)
    (λ w. subst (IsOneOf w) (sym h.0.whole)) (pass_freeing fs h.0.each))
    (all_weaker (IsFreeing (places_in (all_freed passes)) (left_in fs)) (IsFreeing (places_in (all_freed (fs ∷ passes))) tree) (all_ends passes)
    (λ f k. (let w = left_was fs k.owner h.0.each k.at in record {
      owner = w.before;
      at = subst (IsOneOf w.before) (sym h.0.whole) w.at;
      number = k.number ∙ ap (λ (r : Request). r.number) w.request;
      all = λ none p there. freed_right p (freed_in fs) (all_freed passes) (k.all none p (subst (IsOneOf p) (sym (freed_again w.before k.owner w.request w.block)) there));
    }))
    (chain_freeing (left_in fs) passes left h.1))

runs_freeing : (runs : List TreeRun) → AllByRecursion IsTreeRun runs → AllByRecursion (IsFreeing (places_in (freed_run runs)) (requests_run runs)) (ends_run runs)
runs_freeing [] each = tt
runs_freeing (r ∷ runs) each =
    all_append (IsFreeing (places_in (freed_run (r ∷ runs))) (requests_run (r ∷ runs))) (all_ends r.passes) (ends_run runs)
    (freeing_more (places_in (all_freed r.passes)) (places_in (freed_run (r ∷ runs))) r.tree (requests_run (r ∷ runs)) (all_ends r.passes) (λ p at. freed_left p (all_freed r.passes) (freed_run runs) at)
    (λ w at. one_left w r.tree (requests_run runs) at) (chain_freeing r.tree r.passes r.left each.0.chained))
    (freeing_more (places_in (freed_run runs)) (places_in (freed_run (r ∷ runs))) (requests_run runs) (requests_run (r ∷ runs)) (ends_run runs) (λ p at. freed_right p (all_freed r.passes) (freed_run runs) at)
    (λ w at. one_right w r.tree (requests_run runs) at) (runs_freeing runs each.1))

-- ---- the places that were freed

good_from : (f : RequestEnd) (n : ℕ) → f.request ≡ n → f.error ≡ None → ((f.request == n) && is_none f.error) ≡ true
good_from f n number none = and_from (f.request == n) (is_none f.error) (eq-eqb f.request n number) (ap is_none none)

none_from : (error : Option Errno) → is_none error ≡ true → error ≡ None
none_from None e = refl
none_from (Some x) e = absurd (cc)

moved_in : (f : RequestEnd) (xs ys : List RequestEnd) → IsPermutation xs ys → IsOneOf f xs → IsOneOf f ys
moved_in f xs ys moved at = one_all (λ x. IsOneOf x ys) f xs (all_moved (λ x. IsOneOf x ys) ys xs (IsPermutation-sym xs ys moved) (one_itself ys)) at

-- the request finished without error
abbrev is_done : List RequestEnd → Pending → Bool
is_done finished q = is_good_in finished q.request.number

pub freed_same : (trees : List (List Pending)) (runs : List TreeRun) (finished : List RequestEnd) → trees ≡ trees_in runs → AllByRecursion IsTreeRun runs → AreNumberedApart (requests_run runs) → IsPermutation (ends_run runs) finished
    → SamePlaces (places_in (freed_run runs)) (freed_places trees finished)
freed_same trees runs finished whole each apart moved p =
    (λ c. one_found p (freed_places trees finished) (there (found_one p (places_in (freed_run runs)) c)), λ c. one_found p (places_in (freed_run runs)) (back (found_one p (freed_places trees finished) c)))
  where
    joined : joined_trees trees ≡ pendings (requests_run runs)
    joined = ap joined_trees whole ∙ joined_runs runs

    there : IsOneOf p (places_in (freed_run runs)) → IsOneOf p (freed_places trees finished)
    there at =
        let g = runs_given runs p each at in
        let q : Pending = pending_of g.owner in
        of_part (λ (x : Pending). freed_by x.request.work x.block) (filter (is_done finished) (joined_trees trees)) q p
        (filtered_in (is_done finished) (joined_trees trees) q (subst (IsOneOf q) (sym joined) (one_map pending_of g.owner (requests_run runs) g.at))
        (any_in (λ (f : RequestEnd). (f.request == g.owner.request.number) && is_none f.error) finished g.end (moved_in g.end (ends_run runs) finished moved g.there) (good_from g.end g.owner.request.number g.number g.good)))
        g.place

    back : IsOneOf p (freed_places trees finished) → IsOneOf p (places_in (freed_run runs))
    back at =
        let part = part_of (λ (x : Pending). freed_by x.request.work x.block) (filter (is_done finished) (joined_trees trees)) p at in
        let q = filtered_out (is_done finished) (joined_trees trees) part.of part.at in
        let image = image_of pending_of (requests_run runs) part.of (subst (IsOneOf part.of) joined q.0) in
        let good = any_out (λ (f : RequestEnd). (f.request == part.of.request.number) && is_none f.error) finished q.1 in
        let parts = and_parts (good.one.request == part.of.request.number) (is_none good.one.error) good.is in
        let f = one_all (IsFreeing (places_in (freed_run runs)) (requests_run runs)) good.one (ends_run runs) (runs_freeing runs each) (moved_in good.one finished (ends_run runs) (IsPermutation-sym (ends_run runs) finished moved) good.at) in
        let number : image.of.request.number ≡ f.owner.request.number =
        ap (λ (x : Pending). x.request.number) image.is ∙ sym (eqb-true good.one.request part.of.request.number parts.0) ∙ f.number in
        let same : image.of ≡ f.owner = one_number f.owner image.of (requests_run runs) apart f.at image.at number in
        f.all (none_from good.one.error parts.1) p
        (subst (λ (w : Waiting). IsOneOf p (to_free w)) same (subst (λ (x : Pending). IsOneOf p (freed_by x.request.work x.block)) (sym image.is) part.there))
