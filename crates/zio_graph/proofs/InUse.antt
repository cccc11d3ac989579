-- Which places are in use after a round: those that stayed, and those of blocks that were made.
use Rattle.std.proofs.Common.{◌≡◌, ℕ, ◌≤◌, List, [], ◌∷◌, ◌++◌, filter, map, Bool, true, false, ◌==◌, eq-eqb, eqb-true, Option, is_none, option_to_list, refl, sym, ap, ◌∙◌, subst, inl, inr, ◌⊎◌}
use Rattle.std.specs.Prelude.{Contains, IsPermutation, IsTrue, ◌&&◌, ◌↔◌}
use Rattle.std.specs.List.{AllByRecursion, flat_map, list_all}
use Rattle.std.proofs.lemmas.Bool.{and_from, and_parts}
use Rattle.std.proofs.lemmas.List.{append-nil}
use Rattle.std.proofs.lemmas.List.Sorted.{IsPermutation-sym}
use Rattle.zio_types.specs.declared.place.Place.{Place}
use Rattle.zio_types.specs.Places.{SamePlaces, are_open, is_inside}
use Rattle.zio_script.specs.declared.script.Request.{Request}
use Rattle.zio_script.specs.declared.script.Work.{Work}
use Rattle.zio_script.specs.declared.script.Work.TheVariants.{Claim, Free, Null, Read, Write}
use Rattle.zio_gang.specs.declared.tree.Tree.{Tree}
use Rattle.zio_gang.specs.Attempts.{Pending, Terms}
use Rattle.zio_gang.specs.Trees.{sizes_of, tree_places}
use Rattle.zio_trace.specs.Families.{Forest, flat}
use Rattle.zio_trace.specs.Rounds.{trees_in}
use Rattle.zio_cksum.proofs.PlaceSets.{pass_all}
use Rattle.zio_course.specs.declared.runner.RequestEnd.{RequestEnd}
use Rattle.zio_course.specs.Runners.{AreRunnable, Standing, finished_of, freed_by, freed_places, is_good_in, joined_trees, made_places, numbers_of, requests_in}
use Rattle.zio_course.proofs.SortLemmas.{IsOneOf, one_all, one_itself, one_map}
use Rattle.zio_course.proofs.NumberCounts.{counted, requests_counted}
use Rattle.zio_course.proofs.MadePlaces.{made_append}
use Rattle.zio_course.proofs.ItemLemmas.{any_in, any_out, filtered_in, filtered_out, found_one, image_of, of_part, one_found, part_of}
use Rattle.zio_course.proofs.MadePlaces.{made_inside, made_open, made_same}
use Rattle.zio_course.proofs.NumberSorts.{all_moved}
use Rattle.zio_exchange.specs.Outcomes.{freed_if, freed_of}
use Rattle.zio_turns.specs.Ledgers.{Ending, IsEnding, all_ended, freed_for, freed_in, made_for, made_in}
use Rattle.zio_graph.specs.InUse.{LeavesInUse}
use Rattle.zio_graph.specs.RoundEnds.{IsByNumber}
use Rattle.zio_graph.proofs.RoundEnds.{one_numbered}
use Rattle.zio_graph.proofs.Sounds.{joined_flat}

-- ---- the blocks that were made, as they are told

made_told : (done : List Ending) → made_places (map finished_of (all_ended done)) ≡ made_in done
made_told [] = refl
made_told (x ∷ xs) =
    made_append (finished_of x.ended ∷ []) (map finished_of (all_ended xs))
    ∙ ap (λ (ps : List Place). ps ++ made_places (map finished_of (all_ended xs)))
    (ap (λ (ts : List Tree). flat_map tree_places ts) (append-nil (option_to_list x.ended.tree)))
    ∙ ap (λ (ps : List Place). made_for x ++ ps) (made_told xs)

-- ---- the blocks that were freed, as they are told

-- the request of the trees which finished so
pub record IsOwner (trees : List (List Pending)) (x : Ending) : Type 0 where
  pub owner : Pending
  pub at : IsOneOf owner (joined_trees trees)
  pub request : owner.request ≡ x.request.request
  pub block : owner.block ≡ x.request.block

pub owner_of : (t : Terms) (f : Forest) (trees : List (List Pending)) (x : Ending) → trees_in f ≡ trees → IsEnding t f x → IsOwner trees x
owner_of t f trees x are ending =
    let first = ending.from.from.0 in record {
      owner = first.0;
      at = subst (IsOneOf first.0) (sym (joined_flat f) ∙ ap joined_trees are) (found_one first.0 (flat f) first.1);
      request = first.2;
      block = first.3;
    }

freed_alike : (work : Work) (block : Option Tree) → freed_of work block ≡ freed_by work block
freed_alike Null block = refl
freed_alike (Read name prio) block = refl
freed_alike (Write name sum copies prio body) block = refl
freed_alike (Free name) block = refl
freed_alike (Claim name pointer) block = refl

owner_frees : (trees : List (List Pending)) (x : Ending) → (o : IsOwner trees x)
    → freed_by o.owner.request.work o.owner.block ≡ freed_of x.request.request.work x.request.block
owner_frees trees x o =
    (λ i. freed_by (o.request i).work (o.block i)) ∙ sym (freed_alike x.request.request.work x.request.block)

one_moved : (g : RequestEnd) (xs ys : List RequestEnd) → IsPermutation xs ys → IsOneOf g xs → IsOneOf g ys
one_moved g xs ys moved at =
    one_all (λ (x : RequestEnd). IsOneOf x ys) g xs (all_moved (λ (x : RequestEnd). IsOneOf x ys) ys xs (IsPermutation-sym xs ys moved) (one_itself ys)) at

-- a place is freed with a request that finished without error
good_freed : (b : Bool) (ps : List Place) (p : Place) → IsOneOf p (freed_if b ps) → (b ≡ true) × IsOneOf p ps
good_freed true ps p at = (refl, at)
good_freed false ps p at = absurd at

freed_good : (b : Bool) (ps : List Place) (p : Place) → b ≡ true → IsOneOf p ps → IsOneOf p (freed_if b ps)
freed_good true ps p good at = at
freed_good false ps p good at = absurd (cc)

pending_numbers : (ps : List Pending) → numbers_of (map (λ (p : Pending). p.request) ps) ≡ map (λ (p : Pending). p.request.number) ps
pending_numbers [] = refl
pending_numbers (p ∷ ps) = ap (λ (ns : List ℕ). p.request.number ∷ ns) (pending_numbers ps)

pub pendings_once : (s : Standing) (trees : List (List Pending)) → AreRunnable s trees
    → (n : ℕ) → counted n (map (λ (p : Pending). p.request.number) (joined_trees trees)) ≤ 1
pendings_once s trees runs n =
    subst (λ (ns : List ℕ). counted n ns ≤ 1) (pending_numbers (joined_trees trees))
    (subst (λ (m : ℕ). m ≤ 1) (sym (requests_counted n (requests_in trees))) (runs.once n))

module _ (s : Standing) (t : Terms) (f : Forest) (trees : List (List Pending)) (done : List Ending) (finished : List RequestEnd)
    (are : trees_in f ≡ trees) (runs : AreRunnable s trees) (each : AllByRecursion (IsEnding t f) done)
    (by : IsByNumber (all_ended done) finished) where
  moved_to : (g : RequestEnd) → IsOneOf g (map finished_of (all_ended done)) → IsOneOf g finished
  moved_to g at = one_moved g (map finished_of (all_ended done)) finished by.same at

  told : (p : Place) → IsOneOf p (freed_in done) → IsOneOf p (freed_places trees finished)
  told p at =
      let part = part_of freed_for done p at in
      let x : Ending = part.of in
      let ending : IsEnding t f x = one_all (IsEnding t f) x done each part.at in
      let o : IsOwner trees x = owner_of t f trees x are ending in
      let good = good_freed (is_none x.ended.error) (freed_of x.request.request.work x.request.block) p part.there in
      of_part (λ (q : Pending). freed_by q.request.work q.block)
      (filter (λ (q : Pending). is_good_in finished q.request.number) (joined_trees trees)) o.owner p
      (filtered_in (λ (q : Pending). is_good_in finished q.request.number) (joined_trees trees) o.owner o.at
      (any_in (λ (g : RequestEnd). (g.request == o.owner.request.number) && is_none g.error) finished (finished_of x.ended)
      (moved_to (finished_of x.ended) (one_map finished_of x.ended (all_ended done) (one_map (λ (y : Ending). y.ended) x done part.at)))
      (and_from (x.ended.request.number == o.owner.request.number) (is_none x.ended.error)
      (eq-eqb x.ended.request.number o.owner.request.number
      (ending.number ∙ ap (λ (r : Request). r.number) (sym o.request))) good.0)))
      (subst (IsOneOf p) (sym (owner_frees trees x o)) good.1)

  back : (p : Place) → IsOneOf p (freed_places trees finished) → IsOneOf p (freed_in done)
  back p at =
      let part = part_of (λ (q : Pending). freed_by q.request.work q.block)
      (filter (λ (q : Pending). is_good_in finished q.request.number) (joined_trees trees)) p at in
      let q = filtered_out (λ (q : Pending). is_good_in finished q.request.number) (joined_trees trees) part.of part.at in
      let good = any_out (λ (g : RequestEnd). (g.request == part.of.request.number) && is_none g.error) finished q.1 in
      let parts = and_parts (good.one.request == part.of.request.number) (is_none good.one.error) good.is in
      let told = image_of finished_of (all_ended done) good.one
      (one_moved good.one finished (map finished_of (all_ended done)) (IsPermutation-sym (map finished_of (all_ended done)) finished by.same) good.at) in
      let ended = image_of (λ (y : Ending). y.ended) done told.of told.at in
      let x : Ending = ended.of in
      let ending : IsEnding t f x = one_all (IsEnding t f) x done each ended.at in
      let o : IsOwner trees x = owner_of t f trees x are ending in
      let same : finished_of x.ended ≡ good.one = ap finished_of ended.is ∙ told.is in
      let one : o.owner ≡ part.of =
      one_numbered (λ (y : Pending). y.request.number) o.owner part.of (joined_trees trees) (pendings_once s trees runs) o.at q.0
      (ap (λ (r : Request). r.number) o.request ∙ (sym ending.number ∙ (ap (λ (g : RequestEnd). g.request) same
      ∙ eqb-true good.one.request part.of.request.number parts.0))) in
      of_part freed_for done x p ended.at
      (freed_good (is_none x.ended.error) (freed_of x.request.request.work x.request.block) p
      (ap (λ (g : RequestEnd). is_none g.error) same ∙ parts.1)
      (subst (IsOneOf p) (ap (λ (y : Pending). freed_by y.request.work y.block) (sym one) ∙ owner_frees trees x o) part.there))

  freed_told : SamePlaces (freed_in done) (freed_places trees finished)
  freed_told p = (
    (λ c. one_found p (freed_places trees finished) (told p (found_one p (freed_in done) c))),
    (λ c. one_found p (freed_in done) (back p (found_one p (freed_places trees finished) c))),
  )

-- ---- all of it

pub leaves_in_use : (s : Standing) (t : Terms) (f : Forest) (trees : List (List Pending)) (done : List Ending) (finished : List RequestEnd)
    (live : List Place) → trees_in f ≡ trees → AreRunnable s trees → AllByRecursion (IsEnding t f) done → IsByNumber (all_ended done) finished
    → AllByRecursion (λ (p : Place). IsTrue (is_inside (sizes_of s.tops) p)) (made_in done) → are_open s.live (made_in done) ≡ true
    → ((p : Place) → Contains live p ↔ ((Contains s.live p × ¬ Contains (freed_in done) p) ⊎ Contains (made_in done) p))
    → LeavesInUse s trees finished live
leaves_in_use s t f trees done finished live are runs each by made_within made_free lives = record {
  inside = made_inside (sizes_of s.tops) (map finished_of (all_ended done)) finished by.same
      (subst (λ (ps : List Place). IsTrue (list_all (is_inside (sizes_of s.tops)) ps)) (sym (made_told done))
      (pass_all (is_inside (sizes_of s.tops)) (made_in done) made_within));
  free = made_open s.live s.live (map finished_of (all_ended done)) finished (λ p. ((λ c. c), (λ c. c))) by.same
      (subst (λ (ps : List Place). are_open s.live ps ≡ true) (sym (made_told done)) made_free);
  live_is = λ p. ((λ c. forth p ((lives p).0 c)), (λ c. (lives p).1 (back p c)));
}
  where
    freed : SamePlaces (freed_in done) (freed_places trees finished)
    freed = freed_told s t f trees done finished are runs each by

    made : SamePlaces (made_in done) (made_places finished)
    made = subst (λ (ps : List Place). SamePlaces ps (made_places finished)) (made_told done)
        (made_same (map finished_of (all_ended done)) finished by.same)

    forth : (p : Place) → (Contains s.live p × ¬ Contains (freed_in done) p) ⊎ Contains (made_in done) p
        → (Contains s.live p × ¬ Contains (freed_places trees finished) p) ⊎ Contains (made_places finished) p
    forth p (inl stays) = inl (stays.0, λ c. stays.1 ((freed p).1 c))
    forth p (inr new) = inr ((made p).0 new)

    back : (p : Place) → (Contains s.live p × ¬ Contains (freed_places trees finished) p) ⊎ Contains (made_places finished) p
        → (Contains s.live p × ¬ Contains (freed_in done) p) ⊎ Contains (made_in done) p
    back p (inl stays) = inl (stays.0, λ c. stays.1 ((freed p).0 c))
    back p (inr new) = inr ((made p).1 new)
