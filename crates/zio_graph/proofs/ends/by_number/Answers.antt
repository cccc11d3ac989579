use Rattle.std.proofs.Common.{◌<◌, List, [], ◌∷◌, length, map, sym, ap, subst, rules, arith}
use Rattle.std.specs.Prelude.{IsPermutation}
use Rattle.std.specs.List.Sorted.{IsNonDecreasingBy}
use Rattle.std.proofs.lemmas.List.{get_or-map, length-map}
use Rattle.std.proofs.lemmas.List.Sorted.{IsNonDecreasingBy-from_sort, IsPermutation-map, answers_always}
use Rattle.zio_course.specs.declared.runner.RequestEnd.{RequestEnd}
use Rattle.zio_exchange.specs.declared.outcome.FinishedRequest.{FinishedRequest}
use Rattle.zio_graph.specs.Ends.{told_of}
use Rattle.zio_graph.proofs.ends.by_number.Goals as goal

-- what is told of requests in the order of their numbers is in that order
told_in_order : (fs : List FinishedRequest) → IsNonDecreasingBy (λ (f : FinishedRequest). f.request) fs
    → IsNonDecreasingBy (λ (f : RequestEnd). f.request) (map told_of fs)
told_in_order [] h = λ i j d le lt. absurd (omega (arith, lt))
told_in_order (f ∷ fs) h = λ i j d le lt.
    let below : j < length (f ∷ fs) = subst (λ n. j < n) (length-map (f ∷ fs) told_of) lt in
    let low = ap (λ (e : RequestEnd). e.request) (get_or-map told_of (f ∷ fs) i f d (omega (arith, le, below))) in
    let high = ap (λ (e : RequestEnd). e.request) (get_or-map told_of (f ∷ fs) j f d below) in
    omega (arith, low, high, h i j f le below)

pub returns-clause-same : goal.returns-clause-same
returns-clause-same g c =
    subst (λ (fs : List FinishedRequest). IsPermutation (map told_of c.args.ended.items) (map told_of fs)) (sym c.from_vec.ensures)
    (IsPermutation-map told_of c.args.ended.items c.sort_unstable_by_key.new.self.items
    c.sort_unstable_by_key.ensures.permutation)

pub returns-clause-order : goal.returns-clause-order
returns-clause-order g c =
    subst (λ (fs : List FinishedRequest). IsNonDecreasingBy (λ (f : RequestEnd). f.request) (map told_of fs)) (sym c.from_vec.ensures)
    (told_in_order c.sort_unstable_by_key.new.self.items (IsNonDecreasingBy-from_sort (λ (f : FinishedRequest). f.request) _
    (c.sort_unstable_by_key.ensures.sorted (λ (f : FinishedRequest). f.request) (answers_always _ _ _ (λ f a r k h. search rules)))))
