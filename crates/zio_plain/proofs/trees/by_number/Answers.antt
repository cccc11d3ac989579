use Rattle.std.proofs.Common.{◌≤◌, List, sym, subst, rules}
use Rattle.std.specs.Prelude.{IsPermutation}
use Rattle.std.specs.List.Sorted.{IsNonDecreasingBy}
use Rattle.std.proofs.lemmas.List.Sorted.{IsNonDecreasingBy-from_sort, answers_always}
use Rattle.zio_course.specs.declared.runner.RequestEnd.{RequestEnd}
use Rattle.zio_course.proofs.NumberSorts.{counted_moved, merged_is, numbers_rise, rising_by}
use Rattle.zio_plain.proofs.trees.by_number.Goals as goal

pub returns-clause-order : goal.returns-clause-order
returns-clause-order c =
    let ys : List RequestEnd = c.from_vec.result in
    let moved : IsPermutation c.args.finished ys =
    subst (λ xs. IsPermutation xs ys) c.into_vec-all.ensures (subst (IsPermutation c.into_vec-all.result.items) (sym c.from_vec.ensures) c.sort_unstable_by_key.ensures.permutation) in
    let sorted : IsNonDecreasingBy (λ (f : RequestEnd). f.request) c.sort_unstable_by_key.new.self.items =
    IsNonDecreasingBy-from_sort (λ (f : RequestEnd). f.request) _ (c.sort_unstable_by_key.ensures.sorted (λ (f : RequestEnd). f.request) (answers_always _ _ _ (λ f a r g h. search rules))) in
    merged_is c.args.finished ys moved
    (rising_by ys (subst (IsNonDecreasingBy (λ (f : RequestEnd). f.request)) (sym c.from_vec.ensures) sorted)
    (λ n. subst (λ m. m ≤ 1) (sym (counted_moved n c.args.finished ys moved)) (c.requires n)))

pub returns-clause-rising : goal.returns-clause-rising
returns-clause-rising c =
    let ys : List RequestEnd = c.from_vec.result in
    let moved : IsPermutation c.args.finished ys =
    subst (λ xs. IsPermutation xs ys) c.into_vec-all.ensures (subst (IsPermutation c.into_vec-all.result.items) (sym c.from_vec.ensures) c.sort_unstable_by_key.ensures.permutation) in
    let sorted : IsNonDecreasingBy (λ (f : RequestEnd). f.request) c.sort_unstable_by_key.new.self.items =
    IsNonDecreasingBy-from_sort (λ (f : RequestEnd). f.request) _ (c.sort_unstable_by_key.ensures.sorted (λ (f : RequestEnd). f.request) (answers_always _ _ _ (λ f a r g h. search rules))) in
    numbers_rise ys
    (rising_by ys (subst (IsNonDecreasingBy (λ (f : RequestEnd). f.request)) (sym c.from_vec.ensures) sorted)
    (λ n. subst (λ m. m ≤ 1) (sym (counted_moved n c.args.finished ys moved)) (c.requires n)))
