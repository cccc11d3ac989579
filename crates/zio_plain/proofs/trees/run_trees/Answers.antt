use Rattle.std.proofs.Common.{◌≡◌, ◌+◌, ◌%◌, List, [], length, map, true, ap, sym, subst, ◌∙◌, rules}
use Rattle.std.proofs.lemmas.List.Sorted.{IsPermutation-sym}
use Rattle.std.specs.Prelude.{Contains, IfSome, IsPermutation}
use Rattle.std.specs.List.{AllByRecursion}
use Rattle.zio_types.specs.declared.journal.Completion.{Completion}
use Rattle.zio_types.specs.Places.{sector_size}
use Rattle.zio_disks.specs.Whole.{IsWholeTree}
use Rattle.zio_gang.specs.Attempts.{Pending}
use Rattle.zio_gang.specs.ByNumber.{merge_by}
use Rattle.zio_gang.specs.Journals.{CompleteAfterChildren, CompleteOnce}
use Rattle.zio_course.specs.declared.runner.RequestEnd.{RequestEnd}
use Rattle.zio_course.specs.Runners.{AreRestsOf, HasReadSize, MakesTree, completion_for, has_claim, numbers_of, requests_in}
use Rattle.zio_course.proofs.NumberCounts.{complete_once, counted, ends_numbers}
use Rattle.zio_plain.proofs.CountLemmas.{ends_are, ends_whole, run_counted, run_once, runs_ends}
use Rattle.zio_plain.specs.Settlings.{ends_run, trees_in, trees_left}
use Rattle.zio_plain.proofs.AfterLemmas.{runs_complete}
use Rattle.zio_plain.proofs.OwnerLemmas.{makers_right, reads_right, runs_apart}
use Rattle.zio_plain.proofs.RestLemmas.{runs_claims, runs_rests}
use Rattle.zio_course.proofs.NumberSorts.{all_moved, all_there, counted_moved}
use Rattle.zio_plain.proofs.trees.run_trees.Goals as goal

pub by_number-requires : goal.by_number-requires
by_number-requires g c =
    let r = c.in_ok-left.ensures.run in
    run_once c.args.trees r.each_run c.settle_trees.new.ends.finished r.each r.whole (ends_are c.settle_trees.new.ends.finished c.new.result r.each_run c.new.ensures r.finished) c.requires.once

pub returns-clause-ends : goal.returns-clause-ends
returns-clause-ends g c =
    let r = c.in_ok-left.ensures.run in
    let es : List RequestEnd = c.settle_trees.new.ends.finished in
    let fs : List RequestEnd = c.by_number.result in
    let is : es ≡ ends_run r.each_run = ends_are es c.new.result r.each_run c.new.ensures r.finished in
    let listed : c.in_ok-completions.completions ≡ map (completion_for c.args.round) es = c.in_ok-completions.ensures ∙ ap (map (completion_for c.args.round)) c.as_slice.ensures in
    record {
      each = λ n. run_counted n c.args.trees r.each_run es r.each r.whole is
          ∙ ap (λ m. m + counted n (numbers_of (requests_in (trees_left r.each_run)))) (sym (counted_moved n es fs c.by_number.ensures.same))
          ∙ ap (λ ts. counted n (ends_numbers fs) + counted n (numbers_of (requests_in ts))) (sym r.left_are);
      rests = subst (λ ts. AreRestsOf ts c.in_ok-left.left) (sym r.whole) (subst (AreRestsOf (trees_in r.each_run)) (sym r.left_are) (runs_rests r.each_run r.each));
      claims = ap (λ ts. has_claim (requests_in ts)) r.left_are
          ∙ runs_claims r.each_run r.each (subst (λ (ts : List (List Pending)). has_claim (requests_in ts) ≡ true → length (requests_in ts) ≡ 1) r.whole c.requires.claim);
      rising = c.by_number.ensures.rising;
      reads = all_moved (HasReadSize c.args.trees) es fs c.by_number.ensures.same
          (subst (AllByRecursion (HasReadSize c.args.trees)) (sym is) (reads_right c.args.trees r.each_run r.whole r.each (runs_apart c.args.trees r.each_run r.whole c.requires.once)));
      makers = all_moved (MakesTree c.args.trees) es fs c.by_number.ensures.same
          (subst (AllByRecursion (MakesTree c.args.trees)) (sym is) (makers_right c.args.trees r.each_run r.whole r.each (runs_apart c.args.trees r.each_run r.whole c.requires.once)));
      sectors = all_moved (λ (f : RequestEnd). length f.bytes % sector_size ≡ 0) es fs c.by_number.ensures.same
          (subst (AllByRecursion (λ (f : RequestEnd). length f.bytes % sector_size ≡ 0)) (sym is)
          (runs_ends (λ (f : RequestEnd). length f.bytes % sector_size ≡ 0) (λ w kids f e. e.sectors) r.each_run r.each));
      completed = subst (AllByRecursion (Contains (map (completion_for c.args.round) fs))) (sym listed) (all_there (completion_for c.args.round) es fs c.by_number.ensures.same);
      all_completed = subst (λ (cs : List Completion). AllByRecursion (Contains cs) (map (completion_for c.args.round) fs)) (sym listed)
          (all_there (completion_for c.args.round) fs es (IsPermutation-sym es fs c.by_number.ensures.same));
      after_children = subst (CompleteAfterChildren (requests_in c.args.trees)) (sym (listed ∙ ap (map (completion_for c.args.round)) is))
          (runs_complete c.args.round c.args.trees r.each_run r.whole r.each c.requires.roots (runs_apart c.args.trees r.each_run r.whole c.requires.once));
      once = subst CompleteOnce (sym listed) (complete_once c.args.round es (run_once c.args.trees r.each_run es r.each r.whole is c.requires.once));
    }

pub returns-clause-fits : goal.returns-clause-fits
returns-clause-fits g c =
    let r = c.in_ok-left.ensures.run in
    let es : List RequestEnd = c.settle_trees.new.ends.finished in
    let fs : List RequestEnd = c.by_number.result in
    let is : es ≡ ends_run r.each_run = ends_are es c.new.result r.each_run c.new.ensures r.finished in
    ends_whole fs (all_moved (λ (f : RequestEnd). IfSome f.tree IsWholeTree) es fs c.by_number.ensures.same
    (subst (AllByRecursion (λ (f : RequestEnd). IfSome f.tree IsWholeTree)) (sym is) (runs_ends (λ (f : RequestEnd). IfSome f.tree IsWholeTree) (λ w kids f e. e.whole) r.each_run r.each)))

pub returns-clause-run : goal.returns-clause-run
returns-clause-run g c =
    let r = c.in_ok-left.ensures.run in
    let is : c.settle_trees.new.ends.finished ≡ ends_run r.each_run = ends_are c.settle_trees.new.ends.finished c.new.result r.each_run c.new.ensures r.finished in
    record {
      each_run = r.each_run;
      whole = r.whole;
      left_are = r.left_are;
      each = r.each;
      finished_are = c.by_number.ensures.order ∙ ap (λ (fs : List RequestEnd). merge_by (λ (f : RequestEnd). f.request) fs []) is;
      same = subst (λ (fs : List RequestEnd). IsPermutation fs c.by_number.result) is c.by_number.ensures.same;
      completions_are = c.in_ok-completions.ensures ∙ ap (map (completion_for c.args.round)) (c.as_slice.ensures ∙ is);
      freed_are = search rules;
      moved = r.moved;
      asked = r.asked;
      told = r.told;
    }
