-- The blocks that a round of the engine's trees made are whole, as they are told.
use Rattle.std.proofs.Common.{ℕ, List, [], ◌∷◌, map, Option, Some, None, IfSome, arith}
use Rattle.std.specs.Prelude.{IsPermutation, option_to_list}
use Rattle.std.specs.List.{AllByRecursion}
use Rattle.std.proofs.lemmas.List.Sorted.{IsPermutation-sym}
use Rattle.zio_types.specs.Choices.{Choice}
use Rattle.zio_blkptr.specs.declared.pointer.Bp.{Bp}
use Rattle.zio_blkptr.specs.Pointers.{FitsTypes}
use Rattle.zio_cksum.proofs.AllLemmas.{all_append, all_map}
use Rattle.zio_gang.specs.declared.tree.Tree.{Tree}
use Rattle.zio_gang.specs.Attempts.{Child, Ended, Pending, Terms}
use Rattle.zio_gang.specs.Journals.{AreLawful}
use Rattle.zio_gang.specs.Trees.{sizes_of}
use Rattle.zio_gang.specs.Pointers.{IsNoneOrValid}
use Rattle.zio_trace.specs.Families.{Forest, NoTrees, TreeOf}
use Rattle.zio_trace.specs.RoundRules.{task_ways}
use Rattle.zio_trace.specs.Rounds.{settles}
use Rattle.zio_trace.specs.Tasks.{Value}
use Rattle.zio_trace.specs.Together.{round_of}
use Rattle.zio_trace.specs.Underway.{AreAnswered}
use Rattle.zio_trace.proofs.AnyOrder.{all_permuted}
use Rattle.zio_disks.specs.Whole.{IsWholeTree}
use Rattle.zio_blocks.specs.Blocks.{HavePointers}
use Rattle.zio_course.specs.declared.runner.RequestEnd.{RequestEnd}
use Rattle.zio_course.specs.Runners.{finished_of, made_trees}
use Rattle.zio_exchange.specs.Wholes.{trees_in}
use Rattle.zio_graph.specs.EngineTrees.{AreSound, IsSoundPending}
use Rattle.zio_graph.proofs.OwnBlocks.{MayMake, MaySpell}
use Rattle.zio_graph.proofs.RoundBlocks.{AreMaking, EndsWhole, KeepsSpelled, round_whole}

-- ---- sound requests may make whole blocks

spelled_so : (pointer : Option Bp) → IsNoneOrValid pointer → IfSome pointer FitsTypes → MaySpell pointer
spelled_so None ok types = tt
spelled_so (Some bp) ok types = record { types = types; ok = ok }

all_spelled : (kept : List Child) → AllByRecursion (λ (c : Child). IsNoneOrValid c.pointer) kept
    → AllByRecursion (λ (c : Child). IfSome c.pointer FitsTypes) kept → AllByRecursion (λ (c : Child). MaySpell c.pointer) kept
all_spelled [] ok types = tt
all_spelled (c ∷ kept) ok types = (spelled_so c.pointer ok.0 types.0, all_spelled kept ok.1 types.1)

may_make : (children : ℕ) (p : Pending) → IsSoundPending children p → MayMake children p
may_make children p h = record {
  fits = h.range.work;
  some = h.some;
  born = (let born = h.born in omega arith);
  size = h.size;
  kept = all_spelled p.kept h.pointers h.types;
}

are_making : (f : Forest) → AreSound f → AreMaking f
are_making NoTrees h = tt
are_making (TreeOf p kids others) h = (may_make (trees_in kids) p h.0, are_making kids h.1, are_making others h.2)

pub sound_whole : (journal : List Choice) (t : Terms) (f : Forest) (ds : _) (values : List Value) → HavePointers t.setting.tops
    → AreLawful (sizes_of t.setting.tops) t.used journal → AreSound f → AreAnswered (task_ways journal t) (settles f) ds values
    → AllByRecursion EndsWhole (round_of values).ended × AllByRecursion (AllByRecursion KeepsSpelled) (round_of values).left
sound_whole journal t f ds values have lawful sound h = round_whole journal t f ds values have lawful (are_making f sound) h

-- ---- what is told of them

option_all : (tree : Option Tree) → IfSome tree IsWholeTree → AllByRecursion IsWholeTree (option_to_list tree)
option_all None h = tt
option_all (Some tree) h = (h, tt)

told_trees : (finished : List RequestEnd) → AllByRecursion (λ (f : RequestEnd). IfSome f.tree IsWholeTree) finished
    → AllByRecursion IsWholeTree (made_trees finished)
told_trees [] h = tt
told_trees (f ∷ finished) h =
    all_append IsWholeTree (option_to_list f.tree) (made_trees finished) (option_all f.tree h.0) (told_trees finished h.1)

-- in whatever order the requests finished
pub told_whole : (done ended : List Ended) (finished : List RequestEnd) → IsPermutation done ended
    → IsPermutation (map finished_of done) finished
    → AllByRecursion EndsWhole ended → AllByRecursion IsWholeTree (made_trees finished)
told_whole done ended finished moved told h =
    told_trees finished
    (all_permuted (λ (f : RequestEnd). IfSome f.tree IsWholeTree) (map finished_of done) finished told
    (all_map (λ (f : RequestEnd). IfSome f.tree IsWholeTree) finished_of done
    (all_permuted EndsWhole ended done (IsPermutation-sym done ended moved) h)))
