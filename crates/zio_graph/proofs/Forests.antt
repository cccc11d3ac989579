-- The trees of a round as one forest.
use Rattle.std.proofs.Common.{◌≡◌, ℕ, List, [], ◌∷◌, ◌++◌, map, Option, Some, option_to_list, refl, sym, ap, ◌∙◌, subst}
use Rattle.std.specs.List.{AllByRecursion}
use Rattle.zio_script.specs.declared.script.Request.{Request}
use Rattle.zio_gang.specs.Attempts.{Pending}
use Rattle.zio_trace.specs.Families.{Forest, NoTrees, TreeOf, flat}
use Rattle.zio_trace.specs.Rounds.{trees_in as trees_of}
use Rattle.zio_course.specs.Runners.{root_of, roots_of}
use Rattle.zio_sound.specs.Linked.{AreLinked}
use Rattle.zio_exchange.specs.Waits.{pendings}
use Rattle.zio_exchange.specs.Wholes.{AreTrees, IsTreeOf}
use Rattle.zio_exchange.specs.declared.waiting.UnfinishedRequest.{UnfinishedRequest}
use Rattle.zio_exchange.proofs.ForestLemmas.{forest_flat}
use Rattle.zio_graph.specs.EngineTrees.{AreSound, IsEngineTree}

-- ---- one tree

root_last : (ps : List Pending) (p : Pending) → root_of (ps ++ p ∷ []) ≡ Some p
root_last [] p = refl
root_last (q ∷ []) p = refl
root_last (q ∷ r ∷ ps) p = root_last (r ∷ ps) p

-- its requests, the root behind the others
pub tree_list : (ws : List UnfinishedRequest) (p : Pending) (kids : Forest) → IsTreeOf ws p kids → pendings ws ≡ flat kids ++ p ∷ []
tree_list ws p kids is = forest_flat ws (TreeOf p kids NoTrees) is

pub tree_root : (ws : List UnfinishedRequest) (p : Pending) (kids : Forest) → IsTreeOf ws p kids → root_of (pendings ws) ≡ Some p
tree_root ws p kids is = ap root_of (tree_list ws p kids is) ∙ root_last (flat kids) p

-- ---- all of them

-- These are the trees, whose requests are sound and stand under their parents, the roots under this one or none.
pub record AreEngineForest (under : Option ℕ) (trees : List (List UnfinishedRequest)) : Type 0 where
  pub forest : Forest
  pub are : AreTrees trees forest
  pub linked : AreLinked under forest
  pub sound : AreSound forest
  pub lists : trees_of forest ≡ map pendings trees

abbrev pub roots_by : Option Pending → List Request
roots_by root = map (λ (p : Pending). p.request) (option_to_list root)

pub forest_of : (under : Option ℕ) (trees : List (List UnfinishedRequest)) → AllByRecursion IsEngineTree trees
    → AllByRecursion (λ (r : Request). r.under ≡ under) (roots_of (map pendings trees)) → AreEngineForest under trees
forest_of under [] h roots = record { forest = NoTrees; are = tt; linked = tt; sound = tt; lists = refl }
forest_of under (ws ∷ trees) h roots =
    let first : IsEngineTree ws = h.0 in
    let both : AllByRecursion (λ (r : Request). r.under ≡ under) (roots_by (Some first.root) ++ roots_of (map pendings trees)) =
    subst (λ (root : Option Pending). AllByRecursion (λ (r : Request). r.under ≡ under) (roots_by root ++ roots_of (map pendings trees)))
    (tree_root ws first.root first.kids first.is) roots in
    let rest : AreEngineForest under trees = forest_of under trees h.1 both.1 in
    record {
      forest = TreeOf first.root first.kids rest.forest;
      are = (first.is, rest.are);
      linked = (both.0, first.linked, rest.linked);
      sound = (first.sound.0, first.sound.1, rest.sound);
      lists = ap (λ (ps : List Pending). ps ∷ trees_of rest.forest) (sym (tree_list ws first.root first.kids first.is))
          ∙ ap (λ (tss : List (List Pending)). pendings ws ∷ tss) rest.lists;
    }
