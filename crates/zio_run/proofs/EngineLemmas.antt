-- What the engine on one thread asks of a script's setting.
use Rattle.std.proofs.Common.{◌<◌, ◌≤◌, ℕ, List, [], ◌∷◌, arith}
use Rattle.std.specs.List.{AllByRecursion}
use Rattle.zio_types.specs.declared.place.Top.{Top}
use Rattle.zio_script.specs.declared.limits.TheConstants.{LEAF_MAX}
use Rattle.zio_cksum.proofs.AllLemmas.{all_weaker}
use Rattle.zio_cksum.specs.Images.{Setting}
use Rattle.zio_command.specs.declared.image.TheConstants.{IMAGE_LEN_MAX}
use Rattle.zio_command.specs.Grounds.{IsPoolOver}
use Rattle.zio_command.specs.Tops.{AreTopLeaves}
use Rattle.zio_stages.specs.Tops.{IsTop}
use Rattle.zio_graph.specs.Graphs.{CanRun}

each_top : (tops : List Top) → AllByRecursion (λ (top : Top). AreTopLeaves top.leaves) tops
    → AllByRecursion (λ (top : Top). top.sectors ≤ IMAGE_LEN_MAX) tops → AllByRecursion IsTop tops
each_top [] leaves short = tt
each_top (top ∷ tops) leaves short = (
  record {
    some = leaves.0.some;
    few = leaves.0.few;
    images = all_weaker (λ leaf. leaf ≤ LEAF_MAX) (λ n. n < 16) top.leaves (λ n within. omega (arith, within)) leaves.0.each;
    sectors = (let few = short.0 in omega (arith, few));
  },
  each_top tops leaves.1 short.1,
)

pub can_run : (s : Setting) (sizes : List ℕ) → IsPoolOver s sizes → CanRun s sizes
can_run s sizes pool = record {
  bears = pool.bears;
  pointers = pool.pointers;
  tops = record {
    few = (let most = pool.few in omega (arith, most));
    each = each_top s.tops pool.leaves pool.short;
  };
  leaves_once = pool.leaves_once;
  leaves_differ = pool.leaves_differ;
}
