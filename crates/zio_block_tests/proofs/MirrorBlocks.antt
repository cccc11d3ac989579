-- Blocks on a mirror of two can be scrubbed.
use Rattle.std.proofs.Common.{◌≡◌, ◌∷◌, ℕ, zero, suc, [], List, refl, sym, subst, arith, true, IsTrue}
use Rattle.std.specs.List.{AllByRecursion, flat_map}
use Rattle.zio_types.specs.declared.place.Place.{Place}
use Rattle.zio_types.specs.declared.place.Top.{Top}
use Rattle.zio_types.specs.Places.{are_apart, is_inside}
use Rattle.zio_faults.specs.Hits.{RowFits}
use Rattle.zio_blkptr.specs.Pointers.{valid}
use Rattle.zio_cksum.specs.Images.{Setting}
use Rattle.zio_gang.specs.declared.tree.Tree.{Tree}
use Rattle.zio_gang.specs.Trees.{sizes_of, tree_places}
use Rattle.zio_trace.specs.Separate.{LeavesOnce}
use Rattle.zio_trace.specs.SoundRounds.{LeavesDiffer}
use Rattle.zio_scrub.specs.Pieces.{CanScrub}
use Rattle.zio_scrub.specs.Pools.{IsPool}
use Rattle.zio_scrub.proofs.PoolBlocks.{pool_scrub}

abbrev pub mirror : List Top
mirror = record { leaves = 0 ∷ 1 ∷ []; sectors = 128; unit = 1 } ∷ []

once : LeavesOnce mirror
once zero zero ne = absurd (ne refl)
once zero (suc k) ne = (tt, (tt, tt))
once (suc i) k ne = tt

differ : LeavesDiffer mirror
differ zero = (((λ e. omega arith), tt), (tt, tt))
differ (suc i) = tt

on_mirror : (s : Setting) → s.tops ≡ mirror → AllByRecursion RowFits s.rows → IsPool s (65536 ∷ 65536 ∷ [])
on_mirror s tops rows =
    subst (λ (ts : List Top). IsPool (record { tops = ts; rows = s.rows; point = s.point }) (65536 ∷ 65536 ∷ [])) (sym tops) (record {
      bears = record { rows = rows; tops = ((omega arith, (omega arith, tt)), tt) };
      few = omega arith;
      leaves = (record { some = omega arith; few = omega arith }, tt);
      leaves_once = once;
      leaves_differ = differ;
      small = (omega arith, (omega arith, tt));
    })

-- where the trees are these
pub can_scrub : (s : Setting) (sizes : List ℕ) (trees named : List Tree) → trees ≡ named → s.tops ≡ mirror → AllByRecursion RowFits s.rows
    → sizes ≡ 65536 ∷ 65536 ∷ [] → AllByRecursion (λ (tree : Tree). IsTrue (valid tree.bp)) named
    → AllByRecursion (λ (p : Place). IsTrue (is_inside (sizes_of mirror) p)) (flat_map tree_places named)
    → are_apart (flat_map tree_places named) ≡ true → CanScrub s sizes trees
can_scrub s sizes trees named same tops rows disks ok inside apart =
    subst (CanScrub s sizes) (sym same) (subst (λ (ns : List ℕ). CanScrub s ns named) (sym disks)
    (pool_scrub s (65536 ∷ 65536 ∷ []) named (on_mirror s tops rows) (record {
      valid = ok;
      inside = subst (λ (ts : List Top). AllByRecursion (λ (p : Place). IsTrue (is_inside (sizes_of ts) p)) (flat_map tree_places named)) (sym tops) inside;
      apart = apart;
    })))
