use Rattle.std.proofs.Common.{◌≡◌, ◌≤◌, ℕ, length, map, take, true}
use Rattle.std.specs.List.{AllByRecursion, list_all}
use Rattle.zio_types.specs.declared.place.Top.{Top}
use Rattle.zio_types.specs.Places.{is_lawful_top}
use Rattle.zio_cksum.specs.Images.{Images}
use Rattle.zio_gang.specs.Runs.{top_of}
use Rattle.zio_gang.specs.Trees.{sizes_of}
use Rattle.zio_disks.specs.Trees.{HasSectors}
use Rattle.zio_command.specs.declared.image.TheConstants.{IMAGE_LEN_MAX}
use Rattle.zio_command.specs.Outcomes.{HasLawfulSize}
use Rattle.zio_command.proofs.tops.tops_of.Given as goal

abbrev pub invariant-loop-line : goal.invariant-loop-line
invariant-loop-line l = record {
  ok : (images : Images) → map (length {A = ℕ}) images ≡ l.sizes → l.tops ≡ map (top_of images) (take l.line-index l.lines);
  bears : AllByRecursion (HasSectors l.sizes) l.tops;
  count : length l.tops ≡ l.line-index;
  short : AllByRecursion HasLawfulSize l.sizes → AllByRecursion (λ (top : Top). top.sectors ≤ IMAGE_LEN_MAX) l.tops;
  lawful : list_all is_lawful_top (sizes_of l.tops) ≡ true;
}
