use Rattle.std.proofs.Common.{◌≡◌, ◌≤◌, ◌*◌, ◌-◌, ◌∷◌, ℕ, List, length, take, drop, sym, subst, arith}
use Rattle.std.specs.List.{AllByRecursion}
use Rattle.std.specs.Prelude.{slice_index_or}
use Rattle.zio_types.specs.Places.{sector_size}
use Rattle.zio_command.proofs.TopLemmas.{fits_more, numbers_split}
use Rattle.zio_command.proofs.tops.+least_sectors.Goals as goal

pub returns-in-len1-up-clause-fits : goal.returns-in-len1-up-clause-fits
returns-in-len1-up-clause-fits t c =
    let leaves = c.args.leaves.now in
    let leaf = slice_index_or leaves 0 0 in
    let rest = take (length leaves - 1) (drop 1 leaves) in
    let some : 1 ≤ length leaves = (let more : 2 ≤ length leaves = c.in-len1-up.len_at_least in omega arith) in
    let e : leaves ≡ leaf ∷ rest = numbers_split leaves some in
    subst (λ (ns : List ℕ). AllByRecursion (λ n. c.min.result * sector_size ≤ slice_index_or c.args.sizes.now n 0) ns) (sym e)
    (fits_more c.args.sizes.now leaf rest c.sectors_at-in-len1-up.result c.least_sectors.result c.min.result
    c.sectors_at-in-len1-up.ensures c.min.ensures c.least_sectors.ensures.fits)
