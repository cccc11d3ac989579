use Rattle.std.proofs.Common.{◌≡◌, ◌-◌, ◌∷◌, ℕ, List, length, take, drop, sym, subst}
use Rattle.std.specs.Prelude.{MatchOption, slice_index_or}
use Rattle.zio_command.specs.Tops.{HaveImages, IsFirstMissing}
use Rattle.zio_command.proofs.TopLemmas.{IsFirstMissing-first, missing_behind, numbers_split}
use Rattle.zio_command.proofs.tops.+missing_of.Goals as goal

pub returns-in-len1-up : goal.returns-in-len1-up
returns-in-len1-up t c =
    let leaves = c.args.leaves.now in
    let leaf = slice_index_or leaves 0 0 in
    let rest = take (length leaves - 1) (drop 1 leaves) in
    let e : leaves ≡ leaf ∷ rest = numbers_split leaves c.in-len1-up.len_at_least in
    subst (λ (ns : List ℕ). IsFirstMissing c.args.images ns leaf) (sym e) (IsFirstMissing-first c.args.images leaf rest c.if-leaf-images.true)

pub returns-in-len1-up-2 : goal.returns-in-len1-up-2
returns-in-len1-up-2 t c =
    let leaves = c.args.leaves.now in
    let leaf = slice_index_or leaves 0 0 in
    let rest = take (length leaves - 1) (drop 1 leaves) in
    let e : leaves ≡ leaf ∷ rest = numbers_split leaves c.in-len1-up.len_at_least in
    subst (λ (ns : List ℕ). MatchOption c.missing_of.result (HaveImages c.args.images ns) (IsFirstMissing c.args.images ns)) (sym e)
    (missing_behind c.args.images leaf rest c.missing_of.result c.if-leaf-images.false c.missing_of.ensures)
