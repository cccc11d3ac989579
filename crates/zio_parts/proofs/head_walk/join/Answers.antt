use Rattle.std.proofs.Common.{◌≡◌, [], ◌∷◌, subst, rules}
use Rattle.zio_parts.specs.Gathers.{FitsIn, gathered}
use Rattle.zio_parts.specs.HeadWalks.{joined_behind, with_member}
use Rattle.zio_parts.proofs.GatherLemmas.{fits_less, fits_next, three_are}
use Rattle.zio_parts.proofs.head_walk.join.Goals as goal

pub put-requires : goal.put-requires
put-requires c =
    let head = c.args.head in
    let first = c.first-1.given.0 in
    let second = c.second-1.given.0 in
    let third = c.third-1.given.0 in
    let same : c.args.members ≡ first ∷ second ∷ third ∷ [] = three_are c.args.members first second third (search rules) (search rules) (search rules) (search rules) in
    fits_less (with_member (gathered head) first) (second ∷ third ∷ []) head (subst (λ ms. FitsIn (joined_behind (gathered head) ms) head) same c.requires)

pub put-requires-2 : goal.put-requires-2
put-requires-2 c =
    let head = c.args.head in
    let first = c.first-1.given.0 in
    let second = c.second-1.given.0 in
    let third = c.third-1.given.0 in
    let same : c.args.members ≡ first ∷ second ∷ third ∷ [] = three_are c.args.members first second third (search rules) (search rules) (search rules) (search rules) in
    let now = c.put.new.self in
    fits_less (with_member (gathered now) second) (third ∷ []) now
    (fits_next head now (gathered head) first (second ∷ third ∷ []) (subst (λ ms. FitsIn (joined_behind (gathered head) ms) head) same c.requires) c.put.ensures.room c.put.ensures.with)
