-- How many bodies the walk over a block's headers may come to.
use Rattle.std.proofs.Common.{◌≡◌, ℕ, zero, suc, ◌+◌, ◌≤◌, List, [], ◌∷◌, ◌++◌, length, map, Bool, true, false, Option, Some, None, refl, ap, arith, length-append}
use Rattle.std.proofs.lemmas.List.{length-map}
use Rattle.std.specs.List.{cons_option, filter_map}
use Rattle.zio_blkptr.specs.declared.pointer.Bp.{Bp}
use Rattle.zio_blkptr.specs.Pointers.{pointer_of}
use Rattle.zio_cksum.specs.Headers.{slots}
use Rattle.zio_gang.specs.declared.tree.Head.{Head}
use Rattle.zio_gang.specs.Pieces.{members_kept}
use Rattle.zio_gang.specs.Trees.{header_levels_max, kept_at}
use Rattle.zio_trace.specs.BlockCopies.{Groups, below_copies, body_copies, copies_from, groups_if, groups_of_members, head_copies, no_groups}
use Rattle.zio_trace.specs.Footprints.{FindsBodies}
use Rattle.zio_trace.specs.Tasks.{Walked}
use Rattle.zio_nodes.specs.ReadBounds.{bodies_max}

-- ---- a header names three members at most

option_few : {X : Type 0} (o : Option X) (xs : List X) (n : ℕ) → length xs ≤ n → length (cons_option o xs) ≤ suc n
option_few None xs n h = omega (arith, h)
option_few (Some x) xs n h = omega (arith, h)

filter_few : {X Y : Type 0} (f : X → Option Y) (xs : List X) → length (filter_map f xs) ≤ length xs
filter_few f [] = omega arith
filter_few f (x ∷ xs) = option_few (f x) (filter_map f xs) (length xs) (filter_few f xs)

kept_few : (kept : Option (List ℕ)) → length (members_kept kept) ≤ 3
kept_few None = omega arith
kept_few (Some bytes) = filter_few pointer_of (slots bytes)

-- ---- over all levels

abbrev most : ℕ → ℕ
most zero = 1
most (suc levels) = most levels + most levels + most levels

most_some : (levels : ℕ) → 1 ≤ most levels
most_some zero = omega arith
most_some (suc levels) = let l = most_some levels in omega (arith, l)

abbrev many : ℕ → ℕ → ℕ
many zero k = 0
many (suc n) k = k + many n k

three_many : (n k : ℕ) → n ≤ 3 → many n k ≤ k + k + k
three_many zero k l = omega arith
three_many (suc zero) k l = omega arith
three_many (suc (suc zero)) k l = omega arith
three_many (suc (suc (suc zero))) k l = omega arith
three_many (suc (suc (suc (suc n)))) k l = absurd (omega (arith, l))

members_few : (groups : List ℕ → Bp → Groups) (k : ℕ) → ((path : List ℕ) (bp : Bp) → length (groups path bp).bodies ≤ k) → (path : List ℕ) (n : ℕ) (ms : List Bp)
    → length (groups_of_members groups path n ms).bodies ≤ many (length ms) k
members_few groups k few path n [] = omega arith
members_few groups k few path n (m ∷ ms) =
    let here : length (groups (path ++ n ∷ []) m).bodies ≤ k = few (path ++ n ∷ []) m in
    let rest : length (groups_of_members groups path (n + 1) ms).bodies ≤ many (length ms) k = members_few groups k few path (n + 1) ms in
    omega (arith, here, rest, length-append (groups (path ++ n ∷ []) m).bodies (groups_of_members groups path (n + 1) ms).bodies)

if_few : (gang : Bool) (bp : Bp) (groups : Groups) (k : ℕ) → 1 ≤ k → length groups.bodies ≤ k → length (groups_if gang bp groups).bodies ≤ k
if_few true bp groups k some few = few
if_few false bp groups k some few = some

copies_few : (levels : ℕ) (heads : List Head) (path : List ℕ) (bp : Bp) → length (copies_from levels heads path bp).bodies ≤ most levels
unfolding copies_from
copies_few zero heads path bp = if_few bp.gang bp no_groups 1 (omega arith) (omega arith)
copies_few (suc levels) heads path bp =
    let members : List Bp = members_kept (kept_at heads path) in
    let below : Groups = groups_of_members (copies_from levels heads) path 0 members in
    let each : length below.bodies ≤ many (length members) (most levels) =
    members_few (copies_from levels heads) (most levels) (λ p b. copies_few levels heads p b) path 0 members in
    let three : many (length members) (most levels) ≤ most levels + most levels + most levels = three_many (length members) (most levels) (kept_few (kept_at heads path)) in
    let one : 1 ≤ most levels = most_some levels in
    if_few bp.gang bp (below_copies (head_copies heads path bp) below) (most (suc levels)) (omega (arith, one)) (omega (arith, each, three))

all_most : most header_levels_max ≡ bodies_max
all_most = refl

-- where nothing failed, no more than a block has
pub walk_few : (heads : List Head) (bp : Bp) (w : Walked) → FindsBodies (copies_from header_levels_max heads [] bp).bodies w → w.errors ≡ [] → length w.bodies ≤ bodies_max
walk_few heads bp w finds none =
    let same : length (map body_copies w.bodies) ≡ length (copies_from header_levels_max heads [] bp).bodies = ap length (finds.1 none) in
    let few : length (copies_from header_levels_max heads [] bp).bodies ≤ most header_levels_max = copies_few header_levels_max heads [] bp in
    omega (arith, length-map w.bodies body_copies, same, few, all_most)
