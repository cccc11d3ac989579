-- The pieces under a pointer, one level of headers after another.
use Rattle.std.proofs.Common.{◌≡◌, ℕ, zero, suc, ◌+◌, ◌-◌, ◌<◌, ◌≤◌, List, [], ◌∷◌, ◌++◌, append_assoc, length, get_or, take, drop, Bool, true, false, Option, Some, None, sym, ap, ◌∙◌, arith}
use Rattle.std.proofs.lemmas.Grind.{flat_map-append}
use Rattle.std.proofs.lemmas.List.{append-nil, map-append}
use Rattle.zio_types.specs.Places.{sector_size}
use Rattle.zio_blkptr.specs.declared.pointer.Bp.{Bp}
use Rattle.zio_cksum.specs.Blocks.{good_kept}
use Rattle.zio_disks.proofs.TreeLemmas.{few_members}
use Rattle.zio_disks.proofs.WriteLemmas.{rest_of}
use Rattle.zio_gang.specs.declared.bound.Bound.{Bound}
use Rattle.zio_gang.specs.declared.tree.Head.{Head}
use Rattle.zio_gang.specs.declared.tree.Tree.{Tree}
use Rattle.zio_gang.specs.Pieces.{Parts, Piece as Seen, below_piece, body_piece, head_piece, joined_parts, members_kept, no_parts, parts_from, parts_if, parts_of_members, pieces_of}
use Rattle.zio_gang.specs.Trees.{kept_at}
use Rattle.zio_groups.proofs.IssueLemmas.{taken_more}
use Rattle.zio_scrub.specs.declared.pieces.Piece.{Piece}
use Rattle.zio_scrub.specs.Pieces.{all_seen, seen, seen_if, trees_of}
use Rattle.zio_scrub.specs.Scrubs.{pieces_in}

-- ---- one pointer

pub parts_body : (levels : ℕ) (heads : List Head) (path : List ℕ) (bp : Bp) → bp.gang ≡ false
    → parts_from levels heads path bp ≡ record { heads = []; bodies = body_piece bp ∷ [] }
unfolding parts_from
parts_body zero heads path bp g = ap (λ (t : Bool). parts_if t bp no_parts) g
parts_body (suc levels) heads path bp g =
    ap (λ (t : Bool). parts_if t bp (below_piece (head_piece heads path bp) (parts_of_members (parts_from levels heads) path 0 (members_kept (kept_at heads path))))) g

pub parts_deep : (levels : ℕ) (heads : List Head) (path : List ℕ) (bp : Bp) → bp.gang ≡ true → levels ≡ 0 → parts_from levels heads path bp ≡ no_parts
unfolding parts_from
parts_deep zero heads path bp g e = ap (λ (t : Bool). parts_if t bp no_parts) g
parts_deep (suc levels) heads path bp g e = absurd (omega arith)

pub parts_gang : (levels : ℕ) (heads : List Head) (path : List ℕ) (bp : Bp) → bp.gang ≡ true → 0 < levels
    → parts_from levels heads path bp
    ≡ below_piece (head_piece heads path bp) (parts_of_members (parts_from (levels - 1) heads) path 0 (members_kept (kept_at heads path)))
unfolding parts_from
parts_gang zero heads path bp g e = absurd (omega arith)
parts_gang (suc levels) heads path bp g e =
    let less : levels ≡ suc levels - 1 = omega arith in
    ap (λ (t : Bool). parts_if t bp (below_piece (head_piece heads path bp) (parts_of_members (parts_from levels heads) path 0 (members_kept (kept_at heads path))))) g
    ∙ ap (λ (n : ℕ). below_piece (head_piece heads path bp) (parts_of_members (parts_from n heads) path 0 (members_kept (kept_at heads path)))) less

-- ---- pieces behind others

pub joined_none : (a : Parts) → joined_parts a no_parts ≡ a
joined_none a = λ i. record { heads = append-nil a.heads i; bodies = append-nil a.bodies i }

pub joined_then : (a b c : Parts) → joined_parts (joined_parts a b) c ≡ joined_parts a (joined_parts b c)
joined_then a b c = λ i. record { heads = append_assoc a.heads b.heads c.heads i; bodies = append_assoc a.bodies b.bodies c.bodies i }

-- a header of a gang and what was found below it
pub gang_joined : (levels : ℕ) (heads : List Head) (path : List ℕ) (bp : Bp) (old mid new : Parts) (kept : Option (List ℕ)) (members : List Bp)
    → bp.gang ≡ true → 0 < levels → kept ≡ kept_at heads path → members ≡ members_kept kept
    → mid ≡ joined_parts old (record { heads = record { pointer = bp; size = sector_size; good = good_kept kept } ∷ []; bodies = [] })
    → new ≡ joined_parts mid (parts_of_members (parts_from (levels - 1) heads) path 0 members)
    → new ≡ joined_parts old (parts_from levels heads path bp)
gang_joined levels heads path bp old mid new kept members g some k m first rest =
    let head : Parts = record { heads = head_piece heads path bp ∷ []; bodies = [] } in
    let here : mid ≡ joined_parts old head =
    first ∙ ap (λ (o : Option (List ℕ)). joined_parts old (record { heads = record { pointer = bp; size = sector_size; good = good_kept o } ∷ []; bodies = [] })) k in
    let named : members ≡ members_kept (kept_at heads path) = m ∙ ap members_kept k in
    rest
    ∙ ap (λ (ms : List Bp). joined_parts mid (parts_of_members (parts_from (levels - 1) heads) path 0 ms)) named
    ∙ ap (λ (p : Parts). joined_parts p (parts_of_members (parts_from (levels - 1) heads) path 0 (members_kept (kept_at heads path)))) here
    ∙ joined_then old head (parts_of_members (parts_from (levels - 1) heads) path 0 (members_kept (kept_at heads path)))
    ∙ ap (joined_parts old) (sym (parts_gang levels heads path bp g some))

-- the first member, and then the others
pub members_first : (parts : List ℕ → Bp → Parts) (path : List ℕ) (n : ℕ) (members : List Bp) (any : Bp) → 1 ≤ length members
    → parts_of_members parts path n members
    ≡ joined_parts (parts (path ++ n ∷ []) (get_or members 0 any)) (parts_of_members parts path (n + 1) (take (length members - 1) (drop 1 members)))
members_first parts path n [] any some = absurd (omega arith)
members_first parts path n (m ∷ ms) any some =
    ap (λ (rest : List Bp). joined_parts (parts (path ++ n ∷ []) m) (parts_of_members parts path (n + 1) rest)) (sym (rest_of m ms))

-- a header names three at most
pub few_kept : (kept : Option (List ℕ)) → length (members_kept kept) ≤ 3
few_kept None = omega arith
few_kept (Some bytes) = few_members bytes

-- ---- as the code holds them

seen_plain : (t : Bool) (bp : Bp) (kept : Option (List ℕ)) → t ≡ false → seen_if t bp kept ≡ body_piece bp
seen_plain t bp kept e = ap (λ (b : Bool). seen_if b bp kept) e

pub seen_body : (piece : Piece) → piece.pointer.gang ≡ false → seen piece ≡ body_piece piece.pointer
seen_body piece e = seen_plain piece.pointer.gang piece.pointer _ e

pub all_seen_behind : (xs ys : List Piece) → all_seen (xs ++ ys) ≡ all_seen xs ++ all_seen ys
all_seen_behind xs ys = map-append seen xs ys

pub body_added : (heads bodies new : List Piece) (piece : Piece) (x : Seen) → seen piece ≡ x → new ≡ bodies ++ piece ∷ []
    → ◌≡◌ {A = Parts} (record { heads = all_seen heads; bodies = all_seen new })
    (joined_parts (record { heads = all_seen heads; bodies = all_seen bodies }) (record { heads = []; bodies = x ∷ [] }))
body_added heads bodies new piece x is e =
    let one : all_seen new ≡ all_seen bodies ++ x ∷ [] =
    ap all_seen e ∙ all_seen_behind bodies (piece ∷ []) ∙ ap (λ (y : Seen). all_seen bodies ++ y ∷ []) is in
    let same : all_seen heads ≡ all_seen heads ++ [] = sym (append-nil (all_seen heads)) in
    λ i. record { heads = same i; bodies = one i }

pub head_added : (heads bodies new : List Piece) (piece : Piece) (x : Seen) → seen piece ≡ x → new ≡ heads ++ piece ∷ []
    → ◌≡◌ {A = Parts} (record { heads = all_seen new; bodies = all_seen bodies })
    (joined_parts (record { heads = all_seen heads; bodies = all_seen bodies }) (record { heads = x ∷ []; bodies = [] }))
head_added heads bodies new piece x is e =
    let one : all_seen new ≡ all_seen heads ++ x ∷ [] =
    ap all_seen e ∙ all_seen_behind heads (piece ∷ []) ∙ ap (λ (y : Seen). all_seen heads ++ y ∷ []) is in
    let same : all_seen bodies ≡ all_seen bodies ++ [] = sym (append-nil (all_seen bodies)) in
    λ i. record { heads = one i; bodies = same i }

-- ---- blocks

pieces_front : (xs ys : List Tree) → pieces_in (xs ++ ys) ≡ pieces_in xs ++ pieces_in ys
pieces_front xs ys = flat_map-append pieces_of xs ys

trees_front : (xs ys : List Bound) → trees_of (xs ++ ys) ≡ trees_of xs ++ trees_of ys
trees_front xs ys = map-append (λ (b : Bound). b.tree) xs ys

-- one more block
pub blocks_more : (bound : List Bound) (i : ℕ) (b : Bound) (old new : List Piece) → i < length bound → b ≡ get_or bound i b
    → all_seen old ≡ pieces_in (trees_of (take i bound)) → all_seen new ≡ all_seen old ++ pieces_of b.tree
    → all_seen new ≡ pieces_in (trees_of (take (i + 1) bound))
blocks_more bound i b old new low is so_far more =
    let cut : take (i + 1) bound ≡ take i bound ++ b ∷ [] = taken_more bound i b low is in
    more
    ∙ ap (λ (ps : List Seen). ps ++ pieces_of b.tree) so_far
    ∙ ap (λ (ps : List Seen). pieces_in (trees_of (take i bound)) ++ ps) (sym (append-nil (pieces_of b.tree)))
    ∙ sym (pieces_front (trees_of (take i bound)) (b.tree ∷ []))
    ∙ ap pieces_in (sym (trees_front (take i bound) (b ∷ [])))
    ∙ ap (λ (bs : List Bound). pieces_in (trees_of bs)) (sym cut)
