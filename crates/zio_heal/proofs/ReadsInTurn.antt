-- The pieces of a block are read in turn: its headers by the walk, then its bodies. Where each of these reads is good, so
-- is the read of the block.
use Rattle.std.proofs.Common.{◌≡◌, ℕ, zero, suc, ◌+◌, List, [], ◌∷◌, ◌++◌, map, take, drop, Bool, true, false, Option, Some, None, Result, Ok, Err, IfOk, IsOk, IsTrue, refl, sym, ap, ◌∙◌, subst}
use Rattle.std.proofs.lemmas.List.{map-append}
use Rattle.std.proofs.lemmas.Slice.Eq.{bytes_eq-Decides}
use Rattle.std.specs.List.{AllByRecursion}
use Rattle.zio_types.specs.declared.error.Errno.{Errno}
use Rattle.zio_types.specs.Errors.{worst_of}
use Rattle.zio_types.specs.Places.{sector_size}
use Rattle.zio_blkptr.specs.declared.pointer.Bp.{Bp}
use Rattle.zio_blkptr.specs.Pointers.{places_of}
use Rattle.zio_cksum.specs.Blocks.{Read, good_kept, read_block}
use Rattle.zio_cksum.specs.Headers.{members_of}
use Rattle.zio_cksum.specs.Images.{Images, Setting}
use Rattle.zio_cksum.proofs.AllLemmas.{all_append}
use Rattle.zio_cksum.proofs.ReadLemmas.{good_law}
use Rattle.zio_gang.specs.declared.tree.Head.{Head}
use Rattle.zio_gang.specs.declared.tree.Tree.{Tree}
use Rattle.zio_gang.specs.Pieces.{members_kept}
use Rattle.zio_gang.specs.Trees.{BodiesRead, Walk, add_body, bodies_unless, free_tree, header_levels_max, kept_at, kept_visit, read_bodies, read_tree, unless_errors, walk, walk_found, walk_kept, walk_members, walk_pointer, walk_read}
use Rattle.zio_trace.specs.BlockCopies.{Copies, Groups, below_copies, body_copies, copies_from, copies_of, groups_if, groups_of, groups_of_members, head_copies, no_groups}
use Rattle.zio_trace.specs.Tasks.{good_by}
use Rattle.zio_heal.specs.Contents.{EachPiece, HasPieces, HaveBytes, IfGang}

-- a read of the copies, with repairs
abbrev pub read_copies : Setting → Images → Copies → Read
read_copies s images c = read_block s true (good_by c.test) images c.len c.places

-- the images after reads of these copies in turn
abbrev pub after_reads : Setting → List Copies → Images → Images
after_reads s [] images = images
after_reads s (c ∷ cs) images = after_reads s cs (read_copies s images c).images

-- each of these reads in turn is good
abbrev pub AreGoodReads : Setting → List Copies → Images → Type 0
AreGoodReads s [] images = Unit {0}
AreGoodReads s (c ∷ cs) images = IsOk (read_copies s images c).found × AreGoodReads s cs (read_copies s images c).images

after_both : (s : Setting) (xs ys : List Copies) (images : Images) → after_reads s (xs ++ ys) images ≡ after_reads s ys (after_reads s xs images)
after_both s [] ys images = refl
after_both s (x ∷ xs) ys images = after_both s xs ys (read_copies s images x).images

good_first : (s : Setting) (xs ys : List Copies) (images : Images) → AreGoodReads s (xs ++ ys) images → AreGoodReads s xs images
good_first s [] ys images h = tt
good_first s (x ∷ xs) ys images h = (h.0, good_first s xs ys (read_copies s images x).images h.1)

good_later : (s : Setting) (xs ys : List Copies) (images : Images) → AreGoodReads s (xs ++ ys) images → AreGoodReads s ys (after_reads s xs images)
good_later s [] ys images h = h
good_later s (x ∷ xs) ys images h = good_later s xs ys (read_copies s images x).images h.1

-- ---- all pieces, as a list

-- some bytes of which it holds
pub record Has (P : Copies → List ℕ → Type 0) (c : Copies) : Type 0 where
  pub bytes : List ℕ
  pub holds : P c bytes

abbrev pub AllHave : (Copies → List ℕ → Type 0) → List Copies → Type 0
AllHave P cs = AllByRecursion (Has P) cs

abbrev BothHave : (Copies → List ℕ → Type 0) → Groups → Type 0
BothHave P g = AllHave P g.heads × AllHave P g.bodies

module _ (P : Copies → List ℕ → Type 0) where
  members_have : (groups : List ℕ → Bp → Groups) (has : List ℕ → Bp → List ℕ → Type 0) → ((path : List ℕ) (bp : Bp) (bytes : List ℕ) → has path bp bytes → BothHave P (groups path bp))
      → (path : List ℕ) (n : ℕ) (ms : List Bp) (bytes : List ℕ) → HaveBytes has path n ms bytes → BothHave P (groups_of_members groups path n ms)
  members_have groups has each path n [] bytes h = (tt, tt)
  members_have groups has each path n (m ∷ ms) bytes h =
      let first = each (path ++ n ∷ []) m (take m.size bytes) h.0 in
      let rest = members_have groups has each path (n + 1) ms (drop m.size bytes) h.1 in
      (all_append (Has P) (groups (path ++ n ∷ []) m).heads _ first.0 rest.0, all_append (Has P) (groups (path ++ n ∷ []) m).bodies _ first.1 rest.1)

  if_have : (gang : Bool) (bp : Bp) (bytes : List ℕ) (g : Groups) (A : Type 0) → (A → BothHave P g) → IfGang gang A (P (body_copies bp) bytes) → BothHave P (groups_if gang bp g)
  if_have true bp bytes g A f h = f h
  if_have false bp bytes g A f h = (tt, (record { bytes = bytes; holds = h }, tt))

  from_have : (levels : ℕ) (heads : List Head) (path : List ℕ) (bp : Bp) (bytes : List ℕ) → HasPieces P levels heads path bp bytes → BothHave P (copies_from levels heads path bp)
  unfolding copies_from HasPieces
  from_have zero heads path bp bytes h = if_have bp.gang bp bytes no_groups ⊥ (λ no. absurd no) h
  from_have (suc levels) heads path bp bytes h =
      if_have bp.gang bp bytes (below_copies (head_copies heads path bp) (groups_of_members (copies_from levels heads) path 0 (members_kept (kept_at heads path)))) _
      (λ g.
      let below = members_have (copies_from levels heads) (HasPieces P levels heads) (from_have levels heads) path 0 (members_of g.header) bytes g.members in
      let all : BothHave P (groups_of_members (copies_from levels heads) path 0 (members_kept (kept_at heads path))) =
      subst (λ (k : Option (List ℕ)). BothHave P (groups_of_members (copies_from levels heads) path 0 (members_kept k))) (sym g.kept) below in
      ((record { bytes = g.header; holds = g.own }, all.0), all.1))
      h

  pub all_have : (tree : Tree) (content : List ℕ) → EachPiece P tree content → AllHave P (copies_of tree)
  all_have tree content h =
      let both = from_have header_levels_max tree.heads [] tree.bp content h in
      all_append (Has P) (groups_of tree).heads (groups_of tree).bodies both.0 both.1

-- ---- the walk

-- The walk met no error, read the headers in turn, and came to the bodies.
record IsWalkOver (s : Setting) (g : Groups) (images : Images) (w : Walk) : Type 0 where
  fine : w.errors ≡ []
  after : w.images ≡ after_reads s g.heads images
  bodies : map body_copies w.bodies ≡ g.bodies

kept_is : (kept : Option (List ℕ)) (bytes : List ℕ) → IsTrue (good_kept kept bytes) → kept ≡ Some bytes
kept_is None bytes h = let no : ⊥ = cc in absurd no
kept_is (Some k) bytes h = ap Some ((bytes_eq-Decides k bytes).0 h)

-- the read of the block is good, and a free of it without error
pub record IsReadWell (s : Setting) (tree : Tree) (images : Images) : Type 0 where
  pub read : IsOk (read_tree s tree images).found
  pub free : (free_tree s tree images).error ≡ None

module _ (s : Setting) (P : Copies → List ℕ → Type 0) where
  -- where the headers' reads are good
  abbrev WalksOver : (List ℕ → Bp → Images → Walk) → (List ℕ → Bp → Groups) → (List ℕ → Bp → List ℕ → Type 0) → Type 0
  WalksOver one groups has = (path : List ℕ) (bp : Bp) (bytes : List ℕ) (images : Images) → has path bp bytes → AreGoodReads s (groups path bp).heads images → IsWalkOver s (groups path bp) images (one path bp images)

  members_over : (one : List ℕ → Bp → Images → Walk) (groups : List ℕ → Bp → Groups) (has : List ℕ → Bp → List ℕ → Type 0) → WalksOver one groups has → (path : List ℕ) (n : ℕ) (ms : List Bp) (bytes : List ℕ) (images : Images)
      → HaveBytes has path n ms bytes → AreGoodReads s (groups_of_members groups path n ms).heads images → IsWalkOver s (groups_of_members groups path n ms) images (walk_members one path n ms images)
  members_over one groups has each path n [] bytes images h good = record { fine = refl; after = refl; bodies = refl }
  members_over one groups has each path n (m ∷ ms) bytes images h good =
      let at : List ℕ = path ++ n ∷ [] in
      let xs : List Copies = (groups at m).heads in
      let ys : List Copies = (groups_of_members groups path (n + 1) ms).heads in
      let first : IsWalkOver s (groups at m) images (one at m images) = each at m (take m.size bytes) images h.0 (good_first s xs ys images good) in
      let now : Images = (one at m images).images in
      let rest : IsWalkOver s (groups_of_members groups path (n + 1) ms) now (walk_members one path (n + 1) ms now) =
      members_over one groups has each path (n + 1) ms (drop m.size bytes) now h.1 (subst (AreGoodReads s ys) (sym first.after) (good_later s xs ys images good)) in
      record {
        fine = λ i. first.fine i ++ rest.fine i;
        after = rest.after ∙ ap (after_reads s ys) first.after ∙ sym (after_both s xs ys images);
        bodies = map-append body_copies (one at m images).bodies (walk_members one path (n + 1) ms now).bodies ∙ (λ i. first.bodies i ++ rest.bodies i);
      }

  found_over : (one : List ℕ → Bp → Images → Walk) (groups : List ℕ → Bp → Groups) (has : List ℕ → Bp → List ℕ → Type 0) → WalksOver one groups has → (path : List ℕ) (head : Copies) (kept : Option (List ℕ)) (header bytes : List ℕ) (found : Result (List ℕ) Errno) (before now : Images)
      → kept ≡ Some header → IfOk found (λ (b : List ℕ). IsTrue (good_kept kept b)) → IsOk found → now ≡ (read_copies s before head).images → HaveBytes has path 0 (members_of header) bytes
      → AreGoodReads s (groups_of_members groups path 0 (members_kept kept)).heads now
      → IsWalkOver s (below_copies head (groups_of_members groups path 0 (members_kept kept))) before (walk_found one path now found)
  found_over one groups has each path head kept header bytes (Err e) before now is good ok same h reads = absurd (cc)
  found_over one groups has each path head kept header bytes (Ok b) before now is good ok same h reads =
      let k : kept ≡ Some b = kept_is kept b good in
      let e : header ≡ b = cc in
      let over : IsWalkOver s (groups_of_members groups path 0 (members_of b)) now (walk_members one path 0 (members_of b) now) =
      members_over one groups has each path 0 (members_of b) bytes now (subst (λ (x : List ℕ). HaveBytes has path 0 (members_of x) bytes) e h)
      (subst (λ (x : Option (List ℕ)). AreGoodReads s (groups_of_members groups path 0 (members_kept x)).heads now) k reads) in
      subst (λ (x : Option (List ℕ)). IsWalkOver s (below_copies head (groups_of_members groups path 0 (members_kept x))) before (walk_found one path now (Ok b))) (sym k) (record {
        fine = over.fine;
        after = over.after ∙ ap (after_reads s (groups_of_members groups path 0 (members_of b)).heads) same;
        bodies = over.bodies;
      })

  if_over : (gang : Bool) (bp : Bp) (bytes : List ℕ) (g : Groups) (follow : Images → Walk) (images : Images) (A : Type 0) → (A → AreGoodReads s g.heads images → IsWalkOver s g images (follow images)) → IfGang gang A (P (body_copies bp) bytes)
      → AreGoodReads s (groups_if gang bp g).heads images → IsWalkOver s (groups_if gang bp g) images (walk_pointer None gang bp follow images)
  if_over true bp bytes g follow images A f h good = f h good
  if_over false bp bytes g follow images A f h good = record { fine = refl; after = refl; bodies = refl }

  walk_over : (levels : ℕ) (heads : List Head) → WalksOver (walk levels (kept_visit s heads)) (copies_from levels heads) (HasPieces P levels heads)
  unfolding walk copies_from HasPieces
  walk_over zero heads path bp bytes images h good = if_over bp.gang bp bytes no_groups _ images ⊥ (λ no k. absurd no) h good
  walk_over (suc levels) heads path bp bytes images h good =
      let v = kept_visit s heads in
      let head : Copies = head_copies heads path bp in
      let read : Read = read_copies s images head in
      if_over bp.gang bp bytes (below_copies head (groups_of_members (copies_from levels heads) path 0 (members_kept (kept_at heads path)))) (λ now. walk_read (walk levels v) path (v.read_head path bp now)) images _
      (λ g k. found_over (walk levels v) (copies_from levels heads) (HasPieces P levels heads) (walk_over levels heads) path head (kept_at heads path) g.header bytes read.found images read.images
      g.kept (good_law s true (good_kept (kept_at heads path)) images sector_size (places_of bp)) k.0 refl g.members k.1)
      h good

  -- ---- and the bodies

  add_fine : (found : Result (List ℕ) Errno) (others : BodiesRead) → IsOk found → others.errors ≡ [] → (add_body found others).errors ≡ []
  add_fine (Ok bytes) others ok none = none
  add_fine (Err e) others ok none = absurd (cc)

  bodies_over : (bps : List Bp) (images : Images) → AreGoodReads s (map body_copies bps) images → (read_bodies s bps images).errors ≡ []
  bodies_over [] images good = refl
  bodies_over (bp ∷ bps) images good =
      add_fine (read_copies s images (body_copies bp)).found (read_bodies s bps (read_copies s images (body_copies bp)).images) good.0
      (bodies_over bps (read_copies s images (body_copies bp)).images good.1)

  -- Reads of all pieces in turn that are good make a read of the block that is good, and a free without error.
  over_ok : (errors : List (Option Errno)) (w : Walk) → w.errors ≡ errors → errors ≡ [] → (read_bodies s w.bodies w.images).errors ≡ [] → IsOk (bodies_unless errors s w).found
  over_ok [] w is none fine = unless_ok (read_bodies s w.bodies w.images).errors (read_bodies s w.bodies w.images).bytes fine
    where
      unless_ok : (errors : List (Option Errno)) (bytes : List ℕ) → errors ≡ [] → IsOk (unless_errors errors bytes)
      unless_ok [] bytes e = refl
      unless_ok (x ∷ xs) bytes e = let no : ⊥ = cc in absurd no
  over_ok (e ∷ errors) w is none fine = let no : ⊥ = cc in absurd no

  pub read_well : (tree : Tree) (content : List ℕ) (images : Images) → EachPiece P tree content → AreGoodReads s (copies_of tree) images → IsReadWell s tree images
  unfolding read_tree free_tree
  read_well tree content images h good =
      let w : Walk = walk_kept s tree images in
      let heads : List Copies = (groups_of tree).heads in
      let bodies : List Copies = (groups_of tree).bodies in
      let over : IsWalkOver s (groups_of tree) images w = walk_over header_levels_max tree.heads [] tree.bp content images h (good_first s heads bodies images good) in
      let later : AreGoodReads s (map body_copies w.bodies) w.images =
      subst (λ (cs : List Copies). AreGoodReads s cs w.images) (sym over.bodies) (subst (AreGoodReads s bodies) (sym over.after) (good_later s heads bodies images good)) in
      record {
        read = over_ok w.errors w refl over.fine (bodies_over w.bodies w.images later);
        free = ap worst_of over.fine;
      }
