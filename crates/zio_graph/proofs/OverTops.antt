-- Trees that an engine keeps, over tops that their blocks lie in.
use Rattle.std.proofs.Common.{◌≡◌, ℕ, zero, suc, ◌+◌, ◌≤◌, List, [], ◌∷◌, ◌++◌, length, map, take, drop, Bool, true, false, Option, Some, None, IfSome, IsTrue, Contains, slice_get, refl, sym, ap, ◌∙◌, subst, arith, length-take}
use Rattle.std.specs.List.{AllByRecursion, flat_map}
use Rattle.std.proofs.lemmas.List.{length-map}
use Rattle.std.specs.Bool.{then_some}
use Rattle.std.specs.List.{cons_option}
use Rattle.zio_types.specs.declared.place.Place.{Place}
use Rattle.zio_types.specs.declared.place.Top.{Top}
use Rattle.zio_types.specs.Places.{is_below, is_inside}
use Rattle.zio_blkptr.specs.declared.pointer.Bp.{Bp}
use Rattle.zio_blkptr.specs.Pointers.{fields, places_of, pointer_of, spells, valid}
use Rattle.zio_blkptr.proofs.PointerLemmas.{ValidParts, valid_parts}
use Rattle.zio_cksum.specs.Blocks.{leaves_of_top}
use Rattle.zio_cksum.specs.Headers.{members_of}
use Rattle.zio_cksum.proofs.AllLemmas.{all_append, all_contains, all_unmap, all_weaker}
use Rattle.zio_gang.specs.declared.tree.Head.{Head}
use Rattle.zio_gang.specs.declared.tree.Tree.{Tree}
use Rattle.zio_blkptr.specs.declared.pointer.TheConstants.{BLOCK_SIZE_MAX}
use Rattle.zio_script.specs.Whys.{size_with}
use Rattle.zio_gang.specs.Attempts.{Child, Pending}
use Rattle.zio_gang.specs.Pieces.{members_kept}
use Rattle.zio_gang.specs.Trees.{header_levels_max, kept_at, sizes_of, tree_places, tree_pointers}
use Rattle.zio_gang.specs.Pointers.{IsNoneOrValid}
use Rattle.zio_trace.specs.BlockCopies.{Copies, Groups, below_copies, body_copies, copies_from, groups_if, groups_of, groups_of_members, head_copies, no_groups}
use Rattle.zio_trace.specs.Families.{Forest, NoTrees, TreeOf, flat}
use Rattle.zio_trace.specs.Tasks.{BodyOf}
use Rattle.zio_children.specs.RequestKids.{child_of}
use Rattle.zio_trace.proofs.BlockPieces.{kept_head}
use Rattle.zio_disks.specs.Whole.{IsWholeTree}
use Rattle.zio_course.specs.Runners.{AreRunnable, Standing, joined_trees, named_places, places_of_block}
use Rattle.zio_exchange.specs.Waits.{pendings}
use Rattle.zio_exchange.specs.Wholes.{Shape, shape_of, shapes}
use Rattle.zio_exchange.specs.declared.waiting.UnfinishedRequest.{UnfinishedRequest}
use Rattle.zio_stages.specs.HeadsNodes.{HasLeaves, IsHeadOn, LiesOn}
use Rattle.zio_stages.specs.OwnReads.{IsBodyOn}
use Rattle.zio_stages.specs.PartWorks.{HaveUnits}
use Rattle.zio_stages.specs.RequestOwns.{IsBlockOn, IsPieceOn}
use Rattle.zio_stages.specs.Tops.{AreTops, IsTop}
use Rattle.zio_stages.proofs.HeadsTops.{io_places, some_places}
use Rattle.zio_nodes.specs.TreeAts.{IsRequestInside, IsTreeOver}
use Rattle.zio_nodes.proofs.TreeAtLemmas.{all_split}
use Rattle.zio_graph.specs.EngineTrees.{AreSound, HasThree, IsEngineTree, IsSoundPending}
use Rattle.zio_graph.proofs.Forests.{tree_list}
use Rattle.zio_graph.proofs.Sounds.{whole_pointers}

-- ---- pointers

three_if : (b : Bool) (x bp : Bp) → length x.places ≡ 3 → then_some b x ≡ Some bp → HasThree bp
three_if true x bp h e = let same : x ≡ bp = cc in subst HasThree same h
three_if false x bp h e = absurd (cc)

-- what bytes point to has three places
pointer_three : (bytes : List ℕ) (bp : Bp) → pointer_of bytes ≡ Some bp → HasThree bp
pointer_three bytes bp e = three_if (spells (fields bytes) bytes) (fields bytes) bp refl e

three_cons : (o : Option Bp) (ms : List Bp) → ((m : Bp) → o ≡ Some m → HasThree m) → AllByRecursion HasThree ms → AllByRecursion HasThree (cons_option o ms)
three_cons None ms f h = h
three_cons (Some m) ms f h = (f m refl, h)

-- so have the members that a header names
members_three : (bytes : List ℕ) → AllByRecursion HasThree (members_of bytes)
members_three bytes =
    three_cons (pointer_of (take 128 bytes)) _ (pointer_three (take 128 bytes))
    (three_cons (pointer_of (take 128 (drop 128 bytes))) _ (pointer_three (take 128 (drop 128 bytes)))
    (three_cons (pointer_of (take 128 (drop 256 bytes))) _ (pointer_three (take 128 (drop 256 bytes))) tt))

heads_three : (heads : List Head) → AllByRecursion HasThree (flat_map (λ (h : Head). members_of h.bytes) heads)
heads_three [] = tt
heads_three (h ∷ heads) =
    all_append HasThree (members_of h.bytes) (flat_map (λ (x : Head). members_of x.bytes) heads) (members_three h.bytes) (heads_three heads)

below_leaves : (p : Place) (n : ℕ) (tops : List Top) → AllByRecursion IsTop tops → IsTrue (is_below p (slice_get (sizes_of tops) n))
    → (1 ≤ length (leaves_of_top (slice_get tops n))) × (length (leaves_of_top (slice_get tops n)) ≤ 4)
below_leaves p n [] each h = absurd (cc)
below_leaves p zero (top ∷ tops) each h = (each.0.some, each.0.few)
below_leaves p (suc n) (top ∷ tops) each h = below_leaves p n tops each.1 h

inside_leaves : (tops : List Top) (ps : List Place) → AreTops tops → AllByRecursion (λ (p : Place). IsTrue (is_inside (sizes_of tops) p)) ps
    → AllByRecursion (HasLeaves tops) ps
inside_leaves tops ps are h =
    all_weaker (λ (p : Place). IsTrue (is_inside (sizes_of tops) p)) (HasLeaves tops) ps
    (λ p k. let leaves = below_leaves p p.top tops are.each k in record { least = leaves.0; most = leaves.1 }) h

-- ---- blocks

module _ (tops : List Top) where
  abbrev IsInside : Place → Type 0
  IsInside p = IsTrue (is_inside (sizes_of tops) p)

  -- a valid pointer of three places, whose own lie on the tops
  record IsOn (bp : Bp) : Type 0 where
    of_valid : IsTrue (valid bp)
    three : HasThree bp
    lies : LiesOn tops bp

  counted_places : (bp : Bp) → IsOn bp → length (places_of bp) ≡ bp.count
  counted_places bp on =
      let parts : ValidParts bp = valid_parts bp on.of_valid in
      let high = parts.high in let three = on.three in omega (arith, length-take bp.count bp.places)

  body_on : (bp : Bp) → IsOn bp → IsBodyOn tops bp
  body_on bp on =
      let count = counted_places bp on in
      record {
        of_valid = on.of_valid;
        places = io_places tops bp on.of_valid on.lies count;
        some = some_places bp on.of_valid count;
      }

  -- the copies are a body's
  abbrev IsBodyOf : Copies → Type 0
  IsBodyOf c = (bp : Bp) × IsOn bp × (c ≡ body_copies bp)

  piece_on : (c : Copies) → IsBodyOf c → IsPieceOn tops c
  piece_on c h bp is =
      let tests : BodyOf h.0 ≡ BodyOf bp = ap (λ (x : Copies). x.test) (sym h.2 ∙ is) in
      let same : h.0 ≡ bp = cc in subst (IsBodyOn tops) same (body_on h.0 h.1)

  if_on : (gang : Bool) (bp : Bp) (g : Groups) → IsOn bp → AllByRecursion IsBodyOf g.bodies → AllByRecursion IsBodyOf (groups_if gang bp g).bodies
  if_on true bp g on h = h
  if_on false bp g on h = ((bp, on, refl), tt)

  -- every member of a header is so
  abbrev AreOn : List Head → Type 0
  AreOn heads = AllByRecursion (λ (h : Head). AllByRecursion IsOn (members_of h.bytes)) heads

  kept_on : (heads : List Head) (path : List ℕ) (kept : Option (List ℕ)) → kept_at heads path ≡ kept → AreOn heads → AllByRecursion IsOn (members_kept kept)
  kept_on heads path None e h = tt
  kept_on heads path (Some bytes) e h =
      let k = kept_head heads path bytes e in
      subst (λ (b : List ℕ). AllByRecursion IsOn (members_of b)) k.is
      (all_contains (λ (x : Head). AllByRecursion IsOn (members_of x.bytes)) heads k.head h k.listed)

  members_on : (groups : List ℕ → Bp → Groups) → ((path : List ℕ) (bp : Bp) → IsOn bp → AllByRecursion IsBodyOf (groups path bp).bodies)
      → (path : List ℕ) (n : ℕ) (ms : List Bp) → AllByRecursion IsOn ms → AllByRecursion IsBodyOf (groups_of_members groups path n ms).bodies
  members_on groups one path n [] h = tt
  members_on groups one path n (m ∷ ms) h =
      all_append IsBodyOf (groups (path ++ n ∷ []) m).bodies (groups_of_members groups path (n + 1) ms).bodies
      (one (path ++ n ∷ []) m h.0) (members_on groups one path (n + 1) ms h.1)

  from_on : (levels : ℕ) (heads : List Head) (path : List ℕ) (bp : Bp) → AreOn heads → IsOn bp → AllByRecursion IsBodyOf (copies_from levels heads path bp).bodies
  unfolding copies_from
  from_on zero heads path bp h on = if_on bp.gang bp no_groups on tt
  from_on (suc levels) heads path bp h on =
      let below : Groups = groups_of_members (copies_from levels heads) path 0 (members_kept (kept_at heads path)) in
      if_on bp.gang bp (below_copies (head_copies heads path bp) below) on
      (members_on (copies_from levels heads) (λ p m k. from_on levels heads p m h k) path 0 (members_kept (kept_at heads path))
      (kept_on heads path (kept_at heads path) refl h))

  -- ---- inside the tops

  -- these are valid and have three places each; and where all places lie inside the tops they are on them
  pointers_on : AreTops tops → (bps : List Bp) → AllByRecursion (λ (bp : Bp). IsTrue (valid bp)) bps
      → AllByRecursion HasThree bps → AllByRecursion IsInside (flat_map places_of bps) → AllByRecursion IsOn bps
  pointers_on are [] v three h = tt
  pointers_on are (bp ∷ bps) v three h =
      let split = all_split IsInside (places_of bp) (flat_map places_of bps) h in (
        record { of_valid = v.0; three = three.0; lies = inside_leaves tops (places_of bp) are split.0 },
        pointers_on are bps v.1 three.1 split.1,
      )

  each_head : (heads : List Head) → AllByRecursion IsOn (flat_map (λ (h : Head). members_of h.bytes) heads) → AreOn heads
  each_head [] h = tt
  each_head (x ∷ heads) h =
      let split = all_split IsOn (members_of x.bytes) (flat_map (λ (y : Head). members_of y.bytes) heads) h in
      (split.0, each_head heads split.1)

  head_on : (h : Head) → AllByRecursion IsOn (members_of h.bytes) → IsHeadOn tops h
  head_on h on = all_weaker IsOn (LiesOn tops) (members_of h.bytes) (λ bp k. k.lies) on

  -- a whole block whose places lie inside the tops
  block_on : AreTops tops → (tree : Tree) → IsWholeTree tree → HasThree tree.bp → AllByRecursion IsInside (tree_places tree) → IsBlockOn tops tree
  block_on are tree whole three inside =
      let on : AllByRecursion IsOn (tree_pointers tree) =
      pointers_on are (tree_pointers tree) (whole_pointers tree whole) (three, heads_three tree.heads) inside in
      let heads : AreOn tree.heads = each_head tree.heads on.1 in
      record {
        of_valid = on.0.of_valid;
        lies = on.0.lies;
        heads = all_weaker (λ (h : Head). AllByRecursion IsOn (members_of h.bytes)) (IsHeadOn tops) tree.heads head_on heads;
        plain = λ e. body_on tree.bp on.0;
        bodies = all_weaker IsBodyOf (IsPieceOn tops) (groups_of tree).bodies piece_on (from_on header_levels_max tree.heads [] tree.bp heads on.0);
      }

  -- ---- trees of requests

  abbrev IsNamedOn : Pending → Type 0
  IsNamedOn p = IfSome p.block (λ (tree : Tree). AllByRecursion IsInside (tree_places tree))

  -- a request's shape, over the tops
  record IsShapeInside (x : Shape) : Type 0 where
    over : IfSome x.pending.block (IsBlockOn tops)
    sound : IsSoundPending x.unfinished x.pending

  named_on : AreTops tops → (block : Option Tree) → IfSome block IsWholeTree → IfSome block (λ (tree : Tree). HasThree tree.bp)
      → IfSome block (λ (tree : Tree). AllByRecursion IsInside (tree_places tree)) → IfSome block (IsBlockOn tops)
  named_on are None whole three inside = tt
  named_on are (Some tree) whole three inside = block_on are tree whole three inside

  shapes_inside : AreTops tops → (f : Forest) → AreSound f → AllByRecursion IsNamedOn (flat f) → AllByRecursion IsShapeInside (shapes f)
  shapes_inside are NoTrees sound named = tt
  shapes_inside are (TreeOf p kids others) sound named =
      let split = all_split IsNamedOn (flat kids) (p ∷ flat others) named in
      all_append IsShapeInside (shapes kids) _ (shapes_inside are kids sound.1 split.0) (
        record { over = named_on are p.block sound.0.whole sound.0.three split.1.0; sound = sound.0 },
        shapes_inside are others sound.2 split.1.1,
      )

  request_inside : (w : UnfinishedRequest) → IsShapeInside (shape_of w) → IsRequestInside tops w
  request_inside w h =
      let many : length (map child_of w.kept) ≡ length w.kept = length-map w.kept child_of in
      let kept : w.unfinished + length (map child_of w.kept) ≡ w.unfinished + length w.kept = ap (λ n. w.unfinished + n) many in
      record {
        over = h.over;
        kept = all_unmap (λ (c : Child). IsNoneOrValid c.pointer) child_of w.kept h.sound.pointers;
        sound = record {
          write = λ write. record {
            kind = write;
            range = h.sound.range.work;
            size = subst (λ n. size_with n w.request.work ≤ BLOCK_SIZE_MAX) kept h.sound.size;
            born = h.sound.some;
          };
          alone = λ childless. sym kept ∙ h.sound.alone childless;
        };
      }

  -- a tree whose blocks lie inside the tops
  tree_inside : AreTops tops → HaveUnits tops → (ws : List UnfinishedRequest) → IsEngineTree ws → AllByRecursion IsNamedOn (pendings ws) → IsTreeOver tops ws
  tree_inside are units ws h named =
      let f : Forest = TreeOf h.root h.kids NoTrees in
      let list : pendings ws ≡ flat h.kids ++ h.root ∷ [] = tree_list ws h.root h.kids h.is in
      let inside : AllByRecursion IsShapeInside (shapes f) =
      shapes_inside are f h.sound (subst (AllByRecursion IsNamedOn) list named) in
      record {
        tops_are = are;
        units = units;
        each = all_weaker (λ (w : UnfinishedRequest). IsShapeInside (shape_of w)) (IsRequestInside tops) ws request_inside
            (all_unmap IsShapeInside shape_of ws (subst (AllByRecursion IsShapeInside) (sym h.is) inside));
      }

-- ---- the trees of a round

used_inside : (tops : List Top) (used ps : List Place) → AllByRecursion (λ (p : Place). IsTrue (is_inside (sizes_of tops) p)) used
    → AllByRecursion (Contains used) ps → AllByRecursion (λ (p : Place). IsTrue (is_inside (sizes_of tops) p)) ps
used_inside tops used ps inside h =
    all_weaker (Contains used) (λ (p : Place). IsTrue (is_inside (sizes_of tops) p)) ps
    (λ p c. all_contains (λ (q : Place). IsTrue (is_inside (sizes_of tops) q)) used p inside c) h

named_if : (tops : List Top) (block : Option Tree) → AllByRecursion (λ (p : Place). IsTrue (is_inside (sizes_of tops) p)) (places_of_block block)
    → IfSome block (λ (tree : Tree). AllByRecursion (λ (p : Place). IsTrue (is_inside (sizes_of tops) p)) (tree_places tree))
named_if tops None h = tt
named_if tops (Some tree) h =
    (all_split (λ (p : Place). IsTrue (is_inside (sizes_of tops) p)) (tree_places tree) [] h).0

each_named : (tops : List Top) (ps : List Pending)
    → AllByRecursion (λ (p : Place). IsTrue (is_inside (sizes_of tops) p)) (flat_map (λ (p : Pending). places_of_block p.block) ps)
    → AllByRecursion (IsNamedOn tops) ps
each_named tops [] h = tt
each_named tops (p ∷ ps) h =
    let split = all_split (λ (q : Place). IsTrue (is_inside (sizes_of tops) q)) (places_of_block p.block) (flat_map (λ (q : Pending). places_of_block q.block) ps) h in
    (named_if tops p.block split.0, each_named tops ps split.1)

each_over : (tops : List Top) → AreTops tops → HaveUnits tops → (trees : List (List UnfinishedRequest)) → AllByRecursion IsEngineTree trees
    → AllByRecursion (IsNamedOn tops) (joined_trees (map pendings trees)) → AllByRecursion (IsTreeOver tops) trees
each_over tops are units [] h named = tt
each_over tops are units (ws ∷ trees) h named =
    let split = all_split (IsNamedOn tops) (pendings ws) (joined_trees (map pendings trees)) named in
    (tree_inside tops are units ws h.0 split.0, each_over tops are units trees h.1 split.1)

pub trees_over : (s : Standing) (trees : List (List UnfinishedRequest)) → AllByRecursion IsEngineTree trees → AreRunnable s (map pendings trees)
    → AreTops s.tops → HaveUnits s.tops → AllByRecursion (λ (p : Place). IsTrue (is_inside (sizes_of s.tops) p)) s.live
    → AllByRecursion (IsTreeOver s.tops) trees
trees_over s trees each runs are units inside =
    each_over s.tops are units trees each
    (each_named s.tops (joined_trees (map pendings trees)) (used_inside s.tops s.live (named_places (map pendings trees)) inside runs.live))
