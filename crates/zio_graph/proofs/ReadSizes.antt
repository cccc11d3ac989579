-- The bodies of a whole block have as many bytes as its pointer says, and so has what a round tells of a read of it.
use Rattle.std.proofs.Common.{◌≡◌, ℕ, zero, suc, ◌+◌, ◌%◌, List, [], ◌∷◌, ◌++◌, length, map, Bool, true, false, Option, Some, None, IfSome, inl, inr, refl, sym, ap, ◌∙◌, subst, arith, ◌⊎◌}
use Rattle.std.specs.List.{AllByRecursion}
use Rattle.std.proofs.lemmas.List.Sums.{sum_by-cons}
use Rattle.zio_types.specs.Places.{sector_size}
use Rattle.zio_blkptr.specs.declared.pointer.Bp.{Bp}
use Rattle.zio_blkptr.proofs.PointerLemmas.{valid_parts}
use Rattle.zio_script.specs.declared.script.Request.{Request}
use Rattle.zio_script.specs.declared.script.Work.{Work}
use Rattle.zio_script.specs.declared.script.Work.TheVariants.{Claim, Free, Null, Read, Write}
use Rattle.zio_cksum.proofs.AllLemmas.{all_append}
use Rattle.zio_gang.specs.declared.tree.Head.{Head}
use Rattle.zio_gang.specs.declared.tree.Tree.{Tree}
use Rattle.zio_gang.specs.Attempts.{Pending, Terms}
use Rattle.zio_gang.specs.Pieces.{members_kept}
use Rattle.zio_gang.specs.Trees.{header_levels_max, kept_at}
use Rattle.zio_trace.specs.BlockCopies.{Copies, Groups, below_copies, copies_from, groups_if, groups_of_members, head_copies, no_groups}
use Rattle.zio_trace.specs.Families.{Forest, NoTrees, TreeOf, flat}
use Rattle.zio_trace.specs.Rounds.{trees_in}
use Rattle.zio_disks.specs.Kept.{AreKept, IsKept, IsKeptGang, IsKeptIf, bytes_of_all}
use Rattle.zio_disks.specs.Whole.{IsWholeTree}
use Rattle.zio_disks.proofs.SizeLemmas.{whole_kept}
use Rattle.zio_course.specs.declared.runner.RequestEnd.{RequestEnd}
use Rattle.zio_course.specs.Runners.{AreRunnable, HasReadSize, Standing, finished_of, joined_trees, read_size}
use Rattle.zio_course.proofs.SortLemmas.{IsOneOf, one_all}
use Rattle.zio_course.proofs.NumberSorts.{all_moved}
use Rattle.zio_turns.specs.Ledgers.{Ending, IsEnding, all_ended}
use Rattle.zio_turns.specs.Sizes.{FitsBodies, block_read, bodies_size, joined_size}
use Rattle.zio_graph.specs.EngineTrees.{AreSound}
use Rattle.zio_graph.specs.RoundEnds.{IsByNumber}
use Rattle.zio_graph.proofs.InUse.{IsOwner, owner_of, pendings_once}
use Rattle.zio_graph.proofs.RoundEnds.{one_numbered}
use Rattle.zio_graph.proofs.Sounds.{joined_flat}

-- ---- the bodies of a whole block

joined_both : (a b : List Copies) → joined_size (a ++ b) ≡ joined_size a + joined_size b
joined_both [] b = omega arith
joined_both (c ∷ a) b = let rest = joined_both a b in omega arith

members_size : (groups : List ℕ → Bp → Groups) (kept : List ℕ → Bp → Type 0) (path : List ℕ) (n : ℕ) (members : List Bp)
    → ((p : List ℕ) (bp : Bp) → kept p bp → joined_size (groups p bp).bodies ≡ bp.size) → AreKept kept path n members
    → joined_size (groups_of_members groups path n members).bodies ≡ bytes_of_all members
members_size groups kept path n [] each h = refl
members_size groups kept path n (m ∷ ms) each h =
    let both = joined_both (groups (path ++ n ∷ []) m).bodies (groups_of_members groups path (n + 1) ms).bodies in
    let own = each (path ++ n ∷ []) m h.0 in
    let rest = members_size groups kept path (n + 1) ms each h.1 in
    let all : bytes_of_all (m ∷ ms) ≡ m.size + bytes_of_all ms = sum_by-cons (λ (bp : Bp). bp.size) m ms in
    omega arith

gang_size : (gang : Bool) (groups : List ℕ → Bp → Groups) (kept : List ℕ → Bp → Type 0) (heads : List Head) (path : List ℕ)
    (bp : Bp) → ((p : List ℕ) (b : Bp) → kept p b → joined_size (groups p b).bodies ≡ b.size)
    → IsKeptIf gang (IsKeptGang kept heads path bp)
    → joined_size (groups_if gang bp (below_copies (head_copies heads path bp)
    (groups_of_members groups path 0 (members_kept (kept_at heads path))))).bodies ≡ bp.size
gang_size true groups kept heads path bp each h =
    ap (λ (header : Option (List ℕ)). joined_size (groups_of_members groups path 0 (members_kept header)).bodies) h.found
    ∙ (members_size groups kept path 0 _ each h.members ∙ h.sizes)
gang_size false groups kept heads path bp each h = omega arith

last_size : (gang : Bool) (bp : Bp) → IsKeptIf gang ⊥ → joined_size (groups_if gang bp no_groups).bodies ≡ bp.size
last_size true bp h = absurd h
last_size false bp h = omega arith

kept_size : (levels : ℕ) (heads : List Head) (path : List ℕ) (bp : Bp) → IsKept levels heads path bp
    → joined_size (copies_from levels heads path bp).bodies ≡ bp.size
unfolding IsKept copies_from
kept_size zero heads path bp h = last_size bp.gang bp h
kept_size (suc levels) heads path bp h =
    gang_size bp.gang (copies_from levels heads) (IsKept levels heads) heads path bp (λ p b k. kept_size levels heads p b k) h

-- they have as many bytes as the block
pub whole_size : (tree : Tree) → IsWholeTree tree → bodies_size tree ≡ tree.bp.size
whole_size tree whole = kept_size header_levels_max tree.heads [] tree.bp (whole_kept tree whole)

-- whole sectors
whole_sectors : (tree : Tree) → IsWholeTree tree → tree.bp.size % sector_size ≡ 0
whole_sectors tree whole = (valid_parts tree.bp whole.0).size.whole

-- ---- a request that finished

abbrev HasWholeBlock : Pending → Type 0
HasWholeBlock p = IfSome p.block IsWholeTree

forest_whole : (f : Forest) → AreSound f → AllByRecursion HasWholeBlock (flat f)
forest_whole NoTrees h = tt
forest_whole (TreeOf p kids others) h =
    all_append HasWholeBlock (flat kids) (p ∷ flat others) (forest_whole kids h.1) (h.0.whole, forest_whole others h.2)

sizes_read : (work : Work) (block : Option Tree) (len : ℕ) → IfSome block IsWholeTree
    → ((tree : Tree) → block_read work block ≡ Some tree → len ≡ bodies_size tree)
    → AllByRecursion (λ (n : ℕ). len ≡ n) (read_size work block)
sizes_read Null block len whole h = tt
sizes_read (Read name prio) None len whole h = tt
sizes_read (Read name prio) (Some tree) len whole h = (h tree refl ∙ whole_size tree whole, tt)
sizes_read (Write name sum copies prio body) block len whole h = tt
sizes_read (Free name) block len whole h = tt
sizes_read (Claim name pointer) block len whole h = tt

read_sectors : (work : Work) (block : Option Tree) (tree : Tree) (len : ℕ) → IfSome block IsWholeTree
    → block_read work block ≡ Some tree → len ≡ bodies_size tree → len % sector_size ≡ 0
read_sectors Null block tree len whole reads h = absurd (cc)
read_sectors (Read name prio) None tree len whole reads h = absurd (cc)
read_sectors (Read name prio) (Some block) tree len whole reads h =
    let same : block ≡ tree = cc in
    let is : IsWholeTree tree = subst IsWholeTree same whole in
    ap (λ (n : ℕ). n % sector_size) (h ∙ whole_size tree is) ∙ whole_sectors tree is
read_sectors (Write name sum copies prio body) block tree len whole reads h = absurd (cc)
read_sectors (Free name) block tree len whole reads h = absurd (cc)
read_sectors (Claim name pointer) block tree len whole reads h = absurd (cc)

module _ (t : Terms) (f : Forest) (trees : List (List Pending)) (are : trees_in f ≡ trees) (sound : AreSound f) where
  owner_whole : (x : Ending) → IsOwner trees x → IfSome x.request.block IsWholeTree
  owner_whole x o =
      subst (λ (block : Option Tree). IfSome block IsWholeTree) o.block
      (one_all HasWholeBlock o.owner (flat f) (forest_whole f sound)
      (subst (IsOneOf o.owner) (ap joined_trees (sym are) ∙ joined_flat f) o.at))

  sectors_of : (x : Ending) → IsEnding t f x → FitsBodies x.request x.ended → length x.ended.bytes % sector_size ≡ 0
  sectors_of x ending sized = by sized.bytes
    where
      by : (x.ended.bytes ≡ []) ⊎ ((tree : Tree) × (block_read x.request.request.work x.request.block ≡ Some tree)
          × (length x.ended.bytes ≡ bodies_size tree))
          → length x.ended.bytes % sector_size ≡ 0
      by (inl none) = ap (λ (bytes : List ℕ). length bytes % sector_size) none
      by (inr (tree, reads, long)) =
          read_sectors x.request.request.work x.request.block tree (length x.ended.bytes)
          (owner_whole x (owner_of t f trees x are ending)) reads long

  all_sectors : (done : List Ending) → AllByRecursion (IsEnding t f) done
      → AllByRecursion (λ (x : Ending). FitsBodies x.request x.ended) done
      → AllByRecursion (λ (g : RequestEnd). length g.bytes % sector_size ≡ 0) (map finished_of (all_ended done))
  all_sectors [] each sized = tt
  all_sectors (x ∷ done) each sized = (sectors_of x each.0 sized.0, all_sectors done each.1 sized.1)

  module _ (s : Standing) (runs : AreRunnable s trees) where
    size_of : (x : Ending) → IsEnding t f x → FitsBodies x.request x.ended → HasReadSize trees (finished_of x.ended)
    size_of x ending sized good = by (joined_trees trees) (λ p at. at)
      where
        o : IsOwner trees x
        o = owner_of t f trees x are ending

        own : AllByRecursion (λ (n : ℕ). length x.ended.bytes ≡ n) (read_size x.request.request.work x.request.block)
        own =
            sizes_read x.request.request.work x.request.block (length x.ended.bytes) (owner_whole x o)
            (λ tree reads. sized.whole good tree reads)

        by : (ps : List Pending) → ((p : Pending) → IsOneOf p ps → IsOneOf p (joined_trees trees))
            → AllByRecursion (λ (p : Pending). p.request.number ≡ x.ended.request.number
            → AllByRecursion (λ (n : ℕ). length x.ended.bytes ≡ n) (read_size p.request.work p.block)) ps
        by [] within = tt
        by (p ∷ ps) within = (
          (λ same.
              let one : p ≡ o.owner =
              one_numbered (λ (q : Pending). q.request.number) p o.owner (joined_trees trees) (pendings_once s trees runs)
              (within p (inl refl)) o.at
              (same ∙ (ending.number ∙ ap (λ (r : Request). r.number) (sym o.request))) in
              subst (λ (q : Pending). AllByRecursion (λ (n : ℕ). length x.ended.bytes ≡ n) (read_size q.request.work q.block))
              (sym one)
              (subst (λ (ns : List ℕ). AllByRecursion (λ (n : ℕ). length x.ended.bytes ≡ n) ns)
              (λ i. read_size (sym o.request i).work (sym o.block i)) own)),
          by ps (λ q at. within q (inr at)),
        )

    all_sizes : (done : List Ending) → AllByRecursion (IsEnding t f) done
        → AllByRecursion (λ (x : Ending). FitsBodies x.request x.ended) done
        → AllByRecursion (HasReadSize trees) (map finished_of (all_ended done))
    all_sizes [] each sized = tt
    all_sizes (x ∷ done) each sized = (size_of x each.0 sized.0, all_sizes done each.1 sized.1)

-- ---- what is told

pub reads_told : (s : Standing) (t : Terms) (f : Forest) (trees : List (List Pending)) (done : List Ending)
    (finished : List RequestEnd) → trees_in f ≡ trees → AreSound f → AreRunnable s trees → AllByRecursion (IsEnding t f) done
    → AllByRecursion (λ (x : Ending). FitsBodies x.request x.ended) done → IsByNumber (all_ended done) finished
    → AllByRecursion (HasReadSize trees) finished
reads_told s t f trees done finished are sound runs each sized by =
    all_moved (HasReadSize trees) (map finished_of (all_ended done)) finished by.same
    (all_sizes t f trees are sound s runs done each sized)

pub sectors_told : (t : Terms) (f : Forest) (trees : List (List Pending)) (done : List Ending) (finished : List RequestEnd)
    → trees_in f ≡ trees → AreSound f → AllByRecursion (IsEnding t f) done
    → AllByRecursion (λ (x : Ending). FitsBodies x.request x.ended) done → IsByNumber (all_ended done) finished
    → AllByRecursion (λ (g : RequestEnd). length g.bytes % sector_size ≡ 0) finished
sectors_told t f trees done finished are sound each sized by =
    all_moved (λ (g : RequestEnd). length g.bytes % sector_size ≡ 0) (map finished_of (all_ended done)) finished by.same
    (all_sectors t f trees are sound done each sized)
