-- The trace of a read of a block is of reads of its pieces, and so is that of a free.
use Rattle.std.proofs.Common.{◌≡◌, ℕ, zero, suc, ◌+◌, ◌≤◌, List, [], ◌∷◌, ◌++◌, map, Bool, true, false, Option, Some, None, Result, Ok, Err, IfOk, IsTrue, Contains, refl, sym, ap, ◌∙◌, subst, append-nil, arith}
use Rattle.std.proofs.lemmas.List.{map-append}
use Rattle.std.proofs.lemmas.List.Elements.{Contains-append_left, Contains-append_right}
use Rattle.std.proofs.lemmas.Slice.Eq.{bytes_eq-Decides}
use Rattle.std.specs.List.{AllByRecursion}
use Rattle.zio_types.specs.declared.error.Errno.{Errno}
use Rattle.zio_types.specs.Choices.{Choice}
use Rattle.zio_types.specs.Places.{sector_size}
use Rattle.zio_blkptr.specs.declared.pointer.Bp.{Bp}
use Rattle.zio_blkptr.specs.Pointers.{places_of}
use Rattle.zio_cksum.specs.Blocks.{Read, good_kept, read_block}
use Rattle.zio_cksum.specs.Headers.{members_of}
use Rattle.zio_cksum.specs.Images.{Images}
use Rattle.zio_cksum.proofs.AllLemmas.{all_append, all_weaker}
use Rattle.zio_cksum.proofs.ReadLemmas.{good_law}
use Rattle.zio_gang.specs.declared.tree.Head.{Head}
use Rattle.zio_gang.specs.declared.tree.Tree.{Tree}
use Rattle.zio_gang.specs.Attempts.{Terms}
use Rattle.zio_gang.specs.Pieces.{Parts, Piece, body_piece, members_kept, no_parts, parts_from, parts_if, parts_of_members, below_piece, head_piece}
use Rattle.zio_gang.specs.Trees.{Walk, header_levels_max, kept_at, unless_errors, walk_kept}
use Rattle.zio_gang.proofs.PieceLemmas.{kept_walk_comes}
use Rattle.zio_trace.specs.BlockCopies.{Copies, Groups, below_copies, body_copies, copies_from, copies_of, groups_if, groups_of, groups_of_members, head_copies, no_groups, reading_of}
use Rattle.zio_trace.specs.Plans.{Bodies, TaskPlan, add_got, head_task, join_walked, plan, plan_after, plan_below, plan_bodies, plan_found, plan_pointer, plan_tree, under_head}
use Rattle.zio_trace.specs.Programs.{Deed, Done, Ends, Meaning, ◌>>=◌, ask}
use Rattle.zio_trace.specs.RoundTraces.{Trace, deed_of, is_single_or_piece, trace_down, trace_each}
use Rattle.zio_trace.specs.Tasks.{BodyOf, ByKept, ClaimedBy, Got, KeptAs, ReadHeads, Task, Test, Value, WalkedBy, good_by, got, means, walked}
use Rattle.zio_trace.proofs.ListLemmas.{contains_first, contains_later}
use Rattle.zio_heal.proofs.PlacedPlans.{each_then}

-- the copies of a block aren't judged as claimed ones
abbrev pub IsOwnTest : Test → Type 0
IsOwnTest (BodyOf bp) = Unit {0}
IsOwnTest (KeptAs kept) = Unit {0}
IsOwnTest (ClaimedBy bp) = ⊥

-- The deed reads one of these, and what it gives is good.
pub record IsReadIn (cs : List Copies) (d : Deed Task Value) : Type 0 where
  pub copies : Copies
  pub listed : Contains cs copies
  pub op : d.op ≡ reading_of copies
  pub own : IsOwnTest copies.test
  pub good : IfOk (got d.answer) (λ (bytes : List ℕ). IsTrue (good_by copies.test bytes))

abbrev pub AreReadsIn : List Copies → Trace → Type 0
AreReadsIn cs ds = AllByRecursion (IsReadIn cs) ds

reads_front : (xs ys : List Copies) (ds : Trace) → ((c : Copies) → Contains xs c → Contains ys c) → AreReadsIn xs ds → AreReadsIn ys ds
reads_front xs ys ds f h = all_weaker (IsReadIn xs) (IsReadIn ys) ds (λ d k. record { copies = k.copies; listed = f k.copies k.listed; op = k.op; own = k.own; good = k.good }) h

kept_is : (kept : Option (List ℕ)) (bytes : List ℕ) → IsTrue (good_kept kept bytes) → kept ≡ Some bytes
kept_is None bytes h = let no : ⊥ = cc in absurd no
kept_is (Some k) bytes h = ap Some ((bytes_eq-Decides k bytes).0 h)

-- ---- the bodies of a block

-- the copies of a body's piece
abbrev piece_copies : Piece → Copies
piece_copies x = body_copies x.pointer

members_bodies : (groups : List ℕ → Bp → Groups) (parts : List ℕ → Bp → Parts) → ((path : List ℕ) (bp : Bp) → (groups path bp).bodies ≡ map piece_copies (parts path bp).bodies)
    → (path : List ℕ) (n : ℕ) (ms : List Bp) → (groups_of_members groups path n ms).bodies ≡ map piece_copies (parts_of_members parts path n ms).bodies
members_bodies groups parts same path n [] = refl
members_bodies groups parts same path n (m ∷ ms) =
    (λ i. same (path ++ n ∷ []) m i ++ members_bodies groups parts same path (n + 1) ms i)
    ∙ sym (map-append piece_copies (parts (path ++ n ∷ []) m).bodies (parts_of_members parts path (n + 1) ms).bodies)

if_bodies : (gang : Bool) (bp : Bp) (g : Groups) (x : Parts) → g.bodies ≡ map piece_copies x.bodies → (groups_if gang bp g).bodies ≡ map piece_copies (parts_if gang bp x).bodies
if_bodies true bp g x h = h
if_bodies false bp g x h = refl

from_bodies : (levels : ℕ) (heads : List Head) (path : List ℕ) (bp : Bp) → (copies_from levels heads path bp).bodies ≡ map piece_copies (parts_from levels heads path bp).bodies
unfolding copies_from parts_from
from_bodies zero heads path bp = if_bodies bp.gang bp no_groups no_parts refl
from_bodies (suc levels) heads path bp =
    if_bodies bp.gang bp (below_copies (head_copies heads path bp) (groups_of_members (copies_from levels heads) path 0 (members_kept (kept_at heads path))))
    (below_piece (head_piece heads path bp) (parts_of_members (parts_from levels heads) path 0 (members_kept (kept_at heads path))))
    (members_bodies (copies_from levels heads) (parts_from levels heads) (from_bodies levels heads) path 0 (members_kept (kept_at heads path)))

mapped_twice : (bps : List Bp) → map body_copies bps ≡ map piece_copies (map body_piece bps)
mapped_twice [] = refl
mapped_twice (bp ∷ bps) = ap (λ (cs : List Copies). body_copies bp ∷ cs) (mapped_twice bps)

-- ---- reads by plans

module _ (journal : List Choice) (t : Terms) where
  abbrev mean : Meaning Task Value
  mean = means journal t

  abbrev tr : ℕ → Task → Images → Trace
  tr deep = trace_down deep is_single_or_piece mean (plan t)

  abbrev traced : {A : Type 0} → ℕ → TaskPlan A → Images → Trace
  traced deep q images = trace_each (tr deep) mean q images

  down_read : (deep : ℕ) (c : Copies) (images : Images) → tr deep (reading_of c) images ≡ deed_of mean (reading_of c) images ∷ []
  down_read zero c images = refl
  down_read (suc deep) c images = refl

  -- a read of one of these copies
  one_read : (cs : List Copies) (c : Copies) (images : Images) → Contains cs c → IsOwnTest c.test → IsReadIn cs (deed_of mean (reading_of c) images)
  one_read cs c images listed own = record { copies = c; listed = listed; op = refl; own = own; good = good_law t.setting true (good_by c.test) images c.len c.places }

  -- ---- headers

  -- the reads of a pointer's headers
  abbrev ReadsHeads : ℕ → (List ℕ → Bp → Task) → (List ℕ → Bp → Groups) → Type 0
  ReadsHeads deep down groups = (path : List ℕ) (bp : Bp) (images : Images) → AreReadsIn (groups path bp).heads (tr deep (down path bp) images)

  below_read : (deep : ℕ) (down : List ℕ → Bp → Task) (groups : List ℕ → Bp → Groups) → ReadsHeads deep down groups → (path : List ℕ) (n : ℕ) (ms : List Bp) (images : Images) → AreReadsIn (groups_of_members groups path n ms).heads (traced deep (plan_below down path n ms) images)
  below_read deep down groups one path n [] images = tt
  below_read deep down groups one path n (m ∷ ms) images =
      let at : List ℕ = path ++ n ∷ [] in
      let now : Done Value = mean (down at m) images in
      let xs : List Copies = (groups at m).heads in
      let ys : List Copies = (groups_of_members groups path (n + 1) ms).heads in
      let more : Trace = traced deep (plan_below down path (n + 1) ms) now.images in
      let behind : traced deep (plan_below down path (n + 1) ms >>= λ others. Ends (join_walked (walked now.value) others)) now.images ≡ more =
      each_then (tr deep) mean (plan_below down path (n + 1) ms) (λ others. Ends (join_walked (walked now.value) others)) now.images ∙ append-nil more in
      all_append (IsReadIn (xs ++ ys)) (tr deep (down at m) images) _
      (reads_front xs (xs ++ ys) (tr deep (down at m) images) (λ c k. Contains-append_left xs ys c k) (one at m images))
      (subst (AreReadsIn (xs ++ ys)) (sym behind) (reads_front ys (xs ++ ys) more (λ c k. Contains-append_right xs ys c k) (below_read deep down groups one path (n + 1) ms now.images)))

  found_read : (deep : ℕ) (down : List ℕ → Bp → Task) (groups : List ℕ → Bp → Groups) → ReadsHeads deep down groups → (path : List ℕ) (kept : Option (List ℕ)) (found : Result (List ℕ) Errno) (images : Images) → IfOk found (λ (b : List ℕ). IsTrue (good_kept kept b))
      → AreReadsIn (groups_of_members groups path 0 (members_kept kept)).heads (traced deep (plan_found down path found) images)
  found_read deep down groups one path kept (Err e) images good = tt
  found_read deep down groups one path kept (Ok b) images good =
      let behind : traced deep (plan_below down path 0 (members_of b) >>= λ w. Ends (WalkedBy (under_head path b w))) images ≡ traced deep (plan_below down path 0 (members_of b)) images =
      each_then (tr deep) mean (plan_below down path 0 (members_of b)) (λ w. Ends (WalkedBy (under_head path b w))) images ∙ append-nil (traced deep (plan_below down path 0 (members_of b)) images) in
      subst (λ (k : Option (List ℕ)). AreReadsIn (groups_of_members groups path 0 (members_kept k)).heads (traced deep (plan_found down path (Ok b)) images)) (sym (kept_is kept b good))
      (subst (AreReadsIn (groups_of_members groups path 0 (members_of b)).heads) (sym behind) (below_read deep down groups one path 0 (members_of b) images))

  pointer_read : (deep : ℕ) (gang : Bool) (bp : Bp) (g : Groups) (follow : TaskPlan Value) (images : Images) → AreReadsIn g.heads (traced deep follow images) → AreReadsIn (groups_if gang bp g).heads (traced deep (plan_pointer None gang bp follow) images)
  pointer_read deep true bp g follow images h = h
  pointer_read deep false bp g follow images h = tt

  pub heads_read : (levels deep : ℕ) → levels ≤ deep → (heads : List Head) (path : List ℕ) (bp : Bp) (images : Images) → AreReadsIn (copies_from levels heads path bp).heads (traced deep (plan t (ReadHeads (ByKept heads) levels path bp)) images)
  unfolding copies_from
  heads_read zero deep far heads path bp images = pointer_read deep bp.gang bp no_groups _ images tt
  heads_read (suc levels) zero far heads path bp images = absurd (omega arith)
  heads_read (suc levels) (suc deep) far heads path bp images =
      let head : Copies = head_copies heads path bp in
      let read : Read = read_block t.setting true (good_by head.test) images head.len head.places in
      let members : Groups = groups_of_members (copies_from levels heads) path 0 (members_kept (kept_at heads path)) in
      let rest : Trace = traced (suc deep) (plan_found (ReadHeads (ByKept heads) levels) path read.found) read.images in
      pointer_read (suc deep) bp.gang bp (below_copies head members) (ask (head_task (ByKept heads) path bp) >>= λ v. plan_found (ReadHeads (ByKept heads) levels) path (got v)) images
      (all_append (IsReadIn (head ∷ members.heads)) (tr (suc deep) (reading_of head) images) rest
      (subst (AreReadsIn (head ∷ members.heads)) (sym (down_read (suc deep) head images)) (one_read (head ∷ members.heads) head images (contains_first head members.heads) tt, tt))
      (reads_front members.heads (head ∷ members.heads) rest (λ c k. contains_later head members.heads c k)
      (found_read (suc deep) (ReadHeads (ByKept heads) levels) (copies_from levels heads) (λ at m now. heads_read levels deep (omega arith) heads at m now) path (kept_at heads path) read.found read.images
      (good_law t.setting true (good_kept (kept_at heads path)) images sector_size (places_of bp)))))

  -- ---- bodies

  bodies_read : (deep : ℕ) (bps : List Bp) (images : Images) → AreReadsIn (map body_copies bps) (traced deep (plan_bodies bps) images)
  bodies_read deep [] images = tt
  bodies_read deep (bp ∷ bps) images =
      let c : Copies = body_copies bp in
      let cs : List Copies = map body_copies bps in
      let read : Read = read_block t.setting true (good_by c.test) images c.len c.places in
      let more : Trace = traced deep (plan_bodies bps) read.images in
      let behind : traced deep (plan_bodies bps >>= λ (others : Bodies). Ends (add_got read.found others)) read.images ≡ more =
      each_then (tr deep) mean (plan_bodies bps) (λ (others : Bodies). Ends (add_got read.found others)) read.images ∙ append-nil more in
      all_append (IsReadIn (c ∷ cs)) (tr deep (reading_of c) images) _
      (subst (AreReadsIn (c ∷ cs)) (sym (down_read deep c images)) (one_read (c ∷ cs) c images (contains_first c cs) tt, tt))
      (subst (AreReadsIn (c ∷ cs)) (sym behind) (reads_front cs (c ∷ cs) more (λ x k. contains_later c cs x k) (bodies_read deep bps read.images)))

  after_read : (deep : ℕ) (errors : List (Option Errno)) (bps : List Bp) (cs : List Copies) (images : Images) → (errors ≡ [] → map body_copies bps ≡ cs) → AreReadsIn cs (traced deep (plan_after errors bps) images)
  after_read deep [] bps cs images are =
      let behind : traced deep (plan_bodies bps >>= λ (b : Bodies). Ends (Got (unless_errors b.errors b.bytes))) images ≡ traced deep (plan_bodies bps) images =
      each_then (tr deep) mean (plan_bodies bps) (λ (b : Bodies). Ends (Got (unless_errors b.errors b.bytes))) images ∙ append-nil (traced deep (plan_bodies bps) images) in
      subst (AreReadsIn cs) (sym behind) (subst (λ (xs : List Copies). AreReadsIn xs (traced deep (plan_bodies bps) images)) (are refl) (bodies_read deep bps images))
  after_read deep (e ∷ errors) bps cs images are = tt

  -- the bodies that a walk without error comes to
  walked_bodies : (tree : Tree) (images : Images) → (walk_kept t.setting tree images).errors ≡ [] → map body_copies (walk_kept t.setting tree images).bodies ≡ (groups_of tree).bodies
  walked_bodies tree images none =
      mapped_twice (walk_kept t.setting tree images).bodies
      ∙ ap (map piece_copies) (kept_walk_comes t.setting tree images none)
      ∙ sym (from_bodies header_levels_max tree.heads [] tree.bp)

  -- A read of a block, and a free of it, read pieces of the block.
  pub free_read : (deep : ℕ) → 8 ≤ deep → (tree : Tree) (images : Images) → AreReadsIn (copies_of tree) (tr (suc deep) (ReadHeads (ByKept tree.heads) header_levels_max [] tree.bp) images)
  free_read deep far tree images =
      reads_front (groups_of tree).heads (copies_of tree) _ (λ c k. Contains-append_left (groups_of tree).heads (groups_of tree).bodies c k)
      (heads_read header_levels_max deep far tree.heads [] tree.bp images)

  pub tree_read : (deep : ℕ) → 8 ≤ deep → (tree : Tree) (images : Images) → AreReadsIn (copies_of tree) (traced (suc deep) (plan_tree tree) images)
  tree_read deep far tree images =
      let w : Walk = walk_kept t.setting tree images in
      all_append (IsReadIn (copies_of tree)) (tr (suc deep) (ReadHeads (ByKept tree.heads) header_levels_max [] tree.bp) images) _
      (free_read deep far tree images)
      (reads_front (groups_of tree).bodies (copies_of tree) _ (λ c k. Contains-append_right (groups_of tree).heads (groups_of tree).bodies c k)
      (after_read (suc deep) w.errors w.bodies (groups_of tree).bodies w.images (walked_bodies tree images)))
