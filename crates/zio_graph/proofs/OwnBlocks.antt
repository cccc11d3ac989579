-- A request's own work without error makes a whole block or none, whatever its operations were answered.
use Rattle.std.proofs.Common.{◌≡◌, ℕ, suc, ◌+◌, ◌*◌, ◌^◌, ◌<◌, ◌≤◌, List, [], ◌∷◌, ◌++◌, length, length-append, Bool, true, false, IsTrue, Option, Some, None, Ok, Err, IfSome, refl, sym, ap, ◌∙◌, subst, arith}
use Rattle.std.specs.Prelude.{option_map}
use Rattle.std.specs.List.{AllByRecursion, flat_map}
use Rattle.zio_types.specs.declared.error.Errno.{Errno}
use Rattle.zio_types.specs.declared.request.Prio.{Prio}
use Rattle.zio_types.specs.Choices.{Choice}
use Rattle.zio_types.specs.Errors.{rank}
use Rattle.zio_types.specs.Paths.{path_steps_max}
use Rattle.zio_blkptr.specs.declared.pointer.Bp.{Bp}
use Rattle.zio_blkptr.specs.declared.pointer.SumKind.{SumKind}
use Rattle.zio_blkptr.specs.declared.pointer.TheConstants.{BLOCK_SIZE_MAX}
use Rattle.zio_blkptr.specs.Pointers.{FitsTypes, pointer_of, valid}
use Rattle.zio_blkptr.proofs.PointerLemmas.{length-spelling, spelling-pointer}
use Rattle.zio_script.specs.declared.limits.TheConstants.{POINTER_SIZE}
use Rattle.zio_script.specs.declared.script.Body.{Body}
use Rattle.zio_script.specs.declared.script.Work.{Work}
use Rattle.zio_script.specs.declared.script.Work.TheVariants.{Null, Read, Write, Free, Claim}
use Rattle.zio_script.specs.Bodies.{body_of}
use Rattle.zio_script.specs.Whys.{body_len, fits_work, rounded_up, size_with}
use Rattle.zio_cksum.specs.Headers.{member_bytes}
use Rattle.zio_gang.specs.declared.tree.Head.{Head}
use Rattle.zio_gang.specs.declared.tree.Tree.{Tree}
use Rattle.zio_gang.specs.Attempts.{Child, Pending, Terms}
use Rattle.zio_gang.specs.Journals.{AreLawful}
use Rattle.zio_gang.specs.Trees.{header_levels_max, sizes_of}
use Rattle.zio_gang.specs.Writes.{content_of}
use Rattle.zio_gang.proofs.ContentLemmas.{joined_size, length-padded}
use Rattle.zio_trace.specs.Labels.{Labelled, labelled, ways_at}
use Rattle.zio_trace.specs.Leaves.{Answer}
use Rattle.zio_trace.specs.Oracles.{IsOracle, Oracle, heard}
use Rattle.zio_trace.specs.Plans.{TaskPlan, only, own_read_by, own_stored, own_taken, plan_claim, plan_free, plan_own, plan_read, plan_taken, plan_tree, plan_write}
use Rattle.zio_trace.specs.RoundRules.{task_ways}
use Rattle.zio_trace.specs.Tasks.{ByClaim, OwnGot, ReadHeads, Stored, TakePlaces, Task, Value, Walked, got, stored, taken, walked}
use Rattle.zio_disks.specs.Whole.{AreUnder, IsWholeTree}
use Rattle.zio_blocks.specs.Blocks.{HavePointers}
use Rattle.zio_blocks.specs.Parts.{IsMade}
use Rattle.zio_sound.proofs.Oracled.{at_place, map_at}
use Rattle.zio_stages.proofs.OwnWriteBlock.{IsBlockBytes, block_bytes}
use Rattle.zio_graph.proofs.ClaimedBlocks.{claimed_at}
use Rattle.zio_graph.proofs.WrittenBlocks.{IsLaidOn, block_at}

-- ---- what is needed

-- A pointer that bytes spell.
pub record IsSpelled (bp : Bp) : Type 0 where
  pub types : FitsTypes bp
  pub ok : IsTrue (valid bp)

-- so is a child's, if it has one
abbrev pub MaySpell : Option Bp → Type 0
MaySpell pointer = IfSome pointer IsSpelled

-- The request is in its ranges, under which so many trees stand. With all its children's pointers it is no larger than a block,
-- and bytes spell those that it keeps.
pub record MayMake (children : ℕ) (p : Pending) : Type 0 where
  pub fits : fits_work p.request.work ≡ true
  pub some : 1 ≤ p.birth
  pub born : p.birth < 2 ^ 64
  pub size : size_with (children + length p.kept) p.request.work ≤ BLOCK_SIZE_MAX
  pub kept : AllByRecursion (λ (c : Child). MaySpell c.pointer) p.kept

-- Without error its block is whole, and its pointer is one that bytes spell.
pub record MakesWhole (own : OwnGot) : Type 0 where
  pub whole : own.error ≡ None → IfSome own.tree IsWholeTree
  pub pointer : MaySpell own.pointer

-- ---- no block

none_made : (error : Option Errno) → MakesWhole (only error)
none_made error = record { whole = λ e. tt; pointer = tt }

read_made : (a : Answer) → MakesWhole (own_read_by a)
read_made (Ok bytes) = record { whole = λ e. tt; pointer = tt }
read_made (Err e) = none_made (Some e)

-- ---- the content of a write

member_long : (pointer : Option Bp) → MaySpell pointer → length (member_bytes pointer) ≡ POINTER_SIZE
member_long None h = refl
member_long (Some bp) h = length-spelling bp h.types h.ok

members_long : (pointers : List (Option Bp)) → AllByRecursion MaySpell pointers
    → length (flat_map member_bytes pointers) ≡ POINTER_SIZE * length pointers
members_long [] h = refl
members_long (pointer ∷ pointers) h =
    let first = member_long pointer h.0 in
    let rest = members_long pointers h.1 in
    length-append (member_bytes pointer) (flat_map member_bytes pointers) ∙ omega arith

content_long : (pointers : List (Option Bp)) (body : Body) → AllByRecursion MaySpell pointers
    → length (content_of pointers (body_of body)) ≡ rounded_up (body_len body + POINTER_SIZE * length pointers)
content_long pointers body h =
    let joined : List ℕ = flat_map member_bytes pointers ++ body_of body in
    length-padded joined
    ∙ ap rounded_up (joined_size joined (flat_map member_bytes pointers) (body_of body) body (length pointers) refl
    (members_long pointers h) refl)

-- ---- a block that was written

tree_whole : (pointer : Option Bp) (heads : List Head) → IfSome pointer (λ (bp : Bp). AreUnder header_levels_max [] bp heads)
    → IfSome (option_map (λ (bp : Bp). record { bp = bp; heads = heads }) pointer) IsWholeTree
tree_whole None heads h = tt
tree_whole (Some bp) heads h = h

pointer_spelled : (tops : _) (pointer : Option Bp) → IfSome pointer (IsMade tops) → MaySpell pointer
pointer_spelled tops None h = tt
pointer_spelled tops (Some bp) h = record { types = h.types; ok = h.ok }

stored_made : (tops : _) (len : ℕ) (s : Stored) → IsLaidOn tops path_steps_max [] len s → MakesWhole (own_stored s)
stored_made tops len s h = record {
  whole = λ none.
      (let low : rank s.error ≡ 0 = ap rank none in
      tree_whole s.pointer s.heads (h.laid.whole (omega arith)));
  pointer = pointer_spelled tops s.pointer h.laid.made;
}

-- ---- a block that was claimed

taken_made : (free : Bool) (tree : Tree) → IsWholeTree tree → MakesWhole (own_taken free tree)
taken_made true tree h = record { whole = λ e. h; pointer = tt }
taken_made false tree h = none_made _

module _ (journal : List Choice) (t : Terms) (o : Oracle (Labelled Task) Value) (is : IsOracle (ways_at (task_ways journal t)) o)
    (have : HavePointers t.setting.tops) (lawful : AreLawful (sizes_of t.setting.tops) t.used journal) where
  claimed_made : (errors : List (Option Errno)) (tree : Tree) (at : List ℕ) (n : ℕ) → (errors ≡ [] → IsWholeTree tree)
      → MakesWhole (heard o (labelled at n (plan_taken errors tree)))
  claimed_made [] tree at n h = taken_made (taken (o.answer (at_place at n (TakePlaces tree)))) tree (h refl)
  claimed_made (e ∷ errors) tree at n h = none_made _

  claim_made : (pointer : Option Bp) (at : List ℕ) (n : ℕ) → IfSome pointer (λ (bp : Bp). IsTrue (valid bp))
      → MakesWhole (heard o (labelled at n (plan_claim pointer)))
  claim_made None at n h = none_made _
  claim_made (Some bp) at n h =
      let x = at_place at n (ReadHeads ByClaim header_levels_max [] bp) in
      let w : Walked = walked (o.answer x) in
      claimed_made w.errors (record { bp = bp; heads = w.heads }) at (suc n)
      (claimed_at journal t o is header_levels_max [] bp x.at h)

  spelled_valid : (bytes : List ℕ) (pointer : Option Bp) → pointer_of bytes ≡ pointer
      → IfSome pointer (λ (bp : Bp). IsTrue (valid bp))
  spelled_valid bytes None e = tt
  spelled_valid bytes (Some bp) e = (spelling-pointer bytes bp e).0

  -- ---- by the kind of work

  write_made : (attempt : ℕ) (p : Pending) (name : List ℕ) (sum : SumKind) (copies : ℕ) (prio : Prio) (body : Body)
      (pointers : List (Option Bp)) (at : List ℕ) (n : ℕ)
      → p.request.work ≡ Write name sum copies prio body → MayMake (length pointers) (record p { kept = [] })
      → AllByRecursion MaySpell pointers
      → MakesWhole (heard o (labelled at n (plan_own t attempt p (Write name sum copies prio body) pointers)))
  write_made attempt p name sum copies prio body pointers at n work may spelled =
      let bytes : List ℕ = content_of pointers (body_of body) in
      let none : length pointers + 0 ≡ length pointers = omega arith in
      let block : IsBlockBytes (length bytes) copies =
      block_bytes p.request.work (length bytes) (length pointers) name sum copies prio body work may.fits
      (subst (λ k. size_with k p.request.work ≤ BLOCK_SIZE_MAX) none may.size) (content_long pointers body spelled) in
      let written : TaskPlan Value = plan_write t attempt p sum copies path_steps_max [] bytes in
      let laid = block_at journal t o is have lawful attempt p sum copies
      (record { one = block.one; three = block.three; some = may.some; born = may.born })
      bytes at n (record { some = block.some; whole = block.whole; most = block.most }) in
      subst MakesWhole (sym (map_at o at n written (λ (v : Value). own_stored (stored v))))
      (stored_made (sizes_of t.setting.tops) (length bytes) (stored (heard o (labelled at n written))) laid)

  read_at : (block : Option Tree) (at : List ℕ) (n : ℕ) → MakesWhole (heard o (labelled at n (plan_read block)))
  read_at None at n = none_made _
  read_at (Some tree) at n =
      subst MakesWhole (sym (map_at o at n (plan_tree tree) (λ (v : Value). own_read_by (got v))))
      (read_made (got (heard o (labelled at n (plan_tree tree)))))

  free_at : (block : Option Tree) (at : List ℕ) (n : ℕ) → MakesWhole (heard o (labelled at n (plan_free block)))
  free_at None at n = none_made _
  free_at (Some tree) at n = none_made _

  -- with so many pointers of children
  pub own_made : (attempt : ℕ) (p : Pending) (work : Work) (pointers : List (Option Bp)) (at : List ℕ) (n : ℕ)
      → p.request.work ≡ work
      → MayMake (length pointers) (record p { kept = [] }) → AllByRecursion MaySpell pointers
      → MakesWhole (heard o (labelled at n (plan_own t attempt p work pointers)))
  own_made attempt p Null pointers at n e may spelled = none_made None
  own_made attempt p (Read name prio) pointers at n e may spelled = read_at p.block at n
  own_made attempt p (Write name sum copies prio body) pointers at n e may spelled =
      write_made attempt p name sum copies prio body pointers at n e may spelled
  own_made attempt p (Free name) pointers at n e may spelled = free_at p.block at n
  own_made attempt p (Claim name pointer) pointers at n e may spelled =
      claim_made (pointer_of pointer) at n (spelled_valid pointer (pointer_of pointer) refl)
