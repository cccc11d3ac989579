-- The trace of a request's own work: it writes at places that were found for the request, and reads pieces of its block.
use Rattle.std.proofs.Common.{◌≡◌, ℕ, ◌+◌, ◌≤◌, List, [], length, Bool, Option, Some, None, IfOk, IfSome, IsTrue, ◌⊎◌, inl, inr, refl, sym, ap, ◌∙◌, subst, append-nil, arith}
use Rattle.std.specs.List.{AllByRecursion}
use Rattle.zio_types.specs.declared.place.Place.{Place}
use Rattle.zio_types.specs.Choices.{Choice}
use Rattle.zio_types.specs.Paths.{path_steps_max}
use Rattle.zio_blkptr.specs.declared.pointer.Bp.{Bp}
use Rattle.zio_script.specs.declared.script.Request.{Request}
use Rattle.zio_script.specs.declared.script.Work.{Work}
use Rattle.zio_script.specs.declared.script.Work.TheVariants.{Null, Read as WorkRead, Write, Free, Claim}
use Rattle.zio_script.specs.Bodies.{body_of}
use Rattle.zio_cksum.specs.Frames.{FitSpots, spots_of}
use Rattle.zio_cksum.specs.Images.{Images, Spot, image_of}
use Rattle.zio_cksum.proofs.AllLemmas.{all_contains, all_weaker}
use Rattle.zio_cksum.proofs.ReadLemmas.{reads_law}
use Rattle.zio_cksum.proofs.WriteLemmas.{writes_law}
use Rattle.zio_gang.specs.declared.tree.Tree.{Tree}
use Rattle.zio_gang.specs.Attempts.{Pending, Terms}
use Rattle.zio_gang.specs.Trees.{header_levels_max, sizes_of}
use Rattle.zio_gang.specs.Writes.{content_of}
use Rattle.zio_trace.specs.BlockCopies.{Copies, copies_of, reading_of}
use Rattle.zio_trace.specs.Leaves.{HaveSizes}
use Rattle.zio_trace.specs.Plans.{own_read_by, own_stored, plan_free, plan_own, plan_read, plan_tree, plan_write}
use Rattle.zio_trace.specs.Programs.{Deed, Ends, Meaning, ◌>>=◌}
use Rattle.zio_trace.specs.RoundTraces.{Trace, is_single_or_piece, levels_max, own_trace, task_trace, trace_each}
use Rattle.zio_trace.specs.Separate.{IsNoClaim}
use Rattle.zio_trace.specs.Tasks.{ByKept, Find, ReadCopies, ReadHeads, Task, Test, Value, WriteCopies, good_by, got, means, stored}
use Rattle.zio_trace.proofs.ChoiceLemmas.{Answers}
use Rattle.zio_trace.proofs.SpotLemmas.{AllInside, NoneTouch}
use Rattle.zio_heal.specs.Pools.{IsPool}
use Rattle.zio_heal.proofs.HeldLemmas.{lie_on}
use Rattle.zio_heal.proofs.PlacedPlans.{each_then}
use Rattle.zio_heal.proofs.ReadTraces.{AreReadsIn, IsOwnTest, IsReadIn, free_read, tree_read}
use Rattle.zio_heal.proofs.SafeTraces.{AllPass, Passes}
use Rattle.zio_heal.proofs.WriteTraces.{write_for}
use Rattle.zio_heal.proofs.WrittenPieces.{AllWriteAt, IsAt, WritesAt, found_inside}

-- ---- deeds of a request

-- a read of a piece of the request's block
pub record ReadsBlock (p : Pending) (o : Task) (v : Value) : Type 0 where
  pub tree : Tree
  pub block : p.block ≡ Some tree
  pub read : IsReadIn (copies_of tree) (record { op = o; answer = v })

-- the operation is one of the request's own work
abbrev pub OfRequest : List Choice → Terms → Pending → Task → Value → Type 0
OfRequest journal t p (WriteCopies bytes places) v = IsAt journal t p [] places
OfRequest journal t p (ReadCopies repair test len places) v = ReadsBlock p (ReadCopies repair test len places) v
OfRequest journal t p (Find a) v = Unit {0}
OfRequest journal t p _ v = ⊥

abbrev pub AreOf : List Choice → Terms → Pending → Trace → Type 0
AreOf journal t p ds = AllByRecursion (λ (d : Deed Task Value). OfRequest journal t p d.op d.answer) ds

-- places found for a request, whatever else it has
pub at_same : (journal : List Choice) (t : Terms) (p q : Pending) (path : List ℕ) (places : List Place) → p.request ≡ q.request → IsAt journal t p path places → IsAt journal t q path places
at_same journal t p q path places e a = record {
  ask = a.ask;
  below = a.below;
  request = a.request ∙ ap (λ (r : Request). r.number) e;
  now = a.now;
  at = a.at;
  found = a.found;
}

pub of_same : (journal : List Choice) (t : Terms) (p q : Pending) (o : Task) (v : Value) → p.request ≡ q.request → p.block ≡ q.block → OfRequest journal t p o v → OfRequest journal t q o v
of_same journal t p q (WriteCopies bytes places) v e b h = at_same journal t p q [] places e h
of_same journal t p q (ReadCopies repair test len places) v e b h = record { tree = h.tree; block = sym b ∙ h.block; read = h.read }
of_same journal t p q (Find a) v e b h = tt
of_same journal t p q _ v e b h = absurd h

module _ (journal : List Choice) (t : Terms) where
  abbrev mean : Meaning Task Value
  mean = means journal t

  write_of : (p : Pending) (o : Task) (v : Value) → WritesAt (IsAt journal t p []) o → OfRequest journal t p o v
  write_of p (WriteCopies bytes places) v h = h
  write_of p (Find a) v h = tt
  write_of p _ v h = absurd h

  writes_of : (p : Pending) (ds : Trace) → AllWriteAt (IsAt journal t p []) ds → AreOf journal t p ds
  writes_of p ds h = all_weaker (λ (d : Deed Task Value). WritesAt (IsAt journal t p []) d.op) (λ (d : Deed Task Value). OfRequest journal t p d.op d.answer) ds (λ d k. write_of p d.op d.answer k) h

  reads_of : (p : Pending) (tree : Tree) (ds : Trace) → p.block ≡ Some tree → AreReadsIn (copies_of tree) ds → AreOf journal t p ds
  reads_of p tree ds e h =
      all_weaker (IsReadIn (copies_of tree)) (λ (d : Deed Task Value). OfRequest journal t p d.op d.answer) ds
      (λ d k. subst (λ (o : Task). OfRequest journal t p o d.answer) (sym k.op)
      (record { tree = tree; block = e; read = record { copies = k.copies; listed = k.listed; op = refl; own = k.own; good = k.good } })) h

  -- ---- by the work

  read_work : (p : Pending) (images : Images) (block : Option Tree) → p.block ≡ block → AreOf journal t p (trace_each (task_trace is_single_or_piece journal t) mean (plan_read block) images)
  read_work p images None e = tt
  read_work p images (Some tree) e =
      let ds : Trace = trace_each (task_trace is_single_or_piece journal t) mean (plan_tree tree) images in
      let whole : trace_each (task_trace is_single_or_piece journal t) mean (plan_tree tree >>= λ v. Ends (own_read_by (got v))) images ≡ ds =
      each_then (task_trace is_single_or_piece journal t) mean (plan_tree tree) (λ v. Ends (own_read_by (got v))) images ∙ append-nil ds in
      subst (AreOf journal t p) (sym whole) (reads_of p tree ds e (tree_read journal t 8 (omega arith) tree images))

  free_work : (p : Pending) (images : Images) (block : Option Tree) → p.block ≡ block → AreOf journal t p (trace_each (task_trace is_single_or_piece journal t) mean (plan_free block) images)
  free_work p images None e = tt
  free_work p images (Some tree) e =
      let ds : Trace = task_trace is_single_or_piece journal t (ReadHeads (ByKept tree.heads) header_levels_max [] tree.bp) images in
      subst (AreOf journal t p) (sym (append-nil ds)) (reads_of p tree ds e (free_read journal t 8 (omega arith) tree images))

  work_of : (p : Pending) (attempt : ℕ) (work : Work) (pointers : List (Option Bp)) (images : Images) → IsNoClaim work → AreOf journal t p (trace_each (task_trace is_single_or_piece journal t) mean (plan_own t attempt p work pointers) images)
  work_of p attempt Null pointers images h = tt
  work_of p attempt (WorkRead name prio) pointers images h = read_work p images p.block refl
  work_of p attempt (Write name sum copies prio body) pointers images h =
      let content : List ℕ = content_of pointers (body_of body) in
      let q = plan_write t attempt p sum copies path_steps_max [] content in
      let ds : Trace = trace_each (task_trace is_single_or_piece journal t) mean q images in
      let whole : trace_each (task_trace is_single_or_piece journal t) mean (q >>= λ v. Ends (own_stored (stored v))) images ≡ ds =
      each_then (task_trace is_single_or_piece journal t) mean q (λ v. Ends (own_stored (stored v))) images ∙ append-nil ds in
      subst (AreOf journal t p) (sym whole) (writes_of p ds (write_for journal t p attempt sum copies path_steps_max levels_max (omega arith) [] content images))
  work_of p attempt (Free name) pointers images h = free_work p images p.block refl
  work_of p attempt (Claim name pointer) pointers images h = absurd h

  -- The trace of a request that claims nothing is of its own work.
  pub own_of : (p : Pending) (attempt : ℕ) (pointers : List (Option Bp)) (images : Images) → IsNoClaim p.request.work → AreOf journal t p (own_trace is_single_or_piece journal t attempt p pointers images)
  own_of p attempt pointers images h = work_of p attempt p.request.work pointers images h

-- ---- beside a piece

-- The request's work touches no copy of the piece, but where it reads this very piece.
pub record IsBeside (journal : List Choice) (t : Terms) (c : Copies) (p : Pending) : Type 0 where
  pub inside : IfSome p.block (λ (tree : Tree). AllByRecursion (λ (d : Copies). AllInside t.setting d.places) (copies_of tree))
  pub reads : IfSome p.block (λ (tree : Tree). AllByRecursion (λ (d : Copies). NoneTouch c.places d.places ⊎ (d ≡ c)) (copies_of tree))
  pub writes : (places : List Place) → IsAt journal t p [] places → NoneTouch c.places places

module _ (journal : List Choice) (t : Terms) (sizes : ℕ → ℕ) (pool : IsPool sizes t.setting.tops) (answers : Answers journal (sizes_of t.setting.tops) t.used t.round) where
  -- the read of a piece of a block
  read_passes : (c d : Copies) (v : Value) → IsOwnTest d.test → IfOk (got v) (λ (bytes : List ℕ). IsTrue (good_by d.test bytes)) → AllInside t.setting d.places → NoneTouch c.places d.places ⊎ (d ≡ c) → Passes t.setting c (reading_of d) v
  read_passes c d v own good inside (inl none) = (inside, inl none)
  read_passes c d v own good inside (inr same) = (
    inside,
    inr (record {
      op = ap reading_of same;
      own = subst (λ (x : Copies). IsOwnTest x.test) same own;
      good = subst (λ (x : Copies). IfOk (got v) (λ (bytes : List ℕ). IsTrue (good_by x.test bytes))) same good;
    }),
  )

  block_passes : (c : Copies) (p : Pending) (o : Task) (v : Value) → IsBeside journal t c p → ReadsBlock p o v → Passes t.setting c o v
  block_passes c p o v beside h =
      let k : IsReadIn (copies_of h.tree) (record { op = o; answer = v }) = h.read in
      let inside : AllByRecursion (λ (d : Copies). AllInside t.setting d.places) (copies_of h.tree) =
      subst (λ (b : Option Tree). IfSome b (λ (tree : Tree). AllByRecursion (λ (d : Copies). AllInside t.setting d.places) (copies_of tree))) h.block beside.inside in
      let reads : AllByRecursion (λ (d : Copies). NoneTouch c.places d.places ⊎ (d ≡ c)) (copies_of h.tree) =
      subst (λ (b : Option Tree). IfSome b (λ (tree : Tree). AllByRecursion (λ (d : Copies). NoneTouch c.places d.places ⊎ (d ≡ c)) (copies_of tree))) h.block beside.reads in
      subst (λ (x : Task). Passes t.setting c x v) (sym k.op)
      (read_passes c k.copies v k.own k.good (all_contains (λ (d : Copies). AllInside t.setting d.places) (copies_of h.tree) k.copies inside k.listed)
      (all_contains (λ (d : Copies). NoneTouch c.places d.places ⊎ (d ≡ c)) (copies_of h.tree) k.copies reads k.listed))

  pub one_passes : (c : Copies) (p : Pending) (o : Task) (v : Value) → IsBeside journal t c p → OfRequest journal t p o v → Passes t.setting c o v
  one_passes c p (WriteCopies bytes places) v beside h = (found_inside journal t sizes pool answers h.ask places h.now h.found, beside.writes places h)
  one_passes c p (ReadCopies repair test len places) v beside h = block_passes c p (ReadCopies repair test len places) v beside h
  one_passes c p (Find a) v beside h = tt
  one_passes c p _ v beside h = absurd h

  pub all_pass : (c : Copies) (p : Pending) (ds : Trace) → IsBeside journal t c p → AreOf journal t p ds → AllPass t.setting c ds
  all_pass c p ds beside h = all_weaker (λ (d : Deed Task Value). OfRequest journal t p d.op d.answer) (λ (d : Deed Task Value). Passes t.setting c d.op d.answer) ds (λ d k. one_passes c p d.op d.answer beside k) h

  -- ---- sizes

  -- the block of a request lies inside the tops
  abbrev pub LiesInside : Pending → Type 0
  LiesInside p = IfSome p.block (λ (tree : Tree). AllByRecursion (λ (d : Copies). AllInside t.setting d.places) (copies_of tree))

  fits : (places : List Place) (images : Images) → AllInside t.setting places → HaveSizes sizes images → FitSpots (spots_of t.setting places) images
  fits places images inside have =
      all_weaker (λ (u : Spot). u.at + u.span ≤ sizes u.leaf) (λ (u : Spot). u.at + u.span ≤ length (image_of images u.leaf)) (spots_of t.setting places)
      (λ u on. let is : length (image_of images u.leaf) ≡ sizes u.leaf = have u.leaf in omega arith) (lie_on t.setting sizes pool places inside)

  read_inside : (p : Pending) (repair : Bool) (test : Test) (len : ℕ) (places : List Place) (v : Value) → LiesInside p → ReadsBlock p (ReadCopies repair test len places) v → AllInside t.setting places
  read_inside p repair test len places v lies h =
      let k : IsReadIn (copies_of h.tree) (record { op = ReadCopies repair test len places; answer = v }) = h.read in
      let op : ReadCopies repair test len places ≡ reading_of k.copies = k.op in
      let same : places ≡ k.copies.places = cc in
      subst (AllInside t.setting) (sym same)
      (all_contains (λ (d : Copies). AllInside t.setting d.places) (copies_of h.tree) k.copies
      (subst (λ (b : Option Tree). IfSome b (λ (tree : Tree). AllByRecursion (λ (d : Copies). AllInside t.setting d.places) (copies_of tree))) h.block lies) k.listed)

  pub one_sized : (p : Pending) (o : Task) (v : Value) (images : Images) → LiesInside p → OfRequest journal t p o v → HaveSizes sizes images → HaveSizes sizes (means journal t o images).images
  one_sized p (WriteCopies bytes places) v images lies h have = λ leaf. (writes_law t.setting bytes places images (fits places images (found_inside journal t sizes pool answers h.ask places h.now h.found) have)).sizes leaf ∙ have leaf
  one_sized p (ReadCopies repair test len places) v images lies h have = λ leaf. (reads_law t.setting repair (good_by test) images len places (fits places images (read_inside p repair test len places v lies h) have)).sizes leaf ∙ have leaf
  one_sized p (Find a) v images lies h have = have
  one_sized p _ v images lies h have = absurd h
