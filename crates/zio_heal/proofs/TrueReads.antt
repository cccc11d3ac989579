-- A block whose reads give what was given for their places reads as its content, or fails.
use Rattle.std.proofs.Common.{◌≡◌, ℕ, zero, suc, List, [], ◌∷◌, ◌++◌, take, drop, true, Option, Some, Result, Ok, Err, IfOk, refl, sym, ap, ◌∙◌, subst, append-nil}
use Rattle.std.proofs.lemmas.List.{take-append-drop}
use Rattle.std.specs.List.{AllByRecursion}
use Rattle.zio_types.specs.declared.error.Errno.{Errno}
use Rattle.zio_types.specs.Choices.{Choice}
use Rattle.zio_blkptr.specs.declared.pointer.Bp.{Bp}
use Rattle.zio_blkptr.specs.Pointers.{places_of}
use Rattle.zio_cksum.specs.Blocks.{Read, good_body, read_block}
use Rattle.zio_cksum.specs.Images.{Images}
use Rattle.zio_gang.specs.declared.tree.Tree.{Tree}
use Rattle.zio_gang.specs.Attempts.{Terms}
use Rattle.zio_gang.specs.Trees.{BodiesRead, Walk, add_body, bodies_unless, header_levels_max, read_bodies, read_tree, unless_errors, walk_kept}
use Rattle.zio_trace.specs.Plans.{Bodies, add_got, plan, plan_after, plan_bodies, plan_tree}
use Rattle.zio_trace.specs.Programs.{Deed, Ends, Meaning, ◌>>=◌}
use Rattle.zio_trace.specs.RoundTraces.{Trace, deed_of, is_single_or_piece, task_trace, trace_down, trace_each}
use Rattle.zio_trace.specs.Tasks.{BodyOf, ByKept, Got, ReadCopies, ReadHeads, ReadTree, Task, Value, means}
use Rattle.zio_trace.proofs.ListLemmas.{all_front, all_rest}
use Rattle.zio_heal.specs.Contents.{EachPiece, IsGivenGood}
use Rattle.zio_heal.specs.Given.{Deeds, IsAsGiven, IsTrueRead}
use Rattle.zio_heal.proofs.BodyParts.{HaveParts, bodies_come}
use Rattle.zio_heal.proofs.PlacedPlans.{each_then}

module _ (journal : List Choice) (t : Terms) (before : Deeds) where
  abbrev mean : Meaning Task Value
  mean = means journal t

  -- each read in turn gives what was given
  abbrev pub AreTrue : Trace → Type 0
  AreTrue ds = AllByRecursion (λ (d : Deed Task Value). IsTrueRead before d.op d.answer) ds

  abbrev body_task : Bp → Task
  body_task bp = ReadCopies true (BodyOf bp) bp.size (places_of bp)

  -- a piece is traced as itself
  down_body : (deep : ℕ) (bp : Bp) (images : Images) → trace_down deep is_single_or_piece mean (plan t) (body_task bp) images ≡ deed_of mean (body_task bp) images ∷ []
  down_body zero bp images = refl
  down_body (suc deep) bp images = refl

  -- without an error the bytes are the content
  abbrev IsContent : BodiesRead → List ℕ → Type 0
  IsContent r content = r.errors ≡ [] → r.bytes ≡ content

  add_content : (found : Result (List ℕ) Errno) (others : BodiesRead) (part rest : List ℕ) → IsAsGiven (Some part) found → IsContent others rest → IsContent (add_body found others) (part ++ rest)
  add_content (Ok bytes) others part rest is h none =
      let same : part ≡ bytes = cc in
      ap (λ (xs : List ℕ). bytes ++ xs) (h none) ∙ ap (λ (xs : List ℕ). xs ++ rest) (sym same)
  add_content (Err e) others part rest is h none = let no : ⊥ = cc in absurd no

  bodies_true : (deep : ℕ) (bps : List Bp) (content : List ℕ) (images : Images) → HaveParts (IsGivenGood before) bps content → AreTrue (trace_each (trace_down deep is_single_or_piece mean (plan t)) mean (plan_bodies bps) images)
      → IsContent (read_bodies t.setting bps images) content
  bodies_true deep [] content images h true_ none = sym h
  bodies_true deep (bp ∷ bps) content images h true_ none =
      let tr : Task → Images → Trace = trace_down deep is_single_or_piece mean (plan t) in
      let read : Read = read_block t.setting true (good_body bp) images bp.size (places_of bp) in
      let one : Trace = tr (body_task bp) images in
      let more : Trace = trace_each tr mean (plan_bodies bps) read.images in
      let behind : trace_each tr mean (plan_bodies bps >>= λ (others : Bodies). Ends (add_got read.found others)) read.images ≡ more =
      each_then tr mean (plan_bodies bps) (λ (others : Bodies). Ends (add_got read.found others)) read.images ∙ append-nil more in
      let first : AreTrue one = all_front (λ (d : Deed Task Value). IsTrueRead before d.op d.answer) one _ true_ in
      let rest : AreTrue more = subst AreTrue behind (all_rest (λ (d : Deed Task Value). IsTrueRead before d.op d.answer) one _ true_) in
      let is : AreTrue (deed_of mean (body_task bp) images ∷ []) = subst AreTrue (down_body deep bp images) first in
      subst (IsContent (read_bodies t.setting (bp ∷ bps) images)) (take-append-drop bp.size content)
      (add_content read.found (read_bodies t.setting bps read.images) (take bp.size content) (drop bp.size content)
      (subst (λ (g : Option (List ℕ)). IsAsGiven g read.found) h.0.given is.0) (bodies_true deep bps (drop bp.size content) read.images h.1 rest)) none

  -- what follows the walk, by its errors
  after_true : (deep : ℕ) (w : Walk) (errors : List (Option Errno)) (content : List ℕ) → w.errors ≡ errors → (w.errors ≡ [] → HaveParts (IsGivenGood before) w.bodies content)
      → AreTrue (trace_each (trace_down deep is_single_or_piece mean (plan t)) mean (plan_after errors w.bodies) w.images) → IfOk (bodies_unless errors t.setting w).found (λ (bytes : List ℕ). bytes ≡ content)
  after_true deep w [] content is parts true_ =
      let tr : Task → Images → Trace = trace_down deep is_single_or_piece mean (plan t) in
      let b : BodiesRead = read_bodies t.setting w.bodies w.images in
      let behind : trace_each tr mean (plan_bodies w.bodies >>= λ (x : Bodies). Ends (Got (unless_errors x.errors x.bytes))) w.images ≡ trace_each tr mean (plan_bodies w.bodies) w.images =
      each_then tr mean (plan_bodies w.bodies) (λ (x : Bodies). Ends (Got (unless_errors x.errors x.bytes))) w.images ∙ append-nil (trace_each tr mean (plan_bodies w.bodies) w.images) in
      unless_content b.errors b.bytes content (bodies_true deep w.bodies content w.images (parts is) (subst AreTrue behind true_))
    where
      unless_content : (errors : List (Option Errno)) (bytes whole : List ℕ) → (errors ≡ [] → bytes ≡ whole) → IfOk (unless_errors errors bytes) (λ (xs : List ℕ). xs ≡ whole)
      unless_content [] bytes whole h = h refl
      unless_content (e ∷ errors) bytes whole h = tt
  after_true deep w (e ∷ errors) content is parts true_ = tt

  -- The block is read as its content, or fails, where its reads are true: by its plan, and as a task.
  pub tree_true : (deep : ℕ) (tree : Tree) (content : List ℕ) (images : Images) → EachPiece (IsGivenGood before) tree content → AreTrue (trace_each (trace_down deep is_single_or_piece mean (plan t)) mean (plan_tree tree) images)
      → IfOk (read_tree t.setting tree images).found (λ (bytes : List ℕ). bytes ≡ content)
  unfolding read_tree
  tree_true deep tree content images h true_ =
      let tr : Task → Images → Trace = trace_down deep is_single_or_piece mean (plan t) in
      let w : Walk = walk_kept t.setting tree images in
      let rest : AreTrue (trace_each tr mean (plan_after w.errors w.bodies) w.images) =
      all_rest (λ (d : Deed Task Value). IsTrueRead before d.op d.answer) (tr (ReadHeads (ByKept tree.heads) header_levels_max [] tree.bp) images) _ true_ in
      after_true deep w w.errors content refl (bodies_come (IsGivenGood before) (λ c bytes k. k.is_good) t.setting tree content images h) rest

  pub true_law : (tree : Tree) (content : List ℕ) (images : Images) → EachPiece (IsGivenGood before) tree content → AreTrue (task_trace is_single_or_piece journal t (ReadTree tree) images)
      → IfOk (read_tree t.setting tree images).found (λ (bytes : List ℕ). bytes ≡ content)
  true_law tree content images h true_ = tree_true 8 tree content images h true_
