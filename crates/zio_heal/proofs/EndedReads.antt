-- A read that ended in a round without error gave the content of its name.
use Rattle.std.proofs.Common.{◌≡◌, ℕ, List, [], ◌∷◌, ◌++◌, map, Option, Some, None, Result, Ok, Err, IfOk, refl, sym, ap, ◌∙◌, subst, append-nil, arith}
use Rattle.zio_types.specs.declared.error.Errno.{Errno}
use Rattle.zio_types.specs.declared.place.Place.{Place}
use Rattle.zio_types.specs.declared.request.Prio.{Prio}
use Rattle.zio_types.specs.Choices.{Choice}
use Rattle.zio_script.specs.declared.script.Request.{Request}
use Rattle.zio_script.specs.declared.script.Work.{Work}
use Rattle.zio_script.specs.declared.script.Work.TheVariants.{Read}
use Rattle.zio_cksum.specs.Images.{Images}
use Rattle.zio_gang.specs.declared.tree.Tree.{Tree}
use Rattle.zio_gang.specs.Attempts.{Ended, Own, Terms, own_found, own_work, read_of}
use Rattle.zio_gang.specs.Trees.{read_tree}
use Rattle.zio_trace.specs.BlockCopies.{Copies, copies_of}
use Rattle.zio_trace.specs.Plans.{own_read_by, plan_own, plan_read, plan_tree}
use Rattle.zio_trace.specs.Programs.{Deed, Ends as EndsProgram}
use Rattle.zio_trace.specs.RoundTraces.{Trace, is_single_or_piece, task_trace, trace_each}
use Rattle.zio_trace.specs.RunTraces.{RoundStart, in_round}
use Rattle.zio_trace.specs.Tasks.{Task, Value, got, means}
use Rattle.zio_heal.specs.Contents.{EachPiece, IsGivenGood}
use Rattle.zio_heal.specs.Given.{AreTrueReads, Deeds, IsTrueOf, IsTrueRead, given_by, given_in}
use Rattle.zio_heal.specs.SafeBlocks.{Contents, IsSafe}
use Rattle.zio_heal.specs.SafeRounds.{HasNamed, IsSafeStart, NamesWell}
use Rattle.zio_heal.proofs.BoundBlocks.{IsBinding, block_at, find_binding}
use Rattle.zio_heal.proofs.EndedBlocks.{Ends, at_start, front_by, front_ds, front_true, own_deeds, own_true, some_of}
use Rattle.zio_heal.proofs.HeldLemmas.{given_behind}
use Rattle.zio_heal.proofs.PieceLemmas.{each_weaker}
use Rattle.zio_heal.proofs.PlacedPlans.{each_then}
use Rattle.zio_heal.proofs.ReadTraces.{AreReadsIn, IsReadIn, tree_read}
use Rattle.zio_heal.proofs.TrueReads.{AreTrue, tree_true}

-- ---- reads give nothing

read_gives_none : (t : Terms) (cs : List Copies) (d : Deed Task Value) (places : List Place) (before : Option (List ℕ)) → IsReadIn cs d → given_by d.op places before ≡ before
read_gives_none t cs d places before k = ap (λ (o : Task). given_by o places before) k.op

-- so all of them are judged by what was given before the first
true_by : (now before : Deeds) (d : Deed Task Value) (cs : List Copies) → ((places : List Place) → given_in now places ≡ given_in before places) → IsReadIn cs d → IsTrueRead now d.op d.answer → IsTrueRead before d.op d.answer
true_by now before d cs same k h =
    subst (λ (o : Task). IsTrueRead before o d.answer) (sym k.op)
    (subst (λ (g : Option (List ℕ)). IsTrueOf k.copies.test g (got d.answer)) (same k.copies.places) (subst (λ (o : Task). IsTrueRead now o d.answer) k.op h))

true_fixed : (journal : List Choice) (t : Terms) (now before : Deeds) (cs : List Copies) (es : Trace) → ((places : List Place) → given_in now places ≡ given_in before places) → AreReadsIn cs es → AreTrueReads now (map (in_round t) es) → AreTrue journal t before es
true_fixed journal t now before cs [] same reads h = tt
true_fixed journal t now before cs (d ∷ es) same reads h = (
  true_by now before d cs same reads.0 h.0,
  true_fixed journal t (now ++ in_round t d ∷ []) before cs es
      (λ places. given_behind now (in_round t d ∷ []) places ∙ read_gives_none t cs d places (given_in now places) reads.0 ∙ same places) reads.1 h.1,
)

found_bytes : (found : Result (List ℕ) Errno) (images : Images) (content : List ℕ) → (own_found found images).error ≡ None → IfOk found (λ (bytes : List ℕ). bytes ≡ content) → (own_found found images).bytes ≡ content
found_bytes (Ok bytes) images content none h = h
found_bytes (Err e) images content none h = absurd (cc)

module _ (journal : List Choice) (sizes : ℕ → ℕ) (ds : Deeds) (contents : Contents) (children : ℕ → ℕ) (s : RoundStart) (h : IsSafeStart journal sizes ds contents children s)
    (e : Ended) (ends : Ends journal sizes ds contents children s h e) (none : e.error ≡ None) (name : List ℕ) (prio : Prio) (work : e.request.work ≡ Read name prio) where
  abbrev before : Deeds
  before = ds ++ front_ds journal sizes ds contents children s h e ends

  p_work : ends.p.request.work ≡ Read name prio
  p_work = ap (λ (r : Request). r.work) (sym ends.request) ∙ work

  named : HasNamed s.bound name ends.from.source.block
  named =
      subst (λ (w : Work). NamesWell s.bound w ends.from.source.block) (ap (λ (r : Request). r.work) ends.from.request ∙ p_work)
      (at_start journal sizes ds contents children s h e ends).named

  block : (tree : Tree) × (ends.from.source.block ≡ Some tree)
  block = some_of ends.from.source.block named.there

  p_block : ends.p.block ≡ Some block.0
  p_block = sym ends.from.block ∙ block.1

  binding : IsBinding s.bound name block.0
  binding = find_binding s.bound name block.0 (sym named.is ∙ block.1)

  given : EachPiece (IsGivenGood before) block.0 (contents name)
  given =
      subst (λ (x : Tree). EachPiece (IsGivenGood before) x (contents name)) binding.named.is
      (subst (λ (n : List ℕ). EachPiece (IsGivenGood before) binding.named.binding.tree (contents n)) binding.name_is
      (each_weaker (IsSafe s.terms.setting ends.images before) (IsGivenGood before) (λ c bytes k. record { is_good = k.held.is_good; given = k.given }) binding.named.binding.tree (contents binding.named.binding.name)
      (block_at journal sizes ds contents children s h ends.front ends.images (front_by journal sizes ds contents children s h e ends) (front_true journal sizes ds contents children s h e ends) ends.happen binding.named.binding binding.named.listed)))

  abbrev reads : Trace
  reads = trace_each (task_trace is_single_or_piece journal s.terms) (means journal s.terms) (plan_tree block.0) ends.images

  own_is : own_deeds journal sizes ds contents children s h e ends ≡ map (in_round s.terms) reads
  own_is =
      ap (λ (w : Work). map (in_round s.terms) (trace_each (task_trace is_single_or_piece journal s.terms) (means journal s.terms) (plan_own s.terms ends.attempt ends.p w ends.pointers) ends.images)) p_work
      ∙ ap (λ (b : Option Tree). map (in_round s.terms) (trace_each (task_trace is_single_or_piece journal s.terms) (means journal s.terms) (plan_read b) ends.images)) p_block
      ∙ ap (map (in_round s.terms)) (each_then (task_trace is_single_or_piece journal s.terms) (means journal s.terms) (plan_tree block.0) (λ v. EndsProgram (own_read_by (got v))) ends.images ∙ append-nil reads)

  true_reads : AreTrue journal s.terms before reads
  true_reads =
      true_fixed journal s.terms before before (copies_of block.0) reads (λ places. refl) (tree_read journal s.terms 8 (omega arith) block.0 ends.images)
      (subst (AreTrueReads before) own_is (own_true journal sizes ds contents children s h e ends))

  pub read_gave : e.bytes ≡ contents name
  read_gave =
      let own_is_read : own_work journal s.terms ends.attempt ends.p ends.p.request.work ends.pointers ends.images ≡ read_of s.terms (Some block.0) ends.images =
      ap (λ (w : Work). own_work journal s.terms ends.attempt ends.p w ends.pointers ends.images) p_work ∙ ap (λ (b : Option Tree). read_of s.terms b ends.images) p_block in
      let found = read_tree s.terms.setting block.0 ends.images in
      ends.bytes ∙ ap (λ (o : Own). o.bytes) own_is_read
      ∙ found_bytes found.found found.images (contents name) (ap (λ (o : Own). o.error) (sym own_is_read) ∙ ends.fine none)
      (tree_true journal s.terms before 9 block.0 (contents name) ends.images given true_reads)
