-- What a round's ended requests made and read: the blocks of writes are safe at the end, and reads gave the contents.
use Rattle.std.proofs.Common.{◌≡◌, ◌≢◌, ℕ, ◌^◌, ◌<◌, ◌≤◌, List, [], ◌∷◌, ◌++◌, length, map, Option, Some, None, IsSome, Contains, ◌⊎◌, inl, refl, sym, ap, ◌∙◌, subst, append_assoc, append-nil}
use Rattle.std.proofs.lemmas.List.{map-append}
use Rattle.std.specs.List.{AllByRecursion}
use Rattle.zio_types.specs.declared.error.Errno.{Errno}
use Rattle.zio_types.specs.declared.place.Place.{Place}
use Rattle.zio_types.specs.declared.request.Prio.{Prio}
use Rattle.zio_types.specs.Choices.{Choice}
use Rattle.zio_blkptr.specs.declared.pointer.SumKind.{SumKind}
use Rattle.zio_script.specs.declared.script.Body.{Body}
use Rattle.zio_script.specs.declared.script.Request.{Request}
use Rattle.zio_script.specs.declared.script.Work.{Work}
use Rattle.zio_script.specs.declared.script.Work.TheVariants.{Write}
use Rattle.zio_script.specs.Bodies.{body_of}
use Rattle.zio_cksum.specs.Images.{Images}
use Rattle.zio_cksum.proofs.AllLemmas.{all_contains}
use Rattle.zio_gang.specs.declared.tree.Tree.{Tree}
use Rattle.zio_gang.specs.Attempts.{Ended, Own, Pending, Terms, own_work, tree_unless}
use Rattle.zio_gang.specs.Rounds.{settle_each}
use Rattle.zio_gang.specs.Trees.{sizes_of, tree_places}
use Rattle.zio_gang.specs.Writes.{content_of}
use Rattle.zio_trace.specs.BlockCopies.{Copies, copies_of}
use Rattle.zio_trace.specs.Leaves.{HaveSizes}
use Rattle.zio_trace.specs.Plans.{plan_own}
use Rattle.zio_trace.specs.Programs.{Happen}
use Rattle.zio_trace.specs.RoundTraces.{Trace, is_single_or_piece, own_trace, task_trace, trace_each}
use Rattle.zio_trace.specs.RunTraces.{RoundStart, in_round}
use Rattle.zio_trace.specs.Separate.{NoneMeet}
use Rattle.zio_trace.specs.SoundRounds.{IsOwnBlock}
use Rattle.zio_trace.specs.Tasks.{means}
use Rattle.zio_trace.proofs.ListLemmas.{all_front, all_rest}
use Rattle.zio_trace.proofs.PairLemmas.{all_of}
use Rattle.zio_trace.proofs.ProgramLemmas.{happen_apart}
use Rattle.zio_trace.proofs.SpotLemmas.{AllInside, NoneTouch, touch_turned}
use Rattle.zio_heal.specs.Contents.{EachPiece, IsHeld}
use Rattle.zio_heal.specs.Given.{AreTrueReads, Deeds, given_in}
use Rattle.zio_heal.specs.Pools.{IsBlockSize, IsWriting}
use Rattle.zio_heal.specs.SafeBlocks.{Contents, IsSafe}
use Rattle.zio_heal.specs.SafeRounds.{FitsWrite, IsReady, IsSafeStart, deeds_in}
use Rattle.zio_heal.proofs.BoundBlocks.{IsNamed, Q, answers, block_of_request, bound_clear, by_all, claims, if_some, inside_in, pass_all, tells, trace}
use Rattle.zio_heal.proofs.EndedRequests.{AreBy, EndsIn, IsBy, own_happens}
use Rattle.zio_heal.proofs.HeldLemmas.{given_behind, is_given, is_held}
use Rattle.zio_heal.proofs.OwnTraces.{IsBeside, LiesInside, one_sized}
use Rattle.zio_heal.proofs.PieceLemmas.{each_weaker}
use Rattle.zio_heal.proofs.PlacedLemmas.{block_written, each_written, free_places_law, own_law, own_places, size_is, tree_law}
use Rattle.zio_heal.proofs.PlacedPlaces.{IsFoundAt}
use Rattle.zio_heal.proofs.SafeTraces.{AllPass, IsStill, all_still}
use Rattle.zio_heal.proofs.SlotLemmas.{contents_long}
use Rattle.zio_heal.proofs.WrittenPieces.{AllWriteAt, AreUsable, IsAt, IsWrittenIn, all_writes, asks_apart, found_inside}

-- ---- parts of a history

pub true_first : (before xs ys : Deeds) → AreTrueReads before (xs ++ ys) → AreTrueReads before xs
true_first before [] ys h = tt
true_first before (x ∷ xs) ys h = (h.0, true_first (before ++ x ∷ []) xs ys h.1)

pub true_later : (before xs ys : Deeds) → AreTrueReads before (xs ++ ys) → AreTrueReads (before ++ xs) ys
true_later before [] ys h = subst (λ (b : Deeds). AreTrueReads b ys) (sym (append-nil before)) h
true_later before (x ∷ xs) ys h = subst (λ (b : Deeds). AreTrueReads b ys) (append_assoc before (x ∷ []) xs) (true_later (before ++ x ∷ []) xs ys h.1)

-- what happens leads to the same images
happen_same : (journal : List Choice) (t : Terms) (es : Trace) (start a b : Images) → Happen (means journal t) es start a → Happen (means journal t) es start b → a ≡ b
happen_same journal t [] start a b h k = sym h ∙ k
happen_same journal t (d ∷ es) start a b h k = happen_same journal t es (means journal t d.op start).images a b h.1 k.1

pub some_of : {X : Type 0} (o : Option X) → IsSome o → (x : X) × (o ≡ Some x)
some_of (Some x) h = (x, refl)
some_of None h = absurd (cc)

module _ (journal : List Choice) (sizes : ℕ → ℕ) (ds : Deeds) (contents : Contents) (children : ℕ → ℕ) (s : RoundStart) (h : IsSafeStart journal sizes ds contents children s) where
  abbrev all_requests : List Pending
  all_requests = Q journal sizes ds contents children s h

  abbrev whole : Trace
  whole = trace journal sizes ds contents children s h

  abbrev last : Images
  last = (settle_each journal s.terms s.trees s.images).images

  abbrev pub Ends : Ended → Type 0
  Ends e = EndsIn journal s.terms all_requests children s.images whole e

  -- ---- sizes

  lies : (q : Pending) → Contains all_requests q → LiesInside journal s.terms sizes h.pool (answers journal sizes ds contents children s h) q
  lies q lq = if_some q.block _ (λ tree e.
      let k : IsNamed s.bound tree = block_of_request journal sizes ds contents children s h q tree lq e in
      subst (λ (x : Tree). AllByRecursion (λ (d : Copies). AllInside s.terms.setting d.places) (copies_of x)) k.is (inside_in journal sizes ds contents children s h k.binding k.listed))

  pub sized_by : (N : ℕ → Type 0) (es : Trace) (old new : Images) → AreBy journal s.terms all_requests children N es → Happen (means journal s.terms) es old new → HaveSizes sizes old → HaveSizes sizes new
  sized_by N [] old new by happen have = subst (HaveSizes sizes) happen have
  sized_by N (d ∷ es) old new by happen have =
      let one : IsBy journal s.terms all_requests children N d = by.0 in
      sized_by N es (means journal s.terms d.op old).images new by.1 happen.1
      (one_sized journal s.terms sizes h.pool (answers journal sizes ds contents children s h) one.by d.op d.answer old (lies one.by one.listed) one.of have)

  pub sizes_after : HaveSizes sizes last
  sizes_after = sized_by (λ n. Unit {0}) whole s.images last (by_all journal sizes ds contents children s h) (tells journal sizes ds contents children s h).happen h.sizes_are

  -- ---- a write that ended

  -- its request at the round's start
  pub at_start : (e : Ended) (ends : Ends e) → IsReady s.bound children ends.from.source
  at_start e ends = all_contains (IsReady s.bound children) all_requests ends.from.source h.ready.each ends.from.listed

  source_is : (e : Ended) (ends : Ends e) → ends.from.source.request ≡ e.request
  source_is e ends = ends.from.request ∙ sym ends.request

  -- a piece that was written in the round, beside the other requests
  new_beside : (p q : Pending) (c : Copies) (len : ℕ) → AreUsable s.terms.setting len c.places → IsAt journal s.terms p [] c.places → Contains all_requests q → q.request.number ≢ p.request.number → IsBeside journal s.terms c q
  new_beside p q c len usable at lq ne = record {
    inside = lies q lq;
    reads = if_some q.block _ (λ tree e.
        let k : IsNamed s.bound tree = block_of_request journal sizes ds contents children s h q tree lq e in
        subst (λ (x : Tree). AllByRecursion (λ (d : Copies). NoneTouch c.places d.places ⊎ (d ≡ c)) (copies_of x)) k.is
        (all_of (λ (d : Copies). NoneTouch c.places d.places ⊎ (d ≡ c)) (copies_of k.binding.tree)
        (λ d ld. inl (touch_turned d.places c.places (bound_clear journal sizes ds contents children s h k.binding d p c.places k.listed ld at)))));
    writes = λ places b.
        asks_apart journal s.terms sizes h.pool (answers journal sizes ds contents children s h) at.ask b.ask c.places places at.now b.now
        (λ same. ne (sym b.request ∙ sym same.request ∙ at.request)) at.found b.found;
  }

  -- the deeds of the round in three parts
  map_parts : (xs ys zs : Trace) → map (in_round s.terms) (xs ++ (ys ++ zs)) ≡ map (in_round s.terms) xs ++ (map (in_round s.terms) ys ++ map (in_round s.terms) zs)
  map_parts xs ys zs =
      map-append (in_round s.terms) xs (ys ++ zs) ∙ ap (λ (es : Deeds). map (in_round s.terms) xs ++ es) (map-append (in_round s.terms) ys zs)

  module _ (e : Ended) (ends : Ends e) where
    -- what was before the request's own work, and that work
    abbrev pub front_ds : Deeds
    front_ds = map (in_round s.terms) ends.front

    abbrev pub own_trace_ : Trace
    own_trace_ = own_trace is_single_or_piece journal s.terms ends.attempt ends.p ends.pointers ends.images

    abbrev pub own_deeds : Deeds
    own_deeds = map (in_round s.terms) own_trace_

    abbrev rest_ds : Deeds
    rest_ds = map (in_round s.terms) ends.rest

    abbrev own_images : Images
    own_images = (own_work journal s.terms ends.attempt ends.p ends.p.request.work ends.pointers ends.images).images

    accepts_parts : AreTrueReads ds (front_ds ++ (own_deeds ++ rest_ds))
    accepts_parts =
        subst (AreTrueReads ds) (ap (map (in_round s.terms)) ends.is ∙ map_parts ends.front own_trace_ ends.rest) h.accepts

    pub front_true : AreTrueReads ds front_ds
    front_true = true_first ds front_ds (own_deeds ++ rest_ds) accepts_parts

    pub own_true : AreTrueReads (ds ++ front_ds) own_deeds
    own_true = true_first (ds ++ front_ds) own_deeds rest_ds (true_later ds front_ds (own_deeds ++ rest_ds) accepts_parts)

    rest_true : AreTrueReads ((ds ++ front_ds) ++ own_deeds) rest_ds
    rest_true = true_later (ds ++ front_ds) own_deeds rest_ds (true_later ds front_ds (own_deeds ++ rest_ds) accepts_parts)

    parts_by : AreBy journal s.terms all_requests children (λ n. Unit {0}) (ends.front ++ (own_trace_ ++ ends.rest))
    parts_by = subst (AreBy journal s.terms all_requests children (λ n. Unit {0})) ends.is (by_all journal sizes ds contents children s h)

    pub front_by : AreBy journal s.terms all_requests children (λ n. Unit {0}) ends.front
    front_by = all_front (IsBy journal s.terms all_requests children (λ n. Unit {0})) ends.front (own_trace_ ++ ends.rest) parts_by

    own_by : AreBy journal s.terms all_requests children (λ n. Unit {0}) own_trace_
    own_by =
        all_front (IsBy journal s.terms all_requests children (λ n. Unit {0})) own_trace_ ends.rest
        (all_rest (IsBy journal s.terms all_requests children (λ n. Unit {0})) ends.front (own_trace_ ++ ends.rest) parts_by)

    own_happen : Happen (means journal s.terms) own_trace_ ends.images own_images
    own_happen = own_happens journal s.terms all_requests children sizes h.pool (answers journal sizes ds contents children s h) (claims journal sizes ds contents children s h) ends.attempt ends.p ends.pointers ends.images

    rest_happen : Happen (means journal s.terms) ends.rest own_images last
    rest_happen =
        let all : Happen (means journal s.terms) (ends.front ++ (own_trace_ ++ ends.rest)) s.images last =
        subst (λ (xs : Trace). Happen (means journal s.terms) xs s.images last) ends.is (tells journal sizes ds contents children s h).happen in
        let one = happen_apart (means journal s.terms) ends.front (own_trace_ ++ ends.rest) s.images last all in
        let two = happen_apart (means journal s.terms) own_trace_ ends.rest one.0 last one.2 in
        let at : one.0 ≡ ends.images = happen_same journal s.terms ends.front s.images one.0 ends.images one.1 ends.happen in
        let behind : two.0 ≡ own_images = happen_same journal s.terms own_trace_ ends.images two.0 own_images (subst (λ (i : Images). Happen (means journal s.terms) own_trace_ i two.0) at two.1) own_happen in
        subst (λ (i : Images). Happen (means journal s.terms) ends.rest i last) behind two.2

    pub sizes_at : HaveSizes sizes ends.images
    sizes_at = sized_by (λ n. Unit {0}) ends.front s.images ends.images front_by ends.happen h.sizes_are

    own_sized : HaveSizes sizes own_images
    own_sized = sized_by (λ n. Unit {0}) own_trace_ ends.images own_images own_by own_happen sizes_at

    -- ---- a write that ended without error

    module _ (none : e.error ≡ None) (name : List ℕ) (sum_kind : SumKind) (copies : ℕ) (prio : Prio) (body : Body) (work : e.request.work ≡ Write name sum_kind copies prio body) where
      abbrev order : Work
      order = Write name sum_kind copies prio body

      abbrev pub content : List ℕ
      content = content_of ends.pointers (body_of body)

      p_work : ends.p.request.work ≡ order
      p_work = ap (λ (r : Request). r.work) (sym ends.request) ∙ work

      abbrev own : Own
      own = own_work journal s.terms ends.attempt ends.p order ends.pointers ends.images

      own_same : own_work journal s.terms ends.attempt ends.p ends.p.request.work ends.pointers ends.images ≡ own
      own_same = ap (λ (w : Work). own_work journal s.terms ends.attempt ends.p w ends.pointers ends.images) p_work

      own_none : own.error ≡ None
      own_none = ap (λ (o : Own). o.error) (sym own_same) ∙ ends.fine none

      pub found : (tree : Tree) × (own.tree ≡ Some tree)
      found = some_of own.tree (tree_law journal s.terms ends.attempt ends.p name sum_kind copies prio body ends.pointers ends.images own_none)

      abbrev pub tree : Tree
      tree = found.0

      pub tree_is : e.tree ≡ Some tree
      tree_is =
          ends.tree
          ∙ ap (λ (x : Option Errno). tree_unless x (own_work journal s.terms ends.attempt ends.p ends.p.request.work ends.pointers ends.images).tree) none
          ∙ ap (λ (o : Own). o.tree) own_same ∙ found.1

      fits : FitsWrite ends.from.source (children e.request.number) order
      fits =
          subst (FitsWrite ends.from.source (children e.request.number)) work
          (subst (λ (r : Request). FitsWrite ends.from.source (children r.number) r.work) (source_is e ends) (at_start e ends).fits)

      pub count : length ends.pointers ≡ children e.request.number
      count = ends.all.count ∙ ap (λ (r : Request). children r.number) (sym ends.request)

      writing : IsWriting ends.p copies
      writing = record {
        one = fits.0.one;
        three = fits.0.three;
        some = subst (λ (n : ℕ). 1 ≤ n) ends.from.birth fits.0.some;
        born = subst (λ (n : ℕ). n < 2 ^ 64) ends.from.birth fits.0.born;
      }

      block : IsBlockSize (length content)
      block = subst IsBlockSize (sym (contents_long ends.pointers (children e.request.number) (body_of body) ends.all.slots count)) fits.1

      abbrev At : List Place → Type 0
      At = IsAt journal s.terms ends.p []

      abbrev write_ds : Trace
      write_ds = trace_each (task_trace is_single_or_piece journal s.terms) (means journal s.terms) (plan_own s.terms ends.attempt ends.p order ends.pointers) ends.images

      trace_is : own_trace_ ≡ write_ds
      trace_is = ap (λ (w : Work). trace_each (task_trace is_single_or_piece journal s.terms) (means journal s.terms) (plan_own s.terms ends.attempt ends.p w ends.pointers) ends.images) p_work

      written : EachPiece (IsWrittenIn s.terms At own_trace_) tree content
      written =
          subst (λ (xs : Trace). EachPiece (IsWrittenIn s.terms At xs) tree content) (sym trace_is)
          (each_written journal s.terms ends.attempt ends.p name sum_kind copies prio body ends.pointers sizes ends.images tree h.pool h.lawful.lawful writing block own_none found.1)

      inside : AllWriteAt (AllInside s.terms.setting) own_trace_
      inside =
          subst (AllWriteAt (AllInside s.terms.setting)) (sym trace_is)
          (all_writes At (AllInside s.terms.setting) (λ qs a. found_inside journal s.terms sizes h.pool (answers journal sizes ds contents children s h) a.ask qs a.now a.found) write_ds
          (block_written journal s.terms ends.attempt ends.p name sum_kind copies prio body ends.pointers sizes ends.images tree h.pool h.lawful.lawful writing block own_none found.1).writes)

      new_safe : (c : Copies) (bytes : List ℕ) → IsWrittenIn s.terms At own_trace_ c bytes → IsSafe s.terms.setting last (ds ++ deeds_in journal s) c bytes
      new_safe c bytes w =
          let held : IsHeld s.terms.setting own_images c bytes = is_held journal s.terms sizes h.pool At own_trace_ ends.images own_images c bytes h.stores inside sizes_at own_happen w in
          let given : given_in ((ds ++ front_ds) ++ own_deeds) c.places ≡ Some bytes =
          given_behind (ds ++ front_ds) own_deeds c.places ∙ is_given s.terms At own_trace_ c bytes (given_in (ds ++ front_ds) c.places) w in
          let pass : AllPass s.terms.setting c ends.rest =
          pass_all journal sizes ds contents children s h c (λ (n : ℕ). n ≢ e.request.number) ends.rest
          (λ q lq ne. new_beside ends.p q c c.len w.usable w.at lq (λ same. ne (same ∙ ap (λ (r : Request). r.number) (sym ends.request)))) ends.later in
          let still : IsStill journal s.terms sizes h.pool c bytes w.usable (((ds ++ front_ds) ++ own_deeds) ++ rest_ds) last =
          all_still journal s.terms sizes h.pool c bytes w.usable h.stores ends.rest ((ds ++ front_ds) ++ own_deeds) own_images last pass rest_true rest_happen
          (record { sizes_are = own_sized; safe = record { held = held; given = given } }) in
          let joined : ((ds ++ front_ds) ++ own_deeds) ++ rest_ds ≡ ds ++ deeds_in journal s =
          append_assoc (ds ++ front_ds) own_deeds rest_ds ∙ append_assoc ds front_ds (own_deeds ++ rest_ds)
          ∙ ap (λ (xs : Deeds). ds ++ xs) (sym (ap (map (in_round s.terms)) ends.is ∙ map_parts ends.front own_trace_ ends.rest)) in
          subst (λ (xs : Deeds). IsSafe s.terms.setting last xs c bytes) joined still.safe

      -- The block that the write made is safe at the round's end.
      pub made_safe : EachPiece (IsSafe s.terms.setting last (ds ++ deeds_in journal s)) tree content
      made_safe = each_weaker (IsWrittenIn s.terms At own_trace_) (IsSafe s.terms.setting last (ds ++ deeds_in journal s)) new_safe tree content written

      pub made_own : (used : List Place) → AllByRecursion (Contains used) (tree_places tree) → IsOwnBlock (sizes_of s.terms.setting.tops) used tree
      made_own = own_law journal s.terms ends.attempt ends.p name sum_kind copies prio body ends.pointers sizes ends.images tree h.pool h.lawful.lawful writing block own_none found.1

      pub made_free : NoneMeet (tree_places tree) s.terms.used
      made_free = free_places_law journal s.terms ends.attempt ends.p name sum_kind copies prio body ends.pointers sizes ends.images tree h.pool h.lawful.lawful writing block own_none found.1

      pub made_places : AllByRecursion (IsFoundAt journal s.terms ends.p []) (tree_places tree)
      made_places = (own_places journal s.terms ends.attempt ends.p name sum_kind copies prio body ends.pointers sizes ends.images tree h.pool h.lawful.lawful writing block own_none found.1).found

      pub made_size : tree.bp.size ≡ length content
      made_size = size_is journal s.terms ends.attempt ends.p name sum_kind copies prio body ends.pointers sizes ends.images tree h.pool h.lawful.lawful writing block own_none found.1
