-- A write without error has a tree, each piece of which is held with its bytes.
use Rattle.std.proofs.Common.{◌≡◌, ◌≢◌, ℕ, ◌<◌, ◌≤◌, max, min, nat_lt, ◌==◌, not, List, [], ◌∷◌, ◌++◌, length, map, true, false, Option, Some, None, IsSome, IsTrue, Contains, ◌⊎◌, ⊎_elim, eqb-true, refl, sym, ap, ◌∙◌, subst, append-nil, arith}
use Rattle.std.proofs.lemmas.Bool.{and_from, and_parts, cases_Bool, ltb-true}
use Rattle.std.specs.List.{AllByRecursion}
use Rattle.zio_types.specs.declared.place.Place.{Place}
use Rattle.zio_types.specs.declared.request.Prio.{Prio}
use Rattle.zio_types.specs.Choices.{Choice}
use Rattle.zio_types.specs.Paths.{path_steps_max}
use Rattle.zio_types.specs.Places.{are_apart, end_of, is_free, is_inside, meets}
use Rattle.zio_blkptr.specs.declared.pointer.Bp.{Bp}
use Rattle.zio_blkptr.specs.declared.pointer.SumKind.{SumKind}
use Rattle.zio_script.specs.declared.script.Body.{Body}
use Rattle.zio_script.specs.declared.script.Work.{Work}
use Rattle.zio_script.specs.declared.script.Work.TheVariants.{Write}
use Rattle.zio_script.specs.Bodies.{body_of}
use Rattle.zio_cksum.specs.Images.{Images}
use Rattle.zio_cksum.proofs.AllLemmas.{all_contains, all_weaker}
use Rattle.zio_gang.specs.declared.tree.Head.{Head}
use Rattle.zio_gang.specs.declared.tree.Tree.{Tree}
use Rattle.zio_gang.specs.Attempts.{Own, Pending, Terms, own_work, placed_tree, writing_of}
use Rattle.zio_gang.specs.Journals.{AreLawful, choices_in}
use Rattle.zio_gang.specs.Trees.{sizes_of, tree_places, tree_pointers}
use Rattle.zio_gang.specs.Writes.{Placed, content_of, place_block}
use Rattle.zio_trace.specs.Leaves.{HaveSizes}
use Rattle.zio_trace.specs.Plans.{own_stored, plan, plan_own}
use Rattle.zio_trace.specs.Programs.{Done, Ends, Happen, run}
use Rattle.zio_trace.specs.RoundTraces.{Trace, is_single_or_piece, levels_max, own_trace, task_trace, trace_each}
use Rattle.zio_trace.specs.RunTraces.{in_round}
use Rattle.zio_trace.specs.Separate.{NoneMeet}
use Rattle.zio_trace.specs.SoundRounds.{IsOwnBlock}
use Rattle.zio_trace.specs.Tasks.{OwnGot, Task, Value, WritePart, as_stored, means, stored}
use Rattle.zio_trace.specs.TreeOrders.{Pairs}
use Rattle.zio_trace.proofs.ChoiceLemmas.{Answers, IsPlaced, MeetsNone, answers_in_round, chosen_placed}
use Rattle.zio_trace.proofs.DownLemmas.{Gives, down_gives, each_gives}
use Rattle.zio_trace.proofs.RequestLemmas.{own_run, plan_run}
use Rattle.zio_trace.proofs.PlaceLemmas.{DontMeet}
use Rattle.zio_trace.proofs.SpotLemmas.{AllInside}
use Rattle.zio_trace.proofs.ValidBlocks.{valid_sound}
use Rattle.zio_heal.specs.Contents.{EachPiece, IsGivenIn, IsHeld}
use Rattle.zio_heal.specs.Copies.{StoresAsGiven}
use Rattle.zio_heal.specs.Given.{Deeds, given_in}
use Rattle.zio_heal.specs.Pools.{IsBlockSize, IsPool, IsWriting}
use Rattle.zio_heal.proofs.HeldLemmas.{given_behind, is_given, is_held}
use Rattle.zio_heal.proofs.PieceLemmas.{each_weaker}
use Rattle.zio_heal.proofs.PlacedParts.{IsPartWritten}
use Rattle.zio_heal.proofs.PlacedPlaces.{AreOwn, IsFoundAt, pointers_in}
use Rattle.zio_heal.proofs.PlacedPlans.{each_then, write_fine}
use Rattle.zio_heal.proofs.WholeLemmas.{pointer_law}
use Rattle.zio_heal.proofs.WrittenPieces.{AllWriteAt, IsAt, IsWrittenIn, all_writes, found_inside}

some_tree : (pointer : Option Bp) (placed : Placed) → IsSome pointer → IsSome (placed_tree pointer placed)
some_tree (Some bp) placed h = refl
some_tree None placed h = absurd (cc)

-- a block that was placed
record IsPlacedAs (pointer : Option Bp) (placed : Placed) (tree : Tree) : Type 0 where
  is : pointer ≡ Some tree.bp
  heads : placed.heads ≡ tree.heads

placed_as : (pointer : Option Bp) (placed : Placed) (tree : Tree) → placed_tree pointer placed ≡ Some tree → IsPlacedAs pointer placed tree
placed_as (Some bp) placed tree e =
    let is : record { bp = bp; heads = placed.heads } ≡ tree = cc in
    record { is = ap (λ (x : Tree). Some x.bp) is; heads = ap (λ (x : Tree). x.heads) is }
placed_as None placed tree e = absurd (cc)

pub tree_law : (journal : List Choice) (t : Terms) (attempt : ℕ) (p : Pending) (name : List ℕ) (sum_kind : SumKind) (copies : ℕ) (prio : Prio) (body : Body) (pointers : List (Option Bp)) (images : Images)
    → (own_work journal t attempt p (Write name sum_kind copies prio body) pointers images).error ≡ None → IsSome (own_work journal t attempt p (Write name sum_kind copies prio body) pointers images).tree
tree_law journal t attempt p name sum_kind copies prio body pointers images none =
    let content : List ℕ = content_of pointers (body_of body) in
    let placed : Placed = place_block journal (writing_of t attempt p sum_kind copies) content images in
    some_tree placed.pointer placed (pointer_law path_steps_max journal (writing_of t attempt p sum_kind copies) [] content images none)

-- places of which no two touch don't meet
pub dont_false : (p q : Place) → DontMeet p q → meets p q ≡ false
dont_false p q h =
    ⊎_elim
    (λ (yes : meets p q ≡ true).
    let both = and_parts (p.top == q.top) (nat_lt (max p.sector q.sector) (min (end_of p) (end_of q))) yes in
    let same : p.top ≡ q.top = eqb-true p.top q.top both.0 in
    let far : max p.sector q.sector < min (end_of p) (end_of q) = ltb-true (max p.sector q.sector) (min (end_of p) (end_of q)) both.1 in
    absurd (⊎_elim
    (λ (ne : p.top ≢ q.top). ne same)
    (λ (apart : (end_of p ≤ q.sector) ⊎ (end_of q ≤ p.sector)). ⊎_elim (λ (a : end_of p ≤ q.sector). absurd (omega arith)) (λ (a : end_of q ≤ p.sector). absurd (omega arith)) apart)
    h))
    (λ (no : meets p q ≡ false). no)
    (cases_Bool (meets p q))

free_of : (p : Place) (ps : List Place) → AllByRecursion (DontMeet p) ps → is_free ps p ≡ true
free_of p [] h = refl
free_of p (q ∷ ps) h = and_from (not (meets p q)) (is_free ps p) (ap not (dont_false p q h.0)) (free_of p ps h.1)

apart_places : (ps : List Place) → Pairs DontMeet ps → are_apart ps ≡ true
apart_places [] h = refl
apart_places (p ∷ ps) h = and_from (is_free ps p) (are_apart ps) (free_of p ps h.0) (apart_places ps h.1)

module _ (journal : List Choice) (t : Terms) (attempt : ℕ) (p : Pending) (name : List ℕ) (sum_kind : SumKind) (copies : ℕ) (prio : Prio) (body : Body) (pointers : List (Option Bp)) (sizes : ℕ → ℕ) (images : Images) (tree : Tree) where
  abbrev pub content : List ℕ
  content = content_of pointers (body_of body)

  abbrev pub own : Own
  own = own_work journal t attempt p (Write name sum_kind copies prio body) pointers images

  -- the trace of the request's own work
  abbrev pub own_ds : Trace
  own_ds = trace_each (task_trace is_single_or_piece journal t) (means journal t) (plan_own t attempt p (Write name sum_kind copies prio body) pointers) images

  module _ (pool : IsPool sizes t.setting.tops) (lawful : AreLawful (sizes_of t.setting.tops) t.used (choices_in t.round journal)) (writing : IsWriting p copies) (block : IsBlockSize (length content))
      (none : own.error ≡ None) (is : own.tree ≡ Some tree) where
    abbrev answers : Answers journal (sizes_of t.setting.tops) t.used t.round
    answers = answers_in_round journal (sizes_of t.setting.tops) t.used t.round lawful

    abbrev placed : Placed
    placed = place_block journal (writing_of t attempt p sum_kind copies) content images

    -- The block was written by the trace.
    pub block_written : IsPartWritten journal t p path_steps_max [] content own_ds (record { error = placed.error; pointer = placed.pointer; heads = placed.heads })
    block_written =
        let op : Task = WritePart attempt p sum_kind copies path_steps_max [] content in
        let ds : Trace = trace_each (task_trace is_single_or_piece journal t) (means journal t) (plan t op) images in
        let gives : run (means journal t) (plan t op) images ≡ as_stored placed = plan_run journal t op images in
        let trace_is : own_ds ≡ ds =
        each_then (task_trace is_single_or_piece journal t) (means journal t) (plan t op) (λ v. Ends (own_stored (stored v))) images ∙ append-nil ds in
        subst (λ (xs : Trace). IsPartWritten journal t p path_steps_max [] content xs (record { error = placed.error; pointer = placed.pointer; heads = placed.heads })) (sym trace_is)
        (subst (λ (d : Done Value). IsPartWritten journal t p path_steps_max [] content ds (stored d.value)) gives
        (write_fine journal t p sizes pool answers attempt sum_kind copies writing path_steps_max levels_max (omega arith) [] content block images
        (ap (λ (d : Done Value). (stored d.value).error) gives ∙ none)))

    made : IsPlacedAs placed.pointer placed tree
    made = placed_as placed.pointer placed tree is

    bp_is : block_written.bp ≡ tree.bp
    bp_is = let both : Some block_written.bp ≡ Some tree.bp = sym block_written.pointer ∙ made.is in cc

    -- the pointer tells the content's size
    pub size_is : tree.bp.size ≡ length content
    size_is = ap (λ (b : Bp). b.size) (sym bp_is) ∙ block_written.size

    -- The trace wrote each piece of the tree, at places that the request found in the round.
    pub each_written : EachPiece (IsWrittenIn t (IsAt journal t p []) own_ds) tree content
    each_written =
        subst (λ (b : Bp). EachPiece (IsWrittenIn t (IsAt journal t p []) own_ds) (record { bp = b; heads = tree.heads }) content) bp_is
        (subst (λ (hs : List Head). EachPiece (IsWrittenIn t (IsAt journal t p []) own_ds) (record { bp = block_written.bp; heads = hs }) content) made.heads
        (block_written.pieces placed.heads (λ below. refl)))

    -- each of its places was found for the request, and no two touch
    pub own_places : AreOwn (IsFoundAt journal t p []) (tree_pointers tree)
    own_places =
        subst (λ (b : Bp). AreOwn (IsFoundAt journal t p []) (b ∷ pointers_in tree.heads)) bp_is
        (subst (λ (hs : List Head). AreOwn (IsFoundAt journal t p []) (block_written.bp ∷ pointers_in hs)) made.heads block_written.places)

    pub own_law : (used : List Place) → AllByRecursion (Contains used) (tree_places tree) → IsOwnBlock (sizes_of t.setting.tops) used tree
    own_law used in_use =
        let inside : AllByRecursion (λ (q : Place). IsTrue (is_inside (sizes_of t.setting.tops) q)) (tree_places tree) =
        all_weaker (IsFoundAt journal t p []) (λ (q : Place). IsTrue (is_inside (sizes_of t.setting.tops) q)) (tree_places tree)
        (λ q f. all_contains (λ (x : Place). IsTrue (is_inside (sizes_of t.setting.tops) x)) f.places q (found_inside journal t sizes pool answers f.there.ask f.places f.there.now f.there.found) f.listed)
        own_places.found in
        record { sound = valid_sound (sizes_of t.setting.tops) used tree own_places.ok in_use inside; own = apart_places (tree_places tree) own_places.own }

    pub free_places_law : NoneMeet (tree_places tree) t.used
    free_places_law =
        all_weaker (IsFoundAt journal t p []) (MeetsNone t.used) (tree_places tree)
        (λ q f. (all_contains (IsPlaced (sizes_of t.setting.tops) t.used) f.places q (chosen_placed journal (sizes_of t.setting.tops) t.used t.round answers f.there.ask f.places f.there.now f.there.found) f.listed).0)
        own_places.found

    pub held_law : StoresAsGiven t.setting → HaveSizes sizes images → EachPiece (IsHeld t.setting own.images) tree content
    held_law given have =
        let gives : Gives (means journal t) (plan t) is_single_or_piece own_ds images (run (means journal t) (plan_own t attempt p (Write name sum_kind copies prio body) pointers) images).images _ =
        each_gives (means journal t) (plan t) is_single_or_piece (task_trace is_single_or_piece journal t) (down_gives (means journal t) (plan t) is_single_or_piece (plan_run journal t) levels_max) (plan_own t attempt p (Write name sum_kind copies prio body) pointers) images in
        let happen : Happen (means journal t) own_ds images own.images =
        subst (λ (d : Done OwnGot). Happen (means journal t) own_ds images d.images) (own_run journal t attempt p (Write name sum_kind copies prio body) pointers images) gives.happen in
        let inside : AllWriteAt (AllInside t.setting) own_ds =
        all_writes (IsAt journal t p []) (AllInside t.setting) (λ qs a. found_inside journal t sizes pool answers a.ask qs a.now a.found) own_ds block_written.writes in
        each_weaker (IsWrittenIn t (IsAt journal t p []) own_ds) (IsHeld t.setting own.images)
        (λ c bytes h. is_held journal t sizes pool (IsAt journal t p []) own_ds images own.images c bytes given inside have happen h) tree content each_written

    pub given_law : p.request.work ≡ Write name sum_kind copies prio body → (before : Deeds)
        → EachPiece (IsGivenIn (before ++ map (in_round t) (own_trace is_single_or_piece journal t attempt p pointers images))) tree content
    given_law work before =
        let same : own_trace is_single_or_piece journal t attempt p pointers images ≡ own_ds =
        ap (λ (order : Work). trace_each (task_trace is_single_or_piece journal t) (means journal t) (plan_own t attempt p order pointers) images) work in
        subst (λ (ds : Trace). EachPiece (IsGivenIn (before ++ map (in_round t) ds)) tree content) (sym same)
        (each_weaker (IsWrittenIn t (IsAt journal t p []) own_ds) (IsGivenIn (before ++ map (in_round t) own_ds))
        (λ c bytes h. given_behind before (map (in_round t) own_ds) c.places ∙ is_given t (IsAt journal t p []) own_ds c bytes (given_in before c.places) h) tree content each_written)
