-- Where the operations of a sound round come from that touch a piece: from reads of it with repairs alone.
use Rattle.std.proofs.Common.{◌≡◌, ◌≢◌, ℕ, List, [], ◌∷◌, true, false, Option, Some, None, Contains, ◌⊎◌, inl, inr, ⊎_elim, refl, sym, ap, ◌∙◌, subst}
use Rattle.std.proofs.lemmas.Bool.{cases_eq}
use Rattle.std.specs.List.{AllByRecursion}
use Rattle.zio_types.specs.declared.place.Place.{Place}
use Rattle.zio_types.specs.Choices.{Choice}
use Rattle.zio_types.specs.Places.{meets}
use Rattle.zio_script.specs.declared.script.Work.{Work}
use Rattle.zio_script.specs.declared.script.Work.TheVariants.{Null, Read as WorkRead, Write, Free, Claim}
use Rattle.zio_cksum.specs.Frames.{spots_of}
use Rattle.zio_cksum.specs.Images.{Spot}
use Rattle.zio_cksum.proofs.AllLemmas.{all_append, all_contained, all_contains, all_weaker}
use Rattle.zio_gang.specs.declared.tree.Tree.{Tree}
use Rattle.zio_gang.specs.Attempts.{Pending, Terms}
use Rattle.zio_gang.specs.Trees.{sizes_of, tree_places}
use Rattle.zio_trace.specs.BlockCopies.{Copies, copies_of, reading_of}
use Rattle.zio_trace.specs.Conflicts.{is_single}
use Rattle.zio_trace.specs.CopyPrograms.{Program, block_reading}
use Rattle.zio_trace.specs.Families.{Forest, NoTrees, TreeOf, flat}
use Rattle.zio_trace.specs.Footprints.{IsReading, OfBlock, OfClaim, OfPart, OfWork, WithinWhole}
use Rattle.zio_trace.specs.Labels.{Labelled, labelled, ways_at}
use Rattle.zio_trace.specs.Leaves.{Answer, AreClear, Fetch, LeafOp, Store, spot_of}
use Rattle.zio_trace.specs.Oracles.{IsOracle, Oracle, asked_in}
use Rattle.zio_trace.specs.Plans.{plan}
use Rattle.zio_trace.specs.RoundRules.{task_ways}
use Rattle.zio_trace.specs.Rounds.{settles}
use Rattle.zio_trace.specs.Separate.{BlocksApart, NoneMeet}
use Rattle.zio_trace.specs.SoundRounds.{IsOwnBlock, IsSoundRound, ReadOneBlock}
use Rattle.zio_trace.specs.Tasks.{Find, Leaf, ReadCopies, TakePlaces, Task, Value, good_by}
use Rattle.zio_trace.specs.Together.{CopiesClear, is_atom}
use Rattle.zio_trace.specs.Underway.{plan_each}
use Rattle.zio_trace.proofs.AtomLemmas.{all_parts}
use Rattle.zio_trace.proofs.AtomOracle.{IsAtomic, atoms_of}
use Rattle.zio_trace.proofs.BlockPieces.{CopiesApart}
use Rattle.zio_trace.proofs.ChoiceLemmas.{Answers, IsPlaced, MeetsNone, chosen_placed, contained_cases}
use Rattle.zio_trace.proofs.FootprintLemmas.{ReadsOn, read_stays}
use Rattle.zio_trace.proofs.PairLemmas.{all_of, pairs_two}
use Rattle.zio_trace.proofs.ReaderSteps.{IsLeaf, asked_at, asked_leaves}
use Rattle.zio_trace.proofs.SeparateLemmas.{copies_places}
use Rattle.zio_trace.proofs.SharedOrigins.{IsFrom, parts_within}
use Rattle.zio_trace.proofs.SharedRounds.{copies_clear, numbers_tell}
use Rattle.zio_trace.proofs.SoundLemmas.{own_of, pieces_of_round}
use Rattle.zio_trace.proofs.SoundRoundLemmas.{first_tree, other_trees}
use Rattle.zio_trace.proofs.SpotLemmas.{AllInside, NoneTouch, none_touch, spots_clear, touch_turned}
use Rattle.zio_trace.proofs.WholeReach.{tasks_reach}
use Rattle.zio_spared.specs.Spared.{IsNamedPiece}

-- if it is a write, it is clear of these copies
abbrev pub IsOff : List Spot → Task → Type 0
IsOff spots (Leaf (Store retry bytes u)) = AllByRecursion (λ (t : Spot). AreClear t u) spots
IsOff spots _ = Unit {0}

parts_from : (o : Oracle (Labelled Task) Value) (all xs : List (Labelled Task)) → AllByRecursion (Contains all) xs → AllByRecursion (IsFrom o all) (all_parts o xs)
parts_from o all [] h = tt
parts_from o all (x ∷ xs) h =
    all_append (IsFrom o all) (o.asked x) (all_parts o xs)
    (all_weaker (Contains (o.asked x)) (IsFrom o all) (o.asked x) (λ z k. (x, h.0, k)) (all_contained (o.asked x))) (parts_from o all xs h.1)

module _ (t : Terms) (sizes : ℕ → ℕ) (f : Forest) (round : IsSoundRound t sizes f) where
  -- ---- named pieces

  own_tree : (c : Copies) (x : IsNamedPiece f c) → IsOwnBlock (sizes_of t.setting.tops) t.used x.tree
  own_tree c x = own_of t sizes f round x.named.0 x.tree x.named.1 x.named.2

  pub named_inside : (c : Copies) (x : IsNamedPiece f c) → AllInside t.setting c.places
  named_inside c x = copies_places _ x.tree c (own_tree c x).sound.inside x.piece

  named_used : (c : Copies) (x : IsNamedPiece f c) → AllByRecursion (Contains t.used) c.places
  named_used c x = copies_places (Contains t.used) x.tree c (own_tree c x).sound.in_use x.piece

  of_one_tree : (tree : Tree) → IsOwnBlock (sizes_of t.setting.tops) t.used tree → (c d : Copies) → Contains (copies_of tree) c → Contains (copies_of tree) d → (c ≡ d) ⊎ CopiesClear t.setting c d
  of_one_tree tree own c d cc cd =
      ⊎_elim (λ (e : c ≡ d). inl e)
      (λ (either : CopiesApart c d ⊎ CopiesApart d c). inr (copies_clear t sizes f round c d (⊎_elim (λ (k : CopiesApart c d). k) (λ (k : CopiesApart d c). touch_turned d.places c.places k) either)))
      (pairs_two CopiesApart (copies_of tree) c d (pieces_of_round t sizes f round tree own) cc cd)

  some_is : (a b : Tree) → Some a ≡ Some b → a ≡ b
  some_is a b h = let is : a ≡ b = cc in is

  same_tree : (c d : Copies) (x : IsNamedPiece f c) (y : IsNamedPiece f d) → x.named.0.block ≡ y.named.0.block → (c ≡ d) ⊎ CopiesClear t.setting c d
  same_tree c d x y e =
      let same : y.tree ≡ x.tree = some_is y.tree x.tree (sym y.named.2 ∙ sym e ∙ x.named.2) in
      of_one_tree x.tree (own_tree c x) c d x.piece (subst (λ (z : Tree). Contains (copies_of z) d) same y.piece)

  meet_none : (a b : Option Tree) (x y : Tree) → a ≡ Some x → b ≡ Some y → BlocksApart a b → NoneMeet (tree_places x) (tree_places y)
  meet_none a b x y ea eb h = subst (λ (z : Option Tree). BlocksApart (Some x) z) eb (subst (λ (z : Option Tree). BlocksApart z b) ea h)

  different_trees : (c d : Copies) (x : IsNamedPiece f c) (y : IsNamedPiece f d) → BlocksApart x.named.0.block y.named.0.block → NoneTouch c.places d.places
  different_trees c d x y apart p q cp cq =
      none_touch t.setting (tree_places x.tree) (tree_places y.tree) (own_tree c x).sound.inside (own_tree d y).sound.inside (meet_none x.named.0.block y.named.0.block x.tree y.tree x.named.2 y.named.2 apart) p q
      (all_contains (Contains (tree_places x.tree)) c.places p (copies_places (Contains (tree_places x.tree)) x.tree c (all_contained (tree_places x.tree)) x.piece) cp)
      (all_contains (Contains (tree_places y.tree)) d.places q (copies_places (Contains (tree_places y.tree)) y.tree d (all_contained (tree_places y.tree)) y.piece) cq)

  two_pieces : (c d : Copies) → IsNamedPiece f c → IsNamedPiece f d → (c ≡ d) ⊎ CopiesClear t.setting c d
  two_pieces c d x y =
      ⊎_elim
      (λ (e : x.named.0.request.number ≡ y.named.0.request.number). same_tree c d x y (ap (λ (p : Pending). p.block) (numbers_tell f x.named.0 y.named.0 round.numbers x.named.1 y.named.1 e)))
      (λ (ne : x.named.0.request.number ≢ y.named.0.request.number).
      ⊎_elim
      (λ (apart : BlocksApart x.named.0.block y.named.0.block). inr (copies_clear t sizes f round c d (different_trees c d x y apart)))
      (λ (one : ReadOneBlock t x.named.0 y.named.0). same_tree c d x y one.same)
      (round.different x.named.0 y.named.0 x.named.1 y.named.1 ne))
      (cases_eq x.named.0.request.number y.named.0.request.number)

  module _ (c : Copies) (named : IsNamedPiece f c) (j : List Choice) (answers : Answers j (sizes_of t.setting.tops) t.used t.round) where
    abbrev pub spots : List Spot
    spots = spots_of t.setting c.places

    -- ---- what requests do, where reads with repairs are one operation

    abbrev IsElsewhere : Task → Type 0
    IsElsewhere (ReadCopies true test len places) = CopiesClear t.setting c (record { test = test; len = len; places = places })
    IsElsewhere d = IsOff spots d

    abbrev IsKind : Task → Type 0
    IsKind d = (d ≡ reading_of c) ⊎ IsElsewhere d

    piece_kind : (d : Copies) → IsNamedPiece f d → (q : Task) → reading_of d ≡ q → IsKind q
    piece_kind d x q is =
        ⊎_elim
        (λ (same : c ≡ d). inl (sym is ∙ ap reading_of (sym same)))
        (λ (away : CopiesClear t.setting c d). inr (subst IsElsewhere is away))
        (two_pieces c d named x)

    block_kind : (p : Pending) → Contains (flat f) p → (block : Option Tree) → p.block ≡ block → (q : Task) → OfBlock IsReading block q → IsKind q
    block_kind p cp None e q h = absurd h
    block_kind p cp (Some tree) e q h = piece_kind h.0 (record { tree = tree; named = (p, cp, e); piece = h.1 }) q h.2

    free_touch : (places : List Place) → AllByRecursion (IsPlaced (sizes_of t.setting.tops) t.used) places → NoneTouch places c.places
    free_touch places placed =
        none_touch t.setting places c.places (all_weaker _ _ places (λ p k. k.1) placed) (named_inside c named)
        (all_weaker (IsPlaced (sizes_of t.setting.tops) t.used) (MeetsNone c.places) places
        (λ p k. all_weaker (Contains t.used) (λ (q : Place). meets p q ≡ false) c.places (λ q cq. all_contains (λ (r : Place). meets p r ≡ false) t.used q k.0 cq) (named_used c named)) placed)

    write_kind : (request attempt : ℕ) (path : List ℕ) (q : Task) → OfPart j t request attempt path q → IsKind q
    write_kind request attempt path (Leaf (Fetch retry n u)) h = inr tt
    write_kind request attempt path (Leaf (Store retry bytes u)) h =
        let placed = chosen_placed j (sizes_of t.setting.tops) t.used t.round answers h.0 h.1 h.2.now h.3 in
        inr
        (all_of (λ (v : Spot). AreClear v u) spots
        (λ v cv. spots_clear t.setting c.places h.1 v u round.once (touch_turned h.1 c.places (free_touch h.1 placed)) cv h.4.listed))
    write_kind request attempt path (Find a) h = inr tt
    write_kind request attempt path _ h = absurd h

    claim_kind : (q : Task) → OfClaim t.setting q → IsKind q
    claim_kind (Leaf (Fetch retry n u)) h = inr tt
    claim_kind (Leaf (Store retry bytes u)) h = absurd (let no : true ≡ false = h.0 in cc)
    claim_kind (TakePlaces tree) h = inr tt
    claim_kind _ h = absurd h

    work_kind : (p : Pending) → Contains (flat f) p → (work : Work) → (q : Task) → OfWork IsReading j t p work q → IsKind q
    work_kind p cp Null q h = absurd h
    work_kind p cp (WorkRead name prio) q h = block_kind p cp p.block refl q h
    work_kind p cp (Write name sum copies prio body) q h = write_kind p.request.number h.0 [] q h.1
    work_kind p cp (Free name) q h = block_kind p cp p.block refl q h
    work_kind p cp (Claim name pointer) q h = claim_kind q h

    trees_kind : (g : Forest) → ((q : Pending) → Contains (flat g) q → Contains (flat f) q) → AllByRecursion (λ (q : Task). (d : Task) → WithinWhole j t q d → IsKind d) (settles g)
    trees_kind NoTrees inside = tt
    trees_kind (TreeOf p kids others) inside = (
      (λ d h. work_kind h.0 (inside h.0 (first_tree p kids others h.0 h.1)) h.0.request.work d h.2),
      trees_kind others (λ q k. inside q (other_trees p kids others q k)),
    )

    -- ---- what is asked

    module _ (o : Oracle (Labelled Task) Value) (is : IsOracle (ways_at (task_ways j t)) o) where
      atomic : IsAtomic j t o (plan_each (settles f))
      atomic = atoms_of j t o (plan_each (settles f)) is

      ops : List (Labelled Task)
      unfolding atomic
      ops = asked_in atomic.atoms (labelled [] 0 (plan_each (settles f)))

      abbrev pub asked : List (Labelled Task)
      asked = asked_in o (labelled [] 0 (plan_each (settles f)))

      parts_are : asked ≡ all_parts o ops
      unfolding ops
      parts_are = atomic.parts

      kinds : AllByRecursion (λ (x : Labelled Task). IsKind x.op) ops
      unfolding ops
      kinds = tasks_reach j t atomic.atoms atomic.is IsKind (settles f) (trees_kind f (λ q k. k))

      atoms : AllByRecursion (λ (x : Labelled Task). is_atom x.op ≡ true) ops
      unfolding ops
      atoms = atomic.each

      pub one_is : (x : Labelled Task) → is_single x.op ≡ true → o.asked x ≡ x ∷ []
      one_is x e = is.itself x e

      -- the reads of the piece, by their places
      pub Reader : List ℕ → Type 0
      Reader at = Contains ops (record { at = at; op = reading_of c })

      abbrev pub reader_of : Copies → Program Answer
      reader_of d = block_reading t.setting true (good_by d.test) d.len d.places

      abbrev pub asked_of : Copies → List ℕ → List (Labelled Task)
      asked_of d at = asked_at o one_is at 0 (reader_of d)

      asked_is : (d : Copies) (x : Labelled Task) → x.op ≡ reading_of d → o.asked x ≡ asked_of d x.at
      asked_is d x e = is.asked x (ap is_single e) ∙ ap (λ (q : Task). asked_in o (labelled x.at 0 (plan t q))) e

      -- an operation of one of them
      abbrev pub Own : Labelled Task → Type 0
      Own x = (at : List ℕ) × Reader at × Contains (asked_of c at) x

      from_single : (y x : Labelled Task) → is_single y.op ≡ true → Contains (o.asked y) x → y ≡ x
      from_single y x e k =
          ⊎_elim (λ (same : y ≡ x). same) (λ (none : Contains [] x). absurd (all_contains (λ (z : Labelled Task). ⊥) [] x tt none))
          (contained_cases y [] x (subst (λ (xs : List (Labelled Task)). Contains xs x) (one_is y e) k))

      leaf_off : (d : Copies) (op : LeafOp) → CopiesClear t.setting c d → Contains (spots_of t.setting d.places) (spot_of op) → IsOff spots (Leaf op)
      leaf_off d (Fetch retry n u) away k = tt
      leaf_off d (Store retry bytes u) away k =
          all_weaker (λ (v : Spot). AllByRecursion (AreClear v) (spots_of t.setting d.places)) (λ (v : Spot). AreClear v u) spots
          (λ v h. all_contains (AreClear v) (spots_of t.setting d.places) u h k) away

      reading_off : (d : Copies) (at : List ℕ) (x : Labelled Task) → CopiesClear t.setting c d → Contains (o.asked (record { at = at; op = reading_of d })) x → IsOff spots x.op
      reading_off d at x away k =
          let leaf : IsLeaf (ReadsOn (spots_of t.setting d.places) d.len true) x =
          all_contains (IsLeaf (ReadsOn (spots_of t.setting d.places) d.len true)) (asked_of d at) x
          (asked_leaves o one_is (ReadsOn (spots_of t.setting d.places) d.len true) _ at 0 (reader_of d) (read_stays t.setting true (good_by d.test) d.len d.places))
          (subst (λ (xs : List (Labelled Task)). Contains xs x) (asked_is d (record { at = at; op = reading_of d }) refl) k) in
          subst (IsOff spots) (sym leaf.1) (leaf_off d leaf.0 away leaf.2.0.listed)

      atom_off : (at : List ℕ) (task : Task) (x : Labelled Task) → is_atom task ≡ true → IsElsewhere task → Contains (o.asked (record { at = at; op = task })) x → IsOff spots x.op
      atom_off at (Leaf op) x e away k = subst (λ (y : Labelled Task). IsOff spots y.op) (from_single (record { at = at; op = Leaf op }) x refl k) away
      atom_off at (Find a) x e away k = subst (λ (y : Labelled Task). IsOff spots y.op) (from_single (record { at = at; op = Find a }) x refl k) away
      atom_off at (TakePlaces tree) x e away k = subst (λ (y : Labelled Task). IsOff spots y.op) (from_single (record { at = at; op = TakePlaces tree }) x refl k) away
      atom_off at (ReadCopies true test len places) x e away k = reading_off (record { test = test; len = len; places = places }) at x away k
      atom_off at _ x e away k = absurd (cc)

      pub origin : (x : Labelled Task) → Contains asked x → Own x ⊎ IsOff spots x.op
      unfolding Reader
      origin x k =
          let from : IsFrom o ops x = all_contains (IsFrom o ops) (all_parts o ops) x (parts_from o ops ops (all_contained ops)) (subst (λ (xs : List (Labelled Task)). Contains xs x) parts_are k) in
          let y : Labelled Task = from.0 in
          ⊎_elim
          (λ (e : y.op ≡ reading_of c).
          inl (y.at, subst (λ (q : Task). Contains ops (record { at = y.at; op = q })) e from.1, subst (λ (xs : List (Labelled Task)). Contains xs x) (asked_is c y e) from.2))
          (λ (away : IsElsewhere y.op). inr (atom_off y.at y.op x (all_contains (λ (z : Labelled Task). is_atom z.op ≡ true) ops y atoms from.1) away from.2))
          (all_contains (λ (z : Labelled Task). IsKind z.op) ops y kinds from.1)

      pub reader_asked : (at : List ℕ) → Reader at → AllByRecursion (Contains asked) (asked_of c at)
      unfolding Reader
      reader_asked at r =
          let y : Labelled Task = record { at = at; op = reading_of c } in
          subst (AllByRecursion (Contains asked)) (asked_is c y refl)
          (all_weaker (Contains (all_parts o ops)) (Contains asked) (o.asked y) (λ q k. subst (λ (xs : List (Labelled Task)). Contains xs q) (sym parts_are) k) (parts_within o ops y r))
