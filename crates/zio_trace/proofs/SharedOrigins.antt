-- Where each operation of a history comes from: it is a single one, elsewhere, or a part of the read of a shared piece; and
-- what each such read gave.
use Rattle.std.proofs.Common.{◌≡◌, ℕ, true, false, List, [], ◌∷◌, Contains, Result, ◌⊎◌, inl, inr, ⊎_elim, refl, sym, ap, ◌∙◌, subst}
use Rattle.std.specs.List.{AllByRecursion}
use Rattle.std.proofs.lemmas.List.Elements.{Contains-append_left, Contains-append_right}
use Rattle.zio_types.specs.declared.error.Errno.{Errno}
use Rattle.zio_types.specs.Choices.{Choice}
use Rattle.zio_cksum.specs.Frames.{spots_of}
use Rattle.zio_cksum.specs.Images.{Images, Setting, Spot}
use Rattle.zio_cksum.proofs.AllLemmas.{all_append, all_contained, all_contains, all_weaker}
use Rattle.zio_trace.specs.Conflicts.{is_single}
use Rattle.zio_trace.specs.Labels.{Labelled, labelled, means_at, ways_at}
use Rattle.zio_trace.specs.Leaves.{AreClear, HaveSizes, spot_of}
use Rattle.zio_trace.specs.Oracles.{Agrees, IsOracle, Oracle, asked_in, heard, ops_of}
use Rattle.zio_trace.specs.Passing.{Copies, Passes, reading_of}
use Rattle.zio_trace.specs.Plans.{plan}
use Rattle.zio_trace.specs.Programs.{Deed, Happen}
use Rattle.zio_trace.specs.RoundRules.{task_rules, task_ways}
use Rattle.zio_trace.specs.Rules.{IsDoneBy}
use Rattle.zio_trace.specs.Tasks.{Find, Got, Leaf, ReadCopies, TakePlaces, Task, Value, good_by, means}
use Rattle.zio_trace.specs.Together.{AreSharedWell, CopiesClear, KeepsTo, is_atom}
use Rattle.zio_trace.specs.Underway.{Work, plan_each}
use Rattle.zio_trace.proofs.AtomLemmas.{all_parts}
use Rattle.zio_trace.proofs.AtomOracle.{IsAtomic}
use Rattle.zio_trace.proofs.ChoiceLemmas.{contained_cases}
use Rattle.zio_trace.proofs.DoneLemmas.{all_ops, asked_back}
use Rattle.zio_trace.proofs.FootprintLemmas.{ReadsOn, read_stays}
use Rattle.zio_trace.proofs.GroundLemmas.{task_ground}
use Rattle.zio_trace.proofs.LabelLemmas.{asked_ascend, test_among}
use Rattle.zio_trace.proofs.ReaderHistory.{IsEnd, IsOther, at_end}
use Rattle.zio_trace.proofs.ReaderPaths.{MayBe, first_at}
use Rattle.zio_trace.proofs.ReaderSteps.{IsLeaf, Said, asked_at, asked_leaves, first_now, heard_kept}
use Rattle.zio_trace.proofs.SharedPieces.{FirstAt, IsPieceOf, bytes_of, copies_of, first_before, found_of, lie_in, mended_of, piece_of, reader_of}

-- ---- parts of lists

pub parts_within : (o : Oracle (Labelled Task) Value) (xs : List (Labelled Task)) (x : Labelled Task) → Contains xs x → AllByRecursion (Contains (all_parts o xs)) (o.asked x)
parts_within o [] x c = absurd (all_contains (λ (y : Labelled Task). ⊥) [] x tt c)
parts_within o (y ∷ xs) x c =
    ⊎_elim
    (λ (e : y ≡ x).
    subst (λ (z : Labelled Task). AllByRecursion (Contains (all_parts o (y ∷ xs))) (o.asked z)) e
    (all_weaker (Contains (o.asked y)) (Contains (all_parts o (y ∷ xs))) (o.asked y) (λ q k. Contains-append_left (o.asked y) (all_parts o xs) q k) (all_contained (o.asked y))))
    (λ (later : Contains xs x).
    all_weaker (Contains (all_parts o xs)) (Contains (all_parts o (y ∷ xs))) (o.asked x) (λ q k. Contains-append_right (o.asked y) (all_parts o xs) q k) (parts_within o xs x later))
    (contained_cases y xs x c)

-- it is what one of these comes to
abbrev pub IsFrom : Oracle (Labelled Task) Value → List (Labelled Task) → Labelled Task → Type 0
IsFrom o xs z = (x : Labelled Task) × Contains xs x × Contains (o.asked x) z

parts_from : (o : Oracle (Labelled Task) Value) (all xs : List (Labelled Task)) → AllByRecursion (Contains all) xs → AllByRecursion (IsFrom o all) (all_parts o xs)
parts_from o all [] h = tt
parts_from o all (x ∷ xs) h =
    all_append (IsFrom o all) (o.asked x) (all_parts o xs)
    (all_weaker (Contains (o.asked x)) (IsFrom o all) (o.asked x) (λ z k. (x, h.0, k)) (all_contained (o.asked x))) (parts_from o all xs h.1)

-- ---- atoms

-- a single operation elsewhere, or the read of a shared piece
abbrev pub IsSort : Setting → List Copies → Task → Type 0
IsSort s shared task =
    ((is_single task ≡ true) × ((c : Copies) → Contains shared c → IsOther (spots_of s c.places) task))
    ⊎ ((c : Copies) × Contains shared c × (task ≡ reading_of c))

sort_atom : (s : Setting) (shared : List Copies) (task : Task) → is_atom task ≡ true → KeepsTo s shared task → IsSort s shared task
sort_atom s shared (Leaf op) e k =
    inl (refl, λ c l. all_contains (λ (d : Copies). AllByRecursion (λ (t : Spot). AreClear t (spot_of op)) (spots_of s d.places)) shared c k l)
sort_atom s shared (Find a) e k = inl (refl, λ c l. tt)
sort_atom s shared (TakePlaces tree) e k = inl (refl, λ c l. tt)
sort_atom s shared (ReadCopies true test len places) e k = inr (record { test = test; len = len; places = places }, k, refl)
sort_atom s shared (ReadCopies false test len places) e k = absurd (cc)
sort_atom s shared _ e k = absurd (cc)

-- ---- what was done with shared pieces

pub record IsSharedRound (j : List Choice) (w : Work) (history : List (Deed (Labelled Task) Value)) (values : List Value) (before after : Images) : Type 0 where
  pub well : AreSharedWell w
  pub have : HaveSizes w.sizes before
  pub done : IsDoneBy (task_rules j w.terms w.sizes) (Passes w.terms.setting w.shared) (plan_each w.tasks) history values
  pub happen : Happen (means_at (means j w.terms)) history before after
  pub oracle : Oracle (Labelled Task) Value
  pub is : IsOracle (ways_at (task_ways j w.terms)) oracle
  pub agrees : Agrees oracle history
  pub atomic : IsAtomic j w.terms oracle (plan_each w.tasks)
  pub keeps : AllByRecursion (λ (x : Labelled Task). KeepsTo w.terms.setting w.shared x.op) (asked_in atomic.atoms (labelled [] 0 (plan_each w.tasks)))

module _ (j : List Choice) (w : Work) (history : List (Deed (Labelled Task) Value)) (values : List Value) (before after : Images) (g : IsSharedRound j w history values before after) where
  abbrev s : Setting
  s = w.terms.setting

  abbrev o : Oracle (Labelled Task) Value
  o = g.oracle

  abbrev pub ops : List (Labelled Task)
  ops = asked_in g.atomic.atoms (labelled [] 0 (plan_each w.tasks))

  abbrev pub all_asked : List (Labelled Task)
  all_asked = asked_in g.oracle (labelled [] 0 (plan_each w.tasks))

  pub one_is : (x : Labelled Task) → is_single x.op ≡ true → g.oracle.asked x ≡ x ∷ []
  one_is x e = g.is.itself x e

  pub sort_of : (x : Labelled Task) → Contains ops x → IsSort s w.shared x.op
  sort_of x c =
      sort_atom s w.shared x.op (all_contains (λ (y : Labelled Task). is_atom y.op ≡ true) ops x g.atomic.each c)
      (all_contains (λ (y : Labelled Task). KeepsTo s w.shared y.op) ops x g.keeps c)

  pub back : AllByRecursion (Contains (ops_of history)) all_asked
  back =
      asked_back all_asked history (test_among all_asked (asked_ascend (task_ways j w.terms) (task_ground w.terms) o (plan_each w.tasks) g.is)) (g.done.all o g.is g.agrees) (g.done.within o g.is g.agrees)

  -- what an operation comes to was done
  pub was_done : (x : Labelled Task) → Contains ops x → AllByRecursion (Contains (ops_of history)) (o.asked x)
  was_done x c =
      all_weaker (Contains (all_parts o ops)) (Contains (ops_of history)) (o.asked x)
      (λ q k. all_contains (Contains (ops_of history)) all_asked q back (subst (λ (xs : List (Labelled Task)). Contains xs q) (sym g.atomic.parts) k))
      (parts_within o ops x c)

  pub origins : AllByRecursion (λ (d : Deed (Labelled Task) Value). IsFrom o ops d.op) history
  origins =
      all_ops (IsFrom o ops) history
      (all_weaker (Contains all_asked) (IsFrom o ops) (ops_of history)
      (λ z k. all_contains (IsFrom o ops) (all_parts o ops) z (parts_from o ops ops (all_contained ops)) (subst (λ (xs : List (Labelled Task)). Contains xs z) g.atomic.parts k))
      (g.done.within o g.is g.agrees))

  pub single_origin : (x z : Labelled Task) → is_single x.op ≡ true → Contains (o.asked x) z → x ≡ z
  single_origin x z e c =
      ⊎_elim (λ (same : x ≡ z). same) (λ (none : Contains [] z). absurd (all_contains (λ (y : Labelled Task). ⊥) [] z tt none))
      (contained_cases x [] z (subst (λ (xs : List (Labelled Task)). Contains xs z) (one_is x e) c))

  -- ---- the readers of a piece

  abbrev pub Reader : Copies → List ℕ → Type 0
  Reader c at = Contains ops (record { at = at; op = reading_of c })

  abbrev pub spots : Copies → List Spot
  spots c = copies_of s before c

  abbrev pub asked_of : Copies → List ℕ → List (Labelled Task)
  asked_of c at = asked_at o one_is at 0 (reader_of s before c)

  double : (x : Labelled Task) (c : Copies) → x.op ≡ reading_of c → is_single x.op ≡ false
  double x c e = ap is_single e

  pub reader_here : (x : Labelled Task) (c : Copies) → x.op ≡ reading_of c → Contains ops x → Reader c x.at
  reader_here x c e k = subst (λ (q : Task). Contains ops (record { at = x.at; op = q })) e k

  pub asked_is : (x : Labelled Task) (c : Copies) → x.op ≡ reading_of c → o.asked x ≡ asked_of c x.at
  asked_is x c e =
      g.is.asked x (double x c e) ∙ ap (λ (q : Task). asked_in o (labelled x.at 0 (plan w.terms q))) e

  pub reader_asked : (c : Copies) (at : List ℕ) → Reader c at → AllByRecursion (Contains (ops_of history)) (asked_of c at)
  reader_asked c at r =
      let x : Labelled Task = record { at = at; op = reading_of c } in
      subst (AllByRecursion (Contains (ops_of history))) (asked_is x c refl) (was_done x r)

  abbrev pub IsOwn : Copies → Labelled Task → Type 0
  IsOwn c z = (at : List ℕ) × Reader c at × Contains (asked_of c at) z

  other_piece : (c d : Copies) (at : List ℕ) (z : Labelled Task) → CopiesClear s c d → Contains (asked_of d at) z → IsOther (spots c) z.op
  other_piece c d at z away k =
      let leaf : IsLeaf (ReadsOn (spots d) d.len true) z =
      all_contains (IsLeaf (ReadsOn (spots d) d.len true)) (asked_of d at) z
      (asked_leaves o one_is (ReadsOn (spots d) d.len true) _ at 0 (reader_of s before d) (read_stays s true (good_by d.test) d.len d.places)) k in
      subst (IsOther (spots c)) (sym leaf.1)
      (all_weaker (λ (t : Spot). AllByRecursion (AreClear t) (spots d)) (λ (t : Spot). AreClear t (spot_of leaf.0)) (spots c)
      (λ t h. all_contains (AreClear t) (spots d) (spot_of leaf.0) h leaf.2.0.listed) away)

  kind_of : (c : Copies) → Contains w.shared c → (z : Labelled Task) → IsFrom o ops z → IsOwn c z ⊎ IsOther (spots c) z.op
  kind_of c k z from =
      let x : Labelled Task = from.0 in
      ⊎_elim
      (λ one. inr (subst (λ (y : Labelled Task). IsOther (spots c) y.op) (single_origin x z one.0 from.2) (one.1 c k)))
      (λ (r : (d : Copies) × Contains w.shared d × (x.op ≡ reading_of d)).
      let d : Copies = r.0 in
      let here : Contains (asked_of d x.at) z = subst (λ (xs : List (Labelled Task)). Contains xs z) (asked_is x d r.2) from.2 in
      ⊎_elim
      (λ (e : c ≡ d).
      let mine : x.op ≡ reading_of c = r.2 ∙ ap reading_of (sym e) in
      inl (x.at, reader_here x c mine from.1, subst (λ (xs : List (Labelled Task)). Contains xs z) (asked_is x c mine) from.2))
      (λ (away : CopiesClear s c d). inr (other_piece c d x.at z away here))
      (g.well.clear c d k r.1))
      (sort_of x from.1)

  pub piece : (c : Copies) → Contains w.shared c → IsPieceOf s before w.sizes g.well.rows w.shared g.well.copies g.well.clear g.have c
  piece c k = piece_of s before w.sizes g.well.rows w.shared g.well.copies g.well.clear g.have c k

  abbrev pub EndOf : (c : Copies) → Contains w.shared c → Type 0
  EndOf c k =
      IsEnd j w.terms w.sizes g.well.rows w.shared (spots c) c.len (good_by c.test) before (mended_of s before c) (bytes_of s before c) (found_of s before c) (reader_of s before c)
      (piece c k) (lie_in s before w.sizes g.well.rows w.shared g.well.copies g.well.clear g.have c k) o one_is (Reader c) history

  abbrev KnownAll : Copies → (Spot → Result (List ℕ) Errno → Type 0) → Type 0
  KnownAll c P = (at : List ℕ) → Reader c at → AllByRecursion (λ (q : Labelled Task). Contains (ops_of history) q ⊎ Said (good_by c.test) P o q) (asked_of c at)

  known_all : (c : Copies) (P : Spot → Result (List ℕ) Errno → Type 0) → KnownAll c P
  known_all c P at r =
      all_weaker (Contains (ops_of history)) (λ (q : Labelled Task). Contains (ops_of history) q ⊎ Said (good_by c.test) P o q) (asked_of c at) (λ q k. inl k) (reader_asked c at r)

  pub end_of : (c : Copies) (k : Contains w.shared c) → EndOf c k
  end_of c k =
      let first : FirstAt s before w.sizes g.well.rows w.shared g.well.copies g.well.clear g.have c before = first_before s before w.sizes g.well.rows w.shared g.well.copies g.well.clear g.have c in
      at_end j w.terms w.sizes g.well.rows w.shared (spots c) c.len (good_by c.test) before (mended_of s before c) (bytes_of s before c) (found_of s before c) (reader_of s before c)
      (piece c k) (lie_in s before w.sizes g.well.rows w.shared g.well.copies g.well.clear g.have c k) o one_is (Reader c) history before after
      (all_weaker (λ (d : Deed (Labelled Task) Value). IsFrom o ops d.op) (λ (d : Deed (Labelled Task) Value). IsOwn c d.op ⊎ IsOther (spots c) d.op.op) history (λ d from. kind_of c k d.op from) origins)
      g.done.order g.agrees g.done.lies g.happen g.have
      (first_now s g.well.rows (spots c) c.len (good_by c.test) before (mended_of s before c) (bytes_of s before c) (found_of s before c) before first)
      (known_all c (MayBe s (spots c) c.len (good_by c.test) before (mended_of s before c) (bytes_of s before c) (found_of s before c)))
      (inl (first, known_all c (λ u r. r ≡ first_at s (spots c) c.len (good_by c.test) before (mended_of s before c) (bytes_of s before c) (found_of s before c) u)))

  -- what each reader gave
  pub reader_gave : (x : Labelled Task) (c : Copies) → Contains w.shared c → Contains ops x → x.op ≡ reading_of c → o.answer x ≡ Got (found_of s before c)
  reader_gave x c k cx e =
      g.is.answer x (double x c e)
      ∙ ap (λ (q : Task). heard o (labelled x.at 0 (plan w.terms q))) e
      ∙ heard_kept o one_is s (spots c) c.len (good_by c.test) before (mended_of s before c) (bytes_of s before c) (found_of s before c) x.at 0 (reader_of s before c) (piece c k).keeps
      (all_weaker (λ (q : Labelled Task). Contains [] q ⊎ Said (good_by c.test) (MayBe s (spots c) c.len (good_by c.test) before (mended_of s before c) (bytes_of s before c) (found_of s before c)) o q)
      (Said (good_by c.test) (MayBe s (spots c) c.len (good_by c.test) before (mended_of s before c) (bytes_of s before c) (found_of s before c)) o) (asked_of c x.at)
      (λ q h. ⊎_elim (λ (none : Contains [] q). absurd (all_contains (λ (y : Labelled Task). ⊥) [] q tt none)) (λ said. said) h)
      ((end_of c k).may x.at (reader_here x c e cx)))
