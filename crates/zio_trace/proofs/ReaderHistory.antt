-- What readers of one piece did among others: each read gave what the copy gave at first or the good bytes, each write
-- was a repair, and in the end all repairs were made.
use Rattle.std.proofs.Common.{◌≡◌, ℕ, List, [], ◌∷◌, ◌++◌, Bool, true, false, Result, Contains, ◌⊎◌, inl, inr, ⊎_elim, refl, sym, ap, ◌∙◌, subst}
use Rattle.std.specs.List.{AllByRecursion}
use Rattle.zio_types.specs.declared.error.Errno.{Errno}
use Rattle.zio_types.specs.Choices.{Choice}
use Rattle.zio_cksum.specs.Blocks.{judged}
use Rattle.zio_cksum.specs.Images.{Images, Spot, read_leaf}
use Rattle.zio_cksum.proofs.AllLemmas.{all_contained, all_contains, all_map, all_weaker}
use Rattle.zio_gang.specs.Attempts.{Terms}
use Rattle.zio_trace.specs.Conflicts.{TaskLies, is_single}
use Rattle.zio_trace.specs.CopyPrograms.{Program}
use Rattle.zio_trace.specs.Labels.{Below, Earlier, Labelled, means_at}
use Rattle.zio_trace.specs.Leaves.{Answer, AreClear, Fetch, HaveSizes, LeafOp, LiesOn, Store, on_leaf, spot_of}
use Rattle.zio_trace.specs.Oracles.{Agrees, InOrder, Oracle, ops_of}
use Rattle.zio_trace.specs.Passing.{Copies, Passes, Stores, parent_at}
use Rattle.zio_trace.specs.Programs.{Deed, Happen}
use Rattle.zio_trace.specs.Readers.{CopiesLie, RowsArePlain}
use Rattle.zio_trace.specs.Tasks.{Find, Leaf, TakePlaces, Task, Value, got, means}
use Rattle.zio_trace.proofs.ChoiceLemmas.{contained_cases}
use Rattle.zio_trace.proofs.LabelLemmas.{below_itself}
use Rattle.zio_trace.proofs.LeafLemmas.{leaves_commute}
use Rattle.zio_trace.proofs.ListLemmas.{all_lists}
use Rattle.zio_trace.proofs.PieceFacts.{IsPiece}
use Rattle.zio_trace.proofs.ReaderPaths.{MayBe, first_at}
use Rattle.zio_trace.proofs.ReaderSteps.{First, IsPartAt, IsProper, IsPut, Now, Said, asked_at, asked_parts, follows_put_at, proper_at, read_first, read_may, said_by}
use Rattle.zio_trace.proofs.RoundLemmas.{tasks_commute}

pub parent_part : (at : List ℕ) (k : ℕ) → parent_at (at ++ k ∷ []) ≡ at
parent_part [] k = refl
parent_part (n ∷ []) k = refl
parent_part (n ∷ m ∷ at) k = ap (λ (ns : List ℕ). n ∷ ns) (parent_part (m ∷ at) k)

-- an operation on a leaf that is clear of these copies, or an act of the space
abbrev pub IsOther : List Spot → Task → Type 0
IsOther spots (Leaf op) = AllByRecursion (λ (t : Spot). AreClear t (spot_of op)) spots
IsOther spots (Find a) = Unit {0}
IsOther spots (TakePlaces tree) = Unit {0}
IsOther spots _ = ⊥

module _ (j : List Choice) (t : Terms) (sizes : ℕ → ℕ) where
  -- ---- operations elsewhere

  other_reads : (good : List ℕ → Bool) (len : ℕ) (P : Spot → Result (List ℕ) Errno → Type 0) (op : LeafOp) (images : Images) (us : List Spot) → LiesOn sizes op → HaveSizes sizes images → CopiesLie sizes len us → AllByRecursion (λ (u : Spot). AreClear u (spot_of op)) us
      → AllByRecursion (λ (u : Spot). P u (judged good (read_leaf t.setting false images len u))) us → AllByRecursion (λ (u : Spot). P u (judged good (read_leaf t.setting false (on_leaf t.setting op images).images len u))) us
  other_reads good len P op images [] lies sized lie clear h = tt
  other_reads good len P op images (u ∷ us) lies sized lie clear h =
      let same : read_leaf t.setting false (on_leaf t.setting op images).images len u ≡ read_leaf t.setting false images len u =
      (leaves_commute t.setting sizes).answer op (Fetch false len u) images ((leaves_commute t.setting sizes).turned (Fetch false len u) op (inr clear.0)) sized lies (record { room = lie.0.0; lies = lie.0.1 }) in
      (subst (λ (r : Result (List ℕ) Errno). P u (judged good r)) (sym same) h.0, other_reads good len P op images us lies sized lie.1 clear.1 h.1)

  pub other_task : (good : List ℕ → Bool) (len : ℕ) (P : Spot → Result (List ℕ) Errno → Type 0) (task : Task) (images : Images) (spots : List Spot) → IsOther spots task → TaskLies sizes task → HaveSizes sizes images → CopiesLie sizes len spots
      → AllByRecursion (λ (u : Spot). P u (judged good (read_leaf t.setting false images len u))) spots → AllByRecursion (λ (u : Spot). P u (judged good (read_leaf t.setting false (means j t task images).images len u))) spots
  other_task good len P (Leaf op) images spots other lies sized lie h = other_reads good len P op images spots lies sized lie other h
  other_task good len P (Find a) images spots other lies sized lie h = h
  other_task good len P (TakePlaces tree) images spots other lies sized lie h = h
  other_task good len P _ images spots other lies sized lie h = absurd other

  -- ---- readers of one piece

  module _ (plain : RowsArePlain t.setting.rows) (shared : List Copies) (spots : List Spot) (len : ℕ) (good : List ℕ → Bool) (before : Images) (mended : List Spot) (bytes : List ℕ) (found : Answer) (p : Program Answer)
      (piece : IsPiece t.setting plain sizes spots len good before mended bytes found p) (lie : CopiesLie sizes len spots)
      (o : Oracle (Labelled Task) Value) (itself : (x : Labelled Task) → is_single x.op ≡ true → o.asked x ≡ x ∷ []) (Reader : List ℕ → Type 0) where
    abbrev asked : List ℕ → List (Labelled Task)
    asked at = asked_at o itself at 0 p

    -- an operation of a reader
    abbrev pub Own : Labelled Task → Type 0
    Own x = (at : List ℕ) × Reader at × Contains (asked at) x

    abbrev May : Spot → Result (List ℕ) Errno → Type 0
    May u r = MayBe t.setting spots len good before mended bytes found u r

    abbrev IsFirst : Spot → Result (List ℕ) Errno → Type 0
    IsFirst u r = r ≡ first_at t.setting spots len good before mended bytes found u

    abbrev Proper : Task → Type 0
    Proper task = IsProper spots len mended bytes task

    abbrev NowIn : Images → Type 0
    NowIn images = Now t.setting plain spots len good before mended bytes found images

    abbrev FirstIn : Images → Type 0
    FirstIn images = First t.setting plain spots len good before mended bytes found images

    -- of each reader's reads it is said, but for these
    abbrev Known : (Spot → Result (List ℕ) Errno → Type 0) → List (Labelled Task) → Type 0
    Known P ops = (at : List ℕ) → Reader at → AllByRecursion (λ (q : Labelled Task). Contains ops q ⊎ Said good P o q) (asked at)

    store_said : (P : Spot → Result (List ℕ) Errno → Type 0) (task : Task) (answer : Answer) → Stores task → said_by good P task answer
    store_said P (Leaf (Fetch retry n u)) answer h = absurd (cc)
    store_said P (Leaf (Store retry b u)) answer h = tt
    store_said P _ answer h = absurd h

    passed_said : (P : Spot → Result (List ℕ) Errno → Type 0) (d q : Labelled Task) → parent_at d.at ≡ parent_at q.at → Passes t.setting shared d q → Said good P o q
    passed_said P d q same (inl h) = store_said P q.op (got (o.answer q)) (h.1 same).1
    passed_said P d q same (inr h) = absurd (h.0 same)

    -- of a reader's own reads that stand before this
    earlier_said : (P : Spot → Result (List ℕ) Errno → Type 0) (x : Labelled Task) (ds : List (Deed (Labelled Task) Value)) → AllByRecursion (λ (e : Deed (Labelled Task) Value). Earlier e.op x → Passes t.setting shared x e.op) ds → Known P (x ∷ ops_of ds)
        → (at : List ℕ) → Reader at → Contains (asked at) x → (q : Labelled Task) → Contains (asked at) q → Earlier q x → Said good P o q
    earlier_said P x ds order known at r cx q cq l =
        let parts : AllByRecursion (IsPartAt at) (asked at) = asked_parts o itself at 0 p in
        let px : IsPartAt at x = all_contains (IsPartAt at) (asked at) x parts cx in
        let pq : IsPartAt at q = all_contains (IsPartAt at) (asked at) q parts cq in
        let same : parent_at x.at ≡ parent_at q.at = ap parent_at px.1 ∙ parent_part at px.0 ∙ sym (parent_part at pq.0) ∙ ap parent_at (sym pq.1) in
        ⊎_elim
        (λ (c : Contains (x ∷ ops_of ds) q).
        ⊎_elim
        (λ (e : x ≡ q). absurd (below_itself x.at (subst (λ (y : Labelled Task). Below y.at x.at) (sym e) l)))
        (λ (later : Contains (ops_of ds) q).
        passed_said P x q same
        (all_contains (λ (y : Labelled Task). Earlier y x → Passes t.setting shared x y) (ops_of ds) q (all_map (λ (y : Labelled Task). Earlier y x → Passes t.setting shared x y) (λ (e : Deed (Labelled Task) Value). e.op) ds order) later l))
        (contained_cases x (ops_of ds) q c))
        (λ said. said)
        (all_contains (λ (y : Labelled Task). Contains (x ∷ ops_of ds) y ⊎ Said good P o y) (asked at) q (known at r) cq)

    own_proper : (x : Labelled Task) (ds : List (Deed (Labelled Task) Value)) → AllByRecursion (λ (e : Deed (Labelled Task) Value). Earlier e.op x → Passes t.setting shared x e.op) ds → Known May (x ∷ ops_of ds) → Own x → Proper x.op
    own_proper x ds order known own =
        proper_at o itself t.setting spots len good before mended bytes found own.0 0 p x piece.keeps own.2
        (λ q cq l. earlier_said May x ds order known own.0 own.1 own.2 q cq l)

    said_may : (task : Task) (answer : Value) (images : Images) → Proper task → (means j t task images).value ≡ answer → NowIn images → said_by good May task (got answer)
    said_may (Leaf (Fetch retry n u)) answer images h e now =
        subst (λ (v : Value). May u (judged good (got v))) e (read_may t.setting plain spots len good before mended bytes found images retry n u now h.0 h.1)
    said_may (Leaf (Store retry b u)) answer images h e now = tt
    said_may _ answer images h e now = absurd h

    said_first : (task : Task) (answer : Value) (images : Images) → Proper task → (means j t task images).value ≡ answer → FirstIn images → said_by good IsFirst task (got answer)
    said_first (Leaf (Fetch retry n u)) answer images h e first =
        subst (λ (v : Value). IsFirst u (judged good (got v))) e (read_first t.setting plain spots len good before mended bytes found images retry n u first h.0 h.1)
    said_first (Leaf (Store retry b u)) answer images h e first = tt
    said_first _ answer images h e first = absurd h

    proper_now : (task : Task) (images : Images) → Proper task → HaveSizes sizes images → NowIn images → NowIn (means j t task images).images
    proper_now (Leaf (Fetch retry n u)) images h sized now = now
    proper_now (Leaf (Store retry b u)) images h sized now =
        subst (λ (r : Bool). NowIn (on_leaf t.setting (Store r b u) images).images) (sym h.0)
        (subst (λ (x : List ℕ). NowIn (on_leaf t.setting (Store false x u) images).images) (sym h.1) (piece.stays u h.2 images sized now))
    proper_now _ images h sized now = absurd h

    known_next : (P : Spot → Result (List ℕ) Errno → Type 0) (x : Labelled Task) (ops : List (Labelled Task)) → (Own x → Said good P o x) → Known P (x ∷ ops) → Known P ops
    known_next P x ops said known at r =
        all_lists (Contains (asked at)) (λ (q : Labelled Task). Contains (x ∷ ops) q ⊎ Said good P o q) (λ (q : Labelled Task). Contains ops q ⊎ Said good P o q) (asked at)
        (λ q cq h.
        ⊎_elim
        (λ (c : Contains (x ∷ ops) q).
        ⊎_elim
        (λ (e : x ≡ q). inr (subst (λ (y : Labelled Task). Said good P o y) e (said (at, r, subst (Contains (asked at)) (sym e) cq))))
        (λ (later : Contains ops q). inl later)
        (contained_cases x ops q c))
        (λ k. inr k) h)
        (all_contained (asked at)) (known at r)

    -- some reader puts the bytes on each copy that is to be repaired
    abbrev pub AllPut : Type 0
    AllPut = AllByRecursion (λ (u : Spot). (at : List ℕ) × Reader at × IsPut bytes (asked at) u) mended

    abbrev Stands : List (Labelled Task) → Images → Type 0
    Stands ops images = (FirstIn images × Known IsFirst ops) ⊎ AllPut

    own_stands : (a : List ℕ) (task : Task) (ops : List (Labelled Task)) (images : Images) (at : List ℕ) → Reader at → Contains (asked at) (record { at = a; op = task })
        → ((q : Labelled Task) → Contains (asked at) q → Earlier q (record { at = a; op = task }) → Said good IsFirst o q) → Proper task → FirstIn images → Known IsFirst ops → Stands ops (means j t task images).images
    own_stands a (Leaf (Fetch retry n u)) ops images at r c earlier h first known = inl (first, known)
    own_stands a (Leaf (Store retry b u)) ops images at r c earlier h first known =
        inr (all_weaker (IsPut bytes (asked at)) (λ (v : Spot). (at : List ℕ) × Reader at × IsPut bytes (asked at) v) mended (λ v k. (at, r, k))
        (follows_put_at o itself t.setting spots len good before mended bytes found at 0 p (record { at = a; op = Leaf (Store retry b u) }) piece.follows c refl earlier))
    own_stands a _ ops images at r c earlier h first known = absurd h

    pub record IsEnd (ds : List (Deed (Labelled Task) Value)) : Type 0 where
      pub proper : AllByRecursion (λ (d : Deed (Labelled Task) Value). Own d.op → Proper d.op.op) ds
      pub may : Known May []
      pub puts : Known IsFirst [] ⊎ AllPut

    pub at_end : (ds : List (Deed (Labelled Task) Value)) (images after : Images) → AllByRecursion (λ (d : Deed (Labelled Task) Value). Own d.op ⊎ IsOther spots d.op.op) ds → InOrder Earlier (Passes t.setting shared) ds → Agrees o ds
        → AllByRecursion (λ (d : Deed (Labelled Task) Value). TaskLies sizes d.op.op) ds → Happen (means_at (means j t)) ds images after → HaveSizes sizes images → NowIn images → Known May (ops_of ds) → Stands (ops_of ds) images → IsEnd ds
    at_end [] images after kinds order agrees lies happen sized now known stands = record {
      proper = tt;
      may = known;
      puts = ⊎_elim (λ first. inl first.1) (λ put. inr put) stands;
    }
    at_end (d ∷ ds) images after kinds order agrees lies happen sized now known stands =
        let x : Labelled Task = d.op in
        let next : Images = (means j t x.op images).images in
        let answer : (means j t x.op images).value ≡ o.answer x = happen.0 ∙ sym agrees.0 in
        let proper : Own x → Proper x.op = own_proper x ds order.0 known in
        let rest : IsEnd ds =
        at_end ds next after kinds.1 order.1 agrees.1 lies.1 happen.1
        ((tasks_commute j t sizes).sound x.op images sized lies.0)
        (⊎_elim (λ own. proper_now x.op images (proper own) sized now) (λ other. other_task good len May x.op images spots other lies.0 sized lie now) kinds.0)
        (known_next May x (ops_of ds) (λ own. said_may x.op (o.answer x) images (proper own) answer now) known)
        (⊎_elim
        (λ first.
        let left : Known IsFirst (ops_of ds) = known_next IsFirst x (ops_of ds) (λ own. said_first x.op (o.answer x) images (proper own) answer first.0) first.1 in
        ⊎_elim
        (λ own. own_stands x.at x.op (ops_of ds) images own.0 own.1 own.2 (λ q cq l. earlier_said IsFirst x ds order.0 first.1 own.0 own.1 own.2 q cq l) (proper own) first.0 left)
        (λ other. inl (other_task good len IsFirst x.op images spots other lies.0 sized lie first.0, left))
        kinds.0)
        (λ put. inr put)
        stands) in
        record { proper = (proper, rest.proper); may = rest.may; puts = rest.puts }
