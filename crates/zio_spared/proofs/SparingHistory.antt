-- What a sound round did with a piece, as far as it went: each write that met one of its copies met one at risk, and
-- each other copy has its bytes.
use Rattle.std.proofs.Common.{◌≡◌, ℕ, ◌+◌, ◌≤◌, List, [], ◌∷◌, ◌++◌, length, Bool, false, Some, Contains, ◌⊎◌, inl, inr, ⊎_elim, refl, sym, ap, ◌∙◌, subst, arith}
use Rattle.std.specs.List.{AllByRecursion}
use Rattle.zio_types.specs.Choices.{Choice}
use Rattle.zio_cksum.specs.Frames.{spots_of}
use Rattle.zio_cksum.specs.Images.{Images, Setting, Spot, bytes_at, image_of, met, read_leaf, read_met}
use Rattle.zio_cksum.proofs.AllLemmas.{all_contains, all_map, all_weaker}
use Rattle.zio_cksum.proofs.FrameLemmas.{write_same}
use Rattle.zio_gang.specs.Attempts.{Terms}
use Rattle.zio_gang.specs.Trees.{sizes_of}
use Rattle.zio_trace.specs.BlockCopies.{Copies}
use Rattle.zio_trace.specs.Conflicts.{TaskLies, is_single}
use Rattle.zio_trace.specs.Entries.{Pass, PassBy}
use Rattle.zio_trace.specs.Families.{Forest}
use Rattle.zio_trace.specs.Labels.{Below, Earlier, Labelled, labelled, ways_at}
use Rattle.zio_trace.specs.Leaves.{Answer, AreClear, Fetch, HaveSizes, Store, on_leaf}
use Rattle.zio_trace.specs.Oracles.{Agrees, InOrder, IsOracle, Oracle, asked_in, ops_of}
use Rattle.zio_trace.specs.Passing.{Passes, Stores, parent_at}
use Rattle.zio_trace.specs.Programs.{Deed}
use Rattle.zio_trace.specs.Readers.{CopiesLie}
use Rattle.zio_trace.specs.RoundRules.{task_ways}
use Rattle.zio_trace.specs.Rounds.{settles}
use Rattle.zio_trace.specs.SoundRounds.{IsSoundRound, work_of}
use Rattle.zio_trace.specs.Tasks.{Find, Leaf, TakePlaces, Task, Value, good_by, got}
use Rattle.zio_trace.specs.Underway.{Comes, Flight, IsUnderway, State, Work, plan_each}
use Rattle.zio_trace.proofs.ChoiceLemmas.{Answers, answers_in_all, contained_cases}
use Rattle.zio_trace.proofs.DoneLemmas.{all_ops}
use Rattle.zio_trace.proofs.LabelLemmas.{below_itself}
use Rattle.zio_trace.proofs.LeafLemmas.{done_sizes}
use Rattle.zio_trace.proofs.ListLemmas.{contains_first}
use Rattle.zio_trace.proofs.PairLemmas.{all_of}
use Rattle.zio_trace.proofs.ReaderHistory.{parent_part}
use Rattle.zio_trace.proofs.ReaderSteps.{IsPartAt, asked_parts}
use Rattle.zio_trace.proofs.RoundEnds.{any_oracle}
use Rattle.zio_spared.specs.Spared.{IsNamedPiece, IsSpared, StoresClear}
use Rattle.zio_spared.proofs.DoneBefore.{IsThere, deeds_there, done_before, flight_there}
use Rattle.zio_spared.proofs.FlightOrigins.{flight_asked}
use Rattle.zio_spared.proofs.KeptBytes.{kept_there}
use Rattle.zio_spared.proofs.PieceOrigins.{IsOff, Own as OwnOf, Reader as ReaderOf, asked_of, one_is, origin, reader_asked, reader_of}
use Rattle.zio_spared.proofs.RiskedCopies.{IsSparing}
use Rattle.zio_spared.proofs.SparingReads.{IsSafe}
use Rattle.zio_spared.proofs.SparingSteps.{IsProper, SaidAs, proper_at, said_as}

-- ---- bytes elsewhere

-- a write leaves bytes that are clear of it
stays_elsewhere : (s : Setting) (sizes : ℕ → ℕ) (retry : Bool) (bytes : List ℕ) (v u : Spot) (len : ℕ) (images : Images) → AreClear u v → HaveSizes sizes images → v.at + v.span ≤ sizes v.leaf → len ≤ u.span
    → bytes_at (on_leaf s (Store retry bytes v) images).images u len ≡ bytes_at images u len
stays_elsewhere s sizes retry bytes v u len images clear sized lies room =
    let long : length (image_of images v.leaf) ≡ sizes v.leaf = sized v.leaf in
    kept_there (v ∷ []) images (on_leaf s (Store retry bytes v) images).images u len (write_same (v ∷ []) s retry bytes images v (omega arith, tt) (contains_first v [])) (clear, tt) room

-- ---- numbers of parts

below_part : (at : List ℕ) (i m : ℕ) → Below (at ++ i ∷ []) (at ++ m ∷ []) → i ≤ m
below_part [] i m (inl h) = omega arith
below_part [] i m (inr h) = absurd h.1
below_part (a ∷ at) i m (inl h) = absurd (omega arith)
below_part (a ∷ at) i m (inr h) = below_part at i m h.1

module _ (t : Terms) (sizes : ℕ → ℕ) (f : Forest) (round : IsSoundRound t sizes f) (before : Images) (s : State) (have : HaveSizes sizes before) (under : IsUnderway (work_of t sizes f) (Some before) s)
    (c : Copies) (named : IsNamedPiece f c) (lie : CopiesLie sizes c.len (spots_of t.setting c.places)) (piece : IsSparing t.setting c.places c.len (good_by c.test) before)
    (j : List Choice) (comes : Comes (work_of t sizes f) s.entries j) (o : Oracle (Labelled Task) Value) (is : IsOracle (ways_at (task_ways j t)) o) (agrees : Agrees o s.deeds) where
  abbrev w : Work
  w = work_of t sizes f

  abbrev answers : Answers j (sizes_of t.setting.tops) t.used t.round
  answers = answers_in_all j (sizes_of t.setting.tops) t.used t.round comes.lawful

  abbrev spots : List Spot
  spots = spots_of t.setting c.places

  abbrev Safe : Spot → Type 0
  Safe u = IsSafe t.setting spots c.len (good_by c.test) before piece.risked u

  abbrev Reader : List ℕ → Type 0
  Reader at = ReaderOf t sizes f round c named j answers o is at

  abbrev asked_by : List ℕ → List (Labelled Task)
  asked_by at = asked_of t sizes f round c named j answers o is c at

  -- an operation of a read of the piece
  abbrev Own : Labelled Task → Type 0
  Own x = OwnOf t sizes f round c named j answers o is x

  abbrev Proper : Task → Type 0
  Proper task = IsProper t.setting spots c.len (good_by c.test) before piece.risked task

  abbrev said : Task → Answer → Type 0
  said task answer = said_as t.setting spots c.len (good_by c.test) before piece.risked task answer

  abbrev Said : Labelled Task → Type 0
  Said x = SaidAs t.setting spots c.len (good_by c.test) before piece.risked o x

  abbrev There : Labelled Task → Type 0
  There x = IsThere w (Some before) s under j comes o is agrees x

  -- each copy that isn't at risk has its bytes
  abbrev HasBytes : Images → Type 0
  HasBytes images = (u : Spot) → Contains spots u → Safe u → bytes_at images u c.len ≡ bytes_at before u c.len

  -- ---- one operation

  -- it writes to no copy but those at risk
  abbrev Leaves : Task → Type 0
  Leaves (Leaf (Store retry bytes v)) = (u : Spot) → Contains spots u → Safe u → AreClear u v
  Leaves _ = Unit {0}

  proper_leaves : (task : Task) → Proper task → Leaves task
  proper_leaves (Leaf (Store retry bytes v)) h = λ u cu safe. all_contains (AreClear u) piece.risked v safe h
  proper_leaves (Leaf (Fetch retry n v)) h = tt
  proper_leaves _ h = absurd h

  off_leaves : (task : Task) → IsOff spots task → Leaves task
  off_leaves (Leaf (Store retry bytes v)) h = λ u cu safe. all_contains (λ (x : Spot). AreClear x v) spots u h cu
  off_leaves _ h = tt

  read_as_before : (images : Images) → HasBytes images → (retry : Bool) (n : ℕ) (u : Spot) → n ≡ c.len → Contains spots u → Safe u → read_leaf t.setting retry images n u ≡ read_leaf t.setting retry before n u
  read_as_before images has retry n u e cu safe =
      ap (λ (m : ℕ). read_leaf t.setting retry images m u) e
      ∙ ap (read_met (met t.setting retry false u) u.at) (has u cu safe)
      ∙ ap (λ (m : ℕ). read_leaf t.setting retry before m u) (sym e)

  -- after it
  pub record IsStep (task : Task) (v : Value) (later : Images → Images → Type 0) (after : Images) : Type 0 where
    pub next : Images
    pub sized : HaveSizes sizes next
    pub has : HasBytes next
    pub rest : later next after
    pub gave : Proper task → said task (got v)

  step : (task : Task) (v : Value) (later : Images → Images → Type 0) (images after : Images) → TaskLies sizes task → HaveSizes sizes images → HasBytes images → Leaves task → PassBy t task v later images after → IsStep task v later after
  step (Leaf (Fetch retry n u)) v later images after lies sized has leaves h = record {
    next = images;
    sized = sized;
    has = has;
    rest = h.1;
    gave = λ proper safe. sym (ap got h.0) ∙ read_as_before images has retry n u proper.0 proper.1 safe;
  }
  step (Leaf (Store retry bytes u)) v later images after lies sized has leaves h = record {
    next = (on_leaf t.setting (Store retry bytes u) images).images;
    sized = done_sizes t.setting sizes images (Store retry bytes u) sized lies;
    has = λ x cx safe.
        stays_elsewhere t.setting sizes retry bytes u x c.len images (leaves x cx safe) sized lies.lies
        (all_contains (λ (y : Spot). (c.len ≤ y.span) × (y.at + y.span ≤ sizes y.leaf)) spots x lie cx).0
        ∙ has x cx safe;
    rest = h.1;
    gave = λ proper. tt;
  }
  step (Find a) v later images after lies sized has leaves h =
      record { next = images; sized = sized; has = has; rest = h; gave = λ proper. absurd proper }
  step (TakePlaces tree) v later images after lies sized has leaves h =
      record { next = images; sized = sized; has = has; rest = h.1; gave = λ proper. absurd proper }
  step _ v later images after lies sized has leaves h = absurd lies

  -- ---- what is said of reads that were done

  -- these are still to be gone through; of each other read that was done it is said
  abbrev Known : List (Labelled Task) → Type 0
  Known ops = (at : List ℕ) → Reader at → (q : Labelled Task) → Contains (asked_by at) q → Contains (ops_of s.deeds) q → Contains ops q ⊎ Said q

  store_said : (task : Task) (answer : Answer) → Stores task → said task answer
  store_said (Leaf (Fetch retry n u)) answer h = absurd (cc)
  store_said (Leaf (Store retry b u)) answer h = tt
  store_said _ answer h = absurd h

  passed_said : (x q : Labelled Task) → parent_at x.at ≡ parent_at q.at → Passes t.setting w.shared x q → Said q
  passed_said x q same (inl h) = store_said q.op (got (o.answer q)) (h.1 same).1
  passed_said x q same (inr h) = absurd (h.0 same)

  own_proper : (x : Labelled Task) (ops : List (Labelled Task)) → There x → ((q : Labelled Task) → Contains ops q → Earlier q x → Passes t.setting w.shared x q) → Known ops → Own x → Proper x.op
  own_proper x ops there order known own =
      let one = one_is t sizes f round c named j answers o is in
      let program = reader_of t sizes f round c named j answers o is c in
      let at : List ℕ = own.0 in
      let parts : AllByRecursion (IsPartAt at) (asked_by at) = asked_parts o one at 0 program in
      let px : IsPartAt at x = all_contains (IsPartAt at) (asked_by at) x parts own.2 in
      proper_at t.setting spots c.len (good_by c.test) before piece.risked o one at 0 program x piece.spares own.2
      (λ q cq l.
      let pq : IsPartAt at q = all_contains (IsPartAt at) (asked_by at) q parts cq in
      let le : pq.0 ≤ px.0 = below_part at pq.0 px.0 (subst (λ (xs : List ℕ). Below xs (at ++ px.0 ∷ [])) pq.1 (subst (Below q.at) px.1 l)) in
      let same : parent_at x.at ≡ parent_at q.at = ap parent_at px.1 ∙ parent_part at px.0 ∙ sym (parent_part at pq.0) ∙ ap parent_at (sym pq.1) in
      let listed = all_contains _ (asked_by at) q (reader_asked t sizes f round c named j answers o is at own.1) cq in
      ⊎_elim
      (λ (done : Contains (ops_of s.deeds) q).
      ⊎_elim (λ (later : Contains ops q). passed_said x q same (order q later l)) (λ (k : Said q). k) (known at own.1 q cq done))
      (λ (stores : Stores q.op). store_said q.op (got (o.answer q)) stores)
      (done_before w (Some before) s under j comes o is agrees x q at pq.0 px.0 there listed pq.1 px.1 le l))

  -- ---- the history

  pub record IsEnd (ds : List (Deed (Labelled Task) Value)) (after : Images) : Type 0 where
    pub leaves : AllByRecursion (λ (d : Deed (Labelled Task) Value). Leaves d.op.op) ds
    pub has : HasBytes after
    pub known : Known []

  at_end : (ds : List (Deed (Labelled Task) Value)) (images after : Images) → AllByRecursion (λ (d : Deed (Labelled Task) Value). Own d.op ⊎ IsOff spots d.op.op) ds → AllByRecursion (λ (d : Deed (Labelled Task) Value). There d.op) ds
      → InOrder Earlier (Passes t.setting w.shared) ds → Agrees o ds → AllByRecursion (λ (d : Deed (Labelled Task) Value). TaskLies sizes d.op.op) ds → Pass t ds images after → HaveSizes sizes images → HasBytes images → Known (ops_of ds) → IsEnd ds after
  at_end [] images after kinds there order agree lies pass sized has known = record { leaves = tt; has = subst HasBytes pass has; known = known }
  at_end (d ∷ ds) images after kinds there order agree lies pass sized has known =
      let x : Labelled Task = d.op in
      let proper : Own x → Proper x.op =
      own_proper x (x ∷ ops_of ds) there.0
      (λ q cq l.
      ⊎_elim
      (λ (e : x ≡ q). absurd (below_itself x.at (subst (λ (y : Labelled Task). Below y.at x.at) (sym e) l)))
      (λ (later : Contains (ops_of ds) q).
      all_contains (λ (y : Labelled Task). Earlier y x → Passes t.setting w.shared x y) (ops_of ds) q
      (all_map (λ (y : Labelled Task). Earlier y x → Passes t.setting w.shared x y) (λ (e : Deed (Labelled Task) Value). e.op) ds order.0) later l)
      (contained_cases x (ops_of ds) q cq))
      known in
      let leaves : Leaves x.op = ⊎_elim (λ own. proper_leaves x.op (proper own)) (λ off. off_leaves x.op off) kinds.0 in
      let one : IsStep x.op d.answer (Pass t ds) after = step x.op d.answer (Pass t ds) images after lies.0 sized has leaves pass in
      let rest : IsEnd ds after =
      at_end ds one.next after kinds.1 there.1 order.1 agree.1 lies.1 one.rest one.sized one.has
      (λ at r q cq done.
      ⊎_elim
      (λ (k : Contains (x ∷ ops_of ds) q).
      ⊎_elim
      (λ (e : x ≡ q).
      inr
      (subst Said e
      (subst (λ (v : Value). said x.op (got v)) (sym agree.0) (one.gave (proper (at, r, subst (Contains (asked_by at)) (sym e) cq))))))
      (λ (later : Contains (ops_of ds) q). inl later)
      (contained_cases x (ops_of ds) q k))
      (λ (k : Said q). inr k)
      (known at r q cq done)) in
      record { leaves = (leaves, rest.leaves); has = rest.has; known = rest.known }

  sorted : (x : Labelled Task) → Contains (asked_in o (labelled [] 0 (plan_each (settles f)))) x → Own x ⊎ IsOff spots x.op
  sorted = origin t sizes f round c named j answers o is

  end : IsEnd s.deeds s.images
  end =
      at_end s.deeds before s.images
      (all_ops (λ (x : Labelled Task). Own x ⊎ IsOff spots x.op) s.deeds (all_weaker _ (λ (x : Labelled Task). Own x ⊎ IsOff spots x.op) (ops_of s.deeds) (λ x k. sorted x k) (under.going.within o (any_oracle j t o is) agrees)))
      (deeds_there w (Some before) s under j comes o is agrees) under.going.order agrees under.going.lies under.pass have (λ u cu safe. refl) (λ at r q cq done. inl done)

  -- ---- the copy that is spared

  spared : (task : Task) → Leaves task → StoresClear piece.spot task
  spared (Leaf (Store retry bytes v)) h = h piece.spot piece.listed piece.safe
  spared (Leaf (Fetch retry n v)) h = tt
  spared _ h = tt

  flight_spared : (x : Flight) → Contains s.flights x → (task : Task) → x.op.op ≡ task → StoresClear piece.spot task
  flight_spared x cx (Leaf (Store retry bytes v)) e =
      let listed = flight_asked w (Some before) s under o (any_oracle j t o is) agrees x cx retry bytes v e in
      let there : There x.op = flight_there w (Some before) s under j comes o is agrees x cx (ap is_single e) in
      let leaves : Leaves x.op.op =
      ⊎_elim
      (λ own. proper_leaves x.op.op (own_proper x.op [] there (λ q none l. absurd (all_contains (λ (y : Labelled Task). ⊥) [] q tt none)) end.known own))
      (λ off. off_leaves x.op.op off)
      (sorted x.op listed) in
      spared (Leaf (Store retry bytes v)) (subst Leaves e leaves)
  flight_spared x cx (Leaf (Fetch retry n v)) e = tt
  flight_spared x cx _ e = tt

  pub spared_now : IsSpared before c piece.spot s
  spared_now = record {
    deeds = all_weaker (λ (d : Deed (Labelled Task) Value). Leaves d.op.op) (λ (d : Deed (Labelled Task) Value). StoresClear piece.spot d.op.op) s.deeds (λ d h. spared d.op.op h) end.leaves;
    flights = all_of (λ (x : Flight). StoresClear piece.spot x.op.op) s.flights (λ x cx. flight_spared x cx x.op.op refl);
    same = end.has piece.spot piece.listed piece.safe;
  }
