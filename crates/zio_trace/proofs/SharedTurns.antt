-- Single operations and reads of shared pieces in turn, from what the single ones give where all repairs were made before.
use Rattle.std.proofs.Common.{◌≡◌, ℕ, List, [], ◌∷◌, ◌++◌, map, Bool, true, false, cond, Contains, ◌⊎◌, inl, inr, ⊎_elim, refl, sym, ap, ◌∙◌, subst}
use Rattle.std.specs.List.{AllByRecursion}
use Rattle.zio_types.specs.Choices.{Choice}
use Rattle.zio_cksum.specs.Frames.{spots_of}
use Rattle.zio_cksum.specs.Images.{Images, Spot}
use Rattle.zio_cksum.proofs.AllLemmas.{all_contained, all_contains, all_map, all_unmap, all_weaker}
use Rattle.zio_gang.specs.Attempts.{Terms}
use Rattle.zio_trace.specs.Conflicts.{TaskLies, TasksApart, is_single}
use Rattle.zio_trace.specs.Labels.{Labelled, means_at}
use Rattle.zio_trace.specs.Leaves.{Answer, AreClear, HaveSizes, LeafOp, LiesOn, Store, on_leaf, spot_of}
use Rattle.zio_trace.specs.Oracles.{Oracle, deeds_as}
use Rattle.zio_trace.specs.Passing.{Copies, reading_of}
use Rattle.zio_trace.specs.Programs.{Deed, Done, Happen, run}
use Rattle.zio_trace.specs.Readers.{CopiesApart, CopiesLie, RowsArePlain}
use Rattle.zio_trace.specs.Tasks.{Find, Got, Leaf, TakePlaces, Task, Value, good_by, means}
use Rattle.zio_trace.specs.Together.{CopiesClear}
use Rattle.zio_trace.proofs.CopyLemmas.{block_run}
use Rattle.zio_trace.proofs.LeafLemmas.{leaves_commute}
use Rattle.zio_trace.proofs.ListLemmas.{all_lists, all_rest}
use Rattle.zio_trace.proofs.PutLemmas.{after_all, after_append, all_sized, done_sized, one_again}
use Rattle.zio_trace.proofs.ReaderHistory.{IsOther, other_task}
use Rattle.zio_trace.proofs.ReaderPaths.{MayBe, first_at}
use Rattle.zio_trace.proofs.ReaderSteps.{first_now, follows_run, idle_run}
use Rattle.zio_trace.proofs.RoundLemmas.{tasks_commute}
use Rattle.zio_trace.proofs.SharedPieces.{FirstAt, IdleAt, IsRepair, NowAt, bytes_of, copies_of, found_of, lie_in, mended_of, piece_of, puts_for, puts_of, puts_repair, reader_of, repair_lies, repair_twice, repaired_after, repairs_alike, store_lies}

-- those that are single
abbrev pub singles_in : List (Labelled Task) → List (Labelled Task)
singles_in [] = []
singles_in (x ∷ xs) = cond (is_single x.op) (x ∷ singles_in xs) (singles_in xs)

module _ (j : List Choice) (t : Terms) (sizes : ℕ → ℕ) where
  -- a single operation before operations on leaves that it doesn't conflict with, or after them
  pub single_passes : (task : Task) (ops : List LeafOp) (images : Images) → TaskLies sizes task → HaveSizes sizes images → AllByRecursion (λ (op : LeafOp). TasksApart (Leaf op) task × LiesOn sizes op) ops
      → ((means j t task (after_all t.setting ops images)).value ≡ (means j t task images).value) × ((means j t task (after_all t.setting ops images)).images ≡ after_all t.setting ops (means j t task images).images)
  single_passes task [] images lies sized h = (refl, refl)
  single_passes task (op ∷ ops) images lies sized h =
      let next : Images = (on_leaf t.setting op images).images in
      let later = single_passes task ops next lies (done_sized t.setting sizes op images h.0.1 sized) h.1 in (
        later.0 ∙ (tasks_commute j t sizes).answer (Leaf op) task images h.0.0 sized h.0.1 lies,
        later.1 ∙ ap (after_all t.setting ops) ((tasks_commute j t sizes).images (Leaf op) task images h.0.0 sized h.0.1 lies),
      )

  module _ (before : Images) (plain : RowsArePlain t.setting.rows) (shared : List Copies) (copies : AllByRecursion (λ (c : Copies). CopiesApart (spots_of t.setting c.places) × CopiesLie sizes c.len (spots_of t.setting c.places)) shared)
      (clear : (c d : Copies) → Contains shared c → Contains shared d → (c ≡ d) ⊎ CopiesClear t.setting c d) (have : HaveSizes sizes before) where
    abbrev First : Copies → Images → Type 0
    First c images = FirstAt t.setting before sizes plain shared copies clear have c images

    abbrev Now : Copies → Images → Type 0
    Now c images = NowAt t.setting before sizes plain shared copies clear have c images

    abbrev Idle : Copies → Images → Type 0
    Idle c images = IdleAt t.setting before sizes plain shared copies clear have c images

    -- all copies are as at first, or all are repaired that are to be
    abbrev Stands : Copies → Images → Type 0
    Stands c images = First c images ⊎ (Now c images × Idle c images)

    abbrev pub Standing : Images → Type 0
    Standing images = (c : Copies) → Contains shared c → Stands c images

    abbrev spots : Copies → List Spot
    spots c = copies_of t.setting before c

    abbrev repairs : Copies → List LeafOp
    repairs c = puts_of t.setting before c

    abbrev put : Copies → Spot → Images → Images
    put c u images = (on_leaf t.setting (Store false (bytes_of t.setting before c) u) images).images

    -- ---- elsewhere

    idle_other : (c : Copies) (task : Task) (images : Images) → Contains shared c → IsOther (spots c) task → TaskLies sizes task → HaveSizes sizes images → Idle c images → Idle c (means j t task images).images
    idle_other c (Leaf op) images k other lies sized idle =
        all_lists (Contains (spots c)) (λ (u : Spot). put c u images ≡ images) (λ (u : Spot). put c u (on_leaf t.setting op images).images ≡ (on_leaf t.setting op images).images) (mended_of t.setting before c)
        (λ u l same.
        let b : LeafOp = Store false (bytes_of t.setting before c) u in
        (leaves_commute t.setting sizes).images op b images
        ((leaves_commute t.setting sizes).turned b op (inr (all_contains (λ (v : Spot). AreClear v (spot_of op)) (spots c) u other l))) sized lies
        (store_lies t.setting before sizes plain shared copies clear have c u k l)
        ∙ ap (λ (i : Images). (on_leaf t.setting op i).images) same)
        (piece_of t.setting before sizes plain shared copies clear have c k).among idle
    idle_other c (Find a) images k other lies sized idle = idle
    idle_other c (TakePlaces tree) images k other lies sized idle = idle
    idle_other c _ images k other lies sized idle = absurd other

    stands_other : (c : Copies) (task : Task) (images : Images) → Contains shared c → IsOther (spots c) task → TaskLies sizes task → HaveSizes sizes images → Stands c images → Stands c (means j t task images).images
    stands_other c task images k other lies sized (inl first) =
        inl (other_task j t sizes (good_by c.test) c.len (λ u r. r ≡ first_at t.setting (spots c) c.len (good_by c.test) before (mended_of t.setting before c) (bytes_of t.setting before c) (found_of t.setting before c) u) task images (spots c) other lies sized
        (lie_in t.setting before sizes plain shared copies clear have c k) first)
    stands_other c task images k other lies sized (inr now) =
        inr (
          other_task j t sizes (good_by c.test) c.len (MayBe t.setting (spots c) c.len (good_by c.test) before (mended_of t.setting before c) (bytes_of t.setting before c) (found_of t.setting before c)) task images (spots c) other lies sized
              (lie_in t.setting before sizes plain shared copies clear have c k) now.0,
          idle_other c task images k other lies sized now.1,
        )

    stands_others : (c : Copies) (ops : List LeafOp) (images : Images) → Contains shared c → AllByRecursion (λ (op : LeafOp). IsOther (spots c) (Leaf op) × LiesOn sizes op) ops → HaveSizes sizes images → Stands c images → Stands c (after_all t.setting ops images)
    stands_others c [] images k others sized stands = stands
    stands_others c (op ∷ ops) images k others sized stands =
        stands_others c ops (on_leaf t.setting op images).images k others.1 (done_sized t.setting sizes op images others.0.1 sized)
        (stands_other c (Leaf op) images k others.0.0 others.0.1 sized stands)

    -- ---- a piece that is read

    now_of : (c : Copies) (images : Images) → Stands c images → Now c images
    now_of c images (inl first) =
        first_now t.setting plain (spots c) c.len (good_by c.test) before (mended_of t.setting before c) (bytes_of t.setting before c) (found_of t.setting before c) images first
    now_of c images (inr now) = now.0

    puts_now : (c : Copies) (us : List Spot) (images : Images) → Contains shared c → AllByRecursion (Contains (mended_of t.setting before c)) us → HaveSizes sizes images → Now c images → Now c (after_all t.setting (map (λ (u : Spot). Store false (bytes_of t.setting before c) u) us) images)
    puts_now c [] images k m sized now = now
    puts_now c (u ∷ us) images k m sized now =
        let piece = piece_of t.setting before sizes plain shared copies clear have c k in
        let l : Contains (spots c) u = all_contains (Contains (spots c)) (mended_of t.setting before c) u piece.among m.0 in
        puts_now c us (put c u images) k m.1 (done_sized t.setting sizes (Store false (bytes_of t.setting before c) u) images (store_lies t.setting before sizes plain shared copies clear have c u k l) sized) (piece.stays u m.0 images sized now)

    puts_idle : (c : Copies) (images : Images) → Contains shared c → HaveSizes sizes images → Idle c (after_all t.setting (repairs c) images)
    puts_idle c images k sized =
        let store : Spot → LeafOp = λ u. Store false (bytes_of t.setting before c) u in
        all_weaker (λ (u : Spot). Contains (repairs c) (store u)) (λ (u : Spot). put c u (after_all t.setting (repairs c) images) ≡ after_all t.setting (repairs c) images) (mended_of t.setting before c)
        (λ u l.
        one_again t.setting sizes (IsRepair t.setting before sizes plain shared copies clear have) (repair_lies t.setting before sizes plain shared copies clear have) (repairs_alike t.setting before sizes plain shared copies clear have) (repair_twice t.setting before sizes plain shared copies clear have)
        (store u) (repairs c) images l (puts_repair t.setting before sizes plain shared copies clear have c k) sized)
        (all_unmap (Contains (repairs c)) store (mended_of t.setting before c) (all_contained (repairs c)))

    repairs_lie : (c : Copies) → Contains shared c → AllByRecursion (LiesOn sizes) (repairs c)
    repairs_lie c k =
        all_weaker (IsRepair t.setting before sizes plain shared copies clear have) (LiesOn sizes) (repairs c) (λ op r. repair_lies t.setting before sizes plain shared copies clear have op r) (puts_repair t.setting before sizes plain shared copies clear have c k)

    away_others : (c d : Copies) → Contains shared c → CopiesClear t.setting d c → AllByRecursion (λ (op : LeafOp). IsOther (spots d) (Leaf op) × LiesOn sizes op) (repairs c)
    away_others c d k away =
        let piece = piece_of t.setting before sizes plain shared copies clear have c k in
        all_map (λ (op : LeafOp). IsOther (spots d) (Leaf op) × LiesOn sizes op) (λ (u : Spot). Store false (bytes_of t.setting before c) u) (mended_of t.setting before c)
        (all_weaker (Contains (spots c)) (λ (u : Spot). AllByRecursion (λ (v : Spot). AreClear v u) (spots d) × LiesOn sizes (Store false (bytes_of t.setting before c) u)) (mended_of t.setting before c)
        (λ u l. (
          all_weaker (λ (v : Spot). AllByRecursion (AreClear v) (spots c)) (λ (v : Spot). AreClear v u) (spots d) (λ v h. all_contains (AreClear v) (spots c) u h l) away,
          store_lies t.setting before sizes plain shared copies clear have c u k l,
        ))
        piece.among)

    standing_by : (c d : Copies) (images : Images) → Contains shared c → Contains shared d → HaveSizes sizes images → Standing images → (d ≡ c) ⊎ CopiesClear t.setting d c → Stands d (after_all t.setting (repairs c) images)
    standing_by c d images kc kd sized standing (inl e) =
        subst (λ (x : Copies). Stands x (after_all t.setting (repairs c) images)) (sym e)
        (inr (puts_now c (mended_of t.setting before c) images kc (all_contained (mended_of t.setting before c)) sized (now_of c images (standing c kc)), puts_idle c images kc sized))
    standing_by c d images kc kd sized standing (inr away) =
        stands_others d (repairs c) images kd (away_others c d kc away) sized (standing d kd)

    standing_after : (c : Copies) (images : Images) → Contains shared c → HaveSizes sizes images → Standing images → Standing (after_all t.setting (repairs c) images)
    standing_after c images kc sized standing d kd = standing_by c d images kc kd sized standing (clear d c kd kc)

    idle_all : (c : Copies) (us : List Spot) (images : Images) → AllByRecursion (λ (u : Spot). put c u images ≡ images) us → after_all t.setting (map (λ (u : Spot). Store false (bytes_of t.setting before c) u) us) images ≡ images
    idle_all c [] images h = refl
    idle_all c (u ∷ us) images h =
        ap (after_all t.setting (map (λ (v : Spot). Store false (bytes_of t.setting before c) v) us)) h.0 ∙ idle_all c us images h.1

    abbrev Gives : Copies → Images → Type 0
    Gives c images = run (on_leaf t.setting) (reader_of t.setting before c) images ≡ record { value = found_of t.setting before c; asks = []; images = after_all t.setting (repairs c) images }

    reader_gives : (c : Copies) (images : Images) → Contains shared c → Stands c images → Gives c images
    reader_gives c images k (inl first) =
        let piece = piece_of t.setting before sizes plain shared copies clear have c k in
        follows_run t.setting plain (spots c) c.len (good_by c.test) before (mended_of t.setting before c) (bytes_of t.setting before c) (found_of t.setting before c) (reader_of t.setting before c) images first piece.follows
        ∙ ap (λ (i : Images). record { value = found_of t.setting before c; asks = []; images = i }) (repaired_after t.setting before (bytes_of t.setting before c) (mended_of t.setting before c) images)
    reader_gives c images k (inr now) =
        let piece = piece_of t.setting before sizes plain shared copies clear have c k in
        idle_run t.setting plain (spots c) c.len (good_by c.test) before (mended_of t.setting before c) (bytes_of t.setting before c) (found_of t.setting before c) (reader_of t.setting before c) images now.0 now.1 piece.keeps
        ∙ ap (λ (i : Images). record { value = found_of t.setting before c; asks = []; images = i }) (sym (idle_all c (mended_of t.setting before c) images now.1))

    reading_means : (c : Copies) (images : Images) → Contains shared c → Stands c images → means j t (reading_of c) images ≡ record { value = Got (found_of t.setting before c); asks = []; images = after_all t.setting (repairs c) images }
    reading_means c images k stands =
        ap (λ (d : Done Answer). record { value = Got d.value; asks = []; images = d.images })
        (sym (block_run t.setting true (good_by c.test) c.len c.places images) ∙ reader_gives c images k stands)

    -- ---- in turn

    -- a single operation elsewhere
    pub record IsSingle (x : Labelled Task) : Type 0 where
      pub single : is_single x.op ≡ true
      pub lies : TaskLies sizes x.op
      pub other : (c : Copies) → Contains shared c → IsOther (spots c) x.op

    -- or a read of a piece, which was answered so
    pub record IsReading (o : Oracle (Labelled Task) Value) (x : Labelled Task) : Type 0 where
      pub piece : Copies
      pub listed : Contains shared piece
      pub is : x.op ≡ reading_of piece
      pub answer : o.answer x ≡ Got (found_of t.setting before piece)

    abbrev pub puts_in : List (Labelled Task) → List LeafOp
    puts_in [] = []
    puts_in (x ∷ xs) = puts_for t.setting before x.op ++ puts_in xs

    pub single_puts : (task : Task) → is_single task ≡ true → puts_for t.setting before task ≡ []
    single_puts (Leaf op) e = refl
    single_puts (Find a) e = refl
    single_puts (TakePlaces tree) e = refl
    single_puts _ e = absurd (cc)

    other_apart : (task : Task) (c : Copies) (u : Spot) → IsOther (spots c) task → Contains (spots c) u → TasksApart (Leaf (Store false (bytes_of t.setting before c) u)) task
    other_apart (Leaf op) c u other l = inr (all_contains (λ (v : Spot). AreClear v (spot_of op)) (spots c) u other l)
    other_apart (Find a) c u other l = tt
    other_apart (TakePlaces tree) c u other l = tt
    other_apart _ c u other l = absurd other

    pub repair_apart : (x : Labelled Task) (op : LeafOp) → IsSingle x → IsRepair t.setting before sizes plain shared copies clear have op → TasksApart (Leaf op) x.op
    repair_apart x op h r =
        let piece = piece_of t.setting before sizes plain shared copies clear have r.piece r.listed in
        subst (λ (b : LeafOp). TasksApart (Leaf b) x.op) (sym r.is)
        (other_apart x.op r.piece r.spot (h.other r.piece r.listed) (all_contains (Contains (spots r.piece)) (mended_of t.setting before r.piece) r.spot piece.among r.mends))

    pub passes_repairs : (x : Labelled Task) (ops : List LeafOp) → IsSingle x → AllByRecursion (IsRepair t.setting before sizes plain shared copies clear have) ops → AllByRecursion (λ (op : LeafOp). TasksApart (Leaf op) x.op × LiesOn sizes op) ops
    passes_repairs x ops h all =
        all_weaker (IsRepair t.setting before sizes plain shared copies clear have) (λ (op : LeafOp). TasksApart (Leaf op) x.op × LiesOn sizes op) ops
        (λ op r. (repair_apart x op h r, repair_lies t.setting before sizes plain shared copies clear have op r)) all

    abbrev Happens : List (Deed (Labelled Task) Value) → Images → Images → Type 0
    Happens ds images after = Happen (means_at (means j t)) ds images after

    -- What single ones did after all repairs, they and the readers do in turn.
    pub in_turn : (o c : Oracle (Labelled Task) Value) → ((x : Labelled Task) → c.answer x ≡ o.answer x) → (xs : List (Labelled Task)) (images after : Images) → AllByRecursion (λ (x : Labelled Task). IsSingle x ⊎ IsReading o x) xs
        → AllByRecursion (IsRepair t.setting before sizes plain shared copies clear have) (puts_in xs) → Standing images → HaveSizes sizes images → Happens (deeds_as o (singles_in xs)) (after_all t.setting (puts_in xs) images) after → Happens (deeds_as c xs) images after
    in_turn o c same [] images after turns all standing sized h = h
    in_turn o c same (x ∷ xs) images after turns all standing sized h =
        let later : AllByRecursion (IsRepair t.setting before sizes plain shared copies clear have) (puts_in xs) =
        all_rest (IsRepair t.setting before sizes plain shared copies clear have) (puts_for t.setting before x.op) (puts_in xs) all in
        ⊎_elim
        (λ (one : IsSingle x).
        let passes = single_passes x.op (puts_in xs) images one.lies sized (passes_repairs x (puts_in xs) one later) in
        let next : Images = (means j t x.op images).images in
        let k : Happens (deeds_as o (x ∷ singles_in xs)) (after_all t.setting (puts_in xs) images) after =
        subst (λ (b : Bool). Happens (deeds_as o (cond b (x ∷ singles_in xs) (singles_in xs))) (after_all t.setting (puts_in xs) images) after) one.single
        (subst (λ (ps : List LeafOp). Happens (deeds_as o (singles_in (x ∷ xs))) (after_all t.setting (ps ++ puts_in xs) images) after) (single_puts x.op one.single) h) in (
          sym passes.0 ∙ k.0 ∙ sym (same x),
          in_turn o c same xs next after turns.1 later (λ d kd. stands_other d x.op images kd (one.other d kd) one.lies sized (standing d kd)) ((tasks_commute j t sizes).sound x.op images sized one.lies)
              (subst (λ (i : Images). Happens (deeds_as o (singles_in xs)) i after) passes.1 k.1),
        ))
        (λ (one : IsReading o x).
        let d : Copies = one.piece in
        let gives : means j t x.op images ≡ record { value = Got (found_of t.setting before d); asks = []; images = after_all t.setting (repairs d) images } =
        ap (λ (q : Task). means j t q images) one.is ∙ reading_means d images one.listed (standing d one.listed) in
        let next : (means j t x.op images).images ≡ after_all t.setting (repairs d) images = ap (λ (e : Done Value). e.images) gives in
        let double : is_single x.op ≡ false = subst (λ (q : Task). is_single q ≡ false) (sym one.is) refl in
        let k : Happens (deeds_as o (singles_in xs)) (after_all t.setting (puts_in xs) (after_all t.setting (repairs d) images)) after =
        subst (λ (i : Images). Happens (deeds_as o (singles_in xs)) i after) (after_append t.setting (repairs d) (puts_in xs) images)
        (subst (λ (b : Bool). Happens (deeds_as o (cond b (x ∷ singles_in xs) (singles_in xs))) (after_all t.setting (repairs d ++ puts_in xs) images) after) double
        (subst (λ (q : Task). Happens (deeds_as o (singles_in (x ∷ xs))) (after_all t.setting (puts_for t.setting before q ++ puts_in xs) images) after) one.is h)) in (
          ap (λ (e : Done Value). e.value) gives ∙ sym one.answer ∙ sym (same x),
          subst (λ (i : Images). Happens (deeds_as c xs) i after) (sym next)
              (in_turn o c same xs (after_all t.setting (repairs d) images) after turns.1 later (standing_after d images one.listed sized standing)
              (all_sized t.setting sizes (repairs d) images (repairs_lie d one.listed) sized) k),
        ))
        turns.0
