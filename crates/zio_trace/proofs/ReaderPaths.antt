-- A reader's program where each copy gives what it gave at first, or that or the good bytes: which operations it comes to,
-- and what it ends with.
use Rattle.std.proofs.Common.{◌≡◌, ℕ, List, [], ◌∷◌, ◌++◌, map, Bool, true, false, Option, Some, None, Result, Ok, Err, Contains, ⊎_elim, refl, sym, ap, ◌∙◌, subst}
use Rattle.std.specs.List.{AllByRecursion}
use Rattle.zio_types.specs.declared.error.Errno.{Errno}
use Rattle.zio_types.specs.declared.place.Place.{Place}
use Rattle.zio_cksum.specs.Blocks.{Pass, Tried, blame, judged, leaves_of, read_order, read_pass, spot_in}
use Rattle.zio_cksum.specs.Headers.{offset_of}
use Rattle.zio_cksum.specs.Images.{Images, Setting, Spot, read_leaf}
use Rattle.zio_cksum.proofs.AllLemmas.{all_contains, all_unmap}
use Rattle.zio_cksum.proofs.FrameLemmas.{AreAmong}
use Rattle.zio_trace.specs.CopyPrograms.{Program, block_reading, fetch_in, first_on, found_by, last_on, none_passed, none_tried, pass_each, pass_on, pass_reading, place_reading, store_each, try_each, try_on, with_failure}
use Rattle.zio_trace.specs.Leaves.{Answer, Fetch, Store, error_of, on_leaf}
use Rattle.zio_trace.specs.Programs.{Asks, Done, Ends, run, ◌>>=◌}
use Rattle.zio_trace.specs.Readers.{RowsArePlain}
use Rattle.zio_trace.proofs.CopyLemmas.{pass_run}
use Rattle.zio_trace.proofs.ReaderFaults.{pass_same, read_same}
use Rattle.zio_trace.proofs.ReaderPrograms.{Fine, May, Repairs, at_first, in_order}

module _ (s : Setting) (spots : List Spot) (len : ℕ) (good : List ℕ → Bool) (before : Images) (mended : List Spot) (bytes : List ℕ) (found : Answer) where
  abbrev pub MayBe : Spot → Result (List ℕ) Errno → Type 0
  MayBe t r = May s spots len good before mended bytes t r

  abbrev pub first_at : Spot → Result (List ℕ) Errno
  first_at t = at_first s spots len good before mended bytes t

  -- where each copy gives what it gave at first, or the good bytes, it ends so, and repairs nothing but these copies
  abbrev pub Keeps : Program Answer → Type 0
  Keeps (Ends a) = a ≡ found
  Keeps (Asks (Fetch retry n t) more) = (n ≡ len) × Contains spots t × ((answer : Answer) → MayBe t (judged good answer) → Keeps (more answer))
  Keeps (Asks (Store retry b t) more) = (retry ≡ false) × (b ≡ bytes) × Contains mended t × ((answer : Answer) → Keeps (more answer))

  -- it puts the bytes on these copies in turn
  abbrev pub Puts : List Spot → Program Answer → Type 0
  Puts left (Ends a) = (a ≡ found) × (left ≡ [])
  Puts left (Asks (Fetch retry n t) more) = ⊥
  Puts left (Asks (Store retry b t) more) = (retry ≡ false) × (b ≡ bytes) × ((rest : List Spot) × (left ≡ t ∷ rest) × ((answer : Answer) → Puts rest (more answer)))

  -- where each copy gives what it gave at first, it ends so, and repairs just these copies
  abbrev pub Follows : Program Answer → Type 0
  Follows (Ends a) = (a ≡ found) × (mended ≡ [])
  Follows (Asks (Fetch retry n t) more) = (n ≡ len) × Contains spots t × ((answer : Answer) → judged good answer ≡ first_at t → Follows (more answer))
  Follows (Asks (Store retry b t) more) = Puts mended (Asks (Store retry b t) more)

  puts_follow : (p : Program Answer) → Puts mended p → Follows p
  puts_follow (Ends a) h = h
  puts_follow (Asks (Fetch retry n t) more) h = absurd h
  puts_follow (Asks (Store retry b t) more) h = h

  none_contained : (t : Spot) → mended ≡ [] → Contains mended t → ⊥
  none_contained t e c = all_contains (λ (u : Spot). ⊥) mended t (subst (AllByRecursion (λ (u : Spot). ⊥)) (sym e) tt) c

  -- where nothing is to be repaired
  pub follows_keeps : mended ≡ [] → (p : Program Answer) → Follows p → Keeps p
  follows_keeps e (Ends a) h = h.0
  follows_keeps e (Asks (Fetch retry n t) more) h = (
    h.0,
    h.1,
    λ answer may. follows_keeps e (more answer) (h.2 answer (⊎_elim (λ first. first) (λ put. absurd (none_contained t e put.1)) may)),
  )
  follows_keeps e (Asks (Store retry b t) more) h = absurd (let x : [] ≡ t ∷ h.2.0 = sym e ∙ h.2.1 in cc)

  repairs_keep : found ≡ Ok bytes → (p : Program Answer) → Repairs s spots len good before mended bytes p → Keeps p
  repairs_keep e (Ends a) h = h ∙ sym e
  repairs_keep e (Asks (Fetch retry n t) more) h = absurd h
  repairs_keep e (Asks (Store retry b t) more) h = (h.0, h.1, h.2, λ answer. repairs_keep e (more answer) (h.3 answer))

  pub fine_keeps : found ≡ Ok bytes → (p : Program Answer) → Fine s spots len good before mended bytes p → Keeps p
  fine_keeps e (Ends a) h = h ∙ sym e
  fine_keeps e (Asks (Fetch retry n t) more) h = (h.1, h.2, λ answer may. fine_keeps e (more answer) (h.3 answer may))
  fine_keeps e (Asks (Store retry b t) more) h = repairs_keep e (Asks (Store retry b t) more) h

  -- ---- reads alone

  -- it reads copies alone, and goes on by what it judges of the bytes
  abbrev Judges : {A : Type 0} → Program A → Type 0
  Judges (Ends a) = Unit {0}
  Judges (Asks (Fetch retry n t) more) =
      (n ≡ len) × Contains spots t × ((a b : Answer) → judged good a ≡ judged good b → more a ≡ more b) × Judges (more (read_leaf s retry before n t))
  Judges (Asks (Store retry b t) more) = ⊥

  judges_then : {A B : Type 0} (p : Program A) (next : A → Program B) → Judges p → Judges (next (run (on_leaf s) p before).value) → Judges (p >>= next)
  judges_then (Ends a) next h k = k
  judges_then (Asks (Fetch retry n t) more) next h k =
      (h.0, h.1, (λ a b e. ap (λ (p : Program _). p >>= next) (h.2 a b e)), judges_then (more (read_leaf s retry before n t)) next h.3 k)
  judges_then (Asks (Store retry b t) more) next h k = absurd h

  try_judges : {C : Type 0} (c : C) (r : Result (List ℕ) Errno) (so_far : Tried C) (on : Tried C → Program (Tried C)) → ((now : Tried C) → Judges (on now)) → Judges (try_on c r so_far on)
  try_judges c (Ok b) so_far on h = tt
  try_judges c (Err e) so_far on h = h (with_failure c e so_far)

  tries_judge : (retry : Bool) (p : Place) (leaves : List ℕ) (so_far : Tried ℕ) → AllByRecursion (λ (l : ℕ). Contains spots (spot_in p l)) leaves → Judges (try_each (fetch_in retry len p) good so_far leaves)
  tries_judge retry p [] so_far h = tt
  tries_judge retry p (leaf ∷ leaves) so_far h = (
    refl,
    h.0,
    (λ a b e. ap (λ (r : Result (List ℕ) Errno). try_on leaf r so_far (λ now. try_each (fetch_in retry len p) good now leaves)) e),
    try_judges leaf (judged good (read_leaf s retry before len (spot_in p leaf))) so_far _ (λ now. tries_judge retry p leaves now h.1),
  )

  pass_on_judges : (found : Option (List ℕ)) (bad all : List Spot) (tried : Tried ℕ) (so_far : Pass) (on : Pass → Program Pass) → ((now : Pass) → Judges (on now)) → Judges (pass_on found bad all tried so_far on)
  pass_on_judges (Some b) bad all tried so_far on h = tt
  pass_on_judges None bad all tried so_far on h = h _

  pass_judges : (retry : Bool) (places : List Place) (so_far : Pass) → AllByRecursion (AreAmong spots s) places → Judges (pass_each s retry good len so_far places)
  pass_judges retry [] so_far h = tt
  pass_judges retry (p ∷ ps) so_far h =
      let reading : Program (Tried ℕ) = place_reading s retry good len p in
      let tried : Tried ℕ = (run (on_leaf s) reading before).value in
      judges_then reading _
      (tries_judge retry p (read_order (offset_of p) (leaves_of s p)) none_tried (in_order s spots len good before mended bytes (λ (l : ℕ). Contains spots (spot_in p l)) p (all_unmap (Contains spots) (spot_in p) (leaves_of s p) h.0)))
      (pass_on_judges tried.found (map (spot_in p) tried.failed) (map (spot_in p) (leaves_of s p)) tried so_far _ (λ now. pass_judges retry ps now h.1))

  -- where each copy gives what it gave at first, it ends so
  abbrev ReadsTo : {A : Type 0} → (A → Type 0) → Program A → Type 0
  ReadsTo Q (Ends a) = Q a
  ReadsTo Q (Asks (Fetch retry n t) more) = (n ≡ len) × Contains spots t × ((answer : Answer) → judged good answer ≡ first_at t → ReadsTo Q (more answer))
  ReadsTo Q (Asks (Store retry b t) more) = ⊥

  pub read_as_first : (plain : RowsArePlain s.rows) (images : Images) (retry : Bool) (n : ℕ) (t : Spot) → n ≡ len → judged good (read_leaf s retry images n t) ≡ judged good (read_leaf s false images len t)
  read_as_first plain images true n t e =
      ap (judged good) (read_same s images n t plain) ∙ ap (λ (m : ℕ). judged good (read_leaf s false images m t)) e
  read_as_first plain images false n t e = ap (λ (m : ℕ). judged good (read_leaf s false images m t)) e

  judges_to : {A : Type 0} (plain : RowsArePlain s.rows) (p : Program A) → Judges p → ReadsTo (λ (a : A). a ≡ (run (on_leaf s) p before).value) p
  judges_to plain (Ends a) h = refl
  judges_to {A} plain (Asks (Fetch retry n t) more) h =
      let v : Answer = read_leaf s retry before n t in (
        h.0,
        h.1,
        λ answer e.
            subst (ReadsTo (λ (a : A). a ≡ (run (on_leaf s) (more v) before).value)) (sym (h.2 answer v (e ∙ sym (read_as_first plain before retry n t h.0))))
            (judges_to plain (more v) h.3),
      )
  judges_to plain (Asks (Store retry b t) more) h = absurd h

  reads_follow : {A : Type 0} (Q : A → Type 0) (p : Program A) (next : A → Program Answer) → ReadsTo Q p → ((a : A) → Q a → Follows (next a)) → Follows (p >>= next)
  reads_follow Q (Ends a) next h k = k a h
  reads_follow Q (Asks (Fetch retry n t) more) next h k = (h.0, h.1, λ answer e. reads_follow Q (more answer) next (h.2 answer e) k)
  reads_follow Q (Asks (Store retry b t) more) next h k = absurd h

  stores_put : found ≡ Ok bytes → (so_far : List (Option Errno)) (those : List Spot) → Puts those (store_each false bytes so_far those >>= λ errors. Ends (Ok bytes))
  stores_put e so_far [] = (sym e, refl)
  stores_put e so_far (t ∷ those) = (refl, refl, (those, refl, λ answer. stores_put e (so_far ++ error_of answer ∷ []) those))

  some_follows : (o : Option (List ℕ)) (pass : Pass) (again : Program Pass) → o ≡ Some bytes → pass.repairs ≡ mended → found ≡ Ok bytes → Follows (first_on o true pass again)
  some_follows (Some b) pass again e m f =
      let is : bytes ≡ b = cc in
      subst (λ (x : List ℕ). Follows (found_by true false pass x)) is
      (subst (λ (xs : List Spot). Follows (store_each false bytes [] xs >>= λ errors. Ends (Ok bytes))) (sym m)
      (puts_follow (store_each false bytes [] mended >>= λ errors. Ends (Ok bytes)) (stores_put f [] mended)))
  some_follows None pass again e m f = absurd (let no : ◌≡◌ {A = Option (List ℕ)} None (Some bytes) = e in cc)

  last_follows : (o : Option (List ℕ)) (pass : Pass) → o ≡ None → found ≡ Err (blame pass.errors) → mended ≡ [] → Follows (last_on o true pass)
  last_follows (Some b) pass e f m = absurd (let no : Some b ≡ None = e in cc)
  last_follows None pass e f m = (sym f, m)

  none_follows : (o : Option (List ℕ)) (pass : Pass) (again : Program Pass) (last : Pass) → o ≡ None → last.found ≡ None → found ≡ Err (blame last.errors) → mended ≡ [] → ReadsTo (λ (x : Pass). x ≡ last) again → Follows (first_on o true pass again)
  none_follows (Some b) pass again last e l f m r = absurd (let no : Some b ≡ None = e in cc)
  none_follows None pass again last e l f m r =
      reads_follow (λ (x : Pass). x ≡ last) again _ r
      (λ x is. last_follows x.found x (ap (λ (y : Pass). y.found) is ∙ l) (f ∙ ap (λ (y : Pass). Err (blame y.errors)) (sym is)) m)

  pass_reads_to : (plain : RowsArePlain s.rows) (retry : Bool) (places : List Place) → AllByRecursion (AreAmong spots s) places → ReadsTo (λ (x : Pass). x ≡ read_pass s false good before len places) (pass_reading s retry good len places)
  pass_reads_to plain retry places among =
      subst (λ (y : Pass). ReadsTo (λ (x : Pass). x ≡ y) (pass_reading s retry good len places))
      (ap (λ (d : Done Pass). d.value) (pass_run s retry good len places before) ∙ by_retry retry)
      (judges_to plain (pass_reading s retry good len places) (pass_judges retry places none_passed among))
    where
      by_retry : (r : Bool) → read_pass s r good before len places ≡ read_pass s false good before len places
      by_retry true = pass_same s good before len places plain
      by_retry false = refl

  -- where the first pass found the bytes
  pub block_follows_some : (plain : RowsArePlain s.rows) (places : List Place) → AllByRecursion (AreAmong spots s) places → (read_pass s false good before len places).found ≡ Some bytes → mended ≡ (read_pass s false good before len places).repairs → found ≡ Ok bytes → Follows (block_reading s true good len places)
  block_follows_some plain places among e m f =
      let first : Pass = read_pass s false good before len places in
      reads_follow (λ (x : Pass). x ≡ first) (pass_reading s false good len places) _ (pass_reads_to plain false places among)
      (λ pass is. some_follows pass.found pass (pass_reading s true good len places) (ap (λ (y : Pass). y.found) is ∙ e) (ap (λ (y : Pass). y.repairs) is ∙ sym m) f)

  -- where it found nothing
  pub block_follows_none : (plain : RowsArePlain s.rows) (places : List Place) → AllByRecursion (AreAmong spots s) places → (read_pass s false good before len places).found ≡ None → mended ≡ [] → found ≡ Err (blame (read_pass s false good before len places).errors) → Follows (block_reading s true good len places)
  block_follows_none plain places among e m f =
      let first : Pass = read_pass s false good before len places in
      reads_follow (λ (x : Pass). x ≡ first) (pass_reading s false good len places) _ (pass_reads_to plain false places among)
      (λ pass is. none_follows pass.found pass (pass_reading s true good len places) first (ap (λ (y : Pass). y.found) is ∙ e) e f m (pass_reads_to plain true places among))
