-- Several readers of one block give what one gives, in any order of their operations.
use Rattle.std.proofs.Common.{◌≡◌, ℕ, zero, suc, ◌+◌, ◌≤◌, List, [], ◌∷◌, ◌++◌, length, map, replicate, Bool, true, false, Option, Some, None, Result, Ok, Err, IfOk, IsTrue, Contains, refl, sym, ap, ◌∙◌, subst, arith}
use Rattle.std.specs.List.{AllByRecursion}
use Rattle.zio_types.specs.declared.error.Errno.{Errno}
use Rattle.zio_types.specs.declared.place.Place.{Place}
use Rattle.zio_cksum.specs.Blocks.{Pass, Read, Tried, first_pass_with, judged, last_pass_with, leaves_of, read_block, read_order, read_pass, read_place, repaired, spot_in}
use Rattle.zio_cksum.specs.Frames.{FitSpots, HaveRoom, spots_of}
use Rattle.zio_cksum.specs.Headers.{offset_of}
use Rattle.zio_cksum.specs.Images.{Images, Setting, Spot, image_of, read_leaf}
use Rattle.zio_cksum.proofs.AllLemmas.{all_append, all_contained, all_map, all_unmap, all_weaker}
use Rattle.zio_cksum.proofs.FrameLemmas.{AreAmong, places_among}
use Rattle.zio_cksum.proofs.ReadLemmas.{good_law, size_law}
use Rattle.zio_trace.specs.CopyPrograms.{Program, block_reading, fetch_in, first_on, last_on, none_passed, none_tried, pass_each, pass_on, pass_reading, place_reading, try_each, try_on, with_failure}
use Rattle.zio_trace.specs.Leaves.{Answer, Fetch, HaveSizes, Store, on_leaf}
use Rattle.zio_trace.specs.Programs.{Asks, Done, Ends, run, ◌>>=◌}
use Rattle.zio_trace.specs.Readers.{AllEnd, CopiesApart, CopiesLie, Interleaved, OneDoes, RowsArePlain}
use Rattle.zio_trace.proofs.CopyLemmas.{block_run, pass_run}
use Rattle.zio_trace.proofs.ListLemmas.{all_front, all_rest}
use Rattle.zio_trace.proofs.ReaderFaults.{pass_same}
use Rattle.zio_trace.proofs.ReaderLemmas.{looking, now_before, pass_on_among}
use Rattle.zio_trace.proofs.ReaderPrograms.{block_fine, failed_among, in_order}

all_replicate : {X : Type 0} (P : X → Type 0) (n : ℕ) (x : X) → P x → AllByRecursion P (replicate n x)
all_replicate P zero x h = tt
all_replicate P (suc n) x h = (h, all_replicate P n x h)

-- ---- where no copy is good

module _ (s : Setting) (images : Images) where
  -- alone it makes no write
  abbrev Reads : {A : Type 0} → Program A → Type 0
  Reads (Ends a) = Unit {0}
  Reads (Asks (Fetch retry n t) more) = Reads (more (read_leaf s retry images n t))
  Reads (Asks (Store retry b t) more) = ⊥

  reads_then : {A B : Type 0} (p : Program A) (next : A → Program B) → Reads p → Reads (next (run (on_leaf s) p images).value) → Reads (p >>= next)
  reads_then (Ends a) next h k = k
  reads_then (Asks (Fetch retry n t) more) next h k = reads_then (more (read_leaf s retry images n t)) next h k
  reads_then (Asks (Store retry b t) more) next h k = absurd h

  try_reads : {C : Type 0} (c : C) (r : Result (List ℕ) Errno) (so_far : Tried C) (on : Tried C → Program (Tried C)) → ((now : Tried C) → Reads (on now)) → Reads (try_on c r so_far on)
  try_reads c (Ok b) so_far on h = tt
  try_reads c (Err e) so_far on h = h (with_failure c e so_far)

  tries_read : (retry : Bool) (good : List ℕ → Bool) (len : ℕ) (p : Place) (leaves : List ℕ) (so_far : Tried ℕ) → Reads (try_each (fetch_in retry len p) good so_far leaves)
  tries_read retry good len p [] so_far = tt
  tries_read retry good len p (leaf ∷ leaves) so_far =
      try_reads leaf (judged good (read_leaf s retry images len (spot_in p leaf))) so_far _ (λ now. tries_read retry good len p leaves now)

  pass_on_reads : (found : Option (List ℕ)) (bad all : List Spot) (tried : Tried ℕ) (so_far : Pass) (on : Pass → Program Pass) → ((now : Pass) → Reads (on now)) → Reads (pass_on found bad all tried so_far on)
  pass_on_reads (Some b) bad all tried so_far on h = tt
  pass_on_reads None bad all tried so_far on h = h _

  pass_reads : (retry : Bool) (good : List ℕ → Bool) (len : ℕ) (places : List Place) (so_far : Pass) → Reads (pass_each s retry good len so_far places)
  pass_reads retry good len [] so_far = tt
  pass_reads retry good len (p ∷ ps) so_far =
      let reading : Program (Tried ℕ) = place_reading s retry good len p in
      let tried : Tried ℕ = (run (on_leaf s) reading images).value in
      reads_then reading _ (tries_read retry good len p (read_order (offset_of p) (leaves_of s p)) none_tried)
      (pass_on_reads tried.found (map (spot_in p) tried.failed) (map (spot_in p) (leaves_of s p)) tried so_far _ (λ now. pass_reads retry good len ps now))

  last_reads : (found : Option (List ℕ)) (pass : Pass) → found ≡ None → Reads (last_on found true pass)
  last_reads (Some b) pass e = absurd (let no : Some b ≡ None = e in cc)
  last_reads None pass e = tt

  first_reads : (found : Option (List ℕ)) (pass : Pass) (again : Program Pass) → found ≡ None → Reads again → (run (on_leaf s) again images).value.found ≡ None → Reads (first_on found true pass again)
  first_reads (Some b) pass again e h k = absurd (let no : Some b ≡ None = e in cc)
  first_reads None pass again e h k =
      let last : Pass = (run (on_leaf s) again images).value in
      reads_then again (λ x. last_on x.found true x) h (last_reads last.found last k)

  block_reads : (good : List ℕ → Bool) (len : ℕ) (places : List Place) → (read_pass s false good images len places).found ≡ None → (read_pass s true good images len places).found ≡ None → Reads (block_reading s true good len places)
  block_reads good len places e f =
      let first : Pass = (run (on_leaf s) (pass_reading s false good len places) images).value in
      let is : first ≡ read_pass s false good images len places = ap (λ (d : Done Pass). d.value) (pass_run s false good len places images) in
      let again : (run (on_leaf s) (pass_reading s true good len places) images).value ≡ read_pass s true good images len places = ap (λ (d : Done Pass). d.value) (pass_run s true good len places images) in
      reads_then (pass_reading s false good len places) _ (pass_reads false good len places none_passed)
      (first_reads first.found first (pass_reading s true good len places) (ap (λ (x : Pass). x.found) is ∙ e) (pass_reads true good len places none_passed) (ap (λ (x : Pass). x.found) again ∙ f))

  abbrev Fails : Answer → Program Answer → Type 0
  Fails a p = Reads p × (run (on_leaf s) p images ≡ record { value = a; asks = []; images = images })

fails_end : (s : Setting) (images : Images) (a : Answer) (answers : List Answer) → AllByRecursion (Fails s images a) (map (λ (b : Answer). Ends b) answers) → AllByRecursion (λ (b : Answer). b ≡ a) answers
fails_end s images a [] h = tt
fails_end s images a (b ∷ answers) h = (ap (λ (d : Done Answer). d.value) h.0.1, fails_end s images a answers h.1)

failing : (s : Setting) (a : Answer) (ps : List (Program Answer)) (images : Images) (answers : List Answer) (after : Images) → Interleaved s ps images answers after → AllByRecursion (Fails s images a) ps → AllByRecursion (λ (b : Answer). b ≡ a) answers × (after ≡ images)
failing s a ps images answers after (AllEnd done) h = (fails_end s images a done h, refl)
failing s a ps images answers after (OneDoes front rest (Fetch retry n t) more x) h =
    let own : Fails s images a (Asks (Fetch retry n t) more) = (all_rest (Fails s images a) front (Asks (Fetch retry n t) more ∷ rest) h).0 in
    failing s a (front ++ more (read_leaf s retry images n t) ∷ rest) images answers after x
    (all_append (Fails s images a) front (more (read_leaf s retry images n t) ∷ rest) (all_front (Fails s images a) front (Asks (Fetch retry n t) more ∷ rest) h)
    ((own.0, own.1), (all_rest (Fails s images a) front (Asks (Fetch retry n t) more ∷ rest) h).1))
failing s a ps images answers after (OneDoes front rest (Store retry b t) more x) h =
    let own : Fails s images a (Asks (Store retry b t) more) = (all_rest (Fails s images a) front (Asks (Store retry b t) more ∷ rest) h).0 in
    absurd own.0

-- ---- what the definition gives

none_gives : (s : Setting) (images : Images) (found second : Option (List ℕ)) (pass : Pass) (pass_in : Bool → Pass) → found ≡ None → (pass_in true).found ≡ second → second ≡ None → (first_pass_with found s true images pass pass_in).images ≡ images
none_gives s images (Some b) second pass pass_in e f g = absurd (let no : Some b ≡ None = e in cc)
none_gives s images None second pass pass_in e f g =
    ap (λ (o : Option (List ℕ)). (last_pass_with o s true images (pass_in true)).images) (f ∙ g)

some_gives : (s : Setting) (images : Images) (found : Option (List ℕ)) (bytes : List ℕ) (pass : Pass) (pass_in : Bool → Pass) → found ≡ Some bytes → first_pass_with found s true images pass pass_in ≡ record { found = Ok bytes; images = repaired s false bytes pass.repairs images }
some_gives s images found bytes pass pass_in e = ap (λ (o : Option (List ℕ)). first_pass_with o s true images pass pass_in) e

failed_here : (spots : List Spot) (s : Setting) (good : List ℕ → Bool) (images : Images) (len : ℕ) (p : Place) → AreAmong spots s p → AllByRecursion (λ (l : ℕ). Contains spots (spot_in p l)) (read_place s false good images len p).failed
failed_here spots s good images len p h =
    failed_among s spots len good images [] [] (λ (l : ℕ). Contains spots (spot_in p l)) p (read_order (offset_of p) (leaves_of s p))
    (in_order s spots len good images [] [] (λ (l : ℕ). Contains spots (spot_in p l)) p (all_unmap (Contains spots) (spot_in p) (leaves_of s p) h))

pub pass_among : (spots : List Spot) (s : Setting) (good : List ℕ → Bool) (images : Images) (len : ℕ) (places : List Place) → AllByRecursion (AreAmong spots s) places → AllByRecursion (Contains spots) (read_pass s false good images len places).repairs
pass_among spots s good images len [] h = tt
pass_among spots s good images len (p ∷ ps) h =
    let tried : Tried ℕ = read_place s false good images len p in
    pass_on_among spots tried.found (map (spot_in p) tried.failed) (map (spot_in p) (leaves_of s p)) tried (read_pass s false good images len ps)
    (all_map (Contains spots) (spot_in p) tried.failed (failed_here spots s good images len p h.0)) h.0 (pass_among spots s good images len ps h.1)

-- ---- together

module _ (s : Setting) (sizes : ℕ → ℕ) (good : List ℕ → Bool) (len : ℕ) (places : List Place) (before : Images) (plain : RowsArePlain s.rows) (apart : CopiesApart (spots_of s places)) (lie : CopiesLie sizes len (spots_of s places)) (have : HaveSizes sizes before) where
  abbrev alone : Read
  alone = read_block s true good before len places

  abbrev first : Pass
  first = read_pass s false good before len places

  abbrev Together : List Answer → Images → Type 0
  Together answers after = AllByRecursion (λ (a : Answer). a ≡ alone.found) answers × (after ≡ alone.images)

  fits : FitSpots (spots_of s places) before
  fits = all_weaker (λ (t : Spot). (len ≤ t.span) × (t.at + t.span ≤ sizes t.leaf)) (λ (t : Spot). t.at + t.span ≤ length (image_of before t.leaf)) (spots_of s places) (λ t h. let low : t.at + t.span ≤ sizes t.leaf = h.1 in omega (arith, have t.leaf)) lie

  rooms : HaveRoom len (spots_of s places)
  rooms = all_weaker (λ (t : Spot). (len ≤ t.span) × (t.at + t.span ≤ sizes t.leaf)) (λ (t : Spot). len ≤ t.span) (spots_of s places) (λ t h. h.0) lie

  by_found : (found : Option (List ℕ)) → first.found ≡ found → (readers : ℕ) (answers : List Answer) (after : Images) → Interleaved s (replicate (suc readers) (block_reading s true good len places)) before answers after → Together answers after
  by_found None e readers answers after x =
      let again : (read_pass s true good before len places).found ≡ None = ap (λ (p : Pass). p.found) (pass_same s good before len places plain) ∙ e in
      let same : alone.images ≡ before = none_gives s before first.found (read_pass s true good before len places).found first (λ retry. read_pass s retry good before len places) e refl again in
      let one : Fails s before alone.found (block_reading s true good len places) =
      (block_reads s before good len places e again, block_run s true good len places before ∙ ap (λ (i : Images). record { value = alone.found; asks = []; images = i }) same) in
      let all = failing s alone.found (replicate (suc readers) (block_reading s true good len places)) before answers after x (all_replicate (Fails s before alone.found) (suc readers) (block_reading s true good len places) one) in
      (all.0, all.1 ∙ sym same)
  by_found (Some bytes) e readers answers after x =
      let gives : alone ≡ record { found = Ok bytes; images = repaired s false bytes first.repairs before } =
      some_gives s before first.found bytes first (λ retry. read_pass s retry good before len places) e in
      let found : alone.found ≡ Ok bytes = ap (λ (r : Read). r.found) gives in
      let images : alone.images ≡ repaired s false bytes first.repairs before = ap (λ (r : Read). r.images) gives in
      let is_good : good bytes ≡ true = subst (λ (r : Result (List ℕ) Errno). IfOk r (λ b. IsTrue (good b))) found (good_law s true good before len places) in
      let is_long : length bytes ≡ len = subst (λ (r : Result (List ℕ) Errno). IfOk r (λ b. length b ≡ len)) found (size_law s true good before len places rooms fits) in
      let among : AllByRecursion (Contains (spots_of s places)) first.repairs = pass_among (spots_of s places) s good before len places (places_among s places) in
      let fine = block_fine s (spots_of s places) len good before first.repairs bytes places (places_among s places) e (all_contained first.repairs) in
      let runs : run (on_leaf s) (block_reading s true good len places) before ≡ record { value = Ok bytes; asks = []; images = repaired s false bytes first.repairs before } =
      block_run s true good len places before ∙ (λ i. record { value = found i; asks = []; images = images i }) in
      let all = looking s sizes plain (spots_of s places) apart len lie good before first.repairs bytes is_good is_long among have (replicate (suc readers) (block_reading s true good len places)) before answers after x
      (now_before s sizes plain (spots_of s places) apart len lie good before first.repairs bytes is_good is_long among have)
      (all_replicate _ (suc readers) (block_reading s true good len places) (fine, runs)) tt in
      (all_weaker (λ (a : Answer). a ≡ Ok bytes) (λ (a : Answer). a ≡ alone.found) answers (λ a h. h ∙ sym found) all.0, all.1 ∙ sym images)

-- Whatever the order of their operations, each reader has what one alone has, and the images are those that it leaves.
pub readers_together : (s : Setting) (sizes : ℕ → ℕ) (good : List ℕ → Bool) (len : ℕ) (places : List Place) (readers : ℕ) (before after : Images) (answers : List Answer) → RowsArePlain s.rows → CopiesApart (spots_of s places) → CopiesLie sizes len (spots_of s places) → HaveSizes sizes before
    → Interleaved s (replicate (suc readers) (block_reading s true good len places)) before answers after
    → AllByRecursion (λ (a : Answer). a ≡ (read_block s true good before len places).found) answers × (after ≡ (read_block s true good before len places).images)
readers_together s sizes good len places readers before after answers plain apart lie have x =
    by_found s sizes good len places before plain apart lie have (read_pass s false good before len places).found refl readers answers after x
