-- Several readers of one block, in any order of their operations.
use Rattle.std.proofs.Common.{◌≡◌, ℕ, ◌+◌, ◌<◌, ◌≤◌, List, [], ◌∷◌, ◌++◌, length, map, take, drop, Bool, true, false, Option, Some, None, Result, Ok, Contains, ◌⊎◌, inl, inr, ⊎_elim, refl, sym, ap, ◌∙◌, subst, arith}
use Rattle.std.specs.List.{AllByRecursion}
use Rattle.std.proofs.lemmas.Bool.{cases_lt}
use Rattle.zio_types.specs.declared.error.Errno.{Errno}
use Rattle.zio_faults.specs.declared.table.Hit.{Hit}
use Rattle.zio_cksum.specs.Blocks.{Pass, Tried, judged, judged_by, passed_with, repaired}
use Rattle.zio_cksum.specs.Images.{Images, Setting, Spot, bytes_at, image_of, met, overwritten, padded_to, read_leaf, read_met, with_bytes}
use Rattle.zio_cksum.proofs.AllLemmas.{all_append, all_contained, all_contains, all_unmap, all_weaker}
use Rattle.zio_cksum.proofs.ByteLemmas.{image_of_same, images_past, length-padded_to}
use Rattle.zio_trace.specs.CopyPrograms.{Program}
use Rattle.zio_trace.specs.Leaves.{Answer, AreClear, Fetch, HaveSizes, Store, answer_of, on_leaf}
use Rattle.zio_trace.specs.Programs.{Asks, Done, Ends, run}
use Rattle.zio_trace.specs.Readers.{AllEnd, CopiesApart, CopiesLie, Interleaved, OneDoes, RowsArePlain}
use Rattle.zio_trace.proofs.ByteLemmas.{front_padded, read_written}
use Rattle.zio_trace.proofs.LeafLemmas.{leaves_commute, met_answer}
use Rattle.zio_trace.proofs.ListLemmas.{all_front, all_rest}
use Rattle.zio_trace.proofs.ReaderFaults.{met_plain, read_plain}
use Rattle.zio_trace.proofs.ReaderImages.{met_stores, put_again, put_commutes, put_copy, put_sizes}
use Rattle.zio_trace.proofs.ReaderPrograms.{Fine, May, Repairs, repairs_fine}

-- ---- lists of programs

all_put : {X : Type 0} (P : X → Type 0) (front : List X) (x : X) (rest : List X) → AllByRecursion P front → P x → AllByRecursion P rest → AllByRecursion P (front ++ x ∷ rest)
all_put P front x rest h p k = all_append P front (x ∷ rest) h (p, k)

-- one of them is so
abbrev SomeOne : {X : Type 0} → (X → Type 0) → List X → Type 0
SomeOne P [] = ⊥
SomeOne P (x ∷ xs) = P x ⊎ SomeOne P xs

some_here : {X : Type 0} (P : X → Type 0) (front : List X) (x : X) (rest : List X) → P x → SomeOne P (front ++ x ∷ rest)
some_here P [] x rest h = inl h
some_here P (y ∷ front) x rest h = inr (some_here P front x rest h)

some_weaker : {X : Type 0} (P Q : X → Type 0) (xs : List X) → ((x : X) → P x → Q x) → SomeOne P xs → SomeOne Q xs
some_weaker P Q [] f h = h
some_weaker P Q (x ∷ xs) f h = ⊎_elim (λ p. inl (f x p)) (λ k. inr (some_weaker P Q xs f k)) h

some_step : {X : Type 0} (P Q : X → Type 0) (front : List X) (x y : X) (rest : List X) → ((z : X) → P z → Q z) → (P x → Q y) → SomeOne P (front ++ x ∷ rest) → SomeOne Q (front ++ y ∷ rest)
some_step P Q [] x y rest f g h = ⊎_elim (λ p. inl (g p)) (λ k. inr (some_weaker P Q rest f k)) h
some_step P Q (z ∷ front) x y rest f g h = ⊎_elim (λ p. inl (f z p)) (λ k. inr (some_step P Q front x y rest f g k)) h

-- ---- what the pass repairs

pub pass_on_among : (spots : List Spot) (found : Option (List ℕ)) (bad all : List Spot) (tried : Tried ℕ) (rest : Pass) → AllByRecursion (Contains spots) bad → AllByRecursion (Contains spots) all → AllByRecursion (Contains spots) rest.repairs → AllByRecursion (Contains spots) (passed_with found bad all tried rest).repairs
pass_on_among spots (Some b) bad all tried rest hb ha hr = hb
pass_on_among spots None bad all tried rest hb ha hr = all_append (Contains spots) all rest.repairs ha hr

-- ---- where a good copy was there

module _ (s : Setting) (sizes : ℕ → ℕ) (plain : RowsArePlain s.rows) (spots : List Spot) (apart : CopiesApart spots) (len : ℕ) (lie : CopiesLie sizes len spots)
    (good : List ℕ → Bool) (before : Images) (mended : List Spot) (bytes : List ℕ) (is_good : good bytes ≡ true) (is_long : length bytes ≡ len) (among : AllByRecursion (Contains spots) mended) (have : HaveSizes sizes before) where
  abbrev put : Spot → Images → Images
  put t images = put_copy s sizes plain bytes t images

  abbrev MayBe : Spot → Result (List ℕ) Errno → Type 0
  MayBe t r = May s spots len good before mended bytes t r

  -- each copy is as it was, or repaired
  pub record IsNow (images : Images) : Type 0 where
    pub sized : HaveSizes sizes images
    pub each : AllByRecursion (λ (t : Spot). MayBe t (judged good (read_leaf s false images len t))) spots

  lies_of : (t : Spot) → Contains spots t → (len ≤ t.span) × (t.at + t.span ≤ sizes t.leaf)
  lies_of t c = all_contains (λ (u : Spot). (len ≤ u.span) × (u.at + u.span ≤ sizes u.leaf)) spots t lie c

  of_mended : (t : Spot) → Contains mended t → Contains spots t
  of_mended t c = all_contains (Contains spots) mended t among c

  judged_bytes : (b : List ℕ) → b ≡ bytes → judged good (Ok b) ≡ Ok bytes
  judged_bytes b e = ap (λ (x : List ℕ). judged good (Ok x)) e ∙ ap (λ (x : Bool). judged_by x bytes) is_good

  -- the bytes of a copy that was stored
  stored_there : (t : Spot) (images : Images) → (len ≤ t.span) × (t.at + t.span ≤ sizes t.leaf) → HaveSizes sizes images → t.leaf < length images → bytes_at (with_bytes images t (padded_to t.span bytes)) t len ≡ bytes
  stored_there t images lies sized there =
      let b : List ℕ = padded_to t.span bytes in
      let room : len ≤ t.span = lies.0 in
      let low : t.at + t.span ≤ sizes t.leaf = lies.1 in
      let fits : t.at + length b ≤ length (image_of images t.leaf) = omega (arith, length-padded_to t.span bytes, sized t.leaf) in
      let enough : len ≤ length b = omega (arith, length-padded_to t.span bytes) in
      let short : length bytes ≤ t.span = omega arith in
      ap (λ (i : List ℕ). take len (drop t.at i)) (image_of_same images t.leaf (overwritten (image_of images t.leaf) t.at b) there)
      ∙ read_written (image_of images t.leaf) b t.at len fits enough
      ∙ ap (λ (n : ℕ). take n b) (sym is_long)
      ∙ front_padded t.span bytes short

  may_read : (t : Spot) (images now : Images) → Contains mended t → MayBe t (judged good (read_leaf s false images len t)) → bytes_at now t len ≡ bytes → MayBe t (judged good (read_leaf s false now len t))
  may_read t images now c old e =
      let h : Option Hit = met s false false t in
      ⊎_elim
      (λ (gives : read_met h t.at (bytes_at now t len) ≡ Ok (bytes_at now t len)). inr (ap (judged good) gives ∙ judged_bytes (bytes_at now t len) e, c))
      (λ (same : read_met h t.at (bytes_at now t len) ≡ read_met h t.at (bytes_at images t len)).
      subst (λ (r : Result (List ℕ) Errno). MayBe t (judged good r)) (sym same) old)
      (read_plain h t.at (bytes_at images t len) (bytes_at now t len) (met_plain s false false t plain))

  may_same : (t : Spot) (images now : Images) → now ≡ images → MayBe t (judged good (read_leaf s false images len t)) → MayBe t (judged good (read_leaf s false now len t))
  may_same t images now e old = subst (λ (i : Images). MayBe t (judged good (read_leaf s false i len t))) (sym e) old

  may_put_itself : (t : Spot) (images : Images) → HaveSizes sizes images → Contains mended t → MayBe t (judged good (read_leaf s false images len t)) → MayBe t (judged good (read_leaf s false (put t images) len t))
  may_put_itself t images sized c old =
      let b : List ℕ = padded_to t.span bytes in
      ⊎_elim
      (λ (stores : (i : Images) → put t i ≡ with_bytes i t b).
      ⊎_elim
      (λ (there : t.leaf < length images).
      may_read t images (put t images) c old
      (ap (λ (i : Images). bytes_at i t len) (stores images) ∙ stored_there t images (lies_of t (of_mended t c)) sized there))
      (λ (past : length images ≤ t.leaf). may_same t images (put t images) (stores images ∙ images_past images t.leaf (overwritten (image_of images t.leaf) t.at b) past) old)
      (cases_lt t.leaf (length images)))
      (λ (leaves : (i : Images) → put t i ≡ i). may_same t images (put t images) (leaves images) old)
      (met_stores (met s false true t) t b (met_plain s false true t plain))

  may_put : (t u : Spot) (images : Images) → HaveSizes sizes images → Contains mended t → Contains spots u → MayBe u (judged good (read_leaf s false images len u)) → MayBe u (judged good (read_leaf s false (put t images) len u))
  may_put t u images sized c cu old =
      ⊎_elim
      (λ (e : t ≡ u).
      subst (λ (x : Spot). MayBe x (judged good (read_leaf s false images len x)) → MayBe x (judged good (read_leaf s false (put t images) len x))) e (may_put_itself t images sized c) old)
      (λ (clear : AreClear t u).
      let lt = lies_of t (of_mended t c) in
      let lu = lies_of u cu in
      let same : read_leaf s false (put t images) len u ≡ read_leaf s false images len u =
      (leaves_commute s sizes).answer (Store false bytes t) (Fetch false len u) images (inr clear) sized (record { room = (omega arith); lies = lt.1 }) (record { room = lu.0; lies = lu.1 }) in
      subst (λ (r : Result (List ℕ) Errno). MayBe u (judged good r)) (sym same) old)
      (apart t u (of_mended t c) cu)

  pub now_put : (t : Spot) (images : Images) → Contains mended t → IsNow images → IsNow (put t images)
  now_put t images c now = record {
    sized = put_sizes s sizes plain bytes t images (lies_of t (of_mended t c)).1 now.sized;
    each = all_put_each spots (all_contained spots) now.each;
  }
    where
      all_put_each : (us : List Spot) → AllByRecursion (Contains spots) us → AllByRecursion (λ (u : Spot). MayBe u (judged good (read_leaf s false images len u))) us → AllByRecursion (λ (u : Spot). MayBe u (judged good (read_leaf s false (put t images) len u))) us
      all_put_each [] h k = tt
      all_put_each (u ∷ us) h k = (may_put t u images now.sized c h.0 k.0, all_put_each us h.1 k.1)

  now_store : (retry : Bool) (b : List ℕ) (t : Spot) (images : Images) → retry ≡ false → b ≡ bytes → Contains mended t → IsNow images → IsNow (on_leaf s (Store retry b t) images).images
  now_store retry b t images e f c now =
      subst (λ (r : Bool). IsNow (on_leaf s (Store r b t) images).images) (sym e)
      (subst (λ (x : List ℕ). IsNow (on_leaf s (Store false x t) images).images) (sym f) (now_put t images c now))

  now_read : (retry : Bool) (n : ℕ) (t : Spot) (images : Images) → retry ≡ false → n ≡ len → Contains spots t → IsNow images → MayBe t (judged good (read_leaf s retry images n t))
  now_read retry n t images e f c now =
      subst (λ (r : Bool). MayBe t (judged good (read_leaf s r images n t))) (sym e)
      (subst (λ (m : ℕ). MayBe t (judged good (read_leaf s false images m t))) (sym f)
      (all_contains (λ (u : Spot). MayBe u (judged good (read_leaf s false images len u))) spots t now.each c))

  -- ---- a reader that only repairs

  abbrev after_all : Images
  after_all = repaired s false bytes mended before

  abbrev target : Done Answer
  target = record { value = Ok bytes; asks = []; images = after_all }

  abbrev OnlyRepairs : Program Answer → Type 0
  OnlyRepairs p = Repairs s spots len good before mended bytes p

  abbrev IsFine : Program Answer → Type 0
  IsFine p = Fine s spots len good before mended bytes p

  abbrev put_behind : Spot → Done Answer → Done Answer
  put_behind t d = record { value = d.value; asks = d.asks; images = put t d.images }

  abbrev PutsBehind : Spot → Images → Program Answer → Type 0
  PutsBehind t images p = run (on_leaf s) p (put t images) ≡ put_behind t (run (on_leaf s) p images)

  store_puts : (t u : Spot) (more : Answer → Program Answer) (images : Images) → Contains mended t → Contains mended u → HaveSizes sizes images → ((v : Answer) → PutsBehind t (put u images) (more v)) → PutsBehind t images (Asks (Store false bytes u) more)
  store_puts t u more images ct cu sized rest =
      let lt = lies_of t (of_mended t ct) in
      let lu = lies_of u (of_mended u cu) in
      let v : Answer = (on_leaf s (Store false bytes u) images).value in
      let value : (on_leaf s (Store false bytes u) (put t images)).value ≡ v = ap answer_of (met_answer (met s false true u) (put t images) images u (padded_to u.span bytes)) in
      let moved : put u (put t images) ≡ put t (put u images) = put_commutes s sizes plain bytes t u images (apart t u (of_mended t ct) (of_mended u cu)) lt.1 lu.1 sized in
      (λ i. run (on_leaf s) (more (value i)) (moved i)) ∙ rest v

  repairs_puts : (t : Spot) (p : Program Answer) (images : Images) → Contains mended t → OnlyRepairs p → HaveSizes sizes images → PutsBehind t images p
  repairs_puts t (Ends a) images ct h sized = refl
  repairs_puts t (Asks (Fetch retry n u) more) images ct h sized = absurd h
  repairs_puts t (Asks (Store retry b u) more) images ct h sized =
      let lu = lies_of u (of_mended u h.2) in
      subst (λ (r : Bool). PutsBehind t images (Asks (Store r b u) more)) (sym h.0)
      (subst (λ (x : List ℕ). PutsBehind t images (Asks (Store false x u) more)) (sym h.1)
      (store_puts t u more images ct h.2 sized
      (λ v. repairs_puts t (more v) (put u images) ct (h.3 v) (put_sizes s sizes plain bytes u images lu.1 sized))))

  -- it ends with all repaired, whatever others repair meanwhile
  abbrev WillMend : Images → Program Answer → Type 0
  WillMend images p = OnlyRepairs p × (run (on_leaf s) p images ≡ target)

  will_still : (t : Spot) (p : Program Answer) (images : Images) → Contains mended t → HaveSizes sizes images → WillMend images p → WillMend (put t images) p
  will_still t p images ct sized h = (
    h.0,
    repairs_puts t p images ct h.0 sized ∙ ap (put_behind t) h.1
        ∙ ap (λ (i : Images). record { value = Ok bytes; asks = []; images = i })
        (put_again s sizes plain bytes spots apart (λ u c. (lies_of u c).1) t mended before ct among have),
  )

  will_store : (retry : Bool) (b : List ℕ) (t : Spot) (p : Program Answer) (images : Images) → retry ≡ false → b ≡ bytes → Contains mended t → HaveSizes sizes images → WillMend images p → WillMend (on_leaf s (Store retry b t) images).images p
  will_store retry b t p images e f ct sized h =
      subst (λ (r : Bool). WillMend (on_leaf s (Store r b t) images).images p) (sym e)
      (subst (λ (x : List ℕ). WillMend (on_leaf s (Store false x t) images).images p) (sym f) (will_still t p images ct sized h))

  -- ---- any order

  abbrev Ended : List Answer → Images → Type 0
  Ended answers after = AllByRecursion (λ (a : Answer). a ≡ Ok bytes) answers × (after ≡ after_all)

  ended_fine : (answers : List Answer) → AllByRecursion IsFine (map (λ (a : Answer). Ends a) answers) → AllByRecursion (λ (a : Answer). a ≡ Ok bytes) answers
  ended_fine answers h = all_unmap IsFine (λ (a : Answer). Ends a) answers h

  ended_mended : (answers : List Answer) (images : Images) → SomeOne (WillMend images) (map (λ (a : Answer). Ends a) answers) → images ≡ after_all
  ended_mended [] images h = absurd h
  ended_mended (a ∷ answers) images h = ⊎_elim (λ will. ap (λ (d : Done Answer). d.images) will.1) (λ later. ended_mended answers images later) h

  -- once someone repairs
  mending : (ps : List (Program Answer)) (images : Images) (answers : List Answer) (after : Images) → Interleaved s ps images answers after → IsNow images → AllByRecursion IsFine ps → SomeOne (WillMend images) ps → Ended answers after
  mending ps images answers after (AllEnd done) now fine some = (ended_fine done fine, ended_mended done images some)
  mending ps images answers after (OneDoes front rest (Fetch retry n t) more x) now fine some =
      let own : IsFine (Asks (Fetch retry n t) more) = (all_rest IsFine front (Asks (Fetch retry n t) more ∷ rest) fine).0 in
      let v : Answer = read_leaf s retry images n t in
      mending (front ++ more v ∷ rest) images answers after x now
      (all_put IsFine front (more v) rest (all_front IsFine front (Asks (Fetch retry n t) more ∷ rest) fine) (own.3 v (now_read retry n t images own.0 own.1 own.2 now)) (all_rest IsFine front (Asks (Fetch retry n t) more ∷ rest) fine).1)
      (some_step (WillMend images) (WillMend images) front (Asks (Fetch retry n t) more) (more v) rest (λ z h. h) (λ h. absurd h.0) some)
  mending ps images answers after (OneDoes front rest (Store retry b t) more x) now fine some =
      let own : OnlyRepairs (Asks (Store retry b t) more) = (all_rest IsFine front (Asks (Store retry b t) more ∷ rest) fine).0 in
      let v : Answer = (on_leaf s (Store retry b t) images).value in
      let next : Images = (on_leaf s (Store retry b t) images).images in
      mending (front ++ more v ∷ rest) next answers after x (now_store retry b t images own.0 own.1 own.2 now)
      (all_put IsFine front (more v) rest (all_front IsFine front (Asks (Store retry b t) more ∷ rest) fine) (repairs_fine s spots len good before mended bytes (more v) (own.3 v)) (all_rest IsFine front (Asks (Store retry b t) more ∷ rest) fine).1)
      (some_step (WillMend images) (WillMend next) front (Asks (Store retry b t) more) (more v) rest (λ z h. will_store retry b t z images own.0 own.1 own.2 now.sized h) (λ h. (own.3 v, h.1)) some)

  -- before anyone does
  abbrev Alone : Images → Program Answer → Type 0
  Alone images p = IsFine p × (run (on_leaf s) p images ≡ target)

  abbrev NotEmpty : List (Program Answer) → Type 0
  NotEmpty [] = ⊥
  NotEmpty (p ∷ ps) = Unit {0}

  not_empty : (front : List (Program Answer)) (p : Program Answer) (rest : List (Program Answer)) → NotEmpty (front ++ p ∷ rest)
  not_empty [] p rest = tt
  not_empty (q ∷ front) p rest = tt

  ended_alone : (answers : List Answer) (images : Images) → NotEmpty (map (λ (a : Answer). Ends a) answers) → AllByRecursion (Alone images) (map (λ (a : Answer). Ends a) answers) → images ≡ after_all
  ended_alone [] images some h = absurd some
  ended_alone (a ∷ answers) images some h = ap (λ (d : Done Answer). d.images) h.0.1

  pub looking : (ps : List (Program Answer)) (images : Images) (answers : List Answer) (after : Images) → Interleaved s ps images answers after → IsNow images → AllByRecursion (Alone images) ps → NotEmpty ps → Ended answers after
  looking ps images answers after (AllEnd done) now alone some =
      (ended_fine done (all_weaker (Alone images) IsFine (map (λ (a : Answer). Ends a) done) (λ p h. h.0) alone), ended_alone done images some alone)
  looking ps images answers after (OneDoes front rest (Fetch retry n t) more x) now alone some =
      let own : Alone images (Asks (Fetch retry n t) more) = (all_rest (Alone images) front (Asks (Fetch retry n t) more ∷ rest) alone).0 in
      let fine : IsFine (Asks (Fetch retry n t) more) = own.0 in
      let v : Answer = read_leaf s retry images n t in
      looking (front ++ more v ∷ rest) images answers after x now
      (all_put (Alone images) front (more v) rest (all_front (Alone images) front (Asks (Fetch retry n t) more ∷ rest) alone)
      (fine.3 v (now_read retry n t images fine.0 fine.1 fine.2 now), own.1) (all_rest (Alone images) front (Asks (Fetch retry n t) more ∷ rest) alone).1)
      (not_empty front (more v) rest)
  looking ps images answers after (OneDoes front rest (Store retry b t) more x) now alone some =
      let own : Alone images (Asks (Store retry b t) more) = (all_rest (Alone images) front (Asks (Store retry b t) more ∷ rest) alone).0 in
      let repairs : OnlyRepairs (Asks (Store retry b t) more) = own.0 in
      let v : Answer = (on_leaf s (Store retry b t) images).value in
      let next : Images = (on_leaf s (Store retry b t) images).images in
      let fine : AllByRecursion IsFine (front ++ Asks (Store retry b t) more ∷ rest) = all_weaker (Alone images) IsFine (front ++ Asks (Store retry b t) more ∷ rest) (λ p h. h.0) alone in
      mending (front ++ more v ∷ rest) next answers after x (now_store retry b t images repairs.0 repairs.1 repairs.2 now)
      (all_put IsFine front (more v) rest (all_front IsFine front (Asks (Store retry b t) more ∷ rest) fine) (repairs_fine s spots len good before mended bytes (more v) (repairs.3 v)) (all_rest IsFine front (Asks (Store retry b t) more ∷ rest) fine).1)
      (some_here (WillMend next) front (more v) rest (repairs.3 v, own.1))

  pub now_before : IsNow before
  now_before = record { sized = have; each = each_before spots }
    where
      each_before : (us : List Spot) → AllByRecursion (λ (t : Spot). MayBe t (judged good (read_leaf s false before len t))) us
      each_before [] = tt
      each_before (u ∷ us) = (inl refl, each_before us)
