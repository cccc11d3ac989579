-- A piece that a trace wrote is held after it, and what was given last for its places are its bytes.
use Rattle.std.proofs.Common.{◌≡◌, ◌≢◌, ℕ, ◌+◌, ◌*◌, ◌≤◌, ◌<◌, List, [], ◌∷◌, ◌++◌, length, map, slice_get, Bool, true, false, if◌then◌else◌, Option, Some, None, IsTrue, Contains, ◌⊎◌, inl, inr, ⊎_elim, refl, sym, ap, ◌∙◌, subst, arith}
use Rattle.std.proofs.lemmas.Bool.{cases_Bool}
use Rattle.std.specs.Cmp.Lexicographic.{pointwise, pointwise_decides}
use Rattle.std.specs.List.{AllByRecursion}
use Rattle.zio_types.specs.declared.place.Place.{Place}
use Rattle.zio_types.specs.Choices.{Choice}
use Rattle.zio_types.specs.Places.{end_of, is_inside}
use Rattle.zio_places.specs.Ordered.{is_same_place}
use Rattle.zio_places.proofs.PlaceLemmas.{is_same_place-refl, is_same_place-true}
use Rattle.zio_cksum.specs.Frames.{FitSpots, HaveRoom, spots_of}
use Rattle.zio_cksum.specs.Images.{Images, Setting, Spot, image_of}
use Rattle.zio_cksum.proofs.AllLemmas.{all_contains, all_true, all_weaker}
use Rattle.zio_cksum.proofs.WriteLemmas.{writes_law}
use Rattle.zio_gang.specs.Attempts.{Terms}
use Rattle.zio_gang.specs.Trees.{sizes_of}
use Rattle.zio_trace.specs.BlockCopies.{Copies}
use Rattle.zio_trace.specs.Leaves.{AreClear, HaveSizes}
use Rattle.zio_trace.specs.Programs.{Deed, Happen}
use Rattle.zio_trace.specs.Readers.{CopiesApart}
use Rattle.zio_trace.specs.RoundTraces.{Trace}
use Rattle.zio_trace.specs.RunTraces.{in_round}
use Rattle.zio_trace.specs.Tasks.{Find, Task, Value, WriteCopies, Wrote, means}
use Rattle.zio_trace.proofs.ListLemmas.{all_rest, contains_first}
use Rattle.zio_trace.proofs.PairLemmas.{all_of, pairs_two}
use Rattle.zio_trace.proofs.PlaceLemmas.{DontMeet, SpotLies, below_sectors, spots_lie}
use Rattle.zio_trace.proofs.ProgramLemmas.{happen_apart}
use Rattle.zio_trace.proofs.SpotLemmas.{AllInside, NoneTouch, clear_turned, own_spots, spots_clear}
use Rattle.zio_heal.specs.Contents.{IsHeld}
use Rattle.zio_heal.specs.Copies.{AreElsewhere, HasCopy, StoresAsGiven}
use Rattle.zio_heal.specs.Given.{Deeds, given_after, given_by, given_in}
use Rattle.zio_heal.specs.Pools.{IsPool}
use Rattle.zio_heal.specs.Spared.{LieOn, SparesBy}
use Rattle.zio_heal.proofs.SparedLemmas.{written_law}
use Rattle.zio_heal.proofs.WrittenPieces.{AllWriteAt, AreUsable, IsWrittenIn, WritesAt}

-- ---- places of a pool

module _ (s : Setting) (sizes : ℕ → ℕ) (pool : IsPool sizes s.tops) where
  -- places inside their tops lie on the leaves
  pub lie_on : (ps : List Place) → AllInside s ps → LieOn sizes (spots_of s ps)
  lie_on ps inside =
      all_weaker (SpotLies sizes 0) (λ (t : Spot). t.at + t.span ≤ sizes t.leaf) (spots_of s ps) (λ t h. h.1)
      (spots_lie s sizes 0 ps pool.hold inside (all_true (λ (p : Place). 0 ≤ p.sectors * 512) ps (λ p. omega arith)))

  pub have_room : (len : ℕ) (ps : List Place) → AreUsable s len ps → HaveRoom len (spots_of s ps)
  have_room len ps h =
      all_weaker (SpotLies sizes len) (λ (t : Spot). len ≤ t.span) (spots_of s ps) (λ t k. k.0) (spots_lie s sizes len ps pool.hold h.inside h.room)

  pub copies_apart : (len : ℕ) (ps : List Place) → AreUsable s len ps → CopiesApart (spots_of s ps)
  copies_apart len ps h t u ct cu =
      ⊎_elim
      (λ (e : t ≡ u). inl e)
      (λ (either : AreClear t u ⊎ AreClear u t). inr (⊎_elim (λ (a : AreClear t u). a) (λ (b : AreClear u t). clear_turned u t b) either))
      (pairs_two AreClear (spots_of s ps) t u (own_spots s ps pool.once pool.twice h.own) ct cu)

  -- copies at places that don't touch
  pub elsewhere : (ps qs : List Place) → NoneTouch ps qs → AreElsewhere (spots_of s ps) (spots_of s qs)
  elsewhere ps qs none =
      all_of (λ (t : Spot). AllByRecursion (AreClear t) (spots_of s qs)) (spots_of s ps)
      (λ t ct. all_of (AreClear t) (spots_of s qs) (λ u cu. spots_clear s ps qs t u pool.once none ct cu))

-- ---- deeds that only write

both_at : (P Q : List Place → Type 0) (o : Task) → WritesAt P o → WritesAt Q o → WritesAt (λ (qs : List Place). P qs × Q qs) o
both_at P Q (WriteCopies bytes places) h k = (h, k)
both_at P Q (Find ask) h k = tt
both_at P Q _ h k = absurd h

all_both : (P Q : List Place → Type 0) (ds : Trace) → AllWriteAt P ds → AllWriteAt Q ds → AllWriteAt (λ (qs : List Place). P qs × Q qs) ds
all_both P Q [] h k = tt
all_both P Q (d ∷ ds) h k = (both_at P Q d.op h.0 k.0, all_both P Q ds h.1 k.1)

module _ (journal : List Choice) (t : Terms) (sizes : ℕ → ℕ) (pool : IsPool sizes t.setting.tops) where
  fits : (ps : List Place) (images : Images) → AllInside t.setting ps → HaveSizes sizes images → FitSpots (spots_of t.setting ps) images
  fits ps images inside have =
      all_weaker (λ (u : Spot). u.at + u.span ≤ sizes u.leaf) (λ (u : Spot). u.at + u.span ≤ length (image_of images u.leaf)) (spots_of t.setting ps)
      (λ u on. let is : length (image_of images u.leaf) ≡ sizes u.leaf = have u.leaf in omega arith) (lie_on t.setting sizes pool ps inside)

  sized_after : (o : Task) (images : Images) → WritesAt (AllInside t.setting) o → HaveSizes sizes images → HaveSizes sizes (means journal t o images).images
  sized_after (WriteCopies bytes places) images inside have = λ leaf. (writes_law t.setting bytes places images (fits places images inside have)).sizes leaf ∙ have leaf
  sized_after (Find ask) images inside have = have
  sized_after _ images inside have = absurd inside

  -- writes inside the tops keep the leaves' sizes
  pub all_sized : (ds : Trace) (before after : Images) → AllWriteAt (AllInside t.setting) ds → Happen (means journal t) ds before after → HaveSizes sizes before → HaveSizes sizes after
  all_sized [] before after inside happen have = subst (HaveSizes sizes) happen have
  all_sized (d ∷ ds) before after inside happen have =
      all_sized ds (means journal t d.op before).images after inside.1 happen.1 (sized_after d.op before inside.0 have)

  spare : (ps : List Place) (bytes : List ℕ) (o : Task) (v : Value) → WritesAt (λ (qs : List Place). NoneTouch ps qs × AllInside t.setting qs) o → SparesBy sizes t.setting (spots_of t.setting ps) bytes o v
  spare ps bytes (WriteCopies given qs) v h = (lie_on t.setting sizes pool qs h.1, elsewhere t.setting sizes pool ps qs h.0)
  spare ps bytes (Find ask) v h = tt
  spare ps bytes _ v h = absurd h

  -- writes at other places spare a copy
  pub all_spare : (ps : List Place) (bytes : List ℕ) (ds : Trace) → AllWriteAt (NoneTouch ps) ds → AllWriteAt (AllInside t.setting) ds
      → AllByRecursion (λ (d : Deed Task Value). SparesBy sizes t.setting (spots_of t.setting ps) bytes d.op d.answer) ds
  all_spare ps bytes ds none inside =
      all_weaker (λ (d : Deed Task Value). WritesAt (λ (qs : List Place). NoneTouch ps qs × AllInside t.setting qs) d.op) (λ (d : Deed Task Value). SparesBy sizes t.setting (spots_of t.setting ps) bytes d.op d.answer) ds
      (λ d h. spare ps bytes d.op d.answer h) (all_both (NoneTouch ps) (AllInside t.setting) ds none inside)

  -- ---- a piece that was written is held

  held_at : (ps : List Place) (len : ℕ) (bytes : List ℕ) (rest : Trace) (before after : Images) → StoresAsGiven t.setting → 1 ≤ length ps → AreUsable t.setting len ps → length bytes ≡ len → AllWriteAt (NoneTouch ps) rest → AllWriteAt (AllInside t.setting) rest
      → HaveSizes sizes before → Happen (means journal t) (record { op = WriteCopies bytes ps; answer = Wrote None } ∷ rest) before after → HasCopy (spots_of t.setting ps) bytes after
  held_at [] len bytes rest before after given some usable long none inside have happen = absurd (omega arith)
  held_at (p ∷ ps) len bytes rest before after given some usable long none inside have happen =
      written_law journal t sizes bytes p ps rest before after given have
      (lie_on t.setting sizes pool (p ∷ ps) usable.inside)
      (subst (λ (n : ℕ). HaveRoom n (spots_of t.setting (p ∷ ps))) (sym long) (have_room t.setting sizes pool len (p ∷ ps) usable))
      (copies_apart t.setting sizes pool len (p ∷ ps) usable) happen (all_spare (p ∷ ps) bytes rest none inside)

  pub is_held : (At : List Place → Type 0) (ds : Trace) (before after : Images) (c : Copies) (bytes : List ℕ) → StoresAsGiven t.setting → AllWriteAt (AllInside t.setting) ds → HaveSizes sizes before → Happen (means journal t) ds before after
      → IsWrittenIn t At ds c bytes → IsHeld t.setting after c bytes
  is_held At ds before after c bytes given inside have happen h =
      let d : Deed Task Value = record { op = WriteCopies bytes c.places; answer = Wrote None } in
      let all : AllWriteAt (AllInside t.setting) (h.front ++ d ∷ h.rest) = subst (AllWriteAt (AllInside t.setting)) h.is inside in
      let cut = happen_apart (means journal t) h.front (d ∷ h.rest) before after (subst (λ (xs : Trace). Happen (means journal t) xs before after) h.is happen) in
      let later = all_rest (λ (x : Deed Task Value). WritesAt (AllInside t.setting) x.op) h.front (d ∷ h.rest) all in
      record {
        is_good = h.is_good;
        copy =
            held_at c.places c.len bytes h.rest cut.0 after given h.some h.usable h.is_good.size h.later later.1
            (all_sized h.front before cut.0 (all_front_of h.front (d ∷ h.rest) all) cut.1 have) cut.2;
      }
    where
      all_front_of : (xs ys : Trace) → AllWriteAt (AllInside t.setting) (xs ++ ys) → AllWriteAt (AllInside t.setting) xs
      all_front_of [] ys k = tt
      all_front_of (x ∷ xs) ys k = (k.0, all_front_of xs ys k.1)

-- ---- and was given last

same_place_decides : (p q : Place) → (is_same_place p q ≡ true → p ≡ q) × (p ≡ q → is_same_place p q ≡ true)
same_place_decides p q = ((λ e. is_same_place-true p q e), λ e. subst (λ (x : Place). is_same_place p x ≡ true) e (is_same_place-refl p))

-- a place that has sectors touches itself
touches_itself : (p : Place) → 0 < p.sectors → DontMeet p p → ⊥
touches_itself p some h =
    ⊎_elim
    (λ (ne : p.top ≢ p.top). ne refl)
    (λ (far : (end_of p ≤ p.sector) ⊎ (end_of p ≤ p.sector)). ⊎_elim (λ (a : end_of p ≤ p.sector). absurd (omega arith)) (λ (a : end_of p ≤ p.sector). absurd (omega arith)) far)
    h

-- copies at some place don't touch themselves
some_touch : (s : Setting) (ps : List Place) (p : Place) → Contains ps p → AllInside s ps → NoneTouch ps ps → ⊥
some_touch s ps p listed inside none =
    touches_itself p (below_sectors p (slice_get (sizes_of s.tops) p.top) (all_contains (λ (q : Place). IsTrue (is_inside (sizes_of s.tops) q)) ps p inside listed)).0 (none p p listed listed)

pub other_places : (s : Setting) (ps qs : List Place) (p : Place) → Contains ps p → AllInside s ps → NoneTouch ps qs → pointwise is_same_place qs ps ≡ false
other_places s ps qs p listed inside none =
    ⊎_elim
    (λ (same : pointwise is_same_place qs ps ≡ true).
    absurd (some_touch s ps p listed inside (subst (NoneTouch ps) ((pointwise_decides same_place_decides qs ps).0 same) none)))
    (λ (no : pointwise is_same_place qs ps ≡ false). no)
    (cases_Bool (pointwise is_same_place qs ps))

-- there is a first one
first_place : (ps : List Place) → 1 ≤ length ps → (p : Place) × Contains ps p
first_place [] some = absurd (omega arith)
first_place (p ∷ ps) some = (p, contains_first p ps)

given_still : (s : Setting) (ps : List Place) (p : Place) (before : Option (List ℕ)) (o : Task) → Contains ps p → AllInside s ps → WritesAt (NoneTouch ps) o → given_by o ps before ≡ before
given_still s ps p before (WriteCopies bytes qs) listed inside none =
    ap (λ (b : Bool). if b then Some bytes else before) (other_places s ps qs p listed inside none)
given_still s ps p before (Find ask) listed inside none = refl
given_still s ps p before _ listed inside none = absurd none

still_given : (t : Terms) (ps : List Place) (p : Place) (before : Option (List ℕ)) (ds : Trace) → Contains ps p → AllInside t.setting ps → AllWriteAt (NoneTouch ps) ds → given_after before (map (in_round t) ds) ps ≡ before
still_given t ps p before [] listed inside none = refl
still_given t ps p before (d ∷ ds) listed inside none =
    ap (λ (b : Option (List ℕ)). given_after b (map (in_round t) ds) ps) (given_still t.setting ps p before d.op listed inside none.0)
    ∙ still_given t ps p before ds listed inside none.1

pub given_front : (t : Terms) (before : Option (List ℕ)) (xs ys : Trace) (ps : List Place) → given_after before (map (in_round t) (xs ++ ys)) ps ≡ given_after (given_after before (map (in_round t) xs) ps) (map (in_round t) ys) ps
given_front t before [] ys ps = refl
given_front t before (x ∷ xs) ys ps = given_front t (given_by x.op ps before) xs ys ps

-- what was given behind some deeds
pub given_behind : (xs ys : Deeds) (ps : List Place) → given_in (xs ++ ys) ps ≡ given_after (given_in xs ps) ys ps
given_behind xs ys ps = behind None xs
  where
    behind : (b : Option (List ℕ)) (zs : Deeds) → given_after b (zs ++ ys) ps ≡ given_after (given_after b zs ps) ys ps
    behind b [] = refl
    behind b (z ∷ zs) = behind (given_by z.op.task ps b) zs

given_itself : (before : Option (List ℕ)) (bytes : List ℕ) (ps : List Place) → given_by (WriteCopies bytes ps) ps before ≡ Some bytes
given_itself before bytes ps = ap (λ (b : Bool). if b then Some bytes else before) ((pointwise_decides same_place_decides ps ps).1 refl)

-- what was given last for the places of a piece that was written
pub is_given : (t : Terms) (At : List Place → Type 0) (ds : Trace) (c : Copies) (bytes : List ℕ) (before : Option (List ℕ)) → IsWrittenIn t At ds c bytes → given_after before (map (in_round t) ds) c.places ≡ Some bytes
is_given t At ds c bytes before h =
    let d : Deed Task Value = record { op = WriteCopies bytes c.places; answer = Wrote None } in
    let first : (p : Place) × Contains c.places p = first_place c.places h.some in
    ap (λ (xs : Trace). given_after before (map (in_round t) xs) c.places) h.is
    ∙ given_front t before h.front (d ∷ h.rest) c.places
    ∙ ap (λ (b : Option (List ℕ)). given_after b (map (in_round t) h.rest) c.places) (given_itself (given_after before (map (in_round t) h.front) c.places) bytes c.places)
    ∙ still_given t c.places first.0 (Some bytes) h.rest first.1 h.usable.inside h.later
