-- What a crash may leave has a good copy of each piece that had one.
use Rattle.std.proofs.Common.{◌≡◌, ℕ, ◌+◌, ◌*◌, ◌<◌, ◌≤◌, List, [], ◌∷◌, ◌++◌, false, Option, Some, None, IfSome, IsTrue, Contains, ◌⊎◌, ⊎_elim, sym, subst, arith}
use Rattle.std.proofs.lemmas.List.Elements.{Contains-append_cases}
use Rattle.std.specs.List.{AllByRecursion, flat_map}
use Rattle.zio_types.specs.declared.place.Place.{Place}
use Rattle.zio_types.specs.Places.{is_inside, meets, sector_size}
use Rattle.zio_blkptr.specs.Pointers.{places_of}
use Rattle.zio_cksum.specs.Blocks.{spot_in}
use Rattle.zio_cksum.specs.Frames.{spots_of}
use Rattle.zio_cksum.specs.Images.{Images, Setting, Spot}
use Rattle.zio_cksum.proofs.AllLemmas.{all_append, all_contained, all_contains, all_weaker}
use Rattle.zio_gang.specs.declared.tree.Tree.{Tree}
use Rattle.zio_gang.specs.Attempts.{Pending, Terms}
use Rattle.zio_gang.specs.Pieces.{Piece, pieces_of}
use Rattle.zio_gang.specs.Trees.{sizes_of, tree_places}
use Rattle.zio_trace.specs.BlockCopies.{Copies, copies_of}
use Rattle.zio_trace.specs.Families.{Forest, flat}
use Rattle.zio_trace.specs.Labels.{Labelled}
use Rattle.zio_trace.specs.Leaves.{AreClear, Fetch, HaveSizes, Store}
use Rattle.zio_trace.specs.Programs.{Deed}
use Rattle.zio_trace.specs.Separate.{HaveRoomFor, IsSoundBlock, NoneMeet}
use Rattle.zio_trace.specs.SoundRounds.{IsSoundRound, work_of}
use Rattle.zio_trace.specs.Stopped.{places_named, places_of_block, places_taken, spots_touched}
use Rattle.zio_trace.specs.Tasks.{Leaf, Task, Value, good_by}
use Rattle.zio_trace.specs.Underway.{Flight, IsUnderway, State}
use Rattle.zio_trace.proofs.ChoiceLemmas.{IsPlaced, one_contained}
use Rattle.zio_trace.proofs.CopiesLemmas.{copies_follow}
use Rattle.zio_trace.proofs.DoneWithin.{taken_placed}
use Rattle.zio_trace.proofs.PairLemmas.{contains_flat}
use Rattle.zio_trace.proofs.PlaceLemmas.{DontMeet, inside_dont}
use Rattle.zio_trace.proofs.SeparateLemmas.{copies_places}
use Rattle.zio_trace.proofs.SoundLemmas.{OwnBlock, block_of, own_of}
use Rattle.zio_trace.proofs.SpotLemmas.{IsCopy, dont_turned, is_copy, places_clear}
use Rattle.zio_spared.specs.Crashes.{HasUnwritten, MayBeLeft, spots_written, written_by}
use Rattle.zio_spared.specs.Spared.{HasGood, HasSpared, IsGoodIn, IsNamedPiece, IsSpared, KeepsCopy, NoFlips, StoresClear}
use Rattle.zio_spared.proofs.KeptBytes.{in_one, kept_there}
use Rattle.zio_spared.proofs.RoundSpares.{has_spared, keeps_copy}
use Rattle.zio_spared.proofs.WritesWithin.{all_written, writes_within}

-- each copy has room for the bytes
room_of : (s : Setting) (len : ℕ) (ps : List Place) (spot : Spot) → HaveRoomFor len ps → Contains (spots_of s ps) spot → len ≤ spot.span
room_of s len ps spot room c =
    let copy : IsCopy s ps spot = is_copy s ps spot c in
    subst (λ (u : Spot). len ≤ u.span) copy.is (all_contains (λ (p : Place). len ≤ p.sectors * sector_size) ps copy.place room copy.listed)

piece_room : (tree : Tree) (c : Copies) → AllByRecursion (λ (x : Piece). HaveRoomFor x.size (places_of x.pointer)) (pieces_of tree) → Contains (copies_of tree) c → HaveRoomFor c.len c.places
piece_room tree c room is = all_contains (λ (d : Copies). HaveRoomFor d.len d.places) (copies_of tree) c (copies_follow HaveRoomFor tree room) is

-- a good copy that nothing wrote to is left
left_good : (s : Setting) (before after : Images) (now : State) (c : Copies) (spot : Spot) → Contains (spots_of s c.places) spot → HaveRoomFor c.len c.places → AllByRecursion (AreClear spot) (spots_written now) → MayBeLeft before now after
    → IsGoodIn before c spot → HasGood s after c
left_good s before after now c spot listed room clear left good = record {
  spot = spot;
  listed = listed;
  good =
      subst (λ (b : List ℕ). IsTrue (good_by c.test b)) (sym (kept_there (spots_written now) before after spot c.len left clear (room_of s c.len c.places spot room listed)))
      good;
}

-- ---- pieces that the round names

clear_written : (spot : Spot) (task : Task) → StoresClear spot task → AllByRecursion (AreClear spot) (written_by task)
clear_written spot (Leaf (Store retry bytes u)) h = (h, tt)
clear_written spot (Leaf (Fetch retry n u)) h = tt
clear_written spot _ h = tt

-- all writes are clear of a copy that is spared
spared_clear : (before : Images) (c : Copies) (spot : Spot) (s : State) → IsSpared before c spot s → AllByRecursion (AreClear spot) (spots_written s)
spared_clear before c spot s h =
    all_append (AreClear spot) (flat_map (λ (d : Deed (Labelled Task) Value). written_by d.op.op) s.deeds) (flat_map (λ (x : Flight). written_by x.op.op) s.flights)
    (all_written (AreClear spot) (λ (d : Deed (Labelled Task) Value). written_by d.op.op) s.deeds
    (all_weaker (λ (d : Deed (Labelled Task) Value). StoresClear spot d.op.op) (λ (d : Deed (Labelled Task) Value). AllByRecursion (AreClear spot) (written_by d.op.op)) s.deeds (λ d k. clear_written spot d.op.op k) h.deeds))
    (all_written (AreClear spot) (λ (x : Flight). written_by x.op.op) s.flights
    (all_weaker (λ (x : Flight). StoresClear spot x.op.op) (λ (x : Flight). AllByRecursion (AreClear spot) (written_by x.op.op)) s.flights (λ x k. clear_written spot x.op.op k) h.flights))

pub named_survive : (t : Terms) (sizes : ℕ → ℕ) (f : Forest) (before after : Images) (s : State) (c : Copies) → IsSoundRound t sizes f → HaveSizes sizes before → NoFlips t.setting.rows → IsUnderway (work_of t sizes f) (Some before) s → IsNamedPiece f c
    → MayBeLeft before s after → HasGood t.setting before c → HasGood t.setting after c
named_survive t sizes f before after s c round have flips under named left good =
    let one : HasSpared t.setting before c s = has_spared t sizes f before c round have flips named good s under in
    left_good t.setting before after s c one.spot one.listed (piece_room named.tree c (own_of t sizes f round named.named.0 named.tree named.named.1 named.named.2).sound.room named.piece)
    (spared_clear before c one.spot s one.spared) left one.good

-- of the one that is spared throughout no byte is written
pub named_unwritten : (t : Terms) (sizes : ℕ → ℕ) (f : Forest) (before : Images) (c : Copies) → IsSoundRound t sizes f → HaveSizes sizes before → NoFlips t.setting.rows → IsNamedPiece f c → HasGood t.setting before c
    → HasUnwritten t sizes f (Some before) before c
named_unwritten t sizes f before c round have flips named good =
    let one : KeepsCopy t sizes f before c = keeps_copy t sizes f before c round have flips named good in
    let room : c.len ≤ one.spot.span = room_of t.setting c.len c.places one.spot (piece_room named.tree c (own_of t sizes f round named.named.0 named.tree named.named.1 named.named.2).sound.room named.piece) one.listed in record {
      spot = one.spot;
      listed = one.listed;
      good = one.good;
      unwritten = λ at from below w.
          in_one one.spot w.written.spot at
          (all_contains (AreClear one.spot) (spots_written w.moment) w.written.spot (spared_clear before c one.spot w.moment (one.spared w.moment w.under)) w.written.listed)
          w.written.same_leaf from (omega (arith, room, below)) w.written.from w.written.below;
    }

-- ---- others in use

module _ (t : Terms) (sizes : ℕ → ℕ) (f : Forest) (round : IsSoundRound t sizes f) (told : Option Images) (s : State) (under : IsUnderway (work_of t sizes f) told s) (tree : Tree) (block : IsSoundBlock (sizes_of t.setting.tops) t.used tree)
    (none : NoneMeet (tree_places tree) (places_named f)) where
  abbrev Inside : Place → Type 0
  Inside p = IsTrue (is_inside (sizes_of t.setting.tops) p)

  block_inside : (b : Option Tree) (q : Place) → IfSome b (OwnBlock t sizes f round) → Contains (places_of_block b) q → Inside q
  block_inside None q own c = absurd (all_contains (λ (x : Place). ⊥) [] q tt c)
  block_inside (Some x) q own c =
      let one : (y : Tree) × Contains (x ∷ []) y × Contains (tree_places y) q = contains_flat tree_places (x ∷ []) q c in
      all_contains Inside (tree_places x) q own.sound.inside (subst (λ (y : Tree). Contains (tree_places y) q) (sym (one_contained x one.0 one.1)) one.2)

  named_inside : (q : Place) → Contains (places_named f) q → Inside q
  named_inside q c =
      let one : (x : Pending) × Contains (flat f) x × Contains (places_of_block x.block) q = contains_flat (λ (x : Pending). places_of_block x.block) (flat f) q c in
      block_inside one.0.block q (block_of t sizes f round one.0 one.1) one.2

  apart : (p q : Place) → Contains (tree_places tree) p → Contains (places_named f) q ⊎ Contains (places_taken s.entries) q → DontMeet p q
  apart p q cp there =
      let inside : Inside p = all_contains Inside (tree_places tree) p block.inside cp in
      ⊎_elim
      (λ (c : Contains (places_named f) q).
      inside_dont t.setting p q inside (named_inside q c)
      (all_contains (λ (r : Place). meets p r ≡ false) (places_named f) q (all_contains (λ (r : Place). AllByRecursion (λ (o : Place). meets r o ≡ false) (places_named f)) (tree_places tree) p none cp) c))
      (λ (c : Contains (places_taken s.entries) q).
      let placed : IsPlaced (sizes_of t.setting.tops) t.used q = taken_placed (work_of t sizes f) told s q under c in
      dont_turned q p
      (inside_dont t.setting q p placed.1 inside
      (all_contains (λ (r : Place). meets q r ≡ false) t.used p placed.0 (all_contains (Contains t.used) (tree_places tree) p block.in_use cp))))
      there

  untouched : (c : Copies) → Contains (copies_of tree) c → (spot : Spot) → Contains (spots_of t.setting c.places) spot → AllByRecursion (AreClear spot) (spots_written s)
  untouched c is spot listed =
      let copy : IsCopy t.setting c.places spot = is_copy t.setting c.places spot listed in
      let there : Contains (tree_places tree) copy.place =
      all_contains (Contains (tree_places tree)) c.places copy.place (copies_places (Contains (tree_places tree)) tree c (all_contained (tree_places tree)) is) copy.listed in
      all_weaker (Contains (spots_touched t f s.entries)) (AreClear spot) (spots_written s)
      (λ u cu.
      let other : IsCopy t.setting (places_named f ++ places_taken s.entries) u = is_copy t.setting (places_named f ++ places_taken s.entries) u cu in
      subst (λ (x : Spot). AreClear x u) copy.is
      (subst (AreClear (spot_in copy.place copy.leaf)) other.is
      (places_clear t.setting round.once copy.place other.place copy.leaf other.leaf copy.mirrored other.mirrored
      (apart copy.place other.place there (Contains-append_cases (places_named f) (places_taken s.entries) other.place other.listed)))))
      (writes_within t sizes f told s under)

pub others_survive : (t : Terms) (sizes : ℕ → ℕ) (f : Forest) (told : Option Images) (before after : Images) (s : State) (tree : Tree) (c : Copies) → IsSoundRound t sizes f → IsUnderway (work_of t sizes f) told s → IsSoundBlock (sizes_of t.setting.tops) t.used tree
    → NoneMeet (tree_places tree) (places_named f) → Contains (copies_of tree) c → MayBeLeft before s after → HasGood t.setting before c → HasGood t.setting after c
others_survive t sizes f told before after s tree c round under block none is left good =
    left_good t.setting before after s c good.spot good.listed (piece_room tree c block.room is) (untouched t sizes f round told s under tree block none c is good.spot good.listed) left good.good

-- of none of its copies a byte is written
pub others_unwritten : (t : Terms) (sizes : ℕ → ℕ) (f : Forest) (told : Option Images) (before : Images) (tree : Tree) (c : Copies) → IsSoundRound t sizes f → IsSoundBlock (sizes_of t.setting.tops) t.used tree
    → NoneMeet (tree_places tree) (places_named f) → Contains (copies_of tree) c → HasGood t.setting before c → HasUnwritten t sizes f told before c
others_unwritten t sizes f told before tree c round block none is good =
    let room : c.len ≤ good.spot.span = room_of t.setting c.len c.places good.spot (piece_room tree c block.room is) good.listed in record {
      spot = good.spot;
      listed = good.listed;
      good = good.good;
      unwritten = λ at from below w.
          in_one good.spot w.written.spot at
          (all_contains (AreClear good.spot) (spots_written w.moment) w.written.spot (untouched t sizes f round told w.moment w.under tree block none c is good.spot good.listed) w.written.listed)
          w.written.same_leaf from (omega (arith, room, below)) w.written.from w.written.below;
    }
