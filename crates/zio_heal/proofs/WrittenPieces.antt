-- Pieces that a write's trace wrote: where their places were found, and that what follows leaves them alone.
use Rattle.std.proofs.Common.{◌≡◌, ◌≢◌, ℕ, ◌%◌, ◌≤◌, List, [], ◌∷◌, ◌++◌, length, false, Some, None, IsTrue, ⊎_elim, sym, ap, ◌∙◌, append_assoc}
use Rattle.std.specs.List.{AllByRecursion}
use Rattle.zio_types.specs.declared.place.Place.{Place}
use Rattle.zio_types.specs.Choices.{Ask, Choice}
use Rattle.zio_types.specs.Places.{is_inside, meets}
use Rattle.zio_cksum.specs.Images.{Setting}
use Rattle.zio_cksum.proofs.AllLemmas.{all_append, all_contains, all_weaker}
use Rattle.zio_gang.specs.Attempts.{Pending, Terms}
use Rattle.zio_gang.specs.Trees.{sizes_of}
use Rattle.zio_gang.specs.Writes.{chosen}
use Rattle.zio_trace.specs.BlockCopies.{Copies}
use Rattle.zio_trace.specs.Programs.{Deed}
use Rattle.zio_trace.specs.RoundTraces.{Trace}
use Rattle.zio_trace.specs.Separate.{HaveRoomFor}
use Rattle.zio_trace.specs.Tasks.{Find, Task, Value, WriteCopies, Wrote}
use Rattle.zio_trace.specs.TreeOrders.{Pairs}
use Rattle.zio_trace.proofs.ChoiceLemmas.{Answers, IsPlaced, MeetsNone, chosen_apart, chosen_own, chosen_placed}
use Rattle.zio_trace.proofs.PairLemmas.{pairs_stronger}
use Rattle.zio_trace.proofs.PathLemmas.{SameParts}
use Rattle.zio_trace.proofs.PlaceLemmas.{DontMeet, inside_dont}
use Rattle.zio_trace.proofs.SpotLemmas.{AllInside, NoneTouch, dont_turned, none_touch, touch_turned}
use Rattle.zio_heal.specs.Contents.{IsGood}
use Rattle.zio_heal.specs.Pools.{IsPool}
use Rattle.zio_heal.proofs.PointerLemmas.{AreFound, found_for, room_for}

-- ---- where places were found

-- The places were found for an ask of this request, for the part at this path or one below it.
pub record IsAt (journal : List Choice) (t : Terms) (p : Pending) (path : List ℕ) (places : List Place) : Type 0 where
  pub ask : Ask
  pub below : List ℕ
  pub request : ask.key.request ≡ p.request.number
  pub now : ask.key.round ≡ t.round
  pub at : ask.key.path ≡ path ++ below
  pub found : chosen journal ask ≡ Some places

-- the same for a member from this number on
pub record AtMember (journal : List Choice) (t : Terms) (p : Pending) (path : List ℕ) (n : ℕ) (places : List Place) : Type 0 where
  pub number : ℕ
  pub from : n ≤ number
  pub there : IsAt journal t p (path ++ number ∷ []) places

-- a member's places are below its gang
pub member_at : (journal : List Choice) (t : Terms) (p : Pending) (path : List ℕ) (n : ℕ) (places : List Place) → AtMember journal t p path n places → IsAt journal t p path places
member_at journal t p path n places h =
    let a : IsAt journal t p (path ++ h.number ∷ []) places = h.there in
    record {
      ask = a.ask;
      below = h.number ∷ a.below;
      request = a.request;
      now = a.now;
      at = a.at ∙ append_assoc path (h.number ∷ []) a.below;
      found = a.found;
    }

-- Places that copies of so many bytes may have: inside their tops, with room, and none touches another.
pub record AreUsable (s : Setting) (len : ℕ) (places : List Place) : Type 0 where
  pub inside : AllInside s places
  pub own : Pairs DontMeet places
  pub room : HaveRoomFor len places

-- Places for different parts don't touch.
module _ (journal : List Choice) (t : Terms) (sizes : ℕ → ℕ) (pool : IsPool sizes t.setting.tops) (answers : Answers journal (sizes_of t.setting.tops) t.used t.round) where
  pub found_inside : (ask : Ask) (places : List Place) → ask.key.round ≡ t.round → chosen journal ask ≡ Some places → AllInside t.setting places
  found_inside ask places now found =
      all_weaker (IsPlaced (sizes_of t.setting.tops) t.used) (λ (q : Place). IsTrue (is_inside (sizes_of t.setting.tops) q)) places (λ q k. k.1)
      (chosen_placed journal (sizes_of t.setting.tops) t.used t.round answers ask places now found)

  -- places for copies of whole sectors
  pub found_usable : (ask : Ask) (places : List Place) → ask.key.round ≡ t.round → 1 ≤ ask.copies → ask.copies ≤ 3 → ask.size % 512 ≡ 0 → chosen journal ask ≡ Some places → AreUsable t.setting ask.size places
  found_usable ask places now one three whole found =
      let are : AreFound (sizes_of t.setting.tops) ask.size places = found_for journal (sizes_of t.setting.tops) t.used t.round answers ask places now one three found in
      let inside : AllInside t.setting places = found_inside ask places now found in
      record {
        inside = inside;
        own = pairs_stronger DontMeet (λ (a b : Place). meets b a ≡ false) places
            (λ a b ca cb far. dont_turned b a (inside_dont t.setting b a (all_contains _ places b inside cb) (all_contains _ places a inside ca) far))
            (chosen_own journal (sizes_of t.setting.tops) t.used t.round answers ask places now found);
        room = room_for sizes t.setting.tops ask.size places pool are whole;
      }

  pub asks_apart : (a b : Ask) (ps qs : List Place) → a.key.round ≡ t.round → b.key.round ≡ t.round → (SameParts a.key b.key → ⊥) → chosen journal a ≡ Some ps → chosen journal b ≡ Some qs → NoneTouch ps qs
  asks_apart a b ps qs na nb ne fa fb =
      let ip : AllInside t.setting ps = found_inside a ps na fa in
      let iq : AllInside t.setting qs = found_inside b qs nb fb in
      ⊎_elim
      (λ (one : AllByRecursion (MeetsNone qs) ps). none_touch t.setting ps qs ip iq one)
      (λ (two : AllByRecursion (MeetsNone ps) qs). touch_turned qs ps (none_touch t.setting qs ps iq ip two))
      (chosen_apart journal (sizes_of t.setting.tops) t.used t.round answers a b ps qs na nb ne fa fb)

  pub paths_apart : (p q : Pending) (here there : List ℕ) (ps qs : List Place) (a : IsAt journal t p here ps) (b : IsAt journal t q there qs) → ((below under : List ℕ) → here ++ below ≢ there ++ under) → NoneTouch ps qs
  paths_apart p q here there ps qs a b ne =
      asks_apart a.ask b.ask ps qs a.now b.now (λ same. ne a.below b.below (sym a.at ∙ same.path ∙ b.at)) a.found b.found

-- ---- deeds of a write

-- the operation writes copies at places that are so, or asks for places
abbrev pub WritesAt : (List Place → Type 0) → Task → Type 0
WritesAt P (WriteCopies bytes places) = P places
WritesAt P (Find ask) = Unit {0}
WritesAt P _ = ⊥

writes_weaker : (P Q : List Place → Type 0) → ((places : List Place) → P places → Q places) → (o : Task) → WritesAt P o → WritesAt Q o
writes_weaker P Q f (WriteCopies bytes places) h = f places h
writes_weaker P Q f (Find ask) h = tt
writes_weaker P Q f _ h = absurd h

abbrev pub AllWriteAt : (List Place → Type 0) → Trace → Type 0
AllWriteAt P ds = AllByRecursion (λ (d : Deed Task Value). WritesAt P d.op) ds

pub all_writes : (P Q : List Place → Type 0) → ((places : List Place) → P places → Q places) → (ds : Trace) → AllWriteAt P ds → AllWriteAt Q ds
all_writes P Q f ds h = all_weaker (λ (d : Deed Task Value). WritesAt P d.op) (λ (d : Deed Task Value). WritesAt Q d.op) ds (λ d k. writes_weaker P Q f d.op k) h

-- ---- a piece that was written

-- One of the deeds wrote these bytes to the copies, without error, and those behind it leave the copies alone.
pub record IsWrittenIn (t : Terms) (At : List Place → Type 0) (ds : Trace) (c : Copies) (bytes : List ℕ) : Type 0 where
  pub front : Trace
  pub rest : Trace
  pub is : ds ≡ front ++ record { op = WriteCopies bytes c.places; answer = Wrote None } ∷ rest
  pub is_good : IsGood c bytes
  pub at : At c.places
  pub some : 1 ≤ length c.places
  pub usable : AreUsable t.setting c.len c.places
  pub later : AllWriteAt (NoneTouch c.places) rest

-- the same among more deeds
pub written_more : (t : Terms) (At Bt : List Place → Type 0) (es ds fs : Trace) (c : Copies) (bytes : List ℕ) → (At c.places → Bt c.places) → (At c.places → AllWriteAt (NoneTouch c.places) fs)
    → IsWrittenIn t At ds c bytes → IsWrittenIn t Bt (es ++ (ds ++ fs)) c bytes
written_more t At Bt es ds fs c bytes f alone h =
    let d : Deed Task Value = record { op = WriteCopies bytes c.places; answer = Wrote None } in
    record {
      front = es ++ h.front;
      rest = h.rest ++ fs;
      is =
          ap (λ (xs : Trace). es ++ (xs ++ fs)) h.is
          ∙ ap (λ (xs : Trace). es ++ xs) (append_assoc h.front (d ∷ h.rest) fs)
          ∙ sym (append_assoc es h.front (d ∷ (h.rest ++ fs)));
      is_good = h.is_good;
      at = f h.at;
      some = h.some;
      usable = h.usable;
      later = all_append (λ (x : Deed Task Value). WritesAt (NoneTouch c.places) x.op) h.rest fs h.later (alone h.at);
    }
