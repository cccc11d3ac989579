-- What is counted stays so over the calls of a space, and what callers learn from it.
use Rattle.std.proofs.Common.{◌≡◌, ℕ, zero, suc, ◌+◌, ◌-◌, ◌*◌, ◌^◌, ◌<◌, ◌≤◌, List, [], ◌∷◌, ◌++◌, length, map, get_or, replicate, refl, sym, ap, subst, ◌∙◌, arith}
use Rattle.std.specs.Prelude.{Bool, true, false, not, ◌&&◌, All, Contains}
use Rattle.std.proofs.Common.{inl, inr}
use Rattle.std.specs.List.{list_all}
use Rattle.std.proofs.lemmas.Bool.{and_from}
use Rattle.std.proofs.lemmas.List.{length-map, length_push, length-replicate}
use Rattle.std.proofs.lemmas.List.Elements.{All-contains, All-push, Contains-append_cases, Contains-append_left, Contains-append_right}
use Rattle.zio_types.specs.declared.place.Place.{Place}
use Rattle.zio_types.specs.declared.place.TopSize.{TopSize}
use Rattle.zio_types.specs.Places.{is_inside, is_aligned, is_free, are_apart}
use Rattle.zio_types.specs.Choices.{Choice}
use Rattle.zio_places.specs.Spaces.{is_on_top, are_on_tops, IsSound}
use Rattle.zio_places.specs.Consistent.{IsConsistent}
use Rattle.zio_places.specs.Tables.{TopState, top_at, size_of, sizes_of, AreAligned, places_from, live_from, live_of, covers, one_if, total, cover_count, taken_in, taken_at, AreBitmapsOf, HaveEqualLengths, AreConsistent, AreMarkedUsed, IsEntered, AreAllocated}
use Rattle.zio_places.proofs.PlaceLemmas.{total-append, one_if-le, is_free-from_counts, total-contains, Contains-head, Contains-tail, Contains-nothing, Contains-cases, contains-same, contains-included}
use Rattle.zio_places.proofs.SetLemmas.{list_all-contains}
use Rattle.zio_places.proofs.UnitLemmas.{AreAligned-append}
use Rattle.zio_places.proofs.TableLemmas.{live-length}
use Rattle.zio_places.proofs.AllocateLemmas.{taken-flags, live_of-same}
use Rattle.zio_places.proofs.CountLemmas.{inside-from_flags}

-- ---- what callers learn
pub list_all-from : (test : Place → Bool) (xs : List Place) → ((p : Place) → Contains xs p → test p ≡ true) → list_all test xs ≡ true
list_all-from test [] h = refl
list_all-from test (x ∷ xs) h = and_from (test x) (list_all test xs) (h x (Contains-head x xs)) (list_all-from test xs (λ p there. h p (Contains-tail x p xs there)))

apart-from_counts : (xs : List Place) → ((top sector : ℕ) → cover_count xs top sector ≤ 1) → are_apart xs ≡ true
apart-from_counts [] h = refl
apart-from_counts (x ∷ xs) h =
    and_from (is_free xs x) (are_apart xs)
    (is_free-from_counts xs x (λ sector mine. let one : one_if (covers x x.top sector) ≡ 1 = ap one_if mine in omega (arith, one, h x.top sector)))
    (apart-from_counts xs (λ top sector. omega (arith, h top sector)))

taken_at-le : (tops : List TopState) (top sector : ℕ) → taken_at tops top sector ≤ 1
taken_at-le tops top sector = one_if-le (not (get_or (top_at tops top).free sector true))

filled-used : (tops : List TopState) (pending : List Place) → All (λ (p : Place). 0 < p.sectors) pending → (p : Place) → Contains (live_of tops ++ pending) p → 0 < p.sectors
filled-used tops pending filled p h =
    elim (Contains-append_cases (live_of tops) pending p h) [
      | inl live ↦ (live-length tops p live).0
      | inr waits ↦ All-contains (λ (q : Place). 0 < q.sectors) pending p filled waits
    ]

pub inside-counted : (tops : List TopState) (pending : List Place) → AreBitmapsOf (live_of tops ++ pending) tops → HaveEqualLengths tops → All (λ (p : Place). 0 < p.sectors) pending →
    AreAligned (sizes_of tops) (live_of tops ++ pending) → are_on_tops (sizes_of tops) (live_of tops ++ pending) ≡ true
inside-counted tops pending count even filled aligned =
    list_all-from (is_on_top (sizes_of tops)) (live_of tops ++ pending) (λ p there.
    let inside = inside-from_flags tops p false even (taken-flags tops p (filled-used tops pending filled p there) (λ sector mine.
    let one : one_if (covers p p.top sector) ≡ 1 = ap one_if mine in
    omega (arith, one, count p.top sector, total-contains (λ q. one_if (covers q p.top sector)) (live_of tops ++ pending) p there))) in
    and_from (is_inside (sizes_of tops) p) (is_aligned (sizes_of tops) p) inside (aligned p there))

pub apart-counted : (tops : List TopState) (pending : List Place) → AreBitmapsOf (live_of tops ++ pending) tops → are_apart (live_of tops ++ pending) ≡ true
apart-counted tops pending count = apart-from_counts (live_of tops ++ pending) (λ top sector. omega (arith, count top sector, taken_at-le tops top sector))

pub AreConsistent-counted : (tops : List TopState) (pending : List Place) → AreBitmapsOf (live_of tops ++ pending) tops → HaveEqualLengths tops → AreConsistent tops
AreConsistent-counted tops pending count even = record {
  even = even;
  covered = λ top sector. omega (arith, count top sector, total-append (λ p. one_if (covers p top sector)) (live_of tops) pending);
}

total-ones : (xs : List Place) → total (λ p. 1) xs ≡ length xs
total-ones [] = refl
total-ones (x ∷ xs) = omega (arith, total-ones xs)

same_tops : (old new : List TopState) → sizes_of new ≡ sizes_of old → length new ≡ length old
same_tops old new h = sym (length-map new size_of) ∙ ap length h ∙ length-map old size_of

-- ---- places get live, and their sectors used
pub counted-held : (old new : List TopState) (places pending : List Place) (live spare pending_room entries entries_room live' spare' pending_room' entries' : ℕ) → AreAllocated old new places → AreAligned (sizes_of old) places →
    IsConsistent old pending live spare pending_room entries entries_room → live' ≡ live + length places → length pending + live' + 3 * spare' ≤ pending_room' → entries' + spare' ≤ entries_room →
    IsConsistent new pending live' spare' pending_room' entries' entries_room
counted-held old new places pending live spare pending_room entries entries_room live' spare' pending_room' entries' h whole c e room fits = record {
  few = omega (arith, c.few, same_tops old new h.sizes);
  even = h.even c.even;
  count = λ top sector.
      omega (arith, c.count top sector, h.taken top sector, h.live (λ p. one_if (covers p top sector)), total-append (λ p. one_if (covers p top sector)) (live_of old) pending, total-append (λ p. one_if (covers p top sector)) (live_of new) pending);
  aligned =
      subst (λ sizes. AreAligned sizes (live_of new ++ pending)) (sym h.sizes)
      (AreAligned-append (sizes_of old) (live_of new) pending
      (λ p there.
      AreAligned-append (sizes_of old) places (live_of old) whole (λ q also. c.aligned q (Contains-append_left (live_of old) pending q also)) p
      (contains-same (live_of new) (places ++ live_of old) (λ f. h.live f ∙ sym (total-append f places (live_of old))) p there))
      (λ p there. c.aligned p (Contains-append_right (live_of old) pending p there)));
  filled = c.filled;
  live_count = omega (arith, e, c.live_count, h.live (λ p. 1), total-ones (live_of old), total-ones (live_of new), total-ones places);
  pending_fit = room;
  entries_fit = fits;
}

-- ---- one place waits
pub counted-given_back : (old new : List TopState) (p : Place) (pending : List Place) (live spare pending_room entries entries_room live' : ℕ) → IsEntered new old p → Contains (live_of old) p →
    IsConsistent old pending live spare pending_room entries entries_room → live' ≡ live - 1 →
    IsConsistent new (pending ++ p ∷ []) live' spare pending_room entries entries_room
counted-given_back old new p pending live spare pending_room entries entries_room live' h there c e =
    let filled = (live-length old p there).0 in
    let fewer : length (live_of old) ≡ 1 + length (live_of new) = omega (arith, h.live (λ q. 1), total-ones (live_of old), total-ones (live_of new)) in
    record {
      few = omega (arith, c.few, same_tops old new (sym h.sizes));
      even = λ top. sym (ap length (h.free top)) ∙ c.even top ∙ h.lengths top;
      count = λ top sector.
          let same : taken_at old top sector ≡ taken_at new top sector = ap (λ fs. taken_in fs sector) (h.free top) in
          omega (
            arith,
            same,
            c.count top sector,
            h.live (λ q. one_if (covers q top sector)),
            total-append (λ q. one_if (covers q top sector)) (live_of old) pending,
            total-append (λ q. one_if (covers q top sector)) (live_of new) (pending ++ p ∷ []),
            total-append (λ q. one_if (covers q top sector)) pending (p ∷ []),
          );
      aligned =
          subst (λ sizes. AreAligned sizes (live_of new ++ (pending ++ p ∷ []))) h.sizes
          (AreAligned-append (sizes_of old) (live_of new) (pending ++ p ∷ [])
          (λ q also. c.aligned q (Contains-append_left (live_of old) pending q (contains-included (live_of new) (live_of old) (λ f. omega (arith, h.live f)) q also)))
          (AreAligned-append (sizes_of old) pending (p ∷ []) (λ q also. c.aligned q (Contains-append_right (live_of old) pending q also))
          (λ q also.
          elim (Contains-cases p q [] also) [
            | inl same ↦ c.aligned q (Contains-append_left (live_of old) pending q (subst (λ r. Contains (live_of old) r) same there))
            | inr none ↦ absurd (Contains-nothing q none)
          ])));
      filled = All-push (λ (q : Place). 0 < q.sectors) pending p c.filled filled;
      live_count = omega (arith, e, c.live_count, fewer);
      pending_fit = omega (arith, c.pending_fit, e, c.live_count, fewer, length_push pending p);
      entries_fit = c.entries_fit;
    }

-- ---- one place is free again
pub counted-released : (old new : List TopState) (p : Place) (pending : List Place) (live spare pending_room entries entries_room live' : ℕ) → AreAllocated new old (p ∷ []) →
    IsConsistent old pending live spare pending_room entries entries_room → live' ≡ live - 1 → IsConsistent new pending live' spare pending_room entries entries_room
counted-released old new p pending live spare pending_room entries entries_room live' h c e =
    let fewer : length (live_of old) ≡ 1 + length (live_of new) = omega (arith, h.live (λ q. 1), total-ones (live_of old), total-ones (live_of new)) in
    record {
      few = omega (arith, c.few, same_tops old new (sym h.sizes));
      even = h.even_back c.even;
      count = λ top sector.
          omega (arith, c.count top sector, h.taken top sector, h.live (λ q. one_if (covers q top sector)), total-append (λ q. one_if (covers q top sector)) (live_of old) pending, total-append (λ q. one_if (covers q top sector)) (live_of new) pending);
      aligned =
          subst (λ sizes. AreAligned sizes (live_of new ++ pending)) h.sizes
          (AreAligned-append (sizes_of old) (live_of new) pending
          (λ q also. c.aligned q (Contains-append_left (live_of old) pending q (contains-included (live_of new) (live_of old) (λ f. omega (arith, h.live f)) q also)))
          (λ q also. c.aligned q (Contains-append_right (live_of old) pending q also)));
      filled = c.filled;
      live_count = omega (arith, e, c.live_count, fewer);
      pending_fit = omega (arith, c.pending_fit, e);
      entries_fit = c.entries_fit;
    }

-- it was one that no other place in use has a sector of
pub released-open : (old new : List TopState) (p : Place) (pending : List Place) (live spare pending_room entries entries_room : ℕ) → AreAllocated new old (p ∷ []) → Contains (live_of old) p →
    IsConsistent old pending live spare pending_room entries entries_room → (is_on_top (sizes_of new) p && is_free (live_of new ++ pending) p) ≡ true
released-open old new p pending live spare pending_room entries entries_room h there c =
    let on : is_on_top (sizes_of old) p ≡ true = list_all-contains (is_on_top (sizes_of old)) (live_of old ++ pending) p (inside-counted old pending c.count c.even c.filled c.aligned) (Contains-append_left (live_of old) pending p there) in
    and_from (is_on_top (sizes_of new) p) (is_free (live_of new ++ pending) p)
    (ap (λ sizes. is_on_top sizes p) (sym h.sizes) ∙ on)
    (is_free-from_counts (live_of new ++ pending) p (λ sector mine.
    let one : one_if (covers p p.top sector) ≡ 1 = ap one_if mine in
    omega (arith, one, c.count p.top sector, taken_at-le old p.top sector, h.live (λ q. one_if (covers q p.top sector)), total-append (λ q. one_if (covers q p.top sector)) (live_of old) pending, total-append (λ q. one_if (covers q p.top sector)) (live_of new) pending)))

-- ---- the round ends
pub counted-closed : (old new : List TopState) (pending : List Place) (live spare pending_room entries entries_room : ℕ) → AreMarkedUsed new old pending →
    IsConsistent old pending live spare pending_room entries entries_room → IsConsistent new [] live spare pending_room entries entries_room
counted-closed old new pending live spare pending_room entries entries_room h c =
    let same : live_of new ≡ live_of old = sym (live_of-same new old h.lengths h.sizes) in
    record {
      few = omega (arith, c.few, same_tops old new (sym h.sizes));
      even = h.even_back c.even;
      count = λ top sector.
          omega (
            arith,
            c.count top sector,
            h.taken top sector,
            ap (λ ps. cover_count ps top sector) same,
            total-append (λ p. one_if (covers p top sector)) (live_of old) pending,
            total-append (λ p. one_if (covers p top sector)) (live_of new) [],
          );
      aligned = λ p there.
          let live : Contains (live_of old) p =
          elim (Contains-append_cases (live_of new) [] p there) [
            | inl also ↦ subst (λ ps. Contains ps p) same also
            | inr none ↦ absurd (Contains-nothing p none)
          ] in
          ap (λ sizes. is_aligned sizes p) (sym h.sizes) ∙ c.aligned p (Contains-append_left (live_of old) pending p live);
      filled = λ k d l. absurd (omega arith);
      live_count = c.live_count ∙ ap length (sym same);
      pending_fit = omega (arith, c.pending_fit);
      entries_fit = c.entries_fit;
    }

-- ---- a space is new
abbrev pub fresh_top : TopSize → TopState
fresh_top top = record { free = replicate top.sectors true; lengths = replicate top.sectors 0; unit = top.unit }

pub sizes_of-fresh : (ns : List TopSize) → sizes_of (map fresh_top ns) ≡ ns
sizes_of-fresh [] = refl
sizes_of-fresh (n ∷ ns) =
    let make : ℕ → TopSize = λ m. record { sectors = m; unit = n.unit } in
    ap (λ m. make m ∷ sizes_of (map fresh_top ns)) (length-replicate n.sectors 0) ∙ ap (λ ms. n ∷ ms) (sizes_of-fresh ns)

no_places : (top sector n : ℕ) → places_from top sector (replicate n 0) ≡ []
no_places top sector zero = refl
no_places top sector (suc n) = no_places top (sector + 1) n

live_from-fresh : (top : ℕ) (ns : List TopSize) → live_from top (map fresh_top ns) ≡ []
live_from-fresh top [] = refl
live_from-fresh top (n ∷ ns) = ap (λ ps. ps ++ live_from (top + 1) (map fresh_top ns)) (no_places top 0 n.sectors) ∙ live_from-fresh (top + 1) ns

pub live_of-fresh : (ns : List TopSize) → live_of (map fresh_top ns) ≡ []
live_of-fresh ns = live_from-fresh 0 ns

even-fresh : (ns : List TopSize) (top : ℕ) → length (top_at (map fresh_top ns) top).free ≡ length (top_at (map fresh_top ns) top).lengths
even-fresh [] top = refl
even-fresh (n ∷ ns) zero = length-replicate n.sectors true ∙ sym (length-replicate n.sectors 0)
even-fresh (n ∷ ns) (suc top) = even-fresh ns top

taken_in-fresh : (n k : ℕ) → taken_in (replicate n true) k ≡ 0
taken_in-fresh zero k = refl
taken_in-fresh (suc n) zero = refl
taken_in-fresh (suc n) (suc k) = taken_in-fresh n k

taken_at-fresh : (ns : List TopSize) (top sector : ℕ) → taken_at (map fresh_top ns) top sector ≡ 0
taken_at-fresh [] top sector = refl
taken_at-fresh (n ∷ ns) zero sector = taken_in-fresh n.sectors sector
taken_at-fresh (n ∷ ns) (suc top) sector = taken_at-fresh ns top sector

pub counted-new : (ns : List TopSize) (tops : List TopState) (pending_room entries_room : ℕ) → tops ≡ map fresh_top ns → length ns < 2 ^ 32 → IsConsistent tops [] 0 0 pending_room 0 entries_room
counted-new ns tops pending_room entries_room is few =
    subst (λ ts. IsConsistent ts [] 0 0 pending_room 0 entries_room) (sym is)
    (record {
      few = omega (arith, few, length-map ns fresh_top);
      even = even-fresh ns;
      count = λ top sector. ap (λ ps. cover_count (ps ++ []) top sector) (live_of-fresh ns) ∙ sym (taken_at-fresh ns top sector);
      aligned = λ p there. absurd (Contains-nothing p (subst (λ ps. Contains (ps ++ []) p) (live_of-fresh ns) there));
      filled = λ k d l. absurd (omega arith);
      live_count = sym (ap length (live_of-fresh ns));
      pending_fit = omega arith;
      entries_fit = omega arith;
    })

pub sound-counted : (tops : List TopState) (pending : List Place) (entries : List Choice) (live spare pending_room n entries_room : ℕ) → IsConsistent tops pending live spare pending_room n entries_room →
    IsSound (record { sizes = sizes_of tops; live = live_of tops; pending = pending; entries = entries; spare = spare })
sound-counted tops pending entries live spare pending_room n entries_room c = record {
  inside = inside-counted tops pending c.count c.even c.filled c.aligned;
  apart = apart-counted tops pending c.count;
}
