-- Which copy a read takes over some images, and what follows where no read succeeds.
use Rattle.std.proofs.Common.{◌≡◌, ℕ, List, [], ◌∷◌, ◌++◌, map, Bool, true, false, cond, find, option_map, Option, Some, None, Result, Ok, Err, IsTrue, refl, sym, ap, ◌∙◌}
use Rattle.std.specs.List.{AllByRecursion}
use Rattle.zio_types.specs.declared.error.Errno.{Errno}
use Rattle.zio_types.specs.declared.place.Place.{Place}
use Rattle.zio_faults.specs.declared.table.FaultKind.{FaultKind}
use Rattle.zio_faults.specs.declared.table.FaultKind.TheVariants.{Eio, Gone, Flip}
use Rattle.zio_faults.specs.declared.table.Hit.{Hit}
use Rattle.zio_faults.specs.declared.table.Operation.{Operation}
use Rattle.zio_faults.specs.declared.table.Row.{Row}
use Rattle.zio_faults.specs.Hits.{hit_on, selects}
use Rattle.zio_cksum.specs.Blocks.{first_good, judged, judged_by, leaves_of, passed_with, read_order, read_pass, read_place, spot_in, then_others}
use Rattle.zio_cksum.specs.Headers.{offset_of}
use Rattle.zio_cksum.specs.Images.{Images, Setting, Spot, bytes_at, faulty_read, met, read_leaf, read_met}
use Rattle.zio_trace.specs.Readers.{TurnsNoBytes}
use Rattle.zio_trace.proofs.ReaderFaults.{MetPlain, operation}
use Rattle.zio_spared.specs.Spared.{NoFlips}

-- ---- copies of one place

-- one of the leaves is the first whose read succeeds
pub record IsLeafTaken (read : ℕ → Result (List ℕ) Errno) (leaves : List ℕ) : Type 0 where
  pub first : List ℕ
  pub leaf : ℕ
  pub later : List ℕ
  pub split : leaves ≡ first ++ leaf ∷ later
  pub bytes : List ℕ
  pub takes : read leaf ≡ Ok bytes

leaf_taken : (read : ℕ → Result (List ℕ) Errno) (leaves : List ℕ) (b : List ℕ) → (first_good read leaves).found ≡ Some b → IsLeafTaken read leaves
leaf_taken read [] b e = absurd (let no : ◌≡◌ {A = Option (List ℕ)} None (Some b) = e in cc)
leaf_taken read (l ∷ ls) b e = step (read l) refl (λ f. leaf_taken read ls b f) e
  where
    step : (r : Result (List ℕ) Errno) → read l ≡ r → ((first_good read ls).found ≡ Some b → IsLeafTaken read ls) → (then_others l r (first_good read ls)).found ≡ Some b → IsLeafTaken read (l ∷ ls)
    step (Ok x) is later f = record { first = []; leaf = l; later = ls; split = refl; bytes = x; takes = is }
    step (Err x) is later f =
        let k : IsLeafTaken read ls = later f in
        record { first = l ∷ k.first; leaf = k.leaf; later = k.later; split = ap (λ (xs : List ℕ). l ∷ xs) k.split; bytes = k.bytes; takes = k.takes }

abbrev NeverOk : Result (List ℕ) Errno → Type 0
NeverOk r = (b : List ℕ) → r ≡ Ok b → ⊥

none_good : (read : ℕ → Result (List ℕ) Errno) (leaves : List ℕ) → (first_good read leaves).found ≡ None → AllByRecursion (λ (l : ℕ). NeverOk (read l)) leaves
none_good read [] e = tt
none_good read (l ∷ ls) e = step (read l) refl (λ f. none_good read ls f) e
  where
    step : (r : Result (List ℕ) Errno) → read l ≡ r → ((first_good read ls).found ≡ None → AllByRecursion (λ (k : ℕ). NeverOk (read k)) ls) → (then_others l r (first_good read ls)).found ≡ None
        → AllByRecursion (λ (k : ℕ). NeverOk (read k)) (l ∷ ls)
    step (Ok x) is later f = absurd (let no : Some x ≡ None = f in cc)
    step (Err x) is later f = ((λ b k. absurd (let no : ◌≡◌ {A = Result (List ℕ) Errno} (Err x) (Ok b) = sym is ∙ k in cc)), later f)

-- ---- places

module _ (s : Setting) (len : ℕ) (good : List ℕ → Bool) (before : Images) where
  abbrev pub order : Place → List ℕ
  order p = read_order (offset_of p) (leaves_of s p)

  abbrev pub gives : Bool → Place → ℕ → Result (List ℕ) Errno
  gives retry p l = judged good (read_leaf s retry before len (spot_in p l))

  -- a pass takes a copy at one of the places
  pub record IsTaken (retry : Bool) (places : List Place) : Type 0 where
    pub front : List Place
    pub place : Place
    pub rest : List Place
    pub split : places ≡ front ++ place ∷ rest
    pub there : IsLeafTaken (gives retry place) (order place)

  pub taken : (retry : Bool) (places : List Place) (b : List ℕ) → (read_pass s retry good before len places).found ≡ Some b → IsTaken retry places
  taken retry [] b e = absurd (let no : ◌≡◌ {A = Option (List ℕ)} None (Some b) = e in cc)
  taken retry (p ∷ ps) b e = step (read_place s retry good before len p).found refl (λ f. taken retry ps b f) e
    where
      step : (o : Option (List ℕ)) → (read_place s retry good before len p).found ≡ o → ((read_pass s retry good before len ps).found ≡ Some b → IsTaken retry ps)
          → (passed_with o (map (spot_in p) (read_place s retry good before len p).failed) (map (spot_in p) (leaves_of s p)) (read_place s retry good before len p) (read_pass s retry good before len ps)).found ≡ Some b → IsTaken retry (p ∷ ps)
      step (Some x) is later f = record { front = []; place = p; rest = ps; split = refl; there = leaf_taken (gives retry p) (order p) x is }
      step None is later f =
          let k : IsTaken retry ps = later f in
          record { front = p ∷ k.front; place = k.place; rest = k.rest; split = ap (λ (xs : List Place). p ∷ xs) k.split; there = k.there }

  -- no copy there is read
  abbrev pub NoneRead : Bool → Place → Type 0
  NoneRead retry p = AllByRecursion (λ (l : ℕ). NeverOk (gives retry p l)) (order p)

  pub none_taken : (retry : Bool) (places : List Place) → (read_pass s retry good before len places).found ≡ None → AllByRecursion (NoneRead retry) places
  none_taken retry [] e = tt
  none_taken retry (p ∷ ps) e = step (read_place s retry good before len p).found refl (λ f. none_taken retry ps f) e
    where
      step : (o : Option (List ℕ)) → (read_place s retry good before len p).found ≡ o → ((read_pass s retry good before len ps).found ≡ None → AllByRecursion (NoneRead retry) ps)
          → (passed_with o (map (spot_in p) (read_place s retry good before len p).failed) (map (spot_in p) (leaves_of s p)) (read_place s retry good before len p) (read_pass s retry good before len ps)).found ≡ None → AllByRecursion (NoneRead retry) (p ∷ ps)
      step (Some x) is later f = absurd (let no : Some x ≡ None = f in cc)
      step None is later f = (none_good (gives retry p) (order p) is, later f)

-- ---- bytes that a read takes

turns_if : (o : Operation) (row : Row) (x : Option Row) (b : Bool) → TurnsNoBytes row.kind → MetPlain (option_map (hit_on o) x) → MetPlain (option_map (hit_on o) (cond b (Some row) x))
turns_if o row x true h k = h
turns_if o row x false h k = k

found_turns : (o : Operation) (rows : List Row) → NoFlips rows → MetPlain (option_map (hit_on o) (find (λ row. selects row o) rows))
found_turns o [] h = tt
found_turns o (row ∷ rows) h = turns_if o row (find (λ row. selects row o) rows) (selects row o) h.0 (found_turns o rows h.1)

judged_true : (bytes b : List ℕ) (t : Bool) → judged_by t bytes ≡ Ok b → t ≡ true
judged_true bytes b true e = refl
judged_true bytes b false e = absurd (cc)

faulty_good : (good : List ℕ → Bool) (kind : FaultKind) (hit : Hit) (at : ℕ) (bytes b : List ℕ) → TurnsNoBytes kind → judged good (faulty_read kind hit at bytes) ≡ Ok b → good bytes ≡ true
faulty_good good Eio hit at bytes b turns e = absurd (cc)
faulty_good good Gone hit at bytes b turns e = absurd (cc)
faulty_good good Flip hit at bytes b turns e = absurd turns

met_good : (good : List ℕ → Bool) (h : Option Hit) (at : ℕ) (bytes b : List ℕ) → MetPlain h → judged good (read_met h at bytes) ≡ Ok b → good bytes ≡ true
met_good good None at bytes b plain e = judged_true bytes b (good bytes) e
met_good good (Some hit) at bytes b plain e = faulty_good good hit.kind hit at bytes b plain e

-- Where no row turns bytes, a copy whose read succeeds is good.
pub read_is_good : (s : Setting) (len : ℕ) (good : List ℕ → Bool) (before : Images) (retry : Bool) (t : Spot) (b : List ℕ) → NoFlips s.rows → judged good (read_leaf s retry before len t) ≡ Ok b → IsTrue (good (bytes_at before t len))
read_is_good s len good before retry t b flips e =
    met_good good (met s retry false t) t.at (bytes_at before t len) b (found_turns (operation s retry false t) s.rows flips) e
