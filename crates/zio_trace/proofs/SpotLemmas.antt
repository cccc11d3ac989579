-- Copies at places that don't touch have no byte in common.
use Rattle.std.proofs.Common.{◌≡◌, ◌≢◌, ℕ, zero, suc, ◌+◌, ◌/◌, ◌%◌, ◌≤◌, List, [], ◌∷◌, ◌++◌, length, map, take, drop, false, IsTrue, Contains, ◌⊎◌, inl, inr, ⊎_elim, refl, sym, ap, subst, arith}
use Rattle.std.proofs.lemmas.List.Elements.{Contains-append_left, Contains-append_right, Contains-append_cases}
use Rattle.std.specs.List.{AllByRecursion}
use Rattle.zio_types.specs.declared.place.Place.{Place}
use Rattle.zio_types.specs.Places.{end_of, is_inside, meets}
use Rattle.zio_cksum.specs.Blocks.{leaves_of, read_order, rotated, spot_in, turn_size}
use Rattle.zio_cksum.specs.Frames.{spots_of}
use Rattle.zio_cksum.specs.Headers.{offset_of}
use Rattle.zio_cksum.specs.Images.{Setting, Spot}
use Rattle.zio_cksum.proofs.AllLemmas.{all_contains}
use Rattle.zio_gang.specs.Trees.{sizes_of}
use Rattle.zio_trace.specs.Leaves.{AreClear}
use Rattle.zio_trace.specs.Separate.{LeavesOnce, NoneMeet}
use Rattle.zio_trace.specs.SoundRounds.{LeavesDiffer, repairs_after}
use Rattle.zio_trace.specs.TreeOrders.{Pairs}
use Rattle.zio_trace.proofs.ListLemmas.{contains_first}
use Rattle.zio_trace.proofs.PairLemmas.{all_of, contains_flat, contains_mapped, pairs_across, pairs_append, pairs_flat, pairs_front, pairs_map, pairs_rest, pairs_stronger}
use Rattle.zio_trace.proofs.PlaceLemmas.{DontMeet, inside_dont}

pub clear_turned : (t u : Spot) → AreClear t u → AreClear u t
clear_turned t u h =
    ⊎_elim
    (λ (ne : t.leaf ≢ u.leaf). inl (λ e. ne (sym e)))
    (λ (far : (t.at + t.span ≤ u.at) ⊎ (u.at + u.span ≤ t.at)). inr (⊎_elim (λ a. inr a) (λ a. inl a) far))
    h

pub dont_turned : (p q : Place) → DontMeet p q → DontMeet q p
dont_turned p q h =
    ⊎_elim
    (λ (ne : p.top ≢ q.top). inl (λ e. ne (sym e)))
    (λ (far : (end_of p ≤ q.sector) ⊎ (end_of q ≤ p.sector)). inr (⊎_elim (λ a. inr a) (λ a. inl a) far))
    h

-- no place of the one touches one of the other
abbrev pub NoneTouch : List Place → List Place → Type 0
NoneTouch ps qs = (p q : Place) → Contains ps p → Contains qs q → DontMeet p q

pub touch_turned : (ps qs : List Place) → NoneTouch ps qs → NoneTouch qs ps
touch_turned ps qs h q p cq cp = dont_turned p q (h p q cp cq)

-- all are inside their tops
abbrev pub AllInside : Setting → List Place → Type 0
AllInside s ps = AllByRecursion (λ (p : Place). IsTrue (is_inside (sizes_of s.tops) p)) ps

pub none_touch : (s : Setting) (ps qs : List Place) → AllInside s ps → AllInside s qs → NoneMeet ps qs → NoneTouch ps qs
none_touch s ps qs ip iq h p q cp cq =
    inside_dont s p q (all_contains _ ps p ip cp) (all_contains _ qs q iq cq)
    (all_contains (λ (r : Place). meets p r ≡ false) qs q (all_contains (λ (r : Place). AllByRecursion (λ (o : Place). meets r o ≡ false) qs) ps p h cp) cq)

-- ---- copies

-- where a copy comes from
pub record IsCopy (s : Setting) (ps : List Place) (t : Spot) : Type 0 where
  pub place : Place
  pub leaf : ℕ
  pub listed : Contains ps place
  pub mirrored : Contains (leaves_of s place) leaf
  pub is : spot_in place leaf ≡ t

pub is_copy : (s : Setting) (ps : List Place) (t : Spot) → Contains (spots_of s ps) t → IsCopy s ps t
is_copy s ps t c =
    let p = contains_flat (λ (p : Place). map (spot_in p) (leaves_of s p)) ps t c in
    let l = contains_mapped (spot_in p.0) (leaves_of s p.0) t p.2 in
    record { place = p.0; leaf = l.0; listed = p.1; mirrored = l.1; is = l.2 }

pub places_clear : (s : Setting) → LeavesOnce s.tops → (p q : Place) (l k : ℕ) → Contains (leaves_of s p) l → Contains (leaves_of s q) k → DontMeet p q → AreClear (spot_in p l) (spot_in q k)
places_clear s once p q l k cl ck h =
    ⊎_elim
    (λ (ne : p.top ≢ q.top). inl (all_contains (λ (m : ℕ). l ≢ m) (leaves_of s q) k (all_contains (λ (m : ℕ). AllByRecursion (λ (n : ℕ). m ≢ n) (leaves_of s q)) (leaves_of s p) l (once p.top q.top ne) cl) ck))
    (λ (far : (end_of p ≤ q.sector) ⊎ (end_of q ≤ p.sector)).
    inr (⊎_elim (λ (a : end_of p ≤ q.sector). inl (omega arith)) (λ (a : end_of q ≤ p.sector). inr (omega arith)) far))
    h

-- Copies at places that don't touch are clear.
pub spots_clear : (s : Setting) (ps qs : List Place) (t u : Spot) → LeavesOnce s.tops → NoneTouch ps qs → Contains (spots_of s ps) t → Contains (spots_of s qs) u → AreClear t u
spots_clear s ps qs t u once none ct cu =
    let a : IsCopy s ps t = is_copy s ps t ct in
    let b : IsCopy s qs u = is_copy s qs u cu in
    subst (λ (x : Spot). AreClear x u) a.is (subst (AreClear (spot_in a.place a.leaf)) b.is
    (places_clear s once a.place b.place a.leaf b.leaf a.mirrored b.mirrored (none a.place b.place a.listed b.listed)))

-- Of places of which no two touch the copies at different numbers are clear.
pub own_spots : (s : Setting) (ps : List Place) → LeavesOnce s.tops → LeavesDiffer s.tops → Pairs DontMeet ps → Pairs AreClear (spots_of s ps)
own_spots s ps once twice own =
    pairs_flat AreClear (λ (p : Place). map (spot_in p) (leaves_of s p)) ps
    (pairs_stronger _ DontMeet ps (λ p q cp cq far t u ct cu. between p q far t u ct cu) own)
    (all_of _ ps (λ p c. pairs_map AreClear (spot_in p) (leaves_of s p) (pairs_stronger _ (λ (l m : ℕ). l ≢ m) (leaves_of s p) (λ l m cl cm ne. inl ne) (twice p.top))))
  where
    between : (p q : Place) → DontMeet p q → (t u : Spot) → Contains (map (spot_in p) (leaves_of s p)) t → Contains (map (spot_in q) (leaves_of s q)) u → AreClear t u
    between p q far t u ct cu =
        let l = contains_mapped (spot_in p) (leaves_of s p) t ct in
        let m = contains_mapped (spot_in q) (leaves_of s q) u cu in
        subst (λ (x : Spot). AreClear x u) l.2 (subst (AreClear (spot_in p l.0)) m.2 (places_clear s once p q l.0 m.0 l.1 m.1 far))

-- ---- the copies that a read rewrites

cut_at : {X : Type 0} (n : ℕ) (xs : List X) → xs ≡ take n xs ++ drop n xs
cut_at zero xs = refl
cut_at (suc n) [] = refl
cut_at (suc n) (x ∷ xs) = ap (λ (ys : List _). x ∷ ys) (cut_at n xs)

taken_in : {X : Type 0} (n : ℕ) (xs : List X) (x : X) → Contains (take n xs) x → Contains xs x
taken_in n xs x c = subst (λ (ys : List _). Contains ys x) (sym (cut_at n xs)) (Contains-append_left (take n xs) (drop n xs) x c)

-- in another order, where it doesn't matter which stands first
pairs_rotated : (R : ℕ → ℕ → Type 0) → ((x y : ℕ) → R x y → R y x) → (n : ℕ) (xs : List ℕ) → Pairs R xs → Pairs R (rotated n xs)
pairs_rotated R turned n xs h =
    let both : Pairs R (take n xs ++ drop n xs) = subst (Pairs R) (cut_at n xs) h in
    pairs_append R (drop n xs) (take n xs) (pairs_rest R (take n xs) (drop n xs) both) (pairs_front R (take n xs) (drop n xs) both)
    (λ x y cx cy. turned y x (pairs_across R (take n xs) (drop n xs) y x both cy cx))

rotated_in : (n : ℕ) (xs : List ℕ) (x : ℕ) → Contains (rotated n xs) x → Contains xs x
rotated_in n xs x c =
    ⊎_elim
    (λ (k : Contains (drop n xs) x). subst (λ (ys : List _). Contains ys x) (sym (cut_at n xs)) (Contains-append_right (take n xs) (drop n xs) x k))
    (λ (k : Contains (take n xs) x). taken_in n xs x k)
    (Contains-append_cases (drop n xs) (take n xs) x c)

pub repairs_differ : (s : Setting) (front rest : List Place) (p : Place) (tried : ℕ) → LeavesOnce s.tops → LeavesDiffer s.tops → Pairs DontMeet (front ++ p ∷ rest) → Pairs AreClear (repairs_after s front p tried)
repairs_differ s front rest p tried once twice own =
    let order : List ℕ = read_order (offset_of p) (leaves_of s p) in
    let turn : ℕ = offset_of p / turn_size % length (leaves_of s p) in
    let all : Pairs (λ (l m : ℕ). l ≢ m) order = pairs_rotated (λ (l m : ℕ). l ≢ m) (λ l m ne e. ne (sym e)) turn (leaves_of s p) (twice p.top) in
    let some : Pairs (λ (l m : ℕ). l ≢ m) (take tried order) = pairs_front (λ (l m : ℕ). l ≢ m) (take tried order) (drop tried order) (subst (Pairs (λ (l m : ℕ). l ≢ m)) (cut_at tried order) all) in
    pairs_append AreClear (spots_of s front) (map (spot_in p) (take tried order)) (own_spots s front once twice (pairs_front DontMeet front (p ∷ rest) own))
    (pairs_map AreClear (spot_in p) (take tried order) (pairs_stronger _ (λ (l m : ℕ). l ≢ m) (take tried order) (λ l m cl cm ne. inl ne) some))
    (λ t u ct cu.
    let a : IsCopy s front t = is_copy s front t ct in
    let l = contains_mapped (spot_in p) (take tried order) u cu in
    subst (λ (x : Spot). AreClear x u) a.is (subst (AreClear (spot_in a.place a.leaf)) l.2
    (places_clear s once a.place p a.leaf l.0 a.mirrored (rotated_in turn (leaves_of s p) l.0 (taken_in tried order l.0 l.1))
    (pairs_across DontMeet front (p ∷ rest) a.place p own a.listed (contains_first p rest)))))
