-- What keeps the deeds in order.
use Rattle.std.proofs.Common.{◌≡◌, ℕ, suc, ◌<◌, List, [], ◌∷◌, ◌++◌, length, ◌⊎◌, inl, inr, ⊎_elim, refl, sym, ap, ◌∙◌, append_assoc, length-append, arith}
use Rattle.std.specs.List.{AllByRecursion}
use Rattle.zio_cksum.proofs.AllLemmas.{all_append, all_weaker}
use Rattle.zio_trace.specs.Programs.{Deed}
use Rattle.zio_trace.specs.Labels.{Labelled, Below, Earlier, IsIn}
use Rattle.zio_trace.specs.Clearings.{Seat, Reach, Away, Free, FreeOf, Holds, AllPairs, AreClear}
use Rattle.zio_trace.proofs.LabelLemmas.{below_itself}

-- ---- places

-- what is behind a part's place is behind the whole, or in a later part
behind_part : (at : List ℕ) (n : ℕ) (x : List ℕ) → Below (at ++ n ∷ []) x → Below at x ⊎ ((m : ℕ) × (below : List ℕ) × IsIn at m below x × (n < m))
behind_part [] n [] h = absurd h
behind_part [] n (m ∷ x) (inl h) = inr (m, x, refl, h)
behind_part [] n (m ∷ []) (inr h) = absurd h.1
behind_part [] n (m ∷ k ∷ x) (inr h) = absurd h.1
behind_part (a ∷ at) n [] h = absurd h
behind_part (a ∷ at) n (b ∷ x) (inl h) = inl (inl h)
behind_part (a ∷ at) n (b ∷ x) (inr h) =
    ⊎_elim
    (λ (k : Below at x). inl (inr (h.0, k)))
    (λ (k : (m : ℕ) × (below : List ℕ) × IsIn at m below x × (n < m)). inr (k.0, k.1, (λ i. sym h.0 i ∷ k.2 i), k.3))
    (behind_part at n x h.1)

-- what is before a part's place is before the whole, or in an earlier part
before_part : (x at : List ℕ) (n : ℕ) → Below x (at ++ n ∷ []) → Below x at ⊎ ((m : ℕ) × (below : List ℕ) × IsIn at m below x)
before_part [] [] n h = absurd h
before_part [] (a ∷ at) n h = absurd h
before_part (m ∷ x) [] n h = inr (m, x, refl)
before_part (b ∷ x) (a ∷ at) n (inl h) = inl (inl h)
before_part (b ∷ x) (a ∷ at) n (inr h) =
    ⊎_elim
    (λ (k : Below x at). inl (inr (h.0, k)))
    (λ (k : (m : ℕ) × (below : List ℕ) × IsIn at m below x). inr (k.0, k.1, (λ i. h.0 i ∷ k.2 i)))
    (before_part x at n h.1)

no_front : (at : List ℕ) (n : ℕ) (xs : List ℕ) → Below at (at ++ n ∷ xs) → ⊥
no_front [] n xs h = h
no_front (a ∷ at) n xs (inl h) = omega arith
no_front (a ∷ at) n xs (inr h) = no_front at n xs h.1

no_back : (at : List ℕ) (n : ℕ) (xs : List ℕ) → Below (at ++ n ∷ xs) at → ⊥
no_back [] n xs h = h
no_back (a ∷ at) n xs (inl h) = omega arith
no_back (a ∷ at) n xs (inr h) = no_back at n xs h.1

-- a part's place in another is in the whole's, or the whole is that
pub part_in : (at xs : List ℕ) (n m : ℕ) (below : List ℕ) → at ++ n ∷ [] ≡ xs ++ m ∷ below → ((rest : List ℕ) × IsIn xs m rest at) ⊎ ((at ≡ xs) × (n ≡ m))
part_in [] [] n m below h = let e : n ≡ m = cc in inr (refl, e)
part_in [] (x ∷ []) n m below h = absurd (cc)
part_in [] (x ∷ y ∷ xs) n m below h = absurd (cc)
part_in (a ∷ at) [] n m below h = let e : a ≡ m = cc in inl (at, (λ i. e i ∷ at))
part_in (a ∷ at) (x ∷ xs) n m below h =
    let e : a ≡ x = cc in
    let f : at ++ n ∷ [] ≡ xs ++ m ∷ below = cc in
    ⊎_elim
    (λ (k : (rest : List ℕ) × IsIn xs m rest at). inl (k.0, (λ i. e i ∷ k.1 i)))
    (λ (k : (at ≡ xs) × (n ≡ m)). inr ((λ i. e i ∷ k.0 i), k.1))
    (part_in at xs n m below f)

pub no_longer : (at : List ℕ) (n : ℕ) (xs : List ℕ) → at ≡ at ++ n ∷ xs → ⊥
no_longer at n xs h = let e : length at ≡ length (at ++ n ∷ xs) = ap length h in omega (arith, e, length-append at (n ∷ xs))

-- ---- pairs

pub row : {X : Type 0} (R : X → X → Type 0) (a : X) (xs ys : List X) → AllByRecursion (λ (y : X). AllByRecursion (R y) (a ∷ xs)) ys → AllByRecursion (λ (y : X). R y a) ys × AllByRecursion (λ (y : X). AllByRecursion (R y) xs) ys
row R a xs [] h = (tt, tt)
row R a xs (y ∷ ys) h = let k = row R a xs ys h.1 in ((h.0.0, k.0), (h.0.1, k.1))

column : {X : Type 0} (R : X → X → Type 0) (a : X) (xs ys : List X) → AllByRecursion (λ (y : X). R y a) ys → AllByRecursion (λ (y : X). AllByRecursion (R y) xs) ys → AllByRecursion (λ (y : X). AllByRecursion (R y) (a ∷ xs)) ys
column R a xs [] h k = tt
column R a xs (y ∷ ys) h k = ((h.0, k.0), column R a xs ys h.1 k.1)

pub pairs_cons : {X : Type 0} (R : X → X → Type 0) (a : X) (xs : List X) → R a a → AllByRecursion (R a) xs → AllByRecursion (λ (y : X). R y a) xs → AllPairs R xs → AllPairs R (a ∷ xs)
pairs_cons R a xs self out into h = ((self, out), column R a xs xs into h)

all_and : {X : Type 0} (P Q S : X → Type 0) (xs : List X) → ((x : X) → P x → Q x → S x) → AllByRecursion P xs → AllByRecursion Q xs → AllByRecursion S xs
all_and P Q S [] f h k = tt
all_and P Q S (x ∷ xs) f h k = (f x h.0 k.0, all_and P Q S xs f h.1 k.1)

module _ {Op Ans : Type 0} (r : Reach Op) where
  abbrev Clear : List (Deed (Labelled Op) Ans) → List (Seat Op) → Type 0
  Clear ds seats = AreClear r ds seats

  -- a node is gone
  pub clear_ends : (ds : List (Deed (Labelled Op) Ans)) (s : Seat Op) (seats : List (Seat Op)) → Clear ds (s ∷ seats) → Clear ds seats
  clear_ends ds s seats h = record {
    clear = h.clear.1;
    done = h.done.1;
    free = (row (FreeOf r) s seats seats h.free.1).1;
    flying = (row (λ (s q : Seat Op). Holds s q.op.at) s seats seats h.flying.1).1;
    differ = h.differ.1;
  }

  -- a node that is one operation does it: it stands in order, and the others stay clear
  pub clear_of : (ds : List (Deed (Labelled Op) Ans)) (s : Seat Op) (seats : List (Seat Op)) → Clear ds (s ∷ seats) → r.Stays s.op s.op → AllByRecursion (λ (e : Deed (Labelled Op) Ans). Earlier s.op e.op → r.Passes e.op s.op) ds
  clear_of ds s seats h own = all_weaker (λ (e : Deed (Labelled Op) Ans). Earlier s.op e.op → Away r s.op e.op) (λ (e : Deed (Labelled Op) Ans). Earlier s.op e.op → r.Passes e.op s.op) ds (λ e k l. k l s.op own) h.clear.0

  pub clear_does : (ds : List (Deed (Labelled Op) Ans)) (s : Seat Op) (v : Ans) (seats : List (Seat Op)) → Clear ds (s ∷ seats) → r.Stays s.op s.op → Clear (ds ++ record { op = s.op; answer = v } ∷ []) (s ∷ seats)
  clear_does ds s v seats h own =
      let d : Deed (Labelled Op) Ans = record { op = s.op; answer = v } in
      let free = row (FreeOf r) s seats seats h.free.1 in
      let flying = row (λ (s q : Seat Op). Holds s q.op.at) s seats seats h.flying.1 in
      record {
        clear = (
          all_append (λ (e : Deed (Labelled Op) Ans). Earlier s.op e.op → Away r s.op e.op) ds (d ∷ []) h.clear.0 ((λ k. absurd (below_itself s.op.at k)), tt),
          all_and (λ (q : Seat Op). AllByRecursion (λ (e : Deed (Labelled Op) Ans). Earlier q.op e.op → Away r q.op e.op) ds) (λ (q : Seat Op). FreeOf r q s) (λ (q : Seat Op). AllByRecursion (λ (e : Deed (Labelled Op) Ans). Earlier q.op e.op → Away r q.op e.op) (ds ++ d ∷ [])) seats
              (λ q old f. all_append (λ (e : Deed (Labelled Op) Ans). Earlier q.op e.op → Away r q.op e.op) ds (d ∷ []) old ((λ k. f k s.op own), tt)) h.clear.1 free.0,
        );
        done = (
          all_append (λ (e : Deed (Labelled Op) Ans). Holds s e.op.at) ds (d ∷ []) h.done.0 (h.flying.0.0, tt),
          all_and (λ (q : Seat Op). AllByRecursion (λ (e : Deed (Labelled Op) Ans). Holds q e.op.at) ds) (λ (q : Seat Op). Holds q s.op.at) (λ (q : Seat Op). AllByRecursion (λ (e : Deed (Labelled Op) Ans). Holds q e.op.at) (ds ++ d ∷ [])) seats
              (λ q old f. all_append (λ (e : Deed (Labelled Op) Ans). Holds q e.op.at) ds (d ∷ []) old (f, tt)) h.done.1 flying.0,
        );
        free = h.free;
        flying = h.flying;
        differ = h.differ;
      }

  -- A node hands out its next operation, which stays within its own, and is free of all in flight within it.
  pub clear_grows : (ds : List (Deed (Labelled Op) Ans)) (s : Seat Op) (op : Op) (seats : List (Seat Op)) → Clear ds (s ∷ seats)
      → ((b : Labelled Op) → r.Stays (record { at = s.op.at ++ s.next ∷ []; op = op }) b → r.Stays s.op b)
      → AllByRecursion (λ (q : Seat Op). (n : ℕ) (below : List ℕ) → IsIn s.op.at n below q.op.at → Free r q.op (record { at = s.op.at ++ s.next ∷ []; op = op })) seats
      → Clear ds (record { op = record { at = s.op.at ++ s.next ∷ []; op = op }; next = 0 } ∷ record { op = s.op; next = suc s.next } ∷ seats)
  clear_grows ds s op seats h stays within =
      let at : List ℕ = s.op.at ++ s.next ∷ [] in
      let c : Seat Op = record { op = record { at = at; op = op }; next = 0 } in
      let new : Seat Op = record { op = s.op; next = suc s.next } in
      let free = row (FreeOf r) s seats seats h.free.1 in
      let flying = row (λ (s q : Seat Op). Holds s q.op.at) s seats seats h.flying.1 in
      let narrower : (d : Labelled Op) → Away r s.op d → Away r c.op d = λ d k b l. k b (stays b l) in
      let more : (x : List ℕ) → Holds s x → Holds new x = λ x k n below i. let l : n < s.next = k n below i in omega arith in
      let none : (x : List ℕ) → Holds s x → Holds c x = λ x k n below i. let l : s.next < s.next = k s.next (n ∷ below) (i ∙ append_assoc s.op.at (s.next ∷ []) (n ∷ below)) in absurd (omega arith) in
      let behind : (x : List ℕ) → Holds s x → Below at x → Below s.op.at x = λ x k l.
      ⊎_elim (λ (b : Below s.op.at x). b) (λ (b : (m : ℕ) × (below : List ℕ) × IsIn s.op.at m below x × (s.next < m)). let l : b.0 < s.next = k b.0 b.1 b.2 in let e : s.next < b.0 = b.3 in absurd (omega arith)) (behind_part s.op.at s.next x l) in
      let place : s.op.at ≡ at → ⊥ = λ e. no_longer s.op.at s.next [] e in
      record {
        clear = (
          all_and (λ (e : Deed (Labelled Op) Ans). Earlier s.op e.op → Away r s.op e.op) (λ (e : Deed (Labelled Op) Ans). Holds s e.op.at) (λ (e : Deed (Labelled Op) Ans). Below at e.op.at → Away r c.op e.op) ds
              (λ e k l b. narrower e.op (k (behind e.op.at l b))) h.clear.0 h.done.0,
          h.clear,
        );
        done = (
          all_weaker (λ (e : Deed (Labelled Op) Ans). Holds s e.op.at) (λ (e : Deed (Labelled Op) Ans). Holds c e.op.at) ds (λ e k. none e.op.at k) h.done.0,
          (all_weaker (λ (e : Deed (Labelled Op) Ans). Holds s e.op.at) (λ (e : Deed (Labelled Op) Ans). Holds new e.op.at) ds (λ e k. more e.op.at k) h.done.0, h.done.1),
        );
        free = pairs_cons (FreeOf r) c (new ∷ seats)
            (λ k. absurd (below_itself at k))
            ((λ k. absurd (no_back s.op.at s.next [] k)), all_and (FreeOf r s) (λ (q : Seat Op). Holds s q.op.at) (FreeOf r c) seats (λ q f k l d m. narrower d (f (behind q.op.at k l) d m)) h.free.0.1 h.flying.0.1) (
              (λ k. absurd (no_front s.op.at s.next [] k)),
              all_and (λ (q : Seat Op). FreeOf r q s) (λ (q : Seat Op). (n : ℕ) (below : List ℕ) → IsIn s.op.at n below q.op.at → Free r q.op (record { at = s.op.at ++ s.next ∷ []; op = op })) (λ (q : Seat Op). FreeOf r q c) seats
                  (λ q f w l. ⊎_elim (λ (b : Below q.op.at s.op.at). λ d m. f b d (stays d m)) (λ (b : (m : ℕ) × (below : List ℕ) × IsIn s.op.at m below q.op.at). w b.0 b.1 b.2) (before_part q.op.at s.op.at s.next l)) free.0 within,
            )
            (pairs_cons (FreeOf r) new seats h.free.0.0 h.free.0.1 free.0 free.1);
        flying = pairs_cons (λ (s q : Seat Op). Holds s q.op.at) c (new ∷ seats)
            (λ n below i. absurd (no_longer at n below i))
            (none s.op.at h.flying.0.0, all_weaker (λ (q : Seat Op). Holds s q.op.at) (λ (q : Seat Op). Holds c q.op.at) seats (λ q k. none q.op.at k) h.flying.0.1) (
              (λ n below i. ⊎_elim (λ (b : (rest : List ℕ) × IsIn s.op.at n rest s.op.at). absurd (no_longer s.op.at n b.0 b.1)) (λ (b : (s.op.at ≡ s.op.at) × (s.next ≡ n)). let e : s.next ≡ n = b.1 in omega arith) (part_in s.op.at s.op.at s.next n below i)),
              all_and (λ (q : Seat Op). Holds q s.op.at) (λ (q : Seat Op). s.op.at ≡ q.op.at → ⊥) (λ (q : Seat Op). Holds q at) seats
                  (λ q k ne n below i. ⊎_elim (λ (b : (rest : List ℕ) × IsIn q.op.at n rest s.op.at). k n b.0 b.1) (λ (b : (s.op.at ≡ q.op.at) × (s.next ≡ n)). absurd (ne b.0)) (part_in s.op.at q.op.at s.next n below i)) flying.0 h.differ.0,
            )
            (pairs_cons (λ (s q : Seat Op). Holds s q.op.at) new seats (more s.op.at h.flying.0.0) (all_weaker (λ (q : Seat Op). Holds s q.op.at) (λ (q : Seat Op). Holds new q.op.at) seats (λ q k. more q.op.at k) h.flying.0.1) flying.0 flying.1);
        differ = (
          ((λ e. place (sym e)), all_weaker (λ (q : Seat Op). Holds s q.op.at) (λ (q : Seat Op). at ≡ q.op.at → ⊥) seats (λ q k e. let l : s.next < s.next = k s.next [] (sym e) in omega arith) h.flying.0.1),
          h.differ,
        );
      }
