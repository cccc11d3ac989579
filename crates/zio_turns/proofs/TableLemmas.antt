-- What a table keeps when it is made, when a value is put or taken, and when its values move to another.
use Rattle.std.proofs.Common.{◌≡◌, ℕ, zero, suc, ◌+◌, ◌-◌, ◌*◌, ◌/◌, ◌<◌, ◌≤◌, ◌∙◌, List, [], ◌∷◌, ◌++◌, length, take, drop, min, replicate, slice_index, slice_set, get_or, set, Option, Some, None, refl, ap, sym, subst, arith, length-append, length-set, append-nil}
use Rattle.std.proofs.Math.Numerals.{add-one}
use Rattle.std.proofs.lemmas.List.{drop-replicate, get_or-replicate, length-replicate, length-take, take-append-drop, take_more}
use Rattle.zio_turns.specs.LineSums.{AreSums, IsSize, places_of, size, sum_of}
use Rattle.zio_turns.specs.LinePlaces.{Held, IsKept, marks, standing}
use Rattle.zio_turns.proofs.SumLemmas.{length_places}
use Rattle.zio_turns.proofs.PlaceLemmas.{length_marks, sum_marks, Taken, take_at, still_unused, Put, put_at}

pub same_held : {a b : List ℕ} {m n u v : ℕ} → a ≡ b → m ≡ n → u ≡ v
    → ◌≡◌ {A = Held} record { waiting = a; size = m; used = u } record { waiting = b; size = n; used = v }
same_held p q r = λ i. record { waiting = p i; size = q i; used = r i }

pub kept_at : {nodes now : List ℕ} {places : List (Option ℕ)} {used : ℕ} → now ≡ nodes → IsKept nodes places used
    → IsKept now places used
kept_at {places = places} {used = used} e k = subst (λ ns. IsKept ns places used) (sym e) k

-- what is known of the nodes
pub kept_sum : (nodes : List ℕ) (places : List (Option ℕ)) (used : ℕ) → IsKept nodes places used
    → sum_of (places_of nodes) ≡ length (standing places)
kept_sum nodes places used k = ap sum_of k.marked ∙ sum_marks places

pub kept_length : (nodes : List ℕ) (places : List (Option ℕ)) (used : ℕ) → IsKept nodes places used
    → length (places_of nodes) ≡ length places
kept_length nodes places used k = ap length k.marked ∙ length_marks places

pub kept_size : (nodes : List ℕ) (places : List (Option ℕ)) (used : ℕ) → IsKept nodes places used
    → IsSize (length places) × (2 * length places ≡ length nodes)
kept_size nodes places used k =
    let n : length nodes / 2 ≡ length places = sym (length_places nodes k.sums) ∙ kept_length nodes places used k in
    (subst IsSize n k.sums.sized, omega (arith, k.sums.halves))

pub standing_few : (places : List (Option ℕ)) → length (standing places) ≤ length places
standing_few [] = omega arith
standing_few (None ∷ places) = omega (arith, standing_few places)
standing_few (Some value ∷ places) = omega (arith, standing_few places)

-- a table of this size with nothing in it
marks_none : (n : ℕ) → marks (replicate n None) ≡ replicate n 0
marks_none zero = refl
marks_none (suc n) = ap (λ ms. 0 ∷ ms) (marks_none n)

standing_none : (n : ℕ) → standing (replicate n None) ≡ []
standing_none zero = refl
standing_none (suc n) = standing_none n

pub kept_empty : (n : ℕ) → IsSize n → IsKept (replicate (2 * n) 0) (replicate n None) 0
kept_empty n s =
    let zeros : List ℕ = replicate (2 * n) 0 in
    let l : length zeros ≡ 2 * n = length-replicate (2 * n) 0 in
    let half : n ≡ length zeros / 2 = omega arith in
    record {
      sums =
          record {
            halves = omega arith;
            sized = subst IsSize half s;
            sums = λ i p q. get_or-replicate (2 * n) i 0 0 (omega arith)
                ∙ sym (twice (get_or-replicate (2 * n) (2 * i) 0 0 (omega arith)) (get_or-replicate (2 * n) (2 * i + 1) 0 0 (omega arith)));
          };
      marked = ap (λ m. drop m zeros) (sym half)
          ∙ (drop-replicate n (2 * n) 0 ∙ (ap (λ m. replicate m 0) (rest n) ∙ sym (marks_none n)));
      fits = omega arith;
      unused = standing_none n;
    }
  where
    twice : {a b : ℕ} → a ≡ 0 → b ≡ 0 → a + b ≡ 0
    twice p q = omega arith

    rest : (n : ℕ) → 2 * n - n ≡ n
    rest n = omega arith

pub kept_new : (n : ℕ) (nodes : List ℕ) (places : List (Option ℕ)) → IsSize n → nodes ≡ replicate (2 * n) 0
    → places ≡ replicate n None → IsKept nodes places 0
kept_new n nodes places s e f = subst (λ ps. IsKept nodes ps 0) (sym f) (subst (λ ns. IsKept ns (replicate n None) 0) (sym e) (kept_empty n s))

pub stands_none : (n : ℕ) (places : List (Option ℕ)) → places ≡ replicate n None → standing places ≡ []
stands_none n places e = ap standing e ∙ standing_none n

-- a value is put at the next place
pub kept_put : {nodes now : List ℕ} {places : List (Option ℕ)} {used : ℕ} (value : ℕ) → IsKept nodes places used
    → used < length places → AreSums now
    → places_of now ≡ slice_set (places_of nodes) used (slice_index (places_of nodes) used + 1)
    → IsKept now (set places used (Some value)) (used + 1)
kept_put {places = places} {used = used} value k p s e =
    let t : Put places used value = put_at places used value p k.unused in
    let one : slice_index (marks places) used + 1 ≡ 1 = omega (arith, t.mark) in
    record {
      sums = s;
      marked = e
          ∙ (ap (λ ms. slice_set ms used (slice_index ms used + 1)) k.marked
          ∙ (ap (slice_set (marks places) used) one ∙ sym t.marked));
      fits = omega (arith, length-set places used (Some value));
      unused = ap (λ n. standing (drop n (set places used (Some value)))) (add-one used) ∙ t.unused;
    }

pub stands_put : {nodes : List ℕ} {places : List (Option ℕ)} {used : ℕ} (value : ℕ) → IsKept nodes places used
    → used < length places
    → standing (set places used (Some value)) ≡ standing places ++ value ∷ []
stands_put {places = places} {used = used} value k p = (put_at places used value p k.unused).stands

-- the k-th value is taken from its place
pub kept_found : {nodes : List ℕ} {places : List (Option ℕ)} {used k place : ℕ} → IsKept nodes places used
    → place < length (places_of nodes)
    → sum_of (take place (places_of nodes)) ≤ k → k < sum_of (take (place + 1) (places_of nodes)) → Taken places k place
kept_found {nodes = nodes} {places = places} {used = used} {k = k} {place = place} h p b l =
    let before : sum_of (take place (places_of nodes)) ≡ sum_of (take place (marks places)) =
    ap (λ ms. sum_of (take place ms)) h.marked in
    let through : sum_of (take (place + 1) (places_of nodes)) ≡ sum_of (take (suc place) (marks places)) =
    ap (λ ms. sum_of (take (place + 1) ms)) h.marked ∙ ap (λ n. sum_of (take n (marks places))) (add-one place) in
    take_at places k place (omega (arith, kept_length nodes places used h)) (omega arith) (omega arith)

pub found_some : {nodes : List ℕ} {places : List (Option ℕ)} {used k place : ℕ} → IsKept nodes places used → Taken places k place
    → 0 < slice_index (places_of nodes) place
found_some {place = place} h t = omega (arith, ap (λ ms. slice_index ms place) h.marked, t.mark)

pub kept_take : {nodes now : List ℕ} {places : List (Option ℕ)} {used k place : ℕ} → IsKept nodes places used
    → Taken places k place → AreSums now
    → places_of now ≡ slice_set (places_of nodes) place (slice_index (places_of nodes) place - 1)
    → IsKept now (set places place None) used
kept_take {places = places} {used = used} {place = place} h t s e =
    let none : slice_index (marks places) place - 1 ≡ 0 = omega (arith, t.mark) in
    record {
      sums = s;
      marked = e
          ∙ (ap (λ ms. slice_set ms place (slice_index ms place - 1)) h.marked
          ∙ (ap (slice_set (marks places) place) none ∙ sym t.marked));
      fits = omega (arith, length-set places place None, h.fits);
      unused = still_unused places used place h.unused;
    }

-- twice as many places
doubled_height : (n : ℕ) → (0 < n) → (h : ℕ) → n ≡ size h → IsSize (2 * n)
doubled_height n p zero e = absurd (omega arith)
doubled_height n p (suc h) e = (suc (suc h), omega arith)

pub doubled : (n : ℕ) → 0 < n → IsSize n → IsSize (2 * n)
doubled n p s = doubled_height n p s.0 s.1

-- the values of the first places were moved to a table of this size
pub record Moving (places : List (Option ℕ)) (done size : ℕ) (table : Held) : Type 0 where
  pub waits : table.waiting ≡ standing (take done places)
  pub takes : table.used ≡ length table.waiting
  pub sized : table.size ≡ size

standing_append : (a b : List (Option ℕ)) → standing (a ++ b) ≡ standing a ++ standing b
standing_append [] b = refl
standing_append (None ∷ a) b = standing_append a b
standing_append (Some value ∷ a) b = ap (λ xs. value ∷ xs) (standing_append a b)

-- no more stand than places were used
pub standing_used : (places : List (Option ℕ)) (used : ℕ) → standing (drop used places) ≡ [] → length (standing places) ≤ used
standing_used places used none =
    let all : standing places ≡ standing (take used places) ++ standing (drop used places) =
    ap standing (sym (take-append-drop used places)) ∙ standing_append (take used places) (drop used places) in
    let taken : length (take used places) ≡ min used (length places) = length-take used places in
    omega (arith, ap length all, length-append (standing (take used places)) (standing (drop used places)), ap length none, standing_few (take used places))

standing_more : (places : List (Option ℕ)) (done : ℕ) (place : Option ℕ) → done < length places → get_or places done None ≡ place
    → standing (take (done + 1) places) ≡ standing (take done places) ++ standing (place ∷ [])
standing_more places done place p e =
    ap standing (take_more places done None p)
    ∙ (standing_append (take done places) (get_or places done None ∷ [])
    ∙ ap (λ o. standing (take done places) ++ standing (o ∷ [])) e)

pub move_none : {places : List (Option ℕ)} {done size : ℕ} {table : Held} → Moving places done size table → done < length places
    → get_or places done None ≡ None → Moving places (done + 1) size table
move_none {places = places} {done = done} m p e =
    record {
      waits = m.waits ∙ sym (standing_more places done None p e ∙ append-nil (standing (take done places)));
      takes = m.takes;
      sized = m.sized;
    }

pub move_some : {places : List (Option ℕ)} {done size value : ℕ} {table : Held} → Moving places done size table
    → done < length places
    → get_or places done None ≡ Some value
    → Moving places (done + 1) size record { waiting = table.waiting ++ value ∷ []; size = table.size; used = table.used + 1 }
move_some {places = places} {done = done} {value = value} {table = table} m p e =
    record {
      waits = ap (λ xs. xs ++ value ∷ []) m.waits ∙ sym (standing_more places done (Some value) p e);
      takes = omega (arith, m.takes, length-append table.waiting (value ∷ []));
      sized = m.sized;
    }

standing_front : (places : List (Option ℕ)) (done : ℕ) → length (standing (take done places)) ≤ length (standing places)
standing_front places zero = omega arith
standing_front [] (suc done) = omega arith
standing_front (None ∷ places) (suc done) = standing_front places done
standing_front (Some value ∷ places) (suc done) = omega (arith, standing_front places done)

-- fewer were moved than there are in the end
pub move_fewer : {places : List (Option ℕ)} {done size value : ℕ} {table : Held} → Moving places done size table
    → done < length places
    → get_or places done None ≡ Some value → length table.waiting < length (standing places)
move_fewer {places = places} {done = done} {value = value} m p e =
    let more : length (standing (take (done + 1) places)) ≡ length (standing (take done places)) + 1 =
    ap length (standing_more places done (Some value) p e) ∙ length-append (standing (take done places)) (value ∷ []) in
    omega (arith, ap length m.waits, standing_front places (done + 1))
