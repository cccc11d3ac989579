-- The loops over receipts and passes.
use Rattle.std.proofs.Common.{◌≡◌, ℕ, ◌+◌, ◌<◌, ◌≤◌, cond, eqb, List, [], ◌∷◌, ◌++◌, length, set, get_or, slice_index_or, slice_get, sym, ap, ◌∙◌, arith, All, subst, Some, Option}
use Rattle.std.proofs.lemmas.List.{get_or-set_same, get_or-set_other, get_or_default, length-append}
use Rattle.std.proofs.lemmas.List.Elements.{All-nil, All-cons, All-head, All-tail, All-push}
use native.Mathlib.Decide.{ℕ_discrete}
use Rattle.atomic_table.specs.declared.shared.Seat.{Seat}
use Rattle.atomic_table.specs.Table.{Me}
use Rattle.zio_book.specs.declared.book.Book.{Book}
use Rattle.zio_book.specs.declared.book.Pass.{Pass}
use Rattle.zio_book.specs.declared.book.Receipt.{Receipt}
use Rattle.zio_book.specs.declared.view.View.{View}
use Rattle.zio_book.specs.declared.view.WithHistory.{WithHistory}
use Rattle.zio_book.specs.History.{Follows, AllFollow, total, times}
use Rattle.zio_book.specs.Rule.{idle}
use Rattle.zio_book.specs.Books.{IsSeatOf, IsPassOf, IsReceiptOf, IsSameReceipt, IsShown, Claims, Learned, StandsAt, acts_of, first_state}
use Rattle.zio_book.proofs.Sums.{total_append}

module _ {X : Type 0} (R : X → X → Type 0) (k : ℕ) (initial team : List X) (item after : X) (within : k < length team)
    (before : (j : ℕ) (d : X) → j < k → R (slice_index_or initial j d) (slice_index_or team j d))
    (rest : (j : ℕ) (d : X) → k ≤ j → slice_index_or team j d ≡ slice_index_or initial j d)
    (now : R (get_or team k item) after) where
  at_turn : (j : ℕ) (d : X) → j < k + 1 → Dec (j ≡ k) → R (slice_index_or initial j d) (slice_index_or (set team k after) j d)
  at_turn j d h (no apart) = subst (λ y. R (slice_index_or initial j d) y) (sym (get_or-set_other team k j after d apart)) (before j d (omega arith))
  at_turn j d h (yes same) =
      let there : slice_index_or (set team k after) j d ≡ after = ap (λ i. get_or (set team k after) i d) same ∙ get_or-set_same team k after d within in
      let was : get_or team k item ≡ slice_index_or initial j d = get_or_default team k item d within ∙ ap (λ i. get_or team i d) (sym same) ∙ rest j d (omega arith) in
      subst (λ y. R (slice_index_or initial j d) y) (sym there) (subst (λ y. R y after) was now)

  pub turn : (j : ℕ) (d : X) → j < k + 1 → R (slice_index_or initial j d) (slice_index_or (set team k after) j d)
  turn j d h = at_turn j d h (ℕ_discrete j k)

  pub turn_rest : (j : ℕ) (d : X) → k + 1 ≤ j → slice_index_or (set team k after) j d ≡ slice_index_or initial j d
  turn_rest j d h = get_or-set_other team k j after d (λ e. omega arith) ∙ rest j d (omega arith)

pub all_init : {A : Type 0} (P : A → Type 0) (ys : List A) (x : A) → All P (ys ++ x ∷ []) → All P ys × P x
all_init P [] x a = (All-nil P, All-head P x [] a)
all_init P (y ∷ ys) x a = let r = all_init P ys x (All-tail P y (ys ++ x ∷ []) a) in (All-cons P y ys (All-head P y (ys ++ x ∷ []) a) r.0, r.1)

all_left : {A : Type 0} (P : A → Type 0) (xs ys : List A) → All P (xs ++ ys) → All P xs
all_left P [] ys a = All-nil P
all_left P (x ∷ xs) ys a = All-cons P x xs (All-head P x (xs ++ ys) a) (all_left P xs ys (All-tail P x (xs ++ ys) a))

all_right : {A : Type 0} (P : A → Type 0) (xs ys : List A) → All P (xs ++ ys) → All P ys
all_right P [] ys a = a
all_right P (x ∷ xs) ys a = all_right P xs ys (All-tail P x (xs ++ ys) a)

module _ {H C R N : Type 0} (book : Book H C R N) where
  abbrev V : Type 0
  V = View H N

  abbrev S : Type 0
  S = Option (WithHistory H N)

  pub copy_of : (a b : Receipt H C R N) → IsReceiptOf book a → IsSameReceipt book a b → IsReceiptOf book b
  copy_of a b is same = (is.0, is.1, same.1 is.0 is.1 is.2)

  -- one more receipt is learned
  pub learn_step : (k : ℕ) (initial team : List (Receipt H C R N)) (item note : Receipt H C R N) (claims claims' : List (List N × N)) → k < length team → ((j : ℕ) (d : Receipt H C R N) → k ≤ j → slice_index_or team j d ≡ slice_index_or initial j d)
      → IsReceiptOf book (get_or team k item) → IsSameReceipt book (get_or team k item) note → Claims book note claims claims' → ((j : ℕ) (d : Receipt H C R N) → j < k → Learned claims (slice_index_or initial j d).number)
      → (j : ℕ) (d : Receipt H C R N) → j < k + 1 → Learned claims' (slice_index_or initial j d).number
  learn_step k initial team item note claims claims' within rest of same more before j d h n all = by (ℕ_discrete j k) where
    mine : Receipt H C R N
    mine = get_or team k item

    now : claims' ≡ (of.0, of.1) ∷ claims
    now = more of.0 of.1 (same.1 of.0 of.1 of.2)

    all' : All (λ (c : List N × N). length c.0 < n) ((of.0, of.1) ∷ claims)
    all' = subst (All (λ (c : List N × N). length c.0 < n)) now all

    by : Dec (j ≡ k) → (slice_index_or initial j d).number < n
    by (no apart) = before j d (omega arith) n (All-tail (λ (c : List N × N). length c.0 < n) (of.0, of.1) claims all')
    by (yes e) =
        let was : get_or team k item ≡ slice_index_or initial j d = get_or_default team k item d within ∙ ap (λ i. get_or team i d) (sym e) ∙ rest j d (omega arith) in
        let number = of.2.number in
        let i = ap (λ (y : Receipt H C R N). y.number) was in
        let below = All-head (λ (c : List N × N). length c.0 < n) (of.0, of.1) claims all' in omega arith

  -- where the number is above all claims, it is above all that were learned
  pub all_later : (xs : List (Receipt H C R N)) (claims : List (List N × N)) (n : ℕ) → ((j : ℕ) (d : Receipt H C R N) → j < length xs → Learned claims (slice_index_or xs j d).number) → All (λ (c : List N × N). length c.0 < n) claims → All (λ (a : Receipt H C R N). a.number < n) xs
  all_later xs claims n learned all = λ j d h. learned j d h n all

  -- a seat that took in a pass
  pub joined_seat : (old pass new : Seat S V) → IsSeatOf book old.me.0.passes old → IsSeatOf book 1 pass → new.table_id ≡ old.table_id
      → new.me ≡ (idle (old.me.0.passes + pass.me.0.passes) (old.me.0.acts ++ pass.me.0.acts) (pass.me.0.claims ++ old.me.0.claims) old.me.0.first, old.me.1)
      → IsSeatOf book new.me.0.passes new × (new.me.0.passes ≡ old.me.0.passes + 1) × (new.me.0.acts ≡ old.me.0.acts ++ pass.me.0.acts)
  joined_seat old pass new is one table me =
      let f : old.me.0.first ≡ Some (first_state book) = ap (λ (v : V). v.first) is.view in (
        record {
          table = table ∙ is.table;
          free = ap (λ (m : Me S V). m.1) me ∙ is.free;
          view = ap (λ (m : Me S V). m.0) me ∙ ap (idle (old.me.0.passes + pass.me.0.passes) (old.me.0.acts ++ pass.me.0.acts) (pass.me.0.claims ++ old.me.0.claims)) f
              ∙ ap (λ (m : Me S V). idle m.0.passes m.0.acts m.0.claims (Some (first_state book))) (sym me);
        },
        ap (λ (m : Me S V). m.0.passes) me ∙ ap (λ (v : V). old.me.0.passes + v.passes) one.view,
        ap (λ (m : Me S V). m.0.acts) me,
      )

  -- the sums and the notes after one more pass
  pub gather_sum : (passes more all : List (Pass H C R N)) (x : Pass H C R N) (acts acts' : List (ℕ × N)) → passes ≡ more ++ x ∷ [] → acts' ≡ acts ++ acts_of x
      → ((k : ℕ) → times k acts + total (λ (p : Pass H C R N). times k (acts_of p)) passes ≡ total (λ (p : Pass H C R N). times k (acts_of p)) all)
      → (k : ℕ) → times k acts' + total (λ (p : Pass H C R N). times k (acts_of p)) more ≡ total (λ (p : Pass H C R N). times k (acts_of p)) all
  gather_sum passes more all x acts acts' e f sum k =
      let a = ap (total (λ (p : Pass H C R N). times k (acts_of p))) e ∙ total_append (λ (p : Pass H C R N). times k (acts_of p)) more (x ∷ []) in
      let b = ap (times k) f ∙ total_append (λ (y : ℕ × N). cond (eqb k y.0) 1 0) acts (acts_of x) in
      let c = sum k in omega arith

  pub gather_notes : (passes more all : List (Pass H C R N)) (x : Pass H C R N) (acts acts' : List (ℕ × N)) → passes ≡ more ++ x ∷ [] → acts' ≡ acts ++ acts_of x
      → ((log : List N) → StandsAt log acts → All (λ (p : Pass H C R N). StandsAt log (acts_of p)) passes → All (λ (p : Pass H C R N). StandsAt log (acts_of p)) all)
      → (log : List N) → StandsAt log acts' → All (λ (p : Pass H C R N). StandsAt log (acts_of p)) more → All (λ (p : Pass H C R N). StandsAt log (acts_of p)) all
  gather_notes passes more all x acts acts' e f notes log stands rest =
      let P : ℕ × N → Type 0 = λ a. slice_get log a.0 ≡ Some a.1 in
      let both : All P (acts ++ acts_of x) = subst (All P) f stands in
      notes log (all_left P acts (acts_of x) both) (subst (All (λ (p : Pass H C R N). StandsAt log (acts_of p))) (sym e) (All-push (λ (p : Pass H C R N). StandsAt log (acts_of p)) more x rest (all_right P acts (acts_of x) both)))

  -- the receipts after one more
  pub show_step : (shown more all : List (Receipt H C R N)) (x : Receipt H C R N) (claims claims' : List (List N × N)) → shown ≡ more ++ x ∷ [] → IsReceiptOf book x → Claims book x claims claims'
      → ((log : List N) → AllFollow log claims → All (IsShown book log) shown → All (IsShown book log) all)
      → (log : List N) → AllFollow log claims' → All (IsShown book log) more → All (IsShown book log) all
  show_step shown more all x claims claims' e of c step log follow rest =
      let Q : List N × N → Type 0 = λ y. Follows log y.0 y.1 in
      let first : IsShown book log x = λ before note is. All-head Q (before, note) claims (subst (All Q) (c before note is) follow) in
      step log (All-tail Q (of.0, of.1) claims (subst (All Q) (c of.0 of.1 of.2) follow)) (subst (All (IsShown book log)) (sym e) (All-push (IsShown book log) more x rest first))

  -- the first pass that was taken
  pub gather_first : (passes more : List (Pass H C R N)) (x : Pass H C R N) (n : ℕ) → passes ≡ more ++ x ∷ [] → length passes ≡ n → All (IsPassOf book) passes
      → IsSeatOf book x.seat.me.0.passes x.seat × (x.seat.me.0.passes + length more ≡ n) × All (IsPassOf book) more
      × ((k : ℕ) → times k (acts_of x) + total (λ (p : Pass H C R N). times k (acts_of p)) more ≡ total (λ (p : Pass H C R N). times k (acts_of p)) passes)
      × ((log : List N) → StandsAt log (acts_of x) → All (λ (p : Pass H C R N). StandsAt log (acts_of p)) more → All (λ (p : Pass H C R N). StandsAt log (acts_of p)) passes)
  gather_first passes more x n e size own =
      let both = all_init (IsPassOf book) more x (subst (All (IsPassOf book)) e own) in
      let p : x.seat.me.0.passes ≡ 1 = ap (λ (v : V). v.passes) both.1.view in (
        subst (λ m. IsSeatOf book m x.seat) (sym p) both.1,
        (let l = ap length e in let m = length-append more (x ∷ []) in omega arith),
        both.0,
        (λ k. let a = ap (total (λ (y : Pass H C R N). times k (acts_of y))) e in let b = total_append (λ (y : Pass H C R N). times k (acts_of y)) more (x ∷ []) in omega arith),
        (λ log stands rest. subst (All (λ (y : Pass H C R N). StandsAt log (acts_of y))) (sym e) (All-push (λ (y : Pass H C R N). StandsAt log (acts_of y)) more x rest stands)),
      )

  pub gather_next : (passes more all : List (Pass H C R N)) (x : Pass H C R N) (old new : Seat S V) (n : ℕ) → passes ≡ more ++ x ∷ [] → IsSeatOf book old.me.0.passes old → (old.me.0.passes + length passes ≡ n) → All (IsPassOf book) passes
      → ((k : ℕ) → times k old.me.0.acts + total (λ (p : Pass H C R N). times k (acts_of p)) passes ≡ total (λ (p : Pass H C R N). times k (acts_of p)) all)
      → ((log : List N) → StandsAt log old.me.0.acts → All (λ (p : Pass H C R N). StandsAt log (acts_of p)) passes → All (λ (p : Pass H C R N). StandsAt log (acts_of p)) all)
      → new.table_id ≡ old.table_id
      → new.me ≡ (idle (old.me.0.passes + x.seat.me.0.passes) (old.me.0.acts ++ x.seat.me.0.acts) (x.seat.me.0.claims ++ old.me.0.claims) old.me.0.first, old.me.1)
      → IsSeatOf book new.me.0.passes new × (new.me.0.passes + length more ≡ n) × All (IsPassOf book) more
      × ((k : ℕ) → times k new.me.0.acts + total (λ (p : Pass H C R N). times k (acts_of p)) more ≡ total (λ (p : Pass H C R N). times k (acts_of p)) all)
      × ((log : List N) → StandsAt log new.me.0.acts → All (λ (p : Pass H C R N). StandsAt log (acts_of p)) more → All (λ (p : Pass H C R N). StandsAt log (acts_of p)) all)
  gather_next passes more all x old new n e is size own sum notes table me =
      let both = all_init (IsPassOf book) more x (subst (All (IsPassOf book)) e own) in
      let j = joined_seat old x.seat new is both.1 table me in (
        j.0,
        (let l = ap length e in let m = length-append more (x ∷ []) in let p = j.1 in omega arith),
        both.0,
        gather_sum passes more all x old.me.0.acts new.me.0.acts e j.2 sum,
        gather_notes passes more all x old.me.0.acts new.me.0.acts e j.2 notes,
      )
