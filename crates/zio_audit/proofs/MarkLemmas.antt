-- The tables of requests: their marks and parents, as far as a list was read.
use Rattle.std.proofs.Common.{◌≡◌, ◌<◌, ◌≤◌, ◌+◌, ℕ, List, ◌∷◌, length, replicate, get_or, take, drop, set, cond, map, refl, sym, ap, subst, ◌∙◌, arith, Option, Some, None, ⊎_elim}
use Rattle.std.specs.Prelude.{slice_get}
use Rattle.std.proofs.lemmas.Bool.{cases_eq, ne_eqb, eq-eqb}
use Rattle.std.specs.List.{All, AllByRecursion}
use Rattle.std.proofs.lemmas.List.Elements.{All-more, All-weaker, recursion_from_All}
use Rattle.std.proofs.lemmas.List.{take_all, at_drop_more, at_drop_all, get_or-replicate, get_or-set_same, get_or-set_other, length-set, length-replicate}
use Rattle.std.proofs.lemmas.List.Sums.{fold_more}
use Rattle.std.proofs.lemmas.Option.{slice_get-get_or}
use Rattle.zio_types.specs.declared.journal.Completion.{Completion}
use Rattle.zio_script.specs.declared.script.Item.{Item}
use Rattle.zio_script.specs.declared.script.Item.TheVariants.{Request as RequestLine, Go, Clear}
use Rattle.zio_script.specs.declared.script.Request.{Request}
use Rattle.zio_audit.specs.declared.marks.Mark.{Mark}
use Rattle.zio_audit.specs.declared.marks.Mark.TheVariants.{Never, Due, Met}
use Rattle.zio_audit.specs.Marks.{AreMarksOf, AreParentsOf, due_after, due_in, may_meet, meet_each, named, parent_after, parent_of}

-- ---- reading and writing at an index

pub get_replicate : {X : Type 0} (len n : ℕ) (x : X) → n < len → slice_get (replicate len x) n ≡ Some x
get_replicate len n x below =
    let long : n < length (replicate len x) = omega (arith, length-replicate len x) in
    slice_get-get_or (replicate len x) n x long ∙ ap Some (get_or-replicate len n x x below)

pub get_set_same : {X : Type 0} (xs : List X) (n : ℕ) (x : X) → n < length xs → slice_get (set xs n x) n ≡ Some x
get_set_same xs n x below =
    let long : n < length (set xs n x) = omega (arith, length-set xs n x) in
    slice_get-get_or (set xs n x) n x long ∙ ap Some (get_or-set_same xs n x x below)

get_set_within : {X : Type 0} (xs : List X) (n m : ℕ) (x : X) → (m ≡ n → ⊥) → m < length xs → slice_get (set xs n x) m ≡ slice_get xs m
get_set_within xs n m x other below =
    let long : m < length (set xs n x) = omega (arith, length-set xs n x) in
    slice_get-get_or (set xs n x) m x long ∙ ap Some (get_or-set_other xs n m x x other) ∙ sym (slice_get-get_or xs m x below)

pub get_set_other : {X : Type 0} (xs : List X) (n m : ℕ) (x : X) → (m ≡ n → ⊥) → m < length xs → slice_get (set xs n x) m ≡ slice_get xs m
get_set_other xs n m x other below = get_set_within xs n m x other below

-- ---- marks

-- so many of those that are due stand in the table
pub record HaveMarks (due : List Completion) (len i : ℕ) (marks : List Mark) : Type 0 where
  pub long : length marks ≡ len
  pub each : AreMarksOf (take i due) marks len

due_more : (due : List Completion) (i n : ℕ) (d : Completion) → i < length due → due_in (take (i + 1) due) n ≡ due_after n (due_in (take i due) n) (get_or due i d)
due_more due i n d below = fold_more (due_after n) Never due i d below

pub no_marks : (due : List Completion) (len : ℕ) (marks : List Mark) → marks ≡ replicate len Never → HaveMarks due len 0 marks
no_marks due len marks is = subst (HaveMarks due len 0) (sym is) (record { long = length-replicate len Never; each = λ n below. get_replicate len n Never below })

put_at : (mark : Mark) (c : Completion) (n : ℕ) → c.request ≡ n → due_after n mark c ≡ Due c.round
put_at mark c n same = ap (λ b. cond b (Due c.round) mark) (eq-eqb c.request n same)

kept_at : (mark : Mark) (c : Completion) (n : ℕ) → (c.request ≡ n → ⊥) → due_after n mark c ≡ mark
kept_at mark c n other = ap (λ b. cond b (Due c.round) mark) (ne_eqb c.request n other)

-- one more is due, in the table
pub mark_put : (due : List Completion) (marks next : List Mark) (len i : ℕ) (d : Completion) → i < length due → (get_or due i d).request < len → HaveMarks due len i marks
    → next ≡ set marks ((get_or due i d).request) (Due ((get_or due i d).round)) → HaveMarks due len (i + 1) next
mark_put due marks next len i d below room have is =
    let c : Completion = get_or due i d in
    let long : length marks ≡ len = have.long in
    let at : slice_get (set marks c.request (Due c.round)) c.request ≡ Some (Due c.round) = get_set_same marks c.request (Due c.round) (omega arith) in
    subst (HaveMarks due len (i + 1)) (sym is) (record {
      long = length-set marks c.request (Due c.round) ∙ long;
      each = λ n small.
          let within : n < length marks = omega arith in
          let more = due_more due i n d below in
          ⊎_elim
          (λ same.
          subst (λ m. slice_get (set marks c.request (Due c.round)) m ≡ Some (Due c.round)) same at
          ∙ ap Some (sym (put_at (due_in (take i due) n) c n same)) ∙ ap Some (sym more))
          (λ other.
          get_set_other marks c.request n (Due c.round) (λ e. other (sym e)) within ∙ have.each n small
          ∙ ap Some (sym (kept_at (due_in (take i due) n) c n other)) ∙ ap Some (sym more))
          (cases_eq c.request n);
    })

-- one more is due, behind the table
pub mark_past : (due : List Completion) (marks next : List Mark) (len i : ℕ) (d : Completion) → i < length due → len ≤ (get_or due i d).request → HaveMarks due len i marks
    → next ≡ marks → HaveMarks due len (i + 1) next
mark_past due marks next len i d below past have is =
    subst (HaveMarks due len (i + 1)) (sym is) (record {
      long = have.long;
      each = λ n small.
          have.each n small ∙ ap Some (sym (kept_at (due_in (take i due) n) (get_or due i d) n (λ e. absurd (omega arith)))) ∙ ap Some (sym (due_more due i n d below));
    })

-- ---- parents

-- the parents of so many lines stand in the table
pub record HaveParents (items : List Item) (len i : ℕ) (parents : List (Option ℕ)) : Type 0 where
  pub long : length parents ≡ len
  pub each : AreParentsOf (take i items) parents len

parent_more : (items : List Item) (i n : ℕ) (item : Item) → i < length items → item ≡ get_or items i item → parent_of (take (i + 1) items) n ≡ parent_after n (parent_of (take i items) n) item
parent_more items i n item below is =
    fold_more (parent_after n) None items i item below ∙ ap (parent_after n (parent_of (take i items) n)) (sym is)

pub no_parents : (items : List Item) (len : ℕ) (parents : List (Option ℕ)) → parents ≡ replicate len None → HaveParents items len 0 parents
no_parents items len parents is = subst (HaveParents items len 0) (sym is) (record { long = length-replicate len None; each = λ n below. get_replicate len n None below })

under_at : (parent : Option ℕ) (r : Request) (n : ℕ) → r.number ≡ n → parent_after n parent (RequestLine r) ≡ r.under
under_at parent r n same = ap (λ b. cond b r.under parent) (eq-eqb r.number n same)

parent_kept : (parent : Option ℕ) (r : Request) (n : ℕ) → (r.number ≡ n → ⊥) → parent_after n parent (RequestLine r) ≡ parent
parent_kept parent r n other = ap (λ b. cond b r.under parent) (ne_eqb r.number n other)

pub parent_put : (items : List Item) (parents next : List (Option ℕ)) (len i : ℕ) (item : Item) (r : Request) → i < length items → item ≡ get_or items i item → item ≡ RequestLine r
    → r.number < len → HaveParents items len i parents → next ≡ set parents r.number r.under → HaveParents items len (i + 1) next
parent_put items parents next len i item r below is line room have next_is =
    let long : length parents ≡ len = have.long in
    let at : slice_get (set parents r.number r.under) r.number ≡ Some r.under = get_set_same parents r.number r.under (omega arith) in
    subst (HaveParents items len (i + 1)) (sym next_is) (record {
      long = length-set parents r.number r.under ∙ long;
      each = λ n small.
          let within : n < length parents = omega arith in
          let more = parent_more items i n item below is ∙ ap (parent_after n (parent_of (take i items) n)) line in
          ⊎_elim
          (λ same.
          subst (λ m. slice_get (set parents r.number r.under) m ≡ Some r.under) same at
          ∙ ap Some (sym (under_at (parent_of (take i items) n) r n same)) ∙ ap Some (sym more))
          (λ other.
          get_set_other parents r.number n r.under (λ e. other (sym e)) within ∙ have.each n small
          ∙ ap Some (sym (parent_kept (parent_of (take i items) n) r n other)) ∙ ap Some (sym more))
          (cases_eq r.number n);
    })

-- a line that doesn't change the parents below the length
pub parent_same : (items : List Item) (parents next : List (Option ℕ)) (len i : ℕ) (item : Item) → i < length items → item ≡ get_or items i item
    → ((n : ℕ) (parent : Option ℕ) → n < len → parent_after n parent item ≡ parent) → HaveParents items len i parents → next ≡ parents → HaveParents items len (i + 1) next
parent_same items parents next len i item below is same have next_is =
    subst (HaveParents items len (i + 1)) (sym next_is) (record {
      long = have.long;
      each = λ n small.
          have.each n small ∙ ap Some (sym (same n (parent_of (take i items) n) small)) ∙ ap Some (sym (parent_more items i n item below is));
    })

pub parent_past : (items : List Item) (parents next : List (Option ℕ)) (len i : ℕ) (item : Item) (r : Request) → i < length items → item ≡ get_or items i item → item ≡ RequestLine r
    → len ≤ r.number → HaveParents items len i parents → next ≡ parents → HaveParents items len (i + 1) next
parent_past items parents next len i item r below is line past have next_is =
    parent_same items parents next len i item below is
    (λ n parent small. ap (parent_after n parent) line ∙ parent_kept parent r n (λ e. absurd (omega arith))) have next_is

other_line : (item : Item) (n : ℕ) (parent : Option ℕ) → ((r : Request) → item ≡ RequestLine r → ⊥) → parent_after n parent item ≡ parent
other_line (RequestLine r) n parent other = absurd (other r refl)
other_line Go n parent other = refl
other_line Clear n parent other = refl

pub parent_other : (items : List Item) (parents next : List (Option ℕ)) (len i : ℕ) (item : Item) → i < length items → item ≡ get_or items i item
    → ((r : Request) → item ≡ RequestLine r → ⊥) → HaveParents items len i parents → next ≡ parents → HaveParents items len (i + 1) next
parent_other items parents next len i item below is other have next_is =
    parent_same items parents next len i item below is (λ n parent small. other_line item n parent other) have next_is

-- ---- meeting

-- one request of a round's order
pub meet_next : (marks : List Mark) (parents : List (Option ℕ)) (round i n : ℕ) (order : List ℕ) → i < length order → n ≡ get_or order i n
    → meet_each parents marks (map (named round) (drop i order))
    ≡ cond (may_meet marks parents round n) (meet_each parents (set marks n Met) (map (named round) (drop (i + 1) order))) None
meet_next marks parents round i n order below is =
    at_drop_more (λ ns. meet_each parents marks (map (named round) ns)) order i n below
    ∙ ap (λ m. meet_each parents marks (map (named round) (m ∷ drop (i + 1) order))) (sym is)

pub meet_end : (marks : List Mark) (parents : List (Option ℕ)) (round i : ℕ) (order : List ℕ) → length order ≤ i → meet_each parents marks (map (named round) (drop i order)) ≡ Some marks
meet_end marks parents round i order past = at_drop_all (λ ns. meet_each parents marks (map (named round) ns)) order i past

-- ---- lengths

-- one more number is below
pub below_more : (due : List Completion) (i old new : ℕ) (d : Completion) → i < length due → old ≤ new → (get_or due i d).request < new
    → All (λ (d : Completion). d.request < old) (take i due) → All (λ (d : Completion). d.request < new) (take (i + 1) due)
below_more due i old new d below more here all =
    All-more (λ (e : Completion). e.request < new) due i d below
    (All-weaker (λ (d : Completion). d.request < old) (λ (d : Completion). d.request < new) (λ e small. omega arith) (take i due) all)
    here

pub below_all : (due : List Completion) (len i : ℕ) → length due ≤ i → All (λ (d : Completion). d.request < len) (take i due) → AllByRecursion (λ (d : Completion). d.request < len) due
below_all due len i end all =
    subst (AllByRecursion (λ (d : Completion). d.request < len)) (take_all i due end) (recursion_from_All (λ (d : Completion). d.request < len) (take i due) all)
