-- What a contract sees of a book, of its passes and of its receipts.
use Rattle.std.specs.Prelude.{◌≡◌, ℕ, ◌<◌, List, [], ◌∷◌, ◌++◌, length, All, Option, Some, slice_get}
use Rattle.atomic_table.specs.Seated.{TableId}
use Rattle.atomic_table.specs.declared.shared.Seat.{Seat}
use Rattle.zio_book.specs.declared.book.Book.{Book}
use Rattle.zio_book.specs.declared.book.Pass.{Pass}
use Rattle.zio_book.specs.declared.book.Receipt.{Receipt}
use Rattle.zio_book.specs.declared.view.View.{View}
use Rattle.zio_book.specs.declared.view.WithHistory.{WithHistory}
use Rattle.zio_book.specs.History.{Leads, Follows, times, total, once_below}
use Rattle.zio_book.specs.Rule.{idle, waiting, inside}

-- these are the slots of a seat that has the held value
abbrev pub HoldsKept : {H N : Type 0} → List (ℕ × Option (WithHistory H N)) → Type 0
HoldsKept {H} {N} slots = (kept : WithHistory H N) × (slots ≡ (0, Some kept) ∷ [])

-- the acts of a pass stand in the history at their numbers
abbrev pub StandsAt : {N : Type 0} → List N → List (ℕ × N) → Type 0
StandsAt {N} log acts = All (λ (a : ℕ × N). slice_get log a.0 ≡ Some a.1) acts

-- the seat knows a number above all that are claimed only where it is above this one
abbrev pub Learned : {N : Type 0} → List (List N × N) → ℕ → Type 0
Learned {N} claims number = (n : ℕ) → All (λ (c : List N × N). length c.0 < n) claims → number < n

module _ {H C R N : Type 0} where
  -- the book's own table, the state with which it began, and how many passes it has
  abbrev pub table_of : Book H C R N → TableId
  table_of b = b.table.shared.table_id

  abbrev pub first_state : Book H C R N → H
  first_state b = b.table.shared.key.first.value

  abbrev pub passes_of : Book H C R N → ℕ
  passes_of b = b.table.shared.key.passes

  -- the acts of a pass, each a number with the note that stands there
  abbrev pub acts_of : Pass H C R N → List (ℕ × N)
  acts_of p = p.seat.me.0.acts

  -- a seat of the book with so many passes, no ticket and nothing in its hands
  pub record IsSeatOf (book : Book H C R N) (passes : ℕ) (seat : Seat (Option (WithHistory H N)) (View H N)) : Type 0 where
    pub table : seat.table_id ≡ table_of book
    pub free : seat.me.1 ≡ []
    pub view : seat.me.0 ≡ idle passes seat.me.0.acts seat.me.0.claims (Some (first_state book))

  -- the pass is one of this book's
  abbrev pub IsPassOf : Book H C R N → Pass H C R N → Type 0
  IsPassOf book pass = IsSeatOf book 1 pass.seat

  -- the receipt of the act whose note stands in this book's history right after the notes before it, as many as its number says
  pub record IsReceipt (book : Book H C R N) (receipt : Receipt H C R N) (before : List N) (note : N) : Type 0 where
    pub table : receipt.badge.table_id ≡ table_of book
    pub claim : receipt.badge.views ≡ idle 0 [] ((before, note) ∷ []) (Some (first_state book)) ∷ []
    pub number : length before ≡ receipt.number

  abbrev pub IsReceiptOf : Book H C R N → Receipt H C R N → Type 0
  IsReceiptOf book receipt = (before : List N) × (note : N) × IsReceipt book receipt before note

  -- A seat's act: the history before it leads to a state which the reply and the note fit. Its number is above each that the seat had
  pub record SeatActed (gives : H → N → H → Type 0) (fits : H → C → R → N → Type 0) (book : Book H C R N) (old new : Seat (Option (WithHistory H N)) (View H N)) (cmd : C) (reply : R) (receipt : Receipt H C R N) : Type 0 where
    pub before : List N
    pub note : N
    pub state : H
    pub receipt_of : IsReceipt book receipt before note
    pub leads : Leads gives (first_state book) before state
    pub fitting : fits state cmd reply note
    pub acts : new.me.0.acts ≡ old.me.0.acts ++ (receipt.number, note) ∷ []
    pub later : All (λ (a : ℕ × N). a.0 < receipt.number) old.me.0.acts

  -- the seat has the held value, which this history leads to
  abbrev pub IsInside : (H → N → H → Type 0) → Book H C R N → Seat (Option (WithHistory H N)) (View H N) → Type 0
  IsInside gives book seat =
      (kept : WithHistory H N) × (seat.me.1 ≡ (0, Some kept) ∷ []) × (seat.me.0.busy ≡ 1) × (seat.me.0.inside ≡ 1) × (kept.notes.items ≡ seat.me.0.log) × (seat.me.0.first ≡ Some (first_state book))
      × Leads gives (first_state book) kept.notes.items kept.held

  -- the seat with a ticket has come to its turn
  abbrev pub HasEntered : (H → N → H → Type 0) → Book H C R N → Seat (Option (WithHistory H N)) (View H N) → Seat (Option (WithHistory H N)) (View H N) → Type 0
  HasEntered gives book old new =
      (kept : WithHistory H N) × (t : ℕ) × (new.me ≡ (inside (waiting old.me.0 t) kept.notes.items, (0, Some kept) ∷ [])) × Leads gives (first_state book) kept.notes.items kept.held

  -- the pass is the book's, and made no act
  abbrev pub IsNewPass : Book H C R N → Pass H C R N → Type 0
  IsNewPass book pass = IsPassOf book pass × (acts_of pass ≡ [])

  -- the receipt b names the act that a names
  abbrev pub IsSameReceipt : Book H C R N → Receipt H C R N → Receipt H C R N → Type 0
  IsSameReceipt book a b = (b.number ≡ a.number) × ((before : List N) (note : N) → IsReceipt book a before note → IsReceipt book b before note)

  -- these are all passes of the book
  pub record AreAllPasses (book : Book H C R N) (passes : List (Pass H C R N)) : Type 0 where
    pub some : 0 < length passes
    pub counted : length passes ≡ passes_of book
    pub own : All (IsPassOf book) passes

  -- the history begins with what stood before the receipt's act, and has its note there
  abbrev pub IsShown : Book H C R N → List N → Receipt H C R N → Type 0
  IsShown book log receipt = (before : List N) (note : N) → IsReceipt book receipt before note → Follows log before note

  -- each number of the history is in the acts of one pass, once, with the note that stands there
  abbrev pub EachOnce : List N → List (Pass H C R N) → Type 0
  EachOnce log passes = ((k : ℕ) → total (λ (p : Pass H C R N). times k (acts_of p)) passes ≡ once_below k (length log)) × All (λ (p : Pass H C R N). StandsAt log (acts_of p)) passes

  -- the claims after one more receipt
  abbrev pub Claims : Book H C R N → Receipt H C R N → List (List N × N) → List (List N × N) → Type 0
  Claims book receipt old new = (before : List N) (note : N) → IsReceipt book receipt before note → new ≡ (before, note) ∷ old

  -- these are the acts of all the passes
  abbrev pub IsGathered : List (Pass H C R N) → List (ℕ × N) → Type 0
  IsGathered passes acts = ((k : ℕ) → times k acts ≡ total (λ (p : Pass H C R N). times k (acts_of p)) passes) × ((log : List N) → StandsAt log acts → All (λ (p : Pass H C R N). StandsAt log (acts_of p)) passes)
