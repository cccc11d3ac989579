-- The rule of one queue, over what it holds and what each pass of it knows. A pass has a pile of hands: its own, and inside a `settle` those of the others.
use Rattle.std.specs.Prelude.{◌≡◌, ℕ, zero, suc, ◌<◌, List, [], ◌∷◌, ◌++◌, length}
use mathlib.Core.Option.{some}
use lib.ListN.{get_elem?}
use Rattle.zio_tasks.specs.declared.hand.Hand.{Hand}
use Rattle.zio_tasks.specs.declared.hand.Pile.{Pile}
use Rattle.zio_tasks.specs.Hands.{hand, taken, Stands, WasHolding, WasOldest}

module _ {T : Type 0} where
  -- these hands, of so many passes
  abbrev pub pile : List (Hand T) → ℕ → Pile T
  pile hands passes = record { hands = hands; passes = passes }

  -- the hands of all piles
  abbrev pub all_hands : List (Pile T) → List (Hand T)
  all_hands [] = []
  all_hands (v ∷ vs) = v.hands ++ all_hands vs

  abbrev pub first_of : List (Hand T) → List (Hand T)
  first_of [] = []
  first_of (h ∷ hs) = h ∷ []

  abbrev pub rest_of : List (Hand T) → List (Hand T)
  rest_of [] = []
  rest_of (h ∷ hs) = hs

  -- the hand after a put, and after a take of a task that the pass k put
  abbrev pub after_put : T → Hand T → Hand T
  after_put x h = hand h.number (h.puts ++ x ∷ []) h.takes

  abbrev pub after_take : ℕ → T → Hand T → Hand T
  after_take k x h = hand h.number h.puts (h.takes ++ (k, x) ∷ [])

  -- the change of the first hand of a pile
  abbrev pub with_first : (Hand T → Hand T) → List (Hand T) → List (Hand T)
  with_first f [] = []
  with_first f (h ∷ hs) = f h ∷ hs

  -- the hands of all piles stand in one order with what the queue holds, and who has a hand knows how many passes there are
  pub record Fair (items : List T) (views : List (Pile T)) : Type 0 where
    pub passes : ℕ
    pub log : List (ℕ × (ℕ × T))
    pub rest : List (ℕ × T)
    pub held : taken rest ≡ items
    pub stands : Stands passes (all_hands views) log rest
    pub told : (port : ℕ) (v : Pile T) → get_elem? views port ≡ some v → 0 < length v.hands → v.passes ≡ passes

  -- what a pass learns at one moment: the queue held these tasks, in a state in which the pass had its first hand
  abbrev pub WasIn : Pile T → List T → Type 0
  WasIn v items = (h : Hand T) (hs : List (Hand T)) → v.hands ≡ h ∷ hs → WasHolding (length items) v.passes h

  -- what a take for the first hand tells: the pass k had put x, which was the oldest task in a state in which the pass had this hand
  abbrev pub OldestTake : Pile T → T → Pile T → Type 0
  OldestTake v x w = (k : ℕ) × (w ≡ pile (with_first (after_take k x) v.hands) v.passes)
      × ((h : Hand T) (hs : List (Hand T)) → v.hands ≡ h ∷ hs → WasOldest k x v.passes h)

  -- what a pile of all hands learns: they stand with what the queue holds
  abbrev pub Whole : Pile T → List T → Type 0
  Whole v items = (log : List (ℕ × (ℕ × T))) × (rest : List (ℕ × T)) × (taken rest ≡ items) × Stands v.passes v.hands log rest

  -- a take for the first hand of a pile of all hands
  abbrev pub WholeTake : Pile T → T → Pile T → Type 0
  WholeTake v x w = (log : List (ℕ × (ℕ × T))) × (k : ℕ) × (rest : List (ℕ × T)) × Stands v.passes v.hands log ((k, x) ∷ rest) × (w ≡ pile (with_first (after_take k x) v.hands) v.passes)

  -- the queue was full, or held so many tasks, in a state in which the pass had its first hand
  abbrev pub WasFull : ℕ → Pile T → Type 0
  WasFull n v = (h : Hand T) (hs : List (Hand T)) → v.hands ≡ h ∷ hs → WasHolding n v.passes h

  -- the hands of all passes stand with an empty queue
  abbrev pub EmptyWith : Pile T → Type 0
  EmptyWith v = (log : List (ℕ × (ℕ × T))) × Stands v.passes v.hands log []

  -- hands of so many passes from the number k on, which put and took nothing
  abbrev pub newcomers : ℕ → ℕ → List (Hand T)
  newcomers k zero = []
  newcomers k (suc n) = hand k [] [] ∷ newcomers (suc k) n
