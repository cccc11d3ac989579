-- An engine's round, where it goes on: its nodes in an order, and what is kept of them.
use Rattle.std.proofs.Common.{◌≡◌, ℕ, List, ◌∷◌, ◌++◌, map, Option, IsPermutation, sym, ◌∙◌, subst}
use Rattle.std.proofs.lemmas.List.Sorted.{IsPermutation-sym, IsPermutation-trans, IsPermutation-cons, IsPermutation-middle, IsPermutation-append_right, IsPermutation-map}
use Rattle.zio_types.specs.Choices.{Choice}
use Rattle.zio_cksum.specs.Images.{Images}
use Rattle.zio_gang.specs.Attempts.{Terms}
use Rattle.zio_trace.specs.Families.{Forest}
use Rattle.zio_trace.specs.Underway.{State}
use Rattle.zio_frames.specs.Frames.{Flying}
use Rattle.zio_frames.specs.Running.{IsRunning, Later}
use Rattle.zio_frames.specs.Slots.{Slot}
use Rattle.zio_frames.proofs.Moved.{order_kept}
use Rattle.zio_turns.specs.Engine.{AreLinked, IsKept, StillKept, TreesStand}
use Rattle.zio_staged.specs.Entries.{KeysDiffer, Live, Shelf, flying_at, flying_of, live_of, standing, top_at}
use Rattle.zio_staged.specs.Parts.{Nodes}
use Rattle.zio_turns.proofs.Links.{Linked, World}
use Rattle.zio_turns.proofs.Lives.{Fronted}

-- what an engine has
abbrev pub world : {N : Type 0} → List (Option Flying) → List Live → Shelf N → List ℕ → List ℕ → World N
world tops lives shelf queue leaves = record
    { tops = top_at tops; lives = flying_at lives; shelf = shelf; queue = queue; leaves = leaves }

-- all that is in flight
abbrev pub all_flying : List (Option Flying) → List Live → List Flying
all_flying tops lives = standing tops ++ map flying_of lives

pub one_forward : (tops : List (Option Flying)) (x : Live) (xs : List Live)
    → IsPermutation (all_flying tops (x ∷ xs)) (flying_of x ∷ all_flying tops xs)
one_forward tops x xs = IsPermutation-middle (standing tops) (flying_of x) (map flying_of xs)

pub two_forward : (tops : List (Option Flying)) (x y : Live) (xs : List Live)
    → IsPermutation (all_flying tops (x ∷ y ∷ xs)) (flying_of x ∷ flying_of y ∷ all_flying tops xs)
two_forward tops x y xs =
    IsPermutation-trans (all_flying tops (x ∷ y ∷ xs)) (flying_of x ∷ all_flying tops (y ∷ xs))
    (flying_of x ∷ flying_of y ∷ all_flying tops xs)
    (one_forward tops x (y ∷ xs))
    (IsPermutation-cons (flying_of x) (all_flying tops (y ∷ xs)) (flying_of y ∷ all_flying tops xs) (one_forward tops y xs))

pub one_back : (tops : List (Option Flying)) (x : Live) (xs : List Live)
    → IsPermutation (flying_of x ∷ all_flying tops xs) (all_flying tops (x ∷ xs))
one_back tops x xs =
    IsPermutation-sym (all_flying tops (x ∷ xs)) (flying_of x ∷ all_flying tops xs) (one_forward tops x xs)

pub two_back : (tops : List (Option Flying)) (x y : Live) (xs : List Live)
    → IsPermutation (flying_of x ∷ flying_of y ∷ all_flying tops xs) (all_flying tops (x ∷ y ∷ xs))
two_back tops x y xs =
    IsPermutation-sym (all_flying tops (x ∷ y ∷ xs)) (flying_of x ∷ flying_of y ∷ all_flying tops xs) (two_forward tops x y xs)

map_flying : (xs ys : List Live) → IsPermutation xs ys → IsPermutation (map flying_of xs) (map flying_of ys)
map_flying xs ys p = IsPermutation-map flying_of xs ys p

module _ (t : Terms) (sizes : ℕ → ℕ) (f : Forest) (before : Option Images) (trees : List Slot) where
  -- the nodes in another order
  pub later_as : (xs ys : List Flying) (entries : List Choice) (images : Images)
      → Later t sizes f before trees xs entries images
      → IsPermutation xs ys → Later t sizes f before trees ys entries images
  later_as xs ys entries images l p =
      let k : Later t sizes f before trees ys l.state.entries l.state.images = order_kept t sizes f before trees xs ys l.state
      l.running p in
      record {
        state = k.state;
        running = k.running;
        entries_are = k.entries_are ∙ l.entries_are;
        images_are = k.images_are
            ∙ l.images_are;
      }

  -- it runs, whichever node comes first
  pub running_as : (xs ys : List Flying) (s : State) → IsRunning t sizes f before trees xs s → IsPermutation xs ys
      → Later t sizes f before trees ys s.entries s.images
  running_as xs ys s r p = order_kept t sizes f before trees xs ys s r p

  module _ {N : Type 0} (nodes : Nodes N) where
    pub kept_now : (tops : List (Option Flying)) (lives : List Live) (shelf : Shelf N) (queue leaves : List ℕ)
        (entries : List Choice)
        (images : Images) → Later t sizes f before trees (all_flying tops lives) entries images → TreesStand 0 tops trees
        → KeysDiffer lives
        → Linked nodes t (world {N = N} tops lives shelf queue leaves)
        → StillKept {N = N} nodes t sizes f before trees tops lives shelf queue leaves entries images
    kept_now tops lives shelf queue leaves entries images l stand differ linked = record {
      state = l.state;
      kept = record { running = l.running; stand = stand; differ = differ; linked = linked };
      entries_are = l.entries_are;
      images_are = l.images_are;
    }

    pub linked_as : (tops lives other : ℕ → Option Flying) (shelf : Shelf N) (queue leaves : List ℕ)
        → ((k : ℕ) → other k ≡ lives k)
        → AreLinked {N = N} nodes t tops lives shelf queue leaves → AreLinked {N = N} nodes t tops other shelf queue leaves
    linked_as tops lives other shelf queue leaves same l =
        let all : lives ≡ other = λ i k. sym (same k) i in
        subst (λ (g : ℕ → Option Flying). AreLinked {N = N} nodes t tops g shelf queue leaves) all l

    -- the node under this key comes to the front
    pub kept_fronted : (tops : List (Option Flying)) (lives : List Live) (shelf : Shelf N) (queue leaves : List ℕ) (s : State)
        (key : ℕ) (p : Flying) → IsKept {N = N} nodes t sizes f before trees tops lives shelf queue leaves s
        → (g : Fronted lives key p)
        → StillKept {N = N} nodes t sizes f before trees tops (live_of key p ∷ g.others) shelf queue leaves s.entries s.images
    kept_fronted tops lives shelf queue leaves s key p k g =
        kept_now tops (live_of key p ∷ g.others) shelf queue leaves s.entries s.images
        (running_as (all_flying tops lives) (all_flying tops (live_of key p ∷ g.others)) s k.running
        (IsPermutation-append_right (standing tops) (map flying_of lives) (map flying_of (live_of key p ∷ g.others))
        (map_flying lives (live_of key p ∷ g.others) g.order)))
        k.stand g.differ
        (linked_as (top_at tops) (flying_at lives) (flying_at (live_of key p ∷ g.others)) shelf queue leaves g.same k.linked)
