-- A round goes on where its nodes in flight moved.
use Rattle.std.proofs.Common.{◌≡◌, ℕ, List, Option, IsPermutation, refl, sym, ◌∙◌, subst}
use Rattle.std.specs.List.{AllByRecursion, flat_map}
use Rattle.std.proofs.lemmas.List.Sorted.{IsPermutation-refl}
use Rattle.zio_types.specs.Choices.{Choice}
use Rattle.zio_cksum.specs.Images.{Images}
use Rattle.zio_gang.specs.Attempts.{Terms}
use Rattle.zio_trace.specs.Families.{Forest}
use Rattle.zio_trace.specs.SoundRounds.{work_of}
use Rattle.zio_trace.specs.Underway.{Flight, IsUnderway, State, flying_now}
use Rattle.zio_trace.proofs.AnyOrder.{all_permuted}
use Rattle.zio_trace.proofs.UnderwayOut.{work_permuted}
use Rattle.zio_frames.specs.Frames.{Flying, flights_of}
use Rattle.zio_frames.specs.OfRound.{IsOfRound}
use Rattle.zio_frames.specs.Running.{IsRunning, Later}
use Rattle.zio_frames.specs.Seats.{IsSeated}
use Rattle.zio_frames.specs.Slots.{Slot}
use Rattle.zio_frames.proofs.PermLemmas.{flat_permuted}

-- from the state these are in flight, with these entries and images; the work itself asked and heard nothing
pub record Moved (t : Terms) (sizes : ℕ → ℕ) (f : Forest) (before : Option Images) (s : State) (flights : List Flight)
    (entries : List Choice) (images : Images) : Type 0 where
  pub state : State
  pub underway : IsUnderway (work_of t sizes f) before state
  pub flights_are : state.flights ≡ flights
  pub root : state.root ≡ s.root
  pub outs : state.outs ≡ s.outs
  pub next : state.next ≡ s.next
  pub entries_are : state.entries ≡ entries
  pub images_are : state.images ≡ images

module _ (t : Terms) (sizes : ℕ → ℕ) (f : Forest) (before : Option Images) where
  abbrev pub Goes : State → Type 0
  Goes s = IsUnderway (work_of t sizes f) before s

  -- where only what is in flight changed
  pub moved_now : (s : State) (flights : List Flight) → Goes (flying_now s flights)
      → Moved t sizes f before s flights s.entries s.images
  moved_now s flights h = record {
    state = flying_now s flights;
    underway = h;
    flights_are = refl;
    root = refl;
    outs = refl;
    next = refl;
    entries_are = refl;
    images_are = refl;
  }

  -- in another order
  pub moved_permuted : (s : State) (fs gs : List Flight) (entries : List Choice) (images : Images)
      → Moved t sizes f before s fs entries images → IsPermutation fs gs → Moved t sizes f before s gs entries images
  moved_permuted s fs gs entries images m p = record {
    state = flying_now m.state gs;
    underway =
        work_permuted (work_of t sizes f) before m.state gs m.underway
        (subst (λ (l : List Flight). IsPermutation l gs) (sym m.flights_are) p);
    flights_are = refl;
    root = m.root;
    outs = m.outs;
    next = m.next;
    entries_are = m.entries_are;
    images_are = m.images_are;
  }

  -- what is in flight of a round under way, in an order
  pub in_flight : (trees : List Slot) (nodes : List Flying) (s : State) (flights : List Flight)
      → IsRunning t sizes f before trees nodes s → IsPermutation (flat_map (flights_of t) nodes) flights
      → Goes (flying_now s flights)
  in_flight trees nodes s flights r p =
      work_permuted (work_of t sizes f) before s flights r.underway
      (subst (λ (l : List Flight). IsPermutation l flights) (sym r.flights) p)

  pub goes_on : (trees : List Slot) (nodes later : List Flying) (s : State) (flights : List Flight) (entries : List Choice)
      (images : Images) → IsRunning t sizes f before trees nodes s
      → Moved t sizes f before s flights entries images → IsPermutation flights (flat_map (flights_of t) later)
      → AllByRecursion (λ (x : Flying). IsSeated x.stack) later
      → AllByRecursion (λ (x : Flying). IsOfRound t f entries x.stack) later
      → Later t sizes f before trees later entries images
  goes_on trees nodes later s flights entries images r m p seated of_round =
      let n : Moved t sizes f before s (flat_map (flights_of t) later) entries images =
      moved_permuted s flights (flat_map (flights_of t) later) entries images m p in
      record {
        state = n.state;
        running = record {
          underway = n.underway;
          flights = n.flights_are;
          root = n.root ∙ r.root;
          outs = n.outs ∙ r.outs;
          next = n.next ∙ r.next;
          each_tree = r.each_tree;
          seated = seated;
          of_round =
              subst (λ (cs : List Choice). AllByRecursion (λ (x : Flying). IsOfRound t f cs x.stack) later)
              (sym n.entries_are) of_round;
        };
        entries_are = n.entries_are;
        images_are = n.images_are;
      }

  pub order_kept : (trees : List Slot) (nodes later : List Flying) (s : State) → IsRunning t sizes f before trees nodes s
      → IsPermutation nodes later → Later t sizes f before trees later s.entries s.images
  order_kept trees nodes later s r p =
      let flights : List Flight = flat_map (flights_of t) nodes in
      goes_on trees nodes later s flights s.entries s.images r
      (moved_now s flights (in_flight trees nodes s flights r (IsPermutation-refl flights)))
      (flat_permuted (flights_of t) nodes later p)
      (all_permuted (λ (x : Flying). IsSeated x.stack) nodes later p r.seated)
      (all_permuted (λ (x : Flying). IsOfRound t f s.entries x.stack) nodes later p r.of_round)
