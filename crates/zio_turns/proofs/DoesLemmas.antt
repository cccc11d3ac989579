-- One node does several things itself, one after another.
use Rattle.std.proofs.Common.{◌≡◌, ℕ, ◌≤◌, arith, List, [], ◌∷◌, ◌++◌, slice_get, Bool, Option, Some, Contains, ⊎_elim, refl, sym, ap, ◌∙◌, subst, append_assoc}
use Rattle.std.specs.List.{AllByRecursion}
use Rattle.zio_types.specs.declared.place.Place.{Place}
use Rattle.zio_types.specs.declared.place.TopSize.{TopSize}
use Rattle.zio_types.specs.Choices.{Choice}
use Rattle.zio_cksum.specs.Images.{Images}
use Rattle.zio_cksum.proofs.AllLemmas.{all_contains}
use Rattle.zio_gang.specs.declared.tree.Tree.{Tree}
use Rattle.zio_gang.specs.Attempts.{Terms}
use Rattle.zio_gang.specs.Journals.{AreLawful}
use Rattle.zio_gang.specs.Trees.{sizes_of}
use Rattle.zio_trace.specs.Families.{Forest}
use Rattle.zio_trace.specs.SoundRounds.{HasClaim, IsSoundRound}
use Rattle.zio_trace.specs.Underway.{State}
use Rattle.zio_trace.proofs.ChoiceLemmas.{contained_cases}
use Rattle.zio_frames.specs.Frames.{Child, Flying, Stack}
use Rattle.zio_frames.specs.Moves.{Chose, Closed, Did, Does, DoesAll, Opened, Took, choices_by, choices_of}
use Rattle.zio_frames.specs.Running.{IsRunning, Later}
use Rattle.zio_frames.specs.Slots.{Slot}
use Rattle.zio_frames.proofs.HeardParts.{node_takes_for}
use Rattle.zio_frames.proofs.NodeMoves.{node_chooses, node_closes, node_opens, node_takes}
use Rattle.zio_turns.specs.Claims.{turn_of}
use Rattle.zio_turns.specs.Engine.{IsRight}
use Rattle.zio_turns.proofs.ClaimTurns.{take_turn, turn_does, turn_does_all, turn_taken}
use Rattle.zio_turns.proofs.Seated.{SamePlaces, children_does, places_does}

pub append_none : {X : Type 0} (xs : List X) → xs ++ [] ≡ xs
append_none [] = refl
append_none {X} (x ∷ xs) = ap (λ (ys : List X). x ∷ ys) (append_none xs)

-- the first of lawful choices are lawful
lawful_first : (sizes : List TopSize) (xs ys : List Choice) (used : List Place) → AreLawful sizes used (xs ++ ys)
    → AreLawful sizes used xs
lawful_first sizes [] ys used h = tt
lawful_first sizes (c ∷ xs) ys used h = (h.0, lawful_first sizes xs ys _ h.1)

pub same_children : (a b : Stack) (n : ℕ) (c : Child) → b.children ≡ a.children → slice_get a.children n ≡ Some c
    → slice_get b.children n ≡ Some c
same_children a b n c e is = ap (λ (cs : List Child). slice_get cs n) e ∙ is

module _ (t : Terms) (sizes : ℕ → ℕ) (f : Forest) (before : Option Images) (trees : List Slot) (at : List ℕ)
    (others : List Flying) where
  abbrev With : Stack → List Choice → Images → Type 0
  With st entries images = Later t sizes f before trees (record { at = at; stack = st } ∷ others) entries images

  -- it is so far now, with the children and their places that it had
  pub record IsDone (a b : Stack) (entries : List Choice) (images : Images) : Type 0 where
    pub later : Later t sizes f before trees (record { at = at; stack = b } ∷ others) entries images
    pub children : b.children ≡ a.children
    pub places : SamePlaces at a b

  with_entries : (st : Stack) (entries more : List Choice) (images : Images) → entries ≡ more → With st entries images
      → With st more images
  with_entries st entries more images e h = subst (λ (cs : List Choice). With st cs images) e h

  does_one : IsSoundRound t sizes f → (did : Did) (a b : Stack) (s : State) → IsRunning t sizes f before trees
      (record { at = at; stack = a } ∷ others) s
      → Does t did a b → IsRight t did → AreLawful (sizes_of t.setting.tops) t.used (s.entries ++ choices_by did)
      → With b (s.entries ++ choices_by did) s.images
  does_one sound (Opened op) a b s r does right lawful =
      with_entries b s.entries (s.entries ++ []) s.images (sym (append_none s.entries))
      (node_opens t sizes f before trees (record { at = at; stack = a }) others s op b sound r does)
  does_one sound (Closed v) a b s r does right lawful =
      with_entries b s.entries (s.entries ++ []) s.images (sym (append_none s.entries))
      (node_closes t sizes f before trees (record { at = at; stack = a }) others s v b r does)
  does_one sound (Chose c) a b s r does right lawful =
      node_chooses t sizes f before trees (record { at = at; stack = a }) others s c b sound r does lawful
  does_one sound (Took tree free) a b s r does right lawful =
      with_entries b s.entries (s.entries ++ []) s.images (sym (append_none s.entries))
      (node_takes t sizes f before trees (record { at = at; stack = a }) others s tree free b sound r does right)

  places_both : (a mid b : Stack) → mid.children ≡ a.children → SamePlaces at a mid → SamePlaces at mid b → SamePlaces at a b
  places_both a mid b e p q = λ n c is goes. q n c (same_children a mid n c e is) goes ∙ p n c is goes

  pub does_all : IsSoundRound t sizes f → (dids : List Did) (a b : Stack) (s : State)
      → IsRunning t sizes f before trees (record { at = at; stack = a } ∷ others) s → DoesAll t dids a b
      → AllByRecursion (IsRight t) dids
      → AreLawful (sizes_of t.setting.tops) t.used (s.entries ++ choices_of dids)
      → IsDone a b (s.entries ++ choices_of dids) s.images
  does_all sound [] a b s r does right lawful = record {
    later = with_entries b s.entries (s.entries ++ []) s.images (sym (append_none s.entries))
        (subst (λ (st : Stack). With st s.entries s.images) (sym does)
        (record { state = s; running = r; entries_are = refl; images_are = refl }));
    children = ap (λ (st : Stack). st.children) does;
    places = subst (λ (st : Stack). SamePlaces at a st) (sym does) (λ n c is goes. refl);
  }
  does_all sound (did ∷ dids) a b s r does right lawful =
      let mid : Stack = does.0 in
      let together : (s.entries ++ choices_by did) ++ choices_of dids ≡ s.entries ++ (choices_by did ++ choices_of dids)
      = append_assoc s.entries (choices_by did) (choices_of dids) in
      let lawful_both : AreLawful (sizes_of t.setting.tops) t.used ((s.entries ++ choices_by did) ++ choices_of dids)
      = subst (λ (cs : List Choice). AreLawful (sizes_of t.setting.tops) t.used cs) (sym together) lawful in
      let one : With mid (s.entries ++ choices_by did) s.images
      = does_one sound did a mid s r does.1 right.0
      (lawful_first (sizes_of t.setting.tops) (s.entries ++ choices_by did) (choices_of dids) t.used lawful_both) in
      let rest : IsDone mid b (one.state.entries ++ choices_of dids) one.state.images
      = does_all sound dids mid b one.state one.running does.2 right.1
      (subst (λ (cs : List Choice). AreLawful (sizes_of t.setting.tops) t.used (cs ++ choices_of dids))
      (sym one.entries_are) lawful_both) in
      record {
        later = subst (λ (i : Images). With b (s.entries ++ choices_of (did ∷ dids)) i) one.images_are
            (with_entries b (one.state.entries ++ choices_of dids) (s.entries ++ choices_of (did ∷ dids)) one.state.images
            (ap (λ (cs : List Choice). cs ++ choices_of dids) one.entries_are ∙ together) rest.later);
        children = rest.children ∙ children_does t did a mid does.1;
        places = places_both a mid b (children_does t did a mid does.1)
            (places_does t at did a mid r.seated.0 does.1) rest.places;
      }

  -- ---- places that it takes

  -- it did the first, and the choices that the space makes for the others are lawful still
  record FirstDone (mid : Stack) (dids : List Did) : Type 0 where
    pub state : State
    pub running : IsRunning t sizes f before trees (record { at = at; stack = mid } ∷ others) state
    pub lawful : AreLawful (sizes_of t.setting.tops) t.used (state.entries ++ choices_of dids)

  first_done : IsSoundRound t sizes f → (did : Did) (dids : List Did) (a mid : Stack) (s : State)
      → IsRunning t sizes f before trees (record { at = at; stack = a } ∷ others) s → Does t did a mid → IsRight t did
      → AreLawful (sizes_of t.setting.tops) t.used (s.entries ++ choices_of (did ∷ dids)) → FirstDone mid dids
  first_done sound did dids a mid s r does right lawful =
      let together : (s.entries ++ choices_by did) ++ choices_of dids ≡ s.entries ++ (choices_by did ++ choices_of dids)
      = append_assoc s.entries (choices_by did) (choices_of dids) in
      let lawful_both : AreLawful (sizes_of t.setting.tops) t.used ((s.entries ++ choices_by did) ++ choices_of dids)
      = subst (λ (cs : List Choice). AreLawful (sizes_of t.setting.tops) t.used cs) (sym together) lawful in
      let one : With mid (s.entries ++ choices_by did) s.images
      = does_one sound did a mid s r does right
      (lawful_first (sizes_of t.setting.tops) (s.entries ++ choices_by did) (choices_of dids) t.used lawful_both) in
      record {
        state = one.state;
        running = one.running;
        lawful = subst (λ (cs : List Choice). AreLawful (sizes_of t.setting.tops) t.used (cs ++ choices_of dids))
            (sym one.entries_are) lawful_both;
      }

  others_have : (did : Did) (dids : List Did) (tree : Tree) (free : Bool) → (did ≡ Took tree free → ⊥)
      → Contains (did ∷ dids) (Took tree free) → Contains dids (Took tree free)
  others_have did dids tree free none c =
      ⊎_elim (λ (e : did ≡ Took tree free). absurd (none e)) (λ (k : Contains dids (Took tree free)). k)
      (contained_cases did dids (Took tree free) c)

  -- where it takes places, the round has a claim
  pub takes_all : IsSoundRound t sizes f → (dids : List Did) (a b : Stack) (s : State) (tree : Tree) (free : Bool)
      → IsRunning t sizes f before trees (record { at = at; stack = a } ∷ others) s → DoesAll t dids a b
      → AreLawful (sizes_of t.setting.tops) t.used (s.entries ++ choices_of dids) → Contains dids (Took tree free) → HasClaim f
  takes_all sound [] a b s tree free r does lawful c = absurd (all_contains (λ (did : Did). ⊥) [] (Took tree free) tt c)
  takes_all sound (Took own was_free ∷ dids) a b s tree free r does lawful c =
      node_takes_for t sizes f before trees others s (record { at = at; stack = a }) own was_free does.0 sound r does.1
  takes_all sound (Opened op ∷ dids) a b s tree free r does lawful c =
      let one = first_done sound (Opened op) dids a does.0 s r does.1 tt lawful in
      takes_all sound dids does.0 b one.state tree free one.running does.2 one.lawful
      (others_have (Opened op) dids tree free (λ e. cc) c)
  takes_all sound (Closed v ∷ dids) a b s tree free r does lawful c =
      let one = first_done sound (Closed v) dids a does.0 s r does.1 tt lawful in
      takes_all sound dids does.0 b one.state tree free one.running does.2 one.lawful
      (others_have (Closed v) dids tree free (λ e. cc) c)
  takes_all sound (Chose made ∷ dids) a b s tree free r does lawful c =
      let one = first_done sound (Chose made) dids a does.0 s r does.1 tt lawful in
      takes_all sound dids does.0 b one.state tree free one.running does.2 one.lawful
      (others_have (Chose made) dids tree free (λ e. cc) c)

  -- it might take them, and may no more
  pub turns_all : IsSoundRound t sizes f → (dids : List Did) (a b : Stack) (s : State) (tree : Tree) (free : Bool)
      → IsRunning t sizes f before trees (record { at = at; stack = a } ∷ others) s → DoesAll t dids a b
      → AreLawful (sizes_of t.setting.tops) t.used (s.entries ++ choices_of dids) → Contains dids (Took tree free)
      → (1 ≤ turn_of a) × (turn_of b ≡ 0)
  turns_all sound [] a b s tree free r does lawful c = absurd (all_contains (λ (did : Did). ⊥) [] (Took tree free) tt c)
  turns_all sound (Took own was_free ∷ dids) a b s tree free r does lawful c =
      let turn = take_turn t a.outer.op a.outer.asked a.outer.slots own r.of_round.0.outer.asked r.seated.0.outer.lengths
      does.1.1.next in
      let after : turn_of does.0 ≡ 0 = ap turn_of does.1.2 ∙ turn_taken a.outer.op a.outer.asked own in
      let less = turn_does_all t dids does.0 b does.2 in
      (omega arith, omega arith)
  turns_all sound (Opened op ∷ dids) a b s tree free r does lawful c =
      let one = first_done sound (Opened op) dids a does.0 s r does.1 tt lawful in
      let rest = turns_all sound dids does.0 b one.state tree free one.running does.2 one.lawful
      (others_have (Opened op) dids tree free (λ e. cc) c) in
      let less = turn_does t (Opened op) a does.0 does.1 in
      (omega arith, rest.1)
  turns_all sound (Closed v ∷ dids) a b s tree free r does lawful c =
      let one = first_done sound (Closed v) dids a does.0 s r does.1 tt lawful in
      let rest = turns_all sound dids does.0 b one.state tree free one.running does.2 one.lawful
      (others_have (Closed v) dids tree free (λ e. cc) c) in
      let less = turn_does t (Closed v) a does.0 does.1 in
      (omega arith, rest.1)
  turns_all sound (Chose made ∷ dids) a b s tree free r does lawful c =
      let one = first_done sound (Chose made) dids a does.0 s r does.1 tt lawful in
      let rest = turns_all sound dids does.0 b one.state tree free one.running does.2 one.lawful
      (others_have (Chose made) dids tree free (λ e. cc) c) in
      let less = turn_does t (Chose made) a does.0 does.1 in
      (omega arith, rest.1)
