-- What a node does itself adds what it found to what it holds, and nothing to the requests that it heard of.
use Rattle.std.proofs.Common.{◌≡◌, ℕ, zero, suc, ◌+◌, List, [], ◌∷◌, ◌++◌, length, length-append, slice_get, slice_set, Bool, true, false, cond, Option, Some, None, refl, sym, ap, ◌∙◌, subst, arith}
use Rattle.std.specs.List.{AllByRecursion, flat_map}
use Rattle.std.proofs.lemmas.List.{append-nil, length-set}
use Rattle.std.proofs.lemmas.List.Concat.{flat_map-append}
use Rattle.zio_types.specs.declared.place.Place.{Place}
use Rattle.zio_types.specs.Choices.{Choice, is_refused, taken_by}
use Rattle.zio_places.specs.Tables.{total}
use Rattle.zio_places.proofs.PlaceLemmas.{total-append}
use Rattle.zio_gang.specs.declared.tree.Tree.{Tree}
use Rattle.zio_gang.specs.Attempts.{Ended, Terms}
use Rattle.zio_gang.specs.Trees.{tree_places}
use Rattle.zio_gang.specs.Writes.{places_unless}
use Rattle.zio_trace.specs.Families.{Forest}
use Rattle.zio_trace.specs.Entries.{answer_to}
use Rattle.zio_trace.specs.Programs.{Ends}
use Rattle.zio_trace.specs.Tasks.{Find, Found, TakePlaces, Taken, Task, Value}
use Rattle.zio_frames.specs.Frames.{Inner, Stack, left_of}
use Rattle.zio_frames.specs.Moves.{Chose, Closed, Did, Does, DoesAll, Opened, Took, closed, done_at_once, opened}
use Rattle.zio_frames.specs.Seats.{InnerFits, IsSeated}
use Rattle.zio_frames.specs.Slots.{Heard, IsOut, Slot}
use Rattle.zio_frames.proofs.GetLemmas.{get_last}
use Rattle.zio_exchange.specs.Outcomes.{found_in as found_by_value, held_by, places_by, places_in, places_with, taken_in}
use Rattle.zio_exchange.specs.WithinParts.{IsDoneWithin, OpensWithin}
use Rattle.zio_exchange.specs.SpaceCalls.{SpaceCall, call_by, calls_by}
use Rattle.zio_turns.specs.Desks.{found_in}
use Rattle.zio_staged.specs.Parts.{ended_by, ended_in, ended_in_slot}
use Rattle.zio_turns.specs.Rests.{HasRests}
use Rattle.zio_staged.specs.Stages.{AreHandedOut}
use Rattle.zio_turns.proofs.DeskLemmas.{found_both}
use Rattle.zio_turns.proofs.LedgerPerms.{set_same}
use Rattle.zio_turns.proofs.Links.{some_is}
use Rattle.zio_turns.proofs.RestLemmas.{quiet_rests, slots_asked, slots_quiet}
use Rattle.zio_turns.proofs.Withins.{IsQuiet, value_within, within_places, within_quiet}

-- ---- places by operations

pub places_more : (w : Place → ℕ) (asked : List Task) (slots : List Slot) (op : Task) (slot : Slot) → length asked ≡ length slots
    → total w (places_in (asked ++ op ∷ []) (slots ++ slot ∷ [])) ≡ total w (places_in asked slots) + total w (places_with op slot)
places_more w [] [] op slot full = omega (arith, total-append w (places_with op slot) [])
places_more w [] (s ∷ slots) op slot full = absurd (omega arith)
places_more w (q ∷ asked) [] op slot full = absurd (omega arith)
places_more w (q ∷ asked) (s ∷ slots) op slot full =
    omega (
      arith,
      total-append w (places_with q s) (places_in (asked ++ op ∷ []) (slots ++ slot ∷ [])),
      total-append w (places_with q s) (places_in asked slots),
      places_more w asked slots op slot (omega arith),
    )

-- one that was out has its value
pub places_heard : (w : Place → ℕ) (asked : List Task) (slots : List Slot) (n : ℕ) (op : Task) (told : Option _) (v : Value)
    → slice_get asked n ≡ Some op → slice_get slots n ≡ Some (IsOut told)
    → total w (places_in asked (slice_set slots n (Heard v))) ≡ total w (places_by op v) + total w (places_in asked slots)
places_heard w [] slots n op told v e s = absurd (cc)
places_heard w (q ∷ asked) [] n op told v e s = absurd (cc)
places_heard w (q ∷ asked) (x ∷ slots) zero op told v e s =
    let is : x ≡ IsOut told = some_is x (IsOut told) s in
    let same : q ≡ op = some_is q op e in
    let none : total w (places_with q x) ≡ 0 = ap (λ (y : Slot). total w (places_with q y)) is in
    let here : total w (places_by q v) ≡ total w (places_by op v) = ap (λ (y : Task). total w (places_by y v)) same in
    omega (
      arith,
      none,
      here,
      total-append w (places_by q v) (places_in asked slots),
      total-append w (places_with q x) (places_in asked slots),
    )
places_heard w (q ∷ asked) (x ∷ slots) (suc n) op told v e s =
    omega (
      arith,
      total-append w (places_with q x) (places_in asked (slice_set slots n (Heard v))),
      total-append w (places_with q x) (places_in asked slots),
      places_heard w asked slots n op told v e s,
    )

-- one that is out told a pointer
pub places_told : (asked : List Task) (slots : List Slot) (n : ℕ) (told now : Option _) → slice_get slots n ≡ Some (IsOut told)
    → places_in asked (slice_set slots n (IsOut now)) ≡ places_in asked slots
places_told [] slots n told now s = refl
places_told (q ∷ asked) [] n told now s = absurd (cc)
places_told (q ∷ asked) (x ∷ slots) zero told now s =
    ap (λ (y : Slot). places_with q y ++ places_in asked slots) (sym (some_is x (IsOut told) s))
places_told (q ∷ asked) (x ∷ slots) (suc n) told now s =
    ap (λ (ps : List Place). places_with q x ++ ps) (places_told asked slots n told now s)

-- ---- requests by operations

pub ended_more : (slots : List Slot) (slot : Slot) → ended_in_slot slot ≡ []
    → flat_map ended_in_slot (slots ++ slot ∷ []) ≡ flat_map ended_in_slot slots
ended_more slots slot none =
    flat_map-append ended_in_slot slots (slot ∷ [])
    ∙ ap (λ (es : List Ended). flat_map ended_in_slot slots ++ (es ++ [])) none ∙ append-nil (flat_map ended_in_slot slots)

-- ---- what stands before a node does something itself

abbrev pub InnerStands : Stack → Option Inner → Type 0
InnerStands st None = Unit {0}
InnerStands st (Some i) =
    (slice_get st.outer.slots i.number ≡ Some (IsOut None)) × (slice_get st.outer.asked i.number ≡ Some i.frame.op)
    × IsDoneWithin i.frame.op

pub record Stands (st : Stack) : Type 0 where
  pub full : length st.outer.asked ≡ length st.outer.slots
  pub inner : InnerStands st st.inner

inner_by : (st : Stack) (o : Option Inner) → st.inner ≡ o → InnerFits st o → AreHandedOut st → InnerStands st o
inner_by st None e fits out = tt
inner_by st (Some i) e fits out = (fits.1, fits.2, out.within i e)

pub stands : (st : Stack) → IsSeated st → AreHandedOut st → Stands st
stands st seated out = record { full = seated.outer.lengths; inner = inner_by st st.inner refl seated.inner out }

-- ---- one thing

pub record HasDone (a b : Stack) (calls : List SpaceCall) : Type 0 where
  pub ended : ended_in b ≡ ended_in a
  pub held : (w : Place → ℕ) → total w (held_by b) ≡ total w (held_by a) + total w (found_in calls)
  pub stands : Stands b
  pub rests : (f : Forest) (ended : List ℕ) → HasRests f ended a → HasRests f ended b

more_long : {X Y : Type 0} (xs : List X) (ys : List Y) (x : X) (y : Y) → length xs ≡ length ys
    → length (xs ++ x ∷ []) ≡ length (ys ++ y ∷ [])
more_long xs ys x y e = let a = length-append xs (x ∷ []) in let b = length-append ys (y ∷ []) in omega arith

found_chosen : (w : Place → ℕ) (b : Bool) (c : Choice) → total w (found_by_value (Found (places_unless b c))) ≡ total w (cond b [] c.places)
found_chosen w true c = refl
found_chosen w false c = refl

taken_free : (w : Place → ℕ) (tree : Tree) (free : Bool) → total w (taken_in tree (Taken free)) ≡ total w (cond free (tree_places tree) [])
taken_free w tree true = refl
taken_free w tree false = refl

-- a single operation of its own
does_single : (a : Stack) (op : Task) (v : Value) (calls : List SpaceCall) → Stands a → IsQuiet op → ended_by v ≡ []
    → ((w : Place → ℕ) → total w (places_by op v) ≡ total w (found_in calls)) → HasDone a (done_at_once a op v) calls
does_single a op v calls s quiet none found = record {
  ended = ended_more a.outer.slots (Heard v) none;
  held = λ w. omega (arith, places_more w a.outer.asked a.outer.slots op (Heard v) s.full, found w);
  stands = record { full = more_long a.outer.asked a.outer.slots op (Heard v) s.full; inner = tt };
  rests = λ f ended h. record {
    own = h.own;
    heard = slots_asked f ended a.outer.asked a.outer.slots op (Heard v) s.full h.heard (quiet_rests f ended op v quiet);
  };
}

does_open : (a : Stack) (op : Task) → Stands a → IsDoneWithin op → HasDone a (opened a op) []
does_open a op s within = record {
  ended = ended_more a.outer.slots (IsOut None) refl;
  held = λ w. omega (arith, places_more w a.outer.asked a.outer.slots op (IsOut None) s.full);
  stands = record {
    full = more_long a.outer.asked a.outer.slots op (IsOut None) s.full;
    inner = (
      get_last a.outer.slots (IsOut None),
      ap (slice_get (a.outer.asked ++ op ∷ [])) (sym s.full) ∙ get_last a.outer.asked op,
      within,
    );
  };
  rests = λ f ended h. record {
    own = h.own;
    heard = slots_asked f ended a.outer.asked a.outer.slots op (IsOut None) s.full h.heard tt;
  };
}

does_close : (t : Terms) (a : Stack) (i : Inner) (v : Value) → Stands a → InnerStands a (Some i) → left_of t i.frame ≡ Ends v
    → HasDone a (closed a i v) []
does_close t a i v s h left = record {
  ended = set_same ended_in_slot a.outer.slots i.number (IsOut None) (Heard v) h.0
      (value_within t i.frame.op i.frame.slots v h.2 left);
  held = λ w.
      let none : total w (places_by i.frame.op v) ≡ 0 = ap (total w) (within_places i.frame.op v h.2) in
      omega (arith, none, places_heard w a.outer.asked a.outer.slots i.number i.frame.op None v h.1 h.0);
  stands = record { full = s.full ∙ sym (length-set a.outer.slots i.number (Heard v)); inner = tt };
  rests = λ f ended k. record {
    own = k.own;
    heard = slots_quiet f ended a.outer.asked a.outer.slots i.number i.frame.op v h.1 (within_quiet i.frame.op h.2) k.heard;
  };
}

does_one : (t : Terms) (did : Did) (a b : Stack) → Does t did a b → Stands a → OpensWithin did → HasDone a b (call_by did)
does_one t (Opened op) a b h s within = subst (λ (x : Stack). HasDone a x []) (sym h.3) (does_open a op s within)
does_one t (Closed v) a b h s within =
    subst (λ (x : Stack). HasDone a x []) (sym h.4)
    (does_close t a h.0 v s (subst (InnerStands a) h.1 s.inner) h.3)
does_one t (Chose c) a b h s within =
    subst (λ (x : Stack). HasDone a x (call_by (Chose c))) (sym h.2)
    (does_single a (Find c.asked) (answer_to c) (call_by (Chose c)) s tt refl
    (λ w. omega (arith, found_chosen w (is_refused c) c, total-append w (taken_by c) [])))
does_one t (Took tree free) a b h s within =
    subst (λ (x : Stack). HasDone a x (call_by (Took tree free))) (sym h.2)
    (does_single a (TakePlaces tree) (Taken free) (call_by (Took tree free)) s tt refl
    (λ w. omega (arith, taken_free w tree free, total-append w (cond free (tree_places tree) []) [])))

-- ---- several

does_many : (t : Terms) (dids : List Did) (a b : Stack) → DoesAll t dids a b → AllByRecursion OpensWithin dids → Stands a
    → HasDone a b (calls_by dids)
does_many t [] a b h opens s = subst (λ (x : Stack). HasDone a x []) (sym h) (record {
  ended = refl;
  held = λ w. omega arith;
  stands = s;
  rests = λ f ended k. k;
})
does_many t (did ∷ dids) a b h opens s =
    let mid : Stack = h.0 in
    let one : HasDone a mid (call_by did) = does_one t did a mid h.1 s opens.0 in
    let rest : HasDone mid b (calls_by dids) = does_many t dids mid b h.2 opens.1 one.stands in
    record {
      ended = rest.ended ∙ one.ended;
      held = λ w. omega (arith, one.held w, rest.held w, found_both w (call_by did) (calls_by dids));
      stands = rest.stands;
      rests = λ f ended k. rest.rests f ended (one.rests f ended k);
    }

pub does_itself : (t : Terms) (dids : List Did) (a b : Stack) → DoesAll t dids a b → AllByRecursion OpensWithin dids → IsSeated a
    → AreHandedOut a → HasDone a b (calls_by dids)
does_itself t dids a b h opens seated hands = does_many t dids a b h opens (stands a seated hands)

-- ---- its part stays

op_one : (t : Terms) (did : Did) (a b : Stack) → Does t did a b → b.outer.op ≡ a.outer.op
op_one t (Opened op) a b h = ap (λ (x : Stack). x.outer.op) h.3
op_one t (Closed v) a b h = ap (λ (x : Stack). x.outer.op) h.4
op_one t (Chose c) a b h = ap (λ (x : Stack). x.outer.op) h.2
op_one t (Took tree free) a b h = ap (λ (x : Stack). x.outer.op) h.2

pub does_ops : (t : Terms) (dids : List Did) (a b : Stack) → DoesAll t dids a b → b.outer.op ≡ a.outer.op
does_ops t [] a b h = ap (λ (x : Stack). x.outer.op) h
does_ops t (did ∷ dids) a b h = does_ops t dids h.0 b h.2 ∙ op_one t did a h.0 h.1
