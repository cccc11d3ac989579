-- The walk over headers as a node: what it hears, and its end.
use Rattle.std.proofs.Common.{◌≡◌, ℕ, zero, suc, List, [], ◌∷◌, ◌++◌, map, slice_get, true, false, Option, Some, None, refl, sym, ap, subst, ◌∙◌}
use Rattle.std.specs.List.{AllByRecursion, flat_map}
use Rattle.std.specs.Prelude.{IsPermutation}
use Rattle.std.proofs.lemmas.List.Sorted.{IsPermutation-refl}
use Rattle.zio_types.specs.declared.request.ChildKind.TheVariants.{Gang}
use Rattle.zio_types.specs.declared.place.Place.{Place}
use Rattle.zio_types.specs.declared.place.Top.{Top}
use Rattle.zio_blkptr.specs.declared.pointer.Bp.{Bp}
use Rattle.zio_gang.specs.Attempts.{Terms}
use Rattle.zio_trace.specs.Leaves.{Answer}
use Rattle.zio_trace.specs.Plans.{head_task}
use Rattle.zio_trace.specs.Tasks.{ByClaim, ByKept, Look, Task, Value, Walked, WalkedBy}
use Rattle.zio_frames.specs.Frames.{Child, Stack, fresh_stack, kind_of_task, needs_none}
use Rattle.zio_frames.specs.Moves.{IsEnded, WillHave}
use Rattle.zio_frames.specs.Slots.{Heard, IsOut, Slot, told_in}
use Rattle.zio_frames.proofs.GetLemmas.{all_by_number}
use Rattle.zio_parts.specs.HeadWalks.{ShowsWalk, Walking, look_of, member_slot, named_by, slots_of, walk_slots}
use Rattle.zio_parts.specs.declared.head_walk.Header.{Header}
use Rattle.zio_parts.specs.declared.head_walk.Header.TheVariants.{Unread, Out, Failed, Read}
use Rattle.zio_parts.specs.declared.head_walk.WalkStep.TheVariants.{End}
use Rattle.zio_exchange.specs.Outcomes.{ClaimsInside, IsAttempt, IsOutcome, IsPart, IsWalk, places_by, places_in, places_with}
use Rattle.zio_stages.specs.HeadsNodes.{HearsHead, HearsSomeBelow, HearsSomeHead, HearsSomeUntold, IsHeadsNode}
use Rattle.zio_stages.specs.HeadsWorks.{IsAskedOf}
use Rattle.zio_stages.specs.OwnParts.{HandsTo, HearsValue, ToldSince}
use Rattle.zio_stages.specs.Sealed.{Outcome}
use Rattle.zio_exchange.specs.declared.outcome.Outcome.TheVariants.{Again, Finished, Found, Stored, Walked as HasWalked}
use Rattle.zio_stages.proofs.HeadsNodeLemmas.{Sits, SitsUntold, sits, sits_untold}
use Rattle.zio_stages.proofs.ToldLemmas.{IsOutNone, none_since}
use Rattle.zio_stages.specs.declared.closing.Seal.{Seal}
use Rattle.zio_staged.specs.Parts.{ended_in_slot}
use Rattle.zio_staged.specs.Stages.{Ends, GoesOn, Grows, Hears, HearsSome, HearsSomeEarly, Tells}
use Rattle.zio_masks.specs.Stages.{IsNext, has}
use Rattle.zio_masks.specs.declared.pipeline.Pipeline.{Pipeline}
use Rattle.zio_masks.specs.declared.stage.Stage.{Stage}
use Rattle.zio_masks.specs.declared.stage.Stage.TheVariants.{Done, GangAssemble, GangIssue, Ready, Start}
use Rattle.zio_nodes.specs.HeadsAts.{WalkStands}
use Rattle.zio_nodes.specs.Nodes.{IsNode, gave_of, nodes, told_of}
use Rattle.zio_nodes.specs.StageMoves.{IsNextOf, takes_stage}
use Rattle.zio_nodes.specs.Told.{is_told}
use Rattle.zio_nodes.specs.declared.heads_at.HeadsAt.{HeadsAt}
use Rattle.zio_nodes.specs.declared.node.Node.{Node}
use Rattle.zio_nodes.specs.declared.node.Node.TheVariants.{Heads}
use Rattle.zio_nodes.proofs.StageLeads.{next_of}
use Rattle.zio_nodes.proofs.StageLemmas.{is_walked}

-- ---- what it hears

pub untold : (at : HeadsAt) (n : ℕ) → HearsSomeEarly {N = Node} nodes (Heads at) n → HearsSomeUntold at.node n
untold at n h = record {
  terms = h.terms;
  stack = h.stack;
  child = h.child;
  is = h.hears.is;
  seated = h.hears.seated;
  there = h.hears.there;
  goes = h.hears.goes;
  untold = h.hears.untold;
}

pub hears_value : (t : Terms) (tops : List Top) (at : HeadsAt) (st : Stack) (n : ℕ) (c : Child) (op : Task) (outcome : Outcome) (v : Value)
    → Hears {N = Node} nodes tops t (Heads at) st n c op outcome v → HearsValue t tops st n c op v
hears_value t tops at st n c op outcome v h = record {
  tops_are = h.now.tops_are;
  seated = h.now.seated;
  there = h.there;
  goes = h.goes;
  told = h.told;
  asked = h.asked;
  fits_told = h.fits_told;
  fits = h.fits;
}

pub hears_head_of : (t : Terms) (tops : List Top) (at : HeadsAt) (st : Stack) (n : ℕ) (c : Child) (op : Task) (outcome : Outcome) (found : Answer) (v : Value)
    → outcome ≡ Found found → Hears {N = Node} nodes tops t (Heads at) st n c op outcome v → HearsHead t tops at.node st n c op v found
hears_head_of t tops at st n c op outcome found v is h =
    let shows : IsOutcome {S = Seal} t op (Found found) v = subst (λ (o : Outcome). IsOutcome {S = Seal} t op o v) is h.shows in
    record {
      node_is = h.now.is;
      hears = hears_value t tops at st n c op outcome v h;
      of_op = shows.0;
      value_is = shows.1;
    }

pub hears_head : (tops : List Top) (at : HeadsAt) (n : ℕ) (outcome : Outcome) (found : Answer) → outcome ≡ Found found
    → HearsSome {N = Node} nodes tops (Heads at) n outcome → HearsSomeHead tops at.node n found
hears_head tops at n outcome found is h =
    let k = h.hears in
    let shows : IsOutcome {S = Seal} h.terms h.op (Found found) h.value = subst (λ (o : Outcome). IsOutcome {S = Seal} h.terms h.op o h.value) is k.shows in
    record {
      terms = h.terms;
      stack = h.stack;
      child = h.child;
      op = h.op;
      value = h.value;
      hears = record {
        node_is = k.now.is;
        hears = hears_value h.terms tops at h.stack n h.child h.op outcome h.value k;
        of_op = shows.0;
        value_is = shows.1;
      };
    }

pub hears_below : (tops : List Top) (at : HeadsAt) (n : ℕ) (outcome : Outcome) (walked : Walked) → outcome ≡ HasWalked walked
    → HearsSome {N = Node} nodes tops (Heads at) n outcome → HearsSomeBelow tops at.node n walked
hears_below tops at n outcome walked is h =
    let k = h.hears in
    let shows : IsOutcome {S = Seal} h.terms h.op (HasWalked walked) h.value = subst (λ (o : Outcome). IsOutcome {S = Seal} h.terms h.op o h.value) is k.shows in
    record {
      terms = h.terms;
      stack = h.stack;
      child = h.child;
      op = h.op;
      value = h.value;
      hears = record {
        node_is = k.now.is;
        hears = hears_value h.terms tops at h.stack n h.child h.op outcome h.value k;
        of_op = shows.0;
        value_is = shows.1;
        inside = shows.2;
      };
    }

-- its children are reads and walks
abbrev IsOther : Task → Type 0
IsOther op = (IsAttempt op → ⊥) × (IsPart op → ⊥) × ((v : Value) → places_by op v ≡ [])

head_other : (look : Look) (path : List ℕ) (bp : Bp) → IsOther (head_task look path bp)
head_other (ByKept heads) path bp = (λ h. h, λ h. h, λ v. refl)
head_other ByClaim path bp = (λ h. h, λ h. h, λ v. refl)

asked_other : (look : Look) (path : List ℕ) (bp : Bp) (members : List Bp) (n : ℕ) (op : Task) → IsAskedOf look path bp members n op → IsOther op
asked_other look path bp members zero op h = subst IsOther (sym h) (head_other look path bp)
asked_other look path bp members (suc n) op h = subst IsOther (sym h.is) (λ k. k, λ k. k, λ v. refl)

other_child : (t : Terms) (tops : List Top) (at : HeadsAt) (st : Stack) (n : ℕ) (c : Child) (op : Task) (outcome : Outcome) (v : Value)
    → Hears {N = Node} nodes tops t (Heads at) st n c op outcome v → IsOther op
other_child t tops at st n c op outcome v h =
    let is : IsHeadsNode t at.node st = h.now.is in
    let s : Sits at.node st c op = sits t tops at.node st n c op v is (hears_value t tops at st n c op outcome v h) in
    let w = at.node.work.walk in
    asked_other (look_of w.claim is.part.heads) w.path w.bp (named_by w.header) s.number op (is.part.asked s.number op s.asked)

abbrev pub IsHeardOutcome : Outcome → Type 0
IsHeardOutcome (Finished f) = ⊥
IsHeardOutcome (Again whole bits pointer) = ⊥
IsHeardOutcome (Found a) = Unit {0}
IsHeardOutcome (HasWalked walked) = Unit {0}
IsHeardOutcome (Stored part) = ⊥

heard_outcome : (t : Terms) (op : Task) (outcome : Outcome) (v : Value) → IsOther op → IsOutcome t op outcome v → IsHeardOutcome outcome
heard_outcome t op (Finished f) v other h = other.0 h.0
heard_outcome t op (Again whole bits pointer) v other h = other.0 h.0
heard_outcome t op (Found a) v other h = tt
heard_outcome t op (HasWalked walked) v other h = tt
heard_outcome t op (Stored part) v other h = other.1 h.0

pub hears_read_or_walk : (tops : List Top) (at : HeadsAt) (n : ℕ) (outcome : Outcome) → HearsSome {N = Node} nodes tops (Heads at) n outcome → IsHeardOutcome outcome
hears_read_or_walk tops at n outcome h =
    heard_outcome h.terms h.op outcome h.value (other_child h.terms tops at h.stack n h.child h.op outcome h.value h.hears) h.hears.shows

-- ---- where the walk ended no child is out

some_told : (xs : List Slot) (n : ℕ) (told : Option (Option Bp)) → slice_get xs n ≡ Some (IsOut told) → told_in xs ≡ [] → ⊥
some_told [] n told e none = cc
some_told (Heard v ∷ xs) zero told e none = cc
some_told (Heard v ∷ xs) (suc n) told e none = some_told xs n told e none
some_told (IsOut out ∷ xs) n told e none = cc

none_told : (xs : List Slot) (n : ℕ) → IsOutNone n xs → told_in xs ≡ [] → ⊥
none_told [] n h none = h
none_told (Heard v ∷ xs) zero h none = h
none_told (Heard v ∷ xs) (suc n) h none = none_told xs n h none
none_told (IsOut out ∷ xs) n h none = cc

-- so one that hears isn't past that
pub heard_walk : (stage : Stage) (old new : Walking) → WalkStands stage old → (ShowsWalk old End → ⊥) → WalkStands stage new
heard_walk Start old new h never = tt
heard_walk GangAssemble old new h never = tt
heard_walk GangIssue old new h never = absurd (never h)
heard_walk Ready old new h never = absurd (never h)
heard_walk Done old new h never = absurd (never h)
heard_walk stage old new h never = absurd h

pub nothing_to_hear : (tops : List Top) (at : HeadsAt) (n : ℕ) (outcome : Outcome) → HearsSome {N = Node} nodes tops (Heads at) n outcome
    → ShowsWalk at.node.work.walk End → ⊥
nothing_to_hear tops at n outcome h end =
    let s : Sits at.node h.stack h.child h.op =
    sits h.terms tops at.node h.stack n h.child h.op h.value h.hears.now.is (hears_value h.terms tops at h.stack n h.child h.op outcome h.value h.hears) in
    some_told (slots_of at.node.work.walk) s.number None s.out end.0

pub nothing_to_tell : (at : HeadsAt) (n : ℕ) → HearsSomeEarly {N = Node} nodes (Heads at) n → ShowsWalk at.node.work.walk End → ⊥
nothing_to_tell at n h end =
    let is : IsHeadsNode h.terms at.node h.stack = h.hears.is in
    let s : SitsUntold h.stack h.child =
    sits_untold h.terms at.node h.stack n h.child is h.hears.seated h.hears.there h.hears.goes h.hears.untold in
    none_told is.begun s.number (none_since is.begun h.stack.outer.slots s.number is.since s.out)
    (ap (λ (xs : List Slot). told_in xs) is.part.slots ∙ end.0)

-- ---- its end

members_ended : (ms : List (Option Walked)) → flat_map ended_in_slot (map member_slot ms) ≡ []
members_ended [] = refl
members_ended (None ∷ ms) = members_ended ms
members_ended (Some w ∷ ms) = members_ended ms

walk_ended : (header : Header) (ms : List (Option Walked)) → flat_map ended_in_slot (walk_slots header ms) ≡ []
walk_ended Unread ms = refl
walk_ended Out ms = refl
walk_ended (Failed e) ms = refl
walk_ended (Read bytes) ms = members_ended ms

since_ended : (xs ys : List Slot) → ToldSince xs ys → flat_map ended_in_slot ys ≡ flat_map ended_in_slot xs
since_ended [] [] h = refl
since_ended [] (y ∷ ys) h = absurd h
since_ended (x ∷ xs) [] h = absurd h
since_ended (Heard v ∷ xs) (Heard w ∷ ys) h =
    ap (λ (u : Value). ended_in_slot (Heard u) ++ flat_map ended_in_slot ys) (sym h.0) ∙ ap (λ es. ended_in_slot (Heard v) ++ es) (since_ended xs ys h.1)
since_ended (Heard v ∷ xs) (IsOut told ∷ ys) h = absurd h
since_ended (IsOut out ∷ xs) (Heard w ∷ ys) h = absurd h
since_ended (IsOut None ∷ xs) (IsOut told ∷ ys) h = since_ended xs ys h
since_ended (IsOut (Some pointer) ∷ xs) (IsOut told ∷ ys) h = since_ended xs ys h.1

slot_holds_none : (op : Task) (slot : Slot) → ((v : Value) → places_by op v ≡ []) → places_with op slot ≡ []
slot_holds_none op (IsOut told) h = refl
slot_holds_none op (Heard v) h = h v

none_held : (asked : List Task) (slots : List Slot) → AllByRecursion (λ (op : Task). (v : Value) → places_by op v ≡ []) asked → places_in asked slots ≡ []
none_held [] slots h = refl
none_held (op ∷ asked) [] h = refl
none_held (op ∷ asked) (slot ∷ slots) h =
    ap (λ xs. xs ++ places_in asked slots) (slot_holds_none op slot h.0) ∙ none_held asked slots h.1

walk_holds_none : (t : Terms) (at : HeadsAt) (st : Stack) → IsHeadsNode t at.node st → places_in st.outer.asked st.outer.slots ≡ []
walk_holds_none t at st h =
    let w = at.node.work.walk in
    none_held st.outer.asked st.outer.slots
    (all_by_number (λ (op : Task). (v : Value) → places_by op v ≡ []) st.outer.asked
    (λ k op e. (asked_other (look_of w.claim h.part.heads) w.path w.bp (named_by w.header) k op (h.part.asked k op e)).2))

pub walk_ends : (t : Terms) (at : HeadsAt) (st : Stack) (walked : Walked) → IsHeadsNode t at.node st → at.stage ≡ Done
    → IsEnded t st (WalkedBy walked) → ClaimsInside t st.outer.op walked → Ends {N = Node} {S = Seal} nodes gave_of t (Heads at) st [] (HasWalked walked)
walk_ends t at st walked h done ended inside = record {
  value = WalkedBy walked;
  gone = [];
  ended = [];
  ends = ended;
  told = λ no. ap is_told done;
  shows = (subst IsWalk (sym h.part.op) tt, refl, inside);
  requests = sym (ap (λ xs. xs ++ []) (since_ended h.begun st.outer.slots h.since
      ∙ ap (flat_map ended_in_slot) h.part.slots ∙ walk_ended at.node.work.walk.header at.node.work.walk.members));
  requests_are = refl;
  calls_are = refl;
  places = let P : List Place → Type 0 = λ ps. IsPermutation (ps ++ []) [] in subst P (sym (walk_holds_none t at st h)) (IsPermutation-refl []);
}

-- ---- its stages

-- it goes on as it is
pub walk_goes : (t : Terms) (st : Stack) (at after : HeadsAt) → IsHeadsNode t after.node st → is_told after.stage ≡ is_told at.stage
    → GoesOn {N = Node} nodes gave_of t (Heads at) st [] (Heads after)
walk_goes t st at after is told = record {
  dids = [];
  gone = [];
  stack = st;
  does = refl;
  opens = tt;
  calls_are = refl;
  is = is;
  told = told;
  gave_more = refl;
}

-- its next stage is the next of a mask with the gang stages
pub walk_leads : (at : HeadsAt) (mask : Pipeline) (stage next : Stage) → at.stage ≡ stage → ((s : Stage) → has mask s ≡ is_walked s) → IsNext mask stage next
    → IsNextOf (takes_stage (Heads at)) at.stage next
walk_leads at mask stage next stands same h = next_of mask (takes_stage (Heads at)) at.stage stage next stands (λ s lt. same s) h

-- what is next is handed to a child of which nothing is done
pub walk_grows_by : (t : Terms) (st : Stack) (at after : HeadsAt) (child : Node) (IsChild : Task → Type 0) → HandsTo t Gang IsChild (IsHeadsNode t after.node) st
    → ((op : Task) → IsChild op → IsNode t child (fresh_stack op)) → told_of child ≡ false → gave_of child ≡ [] → is_told after.stage ≡ is_told at.stage
    → Grows {N = Node} nodes gave_of t (Heads at) st [] (Heads after) child Gang
walk_grows_by t st at after child IsChild hands fresh untold none told = record {
  dids = [];
  stack = st;
  does = refl;
  opens = tt;
  calls_are = refl;
  op = hands.op;
  part = hands.part;
  asks = hands.asks;
  is = hands.after;
  told = told;
  gave_same = refl;
  child_is = fresh hands.op hands.child_is;
  child_told = λ gang. untold;
  child_gave = none;
  of_kind = sym hands.of_kind;
}

pub walk_tells : (t : Terms) (st : Stack) (at after : HeadsAt) → IsHeadsNode t at.node st → IsHeadsNode t after.node st → WillHave t st.outer None
    → is_told at.stage ≡ false → is_told after.stage ≡ true → Tells {N = Node} nodes gave_of t (Heads at) st [] (Heads after) None
walk_tells t st at after was is will before told = record {
  will = will;
  needs = ap (λ (op : Task). needs_none (kind_of_task op)) was.part.op;
  before = before;
  is = is;
  told = told;
  gave_same = refl;
  no_calls = refl;
}
