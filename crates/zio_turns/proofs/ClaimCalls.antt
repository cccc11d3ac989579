-- Which calls of the space a node makes by a claim.
use Rattle.std.proofs.Common.{◌≡◌, ◌≢◌, ℕ, inl, inr, zero, suc, List, [], ◌∷◌, ◌++◌, Bool, Some, Contains, ap, sym, ◌∙◌, subst, arith, refl}
use Rattle.zio_types.specs.declared.place.Place.{Place}
use Rattle.zio_gang.specs.declared.tree.Tree.{Tree}
use Rattle.zio_types.specs.declared.place.Top.{Top}
use Rattle.zio_types.specs.Choices.{Ask, Choice}
use Rattle.zio_gang.specs.Attempts.{Terms}
use Rattle.zio_gang.specs.Journals.{AreLawful}
use Rattle.zio_gang.specs.Trees.{sizes_of}
use Rattle.zio_trace.specs.Families.{Forest}
use Rattle.zio_trace.specs.SoundRounds.{HasClaim, IsSoundRound}
use Rattle.zio_trace.specs.Tasks.{Find}
use Rattle.zio_trace.proofs.ClaimAlone.{claim_makes_none}
use Rattle.zio_frames.specs.Frames.{Stack}
use Rattle.zio_frames.specs.Moves.{Chose, Closed, Did, DoesAll, Opened, Took, choices_of}
use Rattle.slab.specs.Slab.{Slab, get}
use Rattle.zio_exchange.specs.SpaceCalls.{Claimed, SpaceCall, calls_back, calls_by}
use Rattle.zio_staged.specs.Parts.{Nodes}
use Rattle.zio_turns.specs.Rounds.{AsksRightly, Before, ClaimsAlone, SoFar, choices_in, IsTurn}
use Rattle.zio_turns.specs.Slabs.{shelf_of}
use Rattle.zio_staged.specs.Stages.{IsMove, IsNow}
use Rattle.zio_turns.specs.declared.entry.TiedNode.{TiedNode}
use Rattle.zio_staged.specs.declared.staged.Move.{Move}
use Rattle.zio_staged.specs.declared.staged.Move.TheVariants.{End, Grow, Leaf as ToLeaf, Next, Ready, Wait}
use Rattle.zio_turns.proofs.Callings.{choices_did}
use Rattle.zio_turns.proofs.DoesLemmas.{append_none}
use Rattle.zio_turns.proofs.ClaimLedger.{none_for, turns_first}
use Rattle.zio_turns.proofs.ClaimMoves.{asks_some}
use Rattle.zio_turns.proofs.ClaimTurns.{claim_alone, writes_none}
use Rattle.zio_turns.proofs.ClaimsLast.{choices_back, claims_back, claims_or_choices, no_choices}
use Rattle.zio_turns.proofs.FoundFits.{one_takes, one_turns}
use Rattle.zio_turns.proofs.PlansOnly.{task_no_find}
use Rattle.zio_turns.proofs.RoundNodes.{IsThere, it_is_there}
use Rattle.zio_turns.specs.Claims.{one_for}
use Rattle.zio_turns.specs.Desks.{GivesLast, MayAsk, backs_in, claims_asked}
use Rattle.zio_turns.specs.Desks.MayAsk.{Backs, Claims, Places}
use Rattle.zio_staged.specs.Entries.{live_of}

-- what is given back is no claim
none_claimed : (gone : List Place) (places : List Place) (free : Bool) → Contains (calls_back gone) (Claimed places free) → ⊥
none_claimed [] places free h = absurd (omega (arith, h.1))
none_claimed (p ∷ gone) places free (zero, within, is) = absurd (cc)
none_claimed (p ∷ gone) places free (suc k, within, is) = none_claimed gone places free (k, omega arith, is)

behind : {X : Type 0} (x y : X) (xs : List X) → Contains xs x → Contains (y ∷ xs) x
behind x y xs h = (suc h.0, omega (arith, h.1), h.2)

pub claimed_took : (dids : List Did) (gone places : List Place) (free : Bool)
    → Contains (calls_by dids ++ calls_back gone) (Claimed places free) → (tree : Tree) × Contains dids (Took tree free)
claimed_took [] gone places free h = absurd (none_claimed gone places free h)
claimed_took (Opened op ∷ dids) gone places free h =
    let later = claimed_took dids gone places free h in
    (later.0, behind (Took later.0 free) (Opened op) dids later.1)
claimed_took (Closed v ∷ dids) gone places free h =
    let later = claimed_took dids gone places free h in
    (later.0, behind (Took later.0 free) (Closed v) dids later.1)
claimed_took (Chose c ∷ dids) gone places free (zero, within, is) = absurd (cc)
claimed_took (Chose c ∷ dids) gone places free (suc k, within, is) =
    let later = claimed_took dids gone places free (k, omega arith, is) in
    (later.0, behind (Took later.0 free) (Chose c) dids later.1)
claimed_took (Took tree own ∷ dids) gone places free (zero, within, is) =
    let same : own ≡ free = cc in
    (tree, (0, omega arith, ap (λ (b : Bool). Took tree b) same))
claimed_took (Took tree own ∷ dids) gone places free (suc k, within, is) =
    let later = claimed_took dids gone places free (k, omega arith, is) in
    (later.0, behind (Took later.0 free) (Took tree own) dids later.1)

module _ {N : Type 0} (nodes : Nodes N) (t : Terms) (sizes : ℕ → ℕ) (f : Forest) (before : Before)
    (s : SoFar) (slab : Slab (TiedNode N)) (queue leaves : List ℕ) (key : ℕ) (e : TiedNode N) (calls : List SpaceCall) where
  -- a node that did these took places for a claim
  by_claim : IsSoundRound t sizes f → (r : IsThere {N = N} nodes t sizes f before s slab queue leaves key e)
      → (dids : List Did) (gone : List Place) (st : Stack) → DoesAll t dids r.node.stack st → calls ≡ calls_by dids ++ calls_back gone
      → AreLawful (sizes_of t.setting.tops) t.used (s.entries ++ choices_in calls) → (places : List Place) (free : Bool)
      → Contains calls (Claimed places free) → HasClaim f × (s.entries ≡ [])
  by_claim sound r dids gone st does are lawful places free there =
      let took = claimed_took dids gone places free
      (subst (λ (cs : List SpaceCall). Contains cs (Claimed places free)) are there) in
      let same : choices_in calls ≡ choices_of dids = ap choices_in are ∙ choices_did dids gone in
      let lawful_now : AreLawful (sizes_of t.setting.tops) t.used (r.state.entries ++ choices_of dids) =
      subst (λ (cs : List Choice). AreLawful (sizes_of t.setting.tops) t.used cs)
      (ap (λ (cs : List Choice). s.entries ++ cs) same
      ∙ ap (λ (cs : List Choice). cs ++ choices_of dids) (sym r.entries_are)) lawful in
      let claim : HasClaim f =
      one_takes nodes t sizes f before s.trees s.tops (shelf_of {N = N} slab) queue leaves r.state key r.node r.others dids st took.0
      free sound r.kept does lawful_now took.1 in
      (claim, sym r.entries_are ∙ claim_makes_none t sizes f before r.state sound r.kept.running.underway claim)

  no_calls : calls ≡ [] → (places : List Place) (free : Bool) → Contains calls (Claimed places free) → ⊥
  no_calls none places free there =
      none_claimed [] places free (subst (λ (cs : List SpaceCall). Contains cs (Claimed places free)) none there)

  by_move : {S : Type 0} → IsSoundRound t sizes f → (r : IsThere {N = N} nodes t sizes f before s slab queue leaves key e) → (move : Move N S)
      → IsMove {N = N} nodes nodes.gave t e.node r.node.stack calls move
      → AreLawful (sizes_of t.setting.tops) t.used (s.entries ++ choices_in calls) → (places : List Place) (free : Bool)
      → Contains calls (Claimed places free) → HasClaim f × (s.entries ≡ [])
  by_move sound r (Next after) m lawful places free there =
      by_claim sound r m.dids m.gone m.stack m.does m.calls_are lawful places free there
  by_move sound r (Wait after kind phase) m lawful places free there = absurd (no_calls m.stays.no_calls places free there)
  by_move sound r (Grow after child kind) m lawful places free there =
      by_claim sound r m.dids [] m.stack m.does (m.calls_are ∙ sym (append_none (calls_by m.dids))) lawful places free there
  by_move sound r (ToLeaf after op leaf bytes) m lawful places free there = absurd (no_calls m.stays.no_calls places free there)
  by_move sound r (Ready after pointer) m lawful places free there = absurd (no_calls m.no_calls places free there)
  by_move sound r (End outcome) m lawful places free there =
      absurd (none_claimed m.gone places free
      (subst (λ (cs : List SpaceCall). Contains cs (Claimed places free)) m.calls_are there))

pub steps_claim : {N S : Type 0} (nodes : Nodes N) (tops : List Top) (slab : Slab (TiedNode N)) (line : List ℕ)
    (key : ℕ) (e : TiedNode N) (calls : List SpaceCall) (move : Move N S) → get slab key ≡ Some e
    → ((t : Terms) (st : Stack) → IsNow {N = N} nodes tops t e.node st → IsMove {N = N} nodes nodes.gave t e.node st calls move)
    → ClaimsAlone {N = N} nodes tops calls slab line key
steps_claim {N} nodes tops slab line key e calls move is moves =
    λ t sizes f before s leaves sound tops_are k lawful places free there.
    let r = it_is_there nodes t sizes f before s slab (key ∷ line) leaves key e k is in
    by_move nodes t sizes f before s slab (key ∷ line) leaves key e calls sound r move
    (moves t r.node.stack (record { tops_are = tops_are; is = r.is; seated = r.seated })) lawful places free there

-- ---- what a node may ask

module _ {N : Type 0} (nodes : Nodes N) (t : Terms) (sizes : ℕ → ℕ) (f : Forest) (before : Before)
    (s : SoFar) (slab : Slab (TiedNode N)) (queue leaves : List ℕ) (key : ℕ) (e : TiedNode N) (calls : List SpaceCall)
    (sound : IsSoundRound t sizes f) (r : IsThere {N = N} nodes t sizes f before s slab queue leaves key e)
    (finds : (a : Ask) → r.node.stack.outer.op ≢ Find a) where
  abbrev May : Type 0
  May = MayAsk s.entries s.books.claimed calls

  none_ask : calls ≡ [] → May
  none_ask none = Backs (ap choices_in none) (ap claims_asked none)

  -- beside a claim it asks for no places for blocks
  chooses_none : HasClaim f → (dids : List Did) (gone : List Place) (st : Stack) → DoesAll t dids r.node.stack st
      → calls ≡ calls_by dids ++ calls_back gone → choices_in calls ≡ []
  chooses_none claim dids gone st does are =
      ap choices_in are
      ∙ (choices_back (calls_by dids) gone
      ∙ no_choices t dids r.node.stack st (task_no_find t r.node.stack.outer.op
      (writes_none f (claim_alone t sizes f sound claim) t r.seen r.node.stack.outer.op r.of_round.outer.task finds)) does)

  ask_by : (dids : List Did) (gone : List Place) (st : Stack) → DoesAll t dids r.node.stack st
      → calls ≡ calls_by dids ++ calls_back gone → May
  ask_by dids gone st does are =
      let none_claimed_by : claims_asked (calls_by dids ++ calls_back gone) ≡ 0 → claims_asked calls ≡ 0 = λ none. ap claims_asked are ∙ none in
      elim (claims_or_choices t dids gone r.node.stack st does) [
        | inl none ↦ elim r.ledger.claims.alone [
          | inl empty ↦ Places empty (none_claimed_by none)
          | inr claim ↦ Backs (chooses_none claim dids gone st does are) (none_claimed_by none)
        ]
        | inr few ↦ elim (asks_some dids gone) [
          | inl none ↦ Backs (ap choices_in are ∙ few.0) (none_claimed_by none)
          | inr took ↦
              let same : choices_of dids ≡ [] = sym (choices_did dids gone) ∙ few.0 in
              let lawful : AreLawful (sizes_of t.setting.tops) t.used (r.state.entries ++ choices_of dids) =
              subst (λ (cs : List Choice). AreLawful (sizes_of t.setting.tops) t.used cs)
              (sym (ap (λ (cs : List Choice). r.state.entries ++ cs) same ∙ append_none r.state.entries))
              r.kept.running.underway.lawful in
              let claim : HasClaim f =
              one_takes nodes t sizes f before s.trees s.tops (shelf_of {N = N} slab) queue leaves r.state key r.node r.others dids st
              took.0 took.1 sound r.kept does lawful took.2 in
              let turn = one_turns nodes t sizes f before s.trees s.tops (shelf_of {N = N} slab) queue leaves r.state key r.node r.others
              dids st took.0 took.1 sound r.kept does lawful took.2 in
              let none : one_for s.books.claimed ≡ 0 =
              let once = (r.ledger.claims.once claim).few in
              let first = turns_first (live_of key r.node) r.others in omega (arith, turn.0) in
              let most : claims_asked calls ≡ claims_asked (calls_by dids ++ calls_back gone) = ap claims_asked are in
              Claims (sym r.entries_are ∙ claim_makes_none t sizes f before r.state sound r.kept.running.underway claim)
              (none_for s.books.claimed none) (ap choices_in are ∙ few.0) (omega (arith, few.1, most))
        ]
      ]

  ask_move : {S : Type 0} (move : Move N S) → IsMove {N = N} nodes nodes.gave t e.node r.node.stack calls move → May
  ask_move (Next after) m = ask_by m.dids m.gone m.stack m.does m.calls_are
  ask_move (Wait after kind phase) m = none_ask m.stays.no_calls
  ask_move (Grow after child kind) m = ask_by m.dids [] m.stack m.does (m.calls_are ∙ sym (append_none (calls_by m.dids)))
  ask_move (ToLeaf after op leaf bytes) m = none_ask m.stays.no_calls
  ask_move (Ready after pointer) m = none_ask m.no_calls
  ask_move (End outcome) m = Backs (ap choices_in m.calls_are ∙ choices_back [] m.gone) (ap claims_asked m.calls_are ∙ claims_back [] m.gone)

pub steps_ask : {N S : Type 0} (nodes : Nodes N) (tops : List Top) (slab : Slab (TiedNode N)) (line : List ℕ)
    (key : ℕ) (e : TiedNode N) (calls : List SpaceCall) (move : Move N S) → get slab key ≡ Some e
    → ((t : Terms) (st : Stack) → IsNow {N = N} nodes tops t e.node st → IsMove {N = N} nodes nodes.gave t e.node st calls move)
    → ((t : Terms) (node : N) (st : Stack) (a : Ask) → nodes.Is t node st → st.outer.op ≢ Find a)
    → AsksRightly {N = N} nodes tops calls slab line key
steps_ask {N} nodes tops slab line key e calls move is moves finds =
    λ t sizes f before s leaves sound tops_are k.
    let r = it_is_there nodes t sizes f before s slab (key ∷ line) leaves key e k is in
    ask_move nodes t sizes f before s slab (key ∷ line) leaves key e calls sound r (λ a. finds t e.node r.node.stack a r.is) move
    (moves t r.node.stack (record { tops_are = tops_are; is = r.is; seated = r.seated }))

-- ---- what is given back comes last

none_back : (dids : List Did) → backs_in (calls_by dids) ≡ []
none_back [] = refl
none_back (Opened op ∷ dids) = none_back dids
none_back (Closed v ∷ dids) = none_back dids
none_back (Chose c ∷ dids) = none_back dids
none_back (Took tree free ∷ dids) = none_back dids

nothing_last : (calls : List SpaceCall) → calls ≡ [] → GivesLast calls
nothing_last calls none = record { first = []; gone = []; are = none; none = refl }

last_by : {N S : Type 0} (nodes : Nodes N) (t : Terms) (node : N) (st : Stack) (calls : List SpaceCall) (move : Move N S)
    → IsMove {N = N} nodes nodes.gave t node st calls move → GivesLast calls
last_by nodes t node st calls (Next after) m =
    record { first = calls_by m.dids; gone = m.gone; are = m.calls_are; none = none_back m.dids }
last_by nodes t node st calls (Wait after kind phase) m = nothing_last calls m.stays.no_calls
last_by nodes t node st calls (Grow after child kind) m =
    record { first = calls_by m.dids; gone = []; are = m.calls_are ∙ sym (append_none (calls_by m.dids)); none = none_back m.dids }
last_by nodes t node st calls (ToLeaf after op leaf bytes) m = nothing_last calls m.stays.no_calls
last_by nodes t node st calls (Ready after pointer) m = nothing_last calls m.no_calls
last_by nodes t node st calls (End outcome) m = record { first = []; gone = m.gone; are = m.calls_are; none = refl }

pub steps_last : {N S : Type 0} (nodes : Nodes N) (over : List Top → N → Type 0) (tops : List Top) (slab : Slab (TiedNode N)) (line : List ℕ)
    (key : ℕ) (e : TiedNode N) (calls : List SpaceCall) (move : Move N S) → get slab key ≡ Some e
    → ((t : Terms) (st : Stack) → IsNow {N = N} nodes tops t e.node st → IsMove {N = N} nodes nodes.gave t e.node st calls move)
    → IsTurn {N = N} nodes over tops slab line key → GivesLast calls
steps_last {N} nodes over tops slab line key e calls move is moves turn =
    let some = turn.keeps in
    let r = it_is_there nodes some.terms some.sizes some.forest some.before some.so_far slab (key ∷ line) turn.leaves key e some.keeps is in
    last_by nodes some.terms e.node r.node.stack calls move
    (moves some.terms r.node.stack (record { tops_are = some.tops_are; is = r.is; seated = r.seated }))
