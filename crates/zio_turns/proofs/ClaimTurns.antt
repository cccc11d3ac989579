-- In a round with a claim one attempt is made, and takes places once.
use Rattle.std.proofs.Common.{◌≡◌, ℕ, zero, suc, ◌+◌, ◌≤◌, List, [], ◌∷◌, ◌++◌, length, Bool, true, false, cond, Option, Some, None, inl, inr, Contains, refl, sym, ap, subst, ◌∙◌, arith}
use Rattle.std.specs.List.{AllByRecursion}
use Rattle.std.proofs.lemmas.Bool.{false≢true}
use Rattle.zio_types.specs.declared.error.Errno.{Errno}
use Rattle.zio_types.specs.declared.request.Bits.{Bits}
use Rattle.zio_script.specs.declared.script.Request.{Request}
use Rattle.zio_types.specs.Choices.{Ask, Choice}
use Rattle.zio_script.specs.declared.script.Work.{Work}
use Rattle.zio_script.specs.declared.script.Work.TheVariants.{Null, Read as WorkRead, Write, Free, Claim}
use Rattle.zio_script.specs.declared.script.Failmode.{Failmode}
use Rattle.zio_script.specs.Requests.{kind_of}
use Rattle.zio_cksum.proofs.AllLemmas.{all_contains}
use Rattle.zio_gang.specs.declared.tree.Tree.{Tree}
use Rattle.zio_gang.specs.Attempts.{Child as Left, Own, Pending, Terms, all_bits, bits_of, children_of, closed_if, finished_of, has_bits, insert_children, now_alone, reexecutions_max}
use Rattle.zio_trace.specs.Families.{Forest, NoTrees, TreeOf, flat, root_left}
use Rattle.zio_trace.specs.Footprints.{AreFrom}
use Rattle.zio_trace.specs.Keys.{bit, count_in}
use Rattle.zio_trace.specs.Labels.{same_number}
use Rattle.zio_trace.specs.Plans.{TaskPlan, bare as bare_own, plan, plan_again, plan_left, plan_own, plan_settle}
use Rattle.zio_trace.specs.Programs.{Asks, Ends, ◌>>=◌}
use Rattle.zio_trace.specs.Separate.{IsNoClaim}
use Rattle.zio_trace.specs.SoundRounds.{HasClaim, IsSoundRound, IsWrite}
use Rattle.zio_trace.specs.Tasks.{Attempt, Find, One, Settle, Settled, SettledBy, TakePlaces, Task, Value, WritePart, attempted}
use Rattle.zio_trace.specs.Traces.{AsksOnly}
use Rattle.zio_trace.proofs.ChoiceLemmas.{one_contained}
use Rattle.zio_trace.proofs.GroundLemmas.{only-then}
use Rattle.zio_trace.proofs.LabelLemmas.{number_itself}
use Rattle.zio_frames.specs.Answering.{NextAnswered}
use Rattle.zio_frames.specs.Frames.{Stack}
use Rattle.zio_frames.specs.Moves.{Chose, Closed, Did, Does, DoesAll, Opened, Took}
use Rattle.zio_frames.specs.OfRound.{AreAsked, IsTaskOf, IsTreeOf}
use Rattle.zio_frames.specs.Slots.{Heard, IsOut, Slot, left_behind_slots, told_in}
use Rattle.zio_frames.proofs.KnownLemmas.{AlwaysEnds, ends_then}
use Rattle.zio_frames.proofs.RoundWalks.{stand_in}
use Rattle.zio_turns.specs.Claims.{IsNoSettle, LeavesNothing, none_taken, takes, turn_left, turn_of}
use Rattle.zio_turns.proofs.ClaimsLast.{asked_of, stands_early, stands_kind}
use Rattle.zio_turns.proofs.PlansOnly.{IsOver, NoTake, NoTry, TakesLast, TakesNone, WritesNone, claims, own_no_try, settle_only_task, task_kinds, task_no_try, task_only}

-- ---- the claim is alone

claims_if : (work : Work) → (IsNoClaim work → ⊥) → claims work ≡ true
claims_if Null h = absurd (h tt)
claims_if (WorkRead name prio) h = absurd (h tt)
claims_if (Write name sum copies prio body) h = absurd (h tt)
claims_if (Free name) h = absurd (h tt)
claims_if (Claim name pointer) h = refl

no_claim_if : (work : Work) → claims work ≡ true → IsNoClaim work → ⊥
no_claim_if Null e h = false≢true e
no_claim_if (WorkRead name prio) e h = false≢true e
no_claim_if (Write name sum copies prio body) e h = false≢true e
no_claim_if (Free name) e h = false≢true e
no_claim_if (Claim name pointer) e h = h

-- the round is that request's
pub record IsAlone (f : Forest) : Type 0 where
  pub root : Pending
  pub is : f ≡ TreeOf root NoTrees NoTrees
  pub claim : claims root.request.work ≡ true

pub claim_alone : (t : Terms) (sizes : ℕ → ℕ) (f : Forest) → IsSoundRound t sizes f → HasClaim f → IsAlone f
claim_alone t sizes f sound h = elim sound.claims [
  | inl none ↦ absurd (h.2 (all_contains (λ (p : Pending). IsNoClaim p.request.work) (flat f) h.0 none h.1))
  | inr one ↦ record {
    root = one.0;
    is = one.1;
    claim =
        let same : one.0 ≡ h.0 = one_contained one.0 h.0 (subst (λ (g : Forest). Contains (flat g) h.0) one.1 h.1) in
        ap (λ (p : Pending). claims p.request.work) same ∙ claims_if h.0.request.work h.2;
  }
]

all_middle : {X : Type 0} (P : X → Type 0) (xs ys : List X) (y : X) → AllByRecursion P (xs ++ y ∷ ys) → P y
all_middle P [] ys y h = h.0
all_middle P (x ∷ xs) ys y h = all_middle P xs ys y h.1

-- each request of a tree of it is the claim, and none stands under it
module _ (f : Forest) (alone : IsAlone f) where
  from_root : (p : Pending) → (x : Pending) × Contains (flat f) x × (x.request ≡ p.request) × (x.block ≡ p.block)
      → p.request ≡ alone.root.request
  from_root p from =
      let same : alone.root ≡ from.0 =
      one_contained alone.root from.0 (subst (λ (g : Forest). Contains (flat g) from.0) alone.is from.1) in
      sym from.2 ∙ ap (λ (x : Pending). x.request) (sym same)

  pub root_claims : (p : Pending) (ps : List Pending) → AreFrom (flat f) (p ∷ ps) → claims p.request.work ≡ true
  root_claims p ps from = ap (λ (r : Request). claims r.work) (from_root p from.0) ∙ alone.claim

  pub none_under : (p : Pending) (kids : Forest) → IsTreeOf f p kids → kids ≡ NoTrees
  none_under p NoTrees h = refl
  none_under p (TreeOf r below others) h =
      let n : ℕ = p.request.number in
      let own : p.request ≡ alone.root.request = from_root p h.from.0 in
      let other : r.request ≡ alone.root.request =
      from_root r (all_middle (λ (q : Pending). (x : Pending) × Contains (flat f) x × (x.request ≡ q.request) × (x.block ≡ q.block))
      (flat below) (flat others) r h.from.1) in
      let same : r.request.number ≡ n = ap (λ (x : Request). x.number) (other ∙ sym own) in
      let first : bit (same_number n n) ≡ 1 = ap bit (number_itself n) in
      let second : bit (same_number r.request.number n) ≡ 1 = ap (λ (m : ℕ). bit (same_number m n)) same ∙ first in
      let once : bit (same_number n n) + (bit (same_number r.request.number n) + (count_in n below + count_in n others)
      + count_in n NoTrees) ≤ 1 = h.once n in
      absurd (omega arith)

  -- it asks for no places for blocks
  pub writes_none : (t : Terms) (entries : List Choice) (op : Task) → IsTaskOf t f entries op → ((a : Ask) → op ≡ Find a → ⊥)
      → WritesNone op
  writes_none t entries (Find a) of finds = absurd (finds a refl)
  writes_none t entries (WritePart attempt p sum copies levels path bytes) of finds =
      write_no_claim p.request.work of.write (root_claims p [] of.from)
    where
      write_no_claim : (work : Work) → IsWrite work → claims work ≡ true → ⊥
      write_no_claim (Write name sum copies prio body) h e = false≢true e
      write_no_claim Null h e = h
      write_no_claim (WorkRead name prio) h e = h
      write_no_claim (Free name) h e = h
      write_no_claim (Claim name pointer) h e = h
  writes_none t entries (Attempt attempt p kids) of finds = root_claims p (flat kids) of.from
  writes_none t entries _ of finds = tt

-- ---- who may take places

not_true : (b : Bool) → (b ≡ true → ⊥) → b ≡ false
not_true true h = absurd (h refl)
not_true false h = refl

over_ends : {A : Type 0} (slots : List Slot) (p : TaskPlan A) (outs : List _) (op : Task) → IsOver p
    → NextAnswered outs (left_behind_slots slots p) op → ⊥
over_ends [] (Ends a) outs op h next = next
over_ends (x ∷ slots) (Ends a) outs op h next = next
over_ends slots (Asks q more) outs op h next = h

-- what takes last has taken none yet, where it asks more
none_before : {A : Type 0} (asked : List Task) (slots : List Slot) (p : TaskPlan A) (op : Task) → TakesLast p → AreAsked asked slots p
    → length asked ≡ length slots → NextAnswered (told_in slots) (left_behind_slots slots p) op → none_taken asked ≡ 1
none_before [] slots p op last are full next = refl
none_before (q ∷ asked) [] p op last are full next = absurd (omega arith)
none_before (q ∷ asked) (x ∷ slots) (Ends a) op last are full next = absurd next
none_before (q ∷ asked) (Heard v ∷ slots) (Asks own more) op last are full next =
    let other : takes q ≡ false =
    not_true (takes q) (λ e. over_ends slots (more v) (told_in slots) op (last.0 (ap takes (sym are.0) ∙ e) v) next) in
    ap (λ (b : Bool). cond b 0 (none_taken asked)) other ∙ none_before asked slots (more v) op (last.1 v) are.1 (omega arith) next
none_before (q ∷ asked) (IsOut told ∷ slots) (Asks own more) op last are full next =
    let v : Value = stand_in own told in
    let then = next v (stands_kind own told) (stands_early own told) in
    let other : takes q ≡ false =
    not_true (takes q) (λ e. over_ends slots (more v) (told_in slots) op (last.0 (ap takes (sym are.0) ∙ e) v) then) in
    ap (λ (b : Bool). cond b 0 (none_taken asked)) other
    ∙ none_before asked slots (more v) op (last.1 v) (are.1 v (stands_kind own told) (stands_early own told)) (omega arith) then

module _ (t : Terms) where
  none_takes : (op : Task) (slots : List Slot) (tree : Tree) → TakesNone (plan t op)
      → NextAnswered (told_in slots) (left_behind_slots slots (plan t op)) (TakePlaces tree) → ⊥
  none_takes op slots tree none next = false≢true (sym (asked_of NoTake slots (plan t op) (TakePlaces tree) none next))

  by_kind : (op : Task) (asked : List Task) (slots : List Slot) (tree : Tree) → AreAsked asked slots (plan t op)
      → length asked ≡ length slots → NextAnswered (told_in slots) (left_behind_slots slots (plan t op)) (TakePlaces tree)
      → none_taken asked ≡ 1
  by_kind op asked slots tree are full next = elim (task_kinds t op) [
    | inl none ↦ absurd (none_takes op slots tree none next)
    | inr some ↦ none_before asked slots (plan t op) (TakePlaces tree) some.last are full next
  ]

  -- what asks to take places may
  pub take_turn : (op : Task) (asked : List Task) (slots : List Slot) (tree : Tree) → AreAsked asked slots (plan t op)
      → length asked ≡ length slots → NextAnswered (told_in slots) (left_behind_slots slots (plan t op)) (TakePlaces tree)
      → turn_left op asked ≡ 1
  take_turn (Attempt attempt p kids) asked slots tree are full next = by_kind (Attempt attempt p kids) asked slots tree are full next
  take_turn (TakePlaces own) asked slots tree are full next = by_kind (TakePlaces own) asked slots tree are full next
  take_turn (Settle p kids) asked slots tree are full next =
      absurd (none_takes (Settle p kids) slots tree (settle_only_task NoTake (λ op h. h.0) t (λ n q under. refl) p kids) next)
  take_turn op asked slots tree are full next =
      absurd (none_takes op slots tree (task_only NoTake (λ q h. h.0) (λ a. refl) t op refl refl) next)

-- with one operation more none may that couldn't
pub taken_more : (asked : List Task) (op : Task) → none_taken (asked ++ op ∷ []) ≤ none_taken asked
taken_more [] op = by (takes op)
  where
    by : (b : Bool) → cond b 0 1 ≤ 1
    by true = omega arith
    by false = omega arith
taken_more (q ∷ asked) op = by (takes q) (taken_more asked op)
  where
    by : (b : Bool) → none_taken (asked ++ op ∷ []) ≤ none_taken asked
        → cond b 0 (none_taken (asked ++ op ∷ [])) ≤ cond b 0 (none_taken asked)
    by true h = omega arith
    by false h = h

pub turn_more : (op : Task) (asked : List Task) (q : Task) → turn_left op (asked ++ q ∷ []) ≤ turn_left op asked
turn_more (Attempt attempt p kids) asked q = taken_more asked q
turn_more (TakePlaces tree) asked q = taken_more asked q
turn_more _ asked q = omega arith

-- what took places may no more
taken_now : (asked : List Task) (tree : Tree) → none_taken (asked ++ TakePlaces tree ∷ []) ≡ 0
taken_now [] tree = refl
taken_now (q ∷ asked) tree = by (takes q) (taken_now asked tree)
  where
    by : (b : Bool) → none_taken (asked ++ TakePlaces tree ∷ []) ≡ 0 → cond b 0 (none_taken (asked ++ TakePlaces tree ∷ [])) ≡ 0
    by true h = refl
    by false h = h

pub turn_taken : (op : Task) (asked : List Task) (tree : Tree) → turn_left op (asked ++ TakePlaces tree ∷ []) ≡ 0
turn_taken (Attempt attempt p kids) asked tree = taken_now asked tree
turn_taken (TakePlaces own) asked tree = taken_now asked tree
turn_taken _ asked tree = refl

-- what a node does itself leaves it no more turns
pub turn_does : (t : Terms) (did : Did) (a b : Stack) → Does t did a b → turn_of b ≤ turn_of a
turn_does t (Opened op) a b h =
    subst (λ (s : Stack). turn_of s ≤ turn_of a) (sym h.3) (turn_more a.outer.op a.outer.asked op)
turn_does t (Closed v) a b h = subst (λ (s : Stack). turn_of s ≤ turn_of a) (sym h.4) (omega arith)
turn_does t (Chose c) a b h =
    subst (λ (s : Stack). turn_of s ≤ turn_of a) (sym h.2) (turn_more a.outer.op a.outer.asked (Find c.asked))
turn_does t (Took tree free) a b h =
    subst (λ (s : Stack). turn_of s ≤ turn_of a) (sym h.2) (turn_more a.outer.op a.outer.asked (TakePlaces tree))

pub turn_does_all : (t : Terms) (dids : List Did) (a b : Stack) → DoesAll t dids a b → turn_of b ≤ turn_of a
turn_does_all t [] a b h = subst (λ (s : Stack). turn_of s ≤ turn_of a) (sym h) (omega arith)
turn_does_all t (did ∷ dids) a b h =
    let one = turn_does t did a h.0 h.1 in let rest = turn_does_all t dids h.0 b h.2 in omega arith

-- ---- what a node asks of its children

attempt_no_try : (t : Terms) (attempt : ℕ) (p : Pending) → AsksOnly NoTry (plan t (Attempt attempt p NoTrees))
attempt_no_try t attempt p =
    only-then NoTry (plan_own t attempt p p.request.work _) _ (own_no_try t attempt p p.request.work _) (λ own. tt)

pub asks_no_try : (t : Terms) (f : Forest) (entries : List Choice) (op next : Task) (slots : List Slot) → IsAlone f
    → IsTaskOf t f entries op → IsNoSettle op → NextAnswered (told_in slots) (left_behind_slots slots (plan t op)) next → NoTry next
asks_no_try t f entries (Attempt attempt p kids) next slots alone of none asks =
    asked_of NoTry slots (plan t (Attempt attempt p kids)) next
    (subst (λ (k : Forest). AsksOnly NoTry (plan t (Attempt attempt p k))) (sym (none_under f alone p kids of)) (attempt_no_try t attempt p))
    asks
asks_no_try t f entries (Settle p kids) next slots alone of none asks = absurd none
asks_no_try t f entries op next slots alone of none asks = asked_of NoTry slots (plan t op) next (task_no_try t op refl) asks

-- an operation that is handed out has no turn that its node doesn't lose
pub handed_turn : (t : Terms) (own : Task) (asked : List Task) (slots : List Slot) (op : Task) → AreAsked asked slots (plan t own)
    → length asked ≡ length slots → NextAnswered (told_in slots) (left_behind_slots slots (plan t own)) op → NoTry op
    → turn_left own (asked ++ op ∷ []) + turn_left op [] ≤ turn_left own asked
handed_turn t own asked slots (TakePlaces tree) are full next none =
    let one = take_turn t own asked slots tree are full next in let zero = turn_taken own asked tree in omega arith
handed_turn t own asked slots (Attempt attempt p kids) are full next none = absurd (false≢true (sym none))
handed_turn t own asked slots (Settle p kids) are full next none = absurd (false≢true (sym none))
handed_turn t own asked slots op are full next none = let more = turn_more own asked op in omega arith

pub no_settle : (op : Task) → NoTry op → IsNoSettle op
no_settle (Settle p kids) h = absurd (false≢true (sym h))
no_settle _ h = tt

-- neither takes places nor attempts anything
abbrev pub IsPlain : Task → Type 0
IsPlain op = NoTake op × NoTry op

pub plain_asks : (t : Terms) (op next : Task) (slots : List Slot) → IsPlain op
    → NextAnswered (told_in slots) (left_behind_slots slots (plan t op)) next → IsPlain next
plain_asks t op next slots plain asks =
    asked_of IsPlain slots (plan t op) next (task_only IsPlain (λ q h. (h.0, h.2)) (λ a. (refl, refl)) t op plain.0 plain.1) asks

pub plain_turn : (op : Task) → IsPlain op → turn_left op [] ≡ 0
plain_turn (TakePlaces tree) h = absurd (false≢true (sym h.0))
plain_turn (Attempt attempt p kids) h = absurd (false≢true (sym h.1))
plain_turn _ h = refl

-- those asked first are asked
pub are_first : {A : Type 0} (asked : List Task) (slots : List Slot) (op : Task) (slot : Slot) (p : TaskPlan A)
    → length asked ≡ length slots → AreAsked (asked ++ op ∷ []) (slots ++ slot ∷ []) p → AreAsked asked slots p
are_first [] slots op slot p full are = tt
are_first (q ∷ asked) [] op slot p full are = absurd (omega arith)
are_first (q ∷ asked) (x ∷ slots) op slot (Ends a) full are = are
are_first (q ∷ asked) (Heard v ∷ slots) op slot (Asks own more) full are =
    (are.0, are_first asked slots op slot (more v) (omega arith) are.1)
are_first (q ∷ asked) (IsOut told ∷ slots) op slot (Asks own more) full are =
    (are.0, λ v kind early. are_first asked slots op slot (more v) (omega arith) (are.1 v kind early))

-- ---- of a claim nothing is left

quiet_bits : (work : Work) (error : Option Errno) (canfail : Bool) (mode : Failmode) → claims work ≡ true
    → has_bits (all_bits (kind_of work) error canfail mode (bits_of [])) ≡ false
quiet_bits (Claim name pointer) None canfail mode e = refl
quiet_bits (Claim name pointer) (Some error) canfail mode e = refl
quiet_bits Null error canfail mode e = absurd (false≢true e)
quiet_bits (WorkRead name prio) error canfail mode e = absurd (false≢true e)
quiet_bits (Write name sum copies prio body) error canfail mode e = absurd (false≢true e)
quiet_bits (Free name) error canfail mode e = absurd (false≢true e)

none_again : (b : Bool) (p : Pending) (own : Own) (bits : Bits) (kept : List Left) (kids : Forest) → b ≡ false
    → root_left (closed_if b p own bits kept).again kids ≡ NoTrees
none_again true p own bits kept kids e = absurd (false≢true (sym e))
none_again false p own bits kept kids e = refl

abbrev pub LeftNone : Value → Type 0
LeftNone v = (attempted v).left ≡ NoTrees

pub claim_ends : (t : Terms) (attempt : ℕ) (p : Pending) → claims p.request.work ≡ true
    → AlwaysEnds LeftNone (plan t (Attempt attempt p NoTrees))
claim_ends t attempt p claim =
    ends_then LeftNone (plan_own t attempt p p.request.work _) _ (λ own.
    let bits : Bits = all_bits (kind_of p.request.work) own.error p.request.canfail t.failmode (bits_of []) in
    none_again (has_bits bits) p (bare_own own) bits (insert_children (children_of (finished_of [])) p.kept) NoTrees
    (quiet_bits p.request.work own.error p.request.canfail t.failmode claim))

-- ---- so the tree isn't attempted again

again_over : {A : Type 0} (b : Bool) (one : One) (again : Pending → Forest → TaskPlan Settled) (k : Settled → A)
    → one.left ≡ NoTrees → IsOver (plan_again b one again >>= λ x. Ends (k x))
again_over true one again k e =
    subst (λ (left : Forest). IsOver (plan_left one left again >>= λ x. Ends (k x))) (sym e) tt
again_over false one again k e = tt

settle_over : {A : Type 0} (more attempt : ℕ) (p : Pending) (kids : Forest) (k : Settled → A) (slot : Slot) (slots : List Slot)
    (op : Task) → LeavesNothing slot
    → NextAnswered (told_in (slot ∷ slots)) (left_behind_slots (slot ∷ slots) (plan_settle more attempt p kids >>= λ x. Ends (k x))) op → ⊥
settle_over zero attempt p kids k (Heard v) [] op quiet next = next
settle_over zero attempt p kids k (Heard v) (x ∷ slots) op quiet next = next
settle_over zero attempt p kids k (IsOut told) slots op quiet next =
    over_ends slots (Ends _) (told_in slots) op tt
    (next (stand_in (Attempt attempt p kids) told) (stands_kind (Attempt attempt p kids) told)
    (stands_early (Attempt attempt p kids) told))
settle_over (suc more) attempt p kids k (Heard v) slots op quiet next =
    over_ends slots _ (told_in slots) op
    (again_over (now_alone (attempted v).return.bits) (attempted v) (plan_settle more (attempt + 1)) k quiet) next
settle_over (suc more) attempt p kids k (IsOut told) slots op quiet next =
    let v : Value = stand_in (Attempt attempt p kids) told in
    over_ends slots _ (told_in slots) op
    (again_over (now_alone (attempted v).return.bits) (attempted v) (plan_settle more (attempt + 1)) k refl)
    (next v (stands_kind (Attempt attempt p kids) told) (stands_early (Attempt attempt p kids) told))

-- a tree that asks for an attempt asked for none before
pub hands_first : (t : Terms) (p : Pending) (kids : Forest) (slots : List Slot) (op : Task) → AllByRecursion LeavesNothing slots
    → NextAnswered (told_in slots) (left_behind_slots slots (plan t (Settle p kids))) op → (slots ≡ []) × (op ≡ Attempt 0 p kids)
hands_first t p kids [] op quiet next = (refl, sym next)
hands_first t p kids (slot ∷ slots) op quiet next =
    absurd (settle_over reexecutions_max 0 p kids SettledBy slot slots op quiet.0 next)
