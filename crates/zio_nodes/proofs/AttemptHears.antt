-- What a request hears of the attempts of its children's trees.
use Rattle.std.proofs.Common.{◌≡◌, ℕ, List, Option, Some, None, slice_get, sym, ap, subst, ◌∙◌}
use Rattle.zio_types.specs.declared.place.Top.{Top}
use Rattle.zio_types.specs.declared.request.Bits.{Bits}
use Rattle.zio_types.specs.declared.request.ChildKind.{ChildKind}
use Rattle.zio_types.specs.declared.error.Errno.{Errno}
use Rattle.zio_blkptr.specs.declared.pointer.Bp.{Bp}
use Rattle.zio_gang.specs.Attempts.{Child as LeftChild, Pending, Terms, no_bits}
use Rattle.zio_trace.specs.Families.{Forest}
use Rattle.zio_trace.specs.Tasks.{Attempt, AttemptedBy, One, Task, Value}
use Rattle.zio_frames.specs.Answering.{IsAnswerTo}
use Rattle.zio_frames.specs.Frames.{Child, Stack}
use Rattle.zio_children.specs.RequestKids.{IsLeftBy, IsOutWith, numbers_of}
use Rattle.zio_children.specs.declared.kids.KidState.{KidState}
use Rattle.zio_children.specs.declared.kids.KidState.TheVariants.{Told}
use Rattle.zio_exchange.specs.Outcomes.{IsFinishedAs, IsLeftAs, IsOutcome}
use Rattle.zio_exchange.specs.Wholes.{root_number}
use Rattle.zio_exchange.specs.declared.waiting.UnfinishedRequest.{UnfinishedRequest}
use Rattle.zio_stages.specs.OwnParts.{HearsValue}
use Rattle.zio_stages.specs.RequestHearings.{HearsEarlyOf, HearsValueOf, IsAttemptedBy, IsKidTold}
use Rattle.zio_stages.specs.RequestNodes.{IsKidAt, IsSeatOf}
use Rattle.zio_exchange.specs.declared.outcome.FinishedRequest.{FinishedRequest}
use Rattle.zio_stages.specs.Sealed.{Outcome}
use Rattle.zio_exchange.specs.declared.outcome.Outcome.TheVariants.{Again, Finished as HasFinished}
use Rattle.zio_stages.specs.declared.closing.Seal.{Seal}
use Rattle.zio_stages.specs.declared.request_node.RequestNode.{RequestNode}
use Rattle.zio_stages.proofs.RequestHears.{one_place}
use Rattle.zio_staged.specs.Stages.{Hears, HearsEarly}
use Rattle.zio_nodes.specs.Nodes.{nodes}
use Rattle.zio_nodes.specs.declared.node.Node.{Node}
use Rattle.zio_nodes.specs.declared.node.Node.TheVariants.{Request}
use Rattle.zio_nodes.specs.declared.request_at.RequestAt.{RequestAt}

-- ---- as zio_stages has it

abbrev pub hears_value : (t : Terms) (tops : List Top) (at : RequestAt) (st : Stack) (n : ℕ) (c : Child) (op : Task) (outcome : Outcome) (v : Value)
    → Hears {N = Node} nodes tops t (Request at) st n c op outcome v → HearsValue t tops st n c op v
hears_value t tops at st n c op outcome v h = record {
  tops_are = h.now.tops_are;
  seated = h.now.seated;
  there = h.there;
  goes = h.goes;
  told = h.told;
  asked = h.asked;
  fits_told = h.fits_told;
  fits = h.fits;
}

abbrev pub hears_of : (IsHeard : Task → Value → Type 0) (t : Terms) (tops : List Top) (at : RequestAt) (st : Stack) (n : ℕ) (c : Child) (op : Task) (outcome : Outcome) (v : Value)
    → Hears {N = Node} nodes tops t (Request at) st n c op outcome v → IsHeard op v → HearsValueOf IsHeard at.node n
hears_of IsHeard t tops at st n c op outcome v h is = record {
  terms = t;
  tops = tops;
  stack = st;
  child = c;
  op = op;
  value = v;
  is = h.now.is;
  hears = hears_value t tops at st n c op outcome v h;
  heard = is;
}

abbrev pub early_of : (kind : ChildKind) (t : Terms) (at : RequestAt) (st : Stack) (n : ℕ) (c : Child) → HearsEarly {N = Node} nodes t (Request at) st n c
    → c.kind ≡ kind → HearsEarlyOf kind at.node n
early_of kind t at st n c h of = record {
  terms = t;
  stack = st;
  child = c;
  is = h.is;
  seated = h.seated;
  there = h.there;
  of_kind = of;
  goes = h.goes;
  untold = h.untold;
}

-- ---- which child it is

-- the laws that tell it
abbrev pub TellsKid : RequestNode → ℕ → Type 0
TellsKid r n = (one : One) (x : HearsValueOf (IsAttemptedBy one) r n) → IsKidTold r n x.op one.return.child.pointer

-- it is out, and told the pointer that its value has
pub kid_out : (r : RequestNode) (n : ℕ) (op : Task) (pointer told : Option Bp) → told ≡ pointer → IsKidTold r n op told → IsKidAt (IsOutWith pointer) r n
kid_out r n op pointer told same k = record {
  place = k.place;
  seat = k.seat;
  state = subst (IsOutWith pointer) (sym k.state) same;
}

pub kid_told : (r : RequestNode) (n : ℕ) (op : Task) (pointer told : Option Bp) → told ≡ pointer → IsKidTold r n op told
    → IsKidAt (λ (state : Option KidState). state ≡ Some (Told pointer)) r n
kid_told r n op pointer told same k = record {
  place = k.place;
  seat = k.seat;
  state = k.state ∙ ap (λ p. Some (Told p)) same;
}

-- ---- what it left

answered_number : (attempt : ℕ) (root : Pending) (below : Forest) (one : One) → IsAnswerTo (Attempt attempt root below) (AttemptedBy one)
    → one.return.child.number ≡ root.request.number
answered_number attempt root below one h =
    let same : AttemptedBy one ≡ AttemptedBy h.0 = h.1 in
    let is : one ≡ h.0 = cc in
    ap (λ (o : One). o.return.child.number) is ∙ h.2

pub left_with : (one : One) (number root : ℕ) (bits : Bits) (error : Option Errno) (pointer : Option Bp) → IsLeftBy one number bits error pointer
    → one.return.child.number ≡ root → IsLeftBy one root bits error pointer
left_with one number root bits error pointer h same =
    let is : number ≡ root = sym (ap (λ (c : LeftChild). c.number) h.same_child) ∙ same in
    record { same_bits = h.same_bits; same_child = h.same_child ∙ ap (λ n. record { number = n; error = error; pointer = pointer }) is }

-- the tree that is left is over the request of the child's number
pub left_root : (r : RequestNode) (n : ℕ) (op : Task) (one : One) (ws : List UnfinishedRequest) (bits : Bits) (pointer told : Option Bp) (k : IsKidTold r n op told)
    → one.return.child.number ≡ k.root.request.number → IsLeftAs ws bits pointer one → (place : ℕ) → IsSeatOf r.family n place
    → root_number ws ≡ slice_get (numbers_of r.kids.kids.kids) place
left_root r n op one ws bits pointer told k number left place seat =
    let same : k.place ≡ place = one_place r.family n k.place place k.seat seat in
    let is : left.number ≡ k.root.request.number = sym (ap (λ (c : LeftChild). c.number) left.by.same_child) ∙ number in
    left.root ∙ ap (λ m. Some m) is ∙ sym k.number ∙ ap (slice_get (numbers_of r.kids.kids.kids)) same

-- ---- the two ends

-- the child finished with this
pub record HearsFinished (r : RequestNode) (n : ℕ) (op : Task) (v : Value) (f : FinishedRequest) : Type 0 where
  pub one : One
  pub told : IsKidTold r n op one.return.child.pointer
  pub value : v ≡ AttemptedBy one
  pub number : one.return.child.number ≡ told.root.request.number
  pub pointer : one.return.child.pointer ≡ f.pointer
  pub by : IsLeftBy one told.root.request.number no_bits f.error f.pointer
  pub left : IsFinishedAs f one

number_of : (r : RequestNode) (n : ℕ) (op : Task) (v : Value) (one : One) (told : Option Bp) (k : IsKidTold r n op told) → v ≡ AttemptedBy one → IsAnswerTo op v
    → one.return.child.number ≡ k.root.request.number
number_of r n op v one told k value kind =
    let at : IsAnswerTo (Attempt r.attempt k.root k.below) v = subst (λ (q : Task). IsAnswerTo q v) k.is kind in
    answered_number r.attempt k.root k.below one (subst (IsAnswerTo (Attempt r.attempt k.root k.below)) value at)

pub hears_finished : (t : Terms) (tops : List Top) (at : RequestAt) (st : Stack) (n : ℕ) (c : Child) (op : Task) (f : FinishedRequest) (v : Value)
    → TellsKid at.node n → Hears {N = Node} {S = Seal} nodes tops t (Request at) st n c op (HasFinished f) v → HearsFinished at.node n op v f
hears_finished t tops at st n c op f v tells h =
    let shows : IsOutcome {S = Seal} t op (HasFinished f) v = h.shows in
    let one : One = shows.1.0 in
    let value : v ≡ AttemptedBy one = shows.1.1 in
    let left : IsFinishedAs f one = shows.1.2 in
    let told : IsKidTold at.node n op one.return.child.pointer = tells one (hears_of (IsAttemptedBy one) t tops at st n c op (HasFinished f) v h (shows.0, value)) in
    let number : one.return.child.number ≡ told.root.request.number = number_of at.node n op v one one.return.child.pointer told value h.in_kind in
    record {
      one = one;
      told = told;
      value = value;
      number = number;
      pointer = ap (λ (x : LeftChild). x.pointer) left.by.same_child;
      by = left_with one f.request told.root.request.number no_bits f.error f.pointer left.by number;
      left = left;
    }

-- it goes again, and this is left of its tree
pub record HearsAgain (r : RequestNode) (n : ℕ) (op : Task) (v : Value) (ws : List UnfinishedRequest) (bits : Bits) (pointer : Option Bp) : Type 0 where
  pub one : One
  pub told : IsKidTold r n op one.return.child.pointer
  pub value : v ≡ AttemptedBy one
  pub number : one.return.child.number ≡ told.root.request.number
  pub same : one.return.child.pointer ≡ pointer
  pub by : IsLeftBy one told.root.request.number bits None pointer
  pub left : IsLeftAs ws bits pointer one

pub hears_again : (t : Terms) (tops : List Top) (at : RequestAt) (st : Stack) (n : ℕ) (c : Child) (op : Task) (ws : List UnfinishedRequest) (bits : Bits) (pointer : Option Bp) (v : Value)
    → TellsKid at.node n → Hears {N = Node} {S = Seal} nodes tops t (Request at) st n c op (Again ws bits pointer) v → HearsAgain at.node n op v ws bits pointer
hears_again t tops at st n c op ws bits pointer v tells h =
    let shows : IsOutcome {S = Seal} t op (Again ws bits pointer) v = h.shows in
    let one : One = shows.1.0 in
    let value : v ≡ AttemptedBy one = shows.1.1 in
    let left : IsLeftAs ws bits pointer one = shows.1.2 in
    let told : IsKidTold at.node n op one.return.child.pointer = tells one (hears_of (IsAttemptedBy one) t tops at st n c op (Again ws bits pointer) v h (shows.0, value)) in
    let number : one.return.child.number ≡ told.root.request.number = number_of at.node n op v one one.return.child.pointer told value h.in_kind in
    record {
      one = one;
      told = told;
      value = value;
      number = number;
      same = ap (λ (x : LeftChild). x.pointer) left.by.same_child;
      by = left_with one left.number told.root.request.number bits None pointer left.by number;
      left = left;
    }
