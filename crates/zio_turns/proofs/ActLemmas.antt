-- What the engine's parts do with the slab and the queue, put together.
use Rattle.std.proofs.Common.{◌≡◌, ℕ, ◌+◌, ◌<◌, ◌≤◌, List, [], ◌∷◌, ◌++◌, set, Bool, true, false, cond, Option, Some, None, IsSome, is_some, Result, Ok, Err, refl, sym, ap, ◌∙◌, subst}
use Rattle.std.specs.Prelude.{IfOk}
use Rattle.std.specs.Borrow.{MutBor}
use Rattle.std.specs.Option.{option_copied_mut}
use Rattle.zio_types.specs.declared.error.Errno.{Errno}
use Rattle.zio_types.specs.declared.request.Bits.{Bits}
use Rattle.zio_types.specs.declared.request.ChildKind.{ChildKind}
use Rattle.zio_types.specs.declared.request.Phase.{Phase}
use Rattle.zio_types.specs.declared.request.Phase.TheVariants.{Done}
use Rattle.zio_counts.specs.Tallies.{Tally, count_end, counted, first_counted, is_last, notified, stalled}
use Rattle.slab.specs.Slab.{Slab, Updates, get, with_value}
use Rattle.slab.proofs.SlabLemmas.{ContainsKey-within, Updates-set, Updates-with_value}
use Rattle.zio_exchange.specs.declared.waiting.UnfinishedRequest.{UnfinishedRequest}
use Rattle.zio_turns.specs.Acts.{AreCounted, AreStalled, HasAdded, HasGrown, HasHeard, HasWaited, StepIn, counting, new_ties, one_more, step_told, with_ties}
use Rattle.zio_staged.specs.Entries.{OneMore, OneMoreIf}
use Rattle.zio_staged.specs.Parts.{Nodes}
use Rattle.zio_staged.specs.Stages.{heard_max}
use Rattle.zio_turns.specs.declared.entry.TiedNode.{TiedNode}
use Rattle.zio_turns.specs.declared.entry.Parent.{Parent as Above}
use Rattle.zio_turns.specs.declared.entry.Parent.TheVariants.{Node, Tree}
use Rattle.zio_turns.specs.declared.entry.Ties.{Ties}
use Rattle.zio_turns.specs.declared.step.Step.{Step}
use Rattle.zio_turns.proofs.Queues.{queued_last}

pub ok_as : {X E : Type 0} (r : Result X E) (x y : X) → r ≡ Ok x → x ≡ y → r ≡ Ok y
ok_as {X} r x y e f = subst (λ (z : X). r ≡ Ok z) f e

-- both facts of a result make a third
pub if_ok_both : {X E : Type 0} (r : Result X E) (P Q R : X → Type 0) → ((x : X) → P x → Q x → R x) → IfOk r P → IfOk r Q → IfOk r R
if_ok_both (Ok x) P Q R f p q = f x p q
if_ok_both (Err e) P Q R f p q = tt

-- a pointer that is told is no tree that goes again
pub told_in : {S : Type 0} (Q : List UnfinishedRequest → Type 0) (parent : Above) (step : Step S) → step ≡ step_told parent → StepIn Q step
told_in {S} Q (Tree tree child) step is = subst (λ (x : Step S). StepIn Q x) (sym is) tt
told_in {S} Q (Node key child) step is = subst (λ (x : Step S). StepIn Q x) (sym is) tt

-- ---- what changes in its place

-- the slab where nothing is under the key
abbrev pub without : {N : Type 0} → Slab (TiedNode N) → ℕ → Slab (TiedNode N)
without slab key = record slab { slots = set slab.slots key None }

pub taken_out : {N : Type 0} (slab : Slab (TiedNode N)) (key : ℕ) (e : TiedNode N) → get slab key ≡ Some e
    → Updates slab (without {N = N} slab key) key None
taken_out {N} slab key e is =
    Updates-set {T = TiedNode N} slab (without {N = N} slab key) key None (ContainsKey-within {T = TiedNode N} slab key (subst IsSome (sym is) refl)) refl

-- a change of what is there is one of the slab where it isn't
pub put_in : {N : Type 0} (slab slab_now : Slab (TiedNode N)) (key : ℕ) (e : TiedNode N) (o : Option (TiedNode N)) → get slab key ≡ Some e
    → Updates slab slab_now key o → Updates (without {N = N} slab key) slab_now key o
put_in {N} slab slab_now key e o is u =
    let out = taken_out {N = N} slab key e is in
    record { changed = u.changed; others = λ k n. u.others k n ∙ sym (out.others k n) }

-- what is lent to be changed is what is there
pub lent_there : {T : Type 0} {lent : MutBor T} {o : Option (MutBor T)} {there : Option T} → o ≡ Some lent → option_copied_mut o ≡ there
    → there ≡ Some lent.now
lent_there is value = sym value ∙ ap option_copied_mut is

-- what is there is changed
pub in_place : {N : Type 0} (slab : Slab (TiedNode N)) (key : ℕ) (e now : TiedNode N) → get slab key ≡ Some e
    → Updates slab (with_value {T = TiedNode N} slab key now) key (Some now)
in_place {N} slab key e now is = Updates-with_value {T = TiedNode N} slab key now (subst IsSome (sym is) refl)

-- one change of it after another
pub changed_twice : {N : Type 0} (a b c : Slab (TiedNode N)) (key : ℕ) (o p : Option (TiedNode N)) → Updates a b key o → Updates b c key p
    → Updates a c key p
changed_twice {N} a b c key o p u v = record { changed = v.changed; others = λ k n. v.others k n ∙ u.others k n }

pub are_stalled : (ties ties_now : Ties) (line line_now : List ℕ) (key : ℕ) (kind : ChildKind) (phase : Phase) (tally : Tally) (stalls : Bool)
    → tally ≡ stalled (first_counted (kind ∷ []) phase ties.counts) ties.counts
    → stalls ≡ is_some (first_counted (kind ∷ []) phase ties.counts) → ties_now ≡ counting ties tally
    → line_now ≡ cond stalls line (line ++ key ∷ []) → AreStalled ties line ties_now line_now key kind phase
are_stalled ties ties_now line line_now key kind phase tally stalls is waits now queued = record {
  ties_are = now ∙ ap (counting ties) is;
  queued = queued ∙ ap (λ (b : Bool). cond b line (line ++ key ∷ [])) waits;
}

pub waited : {N : Type 0} (slab slab_now : Slab (TiedNode N)) (line line_now : List ℕ) (key : ℕ) (node : N) (ties ties_now : Ties)
    (kind : ChildKind) (phase : Phase) → AreStalled ties line ties_now line_now key kind phase
    → Updates slab slab_now key (Some (with_ties {N = N} node ties_now))
    → HasWaited {N = N} slab line slab_now line_now key (with_ties {N = N} node ties) kind phase
waited {N} slab slab_now line line_now key node ties ties_now kind phase h put = record {
  put = subst (λ (x : Ties). Updates slab slab_now key (Some (with_ties {N = N} node x))) h.ties_are put;
  queued = h.queued;
}

pub has_grown : {N : Type 0} (slab mid slab_now : Slab (TiedNode N)) (line line_now : List ℕ) (key number : ℕ) (node child : N)
    (ties ties_now : Ties) (kind : ChildKind) → counted kind Done ties.counts < count_end → ties_now ≡ one_more kind ties
    → number ≡ ties.children → Updates slab mid key (Some (with_ties {N = N} node ties_now))
    → HasAdded {N = N} mid line slab_now line_now key number child kind
    → HasGrown {N = N} slab line slab_now line_now key (with_ties {N = N} node ties) child kind
has_grown {N} slab mid slab_now line line_now key number node child ties ties_now kind room now is put h = record {
  mid = mid;
  at = h.at;
  room = room;
  put = subst (λ (x : Ties). Updates slab mid key (Some (with_ties {N = N} node x))) now put;
  free = h.free;
  added = subst (λ (n : ℕ). Updates mid slab_now h.at (Some (with_ties {N = N} child (new_ties kind (Node key n))))) is h.added;
  queued = h.queued;
}

-- a key that comes last where it is woken, behind another that stands in front or not
pub woken : (b : Bool) (key : ℕ) (line line_now : List ℕ) → line_now ≡ cond b (line ++ key ∷ []) line → OneMoreIf b key line line_now
woken true key line line_now e = subst (λ (q : List ℕ). OneMore key line q) (sym e) (queued_last key line)
woken false key line line_now e = e

pub woken_behind : (b : Bool) (first key : ℕ) (line line_now : List ℕ) → line_now ≡ cond b (line ++ key ∷ []) line
    → OneMoreIf b key (first ∷ line) (first ∷ line_now)
woken_behind true first key line line_now e =
    subst (λ (q : List ℕ). OneMore key (first ∷ line) (first ∷ q)) (sym e) (queued_last key (first ∷ line))
woken_behind false first key line line_now e = ap (λ (q : List ℕ). first ∷ q) e

pub are_counted : (ties ties_now : Ties) (line line_now : List ℕ) (key : ℕ) (kind : ChildKind) (phase : Phase) (error : Option Errno)
    (bits : Bits) (tally : Tally) (b : Bool) → ties_now ≡ counting ties tally → tally ≡ notified kind phase error bits ties.counts
    → b ≡ is_last kind phase ties.counts → line_now ≡ cond b (line ++ key ∷ []) line
    → AreCounted ties line ties_now line_now key kind phase error bits
are_counted ties ties_now line line_now key kind phase error bits tally b now counts is queued = record {
  ties_are = now ∙ ap (counting ties) counts;
  queued = queued ∙ ap (λ (x : Bool). cond x (line ++ key ∷ []) line) is;
}

-- it heard in its place, and its ties have the mark
pub has_heard : {N : Type 0} (nodes : Nodes N) (slab slab_now : Slab (TiedNode N)) (line line_now : List ℕ) (kind : ChildKind)
    (phase : Phase) (error : Option Errno) (bits : Bits) (key : ℕ) (was : TiedNode N) (up : N) (ties_now : Ties)
    → get slab key ≡ Some was → Updates slab slab_now key (Some (with_ties {N = N} up ties_now))
    → AreCounted was.ties line ties_now line_now key kind phase error bits
    → nodes.told up ≡ nodes.told was.node → nodes.left up ≤ nodes.left was.node + heard_max → nodes.gave up ≡ nodes.gave was.node
    → (nodes.due was.node → nodes.due up)
    → HasHeard {N = N} nodes slab line slab_now line_now kind phase error bits key was up
has_heard {N} nodes slab slab_now line line_now kind phase error bits key was up ties_now there put has told left gave due =
    record {
      there = there;
      put = subst (λ (x : Ties). Updates slab slab_now key (Some (with_ties {N = N} up x))) has.ties_are put;
      queued = has.queued;
      told = told;
      left = left;
      gave = gave;
      due = due;
    }
