-- What a node that ends leaves in the books: the request that finished, and the places that it freed and made.
use Rattle.std.proofs.Common.{◌≡◌, ℕ, ◌+◌, ◌≤◌, List, [], ◌∷◌, ◌++◌, map, Bool, true, false, Option, Some, None, ◌⊎◌, inl, inr, refl, sym, ap, ◌∙◌, subst, arith}
use Rattle.std.specs.Prelude.{Contains, IsPermutation, is_none, option_to_list}
use Rattle.std.specs.List.{AllByRecursion, flat_map}
use Rattle.std.proofs.lemmas.List.{append-nil}
use Rattle.zio_types.specs.declared.place.Place.{Place}
use Rattle.zio_types.specs.declared.error.Errno.{Errno}
use Rattle.zio_types.specs.declared.request.Bits.{Bits}
use Rattle.zio_types.specs.Choices.{Choice}
use Rattle.zio_types.specs.Errors.{worst_error, worst_of}
use Rattle.zio_places.specs.Tables.{total}
use Rattle.zio_places.proofs.PlaceLemmas.{total-append}
use Rattle.zio_script.specs.declared.script.Work.{Work}
use Rattle.zio_script.specs.declared.script.Work.TheVariants.{Null, Read, Write, Free, Claim}
use Rattle.zio_gang.specs.declared.tree.Tree.{Tree}
use Rattle.zio_gang.specs.Attempts.{Child as Left, Ended, Own, Pending, Terms, all_bits, bits_of, children_of, closed_if, finished_of, has_bits, insert_children, judged_own, tree_unless}
use Rattle.zio_gang.specs.Trees.{tree_places}
use Rattle.zio_script.specs.Requests.{kind_of}
use Rattle.zio_trace.specs.Families.{Forest}
use Rattle.zio_trace.specs.Plans.{Kids, TaskPlan, bare as bare_own, one_of, plan, plan_free, plan_kids, plan_own, plan_root}
use Rattle.zio_trace.specs.Programs.{Asks, Ends as EndsWith, ◌>>=◌}
use Rattle.zio_trace.specs.Tasks.{Attempt, AttemptedBy, Leaf, One, OwnGot, ReadCopies, ReadHeads, Task, Value, WritePart}
use Rattle.zio_frames.specs.Answering.{IsAnswerTo}
use Rattle.zio_frames.specs.Frames.{Stack}
use Rattle.zio_frames.specs.Moves.{IsEnded}
use Rattle.zio_frames.specs.Slots.{left_behind_slots}
use Rattle.zio_frames.specs.OfRound.{IsTaskOf}
use Rattle.zio_frames.proofs.KnownLemmas.{AlwaysEnds, ends_then}
use Rattle.zio_exchange.specs.Outcomes.{AreEndedAs, IsAttempt, IsEndedAs, IsFinishedAs, IsOutcome, IsPart, IsReading, IsWalk, freed_by, freed_if, freed_of, freed_with, held_by, made_by, places_by, stored_in}
use Rattle.zio_exchange.specs.declared.outcome.FinishedRequest.{FinishedRequest}
use Rattle.zio_exchange.specs.declared.outcome.Outcome.{Outcome}
use Rattle.zio_exchange.specs.declared.outcome.Outcome.TheVariants.{Again, Finished as HasFinished, Found, Stored, Walked}
use Rattle.zio_turns.specs.Ledgers.{AreBehind, AreToldAs, Ending, IsEnding, all_ended, freed_in, made_in}
use Rattle.zio_staged.specs.Parts.{Nodes, ended_by, ended_in}
use Rattle.zio_turns.specs.Rounds.{finished_in}
use Rattle.zio_turns.proofs.Links.{some_is}
use Rattle.zio_turns.proofs.PlaceTotals.{totals_moved}
use Rattle.zio_turns.proofs.Withins.{IsQuiet, ends_left}

-- ---- the places in its value

attempt_places : (op : Task) (v : Value) → IsAttempt op → places_by op v ≡ []
attempt_places (Attempt attempt p kids) v h = refl
attempt_places _ v h = absurd h

reading_places : (op : Task) (v : Value) → IsReading op → places_by op v ≡ []
reading_places (Leaf act) v h = refl
reading_places (ReadCopies repair test len places) v h = refl
reading_places _ v h = absurd h

walk_places : (op : Task) (v : Value) → IsWalk op → places_by op v ≡ []
walk_places (ReadHeads look levels path bp) v h = refl
walk_places _ v h = absurd h

part_places : (op : Task) (v : Value) → IsPart op → places_by op v ≡ stored_in v
part_places (WritePart attempt p sum copies levels path bytes) v h = refl
part_places _ v h = absurd h

pub places_stored : {S : Type 0} (t : Terms) (op : Task) (outcome : Outcome S) (v : Value) → IsOutcome t op outcome v → places_by op v ≡ stored_in v
places_stored t op (HasFinished f) v h = attempt_places op v h.0 ∙ sym (ap stored_in h.1.1)
places_stored t op (Again whole bits pointer) v h = attempt_places op v h.0 ∙ sym (ap stored_in h.1.1)
places_stored t op (Found answer) v h = reading_places op v h.0 ∙ sym (ap stored_in h.1)
places_stored t op (Walked walked) v h = walk_places op v h.0 ∙ sym (ap stored_in h.1)
places_stored t op (Stored part) v h = part_places op v h.0

quiet_attempt : (op : Task) → IsQuiet op → IsAttempt op → ⊥
quiet_attempt (Attempt attempt p kids) q h = q
quiet_attempt _ q h = h

quiet_part : (op : Task) → IsQuiet op → IsPart op → ⊥
quiet_part (WritePart attempt p sum copies levels path bytes) q h = q
quiet_part _ q h = h

-- an operation that a part within asked has none
pub quiet_value : {S : Type 0} (t : Terms) (op : Task) (outcome : Outcome S) (v : Value) → IsQuiet op → IsOutcome t op outcome v
    → (ended_by v ≡ []) × (places_by op v ≡ [])
quiet_value t op (HasFinished f) v q h = absurd (quiet_attempt op q h.0)
quiet_value t op (Again whole bits pointer) v q h = absurd (quiet_attempt op q h.0)
quiet_value t op (Found answer) v q h = (ap ended_by h.1, reading_places op v h.0)
quiet_value t op (Walked walked) v q h = (ap ended_by h.1, walk_places op v h.0)
quiet_value t op (Stored part) v q h = absurd (quiet_part op q h.0)

-- ---- a free makes no block

-- where nothing goes again, the last request that finished made none
abbrev MakesNone : Value → Type 0
MakesNone v = (one : One) → v ≡ AttemptedBy one → one.again ≡ []
    → (front : List Ended) × (last : Ended) × (one.ended ≡ front ++ last ∷ []) × (last.tree ≡ None)

none_unless : (e : Option Errno) → tree_unless e None ≡ None
none_unless None = refl
none_unless (Some e) = refl

same_one : (one other : One) → AttemptedBy one ≡ AttemptedBy other → one ≡ other
same_one one other e = cc

none_behind : {X : Type 0} (xs : List X) (x : X) → xs ++ x ∷ [] ≡ [] → ⊥
none_behind [] x e = cc
none_behind (y ∷ xs) x e = cc

closed_none : (b : Bool) (p : Pending) (own : Own) (bits : Bits) (kept : List Left) (k : Kids) → own.tree ≡ None
    → MakesNone (AttemptedBy (one_of k (closed_if b p own bits kept)))
closed_none true p own bits kept k none one e again =
    let is : one_of k (closed_if true p own bits kept) ≡ one = same_one (one_of k (closed_if true p own bits kept)) one e in
    absurd (none_behind k.again (record p { kept = kept }) (ap (λ (o : One). o.again) is ∙ again))
closed_none false p own bits kept k none one e again =
    let error : Option Errno = worst_error own.error (worst_of (map (λ (c : Left). c.error) kept)) in
    let is : one_of k (closed_if false p own bits kept) ≡ one = same_one (one_of k (closed_if false p own bits kept)) one e in (
      k.ended,
      record { request = p.request; error = error; bytes = own.bytes; tree = tree_unless error own.tree },
      sym (ap (λ (o : One). o.ended) is),
      ap (tree_unless error) none ∙ none_unless error,
    )

ends_from : {A B : Type 0} (Q : A → Type 0) (P : B → Type 0) (p : TaskPlan A) (k : A → TaskPlan B) → AlwaysEnds Q p
    → ((a : A) → Q a → AlwaysEnds P (k a)) → AlwaysEnds P (p >>= k)
ends_from Q P (EndsWith a) k h then = then a h
ends_from Q P (Asks op more) k h then = λ v. ends_from Q P (more v) k (h v) then

abbrev NoTree : OwnGot → Type 0
NoTree o = o.tree ≡ None

free_none : (block : Option Tree) → AlwaysEnds NoTree (plan_free block)
free_none None = refl
free_none (Some tree) = λ v. refl

free_makes_none : (t : Terms) (attempt : ℕ) (p : Pending) (kids : Forest) (name : _) → p.request.work ≡ Free name
    → AlwaysEnds MakesNone (plan t (Attempt attempt p kids))
free_makes_none t attempt p kids name work =
    ends_then MakesNone (plan_kids attempt kids) (λ k. plan_root t attempt p k) (λ k.
    let pointers = map (λ (c : Left). c.pointer) (insert_children (children_of k.returns) p.kept) in
    ends_from NoTree MakesNone (plan_own t attempt p p.request.work pointers)
    (λ own. EndsWith (AttemptedBy (one_of k (judged_own t p k.returns (bare_own own)))))
    (subst (λ (w : Work). AlwaysEnds NoTree (plan_own t attempt p w pointers)) (sym work) (free_none p.block))
    (λ own none.
    let bits : Bits = all_bits (kind_of p.request.work) own.error p.request.canfail t.failmode (bits_of k.returns) in
    closed_none (has_bits bits) p (bare_own own) bits (insert_children (children_of (finished_of k.returns)) p.kept) k none))

abbrev last_of : List Ended → Option Ended
last_of [] = None
last_of (x ∷ []) = Some x
last_of (x ∷ y ∷ xs) = last_of (y ∷ xs)

last_is : (xs : List Ended) (x : Ended) → last_of (xs ++ x ∷ []) ≡ Some x
last_is [] x = refl
last_is (y ∷ []) x = refl
last_is (y ∷ z ∷ xs) x = last_is (z ∷ xs) x

same_last : (xs ys : List Ended) (x y : Ended) → xs ++ x ∷ [] ≡ ys ++ y ∷ [] → x ≡ y
same_last xs ys x y e = some_is x y (sym (last_is xs x) ∙ (ap last_of e ∙ last_is ys y))

made_none : (t : Terms) (st : Stack) (attempt : ℕ) (p : Pending) (kids : Forest) (one : One) (below : List Ended) (e : Ended) (name : _)
    → st.outer.op ≡ Attempt attempt p kids → IsEnded t st (AttemptedBy one) → p.request.work ≡ Free name → one.again ≡ []
    → one.ended ≡ below ++ e ∷ [] → e.tree ≡ None
made_none t st attempt p kids one below e name does ends work again are =
    let left : left_behind_slots st.outer.slots (plan t (Attempt attempt p kids)) ≡ EndsWith (AttemptedBy one) =
    ap (λ (op : Task). left_behind_slots st.outer.slots (plan t op)) (sym does) ∙ ends.value in
    let made = ends_left MakesNone st.outer.slots (plan t (Attempt attempt p kids)) (AttemptedBy one)
    (free_makes_none t attempt p kids name work) left one refl again in
    let same : made.1 ≡ e = same_last made.0 below made.1 e (sym made.2 ∙ are) in
    ap (λ (x : Ended). x.tree) (sym same) ∙ made.3

-- ---- what comes into the books

pub record IsMore {S : Type 0} (t : Terms) (f : Forest) (st : Stack) (outcome : Outcome S) (ended : List Ended) : Type 0 where
  pub more : List Ending
  pub told : AreToldAs (finished_in outcome) more
  pub are : all_ended more ≡ ended
  pub each : AllByRecursion (IsEnding t f) more
  pub by : AllByRecursion (λ (x : Ending). (h : IsEnding t f x) × (h.stack ≡ st)) more
  pub behind : (front : List Ended) → AllByRecursion (Contains front) (ended_in st) → AreBehind front more
  pub freed : (w : Place → ℕ) → total w (freed_in more) ≡ total w (freed_by st.outer.op outcome)
  pub made : (w : Place → ℕ) → total w (made_in more) ≡ total w (made_by outcome)
  pub less : (w : Place → ℕ) → (total w (freed_by st.outer.op outcome) ≡ 0) ⊎ (total w (made_by outcome) ≡ 0)

none_more : {S : Type 0} (t : Terms) (f : Forest) (st : Stack) (outcome : Outcome S) (ended : List Ended) → finished_in outcome ≡ [] → ended ≡ []
    → freed_by st.outer.op outcome ≡ [] → made_by outcome ≡ [] → IsMore t f st outcome ended
none_more t f st outcome ended none no_ended no_freed no_made = record {
  more = [];
  told = subst (λ (fs : List FinishedRequest). AreToldAs fs []) (sym none) tt;
  are = sym no_ended;
  each = tt;
  by = tt;
  behind = λ front h. tt;
  freed = λ w. sym (ap (total w) no_freed);
  made = λ w. sym (ap (total w) no_made);
  less = λ w. inl (ap (total w) no_freed);
}

-- either it freed nothing or it made nothing
freed_or_made : (w : Place → ℕ) (work : Work) (block made : Option Tree) (b : Bool)
    → ((name : _) → work ≡ Free name → made ≡ None)
    → (total w (freed_if b (freed_of work block)) ≡ 0) ⊎ (total w (flat_map tree_places (option_to_list made)) ≡ 0)
freed_or_made w work block made false none = inl refl
freed_or_made w Null block made true none = inl refl
freed_or_made w (Read name prio) block made true none = inl refl
freed_or_made w (Write name sum copies prio body) block made true none = inl refl
freed_or_made w (Claim name pointer) block made true none = inl refl
freed_or_made w (Free name) block made true none =
    inr (ap (λ (o : Option Tree). total w (flat_map tree_places (option_to_list o))) (none name refl))

module _ {S : Type 0} (t : Terms) (f : Forest) (entries : List Choice) (st : Stack) (v : Value) (ends : IsEnded t st v) (ended : List Ended)
    (requests : ended_by v ≡ ended_in st ++ ended) (x : FinishedRequest) where
  more_by : (op : Task) → st.outer.op ≡ op → IsAttempt op → (one : One) → v ≡ AttemptedBy one → IsFinishedAs x one
      → IsTaskOf t f entries op → IsAnswerTo op v → (e : Ended) → ended ≡ e ∷ [] → IsEndedAs x e
      → IsMore {S = S} t f st (HasFinished x) ended
  more_by (Attempt attempt p kids) does attempts one value fits task kind e only is =
      let new : Ending = record { request = p; ended = e; below = ended_in st } in
      let own : one.ended ≡ ended_in st ++ e ∷ [] =
      ap ended_by (sym value) ∙ (requests ∙ ap (λ (es : List Ended). ended_in st ++ es) only) in
      let now : IsEnded t st (AttemptedBy one) = subst (IsEnded t st) value ends in
      let same : kind.0 ≡ one = same_one kind.0 one (sym kind.1 ∙ value) in
      let number : e.request.number ≡ p.request.number =
      is.number ∙ (sym (ap (λ (c : Left). c.number) fits.by.same_child)
      ∙ (ap (λ (o : One). o.return.child.number) (sym same) ∙ kind.2)) in
      let freed : freed_by {S = S} st.outer.op (HasFinished x) ≡ freed_if (is_none x.error) (freed_of p.request.work p.block) =
      ap (λ (op : Task). freed_with op x) does in
      let error : freed_if (is_none e.error) (freed_of p.request.work p.block)
      ≡ freed_if (is_none x.error) (freed_of p.request.work p.block) =
      ap (λ (o : Option Errno). freed_if (is_none o) (freed_of p.request.work p.block)) is.error in
      let made : flat_map tree_places (option_to_list e.tree) ≡ made_by {S = S} (HasFinished x) =
      ap (λ (o : Option Tree). flat_map tree_places (option_to_list o)) is.tree in
      let it : IsEnding t f new = record {
        attempt = attempt;
        kids = kids;
        one = one;
        stack = st;
        from = task;
        does = does;
        ends = now;
        none_again = fits.again;
        none_left = fits.left;
        ended_are = own;
        number = number;
      } in
      record {
        more = new ∷ [];
        told = (is, tt);
        are = sym only;
        each = (it, tt);
        by = ((it, refl), tt);
        behind = λ front h. (h, tt);
        freed = λ w. ap (total w) (append-nil (freed_if (is_none e.error) (freed_of p.request.work p.block)) ∙ (error ∙ sym freed));
        made = λ w. ap (total w) (append-nil (flat_map tree_places (option_to_list e.tree)) ∙ made);
        less = λ w.
            subst (λ (ps : List Place). (total w ps ≡ 0) ⊎ (total w (made_by {S = S} (HasFinished x)) ≡ 0)) (sym freed)
            (freed_or_made w p.request.work p.block x.block (is_none x.error) (λ name work.
            sym is.tree ∙ made_none t st attempt p kids one (ended_in st) e name does now work fits.again own));
      }
  more_by _ does attempts one value fits task kind e only is = absurd attempts

pub more_ended : {S : Type 0} (t : Terms) (f : Forest) (entries : List Choice) (st : Stack) (outcome : Outcome S) (v : Value) (ended : List Ended)
    → IsEnded t st v → IsOutcome t st.outer.op outcome v → ended_by v ≡ ended_in st ++ ended → AreEndedAs outcome ended
    → IsTaskOf t f entries st.outer.op → IsAnswerTo st.outer.op v → IsMore t f st outcome ended
more_ended t f entries st (HasFinished x) v ended ends shows requests are task kind =
    more_by t f entries st v ends ended requests x st.outer.op refl shows.0 shows.1.0 shows.1.1 shows.1.2 task kind are.0 are.1 are.2
more_ended t f entries st (Again whole bits pointer) v ended ends shows requests are task kind =
    none_more t f st (Again whole bits pointer) ended refl are refl refl
more_ended t f entries st (Found answer) v ended ends shows requests are task kind =
    none_more t f st (Found answer) ended refl are refl refl
more_ended t f entries st (Walked walked) v ended ends shows requests are task kind =
    none_more t f st (Walked walked) ended refl are refl refl
more_ended t f entries st (Stored part) v ended ends shows requests are task kind =
    none_more t f st (Stored part) ended refl are refl refl

-- ---- its places

-- a value that has places is none of a request
stored_or_freed : {S : Type 0} (t : Terms) (op : Task) (outcome : Outcome S) (v : Value) → IsOutcome t op outcome v
    → (freed_by op outcome ≡ []) ⊎ (stored_in v ≡ [])
stored_or_freed t op (HasFinished f) v h = inr (ap stored_in h.1.1)
stored_or_freed t op (Again whole bits pointer) v h = inl refl
stored_or_freed t op (Found answer) v h = inl refl
stored_or_freed t op (Walked walked) v h = inl refl
stored_or_freed t op (Stored part) v h = inl refl

-- by weights: what it held and freed it gave back, made or stored, and it held what it made and stored
pub record PlacesEnd {N S : Type 0} (nodes : Nodes N) (node : N) (st : Stack) (outcome : Outcome S) (v : Value) (gone : List Place)
    (w : Place → ℕ) : Type 0 where
  pub all : total w (held_by st) + total w (freed_by st.outer.op outcome)
      ≡ total w (nodes.gave node) + total w gone + total w (made_by outcome) + total w (places_by st.outer.op v)
  pub held : total w (made_by outcome) + total w (places_by st.outer.op v) ≤ total w (held_by st)

pub places_end : {N S : Type 0} (nodes : Nodes N) (t : Terms) (f : Forest) (node : N) (st : Stack) (outcome : Outcome S) (v : Value)
    (gone : List Place) (ended : List Ended)
    → IsPermutation (held_by st ++ freed_by st.outer.op outcome) (nodes.gave node ++ gone ++ made_by outcome ++ stored_in v)
    → IsOutcome t st.outer.op outcome v → IsMore t f st outcome ended → (w : Place → ℕ)
    → PlacesEnd {N = N} nodes node st outcome v gone w
places_end {N} nodes t f node st outcome v gone ended places shows more w =
    let stored : total w (places_by st.outer.op v) ≡ total w (stored_in v) = ap (total w) (places_stored t st.outer.op outcome v shows) in
    let moved = totals_moved (held_by st ++ freed_by st.outer.op outcome)
    (nodes.gave node ++ gone ++ made_by outcome ++ stored_in v) places w in
    let left = total-append w (held_by st) (freed_by st.outer.op outcome) in
    let one = total-append w (nodes.gave node ++ gone ++ made_by outcome) (stored_in v) in
    let two = total-append w (nodes.gave node ++ gone) (made_by outcome) in
    let three = total-append w (nodes.gave node) gone in
    let all : total w (held_by st) + total w (freed_by st.outer.op outcome)
    ≡ total w (nodes.gave node) + total w gone + total w (made_by outcome) + total w (places_by st.outer.op v) = omega arith in
    record {
      all = all;
      held = by (more.less w) (stored_or_freed t st.outer.op outcome v shows) stored all;
    }
  where
    by : (total w (freed_by st.outer.op outcome) ≡ 0) ⊎ (total w (made_by outcome) ≡ 0)
        → (freed_by st.outer.op outcome ≡ []) ⊎ (stored_in v ≡ [])
        → total w (places_by st.outer.op v) ≡ total w (stored_in v)
        → total w (held_by st) + total w (freed_by st.outer.op outcome)
        ≡ total w (nodes.gave node) + total w gone + total w (made_by outcome) + total w (places_by st.outer.op v)
        → total w (made_by outcome) + total w (places_by st.outer.op v) ≤ total w (held_by st)
    by (inl none) other stored all = omega arith
    by (inr none) (inl no_freed) stored all =
        let zero_freed : total w (freed_by st.outer.op outcome) ≡ 0 = ap (total w) no_freed in omega arith
    by (inr none) (inr no_stored) stored all = let zero_stored : total w (stored_in v) ≡ 0 = ap (total w) no_stored in omega arith
