-- What is told of a script's run: its rounds are numbered one after another, and each request's name is one word.
use Rattle.std.proofs.Common.{◌≡◌, ◌+◌, ◌&&◌, ◌==◌, ◌++◌, ℕ, zero, suc, List, [], ◌∷◌, map, refl, sym, subst, ◌∙◌, Bool, true, false, length, fold, ◌<◌, ◌≤◌, arith, leb-true, leb-false, Option, Some, None}
use Rattle.std.specs.Prelude.{nat_le}
use Rattle.std.specs.List.{AllByRecursion, flat_map, list_all}
use Rattle.std.proofs.lemmas.Bool.{and_parts, not-false, true≢false}
use Rattle.std.proofs.lemmas.Bool.Decides.{nat_tests}
use Rattle.zio_types.specs.declared.error.Errno.{Errno}
use Rattle.zio_types.specs.declared.request.Bits.{Bits}
use Rattle.zio_types.specs.Choices.{Choice}
use Rattle.zio_cksum.specs.Images.{Images}
use Rattle.zio_cksum.proofs.AllLemmas.{all_append, all_map}
use Rattle.zio_script.specs.declared.script.Item.{Item}
use Rattle.zio_script.specs.declared.script.Item.TheVariants.{Request as RequestLine, Go, Clear}
use Rattle.zio_script.specs.declared.script.Request.{Request}
use Rattle.zio_script.specs.declared.script.Script.{Script}
use Rattle.zio_script.specs.declared.name.TheConstants.{NAME_LEN_MAX}
use Rattle.zio_script.specs.Accepted.{IsInRange, IsOrderlyBatch, batches_from}
use Rattle.zio_script.specs.Grammar.{IsScriptOf}
use Rattle.zio_script.specs.Requests.{name_of, requests_of}
use Rattle.zio_script.specs.Whys.{batch_after, is_misnamed, tells_reads_apart}
use Rattle.zio_script.specs.Words.{is_name, is_name_char}
use Rattle.zio_script.proofs.AcceptedLemmas.{reading_orderly}
use Rattle.zio_gang.specs.Attempts.{Attempt, Attempted, Child, Ended, Own, Pending, Return, Settled, Terms, attempt_each, attempt_one, closed_if, settle, settle_from, settled_if}
use Rattle.zio_gang.specs.ByNumber.{insert_by, insert_if}
use Rattle.zio_gang.specs.Rounds.{Admitted, Bound, Ran, add_left, admission, admit_with, admitted, answered_with, is_bound, pending, pending_trees, put_before, put_if, settle_each, trees_of, with_request, with_requests}
use Rattle.zio_gang.specs.Runs.{Batch, Course, Event, Plan, Round, State, clear_if, go_if, has_trees, held_after, held_if, line, line_if, plan_of, round_of, run_batch, run_held, run_lines, run_script, run_suspended, start_state, terms_of, then_course}
use Rattle.zio_gang.specs.Runs.Event.{RanRound, HeldBatch}
use Rattle.zio_report.specs.declared.report.ReportLine.{ReportLine}
use Rattle.zio_report.specs.Reports.{by_number, line_of_ended, line_of_pending}
use Rattle.zio_spelled.proofs.PartLemmas.{Dark}
use Rattle.zio_audit.proofs.TextWords.{HasWordName}
use Rattle.zio_audit.proofs.TextLines.{AreNamed, AreToldFrom}

-- the request's name is one word
abbrev pub IsNamed : Request → Type 0
IsNamed r = HasWordName (name_of r.work)

-- so it is with those that finished
abbrev AreEnded : List Ended → Type 0
AreEnded ended = AllByRecursion (λ (e : Ended). IsNamed e.request) ended

-- with those of a tree that haven't finished
abbrev ArePending : List Pending → Type 0
ArePending tree = AllByRecursion (λ (p : Pending). IsNamed p.request) tree

-- and with those of all trees
abbrev AreTrees : List (List Pending) → Type 0
AreTrees trees = AllByRecursion ArePending trees

-- ---- an attempt

-- a request keeps its name, whether it finishes or goes again
closed_named : (again : Bool) (p : Pending) (own : Own) (bits : Bits) (kept : List Child) → IsNamed p.request
    → AreEnded (closed_if again p own bits kept).ended × ArePending (closed_if again p own bits kept).again
closed_named true p own bits kept h = (tt, (h, tt))
closed_named false p own bits kept h = ((h, tt), tt)

-- so do all of an attempt
each_named : (j : List Choice) (t : Terms) (attempt : ℕ) (tree : List Pending) (returns : List Return) (images : Images) → ArePending tree
    → AreEnded (attempt_each j t attempt tree returns images).ended × ArePending (attempt_each j t attempt tree returns images).again
unfolding attempt_each
each_named j t attempt [] returns images h = (tt, tt)
each_named j t attempt (p ∷ tree) returns images h =
    let one : Attempted = attempt_one j t attempt p returns images in
    let rest : Attempt = attempt_each j t attempt tree (one.return ∷ returns) one.images in
    let here : AreEnded one.ended × ArePending one.again = closed_named _ p _ _ _ h.0 in
    let there : AreEnded rest.ended × ArePending rest.again = each_named j t attempt tree (one.return ∷ returns) one.images h.1 in
    (all_append (λ (e : Ended). IsNamed e.request) one.ended rest.ended here.0 there.0, all_append (λ (q : Pending). IsNamed q.request) one.again rest.again here.1 there.1)

-- what finished in a tree and what is left of it
abbrev AreSettled : Settled → Type 0
AreSettled s = AreEnded s.ended × ArePending s.left

-- so do those of attempts one after another
settled_named : (now : Bool) (a : Attempt) (again : List Pending → Images → Settled) → AreEnded a.ended → ArePending a.again → AreSettled (again a.again a.images) → AreSettled (settled_if now a again)
settled_named true a again ended left h = (all_append (λ (e : Ended). IsNamed e.request) a.ended (again a.again a.images).ended ended h.0, h.1)
settled_named false a again ended left h = (ended, left)

-- so do those of all attempts of a round
settle_named : (more : ℕ) (j : List Choice) (t : Terms) (attempt : ℕ) (tree : List Pending) (images : Images) → ArePending tree → AreSettled (settle_from more j t attempt tree images)
unfolding settle_from
settle_named zero j t attempt tree images h = each_named j t attempt tree [] images h
settle_named (suc more) j t attempt tree images h =
    let a : Attempt = attempt_each j t attempt tree [] images in
    let named : AreEnded a.ended × ArePending a.again = each_named j t attempt tree [] images h in
    settled_named _ a (settle_from more j t (attempt + 1)) named.0 named.1 (settle_named more j t (attempt + 1) a.again a.images named.1)

-- ---- trees

-- what finished in trees and what is left of them
abbrev AreRan : Ran → Type 0
AreRan ran = AreEnded ran.ended × AreTrees ran.left

-- what is left of a tree, in front of the others
left_named : (left : List Pending) (trees : List (List Pending)) → ArePending left → AreTrees trees → AreTrees (add_left left trees)
left_named [] trees h k = k
left_named (p ∷ ps) trees h k = (h, k)

-- all trees of a round
ran_named : (j : List Choice) (t : Terms) (trees : List (List Pending)) (images : Images) → AreTrees trees → AreRan (settle_each j t trees images)
unfolding settle_each
ran_named j t [] images h = (tt, tt)
ran_named j t (tree ∷ trees) images h =
    let s : Settled = settle j t tree images in
    let rest : Ran = settle_each j t trees s.images in
    let here : AreSettled s = settle_named 3 j t 0 tree images h.0 in
    let there : AreRan rest = ran_named j t trees s.images h.1 in
    (all_append (λ (e : Ended). IsNamed e.request) s.ended rest.ended here.0 there.0, left_named s.left rest.left here.1 there.1)

-- a request that is put before another
put_named : (t : Bool) (r q : Request) (qs placed : List Request) → IsNamed r → IsNamed q → AllByRecursion IsNamed qs → AllByRecursion IsNamed placed → AllByRecursion IsNamed (put_if t r q qs placed)
put_named true r q qs placed a b c d = (a, (b, c))
put_named false r q qs placed a b c d = (b, d)

-- and into a tree
before_named : (parent : ℕ) (r : Request) (tree : List Request) → IsNamed r → AllByRecursion IsNamed tree → AllByRecursion IsNamed (put_before parent r tree)
before_named parent r [] h k = tt
before_named parent r (q ∷ qs) h k = put_named (q.number == parent) r q qs (put_before parent r qs) h k.0 k.1 (before_named parent r qs h k.1)

-- and into each tree
each_before : (parent : ℕ) (r : Request) (trees : List (List Request)) → IsNamed r → AllByRecursion (AllByRecursion IsNamed) trees
    → AllByRecursion (AllByRecursion IsNamed) (map (put_before parent r) trees)
each_before parent r [] h k = tt
each_before parent r (tree ∷ trees) h k = (before_named parent r tree h k.0, each_before parent r trees h k.1)

-- a request that is put into the trees of a batch
with_named : (under : Option ℕ) (r : Request) (trees : List (List Request)) → IsNamed r → AllByRecursion (AllByRecursion IsNamed) trees
    → AllByRecursion (AllByRecursion IsNamed) (with_request under r trees)
with_named None r trees h k = all_append (AllByRecursion IsNamed) trees ((r ∷ []) ∷ []) k ((h, tt), tt)
with_named (Some parent) r trees h k = each_before parent r trees h k

-- all requests of a batch
batch_named : (batch : List Request) (trees : List (List Request)) → AllByRecursion IsNamed batch → AllByRecursion (AllByRecursion IsNamed) trees
    → AllByRecursion (AllByRecursion IsNamed) (with_requests batch trees)
batch_named [] trees h k = k
batch_named (r ∷ batch) trees h k = batch_named batch (with_request r.under r trees) h.1 (with_named r.under r trees h.0 k)

-- what admission answers, and what it lets run
abbrev AreAdmitted : Admitted → Type 0
AreAdmitted a = AreEnded a.answered × AllByRecursion (AllByRecursion IsNamed) a.trees

-- a tree that is answered or runs
admit_named : (answer : Option Errno) (tree : List Request) (others : Admitted) → AllByRecursion IsNamed tree → AreAdmitted others → AreAdmitted (admit_with answer tree others)
admit_named (Some e) tree others h k =
    (all_append (λ (x : Ended). IsNamed x.request) (map (answered_with e) tree) others.answered (all_map (λ (x : Ended). IsNamed x.request) (answered_with e) tree h) k.0, k.1)
admit_named None tree others h k = (k.0, (h, k.1))

-- all trees
admitted_named : (suspended : List (List Pending)) (bound : List ℕ → Bool) (trees : List (List Request)) → AllByRecursion (AllByRecursion IsNamed) trees → AreAdmitted (admitted suspended bound trees)
admitted_named suspended bound [] h = (tt, tt)
admitted_named suspended bound (tree ∷ trees) h =
    admit_named (admission suspended bound tree) tree (admitted suspended bound trees) h.0 (admitted_named suspended bound trees h.1)

-- trees that enter their first round
pending_named : (bound : Bound) (birth : ℕ) (trees : List (List Request)) → AllByRecursion (AllByRecursion IsNamed) trees → AreTrees (pending_trees bound birth trees)
pending_named bound birth [] h = tt
pending_named bound birth (tree ∷ trees) h = (all_map (λ (p : Pending). IsNamed p.request) (pending bound birth) tree h.0, pending_named bound birth trees h.1)

-- ---- the lines of a round

-- a line that may stand before another
insert_named : (t : Bool) (x y : ReportLine) (ys inserted : List ReportLine) → HasWordName x.name → HasWordName y.name → AllByRecursion (λ (l : ReportLine). HasWordName l.name) ys
    → AllByRecursion (λ (l : ReportLine). HasWordName l.name) inserted → AllByRecursion (λ (l : ReportLine). HasWordName l.name) (insert_if t x y ys inserted)
insert_named true x y ys inserted a b c d = (a, (b, c))
insert_named false x y ys inserted a b c d = (b, d)

-- a line that is put at its place
place_named : (x : ReportLine) (ys : List ReportLine) → HasWordName x.name → AllByRecursion (λ (l : ReportLine). HasWordName l.name) ys
    → AllByRecursion (λ (l : ReportLine). HasWordName l.name) (insert_by (λ (l : ReportLine). l.number) x ys)
place_named x [] h k = (h, tt)
place_named x (y ∷ ys) h k = insert_named (nat_le x.number y.number) x y ys (insert_by (λ (l : ReportLine). l.number) x ys) h k.0 k.1 (place_named x ys h k.1)

-- all lines by number
merge_named : (lines : List ReportLine) → AllByRecursion (λ (l : ReportLine). HasWordName l.name) lines → AllByRecursion (λ (l : ReportLine). HasWordName l.name) (by_number lines)
merge_named [] h = tt
merge_named (x ∷ lines) h = place_named x (by_number lines) h.0 (merge_named lines h.1)

-- the lines of what is left
left_lines : (trees : List (List Pending)) → AreTrees trees → AllByRecursion (λ (l : ReportLine). HasWordName l.name) (flat_map (map line_of_pending) trees)
left_lines [] h = tt
left_lines (tree ∷ trees) h =
    all_append (λ (l : ReportLine). HasWordName l.name) (map line_of_pending tree) (flat_map (map line_of_pending) trees)
    (all_map (λ (l : ReportLine). HasWordName l.name) line_of_pending tree h.0) (left_lines trees h.1)

-- the lines of a round
round_named : (round : Round) → AreEnded round.ended → AreTrees round.left → AreNamed round
round_named round h k =
    merge_named (map line_of_ended round.ended ++ flat_map (map line_of_pending) round.left)
    (all_append (λ (l : ReportLine). HasWordName l.name) (map line_of_ended round.ended) (flat_map (map line_of_pending) round.left)
    (all_map (λ (l : ReportLine). HasWordName l.name) line_of_ended round.ended h) (left_lines round.left k))

-- ---- courses

-- what is told from this number on goes up to the other
abbrev AreToldTo : ℕ → List Event → ℕ → Type 0
AreToldTo n [] m = n ≡ m
AreToldTo n (RanRound round ∷ events) m = (round.number ≡ n) × (AreNamed round × AreToldTo (n + 1) events m)
AreToldTo n (HeldBatch batch ∷ events) m = AreToldTo n events m

-- what is told on goes on
told_then : (n m k : ℕ) (events more : List Event) → AreToldTo n events m → AreToldTo m more k → AreToldTo n (events ++ more) k
told_then n m k [] more h there = subst (λ (a : ℕ). AreToldTo a more k) (sym h) there
told_then n m k (RanRound round ∷ events) more h there = (h.0, (h.1.0, told_then (n + 1) m k events more h.1.1 there))
told_then n m k (HeldBatch batch ∷ events) more h there = told_then n m k events more h there

-- whatever it goes up to
told_from : (n m : ℕ) (events : List Event) → AreToldTo n events m → AreToldFrom n events
told_from n m [] h = tt
told_from n m (RanRound round ∷ events) h = (h.0, (h.1.0, told_from (n + 1) m events h.1.1))
told_from n m (HeldBatch batch ∷ events) h = told_from n m events h

-- the names of held batches
abbrev AreBatches : List Batch → Type 0
AreBatches held = AllByRecursion (λ (b : Batch). AllByRecursion IsNamed b.requests) held

-- the names of a run between two lines
record IsNamedState (st : State) : Type 0 where
  suspended : AreTrees st.suspended
  held : AreBatches st.held
  batch : AllByRecursion IsNamed st.batch

-- a course from a state: its rounds follow, and the names stay
record IsTold (st : State) (c : Course) : Type 0 where
  events : AreToldTo (st.rounds + 1) c.events (c.state.rounds + 1)
  state : IsNamedState c.state

-- a course, and the one after it
told_course : (st : State) (c : Course) (later : State → Course) → IsTold st c → IsTold c.state (later c.state) → IsTold st (then_course c later)
told_course st c later h k = record {
  events = told_then (st.rounds + 1) (c.state.rounds + 1) ((later c.state).state.rounds + 1) c.events (later c.state).events h.events k.events;
  state = k.state;
}

-- a batch that runs
told_batch : (plan : Plan) (batch : Batch) (st : State) → IsNamedState st → AllByRecursion IsNamed batch.requests → IsTold st (run_batch plan batch st)
told_batch plan batch st h named =
    let trees : AllByRecursion (AllByRecursion IsNamed) (trees_of batch.requests) = batch_named batch.requests [] named tt in
    let a : Admitted = admitted st.suspended (is_bound st.bound) (trees_of batch.requests) in
    let first : AreAdmitted a = admitted_named st.suspended (is_bound st.bound) (trees_of batch.requests) trees in
    let ran : Ran = settle_each plan.journal (terms_of plan st) (pending_trees st.bound batch.number a.trees) st.images in
    let then : AreRan ran = ran_named plan.journal (terms_of plan st) (pending_trees st.bound batch.number a.trees) st.images (pending_named st.bound batch.number a.trees first.1) in
    record {
      events = (refl, (round_named (round_of st (Some batch.number) a.answered ran) (all_append (λ (e : Ended). IsNamed e.request) a.answered ran.ended first.0 then.0) then.1, refl));
      state = record { suspended = all_append ArePending st.suspended ran.left h.suspended then.1; held = h.held; batch = h.batch };
    }

-- the suspended trees run
told_suspended : (plan : Plan) (st : State) → IsNamedState st → IsTold st (run_suspended plan st)
told_suspended plan st h =
    let ran : Ran = settle_each plan.journal (terms_of plan st) st.suspended st.images in
    let then : AreRan ran = ran_named plan.journal (terms_of plan st) st.suspended st.images h.suspended in
    record {
      events = (refl, (round_named (round_of st None [] ran) then.0 then.1, refl));
      state = record { suspended = then.1; held = h.held; batch = h.batch };
    }

-- a held batch that stays or runs, and those behind it
held_named : (stop : Bool) (plan : Plan) (batch : Batch) (held : List Batch) (st : State) → IsNamedState st → AreBatches (batch ∷ held)
    → ((now : State) → IsNamedState now → IsTold now (run_held plan held now))
    → IsTold st (held_if stop (batch ∷ held) st (λ now. then_course (run_batch plan batch now) (run_held plan held)))
held_named true plan batch held st h named later = record { events = refl; state = record { suspended = h.suspended; held = named; batch = h.batch } }
held_named false plan batch held st h named later =
    let first = told_batch plan batch st h named.0 in
    told_course st (run_batch plan batch st) (run_held plan held) first (later (run_batch plan batch st).state first.state)

-- all held batches
told_held : (plan : Plan) (held : List Batch) (st : State) → IsNamedState st → AreBatches held → IsTold st (run_held plan held st)
unfolding run_held
told_held plan [] st h named = record { events = refl; state = record { suspended = h.suspended; held = tt; batch = h.batch } }
told_held plan (batch ∷ held) st h named = held_named (has_trees st.suspended) plan batch held st h named (λ now k. told_held plan held now k named.1)

-- a batch that runs or is held
told_go : (run : Bool) (plan : Plan) (batch : Batch) (st : State) → IsNamedState st → AllByRecursion IsNamed batch.requests → IsTold st (go_if run plan batch st)
told_go true plan batch st h named = told_batch plan batch st h named
told_go false plan batch st h named = record {
  events = refl;
  state = record {
    suspended = h.suspended;
    held = all_append (λ (b : Batch). AllByRecursion IsNamed b.requests) st.held (batch ∷ []) h.held (named, tt);
    batch = h.batch;
  };
}

-- a clear
told_clear : (has : Bool) (plan : Plan) (st : State) → IsNamedState st → IsTold st (then_course (clear_if has plan st) (held_after plan))
told_clear true plan st h =
    let first = told_suspended plan st h in
    told_course st (run_suspended plan st) (held_after plan) first
    (told_held plan (run_suspended plan st).state.held (run_suspended plan st).state first.state first.state.held)
told_clear false plan st h = told_held plan st.held st h h.held

-- the names of the requests among these lines
abbrev AreItems : List Item → Type 0
AreItems items = AllByRecursion IsNamed (requests_of items)

-- a line
told_line : (plan : Plan) (item : Item) (items : List Item) (st : State) → IsNamedState st → AreItems (item ∷ items) → IsTold st (line plan item st)
told_line plan (RequestLine r) items st h named = record {
  events = refl;
  state = record { suspended = h.suspended; held = h.held; batch = all_append IsNamed st.batch (r ∷ []) h.batch (named.0, tt) };
}
told_line plan Go items st h named =
    let now : State = record st { batch = []; batches = st.batches + 1 } in
    let told : IsTold now _ = told_go _ plan (record { number = st.batches + 1; requests = st.batch }) now (record { suspended = h.suspended; held = h.held; batch = tt }) h.batch in
    record { events = told.events; state = told.state }
told_line plan Clear items st h named =
    let now : State = record st { point = st.point + 1 } in
    let told : IsTold now _ = told_clear (has_trees st.suspended) plan now (record { suspended = h.suspended; held = h.held; batch = h.batch }) in
    record { events = told.events; state = told.state }

-- the names behind a line
items_behind : (item : Item) (items : List Item) → AreItems (item ∷ items) → AreItems items
items_behind (RequestLine r) items named = named.1
items_behind Go items named = named
items_behind Clear items named = named

-- a line, behind a panic or not
told_line_if : (stop : Bool) (plan : Plan) (item : Item) (items : List Item) (st : State) → IsNamedState st → AreItems (item ∷ items) → IsTold st (line_if stop plan item st)
told_line_if true plan item items st h named = record { events = refl; state = h }
told_line_if false plan item items st h named = told_line plan item items st h named

-- all lines
told_lines : (plan : Plan) (items : List Item) (st : State) → IsNamedState st → AreItems items → IsTold st (run_lines plan items st)
unfolding run_lines
told_lines plan [] st h named = record { events = refl; state = h }
told_lines plan (item ∷ items) st h named =
    let first = told_line_if st.panicked plan item items st h named in
    told_course st (line_if st.panicked plan item st) (run_lines plan items) first
    (told_lines plan items (line_if st.panicked plan item st).state first.state (items_behind item items named))

-- ---- an accepted script

-- a byte of a name is above the blank
char_above : (c : ℕ) (low : Bool) → nat_le c 32 ≡ low → is_name_char c ≡ true → 32 < c
char_above c true low is = absurd (true≢false (sym is ∙ none c (leb-true c 32 low)))
  where
    none : (x : ℕ) → x ≤ 32 → is_name_char x ≡ false
    none x small = grind (arith, nat_tests)
char_above c false low is = omega (arith, leb-false c 32 low)

-- so are all
name_chars : (chars : List ℕ) → list_all is_name_char chars ≡ true → Dark chars
name_chars [] all = tt
name_chars (c ∷ cs) all =
    let parts = and_parts (is_name_char c) (list_all is_name_char cs) all in
    (char_above c (nat_le c 32) refl parts.0, name_chars cs parts.1)

-- a name that is one is a word
word_name : (name : Option (List ℕ)) → is_misnamed name ≡ false → HasWordName name
word_name None fine = tt
word_name (Some name) fine =
    name_chars name (and_parts (nat_le 1 (length name) && nat_le (length name) NAME_LEN_MAX) (list_all is_name_char name) (not-false (is_name name) fine)).1

-- so are those of requests in their ranges
range_named : (requests : List Request) → AllByRecursion IsInRange requests → AllByRecursion IsNamed requests
range_named [] h = tt
range_named (r ∷ requests) h = (word_name (name_of r.work) h.0.name, range_named requests h.1)

-- what holds of two lists holds of each
front_of_both : (xs ys : List Request) → AllByRecursion IsInRange (xs ++ ys) → AllByRecursion IsInRange xs × AllByRecursion IsInRange ys
front_of_both [] ys h = (tt, h)
front_of_both (x ∷ xs) ys h = let both = front_of_both xs ys h.1 in ((h.0, both.0), both.1)

-- the requests of a batch that is open, and those of all lines behind it
ranges_from : (apart : Bool) (batch : List Request) (items : List Item) → AllByRecursion (IsOrderlyBatch apart) (batches_from batch items)
    → IsOrderlyBatch apart (fold batch_after batch items) → AllByRecursion IsInRange batch × AllByRecursion IsInRange (requests_of items)
ranges_from apart batch [] batches last = (last.ranges, tt)
ranges_from apart batch (RequestLine r ∷ items) batches last =
    let later = ranges_from apart (batch ++ r ∷ []) items batches last in
    let both = front_of_both batch (r ∷ []) later.0 in
    (both.0, (both.1.0, later.1))
ranges_from apart batch (Go ∷ items) batches last = (batches.0.ranges, (ranges_from apart [] items batches.1 last).1)
ranges_from apart batch (Clear ∷ items) batches last = ranges_from apart batch items batches last

-- the names of an accepted script's requests are words
pub script_named : (text : List ℕ) (script : Script) → IsScriptOf text script → AllByRecursion IsNamed (requests_of script.items)
script_named text script is =
    let orderly = reading_orderly text script is in
    range_named (requests_of script.items) (ranges_from (tells_reads_apart script) [] script.items orderly.batches orderly.last).1

-- what is told of a script's run
pub told_run : (script : Script) (images : Images) (entries : List Choice) → AllByRecursion IsNamed (requests_of script.items) → AreToldFrom 1 (run_script script images entries).events
told_run script images entries named =
    let told = told_lines (plan_of script images entries) script.items (start_state images) (record { suspended = tt; held = tt; batch = tt }) named in
    told_from 1 ((run_script script images entries).state.rounds + 1) (run_script script images entries).events told.events
