-- A turn over what an engine lends, step by step, in each round that goes on.
use Rattle.std.proofs.Common.{◌≡◌, ◌≢◌, ℕ, zero, suc, ◌<◌, ◌≤◌, List, [], ◌∷◌, ◌++◌, length, Bool, cond, Option, Some, ◌⊎◌, inl, inr, refl, sym, ap, ◌∙◌, subst, arith}
use Rattle.std.proofs.Common.{append_assoc, map}
use Rattle.std.specs.Prelude.{option_to_list, slice_index_or, Contains}
use Rattle.std.specs.List.{AllByRecursion}
use Rattle.std.proofs.lemmas.List.{append-nil}
use Rattle.zio_types.specs.declared.place.Place.{Place}
use Rattle.zio_types.specs.declared.place.Top.{Top}
use Rattle.zio_types.specs.Choices.{Choice}
use Rattle.zio_cksum.specs.Images.{Images}
use Rattle.zio_gang.specs.Attempts.{Terms}
use Rattle.zio_trace.specs.Families.{Forest}
use Rattle.zio_trace.specs.Keys.{bit}
use Rattle.zio_trace.specs.Labels.{same_number}
use Rattle.zio_trace.specs.Leaves.{Fetch, LeafOp, Store, spot_of}
use Rattle.zio_trace.specs.SoundRounds.{IsSoundRound}
use Rattle.zio_trace.specs.Tasks.{Task, Value}
use Rattle.zio_frames.specs.Frames.{Flying}
use Rattle.zio_trace.proofs.LabelLemmas.{number_itself}
use Rattle.zio_frames.specs.Moves.{heard_early}
use Rattle.zio_frames.proofs.GetLemmas.{same_or_not}
use Rattle.zio_vqueue.specs.declared.op.Op.{Op}
use Rattle.zio_vqueue.specs.Queues.{FitsDevice, end_of}
use Rattle.zio_cksum.proofs.AllLemmas.{all_append}
use Rattle.zio_groups.specs.declared.waiting.QueuedOp.{QueuedOp}
use Rattle.zio_groups.specs.LeafQueues.{Waits}
use Rattle.zio_exchange.specs.LeafOps.{IsOpFor}
use Rattle.zio_exchange.specs.SpaceCalls.{SpaceCall}
use Rattle.zio_exchange.specs.declared.outcome.FinishedRequest.{FinishedRequest}
use Rattle.zio_exchange.specs.declared.outcome.Outcome.{Outcome}
use Rattle.zio_exchange.specs.declared.outcome.Outcome.TheVariants.{Finished as HasFinished}
use Rattle.slab.specs.Slab.{Slab, get}
use Rattle.zio_turns.specs.Acts.{IsHandedOn}
use Rattle.zio_turns.specs.AtLeaves.{AllWait, IsPut, WaitsFor, key_of, keys_at, keys_in, put_as, waiting_at}
use Rattle.zio_turns.specs.Desks.{AreMade, IsDeskAt, choices_in, GivesLast}
use Rattle.zio_staged.specs.Entries.{times_in}
use Rattle.zio_turns.specs.Grounds.{AreReady}
use Rattle.zio_turns.specs.Ledgers.{AreToldAs, Ending, found_so_far}
use Rattle.zio_staged.specs.Parts.{Nodes}
use Rattle.zio_turns.specs.Rounds.{AfterStep, AsksRightly, Before, EndsAs, SoFar, StepsOn, finished_in, op_set, with_calls, with_done, with_op, with_tree}
use Rattle.zio_turns.specs.Slabs.{held_of, shelf_of}
use Rattle.zio_turns.specs.UnderTurns.{AreLent, AreTold, EndsFinished, FitDisks, HasEndedFor, HasGoneOn, HasTurned, IsTelling, Telling, TellNow, with_telling}
use Rattle.zio_turns.specs.declared.desk.Desk.{Desk}
use Rattle.zio_turns.specs.declared.entry.TiedNode.{TiedNode}
use Rattle.zio_turns.specs.declared.grounds.Grounds.{Grounds}
use Rattle.zio_turns.specs.declared.step.Step.{Step}
use Rattle.zio_turns.specs.declared.step.Step.TheVariants.{Ended, Goes, Leaf as ToLeaf, Rests, Root, Told}
use Rattle.zio_turns.proofs.Allowed.{ServesOn, desk_serves}
use Rattle.zio_turns.proofs.Finds.{queued_held}
use Rattle.zio_turns.proofs.HandedLemmas.{ends_on, fits_queue, waits_under}
use Rattle.zio_turns.proofs.KeyTimes.{times_one}
use Rattle.zio_turns.proofs.Links.{some_is}
use Rattle.zio_turns.proofs.MoveOne.{queued_now}
use Rattle.zio_turns.proofs.Queues.{number_other, queued_first}
use Rattle.zio_turns.proofs.RoundNodes.{it_is_there}
use Rattle.zio_turns.proofs.RoundParents.{from_held}

-- ---- tellings

pub told_behind : (xs : List Telling) (x : Telling) (a b : List (Option Flying)) → AreTold xs a b → IsTelling x b
    → AreTold (xs ++ x ∷ []) a (with_telling x b)
told_behind [] x a b h is =
    subst (λ (tops : List (Option Flying)). IsTelling x tops × (with_telling x b ≡ with_telling x tops)) h (is, refl)
told_behind (y ∷ ys) x a b h is = (h.0, told_behind ys x (with_telling y a) b h.1 is)

told_both : (xs ys : List Telling) (a b c : List (Option Flying)) → AreTold xs a b → AreTold ys b c → AreTold (xs ++ ys) a c
told_both [] ys a b c h k = subst (λ (tops : List (Option Flying)). AreTold ys tops c) h k
told_both (x ∷ xs) ys a b c h k = (h.0, told_both xs ys (with_telling x a) b c h.1 k)

-- ---- so far

pub told_append : (xs ys : List FinishedRequest) (a b : List Ending) → AreToldAs xs a → AreToldAs ys b → AreToldAs (xs ++ ys) (a ++ b)
told_append [] ys [] b h k = k
told_append [] ys (x ∷ a) b h k = absurd h
told_append (f ∷ xs) ys [] b h k = absurd h
told_append (f ∷ xs) ys (x ∷ a) b h k = (h.0, told_append xs ys a b h.1 k)

pub gone_nowhere : (s : SoFar) → HasGoneOn s s []
gone_nowhere s = record {
  tellings = [];
  told = refl;
  more = [];
  entries_are = sym (append-nil s.entries);
  trees_are = refl;
  done = [];
  done_are = sym (append-nil s.books.done);
  done_told = tt;
}

pub gone_calls : (s now : SoFar) (finished : List FinishedRequest) (calls : List SpaceCall) → HasGoneOn s now finished
    → HasGoneOn s (with_calls now calls) finished
gone_calls s now finished calls h = record {
  tellings = h.tellings;
  told = h.told;
  more = h.more ++ choices_in calls;
  entries_are = ap (λ (es : List Choice). es ++ choices_in calls) h.entries_are ∙ append_assoc s.entries h.more (choices_in calls);
  trees_are = h.trees_are;
  done = h.done;
  done_are = h.done_are;
  done_told = h.done_told;
}

pub gone_telling : (s now : SoFar) (finished : List FinishedRequest) (x : Telling) → IsTelling x now.tops → HasGoneOn s now finished
    → HasGoneOn s (record {
      trees = now.trees;
      tops = with_telling x now.tops;
      entries = now.entries;
      images = now.images;
      ops = now.ops;
      books = now.books;
    }) finished
gone_telling s now finished x is h = record {
  tellings = h.tellings ++ x ∷ [];
  told = told_behind h.tellings x s.tops now.tops h.told is;
  more = h.more;
  entries_are = h.entries_are;
  trees_are = h.trees_are;
  done = h.done;
  done_are = h.done_are;
  done_told = h.done_told;
}

pub gone_then : (a b c : SoFar) (xs ys : List FinishedRequest) → HasGoneOn a b xs → HasGoneOn b c ys → HasGoneOn a c (xs ++ ys)
gone_then a b c xs ys h k = record {
  tellings = h.tellings ++ k.tellings;
  told = told_both h.tellings k.tellings a.tops b.tops c.tops h.told k.told;
  more = h.more ++ k.more;
  entries_are = k.entries_are ∙ ap (λ (es : List Choice). es ++ k.more) h.entries_are ∙ append_assoc a.entries h.more k.more;
  trees_are = k.trees_are ∙ h.trees_are;
  done = h.done ++ k.done;
  done_are = k.done_are ∙ ap (λ (es : List Ending). es ++ k.done) h.done_are ∙ append_assoc a.books.done h.done k.done;
  done_told = told_append xs ys h.done k.done h.done_told k.done_told;
}

pub gone_op : (s now : SoFar) (finished : List FinishedRequest) (key : ℕ) (act : LeafOp) → HasGoneOn s now finished
    → HasGoneOn s (with_op now key act) finished
gone_op s now finished key act h = record {
  tellings = h.tellings;
  told = h.told;
  more = h.more;
  entries_are = h.entries_are;
  trees_are = h.trees_are;
  done = h.done;
  done_are = h.done_are;
  done_told = h.done_told;
}

-- these requests finished
gone_done : (s now : SoFar) (xs ys : List FinishedRequest) (more : List Ending) → AreToldAs ys more → HasGoneOn s now xs
    → HasGoneOn s (with_done now more) (xs ++ ys)
gone_done s now xs ys more told h = record {
  tellings = h.tellings;
  told = h.told;
  more = h.more;
  entries_are = h.entries_are;
  trees_are = h.trees_are;
  done = h.done ++ more;
  done_are = ap (λ (es : List Ending). es ++ more) h.done_are ∙ append_assoc s.books.done h.done more;
  done_told = told_append xs ys h.done more h.done_told told;
}

-- ---- what is lent

-- no other that waits has the key
other_ops : (key k : ℕ) (act : LeafOp) (ops : ℕ → LeafOp) → k ≢ key → op_set ops key act k ≡ ops k
other_ops key k act ops n = ap (λ (b : Bool). cond b act (ops k)) (number_other key k (λ i. n (sym i)))

none_has : (key : ℕ) (w : QueuedOp) (ws : List QueuedOp) → times_in key (keys_in (w ∷ ws)) ≡ 0 → key_of w ≢ key
none_has key w ws none same =
    let one : bit (same_number (key_of w) key) ≡ 1 =
    ap (λ (k : ℕ). bit (same_number k key)) same ∙ ap bit (number_itself key) in
    absurd (omega arith)

others_wait : (leaf key : ℕ) (act : LeafOp) (ops : ℕ → LeafOp) (ws : List QueuedOp) → times_in key (keys_in ws) ≡ 0
    → AllByRecursion (λ (w : QueuedOp). WaitsFor leaf (ops (key_of w)) w) ws
    → AllByRecursion (λ (w : QueuedOp). WaitsFor leaf (op_set ops key act (key_of w)) w) ws
others_wait leaf key act ops [] none h = tt
others_wait leaf key act ops (w ∷ ws) none h = (
  subst (λ (a : LeafOp). WaitsFor leaf a w) (sym (other_ops key (key_of w) act ops (none_has key w ws none))) h.0,
  others_wait leaf key act ops ws (omega arith) h.1,
)

waits_put : (key leaf : ℕ) (act : LeafOp) (ops : ℕ → LeafOp) (w : QueuedOp) (old new : List Waits) → IsPut leaf w old new
    → key_of w ≡ key → times_in key (keys_at old) ≡ 0 → WaitsFor leaf act w
    → AllWait (λ at v. WaitsFor at (ops (key_of v)) v) old
    → AllWait (λ at v. WaitsFor at (op_set ops key act (key_of v)) v) new
waits_put key leaf act ops w old new put own none waits all = λ at. by at (same_or_not at leaf)
  where
    kept : (at : ℕ) → AllByRecursion (λ (v : QueuedOp). WaitsFor at (op_set ops key act (key_of v)) v) (waiting_at old at)
    kept at = others_wait at key act ops (waiting_at old at) (omega (arith, none, times_one key old at)) (all at)

    its_own : op_set ops key act (key_of w) ≡ act
    its_own = ap (op_set ops key act) own ∙ ap (λ (b : Bool). cond b act (ops key)) (number_itself key)

    by : (at : ℕ) → (at ≡ leaf) ⊎ (at ≢ leaf)
        → AllByRecursion (λ (v : QueuedOp). WaitsFor at (op_set ops key act (key_of v)) v) (waiting_at new at)
    by at (inl i) =
        subst (λ (n : ℕ). AllByRecursion (λ (v : QueuedOp). WaitsFor n (op_set ops key act (key_of v)) v) (waiting_at new n)) (sym i)
        (subst (λ (ws : List QueuedOp). AllByRecursion (λ (v : QueuedOp). WaitsFor leaf (op_set ops key act (key_of v)) v) ws)
        (sym put.here)
        (all_append (λ (v : QueuedOp). WaitsFor leaf (op_set ops key act (key_of v)) v) (waiting_at old leaf) (w ∷ []) (kept leaf)
        (subst (λ (a : LeafOp). WaitsFor leaf a w) (sym its_own) waits, tt)))
    by at (inr n) =
        subst (λ (ws : List QueuedOp). AllByRecursion (λ (v : QueuedOp). WaitsFor at (op_set ops key act (key_of v)) v) ws)
        (sym (put.others at n)) (kept at)

module _ {D : Type 0} (bytes : D → ℕ) (image : D → List ℕ → Type 0) (t : Terms) (sizes : ℕ → ℕ) (before : Before)
    (entries : List Choice) (claimed back : List Place) (images : Images) (ops : ℕ → LeafOp) (g : Grounds D) where
  abbrev Lent : List Choice → List Place → List Place → (ℕ → LeafOp) → Grounds D → Type 0
  Lent es cs bs os now = AreLent {D = D} bytes image t sizes before es cs bs images os now

  -- only the space changed
  pub lent_desk : (more : List Choice) (claims backs : List Place) (d : Desk) → Lent entries claimed back ops g
      → IsDeskAt t more claims backs d.tops d.space → Lent more claims backs ops (record g { desk = d })
  lent_desk more claims backs d h desk = record {
    setting_is = h.setting_is;
    desk = desk;
    waits = h.waits;
    ready = h.ready;
    fit = h.fit;
    short = h.short;
    each = h.each;
    tell = h.tell;
  }

  -- one operation more is at a leaf
  pub lent_put : (now : Grounds D) (key leaf : ℕ) (act : LeafOp) (w : QueuedOp) → Lent entries claimed back ops g
      → IsPut leaf w g.queues.leaves.items now.queues.leaves.items → key_of w ≡ key
      → times_in key (keys_at g.queues.leaves.items) ≡ 0 → WaitsFor leaf act w
      → AreReady now.setting.rows (map bytes now.disks.items) now.queues.leaves.items → now.setting ≡ g.setting
      → now.disks.items ≡ g.disks.items → now.desk ≡ g.desk → Lent entries claimed back (op_set ops key act) now
  lent_put now key leaf act w h put own none waits ready setting disks desk = record {
    setting_is = h.setting_is ∙ sym setting;
    desk = subst (λ (d : Desk). IsDeskAt t entries claimed back d.tops d.space) (sym desk) h.desk;
    waits = waits_put key leaf act ops w g.queues.leaves.items now.queues.leaves.items put own none waits h.waits;
    ready = ready;
    fit = subst (λ (ds : List D). FitDisks sizes (map bytes ds)) (sym disks) h.fit;
    short = h.short;
    each = put.count ∙ (h.each ∙ ap (λ (ds : List D). length ds) (sym disks));
    tell = subst (λ (ds : List D). TellNow {D = D} image before ds images) (sym disks) h.tell;
  }

-- ---- a request that finished

handed_finished : {S : Type 0} (outcome : Outcome S) (finished : FinishedRequest) → IsHandedOn outcome (Some finished) → outcome ≡ HasFinished finished
handed_finished {S} (HasFinished f) finished h = ap (λ (x : FinishedRequest). let o : Outcome S = HasFinished x in o) (sym (some_is finished f h))
handed_finished _ finished h = absurd (cc)

-- whichever seal it is under
pub ends_finished : {S : Type 0} (t : Terms) (op : Task) (finished : FinishedRequest) (v : Value) → EndsAs {S = S} t op (HasFinished finished) v
    → EndsFinished t finished
ends_finished t op finished v how = record {
  op = op;
  value = v;
  how = record {
    stack = how.stack;
    does = how.does;
    ends = how.ends;
    shows = how.shows;
    ended = how.ended;
    requests = how.requests;
    requests_are = how.requests_are;
  };
}

handed_in : {S : Type 0} (outcome : Outcome S) (finished : Option FinishedRequest) → IsHandedOn outcome finished → finished_in outcome ≡ option_to_list finished
handed_in (HasFinished f) finished h = sym (ap (λ (o : Option FinishedRequest). option_to_list o) h)
handed_in _ finished h = sym (ap (λ (o : Option FinishedRequest). option_to_list o) h)

-- ---- its leaf

leaf_is : (act : LeafOp) (op : Op) (leaf : ℕ) (stored : List ℕ) → IsOpFor act op leaf stored → leaf ≡ (spot_of act).leaf
leaf_is (Fetch retry len spot) op leaf stored h = h.0.on
leaf_is (Store retry bytes spot) op leaf stored h = h.0.on

-- where a disk has some size there is one
on_some_disk : {D : Type 0} (bytes : D → ℕ) (disks : List D) (leaf : ℕ) → 0 < slice_index_or (map bytes disks) leaf 0 → {n : ℕ}
    → length disks ≡ n → leaf < n
on_some_disk bytes [] leaf h same = absurd (omega arith)
on_some_disk bytes (d ∷ ds) zero h same = omega arith
on_some_disk bytes (d ∷ ds) (suc leaf) h same = let rest : leaf < length ds = on_some_disk bytes ds leaf h refl in omega arith

-- ---- one step

module _ {N D : Type 0} (nodes : Nodes N) (bytes : D → ℕ) (image : D → List ℕ → Type 0) (t : Terms) (sizes : ℕ → ℕ) (f : Forest)
    (before : Before) (was : SoFar) (slab slab_now : Slab (TiedNode N)) (line line_now : List ℕ) (key : ℕ) (g : Grounds D) (d : Desk)
    (calls : List SpaceCall) (sound : IsSoundRound t sizes f)
    (h : HasTurned {N = N} {D = D} nodes bytes image t sizes f before was [] slab (key ∷ line) g)
    (served : AreMade calls g.desk.space d.space) (asks : AsksRightly {N = N} nodes g.desk.tops calls slab line key) (last : GivesLast calls) (tops_same : d.tops ≡ g.desk.tops) where
  abbrev Now : SoFar
  Now = with_calls h.now calls

  abbrev With : Grounds D
  With = record g { desk = d }

  abbrev Turned : Slab (TiedNode N) → List ℕ → Grounds D → Type 0
  Turned slab_then line_then g_then = HasTurned {N = N} {D = D} nodes bytes image t sizes f before was [] slab_then line_then g_then

  serves : ServesOn t h.now.entries h.now.books.claimed h.now.books.back g.desk.tops d.space calls
  serves =
      desk_serves t h.now.entries h.now.books.claimed h.now.books.back g.desk.tops g.desk.space d.space calls h.going.lent.desk served
      (asks t sizes f before h.now (keys_at g.queues.leaves.items) sound (sym h.going.lent.desk.desk.tops_are) h.going.keeps) last

  lent : AllByRecursion (Contains (t.used ++ found_so_far Now.entries Now.books.claimed)) Now.books.back
      → AreLent {D = D} bytes image t sizes before Now.entries Now.books.claimed Now.books.back Now.images Now.ops With
  lent backs = lent_desk bytes image t sizes before h.now.entries h.now.books.claimed h.now.books.back h.now.images h.now.ops g Now.entries
      Now.books.claimed Now.books.back d h.going.lent
      (subst (λ (ts : List Top). IsDeskAt t Now.entries Now.books.claimed Now.books.back ts d.space) (sym tops_same)
      (serves.desk backs))

  gone : HasGoneOn was Now []
  gone = gone_calls was h.now [] calls h.gone

  after_it : {S : Type 0} (step : Step S) → StepsOn {N = N} nodes g.desk.tops calls slab line slab_now line_now key step
      → AfterStep {N = N} nodes t sizes f before Now slab_now line_now (keys_at g.queues.leaves.items) key step
  after_it step steps =
      steps t sizes f before h.now (keys_at g.queues.leaves.items) sound (sym h.going.lent.desk.desk.tops_are) serves.right
      h.going.keeps

  pub turn_goes : StepsOn {N = N} {S = Unit {0}} nodes g.desk.tops calls slab line slab_now line_now key Goes
      → Turned slab_now (key ∷ line_now) With
  turn_goes steps =
      let keeps = after_it {S = Unit {0}} Goes steps in
      record { now = Now; gone = gone; going = record { keeps = keeps; lent = lent keeps.ledger.backs } }

  pub turn_told : (tree : ℕ) → StepsOn {N = N} {S = Unit {0}} nodes g.desk.tops calls slab line slab_now line_now key (Told tree)
      → Turned slab_now (key ∷ line_now) With
  turn_told tree steps =
      let told = after_it {S = Unit {0}} (Told tree) steps in
      let x : Telling = record { tree = tree; top = told.top; number = told.number; child = told.child; pointer = told.pointer } in
      record {
        now = with_tree Now tree (record {
          at = told.top.at;
          stack = heard_early told.top.stack told.number told.child told.pointer;
        });
        gone = gone_telling was Now [] x
            (record { there = told.there; is = told.is; goes = told.goes; untold = told.untold }) gone;
        going = record { keeps = told.keeps; lent = lent told.keeps.ledger.backs };
      }

  pub turn_rests : StepsOn {N = N} {S = Unit {0}} nodes g.desk.tops calls slab line slab_now line_now key Rests → Turned slab_now line_now With
  turn_rests steps =
      let keeps = after_it {S = Unit {0}} Rests steps in
      record { now = Now; gone = gone; going = record { keeps = keeps; lent = lent keeps.ledger.backs } }

  pub turn_ends : {S : Type 0} (finished : Option FinishedRequest)
      → StepsOn {N = N} {S = S} nodes g.desk.tops calls slab line slab_now line_now key (Ended finished)
      → HasTurned {N = N} {D = D} nodes bytes image t sizes f before was (option_to_list finished) slab_now line_now With
  turn_ends {S} finished steps =
      let ends = after_it {S = S} (Ended finished) steps in
      record {
        now = with_done Now ends.more;
        gone = gone_done was Now [] (option_to_list finished) ends.more
            (subst (λ (fs : List FinishedRequest). AreToldAs fs ends.more) (handed_in ends.outcome finished ends.handed) ends.told) gone;
        going = record { keeps = ends.keeps; lent = lent ends.keeps.ledger.backs };
      }

  pub turn_finishes : {S : Type 0} (finished : FinishedRequest)
      → StepsOn {N = N} {S = S} nodes g.desk.tops calls slab line slab_now line_now key (Ended (Some finished)) → EndsFinished t finished
  turn_finishes {S} finished steps =
      let ends = after_it {S = S} (Ended (Some finished)) steps in
      let is : ends.outcome ≡ HasFinished finished = handed_finished ends.outcome finished ends.handed in
      ends_finished t ends.op finished ends.value (subst (λ (o : Outcome S). EndsAs t ends.op o ends.value) is ends.how)

  pub turn_roots : {S : Type 0} (tree : ℕ) (outcome : Outcome S)
      → StepsOn {N = N} nodes g.desk.tops calls slab line slab_now line_now key (Root tree outcome)
      → HasEndedFor {N = N} {D = D} nodes bytes image t sizes f before was [] slab_now line_now With tree outcome
  turn_roots tree outcome steps =
      let hears = after_it (Root tree outcome) steps in
      record {
        now = Now;
        gone = gone;
        top = hears.top;
        number = hears.number;
        child = hears.child;
        op = hears.op;
        value = hears.value;
        there = hears.there;
        is = hears.is;
        goes = hears.goes;
        asked = hears.asked;
        fits = hears.fits;
        how = hears.how;
        more = hears.more;
        told = hears.told;
        going = record { keeps = hears.keeps; lent = lent hears.keeps.ledger.backs };
      }

  -- ---- its operation goes to a leaf

  -- nothing waits there under the key
  pub none_waits : times_in key (keys_at g.queues.leaves.items) ≡ 0
  none_waits =
      let k = h.going.keeps in
      let held = queued_held nodes t sizes f before h.now.trees h.now.tops (shelf_of {N = N} slab) (key ∷ line)
      (keys_at g.queues.leaves.items) k.still.state key k.lives line k.still.kept (queued_first key line) in
      let e = from_held {N = N} (get slab key) held.0 held.1 in
      let r = it_is_there nodes t sizes f before h.now slab (key ∷ line) (keys_at g.queues.leaves.items) key e.0 k e.1 in
      (queued_now nodes t sizes f before h.now.trees h.now.tops key r.node r.others (shelf_of {N = N} slab) (key ∷ line)
      (keys_at g.queues.leaves.items) r.state (held_of {N = N} e.0) line r.kept r.held (queued_first key line)).1

  -- the leaf takes it
  pub record TakesIt (op : Op) (leaf : ℕ) : Type 0 where
    pub there : leaf < length g.queues.leaves.items
    pub fits : FitsDevice op
    pub ends : end_of op ≤ slice_index_or (map bytes g.disks.items) leaf 0

  pub leaf_takes : (op : Op) (leaf : ℕ) (stored : List ℕ)
      → StepsOn {N = N} {S = Unit {0}} nodes g.desk.tops calls slab line slab_now line_now key (ToLeaf op leaf stored) → TakesIt op leaf
  leaf_takes op leaf stored steps =
      let out = after_it {S = Unit {0}} (ToLeaf op leaf stored) steps in
      let fit = h.going.lent.fit leaf in
      let span : 0 < (spot_of out.0).span = out.2.spans in
      let at : sizes leaf ≡ sizes (spot_of out.0).leaf = ap sizes (leaf_is out.0 op leaf stored out.1) in
      let ends : end_of op ≤ sizes leaf = ends_on sizes out.0 op leaf stored out.1 out.2.lies in
      record {
        there = on_some_disk bytes g.disks.items leaf (omega (arith, span, fit, at, out.2.lies.lies)) (sym h.going.lent.each);
        fits = fits_queue t.setting.tops out.0 op leaf stored out.1 out.2.ends h.going.lent.short;
        ends = omega (arith, fit, ends);
      }

  pub turn_leaves : (op : Op) (leaf : ℕ) (stored : List ℕ)
      → StepsOn {N = N} {S = Unit {0}} nodes g.desk.tops calls slab line slab_now line_now key (ToLeaf op leaf stored)
      → (now : Grounds D) → IsPut leaf (put_as key op stored) g.queues.leaves.items now.queues.leaves.items
      → (AreReady g.setting.rows (map bytes g.disks.items) g.queues.leaves.items
      → AreReady now.setting.rows (map bytes now.disks.items) now.queues.leaves.items) → now.setting ≡ g.setting
      → now.disks.items ≡ g.disks.items → now.desk ≡ d → Turned slab_now line_now now
  turn_leaves op leaf stored steps now put ready setting disks desk =
      let out = after_it {S = Unit {0}} (ToLeaf op leaf stored) steps in
      let keeps = out.2.keeps (keys_at now.queues.leaves.items) put.keys in
      record {
        now = with_op Now key out.0;
        gone = gone_op was Now [] key out.0 gone;
        going = record {
          keeps = keeps;
          lent = lent_put bytes image t sizes before Now.entries Now.books.claimed Now.books.back Now.images Now.ops With now key leaf out.0 (put_as key op stored)
              (lent keeps.ledger.backs) put
              refl none_waits (waits_under sizes out.0 op leaf key stored out.1 out.2.lies) (ready h.going.lent.ready) setting disks desk;
        };
      }
