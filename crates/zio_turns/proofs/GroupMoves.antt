-- A group that was issued and answered, in each round that goes on.
use Rattle.std.proofs.Common.{◌≡◌, ◌≢◌, ℕ, ◌+◌, ◌*◌, ◌<◌, ◌≤◌, List, [], ◌∷◌, ◌++◌, length, map, Option, Some, None, Contains, ◌⊎◌, inl, inr, refl, sym, ap, ◌∙◌, subst, arith}
use Rattle.std.specs.List.{AllByRecursion}
use Rattle.zio_types.specs.declared.place.Top.{Top}
use Rattle.zio_types.specs.declared.place.Place.{Place}
use Rattle.zio_types.specs.Choices.{Choice}
use Rattle.std.proofs.lemmas.List.{length-map}
use Rattle.zio_cksum.specs.Images.{Images, Setting}
use Rattle.zio_cksum.proofs.AllLemmas.{all_contains, all_weaker}
use Rattle.zio_gang.specs.Attempts.{Terms}
use Rattle.zio_groups.specs.declared.waiting.Answered.{Answered}
use Rattle.zio_groups.specs.declared.waiting.QueuedOp.{QueuedOp}
use Rattle.zio_groups.specs.Issued.{AreWhole}
use Rattle.zio_trace.specs.Families.{Forest}
use Rattle.zio_trace.specs.Leaves.{LeafOp, on_leaf}
use Rattle.zio_trace.specs.SoundRounds.{IsSoundRound}
use Rattle.zio_frames.specs.Frames.{Flying}
use Rattle.zio_frames.proofs.GetLemmas.{same_or_not}
use Rattle.slab.specs.Slab.{Slab}
use Rattle.zio_turns.specs.AtLeaves.{AllWait, AreDone, AreIssued, WaitForAll, WaitsFor, key_of, keys_at, keys_in, waiting_at}
use Rattle.zio_turns.specs.Desks.{IsDeskAt}
use Rattle.zio_turns.specs.Engine.{Matches, Rests}
use Rattle.zio_staged.specs.Entries.{Held, Shelf, flying_at, times_in, top_at}
use Rattle.zio_turns.specs.Grounds.{AreReady}
use Rattle.zio_staged.specs.Parts.{Nodes}
use Rattle.zio_turns.specs.Rounds.{Before, ComesBack, IsAtLeaf, KeepsRound, SoFar, with_images}
use Rattle.zio_turns.specs.Sizes.{HasAskedSize}
use Rattle.zio_turns.specs.Slabs.{AreAll, load, shelf_of}
use Rattle.zio_staged.specs.Stages.{ShowsAnswer}
use Rattle.zio_turns.specs.UnderTurns.{AreAtLeaves, AreLent, ComeBack, FitDisks, GiveAnswers, GoesOnSome, IssuesOn, TellNow, keys_answered}
use Rattle.zio_turns.specs.declared.desk.Desk.{Desk}
use Rattle.zio_turns.specs.declared.entry.TiedNode.{TiedNode}
use Rattle.zio_turns.specs.declared.grounds.Grounds.{Grounds}
use Rattle.zio_turns.proofs.HandedLemmas.{shows_some}
use Rattle.zio_turns.proofs.KeyLengths.{length_leave}
use Rattle.zio_turns.proofs.KeyTimes.{times_append}
use Rattle.zio_turns.proofs.Queues.{queued_first}
use Rattle.zio_turns.proofs.SizeMoves.{answers_full}

-- ---- the leaves' keys in another order

module _ {N : Type 0} (nodes : Nodes N) (t : Terms) where
  match_at : (tops lives : ℕ → Option Flying) (shelf : Shelf N) (queue leaves leaves_now : List ℕ) (key : ℕ)
      → times_in key leaves_now ≡ times_in key leaves → (x : Option Flying) (h : Option (Held N))
      → Matches {N = N} nodes t tops lives shelf queue leaves key x h → Matches {N = N} nodes t tops lives shelf queue leaves_now key x h
  match_at tops lives shelf queue leaves leaves_now key e None None p = (p.0, e ∙ p.1)
  match_at tops lives shelf queue leaves leaves_now key e None (Some h) p = p
  match_at tops lives shelf queue leaves leaves_now key e (Some x) None p = p
  match_at tops lives shelf queue leaves leaves_now key e (Some x) (Some h) p = record {
    is = p.is;
    parent = p.parent;
    children = p.children;
    counts = p.counts;
    rests = subst (λ (n : ℕ). Rests {N = N} nodes.due (times_in key queue) n x.stack h) (sym e) p.rests;
  }

  pub round_leaves : (sizes : ℕ → ℕ) (f : Forest) (before : Before) (s : SoFar) (slab : Slab (TiedNode N))
      (queue leaves leaves_now : List ℕ) → ((k : ℕ) → times_in k leaves_now ≡ times_in k leaves)
      → KeepsRound {N = N} nodes t sizes f before s slab queue leaves → KeepsRound {N = N} nodes t sizes f before s slab queue leaves_now
  round_leaves sizes f before s slab queue leaves leaves_now same k = record {
    lives = k.lives;
    still = record {
      state = k.still.state;
      kept = record {
        running = k.still.kept.running;
        stand = k.still.kept.stand;
        differ = k.still.kept.differ;
        linked = record {
          each = λ key. match_at (top_at s.tops) (flying_at k.lives) (shelf_of {N = N} slab) queue leaves leaves_now key (same key)
              (flying_at k.lives key) (shelf_of {N = N} slab key) (k.still.kept.linked.each key);
          trees = k.still.kept.linked.trees;
          apart = k.still.kept.linked.apart;
        };
      };
      entries_are = k.still.entries_are;
      images_are = k.still.images_are;
    };
    numbered = k.numbered;
    theirs = λ key x flies at. let e = same key in k.theirs key x flies (omega (arith, at, e));
    ledger = k.ledger;
  }

-- ---- what the leaves answered

abbrev ops_for : (ℕ → LeafOp) → List QueuedOp → List LeafOp
ops_for ops ws = map (λ (w : QueuedOp). ops (key_of w)) ws

wait_for_theirs : (leaf : ℕ) (ops : ℕ → LeafOp) (ws : List QueuedOp)
    → AllByRecursion (λ (w : QueuedOp). WaitsFor leaf (ops (key_of w)) w) ws → WaitForAll leaf (ops_for ops ws) ws
wait_for_theirs leaf ops [] h = tt
wait_for_theirs leaf ops (w ∷ ws) h = (h.0, wait_for_theirs leaf ops ws h.1)

first_key : (k m : ℕ) (ks ms : List ℕ) → k ∷ ks ≡ m ∷ ms → k ≡ m
first_key k m ks ms e = cc

other_keys : (k m : ℕ) (ks ms : List ℕ) → k ∷ ks ≡ m ∷ ms → ks ≡ ms
other_keys k m ks ms e = cc

give_done : (t : Terms) (before : Images) (ops : ℕ → LeafOp) (ws : List QueuedOp) (bs : List Answered) (images left : Images)
    → (leaf : ℕ) → AllByRecursion (λ (w : QueuedOp). WaitsFor leaf (ops (key_of w)) w) ws → AreWhole ws bs
    → keys_answered bs ≡ keys_in ws → AreDone t.setting (ops_for ops ws) bs images left
    → GiveAnswers t (Some before) ops bs images left
give_done t before ops [] [] images left leaf waits whole keys h = h
give_done t before ops [] (b ∷ bs) images left leaf waits whole keys h = absurd h
give_done t before ops (w ∷ ws) [] images left leaf waits whole keys h = absurd h
give_done t before ops (w ∷ ws) (b ∷ bs) images left leaf waits whole keys h =
    let op : ops (key_of w) ≡ ops b.ticket = ap ops (sym (first_key b.ticket (key_of w) (keys_answered bs) (keys_in ws) keys)) in
    let act : LeafOp = ops b.ticket in (
      (on_leaf t.setting act images).value,
      (on_leaf t.setting act images).images,
      subst (λ (a : LeafOp). ShowsAnswer a b.error b.bytes (on_leaf t.setting a images).value) op h.0,
      subst (λ (a : LeafOp). HasAskedSize a (on_leaf t.setting a images).value) op
          (answers_full leaf (ops (key_of w)) w b (on_leaf t.setting (ops (key_of w)) images).value waits.0 whole.0 h.0),
      (refl, refl),
      give_done t before ops ws bs (on_leaf t.setting act images).images left leaf waits.1 whole.1
          (other_keys b.ticket (key_of w) (keys_answered bs) (keys_in ws) keys)
          (subst (λ (a : LeafOp). AreDone t.setting (ops_for ops ws) bs (on_leaf t.setting a images).images left) op h.1),
    )

give_any : (t : Terms) (ops : ℕ → LeafOp) (ws : List QueuedOp) (bs : List Answered) (images : Images) (leaf : ℕ)
    → AllByRecursion (λ (w : QueuedOp). WaitsFor leaf (ops (key_of w)) w) ws → AreWhole ws bs → keys_answered bs ≡ keys_in ws
    → GiveAnswers t None ops bs images images
give_any t ops [] [] images leaf waits whole keys = refl
give_any t ops [] (b ∷ bs) images leaf waits whole keys = absurd whole
give_any t ops (w ∷ ws) [] images leaf waits whole keys = absurd whole
give_any t ops (w ∷ ws) (b ∷ bs) images leaf waits whole keys =
    let op : ops b.ticket ≡ ops (key_of w) = ap ops (first_key b.ticket (key_of w) (keys_answered bs) (keys_in ws) keys) in
    let a = shows_some (ops b.ticket) b.error b.bytes in
    let waits_it : WaitsFor leaf (ops b.ticket) w = subst (λ (act : LeafOp). WaitsFor leaf act w) (sym op) waits.0 in (
      a.0,
      images,
      a.1,
      answers_full leaf (ops b.ticket) w b a.0 waits_it whole.0 a.1,
      tt,
      give_any t ops ws bs images leaf waits.1 whole.1 (other_keys b.ticket (key_of w) (keys_answered bs) (keys_in ws) keys),
    )

-- ---- one answer after another

module _ {N : Type 0} (nodes : Nodes N) (slab : Slab (TiedNode N)) (line : List ℕ) (all : List Answered) where
  -- each round that is kept with all of them has come so far that these are left
  abbrev pub HaveCome : Slab (TiedNode N) → List ℕ → List Answered → Type 0
  HaveCome slab_now line_now bs =
      (t : Terms) (sizes : ℕ → ℕ) (f : Forest) (before : Before) (s : SoFar) (others : List ℕ) → IsSoundRound t sizes f
      → KeepsRound {N = N} nodes t sizes f before s slab line (keys_answered all ++ others) → (left : Images)
      → GiveAnswers t before s.ops all s.images left
      → (mid : Images)
      × KeepsRound {N = N} nodes t sizes f before (with_images s mid) slab_now line_now (keys_answered bs ++ others)
      × GiveAnswers t before s.ops bs mid left

  pub none_came : (bs : List Answered) → all ≡ bs → HaveCome slab line bs
  none_came bs same = subst (HaveCome slab line) same (λ t sizes f before s others sound k left give. (s.images, k, give))

  pub one_came : (slab_mid slab_now : Slab (TiedNode N)) (line_mid line_now : List ℕ) (b : Answered) (bs rest : List Answered)
      → HaveCome slab_mid line_mid bs → bs ≡ b ∷ rest
      → ComesBack {N = N} nodes slab_mid line_mid slab_now line_now b.ticket b.error b.bytes → HaveCome slab_now line_now rest
  one_came slab_mid slab_now line_mid line_now b bs rest h is back =
      λ t sizes f before s others sound k left give.
      let so = subst (HaveCome slab_mid line_mid) is h t sizes f before s others sound k left give in
      let a = so.2 in (
        a.1,
        back t sizes f before (with_images s so.0) (b.ticket ∷ (keys_answered rest ++ others)) (keys_answered rest ++ others) sound
            (queued_first b.ticket (keys_answered rest ++ others)) so.1 a.0 a.1 a.2 a.3 a.4,
        a.5,
      )

  pub all_came : (slab_now : Slab (TiedNode N)) (line_now : List ℕ) (bs : List Answered) → HaveCome slab_now line_now bs → bs ≡ []
      → ComeBack {N = N} nodes slab line slab_now line_now all
  all_came slab_now line_now bs h none = λ t sizes f before s others sound k left give.
      let so = subst (HaveCome slab_now line_now) none h t sizes f before s others sound k left give in
      subst (λ (i : Images). KeepsRound {N = N} nodes t sizes f before (with_images s i) slab_now line_now others) (sym so.2) so.1

-- ---- a group

module _ {N D : Type 0} (nodes : Nodes N) (bytes : D → ℕ) (image : D → List ℕ → Type 0) (slab : Slab (TiedNode N)) (line : List ℕ)
    (g now : Grounds D) (leaf : ℕ) (answers : List Answered)
    (issued : AreIssued {D = D} image g.setting leaf g.queues.leaves.items now.queues.leaves.items g.disks.items now.disks.items
    answers) where
  keys_leave : (k : ℕ) → times_in k (keys_answered answers ++ keys_at now.queues.leaves.items)
      ≡ times_in k (keys_at g.queues.leaves.items)
  keys_leave k =
      let a = times_append k (keys_answered answers) (keys_at now.queues.leaves.items) in
      let b : times_in k (keys_answered answers) ≡ times_in k (keys_in issued.members) = ap (times_in k) issued.keys in
      let c = issued.leave k in
      omega arith

  -- the keys answered stand beside those that are left
  pub group_keeps : (t : Terms) (sizes : ℕ → ℕ) (f : Forest) (before : Before) (s : SoFar)
      → KeepsRound {N = N} nodes t sizes f before s slab line (keys_at g.queues.leaves.items)
      → KeepsRound {N = N} nodes t sizes f before s slab line (keys_answered answers ++ keys_at now.queues.leaves.items)
  group_keeps t sizes f before s k =
      round_leaves nodes t sizes f before s slab line (keys_at g.queues.leaves.items)
      (keys_answered answers ++ keys_at now.queues.leaves.items) keys_leave k

  waits_left : (ops : ℕ → LeafOp) → AllWait (λ at w. WaitsFor at (ops (key_of w)) w) g.queues.leaves.items
      → AllWait (λ at w. WaitsFor at (ops (key_of w)) w) now.queues.leaves.items
  waits_left ops h = λ at. by at (same_or_not at leaf)
    where
      here : AllByRecursion (λ (w : QueuedOp). WaitsFor leaf (ops (key_of w)) w) (waiting_at now.queues.leaves.items leaf)
      here =
          all_weaker (Contains (waiting_at g.queues.leaves.items leaf)) (λ (w : QueuedOp). WaitsFor leaf (ops (key_of w)) w)
          (waiting_at now.queues.leaves.items leaf)
          (λ w c. all_contains (λ (v : QueuedOp). WaitsFor leaf (ops (key_of v)) v) (waiting_at g.queues.leaves.items leaf) w (h leaf) c)
          issued.stay

      by : (at : ℕ) → (at ≡ leaf) ⊎ (at ≢ leaf)
          → AllByRecursion (λ (w : QueuedOp). WaitsFor at (ops (key_of w)) w) (waiting_at now.queues.leaves.items at)
      by at (inl i) =
          subst (λ (n : ℕ). AllByRecursion (λ (w : QueuedOp). WaitsFor n (ops (key_of w)) w) (waiting_at now.queues.leaves.items n))
          (sym i) here
      by at (inr n) =
          subst (λ (ws : List QueuedOp). AllByRecursion (λ (w : QueuedOp). WaitsFor at (ops (key_of w)) w) ws)
          (sym (issued.others at n)) (h at)

  members_wait : (ops : ℕ → LeafOp) → AllWait (λ at w. WaitsFor at (ops (key_of w)) w) g.queues.leaves.items
      → AllByRecursion (λ (w : QueuedOp). WaitsFor leaf (ops (key_of w)) w) issued.members
  members_wait ops h =
      all_weaker (Contains (waiting_at g.queues.leaves.items leaf)) (λ (w : QueuedOp). WaitsFor leaf (ops (key_of w)) w) issued.members
      (λ w c. all_contains (λ (v : QueuedOp). WaitsFor leaf (ops (key_of v)) v) (waiting_at g.queues.leaves.items leaf) w (h leaf) c)
      issued.among

  -- what the leaves answered, and the images now
  pub group_gives : (t : Terms) (before : Before) (ops : ℕ → LeafOp) (images : Images) → t.setting ≡ g.setting
      → AllWait (λ at w. WaitsFor at (ops (key_of w)) w) g.queues.leaves.items → TellNow {D = D} image before g.disks.items images
      → (left : Images) × GiveAnswers t before ops answers images left × TellNow {D = D} image before now.disks.items left
  group_gives t None ops images setting waits tell = (
    images,
    give_any t ops issued.members answers images leaf (members_wait ops waits) issued.whole issued.keys,
    tt,
  )
  group_gives t (Some told) ops images setting waits tell =
      let done = issued.done (ops_for ops issued.members) images
      (wait_for_theirs leaf ops issued.members (members_wait ops waits)) tell in (
        done.0,
        give_done t told ops issued.members answers images done.0 leaf (members_wait ops waits) issued.whole issued.keys
            (subst (λ (x : Setting). AreDone x (ops_for ops issued.members) answers images done.0) (sym setting) done.1),
        done.2,
      )

  same_count : map bytes now.disks.items ≡ map bytes g.disks.items → length now.disks.items ≡ length g.disks.items
  same_count sizes =
      sym (length-map now.disks.items bytes) ∙ ap (λ (ns : List ℕ). length ns) sizes ∙ length-map g.disks.items bytes

  pub group_lent : (t : Terms) (sizes : ℕ → ℕ) (before : Before) (entries : List Choice) (claimed back : List Place) (images left : Images)
      (ops : ℕ → LeafOp) → AreLent {D = D} bytes image t sizes before entries claimed back images ops g → TellNow {D = D} image before now.disks.items left
      → map bytes now.disks.items ≡ map bytes g.disks.items
      → AreReady now.setting.rows (map bytes now.disks.items) now.queues.leaves.items → now.setting ≡ g.setting
      → now.desk ≡ g.desk → AreLent {D = D} bytes image t sizes before entries claimed back left ops now
  group_lent t sizes before entries claimed back images left ops h tell disks ready setting desk = record {
    setting_is = h.setting_is ∙ sym setting;
    desk = subst (λ (d : Desk). IsDeskAt t entries claimed back d.tops d.space) (sym desk) h.desk;
    waits = waits_left ops h.waits;
    ready = ready;
    fit = subst (λ (ns : List ℕ). FitDisks sizes ns) (sym disks) h.fit;
    short = h.short;
    each = issued.count ∙ (h.each ∙ sym (same_count disks));
    tell = tell;
  }

  pub group_awaited : GoesOnSome {N = N} {D = D} nodes bytes image slab line g → AreAtLeaves {N = N} nodes slab line answers
  group_awaited some =
      let lent = some.going.lent in
      let gives = group_gives some.terms some.before some.so_far.ops some.so_far.images lent.setting_is lent.waits lent.tell in
      record {
        tops = some.terms.setting.tops;
        others = keys_at now.queues.leaves.items;
        keeps = record {
          terms = some.terms;
          sizes = some.sizes;
          forest = some.forest;
          before = some.before;
          so_far = some.so_far;
          sound = some.sound;
          tops_are = refl;
          keeps = group_keeps some.terms some.sizes some.forest some.before some.so_far some.going.keeps;
        };
        left = gives.0;
        gives = gives.1;
      }

  -- each round goes on
  pub group_issues : (slab_now : Slab (TiedNode N)) (line_now : List ℕ) → ComeBack {N = N} nodes slab line slab_now line_now answers
      → map bytes now.disks.items ≡ map bytes g.disks.items
      → AreReady now.setting.rows (map bytes now.disks.items) now.queues.leaves.items → now.setting ≡ g.setting
      → now.desk ≡ g.desk → IssuesOn {N = N} {D = D} nodes bytes image slab line g slab_now line_now now
  group_issues slab_now line_now back disks ready setting desk = λ t sizes f before s sound h.
      let gives = group_gives t before s.ops s.images h.lent.setting_is h.lent.waits h.lent.tell in (
        gives.0,
        record {
          keeps = back t sizes f before s (keys_at now.queues.leaves.items) sound (group_keeps t sizes f before s h.keeps) gives.0 gives.1;
          lent = group_lent t sizes before s.entries s.books.claimed s.books.back s.images gives.0 s.ops h.lent gives.2 disks ready setting desk;
        },
      )

  -- less is to run
  pub group_less : (load_was load_now : ℕ) → load_now ≤ load_was + length answers
      → load_now + 2 * length (keys_at now.queues.leaves.items) < load_was + 2 * length (keys_at g.queues.leaves.items)
  group_less load_was load_now h =
      let leave : length (keys_at g.queues.leaves.items)
      ≡ length (keys_in issued.members) + length (keys_at now.queues.leaves.items) =
      length_leave (keys_at g.queues.leaves.items) (keys_in issued.members) (keys_at now.queues.leaves.items) issued.leave in
      let a : length (keys_in issued.members) ≡ length issued.members = length-map issued.members key_of in
      let b : length (keys_answered answers) ≡ length answers = length-map answers (λ (b : Answered). b.ticket) in
      let c : length (keys_answered answers) ≡ length (keys_in issued.members) = ap (λ (ks : List ℕ). length ks) issued.keys in
      let some : 0 < length issued.members = issued.some in
      omega arith

-- ---- what stands before each answer

pub record IsTelling {N : Type 0} (nodes : Nodes N) (over : List Top → N → Type 0) (all : List Answered)
    (first : Slab (TiedNode N)) (first_line : List ℕ) (slab : Slab (TiedNode N)) (line : List ℕ) (bs : List Answered) : Type 0 where
  pub come : HaveCome {N = N} nodes first first_line all slab line bs
  pub over_still : (tops : List Top) → AreAll {N = N} (over tops) first → AreAll {N = N} (over tops) slab
  pub less : load {N = N} nodes.left slab line + length bs ≤ load {N = N} nodes.left first first_line + length all

-- the next key is at its leaf
pub next_at_leaf : {N : Type 0} (nodes : Nodes N) (first : Slab (TiedNode N)) (first_line : List ℕ) (all : List Answered)
    (slab : Slab (TiedNode N)) (line : List ℕ) (b : Answered) (bs rest : List Answered)
    → AreAtLeaves {N = N} nodes first first_line all → HaveCome {N = N} nodes first first_line all slab line bs → bs ≡ b ∷ rest
    → IsAtLeaf {N = N} nodes slab line b.ticket
next_at_leaf {N} nodes first first_line all slab line b bs rest at come is =
    let k = at.keeps in
    let so = subst (HaveCome {N = N} nodes first first_line all slab line) is come k.terms k.sizes k.forest k.before k.so_far at.others
    k.sound k.keeps at.left at.gives in
    record {
      tops = at.tops;
      leaves = b.ticket ∷ (keys_answered rest ++ at.others);
      others = keys_answered rest ++ at.others;
      there = queued_first b.ticket (keys_answered rest ++ at.others);
      keeps = record {
        terms = k.terms;
        sizes = k.sizes;
        forest = k.forest;
        before = k.before;
        so_far = with_images k.so_far so.0;
        sound = k.sound;
        tops_are = k.tops_are;
        keeps = so.1;
      };
    }

pub telling_begins : {N : Type 0} (nodes : Nodes N) (over : List Top → N → Type 0) (all : List Answered) (first : Slab (TiedNode N))
    (first_line : List ℕ) (bs : List Answered) → bs ≡ all
    → IsTelling {N = N} nodes over all first first_line first first_line bs
telling_begins {N} nodes over all first first_line bs same = record {
  come = none_came {N = N} nodes first first_line all bs (sym same);
  over_still = λ tops h. h;
  less = let e : length bs ≡ length all = ap (λ (xs : List Answered). length xs) same in omega arith;
}

pub telling_goes : {N : Type 0} (nodes : Nodes N) (over : List Top → N → Type 0) (all : List Answered) (first : Slab (TiedNode N))
    (first_line : List ℕ) (slab slab_now : Slab (TiedNode N)) (line line_now : List ℕ) (b : Answered) (bs rest : List Answered)
    → IsTelling {N = N} nodes over all first first_line slab line bs → bs ≡ b ∷ rest
    → ComesBack {N = N} nodes slab line slab_now line_now b.ticket b.error b.bytes
    → ((tops : List Top) → AreAll {N = N} (over tops) slab → AreAll {N = N} (over tops) slab_now)
    → load {N = N} nodes.left slab_now line_now < load {N = N} nodes.left slab line + 2
    → IsTelling {N = N} nodes over all first first_line slab_now line_now rest
telling_goes {N} nodes over all first first_line slab slab_now line line_now b bs rest h is back still less = record {
  come = one_came {N = N} nodes first first_line all slab slab_now line line_now b bs rest h.come is back;
  over_still = λ tops k. still tops (h.over_still tops k);
  less = let e : length bs ≡ length (b ∷ rest) = ap (λ (xs : List Answered). length xs) is in
      omega (arith, less, h.less);
}
