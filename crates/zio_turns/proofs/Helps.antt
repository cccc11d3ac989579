-- Stages that are run by what was reckoned ahead, and queues in another order, in each round that is kept.
use Rattle.std.proofs.Common.{◌≡◌, ◌≢◌, ℕ, ◌+◌, ◌<◌, ◌≤◌, List, [], ◌∷◌, ◌++◌, length, remove, slice_index, Bool, true, false, Option, Some, None, IfSome, refl, sym, ap, ◌∙◌, subst, arith}
use Rattle.zio_types.specs.declared.place.Top.{Top}
use Rattle.zio_types.specs.Choices.{Choice}
use Rattle.zio_gang.specs.Attempts.{Terms}
use Rattle.zio_gang.specs.Journals.{AreLawful}
use Rattle.zio_gang.specs.Trees.{sizes_of}
use Rattle.zio_trace.specs.Keys.{bit}
use Rattle.zio_trace.specs.Labels.{same_number}
use Rattle.zio_trace.proofs.LabelLemmas.{number_is, number_itself}
use Rattle.zio_frames.specs.Frames.{Flying, Stack}
use Rattle.slab.specs.Slab.{Slab, Updates, get}
use Rattle.zio_turns.specs.Acts.{with_ties}
use Rattle.zio_turns.specs.Desks.{AreRight}
use Rattle.zio_turns.specs.Engine.{AtLeaf, Matches, Queued, Rests, Stalls}
use Rattle.zio_staged.specs.Entries.{Held, OneMore, Shelf, flying_at, times_in, top_at}
use Rattle.zio_staged.specs.Parts.{Nodes}
use Rattle.zio_staged.specs.Stages.{GoesOn, IsNow}
use Rattle.zio_turns.specs.Helping.{AreReckoned, AreReordered, FitsAt, StaysKept, keys_wanted, node_in}
use Rattle.zio_turns.specs.Rounds.{HasTurn, KeepsRound, KeepsSome, SoFar, with_calls}
use Rattle.zio_turns.specs.Slabs.{shelf_of}
use Rattle.zio_turns.specs.declared.entry.TiedNode.{TiedNode}
use Rattle.zio_turns.specs.declared.helper.Wanted.{Wanted}
use Rattle.zio_turns.proofs.DoesLemmas.{append_none}
use Rattle.zio_turns.proofs.LedgerOwns.{GivesOwn}
use Rattle.zio_turns.proofs.Queues.{queued_last}
use Rattle.zio_turns.proofs.Requeue.{round_requeued, times_taken}
use Rattle.zio_turns.proofs.RoundMoves.{round_goes_on}
use Rattle.zio_turns.proofs.RoundNodes.{it_is_there}

-- ---- queues

-- a key that is queued, beside the others
pub beside : (key : ℕ) (line : List ℕ) → 0 < times_in key line → (rest : List ℕ) × OneMore key rest line
beside key [] some = absurd (omega arith)
beside key (k ∷ line) some = by (same_number k key) refl (λ there. beside key line there)
  where
    by : (b : Bool) → same_number k key ≡ b → (0 < times_in key line → (rest : List ℕ) × OneMore key rest line)
        → (rest : List ℕ) × OneMore key rest (k ∷ line)
    by true e later = (line, record { times = λ j. ap (λ (n : ℕ). bit (same_number n j) + times_in j line) (number_is k key e) })
    by false e later =
        let none : bit (same_number k key) ≡ 0 = ap bit e in
        let there : 0 < times_in key line = omega arith in
        let more = later there in
        (k ∷ more.0, record { times = λ j. let t = more.1.times j in omega (arith, t) })

-- the first of a queue stands in front of it
pub first_taken : (line : List ℕ) (key : ℕ) (line_now : List ℕ) → 0 < length line → key ≡ slice_index line 0
    → line_now ≡ remove line 0 → AreReordered line (key ∷ line_now)
first_taken line key line_now some is others = λ k.
    ap (λ (n : ℕ). times_in k (n ∷ line_now)) is ∙ ap (λ (q : List ℕ). times_in k (slice_index line 0 ∷ q)) others
    ∙ times_taken k line 0 some

-- one that is queued behind the others stood in front of them
pub last_queued : (line : List ℕ) (key : ℕ) (line_now : List ℕ) → line_now ≡ line ++ key ∷ [] → AreReordered (key ∷ line) line_now
last_queued line key line_now queued = λ k. ap (λ (q : List ℕ). times_in k q) queued ∙ (queued_last key line).times k

-- ---- rounds

module _ {N : Type 0} (nodes : Nodes N) where
  pub stays_then : (a b c : Slab (TiedNode N)) (line_a line_b line_c : List ℕ) → StaysKept {N = N} nodes a line_a b line_b
      → StaysKept {N = N} nodes b line_b c line_c → StaysKept {N = N} nodes a line_a c line_c
  stays_then a b c line_a line_b line_c h k = λ t sizes f before s leaves sound kept.
      k t sizes f before s leaves sound (h t sizes f before s leaves sound kept)

  pub stays_reordered : (slab : Slab (TiedNode N)) (line line_now : List ℕ) → AreReordered line line_now
      → StaysKept {N = N} nodes slab line slab line_now
  stays_reordered slab line line_now same = λ t sizes f before s leaves sound k.
      round_requeued nodes t sizes f before s slab line line_now leaves same k

  -- the same, where the nodes are known to be the same
  pub stays_requeued : (slab slab_now : Slab (TiedNode N)) (line line_now : List ℕ) → slab_now ≡ slab → AreReordered line line_now
      → StaysKept {N = N} nodes slab line slab_now line_now
  stays_requeued slab slab_now line line_now e same =
      subst (λ (x : Slab (TiedNode N)). StaysKept {N = N} nodes slab line x line_now) (sym e)
      (stays_reordered slab line line_now same)

  pub turn_stays : (slab slab_now : Slab (TiedNode N)) (line line_now : List ℕ) (key : ℕ)
      → HasTurn {N = N} nodes slab line slab_now line_now key → StaysKept {N = N} nodes slab line slab_now (key ∷ line_now)
  turn_stays slab slab_now line line_now key turn = λ t sizes f before s leaves sound k. turn t sizes f before s leaves k

  pub stays_turned : (slab slab_mid slab_now : Slab (TiedNode N)) (line line_mid line_now : List ℕ) (key : ℕ)
      → HasTurn {N = N} nodes slab line slab_mid line_mid key
      → StaysKept {N = N} nodes slab_mid (key ∷ line_mid) slab_now (key ∷ line_now)
      → StaysKept {N = N} nodes slab line slab_now (key ∷ line_now)
  stays_turned slab slab_mid slab_now line line_mid line_now key turn stays = λ t sizes f before s leaves sound k.
      stays t sizes f before s leaves sound (turn t sizes f before s leaves k)

  pub some_stays : (tops : List Top) (slab slab_now : Slab (TiedNode N)) (line line_now leaves : List ℕ)
      → StaysKept {N = N} nodes slab line slab_now line_now → KeepsSome {N = N} nodes tops slab line leaves
      → KeepsSome {N = N} nodes tops slab_now line_now leaves
  some_stays tops slab slab_now line line_now leaves stays some = record {
    terms = some.terms;
    sizes = some.sizes;
    forest = some.forest;
    before = some.before;
    so_far = some.so_far;
    sound = some.sound;
    tops_are = some.tops_are;
    keeps = stays some.terms some.sizes some.forest some.before some.so_far leaves some.sound some.keeps;
  }

  -- ---- each key is queued once at most

  rests_once : (q e : ℕ) (st : Stack) (h : Held N) → Rests {N = N} nodes.due q e st h → q ≤ 1
  rests_once q e st h (Queued a b c d) = omega (arith, a)
  rests_once q e st h (AtLeaf act a b c d) = omega (arith, a)
  rests_once q e st h (Stalls count a b c d f) = omega (arith, a)

  match_once : (t : Terms) (tops lives : ℕ → Option Flying) (shelf : Shelf N) (queue leaves : List ℕ) (key : ℕ) (x : Option Flying)
      (h : Option (Held N)) → Matches {N = N} nodes t tops lives shelf queue leaves key x h → times_in key queue ≤ 1
  match_once t tops lives shelf queue leaves key None None p = omega (arith, p.0)
  match_once t tops lives shelf queue leaves key None (Some h) p = absurd p
  match_once t tops lives shelf queue leaves key (Some x) None p = absurd p
  match_once t tops lives shelf queue leaves key (Some x) (Some h) p =
      rests_once (times_in key queue) (times_in key leaves) x.stack h p.rests

  pub queued_once : (tops : List Top) (slab : Slab (TiedNode N)) (line leaves : List ℕ)
      → KeepsSome {N = N} nodes tops slab line leaves → (key : ℕ) → times_in key line ≤ 1
  queued_once tops slab line leaves some key =
      let k = some.keeps in
      match_once some.terms (top_at some.so_far.tops) (flying_at k.lives) (shelf_of {N = N} slab) line leaves key
      (flying_at k.lives key) (shelf_of {N = N} slab key) (k.still.kept.linked.each key)

  -- ---- a stage that goes on

  nothing_called : (s : SoFar) → with_calls s [] ≡ s
  nothing_called s = λ i. record {
    trees = s.trees;
    tops = s.tops;
    entries = append_none s.entries i;
    images = s.images;
    ops = s.ops;
    books = record {
      done = s.books.done;
      claimed = append_none s.books.claimed i;
      back = append_none s.books.back i;
    };
  }

  pub ahead_kept : GivesOwn {N = N} nodes → (slab slab_now : Slab (TiedNode N)) (key : ℕ) (e : TiedNode N) (node : N)
      → get slab key ≡ Some e
      → ((tops : List Top) (t : Terms) (st : Stack) → IsNow {N = N} nodes tops t e.node st
      → GoesOn {N = N} nodes nodes.gave t e.node st [] node) → nodes.due node
      → Updates slab slab_now key (Some (with_ties {N = N} node e.ties))
      → (line : List ℕ) → 0 < times_in key line → StaysKept {N = N} nodes slab line slab_now line
  ahead_kept owns slab slab_now key e node is moves due put line queued = λ t sizes f before s leaves sound k.
      let r = it_is_there nodes t sizes f before s slab line leaves key e k is in
      let more = beside key line queued in
      let right : AreRight t s.entries [] = record {
        claims = tt;
        lawful = subst (λ (cs : List Choice). AreLawful (sizes_of t.setting.tops) t.used cs)
            (r.entries_are ∙ sym (append_none s.entries)) r.kept.running.underway.lawful;
      } in
      subst (λ (now : SoFar). KeepsRound {N = N} nodes t sizes f before now slab_now line leaves) (nothing_called s)
      (round_goes_on nodes t sizes f before s slab slab_now line leaves key e owns sound r more.0 more.1 [] right node
      (moves t.setting.tops t r.node.stack (record { tops_are = refl; is = r.is; seated = r.seated })) due put)

-- ---- what is wanted

not_it : (key k : ℕ) (keys : List ℕ) → times_in key (k ∷ keys) ≡ 0 → k ≢ key
not_it key k keys none same =
    let one : bit (same_number k key) ≡ 1 = ap (λ (n : ℕ). bit (same_number n key)) same ∙ ap bit (number_itself key) in
    absurd (omega arith)

module _ {N A : Type 0} (fits : N → A → Type 0) (slab slab_now : Slab (TiedNode N)) (key : ℕ)
    (others : (k : ℕ) → k ≢ key → get slab_now k ≡ get slab k) where
  -- where another's stage was run, what was reckoned still is
  pub reckoned_others : (ws : List (Wanted A)) → times_in key (keys_wanted ws) ≡ 0 → AreReckoned {N = N} {A = A} fits slab ws
      → AreReckoned {N = N} {A = A} fits slab_now ws
  reckoned_others [] none h = tt
  reckoned_others (w ∷ ws) none h = (
    by w.ahead (others w.key (not_it key w.key (keys_wanted ws) none)) h.0,
    reckoned_others ws (omega arith) h.1,
  )
    where
      by : (ahead : Option A) → get slab_now w.key ≡ get slab w.key → IfSome ahead (FitsAt {N = N} {A = A} fits slab w.key)
          → IfSome ahead (FitsAt {N = N} {A = A} fits slab_now w.key)
      by None same p = p
      by (Some a) same p =
          subst (λ (o : Option (TiedNode N)). IfSome (node_in {N = N} o) (λ (node : N). fits node a)) (sym same) p
