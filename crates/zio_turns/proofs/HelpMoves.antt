-- Keys are gathered for a helper, and their stages are run by what it reckoned.
use Rattle.std.proofs.Common.{◌≡◌, ◌≢◌, ℕ, ◌+◌, ◌<◌, ◌≤◌, List, [], ◌∷◌, ◌++◌, length, length-append, take, drop, remove, slice_index, None, sym, ap, ◌∙◌, subst, arith}
use Rattle.std.proofs.Math.Seq.{take-append_seam}
use Rattle.std.proofs.lemmas.List.{length-map, map-append}
use Rattle.zio_types.specs.declared.place.Top.{Top}
use Rattle.zio_trace.specs.Keys.{bit}
use Rattle.zio_trace.specs.Labels.{same_number}
use Rattle.zio_trace.proofs.LabelLemmas.{number_itself}
use Rattle.zio_cksum.proofs.AllLemmas.{all_append}
use Rattle.slab.specs.Slab.{Slab, get}
use Rattle.zio_staged.specs.Entries.{times_in}
use Rattle.zio_staged.specs.Parts.{Nodes}
use Rattle.zio_turns.specs.Helping.{AreBlank, AreReckoned, AreReordered, StaysKept, keys_wanted}
use Rattle.zio_turns.specs.Rounds.{IsTurn, KeepsSome}
use Rattle.zio_turns.specs.Slabs.{AreAll, left_over, load}
use Rattle.zio_turns.specs.declared.entry.TiedNode.{TiedNode}
use Rattle.zio_turns.specs.declared.helper.Wanted.{Wanted}
use Rattle.zio_turns.proofs.Helps.{first_taken, last_queued, queued_once, reckoned_others, some_stays, stays_requeued, stays_then}
use Rattle.zio_turns.proofs.KeyTimes.{times_append}

keys_more : {A : Type 0} (ws : List (Wanted A)) (w : Wanted A) → keys_wanted (ws ++ w ∷ []) ≡ keys_wanted ws ++ w.key ∷ []
keys_more {A} ws w = map-append (λ (x : Wanted A). x.key) ws (w ∷ [])

-- a slice of all of them was changed in their place
pub written_back : {A : Type 0} (n : ℕ) (after before : List (Wanted A)) → n ≡ length before → keys_wanted after ≡ keys_wanted before
    → take n (after ++ drop (length after) before) ≡ after
written_back {A} n after before all keys =
    let one : length (keys_wanted after) ≡ length (keys_wanted before) = ap (λ (ks : List ℕ). length ks) keys in
    let two : length (keys_wanted after) ≡ length after = length-map after (λ (w : Wanted A). w.key) in
    let three : length (keys_wanted before) ≡ length before = length-map before (λ (w : Wanted A). w.key) in
    let same : n ≡ length after = omega (arith, all, one, two, three) in
    ap (λ (k : ℕ). take k (after ++ drop (length after) before)) same ∙ take-append_seam after (drop (length after) before)

-- ---- keys are gathered

-- the key whose turn it is and others of the queue, with what is left of that
pub record IsGathering {A : Type 0} (key : ℕ) (first_line : List ℕ) (ws : List (Wanted A)) (line : List ℕ) : Type 0 where
  pub further : List ℕ
  pub first : keys_wanted ws ≡ key ∷ further
  pub same : AreReordered (key ∷ first_line) (keys_wanted ws ++ line)
  pub len : length ws + length line ≡ length first_line + 1
  pub blank : AreBlank ws

module _ {A : Type 0} (key : ℕ) (first_line : List ℕ) (ws : List (Wanted A)) (line line_mid : List ℕ)
    (h : IsGathering {A = A} key first_line ws line) (next : ℕ) (some : 0 < length line) (is : next ≡ slice_index line 0)
    (others : line_mid ≡ remove line 0) (len : length line_mid + 1 ≡ length line) where
  -- one more
  pub gathering_more : (ws_now : List (Wanted A)) (w : Wanted A) → ws_now ≡ ws ++ w ∷ [] → w.key ≡ next → w.ahead ≡ None
      → IsGathering {A = A} key first_line ws_now line_mid
  gathering_more ws_now w more own none =
      let keys : keys_wanted ws_now ≡ keys_wanted ws ++ next ∷ [] =
      ap (λ (xs : List (Wanted A)). keys_wanted xs) more ∙ keys_more ws w ∙ ap (λ (k : ℕ). keys_wanted ws ++ k ∷ []) own in
      record {
        further = h.further ++ next ∷ [];
        first = keys ∙ ap (λ (ks : List ℕ). ks ++ next ∷ []) h.first;
        same = λ k.
            let now : times_in k (keys_wanted ws_now ++ line_mid) ≡ times_in k ((keys_wanted ws ++ next ∷ []) ++ line_mid) =
            ap (λ (ks : List ℕ). times_in k (ks ++ line_mid)) keys in
            let taken : times_in k (next ∷ line_mid) ≡ times_in k line = first_taken line next line_mid some is others k in
            let was : times_in k (keys_wanted ws ++ line) ≡ times_in k (key ∷ first_line) = h.same k in
            omega (
              arith,
              now,
              taken,
              was,
              times_append k (keys_wanted ws ++ next ∷ []) line_mid,
              times_append k (keys_wanted ws) (next ∷ []),
              times_append k (keys_wanted ws) line,
            );
        len =
            let e : length ws_now ≡ length (ws ++ w ∷ []) = ap (λ (xs : List (Wanted A)). length xs) more in
            let two = length-append ws (w ∷ []) in
            let was : length ws + length line ≡ length first_line + 1 = h.len in
            omega (arith, e, two, was, len);
        blank = subst (λ (xs : List (Wanted A)). AreBlank xs) (sym more)
            (all_append (λ (x : Wanted A). x.ahead ≡ None) ws (w ∷ []) h.blank (none, tt));
      }

  -- or it is queued again
  pub gathering_back : (line_now : List ℕ) → line_now ≡ line_mid ++ next ∷ [] → IsGathering {A = A} key first_line ws line_now
  gathering_back line_now back = record {
    further = h.further;
    first = h.first;
    same = λ k.
        let last : times_in k line_now ≡ times_in k (next ∷ line_mid) = last_queued line_mid next line_now back k in
        let taken : times_in k (next ∷ line_mid) ≡ times_in k line = first_taken line next line_mid some is others k in
        let was : times_in k (keys_wanted ws ++ line) ≡ times_in k (key ∷ first_line) = h.same k in
        omega (arith, last, taken, was, times_append k (keys_wanted ws) line_now, times_append k (keys_wanted ws) line);
    len =
        let e : length line_now ≡ length (line_mid ++ next ∷ []) = ap (λ (q : List ℕ). length q) back in
        let two = length-append line_mid (next ∷ []) in
        let was : length ws + length line ≡ length first_line + 1 = h.len in
        omega (arith, e, two, was, len);
    blank = h.blank;
  }

-- ---- their stages are run

module _ {N A : Type 0} (nodes : Nodes N) (over : List Top → N → Type 0) (fits : N → A → Type 0) where
  -- what a stage that is run by what was reckoned leaves of nodes
  pub record HasGoneAhead (at : ℕ) (slab slab_now : Slab (TiedNode N)) (line line_now : List ℕ) : Type 0 where
    pub kept : (queue : List ℕ) → 0 < times_in at queue → StaysKept {N = N} nodes slab queue slab_now queue
    pub others : (k : ℕ) → k ≢ at → get slab_now k ≡ get slab k
    pub over_still : (tops : List Top) → AreAll {N = N} (over tops) slab → AreAll {N = N} (over tops) slab_now
    pub line_same : line_now ≡ line
    pub less : load {N = N} nodes.left slab_now line_now ≤ load {N = N} nodes.left slab line

  -- of these nodes, whose keys are out of the queue
  pub record IsSettling (all : List (Wanted A)) (first : Slab (TiedNode N)) (first_line : List ℕ) (slab : Slab (TiedNode N))
      (line : List ℕ) (rest : List (Wanted A)) : Type 0 where
    pub kept : (front : List ℕ)
        → StaysKept {N = N} nodes first (front ++ (keys_wanted all ++ first_line)) slab (front ++ (keys_wanted rest ++ line))
    pub over_still : (tops : List Top) → AreAll {N = N} (over tops) first → AreAll {N = N} (over tops) slab
    pub reckoned : AreReckoned {N = N} {A = A} fits slab rest
    pub less : load {N = N} nodes.left slab line + length rest ≤ load {N = N} nodes.left first first_line + length all

  pub settling_goes : (all : List (Wanted A)) (first : Slab (TiedNode N)) (first_line : List ℕ) (slab slab_mid slab_now : Slab (TiedNode N))
      (line line_mid line_now : List ℕ) (ws : List (Wanted A)) (w : Wanted A) (rest : List (Wanted A)) (tops : List Top)
      (front leaves : List ℕ) → KeepsSome {N = N} nodes tops first (front ++ (keys_wanted all ++ first_line)) leaves
      → IsSettling all first first_line slab line ws → ws ≡ w ∷ rest → HasGoneAhead w.key slab slab_mid line line_mid
      → slab_now ≡ slab_mid → line_now ≡ line_mid ++ w.key ∷ [] → IsSettling all first first_line slab_now line_now rest
  settling_goes all first first_line slab slab_mid slab_now line line_mid line_now ws w rest tops front leaves some h is ahead same queued =
      let stays : (at : List ℕ) → StaysKept {N = N} nodes first (at ++ (keys_wanted all ++ first_line)) slab
      (at ++ (keys_wanted (w ∷ rest) ++ line)) = λ at.
      subst (λ (xs : List (Wanted A)). StaysKept {N = N} nodes first (at ++ (keys_wanted all ++ first_line)) slab
      (at ++ (keys_wanted xs ++ line))) is (h.kept at) in
      let itself : bit (same_number w.key w.key) ≡ 1 = ap bit (number_itself w.key) in
      let there : (at : List ℕ) → 0 < times_in w.key (at ++ (keys_wanted (w ∷ rest) ++ line)) = λ at.
      omega (arith, itself, times_append w.key at (keys_wanted (w ∷ rest) ++ line)) in
      let once : times_in w.key (front ++ (keys_wanted (w ∷ rest) ++ line)) ≤ 1 =
      queued_once nodes tops slab (front ++ (keys_wanted (w ∷ rest) ++ line)) leaves
      (some_stays nodes tops first slab (front ++ (keys_wanted all ++ first_line)) (front ++ (keys_wanted (w ∷ rest) ++ line)) leaves
      (stays front) some) w.key in
      let none : times_in w.key (keys_wanted rest) ≡ 0 =
      omega (
        arith,
        itself,
        once,
        times_append w.key front (keys_wanted (w ∷ rest) ++ line),
        times_append w.key (keys_wanted rest) line,
      ) in
      let line_is : line_now ≡ line ++ w.key ∷ [] = queued ∙ ap (λ (q : List ℕ). q ++ w.key ∷ []) ahead.line_same in
      let reordered : (at : List ℕ) → AreReordered (at ++ (keys_wanted (w ∷ rest) ++ line)) (at ++ (keys_wanted rest ++ line_now)) = λ at k.
      let last : times_in k line_now ≡ times_in k (w.key ∷ line) = last_queued line w.key line_now line_is k in
      omega (
        arith,
        last,
        times_append k at (keys_wanted (w ∷ rest) ++ line),
        times_append k at (keys_wanted rest ++ line_now),
        times_append k (keys_wanted rest) line_now,
        times_append k (keys_wanted rest) line,
      ) in
      record {
        kept = λ at. stays_then nodes first slab slab_now (at ++ (keys_wanted all ++ first_line))
            (at ++ (keys_wanted (w ∷ rest) ++ line)) (at ++ (keys_wanted rest ++ line_now)) (stays at)
            (stays_then nodes slab slab_mid slab_now (at ++ (keys_wanted (w ∷ rest) ++ line)) (at ++ (keys_wanted (w ∷ rest) ++ line))
            (at ++ (keys_wanted rest ++ line_now)) (ahead.kept (at ++ (keys_wanted (w ∷ rest) ++ line)) (there at))
            (stays_requeued nodes slab_mid slab_now (at ++ (keys_wanted (w ∷ rest) ++ line)) (at ++ (keys_wanted rest ++ line_now)) same
            (reordered at)));
        over_still = λ at all_over. subst (λ (x : Slab (TiedNode N)). AreAll {N = N} (over at) x) (sym same)
            (ahead.over_still at (h.over_still at all_over));
        reckoned = subst (λ (x : Slab (TiedNode N)). AreReckoned {N = N} {A = A} fits x rest) (sym same)
            (reckoned_others fits slab slab_mid w.key ahead.others rest none
            (subst (λ (xs : List (Wanted A)). AreReckoned {N = N} {A = A} fits slab xs) is h.reckoned).1);
        less =
            let e : left_over {N = N} nodes.left slab_now ≡ left_over {N = N} nodes.left slab_mid = ap (left_over {N = N} nodes.left) same in
            let one : length line_now ≡ length (line_mid ++ w.key ∷ []) = ap (λ (q : List ℕ). length q) queued in
            let two = length-append line_mid (w.key ∷ []) in
            let three : length ws ≡ length (w ∷ rest) = ap (λ (xs : List (Wanted A)). length xs) is in
            omega (arith, e, one, two, three, h.less, ahead.less);
      }

  -- nothing is left
  pub settling_ends : (all : List (Wanted A)) (first : Slab (TiedNode N)) (first_line : List ℕ) (slab : Slab (TiedNode N))
      (line : List ℕ) (ws : List (Wanted A)) → IsSettling all first first_line slab line ws → ws ≡ [] → (front : List ℕ)
      → StaysKept {N = N} nodes first (front ++ (keys_wanted all ++ first_line)) slab (front ++ line)
  settling_ends all first first_line slab line ws h none front =
      subst (λ (xs : List (Wanted A)). StaysKept {N = N} nodes first (front ++ (keys_wanted all ++ first_line)) slab
      (front ++ (keys_wanted xs ++ line))) none (h.kept front)

  -- ---- all of it

  -- What was gathered and reckoned, of which the first is the key's own. The nodes are as before.
  module _ (key : ℕ) (first slab : Slab (TiedNode N)) (first_line line : List ℕ) (before after rest : List (Wanted A)) (own : Wanted A)
      (same : slab ≡ first) (further : (more : List ℕ) × (keys_wanted before ≡ key ∷ more))
      (reordered : AreReordered (key ∷ first_line) (keys_wanted before ++ line)) (keys : keys_wanted after ≡ keys_wanted before)
      (is : after ≡ own ∷ rest) (tops : List Top) (turn : IsTurn {N = N} nodes over tops first first_line key) where
    keys_are : own.key ∷ keys_wanted rest ≡ key ∷ further.0
    keys_are = ap (λ (xs : List (Wanted A)). keys_wanted xs) (sym is) ∙ keys ∙ further.1

    pub own_key : own.key ≡ key
    own_key = let e = keys_are in cc

    queue_is : keys_wanted before ≡ key ∷ keys_wanted rest
    queue_is =
        sym (ap (λ (xs : List (Wanted A)). keys_wanted xs) (sym is) ∙ keys) ∙ ap (λ (k : ℕ). k ∷ keys_wanted rest) own_key

    gathered_stays : StaysKept {N = N} nodes first (key ∷ first_line) slab (key ∷ (keys_wanted rest ++ line))
    gathered_stays =
        stays_requeued nodes first slab (key ∷ first_line) (key ∷ (keys_wanted rest ++ line)) same
        (subst (λ (ks : List ℕ). AreReordered (key ∷ first_line) (ks ++ line)) queue_is reordered)

    module _ (slab_now : Slab (TiedNode N)) (line_now : List ℕ) (ahead : HasGoneAhead key slab slab_now line line_now) where
      abbrev Queue : List ℕ
      Queue = key ∷ (keys_wanted rest ++ line_now)

      own_stays : StaysKept {N = N} nodes first (key ∷ first_line) slab_now Queue
      own_stays =
          let itself : bit (same_number key key) ≡ 1 = ap bit (number_itself key) in
          let there : 0 < times_in key Queue = omega (arith, itself) in
          stays_then nodes first slab slab_now (key ∷ first_line) Queue Queue
          (subst (λ (q : List ℕ). StaysKept {N = N} nodes first (key ∷ first_line) slab (key ∷ (keys_wanted rest ++ q)))
          (sym ahead.line_same) gathered_stays) (ahead.kept Queue there)

      pub own_keeps : KeepsSome {N = N} nodes tops slab_now Queue turn.leaves
      own_keeps = some_stays nodes tops first slab_now (key ∷ first_line) Queue turn.leaves own_stays turn.keeps

      pub rest_reckoned : AreReckoned {N = N} {A = A} fits slab after → AreReckoned {N = N} {A = A} fits slab_now rest
      rest_reckoned h =
          let itself : bit (same_number key key) ≡ 1 = ap bit (number_itself key) in
          let once : times_in key Queue ≤ 1 = queued_once nodes tops slab_now Queue turn.leaves own_keeps key in
          let none : times_in key (keys_wanted rest) ≡ 0 = omega (arith, itself, once, times_append key (keys_wanted rest) line_now) in
          reckoned_others fits slab slab_now key ahead.others rest none
          (subst (λ (xs : List (Wanted A)). AreReckoned {N = N} {A = A} fits slab xs) is h).1

      pub helped_kept : (slab_then : Slab (TiedNode N)) (line_then : List ℕ)
          → ((front : List ℕ) → StaysKept {N = N} nodes slab_now (front ++ (keys_wanted rest ++ line_now)) slab_then (front ++ line_then))
          → StaysKept {N = N} nodes first (key ∷ first_line) slab_then (key ∷ line_then)
      helped_kept slab_then line_then stays =
          stays_then nodes first slab_now slab_then (key ∷ first_line) Queue (key ∷ line_then) own_stays (stays (key ∷ []))

      pub helped_less : (slab_then : Slab (TiedNode N)) (line_then : List ℕ) → length before + length line ≡ length first_line + 1
          → load {N = N} nodes.left slab_then line_then ≤ load {N = N} nodes.left slab_now line_now + length rest
          → load {N = N} nodes.left slab_then line_then ≤ load {N = N} nodes.left first first_line
      helped_less slab_then line_then len less =
          let e : left_over {N = N} nodes.left slab ≡ left_over {N = N} nodes.left first = ap (left_over {N = N} nodes.left) same in
          let one : length (keys_wanted before) ≡ length (key ∷ keys_wanted rest) = ap (λ (ks : List ℕ). length ks) queue_is in
          let two : length (keys_wanted before) ≡ length before = length-map before (λ (w : Wanted A). w.key) in
          let three : length (keys_wanted rest) ≡ length rest = length-map rest (λ (w : Wanted A). w.key) in
          omega (arith, e, one, two, three, len, less, ahead.less)
