-- The grounds are steady again once a round is over and ended.
use Rattle.std.proofs.Common.{◌≡◌, ℕ, List, [], ◌∷◌, ◌++◌, length, map, Option, Some, None, IsTrue, refl, sym, ap, ◌∙◌, subst, arith}
use Rattle.std.specs.Prelude.{Contains}
use Rattle.std.specs.List.{AllByRecursion}
use Rattle.std.proofs.lemmas.List.Elements.{Contains-append_left}
use Rattle.zio_types.specs.declared.place.Place.{Place}
use Rattle.zio_types.specs.declared.place.Top.{Top}
use Rattle.zio_types.specs.Choices.{Choice}
use Rattle.zio_types.specs.Places.{is_inside}
use Rattle.zio_places.specs.Ordered.{is_same_place}
use Rattle.zio_places.specs.Spaces.{SpaceState}
use Rattle.zio_places.specs.Tables.{one_if}
use Rattle.zio_places.proofs.PlaceLemmas.{contains-same, total-append}
use Rattle.zio_cksum.specs.Images.{Setting}
use Rattle.zio_cksum.proofs.AllLemmas.{all_append, all_contained, all_contains, all_weaker}
use Rattle.zio_gang.specs.Attempts.{Terms}
use Rattle.zio_gang.specs.Trees.{sizes_of}
use Rattle.zio_groups.specs.LeafQueues.{Waits}
use Rattle.zio_script.specs.declared.script.Failmode.{Failmode}
use Rattle.zio_trace.specs.Families.{Forest}
use Rattle.zio_trace.specs.Keys.{bit}
use Rattle.zio_trace.specs.Separate.{LeavesOnce}
use Rattle.zio_trace.specs.SoundRounds.{LeavesDiffer}
use Rattle.zio_trace.proofs.LabelLemmas.{number_itself}
use Rattle.zio_disks.specs.Trees.{HasSectors}
use Rattle.zio_blocks.specs.Blocks.{HavePointers}
use Rattle.zio_frames.specs.Frames.{Flying}
use Rattle.slab.specs.Slab.{Slab}
use Rattle.zio_exchange.specs.declared.outcome.FinishedRequest.{FinishedRequest}
use Rattle.zio_turns.specs.AtLeaves.{keys_at}
use Rattle.zio_turns.specs.Desks.{IsDeskAt}
use Rattle.zio_turns.specs.Engine.{Matches}
use Rattle.zio_staged.specs.Entries.{Held, Shelf, flying_at, times_in, top_at}
use Rattle.zio_turns.specs.Grounds.{AreReady}
use Rattle.zio_turns.specs.Ledgers.{AreOnce, found_so_far}
use Rattle.zio_staged.specs.Parts.{Nodes}
use Rattle.zio_turns.specs.Rounds.{Before, KeepsRound, SoFar}
use Rattle.zio_turns.specs.Slabs.{shelf_of}
use Rattle.zio_turns.specs.UnderTrees.{IsOver}
use Rattle.zio_turns.specs.declared.entry.TiedNode.{TiedNode}
use Rattle.zio_turns.specs.declared.grounds.Grounds.{Grounds}
use Rattle.zio_turns.specs.declared.trees.TreeState.{TreeState}
use Rattle.zio_turns.proofs.OpenCounts.{found_inside}
use Rattle.zio_turns.proofs.PlaceTotals.{totals_moved}
use Rattle.zio_turns.proofs.RoundOver.{found_once}
use Rattle.zio_turns.specs.ShortTops.{AreShort}
use Rattle.zio_graph.specs.Jobs.{size_at}
use Rattle.zio_graph.specs.SteadyGrounds.{IsSteadyGrounds, terms_on}
use Rattle.zio_graph.specs.WholeRounds.{HasEnded}

-- ---- nothing waits

no_keys : (keys : List ℕ) → ((key : ℕ) → times_in key keys ≡ 0) → keys ≡ []
no_keys [] none = refl
no_keys (k ∷ ks) none = absurd (let itself = ap bit (number_itself k) in let here = none k in omega arith)

module _ {N : Type 0} (nodes : Nodes N) (t : Terms) (tops lives : ℕ → Option Flying) (shelf : Shelf N) (queue leaves : List ℕ)
    (key : ℕ) where
  none_held : (h : Option (Held N)) → Matches {N = N} nodes t tops lives shelf queue leaves key None h → h ≡ None
  none_held None m = refl
  none_held (Some h) m = absurd m

  none_there : (o : Option Flying) (h : Option (Held N)) → h ≡ None
      → Matches {N = N} nodes t tops lives shelf queue leaves key o h
      → times_in key leaves ≡ 0
  none_there None None none m = m.1
  none_there None (Some h) none m = absurd m
  none_there (Some x) None none m = absurd m
  none_there (Some x) (Some h) none m = absurd (cc)

over_waits : {N : Type 0} (nodes : Nodes N) (t : Terms) (sizes : ℕ → ℕ) (f : Forest) (before : Before) (s : SoFar)
    (slab : Slab (TiedNode N))
    (line leaves : List ℕ) → KeepsRound {N = N} nodes t sizes f before s slab line leaves
    → IsOver {N = N} nodes t sizes f before s slab
    → leaves ≡ []
over_waits {N} nodes t sizes f before s slab line leaves keeps over = no_keys leaves (λ key.
    let shelf : Shelf N = shelf_of {N = N} slab in
    let empty : shelf key ≡ None =
    none_held {N = N} nodes t (top_at s.tops) (flying_at []) shelf [] [] key (shelf key) (over.kept.linked.each key) in
    none_there {N = N} nodes t (top_at s.tops) (flying_at keeps.lives) shelf line leaves key (flying_at keeps.lives key)
    (shelf key) empty
    (keeps.still.kept.linked.each key))

-- ---- what is in use

abbrev IsIn : List Top → Place → Type 0
IsIn tops p = IsTrue (is_inside (sizes_of tops) p)

module _ (t : Terms) (entries : List Choice) (claimed back : List Place) (tops : List Top) (st : SpaceState)
    (desk : IsDeskAt t entries claimed back tops st) where
  live_once : AreOnce (t.used ++ found_so_far entries claimed) → AreOnce st.live
  live_once once = λ p.
      let w : Place → ℕ = λ q. one_if (is_same_place p q) in
      omega (
        arith,
        once p,
        total-append w st.live st.pending,
        totals_moved (st.live ++ st.pending) (t.used ++ found_so_far entries claimed) desk.live w,
      )

  live_inside : AllByRecursion (IsIn t.setting.tops) t.used → AllByRecursion (IsIn t.setting.tops) st.live
  live_inside inside =
      all_weaker (Contains st.live) (IsIn t.setting.tops) st.live
      (λ p c. all_contains (IsIn t.setting.tops) (t.used ++ found_so_far entries claimed) p
      (all_append (IsIn t.setting.tops) t.used (found_so_far entries claimed) inside
      (found_inside t entries claimed back tops st desk))
      (contains-same (st.live ++ st.pending) (t.used ++ found_so_far entries claimed)
      (totals_moved (st.live ++ st.pending) (t.used ++ found_so_far entries claimed) desk.live) p
      (Contains-append_left st.live st.pending p c)))
      (all_contained st.live)

-- ---- all of it

-- what ending a round leaves
pub record HasClosed {D : Type 0} (old new : Grounds D) : Type 0 where
  pub space : new.desk.space ≡ record old.desk.space { pending = []; entries = []; spare = 0 }
  pub tops : new.desk.tops ≡ old.desk.tops
  pub setting : new.setting ≡ old.setting
  pub disks : new.disks.items ≡ old.disks.items
  pub queues : new.queues.leaves.items ≡ old.queues.leaves.items

pub still_steady : {N D : Type 0} (nodes : Nodes N) (bytes : D → ℕ) (image : D → List ℕ → Type 0) (g now last : Grounds D)
    (round : ℕ)
    (failmode : Failmode) (f : Forest) (before : Before) (states : List TreeState) (ended : List FinishedRequest)
    → IsSteadyGrounds {D = D} bytes g
    → HasEnded {N = N} {D = D} nodes bytes image (terms_on g failmode round)
    (size_at (map bytes g.disks.items)) f before now round failmode
    states ended
    → now.setting ≡ g.setting → map bytes now.disks.items ≡ map bytes g.disks.items → HasClosed {D = D} now last
    → IsSteadyGrounds {D = D} bytes last
still_steady {N} {D} nodes bytes image g now last round failmode f before states ended steady h kept sizes closed =
    let t : Terms = terms_on g failmode round in
    let lent = h.runs.going.lent in
    let setting : last.setting ≡ g.setting = closed.setting ∙ kept in
    let same : map bytes last.disks.items ≡ map bytes g.disks.items = ap (map bytes) closed.disks ∙ sizes in
    let tops : g.setting.tops ≡ last.setting.tops = ap (λ (s : Setting). s.tops) (sym setting) in
    let live : now.desk.space.live ≡ last.desk.space.live = ap (λ (st : SpaceState). st.live) (sym closed.space) in
    record {
      tops_are = closed.tops ∙ (lent.desk.desk.tops_are ∙ tops);
      sizes_are = ap (λ (st : SpaceState). st.sizes) closed.space ∙
          (lent.desk.desk.sizes_are ∙ ap (λ (ts : List Top). sizes_of ts) tops);
      none_pending = ap (λ (st : SpaceState). st.pending) closed.space;
      none_made = ap (λ (st : SpaceState). st.entries) closed.space;
      inside = subst (λ (ts : List Top). AllByRecursion (IsIn ts) last.desk.space.live) tops
          (subst (AllByRecursion (IsIn g.setting.tops)) live
          (live_inside t h.now.entries h.now.books.claimed h.now.books.back now.desk.tops now.desk.space lent.desk
          steady.inside));
      once = subst AreOnce live
          (live_once t h.now.entries h.now.books.claimed h.now.books.back now.desk.tops now.desk.space lent.desk
          (found_once t h.now now.desk.tops now.desk.space lent.desk steady.once));
      ready = subst (λ (s : Setting). AreReady s.rows (map bytes last.disks.items) last.queues.leaves.items) (sym closed.setting)
          (subst (λ (ds : List D). AreReady now.setting.rows (map bytes ds) last.queues.leaves.items) (sym closed.disks)
          (subst (AreReady now.setting.rows (map bytes now.disks.items)) (sym closed.queues) lent.ready));
      none_waits = ap keys_at closed.queues
          ∙ over_waits {N = N} nodes t (size_at (map bytes g.disks.items)) f before h.now h.slab h.line
          (keys_at now.queues.leaves.items)
          h.runs.going.keeps h.over;
      each = ap (λ (ls : List Waits). length ls) closed.queues ∙ (lent.each ∙ sym (ap (λ (ds : List D). length ds) closed.disks));
      leaves_once = subst LeavesOnce tops steady.leaves_once;
      leaves_differ = subst LeavesDiffer tops steady.leaves_differ;
      bears = subst (λ (ts : List Top). AllByRecursion (HasSectors (map bytes last.disks.items)) ts) tops
          (subst (λ (ns : List ℕ). AllByRecursion (HasSectors ns) g.setting.tops) (sym same) steady.bears);
      short = subst AreShort tops steady.short;
      pointers = subst HavePointers tops steady.pointers;
    }
