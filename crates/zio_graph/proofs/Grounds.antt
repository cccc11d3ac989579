-- The grounds of an engine between two rounds, as it is made and as a round begins.
use Rattle.std.specs.Prelude.{◌^◌}
use Rattle.std.proofs.Common.{◌≡◌, ℕ, ◌≤◌, List, [], ◌∷◌, length, map, replicate, true, ◌&&◌, Bool, IsTrue, refl, sym, ap, ◌∙◌, subst, arith}
use Rattle.std.specs.List.{AllByRecursion, list_all}
use Rattle.std.proofs.lemmas.List.{length-map, length-replicate}
use Rattle.zio_types.specs.declared.place.Place.{Place}
use Rattle.zio_types.specs.declared.place.Top.{Top}
use Rattle.zio_types.specs.Places.{is_inside, is_lawful_top}
use Rattle.zio_places.specs.Spaces.{SpaceState}
use Rattle.zio_cksum.specs.Images.{Setting}
use Rattle.zio_gang.specs.Trees.{size_of, sizes_of}
use Rattle.zio_groups.specs.LeafQueues.{Waits}
use Rattle.zio_disks.specs.Trees.{HasSectors}
use Rattle.zio_blocks.specs.Blocks.{HavePointers}
use Rattle.zio_trace.specs.Separate.{LeavesOnce}
use Rattle.zio_trace.specs.SoundRounds.{LeavesDiffer}
use Rattle.zio_cksum.proofs.AllLemmas.{all_weaker}
use Rattle.zio_stages.specs.Tops.{AreTops, IsTop}
use Rattle.zio_turns.specs.AtLeaves.{keys_at, no_waits}
use Rattle.zio_turns.specs.Grounds.{AreReady}
use Rattle.zio_turns.specs.Ledgers.{AreOnce}
use Rattle.zio_turns.specs.ShortTops.{AreShort}
use Rattle.zio_turns.specs.declared.grounds.Grounds.{Grounds}
use Rattle.zio_turns.proofs.KeyTimes.{none_wait}
use Rattle.zio_graph.specs.Graphs.{AreReadyGrounds, CanRun}
use Rattle.zio_graph.specs.SteadyGrounds.{IsSteadyGrounds}

-- ---- made

lawful_all : (tops : List Top) → AllByRecursion (λ (top : Top). IsTrue (is_lawful_top (size_of top))) tops
    → list_all is_lawful_top (sizes_of tops) ≡ true
lawful_all [] h = refl
lawful_all (top ∷ tops) h =
    let first : is_lawful_top (size_of top) ≡ true = h.0 in
    ap (λ (b : Bool). b && list_all is_lawful_top (sizes_of tops)) first ∙ lawful_all tops h.1

pub lawful_tops : (tops : List Top) (s : Setting) → tops ≡ s.tops → (sizes : List ℕ) → CanRun s sizes
    → list_all is_lawful_top (sizes_of tops) ≡ true
lawful_tops tops s is sizes can = lawful_all tops
    (subst (λ (ts : List Top). AllByRecursion (λ (top : Top). IsTrue (is_lawful_top (size_of top))) ts)
    (sym is) can.pointers.lawful)

none_once : AreOnce []
none_once = λ p. omega arith

-- grounds as they are made over disks, all of whose tops are free
pub record AreNew {D : Type 0} (bytes : D → ℕ) (s : Setting) (disks : List D) (tops : List Top) (g : Grounds D) : Type 0 where
  pub setting : g.setting ≡ s
  pub disks_are : g.disks.items ≡ disks
  pub tops_are : g.desk.tops ≡ tops
  pub space : g.desk.space ≡ record { sizes = sizes_of tops; live = []; pending = []; entries = []; spare = 0 }
  pub leaves : g.queues.leaves.items ≡ replicate (length disks) no_waits
  pub ready : AreReady g.setting.rows (map bytes g.disks.items) g.queues.leaves.items

pub new_ready : {D : Type 0} (bytes : D → ℕ) (s : Setting) (disks : List D) (tops : List Top) (g : Grounds D) → tops ≡ s.tops
    → CanRun s (map bytes disks) → AreNew {D = D} bytes s disks tops g → AreReadyGrounds {D = D} bytes g
new_ready {D} bytes s disks tops g is can new =
    let to : s.tops ≡ g.setting.tops = ap (λ (x : Setting). x.tops) (sym new.setting) in
    let sizes : map bytes disks ≡ map bytes g.disks.items = ap (map bytes) (sym new.disks_are) in
    let live : [] ≡ g.desk.space.live = ap (λ (st : SpaceState). st.live) (sym new.space) in
    record {
      steady = record {
        tops_are = new.tops_are ∙ is ∙ to;
        sizes_are = ap (λ (st : SpaceState). st.sizes) new.space ∙ ap (λ (ts : List Top). sizes_of ts) (is ∙ to);
        none_pending = ap (λ (st : SpaceState). st.pending) new.space;
        none_made = ap (λ (st : SpaceState). st.entries) new.space;
        inside = subst (AllByRecursion (λ (p : Place). IsTrue (is_inside (sizes_of g.setting.tops) p))) live tt;
        once = subst AreOnce live none_once;
        ready = new.ready;
        none_waits = ap keys_at new.leaves ∙ none_wait (length disks);
        each = ap (λ (ls : List Waits). length ls) new.leaves ∙ length-replicate (length disks) no_waits
            ∙ ap (λ (ds : List D). length ds) (sym new.disks_are);
        leaves_once = subst LeavesOnce to can.leaves_once;
        leaves_differ = subst LeavesDiffer to can.leaves_differ;
        bears = subst (λ (ts : List Top). AllByRecursion (HasSectors (map bytes g.disks.items)) ts) to
            (subst (λ (ns : List ℕ). AllByRecursion (HasSectors ns) s.tops) sizes can.bears.tops);
        short = subst AreShort to (all_weaker IsTop (λ (top : Top). top.sectors ≤ 2 ^ 39) s.tops (λ top h. h.sectors) can.tops.each);
        pointers = subst HavePointers to can.pointers;
      };
      tops = subst AreTops to can.tops;
    }

-- ---- at a round's begin

-- they have another resume point
pub record HavePoint {D : Type 0} (point : ℕ) (old new : Grounds D) : Type 0 where
  pub setting : new.setting ≡ record { tops = old.setting.tops; rows = old.setting.rows; point = point }
  pub disks : new.disks ≡ old.disks
  pub desk : new.desk ≡ old.desk
  pub queues : new.queues ≡ old.queues

pub begun_ready : {D : Type 0} (bytes : D → ℕ) (point : ℕ) (old new : Grounds D) → HavePoint {D = D} point old new
    → AreReadyGrounds {D = D} bytes old → AreReadyGrounds {D = D} bytes new
begun_ready {D} bytes point old new b h =
    let begun : Grounds D = record {
      alloc = new.alloc;
      setting = record { tops = old.setting.tops; rows = old.setting.rows; point = point };
      disks = old.disks;
      desk = old.desk;
      queues = old.queues;
    } in
    let same : new ≡ begun = (λ i. record {
      alloc = new.alloc;
      setting = b.setting i;
      disks = b.disks i;
      desk = b.desk i;
      queues = b.queues i;
    }) in
    let s : IsSteadyGrounds {D = D} bytes old = h.steady in
    let steady : IsSteadyGrounds {D = D} bytes begun = record {
      tops_are = s.tops_are;
      sizes_are = s.sizes_are;
      none_pending = s.none_pending;
      none_made = s.none_made;
      inside = s.inside;
      once = s.once;
      ready = s.ready;
      none_waits = s.none_waits;
      each = s.each;
      leaves_once = s.leaves_once;
      leaves_differ = s.leaves_differ;
      bears = s.bears;
      short = s.short;
      pointers = s.pointers;
    } in
    subst (AreReadyGrounds {D = D} bytes) (sym same) (record { steady = steady; tops = h.tops })

-- ---- flushed

-- disks of the sizes that they had, and all else as it was
pub record HaveFlushed {D : Type 0} (bytes : D → ℕ) (old new : Grounds D) : Type 0 where
  pub setting : new.setting ≡ old.setting
  pub sizes : map bytes new.disks.items ≡ map bytes old.disks.items
  pub desk : new.desk ≡ old.desk
  pub queues : new.queues ≡ old.queues

pub flushed_ready : {D : Type 0} (bytes : D → ℕ) (old new : Grounds D) → HaveFlushed {D = D} bytes old new
    → AreReadyGrounds {D = D} bytes old → AreReadyGrounds {D = D} bytes new
flushed_ready {D} bytes old new f h =
    let flushed : Grounds D = record { alloc = new.alloc; setting = old.setting; disks = new.disks; desk = old.desk; queues = old.queues } in
    let same : new ≡ flushed = (λ i. record { alloc = new.alloc; setting = f.setting i; disks = new.disks; desk = f.desk i; queues = f.queues i }) in
    let s : IsSteadyGrounds {D = D} bytes old = h.steady in
    let many : length new.disks.items ≡ length old.disks.items =
    sym (length-map new.disks.items bytes) ∙ (ap (λ (ns : List ℕ). length ns) f.sizes ∙ length-map old.disks.items bytes) in
    let steady : IsSteadyGrounds {D = D} bytes flushed = record {
      tops_are = s.tops_are;
      sizes_are = s.sizes_are;
      none_pending = s.none_pending;
      none_made = s.none_made;
      inside = s.inside;
      once = s.once;
      ready = subst (λ (ns : List ℕ). AreReady old.setting.rows ns old.queues.leaves.items) (sym f.sizes) s.ready;
      none_waits = s.none_waits;
      each = s.each ∙ sym many;
      leaves_once = s.leaves_once;
      leaves_differ = s.leaves_differ;
      bears = subst (λ (ns : List ℕ). AllByRecursion (HasSectors ns) old.setting.tops) (sym f.sizes) s.bears;
      short = s.short;
      pointers = s.pointers;
    } in
    subst (AreReadyGrounds {D = D} bytes) (sym same) (record { steady = steady; tops = h.tops })
