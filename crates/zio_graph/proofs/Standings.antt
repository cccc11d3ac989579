-- What is known of an engine, and of its grounds alone in a round.
use Rattle.std.proofs.Common.{◌≡◌, ℕ, ◌+◌, ◌≤◌, List, length, map, true, false, IsTrue, refl, sym, ap, ◌∙◌, subst, arith}
use Rattle.std.specs.List.{AllByRecursion}
use Rattle.std.specs.Prelude.{◌%◌, ◌==◌}
use Rattle.std.proofs.lemmas.Bool.{and_parts}
use Rattle.std.proofs.lemmas.List.{map-id}
use Rattle.zio_types.specs.declared.place.Top.{Top}
use Rattle.zio_outside.specs.declared.written.Written.{Written}
use Rattle.zio_types.specs.Places.{is_lawful_top, is_unit}
use Rattle.zio_blkptr.specs.declared.pointer.TheConstants.{BLOCK_SIZE_MAX}
use Rattle.zio_script.specs.declared.script.Failmode.{Failmode}
use Rattle.zio_script.specs.declared.script.Work.{Work}
use Rattle.zio_script.specs.declared.script.Work.TheVariants.{Null, Read, Write, Free, Claim}
use Rattle.zio_script.specs.Requests.{kind_of}
use Rattle.zio_script.specs.Whys.{is_write, size_with}
use Rattle.zio_cksum.specs.Images.{Images, Setting}
use Rattle.zio_cksum.proofs.AllLemmas.{all_weaker}
use Rattle.zio_gang.specs.Attempts.{Pending}
use Rattle.zio_gang.specs.Trees.{size_of}
use Rattle.zio_disks.specs.Disks.{Tell}
use Rattle.zio_blocks.specs.Blocks.{HavePointers}
use Rattle.zio_course.specs.declared.runner.RoundEnd.{RoundEnd}
use Rattle.zio_course.specs.Runners.{AreRunnable, DiffersInRound, IsRound, IsRoundEnd, SeenEnd, Standing, StandsAfter, StoppedAfter, ended_seen, terms_at}
use Rattle.zio_exchange.specs.Waits.{pendings}
use Rattle.zio_exchange.specs.declared.waiting.UnfinishedRequest.{UnfinishedRequest}
use Rattle.zio_stages.specs.PartWorks.{HaveUnits}
use Rattle.zio_exchange.specs.declared.outcome.FinishedRequest.{FinishedRequest}
use Rattle.zio_nodes.specs.TreeAts.{IsRequestInside, IsTreeOver}
use Rattle.zio_turns.specs.Wrote.{Wrote}
use Rattle.zio_turns.specs.declared.grounds.Grounds.{Grounds}
use Rattle.zio_graph.specs.Crashes.{MayWrite, SparesAll}
use Rattle.zio_graph.specs.Ends.{told_of}
use Rattle.zio_graph.specs.EngineTrees.{IsWithinLimits}
use Rattle.zio_graph.specs.Graphs.{SeenGraph, standing_of}
use Rattle.zio_graph.specs.InUse.{LeavesInUse}
use Rattle.zio_graph.specs.SteadyGrounds.{standing_on}
use Rattle.zio_graph.specs.WholeRounds.{TellLoose}

-- ---- trees that lie on the tops

small_so : (work : Work) (n : ℕ)
    → (is_write (kind_of work) ≡ true → size_with n work ≤ BLOCK_SIZE_MAX) → size_with n work ≤ BLOCK_SIZE_MAX
small_so Null n h = omega arith
small_so (Read name prio) n h = omega arith
small_so (Write name sum copies prio body) n h = h refl
small_so (Free name) n h = omega arith
small_so (Claim name pointer) n h = omega arith

-- they are within their limits
pub over_within : (tops : List Top) (whole : List UnfinishedRequest) → IsTreeOver tops whole → AllByRecursion IsWithinLimits whole
over_within tops whole over = all_weaker (IsRequestInside tops) IsWithinLimits whole
    (λ w h. record {
      size = small_so w.request.work (w.unfinished + length w.kept) (λ write. (h.sound.write write).size);
      alone = h.sound.alone;
      pointers = h.kept;
    }) over.each

lawful_unit : (top : Top) → IsTrue (is_lawful_top (size_of top)) → IsTrue (is_unit top.unit)
lawful_unit top h = (and_parts (is_unit top.unit) (top.sectors % top.unit == 0) h).0

pub have_units : (tops : List Top) → HavePointers tops → HaveUnits tops
have_units tops h =
    all_weaker (λ (top : Top). IsTrue (is_lawful_top (size_of top)))
    (λ (top : Top). IsTrue (is_unit top.unit)) tops lawful_unit h.lawful

-- ---- the number of the last round is no part of a round

abbrev pub idle : Standing → Standing
idle s = record { tops = s.tops; rows = s.rows; live = s.live; last = 0; stopped = false; faults = s.faults }

idle_runs : (s : Standing) (trees : List (List Pending)) → AreRunnable s trees → AreRunnable (idle s) trees
idle_runs s trees h = record {
  each = h.each;
  rising = h.rising;
  once = h.once;
  apart = h.apart;
  claim = h.claim;
  live = h.live;
  under = h.under;
  own = h.own;
  between = h.between;
}

idle_ends : (s : Standing) (round : ℕ) (trees : List (List Pending)) (end : SeenEnd)
    → IsRoundEnd (idle s) round trees end → IsRoundEnd s round trees end
idle_ends s round trees end h = record {
  each = h.each;
  rests = h.rests;
  claims = h.claims;
  rising = h.rising;
  reads = h.reads;
  sectors = h.sectors;
  makers = h.makers;
  inside = h.inside;
  free = h.free;
  completed = h.completed;
  all_completed = h.all_completed;
  once = h.once;
  after_children = h.after_children;
  keys = h.keys;
}

-- ---- a round over the grounds is one of the engine

-- a round's end, with the trees that are left as they stand between rounds
pub record IsSeenEnd (e : RoundEnd (List UnfinishedRequest) FinishedRequest) (end : RoundEnd (List Pending) FinishedRequest) : Type 0 where
  pub finished : end.finished ≡ e.finished
  pub left : end.left ≡ map pendings e.left
  pub completions : end.completions ≡ e.completions
  pub entries : end.entries ≡ e.entries

abbrev pub as_trees : List (List Pending) → List (List Pending)
as_trees trees = map (λ (tree : List Pending). tree) trees

seen_same : (e : RoundEnd (List UnfinishedRequest) FinishedRequest) (end : RoundEnd (List Pending) FinishedRequest) → IsSeenEnd e end
    → ended_seen pendings told_of e ≡ ended_seen (λ (tree : List Pending). tree) told_of end
seen_same e end h =
    let left : map pendings e.left ≡ as_trees end.left = sym h.left ∙ sym (map-id end.left) in
    let finished = ap (map told_of) (sym h.finished) in
    let completions = sym h.completions in
    let entries = sym h.entries in
    λ i. record { finished = finished i; left = left i; completions = completions i; entries = entries i }

-- a round in the runner's words, where images are told
abbrev pub RunsAs : {D : Type 0} → (D → List ℕ → Type 0) → Standing → Failmode → ℕ → ℕ → List (List Pending) → List D → List D
    → SeenEnd → Type 0
RunsAs {D = D} image s failmode round point trees old new end =
    (before : Images) → Tell {D = D} image old before → (after : Images)
    × Tell {D = D} image new after × IsRound (terms_at s failmode round point) trees before after end
    × DiffersInRound s trees before after

-- the grounds are those of the engine, with the round's resume point
pub record HasBegun {D : Type 0} (p : SeenGraph D) (point : ℕ) (g : Grounds D) : Type 0 where
  pub setting : g.setting ≡ record { tops = p.setting.tops; rows = p.setting.rows; point = point }
  pub live : g.desk.space.live ≡ p.live
  pub disks : g.disks.items ≡ p.disks

module _ {D : Type 0} (faults : D → ℕ) (image : D → List ℕ → Type 0) (p : SeenGraph D) (point : ℕ) (g : Grounds D)
    (b : HasBegun {D = D} p point g) where
  known : standing_on faults g ≡ idle (standing_of faults p)
  known = λ i. record {
    tops = (b.setting i).tops;
    rows = (b.setting i).rows;
    live = b.live i;
    last = 0;
    stopped = false;
    faults = map faults (b.disks i);
  }

  pub stopped_seen : (round : ℕ) (now : Grounds D) → now.setting ≡ g.setting
      → StoppedAfter (standing_of faults p)
      (standing_of {D = D} faults (record {
        setting = now.setting;
        disks = now.disks.items;
        live = now.desk.space.live;
        last = round;
        stopped = true;
      })) round
  stopped_seen round now kept = record {
    tops = ap (λ (u : Setting). u.tops) (kept ∙ b.setting);
    rows = ap (λ (u : Setting). u.rows) (kept ∙ b.setting);
    last = refl;
    stopped = refl;
  }

  module _ (trees : List (List Pending)) (wholes : List (List UnfinishedRequest)) (same : map pendings wholes ≡ trees) where
    given : map pendings wholes ≡ as_trees trees
    given = same ∙ sym (map-id trees)

    pub begun_runs : AreRunnable (standing_of faults p) (as_trees trees)
        → AreRunnable (standing_on faults g) (map pendings wholes)
    begun_runs runs =
        subst (λ (s : Standing). AreRunnable s (map pendings wholes)) (sym known)
        (subst (AreRunnable (idle (standing_of faults p))) (sym given) (idle_runs (standing_of faults p) (as_trees trees) runs))

    pub loose_seen : (now : List D) → TellLoose {D = D} image (standing_on faults g) (map pendings wholes) g.disks.items now
        → TellLoose {D = D} image (standing_of faults p) (as_trees trees) p.disks now
    loose_seen now h =
        subst (λ (ds : List D). TellLoose {D = D} image (idle (standing_of faults p)) (as_trees trees) ds now) b.disks
        (subst (λ (ts : List (List Pending)). TellLoose {D = D} image (idle (standing_of faults p)) ts g.disks.items now) given
        (subst (λ (s : Standing). TellLoose {D = D} image s (map pendings wholes) g.disks.items now) known h))

    module _ (went : List Written → D → D → Type 0) (now : List D) where
      pub wrote_seen : Wrote {D = D} went (MayWrite (standing_on faults g) (map pendings wholes)) g.disks.items now
          → Wrote {D = D} went (MayWrite (standing_of faults p) (as_trees trees)) p.disks now
      wrote_seen h =
          subst (λ (ds : List D). Wrote {D = D} went (MayWrite (idle (standing_of faults p)) (as_trees trees)) ds now) b.disks
          (subst (λ (ts : List (List Pending)). Wrote {D = D} went (MayWrite (idle (standing_of faults p)) ts) g.disks.items now) given
          (subst (λ (s : Standing). Wrote {D = D} went (MayWrite s (map pendings wholes)) g.disks.items now) known h))

      pub spares_seen : SparesAll {D = D} image went (standing_on faults g) (map pendings wholes) g.disks.items now
          → SparesAll {D = D} image went (standing_of faults p) (as_trees trees) p.disks now
      spares_seen h =
          subst (λ (ds : List D). SparesAll {D = D} image went (idle (standing_of faults p)) (as_trees trees) ds now) b.disks
          (subst (λ (ts : List (List Pending)). SparesAll {D = D} image went (idle (standing_of faults p)) ts g.disks.items now) given
          (subst (λ (s : Standing). SparesAll {D = D} image went s (map pendings wholes) g.disks.items now) known h))

    module _ (e : RoundEnd (List UnfinishedRequest) FinishedRequest) (end : RoundEnd (List Pending) FinishedRequest) (seen : IsSeenEnd e end) where
      pub round_seen : (failmode : Failmode) (round : ℕ) (now : List D)
          → RunsAs {D = D} image (standing_on faults g) failmode round g.setting.point (map pendings wholes) g.disks.items now
          (ended_seen pendings told_of e)
          → RunsAs {D = D} image (standing_of faults p) failmode round point (as_trees trees) p.disks now
          (ended_seen (λ (tree : List Pending). tree) told_of end)
      round_seen failmode round now h =
          let s : Standing = idle (standing_of faults p) in
          let x : SeenEnd = ended_seen (λ (tree : List Pending). tree) told_of end in
          subst (λ (ds : List D). RunsAs {D = D} image s failmode round point (as_trees trees) ds now x) b.disks
          (subst (λ (ts : List (List Pending)). RunsAs {D = D} image s failmode round point ts g.disks.items now x) given
          (subst (λ (n : ℕ). RunsAs {D = D} image s failmode round n (map pendings wholes) g.disks.items now x)
          (ap (λ (u : Setting). u.point) b.setting)
          (subst (λ (r : Standing). RunsAs {D = D} image r failmode round g.setting.point (map pendings wholes) g.disks.items now x) known
          (subst (RunsAs {D = D} image (standing_on faults g) failmode round g.setting.point (map pendings wholes) g.disks.items now)
          (seen_same e end seen) h))))

      pub ends_seen : (round : ℕ) → IsRoundEnd (standing_on faults g) round (map pendings wholes) (ended_seen pendings told_of e)
          → IsRoundEnd (standing_of faults p) round (as_trees trees) (ended_seen (λ (tree : List Pending). tree) told_of end)
      ends_seen round h =
          let s : Standing = idle (standing_of faults p) in
          let x : SeenEnd = ended_seen (λ (tree : List Pending). tree) told_of end in
          idle_ends (standing_of faults p) round (as_trees trees) x
          (subst (λ (ts : List (List Pending)). IsRoundEnd s round ts x) given
          (subst (λ (r : Standing). IsRoundEnd r round (map pendings wholes) x) known
          (subst (IsRoundEnd (standing_on faults g) round (map pendings wholes)) (seen_same e end seen) h)))

      pub stands_seen : (round : ℕ) (now : Grounds D)
          → LeavesInUse (standing_on faults g) (map pendings wholes) (map told_of e.finished) now.desk.space.live → now.setting ≡ g.setting
          → map faults now.disks.items ≡ map faults g.disks.items
          → StandsAfter (standing_of faults p)
          (standing_of {D = D} faults (record {
            setting = now.setting;
            disks = now.disks.items;
            live = now.desk.space.live;
            last = round;
            stopped = false;
          })) round (as_trees trees) (ended_seen (λ (tree : List Pending). tree) told_of end)
      stands_seen round now h kept steady =
          let s : Standing = idle (standing_of faults p) in
          let leaves : LeavesInUse s (as_trees trees) (map told_of end.finished) now.desk.space.live =
          subst (λ (fs : List FinishedRequest). LeavesInUse s (as_trees trees) (map told_of fs) now.desk.space.live) (sym seen.finished)
          (subst (λ (ts : List (List Pending)). LeavesInUse s ts (map told_of e.finished) now.desk.space.live) given
          (subst (λ (r : Standing). LeavesInUse r (map pendings wholes) (map told_of e.finished) now.desk.space.live) known h)) in
          record {
            tops = ap (λ (u : Setting). u.tops) (kept ∙ b.setting);
            rows = ap (λ (u : Setting). u.rows) (kept ∙ b.setting);
            last = refl;
            stopped = refl;
            faults = steady ∙ ap (map faults) b.disks;
            live = leaves.live_is;
          }
