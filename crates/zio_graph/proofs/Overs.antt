-- A round of trees that ran until it was over, or was stopped: what it came to, and where the images may differ.
use Rattle.std.proofs.Common.{◌≡◌, ℕ, zero, suc, List, [], ◌∷◌, ◌++◌, length, map, replicate, Some, refl, sym, ap, ◌∙◌, subst}
use Rattle.std.specs.List.{AllByRecursion}
use Rattle.zio_script.specs.declared.script.Failmode.{Failmode}
use Rattle.zio_cksum.specs.Images.{Images}
use Rattle.zio_disks.specs.Disks.{Tell}
use Rattle.zio_gang.specs.Attempts.{Pending}
use Rattle.zio_trace.specs.Leaves.{HaveSizes}
use Rattle.zio_course.specs.Runners.{AreRunnable, DiffersInRound, Standing}
use Rattle.zio_disks.proofs.TellLemmas.{told_count}
use Rattle.zio_course.proofs.ItemLemmas.{same_length}
use Rattle.zio_exchange.specs.Waits.{pendings}
use Rattle.zio_exchange.specs.declared.waiting.UnfinishedRequest.{UnfinishedRequest}
use Rattle.zio_exchange.specs.declared.outcome.FinishedRequest.{FinishedRequest}
use Rattle.slab.specs.Slab.{Slab}
use Rattle.zio_turns.specs.Ledgers.{AreToldAs, Books, Ending}
use Rattle.zio_staged.specs.Parts.{Nodes}
use Rattle.zio_turns.specs.Stops.{IsStopped, TreesStopWith}
use Rattle.zio_turns.specs.UnderTrees.{RunsToEnd, TreesBegin}
use Rattle.zio_turns.specs.declared.entry.TiedNode.{TiedNode}
use Rattle.zio_turns.specs.declared.grounds.Grounds.{Grounds}
use Rattle.zio_turns.specs.declared.trees.TreeState.{TreeState}
use Rattle.zio_turns.specs.declared.trees.TreeState.TheVariants.{UnderWay}
use Rattle.zio_turns.proofs.StopLemmas.{stands_so}
use Rattle.zio_graph.specs.EngineTrees.{IsEngineTree}
use Rattle.zio_graph.specs.Jobs.{IsSoundJob, size_at}
use Rattle.zio_graph.specs.SteadyGrounds.{IsSteadyGrounds, standing_on, terms_on}
use Rattle.zio_graph.specs.WholeRounds.{EndsOn, HasEnded, TellLoose}
use Rattle.zio_graph.proofs.Begun.{has_begun}
use Rattle.zio_graph.proofs.Loose.{stopped_loose}
use Rattle.zio_graph.proofs.Sounds.{sound_job}

-- ---- images

-- each leaf has the size of its disk
pub sizes_told : {D : Type 0} (bytes : D → ℕ) (image : D → List ℕ → Type 0)
    → ((disk : D) (content : List ℕ) → image disk content → length content ≡ bytes disk)
    → (disks : List D) (images : Images) → Tell image disks images → HaveSizes (size_at (map bytes disks)) images
sizes_told bytes image has [] [] told leaf = refl
sizes_told bytes image has [] (i ∷ is) told leaf = absurd told
sizes_told bytes image has (d ∷ ds) [] told leaf = absurd told
sizes_told bytes image has (d ∷ ds) (i ∷ is) told zero = has d i told.0
sizes_told bytes image has (d ∷ ds) (i ∷ is) told (suc leaf) = sizes_told bytes image has ds is told.1 leaf

differs_itself : (s : Standing) (trees : List (List Pending)) (images : Images) → DiffersInRound s trees images images
differs_itself s trees images = record { count = refl; sizes = λ leaf. refl; bytes = λ leaf at out. refl }

-- where nothing was done
pub loose_itself : {D : Type 0} (image : D → List ℕ → Type 0) (s : Standing) (trees : List (List Pending)) (old new : List D)
    → new ≡ old
    → TellLoose {D = D} image s trees old new
loose_itself {D} image s trees old new same = λ before told.
    (before, subst (λ (ds : List D). Tell image ds before) (sym same) told, differs_itself s trees before)

-- the disks are these now
pub loose_then : {D : Type 0} (image : D → List ℕ → Type 0) (s : Standing) (trees : List (List Pending)) (old mid new : List D)
    → new ≡ mid → TellLoose {D = D} image s trees old mid → TellLoose {D = D} image s trees old new
loose_then {D} image s trees old mid new same h = subst (λ (ds : List D). TellLoose {D = D} image s trees old ds) (sym same) h

-- ---- the round

-- the trees are one forest, of which a round is sound
pub steady_job : {D : Type 0} (bytes faults : D → ℕ) (g : Grounds D) (round : ℕ) (failmode : Failmode)
    → IsSteadyGrounds {D = D} bytes g
    → (wholes : List (List UnfinishedRequest)) → AllByRecursion IsEngineTree wholes
    → AreRunnable (standing_on faults g) (map pendings wholes)
    → IsSoundJob (terms_on g failmode round) (size_at (map bytes g.disks.items)) wholes
steady_job bytes faults g round failmode steady wholes each runs =
    sound_job (standing_on faults g) failmode round g.setting.point (map bytes g.disks.items) wholes each runs steady.leaves_once
    steady.leaves_differ steady.bears steady.inside

module _ {N D : Type 0} (nodes : Nodes N) (bytes faults : D → ℕ) (image : D → List ℕ → Type 0) (g : Grounds D) (round : ℕ)
    (failmode : Failmode) (steady : IsSteadyGrounds {D = D} bytes g) (wholes : List (List UnfinishedRequest)) where
  -- it ran from its first attempts on
  pub ends_on : (slab slab_now : Slab (TiedNode N)) (line line_now : List ℕ) (now : Grounds D) (states settled : List TreeState)
      (first ended : List FinishedRequest) → TreesBegin {N = N} nodes slab line round failmode wholes states []
      → states ≡ replicate (length wholes) (UnderWay 0) → first ≡ []
      → RunsToEnd {N = N} {D = D} nodes bytes image slab line g states first slab_now line_now now settled ended round failmode
      → EndsOn {N = N} {D = D} nodes bytes image g now round failmode wholes settled ended
  ends_on slab slab_now line line_now now states settled first ended begins are none runs = λ f before images sound trees is tell.
      let b = has_begun {N = N} {D = D} nodes bytes image g round failmode steady slab line wholes states begins are f before
      images sound
      trees is tell in
      let r = runs (terms_on g failmode round) (size_at (map bytes g.disks.items)) f before b.now b.runs in
      let all : ended ≡ r.0.others = r.0.ended_are ∙ ap (λ (fs : List FinishedRequest). fs ++ r.0.others) none in
      let done : r.0.now.books.done ≡ r.0.done = r.0.done_are ∙ ap (λ (x : Books). x.done ++ r.0.done) b.books_are in
      record {
        slab = slab_now;
        line = line_now;
        now = r.0.now;
        runs = r.0.runs;
        over = r.1;
        told = subst (λ (fs : List FinishedRequest). AreToldAs fs r.0.now.books.done) (sym all)
            (subst (λ (xs : List Ending). AreToldAs r.0.others xs) (sym done) r.0.done_told);
      }

  module _ (job : IsSoundJob (terms_on g failmode round) (size_at (map bytes g.disks.items)) wholes)
      (has : (disk : D) (content : List ℕ) → image disk content → length content ≡ bytes disk) where
    loose_from : (now : List D) (before after : Images) → Tell image g.disks.items before → Tell image now after
        → map bytes now ≡ map bytes g.disks.items → IsStopped (terms_on g failmode round) job.forest before after
        → DiffersInRound (standing_on faults g) (map pendings wholes) before after
    loose_from now before after told tells same stopped =
        stopped_loose (standing_on faults g) failmode round g.setting.point (size_at (map bytes g.disks.items))
        (map pendings wholes) job.forest
        before after job.lists
        (told_count image now after tells ∙ (same_length bytes g.disks.items now same ∙ sym
        (told_count image g.disks.items before told)))
        job.round stopped

    -- where it was stopped
    pub loose_stopped : (slab : Slab (TiedNode N)) (line : List ℕ) (states : List TreeState) (now : List D)
        → TreesBegin {N = N} nodes slab line round failmode wholes states [] → states ≡ replicate (length wholes) (UnderWay 0)
        → map bytes now ≡ map bytes g.disks.items
        → TreesStopWith {N = N} {D = D} nodes bytes image slab line g round failmode states now
        → TellLoose {D = D} image (standing_on faults g) (map pendings wholes) g.disks.items now
    loose_stopped slab line states now begins are same stops = λ before told.
        let b = has_begun {N = N} {D = D} nodes bytes image g round failmode steady slab line wholes states begins are job.forest
        (Some before)
        before job.round job.are refl told in
        let k = stops (terms_on g failmode round) (size_at (map bytes g.disks.items)) job.forest before b.now b.runs
        (sizes_told {D = D} bytes image has g.disks.items before told) in
        (k.0, k.1, loose_from now before k.0 told k.1 same k.2)

    -- where it is over
    pub differs_over : (now : Grounds D) (states : List TreeState) (ended : List FinishedRequest) (before : Images)
        → (h : HasEnded {N = N} {D = D} nodes bytes image (terms_on g failmode round)
        (size_at (map bytes g.disks.items)) job.forest (Some before)
        now round failmode states ended) → Tell image g.disks.items before → map bytes now.disks.items ≡ map bytes g.disks.items
        → DiffersInRound (standing_on faults g) (map pendings wholes) before h.now.images
    differs_over now states ended before h told same =
        loose_from now.disks.items before h.now.images told h.runs.going.lent.tell same
        (stands_so {N = N} {D = D} nodes bytes image (terms_on g failmode round)
        (size_at (map bytes g.disks.items)) job.forest before h.now h.slab
        h.line now h.runs.sound h.runs.going (sizes_told {D = D} bytes image has g.disks.items before told))

    pub loose_over : (now : Grounds D) (states : List TreeState) (ended : List FinishedRequest)
        → EndsOn {N = N} {D = D} nodes bytes image g now round failmode wholes states ended
        → map bytes now.disks.items ≡ map bytes g.disks.items
        → TellLoose {D = D} image (standing_on faults g) (map pendings wholes) g.disks.items now.disks.items
    loose_over now states ended ends same = λ before told.
        let h = ends job.forest (Some before) before job.round job.are refl told in
        (h.now.images, h.runs.going.lent.tell, differs_over now states ended before h told same)
