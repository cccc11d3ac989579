-- What a round came to that is over: from its books and its trees' values to what a runner says of it.
use Rattle.std.proofs.Common.{◌≡◌, ℕ, ◌+◌, List, [], ◌∷◌, length, map, count_by, Some, None, refl, sym, ap, ◌∙◌, subst}
use Rattle.std.specs.Prelude.{Contains, IsPermutation}
use Rattle.std.specs.List.{AllByRecursion}
use Rattle.std.specs.List.Sorted.{IsNonDecreasingBy}
use Rattle.zio_types.specs.declared.journal.Completion.{Completion}
use Rattle.zio_types.specs.Choices.{Choice}
use Rattle.zio_script.specs.declared.script.Failmode.{Failmode}
use Rattle.zio_cksum.specs.Images.{Images}
use Rattle.zio_disks.specs.Disks.{Tell}
use Rattle.zio_disks.specs.Whole.{IsWholeTree}
use Rattle.zio_gang.specs.Attempts.{Pending, Terms}
use Rattle.zio_gang.specs.Journals.{AreLawful, CompleteAfterChildren, CompleteOnce, choices_in}
use Rattle.zio_gang.specs.Trees.{sizes_of}
use Rattle.zio_trace.specs.Entries.{IsSettledByEntries}
use Rattle.zio_trace.specs.Tasks.{Value}
use Rattle.zio_trace.specs.Together.{round_of}
use Rattle.zio_trace.proofs.RoundTouches.{entries_of_round}
use Rattle.zio_frames.specs.Running.{all_heard}
use Rattle.zio_frames.specs.Slots.{Slot}
use Rattle.zio_course.specs.declared.runner.RequestEnd.{RequestEnd}
use Rattle.zio_course.specs.Runners.{AreRestsOf, AreRunnable, DiffersInRound, IsRound, IsRoundEnd, completion_for, finished_of, has_claim, is_numbered, joined_trees, made_trees, numbers_of, requests_in}
use Rattle.zio_sound.specs.Leaving.{AreSettled, LeavesTrees}
use Rattle.zio_sound.proofs.Leaving.{round_left}
use Rattle.zio_sound.proofs.Linked.{round_linked}
use Rattle.zio_sound.proofs.Oracled.{answered_settled}
use Rattle.zio_sound.proofs.SettledRounds.{settled_round}
use Rattle.zio_exchange.specs.Waits.{pendings}
use Rattle.zio_exchange.specs.Wholes.{IsWhole}
use Rattle.zio_exchange.specs.declared.waiting.UnfinishedRequest.{UnfinishedRequest}
use Rattle.zio_exchange.specs.declared.outcome.FinishedRequest.{FinishedRequest}
use Rattle.zio_turns.specs.Ledgers.{AreToldAs, Ending, all_ended}
use Rattle.zio_staged.specs.Parts.{Nodes}
use Rattle.zio_turns.specs.Rounds.{Before}
use Rattle.zio_turns.specs.Slabs.{shelf_of}
use Rattle.zio_turns.specs.UnderTrees.{AreSettledWith}
use Rattle.zio_turns.specs.declared.grounds.Grounds.{Grounds}
use Rattle.zio_turns.specs.declared.trees.TreeState.{TreeState}
use Rattle.zio_turns.proofs.Progress.{all_answers, all_settles}
use Rattle.zio_turns.proofs.RoundOver.{found_are, found_once, live_where, made_open, made_within, requests_are}
use Rattle.zio_graph.specs.EngineTrees.{IsEngineTree, IsWithinLimits}
use Rattle.zio_graph.specs.Ends.{completion_of, left_in, told_of}
use Rattle.zio_graph.specs.InUse.{LeavesInUse}
use Rattle.zio_graph.specs.Jobs.{IsSoundJob, size_at}
use Rattle.zio_graph.specs.RoundEnds.{IsByNumber, TellsRound, completions_of}
use Rattle.zio_graph.specs.SteadyGrounds.{IsSteadyGrounds, standing_on, terms_on}
use Rattle.zio_graph.specs.WholeRounds.{EndsOn, HasEnded}
use Rattle.zio_graph.proofs.Completions.{completed_after_children}
use Rattle.zio_graph.proofs.InUse.{leaves_in_use}
use Rattle.zio_graph.proofs.Lefts.{AllSettled, all_settled, as_many, left_is, left_linked}
use Rattle.zio_graph.proofs.LeftTrees.{IsSoundRequest, engine_trees, requests_sound, rests_sound}
use Rattle.zio_graph.proofs.Overs.{differs_over, sizes_told}
use Rattle.zio_graph.proofs.ReadSizes.{reads_told, sectors_told}
use Rattle.zio_graph.proofs.RoundBlocks.{EndsWhole, KeepsSpelled}
use Rattle.zio_graph.proofs.RoundEnds.{tells_round}
use Rattle.zio_graph.proofs.RoundKeys.{keys_of_round}
use Rattle.zio_graph.proofs.Sounds.{joined_flat}
use Rattle.zio_graph.proofs.Still.{HasClosed, still_steady}
use Rattle.zio_graph.proofs.WholeBlocks.{sound_whole, told_whole}

-- ---- what is told

told_are : (ended : List FinishedRequest) (done : List Ending) → AreToldAs ended done
    → map told_of ended ≡ map finished_of (all_ended done)
told_are [] [] h = refl
told_are [] (x ∷ xs) h = absurd h
told_are (f ∷ fs) [] h = absurd h
told_are (f ∷ fs) (x ∷ xs) h =
    let e = h.0 in
    let first : told_of f ≡ finished_of x.ended =
    (λ i. record { request = sym e.number i; error = sym e.error i; bytes = sym e.bytes i; tree = sym e.tree i }) in
    (λ i. first i ∷ told_are fs xs h.1 i)

completed_are : (round : ℕ) (ended : List FinishedRequest) → map (completion_of round) ended ≡ map (completion_for round)
    (map told_of ended)
completed_are round [] = refl
completed_are round (f ∷ fs) = ap (λ (cs : List Completion). completion_of round f ∷ cs) (completed_are round fs)

-- each tree has one value
heard_once : (vs us : List Value) → all_heard vs ≡ all_heard us → vs ≡ us
heard_once [] [] e = refl
heard_once [] (u ∷ us) e = absurd (cc)
heard_once (v ∷ vs) [] e = absurd (cc)
heard_once (v ∷ vs) (u ∷ us) e =
    let first : v ≡ u = cc in
    let rest : all_heard vs ≡ all_heard us = cc in
    (λ i. first i ∷ heard_once vs us rest i)

module _ {N D : Type 0} (nodes : Nodes N) (bytes faults : D → ℕ) (image : D → List ℕ → Type 0) (g : Grounds D) (round : ℕ)
    (failmode : Failmode) (steady : IsSteadyGrounds {D = D} bytes g) (wholes : List (List UnfinishedRequest))
    (runs : AreRunnable (standing_on faults g) (map pendings wholes))
    (job : IsSoundJob (terms_on g failmode round) (size_at (map bytes g.disks.items)) wholes) (now : Grounds D)
    (states : List TreeState) (ended : List FinishedRequest) (count : length states ≡ length wholes) where
  -- so it is, whether images are told or not
  abbrev Over : Before → Type 0
  Over before = HasEnded {N = N} {D = D} nodes bytes image (terms_on g failmode round)
      (size_at (map bytes g.disks.items)) job.forest before
      now round failmode states ended

  -- ---- the trees' values

  module _ (before : Before) (h : Over before) where
    of_round : choices_in round h.over.state.entries ≡ h.over.state.entries
    of_round =
        entries_of_round (terms_on g failmode round) (size_at (map bytes g.disks.items)) job.forest before h.over.state
        h.over.kept.running.underway

    -- they are settled as attempts leave them
    settled_so : (values : List Value) → h.now.trees ≡ all_heard values → AreSettled (terms_on g failmode round) job.forest values
    settled_so values heard =
        let t : Terms = terms_on g failmode round in
        let a = all_answers {N = N} nodes t (size_at (map bytes g.disks.items)) job.forest before h.now.trees h.now.tops
        (shelf_of {N = N} h.slab) h.over.state h.over.state.entries [] [] h.over.kept h.over.standing_none of_round in
        subst (AreSettled t job.forest) (heard_once a.0 values (sym a.1.0 ∙ heard))
        (answered_settled h.over.state.entries t job.forest h.over.state.deeds a.0 a.1.1)

    -- the blocks that they made are whole, and what is left keeps pointers that bytes spell
    blocks_so : (values : List Value) → h.now.trees ≡ all_heard values → AllByRecursion EndsWhole (round_of values).ended
        × AllByRecursion (AllByRecursion KeepsSpelled) (round_of values).left
    blocks_so values heard =
        let t : Terms = terms_on g failmode round in
        let entries : List Choice = h.over.state.entries in
        let a = all_answers {N = N} nodes t (size_at (map bytes g.disks.items)) job.forest before h.now.trees h.now.tops
        (shelf_of {N = N} h.slab) h.over.state entries [] [] h.over.kept h.over.standing_none of_round in
        let lawful : AreLawful (sizes_of g.setting.tops) g.desk.space.live entries =
        subst (AreLawful (sizes_of g.setting.tops) g.desk.space.live) (sym h.over.entries_are)
        h.runs.going.lent.desk.desk.lawful in
        subst
        (λ (vs : List Value). AllByRecursion EndsWhole (round_of vs).ended
        × AllByRecursion (AllByRecursion KeepsSpelled) (round_of vs).left)
        (heard_once a.0 values (sym a.1.0 ∙ heard))
        (sound_whole entries t job.forest h.over.state.deeds a.0 steady.pointers lawful job.sound a.1.1)

    some_values : (values : List Value) × (h.now.trees ≡ all_heard values)
    some_values =
        let a = all_answers {N = N} nodes (terms_on g failmode round)
        (size_at (map bytes g.disks.items)) job.forest before h.now.trees h.now.tops
        (shelf_of {N = N} h.slab) h.over.state h.over.state.entries [] [] h.over.kept h.over.standing_none of_round in
        (a.0, a.1.0)

    module _ (values : List Value) (heard : h.now.trees ≡ all_heard values) where
      settled_states : AllSettled states
      settled_states = all_settled (terms_on g failmode round) h.now.tops states h.over.standing_none h.runs.each

      ends_with : AreSettledWith (all_heard values) states
      ends_with = subst (λ (trees : List Slot). AreSettledWith trees states) heard h.runs.ends

      one_each : length states ≡ length values
      one_each = count ∙ sym (as_many (terms_on g failmode round) job.forest wholes values job.are (settled_so values heard))

      left_are : map pendings (left_in states) ≡ (round_of values).left
      left_are = left_is values states one_each settled_states ends_with

      leaves : LeavesTrees (map pendings wholes) (round_of values)
      leaves = subst (λ (trees : List (List Pending)). LeavesTrees trees (round_of values)) job.lists
          (round_left (terms_on g failmode round) job.forest values (settled_so values heard))

      moved : IsPermutation (all_ended h.now.books.done) (round_of values).ended
      moved = requests_are {N = N} nodes
          (terms_on g failmode round) job.forest h.now h.slab values h.over.ledger heard h.over.standing_none

      module _ (finished : List RequestEnd) (told : IsPermutation (map told_of ended) finished)
          (order : IsNonDecreasingBy (λ (f : RequestEnd). f.request) finished) where
        by_number : IsByNumber (all_ended h.now.books.done) finished
        by_number = record {
          same = subst (λ (fs : List RequestEnd). IsPermutation fs finished) (told_are ended h.now.books.done h.told) told;
          order = order;
        }

        tells : TellsRound round (map pendings wholes) (round_of values) (all_ended h.now.books.done) finished
        tells = tells_round (standing_on faults g) round (map pendings wholes) (round_of values)
            (all_ended h.now.books.done) finished runs leaves
            moved by_number

        made_whole : AllByRecursion IsWholeTree (made_trees finished)
        made_whole =
            told_whole (all_ended h.now.books.done) (round_of values).ended finished moved by_number.same
            (blocks_so values heard).0

        in_use : LeavesInUse (standing_on faults g) (map pendings wholes) finished now.desk.space.live
        in_use =
            let t : Terms = terms_on g failmode round in
            let sizes : ℕ → ℕ = size_at (map bytes g.disks.items) in
            let l = h.over.ledger in
            let desk = h.runs.going.lent.desk in
            let tops = now.desk.tops in
            let st = now.desk.space in
            leaves_in_use (standing_on faults g) t job.forest
            (map pendings wholes) h.now.books.done finished st.live job.lists runs l.each by_number
            (made_within {N = N} nodes t job.forest h.now h.slab tops st l desk)
            (made_open {N = N} nodes t job.forest h.now h.slab tops st l desk)
            (λ p. live_where {N = N} nodes t sizes job.forest h.now h.slab st h.runs.sound l desk.live desk.pending_are
            (found_are {N = N} nodes t sizes job.forest before h.now h.slab h.over.state h.over.kept l)
            (found_once t h.now tops st desk steady.once) p)

        module _ (left : List (List UnfinishedRequest)) (is_left : left ≡ left_in states) (completions : List Completion)
            (are_completed : completions ≡ map (completion_of round) ended) (entries : List Choice)
            (are_entries : entries ≡ now.desk.space.entries) where
          left_so : map pendings left ≡ (round_of values).left
          left_so = ap (λ (ls : List (List UnfinishedRequest)). map pendings ls) is_left ∙ left_are

          in_order : completions_of round (all_ended h.now.books.done) ≡ completions
          in_order = ap (λ (fs : List RequestEnd). map (completion_for round) fs) (sym (told_are ended h.now.books.done h.told))
              ∙ (sym (completed_are round ended) ∙ sym are_completed)

          entries_so : h.now.entries ≡ entries
          entries_so = sym h.runs.going.lent.desk.desk.entries_are ∙ sym are_entries

          ends_round : IsRoundEnd (standing_on faults g) round (map pendings wholes)
              (record { finished = finished; left = map pendings left; completions = completions; entries = entries })
          ends_round = record {
            each = λ n. tells.each n
                ∙ ap (λ (ls : List (List Pending)). count_by (is_numbered n) (map (λ (f : RequestEnd). f.request) finished)
                + count_by (is_numbered n) (numbers_of (requests_in ls))) (sym left_so);
            rests = subst (AreRestsOf (map pendings wholes)) (sym left_so) leaves.rests;
            claims = ap (λ (ls : List (List Pending)). has_claim (requests_in ls)) left_so ∙ leaves.claims runs.claim;
            rising = tells.rising;
            reads = reads_told (standing_on faults g) (terms_on g failmode round) job.forest (map pendings wholes)
                h.now.books.done finished job.lists job.sound runs h.over.ledger.each h.over.ledger.sized by_number;
            sectors = sectors_told (terms_on g failmode round) job.forest (map pendings wholes) h.now.books.done finished
                job.lists job.sound h.over.ledger.each h.over.ledger.sized by_number;
            makers = tells.makers;
            inside = in_use.inside;
            free = in_use.free;
            completed = subst (AllByRecursion (λ (c : Completion). Contains
                (map (completion_for round) finished) c)) in_order tells.completed;
            all_completed = subst (λ (cs : List Completion). AllByRecursion (λ (c : Completion). Contains cs c)
                (map (completion_for round) finished))
                in_order tells.all_completed;
            once = subst CompleteOnce in_order tells.once;
            after_children = subst (CompleteAfterChildren (requests_in (map pendings wholes))) in_order
                (completed_after_children round (map pendings wholes) job.forest h.now.books.done job.lists tells.once
                h.over.ledger.rests.children);
            keys = subst (AllByRecursion (λ (c : Choice). c.asked.key.round ≡ round)) entries_so
                (keys_of_round {N = N} nodes (terms_on g failmode round)
                (size_at (map bytes g.disks.items)) job.forest before h.now h.slab h.over);
          }

          -- it is the round by the definitions, where its trees came to these values by its entries
          is_round : (first after : Images)
              → IsSettledByEntries h.over.state.entries (terms_on g failmode round) job.forest h.over.state.entries
              (round_of values) first after
              → IsRound (terms_on g failmode round) (map pendings wholes) first after
              (record { finished = finished; left = map pendings left; completions = completions; entries = entries })
          is_round first after settled =
              let t : Terms = terms_on g failmode round in
              settled_round t job.forest (map pendings wholes) values first after
              (record { finished = finished; left = map pendings left; completions = completions; entries = entries }) job.lists
              (subst (λ (es : List Choice). IsSettledByEntries es t job.forest es (round_of values) first after)
              (h.over.entries_are ∙ entries_so) settled)
              (subst (AreLawful (sizes_of g.setting.tops) g.desk.space.live) entries_so h.runs.going.lent.desk.desk.lawful)
              left_so tells.finished_is

      -- ---- what is left

      sound_requests : AllByRecursion IsSoundRequest (joined_trees (map pendings wholes))
      sound_requests = subst (AllByRecursion IsSoundRequest)
          (sym (joined_flat job.forest) ∙ ap (λ (ts : List (List Pending)). joined_trees ts) job.lists)
          (requests_sound job.forest job.sound)

      left_trees : AllByRecursion IsWhole (left_in states) → AllByRecursion (AllByRecursion IsWithinLimits) (left_in states)
          → AllByRecursion IsEngineTree (left_in states)
      left_trees whole limits =
          engine_trees (left_in states) whole
          (left_linked values states one_each settled_states ends_with
          (round_linked (terms_on g failmode round) None job.forest values job.linked (settled_so values heard)))
          (rests_sound (map pendings wholes) (map pendings (left_in states))
          (subst (AreRestsOf (map pendings wholes)) (sym left_are) leaves.rests) sound_requests)
          limits
          (subst (AllByRecursion (AllByRecursion KeepsSpelled)) (sym left_are) (blocks_so values heard).1)

  -- ---- where each round of these trees ended so

  module _ (ends : EndsOn {N = N} {D = D} nodes bytes image g now round failmode wholes states ended) where
    silent : Over None
    silent = ends job.forest None [] job.round job.are tt tt

    came_to : (values : List Value) × (silent.now.trees ≡ all_heard values)
    came_to = some_values None silent

    pub stands : (finished : List RequestEnd) → IsPermutation (map told_of ended) finished
        → IsNonDecreasingBy (λ (f : RequestEnd). f.request) finished
        → LeavesInUse (standing_on faults g) (map pendings wholes) finished now.desk.space.live
    stands finished told order = in_use None silent came_to.0 came_to.1 finished told order

    pub fits : (finished : List RequestEnd) → IsPermutation (map told_of ended) finished
        → IsNonDecreasingBy (λ (f : RequestEnd). f.request) finished → AllByRecursion IsWholeTree (made_trees finished)
    fits finished told order = made_whole None silent came_to.0 came_to.1 finished told order

    pub trees_left : AllByRecursion IsWhole (left_in states) → AllByRecursion (AllByRecursion IsWithinLimits) (left_in states)
        → AllByRecursion IsEngineTree (left_in states)
    trees_left whole limits = left_trees None silent came_to.0 came_to.1 whole limits

    pub still : (last : Grounds D) → now.setting ≡ g.setting → map bytes now.disks.items ≡ map bytes g.disks.items
        → HasClosed {D = D} now last
        → IsSteadyGrounds {D = D} bytes last
    still last kept same closed =
        still_steady {N = N} {D = D} nodes bytes image g now last round failmode job.forest None states ended steady silent kept
        same closed

    module _ (finished : List RequestEnd) (told : IsPermutation (map told_of ended) finished)
        (order : IsNonDecreasingBy (λ (f : RequestEnd). f.request) finished) (left : List (List UnfinishedRequest))
        (is_left : left ≡ left_in states)
        (completions : List Completion) (are_completed : completions ≡ map (completion_of round) ended) (entries : List Choice)
        (are_entries : entries ≡ now.desk.space.entries) where
      pub ends_so : IsRoundEnd (standing_on faults g) round (map pendings wholes)
          (record { finished = finished; left = map pendings left; completions = completions; entries = entries })
      ends_so =
          ends_round None silent came_to.0 came_to.1 finished told order left is_left completions are_completed entries
          are_entries

      pub is_so : ((disk : D) (content : List ℕ) → image disk content → length content ≡ bytes disk)
          → map bytes now.disks.items ≡ map bytes g.disks.items → (disks : List D) → disks ≡ now.disks.items
          → (before : Images) → Tell image g.disks.items before → (after : Images) × Tell image disks after
          × IsRound (terms_on g failmode round) (map pendings wholes) before after
          (record { finished = finished; left = map pendings left; completions = completions; entries = entries })
          × DiffersInRound (standing_on faults g) (map pendings wholes) before after
      is_so has same disks closed before tell =
          let t : Terms = terms_on g failmode round in
          let h : Over (Some before) = ends job.forest (Some before) before job.round job.are refl tell in
          let es : List Choice = h.over.state.entries in
          let s = all_settles {N = N} nodes t (size_at (map bytes g.disks.items)) job.forest before h.now.trees h.now.tops
          (shelf_of {N = N} h.slab)
          h.over.state es [] [] h.runs.sound
          (sizes_told {D = D} bytes image has g.disks.items before tell) h.over.kept h.over.standing_none
          (of_round (Some before) h) in (
            h.now.images,
            subst (λ (ds : List D). Tell image ds h.now.images) (sym closed) h.runs.going.lent.tell,
            is_round (Some before) h s.0 s.1.0 finished told order left is_left completions are_completed entries are_entries
                before h.now.images
                (subst (IsSettledByEntries es t job.forest es (round_of s.0) before) h.over.images_are s.1.1.0),
            differs_over {N = N} {D = D} nodes bytes faults image g round failmode steady wholes job has now states ended before
                h tell same,
          )
