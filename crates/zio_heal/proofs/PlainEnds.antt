-- The run of a script that heals comes to what its plain store comes to.
use Rattle.std.proofs.Common.{◌≡◌, ℕ, ◌+◌, ◌≤◌, List, [], ◌∷◌, ◌++◌, length, map, fold, find, count_by, cond, flat_map, ◌||◌, ◌==◌, is_some, option_map, Bool, true, false, Option, Some, None, Result, Ok, Err, IfOk, IsOk, Contains, ◌⊎◌, inl, inr, ⊎_elim, refl, sym, ap, ◌∙◌, subst, append_assoc, arith}
use Rattle.std.proofs.lemmas.Slice.Eq.{bytes_eq-Decides}
use Rattle.std.specs.List.{AllByRecursion}
use Rattle.zio_types.specs.declared.error.Errno.{Errno}
use Rattle.zio_types.specs.Choices.{Choice}
use Rattle.zio_script.specs.declared.script.Item.{Item}
use Rattle.zio_script.specs.declared.script.Item.TheVariants.{Request as RequestLine, Go, Clear}
use Rattle.zio_script.specs.declared.script.Request.{Request}
use Rattle.zio_script.specs.declared.script.Script.{Script}
use Rattle.zio_script.specs.Accepted.{AreRising, IsOrderlyBatch, IsOrderlyScript, batches_from, batches_of}
use Rattle.zio_script.specs.Grammar.{IsScriptOf}
use Rattle.zio_script.specs.Requests.{requests_of}
use Rattle.zio_script.specs.Whys.{batch_after, is_clear, tells_reads_apart}
use Rattle.zio_script.proofs.AcceptedLemmas.{reading_ended, reading_orderly}
use Rattle.zio_cksum.specs.Images.{Images, Setting, image_of}
use Rattle.zio_cksum.proofs.AllLemmas.{all_append, all_contained, all_contains, all_map, all_unmap, all_weaker}
use Rattle.zio_gang.specs.declared.ending.Ending.TheVariants.{Complete}
use Rattle.zio_gang.specs.Attempts.{Ended, Pending, Terms}
use Rattle.zio_gang.specs.Fates.{ended_requests, held_requests, suspended_requests, unrun, unrun_lines}
use Rattle.zio_gang.specs.Journals.{AreChoicesOf, IsLawfulJournal, choices_in}
use Rattle.zio_gang.specs.Rounds.{Binding, Bound, is_bound, is_of, used_places}
use Rattle.zio_gang.specs.Runs.{Batch, Course, Plan, Round, State, ending, ending_if, has_held, has_trees, left_if, plan_of, rounds_of, run_script, start_state, terms_of}
use Rattle.zio_gang.specs.Trees.{sizes_of}
use Rattle.zio_gang.proofs.FateLemmas.{rising_back, rising_front, tally}
use Rattle.zio_gang.proofs.FateRuns.{fates_law}
use Rattle.zio_report.specs.Meanings.{tops_of}
use Rattle.zio_report.specs.Reports.{all_ended}
use Rattle.zio_trace.specs.RunTraces.{round_from, starts_of}
use Rattle.zio_trace.proofs.ChoiceLemmas.{contained_cases}
use Rattle.zio_trace.proofs.ListLemmas.{all_lists}
use Rattle.zio_trace.proofs.PairLemmas.{all_of, pairs_two}
use Rattle.zio_trace.proofs.RunTraceLemmas.{run_rounds}
use Rattle.zio_heal.specs.Alike.{IsAlikeTo}
use Rattle.zio_heal.specs.Contents.{IsGivenGood, IsHeld}
use Rattle.zio_heal.specs.Copies.{IsPastFaults}
use Rattle.zio_heal.specs.Given.{AcceptsWhatWasGiven, last_reads}
use Rattle.zio_heal.specs.Healed.{IsHealed, IsHealedRequest}
use Rattle.zio_heal.specs.PlainStore.{Content, Plain, Store, no_contents, plain_from, plain_store}
use Rattle.zio_heal.specs.Pools.{NoSmallRefused}
use Rattle.zio_heal.specs.SafeBlocks.{IsSafe, IsSafeBlock}
use Rattle.zio_heal.specs.SafeRounds.{requests_in}
use Rattle.zio_heal.specs.StoredPlainly.{FitPointers, HasReply, IsStoredPlainly, ReadsAlike, read_last}
use Rattle.zio_heal.proofs.BatchSteps.{bound_as}
use Rattle.zio_heal.proofs.BatchTrees.{HaveNumbersApart, rising_pairs}
use Rattle.zio_heal.proofs.TreeKids.{count_is, one_if}
use Rattle.zio_heal.proofs.HeldBlocks.{read_law}
use Rattle.zio_heal.proofs.LastReads.{block_reads, last_true}
use Rattle.zio_heal.proofs.LineSteps.{IsAt, LinesOut, clears_in, lines_on}
use Rattle.zio_heal.proofs.PieceLemmas.{each_weaker}
use Rattle.zio_heal.proofs.RoundNames.{number_counts, with_number}
use Rattle.zio_heal.proofs.RunLemmas.{past_law, stores_law}
use Rattle.zio_heal.proofs.RunStates.{IsGround, IsLawfulStart, IsQueued, setting_at}
use Rattle.zio_heal.proofs.ScriptPools.{script_pool}
use Rattle.zio_heal.proofs.ShortScripts.{few_items}
use Rattle.zio_heal.proofs.TrueReads.{AreTrue, true_law}
use Rattle.zio_heal.proofs.UnderWay.{IsAnswered, Matches, NamesNot}

-- ---- batches of lines

batches_each : (P : Request → Type 0) (items : List Item) (batch : List Request) → AllByRecursion P batch → AllByRecursion P (requests_of items) → AllByRecursion (AllByRecursion P) (batches_from batch items)
batches_each P [] batch h k = tt
batches_each P (RequestLine r ∷ items) batch h k = batches_each P items (batch ++ r ∷ []) (all_append P batch (r ∷ []) h (k.0, tt)) k.1
batches_each P (Go ∷ items) batch h k = (h, batches_each P items [] tt k)
batches_each P (Clear ∷ items) batch h k = batches_each P items batch h k

pub batches_rising : (items : List Item) (batch : List Request) → AreRising (batch ++ requests_of items) → AllByRecursion AreRising (batches_from batch items)
batches_rising [] batch h = tt
batches_rising (RequestLine r ∷ items) batch h = batches_rising items (batch ++ r ∷ []) (subst AreRising (sym (append_assoc batch (r ∷ []) (requests_of items))) h)
batches_rising (Go ∷ items) batch h = (rising_front batch (requests_of items) h, batches_rising items [] (rising_back batch (requests_of items) h))
batches_rising (Clear ∷ items) batch h = batches_rising items batch h

few_batches : (items : List Item) (batch : List Request) → length (batches_from batch items) ≤ length items
few_batches [] batch = omega arith
few_batches (RequestLine r ∷ items) batch = omega (arith, few_batches items (batch ++ r ∷ []))
few_batches (Go ∷ items) batch = omega (arith, few_batches items [])
few_batches (Clear ∷ items) batch = omega (arith, few_batches items batch)

-- ---- bound names

bound_step : (found : Bool) (b x : Binding) (xs : Bound) → is_of b.name x ≡ found → ((x ≡ b) ⊎ (is_bound xs b.name ≡ true)) → is_some (option_map (λ (y : Binding). y.tree) (cond found (Some x) (find (is_of b.name) xs))) ≡ true
bound_step true b x xs is h = refl
bound_step false b x xs is h =
    ⊎_elim
    (λ (same : x ≡ b).
    let yes : is_of b.name b ≡ true = (bytes_eq-Decides b.name b.name).1 refl in
    let no : is_of b.name b ≡ false = ap (is_of b.name) (sym same) ∙ is in
    absurd (let e : true ≡ false = sym yes ∙ no in cc))
    (λ (later : is_bound xs b.name ≡ true). later) h

listed_bound : (bound : Bound) (b : Binding) → Contains bound b → is_bound bound b.name ≡ true
listed_bound [] b listed = absurd (all_contains (λ (z : Binding). ⊥) [] b tt listed)
listed_bound (x ∷ xs) b listed =
    bound_step (is_of b.name x) b x xs refl
    (⊎_elim (λ (same : x ≡ b). inl same) (λ (later : Contains xs b). inr (listed_bound xs b later)) (contained_cases x xs b listed))

reads_alike : (found : Result (List ℕ) Errno) (o : Option Content) (bound : Bool) (bytes : List ℕ) → IsOk found → IfOk found (λ (b : List ℕ). b ≡ bytes) → bound ≡ true → Matches o bound bytes → ReadsAlike found o
reads_alike (Err e) o bound bytes ok is there h = absurd (let no : false ≡ true = ok in cc)
reads_alike (Ok b) None bound bytes ok is there h = absurd (let no : false ≡ true = sym h ∙ there in cc)
reads_alike (Ok b) (Some c) bound bytes ok is there h = subst (IsAlikeTo c) (sym is) h.1

module _ (text : List ℕ) (script : Script) (images : Images) (journal : List Choice) (is : IsScriptOf text script) (lawful : IsLawfulJournal (sizes_of (tops_of script images)) (rounds_of (run_script script images journal).events) journal)
    (healed : IsHealed script) (fit : FitPointers (tops_of script images)) (small : NoSmallRefused journal) (accepts : AcceptsWhatWasGiven script images journal) where
  abbrev plan : Plan
  plan = plan_of script images journal

  abbrev sizes : ℕ → ℕ
  sizes leaf = length (image_of images leaf)

  abbrev requests : List Request
  requests = requests_of script.items

  abbrev plain : Plain
  plain = plain_store script

  abbrev apart : Bool
  apart = tells_reads_apart script

  abbrev total : ℕ
  total = clears_in script.items

  abbrev course : Course
  course = run_script script images journal

  abbrev last : State
  last = course.state

  orderly : IsOrderlyScript script
  orderly = reading_orderly text script is

  ground : IsGround plan sizes
  ground = record { pool = script_pool text script images is fit; stores = stores_law script (setting_at plan 0) healed refl; waits = healed.waits; small = small }

  -- ---- the start

  queued : AllByRecursion (IsQueued apart requests) (batches_of script.items)
  queued =
      all_lists (λ (b : List Request). IsOrderlyBatch apart b × AreRising b) (λ (b : List Request). AllByRecursion IsHealedRequest b × AllByRecursion (Contains requests) b) (IsQueued apart requests) (batches_of script.items)
      (λ b x y. record { fine = record { orderly = x.0; rising = x.1; healed = y.0 }; members = y.1 })
      (all_lists (IsOrderlyBatch apart) AreRising (λ (b : List Request). IsOrderlyBatch apart b × AreRising b) (batches_of script.items) (λ b x y. (x, y)) orderly.batches (batches_rising script.items [] orderly.rising))
      (all_lists (AllByRecursion IsHealedRequest) (AllByRecursion (Contains requests)) (λ (b : List Request). AllByRecursion IsHealedRequest b × AllByRecursion (Contains requests) b) (batches_of script.items) (λ b x y. (x, y))
      (batches_each IsHealedRequest script.items [] tt healed.requests) (batches_each (Contains requests) script.items [] tt (all_contained requests)))

  start_at : IsAt plan sizes apart requests plain total ground [] (start_state images) script.items
  start_at = record {
    on = record {
      contents = λ name. [];
      store = no_contents;
      sized = λ leaf. refl;
      safe = record { once = tt; blocks = tt; apart = tt };
      under_way = record { batch = []; before = no_contents; ready = record { each = tt; kids = tt; numbers = tt; names = tt }; waiting = tt; others = λ m none. refl };
      stands = refl;
      rest = record { replies = all_contained plain.replies; store_is = refl };
      queued = queued;
    };
    births = tt;
    few = omega (arith, few_batches script.items [], few_items text script is);
    none_held = λ none. refl;
    calm = λ past. refl;
    point = omega arith;
  }

  all_lawful : AllByRecursion (IsLawfulStart plan) (starts_of script images journal)
  all_lawful =
      let P : Round → Type 0 = λ round. AreChoicesOf (sizes_of (tops_of script images)) round.used round.asks (choices_in round.number journal) in
      all_unmap P (round_from journal) (starts_of script images journal) (subst (AllByRecursion P) (run_rounds script images journal) lawful.each)

  out : LinesOut plan sizes apart requests plain total ground course (unrun_lines plan script.items (start_state images)) (fold batch_after [] script.items) (last_reads script images journal)
  out = lines_on plan sizes apart requests plain total ground script.items (start_state images) [] (last_reads script images journal) start_at all_lawful accepts

  -- ---- the end

  past : IsPastFaults (setting_at plan last.point)
  past = past_law script (setting_at plan last.point) healed refl (omega (arith, count_is is_clear script.items, out.at.point))

  none : last.suspended ≡ []
  none = out.at.calm past

  held : last.held ≡ []
  held = out.at.none_held none

  complete : ending last ≡ Complete
  complete = ap (λ (b : Bool). ending_if b last) out.at.on.stands ∙ (λ i. left_if (has_trees (none i) || has_held (held i)))

  store_is : out.at.on.store ≡ plain.store
  store_is = (λ i. (plain_from out.at.on.store (map (λ (b : Batch). b.requests) (sym held i) ++ [])).store) ∙ out.at.on.rest.store_is

  matches : (m : List ℕ) → Matches (plain.store m) (is_bound last.bound m) (out.at.on.contents m)
  matches m =
      subst (λ (s : Store). Matches (s m) (is_bound last.bound m) (out.at.on.contents m)) store_is
      (out.at.on.under_way.others m (subst (λ (trees : List (List Pending)). AllByRecursion (NamesNot m) (requests_in trees)) (sym none) tt))

  -- ---- requests

  all_run : unrun script images journal ≡ []
  all_run = (λ i. (out.batch_is ∙ reading_ended text script is) i ++ out.all_run i)

  members : AllByRecursion (Contains requests) (ended_requests course.events)
  members = all_map (Contains requests) (λ (e : Ended). e.request) (all_ended course.events) (all_weaker (IsAnswered plain.replies requests) (λ (e : Ended). Contains requests e.request) (all_ended course.events) (λ e k. k.member) out.answered)

  all_ended_there : (r : Request) → Contains requests r → Contains (ended_requests course.events) r
  all_ended_there r listed =
      let p : Request → Bool = λ q. q.number == r.number in
      let fate : count_by p requests ≡ count_by p (ended_requests course.events) + count_by p (suspended_requests last) + count_by p (held_requests last) + count_by p (unrun script images journal) =
      fates_law p script images journal apart orderly in
      let no_suspended : count_by p (suspended_requests last) ≡ 0 = (λ i. count_by p (flat_map (map (λ (q : Pending). q.request)) (none i))) in
      let no_held : count_by p (held_requests last) ≡ 0 = (λ i. count_by p (flat_map (λ (b : Batch). b.requests) (held i))) in
      let no_unrun : count_by p (unrun script images journal) ≡ 0 = ap (count_by p) all_run in
      let here : 1 ≤ tally (λ (q : Request). one_if (q.number == r.number)) requests = number_counts (λ (q : Request). q.number) requests r listed in
      let k = with_number (λ (q : Request). q.number) r.number (ended_requests course.events) (omega (arith, fate, no_suspended, no_held, no_unrun, here, count_is p requests, count_is p (ended_requests course.events))) in
      ⊎_elim
      (λ (same : k.0 ≡ r). subst (Contains (ended_requests course.events)) same k.1)
      (λ (two : HaveNumbersApart k.0 r ⊎ HaveNumbersApart r k.0). ⊎_elim (λ (a : HaveNumbersApart k.0 r). absurd (a k.2)) (λ (b : HaveNumbersApart r k.0). absurd (b (sym k.2))) two)
      (pairs_two HaveNumbersApart requests k.0 r (rising_pairs requests orderly.rising) (all_contains (Contains requests) (ended_requests course.events) k.0 members k.1) listed)

  -- ---- blocks

  block_alike : (b : Binding) → Contains last.bound b → ReadsAlike (read_last plan last b) (plain.store b.name)
  block_alike b listed =
      let s : Setting = setting_at plan last.point in
      let t : Terms = terms_of plan last in
      let content : List ℕ = out.at.on.contents b.name in
      let block : IsSafeBlock s last.images out.ds (used_places last.bound) b.tree content =
      all_contains (λ (x : Binding). IsSafeBlock s last.images out.ds (used_places last.bound) x.tree (out.at.on.contents x.name)) last.bound b out.at.on.safe.blocks listed in
      let true_reads : AreTrue journal t out.ds (block_reads journal t last.images b.tree) =
      all_contains (λ (x : Binding). AreTrue journal t out.ds (block_reads journal t last.images x.tree)) last.bound b (last_true journal t last.images last.bound out.ds out.accepts) listed in
      reads_alike (read_last plan last b) (plain.store b.name) (is_bound last.bound b.name) content
      (read_law s sizes (used_places last.bound) b.tree content last.images ground.pool past block.own out.at.on.sized (each_weaker (IsSafe s last.images out.ds) (IsHeld s last.images) (λ c bytes x. x.held) b.tree content block.pieces))
      (true_law journal t out.ds b.tree content last.images
      (each_weaker (IsSafe s last.images out.ds) (IsGivenGood out.ds) (λ c bytes x. record { is_good = x.held.is_good; given = x.given }) b.tree content block.pieces) true_reads)
      (listed_bound last.bound b listed) (matches b.name)

  -- The run stores plainly.
  pub plainly : IsStoredPlainly script images journal
  plainly = record {
    complete = complete;
    all = all_of (Contains (ended_requests course.events)) requests all_ended_there;
    replies = all_weaker (IsAnswered plain.replies requests) (HasReply plain.replies) (all_ended course.events) (λ e k. k.reply) out.answered;
    names = λ name. bound_as (plain.store name) (is_bound last.bound name) (out.at.on.contents name) (matches name);
    blocks = all_of (λ (b : Binding). ReadsAlike (read_last plan last b) (plain.store b.name)) last.bound block_alike;
  }
