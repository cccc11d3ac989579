-- A batch that runs where nothing is suspended, and the suspended trees of one, keep what holds of the run.
use Rattle.std.proofs.Common.{◌≡◌, ℕ, ◌^◌, ◌<◌, ◌≤◌, List, [], ◌∷◌, ◌++◌, ◌&&◌, is_some, Bool, false, Option, Some, None, Contains, refl, sym, ap, subst}
use Rattle.std.specs.List.{AllByRecursion}
use Rattle.zio_types.specs.Choices.{Choice}
use Rattle.zio_script.specs.declared.script.Failmode.{Failmode}
use Rattle.zio_script.specs.declared.script.Request.{Request}
use Rattle.zio_script.specs.Requests.{name_of, names_it}
use Rattle.zio_cksum.proofs.AllLemmas.{all_append, all_contained, all_contains}
use Rattle.zio_gang.specs.Attempts.{Pending}
use Rattle.zio_gang.specs.Rounds.{admitted, is_bound, settle_each, trees_of}
use Rattle.zio_gang.specs.Runs.{Batch, Course, Plan, State, has_trees, is_panic, run_batch, run_suspended}
use Rattle.zio_trace.specs.RunTraces.{RoundStart, batch_start, suspended_start}
use Rattle.zio_trace.specs.TreeOrders.{Pairs}
use Rattle.zio_trace.proofs.ListLemmas.{all_front, all_rest}
use Rattle.zio_trace.proofs.PairLemmas.{all_of}
use Rattle.zio_heal.specs.Given.{AreTrueReads, Deeds}
use Rattle.zio_heal.specs.PlainStore.{Content, Plain, Reply, Store, has_content, replies_of, reply_with, store_after}
use Rattle.zio_heal.specs.SafeRounds.{IsSafeEnd, IsSafeStart, deeds_in, requests_in}
use Rattle.zio_heal.proofs.BatchReady.{IsFineBatch, all_enter, all_entered, batch_ready, kids_are_writes, let_requests}
use Rattle.zio_heal.proofs.BatchTrees.{HaveWorksApart, trees_members, trees_names}
use Rattle.zio_heal.proofs.TreeKids.{kids_in}
use Rattle.zio_heal.proofs.TreeLists.{flat_all, flat_trees, trees_all}
use Rattle.zio_heal.proofs.EndedBlocks.{true_first, true_later}
use Rattle.zio_heal.proofs.PlainSteps.{answered_alike, run_replies, store_named, store_other}
use Rattle.zio_heal.proofs.ReadyAfter.{round_law}
use Rattle.zio_heal.proofs.RoundSteps.{answered_after, under_way_after}
use Rattle.zio_heal.proofs.RunStates.{IsGround, IsLawfulStart, OnAt, RoundOut}
use Rattle.zio_heal.proofs.UnderWay.{IsAnswered, IsUnderWay, IsWaiting, Matches, NamesNot}

-- a name that matches is bound exactly where the plain store has it
pub bound_as : (o : Option Content) (b : Bool) (bytes : List ℕ) → Matches o b bytes → b ≡ is_some o
bound_as None b bytes h = h
bound_as (Some c) b bytes h = h.0

module _ (plan : Plan) (sizes : ℕ → ℕ) (apart : Bool) (requests : List Request) (plain : Plain) (ground : IsGround plan sizes) where
  abbrev journal : List Choice
  journal = plan.journal

  abbrev Out : Course → List (List Request) → Deeds → Type 0
  Out c queue more = RoundOut plan sizes apart requests plain c queue more

  abbrev On : Deeds → State → List (List Request) → Type 0
  On ds st queue = OnAt plan sizes apart requests plain ds st queue

  no_panic : (left : List (List Pending)) → (is_panic plan.failmode && has_trees left) ≡ false
  no_panic left = ap (λ (mode : Failmode). is_panic mode && has_trees left) ground.waits

  -- ---- a batch

  module _ (batch : Batch) (queue : List (List Request)) (given : State) (ds more : Deeds) where
    -- nothing is suspended
    abbrev quiet_state : State
    quiet_state = record given { suspended = [] }

    abbrev start : RoundStart
    start = batch_start plan batch quiet_state

    module _ (on : On ds quiet_state (batch.requests ∷ queue)) (some : 1 ≤ batch.number) (born : batch.number < 2 ^ 64) (lawful : IsLawfulStart plan start) (accepts : AreTrueReads ds (deeds_in journal start ++ more)) where
      abbrev fine : IsFineBatch apart batch.requests
      fine = on.queued.0.fine

      abbrev later : Store
      later = store_after on.store batch.requests

      abbrev Listed : Request → Type 0
      Listed r = Contains (let_requests apart batch.requests fine given.bound batch.number some born) r

      matches : (m : List ℕ) → Matches (on.store m) (is_bound given.bound m) (on.contents m)
      matches m = on.under_way.others m tt

      names_are : is_bound given.bound ≡ has_content on.store
      names_are i m = bound_as (on.store m) (is_bound given.bound m) (on.contents m) (matches m) i

      abbrev safe_start : IsSafeStart journal sizes ds on.contents (kids_in batch.requests) start
      safe_start = record {
        pool = ground.pool;
        sizes_are = on.sized;
        stores = ground.stores;
        used = refl;
        safe = on.safe;
        ready = batch_ready apart batch.requests fine given.bound batch.number some born;
        lawful = lawful;
        accepts = true_first ds (deeds_in journal start) more accepts;
      }

      -- replies of the batch are among all
      reply_there : (reply : Reply) → Contains (replies_of on.store batch.requests) reply → Contains plain.replies reply
      reply_there reply listed = all_contains (Contains plain.replies) (replies_of on.store batch.requests) reply (all_front (Contains plain.replies) (replies_of on.store batch.requests) _ on.rest.replies) listed

      abbrev Replied : Request → Type 0
      Replied r = Contains (replies_of on.store batch.requests) (reply_with None batch.requests on.store r)

      replied : AllByRecursion Replied (let_requests apart batch.requests fine given.bound batch.number some born)
      replied =
          subst (λ (test : List ℕ → Bool). AllByRecursion Replied (flat_trees (admitted [] test (trees_of batch.requests)).trees)) (sym names_are)
          (flat_all Replied (admitted [] (has_content on.store) (trees_of batch.requests)).trees (run_replies batch.requests on.store))

      waits : (r : Request) → Contains batch.requests r → Replied r → Listed r → IsWaiting plain.replies requests batch.requests on.store later on.contents given.bound r
      waits r member reply listed = record {
        member = all_contains (Contains requests) batch.requests r on.queued.0.members member;
        reply = reply_there (reply_with None batch.requests on.store r) reply;
        changes = λ m named.
            store_named batch.requests on.store m r
            (subst (λ (test : List ℕ → Bool). Pairs HaveWorksApart (flat_trees (admitted [] test (trees_of batch.requests)).trees)) names_are (trees_names apart batch.requests [] (is_bound given.bound) fine.orderly.parents fine.rising fine.orderly.names))
            (subst (λ (test : List ℕ → Bool). Contains (flat_trees (admitted [] test (trees_of batch.requests)).trees) r) names_are listed) named;
        matches = λ m named. matches m;
        kids = λ writes. kids_are_writes batch.requests fine.rising r member writes fine.orderly.parents;
      }

      waiting : AllByRecursion (λ (p : Pending). IsWaiting plain.replies requests batch.requests on.store later on.contents given.bound p.request) (requests_in start.trees)
      waiting =
          all_enter apart batch.requests fine given.bound batch.number some born (λ (p : Pending). IsWaiting plain.replies requests batch.requests on.store later on.contents given.bound p.request)
          (all_of (λ (r : Request). IsWaiting plain.replies requests batch.requests on.store later on.contents given.bound r) (let_requests apart batch.requests fine given.bound batch.number some born)
          (λ r listed.
          waits r
          (all_contains (Contains batch.requests) (let_requests apart batch.requests fine given.bound batch.number some born) r (trees_members batch.requests [] (is_bound given.bound)) listed)
          (all_contains Replied (let_requests apart batch.requests fine given.bound batch.number some born) r replied listed) listed))

      others : (m : List ℕ) → AllByRecursion (NamesNot m) (requests_in start.trees) → Matches (later m) (is_bound given.bound m) (on.contents m)
      others m none =
          let not_named : AllByRecursion (λ (r : Request). names_it (name_of r.work) (Some m) ≡ false) (let_requests apart batch.requests fine given.bound batch.number some born) =
          all_entered apart batch.requests fine given.bound batch.number some born (NamesNot m) none in
          subst (λ (o : Option Content). Matches o (is_bound given.bound m) (on.contents m))
          (sym (store_other batch.requests on.store m
          (subst (λ (test : List ℕ → Bool). AllByRecursion (λ (r : Request). names_it (name_of r.work) (Some m) ≡ false) (flat_trees (admitted [] test (trees_of batch.requests)).trees)) names_are not_named)))
          (matches m)

      answered : AllByRecursion (IsAnswered plain.replies requests) start.answered
      answered =
          subst (λ (test : List ℕ → Bool). AllByRecursion (IsAnswered plain.replies requests) (admitted [] test (trees_of batch.requests)).answered) (sym names_are)
          (answered_alike batch.requests on.store (IsAnswered plain.replies requests)
          (λ x r reply member. record {
            reply = record { reply = reply.reply; listed = reply_there reply.reply reply.listed; alike = reply.alike };
            member = all_contains (Contains requests) batch.requests r on.queued.0.members member;
          })
          (trees_all (Contains batch.requests) batch.requests [] (all_contained batch.requests) tt))

      abbrev end : IsSafeEnd journal sizes ds on.contents (kids_in batch.requests) start
      end = round_law journal sizes ds on.contents (kids_in batch.requests) start safe_start

      quiet_batch : Out (run_batch plan batch quiet_state) queue more
      quiet_batch = record {
        ds = ds ++ deeds_in journal start;
        on = record {
          contents = end.after;
          store = later;
          sized = end.sizes_are;
          safe = end.safe;
          under_way = under_way_after journal sizes ds on.contents start plain.replies requests batch.requests on.store later safe_start waiting others;
          stands = no_panic (settle_each journal start.terms start.trees start.images).left;
          rest = record { replies = all_rest (Contains plain.replies) (replies_of on.store batch.requests) _ on.rest.replies; store_is = on.rest.store_is };
          queued = on.queued.1;
        };
        accepts = true_later ds (deeds_in journal start) more accepts;
        answered =
            all_append (IsAnswered plain.replies requests) (start.answered ++ (settle_each journal start.terms start.trees start.images).ended) []
            (all_append (IsAnswered plain.replies requests) start.answered (settle_each journal start.terms start.trees start.images).ended answered
            (answered_after journal sizes ds on.contents start plain.replies requests batch.requests on.store later safe_start waiting others)) tt;
        calm = λ past. end.clean past ground.small;
      }

  -- A batch where nothing is suspended.
  pub batch_on : (batch : Batch) (queue : List (List Request)) (st : State) (ds more : Deeds) → st.suspended ≡ [] → On ds st (batch.requests ∷ queue) → 1 ≤ batch.number → batch.number < 2 ^ 64
      → IsLawfulStart plan (batch_start plan batch st) → AreTrueReads ds (deeds_in journal (batch_start plan batch st) ++ more) → Out (run_batch plan batch st) queue more
  batch_on batch queue st ds more none on some born lawful accepts =
      let same : record st { suspended = [] } ≡ st = λ i. record st { suspended = sym none i } in
      let Claim : State → Type 0 =
      λ now. On ds now (batch.requests ∷ queue) → IsLawfulStart plan (batch_start plan batch now) → AreTrueReads ds (deeds_in journal (batch_start plan batch now) ++ more) → Out (run_batch plan batch now) queue more in
      subst Claim same (λ o l a. quiet_batch batch queue st ds more o some born l a) on lawful accepts

  -- ---- what is suspended

  -- The suspended trees.
  pub suspended_on : (queue : List (List Request)) (st : State) (ds more : Deeds) → On ds st queue → IsLawfulStart plan (suspended_start plan st) → AreTrueReads ds (deeds_in journal (suspended_start plan st) ++ more)
      → Out (run_suspended plan st) queue more
  suspended_on queue st ds more on lawful accepts =
      let s : RoundStart = suspended_start plan st in
      let way : IsUnderWay plain.replies requests on.contents st.bound st.suspended on.store = on.under_way in
      let safe_start : IsSafeStart journal sizes ds on.contents (kids_in way.batch) s = record {
        pool = ground.pool;
        sizes_are = on.sized;
        stores = ground.stores;
        used = refl;
        safe = on.safe;
        ready = way.ready;
        lawful = lawful;
        accepts = true_first ds (deeds_in journal s) more accepts;
      } in
      let end : IsSafeEnd journal sizes ds on.contents (kids_in way.batch) s = round_law journal sizes ds on.contents (kids_in way.batch) s safe_start in
      record {
        ds = ds ++ deeds_in journal s;
        on = record {
          contents = end.after;
          store = on.store;
          sized = end.sizes_are;
          safe = end.safe;
          under_way = under_way_after journal sizes ds on.contents s plain.replies requests way.batch way.before on.store safe_start way.waiting way.others;
          stands = no_panic (settle_each journal s.terms s.trees s.images).left;
          rest = on.rest;
          queued = on.queued;
        };
        accepts = true_later ds (deeds_in journal s) more accepts;
        answered =
            all_append (IsAnswered plain.replies requests) (settle_each journal s.terms s.trees s.images).ended []
            (answered_after journal sizes ds on.contents s plain.replies requests way.batch way.before on.store safe_start way.waiting way.others) tt;
        calm = λ past. end.clean past ground.small;
      }
