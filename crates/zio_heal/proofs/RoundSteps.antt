-- A round keeps the run beside the plain store: what ended is answered alike, and its names are as after its batch.
use Rattle.std.proofs.Common.{◌≡◌, ◌≢◌, ℕ, ◌+◌, ◌≤◌, List, length, ◌==◌, is_some, true, false, Option, Some, None, Contains, ◌⊎◌, inl, inr, ⊎_elim, refl, sym, ap, ◌∙◌, subst, arith}
use Rattle.std.proofs.lemmas.Bool.{cases_Bool, eqb-false, eqb-true}
use Rattle.std.specs.List.{AllByRecursion}
use Rattle.zio_types.specs.declared.error.Errno.{Errno}
use Rattle.zio_types.specs.declared.request.Prio.{Prio}
use Rattle.zio_types.specs.Choices.{Choice}
use Rattle.zio_blkptr.specs.declared.pointer.SumKind.{SumKind}
use Rattle.zio_script.specs.declared.script.Body.{Body}
use Rattle.zio_script.specs.declared.script.Request.{Request}
use Rattle.zio_script.specs.declared.script.Work.{Work}
use Rattle.zio_script.specs.declared.script.Work.TheVariants.{Null, Read, Write, Free, Claim}
use Rattle.zio_script.specs.Bodies.{body_of}
use Rattle.zio_script.specs.Requests.{kind_of, name_of, names_it}
use Rattle.zio_script.specs.Whys.{is_write, writes_under}
use Rattle.zio_cksum.proofs.AllLemmas.{all_contains}
use Rattle.zio_gang.specs.declared.tree.Tree.{Tree}
use Rattle.zio_gang.specs.Attempts.{Ended, Pending}
use Rattle.zio_gang.specs.Rounds.{Bound, bind, block_of, bound_after, bound_by, is_bound, settle_each, unbind}
use Rattle.zio_gang.proofs.BoundLemmas.{block_of-bind, block_of-unbind}
use Rattle.zio_gang.proofs.FateLemmas.{of_ended, of_trees, sum_flat, tally, trees_sum}
use Rattle.zio_report.specs.declared.report.LineResult.TheVariants.{Bytes}
use Rattle.zio_report.specs.Reports.{good_result, result_with, sized_by}
use Rattle.zio_trace.specs.RunTraces.{RoundStart}
use Rattle.zio_trace.specs.SoundRounds.{IsRead}
use Rattle.zio_trace.specs.TreeOrders.{Pairs}
use Rattle.zio_trace.proofs.PairLemmas.{all_of, pairs_two}
use Rattle.zio_heal.specs.Alike.{IsAlikeTo, ShowsContent}
use Rattle.zio_heal.specs.Given.{Deeds}
use Rattle.zio_heal.specs.PlainStore.{Content, Reply, Store, content_for, content_in, reply_with}
use Rattle.zio_heal.specs.SafeBlocks.{Contents}
use Rattle.zio_heal.specs.SafeRounds.{EndsAs, EndsDiffer, EndsWell, IsSafeEnd, IsSafeStart, MadeBlock, NamesWell, NumbersDiffer, requests_in}
use Rattle.zio_heal.proofs.AfterContents.{WorksApart, all_ends, apart_names, named_at_start, named_bound, two_apart}
use Rattle.zio_heal.proofs.AlikeLemmas.{alike_contents}
use Rattle.zio_heal.proofs.TreeKids.{kids_in, one_if}
use Rattle.zio_heal.proofs.BoundBlocks.{tells}
use Rattle.zio_heal.proofs.EndedBlocks.{Ends}
use Rattle.zio_heal.proofs.EndedRequests.{IsFrom}
use Rattle.zio_heal.proofs.PlainSteps.{effect}
use Rattle.zio_heal.proofs.ReadyAfter.{ChangesOther, changes_other, left_from, round_law, still_bound}
use Rattle.zio_heal.proofs.SlotLemmas.{contents_long}
use Rattle.zio_heal.proofs.UnderWay.{IsAnswered, IsUnderWay, IsWaiting, Matches, NamesNot}
use Rattle.zio_heal.proofs.RoundNames.{either_some, named_or_none, names_not, number_counts, set_in, some_same, with_number}

module _ (journal : List Choice) (sizes : ℕ → ℕ) (ds : Deeds) (contents : Contents) (s : RoundStart) (replies : List Reply) (requests batch : List Request) (before after : Store)
    (h : IsSafeStart journal sizes ds contents (kids_in batch) s)
    (waiting : AllByRecursion (λ (p : Pending). IsWaiting replies requests batch before after contents s.bound p.request) (requests_in s.trees))
    (others : (m : List ℕ) → AllByRecursion (NamesNot m) (requests_in s.trees) → Matches (after m) (is_bound s.bound m) (contents m)) where
  abbrev end : IsSafeEnd journal sizes ds contents (kids_in batch) s
  end = round_law journal sizes ds contents (kids_in batch) s h

  abbrev ended : List Ended
  ended = (settle_each journal s.terms s.trees s.images).ended

  abbrev left : List (List Pending)
  left = (settle_each journal s.terms s.trees s.images).left

  abbrev start_requests : List Pending
  start_requests = requests_in s.trees

  abbrev new_bound : Bound
  new_bound = bound_after ended s.bound

  abbrev Waits : Request → Type 0
  Waits r = IsWaiting replies requests batch before after contents s.bound r

  ends_of : (e : Ended) → Contains ended e → Ends journal sizes ds contents (kids_in batch) s h e
  ends_of e listed = all_contains (Ends journal sizes ds contents (kids_in batch) s h) ended e (all_ends journal sizes ds contents (kids_in batch) s h) listed

  well_of : (e : Ended) → Contains ended e → EndsWell end.after (kids_in batch) e
  well_of e listed = all_contains (EndsWell end.after (kids_in batch)) ended e end.ended listed

  -- the request as it stood at the start
  source_is : (e : Ended) (listed : Contains ended e) → (ends_of e listed).from.source.request ≡ e.request
  source_is e listed = (ends_of e listed).from.request ∙ sym (ends_of e listed).request

  waits_of : (e : Ended) → Contains ended e → Waits e.request
  waits_of e listed = subst Waits (source_is e listed) (all_contains (λ (p : Pending). Waits p.request) start_requests (ends_of e listed).from.source waiting (ends_of e listed).from.listed)

  left_source : (q : Pending) → Contains (requests_in left) q → IsFrom start_requests q
  left_source q lq = all_contains (IsFrom start_requests) (requests_in left) q (left_from journal sizes ds contents (kids_in batch) s h) lq

  -- requests of one number are one
  one_request : (p q : Pending) → Contains start_requests p → Contains start_requests q → p.request.number ≡ q.request.number → p.request ≡ q.request
  one_request p q cp cq same =
      ⊎_elim
      (λ (one : p ≡ q). ap (λ (x : Pending). x.request) one)
      (λ (two : NumbersDiffer p q ⊎ NumbersDiffer q p). ⊎_elim (λ (a : NumbersDiffer p q). absurd (a same)) (λ (b : NumbersDiffer q p). absurd (b (sym same))) two)
      (pairs_two NumbersDiffer start_requests p q h.ready.numbers cp cq)

  -- each request ended or is left
  ended_or_left : (p : Pending) → Contains start_requests p → ((e : Ended) × Contains ended e × (e.request ≡ p.request)) ⊎ ((q : Pending) × Contains (requests_in left) q × (q.request ≡ p.request))
  ended_or_left p listed =
      let n : ℕ = p.request.number in
      let f : Request → ℕ = λ r. one_if (r.number == n) in
      let sum : of_ended f ended + of_trees f left ≡ of_trees f s.trees = trees_sum f journal s.terms s.trees s.images in
      let here : 1 ≤ tally (λ (q : Pending). f q.request) start_requests = number_counts (λ (q : Pending). q.request.number) start_requests p listed in
      let flat : tally (λ (q : Pending). f q.request) start_requests ≡ of_trees f s.trees = sum_flat (λ (q : Pending). f q.request) (λ (tree : List Pending). tree) s.trees in
      let flat_left : tally (λ (q : Pending). f q.request) (requests_in left) ≡ of_trees f left = sum_flat (λ (q : Pending). f q.request) (λ (tree : List Pending). tree) left in
      ⊎_elim
      (λ (some : 1 ≤ of_ended f ended).
      let k = with_number (λ (e : Ended). e.request.number) n ended some in
      inl (
        k.0,
        k.1,
        sym (source_is k.0 k.1)
            ∙ one_request (ends_of k.0 k.1).from.source p (ends_of k.0 k.1).from.listed listed (ap (λ (r : Request). r.number) (source_is k.0 k.1) ∙ k.2),
      ))
      (λ (some : 1 ≤ tally (λ (q : Pending). f q.request) (requests_in left)).
      let k = with_number (λ (q : Pending). q.request.number) n (requests_in left) some in
      let from : IsFrom start_requests k.0 = left_source k.0 k.1 in
      inr (k.0, k.1, sym from.request ∙ one_request from.source p from.listed listed (ap (λ (r : Request). r.number) from.request ∙ k.2)))
      (either_some (of_ended f ended) (tally (λ (q : Pending). f q.request) (requests_in left)) (omega (arith, sum, here, flat, flat_left)))

  -- ---- names after the round

  not_changed : (m : List ℕ) → AllByRecursion (ChangesOther m) ended → (o : Option Content) → Matches o (is_bound s.bound m) (contents m) → Matches o (is_bound new_bound m) (end.after m)
  not_changed m all None k = ap (λ (t : Option Tree). is_some t) (still_bound m ended s.bound all) ∙ k
  not_changed m all (Some c) k = (ap (λ (t : Option Tree). is_some t) (still_bound m ended s.bound all) ∙ k.0, subst (IsAlikeTo c) (sym (end.others m k.0)) k.1)

  left_waits : (q : Pending) → Contains (requests_in left) q → IsWaiting replies requests batch before after end.after new_bound q.request
  left_waits q lq =
      let from : IsFrom start_requests q = left_source q lq in
      let w : Waits q.request = subst Waits from.request (all_contains (λ (p : Pending). Waits p.request) start_requests from.source waiting from.listed) in
      record {
        member = w.member;
        reply = w.reply;
        changes = w.changes;
        matches = λ m named. not_changed m (changes_other journal sizes ds contents (kids_in batch) s h q m lq named) (before m) (w.matches m named);
        kids = w.kids;
      }

  -- two that ended have names of their own, or both read
  ends_apart : (f e : Ended) → Contains ended f → Contains ended e → f.request.number ≢ e.request.number → WorksApart f.request.work e.request.work ⊎ WorksApart e.request.work f.request.work
  ends_apart f e lf le ne = two_apart journal sizes ds contents (kids_in batch) s h f e (ends_of f lf) (ends_of e le) ne

  others_leave : (e : Ended) (m : List ℕ) → Contains ended e → name_of e.request.work ≡ Some m → (f : Ended) → Contains ended f → e.request.number ≢ f.request.number → ChangesOther m f
  others_leave e m le named f lf ne = record {
    none = (well_of f lf).none;
    other = λ n no_read is same. apart_names f.request.work e.request.work n m (ends_apart f e lf le (λ k. ne (sym k))) no_read is named (sym same);
  }

  -- a request that only reads leaves its name too
  read_leaves : (e : Ended) (m : List ℕ) → Contains ended e → name_of e.request.work ≡ Some m → IsRead e.request.work → (f : Ended) → Contains ended f → ChangesOther m f
  read_leaves e m le named reads f lf =
      ⊎_elim
      (λ (same : (e.request.number == f.request.number) ≡ true).
      let one : e.request ≡ f.request =
      sym (source_is e le)
      ∙ one_request (ends_of e le).from.source (ends_of f lf).from.source (ends_of e le).from.listed (ends_of f lf).from.listed
      (ap (λ (r : Request). r.number) (source_is e le) ∙ eqb-true e.request.number f.request.number same ∙ ap (λ (r : Request). r.number) (sym (source_is f lf)))
      ∙ source_is f lf in
      record { none = (well_of f lf).none; other = λ n no_read is k. no_read (subst (λ (r : Request). IsRead r.work) one reads) })
      (λ (differ : (e.request.number == f.request.number) ≡ false). others_leave e m le named f lf (eqb-false e.request.number f.request.number differ))
      (cases_Bool (e.request.number == f.request.number))

  distinct : Pairs EndsDiffer ended
  distinct = (tells journal sizes ds contents (kids_in batch) s h).distinct

  set_to : (e : Ended) (m : List ℕ) (o : Option Tree) → Contains ended e → name_of e.request.work ≡ Some m → ((b : Bound) → block_of (bound_by e.request.work e.tree b) m ≡ o) → block_of new_bound m ≡ o
  set_to e m o le named sets = set_in m o ended e s.bound le distinct (others_leave e m le named) (well_of e le).none sets

  made_of : (e : Ended) (le : Contains ended e) (name : List ℕ) (sum : SumKind) (copies : ℕ) (prio : Prio) (body : Body) → e.request.work ≡ Write name sum copies prio body → MadeBlock end.after (kids_in batch e.request.number) name body e.tree
  made_of e le name sum copies prio body is = subst (EndsAs end.after (kids_in batch) e) is (well_of e le).answered

  -- as many pointers as zeros in the plain store
  many_of : (e : Ended) (le : Contains ended e) (name : List ℕ) (sum : SumKind) (copies : ℕ) (prio : Prio) (body : Body) (is : e.request.work ≡ Write name sum copies prio body)
      → length (made_of e le name sum copies prio body is).content.pointers ≡ writes_under batch e.request.number
  many_of e le name sum copies prio body is = (made_of e le name sum copies prio body is).content.many ∙ (waits_of e le).kids (ap (λ (w : Work). is_write (kind_of w)) is)

  ended_matches : (e : Ended) (m : List ℕ) (work : Work) → Contains ended e → e.request.work ≡ work → name_of work ≡ Some m → Matches (after m) (is_bound new_bound m) (end.after m)
  ended_matches e m Null le is named = absurd (let no : None ≡ Some m = named in cc)
  ended_matches e m (Read name prio) le is named =
      let named_e : name_of e.request.work ≡ Some m = ap name_of is ∙ named in
      let w : Waits e.request = waits_of e le in
      subst (λ (o : Option Content). Matches o (is_bound new_bound m) (end.after m)) (sym (w.changes m named_e ∙ ap (λ (v : Work). effect batch e.request v (before m)) is))
      (not_changed m (all_of (ChangesOther m) ended (read_leaves e m le named_e (subst IsRead (sym is) tt))) (before m) (w.matches m named_e))
  ended_matches e m (Write name sum copies prio body) le is named =
      let named_e : name_of e.request.work ≡ Some m = ap name_of is ∙ named in
      let w : Waits e.request = waits_of e le in
      let made : MadeBlock end.after (kids_in batch e.request.number) name body e.tree = made_of e le name sum copies prio body is in
      let same : name ≡ m = some_same name m named in
      let block : block_of new_bound m ≡ Some made.tree =
      set_to e m (Some made.tree) le named_e
      (λ b. ap (λ (v : Work). block_of (bound_by v e.tree b) m) is ∙ ap (λ (t : Option Tree). block_of (bound_by (Write name sum copies prio body) t b) m) made.is
      ∙ ap (λ (n : List ℕ). block_of (bind name made.tree b) n) (sym same) ∙ block_of-bind name made.tree b) in
      subst (λ (o : Option Content). Matches o (is_bound new_bound m) (end.after m)) (sym (w.changes m named_e ∙ ap (λ (v : Work). effect batch e.request v (before m)) is)) (
        ap (λ (t : Option Tree). is_some t) block,
        subst (λ (n : List ℕ). IsAlikeTo (content_in batch e.request body) (end.after n)) same
            (subst (IsAlikeTo (content_in batch e.request body)) (sym made.content.is) (alike_contents batch e.request body made.content.pointers made.content.slots (many_of e le name sum copies prio body is))),
      )
  ended_matches e m (Free name) le is named =
      let named_e : name_of e.request.work ≡ Some m = ap name_of is ∙ named in
      let same : name ≡ m = some_same name m named in
      let block : block_of new_bound m ≡ None =
      set_to e m None le named_e
      (λ b. ap (λ (v : Work). block_of (bound_by v e.tree b) m) is ∙ ap (λ (n : List ℕ). block_of (unbind name b) n) (sym same) ∙ block_of-unbind name b) in
      subst (λ (o : Option Content). Matches o (is_bound new_bound m) (end.after m)) (sym ((waits_of e le).changes m named_e ∙ ap (λ (v : Work). effect batch e.request v (before m)) is))
      (ap (λ (t : Option Tree). is_some t) block)
  ended_matches e m (Claim name pointer) le is named = absurd (subst (EndsAs end.after (kids_in batch) e) is (well_of e le).answered)

  others_match : (m : List ℕ) → AllByRecursion (NamesNot m) (requests_in left) → Matches (after m) (is_bound new_bound m) (end.after m)
  others_match m none_left =
      ⊎_elim
      (λ (k : (p : Pending) × Contains start_requests p × (name_of p.request.work ≡ Some m)).
      ⊎_elim
      (λ (e : (e : Ended) × Contains ended e × (e.request ≡ k.0.request)). ended_matches e.0 m e.0.request.work e.1 refl (ap (λ (r : Request). name_of r.work) e.2 ∙ k.2))
      (λ (q : (q : Pending) × Contains (requests_in left) q × (q.request ≡ k.0.request)).
      absurd (names_not (name_of q.0.request.work) m m (all_contains (NamesNot m) (requests_in left) q.0 none_left q.1) (ap (λ (r : Request). name_of r.work) q.2 ∙ k.2) refl))
      (ended_or_left k.0 k.1))
      (λ (none : AllByRecursion (NamesNot m) start_requests).
      not_changed m
      (all_of (ChangesOther m) ended
      (λ e le. record {
        none = (well_of e le).none;
        other = λ n no_read is.
            names_not (name_of e.request.work) m n
            (subst (λ (r : Request). names_it (name_of r.work) (Some m) ≡ false) (source_is e le) (all_contains (NamesNot m) start_requests (ends_of e le).from.source none (ends_of e le).from.listed)) is;
      }))
      (after m) (others m none))
      (named_or_none m start_requests)

  -- The batch goes on being under way.
  pub under_way_after : IsUnderWay replies requests end.after new_bound left after
  under_way_after = record {
    batch = batch;
    before = before;
    ready = end.ready;
    waiting = all_of (λ (q : Pending). IsWaiting replies requests batch before after end.after new_bound q.request) (requests_in left) left_waits;
    others = others_match;
  }

  -- ---- replies

  read_shows : (o : Option Content) (m bytes : List ℕ) → Matches o (is_bound s.bound m) (contents m) → is_bound s.bound m ≡ true → bytes ≡ contents m → ShowsContent (Bytes bytes) o
  read_shows None m bytes k bound is = absurd (let no : false ≡ true = sym k ∙ bound in cc)
  read_shows (Some c) m bytes k bound is = subst (IsAlikeTo c) (sym is) k.1

  shows : (e : Ended) (work : Work) → Contains ended e → e.request.work ≡ work → ShowsContent (good_result (kind_of work) e) (content_for batch e.request work before)
  shows e Null le is = refl
  shows e (Read name prio) le is =
      let named : name_of e.request.work ≡ Some name = ap name_of is in
      let at : NamesWell s.bound (Read name prio) (ends_of e le).from.source.block = named_at_start journal sizes ds contents (kids_in batch) s h e (ends_of e le) (Read name prio) is in
      let bound : is_bound s.bound name ≡ true = named_bound journal sizes ds contents (kids_in batch) s h name (ends_of e le).from.source.block at in
      let gave : e.bytes ≡ end.after name = subst (EndsAs end.after (kids_in batch) e) is (well_of e le).answered in
      read_shows (before name) name e.bytes ((waits_of e le).matches name named) bound (gave ∙ end.others name bound)
  shows e (Write name sum copies prio body) le is =
      let made : MadeBlock end.after (kids_in batch e.request.number) name body e.tree = made_of e le name sum copies prio body is in
      subst (λ (t : Option Tree). ShowsContent (sized_by t) (Some (content_in batch e.request body))) (sym made.is)
      (made.size ∙ ap length made.content.is ∙ contents_long made.content.pointers (writes_under batch e.request.number) (body_of body) made.content.slots (many_of e le name sum copies prio body is))
  shows e (Free name) le is = refl
  shows e (Claim name pointer) le is = absurd (subst (EndsAs end.after (kids_in batch) e) is (well_of e le).answered)

  -- Whatever ended is answered alike.
  pub answered_after : AllByRecursion (IsAnswered replies requests) ended
  answered_after =
      all_of (IsAnswered replies requests) ended
      (λ e le. record {
        reply = record {
          reply = reply_with None batch before e.request;
          listed = (waits_of e le).reply;
          alike = record {
            number = refl;
            shown = subst (λ (error : Option Errno). ShowsContent (result_with error e) (content_for batch e.request e.request.work before)) (sym (well_of e le).none) (shows e e.request.work le refl);
          };
        };
        member = (waits_of e le).member;
      })
