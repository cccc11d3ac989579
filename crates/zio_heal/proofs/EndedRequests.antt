-- Where each request that ended in a round did its own work: what came before, and that what follows is by others.
use Rattle.std.proofs.Common.{◌≡◌, ◌≢◌, ℕ, zero, suc, ◌+◌, List, [], ◌∷◌, ◌++◌, map, Bool, true, false, Option, None, Contains, refl, sym, ap, ◌∙◌, subst, append_assoc, append-nil}
use Rattle.std.specs.List.{AllByRecursion}
use Rattle.zio_types.specs.declared.error.Errno.{Errno}
use Rattle.zio_types.specs.declared.request.Bits.{Bits}
use Rattle.zio_types.specs.Choices.{Choice}
use Rattle.zio_types.specs.Errors.{worst_of}
use Rattle.zio_blkptr.specs.declared.pointer.Bp.{Bp}
use Rattle.zio_script.specs.declared.script.Request.{Request}
use Rattle.zio_cksum.specs.Images.{Images}
use Rattle.zio_cksum.proofs.AllLemmas.{all_append, all_contains, all_weaker}
use Rattle.zio_gang.specs.Attempts.{Attempt, Attempted, Child, Ended, Own, Pending, Return, Settled, Terms, attempt_each, attempt_one, closed_if, now_alone, own_work, root_bits, settle_from, settled_if, tree_unless}
use Rattle.zio_gang.specs.Trees.{sizes_of}
use Rattle.zio_trace.specs.Plans.{plan, plan_own}
use Rattle.zio_trace.specs.Programs.{Deed, Done, Happen, run}
use Rattle.zio_trace.specs.RoundTraces.{Trace, again_if, attempt_trace, is_single_or_piece, levels_max, own_trace, pointers_after, settle_trace, task_trace}
use Rattle.zio_trace.specs.Separate.{IsNoClaim}
use Rattle.zio_trace.specs.Tasks.{OwnGot, Task, Value, means}
use Rattle.zio_trace.specs.TreeOrders.{Pairs}
use Rattle.zio_trace.proofs.ChoiceLemmas.{Answers}
use Rattle.zio_trace.proofs.DownLemmas.{Gives, down_gives, each_gives}
use Rattle.zio_trace.proofs.PairLemmas.{all_of, pairs_append}
use Rattle.zio_trace.proofs.RequestLemmas.{own_run, plan_run}
use Rattle.zio_trace.proofs.TraceLemmas.{happen_join}
use Rattle.zio_heal.specs.Pools.{IsPool}
use Rattle.zio_heal.specs.SafeRounds.{EndsDiffer, NumbersDiffer}
use Rattle.zio_heal.proofs.KidsLemmas.{AreAll, LeftKids, PointersFit, tree_kids}
use Rattle.zio_heal.proofs.OwnTraces.{OfRequest, of_same, own_of}
use Rattle.zio_heal.proofs.WrittenLemmas.{both_none}

-- ---- requests

-- the request as it stood at the round's start, where it may have kept fewer children
pub record IsFrom (Q : List Pending) (q : Pending) : Type 0 where
  pub source : Pending
  pub listed : Contains Q source
  pub request : source.request ≡ q.request
  pub block : source.block ≡ q.block
  pub birth : source.birth ≡ q.birth

-- what holds of a request whatever children it keeps
abbrev pub IsStable : (Pending → Type 0) → Type 0
IsStable P = (p : Pending) (kept : List Child) → P p → P (record p { kept = kept })

pub from_stable : (Q : List Pending) → IsStable (IsFrom Q)
from_stable Q p kept h = record { source = h.source; listed = h.listed; request = h.request; block = h.block; birth = h.birth }

module _ (journal : List Choice) (t : Terms) (Q : List Pending) (children : ℕ → ℕ) where
  abbrev own_ds : ℕ → Pending → List (Option Bp) → Images → Trace
  own_ds attempt p pointers images = own_trace is_single_or_piece journal t attempt p pointers images

  -- the deed is of one of these requests, of such a number
  pub record IsBy (N : ℕ → Type 0) (d : Deed Task Value) : Type 0 where
    pub by : Pending
    pub listed : Contains Q by
    pub number : N by.request.number
    pub of : OfRequest journal t by d.op d.answer

  abbrev pub AreBy : (ℕ → Type 0) → Trace → Type 0
  AreBy N ds = AllByRecursion (IsBy N) ds

  -- The request did its own work within these deeds, from the images that those before it lead to, and ended by it; the
  -- deeds behind it are of other requests.
  pub record EndsIn (start : Images) (ds : Trace) (e : Ended) : Type 0 where
    pub front : Trace
    pub rest : Trace
    pub p : Pending
    pub attempt : ℕ
    pub pointers : List (Option Bp)
    pub images : Images
    pub is : ds ≡ front ++ (own_ds attempt p pointers images ++ rest)
    pub from : IsFrom Q p
    pub all : AreAll children p pointers
    pub request : e.request ≡ p.request
    pub happen : Happen (means journal t) front start images
    pub fine : e.error ≡ None → (own_work journal t attempt p p.request.work pointers images).error ≡ None
    pub bytes : e.bytes ≡ (own_work journal t attempt p p.request.work pointers images).bytes
    pub tree : e.tree ≡ tree_unless e.error (own_work journal t attempt p p.request.work pointers images).tree
    pub later : AreBy (λ (n : ℕ). n ≢ e.request.number) rest

  -- the same among more deeds
  pub ends_more : (before start : Images) (es ds fs : Trace) (e : Ended) → Happen (means journal t) es before start → AreBy (λ (n : ℕ). n ≢ e.request.number) fs → EndsIn start ds e → EndsIn before (es ++ (ds ++ fs)) e
  ends_more before start es ds fs e happen later h =
      let own : Trace = own_ds h.attempt h.p h.pointers h.images in
      record {
        front = es ++ h.front;
        rest = h.rest ++ fs;
        p = h.p;
        attempt = h.attempt;
        pointers = h.pointers;
        images = h.images;
        is =
            ap (λ (xs : Trace). es ++ (xs ++ fs)) h.is
            ∙ ap (λ (xs : Trace). es ++ xs) (append_assoc h.front (own ++ h.rest) fs ∙ ap (λ (xs : Trace). h.front ++ xs) (append_assoc own h.rest fs))
            ∙ sym (append_assoc es h.front (own ++ (h.rest ++ fs)));
        from = h.from;
        all = h.all;
        request = h.request;
        happen = happen_join (means journal t) es h.front before start h.images happen h.happen;
        fine = h.fine;
        bytes = h.bytes;
        tree = h.tree;
        later = all_append (IsBy (λ (n : ℕ). n ≢ e.request.number)) h.rest fs h.later later;
      }

  module _ (sizes : ℕ → ℕ) (pool : IsPool sizes t.setting.tops) (answers : Answers journal (sizes_of t.setting.tops) t.used t.round) (claims : AllByRecursion (λ (p : Pending). IsNoClaim p.request.work) Q) where
    -- ---- one request

    pub own_happens : (attempt : ℕ) (p : Pending) (pointers : List (Option Bp)) (images : Images) → Happen (means journal t) (own_ds attempt p pointers images) images (own_work journal t attempt p p.request.work pointers images).images
    own_happens attempt p pointers images =
        let gives : Gives (means journal t) (plan t) is_single_or_piece (own_ds attempt p pointers images) images (run (means journal t) (plan_own t attempt p p.request.work pointers) images).images _ =
        each_gives (means journal t) (plan t) is_single_or_piece (task_trace is_single_or_piece journal t) (down_gives (means journal t) (plan t) is_single_or_piece (plan_run journal t) levels_max) (plan_own t attempt p p.request.work pointers) images in
        subst (λ (d : Done OwnGot). Happen (means journal t) (own_ds attempt p pointers images) images d.images) (own_run journal t attempt p p.request.work pointers images) gives.happen

    pub own_by : (N : ℕ → Type 0) (attempt : ℕ) (p : Pending) (pointers : List (Option Bp)) (images : Images) → IsFrom Q p → N p.request.number → AreBy N (own_ds attempt p pointers images)
    own_by N attempt p pointers images from number =
        let no_claim : IsNoClaim p.request.work = subst (λ (r : Request). IsNoClaim r.work) from.request (all_contains (λ (q : Pending). IsNoClaim q.request.work) Q from.source claims from.listed) in
        all_weaker (λ (d : Deed Task Value). OfRequest journal t p d.op d.answer) (IsBy N) (own_ds attempt p pointers images)
        (λ d h. record {
          by = from.source;
          listed = from.listed;
          number = subst (λ (r : Request). N r.number) (sym from.request) number;
          of = of_same journal t p from.source d.op d.answer (sym from.request) (sym from.block) h;
        })
        (own_of journal t p attempt pointers images no_claim)

    -- what a request that was attempted comes to
    record TellsOne (start : Images) (ds : Trace) (p : Pending) (one : Attempted) : Type 1 where
      ended : AllByRecursion (EndsIn start ds) one.ended
      number : AllByRecursion (λ (e : Ended). e.request.number ≡ p.request.number) one.ended
      again : (P : Pending → Type 0) → IsStable P → P p → AllByRecursion P one.again
      either : AllByRecursion (λ (e : Ended). one.again ≡ []) one.ended
      single : Pairs NumbersDiffer one.again
      distinct : Pairs EndsDiffer one.ended
      happen : Happen (means journal t) ds start one.images

    closed_tells : (b : Bool) (attempt : ℕ) (p : Pending) (pointers : List (Option Bp)) (images : Images) (bits : Bits) (kept : List Child) → IsFrom Q p → AreAll children p pointers
        → TellsOne images (own_ds attempt p pointers images) p (closed_if b p (own_work journal t attempt p p.request.work pointers images) bits kept)
    closed_tells true attempt p pointers images bits kept from all = record {
      ended = tt;
      number = tt;
      again = λ P stable h. (stable p kept h, tt);
      either = tt;
      single = (tt, tt);
      distinct = tt;
      happen = own_happens attempt p pointers images;
    }
    closed_tells false attempt p pointers images bits kept from all =
        let own : Own = own_work journal t attempt p p.request.work pointers images in
        let rest : Option Errno = worst_of (map (λ (c : Child). c.error) kept) in
        record {
          ended = (
            record {
              front = [];
              rest = [];
              p = p;
              attempt = attempt;
              pointers = pointers;
              images = images;
              is = sym (append-nil (own_ds attempt p pointers images));
              from = from;
              all = all;
              request = refl;
              happen = refl;
              fine = λ none. (both_none own.error rest none).0;
              bytes = refl;
              tree = refl;
              later = tt;
            },
            tt,
          );
          number = (refl, tt);
          again = λ P stable h. tt;
          either = (refl, tt);
          single = tt;
          distinct = (tt, tt);
          happen = own_happens attempt p pointers images;
        }

    one_tells : (attempt : ℕ) (p : Pending) (returns : List Return) (images : Images) → IsFrom Q p → AreAll children p (pointers_after p returns) → TellsOne images (own_ds attempt p (pointers_after p returns) images) p (attempt_one journal t attempt p returns images)
    one_tells attempt p returns images from all = closed_tells _ attempt p (pointers_after p returns) images _ _ from all

    -- ---- an attempt

    pub attempt_by : (N : ℕ → Type 0) (attempt : ℕ) (ps : List Pending) (returns : List Return) (images : Images) → AllByRecursion (IsFrom Q) ps → AllByRecursion (λ (p : Pending). N p.request.number) ps
        → AreBy N (attempt_trace is_single_or_piece journal t attempt ps returns images)
    attempt_by N attempt [] returns images from numbers = tt
    attempt_by N attempt (p ∷ ps) returns images from numbers =
        let one : Attempted = attempt_one journal t attempt p returns images in
        all_append (IsBy N) (own_ds attempt p (pointers_after p returns) images) (attempt_trace is_single_or_piece journal t attempt ps (one.return ∷ returns) one.images)
        (own_by N attempt p (pointers_after p returns) images from.0 numbers.0)
        (attempt_by N attempt ps (one.return ∷ returns) one.images from.1 numbers.1)

    -- what an attempt comes to
    pub record Tells (start : Images) (ds : Trace) (ps : List Pending) (ended : List Ended) (left : List Pending) (after : Images) : Type 1 where
      pub all : AllByRecursion (EndsIn start ds) ended
      pub numbers : (N : ℕ → Type 0) → AllByRecursion (λ (p : Pending). N p.request.number) ps → AllByRecursion (λ (e : Ended). N e.request.number) ended
      pub again : (P : Pending → Type 0) → IsStable P → AllByRecursion P ps → AllByRecursion P left
      pub apart : AllByRecursion (λ (e : Ended). AllByRecursion (λ (q : Pending). q.request.number ≢ e.request.number) left) ended
      pub pairs : Pairs NumbersDiffer left
      pub distinct : Pairs EndsDiffer ended
      pub happen : Happen (means journal t) ds start after

    pub number_stable : (N : ℕ → Type 0) → IsStable (λ (p : Pending). N p.request.number)
    number_stable N p kept h = h

    -- numbers that differ from a request's differ from that of what ended of it
    others : (p : Pending) (ends : List Ended) (qs : List Pending) → AllByRecursion (λ (e : Ended). e.request.number ≡ p.request.number) ends → AllByRecursion (λ (q : Pending). p.request.number ≢ q.request.number) qs
        → AllByRecursion (λ (e : Ended). AllByRecursion (λ (q : Pending). q.request.number ≢ e.request.number) qs) ends
    others p ends qs same differ =
        all_weaker (λ (e : Ended). e.request.number ≡ p.request.number) (λ (e : Ended). AllByRecursion (λ (q : Pending). q.request.number ≢ e.request.number) qs) ends
        (λ e k. all_weaker (λ (q : Pending). p.request.number ≢ q.request.number) (λ (q : Pending). q.request.number ≢ e.request.number) qs (λ q ne f. ne (sym k ∙ sym f)) differ) same

    each_tells : (attempt : ℕ) (ps : List Pending) (returns : List Return) (images : Images) → AllByRecursion (IsFrom Q) ps → Pairs NumbersDiffer ps → PointersFit journal t children sizes pool answers attempt ps returns images
        → Tells images (attempt_trace is_single_or_piece journal t attempt ps returns images) ps (attempt_each journal t attempt ps returns images).ended (attempt_each journal t attempt ps returns images).again (attempt_each journal t attempt ps returns images).images
    unfolding attempt_each
    each_tells attempt [] returns images from pairs fit = record { all = tt; numbers = λ N h. tt; again = λ P stable h. tt; apart = tt; pairs = tt; distinct = tt; happen = refl }
    each_tells attempt (p ∷ ps) returns images from pairs fit =
        let one : Attempted = attempt_one journal t attempt p returns images in
        let own : Trace = own_ds attempt p (pointers_after p returns) images in
        let more : Trace = attempt_trace is_single_or_piece journal t attempt ps (one.return ∷ returns) one.images in
        let a : Attempt = attempt_each journal t attempt ps (one.return ∷ returns) one.images in
        let first : TellsOne images own p one = one_tells attempt p returns images from.0 fit.0 in
        let rest : Tells one.images more ps a.ended a.again a.images = each_tells attempt ps (one.return ∷ returns) one.images from.1 pairs.1 fit.1 in
        let again_others : AllByRecursion (λ (q : Pending). p.request.number ≢ q.request.number) a.again =
        rest.again (λ (q : Pending). p.request.number ≢ q.request.number) (λ q kept h. h) pairs.0 in
        record {
          all = all_append (EndsIn images (own ++ more)) one.ended a.ended
              (all_of (EndsIn images (own ++ more)) one.ended
              (λ e c.
              let same : e.request.number ≡ p.request.number = all_contains (λ (x : Ended). x.request.number ≡ p.request.number) one.ended e first.number c in
              ends_more images images [] own more e refl
              (attempt_by (λ (n : ℕ). n ≢ e.request.number) attempt ps (one.return ∷ returns) one.images from.1
              (all_weaker (NumbersDiffer p) (λ (q : Pending). q.request.number ≢ e.request.number) ps (λ q ne f. ne (sym same ∙ sym f)) pairs.0))
              (all_contains (EndsIn images own) one.ended e first.ended c)))
              (all_weaker (EndsIn one.images more) (EndsIn images (own ++ more)) a.ended
              (λ e h. subst (λ (xs : Trace). EndsIn images (own ++ xs) e) (append-nil more) (ends_more images one.images own more [] e first.happen tt h)) rest.all);
          numbers = λ N h.
              all_append (λ (e : Ended). N e.request.number) one.ended a.ended
              (all_weaker (λ (e : Ended). e.request.number ≡ p.request.number) (λ (e : Ended). N e.request.number) one.ended (λ e same. subst N (sym same) h.0) first.number) (rest.numbers N h.1);
          again = λ P stable h. all_append P one.again a.again (first.again P stable h.0) (rest.again P stable h.1);
          apart = all_append (λ (e : Ended). AllByRecursion (λ (q : Pending). q.request.number ≢ e.request.number) (one.again ++ a.again)) one.ended a.ended
              (all_of (λ (e : Ended). AllByRecursion (λ (q : Pending). q.request.number ≢ e.request.number) (one.again ++ a.again)) one.ended
              (λ e c.
              subst (λ (xs : List Pending). AllByRecursion (λ (q : Pending). q.request.number ≢ e.request.number) (xs ++ a.again)) (sym (all_contains (λ (x : Ended). one.again ≡ []) one.ended e first.either c))
              (all_contains (λ (x : Ended). AllByRecursion (λ (q : Pending). q.request.number ≢ x.request.number) a.again) one.ended e (others p one.ended a.again first.number again_others) c)))
              (all_of (λ (e : Ended). AllByRecursion (λ (q : Pending). q.request.number ≢ e.request.number) (one.again ++ a.again)) a.ended
              (λ e c.
              let differs : p.request.number ≢ e.request.number = all_contains (λ (x : Ended). p.request.number ≢ x.request.number) a.ended e (rest.numbers (λ (n : ℕ). p.request.number ≢ n) pairs.0) c in
              all_append (λ (q : Pending). q.request.number ≢ e.request.number) one.again a.again
              (first.again (λ (q : Pending). q.request.number ≢ e.request.number) (λ q kept h. h) differs)
              (all_contains (λ (x : Ended). AllByRecursion (λ (q : Pending). q.request.number ≢ x.request.number) a.again) a.ended e rest.apart c)));
          pairs = pairs_append NumbersDiffer one.again a.again first.single rest.pairs
              (λ x y cx cy.
              all_contains (λ (q : Pending). x.request.number ≢ q.request.number) a.again y
              (all_contains (λ (q : Pending). AllByRecursion (λ (z : Pending). q.request.number ≢ z.request.number) a.again) one.again x
              (first.again (λ (q : Pending). AllByRecursion (λ (z : Pending). q.request.number ≢ z.request.number) a.again) (λ q kept h. h) again_others) cx) cy);
          distinct = pairs_append EndsDiffer one.ended a.ended first.distinct rest.distinct
              (λ x y cx cy same.
              all_contains (λ (e : Ended). p.request.number ≢ e.request.number) a.ended y (rest.numbers (λ (n : ℕ). p.request.number ≢ n) pairs.0) cy
              (sym (all_contains (λ (e : Ended). e.request.number ≡ p.request.number) one.ended x first.number cx) ∙ same));
          happen = happen_join (means journal t) own more images one.images a.images first.happen rest.happen;
        }

    -- ---- all attempts of a round

    pub settle_by : (N : ℕ → Type 0) (more attempt : ℕ) (ps : List Pending) (images : Images) → AllByRecursion (IsFrom Q) ps → Pairs NumbersDiffer ps → LeftKids journal t children sizes pool answers ps → AllByRecursion (λ (p : Pending). N p.request.number) ps
        → AreBy N (settle_trace more is_single_or_piece journal t attempt ps images)
    settle_by N zero attempt ps images from pairs kids numbers = attempt_by N attempt ps [] images from numbers
    settle_by N (suc more) attempt ps images from pairs kids numbers =
        let a : Attempt = attempt_each journal t attempt ps [] images in
        let out = tree_kids journal t children sizes pool answers attempt ps images kids.kids kids.fitting in
        let first : Tells images (attempt_trace is_single_or_piece journal t attempt ps [] images) ps a.ended a.again a.images = each_tells attempt ps [] images from pairs out.fit in
        all_append (IsBy N) (attempt_trace is_single_or_piece journal t attempt ps [] images) (again_if (now_alone (root_bits a.returns)) a (settle_trace more is_single_or_piece journal t (attempt + 1)))
        (attempt_by N attempt ps [] images from numbers)
        (again_by (now_alone (root_bits a.returns)) a (settle_trace more is_single_or_piece journal t (attempt + 1))
        (settle_by N more (attempt + 1) a.again a.images (first.again (IsFrom Q) (from_stable Q) from) first.pairs (record { kids = out.kids; fitting = out.fitting }) (first.again (λ (p : Pending). N p.request.number) (number_stable N) numbers)))
      where
        again_by : (b : Bool) (a : Attempt) (trace : List Pending → Images → Trace) → AreBy N (trace a.again a.images) → AreBy N (again_if b a trace)
        again_by true a trace h = h
        again_by false a trace h = tt

    again_tells : (b : Bool) (a : Attempt) (ds : Trace) (ps : List Pending) (images : Images) (trace : List Pending → Images → Trace) (again : List Pending → Images → Settled) → Tells images ds ps a.ended a.again a.images
        → Tells a.images (trace a.again a.images) a.again (again a.again a.images).ended (again a.again a.images).left (again a.again a.images).images
        → ((N : ℕ → Type 0) → AllByRecursion (λ (p : Pending). N p.request.number) a.again → AreBy N (trace a.again a.images))
        → Tells images (ds ++ again_if b a trace) ps (settled_if b a again).ended (settled_if b a again).left (settled_if b a again).images
    again_tells false a ds ps images trace again first later by = subst (λ (xs : Trace). Tells images xs ps a.ended a.again a.images) (sym (append-nil ds)) first
    again_tells true a ds ps images trace again first later by =
        let more : Trace = trace a.again a.images in
        let s : Settled = again a.again a.images in
        record {
          all = all_append (EndsIn images (ds ++ more)) a.ended s.ended
              (all_of (EndsIn images (ds ++ more)) a.ended
              (λ e c. ends_more images images [] ds more e refl
              (by (λ (n : ℕ). n ≢ e.request.number) (all_contains (λ (x : Ended). AllByRecursion (λ (q : Pending). q.request.number ≢ x.request.number) a.again) a.ended e first.apart c))
              (all_contains (EndsIn images ds) a.ended e first.all c)))
              (all_weaker (EndsIn a.images more) (EndsIn images (ds ++ more)) s.ended
              (λ e h. subst (λ (xs : Trace). EndsIn images (ds ++ xs) e) (append-nil more) (ends_more images a.images ds more [] e first.happen tt h)) later.all);
          numbers = λ N h. all_append (λ (e : Ended). N e.request.number) a.ended s.ended (first.numbers N h) (later.numbers N (first.again (λ (p : Pending). N p.request.number) (number_stable N) h));
          again = λ P stable h. later.again P stable (first.again P stable h);
          apart = all_append (λ (e : Ended). AllByRecursion (λ (q : Pending). q.request.number ≢ e.request.number) s.left) a.ended s.ended
              (all_weaker (λ (e : Ended). AllByRecursion (λ (q : Pending). q.request.number ≢ e.request.number) a.again) (λ (e : Ended). AllByRecursion (λ (q : Pending). q.request.number ≢ e.request.number) s.left) a.ended
              (λ e h. later.again (λ (q : Pending). q.request.number ≢ e.request.number) (λ q kept k. k) h) first.apart)
              later.apart;
          pairs = later.pairs;
          distinct = pairs_append EndsDiffer a.ended s.ended first.distinct later.distinct
              (λ x y cx cy same.
              all_contains (λ (e : Ended). e.request.number ≢ x.request.number) s.ended y
              (later.numbers (λ (n : ℕ). n ≢ x.request.number) (all_contains (λ (e : Ended). AllByRecursion (λ (q : Pending). q.request.number ≢ e.request.number) a.again) a.ended x first.apart cx)) cy (sym same));
          happen = happen_join (means journal t) ds more images a.images s.images first.happen later.happen;
        }

    pub settle_tells : (more attempt : ℕ) (ps : List Pending) (images : Images) → AllByRecursion (IsFrom Q) ps → Pairs NumbersDiffer ps → LeftKids journal t children sizes pool answers ps
        → Tells images (settle_trace more is_single_or_piece journal t attempt ps images) ps (settle_from more journal t attempt ps images).ended (settle_from more journal t attempt ps images).left (settle_from more journal t attempt ps images).images
    unfolding settle_from
    settle_tells zero attempt ps images from pairs kids = each_tells attempt ps [] images from pairs (tree_kids journal t children sizes pool answers attempt ps images kids.kids kids.fitting).fit
    settle_tells (suc more) attempt ps images from pairs kids =
        let a : Attempt = attempt_each journal t attempt ps [] images in
        let out = tree_kids journal t children sizes pool answers attempt ps images kids.kids kids.fitting in
        let left : LeftKids journal t children sizes pool answers a.again = record { kids = out.kids; fitting = out.fitting } in
        let first : Tells images (attempt_trace is_single_or_piece journal t attempt ps [] images) ps a.ended a.again a.images = each_tells attempt ps [] images from pairs out.fit in
        let again_from : AllByRecursion (IsFrom Q) a.again = first.again (IsFrom Q) (from_stable Q) from in
        again_tells (now_alone (root_bits a.returns)) a (attempt_trace is_single_or_piece journal t attempt ps [] images) ps images (settle_trace more is_single_or_piece journal t (attempt + 1)) (settle_from more journal t (attempt + 1)) first
        (settle_tells more (attempt + 1) a.again a.images again_from first.pairs left)
        (λ N h. settle_by N more (attempt + 1) a.again a.images again_from first.pairs left h)
