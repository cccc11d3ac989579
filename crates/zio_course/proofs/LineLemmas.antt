-- The lines that are told of a round are those of its report.
use Rattle.std.proofs.Common.{◌≡◌, ℕ, ◌+◌, ◌≤◌, List, [], ◌∷◌, ◌++◌, map, Bool, cond, Option, Some, None, eqb, eqb-true, eq-eqb, refl, sym, ap, ◌∙◌, subst, inl, inr, arith}
use Rattle.std.proofs.lemmas.Bool.{false_from_ne_true}
use Rattle.std.proofs.lemmas.List.{map-append}
use Rattle.std.specs.List.{AllByRecursion, flat_map}
use Rattle.zio_types.specs.declared.error.Errno.{Errno}
use Rattle.zio_script.specs.declared.script.Request.{Request}
use Rattle.zio_script.specs.Accepted.{AreRising}
use Rattle.zio_gang.specs.Attempts.{Ended, Pending}
use Rattle.zio_gang.specs.Rounds.{answered_with}
use Rattle.zio_report.specs.declared.report.ReportLine.{ReportLine}
use Rattle.zio_report.specs.Reports.{by_number, line_of_ended, line_of_pending}
use Rattle.zio_course.specs.declared.runner.RequestEnd.{RequestEnd}
use Rattle.zio_course.specs.Runners.{AreRisingFrom, finished_by_number, finished_of, joined_trees, requests_in}
use Rattle.zio_course.specs.Told.{finish_of, line_by, line_told}
use Rattle.zio_course.proofs.SortLemmas.{IsOneOf, IsRisingBy, counted, merge_map, one_map, one_merge, sorted_is}

-- ---- what finished, by its number

rising_above : (least : ℕ) (fs : List RequestEnd) (f : RequestEnd) → AreRisingFrom least (map (λ (g : RequestEnd). g.request) fs) → IsOneOf f fs → least ≤ f.request
rising_above least [] f rising at = absurd at
rising_above least (g ∷ gs) f rising (inl same) = subst (λ (x : RequestEnd). least ≤ x.request) same rising.0
rising_above least (g ∷ gs) f rising (inr at) =
    let later : g.request + 1 ≤ f.request = rising_above (g.request + 1) gs f rising.1 at in
    let here : least ≤ g.request = rising.0 in omega arith

-- where numbers rise, what finished is found by its number
pub found_at : (least : ℕ) (fs : List RequestEnd) (f : RequestEnd) → AreRisingFrom least (map (λ (g : RequestEnd). g.request) fs) → IsOneOf f fs → finish_of fs f.request ≡ Some f
found_at least [] f rising at = absurd at
found_at least (g ∷ gs) f rising (inl same) =
    ap (λ (b : Bool). cond b (Some g) (finish_of gs f.request)) (eq-eqb g.request f.request (ap (λ (x : RequestEnd). x.request) same)) ∙ ap Some same
found_at least (g ∷ gs) f rising (inr at) =
    let later : g.request + 1 ≤ f.request = rising_above (g.request + 1) gs f rising.1 at in
    ap (λ (b : Bool). cond b (Some g) (finish_of gs f.request))
    (false_from_ne_true (eqb g.request f.request) (λ e. let same : g.request ≡ f.request = eqb-true g.request f.request e in omega arith))
    ∙ found_at (g.request + 1) gs f rising.1 at

-- each request that ended is found among those by number
pub ended_found : (ended : List Ended) (e : Ended) → AreRisingFrom 0 (map (λ (g : RequestEnd). g.request) (finished_by_number ended)) → IsOneOf e ended
    → finish_of (finished_by_number ended) e.request.number ≡ Some (finished_of e)
ended_found ended e rising at =
    found_at 0 (finished_by_number ended) (finished_of e) rising
    (one_merge (λ (f : RequestEnd). f.request) (finished_of e) (map finished_of ended) (one_map finished_of e ended at))

-- ---- the line of each

-- a request that was told of as its line says
abbrev pub IsTold : (ℕ → Option Errno) → List RequestEnd → Ended → Type 0
IsTold error finished e = line_told error finished e.request ≡ line_of_ended e

abbrev pub IsToldWaiting : (ℕ → Option Errno) → List RequestEnd → Pending → Type 0
IsToldWaiting error finished p = line_told error finished p.request ≡ line_of_pending p

pub told_answered : (error : ℕ → Option Errno) (finished : List RequestEnd) (r : Request) (e : Errno) → error r.number ≡ Some e → IsTold error finished (answered_with e r)
told_answered error finished r e is = ap (λ (o : Option Errno). line_by o (finish_of finished r.number) r) is

pub told_ended : (error : ℕ → Option Errno) (finished : List RequestEnd) (e : Ended) → error e.request.number ≡ None
    → finish_of finished e.request.number ≡ Some (finished_of e) → IsTold error finished e
told_ended error finished e none found =
    ap (λ (o : Option Errno). line_by o (finish_of finished e.request.number) e.request) none
    ∙ ap (λ (f : Option RequestEnd). line_by None f e.request) found

pub told_waiting : (error : ℕ → Option Errno) (finished : List RequestEnd) (p : Pending) → error p.request.number ≡ None
    → finish_of finished p.request.number ≡ None → IsToldWaiting error finished p
told_waiting error finished p none lacks =
    ap (λ (o : Option Errno). line_by o (finish_of finished p.request.number) p.request) none
    ∙ ap (λ (f : Option RequestEnd). line_by None f p.request) lacks

-- ---- all lines

by_numbers : (e : Option Errno) (f : Option RequestEnd) (r : Request) → (line_by e f r).number ≡ r.number
by_numbers (Some e) f r = refl
by_numbers None None r = refl
by_numbers None (Some f) r = refl

pub rising_by : (rs : List Request) → AreRising rs → IsRisingBy (λ (r : Request). r.number) rs
rising_by [] h = tt
rising_by (r ∷ rs) h = (h.0, rising_by rs h.1)

lines_ended : (error : ℕ → Option Errno) (finished : List RequestEnd) (es : List Ended) → AllByRecursion (IsTold error finished) es
    → map line_of_ended es ≡ map (line_told error finished) (map (λ (e : Ended). e.request) es)
lines_ended error finished [] h = refl
lines_ended error finished (e ∷ es) h =
    ap (λ (l : ReportLine). l ∷ map line_of_ended es) (sym h.0) ∙ ap (λ (ls : List ReportLine). line_told error finished e.request ∷ ls) (lines_ended error finished es h.1)

lines_tree : (error : ℕ → Option Errno) (finished : List RequestEnd) (ps : List Pending) → AllByRecursion (IsToldWaiting error finished) ps
    → map line_of_pending ps ≡ map (line_told error finished) (map (λ (p : Pending). p.request) ps)
lines_tree error finished [] h = refl
lines_tree error finished (p ∷ ps) h =
    ap (λ (l : ReportLine). l ∷ map line_of_pending ps) (sym h.0) ∙ ap (λ (ls : List ReportLine). line_told error finished p.request ∷ ls) (lines_tree error finished ps h.1)

lines_left : (error : ℕ → Option Errno) (finished : List RequestEnd) (left : List (List Pending)) → AllByRecursion (λ (tree : List Pending). AllByRecursion (IsToldWaiting error finished) tree) left
    → flat_map (map line_of_pending) left ≡ map (line_told error finished) (requests_in left)
lines_left error finished [] h = refl
lines_left error finished (tree ∷ left) h =
    ap (λ (ls : List ReportLine). ls ++ flat_map (map line_of_pending) left) (lines_tree error finished tree h.0)
    ∙ (ap (λ (ls : List ReportLine). map (line_told error finished) (map (λ (p : Pending). p.request) tree) ++ ls) (lines_left error finished left h.1)
    ∙ (sym (map-append (line_told error finished) (map (λ (p : Pending). p.request) tree) (requests_in left))
    ∙ ap (map (line_told error finished)) (sym (map-append (λ (p : Pending). p.request) tree (joined_trees left)))))

-- all requests of a round: those that ended, and those that are left
abbrev pub all_requests : List Ended → List (List Pending) → List Request
all_requests ended left = map (λ (e : Ended). e.request) ended ++ requests_in left

-- Where each request of a round is one of these, whose numbers rise, and each number stands as often, the lines by number
-- are those that are told of these.
pub lines_are_told : (error : ℕ → Option Errno) (finished : List RequestEnd) (requests : List Request) (ended : List Ended) (left : List (List Pending))
    → AreRising requests
    → AllByRecursion (IsTold error finished) ended
    → AllByRecursion (λ (tree : List Pending). AllByRecursion (IsToldWaiting error finished) tree) left
    → AllByRecursion (λ (r : Request). IsOneOf r requests) (all_requests ended left)
    → ((n : ℕ) → counted (λ (r : Request). r.number) n (all_requests ended left) ≡ counted (λ (r : Request). r.number) n requests)
    → by_number (map line_of_ended ended ++ flat_map (map line_of_pending) left) ≡ map (line_told error finished) requests
lines_are_told error finished requests ended left rising told waiting among same =
    ap by_number (ap (λ (ls : List ReportLine). ls ++ flat_map (map line_of_pending) left) (lines_ended error finished ended told)
    ∙ (ap (λ (ls : List ReportLine). map (line_told error finished) (map (λ (e : Ended). e.request) ended) ++ ls) (lines_left error finished left waiting)
    ∙ sym (map-append (line_told error finished) (map (λ (e : Ended). e.request) ended) (requests_in left))))
    ∙ (merge_map (λ (r : Request). r.number) (λ (l : ReportLine). l.number) (line_told error finished)
    (λ r. by_numbers (error r.number) (finish_of finished r.number) r) (all_requests ended left)
    ∙ ap (map (line_told error finished)) (sorted_is (λ (r : Request). r.number) requests (all_requests ended left) (rising_by requests rising) among same))
