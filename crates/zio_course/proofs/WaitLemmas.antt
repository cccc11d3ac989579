-- Trees that wait for the next `clear`: they are runnable, and what a round leaves waits so.
use Rattle.std.proofs.Common.{◌≡◌, ℕ, ◌+◌, ◌≤◌, List, [], ◌∷◌, ◌++◌, map, filter, count_by, Bool, true, false, ◌&&◌, not, cond, Option, Some, None, eqb, eqb-true, refl, sym, ap, ◌∙◌, subst, inl, inr, ◌⊎◌, arith, Contains}
use Rattle.std.specs.Prelude.{is_none, is_some}
use Rattle.std.specs.List.{AllByRecursion, flat_map}
use Rattle.zio_types.specs.declared.error.Errno.{Errno}
use Rattle.zio_types.specs.declared.place.Place.{Place}
use Rattle.zio_types.specs.declared.request.Kind.{Kind}
use Rattle.zio_types.specs.declared.request.Kind.TheVariants.{Null as NullKind, Read as ReadKind, Write as WriteKind, Free as FreeKind, Claim as ClaimKind}
use Rattle.zio_script.specs.declared.script.Request.{Request}
use Rattle.zio_script.specs.declared.script.Work.{Work}
use Rattle.zio_script.specs.Accepted.{NameApart}
use Rattle.zio_script.specs.Requests.{kind_of, makes_block, name_of, names_it, needs_block}
use Rattle.zio_script.specs.Whys.{clashes, is_read, may_share}
use Rattle.zio_cksum.proofs.AllLemmas.{all_append, all_map, all_weaker, all_true}
use Rattle.zio_gang.specs.declared.tree.Tree.{Tree}
use Rattle.zio_gang.specs.Attempts.{Ended, Pending}
use Rattle.zio_gang.specs.Rounds.{block_if, block_of, bound_after, passes}
use Rattle.zio_report.specs.Reports.{good_result, result_with, sized_by}
use Rattle.zio_course.specs.declared.runner.RequestEnd.{RequestEnd}
use Rattle.zio_course.specs.Folds.{AreSuspended, waiting_by, waiting_of}
use Rattle.zio_course.specs.Forests.{names_of}
use Rattle.zio_course.specs.Live.{IsLive, IsRoundOver}
use Rattle.zio_course.specs.Names.{is_some_name, named_in}
use Rattle.zio_course.specs.Runners.{AreRunnable, IsRoundEnd, SeenEnd, Standing, has_claim, is_numbered, joined_trees, numbers_of, places_of_block, requests_in, rows_tell_apart}
use Rattle.zio_course.specs.Told.{ended_as, ended_told, finish_of, line_by, line_told, no_error}
use Rattle.zio_course.proofs.AdmittedLemmas.{not_both, rising_kept}
use Rattle.zio_course.proofs.BlockLemmas.{named_between, named_own}
use Rattle.zio_course.proofs.CourseLemmas.{once_counted}
use Rattle.zio_course.proofs.DoneLemmas.{contains_one, one_contains}
use Rattle.zio_course.proofs.EndLemmas.{times, times_is}
use Rattle.zio_course.proofs.LeftLemmas.{RestIn, counted_left, left_times, once_in, rests_each, rests_in, rests_rising, rests_roots, roots_there}
use Rattle.zio_course.proofs.LiveLemmas.{ToldEnd, told_ends}
use Rattle.zio_course.proofs.MadeLemmas.{filtered_one}
use Rattle.zio_course.proofs.PlantLemmas.{named_of}
use Rattle.zio_course.proofs.RunnableLemmas.{apart_of, block_live, clash_swap}
use Rattle.zio_course.proofs.SortLemmas.{IsOneOf, all_one, counted, one_all, one_itself}
use Rattle.zio_course.proofs.ToldLemmas.{kept_of}
use Rattle.zio_course.proofs.TouchLemmas.{Changes, after_untouched, changes, not_shared, touch, two_apart}

-- ---- they are runnable

flat_live : (live : List Place) (ps : List Pending) → AllByRecursion (λ (p : Pending). AllByRecursion (Contains live) (places_of_block p.block)) ps
    → AllByRecursion (Contains live) (flat_map (λ (p : Pending). places_of_block p.block) ps)
flat_live live [] h = tt
flat_live live (p ∷ ps) h = all_append (Contains live) (places_of_block p.block) (flat_map (λ (q : Pending). places_of_block q.block) ps) h.0 (flat_live live ps h.1)

pub suspended_runnable : (s : Standing) (bound : List (List ℕ × Tree)) (suspended : List (List Pending)) (unfinished : List Request)
    → AreSuspended (rows_tell_apart s.rows) bound suspended unfinished → IsLive s.live bound → AreRunnable s suspended
suspended_runnable s bound suspended unfinished w live =
    let few : (n : ℕ) → count_by (λ (r : Request). eqb r.number n) (requests_in suspended) ≤ 1 = λ n.
    (let one = once_in n suspended in
    let same = w.numbers.each n in
    let left = counted_left n unfinished in
    let most : counted (λ (r : Request). r.number) n unfinished ≤ 1 = once_counted n unfinished w.numbers.rising in omega arith) in
    let names : NameApart (rows_tell_apart s.rows) (requests_in suspended) =
    apart_of (rows_tell_apart s.rows) unfinished (requests_in suspended) w.over.names
    (all_weaker (Contains unfinished) (λ (r : Request). IsOneOf r unfinished) (requests_in suspended) (λ r h. contains_one r unfinished h) w.numbers.among)
    (λ n. let a = once_in n suspended in let b = counted_left n (requests_in suspended) in let c = few n in omega arith) in
    record {
      each = w.each;
      rising = w.rising;
      once = few;
      apart = names;
      claim = λ has. not_both (has_claim (requests_in suspended)) has w.claims;
      live = flat_live s.live (joined_trees suspended)
          (all_weaker (λ (p : Pending). p.block ≡ block_if (needs_block p.request.work) (name_of p.request.work) (names_of bound)) (λ (p : Pending). AllByRecursion (Contains s.live) (places_of_block p.block)) (joined_trees suspended)
          (λ p is. subst (λ (o : Option Tree). AllByRecursion (Contains s.live) (places_of_block o)) (sym is) (block_live s.live bound (needs_block p.request.work) (name_of p.request.work) live.there)) w.over.blocks);
      under = w.under;
      own = named_own s.live bound live (joined_trees suspended) w.over.blocks;
      between = named_between s.live bound live (joined_trees suspended) w.over.blocks;
    }

-- ---- which requests wait

-- the request was neither answered nor finished
abbrev pub is_left : (ℕ → Option Errno) → List RequestEnd → Request → Bool
is_left error finished r = is_none (error r.number) && is_none (finish_of finished r.number)

shown_sized : (tree : Option Tree) (r : Request) → waiting_by (sized_by tree) r ≡ []
shown_sized None r = refl
shown_sized (Some t) r = refl

shown_good : (kind : Kind) (e : Ended) (r : Request) → waiting_by (good_result kind e) r ≡ []
shown_good NullKind e r = refl
shown_good ReadKind e r = refl
shown_good WriteKind e r = shown_sized e.tree r
shown_good FreeKind e r = refl
shown_good ClaimKind e r = refl

shown_ended : (error : Option Errno) (e : Ended) (r : Request) → waiting_by (result_with error e) r ≡ []
shown_ended None e r = shown_good (kind_of e.request.work) e r
shown_ended (Some x) e r = refl

shown_line : (e : Option Errno) (f : Option RequestEnd) (r : Request) (rest : List Request) → waiting_by (line_by e f r).result r ++ rest ≡ cond (is_none e && is_none f) (r ∷ rest) rest
shown_line (Some x) f r rest = refl
shown_line None None r rest = refl
shown_line None (Some f) r rest = ap (λ (rs : List Request). rs ++ rest) (shown_ended f.error (ended_as r f) r)

pub waiting_told : (error : ℕ → Option Errno) (finished : List RequestEnd) (rs : List Request) → waiting_of rs (map (line_told error finished) rs) ≡ filter (is_left error finished) rs
waiting_told error finished [] = refl
waiting_told error finished (r ∷ rs) =
    ap (λ (qs : List Request). waiting_by (line_told error finished r).result r ++ qs) (waiting_told error finished rs)
    ∙ shown_line (error r.number) (finish_of finished r.number) r (filter (is_left error finished) rs)

apart_kept : (apart : Bool) (test : Request → Bool) (rs : List Request) → NameApart apart rs → NameApart apart (filter test rs)
apart_kept apart test [] h = tt
apart_kept apart test (r ∷ rs) h = go (test r) (apart_kept apart test rs h.1)
  where
    all_kept : (qs : List Request) → AllByRecursion (λ (q : Request). clashes apart q.work r.work ≡ false) qs → AllByRecursion (λ (q : Request). clashes apart q.work r.work ≡ false) (filter test qs)
    all_kept [] k = tt
    all_kept (q ∷ qs) k = here (test q) (all_kept qs k.1)
      where
        here : (b : Bool) → AllByRecursion (λ (x : Request). clashes apart x.work r.work ≡ false) (filter test qs)
            → AllByRecursion (λ (x : Request). clashes apart x.work r.work ≡ false) (cond b (q ∷ filter test qs) (filter test qs))
        here true rest = (k.0, rest)
        here false rest = rest

    go : (b : Bool) → NameApart apart (filter test rs) → NameApart apart (cond b (r ∷ filter test rs) (filter test rs))
    go true rest = (all_kept rs h.0, rest)
    go false rest = rest

-- how often a number stands among those that wait: by whether this request is of the number, was not answered and didn't finish
own_waits : (n : ℕ) (r : Request) (waits runs : List Request) (free left : Bool) → times n (numbers_of waits) ≡ cond left (times n (numbers_of runs)) 0
    → times n (numbers_of (cond (free && left) (r ∷ waits) waits)) ≡ cond left (times n (numbers_of (cond free (r ∷ runs) runs))) 0
own_waits n r waits runs true true h = ap (λ (m : ℕ). cond (eqb r.number n) (1 + m) m) h
own_waits n r waits runs true false h = h
own_waits n r waits runs false true h = h
own_waits n r waits runs false false h = h

other_waits : (n : ℕ) (r : Request) (waits runs : List Request) (free left mine : Bool) → eqb r.number n ≡ false → times n (numbers_of waits) ≡ cond mine (times n (numbers_of runs)) 0
    → times n (numbers_of (cond (free && left) (r ∷ waits) waits)) ≡ cond mine (times n (numbers_of (cond free (r ∷ runs) runs))) 0
other_waits n r waits runs true true true e h =
    ap (λ (b : Bool). cond b (1 + times n (numbers_of waits)) (times n (numbers_of waits))) e
    ∙ (h ∙ ap (λ (b : Bool). cond b (1 + times n (numbers_of runs)) (times n (numbers_of runs))) (sym e))
other_waits n r waits runs true true false e h = ap (λ (b : Bool). cond b (1 + times n (numbers_of waits)) (times n (numbers_of waits))) e ∙ h
other_waits n r waits runs true false true e h = h ∙ ap (λ (b : Bool). cond b (1 + times n (numbers_of runs)) (times n (numbers_of runs))) (sym e)
other_waits n r waits runs true false false e h = h
other_waits n r waits runs false left mine e h = h

next_waits : (error : ℕ → Option Errno) (finished : List RequestEnd) (n : ℕ) (r : Request) (waits runs : List Request) (own : Bool) → eqb r.number n ≡ own
    → times n (numbers_of waits) ≡ cond (is_none (finish_of finished n)) (times n (numbers_of runs)) 0
    → times n (numbers_of (cond (is_none (error r.number) && is_none (finish_of finished r.number)) (r ∷ waits) waits))
    ≡ cond (is_none (finish_of finished n)) (times n (numbers_of (cond (is_none (error r.number)) (r ∷ runs) runs))) 0
next_waits error finished n r waits runs true e h =
    let same : r.number ≡ n = eqb-true r.number n e in
    subst (λ (m : ℕ). times n (numbers_of (cond (is_none (error r.number) && is_none (finish_of finished m)) (r ∷ waits) waits))
    ≡ cond (is_none (finish_of finished n)) (times n (numbers_of (cond (is_none (error r.number)) (r ∷ runs) runs))) 0) (sym same)
    (own_waits n r waits runs (is_none (error r.number)) (is_none (finish_of finished n)) h)
next_waits error finished n r waits runs false e h = other_waits n r waits runs (is_none (error r.number)) (is_none (finish_of finished r.number)) (is_none (finish_of finished n)) e h

none_waits : (b : Bool) (n : ℕ) → n ≡ cond b n n
none_waits true n = refl
none_waits false n = refl

waiting_times : (error : ℕ → Option Errno) (finished : List RequestEnd) (n : ℕ) (rs : List Request)
    → times n (numbers_of (filter (is_left error finished) rs)) ≡ cond (is_none (finish_of finished n)) (times n (numbers_of (kept_of error rs))) 0
waiting_times error finished n [] = none_waits (is_none (finish_of finished n)) 0
waiting_times error finished n (r ∷ rs) =
    next_waits error finished n r (filter (is_left error finished) rs) (kept_of error rs) (eqb r.number n) refl (waiting_times error finished n rs)

-- what finished with a number, by how often it stands there
no_finish : (n : ℕ) (fs : List RequestEnd) → times n (map (λ (f : RequestEnd). f.request) fs) ≡ 0 → finish_of fs n ≡ None
no_finish n [] h = refl
no_finish n (f ∷ fs) h = go (eqb f.request n) h (no_finish n fs)
  where
    go : (b : Bool) → cond b (1 + times n (map (λ (g : RequestEnd). g.request) fs)) (times n (map (λ (g : RequestEnd). g.request) fs)) ≡ 0
        → (times n (map (λ (g : RequestEnd). g.request) fs) ≡ 0 → finish_of fs n ≡ None) → cond b (Some f) (finish_of fs n) ≡ None
    go true none later = absurd (omega arith)
    go false none later = later none

some_finish : (n : ℕ) (fs : List RequestEnd) (f : RequestEnd) → finish_of fs n ≡ Some f → 1 ≤ times n (map (λ (g : RequestEnd). g.request) fs)
some_finish n [] f h = absurd (let no = h in cc)
some_finish n (g ∷ fs) f h = go (eqb g.request n) h (some_finish n fs f)
  where
    go : (b : Bool) → cond b (Some g) (finish_of fs n) ≡ Some f → (finish_of fs n ≡ Some f → 1 ≤ times n (map (λ (x : RequestEnd). x.request) fs))
        → 1 ≤ cond b (1 + times n (map (λ (x : RequestEnd). x.request) fs)) (times n (map (λ (x : RequestEnd). x.request) fs))
    go true is later = omega arith
    go false is later = later is

none_times : (n : ℕ) (fs : List RequestEnd) → finish_of fs n ≡ None → times n (map (λ (f : RequestEnd). f.request) fs) ≡ 0
none_times n [] h = refl
none_times n (f ∷ fs) h = go (eqb f.request n) h (none_times n fs)
  where
    go : (b : Bool) → cond b (Some f) (finish_of fs n) ≡ None → (finish_of fs n ≡ None → times n (map (λ (g : RequestEnd). g.request) fs) ≡ 0)
        → cond b (1 + times n (map (λ (g : RequestEnd). g.request) fs)) (times n (map (λ (g : RequestEnd). g.request) fs)) ≡ 0
    go true none later = absurd (let no = none in cc)
    go false none later = later none

-- ---- what a round leaves

-- a request that changes a name clashes with one that names it
clash_named : (apart : Bool) (v w : Work) (name : List ℕ) → Changes v name → name_of w ≡ Some name → clashes apart v w ≡ true
clash_named apart v w name c named =
    let names : names_it (name_of v) (name_of w) ≡ true =
    ap (λ (o : Option (List ℕ)). names_it o (name_of w)) c.names ∙ (ap (λ (o : Option (List ℕ)). names_it (Some c.own) o) named ∙ c.is) in
    let shares : may_share apart v w ≡ false = ap (λ (b : Bool). not apart && b && is_read (kind_of w)) c.reads ∙ not_shared apart (is_read (kind_of w)) in
    ap (λ (b : Bool). b && not (may_share apart v w)) names ∙ ap (λ (b : Bool). true && not b) shares

module _ (apart : Bool) (requests : List Request) (error : ℕ → Option Errno) (finished : List RequestEnd) (bound after : List (List ℕ × Tree)) (names : NameApart apart requests)
    (told : (name : List ℕ) → named_in after name ≡ block_of (bound_after (ended_told error finished requests) (names_of bound)) name) where
  -- no request that finished changes a name of one that waits
  pub untouched : (q : Request) (name : List ℕ) → IsOneOf q requests → finish_of finished q.number ≡ None → name_of q.work ≡ Some name → named_in after name ≡ named_in bound name
  untouched q name at waits named =
      told name
      ∙ (after_untouched (ended_told error finished requests) (names_of bound) name
      (all_weaker (ToldEnd error finished requests) (λ (e : Ended). touch name e ≡ None) (ended_told error finished requests) (λ e t. leaves e t (touch name e) refl)
      (told_ends error finished requests requests (one_itself requests)))
      ∙ sym (named_of name bound))
    where
      leaves : (e : Ended) → ToldEnd error finished requests e → (o : Option (Option Tree)) → touch name e ≡ o → o ≡ None
      leaves e t None is = refl
      leaves e t (Some made) is =
          let c : Changes e.request.work name = changes e name made is in
          absurd (go (two_apart apart requests e.request q names t.inside at))
        where
          go : (e.request ≡ q) ⊎ ((clashes apart e.request.work q.work ≡ false) ⊎ (clashes apart q.work e.request.work ≡ false)) → ⊥
          go (inl same) = (let no = sym t.found ∙ (ap (λ (r : Request). finish_of finished r.number) same ∙ waits) in cc)
          go (inr (inl free)) = not_both (clashes apart e.request.work q.work) (clash_named apart e.request.work q.work name (changes e name made is) named) free
          go (inr (inr free)) = not_both (clashes apart e.request.work q.work) (clash_named apart e.request.work q.work name (changes e name made is) named) (clash_swap apart e.request.work q.work ∙ free)

block_same : (needs : Bool) (name : Option (List ℕ)) (a b : List (List ℕ × Tree)) → ((n : List ℕ) → name ≡ Some n → named_in a n ≡ named_in b n) → block_if needs name (names_of a) ≡ block_if needs name (names_of b)
block_same true (Some name) a b same = sym (named_of name a) ∙ (same name refl ∙ named_of name b)
block_same true None a b same = refl
block_same false name a b same = refl

passes_same : (name : Option (List ℕ)) (a b : List (List ℕ × Tree)) → ((n : List ℕ) → name ≡ Some n → named_in a n ≡ named_in b n) → passes (is_some_name a) name ≡ passes (is_some_name b) name
passes_same None a b same = refl
passes_same (Some n) a b same = ap is_some (same n refl)

-- what is known of a request that is left
record LeftOf (bound : List (List ℕ × Tree)) (error : ℕ → Option Errno) (requests : List Request) (finished : List RequestEnd) (q : Pending) : Type 0 where
  inside : IsOneOf q.request requests
  free : error q.request.number ≡ None
  waits : finish_of finished q.request.number ≡ None
  block : q.block ≡ block_if (needs_block q.request.work) (name_of q.request.work) (names_of bound)
  lacks : makes_block q.request.work ≡ true → passes (is_some_name bound) (name_of q.request.work) ≡ false

-- What a round leaves of runnable trees waits for the next `clear`.
pub left_suspended : (s : Standing) (round : ℕ) (apart : Bool) (trees : List (List Pending)) (end : SeenEnd) (requests : List Request) (error : ℕ → Option Errno) (bound after : List (List ℕ × Tree))
    → AreRunnable s trees → IsRoundEnd s round trees end → IsRoundOver apart bound error requests trees
    → ((n : ℕ) → count_by (is_numbered n) (numbers_of (requests_in trees)) ≡ count_by (is_numbered n) (numbers_of (kept_of error requests)))
    → ((name : List ℕ) → named_in after name ≡ block_of (bound_after (ended_told error end.finished requests) (names_of bound)) name)
    → AreSuspended apart after end.left (filter (is_left error end.finished) requests)
left_suspended s round apart trees end requests error bound after runs over known numbers told =
    let waits : List Request = filter (is_left error end.finished) requests in
    let once : (n : ℕ) → count_by (is_numbered n) (numbers_of (requests_in trees)) ≤ 1 = λ n. (let a = runs.once n in let b = once_in n trees in omega arith) in
    let rests : AllByRecursion (RestIn (joined_trees trees)) (joined_trees end.left) = rests_in trees end.left over.rests in
    let lefts : (q : Pending) → IsOneOf q (joined_trees end.left) → LeftOf bound error requests end.finished q = λ q at. left_of q at (one_all (RestIn (joined_trees trees)) q (joined_trees end.left) rests at) once in
    let all_left : AllByRecursion (LeftOf bound error requests end.finished) (joined_trees end.left) = all_one (LeftOf bound error requests end.finished) (joined_trees end.left) lefts in
    let inside : AllByRecursion (λ (p : Pending). Contains waits p.request) (joined_trees end.left) =
    all_weaker (LeftOf bound error requests end.finished) (λ (p : Pending). Contains waits p.request) (joined_trees end.left)
    (λ p l. one_contains p.request waits (filtered_one (is_left error end.finished) requests p.request l.inside
    (ap (λ (o : Option Errno). is_none o && is_none (finish_of end.finished p.request.number)) l.free ∙ ap (λ (o : Option RequestEnd). true && is_none o) l.waits))) all_left in
    record {
      over = record {
        rising = rising_kept (is_left error end.finished) requests known.rising;
        names = apart_kept apart (is_left error end.finished) requests known.names;
        inside = inside;
        free = all_true (λ (p : Pending). no_error p.request.number ≡ None) (joined_trees end.left) (λ p. refl);
        blocks = all_weaker (LeftOf bound error requests end.finished) (λ (p : Pending). p.block ≡ block_if (needs_block p.request.work) (name_of p.request.work) (names_of after)) (joined_trees end.left)
            (λ p l. l.block ∙ block_same (needs_block p.request.work) (name_of p.request.work) bound after
            (λ n is. sym (untouched apart requests error end.finished bound after known.names told p.request n l.inside l.waits is))) all_left;
        lacks = all_weaker (LeftOf bound error requests end.finished) (λ (p : Pending). makes_block p.request.work ≡ true → passes (is_some_name after) (name_of p.request.work) ≡ false) (joined_trees end.left)
            (λ p l makes. passes_same (name_of p.request.work) after bound
            (λ n is. untouched apart requests error end.finished bound after known.names told p.request n l.inside l.waits is) ∙ l.lacks makes) all_left;
      };
      numbers = record {
        rising = rising_kept (is_left error end.finished) requests known.rising;
        among = all_map (Contains waits) (λ (p : Pending). p.request) (joined_trees end.left) inside;
        each = λ n. times_same n (finish_of end.finished n) refl once;
      };
      each = rests_each trees end.left over.rests;
      rising = rests_rising trees end.left 0 (roots_there trees runs.each) over.rests runs.rising;
      under = rests_roots (λ (r : Request). r.under ≡ None) trees end.left (roots_there trees runs.each) over.rests runs.under;
      claims = over.claims;
    }
  where
    left_of : (q : Pending) → IsOneOf q (joined_trees end.left) → RestIn (joined_trees trees) q
        → ((n : ℕ) → count_by (is_numbered n) (numbers_of (requests_in trees)) ≤ 1) → LeftOf bound error requests end.finished q
    left_of q at r once =
        let n : ℕ = q.request.number in
        let some : 1 ≤ times n (numbers_of (map (λ (p : Pending). p.request) (joined_trees end.left))) = left_times q (joined_trees end.left) at in
        let a = times_is n (numbers_of (requests_in end.left)) in
        let b = times_is n (map (λ (f : RequestEnd). f.request) end.finished) in
        let split = over.each n in
        let most = once n in
        record {
          inside = subst (λ (x : Request). IsOneOf x requests) (sym r.same.request)
              (contains_one r.old.request requests (one_all (λ (p : Pending). Contains requests p.request) r.old (joined_trees trees) known.inside r.at));
          free = subst (λ (x : Request). error x.number ≡ None) (sym r.same.request)
              (one_all (λ (p : Pending). error p.request.number ≡ None) r.old (joined_trees trees) known.free r.at);
          waits = no_finish n end.finished (omega arith);
          block = r.same.block ∙ subst (λ (x : Request). r.old.block ≡ block_if (needs_block x.work) (name_of x.work) (names_of bound)) (sym r.same.request)
              (one_all (λ (p : Pending). p.block ≡ block_if (needs_block p.request.work) (name_of p.request.work) (names_of bound)) r.old (joined_trees trees) known.blocks r.at);
          lacks = subst (λ (x : Request). makes_block x.work ≡ true → passes (is_some_name bound) (name_of x.work) ≡ false) (sym r.same.request)
              (one_all (λ (p : Pending). makes_block p.request.work ≡ true → passes (is_some_name bound) (name_of p.request.work) ≡ false) r.old (joined_trees trees) known.lacks r.at);
        }

    times_same : (n : ℕ) (f : Option RequestEnd) → finish_of end.finished n ≡ f → ((m : ℕ) → count_by (is_numbered m) (numbers_of (requests_in trees)) ≤ 1)
        → count_by (is_numbered n) (numbers_of (requests_in end.left)) ≡ count_by (is_numbered n) (numbers_of (filter (is_left error end.finished) requests))
    times_same n (Some f) is once =
        let some : 1 ≤ times n (map (λ (g : RequestEnd). g.request) end.finished) = some_finish n end.finished f is in
        let b = times_is n (map (λ (g : RequestEnd). g.request) end.finished) in
        let w : times n (numbers_of (filter (is_left error end.finished) requests)) ≡ 0 =
        waiting_times error end.finished n requests ∙ ap (λ (o : Option RequestEnd). cond (is_none o) (times n (numbers_of (kept_of error requests))) 0) is in
        let c = times_is n (numbers_of (filter (is_left error end.finished) requests)) in
        let split = over.each n in
        let most = once n in omega arith
    times_same n None is once =
        let none : times n (map (λ (g : RequestEnd). g.request) end.finished) ≡ 0 = none_times n end.finished is in
        let b = times_is n (map (λ (g : RequestEnd). g.request) end.finished) in
        let w : times n (numbers_of (filter (is_left error end.finished) requests)) ≡ times n (numbers_of (kept_of error requests)) =
        waiting_times error end.finished n requests ∙ ap (λ (o : Option RequestEnd). cond (is_none o) (times n (numbers_of (kept_of error requests))) 0) is in
        let c = times_is n (numbers_of (filter (is_left error end.finished) requests)) in
        let d = times_is n (numbers_of (kept_of error requests)) in
        let split = over.each n in
        let same = numbers n in omega arith
