-- Before the first line of a script.
use Rattle.std.proofs.Common.{◌≡◌, ℕ, ◌+◌, ◌<◌, ◌≤◌, ◌^◌, List, [], ◌∷◌, ◌++◌, length, map, Bool, true, false, Option, Some, None, refl, sym, ap, ◌∙◌, subst, arith, append_assoc, length-append}
use Rattle.std.specs.Prelude.{◌*◌, ◌==◌, Contains, IfSome}
use Rattle.std.specs.List.{AllByRecursion}
use Rattle.std.proofs.lemmas.List.{append-nil}
use Rattle.zio_types.specs.declared.journal.Completion.{Completion}
use Rattle.zio_types.specs.declared.journal.Journal.{Journal}
use Rattle.zio_types.specs.declared.place.Place.{Place}
use Rattle.zio_types.specs.Places.{are_apart}
use Rattle.zio_types.specs.Choices.{Choice}
use Rattle.zio_script.specs.declared.script.Item.{Item}
use Rattle.zio_script.specs.declared.script.Item.TheVariants.{Request as RequestLine, Go, Clear}
use Rattle.zio_script.specs.declared.script.Request.{Request}
use Rattle.zio_script.specs.declared.script.Script.{Script}
use Rattle.zio_script.specs.Accepted.{AreRising, IsOrderlyBatch, batches_from}
use Rattle.zio_script.specs.Grammar.{IsScriptOf}
use Rattle.zio_script.specs.Requests.{requests_of}
use Rattle.zio_script.specs.Whys.{tells_reads_apart}
use Rattle.zio_cksum.specs.Images.{Images}
use Rattle.zio_cksum.proofs.AllLemmas.{all_append, all_contained, all_weaker}
use Rattle.zio_gang.specs.declared.tree.Tree.{Tree}
use Rattle.zio_gang.specs.Attempts.{Pending}
use Rattle.zio_gang.specs.Journals.{AreCompletions, IsLawfulJournal}
use Rattle.zio_gang.specs.Runs.{run_lines, start_state}
use Rattle.zio_gang.specs.Trees.{sizes_of, tree_places}
use Rattle.zio_report.specs.declared.report.Show.{Show}
use Rattle.zio_report.specs.declared.report.Show.TheVariants.{Report, Summary}
use Rattle.zio_report.specs.Meanings.{IsEmptyJournal, tops_of}
use Rattle.zio_report.specs.Reports.{Records, RunSize, pool_text, text_so_far}
use Rattle.zio_course.specs.declared.fold.Fold.{Fold}
use Rattle.zio_course.specs.declared.fold.Tally.{Tally}
use Rattle.zio_course.specs.Course.{AreOfRounds, shown_of}
use Rattle.zio_course.specs.Folds.{AreSuspended, IsSteady, SeenFold, fold_seen, is_named_by, requests_in_all}
use Rattle.zio_course.specs.Live.{IsLive}
use Rattle.zio_course.specs.Moves.{IsGoing}
use Rattle.zio_course.specs.Names.{is_name_in, named_in}
use Rattle.zio_course.specs.Parents.{AreParented}
use Rattle.zio_course.specs.Runners.{Standing, rows_tell_apart}
use Rattle.zio_course.specs.SoFar.{IsCourseAt, coming}
use Rattle.zio_course.proofs.DoneLemmas.{contains_one}
use Rattle.zio_course.proofs.JoinLemmas.{rising_both, rising_join}
use Rattle.zio_course.proofs.JournalLemmas.{completions_none, lawful_none}
use Rattle.zio_course.proofs.ShortLemmas.{few_items}

-- ---- batches

-- what holds of all requests holds of those of all batches
pub batches_all : (P : Request → Type 0) (batch : List Request) (items : List Item) → AllByRecursion P batch → AllByRecursion P (requests_of items) → AllByRecursion P (requests_in_all (batches_from batch items))
batches_all P batch [] h k = tt
batches_all P batch (RequestLine r ∷ items) h k = batches_all P (batch ++ r ∷ []) items (all_append P batch (r ∷ []) h (k.0, tt)) k.1
batches_all P batch (Go ∷ items) h k = all_append P batch (requests_in_all (batches_from [] items)) h (batches_all P [] items tt k)
batches_all P batch (Clear ∷ items) h k = batches_all P batch items h k

-- numbers rise over all batches
pub rising_batches : (batch : List Request) (items : List Item) → AreRising (batch ++ requests_of items) → AreRising (requests_in_all (batches_from batch items))
rising_batches batch [] up = tt
rising_batches batch (RequestLine r ∷ items) up = rising_batches (batch ++ r ∷ []) items (subst AreRising (sym (append_assoc batch (r ∷ []) (requests_of items))) up)
rising_batches batch (Go ∷ items) up =
    let parts = rising_both batch (requests_of items) up in
    rising_join batch (requests_in_all (batches_from [] items)) parts.0 (rising_batches [] items parts.1)
    (all_weaker (λ (x : Request). AllByRecursion (λ (y : Request). x.number < y.number) (requests_of items)) (λ (x : Request). AllByRecursion (λ (y : Request). x.number < y.number) (requests_in_all (batches_from [] items))) batch
    (λ x low. batches_all (λ (y : Request). x.number < y.number) [] items tt low) parts.2)
rising_batches batch (Clear ∷ items) up = rising_batches batch items up

pub few_requests : (batch : List Request) (items : List Item) → length (requests_in_all (batches_from batch items)) ≤ length batch + length items
few_requests batch [] = omega arith
few_requests batch (RequestLine r ∷ items) = let h = few_requests (batch ++ r ∷ []) items in let a = length-append batch (r ∷ []) in omega arith
few_requests batch (Go ∷ items) = let h = few_requests [] items in let a = length-append batch (requests_in_all (batches_from [] items)) in omega arith
few_requests batch (Clear ∷ items) = let h = few_requests batch items in omega arith

-- ---- nothing is bound, and nothing waits

-- as before the first line
pub record IsNew (f : SeenFold) : Type 0 where
  pub bound : (name : List ℕ) → named_in f.bound name ≡ None
  pub suspended : f.suspended ≡ []
  pub unfinished : f.unfinished ≡ []
  pub awaited : (name : List ℕ) → is_name_in f.awaited name ≡ false
  pub point : f.point ≡ 0
  pub panicked : f.panicked ≡ false
  pub tally : f.tally ≡ record { good = 0; bad = 0; read = 0 }

-- a run that has nothing yet
abbrev pub nothing_yet : SeenFold
nothing_yet = record { bound = []; suspended = []; unfinished = []; awaited = []; point = 0; panicked = false; tally = record { good = 0; bad = 0; read = 0 } }

pub nothing_is_new : IsNew nothing_yet
nothing_is_new = record { bound = λ name. refl; suspended = refl; unfinished = refl; awaited = λ name. refl; point = refl; panicked = refl; tally = refl }

pub fold_is_new : {T : Type 0} (pending : T → List Pending) (fold : Fold T) → ((name : List ℕ) → named_in fold.bound name ≡ None) → fold.suspended ≡ [] → fold.unfinished.items ≡ []
    → ((name : List ℕ) → is_name_in fold.awaited name ≡ false) → fold.point ≡ 0 → fold.panicked ≡ false → fold.tally ≡ record { good = 0; bad = 0; read = 0 } → IsNew (fold_seen pending fold)
fold_is_new pending fold bound suspended unfinished awaited point panicked tally = record {
  bound = bound;
  suspended = ap (map pending) suspended;
  unfinished = ap (map (λ r. r.now)) unfinished;
  awaited = awaited;
  point = point;
  panicked = panicked;
  tally = tally;
}

live_none : (live : List Place) (bound : List (List ℕ × Tree)) → live ≡ [] → ((name : List ℕ) → named_in bound name ≡ None) → IsLive live bound
live_none live bound none unbound = record {
  there = λ name. subst (λ (o : Option Tree). IfSome o (λ tree. AllByRecursion (Contains live) (tree_places tree))) (sym (unbound name)) tt;
  back = λ p at. absurd (contains_one p [] (subst (λ (ps : List Place). Contains ps p) none at));
  apart = λ n m t u p is other here there. absurd (let no : None ≡ Some t = sym (unbound n) ∙ is in cc);
  own = λ name. subst (λ (o : Option Tree). IfSome o (λ tree. are_apart (tree_places tree) ≡ true)) (sym (unbound name)) tt;
  between = λ n m t u p q is other here there met. absurd (let no : None ≡ Some t = sym (unbound n) ∙ is in cc);
}

waits_none : (apart : Bool) (bound : List (List ℕ × Tree)) → AreSuspended apart bound [] []
waits_none apart bound = record {
  over = record { rising = tt; names = tt; inside = tt; free = tt; blocks = tt; lacks = tt };
  numbers = record { rising = tt; among = tt; each = λ n. refl };
  each = refl;
  rising = tt;
  under = tt;
  claims = refl;
}

pub start_steady : (fits : Tree → Type 0) (s : Standing) (rounds : ℕ) (f : SeenFold) → IsNew f → s.live ≡ [] → s.stopped ≡ false → s.last ≡ 0 → rounds ≡ 0 → IsSteady fits s rounds f
start_steady fits s rounds f new live runs last none = record {
  fits_all = λ name. subst (λ (o : Option Tree). IfSome o fits) (sym (new.bound name)) tt;
  live = live_none s.live f.bound live new.bound;
  inside = λ p at. absurd (contains_one p [] (subst (λ (ps : List Place). Contains ps p) live at));
  waits = subst (λ (ps : List (List Pending)). AreSuspended (rows_tell_apart s.rows) f.bound ps f.unfinished) (sym new.suspended)
      (subst (λ (us : List Request). AreSuspended (rows_tell_apart s.rows) f.bound [] us) (sym new.unfinished) (waits_none (rows_tell_apart s.rows) f.bound));
  awaited = λ name. new.awaited name ∙ sym (ap (λ (us : List Request). is_named_by us name) new.unfinished);
  runs = runs;
  last = last ∙ sym none;
  sums = subst (λ (t : Tally). t.read ≤ t.good * 2 ^ 64) (sym new.tally) (omega arith);
}

pub start_going : (fits : Tree → Type 0) (s : Standing) (rounds : ℕ) (f : SeenFold) (text : List ℕ) (script : Script) → IsScriptOf text script
    → AreRising (requests_of script.items) → AllByRecursion (IsOrderlyBatch (tells_reads_apart script)) (batches_from [] script.items)
    → IsNew f → s.rows ≡ script.faults → s.live ≡ [] → s.stopped ≡ false → s.last ≡ 0 → rounds ≡ 0
    → IsGoing fits s rounds f [] (batches_from [] script.items) (length script.items)
start_going fits s rounds f text script is up orderly new rows live runs last none = record {
  steady = start_steady fits s rounds f new live runs last none;
  rising = subst (λ (us : List Request). AreRising (coming us (batches_from [] script.items))) (sym new.unfinished) (rising_batches [] script.items up);
  orderly = subst (λ (rs : List Rattle.zio_faults.specs.declared.table.Row.Row). AllByRecursion (IsOrderlyBatch (rows_tell_apart rs)) (batches_from [] script.items)) (sym rows) orderly;
  numbers = tt;
  rounds_fit = let h = few_items text script is in omega (arith, none);
  few = subst (λ (t : Tally). t.good + t.bad + length (coming f.unfinished (batches_from [] script.items)) < 2 ^ 32) (sym new.tally)
      (subst (λ (us : List Request). 0 + 0 + length (coming us (batches_from [] script.items)) < 2 ^ 32) (sym new.unfinished)
      (let h = few_items text script is in let k = few_requests [] script.items in omega arith));
}

pub start_point : (point : ℕ) (text : List ℕ) (script : Script) → IsScriptOf text script → point ≡ 0 → point + length script.items < 2 ^ 32
start_point point text script is none = let h = few_items text script is in omega (arith, none)

-- ---- the course

first_text : (show : Show) (n : RunSize) (j : Records) → shown_of show (pool_text n.tops n.images) ≡ text_so_far show n j []
first_text (Report journal bytes) n j = sym (append-nil (pool_text n.tops n.images))
first_text Summary n j = refl

-- Nothing happened, and all lines are ahead.
pub start_course : (show : Show) (n : RunSize) (script : Script) (before : Images) (s : Standing) (f : SeenFold) (old : Journal)
    → AreRising (requests_of script.items) → IsEmptyJournal old → s.rows ≡ script.faults → s.tops ≡ tops_of script before → s.live ≡ [] → IsNew f
    → IsCourseAt show n script before s f (record { held = []; batch = []; batches = 0 }) (batches_from [] script.items) old before (shown_of show (pool_text n.tops n.images)) (λ plan st. run_lines plan script.items st)
start_course show n script before s f old up empty rows tops live new =
    record {
      events = [];
      state = start_state before;
      reached = λ more than. refl;
      entered = record {
        shown = λ more done later. first_text show n (record { choices = old.places ++ more; completions = old.completions ++ done });
        lawful = subst (λ (cs : List Choice). IsLawfulJournal (sizes_of s.tops) [] cs) (sym empty.places) (lawful_none (sizes_of s.tops));
        counted = empty.rounds;
        completed = subst (λ (cs : List Completion). AreCompletions (requests_of script.items) [] cs) (sym empty.completions) (completions_none (requests_of script.items));
        choices_below = subst (AllByRecursion (λ (c : Choice). c.asked.key.round ≤ old.rounds)) (sym empty.places) tt;
        rounds_below = tt;
        completions_below = subst (AllByRecursion (λ (c : Completion). c.round ≤ old.rounds)) (sym empty.completions) tt;
      };
      plan = record { tops = sym tops; rows = sym rows; failmode_is = refl };
      at = record {
        names = λ name. sym (new.bound name);
        used = λ p. (λ at. subst (λ (ps : List Place). Contains ps p) (sym live) at, λ at. subst (λ (ps : List Place). Contains ps p) live at);
        suspended_is = sym new.suspended;
        rounds_is = sym empty.rounds;
        point_is = sym new.point;
        images_are = refl;
      };
      once = tt;
      held = refl;
      batch = refl;
      batches = refl;
      panicked = sym new.panicked;
      images_are = refl;
      names_are = refl;
      good = ap (λ (t : Tally). t.good) new.tally;
      bad = ap (λ (t : Tally). t.bad) new.tally;
      read = ap (λ (t : Tally). t.read) new.tally;
      parents = subst (AllByRecursion AreParented) (sym new.suspended) tt;
      up = up;
      rising = subst (λ (us : List Request). AreRising (coming us (batches_from [] script.items))) (sym new.unfinished) (rising_batches [] script.items up);
      among = subst (λ (us : List Request). AllByRecursion (Contains (requests_of script.items)) (coming us (batches_from [] script.items))) (sym new.unfinished)
          (batches_all (Contains (requests_of script.items)) [] script.items tt (all_contained (requests_of script.items)));
      past = subst (AllByRecursion (λ (c : Completion). AllByRecursion (λ (r : Request). (r.number == c.request) ≡ false) (coming f.unfinished (batches_from [] script.items)))) (sym empty.completions) tt;
    }

-- a journal of no round
pub none_yet : (such : ℕ → List Choice → Type 0) (j : Journal) → IsEmptyJournal j → AreOfRounds such j.rounds j.places
none_yet such j empty = subst (λ (n : ℕ). AreOfRounds such n j.places) (sym empty.rounds) empty.places
