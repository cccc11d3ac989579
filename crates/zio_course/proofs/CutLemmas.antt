-- A run that was cut short.
use Rattle.std.proofs.Common.{◌≡◌, ℕ, suc, ◌+◌, ◌/◌, List, [], ◌∷◌, ◌++◌, length, map, take, Bool, true, false, ◌||◌, refl, sym, ap, ◌∙◌, subst, inl, inr, ◌⊎◌, arith, append_assoc, Result, Ok, Err}
use Rattle.std.specs.Prelude.{codes, decimal, is_some, IfErr, IsErrOf}
use Rattle.std.specs.List.{flat_map, list_any}
use Rattle.std.proofs.lemmas.List.{append-nil}
use Rattle.zio_outside.specs.Outside.{Appends, AppendsFront}
use Rattle.zio_types.specs.declared.journal.Completion.{Completion}
use Rattle.zio_types.specs.declared.journal.Journal.{Journal}
use Rattle.zio_types.specs.declared.place.Place.{Place}
use Rattle.zio_types.specs.declared.place.Top.{Top}
use Rattle.zio_types.specs.Choices.{Choice, is_refused}
use Rattle.zio_types.specs.Places.{SamePlaces, sector_size}
use Rattle.zio_faults.specs.declared.table.Row.{Row}
use Rattle.zio_script.specs.declared.script.Failmode.{Failmode}
use Rattle.zio_script.specs.declared.script.Item.{Item}
use Rattle.zio_script.specs.declared.script.Request.{Request}
use Rattle.zio_script.specs.declared.script.Script.{Script}
use Rattle.zio_script.specs.Accepted.{AreRising}
use Rattle.zio_script.specs.Requests.{requests_of}
use Rattle.zio_cksum.specs.Images.{Images, Setting}
use Rattle.zio_gang.specs.declared.tree.Tree.{Tree}
use Rattle.zio_gang.specs.Attempts.{Pending, Terms}
use Rattle.zio_gang.specs.Journals.{choices_in, completions_in}
use Rattle.zio_gang.specs.Rounds.{Admitted, Binding, Bound, admitted, block_of, is_bound, pending_trees, trees_of, used_places}
use Rattle.zio_gang.specs.Runs.{Course, Event, Plan, State, has_trees, plan_of, rounds_of, run_batch, run_suspended, then_course}
use Rattle.zio_gang.specs.Runs.Event.{RanRound, HeldBatch}
use Rattle.zio_report.specs.declared.report.ReportLine.{ReportLine}
use Rattle.zio_report.specs.declared.report.RoundHead.{RoundHead}
use Rattle.zio_report.specs.declared.report.RunFault.{RunFault}
use Rattle.zio_report.specs.declared.report.RunFault.TheVariants.{Device, Sink, Memory}
use Rattle.zio_report.specs.declared.report.Show.{Show}
use Rattle.zio_report.specs.declared.report.Show.TheVariants.{Report, Summary}
use Rattle.zio_report.specs.Lines.{as_line, batch_text, choice_text, head_text, journal_text, kind_text, line_text, name_text, order_text, path_text, place_text, result_text, role_text, round_text, spaced, when}
use Rattle.zio_report.specs.Reports.{Records, RunSize, event_text, head_of, lines_of, pool_text, text_so_far}
use Rattle.zio_course.specs.declared.admission.Rules.{Rules}
use Rattle.zio_course.specs.declared.runner.Stop.{Stop}
use Rattle.zio_course.specs.declared.runner.Stop.TheVariants.{Device as DeviceStops, Memory as NoMemory}
use Rattle.zio_course.specs.Admissions.{IsAdmission}
use Rattle.zio_course.specs.Admitted.{AreAwaited}
use Rattle.zio_course.specs.Faults.{fault_of}
use Rattle.zio_course.specs.Folds.{SeenFold}
use Rattle.zio_course.specs.Forests.{names_of, running}
use Rattle.zio_course.specs.Names.{is_some_name, named_in}
use Rattle.zio_course.specs.Runners.{DiffersInRound, DiffersLoose, IsCutRound, Standing, Stopping, has_sector, named_places, terms_at}
use Rattle.zio_course.specs.SoFar.{Ahead, AreCutImages, AreNextTerms, EndsWhole, GoesOn, IsBroken, IsCourseAt, IsCut, IsCutText, images_after}
use Rattle.zio_course.specs.SoFar.GoesOn.{WithBatch, WithSuspended}
use Rattle.zio_course.specs.Steps.{IsAt, IsPlanOf}
use Rattle.zio_course.proofs.AdmittedLemmas.{trees_admitted}
use Rattle.zio_course.proofs.CompleteLemmas.{any_one}
use Rattle.zio_course.proofs.CourseLemmas.{admitted_same, pending_same}
use Rattle.zio_course.proofs.DoneLemmas.{contains_one, one_contains}
use Rattle.zio_course.proofs.PlantLemmas.{named_of}
use Rattle.zio_course.proofs.SortLemmas.{IsOneOf}

-- ---- whole lines

ends_both : (xs ys : List ℕ) → EndsWhole xs → EndsWhole ys → EndsWhole (xs ++ ys)
ends_both xs ys h (inl none) = subst EndsWhole (sym (ap (λ (zs : List ℕ). xs ++ zs) none ∙ append-nil xs)) h
ends_both xs ys h (inr w) = inr (xs ++ w.0, ap (λ (zs : List ℕ). xs ++ zs) w.1 ∙ sym (append_assoc xs w.0 (10 ∷ [])))

line_ends : (text : List ℕ) → EndsWhole (as_line text)
line_ends text = inr (text, refl)

all_end : {X : Type 0} (f : X → List ℕ) (xs : List X) → ((x : X) → EndsWhole (f x)) → EndsWhole (flat_map f xs)
all_end f [] h = inl refl
all_end f (x ∷ xs) h = ends_both (f x) (flat_map f xs) (h x) (all_end f xs h)

when_ends : (b : Bool) (text : List ℕ) → EndsWhole text → EndsWhole (when b text)
when_ends true text h = h
when_ends false text h = inl refl

order_ends : (cs : List Completion) → EndsWhole (order_text cs)
order_ends [] = inl refl
order_ends (c ∷ cs) = line_ends (codes "order" ++ flat_map (λ (d : Completion). spaced (decimal d.request)) (c ∷ cs))

head_ends : (head : RoundHead) → EndsWhole (head_text head)
head_ends head = line_ends (codes "round " ++ decimal head.round ++ spaced (batch_text head.batch) ++ codes " point " ++ decimal head.point)

one_ends : (bytes : Bool) (line : ReportLine) → EndsWhole (line_text bytes line)
one_ends bytes line = line_ends (decimal line.number ++ spaced (kind_text line.kind) ++ name_text line.name ++ spaced (result_text bytes line.result))

choice_ends : (c : Choice) → EndsWhole (choice_text c)
choice_ends c =
    line_ends (codes "take " ++ decimal c.asked.key.request ++ spaced (decimal c.asked.key.attempt)
    ++ spaced (path_text c.asked.key.path) ++ spaced (role_text c.asked.key.role) ++ spaced (decimal c.asked.size)
    ++ spaced (decimal c.asked.copies) ++ flat_map place_text c.places ++ when (is_refused c) (codes " refused"))

round_ends : (show : Show) (head : RoundHead) (lines : List ReportLine) (choices : List Choice) (done : List Completion) → EndsWhole (round_text show head lines choices done)
round_ends (Report journal bytes) head lines choices done =
    ends_both (head_text head ++ flat_map (line_text bytes) lines) (when journal (journal_text choices done))
    (ends_both (head_text head) (flat_map (line_text bytes) lines) (head_ends head) (all_end (line_text bytes) lines (one_ends bytes)))
    (when_ends journal (journal_text choices done) (ends_both (flat_map choice_text choices) (order_text done) (all_end choice_text choices choice_ends) (order_ends done)))
round_ends Summary head lines choices done = inl refl

event_ends : (show : Show) (j : Records) (e : Event) → EndsWhole (event_text show j e)
event_ends show j (RanRound round) = round_ends show (head_of round) (lines_of round) (choices_in round.number j.choices) (completions_in round.number j.completions)
event_ends show j (HeldBatch batch) = line_ends (codes "held " ++ decimal batch)

pub text_ends : (show : Show) (n : RunSize) (j : Records) (events : List Event) → EndsWhole (text_so_far show n j events)
text_ends (Report journal bytes) n j events =
    ends_both (pool_text n.tops n.images) (flat_map (event_text (Report journal bytes) j) events) (line_ends (codes "pool " ++ decimal n.tops ++ codes " " ++ decimal n.images)) (all_end (event_text (Report journal bytes) j) events (event_ends (Report journal bytes) j))
text_ends Summary n j events = inl refl

-- ---- what the sink got

pub Appends-none : (holds : List ℕ → Type 0) → Appends holds holds []
Appends-none holds held h = subst holds (sym (append-nil held)) h

-- nothing of it, where so much was printed before
pub nothing_more : (fault : RunFault) (holds : List ℕ → Type 0) (printed : List ℕ) → EndsWhole printed → IsCutText fault holds holds printed printed
nothing_more Device holds printed whole = ([], sym (append-nil printed), Appends-none holds)
nothing_more Sink holds printed whole = ([], sym (append-nil printed), λ held h. (0, Appends-none holds held h))
nothing_more Memory holds printed whole =
    ([], [], sym (append-nil (printed ++ []) ∙ append-nil printed), subst EndsWhole (sym (append-nil printed)) whole, Appends-none holds)

-- memory was refused before its text was written
pub not_written : (holds : List ℕ → Type 0) (printed text : List ℕ) → EndsWhole printed → IsCutText Memory holds holds printed (printed ++ text)
not_written holds printed text whole =
    ([], text, ap (λ (xs : List ℕ). xs ++ text) (sym (append-nil printed)), subst EndsWhole (sym (append-nil printed)) whole, Appends-none holds)

pub part_written : (old new : List ℕ → Type 0) (printed text : List ℕ) → AppendsFront old new text → IsCutText Sink old new printed (printed ++ text)
part_written old new printed text h = (text, refl, h)

take-both : (xs ys : List ℕ) (k : ℕ) → take (length xs + k) (xs ++ ys) ≡ xs ++ take k ys
take-both [] ys k = ap (λ (m : ℕ). take m ys) (let none : 0 + k ≡ k = omega arith in none)
take-both (x ∷ xs) ys k =
    ap (λ (m : ℕ). take m (x ∷ xs ++ ys)) (let one : length (x ∷ xs) + k ≡ suc (length xs + k) = omega arith in one)
    ∙ ap (λ (zs : List ℕ). x ∷ zs) (take-both xs ys k)

-- what was written before it was cut short
pub written_then : (fault : RunFault) (old mid new : List ℕ → Type 0) (printed more text : List ℕ) → Appends old mid more → IsCutText fault mid new (printed ++ more) text → IsCutText fault old new printed text
written_then Device old mid new printed more text first h =
    (more ++ h.0, h.1 ∙ append_assoc printed more h.0, λ held k. subst new (append_assoc held more h.0) (h.2 (held ++ more) (first held k)))
written_then Sink old mid new printed more text first h = (
  more ++ h.0,
  h.1 ∙ append_assoc printed more h.0,
  λ held k.
      (let rest = h.2 (held ++ more) (first held k) in
      front_of held (rest.0) (rest.1)),
)
  where
    front_of : (held : List ℕ) (k : ℕ) → new ((held ++ more) ++ take k h.0) → (m : ℕ) × new (held ++ take m (more ++ h.0))
    front_of held k got = (length more + k, subst new (append_assoc held more (take k h.0) ∙ ap (λ (xs : List ℕ). held ++ xs) (sym (take-both more h.0 k))) got)
written_then Memory old mid new printed more text first h = (
  more ++ h.0,
  h.1,
  h.2 ∙ ap (λ (xs : List ℕ). xs ++ h.1) (append_assoc printed more h.0),
  subst EndsWhole (append_assoc printed more h.0) h.3,
  λ held k. subst new (append_assoc held more h.0) (h.4 (held ++ more) (first held k)),
)

-- ---- which fault

pub by_fault : (r : Result Unit RunFault) (P : RunFault → Type 0) → (IsErrOf r Device → P Device) → (IsErrOf r Sink → P Sink) → (IsErrOf r Memory → P Memory) → IfErr r P
by_fault (Ok x) P d s m = tt
by_fault (Err Device) P d s m = d refl
by_fault (Err Sink) P d s m = s refl
by_fault (Err Memory) P d s m = m refl

-- ---- the images

-- no disk's failure
abbrev pub IsOther : RunFault → Type 0
IsOther Device = ⊥
IsOther Sink = Unit {0}
IsOther Memory = Unit {0}

pub other_stop : (stop : Stop) → (stop ≡ DeviceStops → ⊥) → IsOther (fault_of stop)
other_stop DeviceStops other = absurd (other refl)
other_stop NoMemory other = tt

same_images : (fault : RunFault) (script : Script) (before : Images) (tops : List Top) (w : Stopping) (journal : Journal) (events : List Event) (images : Images)
    → IsOther fault → w.stopped ≡ false → images ≡ images_after before (rounds_of events) → AreCutImages fault script before tops w journal events images
same_images Device script before tops w journal events images other calm h = absurd other
same_images Sink script before tops w journal events images other calm h = (calm, h)
same_images Memory script before tops w journal events images other calm h = inl (calm, h)

-- between two rounds
pub cut_at : {w : Stopping} → (show : Show) (n : RunSize) (script : Script) (before : Images) (s : Standing) (f : SeenFold) (ahead : Ahead) (later : List (List Request)) (journal : Journal) (images : Images) (printed : List ℕ) (rest : Plan → State → Course) (fault : RunFault)
    → IsOther fault → w.stopped ≡ false → IsCourseAt show n script before s f ahead later journal images printed rest → IsCut show n script before s.tops w fault journal images printed
cut_at {w = w} show n script before s f ahead later journal images printed rest fault other calm h = record {
  events = h.events;
  rest = λ plan. rest plan h.state;
  begins = h.reached;
  entered = h.entered;
  images = same_images fault script before s.tops w journal h.events images other calm h.images_are;
}

pub printed_ends : (show : Show) (n : RunSize) (script : Script) (before : Images) (s : Standing) (f : SeenFold) (ahead : Ahead) (later : List (List Request)) (journal : Journal) (images : Images) (printed : List ℕ) (rest : Plan → State → Course)
    → IsCourseAt show n script before s f ahead later journal images printed rest → EndsWhole printed
printed_ends show n script before s f ahead later journal images printed rest h =
    subst EndsWhole (sym (h.entered.shown [] [] (record { choices = tt; completions = tt }))) (text_ends show n _ h.events)

one_any : {X : Type 0} (P : X → Bool) (xs : List X) (x : X) → IsOneOf x xs → P x ≡ true → list_any P xs ≡ true
one_any P [] x at is = absurd at
one_any P (y ∷ xs) x (inl same) is = ap (λ (b : Bool). b || list_any P xs) (ap P same ∙ is)
one_any P (y ∷ xs) x (inr at) is = ap (λ (b : Bool). P y || b) (one_any P xs x at is) ∙ or_right (P y)
  where
    or_right : (a : Bool) → (a || true) ≡ true
    or_right true = refl
    or_right false = refl

any_places : (P : Place → Bool) (xs ys : List Place) → SamePlaces xs ys → list_any P xs ≡ list_any P ys
any_places P xs ys same = go (list_any P xs) refl (list_any P ys) refl
  where
    go : (a : Bool) → list_any P xs ≡ a → (b : Bool) → list_any P ys ≡ b → list_any P xs ≡ list_any P ys
    go true e true f = e ∙ sym f
    go false e false f = e ∙ sym f
    go true e false f =
        let x = any_one P xs e in
        absurd (let no = sym f ∙ one_any P ys x.0 (contains_one x.0 ys ((same x.0).0 (one_contains x.0 xs x.1))) x.2 in cc)
    go false e true f =
        let y = any_one P ys f in
        absurd (let no = sym e ∙ one_any P xs y.0 (contains_one y.0 xs ((same y.0).1 (one_contains y.0 ys y.1))) y.2 in cc)

loose_same : (tops : List Top) (used live named : List Place) (old new : Images) → SamePlaces used live → DiffersLoose tops live named old new → DiffersLoose tops used named old new
loose_same tops used live named old new same d = record {
  count = d.count;
  sizes = d.sizes;
  bytes = λ leaf at tight. d.bytes leaf at (λ l. tight (record {
    top = l.top;
    here = l.here;
    top_is = l.top_is;
    leaf_is = l.leaf_is;
    below = l.below;
    loose = moved l.top (at / sector_size) l.loose;
  }));
}
  where
    moved : (top sector : ℕ) → (list_any (has_sector top sector) live ≡ false) ⊎ (list_any (has_sector top sector) named ≡ true)
        → (list_any (has_sector top sector) used ≡ false) ⊎ (list_any (has_sector top sector) named ≡ true)
    moved top sector (inl free) = inl (any_places (has_sector top sector) used live same ∙ free)
    moved top sector (inr there) = inr there

stopped_images : (stop : Stop) (script : Script) (before : Images) (tops : List Top) (w : Stopping) (journal : Journal) (events : List Event) (after : Images)
    → IsBroken script before tops w stop journal events after → AreCutImages (fault_of stop) script before tops w journal events after
stopped_images DeviceStops script before tops w journal events after h = h
stopped_images NoMemory script before tops w journal events after h = inr h

-- in a round of these trees
pub cut_in : {w : Stopping} → (show : Show) (n : RunSize) (script : Script) (before : Images) (s : Standing) (f : SeenFold) (ahead : Ahead) (later : List (List Request)) (journal : Journal) (images after : Images) (printed : List ℕ) (rest : Plan → State → Course) (stop : Stop) (t : Terms) (trees : List (List Pending))
    → (h : IsCourseAt show n script before s f ahead later journal images printed rest) → GoesOn script before journal h.events t trees images
    → IsCutRound stop w t trees images after → DiffersInRound s trees images after
    → IsCut show n script before s.tops w (fault_of stop) journal after printed
cut_in {w = w} show n script before s f ahead later journal images after printed rest stop t trees h goes_on cut differs = record {
  events = h.events;
  rest = λ plan. rest plan h.state;
  begins = h.reached;
  entered = h.entered;
  images = stopped_images stop script before s.tops w journal h.events after (record {
    terms = t;
    trees = trees;
    goes_on = subst (λ (i : Images). GoesOn script before journal h.events t trees i) h.images_are goes_on;
    cut = subst (λ (i : Images). IsCutRound stop w t trees i after) h.images_are cut;
    loose = subst (λ (b : Bound). DiffersLoose s.tops (used_places b) (named_places trees) (images_after before (rounds_of h.events)) after) h.names_are
        (subst (λ (i : Images). DiffersLoose s.tops (used_places h.state.bound) (named_places trees) i after) h.images_are
        (loose_same s.tops (used_places h.state.bound) s.live (named_places trees) images after h.at.used differs));
  });
}

abbrev setting_with : List Top → List Row → ℕ → Setting
setting_with tops rows point = record { tops = tops; rows = rows; point = point }

-- the runner's terms are those of the course's next round
next_terms : (script : Script) (before : Images) (s : Standing) (f : SeenFold) (rounds : ℕ) (images : Images) (st : State) (failmode : Failmode) → script.failmode ≡ failmode
    → IsPlanOf s script.failmode (plan_of script before []) → IsAt s f.bound f.suspended rounds f.point images st
    → AreNextTerms script before st (terms_at s failmode (rounds + 1) f.point)
next_terms script before s f rounds images st failmode mode plan at = record {
  setting = ap (λ (ts : List Top). setting_with ts s.rows f.point) (sym plan.tops)
      ∙ (ap (λ (rs : List Row). setting_with (plan_of script before []).tops rs f.point) (sym plan.rows)
      ∙ ap (λ (k : ℕ). setting_with (plan_of script before []).tops (plan_of script before []).rows k) (sym at.point_is));
  failmode = sym mode;
  round = ap (λ (k : ℕ). k + 1) (sym at.rounds_is);
  used = at.used;
}

-- the course goes on with the trees of a batch
pub batch_goes_on : (show : Show) (n : RunSize) (script : Script) (before : Images) (s : Standing) (f : SeenFold) (ahead : Ahead) (later : List (List Request)) (journal : Journal) (images : Images) (printed : List ℕ) (items : List Item) (number : ℕ) (awaited : List ℕ → Bool) (slots : List (ℕ × ℕ)) (rules : List Rules) (rest : Plan → State → Course) (failmode : Failmode)
    → (h : IsCourseAt show n script before s f ahead later journal images printed (λ plan st. then_course (run_batch plan (record { number = number; requests = requests_of items }) st) (rest plan)))
    → AreRising (requests_of items) → AreAwaited f.suspended awaited → IsAdmission (has_trees f.suspended) awaited (is_some_name f.bound) (trees_of (requests_of items)) slots rules
    → script.failmode ≡ failmode
    → GoesOn script before journal h.events (terms_at s failmode (journal.rounds + 1) f.point) (pending_trees (names_of f.bound) number (trees_of (running slots rules items))) images
batch_goes_on show n script before s f ahead later journal images printed items number awaited slots rules rest failmode h up awaits admission_is mode =
    let requests : List Request = requests_of items in
    let test : List ℕ → Bool = is_some_name f.bound in
    let a : Admitted = admitted f.suspended test (trees_of requests) in
    let a_st : Admitted = admitted h.state.suspended (is_bound h.state.bound) (trees_of requests) in
    let a_same : a_st ≡ a =
    ap (λ (ts : List (List Pending)). admitted ts (is_bound h.state.bound) (trees_of requests)) h.at.suspended_is
    ∙ admitted_same f.suspended (is_bound h.state.bound) test (trees_of requests) (λ name. ap is_some (h.at.names name)) in
    let trees_are : pending_trees (names_of f.bound) number a.trees ≡ pending_trees (names_of f.bound) number (trees_of (running slots rules items)) =
    ap (pending_trees (names_of f.bound) number) (sym (trees_admitted f.suspended awaited test items slots rules up awaits admission_is)) in
    let same : pending_trees h.state.bound number a_st.trees ≡ pending_trees (names_of f.bound) number (trees_of (running slots rules items)) =
    ap (λ (x : Admitted). pending_trees h.state.bound number x.trees) a_same
    ∙ (pending_same h.state.bound (names_of f.bound) number a.trees (λ name. h.at.names name ∙ named_of name f.bound) ∙ trees_are) in
    WithBatch h.state (record { number = number; requests = requests }) rest h.reached
    (next_terms script before s f journal.rounds images h.state failmode mode h.plan h.at) (sym h.at.images_are) (sym same)

pub clear_goes_on : (show : Show) (n : RunSize) (script : Script) (before : Images) (s : Standing) (f : SeenFold) (ahead : Ahead) (later : List (List Request)) (journal : Journal) (images : Images) (printed : List ℕ) (rest : Plan → State → Course) (failmode : Failmode)
    → (h : IsCourseAt show n script before s f ahead later journal images printed (λ plan st. then_course (run_suspended plan st) (rest plan)))
    → script.failmode ≡ failmode → GoesOn script before journal h.events (terms_at s failmode (journal.rounds + 1) f.point) f.suspended images
clear_goes_on show n script before s f ahead later journal images printed rest failmode h mode =
    WithSuspended h.state rest h.reached (next_terms script before s f journal.rounds images h.state failmode mode h.plan h.at) (sym h.at.images_are) (sym h.at.suspended_is)

-- ---- names by themselves

abbrev pub pairs_of : Bound → List (List ℕ × Tree)
pairs_of bound = map (λ (b : Binding). (b.name, b.tree)) bound

names_of_pairs : (bound : Bound) → names_of (pairs_of bound) ≡ bound
names_of_pairs [] = refl
names_of_pairs (b ∷ bound) = ap (λ (bs : Bound). b ∷ bs) (names_of_pairs bound)

pub named_pair : (bound : Bound) (name : List ℕ) → named_in (pairs_of bound) name ≡ block_of bound name
named_pair bound name = named_of name (pairs_of bound) ∙ ap (λ (b : Bound). block_of b name) (names_of_pairs bound)
