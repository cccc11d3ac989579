-- The lines of a script, one after another.
use Rattle.std.proofs.Common.{◌≡◌, ℕ, ◌-◌, List, [], ◌∷◌, ◌++◌, length, take, Bool, true, false, refl, sym, ap, ◌∙◌, subst, inl, inr, ◌⊎◌, arith, append_assoc, length-append}
use Rattle.std.specs.List.{AllByRecursion}
use Rattle.std.proofs.lemmas.List.{append-nil}
use Rattle.zio_types.specs.declared.journal.Journal.{Journal}
use Rattle.zio_types.specs.declared.place.Top.{Top}
use Rattle.zio_script.specs.declared.script.Failmode.{Failmode}
use Rattle.zio_script.specs.declared.script.Item.{Item}
use Rattle.zio_script.specs.declared.script.Item.TheVariants.{Request as RequestLine}
use Rattle.zio_script.specs.declared.script.Request.{Request}
use Rattle.zio_script.specs.Accepted.{IsOrderlyBatch, batches_from}
use Rattle.zio_cksum.specs.Images.{Images}
use Rattle.zio_gang.specs.Runs.{Batch, Plan, State, line, line_if, plan_of, quiet, run_lines, then_course}
use Rattle.zio_report.specs.declared.report.RunFault.{RunFault}
use Rattle.zio_report.specs.declared.report.Show.{Show}
use Rattle.zio_course.specs.Folds.{SeenFold}
use Rattle.zio_course.specs.Moves.{LineCut, LineRan, LinesCut, LinesOver, LinesRan}
use Rattle.zio_course.specs.Runners.{Stopping, Standing, rows_tell_apart}
use Rattle.zio_course.specs.SoFar.{Ahead, IsCourseAt, IsCut}
use Rattle.zio_course.proofs.CutLemmas.{Appends-none, written_then}
use Rattle.zio_course.proofs.MoveLemmas.{Appends-both, course_moved, course_same}

lines_first : (plan : Plan) (item : Item) (items : List Item) (st : State) → st.panicked ≡ false → run_lines plan (item ∷ items) st ≡ then_course (line plan item st) (run_lines plan items)
unfolding run_lines
lines_first plan item items st calm = ap (λ (b : Bool). then_course (line_if b plan item st) (run_lines plan items)) calm

no_lines : (plan : Plan) (st : State) → run_lines plan [] st ≡ quiet st
unfolding run_lines
no_lines plan st = refl

panicked_lines : (plan : Plan) (items : List Item) (st : State) → st.panicked ≡ true → run_lines plan items st ≡ quiet st
unfolding run_lines
panicked_lines plan [] st panicked = refl
panicked_lines plan (item ∷ items) st panicked =
    ap (λ (b : Bool). then_course (line_if b plan item st) (run_lines plan items)) panicked ∙ panicked_lines plan items st panicked

pub lines_none : (show : Show) (failmode : Failmode) (s : Standing) (f : SeenFold) (items : List Item) (old : Journal) (tells : Images → Type 0) (holds : List ℕ → Type 0)
    → LinesRan show failmode s s f f items items (record { held = []; batch = []; batches = 0 }) (batches_from [] items) old old tells tells holds holds
lines_none show failmode s f items old tells holds n script before images printed mode h told = (
  images,
  [],
  subst (λ (text : List ℕ). IsCourseAt show n script before s f (record { held = []; batch = []; batches = 0 }) (batches_from [] items) old images text (λ plan st. run_lines plan items st)) (sym (append-nil printed)) h,
  told,
  Appends-none holds,
)

-- a request comes to those since the last go
pub lines_request : (show : Show) (failmode : Failmode) (s now : Standing) (f g : SeenFold) (items : List Item) (r : Request) (left : List Item) (held : List Batch) (batch : List Request) (batches : ℕ) (later : List (List Request)) (old new : Journal)
    (tells new_tells : Images → Type 0) (holds new_holds : List ℕ → Type 0) → g.panicked ≡ false
    → LinesRan show failmode s now f g items (RequestLine r ∷ left) (record { held = held; batch = batch; batches = batches }) later old new tells new_tells holds new_holds
    → LinesRan show failmode s now f g items left (record { held = held; batch = batch ++ r ∷ []; batches = batches }) later old new tells new_tells holds new_holds
lines_request show failmode s now f g items r left held batch batches later old new tells new_tells holds new_holds calm ran n script before images printed mode h told =
    let x = ran n script before images printed mode h told in (
      x.0,
      x.1,
      course_moved show n script before now g (record { held = held; batch = batch; batches = batches }) later new x.0 (printed ++ x.1) (λ plan st. run_lines plan (RequestLine r ∷ left) st) (λ plan st. run_lines plan left st)
          held (batch ++ r ∷ []) batches g.point x.2
          (λ js. lines_first (plan_of script before js) (RequestLine r) left x.2.state (x.2.panicked ∙ calm)
          ∙ ap (λ (st : State). run_lines (plan_of script before js) left st) (next x.2.state x.2.held x.2.batch x.2.batches x.2.at.point_is)),
      x.3,
      x.4,
    )
  where
    next : (st : State) → st.held ≡ held → st.batch ≡ batch → st.batches ≡ batches → st.point ≡ g.point
        → record st { batch = st.batch ++ r ∷ [] } ≡ record st { held = held; batch = batch ++ r ∷ []; batches = batches; point = g.point }
    next st a b d e =
        ap (λ (y : List Batch). record st { held = y; batch = st.batch ++ r ∷ [] }) a
        ∙ (ap (λ (y : List Request). record st { held = held; batch = y ++ r ∷ [] }) b
        ∙ (ap (λ (y : ℕ). record st { held = held; batch = batch ++ r ∷ []; batches = y }) d
        ∙ ap (λ (y : ℕ). record st { held = held; batch = batch ++ r ∷ []; batches = batches; point = y }) e))

-- a line that does something
pub lines_line : (show : Show) (failmode : Failmode) (s mid now : Standing) (f m g : SeenFold) (items : List Item) (item : Item) (left : List Item) (ahead to : Ahead) (own kept later : List (List Request)) (old j new : Journal)
    (tells mid_tells new_tells : Images → Type 0) (holds mid_holds new_holds : List ℕ → Type 0) → m.panicked ≡ false → AllByRecursion (IsOrderlyBatch (rows_tell_apart mid.rows)) later
    → LinesRan show failmode s mid f m items (item ∷ left) ahead (own ++ later) old j tells mid_tells holds mid_holds
    → LineRan show failmode mid now m g ahead to own kept j new mid_tells new_tells mid_holds new_holds (λ plan st. line plan item st)
    → LinesRan show failmode s now f g items left to (kept ++ later) old new tells new_tells holds new_holds
lines_line show failmode s mid now f m g items item left ahead to own kept later old j new tells mid_tells new_tells holds mid_holds new_holds calm orderly ran step n script before images printed mode h told =
    let first = ran n script before images printed mode h told in
    let second = step n script before first.0 later (printed ++ first.1) (λ plan st. run_lines plan left st) mode orderly
    (course_same show n script before mid m ahead (own ++ later) j first.0 (printed ++ first.1) (λ plan st. run_lines plan (item ∷ left) st) (λ plan st. then_course (line plan item st) (run_lines plan left)) first.2
    (λ js. lines_first (plan_of script before js) item left first.2.state (first.2.panicked ∙ calm))) first.3 in (
      second.0,
      first.1 ++ second.1,
      subst (λ (text : List ℕ). IsCourseAt show n script before now g to (kept ++ later) new second.0 text (λ plan st. run_lines plan left st)) (append_assoc printed first.1 second.1) second.2,
      second.3,
      Appends-both holds mid_holds new_holds first.1 second.1 first.4 second.4,
    )

pub lines_cut : {w : Stopping} → (show : Show) (failmode : Failmode) (s mid : Standing) (f m : SeenFold) (items : List Item) (item : Item) (left : List Item) (ahead : Ahead) (own later : List (List Request)) (old j new : Journal)
    (tells mid_tells new_tells : Images → Type 0) (holds mid_holds new_holds : List ℕ → Type 0) (fault : RunFault) → m.panicked ≡ false → mid.tops ≡ s.tops → AllByRecursion (IsOrderlyBatch (rows_tell_apart mid.rows)) later
    → LinesRan show failmode s mid f m items (item ∷ left) ahead (own ++ later) old j tells mid_tells holds mid_holds
    → LineCut show failmode mid m ahead own j new mid_tells new_tells w mid_holds new_holds (λ plan st. line plan item st) fault
    → LinesCut show failmode s f items old new tells new_tells w holds new_holds fault
lines_cut {w = w} show failmode s mid f m items item left ahead own later old j new tells mid_tells new_tells holds mid_holds new_holds fault calm tops orderly ran step n script before images printed mode h told =
    let first = ran n script before images printed mode h told in
    let second = step n script before first.0 later (printed ++ first.1) (λ plan st. run_lines plan left st) mode orderly
    (course_same show n script before mid m ahead (own ++ later) j first.0 (printed ++ first.1) (λ plan st. run_lines plan (item ∷ left) st) (λ plan st. then_course (line plan item st) (run_lines plan left)) first.2
    (λ js. lines_first (plan_of script before js) item left first.2.state (first.2.panicked ∙ calm))) first.3 in (
      second.0,
      second.1,
      subst (λ (t : List Top). IsCut show n script before t w fault new second.0 second.1) tops second.2,
      second.3,
      written_then fault holds mid_holds new_holds printed first.1 second.1 first.4 second.4,
    )

-- no line is left, or the run ended in a panic
pub lines_over : (show : Show) (failmode : Failmode) (s now : Standing) (f g : SeenFold) (items left : List Item) (to : Ahead) (later : List (List Request)) (old new : Journal)
    (tells new_tells : Images → Type 0) (holds new_holds : List ℕ → Type 0) → ((g.panicked ≡ true) ⊎ (left ≡ []))
    → LinesRan show failmode s now f g items left to later old new tells new_tells holds new_holds
    → LinesOver show failmode s now f g items to.held old new tells new_tells holds new_holds
lines_over show failmode s now f g items left to later old new tells new_tells holds new_holds why ran n script before images printed mode h told =
    let x = ran n script before images printed mode h told in (
      x.0,
      x.1,
      to,
      later,
      course_same show n script before now g to later new x.0 (printed ++ x.1) (λ plan st. run_lines plan left st) (λ plan st. quiet st) x.2 (λ js. go (plan_of script before js) x.2.state x.2.panicked why),
      refl,
      x.3,
      x.4,
    )
  where
    go : (plan : Plan) (st : State) → st.panicked ≡ g.panicked → ((g.panicked ≡ true) ⊎ (left ≡ [])) → run_lines plan left st ≡ quiet st
    go plan st same (inl panicked) = panicked_lines plan left st (same ∙ panicked)
    go plan st same (inr none) = ap (λ (items_left : List Item). run_lines plan items_left st) none ∙ no_lines plan st

pub take_front : (whole front rest : List Item) → whole ≡ front ++ rest → take (length whole - length rest) whole ≡ front
take_front whole front rest is =
    let count : length whole - length rest ≡ length front = (let a : length whole ≡ length (front ++ rest) = ap length is in let b = length-append front rest in omega arith) in
    ap (λ (n : ℕ). take n whole) count ∙ (ap (take (length front)) is ∙ go front)
  where
    go : (xs : List Item) → take (length xs) (xs ++ rest) ≡ xs
    go [] = refl
    go (x ∷ xs) = ap (λ (ys : List Item). x ∷ ys) (go xs)

pub all_behind : (P : List Request → Type 0) (xs : List (List Request)) (b : List Request) (later : List (List Request)) → AllByRecursion P (xs ++ (b ∷ later)) → AllByRecursion P later
all_behind P [] b later h = h.1
all_behind P (x ∷ xs) b later h = all_behind P xs b later h.1

pub all_after : (P : List Request → Type 0) (xs later : List (List Request)) → AllByRecursion P (xs ++ later) → AllByRecursion P later
all_after P [] later h = h
all_after P (x ∷ xs) later h = all_after P xs later h.1
