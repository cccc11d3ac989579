-- A whole round as the round of a batch.
use Rattle.std.proofs.Common.{◌≡◌, ℕ, List, Result, Ok, Err, true, refl, sym, subst, inl}
use Rattle.std.specs.Prelude.{IfErr, IsErrAnd}
use Rattle.zio_types.specs.declared.journal.Completion.{Completion}
use Rattle.zio_types.specs.declared.journal.Journal.{Journal}
use Rattle.zio_script.specs.declared.script.Failmode.{Failmode}
use Rattle.zio_cksum.specs.Images.{Images}
use Rattle.zio_gang.specs.Attempts.{Pending, Terms}
use Rattle.zio_course.specs.declared.runner.RequestEnd.{RequestEnd}
use Rattle.zio_course.specs.declared.runner.Stop.{Stop}
use Rattle.zio_course.specs.declared.runner.Stop.TheVariants.{Device as DeviceStops, Memory as NoMemory}
use Rattle.zio_course.specs.Entered.{IsEntered}
use Rattle.zio_course.specs.Runners.{DiffersInRound, IsCutRound, IsRound, IsRoundEnd, SeenEnd, Standing, StandsAfter, Stopping, terms_at}

pub stopped_by : {A : Type 0} (r : Result A Stop) (stop : Stop) (P : Stop → Type 0) → IsErrAnd r (λ e. e ≡ stop) → P stop → IfErr r P
stopped_by (Ok x) stop P is h = tt
stopped_by (Err e) stop P is h = subst P (sym is) h

-- the runner was stopped in it
pub stopped_round : (stop : Stop) (w : Stopping) (t : Terms) (trees : List (List Pending)) (before after : Images)
    → w.stopped ≡ true → (stop ≡ NoMemory → w.means t trees before) → IsCutRound stop w t trees before after
stopped_round DeviceStops w t trees before after stopped means = stopped
stopped_round NoMemory w t trees before after stopped means = inl (stopped, means refl)

-- the same from a runner that stands as it did, with the trees that were made
pub broken_moved : (s mid : Standing) (w : Stopping) (stop : Stop) (trees made : List (List Pending)) (failmode : Failmode) (round point : ℕ) (before after : Images) → mid ≡ s → made ≡ trees
    → IsCutRound stop w (terms_at mid failmode round point) made before after × DiffersInRound mid made before after
    → IsCutRound stop w (terms_at s failmode round point) trees before after × DiffersInRound s trees before after
broken_moved s mid w stop trees made failmode round point before after same_s same_trees h =
    subst (λ (ts : List (List Pending)). IsCutRound stop w (terms_at s failmode round point) ts before after × DiffersInRound s ts before after) same_trees
    (subst (λ (x : Standing). IsCutRound stop w (terms_at x failmode round point) made before after × DiffersInRound x made before after) same_s h)

-- what is known of a whole round
abbrev pub Whole : Standing → List (List Pending) → List Completion → (Images → Type 0) → Failmode → ℕ → ℕ → Journal → Journal → Standing → (Images → Type 0)
    → List RequestEnd → List (List Pending) → Type 0
Whole s trees answered tells failmode round point old new after_standing after_tells finished left =
    (end : SeenEnd) × IsEntered answered old new end finished left
    × IsRoundEnd s round trees end
    × StandsAfter s after_standing round trees end
    × ((before : Images) → tells before → (after : Images) × after_tells after × IsRound (terms_at s failmode round point) trees before after end)

-- the same from a runner that stands as it did, with the trees that were made
pub whole_moved : (s mid after_standing : Standing) (trees made : List (List Pending)) (answered given : List Completion) (tells mid_tells after_tells : Images → Type 0)
    (failmode : Failmode) (round point : ℕ) (old new : Journal) (finished : List RequestEnd) (left : List (List Pending))
    → mid ≡ s → made ≡ trees → given ≡ answered → ((images : Images) → tells images → mid_tells images)
    → Whole mid made given mid_tells failmode round point old new after_standing after_tells finished left
    → Whole s trees answered tells failmode round point old new after_standing after_tells finished left
whole_moved s mid after_standing trees made answered given tells mid_tells after_tells failmode round point old new finished left same_s same_trees same_answered move w =
    let on_s = subst (λ (x : Standing). Whole x made given mid_tells failmode round point old new after_standing after_tells finished left) same_s w in
    let on_trees = subst (λ (ts : List (List Pending)). Whole s ts given mid_tells failmode round point old new after_standing after_tells finished left) same_trees on_s in
    let h = subst (λ (cs : List Completion). Whole s trees cs mid_tells failmode round point old new after_standing after_tells finished left) same_answered on_trees in
    (h.0, h.1, h.2, h.3, λ before told. h.4 before (move before told))
