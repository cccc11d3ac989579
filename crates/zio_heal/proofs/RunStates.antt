-- What holds of a run between two rounds, where its script heals: its blocks are safe, and it is beside the plain store.
use Rattle.std.specs.Prelude.{◌≡◌, ℕ, List, [], Bool, false, Contains}
use Rattle.std.specs.List.{AllByRecursion}
use Rattle.zio_faults.specs.declared.table.Row.{Row}
use Rattle.zio_script.specs.declared.script.Failmode.TheVariants.{Wait}
use Rattle.zio_script.specs.declared.script.Request.{Request}
use Rattle.zio_cksum.specs.Images.{Images, Setting}
use Rattle.zio_gang.specs.Attempts.{Pending}
use Rattle.zio_gang.specs.Journals.{AreChoicesOf, choices_in}
use Rattle.zio_gang.specs.Rounds.{Binding, Bound, used_places}
use Rattle.zio_gang.specs.Runs.{Course, Plan, State}
use Rattle.zio_gang.specs.Trees.{sizes_of}
use Rattle.zio_report.specs.Reports.{all_ended}
use Rattle.zio_trace.specs.Leaves.{HaveSizes}
use Rattle.zio_trace.specs.RunTraces.{RoundStart, round_from}
use Rattle.zio_heal.specs.Copies.{IsPastFaults}
use Rattle.zio_heal.specs.Given.{AreTrueReads, Deeds}
use Rattle.zio_heal.specs.Healed.{turns_stored}
use Rattle.zio_heal.specs.PlainStore.{Plain, Store, plain_from}
use Rattle.zio_heal.specs.Pools.{IsPool, NoSmallRefused}
use Rattle.zio_heal.specs.SafeBlocks.{AreSafe, Contents, IsSafe, IsSafeBlock}
use Rattle.zio_heal.proofs.BatchReady.{IsFineBatch}
use Rattle.zio_heal.proofs.PieceLemmas.{each_weaker}
use Rattle.zio_heal.proofs.UnderWay.{IsAnswered, IsUnderWay}
use Rattle.zio_cksum.proofs.AllLemmas.{all_weaker}

-- the setting of a plan at a resume point
abbrev pub setting_at : Plan → ℕ → Setting
setting_at plan point = record { tops = plan.tops; rows = plan.rows; point = point }

-- what is known of the whole run: its tops are a pool, no row turns what is stored, a round that leaves a tree ends
-- nothing, and no single sector is refused
pub record IsGround (plan : Plan) (sizes : ℕ → ℕ) : Type 0 where
  pub pool : IsPool sizes plan.tops
  pub stores : AllByRecursion (λ (row : Row). turns_stored row ≡ false) plan.rows
  pub waits : plan.failmode ≡ Wait
  pub small : NoSmallRefused plan.journal

-- the journal has lawful choices for the round
abbrev pub IsLawfulStart : Plan → RoundStart → Type 0
IsLawfulStart plan s = AreChoicesOf (sizes_of plan.tops) s.terms.used (round_from plan.journal s).asks (choices_in s.terms.round plan.journal)

-- a batch that hasn't begun
pub record IsQueued (apart : Bool) (requests batch : List Request) : Type 0 where
  pub fine : IsFineBatch apart batch
  pub members : AllByRecursion (Contains requests) batch

-- what the plain store still comes to from here on is its end
pub record IsRest (plain : Plain) (store : Store) (queue : List (List Request)) : Type 0 where
  pub replies : AllByRecursion (Contains plain.replies) (plain_from store queue).replies
  pub store_is : (plain_from store queue).store ≡ plain.store

-- The run stands here, behind these deeds, and these batches haven't begun.
pub record IsOn (plan : Plan) (sizes : ℕ → ℕ) (apart : Bool) (requests : List Request) (plain : Plain) (ds : Deeds) (images : Images) (bound : Bound) (point : ℕ) (suspended : List (List Pending)) (panicked : Bool) (queue : List (List Request)) : Type 0 where
  pub contents : Contents
  pub store : Store
  pub sized : HaveSizes sizes images
  pub safe : AreSafe (setting_at plan point) images ds contents bound
  pub under_way : IsUnderWay plain.replies requests contents bound suspended store
  pub stands : panicked ≡ false
  pub rest : IsRest plain store queue
  pub queued : AllByRecursion (IsQueued apart requests) queue

module _ (plan : Plan) (sizes : ℕ → ℕ) (apart : Bool) (requests : List Request) (plain : Plain) where
  abbrev pub OnAt : Deeds → State → List (List Request) → Type 0
  OnAt ds st queue = IsOn plan sizes apart requests plain ds st.images st.bound st.point st.suspended st.panicked queue

  -- nothing is suspended once no row is met any more
  abbrev pub IsCalm : State → Type 0
  IsCalm st = IsPastFaults (setting_at plan st.point) → st.suspended ≡ []

  abbrev pub AllAnswered : Course → Type 0
  AllAnswered c = AllByRecursion (IsAnswered plain.replies requests) (all_ended c.events)

  -- a round was run, and the deeds to come are still to be read truly
  pub record RoundOut (c : Course) (queue : List (List Request)) (more : Deeds) : Type 0 where
    pub ds : Deeds
    pub on : OnAt ds c.state queue
    pub accepts : AreTrueReads ds more
    pub answered : AllAnswered c
    pub calm : IsCalm c.state

-- Blocks are safe at whatever resume point.
pub safe_at : (plan : Plan) (point later : ℕ) (images : Images) (ds : Deeds) (contents : Contents) (bound : Bound) → AreSafe (setting_at plan point) images ds contents bound → AreSafe (setting_at plan later) images ds contents bound
safe_at plan point later images ds contents bound h =
    let s : Setting = setting_at plan point in
    let t : Setting = setting_at plan later in
    record {
      once = h.once;
      blocks =
          all_weaker (λ (b : Binding). IsSafeBlock s images ds (used_places bound) b.tree (contents b.name)) (λ (b : Binding). IsSafeBlock t images ds (used_places bound) b.tree (contents b.name)) bound
          (λ b k. record {
            own = k.own;
            pieces = each_weaker (IsSafe s images ds) (IsSafe t images ds) (λ c bytes x. record { held = record { is_good = x.held.is_good; copy = x.held.copy }; given = x.given }) b.tree (contents b.name) k.pieces;
          }) h.blocks;
      apart = h.apart;
    }
