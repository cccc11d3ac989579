-- Turns and groups one after another, in each round that goes on.
use Rattle.std.proofs.Common.{◌≡◌, ℕ, ◌+◌, ◌<◌, ◌≤◌, List, [], ◌∷◌, ◌++◌, length, map, refl, sym, ap, ◌∙◌, subst, arith}
use Rattle.std.proofs.lemmas.List.{append-nil}
use Rattle.zio_types.specs.declared.place.Top.{Top}
use Rattle.zio_gang.specs.Attempts.{Terms}
use Rattle.zio_trace.specs.Families.{Forest}
use Rattle.zio_trace.specs.SoundRounds.{IsSoundRound}
use Rattle.zio_exchange.specs.declared.outcome.FinishedRequest.{FinishedRequest}
use Rattle.zio_exchange.specs.declared.outcome.Outcome.{Outcome}
use Rattle.slab.specs.Slab.{Slab}
use Rattle.zio_staged.specs.Parts.{Nodes}
use Rattle.zio_turns.specs.AtLeaves.{keys_at}
use Rattle.zio_turns.specs.Helping.{StaysKept}
use Rattle.zio_turns.specs.Rounds.{Before, IsTurn, SoFar, with_images}
use Rattle.zio_turns.specs.Slabs.{AreAll, left_over, load}
use Rattle.zio_turns.specs.UnderTurns.{AfterTurn, AreSameGrounds, GoesOnSome, HasEndedFor, HasGoneOn, HasTurned, IsDone, IsGoingOn, IssuesOn, RunsOn, TurnsOn, work_left}
use Rattle.zio_turns.specs.declared.desk.Desk.{Desk}
use Rattle.zio_turns.specs.declared.entry.TiedNode.{TiedNode}
use Rattle.zio_turns.specs.declared.grounds.Grounds.{Grounds}
use Rattle.zio_turns.specs.declared.turn.Turned.{Turned}
use Rattle.zio_turns.specs.declared.turn.Turned.TheVariants.{Nothing, Ended as HasEnded, Root}
use Rattle.zio_turns.proofs.TurnMoves.{gone_nowhere, gone_then}

-- ---- whether there is nothing to do

pub no_line : (line : List ℕ) → length line ≡ 0 → line ≡ []
no_line [] h = refl
no_line (k ∷ line) h = absurd (omega arith)

pub done_told : {S : Type 0} (line leaves : List ℕ) (turned : Turned S) → (turned ≡ Nothing → ⊥) → IsDone line leaves turned
done_told line leaves Nothing other = absurd (other refl)
done_told line leaves (HasEnded finished) other = tt
done_told line leaves (Root tree outcome) other = tt

module _ {N D : Type 0} (nodes : Nodes N) (bytes faults : D → ℕ) (image : D → List ℕ → Type 0) where
  abbrev Going : Terms → (ℕ → ℕ) → Forest → Before → SoFar → Slab (TiedNode N) → List ℕ → Grounds D → Type 0
  Going t sizes f before s slab line g = IsGoingOn {N = N} {D = D} nodes bytes image t sizes f before s slab line g

  -- another key is in front
  pub going_taken : (slab slab_now : Slab (TiedNode N)) (line line_now : List ℕ) (key : ℕ) (g : Grounds D)
      → StaysKept {N = N} nodes slab line slab_now (key ∷ line_now) → (t : Terms) (sizes : ℕ → ℕ) (f : Forest) (before : Before)
      (s : SoFar) → IsSoundRound t sizes f
      → Going t sizes f before s slab line g → Going t sizes f before s slab_now (key ∷ line_now) g
  going_taken slab slab_now line line_now key g turn t sizes f before s sound h =
      record { keeps = turn t sizes f before s _ sound h.keeps; lent = h.lent }

  pub some_taken : (slab slab_now : Slab (TiedNode N)) (line line_now : List ℕ) (key : ℕ) (g : Grounds D)
      → StaysKept {N = N} nodes slab line slab_now (key ∷ line_now) → GoesOnSome {N = N} {D = D} nodes bytes image slab line g
      → GoesOnSome {N = N} {D = D} nodes bytes image slab_now (key ∷ line_now) g
  some_taken slab slab_now line line_now key g turn some = record {
    terms = some.terms;
    sizes = some.sizes;
    forest = some.forest;
    before = some.before;
    so_far = some.so_far;
    sound = some.sound;
    going = going_taken slab slab_now line line_now key g turn some.terms some.sizes some.forest some.before some.so_far some.sound
        some.going;
  }

  -- ---- from the first

  module _ (first : Slab (TiedNode N)) (first_line : List ℕ) (lent : Grounds D) where
    -- each sound round that went on when it began goes on
    abbrev pub HaveRun : Slab (TiedNode N) → List ℕ → Grounds D → Type 0
    HaveRun slab line g =
        (t : Terms) (sizes : ℕ → ℕ) (f : Forest) (before : Before) (s : SoFar) → IsSoundRound t sizes f
        → Going t sizes f before s first first_line lent
        → HasTurned {N = N} {D = D} nodes bytes image t sizes f before s [] slab line g

    pub run_begins : HaveRun first first_line lent
    run_begins = λ t sizes f before s sound h. record { now = s; gone = gone_nowhere s; going = h }

    pub run_some : (slab : Slab (TiedNode N)) (line : List ℕ) (g : Grounds D) → HaveRun slab line g
        → GoesOnSome {N = N} {D = D} nodes bytes image first first_line lent
        → GoesOnSome {N = N} {D = D} nodes bytes image slab line g
    run_some slab line g h some =
        let so_far = h some.terms some.sizes some.forest some.before some.so_far some.sound some.going in
        record {
          terms = some.terms;
          sizes = some.sizes;
          forest = some.forest;
          before = some.before;
          so_far = so_far.now;
          sound = some.sound;
          going = so_far.going;
        }

    pub then_turned : (t : Terms) (sizes : ℕ → ℕ) (f : Forest) (before : Before) (s mid : SoFar) (xs ys : List FinishedRequest)
        (slab : Slab (TiedNode N)) (line : List ℕ) (g : Grounds D) → HasGoneOn s mid xs
        → HasTurned {N = N} {D = D} nodes bytes image t sizes f before mid ys slab line g
        → HasTurned {N = N} {D = D} nodes bytes image t sizes f before s (xs ++ ys) slab line g
    then_turned t sizes f before s mid xs ys slab line g h k =
        record { now = k.now; gone = gone_then s mid k.now xs ys h k.gone; going = k.going }

    pub then_ended : {S : Type 0} (t : Terms) (sizes : ℕ → ℕ) (f : Forest) (before : Before) (s mid : SoFar) (xs ys : List FinishedRequest)
        (slab : Slab (TiedNode N)) (line : List ℕ) (g : Grounds D) (tree : ℕ) (outcome : Outcome S) → HasGoneOn s mid xs
        → HasEndedFor {N = N} {D = D} nodes bytes image t sizes f before mid ys slab line g tree outcome
        → HasEndedFor {N = N} {D = D} nodes bytes image t sizes f before s (xs ++ ys) slab line g tree outcome
    then_ended t sizes f before s mid xs ys slab line g tree outcome h k = record {
      now = k.now;
      gone = gone_then s mid k.now xs ys h k.gone;
      top = k.top;
      number = k.number;
      child = k.child;
      op = k.op;
      value = k.value;
      there = k.there;
      is = k.is;
      goes = k.goes;
      asked = k.asked;
      fits = k.fits;
      how = k.how;
      more = k.more;
      told = k.told;
      going = k.going;
    }

    pub then_any : {S : Type 0} (t : Terms) (sizes : ℕ → ℕ) (f : Forest) (before : Before) (s mid : SoFar) (slab : Slab (TiedNode N)) (line : List ℕ)
        (g : Grounds D) (turned : Turned S) → HasGoneOn s mid []
        → AfterTurn {N = N} {D = D} nodes bytes image t sizes f before mid slab line g turned
        → AfterTurn {N = N} {D = D} nodes bytes image t sizes f before s slab line g turned
    then_any t sizes f before s mid slab line g Nothing h k = then_turned t sizes f before s mid [] [] slab line g h k
    then_any t sizes f before s mid slab line g (HasEnded finished) h k =
        (k.0, then_turned t sizes f before s mid [] (finished ∷ []) slab line g h k.1)
    then_any t sizes f before s mid slab line g (Root tree outcome) h k =
        then_ended t sizes f before s mid [] [] slab line g tree outcome h k

    module _ (slab slab_mid slab_now : Slab (TiedNode N)) (line line_mid line_now : List ℕ) (g now : Grounds D) (h : HaveRun slab line g) where
      -- a turn more
      pub run_turned : {S : Type 0} (key : ℕ) (turned : Turned S) → StaysKept {N = N} nodes slab line slab_mid (key ∷ line_mid)
          → TurnsOn {N = N} {D = D} nodes bytes image slab_mid line_mid g slab_now line_now now key turned
          → RunsOn {N = N} {D = D} nodes bytes image first first_line lent slab_now line_now now turned
      run_turned key turned turn turns = λ t sizes f before s sound k.
          let so_far = h t sizes f before s sound k in
          then_any t sizes f before s so_far.now slab_now line_now now turned so_far.gone
          (turns t sizes f before so_far.now sound (going_taken slab slab_mid line line_mid key g turn t sizes f before so_far.now sound
          so_far.going))

      pub run_told_nothing : {S : Type 0} (key : ℕ) (turned : Turned S) → StaysKept {N = N} nodes slab line slab_mid (key ∷ line_mid)
          → TurnsOn {N = N} {D = D} nodes bytes image slab_mid line_mid g slab_now line_now now key turned → turned ≡ Nothing
          → HaveRun slab_now line_now now
      run_told_nothing {S} key turned turn turns none =
          subst (RunsOn {N = N} {D = D} {S = S} nodes bytes image first first_line lent slab_now line_now now) none
          (run_turned key turned turn turns)

    -- a group more
    pub run_issued : (slab slab_now : Slab (TiedNode N)) (line line_now : List ℕ) (g now : Grounds D) → HaveRun slab line g
        → IssuesOn {N = N} {D = D} nodes bytes image slab line g slab_now line_now now → HaveRun slab_now line_now now
    run_issued slab slab_now line line_now g now h issues = λ t sizes f before s sound k.
        let so_far = h t sizes f before s sound k in
        let after = issues t sizes f before so_far.now sound so_far.going in
        record {
          now = with_images so_far.now after.0;
          gone = gone_then s so_far.now (with_images so_far.now after.0) [] [] so_far.gone (record {
            tellings = [];
            told = refl;
            more = [];
            entries_are = sym (append-nil so_far.now.entries);
            trees_are = refl;
            done = [];
            done_are = sym (append-nil so_far.now.books.done);
            done_told = tt;
          });
          going = after.1;
        }

  -- ---- what stands before each pick

  pub record IsDriving (over : List Top → N → Type 0) (first : Slab (TiedNode N)) (first_line : List ℕ) (lent : Grounds D)
      (slab : Slab (TiedNode N)) (line : List ℕ) (g : Grounds D) : Type 0 where
    pub gone : HaveRun first first_line lent slab line g
    pub over_all : AreAll {N = N} (over g.desk.tops) slab
    pub tops_same : g.desk.tops ≡ lent.desk.tops
    pub setting_same : g.setting ≡ lent.setting
    pub steady : map faults g.disks.items ≡ map faults lent.disks.items
    pub less : work_left {N = N} {D = D} nodes.left slab line g ≤ work_left {N = N} {D = D} nodes.left first first_line lent

  module _ (over : List Top → N → Type 0) (first : Slab (TiedNode N)) (first_line : List ℕ) (lent : Grounds D) where
    abbrev Driving : Slab (TiedNode N) → List ℕ → Grounds D → Type 0
    Driving slab line g = IsDriving over first first_line lent slab line g

    pub drive_begins : AreAll {N = N} (over lent.desk.tops) first → Driving first first_line lent
    drive_begins all = record {
      gone = run_begins first first_line lent;
      over_all = all;
      tops_same = refl;
      setting_same = refl;
      steady = refl;
      less = omega arith;
    }

    module _ (slab slab_mid slab_now : Slab (TiedNode N)) (line line_mid line_now : List ℕ) (g now : Grounds D) (h : Driving slab line g) where
      -- the key in front
      pub drive_taken : (key : ℕ) → StaysKept {N = N} nodes slab line slab_mid (key ∷ line_mid)
          → GoesOnSome {N = N} {D = D} nodes bytes image first first_line lent
          → GoesOnSome {N = N} {D = D} nodes bytes image slab_mid (key ∷ line_mid) g
      drive_taken key turn some =
          some_taken slab slab_mid line line_mid key g turn (run_some first first_line lent slab line g h.gone some)

      -- it is its turn
      pub drive_turn : (key : ℕ) (tops : List Top) → StaysKept {N = N} nodes slab line slab_mid (key ∷ line_mid) → slab_mid ≡ slab
          → tops ≡ g.desk.tops → GoesOnSome {N = N} {D = D} nodes bytes image first first_line lent
          → IsTurn {N = N} nodes over tops slab_mid line_mid key
      drive_turn key tops turn same tops_same some =
          let some_now = drive_taken key turn some in
          record {
            leaves = keys_at g.queues.leaves.items;
            keeps = record {
              terms = some_now.terms;
              sizes = some_now.sizes;
              forest = some_now.forest;
              before = some_now.before;
              so_far = some_now.so_far;
              sound = some_now.sound;
              tops_are = sym some_now.going.lent.desk.desk.tops_are ∙ sym tops_same;
              keeps = some_now.going.keeps;
            };
            over_all = subst (λ (ts : List Top). AreAll {N = N} (over ts) slab_mid) (sym tops_same)
                (subst (λ (x : Slab (TiedNode N)). AreAll {N = N} (over g.desk.tops) x) (sym same) h.over_all);
          }

      -- with one key less a turn takes as much as it may
      pub taken_less : (slab_taken : Slab (TiedNode N)) (line_taken : List ℕ) → slab_taken ≡ slab → length line_taken + 1 ≡ length line
          → load {N = N} nodes.left slab_mid line_mid ≤ load {N = N} nodes.left slab_taken line_taken
          → work_left {N = N} {D = D} nodes.left slab_now line_now now
          < work_left {N = N} {D = D} nodes.left slab_mid line_mid g + 1
          → work_left {N = N} {D = D} nodes.left slab_now line_now now < work_left {N = N} {D = D} nodes.left slab line g
      taken_less slab_taken line_taken same len helped less =
          let e : left_over {N = N} nodes.left slab_taken ≡ left_over {N = N} nodes.left slab = ap (left_over {N = N} nodes.left) same in
          omega (arith, less, len, helped, e)

      pub drive_turned : {S : Type 0} (key : ℕ) (turned : Turned S) → StaysKept {N = N} nodes slab line slab_mid (key ∷ line_mid)
          → TurnsOn {N = N} {D = D} nodes bytes image slab_mid line_mid g slab_now line_now now key turned → turned ≡ Nothing
          → AreAll {N = N} (over now.desk.tops) slab_now → AreSameGrounds {D = D} g now
          → work_left {N = N} {D = D} nodes.left slab_now line_now now < work_left {N = N} {D = D} nodes.left slab line g
          → Driving slab_now line_now now
      drive_turned key turned turn turns none all same less = record {
        gone = run_told_nothing first first_line lent slab slab_mid slab_now line line_mid line_now g now h.gone key turned turn turns
            none;
        over_all = all;
        tops_same = same.tops_same ∙ h.tops_same;
        setting_same = same.setting_same ∙ h.setting_same;
        steady = ap (λ (ds : List D). map faults ds) same.disks_same ∙ h.steady;
        less = omega (arith, less, h.less);
      }

      pub drive_tells : {S : Type 0} (key : ℕ) (turned : Turned S) → StaysKept {N = N} nodes slab line slab_mid (key ∷ line_mid)
          → TurnsOn {N = N} {D = D} nodes bytes image slab_mid line_mid g slab_now line_now now key turned
          → RunsOn {N = N} {D = D} nodes bytes image first first_line lent slab_now line_now now turned
      drive_tells key turned turn turns =
          run_turned first first_line lent slab slab_mid slab_now line line_mid line_now g now h.gone key turned turn turns

    pub drive_issued : (slab slab_now : Slab (TiedNode N)) (line line_now : List ℕ) (g now : Grounds D) → Driving slab line g
        → IssuesOn {N = N} {D = D} nodes bytes image slab line g slab_now line_now now
        → AreAll {N = N} (over now.desk.tops) slab_now → now.desk ≡ g.desk → now.setting ≡ g.setting
        → map faults now.disks.items ≡ map faults g.disks.items
        → work_left {N = N} {D = D} nodes.left slab_now line_now now < work_left {N = N} {D = D} nodes.left slab line g
        → Driving slab_now line_now now
    drive_issued slab slab_now line line_now g now h issues all desk setting steady less = record {
      gone = run_issued first first_line lent slab slab_now line line_now g now h.gone issues;
      over_all = all;
      tops_same = ap (λ (d : Desk). d.tops) desk ∙ h.tops_same;
      setting_same = setting ∙ h.setting_same;
      steady = steady ∙ h.steady;
      less = omega (arith, less, h.less);
    }
