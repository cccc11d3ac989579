-- What attempts of trees of requests leave, whatever their operations are answered: which requests finished, and which are left.
use Rattle.std.specs.Prelude.{◌≡◌, ℕ, zero, suc, ◌+◌, List, [], ◌∷◌, length, map, count_by, Bool, true, false, Contains, is_some, None}
use Rattle.std.specs.List.{AllByRecursion}
use Rattle.zio_script.specs.declared.script.Request.{Request}
use Rattle.zio_script.specs.declared.script.Work.{Work}
use Rattle.zio_script.specs.Requests.{makes_block}
use Rattle.zio_gang.specs.Attempts.{Ended, Pending, Terms, judged_own, now_alone, reexecutions_max}
use Rattle.zio_trace.specs.Families.{Forest, NoTrees, TreeOf}
use Rattle.zio_trace.specs.Plans.{Kids, add_kid, add_settled, bare, one_of, settled_one}
use Rattle.zio_trace.specs.Rounds.{Round}
use Rattle.zio_trace.specs.Tasks.{One, OwnGot, Settled, SettledBy, Value}
use Rattle.zio_course.specs.Runners.{AreRestsOf, has_claim, is_numbered, numbers_of, requests_in}

-- ---- by what they are made of

-- own work makes a block only where it is a write's or a claim's
abbrev pub OwnMakes : Work → OwnGot → Type 0
OwnMakes work own = is_some own.tree ≡ true → makes_block work ≡ true

abbrev pub no_kids : Kids
no_kids = record { returns = []; ended = []; again = []; left = NoTrees }

-- The request was judged over these children and its own work.
pub record IsAttempted (t : Terms) (p : Pending) (KidsAre : Kids → Type 0) (one : One) : Type 0 where
  pub kids : Kids
  pub own : OwnGot
  pub are : KidsAre kids
  pub makes : OwnMakes p.request.work own
  pub is : one ≡ one_of kids (judged_own t p kids.returns (bare own))

-- some trees were attempted, one after another
abbrev pub AreAttempted : Terms → Forest → Kids → Type 0
AreAttempted t NoTrees k = k ≡ no_kids
AreAttempted t (TreeOf p kids others) k =
    (one : One) × (o : Kids) × IsAttempted t p (AreAttempted t kids) one × AreAttempted t others o × (k ≡ add_kid one o)

-- it is attempted again where it goes again at once
abbrev pub SettlesOn : Bool → One → Forest → (Pending → Forest → Settled → Type 0) → Settled → Type 0
SettlesOn false one left Again s = s ≡ settled_one one
SettlesOn true one NoTrees Again s = s ≡ settled_one one
SettlesOn true one (TreeOf p kids others) Again s = (later : Settled) × Again p kids later × (s ≡ add_settled one later)

-- a tree was attempted, and so many times more at most
abbrev pub IsSettled : ℕ → Terms → Pending → Forest → Settled → Type 0
IsSettled zero t p kids s = (one : One) × IsAttempted t p (AreAttempted t kids) one × (s ≡ settled_one one)
IsSettled (suc more) t p kids s =
    (one : One) × IsAttempted t p (AreAttempted t kids) one × SettlesOn (now_alone one.return.bits) one one.left (IsSettled more t) s

-- each tree has what its attempts left
abbrev pub AreSettled : Terms → Forest → List Value → Type 0
AreSettled t NoTrees vs = vs ≡ []
AreSettled t (TreeOf p kids others) [] = ⊥
AreSettled t (TreeOf p kids others) (v ∷ vs) =
    ((s : Settled) × (v ≡ SettledBy s) × IsSettled reexecutions_max t p kids s) × AreSettled t others vs

-- ---- what they leave

abbrev pub requests_of : List Pending → List Request
requests_of ps = map (λ (p : Pending). p.request) ps

abbrev pub requests_ended : List Ended → List Request
requests_ended es = map (λ (e : Ended). e.request) es

-- a request that made a block is a write or a claim, and finished without error
pub record MakesOwn (e : Ended) : Type 0 where
  pub well : is_some e.tree ≡ true → e.error ≡ None
  pub makes : is_some e.tree ≡ true → makes_block e.request.work ≡ true

-- Each request of these trees finished or is left, and not both; what is left are rests of the trees, with no claim where one
-- is alone; and writes and claims alone made blocks.
pub record LeavesTrees (trees : List (List Pending)) (round : Round) : Type 0 where
  pub each : (n : ℕ) → count_by (is_numbered n) (numbers_of (requests_in trees))
      ≡ count_by (is_numbered n) (numbers_of (requests_ended round.ended)) + count_by (is_numbered n) (numbers_of (requests_in round.left))
  pub rests : AreRestsOf trees round.left
  pub from : AllByRecursion (λ (e : Ended). Contains (requests_in trees) e.request) round.ended
  pub makers : AllByRecursion MakesOwn round.ended
  pub claims : (has_claim (requests_in trees) ≡ true → length (requests_in trees) ≡ 1) → has_claim (requests_in round.left) ≡ false
