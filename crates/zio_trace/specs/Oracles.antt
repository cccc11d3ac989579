-- What a program with whole parts ends with, and what it asks at the Bottom, where each operation has its answer.
use Rattle.std.specs.Prelude.{◌≡◌, ℕ, ◌+◌, Bool, true, false, List, [], ◌∷◌, ◌++◌, map}
use Rattle.std.specs.List.{AllByRecursion}
use Rattle.zio_trace.specs.Programs.{Program, Ends, Asks, Deed}

-- how operations are done: some at once, the others by a plan; and which answers fit
pub record Ways (Op Ans : Type 0) : Type 1 where
  pub plan : Op → Program Op Ans Ans
  pub single : Op → Bool
  pub Fits : Op → Ans → Type 0

-- an answer to each operation, and the operations done at once that it comes to, in the definitions' order
pub record Oracle (Op Ans : Type 0) : Type 0 where
  pub answer : Op → Ans
  pub asked : Op → List Op

abbrev pub heard : {Op Ans A : Type 0} → Oracle Op Ans → Program Op Ans A → A
heard o (Ends a) = a
heard o (Asks op more) = heard o (more (o.answer op))

abbrev pub asked_in : {Op Ans A : Type 0} → Oracle Op Ans → Program Op Ans A → List Op
asked_in o (Ends a) = []
asked_in o (Asks op more) = o.asked op ++ asked_in o (more (o.answer op))

-- a part's answer is what its plan ends with
pub record IsOracle {Op Ans : Type 0} (ways : Ways Op Ans) (o : Oracle Op Ans) : Type 0 where
  pub fits : (op : Op) → ways.Fits op (o.answer op)
  pub itself : (op : Op) → ways.single op ≡ true → o.asked op ≡ op ∷ []
  pub answer : (op : Op) → ways.single op ≡ false → o.answer op ≡ heard o (ways.plan op)
  pub asked : (op : Op) → ways.single op ≡ false → o.asked op ≡ asked_in o (ways.plan op)

abbrev pub Agrees : {Op Ans : Type 0} → Oracle Op Ans → List (Deed Op Ans) → Type 0
Agrees {Op} {Ans} o ds = AllByRecursion (λ (d : Deed Op Ans). o.answer d.op ≡ d.answer) ds

-- these deeds are done, and so it holds, whatever comes
abbrev pub Sure : {Op Ans : Type 0} → Ways Op Ans → List (Deed Op Ans) → (Oracle Op Ans → Type 0) → Type 0
Sure {Op} {Ans} ways ds P = (o : Oracle Op Ans) → IsOracle ways o → Agrees o ds → P o

-- ---- how much

abbrev pub weigh : {X : Type 0} → (X → ℕ) → List X → ℕ
weigh w [] = 0
weigh w (x ∷ xs) = w x + weigh w xs

-- the same elements, each as often
abbrev pub Shuffled : {X : Type 0} → List X → List X → Type 0
Shuffled {X} xs ys = (w : X → ℕ) → weigh w xs ≡ weigh w ys

abbrev pub ops_of : {Op Ans : Type 0} → List (Deed Op Ans) → List Op
ops_of {Op} {Ans} ds = map (λ (d : Deed Op Ans). d.op) ds

-- a test that tells these operations apart
pub record IsTest {Op : Type 0} (same : Op → Op → Bool) (In : Op → Type 0) : Type 0 where
  pub itself : (a : Op) → same a a ≡ true
  pub is : (a b : Op) → In a → In b → same a b ≡ true → a ≡ b

-- no operation twice
abbrev pub AreOnce : {Op Ans : Type 0} → (Op → Op → Bool) → List (Deed Op Ans) → Type 0
AreOnce same [] = Unit {0}
AreOnce {Op} {Ans} same (d ∷ ds) = AllByRecursion (λ (e : Deed Op Ans). same d.op e.op ≡ false) ds × AreOnce same ds

-- ---- order

-- each stands before those behind it
abbrev pub Ascends : {Op : Type 0} → (Op → Op → Type 0) → List Op → Type 0
Ascends Before [] = Unit {0}
Ascends {Op} Before (x ∷ xs) = AllByRecursion (λ (y : Op). Before x y) xs × Ascends Before xs

-- what was done later, though it stands before, is apart
abbrev pub InOrder : {Op Ans : Type 0} → (Op → Op → Type 0) → (Op → Op → Type 0) → List (Deed Op Ans) → Type 0
InOrder Before Apart [] = Unit {0}
InOrder {Op} {Ans} Before Apart (d ∷ ds) = AllByRecursion (λ (e : Deed Op Ans). Before e.op d.op → Apart d.op e.op) ds × InOrder Before Apart ds

-- the operations with an oracle's answers
abbrev pub deed_as : {Op Ans : Type 0} → Oracle Op Ans → Op → Deed Op Ans
deed_as o op = record { op = op; answer = o.answer op }

abbrev pub deeds_as : {Op Ans : Type 0} → Oracle Op Ans → List Op → List (Deed Op Ans)
deeds_as o [] = []
deeds_as o (op ∷ ops) = deed_as o op ∷ deeds_as o ops
