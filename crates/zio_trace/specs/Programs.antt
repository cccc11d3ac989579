-- Programs of operations: what is asked next, given the answers so far. What they give where they run alone, and
-- what has happened where a list of operations was answered.
--
-- An operation may be a leaf's, or one of the space, or a whole part of the work, as the read of a block: what it
-- gives over some images is handed in as a meaning.
use Rattle.std.specs.Prelude.{◌≡◌, List, [], ◌∷◌, ◌++◌}
use Rattle.zio_types.specs.Choices.{Ask}
use Rattle.zio_cksum.specs.Images.{Images}

-- what something gives: its value, what it asked places for, and the images after it
pub record Done (A : Type 0) : Type 0 where
  pub value : A
  pub asks : List Ask
  pub images : Images

-- what each operation gives over some images
abbrev pub Meaning : Type 0 → Type 0 → Type 0
Meaning Op Ans = Op → Images → Done Ans

pub data Program (Op Ans A : Type 0) : Type 0 where
  Ends : A → Program Op Ans A
  Asks : Op → (Ans → Program Op Ans A) → Program Op Ans A

infixl 10 ◌>>=◌
-- one after another
abbrev pub ◌>>=◌ : {Op Ans A B : Type 0} → Program Op Ans A → (A → Program Op Ans B) → Program Op Ans B
(Ends a) >>= next = next a
(Asks op more) >>= next = Asks op (λ answer. more answer >>= next)

-- one operation, and its answer
abbrev pub ask : {Op Ans : Type 0} → Op → Program Op Ans Ans
ask op = Asks op (λ answer. Ends answer)

-- ---- alone

abbrev pub behind : {A : Type 0} → List Ask → Done A → Done A
behind asks d = record { value = d.value; asks = asks ++ d.asks; images = d.images }

abbrev pub run : {Op Ans A : Type 0} → Meaning Op Ans → Program Op Ans A → Images → Done A
run means (Ends a) images = record { value = a; asks = []; images = images }
run means (Asks op more) images = behind (means op images).asks (run means (more (means op images).value) (means op images).images)

-- ---- with answers

-- an operation with its answer
pub record Deed (Op Ans : Type 0) : Type 0 where
  pub op : Op
  pub answer : Ans

-- what is left of the program after these deeds
abbrev pub Leads : {Op Ans A : Type 0} → Program Op Ans A → List (Deed Op Ans) → Program Op Ans A → Type 0
Leads p [] rest = p ≡ rest
Leads (Ends a) (d ∷ ds) rest = ⊥
Leads (Asks op more) (d ∷ ds) rest = (d.op ≡ op) × Leads (more d.answer) ds rest

-- the program does these deeds and no more, and ends with the value
abbrev pub Does : {Op Ans A : Type 0} → Program Op Ans A → List (Deed Op Ans) → A → Type 0
Does p ds value = Leads p ds (Ends value)

-- the deeds in turn lead from the images before to those after, and each has the answer of its turn
abbrev pub Happen : {Op Ans : Type 0} → Meaning Op Ans → List (Deed Op Ans) → Images → Images → Type 0
Happen means [] before after = before ≡ after
Happen means (d ∷ ds) before after = ((means d.op before).value ≡ d.answer) × Happen means ds (means d.op before).images after

-- what they ask places for, where an operation asks the same over any images
abbrev pub asks_of : {Op Ans : Type 0} → Meaning Op Ans → List (Deed Op Ans) → Images → List Ask
asks_of means [] images = []
asks_of means (d ∷ ds) images = (means d.op images).asks ++ asks_of means ds (means d.op images).images

-- the deeds of a program that runs alone
abbrev pub deeds_of : {Op Ans A : Type 0} → Meaning Op Ans → Program Op Ans A → Images → List (Deed Op Ans)
deeds_of means (Ends a) images = []
deeds_of means (Asks op more) images =
    record { op = op; answer = (means op images).value }
    ∷ deeds_of means (more (means op images).value) (means op images).images

-- ---- whole parts of the work

-- These calls are made of these deeds: each is one of them, or its plan does calls that are made of some.
pub data Made {Op Ans : Type 0} (plan : Op → Program Op Ans Ans) : List (Deed Op Ans) → List (Deed Op Ans) → Type 0 where
  NoneMade : Made plan [] []
  Itself : {c : Deed Op Ans} {cs ds : List (Deed Op Ans)} → Made plan cs ds → Made plan (c ∷ cs) (c ∷ ds)
  ByParts : {c : Deed Op Ans} {cs calls ds es : List (Deed Op Ans)} → Does (plan c.op) calls c.answer → Made plan calls ds → Made plan cs es → Made plan (c ∷ cs) (ds ++ es)
