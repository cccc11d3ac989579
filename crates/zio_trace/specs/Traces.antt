-- The trace of a task: the single operations that it comes to, in the definitions' order, each with its answer.
use Rattle.std.specs.Prelude.{◌≡◌, Bool, true, false, List, [], ◌∷◌, ◌++◌, ◌⊎◌}
use Rattle.std.specs.List.{AllByRecursion}
use Rattle.zio_types.specs.Choices.{Ask, Choice}
use Rattle.zio_cksum.specs.Images.{Images}
use Rattle.zio_gang.specs.Attempts.{Terms}
use Rattle.zio_trace.specs.Conflicts.{is_single}
use Rattle.zio_trace.specs.Footprints.{Within}
use Rattle.zio_trace.specs.Plans.{plan}
use Rattle.zio_trace.specs.Programs.{Program, Ends, Asks, Deed, Happen, Made}
use Rattle.zio_trace.specs.Tasks.{Task, Find, Value, means}

-- the program may ask this
abbrev pub Mentions : {Op Ans A : Type 0} → Program Op Ans A → Op → Type 0
Mentions (Ends a) q = ⊥
Mentions {Op} {Ans} (Asks op more) q = (op ≡ q) ⊎ ((answer : Ans) × Mentions (more answer) q)

-- whatever answers come, the plan of a plan of .. ends at single operations
pub data Grounded {Op Ans : Type 0} (plan : Op → Program Op Ans Ans) (single : Op → Bool) : Op → Type 0 where
  Bottom : {op : Op} → single op ≡ true → Grounded plan single op
  Above : {op : Op} → single op ≡ false → ((q : Op) → Mentions (plan op) q → Grounded plan single q) → Grounded plan single op

-- each operation that the program may ask is so
abbrev pub AsksOnly : {Op Ans A : Type 0} → (Op → Type 0) → Program Op Ans A → Type 0
AsksOnly P (Ends a) = Unit {0}
AsksOnly {Op} {Ans} P (Asks op more) = P op × ((answer : Ans) → AsksOnly P (more answer))

-- what single operations ask places for
abbrev pub asked_by : Task → List Ask
asked_by (Find a) = a ∷ []
asked_by _ = []

abbrev pub all_asked : List (Deed Task Value) → List Ask
all_asked [] = []
all_asked (d ∷ ds) = asked_by d.op ++ all_asked ds

-- The deeds are a trace of the task over some images: single operations which it may do, and which it is made of. They
-- happen one after another and leave the images that the task leaves, and what they ask for is what it asks for.
pub record IsTrace (journal : List Choice) (t : Terms) (o : Task) (images : Images) (ds : List (Deed Task Value)) : Type 0 where
  pub made : Made (plan t) (record { op = o; answer = (means journal t o images).value } ∷ []) ds
  pub happen : Happen (means journal t) ds images (means journal t o images).images
  pub single : AllByRecursion (λ (d : Deed Task Value). is_single d.op ≡ true) ds
  pub within : AllByRecursion (λ (d : Deed Task Value). Within journal t o d.op) ds
  pub asks : (means journal t o images).asks ≡ all_asked ds
