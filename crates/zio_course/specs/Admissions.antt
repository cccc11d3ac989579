-- What admission finds in the trees of a batch.
use Rattle.std.specs.Prelude.{◌≡◌, ℕ, zero, suc, List, [], ◌∷◌, map, Bool, true, false, ◌&&◌, ◌||◌, not, Option, Some, None, option_map, slice_get, nat_eq, ◌==◌}
use Rattle.std.specs.List.{AllByRecursion, list_any}
use Rattle.std.specs.Map.{lookup}
use Rattle.zio_types.specs.declared.error.Errno.{Errno}
use Rattle.zio_script.specs.declared.script.Item.{Item}
use Rattle.zio_script.specs.declared.script.Item.TheVariants.{Request as RequestLine, Go, Clear}
use Rattle.zio_script.specs.declared.script.Request.{Request}
use Rattle.zio_script.specs.declared.script.Work.{Work}
use Rattle.zio_script.specs.Requests.{changes_pool, makes_block, name_of, needs_block}
use Rattle.zio_gang.specs.Rounds.{first_rule, passes, with_request}
use Rattle.zio_course.specs.declared.admission.Rules.{Rules}

-- what admission finds in this work, where something is suspended or isn't, beside the names that are awaited and bound
abbrev pub rules_of : Bool → (List ℕ → Bool) → (List ℕ → Bool) → Work → Rules
rules_of waits awaited bound work = record {
  blocked = waits && (changes_pool work || passes awaited (name_of work));
  lacks = needs_block work && not (passes bound (name_of work));
  takes = makes_block work && passes bound (name_of work);
}

abbrev pub joined_rules : Rules → Rules → Rules
joined_rules a b = record { blocked = a.blocked || b.blocked; lacks = a.lacks || b.lacks; takes = a.takes || b.takes }

-- what it finds in a tree
abbrev pub rules_in : Bool → (List ℕ → Bool) → (List ℕ → Bool) → List Request → Rules
rules_in waits awaited bound tree = record {
  blocked = list_any (λ (r : Request). waits && (changes_pool r.work || passes awaited (name_of r.work))) tree;
  lacks = list_any (λ (r : Request). needs_block r.work && not (passes bound (name_of r.work))) tree;
  takes = list_any (λ (r : Request). makes_block r.work && passes bound (name_of r.work)) tree;
}

-- one of the trees finds more
abbrev pub joined_at : List Rules → ℕ → Rules → List Rules
joined_at [] n more = []
joined_at (rules ∷ others) zero more = joined_rules rules more ∷ others
joined_at (rules ∷ others) (suc n) more = rules ∷ joined_at others n more

abbrev pub error_by : Rules → Option Errno
error_by rules = first_rule rules.blocked rules.lacks rules.takes

abbrev pub has_number : ℕ → List Request → Bool
has_number n tree = list_any (λ (r : Request). r.number == n) tree

abbrev pub slot_if : Bool → Option ℕ → Option ℕ
slot_if true later = Some zero
slot_if false later = option_map suc later

-- the number of the first tree that has a request of this number
abbrev pub slot_of : List (List Request) → ℕ → Option ℕ
slot_of [] n = None
slot_of (tree ∷ trees) n = slot_if (has_number n tree) (slot_of trees n)

-- each request's tree is noted by its number, and what is found in each tree
pub record IsAdmission (waits : Bool) (awaited bound : List ℕ → Bool) (trees : List (List Request)) (slots : List (ℕ × ℕ)) (rules : List Rules) : Type 0 where
  pub slots_are : (n : ℕ) → lookup (nat_eq n) slots ≡ slot_of trees n
  pub rules_are : rules ≡ map (rules_in waits awaited bound) trees

-- the number stands in no tree behind one that has it
abbrev pub StandsOnce : ℕ → List (List Request) → Type 0
StandsOnce n [] = Unit {0}
StandsOnce n (tree ∷ trees) = (has_number n tree ≡ true → AllByRecursion (λ t. has_number n t ≡ false) trees) × StandsOnce n trees

-- the request's number is new, and no number stands in two trees
pub record IsComing (r : Request) (trees : List (List Request)) : Type 0 where
  pub once : (n : ℕ) → StandsOnce n trees
  pub fresh : AllByRecursion (λ tree. has_number r.number tree ≡ false) trees

-- the trees with the request of one more line, if it is one
abbrev pub with_line : Item → List (List Request) → List (List Request)
with_line (RequestLine r) trees = with_request r.under r trees
with_line Go trees = trees
with_line Clear trees = trees

-- the same of the line's request, if it is one
abbrev pub IsComingLine : Item → List (List Request) → Type 0
IsComingLine (RequestLine r) trees = IsComing r trees
IsComingLine Go trees = Unit {0}
IsComingLine Clear trees = Unit {0}

abbrev pub error_of_tree : Option Rules → Option Errno
error_of_tree None = None
error_of_tree (Some rules) = error_by rules

abbrev pub error_at : List Rules → Option ℕ → Option Errno
error_at rules None = None
error_at rules (Some slot) = error_of_tree (slice_get rules slot)

-- the error of the tree of the request of this number
abbrev pub error_in : List (ℕ × ℕ) → List Rules → ℕ → Option Errno
error_in slots rules n = error_at rules (lookup (nat_eq n) slots)
