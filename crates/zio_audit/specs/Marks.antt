-- How completions are compared by a table of requests. It is the comparer's own; nothing of it has to be believed.
use Rattle.std.specs.Prelude.{◌≡◌, ℕ, ◌<◌, List, [], ◌∷◌, fold, cond, slice_get, slice_set, Bool, true, false, ◌&&◌, not, Option, Some, None, ◌==◌}
use Rattle.std.specs.List.{list_all}
use Rattle.zio_types.specs.declared.journal.Completion.{Completion}
use Rattle.zio_script.specs.declared.script.Item.{Item}
use Rattle.zio_script.specs.declared.script.Item.TheVariants.{Request as RequestLine, Go, Clear}
use Rattle.zio_audit.specs.declared.marks.Mark.{Mark}
use Rattle.zio_audit.specs.declared.marks.Mark.TheVariants.{Never, Due, Met}

-- ---- the tables

-- the mark of a request where one more is due
abbrev pub due_after : ℕ → Mark → Completion → Mark
due_after request mark c = cond (c.request == request) (Due c.round) mark

-- the mark of a request where these are due and none was met
abbrev pub due_in : List Completion → ℕ → Mark
due_in due request = fold (due_after request) Never due

-- the parent of a request, with one more line
abbrev pub parent_after : ℕ → Option ℕ → Item → Option ℕ
parent_after request parent (RequestLine r) = cond (r.number == request) r.under parent
parent_after request parent Go = parent
parent_after request parent Clear = parent

-- the parent of a request among these lines
abbrev pub parent_of : List Item → ℕ → Option ℕ
parent_of items request = fold (parent_after request) None items

-- each request below the length has its mark
abbrev pub AreMarksOf : List Completion → List Mark → ℕ → Type 0
AreMarksOf due marks len = (n : ℕ) → n < len → slice_get marks n ≡ Some (due_in due n)

-- and its parent
abbrev pub AreParentsOf : List Item → List (Option ℕ) → ℕ → Type 0
AreParentsOf items parents len = (n : ℕ) → n < len → slice_get parents n ≡ Some (parent_of items n)

-- ---- meeting

-- the request is due in the round
abbrev pub is_due_with : ℕ → Option Mark → Bool
is_due_with round None = false
is_due_with round (Some Never) = false
is_due_with round (Some (Due due)) = due == round
is_due_with round (Some Met) = false

-- the request was met
abbrev pub is_met : Option Mark → Bool
is_met None = false
is_met (Some Never) = false
is_met (Some (Due due)) = false
is_met (Some Met) = true

-- the parent was met, if there is one
abbrev pub parent_met : List Mark → Option (Option ℕ) → Bool
parent_met marks None = false
parent_met marks (Some None) = false
parent_met marks (Some (Some parent)) = is_met (slice_get marks parent)

-- the request is due in this round, and its parent wasn't met
abbrev pub may_meet : List Mark → List (Option ℕ) → ℕ → ℕ → Bool
may_meet marks parents round request =
    is_due_with round (slice_get marks request) && not (parent_met marks (slice_get parents request))

-- the marks after these completions, none where one isn't due or comes before a child
abbrev pub meet_each : List (Option ℕ) → List Mark → List Completion → Option (List Mark)
meet_each parents marks [] = Some marks
meet_each parents marks (c ∷ cs) =
    cond (may_meet marks parents c.round c.request) (meet_each parents (slice_set marks c.request Met) cs) None

-- the completions of a round, without their errors
abbrev pub named : ℕ → ℕ → Completion
named round request = record { request = request; round = round; error = None }

-- the request isn't due any more
abbrev pub is_settled : Mark → Bool
is_settled Never = true
is_settled (Due round) = false
is_settled Met = true

-- nothing is due any more
abbrev pub all_settled : Option (List Mark) → Bool
all_settled None = false
all_settled (Some marks) = list_all is_settled marks
