-- What becomes of a script's requests: each ends in a round, or is left suspended, held, or unrun after a panic.
use Rattle.std.specs.Prelude.{ℕ, List, [], ◌∷◌, ◌++◌, map, Bool, true, false}
use Rattle.std.specs.List.{flat_map}
use Rattle.zio_script.specs.declared.script.Item.{Item}
use Rattle.zio_script.specs.declared.script.Item.TheVariants.{Request as RequestLine, Go, Clear}
use Rattle.zio_script.specs.declared.script.Request.{Request}
use Rattle.zio_script.specs.declared.script.Script.{Script}
use Rattle.zio_types.specs.Choices.{Choice}
use Rattle.zio_cksum.specs.Images.{Images}
use Rattle.zio_gang.specs.Attempts.{Ended, Pending}
use Rattle.zio_gang.specs.Runs.{Batch, Event, Plan, Round, State, line_if, plan_of, rounds_of, run_script, start_state}

-- the requests that ended in these rounds, those that admission answered among them
abbrev pub ended_requests : List Event → List Request
ended_requests events = map (λ (e : Ended). e.request) (flat_map (λ (round : Round). round.ended) (rounds_of events))

-- the requests of suspended trees that haven't finished
abbrev pub suspended_requests : State → List Request
suspended_requests st = flat_map (map (λ (p : Pending). p.request)) st.suspended

-- the requests of held batches
abbrev pub held_requests : State → List Request
held_requests st = flat_map (λ (b : Batch). b.requests) st.held

-- a line behind a panic leaves its request unrun
abbrev pub unrun_line : Bool → Item → List Request
unrun_line true (RequestLine r) = r ∷ []
unrun_line true Go = []
unrun_line true Clear = []
unrun_line false item = []

-- the requests of the lines behind a panic
unfoldable pub unrun_lines : Plan → List Item → State → List Request
unrun_lines plan [] st = []
unrun_lines plan (item ∷ items) st =
    unrun_line st.panicked item ++ unrun_lines plan items ((line_if st.panicked plan item st).state)

-- the requests that a panic left unrun: those of a batch that was open then, and those of all lines behind it
-- Rule: panic.
abbrev pub unrun : Script → Images → List Choice → List Request
unrun script images journal =
    (run_script script images journal).state.batch
    ++ unrun_lines (plan_of script images journal) script.items (start_state images)
