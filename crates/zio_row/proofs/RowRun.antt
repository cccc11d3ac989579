-- The run of the worked script, whatever lawful journal it has: one sector of the image is written and read.
use Rattle.std.proofs.Common.{◌≡◌, ℕ, ◌<◌, List, [], ◌∷◌, ◌++◌, length, false, Option, Some, None, refl, sym, ap, subst, ◌∙◌}
use Rattle.std.specs.Prelude.{codes}
use Rattle.zio_types.specs.declared.place.Place.{Place}
use Rattle.zio_types.specs.Choices.{Ask, Choice}
use Rattle.zio_script.specs.declared.script.Item.{Item}
use Rattle.zio_script.specs.declared.script.Item.TheVariants.{Request as RequestLine, Go}
use Rattle.zio_cksum.specs.Blocks.{Read}
use Rattle.zio_cksum.specs.Images.{Images}
use Rattle.zio_gang.specs.Attempts.{Settled, settle}
use Rattle.zio_gang.specs.Journals.{AreChoicesOf, IsLawfulJournal, choices_in}
use Rattle.zio_gang.specs.Rounds.{Bound, settle_each, then_trees}
use Rattle.zio_gang.specs.Runs.{Course, Plan, Round, State, add_events, after_round, plan_of, round_of, rounds_of, run_lines, run_script, start_state, then_course}
use Rattle.zio_gang.specs.Runs.Event.{RanRound}
use Rattle.zio_gang.specs.Trees.{sizes_of}
use Rattle.zio_gang.specs.Writes.{chosen}
use Rattle.zio_row.proofs.RowBlock.{after_read, after_write, block_at, block_is_read, pending_read, pending_write, plan_is, read_ended, read_ends, read_from, read_settles, refused_asks, row_plan, stored_at, terms_in, write_ended, write_ends, write_settles, written_at}
use Rattle.zio_row.proofs.RowPlaces.{HasPlace, on_top, row_ask, row_sizes, write_has_place}
use Rattle.zio_row.proofs.RowScript.{reader, row_script}

-- ---- the rounds

abbrev later_items : List Item
later_items = RequestLine reader ∷ Go ∷ []

-- a state in which nothing is suspended or held
abbrev state_of : Images → Bound → ℕ → ℕ → State
state_of images bound batches rounds = record {
  images = images;
  bound = bound;
  point = 0;
  suspended = [];
  held = [];
  batch = [];
  batches = batches;
  rounds = rounds;
  panicked = false;
}

-- the first round, by what became of the write's tree
abbrev write_round : List Choice → List ℕ → Settled → Round
write_round journal image settled =
    round_of (state_of (image ∷ []) [] 1 0) (Some 1) [] (then_trees settled (settle_each journal (terms_in 1 []) []))

abbrev after_first : List Choice → List ℕ → Settled → Course
after_first journal image settled =
    then_course (after_round (row_plan journal) (state_of (image ∷ []) [] 1 0) [] (write_round journal image settled)) (run_lines (row_plan journal) later_items)

run_begins : (journal : List Choice) (image : List ℕ)
    → run_lines (row_plan journal) row_script.items (start_state (image ∷ []))
    ≡ after_first journal image (settle journal (terms_in 1 []) (pending_write ∷ []) (image ∷ []))
unfolding run_lines settle_each
run_begins journal image = refl

-- the name of the block is bound
abbrev bound_at : ℕ → Bound
bound_at sector = record { name = codes "x"; tree = block_at sector } ∷ []

abbrev first_round : ℕ → List ℕ → Round
first_round sector image = record {
  number = 1;
  batch = Some 1;
  point = 0;
  used = [];
  asks = row_ask ∷ [];
  ended = write_ended sector ∷ [];
  left = [];
  images = stored_at sector image;
  bound = bound_at sector;
}

write_runs : (sector : ℕ) (journal : List Choice) (image : List ℕ)
    → after_first journal image (written_at sector image)
    ≡ add_events (RanRound (first_round sector image) ∷ []) (run_lines (row_plan journal) later_items (state_of (stored_at sector image) (bound_at sector) 1 1))
unfolding settle_each
write_runs sector journal image = refl

abbrev after_second : List Choice → ℕ → Images → Settled → Course
after_second journal sector images settled =
    then_course
    (after_round (row_plan journal) (state_of images (bound_at sector) 2 1) []
    (round_of (state_of images (bound_at sector) 2 1) (Some 2) [] (then_trees settled (settle_each journal (terms_in 2 (on_top sector ∷ [])) []))))
    (run_lines (row_plan journal) [])

read_begins : (sector : ℕ) (journal : List Choice) (images : Images)
    → run_lines (row_plan journal) later_items (state_of images (bound_at sector) 1 1)
    ≡ after_second journal sector images (settle journal (terms_in 2 (on_top sector ∷ [])) (pending_read sector ∷ []) images)
unfolding run_lines settle_each
read_begins sector journal images = refl

abbrev second_round : ℕ → Images → Round
second_round sector images = record {
  number = 2;
  batch = Some 2;
  point = 0;
  used = on_top sector ∷ [];
  asks = [];
  ended = read_ended ∷ [];
  left = [];
  images = images;
  bound = bound_at sector;
}

abbrev read_course : ℕ → Images → Course
read_course sector images = record { events = RanRound (second_round sector images) ∷ []; state = state_of images (bound_at sector) 2 2 }

read_runs : (sector : ℕ) (journal : List Choice) (images : Images) → after_second journal sector images (read_from images) ≡ read_course sector images
unfolding run_lines settle_each
read_runs sector journal images = refl

-- the whole run, where the block has this sector
abbrev pub course_at : ℕ → List ℕ → Course
course_at sector image = add_events (RanRound (first_round sector image) ∷ []) (read_course sector (stored_at sector image))

runs_at : (sector : ℕ) (journal : List Choice) (image : List ℕ) → sector < 128 → length image ≡ 65536 → chosen journal row_ask ≡ Some (on_top sector ∷ [])
    → run_lines (row_plan journal) row_script.items (start_state (image ∷ [])) ≡ course_at sector image
runs_at sector journal image low long found =
    let images = stored_at sector image in
    let written : settle journal (terms_in 1 []) (pending_write ∷ []) (image ∷ []) ≡ written_at sector image =
    write_settles journal (image ∷ [])
    ∙ (ap (λ (places : Option (List Place)). after_write places journal (image ∷ [])) found ∙ write_ends sector journal image) in
    let read : settle journal (terms_in 2 (on_top sector ∷ [])) (pending_read sector ∷ []) images ≡ read_from images =
    read_settles sector journal images
    ∙ (ap (λ (r : Read). after_read r journal sector) (block_is_read sector image low long) ∙ read_ends sector journal images) in
    run_begins journal image
    ∙ (ap (after_first journal image) written
    ∙ (write_runs sector journal image
    ∙ ap (add_events (RanRound (first_round sector image) ∷ []))
    (read_begins sector journal images ∙ (ap (after_second journal sector images) read ∙ read_runs sector journal images))))

-- ---- the lawful journal

-- what the first round asks for, if the write is refused
asks_if_refused : (journal : List Choice) (image : List ℕ) → chosen journal row_ask ≡ None
    → (write_round journal image (settle journal (terms_in 1 []) (pending_write ∷ []) (image ∷ []))).asks ≡ row_ask ∷ []
unfolding settle_each
asks_if_refused journal image none =
    ap (λ (asks : List Ask). asks ++ [])
    (ap (λ (s : Settled). s.asks) (write_settles journal (image ∷ []) ∙ ap (λ (places : Option (List Place)). after_write places journal (image ∷ [])) none)
    ∙ refused_asks journal (image ∷ []))

abbrev IsLawfulFor : List Choice → List ℕ → Plan → Type 0
IsLawfulFor journal image plan =
    IsLawfulJournal (sizes_of plan.tops) (rounds_of ((run_lines plan row_script.items (start_state (image ∷ []))).events)) journal

first_choices : (journal : List Choice) (image : List ℕ) (settled : Settled)
    → IsLawfulJournal row_sizes (rounds_of ((after_first journal image settled).events)) journal
    → AreChoicesOf row_sizes [] ((write_round journal image settled).asks) (choices_in 1 journal)
first_choices journal image settled lawful = lawful.each.0

has_place : (journal : List Choice) (image : List ℕ) → IsLawfulFor journal image (row_plan journal) → HasPlace journal
has_place journal image lawful =
    let settled = settle journal (terms_in 1 []) (pending_write ∷ []) (image ∷ []) in
    write_has_place journal ((write_round journal image settled).asks)
    (first_choices journal image settled
    (subst (λ (c : Course). IsLawfulJournal row_sizes (rounds_of (c.events)) journal) (run_begins journal image) lawful))
    (asks_if_refused journal image)

-- the run is that in which the block has one of the sectors
pub record IsCourse (course : Course) (image : List ℕ) : Type 0 where
  pub sector : ℕ
  pub inside : sector < 128
  pub is : course ≡ course_at sector image

runs_lawfully : (journal : List Choice) (image : List ℕ) → length image ≡ 65536 → IsLawfulFor journal image (row_plan journal)
    → IsCourse (run_lines (row_plan journal) row_script.items (start_state (image ∷ []))) image
runs_lawfully journal image long lawful =
    let has = has_place journal image lawful in
    let one = has.one in
    record {
      sector = one.sector;
      inside = one.inside;
      is = runs_at one.sector journal image one.inside long (has.found ∙ ap (λ (places : List Place). Some places) one.are);
    }

-- so it is over each image of 64 KiB, whatever lawful places its journal has
pub row_runs : (journal : List Choice) (image : List ℕ) → length image ≡ 65536
    → IsLawfulJournal (sizes_of ((plan_of row_script (image ∷ []) journal).tops)) (rounds_of ((run_script row_script (image ∷ []) journal).events)) journal
    → IsCourse (run_script row_script (image ∷ []) journal) image
row_runs journal image long lawful =
    let same = plan_is image journal long in
    subst (λ (plan : Plan). IsCourse (run_lines plan row_script.items (start_state (image ∷ []))) image) (sym same)
    (runs_lawfully journal image long (subst (IsLawfulFor journal image) same lawful))
