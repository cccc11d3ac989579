-- Tasks under way together, of which several read the same copies: what is done in any order is what they give in turn.
use Rattle.std.specs.Prelude.{◌≡◌, ◌∷◌, Bool, true, List, [], Contains, ◌⊎◌}
use Rattle.std.specs.List.{AllByRecursion}
use Rattle.zio_types.specs.Choices.{Ask, Choice}
use Rattle.zio_cksum.specs.Frames.{spots_of}
use Rattle.zio_cksum.specs.Images.{Images, Setting, Spot}
use Rattle.zio_gang.specs.Attempts.{Terms}
use Rattle.zio_gang.specs.Journals.{AreChoicesOf, AreLawful, asks_of, choices_in}
use Rattle.zio_gang.specs.Trees.{sizes_of}
use Rattle.zio_trace.specs.Conflicts.{is_single}
use Rattle.zio_trace.specs.Footprints.{FitsTask}
use Rattle.zio_trace.specs.Labels.{Labelled, labelled, ways_at}
use Rattle.zio_trace.specs.Leaves.{AreClear, spot_of}
use Rattle.zio_trace.specs.Oracles.{IsOracle, Oracle, Shuffled, Ways, asked_in}
use Rattle.zio_trace.specs.Passing.{Copies}
use Rattle.zio_trace.specs.Plans.{plan}
use Rattle.zio_trace.specs.Programs.{run}
use Rattle.zio_trace.specs.Readers.{CopiesApart, CopiesLie, RowsArePlain}
use Rattle.zio_trace.specs.Rounds.{Round, add_tree}
use Rattle.zio_trace.specs.Tasks.{Leaf, ReadCopies, Task, Value, means, settled}
use Rattle.zio_trace.specs.Underway.{Work, plan_each}

-- ---- what is taken as one operation

-- a single operation, or a read of copies with its repairs
abbrev pub is_atom : Task → Bool
is_atom (ReadCopies true test len places) = true
is_atom task = is_single task

abbrev pub atom_ways : List Choice → Terms → Ways Task Value
atom_ways journal t = record { plan = plan t; single = is_atom; Fits = FitsTask journal t }

-- ---- the pieces that several readers read

-- the one's copies and the other's have no byte in common
abbrev pub CopiesClear : Setting → Copies → Copies → Type 0
CopiesClear s c d =
    AllByRecursion (λ (t : Spot). AllByRecursion (AreClear t) (spots_of s d.places)) (spots_of s c.places)

-- a read with repairs is of one of these pieces, and an operation on a leaf is clear of them all
abbrev pub KeepsTo : Setting → List Copies → Task → Type 0
KeepsTo s shared (ReadCopies true test len places) = Contains shared (record { test = test; len = len; places = places })
KeepsTo s shared (Leaf op) =
    AllByRecursion (λ (c : Copies). AllByRecursion (λ (t : Spot). AreClear t (spot_of op)) (spots_of s c.places)) shared
KeepsTo s shared _ = Unit {0}

-- No row is for first passes alone or turns bytes. The copies of each piece are apart and lie on their leaves, two pieces
-- are one or clear of each other, and whatever is answered, nothing but reads with repairs touches them.
pub record AreSharedWell (w : Work) : Type 0 where
  pub rows : RowsArePlain w.terms.setting.rows
  pub copies : AllByRecursion (λ (c : Copies). CopiesApart (spots_of w.terms.setting c.places) × CopiesLie w.sizes c.len (spots_of w.terms.setting c.places)) w.shared
  pub clear : (c d : Copies) → Contains w.shared c → Contains w.shared d → (c ≡ d) ⊎ CopiesClear w.terms.setting c d
  pub keeps : (journal : List Choice) → AreLawful (sizes_of w.terms.setting.tops) w.terms.used (choices_in w.terms.round journal) →
      (o : Oracle (Labelled Task) Value) → IsOracle (ways_at (atom_ways journal w.terms)) o →
      AllByRecursion (λ (x : Labelled Task). KeepsTo w.terms.setting w.shared x.op) (asked_in o (labelled [] 0 (plan_each w.tasks)))

abbrev pub IsSharedWell : Work → Type 0
IsSharedWell w = (w.shared ≡ []) ⊎ AreSharedWell w

-- ---- in turn

-- Run one after another, the tasks have these values and leave these images. Of what is asked the entries have each as
-- often, and where they are lawful, they are the choices of it.
pub record IsAsInTurn (journal : List Choice) (w : Work) (entries : List Choice) (values : List Value) (before after : Images) : Type 0 where
  pub asks : List Ask
  pub is : run (means journal w.terms) (plan_each w.tasks) before ≡ record { value = values; asks = asks; images = after }
  pub as_often : Shuffled asks (asks_of entries)
  pub choices : AreLawful (sizes_of w.terms.setting.tops) w.terms.used entries → AreChoicesOf (sizes_of w.terms.setting.tops) w.terms.used asks entries

-- a round's trees as they settled
abbrev pub round_of : List Value → Round
round_of [] = record { left = []; ended = [] }
round_of (v ∷ vs) = add_tree (settled v) (round_of vs)
