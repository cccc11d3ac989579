-- The flags of a node of the tree, and what holds of it.
use Rattle.std.specs.Prelude.{◌≡◌, ◌+◌, ◌^◌, ◌<◌, ◌≤◌, List, ◌++◌, length, Bool}
use Rattle.zio_places.specs.declared.summary.Summary.{Summary}
use Rattle.zio_places.specs.declared.runs.RunNode.{RunNode}
use Rattle.zio_places.specs.declared.runs.RunNode.TheVariants.{Leaf, Fork}
use Rattle.zio_places.specs.Flags.{summary_of}

-- a fork's are those of its sides
abbrev pub flags_in : RunNode → List Bool
flags_in (Leaf word summary) = word
flags_in (Fork left right summary) = left.value ++ right.value

-- a word has its summary
pub record IsLeaf (word : List Bool) (summary : Summary) : Type 0 where
  pub summed : summary ≡ summary_of word
  pub short : length word ≤ 64

-- both sides have sectors, and the fork has the summary of both
pub record IsFork (left right : List Bool) (summary : Summary) : Type 0 where
  pub summed : summary ≡ summary_of (left ++ right)
  pub left_filled : 0 < length left
  pub right_filled : 0 < length right
  pub fits : length left + length right < 2 ^ 64

abbrev pub IsSummed : RunNode → Type 0
IsSummed (Leaf word summary) = IsLeaf word summary
IsSummed (Fork left right summary) = IsFork left.value right.value summary
