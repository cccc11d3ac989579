-- What a journal records: what was asked of the space, and the places that it found.
use Rattle.std.specs.Prelude.{ℕ, List, [], cond, Bool, true, false, ◌&&◌, ◌==◌, bytes_eq, length, nat_lt}
use Rattle.zio_types.specs.declared.place.Place.{Place}
use Rattle.zio_types.specs.declared.journal.Key.{Key}
use Rattle.zio_types.specs.declared.journal.Role.{Role}
use Rattle.zio_types.specs.declared.journal.Role.TheVariants.{Body, Head}

-- so many copies of this size in bytes, for what the key names
pub record Ask : Type 0 where
  pub key : Key
  pub size : ℕ
  pub copies : ℕ

-- what stands in an entry behind the places found
abbrev pub no_place : Place
no_place = record { top = 0; sector = 0; sectors = 0 }

-- an ask, and the places that were found for its copies, in their order
pub record Choice : Type 0 where
  pub asked : Ask
  pub places : List Place

-- a choice is refused where a copy has no place
abbrev pub is_refused : Choice → Bool
is_refused choice = nat_lt (length choice.places) choice.asked.copies

-- what a choice takes: nothing where it is refused
abbrev pub taken_by : Choice → List Place
taken_by choice = cond (is_refused choice) [] choice.places

-- both ask for a body, or both for a header
abbrev pub same_role : Role → Role → Bool
same_role Body Body = true
same_role Head Head = true
same_role Body Head = false
same_role Head Body = false

-- both keys name the same ask
abbrev pub same_key : Key → Key → Bool
same_key a b =
    (a.request == b.request) && (a.round == b.round) && (a.attempt == b.attempt)
    && bytes_eq a.path b.path && same_role a.role b.role

-- both ask for the same: the key, the size and the copies
abbrev pub same_ask : Ask → Ask → Bool
same_ask a b = same_key a.key b.key && (a.size == b.size) && (a.copies == b.copies)
