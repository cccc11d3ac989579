-- Which row of a fault table a leaf operation meets, and what a flipping row does to bytes.
use Rattle.std.specs.Prelude.{ℕ, ◌+◌, ◌-◌, ◌<◌, ◌^◌, min, max, List, ◌++◌, map, take, drop, Bool, true, ◌&&◌, not, Option, ◌==◌, nat_lt, nat_le, find, option_map}
use Rattle.zio_faults.specs.declared.table.Operation.{Operation}
use Rattle.zio_faults.specs.declared.table.Row.{Row}
use Rattle.zio_faults.specs.declared.table.Hit.{Hit}
use Rattle.zio_faults.specs.declared.table.On.{On}
use Rattle.zio_faults.specs.declared.table.On.TheVariants.{Read, Write, Any}

-- the end of a row's range is a number of 64 bits
abbrev pub RowFits : Row → Type 0
RowFits row = row.at + row.len < 2 ^ 64

-- a row for this kind of operation
abbrev pub is_for : On → Bool → Bool
is_for Read write = not write
is_for Write write = write
is_for Any write = true

-- where the part common to both begins, and where it ends
abbrev pub common_start : Row → Operation → ℕ
common_start row o = max row.at o.at

-- where it ends
abbrev pub common_end : Row → Operation → ℕ
common_end row o = min (row.at + row.len) (o.at + o.len)

-- the row is for this leaf and operation, meets its range and holds at its resume point, and in a retry pass isn't for first passes alone
-- Rule: fault matching.
abbrev pub selects : Row → Operation → Bool
selects row o =
    (row.leaf == o.leaf) && is_for row.on o.write && nat_lt (common_start row o) (common_end row o)
    && nat_le row.from o.point && nat_lt o.point row.until && not (row.first && o.retry)

-- a row that is met, at the common part
abbrev pub hit_on : Operation → Row → Hit
hit_on o row = record { kind = row.kind; at = common_start row o; len = common_end row o - common_start row o }

-- the first row of the table that the operation meets
-- Rule: fault matching.
abbrev pub first_hit : List Row → Operation → Option Hit
first_hit rows o = option_map (hit_on o) (find (λ row. selects row o) rows)

-- a byte with each bit turned
abbrev pub inverted : ℕ → ℕ
inverted byte = 255 - byte

-- the bytes of a range that begins there, with those that the hit covers inverted
-- Rule: fault kinds.
abbrev pub flipped : ℕ → Hit → List ℕ → List ℕ
flipped at hit bytes =
    take (hit.at - at) bytes
    ++ map inverted (take hit.len (drop (hit.at - at) bytes))
    ++ drop (hit.at - at + hit.len) bytes
