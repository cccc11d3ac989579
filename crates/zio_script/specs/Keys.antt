-- Names as numbers, and those that a batch has: the reader's own, and nothing that has to be believed.
use Rattle.std.specs.Prelude.{◌≡◌, ℕ, ◌+◌, ◌*◌, List, [], ◌∷◌, Bool, false, not, ◌||◌, ◌&&◌, Option, Some, None}
use Rattle.std.specs.BTreeMap.{is_at}
use Rattle.std.specs.BTreeSet.{contains_by}
use Rattle.std.specs.Ordering.{nat_cmp}
use Rattle.zio_script.specs.declared.names.BatchNames.{BatchNames}
use Rattle.zio_script.specs.declared.names.NameSet.{NameSet}

-- the bytes as digits to the base 256, the lowest first
abbrev pub name_key : List ℕ → ℕ
name_key [] = 0
name_key (c ∷ cs) = name_key cs * 256 + c

-- the key is the first one
abbrev pub is_first : Option ℕ → ℕ → Bool
is_first None key = false
is_first (Some first) key = is_at (nat_cmp key) first

-- the key is the first or one of the others
abbrev pub has_key : NameSet → ℕ → Bool
has_key names key = is_first names.first key || contains_by (nat_cmp key) names.others

-- the key is there afterwards, and each other one if it was
abbrev pub AddsKey : NameSet → ℕ → NameSet → Type 0
AddsKey old key new = (q : ℕ) → has_key new q ≡ (is_at (nat_cmp q) key || has_key old q)

-- only a set with a first name has others
abbrev pub IsBegun : NameSet → Type 0
IsBegun names = names.first ≡ None → names.others.keys ≡ []

-- the name is there by a write, or a write asks for it
abbrev pub clash : BatchNames → Bool → ℕ → Bool
clash names is_read key = has_key names.written key || not is_read && has_key names.read key

-- the key is there afterwards among those of its kind, and each other one if it was
pub record AddsName (old : BatchNames) (key : ℕ) (is_read : Bool) (new : BatchNames) : Type 0 where
  pub read : (q : ℕ) → has_key new.read q ≡ (is_read && is_at (nat_cmp q) key || has_key old.read q)
  pub written : (q : ℕ) → has_key new.written q ≡ (not is_read && is_at (nat_cmp q) key || has_key old.written q)

-- only sets with a first name have others
pub record AreBegun (names : BatchNames) : Type 0 where
  pub read : IsBegun names.read
  pub written : IsBegun names.written

-- no name
pub record AreForgotten (names : BatchNames) : Type 0 where
  pub read_first : names.read.first ≡ None
  pub read_others : names.read.others.keys ≡ []
  pub written_first : names.written.first ≡ None
  pub written_others : names.written.others.keys ≡ []
