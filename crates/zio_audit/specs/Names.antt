-- How recorded entries are sought by their keys. It is the chooser's own; nothing of it has to be believed.
use Rattle.std.specs.Prelude.{◌≡◌, ℕ, ◌<◌, List, length, find, slice_get, Bool, true, false, Option, Some, None, IfSome}
use Rattle.std.specs.BTreeMap.{is_at}
use Rattle.std.specs.Cmp.Lexicographic.{slice_cmp}
use Rattle.std.specs.Map.{lookup}
use Rattle.std.specs.Ordering.{bool_cmp, nat_cmp, ordering_then}
use Rattle.std.specs.declared.cmp.Ordering.{Ordering}
use Rattle.zio_types.specs.declared.journal.Key.{Key}
use Rattle.zio_types.specs.declared.journal.Role.{Role}
use Rattle.zio_types.specs.declared.journal.Role.TheVariants.{Body, Head}
use Rattle.zio_types.specs.Choices.{Choice, same_key}
use Rattle.zio_types.specs.Filled.{filled_to}
use Rattle.zio_audit.specs.declared.index.Name.{Name}

-- whether a header is asked for
abbrev pub is_head : Role → Bool
is_head Body = false
is_head Head = true

abbrev pub name_of : Key → Name
name_of key = record {
  request = key.request;
  round = key.round;
  attempt = key.attempt;
  head = is_head key.role;
  len = length key.path;
  steps = filled_to 0 8 key.path;
}

abbrev pub name_cmp : Name → Name → Ordering
name_cmp a b =
    ordering_then (nat_cmp a.request b.request) (ordering_then (nat_cmp a.round b.round)
    (ordering_then (nat_cmp a.attempt b.attempt) (ordering_then (bool_cmp a.head b.head)
    (ordering_then (nat_cmp a.len b.len) (slice_cmp nat_cmp a.steps b.steps)))))

abbrev pub at_name : List (Name × ℕ) → Name → Option ℕ
at_name index name = lookup (is_at (name_cmp name)) index

-- the entry there, if there is one
abbrev pub entry_at : List Choice → Option ℕ → Option Choice
entry_at entries None = None
entry_at entries (Some at) = slice_get entries at

-- the entry has the key
abbrev pub has_key : Key → Choice → Bool
has_key key c = same_key c.asked.key key

-- the index tells where among all entries those of the front stand
pub record IsIndexOf (index : List (Name × ℕ)) (all front : List Choice) : Type 0 where
  pub found : (key : Key) → entry_at all (at_name index (name_of key)) ≡ find (has_key key) front
  pub below : (key : Key) → IfSome (at_name index (name_of key)) (λ at. at < length all)
