-- What admission has to know of what is suspended.
use Rattle.std.specs.Prelude.{◌≡◌, ℕ, List, Bool, Some}
use Rattle.std.specs.List.{list_any}
use Rattle.zio_script.specs.Requests.{name_of, names_it}
use Rattle.zio_gang.specs.Attempts.{Pending}

-- the names that the requests of these trees name are awaited, and no others
abbrev pub AreAwaited : List (List Pending) → (List ℕ → Bool) → Type 0
AreAwaited suspended awaited = (name : List ℕ) →
    awaited name ≡ list_any (λ tree. list_any (λ (p : Pending). names_it (Some name) (name_of p.request.work)) tree) suspended
