-- What is asked of requests all over: their kinds, the blocks that they name, and whether they change one.
use Rattle.std.specs.Prelude.{ℕ, List, [], ◌∷◌, Bool, true, false, Option, Some, None, ◌==◌, bytes_eq}
use Rattle.zio_types.specs.declared.request.Kind.{Kind}
use Rattle.zio_types.specs.declared.request.Kind.TheVariants.{Null as NullKind, Read as ReadKind, Write as WriteKind, Free as FreeKind, Claim as ClaimKind}
use Rattle.zio_script.specs.declared.script.Item.{Item}
use Rattle.zio_script.specs.declared.script.Item.TheVariants.{Request as RequestLine, Go, Clear}
use Rattle.zio_script.specs.declared.script.Request.{Request}
use Rattle.zio_script.specs.declared.script.Work.{Work}
use Rattle.zio_script.specs.declared.script.Work.TheVariants.{Null, Read, Write, Free, Claim}

abbrev pub kind_of : Work → Kind
kind_of Null = NullKind
kind_of (Read name prio) = ReadKind
kind_of (Write name sum copies prio body) = WriteKind
kind_of (Free name) = FreeKind
kind_of (Claim name pointer) = ClaimKind

-- the block that the work names, if it names one
abbrev pub name_of : Work → Option (List ℕ)
name_of Null = None
name_of (Read name prio) = Some name
name_of (Write name sum copies prio body) = Some name
name_of (Free name) = Some name
name_of (Claim name pointer) = Some name

-- two blocks, both named and with the same name
abbrev pub names_it : Option (List ℕ) → Option (List ℕ) → Bool
names_it None named = false
names_it (Some name) None = false
names_it (Some name) (Some other) = bytes_eq name other

-- the work needs a block of its name
abbrev pub needs_block : Work → Bool
needs_block Null = false
needs_block (Read name prio) = true
needs_block (Write name sum copies prio body) = false
needs_block (Free name) = true
needs_block (Claim name pointer) = false

-- the work makes a block of its name
abbrev pub makes_block : Work → Bool
makes_block Null = false
makes_block (Read name prio) = false
makes_block (Write name sum copies prio body) = true
makes_block (Free name) = false
makes_block (Claim name pointer) = true

-- the work leaves another pool than it found: a write, a free or a claim
abbrev pub changes_pool : Work → Bool
changes_pool Null = false
changes_pool (Read name prio) = false
changes_pool (Write name sum copies prio body) = true
changes_pool (Free name) = true
changes_pool (Claim name pointer) = true

-- the requests of a script's lines
abbrev pub requests_of : List Item → List Request
requests_of [] = []
requests_of (RequestLine r ∷ items) = r ∷ requests_of items
requests_of (Go ∷ items) = requests_of items
requests_of (Clear ∷ items) = requests_of items

-- the request stands under the one of this number
abbrev pub is_under_number : Option ℕ → ℕ → Bool
is_under_number None number = false
is_under_number (Some parent) number = parent == number

abbrev pub is_under : Request → ℕ → Bool
is_under request number = is_under_number request.under number
