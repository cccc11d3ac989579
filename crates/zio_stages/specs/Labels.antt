-- The label of a node: which part of a request's work it does, bit by bit.
use Rattle.std.specs.Prelude.{ℕ, ◌+◌, ◌*◌, ◌/◌, ◌%◌, ◌<◌, ◌==◌, ◌&&◌, List, [], ◌∷◌, length, Bool, true, false, Option, Some, cond}
use Rattle.zio_types.specs.declared.journal.Role.{Role}
use Rattle.zio_types.specs.declared.journal.Role.TheVariants.{Body, Head}
use Rattle.zio_types.specs.declared.place.Place.{Place}
use Rattle.zio_types.specs.declared.request.Kind.{Kind}
use Rattle.zio_types.specs.declared.request.Kind.TheVariants.{Read}
use Rattle.zio_script.specs.Requests.{kind_of}
use Rattle.zio_gang.specs.declared.tree.Tree.{Tree}
use Rattle.zio_exchange.specs.declared.waiting.UnfinishedRequest.{UnfinishedRequest}
use Rattle.zio_stages.specs.ClosedRequests.{Again, Closed, Finished}
use Rattle.zio_stages.specs.LeafWorks.{len_of}
use Rattle.zio_stages.specs.declared.label.Label.{Label}
use Rattle.zio_stages.specs.declared.label.Level.{Level}
use Rattle.zio_stages.specs.declared.label.Level.TheVariants.{Part, Leaf}
use Rattle.zio_stages.specs.declared.leaf.LeafWork.{LeafWork}
use Rattle.zio_stages.specs.declared.named.Named.{Named}
use Rattle.zio_stages.specs.declared.origin.Origin.{Origin}

abbrev pub bit : Bool → ℕ
bit true = 1
bit false = 0

abbrev pub role_number : Role → ℕ
role_number Body = 0
role_number Head = 1

abbrev pub level_number : Level → ℕ
level_number Part = 0
level_number Leaf = 2

-- the steps of a path, two bits each, the first lowest
abbrev pub steps_number : List ℕ → ℕ
steps_number [] = 0
steps_number (step ∷ steps) = 4 * steps_number steps + step % 4

-- the fields from the attempt up
abbrev pub pass_number : Label → ℕ
pass_number l = l.attempt + 4 * (bit l.retry + 2 * (bit l.repair + 2 * l.sectors))

-- the fields from the role up
abbrev pub copy_number : Label → ℕ
copy_number l = role_number l.role + 2 * (l.place + 4 * (l.image + 16 * (level_number l.level + 4 * pass_number l)))

-- bits 0 to 15 the request, 16 to 19 the length of the path, 20 to 35 its steps, and then those of the copy
abbrev pub label_of : Label → ℕ
label_of l = l.request + 65536 * (length l.path + 16 * (steps_number l.path + 65536 * copy_number l))

-- each field has room in its bits
pub record IsLabel (l : Label) : Type 0 where
  pub request : l.request < 65536
  pub place : l.place < 4
  pub image : l.image < 16
  pub attempt : l.attempt < 4
  pub sectors : l.sectors < 4096

-- ---- which of a part's places

-- the first place begins where the second does
abbrev pub begins_at : Place → Place → Bool
begins_at p q = p.top == q.top && p.sector == q.sector

-- the second of a part's places, or else the third
abbrev pub later_number : List Place → Place → ℕ
later_number [] place = 2
later_number (p ∷ ps) place = cond (begins_at p place) 1 2

-- of one to three places, from 0
abbrev pub place_number : List Place → Place → ℕ
place_number [] place = 2
place_number (p ∷ ps) place = cond (begins_at p place) 0 (later_number ps place)

abbrev pub origin_of : Named → List Place → Place → Origin
origin_of name places place = record { part = name; place = place_number places place }

-- ---- the labels of nodes

-- the sectors of 512 bytes in so many bytes, as far as a label has room
abbrev pub sectors_in : ℕ → ℕ
sectors_in bytes = bytes / 512 % 4096

-- of a node that does a whole part, and reads so many bytes
abbrev pub part_label : Named → ℕ → ℕ
part_label name bytes = label_of (record {
  request = name.request;
  path = name.path;
  role = name.role;
  place = 0;
  image = 0;
  level = Part;
  attempt = name.attempt;
  retry = false;
  repair = false;
  sectors = sectors_in bytes;
})

-- of an operation on a leaf
abbrev pub operation_label : LeafWork → ℕ
operation_label w = label_of (record {
  request = w.origin.part.request;
  path = w.origin.part.path;
  role = w.origin.part.role;
  place = w.origin.place % 4;
  image = w.leaf % 16;
  level = Leaf;
  attempt = w.origin.part.attempt;
  retry = w.op.flags.retry;
  repair = w.op.flags.repair;
  sectors = sectors_in (len_of w);
})

-- how many bytes a request reads
abbrev pub bytes_read_in : Kind → Option Tree → ℕ
bytes_read_in Read (Some tree) = tree.bp.size
bytes_read_in _ _ = 0

abbrev pub bytes_read : UnfinishedRequest → ℕ
bytes_read w = bytes_read_in (kind_of w.request.work) w.block

-- of the node that attempts a request
abbrev pub request_label : UnfinishedRequest → (attempt : ℕ) → ℕ
request_label w attempt = label_of (record {
  request = w.request.number % 65536;
  path = [];
  role = Body;
  place = 0;
  image = 0;
  level = Part;
  attempt = attempt % 4;
  retry = false;
  repair = false;
  sectors = sectors_in (bytes_read w);
})

-- of what a request's attempt closes with, where it finished
abbrev pub closed_label : (attempt : ℕ) → Closed → ℕ
closed_label attempt (Finished waiting error own) = request_label waiting attempt
closed_label attempt (Again bits whole own) = 0
