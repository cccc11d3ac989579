-- How often a request in an attempt runs at most, from where it stands.
use Rattle.std.specs.Prelude.{ℕ, ◌+◌, ◌-◌, ◌*◌, length}
use Rattle.zio_masks.specs.declared.stage.Stage.{Stage}
use Rattle.zio_masks.specs.declared.stage.Stage.TheVariants.{Start, Ready, Done}
use Rattle.zio_script.specs.declared.script.Work.{Work}
use Rattle.zio_script.specs.declared.script.Work.TheVariants.{Null, Read, Write, Free, Claim}
use Rattle.zio_exchange.specs.Wholes.{joined}
use Rattle.zio_staged.specs.Stages.{told_cost}
use Rattle.zio_nodes.specs.OwnBounds.{claim_left, claim_max, free_left, free_max, read_left, read_max}
use Rattle.zio_nodes.specs.WriteBounds.{request_write_left, write_max}
use Rattle.zio_nodes.specs.declared.request_at.RequestAt.{RequestAt}
use Rattle.zio_nodes.specs.declared.tree_at.TreeAt.{TreeAt}

-- ---- a null

-- behind Start; its end pays for what its parent hears
abbrev pub null_left : Stage → ℕ
null_left Ready = told_cost + told_cost
null_left Done = told_cost
null_left _ = 0

abbrev pub null_max : ℕ
null_max = told_cost + told_cost

-- ---- any kind

abbrev pub left_by : Work → RequestAt → ℕ
left_by Null at = null_left at.stage
left_by (Read name prio) at = read_left at
left_by (Write name sum copies prio body) at = request_write_left at
left_by (Free name) at = free_left at
left_by (Claim name pointer) at = claim_left at

-- one of which nothing is done but that its children were handed out
unfoldable pub own_max : ℕ
own_max = null_max + read_max + write_max + free_max + claim_max + 1

-- at Start as much as any kind may need behind it
abbrev pub own_at : Stage → Work → RequestAt → ℕ
own_at Start work at = own_max
own_at _ work at = left_by work at

abbrev pub own_left : RequestAt → ℕ
own_left at = own_at at.stage at.node.waiting.request.work at

-- a request of a tree: it is handed out once, and begins once
abbrev pub request_share : ℕ
request_share = own_max + 2

-- those of the trees that are due, and its own work
abbrev pub request_left : RequestAt → ℕ
request_left at = length (joined at.node.kids.due) * request_share + own_left at

-- one that was handed out
abbrev pub tree_left : TreeAt → ℕ
tree_left at = length at.whole * request_share - 1
