-- What a node tells of itself: its request, its kind, its label, and how many of its request's children hadn't finished.
use Rattle.std.specs.Prelude.{ℕ, length, Bool, true, false, Option, Some, None}
use Rattle.zio_types.specs.declared.request.Kind.{Kind}
use Rattle.zio_types.specs.declared.request.Kind.TheVariants.{Null as NullKind, Read as ReadKind, Write as WriteKind}
use Rattle.zio_script.specs.Requests.{kind_of}
use Rattle.zio_exchange.specs.Wholes.{root_of}
use Rattle.zio_exchange.specs.declared.waiting.UnfinishedRequest.{UnfinishedRequest}
use Rattle.zio_stages.specs.Labels.{operation_label, part_label, request_label}
use Rattle.zio_nodes.specs.declared.node.Node.{Node}
use Rattle.zio_nodes.specs.declared.node.Node.TheVariants.{Copies, Empty, Heads, Leaf, Part, Request, Tree}

-- ---- of a tree's root

abbrev pub root_request : Option UnfinishedRequest → ℕ
root_request None = 0
root_request (Some w) = w.request.number

abbrev pub root_kind : Option UnfinishedRequest → Kind
root_kind None = NullKind
root_kind (Some w) = kind_of w.request.work

abbrev pub root_label : Option UnfinishedRequest → (attempt : ℕ) → ℕ
root_label None attempt = 0
root_label (Some w) attempt = request_label w attempt

abbrev pub root_unfinished : Option UnfinishedRequest → ℕ
root_unfinished None = 0
root_unfinished (Some w) = w.unfinished

-- ---- of a node

-- the number of its request, or of the request for which it works
abbrev pub request_of : Node → ℕ
request_of (Leaf at) = at.work.origin.part.request
request_of (Copies at) = at.node.name.request
request_of (Heads at) = at.node.name.request
request_of (Part at) = at.node.name.request
request_of (Tree at) = root_request (root_of at.whole)
request_of (Request at) = at.node.waiting.request.number
request_of Empty = 0

abbrev pub operation_kind : (is_write : Bool) → Kind
operation_kind true = WriteKind
operation_kind false = ReadKind

-- a walk over headers reads, and a gang's member is written
abbrev pub kind_at : Node → Kind
kind_at (Leaf at) = operation_kind at.work.op.write
kind_at (Copies at) = ReadKind
kind_at (Heads at) = ReadKind
kind_at (Part at) = WriteKind
kind_at (Tree at) = root_kind (root_of at.whole)
kind_at (Request at) = kind_of at.node.waiting.request.work
kind_at Empty = NullKind

abbrev pub label_at : Node → ℕ
label_at (Leaf at) = operation_label at.work
label_at (Copies at) = part_label at.node.name at.node.io.read.len
label_at (Heads at) = part_label at.node.name 512
label_at (Part at) = part_label at.node.name 0
label_at (Tree at) = root_label (root_of at.whole) at.attempt
label_at (Request at) = request_label at.node.waiting at.node.attempt
label_at Empty = 0

-- a part of a request has no requests under it
abbrev pub unfinished_at : Node → ℕ
unfinished_at (Tree at) = root_unfinished (root_of at.whole)
unfinished_at (Request at) = length at.node.kids.kids.kids
unfinished_at _ = 0

-- how many of these children it handed out
abbrev pub handed_by : Node → ℕ
handed_by (Request at) = at.node.kids.kids.handed
handed_by _ = 0
