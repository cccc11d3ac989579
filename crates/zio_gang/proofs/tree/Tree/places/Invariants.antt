use Rattle.std.proofs.Common.{◌≡◌, ◌++◌, take}
use Rattle.std.specs.List.{flat_map}
use Rattle.zio_blkptr.specs.Pointers.{places_of}
use Rattle.zio_cksum.specs.Headers.{members_of}
use Rattle.zio_gang.specs.declared.tree.Head.{Head}
use Rattle.zio_gang.proofs.tree.Tree.places.Given as goal

-- the places of the block's pointer and of the headers so far
abbrev pub invariant-loop-head : goal.invariant-loop-head
invariant-loop-head l =
    l.places ≡ places_of l.self.bp ++ flat_map places_of (flat_map (λ (h : Head). members_of h.bytes) (take l.head-index l.self.heads))
