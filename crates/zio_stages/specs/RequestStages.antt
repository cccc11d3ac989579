-- What a request's calls leave as it was, and what a child told.
use Rattle.std.specs.Prelude.{◌≡◌, ℕ, List, Option, Some}
use Rattle.zio_blkptr.specs.declared.pointer.Bp.{Bp}
use Rattle.zio_children.specs.declared.kids.KidState.{KidState}
use Rattle.zio_children.specs.declared.kids.KidState.TheVariants.{Told}
use Rattle.zio_frames.specs.Frames.{Child}
use Rattle.zio_stages.specs.KidTrees.{KidsHeld}
use Rattle.zio_stages.specs.RequestNodes.{IsKidAt}
use Rattle.zio_stages.specs.declared.request_node.Own.{Own}
use Rattle.zio_stages.specs.declared.request_node.RequestNode.{RequestNode}

-- the same, with these children's trees
abbrev pub with_kids : RequestNode → KidsHeld → List Child → RequestNode
with_kids r kids family = record {
  waiting = r.waiting;
  kids = kids;
  own = r.own;
  family = family;
  round = r.round;
  attempt = r.attempt;
  failmode = r.failmode;
}

-- with this as its own work
abbrev pub with_own : RequestNode → Own → List Child → RequestNode
with_own r own family = record {
  waiting = r.waiting;
  kids = r.kids;
  own = own;
  family = family;
  round = r.round;
  attempt = r.attempt;
  failmode = r.failmode;
}

-- the child, an attempt, is out and told this pointer
abbrev pub HasToldIn : RequestNode → ℕ → Option Bp → Type 0
HasToldIn r child pointer = IsKidAt (λ (state : Option KidState). state ≡ Some (Told pointer)) r child
