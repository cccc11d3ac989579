-- What a request's own work owes to the node's children, while others of these come and go on.
use Rattle.std.proofs.Common.{◌≡◌, ◌≢◌, ℕ, List, [], ◌∷◌, ◌++◌, length, set, slice_get, false, Option, Some, None, ◌⊎◌, inl, inr, refl, sym, ap, subst, ◌∙◌}
use Rattle.std.specs.Prelude.{IfSome, option_map}
use Rattle.zio_types.specs.declared.place.Top.{Top}
use Rattle.zio_types.specs.declared.request.ChildKind.{ChildKind}
use Rattle.zio_blkptr.specs.declared.pointer.Bp.{Bp}
use Rattle.zio_children.specs.declared.kids.KidState.TheVariants.{Told}
use Rattle.zio_gang.specs.Pointers.{IsNoneOrValid}
use Rattle.zio_frames.specs.Frames.{Child, OfInner, OfOuter}
use Rattle.zio_frames.proofs.GetLemmas.{get_either, get_exchanged}
use Rattle.zio_parts.specs.Parts.{PartWriting}
use Rattle.zio_stages.specs.KidPointers.{HaveValidPointers}
use Rattle.zio_stages.specs.NodeChildren.{new_child}
use Rattle.zio_stages.specs.NodeIos.{NoneSits, SitsOn}
use Rattle.zio_stages.specs.OwnReads.{IsOwnOver as IsBodyPartOver}
use Rattle.zio_stages.specs.PartWorks.{IsIoOver}
use Rattle.zio_stages.specs.RequestNodes.{IsOwnOver, IsSeatOf}
use Rattle.zio_stages.specs.RequestStages.{HasToldIn}
use Rattle.zio_stages.specs.declared.family.Layer.TheVariants.{Within}
use Rattle.zio_stages.specs.declared.own_read.BodyIo.{BodyIo}
use Rattle.zio_stages.specs.declared.request_node.Own.{Own}
use Rattle.zio_stages.specs.declared.request_node.Own.TheVariants.{Claim, Due, Found, Free, Over, Read, Stored, Write}
use Rattle.zio_stages.specs.declared.request_node.RequestNode.{RequestNode}
use Rattle.zio_stages.specs.declared.tree.TreeWork.{TreeWork}
use Rattle.zio_stages.specs.declared.write_io.WriteIo.{WriteIo}
use Rattle.zio_stages.proofs.KidPointerLemmas.{valid_at}
use Rattle.zio_stages.proofs.RequestHears.{if_there}

-- ---- the same children of the part within

-- each of them that hasn't ended was there before
abbrev pub SameWithin : List Child → List Child → Type 0
SameWithin family more =
    (k n : ℕ) (c : Child) → slice_get more k ≡ Some c → c.ended ≡ false → c.seat ≡ OfInner n → slice_get family k ≡ Some c

pub none_same : (family more : List Child) → SameWithin family more → NoneSits Within family → NoneSits Within more
none_same family more same h = λ k n c e goes at. h k n c (same k n c e goes at) goes at

pub sits_same : (IsNow : ℕ → Type 0) (family more : List Child) → SameWithin family more → SitsOn Within IsNow family
    → SitsOn Within IsNow more
sits_same IsNow family more same h = record {
  outs = λ k n c e goes at. h.outs k n c (same k n c e goes at) goes at;
  apart = λ k m n c d e f goes went at there.
      h.apart k m n c d (same k n c e goes at) (same m n d f went there) goes went at there;
}

io_same : (tops : List Top) (x : PartWriting) (io : Option WriteIo) (family more : List Child) → SameWithin family more
    → IsIoOver tops x io family → IsIoOver tops x io more
io_same tops x None family more same h = none_same family more same h
io_same tops x (Some io) family more same h = (h.0, h.1, sits_same _ family more same h.2)

body_same : (tops : List Top) (w : TreeWork) (body : Option BodyIo) (family more : List Child) → SameWithin family more
    → IsBodyPartOver tops w body family → IsBodyPartOver tops w body more
body_same tops w None family more same h = none_same family more same h
body_same tops w (Some b) family more same h = record { over = h.over; sits = sits_same _ family more same h.sits; out = h.out }

pub own_same : (tops : List Top) (own : Own) (family more : List Child) → SameWithin family more → IsOwnOver tops own family
    → IsOwnOver tops own more
own_same tops Due family more same h = none_same family more same h
own_same tops (Write w) family more same h =
    record { places = h.places; bytes = h.bytes; io = io_same tops w.work.own.part w.work.io family more same h.io }
own_same tops (Stored b) family more same h = (none_same family more same h.0, h.1)
own_same tops (Read w) family more same h = (body_same tops w.tree w.body family more same h.0, h.1)
own_same tops (Free w) family more same h = none_same family more same h
own_same tops (Claim w) family more same h = (none_same family more same h.0, h.1)
own_same tops (Found own) family more same h = none_same family more same h
own_same tops Over family more same h = none_same family more same h

-- ---- a child of the node's own part

-- one more
pub same_added : (family : List Child) (place : ℕ) (kind : ChildKind)
    → SameWithin family (family ++ new_child (OfOuter place) kind ∷ [])
same_added family place kind = λ k n c e goes at. by k n c at (get_either family (new_child (OfOuter place) kind) c k e) where
  by : (k n : ℕ) (c : Child) → c.seat ≡ OfInner n
      → (slice_get family k ≡ Some c) ⊎ ((k ≡ length family) × (new_child (OfOuter place) kind ≡ c))
      → slice_get family k ≡ Some c
  by k n c at (inl e) = e
  by k n c at (inr e) =
      let never : OfOuter place ≡ OfInner n = ap (λ (x : Child). x.seat) e.1 ∙ at in
      absurd (cc)

-- one that goes on
same_set : (family : List Child) (child place : ℕ) (d : Child) → d.seat ≡ OfOuter place → SameWithin family (set family child d)
same_set family child place d seat = λ k n c e goes at. by k n c at (get_exchanged family child k d c e) where
  by : (k n : ℕ) (c : Child) → c.seat ≡ OfInner n → ((k ≡ child) × (d ≡ c)) ⊎ ((k ≢ child) × (slice_get family k ≡ Some c))
      → slice_get family k ≡ Some c
  by k n c at (inl e) =
      let never : OfOuter place ≡ OfInner n = sym seat ∙ ap (λ (x : Child). x.seat) e.1 ∙ at in
      absurd (cc)
  by k n c at (inr e) = e.1

-- it is there
pub record IsThere (family : List Child) (child place : ℕ) : Type 0 where
  pub now : Child
  pub is : slice_get family child ≡ Some now
  pub seat : now.seat ≡ OfOuter place

pub seat_there_is : (family : List Child) (child place : ℕ) → IsSeatOf family child place → IsThere family child place
seat_there_is family child place h = by (slice_get family child) refl h where
  by : (o : Option Child) → slice_get family child ≡ o → option_map (λ (c : Child). c.seat) o ≡ Some (OfOuter place)
      → IsThere family child place
  by None e s = absurd (cc)
  by (Some c) e s = record { now = c; is = e; seat = cc }

pub same_marked : (family more : List Child) (child place : ℕ) (mark : Child → Child) → IsSeatOf family child place
    → ((c : Child) → (mark c).seat ≡ c.seat)
    → IfSome (slice_get family child) (λ (c : Child). more ≡ set family child (mark c)) → SameWithin family more
same_marked family more child place mark seat kept marked =
    let c = seat_there_is family child place seat in
    subst (SameWithin family)
    (sym (if_there (slice_get family child) (λ (x : Child). more ≡ set family child (mark x)) c.now marked c.is))
    (same_set family child place (mark c.now) (kept c.now ∙ c.seat))

-- ---- pointers

-- what a child hands on is valid where it is, or where the child told it
pub told_valid : (r : RequestNode) (child : ℕ) (pointer : Option Bp) → HaveValidPointers r.kids.kids
    → IsNoneOrValid pointer ⊎ HasToldIn r child pointer → IsNoneOrValid pointer
told_valid r child pointer h (inl ok) = ok
told_valid r child pointer h (inr told) = valid_at r.kids.kids.kids told.place (Told pointer) h.told told.state
