-- A read's, a free's and a claim's own work in an attempt: it stays as far as it is while children in front go on.
use Rattle.std.proofs.Common.{◌≡◌, ℕ, ◌+◌, List, ◌++◌, length, Option, Some, None, refl, sym, ap, ◌∙◌, subst}
use Rattle.zio_gang.specs.Attempts.{Pending, Terms}
use Rattle.zio_trace.specs.Plans.{plan_own}
use Rattle.zio_trace.specs.Programs.{Ends}
use Rattle.zio_trace.specs.Tasks.{OwnGot, Task}
use Rattle.zio_children.specs.RequestKids.{KidsUnderWay}
use Rattle.zio_frames.specs.Frames.{Stack}
use Rattle.zio_frames.specs.Slots.{Slot, left_behind_slots}
use Rattle.zio_stages.specs.OwnParts.{IsBehind, IsNoWrite}
use Rattle.zio_stages.specs.OwnReads.{IsBodyIn}
use Rattle.zio_stages.specs.PartWorks.{Front}
use Rattle.zio_stages.specs.RequestOwns.{IsClaimOwn, IsFoundOwn, IsFreeOwn, IsReadOwn, MakesBlock}
use Rattle.zio_stages.specs.declared.own_claim.OwnClaim.{OwnClaim}
use Rattle.zio_stages.specs.declared.own_free.OwnFree.{OwnFree}
use Rattle.zio_stages.specs.declared.own_read.BodyIo.{BodyIo}
use Rattle.zio_stages.specs.declared.own_read.OwnRead.{OwnRead}

pub body_still : (t : Terms) (o : Option BodyIo) (m n : ℕ) (a b : Stack) → m ≡ n → b.inner ≡ a.inner → IsBodyIn t o m a → IsBodyIn t o n b
body_still t None m n a b same e h = e ∙ h
body_still t (Some x) m n a b same e h = record { inner = h.inner; is = e ∙ h.is; number = h.number ∙ ap (λ (k : ℕ). k + x.number) same; part = h.part }

-- all children are out still
abbrev pub StayOut : KidsUnderWay → KidsUnderWay → Type 0
StayOut x y = x.handed ≡ length x.kids → y.handed ≡ length y.kids

-- the same list, told otherwise
pub behind_as : (front_asked : List Task) (front : List Slot) (asked more : List Task) (slots others : List Slot) (st : Stack) → asked ≡ more → slots ≡ others
    → IsBehind front_asked front more others st → IsBehind front_asked front asked slots st
behind_as front_asked front asked more slots others st a b h = record {
  asked_are = h.asked_are ∙ ap (λ (xs : List Task). front_asked ++ xs) (sym a);
  slots_are = h.slots_are ∙ ap (λ (xs : List Slot). front ++ xs) (sym b);
  full = h.full;
  parts = h.parts;
}

pub read_still : (t : Terms) (w : OwnRead) (f g : Front) (p q : Pending) (x y : KidsUnderWay) (a b : Stack) (asked : List Task) (slots : List Slot)
    → IsReadOwn t w f p x asked slots a → q ≡ p → StayOut x y → length g.slots ≡ length f.slots → IsBehind g.asked g.slots asked slots b → b.inner ≡ a.inner
    → IsReadOwn t w g q y asked slots b
read_still t w f g p q x y a b asked slots h same out l behind e = record {
  all = out h.all;
  name = h.name;
  prio = h.prio;
  work = ap (λ (k : Pending). k.request.work) same ∙ h.work;
  tree = h.tree;
  block = ap (λ (k : Pending). k.block) same ∙ h.block;
  is = record {
    asked = h.is.asked;
    slots = h.is.slots;
    begun = h.is.begun;
    children = refl;
    behind = behind_as g.asked g.slots h.is.asked asked h.is.slots slots b h.asked_are h.slots_are behind;
    work = h.is.work;
    told = h.is.told;
    reads = h.is.reads;
    body = body_still t w.body (length f.slots) (length g.slots) a b (sym l) e h.is.body;
  };
  asked_are = h.asked_are;
  slots_are = h.slots_are;
}

pub free_still : (w : OwnFree) (f g : Front) (p q : Pending) (x y : KidsUnderWay) (a b : Stack) (asked : List Task) (slots : List Slot)
    → IsFreeOwn w f p x asked slots a → q ≡ p → StayOut x y → IsBehind g.asked g.slots asked slots b → b.inner ≡ a.inner → IsFreeOwn w g q y asked slots b
free_still w f g p q x y a b asked slots h same out behind e = record {
  all = out h.all;
  name = h.name;
  work = ap (λ (k : Pending). k.request.work) same ∙ h.work;
  tree = h.tree;
  block = ap (λ (k : Pending). k.block) same ∙ h.block;
  is = record {
    asked = h.is.asked;
    slots = h.is.slots;
    children = refl;
    behind = behind_as g.asked g.slots h.is.asked asked h.is.slots slots b h.asked_are h.slots_are behind;
    walk = h.is.walk;
    alone = e ∙ h.is.alone;
  };
  asked_are = h.asked_are;
  slots_are = h.slots_are;
}

pub claim_still : (w : OwnClaim) (f g : Front) (p q : Pending) (x y : KidsUnderWay) (a b : Stack) (asked : List Task) (slots : List Slot)
    → IsClaimOwn w f p x asked slots a → q ≡ p → StayOut x y → IsBehind g.asked g.slots asked slots b → b.inner ≡ a.inner → IsClaimOwn w g q y asked slots b
claim_still w f g p q x y a b asked slots h same out behind e = record {
  all = out h.all;
  name = h.name;
  bytes = h.bytes;
  work = ap (λ (k : Pending). k.request.work) same ∙ h.work;
  is = record {
    asked = h.is.asked;
    slots = h.is.slots;
    children = refl;
    behind = behind_as g.asked g.slots h.is.asked asked h.is.slots slots b h.asked_are h.slots_are behind;
    claim = h.is.claim;
    alone = e ∙ h.is.alone;
  };
  asked_are = h.asked_are;
  slots_are = h.slots_are;
}

pub found_still : (t : Terms) (own : OwnGot) (m n : ℕ) (p q : Pending) (x y : KidsUnderWay) (a b : Stack) (asked : List Task) (slots : List Slot)
    → IsFoundOwn t own m p x asked slots a → n ≡ m → q ≡ p → StayOut x y → b.inner ≡ a.inner → IsFoundOwn t own n q y asked slots b
found_still t own m n p q x y a b asked slots h same_attempt same out e = record {
  all = out h.all;
  other = subst (λ (k : Pending). IsNoWrite k.request.work) (sym same) h.other;
  alone = e ∙ h.alone;
  heard = h.heard;
  quiet = h.quiet;
  places = h.places;
  block = subst (λ (k : Pending). MakesBlock k.request.work own) (sym same) h.block;
  value = λ pointers.
      subst (λ k. left_behind_slots slots (plan_own t k q q.request.work pointers) ≡ Ends own) (sym same_attempt)
      (subst (λ (k : Pending). left_behind_slots slots (plan_own t m k k.request.work pointers) ≡ Ends own) (sym same) (h.value pointers));
}
