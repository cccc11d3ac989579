-- A write in an attempt, stage by stage: how far it is, how often it runs, and what it gave back.
use Rattle.std.proofs.Common.{◌≡◌, ℕ, ◌+◌, ◌-◌, ◌*◌, ◌≤◌, ◌<◌, List, [], ◌∷◌, ◌++◌, length, take, Bool, true, false, None, refl, sym, ap, subst, ◌∙◌, arith}
use Rattle.zio_types.specs.declared.place.Top.{Top}
use Rattle.zio_types.specs.declared.request.Kind.TheVariants.{Write as WriteKind}
use Rattle.zio_types.specs.declared.request.Prio.{Prio}
use Rattle.zio_blkptr.specs.declared.pointer.SumKind.{SumKind}
use Rattle.zio_masks.specs.declared.stage.Stage.{Stage}
use Rattle.zio_masks.specs.declared.stage.Stage.TheVariants.{Start}
use Rattle.zio_script.specs.Requests.{kind_of}
use Rattle.zio_script.specs.Whys.{is_write}
use Rattle.zio_script.specs.declared.script.Body.{Body}
use Rattle.zio_script.specs.declared.script.Work.{Work}
use Rattle.zio_script.specs.declared.script.Work.TheVariants.{Null, Read, Write, Free, Claim}
use Rattle.zio_parts.specs.Parts.{PartWriting}
use Rattle.zio_parts.specs.declared.members.Member.TheVariants.{Out as MemberOut}
use Rattle.zio_children.specs.RequestKids.{KidsUnderWay}
use Rattle.zio_frames.specs.Frames.{Child}
use Rattle.zio_exchange.specs.Wholes.{joined}
use Rattle.zio_exchange.specs.declared.waiting.UnfinishedRequest.{UnfinishedRequest}
use Rattle.zio_stages.specs.PartNodes.{IsMemberUnder, with_member}
use Rattle.zio_stages.specs.RequestCounts.{HasNextMember, asked_of, members_of, path_of}
use Rattle.zio_stages.specs.RequestKinds.{is_stored}
use Rattle.zio_stages.specs.RequestNodes.{IsOwnOver}
use Rattle.zio_stages.specs.RequestStoreds.{given_by, made_by}
use Rattle.zio_stages.specs.RequestWrites.{IsWriteWith}
use Rattle.zio_stages.specs.declared.own_write.OwnWrite.{OwnWrite}
use Rattle.zio_stages.specs.declared.part_node.PartNode.{PartNode}
use Rattle.zio_stages.specs.declared.request_node.Own.{Own}
use Rattle.zio_stages.specs.declared.request_node.Own.TheVariants.{Claim as ClaimOwn, Due, Found, Free as FreeOwn, Over, Read as ReadOwn, Stored, Write as WriteOwn}
use Rattle.zio_stages.specs.RequestStages.{with_own}
use Rattle.zio_stages.specs.declared.request_node.RequestNode.{RequestNode}
use Rattle.zio_nodes.specs.Bounds.{part_max}
use Rattle.zio_nodes.specs.RequestAts.{AreOutBehind, RequestStands, StandsAt, WriteStands, gave_by}
use Rattle.zio_nodes.specs.RequestBounds.{left_by, own_at, own_left, request_left, request_share}
use Rattle.zio_nodes.specs.WriteBounds.{members_left, write_at}
use Rattle.zio_nodes.specs.declared.request_at.RequestAt.{RequestAt}
use Rattle.zio_nodes.proofs.PartBounds.{io_few, share_grows}

-- ---- its kind

pub record HasWrite (work : Work) : Type 0 where
  pub name : List ℕ
  pub sum : SumKind
  pub copies : ℕ
  pub prio : Prio
  pub body : Body
  pub is : work ≡ Write name sum copies prio body

abbrev pub work_of : {work : Work} → HasWrite work → Work
work_of h = Write h.name h.sum h.copies h.prio h.body

pub write_work : (work : Work) → kind_of work ≡ WriteKind → HasWrite work
write_work (Write name sum copies prio body) e = record { name = name; sum = sum; copies = copies; prio = prio; body = body; is = refl }
write_work Null e = absurd (cc)
write_work (Read name prio) e = absurd (cc)
write_work (Free name) e = absurd (cc)
write_work (Claim name pointer) e = absurd (cc)

pub is_a_write : (work : Work) → kind_of work ≡ WriteKind → is_write (kind_of work) ≡ true
is_a_write work e = ap is_write e

-- ---- how far it is

-- behind Start
abbrev pub IsBehind : Stage → Type 0
IsBehind Start = ⊥
IsBehind _ = Unit {0}

at_write : (tops : List Top) (to : Stage) (due : Bool) (r : RequestNode) (name : List ℕ) (sum : SumKind) (copies : ℕ) (prio : Prio) (body : Body) → IsBehind to
    → StandsAt (Write name sum copies prio body) tops to due r → WriteStands tops to due r
at_write tops Start due r name sum copies prio body b h = absurd b
at_write tops to due r name sum copies prio body b h = h

back_write : (tops : List Top) (to : Stage) (due : Bool) (r : RequestNode) (name : List ℕ) (sum : SumKind) (copies : ℕ) (prio : Prio) (body : Body) → IsBehind to
    → WriteStands tops to due r → StandsAt (Write name sum copies prio body) tops to due r
back_write tops Start due r name sum copies prio body b h = absurd b
back_write tops to due r name sum copies prio body b h = h

pub stands_in : (tops : List Top) (stage to : Stage) (due : Bool) (r : RequestNode) → kind_of r.waiting.request.work ≡ WriteKind → stage ≡ to → IsBehind to
    → RequestStands tops stage due r → WriteStands tops to due r
stands_in tops stage to due r kind is b h =
    let w = write_work r.waiting.request.work kind in
    at_write tops to due r w.name w.sum w.copies w.prio w.body b
    (subst (λ (work : Work). StandsAt work tops to due r) w.is (subst (λ (s : Stage). StandsAt r.waiting.request.work tops s due r) is h.own))

out_at : (to : Stage) (x : KidsUnderWay) → IsBehind to → AreOutBehind to x → x.handed ≡ length x.kids
out_at Start x b h = absurd b
out_at to x b h = h

out_to : (to : Stage) (x : KidsUnderWay) → IsBehind to → x.handed ≡ length x.kids → AreOutBehind to x
out_to Start x b h = absurd b
out_to to x b h = h

-- all its children were handed out
pub all_out : (tops : List Top) (stage to : Stage) (due : Bool) (r : RequestNode) → stage ≡ to → IsBehind to → RequestStands tops stage due r
    → r.kids.kids.handed ≡ length r.kids.kids.kids
all_out tops stage to due r is b h = out_at to r.kids.kids b (subst (λ (s : Stage). AreOutBehind s r.kids.kids) is h.out)

pub stands_to : (tops : List Top) (stage to : Stage) (due : Bool) (r : RequestNode) → kind_of r.waiting.request.work ≡ WriteKind → stage ≡ to → IsBehind to
    → r.kids.kids.handed ≡ length r.kids.kids.kids → WriteStands tops to due r → RequestStands tops stage due r
stands_to tops stage to due r kind is b out h =
    let w = write_work r.waiting.request.work kind in
    record {
      out = subst (λ (s : Stage). AreOutBehind s r.kids.kids) (sym is) (out_to to r.kids.kids b out);
      own = subst (λ (s : Stage). StandsAt r.waiting.request.work tops s due r) (sym is)
          (subst (λ (work : Work). StandsAt work tops to due r) (sym w.is) (back_write tops to due r w.name w.sum w.copies w.prio w.body b h));
    }

-- ---- how often it runs

own_behind : (to : Stage) (work : Work) (at : RequestAt) → IsBehind to → own_at to work at ≡ left_by work at
own_behind Start work at b = absurd b
own_behind to work at b = refl

pub left_in : (at : RequestAt) (to : Stage) → kind_of at.node.waiting.request.work ≡ WriteKind → at.stage ≡ to → IsBehind to
    → own_left at ≡ write_at to at.is_due at.node.own
left_in at to kind is b =
    let work = at.node.waiting.request.work in
    let w = write_work work kind in
    ap (λ (s : Stage). own_at s work at) is ∙ own_behind to work at b ∙ ap (λ (v : Work). left_by v at) w.is
    ∙ ap (λ (s : Stage). write_at s at.is_due at.node.own) is

-- a write with the same trees due goes from the one stage to the other
pub write_less : (at after : RequestAt) (from to : Stage) → kind_of at.node.waiting.request.work ≡ WriteKind → kind_of after.node.waiting.request.work ≡ WriteKind
    → at.stage ≡ from → after.stage ≡ to → IsBehind from → IsBehind to → after.node.kids.due ≡ at.node.kids.due
    → write_at to after.is_due after.node.own < write_at from at.is_due at.node.own → request_left after < request_left at
write_less at after from to kind same is then b d due less =
    omega (arith, left_in at from kind is b, left_in after to same then d, ap (λ (ts : List (List UnfinishedRequest)). length (joined ts) * request_share) due, less)

-- ---- what it gave back

unstored_gave : (own : Own) → is_stored own ≡ false → take (given_by own) (made_by own) ≡ []
unstored_gave Due e = refl
unstored_gave (WriteOwn w) e = refl
unstored_gave (Stored b) e = absurd (cc)
unstored_gave (ReadOwn w) e = refl
unstored_gave (FreeOwn w) e = refl
unstored_gave (ClaimOwn w) e = refl
unstored_gave (Found own) e = refl
unstored_gave Over e = refl

pub write_gave : (r : RequestNode) → kind_of r.waiting.request.work ≡ WriteKind → gave_by r.waiting.request.work r ≡ take (given_by r.own) (made_by r.own)
write_gave r kind = ap (λ (w : Work). gave_by w r) (write_work r.waiting.request.work kind).is

pub none_gave : (r : RequestNode) → kind_of r.waiting.request.work ≡ WriteKind → is_stored r.own ≡ false → gave_by r.waiting.request.work r ≡ []
none_gave r kind e = write_gave r kind ∙ unstored_gave r.own e

pub due_unstored : (own : Own) → own ≡ Due → is_stored own ≡ false
due_unstored own e = ap is_stored e

pub written_unstored : (P : OwnWrite → Type 0) (own : Own) → IsWriteWith P own → is_stored own ≡ false
written_unstored P Due h = refl
written_unstored P (WriteOwn w) h = refl
written_unstored P (Stored b) h = absurd h
written_unstored P (ReadOwn w) h = refl
written_unstored P (FreeOwn w) h = refl
written_unstored P (ClaimOwn w) h = refl
written_unstored P (Found own) h = refl
written_unstored P Over h = refl

-- ---- its members

pub next_begun : (child : PartNode) (own : Own) → IsWriteWith (λ (w : OwnWrite). IsMemberUnder w.work.own.part child) own
    → (child.work.own.part.members ≡ []) × (child.work.io ≡ None)
next_begun child (WriteOwn w) h = (h.begun, h.none)
next_begun child Due h = absurd h
next_begun child (Stored b) h = absurd h
next_begun child (ReadOwn w) h = absurd h
next_begun child (FreeOwn w) h = absurd h
next_begun child (ClaimOwn w) h = absurd h
next_begun child (Found own) h = absurd h
next_begun child Over h = absurd h

grows_in : (child : PartNode) (a b : Own) → members_of b ≡ members_of a ++ MemberOut ∷ [] → path_of b ≡ path_of a → IsWriteWith (λ (w : OwnWrite). IsMemberUnder w.work.own.part child) b
    → members_left b + part_max (8 - length child.work.own.part.path) + 1 ≡ members_left a
grows_in child a (WriteOwn w) members path under =
    let x : PartWriting = record w.work.own.part { members = members_of a; path = path_of a } in
    share_grows x w.work.own.part child members path under
grows_in child a Due members path under = absurd under
grows_in child a (Stored b) members path under = absurd under
grows_in child a (ReadOwn w) members path under = absurd under
grows_in child a (FreeOwn w) members path under = absurd under
grows_in child a (ClaimOwn w) members path under = absurd under
grows_in child a (Found own) members path under = absurd under
grows_in child a Over members path under = absurd under

-- one that is handed out takes its share
pub next_grows : (child : PartNode) (a b : Own) → HasNextMember child a b
    → members_left b + part_max (8 - length child.work.own.part.path) + 1 ≡ members_left a
next_grows child a b h = grows_in child a b h.members h.path h.under

-- places were asked for before that
pub asked_before : (child : PartNode) (a mid b : Own) → members_of mid ≡ members_of a → path_of mid ≡ path_of a → HasNextMember child mid b → HasNextMember child a b
asked_before child a mid b members path next = record { members = next.members ∙ ap with_member members; path = next.path ∙ path; under = next.under }

-- its children are the same
pub same_family : (r mid : RequestNode) → mid ≡ with_own r mid.own r.family → mid ≡ with_own r mid.own mid.family
same_family r mid rest = rest ∙ ap (with_own r mid.own) (sym (ap (λ (x : RequestNode). x.family) rest))

-- ---- its operations on leaves

pub asks_few : (tops : List Top) (own : Own) (family : List Child) → IsOwnOver tops own family → asked_of own ≤ 24
asks_few tops (WriteOwn w) family h = io_few tops w.work.own.part w.work.io family h.io
asks_few tops Due family h = omega arith
asks_few tops (Stored b) family h = omega arith
asks_few tops (ReadOwn w) family h = omega arith
asks_few tops (FreeOwn w) family h = omega arith
asks_few tops (ClaimOwn w) family h = omega arith
asks_few tops (Found own) family h = omega arith
asks_few tops Over family h = omega arith

-- as it was
pub same_gave : (r now : RequestNode) → now ≡ r → gave_by now.waiting.request.work now ≡ gave_by r.waiting.request.work r
same_gave r now same = ap (λ (x : RequestNode). gave_by x.waiting.request.work x) same

pub is_due_now : (due : Bool) → (due ≡ false → ⊥) → due ≡ true
is_due_now true h = refl
is_due_now false h = absurd (h refl)
