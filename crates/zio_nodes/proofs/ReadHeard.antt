-- How far a read in an attempt is once a child of its own work ended, and how often it runs then.
use Rattle.std.proofs.Common.{◌≡◌, ℕ, ◌+◌, ◌-◌, ◌*◌, ◌≤◌, List, [], ◌∷◌, length, Bool, true, Option, Some, None, inl, inr, refl, sym, ap, subst, ◌∙◌, arith}
use Rattle.std.specs.Prelude.{IfSome}
use Rattle.zio_types.specs.declared.error.Errno.{Errno}
use Rattle.zio_types.specs.declared.place.Top.{Top}
use Rattle.zio_masks.specs.declared.stage.Stage.{Stage}
use Rattle.zio_masks.specs.declared.stage.Stage.TheVariants.{Start, ReadBpInit, GangAssemble, GangIssue, Ready, VdevIoStart, VdevIoDone, VdevIoAssess, ChecksumVerify, Done}
use Rattle.zio_blkptr.specs.declared.pointer.Bp.{Bp}
use Rattle.zio_gang.specs.declared.tree.Tree.{Tree}
use Rattle.zio_gang.specs.Trees.{unless_errors}
use Rattle.zio_trace.specs.Tasks.{Walked as Walk}
use Rattle.zio_frames.specs.Frames.{Child}
use Rattle.zio_parts.specs.TreeReads.{Reading, bodies_or, walk_heard}
use Rattle.zio_parts.specs.declared.tree_read.Phase.TheVariants.{Found as BodiesFound, Out as WalkOut}
use Rattle.zio_exchange.specs.Wholes.{joined}
use Rattle.zio_exchange.specs.declared.waiting.UnfinishedRequest.{UnfinishedRequest}
use Rattle.zio_stages.specs.NodeIos.{IsAwaitedAt, IsReadDue}
use Rattle.zio_stages.specs.OwnReads.{IsOwnReadOver}
use Rattle.zio_stages.specs.ReadCounts.{AreHandedOut, AsksMore, HasBegun, HasOneBody, HearsBody, IsAskedMore, IsOneDueIn}
use Rattle.zio_stages.specs.RequestNodes.{IsOwnOver}
use Rattle.zio_stages.specs.RequestReads.{IsAlone, IsReadWith, ReadsOn}
use Rattle.zio_stages.specs.RequestStages.{with_own}
use Rattle.zio_stages.specs.declared.family.Layer.TheVariants.{Within}
use Rattle.zio_stages.specs.declared.own_read.BodyIo.{BodyIo}
use Rattle.zio_stages.specs.declared.own_read.OwnRead.{OwnRead}
use Rattle.zio_stages.specs.declared.request_node.Own.{Own}
use Rattle.zio_stages.specs.declared.request_node.Own.TheVariants.{Claim as ClaimOwn, Due, Found, Free as FreeOwn, Over, Read as ReadOwn, Stored, Write as WriteOwn}
use Rattle.zio_stages.specs.declared.request_node.RequestNode.{RequestNode}
use Rattle.zio_stages.proofs.OutMoves.{read_idle}
use Rattle.zio_stages.proofs.OwnReadLemmas.{body_over, not_awaited}
use Rattle.zio_staged.specs.Stages.{heard_max}
use Rattle.zio_nodes.specs.Bounds.{leaf_share, pass_left, read_asks_max}
use Rattle.zio_nodes.specs.OwnAts.{HasFewBodies, IsReadAtStage, MayReadOne}
use Rattle.zio_nodes.specs.OwnBounds.{body_left, body_share, read_left, read_stages, reading_left, walk_left}
use Rattle.zio_nodes.specs.ReadBounds.{bodies_max}
use Rattle.zio_nodes.specs.RequestAts.{IsRequestAtOver}
use Rattle.zio_nodes.specs.RequestBounds.{own_left, request_left, request_share}
use Rattle.zio_nodes.specs.declared.request_at.RequestAt.{RequestAt}
use Rattle.zio_nodes.proofs.OwnLefts.{read_less, read_own_left, still_read}
use Rattle.zio_nodes.proofs.OwnOver.{IsRead, read_over, read_stands}
use Rattle.zio_nodes.proofs.ReadLemmas.{counts_all, tree_all}
use Rattle.zio_nodes.proofs.WriteHears.{due_few}
use Rattle.zio_nodes.proofs.OwnHears.{HearsGang, HearsLeaf, HearsWalk}

abbrev at_stage : RequestNode → Stage → Bool → RequestAt
at_stage now stage due = record { node = now; stage = stage; is_due = due }

-- ---- how often a request runs then

own_more : (at : RequestAt) (now : RequestNode) (stage : Stage) (due : Bool) → now ≡ with_own at.node now.own now.family
    → own_left (at_stage now stage due) ≤ own_left at + heard_max → request_left (at_stage now stage due) ≤ request_left at + heard_max
own_more at now stage due rest h = omega (arith, h, ap (λ (x : RequestNode). length (joined x.kids.due) * request_share) rest)

-- ---- how far a read is then

reads_on : (P : OwnRead → OwnRead → Type 0) (own now : Own) (v : OwnRead) → own ≡ ReadOwn v → ReadsOn P own now → (w : OwnRead) × (now ≡ ReadOwn w) × P v w
reads_on P own now v is on = by now (subst (λ (o : Own). ReadsOn P o now) is on)
  where
    by : (o : Own) → ReadsOn P (ReadOwn v) o → (w : OwnRead) × (o ≡ ReadOwn w) × P v w
    by Due h = absurd h
    by (WriteOwn w) h = absurd h
    by (Stored b) h = absurd h
    by (ReadOwn w) h = (w, refl, h)
    by (FreeOwn w) h = absurd h
    by (ClaimOwn w) h = absurd h
    by (Found own) h = absurd h
    by Over h = absurd h

-- as far at its stage, and whatever else it owes
read_goes : (tops : List Top) (at : RequestAt) (now : RequestNode) (due : Bool) (v w : OwnRead) → IsRead at.node.waiting.request.work → IsRequestAtOver tops at → (at.stage ≡ Start → ⊥)
    → now ≡ with_own at.node now.own now.family → now.waiting ≡ at.node.waiting → IsOwnOver tops now.own now.family → at.node.own ≡ ReadOwn v → now.own ≡ ReadOwn w
    → (IsReadAtStage tops at.stage at.is_due (ReadOwn v) at.node.waiting.block → IsReadAtStage tops at.stage due (ReadOwn w) at.node.waiting.block)
    → IsRequestAtOver tops (at_stage now at.stage due)
read_goes tops at now due v w work over behind rest waiting own was is stands =
    let h = read_stands tops at at.stage work over refl behind in
    let mine = subst (λ (o : Own). IsReadAtStage tops at.stage at.is_due o at.node.waiting.block) was h in
    let next = subst (λ (o : Own). IsReadAtStage tops at.stage due o at.node.waiting.block) (sym is) (stands mine) in
    read_over tops at now at.stage due work over behind rest own
    (subst (λ (b : Option Tree). IsReadAtStage tops at.stage due now.own b) (sym (ap (λ (q : UnfinishedRequest). q.block) waiting)) next)

-- it runs no more often
read_same : (at : RequestAt) (now : RequestNode) → IsRead at.node.waiting.request.work → (at.stage ≡ Start → ⊥) → now ≡ with_own at.node now.own now.family
    → reading_left now.own ≤ reading_left at.node.own → request_left (at_stage now at.stage at.is_due) ≤ request_left at + heard_max
read_same at now work behind rest less =
    let l = read_less at now at.stage at.is_due 0 work behind behind rest (omega (arith, less)) in
    omega (arith, l)

-- ---- its walk ended

pub record IsHeardWalk (x y : Reading) : Type 0 where
  pub begun : HasBegun y.phase
  pub left : walk_left y.phase ≡ 0
  pub results : y.results ≡ x.results
  pub few : length x.bodies ≤ bodies_max → length y.bodies ≤ bodies_max

heard_walk_by : (x : Reading) (es : List (Option Errno)) (bodies : List Bp) → (es ≡ [] → length bodies ≤ bodies_max) → IsHeardWalk x (walk_heard x (unless_errors es bodies))
heard_walk_by x [] bodies few = record { begun = tt; left = refl; results = refl; few = λ l. few refl }
heard_walk_by x (e ∷ es) bodies few = record { begun = tt; left = refl; results = refl; few = λ l. l }

-- the read behind its walk
abbrev pub IsBehindWalk : Walk → OwnRead → OwnRead → Type 0
IsBehindWalk walked v w = w.tree.read ≡ walk_heard v.tree.read (bodies_or walked)

heard_walk : (walked : Walk) (v w : OwnRead) → (walked.errors ≡ [] → length walked.bodies ≤ bodies_max) → IsBehindWalk walked v w → IsHeardWalk v.tree.read w.tree.read
heard_walk walked v w few is = subst (IsHeardWalk v.tree.read) (sym is) (heard_walk_by v.tree.read walked.errors walked.bodies few)

not_all : (v : OwnRead) → v.tree.read.phase ≡ WalkOut → MayReadOne v → ⊥
not_all v out (inl all) = subst (λ p. AreHandedOut p v.tree.read.bodies v.tree.read.results) out all
not_all v out (inr one) = let no : WalkOut ≡ BodiesFound = sym out ∙ one.found in cc

walk_stands : (tops : List Top) (stage : Stage) (due : Bool) (v w : OwnRead) (block : Option Tree) → v.tree.read.phase ≡ WalkOut → IsAlone w → IsHeardWalk v.tree.read w.tree.read
    → IsReadAtStage tops stage due (ReadOwn v) block → IsReadAtStage tops stage due (ReadOwn w) block
walk_stands tops ReadBpInit due v w block out alone heard h = absurd (let no : ReadOwn v ≡ Due = h.0 in cc)
walk_stands tops GangAssemble due v w block out alone heard h = (h.0, (alone, heard.few h.1.1))
walk_stands tops GangIssue due v w block out alone heard h = (h.0, (alone, heard.few h.1.1, heard.begun))
walk_stands tops Ready due v w block out alone heard h = absurd (not_all v out h.0)
walk_stands tops VdevIoStart due v w block out alone heard h = absurd (not_all v out h.0)
walk_stands tops VdevIoDone due v w block out alone heard h = absurd (not_all v out (inl h.0))
walk_stands tops VdevIoAssess due v w block out alone heard h = absurd (not_all v out (inl h.0))
walk_stands tops ChecksumVerify due v w block out alone heard h = absurd (not_all v out (inl h.0))
walk_stands tops Done due v w block out alone heard h = absurd (not_all v out (inl h.0))
walk_stands tops stage due v w block out alone heard h = absurd h

walk_less : (v w : OwnRead) → IsAlone v → IsAlone w → IsHeardWalk v.tree.read w.tree.read → reading_left (ReadOwn w) ≤ reading_left (ReadOwn v)
walk_less v w was alone heard =
    omega (arith, heard.left, ap (λ xs. body_share * (bodies_max - length xs)) heard.results, ap body_left was, ap body_left alone)

pub walk_over : (tops : List Top) (at : RequestAt) (n : ℕ) (now : RequestNode) (walked : Walk) (x : HearsWalk tops at n walked) → IsRead at.node.waiting.request.work → IsRequestAtOver tops at
    → (at.stage ≡ Start → ⊥) → now ≡ with_own at.node now.own now.family → now.waiting ≡ at.node.waiting → IsOwnOver tops now.own now.family
    → ReadsOn (IsBehindWalk walked) at.node.own now.own → IsReadWith IsAlone now.own → IsRequestAtOver tops (at_stage now at.stage at.is_due)
walk_over tops at n now walked x work over behind rest waiting own goes reads =
    let on = reads_on (IsBehindWalk walked) at.node.own now.own x.own x.is goes in
    let alone : IsAlone on.0 = subst (IsReadWith IsAlone) on.1 reads in
    read_goes tops at now at.is_due x.own on.0 work over behind rest waiting own x.is on.1
    (walk_stands tops at.stage at.is_due x.own on.0 at.node.waiting.block x.out alone (heard_walk walked x.own on.0 x.few on.2))

pub walk_left_then : (tops : List Top) (at : RequestAt) (n : ℕ) (now : RequestNode) (walked : Walk) (x : HearsWalk tops at n walked) → IsRead at.node.waiting.request.work
    → (at.stage ≡ Start → ⊥) → now ≡ with_own at.node now.own now.family → ReadsOn (IsBehindWalk walked) at.node.own now.own → IsReadWith IsAlone now.own
    → request_left (at_stage now at.stage at.is_due) ≤ request_left at + heard_max
walk_left_then tops at n now walked x work behind rest goes reads =
    let on = reads_on (IsBehindWalk walked) at.node.own now.own x.own x.is goes in
    let alone : IsAlone on.0 = subst (IsReadWith IsAlone) on.1 reads in
    let less = walk_less x.own on.0 x.alone alone (heard_walk walked x.own on.0 x.few on.2) in
    read_same at now work behind rest (omega (arith, less, ap reading_left on.1, ap reading_left x.is))

-- ---- a gang child read a body

no_length : {X : Type 0} (xs : List X) → length xs ≡ 0 → xs ≡ []
no_length [] e = refl
no_length (x ∷ xs) e = absurd (omega (arith, e))

one_still : (v w : OwnRead) → HearsBody v w → HasOneBody v → HasOneBody w
one_still v w heard one = record {
  alone = heard.body ∙ one.alone;
  found = heard.counts.phase ∙ one.found;
  one = ap length heard.counts.bodies ∙ one.one;
  none = no_length w.tree.read.results (heard.counts.handed ∙ ap length one.none);
}

may_still : (v w : OwnRead) → HearsBody v w → MayReadOne v → MayReadOne w
may_still v w heard (inl all) = inl (counts_all v w all heard.counts)
may_still v w heard (inr one) = inr (one_still v w heard one)

few_still : (v w : OwnRead) → HearsBody v w → HasFewBodies v → HasFewBodies w
few_still v w heard few = subst (λ bs. length bs ≤ bodies_max) (sym heard.counts.bodies) few

body_stands : (tops : List Top) (stage : Stage) (due : Bool) (v w : OwnRead) (block : Option Tree) → HearsBody v w → IsReadAtStage tops stage due (ReadOwn v) block
    → IsReadAtStage tops stage due (ReadOwn w) block
body_stands tops ReadBpInit due v w block heard h = absurd (let no : ReadOwn v ≡ Due = h.0 in cc)
body_stands tops GangAssemble due v w block heard h = (h.0, (heard.body ∙ h.1.0, few_still v w heard h.1.1))
body_stands tops GangIssue due v w block heard h = (h.0, (heard.body ∙ h.1.0, few_still v w heard h.1.1, subst HasBegun (sym heard.counts.phase) h.1.2))
body_stands tops Ready due v w block heard h = (may_still v w heard h.0, λ gang. let all = h.1 gang in (counts_all v w all.0 heard.counts, heard.body ∙ all.1))
body_stands tops VdevIoStart due v w block heard h = (may_still v w heard h.0, h.1, h.2)
body_stands tops VdevIoDone due v w block heard h = (counts_all v w h.0 heard.counts, (λ never more. h.1 never (subst (IsOneDueIn tops) heard.body more)), h.2)
body_stands tops VdevIoAssess due v w block heard h =
    (counts_all v w h.0 heard.counts, subst (λ (o : Option BodyIo). IfSome o (λ (b : BodyIo). IsReadDue tops b.io)) (sym heard.body) h.1, h.2)
body_stands tops ChecksumVerify due v w block heard h = (counts_all v w h.0 heard.counts, heard.body ∙ h.1)
body_stands tops Done due v w block heard h = (counts_all v w h.0 heard.counts, heard.body ∙ h.1)
body_stands tops stage due v w block heard h = absurd h

body_less : (v w : OwnRead) → HearsBody v w → reading_left (ReadOwn w) ≤ reading_left (ReadOwn v)
body_less v w heard =
    omega (arith, ap walk_left heard.counts.phase, ap (λ n. body_share * (bodies_max - n)) heard.counts.handed, ap body_left heard.body)

pub gang_over : (tops : List Top) (at : RequestAt) (n : ℕ) (now : RequestNode) (x : HearsGang at n) → IsRead at.node.waiting.request.work → IsRequestAtOver tops at
    → (at.stage ≡ Start → ⊥) → now ≡ with_own at.node now.own now.family → now.waiting ≡ at.node.waiting → IsOwnOver tops now.own now.family
    → ReadsOn HearsBody at.node.own now.own → IsRequestAtOver tops (at_stage now at.stage at.is_due)
gang_over tops at n now x work over behind rest waiting own goes =
    let on = reads_on HearsBody at.node.own now.own x.own x.is goes in
    read_goes tops at now at.is_due x.own on.0 work over behind rest waiting own x.is on.1
    (body_stands tops at.stage at.is_due x.own on.0 at.node.waiting.block on.2)

pub gang_left_then : (at : RequestAt) (n : ℕ) (now : RequestNode) (x : HearsGang at n) → IsRead at.node.waiting.request.work
    → (at.stage ≡ Start → ⊥) → now ≡ with_own at.node now.own now.family → ReadsOn HearsBody at.node.own now.own
    → request_left (at_stage now at.stage at.is_due) ≤ request_left at + heard_max
gang_left_then at n now x work behind rest goes =
    let on = reads_on HearsBody at.node.own now.own x.own x.is goes in
    let less = body_less x.own on.0 on.2 in
    read_same at now work behind rest (omega (arith, less, ap reading_left on.1, ap reading_left x.is))

-- ---- a leaf answered

leaf_due : (tops : List Top) (o : Option BodyIo) → (o ≡ None → ⊥) → ((b : BodyIo) → o ≡ Some b → IsReadDue tops b.io → ⊥) → IfSome o (λ (b : BodyIo). IsReadDue tops b.io) → ⊥
leaf_due tops None some idle h = some refl
leaf_due tops (Some b) some idle h = idle b refl h

may_one : (v w : OwnRead) → AsksMore None v w → (v.body ≡ None → ⊥) → MayReadOne v → MayReadOne w
may_one v w heard some (inl all) = inl (tree_all v w all heard.tree)
may_one v w heard some (inr one) = absurd (some one.alone)

leaf_stands : (tops : List Top) (stage : Stage) (due : Bool) (v w : OwnRead) (block : Option Tree) → AsksMore None v w → (v.body ≡ None → ⊥)
    → ((b : BodyIo) → v.body ≡ Some b → IsReadDue tops b.io → ⊥) → IsReadAtStage tops stage due (ReadOwn v) block → IsReadAtStage tops stage true (ReadOwn w) block
leaf_stands tops ReadBpInit due v w block heard some idle h = absurd (let no : ReadOwn v ≡ Due = h.0 in cc)
leaf_stands tops GangAssemble due v w block heard some idle h = absurd (some h.1.0)
leaf_stands tops GangIssue due v w block heard some idle h = absurd (some h.1.0)
leaf_stands tops Ready due v w block heard some idle h = (may_one v w heard some h.0, λ gang. absurd (some (h.1 gang).1))
leaf_stands tops VdevIoStart due v w block heard some idle h = (may_one v w heard some h.0, refl, h.2)
leaf_stands tops VdevIoDone due v w block heard some idle h = (tree_all v w h.0 heard.tree, (λ never more. absurd (cc)), h.2)
leaf_stands tops VdevIoAssess due v w block heard some idle h = absurd (leaf_due tops v.body some idle h.1)
leaf_stands tops ChecksumVerify due v w block heard some idle h = absurd (some h.1)
leaf_stands tops Done due v w block heard some idle h = absurd (some h.1)
leaf_stands tops stage due v w block heard some idle h = absurd h

asked_same : (b d : Option BodyIo) → IsAskedMore None b d → body_left d ≡ body_left b
asked_same None None h = refl
asked_same None (Some d) h = absurd h
asked_same (Some b) None h = absurd h
asked_same (Some b) (Some d) h = λ i. leaf_share * (read_asks_max - h.0 i) + pass_left (h.1 i)

leaf_same : (v w : OwnRead) → AsksMore None v w → reading_left (ReadOwn w) ≡ reading_left (ReadOwn v)
leaf_same v w heard = λ i.
    walk_left (heard.tree i).read.phase + body_share * (bodies_max - length (heard.tree i).read.results) + asked_same v.body w.body heard.body i

stages_more : (stage : Stage) (due : Bool) → read_stages stage true ≤ read_stages stage due + 2
stages_more ReadBpInit due = omega arith
stages_more GangAssemble due = omega arith
stages_more GangIssue due = omega arith
stages_more Ready due = omega arith
stages_more VdevIoStart due = omega (arith, due_few due true)
stages_more VdevIoDone due = omega (arith, due_few due true)
stages_more VdevIoAssess due = omega arith
stages_more ChecksumVerify due = omega arith
stages_more Done due = omega arith
stages_more _ due = omega arith

-- nothing of its pass ended while an operation is out
leaf_idle : (tops : List Top) (w : OwnRead) (family : List Child) (n : ℕ) → IsOwnReadOver tops w family → IsAwaitedAt Within family n
    → (b : BodyIo) → w.body ≡ Some b → IsReadDue tops b.io → ⊥
leaf_idle tops w family n over at b is due =
    let mine = body_over tops w b family is over in
    read_idle tops b.io due at.number (mine.sits.outs n at.number at.child at.is at.goes at.seat)

pub leaf_over : (tops : List Top) (at : RequestAt) (n : ℕ) (now : RequestNode) (x : HearsLeaf at n) → IsRead at.node.waiting.request.work → IsRequestAtOver tops at
    → (at.stage ≡ Start → ⊥) → now ≡ with_own at.node now.own now.family → now.waiting ≡ at.node.waiting → IsOwnOver tops now.own now.family
    → ReadsOn (AsksMore None) at.node.own now.own → IsRequestAtOver tops (at_stage now at.stage true)
leaf_over tops at n now x work over behind rest waiting own goes =
    let on = reads_on (AsksMore None) at.node.own now.own x.own x.is goes in
    let mine : IsOwnOver tops (ReadOwn x.own) at.node.family = subst (λ (o : Own). IsOwnOver tops o at.node.family) x.is over.over.own in
    read_goes tops at now true x.own on.0 work over behind rest waiting own x.is on.1
    (leaf_stands tops at.stage at.is_due x.own on.0 at.node.waiting.block on.2 (λ none. not_awaited tops x.own at.node.family n none mine.0 x.awaited)
    (leaf_idle tops x.own at.node.family n mine.0 x.awaited))

pub leaf_left_then : (at : RequestAt) (n : ℕ) (now : RequestNode) (x : HearsLeaf at n) → IsRead at.node.waiting.request.work
    → (at.stage ≡ Start → ⊥) → now ≡ with_own at.node now.own now.family → ReadsOn (AsksMore None) at.node.own now.own
    → request_left (at_stage now at.stage true) ≤ request_left at + heard_max
leaf_left_then at n now x work behind rest goes =
    let on = reads_on (AsksMore None) at.node.own now.own x.own x.is goes in
    let same : reading_left now.own ≡ reading_left at.node.own = ap reading_left on.1 ∙ leaf_same x.own on.0 on.2 ∙ sym (ap reading_left x.is) in
    let was : own_left at ≡ read_left at = read_own_left at work behind in
    let is : own_left (at_stage now at.stage true) ≡ read_left (at_stage now at.stage true) = read_own_left (at_stage now at.stage true) (still_read at.node now rest work) behind in
    own_more at now at.stage true rest (omega (arith, was, is, same, stages_more at.stage at.is_due))
