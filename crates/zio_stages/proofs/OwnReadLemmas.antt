-- A read's own work behind other operations: it walks at once, begins a body as the part within, goes on with it and closes it.
use Rattle.std.proofs.Common.{◌≡◌, ℕ, ◌+◌, ◌<◌, List, [], ◌∷◌, ◌++◌, length, set, slice_get, Option, Some, None, refl, sym, ap, subst, ◌∙◌, arith}
use Rattle.std.specs.Prelude.{IfSome}
use Rattle.std.specs.List.{AllByRecursion}
use Rattle.zio_types.specs.declared.place.Top.{Top}
use Rattle.zio_blkptr.specs.declared.pointer.Bp.{Bp}
use Rattle.zio_gang.specs.declared.tree.Tree.{Tree}
use Rattle.zio_gang.specs.Attempts.{Terms}
use Rattle.zio_trace.specs.Leaves.{Answer, LeafOp}
use Rattle.zio_trace.specs.Plans.{plan, plan_tree}
use Rattle.zio_trace.specs.Programs.{Ends}
use Rattle.zio_trace.specs.Tasks.{Got, Leaf, Task, Value, Walked, WalkedBy}
use Rattle.zio_frames.specs.Frames.{Child, Frame, Inner, OfInner, Seat, Stack, asking, asking_in, fresh_frame, left_of, with_asked, with_slot}
use Rattle.zio_frames.specs.Moves.{AsksNext, Closed, Opened, closed, done_at_once, handed, heard_of, opened, set_at, set_in_inner, with_asking}
use Rattle.zio_frames.specs.Slots.{Heard, IsOut, Slot}
use Rattle.zio_parts.specs.TreeReads.{ShowsRead}
use Rattle.zio_parts.specs.declared.tree_read.BodyRead.{BodyRead}
use Rattle.zio_parts.specs.declared.tree_read.TreeStep.TheVariants.{Body}
use Rattle.zio_stages.specs.NodeIos.{IsAsking, IsAwaitedAt, IsReadAt, IsReadDue, NoneSits, SitsOn, StartsBy}
use Rattle.zio_stages.specs.OwnParts.{DoesThen, GoesOnAs}
use Rattle.zio_stages.specs.OwnReads.{AreReads, IsBodyIn, IsBodyOver, IsBodyTask, IsBodyWithin, IsOwnOver, IsOwnRead, IsOwnReadOver}
use Rattle.zio_stages.specs.ReadIos.{IsReadIo, IsReadOutIn, IsReadOver, IsReadStep}
use Rattle.zio_stages.specs.TreeWorks.{HandsRead, IsTreeWork, WalksRead, body_task, heads_task, slots_with}
use Rattle.zio_stages.specs.declared.family.Layer.TheVariants.{Within}
use Rattle.zio_stages.specs.declared.leaf.LeafWork.{LeafWork}
use Rattle.zio_stages.specs.declared.own_read.BodyIo.{BodyIo}
use Rattle.zio_stages.specs.declared.own_read.OwnRead.{OwnRead}
use Rattle.zio_stages.specs.declared.tree.TreeWork.{TreeWork}
use Rattle.zio_stages.specs.declared.read_io.ReadIo.{ReadIo}
use Rattle.zio_stages.specs.declared.write_io.IoStep.TheVariants.{End}
use Rattle.zio_stages.proofs.BehindLemmas.{behind_more, behind_set, behind_still, does_at_once, next_number}
use Rattle.zio_stages.proofs.ToldLemmas.{asks_since, since_heard, since_length, since_out, since_set}
use Rattle.zio_stages.proofs.NodeIoEnds.{read_closes}
use Rattle.zio_stages.proofs.NodeIoLemmas.{sits_fresh}
use Rattle.zio_stages.proofs.TreeLemmas.{found_length}

-- ---- the walk

pub first_read : (tree : Tree) (asked : List Task) → asked ≡ [] → AreReads tree (asked ++ heads_task tree ∷ [])
first_read tree asked e = subst (λ (xs : List Task). AreReads tree (xs ++ heads_task tree ∷ [])) (sym e) (refl, tt)

pub alone_in : (t : Terms) (body : Option BodyIo) (front : ℕ) (st : Stack) → body ≡ None → IsBodyIn t body front st → st.inner ≡ None
alone_in t body front st e h = subst (λ (b : Option BodyIo). IsBodyIn t b front st) e h

pub none_in : (t : Terms) (body : Option BodyIo) (front : ℕ) (st : Stack) → body ≡ None → st.inner ≡ None → IsBodyIn t body front st
none_in t body front st e h = subst (λ (b : Option BodyIo). IsBodyIn t b front st) (sym e) h

pub walks : (t : Terms) (tops : List Top) (old new : OwnRead) (family : List Child) (tree : Tree) (front_asked : List Task) (front : List Slot) (st : Stack) (walked : Walked)
    → old.body ≡ None → new.body ≡ None
    → ((asked : List Task) (begun : List Slot) → IsTreeWork old.tree tree asked begun → WalksRead new.tree tree asked begun walked)
    → plan t (heads_task tree) ≡ Ends (WalkedBy walked) → GoesOnAs t tops (plan_tree tree) front st → IsOwnRead t old family tree front_asked front st
    → DoesThen t st [] (IsOwnRead t new family tree front_asked front)
walks t tops old new family tree front_asked front st walked alone none step ends goes h =
    let op : Task = heads_task tree in
    let v : Value = WalkedBy walked in
    let walk : WalksRead new.tree tree h.asked h.begun walked = step h.asked h.begun h.work in
    let asks : AsksNext t st.outer op = asks_since t front_asked front h.asked h.begun h.slots st (plan_tree tree) op h.behind h.told h.work.out goes.follows walk.asks in
    record {
      dids = Opened op ∷ Closed v ∷ [];
      stack = done_at_once st op v;
      does = does_at_once t st op v (alone_in t old.body (length front) st alone h.body) refl asks ends;
      opens = (tt, (tt, tt));
      calls_are = refl;
      after = record {
        asked = h.asked ++ op ∷ [];
        slots = h.slots ++ Heard v ∷ [];
        begun = h.begun ++ Heard v ∷ [];
        children = h.children;
        behind = behind_more front_asked front h.asked h.slots st (done_at_once st op v) op (Heard v) h.behind refl;
        work = walk.after;
        told = since_heard h.begun h.slots v h.told;
        reads = first_read tree h.asked walk.first;
        body = none_in t new.body (length front) (done_at_once st op v) none refl;
      };
    }

-- ---- a body begins

bodies_more : (asked : List Task) (bp : Bp) → AllByRecursion IsBodyTask asked → AllByRecursion IsBodyTask (asked ++ body_task bp ∷ [])
bodies_more [] bp h = ((bp, refl), tt)
bodies_more (op ∷ asked) bp h = (h.0, bodies_more asked bp h.1)

pub reads_more : (tree : Tree) (asked : List Task) (bp : Bp) → 0 < length asked → AreReads tree asked → AreReads tree (asked ++ body_task bp ∷ [])
reads_more tree [] bp some h = absurd (omega arith)
reads_more tree (op ∷ asked) bp some h = (h.0, bodies_more asked bp h.1)

-- as many were asked as stand before this body
pub asked_before : (w : TreeWork) (tree : Tree) (asked : List Task) (slots : List Slot) (body : BodyRead) → ShowsRead w.read (Body body) → IsTreeWork w tree asked slots
    → length slots ≡ body.n + 1
asked_before w tree asked slots body shows h = found_length w tree asked slots body.n shows.0 shows.1 h

pub begins : (t : Terms) (tops : List Top) (old new : OwnRead) (b : BodyIo) (body : BodyRead) (family : List Child) (tree : Tree) (front_asked : List Task) (front : List Slot) (st : Stack)
    → old.body ≡ None → new.body ≡ Some b → b.number ≡ body.n + 1 → IsReadIo t b.io (fresh_frame (body_task body.bp)) → ShowsRead old.tree.read (Body body)
    → ((asked : List Task) (begun : List Slot) → IsTreeWork old.tree tree asked begun → HandsRead new.tree tree asked begun (body_task body.bp))
    → GoesOnAs t tops (plan_tree tree) front st → IsOwnRead t old family tree front_asked front st
    → DoesThen t st [] (IsOwnRead t new family tree front_asked front)
begins t tops old new b body family tree front_asked front st alone some number fresh shows step goes h =
    let op : Task = body_task body.bp in
    let out : HandsRead new.tree tree h.asked h.begun op = step h.asked h.begun h.work in
    let inner : st.inner ≡ None = alone_in t old.body (length front) st alone h.body in
    let asks : AsksNext t st.outer op = asks_since t front_asked front h.asked h.begun h.slots st (plan_tree tree) op h.behind h.told h.work.out goes.follows out.0 in
    let same : length h.begun ≡ length h.slots = since_length h.begun h.slots h.told in
    let count : length h.begun ≡ body.n + 1 = asked_before old.tree tree h.asked h.begun body shows h.work in
    let full : length h.asked ≡ length h.begun = h.work.full in
    let next : length st.outer.slots ≡ length front + length h.slots = next_number front_asked front h.asked h.slots st h.behind in
    let here : IsBodyWithin t b (length front) (opened st op) =
    record { inner = record { number = length st.outer.slots; frame = fresh_frame op }; is = refl; number = omega (arith, next, same, count, number); part = fresh } in
    record {
      dids = Opened op ∷ [];
      stack = opened st op;
      does = (opened st op, (inner, refl, asks, refl), refl);
      opens = (tt, tt);
      calls_are = refl;
      after = record {
        asked = h.asked ++ op ∷ [];
        slots = h.slots ++ IsOut None ∷ [];
        begun = h.begun ++ IsOut None ∷ [];
        children = h.children;
        behind = behind_more front_asked front h.asked h.slots st (opened st op) op (IsOut None) h.behind refl;
        work = out.1;
        told = since_out h.begun h.slots h.told;
        reads = reads_more tree h.asked body.bp (omega (arith, full, count)) h.reads;
        body = subst (λ (o : Option BodyIo). IsBodyIn t o (length front) (opened st op)) (sym some) here;
      };
    }

-- ---- it goes on

pub within_of : (t : Terms) (body : Option BodyIo) (b : BodyIo) (front : ℕ) (st : Stack) → body ≡ Some b → IsBodyIn t body front st → IsBodyWithin t b front st
within_of t body b front st e h = subst (λ (o : Option BodyIo). IsBodyIn t o front st) e h

inner_asking : (st : Stack) (i : Inner) → st.inner ≡ Some i → asking st ≡ i.frame
inner_asking st i e = ap (λ (o : Option Inner). asking_in st.outer o) e

asks_within : (st : Stack) (i : Inner) → st.inner ≡ Some i → IsAsking Within st.inner
asks_within st i e = subst (IsAsking Within) (sym e) tt

-- the part that asks is the body's read
pub read_at : (t : Terms) (w : OwnRead) (b : BodyIo) (family : List Child) (tree : Tree) (front_asked : List Task) (front : List Slot) (st : Stack) → w.body ≡ Some b
    → IsOwnRead t w family tree front_asked front st → IsReadAt t Within b.io family st
read_at t w b family tree front_asked front st e h =
    let within : IsBodyWithin t b (length front) st = within_of t w.body b (length front) st e h.body in
    record {
      children = h.children;
      asks = asks_within st within.inner within.is;
      part = subst (IsReadIo t b.io) (sym (inner_asking st within.inner within.is)) within.part;
    }

-- the part within is the same, and is so far now
pub record IsStillWithin (a b : Stack) : Type 0 where
  pub outer : b.outer ≡ a.outer
  pub inner : (i : Inner) → a.inner ≡ Some i → (j : Inner) × (b.inner ≡ Some j) × (j.number ≡ i.number)

pub read_goes : (t : Terms) (old new : OwnRead) (b next : BodyIo) (family more : List Child) (tree : Tree) (front_asked : List Task) (front : List Slot) (st after : Stack)
    → old.body ≡ Some b → new.body ≡ Some next → new.tree ≡ old.tree → next.number ≡ b.number → IsStillWithin st after
    → IsReadAt t Within next.io more after → IsOwnRead t old family tree front_asked front st → IsOwnRead t new more tree front_asked front after
read_goes t old new b next family more tree front_asked front st after was now same number still read h =
    let within : IsBodyWithin t b (length front) st = within_of t old.body b (length front) st was h.body in
    let j = still.inner within.inner within.is in
    let here : IsBodyWithin t next (length front) after = record {
      inner = j.0;
      is = j.1;
      number = j.2 ∙ within.number ∙ ap (λ n. length front + n) (sym number);
      part = subst (IsReadIo t next.io) (inner_asking after j.0 j.1) read.part;
    } in
    record {
      asked = h.asked;
      slots = h.slots;
      begun = h.begun;
      children = read.children;
      behind = behind_still front_asked front h.asked h.slots st after h.behind still.outer;
      work = subst (λ (w : TreeWork). IsTreeWork w tree h.asked h.begun) (sym same) h.work;
      told = h.told;
      reads = h.reads;
      body = subst (λ (o : Option BodyIo). IsBodyIn t o (length front) after) (sym now) here;
    }

pub still_itself : (st : Stack) → IsStillWithin st st
still_itself st = record { outer = refl; inner = λ i e. (i, e, refl) }

pub still_handed : (st : Stack) (op : Task) (i : Inner) → st.inner ≡ Some i → IsStillWithin st (handed st op)
still_handed st op i e = record {
  outer = ap (λ (o : Option Inner). (with_asking st o op).outer) e;
  inner = λ k is.
      (record { number = k.number; frame = with_asked k.frame op (IsOut None) }, ap (λ (o : Option Inner). (with_asking st o op).inner) is, refl);
}

pub still_heard : (st : Stack) (k n : ℕ) (c : Child) (v : Value) (i : Inner) → st.inner ≡ Some i → c.seat ≡ OfInner n → IsStillWithin st (heard_of st k c v)
still_heard st k n c v i e seat = record {
  outer = ap (λ (s : Seat). (set_at st s (Heard v)).outer) seat ∙ ap (λ (o : Option Inner). (set_in_inner st o n (Heard v)).outer) e;
  inner = λ j is. (
    record { number = j.number; frame = with_slot j.frame n (Heard v) },
    ap (λ (s : Seat). (set_at st s (Heard v)).inner) seat ∙ ap (λ (o : Option Inner). (set_in_inner st o n (Heard v)).inner) is,
    refl,
  );
}

-- what holds behind the child's start holds as this makes it
pub starts_then : (t : Terms) (st : Stack) (leaf : Option LeafWork) (P Q : Stack → Type 0) → (P st → Q st) → ((act : LeafOp) → P (handed st (Leaf act)) → Q (handed st (Leaf act)))
    → StartsBy t st leaf P → StartsBy t st leaf Q
starts_then t st None P Q f g h = f h
starts_then t st (Some child) P Q f g h = record { act = h.act; next = h.next; child_is = h.child_is; after = g h.act h.after }

pub starts_body : (t : Terms) (old new : OwnRead) (b next : BodyIo) (family more : List Child) (tree : Tree) (front_asked : List Task) (front : List Slot) (st : Stack) (leaf : Option LeafWork)
    → old.body ≡ Some b → new.body ≡ Some next → new.tree ≡ old.tree → next.number ≡ b.number
    → StartsBy t st leaf (IsReadAt t Within next.io more) → IsOwnRead t old family tree front_asked front st
    → StartsBy t st leaf (IsOwnRead t new more tree front_asked front)
starts_body t old new b next family more tree front_asked front st leaf was now same number starts h =
    let within : IsBodyWithin t b (length front) st = within_of t old.body b (length front) st was h.body in
    starts_then t st leaf (IsReadAt t Within next.io more) (IsOwnRead t new more tree front_asked front)
    (λ read. read_goes t old new b next family more tree front_asked front st st was now same number (still_itself st) read h)
    (λ act read. read_goes t old new b next family more tree front_asked front st (handed st (Leaf act)) was now same number (still_handed st (Leaf act) within.inner within.is) read h)
    starts

-- ---- it closes

pub closes_body : (t : Terms) (tops : List Top) (old new : OwnRead) (b : BodyIo) (io : ReadIo) (family : List Child) (tree : Tree) (front_asked : List Task) (front : List Slot) (st : Stack) (a : Answer)
    → old.body ≡ Some b → new.body ≡ None → IsReadAt t Within io family st → IsReadStep tops io End
    → ((x : Frame) → IsReadIo t io x → left_of t x ≡ Ends (Got a))
    → ((asked : List Task) (begun : List Slot) → IsTreeWork old.tree tree asked begun → IsTreeWork new.tree tree asked (set begun b.number (Heard (Got a))))
    → IsOwnRead t old family tree front_asked front st
    → DoesThen t st [] (IsOwnRead t new family tree front_asked front)
closes_body t tops old new b io family tree front_asked front st a was none read end ends step h =
    let within : IsBodyWithin t b (length front) st = within_of t old.body b (length front) st was h.body in
    let i : Inner = within.inner in
    let after : Stack = closed st i (Got a) in
    record {
      dids = Closed (Got a) ∷ [];
      stack = after;
      does = (after, read_closes t tops io family st i a within.is read end (ends (asking st) read.part), refl);
      opens = (tt, tt);
      calls_are = refl;
      after = record {
        asked = h.asked;
        slots = set h.slots b.number (Heard (Got a));
        begun = set h.begun b.number (Heard (Got a));
        children = h.children;
        behind = behind_set front_asked front h.asked h.slots st after b.number (Heard (Got a)) h.behind (ap (λ n. with_slot st.outer n (Heard (Got a))) within.number);
        work = step h.asked h.begun h.work;
        told = since_set h.begun h.slots b.number (Got a) h.told;
        reads = h.reads;
        body = none_in t new.body (length front) after none refl;
      };
    }

-- ---- what its fields owe

pub fresh_over : (tops : List Top) (w : TreeWork) (b : BodyIo) (n : ℕ) (family : List Child) → b.number ≡ n + 1 → IsReadOver tops b.io
    → ((left : Walked) → slice_get (slots_with left w.read) (n + 1) ≡ Some (IsOut None)) → NoneSits Within family → IsBodyOver tops w b family
fresh_over tops w b n family number over there none = record {
  over = over;
  sits = sits_fresh Within (IsReadOutIn b.io) family none;
  out = record { behind = omega (arith, number); out = λ left. ap (λ k. slice_get (slots_with left w.read) k) number ∙ there left };
}

pub body_over : (tops : List Top) (w : OwnRead) (b : BodyIo) (family : List Child) → w.body ≡ Some b → IsOwnReadOver tops w family → IsBodyOver tops w.tree b family
body_over tops w b family e h = subst (λ (o : Option BodyIo). IsOwnOver tops w.tree o family) e h

-- none is awaited where nothing is within
pub not_awaited : (tops : List Top) (w : OwnRead) (family : List Child) (k : ℕ) → w.body ≡ None → IsOwnReadOver tops w family → IsAwaitedAt Within family k → ⊥
not_awaited tops w family k e h at =
    let none : NoneSits Within family = subst (λ (o : Option BodyIo). IsOwnOver tops w.tree o family) e h in
    none k at.number at.child at.is at.goes at.seat

-- the part within goes on, at the same place of the read
pub over_goes : (tops : List Top) (w : TreeWork) (b next : BodyIo) (family more : List Child) → next.number ≡ b.number → IsReadOver tops next.io → SitsOn Within (IsReadOutIn next.io) more
    → IsBodyOver tops w b family → IsBodyOver tops w next more
over_goes tops w b next family more number over sits h = record {
  over = over;
  sits = sits;
  out = record {
    behind = subst (λ n. 0 < n) (sym number) h.out.behind;
    out = λ left. ap (λ k. slice_get (slots_with left w.read) k) number ∙ h.out.out left;
  };
}

pub due_of : (tops : List Top) (body : Option BodyIo) (b : BodyIo) → body ≡ Some b → IfSome body (λ x. IsReadDue tops x.io) → IsReadDue tops b.io
due_of tops body b e h = let P : Option BodyIo → Type 0 = λ o. IfSome o (λ x. IsReadDue tops x.io) in subst P e h

-- the read of the body is as it was
pub same_read : (w : OwnRead) (b : BodyIo) (io : ReadIo) → w.body ≡ Some b → io ≡ b.io → record { tree = w.tree; body = Some (record { number = b.number; io = io }) } ≡ w
same_read w b io is e =
    let there : Some (record { number = b.number; io = io }) ≡ w.body = ap (λ (x : ReadIo). let y : BodyIo = record { number = b.number; io = x } in Some y) e ∙ sym is in
    λ i. record { tree = w.tree; body = there i }
