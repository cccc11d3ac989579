use Rattle.std.proofs.Common.{◌≡◌, List, [], Result, Ok, Err, sym, subst}
use Rattle.std.specs.Prelude.{OnErr, OnOk}
use Rattle.zio_gang.specs.declared.tree.Tree.{Tree}
use Rattle.zio_gang.specs.Attempts.{Terms}
use Rattle.zio_trace.specs.Plans.{plan_tree}
use Rattle.zio_trace.specs.Tasks.{Task}
use Rattle.zio_frames.specs.Frames.{Child, Stack}
use Rattle.zio_frames.specs.Slots.{Slot}
use Rattle.zio_frames.proofs.GetLemmas.{all_at}
use Rattle.zio_stages.specs.OwnParts.{DoesThen, GoesOnAs}
use Rattle.zio_stages.specs.OwnReads.{IsBodyOn, IsOwnRead}
use Rattle.zio_stages.specs.declared.own_read.OwnRead.{OwnRead}
use Rattle.zio_stages.proofs.BehindLemmas.{does_nothing}
use Rattle.zio_stages.proofs.own_read.OwnRead.begin_next.Goals as goal

ok_or_same : {A E : Type 0} (res : Result A E) (P : OwnRead → Type 0) (old new : OwnRead) → OnOk res (P new) → OnErr res (new ≡ old) → P old → P new
ok_or_same (Ok a) P old new done same h = done
ok_or_same (Err e) P old new done same h = subst P (sym same) h

pub returns-then-is_some-clause-begins : goal.returns-then-is_some-clause-begins
returns-then-is_some-clause-begins c = λ t family tree front_asked front st goes h. does_nothing t st (IsOwnRead t c.args.self.now family tree front_asked front) h

pub begin_body-requires-clause-on : goal.begin_body-requires-clause-on
begin_body-requires-clause-on c = all_at (IsBodyOn c.args.tops.now) c.args.self.now.tree.read.bodies c.in-Body.body.n c.in-Body.body.bp c.requires (c.next.ensures.body c.in-Body.body c.in-Body.is)

pub returns-in-Body-clause-begins : goal.returns-in-Body-clause-begins
returns-in-Body-clause-begins c =
    let old = c.args.self.now in
    let P : OwnRead → Type 0 = λ o. (t : Terms) (family : List Child) (tree : Tree) (front_asked : List Task) (front : List Slot) (st : Stack) →
    GoesOnAs t c.args.tops.now (plan_tree tree) front st → IsOwnRead t old family tree front_asked front st → DoesThen t st [] (IsOwnRead t o family tree front_asked front) in
    ok_or_same c.begin_body.result P old c.begin_body.new.self c.begin_body.ensures.begins c.begin_body.ensures.err
    (λ t family tree front_asked front st goes h. does_nothing t st (IsOwnRead t old family tree front_asked front) h)
