use Rattle.std.proofs.Common.{◌≡◌, ◌-◌, Some, slice_get, set, ap, refl, ◌∙◌, subst, List, length, length-set}
use Rattle.zio_trace.specs.Leaves.{Answer}
use Rattle.zio_trace.specs.Tasks.{Got}
use Rattle.zio_frames.specs.Frames.{Child}
use Rattle.zio_frames.specs.Moves.{child_ended}
use Rattle.zio_frames.specs.Slots.{Heard}
use Rattle.zio_parts.specs.HeadWalks.{no_walk}
use Rattle.zio_parts.specs.TreeReads.{Reading}
use Rattle.zio_stages.specs.OwnReads.{IsBeside}
use Rattle.zio_stages.specs.TreeWorks.{IsTreeWork}
use Rattle.zio_stages.specs.declared.own_read.OwnRead.{OwnRead}
use Rattle.zio_stages.proofs.NodeIoLemmas.{ended_is}
use Rattle.zio_stages.proofs.OwnGangLemmas.{hears_read, still_out}
use Rattle.zio_stages.proofs.RequestReadMoves.{own_over_marked}
use Rattle.zio_stages.proofs.own_read.OwnRead.arrive_found.Goals as goal

pub hear_body-requires-clause-behind : goal.hear_body-requires-clause-behind
hear_body-requires-clause-behind c = c.requires.out.behind

pub hear_body-requires-clause-out : goal.hear_body-requires-clause-out
hear_body-requires-clause-out c = (no_walk, c.requires.out.out no_walk)

pub returns-clause-heard : goal.returns-clause-heard
returns-clause-heard c = λ t tree front_asked before st x a found there seat h.
    let old = c.args.self.now in
    let family = c.args.family.now in
    let new : OwnRead = record { tree = c.hear_body.new.self; body = old.body } in
    let mine : slice_get family c.args.child ≡ Some x = ap (λ (cs : List Child). slice_get cs c.args.child) h.children ∙ there in
    hears_read t old new family c.end.new.self tree front_asked before st c.args.child c.args.n x (Got a) refl there seat
    (ended_is family c.end.new.self c.args.child x mine c.end.ensures) h
    (subst (λ (r : Answer). IsTreeWork new.tree tree h.asked (set h.begun c.args.n (Heard (Got r)))) found (c.hear_body.ensures.heard tree h.asked h.begun h.work))

pub returns-clause-over : goal.returns-clause-over
returns-clause-over c = λ tops over.
    let old = c.args.self.now in
    own_over_marked tops old.tree c.hear_body.new.self old.body c.args.family.now c.end.new.self c.args.child child_ended (λ d. refl) (λ d e. absurd (cc)) c.requires.child c.end.ensures
    (λ b is out. still_out old.tree c.hear_body.new.self c.args.n b.number c.args.found c.requires.out.behind (subst (IsBeside c.args.n) is c.requires.beside) c.hear_body.ensures.read out) over

pub returns-clause-counts : goal.returns-clause-counts
returns-clause-counts c =
    let old = c.args.self.now.tree.read in
    record {
      counts = record {
        phase = ap (λ (r : Reading). r.phase) c.hear_body.ensures.read;
        bodies = c.hear_body.ensures.bodies;
        handed = ap (λ (r : Reading). length r.results) c.hear_body.ensures.read ∙ length-set old.results (c.args.n - 1) (Some c.args.found);
      };
      body = refl;
    }
