use Rattle.std.proofs.Common.{◌≡◌, Some, refl, sym, ap, ◌∙◌}
use Rattle.zio_frames.specs.Frames.{Child}
use Rattle.zio_frames.specs.Moves.{heard_of}
use Rattle.zio_trace.specs.Tasks.{Got}
use Rattle.zio_stages.specs.declared.own_read.BodyIo.{BodyIo}
use Rattle.zio_stages.specs.declared.own_read.OwnRead.{OwnRead}
use Rattle.zio_stages.proofs.NodeIoLemmas.{same_child}
use Rattle.zio_stages.proofs.OwnReadLemmas.{body_over, not_awaited, over_goes, read_at, read_goes, still_heard, within_of}
use Rattle.zio_stages.proofs.own_read.OwnRead.arrive_leaf.Goals as goal

pub unreachable-requires : goal.unreachable-requires
unreachable-requires c = not_awaited c.args.tops.now c.args.self.now c.args.family.now c.args.child (sym c.take.ensures.value ∙ c.in-None.is) c.requires.over c.requires.awaited

pub hear_read-requires-clause-over : goal.hear_read-requires-clause-over
hear_read-requires-clause-over c = (body_over c.args.tops.now c.args.self.now c.in-Some.body c.args.family.now (sym c.take.ensures.value ∙ c.in-Some.is) c.requires.over).over

pub hear_read-requires-clause-sits : goal.hear_read-requires-clause-sits
hear_read-requires-clause-sits c = (body_over c.args.tops.now c.args.self.now c.in-Some.body c.args.family.now (sym c.take.ensures.value ∙ c.in-Some.is) c.requires.over).sits

pub returns-clause-over : goal.returns-clause-over
returns-clause-over c =
    let old = c.args.self.now in
    let b = c.in-Some.body in
    let next : BodyIo = record { number = b.number; io = c.hear_read.new.io } in
    over_goes c.args.tops.now old.tree b next c.args.family.now c.hear_read.new.family refl c.hear_read.ensures.over c.hear_read.ensures.sits
    (body_over c.args.tops.now old b c.args.family.now (sym c.take.ensures.value ∙ c.in-Some.is) c.requires.over)

pub returns-clause-heard : goal.returns-clause-heard
returns-clause-heard c = λ t tree front_asked front st x a tops found there h.
    let old = c.args.self.now in
    let b = c.in-Some.body in
    let is : old.body ≡ Some b = sym c.take.ensures.value ∙ c.in-Some.is in
    let family = c.args.family.now in
    let next : BodyIo = record { number = b.number; io = c.hear_read.new.io } in
    let new : OwnRead = record { tree = old.tree; body = Some next } in
    let within = within_of t old.body b _ st is h.body in
    let k = c.requires.awaited in
    let same : k.child ≡ x = same_child family st.children c.args.child k.child x h.children k.is there in
    read_goes t old new b next family c.hear_read.new.family tree front_asked front st (heard_of st c.args.child x (Got a)) is refl refl refl
    (still_heard st c.args.child k.number x (Got a) within.inner within.is (sym (ap (λ (d : Child). d.seat) same) ∙ k.seat))
    (c.hear_read.ensures.heard t st x a tops found there (read_at t old b family tree front_asked front st is h)) h
