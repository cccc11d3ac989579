use Rattle.std.proofs.Common.{◌≡◌, ap, Some, subst, sym, ◌∙◌}
use Rattle.std.proofs.lemmas.Option.{slice_get_within}
use Rattle.zio_frames.specs.Frames.{Child}
use Rattle.zio_stages.specs.ReadIos.{IsReadOutIn}
use Rattle.zio_stages.specs.NodeChildren.{layer_seat}
use Rattle.zio_stages.specs.NodeIos.{SitsOn}
use Rattle.zio_stages.proofs.NodeIoLemmas.{ended_is, same_child, seat_there, sits_heard}
use Rattle.zio_stages.proofs.NodeIoMoves.{read_hears_of}
use Rattle.zio_stages.proofs.node_io.hear_read.Goals as goal

pub hear-requires-clause-out : goal.hear-requires-clause-out
hear-requires-clause-out c =
    let k = c.requires.awaited in
    let at : c.number-n.result ≡ k.number = c.number-n.ensures c.args.layer k.number (seat_there c.args.family.now c.args.child k.child _ k.is c.seat.ensures ∙ k.seat) in
    subst (IsReadOutIn c.args.io.now) (sym at) (c.requires.sits.outs c.args.child k.number k.child k.is k.goes k.seat)

pub end-requires : goal.end-requires
end-requires c = slice_get_within c.args.family.now c.args.child c.requires.awaited.child c.requires.awaited.is

pub returns-clause-heard : goal.returns-clause-heard
returns-clause-heard c = λ t st d a e found is h.
    let k = c.requires.awaited in
    let at : c.number-n.result ≡ k.number = c.number-n.ensures c.args.layer k.number (seat_there c.args.family.now c.args.child k.child _ k.is c.seat.ensures ∙ k.seat) in
    let same : k.child ≡ d = same_child c.args.family.now st.children c.args.child k.child d h.children k.is is in
    read_hears_of t c.args.layer c.args.io.now c.hear.new.self c.args.family.now c.end.new.self st c.args.child c.number-n.result d a h
    (sym (ap (λ (x : Child). x.seat) same) ∙ k.seat ∙ ap (layer_seat c.args.layer) (sym at))
    (ended_is c.args.family.now c.end.new.self c.args.child d (k.is ∙ ap (λ (x : Child). Some x) same) c.end.ensures)
    (c.hear.ensures.heard t _ a e found h.part)

pub returns-clause-sits : goal.returns-clause-sits
returns-clause-sits c =
    let k = c.requires.awaited in
    let at : c.number-n.result ≡ k.number = c.number-n.ensures c.args.layer k.number (seat_there c.args.family.now c.args.child k.child _ k.is c.seat.ensures ∙ k.seat) in
    subst (SitsOn c.args.layer (IsReadOutIn c.hear.new.self)) (sym (ended_is c.args.family.now c.end.new.self c.args.child k.child k.is c.end.ensures))
    (sits_heard c.args.layer (IsReadOutIn c.args.io.now) (IsReadOutIn c.hear.new.self) k.number c.args.family.now c.args.child k.child k.is k.goes k.seat
    (λ m ne. c.hear.ensures.others m (λ e. ne (e ∙ at))) c.requires.sits)
