use Rattle.std.proofs.Common.{◌≡◌, subst, sym, true, ◌∙◌}
use Rattle.zio_trace.specs.Tasks.{Value}
use Rattle.zio_frames.specs.Moves.{heard_of}
use Rattle.zio_exchange.specs.declared.outcome.Outcome.TheVariants.{Found}
use Rattle.zio_stages.proofs.OutMoves.{read_idle}
use Rattle.zio_nodes.specs.CopiesAts.{IsCopiesAt}
use Rattle.zio_nodes.specs.declared.copies_at.CopiesAt.{CopiesAt}
use Rattle.zio_nodes.proofs.CopiesLemmas.{answers_set, awaited, heard_stands, hears_answer}
use Rattle.zio_nodes.proofs.copies_at.CopiesAt.arrive.Goals as goal

pub unreachable-requires : goal.unreachable-requires
unreachable-requires c =
    let k = c.requires.awaited in
    let a = hears_answer k.terms c.args.tops.now c.args.self.now k.stack c.args.child k.child k.op c.args.outcome k.value k.hears in
    c.in_default.not-Found a.0 a.1

pub arrive-requires-clause-awaited : goal.arrive-requires-clause-awaited
arrive-requires-clause-awaited c =
    let k = c.requires.awaited in
    awaited k.terms c.args.self.now k.stack c.args.child k.child k.hears.now.is k.hears.now.seated k.hears.there k.hears.goes

pub returns-clause-heard : goal.returns-clause-heard
returns-clause-heard c = λ t st d op v h.
    let a = hears_answer t c.args.tops.now c.args.self.now st c.args.child d op c.args.outcome v h in
    let same : Found c.in-Found.found ≡ Found a.0 = sym c.in-Found.is ∙ a.1 in
    let found : c.in-Found.found ≡ a.0 = cc in
    let at : CopiesAt = record { node = c.arrive.new.self; stage = c.args.self.now.stage; is_due = true } in
    subst (λ (u : Value). IsCopiesAt t at (heard_of st c.args.child d u)) (sym a.2)
    (record {
      read = c.arrive.ensures.heard t st d a.0 h.now.tops_are found h.there h.now.is.read;
      answers = answers_set st d.seat a.0 h.now.is.answers;
    })

pub returns-clause-over : goal.returns-clause-over
returns-clause-over c =
    let at = c.args.self.now in
    let k = c.requires.awaited in
    let child = awaited k.terms at k.stack c.args.child k.child k.hears.now.is k.hears.now.seated k.hears.there k.hears.goes in
    let out = c.requires.over.over.sits.outs c.args.child child.number child.child child.is child.goes child.seat in
    record {
      over = c.arrive.ensures.over;
      stands = heard_stands c.args.tops.now at.stage at.is_due at.node.io c.arrive.new.self.io c.requires.over.stands
          (λ due. read_idle c.args.tops.now at.node.io due child.number out);
    }
