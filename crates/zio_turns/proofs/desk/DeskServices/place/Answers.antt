use Rattle.std.proofs.Common.{ap, ◌∙◌}
use Rattle.zio_gang.specs.Trees.{sizes_of}
use Rattle.zio_places.specs.Spaces.{SpaceState, used}
use Rattle.zio_turns.specs.Desks.{bare}
use Rattle.zio_turns.proofs.DeskCalls.{lawful_answers, placed_made}
use Rattle.zio_turns.proofs.desk.DeskServices.place.Goals as goal

pub returns-clause-answers : goal.returns-clause-answers
returns-clause-answers c =
    lawful_answers c.reserve.new.self.sizes (sizes_of c.args.self.now.tops) (used c.reserve.new.self) c.take.result
    (ap (λ (s : SpaceState). s.sizes) c.in_ok-reserve.ensures.ok ∙ c.args.self.now.sizes) c.take.ensures.lawful

pub returns-clause-made : goal.returns-clause-made
returns-clause-made c =
    placed_made c.args.self.now.space c.reserve.new.self c.take.new.self c.take.result (ap bare c.in_ok-reserve.ensures.ok)
    c.take.ensures.lawful c.take.ensures.live c.take.ensures.pending c.take.ensures.entries c.take.ensures.sizes
