use Rattle.std.proofs.Common.{◌++◌, sym, subst}
use Rattle.std.specs.Prelude.{List}
use Rattle.zio_types.specs.declared.place.Top.{Top}
use Rattle.zio_cksum.proofs.AllLemmas.{all_append}
use Rattle.zio_exchange.specs.SpaceCalls.{IsAsk}
use Rattle.zio_stages.specs.PartWorks.{IsPartOver}
use Rattle.zio_stages.proofs.PartNodeLemmas.{asks_twice}
use Rattle.zio_stages.proofs.part_work.PartWork.dva_allocate.Goals as goal

pub returns-in_default-clause-does : goal.returns-in_default-clause-does
returns-in_default-clause-does g c = c.place.ensures.does

pub returns-clause-does : goal.returns-clause-does
returns-clause-does g c =
    let p = c.place.ensures.does in
    let q = c.place-2.ensures.does in (
      p.0 ++ q.0,
      g.met.S.Services.made_then c.args.services.now c.place.new.services c.place-2.new.services p.0 q.0 p.1 q.1,
      λ t f o front family st is h over.
          asks_twice t st p.0 q.0 _ _ _ (p.2 t f o front family st is h over)
          (λ mid a. q.2 t f o front family mid is a (subst (λ (ts : List Top). IsPartOver ts c.place.new.self family) (sym c.place.ensures.tops) (c.place.ensures.over family over)))
          (λ mid b. b),
      all_append IsAsk p.0 q.0 p.3 q.3,
    )
