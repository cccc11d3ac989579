use Rattle.std.proofs.Common.{ap, refl, sym, ◌∙◌, inl}
use Rattle.std.specs.List.{list_any}
use Rattle.zio_types.specs.declared.request.ChildKind.TheVariants.{Gang}
use Rattle.zio_types.specs.declared.request.Phase.TheVariants.{Done}
use Rattle.zio_masks.specs.declared.stage.Stage.TheVariants.{GangAssemble}
use Rattle.zio_stages.specs.NodeChildren.{is_awaited}
use Rattle.zio_nodes.specs.Told.{is_told}
use Rattle.zio_nodes.proofs.BoundLemmas.{any_counts}
use Rattle.zio_nodes.proofs.HeadsLemmas.{walk_goes, walk_leads}
use Rattle.zio_nodes.proofs.StageAllows.{stalls_so}
use Rattle.zio_nodes.proofs.StageLemmas.{walk_assembled}
use Rattle.zio_nodes.proofs.Stalling.{owed_in}
use Rattle.zio_nodes.proofs.heads_at.HeadsAt.gang_assemble.Goals as goal

pub returns-in-Wait-clause-moves : goal.returns-in-Wait-clause-moves
returns-in-Wait-clause-moves c = λ t st now. record {
  stays = record { is = now.is; told = refl; gave_same = refl; no_calls = refl };
  owing = any_counts Gang st.children (c.in-Wait.ensures.waits refl t st now.seated now.is);
}

pub returns-in_default-clause-moves : goal.returns-in_default-clause-moves
returns-in_default-clause-moves c = λ t st now.
    walk_goes t st c.args.self.now _ now.is
    (ap is_told (walk_assembled c.with_gang.result c.next-self.result c.with_gang.ensures.stages c.next-self.ensures) ∙ sym (ap is_told c.requires.stage))

pub returns-in_default-clause-stages : goal.returns-in_default-clause-stages
returns-in_default-clause-stages c =
    inl (walk_leads c.args.self.now c.with_gang.result GangAssemble c.next-self.result c.requires.stage c.with_gang.ensures.stages c.next-self.ensures)

pub returns-in-Wait-clause-stages : goal.returns-in-Wait-clause-stages
returns-in-Wait-clause-stages c =
    (refl, stalls_so c.args.self.now.stage GangAssemble Gang Done c.requires.stage refl)

pub returns-in-Some-clause-moves : goal.returns-in-Some-clause-moves
returns-in-Some-clause-moves c = λ t st now.
    let owed = (c.gang_stall.ensures.some c.in-Some.kind c.in-Some.phase c.in-Some.is).1 in
    record {
      stays = record { is = now.is; told = refl; gave_same = refl; no_calls = refl };
      owing = owed_in c.in-Some.kind c.in-Some.phase c.args.self.now.node.family st.children now.is.children
          (ap (list_any (is_awaited c.in-Some.kind c.in-Some.phase)) (sym c.family.ensures) ∙ owed);
    }
