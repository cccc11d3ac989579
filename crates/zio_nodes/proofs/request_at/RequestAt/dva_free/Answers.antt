use Rattle.std.proofs.Common.{inl, lit≤, refl}
use Rattle.zio_masks.specs.declared.stage.Stage.TheVariants.{DvaFree, Ready}
use Rattle.zio_nodes.proofs.OwnOver.{free_stands, is_free}
use Rattle.zio_nodes.proofs.OwnStages.{free_given}
use Rattle.zio_nodes.proofs.StageLeads.{free_leads, gang_of, last_kept}
use Rattle.zio_nodes.proofs.request_at.RequestAt.dva_free.Goals as goal

pub give_places-requires : goal.give_places-requires
give_places-requires g c =
    let at = c.args.self.now in
    let work = is_free at.node.waiting.request.work c.requires.kind in
    let tops = g.S.Services.tops c.args.services.now in
    let now = free_stands tops at DvaFree work c.requires.over c.requires.stage (λ e. cc) in
    let to = free_given c.next.result c.next.ensures in
    record {
      over = c.requires.over;
      kind = c.requires.kind;
      stage = inl c.requires.stage;
      walked = now.1;
      frees = now.0;
      failed = now.2;
      to = to;
      leads = free_leads at DvaFree c.next.result c.requires.kind c.requires.stage (lit≤ tt) (last_kept (gang_of at) c.next.result Ready to refl) c.next.ensures;
    }
