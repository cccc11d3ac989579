use Rattle.std.proofs.Common.{◌≡◌, List, ap, refl, map, subst, ◌∙◌}
use Rattle.std.proofs.lemmas.List.{with_items_is}
use Rattle.zio_graph.proofs.Grounds.{flushed_ready}
use Rattle.zio_graph.proofs.flush.flush_grounds.Goals as goal

pub returns-clause-ready : goal.returns-clause-ready
returns-clause-ready g c =
    let bytes = g.D.Disk.bytes in
    let sizes : map bytes c.sync_all.new.disks ≡ map bytes c.args.grounds.now.disks.items =
    subst (λ (ds : List _). map bytes c.sync_all.new.disks ≡ map bytes ds) c.deref_mut.ensures.value c.sync_all.ensures.same.sizes in
    let written = with_items_is c.args.grounds.now.disks c.sync_all.new.disks (c.sync_all.auto.disks ∙ c.deref_mut.ensures.len) in
    flushed_ready bytes c.args.grounds.now _ (record { setting = refl; sizes = ap (map bytes) written ∙ sizes; desk = refl; queues = refl })
