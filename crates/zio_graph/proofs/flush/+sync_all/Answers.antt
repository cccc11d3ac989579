use Rattle.std.proofs.Common.{◌≡◌, ◌∷◌, rules}
use Rattle.zio_graph.proofs.StableLemmas.{first_keeps, first_same, first_synced}
use Rattle.zio_graph.proofs.flush.+sync_all.Goals as goal

pub returns-in_err-sync-clause-images : goal.returns-in_err-sync-clause-images
returns-in_err-sync-clause-images g t c =
    let parts : c.args.disks.now ≡ c.in-Some.disk.now ∷ c.in-Some.rest.now = search rules in
    rw parts (first_keeps g.D.Disk.image c.in-Some.disk.now c.sync.new.self c.in-Some.rest.now c.sync.ensures.image)

pub returns-in_err-sync-clause-same : goal.returns-in_err-sync-clause-same
returns-in_err-sync-clause-same g t c =
    let parts : c.args.disks.now ≡ c.in-Some.disk.now ∷ c.in-Some.rest.now = search rules in
    rw parts
    (first_same g.D.Disk.bytes g.D.Disk.faults g.D.Disk.faults_at_fetch g.D.Disk.home g.D.Disk.image g.D.Disk.sound
    c.in-Some.disk.now c.sync.new.self c.in-Some.rest.now c.sync.ensures.bytes c.sync.ensures.at_fetch c.sync.ensures.home
    c.sync.ensures.image c.sync.ensures.sound)

pub returns-in_err-sync-clause-synced : goal.returns-in_err-sync-clause-synced
returns-in_err-sync-clause-synced g t c =
    let parts : c.args.disks.now ≡ c.in-Some.disk.now ∷ c.in-Some.rest.now = search rules in
    rw parts
    (first_synced g.D.Disk.went g.D.Disk.moment g.D.Disk.left_since g.D.Disk.image c.in-Some.disk.now c.sync.new.self c.in-Some.rest.now
    (record { later = c.sync.ensures.later; crash = c.sync.ensures.crash; earlier = c.sync.ensures.earlier }))
