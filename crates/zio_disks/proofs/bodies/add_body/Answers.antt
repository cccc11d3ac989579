use Rattle.std.proofs.Common.{◌≡◌, ◌++◌, List, ℕ, Ok, Err, Result, subst, sym, ap, ◌∙◌}
use Rattle.std.proofs.lemmas.List.{append-nil}
use Rattle.zio_types.specs.declared.error.Errno.{Errno}
use Rattle.zio_blkptr.specs.Pointers.{places_of}
use Rattle.zio_cksum.specs.Blocks.{Read, good_body, read_block}
use Rattle.std.proofs.Common.{true}
use Rattle.zio_disks.specs.Disks.{Tell}
use Rattle.zio_disks.specs.Trees.{bytes_in, errors_in}
use Rattle.zio_disks.proofs.DiskLemmas.{handles_after}
use Rattle.zio_disks.proofs.TreeLemmas.{on_if}
use Rattle.zio_disks.proofs.bodies.add_body.Goals as goal

pub returns-in-Ok-clause-handled : goal.returns-in-Ok-clause-handled
returns-in-Ok-clause-handled g c = handles_after c.append.result c.append.ensures.err c.in_ok-part.ensures.handled

pub returns-in-Err-clause-handled : goal.returns-in-Err-clause-handled
returns-in-Err-clause-handled g c = handles_after c.note_error.result c.note_error.ensures.err c.in_ok-part.ensures.handled

pub returns-in-Ok-clause-told : goal.returns-in-Ok-clause-told
returns-in-Ok-clause-told g c =
    on_if c.append.result c.append.ensures.ok
    (λ added x images tell.
    (let read : Read = read_block c.args.setting.now true (good_body c.args.bp.now) images c.args.bp.now.size (places_of c.args.bp.now) in
    let told = c.in_ok-part.ensures.told images tell in
    let is : Ok c.in-Ok.part ≡ read.found = sym c.in-Ok.is ∙ told.0 in
    subst (λ (f : Result (List ℕ) Errno). (c.args.errors.now ≡ c.args.errors.now ++ errors_in f) × (c.append.new.bytes ≡ c.args.bytes.now ++ bytes_in f) × Tell g.D.Disk.image c.read_body.new.disks read.images) is
    (sym (append-nil c.args.errors.now), added ∙ ap (λ p. c.args.bytes.now ++ p) c.as_slice.ensures, told.1)))

pub returns-in-Err-clause-told : goal.returns-in-Err-clause-told
returns-in-Err-clause-told g c =
    on_if c.note_error.result c.note_error.ensures.ok
    (λ added x images tell.
    (let read : Read = read_block c.args.setting.now true (good_body c.args.bp.now) images c.args.bp.now.size (places_of c.args.bp.now) in
    let told = c.in_ok-part.ensures.told images tell in
    let is : Err c.in-Err.error ≡ read.found = sym c.in-Err.is ∙ told.0 in
    subst (λ (f : Result (List ℕ) Errno). (c.note_error.new.errors ≡ c.args.errors.now ++ errors_in f) × (c.args.bytes.now ≡ c.args.bytes.now ++ bytes_in f) × Tell g.D.Disk.image c.read_body.new.disks read.images) is
    (added, sym (append-nil c.args.bytes.now), told.1)))
