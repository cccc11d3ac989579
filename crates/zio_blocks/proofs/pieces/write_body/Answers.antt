use Rattle.std.proofs.Common.{Some, refl, false, map, length, ap, subst, sym}
use Rattle.zio_blkptr.specs.Pointers.{FitsTypes}
use Rattle.zio_cksum.specs.Frames.{spots_of}
use Rattle.zio_gang.specs.Trees.{sizes_of}
use Rattle.zio_disks.specs.Disks.{LieOn}
use Rattle.zio_blocks.specs.Blocks.{terms_of}
use Rattle.zio_blocks.proofs.FoundLemmas.{entry_lies, made_pointer, whole_found}
use Rattle.zio_blocks.proofs.pieces.write_body.Goals as goal

pub write_piece-requires-clause-lies : goal.write_piece-requires-clause-lies
write_piece-requires-clause-lies g c =
    let w = terms_of c.args.setting.now c.args.writing.now in
    let whole = whole_found (sizes_of c.args.setting.now.tops) c.args.entry.now (length c.args.bytes.now) c.requires.entry c.requires.found c.requires.one c.requires.three c.requires.size in
    let made = made_pointer c.args.setting.now.tops w c.args.entry.now.places false c.args.bytes.now (length c.args.bytes.now) c.requires.tops whole refl c.requires.some c.requires.whole c.requires.most c.requires.birth (subst FitsTypes (c.pointer_to-pointer.ensures.pointer c.args.setting.now) c.pointer_to-pointer.ensures.types) in
    subst (λ ps. LieOn (map g.D.Disk.bytes c.args.disks.now) (length c.args.bytes.now) (spots_of c.args.setting.now ps)) (sym c.places_found.ensures)
    (entry_lies c.args.setting.now (map g.D.Disk.bytes c.args.disks.now) w c.args.entry.now.places false c.args.bytes.now (length c.args.bytes.now) c.requires.bears refl made)

pub returns-clause-good : goal.returns-clause-good
returns-clause-good g c =
    let w = terms_of c.args.setting.now c.args.writing.now in
    let whole = whole_found (sizes_of c.args.setting.now.tops) c.args.entry.now (length c.args.bytes.now) c.requires.entry c.requires.found c.requires.one c.requires.three c.requires.size in
    made_pointer c.args.setting.now.tops w c.args.entry.now.places false c.args.bytes.now (length c.args.bytes.now) c.requires.tops whole refl c.requires.some c.requires.whole c.requires.most c.requires.birth (subst FitsTypes (c.pointer_to-pointer.ensures.pointer c.args.setting.now) c.pointer_to-pointer.ensures.types)

pub returns-clause-made : goal.returns-clause-made
returns-clause-made g c = ap Some (c.pointer_to-pointer.ensures.pointer c.args.setting.now)
