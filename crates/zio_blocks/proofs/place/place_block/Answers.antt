use Rattle.std.proofs.Common.{length}
use Rattle.std.proofs.lemmas.Option.{IfSome_then}
use Rattle.zio_cksum.proofs.AllLemmas.{all_weaker}
use Rattle.zio_gang.specs.Trees.{sizes_of, tree_places, tree_pointers}
use Rattle.zio_disks.specs.Trees.{IsPlacedIn}
use Rattle.zio_disks.specs.Whole.{IsFitting}
use Rattle.zio_blocks.specs.Blocks.{terms_of}
use Rattle.zio_blocks.specs.Choosers.{given_since, taken_by_all}
use Rattle.zio_blocks.specs.Parts.{IsMade}
use Rattle.zio_blocks.proofs.BlockLemmas.{block_laid, block_nowhere, block_told}
use Rattle.zio_blocks.proofs.OpenLemmas.{found_open}
use Rattle.zio_blocks.proofs.place.place_block.Goals as goal

pub returns-clause-told : goal.returns-clause-told
returns-clause-told g c = λ images tell.
    block_told g.D.Disk.image (terms_of c.args.setting.now c.args.writing.now) c.args.bytes.now images c.in_ok-part.part c.new-heads.result.items c.place_part.new.heads.items c.block_of.result _ c.place_part.new.disks
    c.new-heads.ensures.items c.block_of.ensures.error c.block_of.ensures.tree (c.in_ok-part.ensures.told images tell)

pub returns-clause-keys : goal.returns-clause-keys
returns-clause-keys g c = c.place_part.ensures.keys.once

pub returns-clause-places : goal.returns-clause-places
returns-clause-places g c =
    IfSome_then c.block_of.result.tree
    (block_laid (sizes_of c.args.setting.now.tops) (length c.args.bytes.now) c.in_ok-part.part c.new-heads.result.items c.place_part.new.heads.items
    (taken_by_all (given_since (g.C.Chooser.given c.args.chooser.now) (g.C.Chooser.given c.place_part.new.chooser))) c.block_of.result
    c.new-heads.ensures.items c.block_of.ensures.error c.block_of.ensures.tree c.in_ok-part.ensures.laid)
    (λ tree h. h.places)

pub returns-clause-unused : goal.returns-clause-unused
returns-clause-unused g c =
    IfSome_then c.block_of.result.tree
    (block_laid (sizes_of c.args.setting.now.tops) (length c.args.bytes.now) c.in_ok-part.part c.new-heads.result.items c.place_part.new.heads.items
    (taken_by_all (given_since (g.C.Chooser.given c.args.chooser.now) (g.C.Chooser.given c.place_part.new.chooser))) c.block_of.result
    c.new-heads.ensures.items c.block_of.ensures.error c.block_of.ensures.tree c.in_ok-part.ensures.laid)
    (λ tree h. found_open (g.C.Chooser.sizes c.args.chooser.now) (g.C.Chooser.used c.args.chooser.now)
    (given_since (g.C.Chooser.given c.args.chooser.now) (g.C.Chooser.given c.place_part.new.chooser)) (tree_places tree)
    (g.met.C.Chooser.lawful_found _ _ _ c.place_part.ensures.asks.asks.lawful) (g.met.C.Chooser.lawful_open _ _ _ c.place_part.ensures.asks.asks.lawful) h.places)

pub returns-clause-nowhere : goal.returns-clause-nowhere
returns-clause-nowhere g c = λ none.
    block_nowhere (sizes_of c.args.setting.now.tops) (length c.args.bytes.now) c.in_ok-part.part _ c.place_part.new.heads.items
    (taken_by_all (given_since (g.C.Chooser.given c.args.chooser.now) (g.C.Chooser.given c.place_part.new.chooser))) c.block_of.result
    c.block_of.ensures.error c.block_of.ensures.tree c.in_ok-part.ensures.laid none

pub returns-clause-inside : goal.returns-clause-inside
returns-clause-inside g c =
    IfSome_then c.block_of.result.tree
    (block_laid (sizes_of c.args.setting.now.tops) (length c.args.bytes.now) c.in_ok-part.part c.new-heads.result.items c.place_part.new.heads.items
    (taken_by_all (given_since (g.C.Chooser.given c.args.chooser.now) (g.C.Chooser.given c.place_part.new.chooser))) c.block_of.result
    c.new-heads.ensures.items c.block_of.ensures.error c.block_of.ensures.tree c.in_ok-part.ensures.laid)
    (λ tree h. all_weaker (IsMade (sizes_of c.args.setting.now.tops)) (IsPlacedIn (sizes_of c.args.setting.now.tops)) (tree_pointers tree) (λ bp made. record { ok = made.ok; inside = made.inside }) h.made)

pub returns-clause-fitting : goal.returns-clause-fitting
returns-clause-fitting g c =
    IfSome_then c.block_of.result.tree
    (block_laid (sizes_of c.args.setting.now.tops) (length c.args.bytes.now) c.in_ok-part.part c.new-heads.result.items c.place_part.new.heads.items
    (taken_by_all (given_since (g.C.Chooser.given c.args.chooser.now) (g.C.Chooser.given c.place_part.new.chooser))) c.block_of.result
    c.new-heads.ensures.items c.block_of.ensures.error c.block_of.ensures.tree c.in_ok-part.ensures.laid)
    (λ tree h. all_weaker (IsMade (sizes_of c.args.setting.now.tops)) (IsFitting (sizes_of c.args.setting.now.tops)) (tree_pointers tree) (λ bp made. made.fitting) h.made)

pub returns-clause-size : goal.returns-clause-size
returns-clause-size g c =
    IfSome_then c.block_of.result.tree
    (block_laid (sizes_of c.args.setting.now.tops) (length c.args.bytes.now) c.in_ok-part.part c.new-heads.result.items c.place_part.new.heads.items
    (taken_by_all (given_since (g.C.Chooser.given c.args.chooser.now) (g.C.Chooser.given c.place_part.new.chooser))) c.block_of.result
    c.new-heads.ensures.items c.block_of.ensures.error c.block_of.ensures.tree c.in_ok-part.ensures.laid)
    (λ tree h. h.size)

pub returns-clause-whole : goal.returns-clause-whole
returns-clause-whole g c = λ low.
    IfSome_then c.block_of.result.tree
    (block_laid (sizes_of c.args.setting.now.tops) (length c.args.bytes.now) c.in_ok-part.part c.new-heads.result.items c.place_part.new.heads.items
    (taken_by_all (given_since (g.C.Chooser.given c.args.chooser.now) (g.C.Chooser.given c.place_part.new.chooser))) c.block_of.result
    c.new-heads.ensures.items c.block_of.ensures.error c.block_of.ensures.tree c.in_ok-part.ensures.laid)
    (λ tree h. h.whole low)
