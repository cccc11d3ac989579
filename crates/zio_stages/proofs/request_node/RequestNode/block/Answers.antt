use Rattle.std.proofs.Common.{◌+◌, length, sym, ap, subst, ◌∙◌}
use Rattle.std.specs.List.{list_all}
use Rattle.zio_children.specs.RequestKids.{KidsUnderWay, is_told, pointers_of}
use Rattle.zio_exchange.specs.Waits.{pending_of}
use Rattle.zio_stages.specs.KidPointers.{HaveValidPointers}
use Rattle.zio_stages.specs.OwnWrites.{IsBlockAt}
use Rattle.zio_stages.specs.WrittenBlocks.{IsSoundWrite}
use Rattle.zio_stages.proofs.request_node.RequestNode.block.Goals as goal

pub block_of-requires : goal.block_of-requires
block_of-requires c =
    let r = c.args.self.now in
    let same = sym c.kids-kids.ensures in
    record {
      told = ap (λ (k : KidsUnderWay). list_all is_told k.kids) c.kids-kids.ensures ∙ c.requires.told.told;
      valid = subst HaveValidPointers same c.requires.valid;
      sound = subst (λ (x : KidsUnderWay). IsSoundWrite (length x.kids + length x.kept) r.waiting) same c.requires.sound;
    }

pub returns : goal.returns
returns c =
    let r = c.args.self.now in
    let w = c.in_ok-work.ensures in
    record {
      told = c.requires.told;
      is = λ t f family st round idle.
          subst (λ (k : KidsUnderWay). IsBlockAt t c.in_ok-work.work family f r.attempt (pending_of r.waiting) (pointers_of k) st) c.kids-kids.ensures
          (w.fresh t f family st round idle);
      over = w.over;
      none = w.io;
    }
