use Rattle.std.proofs.Common.{◌≤◌, ◌+◌, ◌*◌, length, refl, sym, ap, ◌∙◌, subst}
use Rattle.std.specs.List.{AllByRecursion}
use Rattle.zio_script.specs.declared.limits.TheConstants.{POINTER_SIZE}
use Rattle.zio_script.specs.Bodies.{body_of}
use Rattle.zio_script.specs.Whys.{body_len, rounded_up}
use Rattle.zio_gang.specs.Writes.{content_of}
use Rattle.zio_children.specs.RequestKids.{pointers_of}
use Rattle.zio_gang.specs.Pointers.{IsNoneOrValid}
use Rattle.zio_exchange.specs.Waits.{pending_of}
use Rattle.zio_stages.specs.WrittenBlocks.{whole_part}
use Rattle.zio_stages.proofs.KidPointerLemmas.{count_pointers, valid_pointers}
use Rattle.zio_stages.proofs.OwnWriteBlock.{block_bytes, not_write, same_write}
use Rattle.zio_stages.proofs.own_write.block_of.Goals as goal

pub unreachable-requires : goal.unreachable-requires
unreachable-requires c = not_write c.args.waiting.now.request.work c.requires.sound.kind c.in_default.not-Write

pub content-requires : goal.content-requires
content-requires c =
    subst (AllByRecursion IsNoneOrValid) (sym (c.as_slice.ensures ∙ c.in_ok-pointers.ensures)) (valid_pointers c.args.kids.now c.requires.valid)

pub new-requires : goal.new-requires
new-requires c =
    let kids = c.args.kids.now in
    let body = c.in-Write.body in
    let count = ap length (c.as_slice.ensures ∙ c.in_ok-pointers.ensures) ∙ count_pointers kids in
    let size = c.in_ok-bytes.ensures.size ∙ ap (λ n. rounded_up (body_len body + POINTER_SIZE * n)) count in
    let b = block_bytes c.args.waiting.now.request.work (length c.in_ok-bytes.bytes) (length kids.kids + length kids.kept) _ c.in-Write.sum c.in-Write.copies c.in-Write.prio body
    c.in-Write.is c.requires.sound.range c.requires.sound.size size in
    record {
      some = b.some;
      whole = b.whole;
      most = b.most;
      deep = b.deep;
      one = b.one;
      three = b.three;
      born = subst (λ n. 1 ≤ n) (sym c.from.ensures) c.requires.sound.born;
    }

pub returns-clause-fresh : goal.returns-clause-fresh
returns-clause-fresh c = λ t f family st round idle.
    let kids = c.args.kids.now in
    let p = pending_of c.args.waiting.now in
    let body = c.in-Write.body in
    let bytes = c.in_ok-bytes.ensures.content ∙ ap (λ ps. content_of ps (body_of body)) (c.as_slice.ensures ∙ c.in_ok-pointers.ensures) in
    let part = whole_part c.args.attempt p c.in-Write.sum c.in-Write.copies (content_of (pointers_of kids) (body_of body)) in
    record {
      part = part;
      block = record { name = _; sum = c.in-Write.sum; copies = c.in-Write.copies; prio = c.in-Write.prio; body = body; work = c.in-Write.is; part = refl };
      at = c.new.ensures.fresh t part f family st
          (same_write t p c.args.round c.args.attempt c.in-Write.sum c.in-Write.copies c.from.result round c.from.ensures)
          refl (sym bytes) refl idle.op idle.alone idle.behind idle.children;
    }
