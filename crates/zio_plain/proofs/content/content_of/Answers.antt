use Rattle.std.proofs.Common.{◌∙◌, ap, sym, subst}
use Rattle.std.specs.List.{AllByRecursion}
use Rattle.zio_script.specs.Bodies.{body_of}
use Rattle.zio_script.specs.Whys.{body_len}
use Rattle.zio_gang.specs.Writes.{content_of}
use Rattle.zio_gang.specs.Pointers.{IsNoneOrValid}
use Rattle.zio_plain.proofs.ContentLemmas.{pointers_valid, sized}
use Rattle.zio_plain.proofs.content.content_of.Goals as goal

pub content-requires : goal.content-requires
content-requires c =
    subst (AllByRecursion IsNoneOrValid) (sym (c.as_slice.ensures ∙ c.in_ok-pointers.ensures)) (pointers_valid c.args.children.now c.requires)

pub returns-clause-content : goal.returns-clause-content
returns-clause-content c =
    c.in_ok-bytes.ensures.content ∙ ap (λ ps. content_of ps (body_of c.args.body.now)) (c.as_slice.ensures ∙ c.in_ok-pointers.ensures)

pub returns-clause-size : goal.returns-clause-size
returns-clause-size c =
    sized _ _ c.args.children.now (body_len c.args.body.now) (c.as_slice.ensures ∙ c.in_ok-pointers.ensures) c.in_ok-bytes.ensures.size
