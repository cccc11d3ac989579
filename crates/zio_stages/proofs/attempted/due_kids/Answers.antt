use Rattle.std.proofs.Common.{◌≡◌, ◌∙◌, sym, ap, subst, reverse}
use Rattle.zio_children.specs.RequestKids.{RiseFrom, fresh_kids}
use Rattle.zio_exchange.specs.Wholes.{roots_in}
use Rattle.zio_stages.proofs.KidTreeLemmas.{roots_reverse}
use Rattle.zio_stages.proofs.attempted.due_kids.Goals as goal

pub new-requires : goal.new-requires
new-requires c =
    let numbers : c.deref.result.now ≡ roots_in (reverse c.args.due.now) =
    c.deref.ensures.value ∙ c.reverse.ensures.items ∙ ap reverse c.in_ok-numbers.ensures ∙ sym (roots_reverse c.args.due.now) in
    subst (RiseFrom 0) (sym numbers) c.requires

pub returns-clause-kids : goal.returns-clause-kids
returns-clause-kids c =
    let numbers : c.deref.result.now ≡ roots_in (reverse c.args.due.now) =
    c.deref.ensures.value ∙ c.reverse.ensures.items ∙ ap reverse c.in_ok-numbers.ensures ∙ sym (roots_reverse c.args.due.now) in
    let kept : c.from_vec.result ≡ c.args.kept.now = c.from_vec.ensures ∙ c.in_ok-kept.ensures.items in
    c.in_ok-kids.ensures.fresh ∙ (λ i. fresh_kids (numbers i) (kept i))
