use Rattle.std.proofs.Common.{◌≡◌, ℕ, List, [], refl, ap, ◌∙◌, rules, false, ◌||◌}
use Rattle.zio_script.specs.Builders.{script_of}
use Rattle.zio_script.specs.Whys.{all_leaves, is_among}
use Rattle.zio_script.proofs.BuilderLemmas.{kept_top}
use Rattle.zio_script.proofs.builder.Builder.add_top.Goals as goal

pub returns-clause-kept : goal.returns-clause-kept
returns-clause-kept c =
    let leaves : c.add_leaves.new.list ≡ c.as_slice-words.result.now = search rules in
    let none : c.args.self.now.items ≡ [] = search rules in
    let once : c.repeats_leaf.result ≡ false = c.if-repeats_leaf.false in
    kept_top c.args.self.now c.push.new.self _ c.repeats_leaf.new.seen c.requires none c.in_ok-push.ensures.ok
    (λ n low. c.repeats_leaf.ensures.seen (all_leaves (script_of c.args.self.now)) c.requires.seen once n low
    ∙ ap (λ (ls : List ℕ). is_among (all_leaves (script_of c.args.self.now)) n || is_among ls n) (rw leaves refl))
