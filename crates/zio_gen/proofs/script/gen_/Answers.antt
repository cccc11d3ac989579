use Rattle.std.proofs.Common.{◌≡◌, ◌∙◌, ap, sym, ℕ, ◌+◌, ◌-◌, ◌/◌, ◌++◌, List, arith, append_assoc, codes}
use Rattle.zio_gen.specs.Generated.{clear_line, group_text, head_lines, texts, script_text}
use Rattle.zio_gen.proofs.script.gen_.Goals as goal

pub returns : goal.returns
returns c =
    let all : c.loop-group.group ≡ (c.from-n.result + 8 - 1) / 8 = omega (arith, c.loop-group-test.false, c.loop-group.auto.group-end) in
    c.from_string.ensures ∙ c.in_ok-push_str-2.ensures.bytes
    ∙ ap (λ (bs : List ℕ). bs ++ codes "clear\nclear\n") (c.loop-group.invariant ∙ ap (λ k. head_lines ++ texts (group_text c.from-seed.result c.from-n.result) k) all)
    ∙ sym (append_assoc (head_lines ++ texts (group_text c.from-seed.result c.from-n.result) ((c.from-n.result + 8 - 1) / 8)) clear_line clear_line)
    ∙ ap (λ n. script_text c.from-seed.result n) c.from-n.ensures ∙ ap (λ seed. script_text seed c.args.n) c.from-seed.ensures
