use Rattle.std.proofs.Common.{◌≡◌, length, ap, sym, ◌∙◌, arith}
use Rattle.std.specs.List.{position, position_or_len}
use Rattle.zio_counts.specs.Broods.{misses}
use Rattle.zio_counts.proofs.BroodLemmas.{kept_first, position-at, position-none}
use Rattle.zio_counts.proofs.brood.Brood.missing.Goals as goal

pub returns-then-first-count : goal.returns-then-first-count
returns-then-first-count g c =
    let items = c.self.inside.children.items in
    let all : c.len-count.result ≡ length items = omega arith in
    let first : c.at-first.result ≡ position_or_len (misses c.args.kind c.args.phase) items =
    kept_first c.args.kind c.args.phase items c.self.inside.firsts c.len-count.result c.at-first.result c.self.invariant all c.at-first.ensures in
    sym (position-at (misses c.args.kind c.args.phase) items c.at-first.result first (omega (arith, all)))
    ∙ ap (position (misses c.args.kind c.args.phase)) c.self.view_is

pub returns-else-first-count : goal.returns-else-first-count
returns-else-first-count g c =
    let items = c.self.inside.children.items in
    let all : c.len-count.result ≡ length items = omega arith in
    let first : c.at-first.result ≡ position_or_len (misses c.args.kind c.args.phase) items =
    kept_first c.args.kind c.args.phase items c.self.inside.firsts c.len-count.result c.at-first.result c.self.invariant all c.at-first.ensures in
    sym (position-none (misses c.args.kind c.args.phase) items c.at-first.result first (omega (arith, all)))
    ∙ ap (position (misses c.args.kind c.args.phase)) c.self.view_is
