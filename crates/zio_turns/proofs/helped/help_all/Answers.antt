use Rattle.std.proofs.Common.{List, [], ◌∷◌, arith, ap, sym, subst, ◌∙◌}
use Rattle.std.proofs.lemmas.Result.{on_ok_weaker}
use Rattle.slab.specs.Slab.{Slab}
use Rattle.zio_turns.specs.Helping.{keys_wanted}
use Rattle.zio_turns.specs.Slabs.{AreAll}
use Rattle.zio_turns.proofs.HelpMoves.{helped_kept, helped_less, own_keeps, rest_reckoned, written_back}
use Rattle.zio_turns.proofs.helped.help_all.Goals as goal

pub go_on-requires-clause-over : goal.go_on-requires-clause-over
go_on-requires-clause-over g c = (
  c.args.tops.now,
  subst (λ (slab : Slab _). AreAll (g.N.Staged.over c.args.tops.now) slab) (sym c.gathered.ensures.nodes) c.requires.turn.over_all,
)

pub settle-requires-clause-keeps : goal.settle-requires-clause-keeps
settle-requires-clause-keeps g c = (
  c.args.tops.now,
  c.args.key ∷ [],
  c.requires.turn.leaves,
  own_keeps g.N.NodeFacts.nodes g.N.Staged.over g.N.Staged.fits c.args.key c.args.turns.now.nodes c.gathered.new.turns.nodes
      c.args.turns.now.line c.gathered.new.turns.line c.in_ok-wanted.wanted.items c.reckon.new.wanted c.next.new.self c.in-Some.own
      c.gathered.ensures.nodes c.in_ok-wanted.ensures.first c.in_ok-wanted.ensures.same
      (c.reckon.ensures.keys ∙ ap (λ (ws : List _). keys_wanted ws) c.as_mut_slice.ensures.value)
      (sym (written_back c.in_ok-wanted.wanted.len c.reckon.new.wanted c.in_ok-wanted.wanted.items
      (omega (arith, c.in_ok-wanted.wanted.ok.0)) (c.reckon.ensures.keys ∙ ap (λ (ws : List _). keys_wanted ws) c.as_mut_slice.ensures.value))
      ∙ (sym c.from_vec.ensures ∙ (sym c.into_rest-rest.ensures ∙ c.in-Some.ensures.steps))) c.args.tops.now c.requires.turn
      c.go_on.new.turns.nodes c.go_on.new.turns.line (record {
        kept = c.go_on.ensures.kept;
        others = c.go_on.ensures.others;
        over_still = c.go_on.ensures.over;
        line_same = c.go_on.ensures.line;
        less = c.go_on.ensures.less;
      }),
)

pub settle-requires-clause-over : goal.settle-requires-clause-over
settle-requires-clause-over g c = (
  c.args.tops.now,
  c.go_on.ensures.over c.args.tops.now
      (subst (λ (slab : Slab _). AreAll (g.N.Staged.over c.args.tops.now) slab) (sym c.gathered.ensures.nodes) c.requires.turn.over_all),
)

pub settle-requires-clause-fits : goal.settle-requires-clause-fits
settle-requires-clause-fits g c =
    rest_reckoned g.N.NodeFacts.nodes g.N.Staged.over g.N.Staged.fits c.args.key c.args.turns.now.nodes c.gathered.new.turns.nodes
    c.args.turns.now.line c.gathered.new.turns.line c.in_ok-wanted.wanted.items c.reckon.new.wanted c.next.new.self c.in-Some.own
    c.gathered.ensures.nodes c.in_ok-wanted.ensures.first c.in_ok-wanted.ensures.same
    (c.reckon.ensures.keys ∙ ap (λ (ws : List _). keys_wanted ws) c.as_mut_slice.ensures.value)
    (sym (written_back c.in_ok-wanted.wanted.len c.reckon.new.wanted c.in_ok-wanted.wanted.items
    (omega (arith, c.in_ok-wanted.wanted.ok.0)) (c.reckon.ensures.keys ∙ ap (λ (ws : List _). keys_wanted ws) c.as_mut_slice.ensures.value))
    ∙ (sym c.from_vec.ensures ∙ (sym c.into_rest-rest.ensures ∙ c.in-Some.ensures.steps))) c.args.tops.now c.requires.turn
    c.go_on.new.turns.nodes c.go_on.new.turns.line (record {
      kept = c.go_on.ensures.kept;
      others = c.go_on.ensures.others;
      over_still = c.go_on.ensures.over;
      line_same = c.go_on.ensures.line;
      less = c.go_on.ensures.less;
    }) c.reckon.ensures.fits

pub returns-clause-kept : goal.returns-clause-kept
returns-clause-kept g c =
    on_ok_weaker c.settle.result
    (λ stays. helped_kept g.N.NodeFacts.nodes g.N.Staged.over g.N.Staged.fits c.args.key c.args.turns.now.nodes c.gathered.new.turns.nodes
    c.args.turns.now.line c.gathered.new.turns.line c.in_ok-wanted.wanted.items c.reckon.new.wanted c.next.new.self c.in-Some.own
    c.gathered.ensures.nodes c.in_ok-wanted.ensures.first c.in_ok-wanted.ensures.same
    (c.reckon.ensures.keys ∙ ap (λ (ws : List _). keys_wanted ws) c.as_mut_slice.ensures.value)
    (sym (written_back c.in_ok-wanted.wanted.len c.reckon.new.wanted c.in_ok-wanted.wanted.items
    (omega (arith, c.in_ok-wanted.wanted.ok.0)) (c.reckon.ensures.keys ∙ ap (λ (ws : List _). keys_wanted ws) c.as_mut_slice.ensures.value))
    ∙ (sym c.from_vec.ensures ∙ (sym c.into_rest-rest.ensures ∙ c.in-Some.ensures.steps))) c.args.tops.now c.requires.turn
    c.go_on.new.turns.nodes c.go_on.new.turns.line (record {
      kept = c.go_on.ensures.kept;
      others = c.go_on.ensures.others;
      over_still = c.go_on.ensures.over;
      line_same = c.go_on.ensures.line;
      less = c.go_on.ensures.less;
    }) c.settle.new.turns.nodes c.settle.new.turns.line stays)
    c.settle.ensures.kept

pub returns-clause-over : goal.returns-clause-over
returns-clause-over g c =
    c.settle.ensures.over c.args.tops.now (c.go_on.ensures.over c.args.tops.now
    (subst (λ (slab : Slab _). AreAll (g.N.Staged.over c.args.tops.now) slab) (sym c.gathered.ensures.nodes) c.requires.turn.over_all))

pub returns-clause-less : goal.returns-clause-less
returns-clause-less g c =
    on_ok_weaker c.settle.result
    (λ less. helped_less g.N.NodeFacts.nodes g.N.Staged.over g.N.Staged.fits c.args.key c.args.turns.now.nodes c.gathered.new.turns.nodes
    c.args.turns.now.line c.gathered.new.turns.line c.in_ok-wanted.wanted.items c.reckon.new.wanted c.next.new.self c.in-Some.own
    c.gathered.ensures.nodes c.in_ok-wanted.ensures.first c.in_ok-wanted.ensures.same
    (c.reckon.ensures.keys ∙ ap (λ (ws : List _). keys_wanted ws) c.as_mut_slice.ensures.value)
    (sym (written_back c.in_ok-wanted.wanted.len c.reckon.new.wanted c.in_ok-wanted.wanted.items
    (omega (arith, c.in_ok-wanted.wanted.ok.0)) (c.reckon.ensures.keys ∙ ap (λ (ws : List _). keys_wanted ws) c.as_mut_slice.ensures.value))
    ∙ (sym c.from_vec.ensures ∙ (sym c.into_rest-rest.ensures ∙ c.in-Some.ensures.steps))) c.args.tops.now c.requires.turn
    c.go_on.new.turns.nodes c.go_on.new.turns.line (record {
      kept = c.go_on.ensures.kept;
      others = c.go_on.ensures.others;
      over_still = c.go_on.ensures.over;
      line_same = c.go_on.ensures.line;
      less = c.go_on.ensures.less;
    }) c.settle.new.turns.nodes c.settle.new.turns.line c.in_ok-wanted.ensures.len less)
    c.settle.ensures.less
