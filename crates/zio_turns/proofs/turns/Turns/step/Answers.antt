use Rattle.std.specs.Option.{option_copied_mut}
use Rattle.std.specs.Prelude.{IfOk}
use Rattle.std.proofs.Common.{◌≡◌, List, Some, None, is_some, ap, ◌∙◌, sym, subst, refl, arith}
use Rattle.slab.specs.Slab.{get, with_value}
use Rattle.std.proofs.lemmas.Result.{IfOk-weaker, on_ok_weaker}
use Rattle.zio_types.specs.declared.place.Top.{Top}
use Rattle.zio_turns.specs.Acts.{CanEnd, HasEnded, StepIn, with_ties}
use Rattle.zio_staged.specs.Stages.{OutcomeIn}
use Rattle.zio_staged.specs.declared.staged.Move.TheVariants.{End, Grow, Leaf as ToLeaf, Next, Ready, Wait}
use Rattle.zio_turns.proofs.ActLemmas.{changed_twice, has_grown, if_ok_both, in_place, lent_there, put_in, taken_out, told_in, waited, without}
use Rattle.zio_turns.proofs.ClaimCalls.{steps_ask, steps_claim, steps_last}
use Rattle.zio_turns.proofs.Insides.{all_ended, all_grown, all_put, all_told, all_waited}
use Rattle.zio_turns.proofs.Loads.{less_ended, less_grown, less_put, less_told, less_waited}
use Rattle.zio_turns.proofs.Steps.{steps_can_end, steps_can_tell, steps_children, steps_end, steps_first, steps_grow, steps_leaf, steps_next, steps_ready, steps_wait, turn_due, turn_held}
use Rattle.zio_turns.proofs.Shelves.{all_without, none_some}
use Rattle.zio_turns.proofs.turns.Turns.step.Goals as goal

pub unreachable-requires : goal.unreachable-requires
unreachable-requires g c =
    let held = turn_held g.N.NodeFacts.nodes (g.S.Services.tops c.args.services.now) c.args.self.now.nodes c.args.self.now.line c.args.key
    g.N.Staged.over c.requires in
    none_some held.0 (sym (ap option_copied_mut c.in_default.is) ∙ (c.get_mut.ensures.value ∙ held.1))

pub run_stage-requires-clause-over : goal.run_stage-requires-clause-over
run_stage-requires-clause-over g c =
    let e = c.in-Some.entry.now in
    let there : get c.args.self.now.nodes c.args.key ≡ Some e = lent_there c.in-Some.is c.get_mut.ensures.value in
    c.requires.over_all c.args.key e there

pub run_stage-requires-clause-due : goal.run_stage-requires-clause-due
run_stage-requires-clause-due g c =
    let e = c.in-Some.entry.now in
    let there : get c.args.self.now.nodes c.args.key ≡ Some e = lent_there c.in-Some.is c.get_mut.ensures.value in
    turn_due g.N.NodeFacts.nodes (g.S.Services.tops c.args.services.now) c.args.self.now.nodes c.args.self.now.line c.args.key
    g.N.Staged.over c.requires e there

-- ---- it goes on

pub returns-in-Next-clause-steps : goal.returns-in-Next-clause-steps
returns-in-Next-clause-steps g c =
    let e = c.in-Some.entry.now in
    let there : get c.args.self.now.nodes c.args.key ≡ Some e = lent_there c.in-Some.is c.get_mut.ensures.value in
    let node = c.run_stage.new.self in
    let out = without c.args.self.now.nodes c.args.key in
    let taken = taken_out c.args.self.now.nodes c.args.key e there in
    let now = with_ties c.run_stage.new.self e.ties in
    let placed = in_place c.args.self.now.nodes c.args.key e now there in
    let put = put_in c.args.self.now.nodes (with_value c.args.self.now.nodes c.args.key now) c.args.key e (Some now) there placed in
    let m = rw c.in-Next.is at c.in_ok-turn.ensures.moves in (
      m.0,
      m.1,
      steps_claim {S = Unit {0}} g.N.NodeFacts.nodes (g.S.Services.tops c.args.services.now) c.args.self.now.nodes
          c.args.self.now.line c.args.key e m.0 (Next node)
          there m.2,
      steps_last {S = Unit {0}} g.N.NodeFacts.nodes g.N.Staged.over (g.S.Services.tops c.args.services.now) c.args.self.now.nodes
          c.args.self.now.line c.args.key e m.0 (Next node)
          there m.2 c.requires,
      steps_next g.N.NodeFacts.nodes c.does_its_part.ensures.gives_own g.N.Staged.over (g.S.Services.tops c.args.services.now) c.args.self.now.nodes
          out _ c.args.self.now.line c.args.self.now.line c.args.key e m.0
          there taken node m.2
          (rw c.in-Next.is at c.in_ok-turn.ensures.may) put refl,
      steps_ask {S = Unit {0}} g.N.NodeFacts.nodes (g.S.Services.tops c.args.services.now) c.args.self.now.nodes
          c.args.self.now.line c.args.key e m.0 (Next node)
          there m.2
          c.does_its_part.ensures.never_finds,
    )

pub returns-in-Next-clause-over : goal.returns-in-Next-clause-over
returns-in-Next-clause-over g c =
    let e = c.in-Some.entry.now in
    let there : get c.args.self.now.nodes c.args.key ≡ Some e = lent_there c.in-Some.is c.get_mut.ensures.value in
    let node = c.run_stage.new.self in
    let out = without c.args.self.now.nodes c.args.key in
    let taken = taken_out c.args.self.now.nodes c.args.key e there in
    let now = with_ties c.run_stage.new.self e.ties in
    let placed = in_place c.args.self.now.nodes c.args.key e now there in
    let put = put_in c.args.self.now.nodes (with_value c.args.self.now.nodes c.args.key now) c.args.key e (Some now) there placed in
    all_put (g.N.Staged.over (g.S.Services.tops c.args.services.now)) c.args.self.now.nodes out _
    c.args.self.now.line c.args.self.now.line c.args.key c.requires.over_all taken
    (with_ties node e.ties) put (rw c.in-Next.is at c.in_ok-turn.ensures.over)

pub returns-in-Next-clause-less : goal.returns-in-Next-clause-less
returns-in-Next-clause-less g c =
    let e = c.in-Some.entry.now in
    let there : get c.args.self.now.nodes c.args.key ≡ Some e = lent_there c.in-Some.is c.get_mut.ensures.value in
    let node = c.run_stage.new.self in
    let out = without c.args.self.now.nodes c.args.key in
    let taken = taken_out c.args.self.now.nodes c.args.key e there in
    let now = with_ties c.run_stage.new.self e.ties in
    let placed = in_place c.args.self.now.nodes c.args.key e now there in
    let put = put_in c.args.self.now.nodes (with_value c.args.self.now.nodes c.args.key now) c.args.key e (Some now) there placed in
    less_put g.N.NodeFacts.nodes.left c.args.self.now.nodes out _ c.args.self.now.line
    c.args.self.now.line c.args.key e there taken node 1
    put (rw c.in-Next.is at c.in_ok-turn.ensures.left) (omega arith)

-- ---- it waits

pub returns-in_ok-wait-in-Wait-clause-steps : goal.returns-in_ok-wait-in-Wait-clause-steps
returns-in_ok-wait-in-Wait-clause-steps g c =
    let e = c.in-Some.entry.now in
    let there : get c.args.self.now.nodes c.args.key ≡ Some e = lent_there c.in-Some.is c.get_mut.ensures.value in
    let node = c.run_stage.new.self in
    let out = without c.args.self.now.nodes c.args.key in
    let taken = taken_out c.args.self.now.nodes c.args.key e there in
    let now = with_ties c.run_stage.new.self c.wait.new.ties in
    let placed = in_place c.args.self.now.nodes c.args.key e now there in
    let put = put_in c.args.self.now.nodes (with_value c.args.self.now.nodes c.args.key now) c.args.key e (Some now) there placed in
    let has = waited out _ c.args.self.now.line c.wait.new.line c.args.key node e.ties c.wait.new.ties c.in-Wait.kind c.in-Wait.phase c.in_ok-wait-in-Wait.ensures put in
    let m = rw c.in-Wait.is at c.in_ok-turn.ensures.moves in (
      m.0,
      m.1,
      steps_claim {S = Unit {0}} g.N.NodeFacts.nodes (g.S.Services.tops c.args.services.now) c.args.self.now.nodes
          c.args.self.now.line c.args.key e m.0 (Wait node c.in-Wait.kind c.in-Wait.phase)
          there m.2,
      steps_last {S = Unit {0}} g.N.NodeFacts.nodes g.N.Staged.over (g.S.Services.tops c.args.services.now) c.args.self.now.nodes
          c.args.self.now.line c.args.key e m.0 (Wait node c.in-Wait.kind c.in-Wait.phase)
          there m.2 c.requires,
      steps_wait g.N.NodeFacts.nodes c.does_its_part.ensures.gives_own g.N.Staged.over (g.S.Services.tops c.args.services.now) c.args.self.now.nodes
          out _ c.args.self.now.line c.wait.new.line c.args.key e m.0
          there taken node c.in-Wait.kind c.in-Wait.phase m.2
          (rw c.in-Wait.is at c.in_ok-turn.ensures.may) has,
      steps_ask {S = Unit {0}} g.N.NodeFacts.nodes (g.S.Services.tops c.args.services.now) c.args.self.now.nodes
          c.args.self.now.line c.args.key e m.0 (Wait node c.in-Wait.kind c.in-Wait.phase)
          there m.2
          c.does_its_part.ensures.never_finds,
    )

pub returns-in_ok-wait-in-Wait-clause-over : goal.returns-in_ok-wait-in-Wait-clause-over
returns-in_ok-wait-in-Wait-clause-over g c =
    let e = c.in-Some.entry.now in
    let there : get c.args.self.now.nodes c.args.key ≡ Some e = lent_there c.in-Some.is c.get_mut.ensures.value in
    let node = c.run_stage.new.self in
    let out = without c.args.self.now.nodes c.args.key in
    let taken = taken_out c.args.self.now.nodes c.args.key e there in
    let now = with_ties c.run_stage.new.self c.wait.new.ties in
    let placed = in_place c.args.self.now.nodes c.args.key e now there in
    let put = put_in c.args.self.now.nodes (with_value c.args.self.now.nodes c.args.key now) c.args.key e (Some now) there placed in
    let has = waited out _ c.args.self.now.line c.wait.new.line c.args.key node e.ties c.wait.new.ties c.in-Wait.kind c.in-Wait.phase c.in_ok-wait-in-Wait.ensures put in
    all_waited (g.N.Staged.over (g.S.Services.tops c.args.services.now)) c.args.self.now.nodes out _
    c.args.self.now.line c.wait.new.line c.args.key c.requires.over_all taken
    (with_ties node e.ties) c.in-Wait.kind c.in-Wait.phase has
    (rw c.in-Wait.is at c.in_ok-turn.ensures.over)

pub returns-in_ok-wait-in-Wait-clause-less : goal.returns-in_ok-wait-in-Wait-clause-less
returns-in_ok-wait-in-Wait-clause-less g c =
    let e = c.in-Some.entry.now in
    let there : get c.args.self.now.nodes c.args.key ≡ Some e = lent_there c.in-Some.is c.get_mut.ensures.value in
    let node = c.run_stage.new.self in
    let out = without c.args.self.now.nodes c.args.key in
    let taken = taken_out c.args.self.now.nodes c.args.key e there in
    let now = with_ties c.run_stage.new.self c.wait.new.ties in
    let placed = in_place c.args.self.now.nodes c.args.key e now there in
    let put = put_in c.args.self.now.nodes (with_value c.args.self.now.nodes c.args.key now) c.args.key e (Some now) there placed in
    let has = waited out _ c.args.self.now.line c.wait.new.line c.args.key node e.ties c.wait.new.ties c.in-Wait.kind c.in-Wait.phase c.in_ok-wait-in-Wait.ensures put in
    let m = rw c.in-Wait.is at c.in_ok-turn.ensures.moves in
    less_waited g.N.NodeFacts.nodes.left c.args.self.now.nodes out _ c.args.self.now.line
    c.wait.new.line c.args.key e there taken node
    c.in-Wait.kind c.in-Wait.phase has (rw c.in-Wait.is at c.in_ok-turn.ensures.left)
    (steps_first g.N.NodeFacts.nodes c.does_its_part.ensures.gives_own g.N.Staged.over (g.S.Services.tops c.args.services.now) c.args.self.now.nodes
    out (with_value c.args.self.now.nodes c.args.key now) c.args.self.now.line c.wait.new.line c.args.key e m.0
    there taken node c.in-Wait.kind c.in-Wait.phase m.2 c.requires)

-- ---- it hands out a child

pub count_child-number-requires-clause-children : goal.count_child-number-requires-clause-children
count_child-number-requires-clause-children g c =
    let e = c.in-Some.entry.now in
    let there : get c.args.self.now.nodes c.args.key ≡ Some e = lent_there c.in-Some.is c.get_mut.ensures.value in
    let node = c.run_stage.new.self in
    let out = without c.args.self.now.nodes c.args.key in
    let taken = taken_out c.args.self.now.nodes c.args.key e there in
    let m = rw c.in-Grow.is at c.in_ok-turn.ensures.moves in
    (steps_children g.N.NodeFacts.nodes c.does_its_part.ensures.gives_own g.N.Staged.over (g.S.Services.tops c.args.services.now)
    c.args.self.now.nodes out out c.args.self.now.line c.args.self.now.line c.args.key
    e m.0 there taken node c.in-Grow.child c.in-Grow.kind
    c.children-children.result m.2 c.requires c.children-children.ensures).0

pub count_child-number-requires-clause-few : goal.count_child-number-requires-clause-few
count_child-number-requires-clause-few g c =
    let e = c.in-Some.entry.now in
    let there : get c.args.self.now.nodes c.args.key ≡ Some e = lent_there c.in-Some.is c.get_mut.ensures.value in
    let node = c.run_stage.new.self in
    let out = without c.args.self.now.nodes c.args.key in
    let taken = taken_out c.args.self.now.nodes c.args.key e there in
    let m = rw c.in-Grow.is at c.in_ok-turn.ensures.moves in
    (steps_children g.N.NodeFacts.nodes c.does_its_part.ensures.gives_own g.N.Staged.over (g.S.Services.tops c.args.services.now)
    c.args.self.now.nodes out out c.args.self.now.line c.args.self.now.line c.args.key
    e m.0 there taken node c.in-Grow.child c.in-Grow.kind
    c.children-children.result m.2 c.requires c.children-children.ensures).1

pub returns-in_ok-grow-in-Grow-clause-steps : goal.returns-in_ok-grow-in-Grow-clause-steps
returns-in_ok-grow-in-Grow-clause-steps g c =
    let e = c.in-Some.entry.now in
    let there : get c.args.self.now.nodes c.args.key ≡ Some e = lent_there c.in-Some.is c.get_mut.ensures.value in
    let node = c.run_stage.new.self in
    let out = without c.args.self.now.nodes c.args.key in
    let taken = taken_out c.args.self.now.nodes c.args.key e there in
    let now = with_ties c.run_stage.new.self c.count_child-number.new.ties in
    let placed = in_place c.args.self.now.nodes c.args.key e now there in
    let put = put_in c.args.self.now.nodes (with_value c.args.self.now.nodes c.args.key now) c.args.key e (Some now) there placed in
    let has = has_grown out _ c.grow.new.nodes c.args.self.now.line c.grow.new.line c.args.key c.count_child-number.result node c.in-Grow.child e.ties c.count_child-number.new.ties c.in-Grow.kind c.count_child-number.ensures.room c.count_child-number.ensures.ties c.count_child-number.ensures.number put c.in_ok-grow-in-Grow.ensures in
    let m = rw c.in-Grow.is at c.in_ok-turn.ensures.moves in (
      m.0,
      m.1,
      steps_claim {S = Unit {0}} g.N.NodeFacts.nodes (g.S.Services.tops c.args.services.now) c.args.self.now.nodes
          c.args.self.now.line c.args.key e m.0 (Grow node c.in-Grow.child c.in-Grow.kind)
          there m.2,
      steps_last {S = Unit {0}} g.N.NodeFacts.nodes g.N.Staged.over (g.S.Services.tops c.args.services.now) c.args.self.now.nodes
          c.args.self.now.line c.args.key e m.0 (Grow node c.in-Grow.child c.in-Grow.kind)
          there m.2 c.requires,
      steps_grow g.N.NodeFacts.nodes c.does_its_part.ensures.gives_own g.N.Staged.over (g.S.Services.tops c.args.services.now) c.args.self.now.nodes
          out c.grow.new.nodes c.args.self.now.line c.grow.new.line c.args.key e m.0
          there taken node c.in-Grow.child c.in-Grow.kind m.2
          (rw c.in-Grow.is at c.in_ok-turn.ensures.may).0 (rw c.in-Grow.is at c.in_ok-turn.ensures.may).1 has,
      steps_ask {S = Unit {0}} g.N.NodeFacts.nodes (g.S.Services.tops c.args.services.now) c.args.self.now.nodes
          c.args.self.now.line c.args.key e m.0 (Grow node c.in-Grow.child c.in-Grow.kind)
          there m.2
          c.does_its_part.ensures.never_finds,
    )

pub returns-in_ok-grow-in-Grow-clause-over : goal.returns-in_ok-grow-in-Grow-clause-over
returns-in_ok-grow-in-Grow-clause-over g c =
    let e = c.in-Some.entry.now in
    let there : get c.args.self.now.nodes c.args.key ≡ Some e = lent_there c.in-Some.is c.get_mut.ensures.value in
    let node = c.run_stage.new.self in
    let out = without c.args.self.now.nodes c.args.key in
    let taken = taken_out c.args.self.now.nodes c.args.key e there in
    let now = with_ties c.run_stage.new.self c.count_child-number.new.ties in
    let placed = in_place c.args.self.now.nodes c.args.key e now there in
    let put = put_in c.args.self.now.nodes (with_value c.args.self.now.nodes c.args.key now) c.args.key e (Some now) there placed in
    let has = has_grown out _ c.grow.new.nodes c.args.self.now.line c.grow.new.line c.args.key c.count_child-number.result node c.in-Grow.child e.ties c.count_child-number.new.ties c.in-Grow.kind c.count_child-number.ensures.room c.count_child-number.ensures.ties c.count_child-number.ensures.number put c.in_ok-grow-in-Grow.ensures in
    all_grown (g.N.Staged.over (g.S.Services.tops c.args.services.now)) c.args.self.now.nodes out c.grow.new.nodes
    c.args.self.now.line c.grow.new.line c.args.key c.requires.over_all taken
    (with_ties node e.ties) c.in-Grow.child c.in-Grow.kind has
    (rw c.in-Grow.is at c.in_ok-turn.ensures.over).0 (rw c.in-Grow.is at c.in_ok-turn.ensures.over).1

pub returns-in_ok-grow-in-Grow-clause-less : goal.returns-in_ok-grow-in-Grow-clause-less
returns-in_ok-grow-in-Grow-clause-less g c =
    let e = c.in-Some.entry.now in
    let there : get c.args.self.now.nodes c.args.key ≡ Some e = lent_there c.in-Some.is c.get_mut.ensures.value in
    let node = c.run_stage.new.self in
    let out = without c.args.self.now.nodes c.args.key in
    let taken = taken_out c.args.self.now.nodes c.args.key e there in
    let now = with_ties c.run_stage.new.self c.count_child-number.new.ties in
    let placed = in_place c.args.self.now.nodes c.args.key e now there in
    let put = put_in c.args.self.now.nodes (with_value c.args.self.now.nodes c.args.key now) c.args.key e (Some now) there placed in
    let has = has_grown out _ c.grow.new.nodes c.args.self.now.line c.grow.new.line c.args.key c.count_child-number.result node c.in-Grow.child e.ties c.count_child-number.new.ties c.in-Grow.kind c.count_child-number.ensures.room c.count_child-number.ensures.ties c.count_child-number.ensures.number put c.in_ok-grow-in-Grow.ensures in
    less_grown g.N.NodeFacts.nodes.left c.args.self.now.nodes out c.grow.new.nodes c.args.self.now.line
    c.grow.new.line c.args.key e there taken node
    c.in-Grow.child c.in-Grow.kind has (rw c.in-Grow.is at c.in_ok-turn.ensures.left)

-- ---- its operation goes to a leaf

pub returns-in-Leaf-clause-steps : goal.returns-in-Leaf-clause-steps
returns-in-Leaf-clause-steps g c =
    let e = c.in-Some.entry.now in
    let there : get c.args.self.now.nodes c.args.key ≡ Some e = lent_there c.in-Some.is c.get_mut.ensures.value in
    let node = c.run_stage.new.self in
    let out = without c.args.self.now.nodes c.args.key in
    let taken = taken_out c.args.self.now.nodes c.args.key e there in
    let now = with_ties c.run_stage.new.self e.ties in
    let placed = in_place c.args.self.now.nodes c.args.key e now there in
    let put = put_in c.args.self.now.nodes (with_value c.args.self.now.nodes c.args.key now) c.args.key e (Some now) there placed in
    let m = rw c.in-Leaf.is at c.in_ok-turn.ensures.moves in (
      m.0,
      m.1,
      steps_claim {S = Unit {0}} g.N.NodeFacts.nodes (g.S.Services.tops c.args.services.now) c.args.self.now.nodes
          c.args.self.now.line c.args.key e m.0 (ToLeaf node c.in-Leaf.op c.in-Leaf.leaf c.in-Leaf.bytes)
          there m.2,
      steps_last {S = Unit {0}} g.N.NodeFacts.nodes g.N.Staged.over (g.S.Services.tops c.args.services.now) c.args.self.now.nodes
          c.args.self.now.line c.args.key e m.0 (ToLeaf node c.in-Leaf.op c.in-Leaf.leaf c.in-Leaf.bytes)
          there m.2 c.requires,
      steps_leaf g.N.NodeFacts.nodes c.does_its_part.ensures.gives_own g.N.Staged.over (g.S.Services.tops c.args.services.now) c.args.self.now.nodes
          out _ c.args.self.now.line c.args.self.now.line c.args.key e m.0
          there taken node c.in-Leaf.op c.in-Leaf.leaf c.in-Leaf.bytes
          m.2 put refl,
      steps_ask {S = Unit {0}} g.N.NodeFacts.nodes (g.S.Services.tops c.args.services.now) c.args.self.now.nodes
          c.args.self.now.line c.args.key e m.0 (ToLeaf node c.in-Leaf.op c.in-Leaf.leaf c.in-Leaf.bytes)
          there m.2
          c.does_its_part.ensures.never_finds,
    )

pub returns-in-Leaf-clause-over : goal.returns-in-Leaf-clause-over
returns-in-Leaf-clause-over g c =
    let e = c.in-Some.entry.now in
    let there : get c.args.self.now.nodes c.args.key ≡ Some e = lent_there c.in-Some.is c.get_mut.ensures.value in
    let node = c.run_stage.new.self in
    let out = without c.args.self.now.nodes c.args.key in
    let taken = taken_out c.args.self.now.nodes c.args.key e there in
    let now = with_ties c.run_stage.new.self e.ties in
    let placed = in_place c.args.self.now.nodes c.args.key e now there in
    let put = put_in c.args.self.now.nodes (with_value c.args.self.now.nodes c.args.key now) c.args.key e (Some now) there placed in
    all_put (g.N.Staged.over (g.S.Services.tops c.args.services.now)) c.args.self.now.nodes out _
    c.args.self.now.line c.args.self.now.line c.args.key c.requires.over_all taken
    (with_ties node e.ties) put (rw c.in-Leaf.is at c.in_ok-turn.ensures.over)

pub returns-in-Leaf-clause-less : goal.returns-in-Leaf-clause-less
returns-in-Leaf-clause-less g c =
    let e = c.in-Some.entry.now in
    let there : get c.args.self.now.nodes c.args.key ≡ Some e = lent_there c.in-Some.is c.get_mut.ensures.value in
    let node = c.run_stage.new.self in
    let out = without c.args.self.now.nodes c.args.key in
    let taken = taken_out c.args.self.now.nodes c.args.key e there in
    let now = with_ties c.run_stage.new.self e.ties in
    let placed = in_place c.args.self.now.nodes c.args.key e now there in
    let put = put_in c.args.self.now.nodes (with_value c.args.self.now.nodes c.args.key now) c.args.key e (Some now) there placed in
    less_put g.N.NodeFacts.nodes.left c.args.self.now.nodes out _ c.args.self.now.line
    c.args.self.now.line c.args.key e there taken node 2
    put (rw c.in-Leaf.is at c.in_ok-turn.ensures.left) (omega arith)

-- ---- it tells

pub tell-requires-clause-valid : goal.tell-requires-clause-valid
tell-requires-clause-valid g c =
    (rw c.in-Ready.is at c.in_ok-turn.ensures.may).1

pub tell-requires-clause-can : goal.tell-requires-clause-can
tell-requires-clause-can g c =
    let e = c.in-Some.entry.now in
    let there : get c.args.self.now.nodes c.args.key ≡ Some e = lent_there c.in-Some.is c.get_mut.ensures.value in
    let node = c.run_stage.new.self in
    let out = without c.args.self.now.nodes c.args.key in
    let taken = taken_out c.args.self.now.nodes c.args.key e there in
    let now = with_ties c.run_stage.new.self e.ties in
    let placed = in_place c.args.self.now.nodes c.args.key e now there in
    let put = put_in c.args.self.now.nodes (with_value c.args.self.now.nodes c.args.key now) c.args.key e (Some now) there placed in
    let m = rw c.in-Ready.is at c.in_ok-turn.ensures.moves in
    steps_can_tell g.N.NodeFacts.nodes c.does_its_part.ensures.gives_own g.N.Staged.over (g.S.Services.tops c.args.services.now) c.args.self.now.nodes
    out (with_value c.args.self.now.nodes c.args.key now) c.args.self.now.line c.args.self.now.line c.args.key e m.0
    there taken node c.in-Ready.pointer m.2
    (rw c.in-Ready.is at c.in_ok-turn.ensures.may).0 _
    put c.requires

pub returns-in-Ready-clause-steps : goal.returns-in-Ready-clause-steps
returns-in-Ready-clause-steps g c =
    let e = c.in-Some.entry.now in
    let there : get c.args.self.now.nodes c.args.key ≡ Some e = lent_there c.in-Some.is c.get_mut.ensures.value in
    let node = c.run_stage.new.self in
    let out = without c.args.self.now.nodes c.args.key in
    let taken = taken_out c.args.self.now.nodes c.args.key e there in
    let now = with_ties c.run_stage.new.self e.ties in
    let placed = in_place c.args.self.now.nodes c.args.key e now there in
    let put = put_in c.args.self.now.nodes (with_value c.args.self.now.nodes c.args.key now) c.args.key e (Some now) there placed in
    let m = rw c.in-Ready.is at c.in_ok-turn.ensures.moves in
    if_ok_both c.tell.result _ _ _
    (λ step has same. (
      m.0,
      m.1,
      steps_claim {S = Unit {0}} g.N.NodeFacts.nodes (g.S.Services.tops c.args.services.now) c.args.self.now.nodes
          c.args.self.now.line c.args.key e m.0 (Ready node c.in-Ready.pointer)
          there m.2,
      steps_last {S = Unit {0}} g.N.NodeFacts.nodes g.N.Staged.over (g.S.Services.tops c.args.services.now) c.args.self.now.nodes
          c.args.self.now.line c.args.key e m.0 (Ready node c.in-Ready.pointer)
          there m.2 c.requires,
      steps_ready g.N.NodeFacts.nodes c.does_its_part.ensures.gives_own g.N.Staged.over (g.S.Services.tops c.args.services.now) c.args.self.now.nodes
          out c.tell.new.nodes c.args.self.now.line c.tell.new.line c.args.key e m.0
          there taken node c.in-Ready.pointer m.2
          (rw c.in-Ready.is at c.in_ok-turn.ensures.may).0 _
          put step has same,
      steps_ask {S = Unit {0}} g.N.NodeFacts.nodes (g.S.Services.tops c.args.services.now) c.args.self.now.nodes
          c.args.self.now.line c.args.key e m.0 (Ready node c.in-Ready.pointer)
          there m.2
          c.does_its_part.ensures.never_finds,
    ))
    c.tell.ensures.told c.tell.ensures.step

pub returns-in-Ready-clause-over : goal.returns-in-Ready-clause-over
returns-in-Ready-clause-over g c =
    let e = c.in-Some.entry.now in
    let there : get c.args.self.now.nodes c.args.key ≡ Some e = lent_there c.in-Some.is c.get_mut.ensures.value in
    let node = c.run_stage.new.self in
    let out = without c.args.self.now.nodes c.args.key in
    let taken = taken_out c.args.self.now.nodes c.args.key e there in
    let now = with_ties c.run_stage.new.self e.ties in
    let placed = in_place c.args.self.now.nodes c.args.key e now there in
    let put = put_in c.args.self.now.nodes (with_value c.args.self.now.nodes c.args.key now) c.args.key e (Some now) there placed in
    on_ok_weaker c.tell.result
    (λ has. all_told g.N.NodeFacts.nodes g.N.Staged.over (g.S.Services.tops c.args.services.now) _ c.tell.new.nodes
    c.args.self.now.line c.tell.new.line
    (all_put (g.N.Staged.over (g.S.Services.tops c.args.services.now)) c.args.self.now.nodes out _
    c.args.self.now.line c.args.self.now.line c.args.key c.requires.over_all taken
    (with_ties node e.ties) put (rw c.in-Ready.is at c.in_ok-turn.ensures.over))
    e.ties.kind e.ties.parent c.in-Ready.pointer has)
    c.tell.ensures.told

pub returns-in-Ready-clause-less : goal.returns-in-Ready-clause-less
returns-in-Ready-clause-less g c =
    let e = c.in-Some.entry.now in
    let there : get c.args.self.now.nodes c.args.key ≡ Some e = lent_there c.in-Some.is c.get_mut.ensures.value in
    let node = c.run_stage.new.self in
    let now = with_ties c.run_stage.new.self e.ties in
    let placed = in_place c.args.self.now.nodes c.args.key e now there in
    if_ok_both c.tell.result _ _ _
    (λ step has same. less_told g.N.NodeFacts.nodes g.N.Staged.over c.args.self.now.nodes _ c.tell.new.nodes c.args.self.now.line
    c.tell.new.line c.args.key e there node e.ties.parent
    e.ties.kind c.in-Ready.pointer step same
    placed
    has (rw c.in-Ready.is at c.in_ok-turn.ensures.left))
    c.tell.ensures.told c.tell.ensures.step

-- ---- it ends

pub remove-requires : goal.remove-requires
remove-requires g c =
    let e = c.in-Some.entry.now in
    let there : get c.args.self.now.nodes c.args.key ≡ Some e = lent_there c.in-Some.is c.get_mut.ensures.value in
    ap is_some (in_place c.args.self.now.nodes c.args.key e (with_ties c.run_stage.new.self e.ties) there).changed

pub end-requires-clause-can : goal.end-requires-clause-can
end-requires-clause-can g c =
    let e = c.in-Some.entry.now in
    let there : get c.args.self.now.nodes c.args.key ≡ Some e = lent_there c.in-Some.is c.get_mut.ensures.value in
    let out = c.remove.new.self in
    let now = with_ties c.run_stage.new.self e.ties in
    let placed = in_place c.args.self.now.nodes c.args.key e now there in
    let taken = changed_twice c.args.self.now.nodes _ out c.args.key (Some now) None placed c.remove.ensures.updates in
    let m = rw c.in-End.is at c.in_ok-turn.ensures.moves in
    subst (λ (tops : _). CanEnd g.N.NodeFacts.nodes g.N.Staged.over tops out e.ties.kind
    e.ties.parent c.in-End.outcome.value) (sym (c.tops.ensures ∙ c.run_stage.ensures.tops))
    (steps_can_end g.N.NodeFacts.nodes c.does_its_part.ensures.gives_own g.N.Staged.over (g.S.Services.tops c.args.services.now) c.args.self.now.nodes
    out out c.args.self.now.line c.args.self.now.line c.args.key e m.0
    there taken c.in-End.outcome.value m.2
    (λ t st a is. c.does_its_part.ensures.never_finds t e.node st a is) c.requires)

pub returns-in-End-clause-steps : goal.returns-in-End-clause-steps
returns-in-End-clause-steps g c =
    let e = c.in-Some.entry.now in
    let there : get c.args.self.now.nodes c.args.key ≡ Some e = lent_there c.in-Some.is c.get_mut.ensures.value in
    let out = c.remove.new.self in
    let now = with_ties c.run_stage.new.self e.ties in
    let placed = in_place c.args.self.now.nodes c.args.key e now there in
    let taken = changed_twice c.args.self.now.nodes _ out c.args.key (Some now) None placed c.remove.ensures.updates in
    let m = rw c.in-End.is at c.in_ok-turn.ensures.moves in
    IfOk-weaker c.end.result _ _
    (λ step has. (
      m.0,
      m.1,
      steps_claim g.N.NodeFacts.nodes (g.S.Services.tops c.args.services.now) c.args.self.now.nodes
          c.args.self.now.line c.args.key e m.0 (End c.in-End.outcome.value)
          there m.2,
      steps_last g.N.NodeFacts.nodes g.N.Staged.over (g.S.Services.tops c.args.services.now) c.args.self.now.nodes
          c.args.self.now.line c.args.key e m.0 (End c.in-End.outcome.value)
          there m.2 c.requires,
      steps_end g.N.NodeFacts.nodes c.does_its_part.ensures.gives_own g.N.Staged.over (g.S.Services.tops c.args.services.now) c.args.self.now.nodes
          out c.end.new.nodes c.args.self.now.line c.end.new.line c.args.key e m.0
          there taken c.in-End.outcome.value m.2
          (λ t st a is. c.does_its_part.ensures.never_finds t e.node st a is) step
          (subst (λ (tops : _). HasEnded g.N.NodeFacts.nodes g.N.Staged.over tops out c.args.self.now.line
          c.end.new.nodes c.end.new.line e.ties.kind e.ties.parent c.in-End.outcome.value step)
          (c.tops.ensures ∙ c.run_stage.ensures.tops) has),
      steps_ask g.N.NodeFacts.nodes (g.S.Services.tops c.args.services.now) c.args.self.now.nodes
          c.args.self.now.line c.args.key e m.0 (End c.in-End.outcome.value)
          there m.2
          c.does_its_part.ensures.never_finds,
    ))
    c.end.ensures.ended

pub returns-in-End-clause-over : goal.returns-in-End-clause-over
returns-in-End-clause-over g c =
    let e = c.in-Some.entry.now in
    let there : get c.args.self.now.nodes c.args.key ≡ Some e = lent_there c.in-Some.is c.get_mut.ensures.value in
    let out = c.remove.new.self in
    let now = with_ties c.run_stage.new.self e.ties in
    let placed = in_place c.args.self.now.nodes c.args.key e now there in
    let taken = changed_twice c.args.self.now.nodes _ out c.args.key (Some now) None placed c.remove.ensures.updates in
    IfOk-weaker c.end.result _ _
    (λ step has. all_ended g.N.NodeFacts.nodes g.N.Staged.over (g.S.Services.tops c.args.services.now) out c.end.new.nodes
    c.args.self.now.line c.end.new.line
    (all_without (g.N.Staged.over (g.S.Services.tops c.args.services.now)) c.args.self.now.nodes out c.args.key
    taken c.requires.over_all)
    e.ties.kind e.ties.parent c.in-End.outcome.value step
    (subst (λ (tops : _). HasEnded g.N.NodeFacts.nodes g.N.Staged.over tops out c.args.self.now.line
    c.end.new.nodes c.end.new.line e.ties.kind e.ties.parent c.in-End.outcome.value step)
    (c.tops.ensures ∙ c.run_stage.ensures.tops) has))
    c.end.ensures.ended

pub returns-in-End-clause-less : goal.returns-in-End-clause-less
returns-in-End-clause-less g c =
    let e = c.in-Some.entry.now in
    let there : get c.args.self.now.nodes c.args.key ≡ Some e = lent_there c.in-Some.is c.get_mut.ensures.value in
    let out = c.remove.new.self in
    let now = with_ties c.run_stage.new.self e.ties in
    let placed = in_place c.args.self.now.nodes c.args.key e now there in
    let taken = changed_twice c.args.self.now.nodes _ out c.args.key (Some now) None placed c.remove.ensures.updates in
    IfOk-weaker c.end.result _ _
    (λ step has. less_ended g.N.NodeFacts.nodes g.N.Staged.over c.args.self.now.nodes out c.end.new.nodes c.args.self.now.line
    c.end.new.line c.args.key e there c.tops.result.now e.ties.parent
    e.ties.kind c.in-End.outcome.value step taken has (rw c.in-End.is at c.in_ok-turn.ensures.left))
    c.end.ensures.ended

pub end-requires-clause-inside : goal.end-requires-clause-inside
end-requires-clause-inside g c =
    subst (λ (tops : List Top). OutcomeIn (g.N.Staged.tree_over tops) c.in-End.outcome.value)
    (sym (c.tops.ensures ∙ c.run_stage.ensures.tops)) (rw c.in-End.is at c.in_ok-turn.ensures.over)

pub returns-in-End-clause-inside : goal.returns-in-End-clause-inside
returns-in-End-clause-inside g c =
    subst (λ (tops : List Top). IfOk c.end.result (StepIn (g.N.Staged.tree_over tops))) (c.tops.ensures ∙ c.run_stage.ensures.tops)
    c.end.ensures.inside

pub returns-in-Ready-clause-inside : goal.returns-in-Ready-clause-inside
returns-in-Ready-clause-inside g c =
    let e = c.in-Some.entry.now in
    IfOk-weaker c.tell.result _ _
    (λ step same. told_in (g.N.Staged.tree_over (g.S.Services.tops c.args.services.now)) e.ties.parent step same)
    c.tell.ensures.step
