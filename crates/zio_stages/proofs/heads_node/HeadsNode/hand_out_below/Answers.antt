use Rattle.std.proofs.Common.{◌≡◌, ◌++◌, ◌∷◌, [], ◌∙◌, ◌+◌, suc, List, length, None, slice_get, sym, ap, refl, arith, length-append}
use Rattle.zio_types.specs.declared.request.ChildKind.TheVariants.{Gang}
use Rattle.zio_frames.specs.Frames.{Child, OfOuter, fresh_stack}
use Rattle.zio_frames.specs.Slots.{Slot}
use Rattle.zio_parts.specs.HeadWalks.{Walking, slots_of}
use Rattle.zio_parts.proofs.WalkLemmas.{few_named}
use Rattle.zio_stages.specs.HeadsNodes.{IsHeadsNode, with_slots}
use Rattle.zio_stages.specs.HeadsWorks.{walk_task}
use Rattle.zio_stages.specs.NodeChildren.{new_child}
use Rattle.zio_stages.specs.declared.heads_node.HeadsNode.{HeadsNode}
use Rattle.zio_stages.proofs.HeadsNodeLemmas.{hands, inside_more, member_slots}
use Rattle.zio_stages.proofs.HeadsOver.{below_over, child_over, count_more}
use Rattle.zio_stages.proofs.heads_node.HeadsNode.hand_out_below.Goals as goal

pub add-requires : goal.add-requires
add-requires c =
    let w = c.args.self.now.work.walk in
    let few = few_named w.header in
    omega (arith, c.requires.over.count, member_slots w.header w.members (omega (arith, c.requires.step.0)), c.requires.step.0)

pub returns-clause-hands : goal.returns-clause-hands
returns-clause-hands c = λ t st tops h.
    let old = c.args.self.now in
    let w = old.work.walk in
    let m = c.args.member in
    let work = c.hand_out_below-work.result in
    let new : HeadsNode = record { work = c.hand_out_below-work.new.self; family = c.add.new.self; name = old.name; prio = old.prio } in
    let child : HeadsNode = record { work = work; family = c.new.result; name = c.at-name.result; prio = old.prio } in
    let parts = c.hand_out_below-work.ensures.hands t (with_slots st.outer h.begun) tops h.part in
    let many : length h.begun ≡ suc (length w.members) = ap (λ (xs : List Slot). length xs) h.part.slots ∙ member_slots w.header w.members (omega (arith, c.requires.step.0)) in
    let seat : c.from.result + 1 ≡ length h.begun = omega (arith, many, c.requires.step.1) in
    let family : c.add.new.self ≡ old.family ++ new_child (OfOuter (length h.begun)) Gang ∷ [] =
    c.in_ok-add.ensures.ok ∙ ap (λ n. old.family ++ new_child (OfOuter n) Gang ∷ []) seat in
    let members : new.work.walk.members ≡ w.members ++ None ∷ [] = ap (λ (k : Walking). k.members) c.hand_out_below-work.ensures.walk in
    let op = walk_task parts.look work in
    hands t old new (λ q. IsHeadsNode t child (fresh_stack q)) op st h parts.asks refl
    (record { children = c.new.ensures; alone = refl; begun = []; since = tt; part = parts.below; inside = λ n q left e is. absurd (cc) }) parts.after family
    (λ n q left e is. inside_more t st.outer.asked op w.members (h.part.full.lengths ∙ many) h.inside n q left e (ap (λ xs. slice_get xs n) (sym members) ∙ is))

pub returns-clause-over : goal.returns-clause-over
returns-clause-over c =
    let old = c.args.self.now in
    let new : HeadsNode = record { work = c.hand_out_below-work.new.self; family = c.add.new.self; name = old.name; prio = old.prio } in
    below_over c.args.tops.now old new c.args.member c.requires.over c.requires.step c.hand_out_below-work.ensures.walk c.hand_out_below-work.ensures.heads refl
    (count_more old.family new.family _ (slots_of old.work.walk) (slots_of new.work.walk) _ c.requires.over.count c.in_ok-add.ensures.ok c.hand_out_below-work.ensures.slots)

pub returns-clause-child_over : goal.returns-clause-child_over
returns-clause-child_over c =
    let old = c.args.self.now in
    let work = c.hand_out_below-work.result in
    let child : HeadsNode = record { work = work; family = c.new.result; name = c.at-name.result; prio = old.prio } in
    child_over c.args.tops.now old child c.args.member work.walk.judged c.requires.over c.requires.step c.hand_out_below-work.ensures.below
    (ap (λ v. v.items) c.hand_out_below-work.ensures.below_heads ∙ c.in_ok-heads.ensures) c.hand_out_below-work.ensures.judged c.at-name.ensures c.new.ensures

pub returns-clause-few : goal.returns-clause-few
returns-clause-few c =
    let w = c.args.self.now.work.walk in
    let few = few_named w.header in
    let more : length c.add.new.self ≡ length (c.args.self.now.family ++ new_child (OfOuter (c.from.result + 1)) Gang ∷ []) =
    ap (λ (cs : List Child). length cs) c.in_ok-add.ensures.ok in
    omega (arith, more, length-append c.args.self.now.family (new_child (OfOuter (c.from.result + 1)) Gang ∷ []), c.requires.over.count, member_slots w.header w.members (omega (arith, c.requires.step.0)), c.requires.step.0)
