use Rattle.std.proofs.Common.{◌≡◌, ◌++◌, ◌∷◌, [], ◌∙◌, List, length, IsTrue, sym, ap, subst, refl, arith}
use Rattle.zio_types.specs.declared.request.ChildKind.TheVariants.{Gang}
use Rattle.zio_types.specs.declared.place.Place.{Place}
use Rattle.zio_blkptr.specs.Pointers.{places_of, valid}
use Rattle.zio_blkptr.specs.declared.pointer.Bp.{Bp}
use Rattle.zio_frames.specs.Frames.{OfOuter, fresh_stack}
use Rattle.zio_frames.specs.Slots.{Slot}
use Rattle.zio_parts.specs.HeadWalks.{slots_of, walk_slots}
use Rattle.zio_stages.specs.CopiesNodes.{IsCopiesNode}
use Rattle.zio_stages.specs.HeadsNodes.{with_slots}
use Rattle.zio_stages.specs.HeadsWorks.{read_task}
use Rattle.zio_stages.specs.NodeChildren.{new_child}
use Rattle.zio_stages.specs.WriteIos.{AreIoPlaces}
use Rattle.zio_stages.specs.declared.heads_node.HeadsNode.{HeadsNode}
use Rattle.zio_stages.proofs.HeadsNodeLemmas.{hands, inside_first, read_kind}
use Rattle.zio_stages.proofs.HeadsOver.{count_more, head_lies, head_over, read_pointer}
use Rattle.zio_stages.proofs.HeadsTops.{io_places, some_places}
use Rattle.zio_stages.proofs.heads_node.HeadsNode.hand_out_head.Goals as goal

pub add-requires : goal.add-requires
add-requires c =
    let w = c.args.self.now.work.walk in
    let none : length (slots_of w) ≡ 0 = ap (λ k. length (walk_slots k w.members)) c.requires.step.0 in
    omega (arith, c.requires.over.count, none)

pub reading-requires-clause-io : goal.reading-requires-clause-io
reading-requires-clause-io c =
    let old = c.args.self.now in
    let bp : Bp = old.work.walk.bp in
    let is : c.in_ok-places.places ≡ places_of bp = c.in_ok-places.ensures.places ∙ ap places_of c.pointer.ensures in
    let count : length (places_of bp) ≡ bp.count = ap (λ (ps : List Place). length ps) (sym is) ∙ c.in_ok-places.ensures.count ∙ ap (λ (b : Bp). b.count) c.pointer.ensures in
    subst (AreIoPlaces c.args.tops.now) (sym is) (io_places c.args.tops.now bp c.requires.over.valid (head_lies c.args.tops.now old c.requires.over c.requires.step) count)

pub reading-requires-clause-some : goal.reading-requires-clause-some
reading-requires-clause-some c =
    let bp : Bp = c.args.self.now.work.walk.bp in
    let is : c.in_ok-places.places ≡ places_of bp = c.in_ok-places.ensures.places ∙ ap places_of c.pointer.ensures in
    let count : length (places_of bp) ≡ bp.count = ap (λ (ps : List Place). length ps) (sym is) ∙ c.in_ok-places.ensures.count ∙ ap (λ (b : Bp). b.count) c.pointer.ensures in
    let some = some_places bp c.requires.over.valid count in
    omega (arith, some, ap (λ (ps : List Place). length ps) is)

pub reading-requires-clause-valid : goal.reading-requires-clause-valid
reading-requires-clause-valid c =
    subst (λ (b : Bp). IsTrue (valid b)) (read_pointer c.args.self.now.work.walk c.hand_out_head-read.result c.hand_out_head-read.ensures.read) c.requires.over.valid

pub reading-requires-clause-at : goal.reading-requires-clause-at
reading-requires-clause-at c =
    c.in_ok-places.ensures.places ∙ ap places_of (c.pointer.ensures ∙ read_pointer c.args.self.now.work.walk c.hand_out_head-read.result c.hand_out_head-read.ensures.read)

pub returns-clause-hands : goal.returns-clause-hands
returns-clause-hands c = λ t st tops h.
    let old = c.args.self.now in
    let read = c.hand_out_head-read.result in
    let new : HeadsNode = record { work = c.hand_out_head-read.new.self; family = c.add.new.self; name = old.name; prio = old.prio } in
    let parts = c.hand_out_head-read.ensures.hands t (with_slots st.outer h.begun) h.part in
    let none : length h.begun ≡ 0 = ap (λ (xs : List Slot). length xs) h.part.slots ∙ ap (λ k. length (walk_slots k old.work.walk.members)) c.requires.step.0 in
    let family : c.add.new.self ≡ old.family ++ new_child (OfOuter (length h.begun)) Gang ∷ [] =
    c.in_ok-add.ensures.ok ∙ ap (λ n. old.family ++ new_child (OfOuter n) Gang ∷ []) (sym none) in
    hands t old new (λ op. IsCopiesNode t c.reading.result (fresh_stack op)) (read_task read) st h parts.0 (read_kind read) (c.reading.ensures.fresh t tops) parts.1 family
    (inside_first t st.outer.asked (read_task read) new.work.walk.members (h.part.full.lengths ∙ none))

pub returns-clause-over : goal.returns-clause-over
returns-clause-over c =
    let old = c.args.self.now in
    let new : HeadsNode = record { work = c.hand_out_head-read.new.self; family = c.add.new.self; name = old.name; prio = old.prio } in
    head_over c.args.tops.now old new c.hand_out_head-read.result c.requires.over c.hand_out_head-read.ensures.walk c.hand_out_head-read.ensures.heads refl
    c.hand_out_head-read.ensures.read c.hand_out_head-read.ensures.of
    (count_more old.family new.family _ (slots_of old.work.walk) (slots_of new.work.walk) _ c.requires.over.count c.in_ok-add.ensures.ok c.hand_out_head-read.ensures.slots)
