-- What a node gives back it holds, or it is of the block that it frees.
use Rattle.std.proofs.Common.{◌≡◌, ℕ, List, ◌++◌, take, Bool, true, false, Option, refl, sym, ap, subst, ◌∙◌}
use Rattle.std.specs.List.{AllByRecursion}
use Rattle.std.specs.Prelude.{Contains, IsPermutation, is_none}
use Rattle.std.proofs.lemmas.List.Elements.{Contains-append_left, Contains-append_right}
use Rattle.std.proofs.lemmas.List.Sorted.{Contains-permutation, IsPermutation-sym}
use Rattle.zio_types.specs.declared.place.Place.{Place}
use Rattle.zio_cksum.proofs.AllLemmas.{all_contained, all_take, all_weaker}
use Rattle.zio_script.specs.declared.script.Work.{Work}
use Rattle.zio_script.specs.declared.script.Work.TheVariants.{Null, Read, Write, Free, Claim}
use Rattle.zio_gang.specs.declared.tree.Tree.{Tree}
use Rattle.zio_gang.specs.Attempts.{Terms}
use Rattle.zio_frames.specs.Frames.{Stack}
use Rattle.zio_exchange.specs.Outcomes.{freed_if, freed_of, held_by}
use Rattle.zio_stages.specs.RequestNodes.{IsRequestNode}
use Rattle.zio_stages.specs.RequestStoreds.{given_by, made_by}
use Rattle.zio_stages.specs.StoredBlocks.{block_places}
use Rattle.zio_stages.specs.declared.request_node.Own.{Own}
use Rattle.zio_stages.specs.declared.request_node.Own.TheVariants.{Claim as ClaimOwn, Due, Found, Free as FreeOwn, Over, Read as ReadOwn, Stored, Write as WriteOwn}
use Rattle.zio_stages.specs.declared.request_node.RequestNode.{RequestNode}
use Rattle.zio_staged.specs.Stages.{AreItsOwn, may_free}
use Rattle.zio_nodes.specs.Nodes.{IsNode, gave_of}
use Rattle.zio_nodes.specs.RequestAts.{freed_so_far, gave_by}
use Rattle.zio_nodes.specs.declared.node.Node.{Node}
use Rattle.zio_nodes.specs.declared.node.Node.TheVariants.{Copies, Heads, Leaf, Part, Request, Tree as Root, Empty}
use Rattle.zio_nodes.proofs.StoredLemmas.{block_held}

-- the first of some places are among them
first_among : (n : ℕ) (places : List Place) → AllByRecursion (Contains places) (take n places)
first_among n places = all_take (Contains places) n places (all_contained places)

-- ---- a write

-- what went back of its block it holds
write_holds : (t : Terms) (r : RequestNode) (st : Stack) → IsRequestNode t r st
    → AllByRecursion (Contains (held_by st)) (take (given_by r.own) (made_by r.own))
write_holds t r st h = by r.own refl
  where
    by : (own : Own) → r.own ≡ own → AllByRecursion (Contains (held_by st)) (take (given_by own) (made_by own))
    by (Stored b) is =
        let made : List Place = block_places b.own.tree in
        let held : IsPermutation (held_by st) made =
        subst (IsPermutation (held_by st)) (ap made_by is) (block_held t r st h b is) in
        all_weaker (Contains made) (Contains (held_by st)) (take b.given made)
        (λ p c. Contains-permutation made (held_by st) p (IsPermutation-sym (held_by st) made held) c) (first_among b.given made)
    by Due is = tt
    by (WriteOwn w) is = tt
    by (ReadOwn w) is = tt
    by (FreeOwn w) is = tt
    by (ClaimOwn w) is = tt
    by (Found own) is = tt
    by Over is = tt

-- ---- a free

if_among : (b : Bool) (places : List Place) → AllByRecursion (Contains places) (freed_if b places)
if_among true places = all_contained places
if_among false places = tt

-- what went back is of its block
freed_among : (own : Own) (block : Option Tree) → AllByRecursion (Contains (block_places block)) (freed_so_far own block)
freed_among (FreeOwn w) block = first_among w.given (block_places block)
freed_among (Found own) block = if_among (is_none own.error) (block_places block)
freed_among Due block = tt
freed_among (WriteOwn w) block = tt
freed_among (Stored b) block = tt
freed_among (ReadOwn w) block = tt
freed_among (ClaimOwn w) block = tt
freed_among Over block = tt

-- ---- each node

request_owns : (t : Terms) (r : RequestNode) (st : Stack) → IsRequestNode t r st → AreItsOwn (gave_by r.waiting.request.work r) st
request_owns t r st h = by r.waiting.request.work refl
  where
    by : (work : Work) → r.waiting.request.work ≡ work → AreItsOwn (gave_by work r) st
    by (Write name sum copies prio body) is =
        all_weaker (Contains (held_by st)) (Contains (held_by st ++ may_free st.outer.op)) (take (given_by r.own) (made_by r.own))
        (λ p c. Contains-append_left (held_by st) (may_free st.outer.op) p c) (write_holds t r st h)
    by (Free name) is =
        let block : List Place = block_places r.waiting.block in
        let free : may_free st.outer.op ≡ block = ap may_free h.op ∙ ap (λ (work : Work). freed_of work r.waiting.block) is in
        all_weaker (Contains block) (Contains (held_by st ++ may_free st.outer.op)) (freed_so_far r.own r.waiting.block)
        (λ p c. Contains-append_right (held_by st) (may_free st.outer.op) p
        (subst (λ (ps : List Place). Contains ps p) (sym free) c))
        (freed_among r.own r.waiting.block)
    by Null is = tt
    by (Read name prio) is = tt
    by (Claim name pointer) is = tt

pub gives_own : (t : Terms) (node : Node) (st : Stack) → IsNode t node st → AreItsOwn (gave_of node) st
gives_own t (Request at) st h = request_owns t at.node st h
gives_own t (Leaf at) st h = tt
gives_own t (Copies at) st h = tt
gives_own t (Heads at) st h = tt
gives_own t (Part at) st h = tt
gives_own t (Root at) st h = tt
gives_own t Empty st h = absurd h
