-- A tree of requests whose attempt begins, and what its request owes then.
use Rattle.std.proofs.Common.{◌≡◌, ℕ, ◌+◌, ◌*◌, ◌<◌, ◌≤◌, ◌-◌, List, [], ◌∷◌, ◌++◌, length, slice_get, Some, true, refl, sym, ap, subst, ◌∙◌, arith, length-append}
use Rattle.std.specs.List.{AllByRecursion}
use Rattle.zio_types.specs.declared.place.Top.{Top}
use Rattle.zio_masks.specs.declared.stage.Stage.TheVariants.{Start}
use Rattle.zio_script.specs.declared.script.Work.{Work}
use Rattle.zio_script.specs.declared.script.Work.TheVariants.{Null, Read, Write, Free, Claim}
use Rattle.zio_gang.specs.Attempts.{Terms}
use Rattle.zio_frames.specs.Frames.{Child, Stack}
use Rattle.zio_exchange.specs.Wholes.{joined}
use Rattle.zio_exchange.specs.declared.waiting.UnfinishedRequest.{UnfinishedRequest}
use Rattle.zio_stages.specs.KidLists.{AreBegun, IsListOf}
use Rattle.zio_stages.specs.KidPointers.{HasValid, HaveValidPointers}
use Rattle.zio_stages.specs.PartWorks.{HaveUnits}
use Rattle.zio_stages.specs.RequestNodes.{IsOwnOver, IsRequestNode}
use Rattle.zio_stages.specs.Tops.{AreTops}
use Rattle.zio_stages.specs.declared.request_node.Own.TheVariants.{Due}
use Rattle.zio_stages.specs.declared.request_node.RequestNode.{RequestNode}
use Rattle.zio_staged.specs.Stages.{GoesOn}
use Rattle.zio_nodes.specs.Nodes.{gave_of, nodes}
use Rattle.zio_nodes.specs.RequestAts.{IsRequestAtOver, IsRequestOver, freed_so_far, gave_by}
use Rattle.zio_nodes.specs.RequestBounds.{own_max, request_share}
use Rattle.zio_nodes.specs.TreeAts.{IsRequestInside, IsSoundOver, IsTreeAt, IsTreeAtOver, IsTreeOver}
use Rattle.zio_nodes.specs.declared.node.Node.{Node}
use Rattle.zio_nodes.specs.declared.node.Node.TheVariants.{Request, Tree}
use Rattle.zio_nodes.specs.declared.tree_at.TreeAt.{TreeAt}

-- ---- its trees

pub all_split : {X : Type 0} (P : X → Type 0) (xs ys : List X) → AllByRecursion P (xs ++ ys) → AllByRecursion P xs × AllByRecursion P ys
all_split P [] ys h = (tt, h)
all_split P (x ∷ xs) ys h = let r : AllByRecursion P xs × AllByRecursion P ys = all_split P xs ys h.1 in ((h.0, r.0), r.1)

each_tree : (tops : List Top) (trees : List (List UnfinishedRequest)) → AreTops tops → HaveUnits tops → AllByRecursion (IsRequestInside tops) (joined trees)
    → AllByRecursion (IsTreeOver tops) trees
each_tree tops [] are units h = tt
each_tree tops (ws ∷ trees) are units h =
    let s = all_split (IsRequestInside tops) ws (joined trees) h in
    (record { tops_are = are; units = units; each = s.0 }, each_tree tops trees are units s.1)

-- ---- nothing of it went back

pub gave_none : (work : Work) (r : RequestNode) → r.own ≡ Due → gave_by work r ≡ []
gave_none Null r due = refl
gave_none (Read name prio) r due = refl
gave_none (Write name sum copies prio body) r due = ap (λ own. gave_by (Write name sum copies prio body) (record r { own = own })) due
gave_none (Free name) r due = ap (λ own. freed_so_far own r.waiting.block) due
gave_none (Claim name pointer) r due = refl

-- ---- it begins

pub begins_over : (tops : List Top) (at : TreeAt) (r : RequestNode) → IsTreeAtOver tops at → IsListOf at.whole r.waiting r.kids → AreBegun r.waiting r.kids
    → r.kids.kids.kept ≡ r.waiting.kept → r.own ≡ Due → IsOwnOver tops r.own r.family → (AllByRecursion HasValid r.waiting.kept → HaveValidPointers r.kids.kids)
    → r.attempt ≡ at.attempt → IsRequestAtOver tops (record { node = r; stage = Start; is_due = true })
begins_over tops at r h list begun kept due own valid same =
    let all : AllByRecursion (IsRequestInside tops) (joined r.kids.due ++ r.waiting ∷ []) = subst (AllByRecursion (IsRequestInside tops)) list.list h.tree.each in
    let s = all_split (IsRequestInside tops) (joined r.kids.due) (r.waiting ∷ []) all in
    let root : IsRequestInside tops r.waiting = s.1.0 in
    let over : IsRequestOver tops r = record {
      own = own;
      tops_are = h.tree.tops_are;
      units = h.tree.units;
      few = subst (λ n. n < 4) (sym same) h.few;
      waiting = root.over;
      due = each_tree tops r.kids.due h.tree.tops_are h.tree.units s.0;
      again = subst (AllByRecursion (IsTreeOver tops)) (sym list.none) tt;
      marked = begun.marked;
      handed = begun.handed;
      pointers = valid root.kept;
      kept = kept;
      sound = subst (λ n. IsSoundOver n r.waiting) (λ i. sym begun.count i + length (sym kept i)) root.sound;
    } in
    record { over = over; stands = record { out = tt; own = (due, refl) } }

pub begins : (t : Terms) (st : Stack) (at : TreeAt) (r : RequestNode) → IsTreeAt t at st → r.own ≡ Due → IsRequestNode t r st
    → GoesOn {N = Node} nodes gave_of t (Tree at) st [] (Request (record { node = r; stage = Start; is_due = true }))
begins t st at r h due is = record {
  dids = [];
  gone = [];
  stack = st;
  does = refl;
  opens = tt;
  calls_are = refl;
  is = is;
  told = refl;
  gave_more = gave_none r.waiting.request.work r due;
}

-- ---- how often it runs

pub begins_less : (ws : List UnfinishedRequest) (due : List (List UnfinishedRequest)) (w : UnfinishedRequest) → ws ≡ joined due ++ w ∷ []
    → length (joined due) * request_share + own_max < length ws * request_share - 1
begins_less ws due w list =
    let n : ℕ = length (joined due) in
    let many : length ws ≡ n + 1 = ap length list ∙ length-append (joined due) (w ∷ []) in
    omega (arith, ap (λ (k : ℕ). k * request_share) many)

-- the one that is handed out is one share less
pub hands_less : (old new : List (List UnfinishedRequest)) (ws : List UnfinishedRequest) (own : ℕ) → old ≡ ws ∷ new → 1 ≤ length ws
    → length (joined new) * request_share + own + (length ws * request_share - 1) < length (joined old) * request_share + own
hands_less old new ws own first some =
    let n : ℕ = length (joined new) in
    let more : ℕ = length ws - 1 in
    let is : length ws ≡ more + 1 = omega (arith, some) in
    let many : length (joined old) ≡ length ws + n = ap (λ (ts : List (List UnfinishedRequest)). length (joined ts)) first ∙ length-append ws (joined new) in
    omega (arith, ap (λ (k : ℕ). k * request_share) is, ap (λ (k : ℕ). k * request_share) many)

-- ---- no child of it is out

none_there : (n : ℕ) (c : Child) → slice_get [] n ≡ Some c → ⊥
none_there n c e = cc

pub no_tree_child : (t : Terms) (at : TreeAt) (st : Stack) (n : ℕ) (c : Child) → IsTreeAt t at st → slice_get st.children n ≡ Some c → ⊥
no_tree_child t at st n c h there =
    let P : List Child → Type 0 = λ cs. slice_get cs n ≡ Some c in
    none_there n c (subst P (ap (λ (s : Stack). s.children) h.fresh) there)
