use Rattle.std.proofs.Common.{◌≡◌, ◌∷◌, ◌++◌, [], ◌∙◌, List, Some, length, reverse, sym, ap, subst}
use Rattle.std.specs.List.{AllByRecursion}
use Rattle.zio_gang.specs.Attempts.{Pending}
use Rattle.zio_children.specs.RequestKids.{RiseFrom, finished_in, kids_by, numbers_of}
use Rattle.zio_exchange.specs.declared.waiting.UnfinishedRequest.{UnfinishedRequest}
use Rattle.zio_exchange.specs.Waits.{pending_of}
use Rattle.zio_exchange.specs.Wholes.{AreTrees, IsTreeOf, IsWhole, counted, joined, roots_in}
use Rattle.zio_stages.specs.KidLists.{IsLeftList}
use Rattle.zio_stages.specs.KidTrees.{IsKids, KidsHeld, trees_left, with_kept}
use Rattle.zio_stages.proofs.KidListLemmas.{left_list}
use Rattle.zio_stages.proofs.AgainLemmas.{LeftBy, all_left, left_by, left_of_one, number_last, rise_left}
use Rattle.zio_stages.proofs.attempted.RequestKids.again.Goals as goal

pub grown-requires : goal.grown-requires
grown-requires c =
    let f = c.self.inside in
    let left : c.put_left.new.left.items ≡ trees_left f.again.items =
    rw c.replace.ensures.value at c.put_left.ensures in
    record {
      rising = subst (λ (ts : List (List UnfinishedRequest)). RiseFrom 0 (roots_in ts)) (sym left)
          (rise_left 0 (numbers_of f.kids.kids) f.again.items c.self.invariant.rising c.self.invariant.again);
    }

pub returns-clause-tree : goal.returns-clause-tree
returns-clause-tree c = λ attempt forest asked slots one is gone.
    let f = c.self.inside in
    let x : KidsHeld = record { kids = f.kids; due = reverse f.due.items; again = f.again.items } in
    let here : IsKids x attempt forest asked slots =
    subst (λ (z : KidsHeld). IsKids z attempt forest asked slots) (sym c.self.view_is) is in
    let whole : AllByRecursion IsWhole (trees_left x.again) = all_left (numbers_of x.kids.kids) x.again c.self.invariant.again in
    let left : LeftBy x.again (kids_by slots) = left_by x.again slots here.left whole in
    let p : Pending = with_kept (pending_of c.args.waiting.now) (finished_in x.kids) in
    let root : one.again ≡ p ∷ [] =
    gone ∙ ap (λ (z : KidsHeld). with_kept (pending_of c.args.waiting.now) (finished_in z.kids) ∷ []) (sym c.self.view_is) in
    let same : c.put_left.new.left.items ≡ trees_left x.again = rw c.replace.ensures.value at c.put_left.ensures in
    let trees : AreTrees c.put_left.new.left.items (kids_by slots).left =
    subst (λ (ts : List (List UnfinishedRequest)). AreTrees ts (kids_by slots).left) (sym same) left.are in
    let tree : IsTreeOf c.grown.result p (kids_by slots).left =
    subst (λ (q : Pending). IsTreeOf c.grown.result q (kids_by slots).left)
    (λ i. with_kept (pending_of ((c.deref_mut-2.ensures.value ∙ c.replace-2.ensures.value) i)) (c.in_ok-kept.ensures i))
    (c.grown.ensures.tree (kids_by slots).left trees) in
    left_of_one (kids_by slots) one p c.grown.result root tree left.list

pub returns-clause-list : goal.returns-clause-list
returns-clause-list c =
    let f = c.self.inside in
    let x : KidsHeld = record { kids = f.kids; due = reverse f.due.items; again = f.again.items } in
    let same : c.put_left.new.left.items ≡ trees_left x.again = rw c.replace.ensures.value at c.put_left.ensures in
    let w : c.deref_mut-2.result.now ≡ c.args.waiting.now = c.deref_mut-2.ensures.value ∙ c.replace-2.ensures.value in
    subst (λ (z : KidsHeld). IsLeftList c.grown.result c.args.waiting.now z) c.self.view_is
    (left_list c.grown.result c.args.waiting.now x c.in_ok-kept.kept c.in_ok-kept.ensures
    (c.grown.ensures.list
    ∙ (λ i. joined (same i) ++ counted (record (w i) { kept = c.in_ok-kept.kept }) (length (same i)) ∷ [])))

pub returns-clause-number : goal.returns-clause-number
returns-clause-number c =
    number_last (joined c.put_left.new.left.items) c.grown.result
    (counted (record c.deref_mut-2.result.now { kept = c.in_ok-kept.kept }) (length c.put_left.new.left.items)) c.grown.ensures.list
    ∙ ap (λ (w : UnfinishedRequest). Some w.request.number) (c.deref_mut-2.ensures.value ∙ c.replace-2.ensures.value)
