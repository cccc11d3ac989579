-- What goes again of a request, and of the tree under it, lies over the tops.
use Rattle.std.proofs.Common.{◌≡◌, ℕ, suc, ◌+◌, List, [], ◌∷◌, ◌++◌, length, map, reverse, Bool, true, false, not, cond, ◌≤◌, Option, Some, None, is_some, nat_le, refl, sym, ap, subst, ◌∙◌, arith, length-append, zero-add}
use Rattle.std.specs.List.{AllByRecursion}
use Rattle.std.specs.Prelude.{IfSome}
use Rattle.std.proofs.lemmas.List.{length-map}
use Rattle.std.proofs.lemmas.List.Elements.{filter-append}
use Rattle.zio_types.specs.declared.place.Top.{Top}
use Rattle.zio_script.specs.declared.script.Request.{Request}
use Rattle.zio_blkptr.specs.declared.pointer.TheConstants.{BLOCK_SIZE_MAX}
use Rattle.zio_cksum.proofs.AllLemmas.{all_append}
use Rattle.zio_script.specs.Requests.{kind_of}
use Rattle.zio_script.specs.Whys.{fits_work, is_write, size_with}
use Rattle.zio_gang.specs.Attempts.{Child, Return, children_of, finished_of, has_bits, insert_children}
use Rattle.zio_gang.specs.ByNumber.{insert_by, insert_if}
use Rattle.zio_children.specs.RequestKids.{KidsUnderWay, bits_by, child_of, finished_in, return_by, returns_in}
use Rattle.zio_children.specs.declared.kids.Kid.{Kid}
use Rattle.zio_exchange.specs.Wholes.{joined}
use Rattle.zio_exchange.specs.declared.waiting.UnfinishedRequest.{UnfinishedRequest}
use Rattle.zio_stages.specs.ClosedRequests.{Again, Closed, Finished}
use Rattle.zio_stages.specs.KidLists.{AreMarked, IsLeftList, LeavesList}
use Rattle.zio_stages.specs.KidTrees.{trees_left}
use Rattle.zio_stages.proofs.ReverseLemmas.{reverse_first}
use Rattle.zio_stages.specs.RequestOwns.{IsBlockOn}
use Rattle.zio_stages.specs.WrittenBlocks.{IsSoundWrite}
use Rattle.zio_stages.specs.declared.request_node.RequestNode.{RequestNode}
use Rattle.zio_stages.specs.Closings.{outcome_of}
use Rattle.zio_staged.specs.Stages.{OutcomeIn}
use Rattle.zio_nodes.specs.RequestAts.{IsRequestOver}
use Rattle.zio_nodes.specs.TreeAts.{IsRequestInside, IsSoundOver, IsTreeOver, is_childless}

-- ---- as many children as before

insert_length : (b : Bool) (x y : Child) (ys inserted : List Child) → length inserted ≡ suc (length ys) → length (insert_if b x y ys inserted) ≡ suc (suc (length ys))
insert_length true x y ys inserted e = refl
insert_length false x y ys inserted e = ap suc e

by_number_length : (x : Child) (ys : List Child) → length (insert_by (λ (c : Child). c.number) x ys) ≡ suc (length ys)
by_number_length x [] = refl
by_number_length x (y ∷ ys) = insert_length (nat_le x.number y.number) x y ys (insert_by (λ (c : Child). c.number) x ys) (by_number_length x ys)

merged_length : (xs ys : List Child) → length (insert_children xs ys) ≡ length xs + length ys
merged_length [] ys = sym (zero-add (length ys))
merged_length (x ∷ xs) ys =
    let one : length (insert_children (x ∷ xs) ys) ≡ suc (length (insert_children xs ys)) = by_number_length x (insert_children xs ys) in
    let more : length (insert_children xs ys) ≡ length xs + length ys = merged_length xs ys in
    omega (arith, one, more)

finished_append : (xs ys : List Return) → finished_of (xs ++ ys) ≡ finished_of xs ++ finished_of ys
finished_append xs ys = filter-append (λ (r : Return). not (has_bits r.bits)) xs ys

one_length : (b : Bool) (r : Return) (rs : List Return) → length (cond b (r ∷ rs) rs) ≡ length (cond b (r ∷ []) []) + length rs
one_length true r rs = omega arith
one_length false r rs = omega arith

finished_reverse : (rs : List Return) → length (finished_of (reverse rs)) ≡ length (finished_of rs)
finished_reverse [] = refl
finished_reverse (r ∷ rs) =
    let split : length (finished_of (reverse (r ∷ rs))) ≡ length (finished_of (reverse rs) ++ finished_of (r ∷ [])) =
    ap (λ xs. length (finished_of xs)) (reverse_first r rs) ∙ ap (λ (xs : List Return). length xs) (finished_append (reverse rs) (r ∷ [])) in
    let rest : length (finished_of (reverse rs)) ≡ length (finished_of rs) = finished_reverse rs in
    omega (arith, split, rest, length-append (finished_of (reverse rs)) (finished_of (r ∷ [])), one_length (not (has_bits r.bits)) r (finished_of rs))

-- one that doesn't go again counts among those that finished
marked_one : (bits : Bool) (left : Option (List UnfinishedRequest)) (r : Return) → bits ≡ is_some left
    → length (trees_left (left ∷ [])) + length (cond (not bits) (r ∷ []) []) ≡ 1
marked_one true None r e = absurd (cc)
marked_one true (Some ws) r e = refl
marked_one false None r e = refl
marked_one false (Some ws) r e = absurd (cc)

left_first : (left : Option (List UnfinishedRequest)) (again : List (Option (List UnfinishedRequest))) → length (trees_left (left ∷ again)) ≡ length (trees_left (left ∷ [])) + length (trees_left again)
left_first None again = sym (zero-add (length (trees_left again)))
left_first (Some ws) again = omega arith

marked_count : (kids : List Kid) (again : List (Option (List UnfinishedRequest))) → AreMarked kids again
    → length (trees_left again) + length (finished_of (map return_by kids)) ≡ length kids
marked_count [] [] h = refl
marked_count [] (a ∷ again) h = absurd h
marked_count (k ∷ kids) [] h = absurd h
marked_count (k ∷ kids) (a ∷ again) h =
    let r : Return = return_by k in
    let rest : length (trees_left again) + length (finished_of (map return_by kids)) ≡ length kids = marked_count kids again h.1 in
    omega (arith, rest, left_first a again, marked_one (has_bits (bits_by k.state)) a r h.0, one_length (not (has_bits r.bits)) r (finished_of (map return_by kids)))

left_count : (x : KidsUnderWay) (again : List (Option (List UnfinishedRequest))) → AreMarked x.kids again
    → length (trees_left again) + length (finished_in x) ≡ length x.kids + length x.kept
left_count x again h =
    omega (
      arith,
      marked_count x.kids again h,
      merged_length (children_of (finished_of (returns_in x))) (map child_of x.kept),
      length-map (finished_of (returns_in x)) (λ (r : Return). r.child),
      finished_reverse (map return_by x.kids),
      length-map x.kept child_of,
    )

-- ---- the request that goes again

written_still : (n m : ℕ) (w v : UnfinishedRequest) → m ≡ n → v.request ≡ w.request → v.birth ≡ w.birth → (is_write (kind_of w.request.work) ≡ true → IsSoundWrite n w)
    → is_write (kind_of v.request.work) ≡ true → IsSoundWrite m v
written_still n m w v count request birth h = λ is.
    let s : IsSoundWrite n w = h (subst (λ (r : Request). is_write (kind_of r.work) ≡ true) request is) in
    record {
      kind = is;
      range = subst (λ (r : Request). fits_work r.work ≡ true) (sym request) s.range;
      size = subst (λ (r : Request). size_with m r.work ≤ BLOCK_SIZE_MAX) (sym request) (subst (λ k. size_with k w.request.work ≤ BLOCK_SIZE_MAX) (sym count) s.size);
      born = subst (λ b. 1 ≤ b) (sym birth) s.born;
    }

same_sound : (n m : ℕ) (w v : UnfinishedRequest) → m ≡ n → v.request ≡ w.request → v.birth ≡ w.birth → IsSoundOver n w → IsSoundOver m v
same_sound n m w v count request birth h = record {
  write = written_still n m w v count request birth h.write;
  alone = λ is. count ∙ h.alone (subst (λ (r : Request). is_childless (kind_of r.work) ≡ true) request is);
}

all_inside : (tops : List Top) (trees : List (List UnfinishedRequest)) → AllByRecursion (IsTreeOver tops) trees → AllByRecursion (IsRequestInside tops) (joined trees)
all_inside tops [] h = tt
all_inside tops (ws ∷ trees) h = all_append (IsRequestInside tops) ws (joined trees) h.0.each (all_inside tops trees h.1)

left_tree : (tops : List Top) (r : RequestNode) (ws : List UnfinishedRequest) → IsRequestOver tops r → IsLeftList ws r.waiting r.kids → IsTreeOver tops ws
left_tree tops r ws h left =
    let w = left.root in
    let kept : length w.kept ≡ length (finished_in r.kids.kids) = sym (length-map w.kept child_of) ∙ ap (λ (cs : List Child). length cs) left.kept in
    let count : w.unfinished + length w.kept ≡ length r.kids.kids.kids + length r.kids.kids.kept =
    omega (arith, left.unfinished, kept, left_count r.kids.kids r.kids.again h.marked) in
    let root : IsRequestInside tops w = record {
      over = subst (λ b. IfSome b (IsBlockOn tops)) (sym left.block) h.waiting;
      kept = left.valid h.pointers;
      sound = same_sound (length r.kids.kids.kids + length r.kids.kids.kept) (w.unfinished + length w.kept) r.waiting w count left.request left.birth h.sound;
    } in
    record {
      tops_are = h.tops_are;
      units = h.units;
      each = subst (AllByRecursion (IsRequestInside tops)) (sym left.list)
          (all_append (IsRequestInside tops) (joined (trees_left r.kids.again)) (w ∷ []) (all_inside tops (trees_left r.kids.again) h.again) (root, tt));
    }

pub left_over : (tops : List Top) (r : RequestNode) (closed : Closed) (label : ℕ) → IsRequestOver tops r → LeavesList r closed
    → OutcomeIn (IsTreeOver tops) (outcome_of label closed)
left_over tops r (Finished waiting error own) label h left = tt
left_over tops r (Again bits whole own) label h left = left_tree tops r whole h left
