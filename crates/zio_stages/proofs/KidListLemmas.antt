-- What is left of a request's children by list, and the pointers that it keeps.
use Rattle.std.proofs.Common.{◌≡◌, ℕ, zero, suc, List, [], ◌∷◌, ◌++◌, length, map, replicate, cond, not, Bool, true, false, None, refl, sym, subst}
use Rattle.std.specs.List.{AllByRecursion}
use Rattle.zio_gang.specs.Attempts.{Return, children_of, finished_of, has_bits}
use Rattle.zio_children.specs.RequestKids.{KidsUnderWay, child_of, finished_in, return_by, returns_in}
use Rattle.zio_children.specs.declared.kept.KeptChild.{KeptChild}
use Rattle.zio_exchange.specs.Wholes.{counted, joined}
use Rattle.zio_exchange.specs.declared.waiting.UnfinishedRequest.{UnfinishedRequest}
use Rattle.zio_stages.specs.KidLists.{IsLeftList}
use Rattle.zio_stages.specs.KidPointers.{HasValid, HaveValidPointers}
use Rattle.zio_stages.specs.KidTrees.{KidsHeld, trees_left}
use Rattle.zio_stages.proofs.KidPointerLemmas.{IsValidIn, IsValidReturn, children_valid, kept_valid, merged_valid, returns_valid}
use Rattle.zio_stages.proofs.ReverseLemmas.{all_reversed}

pub none_left_of : (n : ℕ) → trees_left (replicate n None) ≡ []
none_left_of zero = refl
none_left_of (suc n) = none_left_of n

-- ---- the children that finished have valid pointers

one_valid : (b : Bool) (r : Return) (rs : List Return) → IsValidReturn r → AllByRecursion IsValidReturn rs
    → AllByRecursion IsValidReturn (cond b (r ∷ rs) rs)
one_valid true r rs h k = (h, k)
one_valid false r rs h k = k

filter_valid : (rs : List Return) → AllByRecursion IsValidReturn rs → AllByRecursion IsValidReturn (finished_of rs)
filter_valid [] h = tt
filter_valid (r ∷ rs) h = one_valid (not (has_bits r.bits)) r (finished_of rs) h.0 (filter_valid rs h.1)

valid_back : (kept : List KeptChild) → AllByRecursion IsValidIn (map child_of kept) → AllByRecursion HasValid kept
valid_back [] h = tt
valid_back (k ∷ kept) h = (h.0, valid_back kept h.1)

finished_valid : (x : KidsUnderWay) → HaveValidPointers x → AllByRecursion IsValidIn (finished_in x)
finished_valid x h =
    merged_valid (children_of (finished_of (returns_in x))) (map child_of x.kept)
    (children_valid (finished_of (returns_in x))
    (filter_valid (returns_in x) (all_reversed IsValidReturn (map return_by x.kids) (returns_valid x.kids h.told))))
    (kept_valid x.kept h.kept)

-- ---- what goes again

pub left_list : (ws : List UnfinishedRequest) (w : UnfinishedRequest) (x : KidsHeld) (kept : List KeptChild) → map child_of kept ≡ finished_in x.kids
    → ws ≡ joined (trees_left x.again) ++ counted (record w { kept = kept }) (length (trees_left x.again)) ∷ []
    → IsLeftList ws w x
left_list ws w x kept same list = record {
  root = counted (record w { kept = kept }) (length (trees_left x.again));
  list = list;
  request = refl;
  birth = refl;
  block = refl;
  unfinished = refl;
  kept = same;
  valid = λ h. valid_back kept (subst (AllByRecursion IsValidIn) (sym same) (finished_valid x.kids h));
}
