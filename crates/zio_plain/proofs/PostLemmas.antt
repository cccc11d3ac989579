-- Trees that stand one after another, and a request behind the trees of its children.
use Rattle.std.proofs.Common.{◌≡◌, ℕ, suc, ◌+◌, ◌-◌, ◌^◌, ◌<◌, ◌≤◌, List, [], ◌∷◌, ◌++◌, length, map, get_or, min, take, drop, reverse, count_by, cond, true, Option, Some, IfSome, is_some, refl, sym, ap, ◌∙◌, subst, arith, length-append, append_assoc}
use Rattle.std.specs.Prelude.{option_to_list}
use Rattle.std.specs.List.{AllByRecursion, flat_map}
use Rattle.std.proofs.lemmas.List.{reverse-append, map-append, take-append-le, drop-append-le, append-nil, length-map, length-reverse, take_more}
use Rattle.std.proofs.lemmas.List.Sums.{sum_by-cons}
use Rattle.std.proofs.Math.Seq.{drop-length, take-length}
use Rattle.std.proofs.lemmas.Grind.{flat_map-append}
use Rattle.zio_cksum.proofs.AllLemmas.{all_append}
use Rattle.zio_blkptr.specs.declared.pointer.TheConstants.{BLOCK_SIZE_MAX}
use Rattle.zio_script.specs.declared.script.Request.{Request}
use Rattle.zio_script.specs.declared.script.Work.{Work}
use Rattle.zio_script.specs.declared.script.Work.TheVariants.{Null, Read, Write, Free, Claim}
use Rattle.zio_script.specs.Accepted.{IsInRange}
use Rattle.zio_script.specs.Requests.{kind_of, needs_block}
use Rattle.zio_script.specs.Whys.{is_write, may_have, size_with}
use Rattle.zio_gang.specs.Attempts.{Pending}
use Rattle.zio_gang.specs.declared.tree.Tree.{Tree}
use Rattle.zio_course.specs.Runners.{AreRisingFrom, IsChild, IsNewTree, fresh, joined_trees, numbers_of, root_of, roots_of, tree_over}
use Rattle.zio_plain.specs.declared.waiting.Waiting.{Waiting}
use Rattle.zio_plain.specs.Posts.{AreBehindChildren, AreTrees, IsOneTree, IsOver, IsSound, children_in, met_after, requests_in}
use Rattle.zio_plain.specs.Waits.{HasPointer, child_of, pending_of, pendings}
use Rattle.zio_plain.specs.declared.waiting.Kept.{Kept}

drop_front : {X : Type 0} (n : ℕ) (xs ys : List X) → n ≤ length xs → drop n (xs ++ ys) ≡ drop n xs ++ ys
drop_front n xs ys h = drop-append-le n xs ys h

take_front : {X : Type 0} (n : ℕ) (xs ys : List X) → n ≤ length xs → take n (xs ++ ys) ≡ take n xs
take_front n xs ys h = take-append-le n xs ys h

over_more : (w : Waiting) (met outer : List Waiting) → IsOver w met → IsOver w (met ++ outer)
over_more w met outer h =
    let same : children_in w (met ++ outer) ≡ children_in w met = ap reverse (take_front w.unfinished met outer h.enough) in
    record {
      enough = omega (arith, h.enough, length-append met outer);
      under = subst (λ (ws : List Waiting). AllByRecursion (λ (r : Request). r.under ≡ Some w.request.number) (requests_in ws)) (sym same) h.under;
      rising = subst (λ (ws : List Waiting). AreRisingFrom 0 (numbers_of (requests_in ws))) (sym same) h.rising;
    }

-- what was met before stays below
pub behind_more : (met outer tree : List Waiting) → AreBehindChildren met tree → AreBehindChildren (met ++ outer) tree
behind_more met outer [] h = tt
behind_more met outer (w ∷ ws) h = (
  over_more w met outer h.0,
  subst (λ ms. AreBehindChildren (w ∷ ms) ws) (sym (drop_front w.unfinished met outer h.0.enough)) (behind_more (w ∷ drop w.unfinished met) outer ws h.1),
)

pub met_more : (met outer tree : List Waiting) → AreBehindChildren met tree → met_after (met ++ outer) tree ≡ met_after met tree ++ outer
met_more met outer [] h = refl
met_more met outer (w ∷ ws) h =
    ap (λ ms. met_after (w ∷ ms) ws) (drop_front w.unfinished met outer h.0.enough) ∙ met_more (w ∷ drop w.unfinished met) outer ws h.1

pub behind_then : (met front back : List Waiting) → AreBehindChildren met front → AreBehindChildren (met_after met front) back → AreBehindChildren met (front ++ back)
behind_then met [] back h k = k
behind_then met (w ∷ ws) back h k = (h.0, behind_then (w ∷ drop w.unfinished met) ws back h.1 k)

pub met_then : (met front back : List Waiting) → met_after met (front ++ back) ≡ met_after (met_after met front) back
met_then met [] back = refl
met_then met (w ∷ ws) back = met_then (w ∷ drop w.unfinished met) ws back

-- ---- the root

-- the last request is the one that was met last
root_met : (met : List Waiting) (w : Waiting) (ws : List Waiting) → (last : Waiting) × (below : List Waiting) × (met_after met (w ∷ ws) ≡ last ∷ below) × (root_of (pendings (w ∷ ws)) ≡ Some (pending_of last))
root_met met w [] = (w, drop w.unfinished met, refl, refl)
root_met met w (v ∷ ws) = root_met (w ∷ drop w.unfinished met) v ws

pub root_is : (fits : Tree → Type 0) (tree : List Waiting) (h : IsOneTree fits tree) → root_of (pendings tree) ≡ Some (pending_of h.root)
root_is fits [] h = let e : [] ≡ h.root ∷ [] = h.alone in absurd (cc)
root_is fits (w ∷ ws) h =
    let met = root_met [] w ws in
    let e : met.0 ∷ met.1 ≡ h.root ∷ [] = sym met.2 ∙ h.alone in
    let same : met.0 ≡ h.root = cc in
    met.3 ∙ ap (λ v. Some (pending_of v)) same

-- ---- one tree more

abbrev root_list : List Pending → List Pending
root_list tree = option_to_list (root_of tree)

pub trees_more : (fits : Tree → Type 0) (trees : List (List Pending)) (all tree : List Waiting) → AreTrees fits trees all → IsOneTree fits tree → AreTrees fits (trees ++ pendings tree ∷ []) (all ++ tree)
trees_more fits trees all tree h one =
    let met : List Waiting = met_after [] all in
    let after : met_after [] (all ++ tree) ≡ one.root ∷ met =
    met_then [] all tree ∙ met_more [] met tree one.ordered ∙ ap (λ ws. ws ++ met) one.alone in
    record {
      same = map-append pending_of all tree ∙ ap (λ ps. ps ++ pendings tree) h.same
          ∙ ap (λ ps. joined_trees trees ++ ps) (sym (append-nil (pendings tree)))
          ∙ sym (flat_map-append (λ (t : List Pending). t) trees (pendings tree ∷ []));
      ordered = behind_then [] all tree h.ordered (behind_more [] met tree one.ordered);
      roots = ap (λ ws. map pending_of (reverse ws)) after
          ∙ ap (map pending_of) (reverse-append (one.root ∷ []) met)
          ∙ map-append pending_of (reverse met) (one.root ∷ [])
          ∙ ap (λ ps. ps ++ pending_of one.root ∷ []) h.roots
          ∙ ap (λ ps. flat_map root_list trees ++ ps) (sym (append-nil (pending_of one.root ∷ [])) ∙ ap (λ r. option_to_list r ++ []) (sym (root_is fits tree one)))
          ∙ sym (flat_map-append root_list trees (pendings tree ∷ []));
      sound = all_append (IsSound fits) all tree h.sound one.sound;
    }

-- ---- a request over its children

abbrev request_of : Pending → Request
request_of p = p.request

roots_requests : (trees : List (List Pending)) → roots_of trees ≡ map request_of (flat_map root_list trees)
roots_requests [] = refl
roots_requests (t ∷ trees) = ap (λ rs. map request_of (root_list t) ++ rs) (roots_requests trees) ∙ sym (map-append request_of (root_list t) (flat_map root_list trees))

requests_seen : (ws : List Waiting) → map request_of (map pending_of ws) ≡ requests_in ws
requests_seen [] = refl
requests_seen (w ∷ ws) = ap (λ rs. w.request ∷ rs) (requests_seen ws)

length_requests : (ws : List Waiting) → length (requests_in ws) ≡ length ws
length_requests [] = refl
length_requests (w ∷ ws) = ap suc (length_requests ws)

unders : (r : Request) (rs : List Request) → AllByRecursion (IsChild r) rs → AllByRecursion (λ (q : Request). q.under ≡ Some r.number) rs
unders r [] h = tt
unders r (q ∷ rs) h = (h.0.under, unders r rs h.1)

abbrev writes_in : List Request → ℕ
writes_in rs = count_by (λ (q : Request). is_write (kind_of q.work)) rs

all_writes : (rs : List Request) → AllByRecursion (λ (q : Request). is_write (kind_of q.work) ≡ true) rs → writes_in rs ≡ length rs
all_writes [] h = refl
all_writes (q ∷ rs) h =
    let n : cond {A = ℕ} (is_write (kind_of q.work)) 1 0 ≡ 1 = ap (λ b. cond {A = ℕ} b 1 0) h.0 in
    let e : writes_in rs ≡ length rs = all_writes rs h.1 in
    let f : writes_in (q ∷ rs) ≡ cond {A = ℕ} (is_write (kind_of q.work)) 1 0 + writes_in rs = sum_by-cons (λ (q : Request). cond (is_write (kind_of q.work)) 1 0) q rs in
    omega arith

-- children of a write are writes, and others take no room
size_same : (r : Request) (work : Work) (rs : List Request) → r.work ≡ work → AllByRecursion (IsChild r) rs → size_with (writes_in rs) work ≡ size_with (length rs) work
size_same r Null rs e h = refl
size_same r (Read name prio) rs e h = refl
size_same r (Write name sum copies prio body) rs e h =
    ap (λ n. size_with n (Write name sum copies prio body)) (all_writes rs (each rs h))
  where
    each : (qs : List Request) → AllByRecursion (IsChild r) qs → AllByRecursion (λ (q : Request). is_write (kind_of q.work) ≡ true) qs
    each [] k = tt
    each (q ∷ qs) k = (subst (λ (w : Work). may_have (kind_of w) (kind_of q.work) ≡ true) e k.0.may, each qs k.1)
size_same r (Free name) rs e h = refl
size_same r (Claim name pointer) rs e h = refl

pub tree_made : (fits : Tree → Type 0) (r : Request) (birth : ℕ) (block : Option Tree) (trees : List (List Pending)) (all : List Waiting) (w : Waiting)
    → IsNewTree r birth block trees → IfSome block fits → AreTrees fits trees all
    → w.request ≡ r → w.birth ≡ birth → w.block ≡ block → w.kept ≡ [] → w.unfinished ≡ length trees
    → IsOneTree fits (all ++ w ∷ [])
tree_made fits r birth block trees all w new fit h request_is birth_is block_is kept_is open_is =
    let met : List Waiting = met_after [] all in
    let roots : roots_of trees ≡ requests_in (reverse met) =
    roots_requests trees ∙ ap (map request_of) (sym h.roots) ∙ requests_seen (reverse met) in
    let count : length met ≡ w.unfinished =
    sym (length-reverse met) ∙ sym (length_requests (reverse met)) ∙ ap length (sym roots) ∙ new.each ∙ sym open_is in
    let all_met : take w.unfinished met ≡ met = ap (λ n. take n met) (sym count) ∙ take-length met in
    let none_left : drop w.unfinished met ≡ [] = ap (λ n. drop n met) (sym count) ∙ drop-length met in
    let kids : requests_in (children_in w met) ≡ roots_of trees = ap (λ ws. requests_in (reverse ws)) all_met ∙ sym roots in
    let over : IsOver w met = record {
      enough = omega (arith, count);
      under = subst (AllByRecursion (λ (q : Request). q.under ≡ Some w.request.number)) (sym kids)
          (subst (λ (q : Request). AllByRecursion (λ (s : Request). s.under ≡ Some q.number) (roots_of trees)) (sym request_is) (unders r (roots_of trees) new.kinds));
      rising = subst (λ rs. AreRisingFrom 0 (numbers_of rs)) (sym kids) new.rising;
    } in
    let child_count : length w.kept + w.unfinished ≡ length (roots_of trees) =
    ap (λ (ks : List Kept). length ks + w.unfinished) kept_is ∙ (omega (arith, open_is, new.each)) in
    let sound : IsSound fits w = record {
      range = subst IsInRange (sym request_is) new.range;
      some = subst (λ n. 1 ≤ n) (sym birth_is) new.some;
      block_is = ap is_some block_is ∙ new.block_is ∙ ap (λ (q : Request). needs_block q.work) (sym request_is);
      fit = subst (λ b. IfSome b fits) (sym block_is) fit;
      few = omega (arith, child_count, new.each, new.few);
      size = subst (λ n. size_with n w.request.work ≤ BLOCK_SIZE_MAX) (sym child_count)
          (subst (λ (q : Request). size_with (length (roots_of trees)) q.work ≤ BLOCK_SIZE_MAX) (sym request_is)
          (subst (λ n. n ≤ BLOCK_SIZE_MAX) (size_same r r.work (roots_of trees) refl new.kinds) new.size));
      pointers = subst (AllByRecursion HasPointer) (sym kept_is) tt;
    } in
    record {
      ordered = behind_then [] all (w ∷ []) h.ordered (over, tt);
      root = w;
      alone = met_then [] all (w ∷ []) ∙ ap (λ ws. w ∷ ws) none_left;
      sound = all_append (IsSound fits) all (w ∷ []) h.sound (sound, tt);
    }

-- ---- trees joined in a loop

-- the trees before the rest are joined
pub record AreJoined (fits : Tree → Type 0) (trees rest : List (List Pending)) (all : List Waiting) : Type 0 where
  pub done : List (List Pending)
  pub split : trees ≡ done ++ rest
  pub joined : AreTrees fits done all

pub joined_begins : (fits : Tree → Type 0) (trees rest : List (List Pending)) (all : List Waiting) → trees ≡ rest → all ≡ [] → AreJoined fits trees rest all
joined_begins fits trees rest all same none = record {
  done = [];
  split = same;
  joined = subst (AreTrees fits []) (sym none) (record { same = refl; ordered = tt; roots = refl; sound = tt });
}

pub joined_step : (fits : Tree → Type 0) (trees rest next : List (List Pending)) (tree : List Pending) (all ws more after : List Waiting) → AreJoined fits trees rest all
    → rest ≡ tree ∷ next → pendings ws ≡ tree → IsOneTree fits ws → more ≡ ws → after ≡ all ++ more → AreJoined fits trees next after
joined_step fits trees rest next tree all ws more after h first seen one same appended = record {
  done = h.done ++ tree ∷ [];
  split = h.split ∙ ap (λ ts. h.done ++ ts) first ∙ sym (append_assoc h.done (tree ∷ []) next);
  joined = subst (AreTrees fits (h.done ++ tree ∷ [])) (ap (λ vs. all ++ vs) (sym same) ∙ sym appended)
      (subst (λ (t : List Pending). AreTrees fits (h.done ++ t ∷ []) (all ++ ws)) seen (trees_more fits h.done all ws h.joined one));
}

pub joined_ends : (fits : Tree → Type 0) (trees rest : List (List Pending)) (all result : List Waiting) → AreJoined fits trees rest all → rest ≡ [] → result ≡ all → AreTrees fits trees result
joined_ends fits trees rest all result h none same =
    let whole : h.done ≡ trees = sym (append-nil h.done) ∙ ap (λ ts. h.done ++ ts) (sym none) ∙ sym h.split in
    subst (AreTrees fits trees) (sym same) (subst (λ (ts : List (List Pending)). AreTrees fits ts all) whole h.joined)

-- how many requests the trees have that stand before a tree, it, and those behind it
joined_count : (done next : List (List Pending)) (tree : List Pending)
    → length (joined_trees (done ++ tree ∷ next)) ≡ length (joined_trees done) + (length tree + length (joined_trees next))
joined_count done next tree =
    ap length (flat_map-append (λ (t : List Pending). t) done (tree ∷ next))
    ∙ length-append (joined_trees done) (tree ++ joined_trees next)
    ∙ ap (λ n. length (joined_trees done) + n) (length-append tree (joined_trees next))

-- the next tree's requests fit into room for all
pub joined_fits : (fits : Tree → Type 0) (trees rest next : List (List Pending)) (tree : List Pending) (all ws more : List Waiting) (room : ℕ)
    → AreJoined fits trees rest all → length (joined_trees trees) + 1 ≤ room → rest ≡ tree ∷ next → pendings ws ≡ tree → more ≡ ws
    → length all + length more ≤ room
joined_fits fits trees rest next tree all ws more room h enough first seen same =
    let count : length (joined_trees trees) ≡ length (joined_trees h.done) + (length tree + length (joined_trees next)) =
    ap (λ (ts : List (List Pending)). length (joined_trees ts)) (h.split ∙ ap (λ ts. h.done ++ ts) first) ∙ joined_count h.done next tree in
    let before : length all ≡ length (joined_trees h.done) = sym (length-map all pending_of) ∙ ap length h.joined.same in
    let of_tree : length more ≡ length tree = ap length same ∙ sym (length-map ws pending_of) ∙ ap length seen in
    omega (arith, count, before, of_tree, enough)

-- and then one more
pub joined_room : (fits : Tree → Type 0) (trees : List (List Pending)) (all : List Waiting) (room : ℕ) → AreTrees fits trees all
    → length (joined_trees trees) + 1 ≤ room → length all < room
joined_room fits trees all room h enough =
    let count : length all ≡ length (joined_trees trees) = sym (length-map all pending_of) ∙ ap length h.same in
    omega (arith, count, enough)

-- room for one tree more, as far as it can be counted
pub room_more : (trees : List (List Pending)) (i room size after : ℕ) (tree : List Pending)
    → room ≡ min (length (joined_trees (take i trees)) + 1) (2 ^ 64 - 1) → i < length trees → tree ≡ get_or trees i tree → size ≡ length tree
    → after ≡ min (room + size) (2 ^ 64 - 1) → after ≡ min (length (joined_trees (take (i + 1) trees)) + 1) (2 ^ 64 - 1)
room_more trees i room size after tree h l is sized more =
    let all : length (joined_trees (take (i + 1) trees)) ≡ length (joined_trees (take i trees)) + (length tree + 0) =
    ap (λ (ts : List (List Pending)). length (joined_trees ts)) (take_more trees i tree l ∙ ap (λ (t : List Pending). take i trees ++ t ∷ []) (sym is))
    ∙ joined_count (take i trees) [] tree in
    omega (arith, h, sized, more, all)

pub tree_grown : (fits : Tree → Type 0) (r : Request) (birth : ℕ) (block : Option Tree) (trees : List (List Pending)) (all after : List Waiting) (w : Waiting)
    → after ≡ all ++ w ∷ [] → IsNewTree r birth block trees → IfSome block fits → AreTrees fits trees all
    → w.request ≡ r → w.birth ≡ birth → w.block ≡ block → w.kept ≡ [] → w.unfinished ≡ length trees
    → IsOneTree fits after
tree_grown fits r birth block trees all after w is new fit h request_is birth_is block_is kept_is open_is =
    subst (IsOneTree fits) (sym is) (tree_made fits r birth block trees all w new fit h request_is birth_is block_is kept_is open_is)

pub tree_seen : (fits : Tree → Type 0) (r : Request) (birth : ℕ) (block : Option Tree) (trees : List (List Pending)) (all after : List Waiting) (w : Waiting)
    → after ≡ all ++ w ∷ [] → AreTrees fits trees all → w.request ≡ r → w.birth ≡ birth → w.block ≡ block → w.kept ≡ []
    → pendings after ≡ tree_over trees (fresh r birth block)
tree_seen fits r birth block trees all after w is h request_is birth_is block_is kept_is =
    let seen : pending_of w ≡ fresh r birth block = λ i. record { request = request_is i; birth = birth_is i; block = block_is i; kept = map child_of (kept_is i) } in
    ap pendings is ∙ map-append pending_of all (w ∷ []) ∙ ap (λ ps. ps ++ pending_of w ∷ []) h.same ∙ ap (λ p. joined_trees trees ++ p ∷ []) seen
