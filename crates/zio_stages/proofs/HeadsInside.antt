-- Where a claim's walk met no error, all places of the block that it found lie on the tops.
use Rattle.std.proofs.Common.{◌≡◌, ℕ, zero, suc, ◌+◌, ◌<◌, ◌≤◌, List, [], ◌∷◌, ◌++◌, length, map, slice_get, Bool, true, false, Option, Some, None, Ok, IsTrue, refl, sym, ap, subst, ◌∙◌, arith, append-nil}
use Rattle.std.specs.List.{flat_map, list_all}
use Rattle.std.proofs.lemmas.Grind.{flat_map-append}
use Rattle.std.proofs.lemmas.List.{length-map}
use Rattle.zio_types.specs.declared.error.Errno.{Errno}
use Rattle.zio_types.specs.declared.error.Errno.TheVariants.{Cksum, Inval}
use Rattle.zio_types.specs.declared.place.Place.{Place}
use Rattle.zio_types.specs.declared.place.TopSize.{TopSize}
use Rattle.zio_blkptr.specs.declared.pointer.Bp.{Bp}
use Rattle.zio_blkptr.specs.Pointers.{places_of}
use Rattle.zio_cksum.specs.Headers.{members_of}
use Rattle.zio_gang.specs.declared.tree.Head.{Head}
use Rattle.zio_gang.specs.Attempts.{Terms}
use Rattle.zio_gang.specs.Trees.{inval_unless, is_claimable, piece_size, sizes_of, tree_places}
use Rattle.zio_trace.specs.Plans.{TaskPlan, plan, plan_below, plan_found, plan_pointer, stopped, under_head}
use Rattle.zio_trace.specs.Programs.{Asks, Ends}
use Rattle.zio_trace.specs.Tasks.{ByClaim, Look, ReadHeads, Task, Value, Walked, WalkedBy}
use Rattle.zio_frames.specs.Frames.{Stack}
use Rattle.zio_frames.specs.Slots.{Heard, IsOut, Slot, left_behind_slots, told_in}
use Rattle.zio_frames.proofs.SlotLemmas.{AsksTasks, asks_then}
use Rattle.zio_parts.specs.HeadWalks.{ShowsWalk, body_of, following, header_left, is_followed, joined, look_of, member_slot, named_by, pointer_left, walk_left, walk_slots}
use Rattle.zio_parts.specs.declared.head_walk.Header.{Header}
use Rattle.zio_parts.specs.declared.head_walk.Header.TheVariants.{Unread, Out, Failed, Read}
use Rattle.zio_parts.specs.declared.head_walk.WalkStep.TheVariants.{End}
use Rattle.zio_parts.proofs.WalkLemmas.{below_asks, walks_below}
use Rattle.zio_exchange.specs.Outcomes.{ClaimsInside}
use Rattle.zio_exchange.specs.SpaceCalls.{LieOnTops}
use Rattle.zio_stages.specs.HeadsNodes.{IsHeadsNode}
use Rattle.zio_stages.specs.HeadsWorks.{HasAsked, IsWalkBelow, walk_task}
use Rattle.zio_stages.specs.declared.heads_node.HeadsNode.{HeadsNode}
use Rattle.zio_stages.proofs.HeadsTops.{claimable_lies}

-- ---- all members were walked

-- a program that ends behind these slots asked no more than they are
pub asked_by_end : {A : Type 0} (ops : List Task) (slots : List Slot) (p : TaskPlan A) (a : A) → AsksTasks ops p → left_behind_slots slots p ≡ Ends a → length ops ≤ length slots
asked_by_end [] slots p a h e = omega arith
asked_by_end (op ∷ ops) slots (Ends b) a h e = absurd h
asked_by_end (op ∷ ops) [] (Asks x more) a h e = absurd (cc)
asked_by_end (op ∷ ops) (Heard v ∷ slots) (Asks x more) a h e = let l : length ops ≤ length slots = asked_by_end ops slots (more v) a (h.1 v) e in omega arith
asked_by_end (op ∷ ops) (IsOut told ∷ slots) (Asks x more) a h e = absurd (cc)

below_many : (down : List ℕ → Bp → Task) (path : List ℕ) (n : ℕ) (ms : List Bp) → length (walks_below down path n ms) ≡ length ms
below_many down path n [] = refl
below_many down path n (m ∷ ms) = ap suc (below_many down path (n + 1) ms)

-- as many members were handed out as the header names
walked_all : (judged : Option Errno) (gang : Bool) (levels : ℕ) (look : Look) (path : List ℕ) (bp : Bp) (bytes : List ℕ) (members : List (Option Walked)) (v : Value) → is_followed judged gang levels ≡ true
    → left_behind_slots (walk_slots (Read bytes) members) (plan_pointer judged gang bp (following look levels path bp)) ≡ Ends v → length (members_of bytes) ≤ length members
walked_all (Some e) gang levels look path bp bytes members v f h = absurd (cc)
walked_all None false levels look path bp bytes members v f h = absurd (cc)
walked_all None true zero look path bp bytes members v f h = absurd (cc)
walked_all None true (suc levels) look path bp bytes members v f h =
    let down : List ℕ → Bp → Task = ReadHeads look levels in
    let ops : List Task = walks_below down path 0 (members_of bytes) in
    let asks : AsksTasks ops (plan_found down path (Ok bytes)) =
    asks_then ops (plan_below down path 0 (members_of bytes)) (λ w. Ends (WalkedBy (under_head path bytes w))) (below_asks down path 0 (members_of bytes)) in
    let l : length ops ≤ length (map member_slot members) = asked_by_end ops (map member_slot members) (plan_found down path (Ok bytes)) v asks h in
    omega (arith, below_many down path 0 (members_of bytes), length-map members member_slot)

-- ---- the members' places

-- where it met no error its places lie there
abbrev pub IsIn : List TopSize → Bp → Walked → Type 0
IsIn sizes m left = left.errors ≡ [] → LieOnTops sizes (tree_places (record { bp = m; heads = left.heads }))

-- each of these members was walked, and does so
pub record AreIn (sizes : List TopSize) (ms : List Bp) (members : List (Option Walked)) : Type 0 where
  pub same : length members ≡ length ms
  pub heard : told_in (map member_slot members) ≡ []
  pub each : (n : ℕ) (m : Bp) (left : Walked) → slice_get ms n ≡ Some m → slice_get members n ≡ Some (Some left) → IsIn sizes m left

parts_nil : {X : Type 0} (xs ys : List X) → xs ++ ys ≡ [] → (xs ≡ []) × (ys ≡ [])
parts_nil [] ys e = (refl, e)
parts_nil (x ∷ xs) ys e = absurd (cc)

abbrev named_in : Head → List Bp
named_in h = members_of h.bytes

-- the members' own places, and those of what was found below them
pub record FoundIn (sizes : List TopSize) (ms : List Bp) (heads : List Head) : Type 0 where
  pub own : LieOnTops sizes (flat_map places_of ms)
  pub below : LieOnTops sizes (flat_map places_of (flat_map named_in heads))

append_lies : (sizes : List TopSize) (xs ys : List Place) → LieOnTops sizes xs → LieOnTops sizes ys → LieOnTops sizes (xs ++ ys)
append_lies sizes [] ys h k = k
append_lies sizes (x ∷ xs) ys h k = (h.0, append_lies sizes xs ys h.1 k)

front_lies : (sizes : List TopSize) (xs ys : List Place) → LieOnTops sizes (xs ++ ys) → LieOnTops sizes xs
front_lies sizes [] ys h = tt
front_lies sizes (x ∷ xs) ys h = (h.0, front_lies sizes xs ys h.1)

back_lies : (sizes : List TopSize) (xs ys : List Place) → LieOnTops sizes (xs ++ ys) → LieOnTops sizes ys
back_lies sizes [] ys h = h
back_lies sizes (x ∷ xs) ys h = back_lies sizes xs ys h.1

members_in : (sizes : List TopSize) (ms : List Bp) (members : List (Option Walked)) → AreIn sizes ms members → (joined members).errors ≡ [] → FoundIn sizes ms (joined members).heads
members_in sizes [] [] h none = record { own = tt; below = tt }
members_in sizes [] (x ∷ members) h none = absurd (omega (arith, h.same))
members_in sizes (m ∷ ms) [] h none = absurd (omega (arith, h.same))
members_in sizes (m ∷ ms) (None ∷ members) h none = absurd (let no = h.heard in cc)
members_in sizes (m ∷ ms) (Some w ∷ members) h none =
    let errors = parts_nil w.errors (joined members).errors none in
    let here : LieOnTops sizes (places_of m ++ flat_map places_of (flat_map named_in w.heads)) = h.each 0 m w refl refl errors.0 in
    let rest : FoundIn sizes ms (joined members).heads =
    members_in sizes ms members (record { same = omega (arith, h.same); heard = h.heard; each = λ n b left e is. h.each (suc n) b left e is }) errors.1 in
    let split : flat_map places_of (flat_map named_in (w.heads ++ (joined members).heads)) ≡ flat_map places_of (flat_map named_in w.heads) ++ flat_map places_of (flat_map named_in (joined members).heads) =
    ap (flat_map places_of) (flat_map-append named_in w.heads (joined members).heads) ∙ flat_map-append places_of (flat_map named_in w.heads) (flat_map named_in (joined members).heads) in
    record {
      own = append_lies sizes (places_of m) (flat_map places_of ms) (front_lies sizes (places_of m) (flat_map places_of (flat_map named_in w.heads)) here) rest.own;
      below = subst (LieOnTops sizes) (sym split)
          (append_lies sizes (flat_map places_of (flat_map named_in w.heads)) (flat_map places_of (flat_map named_in (joined members).heads))
          (back_lies sizes (places_of m) (flat_map places_of (flat_map named_in w.heads)) here) rest.below);
    }

-- ---- the walk's

-- a pointer without headers
alone_in : (sizes : List TopSize) (bp : Bp) → LieOnTops sizes (places_of bp) → LieOnTops sizes (tree_places (record { bp = bp; heads = [] }))
alone_in sizes bp h = subst (LieOnTops sizes) (sym (append-nil (places_of bp))) h

left_in : (sizes : List TopSize) (judged : Option Errno) (gang : Bool) (levels : ℕ) (path : List ℕ) (bp : Bp) (header : Header) (members : List (Option Walked))
    → (judged ≡ None → LieOnTops sizes (places_of bp))
    → ((bytes : List ℕ) → header ≡ Read bytes → is_followed judged gang levels ≡ true → AreIn sizes (members_of bytes) members)
    → IsIn sizes bp (pointer_left judged gang levels bp (header_left path header members))
left_in sizes (Some e) gang levels path bp header members own below none = absurd (cc)
left_in sizes None false levels path bp header members own below none = alone_in sizes bp (own refl)
left_in sizes None true zero path bp header members own below none = absurd (cc)
left_in sizes None true (suc levels) path bp Unread members own below none = alone_in sizes bp (own refl)
left_in sizes None true (suc levels) path bp Out members own below none = alone_in sizes bp (own refl)
left_in sizes None true (suc levels) path bp (Failed e) members own below none = absurd (cc)
left_in sizes None true (suc levels) path bp (Read bytes) members own below none =
    let found : FoundIn sizes (members_of bytes) (joined members).heads = members_in sizes (members_of bytes) members (below bytes refl refl) none in
    let split : flat_map places_of (members_of bytes ++ flat_map named_in (joined members).heads) ≡ flat_map places_of (members_of bytes) ++ flat_map places_of (flat_map named_in (joined members).heads) =
    flat_map-append places_of (members_of bytes) (flat_map named_in (joined members).heads) in
    append_lies sizes (places_of bp) (flat_map places_of (members_of bytes ++ flat_map named_in (joined members).heads)) (own refl)
    (subst (LieOnTops sizes) (sym split) (append_lies sizes (flat_map places_of (members_of bytes)) (flat_map places_of (flat_map named_in (joined members).heads)) found.own found.below))

-- ---- the pointer was judged

other_errors : (w x : Walked) → ◌≡◌ {A = TaskPlan Value} (Ends (WalkedBy w)) (Ends (WalkedBy x)) → w.errors ≡ x.errors
other_errors w x e = ap (λ (y : Walked). y.errors) (let same : w ≡ x = cc in same)

judged_by : (b : Bool) (gang : Bool) (levels : ℕ) (look : Look) (path : List ℕ) (bp : Bp) (follow : TaskPlan Value)
    → plan_pointer None gang bp (following look levels path bp) ≡ plan_pointer (inval_unless b) gang bp follow → IsTrue b
judged_by true gang levels look path bp follow e = refl
judged_by false false levels look path bp follow e = absurd (let no = other_errors (body_of bp) (stopped Inval) e in cc)
judged_by false true zero look path bp follow e = absurd (let no = other_errors (stopped Cksum) (stopped Inval) e in cc)
judged_by false true (suc levels) look path bp follow e = absurd (cc)

-- a claim's pointer was judged by these tops
claim_judged : (t : Terms) (judged : Option Errno) (levels : ℕ) (look : Look) (path : List ℕ) (bp : Bp) → judged ≡ None
    → plan_pointer judged bp.gang bp (following look levels path bp) ≡ plan t (ReadHeads ByClaim levels path bp) → LieOnTops (sizes_of t.setting.tops) (places_of bp)
claim_judged t judged zero look path bp none e =
    claimable_lies (sizes_of t.setting.tops) (piece_size bp) (places_of bp)
    (judged_by (list_all (is_claimable (sizes_of t.setting.tops) (piece_size bp)) (places_of bp)) bp.gang zero look path bp (Ends (WalkedBy (stopped Cksum)))
    (ap (λ j. plan_pointer j bp.gang bp (following look zero path bp)) (sym none) ∙ e))
claim_judged t judged (suc levels) look path bp none e =
    claimable_lies (sizes_of t.setting.tops) (piece_size bp) (places_of bp)
    (judged_by (list_all (is_claimable (sizes_of t.setting.tops) (piece_size bp)) (places_of bp)) bp.gang (suc levels) look path bp (following ByClaim (suc levels) path bp)
    (ap (λ j. plan_pointer j bp.gang bp (following look (suc levels) path bp)) (sym none) ∙ e))

-- ---- of a node

get_some : {X : Type 0} (xs : List X) (n : ℕ) → n < length xs → (x : X) × (slice_get xs n ≡ Some x)
get_some [] n l = absurd (omega arith)
get_some (x ∷ xs) zero l = (x, refl)
get_some (x ∷ xs) (suc n) l = get_some xs n (omega arith)

within : {X : Type 0} (xs : List X) (n : ℕ) (x : X) → slice_get xs n ≡ Some x → n < length xs
within [] n x e = absurd (cc)
within (y ∷ xs) zero x e = omega arith
within (y ∷ xs) (suc n) x e = let l : n < length xs = within xs n x e in omega arith

-- no more members were handed out than named
no_more : (look : Look) (path : List ℕ) (bp : Bp) (ms : List Bp) (asked : List Task) (k : ℕ) → length asked ≡ suc k → HasAsked look path bp ms asked → k ≤ length ms
no_more look path bp ms asked zero many h = omega arith
no_more look path bp ms asked (suc k) many h =
    let there = get_some asked (suc k) (omega (arith, many)) in
    let below : IsWalkBelow look path ms k there.0 = h (suc k) there.0 there.1 in
    let l : k < length ms = within ms k below.member below.named in
    omega arith

claim_in : (t : Terms) (op : Task) (levels : ℕ) (path : List ℕ) (m : Bp) (left : Walked) → op ≡ ReadHeads ByClaim levels path m → ClaimsInside t op left → IsIn (sizes_of t.setting.tops) m left
claim_in t op levels path m left e h = subst (λ (q : Task). ClaimsInside t q left) e h

read_slots : (header : Header) (members : List (Option Walked)) (bytes : List ℕ) → header ≡ Read bytes → walk_slots header members ≡ walk_slots (Read bytes) members
read_slots header members bytes e = ap (λ k. walk_slots k members) e

-- those of a claim that were heard
members_of_claim : (t : Terms) (node : HeadsNode) (st : Stack) (h : IsHeadsNode t node st) → node.work.walk.claim ≡ true → ShowsWalk node.work.walk End
    → (bytes : List ℕ) → node.work.walk.header ≡ Read bytes → is_followed node.work.walk.judged node.work.walk.bp.gang node.work.walk.levels ≡ true
    → AreIn (sizes_of t.setting.tops) (members_of bytes) node.work.walk.members
members_of_claim t node st h claim end bytes is f =
    let w = node.work.walk in
    let look : Look = look_of w.claim h.part.heads in
    let slots : walk_slots w.header w.members ≡ walk_slots (Read bytes) w.members = read_slots w.header w.members bytes is in
    let ended : left_behind_slots (walk_slots (Read bytes) w.members) (plan_pointer w.judged w.bp.gang w.bp (following (look_of w.claim []) w.levels w.path w.bp)) ≡ Ends (WalkedBy (walk_left w)) =
    ap (λ s. left_behind_slots s (plan_pointer w.judged w.bp.gang w.bp (following (look_of w.claim []) w.levels w.path w.bp))) (sym slots) ∙ end.1 [] in
    let least : length (members_of bytes) ≤ length w.members = walked_all w.judged w.bp.gang w.levels (look_of w.claim []) w.path w.bp bytes w.members (WalkedBy (walk_left w)) f ended in
    let many : length st.outer.asked ≡ suc (length w.members) =
    h.part.full.lengths ∙ ap length h.part.slots ∙ ap length slots ∙ ap suc (length-map w.members member_slot) in
    let named : HasAsked look w.path w.bp (members_of bytes) st.outer.asked = subst (λ k. HasAsked look w.path w.bp (named_by k) st.outer.asked) is h.part.asked in
    let most : length w.members ≤ length (members_of bytes) = no_more look w.path w.bp (members_of bytes) st.outer.asked (length w.members) many named in
    record {
      same = omega (arith, least, most);
      heard = ap told_in (sym slots) ∙ end.0;
      each = λ n m left e got.
          let there = get_some st.outer.asked (suc n) (let l : n < length w.members = within w.members n (Some left) got in omega (arith, many)) in
          let below : IsWalkBelow look w.path (members_of bytes) n there.0 = named (suc n) there.0 there.1 in
          let mine : below.member ≡ m = (let both : Some below.member ≡ Some m = sym below.named ∙ e in cc) in
          let op : there.0 ≡ ReadHeads ByClaim below.levels (w.path ++ n ∷ []) m =
          below.is ∙ ap (λ b. ReadHeads (look_of b h.part.heads) below.levels (w.path ++ n ∷ []) below.member) claim ∙ ap (ReadHeads ByClaim below.levels (w.path ++ n ∷ [])) mine in
          claim_in t there.0 below.levels (w.path ++ n ∷ []) m left op (h.inside n there.0 left there.1 got);
    }

pub walk_inside : (t : Terms) (node : HeadsNode) (st : Stack) (walked : Walked) → IsHeadsNode t node st → ShowsWalk node.work.walk End → walked ≡ walk_left node.work.walk → ClaimsInside t st.outer.op walked
walk_inside t node st walked h end is =
    subst (λ (op : Task). ClaimsInside t op walked) (sym h.part.op)
    (subst (λ (left : Walked). ClaimsInside t (walk_task (look_of node.work.walk.claim h.part.heads) node.work) left) (sym is) (by node.work.walk.claim refl))
  where
    by : (claim : Bool) → node.work.walk.claim ≡ claim → ClaimsInside t (ReadHeads (look_of claim h.part.heads) node.work.walk.levels node.work.walk.path node.work.walk.bp) (walk_left node.work.walk)
    by false e = tt
    by true e =
        let w = node.work.walk in
        let look : Look = look_of w.claim h.part.heads in
        let op : st.outer.op ≡ ReadHeads ByClaim w.levels w.path w.bp = h.part.op ∙ ap (λ b. ReadHeads (look_of b h.part.heads) w.levels w.path w.bp) e in
        left_in (sizes_of t.setting.tops) w.judged w.bp.gang w.levels w.path w.bp w.header w.members
        (λ none. claim_judged t w.judged w.levels look w.path w.bp none (h.part.plan ∙ ap (plan t) op))
        (members_of_claim t node st h e end)
