-- The walk over headers under way: what its fields show, and what is left by each call.
use Rattle.std.proofs.Common.{◌≡◌, ℕ, zero, suc, ◌+◌, ◌<◌, ◌≤◌, List, [], ◌∷◌, ◌++◌, length, map, set, get_or, take, drop, slice_get, Bool, true, false, Option, Some, None, Ok, Err, IsTrue, refl, sym, ap, ◌∙◌, subst, arith, add-zero, append_assoc, append-nil, length-take}
use Rattle.std.specs.List.{AllByRecursion, cons_option}
use Rattle.std.proofs.lemmas.List.{map-append, map-set, take_more, take-append-drop, drop_more, drop-set-lt, length-map}
use Rattle.zio_types.specs.declared.error.Errno.{Errno}
use Rattle.zio_blkptr.specs.declared.pointer.Bp.{Bp}
use Rattle.zio_blkptr.specs.Pointers.{pointer_of, valid}
use Rattle.zio_blkptr.proofs.PointerLemmas.{spelling-pointer}
use Rattle.zio_cksum.specs.Headers.{members_of}
use Rattle.zio_trace.specs.Leaves.{Answer}
use Rattle.zio_trace.specs.Plans.{head_task, join_walked, plan_below, plan_found, plan_pointer, stopped, under_head}
use Rattle.zio_trace.specs.Programs.{Ends}
use Rattle.zio_trace.specs.Tasks.{Got, Look, ReadHeads, Task, Walked, WalkedBy, walked}
use Rattle.zio_frames.specs.Slots.{AsksBehindSlots, Heard, IsOut, left_behind_slots, told_in}
use Rattle.zio_parts.specs.HeadWalks.{following, header_left, is_any_out, is_followed, joined, joined_behind, member_slot, named_by, no_walk, pointer_left, walk_slots, with_member}
use Rattle.zio_parts.specs.WalkFields.{AreNone, IsAskedFor}
use Rattle.zio_parts.specs.declared.head_walk.Header.{Header}
use Rattle.zio_parts.specs.declared.head_walk.Header.TheVariants.{Unread, Out, Failed, Read}
use Rattle.zio_parts.proofs.AnsweredLemmas.{get_map, within_get}
use Rattle.zio_frames.proofs.SlotLemmas.{AnswerAll, AsksTasks, all_answered, answers_then, asks_then, next_behind_slots}

-- ---- the members of a header

few_three : (x y z : Option Bp) → length (cons_option x (cons_option y (cons_option z []))) ≤ 3
few_three None None None = omega arith
few_three None None (Some z) = omega arith
few_three None (Some y) None = omega arith
few_three None (Some y) (Some z) = omega arith
few_three (Some x) None None = omega arith
few_three (Some x) None (Some z) = omega arith
few_three (Some x) (Some y) None = omega arith
few_three (Some x) (Some y) (Some z) = omega arith

few_members : (bytes : List ℕ) → length (members_of bytes) ≤ 3
few_members bytes = few_three (pointer_of (take 128 bytes)) (pointer_of (take 128 (drop 128 bytes))) (pointer_of (take 128 (drop 256 bytes)))

pub few_named : (header : Header) → length (named_by header) ≤ 3
few_named Unread = omega arith
few_named Out = omega arith
few_named (Failed e) = omega arith
few_named (Read bytes) = few_members bytes

valid_cons : (o : Option Bp) (ms : List Bp) → ((m : Bp) → o ≡ Some m → IsTrue (valid m)) → AllByRecursion (λ m. IsTrue (valid m)) ms → AllByRecursion (λ m. IsTrue (valid m)) (cons_option o ms)
valid_cons None ms f h = h
valid_cons (Some m) ms f h = (f m refl, h)

members_valid : (bytes : List ℕ) → AllByRecursion (λ m. IsTrue (valid m)) (members_of bytes)
members_valid bytes =
    valid_cons (pointer_of (take 128 bytes)) _ (λ m e. (spelling-pointer (take 128 bytes) m e).0)
    (valid_cons (pointer_of (take 128 (drop 128 bytes))) _ (λ m e. (spelling-pointer (take 128 (drop 128 bytes)) m e).0)
    (valid_cons (pointer_of (take 128 (drop 256 bytes))) _ (λ m e. (spelling-pointer (take 128 (drop 256 bytes)) m e).0) tt))

all_get : {X : Type 0} (P : X → Type 0) (xs : List X) (n : ℕ) (x : X) → AllByRecursion P xs → slice_get xs n ≡ Some x → P x
all_get P [] n x h e = absurd (cc)
all_get P (y ∷ xs) zero x h e = let is : y ≡ x = cc in subst P is h.0
all_get P (y ∷ xs) (suc n) x h e = all_get P xs n x h.1 e

pub member_valid : (header : Header) (n : ℕ) (m : Bp) → slice_get (named_by header) n ≡ Some m → IsTrue (valid m)
member_valid Unread n m e = absurd (cc)
member_valid Out n m e = absurd (cc)
member_valid (Failed f) n m e = absurd (cc)
member_valid (Read bytes) n m e = all_get (λ (x : Bp). IsTrue (valid x)) (members_of bytes) n m (members_valid bytes) e

-- ---- the array

pub length_held : (h : ℕ) (left : List (Option Walked)) → length left ≡ 3 → h ≤ 3 → length (take h left) ≡ h
length_held h left e l = omega (arith, length-take h left)

pub held_room : (h : ℕ) (left : List (Option Walked)) (header : Header) → length left ≡ 3 → length (take h left) < length (named_by header) → (h < 3) × (h < length (named_by header))
held_room h left header e l =
    let few = few_named header in
    let taken = length-take h left in
    (omega (arith, taken, few), omega (arith, taken, few))

pub held_more : (h : ℕ) (left : List (Option Walked)) → length left ≡ 3 → h < 3 → AreNone (drop h left) → take (h + 1) left ≡ take h left ++ None ∷ []
held_more h left e l none =
    let next : get_or left h None ≡ None = (subst AreNone (drop_more left h None (omega arith)) none).0 in
    take_more left h None (omega arith) ∙ ap (λ x. take h left ++ x ∷ []) next

pub none_more : (h : ℕ) (left : List (Option Walked)) → length left ≡ 3 → h < 3 → AreNone (drop h left) → AreNone (drop (h + 1) left)
none_more h left e l none = (subst AreNone (drop_more left h None (omega arith)) none).1

pub none_behind : (h n : ℕ) (left : List (Option Walked)) (w : Option Walked) → n < h → AreNone (drop h left) → AreNone (drop h (set left n w))
none_behind h n left w l none = subst AreNone (sym (drop-set-lt h left n w l)) none

pub held_get : (h n : ℕ) (left : List (Option Walked)) (x : Option Walked) → slice_get (take h left) n ≡ Some x → n < h
held_get h n left x e = let within = within_get (take h left) n x e in omega (arith, within, length-take h left)

-- ---- calls

pub handed_slots : (header : Header) (members : List (Option Walked)) → length members < length (named_by header) → walk_slots header (members ++ None ∷ []) ≡ walk_slots header members ++ IsOut None ∷ []
handed_slots Unread members l = absurd (omega arith)
handed_slots Out members l = absurd (omega arith)
handed_slots (Failed e) members l = absurd (omega arith)
handed_slots (Read bytes) members l = ap (λ slots. Heard (Got (Ok bytes)) ∷ slots) (map-append member_slot members (None ∷ []))

pub heard_slots : (header : Header) (members : List (Option Walked)) (n : ℕ) (w : Walked) → 0 < length (named_by header) →
    walk_slots header (set members n (Some w)) ≡ set (walk_slots header members) (suc n) (Heard (WalkedBy w))
heard_slots Unread members n w l = absurd (omega arith)
heard_slots Out members n w l = absurd (omega arith)
heard_slots (Failed e) members n w l = absurd (omega arith)
heard_slots (Read bytes) members n w l = ap (λ slots. Heard (Got (Ok bytes)) ∷ slots) (map-set member_slot members n (Some w))

pub heard_out : (header : Header) (members : List (Option Walked)) (n : ℕ) → 0 < length (named_by header) → slice_get members n ≡ Some None →
    slice_get (walk_slots header members) (suc n) ≡ Some (IsOut None)
heard_out Unread members n l e = absurd (omega arith)
heard_out Out members n l e = absurd (omega arith)
heard_out (Failed f) members n l e = absurd (omega arith)
heard_out (Read bytes) members n l e = get_map member_slot members n None e

pub none_handed : (handed : ℕ) (members : List Bp) (header : Header) → members ≡ named_by header → handed ≤ length members → header ≡ Out → handed ≡ 0
none_handed handed members header named within out =
    let none : length members ≡ 0 = ap length (named ∙ ap named_by out) in
    omega arith

pub some_named : (handed : ℕ) (members : List Bp) (header : Header) (left : List (Option Walked)) (n : ℕ) → members ≡ named_by header → handed ≤ length members →
    slice_get (take handed left) n ≡ Some None → 0 < length (named_by header)
some_named handed members header left n named within e =
    let here = held_get handed n left None e in
    let same : length members ≡ length (named_by header) = ap length named in
    omega arith

pub out_slots : (header : Header) (members : List (Option Walked)) → header ≡ Out → slice_get (walk_slots header members) 0 ≡ Some (IsOut None)
out_slots header members out = rw out refl

pub read_slots : (handed : ℕ) (left : List (Option Walked)) (header : Header) (found : Answer) (bytes : List ℕ) → header ≡ Out → handed ≡ 0 → found ≡ Ok bytes →
    Heard (Got (Ok bytes)) ∷ map member_slot (take handed left) ≡ set (walk_slots header (take handed left)) 0 (Heard (Got found))
read_slots handed left header found bytes out none is = rw (out, none, is) refl

-- ---- the next operation

pub head_asked : (judged : Option Errno) (gang : Bool) (levels : ℕ) (look : Look) (path : List ℕ) (bp : Bp) → is_followed judged gang levels ≡ true →
    AsksBehindSlots [] (plan_pointer judged gang bp (following look levels path bp)) (head_task look path bp)
head_asked (Some e) gang levels look path bp f = absurd (cc)
head_asked None false levels look path bp f = absurd (cc)
head_asked None true zero look path bp f = absurd (cc)
head_asked None true (suc levels) look path bp f = refl

-- the walks below these members
abbrev pub walks_below : (List ℕ → Bp → Task) → List ℕ → ℕ → List Bp → List Task
walks_below down path n [] = []
walks_below down path n (m ∷ ms) = down (path ++ n ∷ []) m ∷ walks_below down path (n + 1) ms

pub below_asks : (down : List ℕ → Bp → Task) (path : List ℕ) (n : ℕ) (ms : List Bp) → AsksTasks (walks_below down path n ms) (plan_below down path n ms)
below_asks down path n [] = tt
below_asks down path n (m ∷ ms) = (refl, λ v. asks_then (walks_below down path (n + 1) ms) (plan_below down path (n + 1) ms) (λ others. Ends (join_walked (walked v) others)) (below_asks down path (n + 1) ms))

get_below : (down : List ℕ → Bp → Task) (path : List ℕ) (n : ℕ) (ms : List Bp) (i : ℕ) (m : Bp) → slice_get ms i ≡ Some m → slice_get (walks_below down path n ms) i ≡ Some (down (path ++ (n + i) ∷ []) m)
get_below down path n [] i m e = absurd (cc)
get_below down path n (x ∷ ms) zero m e =
    let is : x ≡ m = cc in
    ap (λ y. Some (down (path ++ n ∷ []) y)) is ∙ ap (λ k. Some (down (path ++ k ∷ []) m)) (sym (add-zero n))
get_below down path n (x ∷ ms) (suc i) m e =
    let same : (n + 1) + i ≡ n + suc i = omega arith in
    get_below down path (n + 1) ms i m e ∙ ap (λ k. Some (down (path ++ k ∷ []) m)) same

pub member_asked : (judged : Option Errno) (gang : Bool) (levels below : ℕ) (look : Look) (path : List ℕ) (bp m : Bp) (header : Header) (members : List (Option Walked)) → IsAskedFor (is_followed judged gang levels) header
    → below + 1 ≡ levels → slice_get (named_by header) (length members) ≡ Some m
    → AsksBehindSlots (walk_slots header members) (plan_pointer judged gang bp (following look levels path bp)) (ReadHeads look below (path ++ length members ∷ []) m)
member_asked judged gang levels below look path bp m Unread members a l e = absurd (cc)
member_asked judged gang levels below look path bp m Out members a l e = absurd (cc)
member_asked judged gang levels below look path bp m (Failed f) members a l e = absurd (cc)
member_asked (Some f) gang levels below look path bp m (Read bytes) members a l e = absurd (cc)
member_asked None false levels below look path bp m (Read bytes) members a l e = absurd (cc)
member_asked None true zero below look path bp m (Read bytes) members a l e = absurd (cc)
member_asked None true (suc levels) below look path bp m (Read bytes) members a l e =
    let same : levels ≡ below = omega arith in
    let down : List ℕ → Bp → Task = ReadHeads look levels in
    let op : Task = ReadHeads look below (path ++ length members ∷ []) m in
    let at_zero : 0 + length members ≡ length members = omega arith in
    let next : slice_get (walks_below down path 0 (members_of bytes)) (length (map member_slot members)) ≡ Some op =
    ap (λ n. slice_get (walks_below down path 0 (members_of bytes)) n) (length-map members member_slot)
    ∙ get_below down path 0 (members_of bytes) (length members) m e
    ∙ ap (λ k. Some (down (path ++ k ∷ []) m)) at_zero
    ∙ ap (λ k. Some (ReadHeads look k (path ++ length members ∷ []) m)) same in
    next_behind_slots (walks_below down path 0 (members_of bytes)) (map member_slot members) op (plan_found down path (Ok bytes))
    (asks_then (walks_below down path 0 (members_of bytes)) (plan_below down path 0 (members_of bytes)) (λ w. Ends (WalkedBy (under_head path bytes w))) (below_asks down path 0 (members_of bytes)))
    next

-- ---- the end

pub unfollowed_left : (judged : Option Errno) (gang : Bool) (levels : ℕ) (look : Look) (path : List ℕ) (bp : Bp) (below : Walked) → is_followed judged gang levels ≡ false →
    plan_pointer judged gang bp (following look levels path bp) ≡ Ends (WalkedBy (pointer_left judged gang levels bp below))
unfollowed_left (Some e) gang levels look path bp below f = refl
unfollowed_left None false levels look path bp below f = refl
unfollowed_left None true zero look path bp below f = refl
unfollowed_left None true (suc levels) look path bp below f = absurd (cc)

pub failed_left : (judged : Option Errno) (gang : Bool) (levels : ℕ) (look : Look) (path : List ℕ) (bp : Bp) (e : Errno) → is_followed judged gang levels ≡ true →
    left_behind_slots (Heard (Got (Err e)) ∷ []) (plan_pointer judged gang bp (following look levels path bp)) ≡ Ends (WalkedBy (pointer_left judged gang levels bp (stopped e)))
failed_left (Some f) gang levels look path bp e is = absurd (cc)
failed_left None false levels look path bp e is = absurd (cc)
failed_left None true zero look path bp e is = absurd (cc)
failed_left None true (suc levels) look path bp e is = refl

members_answer : (down : List ℕ → Bp → Task) (path : List ℕ) (n : ℕ) (ms : List Bp) (members : List (Option Walked)) → length members ≡ length ms → is_any_out members ≡ false
    → AnswerAll (map member_slot members) (plan_below down path n ms) (joined members)
members_answer down path n [] [] l q = refl
members_answer down path n [] (w ∷ members) l q = absurd (omega arith)
members_answer down path n (m ∷ ms) [] l q = absurd (omega arith)
members_answer down path n (m ∷ ms) (None ∷ members) l q = absurd (cc)
members_answer down path n (m ∷ ms) (Some w ∷ members) l q =
    answers_then (map member_slot members) (plan_below down path (n + 1) ms) (joined members) (λ others. Ends (join_walked w others)) (join_walked w (joined members))
    (members_answer down path (n + 1) ms members (omega arith) q) refl

pub read_left : (judged : Option Errno) (gang : Bool) (levels : ℕ) (look : Look) (path : List ℕ) (bp : Bp) (bytes : List ℕ) (members : List (Option Walked)) → is_followed judged gang levels ≡ true
    → length members ≡ length (members_of bytes) → is_any_out members ≡ false
    → left_behind_slots (walk_slots (Read bytes) members) (plan_pointer judged gang bp (following look levels path bp)) ≡ Ends (WalkedBy (pointer_left judged gang levels bp (header_left path (Read bytes) members)))
read_left (Some f) gang levels look path bp bytes members is l q = absurd (cc)
read_left None false levels look path bp bytes members is l q = absurd (cc)
read_left None true zero look path bp bytes members is l q = absurd (cc)
read_left None true (suc levels) look path bp bytes members is l q =
    let down : List ℕ → Bp → Task = ReadHeads look levels in
    all_answered (map member_slot members) (plan_found down path (Ok bytes)) (WalkedBy (under_head path bytes (joined members)))
    (answers_then (map member_slot members) (plan_below down path 0 (members_of bytes)) (joined members) (λ w. Ends (WalkedBy (under_head path bytes w))) (WalkedBy (under_head path bytes (joined members)))
    (members_answer down path 0 (members_of bytes) members l q) refl)

pub some_told : (members : List (Option Walked)) → is_any_out members ≡ true → 0 < length (told_in (map member_slot members))
some_told [] q = absurd (cc)
some_told (None ∷ members) q = omega arith
some_told (Some w ∷ members) q = some_told members q

pub none_told : (members : List (Option Walked)) → is_any_out members ≡ false → told_in (map member_slot members) ≡ []
none_told [] q = refl
none_told (None ∷ members) q = absurd (cc)
none_told (Some w ∷ members) q = none_told members q

-- ---- what it left

pub joined_more : (w : Walked) (members : List (Option Walked)) (m : Option Walked) → joined_behind w (members ++ m ∷ []) ≡ with_member (joined_behind w members) m
joined_more w [] m = refl
joined_more w (x ∷ members) m = joined_more (with_member w x) members m

join_assoc : (a b c : Walked) → join_walked (join_walked a b) c ≡ join_walked a (join_walked b c)
join_assoc a b c = λ i. record {
  errors = append_assoc a.errors b.errors c.errors i;
  bodies = append_assoc a.bodies b.bodies c.bodies i;
  heads = append_assoc a.heads b.heads c.heads i;
}

join_none : (a : Walked) → join_walked a no_walk ≡ a
join_none a = λ i. record { errors = append-nil a.errors i; bodies = append-nil a.bodies i; heads = append-nil a.heads i }

behind_joined : (w : Walked) (members : List (Option Walked)) → joined_behind w members ≡ join_walked w (joined members)
behind_joined w [] = sym (join_none w)
behind_joined w (None ∷ members) = behind_joined w members
behind_joined w (Some x ∷ members) = behind_joined (join_walked w x) members ∙ join_assoc w x (joined members)

joined_none : (front back : List (Option Walked)) → AreNone back → joined (front ++ back) ≡ joined front
joined_none [] [] h = refl
joined_none [] (None ∷ back) h = joined_none [] back h.1
joined_none [] (Some w ∷ back) h = absurd (let no : Some w ≡ None = h.0 in cc)
joined_none (None ∷ front) back h = joined_none front back h
joined_none (Some w ∷ front) back h = ap (join_walked w) (joined_none front back h)

pub all_joined : (path bytes : List ℕ) (h : ℕ) (left : List (Option Walked)) → AreNone (drop h left) → joined_behind (under_head path bytes no_walk) left ≡ under_head path bytes (joined (take h left))
all_joined path bytes h left none =
    behind_joined (under_head path bytes no_walk) left
    ∙ ap (under_head path bytes) (ap joined (sym (take-append-drop h left)) ∙ joined_none (take h left) (drop h left) none)

followed_left : (judged : Option Errno) (gang : Bool) (levels : ℕ) (bp : Bp) (below : Walked) → is_followed judged gang levels ≡ true → pointer_left judged gang levels bp below ≡ below
followed_left (Some e) gang levels bp below f = absurd (cc)
followed_left None false levels bp below f = absurd (cc)
followed_left None true zero bp below f = absurd (cc)
followed_left None true (suc levels) bp below f = refl

pub walked_read : (judged : Option Errno) (gang : Bool) (levels : ℕ) (bp : Bp) (path : List ℕ) (header : Header) (bytes : List ℕ) (handed : ℕ) (left : List (Option Walked)) (head : Walked) →
    IsAskedFor (is_followed judged gang levels) header → header ≡ Read bytes → AreNone (drop handed left) → head ≡ under_head path bytes no_walk →
    joined_behind head left ≡ pointer_left judged gang levels bp (header_left path header (take handed left))
walked_read judged gang levels bp path header bytes handed left head asked read none is =
    let f : is_followed judged gang levels ≡ true = subst (IsAskedFor (is_followed judged gang levels)) read asked in
    ap (λ w. joined_behind w left) is
    ∙ all_joined path bytes handed left none
    ∙ ap (λ h. header_left path h (take handed left)) (sym read)
    ∙ sym (followed_left judged gang levels bp (header_left path header (take handed left)) f)
