-- Tasks written as numbers, so that whether two are the same can be tested.
use Rattle.std.proofs.Common.{◌≡◌, ℕ, List, Bool, Option, true, refl, ap}
use Rattle.zio_types.specs.declared.journal.Key.{Key}
use Rattle.zio_types.specs.declared.journal.Role.{Role}
use Rattle.zio_types.specs.declared.journal.Role.TheVariants.{Body, Head}
use Rattle.zio_types.specs.Choices.{Ask}
use Rattle.zio_gang.specs.declared.tree.Head.{Head as KeptHead}
use Rattle.zio_trace.specs.Leaves.{LeafOp, Fetch, Store}
use Rattle.zio_trace.specs.Tasks.{Attempt, BodyOf, ByClaim, ByKept, ClaimedBy, Find, KeptAs, Leaf, Look, ReadCopies, ReadHeads, ReadTree, Settle, TakePlaces, Task, Test, WriteCopies, WritePart}
use Rattle.zio_frames.proofs.Codes.{Code, IsWritten, Number, Two, bool_written, code_is, code_itself, code_of_bool, code_of_list, code_of_numbers, code_of_option, list_written, numbers_written, option_written, same_code}
use Rattle.zio_frames.proofs.RequestCodes.{code_of_forest, code_of_head, code_of_pending, code_of_place, code_of_pointer, code_of_spot, code_of_sum, code_of_tree, forest_written, head_written, pending_written, place_written, pointer_written, spot_written, sum_written, tree_written}

code_of_act : LeafOp → Code
code_of_act (Fetch retry len spot) = Two (Number 0) (Two (code_of_bool retry) (Two (Number len) (code_of_spot spot)))
code_of_act (Store retry bytes spot) =
    Two (Number 1) (Two (code_of_bool retry) (Two (code_of_numbers bytes) (code_of_spot spot)))

act_written : IsWritten code_of_act
unfolding code_of_act
act_written (Fetch r n s) (Fetch q m t) e =
    let k : code_of_bool r ≡ code_of_bool q = cc in
    let a : r ≡ q = bool_written r q k in
    let b : n ≡ m = cc in
    let l : code_of_spot s ≡ code_of_spot t = cc in
    let c : s ≡ t = spot_written s t l in
    cc
act_written (Fetch r n s) (Store q m t) e = absurd (cc)
act_written (Store r n s) (Fetch q m t) e = absurd (cc)
act_written (Store r n s) (Store q m t) e =
    let k : code_of_bool r ≡ code_of_bool q = cc in
    let a : r ≡ q = bool_written r q k in
    let h : code_of_numbers n ≡ code_of_numbers m = cc in
    let b : n ≡ m = numbers_written n m h in
    let l : code_of_spot s ≡ code_of_spot t = cc in
    let c : s ≡ t = spot_written s t l in
    cc

code_of_role : Role → Code
code_of_role Body = Number 0
code_of_role Head = Number 1

role_written : IsWritten code_of_role
unfolding code_of_role
role_written Body Body e = refl
role_written Body Head e = absurd (cc)
role_written Head Body e = absurd (cc)
role_written Head Head e = refl

code_of_key : Key → Code
code_of_key k =
    Two (Number k.request) (Two (Number k.round) (Two (Number k.attempt) (Two (code_of_numbers k.path) (code_of_role k.role))))

key_written : IsWritten code_of_key
unfolding code_of_key
key_written x y e =
    let a : x.request ≡ y.request = cc in
    let b : x.round ≡ y.round = cc in
    let c : x.attempt ≡ y.attempt = cc in
    let k : code_of_numbers x.path ≡ code_of_numbers y.path = cc in
    let d = numbers_written x.path y.path k in
    let l : code_of_role x.role ≡ code_of_role y.role = cc in
    let f = role_written x.role y.role l in
    λ i. record { request = a i; round = b i; attempt = c i; path = d i; role = f i }

code_of_ask : Ask → Code
code_of_ask a = Two (code_of_key a.key) (Two (Number a.size) (Number a.copies))

ask_written : IsWritten code_of_ask
unfolding code_of_ask
ask_written x y e =
    let k : code_of_key x.key ≡ code_of_key y.key = cc in
    let a = key_written x.key y.key k in
    let b : x.size ≡ y.size = cc in
    let c : x.copies ≡ y.copies = cc in
    λ i. record { key = a i; size = b i; copies = c i }

code_of_test : Test → Code
code_of_test (BodyOf bp) = Two (Number 0) (code_of_pointer bp)
code_of_test (KeptAs kept) = Two (Number 1) (code_of_option code_of_numbers kept)
code_of_test (ClaimedBy bp) = Two (Number 2) (code_of_pointer bp)

test_written : IsWritten code_of_test
unfolding code_of_test
test_written (BodyOf x) (BodyOf y) e =
    let k : code_of_pointer x ≡ code_of_pointer y = cc in
    ap (λ b. BodyOf b) (pointer_written x y k)
test_written (KeptAs x) (KeptAs y) e =
    let k : code_of_option code_of_numbers x ≡ code_of_option code_of_numbers y = cc in
    ap (λ (b : Option (List ℕ)). KeptAs b) (option_written code_of_numbers numbers_written x y k)
test_written (ClaimedBy x) (ClaimedBy y) e =
    let k : code_of_pointer x ≡ code_of_pointer y = cc in
    ap (λ b. ClaimedBy b) (pointer_written x y k)
test_written _ _ e = absurd (cc)

code_of_look : Look → Code
code_of_look (ByKept heads) = Two (Number 0) (code_of_list code_of_head heads)
code_of_look ByClaim = Number 0

look_written : IsWritten code_of_look
unfolding code_of_look
look_written (ByKept x) (ByKept y) e =
    let k : code_of_list code_of_head x ≡ code_of_list code_of_head y = cc in
    ap (λ (b : List KeptHead). ByKept b) (list_written code_of_head head_written x y k)
look_written (ByKept x) ByClaim e = absurd (cc)
look_written ByClaim (ByKept y) e = absurd (cc)
look_written ByClaim ByClaim e = refl

-- ---- tasks

code_of_task : Task → Code
code_of_task (Leaf act) = Two (Number 0) (code_of_act act)
code_of_task (Find a) = Two (Number 1) (code_of_ask a)
code_of_task (ReadCopies repair test len places) =
    Two (Number 2) (Two (code_of_bool repair) (Two (code_of_test test) (Two (Number len) (code_of_list code_of_place places))))
code_of_task (WriteCopies bytes places) = Two (Number 3) (Two (code_of_numbers bytes) (code_of_list code_of_place places))
code_of_task (WritePart attempt p sum copies levels path bytes) =
    Two (Number 4)
    (Two (Number attempt) (Two (code_of_pending p) (Two (code_of_sum sum) (Two (Number copies) (Two (Number levels)
    (Two (code_of_numbers path) (code_of_numbers bytes)))))))
code_of_task (ReadHeads look levels path bp) =
    Two (Number 5) (Two (code_of_look look) (Two (Number levels) (Two (code_of_numbers path) (code_of_pointer bp))))
code_of_task (ReadTree tree) = Two (Number 6) (code_of_tree tree)
code_of_task (TakePlaces tree) = Two (Number 7) (code_of_tree tree)
code_of_task (Attempt attempt p kids) = Two (Number 8) (Two (Number attempt) (Two (code_of_pending p) (code_of_forest kids)))
code_of_task (Settle p kids) = Two (Number 9) (Two (code_of_pending p) (code_of_forest kids))

task_written : IsWritten code_of_task
unfolding code_of_task
task_written (Leaf x) (Leaf y) e =
    let k : code_of_act x ≡ code_of_act y = cc in
    ap (λ (a : LeafOp). Leaf a) (act_written x y k)
task_written (Find x) (Find y) e =
    let k : code_of_ask x ≡ code_of_ask y = cc in
    ap (λ (a : Ask). Find a) (ask_written x y k)
task_written (ReadCopies r s n x) (ReadCopies q t m y) e =
    let k : code_of_bool r ≡ code_of_bool q = cc in
    let a : r ≡ q = bool_written r q k in
    let l : code_of_test s ≡ code_of_test t = cc in
    let b : s ≡ t = test_written s t l in
    let c : n ≡ m = cc in
    let h : code_of_list code_of_place x ≡ code_of_list code_of_place y = cc in
    let d : x ≡ y = list_written code_of_place place_written x y h in
    cc
task_written (WriteCopies b x) (WriteCopies c y) e =
    let k : code_of_numbers b ≡ code_of_numbers c = cc in
    let a : b ≡ c = numbers_written b c k in
    let h : code_of_list code_of_place x ≡ code_of_list code_of_place y = cc in
    let d : x ≡ y = list_written code_of_place place_written x y h in
    cc
task_written (WritePart n p s c l x b) (WritePart m q t d k y f) e =
    let e0 : n ≡ m = cc in
    let k1 : code_of_pending p ≡ code_of_pending q = cc in
    let e1 : p ≡ q = pending_written p q k1 in
    let k2 : code_of_sum s ≡ code_of_sum t = cc in
    let e2 : s ≡ t = sum_written s t k2 in
    let e3 : c ≡ d = cc in
    let e4 : l ≡ k = cc in
    let k5 : code_of_numbers x ≡ code_of_numbers y = cc in
    let e5 : x ≡ y = numbers_written x y k5 in
    let k6 : code_of_numbers b ≡ code_of_numbers f = cc in
    let e6 : b ≡ f = numbers_written b f k6 in
    cc
task_written (ReadHeads s n x b) (ReadHeads t m y c) e =
    let k0 : code_of_look s ≡ code_of_look t = cc in
    let e0 : s ≡ t = look_written s t k0 in
    let e1 : n ≡ m = cc in
    let k2 : code_of_numbers x ≡ code_of_numbers y = cc in
    let e2 : x ≡ y = numbers_written x y k2 in
    let k3 : code_of_pointer b ≡ code_of_pointer c = cc in
    let e3 : b ≡ c = pointer_written b c k3 in
    cc
task_written (ReadTree x) (ReadTree y) e =
    let k : code_of_tree x ≡ code_of_tree y = cc in
    let a : x ≡ y = tree_written x y k in
    cc
task_written (TakePlaces x) (TakePlaces y) e =
    let k : code_of_tree x ≡ code_of_tree y = cc in
    let a : x ≡ y = tree_written x y k in
    cc
task_written (Attempt n p x) (Attempt m q y) e =
    let e0 : n ≡ m = cc in
    let k1 : code_of_pending p ≡ code_of_pending q = cc in
    let e1 : p ≡ q = pending_written p q k1 in
    let k2 : code_of_forest x ≡ code_of_forest y = cc in
    let e2 : x ≡ y = forest_written x y k2 in
    cc
task_written (Settle p x) (Settle q y) e =
    let k1 : code_of_pending p ≡ code_of_pending q = cc in
    let e1 : p ≡ q = pending_written p q k1 in
    let k2 : code_of_forest x ≡ code_of_forest y = cc in
    let e2 : x ≡ y = forest_written x y k2 in
    cc
task_written _ _ e = absurd (cc)

-- ---- the test

pub same_task : Task → Task → Bool
same_task x y = same_code (code_of_task x) (code_of_task y)

pub task_itself : (x : Task) → same_task x x ≡ true
unfolding same_task
task_itself x = code_itself (code_of_task x)

pub task_is : (x y : Task) → same_task x y ≡ true → x ≡ y
unfolding same_task
task_is x y e = task_written x y (code_is (code_of_task x) (code_of_task y) e)
