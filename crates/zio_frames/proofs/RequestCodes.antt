-- Places, pointers and requests written as numbers.
use Rattle.std.proofs.Common.{◌≡◌, ℕ, List, refl, ap}
use Rattle.zio_types.specs.declared.error.Errno.{Errno}
use Rattle.zio_types.specs.declared.error.Errno.TheVariants.{Nxio, Cksum, Io, Nospc, Inval, Exist, Noent}
use Rattle.zio_types.specs.declared.place.Place.{Place}
use Rattle.zio_types.specs.declared.request.Prio.{Prio}
use Rattle.zio_types.specs.declared.request.Prio.TheVariants.{SyncRead, SyncWrite, AsyncRead, AsyncWrite, Scrub}
use Rattle.zio_blkptr.specs.declared.pointer.Bp.{Bp}
use Rattle.zio_blkptr.specs.declared.pointer.SumKind.{SumKind}
use Rattle.zio_blkptr.specs.declared.pointer.SumKind.TheVariants.{Off, Fletcher4, Sha256}
use Rattle.zio_script.specs.declared.script.Body.{Body}
use Rattle.zio_script.specs.declared.script.Body.TheVariants.{Hex, Fill, Seq}
use Rattle.zio_script.specs.declared.script.Request.{Request}
use Rattle.zio_script.specs.declared.script.Work.{Work}
use Rattle.zio_script.specs.declared.script.Work.TheVariants.{Null, Read, Write, Free, Claim}
use Rattle.zio_cksum.specs.Images.{Spot}
use Rattle.zio_gang.specs.declared.tree.Head.{Head}
use Rattle.zio_gang.specs.declared.tree.Tree.{Tree}
use Rattle.zio_gang.specs.Attempts.{Child, Pending}
use Rattle.zio_trace.specs.Families.{Forest, NoTrees, TreeOf}
use Rattle.zio_frames.proofs.Codes.{Code, IsWritten, Number, Two, bool_written, code_of_bool, code_of_list, code_of_numbers, code_of_option, list_written, number_written, numbers_written, option_written}

-- ---- places and pointers

pub code_of_place : Place → Code
code_of_place p = Two (Number p.top) (Two (Number p.sector) (Number p.sectors))

pub place_written : IsWritten code_of_place
unfolding code_of_place
place_written x y e =
    let a : x.top ≡ y.top = cc in
    let b : x.sector ≡ y.sector = cc in
    let c : x.sectors ≡ y.sectors = cc in
    λ i. record { top = a i; sector = b i; sectors = c i }

pub code_of_spot : Spot → Code
code_of_spot s = Two (Number s.leaf) (Two (Number s.at) (Number s.span))

pub spot_written : IsWritten code_of_spot
unfolding code_of_spot
spot_written x y e =
    let a : x.leaf ≡ y.leaf = cc in
    let b : x.at ≡ y.at = cc in
    let c : x.span ≡ y.span = cc in
    λ i. record { leaf = a i; at = b i; span = c i }

pub code_of_sum : SumKind → Code
code_of_sum Off = Number 0
code_of_sum Fletcher4 = Number 1
code_of_sum Sha256 = Number 2

pub sum_written : IsWritten code_of_sum
unfolding code_of_sum
sum_written Off Off e = refl
sum_written Fletcher4 Fletcher4 e = refl
sum_written Sha256 Sha256 e = refl
sum_written _ _ e = absurd (cc)

pub code_of_pointer : Bp → Code
code_of_pointer b =
    Two (Number b.count)
    (Two (code_of_list code_of_place b.places) (Two (code_of_bool b.gang) (Two (Number b.size) (Two (code_of_sum b.sum)
    (Two (Number b.birth) (code_of_numbers b.words))))))

pub pointer_written : IsWritten code_of_pointer
unfolding code_of_pointer
pointer_written x y e =
    let a : x.count ≡ y.count = cc in
    let k : code_of_list code_of_place x.places ≡ code_of_list code_of_place y.places = cc in
    let b = list_written code_of_place place_written x.places y.places k in
    let l : code_of_bool x.gang ≡ code_of_bool y.gang = cc in
    let c = bool_written x.gang y.gang l in
    let d : x.size ≡ y.size = cc in
    let m : code_of_sum x.sum ≡ code_of_sum y.sum = cc in
    let f = sum_written x.sum y.sum m in
    let g : x.birth ≡ y.birth = cc in
    let n : code_of_numbers x.words ≡ code_of_numbers y.words = cc in
    let h = numbers_written x.words y.words n in
    λ i. record { count = a i; places = b i; gang = c i; size = d i; sum = f i; birth = g i; words = h i }

pub code_of_head : Head → Code
code_of_head h = Two (code_of_numbers h.path) (code_of_numbers h.bytes)

pub head_written : IsWritten code_of_head
unfolding code_of_head
head_written x y e =
    let k : code_of_numbers x.path ≡ code_of_numbers y.path = cc in
    let a = numbers_written x.path y.path k in
    let l : code_of_numbers x.bytes ≡ code_of_numbers y.bytes = cc in
    let b = numbers_written x.bytes y.bytes l in
    λ i. record { path = a i; bytes = b i }

pub code_of_tree : Tree → Code
code_of_tree t = Two (code_of_pointer t.bp) (code_of_list code_of_head t.heads)

pub tree_written : IsWritten code_of_tree
unfolding code_of_tree
tree_written x y e =
    let k : code_of_pointer x.bp ≡ code_of_pointer y.bp = cc in
    let a = pointer_written x.bp y.bp k in
    let l : code_of_list code_of_head x.heads ≡ code_of_list code_of_head y.heads = cc in
    let b = list_written code_of_head head_written x.heads y.heads l in
    λ i. record { bp = a i; heads = b i }

-- ---- requests

code_of_errno : Errno → Code
code_of_errno Nxio = Number 0
code_of_errno Cksum = Number 1
code_of_errno Io = Number 2
code_of_errno Nospc = Number 3
code_of_errno Inval = Number 4
code_of_errno Exist = Number 5
code_of_errno Noent = Number 6

errno_written : IsWritten code_of_errno
unfolding code_of_errno
errno_written Nxio Nxio e = refl
errno_written Cksum Cksum e = refl
errno_written Io Io e = refl
errno_written Nospc Nospc e = refl
errno_written Inval Inval e = refl
errno_written Exist Exist e = refl
errno_written Noent Noent e = refl
errno_written _ _ e = absurd (cc)

code_of_child : Child → Code
code_of_child c = Two (Number c.number) (Two (code_of_option code_of_errno c.error) (code_of_option code_of_pointer c.pointer))

child_written : IsWritten code_of_child
unfolding code_of_child
child_written x y e =
    let a : x.number ≡ y.number = cc in
    let k : code_of_option code_of_errno x.error ≡ code_of_option code_of_errno y.error = cc in
    let b = option_written code_of_errno errno_written x.error y.error k in
    let l : code_of_option code_of_pointer x.pointer ≡ code_of_option code_of_pointer y.pointer = cc in
    let c = option_written code_of_pointer pointer_written x.pointer y.pointer l in
    λ i. record { number = a i; error = b i; pointer = c i }

code_of_body : Body → Code
code_of_body (Hex bytes) = Two (Number 0) (code_of_numbers bytes)
code_of_body (Fill byte len) = Two (Number 1) (Two (Number byte) (Number len))
code_of_body (Seq seed len) = Two (Number 2) (Two (Number seed) (Number len))

body_written : IsWritten code_of_body
unfolding code_of_body
body_written (Hex x) (Hex y) e =
    let k : code_of_numbers x ≡ code_of_numbers y = cc in
    ap (λ (z : List ℕ). Hex z) (numbers_written x y k)
body_written (Fill x n) (Fill y m) e = let a : x ≡ y = cc in let b : n ≡ m = cc in cc
body_written (Seq x n) (Seq y m) e = let a : x ≡ y = cc in let b : n ≡ m = cc in cc
body_written _ _ e = absurd (cc)

code_of_prio : Prio → Code
code_of_prio SyncRead = Number 0
code_of_prio SyncWrite = Number 1
code_of_prio AsyncRead = Number 2
code_of_prio AsyncWrite = Number 3
code_of_prio Scrub = Number 4

prio_written : IsWritten code_of_prio
unfolding code_of_prio
prio_written SyncRead SyncRead e = refl
prio_written SyncWrite SyncWrite e = refl
prio_written AsyncRead AsyncRead e = refl
prio_written AsyncWrite AsyncWrite e = refl
prio_written Scrub Scrub e = refl
prio_written _ _ e = absurd (cc)

code_of_work : Work → Code
code_of_work Null = Number 0
code_of_work (Read name prio) = Two (Number 0) (Two (code_of_numbers name) (code_of_prio prio))
code_of_work (Write name sum copies prio body) =
    Two (Number 1)
    (Two (code_of_numbers name) (Two (code_of_sum sum) (Two (Number copies) (Two (code_of_prio prio) (code_of_body body)))))
code_of_work (Free name) = Two (Number 2) (code_of_numbers name)
code_of_work (Claim name pointer) = Two (Number 3) (Two (code_of_numbers name) (code_of_numbers pointer))

work_written : IsWritten code_of_work
unfolding code_of_work
work_written Null Null e = refl
work_written (Read x p) (Read y q) e =
    let k : code_of_numbers x ≡ code_of_numbers y = cc in
    let a : x ≡ y = numbers_written x y k in
    let l : code_of_prio p ≡ code_of_prio q = cc in
    let b : p ≡ q = prio_written p q l in
    cc
work_written (Write x s n p b) (Write y t m q c) e =
    let k : code_of_numbers x ≡ code_of_numbers y = cc in
    let a : x ≡ y = numbers_written x y k in
    let l : code_of_sum s ≡ code_of_sum t = cc in
    let d : s ≡ t = sum_written s t l in
    let f : n ≡ m = cc in
    let g : code_of_prio p ≡ code_of_prio q = cc in
    let h : p ≡ q = prio_written p q g in
    let i : code_of_body b ≡ code_of_body c = cc in
    let j : b ≡ c = body_written b c i in
    cc
work_written (Free x) (Free y) e =
    let k : code_of_numbers x ≡ code_of_numbers y = cc in
    let a : x ≡ y = numbers_written x y k in
    cc
work_written (Claim x p) (Claim y q) e =
    let k : code_of_numbers x ≡ code_of_numbers y = cc in
    let a : x ≡ y = numbers_written x y k in
    let l : code_of_numbers p ≡ code_of_numbers q = cc in
    let b : p ≡ q = numbers_written p q l in
    cc
work_written _ _ e = absurd (cc)

pub code_of_request : Request → Code
code_of_request r =
    Two (Number r.number)
    (Two (code_of_work r.work) (Two (code_of_option (λ (n : ℕ). Number n) r.under) (code_of_bool r.canfail)))

pub request_written : IsWritten code_of_request
unfolding code_of_request
request_written x y e =
    let a : x.number ≡ y.number = cc in
    let k : code_of_work x.work ≡ code_of_work y.work = cc in
    let b = work_written x.work y.work k in
    let l : code_of_option (λ (n : ℕ). Number n) x.under ≡ code_of_option (λ (n : ℕ). Number n) y.under = cc in
    let c = option_written (λ (n : ℕ). Number n) number_written x.under y.under l in
    let m : code_of_bool x.canfail ≡ code_of_bool y.canfail = cc in
    let d = bool_written x.canfail y.canfail m in
    λ i. record { number = a i; work = b i; under = c i; canfail = d i }

pub code_of_pending : Pending → Code
code_of_pending p =
    Two (code_of_request p.request)
    (Two (Number p.birth) (Two (code_of_option code_of_tree p.block) (code_of_list code_of_child p.kept)))

pub pending_written : IsWritten code_of_pending
unfolding code_of_pending
pending_written x y e =
    let k : code_of_request x.request ≡ code_of_request y.request = cc in
    let a = request_written x.request y.request k in
    let b : x.birth ≡ y.birth = cc in
    let l : code_of_option code_of_tree x.block ≡ code_of_option code_of_tree y.block = cc in
    let c = option_written code_of_tree tree_written x.block y.block l in
    let m : code_of_list code_of_child x.kept ≡ code_of_list code_of_child y.kept = cc in
    let d = list_written code_of_child child_written x.kept y.kept m in
    λ i. record { request = a i; birth = b i; block = c i; kept = d i }

pub code_of_forest : Forest → Code
code_of_forest NoTrees = Number 0
code_of_forest (TreeOf p kids others) = Two (code_of_pending p) (Two (code_of_forest kids) (code_of_forest others))

pub forest_written : IsWritten code_of_forest
unfolding code_of_forest
forest_written NoTrees NoTrees e = refl
forest_written NoTrees (TreeOf q less more) e = absurd (cc)
forest_written (TreeOf p kids others) NoTrees e = absurd (cc)
forest_written (TreeOf p kids others) (TreeOf q less more) e =
    let k : code_of_pending p ≡ code_of_pending q = cc in
    let a : p ≡ q = pending_written p q k in
    let l : code_of_forest kids ≡ code_of_forest less = cc in
    let b : kids ≡ less = forest_written kids less l in
    let m : code_of_forest others ≡ code_of_forest more = cc in
    let c : others ≡ more = forest_written others more m in
    cc
