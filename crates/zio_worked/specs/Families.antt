-- Requests under requests: what a parent takes of its children, and how a family finishes.
use Rattle.std.specs.Prelude.{◌≡◌, ℕ, ◌+◌, ◌*◌, List, [], ◌∷◌, ◌++◌, map, take, replicate, false, codes}
use Rattle.zio_types.specs.declared.journal.Role.TheVariants.{Body, Head}
use Rattle.zio_types.specs.Choices.{Choice, no_place}
use Rattle.zio_blkptr.specs.declared.pointer.Bp.{Bp}
use Rattle.zio_blkptr.specs.declared.pointer.SumKind.TheVariants.{Off, Fletcher4}
use Rattle.zio_blkptr.specs.Pointers.{spelling}
use Rattle.zio_faults.specs.declared.table.FaultKind.{FaultKind}
use Rattle.zio_faults.specs.declared.table.FaultKind.TheVariants.{Eio, Gone}
use Rattle.zio_faults.specs.declared.table.On.TheVariants.{Read as OnRead, Write as OnWrite, Any}
use Rattle.zio_script.specs.declared.script.Failmode.{Failmode}
use Rattle.zio_script.specs.declared.script.Failmode.TheVariants.{Wait, Continue}
use Rattle.zio_script.specs.declared.script.Item.{Item}
use Rattle.zio_script.specs.declared.script.Item.TheVariants.{Go, Clear}
use Rattle.zio_script.specs.declared.script.Request.{Request}
use Rattle.zio_script.specs.declared.script.Script.{Script}
use Rattle.zio_cksum.specs.Images.{Images}
use Rattle.zio_gang.specs.Journals.{asks_of}
use Rattle.zio_gang.specs.Rounds.{trees_of}
use Rattle.zio_script.specs.Requests.{requests_of}
use Rattle.zio_worked.specs.Scripts.{script, write, read, null, under, can_fail, can_fail_under, fault, fault_over, choice, place, report, sectors_of, zeros, lines, asks_in, bytes_read, images_after}

-- ---- a write over two writes

abbrev pub family_script : Script
family_script = script Wait ((0 ∷ []) ∷ []) [] (
    write 1 (codes "p") Fletcher4 1 112 512
    ∷ under 1 (write 2 (codes "a") Fletcher4 1 65 512)
    ∷ under 1 (write 3 (codes "b") Off 1 66 512)
    ∷ Go
    ∷ read 4 (codes "p")
    ∷ Go ∷ [])

abbrev pub family_choices : List Choice
family_choices =
    choice 2 1 0 [] Body 512 1 (place 0 2 1 ∷ [])
    ∷ choice 3 1 0 [] Body 512 1 (place 0 5 1 ∷ [])
    ∷ choice 1 1 0 [] Body 1024 1 (place 0 0 2 ∷ []) ∷ []

-- each finishes, the parent with its own data behind two pointers, in whole sectors
abbrev pub WriteOverTwoWrites : Type 0
WriteOverTwoWrites =
    report family_script (zeros 4096 ∷ []) family_choices
    ≡ lines (
    "pool 1 1"
    ∷ "round 1 batch 1 point 0"
    ∷ "1 write p ok 1024"
    ∷ "2 write a ok 512"
    ∷ "3 write b ok 512"
    ∷ "round 2 batch 2 point 0"
    ∷ "4 read p ok 1024 3b8d8d9664:1f31a67fe38f:90edb880539f9:1e9294e0d0d824c"
    ∷ "end 0" ∷ [])

-- the pointer to one sector without a sum, which the first batch wrote
abbrev pub pointer_to : ℕ → Bp
pointer_to sector = record {
  count = 1;
  places = place 0 sector 1 ∷ no_place ∷ no_place ∷ [];
  gang = false;
  size = 512;
  sum = Off;
  birth = 1;
  words = 0 ∷ 0 ∷ 0 ∷ 0 ∷ [];
}

abbrev pub pointer_to_a : Bp
pointer_to_a = record {
  count = 1;
  places = place 0 2 1 ∷ no_place ∷ no_place ∷ [];
  gang = false;
  size = 512;
  sum = Fletcher4;
  birth = 1;
  words = 0x20a0a0a080 ∷ 0x83878787040 ∷ 0x16439b9b85580 ∷ 0x2d92628254f020 ∷ [];
}

-- the content begins with the children's pointers in the order of their numbers
abbrev pub PointersStandInFront : Type 0
PointersStandInFront =
    take 256 (bytes_read family_script (zeros 4096 ∷ []) family_choices 4)
    ≡ spelling pointer_to_a ++ spelling (pointer_to 5)

abbrev pub nested_script : Script
nested_script = script Wait ((0 ∷ []) ∷ []) [] (
    write 1 (codes "p") Off 1 112 384
    ∷ under 1 (write 2 (codes "q") Off 1 113 100)
    ∷ under 2 (write 3 (codes "r") Off 1 114 512)
    ∷ Go ∷ [])

abbrev pub nested_choices : List Choice
nested_choices =
    choice 3 1 0 [] Body 512 1 (place 0 6 1 ∷ [])
    ∷ choice 2 1 0 [] Body 512 1 (place 0 5 1 ∷ [])
    ∷ choice 1 1 0 [] Body 512 1 (place 0 4 1 ∷ []) ∷ []

-- each write has the pointer of the one under it, then its own data, then zeros
abbrev pub WritesNest : Type 0
WritesNest =
    images_after nested_script (zeros 4096 ∷ []) nested_choices
    ≡ (zeros 2048
    ++ (spelling (pointer_to 5) ++ replicate 384 112)
    ++ (spelling (pointer_to 6) ++ replicate 100 113 ++ zeros 284)
    ++ replicate 512 114
    ++ zeros 512) ∷ []

-- ---- a child that goes again

abbrev pub again_script : Script
again_script = script Wait ((0 ∷ []) ∷ (1 ∷ []) ∷ []) (fault 1 Any 0 1 Gone ∷ []) (
    write 1 (codes "p") Off 1 112 512
    ∷ under 1 (write 2 (codes "a") Off 1 65 512)
    ∷ under 1 (write 3 (codes "b") Off 2 66 512)
    ∷ Go
    ∷ Clear
    ∷ read 4 (codes "p")
    ∷ Go ∷ [])

abbrev pub again_images : Images
again_images = zeros 8192 ∷ zeros 8192 ∷ []

abbrev pub again_choices : List Choice
again_choices =
    choice 2 1 0 [] Body 512 1 (place 0 0 1 ∷ [])
    ∷ choice 3 1 0 [] Body 512 2 (place 0 1 1 ∷ place 1 0 1 ∷ [])
    ∷ choice 1 1 0 [] Body 1024 1 (place 0 2 2 ∷ [])
    ∷ choice 3 1 1 [] Body 512 2 (place 0 4 1 ∷ place 1 1 1 ∷ [])
    ∷ choice 1 1 1 [] Body 1024 1 (place 0 5 2 ∷ [])
    ∷ choice 3 1 2 [] Body 512 2 (place 0 7 1 ∷ place 1 2 1 ∷ [])
    ∷ choice 1 1 2 [] Body 1024 1 (place 0 8 2 ∷ [])
    ∷ choice 3 1 3 [] Body 512 2 (place 0 10 1 ∷ place 1 3 1 ∷ [])
    ∷ choice 1 1 3 [] Body 1024 1 (place 0 11 2 ∷ [])
    ∷ choice 3 2 0 [] Body 512 2 (place 0 1 1 ∷ place 1 0 1 ∷ [])
    ∷ choice 1 2 0 [] Body 1024 1 (place 0 2 2 ∷ []) ∷ []

-- The second copy of b can't be written while its top is gone. So b goes again and p with it, a is done; after the clear
-- they finish, and p has both pointers.
abbrev pub ChildGoesAgain : Type 0
ChildGoesAgain =
    report again_script again_images again_choices
    ≡ lines (
    "pool 2 2"
    ∷ "round 1 batch 1 point 0"
    ∷ "1 write p suspended"
    ∷ "2 write a ok 512"
    ∷ "3 write b suspended"
    ∷ "round 2 clear point 1"
    ∷ "1 write p ok 1024"
    ∷ "3 write b ok 512"
    ∷ "round 3 batch 2 point 1"
    ∷ "4 read p ok 1024 3938383c0d:1d1b383bb36d:81eb722b4d173:1a0e799d9b936ba"
    ∷ "end 0" ∷ [])

-- the child that finished isn't asked for again; b and its parent are in each attempt
abbrev pub FinishedChildIsKept : Type 0
FinishedChildIsKept = asks_in again_script again_images again_choices ≡ asks_of again_choices

-- b's two copies in an attempt, at this sector of the first top and that of the second
abbrev pub pointer_to_b : ℕ → ℕ → Bp
pointer_to_b first second = record (pointer_to first) {
  count = 2;
  places = place 0 first 1 ∷ place 1 second 1 ∷ no_place ∷ [];
}

-- what an attempt of the first round leaves on the first top: b's first copy, and p behind it
abbrev pub attempt_left : ℕ → List ℕ
attempt_left n =
    sectors_of 1 66
    ++ spelling (pointer_to 0) ++ spelling (pointer_to_b (3 * n + 1) n) ++ sectors_of 1 112 ++ zeros 256

-- In each attempt p has the pointers of both children: that of a, which finished in the first one, and that of b from
-- this one, though b goes again.
abbrev pub EachAttemptHasItsPointers : Type 0
EachAttemptHasItsPointers =
    images_after (record again_script { items = take 4 again_script.items }) again_images again_choices
    ≡ (sectors_of 1 65 ++ attempt_left 0 ++ attempt_left 1 ++ attempt_left 2 ++ attempt_left 3 ++ zeros 1536)
    ∷ zeros 8192 ∷ []

-- ---- errors of children

abbrev pub null_script : Failmode → FaultKind → Script
null_script failmode kind = script failmode ((0 ∷ []) ∷ []) (fault 0 OnRead 0 65535 kind ∷ []) (
    write 1 (codes "x") Off 1 65 512
    ∷ Go
    ∷ can_fail (null 2)
    ∷ can_fail_under 2 (read 3 (codes "x"))
    ∷ Go ∷ [])

abbrev pub null_choices : List Choice
null_choices = choice 1 1 0 [] Body 512 1 (place 0 3 1 ∷ []) ∷ []

-- a null has its child's error
abbrev pub NullOverBadRead : Type 0
NullOverBadRead =
    report (null_script Wait Eio) (zeros 4096 ∷ []) null_choices
    ≡ lines (
    "pool 1 1"
    ∷ "round 1 batch 1 point 0"
    ∷ "1 write x ok 512"
    ∷ "round 2 batch 2 point 0"
    ∷ "2 null EIO"
    ∷ "3 read x EIO"
    ∷ "end 0" ∷ [])

-- a read waits for a device that is gone, though it may fail, and its parent with it
abbrev pub NullOverGoneRead : Type 0
NullOverGoneRead =
    report (null_script Wait Gone) (zeros 4096 ∷ []) null_choices
    ≡ lines (
    "pool 1 1"
    ∷ "round 1 batch 1 point 0"
    ∷ "1 write x ok 512"
    ∷ "round 2 batch 2 point 0"
    ∷ "2 null suspended"
    ∷ "3 read x suspended"
    ∷ "end 9" ∷ [])

-- a run that goes on doesn't wait for it
abbrev pub NullOverGoneReadGoesOn : Type 0
NullOverGoneReadGoesOn =
    report (null_script Continue Gone) (zeros 4096 ∷ []) null_choices
    ≡ lines (
    "pool 1 1"
    ∷ "round 1 batch 1 point 0"
    ∷ "1 write x ok 512"
    ∷ "round 2 batch 2 point 0"
    ∷ "2 null ENXIO"
    ∷ "3 read x ENXIO"
    ∷ "end 0" ∷ [])

-- Seven of eight sectors are full. The child finds no place, not even for the headers of a gang; its parent does.
abbrev pub refused_items : List Item
refused_items =
    write 1 (codes "full") Off 1 0 3584
    ∷ Go
    ∷ can_fail (write 2 (codes "p") Off 1 65 384)
    ∷ can_fail_under 2 (write 3 (codes "c") Off 1 66 1024)
    ∷ Go ∷ []

abbrev pub refused_script : Script
refused_script = script Wait ((0 ∷ []) ∷ []) [] (
    refused_items ++ read 4 (codes "p") ∷ Go ∷ write 5 (codes "y") Off 1 67 512 ∷ Go ∷ [])

abbrev pub refused_choices : List Choice
refused_choices =
    choice 1 1 0 [] Body 3584 1 (place 0 0 7 ∷ [])
    ∷ choice 3 2 0 [] Body 1024 1 []
    ∷ choice 3 2 0 [] Head 512 2 (place 0 7 1 ∷ [])
    ∷ choice 2 2 0 [] Body 512 1 (place 0 7 1 ∷ [])
    ∷ choice 5 4 0 [] Body 512 1 (place 0 7 1 ∷ []) ∷ []

-- a write has its child's error though its own work was right: its name isn't bound, and its place is free again
abbrev pub ChildErrorBindsNothing : Type 0
ChildErrorBindsNothing =
    report refused_script (zeros 4096 ∷ []) refused_choices
    ≡ lines (
    "pool 1 1"
    ∷ "round 1 batch 1 point 0"
    ∷ "1 write full ok 3584"
    ∷ "round 2 batch 2 point 0"
    ∷ "2 write p ENOSPC"
    ∷ "3 write c ENOSPC"
    ∷ "round 3 batch 3 point 0"
    ∷ "4 read p ENOENT"
    ∷ "round 4 batch 4 point 0"
    ∷ "5 write y ok 512"
    ∷ "end 0" ∷ [])

-- in the parent's content zeros stand for a child without a place
abbrev pub ZerosForNoPlace : Type 0
ZerosForNoPlace =
    images_after (script Wait ((0 ∷ []) ∷ []) [] refused_items) (zeros 4096 ∷ []) refused_choices
    ≡ (zeros 3584 ++ replicate 128 0 ++ replicate 384 65) ∷ []

-- the child's place can't be written, the parent's can
abbrev pub unwritten_script : Script
unwritten_script = script Wait ((0 ∷ []) ∷ []) (fault_over 0 OnWrite 5 1 0 65535 Eio ∷ []) (
    can_fail (write 1 (codes "p") Off 1 112 384) ∷ can_fail_under 1 (write 2 (codes "c") Off 1 66 512) ∷ Go ∷ [])

abbrev pub unwritten_choices : List Choice
unwritten_choices =
    choice 2 1 0 [] Body 512 1 (place 0 5 1 ∷ [])
    ∷ choice 1 1 0 [] Body 512 1 (place 0 6 1 ∷ []) ∷ []

abbrev pub UnwrittenChildFails : Type 0
UnwrittenChildFails =
    report unwritten_script (zeros 4096 ∷ []) unwritten_choices
    ≡ lines (
    "pool 1 1"
    ∷ "round 1 batch 1 point 0"
    ∷ "1 write p EIO"
    ∷ "2 write c EIO"
    ∷ "end 0" ∷ [])

-- a child that has a place has its pointer in the parent's content, though its write failed
abbrev pub UnwrittenChildHasPointer : Type 0
UnwrittenChildHasPointer =
    images_after unwritten_script (zeros 4096 ∷ []) unwritten_choices
    ≡ (zeros 3072 ++ (spelling (pointer_to 5) ++ replicate 384 112) ++ zeros 512) ∷ []

-- a null that may fail waits with the child that may not
abbrev pub MustChildHoldsParent : Type 0
MustChildHoldsParent =
    report
    (script Wait ((0 ∷ []) ∷ []) (fault 0 OnWrite 0 1 Eio ∷ []) (
    can_fail (null 1) ∷ under 1 (write 2 (codes "c") Off 1 66 512) ∷ Go ∷ Clear ∷ []))
    (zeros 4096 ∷ [])
    (choice 2 1 0 [] Body 512 1 (place 0 0 1 ∷ [])
    ∷ choice 2 1 1 [] Body 512 1 (place 0 1 1 ∷ [])
    ∷ choice 2 1 2 [] Body 512 1 (place 0 2 1 ∷ [])
    ∷ choice 2 1 3 [] Body 512 1 (place 0 3 1 ∷ [])
    ∷ choice 2 2 0 [] Body 512 1 (place 0 0 1 ∷ []) ∷ [])
    ≡ lines (
    "pool 1 1"
    ∷ "round 1 batch 1 point 0"
    ∷ "1 null suspended"
    ∷ "2 write c suspended"
    ∷ "round 2 clear point 1"
    ∷ "1 null ok"
    ∷ "2 write c ok 512"
    ∷ "end 0" ∷ [])

-- ---- the order of a family

abbrev pub numbers_of : List Request → List ℕ
numbers_of requests = map (λ (r : Request). r.number) requests

-- each child's family by rising number, then the request itself
abbrev pub ChildrenComeFirst : Type 0
ChildrenComeFirst =
    map numbers_of (trees_of (requests_of (
    null 1
    ∷ under 1 (null 2)
    ∷ under 2 (read 3 (codes "x"))
    ∷ under 1 (read 4 (codes "y"))
    ∷ under 2 (read 5 (codes "z")) ∷ [])))
    ≡ (3 ∷ 5 ∷ 2 ∷ 4 ∷ 1 ∷ []) ∷ []

-- families are apart, in the order of their roots
abbrev pub FamiliesAreApart : Type 0
FamiliesAreApart =
    map numbers_of (trees_of (requests_of (
    null 1
    ∷ null 2
    ∷ under 1 (read 3 (codes "x"))
    ∷ under 2 (read 4 (codes "y"))
    ∷ under 1 (read 5 (codes "z")) ∷ [])))
    ≡ (3 ∷ 5 ∷ 1 ∷ []) ∷ (4 ∷ 2 ∷ []) ∷ []
