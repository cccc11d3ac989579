-- Plain stores of a few batches.
use Rattle.std.specs.Prelude.{◌≡◌, ℕ, List, [], ◌∷◌, ◌++◌, codes, replicate, false, true, Bool, Some, None}
use Rattle.zio_types.specs.declared.error.Errno.{Errno}
use Rattle.zio_types.specs.declared.error.Errno.TheVariants.{Noent, Exist}
use Rattle.zio_types.specs.declared.request.Prio.TheVariants.{SyncRead, SyncWrite}
use Rattle.zio_blkptr.specs.declared.pointer.SumKind.TheVariants.{Sha256}
use Rattle.zio_script.specs.declared.script.Body.{Body}
use Rattle.zio_script.specs.declared.script.Body.TheVariants.{Hex, Fill}
use Rattle.zio_script.specs.declared.script.Request.{Request}
use Rattle.zio_script.specs.declared.script.Work.{Work}
use Rattle.zio_script.specs.declared.script.Work.TheVariants.{Null, Read, Write, Free}
use Rattle.zio_heal.specs.PlainStore.{Reply, has_content, no_contents, plain_from, plain_store}
use Rattle.zio_heal.specs.HealedCases.{faulty, items_of, over_one_leaf, with_row}
use Rattle.zio_faults.specs.declared.table.FaultKind.TheVariants.{Eio}
use Rattle.zio_faults.specs.declared.table.On.TheVariants.{Write as OnWrite}

-- ---- words

abbrev pub writes : List ℕ → Body → Work
writes name body = Write name Sha256 1 SyncWrite body

abbrev pub reads : List ℕ → Work
reads name = Read name SyncRead

abbrev pub asked : ℕ → Work → Request
asked number work = record { number = number; work = work; under = None; canfail = false }

abbrev pub asked_under : ℕ → ℕ → Work → Request
asked_under parent number work = record { number = number; work = work; under = Some parent; canfail = false }

-- what the store answers after these batches
abbrev pub replies_to : List (List Request) → List Reply
replies_to batches = (plain_from no_contents batches).replies

-- the name has a content after these batches
abbrev pub has_after : List (List Request) → List ℕ → Bool
has_after batches name = has_content (plain_from no_contents batches).store name

abbrev pub done : ℕ → Reply
done number = record { number = number; error = None; content = None }

-- this content, whose front stands for so many bytes of pointers
abbrev pub gave : ℕ → ℕ → List ℕ → Reply
gave number front bytes = record {
  number = number;
  error = None;
  content = Some (record { front = front; bytes = bytes });
}

abbrev pub failed : ℕ → Errno → Reply
failed number e = record { number = number; error = Some e; content = None }

-- two letters and zeros up to a sector
abbrev pub letters : List ℕ → List ℕ
letters two = two ++ replicate 510 0

abbrev pub writes_ab : Request
writes_ab = asked 1 (writes (codes "x") (Hex (codes "ab")))

-- ---- one name

abbrev pub PaddedToASector : Type 0
PaddedToASector =
    replies_to ((writes_ab ∷ []) ∷ (asked 2 (reads (codes "x")) ∷ []) ∷ [])
    ≡ gave 1 0 (letters (codes "ab")) ∷ gave 2 0 (letters (codes "ab")) ∷ []

abbrev pub WholeSectorsStay : Type 0
WholeSectorsStay =
    replies_to ((asked 1 (writes (codes "x") (Fill 65 512)) ∷ asked 2 (writes (codes "y") (Fill 66 513)) ∷ []) ∷ [])
    ≡ gave 1 0 (replicate 512 65) ∷ gave 2 0 (replicate 513 66 ++ replicate 511 0) ∷ []

abbrev pub ReadersShareAName : Type 0
ReadersShareAName =
    replies_to ((writes_ab ∷ []) ∷ (asked 2 (reads (codes "x")) ∷ asked 3 (reads (codes "x")) ∷ []) ∷ [])
    ≡ gave 1 0 (letters (codes "ab")) ∷ gave 2 0 (letters (codes "ab")) ∷ gave 3 0 (letters (codes "ab")) ∷ []

-- a freed name is gone
abbrev pub FreedNameIsGone : Type 0
FreedNameIsGone =
    replies_to ((writes_ab ∷ []) ∷ (asked 2 (Free (codes "x")) ∷ []) ∷ (asked 3 (reads (codes "x")) ∷ []) ∷ [])
    ≡ gave 1 0 (letters (codes "ab")) ∷ done 2 ∷ failed 3 Noent ∷ []

-- and free for another content
abbrev pub FreedNameIsWritten : Type 0
FreedNameIsWritten =
    replies_to (
    (writes_ab ∷ [])
    ∷ (asked 2 (Free (codes "x")) ∷ [])
    ∷ (asked 3 (writes (codes "x") (Hex (codes "cd"))) ∷ [])
    ∷ (asked 4 (reads (codes "x")) ∷ []) ∷ [])
    ≡ gave 1 0 (letters (codes "ab")) ∷ done 2 ∷ gave 3 0 (letters (codes "cd")) ∷ gave 4 0 (letters (codes "cd")) ∷ []

-- a name that has a content keeps it
abbrev pub TakenNameStays : Type 0
TakenNameStays =
    replies_to (
    (writes_ab ∷ [])
    ∷ (asked 2 (writes (codes "x") (Hex (codes "cd"))) ∷ [])
    ∷ (asked 3 (reads (codes "x")) ∷ []) ∷ [])
    ≡ gave 1 0 (letters (codes "ab")) ∷ failed 2 Exist ∷ gave 3 0 (letters (codes "ab")) ∷ []

abbrev pub NamesAtTheEnd : Type 0
NamesAtTheEnd =
    (has_after ((writes_ab ∷ []) ∷ []) (codes "x") ≡ true)
    × (has_after ((writes_ab ∷ []) ∷ []) (codes "y") ≡ false)
    × (has_after ((writes_ab ∷ []) ∷ (asked 2 (Free (codes "x")) ∷ []) ∷ []) (codes "x") ≡ false)

-- ---- trees

-- a read of a name that isn't there fails its whole tree, so the write beside it makes nothing
abbrev pub TreeFailsWhole : Type 0
TreeFailsWhole =
    replies_to (
    (asked 1 Null ∷ asked_under 1 2 (reads (codes "y")) ∷ asked_under 1 3 (writes (codes "x") (Hex (codes "ab"))) ∷ [])
    ∷ (asked 4 (reads (codes "x")) ∷ []) ∷ [])
    ≡ failed 2 Noent ∷ failed 3 Noent ∷ failed 1 Noent ∷ failed 4 Noent ∷ []

-- a name that is missing comes before one that is taken
abbrev pub MissingComesFirst : Type 0
MissingComesFirst =
    replies_to (
    (writes_ab ∷ [])
    ∷ (asked 2 Null
    ∷ asked_under 2 3 (writes (codes "x") (Hex (codes "cd")))
    ∷ asked_under 2 4 (reads (codes "y")) ∷ []) ∷ [])
    ≡ gave 1 0 (letters (codes "ab")) ∷ failed 3 Noent ∷ failed 4 Noent ∷ failed 2 Noent ∷ []

-- another tree of the batch isn't concerned
abbrev pub TreesFailAlone : Type 0
TreesFailAlone =
    replies_to ((asked 1 (reads (codes "y")) ∷ asked 2 (writes (codes "x") (Hex (codes "ab"))) ∷ []) ∷ [])
    ≡ failed 1 Noent ∷ gave 2 0 (letters (codes "ab")) ∷ []

-- two write children stand for 256 bytes at the front of their parent; children of other kinds and of others for none
abbrev pub ChildrenMakeAFront : Type 0
ChildrenMakeAFront =
    replies_to (
    (asked 1 (writes (codes "p") (Hex (codes "pp")))
    ∷ asked_under 1 2 (writes (codes "c") (Hex (codes "cc")))
    ∷ asked_under 1 3 (writes (codes "d") (Hex (codes "dd")))
    ∷ asked 4 Null
    ∷ asked_under 4 5 (writes (codes "e") (Hex (codes "ee"))) ∷ [])
    ∷ (asked 6 (reads (codes "p")) ∷ []) ∷ [])
    ≡ gave 2 0 (letters (codes "cc"))
    ∷ gave 3 0 (letters (codes "dd"))
    ∷ gave 1 256 (replicate 256 0 ++ codes "pp" ++ replicate 254 0)
    ∷ gave 5 0 (letters (codes "ee"))
    ∷ done 4
    ∷ gave 6 256 (replicate 256 0 ++ codes "pp" ++ replicate 254 0) ∷ []

-- ---- scripts

-- fault rows and clears change no reply
abbrev pub FaultsChangeNothing : Type 0
FaultsChangeNothing =
    ((plain_store (with_row (faulty OnWrite Eio 1))).replies
    ≡ gave 1 0 (replicate 512 65) ∷ gave 2 0 (replicate 512 65) ∷ [])
    × ((plain_store (over_one_leaf [] (items_of Sha256))).replies
    ≡ gave 1 0 (replicate 512 65) ∷ gave 2 0 (replicate 512 65) ∷ [])
