-- Single definitions, where a whole run wouldn't tell a wrong one.
use Rattle.std.specs.Prelude.{◌≡◌, ℕ, List, [], ◌∷◌, ◌++◌, map, codes, replicate, true, false, Option, Some, None, Ok, Err, option_map}
use Rattle.zio_types.specs.declared.error.Errno.{Errno}
use Rattle.zio_types.specs.declared.error.Errno.TheVariants.{Cksum, Io, Nxio}
use Rattle.zio_types.specs.declared.journal.Role.TheVariants.{Body, Head}
use Rattle.zio_types.specs.declared.place.Place.{Place}
use Rattle.zio_types.specs.declared.request.Bits.{Bits}
use Rattle.zio_types.specs.Choices.{Choice}
use Rattle.zio_blkptr.specs.declared.pointer.Bp.{Bp}
use Rattle.zio_blkptr.specs.declared.pointer.SumKind.TheVariants.{Off}
use Rattle.zio_faults.specs.declared.table.FaultKind.TheVariants.{Eio, Gone, Flip}
use Rattle.zio_faults.specs.declared.table.On.TheVariants.{Read as OnRead, Write as OnWrite}
use Rattle.zio_faults.specs.declared.table.Row.{Row}
use Rattle.zio_script.specs.declared.script.Failmode.TheVariants.{Wait, Continue}
use Rattle.zio_script.specs.declared.script.Item.TheVariants.{Go, Clear}
use Rattle.zio_script.specs.declared.script.Request.{Request}
use Rattle.zio_script.specs.declared.script.Script.{Script}
use Rattle.zio_script.specs.declared.script.Work.TheVariants.{Free, Null}
use Rattle.zio_cksum.specs.Blocks.{write_place}
use Rattle.zio_cksum.specs.Headers.{header_of}
use Rattle.zio_cksum.specs.Images.{Images, Setting, Spot, read_leaf, write_leaf}
use Rattle.zio_gang.specs.declared.ending.Ending.TheVariants.{Left}
use Rattle.zio_gang.specs.declared.tree.Head.{Head as KeptHead}
use Rattle.zio_gang.specs.declared.tree.Tree.{Tree}
use Rattle.zio_gang.specs.Attempts.{Ended, Own, Pending, Return, bits_of, ended_with}
use Rattle.zio_gang.specs.Rounds.{bound_after, is_bound, trees_of}
use Rattle.zio_gang.specs.Runs.{Course, Round, ending, run_script, start_state, top_of}
use Rattle.zio_gang.specs.Trees.{free_tree, kept_at, read_tree}
use Rattle.zio_gang.specs.Writes.{Writing, Members, chosen, gang_header}
use Rattle.zio_report.specs.declared.report.Show.TheVariants.{Summary}
use Rattle.zio_report.specs.Lines.{path_text, round_text}
use Rattle.zio_report.specs.Reports.{run_text, text_so_far}
use Rattle.zio_worked.specs.Claims.{image_with, claimed_tree, gang_of_one_at}
use Rattle.zio_worked.specs.Reads.{one_top, gone_and_eio, header_of_gangs, tree_of_gangs}
use Rattle.zio_worked.specs.Scripts.{script, write, read, must, can_fail_under, fault, fault_over, pointer_after, rounds_in, choice, place, one_leaf, sectors_of, zeros, no_sum, one_copy_at, two_copies_at, header_with, report_with_journal, completion, lines}

-- ---- asks

-- two places
abbrev pub found : List Place
found = place 0 5 1 ∷ place 0 6 1 ∷ []

-- an entry is for one request, round, attempt, path, role, size and number of copies, and answers no other ask
abbrev pub EntryAnswersItsOwnAsk : Type 0
EntryAnswersItsOwnAsk =
    map (λ (c : Choice). chosen (c ∷ []) (choice 1 1 0 [] Body 512 2 []).asked) (
    choice 1 1 0 [] Body 512 2 found
    ∷ choice 2 1 0 [] Body 512 2 found
    ∷ choice 1 2 0 [] Body 512 2 found
    ∷ choice 1 1 1 [] Body 512 2 found
    ∷ choice 1 1 0 (0 ∷ []) Body 512 2 found
    ∷ choice 1 1 0 [] Head 512 2 found
    ∷ choice 1 1 0 [] Body 1024 2 found
    ∷ choice 1 1 0 [] Body 512 1 found ∷ [])
    ≡ Some found ∷ replicate 7 None

-- ---- headers that fail

-- of two headers that a free can't read the worse error counts, were it that of the first or the second
abbrev pub WorstErrorOfAFreeCounts : Type 0
WorstErrorOfAFreeCounts =
    map (λ rows. free_tree (one_top rows) tree_of_gangs (image_with header_of_gangs))
    (gone_and_eio 5 6 ∷ gone_and_eio 6 5 ∷ [])
    ≡ replicate 2 (record { error = Some Io; images = image_with header_of_gangs })

-- a kept header of a gang, and of a body in two copies
abbrev pub header_of_both : List ℕ
header_of_both = header_with (gang_of_one_at 5 ++ two_copies_at 6 7 ++ zeros 128) no_sum

-- the gang's header isn't what stands at sector 5
abbrev pub tree_of_both : Tree
tree_of_both = record claimed_tree {
  heads = record { path = []; bytes = header_of_both } ∷ record { path = 0 ∷ []; bytes = zeros 512 } ∷ [];
}

-- beside a header that failed no body is read, so the body's first copy isn't mended from the second
abbrev pub FailedHeaderKeepsBodiesUnread : Type 0
FailedHeaderKeepsBodiesUnread =
    read_tree (one_top (fault_over 0 OnRead 6 1 0 1 Eio ∷ [])) tree_of_both (image_with header_of_both)
    ≡ record { found = Err Cksum; images = image_with header_of_both }

-- the headers of two paths
abbrev pub two_heads : List KeptHead
two_heads = record { path = []; bytes = 1 ∷ [] } ∷ record { path = 0 ∷ 2 ∷ []; bytes = 2 ∷ [] } ∷ []

-- a header is kept under its whole path
abbrev pub HeadersAreKeptByPath : Type 0
HeadersAreKeptByPath =
    map (kept_at two_heads) ([] ∷ (0 ∷ 2 ∷ []) ∷ (0 ∷ []) ∷ (2 ∷ 0 ∷ []) ∷ [])
    ≡ Some (1 ∷ []) ∷ Some (2 ∷ []) ∷ None ∷ None ∷ []

-- where no header is kept none is good
abbrev pub HeaderThatIsntKeptIsBad : Type 0
HeaderThatIsntKeptIsBad =
    read_tree (one_top []) (record claimed_tree { heads = [] }) (image_with header_of_both)
    ≡ record { found = Err Cksum; images = image_with header_of_both }

-- a header of one member, which stands at this sector
abbrev pub header_to_one : ℕ → List ℕ
header_to_one sector = header_with (one_copy_at sector ++ zeros 256) no_sum

-- the gangs at the sectors 5 and 6 have members at the sectors 0 and 1
abbrev pub tree_of_members : Tree
tree_of_members = record claimed_tree {
  heads =
      record { path = []; bytes = header_of_gangs }
      ∷ record { path = 0 ∷ []; bytes = header_to_one 0 }
      ∷ record { path = 1 ∷ []; bytes = header_to_one 1 } ∷ [];
}

abbrev pub image_of_members : Images
image_of_members =
    (sectors_of 1 65 ++ sectors_of 1 66 ++ sectors_of 1 7 ++ header_of_gangs ++ sectors_of 1 7
    ++ header_to_one 0 ++ header_to_one 1 ++ sectors_of 1 7) ∷ []

-- each member has its own path, and its header is good where it equals the one kept there
abbrev pub EachMemberHasItsPath : Type 0
EachMemberHasItsPath =
    read_tree (one_top []) tree_of_members image_of_members
    ≡ record { found = Ok (sectors_of 1 65 ++ sectors_of 1 66); images = image_of_members }

-- ---- trees

abbrev pub null_under : ℕ → Option ℕ → Request
null_under number parent = record { number = number; work = Null; under = parent; canfail = false }

-- roots stand by rising number, and each request behind its children, which stand by rising number
abbrev pub TreesStandByTheirRoots : Type 0
TreesStandByTheirRoots =
    map (map (λ (r : Request). r.number)) (trees_of (
    null_under 1 None ∷ null_under 2 None ∷ null_under 3 (Some 1) ∷ null_under 4 (Some 1) ∷ null_under 5 (Some 3) ∷ []))
    ≡ (5 ∷ 3 ∷ 4 ∷ 1 ∷ []) ∷ (2 ∷ []) ∷ []

-- ---- errors and bits of several

-- one mirror of two leaves with these rows
abbrev pub one_mirror : List Row → Setting
one_mirror rows = record { tops = record { leaves = 0 ∷ 1 ∷ []; sectors = 1; unit = 1 } ∷ []; rows = rows; point = 0 }

-- where no leaf of a place can be written the worst of their errors counts, were it that of the first or the second
abbrev pub WorstErrorOfAPlaceCounts : Type 0
WorstErrorOfAPlaceCounts =
    map (λ rows. (write_place (one_mirror rows) false (sectors_of 1 65) (sectors_of 1 1 ∷ sectors_of 1 2 ∷ []) (place 0 0 1)).error) (
    (fault 0 OnWrite 0 1 Gone ∷ fault 1 OnWrite 0 1 Eio ∷ [])
    ∷ (fault 0 OnWrite 0 1 Eio ∷ fault 1 OnWrite 0 1 Gone ∷ []) ∷ [])
    ≡ replicate 2 (Some Io)

-- what a child with these bits hands on
abbrev pub return_with : Bits → Return
return_with bits = record { under = Some 9; bits = bits; child = record { number = 1; error = None; pointer = None } }

-- a request has the bits of all its children
abbrev pub BitsOfAllChildrenCount : Type 0
BitsOfAllChildrenCount =
    bits_of (return_with (record { now = true; suspend = false }) ∷ return_with (record { now = false; suspend = true }) ∷ [])
    ≡ record { now = true; suspend = true }

-- ---- devices

-- leaves of 19 sectors, and of 13 and a rest
abbrev pub unequal_leaves : Images
unequal_leaves = zeros 9728 ∷ zeros 6756 ∷ []

-- a mirror has the whole units of its smaller leaf, in either order
abbrev pub TopHasWholeUnits : Type 0
TopHasWholeUnits =
    map (λ leaves. map (λ unit. (top_of unequal_leaves (record { leaves = leaves; unit = unit })).sectors) (1 ∷ 2 ∷ 4 ∷ 8 ∷ []))
    ((0 ∷ 1 ∷ []) ∷ (1 ∷ 0 ∷ []) ∷ (0 ∷ []) ∷ [])
    ≡ (13 ∷ 12 ∷ 12 ∷ 8 ∷ []) ∷ (13 ∷ 12 ∷ 12 ∷ 8 ∷ []) ∷ (19 ∷ 18 ∷ 16 ∷ 16 ∷ []) ∷ []

-- the one sector of leaf 0
abbrev pub whole_leaf : Spot
whole_leaf = record { leaf = 0; at = 0; span = 512 }

-- a read answers EIO, ENXIO or the turned bytes
abbrev pub ReadsAnswerByTheKindOfTheirRow : Type 0
ReadsAnswerByTheKindOfTheirRow =
    map (λ kind. read_leaf (one_mirror (fault 0 OnRead 0 1 kind ∷ [])) false (sectors_of 1 7 ∷ []) 512 whole_leaf)
    (Eio ∷ Gone ∷ Flip ∷ [])
    ≡ Err Io ∷ Err Nxio ∷ Ok (sectors_of 1 248) ∷ []

-- a write answers EIO or ENXIO and stores nothing, or stores the turned bytes
abbrev pub WritesAnswerByTheKindOfTheirRow : Type 0
WritesAnswerByTheKindOfTheirRow =
    map (λ kind. write_leaf (one_mirror (fault 0 OnWrite 0 1 kind ∷ [])) false (sectors_of 1 65) (sectors_of 1 7 ∷ []) whole_leaf)
    (Eio ∷ Gone ∷ Flip ∷ [])
    ≡ record { error = Some Io; images = sectors_of 1 7 ∷ [] }
    ∷ record { error = Some Nxio; images = sectors_of 1 7 ∷ [] }
    ∷ record { error = None; images = sectors_of 1 190 ∷ [] } ∷ []

-- ---- numbers and names

-- x finds no place in the round of its go, so y is held; the clear runs both
abbrev pub held_script : Script
held_script = script Wait one_leaf [] (
    write 1 (codes "x") Off 1 65 512 ∷ Go ∷ write 2 (codes "y") Off 1 66 512 ∷ Go ∷ Clear ∷ [])

-- a birth is the number of the batch, also where the write finishes in another round
abbrev pub BirthIsTheBatch : Type 0
BirthIsTheBatch =
    map (λ name. option_map (λ (bp : Bp). bp.birth) (pointer_after held_script (zeros 4096 ∷ []) (
    choice 1 2 0 [] Body 512 1 (place 0 3 1 ∷ []) ∷ choice 2 3 0 [] Body 512 1 (place 0 4 1 ∷ []) ∷ []) name))
    (codes "x" ∷ codes "y" ∷ [])
    ≡ Some 1 ∷ Some 2 ∷ []

-- the write of a block of the first batch in the seventh round
abbrev pub writing : Writing
writing = record {
  setting = one_top [];
  request = 1;
  round = 7;
  attempt = 0;
  sum = Off;
  copies = 1;
  birth = 1;
}

-- two members without a place
abbrev pub gang_members : Members
gang_members = record {
  errors = None ∷ None ∷ [];
  pointers = None ∷ None ∷ [];
  heads = [];
  asks = [];
  images = [];
}

-- a gang's header is made for its first place and its block's birth
abbrev pub HeaderIsForItsFirstPlaceAndBirth : Type 0
HeaderIsForItsFirstPlaceAndBirth =
    gang_header writing found gang_members
    ≡ header_of (None ∷ None ∷ None ∷ []) (place 0 5 1) 1

-- two reads that may not fail are suspended one after the other; the clear runs them by rising number
abbrev pub SuspendedTreesGoByNumber : Type 0
SuspendedTreesGoByNumber =
    map (λ (round : Round). map (λ (e : Ended). e.request.number) round.ended) (
    rounds_in
    (script Continue one_leaf (fault 0 OnRead 0 1 Eio ∷ []) (
    write 1 (codes "x") Off 1 65 512 ∷ write 2 (codes "y") Off 1 66 512 ∷ Go
    ∷ must (read 3 (codes "x")) ∷ Go ∷ must (read 4 (codes "y")) ∷ Go ∷ Clear ∷ []))
    (zeros 4096 ∷ [])
    (choice 1 1 0 [] Body 512 1 (place 0 3 1 ∷ []) ∷ choice 2 1 0 [] Body 512 1 (place 0 4 1 ∷ []) ∷ []))
    ≡ (1 ∷ 2 ∷ []) ∷ [] ∷ [] ∷ (3 ∷ 4 ∷ []) ∷ []

-- a run that ends with a held batch has left something, were nothing suspended
abbrev pub HeldBatchIsLeft : Type 0
HeldBatchIsLeft = ending (record (start_state []) { held = record { number = 1; requests = [] } ∷ [] }) ≡ Left

-- a free of x that ended so
abbrev pub freed : Option Errno → Ended
freed error = record {
  request = record { number = 1; work = Free (codes "x"); under = None; canfail = false };
  error = error;
  bytes = [];
  tree = None;
}

-- a free that failed leaves its name bound
abbrev pub FailedFreeKeepsItsName : Type 0
FailedFreeKeepsItsName =
    map (λ error. is_bound (bound_after (freed error ∷ []) (record { name = codes "x"; tree = claimed_tree } ∷ [])) (codes "x"))
    (Some Io ∷ None ∷ [])
    ≡ true ∷ false ∷ []

-- a request that waits to be attempted
abbrev pub pending_null : Pending
pending_null = record { request = null_under 1 None; birth = 1; block = None; kept = [] }

-- own work that made a block
abbrev pub made_tree : Own
made_tree = record { error = None; bytes = []; tree = Some claimed_tree; pointer = None; asks = []; images = [] }

-- a request keeps the block that it made only where it finishes without error, were the error that of a child
abbrev pub FailedRequestKeepsNoBlock : Type 0
FailedRequestKeepsNoBlock =
    map (λ error. map (λ (e : Ended). e.tree) ((ended_with pending_null made_tree error).ended)) (Some Io ∷ None ∷ [])
    ≡ (None ∷ []) ∷ (Some claimed_tree ∷ []) ∷ []

-- ---- the summary

-- a write and a read finish, a read of another name doesn't, and a write that finds no place stays suspended
abbrev pub four_requests : Script
four_requests = script Wait one_leaf [] (
    write 1 (codes "x") Off 1 65 512 ∷ Go
    ∷ read 2 (codes "x") ∷ read 3 (codes "y") ∷ write 4 (codes "z") Off 1 66 512 ∷ Go ∷ [])

abbrev pub summary_of : Course → List ℕ
summary_of course =
    run_text Summary (record { tops = 1; images = 1; requests = 4 }) (record { choices = []; completions = [] })
    course.events (ending course.state)

-- what finished without and with an error, what is left, and the bytes that were read
abbrev pub SummaryCounts : Type 0
SummaryCounts =
    summary_of (run_script four_requests (zeros 4096 ∷ []) (choice 1 1 0 [] Body 512 1 (place 0 3 1 ∷ []) ∷ []))
    ≡ lines ("requests 4" ∷ "ok 2" ∷ "failed 1" ∷ "left 1" ∷ "read 512" ∷ "end 9" ∷ [])

-- a read that is good stands over one of a sector that can't be read: it has the error of that, and its bytes don't count
abbrev pub good_read_over_a_bad_one : Script
good_read_over_a_bad_one = script Wait one_leaf (fault_over 0 OnRead 4 1 0 1 Eio ∷ []) (
    write 1 (codes "x") Off 1 65 512 ∷ write 2 (codes "y") Off 1 66 512 ∷ Go
    ∷ read 3 (codes "x") ∷ can_fail_under 3 (read 4 (codes "y")) ∷ Go ∷ [])

abbrev pub BytesOverAFailedChildDontCount : Type 0
BytesOverAFailedChildDontCount =
    summary_of (run_script good_read_over_a_bad_one (zeros 4096 ∷ []) (
    choice 1 1 0 [] Body 512 1 (place 0 3 1 ∷ []) ∷ choice 2 1 0 [] Body 512 1 (place 0 4 1 ∷ []) ∷ []))
    ≡ lines ("requests 4" ∷ "ok 2" ∷ "failed 2" ∷ "left 0" ∷ "read 0" ∷ "end 0" ∷ [])

-- it comes in place of all rounds
abbrev pub SummaryShowsNoRound : Type 0
SummaryShowsNoRound =
    round_text Summary (record { round = 1; batch = Some 1; point = 0 }) [] [] [] ++ text_so_far Summary (record { tops = 1; images = 1; requests = 4 })
    (record { choices = []; completions = [] })
    ((run_script four_requests (zeros 4096 ∷ []) []).events)
    ≡ []

-- ---- the journal in a report

-- the second of two writes finds no place
abbrev pub two_writes : Script
two_writes = script Wait one_leaf [] (
    write 1 (codes "x") Off 1 65 512 ∷ Go ∷ write 2 (codes "y") Off 1 66 512 ∷ Go ∷ [])

-- each round shows its own choices and completions, and no order where nothing completed
abbrev pub EachRoundShowsItsOwnJournal : Type 0
EachRoundShowsItsOwnJournal =
    report_with_journal two_writes (zeros 4096 ∷ [])
    (choice 1 1 0 [] Body 512 1 (place 0 3 1 ∷ []) ∷ choice 2 2 0 [] Body 512 1 [] ∷ [])
    (completion 1 1 None ∷ [])
    ≡ lines (
    "pool 1 1"
    ∷ "round 1 batch 1 point 0"
    ∷ "1 write x ok 512"
    ∷ "take 1 0 - body 512 1 0:3"
    ∷ "order 1"
    ∷ "round 2 batch 2 point 0"
    ∷ "2 write y suspended"
    ∷ "take 2 0 - body 512 1 refused"
    ∷ "end 9" ∷ [])

-- the steps of a path have points between them, and that of the whole block is a dash
abbrev pub PathsHavePoints : Type 0
PathsHavePoints =
    map path_text ([] ∷ (0 ∷ []) ∷ (0 ∷ 2 ∷ 1 ∷ []) ∷ []) ≡ codes "-" ∷ codes "0" ∷ codes "0.2.1" ∷ []
