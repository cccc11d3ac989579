-- A write whose block was written: what it came to, and whether the request keeps that block.
use Rattle.std.specs.Prelude.{ℕ, List, [], map, Bool, true, false, ◌&&◌, not, Option, Some, None, is_none}
use Rattle.zio_types.specs.declared.error.Errno.{Errno}
use Rattle.zio_types.specs.declared.place.Place.{Place}
use Rattle.zio_types.specs.Errors.{worst_error, worst_of}
use Rattle.zio_script.specs.Requests.{kind_of}
use Rattle.zio_gang.specs.Attempts.{Child, all_bits, bits_of, has_bits}
use Rattle.zio_children.specs.RequestKids.{finished_in, returns_in}
use Rattle.zio_stages.specs.ClosedRequests.{Again, Closed, Finished}
use Rattle.zio_stages.specs.StoredBlocks.{block_places}
use Rattle.zio_stages.specs.declared.stored_block.StoredBlock.{StoredBlock}
use Rattle.zio_stages.specs.declared.request_node.Own.{Own}
use Rattle.zio_stages.specs.declared.request_node.Own.TheVariants.{Claim, Due, Found, Free, Over, Read, Stored, Write}
use Rattle.zio_stages.specs.declared.request_node.OwnFound.{OwnFound}
use Rattle.zio_stages.specs.declared.request_node.RequestNode.{RequestNode}

-- ---- what it came to

-- it came to a block of which this holds
abbrev pub IsStoredWith : (StoredBlock → Type 0) → Own → Type 0
IsStoredWith P Due = ⊥
IsStoredWith P (Write w) = ⊥
IsStoredWith P (Stored b) = P b
IsStoredWith P (Read w) = ⊥
IsStoredWith P (Free w) = ⊥
IsStoredWith P (Claim w) = ⊥
IsStoredWith P (Found own) = ⊥
IsStoredWith P Over = ⊥

abbrev pub found_by : Own → Option OwnFound
found_by Due = None
found_by (Write w) = None
found_by (Stored b) = Some b.own
found_by (Read w) = None
found_by (Free w) = None
found_by (Claim w) = None
found_by (Found own) = None
found_by Over = None

abbrev pub error_by : Own → Option Errno
error_by Due = None
error_by (Write w) = None
error_by (Stored b) = b.own.error
error_by (Read w) = None
error_by (Free w) = None
error_by (Claim w) = None
error_by (Found own) = None
error_by Over = None

-- the places of its block
abbrev pub made_by : Own → List Place
made_by Due = []
made_by (Write w) = []
made_by (Stored b) = block_places b.own.tree
made_by (Read w) = []
made_by (Free w) = []
made_by (Claim w) = []
made_by (Found own) = []
made_by Over = []

-- how many of these went back
abbrev pub given_by : Own → ℕ
given_by Due = 0
given_by (Write w) = 0
given_by (Stored b) = b.given
given_by (Read w) = 0
given_by (Free w) = 0
given_by (Claim w) = 0
given_by (Found own) = 0
given_by Over = 0

-- ---- its block

-- with its own work's error, the request finishes without error, by that and by what its children came to
abbrev pub is_well : RequestNode → Option Errno → Bool
is_well r error =
    not (has_bits (all_bits (kind_of r.waiting.request.work) error r.waiting.request.canfail r.failmode (bits_of (returns_in r.kids.kids))))
    && is_none (worst_error error (worst_of (map (λ (c : Child). c.error) (finished_in r.kids.kids))))

-- the request finished without error, and keeps the block that it made
abbrev pub keeps_if : Option Errno → Bool
keeps_if None = true
keeps_if (Some e) = false

abbrev pub keeps_block : Closed → Bool
keeps_block (Finished waiting error own) = keeps_if error
keeps_block (Again bits whole own) = false

abbrev pub own_in : Closed → OwnFound
own_in (Finished waiting error own) = own
own_in (Again bits whole own) = own
