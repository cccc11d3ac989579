-- Whether a request in an attempt walks over headers, how long a write's body is, and whether its block was written.
use Rattle.std.specs.Prelude.{ℕ, List, Bool, true, false, Option, Some, None}
use Rattle.zio_blkptr.specs.Pointers.{pointer_of}
use Rattle.zio_blkptr.specs.declared.pointer.Bp.{Bp}
use Rattle.zio_script.specs.declared.script.Work.{Work}
use Rattle.zio_script.specs.declared.script.Work.TheVariants.{Null, Read, Write, Free, Claim}
use Rattle.zio_script.specs.Whys.{body_len}
use Rattle.zio_gang.specs.declared.tree.Tree.{Tree}
use Rattle.zio_stages.specs.declared.request_node.Own.{Own}
use Rattle.zio_stages.specs.declared.request_node.Own.TheVariants.{Claim as ClaimOwn, Due, Found, Free as FreeOwn, Over, Read as ReadOwn, Stored, Write as WriteOwn}

-- the block is a gang
abbrev pub is_gang_tree : Option Tree → Bool
is_gang_tree None = false
is_gang_tree (Some tree) = tree.bp.gang

-- the bytes point to a gang
abbrev pub is_gang_pointer : Option Bp → Bool
is_gang_pointer None = false
is_gang_pointer (Some bp) = bp.gang

abbrev pub points_to_gang : List ℕ → Bool
points_to_gang bytes = is_gang_pointer (pointer_of bytes)

-- The block that a read or a free names is a gang, or the one that a claim's bytes point to.
abbrev pub has_gang_stages : Work → Option Tree → Bool
has_gang_stages Null block = false
has_gang_stages (Read name prio) block = is_gang_tree block
has_gang_stages (Write name sum copies prio body) block = false
has_gang_stages (Free name) block = is_gang_tree block
has_gang_stages (Claim name pointer) block = points_to_gang pointer

-- so many bytes has the body of a write
abbrev pub body_len_of : Work → ℕ
body_len_of (Write name sum copies prio body) = body_len body
body_len_of _ = 0

-- the block of a write was written
abbrev pub is_stored : Own → Bool
is_stored Due = false
is_stored (WriteOwn w) = false
is_stored (Stored b) = true
is_stored (ReadOwn w) = false
is_stored (FreeOwn w) = false
is_stored (ClaimOwn w) = false
is_stored (Found own) = false
is_stored Over = false
