-- One attempt of a tree of requests, and how often a tree is attempted in a round.
--
-- A tree is the list of its requests in the order of their attempts: each child's tree by rising number, then the
-- request itself. So the root is last, and what is attempted again is a part of the list in the same order.
use Rattle.std.specs.Prelude.{ℕ, zero, suc, ◌+◌, List, [], ◌∷◌, ◌++◌, map, filter, Bool, true, false, ◌&&◌, not, Option, Some, None, Result, Ok, Err}
use Rattle.zio_types.specs.declared.error.Errno.{Errno}
use Rattle.zio_types.specs.declared.error.Errno.TheVariants.{Noent}
use Rattle.zio_types.specs.declared.place.Place.{Place}
use Rattle.zio_types.specs.declared.request.Bits.{Bits}
use Rattle.zio_types.specs.Choices.{Ask, Choice}
use Rattle.zio_types.specs.Errors.{worst_error, worst_of}
use Rattle.zio_blkptr.specs.declared.pointer.Bp.{Bp}
use Rattle.zio_blkptr.specs.declared.pointer.SumKind.{SumKind}
use Rattle.zio_script.specs.declared.script.Failmode.{Failmode}
use Rattle.zio_script.specs.declared.script.Request.{Request}
use Rattle.zio_script.specs.declared.script.Work.{Work}
use Rattle.zio_script.specs.declared.script.Work.TheVariants.{Null, Read, Write, Free, Claim}
use Rattle.zio_script.specs.Bodies.{body_of}
pub use Rattle.zio_script.specs.Decisions.{no_bits, joined_bits, has_bits, write_bits, gone_bits, write_bits_unless, kind_bits, suspend_unless, may_fail, decided, all_bits}
use Rattle.zio_script.specs.Requests.{kind_of, is_under_number}
use Rattle.zio_cksum.specs.Blocks.{Read as BlockRead}
use Rattle.zio_cksum.specs.Images.{Images, Setting, Written}
use Rattle.zio_gang.specs.declared.tree.Tree.{Tree}
use Rattle.zio_gang.specs.ByNumber.{merge_by}
use Rattle.zio_gang.specs.Trees.{Claimed, read_tree, free_tree, claim_tree}
use Rattle.zio_gang.specs.Writes.{Writing, Placed, content_of, place_block}

-- what the attempts of a round depend on beside the images
pub record Terms : Type 0 where
  pub setting : Setting
  pub failmode : Failmode
  pub round : ℕ
  -- the places of all blocks that were bound when the round began
  pub used : List Place

-- what a child leaves with its parent: its number, its error if it finished, and its pointer if it is a write with a place
pub record Child : Type 0 where
  pub number : ℕ
  pub error : Option Errno
  pub pointer : Option Bp

-- a request that hasn't finished
pub record Pending : Type 0 where
  pub request : Request
  -- the number of its batch
  pub birth : ℕ
  -- the block that a read or a free names
  pub block : Option Tree
  -- its children that finished in earlier attempts, by number
  pub kept : List Child

-- a request that finished, with its bytes if it is a read, and its block if it made one
pub record Ended : Type 0 where
  pub request : Request
  pub error : Option Errno
  pub bytes : List ℕ
  pub tree : Option Tree

-- what a request hands to its parent in an attempt; with bits it goes again
pub record Return : Type 0 where
  pub under : Option ℕ
  pub bits : Bits
  pub child : Child

-- ---- bits

-- goes again at once: NOW is set and SUSPEND isn't
abbrev pub now_alone : Bits → Bool
now_alone b = b.now && not b.suspend

-- the bits of all that children handed on
abbrev pub bits_of : List Return → Bits
bits_of [] = no_bits
bits_of (r ∷ rs) = joined_bits r.bits (bits_of rs)

-- ---- children

-- children at their places by number
abbrev pub insert_children : List Child → List Child → List Child
insert_children new kept = merge_by (λ (c : Child). c.number) new kept

-- what the children of a request handed to it in this attempt
abbrev pub returned_to : Pending → List Return → List Return
returned_to p returns = filter (λ (r : Return). is_under_number r.under p.request.number) returns

-- the children among what was handed on
abbrev pub children_of : List Return → List Child
children_of returns = map (λ (r : Return). r.child) returns

-- what was handed on by those that don't go again
abbrev pub finished_of : List Return → List Return
finished_of returns = filter (λ (r : Return). not (has_bits r.bits)) returns

-- ---- the own work

-- what the own work of a request gives: an error or none, a read's bytes, the block that it makes, its pointer if it is
-- a write with a place, what it asked for, and the images after
pub record Own : Type 0 where
  pub error : Option Errno
  pub bytes : List ℕ
  pub tree : Option Tree
  pub pointer : Option Bp
  pub asks : List Ask
  pub images : Images

-- own work that gives nothing but an error or none
abbrev pub only_error : Option Errno → Images → Own
only_error error images = record { error = error; bytes = []; tree = None; pointer = None; asks = []; images = images }

-- own work that gives bytes or an error
abbrev pub own_found : Result (List ℕ) Errno → Images → Own
own_found (Err e) images = only_error (Some e) images
own_found (Ok bytes) images = record { error = None; bytes = bytes; tree = None; pointer = None; asks = []; images = images }

-- the own work of a read
abbrev pub own_read : BlockRead → Own
own_read read = own_found read.found read.images

-- the own work of a free
abbrev pub own_free : Written → Own
own_free written = only_error written.error written.images

-- the block that a write placed, if it has a pointer
abbrev pub placed_tree : Option Bp → Placed → Option Tree
placed_tree None placed = None
placed_tree (Some bp) placed = Some (record { bp = bp; heads = placed.heads })

-- the own work of a write
abbrev pub own_write : Placed → Own
own_write placed = record {
  error = placed.error;
  bytes = [];
  tree = placed_tree placed.pointer placed;
  pointer = placed.pointer;
  asks = placed.asks;
  images = placed.images;
}

-- own work that gives a block or an error
abbrev pub own_claimed : Result Tree Errno → Images → Own
own_claimed (Err e) images = only_error (Some e) images
own_claimed (Ok tree) images = record { error = None; bytes = []; tree = Some tree; pointer = None; asks = []; images = images }

-- the own work of a claim
abbrev pub own_claim : Claimed → Own
own_claim claimed = own_claimed claimed.tree claimed.images

-- what the write of a request shares with its parts
abbrev pub writing_of : Terms → ℕ → Pending → SumKind → ℕ → Writing
writing_of t attempt p sum copies = record {
  setting = t.setting;
  request = p.request.number;
  round = t.round;
  attempt = attempt;
  sum = sum;
  copies = copies;
  birth = p.birth;
}

-- a read or a free needs its block, which admission sees to
abbrev pub read_of : Terms → Option Tree → Images → Own
read_of t None images = only_error (Some Noent) images
read_of t (Some tree) images = own_read (read_tree t.setting tree images)

-- the same for a free
abbrev pub free_of : Terms → Option Tree → Images → Own
free_of t None images = only_error (Some Noent) images
free_of t (Some tree) images = own_free (free_tree t.setting tree images)

-- nothing for a null, the block's tree for a read or a free, the content for a write, the pointer for a claim
abbrev pub own_work : List Choice → Terms → ℕ → Pending → Work → List (Option Bp) → Images → Own
own_work journal t attempt p Null pointers images = only_error None images
own_work journal t attempt p (Read name prio) pointers images = read_of t p.block images
own_work journal t attempt p (Write name sum copies prio body) pointers images =
    own_write (place_block journal (writing_of t attempt p sum copies) (content_of pointers (body_of body)) images)
own_work journal t attempt p (Free name) pointers images = free_of t p.block images
own_work journal t attempt p (Claim name pointer) pointers images = own_claim (claim_tree t.setting t.used pointer images)

-- ---- one request in an attempt

-- what becomes of one request: it finishes or goes again
pub record Attempted : Type 0 where
  pub return : Return
  pub ended : List Ended
  pub again : List Pending
  pub asks : List Ask
  pub images : Images

-- the block that a request made; with an error its places are given back
-- Rule: places given back.
abbrev pub tree_unless : Option Errno → Option Tree → Option Tree
tree_unless None tree = tree
tree_unless (Some e) tree = None

-- the request finishes with this error or none
abbrev pub ended_with : Pending → Own → Option Errno → Attempted
ended_with p own error = record {
  return = record {
    under = p.request.under;
    bits = no_bits;
    child = record { number = p.request.number; error = error; pointer = own.pointer };
  };
  ended = record { request = p.request; error = error; bytes = own.bytes; tree = tree_unless error own.tree } ∷ [];
  again = [];
  asks = own.asks;
  images = own.images;
}

-- the request goes again: it hands on its bits and pointer and no error, and keeps the children that finished
-- Rule: reexecution.
abbrev pub goes_again : Pending → Own → Bits → List Child → Attempted
goes_again p own bits kept = record {
  return = record {
    under = p.request.under;
    bits = bits;
    child = record { number = p.request.number; error = None; pointer = own.pointer };
  };
  ended = [];
  again = record p { kept = kept } ∷ [];
  asks = own.asks;
  images = own.images;
}

-- with bits it goes again and keeps the children that finished; else it finishes with the worst of its own error and theirs
-- Rule: error joining.
abbrev pub closed_if : Bool → Pending → Own → Bits → List Child → Attempted
closed_if true p own bits kept = goes_again p own bits kept
closed_if false p own bits kept = ended_with p own (worst_error own.error (worst_of (map (λ (c : Child). c.error) kept)))

-- what becomes of a request whose bits are known
abbrev pub closed : Pending → Own → Bits → List Child → Attempted
closed p own bits kept = closed_if (has_bits bits) p own bits kept

-- what becomes of a request after its own work, by the failure decision
-- Rule: error joining.
abbrev pub judged_own : Terms → Pending → List Return → Own → Attempted
judged_own t p returns own =
    closed p own (all_bits (kind_of p.request.work) own.error p.request.canfail t.failmode (bits_of returns))
    (insert_children (children_of (finished_of returns)) p.kept)

-- all children, those that go again too, give their pointers to the content
abbrev pub attempt_with : List Choice → Terms → ℕ → Pending → List Return → Images → Attempted
attempt_with journal t attempt p returns images =
    judged_own t p returns (own_work journal t attempt p p.request.work
    (map (λ (c : Child). c.pointer) (insert_children (children_of returns) p.kept)) images)

-- a request whose children were attempted before it
abbrev pub attempt_one : List Choice → Terms → ℕ → Pending → List Return → Images → Attempted
attempt_one journal t attempt p returns images = attempt_with journal t attempt p (returned_to p returns) images

-- ---- an attempt of a tree

-- what was handed on, the last first; what finished and what goes again, in the order of the attempt; what was asked
-- for; and the images after
pub record Attempt : Type 0 where
  pub returns : List Return
  pub ended : List Ended
  pub again : List Pending
  pub asks : List Ask
  pub images : Images

-- one request in front of those behind it
abbrev pub add_attempted : Attempted → Attempt → Attempt
add_attempted one others = record {
  returns = others.returns;
  ended = one.ended ++ others.ended;
  again = one.again ++ others.again;
  asks = one.asks ++ others.asks;
  images = others.images;
}

-- a request, and those behind it with what it handed on
abbrev pub then_attempt : List Return → Attempted → (List Return → Images → Attempt) → Attempt
then_attempt returns one others = add_attempted one (others (one.return ∷ returns) one.images)

-- each request in turn
-- Rule: reexecution.
unfoldable pub attempt_each : List Choice → Terms → ℕ → List Pending → List Return → Images → Attempt
attempt_each journal t attempt [] returns images = record { returns = returns; ended = []; again = []; asks = []; images = images }
attempt_each journal t attempt (p ∷ ps) returns images =
    then_attempt returns (attempt_one journal t attempt p returns images) (attempt_each journal t attempt ps)

-- the front of an attempt before the rest of it
abbrev pub added_attempt : Attempt → Attempt → Attempt
added_attempt front rest = record {
  returns = rest.returns;
  ended = front.ended ++ rest.ended;
  again = front.again ++ rest.again;
  asks = front.asks ++ rest.asks;
  images = rest.images;
}

-- an attempt that goes on with what it handed on
abbrev pub joined_attempt : Attempt → (List Return → Images → Attempt) → Attempt
joined_attempt front rest = added_attempt front (rest front.returns front.images)

-- one attempt of a tree: each request after its children, the root last
-- Rule: order within an attempt.
abbrev pub attempt_tree : List Choice → Terms → ℕ → List Pending → Images → Attempt
attempt_tree journal t attempt tree images = attempt_each journal t attempt tree [] images

-- the root is attempted last
abbrev pub root_bits : List Return → Bits
root_bits [] = no_bits
root_bits (r ∷ rs) = r.bits

-- ---- settling a tree

-- what a round leaves of a tree, what finished in it, what was asked for, and the images after
pub record Settled : Type 0 where
  pub left : List Pending
  pub ended : List Ended
  pub asks : List Ask
  pub images : Images

-- a tree that isn't attempted again in this round
abbrev pub settled_as : Attempt → Settled
settled_as a = record { left = a.again; ended = a.ended; asks = a.asks; images = a.images }

-- what an earlier attempt finished, in front of the later ones'
abbrev pub add_earlier : Attempt → Settled → Settled
add_earlier a later = record {
  left = later.left;
  ended = a.ended ++ later.ended;
  asks = a.asks ++ later.asks;
  images = later.images;
}

-- an attempt, and where the test says so the next
abbrev pub settled_if : Bool → Attempt → (List Pending → Images → Settled) → Settled
settled_if true a again = add_earlier a (again a.again a.images)
settled_if false a again = settled_as a

-- an attempt, and the next while the root's bits are NOW alone
abbrev pub settled_by : Attempt → (List Pending → Images → Settled) → Settled
settled_by a again = settled_if (now_alone (root_bits a.returns)) a again

-- the remaining tree is attempted again while its root is to go again at once, so many times at most
-- Rule: reexecution limit.
unfoldable pub settle_from : ℕ → List Choice → Terms → ℕ → List Pending → Images → Settled
settle_from zero journal t attempt tree images = settled_as (attempt_tree journal t attempt tree images)
settle_from (suc more) journal t attempt tree images =
    settled_by (attempt_tree journal t attempt tree images) (settle_from more journal t (attempt + 1))

-- how often a tree goes again at once in a round
-- Rule: reexecution limit.
abbrev pub reexecutions_max : ℕ
reexecutions_max = 3

-- a tree in one round: nothing is left of it where it finished, else it is suspended
-- Rule: reexecution limit.
abbrev pub settle : List Choice → Terms → List Pending → Images → Settled
settle journal t tree images = settle_from reexecutions_max journal t 0 tree images
