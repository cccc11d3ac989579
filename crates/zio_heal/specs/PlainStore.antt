-- The plain store of a script: what its requests are answered where every batch just happens, one after another. It has
-- names and contents, and no tops, places, copies, faults or rounds.
use Rattle.std.specs.Prelude.{ℕ, ◌*◌, List, [], ◌∷◌, ◌++◌, fold, map, replicate, Bool, if◌then◌else◌, Option, Some, None, is_some, bytes_eq}
use Rattle.std.specs.List.{flat_map}
use Rattle.zio_types.specs.declared.error.Errno.{Errno}
use Rattle.zio_script.specs.declared.limits.TheConstants.{POINTER_SIZE}
use Rattle.zio_script.specs.declared.script.Body.{Body}
use Rattle.zio_script.specs.declared.script.Request.{Request}
use Rattle.zio_script.specs.declared.script.Script.{Script}
use Rattle.zio_script.specs.declared.script.Work.{Work}
use Rattle.zio_script.specs.declared.script.Work.TheVariants.{Null, Read, Write, Free, Claim}
use Rattle.zio_script.specs.Accepted.{batches_of}
use Rattle.zio_script.specs.Bodies.{body_of}
use Rattle.zio_script.specs.Whys.{writes_under}
use Rattle.zio_gang.specs.Rounds.{admission, trees_of}
use Rattle.zio_gang.specs.Writes.{content_of}

-- ---- names and contents

-- the bytes of a block, and how many at their front stand for its children's pointers
pub record Content : Type 0 where
  pub front : ℕ
  pub bytes : List ℕ

-- the content of each name that has one
abbrev pub Store : Type 0
Store = List ℕ → Option Content

-- no name has a content
abbrev pub no_contents : Store
no_contents name = None

-- the name has this content from now on, or none
abbrev pub with_content : List ℕ → Option Content → Store → Store
with_content name content store other = if bytes_eq name other then content else store other

-- the name has a content
abbrev pub has_content : Store → List ℕ → Bool
has_content store name = is_some (store name)

-- ---- one request

-- what a write of this batch stores: zeros for the pointers of its write children, its data, and zeros to whole sectors
-- Rule: write content.
abbrev pub content_in : List Request → Request → Body → Content
content_in batch r body = record {
  front = POINTER_SIZE * writes_under batch r.number;
  bytes = content_of (replicate (writes_under batch r.number) None) (body_of body);
}

-- the content that a request without error writes or reads
abbrev pub content_for : List Request → Request → Work → Store → Option Content
content_for batch r Null store = None
content_for batch r (Read name prio) store = store name
content_for batch r (Write name sum copies prio body) store = Some (content_in batch r body)
content_for batch r (Free name) store = None
content_for batch r (Claim name pointer) store = None

-- what a request without error does to the store
abbrev pub changed_by : List Request → Store → Request → Work → Store
changed_by batch store r Null = store
changed_by batch store r (Read name prio) = store
changed_by batch store r (Write name sum copies prio body) = with_content name (Some (content_in batch r body)) store
changed_by batch store r (Free name) = with_content name None store
changed_by batch store r (Claim name pointer) = store

-- what a request is answered: an error or none, and the content that it wrote or read
pub record Reply : Type 0 where
  pub number : ℕ
  pub error : Option Errno
  pub content : Option Content

-- the reply of a request whose tree is answered with this error, or none
abbrev pub reply_with : Option Errno → List Request → Store → Request → Reply
reply_with (Some e) batch store r = record { number = r.number; error = Some e; content = None }
reply_with None batch store r = record { number = r.number; error = None; content = content_for batch r r.work store }

-- ---- batches

-- what admission says of a tree where nothing is suspended and these names have contents
abbrev pub answer_of : Store → List Request → Option Errno
answer_of store tree = admission [] (has_content store) tree

-- the requests of a tree without error change the store in turn; those of another leave it
abbrev pub changed_unless : Option Errno → List Request → List Request → Store → Store
changed_unless (Some e) batch tree store = store
changed_unless None batch tree store = fold (λ (now : Store) (r : Request). changed_by batch now r r.work) store tree

-- the replies of a batch, tree by tree: each over the store before the batch
abbrev pub replies_of : Store → List Request → List Reply
replies_of store batch =
    flat_map (λ (tree : List Request). map (reply_with (answer_of store tree) batch store) tree) (trees_of batch)

-- the store after a batch
abbrev pub store_after : Store → List Request → Store
store_after store batch =
    fold (λ (now : Store) (tree : List Request). changed_unless (answer_of store tree) batch tree now) store
    (trees_of batch)

-- ---- a script

-- what a plain store answers, and what it has at the end
pub record Plain : Type 0 where
  pub replies : List Reply
  pub store : Store

-- these replies in front of the later ones
abbrev pub add_replies : List Reply → Plain → Plain
add_replies replies later = record { replies = replies ++ later.replies; store = later.store }

-- batch after batch, each over the store that the one before it left
abbrev pub plain_from : Store → List (List Request) → Plain
plain_from store [] = record { replies = []; store = store }
plain_from store (batch ∷ batches) = add_replies (replies_of store batch) (plain_from (store_after store batch) batches)

-- the plain store of a script, which is empty at first
-- Rule: healing faults.
abbrev pub plain_store : Script → Plain
plain_store script = plain_from no_contents (batches_of script.items)
