-- How much a write in an attempt asked for its block: operations on leaves, and members.
use Rattle.std.specs.Prelude.{◌≡◌, ℕ, List, [], length, Bool, false}
use Rattle.zio_types.specs.declared.place.Top.{Top}
use Rattle.zio_parts.specs.declared.members.Member.{Member}
use Rattle.zio_stages.specs.PartNodes.{IsMemberUnder, with_member}
use Rattle.zio_stages.specs.PartWorks.{IsMoreDue, asked_by, is_second}
use Rattle.zio_stages.specs.RequestWrites.{IsWriteWith}
use Rattle.zio_stages.specs.declared.own_write.OwnWrite.{OwnWrite}
use Rattle.zio_stages.specs.declared.part_node.PartNode.{PartNode}
use Rattle.zio_stages.specs.declared.request_node.Own.{Own}
use Rattle.zio_stages.specs.declared.request_node.Own.TheVariants.{Claim, Due, Found, Free, Over, Read, Stored, Write}

-- how many operations on leaves its own write asked
abbrev pub asked_of : Own → ℕ
asked_of Due = 0
asked_of (Write w) = asked_by w.work.io
asked_of (Stored b) = 0
asked_of (Read w) = 0
asked_of (Free w) = 0
asked_of (Claim w) = 0
asked_of (Found own) = 0
asked_of Over = 0

-- that is in its second pass
abbrev pub second_of : Own → Bool
second_of Due = false
second_of (Write w) = is_second w.work.io
second_of (Stored b) = false
second_of (Read w) = false
second_of (Free w) = false
second_of (Claim w) = false
second_of (Found own) = false
second_of Over = false

-- its members that were handed out
abbrev pub members_of : Own → List Member
members_of Due = []
members_of (Write w) = w.work.own.part.members
members_of (Stored b) = []
members_of (Read w) = []
members_of (Free w) = []
members_of (Claim w) = []
members_of (Found own) = []
members_of Over = []

-- the path of its block
abbrev pub path_of : Own → List ℕ
path_of Due = []
path_of (Write w) = w.work.own.part.path
path_of (Stored b) = []
path_of (Read w) = []
path_of (Free w) = []
path_of (Claim w) = []
path_of (Found own) = []
path_of Over = []

-- another operation on a leaf is due for its copies
abbrev pub IsMoreDueWrite : List Top → Own → Type 0
IsMoreDueWrite tops own = IsWriteWith (λ (w : OwnWrite). IsMoreDue tops w.work.io) own

-- the second asked for as much as the first
pub record AsksTheSame (a b : Own) : Type 0 where
  pub asked : asked_of b ≡ asked_of a
  pub second : second_of b ≡ second_of a
  pub many : length (members_of b) ≡ length (members_of a)
  pub path : path_of b ≡ path_of a

-- the second handed out this member, and has a member more
pub record HasNextMember (child : PartNode) (a b : Own) : Type 0 where
  pub members : members_of b ≡ with_member (members_of a)
  pub path : path_of b ≡ path_of a
  pub under : IsWriteWith (λ (w : OwnWrite). IsMemberUnder w.work.own.part child) b
