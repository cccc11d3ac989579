-- What the own work of a request gives, whatever the disks tell and by the definition.
use Rattle.std.specs.Prelude.{◌≡◌, ℕ, ◌%◌, List, ◌++◌, length, Bool, true, None, Option, is_some, IfSome, IsTrue, Contains}
use Rattle.std.specs.List.{AllByRecursion}
use Rattle.zio_types.specs.declared.place.Place.{Place}
use Rattle.zio_types.specs.Choices.{Choice}
use Rattle.zio_types.specs.Places.{sector_size}
use Rattle.zio_blkptr.specs.Pointers.{valid}
use Rattle.zio_script.specs.declared.script.Work.{Work}
use Rattle.zio_script.specs.Requests.{kind_of, makes_block}
use Rattle.zio_script.specs.Whys.{is_claim}
use Rattle.zio_cksum.specs.Images.{Images}
use Rattle.zio_gang.specs.declared.tree.Tree.{Tree}
use Rattle.zio_gang.specs.Attempts.{Own}
use Rattle.zio_gang.specs.Journals.{HaveDistinctKeys, asks_of}
use Rattle.zio_disks.specs.Whole.{IsWholeTree}
use Rattle.zio_blocks.specs.Blocks.{AnswersBy}
use Rattle.zio_course.specs.Runners.{places_of_block, read_size}
use Rattle.zio_plain.specs.declared.owns.OwnEnd.{OwnEnd}
use Rattle.zio_plain.specs.declared.waiting.Waiting.{Waiting}
use Rattle.zio_plain.specs.Judgments.{own_of}

-- More choices behind those of the first list, for requests and attempts of this kind, each key once.
pub record AreAsked (may : ℕ → ℕ → Type 0) (old new : List Choice) : Type 0 where
  pub more : List Choice
  pub is : new ≡ old ++ more
  pub of : AllByRecursion (λ (c : Choice). may c.asked.key.request c.asked.key.attempt) more
  pub distinct : HaveDistinctKeys (asks_of more)

-- for this request in this attempt
abbrev pub IsFor : ℕ → ℕ → ℕ → ℕ → Type 0
IsFor request attempt r a = (r ≡ request) × (a ≡ attempt)

-- The places of the blocks that some requests read or free, and whether they are claims.
pub record Named : Type 0 where
  pub places : List Place
  pub claims : Bool

-- a request of such work is one of those: the places of its block are among theirs, and it is a claim where they are
pub record AreNamed (named : Named) (work : Work) (block : Option Tree) : Type 0 where
  pub within : AllByRecursion (Contains named.places) (places_of_block block)
  pub claim : is_claim (kind_of work) ≡ named.claims

-- What own work gives, whatever the disks tell: a valid pointer, a whole block where there is no error, and that of a
-- write or a claim alone; whole sectors, and all bytes of a block that is read.
pub record IsOwnEnd (w : Waiting) (end : OwnEnd) : Type 0 where
  pub pointer : IfSome end.pointer (λ bp. IsTrue (valid bp))
  pub whole : end.error ≡ None → IfSome end.tree IsWholeTree
  pub makes : is_some end.tree ≡ true → makes_block w.request.work ≡ true
  pub sectors : length end.bytes % sector_size ≡ 0
  pub size : end.error ≡ None → AllByRecursion (λ n. length end.bytes ≡ n) (read_size w.request.work w.block)

-- the own work is that of the definition, and asked for what was given since
pub record IsOwn (own : Own) (end : OwnEnd) (given_old given_new : List Choice) (after : Images) : Type 0 where
  pub is : own ≡ own_of end own.asks after
  pub asks : asks_of given_new ≡ asks_of given_old ++ own.asks

-- For images that were told images are told afterwards, which are the definition's under every journal that answers by
-- the entries that were given.
pub record TellsOwn {S : Type 0} (tells : S → Images → Type 0) (given : S → List Choice) (means : List Choice → Own) (end : OwnEnd) (old new : S) : Type 0 where
  pub after : Images
  pub told : tells new after
  pub meant : (journal : List Choice) → AnswersBy journal (given new) → IsOwn (means journal) end (given old) (given new) after
