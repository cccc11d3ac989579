-- A run beside the plain store, between two rounds: the batch that is under way, request by request.
use Rattle.std.specs.Prelude.{◌≡◌, ℕ, List, Bool, true, false, Option, Some, None, Contains}
use Rattle.std.specs.List.{AllByRecursion}
use Rattle.zio_script.specs.declared.script.Request.{Request}
use Rattle.zio_script.specs.Requests.{kind_of, name_of, names_it}
use Rattle.zio_script.specs.Whys.{is_write, writes_under}
use Rattle.zio_gang.specs.Attempts.{Ended, Pending}
use Rattle.zio_gang.specs.Rounds.{Bound, is_bound}
use Rattle.zio_heal.specs.Alike.{IsAlikeTo}
use Rattle.zio_heal.specs.PlainStore.{Content, Reply, Store, reply_with}
use Rattle.zio_heal.specs.SafeBlocks.{Contents}
use Rattle.zio_heal.specs.SafeRounds.{AreReady, requests_in}
use Rattle.zio_heal.specs.StoredPlainly.{HasReply}
use Rattle.zio_heal.proofs.TreeKids.{kids_in}
use Rattle.zio_heal.proofs.PlainSteps.{effect}

-- whether a name is bound, and its content, beside the plain store's
abbrev pub Matches : Option Content → Bool → List ℕ → Type 0
Matches None bound bytes = bound ≡ false
Matches (Some content) bound bytes = (bound ≡ true) × IsAlikeTo content bytes

abbrev pub NamesNot : List ℕ → Pending → Type 0
NamesNot m p = names_it (name_of p.request.work) (Some m) ≡ false

-- a request that ended: one of these, with one of these replies
pub record IsAnswered (replies : List Reply) (requests : List Request) (e : Ended) : Type 0 where
  pub reply : HasReply replies e
  pub member : Contains requests e.request

-- A request that hasn't ended, of a batch whose plain store is this before it and that after it: its name is still as
-- before.
pub record IsWaiting (replies : List Reply) (requests batch : List Request) (before after : Store) (contents : Contents) (bound : Bound) (r : Request) : Type 0 where
  pub member : Contains requests r
  pub reply : Contains replies (reply_with None batch before r)
  pub changes : (m : List ℕ) → name_of r.work ≡ Some m → after m ≡ effect batch r r.work (before m)
  pub matches : (m : List ℕ) → name_of r.work ≡ Some m → Matches (before m) (is_bound bound m) (contents m)
  pub kids : is_write (kind_of r.work) ≡ true → kids_in batch r.number ≡ writes_under batch r.number

-- The batch under way has these trees left, and is the last of those that lead to this store: names of its requests that
-- haven't ended are as before it, others as after it.
pub record IsUnderWay (replies : List Reply) (requests : List Request) (contents : Contents) (bound : Bound) (trees : List (List Pending)) (after : Store) : Type 0 where
  pub batch : List Request
  pub before : Store
  pub ready : AreReady bound (kids_in batch) trees
  pub waiting : AllByRecursion (λ (p : Pending). IsWaiting replies requests batch before after contents bound p.request) (requests_in trees)
  pub others : (m : List ℕ) → AllByRecursion (NamesNot m) (requests_in trees) → Matches (after m) (is_bound bound m) (contents m)
