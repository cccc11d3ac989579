-- A plain store has one reply to each request, so two runs that store plainly by the same lines answer alike.
use Rattle.std.proofs.Common.{◌≡◌, ◌≢◌, ℕ, ◌+◌, ◌≤◌, List, [], ◌∷◌, ◌++◌, map, ◌==◌, Option, Some, None, ◌⊎◌, ⊎_elim, refl, sym, ◌∙◌, subst, arith}
use Rattle.std.specs.List.{AllByRecursion}
use Rattle.zio_types.specs.declared.error.Errno.{Errno}
use Rattle.zio_types.specs.Choices.{Choice}
use Rattle.zio_script.specs.declared.script.Item.{Item}
use Rattle.zio_script.specs.declared.script.Item.TheVariants.{Request as RequestLine, Go, Clear}
use Rattle.zio_script.specs.declared.script.Request.{Request}
use Rattle.zio_script.specs.declared.script.Script.{Script}
use Rattle.zio_script.specs.Accepted.{AreBehindParents, AreRising, IsOrderlyBatch, IsOrderlyScript, batches_from, batches_of}
use Rattle.zio_script.specs.Grammar.{IsScriptOf}
use Rattle.zio_script.specs.Requests.{requests_of}
use Rattle.zio_script.specs.Whys.{tells_reads_apart}
use Rattle.zio_script.proofs.AcceptedLemmas.{reading_orderly}
use Rattle.zio_cksum.specs.Images.{Images}
use Rattle.zio_cksum.proofs.AllLemmas.{all_weaker}
use Rattle.zio_gang.specs.Attempts.{Ended}
use Rattle.zio_gang.specs.Rounds.{trees_of}
use Rattle.zio_gang.specs.Runs.{run_script}
use Rattle.zio_gang.proofs.FateLemmas.{batch_held, sum_flat, sum_map, tally, tally-append}
use Rattle.zio_report.specs.Reports.{all_ended}
use Rattle.zio_trace.specs.TreeOrders.{Pairs}
use Rattle.zio_trace.proofs.PairLemmas.{pairs_two}
use Rattle.zio_heal.specs.Alike.{IsAnsweredAlike}
use Rattle.zio_heal.specs.PlainStore.{Reply, Store, answer_of, no_contents, plain_from, plain_store, replies_of, reply_with, store_after}
use Rattle.zio_heal.specs.SameAnswers.{AnswerAlike, HaveOneReply, IsHealingRun}
use Rattle.zio_heal.specs.StoredPlainly.{HasReply}
use Rattle.zio_heal.proofs.BatchTrees.{numbered, pairs_once, rising_once}
use Rattle.zio_heal.proofs.PlainEnds.{batches_rising, plainly}
use Rattle.zio_heal.proofs.TreeKids.{one_if}

-- ---- one reply a request

abbrev of_replies : ℕ → List Reply → ℕ
of_replies n replies = tally (λ (reply : Reply). one_if (reply.number == n)) replies

module _ (n : ℕ) where
  tree_count : (e : Option Errno) (batch : List Request) (store : Store) (tree : List Request) → of_replies n (map (reply_with e batch store) tree) ≡ numbered n tree
  tree_count (Some x) batch store tree = sum_map (λ (reply : Reply). one_if (reply.number == n)) (reply_with (Some x) batch store) tree
  tree_count None batch store tree = sum_map (λ (reply : Reply). one_if (reply.number == n)) (reply_with None batch store) tree

  batch_count : (store : Store) (batch : List Request) → AreBehindParents [] batch → AreRising batch → of_replies n (replies_of store batch) ≡ numbered n batch
  batch_count store batch parents rising =
      let f : Reply → ℕ = λ reply. one_if (reply.number == n) in
      sum_flat f (λ (tree : List Request). map (reply_with (answer_of store tree) batch store) tree) (trees_of batch)
      ∙ (λ i. tally (λ (tree : List Request). tree_count (answer_of store tree) batch store tree i) (trees_of batch))
      ∙ batch_held batch parents rising (λ (r : Request). one_if (r.number == n))

  plain_count : (store : Store) (batches : List (List Request)) → AllByRecursion (AreBehindParents []) batches → AllByRecursion AreRising batches → of_replies n (plain_from store batches).replies ≡ tally (numbered n) batches
  plain_count store [] parents rising = refl
  plain_count store (batch ∷ batches) parents rising =
      omega (
        arith,
        tally-append (λ (reply : Reply). one_if (reply.number == n)) (replies_of store batch) (plain_from (store_after store batch) batches).replies,
        batch_count store batch parents.0 rising.0,
        plain_count (store_after store batch) batches parents.1 rising.1,
      )

  lines_count : (items : List Item) (batch : List Request) → tally (numbered n) (batches_from batch items) ≤ numbered n batch + numbered n (requests_of items)
  lines_count [] batch = omega arith
  lines_count (RequestLine r ∷ items) batch = omega (arith, lines_count items (batch ++ r ∷ []), tally-append (λ (q : Request). one_if (q.number == n)) batch (r ∷ []))
  lines_count (Go ∷ items) batch = omega (arith, lines_count items [])
  lines_count (Clear ∷ items) batch = lines_count items batch

abbrev NumbersApart : Reply → Reply → Type 0
NumbersApart a b = a.number ≢ b.number

replies_apart : (script : Script) → IsOrderlyScript script → Pairs NumbersApart (plain_store script).replies
replies_apart script orderly =
    pairs_once (λ (reply : Reply). reply.number) (plain_store script).replies
    (λ n. omega (
      arith,
      plain_count n no_contents (batches_of script.items)
          (all_weaker (IsOrderlyBatch (tells_reads_apart script)) (AreBehindParents []) (batches_of script.items) (λ batch b. b.parents) orderly.batches) (batches_rising script.items [] orderly.rising),
      lines_count n script.items [],
      rising_once n (requests_of script.items) orderly.rising,
    ))

one_reply : (replies : List Reply) (e f : Ended) → Pairs NumbersApart replies → HasReply replies e → HasReply replies f → e.request.number ≡ f.request.number → HaveOneReply replies e f
one_reply replies e f apart h k same =
    let numbers : h.reply.number ≡ k.reply.number = sym h.alike.number ∙ same ∙ k.alike.number in
    let one : h.reply ≡ k.reply =
    ⊎_elim
    (λ (is : h.reply ≡ k.reply). is)
    (λ (two : NumbersApart h.reply k.reply ⊎ NumbersApart k.reply h.reply).
    ⊎_elim (λ (a : NumbersApart h.reply k.reply). absurd (a numbers)) (λ (b : NumbersApart k.reply h.reply). absurd (b (sym numbers))) two)
    (pairs_two NumbersApart replies h.reply k.reply apart h.listed k.listed) in
    record { reply = k.reply; listed = k.listed; first = subst (λ (reply : Reply). IsAnsweredAlike reply e) one h.alike; second = k.alike }

-- Two scripts with the same lines answer alike.
pub same_law : (first second : List ℕ) (script other : Script) (images others : Images) (journal choices : List Choice) → IsScriptOf first script → IsScriptOf second other → other.items ≡ script.items
    → IsHealingRun script images journal → IsHealingRun other others choices → AnswerAlike (plain_store script).replies (run_script script images journal) (run_script other others choices)
same_law first second script other images others journal choices is of same h k =
    let replies : List Reply = (plain_store script).replies in
    let one = plainly first script images journal is h.lawful h.healed h.fit h.small h.accepts in
    let two = plainly second other others choices of k.lawful k.healed k.fit k.small k.accepts in
    let theirs : AllByRecursion (HasReply replies) (all_ended (run_script other others choices).events) =
    subst (λ (items : List Item). AllByRecursion (HasReply (plain_from no_contents (batches_of items)).replies) (all_ended (run_script other others choices).events)) same two.replies in
    all_weaker (HasReply replies) (λ (e : Ended). AllByRecursion (λ (f : Ended). e.request.number ≡ f.request.number → HaveOneReply replies e f) (all_ended (run_script other others choices).events)) (all_ended (run_script script images journal).events)
    (λ e a. all_weaker (HasReply replies) (λ (f : Ended). e.request.number ≡ f.request.number → HaveOneReply replies e f) (all_ended (run_script other others choices).events)
    (λ f b number. one_reply replies e f (replies_apart script (reading_orderly first script is)) a b number) theirs)
    one.replies
