use Rattle.std.proofs.Common.{◌≡◌, ℕ, List, [], Some, map, subst, sym, ap}
use Rattle.std.specs.Prelude.{drop, is_none}
use Rattle.std.specs.List.{AllByRecursion}
use Rattle.zio_script.specs.Accepted.{AreRising}
use Rattle.zio_script.specs.Requests.{requests_of}
use Rattle.zio_spelled.specs.declared.rounds.RoundJournal.{RoundJournal}
use Rattle.zio_audit.specs.declared.seen.Seen.{Seen}
use Rattle.zio_audit.specs.Ended.{IsJudged, IsSeenOf}
use Rattle.zio_audit.specs.Seen.{verdict_of}
use Rattle.zio_audit.proofs.JudgedRuns.{IsMatched, IsWholePut, NoneBehind, judged_completions, judged_images, judged_places, judged_plain, judged_put, judged_yes, matched_by, others_differ, seen_images, seen_line}
use Rattle.zio_audit.proofs.run.judge_ended.Goals as goal

pub unmatched_round-requires : goal.unmatched_round-requires
unmatched_round-requires g c = subst (λ items. AreRising (requests_of items)) (sym c.as_slice.ensures) c.requires.rising

pub returns-in-Some : goal.returns-in-Some
returns-in-Some g c left after =
    let some = rw c.in-Some.is at c.in_ok-round.ensures in (
      judged_places c.args.script.now c.args.report.now c.args.journals c.args.plain.now c.args.journal.now.journal left after
          (λ none. some.1 (subst (λ (js : List RoundJournal). AllByRecursion (λ (k : RoundJournal). k.entries ≡ []) (drop c.rounds.result js)) (sym c.again.ensures) (subst (λ (n : ℕ). AllByRecursion (λ (k : RoundJournal). k.entries ≡ []) (drop n c.args.journals)) (sym c.rounds.ensures) none))),
      λ case same_report same_after read ended. some.0,
    )

pub returns-in-Some-2 : goal.returns-in-Some-2
returns-in-Some-2 g c left after =
    let none : NoneBehind c.args.script.now c.args.report.now c.args.journals c.args.plain.now c.args.journal.now.journal left after = (subst (λ (n : ℕ). AllByRecursion (λ (k : RoundJournal). k.entries ≡ []) (drop n c.args.journals)) c.rounds.ensures (subst (λ (js : List RoundJournal). AllByRecursion (λ (k : RoundJournal). k.entries ≡ []) (drop c.rounds.result js)) c.again.ensures (rw c.in-None.is at c.in_ok-round.ensures))) in
    let matched : IsMatched c.args.script.now c.args.report.now c.args.journals c.args.plain.now c.args.journal.now.journal left after (is_none c.in_ok-round-2.field-0) = (matched_by c.args.script.now c.args.report.now c.args.journals c.args.plain.now c.args.journal.now.journal left after c.as_slice.result.now c.completions.result.now c.again-2.result (is_none c.in_ok-round-2.field-0) c.as_slice.ensures c.completions.ensures c.again-2.ensures c.in_ok-round-2.ensures) in
    (judged_completions c.args.script.now c.args.report.now c.args.journals c.args.plain.now c.args.journal.now.journal left after none (is_none c.in_ok-round-2.field-0) matched (ap (λ o. is_none o) c.in-Some-2.is), λ case same_report same_after read ended. tt)

pub returns-then-not-is_whole : goal.returns-then-not-is_whole
returns-then-not-is_whole g c left after =
    let none : NoneBehind c.args.script.now c.args.report.now c.args.journals c.args.plain.now c.args.journal.now.journal left after = (subst (λ (n : ℕ). AllByRecursion (λ (k : RoundJournal). k.entries ≡ []) (drop n c.args.journals)) c.rounds.ensures (subst (λ (js : List RoundJournal). AllByRecursion (λ (k : RoundJournal). k.entries ≡ []) (drop c.rounds.result js)) c.again.ensures (rw c.in-None.is at c.in_ok-round.ensures))) in
    let matched : IsMatched c.args.script.now c.args.report.now c.args.journals c.args.plain.now c.args.journal.now.journal left after (is_none c.in_ok-round-2.field-0) = (matched_by c.args.script.now c.args.report.now c.args.journals c.args.plain.now c.args.journal.now.journal left after c.as_slice.result.now c.completions.result.now c.again-2.result (is_none c.in_ok-round-2.field-0) c.as_slice.ensures c.completions.ensures c.again-2.ensures c.in_ok-round-2.ensures) in (
      subst (λ (s : Seen). IsJudged c.args.script.now c.args.report.now c.args.journals c.args.plain.now c.args.journal.now.journal left after (verdict_of (Some s))) (sym c.text_seen.ensures.1)
          (judged_plain c.args.script.now c.args.report.now c.args.journals c.args.plain.now c.args.journal.now.journal left after none (is_none c.in_ok-round-2.field-0) matched (ap (λ o. is_none o) c.in-None-2.is) c.is_whole.result c.is_whole.ensures c.if-not-is_whole.true),
      subst (IsSeenOf c.args.script.now c.args.report.now c.args.journals c.args.plain.now c.args.journal.now.journal left after) (sym c.text_seen.ensures.1) (seen_line c.args.script.now c.args.report.now c.args.journals c.args.plain.now c.args.journal.now.journal left after c.text_seen.ensures.0 c.text_seen.ensures.2),
    )

pub returns-then-not-is_whole-2 : goal.returns-then-not-is_whole-2
returns-then-not-is_whole-2 g c left after =
    let none : NoneBehind c.args.script.now c.args.report.now c.args.journals c.args.plain.now c.args.journal.now.journal left after = (subst (λ (n : ℕ). AllByRecursion (λ (k : RoundJournal). k.entries ≡ []) (drop n c.args.journals)) c.rounds.ensures (subst (λ (js : List RoundJournal). AllByRecursion (λ (k : RoundJournal). k.entries ≡ []) (drop c.rounds.result js)) c.again.ensures (rw c.in-None.is at c.in_ok-round.ensures))) in
    let matched : IsMatched c.args.script.now c.args.report.now c.args.journals c.args.plain.now c.args.journal.now.journal left after (is_none c.in_ok-round-2.field-0) = (matched_by c.args.script.now c.args.report.now c.args.journals c.args.plain.now c.args.journal.now.journal left after c.as_slice.result.now c.completions.result.now c.again-2.result (is_none c.in_ok-round-2.field-0) c.as_slice.ensures c.completions.ensures c.again-2.ensures c.in_ok-round-2.ensures) in
    let puts : IsWholePut c.args.script.now c.args.report.now c.args.journals c.args.plain.now c.args.journal.now.journal left after c.is_whole-2.result =
    (λ whole. c.in_ok-put.ensures.0 (c.is_whole-2.ensures.0 whole), λ put. c.is_whole-2.ensures.1 (c.in_ok-put.ensures.1 put)) in (
      subst (λ (s : Seen). IsJudged c.args.script.now c.args.report.now c.args.journals c.args.plain.now c.args.journal.now.journal left after (verdict_of (Some s))) (sym c.text_seen-then-not-is_whole-2.ensures.1)
          (judged_put c.args.script.now c.args.report.now c.args.journals c.args.plain.now c.args.journal.now.journal left after none (is_none c.in_ok-round-2.field-0) matched (ap (λ o. is_none o) c.in-None-2.is) c.is_whole-2.result puts c.if-not-is_whole-2.true),
      subst (IsSeenOf c.args.script.now c.args.report.now c.args.journals c.args.plain.now c.args.journal.now.journal left after) (sym c.text_seen-then-not-is_whole-2.ensures.1)
          (seen_line c.args.script.now c.args.report.now c.args.journals c.args.plain.now c.args.journal.now.journal left after c.text_seen-then-not-is_whole-2.ensures.0 c.text_seen-then-not-is_whole-2.ensures.2),
    )

pub returns : goal.returns
returns g c left after =
    let none : NoneBehind c.args.script.now c.args.report.now c.args.journals c.args.plain.now c.args.journal.now.journal left after = (subst (λ (n : ℕ). AllByRecursion (λ (k : RoundJournal). k.entries ≡ []) (drop n c.args.journals)) c.rounds.ensures (subst (λ (js : List RoundJournal). AllByRecursion (λ (k : RoundJournal). k.entries ≡ []) (drop c.rounds.result js)) c.again.ensures (rw c.in-None.is at c.in_ok-round.ensures))) in
    let matched : IsMatched c.args.script.now c.args.report.now c.args.journals c.args.plain.now c.args.journal.now.journal left after (is_none c.in_ok-round-2.field-0) = (matched_by c.args.script.now c.args.report.now c.args.journals c.args.plain.now c.args.journal.now.journal left after c.as_slice.result.now c.completions.result.now c.again-2.result (is_none c.in_ok-round-2.field-0) c.as_slice.ensures c.completions.ensures c.again-2.ensures c.in_ok-round-2.ensures) in
    let puts : IsWholePut c.args.script.now c.args.report.now c.args.journals c.args.plain.now c.args.journal.now.journal left after c.is_whole-2.result =
    (λ whole. c.in_ok-put.ensures.0 (c.is_whole-2.ensures.0 whole), λ put. c.is_whole-2.ensures.1 (c.in_ok-put.ensures.1 put)) in (
      λ held. judged_yes c.args.script.now c.args.report.now c.args.journals c.args.plain.now c.args.journal.now.journal left after none (is_none c.in_ok-round-2.field-0) matched (ap (λ o. is_none o) c.in-None-2.is) c.is_whole.result c.is_whole-2.result c.is_whole.ensures puts c.if-not-is_whole.false c.if-not-is_whole-2.false held,
      λ image byte first. (
        judged_images c.args.script.now c.args.report.now c.args.journals c.args.plain.now c.args.journal.now.journal left after none (is_none c.in_ok-round-2.field-0) matched (ap (λ o. is_none o) c.in-None-2.is) c.is_whole.result c.is_whole-2.result c.is_whole.ensures puts c.if-not-is_whole.false c.if-not-is_whole-2.false
            (others_differ after left image byte first),
        seen_images c.args.script.now c.args.report.now c.args.journals c.args.plain.now c.args.journal.now.journal left after none (is_none c.in_ok-round-2.field-0) matched (ap (λ o. is_none o) c.in-None-2.is) image byte first,
      ),
    )
