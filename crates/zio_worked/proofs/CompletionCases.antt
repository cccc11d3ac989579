use Rattle.std.proofs.Common.{◌&&◌, [], ◌∷◌, is_none, true≢false, refl, sym, lit<, ◌==◌}
use Rattle.zio_types.specs.declared.journal.Completion.{Completion}
use Rattle.zio_worked.proofs.Absent.{not_contained}
use Rattle.zio_worked.proofs.Evaluation.{evaluation}
use Rattle.zio_worked.specs.Completions.{for_write, for_null, for_read, good_read, early_read, gone_read, AllComplete, NumberTwice, ChildAfterParent, OneIsMissing, OtherError, OtherRound, SuspendedAreLeft, SuspendedCompletes, EachInItsRound, AnsweredComplete, RoundThatWasNotRun}

pub all_complete : AllComplete
unfolding evaluation
all_complete = record {
  of_rounds = (refl, (refl, (refl, tt)));
  each = (
    record {
      finished = ((0, lit< tt, refl), tt);
      all = ((0, lit< tt, refl), tt);
    },
    (
      record {
        finished = ((0, lit< tt, refl), ((1, lit< tt, refl), tt));
        all = ((0, lit< tt, refl), ((1, lit< tt, refl), tt));
      },
      tt,
    ),
  );
  once = ((refl, (refl, tt)), ((refl, tt), (tt, tt)));
  after_children = ((refl, (refl, tt)), ((refl, tt), (tt, tt)));
}

pub number_twice : NumberTwice
unfolding evaluation
number_twice h = true≢false h.once.1.0.0

pub child_after_parent : ChildAfterParent
unfolding evaluation
child_after_parent h = true≢false h.after_children.1.0.0

pub one_is_missing : OneIsMissing
unfolding evaluation
one_is_missing h =
    not_contained (λ (c : Completion). c.request == 3) (for_null ∷ []) for_read refl refl h.each.1.0.all.0

pub other_error : OtherError
unfolding evaluation
other_error h =
    not_contained (λ (c : Completion). c.request == 3 && is_none c.error) (for_read ∷ for_null ∷ []) good_read refl refl h.each.1.0.finished.0

pub other_round : OtherRound
unfolding evaluation
other_round h =
    not_contained (λ (c : Completion). c.request == 3) (for_write ∷ []) early_read refl refl h.each.0.finished.1.0

pub suspended_are_left : SuspendedAreLeft
unfolding evaluation
suspended_are_left = record {
  of_rounds = (refl, tt);
  each = (
    record {
      finished = ((0, lit< tt, refl), tt);
      all = ((0, lit< tt, refl), tt);
    },
    (record { finished = tt; all = tt }, tt),
  );
  once = (tt, tt);
  after_children = (tt, tt);
}

pub suspended_completes : SuspendedCompletes
unfolding evaluation
suspended_completes h = not_contained (λ (c : Completion). c.request == 3) [] gone_read refl refl h.each.1.0.finished.0

pub each_in_its_round : EachInItsRound
unfolding evaluation
each_in_its_round = record {
  of_rounds = (refl, (refl, (refl, (refl, tt))));
  each = (
    record {
      finished = ((0, lit< tt, refl), tt);
      all = ((0, lit< tt, refl), tt);
    },
    (
      record {
        finished = ((0, lit< tt, refl), ((1, lit< tt, refl), tt));
        all = ((0, lit< tt, refl), ((1, lit< tt, refl), tt));
      },
      (
        record {
          finished = ((0, lit< tt, refl), tt);
          all = ((0, lit< tt, refl), tt);
        },
        tt,
      ),
    ),
  );
  once = ((refl, (refl, (refl, tt))), ((refl, (refl, tt)), ((refl, tt), (tt, tt))));
  after_children = ((refl, (refl, (refl, tt))), ((refl, (refl, tt)), ((refl, tt), (tt, tt))));
}

pub answered_complete : AnsweredComplete
unfolding evaluation
answered_complete = record {
  of_rounds = (refl, (refl, (refl, (refl, (refl, tt)))));
  each = (
    record {
      finished = ((0, lit< tt, refl), tt);
      all = ((0, lit< tt, refl), tt);
    },
    (
      record {
        finished = ((0, lit< tt, refl), ((1, lit< tt, refl), tt));
        all = ((0, lit< tt, refl), ((1, lit< tt, refl), tt));
      },
      (
        record {
          finished = ((0, lit< tt, refl), tt);
          all = ((0, lit< tt, refl), tt);
        },
        (
          record {
            finished = ((0, lit< tt, refl), tt);
            all = ((0, lit< tt, refl), tt);
          },
          tt,
        ),
      ),
    ),
  );
  once = ((refl, (refl, (refl, (refl, tt)))), ((refl, (refl, (refl, tt))), ((refl, (refl, tt)), ((refl, tt), (tt, tt)))));
  after_children = ((refl, (refl, (refl, (refl, tt)))), ((refl, (refl, (refl, tt))), ((refl, (refl, tt)), ((refl, tt), (tt, tt)))));
}

pub round_that_was_not_run : RoundThatWasNotRun
unfolding evaluation
round_that_was_not_run h = true≢false (sym h.of_rounds.1.0)
