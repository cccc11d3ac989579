-- A node that ended has a value that fits its task.
use Rattle.std.proofs.Common.{◌≡◌, List, ◌∷◌, map, Option, sym, ap, ◌∙◌, subst}
use Rattle.std.specs.List.{AllByRecursion}
use Rattle.zio_types.specs.Choices.{Choice}
use Rattle.zio_cksum.specs.Images.{Images}
use Rattle.zio_trace.specs.Entries.{any_ways}
use Rattle.zio_trace.specs.Footprints.{FitsTask}
use Rattle.zio_trace.specs.Going.{Knows}
use Rattle.zio_trace.specs.Keys.{FitsLeft}
use Rattle.zio_trace.specs.Labels.{Labelled, ways_at}
use Rattle.zio_trace.specs.Oracles.{Agrees, IsOracle, Oracle, heard}
use Rattle.zio_trace.specs.Programs.{Ends}
use Rattle.zio_trace.specs.Tasks.{Task, Value}
use Rattle.zio_trace.specs.Underway.{Comes, Flight, IsUnderway, State, Work, slot_of}
use Rattle.zio_trace.proofs.MoreDone.{some_any, some_under}
use Rattle.zio_trace.proofs.OnceKeys.{fits_left}
use Rattle.zio_trace.proofs.RoundEnds.{any_oracle}

module _ (w : Work) (before : Option Images) (s : State) (x : Flight) (others : List Flight) (v : Value) (under : IsUnderway w before s) (is : s.flights ≡ x ∷ others) (ended : x.rest ≡ Ends v) where
  -- whatever may still be answered, it has this value
  known : (o : Oracle (Labelled Task) Value) → IsOracle (ways_at (any_ways w.terms)) o → Agrees o s.deeds → o.answer x.op ≡ v
  known o ways agrees =
      let all : AllByRecursion (Knows (any_ways w.terms) s.deeds) (slot_of x ∷ map slot_of others) = subst (λ (fs : List Flight). AllByRecursion (Knows (any_ways w.terms) s.deeds) (map slot_of fs)) is under.going.knows in
      sym (all.0 o ways agrees) ∙ ap (heard o) ended

  pub value_fits : (journal : List Choice) → Comes w s.entries journal → FitsTask journal w.terms x.op.op v
  value_fits journal comes =
      let some = some_under w s.deeds s.entries journal under.going.once under.going.single under.recorded comes in
      subst (FitsTask journal w.terms x.op.op) (known some.0 (any_oracle journal w.terms some.0 some.1) some.2) (some.1.fits x.op)

  pub value_left : FitsLeft x.op.op v
  value_left =
      let some = some_any w s.deeds under.going.once under.going.single in
      subst (FitsLeft x.op.op) (known some.0 some.1 some.2) (fits_left w.terms some.0 some.1 x.op)
