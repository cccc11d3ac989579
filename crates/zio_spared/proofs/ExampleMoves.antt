-- The moves of the example, up to the moment at which the repair is in flight.
use Rattle.std.proofs.Common.{◌≡◌, ◌+◌, ◌≤◌, List, [], ◌∷◌, map, false, Option, Some, Ok, inl, ⊎_elim, refl, subst, arith}
use Rattle.zio_cksum.specs.Images.{Images, Spot}
use Rattle.zio_cksum.specs.Sums.{fletcher4, fletcher_after}
use Rattle.zio_cksum.proofs.AllLemmas.{all_contains}
use Rattle.zio_gang.specs.Trees.{header_levels_max}
use Rattle.zio_trace.specs.BlockCopies.{reading_of}
use Rattle.zio_trace.specs.Families.{NoTrees}
use Rattle.zio_trace.specs.Leaves.{AreClear, Fetch, Store}
use Rattle.zio_trace.specs.Programs.{Ends}
use Rattle.zio_trace.specs.SoundRounds.{work_of}
use Rattle.zio_trace.specs.Tasks.{Attempt, ByKept, Got, Leaf, ReadHeads, Settle, Task, Value, WalkedBy}
use Rattle.zio_trace.specs.Underway.{Flight, IsSound, IsUnderway, State, Work, after_deed, at_start, call_of, flight_of, flying_now, part_of, root_out, with_answer, with_out}
use Rattle.zio_trace.proofs.ListLemmas.{contains_first}
use Rattle.zio_trace.proofs.PairLemmas.{contains_mapped}
use Rattle.zio_trace.proofs.SoundRoundLemmas.{round_sound}
use Rattle.zio_trace.proofs.UnderwayDone.{work_on_leaf}
use Rattle.zio_trace.proofs.UnderwayHears.{work_arrives}
use Rattle.zio_trace.proofs.UnderwayOut.{work_begins, work_next, work_out}
use Rattle.zio_spared.specs.Spared.{IsSpared, StoresClear}
use Rattle.zio_spared.specs.SparedExamples.{IsRepairing, bad_bytes, copy_on, first_is_bad, good_bytes, leaves_of_one, mirror_of_two, one_read, piece_of_x, pointer_of_x, read_of_x, read_on}
use Rattle.zio_spared.proofs.ExampleSound.{example_sound}

abbrev w : Work
w = work_of mirror_of_two leaves_of_one one_read

sound : IsSound w
sound = round_sound mirror_of_two leaves_of_one one_read example_sound

abbrev before : Option Images
before = Some first_is_bad

abbrev new_flight : Flight → Task → Flight
new_flight x op = flight_of mirror_of_two (part_of x.op.at x.next op)

abbrev done_with : Flight → Value → Flight
done_with x v = record { op = x.op; rest = Ends v; outs = []; next = x.next }

-- ---- the tree, and its attempt

abbrev settle_op : Task
settle_op = Settle read_of_x NoTrees

abbrev attempt_op : Task
attempt_op = Attempt 0 read_of_x NoTrees

abbrev heads_op : Task
heads_op = ReadHeads (ByKept []) header_levels_max [] pointer_of_x

abbrev reading : Task
reading = reading_of piece_of_x

abbrev settling : Flight
settling = flight_of mirror_of_two (part_of [] 0 settle_op)

abbrev s1 : State
s1 = root_out w (at_start w first_is_bad) settle_op

u1 : IsUnderway w before s1
u1 = work_next w before (at_start w first_is_bad) settle_op sound (work_begins w before first_is_bad refl) (λ o is agrees. (part_of [] 0 settle_op, refl, refl))

abbrev above : List Flight
above = with_out settling attempt_op ∷ []

abbrev attempting : Flight
attempting = new_flight settling attempt_op

abbrev s2 : State
s2 = flying_now s1 (attempting ∷ above)

u2 : IsUnderway w before s2
u2 = work_out w before s1 settling [] attempt_op u1 refl (λ o is agrees. (part_of settling.op.at settling.next attempt_op, refl, refl)) (λ j comes. tt)

-- ---- the walk, which finds the body

abbrev walking : Flight
walking = new_flight attempting heads_op

abbrev s3 : State
s3 = flying_now s2 (walking ∷ with_out attempting heads_op ∷ above)

u3 : IsUnderway w before s3
u3 = work_out w before s2 attempting above heads_op u2 refl (λ o is agrees. (part_of attempting.op.at attempting.next heads_op, refl, refl)) (λ j comes. tt)

abbrev found : Value
found = WalkedBy (record { errors = []; bodies = pointer_of_x ∷ []; heads = [] })

abbrev walked_on : Flight
walked_on = with_answer (with_out attempting heads_op) 0 found

abbrev s4 : State
s4 = flying_now s3 (walked_on ∷ above)

u4 : IsUnderway w before s4
u4 = work_arrives w before s3 walking (with_out attempting heads_op) above 0 (call_of attempting.op.at attempting.next heads_op) found u3 refl refl refl

-- ---- the read of its copies

abbrev over : List Flight
over = with_out walked_on reading ∷ above

abbrev reader : Flight
reader = new_flight walked_on reading

abbrev s5 : State
s5 = flying_now s4 (reader ∷ over)

u5 : IsUnderway w before s5
u5 = work_out w before s4 walked_on above reading u4 refl (λ o is agrees. (part_of walked_on.op.at walked_on.next reading, refl, refl)) (λ j comes. tt)

abbrev s6 : State
s6 = flying_now s5 (new_flight reader (read_on 0) ∷ with_out reader (read_on 0) ∷ over)

u6 : IsUnderway w before s6
u6 = work_out w before s5 reader over (read_on 0) u5 refl (λ o is agrees. (part_of reader.op.at reader.next (read_on 0), refl, refl)) (λ j comes. tt)

abbrev bad : Value
bad = Got (Ok bad_bytes)

abbrev s7 : State
s7 = after_deed s6 (new_flight reader (read_on 0)) (with_out reader (read_on 0) ∷ over) bad [] first_is_bad

u7 : IsUnderway w before s7
u7 = work_on_leaf w before s6 (new_flight reader (read_on 0)) (with_out reader (read_on 0) ∷ over) (Fetch false 512 (copy_on 0)) (Ok bad_bytes) first_is_bad sound u6 refl refl (refl, refl)

abbrev read_one : Flight
read_one = with_answer (with_out reader (read_on 0)) 0 bad

abbrev s8 : State
s8 = flying_now s7 (read_one ∷ over)

u8 : IsUnderway w before s8
u8 = work_arrives w before s7 (done_with (new_flight reader (read_on 0)) bad) (with_out reader (read_on 0)) over 0 (call_of reader.op.at reader.next (read_on 0)) bad u7 refl refl refl

abbrev s9 : State
s9 = flying_now s8 (new_flight read_one (read_on 1) ∷ with_out read_one (read_on 1) ∷ over)

u9 : IsUnderway w before s9
unfolding fletcher4 fletcher_after
u9 = work_out w before s8 read_one over (read_on 1) u8 refl (λ o is agrees. (part_of read_one.op.at read_one.next (read_on 1), refl, refl)) (λ j comes. tt)

abbrev good : Value
good = Got (Ok good_bytes)

abbrev s10 : State
s10 = after_deed s9 (new_flight read_one (read_on 1)) (with_out read_one (read_on 1) ∷ over) good [] first_is_bad

u10 : IsUnderway w before s10
u10 = work_on_leaf w before s9 (new_flight read_one (read_on 1)) (with_out read_one (read_on 1) ∷ over) (Fetch false 512 (copy_on 1)) (Ok good_bytes) first_is_bad sound u9 refl refl (refl, refl)

abbrev read_both : Flight
read_both = with_answer (with_out read_one (read_on 1)) 0 good

abbrev s11 : State
s11 = flying_now s10 (read_both ∷ over)

u11 : IsUnderway w before s11
unfolding fletcher4 fletcher_after
u11 = work_arrives w before s10 (done_with (new_flight read_one (read_on 1)) good) (with_out read_one (read_on 1)) over 0 (call_of read_one.op.at read_one.next (read_on 1)) good u10 refl refl refl

-- ---- its repair

abbrev repair : Task
repair = Leaf (Store false good_bytes (copy_on 0))

abbrev s12 : State
s12 = flying_now s11 (new_flight read_both repair ∷ with_out read_both repair ∷ over)

u12 : IsUnderway w before s12
unfolding fletcher4 fletcher_after
u12 = work_out w before s11 read_both over repair u11 refl (λ o is agrees. (part_of read_both.op.at read_both.next repair, refl, refl)) (λ j comes. tt)

is_repairing : IsRepairing s12
is_repairing = record { under = u12; reads = refl; writes = contains_first repair (map (λ (x : Flight). x.op.op) (with_out read_both repair ∷ over)) }

second_spared : IsSpared first_is_bad piece_of_x (copy_on 1) s12
second_spared = record { deeds = (tt, (tt, tt)); flights = (inl (λ e. absurd (cc)), (tt, (tt, (tt, tt)))); same = refl }

pub repairs_first : (s : State) × IsRepairing s × IsSpared first_is_bad piece_of_x (copy_on 1) s
repairs_first = (s12, is_repairing, second_spared)

-- ---- the copy that is repaired

meets_itself : (u : Spot) → u ≡ copy_on 0 → AreClear (copy_on 0) u → ⊥
meets_itself u e h =
    ⊎_elim (λ ne. ne refl) (λ far. ⊎_elim (λ (a : 0 + 512 ≤ 0). absurd (omega arith)) (λ (b : 0 + 512 ≤ 0). absurd (omega arith)) far) (subst (AreClear (copy_on 0)) e h)

pub first_written : (s : State) → IsRepairing s → IsSpared first_is_bad piece_of_x (copy_on 0) s → ⊥
first_written s now spared =
    let x = contains_mapped (λ (y : Flight). y.op.op) s.flights repair now.writes in
    let clear : StoresClear (copy_on 0) x.0.op.op = all_contains (λ (y : Flight). StoresClear (copy_on 0) y.op.op) s.flights x.0 spared.flights x.1 in
    meets_itself (copy_on 0) refl (subst (StoresClear (copy_on 0)) x.2 clear)
