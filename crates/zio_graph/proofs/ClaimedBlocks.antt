-- A block whose headers were read for a claim without error is whole, whatever the operations were answered.
use Rattle.std.proofs.Common.{◌≡◌, ℕ, zero, suc, ◌+◌, List, [], ◌∷◌, ◌++◌, Bool, true, false, IsTrue, Option, Some, None, Ok, Err, IfOk, refl, sym, subst}
use Rattle.std.specs.List.{AllByRecursion}
use Rattle.zio_types.specs.declared.error.Errno.{Errno}
use Rattle.zio_types.specs.declared.error.Errno.TheVariants.{Cksum}
use Rattle.zio_types.specs.Choices.{Choice}
use Rattle.zio_blkptr.specs.declared.pointer.Bp.{Bp}
use Rattle.zio_blkptr.specs.Pointers.{valid}
use Rattle.zio_cksum.specs.Blocks.{good_claimed}
use Rattle.zio_cksum.specs.Headers.{members_of}
use Rattle.zio_gang.specs.declared.tree.Head.{Head}
use Rattle.zio_gang.specs.Attempts.{Terms}
use Rattle.zio_trace.specs.Labels.{Labelled, labelled, ways_at}
use Rattle.zio_trace.specs.Leaves.{Answer}
use Rattle.zio_trace.specs.Oracles.{IsOracle, Oracle, heard}
use Rattle.zio_trace.specs.Plans.{TaskPlan, head_task, join_walked, plan_below, plan_found, plan_pointer, stopped, under_head}
use Rattle.zio_trace.specs.Programs.{Ends, ◌>>=◌, ask}
use Rattle.zio_trace.specs.RoundRules.{task_ways}
use Rattle.zio_trace.specs.Tasks.{ByClaim, ReadHeads, Task, Value, Walked, WalkedBy, got, visit_of, walked}
use Rattle.zio_disks.specs.Whole.{AreUnder, AreUnderGang, AreUnderIf, AreUnderMembers}
use Rattle.zio_disks.proofs.ClaimLemmas.{members_valid}
use Rattle.zio_sound.proofs.Oracled.{at_place, map_at}

-- without error the headers are under the pointer
abbrev pub ReadUnder : (List Head → Type 0) → Walked → Type 0
ReadUnder under x = x.errors ≡ [] → under x.heads

both_none : (xs ys : List (Option Errno)) → xs ++ ys ≡ [] → (xs ≡ []) × (ys ≡ [])
both_none [] ys e = (refl, e)
both_none (x ∷ xs) ys e = absurd (cc)

body_under : (levels : ℕ) (path : List ℕ) (bp : Bp) → IsTrue (valid bp) → bp.gang ≡ false → AreUnder levels path bp []
body_under zero path bp ok plain = (ok, subst (λ (t : Bool). AreUnderIf t ⊥ []) (sym plain) refl)
body_under (suc levels) path bp ok plain =
    (ok, subst (λ (t : Bool). AreUnderIf t (AreUnderGang (AreUnder levels) path bp []) []) (sym plain) refl)

module _ (journal : List Choice) (t : Terms) (o : Oracle (Labelled Task) Value)
    (is : IsOracle (ways_at (task_ways journal t)) o) where
  -- the headers below each valid pointer, with so many levels
  abbrev Reads : ℕ → Type 0
  Reads levels = (path : List ℕ) (bp : Bp) (at : List ℕ) → IsTrue (valid bp)
      → ReadUnder (AreUnder levels path bp) (walked (o.answer (record { at = at; op = ReadHeads ByClaim levels path bp })))

  below_at : (levels : ℕ) → Reads levels → (path : List ℕ) (n : ℕ) (ms : List Bp) (at : List ℕ) (k : ℕ)
      → AllByRecursion (λ (m : Bp). IsTrue (valid m)) ms
      → ReadUnder (AreUnderMembers (AreUnder levels) path n ms)
      (heard o (labelled at k (plan_below (ReadHeads ByClaim levels) path n ms)))
  below_at levels reads path n [] at k ok = λ none. refl
  below_at levels reads path n (m ∷ ms) at k ok =
      let x = at_place at k (ReadHeads ByClaim levels (path ++ n ∷ []) m) in
      let first : Walked = walked (o.answer x) in
      let rest : TaskPlan Walked = plan_below (ReadHeads ByClaim levels) path (n + 1) ms in
      let others : Walked = heard o (labelled at (suc k) rest) in
      let all : heard o (labelled at k (plan_below (ReadHeads ByClaim levels) path n (m ∷ ms))) ≡ join_walked first others =
      map_at o at (suc k) rest (λ (y : Walked). join_walked first y) in
      subst (ReadUnder (AreUnderMembers (AreUnder levels) path n (m ∷ ms))) (sym all)
      (λ none.
      (let both = both_none first.errors others.errors none in
      record {
        front = first.heads;
        back = others.heads;
        joined = refl;
        under_first = reads (path ++ n ∷ []) m x.at ok.0 both.0;
        under_others = below_at levels reads path (n + 1) ms at (suc k) ok.1 both.1;
      }))

  -- a header that was read
  found_at : (levels : ℕ) → Reads levels → (path : List ℕ) (bp : Bp) (at : List ℕ) (k : ℕ) (a : Answer)
      → IfOk a (λ bytes. IsTrue (good_claimed bp bytes))
      → ReadUnder (AreUnderGang (AreUnder levels) path bp)
      (walked (heard o (labelled at k (plan_found (ReadHeads ByClaim levels) path a))))
  found_at levels reads path bp at k (Err e) good = λ none. absurd (cc)
  found_at levels reads path bp at k (Ok bytes) good =
      let members : TaskPlan Walked = plan_below (ReadHeads ByClaim levels) path 0 (members_of bytes) in
      let w : Walked = heard o (labelled at k members) in
      let all : heard o (labelled at k (plan_found (ReadHeads ByClaim levels) path (Ok bytes)))
      ≡ WalkedBy (under_head path bytes w) =
      map_at o at k members (λ (y : Walked). WalkedBy (under_head path bytes y)) in
      subst (λ (v : Value). ReadUnder (AreUnderGang (AreUnder levels) path bp) (walked v)) (sym all)
      (λ none. record {
        head = record { path = path; bytes = bytes };
        rest = w.heads;
        first = refl;
        at = refl;
        good = good;
        members = below_at levels reads path 0 (members_of bytes) at k (members_valid bytes) none;
      })

  -- a pointer that was judged
  deep_at : (path : List ℕ) (bp : Bp) (at : List ℕ) (judged : Option Errno) (gang : Bool) → bp.gang ≡ gang → IsTrue (valid bp)
      → ReadUnder (AreUnder zero path bp)
      (walked (heard o (labelled at 0 (plan_pointer judged gang bp (Ends (WalkedBy (stopped Cksum)))))))
  deep_at path bp at (Some e) gang same ok none = absurd (cc)
  deep_at path bp at None true same ok none = absurd (cc)
  deep_at path bp at None false same ok none = body_under zero path bp ok same

  gang_at : (levels : ℕ) → Reads levels → (path : List ℕ) (bp : Bp) (at : List ℕ) (judged : Option Errno) (gang : Bool)
      → bp.gang ≡ gang → IsTrue (valid bp)
      → ReadUnder (AreUnder (suc levels) path bp) (walked (heard o (labelled at 0 (plan_pointer judged gang bp
      (ask (head_task ByClaim path bp) >>= λ v. plan_found (ReadHeads ByClaim levels) path (got v))))))
  gang_at levels reads path bp at (Some e) gang same ok none = absurd (cc)
  gang_at levels reads path bp at None false same ok none = body_under (suc levels) path bp ok same
  gang_at levels reads path bp at None true same ok none =
      let x = at_place at 0 (head_task ByClaim path bp) in
      let a : Answer = got (o.answer x) in
      let heads : List Head = (walked (heard o (labelled at 1 (plan_found (ReadHeads ByClaim levels) path a)))).heads in (
        ok,
        subst (λ (b : Bool). AreUnderIf b (AreUnderGang (AreUnder levels) path bp heads) heads) (sym same)
            (found_at levels reads path bp at 1 a (is.fits x) none),
      )

  pub claimed_at : (levels : ℕ) → Reads levels
  claimed_at zero path bp at ok =
      let x : Labelled Task = record { at = at; op = ReadHeads ByClaim zero path bp } in
      subst (λ (v : Value). ReadUnder (AreUnder zero path bp) (walked v)) (sym (is.answer x refl))
      (deep_at path bp at ((visit_of t.setting ByClaim).judge bp) bp.gang refl ok)
  claimed_at (suc levels) path bp at ok =
      let x : Labelled Task = record { at = at; op = ReadHeads ByClaim (suc levels) path bp } in
      subst (λ (v : Value). ReadUnder (AreUnder (suc levels) path bp) (walked v)) (sym (is.answer x refl))
      (gang_at levels (claimed_at levels) path bp at ((visit_of t.setting ByClaim).judge bp) bp.gang refl ok)
