use Rattle.std.proofs.Common.{◌≡◌, ◌+◌, ◌*◌, ◌^◌, ◌≤◌, ◌++◌, ◌||◌, ℕ, List, map, drop, Bor}
use Rattle.zio_script.specs.declared.script.Request.{Request}
use Rattle.zio_course.specs.Names.{is_name_in}
use Rattle.zio_course.specs.Folds.{counted_in, is_named_by, waiting_of}
use Rattle.zio_course.proofs.fold.Fold.note_all.Given as goal

abbrev pub invariant-loop-i : goal.invariant-loop-i
invariant-loop-i g l = record {
  unfinished : map (λ (r : Bor Request). r.now) l.self.unfinished.items ++ waiting_of (drop l.i (map (λ (r : Bor Request). r.now) l.requests)) (drop l.i l.lines)
      ≡ map (λ (r : Bor Request). r.now) l.fn.self.unfinished.items ++ waiting_of (map (λ (r : Bor Request). r.now) l.requests) l.lines;
  awaited : (name : List ℕ) → (is_name_in l.self.awaited name || is_named_by (waiting_of (drop l.i (map (λ (r : Bor Request). r.now) l.requests)) (drop l.i l.lines)) name)
      ≡ (is_name_in l.fn.self.awaited name || is_named_by (waiting_of (map (λ (r : Bor Request). r.now) l.requests) l.lines) name);
  tally : counted_in (drop l.i l.lines) l.self.tally ≡ counted_in l.lines l.fn.self.tally;
  few : l.self.tally.good + l.self.tally.bad ≤ l.fn.self.tally.good + l.fn.self.tally.bad + l.i;
  sums : l.self.tally.read ≤ l.self.tally.good * 2 ^ 64;
  bound : l.self.bound ≡ l.fn.self.bound;
  suspended : l.self.suspended ≡ l.fn.self.suspended;
  point : l.self.point ≡ l.fn.self.point;
  panicked : l.self.panicked ≡ l.fn.self.panicked;
}
