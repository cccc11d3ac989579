use Rattle.std.proofs.Common.{◌≡◌, ◌+◌, ◌-◌, ◌<◌, length, ap, subst, arith}
use Rattle.zio_places.specs.Spaces.{SpaceState}
use Rattle.zio_audit.proofs.JudgeLemmas.{IsFreedTo, all_freed, keeps_sound, keeps_then, last_live, one_freed}
use Rattle.zio_audit.proofs.judge.release_all.Goals as goal

pub release-requires : goal.release-requires
release-requires c =
    let more : c.loop-left.left ≡ c.loop-left.left - 1 + 1 = omega arith in
    let below : c.loop-left.left - 1 < length c.args.places.now = omega arith in
    last_live c.args.places.now (c.loop-left.left - 1) (record { top = 0; sector = 0; sectors = 0 }) c.args.space.now c.loop-left.space below
    (subst (λ n. IsFreedTo c.args.places.now n c.args.space.now c.loop-left.space) more c.loop-left.invariant.freed)

pub loop-left-preserved : goal.loop-left-preserved
loop-left-preserved c =
    let more : c.loop-left.left ≡ c.loop-left.left - 1 + 1 = omega arith in
    let below : c.loop-left.left - 1 < length c.args.places.now = omega arith in
    record {
      few = omega arith;
      freed = one_freed c.args.places.now (c.loop-left.left - 1) (record { top = 0; sector = 0; sectors = 0 }) c.args.space.now c.loop-left.space c.release.new.self below
          (subst (λ n. IsFreedTo c.args.places.now n c.args.space.now c.loop-left.space) more c.loop-left.invariant.freed) c.release.ensures.same;
      kept = keeps_then c.args.space.now c.loop-left.space c.release.new.self c.loop-left.invariant.kept (keeps_sound c.loop-left.space c.release.new.self (ap (λ (s : SpaceState). s.sizes) c.release.ensures.same) c.release.ensures.sound);
    }

pub returns-clause-freed : goal.returns-clause-freed
returns-clause-freed c = λ start live.
    let none : c.loop-left.left ≡ 0 = omega arith in
    all_freed c.args.places.now c.args.space.now c.loop-left.space start
    (subst (λ n. IsFreedTo c.args.places.now n c.args.space.now c.loop-left.space) none c.loop-left.invariant.freed) live
