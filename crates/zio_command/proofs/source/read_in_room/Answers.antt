use Rattle.std.proofs.Common.{◌≡◌, ℕ, ◌+◌, ◌≤◌, length, take, drop, Err, ◌∙◌, subst, arith}
use Rattle.std.proofs.lemmas.List.{length-take}
use Rattle.std.proofs.lemmas.Result.{err_from_is_err_and}
use Rattle.zio_outside.specs.Outside.{Rose}
use Rattle.zio_script.specs.declared.read.TheConstants.{SCRIPT_LEN_MAX}
use Rattle.zio_command.specs.declared.source.ReadFault.TheVariants.{Failed}
use Rattle.zio_command.proofs.ReadLemmas.{HasRead-end, HasRead-end_rest, HasRead-full, HasRead-more}
use Rattle.zio_command.proofs.source.read_in_room.Goals as goal

pub returns-in_err-taken-clause-failed : goal.returns-in_err-taken-clause-failed
returns-in_err-taken-clause-failed g c h =
    let p = err_from_is_err_and c.from_residual-in_err-taken.result c.from_residual-in_err-taken.ensures.1 in
    let was = c.in_err-taken.was in
    let first = p.1 in
    let second = p.2 in
    let failed : c.read_piece.result ≡ Err Failed = cc in
    subst (λ (n : ℕ). Rose n (g.S.Source.faults c.read_piece.new.source)) c.loop-bytes.invariant.count (c.read_piece.ensures.failed failed)

pub returns-then-taken-eq0-clause-read : goal.returns-then-taken-eq0-clause-read
returns-then-taken-eq0-clause-read g c text told =
    let before = c.loop-bytes.invariant.told text told in
    let rest = drop (length c.loop-bytes.bytes.items) text in
    let none = c.in_ok-taken.ensures.at_end rest before.rest c.if-taken-eq0.true in
    let added = c.in_ok-taken.ensures.added rest before.rest in
    let len = c.loop-bytes.bytes.ok.0 in
    let short = c.loop-bytes.invariant.short in
    let small : length c.loop-bytes.bytes.items ≤ SCRIPT_LEN_MAX + 1 = omega arith in
    record {
      read = HasRead-end (g.S.Source.left c.loop-bytes.source) text c.loop-bytes.bytes.items c.read_piece.new.bytes.items
          c.in_ok-taken.taken (SCRIPT_LEN_MAX + 1) before none added small;
    }

pub loop-bytes-preserved : goal.loop-bytes-preserved
loop-bytes-preserved g c = record {
  piece = c.loop-bytes.invariant.piece;
  short =
      let len = c.in_ok-taken.ensures.len in
      let within : c.in_ok-taken.taken ≤ length (take c.min-want.result c.deref_mut.result.now) = c.in_ok-taken.ensures.within in
      omega (arith, length-take c.min-want.result c.deref_mut.result.now);
  count = c.in_ok-taken.ensures.count ∙ c.loop-bytes.invariant.count;
  sound = λ s. (c.in_ok-taken.ensures.sound (c.loop-bytes.invariant.sound s)).0;
  told = λ text told.
      (let before = c.loop-bytes.invariant.told text told in
      let rest = drop (length c.loop-bytes.bytes.items) text in
      HasRead-more (g.S.Source.left c.loop-bytes.source) (g.S.Source.left c.read_piece.new.source) text c.loop-bytes.bytes.items
      c.read_piece.new.bytes.items c.in_ok-taken.taken before (c.in_ok-taken.ensures.added rest before.rest)
      (c.in_ok-taken.ensures.there rest before.rest) (c.in_ok-taken.ensures.left rest before.rest));
}

pub returns-clause-read : goal.returns-clause-read
returns-clause-read g c text told =
    let before = c.loop-bytes.invariant.told text told in
    let len = c.loop-bytes.bytes.ok.0 in
    let short = c.loop-bytes.invariant.short in
    let full : length c.loop-bytes.bytes.items ≡ SCRIPT_LEN_MAX + 1 = omega arith in
    record { read = HasRead-full (g.S.Source.left c.loop-bytes.source) text c.loop-bytes.bytes.items (SCRIPT_LEN_MAX + 1) before full }

pub returns-in_err-taken-clause-sound : goal.returns-in_err-taken-clause-sound
returns-in_err-taken-clause-sound g c sound =
    let after = c.read_piece.ensures.sound (c.loop-bytes.invariant.sound sound) in
    (after.0, after.1 ∙ c.loop-bytes.invariant.count)

pub returns-then-taken-eq0-clause-sound : goal.returns-then-taken-eq0-clause-sound
returns-then-taken-eq0-clause-sound g c sound =
    let after = c.read_piece.ensures.sound (c.loop-bytes.invariant.sound sound) in
    (after.0, after.1 ∙ c.loop-bytes.invariant.count)

pub returns-clause-sound : goal.returns-clause-sound
returns-clause-sound g c sound = (c.loop-bytes.invariant.sound sound, c.loop-bytes.invariant.count)

pub returns-then-taken-eq0-clause-rest : goal.returns-then-taken-eq0-clause-rest
returns-then-taken-eq0-clause-rest g c text told =
    let before = c.loop-bytes.invariant.told text told in
    let rest = drop (length c.loop-bytes.bytes.items) text in
    let none = c.in_ok-taken.ensures.at_end rest before.rest c.if-taken-eq0.true in
    let len = c.loop-bytes.bytes.ok.0 in
    let short = c.loop-bytes.invariant.short in
    let small : length c.loop-bytes.bytes.items ≤ SCRIPT_LEN_MAX + 1 = omega arith in
    HasRead-end_rest (g.S.Source.left c.read_piece.new.source) text c.loop-bytes.bytes.items c.in_ok-taken.taken (SCRIPT_LEN_MAX + 1)
    none small (c.in_ok-taken.ensures.left rest before.rest)

pub returns-clause-rest : goal.returns-clause-rest
returns-clause-rest g c text told =
    let before = c.loop-bytes.invariant.told text told in
    let len = c.loop-bytes.bytes.ok.0 in
    let short = c.loop-bytes.invariant.short in
    let full : length c.loop-bytes.bytes.items ≡ SCRIPT_LEN_MAX + 1 = omega arith in
    subst (λ (n : ℕ). g.S.Source.left c.loop-bytes.source (drop n text)) full before.rest
