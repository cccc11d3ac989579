use Rattle.std.proofs.Common.{◌≡◌, ◌∷◌, length, sym, ap, ◌∙◌, arith}
use Rattle.zio_audit.specs.Putting.{plain_lines, put_in, rest_of}
use Rattle.zio_audit.proofs.PutLemmas.{journal_line, plain_line, same_text, then_text}
use Rattle.zio_audit.proofs.putting.PutIn.next_round.Goals as goal

pub loop-line-init : goal.loop-line-init
loop-line-init c = record { fits = λ later. (λ h. h, λ h. h); shorter = omega arith }

pub loop-line-preserved-then-is_journal : goal.loop-line-preserved-then-is_journal
loop-line-preserved-then-is_journal c = record {
  fits = λ later.
      let text = c.loop-line.self.lines.now in
      let behind = c.in-Some.behind.now in
      let held = c.loop-line.held.now in
      let old = rest_of c.loop-line.self in
      then_text (rest_of c.args.self.now) old old (put_in later c.args.journal.now (plain_lines c.args.self.now.lines.now)) (put_in later held (plain_lines text)) (put_in later held (plain_lines behind))
      (c.loop-line.invariant.fits later)
      (same_text old (put_in later held (plain_lines text)) (put_in later held (plain_lines behind))
      (ap (put_in later held) (journal_line c.in-Some.line.now text behind c.in-Some.ensures.line (sym c.is_journal.ensures ∙ c.if-is_journal.true))));
  shorter = let a = c.loop-line.invariant.shorter in let b = c.in-Some.ensures.shorter in omega arith;
}

pub loop-line-preserved : goal.loop-line-preserved
loop-line-preserved c = record {
  fits = λ later.
      let text = c.loop-line.self.lines.now in
      let behind = c.in-Some.behind.now in
      let line = c.in-Some.line.now in
      let held = c.loop-line.held.now in
      let more = c.in-Some-pass_plain.more.now in
      let old = rest_of c.loop-line.self in
      let new = rest_of c.pass_plain.new.self in
      then_text (rest_of c.args.self.now) old new (put_in later c.args.journal.now (plain_lines c.args.self.now.lines.now)) (put_in later held (plain_lines text))
      (put_in later more (plain_lines c.pass_plain.new.self.lines.now))
      (c.loop-line.invariant.fits later)
      (then_text old old new (put_in later held (plain_lines text)) (put_in later held (line ∷ plain_lines behind)) (put_in later more (plain_lines c.pass_plain.new.self.lines.now))
      (same_text old (put_in later held (plain_lines text)) (put_in later held (line ∷ plain_lines behind))
      (ap (put_in later held) (plain_line line text behind c.in-Some.ensures.line (sym c.is_journal.ensures ∙ c.if-is_journal.false))))
      (then_text old new new (put_in later held (line ∷ plain_lines behind)) (put_in later more (plain_lines behind)) (put_in later more (plain_lines c.pass_plain.new.self.lines.now))
      (c.in-Some-pass_plain.ensures.passed later (plain_lines behind))
      (same_text new (put_in later more (plain_lines behind)) (put_in later more (plain_lines c.pass_plain.new.self.lines.now))
      (ap (λ t. put_in later more (plain_lines t.now)) (sym c.pass_plain.ensures.lines)))));
  shorter = let a = c.loop-line.invariant.shorter in let b = c.in-Some.ensures.shorter in let e : length c.pass_plain.new.self.lines.now ≡ length c.in-Some.behind.now = ap (λ t. length t.now) c.pass_plain.ensures.lines in omega arith;
}
