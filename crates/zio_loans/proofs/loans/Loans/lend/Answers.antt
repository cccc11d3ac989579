use Rattle.std.proofs.Common.{ap, ◌∙◌, ◌∷◌, []}
use Rattle.zio_loans.specs.Out.{count_out}
use Rattle.zio_loans.specs.Rule.{first_hand}
use Rattle.zio_loans.proofs.Outs.{count_lent}
use Rattle.zio_loans.proofs.Seats.{lender_is, let_go}
use Rattle.zio_loans.proofs.loans.Loans.lend.Goals as goal

pub returns-clause-lender : goal.returns-clause-lender
returns-clause-lender g c =
    let me = let_go c.enter.new.seat.me c.cut_off.new.seat.me _ _ _ c.enter.ensures.me c.cut_off.ensures.me in
    record { own = c.cut_off.ensures.table.0 ∙ c.enter.ensures.table ∙ c.requires.own; view = (lender_is _ _ me).0 }

pub returns-clause-out : goal.returns-clause-out
returns-clause-out g c =
    let me = let_go c.enter.new.seat.me c.cut_off.new.seat.me _ _ _ c.enter.ensures.me c.cut_off.ensures.me in
    (lender_is _ _ me).1

pub returns-clause-loan : goal.returns-clause-loan
returns-clause-loan g c = record {
  own = c.cut_off.ensures.table.1 ∙ c.enter.ensures.table ∙ c.requires.own;
  view = c.cut_off.ensures.loan ∙ ap (λ m. first_hand m.0 ∷ []) c.enter.ensures.me;
}

pub returns-clause-count : goal.returns-clause-count
returns-clause-count g c =
    let me = let_go c.enter.new.seat.me c.cut_off.new.seat.me _ _ _ c.enter.ensures.me c.cut_off.ensures.me in
    ap count_out (lender_is _ _ me).1 ∙ count_lent c.args.seat.now.me.0.out c.args.value.now
