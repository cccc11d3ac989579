use Rattle.std.proofs.Common.{ap, ◌∙◌, ◌+◌, ◌∷◌, [], sym}
use Rattle.zio_loans.specs.Out.{count_out}
use Rattle.zio_loans.specs.Rule.{holder}
use Rattle.zio_loans.proofs.Outs.{count_struck}
use Rattle.zio_loans.proofs.Seats.{back_again, came_back, taken_in}
use Rattle.zio_loans.proofs.loans.Loans.settle.Goals as goal

pub take_in-requires-clause-table : goal.take_in-requires-clause-table
take_in-requires-clause-table g c = (c.requires.lender.own, c.requires.loan.2.own)

pub take_in-requires-clause-loan : goal.take_in-requires-clause-loan
take_in-requires-clause-loan g c = (holder ((c.requires.loan.0, c.requires.loan.1) ∷ []), c.requires.loan.2.view)

pub strike_out-requires-clause-hand : goal.strike_out-requires-clause-hand
strike_out-requires-clause-hand g c =
    let n = c.requires.loan.0 in
    let x = c.requires.loan.1 in
    let in_hand = taken_in c.args.seat.now.me c.take_in.new.seat.me n x c.requires.lender.view (c.take_in.ensures.me (holder ((n, x) ∷ [])) c.requires.loan.2.view) in
    (n, x, in_hand.0)

pub returns-clause-lender : goal.returns-clause-lender
returns-clause-lender g c =
    let n = c.requires.loan.0 in
    let x = c.requires.loan.1 in
    let in_hand = taken_in c.args.seat.now.me c.take_in.new.seat.me n x c.requires.lender.view (c.take_in.ensures.me (holder ((n, x) ∷ [])) c.requires.loan.2.view) in
    let told = c.strike_out.ensures.back n x (ap (λ m. m.0.hands) in_hand.0) in
    record { own = c.strike_out.ensures.table ∙ c.take_in.ensures.table ∙ c.requires.lender.own; view = back_again c.take_in.new.seat.me c.strike_out.new.seat.me n x in_hand.0 told.1 }

pub returns-clause-back : goal.returns-clause-back
returns-clause-back g c = λ n x shows.
    let in_hand = taken_in c.args.seat.now.me c.take_in.new.seat.me n x c.requires.lender.view (c.take_in.ensures.me (holder ((n, x) ∷ [])) shows.view) in
    let told = c.strike_out.ensures.back n x (ap (λ m. m.0.hands) in_hand.0) in
    came_back c.args.seat.now.me c.take_in.new.seat.me c.strike_out.new.seat.me n x in_hand.0 in_hand.1 told.0 told.1

pub returns-clause-count : goal.returns-clause-count
returns-clause-count g c =
    let n = c.requires.loan.0 in
    let x = c.requires.loan.1 in
    let in_hand = taken_in c.args.seat.now.me c.take_in.new.seat.me n x c.requires.lender.view (c.take_in.ensures.me (holder ((n, x) ∷ [])) c.requires.loan.2.view) in
    let told = c.strike_out.ensures.back n x (ap (λ m. m.0.hands) in_hand.0) in
    let back = came_back c.args.seat.now.me c.take_in.new.seat.me c.strike_out.new.seat.me n x in_hand.0 in_hand.1 told.0 told.1 in
    count_struck c.args.seat.now.me.0.out n x back.was_out ∙ ap (λ l. count_out l + 1) (sym back.struck)
