use Rattle.std.proofs.Common.{ap, arith, ◌∙◌, ◌∷◌, [], sym}
use Rattle.zio_loans.specs.Rule.{first_hand, holder}
use Rattle.zio_loans.proofs.Seats.{both_in, compares, first_left, one_view}
use Rattle.zio_loans.proofs.loans.Loans.compare.Goals as goal

pub into_seat-seat-requires : goal.into_seat-seat-requires
into_seat-seat-requires g c = (holder ((c.requires.one.0, c.requires.one.1) ∷ []), c.requires.one.2.view)

pub take_in-requires-clause-table : goal.take_in-requires-clause-table
take_in-requires-clause-table g c = (c.into_seat-seat.ensures.0 ∙ c.requires.one.2.own, c.requires.other.2.own)

pub take_in-requires-clause-loan : goal.take_in-requires-clause-loan
take_in-requires-clause-loan g c = (holder ((c.requires.other.0, c.requires.other.1) ∷ []), c.requires.other.2.view)

pub load-requires : goal.load-requires
load-requires g c =
    let n = c.requires.one.0 in
    let x = c.requires.one.1 in
    let k = c.requires.other.0 in
    let y = c.requires.other.1 in
    let is = one_view c.args.one.views c.into_seat-seat.result.me.0 (holder ((n, x) ∷ [])) c.into_seat-seat.ensures.2 c.requires.one.2.view in
    let both = both_in c.into_seat-seat.result.me c.take_in.new.seat.me n k x y is (c.take_in.ensures.me (holder ((k, y) ∷ [])) c.requires.other.2.view) in (
      c.take_in.ensures.table ∙ c.into_seat-seat.ensures.0 ∙ c.requires.one.2.own,
      (let wide = c.args.self.now.sized in omega arith),
      compares _ _ c.take_in.new.seat.me n k x y both,
    )

pub into_badge-requires : goal.into_badge-requires
into_badge-requires g c =
    let k = c.requires.other.0 in
    let y = c.requires.other.1 in
    ap (λ m. m.1) c.cut_off-second.ensures.me ∙ ap (λ m. m.1) c.load.ensures.2.0 ∙ ap (λ m. m.1) (c.take_in.ensures.me (holder ((k, y) ∷ [])) c.requires.other.2.view) ∙ c.into_seat-seat.ensures.3

pub returns-clause-apart : goal.returns-clause-apart
returns-clause-apart g c = λ n k x y shows others.
    let is = one_view c.args.one.views c.into_seat-seat.result.me.0 (holder ((n, x) ∷ [])) c.into_seat-seat.ensures.2 shows.view in
    let both = both_in c.into_seat-seat.result.me c.take_in.new.seat.me n k x y is (c.take_in.ensures.me (holder ((k, y) ∷ [])) others.view) in
    c.load.ensures.2.1 n k x y (ap (λ v. v.hands) both)

pub returns-clause-same : goal.returns-clause-same
returns-clause-same g c =
    let n = c.requires.one.0 in
    let x = c.requires.one.1 in
    let k = c.requires.other.0 in
    let y = c.requires.other.1 in
    let is = one_view c.args.one.views c.into_seat-seat.result.me.0 (holder ((n, x) ∷ [])) c.into_seat-seat.ensures.2 c.requires.one.2.view in
    let both = both_in c.into_seat-seat.result.me c.take_in.new.seat.me n k x y is (c.take_in.ensures.me (holder ((k, y) ∷ [])) c.requires.other.2.view) in
    let still = ap (λ m. m.0) c.load.ensures.2.0 ∙ both in
    let left = first_left c.load.new.seat.me c.cut_off-second.new.seat.me n k x y still c.cut_off-second.ensures.me in
    let table = c.load.ensures.0 ∙ c.take_in.ensures.table ∙ c.into_seat-seat.ensures.0 in (
      (
        c.into_badge.ensures.0 ∙ c.cut_off-second.ensures.table.0 ∙ table,
        c.into_badge.ensures.2 ∙ ap (λ v. v ∷ []) left ∙ sym c.requires.one.2.view,
      ),
      (
        c.cut_off-second.ensures.table.1 ∙ table ∙ c.requires.one.2.own ∙ sym c.requires.other.2.own,
        c.cut_off-second.ensures.loan ∙ ap (λ v. first_hand v ∷ []) still ∙ sym c.requires.other.2.view,
      ),
    )
