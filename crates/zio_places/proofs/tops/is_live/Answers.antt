use Rattle.std.proofs.Common.{◌≡◌, get_or, sym, ap, ◌∙◌, arith}
use Rattle.std.proofs.lemmas.Bool.{false≢true, eqb-true, eq-eqb, ltb-true, lt-ltb}
use Rattle.zio_places.specs.Tables.{TopState, length_at}
use Rattle.zio_places.proofs.TableLemmas.{live-length, length-live}
use Rattle.zio_places.proofs.ChangeLemmas.{length-inside, inside-length}
use Rattle.zio_places.proofs.AllocateLemmas.{top_read}
use Rattle.zio_places.proofs.tops.is_live.Goals as goal

pub returns-then-top-tops : goal.returns-then-top-tops
returns-then-top-tops c = (
  (λ h. absurd (false≢true h)),
  (λ h.
      let live = live-length c.args.tops.now c.args.place.now h in
      let inside = length-inside c.args.tops.now c.args.place.now.top c.args.place.now.sector (omega (arith, live.0, live.1)) in
      let there = inside-length c.args.tops.now c.args.place.now.top c.args.place.now.sector inside in
      absurd (omega (arith, there, c.if-top-tops.true))),
)

pub returns-then-sectors-gt0 : goal.returns-then-sectors-gt0
returns-then-sectors-gt0 c =
    let read = top_read c.args.tops.now c.args.place.now.top c.index-tops-top.result c.if-top-tops.false in
    let size : c.length_at.result ≡ length_at c.args.tops.now c.args.place.now.top c.args.place.now.sector = c.length_at.ensures ∙ ap (λ (t : TopState). get_or t.lengths c.args.place.now.sector 0) (c.index-tops-top.is ∙ read) in (
      (λ h. length-live c.args.tops.now c.args.place.now c.if-sectors-gt0.true (sym size ∙ eqb-true c.length_at.result c.args.place.now.sectors h)),
      (λ h. eq-eqb c.length_at.result c.args.place.now.sectors (size ∙ (live-length c.args.tops.now c.args.place.now h).1)),
    )

pub returns-else-sectors-gt0 : goal.returns-else-sectors-gt0
returns-else-sectors-gt0 c = (
  (λ h. absurd (omega (arith, ltb-true 0 c.args.place.now.sectors h, c.if-sectors-gt0.false))),
  (λ h. lt-ltb 0 c.args.place.now.sectors (live-length c.args.tops.now c.args.place.now h).0),
)
