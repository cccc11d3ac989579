use Rattle.std.proofs.Common.{◌≡◌, ℕ, List, length, Bor, ◌∙◌, rules, inl, inr}
use Rattle.std.proofs.lemmas.List.{length-map}
use Rattle.zio_script.proofs.LineShapeLemmas.{no_sector_by, two_at_end}
use Rattle.zio_script.proofs.shapes.sector_end.Goals.{then-is_empty-via-then-is_empty, then-is_empty-via-else-is_empty+then-not-is_sector}
use Rattle.zio_script.proofs.shapes.sector_end.Goals as goal

pub returns-then-is_empty : goal.returns-then-is_empty
returns-then-is_empty c =
    let are = two_at_end c.args.words.now c.in_ok-sector.front.now c.in_ok-word.leaves.now c.in_ok-word.word.now c.in_ok-sector.sector.now
    c.in_ok-sector.ensures.cases.0 c.in_ok-word.ensures.cases.0 in
    elim c.then-is_empty.branch [
      | then-is_empty-via-then-is_empty w ↦ no_sector_by _ _ _ _ are (inl (length-map c.in_ok-word.leaves.now (λ (w : Bor (List ℕ)). w.now) ∙ (let none : length c.in_ok-word.leaves.now ≡ 0 = search rules in none)))
      | then-is_empty-via-else-is_empty+then-not-is_sector w ↦ no_sector_by _ _ _ _ are (inr (search rules))
    ]
