use Rattle.std.proofs.Common.{◌≡◌, ℕ, ◌+◌, ◌-◌, ◌≤◌, List, arith, ap, drop, length, length-drop, sym, take, ◌∙◌}
use Rattle.std.proofs.lemmas.List.{drop-drop, drop-take, length-take-le, take-take}
use Rattle.zio_shared.specs.Held.{items_of}
use Rattle.zio_shared.proofs.shared.Shared.part.Goals as goal

-- a part of a part, where it fits
part_of_part : (items : List ℕ) (start len from count : ℕ) → from + count ≤ len
    → take count (drop (start + from) items) ≡ take count (drop from (take len (drop start items)))
part_of_part items start len from count fits =
    let rest = len - from in
    let is : len ≡ from + rest = omega (arith, fits) in
    let cut : drop from (take len (drop start items)) ≡ take rest (drop from (drop start items)) =
    ap (λ (n : ℕ). drop from (take n (drop start items))) is ∙ drop-take from rest (drop start items) in
    let back : drop from (drop start items) ≡ drop (start + from) items = drop-drop from start items in
    sym (ap (take count) (cut ∙ ap (take rest) back) ∙ take-take count rest (drop (start + from) items) (omega (arith, fits, is)))

pub returns-clause-part : goal.returns-clause-part
returns-clause-part c =
    let x = c.self.inside in
    let items : List ℕ = items_of x.held in
    let seen : c.args.self.now ≡ take x.len (drop x.start items) = sym c.self.view_is in
    let room : x.len ≤ length (drop x.start items) = omega (arith, length-drop x.start items, c.self.invariant) in
    let long : length c.args.self.now ≡ x.len = ap length seen ∙ length-take-le x.len (drop x.start items) room in
    let fits : c.args.start + c.args.len ≤ x.len = omega (arith, c.requires, long) in
    ap (λ (now : List ℕ). take c.args.len (drop (x.start + c.args.start) now)) c.in_ok-held.ensures.again
    ∙ (part_of_part items x.start x.len c.args.start c.args.len fits ∙ ap (λ (now : List ℕ). take c.args.len (drop c.args.start now)) (sym seen))
