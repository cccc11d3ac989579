-- Paths are equal where their lengths and their filled steps are.
use Rattle.std.proofs.Common.{◌≡◌, ℕ, ◌-◌, List, length, take, replicate, bytes_eq, eqb, ◌&&◌, ap, sym, ◌∙◌}
use Rattle.std.proofs.Math.Seq.{take-append_seam}
use Rattle.std.proofs.lemmas.Bool.Decides.{same_from_decides, Decides-and, Decides-like, Decides-eqb}
use Rattle.std.proofs.lemmas.Slice.Eq.{bytes_eq-Decides}
use Rattle.zio_types.specs.Filled.{filled_to}
use Rattle.zio_gang.proofs.tree.is_same_path.Goals as goal

from_filled : (xs ys : List ℕ) → (length xs ≡ length ys) × (filled_to 0 8 xs ≡ filled_to 0 8 ys) → xs ≡ ys
from_filled xs ys h =
    sym (take-append_seam xs (replicate (8 - length xs) 0)) ∙ ap (take (length xs)) h.1
    ∙ ap (λ n. take n (filled_to 0 8 ys)) h.0 ∙ take-append_seam ys (replicate (8 - length ys) 0)

same_path : (xs ys : List ℕ) → (eqb (length xs) (length ys) && bytes_eq (filled_to 0 8 xs) (filled_to 0 8 ys)) ≡ bytes_eq xs ys
same_path xs ys =
    let both = eqb (length xs) (length ys) && bytes_eq (filled_to 0 8 xs) (filled_to 0 8 ys) in
    same_from_decides both (bytes_eq xs ys)
    (
    Decides-like both (from_filled xs ys) (λ e. (ap length e, ap (filled_to 0 8) e))
    (
    Decides-and (eqb (length xs) (length ys)) (bytes_eq (filled_to 0 8 xs) (filled_to 0 8 ys))
    (Decides-eqb (length xs) (length ys)) (bytes_eq-Decides (filled_to 0 8 xs) (filled_to 0 8 ys))
    )
    )
    (bytes_eq-Decides xs ys)

pub returns : goal.returns
returns c = c.eq.ensures ∙ same_path c.args.p.now c.args.q.now
