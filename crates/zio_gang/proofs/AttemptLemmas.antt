-- Trees are attempted one after another.
use Rattle.std.proofs.Common.{◌≡◌, ℕ, List, [], ◌∷◌, ◌++◌, refl, sym, ap, ◌∙◌, append_assoc}
use Rattle.zio_types.specs.Choices.{Choice}
use Rattle.zio_cksum.specs.Images.{Images}
use Rattle.zio_gang.specs.Attempts.{Attempt, Attempted, Pending, Return, Terms, add_attempted, added_attempt, attempt_each, attempt_one, joined_attempt}

add_attempted-added : (one : Attempted) (front rest : Attempt) → add_attempted one (added_attempt front rest) ≡ added_attempt (add_attempted one front) rest
add_attempted-added one front rest i = record {
  returns = rest.returns;
  ended = sym (append_assoc one.ended front.ended rest.ended) i;
  again = sym (append_assoc one.again front.again rest.again) i;
  asks = sym (append_assoc one.asks front.asks rest.asks) i;
  images = rest.images;
}

pub attempt_each-append : (journal : List Choice) (t : Terms) (attempt : ℕ) (front rest : List Pending) (returns : List Return) (images : Images) →
    attempt_each journal t attempt (front ++ rest) returns images ≡ joined_attempt (attempt_each journal t attempt front returns images) (attempt_each journal t attempt rest)
unfolding attempt_each
attempt_each-append journal t attempt [] rest returns images = refl
attempt_each-append journal t attempt (p ∷ ps) rest returns images =
    let one : Attempted = attempt_one journal t attempt p returns images in
    ap (add_attempted one) (attempt_each-append journal t attempt ps rest (one.return ∷ returns) one.images)
    ∙ add_attempted-added one (attempt_each journal t attempt ps (one.return ∷ returns) one.images) _
