-- The children of one part of a node: those that haven't ended do what is out of it, each something else.
use Rattle.std.proofs.Common.{◌≡◌, ◌≢◌, ℕ, ◌<◌, List, [], ◌∷◌, ◌++◌, length, slice_get, slice_set, true, false, Option, Some, option_map, ◌⊎◌, inl, inr, sym, ap, subst, ◌∙◌, arith}
use Rattle.std.specs.Prelude.{IfSome}
use Rattle.zio_frames.specs.Frames.{Child, Seat as SeatOf}
use Rattle.zio_frames.specs.Moves.{child_ended}
use Rattle.zio_frames.proofs.GetLemmas.{get_either, get_exchanged}
use Rattle.zio_stages.specs.NodeChildren.{layer_seat}
use Rattle.zio_stages.specs.NodeIos.{NoneSits, SitsOn}
use Rattle.zio_stages.specs.declared.family.Layer.{Layer}
use Rattle.zio_stages.specs.declared.family.Layer.TheVariants.{Own, Within}

pub seat_number : (layer : Layer) (m n : ℕ) → layer_seat layer m ≡ layer_seat layer n → m ≡ n
seat_number Own m n e = cc
seat_number Within m n e = cc

-- ---- the same children

pub sits_still : (layer : Layer) (Old New : ℕ → Type 0) (family : List Child) → ((n : ℕ) → Old n → New n) → SitsOn layer Old family → SitsOn layer New family
sits_still layer Old New family f h = record { outs = λ k n c e goes at. f n (h.outs k n c e goes at); apart = h.apart }

-- where nothing is out none sits
pub none_sits : (layer : Layer) (Old : ℕ → Type 0) (family : List Child) → ((n : ℕ) → Old n → ⊥) → SitsOn layer Old family → NoneSits layer family
none_sits layer Old family f h = λ k n c e goes at. f n (h.outs k n c e goes at)

-- and where none sits something new may begin
pub sits_fresh : (layer : Layer) (New : ℕ → Type 0) (family : List Child) → NoneSits layer family → SitsOn layer New family
sits_fresh layer New family h = record {
  outs = λ k n c e goes at. absurd (h k n c e goes at);
  apart = λ k m n c d e f goes went at there. absurd (h k n c e goes at);
}

-- ---- one more

pub sits_more : (layer : Layer) (Old New : ℕ → Type 0) (asked : ℕ) (family : List Child) (c : Child) → ((n : ℕ) → Old n → New n) → New asked → ((n : ℕ) → Old n → n < asked)
    → c.seat ≡ layer_seat layer asked → SitsOn layer Old family → SitsOn layer New (family ++ c ∷ [])
sits_more layer Old New asked family c stays newest below seat h = record {
  outs = λ k n d e goes at. out k n d goes at (get_either family c d k e);
  apart = λ k m n d f e g goes went at there. same k m n d f goes went at there (get_either family c d k e) (get_either family c f m g);
}
  where
    At : ℕ → Child → Type 0
    At k d = (slice_get family k ≡ Some d) ⊎ ((k ≡ length family) × (c ≡ d))

    last : (n : ℕ) (d : Child) → c ≡ d → d.seat ≡ layer_seat layer n → asked ≡ n
    last n d e at = seat_number layer asked n (sym seat ∙ ap (λ (x : Child). x.seat) e ∙ at)

    out : (k n : ℕ) (d : Child) → d.ended ≡ false → d.seat ≡ layer_seat layer n → At k d → New n
    out k n d goes at (inl e) = stays n (h.outs k n d e goes at)
    out k n d goes at (inr e) = subst New (last n d e.1 at) newest

    clash : (k n : ℕ) (d f : Child) → slice_get family k ≡ Some d → d.ended ≡ false → d.seat ≡ layer_seat layer n → c ≡ f → f.seat ≡ layer_seat layer n → ⊥
    clash k n d f e goes at is there = omega (arith, below n (h.outs k n d e goes at), last n f is there)

    same : (k m n : ℕ) (d f : Child) → d.ended ≡ false → f.ended ≡ false → d.seat ≡ layer_seat layer n → f.seat ≡ layer_seat layer n → At k d → At m f → k ≡ m
    same k m n d f goes went at there (inl e) (inl g) = h.apart k m n d f e g goes went at there
    same k m n d f goes went at there (inl e) (inr g) = absurd (clash k n d f e goes at g.1 there)
    same k m n d f goes went at there (inr e) (inl g) = absurd (clash m n f d g went there e.1 at)
    same k m n d f goes went at there (inr e) (inr g) = e.0 ∙ sym g.0

-- one of another part
pub sits_beside : (layer : Layer) (Old : ℕ → Type 0) (family : List Child) (c : Child) → ((n : ℕ) → c.seat ≡ layer_seat layer n → ⊥) → SitsOn layer Old family → SitsOn layer Old (family ++ c ∷ [])
sits_beside layer Old family c other h = record {
  outs = λ k n d e goes at. out k n d goes at (get_either family c d k e);
  apart = λ k m n d f e g goes went at there. same k m n d f goes went at there (get_either family c d k e) (get_either family c f m g);
}
  where
    At : ℕ → Child → Type 0
    At k d = (slice_get family k ≡ Some d) ⊎ ((k ≡ length family) × (c ≡ d))

    not_it : (n : ℕ) (d : Child) → c ≡ d → d.seat ≡ layer_seat layer n → ⊥
    not_it n d e at = other n (ap (λ (x : Child). x.seat) e ∙ at)

    out : (k n : ℕ) (d : Child) → d.ended ≡ false → d.seat ≡ layer_seat layer n → At k d → Old n
    out k n d goes at (inl e) = h.outs k n d e goes at
    out k n d goes at (inr e) = absurd (not_it n d e.1 at)

    same : (k m n : ℕ) (d f : Child) → d.ended ≡ false → f.ended ≡ false → d.seat ≡ layer_seat layer n → f.seat ≡ layer_seat layer n → At k d → At m f → k ≡ m
    same k m n d f goes went at there (inl e) (inl g) = h.apart k m n d f e g goes went at there
    same k m n d f goes went at there (inl e) (inr g) = absurd (not_it n f g.1 there)
    same k m n d f goes went at there (inr e) g = absurd (not_it n d e.1 at)

-- ---- one that changed

-- it sits where it sat, or ended: told its pointer, say
pub sits_changed : (layer : Layer) (Old : ℕ → Type 0) (family : List Child) (k : ℕ) (c d : Child) → slice_get family k ≡ Some c → d.seat ≡ c.seat → (d.ended ≡ false → c.ended ≡ false)
    → SitsOn layer Old family → SitsOn layer Old (slice_set family k d)
sits_changed layer Old family k c d is seat goes h = record {
  outs = λ j n f e going at. out j n f going at (get_exchanged family k j d f e);
  apart = λ j m n f g e i going went at there. same j m n f g going went at there (get_exchanged family k j d f e) (get_exchanged family k m d g i);
}
  where
    At : ℕ → Child → Type 0
    At j f = ((j ≡ k) × (d ≡ f)) ⊎ ((j ≢ k) × (slice_get family j ≡ Some f))

    going_then : (f : Child) → d ≡ f → f.ended ≡ false → c.ended ≡ false
    going_then f e going = goes (ap (λ (x : Child). x.ended) e ∙ going)

    at_then : (n : ℕ) (f : Child) → d ≡ f → f.seat ≡ layer_seat layer n → c.seat ≡ layer_seat layer n
    at_then n f e at = sym seat ∙ ap (λ (x : Child). x.seat) e ∙ at

    out : (j n : ℕ) (f : Child) → f.ended ≡ false → f.seat ≡ layer_seat layer n → At j f → Old n
    out j n f going at (inl e) = h.outs k n c is (going_then f e.1 going) (at_then n f e.1 at)
    out j n f going at (inr e) = h.outs j n f e.1 going at

    same : (j m n : ℕ) (f g : Child) → f.ended ≡ false → g.ended ≡ false → f.seat ≡ layer_seat layer n → g.seat ≡ layer_seat layer n → At j f → At m g → j ≡ m
    same j m n f g going went at there (inl e) (inl i) = e.0 ∙ sym i.0
    same j m n f g going went at there (inl e) (inr i) = e.0 ∙ h.apart k m n c g is i.1 (going_then f e.1 going) went (at_then n f e.1 at) there
    same j m n f g going went at there (inr e) (inl i) = h.apart j k n f c e.1 is going (going_then g i.1 went) at (at_then n g i.1 there) ∙ sym i.0
    same j m n f g going went at there (inr e) (inr i) = h.apart j m n f g e.1 i.1 going went at there

-- one of them ended, and what it did is out no more
pub sits_heard : (layer : Layer) (Old New : ℕ → Type 0) (n : ℕ) (family : List Child) (k : ℕ) (c : Child) → slice_get family k ≡ Some c → c.ended ≡ false → c.seat ≡ layer_seat layer n
    → ((m : ℕ) → m ≢ n → Old m → New m) → SitsOn layer Old family → SitsOn layer New (slice_set family k (child_ended c))
sits_heard layer Old New n family k c is goes seat others h = record {
  outs = λ j m f e going at. out j m f going at (get_exchanged family k j (child_ended c) f e);
  apart = λ j m i f g e o going went at there. same j m i f g going went at there (get_exchanged family k j (child_ended c) f e) (get_exchanged family k m (child_ended c) g o);
}
  where
    At : ℕ → Child → Type 0
    At j f = ((j ≡ k) × (child_ended c ≡ f)) ⊎ ((j ≢ k) × (slice_get family j ≡ Some f))

    over : (f : Child) → child_ended c ≡ f → f.ended ≡ false → ⊥
    over f e going =
        let no : true ≡ false = ap (λ (x : Child). x.ended) e ∙ going in
        absurd (cc)

    out : (j m : ℕ) (f : Child) → f.ended ≡ false → f.seat ≡ layer_seat layer m → At j f → New m
    out j m f going at (inl e) = absurd (over f e.1 going)
    out j m f going at (inr e) =
        others m (λ same. e.0 (h.apart j k m f c e.1 is going goes at (seat ∙ ap (layer_seat layer) (sym same)))) (h.outs j m f e.1 going at)

    same : (j m i : ℕ) (f g : Child) → f.ended ≡ false → g.ended ≡ false → f.seat ≡ layer_seat layer i → g.seat ≡ layer_seat layer i → At j f → At m g → j ≡ m
    same j m i f g going went at there (inl e) o = absurd (over f e.1 going)
    same j m i f g going went at there (inr e) (inl o) = absurd (over g o.1 went)
    same j m i f g going went at there (inr e) (inr o) = h.apart j m i f g e.1 o.1 going went at there

-- ---- the child of a number

pub seat_there : (family : List Child) (k : ℕ) (c : Child) (seat : SeatOf) → slice_get family k ≡ Some c → Some seat ≡ option_map (λ (x : Child). x.seat) (slice_get family k) → seat ≡ c.seat
seat_there family k c seat is e =
    let same : Some seat ≡ Some c.seat = e ∙ ap (option_map (λ (x : Child). x.seat)) is in
    cc

pub same_child : (family children : List Child) (k : ℕ) (c d : Child) → family ≡ children → slice_get family k ≡ Some c → slice_get children k ≡ Some d → c ≡ d
same_child family children k c d e is there =
    let same : Some c ≡ Some d = sym is ∙ ap (λ (cs : List Child). slice_get cs k) e ∙ there in
    cc

pub ended_is : (family more : List Child) (k : ℕ) (c : Child) → slice_get family k ≡ Some c → IfSome (slice_get family k) (λ (x : Child). more ≡ slice_set family k (child_ended x)) → more ≡ slice_set family k (child_ended c)
ended_is family more k c is h =
    let P : Option Child → Type 0 = λ o. IfSome o (λ (x : Child). more ≡ slice_set family k (child_ended x)) in
    subst P is h
