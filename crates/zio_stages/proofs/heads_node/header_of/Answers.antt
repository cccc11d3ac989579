use Rattle.std.proofs.Common.{◌≡◌, ◌∙◌, ℕ, List, length, Result, Ok, sym, ap, subst}
use Rattle.std.specs.Prelude.{IfOk}
use Rattle.zio_types.specs.declared.error.Errno.{Errno}
use Rattle.zio_stages.proofs.CheckLemmas.{taken_whole}
use Rattle.zio_stages.proofs.heads_node.header_of.Goals as goal

pub returns-in-Some : goal.returns-in-Some
returns-in-Some c =
    let bytes : List ℕ = c.in-Ok.bytes in
    let slice : List ℕ = c.as_slice.result.now in
    let long : IfOk {T = List ℕ} {E = Errno} (Ok bytes) (λ b. length b ≡ 512) = subst (λ (f : Result (List ℕ) Errno). IfOk f (λ b. length b ≡ 512)) c.in-Ok.is c.requires in
    let same : slice ≡ bytes = c.as_slice.ensures in
    let whole : c.in-Some.header.now ≡ slice = taken_whole 512 slice c.in-Some.header.now (ap (λ (b : List ℕ). length b) same ∙ long) c.in-Some.ensures.cases.same in
    ap (λ (b : List ℕ). let r : Result (List ℕ) Errno = Ok b in r) (whole ∙ same) ∙ sym c.in-Ok.is
