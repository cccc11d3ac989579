use Rattle.std.proofs.Common.{◌≡◌, ℕ, ◌-◌, ◌%◌, ◌<◌, List, ◌++◌, length, drop, take, replicate, refl, sym, ap, ◌∙◌, arith}
use Rattle.std.proofs.lemmas.List.{drop-replicate, take-replicate}
use Rattle.zio_gang.specs.Writes.{padded}
use Rattle.zio_gang.proofs.writes.pad.Goals as goal

pad_sector : (bytes new : List ℕ) (len past : ℕ) → len ≡ length bytes → past ≡ len % 512 → 0 < past
    → new ≡ bytes ++ take (512 - past) (drop {A = ℕ} past (replicate 512 0)) → new ≡ padded bytes
pad_sector bytes new len past is over some joined =
    let at : past ≡ length bytes % 512 = over ∙ ap (λ n. n % 512) is in
    let count : (512 - length bytes % 512) % 512 ≡ 512 - past = omega arith in
    joined
    ∙ ap (λ (zs : List ℕ). bytes ++ zs) (ap (take (512 - past)) (drop-replicate past 512 0) ∙ take-replicate (512 - past) (512 - past) 0 (omega arith))
    ∙ ap (λ (n : ℕ). bytes ++ replicate n 0) (sym count)

pub returns-in_ok-extend_from_slice : goal.returns-in_ok-extend_from_slice
returns-in_ok-extend_from_slice c =
    pad_sector c.args.bytes.now c.extend_from_slice.new.self c.len.result _ c.len.ensures refl c.if-past-gt0.true c.in_ok-extend_from_slice.ensures.ok
