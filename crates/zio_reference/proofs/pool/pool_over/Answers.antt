use Rattle.std.proofs.Common.{◌≡◌, ◌++◌, List, ℕ, length, ap, map, ◌∙◌, subst, sym, arith}
use Rattle.std.specs.List.{AllByRecursion}
use Rattle.zio_faults.specs.declared.table.Row.{Row}
use Rattle.zio_command.specs.Grounds.{IsSettingOf}
use Rattle.zio_command.specs.Outcomes.{HasLawfulSize}
use Rattle.zio_command.proofs.GroundLemmas.{setting_of}
use Rattle.zio_reference.proofs.pool.pool_over.Goals as goal

pub space_of-requires-clause-few : goal.space_of-requires-clause-few
space_of-requires-clause-few g c =
    let pool = c.accepted_scripts_have_lawful_pools.ensures _ _ c.requires.script.1 in
    let most = pool.most in
    let count = c.in_ok-tops.ensures.count in
    let same = ap length c.as_slice-2.ensures in
    omega (arith, most, count, same)

pub returns-clause-setting : goal.returns-clause-setting
returns-clause-setting g c =
    let pool = c.accepted_scripts_have_lawful_pools.ensures _ _ c.requires.script.1 in
    let z : c.as_slice.result.now ≡ map g.D.Disk.bytes c.args.disks.now = c.as_slice.ensures ∙ c.in_ok-sizes.ensures in
    let measured = subst (λ (ns : List ℕ). AllByRecursion HasLawfulSize ns) (sym z) c.requires.measured in
    let rows : c.extend_from_slice.new.self ≡ c.args.script.now.faults =
    c.in_ok-extend_from_slice.ensures.ok ∙ (ap (λ (rs : List Row). rs ++ c.as_slice-3.result.now) c.new-rows.ensures ∙ c.as_slice-3.ensures) in
    let tops = c.in_ok-tops.ensures in
    subst (λ (ns : List ℕ). IsSettingOf c.args.script.now ns (record { tops = c.in_ok-tops.tops; rows = c.extend_from_slice.new.self; point = 0 })) z
    (setting_of c.args.script.now c.as_slice.result.now c.in_ok-tops.tops c.extend_from_slice.new.self 0 pool tops.ok tops.named tops.bears tops.lawful
    (tops.short measured) tops.count rows measured)
