-- A whole generated script is read without a fault.
use Rattle.std.proofs.Common.{◌<◌, ◌≤◌, ◌+◌, ◌-◌, ◌*◌, ◌/◌, ◌^◌, ℕ, ◌++◌, arith}
use Rattle.zio_script.specs.declared.script.Script.{Script}
use Rattle.zio_gen.specs.Generated.{clear_line, group_max, group_text, head_lines, script_text, texts}
use Rattle.zio_script.specs.Grammar.{IsScriptOf}
use Rattle.zio_script.specs.Whys.{nothing_before}
use Rattle.zio_gen.proofs.GroupLemmas.{StandsAt, groups_go}
use Rattle.zio_gen.proofs.HeadLemmas.{head_goes}
use Rattle.zio_gen.proofs.LengthLemmas.{short_script}
use Rattle.zio_gen.proofs.LineLemmas.{clear_goes}
use Rattle.zio_gen.proofs.StandLemmas.{Stands, end_none}
use Rattle.zio_gen.proofs.TextLemmas.{Goes, goes_then, whole_text}

-- the next request and the next block, behind the last of so many blocks in groups of eight
abbrev next_of : ℕ → ℕ
next_of n = 3 * group_max * ((n + group_max - 1) / group_max) + 1

abbrev block_of : ℕ → ℕ
block_of n = group_max * ((n + group_max - 1) / group_max) + 1

script_goes : (seed n : ℕ) → seed < 2 ^ 32 → n ≤ 20000 → Goes (script_text seed n) nothing_before (Stands (next_of n) (block_of n) 0 2)
script_goes seed n small most =
    let groups = texts (group_text seed n) ((n + group_max - 1) / group_max) in
    goes_then (head_lines ++ groups ++ clear_line) clear_line nothing_before (Stands (next_of n) (block_of n) 0 1) (Stands (next_of n) (block_of n) 0 2)
    (goes_then (head_lines ++ groups) clear_line nothing_before (StandsAt ((n + group_max - 1) / group_max)) (Stands (next_of n) (block_of n) 0 1)
    (goes_then head_lines groups nothing_before (StandsAt 0) (StandsAt ((n + group_max - 1) / group_max)) head_goes
    (λ headed tops. groups_go seed n headed small most tops ((n + group_max - 1) / group_max) (omega arith)))
    (λ freed there. clear_goes (next_of n) (block_of n) 0 freed there (omega arith)))
    (λ cleared left. clear_goes (next_of n) (block_of n) 1 cleared left (omega arith))

pub generated_is_script : (seed n : ℕ) → seed < 2 ^ 32 → n ≤ 20000 → (script : Script) × IsScriptOf (script_text seed n) script
generated_is_script seed n small most =
    let goes = script_goes seed n small most in (
      goes.after.script,
      whole_text (script_text seed n) goes.after (short_script seed n small most) goes.reads (end_none (next_of n) (block_of n) 2 goes.after goes.stands),
    )
