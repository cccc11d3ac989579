-- The first lines of a generated script: its tops and its faults.
use Rattle.std.proofs.Common.{ℕ, List, [], ◌∷◌, ◌++◌, refl, true, false}
use Rattle.std.specs.Prelude.{codes}
use Rattle.zio_faults.specs.declared.table.FaultKind.TheVariants.{Eio, Gone}
use Rattle.zio_faults.specs.declared.table.On.TheVariants.{Read, Any}
use Rattle.zio_faults.specs.declared.table.Row.{Row}
use Rattle.zio_script.specs.declared.script.Failmode.TheVariants.{Wait}
use Rattle.zio_script.specs.declared.script.TopLine.{TopLine as Top}
use Rattle.zio_gen.specs.Generated.{head_lines}
use Rattle.zio_script.specs.Whys.{Before, nothing_before}
use Rattle.zio_gen.proofs.StandLemmas.{Stands}
use Rattle.zio_gen.proofs.TextLemmas.{Goes, Reads, reads_line, reads_then}

-- tops and faults, and nothing more
abbrev headed : List Top → List Row → Before
headed tops faults = record { begun = true; script = record { failmode = Wait; tops = tops; faults = faults; items = [] } }

abbrev first_top : Top
first_top = record { leaves = 0 ∷ 1 ∷ []; unit = 1 }

abbrev both_tops : List Top
both_tops = first_top ∷ record { leaves = 2 ∷ 3 ∷ []; unit = 1 } ∷ []

-- the leaf has no device until the first clear
abbrev gone : ℕ → Row
gone leaf = record { leaf = leaf; on = Any; at = 0; len = 268435456; from = 0; until = 1; kind = Gone; first = false }

-- leaf 0 can't be read until the second clear
abbrev unread : Row
unread = record { leaf = 0; on = Read; at = 0; len = 268435456; from = 0; until = 2; kind = Eio; first = false }

abbrev behind_head : Before
behind_head = headed both_tops (gone 2 ∷ gone 3 ∷ unread ∷ [])

reads_tops : Reads (codes "top 0 1\n" ++ codes "top 2 3\n") nothing_before (headed both_tops [])
reads_tops =
    reads_then (codes "top 0 1\n") (codes "top 2 3\n") nothing_before (headed (first_top ∷ []) []) (headed both_tops [])
    (reads_line (codes "top") (codes "0" ∷ codes "1" ∷ []) nothing_before (headed (first_top ∷ []) []) (refl, (refl, (refl, tt))) refl)
    (reads_line (codes "top") (codes "2" ∷ codes "3" ∷ []) (headed (first_top ∷ []) []) (headed both_tops []) (refl, (refl, (refl, tt))) refl)

abbrev gone_behind : List ℕ → List (List ℕ)
gone_behind leaf = leaf ∷ codes "any" ∷ codes "0" ∷ codes "268435456" ∷ codes "0" ∷ codes "1" ∷ codes "gone" ∷ []

reads_gone : Reads (codes "fault 2 any 0 268435456 0 1 gone\n" ++ codes "fault 3 any 0 268435456 0 1 gone\n") (headed both_tops []) (headed both_tops (gone 2 ∷ gone 3 ∷ []))
reads_gone =
    reads_then (codes "fault 2 any 0 268435456 0 1 gone\n") (codes "fault 3 any 0 268435456 0 1 gone\n") (headed both_tops []) (headed both_tops (gone 2 ∷ [])) (headed both_tops (gone 2 ∷ gone 3 ∷ []))
    (reads_line (codes "fault") (gone_behind (codes "2")) (headed both_tops []) (headed both_tops (gone 2 ∷ [])) (refl, (refl, (refl, (refl, (refl, (refl, (refl, (refl, tt)))))))) refl)
    (reads_line (codes "fault") (gone_behind (codes "3")) (headed both_tops (gone 2 ∷ [])) (headed both_tops (gone 2 ∷ gone 3 ∷ [])) (refl, (refl, (refl, (refl, (refl, (refl, (refl, (refl, tt)))))))) refl)

reads_unread : Reads (codes "fault 0 read 0 268435456 0 2 eio\n") (headed both_tops (gone 2 ∷ gone 3 ∷ [])) behind_head
reads_unread =
    reads_line (codes "fault") (codes "0" ∷ codes "read" ∷ codes "0" ∷ codes "268435456" ∷ codes "0" ∷ codes "2" ∷ codes "eio" ∷ [])
    (headed both_tops (gone 2 ∷ gone 3 ∷ [])) behind_head (refl, (refl, (refl, (refl, (refl, (refl, (refl, (refl, tt)))))))) refl

reads_head : Reads head_lines nothing_before behind_head
reads_head =
    reads_then (codes "top 0 1\n" ++ codes "top 2 3\n") (codes "fault 2 any 0 268435456 0 1 gone\n" ++ codes "fault 3 any 0 268435456 0 1 gone\n" ++ codes "fault 0 read 0 268435456 0 2 eio\n")
    nothing_before (headed both_tops []) behind_head reads_tops
    (reads_then (codes "fault 2 any 0 268435456 0 1 gone\n" ++ codes "fault 3 any 0 268435456 0 1 gone\n") (codes "fault 0 read 0 268435456 0 2 eio\n")
    (headed both_tops []) (headed both_tops (gone 2 ∷ gone 3 ∷ [])) behind_head reads_gone reads_unread)

-- the head is read without a fault, and the first request is 1
pub head_goes : Goes head_lines nothing_before (Stands 1 1 0 0)
head_goes = record {
  after = behind_head;
  reads = reads_head;
  stands = record { tops = refl; above = λ n above. refl; batch = tt; len = refl; cleared = refl };
}
