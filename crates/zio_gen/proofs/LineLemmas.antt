-- Each line that a generated script has is read without a fault, and what it leaves.
use Rattle.std.proofs.Common.{◌≡◌, ◌<◌, ◌≤◌, ◌+◌, ◌*◌, ◌%◌, ◌^◌, ℕ, List, [], ◌∷◌, ◌++◌, refl, Bool, true, false, nat_lt, ◌==◌, Some, None, arith}
use Rattle.std.specs.Prelude.{codes, decimal}
use Rattle.std.proofs.lemmas.Bool.{le-leb}
use Rattle.std.proofs.lemmas.List.{append_assoc}
use Rattle.zio_blkptr.specs.declared.pointer.TheConstants.{BLOCK_SIZE_MAX}
use Rattle.zio_types.specs.Places.{rounded_up}
use Rattle.zio_script.specs.declared.script.Body.TheVariants.{Seq}
use Rattle.zio_script.specs.declared.script.Work.TheVariants.{Read, Write, Free}
use Rattle.zio_gen.specs.Generated.{clear_line, copies_of, free_line, go_line, prio_of, prio_word, read_line, size_of, sum_of, sum_word, write_line}
use Rattle.zio_script.specs.Grammar.{script_with}
use Rattle.zio_script.specs.Lines.{RequestLine, GoLine, ClearLine, GoShape, ClearShape}
use Rattle.zio_script.specs.Whys.{Before}
use Rattle.zio_script.specs.Words.{Word}
use Rattle.zio_gen.proofs.NumeralLemmas.{name_of_block, solid_decimal, solid_name}
use Rattle.zio_gen.proofs.RequestLemmas.{IsModest}
use Rattle.zio_gen.proofs.ShapeLemmas.{after_line_of, free_behind, free_makes, read_behind, read_makes, read_prio, root_asked, sum_for, write_behind, write_makes, write_prio}
use Rattle.zio_gen.proofs.StandLemmas.{Stands, clear_none, clear_stands, go_none, go_stands, request_none, request_stands}
use Rattle.zio_gen.proofs.TextLemmas.{Goes, reads_line}
use Rattle.zio_gen.proofs.WordLemmas.{AreSolid, is_solid, line_text}

-- ---- texts

join_write : (n b s c p t l : Word)
    → (n ++ codes " write b" ++ b ++ codes " " ++ s) ++ (codes " " ++ c ++ codes " " ++ p) ++ (codes " seq " ++ t ++ codes " " ++ l) ++ codes "\n"
    ≡ line_text n (codes "write" ∷ (98 ∷ b) ∷ s ∷ c ∷ p ∷ codes "seq" ∷ t ∷ l ∷ [])
join_write n b s c p t l = simp append_assoc

write_text : (seed n block : ℕ)
    → write_line seed n block
    ≡ line_text (decimal n) (write_behind (name_of_block block) (nat_lt (block % 4) 2) (decimal (copies_of seed block)) (block % 2 == 0) (decimal (seed + block)) (decimal (size_of seed block)))
write_text seed n block =
    join_write (decimal n) (decimal block) (sum_of block) (decimal (copies_of seed block)) (prio_of block) (decimal (seed + block)) (decimal (size_of seed block))

join_read : (n b p : Word) → n ++ codes " read b" ++ b ++ codes " " ++ p ++ codes " must\n" ≡ line_text n (codes "read" ∷ (98 ∷ b) ∷ p ∷ codes "must" ∷ [])
join_read n b p = simp append_assoc

read_text : (n block : ℕ) → read_line n block ≡ line_text (decimal n) (read_behind (name_of_block block) (block % 2 == 0))
read_text n block = join_read (decimal n) (decimal block) (prio_of block)

join_free : (n b : Word) → n ++ codes " free b" ++ b ++ codes " must\n" ≡ line_text n (codes "free" ∷ (98 ∷ b) ∷ codes "must" ∷ [])
join_free n b = simp append_assoc

free_text : (n block : ℕ) → free_line n block ≡ line_text (decimal n) (free_behind (name_of_block block))
free_text n block = join_free (decimal n) (decimal block)

-- ---- words

solid_sum : (long : Bool) → is_solid (sum_word long) ≡ true
solid_sum true = refl
solid_sum false = refl

solid_prio : (sync : Bool) → is_solid (prio_word sync) ≡ true
solid_prio true = refl
solid_prio false = refl

-- ---- work

-- how many copies are written, and how many bytes
record IsWriteSize (copies size : ℕ) : Type 0 where
  some : 1 ≤ copies
  few : copies ≤ 2
  low : 1 ≤ size
  high : size ≤ 16384

sizes_there : (seed block : ℕ) → IsWriteSize (copies_of seed block) (size_of seed block)
sizes_there seed block = record { some = omega arith; few = omega arith; low = omega arith; high = omega arith }

round_low : (n : ℕ) → n ≤ 16384 → rounded_up (n + 128 * 0) ≤ 16384
round_low n few = omega arith

modest_write : (seed block : ℕ) (long sync : Bool) (state : ℕ) (copies size : ℕ) → IsWriteSize copies size
    → IsModest block (Write (name_of_block block) (sum_for long) copies (write_prio sync) (Seq state size))
modest_write seed block long sync state copies size is =
    let some : 1 ≤ copies = is.some in
    let few : copies ≤ 2 = is.few in
    let low : 1 ≤ size = is.low in
    let high : size ≤ 16384 = is.high in
    record {
      named = refl;
      other = refl;
      fits = rw (le-leb 1 copies some, le-leb copies 3 (omega arith), le-leb 1 size low, le-leb size BLOCK_SIZE_MAX (omega arith)) refl;
      size = round_low size high;
    }

modest_read : (block : ℕ) (sync : Bool) → IsModest block (Read (name_of_block block) (read_prio sync))
modest_read block sync = record { named = refl; other = refl; fits = refl; size = omega arith }

modest_free : (block : ℕ) → IsModest block (Free (name_of_block block))
modest_free block = record { named = refl; other = refl; fits = refl; size = omega arith }

-- ---- requests

-- the line is read without a fault behind lines of which the last batch has room, and leaves a request more
abbrev pub GoesOn : (ℕ → ℕ → List ℕ) → Type 0
GoesOn line =
    (next block count clears : ℕ) (before : Before) → Stands next block count clears before → count < 1024 → 1 ≤ next → next ≤ 65535 → block < 10 ^ 5
    → Goes (line next block) before (Stands (next + 1) (block + 1) (count + 1) clears)

pub write_goes : (seed : ℕ) → seed < 2 ^ 32 → GoesOn (write_line seed)
write_goes seed small next block count clears before stands room low high named =
    let long = nat_lt (block % 4) 2 in
    let sync = block % 2 == 0 in
    let copies = copies_of seed block in
    let size = size_of seed block in
    let work = Write (name_of_block block) (sum_for long) copies (write_prio sync) (Seq (seed + block) size) in
    let is : IsWriteSize copies size = sizes_there seed block in
    let few : copies ≤ 2 = is.few in
    let short : size ≤ 16384 = is.high in
    let modest : IsModest block work = modest_write seed block long sync (seed + block) copies size is in
    let solid : AreSolid (decimal next ∷ write_behind (name_of_block block) long (decimal copies) sync (decimal (seed + block)) (decimal size)) = (
      solid_decimal next (omega arith),
      (
        refl,
        (
          solid_name block (omega arith),
          (
            solid_sum long,
            (
              solid_decimal copies (omega arith),
              (
                solid_prio sync,
                (
                  refl,
                  (solid_decimal (seed + block) (omega arith), (solid_decimal size (omega arith), tt)),
                ),
              ),
            ),
          ),
        ),
      ),
    ) in
    let after = script_with before.script (RequestLine (root_asked next work None)) in
    record {
      after = after;
      reads = rw (write_text seed next block) (reads_line (decimal next) (write_behind (name_of_block block) long (decimal copies) sync (decimal (seed + block)) (decimal size)) before after solid
          (write_makes before next copies (seed + block) size (name_of_block block) long sync (omega arith) (omega arith) (omega arith) (omega arith)
          (request_none next block count clears before work None stands modest room low high named)));
      stands = request_stands next block count clears before work None stands modest;
    }

pub read_goes : GoesOn read_line
read_goes next block count clears before stands room low high named =
    let sync = block % 2 == 0 in
    let work = Read (name_of_block block) (read_prio sync) in
    let solid : AreSolid (decimal next ∷ read_behind (name_of_block block) sync) =
    (solid_decimal next (omega arith), (refl, (solid_name block (omega arith), (solid_prio sync, (refl, tt))))) in
    let after = script_with before.script (RequestLine (root_asked next work (Some false))) in
    record {
      after = after;
      reads = rw (read_text next block) (reads_line (decimal next) (read_behind (name_of_block block) sync) before after solid
          (read_makes before next (name_of_block block) sync (omega arith)
          (request_none next block count clears before work (Some false) stands (modest_read block sync) room low high named)));
      stands = request_stands next block count clears before work (Some false) stands (modest_read block sync);
    }

pub free_goes : GoesOn free_line
free_goes next block count clears before stands room low high named =
    let work = Free (name_of_block block) in
    let solid : AreSolid (decimal next ∷ free_behind (name_of_block block)) =
    (solid_decimal next (omega arith), (refl, (solid_name block (omega arith), (refl, tt)))) in
    let after = script_with before.script (RequestLine (root_asked next work (Some false))) in
    record {
      after = after;
      reads = rw (free_text next block) (reads_line (decimal next) (free_behind (name_of_block block)) before after solid
          (free_makes before next (name_of_block block) (omega arith)
          (request_none next block count clears before work (Some false) stands (modest_free block) room low high named)));
      stands = request_stands next block count clears before work (Some false) stands (modest_free block);
    }

-- ---- the other lines

pub go_goes : (next block count clears first : ℕ) (before : Before) → Stands next block count clears before → 1 ≤ count
    → Goes go_line before (Stands next first 0 clears)
go_goes next block count clears first before stands some = record {
  after = script_with before.script GoLine;
  reads = reads_line (codes "go") [] before (script_with before.script GoLine) (refl, tt)
      (after_line_of before (codes "go" ∷ []) GoShape GoLine refl refl refl (go_none next block count clears before stands some));
  stands = go_stands next block count clears first before stands;
}

pub clear_goes : (next block clears : ℕ) (before : Before) → Stands next block 0 clears before → clears < 65534
    → Goes clear_line before (Stands next block 0 (clears + 1))
clear_goes next block clears before stands few = record {
  after = script_with before.script ClearLine;
  reads = reads_line (codes "clear") [] before (script_with before.script ClearLine) (refl, tt)
      (after_line_of before (codes "clear" ∷ []) ClearShape ClearLine refl refl refl (clear_none next block clears before stands few));
  stands = clear_stands next block clears before stands;
}
