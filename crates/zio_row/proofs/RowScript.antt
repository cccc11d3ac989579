-- The script of the worked run, and that its text is this script.
use Rattle.std.proofs.Common.{[], ◌∷◌, false, true, None, refl}
use Rattle.std.specs.Prelude.{codes}
use Rattle.hex.specs.Hex.{decode_pairs}
use Rattle.zio_types.specs.declared.request.Prio.TheVariants.{SyncRead, SyncWrite}
use Rattle.zio_blkptr.specs.declared.pointer.SumKind.TheVariants.{Sha256}
use Rattle.zio_script.specs.declared.script.Body.TheVariants.{Fill}
use Rattle.zio_script.specs.declared.script.Failmode.TheVariants.{Wait}
use Rattle.zio_script.specs.declared.script.Item.TheVariants.{Request as RequestLine, Go}
use Rattle.zio_script.specs.declared.script.Request.{Request}
use Rattle.zio_script.specs.declared.script.Script.{Script}
use Rattle.zio_script.specs.declared.script.Work.TheVariants.{Read, Write}
use Rattle.zio_script.specs.Grammar.{IsScriptOf, read_lines}
use Rattle.zio_row.specs.Row.{row_text}

abbrev pub writer : Request
writer = record { number = 1; work = Write (codes "x") Sha256 1 SyncWrite (Fill 0x41 512); under = None; canfail = false }

abbrev pub reader : Request
reader = record { number = 2; work = Read (codes "x") SyncRead; under = None; canfail = true }

abbrev pub row_script : Script
row_script = record {
  failmode = Wait;
  tops = record { leaves = 0 ∷ []; unit = 1 } ∷ [];
  faults = [];
  items = RequestLine writer ∷ Go ∷ RequestLine reader ∷ Go ∷ [];
}

pub row_is_read : IsScriptOf row_text row_script
unfolding read_lines decode_pairs
row_is_read = refl
