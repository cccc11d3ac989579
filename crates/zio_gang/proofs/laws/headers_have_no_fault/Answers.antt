use Rattle.std.proofs.Common.{arith}
use Rattle.zio_gang.proofs.HeaderLemmas.{header_from_no_fault, no_fault_from_header, no_fault_from_members}
use Rattle.zio_gang.proofs.laws.headers_have_no_fault.Goals as goal

pub returns : goal.returns
returns c = record {
  accepted = λ place birth size bytes some long.
      (header_from_no_fault place birth size bytes (omega arith), no_fault_from_header place birth size bytes some (omega arith));
  read_back = no_fault_from_members;
}
