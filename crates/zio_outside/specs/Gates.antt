-- What a clause sees of a gate at which two operations meet. Who has come to it, no clause can say.
use Rattle.std.specs.Prelude.{ℕ}
use Rattle.zio_outside.specs.declared.gate.MeetGate.{MeetGate}

-- the one operation: its request and its leaf
abbrev pub first_of : MeetGate → ℕ × ℕ
first_of gate = (gate.a.request, gate.a.leaf)

-- the other operation
abbrev pub second_of : MeetGate → ℕ × ℕ
second_of gate = (gate.b.request, gate.b.leaf)

-- how many turns the one waits for the other
abbrev pub turns_of : MeetGate → ℕ
turns_of gate = gate.turns
