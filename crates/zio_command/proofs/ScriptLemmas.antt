-- A text is the script, or has the fault, that what was read of it is or has.
use Rattle.std.proofs.Common.{◌≡◌, ℕ, ◌+◌, ◌≤◌, ◌<◌, min, nat_le, List, length, Bool, true, false, Result, Ok, Err, refl, sym, ap, ◌∙◌, arith}
use Rattle.std.proofs.lemmas.List.{length-take, take_all}
use Rattle.std.proofs.lemmas.Bool.{leb-false, leb-true, lt-leb}
use Rattle.zio_script.specs.declared.read.TheConstants.{SCRIPT_LEN_MAX}
use Rattle.zio_script.specs.declared.script.Script.{Script}
use Rattle.zio_script.specs.declared.script.ScriptFault.{ScriptFault}
use Rattle.zio_script.specs.Grammar.{IsFaultOf, IsScriptOf, read_short, reading}
use Rattle.zio_command.specs.Outcomes.{IsReadOf}

read_len : (text bytes : List ℕ) → IsReadOf text bytes → length bytes ≡ min (SCRIPT_LEN_MAX + 1) (length text)
read_len text bytes read = ap length read.read ∙ length-take (SCRIPT_LEN_MAX + 1) text

-- what was read of a text that isn't too long is all of it
whole : (text bytes : List ℕ) → IsReadOf text bytes → length bytes ≤ SCRIPT_LEN_MAX → bytes ≡ text
whole text bytes read short =
    let len = read_len text bytes read in
    read.read ∙ take_all (SCRIPT_LEN_MAX + 1) text (omega arith)

-- and of one that is too long so much that it shows
still_long : (text bytes : List ℕ) → IsReadOf text bytes → SCRIPT_LEN_MAX < length bytes → SCRIPT_LEN_MAX < length text
still_long text bytes read long = let len = read_len text bytes read in omega arith

reading-by : (text bytes : List ℕ) → IsReadOf text bytes → (b : Bool) → nat_le (length bytes) SCRIPT_LEN_MAX ≡ b
    → reading bytes ≡ reading text
reading-by text bytes read true short = ap reading (whole text bytes read (leb-true (length bytes) SCRIPT_LEN_MAX short))
reading-by text bytes read false long =
    let more : nat_le (length text) SCRIPT_LEN_MAX ≡ false =
    lt-leb (length text) SCRIPT_LEN_MAX (still_long text bytes read (leb-false (length bytes) SCRIPT_LEN_MAX long)) in
    ap (λ (b : Bool). read_short b bytes) long ∙ sym (ap (λ (b : Bool). read_short b text) more)

-- what was read of a text is read as the text is
reading-read : (text bytes : List ℕ) → IsReadOf text bytes → reading bytes ≡ reading text
reading-read text bytes read = reading-by text bytes read (nat_le (length bytes) SCRIPT_LEN_MAX) refl

pub IsScriptOf-read : (text bytes : List ℕ) (script : Script) → IsReadOf text bytes → IsScriptOf bytes script → IsScriptOf text script
IsScriptOf-read text bytes script read is = sym (reading-read text bytes read) ∙ is

pub IsFaultOf-read : (text bytes : List ℕ) (fault : ScriptFault) → IsReadOf text bytes → IsFaultOf bytes fault → IsFaultOf text fault
IsFaultOf-read text bytes fault read is = sym (reading-read text bytes read) ∙ is

ok_differs : {A B : Type 0} (r : Result A B) (a : A) (b : B) → r ≡ Ok a → r ≡ Err b → ⊥
ok_differs (Ok x) a b h k = let no : Ok x ≡ Err b = k in cc
ok_differs (Err x) a b h k = let no : Err x ≡ Ok a = h in cc

-- a text is no script where it has a fault
pub no_script : (text : List ℕ) (script : Script) (fault : ScriptFault) → IsScriptOf text script → IsFaultOf text fault → ⊥
no_script text script fault is has = ok_differs (reading text) script fault is has

ok_same : {A B : Type 0} (r : Result A B) (a b : A) → r ≡ Ok a → r ≡ Ok b → a ≡ b
ok_same (Ok x) a b h k = cc
ok_same (Err x) a b h k = let no : Err x ≡ Ok a = h in cc

-- a text is one script
pub one_script : (text : List ℕ) (a b : Script) → IsScriptOf text a → IsScriptOf text b → a ≡ b
one_script text a b h k = ok_same (reading text) a b h k
