-- The lines that the words of a generated line are.
use Rattle.std.proofs.Common.{◌≡◌, ◌<◌, ◌^◌, ℕ, List, [], ◌∷◌, refl, ap, ◌∙◌, Bool, true, false, Option, Some, None, Ok, arith}
use Rattle.std.specs.Prelude.{codes, decimal}
use Rattle.std.specs.Option.{option_or}
use Rattle.zio_types.specs.declared.request.Prio.{Prio}
use Rattle.zio_types.specs.declared.request.Prio.TheVariants.{SyncRead, SyncWrite, AsyncRead, AsyncWrite}
use Rattle.zio_blkptr.specs.declared.pointer.SumKind.{SumKind}
use Rattle.zio_blkptr.specs.declared.pointer.SumKind.TheVariants.{Fletcher4, Sha256}
use Rattle.zio_script.specs.declared.script.Body.TheVariants.{Seq}
use Rattle.zio_script.specs.declared.script.Work.{Work}
use Rattle.zio_script.specs.declared.script.Work.TheVariants.{Read, Write, Free}
use Rattle.zio_gen.specs.Generated.{prio_word, sum_word}
use Rattle.zio_script.specs.Grammar.{after_words, script_with}
use Rattle.zio_script.specs.Lines.{NewRequest, ReadShape, RequestLine, RequestShape, ScriptLine, SeqShape, Shape, WriteShape, FreeShape, line_of, named_shape, request_shape, shape_of}
use Rattle.zio_script.specs.Whys.{Before, least_why, whys_of}
use Rattle.zio_script.specs.Words.{Word, is_skipped}
use Rattle.zio_gen.proofs.NumeralLemmas.{begins_low, low_decimal, no_comment, no_word, number_decimal}

-- a line without a fault
pub after_line_of : (before : Before) (words : List Word) (shape : Shape) (line : ScriptLine) → is_skipped words ≡ false → shape_of words ≡ Some shape
    → line_of shape ≡ Some line → least_why (whys_of before line) ≡ None → after_words before words ≡ Ok (script_with before.script line)
after_line_of before words shape line told shape_is line_is none = rw (told, shape_is, line_is, none) refl

-- a request under no other
abbrev pub root_asked : ℕ → Work → Option Bool → NewRequest
root_asked n work flag = record { number = n; work = work; under = None; flag = flag }

no_name : (word : Word) (words : List Word) → begins_low word ≡ true → named_shape (word ∷ words) ≡ None
no_name word words low =
    rw (
      no_word 102 (codes "ailmode") word (omega arith) low,
      no_word 116 (codes "op") word (omega arith) low,
      no_word 102 (codes "ault") word (omega arith) low,
      no_word 103 (codes "o") word (omega arith) low,
      no_word 99 (codes "lear") word (omega arith) low,
    ) refl

-- a line that a number begins is a request
request_there : (word : Word) (words : List Word) → begins_low word ≡ true → shape_of (word ∷ words) ≡ request_shape (word ∷ words)
request_there word words low = ap (λ (shape : Option Shape). option_or shape (request_shape (word ∷ words))) (no_name word words low)

-- ---- writes

abbrev pub sum_for : Bool → SumKind
sum_for true = Sha256
sum_for false = Fletcher4

abbrev pub write_prio : Bool → Prio
write_prio true = SyncWrite
write_prio false = AsyncWrite

abbrev pub write_behind : Word → Bool → Word → Bool → Word → Word → List Word
write_behind name long copies sync state len =
    codes "write" ∷ name ∷ sum_word long ∷ copies ∷ prio_word sync ∷ codes "seq" ∷ state ∷ len ∷ []

write_shape : (n name copies state len : Word) (long sync : Bool)
    → request_shape (n ∷ write_behind name long copies sync state len)
    ≡ Some (RequestShape n (WriteShape name (sum_for long) copies (write_prio sync) (SeqShape state len)) (record { under = None; flag = None }))
write_shape n name copies state len true true = refl
write_shape n name copies state len true false = refl
write_shape n name copies state len false true = refl
write_shape n name copies state len false false = refl

pub write_makes : (before : Before) (n copies state len : ℕ) (name : Word) (long sync : Bool) → n < 2 ^ 64 → copies < 2 ^ 64 → state < 2 ^ 64 → len < 2 ^ 64
    → least_why (whys_of before (RequestLine (root_asked n (Write name (sum_for long) copies (write_prio sync) (Seq state len)) None))) ≡ None
    → after_words before (decimal n ∷ write_behind name long (decimal copies) sync (decimal state) (decimal len))
    ≡ Ok (script_with before.script (RequestLine (root_asked n (Write name (sum_for long) copies (write_prio sync) (Seq state len)) None)))
write_makes before n copies state len name long sync n_fits copies_fits state_fits len_fits none =
    after_line_of before (decimal n ∷ write_behind name long (decimal copies) sync (decimal state) (decimal len))
    (RequestShape (decimal n) (WriteShape name (sum_for long) (decimal copies) (write_prio sync) (SeqShape (decimal state) (decimal len))) (record { under = None; flag = None }))
    (RequestLine (root_asked n (Write name (sum_for long) copies (write_prio sync) (Seq state len)) None))
    (no_comment (decimal n) (low_decimal n n_fits))
    (request_there (decimal n) (write_behind name long (decimal copies) sync (decimal state) (decimal len)) (low_decimal n n_fits)
    ∙ write_shape (decimal n) name (decimal copies) (decimal state) (decimal len) long sync)
    (rw (number_decimal n n_fits, number_decimal copies copies_fits, number_decimal state state_fits, number_decimal len len_fits) refl)
    none

-- ---- reads

abbrev pub read_prio : Bool → Prio
read_prio true = SyncRead
read_prio false = AsyncRead

abbrev pub read_behind : Word → Bool → List Word
read_behind name sync = codes "read" ∷ name ∷ prio_word sync ∷ codes "must" ∷ []

read_shape : (n name : Word) (sync : Bool)
    → request_shape (n ∷ read_behind name sync) ≡ Some (RequestShape n (ReadShape name (read_prio sync)) (record { under = None; flag = Some false }))
read_shape n name true = refl
read_shape n name false = refl

pub read_makes : (before : Before) (n : ℕ) (name : Word) (sync : Bool) → n < 2 ^ 64
    → least_why (whys_of before (RequestLine (root_asked n (Read name (read_prio sync)) (Some false)))) ≡ None
    → after_words before (decimal n ∷ read_behind name sync) ≡ Ok (script_with before.script (RequestLine (root_asked n (Read name (read_prio sync)) (Some false))))
read_makes before n name sync n_fits none =
    after_line_of before (decimal n ∷ read_behind name sync)
    (RequestShape (decimal n) (ReadShape name (read_prio sync)) (record { under = None; flag = Some false }))
    (RequestLine (root_asked n (Read name (read_prio sync)) (Some false)))
    (no_comment (decimal n) (low_decimal n n_fits))
    (request_there (decimal n) (read_behind name sync) (low_decimal n n_fits) ∙ read_shape (decimal n) name sync)
    (rw (number_decimal n n_fits) refl)
    none

-- ---- frees

abbrev pub free_behind : Word → List Word
free_behind name = codes "free" ∷ name ∷ codes "must" ∷ []

free_shape : (n name : Word) → request_shape (n ∷ free_behind name) ≡ Some (RequestShape n (FreeShape name) (record { under = None; flag = Some false }))
free_shape n name = refl

pub free_makes : (before : Before) (n : ℕ) (name : Word) → n < 2 ^ 64
    → least_why (whys_of before (RequestLine (root_asked n (Free name) (Some false)))) ≡ None
    → after_words before (decimal n ∷ free_behind name) ≡ Ok (script_with before.script (RequestLine (root_asked n (Free name) (Some false))))
free_makes before n name n_fits none =
    after_line_of before (decimal n ∷ free_behind name)
    (RequestShape (decimal n) (FreeShape name) (record { under = None; flag = Some false }))
    (RequestLine (root_asked n (Free name) (Some false)))
    (no_comment (decimal n) (low_decimal n n_fits))
    (request_there (decimal n) (free_behind name) (low_decimal n n_fits) ∙ free_shape (decimal n) name)
    (rw (number_decimal n n_fits) refl)
    none
