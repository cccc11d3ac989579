use Rattle.std.proofs.Common.{◌≡◌, List, map, ap, ◌∙◌, arith, Bor, ℕ}
use Rattle.std.proofs.lemmas.Result.{IfErr-weaker, IfOk-weaker}
use Rattle.zio_script.specs.Builders.{IsReason}
use Rattle.zio_script.specs.Builders.{IsEnd, IsEndWhy}
use Rattle.zio_script.specs.Grammar.{IsScriptOf}
use Rattle.zio_script.specs.Words.{words_of}
use Rattle.zio_script.proofs.ReadLemmas.{read_fault, read_fault_end, read_more, read_script_end}
use Rattle.zio_script.proofs.read.read_script.Goals as goal

pub returns-in-Err-clause-fault : goal.returns-in-Err-clause-fault
returns-in-Err-clause-fault c =
    let split : map (λ (w : Bor (List ℕ)). w.now) c.deref.result.now ≡ words_of c.in-Some.first.now
    = ap (λ (ws : List (Bor (List ℕ))). map (λ (w : Bor (List ℕ)). w.now) ws) c.deref.ensures.value ∙ c.in_ok-split_words.ensures in
    rw c.at-in-Err.ensures
    (read_fault c.args.bytes.now c.loop-first.rest.now c.in-Some.behind.now c.in-Some.first.now (map (λ (w : Bor (List ℕ)). w.now) c.deref.result.now) c.loop-first.line
    c.loop-first.builder c.in-Err.refusal (omega arith) c.loop-first.invariant c.in-Some.ensures.line split c.in-Err.ensures.why)

pub loop-first-preserved : goal.loop-first-preserved
loop-first-preserved c =
    let split : map (λ (w : Bor (List ℕ)). w.now) c.deref.result.now ≡ words_of c.in-Some.first.now
    = ap (λ (ws : List (Bor (List ℕ))). map (λ (w : Bor (List ℕ)). w.now) ws) c.deref.ensures.value ∙ c.in_ok-split_words.ensures in
    read_more c.args.bytes.now c.loop-first.rest.now c.in-Some.behind.now c.in-Some.first.now (map (λ (w : Bor (List ℕ)). w.now) c.deref.result.now) c.loop-first.line
    c.loop-first.builder c.add_words.new.self c.loop-first.invariant c.in-Some.ensures.line c.in-Some.ensures.shorter split
    c.in_default-add_words.ensures.kept c.in_default-add_words.ensures.added

pub returns-clause-script : goal.returns-clause-script
returns-clause-script c =
    IfOk-weaker c.finish.result (IsEnd c.loop-first.builder c.loop-first.line) (IsScriptOf c.args.bytes.now)
    (λ script ends. read_script_end c.args.bytes.now c.loop-first.rest.now c.loop-first.line c.loop-first.builder script (omega arith) c.loop-first.invariant c.in_default.ensures.line ends)
    c.finish.ensures.script

pub returns-clause-fault : goal.returns-clause-fault
returns-clause-fault c =
    IfErr-weaker c.finish.result (IsEndWhy c.loop-first.builder c.loop-first.line) (IsReason c.args.bytes.now)
    (λ error why. read_fault_end c.args.bytes.now c.loop-first.rest.now c.loop-first.line c.loop-first.builder error (omega arith) c.loop-first.invariant c.in_default.ensures.line why)
    c.finish.ensures.fault
