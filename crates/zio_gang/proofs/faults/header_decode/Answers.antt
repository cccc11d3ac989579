use Rattle.std.proofs.Common.{◌≡◌, true, false, Some, None, refl, sym, ◌∙◌, rules, arith}
use Rattle.std.proofs.lemmas.Result.{err_from_is_err_and}
use Rattle.zio_gang.specs.declared.header.HeaderFault.TheVariants.{Magic, Sum, Filler, Member, Sizes}
use Rattle.zio_gang.specs.HeaderFaults.{first_header_fault, has_member_fault}
use Rattle.zio_gang.proofs.HeaderLemmas.{header_from_no_fault, refused, sizes_decide, sizes_fault_is}
use Rattle.zio_gang.proofs.faults.header_decode.Goals as goal

pub returns-then-has_magic_fault-clause-accepted : goal.returns-then-has_magic_fault-clause-accepted
returns-then-has_magic_fault-clause-accepted c =
    refused c.args.place.now c.args.birth c.args.size c.args.bytes.now Magic c.requires.positive c.told-bytes (search rules)

pub returns-then-has_sum_fault-clause-accepted : goal.returns-then-has_sum_fault-clause-accepted
returns-then-has_sum_fault-clause-accepted c =
    refused c.args.place.now c.args.birth c.args.size c.args.bytes.now Sum c.requires.positive c.told-bytes (search rules)

pub returns-then-has_filler_fault-clause-accepted : goal.returns-then-has_filler_fault-clause-accepted
returns-then-has_filler_fault-clause-accepted c =
    refused c.args.place.now c.args.birth c.args.size c.args.bytes.now Filler c.requires.positive c.told-bytes (search rules)

pub returns-in_err-header-clause-accepted : goal.returns-in_err-header-clause-accepted
returns-in_err-header-clause-accepted c =
    let p = err_from_is_err_and c.from_residual.result c.from_residual.ensures.1 in
    let member : has_member_fault c.args.bytes.now ≡ true = c.in_err-header.ensures.0 in
    rw p.1 (refused c.args.place.now c.args.birth c.args.size c.args.bytes.now Member c.requires.positive c.told-bytes (search rules))

pub has_other_sizes-requires-clause-few : goal.has_other_sizes-requires-clause-few
has_other_sizes-requires-clause-few c = c.in_ok-header.ensures.1.most

found : (c : goal.Then-has_other_sizes) → first_header_fault c.args.place.now c.args.birth c.args.size c.args.bytes.now ≡ Some Sizes
found c =
    sizes_decide c.args.place.now c.args.birth c.args.size c.args.bytes.now true
    (sym c.has_magic_fault.ensures ∙ c.if-has_magic_fault.false) (sym c.has_sum_fault.ensures ∙ c.if-has_sum_fault.false)
    (sym c.has_filler_fault.ensures ∙ c.if-has_filler_fault.false) c.in_ok-header.ensures.0
    (
    sizes_fault_is c.args.size c.args.bytes.now c.in_ok-header.header c.in_ok-header.ensures.1
    ∙ sym c.has_other_sizes.ensures ∙ c.if-has_other_sizes.true
    )

pub returns-then-has_other_sizes-clause-fault : goal.returns-then-has_other_sizes-clause-fault
returns-then-has_other_sizes-clause-fault c = rw (found c)

pub returns-then-has_other_sizes-clause-accepted : goal.returns-then-has_other_sizes-clause-accepted
returns-then-has_other_sizes-clause-accepted c =
    refused c.args.place.now c.args.birth c.args.size c.args.bytes.now Sizes c.requires.positive c.told-bytes (found c)

none : (c : goal.Else-has_other_sizes) → first_header_fault c.args.place.now c.args.birth c.args.size c.args.bytes.now ≡ None
none c =
    sizes_decide c.args.place.now c.args.birth c.args.size c.args.bytes.now false
    (sym c.has_magic_fault.ensures ∙ c.if-has_magic_fault.false) (sym c.has_sum_fault.ensures ∙ c.if-has_sum_fault.false)
    (sym c.has_filler_fault.ensures ∙ c.if-has_filler_fault.false) c.in_ok-header.ensures.0
    (
    sizes_fault_is c.args.size c.args.bytes.now c.in_ok-header.header c.in_ok-header.ensures.1
    ∙ sym c.has_other_sizes.ensures ∙ c.if-has_other_sizes.false
    )

pub returns-clause-fault : goal.returns-clause-fault
returns-clause-fault c = rw (none c)

pub returns-clause-accepted : goal.returns-clause-accepted
returns-clause-accepted c =
    (λ _. header_from_no_fault c.args.place.now c.args.birth c.args.size c.args.bytes.now (omega arith) (none c), λ _. refl)
