use Rattle.std.proofs.Common.{◌≡◌, true, false, sym, ◌∙◌}
use Rattle.zio_blkptr.specs.Faults.{has_order_fault, has_field_fault, has_size_fault, has_dva_fault}
use Rattle.zio_blkptr.proofs.FaultTests.{first_of_four}
use Rattle.zio_blkptr.proofs.faults.first_fault.Goals as goal

pub returns-then-has_dva_fault : goal.returns-then-has_dva_fault
returns-then-has_dva_fault c =
    let order : has_order_fault c.args.bytes.now ≡ false = sym c.has_order_fault.ensures ∙ c.if-has_order_fault.false in
    let field : has_field_fault c.args.bytes.now ≡ false = sym c.has_field_fault.ensures ∙ c.if-has_field_fault.false in
    let size : has_size_fault c.args.bytes.now ≡ false = sym c.has_size_fault.ensures ∙ c.if-has_size_fault.false in
    let dva : has_dva_fault c.args.bytes.now ≡ true = sym c.has_dva_fault.ensures ∙ c.if-has_dva_fault.true in
    sym (λ j. first_of_four (order j) (field j) (size j) (dva j))

pub returns-else-has_dva_fault : goal.returns-else-has_dva_fault
returns-else-has_dva_fault c =
    let order : has_order_fault c.args.bytes.now ≡ false = sym c.has_order_fault.ensures ∙ c.if-has_order_fault.false in
    let field : has_field_fault c.args.bytes.now ≡ false = sym c.has_field_fault.ensures ∙ c.if-has_field_fault.false in
    let size : has_size_fault c.args.bytes.now ≡ false = sym c.has_size_fault.ensures ∙ c.if-has_size_fault.false in
    let dva : has_dva_fault c.args.bytes.now ≡ false = sym c.has_dva_fault.ensures ∙ c.if-has_dva_fault.false in
    sym (λ j. first_of_four (order j) (field j) (size j) (dva j))
