use Rattle.std.proofs.Common.{◌≡◌, ◌∷◌, [], ◌++◌, ap, sym, ◌∙◌, refl, true, false, None, ◌||◌, ◌&&◌}
use Rattle.std.proofs.lemmas.Bool.{not-false, not-true}
use Rattle.zio_script.specs.Builders.{asked_of, batch_of, script_of}
use Rattle.zio_script.specs.Keys.{AreBegun}
use Rattle.zio_script.specs.OpenBatches.{is_clash, is_full_at, marks_after, must_at, new_mark}
use Rattle.zio_script.specs.Requests.{kind_of}
use Rattle.zio_script.specs.Whys.{is_claim, least_why, request_whys, says_canfail, shares_with_claim}
use Rattle.zio_script.proofs.ListLemmas.{or_left_false}
use Rattle.zio_script.proofs.RequestLemmas.{AreNamesOf, batch_more, kept_request, named_next, names_more, whys_are}
use Rattle.zio_script.proofs.builder.Builder.add_named.Goals as goal

pub returns-then-not-branch-clause-why : goal.returns-then-not-branch-clause-why
returns-then-not-branch-clause-why c =
    let clashed : is_clash c.args.self.now.batch.names c.args.self.now.apart c.args.request.work ≡ true
    = not-false _ (sym c.in_ok-insert_name.ensures.added ∙ c.if-not-branch.true) in
    whys_are c.args.self.now c.args.request c.args.flag c.args.stand c.args.size c.requires.kept c.requires.named ∙ rw clashed refl

pub returns-then-is_wrong-clause-why : goal.returns-then-is_wrong-clause-why
returns-then-is_wrong-clause-why c =
    let free : is_clash c.args.self.now.batch.names c.args.self.now.apart c.args.request.work ≡ false
    = not-true _ (sym c.in_ok-insert_name.ensures.added ∙ c.if-not-branch.false) in
    let wrong : (says_canfail c.args.flag && must_at c.args.self.now.batch c.args.stand) ≡ true = sym c.if-is_wrong.ensures in
    whys_are c.args.self.now c.args.request c.args.flag c.args.stand c.args.size c.requires.kept c.requires.named ∙ rw (free, wrong) refl

pub returns-then-is_lost-clause-why : goal.returns-then-is_lost-clause-why
returns-then-is_lost-clause-why c =
    let free : is_clash c.args.self.now.batch.names c.args.self.now.apart c.args.request.work ≡ false
    = not-true _ (sym c.in_ok-insert_name.ensures.added ∙ c.if-not-branch.false) in
    let right : (says_canfail c.args.flag && must_at c.args.self.now.batch c.args.stand) ≡ false = sym c.if-is_wrong.ensures in
    let lost : (is_full_at c.args.self.now.batch (kind_of c.args.request.work) c.args.stand || shares_with_claim (batch_of c.args.self.now) (kind_of c.args.request.work)) ≡ true
    = ap (λ kind. is_full_at c.args.self.now.batch kind c.args.stand || shares_with_claim (batch_of c.args.self.now) kind) (sym c.kind-kind.ensures) ∙ sym c.if-is_lost.ensures in
    whys_are c.args.self.now c.args.request c.args.flag c.args.stand c.args.size c.requires.kept c.requires.named ∙ rw (free, right, lost) refl

no_why : (c : goal.After-self-4-1) → least_why (request_whys (script_of c.args.self.now) (batch_of c.args.self.now) (asked_of c.args.request c.args.flag)) ≡ None
no_why c =
    let free : is_clash c.args.self.now.batch.names c.args.self.now.apart c.args.request.work ≡ false
    = not-true _ (sym c.in_ok-insert_name.ensures.added ∙ c.if-not-branch.false) in
    let right : (says_canfail c.args.flag && must_at c.args.self.now.batch c.args.stand) ≡ false = sym c.if-is_wrong.ensures in
    let good : (is_full_at c.args.self.now.batch (kind_of c.args.request.work) c.args.stand || shares_with_claim (batch_of c.args.self.now) (kind_of c.args.request.work)) ≡ false
    = ap (λ kind. is_full_at c.args.self.now.batch kind c.args.stand || shares_with_claim (batch_of c.args.self.now) kind) (sym c.kind-kind.ensures) ∙ sym c.if-is_lost.ensures in
    whys_are c.args.self.now c.args.request c.args.flag c.args.stand c.args.size c.requires.kept c.requires.named ∙ rw (free, right, good) refl

pub returns-clause-kept : goal.returns-clause-kept
returns-clause-kept c =
    let full : is_full_at c.args.self.now.batch (kind_of c.args.request.work) c.args.stand ≡ false
    = or_left_false _ (shares_with_claim (batch_of c.args.self.now) (kind_of c.args.request.work))
    (ap (λ kind. is_full_at c.args.self.now.batch kind c.args.stand || shares_with_claim (batch_of c.args.self.now) kind) (sym c.kind-kind.ensures) ∙ sym c.if-is_lost.ensures) in
    let marks : c.add.new.self.marks.items ≡ marks_after c.args.self.now.batch.marks.items c.args.stand (kind_of c.args.request.work) ++ new_mark c.args.self.now.batch c.args.request c.args.stand ∷ []
    = c.in_ok-add.ensures.marks ∙ (rw (c.in_ok-insert_name.ensures.marks, c.mark-mark.ensures) refl) in
    let claim : (c.add.new.self.has_claim || c.is_claim.result) ≡ (c.args.self.now.batch.has_claim || is_claim (kind_of c.args.request.work))
    = rw (c.in_ok-add.ensures.claim, c.in_ok-insert_name.ensures.claim, c.is_claim.ensures, c.kind-kind.ensures) refl in
    let begun : AreBegun c.add.new.self.names = rw c.in_ok-add.ensures.names c.in_ok-insert_name.ensures.begun in
    let names : AreNamesOf c.args.self.now.apart (batch_of c.args.self.now ++ c.args.request ∷ []) c.add.new.self.names
    = rw c.in_ok-add.ensures.names (names_more c.args.self.now.apart (batch_of c.args.self.now) c.args.self.now.batch c.args.request c.insert_name.new.self.names c.requires.named.named c.requires.kept.batch
    (c.in_ok-insert_name.ensures.names c.if-not-branch.false)) in
    kept_request c.args.self.now c.args.request c.args.flag c.args.stand c.args.size c.push.new.self _ c.requires.kept c.requires.named (no_why c) c.in_ok-push.ensures.ok
    (batch_more c.args.self.now c.args.request c.args.flag c.args.stand c.args.size
    (record { marks = c.add.new.self.marks; size = c.args.size; has_claim = c.add.new.self.has_claim || c.is_claim.result; names = c.add.new.self.names })
    c.requires.kept c.requires.named full marks refl claim begun names)

pub returns-clause-added : goal.returns-clause-added
returns-clause-added c = record {
  none = no_why c;
  next = named_next c.args.self.now c.args.request c.args.flag c.args.stand c.args.size c.push.new.self c.args.self.now.batch c.requires.named c.in_ok-push.ensures.ok;
}
