use Rattle.std.proofs.Common.{◌≡◌, Ok, ap, arith, length, refl, subst, sym, ◌∙◌, inl}
use Rattle.zio_script.specs.Requests.{kind_of}
use Rattle.zio_stages.specs.KidTrees.{KidsHeld}
use Rattle.zio_masks.specs.declared.stage.Stage.TheVariants.{ChecksumGenerate, WriteCompress}
use Rattle.zio_stages.specs.RequestNodes.{IsRequestNode}
use Rattle.zio_stages.specs.declared.request_node.RequestNode.{RequestNode}
use Rattle.zio_stages.specs.declared.request_write.Content.{Content}
use Rattle.zio_stages.specs.declared.request_write.Content.TheVariants.{Set, Wait}
use Rattle.zio_nodes.specs.RequestAts.{IsRequestOver, RequestStands}
use Rattle.zio_nodes.specs.Told.{is_told}
use Rattle.zio_nodes.specs.declared.request_at.RequestAt.{RequestAt}
use Rattle.zio_nodes.proofs.KidMarks.{over_own}
use Rattle.zio_nodes.proofs.RequestMoves.{request_goes, request_waits}
use Rattle.zio_nodes.proofs.StageLemmas.{write_set}
use Rattle.zio_nodes.proofs.WriteLemmas.{all_out, due_unstored, is_a_write, none_gave, same_gave, stands_in, stands_to, write_less, written_unstored}
use Rattle.zio_nodes.proofs.StageLeads.{write_leads}
use Rattle.zio_types.specs.declared.request.Phase.TheVariants.{Ready}
use Rattle.zio_nodes.proofs.StageAllows.{stalls_so}
use Rattle.zio_nodes.specs.StageMoves.{stalls_at}
use Rattle.zio_nodes.proofs.request_at.RequestAt.write_compress.Goals as goal

pub write_compress-requires-clause-due : goal.write_compress-requires-clause-due
write_compress-requires-clause-due c =
    let at = c.args.self.now in
    stands_in c.requires.over.0 at.stage WriteCompress at.is_due at.node c.requires.kind c.requires.stage tt c.requires.over.1.stands

pub write_compress-requires-clause-handed : goal.write_compress-requires-clause-handed
write_compress-requires-clause-handed c =
    let at = c.args.self.now in
    all_out c.requires.over.0 at.stage WriteCompress at.is_due at.node c.requires.stage tt c.requires.over.1.stands

pub write_compress-requires-clause-sound : goal.write_compress-requires-clause-sound
write_compress-requires-clause-sound c = c.requires.over.1.over.sound.write (is_a_write c.args.self.now.node.waiting.request.work c.requires.kind)

pub write_compress-requires-clause-valid : goal.write_compress-requires-clause-valid
write_compress-requires-clause-valid c = c.requires.over.1.over.pointers

pub returns-in-Ok-Wait-clause-moves : goal.returns-in-Ok-Wait-clause-moves
returns-in-Ok-Wait-clause-moves c = λ tops t st now.
    let ok : c.write_compress.result ≡ Ok (Wait c.in-Ok-Wait.kind) = c.in-Ok-Wait.is ∙ ap (λ (x : Content). Ok x) c.in-Ok-Wait.field-0-is in
    let same = c.write_compress.ensures.waits c.in-Ok-Wait.kind ok in
    request_waits t st c.args.self.now _ c.in-Ok-Wait.kind _ (subst (λ (r : RequestNode). IsRequestNode t r st) (sym same) now.is)
    refl (same_gave c.args.self.now.node c.write_compress.new.self same) (c.write_compress.ensures.wait c.in-Ok-Wait.kind ok t st now.seated now.is)

pub returns-in-Ok-Wait-clause-over : goal.returns-in-Ok-Wait-clause-over
returns-in-Ok-Wait-clause-over c = λ tops h.
    let ok : c.write_compress.result ≡ Ok (Wait c.in-Ok-Wait.kind) = c.in-Ok-Wait.is ∙ ap (λ (x : Content). Ok x) c.in-Ok-Wait.field-0-is in
    let same = c.write_compress.ensures.waits c.in-Ok-Wait.kind ok in
    let at = c.args.self.now in
    record {
      over = subst (IsRequestOver tops) (sym same) h.over;
      stands = subst (RequestStands tops at.stage at.is_due) (sym same) h.stands;
    }

pub returns-in-Ok-Set-clause-moves : goal.returns-in-Ok-Set-clause-moves
returns-in-Ok-Set-clause-moves c = λ tops t st now.
    let ok : c.write_compress.result ≡ Ok Set = c.in-Ok-Set.is ∙ ap (λ (x : Content). Ok x) c.in-Ok-Set.field-0-is in
    let at = c.args.self.now in
    let new = c.write_compress.new.self in
    let due = stands_in c.requires.over.0 at.stage WriteCompress at.is_due at.node c.requires.kind c.requires.stage tt c.requires.over.1.stands in
    let kind = ap (λ (r : RequestNode). kind_of r.waiting.request.work) c.write_compress.ensures.rest ∙ c.requires.kind in
    request_goes t st at _ (c.write_compress.ensures.set ok t st now.is)
    (ap is_told (write_set c.next-self.result c.next-self.ensures) ∙ sym (ap is_told c.requires.stage))
    (none_gave new kind (written_unstored _ new.own (c.write_compress.ensures.begun ok)) ∙ sym (none_gave at.node c.requires.kind (due_unstored at.node.own due)))

pub returns-in-Ok-Set-clause-over : goal.returns-in-Ok-Set-clause-over
returns-in-Ok-Set-clause-over c = λ tops h.
    let ok : c.write_compress.result ≡ Ok Set = c.in-Ok-Set.is ∙ ap (λ (x : Content). Ok x) c.in-Ok-Set.field-0-is in
    let at = c.args.self.now in
    let new = c.write_compress.new.self in
    let rest = c.write_compress.ensures.rest in
    let kind = ap (λ (r : RequestNode). kind_of r.waiting.request.work) rest ∙ c.requires.kind in
    let out = all_out tops at.stage WriteCompress at.is_due at.node c.requires.stage tt h.stands in
    record {
      over = over_own tops at.node new at.node.family rest h.over (c.write_compress.ensures.over tops h.over.own);
      stands = stands_to tops c.next-self.result ChecksumGenerate at.is_due new kind (write_set c.next-self.result c.next-self.ensures) tt
          (subst (λ (k : KidsHeld). k.kids.handed ≡ length k.kids.kids) (sym (ap (λ (r : RequestNode). r.kids) rest)) out) (c.write_compress.ensures.begun ok);
    }

pub returns-in-Ok-Set-clause-left : goal.returns-in-Ok-Set-clause-left
returns-in-Ok-Set-clause-left c =
    let at = c.args.self.now in
    let new = c.write_compress.new.self in
    let rest = c.write_compress.ensures.rest in
    let after : RequestAt = record { node = new; stage = c.next-self.result; is_due = at.is_due } in
    write_less at after WriteCompress ChecksumGenerate c.requires.kind (ap (λ (r : RequestNode). kind_of r.waiting.request.work) rest ∙ c.requires.kind) c.requires.stage
    (write_set c.next-self.result c.next-self.ensures) tt tt (ap (λ (r : RequestNode). r.kids.due) rest) (omega arith)

pub returns-in-Err-clause-refused : goal.returns-in-Err-clause-refused
returns-in-Err-clause-refused c = λ tops t st now.
    let same = c.in-Err.ensures.err in
    request_goes t st c.args.self.now _ (subst (λ (r : RequestNode). IsRequestNode t r st) (sym same) now.is) refl
    (same_gave c.args.self.now.node c.write_compress.new.self same)

pub returns-in-Ok-Set-clause-stages : goal.returns-in-Ok-Set-clause-stages
returns-in-Ok-Set-clause-stages c = inl (write_leads c.args.self.now WriteCompress c.next-self.result c.requires.kind c.requires.stage c.next-self.ensures)

pub returns-in-Ok-Wait-clause-stages : goal.returns-in-Ok-Wait-clause-stages
returns-in-Ok-Wait-clause-stages c =
    (refl, stalls_so c.args.self.now.stage WriteCompress c.in-Ok-Wait.kind Ready c.requires.stage (ap (λ k. stalls_at WriteCompress k Ready) (c.write_compress.ensures.kind c.in-Ok-Wait.kind (c.in-Ok-Wait.is ∙ ap (λ (x : Content). Ok x) c.in-Ok-Wait.field-0-is))))
