use Rattle.std.proofs.Common.{◌≡◌, ◌<◌, length, ap, sym, ◌∙◌, rules, arith, true}
use Rattle.std.proofs.lemmas.List.{length-map}
use Rattle.zio_script.specs.declared.limits.TheConstants.{BATCH_LEN_MAX}
use Rattle.zio_script.specs.Builders.{batch_of}
use Rattle.zio_script.specs.NewLines.{request_as, work_as}
use Rattle.zio_script.specs.OpenBatches.{mark_in}
use Rattle.zio_script.specs.Requests.{kind_of}
use Rattle.zio_script.specs.Whys.{fits_asked, is_write, request_in}
use Rattle.zio_script.proofs.BatchSizeLemmas.{size_is, sizes_within, stand_within}
use Rattle.zio_script.proofs.RequestLemmas.{fits_parts, limited_is}
use Rattle.zio_script.proofs.builder.Builder.size_with.Goals as goal

pub size_with-requires-clause-stand : goal.size_with-requires-clause-stand
size_with-requires-clause-stand c =
    stand_within _ _ (batch_of c.args.self.now) c.args.self.now.batch c.args.asked.now.under c.args.stand c.requires.kept.batch c.requires.kept.orderly.last c.requires.stand

pub returns : goal.returns
returns c =
    let fits : fits_asked (request_as c.args.asked.now) ≡ true = search rules in
    let marks : length c.args.self.now.batch.marks.items ≡ length (batch_of c.args.self.now)
    = ap length c.requires.kept.batch.marks ∙ length-map (batch_of c.args.self.now) (mark_in (batch_of c.args.self.now)) in
    let few : length (batch_of c.args.self.now) < BATCH_LEN_MAX = omega arith in
    let kind : is_write (kind_of (work_as c.args.asked.now.work)) ≡ c.is_write-is_write.result = sym (c.is_write-is_write.ensures ∙ ap is_write c.kind_of.ensures) in
    rw (c.size_with.ensures, c.work_len-len.ensures)
    (limited_is (batch_of c.args.self.now) (request_as c.args.asked.now) _ fits few
    (size_is _ (batch_of c.args.self.now) c.args.self.now.batch (request_in (batch_of c.args.self.now) (request_as c.args.asked.now)) c.args.stand c.is_write-is_write.result
    kind c.requires.kept.batch (sizes_within _ (batch_of c.args.self.now) c.requires.kept.orderly.last) (fits_parts (request_as c.args.asked.now) fits).2 c.requires.stand))
