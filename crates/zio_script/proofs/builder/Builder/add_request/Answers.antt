use Rattle.std.proofs.Common.{◌≡◌, ◌<◌, rules, arith, false}
use Rattle.zio_script.specs.Builders.{batch_of}
use Rattle.zio_script.specs.NewLines.{request_as}
use Rattle.zio_script.specs.Words.{is_empty}
use Rattle.zio_script.proofs.RequestLemmas.{fits_of, named_of}
use Rattle.zio_script.proofs.builder.Builder.add_request.Goals as goal

pub size_with-requires-clause-stand : goal.size_with-requires-clause-stand
size_with-requires-clause-stand c = c.stand-stand.ensures c.args.self.now.apart (batch_of c.args.self.now) c.requires.batch

pub may_fail-canfail-requires-clause-stand : goal.may_fail-canfail-requires-clause-stand
may_fail-canfail-requires-clause-stand c = c.stand-stand.ensures c.args.self.now.apart (batch_of c.args.self.now) c.requires.batch

pub request_of-requires : goal.request_of-requires
request_of-requires c = fits_of (batch_of c.args.self.now) (request_as c.args.asked) c.in-Some.ensures.0

pub add_named-requires-clause-named : goal.add_named-requires-clause-named
add_named-requires-clause-named c =
    let tops : is_empty c.args.self.now.tops ≡ false = search rules in
    let above : c.args.self.now.last < c.args.asked.number = omega arith in
    named_of c.args.self.now (request_as c.args.asked) c.in-Some-request_of.request c.stand-stand.result c.in-Some.size c.may_fail-canfail.result c.requires
    c.in-Some.ensures.0 c.in-Some.ensures.1 tops above c.in-Some-request_of.ensures.0 c.may_fail-canfail.ensures c.in-Some-request_of.ensures.1
    (c.stand-stand.ensures c.args.self.now.apart (batch_of c.args.self.now) c.requires.batch)
