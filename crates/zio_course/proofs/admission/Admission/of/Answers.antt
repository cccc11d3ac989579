use Rattle.std.proofs.Common.{ℕ, List, [], ◌∷◌, eqb, refl, ap, subst}
use Rattle.std.specs.Map.{lookup}
use Rattle.zio_script.specs.declared.script.Item.{Item}
use Rattle.zio_script.specs.declared.script.Request.{Request}
use Rattle.zio_script.specs.Requests.{requests_of}
use Rattle.zio_gang.specs.Rounds.{trees_of}
use Rattle.zio_course.specs.Admissions.{IsAdmission, with_line}
use Rattle.zio_course.specs.Names.{is_name_in, is_some_name}
use Rattle.zio_course.proofs.AdmissionLemmas.{IsPart, part_coming, part_next, part_start}
use Rattle.zio_course.proofs.admission.Admission.of.Goals as goal

pub loop-item-init : goal.loop-item-init
loop-item-init c = (
  [],
  record {
    part = part_start c.args.batch.now c.requires.rising;
    noted = record { slots_are = λ n. ap (λ (es : List (ℕ × ℕ)). lookup (eqb n) es) c.new.ensures.empty; rules_are = c.new-2.ensures.items };
  },
)

pub loop-item-preserved : goal.loop-item-preserved
loop-item-preserved c =
    let whole : List (List Request) = trees_of (requests_of c.args.batch.now) in
    let trees : List (List Request) = c.loop-item.invariant.0 in
    let i = c.loop-item.invariant.1 in
    let item : Item = c.in-Some.item.now in
    let more : List Item = c.in-Some.more.now in
    let part : IsPart whole (item ∷ more) trees = subst (λ (rest : List Item). IsPart whole rest trees) c.in-Some.ensures.some i.part in (
      with_line item trees,
      record {
        part = part_next whole item more trees part;
        noted = c.in_ok-add_line.ensures trees (part_coming whole item more trees part) i.noted;
      },
    )

pub returns : goal.returns
returns c =
    let whole : List (List Request) = trees_of (requests_of c.args.batch.now) in
    let trees : List (List Request) = c.loop-item.invariant.0 in
    let i = c.loop-item.invariant.1 in
    let part : IsPart whole [] trees = subst (λ (rest : List Item). IsPart whole rest trees) (c.in_default.ensures.none refl) i.part in
    subst (λ (ts : List (List Request)). IsAdmission c.args.waits (is_name_in c.args.awaited.now) (is_some_name c.args.bound.now) ts c.loop-item.admission.slots.entries c.loop-item.admission.rules.items)
    part.same i.noted
