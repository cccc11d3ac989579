use Rattle.std.proofs.Common.{◌∷◌, ℕ, List, length, sym, ap, ◌∙◌, subst, rules}
use Rattle.zio_cksum.specs.Images.{Images}
use Rattle.zio_command.specs.Outcomes.{counted_times}
use Rattle.zio_command.specs.Shelves.{AreOut, ComeHome, KeptComeHome}
use Rattle.zio_command.proofs.ShelfLemmas.{AreOut-split, AreOut-after, ComeHome-more, counted_times-first}
use Rattle.zio_command.proofs.KeptLemmas.{KeptComeHome-more}
use Rattle.zio_command.proofs.CountLemmas.{raised_more}
use Rattle.zio_command.proofs.shelf.+give_back_rest.Goals as goal

pub returns-in-Some-clause-home : goal.returns-in-Some-clause-home
returns-in-Some-clause-home g t c tells names images are =
    let home = g.H.Disk.Disk.home in
    let image = g.H.Disk.Disk.image in
    let old = g.H.Shelf.image c.args.shelf.now in
    let mid = g.H.Shelf.image c.give_back.new.self in
    let new = g.H.Shelf.image c.give_back_rest.new.shelf in
    let old_out = g.H.Shelf.out c.args.shelf.now in
    let mid_out = g.H.Shelf.out c.give_back.new.self in
    let new_out = g.H.Shelf.out c.give_back_rest.new.shelf in
    let split = AreOut-split home image old_out names images c.in-Some.disk c.next.new.self
    (subst (λ ds. AreOut home image old_out names images ds) c.in-Some.ensures.steps are) in
    let still = c.give_back.ensures.tells.0 tells in
    let first = c.give_back.ensures.home tells split.name split.bytes split.at split.told in
    let behind = AreOut-after home image split.name split.bytes split.rest split.others c.next.new.self old mid old_out mid_out
    split.apart first split.behind in
    let rest = c.give_back_rest.ensures.home still split.rest split.others behind in
    let both = ComeHome-more split.name split.bytes split.rest split.others old mid new old_out mid_out new_out split.apart first rest in
    subst (λ (ns : List (List ℕ)). ComeHome ns images old new old_out new_out) (sym split.names_are)
    (subst (λ (is : Images). ComeHome (split.name ∷ split.rest) is old new old_out new_out) (sym split.images_are) both)

pub returns-in-Some-clause-stable_home : goal.returns-in-Some-clause-stable_home
returns-in-Some-clause-stable_home g t c tells names images are =
    let home = g.H.Disk.Disk.home in
    let image = g.H.Disk.Disk.image in
    let keeps = g.H.Disk.Disk.keeps in
    let old = g.H.Shelf.keeps c.args.shelf.now in
    let mid = g.H.Shelf.keeps c.give_back.new.self in
    let new = g.H.Shelf.keeps c.give_back_rest.new.shelf in
    let old_out = g.H.Shelf.out c.args.shelf.now in
    let mid_out = g.H.Shelf.out c.give_back.new.self in
    let split = AreOut-split home image old_out names images c.in-Some.disk c.next.new.self
    (subst (λ ds. AreOut home image old_out names images ds) c.in-Some.ensures.steps are) in
    let still = c.give_back.ensures.tells.0 tells in
    let came = c.give_back.ensures.home tells split.name split.bytes split.at split.told in
    let behind = AreOut-after home image split.name split.bytes split.rest split.others c.next.new.self
    (g.H.Shelf.image c.args.shelf.now) (g.H.Shelf.image c.give_back.new.self) old_out mid_out split.apart came split.behind in
    let first = c.give_back.ensures.stable_home tells split.name split.at in
    let rest = c.give_back_rest.ensures.stable_home still split.rest split.others behind in
    let both = KeptComeHome-more keeps split.name split.rest c.in-Some.disk c.next.new.self old mid new split.apart first rest in
    subst (λ (ns : List (List ℕ)). KeptComeHome keeps ns c.args.disks old new) (sym split.names_are)
    (subst (λ ds. KeptComeHome keeps (split.name ∷ split.rest) ds old new) (sym c.in-Some.ensures.steps) both)

pub give_back_rest-requires : goal.give_back_rest-requires
give_back_rest-requires g t c κs within = (
  search rules,
  (
    search rules,
    (
      search rules,
      λ still.
          (
          let home = g.H.Disk.Disk.home in
          let image = g.H.Disk.Disk.image in
          let old = g.H.Shelf.image c.args.shelf.now in
          let mid = g.H.Shelf.image c.give_back.new.self in
          let old_out = g.H.Shelf.out c.args.shelf.now in
          let mid_out = g.H.Shelf.out c.give_back.new.self in
          let tells = c.give_back.ensures.tells.1 still in
          let out = c.requires.home tells in
          let split = AreOut-split home image old_out out.0 out.1 c.in-Some.disk c.next.new.self
          (subst (λ ds. AreOut home image old_out out.0 out.1 ds) c.in-Some.ensures.steps out.2) in
          let first = c.give_back.ensures.home tells split.name split.bytes split.at split.told in (
            split.rest,
            split.others,
            AreOut-after home image split.name split.bytes split.rest split.others c.next.new.self old mid old_out mid_out
                split.apart first split.behind,
          )),
    ),
  ),
)

pub returns-in-Some-clause-returns : goal.returns-in-Some-clause-returns
returns-in-Some-clause-returns g t c =
    let before = g.H.Shelf.returns c.args.shelf.now in
    c.give_back_rest.ensures.returns
    ∙ (ap (λ (n : ℕ). counted_times (length c.next.new.self) n) c.give_back.ensures.returns
    ∙ (counted_times-first (length c.next.new.self) before
    ∙ sym (ap (λ ds. counted_times (length ds) before) c.in-Some.ensures.steps)))

pub returns-in-Some-clause-rose : goal.returns-in-Some-clause-rose
returns-in-Some-clause-rose g t c below any =
    raised_more g.H.Disk.Disk.faults_at_fetch g.H.Disk.Disk.faults c.in-Some.disk c.next.new.self c.args.disks
    (g.H.Shelf.disk_faults c.args.shelf.now) (g.H.Shelf.disk_faults c.give_back.new.self) (g.H.Shelf.disk_faults c.give_back_rest.new.shelf)
    c.in-Some.ensures.steps below any c.give_back.ensures.rose c.give_back_rest.ensures.rose
    c.give_back.ensures.kept c.give_back_rest.ensures.kept (g.met.H.Shelf.counts c.give_back_rest.new.shelf).1
