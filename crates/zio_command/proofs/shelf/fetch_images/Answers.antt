use Rattle.std.proofs.Common.{◌≡◌, ◌≤◌, [], ℕ, suc, Err, List, length, map, take, sym, ap, ◌∙◌, subst, arith}
use Rattle.std.proofs.lemmas.List.{take_all}
use Rattle.std.specs.List.{AllByRecursion}
use Rattle.zio_cksum.proofs.AllLemmas.{all_take}
use Rattle.zio_outside.specs.Outside.{counted}
use Rattle.zio_command.specs.Outcomes.{HasLawfulSize, counted_times}
use Rattle.zio_command.specs.Shelves.{AreFetched, IsFirstUnlawful, added}
use Rattle.zio_command.specs.declared.shelf.ImagesFault.TheVariants.{Size}
use Rattle.zio_command.proofs.ShelfLemmas.{AreNames-take, AreOut-fetched, StaysHome-after_trips, by_fault, counted_times-first, lawful-all}
use Rattle.zio_command.proofs.shelf.fetch_images.Goals as goal

pub give_back_images-requires : goal.give_back_images-requires
give_back_images-requires g c = record {
  home = λ still.
      (
      let tells = c.fetch_each.ensures.tells.1 still in
      let news = c.fetch_each.new.disks.items in
      let z : c.reserve.new.self.items ≡ [] = c.reserve.ensures.items ∙ c.new-disks.ensures.items in
      let home = g.H.Disk.Disk.home in
      let image = g.H.Disk.Disk.image in
      let names = c.args.names.now in
      let old = g.H.Shelf.image c.args.shelf.now in
      let mid = g.H.Shelf.image c.fetch_each.new.shelf in
      let old_out = g.H.Shelf.out c.args.shelf.now in
      let mid_out = g.H.Shelf.out c.fetch_each.new.shelf in
      let fetched : AreFetched home image (take (length news) names) news old mid old_out mid_out =
      subst (λ ds. AreFetched home image (take (length (added ds news)) names) (added ds news) old mid old_out mid_out) z (c.fetch_each.ensures.told tells) in
      let are = AreOut-fetched home image (take (length news) names) news old mid old_out mid_out
      (AreNames-take (length news) names c.requires.names.names) fetched in
      (take (length news) names, fetched.images, are));
}

pub returns-in-Ok-clause-told : goal.returns-in-Ok-clause-told
returns-in-Ok-clause-told g c tells =
    let news = c.fetch_each.new.disks.items in
    let z : c.reserve.new.self.items ≡ [] = c.reserve.ensures.items ∙ c.new-disks.ensures.items in
    let home = g.H.Disk.Disk.home in
    let image = g.H.Disk.Disk.image in
    let names = c.args.names.now in
    let old = g.H.Shelf.image c.args.shelf.now in
    let mid = g.H.Shelf.image c.fetch_each.new.shelf in
    let old_out = g.H.Shelf.out c.args.shelf.now in
    let mid_out = g.H.Shelf.out c.fetch_each.new.shelf in
    let fetched : AreFetched home image (take (length news) names) news old mid old_out mid_out =
    subst (λ ds. AreFetched home image (take (length (added ds news)) names) (added ds news) old mid old_out mid_out) z (c.fetch_each.ensures.told tells) in
    let all : length news ≡ length names =
    subst (λ ds. length (added ds news) ≡ length names) z c.in-Ok.ensures.all in
    let most : length names ≤ length news = omega arith in
    subst (λ (ns : List (List ℕ)). AreFetched home image ns news old mid old_out mid_out) (take_all (length news) names most) fetched

pub returns-in-Ok-clause-lawful_told : goal.returns-in-Ok-clause-lawful_told
returns-in-Ok-clause-lawful_told g c images tells told =
    let news = c.fetch_each.new.disks.items in
    let z : c.reserve.new.self.items ≡ [] = c.reserve.ensures.items ∙ c.new-disks.ensures.items in
    let names = c.args.names.now in
    let all : length (added c.reserve.new.self.items news) ≡ length names = c.in-Ok.ensures.all in
    lawful-all (g.H.Shelf.image c.args.shelf.now) names images told
    (subst (λ (n : ℕ). AllByRecursion HasLawfulSize (take n (map (length {A = ℕ}) images))) all (c.fetch_each.ensures.lawful_told images tells told))

pub returns-in-Err-clause-unlawful_told : goal.returns-in-Err-clause-unlawful_told
returns-in-Err-clause-unlawful_told g c leaf err images tells told =
    let news = c.fetch_each.new.disks.items in
    let z : c.reserve.new.self.items ≡ [] = c.reserve.ensures.items ∙ c.new-disks.ensures.items in
    let is : c.fetch_each.result ≡ Err (Size leaf) = (let a = c.in-Err.is in let b = err in cc) in
    let number : leaf ≡ length news = (c.fetch_each.ensures.unlawful leaf is).1 in
    let first : IsFirstUnlawful (map (length {A = ℕ}) images) (length news) =
    subst (λ ds. IsFirstUnlawful (map (length {A = ℕ}) images) (length (added ds news))) z (c.fetch_each.ensures.unlawful_told leaf is images tells told) in
    subst (λ (n : ℕ). IsFirstUnlawful (map (length {A = ℕ}) images) n) (sym number) first

pub returns-in-Err-clause-back : goal.returns-in-Err-clause-back
returns-in-Err-clause-back g c =
    let news = c.fetch_each.new.disks.items in
    let z : c.reserve.new.self.items ≡ [] = c.reserve.ensures.items ∙ c.new-disks.ensures.items in
    let before = g.H.Shelf.fetches c.args.shelf.now in
    let after = g.H.Shelf.fetches c.fetch_each.new.shelf in
    let sent = g.H.Shelf.returns c.args.shelf.now in
    let back = c.give_back_images.ensures.returns in
    let stays = c.give_back_images.ensures.fetches in
    by_fault c.fetch_each.result c.in-Err.fault c.in-Err.is
    (λ leaf is.
    (let p = c.fetch_each.ensures.failed leaf is in
    record {
      times = length news;
      fetched = stays ∙ subst (λ ds. after ≡ counted_times (length (added ds news)) before) z p.4;
      returned = back ∙ ap (λ (n : ℕ). counted_times (length news) n) p.3;
    }))
    (λ leaf is.
    (let p = c.fetch_each.ensures.unlawful leaf is in
    record {
      times = suc (length news);
      fetched = stays ∙ subst (λ ds. after ≡ counted (counted_times (length (added ds news)) before)) z p.4;
      returned = back ∙ (ap (λ (n : ℕ). counted_times (length news) n) p.3 ∙ counted_times-first (length news) sent);
    }))
    (λ is.
    (let p = c.fetch_each.ensures.memory is in
    record {
      times = length news;
      fetched = stays ∙ subst (λ ds. after ≡ counted_times (length (added ds news)) before) z p.2;
      returned = back ∙ ap (λ (n : ℕ). counted_times (length news) n) p.1;
    }))

pub returns-in-Err-clause-stays : goal.returns-in-Err-clause-stays
returns-in-Err-clause-stays g c tells =
    let news = c.fetch_each.new.disks.items in
    let z : c.reserve.new.self.items ≡ [] = c.reserve.ensures.items ∙ c.new-disks.ensures.items in
    let home = g.H.Disk.Disk.home in
    let image = g.H.Disk.Disk.image in
    let names = c.args.names.now in
    let old = g.H.Shelf.image c.args.shelf.now in
    let mid = g.H.Shelf.image c.fetch_each.new.shelf in
    let old_out = g.H.Shelf.out c.args.shelf.now in
    let mid_out = g.H.Shelf.out c.fetch_each.new.shelf in
    let fetched : AreFetched home image (take (length news) names) news old mid old_out mid_out =
    subst (λ ds. AreFetched home image (take (length (added ds news)) names) (added ds news) old mid old_out mid_out) z (c.fetch_each.ensures.told tells) in
    let are = AreOut-fetched home image (take (length news) names) news old mid old_out mid_out
    (AreNames-take (length news) names c.requires.names.names) fetched in
    let new = g.H.Shelf.image c.give_back_images.new.shelf in
    let new_out = g.H.Shelf.out c.give_back_images.new.shelf in
    let still = c.fetch_each.ensures.tells.0 tells in
    let back = c.give_back_images.ensures.home still (take (length news) names) fetched.images are in
    StaysHome-after_trips (take (length news) names) fetched.images old mid new old_out mid_out new_out fetched.gone back fetched.before
    (g.met.H.Shelf.one_image c.args.shelf.now) (g.met.H.Shelf.one_image c.give_back_images.new.shelf)
    (all_take (λ (n : List ℕ). ¬ old_out n) (length news) names (c.requires.home tells))
