use Rattle.std.proofs.Common.{◌≡◌, ◌≤◌, [], ℕ, List, length, map, string_bytes, take, ◌∙◌, subst, arith}
use Rattle.std.proofs.lemmas.List.{length-map, take_all}
use Rattle.zio_cksum.proofs.AllLemmas.{all_take}
use Rattle.zio_command.specs.Shelves.{AreFetched, added}
use Rattle.zio_command.proofs.ShelfLemmas.{AreNames-take, AreOut-fetched, StaysHome-after_trips}
use Rattle.zio_audit_run.proofs.fetch.fetch_all.Goals as goal

pub give_back_images-requires : goal.give_back_images-requires
give_back_images-requires g c = record {
  home = λ still.
      (
      let tells = c.fetch_each.ensures.tells.1 still in
      let news = c.fetch_each.new.disks.items in
      let z : c.reserve.new.self.items ≡ [] = c.reserve.ensures.items ∙ c.new-disks.ensures.items in
      let home = g.H.Disk.Disk.home in
      let image = g.H.Disk.Disk.image in
      let names = map string_bytes c.args.words.now in
      let old = g.H.Shelf.image c.args.shelf.now in
      let mid = g.H.Shelf.image c.fetch_each.new.shelf in
      let old_out = g.H.Shelf.out c.args.shelf.now in
      let mid_out = g.H.Shelf.out c.fetch_each.new.shelf in
      let fetched : AreFetched home image (take (length news) names) news old mid old_out mid_out =
      subst (λ ds. AreFetched home image (take (length (added ds news)) names) (added ds news) old mid old_out mid_out) z (c.fetch_each.ensures.told tells) in
      let are = AreOut-fetched home image (take (length news) names) news old mid old_out mid_out
      (AreNames-take (length news) names c.requires.names) fetched in
      (take (length news) names, fetched.images, are));
}

pub returns-in-Ok-clause-told : goal.returns-in-Ok-clause-told
returns-in-Ok-clause-told g c tells =
    let news = c.fetch_each.new.disks.items in
    let z : c.reserve.new.self.items ≡ [] = c.reserve.ensures.items ∙ c.new-disks.ensures.items in
    let home = g.H.Disk.Disk.home in
    let image = g.H.Disk.Disk.image in
    let words = c.args.words.now in
    let names = map string_bytes words in
    let old = g.H.Shelf.image c.args.shelf.now in
    let mid = g.H.Shelf.image c.fetch_each.new.shelf in
    let old_out = g.H.Shelf.out c.args.shelf.now in
    let mid_out = g.H.Shelf.out c.fetch_each.new.shelf in
    let fetched : AreFetched home image (take (length news) names) news old mid old_out mid_out =
    subst (λ ds. AreFetched home image (take (length (added ds news)) names) (added ds news) old mid old_out mid_out) z (c.fetch_each.ensures.told tells) in
    let all : length news ≡ length words =
    subst (λ ds. length (added ds news) ≡ length words) z c.in-Ok.ensures.all in
    let count : length names ≡ length words = length-map words string_bytes in
    let most : length names ≤ length news = omega arith in
    subst (λ (ns : List (List ℕ)). AreFetched home image ns news old mid old_out mid_out) (take_all (length news) names most) fetched

pub returns-in-Err-clause-stays : goal.returns-in-Err-clause-stays
returns-in-Err-clause-stays g c tells =
    let news = c.fetch_each.new.disks.items in
    let z : c.reserve.new.self.items ≡ [] = c.reserve.ensures.items ∙ c.new-disks.ensures.items in
    let home = g.H.Disk.Disk.home in
    let image = g.H.Disk.Disk.image in
    let names = map string_bytes c.args.words.now in
    let old = g.H.Shelf.image c.args.shelf.now in
    let mid = g.H.Shelf.image c.fetch_each.new.shelf in
    let old_out = g.H.Shelf.out c.args.shelf.now in
    let mid_out = g.H.Shelf.out c.fetch_each.new.shelf in
    let fetched : AreFetched home image (take (length news) names) news old mid old_out mid_out =
    subst (λ ds. AreFetched home image (take (length (added ds news)) names) (added ds news) old mid old_out mid_out) z (c.fetch_each.ensures.told tells) in
    let are = AreOut-fetched home image (take (length news) names) news old mid old_out mid_out
    (AreNames-take (length news) names c.requires.names) fetched in
    let new = g.H.Shelf.image c.give_back_images.new.shelf in
    let new_out = g.H.Shelf.out c.give_back_images.new.shelf in
    let still = c.fetch_each.ensures.tells.0 tells in
    let back = c.give_back_images.ensures.home still (take (length news) names) fetched.images are in
    StaysHome-after_trips (take (length news) names) fetched.images old mid new old_out mid_out new_out fetched.gone back fetched.before
    (g.met.H.Shelf.one_image c.args.shelf.now) (g.met.H.Shelf.one_image c.give_back_images.new.shelf)
    (all_take (λ (n : List ℕ). ¬ old_out n) (length news) names (c.requires.home tells))
