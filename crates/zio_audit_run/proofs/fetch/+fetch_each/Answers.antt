use Rattle.std.proofs.Common.{◌≡◌, ◌∷◌, ◌-◌, ℕ, List, length, map, string_bytes, take, drop, sym, ◌∙◌, subst, rules, arith}
use Rattle.std.proofs.lemmas.Grind.{common_steps}
use Rattle.std.specs.List.{AllByRecursion}
use Rattle.zio_cksum.proofs.AllLemmas.{all_weaker}
use Rattle.zio_command.specs.Outcomes.{counted_times}
use Rattle.zio_command.specs.Shelves.{AreFetched, added}
use Rattle.zio_command.specs.Words.{AreNames}
use Rattle.zio_command.proofs.ShelfLemmas.{AreFetched-more, AreFetched-none, StaysHome-refl, added-none, added-one, counted-more, home_after}
use Rattle.zio_audit_run.proofs.FetchLemmas.{words_split}
use Rattle.zio_audit_run.proofs.fetch.+fetch_each.Goals as goal

pub returns-in_default-clause-told : goal.returns-in_default-clause-told
returns-in_default-clause-told g t c tells =
    rw (added-none c.args.disks.now.items) (AreFetched-none g.H.Disk.Disk.home g.H.Disk.Disk.image
    (g.H.Shelf.image c.args.shelf.now) (g.H.Shelf.image c.args.shelf.now) (g.H.Shelf.out c.args.shelf.now) (g.H.Shelf.out c.args.shelf.now)
    (StaysHome-refl (g.H.Shelf.image c.args.shelf.now) (g.H.Shelf.out c.args.shelf.now)))

pub returns-in_err-disk-clause-told : goal.returns-in_err-disk-clause-told
returns-in_err-disk-clause-told g t c tells =
    rw (added-none c.args.disks.now.items) (AreFetched-none g.H.Disk.Disk.home g.H.Disk.Disk.image
    (g.H.Shelf.image c.args.shelf.now) (g.H.Shelf.image c.fetch.new.self) (g.H.Shelf.out c.args.shelf.now) (g.H.Shelf.out c.fetch.new.self)
    (c.in_err-disk.ensures.home tells))

pub fetch_each-requires : goal.fetch_each-requires
fetch_each-requires g t c κs within =
    let words = c.args.words.now in
    let name = c.as_str.result.now in
    let rest = map string_bytes (take (length words - 1) (drop 1 words)) in
    let e : map string_bytes words ≡ name ∷ rest = words_split string_bytes words c.word-item.result name c.in-len1-up.len_at_least c.word-item.is c.as_str.ensures.value in
    let are : AreNames (name ∷ rest) = subst AreNames e c.requires.names in
    let old = g.H.Shelf.image c.args.shelf.now in
    let mid = g.H.Shelf.image c.fetch.new.self in
    let old_out = g.H.Shelf.out c.args.shelf.now in
    let mid_out = g.H.Shelf.out c.fetch.new.self in
    let home : g.H.Shelf.tells c.fetch.new.self → AllByRecursion (λ (n : List ℕ). ¬ mid_out n) rest =
    λ still.
    (let tells = c.in_ok-disk.ensures.tells.1 still in
    let out = c.in_ok-disk.ensures.out tells in
    let homes : AllByRecursion (λ (n : List ℕ). ¬ old_out n) (name ∷ rest) =
    subst (λ (ns : List (List ℕ)). AllByRecursion (λ (n : List ℕ). ¬ old_out n) ns) e (c.requires.home tells) in
    home_after name rest old mid old_out mid_out are out homes.1) in (
      search rules,
      (search rules, (search rules, (are.2, (first_of (search rules, grind (arith, common_steps)), home)))),
    )

pub returns-clause-told : goal.returns-clause-told
returns-clause-told g t c tells =
    let words = c.args.words.now in
    let name = c.as_str.result.now in
    let rest = map string_bytes (take (length words - 1) (drop 1 words)) in
    let e : map string_bytes words ≡ name ∷ rest = words_split string_bytes words c.word-item.result name c.in-len1-up.len_at_least c.word-item.is c.as_str.ensures.value in
    let disk = c.in_ok-disk.disk in
    let more = added c.push.new.self.items c.fetch_each.new.disks.items in
    let front = added c.args.disks.now.items c.fetch_each.new.disks.items in
    let a : front ≡ disk ∷ more = added-one c.args.disks.now.items c.push.new.self.items c.fetch_each.new.disks.items disk c.in-Ok.ensures.items c.fetch_each.ensures.added in
    let old = g.H.Shelf.image c.args.shelf.now in
    let mid = g.H.Shelf.image c.fetch.new.self in
    let old_out = g.H.Shelf.out c.args.shelf.now in
    let mid_out = g.H.Shelf.out c.fetch.new.self in
    let new = g.H.Shelf.image c.fetch_each.new.shelf in
    let new_out = g.H.Shelf.out c.fetch_each.new.shelf in
    let still = c.in_ok-disk.ensures.tells.0 tells in
    let handed = c.in_ok-disk.ensures.disk tells in
    let out = c.in_ok-disk.ensures.out tells in
    let home = g.H.Disk.Disk.home in
    let image = g.H.Disk.Disk.image in
    let behind = c.fetch_each.ensures.told still in
    let both = AreFetched-more home image name handed.0 (take (length more) rest) disk more old mid new old_out mid_out new_out
    out handed.1 handed.2 handed.3 behind in
    subst (λ (ns : List (List ℕ)). AreFetched home image (take (length front) ns) front old new old_out new_out) (sym e)
    (subst (λ ds. AreFetched home image (take (length ds) (name ∷ rest)) ds old new old_out new_out) (sym a) both)

pub returns-clause-counts : goal.returns-clause-counts
returns-clause-counts g t c =
    let disk = c.in_ok-disk.disk in
    let more = added c.push.new.self.items c.fetch_each.new.disks.items in
    let front = added c.args.disks.now.items c.fetch_each.new.disks.items in
    let a : front ≡ disk ∷ more = added-one c.args.disks.now.items c.push.new.self.items c.fetch_each.new.disks.items disk c.in-Ok.ensures.items c.fetch_each.ensures.added in
    let before = g.H.Shelf.fetches c.args.shelf.now in
    let between = g.H.Shelf.fetches c.fetch.new.self in
    let after = g.H.Shelf.fetches c.fetch_each.new.shelf in
    let counts = c.fetch_each.ensures.counts in (
      counts.0 ∙ c.in_ok-disk.ensures.returns,
      subst (λ ds. after ≡ counted_times (length ds) before) (sym a) (counted-more (length more) before between after c.in_ok-disk.ensures.ok.1 counts.1),
    )

pub returns-clause-sound : goal.returns-clause-sound
returns-clause-sound g t c all =
    let words = c.args.words.now in
    let name = c.as_str.result.now in
    let rest = map string_bytes (take (length words - 1) (drop 1 words)) in
    let e : map string_bytes words ≡ name ∷ rest = words_split string_bytes words c.word-item.result name c.in-len1-up.len_at_least c.word-item.is c.as_str.ensures.value in
    let disk = c.in_ok-disk.disk in
    let more = added c.push.new.self.items c.fetch_each.new.disks.items in
    let front = added c.args.disks.now.items c.fetch_each.new.disks.items in
    let a : front ≡ disk ∷ more = added-one c.args.disks.now.items c.push.new.self.items c.fetch_each.new.disks.items disk c.in-Ok.ensures.items c.fetch_each.ensures.added in
    let both : AllByRecursion (g.H.Shelf.sound c.args.shelf.now) (name ∷ rest) =
    subst (λ (ns : List (List ℕ)). AllByRecursion (g.H.Shelf.sound c.args.shelf.now) ns) e all in
    let on = c.in_ok-disk.ensures.sound both.0 in
    let later = c.fetch_each.ensures.sound (all_weaker (g.H.Shelf.sound c.args.shelf.now) (g.H.Shelf.sound c.fetch.new.self) rest on both.1) in (
      later.0 ∙ c.in_ok-disk.ensures.steady both.0,
      λ n h. later.1 n (on n h),
      subst (λ ds. AllByRecursion g.H.Disk.Disk.sound ds) (sym a) (c.in_ok-disk.ensures.sound_disk both.0, later.2),
    )
