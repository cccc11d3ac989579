use Rattle.std.proofs.Common.{◌≡◌, ◌<◌, ◌∷◌, ℕ, suc, List, length, map, take, drop, ◌-◌, sym, ap, ◌∙◌, subst, refl, arith, rules}
use Rattle.std.proofs.lemmas.Grind.{common_steps}
use Rattle.std.specs.List.{AllByRecursion}
use Rattle.zio_cksum.proofs.AllLemmas.{all_weaker}
use Rattle.zio_cksum.specs.Images.{Images}
use Rattle.zio_outside.specs.Outside.{Rose, counted}
use Rattle.zio_command.specs.Headline.{TellEach}
use Rattle.zio_command.specs.Outcomes.{HasLawfulSize, counted_times}
use Rattle.zio_command.specs.Shelves.{AreFetched, IsFirstUnlawful, added}
use Rattle.zio_command.specs.Words.{AreNames}
use Rattle.zio_command.proofs.ShelfLemmas.{AreFetched-more, AreFetched-none, IsFirstUnlawful-more, StaysHome-refl, TellEach-goes_out, added-none, added-one, counted-more, home_after, lawful-more, names_split, on_ok}
use Rattle.zio_command.proofs.shelf.+fetch_each.Goals as goal

pub returns-in_default-clause-told : goal.returns-in_default-clause-told
returns-in_default-clause-told g t c tells =
    rw (added-none c.args.disks.now.items) (AreFetched-none g.H.Disk.Disk.home g.H.Disk.Disk.image
    (g.H.Shelf.image c.args.shelf.now) (g.H.Shelf.image c.args.shelf.now) (g.H.Shelf.out c.args.shelf.now) (g.H.Shelf.out c.args.shelf.now)
    (StaysHome-refl (g.H.Shelf.image c.args.shelf.now) (g.H.Shelf.out c.args.shelf.now)))

pub returns-in_err-disk-clause-told : goal.returns-in_err-disk-clause-told
returns-in_err-disk-clause-told g t c tells =
    rw (added-none c.args.disks.now.items) (AreFetched-none g.H.Disk.Disk.home g.H.Disk.Disk.image
    (g.H.Shelf.image c.args.shelf.now) (g.H.Shelf.image c.fetch_lawful.new.shelf) (g.H.Shelf.out c.args.shelf.now) (g.H.Shelf.out c.fetch_lawful.new.shelf)
    (c.in_err-disk.ensures.stays tells))

pub fetch_each-requires : goal.fetch_each-requires
fetch_each-requires g t c κs within =
    let names = c.args.names.now in
    let name = c.as_str.result.now in
    let rest = take (length names - 1) (drop 1 names) in
    let e : names ≡ name ∷ rest = names_split names c.name-item.result name c.in-len1-up.len_at_least c.name-item.is c.as_str.ensures in
    let are : AreNames (name ∷ rest) = subst AreNames e c.requires.names in
    let old = g.H.Shelf.image c.args.shelf.now in
    let mid = g.H.Shelf.image c.fetch_lawful.new.shelf in
    let old_out = g.H.Shelf.out c.args.shelf.now in
    let mid_out = g.H.Shelf.out c.fetch_lawful.new.shelf in
    let home : g.H.Shelf.tells c.fetch_lawful.new.shelf → AllByRecursion (λ (n : List ℕ). ¬ mid_out n) rest =
    λ still.
    (let tells = c.in_ok-disk.ensures.tells.1 still in
    let out = c.in_ok-disk.ensures.out tells in
    let homes : AllByRecursion (λ (n : List ℕ). ¬ old_out n) (name ∷ rest) =
    subst (λ (ns : List (List ℕ)). AllByRecursion (λ (n : List ℕ). ¬ old_out n) ns) e (c.requires.home tells) in
    home_after name rest old mid old_out mid_out are out homes.1) in (
      search rules,
      (search rules, (search rules, (are.2, (first_of (search rules, grind (arith, common_steps)), (first_of (search rules, grind (arith, common_steps)), home))))),
    )

pub returns-clause-told : goal.returns-clause-told
returns-clause-told g t c tells =
    let names = c.args.names.now in
    let name = c.as_str.result.now in
    let rest = take (length names - 1) (drop 1 names) in
    let e : names ≡ name ∷ rest = names_split names c.name-item.result name c.in-len1-up.len_at_least c.name-item.is c.as_str.ensures in
    let disk = c.in_ok-disk.disk in
    let more = added c.push.new.self.items c.fetch_each.new.disks.items in
    let front = added c.args.disks.now.items c.fetch_each.new.disks.items in
    let a : front ≡ disk ∷ more = added-one c.args.disks.now.items c.push.new.self.items c.fetch_each.new.disks.items disk c.in-Ok.ensures.items c.fetch_each.ensures.added in
    let old = g.H.Shelf.image c.args.shelf.now in
    let mid = g.H.Shelf.image c.fetch_lawful.new.shelf in
    let old_out = g.H.Shelf.out c.args.shelf.now in
    let mid_out = g.H.Shelf.out c.fetch_lawful.new.shelf in
    let new = g.H.Shelf.image c.fetch_each.new.shelf in
    let new_out = g.H.Shelf.out c.fetch_each.new.shelf in
    let still = c.in_ok-disk.ensures.tells.0 tells in
    let handed = c.in_ok-disk.ensures.disk tells in
    let out = c.in_ok-disk.ensures.out tells in
    let home = g.H.Disk.Disk.home in
    let image = g.H.Disk.Disk.image in
    let behind = c.fetch_each.ensures.told still in
    let both = AreFetched-more home image name handed.0 (take (length more) rest) disk more old mid new old_out mid_out new_out
    out handed.1 handed.2 handed.3 behind in
    subst (λ (ns : List (List ℕ)). AreFetched home image (take (length front) ns) front old new old_out new_out) (sym e)
    (subst (λ ds. AreFetched home image (take (length ds) (name ∷ rest)) ds old new old_out new_out) (sym a) both)

pub returns-clause-steady : goal.returns-clause-steady
returns-clause-steady g t c =
    let names = c.args.names.now in
    let name = c.as_str.result.now in
    let rest = take (length names - 1) (drop 1 names) in
    let e : names ≡ name ∷ rest = names_split names c.name-item.result name c.in-len1-up.len_at_least c.name-item.is c.as_str.ensures in
    let ok = c.in_ok-disk.ensures.ok in
    let before = g.H.Shelf.fetches c.args.shelf.now in
    let between = g.H.Shelf.fetches c.fetch_lawful.new.shelf in
    let after = g.H.Shelf.fetches c.fetch_each.new.shelf in
    on_ok c.fetch_each.result (λ p. (
      p.0 ∙ ok.0,
      p.1 ∙ ok.2,
      subst (λ (ns : List (List ℕ)). after ≡ counted_times (length ns) before) (sym e) (counted-more (length rest) before between after ok.1 p.2),
    )) c.fetch_each.ensures.steady

pub returns-clause-failed : goal.returns-clause-failed
returns-clause-failed g t c leaf err =
    let names = c.args.names.now in
    let name = c.as_str.result.now in
    let rest = take (length names - 1) (drop 1 names) in
    let e : names ≡ name ∷ rest = names_split names c.name-item.result name c.in-len1-up.len_at_least c.name-item.is c.as_str.ensures in
    let disk = c.in_ok-disk.disk in
    let more = added c.push.new.self.items c.fetch_each.new.disks.items in
    let front = added c.args.disks.now.items c.fetch_each.new.disks.items in
    let a : front ≡ disk ∷ more = added-one c.args.disks.now.items c.push.new.self.items c.fetch_each.new.disks.items disk c.in-Ok.ensures.items c.fetch_each.ensures.added in
    let ok = c.in_ok-disk.ensures.ok in
    let before = g.H.Shelf.fetches c.args.shelf.now in
    let between = g.H.Shelf.fetches c.fetch_lawful.new.shelf in
    let after = g.H.Shelf.fetches c.fetch_each.new.shelf in
    let p = c.fetch_each.ensures.failed leaf err in
    let l : length front ≡ suc (length more) = ap length a in
    let m : length names ≡ suc (length rest) = ap length e in
    let behind : length more < length rest = p.2 in
    let less : length front < length names = omega arith in (
      subst (λ (n : ℕ). Rose n (g.H.Shelf.faults c.fetch_each.new.shelf)) ok.0 p.0,
      p.1,
      less,
      p.3 ∙ ok.2,
      subst (λ ds. after ≡ counted_times (length ds) before) (sym a) (counted-more (length more) before between after ok.1 p.4),
    )

pub returns-clause-unlawful : goal.returns-clause-unlawful
returns-clause-unlawful g t c leaf err =
    let names = c.args.names.now in
    let name = c.as_str.result.now in
    let rest = take (length names - 1) (drop 1 names) in
    let e : names ≡ name ∷ rest = names_split names c.name-item.result name c.in-len1-up.len_at_least c.name-item.is c.as_str.ensures in
    let disk = c.in_ok-disk.disk in
    let more = added c.push.new.self.items c.fetch_each.new.disks.items in
    let front = added c.args.disks.now.items c.fetch_each.new.disks.items in
    let a : front ≡ disk ∷ more = added-one c.args.disks.now.items c.push.new.self.items c.fetch_each.new.disks.items disk c.in-Ok.ensures.items c.fetch_each.ensures.added in
    let ok = c.in_ok-disk.ensures.ok in
    let before = g.H.Shelf.fetches c.args.shelf.now in
    let between = g.H.Shelf.fetches c.fetch_lawful.new.shelf in
    let after = g.H.Shelf.fetches c.fetch_each.new.shelf in
    let p = c.fetch_each.ensures.unlawful leaf err in
    let l : length front ≡ suc (length more) = ap length a in
    let m : length names ≡ suc (length rest) = ap length e in
    let behind : length more < length rest = p.2 in
    let less : length front < length names = omega arith in
    let times = counted-more (length more) before between (counted_times (length more) between) ok.1 refl in (
      p.0 ∙ ok.0,
      p.1,
      less,
      p.3 ∙ ap (λ (n : ℕ). counted n) ok.2,
      subst (λ ds. after ≡ counted (counted_times (length ds) before)) (sym a) (p.4 ∙ ap (λ (n : ℕ). counted n) times),
      p.5,
    )

pub returns-clause-memory : goal.returns-clause-memory
returns-clause-memory g t c err =
    let disk = c.in_ok-disk.disk in
    let more = added c.push.new.self.items c.fetch_each.new.disks.items in
    let front = added c.args.disks.now.items c.fetch_each.new.disks.items in
    let a : front ≡ disk ∷ more = added-one c.args.disks.now.items c.push.new.self.items c.fetch_each.new.disks.items disk c.in-Ok.ensures.items c.fetch_each.ensures.added in
    let ok = c.in_ok-disk.ensures.ok in
    let before = g.H.Shelf.fetches c.args.shelf.now in
    let between = g.H.Shelf.fetches c.fetch_lawful.new.shelf in
    let after = g.H.Shelf.fetches c.fetch_each.new.shelf in
    let p = c.fetch_each.ensures.memory err in (
      p.0 ∙ ok.0,
      p.1 ∙ ok.2,
      subst (λ ds. after ≡ counted_times (length ds) before) (sym a) (counted-more (length more) before between after ok.1 p.2),
    )

pub returns-clause-lawful_told : goal.returns-clause-lawful_told
returns-clause-lawful_told g t c images tells told =
    let names = c.args.names.now in
    let name = c.as_str.result.now in
    let rest = take (length names - 1) (drop 1 names) in
    let e : names ≡ name ∷ rest = names_split names c.name-item.result name c.in-len1-up.len_at_least c.name-item.is c.as_str.ensures in
    let disk = c.in_ok-disk.disk in
    let more = added c.push.new.self.items c.fetch_each.new.disks.items in
    let front = added c.args.disks.now.items c.fetch_each.new.disks.items in
    let a : front ≡ disk ∷ more = added-one c.args.disks.now.items c.push.new.self.items c.fetch_each.new.disks.items disk c.in-Ok.ensures.items c.fetch_each.ensures.added in
    let old = g.H.Shelf.image c.args.shelf.now in
    let mid = g.H.Shelf.image c.fetch_lawful.new.shelf in
    let old_out = g.H.Shelf.out c.args.shelf.now in
    let mid_out = g.H.Shelf.out c.fetch_lawful.new.shelf in
    let still = c.in_ok-disk.ensures.tells.0 tells in
    let handed = c.in_ok-disk.ensures.disk tells in
    let out = c.in_ok-disk.ensures.out tells in
    let are : AreNames (name ∷ rest) = subst AreNames e c.requires.names in
    let first : (bytes : List ℕ) → old name bytes → HasLawfulSize (length bytes) =
    λ bytes told_here. c.in_ok-disk.ensures.lawful_told bytes tells told_here in
    let keep : (images : Images) → TellEach old rest images → TellEach mid rest images =
    TellEach-goes_out name rest old mid old_out mid_out are out in
    let told_both : TellEach old (name ∷ rest) images = subst (λ (ns : List (List ℕ)). TellEach old ns images) e told in
    subst (λ ds. AllByRecursion HasLawfulSize (take (length ds) (map (length {A = ℕ}) images))) (sym a)
    (lawful-more old mid name rest (length more) first keep (λ others told_there. c.fetch_each.ensures.lawful_told others still told_there) images told_both)

pub returns-clause-unlawful_told : goal.returns-clause-unlawful_told
returns-clause-unlawful_told g t c leaf err images tells told =
    let names = c.args.names.now in
    let name = c.as_str.result.now in
    let rest = take (length names - 1) (drop 1 names) in
    let e : names ≡ name ∷ rest = names_split names c.name-item.result name c.in-len1-up.len_at_least c.name-item.is c.as_str.ensures in
    let disk = c.in_ok-disk.disk in
    let more = added c.push.new.self.items c.fetch_each.new.disks.items in
    let front = added c.args.disks.now.items c.fetch_each.new.disks.items in
    let a : front ≡ disk ∷ more = added-one c.args.disks.now.items c.push.new.self.items c.fetch_each.new.disks.items disk c.in-Ok.ensures.items c.fetch_each.ensures.added in
    let old = g.H.Shelf.image c.args.shelf.now in
    let mid = g.H.Shelf.image c.fetch_lawful.new.shelf in
    let old_out = g.H.Shelf.out c.args.shelf.now in
    let mid_out = g.H.Shelf.out c.fetch_lawful.new.shelf in
    let still = c.in_ok-disk.ensures.tells.0 tells in
    let handed = c.in_ok-disk.ensures.disk tells in
    let out = c.in_ok-disk.ensures.out tells in
    let are : AreNames (name ∷ rest) = subst AreNames e c.requires.names in
    let first : (bytes : List ℕ) → old name bytes → HasLawfulSize (length bytes) =
    λ bytes told_here. c.in_ok-disk.ensures.lawful_told bytes tells told_here in
    let keep : (images : Images) → TellEach old rest images → TellEach mid rest images =
    TellEach-goes_out name rest old mid old_out mid_out are out in
    let told_both : TellEach old (name ∷ rest) images = subst (λ (ns : List (List ℕ)). TellEach old ns images) e told in
    subst (λ ds. IsFirstUnlawful (map (length {A = ℕ}) images) (length ds)) (sym a)
    (IsFirstUnlawful-more old mid name rest (length more) first keep (λ others told_there. c.fetch_each.ensures.unlawful_told leaf err others still told_there) images told_both)

pub returns-clause-sound : goal.returns-clause-sound
returns-clause-sound g t c all =
    let names = c.args.names.now in
    let name = c.as_str.result.now in
    let rest = take (length names - 1) (drop 1 names) in
    let e : names ≡ name ∷ rest = names_split names c.name-item.result name c.in-len1-up.len_at_least c.name-item.is c.as_str.ensures in
    let disk = c.in_ok-disk.disk in
    let more = added c.push.new.self.items c.fetch_each.new.disks.items in
    let front = added c.args.disks.now.items c.fetch_each.new.disks.items in
    let a : front ≡ disk ∷ more = added-one c.args.disks.now.items c.push.new.self.items c.fetch_each.new.disks.items disk c.in-Ok.ensures.items c.fetch_each.ensures.added in
    let both : AllByRecursion (g.H.Shelf.sound c.args.shelf.now) (name ∷ rest) =
    subst (λ (ns : List (List ℕ)). AllByRecursion (g.H.Shelf.sound c.args.shelf.now) ns) e all in
    let s = c.in_ok-disk.ensures.sound both.0 in
    let later = c.fetch_each.ensures.sound (all_weaker (g.H.Shelf.sound c.args.shelf.now) (g.H.Shelf.sound c.fetch_lawful.new.shelf) rest s.2 both.1) in (
      later.0 ∙ s.0,
      later.1,
      λ n h. later.2 n (s.2 n h),
      subst (λ ds. AllByRecursion g.H.Disk.Disk.sound ds) (sym a) (s.3, later.3),
    )
