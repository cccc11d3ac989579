use Rattle.std.proofs.Common.{◌≡◌, ℕ, ◌-◌, Contains, List, Bool, Some, None, get_or, length, map, take, drop, subst, sym, rules}
use Rattle.std.specs.List.{AllByRecursion}
use Rattle.std.proofs.lemmas.Result.{IfOk-at_ok, MatchResult-at_ok}
use Rattle.zio_types.specs.declared.error.Errno.{Errno}
use Rattle.zio_types.specs.declared.place.Place.{Place}
use Rattle.zio_cksum.specs.Blocks.{Tried, blame, leaves_of, read_place, spot_in}
use Rattle.zio_cksum.specs.Frames.{spots_of}
use Rattle.zio_disks.specs.Copies.{good_by}
use Rattle.zio_disks.specs.Disks.{LieOn}
use Rattle.zio_disks.specs.declared.read.Good.{Good}
use Rattle.zio_disks.proofs.DiskLemmas.{handles_none, handles_ok, handles_err, handles_then}
use Rattle.zio_disks.proofs.WriteLemmas.{head_lies, rest_lies}
use Rattle.zio_disks.proofs.ReadLemmas.{first_taken, good_behind_among, good_behind_good, here_repairs_among}
use Rattle.zio_disks.proofs.read.+read_pass.Goals as goal

pub read_place-requires-clause-lies : goal.read_place-requires-clause-lies
read_place-requires-clause-lies g t c =
    head_lies c.args.setting.now (map g.D.Disk.bytes c.args.disks.now) (length c.args.buffer.now) c.args.places.now (record { top = 0; sector = 0; sectors = 0 }) c.in-len1-up.len_at_least c.requires.lies

pub returns-in-Ok-clause-among : goal.returns-in-Ok-clause-among
returns-in-Ok-clause-among g t c =
    let p : Place = get_or c.args.places.now 0 (record { top = 0; sector = 0; sectors = 0 }) in
    let within = IfOk-at_ok (λ (g : Good). g.before ≡ 0) c.in-Ok.is c.in_ok-read-in-len1-up.ensures.within in
    let among = IfOk-at_ok (λ (g : Good). AllByRecursion (Contains (map (spot_in p) (leaves_of c.args.setting.now p))) (map (spot_in p) g.failed)) c.in-Ok.is c.in_ok-read-in-len1-up.ensures.among in
    here_repairs_among c.args.setting.now c.args.places.now (record { top = 0; sector = 0; sectors = 0 }) c.in-Ok.found.before c.in-Ok.found.failed c.in-len1-up.len_at_least within among

pub returns-in-Ok-clause-told : goal.returns-in-Ok-clause-told
returns-in-Ok-clause-told g t c images tell =
    let len : ℕ = length c.args.buffer.now in
    let good : List ℕ → Bool = good_by c.args.good.now in
    let any : Place = (record { top = 0; sector = 0; sectors = 0 }) in
    let tried : Tried ℕ = read_place c.args.setting.now c.args.retry good images len (get_or c.args.places.now 0 any) in
    let within = IfOk-at_ok (λ (g : Good). g.before ≡ 0) c.in-Ok.is c.in_ok-read-in-len1-up.ensures.within in
    let told = c.in_ok-read-in-len1-up.ensures.told images tell in
    let both = MatchResult-at_ok (λ (g : Good). (Some c.read_place.new.buffer ≡ tried.found) × (g.failed ≡ tried.failed)) (λ (e : Errno). (None ≡ tried.found) × (e ≡ blame tried.errors)) c.in-Ok.found c.in-Ok.is told.0 in (
      first_taken c.args.setting.now c.args.retry good images len c.args.places.now any c.read_place.new.buffer c.in-Ok.found.before c.in-Ok.found.failed
          c.in-len1-up.len_at_least within both.0 both.1,
      told.1,
    )

pub read_pass-requires : goal.read_pass-requires
read_pass-requires g t c κs within = (
  search rules,
  (
    search rules,
    (
      c.requires.rows,
      (
        search rules,
        (
          search rules,
          subst (λ n. LieOn (map g.D.Disk.bytes c.read_place.new.disks) n (spots_of c.args.setting.now (take (length c.args.places.now - 1) (drop 1 c.args.places.now)))) (sym c.read_place.auto.buffer)
              (rest_lies c.args.setting.now (map g.D.Disk.bytes c.args.disks.now) (map g.D.Disk.bytes c.read_place.new.disks) (length c.args.buffer.now) c.args.places.now
              c.in-len1-up.len_at_least c.in_ok-read-in-len1-up.ensures.handled.same.sizes c.requires.lies),
        ),
      ),
    ),
  ),
)

pub returns-in_err-others-in-Err-clause-handled : goal.returns-in_err-others-in-Err-clause-handled
returns-in_err-others-in-Err-clause-handled g t c =
    handles_then c.in_ok-read-in-len1-up.ensures.handled
    (handles_err _ c.from_residual-in_err-others-in-Err.ensures.1 c.in_err-others-in-Err.ensures.handled)

pub returns-in-empty-clause-handled : goal.returns-in-empty-clause-handled
returns-in-empty-clause-handled g t c =
    handles_none g.D.Disk.bytes g.D.Disk.faults g.D.Disk.faults_at_fetch g.D.Disk.home g.D.Disk.image g.D.Disk.sound g.D.Disk.went _ _ c.args.disks.now (λ e. cc)

pub returns-in_ok-others-in-Err-clause-among : goal.returns-in_ok-others-in-Err-clause-among
returns-in_ok-others-in-Err-clause-among g t c =
    good_behind_among c.args.setting.now c.args.places.now (record { top = 0; sector = 0; sectors = 0 }) c.in-Err.error c.in_ok-others-in-Err.others c.behind.result c.in-len1-up.len_at_least
    c.behind.ensures c.in_ok-others-in-Err.ensures.among

pub returns-in_ok-others-in-Err-clause-handled : goal.returns-in_ok-others-in-Err-clause-handled
returns-in_ok-others-in-Err-clause-handled g t c =
    handles_then c.in_ok-read-in-len1-up.ensures.handled (handles_ok _ c.in_ok-others-in-Err.ensures.handled)

pub returns-in_ok-others-in-Err-clause-good : goal.returns-in_ok-others-in-Err-clause-good
returns-in_ok-others-in-Err-clause-good g t c =
    good_behind_good _ c.in-Err.error c.in_ok-others-in-Err.others c.behind.result c.behind.ensures c.in_ok-others-in-Err.ensures.good
