-- The words of an audit, behind the program's name: docs/FORMATS.md, "Words of an audit".
use Rattle.std.specs.Prelude.{◌≡◌, ◌≤◌, ◌+◌, ◌*◌, ℕ, List, length}
use Rattle.zio_command.specs.declared.names.TheConstants.{IMAGES_MAX}
use Rattle.zio_command.specs.Words.{AreNames}

-- so many words are SCRIPT, REPORT, 1 to 16 images before the run, and as many after it
pub record IsCount (count : ℕ) : Type 0 where
  pub images : ℕ
  pub some : 1 ≤ images
  pub few : images ≤ IMAGES_MAX
  pub all : count ≡ 2 + 2 * images

-- they are so many, each is a name, and no two are the same
pub record NameAudit (words : List (List ℕ)) : Type 0 where
  pub count : IsCount (length words)
  pub names : AreNames words
