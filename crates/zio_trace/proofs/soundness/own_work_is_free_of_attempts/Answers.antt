use Rattle.std.specs.Prelude.{List}
use Rattle.zio_types.specs.Choices.{Choice}
use Rattle.zio_gang.specs.Attempts.{Terms}
use Rattle.zio_gang.specs.Trees.{sizes_of}
use Rattle.zio_trace.specs.Entries.{MayCome}
use Rattle.zio_trace.specs.SoundRounds.{shared_in}
use Rattle.zio_trace.proofs.ChoiceLemmas.{Answers, answers_in_all}
use Rattle.zio_trace.proofs.FreeLemmas.{ask_free}
use Rattle.zio_trace.proofs.OwnWork.{own_bodies, own_copies, own_free_walk, own_parts, own_walk}
use Rattle.zio_trace.proofs.soundness.own_work_is_free_of_attempts.Goals as goal

-- the whole journal is lawful
lawful : (t : Terms) (entries journal : List Choice) → MayCome (sizes_of t.setting.tops) t.used entries journal → Answers journal (sizes_of t.setting.tops) t.used t.round
lawful t entries journal comes = answers_in_all journal (sizes_of t.setting.tops) t.used t.round comes.lawful

pub returns-clause-asks : goal.returns-clause-asks
returns-clause-asks c = λ t f journal at i k q a. ask_free journal t (shared_in t f) at i k q a

pub returns-clause-parts : goal.returns-clause-parts
returns-clause-parts c = λ t sizes f entries journal at i k attempt more p q kids sum copies levels path bytes round comes ne from other.
    own_parts t sizes f journal at i k round (lawful t entries journal comes) p q kids ne from other attempt more sum copies levels path bytes

pub returns-clause-copies : goal.returns-clause-copies
returns-clause-copies c = λ t sizes f entries journal at i k attempt p q kids bytes a places round comes ne from other.
    own_copies t sizes f journal at i k round (lawful t entries journal comes) p q kids ne from other attempt bytes a places

pub returns-clause-walk : goal.returns-clause-walk
returns-clause-walk c = λ t sizes f entries journal at i k attempt p q kids tree round comes ne from other.
    own_walk t sizes f journal at i k round (lawful t entries journal comes) p q kids ne from other attempt tree

pub returns-clause-free_walk : goal.returns-clause-free_walk
returns-clause-free_walk c = λ t sizes f entries journal at i k attempt p q kids tree round comes ne from other.
    own_free_walk t sizes f journal at i k round (lawful t entries journal comes) p q kids ne from other attempt tree

pub returns-clause-bodies : goal.returns-clause-bodies
returns-clause-bodies c = λ t sizes f entries journal at i k attempt p q kids tree x round comes ne from other.
    own_bodies t sizes f journal at i k round (lawful t entries journal comes) p q kids ne from other attempt tree x
