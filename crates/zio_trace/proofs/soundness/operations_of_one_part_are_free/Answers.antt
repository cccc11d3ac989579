use Rattle.zio_types.specs.Choices.{Choice}
use Rattle.std.specs.Prelude.{List}
use Rattle.zio_gang.specs.Attempts.{Terms}
use Rattle.zio_gang.specs.Trees.{sizes_of}
use Rattle.zio_trace.specs.Entries.{MayCome}
use Rattle.zio_trace.specs.SoundRounds.{shared_in}
use Rattle.zio_trace.proofs.ChoiceLemmas.{Answers, answers_in_all}
use Rattle.zio_trace.proofs.FreeParts.{attempts, bodies, claimed_walks, forest, found_bodies, header_first, kept_walks, member_first, members, numbered_repairs, pass_repairs, repairs, writes}
use Rattle.zio_trace.proofs.soundness.operations_of_one_part_are_free.Goals as goal

-- the whole journal is lawful
lawful : (t : Terms) (entries journal : List Choice) → MayCome (sizes_of t.setting.tops) t.used entries journal → Answers journal (sizes_of t.setting.tops) t.used t.round
lawful t entries journal comes = answers_in_all journal (sizes_of t.setting.tops) t.used t.round comes.lawful

pub returns-clause-attempts : goal.returns-clause-attempts
returns-clause-attempts c = λ t sizes f entries journal at i k attempt more p q kids others round comes ne.
    attempts t sizes f journal at i k round (lawful t entries journal comes) attempt more p q kids others ne

pub returns-clause-trees_of_a_forest : goal.returns-clause-trees_of_a_forest
returns-clause-trees_of_a_forest c = λ t sizes f entries journal at i k attempt more n m g a b round comes.
    forest t sizes f journal at i k round (lawful t entries journal comes) attempt more n m g a b

pub returns-clause-members : goal.returns-clause-members
returns-clause-members c = λ t sizes f entries journal at i k attempt n m p sum copies levels path bytes others round comes.
    members t sizes f journal at i k round (lawful t entries journal comes) attempt n m p sum copies levels path bytes others

pub returns-clause-member_before_header : goal.returns-clause-member_before_header
returns-clause-member_before_header c = λ t sizes f entries journal at i k attempt n p sum copies levels path bytes header a places round comes.
    member_first t sizes f journal at i k round (lawful t entries journal comes) attempt n p sum copies levels path bytes header a places

pub returns-clause-header_before_member : goal.returns-clause-header_before_member
returns-clause-header_before_member c = λ t sizes f entries journal at i k attempt n p sum copies levels path bytes header a places round comes.
    header_first t sizes f journal at i k round (lawful t entries journal comes) attempt n p sum copies levels path bytes header a places

pub returns-clause-writes : goal.returns-clause-writes
returns-clause-writes c = λ t sizes f entries journal at i k n m a places u v retry again bytes others round comes.
    writes t sizes f journal at i k round (lawful t entries journal comes) n m a places u v retry again bytes others

pub returns-clause-repairs_by_number : goal.returns-clause-repairs_by_number
returns-clause-repairs_by_number c = λ t sizes f journal at i k n m tree x u v retry again bytes others round.
    numbered_repairs t sizes f journal at i k round n m tree x u v retry again bytes others

pub returns-clause-repairs : goal.returns-clause-repairs
returns-clause-repairs c = λ t sizes f journal at i k tree x u v retry again bytes others round.
    repairs t sizes f journal at i k round tree x u v retry again bytes others

pub returns-clause-repairs_of_a_pass : goal.returns-clause-repairs_of_a_pass
returns-clause-repairs_of_a_pass c = λ t sizes f journal at i k n m tried tree x front rest p u v retry again bytes others round.
    pass_repairs t sizes f journal at i k round n m tried tree x front rest p u v retry again bytes others

pub returns-clause-bodies : goal.returns-clause-bodies
returns-clause-bodies c = λ t sizes f journal at i k n m tree x y round.
    bodies t sizes f journal at i k round n m tree x y

pub returns-clause-bodies_found : goal.returns-clause-bodies_found
returns-clause-bodies_found c = λ t sizes f journal at i k n m tree pointers a b round.
    found_bodies t sizes f journal at i k round n m tree pointers a b

pub returns-clause-kept_walks : goal.returns-clause-kept_walks
returns-clause-kept_walks c = λ t sizes f journal at i k levels more n m tree path bytes a b round.
    kept_walks t sizes f journal at i k round levels more n m tree path bytes a b

pub returns-clause-claimed_walks : goal.returns-clause-claimed_walks
returns-clause-claimed_walks c = λ t f journal at i k levels more path others a b.
    claimed_walks t journal (shared_in t f) at i k levels more path others a b
