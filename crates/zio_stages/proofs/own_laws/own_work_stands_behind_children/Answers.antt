use Rattle.zio_stages.proofs.OwnAsks.{follows, foretells}
use Rattle.zio_stages.proofs.own_laws.own_work_stands_behind_children.Goals as goal

pub returns-clause-follows : goal.returns-clause-follows
returns-clause-follows c = λ t attempt p x forest asked slots h. follows t attempt p x forest asked slots h

pub returns-clause-foretells : goal.returns-clause-foretells
returns-clause-foretells c = λ t attempt p x forest asked slots h. foretells t attempt p x forest asked slots h
