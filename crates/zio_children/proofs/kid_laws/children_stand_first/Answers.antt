use Rattle.zio_children.proofs.KidPlans.{all_heard, asked_told, asked_whatever, kids_ended, kids_first}
use Rattle.zio_children.proofs.kid_laws.children_stand_first.Goals as goal

pub returns : goal.returns
returns c = record {
  split = λ attempt forest slots own f e. kids_first attempt forest slots own f e;
  out = λ attempt forest slots own f op e h. asked_whatever attempt forest slots own f op e h;
  told = λ x attempt forest slots own f op fit r t h. asked_told attempt forest x.kids slots own f op fit r t h;
  heard = λ x slots fit e. all_heard x.kids slots fit e;
  ended = λ x attempt forest slots own f fit r e. kids_ended x.kids attempt forest slots own f fit r e;
}
