use Rattle.zio_gang.proofs.BoundLemmas.{block_of-bind, block_of-bind-other, block_of-unbind, block_of-unbind-other, NamesOnce-bind, NamesOnce-unbind}
use Rattle.zio_gang.proofs.laws.bound_names_are_a_map.Goals as goal

pub returns : goal.returns
returns c = record {
  bound = block_of-bind;
  unbound = block_of-unbind;
  bind_once = NamesOnce-bind;
  unbind_once = NamesOnce-unbind;
  others_bound = block_of-bind-other;
  others_unbound = block_of-unbind-other;
}
