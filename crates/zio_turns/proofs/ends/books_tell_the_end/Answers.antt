use Rattle.zio_turns.proofs.RoundOver.{found_are, found_once, live_where, made_found, made_open, made_within, requests_are}
use Rattle.zio_turns.proofs.ends.books_tell_the_end.Goals as goal

pub returns : goal.returns
returns g c = record {
  requests = λ t sizes f before s slab values over heard. requests_are g.N.NodeFacts.nodes t f s slab values over.ledger heard over.standing_none;
  children = λ t sizes f before s slab over. over.ledger.rests.children;
  sizes = λ t sizes f before s slab over. over.ledger.sized;
  places = λ t sizes f before s slab over.
      found_are g.N.NodeFacts.nodes t sizes f before s slab over.state over.kept over.ledger;
  made = λ t sizes f before s slab over. made_found g.N.NodeFacts.nodes t f s slab over.ledger;
  apart = λ t sizes f before s slab tops st over desk. made_open g.N.NodeFacts.nodes t f s slab tops st over.ledger desk;
  inside = λ t sizes f before s slab tops st over desk. made_within g.N.NodeFacts.nodes t f s slab tops st over.ledger desk;
  live = λ t sizes f before s slab tops st sound over desk once.
      live_where g.N.NodeFacts.nodes t sizes f s slab st sound over.ledger desk.live desk.pending_are
      (found_are g.N.NodeFacts.nodes t sizes f before s slab over.state over.kept over.ledger) (found_once t s tops st desk once);
}
