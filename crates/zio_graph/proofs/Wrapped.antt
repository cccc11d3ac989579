-- Trees of a round, wrapped one by one as they stand between rounds.
use Rattle.std.proofs.Common.{◌≡◌, ℕ, ◌+◌, ◌<◌, ◌≤◌, List, [], ◌∷◌, ◌++◌, length, map, sym, ap, ◌∙◌, subst, arith, length-append}
use Rattle.std.specs.List.{AllByRecursion}
use Rattle.std.proofs.lemmas.List.{append-nil, append_assoc}
use Rattle.zio_gang.specs.Attempts.{Pending}
use Rattle.zio_exchange.specs.Waits.{pendings}
use Rattle.zio_exchange.specs.declared.waiting.UnfinishedRequest.{UnfinishedRequest}
use Rattle.zio_graph.specs.EngineTrees.{IsEngineTree}

-- the first of the trees were wrapped, and these are left
pub record AreWrapped (wholes rest : List (List UnfinishedRequest)) (trees : List (List Pending)) : Type 0 where
  pub same : trees ++ map pendings rest ≡ map pendings wholes
  pub each : AllByRecursion IsEngineTree rest

pub wrapped_begins : (wholes rest : List (List UnfinishedRequest)) (trees : List (List Pending)) → AllByRecursion IsEngineTree wholes
    → rest ≡ wholes → trees ≡ [] → AreWrapped wholes rest trees
wrapped_begins wholes rest trees each same none = record {
  same = ap (λ (ts : List (List Pending)). ts ++ map pendings rest) none ∙ ap (map pendings) same;
  each = subst (AllByRecursion IsEngineTree) (sym same) each;
}

pub wrapped_step : (wholes rest left : List (List UnfinishedRequest)) (trees now : List (List Pending)) (whole : List UnfinishedRequest)
    (tree : List Pending) → AreWrapped wholes rest trees → rest ≡ whole ∷ left → tree ≡ pendings whole
    → now ≡ trees ++ tree ∷ [] → AreWrapped wholes left now
wrapped_step wholes rest left trees now whole tree h is seen more = record {
  same = ap (λ (ts : List (List Pending)). ts ++ map pendings left) more
      ∙ append_assoc trees (tree ∷ []) (map pendings left)
      ∙ ap (λ (t : List Pending). trees ++ t ∷ map pendings left) seen
      ∙ ap (λ (ws : List (List UnfinishedRequest)). trees ++ map pendings ws) (sym is)
      ∙ h.same;
  each = (subst (AllByRecursion IsEngineTree) is h.each).1;
}

pub wrapped_all : (wholes rest : List (List UnfinishedRequest)) (trees now : List (List Pending)) → AreWrapped wholes rest trees → rest ≡ []
    → now ≡ trees → now ≡ map pendings wholes
wrapped_all wholes rest trees now h none is =
    is ∙ sym (append-nil trees) ∙ ap (λ (ws : List (List UnfinishedRequest)). trees ++ map pendings ws) (sym none) ∙ h.same

-- trees are put where there is room for all
pub record ArePuttingBack (wholes rest : List (List UnfinishedRequest)) (trees : List (List Pending)) (room : ℕ) : Type 0 where
  pub wrapped : AreWrapped wholes rest trees
  pub fits : length trees + length rest ≤ room

pub back_begins : (wholes rest : List (List UnfinishedRequest)) (trees : List (List Pending)) (room : ℕ) → AllByRecursion IsEngineTree wholes
    → rest ≡ wholes → trees ≡ [] → length wholes ≤ room → ArePuttingBack wholes rest trees room
back_begins wholes rest trees room each same none fits = record {
  wrapped = wrapped_begins wholes rest trees each same none;
  fits = omega (
    arith,
    fits,
    ap (λ (ws : List (List UnfinishedRequest)). length ws) same,
    ap (λ (ts : List (List Pending)). length ts) none,
  );
}

pub back_fits : (wholes rest left : List (List UnfinishedRequest)) (trees : List (List Pending)) (room : ℕ) (whole : List UnfinishedRequest)
    → ArePuttingBack wholes rest trees room → rest ≡ whole ∷ left → length trees < room
back_fits wholes rest left trees room whole h is = omega (arith, h.fits, ap (λ (ws : List (List UnfinishedRequest)). length ws) is)

pub back_step : (wholes rest left : List (List UnfinishedRequest)) (trees now : List (List Pending)) (room after : ℕ)
    (whole : List UnfinishedRequest) (tree : List Pending) → ArePuttingBack wholes rest trees room → rest ≡ whole ∷ left
    → tree ≡ pendings whole → now ≡ trees ++ tree ∷ [] → after ≡ room → ArePuttingBack wholes left now after
back_step wholes rest left trees now room after whole tree h is seen more same = record {
  wrapped = wrapped_step wholes rest left trees now whole tree h.wrapped is seen more;
  fits = omega (
    arith,
    h.fits,
    same,
    ap (λ (ws : List (List UnfinishedRequest)). length ws) is,
    ap (λ (ts : List (List Pending)). length ts) more,
    length-append trees (tree ∷ []),
  );
}
