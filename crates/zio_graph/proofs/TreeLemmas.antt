-- Trees as the engine keeps them, opened one by one.
use Rattle.std.proofs.Common.{◌≡◌, ℕ, ◌+◌, ◌<◌, ◌≤◌, List, [], ◌∷◌, ◌++◌, length, map, reverse, sym, ap, ◌∙◌, subst, arith, length-append}
use Rattle.std.specs.List.{AllByRecursion}
use Rattle.std.proofs.lemmas.List.{append-nil, append_assoc, length-reverse, map-append, reverse-append, reverse-reverse}
use Rattle.zio_cksum.proofs.AllLemmas.{all_append}
use Rattle.zio_gang.specs.Attempts.{Pending}
use Rattle.zio_exchange.specs.Waits.{pendings}
use Rattle.zio_exchange.specs.declared.waiting.UnfinishedRequest.{UnfinishedRequest}
use Rattle.zio_graph.specs.EngineTrees.{IsEngineTree}

-- the first of the trees were opened, and these are left
pub record AreOpened (trees rest : List (List Pending)) (wholes : List (List UnfinishedRequest)) : Type 0 where
  pub same : map pendings wholes ++ rest ≡ trees
  pub each : AllByRecursion IsEngineTree wholes

pub opened_begins : (trees rest : List (List Pending)) (wholes : List (List UnfinishedRequest)) → trees ≡ rest → wholes ≡ [] → AreOpened trees rest wholes
opened_begins trees rest wholes same none = record {
  same = ap (λ (ws : List (List UnfinishedRequest)). map pendings ws ++ rest) none ∙ sym same;
  each = subst (AllByRecursion IsEngineTree) (sym none) tt;
}

pub opened_step : (trees rest left : List (List Pending)) (wholes now : List (List UnfinishedRequest)) (tree : List Pending) (whole : List UnfinishedRequest) → AreOpened trees rest wholes
    → rest ≡ tree ∷ left → pendings whole ≡ tree → IsEngineTree whole → now ≡ wholes ++ whole ∷ [] → AreOpened trees left now
opened_step trees rest left wholes now tree whole h is seen of_tree more = record {
  same = ap (λ (ws : List (List UnfinishedRequest)). map pendings ws ++ left) more
      ∙ ap (λ (ps : List (List Pending)). ps ++ left) (map-append pendings wholes (whole ∷ []))
      ∙ append_assoc (map pendings wholes) (pendings whole ∷ []) left
      ∙ ap (λ (t : List Pending). map pendings wholes ++ t ∷ left) seen
      ∙ ap (λ (ps : List (List Pending)). map pendings wholes ++ ps) (sym is)
      ∙ h.same;
  each = subst (AllByRecursion IsEngineTree) (sym more) (all_append IsEngineTree wholes (whole ∷ []) h.each (of_tree, tt));
}

-- trees are opened from the end of a vector in which they stand the last first, and there is room for the others
pub record AreOpening (trees behind : List (List Pending)) (wholes : List (List UnfinishedRequest)) (room left : ℕ) : Type 0 where
  pub opened : AreOpened trees (reverse behind) wholes
  pub fits : length wholes + length behind ≤ room
  pub stays : length wholes + length behind ≤ left

pub opening_begins : (trees behind : List (List Pending)) (wholes : List (List UnfinishedRequest)) (room left : ℕ) → behind ≡ reverse trees
    → wholes ≡ [] → length trees ≤ room → length trees ≤ left → AreOpening trees behind wholes room left
opening_begins trees behind wholes room left turned none fits stays =
    let count : length behind ≡ length trees = ap length turned ∙ length-reverse trees in
    record {
      opened = opened_begins trees (reverse behind) wholes (sym (ap reverse turned ∙ reverse-reverse trees)) none;
      fits = omega (arith, count, ap (λ (ws : List (List UnfinishedRequest)). length ws) none, fits);
      stays = omega (arith, count, ap (λ (ws : List (List UnfinishedRequest)). length ws) none, stays);
    }

pub opening_fits : (trees behind next : List (List Pending)) (wholes : List (List UnfinishedRequest)) (room left : ℕ) (tree : List Pending)
    → AreOpening trees behind wholes room left → behind ≡ next ++ tree ∷ [] → length wholes < room
opening_fits trees behind next wholes room left tree h is =
    omega (arith, h.fits, ap (λ (ts : List (List Pending)). length ts) is, length-append next (tree ∷ []))

pub opening_step : (trees behind next : List (List Pending)) (wholes now : List (List UnfinishedRequest)) (room left after still : ℕ)
    (tree : List Pending) (whole : List UnfinishedRequest) → AreOpening trees behind wholes room left → behind ≡ next ++ tree ∷ []
    → pendings whole ≡ tree → IsEngineTree whole → now ≡ wholes ++ whole ∷ [] → after ≡ room → still ≡ left
    → AreOpening trees next now after still
opening_step trees behind next wholes now room left after still tree whole h is seen of_tree more same stays =
    let count : length behind ≡ length next + 1 = ap (λ (ts : List (List Pending)). length ts) is ∙ length-append next (tree ∷ []) in
    let grown : length now ≡ length wholes + 1 =
    ap (λ (ws : List (List UnfinishedRequest)). length ws) more ∙ length-append wholes (whole ∷ []) in
    record {
      opened = opened_step trees (reverse behind) (reverse next) wholes now tree whole h.opened
          (ap reverse is ∙ reverse-append next (tree ∷ [])) seen of_tree more;
      fits = omega (arith, h.fits, count, grown, same);
      stays = omega (arith, h.stays, count, grown, stays);
    }

pub opening_all : (trees behind : List (List Pending)) (wholes : List (List UnfinishedRequest)) (room left : ℕ)
    → AreOpening trees behind wholes room left → behind ≡ [] → map pendings wholes ≡ trees
opening_all trees behind wholes room left h none =
    sym (append-nil (map pendings wholes)) ∙ ap (λ (ps : List (List Pending)). map pendings wholes ++ ps) (sym (ap reverse none)) ∙ h.opened.same
