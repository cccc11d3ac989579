-- What holds of the requests of some trees holds of what running them leaves.
use Rattle.std.proofs.Common.{ℕ, zero, suc, ◌+◌, List, [], ◌∷◌, Bool, true, false}
use Rattle.std.specs.List.{AllByRecursion}
use Rattle.zio_types.specs.Choices.{Choice}
use Rattle.zio_cksum.specs.Images.{Images}
use Rattle.zio_cksum.proofs.AllLemmas.{all_append}
use Rattle.zio_types.specs.declared.request.Bits.{Bits}
use Rattle.zio_script.specs.declared.script.Request.{Request}
use Rattle.zio_gang.specs.Attempts.{Attempt, Attempted, Child, Ended, Own, Pending, Return, Settled, Terms, attempt_each, attempt_one, closed_if, settle, settle_from, settled_if}
use Rattle.zio_gang.specs.Rounds.{Ran, add_left, settle_each}

-- so it is with each request that finished, and with each that goes again
abbrev AreOf : (Request → Type 0) → List Ended → List Pending → Type 0
AreOf P ended again = AllByRecursion (λ (e : Ended). P e.request) ended × AllByRecursion (λ (p : Pending). P p.request) again

closed_of : (P : Request → Type 0) (again : Bool) (p : Pending) (own : Own) (bits : Bits) (kept : List Child) → P p.request
    → AreOf P (closed_if again p own bits kept).ended (closed_if again p own bits kept).again
closed_of P true p own bits kept h = (tt, (h, tt))
closed_of P false p own bits kept h = ((h, tt), tt)

each_of : (P : Request → Type 0) (j : List Choice) (t : Terms) (attempt : ℕ) (tree : List Pending) (returns : List Return) (images : Images)
    → AllByRecursion (λ (p : Pending). P p.request) tree
    → AreOf P (attempt_each j t attempt tree returns images).ended (attempt_each j t attempt tree returns images).again
unfolding attempt_each
each_of P j t attempt [] returns images h = (tt, tt)
each_of P j t attempt (p ∷ tree) returns images h =
    let one : Attempted = attempt_one j t attempt p returns images in
    let rest : Attempt = attempt_each j t attempt tree (one.return ∷ returns) one.images in
    let here : AreOf P one.ended one.again = closed_of P _ p _ _ _ h.0 in
    let there : AreOf P rest.ended rest.again = each_of P j t attempt tree (one.return ∷ returns) one.images h.1 in (
      all_append (λ (e : Ended). P e.request) one.ended rest.ended here.0 there.0,
      all_append (λ (q : Pending). P q.request) one.again rest.again here.1 there.1,
    )

settled_of : (P : Request → Type 0) (now : Bool) (a : Attempt) (again : List Pending → Images → Settled) → AreOf P a.ended a.again
    → (AllByRecursion (λ (p : Pending). P p.request) a.again → AreOf P (again a.again a.images).ended (again a.again a.images).left)
    → AreOf P (settled_if now a again).ended (settled_if now a again).left
settled_of P true a again h later =
    let rest = later h.1 in (all_append (λ (e : Ended). P e.request) a.ended (again a.again a.images).ended h.0 rest.0, rest.1)
settled_of P false a again h later = h

settle_of : (P : Request → Type 0) (more : ℕ) (j : List Choice) (t : Terms) (attempt : ℕ) (tree : List Pending) (images : Images)
    → AllByRecursion (λ (p : Pending). P p.request) tree
    → AreOf P (settle_from more j t attempt tree images).ended (settle_from more j t attempt tree images).left
unfolding settle_from
settle_of P zero j t attempt tree images h = each_of P j t attempt tree [] images h
settle_of P (suc more) j t attempt tree images h =
    let a : Attempt = attempt_each j t attempt tree [] images in
    settled_of P _ a (settle_from more j t (attempt + 1)) (each_of P j t attempt tree [] images h)
    (λ rest. settle_of P more j t (attempt + 1) a.again a.images rest)

-- so it is with each request of these trees
abbrev pub AreTreesOf : (Request → Type 0) → List (List Pending) → Type 0
AreTreesOf P trees = AllByRecursion (λ (tree : List Pending). AllByRecursion (λ (p : Pending). P p.request) tree) trees

left_of : (P : Request → Type 0) (left : List Pending) (trees : List (List Pending)) → AllByRecursion (λ (p : Pending). P p.request) left → AreTreesOf P trees
    → AreTreesOf P (add_left left trees)
left_of P [] trees h ht = ht
left_of P (p ∷ ps) trees h ht = (h, ht)

pub ran_of : (P : Request → Type 0) (j : List Choice) (t : Terms) (trees : List (List Pending)) (images : Images) → AreTreesOf P trees
    → AllByRecursion (λ (e : Ended). P e.request) (settle_each j t trees images).ended × AreTreesOf P (settle_each j t trees images).left
unfolding settle_each
ran_of P j t [] images h = (tt, tt)
ran_of P j t (tree ∷ trees) images h =
    let s : Settled = settle j t tree images in
    let rest : Ran = settle_each j t trees s.images in
    let here : AreOf P s.ended s.left = settle_of P 3 j t 0 tree images h.0 in
    let there = ran_of P j t trees s.images h.1 in (
      all_append (λ (e : Ended). P e.request) s.ended rest.ended here.0 there.0,
      left_of P s.left rest.left here.1 there.1,
    )
