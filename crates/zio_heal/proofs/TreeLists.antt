-- What holds of each request of a batch holds in its trees, and what admission lets through.
use Rattle.std.proofs.Common.{◌≡◌, ℕ, List, [], ◌∷◌, flat_map, Bool, true, false, ◌==◌, Option, Some, None, refl}
use Rattle.std.specs.List.{AllByRecursion}
use Rattle.zio_types.specs.declared.error.Errno.{Errno}
use Rattle.zio_script.specs.declared.script.Request.{Request}
use Rattle.zio_cksum.proofs.AllLemmas.{all_append, all_map, all_weaker}
use Rattle.zio_gang.specs.Attempts.{Pending}
use Rattle.zio_gang.specs.Rounds.{Admitted, admit_with, admission, admitted, put_before, put_if, with_request, with_requests}

put_all : (P : Request → Type 0) (b : Bool) (r q : Request) (qs placed : List Request) → P r → P q → AllByRecursion P qs → AllByRecursion P placed → AllByRecursion P (put_if b r q qs placed)
put_all P true r q qs placed hr hq hqs hp = (hr, (hq, hqs))
put_all P false r q qs placed hr hq hqs hp = (hq, hp)

before_all : (P : Request → Type 0) (parent : ℕ) (r : Request) (tree : List Request) → P r → AllByRecursion P tree → AllByRecursion P (put_before parent r tree)
before_all P parent r [] hr h = tt
before_all P parent r (q ∷ qs) hr h = put_all P (q.number == parent) r q qs (put_before parent r qs) hr h.0 h.1 (before_all P parent r qs hr h.1)

pub one_all : (P : Request → Type 0) (under : Option ℕ) (r : Request) (trees : List (List Request)) → P r → AllByRecursion (AllByRecursion P) trees → AllByRecursion (AllByRecursion P) (with_request under r trees)
one_all P None r trees hr h = all_append (AllByRecursion P) trees ((r ∷ []) ∷ []) h ((hr, tt), tt)
one_all P (Some parent) r trees hr h =
    all_map (AllByRecursion P) (put_before parent r) trees
    (all_weaker (AllByRecursion P) (λ (tree : List Request). AllByRecursion P (put_before parent r tree)) trees (λ tree one. before_all P parent r tree hr one) h)

pub trees_all : (P : Request → Type 0) (rs : List Request) (trees : List (List Request)) → AllByRecursion P rs → AllByRecursion (AllByRecursion P) trees → AllByRecursion (AllByRecursion P) (with_requests rs trees)
trees_all P [] trees hr h = h
trees_all P (r ∷ rs) trees hr h = trees_all P rs (with_request r.under r trees) hr.1 (one_all P r.under r trees hr.0 h)

admit_all : (T : List Request → Type 0) (e : Option Errno) (tree : List Request) (others : Admitted) → (e ≡ None → T tree) → AllByRecursion T others.trees → AllByRecursion T (admit_with e tree others).trees
admit_all T (Some e) tree others h hs = hs
admit_all T None tree others h hs = (h refl, hs)

-- each tree that runs is one that admission doesn't answer
pub admitted_all : (T U : List Request → Type 0) (suspended : List (List Pending)) (bound : List ℕ → Bool) (trees : List (List Request)) → ((tree : List Request) → admission suspended bound tree ≡ None → T tree → U tree) → AllByRecursion T trees
    → AllByRecursion U (admitted suspended bound trees).trees
admitted_all T U suspended bound [] f h = tt
admitted_all T U suspended bound (tree ∷ trees) f h =
    admit_all U (admission suspended bound tree) tree (admitted suspended bound trees) (λ none. f tree none h.0) (admitted_all T U suspended bound trees f h.1)

-- all requests of some trees
abbrev pub flat_trees : List (List Request) → List Request
flat_trees trees = flat_map (λ (tree : List Request). tree) trees

pub flat_all : (P : Request → Type 0) (trees : List (List Request)) → AllByRecursion (AllByRecursion P) trees → AllByRecursion P (flat_trees trees)
flat_all P [] h = tt
flat_all P (tree ∷ trees) h = all_append P tree (flat_trees trees) h.0 (flat_all P trees h.1)
