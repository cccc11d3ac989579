-- Whose ends these are: each request that finished is one of the tree's.
use Rattle.std.proofs.Common.{◌≡◌, ◌≢◌, ℕ, ◌≤◌, List, [], ◌∷◌, ◌++◌, length, count_by, true, ◌==◌, inl, inr, refl, sym, ap, ◌∙◌, subst}
use Rattle.std.specs.Prelude.{None, is_some}
use Rattle.std.specs.List.{AllByRecursion}
use Rattle.std.proofs.lemmas.List.{map-append}
use Rattle.zio_cksum.proofs.AllLemmas.{all_append, all_weaker}
use Rattle.zio_script.specs.declared.script.Request.{Request}
use Rattle.zio_script.specs.Requests.{makes_block}
use Rattle.zio_gang.specs.Attempts.{Pending}
use Rattle.zio_course.specs.declared.runner.RequestEnd.{RequestEnd}
use Rattle.zio_course.specs.Runners.{HasReadSize, MakesTree, joined_trees, read_size, requests_in as requests_of}
use Rattle.zio_course.proofs.SortLemmas.{IsOneOf, one_left, one_right}
use Rattle.zio_plain.specs.declared.judge.Fate.{Fate}
use Rattle.zio_plain.specs.declared.judge.Fate.TheVariants.{Ends, Again}
use Rattle.zio_plain.specs.declared.waiting.Waiting.{Waiting}
use Rattle.zio_plain.specs.Judgments.{again_of, ends_of}
use Rattle.zio_plain.specs.Passes.{AreChained, AreNumberedApart, Fated, IsFated, IsFateOf, all_ends, ends_in, left_in, waitings_in}
use Rattle.zio_plain.specs.Settlings.{IsTreeRun, TreeRun, ends_run, requests_run, trees_in}
use Rattle.zio_plain.specs.Waits.{pending_of, pendings}
use Rattle.zio_plain.proofs.SettlingLemmas.{numbered_apart, requests_runs}

-- what is known of the end of a request, by the request and its block
pub record IsEndFor (w : Waiting) (f : RequestEnd) : Type 0 where
  pub number : f.request ≡ w.request.number
  pub size : f.error ≡ None → AllByRecursion (λ n. length f.bytes ≡ n) (read_size w.request.work w.block)
  pub makes : is_some f.tree ≡ true → (f.error ≡ None) × (makes_block w.request.work ≡ true)

-- one of the requests has this end
pub record IsOwned (ws : List Waiting) (f : RequestEnd) : Type 0 where
  pub owner : Waiting
  pub at : IsOneOf owner ws
  pub end : IsEndFor owner f

owned_more : (w : Waiting) (ws : List Waiting) (fs : List RequestEnd) → AllByRecursion (IsOwned ws) fs → AllByRecursion (IsOwned (w ∷ ws)) fs
owned_more w ws fs h = all_weaker (IsOwned ws) (IsOwned (w ∷ ws)) fs (λ f k. record { owner = k.owner; at = inr k.at; end = k.end }) h

pub pass_owned : (fs : List Fated) → AllByRecursion IsFated fs → AllByRecursion (IsOwned (waitings_in fs)) (ends_in fs)
pass_owned [] each = tt
pass_owned (f ∷ fs) each = one f.fate each.0.is (owned_more f.waiting (waitings_in fs) (ends_in fs) (pass_owned fs each.1))
  where
    one : (fate : Fate) → IsFateOf f.waiting each.0.kids fate → AllByRecursion (IsOwned (f.waiting ∷ waitings_in fs)) (ends_in fs) → AllByRecursion (IsOwned (f.waiting ∷ waitings_in fs)) (ends_of fate ++ ends_in fs)
    one (Ends e) is rest = (record { owner = f.waiting; at = inl refl; end = record { number = is.request; size = is.size; makes = is.makes } }, rest)
    one (Again v) is rest = rest

-- the request that a request that is left was before
pub record WasOne (ws : List Waiting) (v : Waiting) : Type 0 where
  pub before : Waiting
  pub at : IsOneOf before ws
  pub request : v.request ≡ before.request
  pub birth : v.birth ≡ before.birth
  pub block : v.block ≡ before.block

pub left_was : (fs : List Fated) (v : Waiting) → AllByRecursion IsFated fs → IsOneOf v (left_in fs) → WasOne (waitings_in fs) v
left_was [] v each at = absurd at
left_was (f ∷ fs) v each at = one f.fate each.0.is (λ k. left_was fs v each.1 k) at
  where
    one : (fate : Fate) → IsFateOf f.waiting each.0.kids fate → (IsOneOf v (left_in fs) → WasOne (waitings_in fs) v) → IsOneOf v (again_of fate ++ left_in fs) → WasOne (f.waiting ∷ waitings_in fs) v
    one (Ends e) is later k = let w = later k in record { before = w.before; at = inr w.at; request = w.request; birth = w.birth; block = w.block }
    one (Again u) is later (inl same) = record {
      before = f.waiting;
      at = inl refl;
      request = ap (λ (x : Waiting). x.request) (sym same) ∙ is.request;
      birth = ap (λ (x : Waiting). x.birth) (sym same) ∙ is.birth;
      block = ap (λ (x : Waiting). x.block) (sym same) ∙ is.block;
    }
    one (Again u) is later (inr k) = let w = later k in record { before = w.before; at = inr w.at; request = w.request; birth = w.birth; block = w.block }

end_before : (w v : Waiting) (f : RequestEnd) → v.request ≡ w.request → v.block ≡ w.block → IsEndFor v f → IsEndFor w f
end_before w v f request block h = record {
  number = h.number ∙ ap (λ (r : Request). r.number) request;
  size = λ none. subst (λ b. AllByRecursion (λ n. length f.bytes ≡ n) (read_size w.request.work b)) block
      (subst (λ (r : Request). AllByRecursion (λ n. length f.bytes ≡ n) (read_size r.work v.block)) request (h.size none));
  makes = λ some. let k = h.makes some in (k.0, ap (λ (r : Request). makes_block r.work) (sym request) ∙ k.1);
}

pub chain_owned : (tree : List Waiting) (passes : List (List Fated)) (left : List Waiting) → AreChained tree passes left → AllByRecursion (IsOwned tree) (all_ends passes)
chain_owned tree [] left h = tt
chain_owned tree (fs ∷ passes) left h =
    subst (λ ws. AllByRecursion (IsOwned ws) (ends_in fs ++ all_ends passes)) (sym h.0.whole)
    (all_append (IsOwned (waitings_in fs)) (ends_in fs) (all_ends passes) (pass_owned fs h.0.each)
    (all_weaker (IsOwned (left_in fs)) (IsOwned (waitings_in fs)) (all_ends passes)
    (λ f k. let w = left_was fs k.owner h.0.each k.at in record { owner = w.before; at = w.at; end = end_before w.before k.owner f w.request w.block k.end })
    (chain_owned (left_in fs) passes left h.1)))

pub runs_owned : (runs : List TreeRun) → AllByRecursion IsTreeRun runs → AllByRecursion (IsOwned (requests_run runs)) (ends_run runs)
runs_owned [] each = tt
runs_owned (r ∷ runs) each =
    all_append (IsOwned (requests_run (r ∷ runs))) (all_ends r.passes) (ends_run runs)
    (all_weaker (IsOwned r.tree) (IsOwned (requests_run (r ∷ runs))) (all_ends r.passes)
    (λ f k. record { owner = k.owner; at = one_left k.owner r.tree (requests_run runs) k.at; end = k.end }) (chain_owned r.tree r.passes r.left each.0.chained))
    (all_weaker (IsOwned (requests_run runs)) (IsOwned (requests_run (r ∷ runs))) (ends_run runs)
    (λ f k. record { owner = k.owner; at = one_right k.owner r.tree (requests_run runs) k.at; end = k.end }) (runs_owned runs each.1))

-- ---- one request for each number

all_at : {X : Type 0} (P : X → Type 0) (x : X) (xs : List X) → AllByRecursion P xs → IsOneOf x xs → P x
all_at P x [] h at = absurd at
all_at P x (y ∷ ys) h (inl same) = subst P same h.0
all_at P x (y ∷ ys) h (inr at) = all_at P x ys h.1 at

pub one_number : (w v : Waiting) (ws : List Waiting) → AreNumberedApart ws → IsOneOf w ws → IsOneOf v ws → v.request.number ≡ w.request.number → v ≡ w
one_number w v [] apart a b e = absurd a
one_number w v (x ∷ ws) apart (inl a) (inl b) e = sym b ∙ a
one_number w v (x ∷ ws) apart (inl a) (inr b) e = absurd (all_at (λ (q : Waiting). q.request.number ≢ x.request.number) v ws apart.0 b (e ∙ ap (λ (q : Waiting). q.request.number) (sym a)))
one_number w v (x ∷ ws) apart (inr a) (inl b) e = absurd (all_at (λ (q : Waiting). q.request.number ≢ x.request.number) w ws apart.0 a (sym e ∙ ap (λ (q : Waiting). q.request.number) (sym b)))
one_number w v (x ∷ ws) apart (inr a) (inr b) e = one_number w v ws apart.1 a b e

-- of all pending requests of this number
each_numbered : (P : Waiting → Type 0) (n : ℕ) (ws : List Waiting) → ((v : Waiting) → IsOneOf v ws → v.request.number ≡ n → P v) → AllByRecursion (λ (v : Waiting). v.request.number ≡ n → P v) ws
each_numbered P n [] h = tt
each_numbered P n (v ∷ ws) h = (h v (inl refl), each_numbered P n ws (λ u at. h u (inr at)))

seen_all : (P : Pending → Type 0) (ws : List Waiting) → AllByRecursion (λ (w : Waiting). P (pending_of w)) ws → AllByRecursion P (pendings ws)
seen_all P [] h = tt
seen_all P (w ∷ ws) h = (h.0, seen_all P ws h.1)

pub joined_runs : (runs : List TreeRun) → joined_trees (trees_in runs) ≡ pendings (requests_run runs)
joined_runs [] = refl
joined_runs (r ∷ runs) = ap (λ ps. pendings r.tree ++ ps) (joined_runs runs) ∙ sym (map-append pending_of r.tree (requests_run runs))

owned_read : (ws : List Waiting) (f : RequestEnd) → AreNumberedApart ws → IsOwned ws f → f.error ≡ None
    → AllByRecursion (λ (v : Waiting). v.request.number ≡ f.request → AllByRecursion (λ n. length f.bytes ≡ n) (read_size v.request.work v.block)) ws
owned_read ws f apart h none =
    each_numbered (λ v. AllByRecursion (λ n. length f.bytes ≡ n) (read_size v.request.work v.block)) f.request ws
    (λ v at e. subst (λ (u : Waiting). AllByRecursion (λ n. length f.bytes ≡ n) (read_size u.request.work u.block)) (sym (one_number h.owner v ws apart h.at at (e ∙ h.end.number))) (h.end.size none))

owned_makes : (ws : List Waiting) (f : RequestEnd) → AreNumberedApart ws → IsOwned ws f → is_some f.tree ≡ true
    → AllByRecursion (λ (v : Waiting). v.request.number ≡ f.request → makes_block v.request.work ≡ true) ws
owned_makes ws f apart h some =
    each_numbered (λ v. makes_block v.request.work ≡ true) f.request ws
    (λ v at e. subst (λ (u : Waiting). makes_block u.request.work ≡ true) (sym (one_number h.owner v ws apart h.at at (e ∙ h.end.number))) (h.end.makes some).1)

pub reads_right : (trees : List (List Pending)) (runs : List TreeRun) → trees ≡ trees_in runs → AllByRecursion IsTreeRun runs → AreNumberedApart (requests_run runs) → AllByRecursion (HasReadSize trees) (ends_run runs)
reads_right trees runs whole each apart =
    all_weaker (IsOwned (requests_run runs)) (HasReadSize trees) (ends_run runs)
    (λ f h none. subst (AllByRecursion (λ (p : Pending). p.request.number ≡ f.request → AllByRecursion (λ n. length f.bytes ≡ n) (read_size p.request.work p.block)))
    (sym (ap joined_trees whole ∙ joined_runs runs))
    (seen_all (λ (p : Pending). p.request.number ≡ f.request → AllByRecursion (λ n. length f.bytes ≡ n) (read_size p.request.work p.block)) (requests_run runs) (owned_read (requests_run runs) f apart h none)))
    (runs_owned runs each)

pub makers_right : (trees : List (List Pending)) (runs : List TreeRun) → trees ≡ trees_in runs → AllByRecursion IsTreeRun runs → AreNumberedApart (requests_run runs) → AllByRecursion (MakesTree trees) (ends_run runs)
makers_right trees runs whole each apart =
    all_weaker (IsOwned (requests_run runs)) (MakesTree trees) (ends_run runs)
    (λ f h some. (
      (h.end.makes some).0,
      subst (AllByRecursion (λ (p : Pending). p.request.number ≡ f.request → makes_block p.request.work ≡ true)) (sym (ap joined_trees whole ∙ joined_runs runs))
          (seen_all (λ (p : Pending). p.request.number ≡ f.request → makes_block p.request.work ≡ true) (requests_run runs) (owned_makes (requests_run runs) f apart h some)),
    ))
    (runs_owned runs each)

-- where each number stands once
pub runs_apart : (trees : List (List Pending)) (runs : List TreeRun) → trees ≡ trees_in runs → ((n : ℕ) → count_by (λ (r : Request). r.number == n) (requests_of trees) ≤ 1) → AreNumberedApart (requests_run runs)
runs_apart trees runs whole once =
    numbered_apart (requests_run runs) (λ n. subst (λ rs. count_by (λ (r : Request). r.number == n) rs ≤ 1) (ap requests_of whole ∙ requests_runs runs) (once n))
