-- An attempt by families is the attempt of the flat list.
use Rattle.std.proofs.Common.{◌≡◌, ◌≢◌, ℕ, List, [], ◌∷◌, ◌++◌, Bool, true, false, cond, Option, Some, None, refl, sym, ap, ◌∙◌, eq-eqb, append_assoc, append-nil}
use Rattle.std.specs.List.{AllByRecursion}
use Rattle.std.proofs.lemmas.Bool.{ne_eqb}
use Rattle.std.proofs.lemmas.List.Elements.{filter-append}
use Rattle.zio_types.specs.Choices.{Choice}
use Rattle.zio_types.specs.declared.request.Bits.{Bits}
use Rattle.zio_script.specs.Requests.{is_under_number}
use Rattle.zio_cksum.specs.Images.{Images}
use Rattle.zio_cksum.proofs.AllLemmas.{all_append}
use Rattle.zio_gang.specs.Attempts.{Terms, Pending, Return, Child, Own, Attempt, Attempted, add_attempted, added_attempt, joined_attempt, attempt_with, attempt_each, closed_if}
use Rattle.zio_gang.proofs.AttemptLemmas.{attempt_each-append}
use Rattle.zio_trace.specs.Families.{attempt_root, Forest, NoTrees, TreeOf, flat, Grown, attempt_forest, add_root, rooted, NotIn, AreUnder, handed_to, attempted_as}
use Rattle.zio_trace.proofs.ListLemmas.{all_front, all_rest, all_lists}

-- ---- what is handed to a request

kept_all : (n : ℕ) (rs : List Return) → AllByRecursion (λ (r : Return). r.under ≡ Some n) rs → handed_to n rs ≡ rs
kept_all n [] h = refl
kept_all n (r ∷ rs) h =
    ap (λ (b : Bool). cond b (r ∷ handed_to n rs) (handed_to n rs)) (ap (λ (u : Option ℕ). is_under_number u n) h.0 ∙ eq-eqb n n refl)
    ∙ ap (λ (xs : List Return). r ∷ xs) (kept_all n rs h.1)

not_under : (u : Option ℕ) (n : ℕ) → u ≢ Some n → is_under_number u n ≡ false
not_under None n h = refl
not_under (Some m) n h = ne_eqb m n (λ e. h (ap (λ k. Some k) e))

-- what another request hears
passed_over : (n : ℕ) (r : Return) (rs : List Return) (u : Option ℕ) → r.under ≡ u → u ≢ Some n → handed_to n (r ∷ rs) ≡ handed_to n rs
passed_over n r rs u is ne =
    ap (λ (b : Bool). cond b (r ∷ handed_to n rs) (handed_to n rs)) (ap (λ (v : Option ℕ). is_under_number v n) is ∙ not_under u n ne)

kept_none : (n : ℕ) (u : Option ℕ) (rs : List Return) → AllByRecursion (λ (r : Return). r.under ≡ u) rs → u ≢ Some n → handed_to n rs ≡ []
kept_none n u [] h ne = refl
kept_none n u (r ∷ rs) h ne = passed_over n r rs u h.0 ne ∙ kept_none n u rs h.1 ne

closed_under : (again : Bool) (p : Pending) (own : Own) (bits : Bits) (kept : List Child) → (closed_if again p own bits kept).return.under ≡ p.request.under
closed_under true p own bits kept = refl
closed_under false p own bits kept = refl

one_under : (j : List Choice) (t : Terms) (attempt : ℕ) (p : Pending) (returns : List Return) (images : Images) → (attempt_with j t attempt p returns images).return.under ≡ p.request.under
one_under j t attempt p returns images = closed_under _ p _ _ _

roots_under : (j : List Choice) (t : Terms) (attempt : ℕ) (u : Option ℕ) (f : Forest) (images : Images) → AreUnder u f → AllByRecursion (λ (r : Return). r.under ≡ u) (attempt_forest j t attempt f images).returns
roots_under j t attempt u NoTrees images h = tt
roots_under j t attempt u (TreeOf p kids others) images h =
    let k : Grown = attempt_forest j t attempt kids images in
    let one : Attempted = attempt_with j t attempt p k.returns k.images in
    let o : Grown = attempt_forest j t attempt others one.images in
    all_append (λ (r : Return). r.under ≡ u) o.returns (one.return ∷ []) (roots_under j t attempt u others one.images h.2) (one_under j t attempt p k.returns k.images ∙ h.0, tt)

-- ---- the flat list

-- nothing was handed to these before
abbrev pub Fresh : List Return → List Pending → Type 0
Fresh rs ps = AllByRecursion (λ (q : Pending). handed_to q.request.number rs ≡ []) ps

-- what a root leaves, as part of the list and as part of the trees
added_returns : (before returns : List Return) (k : Grown) (one : Attempted) (o : Grown) → added_attempt (attempted_as before k) (add_attempted one (attempted_as returns o)) ≡ attempted_as returns (add_root (rooted k one) o)
added_returns before returns k one o i = record {
  returns = returns;
  ended = sym (append_assoc k.ended one.ended o.ended) i;
  again = sym (append_assoc k.again one.again o.again) i;
  asks = sym (append_assoc k.asks one.asks o.asks) i;
  images = o.images;
}

pub record FlatRun (j : List Choice) (t : Terms) (attempt : ℕ) (f : Forest) (rs : List Return) (images : Images) : Type 0 where
  pub returns : List Return
  pub is : attempt_each j t attempt (flat f) rs images ≡ attempted_as returns (attempt_forest j t attempt f images)
  pub handed : (n : ℕ) → NotIn n (flat f) → handed_to n returns ≡ handed_to n (attempt_forest j t attempt f images).returns ++ handed_to n rs

-- a root hears what its children's trees handed on
pub root_hears : (j : List Choice) (t : Terms) (attempt own : ℕ) (kids : Forest) (rs : List Return) (images : Images) (k : FlatRun j t attempt kids rs images) → AreUnder (Some own) kids → NotIn own (flat kids) → handed_to own rs ≡ [] → handed_to own k.returns ≡ (attempt_forest j t attempt kids images).returns
root_hears j t attempt own kids rs images k under notin none =
    let g : Grown = attempt_forest j t attempt kids images in
    k.handed own notin ∙ ap (λ (xs : List Return). xs ++ handed_to own rs) (kept_all own g.returns (roots_under j t attempt (Some own) kids images under))
    ∙ ap (λ (xs : List Return). g.returns ++ xs) none ∙ append-nil g.returns

-- and others don't
others_hear : (j : List Choice) (t : Terms) (attempt own : ℕ) (kids : Forest) (rs : List Return) (images : Images) (k : FlatRun j t attempt kids rs images) → AreUnder (Some own) kids → (n : ℕ) → own ≢ n → NotIn n (flat kids) → handed_to n k.returns ≡ handed_to n rs
others_hear j t attempt own kids rs images k under n ne notin =
    let g : Grown = attempt_forest j t attempt kids images in
    k.handed n notin ∙ ap (λ (xs : List Return). xs ++ handed_to n rs) (kept_none n (Some own) g.returns (roots_under j t attempt (Some own) kids images under) (λ e. ne (cc)))

pub fresh_behind : (j : List Choice) (t : Terms) (attempt : ℕ) (u : Option ℕ) (p : Pending) (kids others : Forest) (rs : List Return) (images : Images) (k : FlatRun j t attempt kids rs images) → AreUnder u (TreeOf p kids others) → Fresh rs (flat others)
    → Fresh ((attempt_root j t attempt p kids images).return ∷ k.returns) (flat others)
fresh_behind j t attempt u p kids others rs images k h fresh =
    let one : Return = (attempt_root j t attempt p kids images).return in
    all_lists _ (λ (q : Pending). handed_to q.request.number rs ≡ []) (λ (q : Pending). handed_to q.request.number (one ∷ k.returns) ≡ []) (flat others)
    (λ q apart none. passed_over q.request.number one k.returns u (one_under j t attempt p (attempt_forest j t attempt kids images).returns (attempt_forest j t attempt kids images).images ∙ h.0) apart.0 ∙ others_hear j t attempt p.request.number kids rs images k h.1 q.request.number apart.1 apart.2 ∙ none) h.4 fresh

pub flat_run : (j : List Choice) (t : Terms) (attempt : ℕ) (u : Option ℕ) (f : Forest) (rs : List Return) (images : Images) → AreUnder u f → Fresh rs (flat f) → FlatRun j t attempt f rs images
unfolding attempt_each
flat_run j t attempt u NoTrees rs images h fresh = record { returns = rs; is = refl; handed = λ n notin. refl }
flat_run j t attempt u (TreeOf p kids others) rs images h fresh =
    let own : ℕ = p.request.number in
    let k : FlatRun j t attempt kids rs images = flat_run j t attempt (Some own) kids rs images h.1 (all_front (λ (q : Pending). handed_to q.request.number rs ≡ []) (flat kids) (p ∷ flat others) fresh) in
    let rest : Fresh rs (p ∷ flat others) = all_rest (λ (q : Pending). handed_to q.request.number rs ≡ []) (flat kids) (p ∷ flat others) fresh in
    let g : Grown = attempt_forest j t attempt kids images in
    let hear : handed_to own k.returns ≡ g.returns = root_hears j t attempt own kids rs images k h.1 h.3 rest.0 in
    let one : Attempted = attempt_with j t attempt p g.returns g.images in
    let o : FlatRun j t attempt others (one.return ∷ k.returns) one.images =
    flat_run j t attempt u others (one.return ∷ k.returns) one.images h.2 (fresh_behind j t attempt u p kids others rs images k h rest.1) in
    let e : Grown = attempt_forest j t attempt others one.images in
    record {
      returns = o.returns;
      is =
          attempt_each-append j t attempt (flat kids) (p ∷ flat others) rs images
          ∙ ap (λ (a : Attempt). joined_attempt a (attempt_each j t attempt (p ∷ flat others))) k.is
          ∙ ap (λ (heard : List Return). added_attempt (attempted_as k.returns g) (add_attempted (attempt_with j t attempt p heard g.images) (attempt_each j t attempt (flat others) ((attempt_with j t attempt p heard g.images).return ∷ k.returns) (attempt_with j t attempt p heard g.images).images))) hear
          ∙ ap (λ (a : Attempt). added_attempt (attempted_as k.returns g) (add_attempted one a)) o.is
          ∙ added_returns k.returns o.returns g one e;
      handed = λ n notin.
          let back : NotIn n (p ∷ flat others) = all_rest (λ (q : Pending). q.request.number ≢ n) (flat kids) (p ∷ flat others) notin in
          let front : NotIn n (flat kids) = all_front (λ (q : Pending). q.request.number ≢ n) (flat kids) (p ∷ flat others) notin in
          o.handed n back.1
          ∙ ap (λ (xs : List Return). handed_to n e.returns ++ xs) (filter-append (λ (r : Return). is_under_number r.under n) (one.return ∷ []) k.returns ∙ ap (λ (xs : List Return). handed_to n (one.return ∷ []) ++ xs) (others_hear j t attempt own kids rs images k h.1 n back.0 front))
          ∙ sym (append_assoc (handed_to n e.returns) (handed_to n (one.return ∷ [])) (handed_to n rs))
          ∙ ap (λ (xs : List Return). xs ++ handed_to n rs) (sym (filter-append (λ (r : Return). is_under_number r.under n) e.returns (one.return ∷ [])));
    }

pub nothing_handed : (ps : List Pending) → Fresh [] ps
nothing_handed [] = tt
nothing_handed (p ∷ ps) = (refl, nothing_handed ps)

-- An attempt of the list is the attempt by families.
pub families_attempted : (j : List Choice) (t : Terms) (attempt : ℕ) (f : Forest) (images : Images) → AreUnder None f → (returns : List Return) × (attempt_each j t attempt (flat f) [] images ≡ attempted_as returns (attempt_forest j t attempt f images))
families_attempted j t attempt f images h =
    let run : FlatRun j t attempt f [] images = flat_run j t attempt None f [] images h (nothing_handed (flat f)) in
    (run.returns, run.is)

-- one tree alone: the root is attempted last
pub root_attempted : (j : List Choice) (t : Terms) (attempt : ℕ) (p : Pending) (kids : Forest) (images : Images) → AreUnder None (TreeOf p kids NoTrees) → (rest : List Return) × (attempt_each j t attempt (flat kids ++ p ∷ []) [] images ≡ attempted_as ((attempt_root j t attempt p kids images).return ∷ rest) (attempt_forest j t attempt (TreeOf p kids NoTrees) images))
unfolding attempt_each flat_run
root_attempted j t attempt p kids images h =
    let run : FlatRun j t attempt (TreeOf p kids NoTrees) [] images = flat_run j t attempt None (TreeOf p kids NoTrees) [] images h (nothing_handed (flat kids ++ p ∷ [])) in
    let k : FlatRun j t attempt kids [] images = flat_run j t attempt (Some p.request.number) kids [] images h.1 (all_front (λ (q : Pending). handed_to q.request.number [] ≡ []) (flat kids) (p ∷ []) (nothing_handed (flat kids ++ p ∷ []))) in
    (k.returns, run.is)
