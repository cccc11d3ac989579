-- Of repairs that are clear of each other any may be made first.
use Rattle.std.proofs.Common.{◌≡◌, ℕ, zero, suc, ◌+◌, ◌<◌, ◌≤◌, List, [], ◌∷◌, length, get_or, Bool, true, false, ◌&&◌, not, inr, refl, sym, ap, subst, ◌∙◌, arith}
use Rattle.std.specs.Prelude.{◌==◌}
use Rattle.std.specs.List.{AllByRecursion}
use Rattle.std.proofs.lemmas.Bool.Decides.{nat_tests}
use Rattle.zio_cksum.specs.Images.{Images, Setting, write_leaf}
use Rattle.zio_trace.specs.Leaves.{AreClear, HaveSizes, LiesOn}
use Rattle.zio_trace.specs.TreeOrders.{Pairs}
use Rattle.zio_trace.proofs.LeafLemmas.{leaves_commute}
use Rattle.zio_scrub.specs.declared.repairs.Repair.{Repair}
use Rattle.zio_scrub.specs.Repairs.{ClearOf}
use Rattle.zio_scrub.specs.Scrubs.{mend, total}
use Rattle.zio_scrub.proofs.MendLemmas.{as_store}

-- ---- repairs of which some are left, by their numbers from n on

abbrev pub but : (ℕ → Bool) → ℕ → ℕ → Bool
but keep ticket u = keep u && not (ticket == u)

abbrev pub kept_if : Bool → Repair → List Repair → List Repair
kept_if true r rs = r ∷ rs
kept_if false r rs = rs

abbrev pub kept_by : (ℕ → Bool) → ℕ → List Repair → List Repair
kept_by keep n [] = []
kept_by keep n (r ∷ rs) = kept_if (keep n) r (kept_by keep (n + 1) rs)

pub kept_same : (f g : ℕ → Bool) (n : ℕ) (rs : List Repair) → ((u : ℕ) → n ≤ u → u < n + length rs → f u ≡ g u) → kept_by f n rs ≡ kept_by g n rs
kept_same f g n [] h = refl
kept_same f g n (r ∷ rs) h =
    let first : f n ≡ g n = h n (omega arith) (omega arith) in
    let rest : kept_by f (n + 1) rs ≡ kept_by g (n + 1) rs = kept_same f g (n + 1) rs (λ u l m. h u (omega arith) (omega arith)) in
    cc

pub kept_all : (keep : ℕ → Bool) (n : ℕ) (rs : List Repair) → ((u : ℕ) → n ≤ u → u < n + length rs → keep u ≡ true) → kept_by keep n rs ≡ rs
kept_all keep n [] h = refl
kept_all keep n (r ∷ rs) h =
    let first : keep n ≡ true = h n (omega arith) (omega arith) in
    let rest : kept_by keep (n + 1) rs ≡ rs = kept_all keep (n + 1) rs (λ u l m. h u (omega arith) (omega arith)) in
    ap (λ (b : Bool). kept_if b r (kept_by keep (n + 1) rs)) first ∙ ap (λ (xs : List Repair). r ∷ xs) rest

pub kept_none : (keep : ℕ → Bool) (n : ℕ) (rs : List Repair) → ((u : ℕ) → n ≤ u → u < n + length rs → keep u ≡ false) → kept_by keep n rs ≡ []
kept_none keep n [] h = refl
kept_none keep n (r ∷ rs) h =
    let first : keep n ≡ false = h n (omega arith) (omega arith) in
    ap (λ (b : Bool). kept_if b r (kept_by keep (n + 1) rs)) first
    ∙ kept_none keep (n + 1) rs (λ u l m. h u (omega arith) (omega arith))

not_this : (keep : ℕ → Bool) (ticket u : ℕ) → ticket ≡ u → but keep ticket u ≡ false
not_this keep ticket u e = grind (arith, nat_tests)

other_than : (keep : ℕ → Bool) (ticket u : ℕ) → (ticket ≡ u → ◌≡◌ {A = Bool} true false) → but keep ticket u ≡ keep u
other_than keep ticket u ne = grind (arith, nat_tests)

later : (keep : ℕ → Bool) (ticket u : ℕ) → ticket < u → keep u ≡ but keep ticket u
later keep ticket u l = sym (other_than keep ticket u (λ e. absurd (omega arith)))

earlier : (keep : ℕ → Bool) (ticket u : ℕ) → u < ticket → but keep ticket u ≡ keep u
earlier keep ticket u l = other_than keep ticket u (λ e. absurd (omega arith))

-- ---- one of them

abbrev pub AllLie : (ℕ → ℕ) → List Repair → Type 0
AllLie sizes rs = AllByRecursion (λ (r : Repair). LiesOn sizes (as_store r)) rs

pub all_got : {X : Type 0} (P : X → Type 0) (xs : List X) (i : ℕ) (x : X) → i < length xs → get_or xs i x ≡ x → AllByRecursion P xs → P x
all_got P [] i x l e h = absurd (omega arith)
all_got P (y ∷ ys) zero x l e h = subst P e h.0
all_got P (y ∷ ys) (suc i) x l e h = all_got P ys i x (omega arith) e h.1

abbrev pub after : Setting → Images → Repair → Images
after s images r = (write_leaf s false r.bytes images r.spot).images

pick_step : (s : Setting) (sizes : ℕ → ℕ) (b c : Bool) (q r : Repair) (rest left : List Repair) (images : Images) → c ≡ b
    → HaveSizes sizes images → LiesOn sizes (as_store q) → LiesOn sizes (as_store r) → AreClear q.spot r.spot
    → ((now : Images) → HaveSizes sizes now → (mend s rest now).images ≡ (mend s left (after s now r)).images)
    → (mend s (kept_if b q rest) images).images ≡ (mend s (kept_if c q left) (after s images r)).images
pick_step s sizes true true q r rest left images e have lq lr clear ih =
    let c = leaves_commute s sizes in
    ih (after s images q) (c.sound (as_store q) images have lq)
    ∙ ap (λ (now : Images). (mend s left now).images) (c.images (as_store q) (as_store r) images (inr clear) have lq lr)
pick_step s sizes false false q r rest left images e have lq lr clear ih = ih images have
pick_step s sizes true false q r rest left images e have lq lr clear ih = absurd (let no : ⊥ = cc in no)
pick_step s sizes false true q r rest left images e have lq lr clear ih = absurd (let no : ⊥ = cc in no)

total_step : (f : Repair → ℕ) (b c : Bool) (q r : Repair) (rest left : List Repair) → c ≡ b
    → total f rest ≡ f r + total f left → total f (kept_if b q rest) ≡ f r + total f (kept_if c q left)
total_step f true true q r rest left e h = omega (arith, h)
total_step f false false q r rest left e h = h
total_step f true false q r rest left e h = absurd (let no : ⊥ = cc in no)
total_step f false true q r rest left e h = absurd (let no : ⊥ = cc in no)

pub pick_images : (s : Setting) (sizes : ℕ → ℕ) (keep : ℕ → Bool) (n ticket : ℕ) (rs : List Repair) (images : Images) (i : ℕ) (r : Repair)
    → HaveSizes sizes images → AllLie sizes rs → Pairs ClearOf rs → i < length rs → get_or rs i r ≡ r → ticket ≡ n + i → keep ticket ≡ true
    → (mend s (kept_by keep n rs) images).images ≡ (mend s (kept_by (but keep ticket) n rs) (after s images r)).images
pick_images s sizes keep n ticket [] images i r have lies pairs l e at k = absurd (omega arith)
pick_images s sizes keep n ticket (q ∷ rs) images zero r have lies pairs l e at k =
    let here : ticket ≡ n = omega arith in
    let first : keep n ≡ true = subst (λ (u : ℕ). keep u ≡ true) here k in
    let gone : but keep ticket n ≡ false = not_this keep ticket n here in
    let rest : kept_by keep (n + 1) rs ≡ kept_by (but keep ticket) (n + 1) rs =
    kept_same keep (but keep ticket) (n + 1) rs (λ u m k. later keep ticket u (omega arith)) in
    ap (λ (b : Bool). (mend s (kept_if b q (kept_by keep (n + 1) rs)) images).images) first
    ∙ ap (λ (x : Repair). (mend s (kept_by keep (n + 1) rs) (after s images x)).images) e
    ∙ ap (λ (xs : List Repair). (mend s xs (after s images r)).images) rest
    ∙ sym (ap (λ (b : Bool). (mend s (kept_if b q (kept_by (but keep ticket) (n + 1) rs)) (after s images r)).images) gone)
pick_images s sizes keep n ticket (q ∷ rs) images (suc i) r have lies pairs l e at k =
    pick_step s sizes (keep n) (but keep ticket n) q r (kept_by keep (n + 1) rs) (kept_by (but keep ticket) (n + 1) rs) images
    (earlier keep ticket n (omega arith)) have lies.0 (all_got (λ (x : Repair). LiesOn sizes (as_store x)) rs i r (omega arith) e lies.1)
    (all_got (ClearOf q) rs i r (omega arith) e pairs.0)
    (λ now sized. pick_images s sizes keep (n + 1) ticket rs now i r sized lies.1 pairs.1 (omega arith) e (omega arith) k)

pub pick_total : (f : Repair → ℕ) (keep : ℕ → Bool) (n ticket : ℕ) (rs : List Repair) (i : ℕ) (r : Repair)
    → i < length rs → get_or rs i r ≡ r → ticket ≡ n + i → keep ticket ≡ true
    → total f (kept_by keep n rs) ≡ f r + total f (kept_by (but keep ticket) n rs)
pick_total f keep n ticket [] i r l e at k = absurd (omega arith)
pick_total f keep n ticket (q ∷ rs) zero r l e at k =
    let here : ticket ≡ n = omega arith in
    let first : keep n ≡ true = subst (λ (u : ℕ). keep u ≡ true) here k in
    let gone : but keep ticket n ≡ false = not_this keep ticket n here in
    let rest : kept_by keep (n + 1) rs ≡ kept_by (but keep ticket) (n + 1) rs =
    kept_same keep (but keep ticket) (n + 1) rs (λ u m k. later keep ticket u (omega arith)) in
    ap (λ (b : Bool). total f (kept_if b q (kept_by keep (n + 1) rs))) first
    ∙ ap (λ (x : Repair). f x + total f (kept_by keep (n + 1) rs)) e
    ∙ ap (λ (xs : List Repair). f r + total f xs) rest
    ∙ sym (ap (λ (b : Bool). f r + total f (kept_if b q (kept_by (but keep ticket) (n + 1) rs))) gone)
pick_total f keep n ticket (q ∷ rs) (suc i) r l e at k =
    total_step f (keep n) (but keep ticket n) q r (kept_by keep (n + 1) rs) (kept_by (but keep ticket) (n + 1) rs)
    (earlier keep ticket n (omega arith)) (pick_total f keep (n + 1) ticket rs i r (omega arith) e (omega arith) k)
