-- What a reader gives over images in which the copies are as at first, or repaired; and what an oracle says of it.
use Rattle.std.proofs.Common.{◌≡◌, ℕ, suc, List, [], ◌∷◌, ◌++◌, Bool, true, false, Result, Contains, inl, ⊎_elim, refl, sym, ap, ◌∙◌, subst}
use Rattle.std.specs.List.{AllByRecursion}
use Rattle.zio_types.specs.declared.error.Errno.{Errno}
use Rattle.zio_cksum.specs.Blocks.{judged, repaired}
use Rattle.zio_cksum.specs.Images.{Images, Setting, Spot, read_leaf, write_leaf}
use Rattle.zio_cksum.proofs.AllLemmas.{all_contains, all_weaker}
use Rattle.zio_trace.specs.Conflicts.{is_single}
use Rattle.zio_trace.specs.CopyPrograms.{Program}
use Rattle.zio_trace.specs.Footprints.{Stays}
use Rattle.zio_trace.specs.Labels.{Earlier, Labelled, labelled}
use Rattle.zio_trace.specs.Leaves.{Answer, Fetch, LeafOp, Store, on_leaf}
use Rattle.zio_trace.specs.Oracles.{Oracle, asked_in, heard}
use Rattle.zio_trace.specs.Passing.{Stores}
use Rattle.zio_trace.specs.Plans.{TaskPlan, by_leaves}
use Rattle.zio_trace.specs.Programs.{Asks, Ends, run, ◌>>=◌}
use Rattle.zio_trace.specs.Readers.{RowsArePlain}
use Rattle.zio_trace.specs.Tasks.{Got, Leaf, Task, Value, got}
use Rattle.zio_trace.proofs.ChoiceLemmas.{contained_cases}
use Rattle.zio_trace.proofs.FootprintLemmas.{Anything}
use Rattle.zio_trace.proofs.LabelLemmas.{Under, sooner, under_less, under_part}
use Rattle.zio_trace.proofs.ListLemmas.{contains_first, contains_later}
use Rattle.zio_trace.proofs.ReaderPaths.{Follows, Keeps, MayBe, Puts, first_at, read_as_first}

-- ---- over images

module _ (s : Setting) (plain : RowsArePlain s.rows) (spots : List Spot) (len : ℕ) (good : List ℕ → Bool) (before : Images) (mended : List Spot) (bytes : List ℕ) (found : Answer) where
  abbrev May : Spot → Result (List ℕ) Errno → Type 0
  May t r = MayBe s spots len good before mended bytes found t r

  abbrev at_first : Spot → Result (List ℕ) Errno
  at_first t = first_at s spots len good before mended bytes found t

  abbrev pub put : Spot → Images → Images
  put t images = (write_leaf s false bytes images t).images

  -- each copy gives what it gave at first
  abbrev pub First : Images → Type 0
  First images = AllByRecursion (λ (t : Spot). judged good (read_leaf s false images len t) ≡ at_first t) spots

  -- or the good bytes, if it is to be repaired
  abbrev pub Now : Images → Type 0
  Now images = AllByRecursion (λ (t : Spot). May t (judged good (read_leaf s false images len t))) spots

  -- a repair would change nothing
  abbrev pub Idle : Images → Type 0
  Idle images = AllByRecursion (λ (t : Spot). put t images ≡ images) mended

  pub first_now : (images : Images) → First images → Now images
  first_now images h =
      all_weaker (λ (t : Spot). judged good (read_leaf s false images len t) ≡ at_first t) (λ (t : Spot). May t (judged good (read_leaf s false images len t))) spots (λ t e. inl e) h

  abbrev pub Leaves : List Spot → Images → Program Answer → Type 0
  Leaves left images p = run (on_leaf s) p images ≡ record { value = found; asks = []; images = repaired s false bytes left images }

  puts_run : (left : List Spot) (p : Program Answer) (images : Images) → Puts s spots len good before mended bytes found left p → Leaves left images p
  puts_run left (Ends a) images h =
      λ i. record { value = h.0 i; asks = []; images = ap (λ (l : List Spot). repaired s false bytes l images) (sym h.1) i }
  puts_run left (Asks (Fetch retry n t) more) images h = absurd h
  puts_run left (Asks (Store retry b t) more) images h =
      let v : Answer = (on_leaf s (Store false bytes t) images).value in
      subst (λ (r : Bool). Leaves left images (Asks (Store r b t) more)) (sym h.0)
      (subst (λ (x : List ℕ). Leaves left images (Asks (Store false x t) more)) (sym h.1)
      (subst (λ (l : List Spot). Leaves l images (Asks (Store false bytes t) more)) (sym h.2.1)
      (puts_run h.2.0 (more v) (put t images) (h.2.2 v))))

  pub follows_run : (p : Program Answer) (images : Images) → First images → Follows s spots len good before mended bytes found p → Leaves mended images p
  follows_run (Ends a) images first h =
      λ i. record { value = h.0 i; asks = []; images = ap (λ (l : List Spot). repaired s false bytes l images) (sym h.1) i }
  follows_run (Asks (Fetch retry n t) more) images first h =
      let v : Answer = read_leaf s retry images n t in
      follows_run (more v) images first
      (h.2 v (read_as_first s spots len good before mended bytes found plain images retry n t h.0 ∙ all_contains (λ (u : Spot). judged good (read_leaf s false images len u) ≡ at_first u) spots t first h.1))
  follows_run (Asks (Store retry b t) more) images first h = puts_run mended (Asks (Store retry b t) more) images h

  -- what a read gives
  pub read_may : (images : Images) (retry : Bool) (n : ℕ) (t : Spot) → Now images → n ≡ len → Contains spots t → May t (judged good (read_leaf s retry images n t))
  read_may images retry n t now e c =
      subst (May t) (sym (read_as_first s spots len good before mended bytes found plain images retry n t e))
      (all_contains (λ (u : Spot). May u (judged good (read_leaf s false images len u))) spots t now c)

  pub read_first : (images : Images) (retry : Bool) (n : ℕ) (t : Spot) → First images → n ≡ len → Contains spots t → judged good (read_leaf s retry images n t) ≡ at_first t
  read_first images retry n t first e c =
      read_as_first s spots len good before mended bytes found plain images retry n t e
      ∙ all_contains (λ (u : Spot). judged good (read_leaf s false images len u) ≡ at_first u) spots t first c

  abbrev pub Stays_so : Images → Program Answer → Type 0
  Stays_so images p = run (on_leaf s) p images ≡ record { value = found; asks = []; images = images }

  pub idle_run : (p : Program Answer) (images : Images) → Now images → Idle images → Keeps s spots len good before mended bytes found p → Stays_so images p
  idle_run (Ends a) images now idle h = λ i. record { value = h i; asks = []; images = images }
  idle_run (Asks (Fetch retry n t) more) images now idle h =
      let v : Answer = read_leaf s retry images n t in
      idle_run (more v) images now idle (h.2 v (read_may images retry n t now h.0 h.1))
  idle_run (Asks (Store retry b t) more) images now idle h =
      let v : Answer = (on_leaf s (Store false bytes t) images).value in
      let none : put t images ≡ images = all_contains (λ (u : Spot). put u images ≡ images) mended t idle h.2 in
      subst (λ (r : Bool). Stays_so images (Asks (Store r b t) more)) (sym h.0)
      (subst (λ (x : List ℕ). Stays_so images (Asks (Store false x t) more)) (sym h.1)
      (ap (λ (i : Images). run (on_leaf s) (more v) i) none ∙ idle_run (more v) images now idle (h.3 v)))

-- ---- what an oracle says

-- what is said of a read's answer
abbrev pub said_by : (List ℕ → Bool) → (Spot → Result (List ℕ) Errno → Type 0) → Task → Answer → Type 0
said_by good P (Leaf (Fetch retry n t)) answer = P t (judged good answer)
said_by good P _ answer = Unit {0}

abbrev pub Said : (List ℕ → Bool) → (Spot → Result (List ℕ) Errno → Type 0) → Oracle (Labelled Task) Value → Labelled Task → Type 0
Said good P o x = said_by good P x.op (got (o.answer x))

-- a read of a copy, or a repair
abbrev pub IsProper : List Spot → ℕ → List Spot → List ℕ → Task → Type 0
IsProper spots len mended bytes (Leaf (Fetch retry n t)) = (n ≡ len) × Contains spots t
IsProper spots len mended bytes (Leaf (Store retry b t)) = (retry ≡ false) × (b ≡ bytes) × Contains mended t
IsProper spots len mended bytes _ = ⊥

-- one of these puts the bytes there
abbrev pub IsPut : List ℕ → List (Labelled Task) → Spot → Type 0
IsPut bytes ops t = (x : Labelled Task) × Contains ops x × (x.op ≡ Leaf (Store false bytes t))

-- an operation on a leaf, which is so
abbrev pub IsLeaf : (LeafOp → Type 0) → Labelled Task → Type 0
IsLeaf P x = (op : LeafOp) × (x.op ≡ Leaf op) × P op

-- a part of the operation in this place
abbrev pub IsPartAt : List ℕ → Labelled Task → Type 0
IsPartAt at x = (k : ℕ) × (x.at ≡ at ++ k ∷ [])

abbrev pub copy_plan : Program Answer → TaskPlan Value
copy_plan p = by_leaves p >>= λ a. Ends (Got a)

module _ (o : Oracle (Labelled Task) Value) (itself : (x : Labelled Task) → is_single x.op ≡ true → o.asked x ≡ x ∷ []) where
  abbrev pub asked_at : List ℕ → ℕ → Program Answer → List (Labelled Task)
  asked_at at n p = asked_in o (labelled at n (copy_plan p))

  abbrev part : List ℕ → ℕ → LeafOp → Labelled Task
  part at n op = record { at = at ++ n ∷ []; op = Leaf op }

  abbrev said : List ℕ → ℕ → LeafOp → Answer
  said at n op = got (o.answer (part at n op))

  asked_next : (at : List ℕ) (n : ℕ) (op : LeafOp) (more : Answer → Program Answer) → asked_at at n (Asks op more) ≡ part at n op ∷ asked_at at (suc n) (more (said at n op))
  asked_next at n op more = ap (λ (xs : List (Labelled Task)). xs ++ asked_at at (suc n) (more (said at n op))) (itself (part at n op) refl)

  whole : (xs : List ℕ) → xs ≡ xs ++ []
  whole [] = refl
  whole (x ∷ xs) = ap (λ (ys : List ℕ). x ∷ ys) (whole xs)

  asked_under : (at : List ℕ) (n : ℕ) (p : Program Answer) → AllByRecursion (Under at n) (asked_at at n p)
  asked_under at n (Ends a) = tt
  asked_under at n (Asks op more) =
      subst (AllByRecursion (Under at n)) (sym (asked_next at n op more))
      (under_part at n (part at n op) ([], whole (at ++ n ∷ [])), all_weaker (Under at (suc n)) (Under at n) (asked_at at (suc n) (more (said at n op))) (under_less at n) (asked_under at (suc n) (more (said at n op))))

  pub asked_parts : (at : List ℕ) (n : ℕ) (p : Program Answer) → AllByRecursion (IsPartAt at) (asked_at at n p)
  asked_parts at n (Ends a) = tt
  asked_parts at n (Asks op more) =
      subst (AllByRecursion (IsPartAt at)) (sym (asked_next at n op more)) ((n, refl), asked_parts at (suc n) (more (said at n op)))

  pub asked_leaves : (P : LeafOp → Type 0) (Q : Answer → Type 0) (at : List ℕ) (n : ℕ) (p : Program Answer) → Stays Anything P Q p → AllByRecursion (IsLeaf P) (asked_at at n p)
  asked_leaves P Q at n (Ends a) h = tt
  asked_leaves P Q at n (Asks op more) h =
      subst (AllByRecursion (IsLeaf P)) (sym (asked_next at n op more))
      ((op, refl, h.0), asked_leaves P Q at (suc n) (more (said at n op)) (h.1 (said at n op) tt))

  module _ (s : Setting) (spots : List Spot) (len : ℕ) (good : List ℕ → Bool) (before : Images) (mended : List Spot) (bytes : List ℕ) (found : Answer) where
    abbrev SaidMay : Labelled Task → Type 0
    SaidMay x = Said good (MayBe s spots len good before mended bytes found) o x

    abbrev SaidFirst : Labelled Task → Type 0
    SaidFirst x = Said good (λ t r. r ≡ first_at s spots len good before mended bytes found t) o x

    abbrev Kept : Program Answer → Type 0
    Kept p = Keeps s spots len good before mended bytes found p

    kept_next : (op : LeafOp) (more : Answer → Program Answer) (answer : Answer) → Kept (Asks op more) → said_by good (MayBe s spots len good before mended bytes found) (Leaf op) answer → Kept (more answer)
    kept_next (Fetch retry n t) more answer h k = h.2 answer k
    kept_next (Store retry b t) more answer h k = h.3 answer

    kept_proper : (op : LeafOp) (more : Answer → Program Answer) → Kept (Asks op more) → IsProper spots len mended bytes (Leaf op)
    kept_proper (Fetch retry n t) more h = (h.0, h.1)
    kept_proper (Store retry b t) more h = (h.0, h.1, h.2)

    pub heard_kept : (at : List ℕ) (n : ℕ) (p : Program Answer) → Kept p → AllByRecursion SaidMay (asked_at at n p) → heard o (labelled at n (copy_plan p)) ≡ Got found
    heard_kept at n (Ends a) h k = ap (λ (x : Answer). Got x) h
    heard_kept at n (Asks op more) h k =
        let v : Answer = said at n op in
        let all : AllByRecursion SaidMay (part at n op ∷ asked_at at (suc n) (more v)) = subst (AllByRecursion SaidMay) (asked_next at n op more) k in
        heard_kept at (suc n) (more v) (kept_next op more v h all.0) all.1

    -- where those before it are so, an operation reads a copy or repairs it
    pub proper_at : (at : List ℕ) (n : ℕ) (p : Program Answer) (x : Labelled Task) → Kept p → Contains (asked_at at n p) x → ((q : Labelled Task) → Contains (asked_at at n p) q → Earlier q x → SaidMay q) → IsProper spots len mended bytes x.op
    proper_at at n (Ends a) x h c k = absurd (all_contains (λ (y : Labelled Task). ⊥) [] x tt c)
    proper_at at n (Asks op more) x h c k =
        let v : Answer = said at n op in
        let y : Labelled Task = part at n op in
        let rest : List (Labelled Task) = asked_at at (suc n) (more v) in
        let is : asked_at at n (Asks op more) ≡ y ∷ rest = asked_next at n op more in
        let earlier : (q : Labelled Task) → Contains (y ∷ rest) q → Earlier q x → SaidMay q = λ q l e. k q (subst (λ (xs : List (Labelled Task)). Contains xs q) (sym is) l) e in
        ⊎_elim
        (λ (e : y ≡ x). subst (λ (z : Labelled Task). IsProper spots len mended bytes z.op) e (kept_proper op more h))
        (λ (later : Contains rest x).
        let under : Under at (suc n) x = all_contains (Under at (suc n)) rest x (asked_under at (suc n) (more v)) later in
        proper_at at (suc n) (more v) x (kept_next op more v h (earlier y (contains_first y rest) (sooner at n y x ([], whole (at ++ n ∷ [])) under))) later
        (λ q l e. earlier q (contains_later y rest q l) e))
        (contained_cases y rest x (subst (λ (xs : List (Labelled Task)). Contains xs x) is c))

    puts_more : (y : Labelled Task) (rest : List (Labelled Task)) (left : List Spot) → AllByRecursion (IsPut bytes rest) left → AllByRecursion (IsPut bytes (y ∷ rest)) left
    puts_more y rest left h = all_weaker (IsPut bytes rest) (IsPut bytes (y ∷ rest)) left (λ t k. (k.0, contains_later y rest k.0 k.1, k.2)) h

    puts_there : (at : List ℕ) (n : ℕ) (left : List Spot) (p : Program Answer) → Puts s spots len good before mended bytes found left p → AllByRecursion (IsPut bytes (asked_at at n p)) left
    puts_there at n left (Ends a) h = subst (AllByRecursion (IsPut bytes [])) (sym h.1) tt
    puts_there at n left (Asks (Fetch retry m t) more) h = absurd h
    puts_there at n left (Asks (Store retry b t) more) h =
        let op : LeafOp = Store retry b t in
        let v : Answer = said at n op in
        let y : Labelled Task = part at n op in
        let rest : List (Labelled Task) = asked_at at (suc n) (more v) in
        subst (λ (xs : List (Labelled Task)). AllByRecursion (IsPut bytes xs) left) (sym (asked_next at n op more))
        (subst (AllByRecursion (IsPut bytes (y ∷ rest))) (sym h.2.1)
        ((y, contains_first y rest, λ i. Leaf (Store (h.0 i) (h.1 i) t)), puts_more y rest h.2.0 (puts_there at (suc n) h.2.0 (more v) (h.2.2 v))))

    -- a reader for which all was as at first puts the bytes on all copies that are to be repaired
    pub follows_put : (at : List ℕ) (n : ℕ) (p : Program Answer) → Follows s spots len good before mended bytes found p → AllByRecursion SaidFirst (asked_at at n p) → AllByRecursion (IsPut bytes (asked_at at n p)) mended
    follows_put at n (Ends a) h k = subst (AllByRecursion (IsPut bytes [])) (sym h.1) tt
    follows_put at n (Asks (Fetch retry m t) more) h k =
        let op : LeafOp = Fetch retry m t in
        let v : Answer = said at n op in
        let y : Labelled Task = part at n op in
        let rest : List (Labelled Task) = asked_at at (suc n) (more v) in
        let all : AllByRecursion SaidFirst (y ∷ rest) = subst (AllByRecursion SaidFirst) (asked_next at n op more) k in
        subst (λ (xs : List (Labelled Task)). AllByRecursion (IsPut bytes xs) mended) (sym (asked_next at n op more))
        (puts_more y rest mended (follows_put at (suc n) (more v) (h.2 v all.0) all.1))
    follows_put at n (Asks (Store retry b t) more) h k = puts_there at n mended (Asks (Store retry b t) more) h

    -- the same where all before one of its writes was so
    pub follows_put_at : (at : List ℕ) (n : ℕ) (p : Program Answer) (x : Labelled Task) → Follows s spots len good before mended bytes found p → Contains (asked_at at n p) x → Stores x.op → ((q : Labelled Task) → Contains (asked_at at n p) q → Earlier q x → SaidFirst q) → AllByRecursion (IsPut bytes (asked_at at n p)) mended
    follows_put_at at n (Ends a) x h c stored k = absurd (all_contains (λ (y : Labelled Task). ⊥) [] x tt c)
    follows_put_at at n (Asks (Fetch retry m t) more) x h c stored k =
        let op : LeafOp = Fetch retry m t in
        let v : Answer = said at n op in
        let y : Labelled Task = part at n op in
        let rest : List (Labelled Task) = asked_at at (suc n) (more v) in
        let is : asked_at at n (Asks op more) ≡ y ∷ rest = asked_next at n op more in
        let earlier : (q : Labelled Task) → Contains (y ∷ rest) q → Earlier q x → SaidFirst q = λ q l e. k q (subst (λ (xs : List (Labelled Task)). Contains xs q) (sym is) l) e in
        ⊎_elim
        (λ (e : y ≡ x). absurd (let no : Stores y.op = subst (λ (z : Labelled Task). Stores z.op) (sym e) stored in cc))
        (λ (later : Contains rest x).
        let under : Under at (suc n) x = all_contains (Under at (suc n)) rest x (asked_under at (suc n) (more v)) later in
        subst (λ (xs : List (Labelled Task)). AllByRecursion (IsPut bytes xs) mended) (sym is)
        (puts_more y rest mended
        (follows_put_at at (suc n) (more v) x (h.2 v (earlier y (contains_first y rest) (sooner at n y x ([], whole (at ++ n ∷ [])) under))) later stored
        (λ q l e. earlier q (contains_later y rest q l) e))))
        (contained_cases y rest x (subst (λ (xs : List (Labelled Task)). Contains xs x) is c))
    follows_put_at at n (Asks (Store retry b t) more) x h c stored k = puts_there at n mended (Asks (Store retry b t) more) h
