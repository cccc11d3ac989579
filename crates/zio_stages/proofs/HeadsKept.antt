-- The headers that are kept, and those of them that go with the walk below a member.
use Rattle.std.proofs.Common.{◌≡◌, ◌≢◌, ℕ, ◌+◌, List, [], ◌∷◌, ◌++◌, length, Bool, true, false, cond, refl, sym, ap, subst, ◌∙◌, arith, append-nil, append_assoc, length-append, drop, nat_eq}
use Rattle.std.specs.Prelude.{filter, not, bytes_eq}
use Rattle.std.specs.List.{starts_with}
use Rattle.std.proofs.lemmas.Bool.{false≢true}
use Rattle.std.proofs.lemmas.Bool.Decides.{Decides-eqb}
use Rattle.std.proofs.lemmas.Slice.Eq.{bytes_eq-Decides, starts_is}
use Rattle.zio_gang.specs.declared.tree.Head.{Head}
use Rattle.zio_gang.specs.Trees.{kept_at}
use Rattle.zio_stages.specs.HeadsWorks.{AreKeptFor, is_under}

-- ---- headers that a test keeps

found_in : (f : Head → Bool) (h : Head) (hs : List Head) (path : List ℕ) (keeps is : Bool) → f h ≡ keeps → bytes_eq h.path path ≡ is
    → (is ≡ true → keeps ≡ true) → kept_at (filter f hs) path ≡ kept_at hs path
    → kept_at (cond keeps (h ∷ filter f hs) (filter f hs)) path ≡ kept_at (h ∷ hs) path
found_in f h hs path true is e s more below = shown is refl where
  shown : (b : Bool) → is ≡ b → kept_at (h ∷ filter f hs) path ≡ kept_at (h ∷ hs) path
  shown true k = let yes : bytes_eq h.path path ≡ true = s ∙ k in rw yes refl
  shown false k = let no : bytes_eq h.path path ≡ false = s ∙ k in rw no below
found_in f h hs path false true e s more below = absurd (false≢true (more refl))
found_in f h hs path false false e s more below = rw s below

pub kept_by : (f : Head → Bool) (hs : List Head) (path : List ℕ) → ((h : Head) → h.path ≡ path → f h ≡ true)
    → kept_at (filter f hs) path ≡ kept_at hs path
kept_by f [] path keeps = refl
kept_by f (h ∷ hs) path keeps =
    found_in f h hs path (f h) (bytes_eq h.path path) refl refl (λ e. keeps h ((bytes_eq-Decides h.path path).0 e)) (kept_by f hs path keeps)

-- ---- paths under others

begins : (p q : List ℕ) → starts_with nat_eq (p ++ q) p ≡ true
begins p q = (starts_is Decides-eqb (p ++ q) p (starts_with nat_eq (p ++ q) p) refl).1 q refl

begins_itself : (p : List ℕ) → starts_with nat_eq p p ≡ true
begins_itself p = (starts_is Decides-eqb p p (starts_with nat_eq p p) refl).1 [] (sym (append-nil p))

same_step : (p q r : List ℕ) (m n : ℕ) → p ++ m ∷ q ≡ (p ++ n ∷ []) ++ r → m ≡ n
same_step [] q r m n e = cc
same_step (k ∷ p) q r m n e = let less : p ++ m ∷ q ≡ (p ++ n ∷ []) ++ r = cc in same_step p q r m n less

other : (b : Bool) (p q : List ℕ) (m n : ℕ) → m ≢ n → starts_with nat_eq (p ++ m ∷ q) (p ++ n ∷ []) ≡ b → not b ≡ true
other false p q m n apart e = refl
other true p q m n apart e = absurd (apart (same_step p q (drop (length (p ++ n ∷ [])) (p ++ m ∷ q)) m n ((starts_is Decides-eqb (p ++ m ∷ q) (p ++ n ∷ []) (starts_with nat_eq (p ++ m ∷ q) (p ++ n ∷ [])) refl).0 e)))

above : (b : Bool) (p : List ℕ) (n : ℕ) → starts_with nat_eq p (p ++ n ∷ []) ≡ b → not b ≡ true
above false p n e = refl
above true p n e =
    let same : p ≡ (p ++ n ∷ []) ++ drop (length (p ++ n ∷ [])) p = (starts_is Decides-eqb p (p ++ n ∷ []) (starts_with nat_eq p (p ++ n ∷ [])) refl).0 e in
    let longer : length p ≡ length (p ++ n ∷ []) + length (drop (length (p ++ n ∷ [])) p) = ap length same ∙ length-append (p ++ n ∷ []) (drop (length (p ++ n ∷ [])) p) in
    let step : length (p ++ n ∷ []) ≡ length p + 1 = length-append p (n ∷ []) in
    absurd (omega arith)

-- ---- a member's, and the others

pub kept_below : (mine heads : List Head) (path : List ℕ) (n : ℕ) → AreKeptFor mine heads path n
    → AreKeptFor (filter (is_under (path ++ n ∷ [])) mine) heads (path ++ n ∷ []) 0
kept_below mine heads path n k =
    let at : List ℕ = path ++ n ∷ [] in
    record {
      own =
          kept_by (is_under at) mine at (λ h e. subst (λ q. starts_with nat_eq q at ≡ true) (sym e) (begins_itself at))
          ∙ k.below n [] (omega arith);
      below = λ m rest l.
          kept_by (is_under at) mine (at ++ m ∷ rest) (λ h e. subst (λ q. starts_with nat_eq q at ≡ true) (sym e) (begins at (m ∷ rest)))
          ∙ ap (kept_at mine) (append_assoc path (n ∷ []) (m ∷ rest))
          ∙ k.below n (m ∷ rest) (omega arith)
          ∙ ap (kept_at heads) (sym (append_assoc path (n ∷ []) (m ∷ rest)));
    }

pub kept_beside : (mine heads : List Head) (path : List ℕ) (n : ℕ) → AreKeptFor mine heads path n
    → AreKeptFor (filter (λ h. not (is_under (path ++ n ∷ []) h)) mine) heads path (n + 1)
kept_beside mine heads path n k =
    let at : List ℕ = path ++ n ∷ [] in
    record {
      own =
          kept_by (λ h. not (is_under at h)) mine path (λ h e. subst (λ q. not (starts_with nat_eq q at) ≡ true) (sym e) (above (starts_with nat_eq path at) path n refl))
          ∙ k.own;
      below = λ m rest l.
          kept_by (λ h. not (is_under at h)) mine (path ++ m ∷ rest)
          (λ h e. subst (λ q. not (starts_with nat_eq q at) ≡ true) (sym e) (other (starts_with nat_eq (path ++ m ∷ rest) at) path rest m n (λ same. omega arith) refl))
          ∙ k.below m rest (omega arith);
    }
