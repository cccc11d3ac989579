-- What the reads of a piece come to, by its marks.
use Rattle.std.proofs.Common.{◌≡◌, ◌≢◌, ℕ, zero, suc, ◌+◌, ◌-◌, ◌<◌, List, [], ◌∷◌, length, map, get_or, take, drop, Option, Some, None, IfSome, Result, Ok, Err, inl, inr, refl, sym, ap, subst, ◌∙◌, arith, false}
use Rattle.std.specs.List.{AllByRecursion}
use Rattle.std.proofs.lemmas.List.{length-map}
use Rattle.zio_types.specs.declared.error.Errno.{Errno}
use Rattle.zio_cksum.specs.Images.{Spot}
use Rattle.zio_scrub.specs.declared.heard.Mark.{Mark}
use Rattle.zio_scrub.specs.declared.heard.Mark.TheVariants.{Out, Good, Bad}
use Rattle.zio_scrub.specs.declared.heard.Source.{Source}
use Rattle.zio_scrub.specs.declared.layout.CopyAt.{CopyAt}
use Rattle.zio_scrub.specs.declared.repairs.Repair.{Repair}
use Rattle.zio_scrub.specs.Reads.{IsKept, Says, bad_marked, is_out, lost_marked, marked_if, settled_lost, settled_repairs}
use Rattle.zio_scrub.specs.Scrubs.{bad_among, bad_if, first_found, lost_with, repairs_with}

-- each mark says what its read gives, and none is out
abbrev pub AreSaid : List Mark → List (Result (List ℕ) Errno) → Type 0
AreSaid [] [] = Unit {0}
AreSaid [] (r ∷ rs) = ⊥
AreSaid (m ∷ ms) [] = ⊥
AreSaid (m ∷ ms) (r ∷ rs) = (Says m r) × (is_out m ≡ false) × AreSaid ms rs

abbrev pub spots_in : List CopyAt → List Spot
spots_in copies = map (λ (c : CopyAt). c.spot) copies

said_if : (m : Mark) (r : Result (List ℕ) Errno) (spot : Spot) (xs ys : List Spot) → Says m r → is_out m ≡ false → xs ≡ ys
    → marked_if m spot xs ≡ bad_if r spot ys
said_if Out r spot xs ys s o e = absurd (let no : ⊥ = cc in no)
said_if Good (Ok b) spot xs ys s o e = e
said_if Good (Err x) spot xs ys s o e = absurd s
said_if Bad (Ok b) spot xs ys s o e = absurd s
said_if Bad (Err x) spot xs ys s o e = ap (λ (zs : List Spot). spot ∷ zs) e

-- the copies that are marked bad are those that aren't good
pub bad_said : (read : Spot → Result (List ℕ) Errno) (marks : List Mark) (copies : List CopyAt) → AreSaid marks (map read (spots_in copies))
    → bad_marked marks copies ≡ bad_among read (spots_in copies)
bad_said read [] [] h = refl
bad_said read [] (c ∷ cs) h = absurd h
bad_said read (m ∷ ms) [] h = absurd h
bad_said read (m ∷ ms) (c ∷ cs) h = said_if m (read c.spot) c.spot (bad_marked ms cs) (bad_among read (spots_in cs)) h.0 h.1 (bad_said read ms cs h.2)

-- ---- the first that is good

pub found_at : (rs : List (Result (List ℕ) Errno)) (marks : List Mark) (j : ℕ) (bytes : List ℕ) → AreSaid marks rs
    → ((i : ℕ) → i < j → get_or marks i Out ≢ Good) → j < length rs → get_or rs j (Ok bytes) ≡ Ok bytes → first_found rs ≡ Some bytes
found_at [] ms j bytes h least l e = absurd (omega arith)
found_at (r ∷ rs) [] j bytes h least l e = absurd h
found_at (Ok b ∷ rs) (m ∷ ms) zero bytes h least l e = let q : b ≡ bytes = cc in ap Some q
found_at (Err x ∷ rs) (m ∷ ms) zero bytes h least l e = absurd (let no : ⊥ = cc in no)
found_at (Ok b ∷ rs) (Out ∷ ms) (suc j) bytes h least l e = absurd (let o = h.1 in let no : ⊥ = cc in no)
found_at (Ok b ∷ rs) (Good ∷ ms) (suc j) bytes h least l e = absurd (least 0 (omega arith) refl)
found_at (Ok b ∷ rs) (Bad ∷ ms) (suc j) bytes h least l e = absurd h.0
found_at (Err x ∷ rs) (m ∷ ms) (suc j) bytes h least l e = found_at rs ms j bytes h.2 (λ i q. least (suc i) (omega arith)) (omega arith) e

pub none_found : (rs : List (Result (List ℕ) Errno)) (marks : List Mark) → AreSaid marks rs → ((i : ℕ) → i < length rs → get_or marks i Out ≢ Good)
    → (first_found rs ≡ None) × (lost_marked marks ≡ length rs)
none_found [] [] h none = (refl, refl)
none_found [] (m ∷ ms) h none = absurd h
none_found (r ∷ rs) [] h none = absurd h
none_found (r ∷ rs) (Out ∷ ms) h none = absurd (let o = h.1 in let no : ⊥ = cc in no)
none_found (r ∷ rs) (Good ∷ ms) h none = absurd (none 0 (omega arith) refl)
none_found (Ok b ∷ rs) (Bad ∷ ms) h none = absurd h.0
none_found (Err x ∷ rs) (Bad ∷ ms) h none =
    ((none_found rs ms h.2 (λ i q. none (suc i) (omega arith))).0, omega (arith, said_length ms rs h.2))
  where
    said_length : (ms : List Mark) (rs : List (Result (List ℕ) Errno)) → AreSaid ms rs → length ms ≡ length rs
    said_length [] [] h = refl
    said_length [] (r ∷ rs) h = absurd h
    said_length (m ∷ ms) [] h = absurd h
    said_length (m ∷ ms) (r ∷ rs) h = ap (λ (k : ℕ). suc k) (said_length ms rs h.2)

-- where all are good nothing is to be done
pub all_found : (read : Spot → Result (List ℕ) Errno) (us : List Spot) (marks : List Mark) → AreSaid marks (map read us)
    → ((i : ℕ) → i < length us → get_or marks i Out ≡ Good)
    → (bad_among read us ≡ []) × (lost_with (first_found (map read us)) (length us) ≡ 0) × (lost_marked marks ≡ 0)
all_found read [] [] h all = (refl, refl, refl)
all_found read [] (m ∷ ms) h all = absurd h
all_found read (u ∷ us) [] h all = absurd h
all_found read (u ∷ us) (Out ∷ ms) h all = absurd (let o = h.1 in let no : ⊥ = cc in no)
all_found read (u ∷ us) (Bad ∷ ms) h all = absurd (let q : Bad ≡ Good = all 0 (omega arith) in let no : ⊥ = cc in no)
all_found read (u ∷ us) (Good ∷ ms) h all =
    let rest = (all_found read us ms h.2 (λ i q. all (suc i) (omega arith))).0 in by (read u) h.0 rest
  where
    by : (r : Result (List ℕ) Errno) → Says Good r → bad_among read us ≡ []
        → (bad_if r u (bad_among read us) ≡ []) × (lost_with (first_found (r ∷ map read us)) (length (u ∷ us)) ≡ 0) × (◌≡◌ {A = ℕ} 0 0)
    by (Ok b) s e = (e, refl, refl)
    by (Err x) s e = absurd s

-- ---- what isn't bad

pub none_bad : (marks : List Mark) (copies : List CopyAt) → AllByRecursion (λ (mark : Mark). mark ≢ Bad) marks → bad_marked marks copies ≡ []
none_bad [] copies h = refl
none_bad (m ∷ ms) [] h = refl
none_bad (Out ∷ ms) (c ∷ cs) h = none_bad ms cs h.1
none_bad (Good ∷ ms) (c ∷ cs) h = none_bad ms cs h.1
none_bad (Bad ∷ ms) (c ∷ cs) h = absurd (h.0 refl)

-- ---- one piece

pub record IsSettled (read : Spot → Result (List ℕ) Errno) (us : List Spot) (repairs : List Repair) (lost : ℕ) : Type 0 where
  pub repairs_are : repairs ≡ repairs_with (first_found (map read us)) (bad_among read us)
  pub lost_is : lost ≡ lost_with (first_found (map read us)) (length us)

pub got_slice : {X : Type 0} (xs : List X) (f n i : ℕ) (d : X) → i < n → get_or (take n (drop f xs)) i d ≡ get_or xs (f + i) d
got_slice xs zero n i d l = let e : i ≡ 0 + i = omega arith in taken xs n i d l ∙ ap (λ (k : ℕ). get_or xs k d) e
  where
    taken : {X : Type 0} (xs : List X) (n i : ℕ) (d : X) → i < n → get_or (take n xs) i d ≡ get_or xs i d
    taken xs zero i d l = absurd (omega arith)
    taken [] (suc n) i d l = refl
    taken (x ∷ xs) (suc n) zero d l = refl
    taken (x ∷ xs) (suc n) (suc i) d l = taken xs n i d (omega arith)
got_slice [] (suc f) zero i d l = absurd (omega arith)
got_slice [] (suc f) (suc n) i d l = refl
got_slice (x ∷ xs) (suc f) n i d l =
    let e : suc (f + i) ≡ suc f + i = omega arith in
    got_slice xs f n i d l ∙ ap (λ (k : ℕ). get_or (x ∷ xs) k d) e

pub said_from : (read : Spot → Result (List ℕ) Errno) (us : List Spot) (ms : List Mark) → length ms ≡ length us
    → ((i : ℕ) (u : Spot) → i < length us → get_or us i u ≡ u → Says (get_or ms i Out) (read u) × (is_out (get_or ms i Out) ≡ false))
    → AreSaid ms (map read us)
said_from read [] [] e h = tt
said_from read [] (m ∷ ms) e h = absurd (omega arith)
said_from read (u ∷ us) [] e h = absurd (omega arith)
said_from read (u ∷ us) (m ∷ ms) e h =
    let first = h 0 u (omega arith) refl in
    (first.0, first.1, said_from read us ms (omega arith) (λ i v l f. h (suc i) v (omega arith) f))

pub read_got : (read : Spot → Result (List ℕ) Errno) (us : List Spot) (j : ℕ) (u : Spot) (d : Result (List ℕ) Errno) → j < length us → get_or us j u ≡ u
    → get_or (map read us) j d ≡ read u
read_got read [] j u d l e = absurd (omega arith)
read_got read (v ∷ us) zero u d l e = ap read e
read_got read (v ∷ us) (suc j) u d l e = read_got read us j u d (omega arith) e

pub settled_piece : (read : Spot → Result (List ℕ) Errno) (us : List Spot) (ms : List Mark) (cs : List CopyAt) (mark : ℕ → Mark) (first count size : ℕ)
    (source : Option Source) → AreSaid ms (map read us) → spots_in cs ≡ us → length us ≡ count
    → ((i : ℕ) → i < count → mark (first + i) ≡ get_or ms i Out) → IsKept mark first count size source
    → IfSome source (λ src. get_or (map read us) (src.copy - first) (Ok src.bytes) ≡ Ok src.bytes)
    → IsSettled read us (settled_repairs source ms cs) (settled_lost source ms)
settled_piece read us ms cs mark first count size None said spots len same (inl none) got =
    let n : length (map read us) ≡ length us = length-map us read in
    let f = none_found (map read us) ms said (λ i l e. none i (omega arith) (same i (omega arith) ∙ e)) in
    record {
      repairs_are = sym (ap (λ (o : Option (List ℕ)). repairs_with o (bad_among read us)) f.0);
      lost_is = f.1 ∙ n ∙ sym (ap (λ (o : Option (List ℕ)). lost_with o (length us)) f.0);
    }
settled_piece read us ms cs mark first count size None said spots len same (inr all) got =
    let f = all_found read us ms said (λ i l. sym (same i (omega arith)) ∙ all i (omega arith)) in
    record {
      repairs_are = sym (ap (repairs_with (first_found (map read us))) f.0 ∙ by (first_found (map read us)));
      lost_is = f.2 ∙ sym f.1;
    }
  where
    by : (o : Option (List ℕ)) → repairs_with o [] ≡ []
    by None = refl
    by (Some b) = refl
settled_piece read us ms cs mark first count size (Some src) said spots len same kept got =
    let n : length (map read us) ≡ length us = length-map us read in
    let from = kept.from in
    let below = kept.below in
    let found : first_found (map read us) ≡ Some src.bytes =
    found_at (map read us) ms (src.copy - first) src.bytes said
    (λ i l e. kept.least (first + i) (omega arith) (omega arith) (same i (omega arith) ∙ e)) (omega arith) got in
    let bad : bad_marked ms cs ≡ bad_among read us =
    bad_said read ms cs (subst (λ (vs : List Spot). AreSaid ms (map read vs)) (sym spots) said) ∙ ap (bad_among read) spots in
    record {
      repairs_are = ap (repairs_with (Some src.bytes)) bad ∙ sym (ap (λ (o : Option (List ℕ)). repairs_with o (bad_among read us)) found);
      lost_is = sym (ap (λ (o : Option (List ℕ)). lost_with o (length us)) found);
    }
