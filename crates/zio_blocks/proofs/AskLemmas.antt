-- What is asked of a chooser, step after step, and which spots that makes.
use Rattle.std.proofs.Common.{◌≡◌, ◌≢◌, ◌-◌, ◌<◌, ◌≤◌, ℕ, List, [], ◌∷◌, ◌++◌, append_assoc, refl, sym, ap, subst, ◌∙◌, arith, length, drop, get_or, map, take, IfOk, Result, Ok, Err}
use Rattle.std.specs.Prelude.{IsErrAnd, OnErr, true, false, cond}
use Rattle.std.specs.List.{AllByRecursion}
use Rattle.std.proofs.Math.Seq.{drop-append_seam}
use Rattle.std.proofs.lemmas.Grind.{flat_map-append}
use Rattle.std.proofs.lemmas.List.{append-nil}
use Rattle.zio_types.specs.declared.place.Place.{Place}
use Rattle.zio_types.specs.declared.place.TopSize.{TopSize}
use Rattle.zio_types.specs.Choices.{Choice, is_refused, taken_by}
use Rattle.zio_types.specs.Places.{SamePlaces}
use Rattle.zio_cksum.specs.Blocks.{leaves_of, spot_in}
use Rattle.zio_cksum.specs.Frames.{spots_of}
use Rattle.zio_cksum.specs.Images.{Setting, Spot}
use Rattle.zio_cksum.proofs.AllLemmas.{all_append}
use Rattle.zio_outside.specs.declared.written.Written.{Written}
use Rattle.zio_disks.specs.Disks.{Handles}
use Rattle.zio_disks.specs.declared.setting.Stop.{Stop}
use Rattle.zio_disks.specs.declared.setting.Stop.TheVariants.{Device, Memory}
use Rattle.zio_disks.proofs.DiskLemmas.{handles_none, handles_then, handles_wider}
use Rattle.zio_disks.proofs.WriteLemmas.{contains_left, contains_right, rest_of}
use Rattle.zio_blocks.specs.Blocks.{AsksFor, IsOf}
use Rattle.zio_blocks.specs.Choosers.{AreHeld, Continues, EntryLaw, given_since, taken_by_all}
use Rattle.zio_blocks.specs.Parts.{Asks}
use Rattle.zio_blocks.specs.declared.place.Writing.{Writing}
use Rattle.zio_blocks.specs.EntryLaws.{SamePlaces-swap}
use Rattle.zio_cksum.proofs.PlaceSets.{SamePlaces-behind, SamePlaces-equal, SamePlaces-then}

-- ---- entries since

pub since_of : (old new entries : List Choice) → new ≡ old ++ entries → given_since old new ≡ entries
since_of old new entries e = ap (drop (length old)) e ∙ drop-append_seam old entries

pub since_same : (old new : List Choice) → new ≡ old → given_since old new ≡ []
since_same old new e = since_of old new [] (e ∙ sym (append-nil old))

-- ---- taken places

taken_then : (es fs : List Choice) (u v w : List Place) → SamePlaces v (taken_by_all es ++ u) → SamePlaces w (taken_by_all fs ++ v) → SamePlaces w (taken_by_all (es ++ fs) ++ u)
taken_then es fs u v w one two =
    subst (λ (ps : List Place). SamePlaces w (ps ++ u)) (sym (flat_map-append taken_by es fs))
    (SamePlaces-then w (taken_by_all fs ++ v) ((taken_by_all es ++ taken_by_all fs) ++ u) two
    (SamePlaces-then (taken_by_all fs ++ v) (taken_by_all fs ++ (taken_by_all es ++ u)) ((taken_by_all es ++ taken_by_all fs) ++ u)
    (SamePlaces-behind v (taken_by_all es ++ u) (taken_by_all fs) one)
    (SamePlaces-swap (taken_by_all es) (taken_by_all fs) u)))

-- ---- asks

-- what was asked and left, by the entries
record AskedBy (Lawful : EntryLaw) (w : Writing) (sizes : List TopSize) (u l : List Place) (g : List Choice) (u' l' : List Place) (g' es : List Choice) : Type 0 where
  pub behind : g' ≡ g ++ es
  pub lawful : Lawful sizes u es
  pub own : AllByRecursion (IsOf w) es
  pub used : SamePlaces u' (taken_by_all es ++ u)
  pub live : SamePlaces l' (taken_by_all es ++ l)

asks_by : (Lawful : EntryLaw) (w : Writing) (sizes : List TopSize) (u l : List Place) (g : List Choice) (u' l' : List Place) (g' es : List Choice) → AskedBy Lawful w sizes u l g u' l' g' es → AsksFor Lawful sizes w u l g u' l' g'
asks_by Lawful w sizes u l g u' l' g' es h =
    let k = subst (AskedBy Lawful w sizes u l g u' l' g') (sym (since_of g g' es h.behind)) h in
    record { behind = k.behind; lawful = k.lawful; own = k.own; used = k.used; live = k.live }

-- nothing was asked
pub asks_none : {Lawful : EntryLaw} (w : Writing) (sizes : List TopSize) (u l : List Place) (g : List Choice) (sizes' : List TopSize) (u' l' : List Place) (g' : List Choice) → Lawful sizes u [] → sizes' ≡ sizes → u' ≡ u → l' ≡ l → g' ≡ g
    → Asks Lawful w sizes u l g sizes' u' l' g'
asks_none {Lawful} w sizes u l g sizes' u' l' g' none at_s at_u at_l at_g = record {
  asks = asks_by Lawful w sizes u l g u' l' g' [] (record {
    behind = at_g ∙ sym (append-nil g);
    lawful = none;
    own = tt;
    used = SamePlaces-equal u' u at_u;
    live = SamePlaces-equal l' l at_l;
  });
  sizes = at_s;
  held = λ h. subst (λ x. AreHeld x u' l') (sym at_s) (subst (λ x. AreHeld sizes x l') (sym at_u) (subst (λ x. AreHeld sizes u x) (sym at_l) h));
}

-- one entry was given
pub asks_one : {Lawful : EntryLaw} (w : Writing) (sizes : List TopSize) (u l : List Place) (g : List Choice) (sizes' : List TopSize) (u' l' : List Place) (g' : List Choice) (e : Choice) → g' ≡ g ++ e ∷ [] → Lawful sizes u (e ∷ []) → IsOf w e
    → SamePlaces u' (taken_by e ++ u) → SamePlaces l' (taken_by e ++ l) → sizes' ≡ sizes → AreHeld sizes' u' l'
    → Asks Lawful w sizes u l g sizes' u' l' g'
asks_one {Lawful} w sizes u l g sizes' u' l' g' e behind lawful own used live at_s held =
    let one : taken_by e ≡ taken_by_all (e ∷ []) = sym (append-nil (taken_by e)) in
    record {
      asks = asks_by Lawful w sizes u l g u' l' g' (e ∷ []) (record {
        behind = behind;
        lawful = lawful;
        own = (own, tt);
        used = subst (λ (ps : List Place). SamePlaces u' (ps ++ u)) one used;
        live = subst (λ (ps : List Place). SamePlaces l' (ps ++ l)) one live;
      });
      sizes = at_s;
      held = λ h. held;
    }

-- asks and more after them
pub asks_then : {Lawful : EntryLaw} {w : Writing} {sizes : List TopSize} {u l : List Place} {g : List Choice} {sizes' : List TopSize} {u' l' : List Place} {g' : List Choice} {sizes'' : List TopSize} {u'' l'' : List Place} {g'' : List Choice}
    → Continues Lawful
    → Asks Lawful w sizes u l g sizes' u' l' g' → Asks Lawful w sizes' u' l' g' sizes'' u'' l'' g'' → Asks Lawful w sizes u l g sizes'' u'' l'' g''
asks_then {Lawful} {w} {sizes} {u} {l} {g} {sizes'} {u'} {l'} {g'} {sizes''} {u''} {l''} {g''} joins a b =
    let es = given_since g g' in
    let fs = given_since g' g'' in
    record {
      asks = asks_by Lawful w sizes u l g u'' l'' g'' (es ++ fs) (record {
        behind = b.asks.behind ∙ ap (λ (xs : List Choice). xs ++ fs) a.asks.behind ∙ append_assoc g es fs;
        lawful = joins sizes u u' es fs a.asks.lawful a.asks.used (subst (λ (x : List TopSize). Lawful x u' fs) a.sizes b.asks.lawful);
        own = all_append (IsOf w) es fs a.asks.own b.asks.own;
        used = taken_then es fs u u' u'' a.asks.used b.asks.used;
        live = taken_then es fs l l' l'' a.asks.live b.asks.live;
      });
      sizes = b.sizes ∙ a.sizes;
      held = λ h. b.held (a.held h);
    }

-- the entries of both
pub since_then : {Lawful : EntryLaw} {w : Writing} {sizes : List TopSize} {u l : List Place} {g : List Choice} {sizes' : List TopSize} {u' l' : List Place} {g' : List Choice} {sizes'' : List TopSize} {u'' l'' : List Place} {g'' : List Choice}
    → Asks Lawful w sizes u l g sizes' u' l' g' → Asks Lawful w sizes' u' l' g' sizes'' u'' l'' g'' → given_since g g'' ≡ given_since g g' ++ given_since g' g''
since_then {Lawful} {w} {sizes} {u} {l} {g} {sizes'} {u'} {l'} {g'} {sizes''} {u''} {l''} {g''} a b =
    since_of g g'' (given_since g g' ++ given_since g' g'')
    (b.asks.behind ∙ ap (λ (xs : List Choice). xs ++ given_since g' g'') a.asks.behind ∙ append_assoc g (given_since g g') (given_since g' g''))

-- ---- the spots of places

pub spots_join : (s : Setting) (xs ys : List Place) → spots_of s (xs ++ ys) ≡ spots_of s xs ++ spots_of s ys
spots_join s xs ys = flat_map-append (λ (p : Place). map (spot_in p) (leaves_of s p)) xs ys

-- work on the copies at some places, and then at others
pub handles_join : {D A B : Type 0} {bytes faults faults_at_fetch : D → ℕ} {home image : D → List ℕ → Type 0} {sound : D → Type 0} {went : List Written → D → D → Type 0} {x : A} {answer : Result B Stop} {a b c : List D} (s : Setting) (xs ys all : List Place) → all ≡ xs ++ ys
    → Handles {A = A} bytes faults faults_at_fetch home image sound went (spots_of s xs) (Ok x) a b → Handles bytes faults faults_at_fetch home image sound went (spots_of s ys) answer b c
    → Handles bytes faults faults_at_fetch home image sound went (spots_of s all) answer a c
handles_join {D} {A} {B} {bytes} {faults} {faults_at_fetch} {home} {image} {sound} {went} {x} {answer} {a} {b} {c} s xs ys all is first second =
    subst (λ (spots : List Spot). Handles bytes faults faults_at_fetch home image sound went spots answer a c) (sym (ap (spots_of s) is ∙ spots_join s xs ys))
    (handles_then (handles_wider (spots_of s xs ++ spots_of s ys) (contains_left (spots_of s xs) (spots_of s ys)) first)
    (handles_wider (spots_of s xs ++ spots_of s ys) (contains_right (spots_of s xs) (spots_of s ys)) second))

-- an entry that has all its copies took its places
pub taken_found : (e : Choice) → is_refused e ≡ false → taken_by e ≡ e.places
taken_found e found = ap (λ t. cond t [] e.places) found

pub taken_refused : (e : Choice) → is_refused e ≡ true → taken_by e ≡ []
taken_refused e refused = ap (λ t. cond t [] e.places) refused

-- the places of one entry and of those behind it
pub taken_front : (e : Choice) (all es : List Choice) → all ≡ e ∷ es → is_refused e ≡ false → taken_by_all all ≡ e.places ++ taken_by_all es
taken_front e all es is found = ap taken_by_all is ∙ ap (λ (ps : List Place). ps ++ taken_by_all es) (taken_found e found)

pub taken_behind : (e : Choice) (all es : List Choice) → all ≡ e ∷ es → is_refused e ≡ true → taken_by_all all ≡ taken_by_all es
taken_behind e all es is refused = ap taken_by_all is ∙ ap (λ (ps : List Place). ps ++ taken_by_all es) (taken_refused e refused)

-- work on the copies at the same places
pub handles_at : {D A : Type 0} {bytes faults faults_at_fetch : D → ℕ} {home image : D → List ℕ → Type 0} {sound : D → Type 0} {went : List Written → D → D → Type 0} {answer : Result A Stop} {a b : List D} (s : Setting) (xs all : List Place) → all ≡ xs
    → Handles bytes faults faults_at_fetch home image sound went (spots_of s xs) answer a b → Handles bytes faults faults_at_fetch home image sound went (spots_of s all) answer a b
handles_at {D} {A} {bytes} {faults} {faults_at_fetch} {home} {image} {sound} {went} {answer} {a} {b} s xs all is h =
    subst (λ (ps : List Place). Handles bytes faults faults_at_fetch home image sound went (spots_of s ps) answer a b) (sym is) h

-- work behind other places
pub handles_right : {D A : Type 0} {bytes faults faults_at_fetch : D → ℕ} {home image : D → List ℕ → Type 0} {sound : D → Type 0} {went : List Written → D → D → Type 0} {answer : Result A Stop} {a b : List D} (s : Setting) (xs ys : List Place)
    → Handles bytes faults faults_at_fetch home image sound went (spots_of s ys) answer a b → Handles bytes faults faults_at_fetch home image sound went (spots_of s (xs ++ ys)) answer a b
handles_right {D} {A} {bytes} {faults} {faults_at_fetch} {home} {image} {sound} {went} {answer} {a} {b} s xs ys h =
    subst (λ (spots : List Spot). Handles bytes faults faults_at_fetch home image sound went spots answer a b) (sym (spots_join s xs ys))
    (handles_wider (spots_of s xs ++ spots_of s ys) (contains_right (spots_of s xs) (spots_of s ys)) h)

pub handles_left : {D A : Type 0} {bytes faults faults_at_fetch : D → ℕ} {home image : D → List ℕ → Type 0} {sound : D → Type 0} {went : List Written → D → D → Type 0} {answer : Result A Stop} {a b : List D} (s : Setting) (xs ys : List Place)
    → Handles bytes faults faults_at_fetch home image sound went (spots_of s xs) answer a b → Handles bytes faults faults_at_fetch home image sound went (spots_of s (xs ++ ys)) answer a b
handles_left {D} {A} {bytes} {faults} {faults_at_fetch} {home} {image} {sound} {went} {answer} {a} {b} s xs ys h =
    subst (λ (spots : List Spot). Handles bytes faults faults_at_fetch home image sound went spots answer a b) (sym (spots_join s xs ys))
    (handles_wider (spots_of s xs ++ spots_of s ys) (contains_left (spots_of s xs) (spots_of s ys)) h)

-- a stop for want of memory before anything was done
pub handles_stop : {D A : Type 0} (bytes faults faults_at_fetch : D → ℕ) (home image : D → List ℕ → Type 0) (sound : D → Type 0) (went : List Written → D → D → Type 0) (spots : List Spot) (answer : Result A Stop) (stop : Stop) (disks : List D)
    → IsErrAnd answer (λ s. s ≡ stop) → stop ≡ Memory → Handles bytes faults faults_at_fetch home image sound went spots answer disks disks
handles_stop bytes faults faults_at_fetch home image sound went spots answer stop disks err memory =
    handles_none bytes faults faults_at_fetch home image sound went spots answer disks (no_device answer err memory)
  where
    no_device : {A : Type 0} (answer : Result A Stop) {stop : Stop} → IsErrAnd answer (λ s. s ≡ stop) → stop ≡ Memory → answer ≢ Err Device
    no_device (Ok x) h m e = cc
    no_device (Err s) h m e = let same : s ≡ Memory = h ∙ m in let no : s ≡ Device = cc in cc

pub stop_is : {A : Type 0} (answer : Result A Stop) (stop : Stop) → answer ≡ Err stop → OnErr answer (answer ≡ Err Memory) → stop ≡ Memory
stop_is (Ok x) stop is h = absurd (let f = is in cc)
stop_is (Err s) stop is h = cc

-- two facts of the value, if there is one
pub if_both : {X Y : Type 0} (r : Result X Y) (P Q : X → Type 0) → IfOk r P → IfOk r Q → IfOk r (λ x. P x × Q x)
if_both (Ok x) P Q p q = (p, q)
if_both (Err e) P Q p q = tt

-- what stands behind a front
pub behind_of : {X : Type 0} (old new more : List X) → new ≡ old ++ more → new ≡ old ++ drop (length old) new
behind_of old new more is = is ∙ ap (λ xs. old ++ xs) (sym (ap (drop (length old)) is ∙ drop-append_seam old more))

pub none_of : {X : Type 0} (xs : List X) → length xs < 1 → xs ≡ []
none_of [] h = refl
none_of (x ∷ xs) h = absurd (omega (arith, h))

pub first_of : {X : Type 0} (xs : List X) (d : X) → 1 ≤ length xs → xs ≡ get_or xs 0 d ∷ take (length xs - 1) (drop 1 xs)
first_of [] d h = absurd (omega arith)
first_of (x ∷ xs) d h = ap (λ ys. x ∷ ys) (sym (rest_of x xs))

pub taken_both : (all es fs : List Choice) → all ≡ es ++ fs → taken_by_all all ≡ taken_by_all es ++ taken_by_all fs
taken_both all es fs is = ap taken_by_all is ∙ flat_map-append taken_by es fs

-- the same by what was found
pub handles_found : {D A : Type 0} {bytes faults faults_at_fetch : D → ℕ} {home image : D → List ℕ → Type 0} {sound : D → Type 0} {went : List Written → D → D → Type 0} {answer : Result A Stop} {a b : List D} {xs ys : List Place} (s : Setting) → xs ≡ ys
    → Handles bytes faults faults_at_fetch home image sound went (spots_of s xs) answer a b → Handles bytes faults faults_at_fetch home image sound went (spots_of s ys) answer a b
handles_found {D} {A} {bytes} {faults} {faults_at_fetch} {home} {image} {sound} {went} {answer} {a} {b} {xs} {ys} s is h =
    subst (λ (ps : List Place). Handles bytes faults faults_at_fetch home image sound went (spots_of s ps) answer a b) is h
