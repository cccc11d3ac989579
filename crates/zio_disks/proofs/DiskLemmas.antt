-- Several disks by their numbers, when one of them is another and when nothing changes.
use Rattle.std.proofs.Common.{◌≡◌, ℕ, zero, suc, ◌+◌, ◌<◌, ◌≤◌, List, [], ◌∷◌, length, map, get_or, set, inl, inr, refl, sym, ap, subst, ◌∙◌, Result, Ok, Err, OnOk, OnErr, IsErrAnd, ◌≢◌, Bool, true, false, ◌&&◌, cond, Option, Some, IfSome, option_map, find, take, ◌++◌, append_assoc, ◌-◌, replicate, Contains, ⊎_elim, arith}
use Rattle.std.proofs.lemmas.List.{set_past}
use Rattle.std.proofs.lemmas.Result.{err_from_is_err_and, on_ok_weaker}
use Rattle.std.proofs.lemmas.Bool.{ltb-true, cases_lt}
use Rattle.zio_faults.specs.declared.table.Row.{Row}
use Rattle.zio_faults.specs.declared.table.Hit.{Hit}
use Rattle.zio_faults.specs.declared.table.Operation.{Operation}
use Rattle.zio_faults.specs.Hits.{first_hit, hit_on, selects, common_start, common_end}
use Rattle.zio_outside.specs.declared.written.Written.{Written}
use Rattle.zio_outside.specs.Outside.{Keeps, Rose, WritesAt}
use Rattle.zio_cksum.specs.Frames.{IsCovered, SameOutside}
use Rattle.zio_cksum.specs.Images.{Images, Setting, Spot, met, image_of, with_bytes, overwritten, padded_to}
use Rattle.zio_cksum.proofs.AllLemmas.{all_append, all_contained, all_contains, all_weaker}
use Rattle.zio_cksum.proofs.FrameLemmas.{write_same, same_itself as same_images, same_then as same_images_then}
use Rattle.std.specs.List.{AllByRecursion}
use Rattle.std.proofs.lemmas.List.{append-nil}
use Rattle.zio_disks.specs.Disks.{Tell, KeepHomes, AnyRose, AreSameDisks, Handles, LiesWithin, StaySound, StillTell, TellOutside, WritesOn, WritesWithin}
use Rattle.zio_disks.specs.declared.setting.Stop.{Stop}
use Rattle.zio_disks.specs.declared.setting.Stop.TheVariants.{Device, Memory}

-- ---- one disk by its number

-- a disk has the size that stands in the list of sizes
pub map_at : {D : Type 0} (f : D → ℕ) (disks : List D) (i : ℕ) (d : D) → i < length disks → get_or (map f disks) i 0 ≡ f (get_or disks i d)
map_at f [] i d h = absurd (omega arith)
map_at f (x ∷ xs) zero d h = refl
map_at f (x ∷ xs) (suc i) d h = map_at f xs i d (omega arith)

-- past the disks every size is 0
pub map_past : {D : Type 0} (f : D → ℕ) (disks : List D) (i : ℕ) → length disks ≤ i → get_or (map f disks) i 0 ≡ 0
map_past f [] i h = refl
map_past f (x ∷ xs) zero h = absurd (omega arith)
map_past f (x ∷ xs) (suc i) h = map_past f xs i (omega arith)

-- one of them is replaced by one that has the same
pub map_set : {D : Type 0} (f : D → ℕ) (disks : List D) (i : ℕ) (any d : D) → i < length disks → f d ≡ f (get_or disks i any) → map f (set disks i d) ≡ map f disks
map_set f [] i any d h e = refl
map_set f (x ∷ xs) zero any d h e = ap (λ n. n ∷ map f xs) e
map_set f (x ∷ xs) (suc i) any d h e = ap (λ ns. f x ∷ ns) (map_set f xs i any d (omega arith) e)

-- ---- what they tell

pub tell_length : {D : Type 0} (image : D → List ℕ → Type 0) (disks : List D) (images : Images) → Tell image disks images → length images ≡ length disks
tell_length image [] [] t = refl
tell_length image [] (bytes ∷ images) t = absurd t
tell_length image (disk ∷ disks) [] t = absurd t
tell_length image (disk ∷ disks) (bytes ∷ images) t = let e = tell_length image disks images t.1 in omega arith

pub tell_at : {D : Type 0} (image : D → List ℕ → Type 0) (disks : List D) (images : Images) (i : ℕ) (d : D) → Tell image disks images → i < length disks → image (get_or disks i d) (image_of images i)
tell_at image [] images i d t h = absurd (omega arith)
tell_at image (disk ∷ disks) [] i d t h = absurd t
tell_at image (disk ∷ disks) (bytes ∷ images) zero d t h = t.0
tell_at image (disk ∷ disks) (bytes ∷ images) (suc i) d t h = tell_at image disks images i d t.1 (omega arith)

pub tell_set : {D : Type 0} (image : D → List ℕ → Type 0) (disks : List D) (images : Images) (i : ℕ) (d : D) (bytes : List ℕ) → Tell image disks images → image d bytes → Tell image (set disks i d) (set images i bytes)
tell_set image [] [] i d bytes t h = tt
tell_set image [] (b ∷ images) i d bytes t h = absurd t
tell_set image (disk ∷ disks) [] i d bytes t h = absurd t
tell_set image (disk ∷ disks) (b ∷ images) zero d bytes t h = (h, t.1)
tell_set image (disk ∷ disks) (b ∷ images) (suc i) d bytes t h = (t.0, tell_set image disks images i d bytes t.1 h)

-- one of them is replaced by one that tells what it told
pub tell_kept : {D : Type 0} (image : D → List ℕ → Type 0) (disks : List D) (images : Images) (i : ℕ) (any d : D) → Keeps (image (get_or disks i any)) (image d) → Tell image disks images → Tell image (set disks i d) images
tell_kept image [] images i any d h t = t
tell_kept image (disk ∷ disks) [] i any d h t = absurd t
tell_kept image (disk ∷ disks) (b ∷ images) zero any d h t = ((h b).0 t.0, t.1)
tell_kept image (disk ∷ disks) (b ∷ images) (suc i) any d h t = (t.0, tell_kept image disks images i any d h t.1)

-- bytes that are stored on the disk of a spot
pub stored_there : {D : Type 0} (image : D → List ℕ → Type 0) (disks : List D) (images : Images) (spot : Spot) (bytes : List ℕ) (any new : D) → spot.leaf < length disks
    → WritesAt (image (get_or disks spot.leaf any)) (image new) spot.at bytes → Tell image disks images → Tell image (set disks spot.leaf new) (with_bytes images spot bytes)
stored_there image disks images spot bytes any new within writes t =
    tell_set image disks images spot.leaf new (overwritten (image_of images spot.leaf) spot.at bytes) t
    (writes (image_of images spot.leaf) (tell_at image disks images spot.leaf any t within))

-- bytes that are stored where no disk is change nothing
pub stored_past : {D : Type 0} (image : D → List ℕ → Type 0) (disks : List D) (images : Images) (spot : Spot) (bytes : List ℕ) → length disks ≤ spot.leaf → Tell image disks images → Tell image disks (with_bytes images spot bytes)
stored_past image disks images spot bytes past t =
    let len : length images ≡ length disks = tell_length image disks images t in
    let out : length images ≤ spot.leaf = omega arith in
    subst (Tell image disks) (sym (set_past images spot.leaf (overwritten (image_of images spot.leaf) spot.at bytes) out)) t

-- ---- what they keep

keeps_itself : (p : List ℕ → Type 0) → Keeps p p
keeps_itself p = λ x. (λ h. h, λ h. h)

keeps_then : (p q r : List ℕ → Type 0) → Keeps p q → Keeps q r → Keeps p r
keeps_then p q r h k = λ x. (λ t. (k x).0 ((h x).0 t), λ t. (h x).1 ((k x).1 t))

homes_itself : {D : Type 0} (home : D → List ℕ → Type 0) (disks : List D) → KeepHomes home disks disks
homes_itself home [] = tt
homes_itself home (disk ∷ disks) = (keeps_itself (home disk), homes_itself home disks)

homes_then : {D : Type 0} (home : D → List ℕ → Type 0) (a b c : List D) → KeepHomes home a b → KeepHomes home b c → KeepHomes home a c
homes_then home [] [] [] h k = tt
homes_then home [] [] (z ∷ zs) h k = absurd k
homes_then home [] (y ∷ ys) zs h k = absurd h
homes_then home (x ∷ xs) [] zs h k = absurd h
homes_then home (x ∷ xs) (y ∷ ys) [] h k = absurd k
homes_then home (x ∷ xs) (y ∷ ys) (z ∷ zs) h k = (keeps_then (home x) (home y) (home z) h.0 k.0, homes_then home xs ys zs h.1 k.1)

homes_set : {D : Type 0} (home : D → List ℕ → Type 0) (disks : List D) (i : ℕ) (any d : D) → Keeps (home (get_or disks i any)) (home d) → KeepHomes home disks (set disks i d)
homes_set home [] i any d h = tt
homes_set home (x ∷ xs) zero any d h = (h, homes_itself home xs)
homes_set home (x ∷ xs) (suc i) any d h = (keeps_itself (home x), homes_set home xs i any d h)

still_itself : {D : Type 0} (image : D → List ℕ → Type 0) (disks : List D) → StillTell image disks disks
still_itself image [] = tt
still_itself image (disk ∷ disks) = (λ content told. (content, told), still_itself image disks)

still_then : {D : Type 0} (image : D → List ℕ → Type 0) (a b c : List D) → StillTell image a b → StillTell image b c → StillTell image a c
still_then image [] [] [] h k = tt
still_then image [] [] (z ∷ zs) h k = absurd k
still_then image [] (y ∷ ys) zs h k = absurd h
still_then image (x ∷ xs) [] zs h k = absurd h
still_then image (x ∷ xs) (y ∷ ys) [] h k = absurd k
still_then image (x ∷ xs) (y ∷ ys) (z ∷ zs) h k =
    (λ content told. (let mid = h.0 content told in k.0 mid.0 mid.1), still_then image xs ys zs h.1 k.1)

still_set : {D : Type 0} (image : D → List ℕ → Type 0) (disks : List D) (i : ℕ) (any d : D)
    → ((content : List ℕ) → image (get_or disks i any) content → (after : List ℕ) × image d after) → StillTell image disks (set disks i d)
still_set image [] i any d h = tt
still_set image (x ∷ xs) zero any d h = (h, still_itself image xs)
still_set image (x ∷ xs) (suc i) any d h = (λ content told. (content, told), still_set image xs i any d h)

stay_itself : {D : Type 0} (sound : D → Type 0) (faults : D → ℕ) (disks : List D) → StaySound sound faults disks disks
stay_itself sound faults [] = tt
stay_itself sound faults (disk ∷ disks) = (λ s. (s, refl), stay_itself sound faults disks)

stay_then : {D : Type 0} (sound : D → Type 0) (faults : D → ℕ) (a b c : List D)
    → StaySound sound faults a b → StaySound sound faults b c → StaySound sound faults a c
stay_then sound faults [] [] [] h k = tt
stay_then sound faults [] [] (z ∷ zs) h k = absurd k
stay_then sound faults [] (y ∷ ys) zs h k = absurd h
stay_then sound faults (x ∷ xs) [] zs h k = absurd h
stay_then sound faults (x ∷ xs) (y ∷ ys) [] h k = absurd k
stay_then sound faults (x ∷ xs) (y ∷ ys) (z ∷ zs) h k = (
  λ s. (let mid = h.0 s in let end = k.0 mid.0 in (end.0, end.1 ∙ mid.1)),
  stay_then sound faults xs ys zs h.1 k.1,
)

stay_set : {D : Type 0} (sound : D → Type 0) (faults : D → ℕ) (disks : List D) (i : ℕ) (any d : D)
    → (sound (get_or disks i any) → sound d × (faults d ≡ faults (get_or disks i any)))
    → StaySound sound faults disks (set disks i d)
stay_set sound faults [] i any d h = tt
stay_set sound faults (x ∷ xs) zero any d h = (h, stay_itself sound faults xs)
stay_set sound faults (x ∷ xs) (suc i) any d h = (λ s. (s, refl), stay_set sound faults xs i any d h)

pub same_itself : {D : Type 0} (bytes faults faults_at_fetch : D → ℕ) (home image : D → List ℕ → Type 0) (sound : D → Type 0) (disks : List D) → AreSameDisks bytes faults faults_at_fetch home image sound disks disks
same_itself bytes faults faults_at_fetch home image sound disks =
    record {
      sizes = refl;
      at_fetch = refl;
      homes = homes_itself home disks;
      told = still_itself image disks;
      stay = stay_itself sound faults disks;
    }

pub same_then : {D : Type 0} (bytes faults faults_at_fetch : D → ℕ) (home image : D → List ℕ → Type 0) (sound : D → Type 0) (a b c : List D) → AreSameDisks bytes faults faults_at_fetch home image sound a b → AreSameDisks bytes faults faults_at_fetch home image sound b c → AreSameDisks bytes faults faults_at_fetch home image sound a c
same_then bytes faults faults_at_fetch home image sound a b c h k = record {
  sizes = k.sizes ∙ h.sizes;
  at_fetch = k.at_fetch ∙ h.at_fetch;
  homes = homes_then home a b c h.homes k.homes;
  told = still_then image a b c h.told k.told;
  stay = stay_then sound faults a b c h.stay k.stay;
}

-- ---- counts of faults

rose_at : {D : Type 0} (faults : D → ℕ) (disks : List D) (i : ℕ) (any d : D) → i < length disks → Rose (faults (get_or disks i any)) (faults d) → AnyRose (map faults disks) (map faults (set disks i d))
rose_at faults [] i any d within h = absurd (omega arith)
rose_at faults (x ∷ xs) zero any d within h = inl h
rose_at faults (x ∷ xs) (suc i) any d within h = inr (rose_at faults xs i any d (omega arith) h)

on_ok : {A E : Type 0} {P : Type 0} (r : Result A E) → P → OnOk r P
on_ok (Ok x) h = h
on_ok (Err e) h = tt

-- ---- what changes outside some spots

outside_itself : {D : Type 0} (image : D → List ℕ → Type 0) (spots : List Spot) (disks : List D) → TellOutside image spots disks disks
outside_itself image spots disks = λ before told. (before, told, same_images spots before)

-- the images that one operation left are those of the next
outside_then : {D : Type 0} (image : D → List ℕ → Type 0) (spots : List Spot) (a b c : List D) → TellOutside image spots a b → TellOutside image spots b c → TellOutside image spots a c
outside_then image spots a b c h k = λ before told.
    let mid = h before told in
    let end = k mid.0 mid.1 in
    (end.0, end.1, same_images_then spots before mid.0 end.0 mid.2 end.2)

-- what is the same outside some spots is the same outside more of them
wider_images : (xs ys : List Spot) (old new : Images) → ((spot : Spot) → Contains xs spot → Contains ys spot) → SameOutside xs old new → SameOutside ys old new
wider_images xs ys old new sub h = record {
  sizes = h.sizes;
  bytes = λ leaf at out. h.bytes leaf at
      (λ c. out (record { spot = c.spot; listed = sub c.spot c.listed; same_leaf = c.same_leaf; from = c.from; below = c.below }));
}

-- one of them is replaced, in a relation that each has to itself
at_set : {D : Type 0} (R : ℕ → D → D → Type 0) (disks : List D) (i : ℕ) (any d : D) → ((leaf : ℕ) (x : D) → R leaf x x) → R i (get_or disks i any) d → (leaf : ℕ) (other : D) → R leaf (get_or disks leaf other) (get_or (set disks i d) leaf other)
at_set R [] i any d same h leaf other = same leaf other
at_set R (x ∷ xs) zero any d same h zero other = h
at_set R (x ∷ xs) zero any d same h (suc leaf) other = same (suc leaf) (get_or xs leaf other)
at_set R (x ∷ xs) (suc i) any d same h zero other = same zero x
at_set R (x ∷ xs) (suc i) any d same h (suc leaf) other = at_set (λ (n : ℕ). R (suc n)) xs i any d (λ n. same (suc n)) h leaf other

-- ---- what is written

writes_nothing : {D : Type 0} (went : List Written → D → D → Type 0) (spots : List Spot) (leaf : ℕ) (disk : D) → WritesOn went spots leaf disk disk
writes_nothing went spots leaf disk = λ start ranges w. ([], subst (λ (rs : List Written). went rs start disk) (sym (append-nil ranges)) w, tt)

writes_then : {D : Type 0} (went : List Written → D → D → Type 0) (spots : List Spot) (leaf : ℕ) (a b c : D) → WritesOn went spots leaf a b → WritesOn went spots leaf b c → WritesOn went spots leaf a c
writes_then went spots leaf a b c h k = λ start ranges w.
    let one = h start ranges w in
    let two = k start (ranges ++ one.0) one.1 in (
      one.0 ++ two.0,
      subst (λ (rs : List Written). went rs start c) (append_assoc ranges one.0 two.0) two.1,
      all_append (LiesWithin spots leaf) one.0 two.0 one.2 two.2,
    )

-- what lies within some spots lies within more of them
lies_wider : (spots more : List Spot) (leaf : ℕ) (range : Written) → ((spot : Spot) → Contains spots spot → Contains more spot) → LiesWithin spots leaf range → LiesWithin more leaf range
lies_wider spots more leaf range sub h = λ at from below.
    let c : IsCovered spots leaf at = h at from below in
    record { spot = c.spot; listed = sub c.spot c.listed; same_leaf = c.same_leaf; from = c.from; below = c.below }

-- where the ranges within some spots are within others
pub writes_among : {D : Type 0} (went : List Written → D → D → Type 0) (spots others : List Spot) (old new : List D)
    → ((leaf : ℕ) (range : Written) → LiesWithin spots leaf range → LiesWithin others leaf range) → WritesWithin went spots old new → WritesWithin went others old new
writes_among went spots others old new sub h = λ leaf other start ranges w.
    let one = h leaf other start ranges w in
    (one.0, one.1, all_weaker (LiesWithin spots leaf) (LiesWithin others leaf) one.0 (sub leaf) one.2)

-- a disk that was written in these ranges
pub writes_ranges : {D : Type 0} (went : List Written → D → D → Type 0) (spots : List Spot) (leaf : ℕ) (ranges : List Written) (old new : D)
    → ((first second : List Written) (a b c : D) → went first a b → went second b c → went (first ++ second) a c)
    → went ranges old new → AllByRecursion (LiesWithin spots leaf) ranges → WritesOn went spots leaf old new
writes_ranges went spots leaf ranges old new joins writes within = λ start before w. (ranges, joins before ranges start old new w writes, within)

-- the bytes that fill a spot lie within it
pub lies_in : (spot seen : Spot) (len : ℕ) → spot ≡ seen → len ≡ seen.span → LiesWithin (seen ∷ []) spot.leaf (record { at = spot.at; len = len })
lies_in spot seen len view whole = λ at from below. record {
  spot = seen;
  listed = (all_contained (seen ∷ [])).0;
  same_leaf = sym (ap (λ (s : Spot). s.leaf) view);
  from = subst (λ (s : Spot). s.at ≤ at) view from;
  below = subst (λ (n : ℕ). at < seen.at + n) whole (subst (λ (s : Spot). at < s.at + len) view below);
}

-- ---- what an operation leaves

-- an operation that changes no disk
pub handles_none : {D A : Type 0} (bytes faults faults_at_fetch : D → ℕ) (home image : D → List ℕ → Type 0) (sound : D → Type 0) (went : List Written → D → D → Type 0) (spots : List Spot) (answer : Result A Stop) (disks : List D) → answer ≢ Err Device → Handles bytes faults faults_at_fetch home image sound went spots answer disks disks
handles_none bytes faults faults_at_fetch home image sound went spots answer disks ne = record {
  same = same_itself bytes faults faults_at_fetch home image sound disks;
  steady = on_ok answer refl;
  device = λ e. absurd (ne e);
  calm = λ other. refl;
  outside = outside_itself image spots disks;
  wrote = λ leaf other. writes_nothing went spots leaf (get_or disks leaf other);
}

-- an operation on one of the disks
pub handles_one : {D A : Type 0} (bytes faults faults_at_fetch : D → ℕ) (home image : D → List ℕ → Type 0) (sound : D → Type 0) (went : List Written → D → D → Type 0) (spots : List Spot) (answer : Result A Stop) (disks : List D) (i : ℕ) (any new : D) → i < length disks
    → bytes new ≡ bytes (get_or disks i any) → faults_at_fetch new ≡ faults_at_fetch (get_or disks i any) → Keeps (home (get_or disks i any)) (home new)
    → ((content : List ℕ) → image (get_or disks i any) content → (after : List ℕ) × image new after)
    → (sound (get_or disks i any) → sound new × (faults new ≡ faults (get_or disks i any)))
    → OnOk answer (faults new ≡ faults (get_or disks i any)) → (answer ≡ Err Device → Rose (faults (get_or disks i any)) (faults new))
    → (answer ≢ Err Device → faults new ≡ faults (get_or disks i any))
    → TellOutside image spots disks (set disks i new) → WritesOn went spots i (get_or disks i any) new
    → Handles bytes faults faults_at_fetch home image sound went spots answer disks (set disks i new)
handles_one bytes faults faults_at_fetch home image sound went spots answer disks i any new within size fetch kept still stays ok err calm outside wrote = record {
  same = record {
    sizes = map_set bytes disks i any new within size;
    at_fetch = map_set faults_at_fetch disks i any new within fetch;
    homes = homes_set home disks i any new kept;
    told = still_set image disks i any new still;
    stay = stay_set sound faults disks i any new stays;
  };
  steady = on_ok_weaker answer (λ e. map_set faults disks i any new within e) ok;
  device = λ e. rose_at faults disks i any new within (err e);
  calm = λ other. map_set faults disks i any new within (calm other);
  outside = outside;
  wrote = at_set (WritesOn went spots) disks i any new (writes_nothing went spots) wrote;
}

-- one operation after another, whose answer counts
pub handles_then : {D A B : Type 0} {bytes faults faults_at_fetch : D → ℕ} {home image : D → List ℕ → Type 0} {sound : D → Type 0} {went : List Written → D → D → Type 0} {spots : List Spot} {x : A} {answer : Result B Stop} {a b c : List D}
    → Handles {A = A} bytes faults faults_at_fetch home image sound went spots (Ok x) a b → Handles bytes faults faults_at_fetch home image sound went spots answer b c → Handles bytes faults faults_at_fetch home image sound went spots answer a c
handles_then {D} {A} {B} {bytes} {faults} {faults_at_fetch} {home} {image} {sound} {went} {spots} {x} {answer} {a} {b} {c} h k = record {
  same = same_then bytes faults faults_at_fetch home image sound a b c h.same k.same;
  steady = on_ok_weaker answer (λ s. s ∙ h.steady) k.steady;
  device = λ d. subst (λ counts. AnyRose counts (map faults c)) h.steady (k.device d);
  calm = λ other. k.calm other ∙ h.steady;
  outside = outside_then image spots a b c h.outside k.outside;
  wrote = λ leaf other. writes_then went spots leaf (get_or a leaf other) (get_or b leaf other) (get_or c leaf other) (h.wrote leaf other) (k.wrote leaf other);
}

-- among more spots
pub handles_wider : {D A : Type 0} {bytes faults faults_at_fetch : D → ℕ} {home image : D → List ℕ → Type 0} {sound : D → Type 0} {went : List Written → D → D → Type 0} {spots : List Spot} {answer : Result A Stop} {a b : List D} (more : List Spot)
    → AllByRecursion (Contains more) spots
    → Handles bytes faults faults_at_fetch home image sound went spots answer a b → Handles bytes faults faults_at_fetch home image sound went more answer a b
handles_wider {D} {A} {bytes} {faults} {faults_at_fetch} {home} {image} {sound} {went} {spots} {answer} {a} {b} more among h = record {
  same = h.same;
  steady = h.steady;
  device = h.device;
  calm = h.calm;
  outside = λ before told.
      let o = h.outside before told in
      (o.0, o.1, wider_images spots more before o.0 (λ spot c. all_contains (Contains more) spots spot among c) o.2);
  wrote = writes_among went spots more a b (λ leaf range. lies_wider spots more leaf range (λ spot c. all_contains (Contains more) spots spot among c)) h.wrote;
}

-- another answer where no disk failed
pub handles_ok : {D A B : Type 0} {bytes faults faults_at_fetch : D → ℕ} {home image : D → List ℕ → Type 0} {sound : D → Type 0} {went : List Written → D → D → Type 0} {spots : List Spot} {x : A} {a b : List D} (y : B)
    → Handles {A = A} bytes faults faults_at_fetch home image sound went spots (Ok x) a b → Handles {A = B} bytes faults faults_at_fetch home image sound went spots (Ok y) a b
handles_ok y h = record { same = h.same; steady = h.steady; device = λ e. cc; calm = λ other. h.steady; outside = h.outside; wrote = h.wrote }

-- an error that is passed on
pub handles_err : {D A B : Type 0} {bytes faults faults_at_fetch : D → ℕ} {home image : D → List ℕ → Type 0} {sound : D → Type 0} {went : List Written → D → D → Type 0} {spots : List Spot} {stop : Stop} {a b : List D} (answer : Result B Stop)
    → IsErrAnd answer (λ s. s ≡ stop) → Handles {A = A} bytes faults faults_at_fetch home image sound went spots (Err stop) a b → Handles bytes faults faults_at_fetch home image sound went spots answer a b
handles_err {D} {A} {B} {bytes} {faults} {faults_at_fetch} {home} {image} {sound} {went} {spots} {stop} {a} {b} answer is h =
    let p = err_from_is_err_and answer is in
    record {
      same = h.same;
      steady = subst (λ r. OnOk r (map faults b ≡ map faults a)) (sym p.1) tt;
      device = λ e. h.device (let f = p.1 in let q = p.2 in cc);
      calm = λ other. h.calm (λ e. other (let f = p.1 in let q = p.2 in cc));
      outside = h.outside;
      wrote = h.wrote;
    }

-- what follows without a disk, and fails for memory alone
pub not_device : {A : Type 0} (answer : Result A Stop) → OnErr answer (answer ≡ Err Memory) → answer ≢ Err Device
not_device (Ok x) h = λ e. cc
not_device (Err stop) h = λ e. let f : Err stop ≡ Err Memory = h in cc

pub handles_after : {D A B : Type 0} {bytes faults faults_at_fetch : D → ℕ} {home image : D → List ℕ → Type 0} {sound : D → Type 0} {went : List Written → D → D → Type 0} {spots : List Spot} {x : A} {a b : List D} (answer : Result B Stop)
    → OnErr answer (answer ≡ Err Memory) → Handles {A = A} bytes faults faults_at_fetch home image sound went spots (Ok x) a b → Handles {A = B} bytes faults faults_at_fetch home image sound went spots answer a b
handles_after answer memory h = record {
  same = h.same;
  steady = on_ok answer h.steady;
  device = λ e. absurd (not_device answer memory e);
  calm = λ other. h.steady;
  outside = h.outside;
  wrote = h.wrote;
}

-- ---- one operation

-- a disk that tells what it told
pub kept_outside : {D : Type 0} (image : D → List ℕ → Type 0) (spots : List Spot) (disks : List D) (i : ℕ) (any new : D) → Keeps (image (get_or disks i any)) (image new) → TellOutside image spots disks (set disks i new)
kept_outside image spots disks i any new keeps = λ before told. (before, tell_kept image disks before i any new keeps told, same_images spots before)

-- bytes that fill a place are padded to themselves
pub padded_whole : (span : ℕ) (bytes : List ℕ) → length bytes ≡ span → padded_to span bytes ≡ bytes
padded_whole span bytes e =
    let none : span - length bytes ≡ 0 = omega arith in
    ap (λ n. take span (bytes ++ replicate n 0)) none ∙ ap (take span) (append-nil bytes) ∙ ap (λ n. take n bytes) (sym e) ∙ take_whole bytes
  where
    take_whole : {X : Type 0} (xs : List X) → take (length xs) xs ≡ xs
    take_whole [] = refl
    take_whole (x ∷ xs) = ap (λ ys. x ∷ ys) (take_whole xs)

-- bytes that fill the place of a spot change nothing outside it
pub stored_same : (images : Images) (spot : Spot) (bytes : List ℕ) → length bytes ≡ spot.span → spot.at + spot.span ≤ length (image_of images spot.leaf)
    → SameOutside (spot ∷ []) images (with_bytes images spot bytes)
stored_same images spot bytes whole fit =
    let s : Setting = record { tops = []; rows = []; point = 0 } in
    subst (λ bs. SameOutside (spot ∷ []) images (with_bytes images spot bs)) (padded_whole spot.span bytes whole)
    (write_same (spot ∷ []) s false bytes images spot (fit, tt) (all_contained (spot ∷ [])).0)

-- ---- the row that an operation meets

and_true : (a b : Bool) → a && b ≡ true → (a ≡ true) × (b ≡ true)
and_true true b e = (refl, e)
and_true false b e = absurd (let f = e in cc)

selects_common : (row : Row) (o : Operation) → selects row o ≡ true → common_start row o < common_end row o
selects_common row o e =
    let one = and_true _ _ e in
    let two = and_true _ _ one.0 in
    let three = and_true _ _ two.0 in
    ltb-true _ _ (and_true _ _ three.0).1

met_step : (P : Hit → Type 0) (t : Bool) (o : Operation) (row : Row) (rest : Option Row) → (t ≡ true → P (hit_on o row)) → IfSome (option_map (hit_on o) rest) P → IfSome (option_map (hit_on o) (cond t (Some row) rest)) P
met_step P true o row rest h k = h refl
met_step P false o row rest h k = k

-- it covers no byte behind the operation's
pub hit_ends : (o : Operation) (rows : List Row) → IfSome (first_hit rows o) (λ hit. hit.at + hit.len ≤ o.at + o.len)
hit_ends o [] = tt
hit_ends o (row ∷ rows) =
    met_step (λ hit. hit.at + hit.len ≤ o.at + o.len) (selects row o) o row (find (λ r. selects r o) rows)
    (λ e. let h = selects_common row o e in omega arith) (hit_ends o rows)

pub met_ends : (s : Setting) (retry write : Bool) (spot : Spot) (hit : Hit) → Some hit ≡ met s retry write spot → hit.at + hit.len ≤ spot.at + spot.span
met_ends s retry write spot hit e =
    subst (λ (o : Option Hit). IfSome o (λ h. h.at + h.len ≤ spot.at + spot.span)) (sym e)
    (hit_ends (record { leaf = spot.leaf; write = write; at = spot.at; len = spot.span; point = s.point; retry = retry }) s.rows)

-- ---- a fetch

-- a spot where some bytes lie is on one of the disks
pub spot_within : {D : Type 0} (bytes : D → ℕ) (disks : List D) (spot seen : Spot) (len : ℕ) → spot ≡ seen → 0 < len → seen.at + len ≤ get_or (map bytes disks) seen.leaf 0 → spot.leaf < length disks
spot_within bytes disks spot seen len view some lies =
    let here : spot.at + len ≤ get_or (map bytes disks) spot.leaf 0 = subst (λ (s : Spot). s.at + len ≤ get_or (map bytes disks) s.leaf 0) (sym view) lies in
    ⊎_elim (λ h. h)
    (λ past. let none : get_or (map bytes disks) spot.leaf 0 ≡ 0 = map_past bytes disks spot.leaf past in absurd (omega arith))
    (cases_lt spot.leaf (length disks))

-- ---- a write

-- a disk that tells other bytes in the place of a spot
pub stored_outside : {D : Type 0} (image : D → List ℕ → Type 0) (bytes : D → ℕ) (disks : List D) (spot seen : Spot) (len : ℕ) (any new : D) → spot ≡ seen → spot.leaf < length disks
    → ((content : List ℕ) → image (get_or disks spot.leaf any) content → length content ≡ bytes (get_or disks spot.leaf any))
    → len ≡ seen.span → seen.at + len ≤ get_or (map bytes disks) seen.leaf 0
    → ((content : List ℕ) → image (get_or disks spot.leaf any) content → (stored : List ℕ) × (length stored ≡ len) × image new (overwritten content spot.at stored))
    → TellOutside image (seen ∷ []) disks (set disks spot.leaf new)
stored_outside image bytes disks spot seen len any new view within sized whole lies stored =
    subst (λ (s : Spot). len ≡ s.span → s.at + len ≤ get_or (map bytes disks) s.leaf 0 → TellOutside image (s ∷ []) disks (set disks spot.leaf new)) view
    (λ all inside before told.
    let content : List ℕ = image_of before spot.leaf in
    let here : image (get_or disks spot.leaf any) content = tell_at image disks before spot.leaf any told within in
    let after = stored content here in
    let long : length content ≡ bytes (get_or disks spot.leaf any) = sized content here in
    let size : get_or (map bytes disks) spot.leaf 0 ≡ bytes (get_or disks spot.leaf any) = map_at bytes disks spot.leaf any within in
    let filled : length after.0 ≡ spot.span = after.1 ∙ all in
    let fit : spot.at + spot.span ≤ length content = omega arith in (
      with_bytes before spot after.0,
      tell_set image disks before spot.leaf new (overwritten content spot.at after.0) told after.2,
      stored_same before spot after.0 filled fit,
    ))
    whole lies
