-- Operations that are issued one more at a time, and the spots of those that write.
use Rattle.std.proofs.Common.{◌≡◌, ℕ, ◌+◌, ◌<◌, List, [], ◌∷◌, ◌++◌, length, map, filter, take, get_or, Bool, true, false, cond, Option, Result, Ok, Err, IfOk, refl, sym, ap, subst, ◌∙◌, Contains}
use Rattle.std.proofs.lemmas.List.{map-append, take_more}
use Rattle.std.proofs.lemmas.List.Elements.{Contains-append_right, Contains-get_or}
use Rattle.std.specs.List.{AllByRecursion}
use Rattle.zio_types.specs.declared.error.Errno.{Errno}
use Rattle.zio_cksum.specs.Images.{Images, Setting, Spot}
use Rattle.zio_cksum.proofs.AllLemmas.{all_contained, all_contains, all_weaker}
use Rattle.zio_groups.specs.declared.waiting.QueuedOp.{QueuedOp}
use Rattle.zio_groups.specs.declared.waiting.Answered.{Answered}
use Rattle.zio_groups.specs.Issued.{AreWhole, IsWhole, all_issued, head_of, one_issued, spot_of, written_spots}

-- ---- an item by its place

pub taken_more : {X : Type 0} (xs : List X) (i : ℕ) (x : X) → i < length xs → x ≡ get_or xs i x → take (i + 1) xs ≡ take i xs ++ x ∷ []
taken_more xs i x below is = take_more xs i x below ∙ ap (λ y. take i xs ++ y ∷ []) (sym is)

pub contains_at : {X : Type 0} (xs : List X) (i : ℕ) (x : X) → i < length xs → x ≡ get_or xs i x → Contains xs x
contains_at xs i x below is = subst (Contains xs) (sym is) (Contains-get_or xs i x below)

pub all_at : {X : Type 0} (P : X → Type 0) (xs : List X) (i : ℕ) (x : X) → i < length xs → x ≡ get_or xs i x → AllByRecursion P xs → P x
all_at P xs i x below is h = all_contains P xs x h (contains_at xs i x below is)

pub ok_both : {A E : Type 0} (P Q R : A → Type 0) (r : Result A E) → ((x : A) → P x → Q x → R x) → IfOk r P → IfOk r Q → IfOk r R
ok_both P Q R (Ok x) f p q = f x p q
ok_both P Q R (Err e) f p q = tt

-- ---- one more

pub answers_more : (s : Setting) (leaf : ℕ) (ws : List QueuedOp) (w : QueuedOp) (images : Images)
    → (all_issued s leaf (ws ++ w ∷ []) images).answers ≡ (all_issued s leaf ws images).answers ++ (one_issued s leaf w (all_issued s leaf ws images).images).answer ∷ []
answers_more s leaf [] w images = refl
answers_more s leaf (v ∷ vs) w images =
    ap (λ (bs : List Answered). (one_issued s leaf v images).answer ∷ bs) (answers_more s leaf vs w (one_issued s leaf v images).images)

pub images_more : (s : Setting) (leaf : ℕ) (ws : List QueuedOp) (w : QueuedOp) (images : Images)
    → (all_issued s leaf (ws ++ w ∷ []) images).images ≡ (one_issued s leaf w (all_issued s leaf ws images).images).images
images_more s leaf [] w images = refl
images_more s leaf (v ∷ vs) w images = images_more s leaf vs w (one_issued s leaf v images).images

whole_push : (ws : List QueuedOp) (bs : List Answered) (w : QueuedOp) (b : Answered) → AreWhole ws bs → IsWhole w b → AreWhole (ws ++ w ∷ []) (bs ++ b ∷ [])
whole_push [] [] w b h k = (k, tt)
whole_push [] (a ∷ rest) w b h k = absurd h
whole_push (v ∷ vs) [] w b h k = absurd h
whole_push (v ∷ vs) (a ∷ rest) w b h k = (h.0, whole_push vs rest w b h.1 k)

heads_push : (bs : List Answered) (b : Answered) → map head_of (bs ++ b ∷ []) ≡ map head_of bs ++ head_of b ∷ []
heads_push bs b = map-append head_of bs (b ∷ [])

-- what is known of the answers so far is known of one more
pub told_more : (s : Setting) (leaf : ℕ) (ts vs : List QueuedOp) (w : QueuedOp) (images : Images) (old new : List Answered) (b : Answered) → vs ≡ ts ++ w ∷ [] → new ≡ old ++ b ∷ []
    → old ≡ (all_issued s leaf ts images).answers → b ≡ (one_issued s leaf w (all_issued s leaf ts images).images).answer → new ≡ (all_issued s leaf vs images).answers
told_more s leaf ts vs w images old new b more push so_far here =
    push
    ∙ ap (λ (bs : List Answered). bs ++ b ∷ []) so_far
    ∙ ap (λ (a : Answered). (all_issued s leaf ts images).answers ++ a ∷ []) here
    ∙ sym (ap (λ (ws : List QueuedOp). (all_issued s leaf ws images).answers) more ∙ answers_more s leaf ts w images)

pub left_more : (s : Setting) (leaf : ℕ) (ts vs : List QueuedOp) (w : QueuedOp) (images : Images) → vs ≡ ts ++ w ∷ [] → (all_issued s leaf vs images).images ≡ (one_issued s leaf w (all_issued s leaf ts images).images).images
left_more s leaf ts vs w images more = ap (λ (ws : List QueuedOp). (all_issued s leaf ws images).images) more ∙ images_more s leaf ts w images

pub heads_more : (s : Setting) (leaf : ℕ) (ts vs : List QueuedOp) (w : QueuedOp) (images : Images) (old new : List Answered) (b : Answered) → vs ≡ ts ++ w ∷ [] → new ≡ old ++ b ∷ []
    → map head_of old ≡ map head_of ((all_issued s leaf ts images).answers) → head_of b ≡ head_of ((one_issued s leaf w (all_issued s leaf ts images).images).answer) → map head_of new ≡ map head_of ((all_issued s leaf vs images).answers)
heads_more s leaf ts vs w images old new b more push so_far here =
    ap (map head_of) push
    ∙ heads_push old b
    ∙ ap (λ (hs : List (ℕ × Option Errno)). hs ++ head_of b ∷ []) so_far
    ∙ ap (λ (h : ℕ × Option Errno). map head_of ((all_issued s leaf ts images).answers) ++ h ∷ []) here
    ∙ sym (ap (λ (ws : List QueuedOp). map head_of ((all_issued s leaf ws images).answers)) more
    ∙ ap (map head_of) (answers_more s leaf ts w images)
    ∙ heads_push ((all_issued s leaf ts images).answers) ((one_issued s leaf w (all_issued s leaf ts images).images).answer))

pub whole_more : (ts vs : List QueuedOp) (w : QueuedOp) (old new : List Answered) (b : Answered) → vs ≡ ts ++ w ∷ [] → new ≡ old ++ b ∷ [] → AreWhole ts old → IsWhole w b → AreWhole vs new
whole_more ts vs w old new b more push h k =
    subst (λ (ws : List QueuedOp). AreWhole ws new) (sym more) (subst (AreWhole (ts ++ w ∷ [])) (sym push) (whole_push ts old w b h k))

-- ---- the spots of writes

abbrev spots : ℕ → List QueuedOp → List Spot
spots leaf ws = map (λ (w : QueuedOp). spot_of leaf w.op) ws

spots_head : (leaf : ℕ) (b : Bool) (w : QueuedOp) (ws : List QueuedOp) → b ≡ true → Contains (spots leaf (cond b (w ∷ ws) ws)) (spot_of leaf w.op)
spots_head leaf true w ws e = (all_contained (spot_of leaf w.op ∷ spots leaf ws)).0
spots_head leaf false w ws e = absurd (cc)

spots_tail : (leaf : ℕ) (b : Bool) (w : QueuedOp) (ws : List QueuedOp) (spot : Spot) → Contains (spots leaf ws) spot → Contains (spots leaf (cond b (w ∷ ws) ws)) spot
spots_tail leaf true w ws spot c = Contains-append_right (spot_of leaf w.op ∷ []) (spots leaf ws) spot c
spots_tail leaf false w ws spot c = c

abbrev IsListed : ℕ → List QueuedOp → QueuedOp → Type 0
IsListed leaf ws w = w.op.write ≡ true → Contains (written_spots leaf ws) (spot_of leaf w.op)

all_listed : (leaf : ℕ) (ws : List QueuedOp) → AllByRecursion (IsListed leaf ws) ws
all_listed leaf [] = tt
all_listed leaf (w ∷ ws) = (
  λ e. spots_head leaf w.op.write w (filter (λ (v : QueuedOp). v.op.write) ws) e,
  all_weaker (IsListed leaf ws) (IsListed leaf (w ∷ ws)) ws (λ v h e. spots_tail leaf w.op.write w (filter (λ (v : QueuedOp). v.op.write) ws) (spot_of leaf v.op) (h e)) (all_listed leaf ws),
)

spots_some : (leaf : ℕ) (all : List Spot) (b : Bool) (w : QueuedOp) (ws : List QueuedOp) → (b ≡ true → Contains all (spot_of leaf w.op)) → AllByRecursion (Contains all) (spots leaf ws) → AllByRecursion (Contains all) (spots leaf (cond b (w ∷ ws) ws))
spots_some leaf all true w ws h k = (h refl, k)
spots_some leaf all false w ws h k = k

-- the spots of some are among those of all
pub spots_among : (leaf : ℕ) (all ws : List QueuedOp) → AllByRecursion (Contains all) ws → AllByRecursion (Contains (written_spots leaf all)) (written_spots leaf ws)
spots_among leaf all [] h = tt
spots_among leaf all (w ∷ ws) h =
    spots_some leaf (written_spots leaf all) w.op.write w (filter (λ (v : QueuedOp). v.op.write) ws)
    (λ e. all_contains (IsListed leaf all) all w (all_listed leaf all) h.0 e)
    (spots_among leaf all ws h.1)
