-- The pieces of a block don't touch each other, where no two of the block's places meet.
use Rattle.std.proofs.Common.{◌≡◌, ◌≢◌, ℕ, zero, suc, ◌+◌, ◌≤◌, List, [], ◌∷◌, ◌++◌, Bool, true, false, cond, bytes_eq, find, Option, Some, None, option_map, Contains, ◌⊎◌, inl, inr, ⊎_elim, refl, sym, ◌∙◌, subst, append_assoc, append-nil, arith}
use Rattle.std.proofs.lemmas.List.Elements.{Contains-append_cases}
use Rattle.std.proofs.lemmas.Slice.Eq.{bytes_eq-Decides}
use Rattle.std.specs.List.{AllByRecursion, flat_map}
use Rattle.zio_types.specs.declared.place.Place.{Place}
use Rattle.zio_blkptr.specs.declared.pointer.Bp.{Bp}
use Rattle.zio_blkptr.specs.Pointers.{places_of}
use Rattle.zio_cksum.specs.Headers.{members_of}
use Rattle.zio_cksum.proofs.AllLemmas.{all_append, all_contains, all_weaker}
use Rattle.zio_gang.specs.declared.tree.Head.{Head}
use Rattle.zio_gang.specs.Pieces.{members_kept}
use Rattle.zio_gang.specs.Trees.{kept_at}
use Rattle.zio_trace.specs.BlockCopies.{Copies, Groups, below_copies, copies_from, groups_if, groups_of_members, head_copies, joined_groups, no_groups}
use Rattle.zio_trace.specs.TreeOrders.{Pairs}
use Rattle.zio_trace.proofs.ChoiceLemmas.{contained_cases}
use Rattle.zio_trace.proofs.ListLemmas.{contains_first, contains_later}
use Rattle.zio_trace.proofs.PairLemmas.{all_of, flat_contains, pairs_append}
use Rattle.zio_trace.proofs.PlaceLemmas.{DontMeet}
use Rattle.zio_trace.proofs.SpotLemmas.{NoneTouch, dont_turned, touch_turned}

-- ---- kept headers

-- the head that is kept at the path
pub record IsKept (heads : List Head) (path bytes : List ℕ) : Type 0 where
  pub head : Head
  pub listed : Contains heads head
  pub there : head.path ≡ path
  pub is : head.bytes ≡ bytes

kept_step : (found : Bool) (h : Head) (hs : List Head) (path bytes : List ℕ) → bytes_eq h.path path ≡ found → option_map (λ (x : Head). x.bytes) (cond found (Some h) (find (λ (x : Head). bytes_eq x.path path) hs)) ≡ Some bytes
    → (kept_at hs path ≡ Some bytes → IsKept hs path bytes) → IsKept (h ∷ hs) path bytes
kept_step true h hs path bytes e is rest = record { head = h; listed = contains_first h hs; there = (bytes_eq-Decides h.path path).0 e; is = cc }
kept_step false h hs path bytes e is rest =
    let k : IsKept hs path bytes = rest is in record { head = k.head; listed = contains_later h hs k.head k.listed; there = k.there; is = k.is }

pub kept_head : (heads : List Head) (path bytes : List ℕ) → kept_at heads path ≡ Some bytes → IsKept heads path bytes
kept_head [] path bytes e = absurd (cc)
kept_head (h ∷ hs) path bytes e = kept_step (bytes_eq h.path path) h hs path bytes refl e (kept_head hs path bytes)

-- ---- paths

pub longer_differs : (path below : List ℕ) (n : ℕ) → path ≢ (path ++ n ∷ []) ++ below
longer_differs [] below n e = absurd (cc)
longer_differs (x ∷ path) below n e = let rest : path ≡ (path ++ n ∷ []) ++ below = cc in longer_differs path below n rest

pub forks_differ : (path b c : List ℕ) (n k : ℕ) → n ≢ k → (path ++ n ∷ []) ++ b ≢ (path ++ k ∷ []) ++ c
forks_differ [] b c n k ne e = let same : n ≡ k = cc in ne same
forks_differ (x ∷ path) b c n k ne e = let rest : (path ++ n ∷ []) ++ b ≡ (path ++ k ∷ []) ++ c = cc in forks_differ path b c n k ne rest

-- ---- pieces

-- the places of the members in a header
abbrev pub member_places : Head → List Place
member_places h = flat_map places_of (members_of h.bytes)

abbrev pub CopiesApart : Copies → Copies → Type 0
CopiesApart c d = NoneTouch c.places d.places

-- of some headers and bodies no two touch
pub record GroupsApart (g : Groups) : Type 0 where
  pub heads : Pairs CopiesApart g.heads
  pub bodies : Pairs CopiesApart g.bodies
  pub both : (c d : Copies) → Contains g.heads c → Contains g.bodies d → CopiesApart c d

-- each place of the pieces is so
abbrev pub AllPlaces : (Place → Type 0) → List Copies → Type 0
AllPlaces P cs = AllByRecursion (λ (c : Copies). (q : Place) → Contains c.places q → P q) cs

abbrev pub BothPlaces : (Place → Type 0) → Groups → Type 0
BothPlaces P g = AllPlaces P g.heads × AllPlaces P g.bodies

pub both_weaker : (P Q : Place → Type 0) (g : Groups) → ((q : Place) → P q → Q q) → BothPlaces P g → BothPlaces Q g
both_weaker P Q g f h =
    (all_weaker _ _ g.heads (λ c k q cq. f q (k q cq)) h.0, all_weaker _ _ g.bodies (λ c k q cq. f q (k q cq)) h.1)

pub across : (P Q : Place → Type 0) (cs ds : List Copies) → ((p q : Place) → P p → Q q → DontMeet p q) → AllPlaces P cs → AllPlaces Q ds → (c d : Copies) → Contains cs c → Contains ds d → CopiesApart c d
across P Q cs ds f h k c d cc dd p q cp cq = f p q (all_contains _ cs c h cc p cp) (all_contains _ ds d k dd q cq)

joined_apart : (P Q : Place → Type 0) (a b : Groups) → ((p q : Place) → P p → Q q → DontMeet p q) → BothPlaces P a → BothPlaces Q b → GroupsApart a → GroupsApart b → GroupsApart (joined_groups a b)
joined_apart P Q a b f pa qb ga gb = record {
  heads = pairs_append CopiesApart a.heads b.heads ga.heads gb.heads (across P Q a.heads b.heads f pa.0 qb.0);
  bodies = pairs_append CopiesApart a.bodies b.bodies ga.bodies gb.bodies (across P Q a.bodies b.bodies f pa.1 qb.1);
  both = λ c d cc dd.
      ⊎_elim
      (λ (ca : Contains a.heads c). ⊎_elim (λ (da : Contains a.bodies d). ga.both c d ca da) (λ (db : Contains b.bodies d). across P Q a.heads b.bodies f pa.0 qb.1 c d ca db) (Contains-append_cases a.bodies b.bodies d dd))
      (λ (cb : Contains b.heads c). ⊎_elim (λ (da : Contains a.bodies d). touch_turned d.places c.places (across P Q a.bodies b.heads f pa.1 qb.0 d c da cb)) (λ (db : Contains b.bodies d). gb.both c d cb db) (Contains-append_cases a.bodies b.bodies d dd))
      (Contains-append_cases a.heads b.heads c cc);
}

-- the members of different headers, and those of one, have places that don't touch
module _ (heads : List Head)
    (others : (h k : Head) → Contains heads h → Contains heads k → h.path ≢ k.path → NoneTouch (member_places h) (member_places k))
    (own : (h : Head) → Contains heads h → Pairs (λ (m n : Bp). NoneTouch (places_of m) (places_of n)) (members_of h.bytes)) where
  -- the place is one of a member in a header there or below
  pub record Below (path : List ℕ) (q : Place) : Type 0 where
    pub head : Head
    pub listed : Contains heads head
    pub below : List ℕ
    pub at : head.path ≡ path ++ below
    pub place : Contains (member_places head) q

  abbrev pub AtOrBelow : List ℕ → Bp → Place → Type 0
  AtOrBelow path bp q = Contains (places_of bp) q ⊎ Below path q

  -- of a member from this number on
  record Later (path : List ℕ) (n : ℕ) (ms : List Bp) (q : Place) : Type 0 where
    number : ℕ
    member : Bp
    from : n ≤ number
    listed : Contains ms member
    place : AtOrBelow (path ++ number ∷ []) member q

  deeper : (path : List ℕ) (n : ℕ) (q : Place) → Below (path ++ n ∷ []) q → Below path q
  deeper path n q h = record { head = h.head; listed = h.listed; below = n ∷ h.below; at = h.at ∙ append_assoc path (n ∷ []) h.below; place = h.place }

  -- ---- where the pieces are

  if_within : (P : Place → Type 0) (gang : Bool) (bp : Bp) (g : Groups) → ((q : Place) → Contains (places_of bp) q → P q) → BothPlaces P g → BothPlaces P (groups_if gang bp g)
  if_within P true bp g f h = h
  if_within P false bp g f h = (tt, (f, tt))

  members_later : (groups : List ℕ → Bp → Groups) → ((path : List ℕ) (bp : Bp) → BothPlaces (AtOrBelow path bp) (groups path bp)) → (path : List ℕ) (n : ℕ) (ms : List Bp) → BothPlaces (Later path n ms) (groups_of_members groups path n ms)
  members_later groups one path n [] = (tt, tt)
  members_later groups one path n (m ∷ ms) =
      let first = both_weaker (AtOrBelow (path ++ n ∷ []) m) (Later path n (m ∷ ms)) (groups (path ++ n ∷ []) m) (λ q h. record { number = n; member = m; from = (omega arith); listed = contains_first m ms; place = h }) (one (path ++ n ∷ []) m) in
      let rest = both_weaker (Later path (n + 1) ms) (Later path n (m ∷ ms)) (groups_of_members groups path (n + 1) ms)
      (λ q h. let l : n + 1 ≤ h.number = h.from in record { number = h.number; member = h.member; from = (omega arith); listed = contains_later m ms h.member h.listed; place = h.place })
      (members_later groups one path (n + 1) ms) in
      (all_append _ (groups (path ++ n ∷ []) m).heads _ first.0 rest.0, all_append _ (groups (path ++ n ∷ []) m).bodies _ first.1 rest.1)

  later_below : (path : List ℕ) (bytes : List ℕ) → IsKept heads path bytes → (q : Place) → Later path 0 (members_of bytes) q → Below path q
  later_below path bytes kept q h =
      ⊎_elim
      (λ (c : Contains (places_of h.member) q).
      record { head = kept.head; listed = kept.listed; below = []; at = kept.there ∙ sym (append-nil path); place = flat_contains places_of (members_of kept.head.bytes) h.member q (subst (λ (b : List ℕ). Contains (members_of b) h.member) (sym kept.is) h.listed) c })
      (λ (b : Below (path ++ h.number ∷ []) q). deeper path h.number q b)
      h.place

  kept_below : (path : List ℕ) (kept : Option (List ℕ)) → kept_at heads path ≡ kept → (q : Place) → Later path 0 (members_kept kept) q → Below path q
  kept_below path None e q h = absurd (all_contains (λ (m : Bp). ⊥) [] h.member tt h.listed)
  kept_below path (Some bytes) e q h = later_below path bytes (kept_head heads path bytes e) q h

  pub from_within : (levels : ℕ) (path : List ℕ) (bp : Bp) → BothPlaces (AtOrBelow path bp) (copies_from levels heads path bp)
  unfolding copies_from
  from_within zero path bp = if_within (AtOrBelow path bp) bp.gang bp no_groups (λ q c. inl c) (tt, tt)
  from_within (suc levels) path bp =
      let kept : Option (List ℕ) = kept_at heads path in
      let members : Groups = groups_of_members (copies_from levels heads) path 0 (members_kept kept) in
      let below = both_weaker (Later path 0 (members_kept kept)) (AtOrBelow path bp) members (λ q h. inr (kept_below path kept refl q h)) (members_later (copies_from levels heads) (from_within levels) path 0 (members_kept kept)) in
      if_within (AtOrBelow path bp) bp.gang bp (below_copies (head_copies heads path bp) members) (λ q c. inl c) (((λ q c. inl c), below.0), below.1)

  -- ---- and that they don't touch

  -- a pointer's places touch none below
  abbrev pub IsClearBelow : List ℕ → Bp → Type 0
  IsClearBelow path bp = (p q : Place) → Contains (places_of bp) p → Below path q → DontMeet p q

  module _ (path bytes : List ℕ) (kept : IsKept heads path bytes) where
    of_header : (m : Bp) (p : Place) → Contains (members_of bytes) m → Contains (places_of m) p → Contains (member_places kept.head) p
    of_header m p cm cp = flat_contains places_of (members_of kept.head.bytes) m p (subst (λ (b : List ℕ). Contains (members_of b) m) (sym kept.is) cm) cp

    -- a member's places touch none below another header of the gang
    member_clear : (m : Bp) (n : ℕ) (p q : Place) → Contains (members_of bytes) m → Contains (places_of m) p → Below (path ++ n ∷ []) q → DontMeet p q
    member_clear m n p q cm cp b =
        others kept.head b.head kept.listed b.listed (λ e. longer_differs path b.below n (sym kept.there ∙ e ∙ b.at)) p q (of_header m p cm cp) b.place

    -- two members of which the places don't touch
    pub forks_clear : (m k : Bp) (n i : ℕ) (p q : Place) → n ≢ i → Contains (members_of bytes) m → Contains (members_of bytes) k → NoneTouch (places_of m) (places_of k) → AtOrBelow (path ++ n ∷ []) m p → AtOrBelow (path ++ i ∷ []) k q → DontMeet p q
    forks_clear m k n i p q ne cm ck none (inl a) (inl b) = none p q a b
    forks_clear m k n i p q ne cm ck none (inl a) (inr b) = member_clear m i p q cm a b
    forks_clear m k n i p q ne cm ck none (inr a) (inl b) = dont_turned q p (member_clear k n q p ck b a)
    forks_clear m k n i p q ne cm ck none (inr a) (inr b) =
        others a.head b.head a.listed b.listed (λ e. forks_differ path a.below b.below n i ne (sym a.at ∙ e ∙ b.at)) p q a.place b.place

    members_apart : (groups : List ℕ → Bp → Groups) → ((at : List ℕ) (bp : Bp) → BothPlaces (AtOrBelow at bp) (groups at bp)) → ((at : List ℕ) (bp : Bp) → IsClearBelow at bp → GroupsApart (groups at bp))
        → (n : ℕ) (ms : List Bp) → AllByRecursion (Contains (members_of bytes)) ms → Pairs (λ (a b : Bp). NoneTouch (places_of a) (places_of b)) ms → GroupsApart (groups_of_members groups path n ms)
    members_apart groups within one n [] h k = record { heads = tt; bodies = tt; both = λ c d cc dd. absurd (all_contains (λ (x : Copies). ⊥) [] c tt cc) }
    members_apart groups within one n (m ∷ ms) h k =
        joined_apart (AtOrBelow (path ++ n ∷ []) m) (Later path (n + 1) ms) (groups (path ++ n ∷ []) m) (groups_of_members groups path (n + 1) ms)
        (λ p q a later.
        let l : n + 1 ≤ later.number = later.from in
        forks_clear m later.member n later.number p q (λ (e : n ≡ later.number). absurd (omega arith)) h.0 (all_contains (Contains (members_of bytes)) ms later.member h.1 later.listed)
        (all_contains (λ (b : Bp). NoneTouch (places_of m) (places_of b)) ms later.member k.0 later.listed) a later.place)
        (within (path ++ n ∷ []) m) (members_later groups within path (n + 1) ms)
        (one (path ++ n ∷ []) m (λ p q cp b. member_clear m n p q h.0 cp b))
        (members_apart groups within one (n + 1) ms h.1 k.1)

  none_apart : GroupsApart no_groups
  none_apart = record { heads = tt; bodies = tt; both = λ c d cc dd. absurd (all_contains (λ (x : Copies). ⊥) [] c tt cc) }

  if_apart : (gang : Bool) (bp : Bp) (g : Groups) → GroupsApart g → GroupsApart (groups_if gang bp g)
  if_apart true bp g h = h
  if_apart false bp g h = record { heads = tt; bodies = (tt, tt); both = λ c d cc dd. absurd (all_contains (λ (x : Copies). ⊥) [] c tt cc) }

  kept_apart : (groups : List ℕ → Bp → Groups) → ((at : List ℕ) (bp : Bp) → BothPlaces (AtOrBelow at bp) (groups at bp)) → ((at : List ℕ) (bp : Bp) → IsClearBelow at bp → GroupsApart (groups at bp))
      → (path : List ℕ) (kept : Option (List ℕ)) → kept_at heads path ≡ kept → GroupsApart (groups_of_members groups path 0 (members_kept kept))
  kept_apart groups within one path None e = none_apart
  kept_apart groups within one path (Some bytes) e =
      let k : IsKept heads path bytes = kept_head heads path bytes e in
      members_apart path bytes k groups within one 0 (members_of bytes) (all_of (Contains (members_of bytes)) (members_of bytes) (λ m c. c))
      (subst (λ (b : List ℕ). Pairs (λ (m n : Bp). NoneTouch (places_of m) (places_of n)) (members_of b)) k.is (own k.head k.listed))

  below_apart : (head : Copies) (g : Groups) (P : Place → Type 0) → BothPlaces P g → ((p q : Place) → Contains head.places p → P q → DontMeet p q) → GroupsApart g → GroupsApart (below_copies head g)
  below_apart head g P within f h = record {
    heads = (all_weaker _ (CopiesApart head) g.heads (λ c k p q cp cq. f p q cp (k q cq)) within.0, h.heads);
    bodies = h.bodies;
    both = λ c d cc dd.
        ⊎_elim
        (λ (e : head ≡ c). subst (λ (x : Copies). CopiesApart x d) e (λ p q cp cq. f p q cp (all_contains _ g.bodies d within.1 dd q cq)))
        (λ (k : Contains g.heads c). h.both c d k dd)
        (contained_cases head g.heads c cc);
  }

  pub from_apart : (levels : ℕ) (path : List ℕ) (bp : Bp) → IsClearBelow path bp → GroupsApart (copies_from levels heads path bp)
  unfolding copies_from
  from_apart zero path bp clear = if_apart bp.gang bp no_groups none_apart
  from_apart (suc levels) path bp clear =
      let kept : Option (List ℕ) = kept_at heads path in
      let members : Groups = groups_of_members (copies_from levels heads) path 0 (members_kept kept) in
      let below = both_weaker (Later path 0 (members_kept kept)) (Below path) members (λ q h. kept_below path kept refl q h) (members_later (copies_from levels heads) (from_within levels) path 0 (members_kept kept)) in
      if_apart bp.gang bp (below_copies (head_copies heads path bp) members)
      (below_apart (head_copies heads path bp) members (Below path) below clear (kept_apart (copies_from levels heads) (from_within levels) (from_apart levels) path kept refl))
