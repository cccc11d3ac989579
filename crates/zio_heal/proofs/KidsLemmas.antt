-- In each attempt of a tree, a request has the pointers of all its children, and what goes again has them in front.
use Rattle.std.proofs.Common.{◌≡◌, ℕ, zero, suc, ◌+◌, List, [], ◌∷◌, ◌++◌, length, map, filter, count_by, Bool, true, false, cond, ◌&&◌, not, nat_le, Option, refl, sym, ap, ◌∙◌, subst, length-append, arith}
use Rattle.std.proofs.lemmas.List.Elements.{filter-append}
use Rattle.std.proofs.lemmas.List.Filters.{length-filter_both}
use Rattle.std.proofs.lemmas.List.{length-map}
use Rattle.std.proofs.lemmas.List.Sums.{length-filter}
use Rattle.std.specs.List.{AllByRecursion}
use Rattle.zio_types.specs.declared.request.Bits.{Bits}
use Rattle.zio_types.specs.Choices.{Choice}
use Rattle.zio_blkptr.specs.declared.pointer.Bp.{Bp}
use Rattle.zio_script.specs.declared.script.Work.{Work}
use Rattle.zio_script.specs.declared.script.Work.TheVariants.{Null, Read, Write, Free, Claim}
use Rattle.zio_script.specs.Requests.{is_under_number, kind_of}
use Rattle.zio_cksum.specs.Images.{Images}
use Rattle.zio_cksum.proofs.AllLemmas.{all_append, all_filter, all_map, all_weaker}
use Rattle.zio_gang.specs.Attempts.{Attempt, Attempted, Child, Own, Pending, Return, Settled, Terms, all_bits, attempt_each, attempt_one, bits_of, children_of, closed_if, finished_of, has_bits, insert_children, now_alone, own_work, reexecutions_max, returned_to, root_bits, settle, settle_from, settled_if}
use Rattle.zio_gang.specs.ByNumber.{insert_by, insert_if}
use Rattle.zio_gang.specs.Rounds.{add_left, settle_each}
use Rattle.zio_gang.specs.Trees.{sizes_of}
use Rattle.zio_trace.specs.RoundTraces.{pointers_after}
use Rattle.zio_trace.proofs.ChoiceLemmas.{Answers}
use Rattle.zio_heal.specs.Pools.{IsPool}
use Rattle.zio_heal.specs.SafeRounds.{FitsWrite, HasSlot, HaveChildren, is_child_of}
use Rattle.zio_heal.proofs.DisciplineLemmas.{all_merged}
use Rattle.zio_heal.proofs.SlotLemmas.{own_slot}

-- ---- counts

insert_if_long : (b : Bool) (c d : Child) (cs inserted : List Child) → length inserted ≡ 1 + length cs → length (insert_if b c d cs inserted) ≡ 1 + length (d ∷ cs)
insert_if_long true c d cs inserted e = omega arith
insert_if_long false c d cs inserted e = omega arith

inserted_long : (c : Child) (cs : List Child) → length (insert_by (λ (x : Child). x.number) c cs) ≡ 1 + length cs
inserted_long c [] = refl
inserted_long c (d ∷ cs) = insert_if_long (nat_le c.number d.number) c d cs (insert_by (λ (x : Child). x.number) c cs) (inserted_long c cs)

merged_long : (xs ys : List Child) → length (insert_children xs ys) ≡ length xs + length ys
merged_long [] ys = omega arith
merged_long (x ∷ xs) ys =
    let e : length (insert_children xs ys) ≡ length xs + length ys = merged_long xs ys in
    inserted_long x (insert_children xs ys) ∙ omega arith

abbrev bit_of : Bool → ℕ
bit_of b = cond b 1 0

longer_if : {X : Type 0} (b : Bool) (x : X) (xs : List X) → length (cond b (x ∷ xs) xs) ≡ bit_of b + length xs
longer_if true x xs = omega arith
longer_if false x xs = omega arith

-- how many pass a test
abbrev many : {X : Type 0} → (X → Bool) → List X → ℕ
many test xs = length (filter test xs)

many_first : {X : Type 0} (test : X → Bool) (x : X) (xs : List X) → many test (x ∷ xs) ≡ bit_of (test x) + many test xs
many_first test x xs = longer_if (test x) x (filter test xs)

many_last : {X : Type 0} (test : X → Bool) (xs : List X) (x : X) → many test (xs ++ x ∷ []) ≡ many test xs + bit_of (test x)
many_last test xs x =
    ap length (filter-append test xs (x ∷ [])) ∙ length-append (filter test xs) (filter test (x ∷ []))
    ∙ (let one : many test (x ∷ []) ≡ bit_of (test x) + 0 = many_first test x [] in omega arith)

twice_if : {X : Type 0} (a b : Bool) (f g : X → Bool) (x : X) (xs : List X) → f x ≡ a → g x ≡ b → many g (filter f xs) ≡ many (λ y. f y && g y) xs → many g (cond a (x ∷ filter f xs) (filter f xs)) ≡ bit_of (a && b) + many (λ y. f y && g y) xs
twice_if true b f g x xs fa gb h = many_first g x (filter f xs) ∙ ap (λ (c : Bool). bit_of c + many g (filter f xs)) gb ∙ ap (λ (n : ℕ). bit_of b + n) h
twice_if false b f g x xs fa gb h = h ∙ omega arith

many_twice : {X : Type 0} (f g : X → Bool) (xs : List X) → many g (filter f xs) ≡ many (λ x. f x && g x) xs
many_twice f g [] = refl
many_twice f g (x ∷ xs) =
    twice_if (f x) (g x) f g x xs refl refl (many_twice f g xs) ∙ sym (many_first (λ y. f y && g y) x xs)

-- ---- what is carried through an attempt

abbrev returns_under : ℕ → Return → Bool
returns_under n r = is_under_number r.under n

abbrev requests_under : ℕ → Pending → Bool
requests_under n q = is_under_number q.request.under n

-- what was handed on by these requests, of which those on the left go again
record Carried (front left : List Pending) (returns : List Return) : Type 0 where
  slots : AllByRecursion (λ (r : Return). HasSlot r.child.pointer) returns
  counts : (n : ℕ) → many (returns_under n) returns ≡ many (requests_under n) front
  going : (n : ℕ) → many (λ (r : Return). returns_under n r && has_bits r.bits) returns ≡ many (requests_under n) left

-- a request whose content fits
pub record IsFitting (children : ℕ → ℕ) (p : Pending) : Type 0 where
  pub fits : FitsWrite p (children p.request.number) p.request.work
  pub kept : AllByRecursion (λ (c : Child). HasSlot c.pointer) p.kept

fits_same : (p : Pending) (kept : List Child) (n : ℕ) (work : Work) → FitsWrite p n work → FitsWrite (record p { kept = kept }) n work
fits_same p kept n Null h = tt
fits_same p kept n (Read name prio) h = tt
fits_same p kept n (Write name sum copies prio body) h = (record { one = h.0.one; three = h.0.three; some = h.0.some; born = h.0.born }, h.1)
fits_same p kept n (Free name) h = tt
fits_same p kept n (Claim name pointer) h = tt

-- as many pointers as the request has children
pub record AreAll (children : ℕ → ℕ) (p : Pending) (pointers : List (Option Bp)) : Type 0 where
  pub count : length pointers ≡ children p.request.number
  pub slots : AllByRecursion HasSlot pointers

pub filtered : {X : Type 0} (P : X → Type 0) (test : X → Bool) (xs : List X) → AllByRecursion P xs → AllByRecursion P (filter test xs)
filtered P test xs h = all_filter P test xs (all_weaker P (λ x. test x ≡ true → P x) xs (λ x one is. one) h)

module _ (journal : List Choice) (t : Terms) (children : ℕ → ℕ) (sizes : ℕ → ℕ) (pool : IsPool sizes t.setting.tops) (answers : Answers journal (sizes_of t.setting.tops) t.used t.round) where
  -- each request in turn has those of its children
  abbrev pub PointersFit : ℕ → List Pending → List Return → Images → Type 0
  PointersFit attempt [] returns images = Unit {0}
  PointersFit attempt (p ∷ ps) returns images =
      AreAll children p (pointers_after p returns)
      × PointersFit attempt ps ((attempt_one journal t attempt p returns images).return ∷ returns) (attempt_one journal t attempt p returns images).images

  all_there : (p : Pending) (front left : List Pending) (returns : List Return) → Carried front left returns → count_by (is_child_of p) front + length p.kept ≡ children p.request.number → IsFitting children p → AreAll children p (pointers_after p returns)
  all_there p front left returns carried kids fitting =
      let mine : List Return = returned_to p returns in
      let cs : List Child = insert_children (children_of mine) p.kept in
      let a : length mine ≡ many (requests_under p.request.number) front = carried.counts p.request.number in
      let b : many (requests_under p.request.number) front ≡ count_by (is_child_of p) front = length-filter (is_child_of p) front in
      let c : length cs ≡ length (children_of mine) + length p.kept = merged_long (children_of mine) p.kept in
      let d : length (children_of mine) ≡ length mine = length-map mine (λ (r : Return). r.child) in
      let e : length (map (λ (x : Child). x.pointer) cs) ≡ length cs = length-map cs (λ (x : Child). x.pointer) in
      record {
        count = omega arith;
        slots =
            all_map HasSlot (λ (x : Child). x.pointer) cs
            (all_merged (λ (x : Child). HasSlot x.pointer) (children_of mine) p.kept
            (all_map (λ (x : Child). HasSlot x.pointer) (λ (r : Return). r.child) mine (filtered (λ (r : Return). HasSlot r.child.pointer) (λ (r : Return). is_under_number r.under p.request.number) returns carried.slots))
            fitting.kept);
      }

  -- what a request hands on and leaves
  record HandsOn (p : Pending) (left : List Pending) (one : Attempted) : Type 0 where
    slot : HasSlot one.return.child.pointer
    under : one.return.under ≡ p.request.under
    going : (n : ℕ) → many (requests_under n) one.again ≡ bit_of (returns_under n one.return && has_bits one.return.bits)
    kids : (rest : List Pending) → HaveChildren children (left ++ one.again) rest → HaveChildren children left (one.again ++ rest)
    fitting : AllByRecursion (IsFitting children) one.again

  closed_hands : (b : Bool) (p : Pending) (left : List Pending) (own : Own) (bits : Bits) (kept : List Child) → has_bits bits ≡ b → HasSlot own.pointer → (b ≡ true → count_by (is_child_of p) left + length kept ≡ children p.request.number)
      → FitsWrite p (children p.request.number) p.request.work → AllByRecursion (λ (c : Child). HasSlot c.pointer) kept → HandsOn p left (closed_if b p own bits kept)
  closed_hands true p left own bits kept is slot kids fits slots = record {
    slot = slot;
    under = refl;
    going = λ n. many_first (requests_under n) (record p { kept = kept }) [] ∙ by (is_under_number p.request.under n);
    kids = λ rest h. (kids refl, h);
    fitting = (record { fits = fits_same p kept (children p.request.number) p.request.work fits; kept = slots }, tt);
  }
    where
      by : (u : Bool) → bit_of u + 0 ≡ bit_of (u && has_bits bits)
      by true = ap bit_of (sym is)
      by false = refl
  closed_hands false p left own bits kept is slot kids fits slots = record {
    slot = slot;
    under = refl;
    going = λ n. by (is_under_number p.request.under n);
    kids = λ rest h. subst (λ (xs : List Pending). HaveChildren children xs rest) (nothing left) h;
    fitting = tt;
  }
    where
      by : (u : Bool) → 0 ≡ bit_of (u && false)
      by true = refl
      by false = refl

      nothing : (xs : List Pending) → xs ++ [] ≡ xs
      nothing [] = refl
      nothing (x ∷ xs) = ap (λ (ys : List Pending). x ∷ ys) (nothing xs)

  hands_on : (attempt : ℕ) (p : Pending) (front left : List Pending) (returns : List Return) (images : Images) → Carried front left returns → count_by (is_child_of p) front + length p.kept ≡ children p.request.number → IsFitting children p
      → HandsOn p left (attempt_one journal t attempt p returns images)
  hands_on attempt p front left returns images carried kids fitting =
      let mine : List Return = returned_to p returns in
      let all : AreAll children p (pointers_after p returns) = all_there p front left returns carried kids fitting in
      let own : Own = own_work journal t attempt p p.request.work (pointers_after p returns) images in
      let kept : List Child = insert_children (children_of (finished_of mine)) p.kept in
      let both : many (λ (r : Return). has_bits r.bits) mine + length (finished_of mine) ≡ length mine = length-filter_both (λ (r : Return). has_bits r.bits) (λ (r : Return). not (has_bits r.bits)) (λ r. refl) mine in
      let twice : many (λ (r : Return). has_bits r.bits) mine ≡ many (λ (r : Return). returns_under p.request.number r && has_bits r.bits) returns = many_twice (returns_under p.request.number) (λ (r : Return). has_bits r.bits) returns in
      let going : many (λ (r : Return). returns_under p.request.number r && has_bits r.bits) returns ≡ many (requests_under p.request.number) left = carried.going p.request.number in
      let counts : length mine ≡ many (requests_under p.request.number) front = carried.counts p.request.number in
      let front_is : many (requests_under p.request.number) front ≡ count_by (is_child_of p) front = length-filter (is_child_of p) front in
      let left_is : many (requests_under p.request.number) left ≡ count_by (is_child_of p) left = length-filter (is_child_of p) left in
      let long : length kept ≡ length (children_of (finished_of mine)) + length p.kept = merged_long (children_of (finished_of mine)) p.kept in
      let same : length (children_of (finished_of mine)) ≡ length (finished_of mine) = length-map (finished_of mine) (λ (r : Return). r.child) in
      let bits : Bits = all_bits (kind_of p.request.work) own.error p.request.canfail t.failmode (bits_of mine) in
      closed_hands (has_bits bits) p left own bits kept refl
      (own_slot journal t sizes pool answers attempt p (children p.request.number) p.request.work (pointers_after p returns) images fitting.fits all.slots all.count)
      (λ again. omega arith)
      fitting.fits
      (all_merged (λ (x : Child). HasSlot x.pointer) (children_of (finished_of mine)) p.kept
      (all_map (λ (x : Child). HasSlot x.pointer) (λ (r : Return). r.child) (finished_of mine)
      (filtered (λ (r : Return). HasSlot r.child.pointer) (λ (r : Return). not (has_bits r.bits)) mine
      (filtered (λ (r : Return). HasSlot r.child.pointer) (λ (r : Return). is_under_number r.under p.request.number) returns carried.slots)))
      fitting.kept)

  -- ---- an attempt

  pub record KidsOut (attempt : ℕ) (ps left : List Pending) (returns : List Return) (images : Images) : Type 0 where
    pub fit : PointersFit attempt ps returns images
    pub kids : HaveChildren children left (attempt_each journal t attempt ps returns images).again
    pub fitting : AllByRecursion (IsFitting children) (attempt_each journal t attempt ps returns images).again

  carried_more : (p : Pending) (front left : List Pending) (returns : List Return) (one : Attempted) → Carried front left returns → HandsOn p left one → Carried (front ++ p ∷ []) (left ++ one.again) (one.return ∷ returns)
  carried_more p front left returns one carried hands = record {
    slots = (hands.slot, carried.slots);
    counts = λ n.
        let a : many (returns_under n) (one.return ∷ returns) ≡ bit_of (returns_under n one.return) + many (returns_under n) returns = many_first (returns_under n) one.return returns in
        let b : bit_of (returns_under n one.return) ≡ bit_of (requests_under n p) = ap (λ (u : Option ℕ). bit_of (is_under_number u n)) hands.under in
        let c : many (returns_under n) returns ≡ many (requests_under n) front = carried.counts n in
        let d : many (requests_under n) (front ++ p ∷ []) ≡ many (requests_under n) front + bit_of (requests_under n p) = many_last (requests_under n) front p in
        omega arith;
    going = λ n.
        let a : many (λ (r : Return). returns_under n r && has_bits r.bits) (one.return ∷ returns) ≡ bit_of (returns_under n one.return && has_bits one.return.bits) + many (λ (r : Return). returns_under n r && has_bits r.bits) returns =
        many_first (λ (r : Return). returns_under n r && has_bits r.bits) one.return returns in
        let b : many (requests_under n) one.again ≡ bit_of (returns_under n one.return && has_bits one.return.bits) = hands.going n in
        let c : many (λ (r : Return). returns_under n r && has_bits r.bits) returns ≡ many (requests_under n) left = carried.going n in
        let d : many (requests_under n) (left ++ one.again) ≡ many (requests_under n) left + many (requests_under n) one.again =
        ap length (filter-append (requests_under n) left one.again) ∙ length-append (filter (requests_under n) left) (filter (requests_under n) one.again) in
        omega arith;
  }

  each_kids : (attempt : ℕ) (ps front left : List Pending) (returns : List Return) (images : Images) → HaveChildren children front ps → AllByRecursion (IsFitting children) ps → Carried front left returns → KidsOut attempt ps left returns images
  unfolding attempt_each
  each_kids attempt [] front left returns images kids fitting carried = record { fit = tt; kids = tt; fitting = tt }
  each_kids attempt (p ∷ ps) front left returns images kids fitting carried =
      let one : Attempted = attempt_one journal t attempt p returns images in
      let hands : HandsOn p left one = hands_on attempt p front left returns images carried kids.0 fitting.0 in
      let a : Attempt = attempt_each journal t attempt ps (one.return ∷ returns) one.images in
      let rest : KidsOut attempt ps (left ++ one.again) (one.return ∷ returns) one.images =
      each_kids attempt ps (front ++ p ∷ []) (left ++ one.again) (one.return ∷ returns) one.images kids.1 fitting.1 (carried_more p front left returns one carried hands) in
      record {
        fit = (all_there p front left returns carried kids.0 fitting.0, rest.fit);
        kids = hands.kids a.again rest.kids;
        fitting = all_append (IsFitting children) one.again a.again hands.fitting rest.fitting;
      }

  -- An attempt of a tree, from its first request on.
  pub tree_kids : (attempt : ℕ) (ps : List Pending) (images : Images) → HaveChildren children [] ps → AllByRecursion (IsFitting children) ps → KidsOut attempt ps [] [] images
  tree_kids attempt ps images kids fitting =
      each_kids attempt ps [] [] [] images kids fitting (record { slots = tt; counts = λ n. refl; going = λ n. refl })

  -- ---- all attempts of a round

  -- what is left has its children in front, and fits
  pub record LeftKids (ps : List Pending) : Type 0 where
    pub kids : HaveChildren children [] ps
    pub fitting : AllByRecursion (IsFitting children) ps

  pub settle_kids : (more attempt : ℕ) (ps : List Pending) (images : Images) → LeftKids ps → LeftKids (settle_from more journal t attempt ps images).left
  unfolding settle_from
  settle_kids zero attempt ps images h = let out = tree_kids attempt ps images h.kids h.fitting in record { kids = out.kids; fitting = out.fitting }
  settle_kids (suc more) attempt ps images h =
      let a : Attempt = attempt_each journal t attempt ps [] images in
      let out = tree_kids attempt ps images h.kids h.fitting in
      let left : LeftKids a.again = record { kids = out.kids; fitting = out.fitting } in
      if_kids (now_alone (root_bits a.returns)) a (settle_from more journal t (attempt + 1)) left (settle_kids more (attempt + 1) a.again a.images left)
    where
      if_kids : (b : Bool) (a : Attempt) (again : List Pending → Images → Settled) → LeftKids a.again → LeftKids (again a.again a.images).left → LeftKids (settled_if b a again).left
      if_kids true a again one more = more
      if_kids false a again one more = one

  -- each tree of a round
  pub round_kids : (trees : List (List Pending)) (images : Images) → AllByRecursion LeftKids trees → AllByRecursion LeftKids (settle_each journal t trees images).left
  unfolding settle_each
  round_kids [] images h = tt
  round_kids (tree ∷ trees) images h =
      let s : Settled = settle journal t tree images in
      add_kids s.left (settle_each journal t trees s.images).left (settle_kids reexecutions_max 0 tree images h.0) (round_kids trees s.images h.1)
    where
      add_kids : (left : List Pending) (others : List (List Pending)) → LeftKids left → AllByRecursion LeftKids others → AllByRecursion LeftKids (add_left left others)
      add_kids [] others one more = more
      add_kids (p ∷ ps) others one more = (one, more)
