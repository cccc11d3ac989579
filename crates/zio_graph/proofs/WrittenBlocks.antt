-- A block that was written without error is whole, whatever the operations of its parts were answered.
use Rattle.std.proofs.Common.{◌≡◌, ℕ, zero, suc, ◌+◌, ◌-◌, ◌*◌, ◌%◌, ◌^◌, ◌<◌, ◌≤◌, List, [], ◌∷◌, ◌++◌, length, take, drop, sum, Bool, true, false, nat_le, nat_lt, cond, find, Option, Some, None, refl, sym, ap, ◌∙◌, subst, arith, append_assoc, eqb-true, leb-false, length-take, length-drop}
use Rattle.std.specs.Prelude.{slice_set}
use Rattle.std.specs.List.{AllByRecursion}
use Rattle.std.proofs.Math.Nat.{pow-succ'}
use Rattle.std.proofs.Math.ListN.{length-set}
use Rattle.std.proofs.lemmas.Bool.{and_parts}
use Rattle.std.proofs.lemmas.List.{take_more_set}
use Rattle.std.proofs.lemmas.List.Sorted.{IsPermutation-refl}
use Rattle.std.proofs.lemmas.List.Sums.{sum_by-cons}
use Rattle.zio_types.specs.declared.error.Errno.{Errno}
use Rattle.zio_types.specs.declared.place.Place.{Place}
use Rattle.zio_types.specs.declared.place.TopSize.{TopSize}
use Rattle.zio_types.specs.Choices.{Ask, Choice, no_place, same_ask}
use Rattle.zio_types.specs.Errors.{worst_error, worst_of}
use Rattle.zio_types.specs.Filled.{filled_to, length-filled_to}
use Rattle.zio_types.specs.Paths.{path_steps_max}
use Rattle.zio_types.specs.Places.{IsLawfulChoice}
use Rattle.zio_blkptr.specs.declared.pointer.Bp.{Bp}
use Rattle.zio_blkptr.specs.declared.pointer.SumKind.{SumKind}
use Rattle.zio_blkptr.specs.declared.pointer.TheConstants.{BLOCK_SIZE_MAX}
use Rattle.zio_blkptr.specs.Pointers.{FitsTypes}
use Rattle.zio_cksum.specs.Headers.{first_size, second_size, split_sizes, third_size}
use Rattle.zio_cksum.proofs.AllLemmas.{all_filter}
use Rattle.zio_cksum.proofs.SplitLemmas.{few_law, total_law, whole_law}
use Rattle.zio_gang.specs.Attempts.{Pending, Terms, writing_of}
use Rattle.zio_gang.specs.Journals.{AreLawful, taken_by}
use Rattle.zio_gang.specs.Trees.{sizes_of}
use Rattle.zio_gang.specs.Writes.{Writing, body_ask, chosen, cut, head_ask, places_chosen, places_unless, pointer_to}
use Rattle.zio_trace.specs.Labels.{Labelled, labelled, ways_at}
use Rattle.zio_trace.specs.Oracles.{IsOracle, Oracle, heard}
use Rattle.zio_trace.specs.Plans.{Kin, TaskPlan, add_kin, gang_stored, header_over, plan_body, plan_gang, plan_gang_unless, plan_members, plan_part, plan_write}
use Rattle.zio_trace.specs.Programs.{Ends, ◌>>=◌, ask}
use Rattle.zio_trace.specs.RoundRules.{task_ways}
use Rattle.zio_trace.specs.Tasks.{Find, Stored, StoredAs, Task, Value, WriteCopies, WritePart, found, nowhere, stored, wrote}
use Rattle.zio_blocks.specs.Blocks.{HavePointers}
use Rattle.zio_blocks.specs.Laid.{AreLaid, IsLaid}
use Rattle.zio_blocks.specs.Parts.{IsMade}
use Rattle.zio_blocks.proofs.FoundLemmas.{IsWholeEntry, made_pointer, places_of_pointer, whole_entry}
use Rattle.zio_blocks.proofs.LaidLemmas.{laid_body, laid_gang, laid_members, laid_nowhere}
use Rattle.zio_sound.proofs.Oracled.{at_place, map_at, then_at}
use Rattle.zio_graph.proofs.SumWords.{sum_fit, sum_four}

-- ---- the places that a journal has

-- The choice was made for this ask, beside some places in use.
record IsChosenFor (sizes : List TopSize) (a : Ask) (c : Choice) : Type 0 where
  used : List Place
  lawful : IsLawfulChoice sizes used c
  size : c.asked.size ≡ a.size
  copies : c.asked.copies ≡ a.copies

chosen_for : (sizes : List TopSize) (used : List Place) (a : Ask) (c : Choice) → IsLawfulChoice sizes used c
    → same_ask c.asked a ≡ true → IsChosenFor sizes a c
chosen_for sizes used a c lawful same =
    let whole = and_parts _ _ same in
    let first = and_parts _ _ whole.0 in
    record {
      used = used;
      lawful = lawful;
      size = eqb-true c.asked.size a.size first.1;
      copies = eqb-true c.asked.copies a.copies whole.1;
    }

chosen_step : (sizes : List TopSize) (used : List Place) (xs : List Choice) (a : Ask) (x c : Choice) (b : Bool)
    → same_ask x.asked a ≡ b → IsLawfulChoice sizes used x
    → cond b (Some x) (find (λ (y : Choice). same_ask y.asked a) xs) ≡ Some c
    → (find (λ (y : Choice). same_ask y.asked a) xs ≡ Some c → IsChosenFor sizes a c) → IsChosenFor sizes a c
chosen_step sizes used xs a x c true same lawful is later =
    let one : x ≡ c = cc in subst (IsChosenFor sizes a) one (chosen_for sizes used a x lawful same)
chosen_step sizes used xs a x c false other lawful is later = later is

chosen_in : (sizes : List TopSize) (used : List Place) (journal : List Choice) (a : Ask) (c : Choice)
    → AreLawful sizes used journal
    → find (λ (x : Choice). same_ask x.asked a) journal ≡ Some c → IsChosenFor sizes a c
chosen_in sizes used [] a c h e = absurd (cc)
chosen_in sizes used (x ∷ xs) a c h e =
    chosen_step sizes used xs a x c (same_ask x.asked a) refl h.0 e (chosen_in sizes (taken_by x ++ used) xs a c h.1)

unless_some : (refused : Bool) (c : Choice) (places : List Place) → places_unless refused c ≡ Some places
    → (refused ≡ false) × (c.places ≡ places)
unless_some true c places h = absurd (cc)
unless_some false c places h = (refl, cc)

-- the places found for an ask of one to three copies are those of a whole entry
chosen_whole : (sizes : List TopSize) (used : List Place) (journal : List Choice) (a : Ask) (places : List Place)
    → AreLawful sizes used journal
    → 1 ≤ a.copies → a.copies ≤ 3 → Some places ≡ chosen journal a → IsWholeEntry sizes a.size places
chosen_whole sizes used journal a places lawful one three is =
    by (find (λ (c : Choice). same_ask c.asked a) journal) refl (sym is)
  where
    by : (o : Option Choice) → find (λ (c : Choice). same_ask c.asked a) journal ≡ o → places_chosen a.copies o ≡ Some places
        → IsWholeEntry sizes a.size places
    by None e h = absurd (cc)
    by (Some c) e h =
        let for : IsChosenFor sizes a c = chosen_in sizes used journal a c lawful e in
        let both = unless_some (nat_lt (length c.places) a.copies) c places h in
        let copies : c.asked.copies ≡ a.copies = for.copies in
        subst (IsWholeEntry sizes a.size) both.1
        (whole_entry sizes for.used c a.size for.lawful (ap (λ n. nat_lt (length c.places) n) copies ∙ both.0)
        (omega arith) (omega arith) for.size)

-- ---- pointers that are made

-- a pointer to such places fits its types
types_of : (w : Writing) (places : List Place) (gang : Bool) (bytes : List ℕ) → length places ≤ 3 → w.birth < 2 ^ 64
    → FitsTypes (pointer_to w places gang bytes)
types_of w places gang bytes three born = record {
  places = length-filled_to no_place 3 places three;
  birth = born;
  words = sum_four w.sum bytes;
  each_word = sum_fit w.sum bytes;
}

-- ---- sizes

-- A block's bytes: whole sectors, one at least, no more than a block has.
pub record IsBlockSize (n : ℕ) : Type 0 where
  pub some : 0 < n
  pub whole : n % 512 ≡ 0
  pub most : n ≤ BLOCK_SIZE_MAX

-- Of a part with so many levels of headers below it.
record IsPart (levels n : ℕ) : Type 0 where
  block : IsBlockSize n
  deep : n ≤ 512 * 3 ^ levels

third : (levels n : ℕ) → n % 512 ≡ 0 → n ≤ 512 * 3 ^ (suc levels)
    → (first_size n ≤ 512 * 3 ^ levels) × (second_size n ≤ 512 * 3 ^ levels) × (third_size n ≤ 512 * 3 ^ levels)
third levels n whole deep =
    let p : ℕ = 3 ^ levels in
    let e : 3 ^ (suc levels) ≡ 3 * p = pow-succ' 3 levels in
    (omega arith, omega arith, omega arith)

parts_deep : (levels n : ℕ) → n % 512 ≡ 0 → n ≤ 512 * 3 ^ (suc levels)
    → AllByRecursion (λ k. k ≤ 512 * 3 ^ levels) (split_sizes n)
parts_deep levels n whole deep =
    let t = third levels n whole deep in
    all_filter (λ k. k ≤ 512 * 3 ^ levels) (λ k. nat_lt 0 k) (first_size n ∷ second_size n ∷ third_size n ∷ [])
    ((λ e. t.0), ((λ e. t.1), ((λ e. t.2), tt)))

sum_first : (n : ℕ) (ns : List ℕ) → sum (n ∷ ns) ≡ n + sum ns
sum_first n ns = sum_by-cons (λ k. k) n ns

parts_all : (levels most : ℕ) (ns : List ℕ) → AllByRecursion (λ k. (0 < k) × (k % 512 ≡ 0)) ns
    → AllByRecursion (λ k. k ≤ 512 * 3 ^ levels) ns
    → sum ns ≤ most → most ≤ BLOCK_SIZE_MAX → AllByRecursion (IsPart levels) ns
parts_all levels most [] a b s m = tt
parts_all levels most (n ∷ ns) a b s m =
    let more = sum_first n ns in (
      record { block = record { some = a.0.0; whole = a.0.1; most = omega arith }; deep = b.0 },
      parts_all levels most ns a.1 b.1 (omega arith) m,
    )

-- the members' sizes
parts_of : (levels n : ℕ) → IsPart (suc levels) n → AllByRecursion (IsPart levels) (split_sizes n)
parts_of levels n h =
    parts_all levels n (split_sizes n) (whole_law n h.block.whole) (parts_deep levels n h.block.whole h.deep)
    (let total = total_law n h.block.whole in omega arith) h.block.most

-- ---- parts

-- The part is laid over some places.
pub record IsLaidOn (tops : List TopSize) (levels : ℕ) (path : List ℕ) (len : ℕ) (s : Stored) : Type 0 where
  pub taken : List Place
  pub laid : IsLaid tops levels path len (record { error = s.error; pointer = s.pointer }) s.heads taken

-- So are the members.
record AreLaidOn (tops : List TopSize) (levels : ℕ) (path : List ℕ) (n : ℕ) (sizes : List ℕ) (old pointers : List (Option Bp))
    (m : Kin) : Type 0 where
  taken : List Place
  laid : AreLaid tops levels path n sizes (worst_of m.errors) old pointers m.heads taken

laid_at_none : (tops : List TopSize) (levels : ℕ) (path : List ℕ) (len : ℕ) → IsLaidOn tops levels path len nowhere
laid_at_none tops levels path len = record {
  taken = [];
  laid = laid_nowhere tops levels path len (record { error = nowhere.error; pointer = nowhere.pointer }) [] []
      refl refl refl refl;
}

-- no members are left
none_laid : (tops : List TopSize) (levels : ℕ) (path : List ℕ) (n : ℕ) (old pointers : List (Option Bp))
    → pointers ≡ filled_to None 3 (take n old ++ [])
    → AreLaidOn tops levels path n [] old pointers (record { errors = []; pointers = []; heads = [] })
none_laid tops levels path n old pointers are = record {
  taken = [];
  laid = record {
    members = [];
    pointers = are;
    count = refl;
    made = tt;
    named = tt;
    places = IsPermutation-refl [];
    whole = λ low. record { bps = []; all = refl; sizes_are = refl; under = refl };
  };
}

-- What a write shares that places its parts.
pub record IsWriting (p : Pending) (copies : ℕ) : Type 0 where
  pub one : 1 ≤ copies
  pub three : copies ≤ 3
  pub some : 1 ≤ p.birth
  pub born : p.birth < 2 ^ 64

module _ (journal : List Choice) (t : Terms) (o : Oracle (Labelled Task) Value) (is : IsOracle (ways_at (task_ways journal t)) o)
    (have : HavePointers t.setting.tops) (lawful : AreLawful (sizes_of t.setting.tops) t.used journal) where
  abbrev tops : List TopSize
  tops = sizes_of t.setting.tops

  module _ (attempt : ℕ) (p : Pending) (sum_kind : SumKind) (copies : ℕ) (writes : IsWriting p copies) where
    abbrev w : Writing
    w = writing_of t attempt p sum_kind copies

    made : (places : List Place) (gang : Bool) (bytes : List ℕ) (size : ℕ) → IsBlockSize (length bytes)
        → IsWholeEntry tops size places
        → cond gang 512 (length bytes) ≡ size → IsMade tops (pointer_to w places gang bytes)
    made places gang bytes size block entry is_size =
        made_pointer t.setting.tops w places gang bytes size have entry is_size block.some block.whole block.most writes.some
        (types_of w places gang bytes entry.three writes.born)

    -- a part whose bytes lie at these places
    body_laid : (levels : ℕ) (path bytes : List ℕ) (places : List Place) (error : Option Errno) → IsBlockSize (length bytes)
        → IsWholeEntry tops (length bytes) places
        → IsLaidOn tops levels path (length bytes)
        (record { error = error; pointer = Some (pointer_to w places false bytes); heads = [] })
    body_laid levels path bytes places error block entry = record {
      taken = places;
      laid = laid_body tops levels path (length bytes)
          (record { error = error; pointer = Some (pointer_to w places false bytes) })
          (pointer_to w places false bytes) [] places refl (made places false bytes (length bytes) block entry refl) refl
          refl refl
          (sym (places_of_pointer w places false bytes));
    }

    -- ---- a part, by what a gang of it is

    abbrev GangLaid : ℕ → (List ℕ → List ℕ → TaskPlan Value) → List ℕ → List ℕ → Type 0
    GangLaid levels below path bytes = (places : List Place) (at : List ℕ) (n : ℕ) → IsWholeEntry tops 512 places
        → 512 < length bytes
        → IsLaidOn tops levels path (length bytes) (stored (heard o (labelled at n (plan_gang (Some places) w below path bytes))))

    head_at : (levels : ℕ) (below : List ℕ → List ℕ → TaskPlan Value) (path bytes : List ℕ) (at : List ℕ) (n : ℕ)
        (places : Option (List Place))
        → places ≡ chosen journal (head_ask w path) → 512 < length bytes → GangLaid levels below path bytes
        → IsLaidOn tops levels path (length bytes) (stored (heard o (labelled at n (plan_gang places w below path bytes))))
    head_at levels below path bytes at n None found_is large gang = laid_at_none tops levels path (length bytes)
    head_at levels below path bytes at n (Some places) found_is large gang =
        let one = writes.one in
        gang places at n (chosen_whole tops t.used journal (head_ask w path) places lawful (omega arith) (omega arith) found_is)
        large

    unless_at : (levels : ℕ) (below : List ℕ → List ℕ → TaskPlan Value) (path bytes : List ℕ) (at : List ℕ) (n : ℕ) (small : Bool)
        → nat_le (length bytes) 512 ≡ small → GangLaid levels below path bytes
        → IsLaidOn tops levels path (length bytes) (stored (heard o (labelled at n (plan_gang_unless small w below path bytes))))
    unless_at levels below path bytes at n true test gang = laid_at_none tops levels path (length bytes)
    unless_at levels below path bytes at n false test gang =
        let x = at_place at n (Find (head_ask w path)) in
        head_at levels below path bytes at (suc n) (found (o.answer x)) (is.fits x) (leb-false (length bytes) 512 test) gang

    body_at : (levels : ℕ) (below : List ℕ → List ℕ → TaskPlan Value) (path bytes : List ℕ) (at : List ℕ) (n : ℕ)
        (places : Option (List Place))
        → places ≡ chosen journal (body_ask w path bytes) → IsBlockSize (length bytes) → GangLaid levels below path bytes
        → IsLaidOn tops levels path (length bytes) (stored (heard o (labelled at n (plan_body places w below path bytes))))
    body_at levels below path bytes at n None found_is block gang =
        unless_at levels below path bytes at n (nat_le (length bytes) 512) refl gang
    body_at levels below path bytes at n (Some places) found_is block gang =
        body_laid levels path bytes places (wrote (o.answer (at_place at n (WriteCopies bytes places)))) block
        (chosen_whole tops t.used journal (body_ask w path bytes) places lawful writes.one writes.three found_is)

    part_at : (levels : ℕ) (below : List ℕ → List ℕ → TaskPlan Value) (path bytes : List ℕ) (at : List ℕ) (n : ℕ)
        → IsBlockSize (length bytes)
        → GangLaid levels below path bytes
        → IsLaidOn tops levels path (length bytes) (stored (heard o (labelled at n (plan_part w below path bytes))))
    part_at levels below path bytes at n block gang =
        let x = at_place at n (Find (body_ask w path bytes)) in
        body_at levels below path bytes at (suc n) (found (o.answer x)) (is.fits x) block gang

    -- ---- members

    abbrev part_task : ℕ → List ℕ → List ℕ → Task
    part_task levels path bytes = WritePart attempt p sum_kind copies levels path bytes

    abbrev members_plan : ℕ → List ℕ → ℕ → List (List ℕ) → TaskPlan Kin
    members_plan levels path n parts = plan_members (λ below part. ask (part_task levels below part)) path n parts

    abbrev BelowLaid : ℕ → Type 0
    BelowLaid levels = (path bytes : List ℕ) (at : List ℕ) → IsPart levels (length bytes)
        → IsLaidOn tops levels path (length bytes) (stored (o.answer (record { at = at; op = part_task levels path bytes })))

    members_at : (levels : ℕ) → BelowLaid levels
        → (path : List ℕ) (n : ℕ) (sizes bytes : List ℕ) (old pointers : List (Option Bp)) (at : List ℕ) (k : ℕ)
        → AllByRecursion (IsPart levels) sizes → sum sizes ≤ length bytes → n + length sizes ≤ length old
        → pointers
        ≡ filled_to None 3 (take n old ++ (heard o (labelled at k (members_plan levels path n (cut sizes bytes)))).pointers)
        → AreLaidOn tops levels path n sizes old pointers (heard o (labelled at k (members_plan levels path n (cut sizes bytes))))
    members_at levels below path n [] bytes old pointers at k parts fits room are = none_laid tops levels path n old pointers are
    members_at levels below path n (size ∷ sizes) bytes old pointers at k parts fits room are =
        let x = at_place at k (part_task levels (path ++ n ∷ []) (take size bytes)) in
        let s : Stored = stored (o.answer x) in
        let rest : TaskPlan Kin = members_plan levels path (n + 1) (cut sizes (drop size bytes)) in
        let others : Kin = heard o (labelled at (suc k) rest) in
        let all : heard o (labelled at k (members_plan levels path n (cut (size ∷ sizes) bytes))) ≡ add_kin s others =
        map_at o at (suc k) rest (λ (m : Kin). add_kin s m) in
        let total = sum_first size sizes in
        let long : length (take size bytes) ≡ size = length-take size bytes ∙ omega arith in
        let left : length (drop size bytes) ≡ length bytes - size = length-drop size bytes in
        let one : IsLaidOn tops levels (path ++ n ∷ []) size s =
        subst (λ len. IsLaidOn tops levels (path ++ n ∷ []) len s) long
        (below (path ++ n ∷ []) (take size bytes) x.at (subst (IsPart levels) (sym long) parts.0)) in
        let here : n < length old = omega arith in
        let placed : pointers ≡ filled_to None 3 (take (n + 1) (slice_set old n s.pointer) ++ others.pointers) =
        are
        ∙ ap (λ (m : Kin). filled_to None 3 (take n old ++ m.pointers)) all
        ∙ ap (filled_to None 3) (sym (append_assoc (take n old) (s.pointer ∷ []) others.pointers))
        ∙ ap (λ (ps : List (Option Bp)). filled_to None 3 (ps ++ others.pointers)) (sym (take_more_set old n s.pointer here)) in
        let more : AreLaidOn tops levels path (n + 1) sizes (slice_set old n s.pointer) pointers others =
        members_at levels below path (n + 1) sizes (drop size bytes) (slice_set old n s.pointer) pointers at (suc k) parts.1
        (omega arith)
        (let same = length-set old n s.pointer in omega arith) placed in
        subst (AreLaidOn tops levels path n (size ∷ sizes) old pointers) (sym all) (record {
          taken = one.taken ++ more.taken;
          laid = laid_members tops levels path n size sizes (size ∷ sizes) (record { error = s.error; pointer = s.pointer })
              (worst_of others.errors) (worst_error s.error (worst_of others.errors)) old pointers
              s.heads others.heads (s.heads ++ others.heads) one.taken more.taken (one.taken ++ more.taken)
              (refl {a = size ∷ sizes}) here
              (refl {a = worst_error s.error (worst_of others.errors)}) (refl {a = s.heads ++ others.heads})
              (refl {a = one.taken ++ more.taken})
              one.laid more.laid;
        })

    -- ---- levels of headers

    gang_at : (levels : ℕ) → BelowLaid levels → (path bytes : List ℕ) → IsPart (suc levels) (length bytes)
        → GangLaid (suc levels) (λ below part. ask (part_task levels below part)) path bytes
    gang_at levels below path bytes part places at n entry large =
        let members : TaskPlan Kin = members_plan levels path 0 (cut (split_sizes (length bytes)) bytes) in
        let m : Kin = heard o (labelled at n members) in
        let header : List ℕ = header_over w places m in
        let next : Kin → TaskPlan Value =
        λ k. ask (WriteCopies (header_over w places k) places)
        >>= λ v. Ends (StoredAs (gang_stored w path bytes places k (wrote v))) in
        let behind = then_at o at n members next in
        let v : Value = o.answer (at_place at behind.0 (WriteCopies header places)) in
        let s : Stored = gang_stored w path bytes places m (wrote v) in
        let all : stored (heard o (labelled at n
        (plan_gang (Some places) w (λ below part. ask (part_task levels below part)) path bytes))) ≡ s =
        ap stored behind.1 in
        let old : List (Option Bp) = None ∷ None ∷ None ∷ [] in
        let few = few_law (length bytes) in
        let total = total_law (length bytes) part.block.whole in
        let laid : AreLaidOn tops levels path 0 (split_sizes (length bytes)) old (filled_to None 3 m.pointers) m =
        members_at levels below path 0 (split_sizes (length bytes)) bytes old (filled_to None 3 m.pointers) at n
        (parts_of levels (length bytes) part) (omega arith) (omega arith) refl in
        subst (IsLaidOn tops (suc levels) path (length bytes)) (sym all) (record {
          taken = places ++ laid.taken;
          laid = laid_gang tops levels path (length bytes) (record { error = s.error; pointer = s.pointer })
              (pointer_to w places true bytes) places header (split_sizes (length bytes)) (worst_of m.errors) (wrote v)
              old (filled_to None 3 m.pointers) m.heads s.heads laid.taken laid.laid refl few refl refl refl
              (made places true bytes 512 part.block entry refl) refl refl (places_of_pointer w places true bytes) entry.one refl;
        })

    written_at : (levels : ℕ) (path bytes : List ℕ) (at : List ℕ) (n : ℕ) → IsPart levels (length bytes)
        → IsLaidOn tops levels path (length bytes)
        (stored (heard o (labelled at n (plan_write t attempt p sum_kind copies levels path bytes))))
    written_at zero path bytes at n part =
        let deep : length bytes ≤ 512 * 3 ^ 0 = part.deep in
        part_at zero (λ below more. Ends (StoredAs nowhere)) path bytes at n part.block
        (λ places place m entry large. absurd (omega arith))
    written_at (suc levels) path bytes at n part =
        part_at (suc levels) (λ below more. ask (part_task levels below more)) path bytes at n part.block
        (gang_at levels (λ lower some place sized.
        (let x : Labelled Task = record { at = place; op = part_task levels lower some } in
        subst (λ (v : Value). IsLaidOn tops levels lower (length some) (stored v)) (sym (is.answer x refl))
        (written_at levels lower some place 0 sized)))
        path bytes part)

    -- the block of a request
    pub block_at : (bytes : List ℕ) (at : List ℕ) (n : ℕ) → IsBlockSize (length bytes)
        → IsLaidOn tops path_steps_max [] (length bytes)
        (stored (heard o (labelled at n (plan_write t attempt p sum_kind copies path_steps_max [] bytes))))
    block_at bytes at n block =
        written_at path_steps_max [] bytes at n (record { block = block; deep = (let most = block.most in omega arith) })
