-- All places that the write of a part came to are those of what it leaves.
use Rattle.std.proofs.Common.{◌≡◌, ℕ, ◌≤◌, List, [], ◌∷◌, ◌++◌, append_assoc, append-nil, length, map, Bool, true, false, ◌&&◌, cond, nat_le, nat_lt, Option, Some, None, refl, sym, ap, subst, ◌∙◌, arith}
use Rattle.std.specs.Prelude.{IsPermutation, filter_map, slice_index_or}
use Rattle.std.specs.List.{AllByRecursion, flat_map, list_all}
use Rattle.std.proofs.Math.Seq.{take-append_seam}
use Rattle.std.proofs.lemmas.Bool.{and_parts, false≢true}
use Rattle.std.proofs.lemmas.Grind.{flat_map-append}
use Rattle.std.proofs.lemmas.List.Sorted.{IsPermutation-append_comm, IsPermutation-append_left, IsPermutation-append_right, IsPermutation-refl, IsPermutation-trans}
use Rattle.zio_types.specs.declared.place.Place.{Place}
use Rattle.zio_types.specs.Choices.{no_place}
use Rattle.zio_types.specs.Filled.{filled_to}
use Rattle.zio_types.specs.Places.{sector_size}
use Rattle.zio_blkptr.specs.declared.pointer.Bp.{Bp}
use Rattle.zio_blkptr.specs.Pointers.{places_of}
use Rattle.zio_cksum.specs.Headers.{header_of, members_max, members_of}
use Rattle.zio_cksum.proofs.HeaderLemmas.{IsNamed, header_names, none_named, some_named}
use Rattle.zio_cksum.proofs.SplitLemmas.{few_law}
use Rattle.zio_gang.specs.declared.tree.Head.{Head}
use Rattle.zio_gang.specs.Attempts.{Terms}
use Rattle.zio_trace.specs.Tasks.{Attempt, Find, Leaf, ReadCopies, ReadHeads, ReadTree, Settle, TakePlaces, Task, WriteCopies, WritePart}
use Rattle.zio_frames.specs.Slots.{Heard, IsOut, Slot}
use Rattle.zio_parts.specs.Parts.{PartWriting, header_by, heads_in, is_ended, is_told, member_count, member_slot, own_slots, pointer_in, pointer_over, refused_slots, slots_at, slots_of, stored_at, stored_by}
use Rattle.zio_parts.specs.PartWrites.{headed_step, member_step, own_step, step_at}
use Rattle.zio_parts.specs.declared.members.Member.{Member}
use Rattle.zio_parts.specs.declared.members.Member.TheVariants.{Out as MemberOut, Told, Ended as MemberEnded}
use Rattle.zio_parts.specs.declared.parts.OwnWrite.{OwnWrite}
use Rattle.zio_parts.specs.declared.parts.OwnWrite.TheVariants.{Due, Out as OwnOut, Ended as OwnEnded}
use Rattle.zio_parts.specs.declared.parts.PartStep.TheVariants.{WriteHeader, Wait, End}
use Rattle.zio_parts.specs.declared.parts.Placing.{Placing}
use Rattle.zio_parts.specs.declared.parts.Placing.TheVariants.{Body, Head as HeadDue, Whole, Gang, Nowhere}
use Rattle.zio_exchange.specs.Outcomes.{IsKept, found_in, places_in, places_with, stored_in, stored_places}
use Rattle.zio_stages.specs.PartOwns.{ForBytes, ForMember, ForOther, ForPlaces, IsKeptMember, IsPartOwn, PartAsk, ShowsOwn, WrittenPart, ask_of, asks_at, asks_in, member_asks, own_asks, refused_asks}
use Rattle.zio_stages.specs.declared.part.PartOwn.{PartOwn}

-- ---- what its operations came to, by their kinds

-- the places that came with an operation of this kind
abbrev by_slot : Slot → PartAsk → List Place
by_slot (IsOut told) a = []
by_slot (Heard v) ForPlaces = found_in v
by_slot (Heard v) ForMember = stored_in v
by_slot (Heard v) ForBytes = []
by_slot (Heard v) ForOther = []

abbrev by_slots : List PartAsk → List Slot → List Place
by_slots [] slots = []
by_slots (a ∷ asks) [] = []
by_slots (a ∷ asks) (slot ∷ slots) = by_slot slot a ++ by_slots asks slots

abbrev IsKnown : PartAsk → Type 0
IsKnown a = a ≡ ForOther → ⊥

with_ask : (op : Task) (slot : Slot) (a : PartAsk) → ask_of op ≡ a → IsKnown a → places_with op slot ≡ by_slot slot a
with_ask op (IsOut told) a e known = refl
with_ask (Find q) (Heard v) a e known = ap (by_slot (Heard v)) e
with_ask (WritePart attempt p sum copies levels path bytes) (Heard v) a e known = ap (by_slot (Heard v)) e
with_ask (WriteCopies bytes places) (Heard v) a e known = ap (by_slot (Heard v)) e
with_ask (Leaf act) (Heard v) a e known = absurd (known (sym e))
with_ask (ReadCopies repair test len places) (Heard v) a e known = absurd (known (sym e))
with_ask (ReadHeads look levels path bp) (Heard v) a e known = absurd (known (sym e))
with_ask (ReadTree tree) (Heard v) a e known = absurd (known (sym e))
with_ask (TakePlaces tree) (Heard v) a e known = absurd (known (sym e))
with_ask (Attempt attempt p kids) (Heard v) a e known = absurd (known (sym e))
with_ask (Settle p kids) (Heard v) a e known = absurd (known (sym e))

held_as : (asks : List PartAsk) (asked : List Task) (slots : List Slot) → map ask_of asked ≡ asks → AllByRecursion IsKnown asks
    → places_in asked slots ≡ by_slots asks slots
held_as [] [] slots e known = refl
held_as [] (op ∷ asked) slots e known = absurd (cc)
held_as (a ∷ asks) [] slots e known = absurd (cc)
held_as (a ∷ asks) (op ∷ asked) [] e known = refl
held_as (a ∷ asks) (op ∷ asked) (slot ∷ slots) e known =
    let first : ask_of op ≡ a = cc in
    let rest : map ask_of asked ≡ asks = cc in
    let one : places_with op slot ≡ by_slot slot a = with_ask op slot a first known.0 in
    let more : places_in asked slots ≡ by_slots asks slots = held_as asks asked slots rest known.1 in
    λ j. one j ++ more j

own_known : (own : OwnWrite) → AllByRecursion IsKnown (own_asks own)
own_known Due = tt
own_known OwnOut = ((λ e. cc), tt)
own_known (OwnEnded error) = ((λ e. cc), tt)

refused_known : (b : Bool) → AllByRecursion IsKnown (refused_asks b)
refused_known true = ((λ e. cc), tt)
refused_known false = ((λ e. cc), ((λ e. cc), tt))

members_known : (ms : List Member) (own : OwnWrite) → AllByRecursion IsKnown (member_asks ms ++ own_asks own)
members_known [] own = own_known own
members_known (m ∷ ms) own = ((λ e. cc), members_known ms own)

all_known : (placing : Placing) (x : PartWriting) → AllByRecursion IsKnown (asks_at placing x)
all_known Body x = tt
all_known HeadDue x = ((λ e. cc), tt)
all_known (Whole places) x = ((λ e. cc), own_known x.own)
all_known (Gang places) x = ((λ e. cc), ((λ e. cc), members_known x.members x.own))
all_known Nowhere x = refused_known (nat_le x.size sector_size)

-- the write of its bytes comes to none
own_none : (own : OwnWrite) → by_slots (own_asks own) (own_slots own) ≡ []
own_none Due = refl
own_none OwnOut = refl
own_none (OwnEnded error) = refl

refused_none : (b : Bool) → by_slots (refused_asks b) (refused_slots b) ≡ []
refused_none true = refl
refused_none false = refl

-- what a member came to
abbrev member_held : Member → List Place
member_held m = by_slot (member_slot m) ForMember

members_held : (ms : List Member) (own : OwnWrite) → by_slots (member_asks ms ++ own_asks own) (map member_slot ms ++ own_slots own) ≡ flat_map member_held ms
members_held [] own = own_none own
members_held (m ∷ ms) own = ap (λ (ps : List Place). member_held m ++ ps) (members_held ms own)

-- ---- what its members left

-- those of the pointers that are there
abbrev present : List (Option Bp) → List Bp
present pointers = filter_map (λ (p : Option Bp). p) pointers

abbrev named_in : Head → List Bp
named_in h = members_of h.bytes

abbrev places_below : List Head → List Place
places_below heads = flat_map places_of (flat_map named_in heads)

named : (pointer : Option Bp) (heads : List Head) → IsKept pointer heads → IsNamed pointer
named None heads h = none_named
named (Some bp) heads h = some_named bp h.0 h.1

member_named : (m : Member) → is_ended m ≡ true → IsKeptMember m → IsNamed (pointer_in m)
member_named MemberOut e h = absurd (false≢true e)
member_named (Told pointer) e h = absurd (false≢true e)
member_named (MemberEnded error pointer heads) e h = named pointer heads h

-- a header names those of its members that have a pointer
header_present : (ms : List Member) (place : Place) (birth : ℕ) → length ms ≤ 3 → list_all is_ended ms ≡ true → AllByRecursion IsKeptMember ms
    → members_of (header_of (filled_to None members_max (map pointer_in ms)) place birth) ≡ present (map pointer_in ms)
header_present [] place birth few e h = header_names None None None place birth none_named none_named none_named
header_present (a ∷ []) place birth few e h =
    let es = and_parts (is_ended a) true e in
    header_names (pointer_in a) None None place birth (member_named a es.0 h.0) none_named none_named
header_present (a ∷ b ∷ []) place birth few e h =
    let es = and_parts (is_ended a) (is_ended b && true) e in
    let fs = and_parts (is_ended b) true es.1 in
    header_names (pointer_in a) (pointer_in b) None place birth (member_named a es.0 h.0) (member_named b fs.0 h.1.0) none_named
header_present (a ∷ b ∷ c ∷ []) place birth few e h =
    let es = and_parts (is_ended a) (is_ended b && (is_ended c && true)) e in
    let fs = and_parts (is_ended b) (is_ended c && true) es.1 in
    let gs = and_parts (is_ended c) true fs.1 in
    header_names (pointer_in a) (pointer_in b) (pointer_in c) place birth (member_named a es.0 h.0) (member_named b fs.0 h.1.0) (member_named c gs.0 h.1.1.0)
header_present (a ∷ b ∷ c ∷ d ∷ ms) place birth few e h = absurd (omega (arith, few))

-- two lists that are interleaved with others
turned : (a b c d : List Place) → IsPermutation ((a ++ b) ++ (c ++ d)) ((a ++ c) ++ (b ++ d))
turned a b c d =
    subst (λ (zs : List Place). IsPermutation zs ((a ++ c) ++ (b ++ d))) (sym (append_assoc a b (c ++ d)))
    (subst (λ (zs : List Place). IsPermutation (a ++ (b ++ (c ++ d))) zs) (sym (append_assoc a c (b ++ d)))
    (IsPermutation-append_right a (b ++ (c ++ d)) (c ++ (b ++ d))
    (subst (λ (zs : List Place). IsPermutation zs (c ++ (b ++ d))) (append_assoc b c d)
    (subst (λ (zs : List Place). IsPermutation ((b ++ c) ++ d) zs) (append_assoc c b d)
    (IsPermutation-append_left d (b ++ c) (c ++ b) (IsPermutation-append_comm b c))))))

below_both : (xs ys : List Head) → places_below (xs ++ ys) ≡ places_below xs ++ places_below ys
below_both xs ys = ap (flat_map places_of) (flat_map-append named_in xs ys) ∙ flat_map-append places_of (flat_map named_in xs) (flat_map named_in ys)

-- members that ended came to the places of their pointers and of those that their headers name
below_members : (ms : List Member) → list_all is_ended ms ≡ true → AllByRecursion IsKeptMember ms
    → IsPermutation (flat_map member_held ms) (flat_map places_of (present (map pointer_in ms)) ++ places_below (flat_map heads_in ms))
below_members [] e h = IsPermutation-refl []
below_members (MemberOut ∷ ms) e h = absurd (false≢true e)
below_members (Told pointer ∷ ms) e h = absurd (false≢true e)
below_members (MemberEnded error None heads ∷ ms) e h =
    let none : heads ++ flat_map heads_in ms ≡ flat_map heads_in ms = ap (λ (hs : List Head). hs ++ flat_map heads_in ms) h.0 in
    subst (λ (hs : List Head). IsPermutation (flat_map member_held ms) (flat_map places_of (present (map pointer_in ms)) ++ places_below hs)) (sym none)
    (below_members ms e h.1)
below_members (MemberEnded error (Some bp) heads ∷ ms) e h =
    let a : List Place = places_of bp in
    let b : List Place = places_below heads in
    let c : List Place = flat_map places_of (present (map pointer_in ms)) in
    let d : List Place = places_below (flat_map heads_in ms) in
    let rest : IsPermutation (flat_map member_held ms) (c ++ d) = below_members ms e h.1 in
    let held : (a ++ b) ++ [] ≡ a ++ b = append-nil (a ++ b) in
    let left : places_below (heads ++ flat_map heads_in ms) ≡ b ++ d = below_both heads (flat_map heads_in ms) in
    subst (λ (ps : List Place). IsPermutation (ps ++ flat_map member_held ms) ((a ++ c) ++ places_below (heads ++ flat_map heads_in ms))) (sym held)
    (subst (λ (ps : List Place). IsPermutation ((a ++ b) ++ flat_map member_held ms) ((a ++ c) ++ ps)) (sym left)
    (IsPermutation-trans ((a ++ b) ++ flat_map member_held ms) ((a ++ b) ++ (c ++ d)) ((a ++ c) ++ (b ++ d))
    (IsPermutation-append_right (a ++ b) (flat_map member_held ms) (c ++ d) rest) (turned a b c d)))

-- ---- its end

own_over : (own : OwnWrite) (b : Bool) → own_step own WriteHeader (cond b End Wait) ≡ End → b ≡ true
own_over Due b e = absurd (cc)
own_over OwnOut b e = absurd (cc)
own_over (OwnEnded error) true e = refl
own_over (OwnEnded error) false e = absurd (cc)

headed_over : (t : Bool) (ms : List Member) (own : OwnWrite) → headed_step t ms own ≡ End → list_all is_ended ms ≡ true
headed_over true ms own e = own_over own (list_all is_ended ms) e
headed_over false ms own e = absurd (cc)

members_over : (b : Bool) (ms : List Member) (own : OwnWrite) → member_step b ms own ≡ End → list_all is_ended ms ≡ true
members_over true ms own e = absurd (cc)
members_over false ms own e = headed_over (list_all is_told ms) ms own e

-- the places of its pointer are those that it has
own_places : (x : PartWriting) (gang : Bool) (places : List Place) → places_of (pointer_over x gang places) ≡ places
own_places x gang places = take-append_seam places _

same_places : (xs ys : List Place) → xs ≡ ys → IsPermutation xs ys
same_places xs ys e = subst (λ (zs : List Place). IsPermutation xs zs) e (IsPermutation-refl xs)

ended_at : (placing : Placing) (x : PartWriting) → step_at placing x ≡ End → length x.members ≤ 3 → AllByRecursion IsKeptMember x.members
    → IsPermutation (by_slots (asks_at placing x) (slots_at placing x)) (stored_places (stored_at placing x))
ended_at Body x e few h = absurd (cc)
ended_at HeadDue x e few h = absurd (cc)
ended_at (Whole places) x e few h =
    same_places (places ++ by_slots (own_asks x.own) (own_slots x.own)) _
    (ap (λ (ps : List Place). places ++ ps) (own_none x.own)
    ∙ ap (λ (ps : List Place). ps ++ []) (sym (own_places x false places) ∙ sym (append-nil (places_of (pointer_over x false places)))))
ended_at (Gang places) x e few h =
    let ms : List Member = x.members in
    let all : list_all is_ended ms ≡ true = members_over (nat_lt (length ms) (member_count x)) ms x.own e in
    let bp : Bp = pointer_over x true places in
    let head : List ℕ = header_by x places in
    let heads : List Head = flat_map heads_in ms in
    let names : members_of head ≡ present (map pointer_in ms) = header_present ms (slice_index_or places 0 no_place) x.write.birth few all h in
    let lower : flat_map places_of (members_of head ++ flat_map named_in heads) ≡ flat_map places_of (present (map pointer_in ms)) ++ places_below heads =
    flat_map-append places_of (members_of head) (flat_map named_in heads) ∙ ap (λ (bps : List Bp). flat_map places_of bps ++ places_below heads) names in
    let own : places ≡ places_of bp = sym (own_places x true places) in
    let held : places ++ by_slots (member_asks ms ++ own_asks x.own) (map member_slot ms ++ own_slots x.own) ≡ places ++ flat_map member_held ms =
    ap (λ (ps : List Place). places ++ ps) (members_held ms x.own) in
    let tree : List Place = places_of bp ++ flat_map places_of (members_of head ++ flat_map named_in heads) in
    let left : places ++ (flat_map places_of (present (map pointer_in ms)) ++ places_below heads) ≡ tree ++ [] =
    (let up = sym lower in λ j. own j ++ up j) ∙ sym (append-nil tree) in
    subst (λ (ps : List Place). IsPermutation ps (tree ++ [])) (sym held)
    (subst (λ (ps : List Place). IsPermutation (places ++ flat_map member_held ms) ps) left
    (IsPermutation-append_right places (flat_map member_held ms) (flat_map places_of (present (map pointer_in ms)) ++ places_below heads)
    (below_members ms all h)))
ended_at Nowhere x e few h = same_places _ [] (refused_none (nat_le x.size sector_size))

-- what a part that ended came to is in what it leaves
pub part_places : (t : Terms) (w : PartOwn) (o : WrittenPart) (asked : List Task) (slots : List Slot) → ShowsOwn w End → IsPartOwn t w o asked slots
    → IsPermutation (places_in asked slots) (stored_places (stored_by w.part))
part_places t w o asked slots end h =
    let x : PartWriting = w.part in
    let few : length x.members ≤ 3 = omega (arith, h.few, few_law x.size) in
    let held : places_in asked slots ≡ by_slots (asks_in x) (slots_of x) =
    held_as (asks_in x) asked slots h.asks (all_known x.placing x) ∙ ap (by_slots (asks_in x)) h.shown in
    subst (λ (ps : List Place). IsPermutation ps (stored_places (stored_by x))) (sym held)
    (ended_at x.placing x (sym end.is) few h.kept)
