-- The steps of one seat, as its functions make them.
use Rattle.std.proofs.Common.{◌≡◌, ◌≢◌, ℕ, ◌+◌, ◌%◌, ◌^◌, ◌<◌, List, [], ◌∷◌, ◌++◌, length, sym, ap, ◌∙◌, arith, All, subst, Some, Option}
use mathlib.Core.Option.{none}
use Rattle.atomic_table.specs.declared.shared.Seat.{Seat}
use Rattle.atomic_table.specs.Table.{Me, step, rest, Allows}
use Rattle.zio_book.specs.declared.book.Book.{Book}
use Rattle.zio_book.specs.declared.book.Receipt.{Receipt}
use Rattle.zio_book.specs.declared.view.View.{View}
use Rattle.zio_book.specs.declared.view.WithHistory.{WithHistory}
use Rattle.zio_book.specs.declared.view.Birth.{Birth}
use Rattle.zio_book.specs.History.{Leads}
use Rattle.zio_book.specs.Rule.{idle, waiting, inside, acted, first_of, Booked, Draws, Enters, Looks, Counts, Serves}
use Rattle.zio_book.specs.Books.{IsSeatOf, IsInside, HasEntered, SeatActed, first_state, table_of}
use Rattle.zio_book.proofs.Sums.{leads_more}
use Rattle.zio_book.proofs.Steps.{draw_allows, look_allows, count_allows, serve_allows}

module _ {H C R N : Type 0} (gives : H → N → H → Type 0) (book : Book H C R N) (slots id : ℕ) where
  abbrev about : Birth H
  about = book.table.shared.key

  abbrev S : Type 0
  S = Option (WithHistory H N)

  abbrev V : Type 0
  V = View H N

  pub draw_seat : (seat : Seat S V) → IsSeatOf book 1 seat → Allows (Booked gives about) slots id seat.me 0 (λ n. (n + 1) % 2 ^ 64) (Draws (step slots 0 1 0 none) seat.me)
  draw_seat seat is = draw_allows gives about slots id seat.me.0 seat.me.1 (ap (λ (v : V). v.busy) is.view) (ap (λ (v : V). v.inside) is.view) (subst (λ (v : V). 0 < v.passes) (sym is.view) (omega arith))

  pub look_seat : (me : Me S V) (v : V) (t : ℕ) → me ≡ (waiting v t, []) → Allows (Booked gives about) slots id me 1 (λ n. n) (Looks gives (step slots 1 0 0 none) me)
  look_seat me v t e = look_allows gives about slots id me.0 me.1 (ap (λ (m : Me S V). m.0.busy) e) (ap (λ (m : Me S V). m.0.inside) e)

  pub serve_seat : (seat : Seat S V) → IsInside gives book seat → Allows (Booked gives about) slots id seat.me 1 (λ n. (n + 1) % 2 ^ 64) (Serves (step slots 1 1 0 none) seat.me)
  serve_seat seat is =
      subst (λ c. Allows (Booked gives about) slots id (seat.me.0, c) 1 (λ n. (n + 1) % 2 ^ 64) (Serves (step slots 1 1 0 none) (seat.me.0, c))) (sym is.1)
      (serve_allows gives about slots id seat.me.0 is.0 (first_state book) is.2 is.3 is.4 is.5 is.6)

  pub count_seat : (me : Me S V) (kept : WithHistory H N) (n : N) → me.1 ≡ (0, Some kept) ∷ [] → me.0.inside ≡ 1 → kept.notes.items ≡ me.0.log ++ n ∷ [] → length kept.notes.items < 2 ^ 64
      → Allows (Booked gives about) slots id me 2 (λ m. (m + 1) % 2 ^ 64) (Counts (step slots 2 1 0 none) me)
  count_seat me kept n e in' notes small =
      subst (λ c. Allows (Booked gives about) slots id (me.0, c) 2 (λ m. (m + 1) % 2 ^ 64) (Counts (step slots 2 1 0 none) (me.0, c))) (sym e) (count_allows gives about slots id me.0 kept n in' notes small)

module _ {H C R N : Type 0} (gives : H → N → H → Type 0) (book : Book H C R N) where
  abbrev S' : Type 0
  S' = Option (WithHistory H N)

  abbrev V' : Type 0
  V' = View H N

  pub served_view : (me m : Me S' V') (kept : WithHistory H N) → me.1 ≡ (0, Some kept) ∷ [] → m ≡ (idle me.0.passes me.0.acts me.0.claims me.0.first, rest me.1) → m ≡ (idle me.0.passes me.0.acts me.0.claims me.0.first, [])
  served_view me m kept e f = f ∙ ap (λ (c : List (ℕ × S')). (idle me.0.passes me.0.acts me.0.claims me.0.first, rest c)) e

  -- a look at the ticket's turn brings the held value
  pub entered : (old new : Seat S' V') (m : Me S' V') (t r ticket : ℕ) → IsSeatOf book 1 old → m ≡ (waiting old.me.0 t, []) → ticket ≡ t % 2 ^ 64 → r ≡ ticket
      → (r ≡ m.0.ticket % 2 ^ 64 → Enters gives m new.me) → HasEntered gives book old new
  entered old new m t r ticket is e word found looks =
      let enters = looks (found ∙ word ∙ ap (λ (y : Me S' V'). y.0.ticket % 2 ^ 64) (sym e)) in (
        enters.0,
        t,
        enters.1 ∙ ap (λ (y : Me S' V'). (inside y.0 enters.0.notes.items, (0, Some enters.0) ∷ y.1)) e,
        enters.2 (first_state book) (ap (λ (y : Me S' V'). y.0.first) e ∙ ap (λ (y : V'). y.first) is.view),
      )

  -- where it isn't the ticket's turn, the seat waits as before
  pub waits : (m m' : Me S' V') (v : V') (t r ticket : ℕ) → m ≡ (waiting v t, []) → ticket ≡ t % 2 ^ 64 → r ≢ ticket → (¬ (r ≡ m.0.ticket % 2 ^ 64) → m' ≡ m) → m' ≡ (waiting v t, [])
  waits m m' v t r ticket e word other looks = looks (λ f. other (f ∙ ap (λ (y : Me S' V'). y.0.ticket % 2 ^ 64) e ∙ sym word)) ∙ e

  pub slot_here : (c : List (ℕ × S')) (x : S') → c ≡ (0, x) ∷ [] → (old : S') × (c ≡ (0, old) ∷ rest c)
  slot_here c x e = (x, e ∙ ap (λ (l : List (ℕ × S')). (0, x) ∷ rest l) (sym e))

  pub slot_was : (c : List (ℕ × S')) (x y : S') → c ≡ (0, x) ∷ [] → c ≡ (0, y) ∷ rest c → y ≡ x
  slot_was c x y e f = let g : (0, x) ∷ [] ≡ (0, y) ∷ rest c = sym e ∙ f in let h : (0, x) ≡ (0, y) = cc in ap (λ (z : ℕ × S'). z.1) (sym h)

  pub slot_now : (v : V') (c : List (ℕ × S')) (x y : S') (m : Me S' V') → c ≡ (0, x) ∷ [] → m ≡ (v, (0, y) ∷ rest c) → m ≡ (v, (0, y) ∷ [])
  slot_now v c x y m e f = f ∙ ap (λ (l : List (ℕ × S')). (v, (0, y) ∷ rest l)) e

snoc_same : {A : Type 0} (xs : List A) (a b : A) → xs ++ a ∷ [] ≡ xs ++ b ∷ [] → a ≡ b
snoc_same [] a b e = cc
snoc_same (x ∷ xs) a b e = let f : xs ++ a ∷ [] ≡ xs ++ b ∷ [] = cc in snoc_same xs a b f

module _ {H C R N : Type 0} (gives : H → N → H → Type 0) (fits : H → C → R → N → Type 0) (book : Book H C R N) where
  abbrev S2 : Type 0
  S2 = Option (WithHistory H N)

  abbrev V2 : Type 0
  V2 = View H N

  abbrev M2 : Type 0
  M2 = Me S2 V2

  kept_same : (c : List (ℕ × S2)) (k l : WithHistory H N) → c ≡ (0, Some k) ∷ [] → c ≡ (0, Some l) ∷ [] → k ≡ l
  kept_same c k l e f =
      let one : S2 = Some k in
      let other : S2 = Some l in
      let g : ◌≡◌ {A = List (ℕ × S2)} ((0, one) ∷ []) ((0, other) ∷ []) = sym e ∙ f in
      let h : ◌≡◌ {A = ℕ × S2} (0, one) (0, other) = cc in
      let i : one ≡ other = ap (λ (z : ℕ × S2). z.1) h in cc

  -- what the value that was taken out is, and how the history leads to it
  pub taken : (old new : Seat S2 V2) (kept : WithHistory H N) → HasEntered gives book old new → new.me.1 ≡ (0, Some kept) ∷ []
      → (t : ℕ) × (new.me ≡ (inside (waiting old.me.0 t) kept.notes.items, (0, Some kept) ∷ [])) × Leads gives (first_state book) kept.notes.items kept.held
  taken old new kept has e =
      let same : has.0 ≡ kept = kept_same new.me.1 has.0 kept (ap (λ (m : M2). m.1) has.2) e in (
        has.1,
        has.2 ∙ ap (λ (k : WithHistory H N). (inside (waiting old.me.0 has.1) k.notes.items, (0, Some k) ∷ [])) same,
        subst (λ (k : WithHistory H N). Leads gives (first_state book) k.notes.items k.held) same has.3,
      )

  -- the value is back in the slot
  pub back : (v : V2) (m m' m'' : M2) (t : ℕ) (ns : List N) (x y : S2) (c : List (ℕ × S2)) → m ≡ (inside (waiting v t) ns, c) → m' ≡ (m.0, (0, x) ∷ []) → m'' ≡ (m'.0, (0, y) ∷ []) → m'' ≡ (inside (waiting v t) ns, (0, y) ∷ [])
  back v m m' m'' t ns x y c e f g = g ∙ ap (λ (z : M2). (z.0, (0, y) ∷ [])) (f ∙ ap (λ (z : M2). (z.0, (0, x) ∷ [])) e)

  pub unchanged_inside : (old seat : Seat S2 V2) (kept : WithHistory H N) (t : ℕ) (ns : List N) (h : H) → IsSeatOf book 1 old → seat.me ≡ (inside (waiting old.me.0 t) ns, (0, Some kept) ∷ []) → kept.notes.items ≡ ns → kept.held ≡ h
      → Leads gives (first_state book) ns h → IsInside gives book seat
  unchanged_inside old seat kept t ns h is e notes held leads = (
    kept,
    ap (λ (m : M2). m.1) e,
    ap (λ (m : M2). m.0.busy) e,
    ap (λ (m : M2). m.0.inside) e,
    notes ∙ ap (λ (m : M2). m.0.log) (sym e),
    ap (λ (m : M2). m.0.first) e ∙ ap (λ (v : V2). v.first) is.view,
    subst (λ l. Leads gives (first_state book) l kept.held) (sym notes) (subst (λ y. Leads gives (first_state book) ns y) (sym held) leads),
  )

  -- the seat that has served the next is as free as before
  pub unchanged_seat : (old seat after : Seat S2 V2) (kept : WithHistory H N) (t : ℕ) (ns : List N) → IsSeatOf book 1 old → seat.me ≡ (inside (waiting old.me.0 t) ns, (0, Some kept) ∷ []) → after.table_id ≡ table_of book
      → after.me ≡ (idle seat.me.0.passes seat.me.0.acts seat.me.0.claims seat.me.0.first, []) → IsSeatOf book 1 after × (after.me.0.acts ≡ old.me.0.acts)
  unchanged_seat old seat after kept t ns is e table f =
      let now : after.me ≡ (idle old.me.0.passes old.me.0.acts old.me.0.claims old.me.0.first, []) = f ∙ ap (λ (m : M2). (idle m.0.passes m.0.acts m.0.claims m.0.first, [])) e in
      let p : old.me.0.passes ≡ 1 = ap (λ (v : V2). v.passes) is.view in
      let q : old.me.0.first ≡ Some (first_state book) = ap (λ (v : V2). v.first) is.view in (
        record {
          table = table;
          free = ap (λ (m : M2). m.1) now;
          view = ap (λ (m : M2). m.0) now ∙ (λ i. idle (p i) old.me.0.acts old.me.0.claims (q i)) ∙ ap (λ (m : M2). idle 1 m.0.acts m.0.claims (Some (first_state book))) (sym now);
        },
        ap (λ (m : M2). m.0.acts) now,
      )

  -- what the count tells, where the note is known
  pub counted : (v : V2) (m m' : M2) (t r : ℕ) (ns : List N) (kept : WithHistory H N) (note : N) (st : _) → m ≡ (inside (waiting v t) ns, (0, Some kept) ∷ []) → kept.notes.items ≡ ns ++ note ∷ [] → Counts st m r m'
      → (m' ≡ (acted (inside (waiting v t) ns) note, (0, Some kept) ∷ [])) × (r ≡ length ns) × All (λ (a : ℕ × N). a.0 < r) v.acts × All (λ (c : List N × N). length c.0 < r) v.claims
  counted v m m' t r ns kept note st e notes counts =
      let k : counts.0 ≡ kept = kept_same m.1 counts.0 kept counts.2 (ap (λ (z : M2). z.1) e) in
      let log : m.0.log ≡ ns = ap (λ (z : M2). z.0.log) e in
      let n : counts.1 ≡ note = snoc_same ns counts.1 note (ap (λ l. l ++ counts.1 ∷ []) (sym log) ∙ sym counts.3 ∙ ap (λ (z : WithHistory H N). z.notes.items) k ∙ notes) in (
        counts.4 ∙ ap (λ (y : N). (acted m.0 y, m.1)) n ∙ ap (λ (z : M2). (acted z.0 note, z.1)) e,
        counts.5 ∙ ap length log,
        subst (λ (z : M2). All (λ (a : ℕ × N). a.0 < r) z.0.acts) e counts.6,
        subst (λ (z : M2). All (λ (c : List N × N). length c.0 < r) z.0.claims) e counts.7,
      )

  pub acted_inside : (old seat : Seat S2 V2) (kept : WithHistory H N) (t : ℕ) (ns : List N) (note : N) (h : H) → IsSeatOf book 1 old → seat.me ≡ (acted (inside (waiting old.me.0 t) ns) note, (0, Some kept) ∷ []) → kept.notes.items ≡ ns ++ note ∷ []
      → Leads gives (first_state book) ns h → gives h note kept.held → IsInside gives book seat
  acted_inside old seat kept t ns note h is e notes leads g = (
    kept,
    ap (λ (m : M2). m.1) e,
    ap (λ (m : M2). m.0.busy) e,
    ap (λ (m : M2). m.0.inside) e,
    notes ∙ ap (λ (m : M2). m.0.log) (sym e),
    ap (λ (m : M2). m.0.first) e ∙ ap (λ (v : V2). v.first) is.view,
    subst (λ l. Leads gives (first_state book) l kept.held) (sym notes) (leads_more gives (first_state book) ns h kept.held note leads g),
  )

  -- the seat after it left
  module _ (old seat after : Seat S2 V2) (kept : WithHistory H N) (t r : ℕ) (ns : List N) (note : N) (is : IsSeatOf book 1 old) (e : seat.me ≡ (acted (inside (waiting old.me.0 t) ns) note, (0, Some kept) ∷ [])) (table : after.table_id ≡ table_of book)
      (f : after.me ≡ (idle seat.me.0.passes seat.me.0.acts seat.me.0.claims seat.me.0.first, [])) where
    left : after.me ≡ (idle old.me.0.passes (old.me.0.acts ++ (length ns, note) ∷ []) ((ns, note) ∷ old.me.0.claims) old.me.0.first, [])
    left = f ∙ ap (λ (m : M2). (idle m.0.passes m.0.acts m.0.claims m.0.first, [])) e

    pub left_seat : IsSeatOf book 1 after
    left_seat =
        let p : old.me.0.passes ≡ 1 = ap (λ (v : V2). v.passes) is.view in
        let q : old.me.0.first ≡ Some (first_state book) = ap (λ (v : V2). v.first) is.view in
        record {
          table = table;
          free = ap (λ (m : M2). m.1) left;
          view = ap (λ (m : M2). m.0) left ∙ (λ i. idle (p i) (old.me.0.acts ++ (length ns, note) ∷ []) ((ns, note) ∷ old.me.0.claims) (q i)) ∙ ap (λ (m : M2). idle 1 m.0.acts m.0.claims (Some (first_state book))) (sym left);
        }

    pub has_acted : (new : Seat S2 V2) (receipt : Receipt H C R N) (cmd : C) (reply : R) (h : H) → r ≡ length ns → All (λ (a : ℕ × N). a.0 < r) old.me.0.acts
        → Leads gives (first_state book) ns h → fits h cmd reply note → new.me ≡ after.me → receipt.number ≡ r → receipt.badge.table_id ≡ table_of book
        → receipt.badge.views ≡ idle 0 [] (first_of after.me.0.claims) after.me.0.first ∷ [] → SeatActed gives fits book old new cmd reply receipt
    has_acted new receipt cmd reply h number later leads fit same is_number badge views =
        let q : old.me.0.first ≡ Some (first_state book) = ap (λ (v : V2). v.first) is.view in
        let n : receipt.number ≡ length ns = is_number ∙ number in
        record {
          before = ns;
          note = note;
          state = h;
          receipt_of = record {
            table = badge;
            claim = views ∙ ap (λ (m : M2). idle 0 [] (first_of m.0.claims) m.0.first ∷ []) left ∙ ap (λ (f : Option H). idle 0 [] ((ns, note) ∷ []) f ∷ []) q;
            number = sym n;
          };
          leads = leads;
          fitting = fit;
          acts = ap (λ (m : M2). m.0.acts) (same ∙ left) ∙ ap (λ (k : ℕ). old.me.0.acts ++ (k, note) ∷ []) (sym n);
          later = subst (λ k. All (λ (a : ℕ × N). a.0 < k) old.me.0.acts) (sym is_number) later;
        }
