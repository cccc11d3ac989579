-- Each step keeps the rule of the book.
use Rattle.std.proofs.Common.{◌≡◌, ◌≢◌, ℕ, zero, suc, ◌+◌, ◌-◌, ◌%◌, ◌^◌, ◌<◌, ◌≤◌, cond, eqb, List, [], ◌∷◌, ◌++◌, length, set, get_or, refl, sym, ap, ◌∙◌, ◌⊎◌, inl, inr, ⊎_elim, arith, All, subst, slice_get, Some, None, Option, append_assoc}
use Rattle.std.proofs.lemmas.List.{length-append}
use Rattle.std.proofs.lemmas.List.Elements.{All-nil, All-cons, All-head, All-append, All-push}
use Rattle.std.proofs.lemmas.Bool.Decides.{nat_tests}
use mathlib.Core.Option.{some, none, some-injective, some-ne-none}
use native.Mathlib.Decide.{ℕ_discrete}
use lib.ListN.{get_elem?}
use Rattle.atomic_table.specs.Table.{State, Me, Act, keeps, takes, gives, step, stepped, Allows, Splits, Joins, opening}
use Rattle.atomic_table.proofs.Lists.{at_set, set_again, set_here, set_else, at_snoc, one_turn}
use Rattle.zio_book.specs.declared.view.View.{View}
use Rattle.zio_book.specs.declared.view.WithHistory.{WithHistory}
use Rattle.zio_book.specs.declared.view.Birth.{Birth}
use Rattle.zio_book.specs.History.{Leads, total, times, once_below, Follows}
use Rattle.zio_book.specs.Rule.{idle, waiting, inside, acted, first_of, Knows, IsFree, IsTaken, Booked, Draws, Looks, Counts, Serves}
use Rattle.zio_book.proofs.Sums.{total_append, total_set, total_same, total_below, each_set, all_map, get_longer, get_last, get_below, once_more, wrap_next}

small_mod : (n : ℕ) → n < 2 ^ 64 → n % 2 ^ 64 ≡ n
small_mod n h = omega arith

in_range : {A : Type 0} (xs : List A) (i : ℕ) (x : A) → get_elem? xs i ≡ some x → i < length xs
in_range [] i x e = absurd (some-ne-none x (sym e))
in_range (y ∷ ys) zero x e = omega arith
in_range (y ∷ ys) (suc i) x e = let more = in_range ys i x e in omega arith

module _ {H N : Type 0} (gives' : H → N → H → Type 0) (about : Birth H) where
  abbrev V : Type 0
  V = View H N

  abbrev S : Type 0
  S = Option (WithHistory H N)

  abbrev Rule : State S V → Type 0
  Rule = Booked gives' about

  abbrev first : H
  first = about.first.value

  -- tickets are apart where the new one differs from all others
  apart_set : (views : List V) (id : ℕ) (w : V)
      → ((i j : ℕ) (v u : V) → get_elem? views i ≡ some v → get_elem? views j ≡ some u → 0 < v.busy → 0 < u.busy → v.ticket ≡ u.ticket → i ≡ j)
      → ((j : ℕ) (u : V) → j ≢ id → get_elem? views j ≡ some u → 0 < u.busy → 0 < w.busy → u.ticket ≢ w.ticket)
      → (i j : ℕ) (v u : V) → get_elem? (set views id w) i ≡ some v → get_elem? (set views id w) j ≡ some u → 0 < v.busy → 0 < u.busy → v.ticket ≡ u.ticket → i ≡ j
  apart_set views id w apart new i j v u at at' b b' e =
      ⊎_elim
      (λ (t : (i ≡ id) × (w ≡ v)). ⊎_elim
      (λ (r : (j ≡ id) × (w ≡ u)). t.0 ∙ sym r.0)
      (λ (r : (j ≢ id) × (get_elem? views j ≡ some u)). absurd (new j u r.0 r.1 b' (subst (λ (y : V). 0 < y.busy) (sym t.1) b) (sym e ∙ ap (λ (y : V). y.ticket) (sym t.1))))
      (at_set views id j w u at'))
      (λ (t : (i ≢ id) × (get_elem? views i ≡ some v)). ⊎_elim
      (λ (r : (j ≡ id) × (w ≡ u)). absurd (new i v t.0 t.1 b (subst (λ (y : V). 0 < y.busy) (sym r.1) b') (e ∙ ap (λ (y : V). y.ticket) (sym r.1))))
      (λ (r : (j ≢ id) × (get_elem? views j ≡ some u)). apart i j v u t.1 r.1 b b' e)
      (at_set views id j w u at'))
      (at_set views id i w v at)

  pub draw_allows : (slots id : ℕ) (v : V) (c : List (ℕ × S)) → v.busy ≡ 0 → v.inside ≡ 0 → 0 < v.passes → Allows Rule slots id (v, c) 0 (λ n. (n + 1) % 2 ^ 64) (Draws (step slots 0 1 0 none) (v, c))
  draw_allows slots id v c idle' out some_pass s b len at within =
      let w : V = waiting v b.drawn in
      let found : get_or s.words 0 0 ≡ b.drawn % 2 ^ 64 = ap (λ l. get_or l 0 0) b.words in
      let sum = total_set (λ (u : V). u.busy) s.views id v w at in
      let order = b.order in (
        w,
        keeps,
        tt,
        record {
          log = b.log;
          drawn = b.drawn + 1;
          served = b.served;
          words = ap (λ l. set l 0 ((get_or s.words 0 0 + 1) % 2 ^ 64)) b.words ∙ ap (λ (n : ℕ). n ∷ b.served % 2 ^ 64 ∷ length b.log ∷ []) (ap (λ (n : ℕ). (n + 1) % 2 ^ 64) found ∙ wrap_next b.drawn (2 ^ 64));
          few = b.few;
          order = omega arith;
          passes = total_same (λ (u : V). u.passes) s.views id v w at refl ∙ b.passes;
          each = each_set (λ j u. Knows first b.log b.served (b.drawn + 1) u) s.views id w
              (let k = b.each id v at in record { passes = omega arith; mine = k.mine; in_turn = λ _. (omega arith, omega arith); within = λ h. absurd (omega arith); acts = k.acts; claims = k.claims; first_is = k.first_is })
              (λ j u ne at'. (let k = b.each j u at' in record { passes = k.passes; mine = k.mine; in_turn = λ h. (let t = k.in_turn h in (t.0, omega arith)); within = k.within; acts = k.acts; claims = k.claims; first_is = k.first_is }));
          apart = apart_set s.views id w b.apart (λ j u ne at' some' _ e. (let t = (b.each j u at').in_turn some' in omega arith));
          once = λ k. total_same (λ (u : V). times k u.acts) s.views id v w at refl ∙ b.once k;
          door = ⊎_elim
              (λ (f : IsFree gives' first b.log s.homes s.views). inl (record { kept = f.kept; home = f.home; notes = f.notes; leads = f.leads; nobody = each_set (λ j (u : V). u.inside ≡ 0) s.views id w refl (λ j u ne at'. f.nobody j u at') }))
              (λ (t : IsTaken s.homes s.views). inr (record { home = t.home; port = t.port; view = t.view; at = set_else s.views id t.port w (λ e. (let same = ap (λ (n : ℕ). get_elem? s.views n) e in let u : V = t.view in let both : some u ≡ some v = sym t.at ∙ same ∙ at in let i = ap (λ (y : V). y.inside) (some-injective u v both) in let has = t.has in omega arith)) ∙ t.at; has = t.has }))
              b.door;
        },
        (b.drawn, refl, found),
      )

  -- so few tickets are waiting that one word names one of them
  ticket_is : (s : State S V) (b : Rule s) (id : ℕ) (v : V) → get_elem? s.views id ≡ some v → 0 < v.busy → b.served % 2 ^ 64 ≡ v.ticket % 2 ^ 64 → v.ticket ≡ b.served
  ticket_is s b id v at some_ticket e =
      let t = (b.each id v at).in_turn some_ticket in
      let le = total_below (λ (u : V). u.busy) (λ (u : V). u.passes) s.views (λ i x at'. (b.each i x at').passes) in
      let few = b.few in let all = b.passes in let order = b.order in
      sym (one_turn b.served v.ticket (2 ^ 64) t.0 (omega arith) e)

  pub look_allows : (slots id : ℕ) (v : V) (c : List (ℕ × S)) → v.busy ≡ 1 → v.inside ≡ 0 → Allows Rule slots id (v, c) 1 (λ n. n) (Looks gives' (step slots 1 0 0 none) (v, c))
  look_allows slots id v c busy' out s b len at within = by_turn (ℕ_discrete (b.served % 2 ^ 64) (v.ticket % 2 ^ 64)) where
    found : get_or s.words 1 0 ≡ b.served % 2 ^ 64
    found = ap (λ l. get_or l 1 0) b.words

    words_same : set s.words 1 (get_or s.words 1 0) ≡ s.words
    words_same = ap (λ l. set l 1 (get_or l 1 0)) b.words ∙ sym b.words

    by_turn : Dec (b.served % 2 ^ 64 ≡ v.ticket % 2 ^ 64)
        → (w : V) × (a : Act S) × Rattle.atomic_table.specs.Table.Valid s.homes c a × Rule (stepped s 1 (get_or s.words 1 0) id c w a) × Looks gives' (step slots 1 0 0 none) (v, c) (get_or s.words 1 0) (w, Rattle.atomic_table.specs.Table.carried_after c a)
    by_turn (no other) = (
      v,
      keeps,
      tt,
      subst Rule (λ i. record { words = sym words_same i; homes = s.homes; views = sym (set_again s.views id v at) i }) b,
      ((λ e. absurd (other (sym found ∙ e))), λ _. refl),
    )
    by_turn (yes turn) =
        let is = ticket_is s b id v at (omega arith) turn in
        ⊎_elim
        (λ (f : IsFree gives' first b.log s.homes s.views).
        let w : V = inside v f.kept.notes.items in (
          w,
          takes 0 (Some f.kept),
          ap (λ hs. get_elem? hs 0) f.home,
          record {
            log = b.log;
            drawn = b.drawn;
            served = b.served;
            words = words_same ∙ b.words;
            few = b.few;
            order = ap (λ (n : ℕ). b.served + n) (total_same (λ (u : V). u.busy) s.views id v w at (sym busy')) ∙ b.order;
            passes = total_same (λ (u : V). u.passes) s.views id v w at refl ∙ b.passes;
            each = each_set (λ j u. Knows first b.log b.served b.drawn u) s.views id w
                (let k = b.each id v at in record { passes = subst (λ (n : ℕ). n ≤ v.passes) busy' k.passes; mine = k.mine; in_turn = λ _. k.in_turn (omega arith); within = λ _. (omega arith, is, f.notes); acts = k.acts; claims = k.claims; first_is = k.first_is })
                (λ j u ne at'. b.each j u at');
            apart = apart_set s.views id w b.apart (λ j u ne at' some' _ e. ne (b.apart j id u v at' at some' (omega arith) e));
            once = λ k. total_same (λ (u : V). times k u.acts) s.views id v w at refl ∙ b.once k;
            door = inr (record { home = ap (λ hs. set hs 0 none) f.home; port = id; view = w; at = set_here s.views id w (in_range s.views id v at); has = refl });
          },
          (
            (λ _. (f.kept, refl, λ h e. subst (λ y. Leads gives' y f.kept.notes.items f.kept.held) (sym ((b.each id v at).first_is h e)) (subst (λ l. Leads gives' first l f.kept.held) (sym f.notes) f.leads))),
            λ other. absurd (other (found ∙ turn)),
          ),
        ))
        (λ (t : IsTaken s.homes s.views).
        let has = t.has in
        let k = (b.each t.port t.view t.at).within (omega arith) in
        let same = b.apart t.port id t.view v t.at at k.0 (omega arith) (k.1 ∙ sym is) in
        let both : some t.view ≡ some v = sym t.at ∙ ap (λ (n : ℕ). get_elem? s.views n) same ∙ at in
        let i = ap (λ (y : V). y.inside) (some-injective t.view v both) in absurd (omega arith))
        b.door

  follows_more : (log before : List N) (note n : N) → Follows log before note → Follows (log ++ n ∷ []) before note
  follows_more log before note n f = (f.0 ++ n ∷ [], ap (λ l. l ++ n ∷ []) f.1 ∙ append_assoc before (note ∷ f.0) (n ∷ []))

  follows_below : (log before : List N) (note : N) → Follows log before note → length before < length log
  follows_below log before note f = let e = ap length f.1 in let l = length-append before (note ∷ f.0) in omega arith

  knows_more : (log : List N) (served drawn : ℕ) (n : N) (u : V) → (0 < u.inside → ⊥) → Knows first log served drawn u → Knows first (log ++ n ∷ []) served drawn u
  knows_more log served drawn n u out k = record {
    passes = k.passes;
    mine = k.mine;
    in_turn = k.in_turn;
    within = λ h. absurd (out h);
    acts = all_map (λ (a : ℕ × N). slice_get log a.0 ≡ Some a.1) (λ (a : ℕ × N). slice_get (log ++ n ∷ []) a.0 ≡ Some a.1) u.acts k.acts (λ a e. get_longer log (n ∷ []) a.0 a.1 e);
    claims = all_map (λ (c : List N × N). Follows log c.0 c.1) (λ (c : List N × N). Follows (log ++ n ∷ []) c.0 c.1) u.claims k.claims (λ c f. follows_more log c.0 c.1 n f);
    first_is = k.first_is;
  }

  -- who is inside is alone there
  alone_inside : (s : State S V) (b : Rule s) (id j : ℕ) (v u : V) → get_elem? s.views id ≡ some v → get_elem? s.views j ≡ some u → 0 < v.inside → 0 < u.inside → j ≡ id
  alone_inside s b id j v u at at' in' in'' =
      let k = (b.each id v at).within in' in
      let l = (b.each j u at').within in'' in
      b.apart j id u v at' at l.0 k.0 (l.1 ∙ sym k.1)

  taken_by : (s : State S V) (b : Rule s) (id : ℕ) (v : V) → get_elem? s.views id ≡ some v → v.inside ≡ 1 → IsTaken s.homes s.views
  taken_by s b id v at in' = ⊎_elim (λ (f : IsFree gives' first b.log s.homes s.views). let none' = f.nobody id v at in absurd (omega arith)) (λ (t : IsTaken s.homes s.views). t) b.door

  pub count_allows : (slots id : ℕ) (v : V) (kept : WithHistory H N) (n : N) → v.inside ≡ 1 → kept.notes.items ≡ v.log ++ n ∷ [] → length kept.notes.items < 2 ^ 64
      → Allows Rule slots id (v, (0, Some kept) ∷ []) 2 (λ m. (m + 1) % 2 ^ 64) (Counts (step slots 2 1 0 none) (v, (0, Some kept) ∷ []))
  count_allows slots id v kept n in' notes small s b len at within =
      let w : V = acted v n in
      let k = b.each id v at in
      let inside' = k.within (omega arith) in
      let same : v.log ≡ b.log = inside'.2 in
      let log' : List N = b.log ++ n ∷ [] in
      let longer : length log' ≡ length b.log + 1 = omega (arith, length-append b.log (n ∷ [])) in
      let found : get_or s.words 2 0 ≡ length b.log = ap (λ l. get_or l 2 0) b.words in
      let number : get_or s.words 2 0 ≡ length v.log = found ∙ sym (ap length same) in
      let fits : length b.log + 1 < 2 ^ 64 = (let a = ap length notes in let c = length-append v.log (n ∷ []) in let d = ap length same in omega arith) in
      let next : (get_or s.words 2 0 + 1) % 2 ^ 64 ≡ length log' = ap (λ (m : ℕ). (m + 1) % 2 ^ 64) found ∙ small_mod (length b.log + 1) fits ∙ sym longer in
      let t = taken_by s b id v at in' in (
        w,
        keeps,
        tt,
        record {
          log = log';
          drawn = b.drawn;
          served = b.served;
          words = ap (λ l. set l 2 ((get_or s.words 2 0 + 1) % 2 ^ 64)) b.words ∙ ap (λ (m : ℕ). b.drawn % 2 ^ 64 ∷ b.served % 2 ^ 64 ∷ m ∷ []) next;
          few = b.few;
          order = ap (λ (m : ℕ). b.served + m) (total_same (λ (u : V). u.busy) s.views id v w at refl) ∙ b.order;
          passes = total_same (λ (u : V). u.passes) s.views id v w at refl ∙ b.passes;
          each = each_set (λ j u. Knows first log' b.served b.drawn u) s.views id w
              (record {
                passes = k.passes;
                mine = λ e. (let p = k.passes in let some' = inside'.0 in absurd (omega arith));
                in_turn = k.in_turn;
                within = λ h. (inside'.0, inside'.1, ap (λ l. l ++ n ∷ []) same);
                acts = All-push (λ (a : ℕ × N). slice_get log' a.0 ≡ Some a.1) v.acts (length v.log, n)
                    (all_map (λ (a : ℕ × N). slice_get b.log a.0 ≡ Some a.1) (λ (a : ℕ × N). slice_get log' a.0 ≡ Some a.1) v.acts k.acts (λ a e. get_longer b.log (n ∷ []) a.0 a.1 e))
                    (ap (λ l. slice_get (b.log ++ n ∷ []) (length l)) same ∙ get_last b.log n);
                claims = All-cons (λ (c : List N × N). Follows log' c.0 c.1) (v.log, n) v.claims ([], ap (λ l. l ++ n ∷ []) (sym same))
                    (all_map (λ (c : List N × N). Follows b.log c.0 c.1) (λ (c : List N × N). Follows log' c.0 c.1) v.claims k.claims (λ c f. follows_more b.log c.0 c.1 n f));
                first_is = k.first_is;
              })
              (λ j u ne at'. knows_more b.log b.served b.drawn n u (λ h. ne (alone_inside s b id j v u at at' (omega arith) h)) (b.each j u at'));
          apart = apart_set s.views id w b.apart (λ j u ne at' some' some'' e. ne (b.apart j id u v at' at some' some'' e));
          once = λ m.
              let sum = total_set (λ (u : V). times m u.acts) s.views id v w at in
              let one = total_append (λ (a : ℕ × N). cond (eqb m a.0) 1 0) v.acts ((length v.log, n) ∷ []) in
              let was = b.once m in
              let more = once_more m (length b.log) in
              let e : cond {A = ℕ} (eqb m (length v.log)) 1 0 ≡ cond (eqb m (length b.log)) 1 0 = ap (λ (i : ℕ). cond {A = ℕ} (eqb m i) 1 0) (ap length same) in
              let f : once_below m (length log') ≡ once_below m (length b.log + 1) = ap (once_below m) longer in omega arith;
          door = inr (record { home = t.home; port = id; view = w; at = set_here s.views id w (in_range s.views id v at); has = in' });
        },
        (
          kept,
          n,
          refl,
          notes,
          refl,
          number,
          all_map (λ (a : ℕ × N). slice_get b.log a.0 ≡ Some a.1) (λ (a : ℕ × N). a.0 < get_or s.words 2 0) v.acts k.acts (λ a e. let below = get_below b.log a.0 a.1 e in omega arith),
          all_map (λ (c : List N × N). Follows b.log c.0 c.1) (λ (c : List N × N). length c.0 < get_or s.words 2 0) v.claims k.claims (λ c f. let below = follows_below b.log c.0 c.1 f in omega arith),
        ),
      )

  pub serve_allows : (slots id : ℕ) (v : V) (kept : WithHistory H N) (h : H) → v.busy ≡ 1 → v.inside ≡ 1 → kept.notes.items ≡ v.log → v.first ≡ Some h → Leads gives' h kept.notes.items kept.held
      → Allows Rule slots id (v, (0, Some kept) ∷ []) 1 (λ m. (m + 1) % 2 ^ 64) (Serves (step slots 1 1 0 none) (v, (0, Some kept) ∷ []))
  serve_allows slots id v kept h busy' in' notes is leads s b len at within =
      let w : V = idle v.passes v.acts v.claims v.first in
      let k = b.each id v at in
      let inside' = k.within (omega arith) in
      let found : get_or s.words 1 0 ≡ b.served % 2 ^ 64 = ap (λ l. get_or l 1 0) b.words in
      let sum = total_set (λ (u : V). u.busy) s.views id v w at in
      let order = b.order in
      let t = taken_by s b id v at in' in
      let logs : kept.notes.items ≡ b.log = notes ∙ inside'.2 in
      let apart' : (j : ℕ) (u : V) → j ≢ id → get_elem? s.views j ≡ some u → 0 < u.busy → u.ticket ≢ b.served = λ j u ne at' some' e. ne (b.apart j id u v at' at some' (omega arith) (e ∙ sym inside'.1)) in (
        w,
        gives,
        tt,
        record {
          log = b.log;
          drawn = b.drawn;
          served = b.served + 1;
          words = ap (λ l. set l 1 ((get_or s.words 1 0 + 1) % 2 ^ 64)) b.words ∙ ap (λ (m : ℕ). b.drawn % 2 ^ 64 ∷ m ∷ length b.log ∷ []) (ap (λ (m : ℕ). (m + 1) % 2 ^ 64) found ∙ wrap_next b.served (2 ^ 64));
          few = b.few;
          order = omega arith;
          passes = total_same (λ (u : V). u.passes) s.views id v w at refl ∙ b.passes;
          each = each_set (λ j u. Knows first b.log (b.served + 1) b.drawn u) s.views id w
              (record { passes = omega arith; mine = k.mine; in_turn = λ some'. absurd (omega arith); within = λ some'. absurd (omega arith); acts = k.acts; claims = k.claims; first_is = k.first_is })
              (λ j u ne at'. (let l = b.each j u at' in record {
                passes = l.passes;
                mine = l.mine;
                in_turn = λ some'. (let r = l.in_turn some' in let other = apart' j u ne at' some' in (omega arith, r.1));
                within = λ some'. absurd (ne (alone_inside s b id j v u at at' (omega arith) some'));
                acts = l.acts;
                claims = l.claims;
                first_is = l.first_is;
              }));
          apart = apart_set s.views id w b.apart (λ j u ne at' some' some'' e. absurd (omega arith));
          once = λ m. total_same (λ (u : V). times m u.acts) s.views id v w at refl ∙ b.once m;
          door = inl (record {
            kept = kept;
            home = ap (λ hs. set hs 0 (some (Some kept))) t.home;
            notes = logs;
            leads = subst (λ y. Leads gives' y b.log kept.held) (k.first_is h is) (subst (λ l. Leads gives' h l kept.held) logs leads);
            nobody = each_set (λ j (u : V). u.inside ≡ 0) s.views id w refl (λ j u ne at'. outside u (λ some'. ne (alone_inside s b id j v u at at' (omega arith) some')) (ℕ_discrete u.inside 0));
          });
        },
        refl,
      ) where
        outside : (u : V) → (0 < u.inside → ⊥) → Dec (u.inside ≡ 0) → u.inside ≡ 0
        outside u never (yes e) = e
        outside u never (no some') = absurd (never (omega arith))

  -- what stays where views without a ticket change places
  record Quiet (log : List N) (drawn served : ℕ) (homes : _) (views : List V) : Type 0 where
    order : served + total (λ (v : V). v.busy) views ≡ drawn
    each : (port : ℕ) (v : V) → get_elem? views port ≡ some v → Knows first log served drawn v
    apart : (i j : ℕ) (v w : V) → get_elem? views i ≡ some v → get_elem? views j ≡ some w → 0 < v.busy → 0 < w.busy → v.ticket ≡ w.ticket → i ≡ j
    door : IsFree gives' first log homes views ⊎ IsTaken homes views

  knows_idle : (log : List N) (served drawn p : ℕ) (acts : List (ℕ × N)) (claims : List (List N × N)) (f : Option H) → (p ≡ 0 → acts ≡ []) → All (λ (a : ℕ × N). slice_get log a.0 ≡ Some a.1) acts
      → All (λ (c : List N × N). Follows log c.0 c.1) claims → ((h : H) → f ≡ Some h → h ≡ first) → Knows first log served drawn (idle p acts claims f)
  knows_idle log served drawn p acts claims f mine a c is = record { passes = omega arith; mine = mine; in_turn = λ h. absurd (omega arith); within = λ h. absurd (omega arith); acts = a; claims = c; first_is = is }

  quiet_set : (log : List N) (drawn served : ℕ) (homes : _) (views : List V) (id : ℕ) (v w : V) → get_elem? views id ≡ some v → v.busy ≡ 0 → v.inside ≡ 0 → w.busy ≡ 0 → w.inside ≡ 0 → Knows first log served drawn w
      → Quiet log drawn served homes views → Quiet log drawn served homes (set views id w)
  quiet_set log drawn served homes views id v w at b0 i0 b1 i1 k q = record {
    order = ap (λ (n : ℕ). served + n) (total_same (λ (u : V). u.busy) views id v w at (b1 ∙ sym b0)) ∙ q.order;
    each = each_set (λ j u. Knows first log served drawn u) views id w k (λ j u ne at'. q.each j u at');
    apart = apart_set views id w q.apart (λ j u ne at' s s' e. absurd (omega arith));
    door = ⊎_elim
        (λ (f : IsFree gives' first log homes views). inl (record { kept = f.kept; home = f.home; notes = f.notes; leads = f.leads; nobody = each_set (λ j (u : V). u.inside ≡ 0) views id w i1 (λ j u ne at'. f.nobody j u at') }))
        (λ (t : IsTaken homes views). inr (record { home = t.home; port = t.port; view = t.view; at = set_else views id t.port w (λ e. (let both : some t.view ≡ some v = sym t.at ∙ ap (λ (n : ℕ). get_elem? views n) e ∙ at in let i = ap (λ (y : V). y.inside) (some-injective t.view v both) in let has = t.has in omega arith)) ∙ t.at; has = t.has }))
        q.door;
  }

  get_old : {A : Type 0} (xs : List A) (y : A) (i : ℕ) (x : A) → get_elem? xs i ≡ some x → get_elem? (xs ++ y ∷ []) i ≡ some x
  get_old [] y i x e = absurd (some-ne-none x (sym e))
  get_old (z ∷ zs) y zero x e = e
  get_old (z ∷ zs) y (suc i) x e = get_old zs y i x e

  quiet_snoc : (log : List N) (drawn served : ℕ) (homes : _) (views : List V) (w : V) → w.busy ≡ 0 → w.inside ≡ 0 → Knows first log served drawn w → Quiet log drawn served homes views → Quiet log drawn served homes (views ++ w ∷ [])
  quiet_snoc log drawn served homes views w b0 i0 k q = record {
    order = (let s = total_append (λ (u : V). u.busy) views (w ∷ []) in let o = q.order in omega arith);
    each = λ j u at. ⊎_elim (λ (t : get_elem? views j ≡ some u). q.each j u t) (λ (t : w ≡ u). subst (Knows first log served drawn) t k) (at_snoc views w u j at);
    apart = λ i j v u at at' s s' e. ⊎_elim
        (λ (t : get_elem? views i ≡ some v). ⊎_elim (λ (r : get_elem? views j ≡ some u). q.apart i j v u t r s s' e) (λ (r : w ≡ u). (let z = ap (λ (y : V). y.busy) r in absurd (omega arith))) (at_snoc views w u j at'))
        (λ (t : w ≡ v). (let z = ap (λ (y : V). y.busy) t in absurd (omega arith))) (at_snoc views w v i at);
    door = ⊎_elim
        (λ (f : IsFree gives' first log homes views). inl (record {
          kept = f.kept;
          home = f.home;
          notes = f.notes;
          leads = f.leads;
          nobody = λ j u at. ⊎_elim (λ (t : get_elem? views j ≡ some u). f.nobody j u t) (λ (t : w ≡ u). ap (λ (y : V). y.inside) (sym t) ∙ i0) (at_snoc views w u j at);
        }))
        (λ (t : IsTaken homes views). inr (record { home = t.home; port = t.port; view = t.view; at = get_old views w t.port t.view t.at; has = t.has }))
        q.door;
  }

  quiet : (s : State S V) (b : Rule s) → Quiet b.log b.drawn b.served s.homes s.views
  quiet s b = record { order = b.order; each = b.each; apart = b.apart; door = b.door }

  booked : (s : State S V) (b : Rule s) (views : List V) → Quiet b.log b.drawn b.served s.homes views → total (λ (v : V). v.passes) views ≡ about.passes → ((k : ℕ) → total (λ (v : V). times k v.acts) views ≡ once_below k (length b.log))
      → Rule record { words = s.words; homes = s.homes; views = views }
  booked s b views q p o = record { log = b.log; drawn = b.drawn; served = b.served; words = b.words; few = b.few; order = q.order; passes = p; each = q.each; apart = q.apart; once = o; door = q.door }

  -- a view without a ticket is cut in two
  splits : (id : ℕ) (v left right : V) → v.busy ≡ 0 → v.inside ≡ 0 → left.busy ≡ 0 → left.inside ≡ 0 → right.busy ≡ 0 → right.inside ≡ 0
      → ((log : List N) (served drawn : ℕ) → Knows first log served drawn v → Knows first log served drawn left × Knows first log served drawn right)
      → left.passes + right.passes ≡ v.passes → ((k : ℕ) → times k left.acts + times k right.acts ≡ times k v.acts) → Splits Rule id v left right
  splits id v left right b0 i0 b1 i1 b2 i2 knows passes acts s b at =
      let k = knows b.log b.served b.drawn (b.each id v at) in
      booked s b (set s.views id left ++ right ∷ [])
      (quiet_snoc b.log b.drawn b.served s.homes (set s.views id left) right b2 i2 k.1 (quiet_set b.log b.drawn b.served s.homes s.views id v left at b0 i0 b1 i1 k.0 (quiet s b)))
      (let a = total_append (λ (u : V). u.passes) (set s.views id left) (right ∷ []) in let c = total_set (λ (u : V). u.passes) s.views id v left at in let d = b.passes in omega arith)
      (λ m. (let a = total_append (λ (u : V). times m u.acts) (set s.views id left) (right ∷ []) in let c = total_set (λ (u : V). times m u.acts) s.views id v left at in let d = b.once m in let e = acts m in omega arith))

  pub deals : (id : ℕ) (p : ℕ) (f : Option H) → 0 < p → Splits Rule id (idle p [] [] f) (idle (p - 1) [] [] f) (idle 1 [] [] f)
  deals id p f some_pass = splits id (idle p [] [] f) (idle (p - 1) [] [] f) (idle 1 [] [] f) refl refl refl refl refl refl
      (λ log served drawn k. (knows_idle log served drawn (p - 1) [] [] f (λ _. refl) k.acts k.claims k.first_is, knows_idle log served drawn 1 [] [] f (λ _. refl) k.acts k.claims k.first_is))
      (omega arith) (λ k. refl)

  first_all : {A : Type 0} (P : A → Type 0) (xs : List A) → All P xs → All P (first_of xs)
  first_all P [] a = a
  first_all P (x ∷ xs) a = All-cons P x [] (All-head P x xs a) (All-nil P)

  pub claims' : (id : ℕ) (v : V) → v.busy ≡ 0 → v.inside ≡ 0 → Splits Rule id v v (idle 0 [] (first_of v.claims) v.first)
  claims' id v b0 i0 = splits id v v (idle 0 [] (first_of v.claims) v.first) b0 i0 b0 i0 refl refl
      (λ log served drawn k. (k, knows_idle log served drawn 0 [] (first_of v.claims) v.first (λ _. refl) (All-nil (λ (a : ℕ × N). slice_get log a.0 ≡ Some a.1)) (first_all (λ (c : List N × N). Follows log c.0 c.1) v.claims k.claims) k.first_is))
      (omega arith) (λ k. omega arith)

  pub gathers : (id : ℕ) (v : V) (other : ℕ) (w : V) → v.busy ≡ 0 → v.inside ≡ 0 → w.busy ≡ 0 → w.inside ≡ 0
      → Joins Rule id v other w (idle (v.passes + w.passes) (v.acts ++ w.acts) (w.claims ++ v.claims) v.first) (idle 0 [] [] None)
  gathers id v other w b0 i0 b1 i1 s b at ne at' =
      let both : V = idle (v.passes + w.passes) (v.acts ++ w.acts) (w.claims ++ v.claims) v.first in
      let spent : V = idle 0 [] [] None in
      let was : get_elem? s.views other ≡ some w = ⊎_elim (λ (t : (other ≡ id) × (both ≡ w)). absurd (ne t.0)) (λ (t : (other ≢ id) × (get_elem? s.views other ≡ some w)). t.1) (at_set s.views id other both w at') in
      let k = b.each id v at in
      let l = b.each other w was in
      let kb = knows_idle b.log b.served b.drawn (v.passes + w.passes) (v.acts ++ w.acts) (w.claims ++ v.claims) v.first
      (λ e. ap (λ l. l ++ w.acts) (k.mine (omega arith)) ∙ l.mine (omega arith))
      (All-append (λ (a : ℕ × N). slice_get b.log a.0 ≡ Some a.1) v.acts w.acts k.acts l.acts) (All-append (λ (c : List N × N). Follows b.log c.0 c.1) w.claims v.claims l.claims k.claims) k.first_is in
      let ks = knows_idle b.log b.served b.drawn 0 [] [] None (λ _. refl) (All-nil (λ (a : ℕ × N). slice_get b.log a.0 ≡ Some a.1)) (All-nil (λ (c : List N × N). Follows b.log c.0 c.1)) (λ h e. absurd (cc)) in
      booked s b (set (set s.views id both) other spent)
      (quiet_set b.log b.drawn b.served s.homes (set s.views id both) other w spent at' b1 i1 refl refl ks (quiet_set b.log b.drawn b.served s.homes s.views id v both at b0 i0 refl refl kb (quiet s b)))
      (let a = total_set (λ (u : V). u.passes) (set s.views id both) other w spent at' in let c = total_set (λ (u : V). u.passes) s.views id v both at in let d = b.passes in omega arith)
      (λ m. (let a = total_set (λ (u : V). times m u.acts) (set s.views id both) other w spent at' in let c = total_set (λ (u : V). times m u.acts) s.views id v both at in let d = b.once m in
      let e = total_append (λ (x : ℕ × N). cond (eqb m x.0) 1 0) v.acts w.acts in omega arith))

  pub begins : (kept : WithHistory H N) → kept.notes.items ≡ [] → kept.held ≡ first → about.passes < 2 ^ 64 → Rule (opening (0 ∷ 0 ∷ 0 ∷ []) (Some kept ∷ []) (idle about.passes [] [] (Some first)))
  begins kept notes held few = record {
    log = [];
    drawn = 0;
    served = 0;
    words = refl;
    few = few;
    order = refl;
    passes = omega arith;
    each = only (λ u. Knows first [] 0 0 u) (idle about.passes [] [] (Some first)) (knows_idle [] 0 0 about.passes [] [] (Some first) (λ _. refl) (All-nil (λ (a : ℕ × N). slice_get [] a.0 ≡ Some a.1)) (All-nil (λ (c : List N × N). Follows [] c.0 c.1)) (λ h e. cc));
    apart = λ i j v u at at' b c e. only_index i j v u at at';
    once = λ k. none_below k;
    door = inl (record { kept = kept; home = refl; notes = notes; leads = sym held; nobody = only (λ u. u.inside ≡ 0) (idle about.passes [] [] (Some first)) refl });
  } where
    only : (P : V → Type 0) (w : V) → P w → (j : ℕ) (u : V) → get_elem? (w ∷ []) j ≡ some u → P u
    only P w p zero u at = subst P (some-injective w u at) p
    only P w p (suc j) u at = absurd (some-ne-none u (sym at))

    only_index : (i j : ℕ) (v u : V) → get_elem? (idle about.passes [] [] (Some first) ∷ []) i ≡ some v → get_elem? (idle about.passes [] [] (Some first) ∷ []) j ≡ some u → i ≡ j
    only_index zero zero v u at at' = refl
    only_index zero (suc j) v u at at' = absurd (some-ne-none u (sym at'))
    only_index (suc i) j v u at at' = absurd (some-ne-none v (sym at))

    none_below : (k : ℕ) → 0 + 0 ≡ once_below k 0
    none_below k = grind (arith, nat_tests)
