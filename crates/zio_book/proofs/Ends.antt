-- How a book begins and ends.
use Rattle.std.proofs.Common.{◌≡◌, ◌≢◌, ℕ, ◌-◌, ◌<◌, List, [], length, sym, ap, ◌∙◌, ⊎_elim, arith, subst, Some, Option}
use mathlib.Core.Option.{some, some-injective}
use lib.ListN.{get_elem?}
use Rattle.atomic_table.specs.Table.{Splits, Final, Seen}
use Rattle.zio_book.specs.declared.book.Book.{Book}
use Rattle.zio_book.specs.declared.view.View.{View}
use Rattle.zio_book.specs.declared.view.WithHistory.{WithHistory}
use Rattle.zio_book.specs.History.{Leads, AllFollow, times, once_below}
use Rattle.zio_book.specs.Rule.{idle, IsFree, IsTaken, Booked}
use Rattle.zio_book.specs.Books.{StandsAt, first_state, passes_of}
use Rattle.zio_book.proofs.Sums.{two_of, alone}
use Rattle.zio_book.proofs.Steps.{deals}

module _ {H C R N : Type 0} (gives : H → N → H → Type 0) (book : Book H C R N) where
  abbrev V : Type 0
  V = View H N

  abbrev S : Type 0
  S = Option (WithHistory H N)

  pub deal_seat : (id : ℕ) (v : V) (p : ℕ) → v ≡ idle p [] [] (Some (first_state book)) → 0 < p → Splits (Booked gives book.table.shared.key) id v (idle (v.passes - 1) [] [] v.first) (idle 1 [] [] v.first)
  deal_seat id v p e some_pass = subst (λ (u : V). Splits (Booked gives book.table.shared.key) id u (idle (u.passes - 1) [] [] u.first) (idle 1 [] [] u.first)) (sym e) (deals gives book.table.shared.key id p (Some (first_state book)) some_pass)

  -- what is left once all passes are in one seat
  pub record Ended (v : V) (slots : List S) : Type 0 where
    pub kept : WithHistory H N
    pub slot : get_elem? slots 0 ≡ some (Some kept)
    pub leads : Leads gives (first_state book) kept.notes.items kept.held
    pub once : (k : ℕ) → times k v.acts ≡ once_below k (length kept.notes.items)
    pub acts : StandsAt kept.notes.items v.acts
    pub claims : AllFollow kept.notes.items v.claims

  pub ended : (id : ℕ) (v : V) (ws : List ℕ) (slots : List S) → v.passes ≡ passes_of book → v.inside ≡ 0 → Final (Seen (Booked gives book.table.shared.key) id v) ws slots → Ended v slots
  ended id v ws slots whole out f =
      let s = f.0 in
      let b = f.1.0 in
      let at = f.1.1 in
      let k = b.each id v at in
      ⊎_elim
      (λ (free : IsFree gives (first_state book) b.log s.homes s.views). record {
        kept = free.kept;
        slot = f.4 0 (Some free.kept) (ap (λ hs. get_elem? hs 0) free.home);
        leads = subst (λ l. Leads gives (first_state book) l free.kept.held) (sym free.notes) free.leads;
        once = λ n. sym (alone (λ (u : V). times n u.acts) (λ (u : V). u.passes) s.views id v at (b.passes ∙ sym whole) (λ j u at' e. ap (times n) ((b.each j u at').mine e))) ∙ b.once n ∙ ap (λ l. once_below n (length l)) (sym free.notes);
        acts = subst (λ l. StandsAt l v.acts) (sym free.notes) k.acts;
        claims = subst (λ l. AllFollow l v.claims) (sym free.notes) k.claims;
      })
      (λ (taken : IsTaken s.homes s.views).
      let u = taken.view in
      let l = b.each taken.port u taken.at in
      let has = taken.has in
      let within = l.within (omega arith) in
      let enough = l.passes in
      let same : taken.port ≢ id = λ e. (let both : some u ≡ some v = sym taken.at ∙ ap (λ (n : ℕ). get_elem? s.views n) e ∙ at in let i = ap (λ (y : V). y.inside) (some-injective u v both) in omega arith) in
      let two = two_of (λ (y : V). y.passes) s.views id taken.port v u at taken.at same in
      let all = b.passes in absurd (omega arith))
      b.door

pub same_kept : {H N : Type 0} (k l : WithHistory H N) → ◌≡◌ {A = Option (WithHistory H N)} (Some k) (Some l) → k ≡ l
same_kept k l e = cc
