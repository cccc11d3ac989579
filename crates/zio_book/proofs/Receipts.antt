-- Receipts and what a seat learns of them.
use Rattle.std.proofs.Common.{◌≡◌, ◌+◌, List, [], ◌∷◌, ◌++◌, sym, ap, ◌∙◌, arith, Some, Option}
use Rattle.std.proofs.lemmas.List.{append-nil}
use Rattle.atomic_table.specs.declared.shared.Seat.{Seat}
use Rattle.atomic_table.specs.Table.{Me}
use Rattle.zio_book.specs.declared.book.Book.{Book}
use Rattle.zio_book.specs.declared.book.Receipt.{Receipt}
use Rattle.zio_book.specs.declared.view.View.{View}
use Rattle.zio_book.specs.declared.view.WithHistory.{WithHistory}
use Rattle.zio_book.specs.Rule.{idle, first_of}
use Rattle.zio_book.specs.Books.{IsSeatOf, IsReceipt, IsReceiptOf, IsSameReceipt, Claims, first_state}

module _ {H C R N : Type 0} (gives : H → N → H → Type 0) (book : Book H C R N) where
  abbrev V : Type 0
  V = View H N

  pub one_view : (views : List V) (v w : V) → views ≡ v ∷ [] → views ≡ w ∷ [] → v ≡ w
  one_view views v w e f = let g : ◌≡◌ {A = List V} (v ∷ []) (w ∷ []) = sym e ∙ f in cc

  -- the view of a receipt's seat
  pub receipt_view : (receipt : Receipt H C R N) (v : V) (before : List N) (note : N) → receipt.badge.views ≡ v ∷ [] → IsReceipt book receipt before note → v ≡ idle 0 [] ((before, note) ∷ []) (Some (first_state book))
  receipt_view receipt v before note e is = one_view receipt.badge.views v (idle 0 [] ((before, note) ∷ []) (Some (first_state book))) e is.claim

  pub receipt_busy : (receipt : Receipt H C R N) (v : V) → receipt.badge.views ≡ v ∷ [] → IsReceiptOf book receipt → (v.busy ≡ 0) × (v.inside ≡ 0)
  receipt_busy receipt v e is = let w = receipt_view receipt v is.0 is.1 e is.2 in (ap (λ (u : V). u.busy) w, ap (λ (u : V). u.inside) w)

  pub same_receipt : (a b : Receipt H C R N) (v : V) → a.badge.views ≡ v ∷ [] → b.number ≡ a.number → b.badge.table_id ≡ a.badge.table_id → b.badge.views ≡ v ∷ [] → IsSameReceipt book a b
  same_receipt a b v e number table views = (
    number,
    λ before note is. record { table = table ∙ is.table; claim = views ∙ sym e ∙ is.claim; number = is.number ∙ sym number },
  )

  pub copied : (a b : Receipt H C R N) (v : V) → a.badge.views ≡ v ∷ [] → b.number ≡ a.number → b.badge.table_id ≡ a.badge.table_id → b.badge.views ≡ idle 0 [] (first_of v.claims) v.first ∷ [] → IsSameReceipt book a b
  copied a b v e number table views = (
    number,
    λ before note is.
        let w = receipt_view a v before note e is in
        record { table = table ∙ is.table; claim = views ∙ ap (λ (u : V). idle 0 [] (first_of u.claims) u.first ∷ []) w; number = is.number ∙ sym number },
  )

  abbrev S : Type 0
  S = Option (WithHistory H N)

  module _ (receipt : Receipt H C R N) (w : V) (old new : Seat S V) (e : receipt.badge.views ≡ w ∷ []) (of : IsReceiptOf book receipt) (is : IsSeatOf book old.me.0.passes old) (table : new.table_id ≡ old.table_id)
      (me : new.me ≡ (idle (old.me.0.passes + w.passes) (old.me.0.acts ++ w.acts) (w.claims ++ old.me.0.claims) old.me.0.first, old.me.1)) where
    learned_view : new.me ≡ (idle old.me.0.passes old.me.0.acts ((of.0, of.1) ∷ old.me.0.claims) (Some (first_state book)), [])
    learned_view =
        let u = receipt_view receipt w of.0 of.1 e of.2 in
        let z : old.me.0.passes + 0 ≡ old.me.0.passes = omega arith in
        let n : old.me.0.acts ++ [] ≡ old.me.0.acts = append-nil old.me.0.acts in
        let f : old.me.0.first ≡ Some (first_state book) = ap (λ (v : V). v.first) is.view in
        me ∙ ap (λ (y : V). (idle (old.me.0.passes + y.passes) (old.me.0.acts ++ y.acts) (y.claims ++ old.me.0.claims) old.me.0.first, old.me.1)) u
        ∙ (λ i. (idle (z i) (n i) ((of.0, of.1) ∷ old.me.0.claims) (f i), is.free i))

    pub learned_seat : IsSeatOf book old.me.0.passes new × (new.me.0.acts ≡ old.me.0.acts)
    learned_seat = (
      record {
        table = table ∙ is.table;
        free = ap (λ (m : Me S V). m.1) learned_view;
        view = ap (λ (m : Me S V). m.0) learned_view ∙ ap (λ (m : Me S V). idle old.me.0.passes m.0.acts m.0.claims (Some (first_state book))) (sym learned_view);
      },
      ap (λ (m : Me S V). m.0.acts) learned_view,
    )

    pub learned_claims : Claims book receipt old.me.0.claims new.me.0.claims
    learned_claims before note r =
        let u = receipt_view receipt w of.0 of.1 e of.2 in
        let t = receipt_view receipt w before note e r in
        let c : ◌≡◌ {A = List (List N × N)} ((of.0, of.1) ∷ []) ((before, note) ∷ []) = ap (λ (y : V). y.claims) (sym u ∙ t) in
        ap (λ (m : Me S V). m.0.claims) learned_view ∙ ap (λ (l : List (List N × N)). l ++ old.me.0.claims) c
