-- A body and a gang that were placed without error, each with its pointer, its headers and a write of each piece.
use Rattle.std.proofs.Common.{◌≡◌, ℕ, suc, ◌≤◌, List, [], ◌∷◌, ◌++◌, length, map, true, false, Option, Some, None, IsTrue, refl, sym, ap, ◌∙◌, subst, append_assoc, append-nil, arith}
use Rattle.std.specs.Prelude.{slice_index_or}
use Rattle.std.proofs.lemmas.List.{length-map}
use Rattle.std.proofs.lemmas.Slice.Eq.{bytes_eq-Decides}
use Rattle.std.specs.List.{AllByRecursion}
use Rattle.zio_types.specs.declared.error.Errno.{Errno}
use Rattle.zio_types.specs.declared.place.Place.{Place}
use Rattle.zio_types.specs.Choices.{Ask, Choice, no_place}
use Rattle.zio_types.specs.Filled.{filled_to}
use Rattle.zio_blkptr.specs.declared.pointer.Bp.{Bp}
use Rattle.zio_blkptr.specs.declared.pointer.SumKind.{SumKind}
use Rattle.zio_blkptr.specs.declared.pointer.SumKind.TheVariants.{Off, Fletcher4, Sha256}
use Rattle.zio_blkptr.specs.Pointers.{FitsTypes, places_of, valid}
use Rattle.zio_cksum.specs.Blocks.{good_kept}
use Rattle.zio_cksum.specs.Headers.{header_of, members_max, members_of, split_sizes}
use Rattle.zio_cksum.specs.Sums.{fits, fletcher4, sha256_words, sum_of}
use Rattle.zio_cksum.proofs.AllLemmas.{all_append, all_contains, all_weaker}
use Rattle.zio_cksum.proofs.HeaderLemmas.{named_law}
use Rattle.zio_cksum.proofs.SplitLemmas.{few_law}
use Rattle.zio_gang.specs.declared.tree.Head.{Head}
use Rattle.zio_gang.specs.Attempts.{Pending, Terms, writing_of}
use Rattle.zio_gang.specs.Trees.{kept_at, sizes_of}
use Rattle.zio_gang.specs.Writes.{Writing, body_ask, chosen, head_ask, pointer_to}
use Rattle.zio_trace.specs.Plans.{Kin, gang_stored, header_over}
use Rattle.zio_trace.specs.Programs.{Deed}
use Rattle.zio_trace.specs.RoundTraces.{Trace}
use Rattle.zio_trace.specs.Tasks.{Find, Stored, Task, Value, WriteCopies, Wrote}
use Rattle.zio_trace.specs.TreeOrders.{Pairs}
use Rattle.zio_trace.proofs.BlockPieces.{longer_differs}
use Rattle.zio_trace.proofs.ChoiceLemmas.{Answers}
use Rattle.zio_trace.proofs.PlaceLemmas.{DontMeet}
use Rattle.zio_trace.proofs.SpotLemmas.{NoneTouch}
use Rattle.zio_heal.specs.Contents.{HasPieces, HaveBytes}
use Rattle.zio_heal.specs.Pools.{IsBlockSize, IsPool, IsWriting}
use Rattle.zio_heal.proofs.HeaderLemmas.{header_long}
use Rattle.zio_heal.proofs.PieceLemmas.{body_piece, bytes_weaker, gang_pieces, kept_first, kept_other, pieces_weaker}
use Rattle.zio_heal.proofs.PlacedParts.{AreMembersWritten, IsHeadBelow, IsHeadFrom, IsPartWritten}
use Rattle.zio_heal.proofs.PlacedPlaces.{AreOwn, IsFoundAt, all_found, own_first, own_gang, pointers_in}
use Rattle.zio_heal.proofs.PointerLemmas.{AreFound, IsSpelled, found_for, places_of_pointer, spelled}
use Rattle.zio_heal.proofs.WrittenPieces.{AreUsable, AtMember, IsAt, IsWrittenIn, WritesAt, all_writes, asks_apart, found_usable, member_at, written_more}

sum_good : (kind : SumKind) (bytes : List ℕ) → fits kind (sum_of kind bytes) bytes ≡ true
sum_good Off bytes = refl
sum_good Fletcher4 bytes = (bytes_eq-Decides (fletcher4 bytes) (fletcher4 bytes)).1 refl
sum_good Sha256 bytes = (bytes_eq-Decides (sha256_words bytes) (sha256_words bytes)).1 refl

kept_good : (kept : Option (List ℕ)) (header : List ℕ) → kept ≡ Some header → good_kept kept header ≡ true
kept_good kept header e = ap (λ (k : Option (List ℕ)). good_kept k header) e ∙ (bytes_eq-Decides header header).1 refl

head_below : (path : List ℕ) (n : ℕ) (h : Head) → IsHeadFrom path n h → IsHeadBelow path h
head_below path n h k = record { below = k.number ∷ k.below; at = k.at ∙ append_assoc path (k.number ∷ []) k.below }

-- the write of a piece
abbrev pub wrote_to : List ℕ → List Place → Deed Task Value
wrote_to bytes places = record { op = WriteCopies bytes places; answer = Wrote None }

module _ (journal : List Choice) (t : Terms) (p : Pending) (sizes : ℕ → ℕ) (pool : IsPool sizes t.setting.tops) (answers : Answers journal (sizes_of t.setting.tops) t.used t.round)
    (attempt : ℕ) (sum_kind : SumKind) (copies : ℕ) (writing : IsWriting p copies) where
  abbrev w : Writing
  w = writing_of t attempt p sum_kind copies

  -- an ask for places comes first
  pub asked_first : (levels : ℕ) (path bytes : List ℕ) (a : Ask) (v : Value) (ds : Trace) (st : Stored) → IsPartWritten journal t p levels path bytes ds st → IsPartWritten journal t p levels path bytes (record { op = Find a; answer = v } ∷ ds) st
  asked_first levels path bytes a v ds st h =
      let d : Deed Task Value = record { op = Find a; answer = v } in
      record {
        bp = h.bp;
        pointer = h.pointer;
        can_spell = h.can_spell;
        size = h.size;
        writes = (tt, h.writes);
        heads = h.heads;
        places = h.places;
        pieces = λ heads keep.
            pieces_weaker (IsWrittenIn t (IsAt journal t p path) ds) (IsWrittenIn t (IsAt journal t p path) (d ∷ ds))
            (λ c bs k. subst (λ (xs : Trace). IsWrittenIn t (IsAt journal t p path) (d ∷ xs) c bs) (append-nil ds)
            (written_more t (IsAt journal t p path) (IsAt journal t p path) (d ∷ []) ds [] c bs (λ at. at) (λ at. tt) k))
            levels heads path h.bp bytes (h.pieces heads keep);
      }

  -- a part whose copies were written
  pub body_written : (levels : ℕ) (path bytes : List ℕ) (places : List Place) → IsBlockSize (length bytes) → chosen journal (body_ask w path bytes) ≡ Some places
      → IsPartWritten journal t p levels path bytes (wrote_to bytes places ∷ []) (record { error = None; pointer = Some (pointer_to w places false bytes); heads = [] })
  body_written levels path bytes places block is =
      let bp : Bp = pointer_to w places false bytes in
      let there : places_of bp ≡ places = places_of_pointer w places false bytes in
      let here : IsAt journal t p path places = record { ask = body_ask w path bytes; below = []; request = refl; now = refl; at = sym (append-nil path); found = is } in
      let found : AreFound (sizes_of t.setting.tops) (length bytes) places =
      found_for journal (sizes_of t.setting.tops) t.used t.round answers (body_ask w path bytes) places refl writing.one writing.three is in
      let can_spell : IsSpelled bp = spelled sizes t.setting.tops w places false bytes (length bytes) pool found refl block writing.some writing.born in
      let usable : AreUsable t.setting (length bytes) places = found_usable journal t sizes pool answers (body_ask w path bytes) places refl writing.one writing.three block.whole is in
      record {
        bp = bp;
        pointer = refl;
        can_spell = can_spell;
        size = refl;
        writes = (here, tt);
        heads = tt;
        places = own_first (IsFoundAt journal t p path) bp [] can_spell.ok (subst (AllByRecursion (IsFoundAt journal t p path)) (sym there) (all_found journal t p path places here)) (subst (Pairs DontMeet) (sym there) usable.own)
            (record { ok = tt; found = tt; own = tt }) (λ a b ca cb. absurd (all_contains (λ (q : Place). ⊥) [] b tt cb));
        pieces = λ heads keep. body_piece (IsWrittenIn t (IsAt journal t p path) (wrote_to bytes places ∷ [])) levels heads path bp bytes refl (record {
          front = [];
          rest = [];
          is = ap (λ (qs : List Place). wrote_to bytes qs ∷ []) (sym there);
          is_good = record { size = refl; good = sum_good sum_kind bytes };
          at = subst (IsAt journal t p path) (sym there) here;
          some = subst (λ (qs : List Place). 1 ≤ length qs) (sym there) found.one;
          usable = subst (AreUsable t.setting (length bytes)) (sym there) usable;
          later = tt;
        });
      }

  -- a gang's header lies at other places than its members
  clear_of_head : (path : List ℕ) (places qs : List Place) → chosen journal (head_ask w path) ≡ Some places → AtMember journal t p path 0 qs → NoneTouch qs places
  clear_of_head path places qs is m =
      asks_apart journal t sizes pool answers m.there.ask (head_ask w path) qs places m.there.now refl
      (λ same. longer_differs path m.there.below m.number (sym same.path ∙ m.there.at)) m.there.found is

  -- a gang whose members were written, and then its header
  pub gang_written : (levels : ℕ) (path bytes : List ℕ) (places : List Place) (ds : Trace) (k : Kin) (error : Option Errno) → IsBlockSize (length bytes) → chosen journal (head_ask w path) ≡ Some places
      → AreMembersWritten journal t p levels path 0 (split_sizes (length bytes)) bytes ds k
      → IsPartWritten journal t p (suc levels) path bytes (ds ++ wrote_to (header_over w places k) places ∷ []) (gang_stored w path bytes places k error)
  gang_written levels path bytes places ds k error block is members =
      let bp : Bp = pointer_to w places true bytes in
      let header : List ℕ = header_over w places k in
      let place : Place = slice_index_or places 0 no_place in
      let head : Head = record { path = path; bytes = header } in
      let d : Deed Task Value = wrote_to header places in
      let one : 1 ≤ copies = writing.one in
      let there : places_of bp ≡ places = places_of_pointer w places true bytes in
      let here : IsAt journal t p path places = record { ask = head_ask w path; below = []; request = refl; now = refl; at = sym (append-nil path); found = is } in
      let found : AreFound (sizes_of t.setting.tops) 512 places =
      found_for journal (sizes_of t.setting.tops) t.used t.round answers (head_ask w path) places refl (omega arith) (omega arith) is in
      let can_spell : IsSpelled bp = spelled sizes t.setting.tops w places true bytes 512 pool found refl block writing.some writing.born in
      let usable : AreUsable t.setting 512 places = found_usable journal t sizes pool answers (head_ask w path) places refl (omega arith) (omega arith) refl is in
      let few : length members.bps ≤ 3 =
      (let same : length (map (λ (m : Bp). m.size) members.bps) ≡ length (split_sizes (length bytes)) = ap length members.sizes_are in
      omega (arith, length-map members.bps (λ (m : Bp). m.size), few_law (length bytes))) in
      let made : header ≡ header_of (filled_to None members_max (map Some members.bps)) place w.birth =
      ap (λ (ps : List (Option Bp)). header_of (filled_to None members_max ps) place w.birth) members.pointers in
      let names : members_of header ≡ members.bps =
      named_law header place w.birth (length bytes) members.bps (record {
        spelled = made;
        types = all_weaker IsSpelled FitsTypes members.bps (λ m h. h.types) members.can_spell;
        valid = all_weaker IsSpelled (λ m. IsTrue (valid m)) members.bps (λ m h. h.ok) members.can_spell;
        sizes = members.sizes_are;
      }) in
      let long : length header ≡ 512 = ap length made ∙ header_long members.bps place w.birth few members.can_spell in
      record {
        bp = bp;
        pointer = refl;
        can_spell = can_spell;
        size = refl;
        writes = all_append (λ (x : Deed Task Value). WritesAt (IsAt journal t p path) x.op) ds (d ∷ [])
            (all_writes (AtMember journal t p path 0) (IsAt journal t p path) (member_at journal t p path 0) ds members.writes) (here, tt);
        heads = (record { below = []; at = sym (append-nil path) }, all_weaker (IsHeadFrom path 0) (IsHeadBelow path) k.heads (head_below path 0) members.heads);
        places =
            subst (λ (ms : List Bp). AreOwn (IsFoundAt journal t p path) (bp ∷ (ms ++ pointers_in k.heads))) (sym names)
            (own_gang journal t p sizes pool answers path bp places (members.bps ++ pointers_in k.heads) there here can_spell.ok usable.own (λ qs m. clear_of_head path places qs is m) members.places);
        pieces = λ heads keep.
            let kept : kept_at heads path ≡ Some header =
            subst (λ (x : List ℕ). kept_at heads x ≡ kept_at (head ∷ k.heads) x) (append-nil path) (keep []) ∙ kept_first head k.heads in
            gang_pieces (IsWrittenIn t (IsAt journal t p path) (ds ++ d ∷ [])) levels heads path bp bytes refl (record {
              header = header;
              kept = kept;
              own = record {
                front = ds;
                rest = [];
                is = ap (λ (qs : List Place). ds ++ wrote_to header qs ∷ []) (sym there);
                is_good = record { size = long; good = kept_good (kept_at heads path) header kept };
                at = subst (IsAt journal t p path) (sym there) here;
                some = subst (λ (qs : List Place). 1 ≤ length qs) (sym there) found.one;
                usable = subst (AreUsable t.setting 512) (sym there) usable;
                later = tt;
              };
              members =
                  subst (λ (ms : List Bp). HaveBytes (HasPieces (IsWrittenIn t (IsAt journal t p path) (ds ++ d ∷ [])) levels heads) path 0 ms bytes) (sym names)
                  (bytes_weaker (HasPieces (IsWrittenIn t (AtMember journal t p path 0) ds) levels heads) (HasPieces (IsWrittenIn t (IsAt journal t p path) (ds ++ d ∷ [])) levels heads)
                  (pieces_weaker (IsWrittenIn t (AtMember journal t p path 0) ds) (IsWrittenIn t (IsAt journal t p path) (ds ++ d ∷ []))
                  (λ c bs h. written_more t (AtMember journal t p path 0) (IsAt journal t p path) [] ds (d ∷ []) c bs (member_at journal t p path 0 c.places) (λ m. (clear_of_head path places c.places is m, tt)) h)
                  levels heads)
                  path 0 members.bps bytes
                  (members.pieces heads (λ i from below.
                  subst (λ (x : List ℕ). kept_at heads x ≡ kept_at (head ∷ k.heads) x) (sym (append_assoc path (i ∷ []) below)) (keep (i ∷ below))
                  ∙ kept_other head k.heads ((path ++ i ∷ []) ++ below) (longer_differs path below i))));
            });
      }
