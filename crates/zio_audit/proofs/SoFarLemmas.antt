-- Entries that were let go, and those that are held.
use Rattle.std.proofs.Common.{◌≡◌, ◌≤◌, ◌+◌, ◌-◌, ℕ, suc, List, [], ◌++◌, length, take, drop, sym, ap, subst, ◌∙◌, arith, append_assoc, length-append}
use Rattle.std.proofs.Math.Seq.{drop-append-add}
use Rattle.std.proofs.lemmas.List.{append-nil, length-drop, take_all}
use Rattle.zio_types.specs.Choices.{Choice}
use Rattle.zio_spelled.specs.declared.rounds.RoundJournal.{RoundJournal}
use Rattle.zio_audit.specs.Replays.{entries_in}
use Rattle.zio_audit.specs.SoFar.{AreHeld, entries_upto}

-- all are let go
pub none_held : (all held none : List Choice) (many : ℕ) → AreHeld all many held → none ≡ [] → AreHeld all many none
none_held all held none many h none_is = record {
  gone = all;
  all_are = sym (append-nil all) ∙ ap (λ (cs : List Choice). all ++ cs) (sym none_is);
  many_are = h.many_are;
}

-- the entries of one round more
pub more_held : (journals : List RoundJournal) (old new : ℕ) (many count : ℕ) (held now entries : List Choice) → AreHeld (entries_upto journals old) many held
    → new ≡ old + 1 → entries ≡ entries_in journals (old + 1) → now ≡ held ++ entries → count ≡ many + length entries
    → AreHeld (entries_upto journals new) count now
more_held journals old new many count held now entries h new_is entries_are now_is count_is =
    let next : new ≡ suc old = omega arith in
    let one : old + 1 ≡ suc old = omega arith in
    let its : entries ≡ entries_in journals (suc old) = entries_are ∙ ap (entries_in journals) one in
    let all : entries_upto journals new ≡ entries_upto journals old ++ entries =
    ap (entries_upto journals) next ∙ ap (λ (cs : List Choice). entries_upto journals old ++ cs) (sym its) in
    record {
      gone = h.gone;
      all_are = all ∙ (ap (λ (cs : List Choice). cs ++ entries) h.all_are ∙ (append_assoc h.gone held entries ∙ ap (λ (cs : List Choice). h.gone ++ cs) (sym now_is)));
      many_are = count_is ∙ (ap (λ (n : ℕ). n + length entries) h.many_are ∙ (sym (length-append (entries_upto journals old) entries) ∙ ap length (sym all)));
    }

behind : (all held : List Choice) (many n : ℕ) → AreHeld all many held → many - length held ≤ n → n ≤ length all
    → take (length held - (n - (many - length held))) (drop (n - (many - length held)) held) ≡ drop n all
behind all held many n h le few =
    let k : ℕ = n - (many - length held) in
    let both : length all ≡ length h.gone + length held = ap length h.all_are ∙ length-append h.gone held in
    let m = h.many_are in
    let n_is : length h.gone + k ≡ n = omega (arith, both, m, le, few) in
    take_all (length held - k) (drop k held) (let l = length-drop k held in omega arith)
    ∙ (sym (drop-append-add h.gone held k) ∙ (ap (λ (i : ℕ). drop i (h.gone ++ held)) n_is ∙ ap (drop n) (sym h.all_are)))

-- those behind so many, of which none was let go
pub held_behind : (all places kept held : List Choice) (many gone n : ℕ) → AreHeld all many kept → held ≡ kept → all ≡ places → many - length kept ≡ gone
    → gone ≤ n → n ≤ length places → take (length held - (n - (many - length held))) (drop (n - (many - length held)) held) ≡ drop n places
held_behind all places kept held many gone n h held_is all_is gone_is le few =
    let at : AreHeld all many held = subst (AreHeld all many) (sym held_is) h in
    let far : many - length held ≡ gone = ap (λ (cs : List Choice). many - length cs) held_is ∙ gone_is in
    behind all held many n at (subst (λ (m : ℕ). m ≤ n) (sym far) le) (subst (λ (cs : List Choice). n ≤ length cs) (sym all_is) few) ∙ ap (drop n) all_is
