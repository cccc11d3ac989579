-- What a journal has for the asks of its own entries.
use Rattle.std.proofs.Common.{◌&&◌, ◌==◌, ◌≡◌, List, [], ◌∷◌, Bool, true, false, find, Option, Some, refl, ap, ◌∙◌, eq-eqb}
use Rattle.std.proofs.lemmas.Bool.{and_from, cond-false, cond-true}
use Rattle.std.proofs.lemmas.Slice.Eq.{bytes_eq-Decides}
use Rattle.std.specs.List.{AllByRecursion}
use Rattle.zio_types.specs.declared.journal.Key.{Key}
use Rattle.zio_types.specs.declared.journal.Role.{Role}
use Rattle.zio_types.specs.declared.journal.Role.TheVariants.{Body as BodyRole, Head as HeadRole}
use Rattle.zio_types.specs.Choices.{Ask, Choice, same_ask, same_key, same_role}
use Rattle.zio_gang.specs.Journals.{asks_of, HaveDistinctKeys}

same_role_itself : (role : Role) → same_role role role ≡ true
same_role_itself BodyRole = refl
same_role_itself HeadRole = refl

pub same_key_itself : (k : Key) → same_key k k ≡ true
same_key_itself k =
    and_from _ _
    (and_from _ _
    (and_from _ _ (and_from _ _ (eq-eqb k.request k.request refl) (eq-eqb k.round k.round refl)) (eq-eqb k.attempt k.attempt refl))
    ((bytes_eq-Decides k.path k.path).1 refl))
    (same_role_itself k.role)

pub same_ask_itself : (a : Ask) → same_ask a a ≡ true
same_ask_itself a = and_from _ _ (and_from _ _ (same_key_itself a.key) (eq-eqb a.size a.size refl)) (eq-eqb a.copies a.copies refl)

-- the journal's entry for this ask
abbrev pub entry_for : List Choice → Ask → Option Choice
entry_for j a = find (λ (c : Choice). same_ask c.asked a) j

pub other_ask : (a b : Ask) → same_key a.key b.key ≡ false → same_ask a b ≡ false
other_ask a b h = ap (λ (x : Bool). (x && (a.size == b.size)) && (a.copies == b.copies)) h

others : (c : Choice) (j cs : List Choice) → AllByRecursion (λ (a : Ask). same_key c.asked.key a.key ≡ false) (asks_of cs)
    → AllByRecursion (λ (d : Choice). entry_for j d.asked ≡ Some d) cs → AllByRecursion (λ (d : Choice). entry_for (c ∷ j) d.asked ≡ Some d) cs
others c j [] h k = tt
others c j (d ∷ cs) h k =
    (cond-false (same_ask c.asked d.asked) (Some c) (entry_for j d.asked) (other_ask c.asked d.asked h.0) ∙ k.0, others c j cs h.1 k.1)

-- where no key stands twice, each entry is found by its own ask
pub each_found : (j : List Choice) → HaveDistinctKeys (asks_of j) → AllByRecursion (λ (c : Choice). entry_for j c.asked ≡ Some c) j
each_found [] h = tt
each_found (c ∷ cs) h =
    (cond-true (same_ask c.asked c.asked) (Some c) (entry_for cs c.asked) (same_ask_itself c.asked), others c cs cs h.0 (each_found cs h.1))
