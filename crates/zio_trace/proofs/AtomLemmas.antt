-- What an oracle says where more is taken as one operation: the same answers, and of what is asked each part in its place.
use Rattle.std.proofs.Common.{◌≡◌, Bool, true, false, List, [], ◌∷◌, ◌++◌, inl, inr, refl, sym, ap, ◌∙◌, append-nil, append_assoc}
use Rattle.zio_trace.specs.Oracles.{IsOracle, Oracle, Ways, asked_in, heard}
use Rattle.zio_trace.specs.Programs.{Asks, Ends, Program}
use Rattle.zio_trace.specs.Traces.{Above, Bottom, Grounded, Mentions}

-- plans end where more is an operation
pub ground_atoms : {Op Ans : Type 0} (plan : Op → Program Op Ans Ans) (single atom : Op → Bool) → ((op : Op) → single op ≡ true → atom op ≡ true) → (op : Op) → Grounded plan single op → Grounded plan atom op
ground_atoms plan single atom f op (Bottom e) = Bottom (f op e)
ground_atoms plan single atom f op (Above e below) = by_atom (atom op) refl (λ q m. ground_atoms plan single atom f q (below q m))
  where
    by_atom : (b : Bool) → atom op ≡ b → ((q : _) → Mentions (plan op) q → Grounded plan atom q) → Grounded plan atom op
    by_atom true is rest = Bottom is
    by_atom false is rest = Above is rest

-- what each of these comes to
abbrev pub all_parts : {Op Ans : Type 0} → Oracle Op Ans → List Op → List Op
all_parts o [] = []
all_parts o (x ∷ xs) = o.asked x ++ all_parts o xs

parts_append : {Op Ans : Type 0} (o : Oracle Op Ans) (xs ys : List Op) → all_parts o (xs ++ ys) ≡ all_parts o xs ++ all_parts o ys
parts_append o [] ys = refl
parts_append o (x ∷ xs) ys =
    ap (λ (zs : List _). o.asked x ++ zs) (parts_append o xs ys) ∙ sym (append_assoc (o.asked x) (all_parts o xs) (all_parts o ys))

-- the same answer, and the parts of what it comes to
pub record IsAsFine {Op Ans : Type 0} (o c : Oracle Op Ans) (op : Op) : Type 0 where
  pub answer : c.answer op ≡ o.answer op
  pub parts : o.asked op ≡ all_parts o (c.asked op)

pub record ProgramAsFine {Op Ans A : Type 0} (o c : Oracle Op Ans) (p : Program Op Ans A) : Type 0 where
  pub value : heard c p ≡ heard o p
  pub parts : asked_in o p ≡ all_parts o (asked_in c p)

pub program_as_fine : {Op Ans A : Type 0} (o c : Oracle Op Ans) (p : Program Op Ans A) → ((q : Op) → Mentions p q → IsAsFine o c q) → ProgramAsFine o c p
program_as_fine o c (Ends a) h = record { value = refl; parts = refl }
program_as_fine {Op} {Ans} o c (Asks op more) h =
    let first : IsAsFine o c op = h op (inl refl) in
    let rest : ProgramAsFine o c (more (o.answer op)) = program_as_fine o c (more (o.answer op)) (λ q m. h q (inr (o.answer op, m))) in
    record {
      value = ap (λ (v : Ans). heard c (more v)) first.answer ∙ rest.value;
      parts =
          (λ i. first.parts i ++ rest.parts i)
          ∙ sym (parts_append o (c.asked op) (asked_in c (more (o.answer op))))
          ∙ ap (λ (v : Ans). all_parts o (c.asked op ++ asked_in c (more v))) (sym first.answer);
    }

module _ {Op Ans : Type 0} (fine atoms : Ways Op Ans) (same : (op : Op) → atoms.plan op ≡ fine.plan op) (less : (op : Op) → fine.single op ≡ true → atoms.single op ≡ true) (o c : Oracle Op Ans) (is : IsOracle fine o) (as_atoms : IsOracle atoms c) (given : (op : Op) → atoms.single op ≡ true → c.answer op ≡ o.answer op) where
  not_single : (op : Op) (b : Bool) → fine.single op ≡ b → atoms.single op ≡ false → fine.single op ≡ false
  not_single op true e f = absurd (let x : atoms.single op ≡ true = less op e in cc)
  not_single op false e f = e

  pub op_as_fine : (op : Op) → Grounded atoms.plan atoms.single op → IsAsFine o c op
  op_as_fine op (Bottom e) = record {
    answer = given op e;
    parts = sym (append-nil (o.asked op)) ∙ ap (all_parts o) (sym (as_atoms.itself op e));
  }
  op_as_fine op (Above e below) =
      let single : fine.single op ≡ false = not_single op (fine.single op) refl e in
      let plan : ProgramAsFine o c (atoms.plan op) = program_as_fine o c (atoms.plan op) (λ q m. op_as_fine q (below q m)) in
      record {
        answer = as_atoms.answer op e ∙ plan.value ∙ ap (heard o) (same op) ∙ sym (is.answer op single);
        parts = is.asked op single ∙ ap (asked_in o) (sym (same op)) ∙ plan.parts ∙ ap (all_parts o) (sym (as_atoms.asked op e));
      }
