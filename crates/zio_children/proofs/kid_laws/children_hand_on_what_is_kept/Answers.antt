use Rattle.std.proofs.Common.{map, ap, ◌∙◌}
use Rattle.zio_gang.specs.Attempts.{Child, children_of, insert_children}
use Rattle.zio_children.specs.RequestKids.{bare_child, child_of, kids_by, returns_in}
use Rattle.zio_children.proofs.KidReturns.{judged_seen, returns_heard, same_pointers, seen_children}
use Rattle.zio_children.proofs.kid_laws.children_hand_on_what_is_kept.Goals as goal

pub returns : goal.returns
returns c = record {
  told = λ x p returns h k.
      ap (λ ks. map (λ (c : Child). c.pointer) (insert_children (children_of returns) ks)) k
      ∙ same_pointers (children_of returns) (children_of (returns_in x)) (map child_of x.kept) h;
  pointers = λ x p slots fit e k.
      ap (λ ks. map (λ (c : Child). c.pointer) (insert_children (children_of (kids_by slots).returns) ks)) k
      ∙ same_pointers (children_of (kids_by slots).returns) (children_of (returns_in x)) (map child_of x.kept)
      (ap (map bare_child) (seen_children (kids_by slots).returns ∙ ap children_of (returns_heard x.kids slots fit e)));
  judged = λ x t p own slots fit e k. judged_seen t p own (kids_by slots).returns (returns_in x) (map child_of x.kept) (returns_heard x.kids slots fit e) k;
}
