use Rattle.std.proofs.Common.{ℕ, List, Result, ap, sym, ◌∙◌}
use Rattle.zio_types.specs.declared.error.Errno.{Errno}
use Rattle.zio_cksum.specs.Blocks.{first_good, judged, leaves_of, spot_in}
use Rattle.zio_cksum.specs.Headers.{offset_of}
use Rattle.zio_cksum.specs.Images.{read_leaf}
use Rattle.zio_mirror.specs.Plans.{leaf_of, order_in}
use Rattle.zio_mirror.proofs.ChildLemmas.{order_of, tried_by}
use Rattle.zio_mirror.proofs.laws.a_place_is_read_by_its_leaves.Goals as goal

pub returns : goal.returns
returns c = record {
  found = λ s retry good images len p.
      let read : ℕ → Result (List ℕ) Errno = λ leaf. judged good (read_leaf s retry images len (spot_in p leaf)) in
      ap (λ ls. (first_good read ls).found) (sym (order_of (offset_of p) (leaves_of s p))) ∙ (tried_by (leaf_of s p) read (order_in s p)).0;
  failed = λ s retry good images len p.
      let read : ℕ → Result (List ℕ) Errno = λ leaf. judged good (read_leaf s retry images len (spot_in p leaf)) in
      ap (λ ls. (first_good read ls).failed) (sym (order_of (offset_of p) (leaves_of s p))) ∙ (tried_by (leaf_of s p) read (order_in s p)).1;
  errors = λ s retry good images len p.
      let read : ℕ → Result (List ℕ) Errno = λ leaf. judged good (read_leaf s retry images len (spot_in p leaf)) in
      ap (λ ls. (first_good read ls).errors) (sym (order_of (offset_of p) (leaves_of s p))) ∙ (tried_by (leaf_of s p) read (order_in s p)).2;
}
