use Rattle.zio_cksum.proofs.HeaderLemmas.{named_law, accepted_law, some_members_law}
use Rattle.zio_cksum.proofs.headers.a_header_names_its_members.Goals as goal

pub returns : goal.returns
returns c = record {
  named = named_law;
  accepted = accepted_law;
  some_members = some_members_law;
}
