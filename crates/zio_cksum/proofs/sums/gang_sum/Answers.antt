use Rattle.std.proofs.Common.{◌≡◌, ◌*◌, ◌++◌, take, [], ap, ◌∙◌}
use Rattle.sha2.specs.Sha256.{sha256}
use Rattle.zio_blkptr.specs.Pointers.{word}
use Rattle.zio_cksum.specs.Headers.{offset_of}
use Rattle.zio_cksum.specs.Sums.{sha256_words, digest_words}
use Rattle.zio_cksum.proofs.sums.gang_sum.Goals as goal

-- the hasher is fed the header's front, then the top, the offset, the birth and 0
pub returns : goal.returns
unfolding sha256_words
returns c =
    let fed = c.finalize.ensures _ (c.update-5.ensures _ (c.update-4.ensures _ (c.update-3.ensures _ (c.update-2.ensures _ (c.update.ensures [] c.new-hasher.ensures))))) in
    let top : c.to_le_bytes.result ≡ word c.args.place.now.top = c.to_le_bytes.ensures ∙ ap word c.from-2.ensures in
    let offset : c.to_le_bytes-2.result ≡ word (offset_of c.args.place.now) =
    c.to_le_bytes-2.ensures ∙ ap (λ n. word (c.args.place.now.sector * n)) c.from.ensures in
    c.digest_words.ensures
    ∙ ap digest_words (fed ∙ (λ j. sha256 (take 480 c.args.header.now ++ top j ++ offset j ++ c.to_le_bytes-3.ensures j ++ c.to_le_bytes-4.ensures j)))
