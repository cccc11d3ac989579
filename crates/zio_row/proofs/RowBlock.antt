-- The block of the worked run in a sector of the image: what its write leaves, and what its read finds.
use Rattle.std.proofs.Common.{◌≡◌, ℕ, ◌+◌, ◌*◌, ◌/◌, ◌<◌, ◌≤◌, List, [], ◌∷◌, ◌++◌, length, take, drop, append_assoc, length-take, Bool, true, false, Option, Some, None, Ok, refl, sym, ap, ◌∙◌, arith}
use Rattle.std.proofs.Math.Nat.{mod-one}
use Rattle.std.proofs.Math.Seq.{drop-append_seam}
use Rattle.std.proofs.lemmas.List.{take-append-le}
use Rattle.std.proofs.lemmas.Slice.Eq.{bytes_eq-Decides}
use Rattle.zio_types.specs.declared.place.Place.{Place}
use Rattle.zio_types.specs.declared.place.Top.{Top}
use Rattle.zio_types.specs.Bytes.{overwritten}
use Rattle.zio_types.specs.Choices.{Choice}
use Rattle.zio_blkptr.specs.declared.pointer.SumKind.TheVariants.{Sha256}
use Rattle.zio_script.specs.declared.script.Body.TheVariants.{Fill}
use Rattle.zio_script.specs.declared.script.Failmode.TheVariants.{Wait}
use Rattle.zio_script.specs.Bodies.{body_of}
use Rattle.zio_cksum.specs.Blocks.{Pass, Read, first_good, first_pass, good_body, judged, judged_by, read_order, spot_in, then_others, then_places}
use Rattle.zio_cksum.specs.Images.{Images, Setting, bytes_at, read_leaf}
use Rattle.zio_cksum.specs.Sums.{sha256_words}
use Rattle.zio_gang.specs.declared.tree.Tree.{Tree}
use Rattle.zio_gang.specs.Attempts.{Ended, Pending, Settled, Terms, attempt_each, judged_own, own_read, own_write, settle, settle_from, settled_by, then_attempt}
use Rattle.zio_gang.specs.Runs.{Plan, plan_of}
use Rattle.zio_gang.specs.Trees.{add_body, bodies_read, read_tree, walk}
use Rattle.zio_gang.specs.Writes.{Writing, body_with, chosen, content_of, place_part, pointer_to}
use Rattle.zio_row.proofs.RowPlaces.{on_top, row_ask}
use Rattle.zio_row.proofs.RowScript.{reader, row_script, writer}

-- ---- the pool

abbrev row_tops : List Top
row_tops = record { leaves = 0 ∷ []; sectors = 128; unit = 1 } ∷ []

abbrev row_setting : Setting
row_setting = record { tops = row_tops; rows = []; point = 0 }

abbrev pub row_plan : List Choice → Plan
row_plan journal = record { tops = row_tops; rows = []; failmode = Wait; journal = journal }

pub plan_is : (image : List ℕ) (journal : List Choice) → length image ≡ 65536 → plan_of row_script (image ∷ []) journal ≡ row_plan journal
plan_is image journal long =
    ap (λ (n : ℕ). record { tops = record { leaves = 0 ∷ []; sectors = n / 512 / 1 * 1; unit = 1 } ∷ []; rows = []; failmode = Wait; journal = journal }) long

-- ---- the write

-- what a round depends on, beside its number and the places in use
abbrev pub terms_in : ℕ → List Place → Terms
terms_in round used = record { setting = row_setting; failmode = Wait; round = round; used = used }

abbrev pub pending_write : Pending
pending_write = record { request = writer; birth = 1; block = None; kept = [] }

abbrev writing : Writing
writing = record { setting = row_setting; request = 1; round = 1; attempt = 0; sum = Sha256; copies = 1; birth = 1 }

abbrev content : List ℕ
content = content_of [] (body_of (Fill 0x41 512))

-- the tree of the write in a round, by the places that the journal has
abbrev pub after_write : Option (List Place) → List Choice → Images → Settled
after_write places journal images =
    settled_by
    (then_attempt []
    (judged_own (terms_in 1 []) pending_write [] (own_write (body_with places journal writing (place_part 7 journal writing) [] content images)))
    (attempt_each journal (terms_in 1 []) 0 []))
    (settle_from 2 journal (terms_in 1 []) 1)

pub write_settles : (journal : List Choice) (images : Images)
    → settle journal (terms_in 1 []) (pending_write ∷ []) images ≡ after_write (chosen journal row_ask) journal images
unfolding settle_from attempt_each place_part
write_settles journal images = refl

pub refused_asks : (journal : List Choice) (images : Images) → (after_write None journal images).asks ≡ row_ask ∷ []
unfolding settle_from attempt_each
refused_asks journal images = refl

-- the block in this sector, and the image behind its write
abbrev pub block_at : ℕ → Tree
block_at sector = record { bp = pointer_to writing (on_top sector ∷ []) false content; heads = [] }

abbrev pub stored_at : ℕ → List ℕ → Images
stored_at sector image = overwritten image (sector * 512) content ∷ []

abbrev pub write_ended : ℕ → Ended
write_ended sector = record { request = writer; error = None; bytes = []; tree = Some (block_at sector) }

abbrev pub written_at : ℕ → List ℕ → Settled
written_at sector image = record { left = []; ended = write_ended sector ∷ []; asks = row_ask ∷ []; images = stored_at sector image }

pub write_ends : (sector : ℕ) (journal : List Choice) (image : List ℕ) → after_write (Some (on_top sector ∷ [])) journal (image ∷ []) ≡ written_at sector image
unfolding settle_from attempt_each
write_ends sector journal image = refl

-- ---- the read

abbrev pub pending_read : ℕ → Pending
pending_read sector = record { request = reader; birth = 2; block = Some (block_at sector); kept = [] }

-- the tree of the read in a round, by what was read
abbrev pub after_read : Read → List Choice → ℕ → Settled
after_read read journal sector =
    settled_by
    (then_attempt [] (judged_own (terms_in 2 (on_top sector ∷ [])) (pending_read sector) [] (own_read read)) (attempt_each journal (terms_in 2 (on_top sector ∷ [])) 0 []))
    (settle_from 2 journal (terms_in 2 (on_top sector ∷ [])) 1)

pub read_settles : (sector : ℕ) (journal : List Choice) (images : Images)
    → settle journal (terms_in 2 (on_top sector ∷ [])) (pending_read sector ∷ []) images
    ≡ after_read (read_tree row_setting (block_at sector) images) journal sector
unfolding settle_from attempt_each
read_settles sector journal images = refl

-- the block, whose first pass tries the leaves in this order
abbrev first_pass_in : List ℕ → ℕ → Images → Bool → Pass
first_pass_in order sector images retry =
    then_places row_setting (on_top sector)
    (first_good (λ leaf. judged (good_body ((block_at sector).bp)) (read_leaf row_setting retry images 512 (spot_in (on_top sector) leaf))) order)
    (record { found = None; repairs = []; errors = [] })

-- the block by its passes
abbrev read_by_passes : Images → (Bool → Pass) → Read
read_by_passes images pass =
    bodies_read (
    add_body ((first_pass row_setting true images (pass false) pass).found)
    (record { errors = []; bytes = []; images = (first_pass row_setting true images (pass false) pass).images }))

tree_is_read : (sector : ℕ) (images : Images)
    → read_tree row_setting (block_at sector) images ≡ read_by_passes images (first_pass_in (read_order (sector * 512) (0 ∷ [])) sector images)
unfolding read_tree walk
tree_is_read sector images = refl

order_is : (offset : ℕ) → read_order offset (0 ∷ []) ≡ 0 ∷ []
order_is offset = ap (λ (n : ℕ). drop n (0 ∷ []) ++ take n (0 ∷ [])) (mod-one (offset / 2097152))

-- a pass over these bytes, by whether they are good
abbrev judged_pass : Bool → List ℕ → ℕ → Pass
judged_pass good bytes sector =
    then_places row_setting (on_top sector) (then_others 0 (judged_by good bytes) (record { found = None; failed = []; errors = [] }))
    (record { found = None; repairs = []; errors = [] })

one_leaf_is_read : (sector : ℕ) (images : Images)
    → read_by_passes images (first_pass_in (0 ∷ []) sector images)
    ≡ read_by_passes images (λ retry.
    judged_pass (good_body ((block_at sector).bp) (bytes_at images (spot_in (on_top sector) 0) 512)) (bytes_at images (spot_in (on_top sector) 0) 512) sector)
one_leaf_is_read sector images = refl

-- what was written is read, so much of it as there is
read_written : (image vs : List ℕ) (i m : ℕ) → i + length vs ≤ length image → m ≤ length vs → take m (drop i (overwritten image i vs)) ≡ take m vs
read_written image vs i m h room =
    let seam : length (take i image) ≡ i = omega (arith, length-take i image) in
    ap (λ (k : ℕ). take m (drop k (overwritten image i vs))) (sym seam)
    ∙ ap (λ (l : List ℕ). take m (drop (length (take i image)) l)) (append_assoc (take i image) vs (drop (i + length vs) image))
    ∙ ap (take m) (drop-append_seam (take i image) (vs ++ drop (i + length vs) image))
    ∙ take-append-le m vs (drop (i + length vs) image) room

-- in any image whose sectors this is one of
bytes_are : (sector : ℕ) (image : List ℕ) → sector < 128 → length image ≡ 65536
    → bytes_at (stored_at sector image) (spot_in (on_top sector) 0) 512 ≡ content
bytes_are sector image low long = read_written image content (sector * 512) 512 (omega arith) (omega arith)

content_is_good : (sector : ℕ) → good_body ((block_at sector).bp) content ≡ true
content_is_good sector = (bytes_eq-Decides (sha256_words content) (sha256_words content)).1 refl

abbrev read_content : Images → Read
read_content images = record { found = Ok content; images = images }

good_is_found : (sector : ℕ) (images : Images) → read_by_passes images (λ retry. judged_pass true content sector) ≡ read_content images
good_is_found sector images = refl

pub block_is_read : (sector : ℕ) (image : List ℕ) → sector < 128 → length image ≡ 65536
    → read_tree row_setting (block_at sector) (stored_at sector image) ≡ read_content (stored_at sector image)
block_is_read sector image low long =
    let images = stored_at sector image in
    tree_is_read sector images
    ∙ (ap (λ (order : List ℕ). read_by_passes images (first_pass_in order sector images)) (order_is (sector * 512))
    ∙ (one_leaf_is_read sector images
    ∙ (ap (λ (bytes : List ℕ). read_by_passes images (λ retry. judged_pass (good_body ((block_at sector).bp) bytes) bytes sector)) (bytes_are sector image low long)
    ∙ (ap (λ (good : Bool). read_by_passes images (λ retry. judged_pass good content sector)) (content_is_good sector)
    ∙ good_is_found sector images))))

abbrev pub read_ended : Ended
read_ended = record { request = reader; error = None; bytes = content; tree = None }

abbrev pub read_from : Images → Settled
read_from images = record { left = []; ended = read_ended ∷ []; asks = []; images = images }

pub read_ends : (sector : ℕ) (journal : List Choice) (images : Images) → after_read (read_content images) journal sector ≡ read_from images
unfolding settle_from attempt_each
read_ends sector journal images = refl
