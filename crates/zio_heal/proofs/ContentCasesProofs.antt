-- Contents of a body and of a gang of two members, and bytes that aren't.
use Rattle.std.proofs.Common.{◌≡◌, ℕ, List, [], ◌∷◌, ◌++◌, get_or, true, false, Some, None, refl, sym, ap, ◌∙◌, subst, arith}
use Rattle.zio_blkptr.specs.declared.pointer.Bp.{Bp}
use Rattle.zio_blkptr.specs.Pointers.{FitsTypes}
use Rattle.zio_cksum.specs.Headers.{members_of}
use Rattle.zio_cksum.specs.Images.{Spot, bytes_at}
use Rattle.zio_cksum.proofs.AllLemmas.{all_contains}
use Rattle.zio_cksum.proofs.HeaderLemmas.{named_law}
use Rattle.zio_trace.specs.TraceExamples.{copy_of_x, two_sectors}
use Rattle.zio_trace.proofs.ListLemmas.{contains_first}
use Rattle.zio_heal.specs.Contents.{HasPieces, HaveBytes}
use Rattle.zio_heal.specs.ContentCases.{BodyIsGood, ElsewhereIsnt, GangHasPieces, GivenIsGood, GivenMayBeShort, HeadlessHasnt, KeptIsGood, LettersArent, LieThere, LongerHasnt, OtherHeaderIsnt, ShortIsnt, TurnedHasnt, WrittenIsGiven, ZerosAreHeld, gang, header, letters, member, sector}

member_fits : (n : ℕ) → FitsTypes (member n)
member_fits n = record { places = refl; birth = omega arith; words = refl; each_word = (omega arith, (omega arith, (omega arith, (omega arith, tt)))) }

names : members_of header ≡ member 1 ∷ member 2 ∷ []
names = named_law header (sector 0) 1 1024 (member 1 ∷ member 2 ∷ []) (record {
  spelled = refl;
  types = (member_fits 1, (member_fits 2, tt));
  valid = (refl, (refl, tt));
  sizes = refl;
})

-- lists that begin differently
other_first : (xs ys : List ℕ) (a b : ℕ) → get_or xs 0 0 ≡ a → get_or ys 0 0 ≡ b → (a ≡ b → ⊥) → xs ≡ ys → ⊥
other_first xs ys a b x y ne e = ne (sym x ∙ ap (λ (l : List ℕ). get_or l 0 0) e ∙ y)

pub gang_has_pieces : GangHasPieces
unfolding HasPieces
gang_has_pieces = record {
  header = header;
  kept = refl;
  own = refl;
  members = subst (λ (ms : List Bp). HaveBytes (HasPieces LieThere 7 gang.heads) [] 0 ms (letters 65 ++ letters 66)) (sym names) (refl, (refl, refl));
}

pub turned_hasnt : TurnedHasnt
unfolding HasPieces
turned_hasnt h =
    let kept : Some header ≡ Some h.header = h.kept in
    let is : header ≡ h.header = cc in
    let own : HaveBytes (HasPieces LieThere 7 gang.heads) [] 0 (member 1 ∷ member 2 ∷ []) (letters 66 ++ letters 65) =
    subst (λ (ms : List Bp). HaveBytes (HasPieces LieThere 7 gang.heads) [] 0 ms (letters 66 ++ letters 65)) (ap members_of (sym is) ∙ names) h.members in
    other_first (letters 66) (letters 65) 66 65 refl refl (λ e. omega (arith, e)) own.0

pub longer_hasnt : LongerHasnt
unfolding HasPieces
longer_hasnt h =
    let kept : Some header ≡ Some h.header = h.kept in
    let is : header ≡ h.header = cc in
    let own : HaveBytes (HasPieces LieThere 7 gang.heads) [] 0 (member 1 ∷ member 2 ∷ []) (letters 65 ++ letters 66 ++ 0 ∷ []) =
    subst (λ (ms : List Bp). HaveBytes (HasPieces LieThere 7 gang.heads) [] 0 ms (letters 65 ++ letters 66 ++ 0 ∷ [])) (ap members_of (sym is) ∙ names) h.members in
    let e : 0 ∷ [] ≡ [] = own.1.1 in
    absurd (cc)

pub headless_hasnt : HeadlessHasnt
unfolding HasPieces
headless_hasnt h = let e : None ≡ Some h.header = h.kept in absurd (cc)

pub body_is_good : BodyIsGood
unfolding HasPieces
body_is_good = record { size = refl; good = refl }

pub short_isnt : ShortIsnt
short_isnt h = let e : 1 ≡ 512 = h.size in absurd (omega arith)

pub kept_is_good : KeptIsGood
kept_is_good = record { size = refl; good = refl }

pub other_header_isnt : OtherHeaderIsnt
other_header_isnt h = let e : false ≡ true = h.good in absurd (cc)

pub zeros_are_held : ZerosAreHeld
zeros_are_held = record { is_good = record { size = refl; good = refl }; copy = record { spot = copy_of_x; listed = contains_first copy_of_x []; there = refl } }

pub letters_arent : LettersArent
letters_arent h =
    let is : copy_of_x ≡ h.copy.spot = all_contains (λ (t : Spot). copy_of_x ≡ t) (copy_of_x ∷ []) h.copy.spot (refl, tt) h.copy.listed in
    other_first (letters 0) (letters 65) 0 65 refl refl (λ e. omega (arith, e)) (ap (λ (t : Spot). bytes_at two_sectors t 512) is ∙ h.copy.there)

pub written_is_given : WrittenIsGiven
written_is_given = refl

pub elsewhere_isnt : ElsewhereIsnt
elsewhere_isnt h = let e : None ≡ Some (letters 65) = h in absurd (cc)

pub given_is_good : GivenIsGood
given_is_good = record { is_good = record { size = refl; good = refl }; given = refl }

pub given_may_be_short : GivenMayBeShort
given_may_be_short h = let e : 512 ≡ 1024 = h.is_good.size in absurd (omega arith)
