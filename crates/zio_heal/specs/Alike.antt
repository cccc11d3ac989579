-- When a request is answered as in the plain store. The front of a block that has write children tells places, and
-- isn't compared.
use Rattle.std.specs.Prelude.{◌≡◌, ℕ, List, length, drop, Option, Some, None}
use Rattle.zio_types.specs.declared.error.Errno.{Errno}
use Rattle.zio_gang.specs.Attempts.{Ended}
use Rattle.zio_report.specs.declared.report.LineResult.{LineResult}
use Rattle.zio_report.specs.declared.report.LineResult.TheVariants.{Suspended, Failed, Done, Sized, Bytes}
use Rattle.zio_report.specs.Reports.{result_with}
use Rattle.zio_heal.specs.PlainStore.{Content, Reply}

-- as many bytes, which are equal after the first n
abbrev pub AreAlike : ℕ → List ℕ → List ℕ → Type 0
AreAlike n a b = (length a ≡ length b) × (drop n a ≡ drop n b)

-- bytes that are alike to a content
abbrev pub IsAlikeTo : Content → List ℕ → Type 0
IsAlikeTo content bytes = AreAlike content.front bytes content.bytes

-- what is shown of a request without error, beside the content that it wrote or read in the plain store
abbrev pub ShowsContent : LineResult → Option Content → Type 0
ShowsContent Suspended content = ⊥
ShowsContent (Failed e) content = ⊥
ShowsContent Done content = content ≡ None
ShowsContent (Sized size) None = ⊥
ShowsContent (Sized size) (Some content) = size ≡ length content.bytes
ShowsContent (Bytes bytes) None = ⊥
ShowsContent (Bytes bytes) (Some content) = IsAlikeTo content bytes

-- what is shown of a request, beside its error in the plain store or the content
abbrev pub ShowsReply : LineResult → Option Errno → Option Content → Type 0
ShowsReply result (Some e) content = result ≡ Failed e
ShowsReply result None content = ShowsContent result content

-- A request that ended, beside its reply in the plain store: both have the same error, or neither has one, a write has
-- the same size, and a read is alike.
-- Rule: healing faults.
pub record IsAnsweredAlike (reply : Reply) (e : Ended) : Type 0 where
  pub number : e.request.number ≡ reply.number
  pub shown : ShowsReply (result_with e.error e) reply.error reply.content
