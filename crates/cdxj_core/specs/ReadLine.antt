-- A line that was read where it stands.
use Rattle.std.specs.Prelude.{◌≡◌, ℕ, ◌<◌, ◌+◌, List, length, true}
use Rattle.std.specs.List.{list_all}
use Rattle.cdxj_objects.specs.Plain.{is_printable}
use Rattle.cdxj_objects.specs.PlainPlaces.{BeginsWithMembers}
use Rattle.cdxj_core.specs.declared.line_ref.Begun.{Begun}
use Rattle.cdxj_core.specs.declared.line_ref.Read.{Read}
use Rattle.cdxj_core.specs.declared.line_ref.Read.TheVariants.{Written, Begun as Beginning}
use Rattle.cdxj_core.specs.declared.spans.TheConstants.{TO_OBJECT}
use Rattle.cdxj_core.specs.KeptLine.{IsEntryOf, IsFrontPair}

-- the body of a line begins so
pub record IsBegun (limit : ℕ) (body : List ℕ) (b : Begun) : Type 0 where
  pub is : b.text.now ≡ body
  pub short : length b.text.now < limit
  pub printable : list_all is_printable b.text.now ≡ true
  pub pair : IsFrontPair b.text.now b.pair
  pub object : BeginsWithMembers b.text.now (b.pair.key + TO_OBJECT) b.object

-- the body was read, or its beginning
abbrev pub IsReadOf : ℕ → List ℕ → Read → Type 0
IsReadOf limit body (Written m) = IsEntryOf limit body m
IsReadOf limit body (Beginning b) = IsBegun limit body b
