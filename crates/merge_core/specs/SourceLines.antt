-- Lines of sources of any bytes.
use Rattle.std.specs.Prelude.{◌≡◌, ◌⊎◌, ℕ, ◌-◌, ◌^◌, List, [], ◌∷◌, length, min, Option, None, Some, Result}
use Rattle.std.specs.Prelude.{MatchResult}
use Rattle.std.specs.Io.KnownBytes.{Appends}
use Rattle.std.specs.List.{AllByRecursion}
use Rattle.cdxj_core.specs.declared.limit.TheConstants.{LINE_LIMIT}
use Rattle.cdxj_places.specs.Places.{place_cmp}
use Rattle.cdxj_places.specs.Rising.{IsIn, Rises}
use Rattle.cdxj_places.specs.TextLines.{lines}
use Rattle.cdxj_core.specs.Members.{Member, member_place, line_entry}
use Rattle.devices.specs.Device.{AppendsPrefix}
use Rattle.merge_core.specs.Collections.{OverIndexes, collection}
use Rattle.merge_core.specs.Written.{lines_text}

-- its own line has it as its entry
abbrev pub HasEntry : Member → Type 0
HasEntry m = line_entry LINE_LIMIT m.line ≡ Some m

-- a line of the text has this entry
abbrev pub IsLineIn : List ℕ → Member → Type 0
IsLineIn text m = (line : List ℕ) × IsIn line (lines text) × (line_entry LINE_LIMIT line ≡ Some m)

-- a line of one of the sources has this entry, or the bytes of one of them aren't known and a line has it
abbrev pub IsLineOf : List (Option (List ℕ)) → Member → Type 0
IsLineOf [] m = ⊥
IsLineOf (None ∷ sources) m = HasEntry m ⊎ IsLineOf sources m
IsLineOf (Some text ∷ sources) m = IsLineIn text m ⊎ IsLineOf sources m

-- lines of sources, which rise by place
pub record AreLinesOf (sources : List (Option (List ℕ))) (members : List Member) : Type 0 where
  pub rise : Rises member_place place_cmp members
  pub each : AllByRecursion (IsLineOf sources) members

-- This holds of lines of the sources that rise by place. Of indexes they are the collection.
pub record HoldsOfLines (told : List (Option (List ℕ))) (Holds : List Member → Type 0) : Type 0 where
  pub lines : List Member
  pub are : AreLinesOf told lines
  pub whole : OverIndexes told (λ texts indexes. lines ≡ collection indexes)
  pub holds : Holds lines

-- lines were written, and are so many, or after a fault a front of them
abbrev pub WritesLines : {A E : Type 0} → (A → ℕ) → Result A E → Option (List ℕ) → Option (List ℕ) → List Member → Type 0
WritesLines number result old new lines = MatchResult result
    (λ x. Appends old new (lines_text lines) × (number x ≡ min (length lines) (2 ^ 64 - 1)))
    (λ _. AppendsPrefix old new (lines_text lines))
