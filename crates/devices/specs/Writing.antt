-- What a call that writes a text does to the bytes of an output.
use Rattle.std.specs.Prelude.{ℕ, List, Option, Result, MatchResult}
use Rattle.std.specs.Io.KnownBytes.{Appends}
use Rattle.devices.specs.Device.{AppendsPrefix}

-- an Ok appended the text, an Err a prefix of it
abbrev pub WritesText : {A E : Type 0} → Result A E → Option (List ℕ) → Option (List ℕ) → List ℕ → Type 0
WritesText result old new text = MatchResult result (λ _. Appends old new text) (λ _. AppendsPrefix old new text)
