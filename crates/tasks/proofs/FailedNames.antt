-- A name among several, of which something holds.
use Rattle.std.proofs.Common.{arith, ◌≡◌, ℕ, ◌<◌, List, length, get_or, Any, String, Global, string_bytes, subst, sym, ap}
use Rattle.std.proofs.Common.{◌∙◌}
use Rattle.std.proofs.lemmas.List.{length-map, get_or-map}
use Rattle.command_line.specs.Words.{texts}
use Rattle.outcomes.specs.declared.outcome.Outcome.{Outcome}
use Rattle.tasks.specs.Opening.{AreUnopenedIndexes, IsUnopened, IsUnopenedIndex}

any_text : (Failed : List ℕ → Type 0) (names : List (String Global)) (i : ℕ) (name : String Global) (text : List ℕ)
    → i < length names → get_or names i name ≡ name → text ≡ string_bytes name → Failed text
    → Any Failed (texts names)
any_text Failed names i name text within is named failed = (
  i,
  string_bytes name,
  subst (λ n. i < n) (sym (length-map names string_bytes)) within,
  get_or-map string_bytes names i name (string_bytes name) within ∙ ap string_bytes is,
  subst Failed named failed,
)

module _ (Failed : List ℕ → Type 0) (names : List (String Global)) (i : ℕ) (name : String Global) (text : List ℕ)
    (within : i < length names) (is : get_or names i name ≡ name) (named : text ≡ string_bytes name)
    (outcome : Outcome) where
  -- one of the archives wasn't opened
  pub unopened_archive : IsUnopened (Failed text) outcome → IsUnopened (Any Failed (texts names)) outcome
  unopened_archive h = grind (arith, any_text Failed names i name text within is named)

  -- one of the indexes wasn't opened
  pub unopened_index : IsUnopenedIndex (Failed text) outcome → AreUnopenedIndexes Failed (texts names) outcome
  unopened_index h = grind (arith, any_text Failed names i name text within is named)
