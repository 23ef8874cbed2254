-- What is written of an index that was checked.
use Rattle.std.specs.Prelude.{◌≡◌, ◌⊎◌, ℕ, List, ◌++◌, Option, Result, MatchResult, IfErr, codes, decimal}
use Rattle.std.specs.Io.KnownBytes.{Appends}
use Rattle.devices.specs.Device.{AppendsPrefix}
use Rattle.query_core.specs.declared.fault.AnswerFault.{AnswerFault}
use Rattle.query_core.specs.declared.fault.AnswerFault.TheVariants as answers
use Rattle.query_core.specs.Checking.{IsChecked, IsCheckFault}
use Rattle.outcomes.specs.declared.outcome.Outcome.{Outcome}
use Rattle.outcomes.specs.declared.outcome.Outcome.TheVariants as outcomes
use Rattle.tasks.specs.Each.{GoesOver}
use Rattle.tasks.specs.Opening.{IsUnopenedIndex, OpensFirst}

abbrev pub count_text : ℕ → List ℕ
count_text count = codes " " ++ decimal count ++ codes "\n"

-- `NAME COUNT`
abbrev pub checked_line : List ℕ → ℕ → List ℕ
checked_line name count = name ++ count_text count

-- the line was written, or the output failed in it
abbrev pub WritesCount : List ℕ → ℕ → Outcome → Option (List ℕ) → Option (List ℕ) → Type 0
WritesCount name count outcome before after =
    ((outcome ≡ outcomes.Done) × Appends before after (checked_line name count))
    ⊎ ((outcome ≡ outcomes.Answer answers.Write) × AppendsPrefix before after (checked_line name count))

-- an index of this name and of some size was checked: its line is written where it is in order, and nothing where it
-- isn't
pub record ChecksIndex (name : List ℕ) (index : Option (List ℕ)) (outcome : Outcome) (before after : Option (List ℕ)) :
    Type 0 where
  pub answer : Result ℕ AnswerFault
  pub size : ℕ
  pub checked : IsChecked index size answer
  pub fault : IfErr answer IsCheckFault
  pub written : MatchResult answer (λ count. WritesCount name count outcome before after)
      (λ fault. (outcome ≡ outcomes.Answer fault) × (after ≡ before))

-- the index of this name was checked, unless it couldn't be opened
abbrev pub ChecksOne : (List ℕ → Option (List ℕ)) → (List ℕ → Type 0) → Option (List ℕ) → List ℕ → Outcome
    → Option (List ℕ) → Type 0
ChecksOne bytes_of Failed before name outcome after =
    OpensFirst (IsUnopenedIndex (Failed name) outcome) (after ≡ before)
    (ChecksIndex name (bytes_of name) outcome before after)

-- the indexes of these names were checked, one after another
abbrev pub ChecksIndexes : (List ℕ → Option (List ℕ)) → (List ℕ → Type 0) → List (List ℕ) → Option (List ℕ)
    → Option (List ℕ) → Outcome → Type 0
ChecksIndexes bytes_of Failed names before after outcome =
    GoesOver (ChecksOne bytes_of Failed) outcomes.Done before names outcome after
