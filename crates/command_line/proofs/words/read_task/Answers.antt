use Rattle.std.proofs.Common.{arith, ◌≡◌, List, Bool, Option, find, is_some}
use Rattle.std.specs.List.{list_any}
use Rattle.command_line.specs.Words.{Text}
use Rattle.command_line.proofs.Finding.{any_found, found_passes}
use Rattle.command_line.proofs.words.read_task.Goals as goal

-- a word among these passes the test where one is found
any_of : (test : Text → Bool) (given words : List Text) (found : Option Text) → given ≡ words → found ≡ find test given
    → list_any test words ≡ is_some found
any_of test given words found same h = grind (arith, any_found, find)

pub returns-in-Some : goal.returns-in-Some
returns-in-Some c = grind (arith, any_of)

pub help_fault-requires-clause-asks : goal.help_fault-requires-clause-asks
help_fault-requires-clause-asks c = grind (arith, find, found_passes)

pub returns-in-Some-help_option : goal.returns-in-Some-help_option
returns-in-Some-help_option c = grind (arith, any_of)

pub matches_of-requires-clause-known : goal.matches_of-requires-clause-known
matches_of-requires-clause-known c = grind (arith, any_of)

pub matches_of-requires-clause-plain : goal.matches_of-requires-clause-plain
matches_of-requires-clause-plain c = grind (arith, any_of)
