use Rattle.std.proofs.Common.{◌≡◌, ◌++◌, take}
use Rattle.command_line.specs.Words.{texts}
use Rattle.command_line.proofs.words.push_copies.Given as goal

abbrev pub invariant-loop-word : goal.invariant-loop-word
invariant-loop-word l = texts l.words.items ≡ texts l.initial.words.items ++ texts (take l.word-index l.more)
