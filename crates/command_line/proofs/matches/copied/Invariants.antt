use Rattle.std.proofs.Common.{◌≡◌, take, map}
use Rattle.command_line.specs.Words.{texts}
use Rattle.command_line.proofs.matches.copied.Given as goal

abbrev pub invariant-loop-word : goal.invariant-loop-word
invariant-loop-word l = texts l.names.items ≡ map (λ word. word.now) (take l.word-index l.words)
