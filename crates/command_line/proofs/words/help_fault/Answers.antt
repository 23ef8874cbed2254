use Rattle.std.proofs.Common.{arith, refl, ◌≡◌, true, Some, None, [], ◌∷◌, String, string_bytes, List, Option}
use Rattle.std.proofs.Common.{unwrap_or, slice_get, Bor}
use Rattle.std.specs.Global.{Global}
use Rattle.std.specs.Option.{IfSome, option_copied}
use Rattle.command_line.specs.Words.{texts, asks_for_help}
use Rattle.command_line.specs.Commands.{Refusal, help_or_usage}
use Rattle.command_line.proofs.words.help_fault.Goals as goal

-- the first word, or the one that asks for help where there is none, is helped as all the words are
first_of : (words : List (String Global)) (first : Option (Bor (String Global))) (help : Bor (String Global))
    → option_copied first ≡ slice_get words 0
    → asks_for_help (string_bytes help.now) ≡ true
    → help_or_usage (string_bytes (unwrap_or first help).now ∷ []) ≡ help_or_usage (texts words)
first_of [] None help f h = rw h refl
first_of [] (Some x) help f h = cc
first_of (word ∷ words) None help f h = cc
first_of (word ∷ words) (Some x) help f h = grind arith

joined : (given : Option Refusal) (met : Option Refusal) (a b : Refusal) → IfSome met (λ refusal. refusal ≡ a) → a ≡ b
    → IfSome given (λ refusal. met ≡ Some refusal) → IfSome given (λ refusal. refusal ≡ b)
joined None met a b m e g = tt
joined (Some r) None a b m e g = cc
joined (Some r) (Some s) a b m e g = grind arith

pub returns : goal.returns
returns c = grind (arith, string_bytes, joined, first_of)
