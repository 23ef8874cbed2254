-- Where the words of a command name standard input.
use Rattle.std.proofs.Common.{arith, refl, ◌≡◌, ◌≤◌, ◌<◌, ◌-◌, ◌++◌, List, [], ◌∷◌, Some, true, false, String, string_bytes}
use Rattle.std.proofs.Common.{length, take, drop, get_or, sym}
use Rattle.std.proofs.Math.Seq.{take-length}
use Rattle.std.specs.Global.{Global}
use Rattle.command_line.specs.Words.{Text, texts}
use Rattle.command_line.specs.Commands.{named, named_later, names_input, takes_option}

later_of : (command option text second name : Text) (words : List Text) → takes_option command option ≡ true
    → names_input command second name ≡ true
    → named_later (command ∷ option ∷ text ∷ second ∷ name ∷ words) ≡ Some (name, command ∷ option ∷ text ∷ words)
later_of command option text second name words takes names = rw (takes, names) refl

-- after an option and its text
pub later : (words : List (String Global)) (command option text second name : String Global) → 5 ≤ length words
    → command ≡ get_or words 0 command → option ≡ get_or words 1 option → text ≡ get_or words 2 text
    → second ≡ get_or words 3 second → name ≡ get_or words 4 name
    → takes_option (string_bytes command) (string_bytes option) ≡ true
    → names_input (string_bytes command) (string_bytes second) (string_bytes name) ≡ true
    → Some (string_bytes name, texts (take 3 words) ++ texts (take (length words - 5) (drop 5 words)))
    ≡ named_later (texts words)
later (a ∷ b ∷ t ∷ s ∷ n ∷ words) command option text second name long at_0 at_1 at_2 at_3 at_4 takes names =
    let first : command ≡ a = at_0 in
    let after : option ≡ b = at_1 in
    let fourth : second ≡ s = at_3 in
    let last : name ≡ n = at_4 in
    let found : named_later (texts (a ∷ b ∷ t ∷ s ∷ n ∷ words))
    ≡ Some (string_bytes n, string_bytes a ∷ string_bytes b ∷ string_bytes t ∷ texts words) =
    later_of (string_bytes a) (string_bytes b) (string_bytes t) (string_bytes s) (string_bytes n) (texts words)
    (rw (sym first, sym after) takes) (rw (sym first, sym fourth, sym last) names) in
    let left : length (a ∷ b ∷ t ∷ s ∷ n ∷ words) - 5 ≡ length words = omega arith in
    rw (found, last, left, take-length words) refl
later words command option text second name long a b t s n takes names = grind arith

-- not directly after a command
pub short : (words : List (String Global)) → length words < 3 → named_later (texts words) ≡ named (texts words)
short [] few = refl
short (a ∷ []) few = refl
short (a ∷ b ∷ []) few = refl
short (a ∷ b ∷ c ∷ words) few = absurd (omega (arith, few))

pub passed : (words : List (String Global)) (command option name : String Global) → 3 ≤ length words
    → command ≡ get_or words 0 command → option ≡ get_or words 1 option → name ≡ get_or words 2 name
    → names_input (string_bytes command) (string_bytes option) (string_bytes name) ≡ false
    → named_later (texts words) ≡ named (texts words)
passed (a ∷ b ∷ n ∷ words) command option name long at_0 at_1 at_2 names = grind (arith, string_bytes)
passed words command option name long a b n names = grind arith
