-- How clap reads a word by itself.
use Rattle.std.proofs.Common.{arith, ◌≡◌, ◌⊎◌, List, [], ◌∷◌, None, true, false}
use Rattle.std.proofs.Common.{codes, bytes_eq}
use Rattle.std.specs.List.{list_any}
use Rattle.std.proofs.lemmas.Slice.Eq.{bytes_eq-Decides}
use Rattle.clap.specs.Lexer.{long_of, short_of}
use Rattle.command_line.specs.Words.{Text, is_option, asks_for_help, is_unknown_option}

-- neither `--` nor an option
pub record IsPlain (word : Text) : Type 0 where
  pub dashes : bytes_eq word (codes "--") ≡ false
  pub long : long_of word ≡ None
  pub short : short_of word ≡ None

plain : (word : Text) → is_option word ≡ false → IsPlain word
plain word h = grind arith

abbrev pub AllPlain : List Text → Type 0
AllPlain [] = Unit {0}
AllPlain (word ∷ words) = IsPlain word × AllPlain words

pub help_word : (word : Text) → asks_for_help word ≡ true → (word ≡ codes "-h") ⊎ (word ≡ codes "--help")
help_word word h = grind (arith, bytes_eq-Decides)

-- a word is unknown, or asks for help, or is plain
pub plain_word : (word : Text) → is_unknown_option word ≡ false → asks_for_help word ≡ false → IsPlain word
plain_word word h k = grind (arith, plain)

pub all_plain : (words : List Text) → list_any is_unknown_option words ≡ false → list_any asks_for_help words ≡ false
    → AllPlain words
all_plain [] h k = tt
all_plain (word ∷ words) h k = grind (arith, plain_word, all_plain words)
