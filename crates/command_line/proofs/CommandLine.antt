-- What clap answers to the words of a command line.
use Rattle.std.proofs.Common.{arith, refl, ◌≡◌, ◌<◌, ◌^◌, ◌⊎◌, List, [], ◌∷◌, ◌++◌, Option, Some, None, Bool, true}
use Rattle.std.proofs.Common.{false, codes, length, ap, ◌∙◌, inl, inr, find, Err}
use Rattle.std.specs.List.{list_any, list_all}
use Rattle.std.specs.Option.{IfSome, ok_or}
use Rattle.clap.specs.Words.{App, Row, subcommand_of, fault_of, is_simple, is_simple_and_free, IsAmong}
use Rattle.clap.specs.Kinds.{Kinds}
use Rattle.clap.specs.Faults.{walk_fault, defaults_fault}
use Rattle.clap.specs.declared.error.kind.ErrorKind.{ErrorKind}
use Rattle.clap.specs.declared.error.kind.ErrorKind.TheVariants as kind
use Rattle.command_line.specs.Words.{Text, asks_for_help, is_unknown_option}
use Rattle.command_line.specs.Commands.{Meaning, ToGet, to_index, to_scan, Form, Offset, Typed, TypedSizes, Refusal}
use Rattle.command_line.specs.Commands.{Help, Usage, asked_of, help_or_usage, task_of, operands_task, command_of}
use Rattle.command_line.specs.Commands.{commands, other_words, takes_option}
use Rattle.command_line.specs.Clap.{warcdx, matches_task, refusal_for}
use Rattle.command_line.proofs.PlainWords.{IsPlain, AllPlain, all_plain, plain_word}
use Rattle.command_line.proofs.OtherWords.{choice, taken}
use Rattle.command_line.proofs.OperandWalk.{fits, is_usage, are_usage}
use Rattle.command_line.proofs.Operands.{choice_words, has_option, option_word, MayChoose, rows_of, values, reads, unfit_task, level_fits}
use Rattle.command_line.proofs.Operands.{level_unfit, level_help, without_text}
use Rattle.command_line.proofs.CommandName.{is_named, same_name, given, below, unknown, top_help}

-- ---- words without options

-- clap takes the words with their task, or refuses words that have none
abbrev pub Told : Option Meaning → Kinds → Option (Text × List Row) → Type 0
Told task kinds met = ((kinds ≡ []) × (matches_task met ≡ task)) ⊎ ((are_usage kinds ≡ true) × (task ≡ None))

abbrev Tells : List Text → Type 0
Tells words = Told (task_of words) (fault_of warcdx words) (subcommand_of warcdx words)

no_words : Tells []
unfolding walk_fault defaults_fault
no_words = inl (refl, refl)

-- the operands of a command, after its option and a text where it takes them
operands_told : (word : Text) (form : Form) (choice : Option Text) (rest : List Text)
    → find (is_named word) commands ≡ Some (word, form) → MayChoose form choice → AllPlain rest → length rest < 2 ^ 64
    → (b : Bool) → fits form rest ≡ b
    → Told (operands_task form (choice_words form choice ++ rest)) (fault_of warcdx (word ∷ choice_words form choice ++ rest))
    (subcommand_of warcdx (word ∷ choice_words form choice ++ rest))
operands_told word form choice rest e m p short true f = inl (
  below word form commands (choice_words form choice ++ rest) e ∙ level_fits word form choice rest m f p short,
  ap matches_task (given word form commands (choice_words form choice ++ rest) (rows_of form choice rest) e
      (values form choice rest m f p))
      ∙ rw e (reads form choice rest m f p),
)
operands_told word form choice rest e m p short false f = inr (
  ap are_usage (below word form commands (choice_words form choice ++ rest) e) ∙ level_unfit word form choice rest m f p,
  unfit_task form choice rest m f p,
)

first_told : (word : Text) (rest : List Text) → IsPlain word → AllPlain rest → length rest < 2 ^ 64
    → (o : Option (Text × Form)) → command_of word ≡ o → Tells (word ∷ rest)
first_told word rest q p short None n = inr (unknown word commands rest n q, rw n refl)
first_told word rest q p short (Some c) n =
    rw n (operands_told word c.1 None rest (same_name word commands c n) tt p short _ refl)

option_told : (word : Text) (form : Form) (rest : List Text) → find (is_named word) commands ≡ Some (word, form)
    → has_option form ≡ true
    → AllPlain rest → length rest < 2 ^ 64
    → Told (operands_task form (option_word form ∷ rest)) (fault_of warcdx (word ∷ option_word form ∷ rest))
    (subcommand_of warcdx (word ∷ option_word form ∷ rest))
option_told word form [] e t p short = inr (
  ap are_usage (below word form commands (option_word form ∷ []) e) ∙ without_text word form t,
  grind arith,
)
option_told word form (text ∷ rest) e t p short =
    operands_told word form (Some text) rest e (t, p.0) p.1 (omega arith) _ refl

taken_told : (word option : Text) (rest : List Text) → takes_option word option ≡ true → AllPlain rest
    → length rest < 2 ^ 64
    → Tells (word ∷ option ∷ rest)
taken_told word option rest t p short = elim (taken word option t) [
  | inl e ↦ rw (e.named, e.taken) (option_told (codes "index") (Typed to_index) rest refl refl p short)
  | inr (inl e) ↦ rw (e.named, e.taken) (option_told (codes "scan") (TypedSizes to_scan) rest refl refl p short)
  | inr (inr e) ↦ rw (e.named, e.taken) (option_told (codes "get") (Offset ToGet) rest refl refl p short)
]

two_told : (word option : Text) (rest : List Text) → AllPlain (other_words (word ∷ option ∷ rest))
    → length (option ∷ rest) < 2 ^ 64
    → Tells (word ∷ option ∷ rest)
two_told word option rest p short = elim (choice word option rest) [
  | inl c ↦ taken_told word option rest c.takes (rw c.others at p) (omega arith)
  | inr e ↦ let q = rw e at p in first_told word (option ∷ rest) q.0 q.1 short _ refl
]

tells : (words : List Text) → AllPlain (other_words words) → length words < 2 ^ 64 → Tells words
tells [] p short = no_words
tells words p short = grind (arith, first_told, two_told)

-- what is asked is the task of the words
plain_asked : (words : List Text) → list_any is_unknown_option (other_words words) ≡ false
    → list_any asks_for_help (other_words words) ≡ false
    → asked_of words ≡ ok_or (task_of words) Usage
plain_asked words u h = grind arith

matched : (task : Option Meaning) (kinds : Kinds) (met : Option (Text × List Row)) → Told task kinds met → kinds
    ≡ []
    → ok_or task Usage ≡ ok_or (matches_task met) Usage
matched task kinds met h e = grind arith

told_by : (words : List Text) (app : App) (met : Option (Text × List Row)) → app ≡ warcdx
    → list_any is_unknown_option (other_words words) ≡ false → list_any asks_for_help (other_words words) ≡ false
    → length words < 2 ^ 64 → met ≡ subcommand_of app words → Told (task_of words) (fault_of app words) met
told_by words app met e u h short m = rw (m, e) (tells words (all_plain (other_words words) u h) short)

-- ---- the kinds of clap's errors

usage_kind : (kinds : Kinds) (k : ErrorKind) → list_all (λ kind. is_usage (refusal_for kind)) kinds ≡ true
    → IsAmong k kinds
    → refusal_for k ≡ Some Usage
usage_kind [] k h m = absurd m
usage_kind (x ∷ xs) k h m = grind (arith, usage_kind xs k)

refused : (task : Option Meaning) (kinds : Kinds) (met : Option (Text × List Row)) (k : ErrorKind)
    → Told task kinds met
    → (k ≡ kind.OutOfMemory) ⊎ IsAmong k kinds → IfSome (refusal_for k) (λ refusal. ok_or task Usage ≡ Err refusal)
refused task kinds met k t h = grind (arith, usage_kind)

-- ---- an app that is the program's

pub simple : (app : App) → app ≡ warcdx → is_simple app ≡ true
simple app e = rw e refl

pub simple_and_free : (app : App) → app ≡ warcdx → is_simple_and_free app ≡ true
simple_and_free app e = rw e refl

pub meant : (words : List Text) (app : App) (met : Option (Text × List Row)) → app ≡ warcdx
    → list_any is_unknown_option (other_words words) ≡ false → list_any asks_for_help (other_words words) ≡ false
    → length words < 2 ^ 64 → met ≡ subcommand_of app words → fault_of app words ≡ []
    → asked_of words ≡ ok_or (matches_task met) Usage
meant words app met e u h short m none = plain_asked words u h
    ∙ matched (task_of words) (fault_of app words) met (told_by words app met e u h short m) none

pub denied : (words : List Text) (app : App) (k : ErrorKind) → app ≡ warcdx
    → list_any is_unknown_option (other_words words) ≡ false → list_any asks_for_help (other_words words) ≡ false
    → length words < 2 ^ 64 → (k ≡ kind.OutOfMemory) ⊎ IsAmong k (fault_of app words)
    → IfSome (refusal_for k) (λ refusal. asked_of words ≡ Err refusal)
denied words app k e u h short among = rw (plain_asked words u h)
    (refused (task_of words) (fault_of app words) (subcommand_of app words) k
    (told_by words app (subcommand_of app words) e u h short refl) among)

-- ---- a first word beside one that asks for help

abbrev pub ToldHelp : Refusal → Kinds → Type 0
ToldHelp Help kinds = kinds ≡ kind.DisplayHelp ∷ []
ToldHelp Usage kinds = are_usage kinds ≡ true

help_told_as : (a b : Refusal) (kinds : Kinds) → a ≡ b → ToldHelp b kinds → ToldHelp a kinds
help_told_as a b kinds e t = rw e t

command_help : (first help : Text) → is_unknown_option first ≡ false → asks_for_help first ≡ false → asks_for_help help
    ≡ true
    → (o : Option (Text × Form)) → command_of first ≡ o
    → ToldHelp (help_or_usage (first ∷ [])) (fault_of warcdx (first ∷ help ∷ []))
command_help first help u n h None e = rw (n, e) (unknown first commands (help ∷ []) e (plain_word first u n))
command_help first help u n h (Some c) e =
    rw (n, e) (below first c.1 commands (help ∷ []) (same_name first commands c e) ∙ level_help first c.1 help h)

pub tells_help : (first help : Text) → is_unknown_option first ≡ false → asks_for_help help ≡ true
    → ToldHelp (help_or_usage (first ∷ [])) (fault_of warcdx (first ∷ help ∷ []))
tells_help first help u h = go (asks_for_help first) refl
  where
    go : (b : Bool) → asks_for_help first ≡ b
        → ToldHelp (help_or_usage (first ∷ [])) (fault_of warcdx (first ∷ help ∷ []))
    go true e = help_told_as _ Help _ (rw e refl) (top_help first (help ∷ []) e)
    go false e = grind (arith, command_help)

pub never_taken : (wanted : Refusal) (kinds : Kinds) → ToldHelp wanted kinds → kinds ≡ [] → ⊥
never_taken wanted kinds t e = grind arith

pub refused_help : (wanted : Refusal) (kinds : Kinds) (k : ErrorKind) → ToldHelp wanted kinds
    → (k ≡ kind.OutOfMemory) ⊎ IsAmong k kinds → IfSome (refusal_for k) (λ refusal. refusal ≡ wanted)
refused_help wanted kinds k t h = grind (arith, usage_kind)
