-- clap's command, made from the table of commands, and what is read of clap's answer.
use Rattle.std.specs.Prelude.{ℕ, List, [], ◌∷◌, Option, None, Some, true, false, codes, map, option_map}
use Rattle.std.specs.Prelude.{option_and_then}
use Rattle.clap.specs.Words.{App, Row, Rule, Shape, new_rule, all_of, first_of}
use Rattle.clap.specs.Simple.{new_shape}
use Rattle.clap.specs.Lexer.{usize_max}
use Rattle.clap.specs.declared.error.kind.ErrorKind.{ErrorKind}
use Rattle.clap.specs.declared.error.kind.ErrorKind.TheVariants as kind
use Rattle.capture_core.specs.Types.{types_of, usual_types}
use Rattle.capture_core.specs.declared.types.Types.{Types}
use Rattle.cdxj_places.specs.Places.{offset_of}
use Rattle.command_line.specs.Words.{Text}
use Rattle.command_line.specs.Sizes.{sizes_of}
use Rattle.command_line.specs.Commands.{Meaning, Form, Names, Query, Sizes, Offset, Typed, TypedSizes, Refusal, Help}
use Rattle.command_line.specs.Commands.{Usage, commands, command_of, list_input}

-- ---- the command

-- one word
abbrev pub word_rule : Text → Rule
word_rule id = record (new_rule id) {
  required = true;
  value_names = 1;
}

-- one name or more
abbrev pub names_rule : Rule
names_rule = record (word_rule (codes "names")) {
  range = Some (record { start_inclusive = 1; end_inclusive = usize_max });
}

-- the option `--` and this name, with a word
abbrev pub option_rule : Text → Rule
option_rule id = record (new_rule id) {
  long = Some id;
  value_names = 1;
}

abbrev types_rule : Rule
types_rule = option_rule (codes "types")

-- of the help; clap is given no words with it
abbrev name_rule : Rule
name_rule = option_rule (codes "name")

abbrev pub rules_for : Form → List Rule
rules_for (Names make) = names_rule ∷ []
rules_for (Query make) = word_rule (codes "query") ∷ names_rule ∷ []
rules_for (Sizes make) = word_rule (codes "sizes") ∷ word_rule (codes "query") ∷ names_rule ∷ []
rules_for (Offset make) = option_rule (codes "length") ∷ word_rule (codes "offset") ∷ word_rule (codes "name") ∷ []
rules_for (Typed make) = types_rule ∷ name_rule ∷ names_rule ∷ []
rules_for (TypedSizes make) = types_rule ∷ name_rule ∷ word_rule (codes "sizes") ∷ word_rule (codes "query") ∷ names_rule ∷ []

abbrev pub command_with : Text → List Rule → Shape
command_with name rules = record (new_shape name) { rules = rules }

abbrev pub command_for : Text × Form → Shape
command_for c = command_with c.0 (rules_for c.1)

abbrev pub program : Shape
program = record (new_shape (codes "warcdx")) {
  is_leaf = false;
  no_binary_name = true;
  disable_help_subcommand = true;
}

abbrev pub warcdx : App
warcdx = record { top = program; subs = map command_for commands }

-- ---- the answer

-- sizes, a query and names
abbrev pub sized_query : List Row → Option (List ℕ × Text × List Text)
sized_query rows = option_and_then (λ sizes. option_and_then
    (λ query. option_and_then (λ names. option_map (λ s. (s, query, names)) (sizes_of sizes))
    (all_of (codes "names") rows))
    (first_of (codes "query") rows)) (first_of (codes "sizes") rows)

-- the types of the option's word, or the usual ones where it isn't given
abbrev pub given_types : Option Text → Option Types
given_types None = Some usual_types
given_types (Some text) = types_of text

abbrev pub chosen_types : List Row → Option Types
chosen_types rows = given_types (first_of (codes "types") rows)

-- the length of the option's word, or none where it isn't given
abbrev pub given_length : Option Text → Option (Option ℕ)
given_length None = Some None
given_length (Some text) = option_map Some (offset_of text)

abbrev pub chosen_length : List Row → Option (Option ℕ)
chosen_length rows = given_length (first_of (codes "length") rows)

-- the offset and the name of a record
abbrev pub offset_and_name : List Row → Option (ℕ × Text)
offset_and_name rows = option_and_then
    (λ offset. option_and_then (λ name. option_map (λ n. (n, name)) (offset_of offset)) (first_of (codes "name") rows))
    (first_of (codes "offset") rows)

-- the task that the values of a command make
abbrev pub values_task : Form → List Row → Option Meaning
values_task (Names make) rows = option_map make (all_of (codes "names") rows)
values_task (Query make) rows = option_and_then
    (λ query. option_map (make query) (all_of (codes "names") rows)) (first_of (codes "query") rows)
values_task (Sizes make) rows = option_map (λ asked. make asked.0 asked.1 asked.2) (sized_query rows)
values_task (Offset make) rows = option_and_then
    (λ length. option_map (λ place. make length place.0 place.1) (offset_and_name rows)) (chosen_length rows)
values_task (Typed make) rows = option_and_then
    (λ types. option_map (make types) (all_of (codes "names") rows)) (chosen_types rows)
values_task (TypedSizes make) rows = option_and_then
    (λ types. option_map (λ asked. make types asked.0 asked.1 asked.2) (sized_query rows)) (chosen_types rows)

-- the task of the command that was met, with its values
abbrev pub matches_task : Option (Text × List Row) → Option Meaning
matches_task None = Some list_input
matches_task (Some met) = option_and_then (λ c. values_task c.1 met.1) (command_of met.0)

-- what an error of clap's refuses; nothing for want of memory
abbrev pub refusal_for : ErrorKind → Option Refusal
refusal_for kind.OutOfMemory = None
refusal_for kind.DisplayHelp = Some Help
refusal_for _ = Some Usage
