-- How clap walks over the names after a command, and counts them.
use Rattle.std.proofs.Common.{rules, arith, refl, ℕ, ◌≡◌, ◌<◌, ◌^◌, List, [], ◌∷◌, ◌++◌, Some, None, Bool, true}
use Rattle.std.proofs.Common.{false, codes, length, append_assoc, fold, Option}
use Rattle.std.specs.List.{list_all}
use Rattle.clap.specs.Words.{Row, Rule, Shape}
use Rattle.clap.specs.Simple.{built_leaf, inherited, with_leaf_noted, marked_built}
use Rattle.clap.specs.Walk.{Walk, walked, positional, reading_by}
use Rattle.clap.specs.Faults.{walk_fault, values_fault}
use Rattle.clap.specs.Kinds.{Kinds, range_kinds}
use Rattle.clap.specs.Lexer.{usize_max}
use Rattle.clap.specs.declared.parser.matches.ValueSource.TheVariants.{CommandLine}
use Rattle.command_line.specs.Words.{Text}
use Rattle.command_line.specs.Commands.{Form, Names as OfNames, Query as OfQuery, Sizes as OfSizes, Offset as OfOffset}
use Rattle.command_line.specs.Commands.{Typed as OfTyped, TypedSizes as OfTypedSizes, Refusal, Usage}
use Rattle.command_line.specs.Clap.{names_rule, program, command_for, refusal_for}
use Rattle.command_line.proofs.PlainWords.{IsPlain, AllPlain}

-- a command as clap builds it
abbrev pub shaped : Text × Form → Shape
shaped c = built_leaf (inherited (with_leaf_noted (marked_built program)) (command_for c))

abbrev pub rules_of : Form → List Rule
rules_of form = (shaped ([], form)).rules

-- whether a command has as many operands as it takes
abbrev pub fits : Form → List Text → Bool
fits (OfNames make) (a ∷ more) = true
fits (OfQuery make) (a ∷ b ∷ more) = true
fits (OfSizes make) (a ∷ b ∷ c ∷ more) = true
fits (OfOffset make) (a ∷ b ∷ []) = true
fits (OfTyped make) (a ∷ more) = true
fits (OfTypedSizes make) (a ∷ b ∷ c ∷ more) = true
fits _ _ = false

abbrev pub row : Text → List Text → Row
row id values = record {
  id = id;
  values = values;
  count = None;
  source = Some CommandLine;
  reading = reading_by names_rule;
}

-- ---- the walk over plain words

abbrev pub takes_names : Form → Bool
takes_names (OfOffset make) = false
takes_names _ = true

-- the place of the names, counted from 1
abbrev pub names_at : Form → ℕ
names_at (OfNames make) = 1
names_at (OfTyped make) = 1
names_at (OfQuery make) = 2
names_at _ = 3

-- after some of the names, with the rows of what stands before them
abbrev pub after : Form → List Row → List Text → Walk
after form rows words = record {
  held = record { rows = rows; pending = Some (codes "names", words); skip = 0 };
  waiting = positional;
  position = names_at form;
  is_trailing = false;
  stopped = None;
}

next : (form : Form) (rows : List Row) (before : List Text) (word : Text) → takes_names form ≡ true → IsPlain word
    → walked (rules_of form) [] (after form rows before) word ≡ after form rows (before ++ word ∷ [])
unfolding walked
next form rows before word t p = grind arith

pub walk_on : (form : Form) (rows : List Row) (before words : List Text) → takes_names form ≡ true → AllPlain words
    → fold (walked (rules_of form) []) (after form rows before) words ≡ after form rows (before ++ words)
walk_on form rows before [] t p = search rules
walk_on form rows before (word ∷ words) t p =
    grind (arith, fold, next, append_assoc, walk_on form rows (before ++ word ∷ []) words t p.1)

-- the row of a query, and the rows of sizes and a query
abbrev pub query_row : Text → List Row
query_row query = row (codes "query") (query ∷ []) ∷ []

abbrev pub sizes_rows : Text → Text → List Row
sizes_rows sizes query = row (codes "sizes") (sizes ∷ []) ∷ query_row query

-- ---- no fault in the names

next_clear : (name : Text) (form : Form) (rows : List Row) (before : List Text) (word : Text) (words : List Text)
    → takes_names form ≡ true → IsPlain word
    → walk_fault (shaped (name, form)) [] (after form rows before) (word ∷ words)
    ≡ walk_fault (shaped (name, form)) [] (walked (rules_of form) [] (after form rows before) word) words
unfolding walk_fault
next_clear name form rows before word words t p = grind arith

pub walk_clear : (name : Text) (form : Form) (rows : List Row) (before words : List Text) → takes_names form ≡ true
    → AllPlain words
    → walk_fault (shaped (name, form)) [] (after form rows before) words ≡ []
walk_clear name form rows before [] t p = unfold walk_fault in refl
walk_clear name form rows before (word ∷ words) t p =
    grind (arith, next_clear, next, walk_clear name form rows (before ++ word ∷ []) words t p.1)

-- ---- the number of names

pub in_range : (words : List Text) → 0 < length words → length words < 2 ^ 64 → range_kinds 1 usize_max (length words)
    ≡ []
in_range words some short = grind arith

pub any_text : (words : List Text) → values_fault names_rule words ≡ []
any_text [] = refl
any_text (word ∷ words) = any_text words

-- ---- faults of usage

abbrev pub is_usage : Option Refusal → Bool
is_usage (Some Usage) = true
is_usage _ = false

-- some kind, and none for help or for want of memory
abbrev pub are_usage : Kinds → Bool
are_usage [] = false
are_usage (k ∷ ks) = list_all (λ kind. is_usage (refusal_for kind)) (k ∷ ks)
