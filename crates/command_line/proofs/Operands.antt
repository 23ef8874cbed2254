-- What clap makes of the words after a command's name.
use Rattle.std.proofs.Common.{arith, refl, ℕ, ◌≡◌, ◌<◌, ◌^◌, List, [], ◌∷◌, ◌++◌, Some, None, true, false, codes}
use Rattle.std.proofs.Common.{length, ◌∙◌, fold, Bool, Option, option_map, option_and_then}
use Rattle.std.proofs.lemmas.Slice.Eq.{bytes_eq-Decides}
use Rattle.std.specs.Char.{encode_utf8}
use Rattle.std.specs.Str.{chars}
use Rattle.clap.specs.Kinds.{Kinds, or_else}
use Rattle.clap.specs.Words.{Row, Rule, Shape}
use Rattle.clap.specs.Walk.{Walk, Held, walked, walk, walk_from, nothing_held, idle, value, arg_by_index, to_positional}
use Rattle.clap.specs.Walk.{settled, finished}
use Rattle.clap.specs.Faults.{flags_fault, step_fault, settle_fault, walk_fault, defaults_fault, check_fault}
use Rattle.clap.specs.Faults.{level_fault}
use Rattle.clap.specs.declared.error.kind.ErrorKind.TheVariants as kind
use Rattle.capture_core.specs.Types.{usual_types}
use Rattle.command_line.specs.Words.{Text, asks_for_help}
use Rattle.command_line.specs.Commands.{Form, Names as OfNames, Query as OfQuery, Sizes as OfSizes, Offset as OfOffset}
use Rattle.command_line.specs.Commands.{Typed as OfTyped, TypedSizes as OfTypedSizes, chooses_types, gives_length}
use Rattle.command_line.specs.Commands.{length_operands, typed_operands, operands_task}
use Rattle.command_line.specs.Clap.{values_task}
use Rattle.command_line.proofs.PlainWords.{IsPlain, AllPlain, help_word}
use Rattle.command_line.proofs.OperandWalk.{shaped, rules_of, fits, row, after, names_at, takes_names, walk_on}
use Rattle.command_line.proofs.OperandWalk.{walk_clear, query_row}
use Rattle.command_line.proofs.OperandWalk.{sizes_rows, in_range, any_text, are_usage}

-- ---- the option of a command

-- the form has an option
abbrev pub has_option : Form → Bool
has_option (OfTyped make) = true
has_option (OfTypedSizes make) = true
has_option (OfOffset make) = true
has_option _ = false

-- the name of the option
abbrev pub option_name : Form → Text
option_name (OfOffset make) = codes "length"
option_name form = codes "types"

abbrev pub option_word : Form → Text
option_word (OfOffset make) = codes "--length"
option_word form = codes "--types"

-- the option and its text, or nothing
abbrev pub choice_words : Form → Option Text → List Text
choice_words form None = []
choice_words form (Some text) = option_word form ∷ text ∷ []

abbrev choice_rows : Form → Option Text → List Row
choice_rows form None = []
choice_rows form (Some text) = row (option_name form) (text ∷ []) ∷ []

-- the command takes the option, and the text is no option
abbrev pub MayChoose : Form → Option Text → Type 0
MayChoose form None = Unit {0}
MayChoose form (Some text) = (has_option form ≡ true) × IsPlain text

-- before the operands
abbrev start : Form → Option Text → Walk
start form None = walk_from nothing_held
start form (Some text) = walk_from (record { rows = []; pending = Some (option_name form, text ∷ []); skip = 0 })

-- ---- a plain word

-- the first walk goes over its words as the second one over others, with the same faults
abbrev Goes : Text → Form → Walk → List Text → Walk → List Text → Type 0
Goes name form v words w more =
    (fold (walked (rules_of form) []) v words ≡ fold (walked (rules_of form) []) w more)
    × (walk_fault (shaped (name, form)) [] v words ≡ walk_fault (shaped (name, form)) [] w more)

begun : (name : Text) (form : Form) (choice : Option Text) (words : List Text) → MayChoose form choice
    → Goes name form (walk_from nothing_held) (choice_words form choice ++ words) (start form choice) words
unfolding walk_fault walked
begun name form None words m = (refl, refl)
begun name (OfTyped make) (Some text) words (t, c) = rw (c.dashes, c.long, c.short) (refl, refl)
begun name (OfTypedSizes make) (Some text) words (t, c) = rw (c.dashes, c.long, c.short) (refl, refl)
begun name (OfOffset make) (Some text) words (t, c) = rw (c.dashes, c.long, c.short) (refl, refl)
begun _ _ (Some text) words m = cc

-- the walk at this place, where nothing waits for a value
abbrev at : Held → ℕ → Walk
at held position = record { held = held; waiting = idle; position = position; is_trailing = false; stopped = None }

-- the word goes to the argument at its place
abbrev placed : List Rule → Held → ℕ → Text → Walk
placed rules held position word =
    to_positional rules (arg_by_index rules position) word (at held position) held

word_in : (rules : List Rule) (held : Held) (position : ℕ) (word : Text) → IsPlain word
    → walked rules [] (at held position) word ≡ placed rules held position word
unfolding walked
word_in rules held position word p = rw (p.dashes, p.long, p.short) refl

word_fault_in : (s : Shape) (held : Held) (position : ℕ) (word : Text) (words : List Text) → IsPlain word
    → walk_fault s [] (at held position) (word ∷ words)
    ≡ or_else (step_fault s position held value) (walk_fault s [] (placed s.rules held position word) words)
unfolding walk_fault
word_fault_in s held position word words p = rw (p.dashes, p.long, p.short, word_in s.rules held position word p) refl

-- a word that is no fault
met : (name : Text) (form : Form) (held : Held) (position : ℕ) (word : Text) (words : List Text) → IsPlain word
    → step_fault (shaped (name, form)) position held value ≡ []
    → Goes name form (at held position) (word ∷ words) (placed (rules_of form) held position word) words
met name form held position word words p f = (
  rw (word_in (rules_of form) held position word p) refl,
  rw (word_fault_in (shaped (name, form)) held position word words p, f) refl,
)

go_on : (name : Text) (form : Form) (u v w : Walk) (words more rest : List Text) → Goes name form u words v more
    → Goes name form v more w rest → Goes name form u words w rest
go_on name form u v w words more rest f g = (f.0 ∙ g.0, f.1 ∙ g.1)

-- ---- one operand, or two

abbrev takes_one : Form → Bool
takes_one (OfNames make) = false
takes_one (OfTyped make) = false
takes_one form = true

abbrev takes_two : Form → Bool
takes_two (OfQuery make) = false
takes_two form = takes_one form

abbrev takes_sizes : Form → Bool
takes_sizes (OfSizes make) = true
takes_sizes (OfTypedSizes make) = true
takes_sizes form = false

abbrev first_id : Form → Text
first_id (OfQuery make) = codes "query"
first_id (OfOffset make) = codes "offset"
first_id form = codes "sizes"

abbrev second_id : Form → Text
second_id (OfOffset make) = codes "name"
second_id form = codes "query"

-- after the first operand, and after both
abbrev one : Form → Option Text → Text → Walk
one form choice a =
    at (record { rows = choice_rows form choice; pending = Some (first_id form, a ∷ []); skip = 0 }) 2

abbrev two : Form → Option Text → Text → Text → Walk
two form choice a b = at (record {
  rows = choice_rows form choice ++ row (first_id form) (a ∷ []) ∷ [];
  pending = Some (second_id form, b ∷ []);
  skip = 0;
}) 3

to_one : (name : Text) (form : Form) (choice : Option Text) (a : Text) (words : List Text) → takes_one form ≡ true
    → MayChoose form choice → IsPlain a
    → Goes name form (start form choice) (a ∷ words) (one form choice a) words
to_one name (OfQuery make) None a words t m p = met name (OfQuery make) nothing_held 1 a words p refl
to_one name (OfSizes make) None a words t m p = met name (OfSizes make) nothing_held 1 a words p refl
to_one name (OfOffset make) None a words t m p = met name (OfOffset make) nothing_held 1 a words p refl
to_one name (OfOffset make) (Some text) a words t m p =
    met name (OfOffset make) (start (OfOffset make) (Some text)).held 1 a words p refl
to_one name (OfTypedSizes make) None a words t m p = met name (OfTypedSizes make) nothing_held 1 a words p refl
to_one name (OfTypedSizes make) (Some text) a words t m p =
    met name (OfTypedSizes make) (start (OfTypedSizes make) (Some text)).held 1 a words p refl
to_one _ _ _ _ _ t m p = cc

two_met : (name : Text) (form : Form) (choice : Option Text) (a b : Text) (words : List Text) → takes_two form ≡ true
    → MayChoose form choice → IsPlain b
    → Goes name form (one form choice a) (b ∷ words) (two form choice a b) words
two_met name (OfSizes make) None a b words t m p =
    met name (OfSizes make) (one (OfSizes make) None a).held 2 b words p refl
two_met name (OfOffset make) None a b words t m p =
    met name (OfOffset make) (one (OfOffset make) None a).held 2 b words p refl
two_met name (OfOffset make) (Some text) a b words t m p =
    met name (OfOffset make) (one (OfOffset make) (Some text) a).held 2 b words p refl
two_met name (OfTypedSizes make) None a b words t m p =
    met name (OfTypedSizes make) (one (OfTypedSizes make) None a).held 2 b words p refl
two_met name (OfTypedSizes make) (Some text) a b words t m p =
    met name (OfTypedSizes make) (one (OfTypedSizes make) (Some text) a).held 2 b words p refl
two_met _ _ _ _ _ _ t m p = cc

to_two : (name : Text) (form : Form) (choice : Option Text) (a b : Text) (words : List Text) → takes_two form ≡ true
    → takes_one form ≡ true → MayChoose form choice → IsPlain a → IsPlain b
    → Goes name form (start form choice) (a ∷ b ∷ words) (two form choice a b) words
to_two name form choice a b words t u m p q = go_on name form (start form choice) (one form choice a)
    (two form choice a b) (a ∷ b ∷ words) (b ∷ words) words (to_one name form choice a (b ∷ words) u m p)
    (two_met name form choice a b words t m q)

-- ---- operands that fit

-- the rows of what stands before the names
abbrev operand_rows : Form → List Text → List Row
operand_rows (OfQuery make) (a ∷ more) = query_row a
operand_rows (OfSizes make) (a ∷ b ∷ more) = sizes_rows a b
operand_rows (OfTypedSizes make) (a ∷ b ∷ more) = sizes_rows a b
operand_rows form words = []

abbrev names_among : Form → List Text → List Text
names_among (OfQuery make) (a ∷ more) = more
names_among (OfSizes make) (a ∷ b ∷ more) = more
names_among (OfTypedSizes make) (a ∷ b ∷ more) = more
names_among form words = words

-- after an offset and a name
abbrev after_offset : List Row → Text → Text → Walk
after_offset rows offset name = record {
  held = record {
    rows = rows ++ row (codes "offset") (offset ∷ []) ∷ [];
    pending = Some (codes "name", name ∷ []);
    skip = 0;
  };
  waiting = idle;
  position = 3;
  is_trailing = false;
  stopped = None;
}

abbrev end_of : Form → Option Text → List Text → Walk
end_of (OfOffset make) choice (a ∷ b ∷ more) = after_offset (choice_rows (OfOffset make) choice) a b
end_of form choice words = after form (choice_rows form choice ++ operand_rows form words) (names_among form words)

names_in : (name : Text) (form : Form) (rows : List Row) (before words : List Text) → takes_names form ≡ true
    → AllPlain words → Goes name form (after form rows before) words (after form rows (before ++ words)) []
unfolding walk_fault
names_in name form rows before words t p =
    (walk_on form rows before words t p, walk_clear name form rows before words t p)

-- the first name, where the next place is that of the names
name_in : (name : Text) (form : Form) (held : Held) (rows : List Row) (word : Text) (words : List Text)
    → takes_names form ≡ true → IsPlain word → AllPlain words
    → step_fault (shaped (name, form)) (names_at form) held value ≡ []
    → placed (rules_of form) held (names_at form) word ≡ after form rows (word ∷ [])
    → Goes name form (at held (names_at form)) (word ∷ words) (after form rows (word ∷ words)) []
name_in name form held rows word words t p e f h = go_on name form (at held (names_at form))
    (placed (rules_of form) held (names_at form) word) (after form rows (word ∷ words)) (word ∷ words) words []
    (met name form held (names_at form) word words p f) (rw h (names_in name form rows (word ∷ []) words t e))

operands : (name : Text) (form : Form) (choice : Option Text) (words : List Text) → MayChoose form choice
    → fits form words ≡ true → AllPlain words
    → Goes name form (start form choice) words (end_of form choice words) []
operands name (OfNames make) None (a ∷ more) m f (p, e) =
    name_in name (OfNames make) nothing_held [] a more refl p e refl refl
operands name (OfTyped make) None (a ∷ more) m f (p, e) =
    name_in name (OfTyped make) nothing_held [] a more refl p e refl refl
operands name (OfTyped make) (Some text) (a ∷ more) m f (p, e) =
    name_in name (OfTyped make) (start (OfTyped make) (Some text)).held (choice_rows (OfTyped make) (Some text)) a more
    refl p e refl refl
operands name (OfQuery make) None (a ∷ b ∷ more) m f (p, (q, e)) =
    go_on name (OfQuery make) (start (OfQuery make) None) (one (OfQuery make) None a)
    (after (OfQuery make) (query_row a) (b ∷ more)) (a ∷ b ∷ more) (b ∷ more) []
    (to_one name (OfQuery make) None a (b ∷ more) refl m p)
    (name_in name (OfQuery make) (one (OfQuery make) None a).held (query_row a) b more refl q e refl refl)
operands name (OfOffset make) choice (a ∷ b ∷ []) m f (p, (q, e)) =
    to_two name (OfOffset make) choice a b [] refl refl m p q
operands name (OfSizes make) None (a ∷ b ∷ c ∷ more) m f (p, (q, (r, e))) =
    go_on name (OfSizes make) (start (OfSizes make) None) (two (OfSizes make) None a b)
    (end_of (OfSizes make) None (a ∷ b ∷ c ∷ more)) (a ∷ b ∷ c ∷ more) (c ∷ more) []
    (to_two name (OfSizes make) None a b (c ∷ more) refl refl m p q)
    (name_in name (OfSizes make) (two (OfSizes make) None a b).held (sizes_rows a b) c more refl r e refl refl)
operands name (OfTypedSizes make) None (a ∷ b ∷ c ∷ more) m f (p, (q, (r, e))) =
    go_on name (OfTypedSizes make) (start (OfTypedSizes make) None) (two (OfTypedSizes make) None a b)
    (end_of (OfTypedSizes make) None (a ∷ b ∷ c ∷ more)) (a ∷ b ∷ c ∷ more) (c ∷ more) []
    (to_two name (OfTypedSizes make) None a b (c ∷ more) refl refl m p q)
    (name_in name (OfTypedSizes make) (two (OfTypedSizes make) None a b).held (sizes_rows a b) c more refl r e refl
    refl)
operands name (OfTypedSizes make) (Some text) (a ∷ b ∷ c ∷ more) m f (p, (q, (r, e))) =
    go_on name (OfTypedSizes make) (start (OfTypedSizes make) (Some text)) (two (OfTypedSizes make) (Some text) a b)
    (end_of (OfTypedSizes make) (Some text) (a ∷ b ∷ c ∷ more)) (a ∷ b ∷ c ∷ more) (c ∷ more) []
    (to_two name (OfTypedSizes make) (Some text) a b (c ∷ more) refl refl m p q)
    (name_in name (OfTypedSizes make) (two (OfTypedSizes make) (Some text) a b).held
    (choice_rows (OfTypedSizes make) (Some text) ++ sizes_rows a b) c more refl r e refl refl)
operands _ _ _ _ m f p = cc

ends : (form : Form) (choice : Option Text) (words : List Text) → MayChoose form choice → fits form words ≡ true
    → AllPlain words → walk (rules_of form) [] nothing_held (choice_words form choice ++ words) ≡ end_of form choice words
ends form choice words m f p = (begun [] form choice words m).0 ∙ (operands [] form choice words m f p).0

clear : (name : Text) (form : Form) (choice : Option Text) (words : List Text) → MayChoose form choice
    → fits form words ≡ true → AllPlain words
    → walk_fault (shaped (name, form)) [] (walk_from nothing_held) (choice_words form choice ++ words) ≡ []
unfolding walk_fault
clear name form choice words m f p = (begun name form choice words m).1 ∙ (operands name form choice words m f p).1

-- ---- a command's fault

pub level_fits : (name : Text) (form : Form) (choice : Option Text) (words : List Text) → MayChoose form choice
    → fits form words ≡ true → AllPlain words → length words < 2 ^ 64
    → level_fault (shaped (name, form)) [] nothing_held (choice_words form choice ++ words) false [] ≡ []
unfolding defaults_fault
level_fits name form choice words m f p short = grind (arith, ends, clear, in_range, any_text)

-- the faults of a command after a walk
abbrev faults_after : Text → Form → Walk → Kinds
faults_after name form w =
    let s = shaped (name, form) in
    or_else (settle_fault s.rules s.args_override_self w.held)
    (or_else (defaults_fault (settled s.rules w.held).rows s.rules) (check_fault s (finished s.rules w.held) false))

too_few : (name : Text) (form : Form) (choice : Option Text) (words : List Text) (w : Walk) → MayChoose form choice
    → Goes name form (start form choice) words w [] → are_usage (faults_after name form w) ≡ true
    → are_usage (level_fault (shaped (name, form)) [] nothing_held (choice_words form choice ++ words) false []) ≡ true
unfolding walk_fault
too_few name form choice words w m g u =
    rw ((begun name form choice words m).0, (begun name form choice words m).1, g.0, g.1) u

after_none : (name : Text) (form : Form) (choice : Option Text) → MayChoose form choice
    → are_usage (faults_after name form (start form choice)) ≡ true
unfolding defaults_fault
after_none name (OfNames make) None m = refl
after_none name (OfQuery make) None m = refl
after_none name (OfSizes make) None m = refl
after_none name (OfOffset make) None m = refl
after_none name (OfOffset make) (Some text) m = refl
after_none name (OfTyped make) None m = refl
after_none name (OfTyped make) (Some text) m = refl
after_none name (OfTypedSizes make) None m = refl
after_none name (OfTypedSizes make) (Some text) m = refl
after_none _ _ _ m = cc

after_one : (name : Text) (form : Form) (choice : Option Text) (a : Text) → takes_one form ≡ true
    → MayChoose form choice → are_usage (faults_after name form (one form choice a)) ≡ true
unfolding defaults_fault
after_one name (OfQuery make) None a t m = refl
after_one name (OfSizes make) None a t m = refl
after_one name (OfOffset make) None a t m = refl
after_one name (OfOffset make) (Some text) a t m = refl
after_one name (OfTypedSizes make) None a t m = refl
after_one name (OfTypedSizes make) (Some text) a t m = refl
after_one _ _ _ _ t m = cc

after_two : (name : Text) (form : Form) (choice : Option Text) (a b : Text) → takes_sizes form ≡ true
    → MayChoose form choice → are_usage (faults_after name form (two form choice a b)) ≡ true
unfolding defaults_fault
after_two name (OfSizes make) None a b t m = refl
after_two name (OfTypedSizes make) None a b t m = refl
after_two name (OfTypedSizes make) (Some text) a b t m = refl
after_two _ _ _ _ _ t m = cc

unfit_one : (name : Text) (form : Form) (choice : Option Text) (a : Text) → takes_one form ≡ true
    → MayChoose form choice → IsPlain a
    → are_usage (level_fault (shaped (name, form)) [] nothing_held (choice_words form choice ++ a ∷ []) false []) ≡ true
unfit_one name form choice a t m p = too_few name form choice (a ∷ []) (one form choice a) m
    (to_one name form choice a [] t m p) (after_one name form choice a t m)

pub level_unfit : (name : Text) (form : Form) (choice : Option Text) (words : List Text) → MayChoose form choice
    → fits form words ≡ false → AllPlain words
    → are_usage (level_fault (shaped (name, form)) [] nothing_held (choice_words form choice ++ words) false []) ≡ true
level_unfit name form choice [] m f p =
    too_few name form choice [] (start form choice) m (refl, refl) (after_none name form choice m)
level_unfit name (OfQuery make) choice (a ∷ []) m f (p, e) = unfit_one name (OfQuery make) choice a refl m p
level_unfit name (OfSizes make) choice (a ∷ []) m f (p, e) = unfit_one name (OfSizes make) choice a refl m p
level_unfit name (OfOffset make) choice (a ∷ []) m f (p, e) = unfit_one name (OfOffset make) choice a refl m p
level_unfit name (OfTypedSizes make) choice (a ∷ []) m f (p, e) = unfit_one name (OfTypedSizes make) choice a refl m p
level_unfit name (OfSizes make) choice (a ∷ b ∷ []) m f (p, (q, e)) =
    too_few name (OfSizes make) choice (a ∷ b ∷ []) (two (OfSizes make) choice a b) m
    (to_two name (OfSizes make) choice a b [] refl refl m p q) (after_two name (OfSizes make) choice a b refl m)
level_unfit name (OfTypedSizes make) choice (a ∷ b ∷ []) m f (p, (q, e)) =
    too_few name (OfTypedSizes make) choice (a ∷ b ∷ []) (two (OfTypedSizes make) choice a b) m
    (to_two name (OfTypedSizes make) choice a b [] refl refl m p q)
    (after_two name (OfTypedSizes make) choice a b refl m)
level_unfit name (OfOffset make) choice (a ∷ b ∷ c ∷ words) m f (p, (q, (r, e))) =
    rw (
      (begun name (OfOffset make) choice (a ∷ b ∷ c ∷ words) m).1,
      (to_two name (OfOffset make) choice a b (c ∷ words) refl refl m p q).1,
      word_fault_in (shaped (name, OfOffset make)) (two (OfOffset make) choice a b).held 3 c words r,
    ) refl
level_unfit _ _ _ _ m f p = cc

-- an option alone
pub without_text : (name : Text) (form : Form) → has_option form ≡ true
    → are_usage (level_fault (shaped (name, form)) [] nothing_held (option_word form ∷ []) false []) ≡ true
unfolding walk_fault walked defaults_fault
without_text name form t = grind arith

-- a command with a word that asks for help
pub level_help : (name : Text) (form : Form) (help : Text) → asks_for_help help ≡ true
    → level_fault (shaped (name, form)) [] nothing_held (help ∷ []) false [] ≡ kind.DisplayHelp ∷ []
unfolding walk_fault flags_fault chars encode_utf8
level_help name form help h = grind (arith, help_word)

-- ---- the values of a command

abbrev pub rows_of : Form → Option Text → List Text → List Row
rows_of (OfOffset make) choice (a ∷ more) =
    choice_rows (OfOffset make) choice ++ row (codes "offset") (a ∷ []) ∷ row (codes "name") more ∷ []
rows_of form choice words =
    choice_rows form choice ++ operand_rows form words ++ row (codes "names") (names_among form words) ∷ []

pub values : (form : Form) (choice : Option Text) (words : List Text) → MayChoose form choice → fits form words ≡ true
    → AllPlain words
    → finished (rules_of form) (walk (rules_of form) [] nothing_held (choice_words form choice ++ words)).held
    ≡ rows_of form choice words
values form choice words m f p = grind (arith, ends)

-- ---- the task

pub in_turn : {A B C : Type 0} (o : Option A) (f : A → B) (g : B → C) → option_map g (option_map f o)
    ≡ option_map (λ x. g (f x)) o
in_turn o f g = grind arith

-- two ways to go on from a value agree
alike : {A B C : Type 0} (o : Option A) (f : A → Option C) (g : A → B) (h : B → Option C) → ((x : A) → f x ≡ h (g x))
    → option_and_then f o ≡ option_and_then h (option_map g o)
alike o f g h e = grind arith

nowhere : {A B C : Type 0} (o : Option A) (g : A → B) (h : B → Option C) → ((x : A) → h (g x) ≡ None)
    → option_and_then h (option_map g o) ≡ None
nowhere o g h e = grind arith

no_choice : (word : Text) → IsPlain word → chooses_types word ≡ false
no_choice word p = grind (arith, bytes_eq-Decides)

no_length : (word : Text) → IsPlain word → gives_length word ≡ false
no_length word p = grind (arith, bytes_eq-Decides)

-- plain words are all operands, of the usual types
usual : (words : List Text) → AllPlain words → typed_operands words ≡ Some (usual_types, words)
usual words p = grind (arith, no_choice)

-- plain words are all operands, without a length
unmeasured : (words : List Text) → AllPlain words → length_operands words ≡ Some (None, words)
unmeasured words p = grind (arith, no_length)

pub reads : (form : Form) (choice : Option Text) (words : List Text) → MayChoose form choice → fits form words ≡ true
    → AllPlain words → values_task form (rows_of form choice words) ≡ operands_task form (choice_words form choice ++ words)
reads (OfOffset make) None (a ∷ b ∷ []) m f p = grind (arith, unmeasured)
reads (OfOffset make) (Some text) (a ∷ b ∷ []) m f p = grind arith
reads form choice words m f p = grind (arith, usual, alike, in_turn)

-- operands that don't fit have no task, whatever the types
pub unfit_task : (form : Form) (choice : Option Text) (words : List Text) → MayChoose form choice
    → fits form words ≡ false → AllPlain words → operands_task form (choice_words form choice ++ words) ≡ None
unfit_task form choice words m f p = grind (arith, nowhere, usual, unmeasured)
