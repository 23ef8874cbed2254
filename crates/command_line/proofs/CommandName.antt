-- What clap makes of a command's name, and of the words after it.
use Rattle.std.proofs.Common.{arith, rules, refl, ◌≡◌, List, [], ◌∷◌, ◌++◌, Some, None, Bool, true, false}
use Rattle.std.proofs.Common.{bytes_eq, ap, ◌∙◌, append_assoc, fold, map, option_map, find}
use Rattle.std.proofs.lemmas.Slice.Eq.{bytes_eq-Decides}
use Rattle.std.specs.Char.{encode_utf8}
use Rattle.std.specs.Str.{chars}
use Rattle.clap.specs.Words.{App, Row, Shape, built}
use Rattle.clap.specs.Simple.{names_of, label_of, entered}
use Rattle.clap.specs.Walk.{Walk, Names, walked, walk, walk_from, stop_after, nothing_held, answers_to, finished}
use Rattle.clap.specs.Faults.{flags_fault, walk_fault, defaults_fault, level_fault, built_fault, is_simple_and_free}
use Rattle.clap.specs.Kinds.{Kinds, or_else}
use Rattle.clap.specs.declared.error.kind.ErrorKind.TheVariants as kind
use Rattle.command_line.specs.Words.{Text, asks_for_help}
use Rattle.command_line.specs.Commands.{Form, commands}
use Rattle.command_line.specs.Clap.{warcdx}
use Rattle.command_line.proofs.PlainWords.{IsPlain, help_word}
use Rattle.command_line.proofs.OperandWalk.{shaped, rules_of, are_usage}

pub free : is_simple_and_free warcdx ≡ true
free = refl

abbrev head : Shape
head = (built warcdx).top

-- the program as clap builds it, with any list of commands
abbrev pub app_for : List (Text × Form) → App
app_for cs = record { top = head; subs = map shaped cs }

-- ---- finding a command by its name

abbrev pub is_named : Text → Text × Form → Bool
is_named word c = bytes_eq c.0 word

met_in : (word : Text) (cs : List (Text × Form))
    → find (answers_to word) (names_of (app_for cs)) ≡ option_map (λ c. label_of (shaped c)) (find (is_named word) cs)
met_in word [] = refl
met_in word (c ∷ cs) = grind (arith, met_in word cs)

shape_in : (word : Text) (cs : List (Text × Form))
    → find (λ s. answers_to word (label_of s)) (app_for cs).subs ≡ option_map shaped (find (is_named word) cs)
shape_in word [] = refl
shape_in word (c ∷ cs) = grind (arith, shape_in word cs)

-- what is found has the name that was asked for
pub same_name : (word : Text) (cs : List (Text × Form)) (c : Text × Form) → find (is_named word) cs ≡ Some c
    → find (is_named word) cs ≡ Some (word, c.1)
same_name word [] c h = cc
same_name word (d ∷ cs) c h = grind (arith, bytes_eq-Decides, same_name word cs c)

-- ---- the walk: the name is met, and the words after it are the command's

abbrev stopped_at : Text → List Text → Walk
stopped_at name words = record (walk_from nothing_held) { stopped = Some (name, words) }

met : (word : Text) (form : Form) (cs : List (Text × Form)) → find (is_named word) cs ≡ Some (word, form)
    → walked head.rules (names_of (app_for cs)) (walk_from nothing_held) word ≡ stopped_at word []
unfolding walked
met word form cs e = rw (met_in word cs, e) refl

one_more : (names : Names) (name : Text) (before : List Text) (word : Text)
    → walked head.rules names (stopped_at name before) word ≡ stopped_at name (before ++ word ∷ [])
unfolding walked
one_more names name before word = refl

all_more : (names : Names) (name : Text) (before words : List Text)
    → fold (walked head.rules names) (stopped_at name before) words ≡ stopped_at name (before ++ words)
all_more names name before [] = search rules
all_more names name before (word ∷ words) =
    grind (arith, fold, one_more, append_assoc, all_more names name (before ++ word ∷ []) words)

stops : (word : Text) (form : Form) (cs : List (Text × Form)) (rest : List Text) → find (is_named word) cs
    ≡ Some (word, form)
    → walk head.rules (names_of (app_for cs)) nothing_held (word ∷ rest) ≡ stopped_at word rest
stops word form cs rest e = grind (arith, met, all_more)

pub given : (word : Text) (form : Form) (cs : List (Text × Form)) (rest : List Text) (rows : List Row)
    → find (is_named word) cs ≡ Some (word, form)
    → finished (rules_of form) (walk (rules_of form) [] nothing_held rest).held ≡ rows
    → entered (app_for cs) (stop_after head.rules (names_of (app_for cs)) (word ∷ rest)) ≡ Some (word, rows)
given word form cs rest rows e values =
    ap (λ (w : Walk). entered (app_for cs) w.stopped) (stops word form cs rest e)
    ∙ rw (shape_in word cs, e, values) refl

-- ---- faults

one_more_clear : (names : Names) (name : Text) (before : List Text) (word : Text) (words : List Text)
    → walk_fault head names (stopped_at name before) (word ∷ words)
    ≡ walk_fault head names (walked head.rules names (stopped_at name before) word) words
unfolding walk_fault
one_more_clear names name before word words = refl

all_clear : (names : Names) (name : Text) (before words : List Text)
    → walk_fault head names (stopped_at name before) words ≡ []
all_clear names name before [] = unfold walk_fault in refl
all_clear names name before (word ∷ words) =
    grind (arith, one_more_clear, one_more, all_clear names name (before ++ word ∷ []) words)

name_clear : (word : Text) (form : Form) (cs : List (Text × Form)) (words : List Text) → find (is_named word) cs
    ≡ Some (word, form)
    → walk_fault head (names_of (app_for cs)) (walk_from nothing_held) (word ∷ words)
    ≡ walk_fault head (names_of (app_for cs)) (walked head.rules (names_of (app_for cs)) (walk_from nothing_held) word)
    words
unfolding walk_fault
name_clear word form cs words e = grind (arith, met_in)

above_clear : (word : Text) (form : Form) (cs : List (Text × Form)) (rest : List Text) → find (is_named word) cs
    ≡ Some (word, form)
    → walk_fault head (names_of (app_for cs)) (walk_from nothing_held) (word ∷ rest) ≡ []
above_clear word form cs rest e = grind (arith, name_clear, met, all_clear)

or_nothing : (ks : Kinds) → or_else ks [] ≡ ks
or_nothing ks = grind arith

-- the fault is the command's
pub below : (word : Text) (form : Form) (cs : List (Text × Form)) (rest : List Text) → find (is_named word) cs
    ≡ Some (word, form)
    → built_fault (app_for cs) nothing_held (word ∷ rest)
    ≡ level_fault (shaped (word, form)) [] nothing_held rest false []
unfolding defaults_fault
below word form cs rest e =
    rw (stops word form cs rest e, shape_in word cs, e, above_clear word form cs rest e) (or_nothing _)

pub unknown : (word : Text) (cs : List (Text × Form)) (rest : List Text) → find (is_named word) cs ≡ None → IsPlain word
    → are_usage (built_fault (app_for cs) nothing_held (word ∷ rest)) ≡ true
unfolding walk_fault
unknown word cs rest e p = grind (arith, met_in)

pub top_help : (word : Text) (rest : List Text) → asks_for_help word ≡ true
    → built_fault (app_for commands) nothing_held (word ∷ rest) ≡ kind.DisplayHelp ∷ []
unfolding walk_fault flags_fault chars encode_utf8
top_help word rest h = grind (arith, help_word)
