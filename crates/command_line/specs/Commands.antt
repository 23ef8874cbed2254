-- The commands, and what the words of a command line ask for.
use Rattle.std.specs.Prelude.{ℕ, List, [], ◌∷◌, ◌||◌, ◌&&◌, Bool, false, Option, None, Some, Result, Ok, Err}
use Rattle.std.specs.Prelude.{MatchResult, ◌≡◌, if◌then◌else◌, codes, bytes_eq, find, is_some, option_map}
use Rattle.std.specs.Prelude.{not, option_and_then, string_bytes}
use Rattle.std.specs.List.{list_any}
use Rattle.std.specs.Option.{IfSome, ok_or}
use Rattle.capture_core.specs.Types.{types_of, usual_types}
use Rattle.capture_core.specs.declared.types.Types.{Types}
use Rattle.cdxj_places.specs.Places.{offset_of}
use Rattle.command_line.specs.declared.fault.WordsFault.{WordsFault}
use Rattle.command_line.specs.declared.fault.WordsFault.TheVariants as fault
use Rattle.command_line.specs.declared.task.Task.{Task}
use Rattle.command_line.specs.declared.task.Task.TheVariants as task
use Rattle.command_line.specs.Words.{Text, texts, asks_for_help, is_option, is_unknown_option, is_version}
use Rattle.command_line.specs.Sizes.{sizes_of}

-- ---- the table of commands

-- a task, with its names as texts; of an index or a scan with the name of standard input, where one is given
pub data Meaning : Type 0 where
  ToList : List Text → Meaning
  ToVerify : List Text → Meaning
  ToIndex : Types → Option Text → List Text → Meaning
  ToMerge : List Text → Meaning
  ToCheck : List Text → Meaning
  ToQuery : Text → List Text → Meaning
  ToPages : List ℕ → Text → List Text → Meaning
  ToServe : List Text → Meaning
  ToGet : Option ℕ → ℕ → Text → Meaning
  ToScan : Types → Option Text → List ℕ → Text → List Text → Meaning

-- which operands a command takes, and the task that they make: one name or more; those after a query, or after sizes
-- and a query; an offset and a name, with the length that an option may give; names, or sizes, a query and names, with
-- the types that an option may choose
pub data Form : Type 0 where
  Names : (List Text → Meaning) → Form
  Query : (Text → List Text → Meaning) → Form
  Sizes : (List ℕ → Text → List Text → Meaning) → Form
  Offset : (Option ℕ → ℕ → Text → Meaning) → Form
  Typed : (Types → List Text → Meaning) → Form
  TypedSizes : (Types → List ℕ → Text → List Text → Meaning) → Form

-- standard input has no name
abbrev pub to_index : Types → List Text → Meaning
to_index types names = ToIndex types None names

abbrev pub to_scan : Types → List ℕ → Text → List Text → Meaning
to_scan types sizes query names = ToScan types None sizes query names

abbrev pub commands : List (Text × Form)
commands = (codes "list", Names ToList) ∷ (codes "verify", Names ToVerify) ∷ (codes "index", Typed to_index)
    ∷ (codes "merge", Names ToMerge) ∷ (codes "check", Names ToCheck) ∷ (codes "query", Query ToQuery)
    ∷ (codes "pages", Sizes ToPages) ∷ (codes "serve", Names ToServe) ∷ (codes "get", Offset ToGet)
    ∷ (codes "scan", TypedSizes to_scan) ∷ []

-- ---- words with a task

abbrev pub names_task : (List Text → Meaning) → List Text → Option Meaning
names_task make [] = None
names_task make (name ∷ names) = Some (make (name ∷ names))

abbrev pub sizes_task : (List ℕ → Text → List Text → Meaning) → List Text → Option Meaning
sizes_task make (sizes ∷ query ∷ name ∷ names) = option_map (λ s. make s query (name ∷ names)) (sizes_of sizes)
sizes_task make _ = None

-- `--types`
abbrev pub chooses_types : Text → Bool
chooses_types option = bytes_eq option (codes "--types")

-- the types that a text chooses, and the words after it
abbrev pub types_first : List Text → Option (Types × List Text)
types_first [] = None
types_first (text ∷ words) = option_map (λ types. (types, words)) (types_of text)

-- the types and the operands of the words after a command: `--types` and its text come first, or the types are the
-- usual ones
abbrev pub typed_operands : List Text → Option (Types × List Text)
typed_operands [] = Some (usual_types, [])
typed_operands (word ∷ words) = if chooses_types word then types_first words else Some (usual_types, word ∷ words)

-- `--length`
abbrev pub gives_length : Text → Bool
gives_length option = bytes_eq option (codes "--length")

-- the length that a text gives, and the words after it
abbrev pub length_first : List Text → Option (Option ℕ × List Text)
length_first [] = None
length_first (text ∷ words) = option_map (λ n. (Some n, words)) (offset_of text)

-- the length and the operands of the words after a command: `--length` and its text come first, or there is no length
abbrev pub length_operands : List Text → Option (Option ℕ × List Text)
length_operands [] = Some (None, [])
length_operands (word ∷ words) = if gives_length word then length_first words else Some (None, word ∷ words)

abbrev pub offset_task : (ℕ → Text → Meaning) → List Text → Option Meaning
offset_task make (offset ∷ name ∷ []) = option_map (λ n. make n name) (offset_of offset)
offset_task make _ = None

-- the task of the words after a command
abbrev pub operands_task : Form → List Text → Option Meaning
operands_task (Names make) operands = names_task make operands
operands_task (Query make) (query ∷ name ∷ names) = Some (make query (name ∷ names))
operands_task (Sizes make) operands = sizes_task make operands
operands_task (Offset make) words = option_and_then (λ given. offset_task (make given.0) given.1)
    (length_operands words)
operands_task (Typed make) words = option_and_then (λ typed. names_task (make typed.0) typed.1) (typed_operands words)
operands_task (TypedSizes make) words = option_and_then (λ typed. sizes_task (make typed.0) typed.1)
    (typed_operands words)
operands_task _ _ = None

abbrev pub command_of : Text → Option (Text × Form)
command_of word = find (λ c. bytes_eq c.0 word) commands

-- `list -`
abbrev pub list_input : Meaning
list_input = ToList (codes "-" ∷ [])

-- the task of words with no option but that of their command
abbrev pub task_of : List Text → Option Meaning
task_of [] = Some list_input
task_of (word ∷ operands) = option_and_then (λ c. operands_task c.1 operands) (command_of word)

-- ---- any words

-- the word is the option of a command of this form
abbrev pub is_option_of : Form → Text → Bool
is_option_of (Typed make) word = chooses_types word
is_option_of (TypedSizes make) word = chooses_types word
is_option_of (Offset make) word = gives_length word
is_option_of _ word = false

-- the command takes this option, directly after its name
abbrev pub takes_option : Text → Text → Bool
takes_option command option = list_any (λ c. bytes_eq command c.0 && is_option_of c.1 option) commands

-- the words but for a command and its option directly after it
abbrev pub other_words : List Text → List Text
other_words (command ∷ option ∷ words) =
    if takes_option command option then words else command ∷ option ∷ words
other_words words = words

pub data Refusal : Type 0 where
  Help : Refusal
  Usage : Refusal

-- of words that ask for help: the program's where they begin so, or that of the command that they begin with
abbrev pub help_or_usage : List Text → Refusal
help_or_usage [] = Help
help_or_usage (word ∷ rest) = if asks_for_help word || is_some (command_of word) then Help else Usage

-- the only word asks for the version
abbrev pub asks_for_version : List Text → Bool
asks_for_version (word ∷ []) = is_version word
asks_for_version words = false

-- an unknown option outweighs help, and help the number of the operands
abbrev pub asked_of : List Text → Result Meaning Refusal
asked_of words = if list_any is_unknown_option (other_words words) then Err Usage
    else (if list_any asks_for_help (other_words words) then Err (help_or_usage words)
    else ok_or (task_of words) Usage)

-- ---- the name of standard input

-- `--name`
abbrev pub gives_name : Text → Bool
gives_name option = bytes_eq option (codes "--name")

-- the option names standard input for a command that takes types
abbrev pub names_input : Text → Text → Text → Bool
names_input command option name = takes_option command (codes "--types") && gives_name option && not (is_option name)

-- the name after a command, its option and a text, and the other words
abbrev pub named_later : List Text → Option (Text × List Text)
named_later (command ∷ option ∷ text ∷ second ∷ name ∷ words) =
    if takes_option command option && names_input command second name
    then Some (name, command ∷ option ∷ text ∷ words) else None
named_later words = None

-- the name of standard input and the other words, where `--name` and a name stand directly after a command, or after
-- its option and a text
abbrev pub named : List Text → Option (Text × List Text)
named (command ∷ option ∷ name ∷ words) =
    if names_input command option name then Some (name, command ∷ words)
    else named_later (command ∷ option ∷ name ∷ words)
named words = None

-- `-`
abbrev pub is_input : Text → Bool
is_input name = bytes_eq name (codes "-")

-- the task with this name of standard input, which is one of its archives
abbrev pub with_input : Text → Meaning → Option Meaning
with_input name (ToIndex types given names) =
    if list_any is_input names then Some (ToIndex types (Some name) names) else None
with_input name (ToScan types given sizes query names) =
    if list_any is_input names then Some (ToScan types (Some name) sizes query names) else None
with_input name task = None

abbrev pub named_as : Text → Result Meaning Refusal → Result Meaning Refusal
named_as name (Ok task) = ok_or (with_input name task) Usage
named_as name (Err refusal) = Err refusal

abbrev pub named_task : Option (Text × List Text) → List Text → Result Meaning Refusal
named_task None words = asked_of words
named_task (Some given) words = named_as given.0 (asked_of given.1)

-- the version is printed as help is
abbrev pub asked : List Text → Result Meaning Refusal
asked words = if asks_for_version words then Err Help else named_task (named words) words

-- ---- what the code answers

abbrev pub view : Task → Meaning
view (task.List names) = ToList (texts names.items)
view (task.Verify names) = ToVerify (texts names.items)
view (task.Index types input names) = ToIndex types (option_map string_bytes input) (texts names.items)
view (task.Merge names) = ToMerge (texts names.items)
view (task.Check names) = ToCheck (texts names.items)
view (task.Query query names) = ToQuery (string_bytes query) (texts names.items)
view (task.Pages sizes query names) = ToPages sizes.items (string_bytes query) (texts names.items)
view (task.Serve names) = ToServe (texts names.items)
view (task.Get length offset name) = ToGet length offset (string_bytes name)
view (task.Scan types input sizes query names) =
    ToScan types (option_map string_bytes input) sizes.items (string_bytes query) (texts names.items)

-- nothing for want of memory
abbrev pub refusal_of : WordsFault → Option Refusal
refusal_of fault.Memory = None
refusal_of (fault.Help text) = Some Help
refusal_of (fault.Usage text) = Some Usage

-- for want of memory, or a fault of usage
abbrev pub IsUsage : WordsFault → Type 0
IsUsage fault = IfSome (refusal_of fault) (λ refusal. refusal ≡ Usage)

-- the answer is the one that is wanted, but for memory
abbrev pub IsMeant : Result Meaning Refusal → Result Task WordsFault → Type 0
IsMeant wanted result = MatchResult result (λ task. wanted ≡ Ok (view task))
    (λ fault. IfSome (refusal_of fault) (λ refusal. wanted ≡ Err refusal))
