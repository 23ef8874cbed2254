-- Sets of record types (ISO 28500:2017, clause 6), and their texts.
use Rattle.std.specs.Prelude.{◌≡◌, ℕ, ◌==◌, Bool, true, false, List, [], ◌∷◌, Option, None, Some, option_and_then}
use Rattle.std.specs.Prelude.{if◌then◌else◌, find, bytes_eq}
use Rattle.std.specs.List.{slice_split}
use Rattle.warc_core.specs.Kind.{Kind, kind_name}
use Rattle.warc_core.specs.Kind.kinds
use Rattle.capture_core.specs.declared.types.Types.{Types}

-- the set has the type
abbrev pub includes : Types → Kind → Bool
includes types kinds.Response = types.response
includes types kinds.Resource = types.resource
includes types kinds.Revisit = types.revisit
includes types kinds.Conversion = types.conversion
includes types kinds.Metadata = types.metadata
includes types kind = false

-- the set has one type or more
abbrev pub HasType : Types → Type 0
HasType types = (kind : Kind) × (includes types kind ≡ true)

abbrev pub no_types : Types
no_types = record { response = false; resource = false; revisit = false; conversion = false; metadata = false }

-- the types that are indexed where no others are chosen
abbrev pub usual_types : Types
usual_types = record { response = true; resource = true; revisit = true; conversion = false; metadata = false }

-- the set with the type too
abbrev pub plus_kind : Types → Kind → Option Types
plus_kind types kinds.Response = Some (record types { response = true })
plus_kind types kinds.Resource = Some (record types { resource = true })
plus_kind types kinds.Revisit = Some (record types { revisit = true })
plus_kind types kinds.Conversion = Some (record types { conversion = true })
plus_kind types kinds.Metadata = Some (record types { metadata = true })
plus_kind types kind = None

-- the same, where the set doesn't have the type yet
abbrev pub with_kind : Types → Kind → Option Types
with_kind types kind = if includes types kind then None else plus_kind types kind

-- the types that a set may have
abbrev pub indexable : List Kind
indexable = kinds.Response ∷ kinds.Resource ∷ kinds.Revisit ∷ kinds.Conversion ∷ kinds.Metadata ∷ []

-- the set with the type of this name
unfoldable pub with_name : Types → List ℕ → Option Types
with_name types name = option_and_then (with_kind types) (find (λ kind. bytes_eq (kind_name kind) name) indexable)

-- the set with the types of these names, one after another
abbrev pub with_names : Types → List (List ℕ) → Option Types
with_names types [] = Some types
with_names types (name ∷ names) = option_and_then (λ more. with_names more names) (with_name types name)

-- `b','`
abbrev pub is_comma : ℕ → Bool
is_comma byte = byte == 44

-- the set that a text names: names with a comma between, none twice
abbrev pub types_of : List ℕ → Option Types
types_of text = with_names no_types (slice_split is_comma text)
