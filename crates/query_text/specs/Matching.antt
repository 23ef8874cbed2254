-- Which lines a query asks for, and which keys are past them.
use Rattle.std.specs.Prelude.{◌==◌, ◌&&◌, ◌||◌, Bool, true, false, not, nat_eq, [], ◌∷◌, take, drop, length, bytes_eq}
use Rattle.std.specs.Prelude.{Option, Some, None}
use Rattle.std.specs.List.{list_all, starts_with}
use Rattle.std.specs.Ordering.{nat_cmp, is_gt, is_ge, is_le}
use Rattle.std.specs.Cmp.Lexicographic.{slice_cmp}
use Rattle.cdxj_core.specs.Lines.{LineValue}
use Rattle.query_text.specs.declared.target.MatchKind.{MatchKind}
use Rattle.query_text.specs.declared.target.MatchKind.TheVariants.{Exact, Prefix, Host, Domain}
use Rattle.query_text.specs.Readings.{Text}
use Rattle.query_text.specs.Filters.{holds}
use Rattle.query_text.specs.Targets.{TargetValue}
use Rattle.query_text.specs.Queries.{QueryValue}

-- ---- keys

-- the text begins with the front
abbrev pub begins : Text → Text → Bool
begins front text = starts_with nat_eq text front

abbrev pub kind_covers : MatchKind → Text → Text → Bool
kind_covers Exact text key = bytes_eq key text
kind_covers Prefix text key = begins text key
kind_covers Host text key = begins text key
kind_covers Domain text key = begins text key

-- the key is in the range of the target
abbrev pub covers : TargetValue → Text → Bool
covers t key = kind_covers t.kind t.text key

-- a host ends before `)` or `:`
abbrev pub ends_host : Text → Bool
ends_host [] = false
ends_host (b ∷ bytes) = b == 41 || b == 58

-- a domain ends before `)`, `,` or `:`
abbrev pub ends_domain : Text → Bool
ends_domain [] = false
ends_domain (b ∷ bytes) = b == 41 || b == 44 || b == 58

-- what may stand in a key after the target
abbrev pub may_follow : MatchKind → Text → Bool
may_follow Exact rest = true
may_follow Prefix rest = true
may_follow Host rest = ends_host rest
may_follow Domain rest = ends_domain rest

-- the target asks for the key
abbrev pub key_matches : TargetValue → Text → Bool
key_matches t key = covers t key && may_follow t.kind (drop (length t.text) key)

-- the first text is above the second, by bytes
abbrev pub is_text_above : Text → Text → Bool
is_text_above text other = is_gt (slice_cmp nat_cmp text other)

-- the key is past the range of the target
abbrev pub is_past : TargetValue → Text → Bool
is_past t key = is_text_above key t.text && not (covers t key)

-- ---- stamps

-- the stamp's first digits are not below these
abbrev pub not_before : Option Text → Text → Bool
not_before None stamp = true
not_before (Some digits) stamp = is_ge (slice_cmp nat_cmp (take (length digits) stamp) digits)

-- the stamp's first digits are not above these
abbrev pub not_after : Option Text → Text → Bool
not_after None stamp = true
not_after (Some digits) stamp = is_le (slice_cmp nat_cmp (take (length digits) stamp) digits)

-- ---- lines

-- the query asks for lines of the key and the stamp
abbrev pub matches_pair : QueryValue → Text → Text → Bool
matches_pair q key stamp = key_matches q.target key && not_before q.from stamp && not_after q.to stamp

-- all filters hold of the line
abbrev pub passes_filters : QueryValue → LineValue → Bool
passes_filters q line = list_all (holds line) q.filters

-- the query asks for the line
abbrev pub matches : QueryValue → LineValue → Bool
matches q line = matches_pair q line.key line.stamp && passes_filters q line
