-- The host key of a web URL begins its key.
use Rattle.std.proofs.Common.{arith, ◌≡◌, ℕ, List, [], ◌∷◌, ◌++◌, Some, None, Result, Ok, Err}
use Rattle.std.proofs.Common.{option_map, append_assoc}
use Rattle.std.proofs.lemmas.List.Concat.{flat_map-append}
use Rattle.url.specs.declared.error.ParseError.{ParseError}
use Rattle.url.specs.Parts.{Parts, host_or_empty}
use Rattle.url.specs.Parser.{parse_url}
use Rattle.cdxj_keys.specs.Key.{key_host, port_text, query_text, web_text, key_text, folded, key_of}
use Rattle.cdxj_keys.specs.Key.{host_text_of, host_key_of}

abbrev Begins : List ℕ → List ℕ → Type 0
Begins host key = (rest : List ℕ) × (key ≡ host ++ rest)

regroup : (a b c d e : List ℕ) → (((a ++ b) ++ c) ++ d) ++ e ≡ a ++ (b ++ (c ++ (d ++ e)))
regroup a b c d e = simp append_assoc

web_begins : (url : Parts) → Begins (folded (key_host (host_or_empty url))) (folded (web_text url))
web_begins url =
    let rest = port_text url.port ++ ((41 ∷ []) ++ (url.path ++ query_text url.query)) in (
      folded rest,
      grind (arith, regroup, flat_map-append),
    )

begins : (read : Result Parts ParseError) (target host : List ℕ) → option_map folded (host_text_of read) ≡ Some host
    → Begins host (folded (key_text read target))
begins (Ok url) target host h = let w = web_begins url in grind arith
begins (Err e) target host h = absurd (cc)

pub host_begins_key : (target host : List ℕ) → host_key_of target ≡ Some host → (rest : List ℕ)
    × (key_of target ≡ host ++ rest)
unfolding host_key_of key_of
host_begins_key target host h = begins (parse_url None target) target host h
