-- Keys, lines and queries, and what the definitions say of them.
use Rattle.std.specs.Prelude.{◌≡◌, ℕ, List, [], ◌∷◌, codes, Ok, Err, None, Some, true, false}
use Rattle.cdxj_core.specs.declared.limit.TheConstants.{LINE_LIMIT}
use Rattle.cdxj_core.specs.Entries.{line_text}
use Rattle.cdxj_core.specs.Indexes.{IsIndex}
use Rattle.cdxj_core.specs.Members.{entry_member}
use Rattle.cdxj_keys.specs.Key.{key_of}
use Rattle.query_text.specs.declared.fault.QueryFault.TheVariants as refusals
use Rattle.query_text.specs.declared.query.TheConstants.{QUERY_LIMIT}
use Rattle.query_text.specs.declared.target.MatchKind.TheVariants.{Prefix}
use Rattle.query_text.specs.declared.output.OutputFormat.TheVariants as outputs
use Rattle.cdxj_core.specs.declared.field.Field.TheVariants as field
use Rattle.query_text.specs.Matching.{matches}
use Rattle.query_text.specs.Queries.{QueryValue, query_of}
use Rattle.door_examples.specs.Archives.{a_entry}

-- the key of a URL
abbrev pub KeyIsFound : Type 0
KeyIsFound = key_of (codes "http://www.A.org:80/B?c") ≡ codes "org,a)/b?c"

-- the line of an entry, and the index of that line
abbrev pub a_line : List ℕ
a_line = codes
    "org,a)/ 20250102030405 {\"url\": \"http://a.org/\", \"mime\": \"text/plain\", \"status\": \"-\", \"digest\": \"AB\", \"length\": \"201\", \"offset\": \"0\", \"filename\": \"a.warc\"}\n"

pub record LineIsIndex : Type 0 where
  pub written : line_text a_entry ≡ a_line
  pub read : IsIndex LINE_LIMIT a_line (entry_member a_entry ∷ [])

-- the query of a text
abbrev pub orgs_text : List ℕ
orgs_text = codes "key=org,&matchType=prefix&to=2025&fl=urlkey,offset"

abbrev pub orgs : QueryValue
orgs = record {
  target = record { kind = Prefix; text = codes "org," };
  from = None;
  to = Some (codes "2025");
  filters = [];
  limit = None;
  resume = None;
  show_resume_key = false;
  fields = field.Urlkey ∷ field.Offset ∷ [];
  output = outputs.Text;
  collapse = None;
}

-- the query of a text, a line that it selects, and the same query of an earlier time, which doesn't
pub record QueryIsRead : Type 0 where
  pub meaning : query_of QUERY_LIMIT orgs_text ≡ Ok orgs
  pub refused : query_of QUERY_LIMIT (codes "limit=1") ≡ Err refusals.NoUrl
  pub selects : matches orgs (entry_member a_entry).values ≡ true
  pub leaves_out : matches (record orgs { to = Some (codes "2024") }) (entry_member a_entry).values ≡ false
