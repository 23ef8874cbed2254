-- Pages that queries have of a list of lines.
use Rattle.std.specs.Prelude.{◌≡◌, ℕ, List, [], ◌∷◌, codes, Ok}
use Rattle.cdxj_core.specs.Members.{Member, entry_member}
use Rattle.query_core.specs.QueryPages.{answer_text, query_page}
use Rattle.query_text.specs.declared.query.TheConstants.{QUERY_LIMIT}
use Rattle.query_text.specs.Queries.{QueryValue, query_of}

-- the line of a capture with this key and stamp, and this offset in its archive
abbrev pub line_at : List ℕ → List ℕ → ℕ → Member
line_at key stamp offset = entry_member (record {
  key = key;
  stamp = stamp;
  url = codes "http://a.org/";
  mime = codes "text/plain";
  status = codes "200";
  digest = codes "AB";
  length = 201;
  offset = offset;
  filename = codes "a.warc";
})

-- two captures of one page, one of a host below its host, and one of another host, whose name begins alike
abbrev pub four_lines : List Member
four_lines = line_at (codes "org,a)/") (codes "20250102030405") 0
    ∷ line_at (codes "org,a)/") (codes "20260102030405") 9
    ∷ line_at (codes "org,a,m)/") (codes "20250102030405") 201
    ∷ line_at (codes "org,ab)/") (codes "20250102030405") 402 ∷ []

-- the page that a query of this text has of them
abbrev pub HasPage : List ℕ → List ℕ → Type 0
HasPage text page = (q : QueryValue) × (query_of QUERY_LIMIT text ≡ Ok q)
    × (answer_text q (query_page q four_lines) ≡ page)

pub record QueriesHavePages : Type 0 where
  pub host : HasPage (codes "key=org,a&matchType=host&fl=offset") (codes "0\n9\n")
  pub domain : HasPage (codes "key=org,a&matchType=domain&fl=offset") (codes "0\n9\n201\n")
  pub time : HasPage (codes "key=org,&matchType=prefix&from=2026&fl=offset") (codes "9\n")
  pub filter : HasPage (codes "key=org,&matchType=prefix&filter=!timestamp:20260102030405&fl=offset")
      (codes "0\n201\n402\n")
  pub collapse : HasPage (codes "key=org,&matchType=prefix&collapse=urlkey&fl=offset") (codes "0\n201\n402\n")
  pub json : HasPage (codes "key=org,a)/&limit=1&showResumeKey=true&fl=timestamp,offset&output=json")
      (codes "[[\"timestamp\",\"offset\"],\n[\"20250102030405\",\"0\"],\n[],\n[\"org%2Ca%29%2F+20250102030405+a.warc+0\"]]\n")
