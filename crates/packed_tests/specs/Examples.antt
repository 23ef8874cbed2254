-- Literal bytes that are a compressed archive of two records.
use Rattle.std.specs.Prelude.{◌≡◌, ◌++◌, ℕ, List, [], ◌∷◌, take, codes}
use Rattle.warc_core.specs.Kind.kinds
use Rattle.warc_core.specs.declared.fault.Cause.TheVariants as causes
use Rattle.capture_core.specs.CaptureAnswer.{usual_limits}
use Rattle.capture_core.specs.Types.{includes, usual_types}
use Rattle.cdxj_core.specs.Entries.{EntryValue}
use Rattle.index_core.specs.Accepted.{IsAccepted}
use Rattle.index_core.specs.Form.{BreaksAfter, ConsistsOf, Stored}
use Rattle.index_core.specs.Limits.{HEAD_LIMIT}
use Rattle.index_core.specs.Listing.{listing}
use Rattle.index_core.specs.Packing.{Packed, Packing, Plain, form_to}
use Rattle.index_core.specs.Report.{lines_of}

-- a member that zlib wrote, of a response
abbrev pub response_member : List ℕ
response_member =
    31 ∷ 139 ∷ 8 ∷ 0 ∷ 0 ∷ 0 ∷ 0 ∷ 0 ∷ 2 ∷ 3 ∷ 93 ∷ 79 ∷ 75 ∷ 10 ∷ 194 ∷ 48 ∷ 16 ∷ 221 ∷ 23 ∷ 122 ∷
    135 ∷ 92 ∷ 32 ∷ 166 ∷ 41 ∷ 254 ∷ 58 ∷ 126 ∷ 64 ∷ 116 ∷ 161 ∷ 40 ∷ 40 ∷ 165 ∷ 82 ∷ 112 ∷ 23 ∷
    234 ∷ 216 ∷ 10 ∷ 109 ∷ 18 ∷ 210 ∷ 17 ∷ 234 ∷ 237 ∷ 77 ∷ 161 ∷ 34 ∷ 200 ∷ 108 ∷ 134 ∷ 121 ∷ 223
    ∷ 201 ∷ 55 ∷ 233 ∷ 86 ∷ 200 ∷ 145 ∷ 12 ∷ 131 ∷ 220 ∷ 111 ∷ 60 ∷ 123 ∷ 91 ∷ 4 ∷ 230 ∷ 176 ∷ 181
    ∷ 70 ∷ 183 ∷ 56 ∷ 28 ∷ 83 ∷ 44 ∷ 140 ∷ 187 ∷ 243 ∷ 195 ∷ 14 ∷ 216 ∷ 242 ∷ 229 ∷ 52 ∷ 116 ∷ 32 ∷
    215 ∷ 3 ∷ 180 ∷ 83 ∷ 228 ∷ 249 ∷ 113 ∷ 36 ∷ 167 ∷ 60 ∷ 74 ∷ 184 ∷ 76 ∷ 50 ∷ 57 ∷ 131 ∷ 56 ∷ 130
    ∷ 120 ∷ 124 ∷ 251 ∷ 26 ∷ 42 ∷ 87 ∷ 34 ∷ 241 ∷ 107 ∷ 122 ∷ 0 ∷ 86 ∷ 17 ∷ 89 ∷ 16 ∷ 2 ∷ 59 ∷ 213
    ∷ 216 ∷ 26 ∷ 71 ∷ 133 ∷ 105 ∷ 68 ∷ 24 ∷ 108 ∷ 141 ∷ 38 ∷ 212 ∷ 52 ∷ 36 ∷ 43 ∷ 107 ∷ 235 ∷ 103 ∷
    161 ∷ 232 ∷ 105 ∷ 180 ∷ 232 ∷ 233 ∷ 11 ∷ 214 ∷ 180 ∷ 37 ∷ 121 ∷ 104 ∷ 245 ∷ 235 ∷ 244 ∷ 85 ∷
    156 ∷ 80 ∷ 151 ∷ 84 ∷ 1 ∷ 155 ∷ 36 ∷ 97 ∷ 16 ∷ 6 ∷ 251 ∷ 44 ∷ 187 ∷ 244 ∷ 143 ∷ 248 ∷ 50 ∷ 17 ∷
    59 ∷ 31 ∷ 255 ∷ 141 ∷ 9 ∷ 59 ∷ 242 ∷ 142 ∷ 77 ∷ 189 ∷ 96 ∷ 69 ∷ 165 ∷ 92 ∷ 139 ∷ 180 ∷ 122 ∷
    209 ∷ 131 ∷ 207 ∷ 123 ∷ 105 ∷ 63 ∷ 31 ∷ 79 ∷ 87 ∷ 73 ∷ 36 ∷ 8 ∷ 1 ∷ 0 ∷ 0 ∷ []

-- its record
abbrev pub response_record : Stored
response_record = record {
  head = record {
    start = 0;
    raw = codes
        "WARC/1.1\r\nWARC-Type: response\r\nWARC-Record-ID: <urn:x:1>\r\nWARC-Date: 2016-09-19T17:20:24Z\r\nWARC-Target-URI: http://example.com/\r\nContent-Type: application/http; msgtype=response\r\nContent-Length: 59\r\n\r\n";
    parts = record {
      kind = kinds.Response;
      stamp = codes "20160919172024";
      block_length = 59;
      fields = record { name = codes "WARC-Type"; value = codes "response" }
          ∷ record { name = codes "WARC-Record-ID"; value = codes "<urn:x:1>" }
          ∷ record { name = codes "WARC-Date"; value = codes "2016-09-19T17:20:24Z" }
          ∷ record { name = codes "WARC-Target-URI"; value = codes "http://example.com/" }
          ∷ record { name = codes "Content-Type"; value = codes "application/http; msgtype=response" }
          ∷ record { name = codes "Content-Length"; value = codes "59" } ∷ [];
    };
  };
  block = codes "HTTP/1.1 200 OK\r\nContent-Type: text/html; charset=utf-8\r\n\r\n";
  place = record { offset = 0; length = 207 };
}

-- and one of a resource
abbrev pub resource_member : List ℕ
resource_member =
    31 ∷ 139 ∷ 8 ∷ 0 ∷ 0 ∷ 0 ∷ 0 ∷ 0 ∷ 2 ∷ 3 ∷ 69 ∷ 141 ∷ 65 ∷ 10 ∷ 131 ∷ 48 ∷ 20 ∷ 68 ∷ 247 ∷ 129
    ∷ 220 ∷ 33 ∷ 23 ∷ 136 ∷ 49 ∷ 90 ∷ 90 ∷ 252 ∷ 148 ∷ 66 ∷ 209 ∷ 141 ∷ 208 ∷ 149 ∷ 88 ∷ 132 ∷ 238
    ∷ 210 ∷ 244 ∷ 163 ∷ 5 ∷ 77 ∷ 66 ∷ 250 ∷ 5 ∷ 123 ∷ 251 ∷ 90 ∷ 176 ∷ 116 ∷ 53 ∷ 195 ∷ 188 ∷ 97 ∷
    166 ∷ 59 ∷ 55 ∷ 165 ∷ 210 ∷ 137 ∷ 230 ∷ 172 ∷ 91 ∷ 157 ∷ 108 ∷ 223 ∷ 1 ∷ 65 ∷ 68 ∷ 124 ∷ 249 ∷
    57 ∷ 90 ∷ 220 ∷ 194 ∷ 6 ∷ 173 ∷ 143 ∷ 15 ∷ 89 ∷ 87 ∷ 32 ∷ 142 ∷ 115 ∷ 116 ∷ 176 ∷ 64 ∷ 126 ∷
    218 ∷ 80 ∷ 101 ∷ 104 ∷ 237 ∷ 103 ∷ 169 ∷ 222 ∷ 203 ∷ 180 ∷ 144 ∷ 186 ∷ 104 ∷ 245 ∷ 1 ∷ 178 ∷ 20
    ∷ 178 ∷ 221 ∷ 237 ∷ 55 ∷ 104 ∷ 98 ∷ 143 ∷ 36 ∷ 175 ∷ 77 ∷ 13 ∷ 98 ∷ 32 ∷ 10 ∷ 160 ∷ 20 ∷ 46 ∷
    102 ∷ 10 ∷ 35 ∷ 38 ∷ 214 ∷ 79 ∷ 42 ∷ 114 ∷ 86 ∷ 122 ∷ 71 ∷ 232 ∷ 104 ∷ 187 ∷ 38 ∷ 92 ∷ 72 ∷ 133
    ∷ 209 ∷ 60 ∷ 221 ∷ 159 ∷ 92 ∷ 208 ∷ 245 ∷ 52 ∷ 128 ∷ 200 ∷ 57 ∷ 227 ∷ 204 ∷ 220 ∷ 237 ∷ 87 ∷ 62
    ∷ 50 ∷ 213 ∷ 30 ∷ 83 ∷ 184 ∷ 0 ∷ 0 ∷ 0 ∷ []

-- its record
abbrev pub resource_record : Stored
resource_record = record {
  head = record {
    start = 0;
    raw = codes
        "WARC/1.1\r\nWARC-Type: resource\r\nWARC-Record-ID: <urn:x:3>\r\nWARC-Date: 2016-09-19T17:20:24Z\r\nWARC-Target-URI: http://example.com/r\r\nContent-Type: text/plain\r\nContent-Length: 3\r\n\r\n";
    parts = record {
      kind = kinds.Resource;
      stamp = codes "20160919172024";
      block_length = 3;
      fields = record { name = codes "WARC-Type"; value = codes "resource" }
          ∷ record { name = codes "WARC-Record-ID"; value = codes "<urn:x:3>" }
          ∷ record { name = codes "WARC-Date"; value = codes "2016-09-19T17:20:24Z" }
          ∷ record { name = codes "WARC-Target-URI"; value = codes "http://example.com/r" }
          ∷ record { name = codes "Content-Type"; value = codes "text/plain" }
          ∷ record { name = codes "Content-Length"; value = codes "3" } ∷ [];
    };
  };
  block = codes "abc";
  place = record { offset = 207; length = 165 };
}

-- both in a row
abbrev pub archive : List ℕ
archive = response_member ++ resource_member

-- The two members are these records, and so are listed. If the second is cut or isn't a member, there is a fault where it
-- would begin, and the first stays.
pub record ArchiveIsRead : Type 0 where
  pub whole : ConsistsOf (form_to HEAD_LIMIT Packed) archive (response_record ∷ resource_record ∷ [])
  pub listed : lines_of listing (response_record ∷ resource_record ∷ []) ≡ codes "0 207 response\n207 165 resource\n"
  pub cut : BreaksAfter (form_to HEAD_LIMIT Packed) (take 371 archive) (response_record ∷ [])
      (record { offset = 207; cause = causes.CutMember })
  pub other : BreaksAfter (form_to HEAD_LIMIT Packed) (response_member ++ codes "x") (response_record ∷ [])
      (record { offset = 207; cause = causes.NoMember })

-- ---- a record that is indexed

-- the text of a record of one byte
abbrev pub page_text : List ℕ
page_text = codes
    "WARC/1.0\r\nWARC-Type: resource\r\nWARC-Target-URI: http://a.org/\r\nWARC-Payload-Digest: sha1:AB\r\nWARC-Record-ID: <a:b>\r\nWARC-Date: 2025-01-02T03:04:05Z\r\nContent-Type: text/plain\r\nContent-Length: 1\r\n\r\n"
    ++ codes "x\r\n\r\n"

-- a member that has it as it is
abbrev pub page_member : List ℕ
page_member =
    31 ∷ 139 ∷ 8 ∷ 0 ∷ 0 ∷ 0 ∷ 0 ∷ 0 ∷ 2 ∷ 3 ∷ 1 ∷ 201 ∷ 0 ∷ 54 ∷ 255
    ∷ (page_text ++ 223 ∷ 176 ∷ 232 ∷ 179 ∷ 201 ∷ 0 ∷ 0 ∷ 0 ∷ [])

-- the capture, which a plain archive has at the offset 0 with the length 201
abbrev pub page_entry : ℕ → EntryValue
page_entry len = record {
  key = codes "org,a)/";
  stamp = codes "20250102030405";
  url = codes "http://a.org/";
  mime = codes "text/plain";
  status = codes "-";
  digest = codes "AB";
  length = len;
  offset = 0;
  filename = codes "a.warc";
}

-- an archive of this form is accepted whole with this capture
abbrev pub HasPage : Packing → List ℕ → EntryValue → Type 0
HasPage packing archive e =
    IsAccepted (includes usual_types) usual_limits (form_to HEAD_LIMIT packing) (codes "a.warc") archive (e ∷ [])

-- The text and its member are accepted with the same capture, but for the length.
pub record PageIsAccepted : Type 0 where
  pub plain : HasPage Plain page_text (page_entry 201)
  pub packed : HasPage Packed page_member (page_entry 224)
