-- Archives of one record, and what the definitions say of them.
use Rattle.std.specs.Prelude.{ℕ, List, [], ◌∷◌, ◌++◌, take, codes}
use Rattle.warc_core.specs.Kind.kinds
use Rattle.warc_core.specs.declared.fault.Cause.TheVariants as causes
use Rattle.warc_core.specs.HeadView.{HeadView}
use Rattle.warc_core.specs.Walk.{AreRecords, IsDamaged}
use Rattle.capture_core.specs.CaptureAnswer.{usual_limits}
use Rattle.capture_core.specs.Types.{includes, usual_types}
use Rattle.cdxj_core.specs.Entries.{EntryValue}
use Rattle.index_core.specs.Accepted.{IsAccepted}
use Rattle.index_core.specs.Form.{plain}
use Rattle.index_core.specs.Limits.{HEAD_LIMIT}

-- an archive of this name is accepted whole with these captures
abbrev pub IsAcceptedUnder : List ℕ → List ℕ → List EntryValue → Type 0
IsAcceptedUnder name archive captures =
    IsAccepted (includes usual_types) usual_limits (plain HEAD_LIMIT) name archive captures

-- ---- a record that contains nothing, and isn't indexed

abbrev pub info_head : List ℕ
info_head = codes
    "WARC/1.0\r\nWARC-Type: warcinfo\r\nWARC-Record-ID: <a:b>\r\nWARC-Date: 2025-01-02T03:04:05Z\r\nContent-Length: 0\r\n\r\n"

abbrev pub info_archive : List ℕ
info_archive = info_head ++ codes "\r\n\r\n"

-- what the head says
abbrev pub info_view : HeadView
info_view = record {
  start = 0;
  raw = info_head;
  parts = record {
    kind = kinds.Warcinfo;
    stamp = codes "20250102030405";
    block_length = 0;
    fields = record { name = codes "WARC-Type"; value = codes "warcinfo" }
        ∷ record { name = codes "WARC-Record-ID"; value = codes "<a:b>" }
        ∷ record { name = codes "WARC-Date"; value = codes "2025-01-02T03:04:05Z" }
        ∷ record { name = codes "Content-Length"; value = codes "0" } ∷ [];
  };
}

-- The archive is the record. Without its last byte it is damaged at its start, because the record isn't closed.
pub record InfoIsRead : Type 0 where
  pub whole : AreRecords HEAD_LIMIT info_archive (info_view ∷ [])
  pub cut : IsDamaged HEAD_LIMIT (take 111 info_archive) [] 0 causes.Closing
  pub accepted : IsAcceptedUnder (codes "i.warc") info_archive []

-- ---- a record that is indexed

-- the head of a record of the page at a host: three bytes
abbrev pub page_head : List ℕ → List ℕ
page_head host = codes "WARC/1.0\r\nWARC-Type: resource\r\nWARC-Target-URI: http://" ++ host ++ codes
    "/\r\nWARC-Payload-Digest: sha1:AB\r\nWARC-Record-ID: <a:b>\r\nWARC-Date: 2025-01-02T03:04:05Z\r\nContent-Type: text/plain\r\nContent-Length: 1\r\n\r\n"

abbrev pub page_archive : List ℕ → List ℕ
page_archive host = page_head host ++ codes "x\r\n\r\n"

-- what the head says
abbrev pub page_view : List ℕ → HeadView
page_view host = record {
  start = 0;
  raw = page_head host;
  parts = record {
    kind = kinds.Resource;
    stamp = codes "20250102030405";
    block_length = 1;
    fields = record { name = codes "WARC-Type"; value = codes "resource" }
        ∷ record { name = codes "WARC-Target-URI"; value = codes "http://" ++ host ++ codes "/" }
        ∷ record { name = codes "WARC-Payload-Digest"; value = codes "sha1:AB" }
        ∷ record { name = codes "WARC-Record-ID"; value = codes "<a:b>" }
        ∷ record { name = codes "WARC-Date"; value = codes "2025-01-02T03:04:05Z" }
        ∷ record { name = codes "Content-Type"; value = codes "text/plain" }
        ∷ record { name = codes "Content-Length"; value = codes "1" } ∷ [];
  };
}

-- the capture of the record of a URL
abbrev pub page_entry : List ℕ → List ℕ → List ℕ → EntryValue
page_entry key url name = record {
  key = key;
  stamp = codes "20250102030405";
  url = url;
  mime = codes "text/plain";
  status = codes "-";
  digest = codes "AB";
  length = 201;
  offset = 0;
  filename = name;
}

abbrev pub a_archive : List ℕ
a_archive = page_archive (codes "a.org")

abbrev pub a_view : HeadView
a_view = page_view (codes "a.org")

abbrev pub b_archive : List ℕ
b_archive = page_archive (codes "b.org")

abbrev pub a_entry : EntryValue
a_entry = page_entry (codes "org,a)/") (codes "http://a.org/") (codes "a.warc")

abbrev pub b_entry : EntryValue
b_entry = page_entry (codes "org,b)/") (codes "http://b.org/") (codes "b.warc")

-- the first archive is its record, and each is accepted with its capture
pub record PagesAreAccepted : Type 0 where
  pub records : AreRecords HEAD_LIMIT a_archive (a_view ∷ [])
  pub first : IsAcceptedUnder (codes "a.warc") a_archive (a_entry ∷ [])
  pub second : IsAcceptedUnder (codes "b.warc") b_archive (b_entry ∷ [])
