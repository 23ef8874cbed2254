-- What a scan of two archives writes, by calculation.
use lib.Utf8.{encode}
use Rattle.std.proofs.Common.{refl, ℕ, List, [], ◌∷◌, Some, None}
use Rattle.std.proofs.lemmas.Bool.{leb-true}
use Rattle.std.proofs.lemmas.Str.{IsUtf8-from_is_utf8}
use native.Mathlib.Omega.{arith}
use Rattle.std.specs.Fmt.{digits}
use Rattle.std.specs.Str.{is_utf8, chars}
use Rattle.std.specs.Str.Lossy.{utf8_lossy, utf8_valid_len}
use Rattle.form_urlencoded.specs.Form.{byte_serialize}
use Rattle.json.specs.Print.{escape_byte}
use Rattle.percent_encoding.specs.Percent.{percent_decode, percent_encode_byte}
use Rattle.index_core.specs.Packing.{Plain}
use Rattle.cdxj_core.specs.declared.limit.TheConstants.{LINE_LIMIT}
use Rattle.cdxj_core.specs.Entries.{HasLine}
use Rattle.cdxj_core.specs.Members.{entry_member, member_place}
use Rattle.cdxj_places.specs.Places.{place_in}
use Rattle.index_core.specs.Laws.{AcceptedIsWhole}
use Rattle.index_core.specs.Limits.{HEAD_LIMIT}
use Rattle.door_examples.specs.Archives.{a_archive, b_archive, a_entry, b_entry}
use Rattle.door_examples.specs.Scans.{OneIsScanned, TwoAreScannable, TwoAreScanned}
use Rattle.door_examples.specs.Texts.{orgs}
use Rattle.door_examples.proofs.ReadArchives.{pages_are_accepted}
use Rattle.door_examples.proofs.ReadTexts.{query_is_read}

a_has_line : HasLine LINE_LIMIT a_entry
unfolding escape_byte digits is_utf8 chars encode
a_has_line = (
  record {
    key = refl;
    utf8_key = IsUtf8-from_is_utf8 _ refl;
    stamp = refl;
    url = leb-true _ _ refl;
    utf8_url = IsUtf8-from_is_utf8 _ refl;
    mime = leb-true _ _ refl;
    utf8_mime = IsUtf8-from_is_utf8 _ refl;
    status = leb-true _ _ refl;
    utf8_status = IsUtf8-from_is_utf8 _ refl;
    digest = leb-true _ _ refl;
    utf8_digest = IsUtf8-from_is_utf8 _ refl;
    size = leb-true _ _ refl;
    offset = leb-true _ _ refl;
    filename = leb-true _ _ refl;
    utf8_filename = IsUtf8-from_is_utf8 _ refl;
  },
  leb-true _ _ refl,
)

b_has_line : HasLine LINE_LIMIT b_entry
unfolding escape_byte digits is_utf8 chars encode
b_has_line = (
  record {
    key = refl;
    utf8_key = IsUtf8-from_is_utf8 _ refl;
    stamp = refl;
    url = leb-true _ _ refl;
    utf8_url = IsUtf8-from_is_utf8 _ refl;
    mime = leb-true _ _ refl;
    utf8_mime = IsUtf8-from_is_utf8 _ refl;
    status = leb-true _ _ refl;
    utf8_status = IsUtf8-from_is_utf8 _ refl;
    digest = leb-true _ _ refl;
    utf8_digest = IsUtf8-from_is_utf8 _ refl;
    size = leb-true _ _ refl;
    offset = leb-true _ _ refl;
    filename = leb-true _ _ refl;
    utf8_filename = IsUtf8-from_is_utf8 _ refl;
  },
  leb-true _ _ refl,
)

pub two_are_scanned : TwoAreScanned
unfolding escape_byte digits utf8_lossy utf8_valid_len is_utf8 chars encode percent_decode percent_encode_byte byte_serialize place_in
two_are_scanned = record {
  query = orgs;
  asked = record { sizes = refl; meaning = query_is_read.meaning; few = leb-true _ _ refl };
  captures = (b_entry ∷ []) ∷ (a_entry ∷ []) ∷ [];
  indexed = record {
    named = (
      record { good = (leb-true _ _ refl, leb-true _ _ refl); unused = refl },
      (record { good = (leb-true _ _ refl, leb-true _ _ refl); unused = refl }, tt),
    );
    accepted = (((refl, tt), pages_are_accepted.second), (((refl, tt), pages_are_accepted.first), tt));
    lines = (
      record { lines = (b_has_line, tt); places = (tt, tt) },
      (record { lines = (a_has_line, tt); places = (tt, tt) }, tt),
    );
  };
  once = ((λ e. grind arith, tt), (tt, tt));
  wrote = record {
    pages = record { members = entry_member a_entry ∷ []; next = Some (member_place (entry_member a_entry)) }
        ∷ record { members = entry_member b_entry ∷ []; next = None } ∷ [];
    chain = (refl, (refl, refl));
    joined = refl;
    rises = ((refl, tt), (tt, tt));
    full = (refl, refl);
    keys = (record { before = []; last = entry_member a_entry; members = refl; next = refl; read = refl }, tt);
    empty = λ e. grind arith;
    text = refl;
    count = refl;
  };
}

pub two_are_scannable : AcceptedIsWhole → TwoAreScannable
two_are_scannable whole = record {
  scannable = record {
    query = two_are_scanned.query;
    asked = two_are_scanned.asked;
    named = two_are_scanned.indexed.named;
    whole = (
      record { archive = b_archive; told = refl; whole = whole _ _ HEAD_LIMIT Plain _ _ _ pages_are_accepted.second },
      (record { archive = a_archive; told = refl; whole = whole _ _ HEAD_LIMIT Plain _ _ _ pages_are_accepted.first }, tt),
    );
  };
  rises = leb-true _ _ refl;
}

-- a scan of the first archive alone
pub one_is_scanned : (before : List ℕ) → OneIsScanned before
unfolding escape_byte digits utf8_lossy utf8_valid_len is_utf8 chars encode percent_decode
one_is_scanned before = record {
  query = orgs;
  asked = record { sizes = refl; meaning = query_is_read.meaning; few = leb-true _ _ refl };
  captures = (a_entry ∷ []) ∷ [];
  indexed = record {
    named = (record { good = (leb-true _ _ refl, leb-true _ _ refl); unused = refl }, tt);
    accepted = (((refl, tt), pages_are_accepted.first), tt);
    lines = (record { lines = (a_has_line, tt); places = (tt, tt) }, tt);
  };
  once = (tt, tt);
  wrote = record {
    pages = record { members = entry_member a_entry ∷ []; next = None } ∷ [];
    chain = (refl, refl);
    joined = refl;
    rises = (tt, tt);
    full = refl;
    keys = tt;
    empty = λ e. grind arith;
    text = refl;
    count = refl;
  };
}
