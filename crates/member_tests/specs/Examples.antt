-- Literal bytes that are members of known texts, and some that are none.
use Rattle.std.specs.Prelude.{◌≡◌, ◌+◌, true, ℕ, List, [], ◌∷◌, ◌++◌, take, drop, codes, Ok, Err}
use Rattle.deflate_bits.specs.declared.fault.DeflateFault.{DeflateFault}
use Rattle.deflate_bits.specs.declared.fault.DeflateFault.TheVariants as faults
use Rattle.gzip_members.specs.declared.fault.MemberFault.TheVariants.{NoMember, Cut}
use Rattle.gzip_members.specs.Laws.{IsMember}
use Rattle.gzip_members.specs.Members.{member_in}
use Rattle.gzip_members.specs.Starts.{begins_member}

-- a member without text
abbrev pub empty_member : List ℕ
empty_member =
    31 ∷ 139 ∷ 8 ∷ 0 ∷ 0 ∷ 0 ∷ 0 ∷ 0 ∷ 2 ∷ 3 ∷ 3 ∷ 0 ∷ 0 ∷ 0 ∷ 0 ∷ 0 ∷ 0 ∷ 0 ∷ 0 ∷ 0 ∷ []

-- a member of the bytes `abc` as they are, with each of the optional fields
abbrev pub stored_member : List ℕ
stored_member =
    31 ∷ 139 ∷ 8 ∷ 30 ∷ 0 ∷ 0 ∷ 0 ∷ 0 ∷ 2 ∷ 3 ∷ 2 ∷ 0 ∷ 120 ∷ 121 ∷ 110 ∷ 0 ∷ 99 ∷ 0 ∷ 121 ∷ 174 ∷
    1 ∷ 3 ∷ 0 ∷ 252 ∷ 255 ∷ 97 ∷ 98 ∷ 99 ∷ 194 ∷ 65 ∷ 36 ∷ 53 ∷ 3 ∷ 0 ∷ 0 ∷ 0 ∷ []

-- a member with fixed codes and a copy
abbrev pub fixed_member : List ℕ
fixed_member =
    31 ∷ 139 ∷ 8 ∷ 0 ∷ 0 ∷ 0 ∷ 0 ∷ 0 ∷ 2 ∷ 3 ∷ 203 ∷ 72 ∷ 205 ∷ 201 ∷ 201 ∷ 87 ∷ 200 ∷ 64 ∷ 144 ∷ 0
    ∷ 128 ∷ 136 ∷ 249 ∷ 229 ∷ 17 ∷ 0 ∷ 0 ∷ 0 ∷ []

-- a member with dynamic codes: its text is a record
abbrev pub dynamic_member : List ℕ
dynamic_member =
    31 ∷ 139 ∷ 8 ∷ 0 ∷ 0 ∷ 0 ∷ 0 ∷ 0 ∷ 2 ∷ 3 ∷ 93 ∷ 79 ∷ 75 ∷ 10 ∷ 194 ∷ 48 ∷ 16 ∷ 221 ∷ 23 ∷ 122 ∷
    135 ∷ 92 ∷ 32 ∷ 166 ∷ 41 ∷ 254 ∷ 58 ∷ 126 ∷ 64 ∷ 116 ∷ 161 ∷ 40 ∷ 40 ∷ 165 ∷ 82 ∷ 112 ∷ 23 ∷
    234 ∷ 216 ∷ 10 ∷ 109 ∷ 18 ∷ 210 ∷ 17 ∷ 234 ∷ 237 ∷ 77 ∷ 161 ∷ 34 ∷ 200 ∷ 108 ∷ 134 ∷ 121 ∷ 223
    ∷ 201 ∷ 55 ∷ 233 ∷ 86 ∷ 200 ∷ 145 ∷ 12 ∷ 131 ∷ 220 ∷ 111 ∷ 60 ∷ 123 ∷ 91 ∷ 4 ∷ 230 ∷ 176 ∷ 181
    ∷ 70 ∷ 183 ∷ 56 ∷ 28 ∷ 83 ∷ 44 ∷ 140 ∷ 187 ∷ 243 ∷ 195 ∷ 14 ∷ 216 ∷ 242 ∷ 229 ∷ 52 ∷ 116 ∷ 32 ∷
    215 ∷ 3 ∷ 180 ∷ 83 ∷ 228 ∷ 249 ∷ 113 ∷ 36 ∷ 167 ∷ 60 ∷ 74 ∷ 184 ∷ 76 ∷ 50 ∷ 57 ∷ 131 ∷ 56 ∷ 130
    ∷ 120 ∷ 124 ∷ 251 ∷ 26 ∷ 42 ∷ 87 ∷ 34 ∷ 241 ∷ 107 ∷ 122 ∷ 0 ∷ 86 ∷ 17 ∷ 89 ∷ 16 ∷ 2 ∷ 59 ∷ 213
    ∷ 216 ∷ 26 ∷ 71 ∷ 133 ∷ 105 ∷ 68 ∷ 24 ∷ 108 ∷ 141 ∷ 38 ∷ 212 ∷ 52 ∷ 36 ∷ 43 ∷ 107 ∷ 235 ∷ 103 ∷
    161 ∷ 232 ∷ 105 ∷ 180 ∷ 232 ∷ 233 ∷ 11 ∷ 214 ∷ 180 ∷ 37 ∷ 121 ∷ 104 ∷ 245 ∷ 235 ∷ 244 ∷ 85 ∷
    156 ∷ 80 ∷ 151 ∷ 84 ∷ 1 ∷ 155 ∷ 36 ∷ 97 ∷ 16 ∷ 6 ∷ 251 ∷ 44 ∷ 187 ∷ 244 ∷ 143 ∷ 248 ∷ 50 ∷ 17 ∷
    59 ∷ 31 ∷ 255 ∷ 141 ∷ 9 ∷ 59 ∷ 242 ∷ 142 ∷ 77 ∷ 189 ∷ 96 ∷ 69 ∷ 165 ∷ 92 ∷ 139 ∷ 180 ∷ 122 ∷
    209 ∷ 131 ∷ 207 ∷ 123 ∷ 105 ∷ 63 ∷ 31 ∷ 79 ∷ 87 ∷ 73 ∷ 36 ∷ 8 ∷ 1 ∷ 0 ∷ 0 ∷ []

abbrev pub record_text : List ℕ
record_text = codes
    "WARC/1.1\r\nWARC-Type: response\r\nWARC-Record-ID: <urn:x:1>\r\nWARC-Date: 2016-09-19T17:20:24Z\r\nWARC-Target-URI: http://example.com/\r\nContent-Type: application/http; msgtype=response\r\nContent-Length: 59\r\n\r\nHTTP/1.1 200 OK\r\nContent-Type: text/html; charset=utf-8\r\n\r\n\r\n\r\n"

-- These are members of these texts.
pub record MembersAreRead : Type 0 where
  pub empty : IsMember empty_member []
  pub stored : IsMember stored_member (codes "abc")
  pub fixed : IsMember fixed_member (codes "hello hello hello")
  pub dynamic : IsMember dynamic_member record_text

-- a member begins these bytes, and is refused
pub record IsRefused (bytes : List ℕ) (fault : DeflateFault) : Type 0 where
  pub begins : begins_member bytes ≡ Ok true
  pub reads : member_in bytes ≡ Err fault

-- the same bytes, but for one
abbrev pub with_byte : ℕ → ℕ → List ℕ → List ℕ
with_byte at byte bytes = take at bytes ++ byte ∷ drop (at + 1) bytes

-- Changed bytes are refused, and so are those that are cut.
pub record MembersAreRefused : Type 0 where
  pub cut : IsRefused (take 206 dynamic_member) faults.Cut
  pub method : IsRefused (with_byte 2 7 stored_member) faults.Bad
  pub flag : IsRefused (with_byte 3 32 empty_member) faults.Bad
  pub header : IsRefused (with_byte 13 0 stored_member) faults.Bad
  pub complement : IsRefused (with_byte 24 0 stored_member) faults.Bad
  pub copy : IsRefused (with_byte 13 0 fixed_member) faults.Bad
  pub checksum : IsRefused (with_byte 20 0 fixed_member) faults.Bad
  pub size : IsRefused (with_byte 24 0 fixed_member) faults.Bad
  pub other : begins_member (codes "WARC/1.0") ≡ Err NoMember
  pub half : begins_member (31 ∷ []) ≡ Err Cut
