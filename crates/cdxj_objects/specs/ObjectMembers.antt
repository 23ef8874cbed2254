-- The seven members of a line's object. Here alone the definitions list them.
use Rattle.std.specs.Prelude.{ℕ, List, [], ◌∷◌, codes, bytes_eq, if◌then◌else◌}
use Rattle.cdxj_objects.specs.declared.members.Members.{Members}

abbrev pub names : Members (List ℕ)
names = record {
  url = codes "url";
  mime = codes "mime";
  status = codes "status";
  digest = codes "digest";
  length = codes "length";
  offset = codes "offset";
  filename = codes "filename";
}

-- what the members have, in the order of a written line
abbrev pub each : {A : Type 0} → Members A → List A
each m = m.url ∷ m.mime ∷ m.status ∷ m.digest ∷ m.length ∷ m.offset ∷ m.filename ∷ []

abbrev pub all_members : {A : Type 0} → A → Members A
all_members a = record { url = a; mime = a; status = a; digest = a; length = a; offset = a; filename = a }

abbrev pub map_members : {A B : Type 0} → (A → B) → Members A → Members B
map_members f m = record {
  url = f m.url;
  mime = f m.mime;
  status = f m.status;
  digest = f m.digest;
  length = f m.length;
  offset = f m.offset;
  filename = f m.filename;
}

abbrev pub zip_members : {A B C : Type 0} → (A → B → C) → Members A → Members B → Members C
zip_members f m n = record {
  url = f m.url n.url;
  mime = f m.mime n.mime;
  status = f m.status n.status;
  digest = f m.digest n.digest;
  length = f m.length n.length;
  offset = f m.offset n.offset;
  filename = f m.filename n.filename;
}

-- what the member behind each has, and the last value behind the last
abbrev pub next_members : {A : Type 0} → Members A → A → Members A
next_members m last = record {
  url = m.mime;
  mime = m.status;
  status = m.digest;
  digest = m.length;
  length = m.offset;
  offset = m.filename;
  filename = last;
}

-- a fact of each member
pub record AllMembers {A : Type 0} (P : A → Type 0) (m : Members A) : Type 0 where
  pub url : P m.url
  pub mime : P m.mime
  pub status : P m.status
  pub digest : P m.digest
  pub length : P m.length
  pub offset : P m.offset
  pub filename : P m.filename

-- the members, in which the one of this name has a value
abbrev pub with_named : {A : Type 0} → List ℕ → A → Members A → Members A
with_named name a m = zip_members (λ its old. if bytes_eq name its then a else old) names m
