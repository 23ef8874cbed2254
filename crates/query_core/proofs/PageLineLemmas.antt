-- Which lines a page has, beside those of a reply that isn't a page.
use Rattle.query_core.proofs.Words.{[], ℕ, ⊤, ◌&&◌, ◌++◌, ◌+◌, ◌<◌, ◌∙◌, ◌∷◌, ◌≡◌, ◌≤◌, ◌⊎◌, AllByRecursion}
use Rattle.query_core.proofs.Words.{BeginsWithBracket, Bool, Field, HasEntry, HaveEntries, IsIn, LINE_LIMIT, List}
use Rattle.query_core.proofs.Words.{Member, None, Option, PlaceValue, QueryValue, Some, and_parts, ap, append-nil}
use Rattle.query_core.proofs.Words.{append_assoc, arith, begins_with_pair, cases_lt, codes, cond, drop, each_at}
use Rattle.query_core.proofs.Words.{each_filter, each_kept, each_weaker, entry_pair_is, false, flat_map, inl, inr}
use Rattle.query_core.proofs.Words.{is_key, is_stamp, key_part, length, length-append, length-drop, line_row, lines}
use Rattle.query_core.proofs.Words.{map, member_pair, nat_tests, page_text, place_cmp_total, query_page, refl}
use Rattle.query_core.proofs.Words.{row_value, shown_key, stamp_part, suc, sym, text_row, true, true≢false}
use Rattle.std.specs.List.{after_first, position_or_len}
use Rattle.cdxj_places.specs.Pair.{begins_with_space, is_space, tail_part}
use Rattle.query_text.specs.declared.output.OutputFormat.{OutputFormat}
use Rattle.page_core.specs.PageText.{key_lines}
use Rattle.query_core.specs.{QueryPages.output_form, Replies.refusal_text}
use Rattle.query_core.specs.PageLines.{JsonLinesBeginWithBrackets, fault_row, has_no_space}
use Rattle.std.proofs.lemmas.List.{append_cancel_right}
use Rattle.query_core.proofs.PageIndexes.{each_at_most, is_row}
use Rattle.query_core.proofs.PageRows.{AllAbove, IsLine, above_line, above_spaces, escaped_some, json_lines, key_above}
use Rattle.query_core.proofs.PageRows.{key_long, lines_joined, spaces, spaces_join, text_line, text_spaces, value_some}
use Rattle.query_text.specs.declared.output.OutputFormat.TheVariants as output

-- ---- the rows of a key

abbrev KeyIsAbove : Option (List ℕ) → Type 0
KeyIsAbove None = ⊤
KeyIsAbove (Some key) = AllAbove key × (1 < length key)

shown_is_above : (shows : Bool) (next : Option PlaceValue) → KeyIsAbove (shown_key shows next)
shown_is_above shows next = grind (arith, key_above, key_long)

abbrev key_rows : Option (List ℕ) → List (List ℕ)
key_rows None = []
key_rows (Some key) = (10 ∷ []) ∷ (key ++ 10 ∷ []) ∷ []

-- such a row has no space, and is no line `.`
record IsKeyRow (row : List ℕ) : Type 0 where
  line : IsLine row
  unspaced : spaces row ≡ 0
  no_mark : length row ≡ 2 → ⊥

are_key_rows : (key : Option (List ℕ)) → KeyIsAbove key → AllByRecursion IsKeyRow (key_rows key)
unfolding spaces
are_key_rows None h = tt
are_key_rows (Some k) h = grind (arith, above_line, spaces_join, above_spaces, length-append)

-- ---- spaces

unspaced : (text : List ℕ) → spaces text ≡ 0 → has_no_space text ≡ true
unfolding spaces
unspaced [] h = refl
unspaced (b ∷ text) h = grind (arith, nat_tests, unspaced text)

no_spaces : (name : List ℕ) → has_no_space name ≡ true → spaces name ≡ 0
unfolding spaces
no_spaces [] h = refl
no_spaces (b ∷ name) h = grind (arith, nat_tests, no_spaces name)

refusal_spaces : (name : List ℕ) → has_no_space name ≡ true → spaces (refusal_text name) ≡ 1
unfolding spaces
refusal_spaces name h = omega (arith, spaces_join name (10 ∷ []), no_spaces name h)

-- the key ends the page
abbrev EndsInKey : Option (List ℕ) → List (List ℕ) → Type 0
EndsInKey key after = (k : List ℕ) × (key ≡ Some k) × (has_no_space k ≡ true) × (after ≡ (k ++ 10 ∷ []) ∷ [])

-- it is no line of a fault
key_no_fault : (key : Option (List ℕ)) (name : List ℕ) (index offset : ℕ) (after : List (List ℕ))
    → EndsInKey key (fault_row name index offset ∷ after) → ⊥
unfolding spaces
key_no_fault key name index offset after h =
    let same : fault_row name index offset ≡ h.0 ++ 10 ∷ [] = grind arith in
    omega (arith, ap spaces same, spaces_join h.0 (10 ∷ []), no_spaces h.0 h.2)

-- ---- rows in text

text_marked : (fields : List Field) (m : Member) → text_row fields m ≡ codes ".\n" → length fields ≡ 1
unfolding spaces
text_marked [] m e = absurd (omega (arith, ap length e))
text_marked fields m e = omega (arith, text_spaces fields m, ap spaces e)

text_refused : (fields : List Field) (m : Member) (name : List ℕ) → has_no_space name ≡ true
    → text_row fields m ≡ refusal_text name → length fields ≡ 2
text_refused fields m name none e = omega (arith, text_spaces fields m, ap spaces e, refusal_spaces name none)

text_some : (fields : List Field) → (fields ≡ [] → ⊥) → (m : Member) → HasEntry m → text_row fields m ≡ 10 ∷ [] → ⊥
text_some [] some m h e = some refl
text_some (f ∷ fields) some m h e =
    omega (arith, ap length e, length-append {A = ℕ}, escaped_some (row_value m f) (value_some m h f))

-- ---- rows in cdxj

if_some : {X : Type 0} (b : Bool) (x y : X) → cond b (Some x) None ≡ Some y → b ≡ true
if_some b x y e = grind arith

-- the line has a space after its stamp
spaced_tail : (m : Member) → HasEntry m → begins_with_space (tail_part m.line) ≡ true
spaced_tail m h =
    (and_parts (is_key (key_part m.line) && is_stamp (stamp_part m.line)) (begins_with_space (tail_part m.line))
    (if_some (begins_with_pair m.line) (key_part m.line, stamp_part m.line) (member_pair m)
    (entry_pair_is LINE_LIMIT m.line m h))).1

some_left : (text : List ℕ) → begins_with_space text ≡ true → 0 < length text
some_left text h = grind arith

cdxj_short : (m : Member) (row : List ℕ) → HasEntry m → length row ≤ 2 → line_row m ≡ row → ⊥
cdxj_short m row h short e =
    let some = some_left (tail_part m.line) (spaced_tail m h) in
    let tail = length-drop 14 (after_first is_space m.line) in
    let after = length-drop (position_or_len is_space m.line + 1) m.line in
    let same = ap length e in omega (arith, length-append m.line (10 ∷ []))

no_space_later : (n : ℕ) (name : List ℕ) → has_no_space name ≡ true → begins_with_space (drop n name) ≡ false
no_space_later (suc n) (b ∷ name) h = no_space_later n name (grind arith)
no_space_later n name h = grind arith

-- the name of a refusal holds no stamp
cdxj_refused : (m : Member) (name : List ℕ) → HasEntry m → has_no_space name ≡ true → line_row m ≡ refusal_text name → ⊥
cdxj_refused m name h none e =
    let line = append_cancel_right m.line (codes "refused " ++ name) (10 ∷ []) e in
    true≢false (sym (rw line at (spaced_tail m h)) ∙ no_space_later 14 name none)

cdxj_line : (m : Member) → HasEntry m → IsLine (line_row m)
cdxj_line m h = (m.line, refl, (is_row LINE_LIMIT m.line m h).0)

-- ---- the lines of a page in text or cdxj

module _ (row : Member → List ℕ) (key : Option (List ℕ)) where
  abbrev rows : List Member → List (List ℕ)
  rows ms = map row ms ++ key_rows key

  rows_text : (ms : List Member) → flat_map (λ r. r) (rows ms) ≡ flat_map row ms ++ key_lines key
  rows_text [] = grind (arith, append-nil)
  rows_text (m ∷ ms) = grind (arith, append_assoc, rows_text ms)

  -- it is the row of a capture, or of the key
  abbrev IsRowOfPage : List ℕ → Type 0
  IsRowOfPage r = ((m : Member) × HasEntry m × (r ≡ row m)) ⊎ IsKeyRow r

  module _ (above : KeyIsAbove key) where
    each_row : (ms : List Member) → HaveEntries ms → AllByRecursion IsRowOfPage (rows ms)
    each_row [] entries = each_weaker (λ r k. inr k) (key_rows key) (are_key_rows key above)
    each_row (m ∷ ms) entries = (inl (m, entries.0, refl), each_row ms entries.1)

    row_at : (r : List ℕ) (ms : List Member) → HaveEntries ms → IsIn r (rows ms) → IsRowOfPage r
    row_at r ms entries i = each_at IsRowOfPage r (rows ms) (each_row ms entries) i

    rows_lines : (ms : List Member) → HaveEntries ms → ((m : Member) → HasEntry m → IsLine (row m))
        → lines (flat_map row ms ++ key_lines key) ≡ rows ms
    rows_lines ms entries h =
        let line : (r : List ℕ) → IsRowOfPage r → IsLine r =
        λ r k. elim k [ inl c ↦ rw c.2 (h c.0 c.1) | inr k ↦ k.line ] in
        rw (← rows_text ms) (lines_joined (rows ms) (each_weaker line (rows ms) (each_row ms entries)))

    -- where no capture's row is an empty line, one stands before a key
    empty_is_key : (ms : List Member) (before after : List (List ℕ)) → HaveEntries ms
        → ((m : Member) → HasEntry m → row m ≡ 10 ∷ [] → ⊥) → rows ms ≡ before ++ (10 ∷ []) ∷ after → EndsInKey key after
    empty_is_key (m ∷ ms) [] after entries h e = absurd (h m entries.0 (grind arith))
    empty_is_key (m ∷ ms) (b ∷ before) after entries h e = empty_is_key ms before after entries.1 h (grind arith)
    empty_is_key [] before after entries h e = in_key key before above e
      where
        in_key : (k : Option (List ℕ)) (before : List (List ℕ)) → KeyIsAbove k
            → key_rows k ≡ before ++ (10 ∷ []) ∷ after → EndsInKey k after
        in_key (Some k) [] h e = (k, refl, unspaced k (above_spaces k h.0), grind arith)
        in_key (Some k) (b ∷ []) h e =
            let same : k ++ 10 ∷ [] ≡ 10 ∷ [] = grind arith in
            absurd (omega (arith, ap length same, length-append k (10 ∷ []), h.1))
        in_key k before h e = absurd (omega (arith, ap length e, length-append before ((10 ∷ []) ∷ after)))

-- ---- the lines of a page, by its output

module _ (fields : List Field) (ms : List Member) (key : Option (List ℕ)) (entries : HaveEntries ms)
    (above : KeyIsAbove key) where
  abbrev shown : OutputFormat → List (List ℕ)
  shown o = lines (page_text (output_form o fields) ms key)

  text_lines : shown output.Text ≡ rows (text_row fields) key ms
  text_lines = rows_lines (text_row fields) key above ms entries (λ m h. text_line fields m)

  cdxj_lines : shown output.Cdxj ≡ rows line_row key ms
  cdxj_lines = rows_lines line_row key above ms entries cdxj_line

  text_at : (r : List ℕ) → IsIn r (shown output.Text) → IsRowOfPage (text_row fields) key r
  text_at r i = row_at (text_row fields) key above r ms entries (rw text_lines at i)

  cdxj_at : (r : List ℕ) → IsIn r (shown output.Cdxj) → IsRowOfPage line_row key r
  cdxj_at r i = row_at line_row key above r ms entries (rw cdxj_lines at i)

  json_at : (r : List ℕ) → IsIn r (shown output.Json) → BeginsWithBracket r
  json_at r i = each_at BeginsWithBracket r (shown output.Json) (json_lines fields ms key) i

  pub mark_of : (o : OutputFormat) → IsIn (codes ".\n") (shown o) → (o ≡ output.Text) × (length fields ≡ 1)
  mark_of output.Text i = let r = text_at (codes ".\n") i in grind (arith, text_marked)
  mark_of output.Cdxj i = absurd (elim (cdxj_at (codes ".\n") i) [
    | inl c ↦ cdxj_short c.0 (codes ".\n") c.1 (omega arith) (sym c.2)
    | inr k ↦ k.no_mark refl
  ])
  mark_of output.Json i = let r = json_at (codes ".\n") i in absurd (grind arith)

  module _ (name : List ℕ) (none : has_no_space name ≡ true) where
    refused_at : (o : OutputFormat) → IsIn (refusal_text name) (shown o) → (o ≡ output.Text) × (length fields ≡ 2)
    refused_at output.Text i = let r = text_at (refusal_text name) i in grind (arith, text_refused, refusal_spaces)
    refused_at output.Cdxj i = let r = cdxj_at (refusal_text name) i in grind (arith, cdxj_refused, refusal_spaces)
    refused_at output.Json i = let r = json_at (refusal_text name) i in absurd (grind arith)

    pub refusal_of : (o : OutputFormat) (rest : List (List ℕ)) → shown o ≡ refusal_text name ∷ rest
        → (o ≡ output.Text) × (length fields ≡ 2)
    refusal_of o rest e = refused_at o (rw e (inl refl))

  -- ---- an empty line, and what follows it

  pub empty_of : (o : OutputFormat) → (o ≡ output.Json → ⊥) → (o ≡ output.Text → fields ≡ [] → ⊥)
      → (before after : List (List ℕ)) → shown o ≡ before ++ (10 ∷ []) ∷ after → EndsInKey key after
  empty_of output.Text other some before after e =
      empty_is_key (text_row fields) key above ms before after entries (text_some fields (some refl))
      (rw text_lines at e)
  empty_of output.Cdxj other some before after e =
      empty_is_key line_row key above ms before after entries (λ m h. cdxj_short m (10 ∷ []) h (omega arith))
      (rw cdxj_lines at e)
  empty_of output.Json other some before after e = absurd (other refl)

  pub spaceless : length fields ≤ 1 → AllByRecursion (λ line. has_no_space line ≡ true) (shown output.Text)
  spaceless few =
      rw text_lines (each_weaker (λ r k. grind (arith, unspaced, text_spaces)) (rows (text_row fields) key ms)
      (each_row (text_row fields) key above ms entries))

  module _ (name : List ℕ) (index offset : ℕ) (before after : List (List ℕ)) where
    abbrev fault : List ℕ
    fault = fault_row name index offset

    fault_there : (us : List (List ℕ)) → IsIn fault (us ++ (10 ∷ []) ∷ fault ∷ after)
    fault_there [] = inr (inl refl)
    fault_there (u ∷ us) = inr (fault_there us)

    pub fault_of : (o : OutputFormat) → (1 < length fields) ⊎ (length fields ≤ 1) → shown o ≡ before ++ (10 ∷ []) ∷ fault ∷ after → ⊥
    fault_of output.Text (inr few) e = grind (arith, each_at, spaceless, fault_there before)
    fault_of output.Json few e = let r = json_at fault (rw e (fault_there before)) in absurd (grind arith)
    fault_of output.Text (inl more) e =
        key_no_fault key name index offset after
        (empty_of output.Text (λ j. grind arith) (λ t none. omega (arith, more, ap length none)) before
        (fault ∷ after) e)
    fault_of output.Cdxj few e =
        key_no_fault key name index offset after
        (empty_of output.Cdxj (λ j. grind arith) (λ t. grind arith) before (fault ∷ after) e)

-- ---- the page of a query

module _ (q : QueryValue) (found : List Member) where
  abbrev members : List Member
  members = (query_page q found).members

  abbrev key : Option (List ℕ)
  key = shown_key q.show_resume_key (query_page q found).next

  pub above : KeyIsAbove key
  above = shown_is_above q.show_resume_key (query_page q found).next

  pub have_entries : HaveEntries found → HaveEntries members
  have_entries h = grind (arith, each_at_most, each_kept, place_cmp_total, each_filter)

pub json_lines_begin_with_brackets : JsonLinesBeginWithBrackets
json_lines_begin_with_brackets q found is = rw is (json_lines q.fields (members q found) (key q found))

pub ruleset page_line_laws =
    (mark_of, refusal_of, fault_of, cases_lt, empty_of, spaceless, have_entries, above, json_lines_begin_with_brackets)
