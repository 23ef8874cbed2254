-- Texts with escapes, from a place to another.
use Rattle.std.proofs.Common.{◌≡◌, ℕ, ◌+◌, ◌-◌, ◌*◌, ◌<◌, ◌≤◌, true, false, List, [], ◌∷◌, ◌++◌, length, take, drop, get_or}
use Rattle.std.proofs.Common.{Option, Some, None, refl, ap, ap₂, sym, subst, ◌∙◌, arith, drop-drop, not, ◌==◌}
use Rattle.std.proofs.lemmas.Bool.{and_parts}
use Rattle.std.proofs.lemmas.Bool.Decides.{nat_tests}
use Rattle.std.proofs.lemmas.List.{drop_more, take-append-drop}
use Rattle.std.specs.Char.{digit_value, encode_utf8, is_ascii_hexdigit, is_digit}
use Rattle.std.specs.List.{list_all, prefix_len}
use Rattle.json.specs.Lex.{lex, between, in_string, string_token, token}
use Rattle.json.specs.Run.{is_plain}
use Rattle.json.specs.Text.{code_unit, content, is_high_surrogate, is_low_surrogate, plain, prepend, short_escape}
use Rattle.cdxj_objects.specs.Plain.{is_neither, is_printable}
use Rattle.cdxj_objects.specs.Walk.{GoesOnTo, IsEscapeTo, IsEscapedTo, IsRest, is_basic_unit, is_short_escape}
use Rattle.cdxj_objects.proofs.PlainCuts.{front_passes}
use Rattle.cdxj_objects.proofs.WalkLaw.{all_drop, all_plain, all_take, lex_quote}

content_plain : (x : ℕ) (l : List ℕ) → is_plain x ≡ true → content plain (x ∷ l) ≡ prepend (x ∷ []) (content plain l)
unfolding content
content_plain x l h = grind arith

lex_plain : (x : ℕ) (l : List ℕ) → is_plain x ≡ true → lex in_string (x ∷ l) ≡ lex in_string l
unfolding lex
lex_plain x l h = grind arith

plain_rest : (p l s r : List ℕ) → list_all is_plain p ≡ true → IsRest l s r → IsRest (p ++ l) (p ++ s) r
plain_rest [] l s r h rest = rest
plain_rest (x ∷ p) l s r h rest =
    let later = plain_rest p l s r (grind (arith, h)) rest in
    let good : is_plain x ≡ true = grind (arith, h) in
    record {
      content_is = content_plain x (p ++ l) good ∙ ap (prepend (x ∷ [])) later.content_is;
      lexed = lex_plain x (p ++ l) good ∙ later.lexed;
    }

escape_rest : (e c : ℕ) (l s r : List ℕ) → (e ≡ 117 → ⊥) → short_escape e ≡ Some c → IsRest l s r
    → IsRest (92 ∷ e ∷ l) (c ∷ s) r
unfolding content lex
escape_rest e c l s r other is rest = record {
  content_is = grind (arith, rest.content_is);
  lexed = rest.lexed;
}

quote_rest : (r : List ℕ) → IsRest (34 ∷ r) [] r
unfolding content lex
quote_rest r = record { content_is = refl; lexed = refl }

pub run_to : (t : List ℕ) (from to : ℕ) → list_all is_printable t ≡ true
    → to ≡ from + prefix_len (is_neither 34 92) (drop from t) → GoesOnTo t from to
run_to t from to all is s r rest =
    let p = take (to - from) (drop from t) in
    let n : to - from ≡ prefix_len (is_neither 34 92) (drop from t) = omega (arith, is) in
    let open_p : list_all (is_neither 34 92) p ≡ true = rw n (front_passes (is_neither 34 92) (drop from t)) in
    let plain_p = all_plain p open_p (all_take is_printable (to - from) (drop from t) (all_drop is_printable from t all)) in
    let to_end : drop (to - from) (drop from t) ≡ drop to t = grind (arith, drop-drop) in
    let cut : p ++ drop to t ≡ drop from t = ap (λ l. p ++ l) (sym to_end) ∙ take-append-drop (to - from) (drop from t) in
    (p ++ s, subst (λ l. IsRest l (p ++ s) r) cut (plain_rest p (drop to t) s r plain_p rest))

-- one way after another
pub passes : (t : List ℕ) (from at to : ℕ) → GoesOnTo t from at → GoesOnTo t at to → GoesOnTo t from to
passes t from at to before after s r rest =
    let later = after s r rest in
    before later.0 r later.1

-- ---- an escape of two bytes

never_none : (b : ℕ) → is_short_escape b ≡ true → short_escape b ≡ None → ⊥
unfolding short_escape
never_none b h e = grind arith

some_short : (o : Option ℕ) (b : ℕ) → is_short_escape b ≡ true → short_escape b ≡ o → (c : ℕ) × (short_escape b ≡ Some c)
some_short None b h e = absurd (never_none b h e)
some_short (Some c) b h e = (c, e)

no_u : (b : ℕ) → is_short_escape b ≡ true → b ≡ 117 → ⊥
no_u b h e = grind arith

pub short_to : (t : List ℕ) (at : ℕ) → at + 2 ≤ length t → get_or t at 0 ≡ 92
    → is_short_escape (get_or t (at + 1) 0) ≡ true → IsEscapeTo t at (at + 2)
short_to t at within is short =
    let e = get_or t (at + 1) 0 in
    let one = some_short (short_escape e) e short refl in
    let behind_it : drop (at + 1) t ≡ e ∷ drop (at + 2) t =
    drop_more t (at + 1) 0 (omega arith) ∙ ap (λ n. e ∷ drop n t) (omega arith) in
    let here : drop at t ≡ 92 ∷ e ∷ drop (at + 2) t =
    drop_more t at 0 (omega arith) ∙ ap (λ b. b ∷ drop (at + 1) t) is ∙ ap (λ l. 92 ∷ l) behind_it in
    record {
      moves = omega arith;
      inside = within;
      goes_on = λ s r rest. (
        one.0 ∷ s,
        subst (λ l. IsRest l (one.0 ∷ s) r) (sym here) (escape_rest e one.0 (drop (at + 2) t) s r (no_u e short) one.1 rest),
      );
    }

-- ---- an escape of four hexadecimal digits

hex_digit : (b : ℕ) → is_ascii_hexdigit b ≡ true → is_digit b 16 ≡ true
hex_digit b h = grind (arith, nat_tests)

hex_plain : (b : ℕ) → is_ascii_hexdigit b ≡ true → is_plain b ≡ true
hex_plain b h = grind (arith, nat_tests)

first_is_no_d : (b : ℕ) → is_ascii_hexdigit b ≡ true → not (b == 100) ≡ true → not (b == 68) ≡ true
    → digit_value b ≡ 13 → ⊥
first_is_no_d b h small large e = grind (arith, nat_tests)

value_small : (b : ℕ) → is_digit b 16 ≡ true → digit_value b < 16
value_small b h = grind (arith, nat_tests)

no_high : (u a low : ℕ) → u ≡ a * 4096 + low → low < 4096 → (a ≡ 13 → ⊥) → is_high_surrogate u ≡ false
no_high u a low e small other = grind (arith, nat_tests)

no_low : (u a low : ℕ) → u ≡ a * 4096 + low → low < 4096 → (a ≡ 13 → ⊥) → is_low_surrogate u ≡ false
no_low u a low e small other = grind (arith, nat_tests)

lex_escaped : (l : List ℕ) → lex in_string (92 ∷ 117 ∷ l) ≡ lex in_string l
unfolding lex
lex_escaped l = refl

lex_unit : (a b c d : ℕ) (l : List ℕ) → is_plain a ≡ true → is_plain b ≡ true → is_plain c ≡ true
    → is_plain d ≡ true → lex in_string (92 ∷ 117 ∷ a ∷ b ∷ c ∷ d ∷ l) ≡ lex in_string l
lex_unit a b c d l ha hb hc hd =
    lex_escaped (a ∷ b ∷ c ∷ d ∷ l) ∙ lex_plain a (b ∷ c ∷ d ∷ l) ha ∙ lex_plain b (c ∷ d ∷ l) hb
    ∙ lex_plain c (d ∷ l) hc ∙ lex_plain d l hd

content_unit : (a b c d u : ℕ) (l : List ℕ) → code_unit a b c d ≡ Some u → is_high_surrogate u ≡ false
    → is_low_surrogate u ≡ false
    → content plain (92 ∷ 117 ∷ a ∷ b ∷ c ∷ d ∷ l) ≡ prepend (encode_utf8 u) (content plain l)
unfolding content
content_unit a b c d u l is high low = rw (is, high, low) refl

abbrev unit_of : ℕ → ℕ → ℕ → ℕ → ℕ
unit_of a b c d = digit_value a * 4096 + digit_value b * 256 + digit_value c * 16 + digit_value d

unit_is : (a b c d : ℕ) → is_digit a 16 ≡ true → is_digit b 16 ≡ true → is_digit c 16 ≡ true → is_digit d 16 ≡ true
    → code_unit a b c d ≡ Some (unit_of a b c d)
unfolding code_unit
unit_is a b c d ha hb hc hd = rw (ha, hb, hc, hd) refl

-- what is known of the four digits
record AreDigits (a b c d : ℕ) : Type 0 where
  first : is_ascii_hexdigit a ≡ true
  second : is_ascii_hexdigit b ≡ true
  third : is_ascii_hexdigit c ≡ true
  fourth : is_ascii_hexdigit d ≡ true
  no_small : not (a == 100) ≡ true
  no_large : not (a == 68) ≡ true

are_digits : (a b c d : ℕ) → is_basic_unit a b c d ≡ true → AreDigits a b c d
are_digits a b c d h =
    let large = and_parts _ _ h in
    let small = and_parts _ _ large.0 in
    let fourth = and_parts _ _ small.0 in
    let third = and_parts _ _ fourth.0 in
    let two = and_parts _ _ third.0 in
    record {
      first = two.0;
      second = two.1;
      third = third.1;
      fourth = fourth.1;
      no_small = small.1;
      no_large = large.1;
    }

unit_rest : (a b c d : ℕ) (l s r : List ℕ) → is_basic_unit a b c d ≡ true → IsRest l s r
    → (w : List ℕ) × IsRest (92 ∷ 117 ∷ a ∷ b ∷ c ∷ d ∷ l) w r
unit_rest a b c d l s r basic rest =
    let all = are_digits a b c d basic in
    let ha = hex_digit a all.first in
    let hb = hex_digit b all.second in
    let hc = hex_digit c all.third in
    let hd = hex_digit d all.fourth in
    let u = unit_of a b c d in
    let low = digit_value b * 256 + digit_value c * 16 + digit_value d in
    let sum : u ≡ digit_value a * 4096 + low = omega arith in
    let small : low < 4096 = omega (arith, value_small b hb, value_small c hc, value_small d hd) in
    let other = first_is_no_d a all.first all.no_small all.no_large in
    let is = unit_is a b c d ha hb hc hd in (
      encode_utf8 u ++ s,
      record {
        content_is = content_unit a b c d u l is (no_high u (digit_value a) low sum small other)
            (no_low u (digit_value a) low sum small other) ∙ ap (prepend (encode_utf8 u)) rest.content_is;
        lexed = lex_unit a b c d l (hex_plain a all.first) (hex_plain b all.second) (hex_plain c all.third)
            (hex_plain d all.fourth) ∙ rest.lexed;
      },
    )

six_bytes : (t : List ℕ) (at : ℕ) → at + 6 ≤ length t → get_or t at 0 ≡ 92 → get_or t (at + 1) 0 ≡ 117
    → drop at t ≡ 92 ∷ 117 ∷ get_or t (at + 2) 0 ∷ get_or t (at + 2 + 1) 0 ∷ get_or t (at + 2 + 2) 0 ∷ get_or t (at + 2 + 3) 0
    ∷ drop (at + 6) t
six_bytes t at within is next =
    let more : (j k : ℕ) → k ≡ j + 1 → j < length t → drop j t ≡ get_or t j 0 ∷ drop k t = λ j k e l.
    drop_more t j 0 l ∙ ap (λ n. get_or t j 0 ∷ drop n t) (sym e) in
    more at (at + 1) refl (omega arith) ∙ ap (λ b. b ∷ drop (at + 1) t) is
    ∙ ap (λ l. 92 ∷ l) (more (at + 1) (at + 2) (omega arith) (omega arith) ∙ ap (λ b. b ∷ drop (at + 2) t) next
    ∙ ap (λ l. 117 ∷ l) (more (at + 2) (at + 2 + 1) refl (omega arith)
    ∙ ap (λ l. get_or t (at + 2) 0 ∷ l) (more (at + 2 + 1) (at + 2 + 2) (omega arith) (omega arith)
    ∙ ap (λ l. get_or t (at + 2 + 1) 0 ∷ l) (more (at + 2 + 2) (at + 2 + 3) (omega arith) (omega arith)
    ∙ ap (λ l. get_or t (at + 2 + 2) 0 ∷ l) (more (at + 2 + 3) (at + 6) (omega arith) (omega arith))))))

pub unit_to : (t : List ℕ) (at : ℕ) → at + 6 ≤ length t → get_or t at 0 ≡ 92 → get_or t (at + 1) 0 ≡ 117
    → is_basic_unit (get_or t (at + 2) 0) (get_or t (at + 2 + 1) 0) (get_or t (at + 2 + 2) 0) (get_or t (at + 2 + 3) 0) ≡ true
    → IsEscapeTo t at (at + 6)
unit_to t at within is next basic = record {
  moves = omega arith;
  inside = within;
  goes_on = λ s r rest. subst (λ l. (w : List ℕ) × IsRest l w r) (sym (six_bytes t at within is next))
      (unit_rest (get_or t (at + 2) 0) (get_or t (at + 2 + 1) 0) (get_or t (at + 2 + 2) 0) (get_or t (at + 2 + 3) 0)
      (drop (at + 6) t) s r basic rest);
}

pub escaped_to : (t : List ℕ) (at end : ℕ) → at + 1 ≤ end → get_or t at 0 ≡ 34 → GoesOnTo t (at + 1) end → end < length t
    → get_or t end 0 ≡ 34 → IsEscapedTo t at end
escaped_to t at end order opens walked within closes =
    let last = subst (λ l. IsRest l [] (drop (end + 1) t)) (sym (drop_more t end 0 within ∙ ap (λ b. b ∷ drop (end + 1) t) closes))
    (quote_rest (drop (end + 1) t)) in
    let all = walked [] (drop (end + 1) t) last in
    record {
      order = omega (arith, order);
      inside = within;
      content_is = all.0;
      is = ap (λ l. lex between l) (drop_more t at 0 (omega (arith, order, within)) ∙ ap (λ b. b ∷ drop (at + 1) t) opens)
          ∙ lex_quote (drop (at + 1) t)
          ∙ ap₂ (λ o l. token (string_token o) ∷ l) all.1.content_is all.1.lexed;
    }
