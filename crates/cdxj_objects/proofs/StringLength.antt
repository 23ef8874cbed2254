-- No string among the tokens of a text is longer than the text.
use Rattle.std.proofs.Common.{ℕ, ◌+◌, ◌≤◌, Bool, true, false, cond, ◌&&◌, ◌==◌, List, [], ◌∷◌, length, codes, Option}
use Rattle.std.proofs.Common.{Some, None, option_and_then, arith}
use Rattle.std.specs.Prelude.{⊤}
use Rattle.std.specs.List.{AllByRecursion}
use Rattle.std.specs.Char.{encode_utf8}
use Rattle.std.proofs.lemmas.List.{length-append}
use Rattle.json.specs.Text.{code_unit, is_high_surrogate, is_low_surrogate, surrogate_pair, Within, plain}
use Rattle.json.specs.Text.{after_backslash, after_u, after_high, prepend, content}
use Rattle.json.specs.Token.{Token}
use Rattle.json.specs.Word.{head, after_number, number_before, literal, word}
use Rattle.json.specs.Lex.{Lexeme, token, comma, colon, Class, quote, other, class}
use Rattle.json.specs.Lex.{Mode, between, in_word, lex_byte, lex, Place, fresh}
use Rattle.json.specs.Lex.{punctuate, tokens}

-- ---- what an option may have

abbrev pub Each : {A : Type 0} → (A → Type 0) → Option A → Type 0
Each P None = ⊤
Each P (Some a) = P a

pub each_then : {A B : Type 0} (P : A → Type 0) (Q : B → Type 0) (f : A → Option B) → ((a : A) → P a → Each Q (f a))
    → (o : Option A) → Each P o → Each Q (option_and_then f o)
each_then P Q f h o x = grind arith

pub either : {A : Type 0} (P : A → Type 0) (b : Bool) (x y : A) → P x → P y → P (cond b x y)
either P b x y p q = grind arith

-- ---- the content of a string

abbrev pub UpTo : ℕ → List ℕ → Type 0
UpTo n s = length s ≤ n

after_unit : (n : ℕ) (f : ℕ → Option (List ℕ)) (o : Option ℕ) → ((u : ℕ) → Each (UpTo n) (f u))
    → Each (UpTo n) (option_and_then f o)
after_unit n f o h = grind arith

prepended : (n m : ℕ) (a : List ℕ) (r : Option (List ℕ)) → length a + m ≤ n → Each (UpTo m) r
    → Each (UpTo n) (prepend a r)
prepended n m a r le h = grind (arith, length-append)

length-encode : (u : ℕ) → length (encode_utf8 u) ≤ 4
unfolding encode_utf8
length-encode u = grind arith

short_content : (n : ℕ) (w : Within) (xs : List ℕ) → length xs ≤ n → Each (UpTo n) (content w xs)
unfolding content
short_content n plain [] le = tt
short_content n plain (x ∷ xs) le =
    grind (arith, short_content n after_backslash xs (omega arith), short_content (length xs) plain xs (omega arith))
short_content n after_backslash [] le = tt
short_content n after_backslash (x ∷ xs) le =
    either (Each (UpTo n)) (x == 117) _ _ (short_content n after_u xs (omega arith))
    (grind (arith, short_content (length xs) plain xs (omega arith)))
short_content n after_u (a ∷ b ∷ c ∷ d ∷ xs) le =
    after_unit n _ (code_unit a b c d) (λ u. either (Each (UpTo n)) (is_high_surrogate u) _ _
    (short_content n (after_high u) xs (omega arith))
    (either (Each (UpTo n)) (is_low_surrogate u) _ _ tt (prepended n (length xs) (encode_utf8 u) _
    (omega (arith, length-encode u)) (short_content (length xs) plain xs (omega arith)))))
short_content n after_u xs le = tt
short_content n (after_high h) (s ∷ u ∷ a ∷ b ∷ c ∷ d ∷ xs) le =
    either (Each (UpTo n)) ((s == 92) && (u == 117)) _ _ (after_unit n _ (code_unit a b c d)
    (λ l. either (Each (UpTo n)) (is_low_surrogate l) _ _
    (prepended n (length xs) (encode_utf8 (surrogate_pair h l)) _ (omega (arith, length-encode (surrogate_pair h l)))
    (short_content (length xs) plain xs (omega arith))) tt)) tt
short_content n (after_high h) xs le = tt

-- ---- the tokens of a text

abbrev pub ShortToken : ℕ → Token → Type 0
ShortToken n Token.begin_object = ⊤
ShortToken n Token.end_object = ⊤
ShortToken n Token.begin_array = ⊤
ShortToken n Token.end_array = ⊤
ShortToken n (Token.key s) = ⊤
ShortToken n (Token.string s) = UpTo n s
ShortToken n (Token.number s) = ⊤
ShortToken n (Token.boolean b) = ⊤
ShortToken n Token.null = ⊤
ShortToken n Token.bad = ⊤

abbrev ShortLexeme : ℕ → Lexeme → Type 0
ShortLexeme n (token t) = ShortToken n t
ShortLexeme n comma = ⊤
ShortLexeme n colon = ⊤

abbrev pub AreShort : ℕ → List Token → Type 0
AreShort n = AllByRecursion (ShortToken n)

short_number : (n : ℕ) (t : List ℕ) (o : Option (List ℕ)) → ShortToken n (number_before t o)
short_number n t o = grind arith

short_literal : (n : ℕ) (name : List ℕ) (k : Token) (t : List ℕ) → ShortToken n k → ShortToken n (literal name k t)
short_literal n name k t h = grind arith

short_word : (n : ℕ) (t : List ℕ) → ShortToken n (word t)
unfolding word
short_word n t =
    either (ShortToken n) (head t == 116) _ _ (short_literal n (codes "true") (Token.boolean true) t tt)
    (either (ShortToken n) (head t == 102) _ _ (short_literal n (codes "false") (Token.boolean false) t tt)
    (either (ShortToken n) (head t == 110) _ _ (short_literal n (codes "null") Token.null t tt)
    (short_number n t (after_number t))))

short_byte : (n : ℕ) (m : Mode) (c : Class) (x : ℕ) (xs : List ℕ) (k : Mode → List Lexeme) → length xs ≤ n
    → ((next : Mode) → AllByRecursion (ShortLexeme n) (k next)) → AllByRecursion (ShortLexeme n) (lex_byte m c x xs k)
short_byte n between quote x xs k le h = grind (arith, short_content)
short_byte n between other x xs k le h = (short_word n (x ∷ xs), h in_word)
short_byte n m c x xs k le h = grind (arith, between)

short_lex : (n : ℕ) (m : Mode) (xs : List ℕ) → length xs ≤ n → AllByRecursion (ShortLexeme n) (lex m xs)
unfolding lex
short_lex n m [] le = tt
short_lex n m (x ∷ xs) le = short_byte n m (class x) x xs (λ next. lex next xs) (omega arith)
    (λ next. short_lex n next xs (omega arith))

short_punctuated : (n : ℕ) (p : Place) (ls : List Lexeme) → AllByRecursion (ShortLexeme n) ls
    → AreShort n (punctuate p ls)
unfolding punctuate
short_punctuated n p [] h = grind arith
short_punctuated n p (l ∷ ls) h =
    let rest = λ (next : Place) (h : AllByRecursion (ShortLexeme n) ls). short_punctuated n next ls h in
    grind arith

pub short_tokens : (text : List ℕ) → AreShort (length text) (tokens text)
short_tokens text = short_punctuated (length text) fresh (lex between text) (grind (arith, short_lex))
