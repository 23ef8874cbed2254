-- The text of a head, found a byte at a time.
use Rattle.warc_core.proofs.Words.{◌≡◌, ℕ, suc, ◌+◌, ◌-◌, ◌<◌, ◌≤◌, true, false, List, [], ◌∷◌}
use Rattle.warc_core.proofs.Words.{◌++◌, Option, Some, Result, Ok, Err, length, take, refl, ap}
use Rattle.warc_core.proofs.Words.{arith, append_assoc, append-nil, length-append, ◌⊎◌}
use Rattle.warc_core.proofs.Words.{take-append-add, Cause, has_version, is_closed, get_or, drop}
use Rattle.warc_core.proofs.Words.{length-drop, closing, IsVersionLine, take-append-drop}
use Rattle.std.proofs.Common.{Bool, ◌&&◌, if◌then◌else◌, ◌==◌, zip}
use Rattle.std.proofs.Math.Seq.{drop-append_seam}
use Rattle.warc_core.specs.HeadText.{agrees, version_1_1, version_1_0, shortest, found_head}
use Rattle.warc_core.specs.HeadText.{head_text}
use Rattle.std.proofs.lemmas.List.Folds.{list_all_at}
use Rattle.std.proofs.lemmas.Slice.Zip.{get_or-zip, length-zip}
use Rattle.std.specs.Prelude.{not}
use Rattle.std.proofs.lemmas.List.{get_or-drop, get_or-take, nil_from_length}
use Rattle.warc_core.specs.declared.fault.Cause.TheVariants as causes

pub and_both : (t a : Bool) → (t && a) ≡ true → (t ≡ true) × (a ≡ true)
and_both t a h = grind arith

pub which : (b : Bool) → (b ≡ true) ⊎ (b ≡ false)
which b = grind arith

-- a text that disagrees does so however it goes on
pub agrees-longer : (xs more ys : List ℕ) → agrees xs ys ≡ false → agrees (xs ++ more) ys ≡ false
agrees-longer (x ∷ xs) more (y ∷ ys) h = grind (arith, agrees-longer xs more ys)
agrees-longer xs more ys h = grind arith

agrees-nil : (xs : List ℕ) → agrees xs [] ≡ true
agrees-nil [] = refl
agrees-nil (x ∷ xs) = refl

-- a text that begins with a version line
pub begins_version : (text : List ℕ) → IsVersionLine (take 10 text) → has_version text ≡ true
begins_version text v = grind (arith, take-append-drop 10 text, agrees-nil)

-- a text that agrees to the other's end does so however it goes on
pub agrees-whole : (xs more ys : List ℕ) → agrees xs ys ≡ true → length ys ≤ length xs → agrees (xs ++ more) ys ≡ true
agrees-whole (x ∷ xs) more (y ∷ ys) h l = grind (arith, agrees-whole xs more ys)
agrees-whole xs more [] h l = grind (arith, agrees-nil)
agrees-whole xs more ys h l = grind arith

-- a text that agrees and is as long begins with the other
agrees-begins : (xs ys : List ℕ) → agrees xs ys ≡ true → length ys ≤ length xs → take (length ys) xs ≡ ys
agrees-begins (x ∷ xs) (y ∷ ys) h l = grind (arith, agrees-begins xs ys)
agrees-begins xs ys h l = grind (arith, nil_from_length ys)

-- a text with a version begins with a version line
pub version-line : (text : List ℕ) → has_version text ≡ true → 10 ≤ length text → IsVersionLine (take 10 text)
version-line text h l = grind (arith, agrees-begins text version_1_1, agrees-begins text version_1_0)

-- texts that agree have the same byte at each place
agrees-at : (xs ys : List ℕ) (i : ℕ) → agrees xs ys ≡ true → i < length xs → i < length ys
    → get_or xs i 0 ≡ get_or ys i 0
agrees-at xs ys i h l m =
    grind (arith, list_all_at (λ (p : ℕ × ℕ). p.0 == p.1) (zip xs ys) i (0, 0), get_or-zip, length-zip)

-- the only LF of a version line is its last byte
one-lf : (version : List ℕ) → IsVersionLine version → (k : ℕ) → k < 9 → get_or version k 0 ≡ 10 → ⊥
one-lf version v k l e = grind (arith, list_all_at (λ b. not (b == 10)) (take 9 version) k 0, get_or-take)

-- what ends a head has an LF three bytes before its end
closed-lf : (text : List ℕ) → is_closed text ≡ true → (4 ≤ length text) × (get_or text (length text - 3) 0 ≡ 10)
closed-lf text h =
    let e : drop (length text - 4) text ≡ closing = grind arith in
    grind (arith, length-drop (length text - 4) text, ap length e, get_or-drop (length text - 4) text 1 0)

closed-and-agrees : (seen version : List ℕ) → IsVersionLine version → is_closed seen ≡ true
    → agrees seen version ≡ true → 12 ≤ length seen
closed-and-agrees seen version v h a =
    let lf = closed-lf seen h in
    grind (arith, one-lf version v (length seen - 3), agrees-at seen version (length seen - 3))

-- what ends a head and agrees has the whole version line, and more
pub closed-long : (seen : List ℕ) → is_closed seen ≡ true → has_version seen ≡ true → 12 ≤ length seen
closed-long seen h a = grind (arith, closed-and-agrees)

shortest-now : (test : List ℕ → Bool) (seen bytes : List ℕ) → test seen ≡ true → shortest test seen bytes ≡ Some seen
unfolding shortest
shortest-now test seen [] h = rw h refl
shortest-now test seen (b ∷ bytes) h = rw h refl

-- a text judged by the shortest front that ends a head
abbrev pub judged : ℕ → List ℕ → Option (List ℕ) → Result (List ℕ × List ℕ) Cause
judged limit text found = if has_version text then found_head limit text found else Err causes.Version

-- the head's text, of which some bytes were seen
unfoldable pub going : ℕ → List ℕ → List ℕ → Result (List ℕ × List ℕ) Cause
going limit seen bytes = judged limit (seen ++ bytes) (shortest is_closed seen (take (limit - length seen) bytes))

pub going-start : (limit : ℕ) (bytes : List ℕ) → head_text limit bytes ≡ going limit [] bytes
unfolding head_text going
going-start limit bytes = grind arith

pub going-more : (limit : ℕ) (seen bytes : List ℕ) (b : ℕ) → is_closed seen ≡ false → length seen < limit
    → going limit seen (b ∷ bytes) ≡ going limit (seen ++ b ∷ []) bytes
unfolding going shortest
going-more limit seen bytes b h l = grind (arith, length-append, append_assoc)

pub going-end : (limit : ℕ) (seen : List ℕ) → is_closed seen ≡ false → has_version seen ≡ true → length seen < limit
    → going limit seen [] ≡ Err causes.ShortHead
unfolding going shortest
going-end limit seen h a l = grind (arith, append-nil)

pub going-full : (limit : ℕ) (seen bytes : List ℕ) → is_closed seen ≡ false → has_version seen ≡ true → length seen
    ≡ limit → 10 ≤ limit → going limit seen bytes ≡ Err causes.HeadTooLong
unfolding going shortest
going-full limit seen bytes h a l m = grind (arith, agrees-whole, length-append)

pub going-found : (limit : ℕ) (seen bytes : List ℕ) → is_closed seen ≡ true → has_version seen ≡ true
    → going limit seen bytes ≡ Ok (seen, bytes)
unfolding going
going-found limit seen bytes h a = grind (arith, shortest-now, agrees-whole, closed-long, drop-append_seam)

-- a piece of which no front but the last can end a head
pub going-piece : (limit : ℕ) (seen w bytes : List ℕ) → ((j : ℕ) → j < length w → is_closed (seen ++ take j w) ≡ false)
    → length seen + length w ≤ limit → going limit seen (w ++ bytes) ≡ going limit (seen ++ w) bytes
going-piece limit seen [] bytes u l = grind (arith, append-nil)
going-piece limit seen (b ∷ w) bytes u l =
    let first : is_closed seen ≡ false = rw append-nil at (u 0 (omega arith)) in
    let len = length-append seen (b ∷ []) in
    let rest = going-piece limit (seen ++ b ∷ []) w bytes (λ j k. rw append_assoc (u (suc j) (omega arith)))
    (omega arith) in
    grind (arith, going-more, append_assoc)

-- a piece that disagrees
pub going-wrong : (limit : ℕ) (seen w bytes : List ℕ) → has_version (seen ++ w) ≡ false → going limit seen (w ++ bytes)
    ≡ Err causes.Version
unfolding going
going-wrong limit seen w bytes h = grind (arith, append_assoc, agrees-longer)

-- where no front of the text that was gathered from `seen` and a piece ends a head before the last
pub going-gathered : (limit : ℕ) (seen w bytes : List ℕ) → is_closed seen ≡ false
    → ((n : ℕ) → length seen < n → n < length seen + length w → is_closed (take n (seen ++ w)) ≡ false)
    → length seen + length w ≤ limit → going limit seen (w ++ bytes) ≡ going limit (seen ++ w) bytes
going-gathered limit seen w bytes h u l =
    going-piece limit seen w bytes (λ j k. grind (arith, take-append-add, append-nil, u (length seen + j))) l
