-- What a piece of a head does to the reading of it.
use Rattle.warc_core.proofs.Words.{◌≡◌, ℕ, ◌+◌, ◌-◌, ◌<◌, ◌≤◌, List, ◌++◌, Option, Ok, Err, true}
use Rattle.warc_core.proofs.Words.{false, refl, length, take, drop, arith, ap, append_assoc}
use Rattle.warc_core.proofs.Words.{length-append, prepend_known, take-append-drop, length-take-le}
use Rattle.warc_core.proofs.Words.{take-take, Reads, has_version, is_closed, IsFoundHead}
use Rattle.warc_core.proofs.Words.{take-append-add, IsVersionLine}
use Rattle.warc_core.proofs.HeadLemmas.{going, going-found}
use Rattle.warc_core.proofs.HeadLemmas.{going-wrong, going-gathered, agrees-longer, begins_version}
use Rattle.warc_core.proofs.ReadingLemmas.{GoesOn}
use Rattle.std.proofs.Common.{◌∙◌}
use Rattle.std.proofs.lemmas.List.{take-append-le}
use Rattle.warc_core.specs.HeadText.{head_text, ClosesFirst}
use Rattle.warc_core.proofs.ClosingLemmas.{NoneBetween, none-in-run, found-first, begins-occurs}
use Rattle.warc_head.specs.Usual.{ClosesAt}
use Rattle.warc_core.specs.declared.fault.Cause.TheVariants as causes

pub split_at : (count : ℕ) (b z : List ℕ) → b ++ z ≡ take count b ++ (drop count b ++ z)
split_at count b z = rw (← append_assoc, take-append-drop)

-- a front of what agrees
pub has_version-front : (xs more : List ℕ) → has_version (xs ++ more) ≡ true → has_version xs ≡ true
has_version-front xs more h = grind (arith, agrees-longer)

pub has_version-take : (n : ℕ) (xs : List ℕ) → has_version xs ≡ true → has_version (take n xs) ≡ true
has_version-take n xs h = grind (arith, has_version-front (take n xs) (drop n xs), take-append-drop)

module _ (limit : ℕ) (seen b : List ℕ) (before left : Option (List ℕ)) (unclosed : is_closed seen ≡ false)
    (same : GoesOn (head_text limit) (going limit seen) before (prepend_known b left)) where
  -- a piece more shows another version
  pub head-wrong : (after : Option (List ℕ)) (count : ℕ) (new : List ℕ) → new ≡ seen ++ take count b → has_version new
      ≡ false → Reads (head_text limit) (Err causes.Version) before after
  head-wrong after count new n h = grind (arith, split_at count b, going-wrong)

  -- a piece more
  pub head-piece : (count : ℕ) (new : List ℕ) → count ≤ length b → new ≡ seen ++ take count b
      → ((n : ℕ) → length seen < n → n < length seen + count → is_closed (take n new) ≡ false)
      → length seen + count ≤ limit
      → GoesOn (head_text limit) (going limit new) before (prepend_known (drop count b) left)
  head-piece count new c n u l = grind (arith, length-take-le, split_at count b, going-gathered)

  -- the piece has the end
  pub head-found : (count end : ℕ) (new : List ℕ) → count ≤ length b → new ≡ seen ++ take count b
      → ClosesFirst new (length seen) end → length seen + count ≤ limit → has_version new ≡ true
      → Reads (head_text limit) (Ok (take end new)) before (prepend_known (drop (end - length seen) b) left)
  head-found count end new c n h l agree =
      let m : length (take count b) ≡ count = length-take-le count b c in
      let len : length new ≡ length seen + length (take count b) = ap length n ∙ length-append seen (take count b) in
      let k = end - length seen in
      let front = take-append-add seen (take count b) k in
      grind (arith, head-piece k (take end new), take-take, going-found, has_version-take)

-- the text that was gathered is a head
pub head-is-found : (limit : ℕ) (seen b new : List ℕ) (count end : ℕ) → count ≤ length b → new ≡ seen ++ take count b
    → ((n : ℕ) → n ≤ length seen → is_closed (take n seen) ≡ false) → ClosesFirst new (length seen) end
    → length seen + count ≤ limit → has_version new ≡ true → IsFoundHead limit (take end new)
head-is-found limit seen b new count end c e before h room agree =
    let v = has_version-take end new agree in
    let f : (n : ℕ) → n < end → is_closed (take n new) ≡ false = λ n l. grind (arith, take-append-le) in
    grind (arith, length-take-le, length-append, take-take)

-- a head of this size at the front of a text
module _ (limit size : ℕ) (b : List ℕ) (version : IsVersionLine (take 10 b)) (closes : ClosesAt b size) (small : size ≤ limit)
  where
    none : NoneBetween b 0 (size - 4)
    none k from below h = grind (arith, none-in-run)

    first : ClosesFirst b 0 (size - 4 + 4)
    first =
        found-first b 0 (size - 4) none (omega arith)
        (begins-occurs b (size - 4) (omega (arith, closes.within)) (rw closes.closing refl))

    pub usual-found : IsFoundHead limit (take size b)
    usual-found =
        let n : size - 4 + 4 ≡ size = omega (arith, closes.long) in
        let f : ClosesFirst b 0 size = rw n at first in
        let long = length-take-le size b closes.within in
        record {
          version = has_version-take size b (begins_version b version);
          closed = f.closed;
          first = λ n l. grind (arith, take-take, long, f.first n);
          small = omega (arith, long, small);
        }
