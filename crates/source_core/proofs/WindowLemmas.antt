-- Bytes that a window holds.
use Rattle.source_core.proofs.Words.{[], ℕ, ◌++◌, ◌+◌, ◌-◌, ◌<◌, ◌∷◌, ◌≡◌, ◌≤◌, AreBytesAt, BeginsWith, Bool}
use Rattle.source_core.proofs.Words.{CursorState, HeldBytes, Holds, IsHeldLine, List, NoFeed, Option, PartOf, ReadsOn}
use Rattle.source_core.proofs.Words.{Some, Stands, ap, arith, body_of, cases_lt, common_steps, cond-false, cond_both}
use Rattle.source_core.proofs.Words.{drop, drop-drop, drop-take, drop_all, get_or, held_from, inl, inr, le-ltb, length}
use Rattle.source_core.proofs.Words.{length-append, length-take, lines, list_all, ltb-false, min, prefix_len, refl}
use Rattle.source_core.proofs.Words.{take, take-take, take_more, true}
use Rattle.std.specs.Prelude.{ltb}
use Rattle.source_core.specs.declared.source.Source.{Ghosts}
use Rattle.source_core.proofs.{FrontLemmas.reads_on, Parts.ended, Parts.given_more, Parts.given_out}
use Rattle.cdxj_core.proofs.{EntryRead.body_of-feed, PrintableAscii.printable_front}
use Rattle.cdxj_core.specs.Plain.{is_printable_ascii}

-- a source was read and did not fail, and the window holds bytes of it
pub record HasRead {S : Type 0} (device : Ghosts S) (old new : S) (window : HeldBytes) : Type 0 where
  pub text : device.text new ≡ device.text old
  pub extent : device.extent new ≡ device.extent old
  pub failures : device.failures new ≡ device.failures old
  pub holds : Holds (device.text new) (device.extent new) window

pub none_held : (text : Option (List ℕ)) (extent at : ℕ) → at ≤ extent → AreBytesAt text extent at []
none_held text extent at inside = grind arith

held_past : (text : Option (List ℕ)) (extent : ℕ) (w : HeldBytes) (k : ℕ) → Holds text extent w → w.at + k ≤ extent
    → AreBytesAt text extent (w.at + k) (drop k w.bytes)
held_past text extent w k h inside = elim (cases_lt (length w.bytes) k) [
  | inl l ↦ grind (arith, drop_all)
  | inr l ↦ given_out text extent w.at k w.bytes h l
]

-- what is held from an offset on
pub held_stands : (text : Option (List ℕ)) (extent : ℕ) (w : HeldBytes) (at : ℕ) → Holds text extent w → at ≤ extent
    → AreBytesAt text extent at (held_from w at)
held_stands text extent w at h inside =
    cond_both (ltb at w.at) [] (drop (at - w.at) w.bytes) (AreBytesAt text extent at)
    (λ e. none_held text extent at inside)
    (λ e. let low = ltb-false at w.at e in
    let there : w.at + (at - w.at) ≡ at = omega arith in
    rw there at (held_past text extent w (at - w.at) h (omega arith)))

-- what is held behind the first n bytes of that
pub held_behind : (w : HeldBytes) (at n : ℕ) → n ≤ length (held_from w at)
    → held_from w (at + n) ≡ drop n (held_from w at)
held_behind w at n inside = grind (arith, cond-false, le-ltb, drop-drop)

-- what is left of the first `count` bytes of a buffer behind n of them
pub held_rest : (n count skipped : ℕ) (xs : List ℕ) → skipped ≡ min count n → take (count - skipped) (drop skipped xs)
    ≡ drop n (take count xs)
held_rest n count skipped xs e = grind (arith, drop_all, length-take, drop-take n (count - n) xs)

-- ---- the line that begins there

pub nothing_read : (t : List ℕ) (offset : ℕ) → BeginsWith t offset []
nothing_read t offset = grind arith

-- it goes on with a part of what is held
pub held_reads : (text : Option (List ℕ)) (extent offset n : ℕ) (front held new t : List ℕ) (ends : Bool)
    → AreBytesAt text extent (offset + length front) held → text ≡ Some t → n ≤ length held → new ≡ front ++ take n held
    → PartOf held n ends → BeginsWith t offset front → ReadsOn t offset new ends
held_reads text extent offset n front held new t ends s e inside grown part begins =
    grind (arith, common_steps, length-append, length-take, reads_on, take-take)

-- ---- lines that were read ahead

no_feed : (xs : List ℕ) → list_all is_printable_ascii xs ≡ true → NoFeed xs
no_feed [] h = tt
no_feed (x ∷ xs) h = grind (arith, no_feed xs)

-- a line feed ends the bytes of ASCII that are no control and no backslash
pub printable_line : (held : List ℕ) (body : ℕ) → body ≡ prefix_len is_printable_ascii held → body < length held
    → get_or held body 0 ≡ 10
    → IsHeldLine held (body + 1) × (list_all is_printable_ascii (body_of (take (body + 1) held)) ≡ true)
printable_line held body run inside feed =
    let all : list_all is_printable_ascii (take body held) ≡ true = grind (arith, printable_front) in
    let whole : take (body + 1) held ≡ take body held ++ 10 ∷ [] = grind (arith, take_more held body 0 inside) in
    grind (arith, ap, body_of-feed, no_feed)

module _ (text : Option (List ℕ)) (extent : ℕ) (c : CursorState) (size : ℕ) (h : Stands text extent c)
    (line : IsHeldLine c.ahead size) where
  -- it is the line that begins where the cursor stands
  pub passed_line : (t : List ℕ) → text ≡ Some t → lines (drop c.at t)
      ≡ take size c.ahead ∷ lines (drop (c.at + size) t)
  passed_line t e = ended t c.ahead (length c.ahead) c.at size (h.filled.bytes t e) line.inside c.at [] refl tt
      line.part

  -- and the cursor stands behind it
  pub passed : Stands text extent
      (record { ahead = drop size c.ahead; at = c.at + size; start = c.start; count = c.count + 1 })
  passed = grind (arith, given_out text extent c.at size c.ahead h.filled line.inside, given_more, passed_line)
