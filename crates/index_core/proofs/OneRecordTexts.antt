-- The text of a record that is copied, and fronts of it.
use Rattle.index_core.proofs.Words.{◌≡◌, ◌∙◌, ℕ, ◌+◌, ◌-◌, List, [], ◌∷◌, ◌++◌, Option, Result, Ok, Err}
use Rattle.index_core.proofs.Words.{HEAD_LIMIT, HeadView, record_length, AppendsPrefix, Appends, Appends-join, IndexFault}
use Rattle.index_core.proofs.Words.{append-nil, append_assoc, arith, inl, inr, length, length-append, refl, subst, sym, take}
use Rattle.std.proofs.Common.{IfOk, suc, zero}
use Rattle.std.proofs.lemmas.List.{length-take-le}
use Rattle.devices.proofs.WritingLemmas.{prefix_after, prefix_longer, prefix_whole}
use Rattle.warc_core.specs.Calls.{GivesBlock}
use Rattle.warc_core.specs.ReaderView.{IfOpen, ReaderState}
use Rattle.warc_core.specs.Record.{closing}
use Rattle.warc_core.specs.RecordText.{IsHead}
use Rattle.index_core.specs.Copying.{CopiedBut}
use Rattle.index_core.specs.OneRecord.{IsOneRecord, WritesOneRecord, WritesPart}

-- some bytes, so many
some_bytes : ℕ → List ℕ
some_bytes zero = []
some_bytes (suc n) = 0 ∷ some_bytes n

so_many : (n : ℕ) → length (some_bytes n) ≡ n
unfolding some_bytes
so_many zero = refl
so_many (suc n) = grind (arith, so_many n)

module _ (h : HeadView) (said : IsHead HEAD_LIMIT h) where
  -- the record with this block
  abbrev text_of : List ℕ → List ℕ
  text_of block = h.raw ++ (block ++ closing)

  is_record : (block : List ℕ) → length block ≡ h.parts.block_length → IsOneRecord HEAD_LIMIT (text_of block)
  is_record block whole = (h, block, record { spelled = refl; is_head = said.is_text; block_length = whole })

  module _ (w : Option (List ℕ)) where
    -- the head, or a front of it
    pub head_part : (u : Option (List ℕ)) → AppendsPrefix w u h.raw → WritesPart HEAD_LIMIT w u
    head_part u p = let block = some_bytes h.parts.block_length in
        inr (text_of block, is_record block (so_many h.parts.block_length), prefix_longer w u h.raw (block ++ closing) p)

    -- the head, and a front of the block
    block_part : (u : Option (List ℕ)) (front : List ℕ) (rest : ℕ) → length front + rest ≡ h.parts.block_length
        → AppendsPrefix w u (h.raw ++ front) → WritesPart HEAD_LIMIT w u
    block_part u front rest whole p =
        let more = some_bytes rest in
        let long : length (front ++ more) ≡ h.parts.block_length =
        omega (arith, whole, so_many rest, length-append front more) in
        let same : (h.raw ++ front) ++ (more ++ closing) ≡ text_of (front ++ more) =
        append_assoc h.raw front (more ++ closing) ∙ sym (subst (λ t. h.raw ++ t ≡ h.raw ++ (front ++ (more ++ closing))) (sym (append_assoc front more closing)) refl) in
        inr (
          text_of (front ++ more),
          is_record (front ++ more) long,
          subst (AppendsPrefix w u) same (prefix_longer w u (h.raw ++ front) (more ++ closing) p),
        )

    module _ (before v : Option (List ℕ)) (now : ReaderState) where
      -- what comes next wasn't read
      pub stopped_part : (rest : ℕ) → CopiedBut rest h before now w v → WritesPart HEAD_LIMIT w v
      stopped_part rest d = block_part v d.front rest d.whole
          (subst (AppendsPrefix w v) (append-nil (h.raw ++ d.front)) (prefix_whole w v (h.raw ++ d.front) [] d.grown))

      -- the next piece of the block, or a front of it
      pub piece_part : (rest n : ℕ) (piece : List ℕ) (next : ReaderState) (u : Option (List ℕ))
          → CopiedBut rest h before now w v
          → IfOpen now.reader.phase (λ left len. GivesBlock left len now next (Ok n) piece)
          → AppendsPrefix v u (take n piece) → WritesPart HEAD_LIMIT w u
      piece_part rest n piece next u d gave p =
          let g = rw d.stands.phase_is at gave in
          let long = length-take-le n piece g.bound.1 in
          let few = g.bound.0 in
          let whole = d.whole in
          let same = append_assoc h.raw d.front (take n piece) in
          block_part u (d.front ++ take n piece) (rest - n)
          (omega (arith, long, few, whole, length-append d.front (take n piece)))
          (subst (AppendsPrefix w u) same (prefix_after w v u (h.raw ++ d.front) (take n piece) d.grown p))

      module _ (d : CopiedBut 0 h before now w v) where
        same_text : (h.raw ++ d.front) ++ closing ≡ text_of d.front
        same_text = append_assoc h.raw d.front closing

        there : IsOneRecord HEAD_LIMIT (text_of d.front)
        there = is_record d.front (let whole = d.whole in omega (arith, whole))

        -- the closing, or a front of it
        pub closing_part : (u : Option (List ℕ)) → AppendsPrefix v u closing → WritesPart HEAD_LIMIT w u
        closing_part u p = inr (
          text_of d.front,
          there,
          subst (AppendsPrefix w u) same_text (prefix_after w v u (h.raw ++ d.front) closing d.grown p),
        )

        -- the whole record
        pub record_whole : (n : ℕ) (u : Option (List ℕ)) → n ≡ record_length h → Appends v u closing
            → (text : List ℕ)
            × IsOneRecord HEAD_LIMIT text × (n ≡ length text) × Appends w u text
        record_whole n u size p =
            let whole = d.whole in (
              text_of d.front,
              there,
              omega (arith, size, whole, length-append h.raw (d.front ++ closing), length-append d.front closing),
              subst (Appends w u) same_text (Appends-join w v u (h.raw ++ d.front) closing d.grown p),
            )

-- a whole record is a part of one
pub as_part : (r : Result ℕ IndexFault) (w u : Option (List ℕ)) → WritesOneRecord HEAD_LIMIT r w u
    → WritesPart HEAD_LIMIT w u
as_part (Ok n) w u (text, is, size, p) =
    inr (text, is, subst (AppendsPrefix w u) (append-nil text) (prefix_whole w u text [] p))
as_part (Err f) w u p = p

-- nothing is a part
pub no_part : (r : Result ℕ IndexFault) (w : Option (List ℕ)) → IfOk r (λ n. ⊥) → WritesOneRecord HEAD_LIMIT r w w
no_part (Ok n) w none = absurd none
no_part (Err f) w none = inl refl

pub ruleset part_rules = (as_part, no_part)
