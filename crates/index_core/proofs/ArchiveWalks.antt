-- Walks over the records of an archive.
use Rattle.index_core.proofs.Words.{◌≡◌, ◌∙◌, ℕ, List, [], ◌∷◌, Some, Ok}
use Rattle.index_core.proofs.Words.{length, drop, ap, refl, arith, drop-append_seam}
use Rattle.index_core.proofs.Words.{HeadView, Walks, read-spelled}
use Rattle.warc_core.specs.Walk.{record_at}
use Rattle.warc_core.proofs.ArchiveLemmas.{walk-front}

-- a walk that ends where it began is over no records
pub walk_nowhere : (limit o : ℕ) (more : List HeadView) (r t : List ℕ) → Walks limit o r more o t → more ≡ []
walk_nowhere limit o [] r t w = refl
walk_nowhere limit o (h ∷ more) r t w = absurd (grind (arith, walk-front))

module _ (limit : ℕ) (archive : List ℕ) (heads : List HeadView) (o : ℕ) (rest : List ℕ)
    (w : Walks limit 0 archive heads o rest) where
  -- what is left stands behind the records
  pub from_offset : drop o archive ≡ rest
  from_offset =
      let f = walk-front limit 0 archive heads o rest w in
      let at : o ≡ length f.0 = omega (arith, f.2) in
      ap (λ n. drop n archive) at ∙ ap (drop (length f.0)) f.1 ∙ drop-append_seam f.0 rest

  -- and from where the record that is read there begins
  pub from_start : (h : HeadView) (later : List ℕ) → record_at limit o rest ≡ Ok (Some h, later)
      → drop h.start archive ≡ rest
  from_start h later r = grind (arith, from_offset, read-spelled)
