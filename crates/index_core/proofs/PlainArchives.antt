-- A plain archive is its records, one after another.
use Rattle.index_core.proofs.Words.{◌≡◌, ◌∙◌, ℕ, List, [], ◌∷◌, ◌++◌, ap, drop, none_at_end, refl, sym}
use Rattle.archives.specs.Form.{Stored, WalksOver, end_of, plain, plain_record}
use Rattle.index_core.specs.Laws.{PlainIsDamaged, PlainIsWhole, records_of}
use Rattle.index_core.proofs.ArchiveWalks.{from_start}
use Rattle.archives.proofs.PlainLemmas.{heads_of, plain_end, plain_fault, plain_read, plain_walk}
use Rattle.archives.proofs.RecordWalks.{walks_more}

module _ (limit : ℕ) (archive : List ℕ) where
  -- the records of a walk are those of their heads
  by_heads : (before records : List Stored) (start end : ℕ) (bytes rest : List ℕ)
      → WalksOver (plain limit) 0 archive before start bytes → WalksOver (plain limit) start bytes records end rest
      → records ≡ records_of archive (heads_of records)
  by_heads before [] start end bytes rest w v = refl
  by_heads before (r ∷ records) start end bytes rest w v =
      let p = plain_read limit start bytes v.0 r v.1 in
      let there : drop p.0.start archive ≡ bytes =
      from_start limit archive (heads_of before) start bytes (plain_walk limit 0 archive before start bytes w) p.0 v.0 p.1 in
      let head : r.head ≡ p.0 = ap (λ x. x.head) p.2 in
      let this : r ≡ plain_record r.head (drop r.head.start archive) = p.2
      ∙ (ap (plain_record p.0) (sym there) ∙ ap (λ h. plain_record h (drop h.start archive)) (sym head)) in
      let others = by_heads (before ++ r ∷ []) records (end_of r.place) end v.0 rest
      (walks_more (plain limit) 0 archive before start bytes r v.0 w v.1) v.2 in
      λ i. this i ∷ others i

pub plain_is_whole : PlainIsWhole
plain_is_whole limit archive records a =
    let none = none_at_end limit a.end a.rest [] (plain_end limit a.end a.rest [] a.ended) in (
      heads_of records,
      record { end = a.end; walks = rw none at (plain_walk limit 0 archive records a.end a.rest a.walks) },
      by_heads limit archive [] records 0 a.end archive a.rest (refl, refl) a.walks,
    )

pub plain_is_damaged : PlainIsDamaged
plain_is_damaged limit archive records f d =
    let found = plain_fault limit d.end d.rest f d.refused in (
      heads_of records,
      record {
        rest = d.rest;
        walks = rw (sym found.1) at (plain_walk limit 0 archive records d.end d.rest d.walks);
        refused = rw found.1 found.0;
      },
      by_heads limit archive [] records 0 d.end archive d.rest (refl, refl) d.walks,
    )
