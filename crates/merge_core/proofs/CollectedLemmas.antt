-- What holds of lines that were taken, and of the collection where the sources are indexes, holds of lines of the sources.
use Rattle.merge_core.proofs.Words.{[], ℕ, ◌∙◌, ◌∷◌, ◌≡◌, ◌⊎◌, AllByRecursion, AllZip, AreLinesOf, Bool, IsIndex, IsLineOf}
use Rattle.merge_core.proofs.Words.{Known, LINE_LIMIT, List, Member, NeverFalls, None, Option, OverIndexes, Rises, Some}
use Rattle.merge_core.proofs.Words.{all_lines, ap, arith, collection, each_join, each_rising, each_weaker, false, inl, inr}
use Rattle.merge_core.proofs.Words.{is_gt, line_entry, lines, map, member_pair, member_place, pair_cmp, place_cmp}
use Rattle.merge_core.proofs.Words.{place_cmp_total, refl, rises_rising, subst, sym, true}
use Rattle.cdxj_core.proofs.IndexLemmas.{one_index, one_list}
use Rattle.merge_core.proofs.SourceLemmas.{each_entry}
use Rattle.merge_core.specs.SourceLines.{HoldsOfLines}

pub collection_rises : (indexes : List (List Member)) → Rises member_place place_cmp (collection indexes)
collection_rises indexes = grind (arith, rises_rising, place_cmp_total)

-- texts are indexes with one list of members each
pub one_indexes : (texts : List (List ℕ)) (these those : List (List Member)) → AllZip (IsIndex LINE_LIMIT) texts these
    → AllZip (IsIndex LINE_LIMIT) texts those → these ≡ those
one_indexes (t ∷ ts) (i ∷ is) (j ∷ js) h k = grind (arith, one_index, one_indexes ts)
one_indexes texts these those h k = grind arith

one_known : (told : List (Option (List ℕ))) (these those : List (List ℕ)) → Known told these → Known told those
    → these ≡ those
one_known (o ∷ os) (t ∷ these) (u ∷ those) h k = grind (arith, one_known os)
one_known told these those h k = grind arith

-- ---- whether sources tell indexes

abbrev Decided : Type 0 → Type 0
Decided X = X ⊎ (X → ⊥)

both : {X Y : Type 0} → Decided X → Decided Y → Decided (X × Y)
both (inl x) (inl y) = inl (x, y)
both (inr lacks) y = inr (λ p. lacks p.0)
both x (inr lacks) = inr (λ p. lacks p.1)

is_false : (b : Bool) → Decided (b ≡ false)
is_false false = inl refl
is_false true = inr (λ e. grind arith)

none_above : (m : Member) (ms : List Member)
    → Decided (AllByRecursion (λ k. is_gt (pair_cmp (member_pair m) (member_pair k)) ≡ false) ms)
none_above m [] = inl tt
none_above m (k ∷ ms) = both (is_false (is_gt (pair_cmp (member_pair m) (member_pair k)))) (none_above m ms)

ordered : (ms : List Member) → Decided (NeverFalls member_pair pair_cmp ms)
ordered [] = inl tt
ordered (m ∷ ms) = both (none_above m ms) (ordered ms)

-- these lines are members
abbrev AreEntries : List (List ℕ) → List Member → Type 0
AreEntries ls ms = map (line_entry LINE_LIMIT) ls ≡ map Some ms

no_entry : (l : List ℕ) (ls : List (List ℕ)) (ms : List Member) → line_entry LINE_LIMIT l ≡ None → AreEntries (l ∷ ls) ms → ⊥
no_entry l ls (m ∷ ms) none is = cc
no_entry l ls [] none is = cc

no_rest : (l : List ℕ) (ls : List (List ℕ)) (ms : List Member) → ((ms : List Member) × AreEntries ls ms → ⊥)
    → AreEntries (l ∷ ls) ms → ⊥
no_rest l ls (m ∷ ms) lacks is = lacks (ms, cc)
no_rest l ls [] lacks is = cc

entries : (ls : List (List ℕ)) → Decided ((ms : List Member) × AreEntries ls ms)
entries [] = inl ([], refl)
entries (l ∷ ls) = by (line_entry LINE_LIMIT l) refl (entries ls)
  where
    by : (o : Option Member) → line_entry LINE_LIMIT l ≡ o → Decided ((ms : List Member) × AreEntries ls ms)
        → Decided ((ms : List Member) × AreEntries (l ∷ ls) ms)
    by None e rest = inr (λ h. no_entry l ls h.0 e h.1)
    by (Some m) e (inl rest) = inl (m ∷ rest.0, let is = rest.1 in cc)
    by (Some m) e (inr lacks) = inr (λ h. no_rest l ls h.0 lacks h.1)

is_index : (text : List ℕ) → Decided ((ms : List Member) × IsIndex LINE_LIMIT text ms)
is_index text = elim (entries (lines text)) [
  | inl e ↦ elim (ordered e.0) [
    | inl falls ↦ inl (e.0, record { entries = e.1; ordered = falls })
    | inr lacks ↦ inr (λ h. lacks (subst (NeverFalls member_pair pair_cmp) (one_list h.0 e.0 (sym h.1.entries ∙ e.1)) h.1.ordered))
  ]
  | inr lacks ↦ inr (λ h. lacks (h.0, h.1.entries))
]

-- the sources tell these indexes
record Tells (told : List (Option (List ℕ))) : Type 0 where
  texts : List (List ℕ)
  indexes : List (List Member)
  known : Known told texts
  are : AllZip (IsIndex LINE_LIMIT) texts indexes

no_first : (t : List ℕ) (os : List (Option (List ℕ))) → ((ms : List Member) × IsIndex LINE_LIMIT t ms → ⊥)
    → OverIndexes (Some t ∷ os) (λ texts indexes. ⊥)
no_first t os lacks (u ∷ texts) (ms ∷ indexes) known are =
    let told = known.0 in let same : u ≡ t = cc in lacks (ms, subst (λ (x : List ℕ). IsIndex LINE_LIMIT x ms) same are.0)
no_first t os lacks texts indexes known are = grind arith

no_others : (t : List ℕ) (os : List (Option (List ℕ))) → OverIndexes os (λ texts indexes. ⊥)
    → OverIndexes (Some t ∷ os) (λ texts indexes. ⊥)
no_others t os lacks (u ∷ texts) (ms ∷ indexes) known are = lacks texts indexes known.1 are.1
no_others t os lacks texts indexes known are = grind arith

none_told : (os : List (Option (List ℕ))) → OverIndexes (None ∷ os) (λ texts indexes. ⊥)
none_told os (t ∷ texts) indexes known are = let told = known.0 in cc
none_told os [] indexes known are = absurd known

tells : (told : List (Option (List ℕ))) → OverIndexes told (λ texts indexes. ⊥) ⊎ Tells told
tells [] = inr (record { texts = []; indexes = []; known = tt; are = tt })
tells (None ∷ os) = inl (none_told os)
tells (Some t ∷ os) = more (is_index t) (tells os)
  where
    more : Decided ((ms : List Member) × IsIndex LINE_LIMIT t ms) → OverIndexes os (λ texts indexes. ⊥) ⊎ Tells os
        → OverIndexes (Some t ∷ os) (λ texts indexes. ⊥) ⊎ Tells (Some t ∷ os)
    more (inl i) (inr r) =
        inr (record { texts = t ∷ r.texts; indexes = i.0 ∷ r.indexes; known = (refl, r.known); are = (i.1, r.are) })
    more (inr lacks) r = inl (no_first t os lacks)
    more i (inl lacks) = inl (no_others t os lacks)

-- ---- lines of the sources

lines_of : (told : List (Option (List ℕ))) (texts : List (List ℕ)) (indexes : List (List Member)) → Known told texts
    → AllZip (IsIndex LINE_LIMIT) texts indexes → AllByRecursion (IsLineOf told) (all_lines indexes)
lines_of (o ∷ os) (t ∷ texts) (i ∷ indexes) known are =
    let others = lines_of os texts indexes known.1 are.1 in
    let here = each_entry (lines t) (lines t) i are.0.entries (λ l h. h) in
    grind (arith, each_join, each_weaker)
lines_of os texts indexes known are = grind arith

module _ {told : List (Option (List ℕ))} {Holds : List Member → Type 0} where
  pub of_lines : (taken : List Member) → AreLinesOf told taken → Holds taken
      → OverIndexes told (λ texts indexes. Holds (collection indexes)) → HoldsOfLines told Holds
  of_lines taken are holds over = elim (tells told) [
    | inl lacks ↦ record {
      lines = taken;
      are = are;
      whole = λ texts indexes known is. absurd (lacks texts indexes known is);
      holds = holds;
    }
    | inr t ↦ record {
      lines = collection t.indexes;
      are = record {
        rise = collection_rises t.indexes;
        each = each_rising member_place place_cmp place_cmp_total (IsLineOf told) _
            (lines_of told t.texts t.indexes t.known t.are);
      };
      whole = λ texts indexes known is.
          let same = one_known told t.texts texts t.known known in
          ap collection (one_indexes texts t.indexes indexes
          (subst (λ (x : List (List ℕ)). AllZip (IsIndex LINE_LIMIT) x t.indexes) same t.are) is);
      holds = over t.texts t.indexes t.known t.are;
    }
  ]
