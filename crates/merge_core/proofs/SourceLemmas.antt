-- What was read of sources: from where they are read on, to their ends, and each byte once.
use Rattle.merge_core.proofs.Words.{[], ℕ, ◌++◌, ◌∷◌, ◌≡◌, ◌⊎◌, AllByRecursion, AllGaveOnce, AllZip, AreInputs}
use Rattle.merge_core.proofs.Words.{AreLinesOf, AreOpened, AreSettled, Bool, CursorState, EachDone, Ghosts, HasEntry}
use Rattle.merge_core.proofs.Words.{IsCut, IsCutAt, IsIn, IsIndex, IsInputOf, IsLeast, IsLineIn, IsLineOf, IsRun}
use Rattle.merge_core.proofs.Words.{KeepsSources, Known, LINE_LIMIT, List, Member, MergeInput, MergeState, NeverFalls}
use Rattle.merge_core.proofs.Words.{None, Option, OverIndexes, OverTexts, Pair, Reached, Some, all_done, ap, arith}
use Rattle.merge_core.proofs.Words.{done, drop, drop_at, each_join, each_rising, each_weaker, false, filter}
use Rattle.merge_core.proofs.Words.{filter-append, given, inl, inputs, inr, is_below, is_low, length, length-drop}
use Rattle.merge_core.proofs.Words.{length-map, line_entry, lines, map, map-append, member_pair, member_place}
use Rattle.merge_core.proofs.Words.{nil_from_length, not, pair_cmp, place_cmp, place_cmp_total, read_lines, refl, subst}
use Rattle.merge_core.proofs.Words.{suc, sym, take, take_all, true≢false, zip}
use Rattle.merge_core.proofs.GroupLemmas.{each_cut, filter_all, filter_none}
use Rattle.merge_core.proofs.{InputLemmas.TextRead, InputLemmas.done_cut, Many.Move, Many.each_beside, Many.each_take}
use Rattle.merge_core.proofs.StateLemmas.{cursors_of, inputs_long}

-- ---- the lines that the sources have from where they are read on

-- of equal lists, with fronts of one length
after_front : {X : Type 0} (us vs xs ys : List X) → length us ≡ length xs → us ++ vs ≡ xs ++ ys → vs ≡ ys
after_front us vs xs ys n e =
    rw (drop_at us vs (length us) refl, n, drop_at xs ys (length xs) refl) at (ap (drop (length us)) e)

pub falls_back : (us vs : List Member) → NeverFalls member_pair pair_cmp (us ++ vs) → NeverFalls member_pair pair_cmp vs
falls_back [] vs h = h
falls_back (u ∷ us) vs h = falls_back us vs h.1

-- no pair is below the empty one
pub none_below_empty : (key stamp : List ℕ) → is_below ([], []) (key, stamp) ≡ false
none_below_empty [] [] = refl
none_below_empty [] (b ∷ bs) = refl
none_below_empty (b ∷ bs) stamp = refl

each_from_empty : (ms : List Member) → AllByRecursion (λ m. is_below ([], []) (member_pair m) ≡ false) ms
each_from_empty [] = tt
each_from_empty (m ∷ ms) = (none_below_empty (member_pair m).0 (member_pair m).1, each_from_empty ms)

-- an index that was cut: its last lines are a run, and they are those that aren't below
pub run_after : (start : Pair) (t : List ℕ) (ms : List Member) (offset : ℕ) → IsIndex LINE_LIMIT t ms
    → (cut : IsCut start t ms offset)
    → IsRun LINE_LIMIT (lines (drop offset t)) cut.high × (filter (λ m. not (is_low start m)) ms ≡ cut.high)
run_after start t ms offset index cut =
    grind (arith, map-append, after_front, length-map, falls_back, filter-append, filter_none, each_weaker, filter_all)

-- a text was read from where a search for that pair ended in its index
abbrev pub IsSought : Pair → List ℕ × MergeInput → List Member → Type 0
IsSought start x ms = IsCut start x.0 ms x.1.cursor.start

module _ {S : Type 0} (device : Ghosts S) where
  -- the same of all sources
  pub all_sought : (start : Pair) (ss : List S) (fs : List MergeInput) (texts : List (List ℕ))
      (indexes : List (List Member))
      → length ss ≡ length fs → Known (map device.text ss) texts → AllZip (IsIndex LINE_LIMIT) texts indexes
      → AllByRecursion (λ x. IsCutAt start (device.text x.0) x.1) (zip ss (map (λ f. f.cursor) fs))
      → AllZip (IsSought start) (zip texts fs) indexes
  all_sought start (s ∷ ss) (f ∷ fs) (t ∷ ts) (i ∷ is) same known are cut =
      (cut.0 t i known.0 are.0, all_sought start ss fs ts is (omega arith) known.1 are.1 cut.1)
  all_sought start ss fs texts is same known are cut = grind arith

  -- cursors that begin at the start of their sources are cut there
  pub cut_at_start : (x : S × CursorState) → x.1.start ≡ 0 → IsCutAt ([], []) (device.text x.0) x.1
  cut_at_start x zero_start t members e index = rw zero_start (record {
    before = [];
    begins = (refl, refl);
    low = [];
    high = members;
    members_are = refl;
    as_many = refl;
    all_below = tt;
    none_below = each_from_empty members;
  })

  -- cursors that stand where a search ended do so after more was read
  pub cuts_kept : (start : Pair) (xs ys : List (S × CursorState)) → AllZip (Move device) xs ys
      → AllByRecursion (λ x. IsCutAt start (device.text x.0) x.1) xs
      → AllByRecursion (λ x. IsCutAt start (device.text x.0) x.1) ys
  cuts_kept start = each_beside (Move device) _ _ (λ x y m h. grind arith)

-- ---- sources of which all lines were read: each that tells its bytes is an index, and all its lines are done

-- the lines that were read, text by text
abbrev pub parts : List (List ℕ) → List MergeInput → List (List Member)
parts texts fs = map (λ x. given x.0 x.1.cursor) (zip texts fs)

module _ (past : List ℕ → Bool) (never : (key : List ℕ) → past key ≡ false) where
  -- a text of which no line waits was read to its end
  ended : {t : List ℕ} {f : MergeInput} → TextRead past t f → f.waits ≡ [] → lines (drop f.cursor.at t) ≡ []
  ended read none = grind (arith, sym, true≢false)

  -- then it is an index
  index_read : {t : List ℕ} {f : MergeInput} → f.cursor.start ≡ 0 → f.waits ≡ [] → TextRead past t f
      → IsIndex LINE_LIMIT t (given t f.cursor)
  index_read {t = t} {f = f} zero_start none read =
      let end = ended read none in let left = length-drop f.cursor.count (lines t) in
      let whole : read_lines t f.cursor ≡ lines t = grind (arith, take_all, nil_from_length) in
      subst (λ ls. IsRun LINE_LIMIT ls (given t f.cursor)) whole read.told.run

  pub indexes_read : (texts : List (List ℕ)) (fs : List MergeInput) → AllZip (TextRead past) texts fs
      → AllByRecursion (λ (c : CursorState). c.start ≡ 0) (map (λ f. f.cursor) fs)
      → AllByRecursion (λ (f : MergeInput). f.waits ≡ []) fs → AllZip (IsIndex LINE_LIMIT) texts (parts texts fs)
  indexes_read (t ∷ texts) (f ∷ fs) read start none =
      (index_read start.0 none.0 read.0, indexes_read texts fs read.1 start.1 none.1)
  indexes_read texts fs read start none = grind arith

-- ---- what a merge keeps of sources and inputs

module _ {S : Type 0} (device : Ghosts S) where
  pub all_kept : (ss ss' : List S) (cs cs' : List CursorState) → length ss ≡ length cs → length ss' ≡ length ss
      → AllZip (Move device) (zip ss cs) (zip ss' cs') → KeepsSources device ss ss'
  all_kept (s ∷ ss) (s' ∷ ss') (c ∷ cs) (c' ∷ cs') e e' h =
      grind (arith, all_kept ss ss' cs cs' (omega arith) (omega arith) h.1)
  all_kept ss ss' cs cs' e e' h = grind (arith, nil_from_length)

  pub starts_kept : (xs ys : List (S × CursorState)) → AllZip (Move device) xs ys → AllByRecursion (λ x. x.1.start ≡ 0) xs
      → AllByRecursion (λ x. x.1.start ≡ 0) ys
  starts_kept = each_beside (Move device) _ _ (λ x y m h. grind arith)

  -- sources that tell their bytes, as texts
  texts_read : (past : List ℕ → Bool) (ss : List S) (fs : List MergeInput) (texts : List (List ℕ))
      → Known (map device.text ss) texts → AreInputs past device ss fs → AreSettled past device ss fs
      → AllZip (TextRead past) texts fs
  texts_read past (s ∷ ss) (f ∷ fs) (t ∷ texts) known input settled =
      (grind arith, texts_read past ss fs texts known.1 input.1 settled.1)
  texts_read past ss fs texts known input settled = grind arith

-- what holds of all lines that were taken holds of those of each source
pub each_done : {S : Type 0} (past : List ℕ → Bool) (text : S → Option (List ℕ)) (P : Member → Type 0) (ss : List S)
    (fs : List MergeInput) (texts : List (List ℕ)) → length ss ≡ length fs → Known (map text ss) texts
    → AllByRecursion P (all_done past texts fs) → EachDone past text (AllByRecursion P) ss fs
each_done past text P (s ∷ ss) (f ∷ fs) (t ∷ ts) same known each =
    let parts = each_cut P (done past t f) (all_done past ts fs) each in (
      (λ u e. let is : u ≡ t = cc in rw is parts.0),
      each_done past text P ss fs ts (omega arith) known.1 parts.1,
    )
each_done past text P ss fs texts same known each = grind arith

-- ---- the lines that were taken of sources are lines of theirs

in_take : {X : Type 0} (x : X) (n : ℕ) (xs : List X) → IsIn x (take n xs) → IsIn x xs
in_take x (suc n) (y ∷ ys) h = grind (arith, in_take x n ys)
in_take x n ys h = absurd h

in_later : {X : Type 0} (x : X) (us vs : List X) → IsIn x vs → IsIn x (us ++ vs)
in_later x [] vs h = h
in_later x (u ∷ us) vs h = inr (in_later x us vs h)

-- each of these entries is that of one of these lines
pub each_entry : (ls all : List (List ℕ)) (ms : List Member) → map (line_entry LINE_LIMIT) ls ≡ map Some ms
    → ((l : List ℕ) → IsIn l ls → IsIn l all)
    → AllByRecursion (λ m. (line : List ℕ) × IsIn line all × (line_entry LINE_LIMIT line ≡ Some m)) ms
each_entry (l ∷ ls) all (m ∷ ms) e f = grind (arith, each_entry ls all ms)
each_entry ls all [] e f = tt
each_entry ls all ms e f = cc

-- what was taken of a source are lines of it
done_lines : {past : List ℕ → Bool} {t : List ℕ} {f : MergeInput} → IsInputOf past t f
    → AllByRecursion (IsLineIn t) (done past t f)
done_lines {t = t} {f = f} told =
    let cut = done_cut told in
    rw cut.3 (each_take (IsLineIn t) _ (given t f.cursor)
    (each_entry (read_lines t f.cursor) (lines t) (given t f.cursor) told.run.entries
    (grind (arith, in_later, in_take))))

all_lines_of : (past : List ℕ → Bool) (sources : List (Option (List ℕ))) (texts : List (List ℕ)) (fs : List MergeInput)
    → Known sources texts → AllZip (TextRead past) texts fs → AllByRecursion (IsLineOf sources) (all_done past texts fs)
all_lines_of past (o ∷ os) (t ∷ texts) (f ∷ fs) known read =
    let others = all_lines_of past os texts fs known.1 read.1 in
    let here = done_lines read.0.told in
    grind (arith, each_join, each_weaker)
all_lines_of past os texts fs known read = grind arith

-- all sources tell their bytes, or one doesn't
told_or : (sources : List (Option (List ℕ))) → ((texts : List (List ℕ)) × Known sources texts)
    ⊎ ((m : Member) → HasEntry m → IsLineOf sources m)
told_or [] = inl ([], tt)
told_or (None ∷ os) = inr (λ m h. inl h)
told_or (Some t ∷ os) = elim (told_or os) [
  | inl k ↦ inl (t ∷ k.0, (refl, k.1))
  | inr f ↦ inr (λ m h. inr (f m h))
]

-- how far a merge came of sources
module _ {S : Type 0} {device : Ghosts S} {past : List ℕ → Bool} {old ss : List S} {begun m : MergeState}
    {b : Option Pair} {taken : List Member} (reached : Reached past device old begun ss m b taken) where
  pub reached_long : length ss ≡ length old
  reached_long = let same = ap length reached.kept.0 in grind (arith, length-map)

  pub reached_read : OverTexts (map device.text old) (λ texts. AllZip (TextRead past) texts (inputs m))
  reached_read texts known =
      let ready = reached.ready in
      texts_read device past ss (inputs m) texts (rw (← reached.kept.0) at known) ready.aligned.input ready.settled

  -- indexes, from where the search for that pair ended
  pub reached_sought : (start : Pair) → AllByRecursion (λ x. IsCutAt start (device.text x.0) x.1)
      (zip old begun.cursors.items)
      → OverIndexes (map device.text old) (λ texts indexes. AllZip (IsSought start) (zip texts (inputs m)) indexes)
  reached_sought start cut texts indexes known are =
      let kept = cuts_kept device start _ _ reached.moved cut in
      all_sought device start ss (inputs m) texts indexes (grind (arith, inputs_long))
      (rw (← reached.kept.0) at known) are (rw (← cursors_of 0 m.cursors.items m.queue) at kept)

  -- what was taken are lines of the sources
  pub taken_lines : AreLinesOf (map device.text old) taken
  taken_lines = record {
    rise = reached.handed.rises;
    each = elim (told_or (map device.text old)) [
      | inl k ↦ rw (reached.handed.told k.0 k.1).0
          (each_rising member_place place_cmp place_cmp_total (IsLineOf (map device.text old)) _
          (all_lines_of past _ k.0 (inputs m) k.1 (reached_read k.0 k.1)))
      | inr f ↦ each_weaker f taken reached.handed.entries
    ];
  }

-- ---- each byte of a source is given at most once

module _ {S : Type 0} (device : Ghosts S) where
  -- sources before they were opened, when they were, and after they were read
  pub gave_once : (start : Pair) (olds ss : List S) (cs : List CursorState) (news : List S) (cs' : List CursorState)
      → IsLeast start → length ss ≡ length cs → length news ≡ length ss → AreOpened device start olds (zip ss cs)
      → AllZip (Move device) (zip ss cs) (zip news cs') → AllGaveOnce device olds news
  gave_once start (x ∷ olds) (s ∷ ss) (c ∷ cs) (y ∷ news) (c' ∷ cs') least same long opened moved =
      grind (arith, gave_once start olds ss cs news cs' least (omega arith) (omega arith) opened.1 moved.1)
  gave_once start olds (s ∷ ss) [] news cs' least same long opened moved = absurd (omega arith)
  gave_once start olds ss cs news cs' least same long opened moved = grind (arith, nil_from_length)

  pub once_none : (ss : List S) → AllGaveOnce device ss ss
  once_none [] = tt
  once_none (s ∷ ss) = (omega arith, once_none ss)
