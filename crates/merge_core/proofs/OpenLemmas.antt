-- The opening of sources, one after another.
use Rattle.merge_core.proofs.Words.{[], ℕ, ◌++◌, ◌+◌, ◌<◌, ◌∙◌, ◌∷◌, ◌≡◌, ◌≤◌, AddedSource, AllByRecursion, AreOpened}
use Rattle.merge_core.proofs.Words.{Bool, CursorState, EachDone, Ghosts, IsCutAt, IsInput, IsLeast, IsLineStart}
use Rattle.merge_core.proofs.Words.{IsNextLine, IsSettled, Known, List, MatchOption, Member, MergeInput, MergeState}
use Rattle.merge_core.proofs.Words.{None, OpenedAt, Option, Pair, Ready, Some, Stands, all_done, all_zipped_more, arith}
use Rattle.merge_core.proofs.Words.{done, drop, each_weaker, filter, first_length, given, inl, input_of, inputs, length}
use Rattle.merge_core.proofs.Words.{length-append, lines, map, option_list, refl, set, stays, suc, zip}
use Rattle.merge_core.proofs.{Many.each_by, PairOrder.begins, StateLemmas.inputs_added, StateLemmas.placed_queued}
use Rattle.merge_core.proofs.InputLemmas.{LineRead, done_next, input_end, input_more, settled_more}

-- a source was added to those that are read
module _ {past : List ℕ → Bool} {S : Type 0} {device : Ghosts S} {ss : List S}
    {m m' : MergeState} (was : Ready past device ss m) {s : S} {IsCursor : CursorState → Type 0}
    (added : AddedSource past device s IsCursor m m') where
  abbrev pub its_input : MergeInput
  its_input = input_of added.cursor added.first

  pub added_inputs : inputs m' ≡ inputs m ++ its_input ∷ []
  added_inputs =
      rw added.cursors_are (inputs_added was.aligned added.cursor added.first m'.queue added.input.few added.queue_is)

  pub ready_added : Ready past device (ss ++ s ∷ []) m'
  ready_added =
      let same = was.aligned.same in let n = length m.cursors.items in
      let long : length m'.cursors.items ≡ n + 1 = rw added.cursors_are (length-append m.cursors.items (added.cursor ∷ [])) in
      record {
        aligned = record {
          same = grind (arith, length-append);
          placed = rw long (placed_queued (n + 1) n m.queue m'.queue added.first (omega arith)
              (each_weaker (λ v h. omega arith) m.queue was.aligned.placed) added.queue_is);
          input = rw added_inputs (all_zipped_more (λ s f. IsInput past (device.text s) (device.extent s) f) ss
              (inputs m) s its_input was.aligned.input added.input);
        };
        settled = grind (arith, added_inputs, all_zipped_more);
      }

-- sources that were opened
module _ {S : Type 0} (device : Ghosts S) (start : Pair) where
  pub cuts_of : (olds : List S) (ys : List (S × CursorState)) → AreOpened device start olds ys
      → AllByRecursion (λ y. IsCutAt start (device.text y.0) y.1) ys
  cuts_of = each_by (λ x y. OpenedAt device start x y.0 y.1) _ (λ x y h. rw h.kept.0 h.cut)

  pub begun_of : IsLeast start → (olds : List S) (ys : List (S × CursorState)) → AreOpened device start olds ys
      → AllByRecursion (λ y. y.1.start ≡ 0) ys
  begun_of least = each_by (λ x y. OpenedAt device start x y.0 y.1) _ (λ x y h. h.first least)

-- ---- the first line of a source

-- what is known of a source of which no line was read yet
pub input_fresh : (past : List ℕ → Bool) (text : Option (List ℕ)) (extent : ℕ) (c : CursorState) → Stands text extent c
    → c.count ≡ 0 → c.at ≡ c.start → ((t : List ℕ) → text ≡ Some t → IsLineStart t c.start)
    → IsInput past text extent (input_of c [])
input_fresh past text extent c stands none at begins = grind arith

-- its first line was read, if it has one
pub record FirstRead (past : List ℕ → Bool) (text : Option (List ℕ)) (extent : ℕ) (f : MergeInput) : Type 0 where
  pub input : IsInput past text extent f
  pub settled : IsSettled past text f
  pub fresh : (t : List ℕ) → text ≡ Some t → done past t f ≡ []

pub first_read : {past : List ℕ → Bool} {text : Option (List ℕ)} {extent : ℕ} {old : CursorState}
    → IsInput past text extent (input_of old []) → old.count ≡ 0 → (c : CursorState) (o : Option Member) (ws : List Member)
    → Stands text extent c → c.start ≡ old.start
    → MatchOption o (c.count ≡ old.count) (λ m. c.count ≡ old.count + 1)
    → ((t : List ℕ) → text ≡ Some t → c.at ≤ old.at + first_length (lines (drop old.at t)))
    → ((t : List ℕ) → text ≡ Some t → IsNextLine t old.at c.at o) → ws ≡ filter (stays past) (option_list o)
    → FirstRead past text extent (input_of c ws)
first_read {past = past} {text = text} {extent = extent} {old = old} input fresh c None ws stands start
    count near next is =
    let zero_count : c.count ≡ 0 = count ∙ fresh in
    rw is (record {
      input = input_end input c stands start count near next;
      settled = λ t e none. inl (grind arith);
      fresh = λ t e. rw zero_count refl;
    })
first_read {past = past} {text = text} {extent = extent} {old = old} input fresh c (Some m) ws stands start count near next is =
    let none : (t : List ℕ) → given t old ≡ [] = λ t. rw fresh refl in
    let read : LineRead past text extent old c m = grind arith in
    grind (arith, input_more read ws (inl is), settled_more read ws is, done_next)

pub zip_none : {A B : Type 0} (xs : List A) (ys : List B) → ys ≡ [] → zip xs ys ≡ []
zip_none [] ys e = refl
zip_none (x ∷ xs) ys e = grind arith

-- one source more, of those that have inputs
pub zip_push : {A B : Type 0} (xs : List A) (ys : List B) (i : ℕ) (x : A) (y : B) → length ys ≡ i → i < length xs
    → zip (set xs i x) (ys ++ y ∷ []) ≡ zip xs ys ++ (x, y) ∷ []
zip_push (a ∷ xs) (b ∷ ys) (suc i) x y e l = grind (arith, zip_push xs ys i x y)
zip_push xs ys i x y e l = grind (arith, zip_none)

-- where no line was taken of any source, none was of all
pub none_done : {S : Type 0} (past : List ℕ → Bool) (text : S → Option (List ℕ)) (ss : List S) (fs : List MergeInput)
    (texts : List (List ℕ)) → Known (map text ss) texts → EachDone past text (λ ms. ms ≡ []) ss fs
    → all_done past texts fs ≡ []
none_done past text (s ∷ ss) (f ∷ fs) (t ∷ ts) known none =
    rw (none.0 t known.0) (none_done past text ss fs ts known.1 none.1)
none_done past text ss fs ts known none = grind arith
