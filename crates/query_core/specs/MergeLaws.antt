-- Laws of merges.
use Rattle.std.specs.Prelude.{◌≡◌, ◌↔◌, ℕ, Bool, List, ◌∷◌, ◌++◌, map}
use Rattle.std.specs.List.{AllZip, filter}
use Rattle.std.specs.declared.cmp.Ordering.TheVariants.{Equal}
use Rattle.cdxj_places.specs.Places.{place_cmp}
use Rattle.cdxj_places.specs.Rising.{IsIn}
use Rattle.cdxj_core.specs.Indexes.{IsIndex}
use Rattle.cdxj_core.specs.Members.{Member, member_place}
use Rattle.merge_core.specs.Collections.{all_lines, collection}
use Rattle.merge_core.specs.Written.{lines_text}

-- the lines of a merge of indexes are an index with these lines
abbrev pub MergedIsIndex : Type 0
MergedIsIndex = (limit : ℕ) (texts : List (List ℕ)) (indexes : List (List Member))
    → AllZip (IsIndex limit) texts indexes → IsIndex limit (lines_text (collection indexes)) (collection indexes)

-- a merge with the merge of some indexes, in their stead, is the merge of all
abbrev pub MergesGroup : Type 0
MergesGroup = (before some after : List (List Member))
    → collection (before ++ collection some ∷ after) ≡ collection (before ++ (some ++ after))

-- lines of the list at one place are one line
abbrev pub HaveOneLine : List Member → Type 0
HaveOneLine lines = (m n : Member) → IsIn m lines → IsIn n lines
    → place_cmp (member_place m) (member_place n) ≡ Equal → m ≡ n

-- the order of indexes is of no account if they have one line at each place
abbrev pub MergesCommute : Type 0
MergesCommute = (these those : List (List Member)) → HaveOneLine (all_lines these)
    → ((m : Member) → IsIn m (all_lines these) ↔ IsIn m (all_lines those)) → collection these ≡ collection those

-- the lines with the file names that the test keeps
abbrev pub of_files : (List ℕ → Bool) → List Member → List Member
of_files is_kept lines = filter (λ m. is_kept m.values.filename) lines

-- what is kept of a merge of indexes is the merge of what is kept of each
abbrev pub MergesDropFiles : Type 0
MergesDropFiles = (is_kept : List ℕ → Bool) (indexes : List (List Member))
    → of_files is_kept (collection indexes) ≡ collection (map (of_files is_kept) indexes)

-- what is kept of a merge of indexes is an index
abbrev pub KeptIsIndex : Type 0
KeptIsIndex = (limit : ℕ) (is_kept : List ℕ → Bool) (texts : List (List ℕ)) (indexes : List (List Member))
    → AllZip (IsIndex limit) texts indexes
    → IsIndex limit (lines_text (of_files is_kept (collection indexes))) (of_files is_kept (collection indexes))
