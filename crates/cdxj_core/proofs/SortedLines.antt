-- Lines in the order of their bytes have pairs that never fall.
use Rattle.std.proofs.Common.{arith, ◌≡◌, ℕ, true, false, List, [], ◌∷◌, ◌++◌, length, map, Some, refl, nat_cmp}
use Rattle.std.proofs.Common.{is_gt, eqb-true}
use Rattle.std.specs.List.{list_all}
use Rattle.std.specs.Ordering.{ordering_then}
use Rattle.std.specs.List.{AllByRecursion}
use Rattle.std.specs.Cmp.Lexicographic.{slice_cmp}
use Rattle.cdxj_places.specs.Pair.{is_key_byte}
use Rattle.cdxj_places.specs.Pairs.{pair_cmp}
use Rattle.cdxj_places.specs.Rising.{NeverFalls}
use Rattle.cdxj_places.specs.TextLines.{lines}
use Rattle.cdxj_core.specs.Indexes.{IsIndex}
use Rattle.cdxj_core.specs.Lines.{LineValue, body_of}
use Rattle.cdxj_core.specs.Members.{Member, line_entry, member_pair}
use Rattle.cdxj_core.proofs.MemberLemmas.{entered, entry_valued}
use Rattle.cdxj_core.proofs.PairLaw.{Valued}

-- what follows keys and the spaces after them decides only if the keys are the same
key_first : (k l u v : List ℕ) → list_all is_key_byte k ≡ true → list_all is_key_byte l ≡ true
    → slice_cmp nat_cmp (k ++ 32 ∷ u) (l ++ 32 ∷ v) ≡ ordering_then (slice_cmp nat_cmp k l) (slice_cmp nat_cmp u v)
key_first [] [] u v a b = refl
key_first [] (y ∷ l) u v a b = grind arith
key_first (x ∷ k) [] u v a b = grind arith
key_first (x ∷ k) (y ∷ l) u v a b = grind (arith, key_first k l u v)

-- the same of texts of one length
length_first : (s t u v : List ℕ) → length s ≡ length t
    → slice_cmp nat_cmp (s ++ u) (t ++ v) ≡ ordering_then (slice_cmp nat_cmp s t) (slice_cmp nat_cmp u v)
length_first [] [] u v e = refl
length_first (x ∷ s) (y ∷ t) u v e = grind (arith, length_first s t u v)
length_first s t u v e = absurd (omega arith)

key_bytes : {body : List ℕ} {v : LineValue} → Valued body v → list_all is_key_byte v.key ≡ true
key_bytes x = grind (arith, x.key_rule)

stamp_length : {body : List ℕ} {v : LineValue} → Valued body v → length v.stamp ≡ 14
stamp_length x = grind (arith, eqb-true, x.stamp_rule)

pairs_follow : (limit : ℕ) (one other : List ℕ) (m n : Member) → line_entry limit one ≡ Some m
    → line_entry limit other ≡ Some n → is_gt (slice_cmp nat_cmp (body_of one) (body_of other)) ≡ false
    → is_gt (pair_cmp (member_pair m) (member_pair n)) ≡ false
pairs_follow limit one other m n a b h =
    let x = entry_valued limit one m a in
    let y = entry_valued limit other n b in
    let first = key_first m.values.key n.values.key (m.values.stamp ++ 32 ∷ x.object) (n.values.stamp ++ 32 ∷ y.object)
    (key_bytes x) (key_bytes y) in
    let second = length_first m.values.stamp n.values.stamp (32 ∷ x.object) (32 ∷ y.object)
    (grind (arith, stamp_length x, stamp_length y)) in
    grind (arith, (entered limit one m a).body, (entered limit other n b).body, x.cut, y.cut)

each_follows : (limit : ℕ) (one : List ℕ) (m : Member) (others : List (List ℕ)) (ms : List Member)
    → line_entry limit one ≡ Some m → map (line_entry limit) others ≡ map Some ms
    → AllByRecursion (λ other. is_gt (slice_cmp nat_cmp (body_of one) (body_of other)) ≡ false) others
    → AllByRecursion (λ n. is_gt (pair_cmp (member_pair m) (member_pair n)) ≡ false) ms
each_follows limit one m others [] a e h = tt
each_follows limit one m (other ∷ others) (n ∷ ms) a e h =
    grind (arith, pairs_follow limit one other m n a, each_follows limit one m others ms a)
each_follows limit one m [] (n ∷ ms) a e h = cc

never_fall : (limit : ℕ) (these : List (List ℕ)) (ms : List Member) → map (line_entry limit) these ≡ map Some ms
    → NeverFalls body_of (slice_cmp nat_cmp) these → NeverFalls member_pair pair_cmp ms
never_fall limit these [] e h = tt
never_fall limit (line ∷ these) (m ∷ ms) e h =
    grind (arith, each_follows limit line m these ms, never_fall limit these ms)
never_fall limit [] (m ∷ ms) e h = cc

pub sorted_index : (limit : ℕ) (text : List ℕ) (members : List Member)
    → map (line_entry limit) (lines text) ≡ map Some members → NeverFalls body_of (slice_cmp nat_cmp) (lines text)
    → IsIndex limit text members
sorted_index limit text members e h = record { entries = e; ordered = never_fall limit (lines text) members e h }
