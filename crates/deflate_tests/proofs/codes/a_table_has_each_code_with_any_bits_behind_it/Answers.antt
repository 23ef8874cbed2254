use Rattle.std.proofs.Common.{ℕ, zero, suc, ◌+◌, ◌<◌, [], ◌∷◌, get_or, arith}
use Rattle.deflate_tests.proofs.codes.a_table_has_each_code_with_any_bits_behind_it.Goals as goal

small : (i : ℕ) → get_or (0 ∷ 65536 ∷ 131072 ∷ 196608 ∷ 262144 ∷ 327680 ∷ 393216 ∷ 458752 ∷ []) i 0 + 4096 < 4294967296
small zero = omega arith
small (suc zero) = omega arith
small (suc (suc zero)) = omega arith
small (suc (suc (suc zero))) = omega arith
small (suc (suc (suc (suc zero)))) = omega arith
small (suc (suc (suc (suc (suc zero))))) = omega arith
small (suc (suc (suc (suc (suc (suc zero)))))) = omega arith
small (suc (suc (suc (suc (suc (suc (suc zero))))))) = omega arith
small (suc (suc (suc (suc (suc (suc (suc (suc i)))))))) = omega arith

pub fill_table-requires-clause-entries : goal.fill_table-requires-clause-entries
fill_table-requires-clause-entries g c = small
