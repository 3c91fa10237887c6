-- The answers of a comparison, as tests.
use Rattle.std.proofs.Common.{◌≡◌, ℤ, int_le, arith}
use Rattle.std.specs.Ordering.{int_cmp, is_le, is_ge}
use Rattle.std.proofs.lemmas.Grind.{common_steps}
use borrow.Author.Differences.{ints}

pub is_le-int_cmp : (x y : ℤ) → is_le (int_cmp x y) ≡ int_le x y
is_le-int_cmp x y = grind (arith, ints, common_steps)

pub is_ge-int_cmp : (x y : ℤ) → is_ge (int_cmp x y) ≡ int_le y x
is_ge-int_cmp x y = grind (arith, ints, common_steps)

pub ruleset compared_tests = (is_le-int_cmp, is_ge-int_cmp)
