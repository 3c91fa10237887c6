-- The greatest common divisor of two numbers.
use Rattle.std.specs.Prelude.{◌≡◌, ℕ, zero, suc, ◌%◌}
use Rattle.std.specs.Int.{◌∣◌}

-- Euclid's rule. The first argument bounds the turns: as many as the second number suffice, since that falls with each.
unfoldable pub gcd_by : ℕ → ℕ → ℕ → ℕ
gcd_by zero a b = a
gcd_by (suc turns) a zero = a
gcd_by (suc turns) a (suc b) = gcd_by turns (suc b) (a % suc b)

unfoldable pub gcd_of : ℕ → ℕ → ℕ
gcd_of a b = gcd_by b a b

-- What makes a number the greatest common divisor: it divides both, every common divisor divides it, and it is zero only for zeros.
pub record IsGcd (a b g : ℕ) : Type 0 where
  pub left : g ∣ a
  pub right : g ∣ b
  pub greatest : (d : ℕ) → d ∣ a → d ∣ b → d ∣ g
  pub zeros : g ≡ 0 → (a ≡ 0) × (b ≡ 0)
