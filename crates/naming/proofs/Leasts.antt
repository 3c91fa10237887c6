-- The least fraction of a span is in lowest terms.
use Rattle.std.specs.Prelude.{◌≡◌, ℕ, ◌*◌, ◌/◌, ◌<◌, ◌≤◌, Some, None, Option}
use Rattle.std.proofs.Common.{le_of_mul-le-mul_right, arith}
use Rattle.std.proofs.Math.Nat.{lt_of_mul-lt-mul_left, mul-div_cancel'}
use Rattle.arith.specs.Gcd.{gcd_of}
use Rattle.arith.proofs.Divisors.{gcd_is, gcd_pos}
use Rattle.naming.specs.Spans.{Between, Least}
use Rattle.naming.specs.declared.ratio.Ratio.{Ratio}

-- a common factor of both parts changes no order
shrunk : (g x y : ℕ) → 0 < g → g * x ≤ g * y → x ≤ y
shrunk g x y o h = grind arith

part_between : (near : Ratio) (far : Option Ratio) (g p q : ℕ) → 0 < g → Between near far (g * p) (g * q) → Between near far p q
part_between near None g p q o h = shrunk g (near.over * q) (p * near.under) o (omega arith)
part_between near (Some far) g p q o h =
    (shrunk g (near.over * q) (p * near.under) o (omega arith), shrunk g (p * far.under) (far.over * q) o (omega arith))

-- were both parts multiples of a number above 1, the parts by it would be between near and far too, and less
pub least_lowest : (near : Ratio) (far : Option Ratio) (p q : ℕ) → Least near far p q → gcd_of p q ≡ 1
least_lowest near far p q h =
    let g = gcd_of p q in
    let e : g * (p / g) ≡ p = mul-div_cancel' g (gcd_is p q).left in
    let f : g * (q / g) ≡ q = mul-div_cancel' g (gcd_is p q).right in
    let o : 0 < g = gcd_pos p q h.some in
    let b : Between near far (p / g) (q / g) = part_between near far g (p / g) (q / g) o (rw (e, f) h.here) in
    let i : 0 < q / g = lt_of_mul-lt-mul_left g (omega (arith, h.some)) in
    let l : g ≤ 1 = le_of_mul-le-mul_right (omega (arith, h.least (p / g) (q / g) i b)) i in
    omega arith
