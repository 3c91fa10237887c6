-- The first number at which a function gives something, as `filter_map` over a range finds it.
use Rattle.std.specs.Prelude.{◌≡◌, ℕ, zero, suc, ◌+◌, ◌<◌, ◌≤◌, Some, None, Option, refl}
use Rattle.std.specs.List.{slice_get, cons_option, filter_map, range_with_len}
use Rattle.std.proofs.Common.{arith}

-- of the n numbers from a on, r is what h gives at the first at which it gives something, or None where there is none
abbrev pub FirstOf : {B : Type 0} → (ℕ → Option B) → ℕ → ℕ → Option B → Type 0
FirstOf h a n None = (k : ℕ) → a ≤ k → k < a + n → h k ≡ None
FirstOf h a n (Some y) = (k : ℕ) × (a ≤ k) × (k < a + n) × (h k ≡ Some y) × ((j : ℕ) → a ≤ j → j < k → h j ≡ None)

module _ {B : Type 0} (h : ℕ → Option B) where
  -- where h gives nothing at a, the first from a + 1 on is the first
  one_later : (n a : ℕ) → h a ≡ None → (r : Option B) → FirstOf h (a + 1) n r → FirstOf h a (suc n) r
  one_later n a e None f = λ k l m. grind (arith, f k)
  one_later n a e (Some y) f = (f.0, omega arith, omega arith, f.3, λ j l m. grind (arith, f.4 j))

  pub first_is : (n a : ℕ) → FirstOf h a n (slice_get (filter_map h (range_with_len a n)) 0)
  first_is zero a = λ k l m. absurd (omega arith)
  first_is (suc n) a = on (h a) refl (first_is n (a + 1))
    where
      on : (o : Option B) → h a ≡ o → FirstOf h (a + 1) n (slice_get (filter_map h (range_with_len (a + 1) n)) 0) → FirstOf h a (suc n) (slice_get (cons_option o (filter_map h (range_with_len (a + 1) n))) 0)
      on (Some y) e f = (a, omega arith, omega arith, e, λ j l m. absurd (omega arith))
      on None e f = one_later n a e (slice_get (filter_map h (range_with_len (a + 1) n)) 0) f

  pub first_only : (n a : ℕ) (r s : Option B) → FirstOf h a n r → FirstOf h a n s → r ≡ s
  first_only n a None None f g = refl
  first_only n a None (Some y) f g = grind (arith, f g.0)
  first_only n a (Some x) None f g = grind (arith, g f.0)
  first_only n a (Some x) (Some y) f g = grind (arith, f.4 g.0, g.4 f.0)
