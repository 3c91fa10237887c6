-- No fractions satisfy all the rows that a derivation was given: they would satisfy each of its rows, and the last is false.
use Rattle.std.proofs.Common.{◌≡◌, ℕ, zero, suc, ◌-◌, ◌<◌, true, eqb, List, [], ◌∷◌, map, length, get_or, ℤ, pos, ◌+ℤ◌, ◌*ℤ◌, ◌≤ℤ◌, Some, sym, refl, ◌∙◌, arith}
use borrow.Author.Differences.{ints}
use lib.IntN.{*ℤ_comm, +ℤ_idr}
use lib.Signed.{lt_z}
use Rattle.std.specs.List.{AllByRecursion}
use Rattle.std.proofs.lemmas.Bool.{and_parts, eqb-true}
use Rattle.std.proofs.lemmas.Bool.Decides.{nat_tests}
use Rattle.arith.specs.Dot.{dot, combine}
use Rattle.arith.specs.Lowest.{lowest_of}
use Rattle.arith.proofs.Dots.{dot-combine_nonneg}
use Rattle.arith.proofs.Integers.{sign_of_product}
use Rattle.arith.proofs.LowestForms.{dot_lowest_nonneg}
use Rattle.rows.specs.Rows.{Fractions, Satisfies, level_of, is_false, row_of, combination_of}
use Rattle.rows.specs.Derivations.{Record, input, step, row_in, is_given, inputs_of, row_at, Stands, Derivation, IsDerivation, NoneFits}
use Rattle.rows.proofs.Levels.{level_is}
use Rattle.rows.proofs.Outcomes.{found_row}
use Rattle.rows.proofs.Standing.{has_row, row_nine, parents}

-- what satisfies two rows satisfies the lowest form of their combination, and so the row that came about
pub lowest_follows : (u : ℕ) (first : List ℤ) (v : ℕ) (second : List ℤ) → length first ≡ length second → (point : List ℤ) → Satisfies point first → Satisfies point second → Satisfies point (lowest_of (combine (pos u) first (pos v) second))
lowest_follows u first v second l point p q = dot_lowest_nonneg _ point (dot-combine_nonneg u v first second point l p q)

pub combination_follows : (u : ℕ) (first : List ℤ) (v : ℕ) (second row : List ℤ) → length first ≡ length second → combination_of u first v second ≡ Some row → (point : List ℤ) → Satisfies point first → Satisfies point second → Satisfies point row
unfolding combination_of
combination_follows u first v second row l e point p q =
    let m : Some row ≡ row_of (combine (pos u) first (pos v) second) = grind (arith, nat_tests) in
    found_row (λ numbers. numbers) (Some row) (combine (pos u) first (pos v) second) (Satisfies point) m (lowest_follows u first v second l point p q)

-- a row with no coefficient but 0 is worth its constant times the denominator
dot-zeros : (xs ps : List ℤ) → ((k : ℕ) → get_or xs k (pos 0) ≡ pos 0) → dot xs ps ≡ pos 0
unfolding dot
dot-zeros [] ps z = refl
dot-zeros (x ∷ xs) [] z = refl
dot-zeros (x ∷ xs) (p ∷ ps) z = rw (z zero, dot-zeros xs ps (λ k. z (suc k))) (omega (arith, ints))

pub false_unsatisfied : (row point : List ℤ) → is_false row ≡ true → Fractions point → Satisfies point row → ⊥
unfolding dot level_of
false_unsatisfied [] point f h s = absurd (grind arith)
false_unsatisfied (b ∷ xs) [] f h s = h
false_unsatisfied (b ∷ xs) (d ∷ numerators) f h s =
    let t = and_parts (eqb (level_of (b ∷ xs)) 0) (lt_z b (pos 0)) f in
    let l : level_of (b ∷ xs) ≡ 0 = eqb-true _ _ t.0 in
    let z : dot xs numerators ≡ pos 0 = dot-zeros xs numerators (λ k. (level_is (b ∷ xs)).past (suc k) (omega arith)) in
    negative b d (dot xs numerators) t.1 h z s
  where
    negative : (b d rest : ℤ) → lt_z b (pos 0) ≡ true → pos 1 ≤ℤ d → rest ≡ pos 0 → pos 0 ≤ℤ (b *ℤ d +ℤ rest) → ⊥
    negative b d rest n h z s =
        let e : b *ℤ d +ℤ rest ≡ d *ℤ b = rw (z, *ℤ_comm b d) (+ℤ_idr (d *ℤ b)) in
        let p : pos 0 ≤ℤ b = sign_of_product d b (omega (arith, ints)) (rw e at s) in
        omega (arith, ints)

-- a record that was given is among those that were given
given_at : (P : List ℤ → Type 0) (records : List Record) (r : ℕ) → r < length records → AllByRecursion P (map row_in (inputs_of records)) → is_given (get_or records r (input 0 [])) ≡ true → P (row_at records r)
given_at P [] r l a g = absurd (omega arith)
given_at P (input tag row ∷ records) zero l a g = a.0
given_at P (step first second u v row ∷ records) zero l a g = absurd (grind arith)
given_at P (input tag row ∷ records) (suc r) l a g = given_at P records r (omega arith) a.1 g
given_at P (step first second u v row ∷ records) (suc r) l a g = given_at P records r (omega arith) a g

module _ (d : Derivation) (h : IsDerivation d) (point : List ℤ) (a : AllByRecursion (Satisfies point) (map row_in (inputs_of d.records))) where
  -- by recursion on a bound above r: the parents of a step stand before r
  each_satisfied : (n r : ℕ) → r < n → r < length d.records → Satisfies point (row_at d.records r)
  each_satisfied zero r b l = absurd (omega arith)
  each_satisfied (suc n) r b l =
      on (get_or d.records r (input 0 [])) (given_at (Satisfies point) d.records r l a) (h.each_stands r l) (λ q k. each_satisfied n q (omega arith) (omega arith))
    where
      long : (q : ℕ) → q < r → length (row_at d.records q) ≡ 9
      long q k =
          row_nine d.unknowns (row_at d.records q) (has_row d.unknowns d.records q (get_or d.records q (input 0 [])) (h.each_stands q (omega arith)))

      on : (t : Record) → (is_given t ≡ true → Satisfies point (row_in t)) → Stands d.unknowns d.records r t → ((q : ℕ) → q < r → Satisfies point (row_at d.records q)) → Satisfies point (row_in t)
      on (input tag row) g s earlier = g refl
      on (step first second u v row) g s earlier =
          let p = parents r first second u v s.1 in
          let i = p.first_earlier in
          let j = p.second_earlier in
          combination_follows u (row_at d.records first) v (row_at d.records second) row (long first i ∙ sym (long second j)) s.2 point (earlier first i) (earlier second j)

pub none_fits : (d : Derivation) → IsDerivation d → NoneFits d
none_fits d h point f a =
    let last = length d.records - 1 in
    false_unsatisfied (row_at d.records last) point h.last_false f (each_satisfied d h point a (length d.records) last (omega arith) (omega arith))
