-- Origins and rows, pair by pair.
use Rattle.std.proofs.Common.{◌≡◌, ℕ, zero, suc, min, List, [], ◌∷◌, length, take, drop, inl, inr, refl, ap, ◌∙◌, ◌⊎◌, arith}
use Rattle.rows.specs.Origins.{record_with, records_with}
use Rattle.rows.specs.declared.origin.Origin.{Origin}
use Rattle.rows.specs.declared.plain.PlainRow.{PlainRow}

pub length-records_with : (origins : List Origin) (rows : List PlainRow) → length (records_with origins rows) ≡ min (length origins) (length rows)
length-records_with [] rows = omega arith
length-records_with (origin ∷ origins) [] = omega arith
length-records_with (origin ∷ origins) (row ∷ rows) = omega (arith, length-records_with origins rows)

pub records_with-nil : (origins : List Origin) → records_with origins [] ≡ []
records_with-nil [] = refl
records_with-nil (origin ∷ origins) = refl

-- where either list is at its end
pub none_left : (origins : List Origin) (rows : List PlainRow) → (origins ≡ []) ⊎ (rows ≡ []) → records_with origins rows ≡ []
none_left origins rows ended = elim ended [ inl e ↦ ap (λ some. records_with some rows) e | inr e ↦ ap (records_with origins) e ∙ records_with-nil origins ]

pub records_with-drop : (n : ℕ) (origins : List Origin) (rows : List PlainRow) → records_with (drop n origins) (drop n rows) ≡ drop n (records_with origins rows)
records_with-drop zero origins rows = refl
records_with-drop (suc n) [] rows = refl
records_with-drop (suc n) (origin ∷ origins) [] = records_with-nil (drop n origins)
records_with-drop (suc n) (origin ∷ origins) (row ∷ rows) = records_with-drop n origins rows

pub records_with-take : (n : ℕ) (origins : List Origin) (rows : List PlainRow) → records_with (take n origins) (take n rows) ≡ take n (records_with origins rows)
records_with-take zero origins rows = refl
records_with-take (suc n) [] rows = refl
records_with-take (suc n) (origin ∷ origins) [] = refl
records_with-take (suc n) (origin ∷ origins) (row ∷ rows) = ap (λ records. record_with origin row ∷ records) (records_with-take n origins rows)

pub ruleset pair_laws = (length-records_with, records_with-drop, records_with-take)
