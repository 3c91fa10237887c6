-- Lists of whole numbers, place by place: their sum of products, and their combination.
use Rattle.std.specs.Prelude.{List, [], ◌∷◌, map, ℤ, pos, ◌+ℤ◌, ◌*ℤ◌}

-- x1·y1 + x2·y2 + .., as far as both lists go
unfoldable pub dot : List ℤ → List ℤ → ℤ
dot [] ys = pos 0
dot (x ∷ xs) [] = pos 0
dot (x ∷ xs) (y ∷ ys) = x *ℤ y +ℤ dot xs ys

-- u·x + v·y at each place, as far as both lists go
unfoldable pub combine : ℤ → List ℤ → ℤ → List ℤ → List ℤ
combine u [] v ys = []
combine u (x ∷ xs) v [] = []
combine u (x ∷ xs) v (y ∷ ys) = (u *ℤ x +ℤ v *ℤ y) ∷ combine u xs v ys

-- x + y at each place, as far as both lists go
unfoldable pub plus : List ℤ → List ℤ → List ℤ
plus [] ys = []
plus (x ∷ xs) [] = []
plus (x ∷ xs) (y ∷ ys) = (x +ℤ y) ∷ plus xs ys

-- c·x at each place
abbrev pub scaled : ℤ → List ℤ → List ℤ
scaled c xs = map (λ x. c *ℤ x) xs
