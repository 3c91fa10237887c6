-- Questions put in order: the first no decides.
use Rattle.std.specs.Prelude.{ℕ, zero, suc, Bool, true, false, Ok, Err, Result}

-- one question: a no gives the refusal
abbrev pub asked : {E : Type 0} → Bool → E → Result (Unit {0}) E
asked true refusal = Ok tt
asked false refusal = Err refusal

-- what comes next is asked only after a yes
infixr 10 ◌then◌
abbrev pub ◌then◌ : {E : Type 0} → Result (Unit {0}) E → Result (Unit {0}) E → Result (Unit {0}) E
◌then◌ (Ok _) next = next
◌then◌ (Err refusal) next = Err refusal

-- for each number below n, from 0 on
abbrev pub for_each : {E : Type 0} → (ℕ → Result (Unit {0}) E) → ℕ → Result (Unit {0}) E
for_each question zero = Ok tt
for_each question (suc n) = for_each question n then question n

-- what is answered once every question got a yes
abbrev pub answered : {E A : Type 0} → Result (Unit {0}) E → A → Result A E
answered (Ok _) answer = Ok answer
answered (Err refusal) answer = Err refusal
