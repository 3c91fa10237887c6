-- The bytes that stand for the kinds of records, and what is said of any other.
use Rattle.std.specs.Prelude.{ℕ, List, ◌++◌, Ok, Err, Result, ◌==◌, codes, decimal, if◌then◌else◌}
use Rattle.rows.specs.declared.kind.Kind.{Kind}
use Rattle.rows.specs.declared.kind.Kind.TheVariants.{Input, Step}
use Rattle.rows.specs.declared.kind.UnknownKind.{UnknownKind}

abbrev pub code_of : Kind → ℕ
code_of Input = 1
code_of Step = 2

-- the kind with this code; every other code is unknown
abbrev pub kind_with : ℕ → Result Kind UnknownKind
kind_with code = if code == 1 then Ok Input else (if code == 2 then Ok Step else Err (record { 0 = code }))

abbrev pub unknown_text : UnknownKind → List ℕ
unknown_text unknown = codes "no kind of record has the byte " ++ decimal unknown.0
