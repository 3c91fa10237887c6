-- What a site's own chooser names itself: one value, wherever it may be named.
use Rattle.std.specs.Prelude.{cond, ◌&&◌, Some, None}
use Rattle.intervals.specs.Meaning.{Rule, is_short, inside}
use Rattle.intervals.specs.declared.fraction.Fraction.{Fraction}

abbrev pub admitted_at : Fraction → Rule
admitted_at f i = cond (is_short f && inside i f) (Some f) None
