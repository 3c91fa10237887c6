-- The rules of the interval say that the magnitudes are those of a span.
use Rattle.std.proofs.Common.{rules}
use Rattle.naming.proofs.SpanLaw.{side_sees}
use Rattle.naming.proofs.span.Span.on.Goals as goal

pub invariant_of-result : goal.invariant_of-result
invariant_of-result c = (side_sees c.args.interval c.args.side (record { side = c.args.side; near = c.magnitude.result; far = c.map.result }) (search rules)).is_span
