-- The first power that serves is found.
use Rattle.std.proofs.Common.{rules, refl}
use Rattle.naming.specs.Dyadic.{over_power}
use Rattle.naming.proofs.Powers.{first_is_dyadic, named_over, find_map_finds}
use Rattle.naming.proofs.dyadic.dyadic_in.Goals as goal

pub returns : goal.returns
returns c =
    let i = c.args.interval in
    first_is_dyadic i _ (find_map_finds (over_power i) _ (λ k r f q. search rules) (λ k r f q. named_over i c.in-Some.span (search rules) k r (search rules)) 19 _ refl _ c.find_map.ensures.runs)
