-- The front of a block, also of one that is too short.
use Rattle.std.proofs.Common.{◌≡◌, ◌+◌, ◌<◌, ◌≤◌, ◌⊎◌, List, ℕ, length, take, Bor, Option, Some, None, MatchOption, unwrap_or, slice_range, inl, inr, sym, ap, ◌∙◌, arith}
use Rattle.std.proofs.lemmas.List.{take_all}
use Rattle.rows.proofs.sealing.body.Goals as goal

front : (b : Bor (List ℕ)) (o : Option (Bor (List ℕ))) →
    MatchOption o ((508 < 0) ⊎ (length b.now < 508)) (λ x. (0 ≤ 508) × (508 ≤ length b.now) × (x.now ≡ slice_range b.now 0 508) × (length x.now + 0 ≡ 508)) → (unwrap_or o b).now ≡ take 508 b.now
front b None (inl h) = absurd (omega arith)
front b None (inr h) = sym (take_all 508 b.now (omega arith))
front b (Some x) h = h.2 ∙ grind arith

pub returns-clause-is : goal.returns-clause-is
returns-clause-is c = ap (λ r. r.now) c.unwrap_or.ensures ∙ front c.args.block c.get.result c.get.ensures.lookup.0
