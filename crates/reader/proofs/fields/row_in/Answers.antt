-- Each call gave the number of its place.
use Rattle.std.proofs.Common.{pos, refl, sym, ◌∙◌, rules, arith}
use Rattle.std.proofs.lemmas.List.FromFn.{get_or-map-range_with_len}
use Rattle.rows.specs.Bytes.{le_i32}
use Rattle.rows.specs.Image.{place_of, numbers_in}
use Rattle.rows.proofs.Arrays.{fill_is}
use Rattle.reader.proofs.fields.row_in.Goals as goal

pub returns : goal.returns
unfolding numbers_in
returns c =
    fill_is _ _ (λ p q i y k. search rules) (numbers_in c.args.rec.now) c.from_fn.result 9 refl c.from_fn.ensures.items
    (λ i y q l k. search rules ∙ sym (get_or-map-range_with_len (λ k. le_i32 c.args.rec.now (place_of k)) 0 9 i i (pos 0) l (omega arith)))
