-- What is answered is the definition's answer, which accepts exactly the images of derivations.
use Rattle.std.proofs.Common.{◌≡◌, Ok, sym, ap, ◌∙◌, rules}
use Rattle.rows.specs.Questions.{answered}
use Rattle.rows.proofs.Images.{one_image_each}
use Rattle.reader.specs.Reading.{reading_of, read_of}
use Rattle.reader.specs.Shown.{reading_in, viewed}
use Rattle.reader.proofs.Exact.{exactly}
use Rattle.reader.proofs.reading.read.Goals as goal

pub returns-in_err-ask_image : goal.returns-in_err-ask_image
returns-in_err-ask_image c =
    let is : viewed c.from_residual.result ≡ read_of c.args.bytes.now = search rules in
    record { is = is; exactly = exactly c.args.bytes.now c.type_inv.bytes (viewed c.from_residual.result) is; one_image_each = one_image_each }

pub returns : goal.returns
returns c =
    let asked = c.in_ok-ask_image.ensures in
    let is : Ok (reading_in c.accepted.result) ≡ read_of c.args.bytes.now =
    ap Ok (c.accepted.ensures ∙ ap reading_of asked.1) ∙ sym (ap (λ o. answered o (reading_of c.args.bytes.now)) asked.0) in
    record { is = is; exactly = exactly c.args.bytes.now c.type_inv.bytes (Ok (reading_in c.accepted.result)) is; one_image_each = one_image_each }
