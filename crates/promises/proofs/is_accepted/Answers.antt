-- The image is the one that comes back.
use Rattle.std.proofs.Common.{◌≡◌, is_ok, Ok, Err, Result, refl, ap, ◌∙◌}
use Rattle.rows.specs.Image.{image_of}
use Rattle.reader.specs.Reading.{read_of}
use Rattle.reader.specs.Shown.{viewed}
use Rattle.reader.specs.declared.accepted.Accepted.{Accepted}
use Rattle.reader.specs.declared.refusal.Refusal.{Refusal}
use Rattle.reader.proofs.Exact.{reads_back}
use Rattle.writer.specs.Writing.{derivation_of}
use Rattle.promises.proofs.is_accepted.Goals as goal

ok_viewed : (o : Result Accepted Refusal) → is_ok o ≡ is_ok (viewed o)
ok_viewed (Ok a) = refl
ok_viewed (Err refusal) = refl

pub returns : goal.returns
returns c =
    let d = derivation_of c.args.records.now in
    let is : c.is_ok.result ≡ is_ok (read_of (image_of (derivation_of c.args.records.now))) =
    c.is_ok.ensures.value ∙ (ok_viewed c.read.result ∙ (ap is_ok c.read.ensures.is ∙ ap (λ bytes. is_ok (read_of bytes)) c.requires)) in
    record { is = is; comes_back = λ h. let back = reads_back d h in (is ∙ ap is_ok back.1, back) }
