use Rattle.std.proofs.Common.{◌∙◌, lit<}
use Rattle.std.proofs.lemmas.Str.Parse.{parse_plain}
use Rattle.lines.proofs.Readings.{not_first, decimal, number_read}
use Rattle.lines.proofs.number.read_number.Goals as goal

pub returns : goal.returns
returns c =
    let unsigned = not_first 43 (lit< tt) (lit< tt) c.args.word.now c.starts_with.result c.starts_with.ensures.cases c.if-starts_with.false in
    c.ok.ensures.value ∙ number_read c.args.word.now c.parse.result (parse_plain decimal 32 c.args.word.now c.parse.result c.parse.ensures.value.0 unsigned)
