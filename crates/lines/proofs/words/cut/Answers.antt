use Rattle.lines.proofs.Readings.{cut_word, last_word}
use Rattle.lines.proofs.words.cut.Goals as goal

pub returns-in-Some : goal.returns-in-Some
returns-in-Some c = cut_word c.args.text.now c.in-Some.word c.in-Some.rest c.in-Some.ensures.cases

pub returns-in-None : goal.returns-in-None
returns-in-None c = last_word c.args.text.now c.in-None.ensures.cases
