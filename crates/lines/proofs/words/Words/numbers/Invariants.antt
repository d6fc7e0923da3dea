use Rattle.std.proofs.Common.{◌≡◌, length, take}
use Rattle.lines.specs.Numbers.{numbers_of}
use Rattle.lines.specs.Words.{words_left}
use Rattle.lines.proofs.Counting.{then_read}
use Rattle.lines.proofs.words.Words.numbers.Given as goal

-- the numbers read so far, then those of the words that are left, are the whole
abbrev pub invariant-loop-number : goal.invariant-loop-number
invariant-loop-number g l = (numbers_of (words_left l.initial.self) ≡ then_read (take l.number-index l.number-items) (numbers_of (words_left l.self))) × (length l.number-items ≡ g.row.N)
