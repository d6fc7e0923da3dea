-- In which words it is told why a line is not taken.
use Rattle.std.specs.Prelude.{ℕ, List, codes}
use Rattle.script.specs.declared.untaken.Untaken.{Untaken}
use Rattle.script.specs.declared.untaken.Untaken.TheVariants.{Unreadable, OutOfMemory}

abbrev pub untaken_text : Untaken → List ℕ
untaken_text Unreadable = codes "unreadable"
untaken_text OutOfMemory = codes "out of memory"
