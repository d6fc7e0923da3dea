-- In which words a verdict is told.
use Rattle.std.specs.Prelude.{ℕ, List, codes}
use Rattle.rules.specs.declared.verdict.Verdict.{Verdict}
use Rattle.rules.specs.declared.verdict.Verdict.TheVariants.{Kept, Breach}

abbrev pub verdict_text : Verdict → List ℕ
verdict_text Kept = codes "KEPT"
verdict_text Breach = codes "BREACH"
