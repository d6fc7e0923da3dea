-- In which words figures and statements are told.
use Rattle.std.specs.Prelude.{ℕ, List, ◌++◌, codes, decimal}
use Rattle.rules.specs.Verdicts.{verdict_text}
use Rattle.accounts.specs.declared.figures.Figures.{Figures}
use Rattle.accounts.specs.declared.statement.Statement.{Statement}

-- today OBLIGED QUALIFIED month OBLIGED QUALIFIED DAYS KEPT
abbrev pub figures_text : Figures → List ℕ
figures_text f =
    codes "today " ++ (decimal f.today.obliged ++ (codes " " ++ (decimal f.today.qualified
    ++ (codes " month " ++ (decimal f.month.obliged ++ (codes " " ++ (decimal f.month.qualified
    ++ (codes " " ++ (decimal f.month.days ++ (codes " " ++ decimal f.month.kept_days))))))))))

abbrev pub statement_text : Statement → List ℕ
statement_text s = figures_text s.figures ++ (codes " " ++ verdict_text s.verdict)
