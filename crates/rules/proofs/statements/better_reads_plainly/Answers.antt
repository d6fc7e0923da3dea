use Rattle.rules.specs.Plainly.{vienna_better_reads, zagreb_better_reads, beta_better_reads}
use Rattle.rules.proofs.statements.better_reads_plainly.Goals as goal

pub returns : goal.returns
returns c = record { vienna = vienna_better_reads; zagreb = zagreb_better_reads; beta = beta_better_reads }
