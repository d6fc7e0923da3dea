use Rattle.desk.proofs.Judging.{better_keeps_meeting}
use Rattle.desk.proofs.desk.better_keeps_meeting.Goals as goal

pub returns : goal.returns
returns g c = better_keeps_meeting _ _ (g.met.Q.QuoteRule.upward c.args.rule.now)
