use Rattle.book.proofs.book.Book.take.Goals as goal

pub returns-in-Enrol : goal.returns-in-Enrol
returns-in-Enrol g c = cc (c.enrol.ensures (g.Q.QuoteRule.meets c.args.rule.now))

pub returns-in-Strike : goal.returns-in-Strike
returns-in-Strike g c = cc (c.strike.ensures (g.Q.QuoteRule.meets c.args.rule.now))

pub returns-in-Open : goal.returns-in-Open
returns-in-Open g c = cc (c.open_day.ensures (g.Q.QuoteRule.meets c.args.rule.now))

pub returns-in-Turn : goal.returns-in-Turn
returns-in-Turn g c = cc (c.turn_month.ensures (g.Q.QuoteRule.meets c.args.rule.now))
