use Rattle.std.proofs.Common.{◌≡◌, suc, List, [], ◌∷◌, length, zip, All, rules, arith}
use Rattle.std.proofs.lemmas.Iterator.{YieldsList-from_slice, YieldsList-from_zip, cases_from_all}
use Rattle.std.proofs.lemmas.List.Elements.{All-from_all_within}
use Rattle.laws.specs.Tighter.{Bettered, Each, nil, cons}
use borrow.Author.Tests.{tests}
use Rattle.relation.proofs.bettered.is_bettered.Goals as goal

-- Lists of one length are related at each place where their pairs are.
each_pair : {A : Type 0} (R : A → A → Type 0) (xs ys : List A) → length xs ≡ length ys → All (λ p. R p.0 p.1) (zip xs ys) → Each R xs ys
each_pair R [] [] e all = nil
each_pair R [] (y ∷ ys) e all = absurd (omega arith)
each_pair R (x ∷ xs) [] e all = absurd (omega arith)
each_pair R (x ∷ xs) (y ∷ ys) e all = cons (all 0 (x, y) (omega arith)) (each_pair R xs ys (omega arith) (λ k d lt. all (suc k) d (omega arith)))

pub returns-then-first-second : goal.returns-then-first-second
returns-then-first-second g c = λ e.
    let R = Bettered (g.Q.QuoteRule.better c.args.rule.now) in
    let xs = c.args.first.now in
    let ys = c.args.second.now in
    let long : length xs ≡ length ys = search rules in
    let told = cases_from_all c.all.new.self _ c.all.result (λ p. R p.0 p.1) (λ p. Unit {0}) c.all.ensures.ran
    (YieldsList-from_zip (YieldsList-from_slice xs cc) (YieldsList-from_slice ys cc)) (λ x q k. search (rules, tests)) (λ x q k. tt) in
    each_pair R xs ys long (All-from_all_within (λ p. R p.0 p.1) _ (rw e at told))
