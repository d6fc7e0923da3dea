use Rattle.std.proofs.Common.{◌≡◌, ◌<◌, ◌≤◌, length, get_or, sym, subst, ap, ◌∙◌, arith}
use Rattle.std.proofs.lemmas.List.{get_or_default, get_or-set_other, length-set}
use Rattle.accounts.specs.Views.{enrolled_in}
use Rattle.accounts.specs.Changes.{Leaves}
use Rattle.accounts.proofs.InPlace.{some, over_more, over_all}
use Rattle.accounts.proofs.table.Table.change_each.Goals as goal

pub loop-place-preserved : goal.loop-place-preserved
loop-place-preserved g c =
    let xs = enrolled_in c.args.self.now in
    let ys = enrolled_in c.loop-place.self in
    let zs = enrolled_in c.change_one.new.self in
    let i = c.loop-place.place in
    let was = c.loop-place.invariant in
    let now = c.change_one.ensures in
    let lt : i < length xs = omega (arith, c.len-place-end.ensures, c.args.self.now.accounts.ok.0) in
    let in_ys : i < length ys = omega (arith, was.count) in
    let d = some ys i in_ys in
    let x = get_or ys i d in
    let y = get_or zs i d in
    let is : x ≡ get_or xs i d = was.ahead i d (omega arith) in
    record {
      count = ap length (now.rest d) ∙ length-set ys i y ∙ was.count;
      ahead = λ k d le. ap (λ zs. get_or zs k d) (now.rest d) ∙ get_or-set_other ys i k _ d (λ e. omega arith) ∙ was.ahead k d (omega arith);
      behind = λ f makes. over_more f xs ys i (was.behind f makes) zs x y lt (get_or_default ys i d x in_ys) (now.rest d)
          (makes i d lt y (subst (λ z. Leaves g.F.Fn c.args.step z y) is (now.account d)) ∙ ap f (sym is));
    }

pub returns : goal.returns
returns g c f makes =
    let xs = enrolled_in c.args.self.now in
    let le : length xs ≤ c.loop-place.place = omega (arith, c.len-place-end.ensures, c.args.self.now.accounts.ok.0) in
    over_all f xs _ c.loop-place.place (c.loop-place.invariant.behind f makes) le
