use Rattle.std.proofs.Common.{◌≡◌, ℕ, ◌<◌, List, Option, ok_or, length, take, sym, ap, ◌∙◌, arith, length-set}
use lib.ListN.{length-replicate}
use Rattle.std.proofs.lemmas.List.{take_all, take_more_set, length-take-le}
use Rattle.std.proofs.lemmas.Result.{err_from_is_err_and}
use Rattle.lines.specs.Numbers.{numbers_of, exactly}
use Rattle.lines.specs.Words.{words_left}
use Rattle.lines.specs.declared.unreadable.Unreadable.{Unreadable}
use Rattle.lines.proofs.Counting.{then_read, none_read, is_next, one_more, no_number, all_read, too_many}
use Rattle.lines.proofs.words.Words.numbers.Goals as goal

pub loop-number-init : goal.loop-number-init
loop-number-init g c = (none_read _, length-replicate g.row.N 0)

pub loop-number-preserved : goal.loop-number-preserved
loop-number-preserved g c =
    let l = c.loop-number in
    let x = c.in_ok-number.field-0 in
    let below : l.number-index < length l.number-items = omega (arith, l.invariant.1, c.loop-number-test.true) in
    let next = is_next (λ y. y.now) c.next.result c.and_then.result (words_left l.self) c.next.ensures.steps.0 c.and_then.ensures in (
      l.invariant.0 ∙ one_more (take l.number-index l.number-items) _ (words_left l.self) _ x (sym next ∙ c.in_ok-number.ensures.ok_part) c.next.ensures.steps.1 (take_more_set l.number-items l.number-index x below),
      length-set l.number-items l.number-index x ∙ l.invariant.1,
    )

pub returns-in_err-number : goal.returns-in_err-number
returns-in_err-number g c =
    let l = c.loop-number in
    let short : length (take l.number-index l.number-items) ≡ l.number-index = length-take-le l.number-index l.number-items (omega (arith, l.invariant.1, c.loop-number-test.true)) in
    let next = is_next (λ y. y.now) c.next.result c.and_then.result (words_left l.self) c.next.ensures.steps.0 c.and_then.ensures in
    let none = ap (exactly g.row.N) l.invariant.0 ∙ no_number g.row.N (take l.number-index l.number-items) (words_left l.self) (omega (arith, short, l.invariant.1, c.loop-number-test.true)) (sym next ∙ c.in_err-number.ensures.ok_part) in
    (err_from_is_err_and c.from_residual.result c.from_residual.ensures.1).1 ∙ sym (ap (λ (o : Option (List ℕ)). ok_or {E = Unreadable} o (record {})) none)

pub returns-in-None : goal.returns-in-None
returns-in-None g c =
    let l = c.loop-number in
    let whole : take l.number-index l.number-items ≡ l.number-items = take_all l.number-index l.number-items (omega (arith, l.invariant.1, c.loop-number-test.false)) in
    let all = ap (exactly g.row.N) (l.invariant.0 ∙ ap (λ (ns : List ℕ). then_read ns (numbers_of (words_left l.self))) whole) ∙ all_read g.row.N l.number-items (words_left l.self) l.invariant.1 c.in-None.ensures.steps.0 in
    sym (ap (λ (o : Option (List ℕ)). ok_or {E = Unreadable} o (record {})) all)

pub returns-in-Some : goal.returns-in-Some
returns-in-Some g c =
    let l = c.loop-number in
    let whole : take l.number-index l.number-items ≡ l.number-items = take_all l.number-index l.number-items (omega (arith, l.invariant.1, c.loop-number-test.false)) in
    let more = ap (exactly g.row.N) (l.invariant.0 ∙ ap (λ (ns : List ℕ). then_read ns (numbers_of (words_left l.self))) whole) ∙ too_many g.row.N l.number-items (words_left l.self) c.in-Some.field-0.now l.invariant.1 c.in-Some.ensures.steps.0 in
    sym (ap (λ (o : Option (List ℕ)). ok_or {E = Unreadable} o (record {})) more)
