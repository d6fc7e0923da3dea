-- The worked instances of the two laws over two runs.
use Rattle.std.proofs.Common.{◌≡◌, ℕ, ◌≢◌, refl, arith}
use Rattle.rules.specs.Quotes.{quote_made}
use Rattle.calls.specs.declared.account_key.AccountKey.{AccountKey}
use Rattle.calls.specs.declared.change.Change.TheVariants.{Phase, Quote}
use Rattle.laws.specs.Tighter.{same, tightened, quoted, nil, cons}
use Rattle.laws.specs.Exchange.{thing, at_once, here, later, none, first}
use Rattle.laws.specs.Examples.{account, stranger, narrow, wide}
use Rattle.laws.specs.Examples.{TighterTurnsBreachIntoKept, ExchangedPairs}

pub tighter_turns_breach_into_kept : TighterTurnsBreachIntoKept
tighter_turns_breach_into_kept = record {
  premise =
      cons (same _) (cons (same _) (cons (same _) (cons (same _) (cons (same _)
      (cons (tightened 34_200_000 account (quote_made wide refl refl) (quote_made narrow refl refl) refl)
      (cons (same _)
      (cons (quoted 50_000_000 account (quote_made narrow refl refl))
      (cons (same _) (cons (same _) (cons (same _) nil))))))))));
  loose_answers = refl;
  tight_answers = refl;
  breach = refl;
  kept = refl;
  own_calls_differ = λ e. let z : ◌≡◌ {A = ℕ} 0 1 = cc in omega arith;
  bystander_calls = refl;
  bystander_calls_stayed = refl;
  bystander_before = refl;
  bystander_after = refl;
}

phase_not_quote : (p : ℕ) (k : AccountKey) → thing (Phase 12 p) ≢ thing (Quote k narrow)
phase_not_quote p k e = let z : ◌≡◌ {A = ℕ} 0 1 = cc in omega arith

pub exchanged_pairs : ExchangedPairs
exchanged_pairs = record {
  premise =
      first _ _ _ (later _ _ _ (later _ _ _ (here _ _ _ (at_once _ _ _ (phase_not_quote 2 account)))))
      (first _ _ _ (later _ _ _ (later _ _ _ (later _ _ _ (later _ _ _ (here _ _ _ (at_once _ _ _ (phase_not_quote 0 stranger)))))))
      (none _));
  exchanged = refl;
  phases_first_answers = refl;
  quotes_first_answers = refl;
  calls_differ = λ e. let z : ◌≡◌ {A = ℕ} 0 1 = cc in omega arith;
  answers_differ = λ e. let z : ◌≡◌ {A = ℕ} 0 1 = cc in omega arith;
  phases_first_stated = refl;
  quotes_first_stated = refl;
}
