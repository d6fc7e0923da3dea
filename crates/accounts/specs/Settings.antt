-- What bears on an account at a moment, and what a change sets of it.
use Rattle.std.specs.Prelude.{ℕ, Bool, true, false, cond, not, ◌&&◌, Some, None, Option, ◌==◌}
use Rattle.std.specs.Result.{result_ok}
use Rattle.rules.specs.declared.quote.Quote.{Quote}
use Rattle.rules.specs.Quotes.{quote_of}
use Rattle.calls.specs.declared.account_key.AccountKey.{AccountKey}
use Rattle.calls.specs.declared.phase.Phase.{Phase}
use Rattle.calls.specs.declared.phase.Phase.TheVariants.{Closed}
use Rattle.calls.specs.declared.change.Change.{Change}
use Rattle.calls.specs.declared.change.Change.TheVariants as change
use Rattle.calls.specs.Keys.{same_key}
use Rattle.calls.specs.Phases.{phase_of, continuous}

-- What bears on one account at one moment.
pub record Setting : Type 0 where
  pub phase : Phase
  pub fast : Bool
  pub exempt : Bool
  pub quote : Option Quote

-- What all accounts share: how each instrument trades, and whether the market is fast.
pub record Trading : Type 0 where
  pub phase : ℕ → Phase
  pub fast : Bool

-- As a day opens: every phase 0, the market not fast, the account not exempt, no quote standing.
abbrev pub quiet : Trading
quiet = record { phase = λ _. Closed; fast = false }

abbrev pub at_opening : Setting
at_opening = record { phase = Closed; fast = false; exempt = false; quote = None }

-- What a change sets, where it sets that thing.

abbrev pub if_so : {A : Type 0} → Bool → A → Option A
if_so true v = Some v
if_so false v = None

abbrev pub override : {A : Type 0} → Option A → A → A
override (Some v) old = v
override None old = old

abbrev pub raised : ℕ → Bool
raised flag = flag == 1

abbrev pub sets_phase : Change → ℕ → Option Phase
sets_phase (change.Phase i p) j = cond (i == j) (phase_of p) None
sets_phase (change.Fast f) j = None
sets_phase (change.Exempt k f) j = None
sets_phase (change.Quote k s) j = None
sets_phase (change.Withdraw k) j = None

abbrev pub sets_fast : Change → Option Bool
sets_fast (change.Phase i p) = None
sets_fast (change.Fast f) = Some (raised f)
sets_fast (change.Exempt k f) = None
sets_fast (change.Quote k s) = None
sets_fast (change.Withdraw k) = None

abbrev pub sets_exempt : Change → AccountKey → Option Bool
sets_exempt (change.Phase i p) l = None
sets_exempt (change.Fast f) l = None
sets_exempt (change.Exempt k f) l = if_so (same_key k l) (raised f)
sets_exempt (change.Quote k s) l = None
sets_exempt (change.Withdraw k) l = None

abbrev pub sets_quote : Change → AccountKey → Option (Option Quote)
sets_quote (change.Phase i p) l = None
sets_quote (change.Fast f) l = None
sets_quote (change.Exempt k f) l = None
sets_quote (change.Quote k s) l = if_so (same_key k l) (result_ok (quote_of s))
sets_quote (change.Withdraw k) l = if_so (same_key k l) None

-- The setting of the account that k names, after a change.
abbrev pub changed : Change → AccountKey → Setting → Setting
changed c k s = record {
  phase = override (sets_phase c k.instrument) s.phase;
  fast = override (sets_fast c) s.fast;
  exempt = override (sets_exempt c k) s.exempt;
  quote = override (sets_quote c k) s.quote;
}

abbrev pub trading_changed : Change → Trading → Trading
trading_changed c m = record { phase = λ j. override (sets_phase c j) (m.phase j); fast = override (sets_fast c) m.fast }

-- An account is obliged while its instrument trades continuously, the market is not fast and the account is not exempt.
abbrev pub obliged : Setting → Bool
obliged s = continuous s.phase && (not s.fast && not s.exempt)
