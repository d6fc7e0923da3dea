-- Tighter quoting never costs.
use Rattle.std.specs.Prelude.{◌≡◌, ℕ, ◌≤◌, Bool, true, false, List, [], ◌∷◌, map, filter, Ok, Err, Result}
use Rattle.rules.specs.declared.refusal.Refusal.{Refusal}
use Rattle.rules.specs.declared.quote.Quote.{Quote}
use Rattle.rules.specs.declared.verdict.Verdict.TheVariants.{Kept}
use Rattle.rules.specs.Months.{NoWorse}
use Rattle.rules.specs.Quotes.{sides_of}
use Rattle.accounts.specs.declared.account.Account.{Account}
use Rattle.calls.specs.declared.account_key.AccountKey.{AccountKey}
use Rattle.calls.specs.declared.call.Call.{Call}
use Rattle.calls.specs.declared.call.Call.TheVariants.{Enrol, Strike, Open, At, Close, Turn}
use Rattle.calls.specs.declared.change.Change.{Change}
use Rattle.calls.specs.declared.change.Change.TheVariants as change
use Rattle.accounts.specs.declared.figures.Figures.{Figures}
use Rattle.accounts.specs.declared.statement.Statement.{Statement}
use Rattle.calls.specs.Answers.{Answer}
use Rattle.calls.specs.Keys.{same_key}
use Rattle.accounts.specs.States.{State}
use Rattle.accounts.specs.Steps.{Judgement, figures, statement}

-- One call against the one in its place in the copy: the same; or a lawful quote for a lawful quote that it is better than,
-- or for a withdrawal, of the same account and stamp. What has the sides of a Quote is lawful. better q p: q is better than p.
pub data Bettered (better : Quote → Quote → Bool) : Call → Call → Type 0 where
  same : (c : Call) → Bettered better c c
  tightened : (n : ℕ) (k : AccountKey) (p q : Quote) → better q p ≡ true → Bettered better (At n (change.Quote k (sides_of p))) (At n (change.Quote k (sides_of q)))
  quoted : (n : ℕ) (k : AccountKey) (q : Quote) → Bettered better (At n (change.Withdraw k)) (At n (change.Quote k (sides_of q)))

-- Two lists of the same length, related at each place.
pub data Each {A : Type 0} (R : A → A → Type 0) : List A → List A → Type 0 where
  nil : Each R [] []
  cons : {x y : A} {xs ys : List A} → R x y → Each R xs ys → Each R (x ∷ xs) (y ∷ ys)

-- An account's own calls: the quotes and withdrawals that name it.
abbrev pub own_change : AccountKey → Change → Bool
own_change k (change.Phase i p) = false
own_change k (change.Fast f) = false
own_change k (change.Exempt l f) = false
own_change k (change.Quote l s) = same_key l k
own_change k (change.Withdraw l) = same_key l k

abbrev pub own : AccountKey → Call → Bool
own k (Enrol l t) = false
own k (Strike l) = false
own k (Open d) = false
own k (At n c) = own_change k c
own k (Close n) = false
own k Turn = false

abbrev pub own_calls : AccountKey → List Call → List Call
own_calls k cs = filter (own k) cs

-- g, of the second meter, against f, of the first: the same obliged time and days, no less qualified time, no fewer kept days.
pub record CostsNothing (f g : Figures) : Type 0 where
  pub obliged_today : f.today.obliged ≡ g.today.obliged
  pub qualified_today : f.today.qualified ≤ g.today.qualified
  pub month : NoWorse g.month f.month

-- And no breach where the first shows kept.
pub record StillKept (f g : Statement) : Type 0 where
  pub figures : CostsNothing f.figures g.figures
  pub verdict : f.verdict ≡ Kept → g.verdict ≡ Kept

-- Both are refused alike, or both are answered, and the answers compare.
abbrev pub Both : {A : Type 0} → (A → A → Type 0) → Result A Refusal → Result A Refusal → Type 0
Both R (Ok x) (Ok y) = R x y
Both R (Ok x) (Err e) = ⊥
Both R (Err e) (Ok y) = ⊥
Both R (Err d) (Err e) = d ≡ e

-- The accounts in order of enrolment.
abbrev pub keys : State → List AccountKey
keys s = map (λ (a : Account). a.key) s.accounts

abbrev pub ShowsTheSame : Judgement → State → State → AccountKey → Type 0
ShowsTheSame judge s t k = (figures s k ≡ figures t k) × (statement judge s k ≡ statement judge t k)

-- What holds of two runs where the second's calls are a bettered copy of the first's: cs, xs and s are the first's calls, their
-- answers and what they left, ds, ys and t the second's.
pub record NeverCosts (judge : Judgement) (cs ds : List Call) (xs ys : List Answer) (s t : State) : Type 0 where
  pub answers : xs ≡ ys
  pub accounts : keys s ≡ keys t
  pub figures_told : (k : AccountKey) → Both CostsNothing (figures s k) (figures t k)
  pub statements : (k : AccountKey) → Both StillKept (statement judge s k) (statement judge t k)
  pub own_calls_stayed : (k : AccountKey) → own_calls k cs ≡ own_calls k ds → ShowsTheSame judge s t k

abbrev pub TighterNeverCosts : (Quote → Quote → Bool) → Judgement → List Call → List Call → List Answer → List Answer → State → State → Type 0
TighterNeverCosts better judge cs ds xs ys s t = Each (Bettered better) cs ds → NeverCosts judge cs ds xs ys s t
