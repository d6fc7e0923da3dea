-- The order inside a millisecond never matters.
use Rattle.std.specs.Prelude.{◌≡◌, ℕ, zero, suc, ◌≢◌, List, [], ◌∷◌}
use Rattle.calls.specs.declared.account_key.AccountKey.{AccountKey}
use Rattle.calls.specs.declared.call.Call.{Call}
use Rattle.calls.specs.declared.call.Call.TheVariants.{At}
use Rattle.calls.specs.declared.change.Change.{Change}
use Rattle.calls.specs.declared.change.Change.TheVariants as change
use Rattle.calls.specs.Answers.{Answer}
use Rattle.accounts.specs.States.{State}
use Rattle.accounts.specs.Steps.{Judgement}
use Rattle.laws.specs.Tighter.{ShowsTheSame}

-- What a change sets: one instrument's phase, the market's flag, one account's exemption, one account's quote.
pub data Thing : Type 0 where
  instrument_phase : ℕ → Thing
  market_flag : Thing
  account_exemption : AccountKey → Thing
  account_quote : AccountKey → Thing

abbrev pub thing : Change → Thing
thing (change.Phase i p) = instrument_phase i
thing (change.Fast f) = market_flag
thing (change.Exempt k f) = account_exemption k
thing (change.Quote k s) = account_quote k
thing (change.Withdraw k) = account_quote k

-- Two calls of one stamp that set different things, refused or not.
pub data Exchangeable : Call → Call → Type 0 where
  at_once : (n : ℕ) (c d : Change) → thing c ≢ thing d → Exchangeable (At n c) (At n d)

-- The neighbours at places n and n + 1 change places.
abbrev pub exchange : {A : Type 0} → ℕ → List A → List A
exchange n [] = []
exchange zero (x ∷ []) = x ∷ []
exchange zero (x ∷ (y ∷ rest)) = y ∷ (x ∷ rest)
exchange (suc n) (x ∷ rest) = x ∷ exchange n rest

abbrev pub exchange_all : {A : Type 0} → List ℕ → List A → List A
exchange_all [] xs = xs
exchange_all (n ∷ ns) xs = exchange_all ns (exchange n xs)

-- The neighbours at places n and n + 1 are there and may change places.
pub data May {A : Type 0} (R : A → A → Type 0) : ℕ → List A → Type 0 where
  here : (x y : A) (rest : List A) → R x y → May R zero (x ∷ (y ∷ rest))
  later : (n : ℕ) (x : A) (rest : List A) → May R n rest → May R (suc n) (x ∷ rest)

-- So may those at each of the places, one exchange after the other.
pub data MayAll {A : Type 0} (R : A → A → Type 0) : List ℕ → List A → Type 0 where
  none : (xs : List A) → MayAll R [] xs
  first : (n : ℕ) (ns : List ℕ) (xs : List A) → May R n xs → MayAll R ns (exchange n xs) → MayAll R (n ∷ ns) xs

-- What holds of two runs where the second's calls are the first's with neighbours exchanged at the places ns: each call keeps
-- its answer, every account its figures and statement, and all that a meter holds is the same.
pub record KeepsAll (judge : Judgement) (ns : List ℕ) (xs ys : List Answer) (s t : State) : Type 0 where
  pub answers : ys ≡ exchange_all ns xs
  pub shown : (k : AccountKey) → ShowsTheSame judge s t k
  pub left : s ≡ t

abbrev pub OrderNeverMatters : Judgement → List Call → List Call → List Answer → List Answer → State → State → Type 0
OrderNeverMatters judge cs ds xs ys s t = (ns : List ℕ) → MayAll Exchangeable ns cs → ds ≡ exchange_all ns cs → KeepsAll judge ns xs ys s t
