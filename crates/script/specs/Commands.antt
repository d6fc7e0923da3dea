-- What a line asks of a meter.
use Rattle.std.specs.Prelude.{ℕ, List, [], ◌∷◌, Some, None, Err, Option, Result, slice_index}
use Rattle.std.specs.Option.{option_map, ok_or}
use Rattle.rules.specs.declared.conditions.Conditions.{Conditions}
use Rattle.rules.specs.declared.sides.Sides.{Sides}
use Rattle.calls.specs.declared.account_key.AccountKey.{AccountKey}
use Rattle.calls.specs.declared.date.Date.{Date}
use Rattle.calls.specs.declared.change.Change.TheVariants as change
use Rattle.calls.specs.declared.call.Call.TheVariants as call
use Rattle.lines.specs.Numbers.{numbers_of, exactly}
use Rattle.lines.specs.Asked.{asked_of}
use Rattle.lines.specs.Unreadables.{unreadable}
use Rattle.lines.specs.declared.unreadable.Unreadable.{Unreadable}
use Rattle.script.specs.declared.command.Command.{Command}
use Rattle.script.specs.declared.command.Command.TheVariants as command
use Rattle.script.specs.declared.verb.Verb.{Verb}
use Rattle.script.specs.declared.verb.Verb.TheVariants.{Enrol, Strike, Open, Phase, Fast, Exempt, Quote, Withdraw, Close, Turn, Figures, Statement}
use Rattle.script.specs.Verbs.{verb_named}

-- How many numbers follow a verb.
abbrev pub arity : Verb → ℕ
arity Enrol = 7
arity Strike = 2
arity Open = 3
arity Phase = 3
arity Fast = 2
arity Exempt = 4
arity Quote = 7
arity Withdraw = 3
arity Close = 1
arity Turn = 0
arity Figures = 2
arity Statement = 2

-- What stands in the numbers of a line: MAKER INSTRUMENT first, where an account is named.
module _ (ns : List ℕ) where
  abbrev pub number : ℕ → ℕ
  number i = slice_index ns i

  abbrev pub key : AccountKey
  key = record { maker = number 0; instrument = number 1 }

  -- enrol MAKER INSTRUMENT CLASS TIER THRESHOLD LIMIT MINIMUM
  abbrev pub conditions : Conditions
  conditions = record { class = number 2; tier = number 3; threshold = number 4; limit = number 5; minimum = number 6 }

  -- open YEAR MONTH DAY
  abbrev pub date : Date
  date = record { year = number 0; month = number 1; day = number 2 }

  -- quote MAKER INSTRUMENT STAMP BID ASK BIDSIZE ASKSIZE
  abbrev pub sides : Sides
  sides = record { bid = number 3; ask = number 4; bid_size = number 5; ask_size = number 6 }

abbrev pub asks : Verb → List ℕ → Command
asks Enrol ns = command.Call (call.Enrol (key ns) (conditions ns))
asks Strike ns = command.Call (call.Strike (key ns))
asks Open ns = command.Call (call.Open (date ns))
asks Phase ns = command.Call (call.At (number ns 2) (change.Phase (number ns 0) (number ns 1)))
asks Fast ns = command.Call (call.At (number ns 1) (change.Fast (number ns 0)))
asks Exempt ns = command.Call (call.At (number ns 3) (change.Exempt (key ns) (number ns 2)))
asks Quote ns = command.Call (call.At (number ns 2) (change.Quote (key ns) (sides ns)))
asks Withdraw ns = command.Call (call.At (number ns 2) (change.Withdraw (key ns)))
asks Close ns = command.Call (call.Close (number ns 0))
asks Turn ns = command.Call call.Turn
asks Figures ns = command.Figures (key ns)
asks Statement ns = command.Statement (key ns)

-- Unreadable where there are not just as many numbers as the verb takes.
abbrev pub by_verb : Verb → List (List ℕ) → Result Command Unreadable
by_verb v rest = ok_or (option_map (asks v) (exactly (arity v) (numbers_of rest))) unreadable

abbrev pub if_verb : Option Verb → List (List ℕ) → Result Command Unreadable
if_verb None rest = Err unreadable
if_verb (Some v) rest = by_verb v rest

-- By the first word and those behind it.
abbrev pub asked_by : List (List ℕ) → Result Command Unreadable
asked_by [] = Err unreadable
asked_by (first ∷ rest) = if_verb (verb_named first) rest

abbrev pub command_of : List ℕ → Result (Option Command) Unreadable
command_of bs = asked_of asked_by bs
