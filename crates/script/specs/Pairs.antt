-- Two scripts, one behind the other, parted by a line `--`.
use Rattle.std.specs.Prelude.{ℕ, Bool, cond, not, ◌&&◌, List, [], ◌∷◌, ◌++◌, Some, None, Ok, Option, Result, is_some, codes}
use Rattle.std.specs.Result.{result_map_both}
use Rattle.std.specs.Str.{bytes_eq}
use Rattle.calls.specs.declared.call.Call.{Call}
use Rattle.lines.specs.declared.unreadable.Unreadable.{Unreadable}
use Rattle.script.specs.declared.command.Command.{Command}
use Rattle.script.specs.declared.command.Command.TheVariants as command
use Rattle.script.specs.Commands.{command_of}

-- The second is there from the line that parts them on.
pub record Pair : Type 0 where
  pub first : List Call
  pub second : Option (List Call)

abbrev pub parts : List ℕ → Pair → Bool
parts line p = not (is_some p.second) && bytes_eq line (codes "--")

abbrev pub now_parted : Pair → Pair
now_parted p = record { first = p.first; second = Some [] }

-- One call more of the script that is being read.
abbrev pub call_onto : Call → List Call → Option (List Call) → Pair
call_onto c first None = record { first = first ++ c ∷ []; second = None }
call_onto c first (Some second) = record { first = first; second = Some (second ++ c ∷ []) }

abbrev pub with_call : Call → Pair → Pair
with_call c p = call_onto c p.first p.second

-- What a command adds: only a call is taken.
abbrev pub with_command : Pair → Option Command → Pair
with_command p None = p
with_command p (Some (command.Call c)) = with_call c p
with_command p (Some (command.Figures k)) = p
with_command p (Some (command.Statement k)) = p

-- The scripts with one line more, where it can be read.
abbrev pub taken : List ℕ → Pair → Result Pair Unreadable
taken line p = cond (parts line p) (Ok (now_parted p)) (result_map_both (with_command p) (λ e. e) (command_of line))
