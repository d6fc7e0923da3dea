-- What names an account.
use Rattle.std.specs.Prelude.{ℕ, Bool, ◌&&◌, ◌==◌}
use Rattle.rules.specs.Ranges.{within}
use Rattle.calls.specs.declared.account_key.AccountKey.{AccountKey}

abbrev pub same_key : AccountKey → AccountKey → Bool
same_key k l = k.maker == l.maker && k.instrument == l.instrument

abbrev pub instrument_in_range : ℕ → Bool
instrument_in_range = within 1 32

abbrev pub key_in_range : AccountKey → Bool
key_in_range k = within 1 65_535 k.maker && instrument_in_range k.instrument
