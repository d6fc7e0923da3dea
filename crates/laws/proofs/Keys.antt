-- Keys that the test finds the same are equal.
use Rattle.std.proofs.Common.{◌≡◌, true, rules}
use Rattle.calls.specs.declared.account_key.AccountKey.{AccountKey}
use Rattle.calls.specs.Keys.{same_key}

pub same_keys : (k l : AccountKey) → same_key k l ≡ true → k ≡ l
same_keys k l e = search rules

pub same_itself : (k : AccountKey) → same_key k k ≡ true
same_itself k = search rules
