-- What a line asks of the desk.
use Rattle.std.specs.Prelude.{ℕ, cond, List, [], ◌∷◌, Err, codes, Result, slice_index}
use Rattle.std.specs.Option.{option_map, ok_or}
use Rattle.std.specs.Str.{bytes_eq}
use Rattle.lines.specs.Numbers.{numbers_of, exactly}
use Rattle.lines.specs.Unreadables.{unreadable}
use Rattle.lines.specs.declared.unreadable.Unreadable.{Unreadable}
use Rattle.desk.specs.declared.request.Request.{Request}
use Rattle.desk.specs.declared.request.Request.TheVariants.{Terms, Quote}

-- terms CLASS TIER THRESHOLD LIMIT MINIMUM
abbrev pub terms_asked : List ℕ → Request
terms_asked ns = Terms (record { class = slice_index ns 0; tier = slice_index ns 1; threshold = slice_index ns 2; limit = slice_index ns 3; minimum = slice_index ns 4 })

-- quote BID ASK BIDSIZE ASKSIZE
abbrev pub quote_asked : List ℕ → Request
quote_asked ns = Quote (record { bid = slice_index ns 0; ask = slice_index ns 1; bid_size = slice_index ns 2; ask_size = slice_index ns 3 })

-- By just so many numbers; unreadable where there are not.
abbrev pub by_numbers : ℕ → (List ℕ → Request) → List (List ℕ) → Result Request Unreadable
by_numbers n asks rest = ok_or (option_map asks (exactly n (numbers_of rest))) unreadable

-- By the first word and those behind it.
abbrev pub asked_by : List (List ℕ) → Result Request Unreadable
asked_by [] = Err unreadable
asked_by (first ∷ rest) =
    cond (bytes_eq first (codes "terms")) (by_numbers 5 terms_asked rest)
    (cond (bytes_eq first (codes "quote")) (by_numbers 4 quote_asked rest) (Err unreadable))
