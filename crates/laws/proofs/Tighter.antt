-- Why tighter quoting never costs.
use Rattle.std.proofs.Common.{◌≡◌, ℕ, suc, ◌+◌, ◌-◌, ◌≤◌, Bool, true, false, cond, not, ◌&&◌, eqb, ltb, leb, List, [], ◌∷◌, ◌++◌, map, length, is_some, Some, None, Ok, Err, Option, Result, sym, refl, ap, ◌∙◌, subst, ap₂, subst₂, arith}
use Rattle.std.proofs.lemmas.Bool.{both_ways, leb-true, le-leb}
use Rattle.std.specs.Result.{result_ok}
use Rattle.rules.specs.declared.refusal.Refusal.{Refusal}
use Rattle.rules.specs.declared.refusal.Refusal.TheVariants.{FieldOutOfRange, DayOpen, NotEnrolled, EnrolledAlready, TableFull, DaysUnturned}
use Rattle.rules.specs.declared.quote.Quote.{Quote}
use Rattle.rules.specs.declared.terms.Terms.{Terms}
use Rattle.rules.specs.declared.month_figures.MonthFigures.{MonthFigures}
use Rattle.rules.specs.declared.verdict.Verdict.TheVariants.{Kept}
use Rattle.rules.specs.Months.{NoWorse}
use Rattle.rules.specs.Quotes.{sides_of}
use Rattle.rules.specs.Terms.{terms_of}
use Rattle.rules.proofs.Made.{quote_is}
use Rattle.accounts.specs.declared.account.Account.{Account}
use Rattle.calls.specs.declared.account_key.AccountKey.{AccountKey}
use Rattle.calls.specs.declared.call.Call.{Call}
use Rattle.calls.specs.declared.call.Call.TheVariants.{Enrol, Strike, Open, At, Close, Turn}
use Rattle.calls.specs.declared.change.Change.{Change}
use Rattle.calls.specs.declared.change.Change.TheVariants as change
use Rattle.accounts.specs.declared.day_figures.DayFigures.{DayFigures}
use Rattle.calls.specs.Answers.{Answer, accepted, when, first_of}
use Rattle.calls.specs.Keys.{same_key, key_in_range}
use Rattle.accounts.specs.Lists.{without}
use Rattle.accounts.specs.Settings.{Trading, if_so, override, sets_quote, obliged}
use Rattle.accounts.specs.Counting.{Rule, stands, qualified, kept_day}
use Rattle.accounts.specs.Accounts.{is, with_settings, with_figures, setting_of, settled, account_changed, account_opened, account_closed, account_turned}
use Rattle.accounts.specs.Accounts.{newly_enrolled, newcomer, figures_of}
use Rattle.accounts.specs.States.{Frame, State}
use Rattle.accounts.specs.Refusals.{account_of, enrolled, enrolment_refusal, unturned}
use Rattle.calls.specs.Calls.{field_refusal}
use Rattle.accounts.specs.Refusals.{day_refusal, change_refusal, table_refusal, month_refusal, refusal}
use Rattle.accounts.specs.Steps.{frame_stamped, accounts_after, taken, unless_refused, step, run, answers, just_made}
use Rattle.accounts.specs.Steps.{told, figures, Judgement, stated, statement}
use Rattle.laws.specs.Tighter.{Bettered, same, tightened, quoted, Each, nil, cons, own, own_calls}
use Rattle.laws.specs.Tighter.{CostsNothing, StillKept, Both, keys, ShowsTheSame, NeverCosts}
use Rattle.laws.proofs.Keys.{same_keys, same_itself}

-- Tests: one that is true wherever another is, and a choice by one test on two sides.

abbrev pub Then : Bool → Bool → Type 0
Then b b' = b ≡ true → b' ≡ true

and_then : (o b b' : Bool) → Then b b' → Then (o && b) (o && b')
and_then true b b' h e = h e
and_then false b b' h e = e

either : {A : Type 0} (R : A → A → Type 0) (b : Bool) {x y x' y' : A} → (b ≡ true → R x y) → R x' y' → R (cond b x x') (cond b y y')
either R true h h' = h refl
either R false h h' = h'

-- Counts grow with their tests, and so a day stays kept with more qualified time.

grown : (b b' : Bool) (d x x' : ℕ) → Then b b' → x ≤ x' → x + cond b d 0 ≤ x' + cond b' d 0
grown true true d x x' h le = omega arith
grown true false d x x' h le = absurd (both_ways false refl (h refl))
grown false true d x x' h le = omega arith
grown false false d x x' h le = omega arith

abbrev qualifying : ℕ → DayFigures → DayFigures
qualifying n x = record { obliged = x.obliged; qualified = n }

kept_again : (t : Terms) (x : DayFigures) (n : ℕ) → x.qualified ≤ n → Then (kept_day t x) (kept_day t (qualifying n x))
kept_again t x n le = and_then (ltb 0 x.obliged) _ _ (λ e. omega (arith, leb-true, le-leb))

-- The change after which p is the standing quote of the account k. It is refused as a withdrawal is, and sets just that quote.

abbrev pub quoting : AccountKey → Option Quote → Change
quoting k None = change.Withdraw k
quoting k (Some q) = change.Quote k (sides_of q)

abbrev requoted : AccountKey → Option Quote → Account → Account
requoted k p a = with_settings a.exempt (override (if_so (is k a) p) a.quote) a

abbrev after_quoting : Rule → State → ℕ → AccountKey → Option Quote → State
after_quoting rule s n k p = record {
  frame = frame_stamped s.frame.trading n s.frame;
  accounts = map (λ a. requoted k p (settled rule s.frame.trading (n - s.frame.clock) a)) s.accounts;
}

quoting_refused : (s : State) (n : ℕ) (k : AccountKey) (p : Option Quote) → refusal s (At n (change.Withdraw k)) ≡ refusal s (At n (quoting k p))
quoting_refused s n k None = refl
quoting_refused s n k (Some q) = rw (← quote_is q)

quoting_taken : (rule : Rule) (s : State) (n : ℕ) (k : AccountKey) (p : Option Quote) → after_quoting rule s n k p ≡ taken rule s (At n (quoting k p))
quoting_taken rule s n k None = refl
quoting_taken rule s n k (Some q) = ap (λ made. after_quoting rule s n k (result_ok made)) (quote_is q)

-- Where an account's own calls are those of the copy, each of them is the one in its place.

own_alike : {better : Quote → Quote → Bool} (k : AccountKey) {c d : Call} → Bettered better c d → own k c ≡ own k d
own_alike k (same c) = refl
own_alike k (tightened n l p q b) = refl
own_alike k (quoted n l q) = refl

heads : {A : Type 0} (b : Bool) (c d : A) (cs ds : List A) → cond b (c ∷ cs) cs ≡ cond b (d ∷ ds) ds → (b ≡ true → c ≡ d) × (cs ≡ ds)
heads true c d cs ds e = (λ b. cc, cc)
heads false c d cs ds e = (λ b. absurd (both_ways false refl b), e)

own_heads : {better : Quote → Quote → Bool} (k : AccountKey) {c d : Call} (cs ds : List Call) → Bettered better c d →
    own_calls k (c ∷ cs) ≡ own_calls k (d ∷ ds) → (own k c ≡ true → c ≡ d) × (own_calls k cs ≡ own_calls k ds)
own_heads k {c} {d} cs ds x e = heads (own k c) c d _ _ (rw (← own_alike k x) at e)

-- rule' is the weaker: whatever meets rule meets it.
abbrev pub Weaker : Rule → Rule → Type 0
Weaker rule rule' = (q : Quote) (t : Terms) → Then (rule q t) (rule' q t)

-- An account as other quoting leaves it: with this standing quote, this qualified time of the day and of the month, these kept days.
abbrev pub varied : Option Quote → ℕ → ℕ → ℕ → Account → Account
varied q x y d a =
    let month : MonthFigures = record { obliged = a.month.obliged; qualified = y; days = a.month.days; kept_days = d } in
    with_settings a.exempt q (with_figures (qualifying x a.today) month a)

-- Two meters, the second with the weaker rule. An account that stayed has the same own calls in both; if there is one, both have one rule.
module _ (rule rule' : Rule) (weaker : Weaker rule rule') (stayed : AccountKey → Bool) (agree : (k : AccountKey) → stayed k ≡ true → rule ≡ rule') where
  -- q, standing in the second meter, meets all terms that p, standing in the first, meets.
  abbrev pub Improved : Option Quote → Option Quote → Type 0
  Improved p q = (t : Terms) → Then (stands rule t p) (stands rule' t q)

  -- One account in both meters: in the second it is ahead, and it is the same if it stayed.
  pub data Ahead (a : Account) : Account → Type 0 where
    ahead : (q : Option Quote) (x y d : ℕ) →
        Improved a.quote q → a.today.qualified ≤ x → a.month.qualified ≤ y → a.month.kept_days ≤ d →
        (stayed a.key ≡ true → a ≡ varied q x y d a) →
        Ahead a (varied q x y d a)

  -- What a call makes of an account leaves it ahead.

  settled_ahead : (m : Trading) (n : ℕ) {a b : Account} → Ahead a b → Ahead (settled rule m n a) (settled rule' m n b)
  settled_ahead m n {a} (ahead q x y d hq hx hy hd eq) =
      ahead q (x + cond (qualified rule' a.terms (setting_of m (varied q x y d a))) n 0) y d
      hq (grown _ _ n a.today.qualified x (and_then (obliged (setting_of m a)) _ _ (hq a.terms)) hx) hy hd
      (λ st i. settled (agree a.key st i) m n (eq st i))

  closed_ahead : {a b : Account} → Ahead a b → Ahead (account_closed a) (account_closed b)
  closed_ahead {a} (ahead q x y d hq hx hy hd eq) =
      ahead q 0 (y + x) (d + cond (kept_day a.terms (qualifying x a.today)) 1 0)
      hq (omega arith) (omega arith) (grown _ _ 1 a.month.kept_days d (kept_again a.terms a.today x hx) hd)
      (λ st. ap account_closed (eq st))

  turned_ahead : {a b : Account} → Ahead a b → Ahead (account_turned a) (account_turned b)
  turned_ahead (ahead q x y d hq hx hy hd eq) = ahead q x 0 0 hq hx (omega arith) (omega arith) (λ st. ap account_turned (eq st))

  opened_ahead : {a b : Account} → Ahead a b → Ahead (account_opened a) (account_opened b)
  opened_ahead (ahead q x y d hq hx hy hd eq) = ahead None x y d (λ t e. e) hx hy hd (λ st. ap account_opened (eq st))

  new_ahead : (k : AccountKey) (t : Terms) → Ahead (newly_enrolled k t) (newly_enrolled k t)
  new_ahead k t = ahead None 0 0 0 (λ u e. e) (omega arith) (omega arith) (omega arith) (λ st. refl)

  -- the same change in both meters
  set_improved : (new : Option (Option Quote)) (p q : Option Quote) → Improved p q → Improved (override new p) (override new q)
  set_improved None p q h = h
  set_improved (Some None) p q h = λ t e. e
  set_improved (Some (Some r)) p q h = weaker r

  changed_ahead : (c : Change) {a b : Account} → Ahead a b → Ahead (account_changed c a) (account_changed c b)
  changed_ahead c {a} (ahead q x y d hq hx hy hd eq) =
      let new = sets_quote c a.key in
      ahead (override new q) x y d (set_improved new a.quote q hq) hx hy hd (λ st. ap (account_changed c) (eq st))

  -- p standing in the first and q in the second, of an account that did not stay
  requoted_if : (its : Bool) (p q : Option Quote) {a b : Account} → (its ≡ true → stayed a.key ≡ false) → Improved p q → Ahead a b →
      Ahead (with_settings a.exempt (override (if_so its p) a.quote) a) (with_settings b.exempt (override (if_so its q) b.quote) b)
  requoted_if true p q moved im (ahead r x y d hq hx hy hd eq) = ahead q x y d im hx hy hd (λ st. absurd (both_ways _ (moved refl) st))
  requoted_if false p q moved im h = h

  requoted_ahead : (k : AccountKey) (p q : Option Quote) {a b : Account} → stayed k ≡ false → Improved p q → Ahead a b →
      Ahead (requoted k p a) (requoted k q b)
  requoted_ahead k p q {a} moved im (ahead r x y d hq hx hy hd eq) =
      requoted_if (is k a) p q (λ e. ap stayed (sym (same_keys k a.key e)) ∙ moved) im (ahead r x y d hq hx hy hd eq)

  -- Two tables: the same accounts in the same order, each ahead in the second.

  abbrev AllAhead : List Account → List Account → Type 0
  AllAhead = Each Ahead

  map_ahead : (f g : Account → Account) → ((a b : Account) → Ahead a b → Ahead (f a) (g b)) →
      {first second : List Account} → AllAhead first second → AllAhead (map f first) (map g second)
  map_ahead f g each nil = nil
  map_ahead f g each (cons {x = a} {y = b} h hs) = cons (each a b h) (map_ahead f g each hs)

  enrolled_ahead : (k : AccountKey) (t : Result Terms Refusal) {first second : List Account} → AllAhead first second →
      AllAhead (first ++ newcomer k t) (second ++ newcomer k t)
  enrolled_ahead k (Ok t) nil = cons (new_ahead k t) nil
  enrolled_ahead k (Err e) nil = nil
  enrolled_ahead k t (cons h hs) = cons h (enrolled_ahead k t hs)

  -- a choice by whether k names the account
  by_key : {A : Type 0} (R : A → A → Type 0) (k : AccountKey) {a b : Account} {x y x' y' : A} → Ahead a b →
      (is k a ≡ true → R x y) → R x' y' → R (cond (is k a) x x') (cond (is k b) y y')
  by_key R k {a} (ahead q x y d hq hx hy hd eq) = either R (is k a)

  struck_ahead : (k : AccountKey) {first second : List Account} → AllAhead first second → AllAhead (without (is k) first) (without (is k) second)
  struck_ahead k nil = nil
  struck_ahead k (cons h hs) = by_key AllAhead k h (λ e. hs) (cons h (struck_ahead k hs))

  accounts_ahead : (c : Call) (f : Frame) {first second : List Account} → AllAhead first second →
      AllAhead (accounts_after rule f first c) (accounts_after rule' f second c)
  accounts_ahead (Enrol k t) f hs = enrolled_ahead k (terms_of t) hs
  accounts_ahead (Strike k) f hs = struck_ahead k hs
  accounts_ahead (Open d) f hs = map_ahead _ _ (λ a b h. opened_ahead h) hs
  accounts_ahead (At n c) f hs = map_ahead _ _ (λ a b h. changed_ahead c (settled_ahead f.trading (n - f.clock) h)) hs
  accounts_ahead (Close n) f hs = map_ahead _ _ (λ a b h. closed_ahead (settled_ahead f.trading (n - f.clock) h)) hs
  accounts_ahead Turn f hs = map_ahead _ _ (λ a b h. turned_ahead h) hs

  -- The account of a key: in neither table, or in both.
  data Found (k : AccountKey) : Option Account → Option Account → Type 0 where
    neither : Found k None None
    both : (a b : Account) → k ≡ a.key → Ahead a b → Found k (Some a) (Some b)

  found : (k : AccountKey) {first second : List Account} → AllAhead first second → Found k (account_of k first) (account_of k second)
  found k nil = neither
  found k (cons {x = a} {y = b} h hs) = by_key (Found k) k h (λ e. both a b (same_keys k a.key e) h) (found k hs)

  -- All that refusals read of a table is the same in both.

  length_alike : {first second : List Account} → AllAhead first second → length first ≡ length second
  length_alike nil = refl
  length_alike (cons h hs) = ap suc (length_alike hs)

  present_alike : {k : AccountKey} {x y : Option Account} → Found k x y → is_some x ≡ is_some y
  present_alike neither = refl
  present_alike (both a b e h) = refl

  unturned_alike : {k : AccountKey} {x y : Option Account} → Found k x y → unturned x ≡ unturned y
  unturned_alike neither = refl
  unturned_alike (both a b e (ahead q x y d hq hx hy hd eq)) = refl

  enrolled_alike : (k : AccountKey) {first second : List Account} → AllAhead first second → enrolled k first ≡ enrolled k second
  enrolled_alike k hs = present_alike (found k hs)

  unenrolled_alike : (k : AccountKey) {first second : List Account} → AllAhead first second → enrolment_refusal first k ≡ enrolment_refusal second k
  unenrolled_alike k hs = ap (λ there. when (not there) NotEnrolled accepted) (enrolled_alike k hs)

  change_alike : (c : Change) {first second : List Account} → AllAhead first second → change_refusal first c ≡ change_refusal second c
  change_alike (change.Phase i p) hs = refl
  change_alike (change.Fast f) hs = refl
  change_alike (change.Exempt k f) hs = unenrolled_alike k hs
  change_alike (change.Quote k s) hs = unenrolled_alike k hs
  change_alike (change.Withdraw k) hs = unenrolled_alike k hs

  table_alike : (c : Call) {first second : List Account} → AllAhead first second → table_refusal first c ≡ table_refusal second c
  table_alike (Enrol k t) hs =
      ap₂ (λ there n. when there EnrolledAlready (when (leb 128 n) TableFull accepted)) (enrolled_alike k hs) (length_alike hs)
  table_alike (Strike k) hs = unenrolled_alike k hs
  table_alike (Open d) hs = refl
  table_alike (At n c) hs = change_alike c hs
  table_alike (Close n) hs = refl
  table_alike Turn hs = refl

  month_alike : (f : Frame) (c : Call) {first second : List Account} → AllAhead first second → month_refusal f first c ≡ month_refusal f second c
  month_alike f (Enrol k t) hs = refl
  month_alike f (Strike k) hs = ap (λ days. when days DaysUnturned accepted) (unturned_alike (found k hs))
  month_alike f (Open d) hs = refl
  month_alike f (At n c) hs = refl
  month_alike f (Close n) hs = refl
  month_alike f Turn hs = refl

  -- The two meters: one frame, and the second's table ahead.
  pub data Two (s : State) : State → Type 0 where
    two : (second : List Account) → AllAhead s.accounts second → Two s (record { frame = s.frame; accounts = second })

  -- A call against the one in its place: the same, or one that leaves an improved quote to an account that did not stay.
  pub data Closer : Call → Call → Type 0 where
    same_call : (c : Call) → Closer c c
    requoted_call : (n : ℕ) (k : AccountKey) (p q : Option Quote) → stayed k ≡ false → Improved p q → Closer (At n (quoting k p)) (At n (quoting k q))

  -- They are answered alike, and leave two such meters again.

  refused_alike : (c : Call) {s s' : State} → Two s s' → refusal s c ≡ refusal s' c
  refused_alike c {s} (two second hs) =
      ap₂ (λ x y. first_of (field_refusal c) (first_of (day_refusal s.frame c) (first_of x y))) (table_alike c hs) (month_alike s.frame c hs)

  refused_two : {c d : Call} {s s' : State} → Closer c d → Two s s' → refusal s c ≡ refusal s' d
  refused_two (same_call c) t = refused_alike c t
  refused_two {s = s} {s' = s'} (requoted_call n k p q moved im) t =
      sym (quoting_refused s n k p) ∙ refused_alike (At n (change.Withdraw k)) t ∙ quoting_refused s' n k q

  taken_two : {c d : Call} {s s' : State} → Closer c d → Two s s' → Two (taken rule s c) (taken rule' s' d)
  taken_two {s = s} (same_call c) (two second hs) = two _ (accounts_ahead c s.frame hs)
  taken_two {s = s} (requoted_call n k p q moved im) (two second hs) =
      let f = s.frame in
      subst₂ Two (quoting_taken rule s n k p) (quoting_taken rule' (record { frame = f; accounts = second }) n k q)
      (two _ (map_ahead _ _ (λ a b h. requoted_ahead k p q moved im (settled_ahead f.trading (n - f.clock) h)) hs))

  answered_two : (o : Answer) {c d : Call} {s s' : State} → Closer c d → Two s s' → Two (unless_refused rule o s c) (unless_refused rule' o s' d)
  answered_two (Ok u) x t = taken_two x t
  answered_two (Err e) x t = t

  pub step_two : {c d : Call} {s s' : State} → Closer c d → Two s s' → (refusal s c ≡ refusal s' d) × Two (step rule s c) (step rule' s' d)
  step_two {c} {d} {s} {s'} x t =
      let e = refused_two x t in
      (e, subst (λ o. Two (step rule s c) (unless_refused rule' o s' d)) e (answered_two (refusal s c) x t))

  pub run_two : {cs ds : List Call} (s s' : State) → Each Closer cs ds → Two s s' →
      (answers rule s cs ≡ answers rule' s' ds) × Two (run rule s cs) (run rule' s' ds)
  run_two s s' nil t = (refl, t)
  run_two s s' (cons x xs) t =
      let now = step_two x t in
      let later = run_two _ _ xs now.1 in
      (ap₂ ◌∷◌ now.0 later.0, later.1)

  -- What the two meters show.

  keys_alike : {first second : List Account} → AllAhead first second → map (λ (a : Account). a.key) first ≡ map (λ (a : Account). a.key) second
  keys_alike nil = refl
  keys_alike (cons {x = a} (ahead q x y d hq hx hy hd eq) hs) = ap (◌∷◌ a.key) (keys_alike hs)

  costs_nothing : {a b : Account} → Ahead a b → CostsNothing (figures_of a) (figures_of b)
  costs_nothing (ahead q x y d hq hx hy hd eq) = record { obliged_today = refl; qualified_today = hx; month = (refl, refl, hy, hd) }

  told_two : {k : AccountKey} {x y : Option Account} → Found k x y → Both CostsNothing (told x) (told y)
  told_two neither = refl
  told_two (both a b e h) = costs_nothing h

  found_same : {k : AccountKey} {x y : Option Account} → stayed k ≡ true → Found k x y → x ≡ y
  found_same st neither = refl
  found_same st (both a b e (ahead q x y d hq hx hy hd eq)) = ap Some (eq (ap stayed (sym e) ∙ st))

  pub shown_keys : {s s' : State} → Two s s' → keys s ≡ keys s'
  shown_keys (two second hs) = keys_alike hs

  pub shown_figures : {s s' : State} → Two s s' → (k : AccountKey) → Both CostsNothing (figures s k) (figures s' k)
  shown_figures (two second hs) k = either (Both CostsNothing) (key_in_range k) (λ e. told_two (found k hs)) refl

  pub shown_the_same : (judge : Judgement) {s s' : State} → Two s s' → (k : AccountKey) → stayed k ≡ true → ShowsTheSame judge s s' k
  shown_the_same judge {s} (two second hs) k st =
      let e = found_same st (found k hs) in (
        ap (λ a. cond (key_in_range k) (told a) (Err FieldOutOfRange)) e,
        ap (λ a. cond (key_in_range k) (cond s.frame.day_open (Err DayOpen) (stated judge a)) (Err FieldOutOfRange)) e,
      )

  module _ (judge : Judgement) (law : (f g : MonthFigures) (threshold : ℕ) → NoWorse g f → judge f threshold ≡ Kept → judge g threshold ≡ Kept) where
    stated_two : {k : AccountKey} {x y : Option Account} → Found k x y → Both StillKept (stated judge x) (stated judge y)
    stated_two neither = refl
    stated_two (both a b e (ahead q x y d hq hx hy hd eq)) =
        let f = costs_nothing (ahead q x y d hq hx hy hd eq) in
        either (Both StillKept) (eqb a.month.obliged 0) (λ z. refl) (record { figures = f; verdict = law _ _ a.terms.threshold f.month })

    pub shown_statements : {s s' : State} → Two s s' → (k : AccountKey) → Both StillKept (statement judge s k) (statement judge s' k)
    shown_statements {s} (two second hs) k =
        either (Both StillKept) (key_in_range k) (λ e. either (Both StillKept) s.frame.day_open (λ o. refl) (stated_two (found k hs))) refl

  -- Bettered calls are such calls, if the own calls of each account that stayed are the same.
  module _ (better : Quote → Quote → Bool) (upward : (p q : Quote) (t : Terms) → better q p ≡ true → Then (rule p t) (rule' q t)) where
    quoting_closer : (n : ℕ) (k : AccountKey) (p q : Option Quote) → Improved p q → (stays : Bool) → stayed k ≡ stays →
        (stays ≡ true → At n (quoting k p) ≡ At n (quoting k q)) → Closer (At n (quoting k p)) (At n (quoting k q))
    quoting_closer n k p q im true st e = subst (Closer (At n (quoting k p))) (e refl) (same_call (At n (quoting k p)))
    quoting_closer n k p q im false st e = requoted_call n k p q st im

    call_closer : {c d : Call} → Bettered better c d → ((k : AccountKey) → stayed k ≡ true → own k c ≡ true → c ≡ d) → Closer c d
    call_closer (same c) stays = same_call c
    call_closer (tightened n k p q b) stays =
        quoting_closer n k (Some p) (Some q) (λ t. upward p q t b) (stayed k) refl (λ st. stays k st (same_itself k))
    call_closer (quoted n k q) stays =
        quoting_closer n k None (Some q) (λ t e. absurd (both_ways false refl e)) (stayed k) refl (λ st. stays k st (same_itself k))

    calls_closer : {cs ds : List Call} → Each (Bettered better) cs ds → ((k : AccountKey) → stayed k ≡ true → own_calls k cs ≡ own_calls k ds) →
        Each Closer cs ds
    calls_closer nil stays = nil
    calls_closer (cons {xs = cs} {ys = ds} x xs) stays =
        cons (call_closer x (λ k st. (own_heads k cs ds x (stays k st)).0)) (calls_closer xs (λ k st. (own_heads k cs ds x (stays k st)).1))

    pub bettered_two : {cs ds : List Call} → Each (Bettered better) cs ds → ((k : AccountKey) → stayed k ≡ true → own_calls k cs ≡ own_calls k ds) →
        (answers rule just_made cs ≡ answers rule' just_made ds) × Two (run rule just_made cs) (run rule' just_made ds)
    bettered_two x stays = run_two just_made just_made (calls_closer x stays) (two [] nil)

-- What holds of every account is shown with none that stayed; what holds of one whose own calls stayed, with that one.
pub tighter_never_costs : (rule : Rule) (better : Quote → Quote → Bool) (judge : Judgement)
    → ((p q : Quote) (t : Terms) → better q p ≡ true → rule p t ≡ true → rule q t ≡ true)
    → ((f g : MonthFigures) (threshold : ℕ) → NoWorse g f → judge f threshold ≡ Kept → judge g threshold ≡ Kept)
    → (cs ds : List Call) → Each (Bettered better) cs ds
    → NeverCosts judge cs ds (answers rule just_made cs) (answers rule just_made ds) (run rule just_made cs) (run rule just_made ds)
tighter_never_costs rule better judge upward law cs ds x =
    let all = bettered_two rule rule (λ q t e. e) (λ k. false) (λ k e. refl) better upward x (λ k e. absurd (both_ways false refl e)) in
    record {
      answers = all.0;
      accounts = shown_keys _ _ _ _ _ all.1;
      figures_told = shown_figures _ _ _ _ _ all.1;
      statements = shown_statements _ _ _ _ _ judge law all.1;
      own_calls_stayed = λ k e.
          let one = bettered_two rule rule (λ q t f. f) (same_key k) (λ l f. refl) better upward x (λ l f. rw (← same_keys k l f) e) in
          shown_the_same _ _ _ _ _ judge one.1 k (same_itself k);
    }
