-- Why every figure is a count over milliseconds.
use Rattle.std.proofs.Common.{◌≡◌, ℕ, zero, suc, ◌+◌, ◌-◌, ◌<◌, ◌≤◌, Bool, true, false, cond, ◌⊎◌, List, [], ◌∷◌, ◌++◌, map, filter, is_some, Some, None, Ok, Err, Option, Result, sym, refl, ap, ◌∙◌, ap₂, inl, inr, add-one, arith}
use Rattle.std.proofs.lemmas.Bool.{both_ways, false≢true, le-leb, lt-leb, cases_lt}
use Rattle.std.proofs.lemmas.Bool.Decides.{nat_tests}
use Rattle.std.proofs.lemmas.List.{append-nil}
use Rattle.std.proofs.lemmas.List.Elements.{filter-append}
use Rattle.std.specs.Result.{result_ok}
use Rattle.rules.specs.declared.refusal.Refusal.{Refusal}
use Rattle.rules.specs.declared.terms.Terms.{Terms}
use Rattle.rules.specs.Terms.{terms_of}
use Rattle.accounts.specs.declared.account.Account.{Account}
use Rattle.calls.specs.declared.account_key.AccountKey.{AccountKey}
use Rattle.calls.specs.declared.call.Call.{Call}
use Rattle.calls.specs.declared.call.Call.TheVariants.{Enrol, Strike, Open, At, Close, Turn}
use Rattle.calls.specs.declared.change.Change.{Change}
use Rattle.calls.specs.declared.date.Date.{Date}
use Rattle.calls.specs.Answers.{Answer}
use Rattle.calls.specs.Keys.{same_key}
use Rattle.accounts.specs.Lists.{find, without}
use Rattle.accounts.specs.Settings.{Setting, changed}
use Rattle.accounts.specs.Counting.{Rule, count, tally, spent, month_with}
use Rattle.accounts.specs.Accounts.{is, setting_of, settled, account_opened, account_turned, touched, ended, newly_enrolled, newcomer, figures_of}
use Rattle.accounts.specs.States.{Frame, State}
use Rattle.accounts.specs.Refusals.{enrolled, refusal}
use Rattle.accounts.specs.Steps.{frame_after, taken, unless_refused, run, answers, just_made, told, Judgement, stated}
use Rattle.laws.specs.Milliseconds.{accepted_onto, accepted_calls, day_open, Stamped, changes, terms_now, Day, closed_days}
use Rattle.laws.specs.Milliseconds.{setting_at, last_stamp, time_below, today as today_counted, month as month_counted}
use Rattle.laws.specs.Milliseconds.{figures_counted, counted_for, judged, judged_for, MillisecondsTell}
use Rattle.accounts.proofs.Accepted.{Unopposed, unopposed, in_day, shut, free}
use Rattle.laws.proofs.Keys.{same_keys}

-- Counts.

count_alike : (p q : ℕ → Bool) (n : ℕ) → ((t : ℕ) → t < n → p t ≡ q t) → count p n ≡ count q n
count_alike p q zero h = refl
count_alike p q (suc n) h = ap₂ (λ x b. x + cond b 1 0) (count_alike p q n (λ t lt. h t (omega arith))) (h n (omega arith))

-- A test that is constant from m on counts n - m more, or nothing more.
count_more : (p : ℕ → Bool) (b : Bool) (m n : ℕ) → m ≤ n → ((t : ℕ) → m ≤ t → p t ≡ b) → count p n ≡ count p m + cond b (n - m) 0
count_more p b m zero le h = let z : m ≡ 0 = omega arith in rw z (grind arith)
count_more p b m (suc n) le h = go (λ le'. count_more p b m n le' h) (cases_lt n m)
  where
    go : (m ≤ n → count p n ≡ count p m + cond b (n - m) 0) → (n < m) ⊎ (m ≤ n) → count p (suc n) ≡ count p m + cond b (suc n - m) 0
    go ih (inl lt) = let z : m ≡ suc n = omega arith in rw z (grind arith)
    go ih (inr le') = let e = ih le' in let f = h n le' in grind arith

-- A change does not reach back.
before : (test : Setting → Bool) (x : Stamped) (xs : List Stamped) (k : AccountKey) →
    count (λ t. test (setting_at xs k t)) x.stamp ≡ count (λ t. test (setting_at (x ∷ xs) k t)) x.stamp
before test x xs k = count_alike _ _ x.stamp (λ t lt. rw (lt-leb x.stamp t lt))

-- The elements of a list that pass a test, as the accounts that a key names: find answers the first of them, an enrolment adds
-- the newcomer if it passes, and a strike drops the first.

abbrev front : {A : Type 0} → List A → Option A
front [] = None
front (x ∷ xs) = Some x

abbrev behind : {A : Type 0} → List A → List A
behind [] = []
behind (x ∷ xs) = xs

module _ {A : Type 0} (p : A → Bool) where
  find_filter : (xs : List A) → find p xs ≡ front (filter p xs)
  find_filter [] = refl
  find_filter (x ∷ xs) = let ih = find_filter xs in grind arith

  filter_mapped : (g : A → A) → ((x : A) → p (g x) ≡ p x) → (xs : List A) → filter p (map g xs) ≡ map g (filter p xs)
  filter_mapped g e [] = refl
  filter_mapped g e (x ∷ xs) = let ih = filter_mapped g e xs in let h = e x in grind arith

  filter_old : (xs ys : List A) → filter p ys ≡ [] → filter p (xs ++ ys) ≡ filter p xs
  filter_old xs ys e = rw (filter-append p xs ys, e) (append-nil (filter p xs))

  filter_new : (xs ys : List A) → is_some (find p xs) ≡ false → filter p (xs ++ ys) ≡ filter p ys
  filter_new [] ys e = refl
  filter_new (x ∷ xs) ys e = let ih = filter_new xs ys in grind arith

  filter_behind : (xs : List A) → filter p (without p xs) ≡ behind (filter p xs)
  filter_behind [] = refl
  filter_behind (x ∷ xs) = let ih = filter_behind xs in grind arith

  filter_without : (q : A → Bool) → ((x : A) → q x ≡ true → p x ≡ false) → (xs : List A) → filter p (without q xs) ≡ filter p xs
  filter_without q apart [] = refl
  filter_without q apart (x ∷ xs) = let ih = filter_without q apart xs in let h = apart x in grind arith

-- What the accepted calls tell of the account that k names.
module _ (rule : Rule) (k : AccountKey) where
  module _ (f : Frame) (t : Option Terms) (xs : List Stamped) (ds : List Day) where
    -- An account has the terms t, and its figures are counted from the changes xs since the last opening and the closed days ds.
    -- While a day is open, its setting from the clock on is the one that the changes have set.
    record Counted (a : Account) : Type 0 where
      key : a.key ≡ k
      terms : t ≡ Some a.terms
      today : a.today ≡ today_counted rule k a.terms f.day_open xs
      month : a.month ≡ month_counted rule k a.terms ds
      clock : f.day_open ≡ true → f.clock ≡ last_stamp xs
      setting : f.day_open ≡ true → (n : ℕ) → f.clock ≤ n → setting_at xs k n ≡ setting_of f.trading a

    -- k names one account, or none.
    data Named : List Account → Type 0 where
      no_account : t ≡ None → Named []
      one_account : (a : Account) → Counted a → Named (a ∷ [])

  record Tells (s : State) (past : List Call) : Type 0 where
    day : s.frame.day_open ≡ day_open past
    named : Named s.frame (terms_now k past) (changes past) (closed_days k past) (filter (is k) s.accounts)

  -- The calls that map every account.
  module _ {f : Frame} {t : Option Terms} {xs : List Stamped} {ds : List Day} (a : Account) (h : Counted f t xs ds a) where
    module _ (n : ℕ) (within : (f.day_open ≡ true) × (f.clock ≤ n)) where
      counts_on : (test : Setting → Bool) →
          count (λ m. test (setting_at xs k m)) n ≡ count (λ m. test (setting_at xs k m)) f.clock + cond (test (setting_of f.trading a)) (n - f.clock) 0
      counts_on test = count_more _ _ f.clock n within.1 (λ m le. ap test (h.setting within.0 m le))

      -- Settling counts the milliseconds up to n.
      settled_time : (settled rule f.trading (n - f.clock) a).today ≡ time_below rule k a.terms n xs
      settled_time =
          let now : a.today ≡ time_below rule k a.terms f.clock xs = rw (h.clock within.0) (rw within.0 at h.today) in
          ap (spent rule (n - f.clock) a.terms (setting_of f.trading a)) now ∙ (λ i. tally rule (λ test. sym (counts_on test) i) a.terms)

      counted_at : (c : Change) → Counted (frame_after f (At n c)) t (record { stamp = n; change = c } ∷ xs) ds (touched rule f.trading (n - f.clock) c a)
      counted_at c = record {
        key = h.key;
        terms = h.terms;
        today = rw within.0 (settled_time ∙ (λ i. tally rule (λ test. before test (record { stamp = n; change = c }) xs k i) a.terms));
        month = h.month;
        clock = λ _. refl;
        setting = λ _ m le. rw (le-leb n m le) (ap₂ (changed c) (sym h.key) (h.setting within.0 m (omega arith)));
      }

      counted_close : Counted (frame_after f (Close n)) t xs (record { changes = xs; end = n } ∷ ds) (ended rule f.trading (n - f.clock) a)
      counted_close = record {
        key = h.key;
        terms = h.terms;
        today = refl;
        month = ap₂ (month_with a.terms) settled_time h.month ∙ rw add-one;
        clock = λ e. absurd (false≢true e);
        setting = λ e. absurd (false≢true e);
      }

    counted_open : (d : Date) → f.day_open ≡ false → Counted (frame_after f (Open d)) t [] ds (account_opened a)
    counted_open d none_open = record {
      key = h.key;
      terms = h.terms;
      today = rw none_open at h.today;
      month = h.month;
      clock = λ _. refl;
      setting = λ _ n le. refl;
    }

    counted_turn : Counted (frame_after f Turn) t xs [] (account_turned a)
    counted_turn = record { key = h.key; terms = h.terms; today = h.today; month = refl; clock = h.clock; setting = h.setting }

  module _ {f f' : Frame} {t : Option Terms} {xs xs' : List Stamped} {ds ds' : List Day} (g : Account → Account)
      (h : (a : Account) → Counted f t xs ds a → Counted f' t xs' ds' (g a)) where
    named_each : {accounts : List Account} → Named f t xs ds accounts → Named f' t xs' ds' (map g accounts)
    named_each (no_account e) = no_account e
    named_each (one_account a x) = one_account (g a) (h a x)

    named_map : ((a : Account) → is k (g a) ≡ is k a) → (accounts : List Account) →
        Named f t xs ds (filter (is k) accounts) → Named f' t xs' ds' (filter (is k) (map g accounts))
    named_map same accounts x = rw (filter_mapped (is k) g same accounts) (named_each x)

  -- The calls that add or remove one account: this one, or another.
  named_new : (f : Frame) (xs : List Stamped) (r : Result Terms Refusal) → same_key k k ≡ true → f.day_open ≡ false →
      Named f (result_ok r) xs [] (filter (is k) (newcomer k r))
  named_new f xs (Ok t) own none_open = rw own (one_account (newly_enrolled k t) (record {
    key = refl;
    terms = refl;
    today = rw none_open;
    month = refl;
    clock = λ e. absurd (both_ways f.day_open none_open e);
    setting = λ e. absurd (both_ways f.day_open none_open e);
  }))
  named_new f xs (Err e) own none_open = no_account refl

  other_new : (l : AccountKey) (r : Result Terms Refusal) → same_key l k ≡ false → filter (is k) (newcomer l r) ≡ []
  other_new l (Ok t) other = let e : same_key k l ≡ false = grind (arith, nat_tests) in rw e
  other_new l (Err e) other = refl

  module _ {f : Frame} {t : Option Terms} {xs : List Stamped} {ds : List Day} where
    named_behind : {accounts : List Account} → Named f t xs ds accounts → Named f None xs ds (behind accounts)
    named_behind (no_account e) = no_account refl
    named_behind (one_account a h) = no_account refl

    module _ (accounts : List Account) (h : Named f t xs ds (filter (is k) accounts)) (l : AccountKey) where
      named_enrolled : (b : Bool) (r : Result Terms Refusal) → same_key l k ≡ b → f.day_open ≡ false → enrolled l accounts ≡ false →
          Named f (cond b (result_ok r) t) xs (cond b [] ds) (filter (is k) (accounts ++ newcomer l r))
      named_enrolled true r own none_open free =
          let e = same_keys l k own in
          rw (e, filter_new (is k) accounts (newcomer k r) (rw e at free)) (named_new f xs r (rw e at own) none_open)
      named_enrolled false r other none_open free = rw (filter_old (is k) accounts (newcomer l r) (other_new l r other)) h

      named_struck : (b : Bool) → same_key l k ≡ b → Named f (cond b None t) xs ds (filter (is k) (without (is l) accounts))
      named_struck true own = rw (same_keys l k own, filter_behind (is k) accounts) (named_behind h)
      named_struck false other = rw (filter_without (is k) (is l) (λ a e. grind (arith, nat_tests)) accounts) h

  -- With every accepted call the past has one call more.
  taken_tells : (s : State) (past : List Call) (c : Call) → Unopposed s c → Tells s past → Tells (taken rule s c) (c ∷ past)
  taken_tells s past (Enrol l c) e h = record {
    day = h.day;
    named = named_enrolled s.accounts h.named l (same_key l k) (terms_of c) refl (shut s.frame e.day) (free s.accounts l e.table);
  }
  taken_tells s past (Strike l) e h = record {
    day = h.day;
    named = named_struck s.accounts h.named l (same_key l k) refl;
  }
  taken_tells s past (Open d) e h = record {
    day = refl;
    named = named_map account_opened (λ a x. counted_open a x d (shut s.frame e.day)) (λ a. refl) s.accounts h.named;
  }
  taken_tells s past (At n c) e h =
      let within = in_day s.frame n e.day in
      let touch = touched rule s.frame.trading (n - s.frame.clock) c in
      record {
        day = h.day;
        named = named_map touch (λ a x. counted_at a x n within c) (λ a. refl) s.accounts h.named;
      }
  taken_tells s past (Close n) e h =
      let within = in_day s.frame n e.day in
      let end = ended rule s.frame.trading (n - s.frame.clock) in
      record {
        day = refl;
        named = named_map end (λ a x. counted_close a x n within) (λ a. refl) s.accounts h.named;
      }
  taken_tells s past Turn e h = record {
    day = h.day;
    named = named_map account_turned (λ a x. counted_turn a x) (λ a. refl) s.accounts h.named;
  }

  -- A run, whose refused calls leave the state and the past as they stood.
  abbrev ToldBy : List Call → Type 0
  ToldBy cs = (s : State) (past : List Call) → Tells s past → Tells (run rule s cs) (accepted_onto past cs (answers rule s cs))

  one_more : (x : Answer) (s : State) (past : List Call) (c : Call) (cs : List Call) → refusal s c ≡ x → Tells s past → ToldBy cs →
      Tells (run rule (unless_refused rule x s c) cs) (accepted_onto past (c ∷ cs) (x ∷ answers rule (unless_refused rule x s c) cs))
  one_more (Ok u) s past c cs e h rest = rest (taken rule s c) (c ∷ past) (taken_tells s past c (unopposed s c e) h)
  one_more (Err x) s past c cs e h rest = rest s past h

  runs_tell : (cs : List Call) → ToldBy cs
  runs_tell [] s past h = h
  runs_tell (c ∷ cs) s past h = one_more (refusal s c) s past c cs refl h (runs_tell cs)

  -- What figures and statement answer.
  module _ (judge : Judgement) (f : Frame) (past : List Call) (day : f.day_open ≡ day_open past) where
    answers_told : {accounts : List Account} → Named f (terms_now k past) (changes past) (closed_days k past) accounts →
        (told (front accounts) ≡ counted_for rule k past (terms_now k past)) × (stated judge (front accounts) ≡ judged_for rule k past judge (terms_now k past))
    answers_told (no_account e) = (rw e, rw e)
    answers_told (one_account a h) =
        let e : figures_of a ≡ figures_counted rule k a.terms past = λ i. record { today = (rw day at h.today) i; month = h.month i } in
        (rw h.terms (ap Ok e), rw h.terms (ap (judged judge a.terms) e))

pub milliseconds_tell : (rule : Rule) (judge : Judgement) (cs : List Call) →
    MillisecondsTell rule judge cs (answers rule just_made cs) (run rule just_made cs)
milliseconds_tell rule judge cs k =
    let s = run rule just_made cs in
    let past = accepted_calls cs (answers rule just_made cs) in
    let h = runs_tell rule k cs just_made [] (record { day = refl; named = no_account refl }) in
    let found = find_filter (is k) s.accounts in
    let answered = answers_told rule k judge s.frame past h.day h.named in
    (rw (found, answered.0), rw (found, h.day, answered.1))
