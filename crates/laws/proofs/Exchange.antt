-- Why calls of one stamp that set different things may change places.
use Rattle.std.proofs.Common.{◌≡◌, ℕ, ◌+◌, ◌-◌, Bool, true, false, cond, eqb, ◌≢◌, ◌⊎◌, List, [], ◌∷◌, map, None, Ok, Err, Option, sym, refl, ap, ◌∙◌, ap₂, inl, inr, arith}
use Rattle.std.proofs.lemmas.Bool.{eqb-true, le-ltb}
use Rattle.accounts.specs.declared.account.Account.{Account}
use Rattle.calls.specs.declared.account_key.AccountKey.{AccountKey}
use Rattle.calls.specs.declared.call.Call.{Call}
use Rattle.calls.specs.declared.call.Call.TheVariants.{At}
use Rattle.calls.specs.declared.change.Change.{Change}
use Rattle.calls.specs.declared.change.Change.TheVariants as change
use Rattle.calls.specs.Answers.{Answer}
use Rattle.calls.specs.Keys.{same_key}
use Rattle.accounts.specs.Settings.{Trading, if_so, override, obliged, sets_phase, sets_fast, sets_exempt, sets_quote, trading_changed}
use Rattle.accounts.specs.Counting.{Rule, qualified}
use Rattle.accounts.specs.Accounts.{with_settings, with_figures, setting_of, settled, account_changed, touched}
use Rattle.accounts.specs.States.{State}
use Rattle.accounts.specs.Refusals.{enrolled, change_refusal, refusal}
use Rattle.accounts.specs.Steps.{frame_stamped, unless_refused, step, run, answers, just_made, Judgement, figures, statement}
use Rattle.accounts.proofs.Accepted.{unopposed, in_day}
use Rattle.laws.specs.Exchange.{Thing, instrument_phase, market_flag, account_exemption, account_quote, thing, Exchangeable, at_once}
use Rattle.laws.specs.Exchange.{exchange, exchange_all, May, here, later, MayAll, none, first, KeepsAll}
use Rattle.laws.proofs.Keys.{same_keys}

-- What a change sets.

-- Something is set for the thing x only where x is the change's own thing.
abbrev Sets : {A : Type 0} → Option A → Thing → Thing → Type 0
Sets o own x = (o ≡ None) ⊎ (own ≡ x)

sets_if : {A : Type 0} (b : Bool) (o : Option A) (own x : Thing) → (b ≡ false → o ≡ None) → (b ≡ true → own ≡ x) → Sets o own x
sets_if true o own x f g = inr (g refl)
sets_if false o own x f g = inl (f refl)

sets_of : {A : Type 0} (k l : AccountKey) (v : A) (x : AccountKey → Thing) → Sets (if_so (same_key k l) v) (x k) (x l)
sets_of k l v x = sets_if (same_key k l) _ _ _ (λ e. rw e) (λ e. ap x (same_keys k l e))

phase_thing : (c : Change) (j : ℕ) → Sets (sets_phase c j) (thing c) (instrument_phase j)
phase_thing (change.Phase i p) j = sets_if (eqb i j) _ _ _ (λ e. rw e) (λ e. ap instrument_phase (eqb-true i j e))
phase_thing (change.Fast f) j = inl refl
phase_thing (change.Exempt k f) j = inl refl
phase_thing (change.Quote k s) j = inl refl
phase_thing (change.Withdraw k) j = inl refl

fast_thing : (c : Change) → Sets (sets_fast c) (thing c) market_flag
fast_thing (change.Phase i p) = inl refl
fast_thing (change.Fast f) = inr refl
fast_thing (change.Exempt k f) = inl refl
fast_thing (change.Quote k s) = inl refl
fast_thing (change.Withdraw k) = inl refl

exempt_thing : (c : Change) (l : AccountKey) → Sets (sets_exempt c l) (thing c) (account_exemption l)
exempt_thing (change.Phase i p) l = inl refl
exempt_thing (change.Fast f) l = inl refl
exempt_thing (change.Exempt k f) l = sets_of k l _ account_exemption
exempt_thing (change.Quote k s) l = inl refl
exempt_thing (change.Withdraw k) l = inl refl

quote_thing : (c : Change) (l : AccountKey) → Sets (sets_quote c l) (thing c) (account_quote l)
quote_thing (change.Phase i p) l = inl refl
quote_thing (change.Fast f) l = inl refl
quote_thing (change.Exempt k f) l = inl refl
quote_thing (change.Quote k s) l = sets_of k l _ account_quote
quote_thing (change.Withdraw k) l = sets_of k l _ account_quote

-- Two changes of different things leave the same in either order.
module _ (c d : Change) (apart : thing c ≢ thing d) where
  override_comm : {A : Type 0} (o p : Option A) (v : A) (x : Thing) → Sets o (thing c) x → Sets p (thing d) x →
      override p (override o v) ≡ override o (override p v)
  override_comm o p v x (inl e) q = rw e
  override_comm o p v x (inr e) (inl f) = rw f
  override_comm o p v x (inr e) (inr f) = absurd (apart (e ∙ sym f))

  trading_comm : (m : Trading) → trading_changed d (trading_changed c m) ≡ trading_changed c (trading_changed d m)
  trading_comm m = λ i. record {
    phase = λ j. override_comm (sets_phase c j) (sets_phase d j) (m.phase j) (instrument_phase j) (phase_thing c j) (phase_thing d j) i;
    fast = override_comm (sets_fast c) (sets_fast d) m.fast market_flag (fast_thing c) (fast_thing d) i;
  }

  account_comm : (a : Account) → account_changed d (account_changed c a) ≡ account_changed c (account_changed d a)
  account_comm a =
      let k = a.key in
      let e = override_comm (sets_exempt c k) (sets_exempt d k) a.exempt (account_exemption k) (exempt_thing c k) (exempt_thing d k) in
      let q = override_comm (sets_quote c k) (sets_quote d k) a.quote (account_quote k) (quote_thing c k) (quote_thing d k) in
      λ i. with_settings (e i) (q i) a

-- Two calls of one stamp.

none_more : (n x : ℕ) (b : Bool) → x + cond b (n - n) 0 ≡ x
none_more n x b = grind arith

module _ (rule : Rule) where
  -- No time passes between them.
  settled_again : (m : Trading) (n : ℕ) (a : Account) → settled rule m (n - n) a ≡ a
  settled_again m n a =
      let s = setting_of m a in
      λ i. with_figures (record {
        obliged = none_more n a.today.obliged (obliged s) i;
        qualified = none_more n a.today.qualified (qualified rule a.terms s) i;
      }) a.month a

  -- The accounts under m, span milliseconds after the clock.
  module _ (m : Trading) (span : ℕ) where
    touched_twice : (n : ℕ) (c d : Change) (a : Account) →
        touched rule (trading_changed c m) (n - n) d (touched rule m span c a) ≡ account_changed d (account_changed c (settled rule m span a))
    touched_twice n c d a = ap (account_changed d) (settled_again (trading_changed c m) n (touched rule m span c a))

    touched_comm : (n : ℕ) (c d : Change) → thing c ≢ thing d → (accounts : List Account) →
        map (touched rule (trading_changed c m) (n - n) d) (map (touched rule m span c) accounts)
        ≡ map (touched rule (trading_changed d m) (n - n) c) (map (touched rule m span d) accounts)
    touched_comm n c d apart [] = refl
    touched_comm n c d apart (a ∷ rest) =
        ap₂ ◌∷◌ (touched_twice n c d a ∙ account_comm c d apart (settled rule m span a) ∙ sym (touched_twice n d c a)) (touched_comm n c d apart rest)

    enrolled_touched : (c : Change) (k : AccountKey) (accounts : List Account) → enrolled k (map (touched rule m span c) accounts) ≡ enrolled k accounts
    enrolled_touched c k [] = refl
    enrolled_touched c k (a ∷ rest) = let ih = enrolled_touched c k rest in grind arith

    refused_alike : (c d : Change) (accounts : List Account) → change_refusal (map (touched rule m span c) accounts) d ≡ change_refusal accounts d
    refused_alike c (change.Phase i p) accounts = refl
    refused_alike c (change.Fast f) accounts = refl
    refused_alike c (change.Exempt k f) accounts = rw (enrolled_touched c k accounts)
    refused_alike c (change.Quote k s) accounts = rw (enrolled_touched c k accounts)
    refused_alike c (change.Withdraw k) accounts = rw (enrolled_touched c k accounts)

  module _ (s : State) (n : ℕ) where
    -- A call's answer is the same behind another of its stamp.
    unmoved : (x : Answer) (c d : Change) → refusal s (At n c) ≡ x → refusal (unless_refused rule x s (At n c)) (At n d) ≡ refusal s (At n d)
    unmoved (Ok u) c d e =
        let f = s.frame in
        let le = (in_day f n (unopposed s (At n c) e).day).1 in
        rw (refused_alike f.trading (n - f.clock) c d s.accounts, le-ltb n n (omega arith), le-ltb n f.clock le)
    unmoved (Err x) c d e = refl

    either_order : (x y : Answer) (c d : Change) → thing c ≢ thing d →
        unless_refused rule y (unless_refused rule x s (At n c)) (At n d) ≡ unless_refused rule x (unless_refused rule y s (At n d)) (At n c)
    either_order (Ok u) (Ok v) c d apart =
        let f = s.frame in
        λ i. record {
          frame = frame_stamped (trading_comm c d apart f.trading i) n f;
          accounts = touched_comm f.trading (n - f.clock) n c d apart s.accounts i;
        }
    either_order (Ok u) (Err y) c d apart = refl
    either_order (Err x) (Ok v) c d apart = refl
    either_order (Err x) (Err y) c d apart = refl

    steps_swap : (c d : Change) → thing c ≢ thing d → step rule (step rule s (At n c)) (At n d) ≡ step rule (step rule s (At n d)) (At n c)
    steps_swap c d apart =
        let x = refusal s (At n c) in
        let y = refusal s (At n d) in
        rw (unmoved x c d refl, unmoved y d c refl) (either_order x y c d apart)

-- Exchanges in what is given to any machine: X are its states, A is what it is given, B are its answers.
module _ {X A B : Type 0} (answer : X → A → B) (next : X → A → X) where
  abbrev goes : X → List A → X
  goes x [] = x
  goes x (c ∷ cs) = goes (next x c) cs

  abbrev says : X → List A → List B
  says x [] = []
  says x (c ∷ cs) = answer x c ∷ says (next x c) cs

  -- In either order the two leave the same, and each has the same answer.
  record Swaps (x : X) (c d : A) : Type 0 where
    left : next (next x c) d ≡ next (next x d) c
    first_answer : answer (next x d) c ≡ answer x c
    second_answer : answer (next x c) d ≡ answer x d

  -- Whatever was exchanged, each keeps its answer, and the same is left.
  record Kept (x : X) (cs ds : List A) (back : List B → List B) : Type 0 where
    answers : says x ds ≡ back (says x cs)
    left : goes x cs ≡ goes x ds

  module _ (R : A → A → Type 0) (swaps : (x : X) (c d : A) → R c d → Swaps x c d) where
    one_kept : (x : X) (n : ℕ) (cs : List A) → May R n cs → Kept x cs (exchange n cs) (exchange n)
    one_kept x n cs (here c d rest r) =
        let h = swaps x c d r in
        record {
          answers = λ i. sym h.second_answer i ∷ (h.first_answer i ∷ says (sym h.left i) rest);
          left = ap (λ y. goes y rest) h.left;
        }
    one_kept x n cs (later m c rest may) =
        let h = one_kept (next x c) m rest may in
        record { answers = ap (◌∷◌ (answer x c)) h.answers; left = h.left }

    all_kept : (x : X) (ns : List ℕ) (cs : List A) → MayAll R ns cs → Kept x cs (exchange_all ns cs) (exchange_all ns)
    all_kept x ns cs (none xs) = record { answers = refl; left = refl }
    all_kept x ns cs (first m ms xs may rest) =
        let h = one_kept x m xs may in
        let t = all_kept x ms (exchange m xs) rest in
        record { answers = t.answers ∙ ap (exchange_all ms) h.answers; left = h.left ∙ t.left }

-- A meter is such a machine: its calls are answered by refusal, and step is what each leaves.
calls_swap : (rule : Rule) (s : State) (c d : Call) → Exchangeable c d → Swaps refusal (step rule) s c d
calls_swap rule s c d (at_once n x y apart) = record {
  left = steps_swap rule s n x y apart;
  first_answer = unmoved rule s n (refusal s (At n y)) y x refl;
  second_answer = unmoved rule s n (refusal s (At n x)) x y refl;
}

pub order_never_matters : (rule : Rule) (judge : Judgement) (ns : List ℕ) (cs : List Call) → MayAll Exchangeable ns cs →
    KeepsAll judge ns
    (answers rule just_made cs) (answers rule just_made (exchange_all ns cs)) (run rule just_made cs) (run rule just_made (exchange_all ns cs))
order_never_matters rule judge ns cs may =
    let h = all_kept refusal (step rule) Exchangeable (calls_swap rule) just_made ns cs may in
    record {
      answers = h.answers;
      shown = λ k. (ap (λ s. figures s k) h.left, ap (λ s. statement judge s k) h.left);
      left = h.left;
    }
