-- Lists of calls brought into another order, exchange by exchange.
use Rattle.std.proofs.Common.{◌≡◌, ℕ, suc, ◌+◌, ◌-◌, ◌<◌, List, [], ◌∷◌, ◌++◌, length, get_or, take, drop, map, All, sym, refl, ap, ◌∙◌, subst, arith}
use Rattle.std.proofs.lemmas.List.{drop_more, drop-take, take-take, take-append-drop, length-drop, length-take-le, get_or-drop}
use Rattle.calls.specs.declared.call.Call.{Call}
use Rattle.laws.specs.Exchange.{Exchangeable, exchange, exchange_all, here, later, MayAll, none, first}
use Rattle.relation.specs.Related.{Rearranged}

module _ {A : Type 0} (R : A → A → Type 0) where
  -- First at the places ns, then at the places ms.
  may_all_more : (ns ms : List ℕ) (xs : List A) → MayAll R ns xs → MayAll R ms (exchange_all ns xs) → MayAll R (ns ++ ms) xs
  may_all_more ns ms xs (none ys) more = more
  may_all_more ns ms xs (first n rest ys may all) more = first n (rest ++ ms) ys may (may_all_more rest ms (exchange n ys) all more)

  -- Behind one more element.
  may_all_behind : (x : A) (ns : List ℕ) (xs : List A) → MayAll R ns xs → MayAll R (map suc ns) (x ∷ xs)
  may_all_behind x ns xs (none ys) = none (x ∷ xs)
  may_all_behind x ns xs (first n rest ys may all) = first (suc n) (map suc rest) (x ∷ ys) (later n x ys may) (may_all_behind x rest (exchange n ys) all)

exchange_all_more : {A : Type 0} (ns ms : List ℕ) (xs : List A) → exchange_all (ns ++ ms) xs ≡ exchange_all ms (exchange_all ns xs)
exchange_all_more [] ms xs = refl
exchange_all_more (n ∷ ns) ms xs = exchange_all_more ns ms (exchange n xs)

exchange_all_behind : {A : Type 0} (x : A) (ns : List ℕ) (xs : List A) → x ∷ exchange_all ns xs ≡ exchange_all (map suc ns) (x ∷ xs)
exchange_all_behind x [] xs = refl
exchange_all_behind x (n ∷ ns) xs = exchange_all_behind x ns (exchange n xs)

pub unmoved : (cs : List Call) → Rearranged cs cs
unmoved cs = ([], none cs, refl)

pub further : (cs ds es : List Call) → Rearranged cs ds → Rearranged ds es → Rearranged cs es
further cs ds es (ns, may, e) (ms, more, f) =
    (ns ++ ms, may_all_more Exchangeable ns ms cs may (subst (MayAll Exchangeable ms) e more), f ∙ ap (exchange_all ms) e ∙ sym (exchange_all_more ns ms cs))

behind : (bs cs ds : List Call) → Rearranged cs ds → Rearranged (bs ++ cs) (bs ++ ds)
behind [] cs ds moved = moved
behind (b ∷ bs) cs ds moved =
    let (ns, may, e) = behind bs cs ds moved in
    (map suc ns, may_all_behind Exchangeable b ns (bs ++ cs) may, ap (◌∷◌ b) e ∙ exchange_all_behind b ns (bs ++ cs))

in_part : (to : ℕ) (cs ds : List Call) → Rearranged (drop to cs) ds → Rearranged cs (take to cs ++ ds)
in_part to cs ds moved =
    subst (λ (es : List Call). Rearranged es (take to cs ++ ds)) (take-append-drop to cs) (behind (take to cs) (drop to cs) ds moved)

-- A call may pass those before it, one after the other.
passed : (x : Call) (bs cs : List Call) → All (λ b. Exchangeable b x) bs → Rearranged (bs ++ x ∷ cs) (x ∷ (bs ++ cs))
passed x [] cs may = unmoved (x ∷ cs)
passed x (b ∷ bs) cs may =
    let past = passed x bs cs (λ k d lt. may (suc k) d (omega arith)) in
    let last : Rearranged (b ∷ (x ∷ (bs ++ cs))) (x ∷ (b ∷ (bs ++ cs))) =
    (0 ∷ [], first 0 [] _ (here b x (bs ++ cs) (may 0 b (omega arith))) (none _), refl) in
    further _ _ _ (behind (b ∷ []) _ _ past) last

-- The call at place n comes to the front.
brought : (n : ℕ) (cs : List Call) (d : Call) → n < length cs → All (λ b. Exchangeable b (get_or cs n d)) (take n cs) →
    Rearranged cs ((drop n (take (n + 1) cs) ++ take n (take (n + 1) cs)) ++ drop (n + 1) cs)
brought n cs d lt may =
    let x = get_or cs n d in
    let was : take n cs ++ x ∷ drop (n + 1) cs ≡ cs = ap (λ rest. take n cs ++ rest) (sym (drop_more cs n d lt)) ∙ take-append-drop n cs in
    rw (drop-take n 1 cs, take-take n (n + 1) cs (omega arith), drop_more cs n d lt)
    (subst (λ (ds : List Call). Rearranged ds (x ∷ (take n cs ++ drop (n + 1) cs))) was (passed x (take n cs) (drop (n + 1) cs) may))

-- What a rotation by one leaves of a part of k calls, which begins at `to`.
pub rotated : (to n from k : ℕ) (cs part : List Call) (d : Call) → from ≡ to + n → k ≡ n + 1 → from < length cs →
    All (λ b. Exchangeable b (get_or cs from d)) (take n (drop to cs)) →
    part ≡ drop (length (take k (drop to cs)) - 1) (take k (drop to cs)) ++ take (length (take k (drop to cs)) - 1) (take k (drop to cs)) →
    Rearranged cs (take to cs ++ (part ++ drop k (drop to cs)))
rotated to n from k cs part d place size lt may e =
    let more : n < length (drop to cs) = omega (arith, length-drop to cs) in
    let long : length (take k (drop to cs)) - 1 ≡ n = omega (arith, length-take-le k (drop to cs) (omega arith)) in
    let same : get_or cs from d ≡ get_or (drop to cs) n d = ap (λ i. get_or cs i d) place ∙ sym (get_or-drop to cs n d) in
    let past = brought n (drop to cs) d more (subst (λ (x : Call). All (λ b. Exchangeable b x) (take n (drop to cs))) same may) in
    rw (e, long, size) (in_part to cs _ past)
