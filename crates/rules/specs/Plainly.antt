-- Each rule's tests say what its plain statements say.
use Rattle.std.specs.Prelude.{ℕ, ◌≤◌, Bool, ◌&&◌, Decides, nat_le}
use Rattle.std.proofs.lemmas.Bool.{leb-true, le-leb}
use Rattle.std.proofs.lemmas.Bool.Decides.{Decides-and}
use Rattle.rules.specs.declared.quote.Quote.{Quote}
use Rattle.rules.specs.declared.terms.Terms.{Terms}
use Rattle.rules.specs.declared.tier.Tier.{Tier}
use Rattle.rules.specs.declared.tier.Tier.TheVariants.{Relative, Stagnating, Fixed}
use Rattle.rules.specs.Spreads.{inside, Inside}
use Rattle.rules.specs.Vienna.{vienna_meets, vienna_better, narrow_at, MeetsVienna, BetterVienna, NarrowAt}
use Rattle.rules.specs.Zagreb.{zagreb_meets, zagreb_better, MeetsZagreb, BetterZagreb}
use Rattle.rules.specs.Beta.{beta_meets, beta_better, MeetsBeta, BetterBeta}

reads : (a b : ℕ) → Decides (nat_le a b) (a ≤ b)
reads a b = (leb-true a b, le-leb a b)

inside_reads : (q p : Quote) → Decides (inside q p) (Inside q p)
inside_reads q p = Decides-and _ _ (reads _ _) (reads _ _)

-- one test before a pair, as three facts in a row
three : {P Q R : Type 0} (x y z : Bool) → Decides x P → Decides y Q → Decides z R → Decides (x && (y && z)) (P × Q × R)
three x y z p q r =
    let all = Decides-and x (y && z) p (Decides-and y z q r) in
    (λ h. ((all.0 h).0, (all.0 h).1.0, (all.0 h).1.1), λ h. all.1 (h.0, (h.1, h.2)))

narrow_reads : (tier : Tier) (q : Quote) (t : Terms) → Decides (narrow_at tier q t) (NarrowAt tier q t)
narrow_reads Relative q t = reads _ _
narrow_reads Stagnating q t = reads _ _
narrow_reads Fixed q t = reads _ _

pub vienna_reads : (q : Quote) (t : Terms) → Decides (vienna_meets q t) (MeetsVienna q t)
vienna_reads q t = three _ _ _ (narrow_reads t.tier q t) (reads _ _) (reads _ _)

pub vienna_better_reads : (q p : Quote) → Decides (vienna_better q p) (BetterVienna q p)
vienna_better_reads q p = three _ _ _ (inside_reads q p) (reads _ _) (reads _ _)

pub zagreb_reads : (q : Quote) (t : Terms) → Decides (zagreb_meets q t) (MeetsZagreb q t)
zagreb_reads q t = three _ _ _ (reads _ _) (reads _ _) (reads _ _)

pub zagreb_better_reads : (q p : Quote) → Decides (zagreb_better q p) (BetterZagreb q p)
zagreb_better_reads q p = three _ _ _ (inside_reads q p) (reads _ _) (reads _ _)

pub beta_reads : (q : Quote) (t : Terms) → Decides (beta_meets q t) (MeetsBeta q t)
beta_reads q t = three _ _ _ (reads _ _) (reads _ _) (reads _ _)

pub beta_better_reads : (q p : Quote) → Decides (beta_better q p) (BetterBeta q p)
beta_better_reads q p = three _ _ _ (inside_reads q p) (reads _ _) (reads _ _)
