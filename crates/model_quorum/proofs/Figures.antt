-- What is claimed of a figure shown holds after every list of calls. Assumes nothing.
use mathlib.Core.Path.{◌≡◌, refl, sym, ap, subst, ◌∙◌}
use mathlib.Core.Bool.{Bool, true, false, cond, ◌||◌, true≢false}
use mathlib.Core.List.{List, [], ◌∷◌, ◌++◌}
use mathlib.Core.Option.{Option, none, some}
use Prim.Native.Nat.{ℕ, zero, suc, ◌<◌, ◌≤◌}
use native.Mathlib.Omega.{arith}
use lib.ListN.{length}
use lib.Dec.{eqb}
use Rattle.std.proofs.lemmas.Bool.{or_right}
use Rattle.model_quorum.specs.History.{QuorumCall, bind, sent, ack, stale, is_bound, Figure, is_deposed, until_deposed, refusal_of, after, accepted}
use Rattle.model_quorum.specs.Counts.{Count, kept, figure_of, shown}
use Rattle.model_quorum.specs.Claim.{ShowsFigure}
use Rattle.model_quorum.specs.Figures.{is_bind, Holds, Late}
use Rattle.model_quorum.proofs.Joins.{Joined, live, live_before}
use Rattle.model_quorum.proofs.Claim.{joins, claim}
use Rattle.model_quorum.proofs.Theorems.{one_figure, never_falls, one_left, was_sent, alone_so}

-- once deposed, always; and nothing is added to the history before
deposed_on : (c : QuorumCall) (past : List QuorumCall) → is_deposed past ≡ true → is_deposed (c ∷ past) ≡ true
deposed_on (bind g) past e = e
deposed_on (sent g x) past e = e
deposed_on (ack m g x) past e = e
deposed_on (stale m) past e = refl

bound_on : (h : ℕ) (c : QuorumCall) (past : List QuorumCall) → is_bound h past ≡ true → is_bound h (c ∷ past) ≡ true
bound_on h (bind g) past e = or_right (eqb h g) (is_bound h past) e
bound_on h (sent g x) past e = e
bound_on h (ack m g x) past e = e
bound_on h (stale m) past e = e

-- a property of histories that each accepted call keeps
module _ (n : ℕ) (P : List QuorumCall → Type 0) (keeps : (c : QuorumCall) (past : List QuorumCall) → P past → P (c ∷ past)) where
  pub on_after : (c : QuorumCall) (past : List QuorumCall) → P past → P (after n past c)
  on_after c past p = go (eqb (refusal_of n past c) 0)
    where
      go : (b : Bool) → P (cond b (c ∷ past) past)
      go true = keeps c past p
      go false = p

  pub on_all : (more calls : List QuorumCall) → P (accepted n calls) → P (accepted n (more ++ calls))
  on_all [] calls p = p
  on_all (c ∷ more) calls p = on_after c (accepted n (more ++ calls)) (on_all more calls p)

record Frozen (moment past : List QuorumCall) : Type 0 where
  deposed : is_deposed past ≡ true
  same : until_deposed past ≡ moment

frozen_on : (moment : List QuorumCall) (c : QuorumCall) (past : List QuorumCall) → Frozen moment past → Frozen moment (c ∷ past)
frozen_on moment c past f = record { deposed = deposed_on c past f.deposed; same = rw (deposed_on c past f.deposed) f.same }

module _ (n k : ℕ) (some-k : 1 ≤ k) (few : n ≤ 5) where
  -- the figure shown is that of the history
  pub figure_so : (calls : List QuorumCall) (h x : ℕ) → shown (kept n k calls) h ≡ some x → (is_bound h (accepted n calls) ≡ true) × Figure n k h (until_deposed (accepted n calls)) x
  figure_so calls h x e = subst (ShowsFigure n k h (accepted n calls)) e ((claim n k some-k few calls).figures h)

  frozen : (calls more : List QuorumCall) → is_deposed (accepted n calls) ≡ true → until_deposed (accepted n (more ++ calls)) ≡ until_deposed (accepted n calls)
  frozen calls more d =
      (on_all n (Frozen (until_deposed (accepted n calls))) (frozen_on (until_deposed (accepted n calls))) more calls (record { deposed = d; same = refl })).same

  module _ (calls : List QuorumCall) (h x : ℕ) (e : shown (kept n k calls) h ≡ some x) where
    abbrev past : List QuorumCall
    past = accepted n calls

    fig : Figure n k h (until_deposed past) x
    fig = (figure_so calls h x e).1

    now : is_deposed past ≡ false → Figure n k h past x
    now d = subst (λ (l : List QuorumCall). Figure n k h l x) (live past d) fig

    -- the figure after one call more
    rises : (c : QuorumCall) (y : ℕ) → is_bind h c ≡ false → shown (kept n k (c ∷ calls)) h ≡ some y → x ≤ y
    rises c y b f = go (eqb (refusal_of n past c) 0) (figure_so (c ∷ calls) h y f).1
      where
        accept : (d : Bool) → is_deposed (c ∷ past) ≡ d → Figure n k h (cond d (until_deposed past) (c ∷ past)) y → x ≤ y
        accept true d g = omega (arith, one_figure fig g)
        accept false d g = never_falls c b (now (live_before c past d)) g

        go : (b : Bool) → Figure n k h (until_deposed (cond b (c ∷ past) past)) y → x ≤ y
        go true g = accept (is_deposed (c ∷ past)) refl g
        go false g = omega (arith, one_figure fig g)

    stays : is_deposed past ≡ true → (more : List QuorumCall) → shown (kept n k (more ++ calls)) h ≡ some x
    stays d more = go (shown (kept n k (more ++ calls)) h) ((claim n k some-k few (more ++ calls)).figures h)
      where
        bound : is_bound h (accepted n (more ++ calls)) ≡ true
        bound = on_all n (λ (l : List QuorumCall). is_bound h l ≡ true) (bound_on h) more calls (figure_so calls h x e).0

        go : (o : Option ℕ) → ShowsFigure n k h (accepted n (more ++ calls)) o → o ≡ some x
        go none s = absurd (true≢false (sym bound ∙ s))
        go (some y) s = ap some (one_figure s.1 (subst (λ (l : List QuorumCall). Figure n k h l x) (sym (frozen calls more d)) fig))

    pub holds : Holds n k calls h x
    holds = record {
      sent = λ d. was_sent n h calls some-k (now d);
      rises = rises;
      left = λ more lost fewer. one_left h x (until_deposed past) lost fewer fig more;
      alone = λ one one' d. alone_so (subst (λ (i : ℕ). Figure 1 i h past x) one' (subst (λ (i : ℕ). Figure i k h past x) one (now d)));
      stays = stays;
    }

  pub late : (calls : List QuorumCall) (h : ℕ) → Late n k calls h
  late calls h d u more x e = one_figure (figure_so (more ++ calls) h x e).1 (subst (λ (l : List QuorumCall). Figure n k h l 0) (sym (frozen calls more d)) (none_yet ((kept n k calls).counts h) ((joins n k some-k few calls).each h)))
    where
      none_yet : (o : Option Count) → Joined n k h (accepted n calls) o → Figure n k h (until_deposed (accepted n calls)) 0
      none_yet none j = j.figure
      none_yet (some c) j = absurd (true≢false (sym j.bound ∙ u))
