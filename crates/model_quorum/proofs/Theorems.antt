-- What the figure of a history promises: it is one, it never falls between bindings, it was sent, and it outlives k - 1 members. Assumes nothing.
use mathlib.Core.Path.{◌≡◌, refl, sym, ap, subst, ◌∙◌}
use mathlib.Core.Bool.{Bool, true, false, cond, not, ◌&&◌, ◌||◌, true≢false}
use mathlib.Core.List.{List, [], ◌∷◌}
use Prim.Native.Nat.{ℕ, zero, suc, ◌+◌, ◌<◌, ◌≤◌, max}
use native.Mathlib.Omega.{arith}
use lib.ListN.{length}
use lib.Dec.{eqb, leb, ltb}
use borrow.Author.Tests.{eqb-true, eqb-false, eq-eqb, ne_eqb, leb-true, leb-false, le-leb, lt-leb}
use Rattle.std.proofs.lemmas.Bool.{or_right, and_parts}
use Rattle.model_quorum.specs.History.{QuorumCall, bind, sent, ack, stale, is_bound, last_sent, has_acked, acked_by, Figure, refusal_of, after, accepted}
use Rattle.model_quorum.specs.Figures.{is_bind, highest_acked, is_lost, Left}

-- there is one figure
below : {n k h x y : ℕ} {past : List QuorumCall} → Figure n k h past x → Figure n k h past y → x ≤ y
below {x = x} {y = y} f g = go x refl
  where
    go : (z : ℕ) → x ≡ z → x ≤ y
    go zero e = omega arith
    go (suc z) e = g.largest x (omega arith) (f.held (omega arith))

pub one_figure : {n k h x y : ℕ} {past : List QuorumCall} → Figure n k h past x → Figure n k h past y → x ≡ y
one_figure f g = omega (arith, below f g, below g f)

-- ---- it never falls between bindings

still : (h m x : ℕ) (c : QuorumCall) (past : List QuorumCall) → is_bind h c ≡ false → has_acked h m x past ≡ true → has_acked h m x (c ∷ past) ≡ true
still h m x (bind g) past e t = rw e t
still h m x (sent g y) past e t = t
still h m x (ack l g y) past e t = or_right (eqb h g && (eqb m l && leb x y)) (has_acked h m x past) t
still h m x (stale l) past e t = t

no_fewer : (n h x : ℕ) (c : QuorumCall) (past : List QuorumCall) → is_bind h c ≡ false → acked_by n h x past ≤ acked_by n h x (c ∷ past)
no_fewer zero h x c past e = omega arith
no_fewer (suc n) h x c past e = go (has_acked h n x past) refl (no_fewer n h x c past e)
  where
    least : (p q : Bool) (i j : ℕ) → (p ≡ true → q ≡ true) → i ≤ j → cond p 1 0 + i ≤ cond q 1 0 + j
    least true q i j more le = rw (more refl) (omega arith)
    least false true i j more le = omega arith
    least false false i j more le = omega arith

    go : (b : Bool) → has_acked h n x past ≡ b → acked_by n h x past ≤ acked_by n h x (c ∷ past) → cond (has_acked h n x past) 1 0 + acked_by n h x past ≤ cond (has_acked h n x (c ∷ past)) 1 0 + acked_by n h x (c ∷ past)
    go b t ih = least (has_acked h n x past) (has_acked h n x (c ∷ past)) (acked_by n h x past) (acked_by n h x (c ∷ past)) (λ (acked : has_acked h n x past ≡ true). still h n x c past e acked) ih

pub never_falls : {n k h x y : ℕ} {past : List QuorumCall} (c : QuorumCall) → is_bind h c ≡ false → Figure n k h past x → Figure n k h (c ∷ past) y → x ≤ y
never_falls {n} {k} {h} {x} {y} {past} c e f g = go x refl
  where
    go : (z : ℕ) → x ≡ z → x ≤ y
    go zero z = omega arith
    go (suc n') z = g.largest x (omega arith) (omega (arith, f.held (omega arith), no_fewer n h x c past e))

-- ---- any k - 1 members lost, one is left that acknowledged it or a later one

module _ (h x : ℕ) (past : List QuorumCall) where
  abbrev left_by : ℕ → List ℕ → ℕ
  left_by zero lost = 0
  left_by (suc n) lost = cond (has_acked h n x past && not (is_lost n lost)) 1 0 + left_by n lost

  none_lost : (n : ℕ) → acked_by n h x past ≤ left_by n []
  none_lost zero = omega arith
  none_lost (suc n) = go (has_acked h n x past) (none_lost n)
    where
      go : (b : Bool) → acked_by n h x past ≤ left_by n [] → cond b 1 0 + acked_by n h x past ≤ cond (b && true) 1 0 + left_by n []
      go true ih = omega arith
      go false ih = omega arith

  -- one more lost matters for one member only
  same_below : (n l : ℕ) (ls : List ℕ) → n ≤ l → left_by n (l ∷ ls) ≡ left_by n ls
  same_below zero l ls h = refl
  same_below (suc n) l ls low =
      let o : eqb n l ≡ false = ne_eqb n l (λ e. omega arith) in
      rw (o, same_below n l ls (omega arith)) refl

  one_lost : (n l : ℕ) (ls : List ℕ) → left_by n ls ≤ suc (left_by n (l ∷ ls))
  one_lost zero l ls = omega arith
  one_lost (suc n) l ls = go (eqb n l) refl (one_lost n l ls)
    where
      most : (b : Bool) → cond b 1 0 ≤ 1
      most true = omega arith
      most false = omega arith

      go : (b : Bool) → eqb n l ≡ b → left_by n ls ≤ suc (left_by n (l ∷ ls)) → left_by (suc n) ls ≤ suc (left_by (suc n) (l ∷ ls))
      go true e ih = omega (arith, most (has_acked h n x past && not (is_lost n ls)), same_below n l ls (omega (arith, eqb-true n l e)))
      go false e ih = rw e (omega arith)

  enough : (n : ℕ) (lost : List ℕ) → acked_by n h x past ≤ length lost + left_by n lost
  enough n [] = omega (arith, none_lost n)
  enough n (l ∷ ls) = omega (arith, enough n ls, one_lost n l ls)

  pick : (n : ℕ) (lost : List ℕ) → 0 < left_by n lost → Left h x past n lost
  pick zero lost more = absurd (no more)
    where
      no : 0 < 0 → ⊥
      no z = omega arith
  pick (suc n) lost more = go (has_acked h n x past) refl (is_lost n lost) refl more (pick n lost)
    where
      wider : Left h x past n lost → Left h x past (suc n) lost
      wider z = record { member = z.member; among = omega (arith, z.among); kept = z.kept; acked = z.acked }

      go : (a : Bool) → has_acked h n x past ≡ a → (b : Bool) → is_lost n lost ≡ b → 0 < cond (a && not b) 1 0 + left_by n lost → (0 < left_by n lost → Left h x past n lost) → Left h x past (suc n) lost
      go true e false f more ih = record { member = n; among = omega arith; kept = f; acked = e }
      go true e true f more ih = wider (ih (omega arith))
      go false e b f more ih = wider (ih (omega arith))

  pub one_left : {n k : ℕ} (lost : List ℕ) → length lost < k → Figure n k h past x → 0 < x → Left h x past n lost
  one_left {n} {k} lost few f more = pick n lost (omega (arith, enough n lost, f.held more))

-- ---- it was sent since the binding

module _ (n : ℕ) (h : ℕ) where
  -- every number acknowledged on a handle is at most the last sent
  abbrev Sent : List QuorumCall → Type 0
  Sent past = (m x : ℕ) → has_acked h m x past ≡ true → x ≤ last_sent h past

  keeps_sent : (past : List QuorumCall) (c : QuorumCall) → refusal_of n past c ≡ 0 → Sent past → Sent (c ∷ past)
  unfolding refusal_of
  keeps_sent past (bind g) e s m x t = go (eqb h g) t
    where
      go : (b : Bool) → cond b false (has_acked h m x past) ≡ true → x ≤ cond b 0 (last_sent h past)
      go true t = absurd (true≢false (sym t))
      go false t = s m x t
  keeps_sent past (sent g y) e s m x t = go (eqb h g) refl (is_bound g past) (eqb y (suc (last_sent g past))) refl e
    where
      no : ◌≡◌ {A = ℕ} 38 0 → ⊥
      no z = omega arith

      no' : ◌≡◌ {A = ℕ} 37 0 → ⊥
      no' z = omega arith

      go : (b : Bool) → eqb h g ≡ b → (c d : Bool) → eqb y (suc (last_sent g past)) ≡ d → ◌≡◌ {A = ℕ} (cond c (cond d 0 38) 37) 0 → x ≤ cond b y (last_sent h past)
      go true q true true d z =
          let same : last_sent h past ≡ last_sent g past = ap (λ (i : ℕ). last_sent i past) (eqb-true h g q) in
          omega (arith, s m x t, eqb-true y (suc (last_sent g past)) d)
      go true q true false d z = absurd (no z)
      go true q false d e z = absurd (no' z)
      go false q c d e z = s m x t
  keeps_sent past (ack l g y) e s m x t = go (eqb h g) refl (eqb m l) (leb x y) refl t (ltb l n) (is_bound g past) (leb 1 y && leb y (last_sent g past)) refl e
    where
      no : ◌≡◌ {A = ℕ} 38 0 → ⊥
      no z = omega arith

      no' : ◌≡◌ {A = ℕ} 37 0 → ⊥
      no' z = omega arith

      go : (a : Bool) → eqb h g ≡ a → (b c : Bool) → leb x y ≡ c → ((a && (b && c)) || has_acked h m x past) ≡ true → (d f i : Bool) → (leb 1 y && leb y (last_sent g past)) ≡ i → ◌≡◌ {A = ℕ} (cond d (cond f (cond i 0 38) 37) 37) 0 → x ≤ last_sent h past
      go true q true true r t true true true u z =
          let same : last_sent h past ≡ last_sent g past = ap (λ (i : ℕ). last_sent i past) (eqb-true h g q) in
          omega (arith, leb-true x y r, leb-true y (last_sent g past) (and_parts (leb 1 y) (leb y (last_sent g past)) u).1)
      go true q true true r t true true false u z = absurd (no z)
      go true q true true r t true false i u z = absurd (no' z)
      go true q true true r t false f i u z = absurd (no' z)
      go true q true false r t d f i u z = s m x t
      go true q false c r t d f i u z = s m x t
      go false q b c r t d f i u z = s m x t
  keeps_sent past (stale l) e s m x t = s m x t

  all_sent : (calls : List QuorumCall) → Sent (accepted n calls)
  all_sent [] = λ m x t. absurd (true≢false (sym t))
  all_sent (c ∷ calls) = go (eqb (refusal_of n (accepted n calls) c) 0) refl (all_sent calls)
    where
      go : (b : Bool) → eqb (refusal_of n (accepted n calls) c) 0 ≡ b → Sent (accepted n calls) → Sent (cond b (c ∷ accepted n calls) (accepted n calls))
      go true e s = keeps_sent (accepted n calls) c (eqb-true (refusal_of n (accepted n calls) c) 0 e) s
      go false e s = s

  pub was_sent : {k x : ℕ} (calls : List QuorumCall) → 1 ≤ k → Figure n k h (accepted n calls) x → x ≤ last_sent h (accepted n calls)
  was_sent {k} {x} calls some f = go x refl
    where
      go : (z : ℕ) → x ≡ z → x ≤ last_sent h (accepted n calls)
      go zero z = omega arith
      go (suc z') z =
          let l = one_left h x (accepted n calls) [] (omega arith) f (omega arith) in
          all_sent calls l.member x l.acked

-- ---- of one member it is the highest number acknowledged

highest_so : (h m y : ℕ) (past : List QuorumCall) → 0 < y → has_acked h m y past ≡ leb y (highest_acked h m past)
highest_so h m y [] more = sym (lt-leb y 0 more)
highest_so h m y (bind g ∷ past) more = go (eqb h g) (highest_so h m y past more)
  where
    go : (b : Bool) → has_acked h m y past ≡ leb y (highest_acked h m past) → cond b false (has_acked h m y past) ≡ leb y (cond b 0 (highest_acked h m past))
    go true ih = sym (lt-leb y 0 more)
    go false ih = ih
highest_so h m y (sent g x ∷ past) more = highest_so h m y past more
highest_so h m y (ack l g x ∷ past) more = go (eqb h g) (eqb m l) (leb y x) refl (leb y (highest_acked h m past)) refl (highest_so h m y past more)
  where
    go : (a b d : Bool) → leb y x ≡ d → (f : Bool) → leb y (highest_acked h m past) ≡ f → has_acked h m y past ≡ leb y (highest_acked h m past)
        → ((a && (b && d)) || has_acked h m y past) ≡ leb y (cond (a && b) (max x (highest_acked h m past)) (highest_acked h m past))
    go true true true e f g ih = sym (le-leb y (max x (highest_acked h m past)) (omega (arith, leb-true y x e)))
    go true true false e true g ih = ih ∙ g ∙ sym (le-leb y (max x (highest_acked h m past)) (omega (arith, leb-true y (highest_acked h m past) g)))
    go true true false e false g ih = ih ∙ g ∙ sym (lt-leb y (max x (highest_acked h m past)) (omega (arith, leb-false y x e, leb-false y (highest_acked h m past) g)))
    go true false d e f g ih = ih
    go false b d e f g ih = ih
highest_so h m y (stale l ∷ past) more = highest_so h m y past more

pub alone_so : {h x : ℕ} {past : List QuorumCall} → Figure 1 1 h past x → x ≡ highest_acked h 0 past
alone_so {h} {x} {past} f = omega (arith, low x refl, high (highest_acked h 0 past) refl)
  where
    held : (b : Bool) → has_acked h 0 x past ≡ b → 1 ≤ cond b 1 0 + 0 → has_acked h 0 x past ≡ true
    held true e g = e
    held false e g = absurd (no g)
      where
        no : 1 ≤ 0 + 0 → ⊥
        no z = omega arith

    low : (z : ℕ) → x ≡ z → x ≤ highest_acked h 0 past
    low zero e = omega arith
    low (suc z) e =
        let more : 0 < x = omega arith in
        leb-true x (highest_acked h 0 past) (sym (highest_so h 0 x past more) ∙ held (has_acked h 0 x past) refl (f.held more))

    high : (z : ℕ) → highest_acked h 0 past ≡ z → highest_acked h 0 past ≤ x
    high zero e = omega arith
    high (suc z) e =
        let more : 0 < highest_acked h 0 past = omega arith in
        let own : has_acked h 0 (highest_acked h 0 past) past ≡ true = highest_so h 0 (highest_acked h 0 past) past more ∙ le-leb (highest_acked h 0 past) (highest_acked h 0 past) (omega arith) in
        f.largest (highest_acked h 0 past) more (rw own (omega arith))
