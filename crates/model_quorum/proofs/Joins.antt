-- What is kept joins the history. Assumes nothing.
use mathlib.Core.Path.{◌≡◌, refl, sym, ap, subst, ◌∙◌}
use mathlib.Core.Bool.{Bool, true, false, cond, ◌&&◌, ◌||◌, true≢false}
use mathlib.Core.List.{List, [], ◌∷◌}
use mathlib.Core.Option.{Option, none, some}
use Prim.Native.Nat.{ℕ, zero, suc, ◌+◌, ◌<◌, ◌≤◌}
use native.Mathlib.Omega.{arith}
use lib.ListN.{length, get_or, set, length-set}
use lib.Seq.{get_or-set_same, get_or-set_other}
use lib.Dec.{eqb, leb, ltb}
use borrow.Author.Tests.{eqb-true, eqb-false, eq-eqb, ne_eqb, leb-true, leb-false, le-leb, lt-leb, lt-ltb, ltb-true}
use Rattle.model_quorum.specs.History.{QuorumCall, bind, sent, ack, stale, is_bound, handles, last_sent, has_acked, acked_by, Figure, is_deposed, until_deposed, refusal_of, after, accepted}
use Rattle.model_quorum.specs.Counts.{Count, at_least, largest_of, no_acks}
use Rattle.model_quorum.proofs.Largest.{taken, largest}

pub same_so : (h : ℕ) → eqb h h ≡ true
same_so h = eq-eqb h h refl

-- whether a call is about a handle
abbrev pub names : ℕ → QuorumCall → Bool
names h (bind g) = eqb h g
names h (sent g x) = eqb h g
names h (ack m g x) = eqb h g
names h (stale m) = false

-- a call about another handle changes nothing of this one's
module _ (h : ℕ) (past : List QuorumCall) where
  bound_same : (c : QuorumCall) → names h c ≡ false → is_bound h (c ∷ past) ≡ is_bound h past
  bound_same (bind g) e = rw e refl
  bound_same (sent g x) e = refl
  bound_same (ack m g x) e = refl
  bound_same (stale m) e = refl

  sent_same : (c : QuorumCall) → names h c ≡ false → last_sent h (c ∷ past) ≡ last_sent h past
  sent_same (bind g) e = rw e refl
  sent_same (sent g x) e = rw e refl
  sent_same (ack m g x) e = refl
  sent_same (stale m) e = refl

  acked_same : (m x : ℕ) (c : QuorumCall) → names h c ≡ false → has_acked h m x (c ∷ past) ≡ has_acked h m x past
  acked_same m x (bind g) e = rw e refl
  acked_same m x (sent g y) e = refl
  acked_same m x (ack l g y) e = rw e refl
  acked_same m x (stale l) e = refl

pub live : (past : List QuorumCall) → is_deposed past ≡ false → until_deposed past ≡ past
live [] e = refl
live (c ∷ past) e = rw e refl

-- who isn't deposed after a call wasn't before
pub live_before : (c : QuorumCall) (past : List QuorumCall) → is_deposed (c ∷ past) ≡ false → is_deposed past ≡ false
live_before (bind g) past e = e
live_before (sent g x) past e = e
live_before (ack m g x) past e = e
live_before (stale m) past e = absurd (true≢false e)

-- the figure of a handle goes by who acknowledged what
module _ (n k h : ℕ) where
  counts_same : (i : ℕ) (xs ys : List QuorumCall) (x : ℕ) → ((m : ℕ) → has_acked h m x ys ≡ has_acked h m x xs) → acked_by i h x ys ≡ acked_by i h x xs
  counts_same zero xs ys x f = refl
  counts_same (suc i) xs ys x f = rw (f i, counts_same i xs ys x f) refl

  figure_same : {xs ys : List QuorumCall} {f : ℕ} → ((m x : ℕ) → 0 < x → has_acked h m x ys ≡ has_acked h m x xs) → Figure n k h xs f → Figure n k h ys f
  figure_same {xs} {ys} {f} s g = record {
    held = λ more. subst (λ (c : ℕ). k ≤ c) (sym (counts_same n xs ys f (λ m. s m f more))) (g.held more);
    largest = λ y more e. g.largest y more (subst (λ (c : ℕ). k ≤ c) (counts_same n xs ys y (λ m. s m y more)) e);
  }

  -- after one call more that tells nothing new of who acknowledged what
  figure_on : (past : List QuorumCall) (f : ℕ) (c : QuorumCall) → (is_deposed past ≡ false → (m x : ℕ) → 0 < x → has_acked h m x (c ∷ past) ≡ has_acked h m x past)
      → Figure n k h (until_deposed past) f → Figure n k h (until_deposed (c ∷ past)) f
  figure_on past f c s g = go (is_deposed (c ∷ past)) refl
    where
      go : (b : Bool) → is_deposed (c ∷ past) ≡ b → Figure n k h (until_deposed (c ∷ past)) f
      go true d = rw d g
      go false d = rw d (figure_same (s (live_before c past d)) (subst (λ (l : List QuorumCall). Figure n k h l f) (live past (live_before c past d)) g))

  -- what is kept of the handle
  pub record Known (past : List QuorumCall) (c : Count) : Type 0 where
    pub bound : is_bound h past ≡ true
    pub last : c.last ≡ last_sent h past
    pub five : length c.acks ≡ 5
    pub acked : is_deposed past ≡ false → (m x : ℕ) → m < n → 0 < x → leb x (get_or c.acks m 0) ≡ has_acked h m x past
    pub figure : Figure n k h (until_deposed past) c.figure

  pub record Unknown (past : List QuorumCall) : Type 0 where
    pub unbound : is_bound h past ≡ false
    pub figure : Figure n k h (until_deposed past) 0

  abbrev pub Joined : List QuorumCall → Option Count → Type 0
  Joined past none = Unknown past
  Joined past (some c) = Known past c

  -- a call about another handle
  pub others : (past : List QuorumCall) (c : QuorumCall) (o : Option Count) → names h c ≡ false → Joined past o → Joined (c ∷ past) o
  others past c none e j = record {
    unbound = bound_same h past c e ∙ j.unbound;
    figure = figure_on past 0 c (λ _ m x _. acked_same h past m x c e) j.figure;
  }
  others past c (some d) e j = record {
    bound = bound_same h past c e ∙ j.bound;
    last = j.last ∙ sym (sent_same h past c e);
    five = j.five;
    acked = λ l m x less more. j.acked (live_before c past l) m x less more ∙ sym (acked_same h past m x c e);
    figure = figure_on past d.figure c (λ _ m x _. acked_same h past m x c e) j.figure;
  }

  -- its own calls: nobody acknowledged anything right after a binding
  module _ (some-k : 1 ≤ k) (few : n ≤ 5) where
    none_acked : (i x : ℕ) (past : List QuorumCall) → acked_by i h x (bind h ∷ past) ≡ 0
    none_acked zero x past = refl
    none_acked (suc i) x past = rw (same_so h) (omega (arith, none_acked i x past))

    begins : (past : List QuorumCall) → is_deposed past ≡ false → Figure n k h (until_deposed (bind h ∷ past)) 0
    begins past e = rw e (record {
      held = λ more. absurd (never more);
      largest = λ y more g. absurd (clash g (none_acked n y past));
    })
      where
        never : 0 < 0 → ⊥
        never z = omega arith

        clash : {i : ℕ} → k ≤ i → i ≡ 0 → ⊥
        clash g z = omega arith

    nothing_kept : (m x : ℕ) → 0 < x → leb x (get_or no_acks m 0) ≡ false
    nothing_kept m x more = ap (leb x) (zeros m) ∙ lt-leb x 0 more
      where
        zeros : (m : ℕ) → get_or no_acks m 0 ≡ 0
        zeros zero = refl
        zeros (suc zero) = refl
        zeros (suc (suc zero)) = refl
        zeros (suc (suc (suc zero))) = refl
        zeros (suc (suc (suc (suc zero)))) = refl
        zeros (suc (suc (suc (suc (suc m))))) = refl

    -- bound: the figure is 0, or stays once deposed
    pub binds : (past : List QuorumCall) (f : ℕ) → (is_deposed past ≡ false → f ≡ 0) → (is_deposed past ≡ true → Figure n k h (until_deposed past) f)
        → Known (bind h ∷ past) (record { last = 0; figure = f; acks = no_acks })
    binds past f zero-so stays = record {
      bound = rw (same_so h) refl;
      last = rw (same_so h) refl;
      five = refl;
      acked = λ _ m x _ more. nothing_kept m x more ∙ sym (fresh m x);
      figure = go (is_deposed past) refl;
    }
      where
        fresh : (m x : ℕ) → has_acked h m x (bind h ∷ past) ≡ false
        fresh m x = rw (same_so h) refl

        go : (b : Bool) → is_deposed past ≡ b → Figure n k h (until_deposed (bind h ∷ past)) f
        go true e = rw e (stays e)
        go false e = subst (Figure n k h (until_deposed (bind h ∷ past))) (sym (zero-so e)) (begins past e)

    pub sends : (past : List QuorumCall) (c : Count) (x : ℕ) → Known past c → Known (sent h x ∷ past) (record { last = x; figure = c.figure; acks = c.acks })
    sends past c x j = record {
      bound = j.bound;
      last = rw (same_so h) refl;
      five = j.five;
      acked = j.acked;
      figure = figure_on past c.figure (sent h x) (λ _ m y _. refl) j.figure;
    }

    -- who acknowledged what, with one Ack more
    with_ack : (past : List QuorumCall) (l m x y : ℕ) → has_acked h m y (ack l h x ∷ past) ≡ ((eqb m l && leb y x) || has_acked h m y past)
    with_ack past l m x y = rw (same_so h) refl

    -- an older Ack, or one after deposing
    pub keeps : (past : List QuorumCall) (c : Count) (l x : ℕ) → l < n → Known past c → (is_deposed past ≡ false → x ≤ get_or c.acks l 0) → Known (ack l h x ∷ past) c
    keeps past c l x less j old = record {
      bound = j.bound;
      last = j.last;
      five = j.five;
      acked = λ e m y within more. j.acked e m y within more ∙ sym (same e m y more);
      figure = figure_on past c.figure (ack l h x) same j.figure;
    }
      where
        same : is_deposed past ≡ false → (m y : ℕ) → 0 < y → has_acked h m y (ack l h x ∷ past) ≡ has_acked h m y past
        same e m y more = with_ack past l m x y ∙ go (eqb m l) refl (leb y x) refl
          where
            go : (b : Bool) → eqb m l ≡ b → (d : Bool) → leb y x ≡ d → ((b && d) || has_acked h m y past) ≡ has_acked h m y past
            go true p true q =
                let here : m ≡ l = eqb-true m l p in
                let low : y ≤ get_or c.acks l 0 = omega (arith, leb-true y x q, old e) in
                sym (ap (λ (i : ℕ). has_acked h i y past) here ∙ sym (j.acked e l y less more) ∙ le-leb y (get_or c.acks l 0) low)
            go true p false q = refl
            go false p d q = refl

    -- as many are at or past a number as acknowledged it or a later one
    as_many : (past : List QuorumCall) (acks : List ℕ) (x i : ℕ) → ((m : ℕ) → m < i → leb x (get_or acks m 0) ≡ has_acked h m x past) → at_least i x acks ≡ acked_by i h x past
    as_many past acks x zero f = refl
    as_many past acks x (suc i) f = rw (f i (omega arith), as_many past acks x i (λ m less. f m (omega arith))) refl

    computed : (past : List QuorumCall) (acks : List ℕ) → ((m x : ℕ) → m < n → 0 < x → leb x (get_or acks m 0) ≡ has_acked h m x past) → Figure n k h past (largest_of n n k acks)
    computed past acks f = record {
      held = λ more. subst (λ (i : ℕ). k ≤ i) (as_many past acks (largest_of n n k acks) n (λ m less. f m (largest_of n n k acks) less more)) (taken acks n n k more);
      largest = λ y more enough. largest acks n k y some-k (subst (λ (i : ℕ). k ≤ i) (sym (as_many past acks y n (λ m less. f m y less more))) enough);
    }

    -- a newer Ack
    pub takes : (past : List QuorumCall) (c : Count) (l x : ℕ) → l < n → Known past c → is_deposed past ≡ false → get_or c.acks l 0 < x
        → Known (ack l h x ∷ past) (record { last = c.last; figure = largest_of n n k (set c.acks l x); acks = set c.acks l x })
    takes past c l x less j e new = record {
      bound = j.bound;
      last = j.last;
      five = length-set c.acks l x ∙ j.five;
      acked = λ _. told;
      figure = rw e (computed (ack l h x ∷ past) (set c.acks l x) told);
    }
      where
        told : (m y : ℕ) → m < n → 0 < y → leb y (get_or (set c.acks l x) m 0) ≡ has_acked h m y (ack l h x ∷ past)
        told m y within more = go (eqb m l) refl (leb y x) refl ∙ sym (with_ack past l m x y)
          where
            go : (b : Bool) → eqb m l ≡ b → (d : Bool) → leb y x ≡ d → leb y (get_or (set c.acks l x) m 0) ≡ ((eqb m l && leb y x) || has_acked h m y past)
            go true p d q =
                let here : m ≡ l = eqb-true m l p in
                let inside : l < length c.acks = omega (arith, j.five) in
                let now : get_or (set c.acks l x) m 0 ≡ x = ap (λ (i : ℕ). get_or (set c.acks l x) i 0) here ∙ get_or-set_same c.acks l x 0 inside in
                ap (leb y) now ∙ own d q
              where
                own : (d : Bool) → leb y x ≡ d → leb y x ≡ ((eqb m l && leb y x) || has_acked h m y past)
                own true q = rw (p, q) refl
                own false q =
                    let high : get_or c.acks m 0 < y = subst (λ (i : ℕ). get_or c.acks i 0 < y) (sym (eqb-true m l p)) (omega (arith, leb-false y x q)) in
                    rw (p, q) (sym (sym (j.acked e m y within more) ∙ lt-leb y (get_or c.acks m 0) high))
            go false p d q =
                rw p (ap (leb y) (get_or-set_other c.acks l m x 0 (eqb-false m l p)) ∙ j.acked e m y within more)
