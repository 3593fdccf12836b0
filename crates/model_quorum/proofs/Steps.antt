-- Every call answers what the history asks for, and what is kept joins the history again. Assumes nothing.
use mathlib.Core.Path.{◌≡◌, refl, sym, ap, subst, ◌∙◌}
use mathlib.Core.Bool.{Bool, true, false, cond, ◌&&◌, ◌||◌, true≢false}
use mathlib.Core.List.{List, [], ◌∷◌}
use mathlib.Core.Option.{Option, none, some}
use Prim.Native.Nat.{ℕ, zero, suc, ◌+◌, ◌<◌, ◌≤◌}
use native.Mathlib.Omega.{arith}
use lib.ListN.{get_or, set}
use lib.Dec.{eqb, leb, ltb}
use borrow.Author.Tests.{eqb-true, eqb-false, leb-true, leb-false, ltb-true}
use Rattle.model_quorum.specs.History.{QuorumCall, bind, sent, ack, stale, is_bound, handles, last_sent, has_acked, Figure, is_deposed, until_deposed, refusal_of, after, max_handles}
use Rattle.model_quorum.specs.Counts.{Count, Quorum, QuorumResult, largest_of, put, no_acks, refuse, accept, bound, sending, acking, step}
use Rattle.model_quorum.proofs.Joins.{same_so, names, Known, Unknown, Joined, others, binds, sends, keeps, takes}

pub record Joins (n k : ℕ) (past : List QuorumCall) (q : Quorum) : Type 0 where
  pub members : q.members ≡ n
  pub needed : q.needed ≡ k
  pub deposed : q.deposed ≡ is_deposed past
  pub many : q.handles ≡ handles past
  pub each : (h : ℕ) → Joined n k h past (q.counts h)

pub record Right (n k : ℕ) (past : List QuorumCall) (c : QuorumCall) (r : QuorumResult) : Type 0 where
  pub refusal : r.refusal ≡ refusal_of n past c
  pub joins : Joins n k (after n past c) r.quorum

module _ (n k : ℕ) (some-k : 1 ≤ k) (few : n ≤ 5) where
  taken_so : (past : List QuorumCall) (c : QuorumCall) (q : Quorum) → refusal_of n past c ≡ 0 → Joins n k (c ∷ past) q → Right n k past c (record { refusal = 0; quorum = q })
  taken_so past c q e j = record { refusal = sym e; joins = rw e j }

  refused_so : (past : List QuorumCall) (c : QuorumCall) (q : Quorum) (r : ℕ) → eqb r 0 ≡ false → refusal_of n past c ≡ r → Joins n k past q → Right n k past c (record { refusal = r; quorum = q })
  refused_so past c q r f e j = record { refusal = sym e; joins = rw (e, f) j }

  -- a call about handle h, after which d is kept for it
  module _ (past : List QuorumCall) (c : QuorumCall) (h : ℕ) (only : (g : ℕ) → eqb g h ≡ false → names g c ≡ false) (same : is_deposed (c ∷ past) ≡ is_deposed past) (q : Quorum) (j : Joins n k past q) where
    puts : (m : ℕ) (d : Count) → Known n k h (c ∷ past) d → m ≡ handles (c ∷ past)
        → Joins n k (c ∷ past) (record { members = q.members; needed = q.needed; deposed = q.deposed; handles = m; counts = put h d q.counts })
    puts m d known count = record {
      members = j.members;
      needed = j.needed;
      deposed = j.deposed ∙ sym same;
      many = count;
      each = λ g. go g (eqb g h) refl;
    }
      where
        go : (g : ℕ) → (b : Bool) → eqb g h ≡ b → Joined n k g (c ∷ past) (cond b (some d) (q.counts g))
        go g true e = subst (λ (i : ℕ). Known n k i (c ∷ past) d) (sym (eqb-true g h e)) known
        go g false e = others n k g past c (q.counts g) (only g e) (j.each g)

    stays : (d : Count) → q.counts h ≡ some d → Known n k h (c ∷ past) d → handles (c ∷ past) ≡ handles past → Joins n k (c ∷ past) q
    stays d at known count = record {
      members = j.members;
      needed = j.needed;
      deposed = j.deposed ∙ sym same;
      many = j.many ∙ sym count;
      each = λ g. go g (eqb g h) refl;
    }
      where
        go : (g : ℕ) → (b : Bool) → eqb g h ≡ b → Joined n k g (c ∷ past) (q.counts g)
        go g true e =
            let here : h ≡ g = sym (eqb-true g h e) in
            subst (λ (i : ℕ). Joined n k i (c ∷ past) (q.counts i)) here (subst (Joined n k h (c ∷ past)) (sym at) known)
        go g false e = others n k g past c (q.counts g) (only g e) (j.each g)

  -- a binding
  bind_right : (past : List QuorumCall) (h : ℕ) (q : Quorum) (j : Joins n k past q) (o : Option Count) → Joined n k h past o → Right n k past (bind h) (bound q h o)
  unfolding refusal_of
  bind_right past h q j none known = go (ltb q.handles max_handles) refl
    where
      count : ltb (handles past) max_handles ≡ ltb q.handles max_handles
      count = ap (λ (i : ℕ). ltb i max_handles) (sym j.many)

      fresh : suc q.handles ≡ handles (bind h ∷ past)
      fresh = rw known.unbound (ap suc j.many)

      go : (b : Bool) → ltb q.handles max_handles ≡ b → Right n k past (bind h) (bound q h none)
      go true e = rw e (taken_so past (bind h) _ (rw (known.unbound, count, e) refl)
          (puts past (bind h) h (λ g ne. ne) refl q j _ (record { last = 0; figure = 0; acks = no_acks }) (binds n k h some-k few past 0 (λ _. refl) (λ _. known.figure)) fresh))
      go false e = rw e (refused_so past (bind h) q 37 refl (rw (known.unbound, count, e) refl) j)
  bind_right past h q j (some c) known =
      taken_so past (bind h) _ (rw known.bound refl)
      (puts past (bind h) h (λ g ne. ne) refl q j q.handles d (binds n k h some-k few past (cond q.deposed c.figure 0) (λ e. rw (j.deposed, e) refl) (λ e. rw (j.deposed, e) known.figure))
      (j.many ∙ rw known.bound refl))
    where
      d : Count
      d = record { last = 0; figure = cond q.deposed c.figure 0; acks = no_acks }

  sent_right : (past : List QuorumCall) (h x : ℕ) (q : Quorum) (j : Joins n k past q) (o : Option Count) → Joined n k h past o → Right n k past (sent h x) (sending q h x o)
  unfolding refusal_of
  sent_right past h x q j none known = refused_so past (sent h x) q 37 refl (rw known.unbound refl) j
  sent_right past h x q j (some c) known = go (eqb x (suc c.last)) refl
    where
      d : Count
      d = record { last = x; figure = c.figure; acks = c.acks }

      next : eqb x (suc (last_sent h past)) ≡ eqb x (suc c.last)
      next = ap (λ (i : ℕ). eqb x (suc i)) (sym known.last)

      go : (b : Bool) → eqb x (suc c.last) ≡ b → Right n k past (sent h x) (sending q h x (some c))
      go true e = rw e (taken_so past (sent h x) _ (rw (known.bound, next, e) refl)
          (puts past (sent h x) h (λ g ne. ne) refl q j q.handles d (sends n k h some-k few past c x known) j.many))
      go false e = rw e (refused_so past (sent h x) q 38 refl (rw (known.bound, next, e) refl) j)

  ack_right : (past : List QuorumCall) (m h x : ℕ) (q : Quorum) (j : Joins n k past q) (o : Option Count) → q.counts h ≡ o → Joined n k h past o → m < n → ltb m n ≡ true
      → Right n k past (ack m h x) (acking q m h x o)
  unfolding refusal_of
  ack_right past m h x q j none at known less t = refused_so past (ack m h x) q 37 refl (rw (t, known.unbound) refl) j
  ack_right past m h x q j (some c) at known less t = go (leb 1 x && leb x c.last) refl
    where
      d : Count
      d = record { last = c.last; figure = largest_of q.members q.members q.needed (set c.acks m x); acks = set c.acks m x }

      was : (leb 1 x && leb x (last_sent h past)) ≡ (leb 1 x && leb x c.last)
      was = ap (λ (i : ℕ). leb 1 x && leb x i) (sym known.last)

      takes_so : (leb 1 x && leb x c.last) ≡ true → refusal_of n past (ack m h x) ≡ 0
      takes_so e = rw (t, known.bound, was, e) refl

      old : (b : Bool) → q.deposed ≡ b → (b || leb x (get_or c.acks m 0)) ≡ true → is_deposed past ≡ false → x ≤ get_or c.acks m 0
      old true e y f = absurd (true≢false (sym e ∙ j.deposed ∙ f))
      old false e y f = leb-true x (get_or c.acks m 0) y

      live : (b : Bool) → q.deposed ≡ b → (b || leb x (get_or c.acks m 0)) ≡ false → (is_deposed past ≡ false) × (get_or c.acks m 0 < x)
      live true e y = absurd (true≢false y)
      live false e y = (sym j.deposed ∙ e, leb-false x (get_or c.acks m 0) y)

      newer : (b : Bool) → (q.deposed || leb x (get_or c.acks m 0)) ≡ b → (leb 1 x && leb x c.last) ≡ true
          → Right n k past (ack m h x) (cond b (refuse 0 q) (accept q q.handles h d))
      newer true y e = taken_so past (ack m h x) q (takes_so e)
          (stays past (ack m h x) h (λ g ne. ne) refl q j c at (keeps n k h some-k few past c m x less known (old q.deposed refl y)) refl)
      newer false y e = taken_so past (ack m h x) _ (takes_so e)
          (puts past (ack m h x) h (λ g ne. ne) refl q j q.handles d
          (rw (j.members, j.needed) (takes n k h some-k few past c m x less known (live q.deposed refl y).0 (live q.deposed refl y).1))
          j.many)

      go : (b : Bool) → (leb 1 x && leb x c.last) ≡ b → Right n k past (ack m h x) (acking q m h x (some c))
      go true e = rw e (newer (q.deposed || leb x (get_or c.acks m 0)) refl e)
      go false e = rw e (refused_so past (ack m h x) q 38 refl (rw (t, known.bound, was, e) refl) j)

  pub right : (past : List QuorumCall) (q : Quorum) (j : Joins n k past q) (c : QuorumCall) → Right n k past c (step q c)
  unfolding step refusal_of
  right past q j (bind h) = bind_right past h q j (q.counts h) (j.each h)
  right past q j (sent h x) = sent_right past h x q j (q.counts h) (j.each h)
  right past q j (ack m h x) = go (ltb m q.members) refl
    where
      here : ltb m n ≡ ltb m q.members
      here = ap (ltb m) (sym j.members)

      go : (b : Bool) → ltb m q.members ≡ b → Right n k past (ack m h x) (cond b (acking q m h x (q.counts h)) (record { refusal = 37; quorum = q }))
      go true e = ack_right past m h x q j (q.counts h) refl (j.each h) (ltb-true m n (here ∙ e)) (here ∙ e)
      go false e = refused_so past (ack m h x) q 37 refl (rw (here ∙ e) refl) j
  right past q j (stale m) = go (ltb m q.members) refl
    where
      here : ltb m n ≡ ltb m q.members
      here = ap (ltb m) (sym j.members)

      go : (b : Bool) → ltb m q.members ≡ b → Right n k past (stale m) (cond b (record { refusal = 0; quorum = record { members = q.members; needed = q.needed; deposed = true; handles = q.handles; counts = q.counts } }) (record { refusal = 37; quorum = q }))
      go true e = taken_so past (stale m) _ (rw (here ∙ e) refl) (record {
        members = j.members;
        needed = j.needed;
        deposed = refl;
        many = j.many;
        each = λ g. others n k g past (stale m) (q.counts g) refl (j.each g);
      })
      go false e = refused_so past (stale m) q 37 refl (rw (here ∙ e) refl) j
