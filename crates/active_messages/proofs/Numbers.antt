-- The numbers of a log rise, and are below the session's next. Assumes nothing.
use mathlib.Core.Path.{◌≡◌, sym, subst}
use mathlib.Core.List.{List, [], ◌∷◌, ◌++◌, reverse, reverse-cons}
use Prim.Native.Nat.{ℕ, zero, suc, ◌+◌, ◌-◌, ◌<◌, ◌≤◌}
use native.Mathlib.Omega.{arith}
use lib.ListN.{take, drop}
use Rattle.model_frame.specs.Parse.{Each}
use Rattle.model_session.specs.Session.{Msg}
use Rattle.store_log.specs.Log.{msg, Entry, entry, unrolled, tail_of, newest, walk, newest_first, log_of, rest_of}
use Rattle.store_log.proofs.Walk.{Look, hit, low, high, full, look, walk_hit, walk_low, walk_high, walk_full}

abbrev Under : ℕ → Msg → Type 0
Under bound m = m.num < bound

rises : (a b : ℕ) (ms : List Msg) → a < b → Each (Under a) ms → Each (Under b) ms
rises a b [] h e = tt
rises a b (m ∷ ms) h e = (omega (arith, e.0), rises a b ms h e.1)

each_take : (n bound : ℕ) (ms : List Msg) → Each (Under bound) ms → Each (Under bound) (take n ms)
each_take zero bound ms e = tt
each_take (suc n) bound [] e = tt
each_take (suc n) bound (m ∷ ms) e = (e.0, each_take n bound ms e.1)

each_snoc : (bound : ℕ) (ms : List Msg) (m : Msg) → Each (Under bound) ms → Under bound m → Each (Under bound) (ms ++ (m ∷ []))
each_snoc bound [] m e h = (h, tt)
each_snoc bound (x ∷ ms) m e h = (e.0, each_snoc bound ms m e.1 h)

each_reverse : (bound : ℕ) (ms : List Msg) → Each (Under bound) ms → Each (Under bound) (reverse ms)
each_reverse bound [] e = tt
each_reverse bound (m ∷ ms) e = subst (Each (Under bound)) (sym (reverse-cons m ms)) (each_snoc bound (reverse ms) m (each_reverse bound ms e.1) e.0)

walk_under : (C : ℕ) (u : List ℕ) (es : List Entry) (d bound : ℕ) → Each (Under bound) (walk C u es d bound)
walk_under C u [] d bound = tt
walk_under C u (entry n l ∷ es) d bound = go (look C d bound n l) (walk_under C u es (d + l) n)
  where
    go : Look C d bound n l → Each (Under n) (walk C u es (d + l) n) → Each (Under bound) (walk C u (entry n l ∷ es) d bound)
    go (hit a b r) e = subst (Each (Under bound)) (sym (walk_hit C u n l es d bound a b r)) (b, rises n bound (walk C u es (d + l) n) b e)
    go (low a) e = subst (Each (Under bound)) (sym (walk_low C u n l es d bound a)) tt
    go (high a) e = subst (Each (Under bound)) (sym (walk_high C u n l es d bound a)) tt
    go (full a) e = subst (Each (Under bound)) (sym (walk_full C u n l es d bound a)) tt

pub below : (C M next : ℕ) (w b : List ℕ) (left : ℕ) (m : Msg) (ms : List Msg) → rest_of C M next w b left ≡ m ∷ ms → m.num < next
unfolding rest_of
below C M next w b left m ms e =
    (subst (Each (Under next)) e
    (each_reverse next (take left (newest_first C M next w b)) (each_take left next (newest_first C M next w b) (walk_under C (unrolled (tail_of C w) b) (newest M w) 0 next)))).0

-- ---- the numbers rise

abbrev pub Ascends : ℕ → List Msg → Type 0
Ascends lo [] = Unit {0}
Ascends lo (m ∷ ms) = (lo ≤ m.num) × Ascends (suc m.num) ms

ascends_snoc : (lo : ℕ) (ms : List Msg) (m : Msg) → lo ≤ m.num → Ascends lo ms → Each (Under m.num) ms → Ascends lo (ms ++ (m ∷ []))
ascends_snoc lo [] m h a e = (h, tt)
ascends_snoc lo (x ∷ ms) m h a e = (a.0, ascends_snoc (suc x.num) ms m (omega (arith, e.0)) a.1 e.1)

ascends_walk : (C : ℕ) (u : List ℕ) (es : List Entry) (d bound : ℕ) → Ascends 1 (reverse (walk C u es d bound))
ascends_walk C u [] d bound = tt
ascends_walk C u (entry n l ∷ es) d bound = go (look C d bound n l) (ascends_walk C u es (d + l) n)
  where
    go : Look C d bound n l → Ascends 1 (reverse (walk C u es (d + l) n)) → Ascends 1 (reverse (walk C u (entry n l ∷ es) d bound))
    go (hit a b r) i =
        let W : List Msg = walk C u es (d + l) n in
        let m : Msg = msg n (take l (drop (C - (d + l)) u)) in
        rw (walk_hit C u n l es d bound a b r, reverse-cons m W) (ascends_snoc 1 (reverse W) m a i (each_reverse n W (walk_under C u es (d + l) n)))
    go (low a) i = rw (walk_low C u n l es d bound a) tt
    go (high a) i = rw (walk_high C u n l es d bound a) tt
    go (full a) i = rw (walk_full C u n l es d bound a) tt

pub ascends : (C M next : ℕ) (w b : List ℕ) → Ascends 1 (log_of C M next w b)
unfolding log_of
ascends C M next w b = ascends_walk C (unrolled (tail_of C w) b) (newest M w) 0 next
