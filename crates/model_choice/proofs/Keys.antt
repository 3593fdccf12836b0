-- Each session is each key: a store is ahead of another just if its number is at least the other's for every key; where no two places have one key,
-- that number is the one of the session that a Bind finds. Assumes nothing.
use mathlib.Core.Path.{◌≡◌, refl, sym, ap, ◌∙◌}
use mathlib.Core.Bool.{Bool, true, false, cond, ◌&&◌}
use mathlib.Core.List.{List, [], ◌∷◌}
use mathlib.Core.Option.{Option, none, some, map}
use Prim.Native.Nat.{ℕ, zero, suc, ◌+◌, ◌≤◌, max}
use native.Mathlib.Omega.{arith}
use lib.ListN.{get_elem?}
use lib.Dec.{leb}
use borrow.Author.Tests.{leb-true, le-leb}
use Rattle.std.proofs.lemmas.Bool.{and_parts}
use Rattle.model_frame.specs.Frame.{Key}
use Rattle.model_standby.specs.Store.{Place, same_key, place_of, session_at, or_new}
use Rattle.model_standby.specs.PlainCopy.{OwnKey, key_count, own_key}
use Rattle.model_standby.proofs.Places.{key_sound, key_self}
use Rattle.model_standby.proofs.Apart.{Apart}
use Rattle.model_choice.specs.Choice.{next_of, is_ahead}

abbrev next : Place → ℕ
next p = p.stored.session.next_out

-- ---- every content: a session is a key

pub at_least_1 : (k : Key) (ps : List Place) → 1 ≤ next_of k ps
at_least_1 k [] = omega arith
at_least_1 k (p ∷ ps) = go (same_key k p.key) (at_least_1 k ps)
  where
    go : (t : Bool) → 1 ≤ next_of k ps → 1 ≤ cond t (max (next p) (next_of k ps)) (next_of k ps)
    go true ih = omega arith
    go false ih = ih

-- a stored session's number counts for its key
pub counted : (ps : List Place) (i : ℕ) (p : Place) → get_elem? ps i ≡ some p → next p ≤ next_of p.key ps
counted [] i p e = let z : ◌≡◌ {A = ℕ} 0 1 = cc in omega arith
counted (q ∷ ps) zero p e =
    let same : q ≡ p = cc in
    let key : same_key p.key q.key ≡ true = ap (λ (x : Place). same_key p.key x.key) same ∙ key_self p.key in
    let number : next q ≡ next p = ap next same in
    rw key (omega arith)
counted (q ∷ ps) (suc i) p e = go (same_key p.key q.key) (counted ps i p e)
  where
    go : (t : Bool) → next p ≤ next_of p.key ps → next p ≤ cond t (max (next q) (next_of p.key ps)) (next_of p.key ps)
    go true ih = omega arith
    go false ih = ih

pub each_key : (mine theirs : List Place) → is_ahead mine theirs ≡ true → (k : Key) → next_of k theirs ≤ next_of k mine
each_key mine [] h k = at_least_1 k mine
each_key mine (p ∷ theirs) h k = go (same_key k p.key) refl (each_key mine theirs b.1 k)
  where
    b : (leb (next p) (next_of p.key mine) ≡ true) × (is_ahead mine theirs ≡ true)
    b = and_parts (leb (next p) (next_of p.key mine)) (is_ahead mine theirs) h

    go : (t : Bool) → same_key k p.key ≡ t → next_of k theirs ≤ next_of k mine → cond t (max (next p) (next_of k theirs)) (next_of k theirs) ≤ next_of k mine
    go true e ih =
        let same : next_of p.key mine ≡ next_of k mine = ap (λ (j : Key). next_of j mine) (sym (key_sound k p.key e)) in
        omega (arith, leb-true (next p) (next_of p.key mine) b.0)
    go false e ih = ih

pub each_session : (mine theirs : List Place) → ((k : Key) → next_of k theirs ≤ next_of k mine) → is_ahead mine theirs ≡ true
each_session mine theirs h = go theirs (λ i p e. omega (arith, counted theirs i p e, h p.key))
  where
    go : (qs : List Place) → ((i : ℕ) (p : Place) → get_elem? qs i ≡ some p → next p ≤ next_of p.key mine) → is_ahead mine qs ≡ true
    go [] f = refl
    go (q ∷ qs) f = rw (le-leb (next q) (next_of q.key mine) (f 0 q refl)) (go qs (λ i p e. f (suc i) p e))

-- so every store is ahead of itself, and ahead of what those behind it are ahead of
pub ahead_self : (ps : List Place) → is_ahead ps ps ≡ true
ahead_self ps = each_session ps ps (λ k. omega arith)

pub ahead_through : (a b c : List Place) → is_ahead a b ≡ true → is_ahead b c ≡ true → is_ahead a c ≡ true
ahead_through a b c f g = each_session a c (λ k. omega (arith, each_key a b f k, each_key b c g k))

-- ---- no two places with one key

-- no place has an earlier one with its key
abbrev Distinct : List Place → Type 0
Distinct ps = (i : ℕ) (p : Place) → get_elem? ps i ≡ some p → key_count p.key i ps ≡ 0

distinct : (ps : List Place) → Apart ps → Distinct ps
distinct ps a i p e = a i (record { key = p.key; earlier = key_count p.key i ps }) (ap (map (λ (x : Place). record { key = x.key; earlier = key_count x.key i ps })) e)

-- each number is at least 1, as every store's is
abbrev pub Numbered : List Place → Type 0
Numbered ps = (i : ℕ) (p : Place) → get_elem? ps i ≡ some p → 1 ≤ next p

-- the number of the session that a Bind of the key finds; a new one's where there is none
abbrev pub bound_next : Key → List Place → ℕ
bound_next k ps = (or_new (session_at ps (place_of k ps))).next_out

none_has : (k : Key) (ps : List Place) → ((i : ℕ) (p : Place) → get_elem? ps i ≡ some p → same_key k p.key ≡ false) → next_of k ps ≡ 1
none_has k [] h = refl
none_has k (p ∷ ps) h = rw (h 0 p refl) (none_has k ps (λ i q e. h (suc i) q e))

other : (k : Key) (p : Place) (ps : List Place) → Distinct (p ∷ ps) → same_key k p.key ≡ true → (i : ℕ) (q : Place) → get_elem? ps i ≡ some q → same_key k q.key ≡ false
other k p ps d e i q at = go (same_key k q.key) refl
  where
    go : (t : Bool) → same_key k q.key ≡ t → same_key k q.key ≡ false
    go false f = f
    go true f =
        let same : q.key ≡ p.key = sym (key_sound k q.key f) ∙ key_sound k p.key e in
        let one : cond {A = ℕ} (same_key q.key p.key) 1 0 ≡ 1 = ap (λ (t : Bool). cond {A = ℕ} t 1 0) (ap (λ (j : Key). same_key j p.key) same ∙ key_self p.key) in
        absurd (omega (arith, one, d (suc i) q at))

bound_is : (k : Key) (ps : List Place) → Distinct ps → Numbered ps → next_of k ps ≡ bound_next k ps
bound_is k [] d n = refl
bound_is k (p ∷ ps) d n = go (same_key k p.key) refl (bound_is k ps (λ i q e. omega (arith, d (suc i) q e)) (λ i q e. n (suc i) q e))
  where
    go : (t : Bool) → same_key k p.key ≡ t → next_of k ps ≡ bound_next k ps
        → cond t (max (next p) (next_of k ps)) (next_of k ps) ≡ (or_new (session_at (p ∷ ps) (cond t 0 (suc (place_of k ps))))).next_out
    go true e ih = omega (arith, none_has k ps (other k p ps d e), n 0 p refl)
    go false e ih = ih

pub the_session : (k : Key) (ps : List Place) → Apart ps → Numbered ps → next_of k ps ≡ bound_next k ps
the_session k ps a n = bound_is k ps (distinct ps a) n

-- where no two places have one key: ahead in each session is ahead in each key
pub sessions_are_keys : (mine theirs : List Place) → Apart mine → Numbered mine → Apart theirs → Numbered theirs
    → (is_ahead mine theirs ≡ true → (k : Key) → bound_next k theirs ≤ bound_next k mine) × (((k : Key) → bound_next k theirs ≤ bound_next k mine) → is_ahead mine theirs ≡ true)
sessions_are_keys mine theirs am nm at nt = (
  λ h k. omega (arith, the_session k mine am nm, the_session k theirs at nt, each_key mine theirs h k),
  λ h. each_session mine theirs (λ k. omega (arith, the_session k mine am nm, the_session k theirs at nt, h k)),
)
