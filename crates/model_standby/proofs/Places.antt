-- The session places: what a number and a key find after each operation; keys tell places apart.
-- Assumes nothing.
use mathlib.Core.Path.{◌≡◌, refl, sym, ap, subst, ◌∙◌}
use Prim.Native.Nat.{ℕ, zero, suc, ◌+◌, ◌≤◌, ◌<◌}
use native.Mathlib.Omega.{arith}
use native.Mathlib.Nat.{lt_trans, le_refl, eq-or-lt_of_le}
use mathlib.Core.List.{List, [], ◌∷◌, ◌++◌}
use mathlib.Core.Option.{Option, none, some, map}
use mathlib.Core.Bool.{Bool, true, false, cond, ◌&&◌, ◌||◌}
use mathlib.Core.Logic.{◌⊎◌, inl, inr}
use lib.ListN.{length, length-append, get_elem?}
use lib.Dec.{T, eqb, eqb→eq, ltb, ltb→lt, nltb→le}
use Rattle.model_frame.specs.Frame.{Key}
use Rattle.model_frame.specs.Parse.{Each}
use Rattle.model_session.specs.Session.{Session}
use Rattle.model_standby.specs.Store.{Stored, Place, same_bytes, same_key, place_of, is_stored, on_stored, on_place, on_places, session_at, mark_durable, new_place, opened, mark_all}
use Rattle.model_standby.specs.State.{Standby}
use Rattle.model_standby.specs.Standby.{run_pending}
use Rattle.model_standby.specs.PlainCopy.{OwnKey, key_count, own_key, key_is}
use Rattle.model_session.proofs.Basics.{T→true, true→T, and_l, and_r, and_true, eqb_true, eqb_sound, cond_cases, none≢some, some_inj, true≢false, false→not_t}

-- ---- keys

bytes_sound : (x y : List ℕ) → T (same_bytes x y) → x ≡ y
bytes_sound [] [] t = refl
bytes_sound [] (b ∷ y) t = absurd t
bytes_sound (a ∷ x) [] t = absurd t
bytes_sound (a ∷ x) (b ∷ y) t =
    let p : a ≡ b = eqb→eq a b (and_l (eqb a b) (same_bytes x y) t) in
    let q : x ≡ y = bytes_sound x y (and_r (eqb a b) (same_bytes x y) t) in
    cc

bytes_self : (x : List ℕ) → same_bytes x x ≡ true
bytes_self [] = refl
bytes_self (a ∷ x) = and_true (eqb_true a) (bytes_self x)

key_path : (a b : Key) → a.begin ≡ b.begin → a.sender ≡ b.sender → a.target ≡ b.target → a.suffix ≡ b.suffix → a ≡ b
key_path a b p q r s = λ i. record { begin = p i; sender = q i; target = r i; suffix = s i }

pub key_sound : (a b : Key) → same_key a b ≡ true → a ≡ b
key_sound a b e =
    let t = true→T (same_key a b) e in
    let t₁ = and_r (same_bytes a.begin b.begin) (same_bytes a.sender b.sender && (same_bytes a.target b.target && same_bytes a.suffix b.suffix)) t in
    let t₂ = and_r (same_bytes a.sender b.sender) (same_bytes a.target b.target && same_bytes a.suffix b.suffix) t₁ in
    key_path a b
    (bytes_sound _ _ (and_l (same_bytes a.begin b.begin) (same_bytes a.sender b.sender && (same_bytes a.target b.target && same_bytes a.suffix b.suffix)) t))
    (bytes_sound _ _ (and_l (same_bytes a.sender b.sender) (same_bytes a.target b.target && same_bytes a.suffix b.suffix) t₁))
    (bytes_sound _ _ (and_l (same_bytes a.target b.target) (same_bytes a.suffix b.suffix) t₂))
    (bytes_sound _ _ (and_r (same_bytes a.target b.target) (same_bytes a.suffix b.suffix) t₂))

pub key_self : (a : Key) → same_key a a ≡ true
key_self a = and_true (bytes_self a.begin) (and_true (bytes_self a.sender) (and_true (bytes_self a.target) (bytes_self a.suffix)))

-- ---- lookup

pub at_there : {A : Type 0} (l : List A) (n : ℕ) (a : A) → get_elem? l n ≡ some a → n < length l
at_there [] n a p = absurd (none≢some p)
at_there (x ∷ l) zero a p = omega arith
at_there (x ∷ l) (suc n) a p = omega (arith, at_there l n a p)

pub at_append : {A : Type 0} (l m : List A) (n : ℕ) → n < length l → get_elem? (l ++ m) n ≡ get_elem? l n
at_append [] m n h = absurd (omega arith)
at_append (x ∷ l) m zero h = refl
at_append (x ∷ l) m (suc n) h = at_append l m n (omega arith)

-- what a map found was there
pub map_some : {A B : Type 0} (g : A → B) (o : Option A) (x : B) → map g o ≡ some x → (a : A) × (o ≡ some a) × (g a ≡ x)
map_some g none x p = absurd (none≢some p)
map_some g (some a) x p = (a, refl, some_inj p)

pub session_there : (ps : List Place) (n : ℕ) (x : Session) → session_at ps n ≡ some x → n < length ps
session_there ps n x p =
    let m = map_some (λ (y : Place). y.stored.session) (get_elem? ps n) x p in
    at_there ps n m.0 m.1

-- ---- the first place with a key

pub place_low : (k : Key) (ps : List Place) → place_of k ps ≤ length ps
place_low k [] = omega arith
place_low k (x ∷ ps) = cond_cases (λ (n : ℕ). n ≤ suc (length ps)) (same_key k x.key) (λ _. omega arith) (λ _. omega (arith, place_low k ps))

-- the key at a place
abbrev pub key_at : List Place → ℕ → Option Key
key_at ps n = map (λ (x : Place). x.key) (get_elem? ps n)

-- the place found has the key
pub place_key : (k : Key) (ps : List Place) → place_of k ps < length ps → key_at ps (place_of k ps) ≡ some k
place_key k [] h = absurd (omega arith)
place_key k (x ∷ ps) h = go (same_key k x.key) refl h (place_key k ps)
  where
    go : (b : Bool) → same_key k x.key ≡ b → cond b 0 (suc (place_of k ps)) < suc (length ps) → (place_of k ps < length ps → key_at ps (place_of k ps) ≡ some k)
        → key_at (x ∷ ps) (cond b 0 (suc (place_of k ps))) ≡ some k
    go true e h ih = ap {B = Option Key} some (sym (key_sound k x.key e))
    go false e h ih = ih (omega arith)

-- no place before it has the key
place_first : (k : Key) (ps : List Place) (n : ℕ) → key_at ps n ≡ some k → place_of k ps ≤ n
place_first k [] n p = absurd (none≢some p)
place_first k (x ∷ ps) zero p = go (same_key k x.key) refl
  where
    go : (b : Bool) → same_key k x.key ≡ b → cond b 0 (suc (place_of k ps)) ≤ 0
    go true e = omega arith
    go false e = absurd (true≢false (sym (key_self k) ∙ ap (same_key k) (sym (some_inj p)) ∙ e))
place_first k (x ∷ ps) (suc n) p = cond_cases (λ (m : ℕ). m ≤ suc n) (same_key k x.key) (λ _. omega arith) (λ _. omega (arith, place_first k ps n p))

pub earlier_none : (k : Key) (ps : List Place) → key_count k (place_of k ps) ps ≡ 0
earlier_none k [] = refl
earlier_none k (x ∷ ps) = go (same_key k x.key) refl (earlier_none k ps)
  where
    go : (b : Bool) → same_key k x.key ≡ b → key_count k (place_of k ps) ps ≡ 0 → key_count k (cond b 0 (suc (place_of k ps))) (x ∷ ps) ≡ 0
    go true e ih = refl
    go false e ih = omega (arith, ih, ap (λ (c : Bool). cond {A = ℕ} c 1 0) e)

pub key_there : (ps : List Place) (n : ℕ) (k : Key) → key_at ps n ≡ some k → n < length ps
key_there ps n k p =
    let m = map_some (λ (y : Place). y.key) (get_elem? ps n) k p in
    at_there ps n m.0 m.1

-- ---- own keys

-- of two places with the same key the later has more before it
earlier_less : (k : Key) (m n : ℕ) (ps : List Place) → m < n → key_at ps m ≡ some k → key_count k m ps < key_count k n ps
earlier_less k m n [] h p = absurd (none≢some p)
earlier_less k m zero (x ∷ ps) h p = absurd (omega arith)
earlier_less k zero (suc n) (x ∷ ps) h p =
    let e : same_key k x.key ≡ true = ap (same_key k) (some_inj p) ∙ key_self k in
    omega (arith, ap (λ (c : Bool). cond {A = ℕ} c 1 0) e)
earlier_less k (suc m) (suc n) (x ∷ ps) h p = omega (arith, earlier_less k m n ps (omega arith) p)

-- a place's own key, taken apart
pub own_parts : (ps : List Place) (n : ℕ) (k : OwnKey) → own_key ps n ≡ some k → (key_at ps n ≡ some k.key) × (k.earlier ≡ key_count k.key n ps)
own_parts ps n k p = go (get_elem? ps n) p
  where
    go : (o : Option Place) → map (λ (x : Place). record { key = x.key; earlier = key_count x.key n ps }) o ≡ some k → (map (λ (x : Place). x.key) o ≡ some k.key) × (k.earlier ≡ key_count k.key n ps)
    go none q = absurd (none≢some q)
    go (some x) q =
        let kx : x.key ≡ k.key = ap (λ (j : OwnKey). j.key) (some_inj q) in
        (ap {B = Option Key} some kx, sym (ap (λ (j : OwnKey). j.earlier) (some_inj q)) ∙ ap (λ (j : Key). key_count j n ps) kx)

own_sound : (k j : OwnKey) → key_is k (some j) ≡ true → (k.key ≡ j.key) × (k.earlier ≡ j.earlier)
own_sound k j e =
    let t = true→T (same_key k.key j.key && eqb k.earlier j.earlier) e in (
      key_sound k.key j.key (T→true _ (and_l (same_key k.key j.key) (eqb k.earlier j.earlier) t)),
      eqb→eq k.earlier j.earlier (and_r (same_key k.key j.key) (eqb k.earlier j.earlier) t),
    )

own_self : (k : OwnKey) → key_is k (some k) ≡ true
own_self k = and_true (key_self k.key) (eqb_true k.earlier)

-- no place before another has its own key
own_later : (ps : List Place) (m n : ℕ) (k j : OwnKey) → m < n → own_key ps m ≡ some k → own_key ps n ≡ some j → k.key ≡ j.key → k.earlier ≡ j.earlier → ⊥
own_later ps m n k j h p q e f =
    let pk = own_parts ps m k p in
    let pj = own_parts ps n j q in
    let less : key_count k.key m ps < key_count k.key n ps = earlier_less k.key m n ps h pk.0 in
    omega (arith, less, pk.1, pj.1, ap (λ (x : Key). key_count x n ps) e)

-- two places with the same own key are the same place
pub own_apart : (ps : List Place) (m n : ℕ) (k j : OwnKey) → own_key ps m ≡ some k → own_key ps n ≡ some j → key_is k (some j) ≡ eqb n m
own_apart ps m n k j p q = go (eqb n m) refl
  where
    apart : (b : Bool) → key_is k (some j) ≡ b → eqb n m ≡ false → key_is k (some j) ≡ false
    apart false r e = r
    apart true r e = absurd (two (ltb m n) refl)
      where
        same : (k.key ≡ j.key) × (k.earlier ≡ j.earlier)
        same = own_sound k j r

        three : (n ≡ m) ⊎ (n < m) → ⊥
        three (inl x) = true≢false (sym (eqb_true m) ∙ ap (λ (z : ℕ). eqb z m) (sym x) ∙ e)
        three (inr x) = own_later ps n m j k x q p (sym same.0) (sym same.1)

        two : (c : Bool) → ltb m n ≡ c → ⊥
        two true x = own_later ps m n k j (ltb→lt m n (true→T (ltb m n) x)) p q same.0 same.1
        two false x = three (eq-or-lt_of_le (nltb→le m n (false→not_t (ltb m n) x)))

    go : (b : Bool) → eqb n m ≡ b → key_is k (some j) ≡ eqb n m
    go true e =
        let nm : n ≡ m = eqb_sound n m e in
        let kj : k ≡ j = some_inj (sym p ∙ ap (own_key ps) (sym nm) ∙ q) in
        ap (λ (x : OwnKey). key_is k (some x)) (sym kj) ∙ own_self k ∙ sym e
    go false e = apart (key_is k (some j)) refl e ∙ sym e

-- a place's own key is k just if it is the place of k
pub own_is : (ps : List Place) (here n : ℕ) (k : OwnKey) → own_key ps here ≡ some k → key_is k (own_key ps n) ≡ eqb n here
own_is ps here n k p = go (own_key ps n) refl
  where
    gone : (b : Bool) → eqb n here ≡ b → own_key ps n ≡ none → false ≡ b
    gone false e q = refl
    gone true e q = absurd (none≢some (sym q ∙ ap (own_key ps) (eqb_sound n here e) ∙ p))

    go : (o : Option OwnKey) → own_key ps n ≡ o → key_is k o ≡ eqb n here
    go none q = gone (eqb n here) refl q ∙ refl
    go (some j) q = own_apart ps here n k j p q

-- a Bind's key is k just if it binds to the place of k
pub bind_is : (ps : List Place) (here : ℕ) (k : OwnKey) (j : Key) → own_key ps here ≡ some k → key_is k (some (record { key = j; earlier = 0 })) ≡ eqb (place_of j ps) here
bind_is ps here k j p = go (eqb (place_of j ps) here) refl
  where
    parts : (key_at ps here ≡ some k.key) × (k.earlier ≡ key_count k.key here ps)
    parts = own_parts ps here k p

    yes : place_of j ps ≡ here → key_is k (some (record { key = j; earlier = 0 })) ≡ true
    yes e =
        let there : place_of j ps < length ps = subst (λ (n : ℕ). n < length ps) (sym e) (key_there ps here k.key parts.0) in
        let kj : k.key ≡ j = some_inj (sym parts.0 ∙ ap (key_at ps) (sym e) ∙ place_key j ps there) in
        let none_before : k.earlier ≡ 0 = parts.1 ∙ ap (λ (x : Key). key_count x here ps) kj ∙ ap (λ (n : ℕ). key_count j n ps) (sym e) ∙ earlier_none j ps in
        and_true (ap (λ (x : Key). same_key x j) kj ∙ key_self j) (ap (λ (n : ℕ). eqb n 0) none_before)

    no : (b : Bool) → key_is k (some (record { key = j; earlier = 0 })) ≡ b → eqb (place_of j ps) here ≡ false → key_is k (some (record { key = j; earlier = 0 })) ≡ false
    no false r e = r
    no true r e = absurd (two (eq-or-lt_of_le (place_first j ps here at_here)))
      where
        same : (k.key ≡ j) × (k.earlier ≡ 0)
        same = own_sound k (record { key = j; earlier = 0 }) r

        at_here : key_at ps here ≡ some j
        at_here = parts.0 ∙ ap {B = Option Key} some same.0

        two : (place_of j ps ≡ here) ⊎ (place_of j ps < here) → ⊥
        two (inl x) = true≢false (sym (eqb_true here) ∙ ap (λ (z : ℕ). eqb z here) (sym x) ∙ e)
        two (inr x) =
            let there : place_of j ps < length ps = lt_trans x (key_there ps here j at_here) in
            omega (arith, earlier_less j (place_of j ps) here ps x (place_key j ps there), parts.1, same.1, ap (λ (y : Key). key_count y here ps) same.0)

    go : (b : Bool) → eqb (place_of j ps) here ≡ b → key_is k (some (record { key = j; earlier = 0 })) ≡ eqb (place_of j ps) here
    go true e = yes (eqb_sound (place_of j ps) here e) ∙ sym e
    go false e = no (key_is k (some (record { key = j; earlier = 0 }))) refl e ∙ sym e

-- ---- after f on a place

pub length_on : (m : ℕ) (f : Stored → Stored) (ps : List Place) → length (on_place m f ps) ≡ length ps
length_on m f [] = refl
length_on zero f (x ∷ ps) = refl
length_on (suc m) f (x ∷ ps) = ap suc (length_on m f ps)

pub at_on_same : (n : ℕ) (f : Stored → Stored) (ps : List Place) → get_elem? (on_place n f ps) n ≡ map (on_stored f) (get_elem? ps n)
at_on_same n f [] = refl
at_on_same zero f (x ∷ ps) = refl
at_on_same (suc n) f (x ∷ ps) = at_on_same n f ps

eqb_suc : (m n : ℕ) → eqb (suc m) (suc n) ≡ false → eqb m n ≡ false
eqb_suc m n e = go (eqb m n) refl
  where
    go : (b : Bool) → eqb m n ≡ b → eqb m n ≡ false
    go false p = p
    go true p = absurd (true≢false (sym (eqb_true (suc m)) ∙ ap (λ (x : ℕ). eqb (suc m) (suc x)) (eqb_sound m n p) ∙ e))

pub at_on_other : (n m : ℕ) (f : Stored → Stored) (ps : List Place) → eqb m n ≡ false → get_elem? (on_place m f ps) n ≡ get_elem? ps n
at_on_other n m f [] e = refl
at_on_other zero zero f (x ∷ ps) e = absurd (true≢false (sym (eqb_true 0) ∙ e))
at_on_other (suc n) zero f (x ∷ ps) e = refl
at_on_other zero (suc m) f (x ∷ ps) e = refl
at_on_other (suc n) (suc m) f (x ∷ ps) e = at_on_other n m f ps (eqb_suc m n e)

-- keys stay
key_on : (n m : ℕ) (f : Stored → Stored) (ps : List Place) → key_at (on_place m f ps) n ≡ key_at ps n
key_on n m f [] = refl
key_on zero zero f (x ∷ ps) = refl
key_on (suc n) zero f (x ∷ ps) = refl
key_on zero (suc m) f (x ∷ ps) = refl
key_on (suc n) (suc m) f (x ∷ ps) = key_on n m f ps

earlier_on : (k : Key) (n m : ℕ) (f : Stored → Stored) (ps : List Place) → key_count k n (on_place m f ps) ≡ key_count k n ps
earlier_on k n m f [] = refl
earlier_on k zero m f (x ∷ ps) = refl
earlier_on k (suc n) zero f (x ∷ ps) = refl
earlier_on k (suc n) (suc m) f (x ∷ ps) = ap (λ (c : ℕ). cond (same_key k x.key) 1 0 + c) (earlier_on k n m f ps)

-- an own key from its parts
pub own_made : (ps : List Place) (n : ℕ) (k : OwnKey) → key_at ps n ≡ some k.key → k.earlier ≡ key_count k.key n ps → own_key ps n ≡ some k
own_made ps n k p q = go (get_elem? ps n) p
  where
    go : (o : Option Place) → map (λ (x : Place). x.key) o ≡ some k.key → map (λ (x : Place). record { key = x.key; earlier = key_count x.key n ps }) o ≡ some k
    go none r = absurd (none≢some r)
    go (some x) r = λ i. some (record { key = some_inj r i; earlier = (ap (λ (j : Key). key_count j n ps) (some_inj r) ∙ sym q) i })

pub own_on : (n m : ℕ) (f : Stored → Stored) (ps : List Place) (k : OwnKey) → own_key ps n ≡ some k → own_key (on_place m f ps) n ≡ some k
own_on n m f ps k p =
    let o = own_parts ps n k p in
    own_made (on_place m f ps) n k (key_on n m f ps ∙ o.0) (o.1 ∙ sym (earlier_on k.key n m f ps))

-- marking changes no session
mark_one : (n m : ℕ) (ps : List Place) → session_at (on_place m mark_durable ps) n ≡ session_at ps n
mark_one n m [] = refl
mark_one zero zero (x ∷ ps) = refl
mark_one (suc n) zero (x ∷ ps) = refl
mark_one zero (suc m) (x ∷ ps) = refl
mark_one (suc n) (suc m) (x ∷ ps) = mark_one n m ps

mark_session : (n : ℕ) (cs : List (ℕ × ℕ)) (ps : List Place) → session_at (mark_all cs ps) n ≡ session_at ps n
mark_session n [] ps = refl
mark_session n (c ∷ cs) ps = mark_session n cs (on_place c.1 mark_durable ps) ∙ mark_one n c.1 ps

mark_own : (n : ℕ) (cs : List (ℕ × ℕ)) (ps : List Place) (k : OwnKey) → own_key ps n ≡ some k → own_key (mark_all cs ps) n ≡ some k
mark_own n [] ps k p = p
mark_own n (c ∷ cs) ps k p = mark_own n cs (on_place c.1 mark_durable ps) k (own_on n c.1 mark_durable ps k p)

mark_length : (cs : List (ℕ × ℕ)) (ps : List Place) → length (mark_all cs ps) ≡ length ps
mark_length [] ps = refl
mark_length (c ∷ cs) ps = mark_length cs (on_place c.1 mark_durable ps) ∙ length_on c.1 mark_durable ps

pub pending_session : (w : Bool) (s : Standby) (n : ℕ) → session_at (run_pending w s).places n ≡ session_at s.places n
pending_session true s n = mark_session n s.pending s.places
pending_session false s n = refl

pub pending_own : (w : Bool) (s : Standby) (n : ℕ) (k : OwnKey) → own_key s.places n ≡ some k → own_key (run_pending w s).places n ≡ some k
pending_own true s n k p = mark_own n s.pending s.places k p
pending_own false s n k p = p

pub pending_length : (w : Bool) (s : Standby) → length (run_pending w s).places ≡ length s.places
pending_length true s = mark_length s.pending s.places
pending_length false s = refl

-- ---- a place for a key

pub earlier_append : (k : Key) (n : ℕ) (ps qs : List Place) → n ≤ length ps → key_count k n (ps ++ qs) ≡ key_count k n ps
earlier_append k zero ps qs h = refl
earlier_append k (suc n) [] qs h = absurd (omega arith)
earlier_append k (suc n) (x ∷ ps) qs h = ap (λ (c : ℕ). cond (same_key k x.key) 1 0 + c) (earlier_append k n ps qs (omega arith))

own_append : (ps qs : List Place) (n : ℕ) (k : OwnKey) → own_key ps n ≡ some k → own_key (ps ++ qs) n ≡ some k
own_append ps qs n k p =
    let o = own_parts ps n k p in
    let there : n < length ps = key_there ps n k.key o.0 in
    own_made (ps ++ qs) n k (ap (map (λ (x : Place). x.key)) (at_append ps qs n there) ∙ o.0) (o.1 ∙ sym (earlier_append k.key n ps qs (omega arith)))

pub open_own : (j : Key) (ps : List Place) (n : ℕ) (k : OwnKey) → own_key ps n ≡ some k → own_key (opened j ps) n ≡ some k
open_own j ps n k p = cond_cases (λ (l : List Place). own_key l n ≡ some k) (is_stored j ps) (λ _. p) (λ _. own_append ps (new_place j ∷ []) n k p)

pub open_session : (j : Key) (ps : List Place) (n : ℕ) → n < length ps → session_at (opened j ps) n ≡ session_at ps n
open_session j ps n h =
    cond_cases (λ (l : List Place). session_at l n ≡ session_at ps n) (is_stored j ps) (λ _. refl)
    (λ _. ap (map (λ (x : Place). x.stored.session)) (at_append ps (new_place j ∷ []) n h))

pub open_length : (j : Key) (ps : List Place) → length ps ≤ length (opened j ps)
open_length j ps = cond_cases (λ (l : List Place). length ps ≤ length l) (is_stored j ps) (λ _. le_refl (length ps)) (λ _. omega (arith, length-append ps (new_place j ∷ [])))

pub open_few : (j : Key) (ps : List Place) (n : ℕ) → length ps ≤ n → (is_stored j ps || ltb (length ps) n) ≡ true → length (opened j ps) ≤ n
open_few j ps n h p = go (is_stored j ps) p
  where
    go : (b : Bool) → (b || ltb (length ps) n) ≡ true → length (cond b ps (ps ++ (new_place j ∷ []))) ≤ n
    go true q = h
    go false q = omega (arith, length-append ps (new_place j ∷ []), ltb→lt (length ps) n (true→T (ltb (length ps) n) q))

pub open_there : (j : Key) (ps : List Place) → place_of j ps < length (opened j ps)
open_there j ps =
    cond_cases (λ (l : List Place). place_of j ps < length l) (is_stored j ps) (λ t. ltb→lt (place_of j ps) (length ps) t)
    (λ _. omega (arith, length-append ps (new_place j ∷ []), place_low j ps))

-- ---- of all places

pub each_at : {A : Type 0} (P : A → Type 0) (l : List A) (n : ℕ) (a : A) → get_elem? l n ≡ some a → Each P l → P a
each_at P [] n a p q = absurd (none≢some p)
each_at P (x ∷ l) zero a p q = subst P (some_inj p) q.0
each_at P (x ∷ l) (suc n) a p q = each_at P l n a p q.1

pub each_on : (P : Place → Type 0) (m : ℕ) (f : Stored → Stored) (ps : List Place) → ((x : Place) → get_elem? ps m ≡ some x → P x → P (on_stored f x)) → Each P ps → Each P (on_place m f ps)
each_on P m f [] g p = tt
each_on P zero f (x ∷ ps) g p = (g x refl p.0, p.1)
each_on P (suc m) f (x ∷ ps) g p = (p.0, each_on P m f ps g p.1)

pub each_places : (P : Place → Type 0) (f : Stored → Stored) (ps : List Place) → ((x : Place) → P x → P (on_stored f x)) → Each P ps → Each P (on_places f ps)
each_places P f [] g p = tt
each_places P f (x ∷ ps) g p = (g x p.0, each_places P f ps g p.1)

pub length_places : (f : Stored → Stored) (ps : List Place) → length (on_places f ps) ≡ length ps
length_places f [] = refl
length_places f (x ∷ ps) = ap suc (length_places f ps)

pub each_mark : (P : Place → Type 0) (cs : List (ℕ × ℕ)) (ps : List Place) → ((x : Place) → P x → P (on_stored mark_durable x)) → Each P ps → Each P (mark_all cs ps)
each_mark P [] ps g p = p
each_mark P (c ∷ cs) ps g p = each_mark P cs (on_place c.1 mark_durable ps) g (each_on P c.1 mark_durable ps (λ x _. g x) p)
