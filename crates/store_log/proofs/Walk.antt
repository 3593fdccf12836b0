-- The log that the entries hold: one message more at the newest end cuts the oldest ones off, which is what `evict` does. Assumes nothing.
use Rattle.std.proofs.Common.{◌≡◌, ℕ, zero, suc, ◌+◌, ◌-◌, ◌<◌, ◌≤◌, cond, leb, ◌⊎◌, List, [], ◌∷◌, ◌++◌, reverse, length, take, drop, sym, refl, ap, ◌∙◌, inl, inr, zero-add, arith, length-append, length-drop, length-take-le, drop-drop, drop_at, le-ltb, lt-ltb, le-leb}
use mathlib.Core.Bool.{and-false}
use mathlib.Core.List.{reverse-cons, reverse-reverse}
use native.Mathlib.Decide.{dec_le}
use borrow.Author.Tests.{lt-leb}
use lib.ListN.{length-reverse}
use lib.Seq.{drop-append-le, take-append-le, take-length}
use Rattle.model_session.proofs.Sending.{total_append}
use Rattle.model_session.specs.Session.{Msg, stored_bytes, evict, keep}
use Rattle.store_log.specs.Log.{msg, Entry, entry, walk}

-- ---- cases

pub cmp : (a b : ℕ) → (a ≤ b) ⊎ (b < a)
cmp a b = go (dec_le a b)
  where
    go : Dec (a ≤ b) → (a ≤ b) ⊎ (b < a)
    go (yes h) = inl h
    go (no h) = inr (omega arith)

-- what the walk finds at an entry
pub data Look (C d bound n l : ℕ) : Type 0 where
  hit : 1 ≤ n → n < bound → d + l ≤ C → Look C d bound n l
  low : n < 1 → Look C d bound n l
  high : bound ≤ n → Look C d bound n l
  full : C < d + l → Look C d bound n l

pub look : (C d bound n l : ℕ) → Look C d bound n l
look C d bound n l = go (cmp 1 n) (cmp bound n) (cmp (d + l) C)
  where
    go : (1 ≤ n) ⊎ (n < 1) → (bound ≤ n) ⊎ (n < bound) → (d + l ≤ C) ⊎ (C < d + l) → Look C d bound n l
    go (inr h) b c = low h
    go (inl h) (inl k) c = high k
    go (inl h) (inr k) (inl r) = hit h k r
    go (inl h) (inr k) (inr r) = full r

module _ (C : ℕ) (u : List ℕ) (n l : ℕ) (es : List Entry) (d bound : ℕ) where
  pub walk_hit : 1 ≤ n → n < bound → d + l ≤ C
      → walk C u (entry n l ∷ es) d bound ≡ msg n (take l (drop (C - (d + l)) u)) ∷ walk C u es (d + l) n
  walk_hit p q r = simp (le-leb 1 n p, lt-ltb n bound q, le-leb (d + l) C r)

  pub walk_low : n < 1 → walk C u (entry n l ∷ es) d bound ≡ []
  walk_low p = simp (lt-leb 1 n p)

  pub walk_high : bound ≤ n → walk C u (entry n l ∷ es) d bound ≡ []
  walk_high p = simp (le-ltb n bound p, and-false)

  pub walk_full : C < d + l → walk C u (entry n l ∷ es) d bound ≡ []
  walk_full p = simp (lt-leb (d + l) C p, and-false)

-- ---- the newest that fit: at most m, within C with d taken already

pub fit : ℕ → ℕ → ℕ → List Msg → List Msg
fit C d zero l = []
fit C d (suc m) [] = []
fit C d (suc m) (x ∷ l) = cond (leb (d + length x.text) C) (x ∷ fit C (d + length x.text) m l) []

fit_zero : (C d : ℕ) (l : List Msg) → fit C d zero l ≡ []
unfolding fit
fit_zero C d l = refl

fit_nil : (C d m : ℕ) → fit C d m [] ≡ []
unfolding fit
fit_nil C d zero = refl
fit_nil C d (suc m) = refl

module _ (C d m n : ℕ) (b : List ℕ) (l : List Msg) where
  fit_hit : d + length b ≤ C → fit C d (suc m) (msg n b ∷ l) ≡ msg n b ∷ fit C (d + length b) m l
  unfolding fit
  fit_hit h = simp (le-leb (d + length b) C h)

  fit_full : C < d + length b → fit C d (suc m) (msg n b ∷ l) ≡ []
  unfolding fit
  fit_full h = simp (lt-leb (d + length b) C h)

-- ---- what the ring says after a write of x

module _ (C : ℕ) (u x : List ℕ) (lu : length u ≡ C) where
  bytes_kept : (d l : ℕ) → d + length x + l ≤ C
      → take l (drop (C - (d + length x + l)) (drop (length x) u ++ x)) ≡ take l (drop (C - (d + l)) u)
  bytes_kept d l h =
      let a : C - (d + length x + l) ≤ length (drop (length x) u) = simp length-drop (omega arith) in
      let e : length x + (C - (d + length x + l)) ≡ C - (d + l) = omega arith in
      let b : l ≤ length (drop (C - (d + l)) u) = simp length-drop (omega arith) in
      rw (drop-append-le (C - (d + length x + l)) (drop (length x) u) x a, drop-drop (C - (d + length x + l)) (length x) u, e, take-append-le l (drop (C - (d + l)) u) x b)

  long : (d l : ℕ) → d + l ≤ C → length (take l (drop (C - (d + l)) u)) ≡ l
  long d l h = length-take-le l (drop (C - (d + l)) u) (simp length-drop (omega arith))

  abbrev u' : List ℕ
  u' = drop (length x) u ++ x

  step : (n l : ℕ) (es : List Entry) (m d e bound : ℕ) → e ≡ d + length x
      → walk C u' (take m es) (e + l) n ≡ fit C (e + l) m (walk C u es (d + l) n)
      → Look C d bound n l
      → walk C u' (entry n l ∷ take m es) e bound ≡ fit C e (suc m) (walk C u (entry n l ∷ es) d bound)
  step n l es m d e bound q rec (low p) =
      walk_low C u' n l (take m es) e bound p ∙ sym (ap (fit C e (suc m)) (walk_low C u n l es d bound p) ∙ fit_nil C e (suc m))
  step n l es m d e bound q rec (high p) =
      walk_high C u' n l (take m es) e bound p ∙ sym (ap (fit C e (suc m)) (walk_high C u n l es d bound p) ∙ fit_nil C e (suc m))
  step n l es m d e bound q rec (full p) =
      let p' : C < e + l = omega arith in
      walk_full C u' n l (take m es) e bound p' ∙ sym (ap (fit C e (suc m)) (walk_full C u n l es d bound p) ∙ fit_nil C e (suc m))
  step n l es m d e bound q rec (hit p k r) = go (cmp (e + l) C)
    where
      A : List ℕ
      A = take l (drop (C - (d + l)) u)

      L : List Msg
      L = walk C u es (d + l) n

      la : length A ≡ l
      la = long d l r

      back : fit C e (suc m) (walk C u (entry n l ∷ es) d bound) ≡ fit C e (suc m) (msg n A ∷ L)
      back = ap (fit C e (suc m)) (walk_hit C u n l es d bound p k r)

      go : (e + l ≤ C) ⊎ (C < e + l) → walk C u' (entry n l ∷ take m es) e bound ≡ fit C e (suc m) (walk C u (entry n l ∷ es) d bound)
      go (inr f) =
          let f' : C < e + length A = omega (arith, la) in
          walk_full C u' n l (take m es) e bound f ∙ sym (back ∙ fit_full C e m n A L f')
      go (inl f) =
          let f' : e + length A ≤ C = omega (arith, la) in
          let same : take l (drop (C - (e + l)) u') ≡ A = rw q (bytes_kept d l (omega arith)) in
          walk_hit C u' n l (take m es) e bound p k f
          ∙ (λ i. msg n (same i) ∷ rec i)
          ∙ ap (λ (j : ℕ). msg n A ∷ fit C (e + j) m L) (sym la)
          ∙ sym (back ∙ fit_hit C e m n A L f')

  -- after the write the walk finds what it found before, as far as there is room beside x
  pub walk_kept : (es : List Entry) (m d e bound : ℕ) → e ≡ d + length x
      → walk C u' (take m es) e bound ≡ fit C e m (walk C u es d bound)
  walk_kept [] zero d e bound q = sym (fit_nil C e zero)
  walk_kept [] (suc m) d e bound q = sym (fit_nil C e (suc m))
  walk_kept (entry n l ∷ es) zero d e bound q = sym (fit_zero C e (walk C u (entry n l ∷ es) d bound))
  walk_kept (entry n l ∷ es) (suc m) d e bound q =
      step n l es m d e bound q (walk_kept es m (d + l) (e + l) n (omega arith)) (look C d bound n l)

-- ---- the same as `evict`

fit_all : (C d m : ℕ) (l : List Msg) → d + stored_bytes l ≤ C → length l ≤ m → fit C d m l ≡ l
fit_all C d m [] h k = fit_nil C d m
fit_all C d zero (x ∷ l) h k = absurd (omega arith)
fit_all C d (suc m) (x ∷ l) h k =
    fit_hit C d m x.num x.text l (omega arith) ∙ ap (λ (t : List Msg). x ∷ t) (fit_all C (d + length x.text) m l (omega arith) (omega arith))

-- too many with x: x goes
abbrev Over : ℕ → ℕ → ℕ → List Msg → Type 0
Over C d m l = (C < d + stored_bytes l) ⊎ (m < length l)

cut_step : (C d m n : ℕ) (b : List ℕ) (l : List Msg) (x : Msg) → (Over C (d + length b) m (l ++ (x ∷ [])) → fit C (d + length b) m (l ++ (x ∷ [])) ≡ fit C (d + length b) m l)
    → (d + length b ≤ C) ⊎ (C < d + length b) → Over C d (suc m) (msg n b ∷ (l ++ (x ∷ [])))
    → fit C d (suc m) (msg n b ∷ (l ++ (x ∷ []))) ≡ fit C d (suc m) (msg n b ∷ l)
cut_step C d m n b l x rec (inr f) h = fit_full C d m n b (l ++ (x ∷ [])) f ∙ sym (fit_full C d m n b l f)
cut_step C d m n b l x rec (inl f) (inl h) = fit_hit C d m n b (l ++ (x ∷ [])) f ∙ ap (λ (t : List Msg). msg n b ∷ t) (rec (inl (omega arith))) ∙ sym (fit_hit C d m n b l f)
cut_step C d m n b l x rec (inl f) (inr h) = fit_hit C d m n b (l ++ (x ∷ [])) f ∙ ap (λ (t : List Msg). msg n b ∷ t) (rec (inr (omega arith))) ∙ sym (fit_hit C d m n b l f)

fit_cut : (C d m : ℕ) (l : List Msg) (x : Msg) → Over C d m (l ++ (x ∷ [])) → fit C d m (l ++ (x ∷ [])) ≡ fit C d m l
fit_cut C d zero l x h = fit_zero C d (l ++ (x ∷ [])) ∙ sym (fit_zero C d l)
fit_cut C d (suc m) [] x (inl h) = fit_full C d m x.num x.text [] (omega arith) ∙ sym (fit_nil C d (suc m))
fit_cut C d (suc m) [] x (inr h) = absurd (omega arith)
fit_cut C d (suc m) (y ∷ l) x h = cut_step C d m y.num y.text l x (fit_cut C (d + length y.text) m l x) (cmp (d + length y.text) C) h

pub stored_reverse : (l : List Msg) → stored_bytes (reverse l) ≡ stored_bytes l
stored_reverse [] = refl
stored_reverse (x ∷ l) = ap stored_bytes (reverse-cons x l) ∙ total_append (reverse l) (x ∷ []) ∙ omega (arith, stored_reverse l)

-- one step of `evict`, by whether there is room
evict_step : (C m k n : ℕ) (b : List ℕ) (l : List Msg) → reverse (fit C k m (reverse l)) ≡ evict C (suc m) k l
    → (stored_bytes (msg n b ∷ l) + k ≤ C) ⊎ (C < stored_bytes (msg n b ∷ l) + k) → (length (msg n b ∷ l) ≤ m) ⊎ (m < length (msg n b ∷ l))
    → reverse (fit C k m (reverse (msg n b ∷ l))) ≡ evict C (suc m) k (msg n b ∷ l)
evict_step C m k n b l rec (inl h) (inl j) =
    ap reverse (fit_all C k m (reverse (msg n b ∷ l)) (omega (arith, stored_reverse (msg n b ∷ l))) (omega (arith, length-reverse (msg n b ∷ l))))
    ∙ reverse-reverse (msg n b ∷ l)
    ∙ sym (simp (le-leb (stored_bytes (msg n b ∷ l) + k) C h, le-leb (suc (length (msg n b ∷ l))) (suc m) (omega arith)))
evict_step C m k n b l rec (inr h) j =
    let e : reverse (msg n b ∷ l) ≡ reverse l ++ (msg n b ∷ []) = reverse-cons (msg n b) l in
    let over : C < k + stored_bytes (reverse l ++ (msg n b ∷ [])) = omega (arith, total_append (reverse l) (msg n b ∷ []), stored_reverse l) in
    ap (λ (t : List Msg). reverse (fit C k m t)) e ∙ ap reverse (fit_cut C k m (reverse l) (msg n b) (inl over)) ∙ rec
    ∙ sym (simp (lt-leb (stored_bytes (msg n b ∷ l) + k) C h))
evict_step C m k n b l rec (inl h) (inr j) =
    let e : reverse (msg n b ∷ l) ≡ reverse l ++ (msg n b ∷ []) = reverse-cons (msg n b) l in
    let over : m < length (reverse l ++ (msg n b ∷ [])) = omega (arith, length-append (reverse l) (msg n b ∷ []), length-reverse l) in
    ap (λ (t : List Msg). reverse (fit C k m t)) e ∙ ap reverse (fit_cut C k m (reverse l) (msg n b) (inr over)) ∙ rec
    ∙ sym (simp (lt-leb (suc (length (msg n b ∷ l))) (suc m) (omega arith), and-false))

-- the newest that fit beside k bytes are what `evict` leaves
pub evict_fit : (C m k : ℕ) (l : List Msg) → reverse (fit C k m (reverse l)) ≡ evict C (suc m) k l
evict_fit C m k [] = ap reverse (fit_nil C k m)
evict_fit C m k (x ∷ l) = evict_step C m k x.num x.text l (evict_fit C m k l) (cmp (stored_bytes (x ∷ l) + k) C) (cmp (length (x ∷ l)) m)

-- ---- THE LAW OF RECORDING: with x at the ring's end and its entry in front, the walk gives the log that `keep` gives

pub walk_record : (C M n later : ℕ) (u x : List ℕ) (es : List Entry) → length u ≡ C → length x ≤ C → 0 < M → 1 ≤ n → n < later
    → reverse (walk C (drop (length x) u ++ x) (entry n (length x) ∷ take (M - 1) es) 0 later) ≡ keep C M (msg n x) (reverse (walk C u es 0 n))
unfolding keep
walk_record C zero n later u x es lu hx hM hn hl = absurd (omega arith)
walk_record C (suc m) n later u x es lu hx hM hn hl =
    let k : ℕ = length x in
    let v : List ℕ = drop k u ++ x in
    let L : List Msg = walk C u es 0 n in
    let m' : suc m - 1 ≡ m = omega arith in
    let z : 0 + k ≡ k = zero-add k in
    let own : take k (drop (C - (0 + k)) v) ≡ x =
    rw (z, drop_at (drop k u) x (C - k) (simp length-drop (omega arith)), take-length x) in
    let rest : walk C v (take m es) (0 + k) n ≡ fit C k m L = rw (z) (walk_kept C u x lu es m 0 k n (sym z)) in
    rw m' (ap reverse (walk_hit C v n k (take m es) 0 later hn hl (omega arith))
    ∙ ap reverse (λ i. msg n (own i) ∷ rest i)
    ∙ reverse-cons (msg n x) (fit C k m L)
    ∙ ap (λ (t : List Msg). reverse (fit C k m t) ++ (msg n x ∷ [])) (sym (reverse-reverse L))
    ∙ ap (λ (t : List Msg). t ++ (msg n x ∷ [])) (evict_fit C m k (reverse L))
    ∙ sym (simp (le-leb k C hx, lt-ltb 0 (suc m) (omega arith))))
