-- What `settle` and `record` do, said of the log. Assumes nothing.
use Rattle.std.proofs.Common.{◌≡◌, ℕ, zero, suc, ◌+◌, ◌-◌, ◌*◌, ◌<◌, ◌≤◌, cond, ltb, ◌⊎◌, List, [], ◌∷◌, ◌++◌, reverse, length, get_or, take, drop, set, sym, refl, ap, ◌∙◌, inl, inr, append_assoc, append-nil, arith, length-append, get_or-set_other, get_or-set_same, le-ltb, lt-ltb, le-leb}
use mathlib.Core.Bool.{and-false}
use borrow.Author.Tests.{lt-leb}
use Rattle.model_session.proofs.Sending.{total_append}
use Rattle.model_session.specs.Session.{Msg, stored_bytes, keep}
use Rattle.store_log.specs.Log.{msg, Entry, entry, before, entries, newest, head_of, tail_of, unrolled, walk, log_of, replayed, Lawful}
use Rattle.store_log.proofs.Walk.{walk_low, walk_high, walk_record}
use Rattle.store_log.proofs.Ring.{length_unrolled}

-- ---- settle

-- the first entry alone meets the bound
walk_bound : (C : ℕ) (u : List ℕ) (n l : ℕ) (es : List Entry) (d b b' : ℕ) → n < b → n < b' → walk C u (entry n l ∷ es) d b ≡ walk C u (entry n l ∷ es) d b'
walk_bound C u n l es d b b' h k = simp (lt-ltb n b h, lt-ltb n b' k)

-- there are no entries
pub settle_none : (C M a b : ℕ) (w v : List ℕ) (x : List ℕ) → M ≡ 0 → log_of C M a w x ≡ log_of C M b v x
unfolding log_of
settle_none C M a b w v x e = rw e

pub settle_kept : (C M a b p : ℕ) (w x : List ℕ) → 0 < M → p ≡ before M (head_of M w) → get_or w (2 + 2 * p) 0 < a → a ≤ b → log_of C M b w x ≡ log_of C M a w x
unfolding log_of
settle_kept C zero a b p w x m e h k = absurd (omega arith)
settle_kept C (suc m) a b p w x _ e h k =
    let q : ℕ = before (suc m) (head_of (suc m) w) in
    let h' : get_or w (2 + 2 * q) 0 < a = rw (← e) h in
    ap reverse (walk_bound C (unrolled (tail_of C w) x) (get_or w (2 + 2 * q) 0) (get_or w (3 + 2 * q) 0) (entries w (suc m) m q) 0 b a (omega arith) h')

-- the newest entry's number is 0: there are no messages
pub cleared : (C M next p : ℕ) (w x : List ℕ) → 0 < M → p ≡ before M (head_of M w) → p < M → 2 + 2 * M ≤ length w → log_of C M next (set w (2 + 2 * p) 0) x ≡ []
unfolding log_of
cleared C zero next p w x m e l r = absurd (omega arith)
cleared C (suc m) next p w x _ e l r =
    let v : List ℕ = set w (2 + 2 * p) 0 in
    let q' : ℕ = before (suc m) (head_of (suc m) v) in
    let v0 : get_or v 0 0 ≡ get_or w 0 0 = get_or-set_other w (2 + 2 * p) 0 0 0 (λ e. omega arith) in
    let qq : q' ≡ p = ap (λ (z : ℕ). before (suc m) (cond (ltb z (suc m)) z 0)) v0 ∙ sym e in
    let z : get_or v (2 + 2 * q') 0 < 1 = rw qq (omega (arith, get_or-set_same w (2 + 2 * p) 0 0 (omega arith))) in
    ap reverse (walk_low C (unrolled (tail_of C v) x) (get_or v (2 + 2 * q') 0) (get_or v (3 + 2 * q') 0) (entries v (suc m) m q') 0 next z)

-- the newest entry's number is too great: there are no messages
beyond : (C M next p : ℕ) (w x : List ℕ) → p ≡ before M (head_of M w) → next ≤ get_or w (2 + 2 * p) 0 → log_of C M next w x ≡ []
unfolding log_of
beyond C zero next p w x e h = refl
beyond C (suc m) next p w x e h =
    let q : ℕ = before (suc m) (head_of (suc m) w) in
    let h' : next ≤ get_or w (2 + 2 * q) 0 = rw (← e) h in
    ap reverse (walk_high C (unrolled (tail_of C w) x) (get_or w (2 + 2 * q) 0) (get_or w (3 + 2 * q) 0) (entries w (suc m) m q) 0 next h')

pub settle_cleared : (C M a b p : ℕ) (w x : List ℕ) → 0 < M → p ≡ before M (head_of M w) → p < M → 2 + 2 * M ≤ length w → a ≤ get_or w (2 + 2 * p) 0
    → log_of C M b (set w (2 + 2 * p) 0) x ≡ log_of C M a w x
settle_cleared C M a b p w x m e l r h = cleared C M b p w x m e l r ∙ sym (beyond C M a p w x e h)

pub clear_none : (C M next : ℕ) (w x : List ℕ) → M ≡ 0 → log_of C M next w x ≡ []
unfolding log_of
clear_none C M next w x e = rw e

-- ---- record

pub not_stored : (C M n : ℕ) (x : List ℕ) (l : List Msg) → (M ≡ 0) ⊎ (C < length x) → keep C M (msg n x) l ≡ l
unfolding keep
not_stored C M n x l (inl e) = rw e (simp (le-ltb 0 0 (omega arith), and-false))
not_stored C M n x l (inr h) = simp (lt-leb (length x) C h)

pub stored_law : (C M n later t end : ℕ) (w w' b b' x : List ℕ) → length b ≡ C → 0 < M → 1 ≤ n → n < later → length x ≤ C → t ≤ C → t ≡ tail_of C w
    → end ≤ C → unrolled end b' ≡ drop (length x) (unrolled t b) ++ x
    → newest M w' ≡ entry n (length x) ∷ take (M - 1) (newest M w) → get_or w' 1 0 ≡ end
    → log_of C M later w' b' ≡ keep C M (msg n x) (log_of C M n w b)
unfolding log_of
stored_law C M n later t end w w' b b' x lb hM hn hl hx ht et he rolled put e =
    let te : tail_of C w' ≡ end = rw e (simp (le-leb end C he)) in
    let lu : length (unrolled t b) ≡ C = length_unrolled t b (omega arith) ∙ lb in
    ap reverse ((λ i. walk C (unrolled (te i) b') (put i) 0 later) ∙ ap (λ (u : List ℕ). walk C u (entry n (length x) ∷ take (M - 1) (newest M w)) 0 later) rolled)
    ∙ walk_record C M n later (unrolled t b) x (newest M w) lu hx hM hn hl
    ∙ ap (λ (s : ℕ). keep C M (msg n x) (reverse (walk C (unrolled s b) (newest M w) 0 n))) et

-- ---- replay: any lawful log is reached by recording its messages one by one

pub room_all : (C M : ℕ) (x : Msg) (l : List Msg) → stored_bytes l + length x.text ≤ C → length l < M → keep C M x l ≡ l ++ (x ∷ [])
unfolding keep
room_all C M x [] h k = simp (le-leb (length x.text) C (omega arith), lt-ltb 0 M (omega arith))
room_all C M x (m ∷ l) h k =
    simp (le-leb (length x.text) C (omega arith), lt-ltb 0 M (omega arith), le-leb (stored_bytes (m ∷ l) + length x.text) C h, le-leb (suc (length (m ∷ l))) M k)

pub replay : (C M : ℕ) (l r : List Msg) → stored_bytes l + stored_bytes r ≤ C → length l + length r ≤ M → replayed C M l r ≡ l ++ r
replay C M l [] h k = sym (append-nil l)
replay C M l (x ∷ r) h k =
    let e : keep C M x l ≡ l ++ (x ∷ []) = room_all C M x l (omega arith) (omega arith) in
    ap (λ (t : List Msg). replayed C M t r) e
    ∙ replay C M (l ++ (x ∷ [])) r (omega (arith, total_append l (x ∷ []))) (omega (arith, length-append l (x ∷ [])))
    ∙ append_assoc l (x ∷ []) r

pub replay_all : (C M next : ℕ) (l : List Msg) → Lawful C M next l → replayed C M [] l ≡ l
replay_all C M next l h = replay C M [] l (omega (arith, h.bytes)) (omega (arith, h.count))
