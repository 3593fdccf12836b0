-- EVERY LOG THAT THE STORE CAN HOLD is that of some areas. Assumes nothing.
use Rattle.std.proofs.Common.{◌≡◌, ℕ, zero, suc, ◌+◌, ◌*◌, ◌^◌, ◌<◌, ◌≤◌, Bool, true, false, ◌&&◌, T, ltb, List, [], ◌∷◌, ◌++◌, reverse, length, get_or, take, drop, set, replicate, sym, refl, ap, ◌∙◌, append_assoc, append-nil, arith, ltb→lt, length-append, length-drop, length-set}
use lib.ListN.{length-replicate}
use Rattle.model_session.proofs.Sending.{total_append}
use Rattle.model_session.specs.Session.{Msg, stored_bytes, is_bytes, Rising, keep}
use Rattle.store_log.specs.Log.{before, entries, head_of, tail_of, unrolled, log_of, Lawful}
use Rattle.store_log.proofs.Walk.{walk_low}
use Rattle.store_log.proofs.Ring.{length_unrolled}
use Rattle.store_log.proofs.Slots.{head_lt, tail_le, stored, stored_newest, stored_tail}
use Rattle.store_log.proofs.Recording.{room_all, stored_law}
use Rattle.store_log.proofs.Lawful.{Small, small_take, small_drop, small_append}

-- ---- lists of small numbers

pub small_set : {n : ℕ} (l : List ℕ) (i a : ℕ) → a < n → Small n l → Small n (set l i a)
small_set [] i a ha h j = h j
small_set (x ∷ l) zero a ha h zero = ha
small_set (x ∷ l) zero a ha h (suc j) = h (suc j)
small_set (x ∷ l) (suc i) a ha h zero = h zero
small_set (x ∷ l) (suc i) a ha h (suc j) = small_set l i a ha (λ k. h (suc k)) j

abbrev pub zeros : ℕ → List ℕ
zeros n = replicate n 0

pub zero_at : (n i : ℕ) → get_or (zeros n) i 0 ≡ 0
zero_at zero i = refl
zero_at (suc n) zero = refl
zero_at (suc n) (suc i) = zero_at n i

pub small_zeros : {n : ℕ} (k : ℕ) → 0 < n → Small n (zeros k)
small_zeros k h i = omega (arith, zero_at k i)

both : (a b : Bool) → T (a && b) → T a × T b
both true b h = (tt, h)
both false b h = absurd h

pub bytes_small : (l : List ℕ) → T (is_bytes l) → Small 256 l
bytes_small [] h i = omega arith
bytes_small (x ∷ l) h zero = ltb→lt x 256 (both (ltb x 256) (is_bytes l) h).0
bytes_small (x ∷ l) h (suc i) = bytes_small l (both (ltb x 256) (is_bytes l) h).1 i

-- ---- areas that hold a log, whatever the next number is from n on

pub record Held (C M n : ℕ) (l : List Msg) : Type 0 where
  pub words : List ℕ
  pub bytes : List ℕ
  pub words_long : length words ≡ 2 + 2 * M
  pub bytes_long : length bytes ≡ C
  pub words_fit : Small (2 ^ 64) words
  pub bytes_fit : Small 256 bytes
  pub is : (later : ℕ) → n ≤ later → log_of C M later words bytes ≡ l

empty : (C M next : ℕ) (w b : List ℕ) → ((i : ℕ) → get_or w i 0 ≡ 0) → log_of C M next w b ≡ []
unfolding log_of
empty C zero next w b z = refl
empty C (suc m) next w b z =
    let p : ℕ = before (suc m) (head_of (suc m) w) in
    ap reverse (walk_low C (unrolled (tail_of C w) b) (get_or w (2 + 2 * p) 0) (get_or w (3 + 2 * p) 0) (entries w (suc m) m p) 0 next (omega (arith, z (2 + 2 * p))))

none_held_lem : (C M n : ℕ) → Held C M n []
none_held_lem C M n = record {
  words = zeros (2 + 2 * M);
  bytes = zeros C;
  words_long = length-replicate (2 + 2 * M) 0;
  bytes_long = length-replicate C 0;
  words_fit = small_zeros (2 + 2 * M) (omega arith);
  bytes_fit = small_zeros C (omega arith);
  is = λ later h. empty C M later (zeros (2 + 2 * M)) (zeros C) (zero_at (2 + 2 * M));
}

module _ (C M : ℕ) (hC : C < 2 ^ 64) (hM : M < 2 ^ 64) where
  one_more : (n : ℕ) (l : List Msg) (x : Msg) → Held C M n l → 1 ≤ x.num → n ≤ x.num → x.num < 2 ^ 64 → T (is_bytes x.text)
      → stored_bytes l + length x.text ≤ C → length l < M → Held C M (suc x.num) (l ++ (x ∷ []))
  one_more n l x a one low high fit room count =
      let w : List ℕ = a.words in
      let b : List ℕ = a.bytes in
      let k : ℕ = length x.text in
      let h : ℕ = head_of M w in
      let t : ℕ = tail_of C w in
      let hl : h < M = head_lt M w (omega arith) in
      let tl : t ≤ C = tail_le C w in
      let lu : length (unrolled t b) ≡ C = length_unrolled t b (omega (arith, a.bytes_long)) ∙ a.bytes_long in
      let v : List ℕ = stored w h 0 x.num k in
      let c : List ℕ = drop k (unrolled t b) ++ x.text in
      let lw : 4 + 2 * h ≤ length w = omega (arith, a.words_long) in
      record {
        words = v;
        bytes = c;
        words_long = simp length-set a.words_long;
        bytes_long = length-append (drop k (unrolled t b)) x.text ∙ omega (arith, length-drop k (unrolled t b), lu);
        words_fit =
            small_set (set (set (set w 0 (h + 1)) 1 0) (2 + 2 * h) x.num) (3 + 2 * h) k (omega arith)
            (small_set (set (set w 0 (h + 1)) 1 0) (2 + 2 * h) x.num high
            (small_set (set w 0 (h + 1)) 1 0 (omega arith) (small_set w 0 (h + 1) (omega arith) a.words_fit)));
        bytes_fit = small_append (drop k (unrolled t b)) x.text
            (small_drop k (unrolled t b) (small_append (drop t b) (take t b) (small_drop t b a.bytes_fit) (small_take t b (omega arith) a.bytes_fit)))
            (bytes_small x.text fit);
        is = λ later g.
            stored_law C M x.num later t 0 w v b c x.text a.bytes_long (omega arith) one g (omega arith) tl refl (omega arith)
            (append-nil c) (stored_newest w h 0 x.num k lw M refl hl) (stored_tail w h 0 x.num k lw)
            ∙ ap (keep C M x) (a.is x.num low) ∙ room_all C M x l room count;
      }

  later_held : (n m : ℕ) (l : List Msg) → Held C M n l → n ≤ m → Held C M m l
  later_held n m l a h = record {
    words = a.words;
    bytes = a.bytes;
    words_long = a.words_long;
    bytes_long = a.bytes_long;
    words_fit = a.words_fit;
    bytes_fit = a.bytes_fit;
    is = λ later g. a.is later (omega arith);
  }

  all_held : (next n : ℕ) (l r : List Msg) → next ≤ 2 ^ 64 → 1 ≤ n → n ≤ next → Held C M n l → Rising n next r → stored_bytes l + stored_bytes r ≤ C → length l + length r ≤ M → Held C M next (l ++ r)
  all_held next n l [] top one low a s h k = rw (append-nil l) (later_held n next l a low)
  all_held next n l (x ∷ r) top one low a s h k =
      let e : l ++ (x ∷ r) ≡ (l ++ (x ∷ [])) ++ r = sym (append_assoc l (x ∷ []) r) in
      rw e (all_held next (suc x.num) (l ++ (x ∷ [])) r top (omega arith) s.1
      (one_more n l x a (omega (arith, s.0)) s.0 (omega (arith, s.1)) s.2 (omega arith) (omega arith))
      s.3 (omega (arith, total_append l (x ∷ []))) (omega (arith, length-append l (x ∷ []))))

  -- the areas of a lawful log
  pub held : (next : ℕ) (l : List Msg) → 1 ≤ next → next ≤ 2 ^ 64 → Lawful C M next l → Held C M next l
  held next l one top s = all_held next 1 [] l top (omega arith) one (none_held_lem C M 1) s.rising (omega (arith, s.bytes)) (omega (arith, s.count))
