-- What a store keeps when a message comes: the newest messages, as many as fit.
-- Assumes nothing.
use mathlib.Core.Path.{◌≡◌, refl, sym, ap, subst, ◌∙◌}
use Prim.Native.Nat.{ℕ, suc, ◌+◌, ◌≤◌, ◌<◌}
use native.Mathlib.Omega.{arith}
use mathlib.Core.List.{List, [], ◌∷◌, ◌++◌, append_assoc, tail-eq_of_cons-eq}
use mathlib.Core.Bool.{Bool, true, false, cond, ◌&&◌, and-false}
use lib.ListN.{length, drop, length-append}
use lib.Seq.{drop_at}
use lib.Dec.{T, leb, ltb, leb→le}
use Rattle.model_session.specs.Session.{Msg, stored_bytes, has_space, evict, keep}
use Rattle.model_session.proofs.Basics.{true→T, true≢false, and_l, and_r, and_true, leb_true, ltb_true, cond-true, cond-false, leb_false}
use Rattle.model_session.proofs.Sending.{total_append}

module _ (C M : ℕ) where
  -- within C bytes and M messages
  pub record Within (l : List Msg) : Type 0 where
    pub bytes : stored_bytes l ≤ C
    pub count : length l ≤ M

  -- `kept` are the newest of `all`, and no more of them would fit
  pub record LongestFit (all kept : List Msg) : Type 0 where
    pub gone : List Msg
    pub newest : gone ++ kept ≡ all
    pub within : Within kept
    pub longest : (older newer : List Msg) → older ++ newer ≡ all → Within newer → length newer ≤ length kept

  no_space : (n : ℕ) (l : List Msg) → has_space C M n l ≡ false → stored_bytes l + n ≤ C → suc (length l) ≤ M → ⊥
  no_space n l e h k = true≢false (sym (and_true (leb_true h) (leb_true k)) ∙ e)

  space_there : (n : ℕ) (l : List Msg) → has_space C M n l ≡ true → (stored_bytes l + n ≤ C) × (suc (length l) ≤ M)
  space_there n l e =
      let t : T (leb (stored_bytes l + n) C && leb (suc (length l)) M) = true→T (has_space C M n l) e in
      (leb→le (stored_bytes l + n) C (and_l (leb (stored_bytes l + n) C) (leb (suc (length l)) M) t), leb→le (suc (length l)) M (and_r (leb (stored_bytes l + n) C) (leb (suc (length l)) M) t))

  -- there is space for n bytes once the oldest have gone
  pub evict_space : (n : ℕ) (ms : List Msg) → n ≤ C → 0 < M → (stored_bytes (evict C M n ms) + n ≤ C) × (suc (length (evict C M n ms)) ≤ M)
  evict_space n [] hc hm = (omega arith, omega arith)
  evict_space n (x ∷ ms) hc hm = go (has_space C M n (x ∷ ms)) refl (evict_space n ms hc hm)
    where
      go : (b : Bool) → has_space C M n (x ∷ ms) ≡ b → (stored_bytes (evict C M n ms) + n ≤ C) × (suc (length (evict C M n ms)) ≤ M)
          → (stored_bytes (cond b (x ∷ ms) (evict C M n ms)) + n ≤ C) × (suc (length (cond b (x ∷ ms) (evict C M n ms))) ≤ M)
      go true e ih = space_there n (x ∷ ms) e
      go false e ih = ih

  module _ (m : Msg) where
    evict_gone : (ms : List Msg) → (gone : List Msg) × (gone ++ evict C M (length m.text) ms ≡ ms)
    evict_gone [] = ([], refl)
    evict_gone (x ∷ ms) = go (has_space C M (length m.text) (x ∷ ms)) (evict_gone ms)
      where
        go : (b : Bool) → (gone : List Msg) × (gone ++ evict C M (length m.text) ms ≡ ms) → (gone : List Msg) × (gone ++ cond b (x ∷ ms) (evict C M (length m.text) ms) ≡ x ∷ ms)
        go true ih = ([], refl)
        go false ih = (x ∷ ih.0, ap {B = List Msg} (λ l. x ∷ l) ih.1)

    evict_longest : (ms older newer : List Msg) → older ++ newer ≡ ms ++ (m ∷ []) → Within newer → length newer ≤ suc (length (evict C M (length m.text) ms))
    evict_longest [] older newer p w = omega (arith, length-append older newer, ap length p)
    evict_longest (x ∷ ms) older newer p w = go (has_space C M (length m.text) (x ∷ ms)) refl older p (evict_longest ms)
      where
        go : (b : Bool) → has_space C M (length m.text) (x ∷ ms) ≡ b → (older : List Msg) → older ++ newer ≡ x ∷ (ms ++ (m ∷ []))
            → ((older newer : List Msg) → older ++ newer ≡ ms ++ (m ∷ []) → Within newer → length newer ≤ suc (length (evict C M (length m.text) ms)))
            → length newer ≤ suc (length (cond b (x ∷ ms) (evict C M (length m.text) ms)))
        go true e older p ih = omega (arith, length-append older newer, ap length p, length-append ms (m ∷ []))
        go false e [] p ih =
            absurd (no_space (length m.text) (x ∷ ms) e
            (omega (arith, w.bytes, ap stored_bytes p, total_append ms (m ∷ []))) (omega (arith, w.count, ap length p, length-append ms (m ∷ []))))
        go false e (y ∷ older) p ih = ih older newer (tail-eq_of_cons-eq p) w

    -- a message that is no longer than C, where M isn't 0: it is kept with as many of those before it as fit
    pub keep_longest : (ms : List Msg) → length m.text ≤ C → 0 < M → LongestFit (ms ++ (m ∷ [])) (keep C M m ms)
    unfolding keep
    keep_longest ms hc hm =
        subst (LongestFit (ms ++ (m ∷ []))) (sym (cond-true _ _ (and_true (leb_true hc) (ltb_true hm))))
        (record {
          gone = (evict_gone ms).0;
          newest = sym (append_assoc (evict_gone ms).0 (evict C M (length m.text) ms) (m ∷ [])) ∙ ap (λ (l : List Msg). l ++ (m ∷ [])) (evict_gone ms).1;
          within =
              let s = evict_space (length m.text) ms hc hm in
              record {
                bytes = omega (arith, s.0, total_append (evict C M (length m.text) ms) (m ∷ []));
                count = omega (arith, s.1, length-append (evict C M (length m.text) ms) (m ∷ []));
              };
          longest = λ older newer p w. omega (arith, evict_longest ms older newer p w, length-append (evict C M (length m.text) ms) (m ∷ []));
        })

    -- a longer one isn't stored, and nothing else changes; nor is any where M is 0
    pub keep_long : (ms : List Msg) → C < length m.text → keep C M m ms ≡ ms
    unfolding keep
    keep_long ms h = cond-false _ _ (ap (λ (b : Bool). b && ltb 0 M) (leb_false h))

    pub keep_nothing : (ms : List Msg) → M ≡ 0 → keep C M m ms ≡ ms
    unfolding keep
    keep_nothing ms h = cond-false _ _ (ap (λ (n : ℕ). leb (length m.text) C && ltb 0 n) h ∙ and-false (leb (length m.text) C))

  -- no other list is that
  pub longest_only : (all k l : List Msg) → LongestFit all k → LongestFit all l → k ≡ l
  longest_only all k l p q =
      let same : length k ≡ length l = omega (arith, p.longest q.gone l q.newest q.within, q.longest p.gone k p.newest p.within) in
      let left : length p.gone ≡ length q.gone =
      omega (arith, length-append p.gone k, length-append q.gone l, ap length p.newest, ap length q.newest) in
      sym (drop_at p.gone k (length q.gone) left) ∙ ap (drop (length q.gone)) (p.newest ∙ sym q.newest) ∙ drop_at q.gone l (length q.gone) refl
