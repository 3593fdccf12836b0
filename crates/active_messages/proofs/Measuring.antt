-- Measuring a batch: what is left gives what the whole gives. Assumes nothing.
use mathlib.Core.Path.{◌≡◌, refl, sym, ap, ◌∙◌}
use mathlib.Core.Bool.{Bool, true, false, cond}
use mathlib.Core.List.{List, [], ◌∷◌, ◌++◌}
use Prim.Native.Nat.{ℕ, zero, suc, ◌+◌, ◌-◌, ◌*◌, ◌<◌, ◌≤◌}
use native.Mathlib.Omega.{arith}
use native.Mathlib.Numerals.{add-one}
use lib.ListN.{length, take, drop, length-append}
use lib.Dec.{ltb}
use Rattle.model_frame.specs.Frame.{record_msg, record_bare}
use Rattle.model_frame.specs.Sizes.{sizes}
use Rattle.model_frame.proofs.Runs.{sizes_append}
use Rattle.model_session.specs.Session.{Msg}
use Rattle.model_session.specs.Whole.{send_msg}
use Rattle.store_log.specs.Log.{msg, rest_of, Position, NextMessage}
use Rattle.active_messages.proofs.Putting.{piece_length}
use Rattle.active_messages.specs.Cut.{taken, left_over, next_after, Measured}

-- how many changes a message makes, and their bytes
send_count : (next : ℕ) (m : Msg) → length (send_msg next m) ≡ cond (ltb next m.num) 1 0 + 1
send_count next m = go (ltb next m.num)
  where
    go : (b : Bool) → length (cond b (record_bare (m.num - 1) ∷ []) [] ++ (record_msg m.num m.text ∷ [])) ≡ cond b 1 0 + 1
    go true = refl
    go false = refl

send_size : (next : ℕ) (m : Msg) → sizes (send_msg next m) ≡ 9 * cond (ltb next m.num) 1 0 + 13 + length m.text
send_size next m = go (ltb next m.num)
  where
    go : (b : Bool) → sizes (cond b (record_bare (m.num - 1) ∷ []) [] ++ (record_msg m.num m.text ∷ [])) ≡ 9 * cond b 1 0 + 13 + length m.text
    go true = omega arith
    go false = omega arith

-- a batch that is full takes no more
module _ (limit sent next : ℕ) (full : ltb limit sent ≡ true) where
  pub full_taken : (ms : List Msg) → taken limit sent next ms ≡ []
  full_taken [] = refl
  full_taken (m ∷ ms) = ap (λ (b : Bool). cond b [] (send_msg next m ++ taken limit (sent + length m.text) (suc m.num) ms)) full

pub piece_of : (C M end : ℕ) (w b : List ℕ) (left dist number start first rest left' dist' : ℕ) → length b ≡ C → NextMessage C M end w b left dist number start first rest left' dist'
    → length (take first (drop start b) ++ take rest b) ≡ first + rest
piece_of C M end w b left dist number start first rest left' dist' long r = piece_length b start first rest (omega (arith, r.inside)) (omega (arith, r.front))

-- a batch that isn't full takes the next message
module _ (limit C M end : ℕ) (w b : List ℕ) where
  abbrev pub Rest : ℕ → List Msg
  Rest left = rest_of C M end w b left

  pub taken_more : (left dist next sent number start first rest left' dist' : ℕ) → ltb limit sent ≡ false → length b ≡ C → NextMessage C M end w b left dist number start first rest left' dist'
      → taken limit sent next (Rest left) ≡ send_msg next (msg number (take first (drop start b) ++ take rest b)) ++ taken limit (sent + (first + rest)) (number + 1) (Rest left')
  taken_more left dist next sent number start first rest left' dist' h long r =
      let m : Msg = msg number (take first (drop start b) ++ take rest b) in
      let len : length m.text ≡ first + rest = piece_of C M end w b left dist number start first rest left' dist' long r in
      let later : number + 1 ≡ suc number = rw add-one refl in
      ap (taken limit sent next) r.is
      ∙ ap (λ (t : Bool). cond t [] (send_msg next m ++ taken limit (sent + length m.text) (suc number) (Rest left'))) h
      ∙ rw (len, later) refl

  left_more : (left dist sent number start first rest left' dist' : ℕ) → ltb limit sent ≡ false → length b ≡ C → NextMessage C M end w b left dist number start first rest left' dist'
      → left_over limit sent (Rest left) ≡ left_over limit (sent + (first + rest)) (Rest left')
  left_more left dist sent number start first rest left' dist' h long r =
      let m : Msg = msg number (take first (drop start b) ++ take rest b) in
      let len : length m.text ≡ first + rest = piece_of C M end w b left dist number start first rest left' dist' long r in
      ap (left_over limit sent) r.is
      ∙ ap (λ (t : Bool). cond t (m ∷ Rest left') (left_over limit (sent + length m.text) (Rest left'))) h
      ∙ ap (λ (k : ℕ). left_over limit (sent + k) (Rest left')) len

  next_more : (left dist next sent number start first rest left' dist' : ℕ) → ltb limit sent ≡ false → length b ≡ C → NextMessage C M end w b left dist number start first rest left' dist'
      → next_after limit sent next (Rest left) ≡ next_after limit (sent + (first + rest)) (number + 1) (Rest left')
  next_more left dist next sent number start first rest left' dist' h long r =
      let m : Msg = msg number (take first (drop start b) ++ take rest b) in
      let len : length m.text ≡ first + rest = piece_of C M end w b left dist number start first rest left' dist' long r in
      let later : number + 1 ≡ suc number = rw add-one refl in
      ap (next_after limit sent next) r.is
      ∙ ap (λ (t : Bool). cond t next (next_after limit (sent + length m.text) (suc number) (Rest left'))) h
      ∙ rw (len, later) refl

module _ (limit C M end : ℕ) (w b : List ℕ) (left₀ dist₀ next₀ : ℕ) where
  abbrev Rest₀ : ℕ → List Msg
  Rest₀ left = rest_of C M end w b left

  pub record Measuring (left dist next count size sent : ℕ) : Type 0 where
    pub stands : Position C M end w b left dist
    pub rest : left_over limit sent (Rest₀ left) ≡ left_over limit 0 (Rest₀ left₀)
    pub after : next_after limit sent next (Rest₀ left) ≡ next_after limit 0 next₀ (Rest₀ left₀)
    pub counts : count + length (taken limit sent next (Rest₀ left)) ≡ length (taken limit 0 next₀ (Rest₀ left₀))
    pub spans : size + sizes (taken limit sent next (Rest₀ left)) ≡ sizes (taken limit 0 next₀ (Rest₀ left₀))
    pub few : count + 2 * left ≤ 2 * left₀
    pub small : size + 22 * left + dist ≤ 22 * left₀ + dist₀
    pub sums : sent + dist ≤ dist₀

  pub last_stop : (left dist next count size sent : ℕ) → Measuring left dist next count size sent → left ≡ 0 → Measured limit C M end w b left₀ dist₀ next₀ left dist next count size
  unfolding rest_of
  last_stop zero dist next count size sent g h = ends g nothing
    where
      nothing : Rest₀ 0 ≡ []
      nothing = refl

      never : 0 < 0 → ⊥
      never k = omega arith

      ends : Measuring 0 dist next count size sent → Rest₀ 0 ≡ [] → Measured limit C M end w b left₀ dist₀ next₀ 0 dist next count size
      ends g e = record {
        stands = g.stands;
        rest = e ∙ sym (ap (left_over limit sent) e) ∙ g.rest;
        after = sym (ap (next_after limit sent next) e) ∙ g.after;
        counts = omega (arith, g.counts, ap (λ (l : List Msg). length (taken limit sent next l)) e);
        spans = omega (arith, g.spans, ap (λ (l : List Msg). sizes (taken limit sent next l)) e);
        few = g.few;
        small = g.small;
        goes = λ k. absurd (never k);
      }
  last_stop (suc left) dist next count size sent g h = absurd (no h)
    where
      no : suc left ≡ 0 → ⊥
      no h = omega (arith, h)

  -- a turn: one message more
  pub turns : (left dist next count size sent number start first rest left' dist' skip : ℕ) → Measuring left dist next count size sent → ltb limit sent ≡ false → length b ≡ C
      → NextMessage C M end w b left dist number start first rest left' dist' → skip ≡ cond (ltb next number) 1 0
      → Measuring left' dist' (number + 1) (count + skip + 1) (size + 9 * skip + 13 + (first + rest)) (sent + (first + rest))
  turns left dist next count size sent number start first rest left' dist' skip g h long r s =
      let m : Msg = msg number (take first (drop start b) ++ take rest b) in
      let len : length m.text ≡ first + rest = piece_length b start first rest (omega (arith, r.inside)) (omega (arith, r.front)) in
      let one : skip ≤ 1 = at_most (ltb next number) s in
      let cut = taken_more limit C M end w b left dist next sent number start first rest left' dist' h long r in
      record {
        stands = r.stands;
        rest = sym (left_more limit C M end w b left dist sent number start first rest left' dist' h long r) ∙ g.rest;
        after = sym (next_more limit C M end w b left dist next sent number start first rest left' dist' h long r) ∙ g.after;
        counts = omega (arith, g.counts, ap length cut, length-append (send_msg next m) (taken limit (sent + (first + rest)) (number + 1) (Rest₀ left')), send_count next m, s);
        spans = omega (arith, g.spans, ap sizes cut, sizes_append (send_msg next m) (taken limit (sent + (first + rest)) (number + 1) (Rest₀ left')), send_size next m, s, len);
        few = omega (arith, g.few, r.fewer, one);
        small = omega (arith, g.small, r.fewer, r.nearer, one);
        sums = omega (arith, g.sums, r.nearer);
      }
    where
      at_most : (t : Bool) {k : ℕ} → k ≡ cond t 1 0 → k ≤ 1
      at_most true e = omega (arith, e)
      at_most false e = omega (arith, e)
