-- Reading the messages of a place, as its log has them. Assumes nothing.
use mathlib.Core.Path.{◌≡◌, sym, ap, ◌∙◌, subst}
use mathlib.Core.List.{List, ◌∷◌, ◌++◌}
use Prim.Native.Nat.{ℕ, ◌+◌, ◌-◌}
use native.Mathlib.Omega.{arith}
use lib.ListN.{length, take, drop, length-drop}
use lib.Seq.{take_all, drop-drop}
use Rattle.model_session.specs.Summary.{last_out}
use Rattle.store_log.specs.Log.{msg, log_of, rest_of, last_of, Position, From, NextMessage}
use Rattle.store_place.specs.Place.{next_out_of, session_of, rest_in, PositionIn, FromIn, NextMessageIn}

-- a slice from a on, as it is lent
pub tail_is : (a : ℕ) (l : List ℕ) → take (length l - a) (drop a l) ≡ drop a l
tail_is a l = take_all (length l - a) (drop a l) (omega (arith, length-drop a l))

moved : (P : ℕ → ℕ → ℕ → List ℕ → List ℕ → Type 0) {c c' m m' n n' : ℕ} {v v' r r' : List ℕ} → c ≡ c' → m ≡ m' → n ≡ n' → v ≡ v' → r ≡ r' → P c m n v r → P c' m' n' v' r'
moved P {c} {c'} {m} {m'} {n} {n'} {v} {v'} {r} {r'} ec em en ev er p =
    subst (λ (x : List ℕ). P c' m' n' v' x) er
    (subst (λ (x : List ℕ). P c' m' n' x r) ev (subst (λ (x : ℕ). P c' m' x v r) en (subst (λ (x : ℕ). P c' x n v r) em (subst (λ (x : ℕ). P x m n v r) ec p))))

-- the log of a place has these words and bytes, this room and this next number
module _ (C M : ℕ) (w b : List ℕ) (lb : length b ≡ 224 + C) (mw mb : List ℕ) (m next : ℕ) (ew : mw ≡ drop 14 w) (eb : mb ≡ drop 224 b) (em : m ≡ M) (en : next ≡ next_out_of w) where
  pub ring_length : length mb ≡ C
  ring_length = ap length eb ∙ length-drop 224 b ∙ omega arith

  pub last_in : (n r : ℕ) → r ≡ last_of next n (log_of (length mb) m next mw mb) → r ≡ last_out (session_of C M w b) n
  unfolding last_out last_of session_of
  last_in n r e = e ∙ (λ i. last_of (en i) n (log_of (ring_length i) (em i) (en i) (ew i) (eb i)))

  pub from_in : (low left dist : ℕ) → From (length mb) m next low mw mb left dist → FromIn C M low w b left dist
  unfolding PositionIn rest_in session_of
  from_in low left dist f =
      let g : From C M (next_out_of w) low (drop 14 w) (drop 224 b) left dist =
      moved (λ c k n v r. From c k n low v r left dist) ring_length em en ew eb f in
      record { stands = g.stands; is = g.is }

  pub stands_out : (left dist : ℕ) → PositionIn C M w b left dist → Position (length mb) m next mw mb left dist
  unfolding PositionIn
  stands_out left dist s = moved (λ c k n v r. Position c k n v r left dist) (sym ring_length) (sym em) (sym en) (sym ew) (sym eb) s

  pub read_in : (left dist number start first rest left' dist' : ℕ) → NextMessage (length mb) m next mw mb left dist number start first rest left' dist'
      → NextMessageIn C M w b left dist number (start + 224) first rest left' dist'
  unfolding PositionIn rest_in
  read_in left dist number start first rest left' dist' f =
      let g : NextMessage C M (next_out_of w) (drop 14 w) (drop 224 b) left dist number start first rest left' dist' =
      moved (λ c k n v r. NextMessage c k n v r left dist number start first rest left' dist') ring_length em en ew eb f in
      let e : 224 + start ≡ start + 224 = omega arith in
      record {
        is = g.is ∙ ap (λ (l : List ℕ). msg number (take first l ++ take rest (drop 224 b)) ∷ rest_of C M (next_out_of w) (drop 14 w) (drop 224 b) left') (drop-drop start 224 b ∙ ap (λ (k : ℕ). drop k b) e);
        stands = g.stands;
        inside = omega (arith, g.inside);
        front = g.front;
        fewer = g.fewer;
        nearer = g.nearer;
      }
