-- The laws of the ends that count: which do, what one more makes of them, and the walk over them. Assumes nothing.
use mathlib.Core.Path.{◌≡◌, refl, sym, ap, ◌∙◌}
use mathlib.Core.Bool.{Bool, true, false, cond, ◌&&◌, true≢false}
use mathlib.Core.List.{List, [], ◌∷◌, ◌++◌}
use Prim.Native.Nat.{ℕ, suc, ◌+◌, ◌≤◌, ◌<◌}
use mathlib.Core.Logic.{◌⊎◌, inl, inr}
use native.Mathlib.Omega.{arith}
use lib.ListN.{take, length, set, drop}
use lib.Dec.{ltb, leb}
use borrow.Author.Tests.{lt-ltb, le-ltb, ltb-true, ltb-false, le-leb, lt-leb, leb-true, leb-false}
use Rattle.standby_segments.specs.Segments.{closed_ends, open_from}

and_l : (a b : Bool) → (a && b) ≡ true → a ≡ true
and_l true b e = refl
and_l false b e = e

and_r : (a b : Bool) → (a && b) ≡ true → b ≡ true
and_r true b e = e
and_r false b e = absurd (true≢false (sym e))

-- whether a word counts
abbrev counts : ℕ → ℕ → ℕ → Bool
counts last len e = ltb last e && leb e len

module _ (last len e : ℕ) where
  counts_yes : last < e → e ≤ len → counts last len e ≡ true
  counts_yes above within = ap (λ (b : Bool). b && leb e len) (lt-ltb last e above) ∙ le-leb e len within

  counts_above : counts last len e ≡ true → last < e
  counts_above h = ltb-true last e (and_l (ltb last e) (leb e len) h)

  counts_within : counts last len e ≡ true → e ≤ len
  counts_within h = leb-true e len (and_r (ltb last e) (leb e len) h)

  counts_no : counts last len e ≡ false → (e ≤ last) ⊎ (len < e)
  counts_no h = go (ltb last e) refl (leb e len) refl h
    where
      go : (a : Bool) → ltb last e ≡ a → (b : Bool) → leb e len ≡ b → (a && b) ≡ false → (e ≤ last) ⊎ (len < e)
      go true p true q r = absurd (true≢false r)
      go true p false q r = inr (leb-false e len q)
      go false p b q r = inl (ltb-false last e p)

  -- A WORD THAT FALLS OR REPEATS the one before it ends those that count; so does one past the length held
  counts_fallen : e ≤ last → counts last len e ≡ false
  counts_fallen h = ap (λ (b : Bool). b && leb e len) (le-ltb last e h)

  counts_past : len < e → counts last len e ≡ false
  counts_past h = ap (λ (b : Bool). ltb last e && b) (lt-leb e len h) ∙ off (ltb last e)
    where
      off : (b : Bool) → (b && false) ≡ false
      off true = refl
      off false = refl

  module _ (es : List ℕ) where
    pub ends_on : last < e → e ≤ len → closed_ends (e ∷ es) last len ≡ e ∷ closed_ends es e len
    ends_on above within = ap (λ (t : Bool). cond t (e ∷ closed_ends es e len) []) (counts_yes above within)

    pub ends_fallen : e ≤ last → closed_ends (e ∷ es) last len ≡ []
    ends_fallen h = ap (λ (t : Bool). cond t (e ∷ closed_ends es e len) []) (counts_fallen h)

    pub ends_past : len < e → closed_ends (e ∷ es) last len ≡ []
    ends_past h = ap (λ (t : Bool). cond t (e ∷ closed_ends es e len) []) (counts_past h)

-- nothing held: no word counts, whatever they are
pub ends_none : (es : List ℕ) (last : ℕ) → closed_ends es last last ≡ []
ends_none [] last = refl
ends_none (e ∷ es) last = go (ltb last e) refl
  where
    go : (t : Bool) → ltb last e ≡ t → cond (t && leb e last) (e ∷ closed_ends es e last) [] ≡ []
    go true h = ap (λ (t : Bool). cond t (e ∷ closed_ends es e last) []) (lt-leb e last (ltb-true last e h))
    go false h = refl

-- they rise, and stay within the length held
pub open_above : (es : List ℕ) (last len : ℕ) → last ≤ open_from last (closed_ends es last len)
open_above [] last len = omega arith
open_above (e ∷ es) last len = go (counts last len e) refl (open_above es e len)
  where
    go : (t : Bool) → counts last len e ≡ t → e ≤ open_from e (closed_ends es e len) → last ≤ open_from last (cond t (e ∷ closed_ends es e len) [])
    go true h ih = omega (arith, counts_above last len e h, ih)
    go false h ih = omega arith

pub open_within : (es : List ℕ) (last len : ℕ) → last ≤ len → open_from last (closed_ends es last len) ≤ len
open_within [] last len h = h
open_within (e ∷ es) last len h = go (counts last len e) refl (open_within es e len)
  where
    go : (t : Bool) → counts last len e ≡ t → (e ≤ len → open_from e (closed_ends es e len) ≤ len) → open_from last (cond t (e ∷ closed_ends es e len) []) ≤ len
    go true q ih = ih (counts_within last len e q)
    go false q ih = h

-- no more than there are words
pub ends_few : (es : List ℕ) (last len : ℕ) → length (closed_ends es last len) ≤ length es
ends_few [] last len = omega arith
ends_few (e ∷ es) last len = go (counts last len e) refl (ends_few es e len)
  where
    go : (t : Bool) → counts last len e ≡ t → length (closed_ends es e len) ≤ length es → length (cond t (e ∷ closed_ends es e len) []) ≤ suc (length es)
    go true h ih = omega (arith, ih)
    go false h ih = omega arith

-- with a shorter length, down to where the open segment begins, the same words count
pub ends_shorter : (es : List ℕ) (last len len' : ℕ) → open_from last (closed_ends es last len) ≤ len' → len' ≤ len → closed_ends es last len' ≡ closed_ends es last len
ends_shorter [] last len len' low high = refl
ends_shorter (e ∷ es) last len len' low high = go (counts last len e) refl (ends_shorter es e len len') low
  where
    go : (t : Bool) → counts last len e ≡ t → (open_from e (closed_ends es e len) ≤ len' → len' ≤ len → closed_ends es e len' ≡ closed_ends es e len)
        → open_from last (cond t (e ∷ closed_ends es e len) []) ≤ len' → closed_ends (e ∷ es) last len' ≡ cond t (e ∷ closed_ends es e len) []
    go true h ih low =
        let within : e ≤ len' = omega (arith, open_above es e len, low) in
        ends_on last len' e es (counts_above last len e h) within ∙ ap (λ (l : List ℕ). e ∷ l) (ih low high)
    go false h ih low = by (counts_no last len e h)
      where
        by : (e ≤ last) ⊎ (len < e) → closed_ends (e ∷ es) last len' ≡ []
        by (inl fallen) = ends_fallen last len' e es fallen
        by (inr past) = ends_past last len' e es (omega (arith, past, high))

-- ---- what one word, written behind those that count, makes of them

-- A 0 THERE: with a greater length too they are the same, for no old word behind it comes to count
pub ends_cleared : (es : List ℕ) (last len len' : ℕ) → open_from last (closed_ends es last len) ≤ len'
    → closed_ends (set es (length (closed_ends es last len)) 0) last len' ≡ closed_ends es last len
ends_cleared [] last len len' low = refl
ends_cleared (e ∷ es) last len len' low = go (counts last len e) refl (ends_cleared es e len len') low
  where
    go : (t : Bool) → counts last len e ≡ t → (open_from e (closed_ends es e len) ≤ len' → closed_ends (set es (length (closed_ends es e len)) 0) e len' ≡ closed_ends es e len)
        → open_from last (cond t (e ∷ closed_ends es e len) []) ≤ len'
        → closed_ends (set (e ∷ es) (length (cond t (e ∷ closed_ends es e len) [])) 0) last len' ≡ cond t (e ∷ closed_ends es e len) []
    go true h ih low =
        let within : e ≤ len' = omega (arith, open_above es e len, low) in
        ends_on last len' e (set es (length (closed_ends es e len)) 0) (counts_above last len e h) within ∙ ap (λ (l : List ℕ). e ∷ l) (ih low)
    go false h ih low = ends_fallen last len' 0 es (omega arith)

-- THE LENGTH HELD THERE, above all of them: it is one more, and the open segment begins behind it
pub ends_closed : (es : List ℕ) (last len e' : ℕ) → open_from last (closed_ends es last len) < e' → length (closed_ends es last len) < length es
    → closed_ends (set es (length (closed_ends es last len)) e') last e' ≡ closed_ends es last len ++ (e' ∷ [])
ends_closed [] last len e' low room = absurd (no room)
  where
    no : 0 < 0 → ⊥
    no h = omega arith
ends_closed (e ∷ es) last len e' low room = go (counts last len e) refl (ends_closed es e len e') low room
  where
    go : (t : Bool) → counts last len e ≡ t
        → (open_from e (closed_ends es e len) < e' → length (closed_ends es e len) < length es → closed_ends (set es (length (closed_ends es e len)) e') e e' ≡ closed_ends es e len ++ (e' ∷ []))
        → open_from last (cond t (e ∷ closed_ends es e len) []) < e' → length (cond t (e ∷ closed_ends es e len) []) < suc (length es)
        → closed_ends (set (e ∷ es) (length (cond t (e ∷ closed_ends es e len) [])) e') last e' ≡ cond t (e ∷ closed_ends es e len) [] ++ (e' ∷ [])
    go true h ih low room =
        let within : e ≤ e' = omega (arith, open_above es e len, low) in
        ends_on last e' e (set es (length (closed_ends es e len)) e') (counts_above last len e h) within ∙ ap (λ (l : List ℕ). e ∷ l) (ih low (omega (arith, room)))
    go false h ih low room = ends_on last e' e' es low (omega arith) ∙ ap (λ (l : List ℕ). e' ∷ l) (ends_none es e')

-- NO WORD IS LEFT for one more: none is written, and with a greater length the same count
pub ends_full : (es : List ℕ) (last len len' v : ℕ) → open_from last (closed_ends es last len) ≤ len' → length es ≤ length (closed_ends es last len)
    → closed_ends (set es (length (closed_ends es last len)) v) last len' ≡ closed_ends es last len
ends_full [] last len len' v low full = refl
ends_full (e ∷ es) last len len' v low full = go (counts last len e) refl (ends_full es e len len' v) low full
  where
    go : (t : Bool) → counts last len e ≡ t
        → (open_from e (closed_ends es e len) ≤ len' → length es ≤ length (closed_ends es e len) → closed_ends (set es (length (closed_ends es e len)) v) e len' ≡ closed_ends es e len)
        → open_from last (cond t (e ∷ closed_ends es e len) []) ≤ len' → suc (length es) ≤ length (cond t (e ∷ closed_ends es e len) [])
        → closed_ends (set (e ∷ es) (length (cond t (e ∷ closed_ends es e len) [])) v) last len' ≡ cond t (e ∷ closed_ends es e len) []
    go true h ih low full =
        let within : e ≤ len' = omega (arith, open_above es e len, low) in
        ends_on last len' e (set es (length (closed_ends es e len)) v) (counts_above last len e h) within ∙ ap (λ (l : List ℕ). e ∷ l) (ih low (omega (arith, full)))
    go false h ih low full = absurd (no full)
      where
        no : suc (length es) ≤ 0 → ⊥
        no h = omega (arith, h)

-- THE WORDS THAT COUNT are the first of them, and lent alone they count all
pub ends_first : (es : List ℕ) (last len : ℕ) → take (length (closed_ends es last len)) es ≡ closed_ends es last len
ends_first [] last len = refl
ends_first (e ∷ es) last len = go (counts last len e) (ends_first es e len)
  where
    go : (t : Bool) → take (length (closed_ends es e len)) es ≡ closed_ends es e len → take (length (cond t (e ∷ closed_ends es e len) [])) (e ∷ es) ≡ cond t (e ∷ closed_ends es e len) []
    go true ih = ap (λ (l : List ℕ). e ∷ l) ih
    go false ih = refl

pub ends_alone : (es : List ℕ) (last len len' : ℕ) → open_from last (closed_ends es last len) ≤ len' → closed_ends (closed_ends es last len) last len' ≡ closed_ends es last len
ends_alone [] last len len' low = refl
ends_alone (e ∷ es) last len len' low = go (counts last len e) refl (ends_alone es e len len') low
  where
    go : (t : Bool) → counts last len e ≡ t → (open_from e (closed_ends es e len) ≤ len' → closed_ends (closed_ends es e len) e len' ≡ closed_ends es e len)
        → open_from last (cond t (e ∷ closed_ends es e len) []) ≤ len' → closed_ends (cond t (e ∷ closed_ends es e len) []) last len' ≡ cond t (e ∷ closed_ends es e len) []
    go true h ih low =
        let within : e ≤ len' = omega (arith, open_above es e len, low) in
        ends_on last len' e (closed_ends es e len) (counts_above last len e h) within ∙ ap (λ (l : List ℕ). e ∷ l) (ih low)
    go false h ih low = refl

pub open_more : (last : ℕ) (es : List ℕ) (e : ℕ) → open_from last (es ++ (e ∷ [])) ≡ e
open_more last [] e = refl
open_more last (x ∷ es) e = open_more x es e

-- ---- the walk over the words: with those from an index on, from where the open segment would begin, it finds what all give

pub record Walk (all : List ℕ) (len index from : ℕ) : Type 0 where
  pub counted : index + length (closed_ends (drop index all) from len) ≡ length (closed_ends all 0 len)
  pub ends : open_from from (closed_ends (drop index all) from len) ≡ open_from 0 (closed_ends all 0 len)
  pub within : from ≤ len

pub walk_first : (all : List ℕ) (len : ℕ) → Walk all len 0 0
walk_first all len = record { counted = omega arith; ends = refl; within = omega arith }

module _ {all : List ℕ} {len index from : ℕ} (w : Walk all len index from) where
  pub walk_on : {e : ℕ} → closed_ends (drop index all) from len ≡ e ∷ closed_ends (drop (index + 1) all) e len → e ≤ len → Walk all len (index + 1) e
  walk_on e within = record { counted = omega (arith, w.counted, ap length e); ends = sym (ap (open_from from) e) ∙ w.ends; within = within }

  module _ (none : closed_ends (drop index all) from len ≡ []) where
    pub walk_counted : index ≡ length (closed_ends all 0 len)
    walk_counted = omega (arith, w.counted, ap length none)

    pub walk_ends : from ≡ open_from 0 (closed_ends all 0 len)
    walk_ends = sym (ap (open_from from) none) ∙ w.ends
