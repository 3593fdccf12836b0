-- Where a line feed stands, what a copy leaves, and what feeding a piece gives. Assumes nothing.
use mathlib.Core.Path.{◌≡◌, refl, sym, ap, subst, ◌∙◌}
use mathlib.Core.Bool.{Bool, true, false}
use mathlib.Core.List.{List, [], ◌∷◌, ◌++◌, append_assoc}
use Prim.Native.Nat.{ℕ, ◌+◌, ◌-◌, ◌<◌, ◌≤◌, min}
use native.Mathlib.Omega.{arith}
use lib.ListN.{length, take, drop, length-drop, length-take, drop_of_length-le}
use lib.Seq.{paste, take-paste, take-take, take_all, take-append-add, drop-drop, length-take-le}
use lib.Dec.{leb, ltb, eqb}
use borrow.Author.Tests.{leb-true, leb-false, ltb-true, ltb-false, lt-ltb, le-ltb}
use borrow.Rule.Slice.PartMut.{put_mid}
use Rattle.std.specs.Prelude.{◌==◌, Option, Some, None, position}
use Rattle.std.specs.List.{position_or_len}
use Rattle.std.specs.Option.{unwrap_or}
use Rattle.std.specs.Bool.{then_some}
use Rattle.model_text.specs.Lines.{feed, first_feed, whole_line, part_line, cut_at}
use Rattle.base_lines.specs.Feeding.{Feeds}

-- ---- the next line feed

place_is : (s : List ℕ) → position_or_len (λ b. b == 10) s ≡ first_feed s
place_is [] = refl
place_is (b ∷ s) = go (eqb b feed) refl (place_is s)
  where
    go : (t : Bool) → eqb b feed ≡ t → position_or_len (λ b. b == 10) s ≡ first_feed s → position_or_len (λ b. b == 10) (b ∷ s) ≡ first_feed (b ∷ s)
    go true e h = rw e refl
    go false e h = rw e (omega arith)

feed_le : (s : List ℕ) → first_feed s ≤ length s
feed_le [] = omega arith
feed_le (b ∷ s) = go (eqb b feed) refl (feed_le s)
  where
    go : (t : Bool) → eqb b feed ≡ t → first_feed s ≤ length s → first_feed (b ∷ s) ≤ length (b ∷ s)
    go true e h = rw e (omega arith)
    go false e h = rw e (omega arith)

-- the place, or the end
pub found : (s : List ℕ) (r : Option ℕ) → r ≡ position (λ b. b == 10) s → unwrap_or r (length s) ≡ first_feed s
found s r e = ap (λ (o : Option ℕ). unwrap_or o (length s)) e ∙ go (ltb (position_or_len (λ b. b == 10) s) (length s)) refl
  where
    go : (t : Bool) → ltb (position_or_len (λ b. b == 10) s) (length s) ≡ t → unwrap_or (position (λ b. b == 10) s) (length s) ≡ first_feed s
    go true e = rw e (place_is s)
    go false e = rw e (let far : length s ≤ position_or_len (λ b. b == 10) s = ltb-false _ _ e in omega (arith, place_is s, feed_le s))

-- from the end on there is none
pub none_past : (piece : List ℕ) (from : ℕ) → length piece < from → from ≡ from + first_feed (drop from piece)
none_past piece from h = let none : first_feed (drop from piece) ≡ 0 = (let past : length piece ≤ from = omega arith in rw (drop_of_length-le piece past) refl) in omega arith

pub found_from : (piece : List ℕ) (from : ℕ) (rest : List ℕ) (r : Option ℕ) (n : ℕ) → rest ≡ take (length piece - from) (drop from piece) → r ≡ position (λ b. b == 10) rest → n ≡ unwrap_or r (length rest)
    → from + n ≡ from + first_feed (drop from piece)
found_from piece from rest r n e p u =
    let all : rest ≡ drop from piece = e ∙ take_all (length piece - from) (drop from piece) (omega (arith, length-drop from piece)) in
    ap (λ (k : ℕ). from + k) (u ∙ found rest r p) ∙ ap (λ (l : List ℕ). from + first_feed l) all

-- ---- copying

pub copied : (before : List ℕ) (at : ℕ) (src : List ℕ) (from n : ℕ) (ys : List ℕ) → from + n ≤ length src → ys ≡ take (from + n - from) (drop from src)
    → put_mid at (at + n - at) before ys ≡ paste before at (drop from src) n
copied before at src from n ys long e =
    let here : from + n - from ≡ n = omega arith in
    let there : at + n - at ≡ n = omega arith in
    rw (e, here, there, drop-drop n at before) (sym (append_assoc (take at before) (take n (drop from src)) (drop (at + n) before)))

-- ---- feeding

take_least : (n k r : ℕ) (s : List ℕ) → n ≡ min k r → take r (take k s) ≡ take n s
take_least n k r s e = go (leb k r) refl
  where
    go : (t : Bool) → leb k r ≡ t → take r (take k s) ≡ take n s
    go true q =
        let le : k ≤ r = leb-true k r q in
        let short : length (take k s) ≤ r = omega (arith, length-take k s) in
        let same : k ≡ n = omega arith in
        take_all r (take k s) short ∙ ap (λ (m : ℕ). take m s) same
    go false q =
        let lt : r < k = leb-false k r q in
        let le : r ≤ k = omega arith in
        let same : r ≡ n = omega arith in
        take-take r k s le ∙ ap (λ (m : ℕ). take m s) same

pub bounds : (piece : List ℕ) (from to : ℕ) → from ≤ length piece → to ≡ from + first_feed (drop from piece) → (from ≤ to) × (to ≤ length piece)
bounds piece from to inside at = (omega arith, omega (arith, feed_le (drop from piece), length-drop from piece))

module _ (before : List ℕ) (len : ℕ) (piece : List ℕ) (from to n : ℕ) (fits : len ≤ length before) (inside : from ≤ length piece)
    (at : to ≡ from + first_feed (drop from piece)) (count : n ≡ min (to - from) (length before - len)) (after : List ℕ) (put : after ≡ paste before len (drop from piece) n) where
  -- the bytes before the line feed are kept as far as there is room
  kept : take (len + n) after ≡ take (length before) (take len before ++ take (first_feed (drop from piece)) (drop from piece))
  kept =
      let head : length (take len before) ≡ len = length-take-le len before fits in
      let sum : length before ≡ length (take len before) + (length before - len) = omega arith in
      let least : n ≡ min (first_feed (drop from piece)) (length before - len) = count ∙ ap (λ (m : ℕ). min m (length before - len)) (omega arith) in
      let few : n ≤ length (drop from piece) = omega (arith, feed_le (drop from piece)) in
      ap (take (len + n)) put ∙ take-paste before len (drop from piece) n fits few
      ∙ ap (λ (l : List ℕ). take len before ++ l) (sym (take_least n (first_feed (drop from piece)) (length before - len) (drop from piece) least))
      ∙ sym (take-append-add (take len before) (take (first_feed (drop from piece)) (drop from piece)) (length before - len))
      ∙ ap (λ (m : ℕ). take m (take len before ++ take (first_feed (drop from piece)) (drop from piece))) (sym sum)

  feeds_line : to < length piece → Feeds before len piece from after (record { len = len + n; next = Some (to + 1) })
  unfolding cut_at
  feeds_line h = record {
    cut =
        let found : first_feed (drop from piece) < length (drop from piece) = omega (arith, length-drop from piece) in
        let next : from + (first_feed (drop from piece) + 1) ≡ to + 1 = omega arith in
        rw (lt-ltb (first_feed (drop from piece)) (length (drop from piece)) found, drop-drop (first_feed (drop from piece) + 1) from piece, next) (ap (λ (l : List ℕ). whole_line l (drop (to + 1) piece)) kept);
    room = omega arith;
    within = omega arith;
    further = omega arith;
  }

  feeds_part : length piece ≤ to → Feeds before len piece from after (record { len = len + n; next = None })
  unfolding cut_at
  feeds_part h = record {
    cut =
        let none : length (drop from piece) ≤ first_feed (drop from piece) = omega (arith, length-drop from piece) in
        let all : take (first_feed (drop from piece)) (drop from piece) ≡ drop from piece = take_all (first_feed (drop from piece)) (drop from piece) none in
        rw (le-ltb (first_feed (drop from piece)) (length (drop from piece)) none) (ap part_line (kept ∙ ap (λ (l : List ℕ). take (length before) (take len before ++ l)) all));
    room = omega arith;
    within = tt;
    further = tt;
  }

  pub feeds : {r : Option ℕ} → r ≡ then_some (ltb to (length piece)) (to + 1) → Feeds before len piece from after (record { len = len + n; next = r })
  feeds {r} e = subst (λ (o : Option ℕ). Feeds before len piece from after (record { len = len + n; next = o })) (sym e) (go (ltb to (length piece)) refl)
    where
      go : (t : Bool) → ltb to (length piece) ≡ t → Feeds before len piece from after (record { len = len + n; next = then_some (ltb to (length piece)) (to + 1) })
      go true q = rw q (feeds_line (ltb-true to (length piece) q))
      go false q = rw q (feeds_part (ltb-false to (length piece) q))
