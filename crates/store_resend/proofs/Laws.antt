-- The loops over the ranges, and the set that stays. Assumes nothing.
use mathlib.Core.Path.{◌≡◌, refl, sym, ap, subst, ◌∙◌}
use mathlib.Core.Bool.{Bool, true, false, cond, ◌&&◌, ◌||◌}
use mathlib.Core.List.{List, [], ◌∷◌}
use Prim.Native.Nat.{ℕ, zero, suc, ◌+◌, ◌*◌, ◌-◌, ◌≤◌, ◌<◌}
use native.Mathlib.Omega.{arith}
use native.Mathlib.Numerals.{add-one}
use native.Mathlib.Nat.{sub-zero}
use lib.ListN.{length}
use Rattle.std.specs.List.{list_all, range_with_len}
use lib.Dec.{leb, ltb, eqb}
use borrow.Author.Tests.{ltb-true, ltb-false, le-leb, lt-leb, leb-true, leb-false}
use Rattle.model_session.specs.Session.{top}
use Rattle.model_resend.specs.Resend.{Range, is_range, are_ranges, lies, set_of}
use Rattle.model_resend.proofs.Sets.{fits_63}
use Rattle.store_resend.specs.Ranges.{range_at, ranges_from, stays, until, lowest_of, Serves}

-- ---- the set stays up to `until`

one : (r : Range) (n m : ℕ) → n ≤ m → m ≤ stays r n → lies r m ≡ lies r n
one r n m low high = go (ltb n r.first) refl (eqb r.last 0) refl (leb n r.last) refl high
  where
    go : (a : Bool) → ltb n r.first ≡ a → (b : Bool) → eqb r.last 0 ≡ b → (c : Bool) → leb n r.last ≡ c
        → m ≤ cond a (r.first - 1) (cond b top (cond c r.last top)) → lies r m ≡ lies r n
    go true ea b eb c ec h =
        let x : n < r.first = ltb-true n r.first ea in
        let y : m < r.first = omega (arith, h, x) in
        ap (λ (t : Bool). t && (eqb r.last 0 || leb m r.last)) (lt-leb r.first m y)
        ∙ ap (λ (t : Bool). t && (eqb r.last 0 || leb n r.last)) (sym (lt-leb r.first n x))
    go false ea b eb c ec h =
        let x : r.first ≤ n = ltb-false n r.first ea in
        ap (λ (t : Bool). t && (eqb r.last 0 || leb m r.last)) (le-leb r.first m (omega (arith, x, low)))
        ∙ ap (λ (t : Bool). t || leb m r.last) eb ∙ tail b c ec h
        ∙ ap (λ (t : Bool). t || leb n r.last) (sym eb)
        ∙ ap (λ (t : Bool). t && (eqb r.last 0 || leb n r.last)) (sym (le-leb r.first n x))
      where
        tail : (b c : Bool) → leb n r.last ≡ c → m ≤ cond b top (cond c r.last top) → (b || leb m r.last) ≡ (b || leb n r.last)
        tail true c ec h = refl
        tail false true ec h = le-leb m r.last h ∙ sym ec
        tail false false ec h = lt-leb m r.last (omega (arith, leb-false n r.last ec, low)) ∙ sym ec

set_stays : (rs : List Range) (n m : ℕ) → n ≤ m → m ≤ until rs n → set_of rs m ≡ set_of rs n
set_stays [] n m low high = refl
set_stays (r ∷ rs) n m low high =
    ap (λ (t : Bool). cond t 1 0 + 2 * set_of rs m) (one r n m low (omega (arith, high)))
    ∙ ap (λ (k : ℕ). cond (lies r n) 1 0 + 2 * k) (set_stays rs n m low (omega (arith, high)))

-- n itself lies within
reaches : (r : Range) (n : ℕ) → n ≤ top → n ≤ stays r n
reaches r n small = go (ltb n r.first) refl (eqb r.last 0) (leb n r.last) refl
  where
    go : (a : Bool) → ltb n r.first ≡ a → (b c : Bool) → leb n r.last ≡ c → n ≤ cond a (r.first - 1) (cond b top (cond c r.last top))
    go true ea b c ec = omega (arith, ltb-true n r.first ea)
    go false ea true c ec = small
    go false ea false true ec = leb-true n r.last ec
    go false ea false false ec = small

reaches_all : (rs : List Range) (n : ℕ) → n ≤ top → n ≤ until rs n
reaches_all [] n small = small
reaches_all (r ∷ rs) n small = omega (arith, reaches r n small, reaches_all rs n small)

-- ---- the loops

-- how one range more in front changes the set and the bound
module _ (w : List ℕ) (n count : ℕ) where
  pub record Gathering (set bound j : ℕ) : Type 0 where
    pub upto : j ≤ count
    pub set_so : set ≡ set_of (ranges_from w j (count - j)) n
    pub bound_so : bound ≡ until (ranges_from w j (count - j)) n

  pub begins : Gathering 0 top count
  begins =
      let e : count - count ≡ 0 = omega arith in
      record { upto = omega arith; set_so = rw e refl; bound_so = rw e refl }

  pub many : (j k : ℕ) → length (ranges_from w j k) ≡ k
  many j zero = refl
  many j (suc k) = ap suc (many (suc j) k)

  pub small : (set bound j : ℕ) → count ≤ 64 → 0 < j → Gathering set bound j → set < 9223372036854775808
  small set bound j few more g = subst (λ (k : ℕ). k < 9223372036854775808) (sym g.set_so) (fits_63 (ranges_from w j (count - j)) n (omega (arith, many j (count - j))))

  pub gathered : (set bound j : ℕ) → n ≤ top → j ≤ 0 → Gathering set bound j → Serves (ranges_from w 0 count) n (record { base = n; until = bound; set = set })
  gathered set bound j fits end g =
      let z : j ≡ 0 = omega arith in
      let all : ranges_from w j (count - j) ≡ ranges_from w 0 count = ap (λ (k : ℕ). ranges_from w k (count - k)) z ∙ rw (sub-zero count) refl in
      record {
        same = record { keeps = λ m low high. set_stays (ranges_from w 0 count) n m low (subst (λ (k : ℕ). m ≤ k) (g.bound_so ∙ ap (λ (rs : List Range). until rs n) all) high) ∙ sym (g.set_so ∙ ap (λ (rs : List Range). set_of rs n) all) };
        from = omega arith;
        upto = subst (λ (k : ℕ). n ≤ k) (sym (g.bound_so ∙ ap (λ (rs : List Range). until rs n) all)) (reaches_all (ranges_from w 0 count) n fits);
      }

-- the lowest first number
module _ (w : List ℕ) (count : ℕ) where
  pub record Lowering (low j : ℕ) : Type 0 where
    pub upto : j ≤ count
    pub low_so : low ≡ lowest_of (ranges_from w j (count - j))

-- whether all are ranges
module _ (w : List ℕ) where
  abbrev pub is_range_at : ℕ → Bool
  is_range_at j = is_range (range_at w j)

  pub all_from : (j n : ℕ) → list_all is_range_at (range_with_len j n) ≡ are_ranges (ranges_from w j n)
  all_from j zero = refl
  all_from j (suc n) = ap (λ (c : Bool). is_range_at j && c) (all_from (j + 1) n ∙ ap (λ (i : ℕ). are_ranges (ranges_from w i n)) (add-one j))
