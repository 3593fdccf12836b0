-- Comparing texts; the key and the session of a new place. Assumes nothing.
use mathlib.Core.Path.{◌≡◌, refl, ap, ◌∙◌}
use mathlib.Core.Bool.{Bool, ◌&&◌, and-false}
use mathlib.Core.Logic.{inl}
use mathlib.Core.List.{List, [], ◌∷◌}
use Prim.Native.Nat.{ℕ, ◌≤◌}
use native.Mathlib.Omega.{arith}
use lib.Dec.{eqb}
use Rattle.std.specs.Cmp.Lexicographic.{pointwise}
use lib.ListN.{length, set}
use Rattle.model_frame.specs.Frame.{Key, reset}
use Rattle.model_session.specs.Session.{new_session, apply}
use Rattle.model_standby.specs.Store.{same_bytes, on_stored, changed, new_place}
use Rattle.store_place.specs.Place.{field, stored_key, key_from, durable_of, place_in, PutText}
use Rattle.store_place.proofs.Header.{Header, header, header_of}
use Rattle.store_place.proofs.Fields.{field_kept}

-- ---- two texts

-- `==` of two slices
pub same_is : (a b : List ℕ) → pointwise eqb a b ≡ same_bytes a b
same_is [] [] = refl
same_is [] (y ∷ b) = refl
same_is (x ∷ a) [] = refl
same_is (x ∷ a) (y ∷ b) = ap (λ (t : Bool). eqb x y && t) (same_is a b)

-- ---- a new place

key_at : (x0 x1 x2 x3 b w : List ℕ) → Header w
    → field b 0 32 (length x0) ≡ x0 → field b 32 32 (length x1) ≡ x1 → field b 64 32 (length x2) ≡ x2 → field b 96 32 (length x3) ≡ x3
    → stored_key (set (set (set (set w 7 (length x0)) 8 (length x1)) 9 (length x2)) 10 (length x3)) b ≡ key_from x0 x1 x2 x3
unfolding stored_key
key_at x0 x1 x2 x3 b w (header a0 a1 a2 a3 a4 a5 a6 a7 a8 a9 a10 a11 a12 a13 ws) e0 e1 e2 e3 = λ i. key_from (e0 i) (e1 i) (e2 i) (e3 i)

fresh : (C M : ℕ) (w b : List ℕ) (k : Key) → stored_key w b ≡ k → on_stored (changed C M (reset ∷ [])) (place_in C M w b) ≡ new_place k
unfolding place_in apply
fresh C M w b k e = λ i. record { key = e i; stored = record { session = new_session; durable = and-false (durable_of w) i } }

pub new_place_lem : (C M : ℕ) (x0 x1 x2 x3 b b0 b1 b2 b3 w v : List ℕ) → 14 ≤ length w
    → PutText 0 32 x0 b b0 → PutText 32 32 x1 b0 b1 → PutText 64 32 x2 b1 b2 → PutText 96 32 x3 b2 b3
    → place_in C M v b3 ≡ on_stored (changed C M (reset ∷ [])) (place_in C M (set (set (set (set w 7 (length x0)) 8 (length x1)) 9 (length x2)) 10 (length x3)) b3)
    → place_in C M v b3 ≡ new_place (key_from x0 x1 x2 x3)
new_place_lem C M x0 x1 x2 x3 b b0 b1 b2 b3 w v h p0 p1 p2 p3 e =
    let n0 : ℕ = length x0 in
    let n1 : ℕ = length x1 in
    let n2 : ℕ = length x2 in
    let e2 : field b3 64 32 n2 ≡ x2 = field_kept 96 128 64 32 n2 b2 b3 p3.only (inl (omega arith)) ∙ p2.holds in
    let e1 : field b3 32 32 n1 ≡ x1 = field_kept 96 128 32 32 n1 b2 b3 p3.only (inl (omega arith)) ∙ field_kept 64 96 32 32 n1 b1 b2 p2.only (inl (omega arith)) ∙ p1.holds in
    let e0 : field b3 0 32 n0 ≡ x0 =
    field_kept 96 128 0 32 n0 b2 b3 p3.only (inl (omega arith)) ∙ field_kept 64 96 0 32 n0 b1 b2 p2.only (inl (omega arith)) ∙ field_kept 32 64 0 32 n0 b0 b1 p1.only (inl (omega arith)) ∙ p0.holds in
    e ∙ fresh C M (set (set (set (set w 7 n0) 8 n1) 9 n2) 10 (length x3)) b3 (key_from x0 x1 x2 x3) (key_at x0 x1 x2 x3 b3 w (header_of w h) e0 e1 e2 p3.holds)
