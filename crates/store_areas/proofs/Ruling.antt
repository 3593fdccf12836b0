-- The tests of the rules, and the rules as facts. Assumes nothing.
use mathlib.Core.Path.{◌≡◌, refl, sym, ap, ◌∙◌}
use mathlib.Core.Bool.{Bool, true, false, cond, ◌&&◌}
use mathlib.Core.List.{List, []}
use Prim.Native.Nat.{ℕ, ◌+◌, ◌*◌, ◌≤◌, ◌<◌}
use native.Mathlib.Omega.{arith}
use native.Mathlib.Nat.{le_trans, mul-le-mul_left, mul-le-mul_right}
use borrow.Author.Tests.{le-leb, lt-leb, leb-true, ltb-true}
use lib.Dec.{leb, ltb}
use lib.ListN.{length, get_or, set, length-set}
use lib.Seq.{get_or-set_same, get_or-set_other}
use Rattle.model_text.proofs.Formed.{and_l, and_r}
use Rattle.store_areas.specs.declared.Shape.{Shape}
use Rattle.std.specs.Prelude.{Result, Ok, Err}
use Rattle.base_refusals.specs.declared.Refusal.{Refusal}
use Rattle.base_refusals.specs.Numbers.{answer_number}
use Rattle.store_areas.specs.Areas.{place_words, place_bytes, roomy, allowed, Room, Rules, in_use, InUse, place_at, count_up, places_of, Making}

module _ (s : Shape) (w b : List ℕ) where
  t1 : Bool
  t1 = leb s.bytes 33554432

  t2 : Bool
  t2 = leb s.messages 65536

  t3 : Bool
  t3 = leb (66 + s.places * place_words s) (length w)

  t4 : Bool
  t4 = leb (s.places * place_bytes s) (length b)

  pub room_of : roomy s w b ≡ true → Room s w b
  unfolding roomy t1 t2 t3 t4
  room_of e =
      let e2 : (t2 && (t3 && t4)) ≡ true = and_r t1 (t2 && (t3 && t4)) e in
      let e3 : (t3 && t4) ≡ true = and_r t2 (t3 && t4) e2 in
      record {
        bytes_limit = leb-true s.bytes 33554432 (and_l t1 (t2 && (t3 && t4)) e);
        messages_limit = leb-true s.messages 65536 (and_l t2 (t3 && t4) e2);
        words_long = leb-true (66 + s.places * place_words s) (length w) (and_l t3 t4 e3);
        bytes_long = leb-true (s.places * place_bytes s) (length b) (and_r t3 t4 e3);
      }

  pub room_true : Room s w b → roomy s w b ≡ true
  unfolding roomy
  room_true r = simp (le-leb s.bytes 33554432 r.bytes_limit, le-leb s.messages 65536 r.messages_limit, le-leb (66 + s.places * place_words s) (length w) r.words_long, le-leb (s.places * place_bytes s) (length b) r.bytes_long)

  pub rules_of : allowed s w b ≡ true → Rules s w b
  unfolding allowed
  rules_of e =
      let u : Bool = leb (get_or w 0 0) s.places in
      let v : Bool = leb (get_or w 1 0) 64 in
      let e2 : (u && v) ≡ true = and_r (roomy s w b) (u && v) e in
      record { room = room_of (and_l (roomy s w b) (u && v) e); used = leb-true (get_or w 0 0) s.places (and_l u v e2); pending = leb-true (get_or w 1 0) 64 (and_r u v e2) }

  pub in_use_of : (i : ℕ) → in_use s w b i ≡ true → InUse s w b i
  in_use_of i e = record { rules = rules_of (and_l (allowed s w b) (ltb i (get_or w 0 0)) e); at = ltb-true i (get_or w 0 0) (and_r (allowed s w b) (ltb i (get_or w 0 0)) e) }

  pub rules_true : Rules s w b → allowed s w b ≡ true
  unfolding allowed
  rules_true r = (λ i. room_true r.room i && (le-leb (get_or w 0 0) s.places r.used i && le-leb (get_or w 1 0) 64 r.pending i))

  pub bytes_beyond : 33554432 < s.bytes → false ≡ roomy s w b
  unfolding roomy
  bytes_beyond h = sym (simp (lt-leb s.bytes 33554432 h))

  pub messages_beyond : s.bytes ≤ 33554432 → 65536 < s.messages → false ≡ roomy s w b
  unfolding roomy
  messages_beyond g h = sym (simp (le-leb s.bytes 33554432 g, lt-leb s.messages 65536 h))

  pub lengths_judged : (pw pb : ℕ) → s.bytes ≤ 33554432 → s.messages ≤ 65536 → pw ≡ place_words s → pb ≡ place_bytes s
      → (leb (66 + s.places * pw) (length w) && leb (s.places * pb) (length b)) ≡ roomy s w b
  unfolding roomy
  lengths_judged pw pb g h ew eb =
      (λ i. leb (66 + s.places * ew i) (length w) && leb (s.places * eb i) (length b))
      ∙ sym (simp (le-leb s.bytes 33554432 g, le-leb s.messages 65536 h))

  -- what `allowed` answers
  pub counts_judged : roomy s w b ≡ true → (leb (get_or w 0 0) s.places && leb (get_or w 1 0) 64) ≡ allowed s w b
  unfolding allowed
  counts_judged e = sym (ap (λ (t : Bool). t && (leb (get_or w 0 0) s.places && leb (get_or w 1 0) 64)) e)

  pub no_room : roomy s w b ≡ false → false ≡ allowed s w b
  unfolding allowed
  no_room e = sym (ap (λ (t : Bool). t && (leb (get_or w 0 0) s.places && leb (get_or w 1 0) 64)) e)

-- a number of places times the elements of one
pub product : (p n P N : ℕ) → p ≤ P → n ≤ N → p * n ≤ P * N
product p n P N hp hn = le_trans (mul-le-mul_left p hn) (mul-le-mul_right N hp)

-- ---- making

module _ (s : Shape) (w b : List ℕ) where
  by_room : (t : Bool) → roomy s w b ≡ t → (r : Result (Unit {0}) Refusal) → answer_number r ≡ cond t 0 25 → Making s w (cond t (set (set w 0 0) 1 0) w) b r
  by_room t e r p = record { answer = p ∙ sym (ap (λ (x : Bool). cond x 0 25) e); words = sym (ap (λ (x : Bool). cond x (set (set w 0 0) 1 0) w) e) }

  pub made_ready : roomy s w b ≡ true → Making s w (set (set w 0 0) 1 0) b (Ok tt)
  made_ready e = by_room true e (Ok tt) refl

  pub made_unfit : roomy s w b ≡ false → Making s w w b (Err Refusal.RulesBroken)
  made_unfit e = by_room false e (Err Refusal.RulesBroken) refl

-- a new store keeps the rules and has no places
pub made_rules : (s : Shape) (w b : List ℕ) → Room s w b → Rules s (set (set w 0 0) 1 0) b
made_rules s w b r =
    let l : length (set (set w 0 0) 1 0) ≡ length w = simp length-set in
    let a : get_or (set (set w 0 0) 1 0) 0 0 ≡ 0 = get_or-set_other (set w 0 0) 1 0 0 0 (λ e. omega arith) ∙ get_or-set_same w 0 0 0 (omega (arith, r.words_long)) in
    let c : get_or (set (set w 0 0) 1 0) 1 0 ≡ 0 = get_or-set_same (set w 0 0) 1 0 0 (simp length-set (omega (arith, r.words_long))) in
    record {
      room = record { bytes_limit = r.bytes_limit; messages_limit = r.messages_limit; words_long = omega (arith, r.words_long, l); bytes_long = r.bytes_long };
      used = omega (arith, a);
      pending = omega (arith, c);
    }

pub made_places : (s : Shape) (w b : List ℕ) → Room s w b → places_of s (set (set w 0 0) 1 0) b ≡ []
unfolding places_of
made_places s w b r =
    let v : List ℕ = set (set w 0 0) 1 0 in
    let a : get_or v 0 0 ≡ 0 = get_or-set_other (set w 0 0) 1 0 0 0 (λ e. omega arith) ∙ get_or-set_same w 0 0 0 (omega (arith, r.words_long)) in
    ap (count_up (place_at s v b) 0) a
