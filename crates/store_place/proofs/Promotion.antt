-- A final B, and what promotion leaves. Assumes nothing.
use mathlib.Core.Path.{◌≡◌, refl, sym, ap, ◌∙◌}
use mathlib.Core.Bool.{Bool, true, false, cond, ◌&&◌}
use mathlib.Core.Logic.{◌⊎◌, inl, inr}
use mathlib.Core.List.{List, [], ◌∷◌, ◌++◌}
use Prim.Native.Nat.{ℕ, zero, suc, ◌+◌, ◌-◌, ◌≤◌, ◌<◌, min, max}
use native.Mathlib.Omega.{arith}
use native.Mathlib.Numerals.{add-one}
use borrow.Author.Tests.{leb-false, lt-ltb, le-ltb, le-leb, lt-leb}
use lib.Dec.{leb, ltb}
use lib.ListN.{length, take, drop, get_or, set, length-append, length-take, length-drop}
use lib.Seq.{length-take-le, take-take, drop-set-add, take-suc-set, take_all}
use borrow.Rule.Slice.PartMut.{mid_of, put_mid}
use Rattle.model_text.specs.Printable.{is_printable_byte, all_printable, is_marks, is_printable}
use Rattle.model_text.proofs.Formed.{and_l, and_r}
use Rattle.model_text.proofs.Laws.{marks_is}
use Rattle.model_session.specs.Session.{top}
use Rattle.model_standby.specs.Store.{on_stored, with_b, taken_over}
use Rattle.store_log.specs.Log.{log_of}
use Rattle.store_log.proofs.Walk.{cmp}
use Rattle.store_place.specs.Only.{Only}
use Rattle.store_place.specs.Place.{next_out_of, stored_flight, durable_of, field, stamp_of, marks_of, stored_key, session_of, place_in, ends_in_b}
use Rattle.store_place.proofs.Header.{Header, header, header_of}
use Rattle.store_place.proofs.Fields.{only_set, only_wider, only_after}
use Rattle.store_place.proofs.Texts.{or_none}
use Rattle.store_place.proofs.Logging.{key_kept, stamp_kept, put_tail}

-- ---- the B

module _ (b : List ℕ) (n : ℕ) (h : 224 ≤ length b) (k : n ≤ 64) where
  abbrev l : List ℕ
  l = drop 160 b

  room : length l ≡ length b - 160
  room = length-drop 160 b

  pub marks_long : length (take n l) ≡ n
  marks_long = length-take-le n l (omega (arith, room))

  -- the test, where the code makes it of a part
  pub tested : (t : Bool) → t ≡ ends_in_b (take (160 + n - 160) l) → t ≡ ends_in_b (take n l)
  tested t e =
      let z : 160 + n - 160 ≡ n = omega arith in
      e ∙ ap (λ (j : ℕ). ends_in_b (take j l)) z

  -- the test as the model has it, then the three ways
  with_b_lem : Bool → List ℕ → List ℕ
  with_b_lem t m = cond t m (cond (leb 64 (length m)) (take 63 m ++ (66 ∷ [])) (m ++ (66 ∷ [])))

  pub has_b : (t : Bool) → t ≡ ends_in_b (take n l) → t ≡ true → take n l ≡ with_b (take n l)
  unfolding with_b_lem
  has_b t e y = sym (ap (λ (j : Bool). with_b_lem j (take n l)) (sym e ∙ y))

  pub full_b : (t : Bool) → t ≡ ends_in_b (take n l) → t ≡ false → 64 ≤ n → take n (drop 160 (set b 223 66)) ≡ with_b (take n l)
  unfolding with_b_lem
  full_b t e y g =
      let n64 : n ≡ 64 = omega arith in
      let a : drop 160 (set b 223 66) ≡ set l 63 66 = drop-set-add 160 b 63 66 in
      let c : take 64 (set l 63 66) ≡ take 63 l ++ (66 ∷ []) = take-suc-set l 63 66 (omega (arith, room)) in
      let d : take 63 (take n l) ≡ take 63 l = take-take 63 n l (omega arith) in
      ap (λ (j : ℕ). take j (drop 160 (set b 223 66))) n64 ∙ ap (take 64) a ∙ c
      ∙ sym (ap (λ (j : Bool). with_b_lem j (take n l)) (sym e ∙ y) ∙ simp (le-leb 64 (length (take n l)) (omega (arith, marks_long))) (ap (λ (m : List ℕ). m ++ (66 ∷ [])) d))

  pub more_b : (t : Bool) → t ≡ ends_in_b (take n l) → t ≡ false → n < 64 → take (n + 1) (drop 160 (set b (160 + n) 66)) ≡ with_b (take n l)
  unfolding with_b_lem
  more_b t e y g =
      let a : drop 160 (set b (160 + n) 66) ≡ set l n 66 = drop-set-add 160 b n 66 in
      ap (λ (j : ℕ). take j (drop 160 (set b (160 + n) 66))) (add-one n) ∙ ap (take (suc n)) a ∙ take-suc-set l n 66 (omega (arith, room))
      ∙ sym (ap (λ (j : Bool). with_b_lem j (take n l)) (sym e ∙ y) ∙ simp (lt-leb 64 (length (take n l)) (omega (arith, marks_long))))

  pub only_b : (j : ℕ) → j ≤ 63 → Only 160 224 b (set b (160 + j) 66)
  only_b j g = only_wider (160 + j) (160 + j + 1) 160 224 b (set b (160 + j) 66) (only_set (160 + j) 66 b) (omega arith) (omega arith)

-- ---- marks stay marks

plain_take : (n : ℕ) (m : List ℕ) → all_printable m ≡ true → all_printable (take n m) ≡ true
plain_take zero m e = refl
plain_take (suc n) [] e = refl
plain_take (suc n) (x ∷ m) e = λ i. and_l (is_printable_byte x) (all_printable m) e i && plain_take n m (and_r (is_printable_byte x) (all_printable m) e) i

plain_snoc : (m : List ℕ) → all_printable m ≡ true → all_printable (m ++ (66 ∷ [])) ≡ true
unfolding is_printable_byte
plain_snoc [] e = refl
plain_snoc (x ∷ m) e = λ i. and_l (is_printable_byte x) (all_printable m) e i && plain_snoc m (and_r (is_printable_byte x) (all_printable m) e) i

marks_by : (m : List ℕ) → length m ≤ 64 → all_printable m ≡ true → is_marks m ≡ true
unfolding is_marks is_printable
marks_by m h p = simp (le-leb 0 (length m) (omega arith), le-leb (length m) 64 h) p

marks_with : (m : List ℕ) (t u : Bool) → u ≡ leb 64 (length m) → is_marks m ≡ true → is_marks (cond t m (cond u (take 63 m ++ (66 ∷ [])) (m ++ (66 ∷ [])))) ≡ true
marks_with m true u eu e = e
marks_with m false true eu e = marks_by (take 63 m ++ (66 ∷ [])) (omega (arith, length-append (take 63 m) (66 ∷ []), length-take 63 m)) (plain_snoc (take 63 m) (plain_take 63 m (marks_is m e).plain))
marks_with m false false eu e = marks_by (m ++ (66 ∷ [])) (omega (arith, length-append m (66 ∷ []), leb-false 64 (length m) (sym eu))) (plain_snoc m (marks_is m e).plain)

pub marks_b : (m : List ℕ) → is_marks m ≡ true → is_marks (with_b m) ≡ true
marks_b m e = marks_with m (ends_in_b m) (leb 64 (length m)) refl e

-- ---- promotion

-- the marks of a place are marks
marks_valid : (f : List ℕ) (t : Bool) → is_marks f ≡ t → is_marks (or_none t f) ≡ true
unfolding is_marks is_printable
marks_valid f true e = e
marks_valid f false e = refl

pub marks_marks : (w b : List ℕ) → is_marks (marks_of w b) ≡ true
unfolding marks_of
marks_marks w b = marks_valid (field b 160 64 (get_or w 6 0)) (is_marks (field b 160 64 (get_or w 6 0))) refl

skip : (next lag : ℕ) → 1 ≤ next → next ≤ top → max (min (next + lag) top) 1 ≡ cond (ltb 0 lag) (min (next + lag) top) next
skip next lag one h = go (cmp lag 0)
  where
    go : (lag ≤ 0) ⊎ (0 < lag) → max (min (next + lag) top) 1 ≡ cond (ltb 0 lag) (min (next + lag) top) next
    go (inl z) = simp (le-ltb 0 lag z) (omega arith)
    go (inr z) = simp (lt-ltb 0 lag z) (omega arith)

cut_field : (b : List ℕ) (n : ℕ) → n ≤ 64 → field b 160 64 n ≡ take n (drop 160 b)
unfolding field
cut_field b n h =
    let m : min n 64 ≡ n = omega arith in
    ap (λ (k : ℕ). take k (drop 160 b)) m

taken_at : (C M lag end out : ℕ) (b b' ys w : List ℕ) → Header w → Only 160 224 b b'
    → end ≤ 64 → take end (drop 160 b') ≡ with_b (marks_of w b) → next_out_of w ≤ top → out ≡ min (next_out_of w + lag) top
    → ((later : ℕ) (r : List ℕ) → next_out_of w ≤ later → log_of C M later ys r ≡ log_of C M (next_out_of w) (drop 14 w) r)
    → place_in C M (set (set (set (take 14 w ++ ys) 0 out) 6 end) 4 1) b' ≡ on_stored (taken_over lag) (place_in C M w b)
unfolding place_in session_of next_out_of stored_flight durable_of stamp_of marks_of stored_key
taken_at C M lag end out b b' ys w (header a0 a1 a2 a3 a4 a5 a6 a7 a8 a9 a10 a11 a12 a13 ws) o le em ht eo el =
    let v : List ℕ = a0 ∷ a1 ∷ a2 ∷ a3 ∷ a4 ∷ a5 ∷ a6 ∷ a7 ∷ a8 ∷ a9 ∷ a10 ∷ a11 ∷ a12 ∷ a13 ∷ ws in
    let next : ℕ = max a0 1 in
    let one : 1 ≤ next = omega arith in
    let go : max out 1 ≡ cond (ltb 0 lag) (min (next + lag) top) next = ap (λ (k : ℕ). max k 1) eo ∙ skip next lag one ht in
    let up : next ≤ max out 1 = omega (arith, eo) in
    let m : List ℕ = or_none (is_marks (field b 160 64 a6)) (field b 160 64 a6) in
    let f : field b' 160 64 end ≡ with_b m = cut_field b' end le ∙ em in
    let ok : is_marks (with_b m) ≡ true = marks_b m (marks_marks v b) in
    let s : or_none (is_marks (field b' 160 64 end)) (field b' 160 64 end) ≡ with_b m = ap (λ (x : List ℕ). or_none (is_marks x) x) f ∙ ap (λ (j : Bool). or_none j (with_b m)) ok in
    let ms : log_of C M (max out 1) ys (drop 224 b') ≡ log_of C M next ws (drop 224 b) =
    el (max out 1) (drop 224 b') up ∙ ap (log_of C M next ws) (only_after 160 224 224 b b' o (omega arith)) in
    λ i. record {
      key = key_kept 160 224 v b b' o (omega arith) i;
      stored = record {
        session = record {
          stamp = stamp_kept 160 224 v b b' o (inl (omega arith)) i;
          next_out = go i;
          next_in = a1;
          in_flight = stored_flight v;
          marks = s i;
          messages = ms i;
        };
        durable = true;
      };
    }

pub taken : (C M lag end out next n : ℕ) (b b' ys w : List ℕ) → 14 ≤ length w → length ys ≡ length (mid_of 14 (length w - 14) w) → Only 160 224 b b'
    → end ≤ 64 → take n (drop 160 b) ≡ marks_of w b → take end (drop 160 b') ≡ with_b (take n (drop 160 b)) → next ≤ top → next ≡ next_out_of w → out ≡ min (next + lag) top
    → ((D later : ℕ) (r : List ℕ) → next ≤ later → log_of D M later ys r ≡ log_of D M next (mid_of 14 (length w - 14) w) r)
    → place_in C M (set (set (set (put_mid 14 (length w - 14) w ys) 0 out) 6 end) 4 1) b' ≡ on_stored (taken_over lag) (place_in C M w b)
taken C M lag end out next n b b' ys w h sw o le em eb ht en eo el =
    let ew : mid_of 14 (length w - 14) w ≡ drop 14 w = take_all (length w - 14) (drop 14 w) (omega (arith, length-drop 14 w)) in
    ap (λ (v : List ℕ). place_in C M (set (set (set v 0 out) 6 end) 4 1) b') (put_tail 14 w ys h sw)
    ∙ taken_at C M lag end out b b' ys w (header_of w h) o le (eb ∙ ap with_b em) (rw (← en) ht) (rw (← en) eo)
    (λ later r g. el C later r (omega (arith, en)) ∙ (λ i. log_of C M (en i) (ew i) r))
