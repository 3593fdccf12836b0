-- What the changes that touch the log or the texts leave. Assumes nothing.
use mathlib.Core.Path.{◌≡◌, sym, ap, ◌∙◌}
use mathlib.Core.Bool.{Bool, true, false}
use mathlib.Core.Logic.{◌⊎◌, inl, inr}
use mathlib.Core.List.{List, [], ◌∷◌, ◌++◌, append-nil}
use mathlib.Core.Option.{none}
use Prim.Native.Nat.{ℕ, suc, ◌+◌, ◌-◌, ◌≤◌, max}
use native.Mathlib.Omega.{arith}
use lib.ListN.{length, take, drop, get_or, set, drop_of_length-le, length-drop}
use lib.Seq.{drop_at, length-take-le, take_all}
use borrow.Rule.Slice.PartMut.{mid_of, post_of, put_mid, mid_len}
use Rattle.model_text.specs.Printable.{is_marks, is_printable}
use Rattle.model_text.specs.Stamp.{has_digits, is_stamp}
use Rattle.model_frame.specs.Frame.{record_msg, record_bare, reset, set_created_at, set_marks}
use Rattle.model_session.specs.Session.{apply, keep}
use Rattle.model_standby.specs.Store.{on_stored, changed}
use Rattle.store_log.specs.Log.{log_of, msg}
use Rattle.store_place.specs.Only.{Only}
use Rattle.store_place.specs.Place.{next_out_of, stored_flight, durable_of, field, stamp_of, marks_of, stored_key, session_of, place_in, PutText}
use Rattle.store_place.proofs.Header.{Header, header, header_of}
use Rattle.store_place.proofs.Fields.{only_put, only_after, field_kept}
use Rattle.store_place.proofs.Texts.{or_none}
use Rattle.store_place.proofs.Changes.{with_session, unmarked}

-- ---- the bytes: what changes from a to e leaves the texts elsewhere

module _ (a e : ℕ) (w b b' : List ℕ) (o : Only a e b b') where
  pub key_kept : 128 ≤ a → stored_key w b' ≡ stored_key w b
  unfolding stored_key
  key_kept h = λ i. record {
    begin = field_kept a e 0 32 (get_or w 7 0) b b' o (inl (omega arith)) i;
    sender = field_kept a e 32 32 (get_or w 8 0) b b' o (inl (omega arith)) i;
    target = field_kept a e 64 32 (get_or w 9 0) b b' o (inl (omega arith)) i;
    suffix = field_kept a e 96 32 (get_or w 10 0) b b' o (inl (omega arith)) i;
  }

  pub stamp_kept : (160 ≤ a) ⊎ (e ≤ 128) → stamp_of w b' ≡ stamp_of w b
  unfolding stamp_of
  stamp_kept h = ap (λ (f : List ℕ). or_none (is_stamp f) f) (field_kept a e 128 32 (get_or w 5 0) b b' o h)

  pub marks_kept : (224 ≤ a) ⊎ (e ≤ 160) → marks_of w b' ≡ marks_of w b
  unfolding marks_of
  marks_kept h = ap (λ (f : List ℕ). or_none (is_marks f) f) (field_kept a e 160 64 (get_or w 6 0) b b' o h)

-- a part from a to the end that is put back
pub put_tail : (a : ℕ) (l ys : List ℕ) → a ≤ length l → length ys ≡ length (mid_of a (length l - a) l) → put_mid a (length l - a) l ys ≡ take a l ++ ys
put_tail a l ys h same =
    let none : post_of a (length l - a) l ≡ [] = drop_of_length-le (drop a l) (rest a l) in
    ap (λ (t : List ℕ). take a l ++ (ys ++ t)) none ∙ ap (λ (t : List ℕ). take a l ++ t) (append-nil ys)
  where
    rest : (a : ℕ) (l : List ℕ) → length (drop a l) ≤ length l - a
    rest a l = omega (arith, length-drop a l)

pub drop_tail : (a : ℕ) (l ys : List ℕ) → a ≤ length l → drop a (take a l ++ ys) ≡ ys
drop_tail a l ys h = drop_at (take a l) ys a (length-take-le a l h)

-- ---- Record

recorded_at : (C M q : ℕ) (x b b' zs ys w : List ℕ) → Header w → Only 224 (length b) b b' → drop 224 b' ≡ zs → q ≡ next_out_of w
    → log_of C M (q + 1) ys zs ≡ keep C M (msg q x) (log_of C M q (drop 14 w) (drop 224 b))
    → place_in C M (set (set (take 14 w ++ ys) 0 (q + 1)) 4 0) b' ≡ with_session (apply C M (record_msg q x) (session_of C M w b)) (place_in C M w b)
unfolding place_in session_of next_out_of stored_flight durable_of stamp_of marks_of stored_key apply
recorded_at C M q x b b' zs ys w (header a0 a1 a2 a3 a4 a5 a6 a7 a8 a9 a10 a11 a12 a13 ws) o ez eq el =
    let v : List ℕ = a0 ∷ a1 ∷ a2 ∷ a3 ∷ a4 ∷ a5 ∷ a6 ∷ a7 ∷ a8 ∷ a9 ∷ a10 ∷ a11 ∷ a12 ∷ a13 ∷ ws in
    let one : max (q + 1) 1 ≡ q + 1 = omega arith in
    let more : max (q + 1) 1 ≡ suc q = omega arith in
    let ms : log_of C M (max (q + 1) 1) ys (drop 224 b') ≡ keep C M (msg q x) (log_of C M (max a0 1) ws (drop 224 b)) =
    (λ i. log_of C M (one i) ys (ez i)) ∙ el ∙ (λ i. keep C M (msg q x) (log_of C M (eq i) ws (drop 224 b))) in
    λ i. record {
      key = key_kept 224 (length b) v b b' o (omega arith) i;
      stored = record {
        session = record {
          stamp = stamp_kept 224 (length b) v b b' o (inl (omega arith)) i;
          next_out = more i;
          next_in = a1;
          in_flight = stored_flight v;
          marks = marks_kept 224 (length b) v b b' o (inl (omega arith)) i;
          messages = ms i;
        };
        durable = false;
      };
    }

-- as the code leaves the slices
pub recorded : (C M q : ℕ) (x b zs ys w : List ℕ) → 14 ≤ length w → length b ≡ 224 + C → length ys ≡ length (mid_of 14 (length w - 14) w) → length zs ≡ length (mid_of 224 (length b - 224) b) → q ≡ next_out_of w
    → log_of (length (mid_of 224 (length b - 224) b)) M (q + 1) ys zs ≡ keep (length (mid_of 224 (length b - 224) b)) M (msg q x) (log_of (length (mid_of 224 (length b - 224) b)) M q (mid_of 14 (length w - 14) w) (mid_of 224 (length b - 224) b))
    → place_in C M (set (set (put_mid 14 (length w - 14) w ys) 0 (q + 1)) 4 0) (put_mid 224 (length b - 224) b zs) ≡ on_stored (changed C M (record_msg q x ∷ [])) (place_in C M w b)
unfolding place_in
recorded C M q x b zs ys w h lb sw sb eq el =
    let c : List ℕ = put_mid 224 (length b - 224) b zs in
    let o : Only 224 (length b) b c = only_put 224 (length b) b zs (omega arith) (omega arith) sb in
    let ez : drop 224 c ≡ zs = ap (drop 224) (put_tail 224 b zs (omega arith) sb) ∙ drop_tail 224 b zs (omega arith) in
    let ew : mid_of 14 (length w - 14) w ≡ drop 14 w = take_all (length w - 14) (drop 14 w) (omega (arith, length-drop 14 w)) in
    let eb : mid_of 224 (length b - 224) b ≡ drop 224 b = take_all (length b - 224) (drop 224 b) (omega (arith, length-drop 224 b)) in
    let ec : length (mid_of 224 (length b - 224) b) ≡ C = mid_len 224 (length b) b (omega arith) ∙ omega arith in
    let log : log_of C M (q + 1) ys zs ≡ keep C M (msg q x) (log_of C M q (drop 14 w) (drop 224 b)) =
    (λ i. log_of (sym ec i) M (q + 1) ys zs) ∙ el ∙ (λ i. keep (ec i) M (msg q x) (log_of (ec i) M q (ew i) (eb i))) in
    ap (λ (v : List ℕ). place_in C M (set (set v 0 (q + 1)) 4 0) c) (put_tail 14 w ys h sw)
    ∙ recorded_at C M q x b c zs ys w (header_of w h) o ez eq log ∙ unmarked C M (record_msg q x) (place_in C M w b)

bare_at : (C M q : ℕ) (b ys w : List ℕ) → Header w
    → log_of C M (q + 1) ys (drop 224 b) ≡ log_of C M (next_out_of w) (drop 14 w) (drop 224 b)
    → place_in C M (set (set (take 14 w ++ ys) 0 (q + 1)) 4 0) b ≡ with_session (apply C M (record_bare q) (session_of C M w b)) (place_in C M w b)
unfolding place_in session_of next_out_of stored_flight durable_of stamp_of marks_of stored_key apply
bare_at C M q b ys w (header a0 a1 a2 a3 a4 a5 a6 a7 a8 a9 a10 a11 a12 a13 ws) el =
    let v : List ℕ = a0 ∷ a1 ∷ a2 ∷ a3 ∷ a4 ∷ a5 ∷ a6 ∷ a7 ∷ a8 ∷ a9 ∷ a10 ∷ a11 ∷ a12 ∷ a13 ∷ ws in
    let one : max (q + 1) 1 ≡ q + 1 = omega arith in
    let more : max (q + 1) 1 ≡ suc q = omega arith in
    let ms : log_of C M (max (q + 1) 1) ys (drop 224 b) ≡ log_of C M (max a0 1) ws (drop 224 b) = (λ i. log_of C M (one i) ys (drop 224 b)) ∙ el in
    λ i. record {
      key = stored_key v b;
      stored = record {
        session = record { stamp = stamp_of v b; next_out = more i; next_in = a1; in_flight = stored_flight v; marks = marks_of v b; messages = ms i };
        durable = false;
      };
    }

pub bare : (C M q : ℕ) (b ys w : List ℕ) → 14 ≤ length w → length ys ≡ length (mid_of 14 (length w - 14) w)
    → log_of C M (q + 1) ys (drop 224 b) ≡ log_of C M (next_out_of w) (mid_of 14 (length w - 14) w) (drop 224 b)
    → place_in C M (set (set (put_mid 14 (length w - 14) w ys) 0 (q + 1)) 4 0) b ≡ on_stored (changed C M (record_bare q ∷ [])) (place_in C M w b)
unfolding place_in
bare C M q b ys w h sw el =
    let ew : mid_of 14 (length w - 14) w ≡ drop 14 w = take_all (length w - 14) (drop 14 w) (omega (arith, length-drop 14 w)) in
    ap (λ (v : List ℕ). place_in C M (set (set v 0 (q + 1)) 4 0) b) (put_tail 14 w ys h sw)
    ∙ bare_at C M q b ys w (header_of w h) (el ∙ ap (λ (v : List ℕ). log_of C M (next_out_of w) v (drop 224 b)) ew) ∙ unmarked C M (record_bare q) (place_in C M w b)

-- ---- Reset

cleared_at : (C M : ℕ) (b ys w : List ℕ) → Header w → ((next : ℕ) (r : List ℕ) → log_of C M next ys r ≡ [])
    → place_in C M (set (set (set (set (set (set (take 14 w ++ ys) 0 1) 1 1) 2 0) 4 0) 5 0) 6 0) b ≡ with_session (apply C M reset (session_of C M w b)) (place_in C M w b)
unfolding place_in session_of next_out_of stored_flight durable_of field stamp_of marks_of stored_key apply is_stamp has_digits is_marks is_printable
cleared_at C M b ys w (header a0 a1 a2 a3 a4 a5 a6 a7 a8 a9 a10 a11 a12 a13 ws) el =
    let v : List ℕ = a0 ∷ a1 ∷ a2 ∷ a3 ∷ a4 ∷ a5 ∷ a6 ∷ a7 ∷ a8 ∷ a9 ∷ a10 ∷ a11 ∷ a12 ∷ a13 ∷ ws in
    λ i. record {
      key = stored_key v b;
      stored = record {
        session = record { stamp = []; next_out = 1; next_in = 1; in_flight = none; marks = []; messages = el 1 (drop 224 b) i };
        durable = false;
      };
    }

pub cleared : (C M : ℕ) (b ys w : List ℕ) → 14 ≤ length w → length ys ≡ length (mid_of 14 (length w - 14) w) → ((next : ℕ) (r : List ℕ) → log_of C M next ys r ≡ [])
    → place_in C M (set (set (set (set (set (set (put_mid 14 (length w - 14) w ys) 0 1) 1 1) 2 0) 4 0) 5 0) 6 0) b ≡ on_stored (changed C M (reset ∷ [])) (place_in C M w b)
unfolding place_in
cleared C M b ys w h sw el =
    ap (λ (v : List ℕ). place_in C M (set (set (set (set (set (set v 0 1) 1 1) 2 0) 4 0) 5 0) 6 0) b) (put_tail 14 w ys h sw)
    ∙ cleared_at C M b ys w (header_of w h) el ∙ unmarked C M reset (place_in C M w b)

-- ---- the texts

stamped_at : (C M : ℕ) (x b b' w : List ℕ) → Header w → PutText 128 32 x b b' → is_stamp x ≡ true
    → place_in C M (set (set w 5 (length x)) 4 0) b' ≡ with_session (apply C M (set_created_at x) (session_of C M w b)) (place_in C M w b)
unfolding place_in session_of next_out_of stored_flight durable_of stamp_of marks_of stored_key apply
stamped_at C M x b b' w (header a0 a1 a2 a3 a4 a5 a6 a7 a8 a9 a10 a11 a12 a13 ws) p t =
    let v : List ℕ = a0 ∷ a1 ∷ a2 ∷ a3 ∷ a4 ∷ a5 ∷ a6 ∷ a7 ∷ a8 ∷ a9 ∷ a10 ∷ a11 ∷ a12 ∷ a13 ∷ ws in
    let s : or_none (is_stamp (field b' 128 32 (length x))) (field b' 128 32 (length x)) ≡ x =
    ap (λ (f : List ℕ). or_none (is_stamp f) f) p.holds ∙ ap (λ (j : Bool). or_none j x) t in
    λ i. record {
      key = key_kept 128 160 v b b' p.only (omega arith) i;
      stored = record {
        session = record {
          stamp = s i;
          next_out = max a0 1;
          next_in = a1;
          in_flight = stored_flight v;
          marks = marks_kept 128 160 v b b' p.only (inr (omega arith)) i;
          messages = log_of C M (max a0 1) ws (only_after 128 160 224 b b' p.only (omega arith) i);
        };
        durable = false;
      };
    }

pub stamped : (C M : ℕ) (x b b' w : List ℕ) → 14 ≤ length w → PutText 128 32 x b b' → is_stamp x ≡ true
    → place_in C M (set (set w 5 (length x)) 4 0) b' ≡ on_stored (changed C M (set_created_at x ∷ [])) (place_in C M w b)
unfolding place_in
stamped C M x b b' w h p t = stamped_at C M x b b' w (header_of w h) p t ∙ unmarked C M (set_created_at x) (place_in C M w b)

marks_set_at : (C M : ℕ) (x b b' w : List ℕ) → Header w → PutText 160 64 x b b' → is_marks x ≡ true
    → place_in C M (set (set w 6 (length x)) 4 0) b' ≡ with_session (apply C M (set_marks x) (session_of C M w b)) (place_in C M w b)
unfolding place_in session_of next_out_of stored_flight durable_of stamp_of marks_of stored_key apply
marks_set_at C M x b b' w (header a0 a1 a2 a3 a4 a5 a6 a7 a8 a9 a10 a11 a12 a13 ws) p t =
    let v : List ℕ = a0 ∷ a1 ∷ a2 ∷ a3 ∷ a4 ∷ a5 ∷ a6 ∷ a7 ∷ a8 ∷ a9 ∷ a10 ∷ a11 ∷ a12 ∷ a13 ∷ ws in
    let s : or_none (is_marks (field b' 160 64 (length x))) (field b' 160 64 (length x)) ≡ x =
    ap (λ (f : List ℕ). or_none (is_marks f) f) p.holds ∙ ap (λ (j : Bool). or_none j x) t in
    λ i. record {
      key = key_kept 160 224 v b b' p.only (omega arith) i;
      stored = record {
        session = record {
          stamp = stamp_kept 160 224 v b b' p.only (inl (omega arith)) i;
          next_out = max a0 1;
          next_in = a1;
          in_flight = stored_flight v;
          marks = s i;
          messages = log_of C M (max a0 1) ws (only_after 160 224 224 b b' p.only (omega arith) i);
        };
        durable = false;
      };
    }

pub marks_set : (C M : ℕ) (x b b' w : List ℕ) → 14 ≤ length w → PutText 160 64 x b b' → is_marks x ≡ true
    → place_in C M (set (set w 6 (length x)) 4 0) b' ≡ on_stored (changed C M (set_marks x ∷ [])) (place_in C M w b)
unfolding place_in
marks_set C M x b b' w h p t = marks_set_at C M x b b' w (header_of w h) p t ∙ unmarked C M (set_marks x) (place_in C M w b)
