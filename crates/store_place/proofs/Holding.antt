-- WHATEVER A PLACE HOLDS is a session that the store can hold; and every such session is that of some words and bytes. Assumes nothing.
use mathlib.Core.Path.{◌≡◌, refl, sym, ap, ◌∙◌}
use mathlib.Core.Bool.{Bool, true, false, cond, not}
use mathlib.Core.List.{List, [], ◌∷◌, ◌++◌, append_assoc}
use mathlib.Core.Option.{Option, none, some}
use Prim.Native.Nat.{ℕ, zero, suc, ◌+◌, ◌-◌, ◌*◌, ◌^◌, ◌≤◌, ◌<◌, min, max}
use native.Mathlib.Omega.{arith}
use borrow.Author.Tests.{le-leb}
use lib.Dec.{T, eqb, leb→le}
use lib.ListN.{length, take, drop, get_or, length-append, length-replicate}
use lib.Seq.{take_at, drop_at, drop-drop}
use Rattle.model_text.specs.Printable.{is_printable_byte, all_printable, is_marks, is_key}
use Rattle.model_text.specs.Stamp.{is_stamp}
use Rattle.model_text.proofs.Formed.{and_l, and_r}
use Rattle.model_text.proofs.Laws.{plain_bounds, stamp_is, marks_is, key_is}
use Rattle.model_frame.specs.Frame.{Key}
use Rattle.model_session.specs.Session.{Session, Holdable, is_stamp_or_none, small_flight}
use Rattle.model_standby.specs.Store.{Place}
use Rattle.store_log.specs.Log.{log_of, Lawful}
use Rattle.store_log.proofs.Lawful.{Small, small_drop, small_append, lawful}
use Rattle.store_log.proofs.Onto.{zeros, small_zeros, Held, held}
use Rattle.store_place.specs.Place.{next_out_of, stored_flight, durable_of, field, stamp_of, marks_of, stored_key, session_of, place_in}
use Rattle.store_place.proofs.Texts.{or_none}
use Rattle.store_place.proofs.Promotion.{marks_marks}

truth : {t : Bool} → t ≡ true → T t
truth e = rw e tt

-- ---- every content

stamp_or_none : (f : List ℕ) (t : Bool) → is_stamp f ≡ t → T (is_stamp_or_none (or_none t f))
stamp_or_none f false e = tt
stamp_or_none [] true e = tt
stamp_or_none (x ∷ f) true e = truth e

flight_small : (t : Bool) (n : ℕ) → n < 2 ^ 64 → T (small_flight (cond t none (some n)))
flight_small true n h = tt
flight_small false n h = truth (le-leb n 18446744073709551615 (omega arith))

pub holdable : (C M : ℕ) (w b : List ℕ) → Small (2 ^ 64) w → Small 256 b → Holdable C M (session_of C M w b)
unfolding session_of next_out_of stored_flight stamp_of
holdable C M w b sw sb =
    let l : Lawful C M (max (get_or w 0 0) 1) (log_of C M (max (get_or w 0 0) 1) (drop 14 w) (drop 224 b)) = lawful C M (max (get_or w 0 0) 1) (drop 14 w) (drop 224 b) (small_drop 224 b sb) in
    record {
      stamp_ok = stamp_or_none (field b 128 32 (get_or w 5 0)) (is_stamp (field b 128 32 (get_or w 5 0))) refl;
      out_low = omega arith;
      out_high = omega (arith, sw 0);
      inc_high = omega (arith, sw 1);
      flight_high = flight_small (eqb (get_or w 2 0) 0) (get_or w 3 0) (sw 3);
      marks_ok = truth (marks_marks w b);
      msgs_rise = l.rising;
      msgs_bytes = l.bytes;
      msgs_count = l.count;
    }

-- ---- every session

pub record Kept (C M : ℕ) (p : Place) : Type 0 where
  pub words : List ℕ
  pub bytes : List ℕ
  pub words_long : length words ≡ 16 + 2 * M
  pub bytes_long : length bytes ≡ 224 + C
  pub words_fit : Small (2 ^ 64) words
  pub bytes_fit : Small 256 bytes
  pub is : place_in C M words bytes ≡ p

-- a text that a key field holds
pub record Short (size : ℕ) (x : List ℕ) : Type 0 where
  pub most : length x ≤ size
  pub small : Small 256 x

pub record ShortKey (k : Key) : Type 0 where
  pub begin_short : Short 32 k.begin
  pub sender_short : Short 32 k.sender
  pub target_short : Short 32 k.target
  pub suffix_short : Short 32 k.suffix

small_cons : {n : ℕ} (x : ℕ) (l : List ℕ) → x < n → Small n l → Small n (x ∷ l)
small_cons x l h s zero = h
small_cons x l h s (suc i) = s i

-- a text with zeros behind it
abbrev pad : ℕ → List ℕ → List ℕ
pad size x = x ++ zeros (size - length x)

pad_long : (size : ℕ) (x : List ℕ) → length x ≤ size → length (pad size x) ≡ size
pad_long size x h = length-append x (zeros (size - length x)) ∙ ap (λ (n : ℕ). length x + n) (length-replicate (size - length x) 0) ∙ omega arith

pad_small : (size : ℕ) (x : List ℕ) → Small 256 x → Small 256 (pad size x)
pad_small size x h = small_append x (zeros (size - length x)) h (small_zeros (size - length x) (omega arith))

pad_field : (b r x : List ℕ) (at size : ℕ) → drop at b ≡ pad size x ++ r → length x ≤ size → field b at size (length x) ≡ x
unfolding field
pad_field b r x at size e h =
    let m : min (length x) size ≡ length x = omega arith in
    (λ i. take (m i) (e i)) ∙ ap (take (length x)) (append_assoc x (zeros (size - length x)) r) ∙ take_at x (zeros (size - length x) ++ r) (length x) refl

pad_past : (b r x : List ℕ) (at size : ℕ) → drop at b ≡ pad size x ++ r → length x ≤ size → drop (at + size) b ≡ r
pad_past b r x at size e h = sym (drop-drop size at b) ∙ ap (drop size) e ∙ drop_at (pad size x) r size (pad_long size x h)

flag_of : Option ℕ → ℕ
flag_of none = 0
flag_of (some f) = 1

number_of : Option ℕ → ℕ
number_of none = 0
number_of (some f) = f

word_of : Bool → ℕ
word_of true = 1
word_of false = 0

flight_back : (o : Option ℕ) → cond (eqb (flag_of o) 0) none (some (number_of o)) ≡ o
unfolding flag_of number_of
flight_back none = refl
flight_back (some f) = refl

flag_small : (o : Option ℕ) → flag_of o < 2 ^ 64
unfolding flag_of
flag_small none = omega arith
flag_small (some f) = omega arith

number_small : (o : Option ℕ) → T (small_flight o) → number_of o < 2 ^ 64
unfolding number_of
number_small none h = omega arith
number_small (some f) h = omega (arith, leb→le f 18446744073709551615 h)

word_back : (d : Bool) → not (eqb (word_of d) 0) ≡ d
unfolding word_of
word_back true = refl
word_back false = refl

word_small : (d : Bool) → word_of d < 2 ^ 64
unfolding word_of
word_small true = omega arith
word_small false = omega arith

true_of : (t : Bool) → T t → t ≡ true
true_of true h = refl
true_of false h = absurd h

none_back : (t : Bool) → or_none t [] ≡ []
none_back true = refl
none_back false = refl

stamp_back : (s : List ℕ) → T (is_stamp_or_none s) → or_none (is_stamp s) s ≡ s
stamp_back [] h = none_back (is_stamp [])
stamp_back (x ∷ s) h = ap (λ (t : Bool). or_none t (x ∷ s)) (true_of (is_stamp (x ∷ s)) h)

stamp_short : (s : List ℕ) → T (is_stamp_or_none s) → length s ≤ 32
stamp_short [] h = omega arith
stamp_short (x ∷ s) h = omega (arith, (stamp_is (x ∷ s) (true_of (is_stamp (x ∷ s)) h)).most)

plain_small : (s : List ℕ) → all_printable s ≡ true → Small 256 s
plain_small [] e i = omega arith
plain_small (x ∷ s) e zero = omega (arith, (plain_bounds x (and_l (is_printable_byte x) (all_printable s) e)).1)
plain_small (x ∷ s) e (suc i) = plain_small s (and_r (is_printable_byte x) (all_printable s) e) i

stamp_small : (s : List ℕ) → T (is_stamp_or_none s) → Small 256 s
stamp_small [] h i = omega arith
stamp_small (x ∷ s) h i = plain_small (x ∷ s) (stamp_is (x ∷ s) (true_of (is_stamp (x ∷ s)) h)).plain i

-- a valid key
pub key_short : (k : Key) → is_key k.begin k.sender k.target k.suffix ≡ true → ShortKey k
key_short k e =
    let p = key_is k.begin k.sender k.target k.suffix e in
    record {
      begin_short = record { most = p.0.most; small = plain_small k.begin p.0.plain };
      sender_short = record { most = p.1.most; small = plain_small k.sender p.1.plain };
      target_short = record { most = p.2.most; small = plain_small k.target p.2.plain };
      suffix_short = record { most = p.3.most; small = plain_small k.suffix p.3.plain };
    }

module _ (C M : ℕ) (hC : C < 2 ^ 64) (hM : M < 2 ^ 64) (k : Key) (s : Session) (d : Bool) (ks : ShortKey k) (h : Holdable C M s) where
  log : Held C M s.next_out s.messages
  log = held C M hC hM s.next_out s.messages h.out_low (omega (arith, h.out_high)) (record { rising = h.msgs_rise; count = h.msgs_count; bytes = h.msgs_bytes })

  marks_true : is_marks s.marks ≡ true
  marks_true = true_of (is_marks s.marks) h.marks_ok

  stamp_most : length s.stamp ≤ 32
  stamp_most = stamp_short s.stamp h.stamp_ok

  marks_most : length s.marks ≤ 64
  marks_most = (marks_is s.marks marks_true).most

  abbrev lens : List ℕ
  lens = length s.stamp ∷ length s.marks ∷ length k.begin ∷ length k.sender ∷ length k.target ∷ length k.suffix ∷ 0 ∷ 0 ∷ 0 ∷ log.words

  abbrev words : List ℕ
  words = s.next_out ∷ s.next_in ∷ flag_of s.in_flight ∷ number_of s.in_flight ∷ word_of d ∷ lens

  abbrev b6 : List ℕ
  b6 = log.bytes

  abbrev b5 : List ℕ
  b5 = pad 64 s.marks ++ b6

  abbrev b4 : List ℕ
  b4 = pad 32 s.stamp ++ b5

  abbrev b3 : List ℕ
  b3 = pad 32 k.suffix ++ b4

  abbrev b2 : List ℕ
  b2 = pad 32 k.target ++ b3

  abbrev b1 : List ℕ
  b1 = pad 32 k.sender ++ b2

  abbrev bytes : List ℕ
  bytes = pad 32 k.begin ++ b1

  words_small : Small (2 ^ 64) words
  words_small =
      small_cons s.next_out (s.next_in ∷ flag_of s.in_flight ∷ number_of s.in_flight ∷ word_of d ∷ lens) (omega (arith, h.out_high))
      (small_cons s.next_in (flag_of s.in_flight ∷ number_of s.in_flight ∷ word_of d ∷ lens) (omega (arith, h.inc_high))
      (small_cons (flag_of s.in_flight) (number_of s.in_flight ∷ word_of d ∷ lens) (flag_small s.in_flight)
      (small_cons (number_of s.in_flight) (word_of d ∷ lens) (number_small s.in_flight h.flight_high)
      (small_cons (word_of d) lens (word_small d)
      (small_cons (length s.stamp) (length s.marks ∷ length k.begin ∷ length k.sender ∷ length k.target ∷ length k.suffix ∷ 0 ∷ 0 ∷ 0 ∷ log.words) (omega (arith, stamp_most))
      (small_cons (length s.marks) (length k.begin ∷ length k.sender ∷ length k.target ∷ length k.suffix ∷ 0 ∷ 0 ∷ 0 ∷ log.words) (omega (arith, marks_most))
      (small_cons (length k.begin) (length k.sender ∷ length k.target ∷ length k.suffix ∷ 0 ∷ 0 ∷ 0 ∷ log.words) (omega (arith, ks.begin_short.most))
      (small_cons (length k.sender) (length k.target ∷ length k.suffix ∷ 0 ∷ 0 ∷ 0 ∷ log.words) (omega (arith, ks.sender_short.most))
      (small_cons (length k.target) (length k.suffix ∷ 0 ∷ 0 ∷ 0 ∷ log.words) (omega (arith, ks.target_short.most))
      (small_cons (length k.suffix) (0 ∷ 0 ∷ 0 ∷ log.words) (omega (arith, ks.suffix_short.most))
      (small_cons 0 (0 ∷ 0 ∷ log.words) (omega arith) (small_cons 0 (0 ∷ log.words) (omega arith) (small_cons 0 log.words (omega arith) log.words_fit)))))))))))))

  bytes_small_all : Small 256 bytes
  bytes_small_all =
      small_append (pad 32 k.begin) b1 (pad_small 32 k.begin ks.begin_short.small)
      (small_append (pad 32 k.sender) b2 (pad_small 32 k.sender ks.sender_short.small)
      (small_append (pad 32 k.target) b3 (pad_small 32 k.target ks.target_short.small)
      (small_append (pad 32 k.suffix) b4 (pad_small 32 k.suffix ks.suffix_short.small)
      (small_append (pad 32 s.stamp) b5 (pad_small 32 s.stamp (stamp_small s.stamp h.stamp_ok))
      (small_append (pad 64 s.marks) b6 (pad_small 64 s.marks (plain_small s.marks (marks_is s.marks marks_true).plain)) log.bytes_fit)))))

  bytes_all : length bytes ≡ 224 + C
  bytes_all =
      omega (
        arith,
        length-append (pad 32 k.begin) b1,
        length-append (pad 32 k.sender) b2,
        length-append (pad 32 k.target) b3,
        length-append (pad 32 k.suffix) b4,
        length-append (pad 32 s.stamp) b5,
        length-append (pad 64 s.marks) b6,
        pad_long 32 k.begin ks.begin_short.most,
        pad_long 32 k.sender ks.sender_short.most,
        pad_long 32 k.target ks.target_short.most,
        pad_long 32 k.suffix ks.suffix_short.most,
        pad_long 32 s.stamp stamp_most,
        pad_long 64 s.marks marks_most,
        log.bytes_long,
      )

  -- where each text begins
  d1 : drop 32 bytes ≡ b1
  d1 = pad_past bytes b1 k.begin 0 32 refl ks.begin_short.most

  d2 : drop 64 bytes ≡ b2
  d2 = pad_past bytes b2 k.sender 32 32 d1 ks.sender_short.most

  d3 : drop 96 bytes ≡ b3
  d3 = pad_past bytes b3 k.target 64 32 d2 ks.target_short.most

  d4 : drop 128 bytes ≡ b4
  d4 = pad_past bytes b4 k.suffix 96 32 d3 ks.suffix_short.most

  d5 : drop 160 bytes ≡ b5
  d5 = pad_past bytes b5 s.stamp 128 32 d4 stamp_most

  d6 : drop 224 bytes ≡ b6
  d6 = pad_past bytes b6 s.marks 160 64 d5 marks_most

  is_place : place_in C M words bytes ≡ record { key = k; stored = record { session = s; durable = d } }
  unfolding place_in session_of stored_key stamp_of marks_of next_out_of stored_flight durable_of
  is_place =
      let out : max s.next_out 1 ≡ s.next_out = omega (arith, h.out_low) in
      let f : field bytes 128 32 (length s.stamp) ≡ s.stamp = pad_field bytes b5 s.stamp 128 32 d4 stamp_most in
      let g : field bytes 160 64 (length s.marks) ≡ s.marks = pad_field bytes b6 s.marks 160 64 d5 marks_most in
      let st : or_none (is_stamp (field bytes 128 32 (length s.stamp))) (field bytes 128 32 (length s.stamp)) ≡ s.stamp = ap (λ (x : List ℕ). or_none (is_stamp x) x) f ∙ stamp_back s.stamp h.stamp_ok in
      let mk : or_none (is_marks (field bytes 160 64 (length s.marks))) (field bytes 160 64 (length s.marks)) ≡ s.marks = ap (λ (x : List ℕ). or_none (is_marks x) x) g ∙ ap (λ (t : Bool). or_none t s.marks) marks_true in
      let ms : log_of C M (max s.next_out 1) log.words (drop 224 bytes) ≡ s.messages = (λ i. log_of C M (out i) log.words (d6 i)) ∙ log.is s.next_out (omega arith) in
      λ i. record {
        key = record {
          begin = pad_field bytes b1 k.begin 0 32 refl ks.begin_short.most i;
          sender = pad_field bytes b2 k.sender 32 32 d1 ks.sender_short.most i;
          target = pad_field bytes b3 k.target 64 32 d2 ks.target_short.most i;
          suffix = pad_field bytes b4 k.suffix 96 32 d3 ks.suffix_short.most i;
        };
        stored = record {
          session = record { stamp = st i; next_out = out i; next_in = s.next_in; in_flight = flight_back s.in_flight i; marks = mk i; messages = ms i };
          durable = word_back d i;
        };
      }

  pub kept : Kept C M (record { key = k; stored = record { session = s; durable = d } })
  kept = record {
    words = words;
    bytes = bytes;
    words_long = omega (arith, log.words_long);
    bytes_long = bytes_all;
    words_fit = words_small;
    bytes_fit = bytes_small_all;
    is = is_place;
  }
